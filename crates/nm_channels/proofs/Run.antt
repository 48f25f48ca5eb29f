-- From each two ranks to the whole run.
use Rattle.std.proofs.Common.{◌≡◌, ℕ, ◌+◌, ◌<◌, ◌==◌, Bool, true, false, ◌&&◌, cond, Option, Some, None, List, []}
use Rattle.std.proofs.Common.{◌∷◌, ◌++◌, length, map, refl, sym, ◌∙◌, ap, subst, append_assoc, arith, get_or}
use Rattle.std.specs.Prelude.{IfSome, IsSomeAnd, nat_lt, option_map}
use Rattle.std.specs.List.{AllByRecursion, find, list_all, slice_get}
use Rattle.std.proofs.lemmas.Option.{slice_get-map, slice_get-get_or}
use Rattle.std.proofs.lemmas.List.Elements.{All-from_recursion}
use Rattle.std.proofs.lemmas.Bool.Decides.{nat_tests}
use Rattle.std.proofs.lemmas.List.{length-map}
use Rattle.nm_types.specs.declared.scripts.Command.{Command}
use Rattle.nm_types.specs.declared.scripts.Command.TheVariants as command
use Rattle.nm_types.specs.declared.scripts.Line.{Line}
use Rattle.nm_types.specs.Commands.{Numbered, command_at, commands_of, commands_from}
use Rattle.nm_types.specs.Limits.{IsScript, is_in_range}
use Rattle.nm_types.specs.Sizes.{Sizes}
use Rattle.nm_history.specs.declared.events.Event.{Event}
use Rattle.nm_history.specs.declared.events.Happened.{Happened}
use Rattle.nm_history.specs.declared.events.Happened.TheVariants.{Send, Recall}
use Rattle.nm_history.specs.Happens.{happened, is_send}
use Rattle.nm_history.specs.Quiescence.{Ended, Packets, EachRank, EachPair, IsAnswered, RecallsAnswered, IsStopped}
use Rattle.nm_history.specs.Quiescence.{packets_of, packets_of_by, commands_by_rank, AskedOver, EagerOver}
use Rattle.nm_history.specs.RankRun.{IsRankRun, Always, CancelAt}
use Rattle.nm_history.specs.Run.{IsRunBy, IsRunOf}
use Rattle.nm_history.proofs.AtEachLemmas.{AtEach-split}
use Rattle.nm_history.proofs.OnceLemmas.{find_among}
use Rattle.nm_channels.specs.Moments.{history_of}
use Rattle.nm_channels.specs.Ends.{AreEnds}
use Rattle.nm_channels.specs.Finished.{Finished, ended_of, AreAllEnds, AreAllEndsBy, AreInRange}
use Rattle.nm_channels.specs.Settled.{AreSettled, RecallAnswered}
use Rattle.nm_history.proofs.Basic.{self_true, at_true}
use Rattle.nm_channels.proofs.Over.{Found, found_at}
use Rattle.nm_channels.proofs.Recalls.{all_at}
use Rattle.nm_channels.proofs.Shown.{IsCommanded, SendsTo, sends_commanded}
use Rattle.nm_channels.proofs.Settled.{ends_settle}
use Rattle.nm_history.specs.Delivery.{AreDelivered}
use Rattle.nm_history.specs.Sends.{arrivals, sends}
use Rattle.nm_history.proofs.Lasting.{by_splits}
use Rattle.nm_types.proofs.NumberLemmas.{same_number}
use Rattle.nm_types.proofs.TruthLemmas.{and_left, and_right}

-- the commands of a script are in range
pub in_range_from : (ranks rank number : ℕ) (lines : List Line) →
    list_all (λ line. nat_lt line.rank ranks && is_in_range ranks line.command) lines ≡ true →
    AllByRecursion (λ (c : Numbered). is_in_range ranks c.command ≡ true) (commands_from rank number lines)
in_range_from ranks rank number [] right = tt
in_range_from ranks rank number (l ∷ lines) right = by_rank (l.rank == rank)
    (in_range_from ranks rank (number + 1) lines (and_right _ _ right)) where
      by_rank : (b : Bool) → AllByRecursion (λ (c : Numbered). is_in_range ranks c.command ≡ true)
          (commands_from rank (number + 1) lines) →
          AllByRecursion (λ (c : Numbered). is_in_range ranks c.command ≡ true)
          (cond b (record { line = number; command = l.command } ∷ commands_from rank (number + 1) lines)
          (commands_from rank (number + 1) lines))
      by_rank true later = (and_right _ _ (and_left _ _ right), later)
      by_rank false later = later

-- so is the rank that a command sends to
to_in_range : (ranks to line : ℕ) (commands : List Numbered) →
    AllByRecursion (λ (c : Numbered). is_in_range ranks c.command ≡ true) commands →
    IsSomeAnd (command_at commands line) (SendsTo to) → to < ranks
to_in_range ranks to line commands each sends = by_found (find (λ (c : Numbered). c.line == line) commands) refl sends
  where
    below : (x y : ℕ) → nat_lt x y ≡ true → x < y
    below x y h = grind (arith, nat_tests)

    by_command : (c : Command) → is_in_range ranks c ≡ true → SendsTo to c → to < ranks
    by_command (command.Send to' q tag ctx sync body) right sends = subst (λ (k : ℕ). k < ranks) sends
        (below to' ranks (and_right _ _ (and_left _ _ (and_left _ _ (and_left _ _ right)))))
    by_command c right sends = absurd sends

    by_found : (o : Option Numbered) → find (λ (c : Numbered). c.line == line) commands ≡ o →
        IsSomeAnd (option_map (λ c. c.command) o) (SendsTo to) → to < ranks
    by_found None is sends = absurd sends
    by_found (Some c) is sends =
        by_command c.command (find_among (λ (c : Numbered). is_in_range ranks c.command ≡ true)
        (λ (c : Numbered). c.line == line) commands c
        (All-from_recursion (λ (c : Numbered). is_in_range ranks c.command ≡ true) commands each) is) sends

-- a recall is of a message to a rank of the run
recall_in_range : (ranks : ℕ) (commands : List Numbered) (h before : List Event) (e : Event) (after : List Event)
    (to n : ℕ) → AllByRecursion (λ (c : Numbered). is_in_range ranks c.command ≡ true) commands →
    AllByRecursion (λ e. IsCommanded commands e.what) h →
    h ≡ before ++ e ∷ after → Always (CancelAt commands) h → e.what ≡ Recall to n → to < ranks
recall_in_range ranks commands h before e after to n right commanded split cancels is = by_found
    (found_at (is_send to n) before sent) where
      sent : happened (is_send to n) before ≡ true
      sent = (subst (λ (w : Happened). CancelAt commands before w) is
          (AtEach-split (λ before e. CancelAt commands before e.what) before e after
          (subst (λ (k : List Event). Always (CancelAt commands) k) split cancels))).1

      by_what : (w : Happened) → IsCommanded commands w → is_send to n w ≡ true → to < ranks
      by_what (Send to' m tag ctx len how line) commanded passes =
          subst (λ (k : ℕ). k < ranks) (same_number to' to (and_left (to' == to) (m == n) passes))
          (to_in_range ranks to' line commands right commanded)
      by_what w commanded passes = cc

      by_found : Found (is_send to n) before → to < ranks
      by_found found =
          let at : h ≡ found.before ++ found.event ∷ (found.after ++ e ∷ after) = split
          ∙ ap (λ (k : List Event). k ++ e ∷ after) found.split ∙ append_assoc found.before (found.event ∷ found.after)
          (e ∷ after) in
          by_what found.event.what (all_at (λ e. IsCommanded commands e.what) found.before found.event
          (found.after ++ e ∷ after) (subst (λ (k : List Event). AllByRecursion (λ e. IsCommanded commands e.what) k) at
          commanded)) found.passes

-- what holds of each rank by its log holds of what is recorded of it
if_mapped : (P : Ended → Type 0) (o : Option Finished) → IfSome o (λ rank. P (ended_of rank)) →
    IfSome (option_map ended_of o) P
if_mapped P None holds = tt
if_mapped P (Some rank) holds = holds

mapped_at : (P : Ended → Type 0) (ranks : List Finished) (i : ℕ) → IfSome (slice_get ranks i)
    (λ rank. P (ended_of rank)) → IfSome (slice_get (map ended_of ranks) i) P
mapped_at P ranks i holds = subst (λ (o : Option Ended). IfSome o P) (sym (slice_get-map ended_of ranks i))
    (if_mapped P (slice_get ranks i) holds)

if_along : {X : Type 0} (P Q : X → Type 0) (o : Option X) → ((x : X) → P x → Q x) → IfSome o P → IfSome o Q
if_along P Q None along holds = tt
if_along P Q (Some x) along holds = along x holds

-- what holds of each two ranks
each_pair : (shape : Sizes) (commands : ℕ → List Numbered) (ranks : List Finished)
    (R : ℕ → ℕ → List Event → List Event → Type 0) → AreAllEndsBy shape commands ranks →
    ((i j : ℕ) (a b : Finished) → AreSettled i j (commands i) (commands j) a.log b.log →
    R i j (history_of a.log) (history_of b.log)) → EachPair R (map ended_of ranks)
each_pair shape commands ranks R all gives i =
    mapped_at (λ a. EachRank (λ j b. R i j a.events b.events) (map ended_of ranks)) ranks i
    (by_first (slice_get ranks i) (λ j. all i j))
  where
    by_first : (o : Option Finished) →
        ((j : ℕ) → IfSome o (λ a. IfSome (slice_get ranks j)
        (λ b. AreEnds shape i j (commands i) (commands j) a.at b.at a.log b.log))) →
        IfSome o (λ a. EachRank (λ j b. R i j (history_of a.log) b.events) (map ended_of ranks))
    by_first None each = tt
    by_first (Some a) each = λ j.
        mapped_at (λ b. R i j (history_of a.log) b.events) ranks j
        (if_along (λ b. AreEnds shape i j (commands i) (commands j) a.at b.at a.log b.log)
        (λ b. R i j (history_of a.log) (history_of b.log)) (slice_get ranks j)
        (λ b ends. gives i j a b (ends_settle shape i j (commands i) (commands j) a.at b.at a.log
        b.log ends)) (each j))

-- a rank's end is its own other end
own_end : (shape : Sizes) (commands : ℕ → List Numbered) (ranks : List Finished) (i : ℕ) →
    AreAllEndsBy shape commands ranks →
    IfSome (slice_get ranks i) (λ a. AreEnds shape i i (commands i) (commands i) a.at a.at a.log
    a.log)
own_end shape commands ranks i all = by_rank (slice_get ranks i) (all i i) where
  by_rank : (o : Option Finished) →
      IfSome o (λ a. IfSome o (λ b. AreEnds shape i i (commands i) (commands i) a.at b.at a.log
      b.log)) → IfSome o (λ a. AreEnds shape i i (commands i) (commands i) a.at a.at a.log a.log)
  by_rank None ends = tt
  by_rank (Some a) ends = ends

-- recalls of a rank's run have their answers
recalls_in : (shape : Sizes) (commands : ℕ → List Numbered) (ranks : List Finished) (i : ℕ) (a : Finished) →
    AreInRange shape.ranks commands → length ranks ≡ shape.ranks → IsRankRun shape (commands i) a.at
    (history_of a.log) →
    ((j : ℕ) → IfSome (slice_get ranks j)
    (λ b. AreEnds shape i j (commands i) (commands j) a.at b.at a.log b.log)) →
    RecallsAnswered (history_of a.log)
recalls_in shape commands ranks i a in_range count run each =
    by_splits (λ (e : Event). IsAnswered (history_of a.log) e.what) (history_of a.log) [] (history_of a.log) refl
    (λ before e after split. by_what before e after split e.what refl)
  where
    answered : (to n : ℕ) (before : List Event) (e : Event) (after : List Event) →
        history_of a.log ≡ before ++ e ∷ after → e.what ≡ Recall to n → (o : Option Finished) → slice_get ranks to ≡ o →
        to < shape.ranks →
        IfSome o (λ b. AreEnds shape i to (commands i) (commands to) a.at b.at a.log b.log) →
        IsAnswered (history_of a.log) (Recall to n)
    answered to n before e after split is None at within ends =
        let past : Some (get_or ranks to a) ≡ None = sym (slice_get-get_or ranks to a (omega (arith, count))) ∙ at in cc
    answered to n before e after split is (Some b) at within ends =
        let settled = ends_settle shape i to (commands i) (commands to) a.at b.at a.log b.log ends in
        let here = all_at (λ e. RecallAnswered to (history_of a.log) e.what) before e after
        (subst (λ (k : List Event). AllByRecursion (λ e. RecallAnswered to (history_of a.log) e.what) k) split
        settled.recalls) in
        at_true (to == to) (self_true to) (subst (λ (w : Happened). RecallAnswered to (history_of a.log) w) is here)

    by_what : (before : List Event) (e : Event) (after : List Event) → history_of a.log ≡ before ++ e ∷ after →
        (w : Happened) → e.what ≡ w → IsAnswered (history_of a.log) w
    by_what before e after split (Recall to n) is =
        answered to n before e after split is (slice_get ranks to) refl
        (recall_in_range shape.ranks (commands i) (history_of a.log) before e after to n
        (in_range i)
        (sends_commanded shape.eager (commands i) (history_of a.log) run.starts) split run.cancels.made is)
        (each to)
    by_what before e after split w is = tt

-- the histories of all ranks are a run of these commands
pub all_settle_by : (shape : Sizes) (commands : ℕ → List Numbered) (ranks : List Finished) (packets : List Packets) →
    AreInRange shape.ranks commands → length ranks ≡ shape.ranks → AreAllEndsBy shape commands ranks →
    EachRank (λ i rank. IsStopped (commands i) rank) (map ended_of ranks) → packets ≡ packets_of_by commands
    (map ended_of ranks) → IsRunBy shape commands (map ended_of ranks) packets
all_settle_by shape commands ranks packets in_range count all waits counts = record {
  one_each = length-map ranks ended_of ∙ count;
  rank_runs = λ i. mapped_at (λ rank. IsRankRun shape (commands i) rank.at rank.events) ranks i
      (if_along (λ a. AreEnds shape i i (commands i) (commands i) a.at a.at a.log a.log)
      (λ a. IsRankRun shape (commands i) a.at (history_of a.log)) (slice_get ranks i)
      (λ a ends. ends.sender.run) (own_end shape commands ranks i all));
  delivered = each_pair shape commands ranks
      (λ i j hi hj. AreDelivered i j (commands i) (commands j) hi hj) all
      (λ i j a b settled. settled.delivered);
  quiescent = record {
    arrived = each_pair shape commands ranks (λ i j hi hj. length (arrivals hj i) ≡ length (sends hi j)) all
        (λ i j a b settled. settled.arrived);
    eager = each_pair shape commands ranks EagerOver all (λ i j a b settled. settled.eager);
    asked = each_pair shape commands ranks AskedOver all (λ i j a b settled. settled.asked);
    recalls = λ i. mapped_at (λ rank. RecallsAnswered rank.events) ranks i
        (by_rank i (slice_get ranks i) (own_end shape commands ranks i all) (λ j. all i j));
    waits = waits;
    counts = counts;
  };
}
  where
    by_rank : (i : ℕ) (o : Option Finished) →
        IfSome o (λ a. AreEnds shape i i (commands i) (commands i) a.at a.at a.log a.log) →
        ((j : ℕ) → IfSome o (λ a. IfSome (slice_get ranks j)
        (λ b. AreEnds shape i j (commands i) (commands j) a.at b.at a.log b.log))) →
        IfSome o (λ a. RecallsAnswered (history_of a.log))
    by_rank i None own each = tt
    by_rank i (Some a) own each = recalls_in shape commands ranks i a in_range count own.sender.run each

-- the same of a script
pub all_settle : (shape : Sizes) (lines : List Line) (ranks : List Finished) (packets : List Packets) →
    IsScript shape.ranks lines → length ranks ≡ shape.ranks → AreAllEnds shape lines ranks →
    EachRank (λ i rank. IsStopped (commands_of i lines) rank) (map ended_of ranks) → packets ≡ packets_of lines
    (map ended_of ranks) → IsRunOf shape lines (map ended_of ranks) packets
all_settle shape lines ranks packets script =
    all_settle_by shape (commands_by_rank lines) ranks packets
    (λ i. in_range_from shape.ranks i 2 lines script.lines_in_range)
