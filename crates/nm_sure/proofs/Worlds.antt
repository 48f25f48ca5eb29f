-- A lawful run of plain commands: what happens in it, and what stands behind each front of it.
use Rattle.std.proofs.Common.{◌≡◌, ℕ, ◌+◌, ◌<◌, ◌==◌, Bool, true, false, cond, Option, Some, None}
use Rattle.std.proofs.Common.{List, [], ◌∷◌, ◌++◌, length, map, refl, sym, ◌∙◌, ap, subst, append-nil, append_assoc}
use Rattle.std.proofs.Common.{◌⊎◌, inl, inr, ◌||◌, length-take-le}
use Rattle.std.proofs.lemmas.List.Folds.{list_any-append}
use Rattle.std.specs.Prelude.{IsTrue, nat_lt, option_map, take}
use Rattle.std.specs.Bool.{OnTrue}
use Rattle.std.specs.List.{AllByRecursion, find, list_any, slice_get}
use Rattle.std.proofs.lemmas.List.{length-map}
use Rattle.std.proofs.lemmas.Bool.{false≢true}
use Rattle.nm_types.specs.declared.messages.Peer.TheVariants as peer
use Rattle.nm_types.specs.declared.messages.Post as post
use Rattle.nm_types.specs.declared.messages.TagPick.TheVariants as pick
use Rattle.nm_types.specs.declared.scripts.Command.{Command}
use Rattle.nm_types.specs.declared.scripts.Command.TheVariants as command
use Rattle.nm_types.specs.declared.scripts.Line.{Line}
use Rattle.nm_types.specs.Commands.{Numbered, command_at, commands_of}
use Rattle.nm_types.specs.Sizes.{Sizes}
use Rattle.nm_history.specs.declared.events.Event.{Event}
use Rattle.nm_history.specs.declared.events.Happened.{Happened}
use Rattle.nm_history.specs.declared.events.Happened.TheVariants as event
use Rattle.nm_history.specs.AtEach.{AtEach, AtEachAfter, in_turn}
use Rattle.nm_history.specs.Answers.{can_go_on}
use Rattle.nm_history.specs.Delivery.{AreDelivered, WithdrawAfterRecall, earlier_than}
use Rattle.nm_history.specs.Happens.{happened, is_arrival, is_cancel, is_recall, is_undone}
use Rattle.nm_history.specs.Quiescence.{AskedOver, EagerOver}
use Rattle.nm_history.specs.RankRun.{AnswerAt, EndAt, IsRankRun, NumberAt, StartAt, ran_lines, start_of, starts_since}
use Rattle.nm_history.specs.Sends.{arrivals, sends}
use Rattle.nm_history.proofs.OnceLemmas.{eqb_self}
use Rattle.nm_match.specs.InTurn.{ArePlainEvents, are_named, is_plain_event}
use Rattle.nm_sure.specs.Plain.{is_plain}
use Rattle.nm_sure.proofs.Fitting.{ArePlainLines, EachFits, Fits, run_fits}
use Rattle.nm_sure.proofs.Fronts.{AreAtLines, Front, Stood, front_after}
use Rattle.nm_sure.proofs.Lists.{found_at, place_behind}
use Rattle.nm_sure.proofs.Progress.{IsUnderWay, under_way}
use Rattle.nm_sure.proofs.Reached.{ArePlainCommands, plain_at}
use Rattle.nm_types.proofs.ListLemmas.{all_append}
use Rattle.nm_types.proofs.NumberLemmas.{same_number}
use Rattle.nm_types.proofs.OptionLemmas.{no_some, same_some}
use Rattle.nm_types.proofs.TruthLemmas.{and_left}

-- a command's other rank is one of the run
abbrev pub IsWithin : ℕ → Command → Type 0
IsWithin ranks (command.Send to q tag ctx sync body) = to < ranks
IsWithin ranks (command.Recv q (peer.One from) tag ctx cap) = from < ranks
IsWithin ranks _ = Unit {0}

-- a lawful run of plain commands: how many of each rank's commands ran, and its history. A number that
-- is no rank of the run has no command and no event.
pub record PlainRun (shape : Sizes) (lines : List Line) (at : ℕ → ℕ) (hist : ℕ → List Event) : Type 0 where
  pub own : (i : ℕ) → IsRankRun shape (commands_of i lines) (at i) (hist i)
  pub carried : (i j : ℕ) → i < shape.ranks → j < shape.ranks →
      AreDelivered i j (commands_of i lines) (commands_of j lines) (hist i) (hist j)
  pub plain : (i : ℕ) → ArePlainCommands (commands_of i lines)
  pub stand : (i k : ℕ) (c : Numbered) → slice_get (commands_of i lines) k ≡ Some c →
      command_at (commands_of i lines) c.line ≡ Some c.command
  pub peers : (i l : ℕ) (c : Command) → command_at (commands_of i lines) l ≡ Some c →
      (i < shape.ranks) × IsWithin shape.ranks c
  pub arrived : (i j : ℕ) → i < shape.ranks → j < shape.ranks → length (arrivals (hist j) i) ≡ length (sends (hist i) j)
  pub eager : (i j : ℕ) → i < shape.ranks → j < shape.ranks → EagerOver i j (hist i) (hist j)
  pub asked : (i j : ℕ) → i < shape.ranks → j < shape.ranks → AskedOver i j (hist i) (hist j)
  pub waits : (i : ℕ) (c : Numbered) → slice_get (commands_of i lines) (at i) ≡ Some c →
      can_go_on (commands_of i lines) (hist i) c.command ≡ false

pub on_true : (b : Bool) (P : Type 0) → b ≡ true → OnTrue b P → P
on_true true P is holds = holds
on_true false P is holds = absurd (false≢true is)

-- the command of a line stands somewhere
pub line_place : (cs : List Numbered) (l : ℕ) (c : Command) → command_at cs l ≡ Some c →
    (k : ℕ) × (x : Numbered) × (slice_get cs k ≡ Some x) × (x.line ≡ l) × (x.command ≡ c)
line_place cs l c here = by_found (find (λ c. c.line == l) cs) refl here
  where
    by_found : (o : Option Numbered) → find (λ c. c.line == l) cs ≡ o → option_map (λ c. c.command) o ≡ Some c →
        (k : ℕ) × (x : Numbered) × (slice_get cs k ≡ Some x) × (x.line ≡ l) × (x.command ≡ c)
    by_found None found here = absurd (no_some c here)
    by_found (Some x) found here =
        let at' = found_at (λ (c : Numbered). c.line == l) cs x found in
        (at'.0, x, at'.1, same_number x.line l at'.2, same_some x.command c here)

-- no receive of a history was cancelled, and no message recalled
pub no_cancel : (eager : ℕ) (commands : List Numbered) (h : List Event) (number : ℕ) → EachFits eager commands h →
    happened (is_cancel number) h ≡ false
no_cancel eager commands [] number fits = refl
no_cancel eager commands (e ∷ h) number fits = at_event e.what fits.0 (no_cancel eager commands h number fits.1)
  where
    at_event : (what : Happened) → Fits eager commands what → happened (is_cancel number) h ≡ false →
        happened (is_cancel number) (record { stamp = e.stamp; what = what } ∷ h) ≡ false
    at_event (event.Cancel number' done) fits later = absurd fits
    at_event what fits later = later

pub no_recall : (eager : ℕ) (commands : List Numbered) (h : List Event) (to n : ℕ) → EachFits eager commands h →
    happened (is_recall to n) h ≡ false
no_recall eager commands [] to n fits = refl
no_recall eager commands (e ∷ h) to n fits = at_event e.what fits.0 (no_recall eager commands h to n fits.1)
  where
    at_event : (what : Happened) → Fits eager commands what → happened (is_recall to n) h ≡ false →
        happened (is_recall to n) (record { stamp = e.stamp; what = what } ∷ h) ≡ false
    at_event (event.Recall to' n') fits later = absurd fits
    at_event what fits later = later

-- none was recalled, so no recall was answered
undone_after : (eager : ℕ) (commands : List Numbered) (before events : List Event) (to n : ℕ) →
    EachFits eager commands before →
    EachFits eager commands events → AtEachAfter (λ b e. EndAt b e.what) before events →
    happened (is_undone to n true) events ≡ false
undone_after eager commands before [] to n fits fit ends = refl
undone_after eager commands before (e ∷ events) to n fits fit ends =
    at_event e.what (ends.0) (undone_after eager commands (before ++ e ∷ []) events to n
    (all_append (λ (e : Event). Fits eager commands e.what) before (e ∷ []) fits (fit.0, tt)) fit.1 ends.1)
  where
    at_event : (what : Happened) → EndAt before what → happened (is_undone to n true) events ≡ false →
        happened (is_undone to n true) (record { stamp = e.stamp; what = what } ∷ events) ≡ false
    at_event (event.Undone to' n' done) end later =
        absurd (false≢true (sym (no_recall eager commands before to' n' fits) ∙ end.2))
    at_event what end later = later

pub no_undone : (eager : ℕ) (commands : List Numbered) (h : List Event) (to n : ℕ) → EachFits eager commands h →
    AtEach (λ b e. EndAt b e.what) h → happened (is_undone to n true) h ≡ false
unfolding AtEach
no_undone eager commands h to n fits ends = undone_after eager commands [] h to n tt fits ends

pub fits_early : (eager : ℕ) (commands : List Numbered) (limit : ℕ) (h : List Event) → EachFits eager commands h →
    EachFits eager commands (earlier_than limit h)
fits_early eager commands limit [] fits = tt
fits_early eager commands limit (e ∷ h) fits = by_test (nat_lt e.stamp limit) (fits_early eager commands limit h fits.1)
  where
    by_test : (b : Bool) → EachFits eager commands (earlier_than limit h) →
        EachFits eager commands (cond b (e ∷ earlier_than limit h) (earlier_than limit h))
    by_test true later = (fits.0, later)
    by_test false later = later

-- what comes first, if it is a receive, names its source and its tag
abbrev is_first_named : List Happened → Bool
is_first_named (event.Post p line ∷ ws) = are_named p.from p.tag
is_first_named _ = true

-- a start that fits names its source and its tag
pub named_call : (eager : ℕ) (commands : List Numbered) (p : post.Post) (line : ℕ) →
    Fits eager commands (event.Post p line) → are_named p.from p.tag ≡ true
named_call eager commands p line calls = by_command calls.command calls.plain calls.start
  where
    by_command : (c : Command) → is_plain c ≡ true → start_of eager commands [] line c ≡ event.Post
        (record p { number = 0 }) line ∷ [] →
        are_named p.from p.tag ≡ true
    by_command (command.Recv q (peer.One from) (pick.One tag) ctx cap) plain start =
        sym (ap (λ (ws : List Happened). is_first_named ws) start)
    by_command (command.Recv q peer.Any tags ctx cap) plain start = absurd (false≢true plain)
    by_command (command.Recv q (peer.One from) pick.Any ctx cap) plain start = absurd (false≢true plain)
    by_command (command.Send to q tag ctx sync body) plain start =
        sym (ap (λ (ws : List Happened). is_first_named ws) start)
    by_command (command.Wait q) plain start = sym (ap (λ (ws : List Happened). is_first_named ws) start)
    by_command (command.Test q) plain start = absurd (false≢true plain)
    by_command (command.Probe from tag ctx) plain start = absurd (false≢true plain)
    by_command (command.Await from tag ctx) plain start = absurd (false≢true plain)
    by_command (command.Cancel q) plain start = absurd (false≢true plain)
    by_command (command.Mprobe m from tag ctx) plain start = absurd (false≢true plain)
    by_command (command.Mrecv q m cap) plain start = absurd (false≢true plain)

module _ (shape : Sizes) (lines : List Line) (at : ℕ → ℕ) (hist : ℕ → List Event) (run : PlainRun shape lines at hist)
  where
    pub plain_lines : (i : ℕ) → ArePlainLines (commands_of i lines)
    plain_lines i line c here =
        let place = line_place (commands_of i lines) line c here in
        subst (λ (c : Command). is_plain c ≡ true) place.4
        (plain_at (commands_of i lines) place.0 place.1 (run.plain i) place.2)

    pub fits : (i : ℕ) → EachFits shape.eager (commands_of i lines) (hist i)
    fits i = run_fits shape.eager (commands_of i lines) (plain_lines i) shape.ranks shape.cells (at i) (hist i)
        (run.own i)

    pub lined : (i : ℕ) → AreAtLines (commands_of i lines)
    lined i done c more split =
        let here : slice_get (commands_of i lines) (length done + 0) ≡ Some c =
        ap (λ (cs : List Numbered). slice_get cs (length done + 0)) split ∙ place_behind done (c ∷ more) 0 in
        (run.stand i (length done + 0) c here, plain_at (commands_of i lines) (length done + 0) c (run.plain i) here)

    -- each message that came is of a rank of the run
    abbrev CameFromRanks : List Event → Type 0
    CameFromRanks h = (from n : ℕ) → happened (is_arrival from n) h ≡ true → from < shape.ranks

    came_step : (h : List Event) (stamp : ℕ) (what : Happened) → CameFromRanks h → NumberAt shape.ranks h what →
        CameFromRanks (h ++ record { stamp = stamp; what = what } ∷ [])
    came_step h stamp what each number from n came =
        at_event what number (last_or_before (λ (e : Event). is_arrival from n e.what) h
        (record { stamp = stamp; what = what }) came)
      where
        last_or_before : (test : Event → Bool) (h : List Event) (e : Event) → list_any test (h ++ e ∷ []) ≡ true →
            (list_any test h ≡ true) ⊎ (test e ≡ true)
        last_or_before test h e some =
            by_last (test e) (sym (list_any-append test h (e ∷ [])) ∙ some)
          where
            by_last : (b : Bool) → (list_any test h || (b || false)) ≡ true → (list_any test h ≡ true) ⊎ (b ≡ true)
            by_last true some = inr refl
            by_last false some = inl (at_first (list_any test h) some)
              where
                at_first : (b : Bool) → (b || false) ≡ true → b ≡ true
                at_first true some = refl
                at_first false some = some

        at_event : (what : Happened) → NumberAt shape.ranks h what →
            (happened (is_arrival from n) h ≡ true) ⊎ (is_arrival from n what ≡ true) →
            from < shape.ranks
        at_event what number (inl before) = each from n before
        at_event (event.Arrive a) number (inr now) =
            subst (λ (i : ℕ). i < shape.ranks)
            (same_number a.env.from from (and_left (a.env.from == from) (a.n == n) now)) number.0
        at_event what number (inr now) = absurd (false≢true now)

    -- no message is withdrawn, since none was recalled
    plain_step : (i : ℕ) (h : List Event) (stamp : ℕ) (what : Happened) → i < shape.ranks → CameFromRanks h →
        EndAt h what →
        Fits shape.eager (commands_of i lines) what →
        ((from : ℕ) → from < shape.ranks → WithdrawAfterRecall from i (hist from) stamp what) →
        is_plain_event what ≡ true
    plain_step i h stamp (event.Post p line) inside came ends fit withdrawn = named_call shape.eager
        (commands_of i lines) p line fit
    plain_step i h stamp (event.Cancel number done) inside came ends fit withdrawn = absurd fit
    plain_step i h stamp (event.Claim from n line) inside came ends fit withdrawn = absurd fit
    plain_step i h stamp (event.Match number from n cap line) inside came ends fit withdrawn = absurd fit
    plain_step i h stamp (event.Withdraw from n done) inside came ends fit withdrawn =
        let within : from < shape.ranks = came from n ends.2 in
        absurd (false≢true (sym (no_recall shape.eager (commands_of from lines) (earlier_than stamp (hist from)) i n
        (fits_early shape.eager (commands_of from lines) stamp (hist from) (fits from)))
        ∙ on_true (from == from) (IsTrue (happened (is_recall i n) (earlier_than stamp (hist from)))) (eqb_self from)
        (withdrawn from within)))
    plain_step i h stamp what inside came ends fit withdrawn = refl

    plain_after : (i : ℕ) (before events : List Event) → i < shape.ranks → CameFromRanks before →
        AtEachAfter (λ b e. NumberAt shape.ranks b e.what) before events →
        AtEachAfter (λ b e. EndAt b e.what) before events →
        EachFits shape.eager (commands_of i lines) events →
        ((from : ℕ) → from < shape.ranks → AllByRecursion (λ e. WithdrawAfterRecall from i (hist from) e.stamp e.what)
        events) →
        ArePlainEvents events
    plain_after i before [] inside came numbers ends fits withdrawn = tt
    plain_after i before (e ∷ events) inside came numbers ends fits withdrawn = (
      plain_step i before e.stamp e.what inside came ends.0 fits.0 (λ from within. (withdrawn from within).0),
      plain_after i (before ++ e ∷ []) events inside (came_step before e.stamp e.what came numbers.0) numbers.1 ends.1
          fits.1
          (λ from within. (withdrawn from within).1),
    )

    pub plain_events : (i : ℕ) → i < shape.ranks → ArePlainEvents (hist i)
    unfolding AtEach
    plain_events i inside =
        plain_after i [] (hist i) inside (λ from n came. absurd (false≢true came)) (run.own i).numbers (run.own i).ends
        (fits i)
        (λ from within. (run.carried from i within inside).withdrawals.asked)

    -- what stands behind a front of a history
    pub record Seen (i : ℕ) (b rest : List Event) : Type 0 where
      pub done : List Numbered
      pub more : List Numbered
      pub split : commands_of i lines ≡ done ++ more
      pub stood : Stood shape.eager (commands_of i lines) done b
      pub under : IsUnderWay shape.eager (commands_of i lines) done more (starts_since b)
      pub told : ran_lines rest ≡ map (λ c. c.line) (take (length (ran_lines rest)) more)

    no_front : (i : ℕ) → Front shape.eager (commands_of i lines) []
    unfolding in_turn
    no_front i = record {
      done = [];
      more = commands_of i lines;
      split = refl;
      stood = record {
        named = record { line = λ q. refl; made = λ q l held. absurd (no_some l held) };
        places = refl;
        counted = refl;
      };
    }

    back_of : (R : List Event → Event → Type 0) (before b rest : List Event) → AtEachAfter R before (b ++ rest) →
        AtEachAfter R (before ++ b) rest
    back_of R before [] rest each = subst (λ (k : List Event). AtEachAfter R k rest) (sym (append-nil before)) each
    back_of R before (e ∷ b) rest each =
        subst (λ (k : List Event). AtEachAfter R k rest) (append_assoc before (e ∷ []) b)
        (back_of R (before ++ e ∷ []) b rest each.1)

    pub answers_counted : (i : ℕ) → length (ran_lines (hist i)) ≡ at i
    answers_counted i =
        let answers = (run.own i).answers in
        ap (λ (ls : List ℕ). length ls) answers.in_order ∙ length-map (take (at i) (commands_of i lines)) (λ c. c.line)
        ∙ length-take-le (at i) (commands_of i lines) answers.few

    in_order : (i : ℕ) → ran_lines (hist i) ≡ map (λ c. c.line)
        (take (length (ran_lines (hist i))) (commands_of i lines))
    in_order i = rw (answers_counted i) (run.own i).answers.in_order

    pub seen : (i : ℕ) (b rest : List Event) → hist i ≡ b ++ rest → Seen i b rest
    unfolding AtEach no_front
    seen i b rest split =
        let commands : List Numbered = commands_of i lines in
        let answers = subst (λ (h : List Event). AtEachAfter (λ b e. AnswerAt commands b e.what) [] h) split
        (run.own i).answers.right in
        let starts = subst (λ (h : List Event). AtEachAfter (λ b e. StartAt shape.eager commands b e.what) [] h) split
        (run.own i).starts.made in
        let front = front_after shape.eager commands [] b rest (no_front i) (lined i) answers starts
        (subst (λ (h : List Event). ran_lines h ≡ map (λ c. c.line) (take (length (ran_lines h)) commands)) split
        (in_order i)) in
        record {
          done = front.0.done;
          more = front.0.more;
          split = front.0.split;
          stood = front.0.stood;
          told = front.1;
          under = under_way shape.eager commands front.0.done front.0.more front.0.split (lined i)
              (starts_since b) b rest []
              front.0.stood (sym (append-nil (starts_since b)))
              (back_of (λ b e. AnswerAt commands b e.what) [] b rest answers)
              (back_of (λ b e. StartAt shape.eager commands b e.what) [] b rest starts) front.1
              (ap (λ (h : List Event). starts_since h) (sym split) ∙ (run.own i).starts.no_others);
        }
