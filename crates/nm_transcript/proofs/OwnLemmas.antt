-- The lines in a rank's history are those of its own commands.
use Rattle.std.proofs.Common.{◌≡◌, ℕ, zero, suc, ◌+◌, ◌<◌, ◌≤◌, Bool, true, false, ◌&&◌, Option, Some, None, List}
use Rattle.std.proofs.Common.{[], ◌∷◌, ◌++◌, length, map, take, refl, sym, ◌∙◌, ap, subst, arith, append-nil, append_assoc}
use Rattle.std.specs.Prelude.{if◌then◌else◌, IfSome, MatchOption}
use Rattle.std.specs.Option.{option_map_or}
use Rattle.std.specs.List.{AllByRecursion, filter, filter_map, slice_get}
use Rattle.std.proofs.lemmas.List.Sums.{fold_push}
use Rattle.nm_types.specs.declared.answers.Answer.{Answer}
use Rattle.nm_types.specs.declared.scripts.Command.{Command}
use Rattle.nm_types.specs.declared.scripts.Command.TheVariants as command
use Rattle.nm_types.specs.Commands.{Numbered, command_at}
use Rattle.nm_types.specs.Sizes.{Sizes}
use Rattle.nm_history.specs.declared.events.Event.{Event}
use Rattle.nm_history.specs.declared.events.Happened.{Happened}
use Rattle.nm_history.specs.declared.events.Happened.TheVariants.{Send, Post}
use Rattle.nm_history.specs.declared.events.Happened.TheVariants.{Claim, Match, Ran}
use Rattle.nm_history.specs.Answers.{Message, can_go_on, is_seen, is_started, live_message}
use Rattle.nm_history.specs.AtEach.{AtEach, AtEachAfter}
use Rattle.nm_history.specs.Quiescence.{Ended, IsStopped, Packets}
use Rattle.nm_history.specs.RankRun.{ClaimAt, IsRankRun, StartAt, claims_since, is_matched_probe, is_start, line_of_claim}
use Rattle.nm_history.specs.RankRun.{ran_lines, since_after, since_command, start_of, starts_since, without_number}
use Rattle.nm_history.specs.Run.{IsRunBy}
use Rattle.nm_process.specs.Playing.{all_numbered}
use Rattle.nm_transcript.specs.Orders.{calls_of}
use Rattle.nm_transcript.specs.Renumbered.{AreOf, IsOneOf, line_of}
use Rattle.nm_transcript.specs.Transcripts.{AreEndsOf, IsEndOf}

-- the line of a start or of a claim
abbrev pub own_line : Happened → Option ℕ
own_line (Ran line answer) = None
own_line w = line_of w

module _ (n : ℕ) where
  -- the lines of what happened since the last answer are of the rank's commands
  abbrev pub AreOwn : List Happened → Type 0
  AreOwn s = AllByRecursion (λ w. IfSome (own_line w) (IsOneOf n)) s

  own_from : (s : List Happened) → AreOwn (filter is_start s) → AllByRecursion (IsOneOf n) (filter_map line_of_claim s) →
      AreOwn s
  own_from [] starts claims = tt
  own_from (Send to m tag ctx len how line ∷ s) starts claims = (starts.0, own_from s starts.1 claims)
  own_from (Post p line ∷ s) starts claims = (starts.0, own_from s starts.1 claims)
  own_from (Match number from m cap line ∷ s) starts claims = (starts.0, own_from s starts.1 claims)
  own_from (Claim from m line ∷ s) starts claims = (claims.0, own_from s starts claims.1)
  own_from (w ∷ s) starts claims = (tt, own_from s starts claims)

  own_front : (xs : List Happened) (w : Happened) → AreOwn (xs ++ w ∷ []) → AreOwn xs × IfSome (own_line w) (IsOneOf n)
  own_front [] w all = (tt, all.0)
  own_front (x ∷ xs) w all = let rest = own_front xs w all.1 in ((all.0, rest.0), rest.1)

  -- starts without their numbers have the same lines
  own_with : (s : List Happened) → AreOwn (map without_number s) → AreOwn s
  own_with [] all = tt
  own_with (Send to m tag ctx len how line ∷ s) all = (all.0, own_with s all.1)
  own_with (Post p line ∷ s) all = (all.0, own_with s all.1)
  own_with (Match number from m cap line ∷ s) all = (all.0, own_with s all.1)
  own_with (w ∷ s) all = (all.0, own_with s all.1)

  start_own : (eager : ℕ) (commands : List Numbered) (before : List Event) (line : ℕ) (c : Command) → IsOneOf n line →
      AreOwn (start_of eager commands before line c)
  start_own eager commands before line (command.Send to q tag ctx sync body) one = (one, tt)
  start_own eager commands before line (command.Recv q from tag ctx cap) one = (one, tt)
  start_own eager commands before line (command.Mrecv q m cap) one = by (live_message commands before m) where
    by : (o : Option Message) →
        AreOwn (option_map_or (λ (message : Message). Match 0 message.from message.n cap line ∷ []) o [])
    by None = tt
    by (Some message) = (one, tt)
  start_own eager commands before line c one = tt

  starts_own : (eager : ℕ) (commands : List Numbered) (before : List Event) (line : ℕ) (started : Bool)
      (o : Option Command) → IsOneOf n line →
      AreOwn (if started then option_map_or (start_of eager commands before line) o [] else [])
  starts_own eager commands before line true None one = tt
  starts_own eager commands before line true (Some c) one = start_own eager commands before line c one
  starts_own eager commands before line false o one = tt

  claims_own : (b : Bool) (line : ℕ) → IsOneOf n line → AllByRecursion (IsOneOf n) (if b then line ∷ [] else [])
  claims_own true line one = (one, tt)
  claims_own false line one = tt

  since_push : (b : List Event) (e : Event) → since_command (b ++ e ∷ []) ≡ since_after (since_command b) e.what
  since_push b e = fold_push (λ (since : List Happened) (d : Event). since_after since d.what) [] b e

  -- what holds where a command gave its answer
  before_answer : (eager : ℕ) (commands : List Numbered) (b : List Event) (line : ℕ) (answer : Answer) → IsOneOf n line →
      StartAt eager commands b (Ran line answer) → ClaimAt commands b (Ran line answer) → AreOwn (since_command b)
  before_answer eager commands b line answer one started claimed =
      own_from (since_command b)
      (own_with (starts_since b) (subst (λ (s : List Happened). AreOwn s) (sym started.0)
      (starts_own eager commands b line (is_started answer) (command_at commands line) one)))
      (subst (λ (xs : List ℕ). AllByRecursion (IsOneOf n) xs) (sym claimed)
      (claims_own (option_map_or is_matched_probe (command_at commands line) false && is_seen answer) line one))

  abbrev pub HoldsFrom : List Event → List Event → Type 0
  HoldsFrom b events = AreOwn (since_command b) × AreOf n events

  step : (eager : ℕ) (commands : List Numbered) (b events : List Event) (stamp : ℕ) (w : Happened) →
      StartAt eager commands b w → ClaimAt commands b w →
      AllByRecursion (IsOneOf n) (ran_lines (record { stamp = stamp; what = w } ∷ events)) →
      AreOwn (since_after (since_command b) w) × AreOf n events →
      HoldsFrom b (record { stamp = stamp; what = w } ∷ events)
  step eager commands b events stamp (Ran line answer) start claim ran later =
      (before_answer eager commands b line answer ran.0 start claim, (ran.0, later.1))
  step eager commands b events stamp (Send to m tag ctx len how line) start claim ran later =
      let front = own_front (since_command b) (Send to m tag ctx len how line) later.0 in (front.0, (front.1, later.1))
  step eager commands b events stamp (Post p line) start claim ran later =
      let front = own_front (since_command b) (Post p line) later.0 in (front.0, (front.1, later.1))
  step eager commands b events stamp (Match number from m cap line) start claim ran later =
      let front = own_front (since_command b) (Match number from m cap line) later.0 in (front.0, (front.1, later.1))
  step eager commands b events stamp (Claim from m line) start claim ran later =
      let front = own_front (since_command b) (Claim from m line) later.0 in (front.0, (front.1, later.1))
  step eager commands b events stamp w start claim ran later =
      let front = own_front (since_command b) w later.0 in (front.0, (tt, later.1))

  ran_later : (e : Event) (events : List Event) → AllByRecursion (IsOneOf n) (ran_lines (e ∷ events)) →
      AllByRecursion (IsOneOf n) (ran_lines events)
  ran_later e events all = by e.what all where
    by : (w : Happened) → AllByRecursion (IsOneOf n) (ran_lines (record { stamp = e.stamp; what = w } ∷ events)) →
        AllByRecursion (IsOneOf n) (ran_lines events)
    by (Ran line answer) xs = xs.1
    by w xs = xs

  all_own : (eager : ℕ) (commands : List Numbered) (b events : List Event) →
      AtEachAfter (λ before e. StartAt eager commands before e.what) b events →
      AtEachAfter (λ before e. ClaimAt commands before e.what) b events →
      AllByRecursion (IsOneOf n) (ran_lines events) → starts_since (b ++ events) ≡ [] → claims_since (b ++ events) ≡ [] →
      HoldsFrom b events
  all_own eager commands b [] starts claims ran no_start no_claim = (
    own_from (since_command b)
        (subst (λ (s : List Happened). AreOwn s)
        (sym (ap (λ (h : List Event). starts_since h) (sym (append-nil b)) ∙ no_start)) tt)
        (subst (λ (xs : List ℕ). AllByRecursion (IsOneOf n) xs)
        (sym (ap (λ (h : List Event). claims_since h) (sym (append-nil b)) ∙ no_claim)) tt),
    tt,
  )
  all_own eager commands b (e ∷ events) starts claims ran no_start no_claim =
      let later =
      all_own eager commands (b ++ e ∷ []) events starts.1 claims.1 (ran_later e events ran)
      (ap (λ (h : List Event). starts_since h) (append_assoc b (e ∷ []) events) ∙ no_start)
      (ap (λ (h : List Event). claims_since h) (append_assoc b (e ∷ []) events) ∙ no_claim) in
      step eager commands b events e.stamp e.what starts.0 claims.0 ran
      (subst (λ (s : List Happened). AreOwn s) (since_push b e) later.0, later.1)

-- numbered commands have lines in their range
lines_within : (low high m at : ℕ) (given : List Command) → low ≤ m → m + length given ≤ high →
    AllByRecursion (λ (line : ℕ). (low ≤ line) × (line < high)) (map (λ (c : Numbered). c.line) (take at (all_numbered m given)))
lines_within low high m zero given least most = tt
lines_within low high m (suc at) [] least most = tt
lines_within low high m (suc at) (x ∷ given) least most = (
  (least, omega (arith, most)),
  lines_within low high (m + 1) at given (omega (arith, least)) (omega (arith, most)),
)

get_within : (low high m at : ℕ) (given : List Command) (c : Numbered) → low ≤ m → m + length given ≤ high →
    slice_get (all_numbered m given) at ≡ Some c → (low ≤ c.line) × (c.line < high)
get_within low high m at [] c least most is = cc
get_within low high m zero (x ∷ given) c least most is =
    let same : m ≡ c.line = ap (λ (o : Option Numbered). option_map_or (λ (d : Numbered). d.line) o 0) is in
    (omega (arith, same, least), omega (arith, same, most))
get_within low high m (suc at) (x ∷ given) c least most is =
    get_within low high (m + 1) at given c (omega (arith, least)) (omega (arith, most)) is

-- the lines of a rank's end
pub end_own : (shape : Sizes) (given : List Command) (rank : Ended) →
    IsRankRun shape (all_numbered 2 given) rank.at rank.events → IsStopped (all_numbered 2 given) rank →
    IsEndOf (length given) rank
unfolding AtEach
end_own shape given rank run stopped =
    let most : 2 + length given ≤ length given + 2 = omega arith in
    let ran : AllByRecursion (IsOneOf (length given)) (ran_lines rank.events) =
    subst (λ (xs : List ℕ). AllByRecursion (IsOneOf (length given)) xs) (sym run.answers.in_order)
    (lines_within 2 (length given + 2) 2 rank.at given (omega arith) most) in
    record {
      events = (all_own (length given) shape.eager (all_numbered 2 given) [] rank.events run.starts.made run.claims.made ran
          run.starts.no_others run.claims.no_others).1;
      waits = by (slice_get (all_numbered 2 given) rank.at) refl stopped;
    } where
      by : (o : Option Numbered) → slice_get (all_numbered 2 given) rank.at ≡ o →
          MatchOption o (rank.waits ≡ None)
          (λ c. (rank.waits ≡ Some c.line) × (can_go_on (all_numbered 2 given) rank.events c.command ≡ false)) →
          IfSome rank.waits (IsOneOf (length given))
      by None is none = subst (λ (w : Option ℕ). IfSome w (IsOneOf (length given))) (sym none) tt
      by (Some c) is some =
          subst (λ (w : Option ℕ). IfSome w (IsOneOf (length given))) (sym some.0)
          (get_within 2 (length given + 2) 2 rank.at given c (omega arith) (omega arith) is)

pub ends_own : (shape : Sizes) (given : List (List Command)) (ranks : List Ended) (packets : List Packets) →
    IsRunBy shape (λ i. all_numbered 2 (calls_of given i)) ranks packets → AreEndsOf given ranks
ends_own shape given ranks packets run i = by (slice_get ranks i) (run.rank_runs i) (run.quiescent.waits i) where
  by : (o : Option Ended) →
      IfSome o (λ rank. IsRankRun shape (all_numbered 2 (calls_of given i)) rank.at rank.events) →
      IfSome o (λ rank. IsStopped (all_numbered 2 (calls_of given i)) rank) →
      IfSome o (λ rank. IsEndOf (length (calls_of given i)) rank)
  by None runs stopped = tt
  by (Some rank) runs stopped = end_own shape (calls_of given i) rank runs stopped
