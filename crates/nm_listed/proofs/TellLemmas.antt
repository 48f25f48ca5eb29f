-- A log that tells what moves did, and steps that may come next in it.
use Rattle.std.proofs.Common.{◌≡◌, ℕ, ◌+◌, ◌<◌, ◌==◌, Bool, true, false}
use Rattle.std.proofs.Common.{Some}
use Rattle.std.proofs.Common.{List, [], ◌∷◌, ◌++◌, refl, sym, ◌∙◌, ap, subst, arith, append-nil}
use Rattle.std.proofs.Common.{append_assoc, length-append}
use Rattle.std.specs.Prelude.{fold}
use Rattle.std.specs.List.{AllByRecursion, slice_get, slice_set}
use Rattle.std.proofs.lemmas.Bool.{false≢true}
use Rattle.std.proofs.lemmas.List.Folds.{list_any-append}
use Rattle.nm_types.specs.declared.scripts.Line.{Line}
use Rattle.nm_types.specs.Commands.{commands_of}
use Rattle.nm_types.specs.Sizes.{Sizes}
use Rattle.nm_types.proofs.ListLemmas.{all_along, all_push, get_set_other, get_set_same, place_below}
use Rattle.nm_types.proofs.NumberLemmas.{differ, same_number}
use Rattle.nm_types.proofs.TruthLemmas.{or_left}
use Rattle.nm_history.specs.declared.events.Event.{Event}
use Rattle.nm_history.specs.declared.events.Happened.{Happened}
use Rattle.nm_history.specs.declared.events.Happened.TheVariants as event
use Rattle.nm_history.specs.Delivery.{BodyAt, OutAfterPair, UndoneAfterWithdraw, WithdrawAfterRecall, earlier_than}
use Rattle.nm_history.specs.Growing.{ArrivesNext}
use Rattle.nm_history.specs.Happens.{happened}
use Rattle.nm_history.specs.RankRun.{AnswerAt, CancelAt, ClaimAt, EndAt, NumberAt, StartAt, WholeAt}
use Rattle.nm_history.specs.Sends.{sends}
use Rattle.nm_history.specs.Underway.{is_of_packet}
use Rattle.nm_history.proofs.Basic.{lt_true}
use Rattle.nm_outcomes.specs.Logs.{IsLog, MayCome, Step, history_in}
use Rattle.nm_outcomes.specs.Places.{is_quiet}
use Rattle.nm_outcomes.specs.RankStates.{IsSpotOf, Spot}
use Rattle.nm_outcomes.proofs.LogLemmas.{grown_here, grown_other, log-push}
use Rattle.nm_outcomes.proofs.PathLemmas.{history_split}
use Rattle.nm_explored.specs.Moves.{AreSpots}
use Rattle.nm_explored.proofs.WalkLemmas.{quiet_spot}
use Rattle.nm_listed.specs.Tellings.{clock}
use Rattle.nm_listed.proofs.SteadyLemmas.{IsSteady, steady_packet}

-- all events are earlier than a clock
abbrev pub AreEarly : ℕ → List Event → Type 0
AreEarly t h = AllByRecursion (λ (e : Event). e.stamp < t) h

pub early_all : (t : ℕ) (h : List Event) → AreEarly t h → earlier_than t h ≡ h
early_all t [] all = refl
early_all t (e ∷ h) all = rw (lt_true e.stamp t all.0) (ap (λ (es : List Event). e ∷ es) (early_all t h all.1))

fold_low : (t s : ℕ) (h : List Event) → s < t → AreEarly t h → fold (λ (stamp : ℕ) (e : Event). e.stamp) s h < t
fold_low t s [] low all = low
fold_low t s (e ∷ h) low all = fold_low t e.stamp h all.0 all.1

-- a quiet event comes of a packet
pub quiet_packet : (what : Happened) → is_quiet what ≡ true → is_of_packet what ≡ true
quiet_packet (event.Whole from n) quiet = refl
quiet_packet (event.Out to n) quiet = refl
quiet_packet (event.Undone to n done) quiet = refl
quiet_packet (event.Withdraw from n done) quiet = refl
quiet_packet (event.Arrive a) quiet = refl
quiet_packet (event.Send to n tag ctx len how line) quiet = absurd (false≢true quiet)
quiet_packet (event.Post p line) quiet = absurd (false≢true quiet)
quiet_packet (event.Match number from n cap line) quiet = absurd (false≢true quiet)
quiet_packet (event.Cancel number done) quiet = absurd (false≢true quiet)
quiet_packet (event.Recall to n) quiet = absurd (false≢true quiet)
quiet_packet (event.Claim from n line) quiet = absurd (false≢true quiet)
quiet_packet (event.Ran line a) quiet = absurd (false≢true quiet)

-- an event at this clock
abbrev pub now : ℕ → Happened → Event
now t what = record { stamp = t; what = what }

abbrev pub step_at : ℕ → ℕ → Happened → Step
step_at i t what = record { rank = i; event = now t what }

-- the clock of a log
pub clock_some : (log : List Step) → 0 < clock log
clock_some log = omega arith

clock_next : (log : List Step) (s : Step) → clock (log ++ s ∷ []) ≡ (clock log) + 1
clock_next log s = ap (λ (n : ℕ). n + 1) (length-append log (s ∷ []))

module _ (shape : Sizes) (lines : List Line) where
  -- the parts of what may come next at rank i
  pub record MayBe (log : List Step) (t i : ℕ) (what : Happened) : Type 0 where
    pub answers : AnswerAt (commands_of i lines) (history_in log i) what
    pub starts : StartAt shape.eager (commands_of i lines) (history_in log i) what
    pub numbers : NumberAt shape.ranks (history_in log i) what
    pub cancels : CancelAt (commands_of i lines) (history_in log i) what
    pub wholes : WholeAt (history_in log i) what
    pub ends : EndAt (history_in log i) what
    pub claims : ClaimAt (commands_of i lines) (history_in log i) what
    pub outs : (j : ℕ) → j < shape.ranks → OutAfterPair i j (history_in log j) (history_in log i) t what
    pub answered : (j : ℕ) → j < shape.ranks → UndoneAfterWithdraw i j (history_in log j) t what
    pub comes : (k : ℕ) → k < shape.ranks → ArrivesNext k i (history_in log k) (history_in log i) t what
    pub body : (k : ℕ) → k < shape.ranks →
        BodyAt k (commands_of k lines) (sends (history_in log k) i) (commands_of i lines) (history_in log i) what
    pub asked : (k : ℕ) → k < shape.ranks → WithdrawAfterRecall k i (history_in log k) t what

  pub may_come : (log : List Step) (t i : ℕ) (what : Happened) → i < shape.ranks → 0 < t →
      AreEarly t (history_in log i) → MayBe log t i what → MayCome shape lines (history_in log) i (now t what)
  may_come log t i what inside some early may = record {
    within = inside;
    own = record {
      answers = may.answers;
      starts = may.starts;
      numbers = may.numbers;
      cancels = may.cancels;
      wholes = may.wholes;
      ends = may.ends;
      stamps = fold_low t 0 (history_in log i) some early;
      claims = may.claims;
    };
    sends = λ j low. record { out = may.outs j low; answered = may.answered j low };
    receives = λ k low. record { message = may.comes k low; body = may.body k low; asked = may.asked k low };
  }

  -- the log tells how the ranks came into these states
  pub record IsTold (log : List Step) (states : List Spot) : Type 0 where
    pub is_log : IsLog shape lines log
    pub stands : AreSpots shape.ranks lines log (λ i. slice_get states i)
    pub early : (j : ℕ) → AreEarly (clock log) (history_in log j)
    pub steady : (i : ℕ) → IsSteady shape (commands_of i lines) (history_in log i)

  -- what holds of each rank's history lasts with a step, where it holds of that of the rank
  pub each_but : (P : ℕ → List Event → Type 0) (log : List Step) (s : Step) →
      P s.rank (history_in log s.rank ++ s.event ∷ []) →
      ((j : ℕ) → (s.rank == j) ≡ false → P j (history_in log j)) → (j : ℕ) → P j (history_in (log ++ s ∷ []) j)
  each_but P log s here each j = by_rank (s.rank == j) refl
    where
      by_rank : (b : Bool) → (s.rank == j) ≡ b → P j (history_in (log ++ s ∷ []) j)
      by_rank true same =
          subst (λ (k : ℕ). P k (history_in (log ++ s ∷ []) k)) (same_number s.rank j same)
          (subst (λ (h : List Event). P s.rank h) (sym (grown_here log s)) here)
      by_rank false other = subst (λ (h : List Event). P j h) (sym (grown_other log s j other)) (each j other)

  pub each_rank : (P : ℕ → List Event → Type 0) (log : List Step) (s : Step) →
      P s.rank (history_in log s.rank ++ s.event ∷ []) → ((j : ℕ) → P j (history_in log j)) →
      (j : ℕ) → P j (history_in (log ++ s ∷ []) j)
  each_rank P log s here each = each_but P log s here (λ j other. each j)

  pub told_push : (log : List Step) (states new : List Spot) (told : IsTold log states) (i : ℕ) (what : Happened) →
      i < shape.ranks → MayBe log (clock log) i what →
      AreSpots shape.ranks lines (log ++ step_at i (clock log) what ∷ []) (λ j. slice_get new j) →
      IsSteady shape (commands_of i lines) (history_in log i ++ now (clock log) what ∷ []) →
      IsTold (log ++ step_at i (clock log) what ∷ []) new
  told_push log states new told i what inside may stands steady =
      let t : ℕ = clock log in record {
        is_log = log-push shape lines [] log (step_at i t what) told.is_log
            (may_come log t i what inside (clock_some log) (told.early i) may);
        stands = stands;
        early = λ j.
            subst (λ (u : ℕ). AreEarly u (history_in (log ++ step_at i t what ∷ []) j))
            (sym (clock_next log (step_at i t what)))
            (each_rank (λ j h. AreEarly (t + 1) h) log (step_at i t what)
            (all_push (λ (e : Event). e.stamp < t + 1) (history_in log i) (now t what)
            (later t (history_in log i) (told.early i)) (omega arith))
            (λ j. later t (history_in log j) (told.early j)) j);
        steady = each_rank (λ j h. IsSteady shape (commands_of j lines) h) log (step_at i t what) steady told.steady;
      }
    where
      later : (t : ℕ) (h : List Event) → AreEarly t h → AreEarly (t + 1) h
      later t h early =
          all_along (λ (e : Event). e.stamp < t) (λ (e : Event). e.stamp < t + 1) h
          (λ e low. let x : e.stamp < t = low in omega (arith, x)) early

  -- a rank comes into another state
  pub moved_spots : (log : List Step) (s : Step) (states : List Spot) (t : Spot) → s.rank < shape.ranks →
      AreSpots shape.ranks lines log (λ j. slice_get states j) →
      IsSpotOf lines (history_in log s.rank ++ s.event ∷ []) t →
      AreSpots shape.ranks lines (log ++ s ∷ []) (λ j. slice_get (slice_set states s.rank t) j)
  moved_spots log s states t inside are is j low = by_rank (s.rank == j) refl
    where
      at_rank : (x : Spot) × (slice_get (slice_set states s.rank t) s.rank ≡ Some x)
          × IsSpotOf lines (history_in (log ++ s ∷ []) s.rank) x
      at_rank = (
        t,
        get_set_same states s.rank t (let at = are s.rank inside in place_below states s.rank at.0 at.1),
        subst (λ (h : List Event). IsSpotOf lines h t) (sym (grown_here log s)) is,
      )

      by_rank : (b : Bool) → (s.rank == j) ≡ b →
          (x : Spot) × (slice_get (slice_set states s.rank t) j ≡ Some x)
          × IsSpotOf lines (history_in (log ++ s ∷ []) j) x
      by_rank true same =
          subst (λ (k : ℕ). (x : Spot) × (slice_get (slice_set states s.rank t) k ≡ Some x)
          × IsSpotOf lines (history_in (log ++ s ∷ []) k) x) (same_number s.rank j same) at_rank
      by_rank false other =
          let x = are j low in (
            x.0,
            get_set_other states s.rank j t (differ s.rank j other) ∙ x.1,
            subst (λ (h : List Event). IsSpotOf lines h x.0) (sym (grown_other log s j other)) x.2,
          )

  pub quiet_spots : (log : List Step) (s : Step) (states : List Spot) → is_quiet s.event.what ≡ true →
      AreSpots shape.ranks lines log (λ j. slice_get states j) →
      AreSpots shape.ranks lines (log ++ s ∷ []) (λ j. slice_get states j)
  quiet_spots log s states quiet are j low = by_rank (s.rank == j) refl (are j low)
    where
      by_rank : (b : Bool) → (s.rank == j) ≡ b →
          (x : Spot) × (slice_get states j ≡ Some x) × IsSpotOf lines (history_in log j) x →
          (x : Spot) × (slice_get states j ≡ Some x) × IsSpotOf lines (history_in (log ++ s ∷ []) j) x
      by_rank true same at = (
        at.0,
        at.1,
        subst (λ (k : ℕ). IsSpotOf lines (history_in (log ++ s ∷ []) k) at.0) (same_number s.rank j same)
            (subst (λ (h : List Event). IsSpotOf lines h at.0) (sym (grown_here log s))
            (quiet_spot lines (history_in log s.rank) at.0
            (subst (λ (k : ℕ). IsSpotOf lines (history_in log k) at.0) (sym (same_number s.rank j same)) at.2)
            s.event.stamp s.event.what quiet)),
      )
      by_rank false other at =
          (at.0, at.1, subst (λ (h : List Event). IsSpotOf lines h at.0) (sym (grown_other log s j other)) at.2)

  -- a quiet event more
  pub told_quiet : (log : List Step) (states : List Spot) (told : IsTold log states) (i : ℕ) (what : Happened) →
      is_quiet what ≡ true → i < shape.ranks → MayBe log (clock log) i what →
      IsTold (log ++ step_at i (clock log) what ∷ []) states
  told_quiet log states told i what quiet inside may =
      told_push log states states told i what inside may
      (quiet_spots log (step_at i (clock log) what) states quiet told.stands)
      (steady_packet shape (commands_of i lines) (history_in log i) (clock log) what (quiet_packet what quiet)
      (told.steady i))

-- quiet steps alone stand behind a log
abbrev pub AreQuiet : List Step → Type 0
AreQuiet steps = AllByRecursion (λ (s : Step). is_quiet s.event.what ≡ true) steps

pub record GoesOn (log later : List Step) : Type 0 where
  pub more : List Step
  pub is : later ≡ log ++ more
  pub quiet : AreQuiet more

pub goes_nowhere : (log : List Step) → GoesOn log log
goes_nowhere log = record { more = []; is = sym (append-nil log); quiet = tt }

pub goes_one : (log : List Step) (s : Step) → is_quiet s.event.what ≡ true → GoesOn log (log ++ s ∷ [])
goes_one log s quiet = record { more = s ∷ []; is = refl; quiet = (quiet, tt) }

pub goes_both : (a b c : List Step) → GoesOn a b → GoesOn b c → GoesOn a c
goes_both a b c one two = record {
  more = one.more ++ two.more;
  is = two.is ∙ ap (λ (l : List Step). l ++ two.more) one.is ∙ append_assoc a one.more two.more;
  quiet = both_quiet one.more one.quiet;
}
  where
    both_quiet : (steps : List Step) → AreQuiet steps → AreQuiet (steps ++ two.more)
    both_quiet [] all = two.quiet
    both_quiet (s ∷ steps) all = (all.0, both_quiet steps all.1)

pub happened_on : (test : Happened → Bool) (log later : List Step) → GoesOn log later → (i : ℕ) →
    happened test (history_in log i) ≡ true → happened test (history_in later i) ≡ true
happened_on test log later on i was =
    ap (λ (l : List Step). happened test (history_in l i)) on.is
    ∙ ap (λ (h : List Event). happened test h) (history_split log on.more i)
    ∙ list_any-append (λ (e : Event). test e.what) (history_in log i) (history_in on.more i)
    ∙ or_left (happened test (history_in log i)) (happened test (history_in on.more i)) was
