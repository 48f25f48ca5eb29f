-- A lawful run of sends, named receives, waits and tests, and what happens in it: receives and messages
-- of one channel pair in turn.
use Rattle.std.proofs.Common.{◌≡◌, ℕ, ◌<◌, ◌==◌, Bool, true, false, List, [], ◌∷◌, ◌++◌, refl, sym, ◌∙◌, subst}
use Rattle.std.proofs.Common.{◌⊎◌, inl, inr, ◌||◌, Some}
use Rattle.std.proofs.lemmas.List.Folds.{list_any-append}
use Rattle.std.specs.Prelude.{IsTrue}
use Rattle.std.specs.List.{AllByRecursion, list_any, slice_get}
use Rattle.std.proofs.lemmas.Bool.{false≢true}
use Rattle.nm_types.specs.declared.scripts.Command.{Command}
use Rattle.nm_types.specs.declared.scripts.Command.TheVariants as command
use Rattle.nm_types.specs.Commands.{Numbered, command_at}
use Rattle.nm_types.specs.Sizes.{Sizes}
use Rattle.nm_history.specs.declared.events.Event.{Event}
use Rattle.nm_history.specs.declared.events.Happened.{Happened}
use Rattle.nm_history.specs.declared.events.Happened.TheVariants as event
use Rattle.nm_history.specs.AtEach.{AtEach, AtEachAfter}
use Rattle.nm_history.specs.Delivery.{AreDelivered, WithdrawAfterRecall, earlier_than}
use Rattle.nm_history.specs.Happens.{happened, is_arrival, is_recall}
use Rattle.nm_history.specs.RankRun.{EndAt, IsRankRun, NumberAt}
use Rattle.nm_history.proofs.OnceLemmas.{eqb_self}
use Rattle.nm_match.specs.InTurn.{ArePlainEvents, is_plain_event}
use Rattle.nm_sure.proofs.Fitting.{EachFits, Fits}
use Rattle.nm_sure.proofs.Worlds.{IsWithin, fits_early, no_recall, on_true}
use Rattle.nm_persist.proofs.Fitting.{AreNamedLines, run_fits}
use Rattle.nm_types.proofs.NumberLemmas.{same_number}
use Rattle.nm_types.proofs.TruthLemmas.{and_left}
use Rattle.nm_sure.proofs.Worlds.{named_call}

-- a lawful run of such commands: how many of each rank's commands ran, and its history
pub record NamedRun (shape : Sizes) (cs : ℕ → List Numbered) (at : ℕ → ℕ) (hist : ℕ → List Event) : Type 0 where
  pub own : (i : ℕ) → i < shape.ranks → IsRankRun shape (cs i) (at i) (hist i)
  pub carried : (i j : ℕ) → i < shape.ranks → j < shape.ranks → AreDelivered i j (cs i) (cs j) (hist i) (hist j)
  pub named : (i : ℕ) → AreNamedLines (cs i)
  pub stand : (i k : ℕ) (c : Numbered) → slice_get (cs i) k ≡ Some c → command_at (cs i) c.line ≡ Some c.command
  pub peers : (i l : ℕ) (c : Command) → command_at (cs i) l ≡ Some c → IsWithin shape.ranks c

module _ (shape : Sizes) (cs : ℕ → List Numbered) (at : ℕ → ℕ) (hist : ℕ → List Event)
    (run : NamedRun shape cs at hist) where
  pub fits : (i : ℕ) → i < shape.ranks → EachFits shape.eager (cs i) (hist i)
  fits i inside = run_fits shape.eager (cs i) (run.named i) shape.ranks shape.cells (at i) (hist i) (run.own i inside)

  -- each message that came is of a rank of the run
  abbrev CameFromRanks : List Event → Type 0
  CameFromRanks h = (from n : ℕ) → happened (is_arrival from n) h ≡ true → from < shape.ranks

  came_step : (h : List Event) (stamp : ℕ) (what : Happened) → CameFromRanks h → NumberAt shape.ranks h what →
      CameFromRanks (h ++ record { stamp = stamp; what = what } ∷ [])
  came_step h stamp what each number from n came =
      at_event what number (last_or_before (λ (e : Event). is_arrival from n e.what) h
      (record { stamp = stamp; what = what }) came)
    where
      last_or_before : (test : Event → Bool) (h : List Event) (e : Event) → list_any test (h ++ e ∷ []) ≡ true →
          (list_any test h ≡ true) ⊎ (test e ≡ true)
      last_or_before test h e some =
          by_last (test e) (sym (list_any-append test h (e ∷ [])) ∙ some)
        where
          by_last : (b : Bool) → (list_any test h || (b || false)) ≡ true → (list_any test h ≡ true) ⊎ (b ≡ true)
          by_last true some = inr refl
          by_last false some = inl (at_first (list_any test h) some)
            where
              at_first : (b : Bool) → (b || false) ≡ true → b ≡ true
              at_first true some = refl
              at_first false some = some

      at_event : (what : Happened) → NumberAt shape.ranks h what →
          (happened (is_arrival from n) h ≡ true) ⊎ (is_arrival from n what ≡ true) →
          from < shape.ranks
      at_event what number (inl before) = each from n before
      at_event (event.Arrive a) number (inr now) =
          subst (λ (i : ℕ). i < shape.ranks)
          (same_number a.env.from from (and_left (a.env.from == from) (a.n == n) now)) number.0
      at_event what number (inr now) = absurd (false≢true now)

  -- no message is withdrawn, since none was recalled
  plain_step : (i : ℕ) (h : List Event) (stamp : ℕ) (what : Happened) → i < shape.ranks → CameFromRanks h →
      EndAt h what →
      Fits shape.eager (cs i) what →
      ((from : ℕ) → from < shape.ranks → WithdrawAfterRecall from i (hist from) stamp what) → is_plain_event what ≡ true
  plain_step i h stamp (event.Post p line) inside came ends fit withdrawn = named_call shape.eager (cs i) p line fit
  plain_step i h stamp (event.Cancel number done) inside came ends fit withdrawn = absurd fit
  plain_step i h stamp (event.Claim from n line) inside came ends fit withdrawn = absurd fit
  plain_step i h stamp (event.Match number from n cap line) inside came ends fit withdrawn = absurd fit
  plain_step i h stamp (event.Withdraw from n done) inside came ends fit withdrawn =
      let within : from < shape.ranks = came from n ends.2 in
      absurd (false≢true (sym (no_recall shape.eager (cs from) (earlier_than stamp (hist from)) i n
      (fits_early shape.eager (cs from) stamp (hist from) (fits from within)))
      ∙ on_true (from == from) (IsTrue (happened (is_recall i n) (earlier_than stamp (hist from)))) (eqb_self from)
      (withdrawn from within)))
  plain_step i h stamp what inside came ends fit withdrawn = refl

  plain_after : (i : ℕ) (before events : List Event) → i < shape.ranks → CameFromRanks before →
      AtEachAfter (λ b e. NumberAt shape.ranks b e.what) before events →
      AtEachAfter (λ b e. EndAt b e.what) before events →
      EachFits shape.eager (cs i) events →
      ((from : ℕ) → from < shape.ranks → AllByRecursion (λ e. WithdrawAfterRecall from i (hist from) e.stamp e.what)
      events) →
      ArePlainEvents events
  plain_after i before [] inside came numbers ends fits withdrawn = tt
  plain_after i before (e ∷ events) inside came numbers ends fits withdrawn = (
    plain_step i before e.stamp e.what inside came ends.0 fits.0 (λ from within. (withdrawn from within).0),
    plain_after i (before ++ e ∷ []) events inside (came_step before e.stamp e.what came numbers.0) numbers.1 ends.1
        fits.1
        (λ from within. (withdrawn from within).1),
  )

  pub plain_events : (i : ℕ) → i < shape.ranks → ArePlainEvents (hist i)
  unfolding AtEach
  plain_events i inside =
      plain_after i [] (hist i) inside (λ from n came. absurd (false≢true came)) (run.own i inside).numbers
      (run.own i inside).ends (fits i inside)
      (λ from within. (run.carried from i within inside).withdrawals.asked)
