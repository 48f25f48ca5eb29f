-- Moves lead to the new state.
use Rattle.std.proofs.Common.{◌≡◌, ◌⊎◌, List, [], ◌∷◌, ◌++◌, Some, sym, ◌∙◌, ap, subst, ℕ}
use Rattle.std.specs.List.{slice_get, slice_set}
use Rattle.nm_types.proofs.OptionLemmas.{same_some}
use Rattle.nm_outcomes.specs.RankStates.{Spot}
use Rattle.nm_search.specs.Lists.{Extends}
use Rattle.nm_search.specs.Lists.{StandOnce}
use Rattle.nm_explored.specs.Stores.{Store}
use Rattle.nm_explored.proofs.BackLemmas.{back_next}
use Rattle.nm_explored.proofs.MetLemmas.{made_next}
use Rattle.nm_explored.proofs.searches.Search.follow.Goals as goal

pub returns-clause-made : goal.returns-clause-made
returns-clause-made c eager ranks lines made turns =
    made_next eager ranks lines c.args.self.now c.add.new.self c.args.k c.args.turn c.in_ok-id.id c.in-Some.after made
    (subst (λ (t : List Spot). Extends c.args.self.now.table t) (sym c.in_ok-add.ensures.table)
    (subst (λ (t : List Spot). Extends t c.number.new.self) (ap (λ (s : Store). s.table) c.self.view_is)
    c.in_ok-id.ensures.kept))
    (subst (λ (t : List Spot). StandOnce t) (sym c.in_ok-add.ensures.table) c.in_ok-id.ensures.once)
    (c.in_ok-add.ensures.once
    (subst (λ (ss : List (List ℕ)). StandOnce ss) (sym (ap (λ (s : Store). s.states) c.self.view_is)) made.states))
    (ap (λ (t : List Spot). slice_get t c.in_ok-id.id) c.in_ok-add.ensures.table ∙ c.in_ok-id.ensures.there)
    turns
    (λ ids spot here at. same_some _ _ (sym c.in-Some.is ∙ c.in_ok-after.ensures ids spot here at))
    (subst (λ (ss : List (List ℕ)). (c.add.new.self.states ≡ ss)
    ⊎ ((ids : List ℕ) × (slice_get ss c.args.k ≡ Some ids)
    × (c.add.new.self.states ≡ ss ++ slice_set ids c.args.turn.rank c.in_ok-id.id ∷ [])))
    (ap (λ (s : Store). s.states) c.self.view_is) c.in_ok-add.ensures.only)

-- .. and how it was found
pub returns-clause-back : goal.returns-clause-back
returns-clause-back c eager ranks lines made back turns =
    back_next eager ranks lines c.args.self.now c.add.new.self c.args.k c.args.turn c.in_ok-id.id c.in-Some.after made
    back
    (record {
      table = subst (λ (t : List Spot). Extends c.args.self.now.table t) (sym c.in_ok-add.ensures.table)
          (subst (λ (t : List Spot). Extends t c.number.new.self) (ap (λ (s : Store). s.table) c.self.view_is)
          c.in_ok-id.ensures.kept);
      states = subst (λ (ss : List (List ℕ)). Extends ss c.add.new.self.states)
          (ap (λ (s : Store). s.states) c.self.view_is) c.in_ok-add.ensures.kept;
    })
    (ap (λ (t : List Spot). slice_get t c.in_ok-id.id) c.in_ok-add.ensures.table ∙ c.in_ok-id.ensures.there)
    turns
    (λ ids spot here at. same_some _ _ (sym c.in-Some.is ∙ c.in_ok-after.ensures ids spot here at))
    (subst (λ (s : Store). ((c.add.new.self.states ≡ s.states) × (c.add.new.self.ways ≡ s.ways))
    ⊎ ((ids : List ℕ) × (slice_get s.states c.args.k ≡ Some ids)
    × (c.add.new.self.states ≡ s.states ++ slice_set ids c.args.turn.rank c.in_ok-id.id ∷ [])
    × (c.add.new.self.ways
    ≡ s.ways ++ Some (record { before = c.args.k; rank = c.args.turn.rank; by = c.args.turn.by }) ∷ [])))
    c.self.view_is c.in_ok-add.ensures.ways)
