-- The state of the rank after the move.
use Rattle.std.proofs.Common.{ℕ, Option, Some, sym, ◌∙◌, ap}
use Rattle.std.specs.Prelude.{option_and_then}
use Rattle.std.specs.List.{slice_get}
use Rattle.nm_types.proofs.OptionLemmas.{no_some, same_some}
use Rattle.nm_outcomes.specs.RankStates.{Spot}
use Rattle.nm_explored.specs.Moves.{moved_at}
use Rattle.nm_explored.proofs.searches.Search.after.Goals as goal

pub returns-in_ok-made-in-Some : goal.returns-in_ok-made-in-Some
returns-in_ok-made-in-Some c ids spot here at =
    ap (λ (s : Spot). Some s)
    (c.in_ok-made-in-Some.ensures
    ∙ ap (λ (s : Spot). moved_at s c.args.turn.by)
    (same_some c.in-Some.rank spot
    (sym c.in-Some.is ∙ c.in_ok-rank.ensures
    ∙ ap (λ (o : Option ℕ). option_and_then (λ id. slice_get c.args.self.now.table id) o) (c.id_at.ensures ids here)
    ∙ at)))

pub returns-in-None : goal.returns-in-None
returns-in-None c ids spot here at =
    absurd
    (no_some spot
    (sym c.in-None.is ∙ c.in_ok-rank.ensures
    ∙ ap (λ (o : Option ℕ). option_and_then (λ id. slice_get c.args.self.now.table id) o) (c.id_at.ensures ids here)
    ∙ at))
