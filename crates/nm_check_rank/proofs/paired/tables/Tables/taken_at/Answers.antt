use Rattle.std.proofs.Common.{ℕ, Option, Some, None, false, ◌∙◌, ap}
use Rattle.std.specs.Prelude.{nat_lt}
use Rattle.std.specs.Option.{option_map_or}
use Rattle.nm_check_rank.proofs.TakenLemmas.{taken_found}
use Rattle.nm_check_rank.proofs.paired.tables.Tables.taken_at.Goals as goal

pub returns-in-Some : goal.returns-in-Some
returns-in-Some c = λ rank lines h told.
    taken_found h c.args.from c.args.n (Some c.in-Some.place.now)
    (λ k. ap (λ (o : Option ℕ). option_map_or (λ t. nat_lt t k) o false) c.in-Some.ensures.value
    ∙ c.taken-taken.ensures rank lines h told.tells (record { rank = c.args.from; n = c.args.n }) k)

pub returns-in-None : goal.returns-in-None
returns-in-None c = λ rank lines h told.
    taken_found h c.args.from c.args.n None
    (λ k. ap (λ (o : Option ℕ). option_map_or (λ t. nat_lt t k) o false) c.in-None.ensures.value
    ∙ c.taken-taken.ensures rank lines h told.tells (record { rank = c.args.from; n = c.args.n }) k)
