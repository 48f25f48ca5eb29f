use Rattle.std.proofs.Common.{ℕ, Option, false, ◌∙◌, ap}
use Rattle.std.specs.Prelude.{nat_lt}
use Rattle.std.specs.Option.{option_map_or}
use Rattle.nm_lookups.proofs.firsts.is_taken_before.Goals as goal

pub returns-in-Some : goal.returns-in-Some
returns-in-Some c = λ h taken.
    ap (λ (o : Option ℕ). option_map_or (λ t. nat_lt t c.args.k) o false) c.in-Some.ensures.value
    ∙ taken (record { rank = c.args.rank; n = c.args.n }) c.args.k

pub returns-in-None : goal.returns-in-None
returns-in-None c = λ h taken.
    ap (λ (o : Option ℕ). option_map_or (λ t. nat_lt t c.args.k) o false) c.in-None.ensures.value
    ∙ taken (record { rank = c.args.rank; n = c.args.n }) c.args.k
