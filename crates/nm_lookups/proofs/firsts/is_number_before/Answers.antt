use Rattle.std.proofs.Common.{ℕ, Option, false, ◌∙◌, ap}
use Rattle.std.specs.Prelude.{nat_lt}
use Rattle.std.specs.Option.{option_map_or}
use Rattle.nm_lookups.proofs.FirstLemmas.{happened_at_number}
use Rattle.nm_lookups.proofs.firsts.is_number_before.Goals as goal

pub returns-in-Some : goal.returns-in-Some
returns-in-Some g c = λ h firsts.
    ap (λ (o : Option ℕ). option_map_or (λ t. nat_lt t c.args.k) o false) c.in-Some.ensures.value
    ∙ happened_at_number g.T.Numbering.is_at c.args.places.now h c.args.k c.args.number firsts

pub returns-in-None : goal.returns-in-None
returns-in-None g c = λ h firsts.
    ap (λ (o : Option ℕ). option_map_or (λ t. nat_lt t c.args.k) o false) c.in-None.ensures.value
    ∙ happened_at_number g.T.Numbering.is_at c.args.places.now h c.args.k c.args.number firsts
