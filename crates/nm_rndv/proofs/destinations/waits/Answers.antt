use Rattle.std.proofs.Common.{◌∙◌, ap, false, nat_eq}
use Rattle.std.specs.Map.{lookup}
use Rattle.std.specs.Option.{option_map_or}
use Rattle.nm_kept.proofs.EntryLemmas.{test_kept}
use Rattle.nm_rndv.specs.Offers.{has_body, is_waiting}
use Rattle.nm_rndv.proofs.StateLemmas.{bare_waits}
use Rattle.nm_rndv.proofs.destinations.waits.Goals as goal

pub returns-in-Some : goal.returns-in-Some
returns-in-Some c =
    c.is_waiting.ensures ∙ ap (λ o. option_map_or is_waiting o false) (c.in-Some.ensures ∙ c.requires.there c.args.n)
    ∙ test_kept has_body is_waiting bare_waits (lookup (nat_eq c.args.n) c.args.asked.now.entries)

pub returns-in-None : goal.returns-in-None
returns-in-None c =
    ap (λ o. option_map_or is_waiting o false) (c.in-None.ensures ∙ c.requires.there c.args.n)
    ∙ test_kept has_body is_waiting bare_waits (lookup (nat_eq c.args.n) c.args.asked.now.entries)
