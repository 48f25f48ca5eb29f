use Rattle.std.proofs.Common.{◌∙◌, ap, false}
use Rattle.std.specs.Option.{option_map_or}
use Rattle.nm_kept.proofs.EntryLemmas.{test_kept}
use Rattle.nm_rndv.specs.Grants.{grant_in, has_bytes, is_open}
use Rattle.nm_rndv.proofs.GrantLemmas.{taken_closed}
use Rattle.nm_rndv.proofs.senders.Sender.is_open.Goals as goal

pub returns-in-Some : goal.returns-in-Some
returns-in-Some c =
    c.is_open.ensures ∙ ap (λ o. option_map_or is_open o false) c.in-Some.ensures
    ∙ test_kept has_bytes is_open taken_closed (grant_in c.args.self.now.grants c.args.n)

pub returns-in-None : goal.returns-in-None
returns-in-None c =
    ap (λ o. option_map_or is_open o false) c.in-None.ensures
    ∙ test_kept has_bytes is_open taken_closed (grant_in c.args.self.now.grants c.args.n)
