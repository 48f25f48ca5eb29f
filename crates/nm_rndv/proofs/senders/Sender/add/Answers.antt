use Rattle.std.proofs.Common.{◌≡◌, ◌∙◌, Some, ap, sym, nat_eq, false, cond, not, drop}
use Rattle.std.specs.Option.{option_map, option_map_or}
use Rattle.std.proofs.lemmas.Map.Steps.{set_value_same}
use Rattle.std.proofs.lemmas.Result.{on_ok_weaker, on_err_weaker}
use Rattle.nm_rndv.specs.Grants.{FromSender, expected_in, has_bytes, is_open, with_grant, with_more}
use Rattle.nm_rndv.proofs.GrantLemmas.{expected_there, open_has_bytes, open_in, open_set}
use Rattle.nm_rndv.proofs.senders.Sender.add.Goals as goal

pub lift-grant-requires-clause-there : goal.lift-grant-requires-clause-there
lift-grant-requires-clause-there c =
    let named = ap (λ (v : FromSender). option_map (λ at. at.0) (expected_in v.grants)) c.self.view_is ∙ c.requires in
    let e = expected_there c.self.inside.grants.entries c.self.invariant.live.distinct c.args.p.now.n named in
    ap (λ o. option_map_or has_bytes o false) e.2 ∙ open_has_bytes e.0 e.3

pub set-requires-clause-bytes : goal.set-requires-clause-bytes
set-requires-clause-bytes c =
    let named = ap (λ (v : FromSender). option_map (λ at. at.0) (expected_in v.grants)) c.self.view_is ∙ c.requires in
    let e = expected_there c.self.inside.grants.entries c.self.invariant.live.distinct c.args.p.now.n named in
    let same : Some e.0 ≡ Some c.lift-grant.result = sym e.2 ∙ c.lift-grant.ensures.value in
    let is : e.0 ≡ c.lift-grant.result = cc in
    c.add-added.ensures.kept ∙ ap has_bytes (sym is) ∙ open_has_bytes e.0 e.3

pub invariant_of-self : goal.invariant_of-self
invariant_of-self c =
    let es = c.self.inside.grants.entries in let n = c.args.p.now.n in let w = c.add-added.new.self in
    let named = ap (λ (v : FromSender). option_map (λ at. at.0) (expected_in v.grants)) c.self.view_is ∙ c.requires in
    let e = expected_there es c.self.invariant.live.distinct n named in
    let entries = c.set.ensures.entries ∙ c.lift-grant.ensures.others w in
    record {
      live = c.set.ensures.live;
      numbers = c.close_if.ensures.items
          ∙ ap (λ b. cond (not b) (drop 1 c.self.inside.unfinished.items) c.self.inside.unfinished.items)
          c.is_open-is_open.ensures
          ∙ ap (λ ns. cond (not (is_open w)) (drop 1 ns) ns) c.self.invariant.numbers
          ∙ sym (ap open_in entries ∙ open_set n w es e.0 e.1 e.2 e.3);
    }

pub returns-clause-ok : goal.returns-clause-ok
returns-clause-ok c =
    let es = c.self.inside.grants.entries in let n = c.args.p.now.n in let w = c.add-added.new.self in
    let entries = c.set.ensures.entries ∙ c.lift-grant.ensures.others w in
    let there = c.lift-grant.ensures.value in
    on_ok_weaker c.add-added.result
    (λ is. entries ∙ rw (← c.self.view_is, there)
    (ap (with_grant es n) (is ∙ ap (with_more c.lift-grant.result) c.as_slice.ensures.value))) c.add-added.ensures.ok

pub returns-clause-err : goal.returns-clause-err
returns-clause-err c =
    let es = c.self.inside.grants.entries in let n = c.args.p.now.n in let w = c.add-added.new.self in
    let entries = c.set.ensures.entries ∙ c.lift-grant.ensures.others w in
    on_err_weaker c.add-added.result
    (λ same. entries ∙ set_value_same (nat_eq n) es w (c.lift-grant.ensures.value ∙ ap Some (sym same))
    ∙ ap (λ (v : FromSender). v.grants) c.self.view_is) c.add-added.ensures.err
