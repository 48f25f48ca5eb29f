use Rattle.std.proofs.Common.{◌≡◌, ◌∙◌, None, ap, sym, cond, [], ◌∷◌, ◌++◌, nat_lt}
use Rattle.nm_kept.proofs.EntryLemmas.{absent, live_put, live_same}
use Rattle.nm_rndv.specs.Grants.{FromSender, grant_in, has_bytes, is_open}
use Rattle.nm_rndv.proofs.GrantLemmas.{open_in, open_more}
use Rattle.nm_rndv.proofs.senders.Sender.grant.Goals as goal

pub put-requires-clause-is_absent : goal.put-requires-clause-is_absent
put-requires-clause-is_absent c =
    absent has_bytes c.self.inside.grants c.self.invariant.live c.args.n
    (ap (λ (v : FromSender). grant_in v.grants c.args.n) c.self.view_is ∙ c.requires)

pub invariant_of-self-in_err-put : goal.invariant_of-self-in_err-put
invariant_of-self-in_err-put c =
    let a = c.self.inside in
    record {
      live = live_same has_bytes a.grants c.put.new.self c.self.invariant.live c.in_err-put.ensures.err
          c.in_err-put.ensures.err_live;
      numbers = c.reserve.ensures.items ∙ c.self.invariant.numbers ∙ sym (ap open_in c.in_err-put.ensures.err);
    }

pub invariant_of-self-2 : goal.invariant_of-self-2
invariant_of-self-2 c =
    let a = c.self.inside in
    let new : grant_in a.grants.entries c.args.n ≡ None =
    ap (λ (v : FromSender). grant_in v.grants c.args.n) c.self.view_is ∙ c.requires in
    record {
      live = live_put has_bytes a.grants c.self.invariant.live c.args.n c.put.new.self c.new.result new
          (ap has_bytes c.new.ensures) c.in_ok-put.ensures.entries c.in_ok-put.ensures.live;
      numbers = c.open_if.ensures.items
          ∙ ap (λ ns. ns ++ cond (nat_lt 0 c.args.len) (c.args.n ∷ []) [])
          (c.reserve.ensures.items ∙ c.self.invariant.numbers)
          ∙ sym (ap open_in c.in_ok-put.ensures.entries
          ∙ open_more a.grants.entries c.args.n c.new.result
          ∙ ap (λ g. open_in a.grants.entries ++ cond (is_open g) (c.args.n ∷ []) []) c.new.ensures);
    }
