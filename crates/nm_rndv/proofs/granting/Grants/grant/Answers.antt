use Rattle.std.proofs.Common.{ℕ, ◌≡◌, ◌++◌, [], ◌∷◌, cond, ap, ◌∙◌, arith}
use Rattle.std.proofs.lemmas.Result.{on_ok_weaker, on_err_weaker}
use Rattle.nm_rndv.specs.Grants.{fresh, grants_from}
use Rattle.nm_rndv.proofs.SenderLemmas.{count-set, counted_there, counted_within, grants_there, grants-set}
use Rattle.nm_rndv.proofs.SenderLemmas.{grants-set_same}
use Rattle.nm_rndv.proofs.SenderLemmas.{ready_for_there, ready_there}
use Rattle.nm_rndv.proofs.granting.Grants.grant.Goals as goal

pub returns-clause-ok : goal.returns-clause-ok
returns-clause-ok c =
    let s = c.index_mut-sender.result.now in
    let there = grants_there c.self.inside.senders.items c.args.self.now c.args.from c.self.view_is
    c.requires.in_range s c.index_mut-sender.ensures.value in
    let new' = λ (e : c.grant-whole.new.self.grants ≡ s.grants ++
    (c.args.n, fresh c.args.len) ∷ []). grants-set c.self.inside.senders.items c.args.self.now c.args.from
    c.self.view_is c.requires.in_range s c.index_mut-sender.ensures.value c.grant-whole.new.self
    (grants_from c.args.self.now c.args.from ++ (c.args.n, fresh c.args.len) ∷ [])
    (e ∙ ap (λ gs. gs ++ (c.args.n, fresh c.args.len) ∷ []) there) in
    on_ok_weaker c.grant-whole.result new' c.grant-whole.ensures.ok

pub returns-clause-err : goal.returns-clause-err
returns-clause-err c =
    on_err_weaker c.grant-whole.result (grants-set_same c.self.inside.senders.items c.args.self.now c.args.from
    c.self.view_is c.requires.in_range c.index_mut-sender.result.now c.index_mut-sender.ensures.value
    c.grant-whole.new.self)
    c.grant-whole.ensures.err

pub returns-clause-succeeds : goal.returns-clause-succeeds
returns-clause-succeeds c =
    λ ready. c.grant-whole.ensures.succeeds (ready_there c.self.inside.senders.items c.args.self.now c.args.from
    c.self.view_is c.requires.in_range c.index_mut-sender.result.now c.index_mut-sender.ensures.value ready)

pub returns-clause-succeeds_for : goal.returns-clause-succeeds_for
returns-clause-succeeds_for c =
    λ ready. c.grant-whole.ensures.succeeds (ready_for_there c.self.inside.senders.items c.args.self.now c.args.from
    c.self.view_is c.requires.in_range c.index_mut-sender.result.now c.index_mut-sender.ensures.value ready)

pub recounted-self-inside-requires-clause-low : goal.recounted-self-inside-requires-clause-low
recounted-self-inside-requires-clause-low c =
    let s = c.index_mut-sender.result.now in
    rw c.has_unfinished-had.ensures (rw c.self.invariant (counted_there c.self.inside.senders.items c.args.self.now
    c.args.from c.self.view_is c.requires.in_range s c.index_mut-sender.ensures.value))

pub recounted-self-inside-requires-clause-high : goal.recounted-self-inside-requires-clause-high
recounted-self-inside-requires-clause-high c =
    let a = c.self.inside in
    omega (arith, c.self.invariant, counted_within a.senders.items, a.senders.ok.0)

pub invariant_of-self : goal.invariant_of-self
invariant_of-self c =
    let a = c.self.inside in
    let s = c.index_mut-sender.result.now in
    let y = c.grant-whole.new.self in
    let set = count-set a.senders.items c.args.self.now c.args.from c.self.view_is c.requires.in_range s
    c.index_mut-sender.ensures.value y in
    let had = ap {B = ℕ} (λ b. cond b 1 0) c.has_unfinished-had.ensures in
    let has = ap {B = ℕ} (λ b. cond b 1 0) c.has_unfinished-has.ensures in
    omega (arith, c.recounted-self-inside.ensures, c.self.invariant, set, had, has)
