use Rattle.std.proofs.Common.{ℕ, cond, sym, ap, ◌∙◌, arith}
use Rattle.nm_types.proofs.ResultLemmas.{on_err}
use Rattle.nm_rndv.specs.Grants.{grants_from, with_piece}
use Rattle.nm_rndv.proofs.Results.{on_ok}
use Rattle.nm_rndv.proofs.SenderLemmas.{count-set, count-set_same, counted_there, counted_within}
use Rattle.nm_rndv.proofs.SenderLemmas.{grants_there, grants-set, grants-set_same, ready-set}
use Rattle.nm_rndv.proofs.SenderLemmas.{continues_within}
use Rattle.nm_rndv.proofs.granting.Grants.piece.Goals as goal

pub returns-in_err-add-clause-err : goal.returns-in_err-add-clause-err
returns-in_err-add-clause-err c =
    let within = continues_within c.args.self.now c.args.p.now c.requires in
    on_err c.from_residual.result (grants-set_same c.self.inside.senders.items c.args.self.now c.args.p.now.from
    c.self.view_is within c.index_mut-sender.result.now c.index_mut-sender.ensures.value c.add.new.self
    c.in_err-add.ensures.err)

pub returns-in_err-add-clause-ready : goal.returns-in_err-add-clause-ready
returns-in_err-add-clause-ready c =
    let within = continues_within c.args.self.now c.args.p.now c.requires in
    ready-set c.self.inside.senders.items c.args.self.now c.args.p.now.from c.self.view_is within
    c.index_mut-sender.result.now c.index_mut-sender.ensures.value c.add.new.self c.add.ensures.room

pub returns-clause-ok : goal.returns-clause-ok
returns-clause-ok c =
    let p = c.args.p.now in
    let within = continues_within c.args.self.now p c.requires in
    let there = grants_there c.self.inside.senders.items c.args.self.now p.from c.self.view_is within
    c.index_mut-sender.result.now c.index_mut-sender.ensures.value in
    on_ok c.if-as_slice-due.result (grants-set c.self.inside.senders.items c.args.self.now p.from c.self.view_is
    within c.index_mut-sender.result.now c.index_mut-sender.ensures.value c.add.new.self
    (with_piece (grants_from c.args.self.now p.from) p.n p.bytes)
    (c.in_ok-add.ensures.ok ∙ ap (λ gs. with_piece gs p.n p.bytes) there))

pub returns-clause-ready : goal.returns-clause-ready
returns-clause-ready c =
    let within = continues_within c.args.self.now c.args.p.now c.requires in
    ready-set c.self.inside.senders.items c.args.self.now c.args.p.now.from c.self.view_is within
    c.index_mut-sender.result.now c.index_mut-sender.ensures.value c.add.new.self c.add.ensures.room

pub recounted-self-inside-requires-clause-low : goal.recounted-self-inside-requires-clause-low
recounted-self-inside-requires-clause-low c =
    let within = continues_within c.args.self.now c.args.p.now c.requires in
    rw c.has_unfinished-had.ensures (rw c.self.invariant (counted_there c.self.inside.senders.items c.args.self.now
    c.args.p.now.from c.self.view_is within c.index_mut-sender.result.now c.index_mut-sender.ensures.value))

pub recounted-self-inside-requires-clause-high : goal.recounted-self-inside-requires-clause-high
recounted-self-inside-requires-clause-high c =
    let a = c.self.inside in
    omega (arith, c.self.invariant, counted_within a.senders.items, a.senders.ok.0)

pub invariant_of-self : goal.invariant_of-self
invariant_of-self c =
    let within = continues_within c.args.self.now c.args.p.now c.requires in
    c.self.invariant ∙ sym (count-set_same c.self.inside.senders.items c.args.self.now c.args.p.now.from c.self.view_is
    within c.index_mut-sender.result.now c.index_mut-sender.ensures.value c.add.new.self c.in_err-add.ensures.err)

pub invariant_of-self-2 : goal.invariant_of-self-2
invariant_of-self-2 c =
    let within = continues_within c.args.self.now c.args.p.now c.requires in
    let set = count-set c.self.inside.senders.items c.args.self.now c.args.p.now.from c.self.view_is within
    c.index_mut-sender.result.now c.index_mut-sender.ensures.value c.add.new.self in
    let had = ap {B = ℕ} (λ b. cond b 1 0) c.has_unfinished-had.ensures in
    let has = ap {B = ℕ} (λ b. cond b 1 0) c.has_unfinished-has.ensures in
    omega (arith, c.recounted-self-inside.ensures, c.self.invariant, set, had, has)
