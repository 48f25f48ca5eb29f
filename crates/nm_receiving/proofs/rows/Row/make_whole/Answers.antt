use Rattle.std.proofs.Common.{◌<◌, ◌∙◌, Bool, List, ap, arith, length, subst, sym}
use Rattle.std.proofs.lemmas.List.{length-map}
use Rattle.nm_receiving.specs.declared.receipts.Receipt.{Receipt}
use Rattle.nm_receiving.specs.declared.rows.Mark.{Mark}
use Rattle.nm_receiving.specs.declared.rows.Mark.TheVariants.{Whole}
use Rattle.nm_receiving.specs.Rows.{RowKeeps, RowView, is_settled, messages_of}
use Rattle.nm_receiving.proofs.RowLemmas.{keeps-whole, messages-note}
use Rattle.nm_receiving.proofs.rows.Row.make_whole.Goals as goal

pub settle-requires-clause-within : goal.settle-requires-clause-within
settle-requires-clause-within c =
    let many = ap (λ (bs : List Bool). length bs) c.self.invariant.each in
    let below = subst (λ (v : RowView). c.args.n < length v.messages) (sym c.self.view_is) c.requires in
    omega (arith, many, below, length-map (messages_of c.self.inside.marks.items) is_settled)

pub invariant_of-self : goal.invariant_of-self
invariant_of-self c =
    let a = c.self.inside in
    subst (λ (rs : List Receipt). RowKeeps rs c.settle.new.settled)
    (sym (ap (λ (ms : List Mark). messages_of ms) c.then-self-inside.ensures
    ∙ messages-note a.marks.items (Whole c.args.n)))
    (keeps-whole (messages_of a.marks.items) a.settled c.settle.new.settled c.args.n c.self.invariant
    c.settle.ensures.items c.settle.ensures.first)

pub returns : goal.returns
returns c =
    rw (← c.self.view_is)
    (ap (λ (ms : List Mark). messages_of ms) c.then-self-inside.ensures
    ∙ messages-note c.self.inside.marks.items (Whole c.args.n))
