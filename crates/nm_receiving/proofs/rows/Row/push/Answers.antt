use Rattle.std.proofs.Common.{◌+◌, ◌<◌, ◌^◌, ◌++◌, ◌∷◌, [], ◌∙◌, Bool, List, ap, arith, length, subst, sym}
use Rattle.nm_kept.specs.Keeping.{Keeping}
use Rattle.nm_receiving.specs.declared.receipts.Receipt.{Receipt}
use Rattle.nm_receiving.specs.declared.rows.Mark.{Mark}
use Rattle.nm_receiving.specs.declared.rows.Mark.TheVariants.{Came}
use Rattle.nm_receiving.specs.Rows.{RowKeeps, RowView, messages_of}
use Rattle.nm_receiving.proofs.RowLemmas.{keeps-push, messages-note, settled-push}
use Rattle.nm_receiving.proofs.rows.Row.push.Goals as goal

pub let_go-requires : goal.let_go-requires
let_go-requires c =
    rw c.push_reserved.ensures
    (omega (arith, c.self.invariant.first, settled-push c.self.inside.settled.items c.is_settled-is_settled.result))

pub invariant_of-self : goal.invariant_of-self
invariant_of-self c =
    let a = c.self.inside in
    subst (λ (rs : List Receipt). RowKeeps rs c.let_go.new.settled)
    (sym (ap (λ (ms : List Mark). messages_of ms) c.then-self-inside.ensures
    ∙ messages-note a.marks.items (Came c.args.receipt)))
    (keeps-push (messages_of a.marks.items) a.settled c.push_reserved.new.self c.let_go.new.settled c.args.receipt
    c.self.invariant
    (ap (λ (k : Keeping Bool). k.items) c.push_reserved.ensures
    ∙ ap (λ (b : Bool). a.settled.items ++ b ∷ []) c.is_settled-is_settled.ensures)
    c.let_go.ensures.items c.let_go.ensures.first
    (subst (λ (v : RowView). length v.messages + 1 < 2 ^ 64) (sym c.self.view_is) c.requires.few))

pub returns : goal.returns
returns c =
    rw (← c.self.view_is)
    (ap (λ (ms : List Mark). messages_of ms) c.then-self-inside.ensures
    ∙ messages-note c.self.inside.marks.items (Came c.args.receipt))
