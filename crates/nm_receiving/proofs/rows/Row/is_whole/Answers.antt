use Rattle.std.specs.Prelude.{IsSomeAnd}
use Rattle.std.proofs.Common.{◌≡◌, false, subst, sym}
use Rattle.std.proofs.lemmas.Bool.{false≢true}
use Rattle.std.specs.List.{slice_get}
use Rattle.nm_history.specs.Sends.{is_ask}
use Rattle.nm_receiving.specs.Rows.{RowView, messages_of}
use Rattle.nm_receiving.proofs.RowLemmas.{gone-whole, told-whole}
use Rattle.nm_receiving.proofs.rows.Row.is_whole.Goals as goal

pub returns-in-Some : goal.returns-in-Some
returns-in-Some c =
    let a = c.self.inside in
    let eager = subst (λ (v : RowView). IsSomeAnd (slice_get v.messages c.args.n)
    (λ r. is_ask r.arrival.env.how ≡ false)) (sym c.self.view_is) c.requires in
    rw (← c.self.view_is)
    (told-whole (messages_of a.marks.items) a.settled.items c.args.n _ c.self.invariant.each eager
    c.in-Some.ensures.item)

pub returns-in-None : goal.returns-in-None
returns-in-None c =
    let a = c.self.inside in
    let eager = subst (λ (v : RowView). IsSomeAnd (slice_get v.messages c.args.n)
    (λ r. is_ask r.arrival.env.how ≡ false)) (sym c.self.view_is) c.requires in
    rw (← c.self.view_is)
    (gone-whole (messages_of a.marks.items) a.settled c.args.n c.self.invariant eager
    (λ held. false≢true (c.in-None.ensures.held.1 held)))
