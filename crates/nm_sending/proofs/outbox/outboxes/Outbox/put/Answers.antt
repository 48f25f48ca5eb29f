use Rattle.std.proofs.Common.{◌+◌, ◌∙◌, ap, arith}
use Rattle.nm_sending.proofs.OutboxLemmas.{notes-put, view-put}
use Rattle.nm_sending.proofs.outbox.outboxes.Outbox.put.Goals as goal

pub invariant_of-self : goal.invariant_of-self
invariant_of-self c =
    let o = c.self.inside in
    rw (c.push_back_reserved.ensures.items, c.max-self-inside.ensures, c.to-to.ensures)
    (notes-put o.me o.notes.items o.popped.items o.put.items o.most c.args.note _ c.self.invariant
    (rw (← c.self.view_is) at c.requires.to) (rw (← c.self.view_is) at c.requires.number) c.requires.fits
    (ap (λ n. c.args.note.seq + n) (c.from.ensures ∙ c.left.ensures)))

pub returns : goal.returns
returns c =
    let o = c.self.inside in
    view-put c.args.self.now o.me o.notes.items c.push_back_reserved.new.self.items o.popped.items _ _ c.args.note
    c.self.view_is c.push_back_reserved.ensures.items
    (omega (arith, c.push_back_reserved.ensures.len, c.push_back_reserved.ensures.capacity))
