use Rattle.std.proofs.Common.{ℕ, ◌∙◌, ap, subst, sym, arith}
use Rattle.nm_sending.specs.Notes.{Matter, left_of}
use Rattle.nm_sending.specs.Letters.{Fits}
use Rattle.nm_sending.specs.Outboxes.{put_to}
use Rattle.nm_sending.proofs.NoteLemmas.{range_within}
use Rattle.nm_sending.proofs.OutboxLemmas.{message_put}
use Rattle.nm_sending.proofs.outbox.outboxes.Outbox.put_message.Goals as goal

pub cut-note-requires-clause-some : goal.cut-note-requires-clause-some
cut-note-requires-clause-some c = omega (arith, c.count-count.ensures)

pub cut-note-requires-clause-numbers : goal.cut-note-requires-clause-numbers
cut-note-requires-clause-numbers c =
    range_within c.next_number-number.result c.count-count.result
    (omega (arith, c.next_number-number.ensures, c.count-count.ensures, c.requires.few))

pub put-requires-clause-number : goal.put-requires-clause-number
put-requires-clause-number c =
    let n = c.cut-note.ensures in
    n.number ∙ c.next_number-number.ensures ∙ ap (λ (k : ℕ). put_to c.args.self.now k) (sym n.to)

pub put-requires-clause-few : goal.put-requires-clause-few
put-requires-clause-few c =
    let n = c.cut-note.ensures in
    omega (arith, n.number, n.left, c.next_number-number.ensures, c.count-count.ensures, c.requires.few)

pub put-requires-clause-fits : goal.put-requires-clause-fits
put-requires-clause-fits c =
    let n = c.cut-note.ensures in
    subst (λ (m : Matter). Fits (left_of c.cut-note.result.load) m) (sym n.matter)
    (omega (arith, n.left, c.count-count.ensures, c.requires.none))

pub returns : goal.returns
returns c =
    let n = c.cut-note.ensures in
    message_put c.args.cutter c.args.to c.args.stamp c.args.self.now c.put.new.self c.cut-note.result n.to
    (n.number ∙ c.next_number-number.ensures) n.stamp (n.left ∙ c.count-count.ensures) n.matter c.requires.none
    c.put.ensures
