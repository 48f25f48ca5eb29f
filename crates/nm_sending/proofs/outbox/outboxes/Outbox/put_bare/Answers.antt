use Rattle.std.proofs.Common.{ℕ, ◌∙◌, ap, subst, sym, arith}
use Rattle.nm_sending.specs.Notes.{Matter, left_of}
use Rattle.nm_sending.specs.Letters.{Fits}
use Rattle.nm_sending.specs.Outboxes.{put_to}
use Rattle.nm_sending.proofs.NoteLemmas.{range_within}
use Rattle.nm_sending.proofs.OutboxLemmas.{bare_put}
use Rattle.nm_sending.proofs.outbox.outboxes.Outbox.put_bare.Goals as goal

pub bare-note-requires-clause-numbers : goal.bare-note-requires-clause-numbers
bare-note-requires-clause-numbers c =
    range_within c.next_number-number.result 1 (omega (arith, c.next_number-number.ensures, c.requires.few))

pub put-requires-clause-number : goal.put-requires-clause-number
put-requires-clause-number c =
    let n = c.bare-note.ensures in
    n.number ∙ c.next_number-number.ensures ∙ ap (λ (k : ℕ). put_to c.args.self.now k) (sym n.to)

pub put-requires-clause-few : goal.put-requires-clause-few
put-requires-clause-few c =
    let n = c.bare-note.ensures in
    omega (arith, n.number, n.left, c.next_number-number.ensures, c.requires.few)

pub put-requires-clause-fits : goal.put-requires-clause-fits
put-requires-clause-fits c =
    let n = c.bare-note.ensures in
    subst (λ (m : Matter). Fits (left_of c.bare-note.result.load) m) (sym n.matter) n.left

pub returns : goal.returns
returns c =
    let n = c.bare-note.ensures in
    bare_put c.args.to c.args.stamp c.args.what c.args.self.now c.put.new.self c.bare-note.result n.to
    (n.number ∙ c.next_number-number.ensures) n.stamp n.left n.matter c.put.ensures
