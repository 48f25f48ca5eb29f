use Rattle.std.specs.Prelude.{IfSome, MatchOption}
use Rattle.std.proofs.Common.{◌≡◌, ℕ, ◌<◌, ◌∙◌, Bor, Option, Some, None, get_or, length, is_some, slice_get, subst}
use Rattle.std.proofs.Common.{arith, sym, ap, true≢false}
use Rattle.nm_sending.specs.Letters.{letters_in}
use Rattle.nm_sending.specs.declared.outbox.notes.Note.{Note}
use Rattle.nm_sending.proofs.OutboxLemmas.{first_inside, first_note, front_goes, no_notes}
use Rattle.nm_sending.proofs.outbox.outboxes.Outbox.front_to.Goals as goal

pub returns-in_err-note-clause-first : goal.returns-in_err-note-clause-first
returns-in_err-note-clause-first c =
    let o = c.self.inside in
    rw (← c.self.view_is)
    (no_notes o.me o.notes.items _ _
    (λ some. true≢false (sym (c.front.ensures.variant.1 (omega (arith, some, o.notes.ok.0)))
    ∙ ap is_some c.in_err-note.was))
    c.from_residual.ensures)

pub returns-clause-first : goal.returns-clause-first
returns-clause-first c =
    let o = c.self.inside in
    let f = first_note o.notes.items c.front.result c.in_ok-note.note c.in_ok-note.was
    (λ some. let long = c.front.ensures.variant.0 some in omega (arith, long, o.notes.ok.0))
    (subst (λ (r : Option (Bor Note)). IfSome r (λ x. x.now ≡ get_or o.notes.items 0 x.now)) c.in_ok-note.was
    c.front.ensures.lookup) in
    rw (← c.self.view_is)
    (subst (λ (to : ℕ). MatchOption (slice_get (letters_in o.me o.notes.items) 0) (◌≡◌ {A = Option ℕ} (Some to) None)
    (λ letter. to ≡ letter.to)) (sym c.to.ensures)
    (front_goes o.me o.notes.items c.in_ok-note.note.now f.0 None o.popped.items o.put.items o.most
    c.self.invariant f.1 _))

pub returns-clause-to : goal.returns-clause-to
returns-clause-to c =
    let o = c.self.inside in
    let f = first_note o.notes.items c.front.result c.in_ok-note.note c.in_ok-note.was
    (λ some. let long = c.front.ensures.variant.0 some in omega (arith, long, o.notes.ok.0))
    (subst (λ (r : Option (Bor Note)). IfSome r (λ x. x.now ≡ get_or o.notes.items 0 x.now)) c.in_ok-note.was
    c.front.ensures.lookup) in
    rw (← c.self.view_is)
    (subst (λ (to : ℕ). to < length o.popped.items) (sym c.to.ensures)
    (first_inside o.me o.notes.items c.in_ok-note.note.now f.0 None o.popped.items o.put.items o.most
    c.self.invariant f.1))
