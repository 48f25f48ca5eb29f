use Rattle.std.specs.Prelude.{option_to_list}
use Rattle.std.specs.VecDeque.{deque_len}
use Rattle.std.proofs.Common.{◌≡◌, ◌+◌, ◌++◌, Option, None, List, length, subst, arith}
use Rattle.nm_sending.specs.declared.outbox.notes.Note.{Note}
use Rattle.nm_sending.specs.Notes.{left_of}
use Rattle.nm_sending.proofs.NoteLemmas.{range_first}
use Rattle.nm_sending.proofs.OutboxLemmas.{at_most_one, first_fits, first_inside, notes-pop, pops_first, some_note}
use Rattle.nm_sending.proofs.outbox.outboxes.Outbox.pop_front.Goals as goal

pub unwrap-note-requires : goal.unwrap-note-requires
unwrap-note-requires c =
    let o = c.self.inside in
    let some = some_note o.me o.notes.items (rw (← c.self.view_is) at c.requires) in
    c.pop_front.ensures.variant.1 (omega (arith, some, o.notes.ok.0))

pub overflow_add-note : goal.overflow_add-note
overflow_add-note c =
    let note = c.unwrap-note.result in
    let low = range_first note.seq (left_of note.load) note.some note.numbers_in_range in
    omega (arith, low)

pub index_mut-requires : goal.index_mut-requires
index_mut-requires c =
    let o = c.self.inside in
    let tail : List Note = c.pop_front.new.self.items in
    let split = subst (λ (first : Option Note). o.notes.items ≡ option_to_list first ++ tail)
    c.unwrap-note.ensures c.pop_front.ensures.items in
    let inside = first_inside o.me o.notes.items c.unwrap-note.result tail None o.popped.items o.put.items o.most
    c.self.invariant split in
    omega (arith, inside, o.popped.ok.0)

pub rest-requires : goal.rest-requires
rest-requires c =
    let o = c.self.inside in
    let tail : List Note = c.pop_front.new.self.items in
    let split = subst (λ (first : Option Note). o.notes.items ≡ option_to_list first ++ tail)
    c.unwrap-note.ensures c.pop_front.ensures.items in
    first_fits o.me o.notes.items c.unwrap-note.result tail None o.popped.items o.put.items o.most
    c.self.invariant split

pub put_back-requires : goal.put_back-requires
put_back-requires c = λ some.
    let o = c.self.inside in
    let one : deque_len c.pop_front.new.self + 1 ≡ deque_len o.notes =
    subst (λ (first : Option Note). deque_len c.pop_front.new.self + length (option_to_list first)
    ≡ deque_len o.notes) c.unwrap-note.ensures c.pop_front.ensures.len in
    omega (arith, one, o.notes.small.1, c.pop_front.ensures.capacity)

pub invariant_of-self : goal.invariant_of-self
invariant_of-self c =
    let o = c.self.inside in
    let tail : List Note = c.pop_front.new.self.items in
    let split = subst (λ (first : Option Note). o.notes.items ≡ option_to_list first ++ tail)
    c.unwrap-note.ensures c.pop_front.ensures.items in
    rw (c.put_back.ensures.items, c.to.ensures)
    (notes-pop o.me o.notes.items c.unwrap-note.result tail c.rest.result o.popped.items o.put.items o.most
    c.self.invariant split c.rest.ensures)

pub returns : goal.returns
returns c =
    let o = c.self.inside in
    let tail : List Note = c.pop_front.new.self.items in
    let split = subst (λ (first : Option Note). o.notes.items ≡ option_to_list first ++ tail)
    c.unwrap-note.ensures c.pop_front.ensures.items in
    let one : deque_len c.pop_front.new.self + 1 ≡ deque_len o.notes =
    subst (λ (first : Option Note). deque_len c.pop_front.new.self + length (option_to_list first)
    ≡ deque_len o.notes) c.unwrap-note.ensures c.pop_front.ensures.len in
    rw (← c.self.view_is, c.to.ensures)
    (pops_first o.me o.notes.items c.unwrap-note.result tail c.rest.result o.popped.items o.put.items o.most
    c.self.invariant split c.rest.ensures _ _ c.put_back.new.notes.items c.ended-last.result
    c.put_back.ensures.items
    (omega (
      arith,
      one,
      at_most_one c.rest.result,
      c.put_back.ensures.len,
      c.put_back.ensures.room,
      c.pop_front.ensures.capacity,
    ))
    c.ended-last.ensures)
