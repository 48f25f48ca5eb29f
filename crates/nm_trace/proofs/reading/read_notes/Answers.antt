use Rattle.std.proofs.Common.{arith, sym, ◌∙◌}
use Rattle.std.proofs.lemmas.List.{length_push}
use Rattle.nm_trace.proofs.StageLemmas.{last_more, notes_end, notes_more}
use Rattle.nm_trace.proofs.reading.read_notes.Goals as goal

pub loop-notes-preserved : goal.loop-notes-preserved
loop-notes-preserved c =
    let more = c.in_ok-push_back.ensures.items in
    let read = rw c.in-Some.is at c.in_ok-note.ensures.read in
    let number = rw c.in-Some.is at c.in_ok-note.ensures.number in
    let text = c.loop-notes.text in
    let notes = c.loop-notes.notes.items in
    let note = c.in-Some.note in
    let longer = length_push notes note in
    record {
      told = rw (more, number) (c.loop-notes.invariant.told
          ∙ notes_more c.args.ranks text.rest.now text.number notes c.loop-notes.last note
          c.in-Some.after.rest.now c.loop-notes.invariant.last (sym read));
      last = rw more (sym (last_more 0 notes note));
      few = rw more (omega (arith, longer, number, c.loop-notes.invariant.few));
    }

pub returns-clause-told : goal.returns-clause-told
returns-clause-told c =
    let read = rw c.in_default.is at c.in_ok-note.ensures.read in
    let text = c.loop-notes.text in
    c.loop-notes.invariant.told
    ∙ notes_end c.args.ranks text.rest.now text.number c.loop-notes.notes.items c.loop-notes.last
    c.loop-notes.invariant.last (sym read)
