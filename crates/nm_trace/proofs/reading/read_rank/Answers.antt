use Rattle.std.proofs.Common.{◌≡◌, Some, None, refl, sym, ◌∙◌}
use Rattle.nm_history.specs.Quiescence.{Ended}
use Rattle.nm_trace.specs.Machine.{ended}
use Rattle.nm_trace.proofs.StageLemmas.{account_ends, account_waits}
use Rattle.nm_trace.proofs.reading.read_rank.Goals as goal

pub returns-in-Some-clause-told : goal.returns-in-Some-clause-told
returns-in-Some-clause-told c = λ p same.
    let read = rw c.in-Some.is at c.in_ok-line.ensures.read in
    let number = rw c.in-Some.is at c.in_ok-line.ensures.number in
    let deeds = c.in_ok-deeds.deeds in
    let text = c.in_ok-deeds.text in
    let after = c.in-Some.after in
    let e : Ended = record { at = deeds.at; waits = Some c.in-Some.line; events = c.from_vec-history.result.events } in
    let is : e ≡ ended deeds.events.items (Some c.in-Some.line) = rw
    (c.from_vec-history.ensures, c.in_ok-deeds.ensures.at) refl in
    c.in_ok-deeds.ensures.told p same
    ∙ account_waits p deeds.events.items text.rest.now text.number c.args.rank c.read_events.new.notes.items
    c.in-Some.line after.rest.now e after.number same c.in_ok-deeds.ensures.others (sym read) is number

pub returns-in-None-clause-told : goal.returns-in-None-clause-told
returns-in-None-clause-told c = λ p same.
    let read = rw c.in-None.is at c.in_ok-line.ensures.read in
    let deeds = c.in_ok-deeds.deeds in
    let text = c.in_ok-deeds.text in
    let e : Ended = record { at = deeds.at; waits = None; events = c.from_vec-history.result.events } in
    let is : e ≡ ended deeds.events.items None = rw (c.from_vec-history.ensures, c.in_ok-deeds.ensures.at) refl in
    c.in_ok-deeds.ensures.told p same
    ∙ account_ends p deeds.events.items text.rest.now text.number c.args.rank c.read_events.new.notes.items
    e same c.in_ok-deeds.ensures.others (sym read) is
