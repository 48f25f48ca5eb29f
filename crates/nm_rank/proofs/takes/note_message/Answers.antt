use Rattle.std.proofs.Common.{arith, length-append}
use Rattle.std.specs.Prelude.{option_map, option_to_list}
use Rattle.nm_history.specs.declared.events.Happened.TheVariants.{Arrive}
use Rattle.nm_history.specs.Effects.{whole_if}
use Rattle.nm_rank.proofs.ReceiveLemmas.{whole-few}
use Rattle.nm_rank.proofs.TakeLemmas.{at-most-one, two-events}
use Rattle.nm_rank.proofs.takes.note_message.Goals as goal

pub returns-clause-events : goal.returns-clause-events
returns-clause-events g c = let made = c.args.made in
    two-events c.args.journal.now.events c.note_arrival.new.journal.events c.note_whole.new.journal.events
    c.args.journal.now.clock c.note_arrival.new.journal.clock (option_to_list (option_map Arrive made.arrival))
    (whole_if made.whole c.args.from made.n)
    c.note_arrival.ensures.events c.note_arrival.ensures.clock c.note_whole.ensures.events

pub returns-clause-clock : goal.returns-clause-clock
returns-clause-clock g c = let made = c.args.made in
    let first = c.note_arrival.ensures.clock in
    let second = c.note_whole.ensures.clock in
    omega (
      arith,
      first,
      second,
      length-append (option_to_list (option_map Arrive made.arrival))
          (whole_if made.whole c.args.from made.n),
    )

pub returns-clause-room : goal.returns-clause-room
returns-clause-room g c = let made = c.args.made in
    let first = c.note_arrival.ensures.room in
    let second = c.note_whole.ensures.room in
    let one = at-most-one (option_map Arrive made.arrival) in
    let two = whole-few made.whole c.args.from made.n in omega (arith, first, second, one, two)
