-- The messages of one rank more are among the moves, and nothing else.
use Rattle.std.proofs.Common.{◌≡◌, ℕ, Some, sym, ◌∙◌}
use Rattle.nm_types.specs.declared.messages.Arrival.{Arrival}
use Rattle.nm_types.proofs.OptionLemmas.{if_some, mapped_some}
use Rattle.nm_explored.specs.declared.choices.moves.Move.TheVariants.{Arrive}
use Rattle.nm_explored.specs.declared.choices.moves.Turn.{Turn}
use Rattle.nm_explored.specs.Successors.{message_next, spot_in}
use Rattle.nm_search.specs.Lists.{Has}
use Rattle.nm_explored.specs.Moves.{IsNextMessage}
use Rattle.std.specs.Prelude.{option_map}
use Rattle.nm_search.proofs.ListLemmas.{each_next, has_kept, keeps_then, only_then}
use Rattle.nm_explored.proofs.KeptLemmas.{only_option}
use Rattle.nm_explored.proofs.choices.moves.push_arrivals.Goals as goal

pub loop-from-preserved : goal.loop-from-preserved
loop-from-preserved c =
    record {
      kept = keeps_then c.args.turns.now.items c.loop-from.turns.items c.push_arrival.new.turns.items
          c.loop-from.invariant.kept c.in_ok-push_arrival.ensures.kept;
      added = λ from low a is.
          each_next
          (λ (from : ℕ). (a : Arrival) →
          message_next (spot_in c.args.view.table.now c.args.view.ids.now) c.args.i from ≡ Some a →
          Has c.push_arrival.new.turns.items (record { rank = c.args.i; by = Arrive a })) c.loop-from.from
          (λ m less a is.
          has_kept c.loop-from.turns.items c.push_arrival.new.turns.items _ c.in_ok-push_arrival.ensures.kept
          (c.loop-from.invariant.added m less a is))
          (λ a is.
          if_some (λ (a : Arrival). Has c.push_arrival.new.turns.items (record { rank = c.args.i; by = Arrive a }))
          c.next_message.result a (c.next_message.ensures ∙ is) c.in_ok-push_arrival.ensures.added) from low a is;
      only =
          only_then
          (λ (t : Turn). (a : Arrival) × (record { rank = c.args.i; by = Arrive a } ≡ t)
          × IsNextMessage c.args.ranks (spot_in c.args.view.table.now c.args.view.ids.now) c.args.i a)
          c.args.turns.now.items c.loop-from.turns.items c.push_arrival.new.turns.items c.loop-from.invariant.only
          (only_option
          (λ (t : Turn). (a : Arrival) × (record { rank = c.args.i; by = Arrive a } ≡ t)
          × IsNextMessage c.args.ranks (spot_in c.args.view.table.now c.args.view.ids.now) c.args.i a)
          c.loop-from.turns.items c.push_arrival.new.turns.items
          (option_map (λ (a : Arrival). record { rank = c.args.i; by = Arrive a }) c.next_message.result)
          c.in_ok-push_arrival.ensures.only
          (λ t is.
          let m = mapped_some (λ (a : Arrival). record { rank = c.args.i; by = Arrive a }) c.next_message.result t is
          in (
            m.0,
            m.2,
            record {
              from = c.loop-from.from;
              within = c.loop-from-test.true;
              next = sym c.next_message.ensures ∙ m.1;
            },
          )));
    }
