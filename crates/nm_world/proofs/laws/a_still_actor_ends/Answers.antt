-- By what is left to it.
use Rattle.std.proofs.Common.{◌≡◌, false, Option, Some, None, List, refl}
use Rattle.std.specs.Prelude.{MatchOption, option_map}
use Rattle.std.specs.List.{slice_get}
use Rattle.std.specs.Option.{option_map_or}
use Rattle.nm_types.specs.Commands.{Numbered}
use Rattle.nm_history.specs.declared.events.Event.{Event}
use Rattle.nm_history.specs.Answers.{can_go_on}
use Rattle.nm_world.proofs.laws.a_still_actor_ends.Goals as goal

stands_at : (commands : List Numbered) (h : List Event) (o : Option Numbered) →
    option_map_or (λ (c : Numbered). can_go_on commands h c.command) o false ≡ false →
    MatchOption o (option_map (λ (c : Numbered). c.line) o ≡ None)
    (λ c. (option_map (λ (c : Numbered). c.line) o ≡ Some c.line) × (can_go_on commands h c.command ≡ false))
stands_at commands h None stuck = refl
stands_at commands h (Some c) stuck = (refl, stuck)

pub returns : goal.returns
returns g c commands last a s still =
    let v = a.process in
    record {
      last = last;
      past = s.past;
      is = s.is;
      me = refl;
      right = still.right;
      stamped = still.stamped;
      resting = record {
        outbox = still.outbox;
        eager = still.eager;
        pieces = still.pieces;
        cleared = still.cleared;
        empty = still.empty;
        early = still.fresh.clock;
      };
      waits = option_map (λ (c : Numbered). c.line) (slice_get commands v.at);
      stands = stands_at commands v.rank.events (slice_get commands v.at) still.stuck;
    }
