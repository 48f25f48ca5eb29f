-- Nothing happened, and nothing left.
use Rattle.std.proofs.Common.{ap, arith, refl, List, [], length}
use Rattle.nm_history.specs.declared.events.Event.{Event}
use Rattle.nm_history.specs.Sends.{sends}
use Rattle.nm_global.specs.ProcessInvariant.{no_past}
use Rattle.nm_multi.proofs.laws.a_desk_begins.Goals as goal

pub returns : goal.returns
returns c = λ shape v one new.
    record {
      eager = shape.eager;
      past = no_past;
      placed = λ bodies are. record {
        logged = c.a_log_begins.ensures bodies [] shape 0 v new;
        left = λ to within. c.nothing_left.ensures bodies shape 0 to v (omega (arith, one, within)) new;
      };
      many = ap (λ (h : List Event). length (sends h 0)) new.events;
      even = λ fresh. refl;
      pieces = refl;
    }
