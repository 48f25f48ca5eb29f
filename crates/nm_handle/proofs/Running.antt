-- A call that ran.
use Rattle.std.proofs.Common.{ℕ, ◌+◌, List, sym, ap, subst, ◌∙◌, map}
use Rattle.nm_types.specs.Commands.{Numbered}
use Rattle.nm_types.specs.Sizes.{Sizes}
use Rattle.nm_history.specs.Known.{Taken}
use Rattle.nm_history.specs.Pieces.{Pulled}
use Rattle.nm_cells.specs.Ports.{knows, taken_by}
use Rattle.nm_port.specs.CarriedPackets.{HasPassed, HasSent}
use Rattle.nm_global.specs.Emitted.{Emitted}
use Rattle.nm_global.specs.ProcessInvariant.{GoesOn}
use Rattle.nm_process.specs.Processes.{ProcessView}
use Rattle.nm_process.specs.Work.{IsWorking}
use Rattle.nm_world.specs.Parcels.{packet_of}
use Rattle.nm_world.specs.Actors.{ActorInvariant, IsActor}
use Rattle.nm_world.specs.declared.actors.Actor.{Actor}

module _ {H : Type 0} (a : Actor H) (commands xs : List Numbered) (before last : ℕ) (s : ActorInvariant xs before a)
  where
    -- whose actor stands at other commands, of which one more ran
    pub ran_actor : (v : ProcessView) → IsWorking a.process.rank.sizes commands (last + 1) v →
        GoesOn a.process.rank.sizes commands a.port.rank v.rank s.past →
        ActorInvariant commands last (record a { process = v })
    ran_actor v work on = record {
      past = on.after;
      is = subst (λ (shape : Sizes). IsActor shape commands last (record a { process = v }) on.after) (sym work.sizes)
          (record {
            work = work;
            stands = on.is;
            sent = λ to within. subst (λ (l : Emitted). HasSent packet_of (knows a.port) to l.packets)
                (sym (on.same.left to)) (s.is.sent to within);
            taken = λ from within. subst (λ (ts : List Taken).
                HasPassed packet_of (knows a.port) (taken_by a.port from) from (map (λ t. t.packet) ts))
                (sym (on.same.taken from)) (s.is.taken from within);
            pushed = λ to within. ap (λ (l : Emitted). l.pieces) (on.same.left to) ∙ s.is.pushed to within;
            pulled = λ from within. ap (map (λ (d : Pulled). d.piece)) (on.same.pulled from) ∙ s.is.pulled from within;
          });
    }
