-- The calls are one more, and the actor stands at them.
use Rattle.std.proofs.Common.{◌≡◌, ℕ, ◌+◌, true, Option, append-nil, List, [], ◌∷◌, ◌++◌, length, refl, sym, ap, subst, ◌∙◌, arith}
use Rattle.std.specs.Prelude.{option_to_list}
use Rattle.nm_types.specs.declared.scripts.Command.{Command}
use Rattle.nm_types.specs.Commands.{Numbered}
use Rattle.nm_types.specs.Limits.{is_in_range}
use Rattle.nm_types.specs.Sizes.{Sizes}
use Rattle.nm_global.specs.ProcessInvariant.{ProcessInvariant}
use Rattle.nm_process.specs.Playing.{all_numbered}
use Rattle.nm_process.specs.Processes.{ProcessView}
use Rattle.nm_process.specs.Steps.{HasStepped}
use Rattle.nm_process.specs.Work.{IsNext, IsWorking}
use Rattle.nm_process.specs.declared.steps.Step.{Step}
use Rattle.nm_world.specs.Actors.{ActorInvariant}
use Rattle.nm_world.specs.Players.{PlayerInvariant}
use Rattle.nm_world.specs.declared.actors.Actor.{Actor}
use Rattle.nm_calls.specs.Calling.{gave, shown}
use Rattle.nm_handle.proofs.Running.{ran_actor}
use Rattle.nm_handle.proofs.steps.run.Goals as goal

pub run-requires-clause-in_range : goal.run-requires-clause-in_range
run-requires-clause-in_range c =
    subst (λ (n : ℕ). is_in_range n c.args.command.now ≡ true) c.requires.stands.ranks c.requires.in_range

pub run-requires-clause-counted : goal.run-requires-clause-counted
run-requires-clause-counted c =
    let at = c.requires.stands.at in let line = c.requires.line.0 in omega (arith, at, line)

pub returns-in-Waits : goal.returns-in-Waits
returns-in-Waits c =
    let x = c.args.player.now in
    let a = x.actor in
    let v = c.run.new.self in
    let same = subst (λ (y : Step). HasStepped c.args.command.now c.args.line a.process v y) c.in-Waits.is
    c.in_ok-run.ensures.stepped in
    record {
      kept = subst (λ (w : ProcessView). PlayerInvariant shown gave c.args.f.now c.args.r.now
          (record x { actor = record a { process = w } })) (sym same) c.requires.stands;
      ran = same;
      calls = refl;
      seat = ap (λ (w : ProcessView). record { rank = a.port.rank; sizes = w.rank.sizes }) same;
    }

pub returns-in-Ran : goal.returns-in-Ran
returns-in-Ran c =
    let s = c.requires.stands in
    let x = c.args.player.now in
    let a = x.actor in
    let v = c.run.new.self in
    let command = c.args.command.now in
    let line = c.args.line in
    let given = x.source.given in
    let at = x.source.at in
    let ys : List Numbered = all_numbered 2 (given ++ command ∷ []) in
    let shape = a.process.rank.sizes in
    let stepped = subst (λ (y : Step). HasStepped command line a.process v y) c.in-Ran.is
    c.in_ok-run.ensures.stepped in
    let counted = c.ranks.ensures.counted in
    let all : a.process.at ≡ length given = sym s.at ∙ sym counted in
    let b = length given + 2 in
    let line_at = c.requires.line.0 in
    let line_is : b ≡ line = omega (arith, line_at, counted) in
    let ran_all : all_numbered 2 given ≡ all_numbered 2 (given ++ option_to_list x.source.next) =
    sym (ap (λ (o : Option Command). all_numbered 2 (given ++ option_to_list o)) c.requires.idle
    ∙ ap (λ (xs : List Command). all_numbered 2 xs) (append-nil given)) in
    let was = s.stands (all_numbered 2 given) (at + 1) (ran_all, refl) in
    let bound : (at + 1) + 1 ≡ b = omega (arith, counted) in
    let before = subst (λ (k : ℕ). ProcessInvariant shape (all_numbered 2 given) k a.port.rank a.process was.past) bound
    (record { work = was.is.work; rank = was.is.stands }) in
    let longer = c.a_call_to_come_changes_nothing.ensures shape given command a.port.rank a.process was.past all
    before in
    let next = subst (λ (k : ℕ). IsNext ys k b line command) (sym all)
    (subst (λ (k : ℕ). IsNext ys (length given) b k command) line_is (c.a_call_to_come_is_next.ensures given
    command)) in
    let in_range = subst (λ (n : ℕ). is_in_range n command ≡ true) s.ranks c.requires.in_range in
    let right = rw c.rank.ensures at c.history.ensures.right in
    let on = c.a_command_runs.ensures shape ys b line a.port.rank command a.process v was.past in_range right longer
    next
    stepped in
    let last = (at + 1) + 1 in
    let ends : line + 1 ≡ last + 1 = omega (arith, line_at) in
    let work = subst (λ (k : ℕ). IsWorking shape ys k v) ends
    (c.in_ok-run.ensures.work c.in-Ran.is shape ys b longer.work next) in
    let d : Actor _ = record a { process = v } in
    let stands : ActorInvariant ys last d = ran_actor a ys (all_numbered 2 given) (at + 1) last was v work on in
    let sizes = ap (λ (z : Sizes). z.ranks) c.in_ok-run.ensures.same.1 in
    let began = s.at in
    let ran = stepped.at in
    record {
      kept = subst (λ source. PlayerInvariant shown gave c.args.f.now c.args.r.now (record {
        actor = d;
        source =
            source;
      }))
          (sym c.note.ensures)
          (record {
            ports = record {
              some = record { commands = ys; last = last; stands = stands };
              cells = s.ports.cells;
              rings = s.ports.rings;
              rank = s.ports.rank;
              ranks = (s.ports.ranks.0 ∙ sym sizes, s.ports.ranks.1 ∙ sym sizes);
              hands = s.ports.hands;
              rest = s.ports.rest;
            };
            at = omega (arith, began, ran);
            ranks = s.ranks ∙ sym sizes;
            told = tt;
            stands = λ commands end is. subst (λ (cs : List Numbered). ActorInvariant cs end d)
                (sym (is.0 ∙ ap (λ (xs : List Command). all_numbered 2 xs) (append-nil (given ++ command ∷ []))))
                (subst (λ (k : ℕ). ActorInvariant ys k d) (sym is.1) stands);
          });
      ran = stepped;
      calls = c.note.ensures;
      seat = ap (λ (z : Sizes). record { rank = a.port.rank; sizes = z }) c.in_ok-run.ensures.same.1;
    }
