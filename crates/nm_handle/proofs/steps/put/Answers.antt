-- What was stands at one call more.
use Rattle.std.proofs.Common.{◌≡◌, ℕ, ◌+◌, Option, List, [], ◌∷◌, ◌++◌, length, append-nil, refl, sym, ap, subst, ◌∙◌, arith}
use Rattle.std.specs.Prelude.{option_to_list}
use Rattle.nm_types.specs.declared.scripts.Command.{Command}
use Rattle.nm_types.specs.Commands.{Numbered}
use Rattle.nm_global.specs.ProcessInvariant.{ProcessInvariant}
use Rattle.nm_process.specs.Playing.{all_numbered}
use Rattle.nm_process.specs.Work.{IsWorking}
use Rattle.nm_world.specs.Actors.{ActorInvariant}
use Rattle.nm_world.specs.Players.{PlayerInvariant}
use Rattle.nm_calls.specs.Calling.{gave, shown}
use Rattle.nm_handle.proofs.steps.put.Goals as goal

pub returns-clause-kept : goal.returns-clause-kept
returns-clause-kept c =
    let s = c.requires.stands in
    let x = c.args.player.now in
    let a = x.actor in
    let command = c.args.command in
    let given = x.source.given in
    let at = x.source.at in
    let ys : List Numbered = all_numbered 2 (given ++ command ∷ []) in
    let shape = a.process.rank.sizes in
    let counted = c.ranks.ensures.counted in
    let all : a.process.at ≡ length given = sym s.at ∙ sym counted in
    let b = length given + 2 in
    let ran_all : all_numbered 2 given ≡ all_numbered 2 (given ++ option_to_list x.source.next) =
    sym (ap (λ (o : Option Command). all_numbered 2 (given ++ option_to_list o)) c.requires.idle
    ∙ ap (λ (xs : List Command). all_numbered 2 xs) (append-nil given)) in
    let was = s.stands (all_numbered 2 given) (at + 1) (ran_all, refl) in
    let bound : (at + 1) + 1 ≡ b = omega (arith, counted) in
    let before = subst (λ (k : ℕ). ProcessInvariant shape (all_numbered 2 given) k a.port.rank a.process was.past) bound
    (record { work = was.is.work; rank = was.is.stands }) in
    let longer = c.a_call_to_come_changes_nothing.ensures shape given command a.port.rank a.process was.past all
    before in
    let stands : ActorInvariant ys (at + 1) a = record {
      past = was.past;
      is = record {
        work = subst (λ (k : ℕ). IsWorking shape ys k a.process) (sym bound) longer.work;
        stands = longer.rank;
        sent = was.is.sent;
        taken = was.is.taken;
        pushed = was.is.pushed;
        pulled = was.is.pulled;
      };
    } in
    subst (λ source. PlayerInvariant shown gave c.args.f.now c.args.r.now (record { actor = a; source = source }))
    (sym c.put.ensures)
    (record {
      ports = s.ports;
      at = s.at;
      ranks = s.ranks;
      told = tt;
      stands = λ commands end is. subst (λ (cs : List Numbered). ActorInvariant cs end a) (sym is.0)
          (subst (λ (k : ℕ). ActorInvariant ys k a) (sym is.1) stands);
    })
