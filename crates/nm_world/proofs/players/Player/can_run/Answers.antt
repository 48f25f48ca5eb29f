-- Whether the next command can go on.
use Rattle.std.proofs.Common.{◌≡◌, ℕ, ◌+◌, Option, Some, None, false, sym, ap, subst, ◌∙◌}
use Rattle.std.specs.Prelude.{option_map}
use Rattle.std.specs.List.{slice_get}
use Rattle.std.specs.Option.{option_map_or}
use Rattle.nm_types.specs.declared.scripts.Command.{Command}
use Rattle.nm_types.specs.Commands.{Numbered}
use Rattle.nm_history.specs.Answers.{can_go_on}
use Rattle.nm_process.specs.Work.{IsNext}
use Rattle.nm_process.proofs.NextLemmas.{next_goes_on}
use Rattle.nm_world.proofs.players.Player.can_run.Goals as goal

pub returns-in_default : goal.returns-in_default
returns-in_default g c commands work =
    let v = c.args.self.now.actor.process in
    sym (ap (λ (o : Option Numbered). option_map_or (λ (n : Numbered). can_go_on commands v.rank.events n.command) o false)
    (subst (λ (k : ℕ). slice_get commands k ≡ None) work.at (c.in_default.ensures.next commands work.last work.given)))

pub returns : goal.returns
returns g c commands work =
    let v = c.args.self.now.actor.process in
    let o : Option Command = Some c.in-Some.command.now in
    let next = subst (λ (k : ℕ). IsNext commands k (work.last + 1) c.in-Some.field-0-0 c.in-Some.command.now) work.at
    (c.in-Some.ensures.next commands work.last work.given) in
    c.can_go_on.ensures ∙ next_goes_on v.rank.sizes commands (work.last + 1) v o work.work
    (sym (ap (option_map (λ (n : Numbered). n.command)) next.next))
