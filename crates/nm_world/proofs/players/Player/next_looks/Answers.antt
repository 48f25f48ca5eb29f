-- Whether the next command looks at what came.
use Rattle.std.proofs.Common.{◌≡◌, ℕ, ◌+◌, ◌∙◌, Option, Some, None, sym, ap, subst}
use Rattle.std.specs.Prelude.{option_map}
use Rattle.std.specs.List.{slice_get}
use Rattle.nm_types.specs.Commands.{Numbered}
use Rattle.nm_types.specs.declared.scripts.Command.{Command}
use Rattle.nm_process.specs.Work.{IsNext}
use Rattle.nm_process.proofs.PlaceLemmas.{looks_by}
use Rattle.nm_world.proofs.players.Player.next_looks.Goals as goal

pub returns-in-Some : goal.returns-in-Some
returns-in-Some g c commands work =
    let v = c.args.self.now.actor.process in
    let command : Option Command = Some c.in-Some.command.now in
    let next = subst (λ (k : ℕ). IsNext commands k (work.last + 1) c.in-Some.field-0-0 c.in-Some.command.now) work.at
    (c.in-Some.ensures.next commands work.last work.given) in
    c.looks.ensures ∙ looks_by command (slice_get commands v.at)
    (sym (ap (option_map (λ (n : Numbered). n.command)) next.next))

pub returns-in-None : goal.returns-in-None
returns-in-None g c commands work =
    let v = c.args.self.now.actor.process in
    let command : Option Command = None in
    looks_by command (slice_get commands v.at) (sym (ap (option_map (λ (n : Numbered). n.command))
    (subst (λ (k : ℕ). slice_get commands k ≡ None) work.at (c.in-None.ensures.next commands work.last work.given))))
