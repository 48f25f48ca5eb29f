use Rattle.std.proofs.Common.{◌≡◌, ◌+◌, Option, Some, get_or, refl, sym, subst}
use Rattle.std.specs.Prelude.{IsSomeAnd}
use Rattle.std.specs.List.{slice_get}
use Rattle.std.proofs.lemmas.Option.{slice_get-get_or}
use Rattle.nm_types.specs.declared.scripts.Line.{Line}
use Rattle.nm_types.specs.Commands.{Numbered, commands_of}
use Rattle.nm_history.specs.Answers.{can_go_on}
use Rattle.nm_check.proofs.WaitLemmas.{some_inside}
use Rattle.nm_check.proofs.rest.waits.next_of.Goals as goal

pub bounds-lines-k : goal.bounds-lines-k
bounds-lines-k c = some_inside c.args.lines.now c.in-Some.k _ c.in-Some.ensures

pub can_go_on-goes_on-requires : goal.can_go_on-goes_on-requires
can_go_on-goes_on-requires c = rw c.as_slice-events.ensures c.requires

pub returns-in-Some : goal.returns-in-Some
returns-in-Some c =
    let commands = commands_of c.args.rank c.args.lines.now in
    let l = get_or c.args.lines.now c.in-Some.k c.index-lines-k.result in
    let here : slice_get c.args.lines.now c.in-Some.k ≡ Some l =
    slice_get-get_or c.args.lines.now c.in-Some.k c.index-lines-k.result
    (some_inside c.args.lines.now c.in-Some.k _ c.in-Some.ensures) in
    let its : slice_get commands c.args.account.now.at
    ≡ Some (record { line = c.in-Some.k + 2; command = l.command }) =
    subst (λ (o : Option Line). IsSomeAnd o (λ l. slice_get commands c.args.account.now.at
    ≡ Some (record { line = c.in-Some.k + 2; command = l.command }))) here c.in-Some.ensures in
    subst (λ (o : Option Numbered). IsSomeAnd o (λ n. (n.line ≡ c.in-Some.k + 2)
    × (can_go_on commands c.args.account.now.history.events n.command ≡ c.can_go_on-goes_on.result))) (sym its)
    (refl, sym (rw c.as_slice-events.ensures at c.can_go_on-goes_on.ensures))
