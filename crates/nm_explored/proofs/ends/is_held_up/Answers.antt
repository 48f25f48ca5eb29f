-- A command that is held up can be, and has no answer; and the other way round.
use Rattle.std.proofs.Common.{◌≡◌, ℕ, true, not, Some, None, List, sym, ◌∙◌, ap, subst}
use Rattle.std.specs.Prelude.{count_by}
use Rattle.nm_types.specs.declared.scripts.Command.{Command}
use Rattle.nm_types.specs.Commands.{command_at, commands_of}
use Rattle.nm_types.proofs.OptionLemmas.{no_some, same_some}
use Rattle.nm_outcomes.specs.declared.spots.deeds.Deed.{Deed}
use Rattle.nm_outcomes.specs.Looks.{is_answer_by}
use Rattle.nm_explored.specs.Rests.{is_waiting}
use Rattle.nm_explored.specs.Lines.{line_in}
use Rattle.nm_explored.specs.Successors.{answer_in, spot_in}
use Rattle.nm_explored.proofs.RestedLemmas.{none_is}
use Rattle.nm_explored.proofs.ends.is_held_up.Goals as goal

pub returns-else-is_waiting-clause-held : goal.returns-else-is_waiting-clause-held
returns-else-is_waiting-clause-held c held =
    let place : line_in c.args.view.lines.now c.args.i (count_by is_answer_by c.args.rank.now.deeds)
    ≡ Some c.in-Some.line =
    ap (λ (ds : List Deed). line_in c.args.view.lines.now c.args.i (count_by is_answer_by ds)) (sym c.deeds.ensures)
    ∙ ap (λ n. line_in c.args.view.lines.now c.args.i n) (sym c.ran.ensures)
    ∙ sym (c.line_at.ensures c.requires.count) ∙ c.in-Some.is in
    let both = held c.in-Some.line c.in-Some-command_of_line.command.now place
    (sym c.in-Some-command_of_line.ensures) in
    c.is_waiting.ensures ∙ both.0

pub returns-then-is_waiting-clause-only : goal.returns-then-is_waiting-clause-only
returns-then-is_waiting-clause-only c so line command at stands =
    let v = spot_in c.args.view.table.now c.args.view.ids.now in
    let place : line_in c.args.view.lines.now c.args.i (count_by is_answer_by c.args.rank.now.deeds)
    ≡ Some c.in-Some.line =
    ap (λ (ds : List Deed). line_in c.args.view.lines.now c.args.i (count_by is_answer_by ds)) (sym c.deeds.ensures)
    ∙ ap (λ n. line_in c.args.view.lines.now c.args.i n) (sym c.ran.ensures)
    ∙ sym (c.line_at.ensures c.requires.count) ∙ c.in-Some.is in
    let same_line : c.in-Some.line ≡ line = same_some c.in-Some.line line (sym place ∙ at) in
    let same : c.in-Some-command_of_line.command.now ≡ command =
    same_some c.in-Some-command_of_line.command.now command
    (c.in-Some-command_of_line.ensures
    ∙ ap (λ (k : ℕ). command_at (commands_of c.args.i c.args.view.lines.now) k) same_line ∙ stands) in
    subst (λ (x : Command). (is_waiting x ≡ true)
    × (answer_in v c.args.view.lines.now c.args.i c.args.rank.now line x ≡ None)) same
    (subst (λ (k : ℕ). (is_waiting c.in-Some-command_of_line.command.now ≡ true)
    × (answer_in v c.args.view.lines.now c.args.i c.args.rank.now k c.in-Some-command_of_line.command.now ≡ None))
    same_line (
      sym c.is_waiting.ensures ∙ c.if-is_waiting.true,
      sym c.answer.ensures
          ∙ none_is c.answer.result (not c.is_none.result) c.is_none.ensures (ap not so),
    ))

pub returns-in_default-clause-only : goal.returns-in_default-clause-only
returns-in_default-clause-only c so line command at stands =
    let none : line_in c.args.view.lines.now c.args.i (count_by is_answer_by c.args.rank.now.deeds) ≡ None =
    ap (λ (ds : List Deed). line_in c.args.view.lines.now c.args.i (count_by is_answer_by ds)) (sym c.deeds.ensures)
    ∙ ap (λ n. line_in c.args.view.lines.now c.args.i n) (sym c.ran.ensures)
    ∙ sym (c.line_at.ensures c.requires.count) ∙ c.in_default.is in
    absurd (no_some line (sym none ∙ at))

pub returns-in-None-clause-only : goal.returns-in-None-clause-only
returns-in-None-clause-only c so line command at stands =
    let place : line_in c.args.view.lines.now c.args.i (count_by is_answer_by c.args.rank.now.deeds)
    ≡ Some c.in-Some.line =
    ap (λ (ds : List Deed). line_in c.args.view.lines.now c.args.i (count_by is_answer_by ds)) (sym c.deeds.ensures)
    ∙ ap (λ n. line_in c.args.view.lines.now c.args.i n) (sym c.ran.ensures)
    ∙ sym (c.line_at.ensures c.requires.count) ∙ c.in-Some.is in
    let same_line : c.in-Some.line ≡ line = same_some c.in-Some.line line (sym place ∙ at) in
    absurd (no_some command (c.in-None.ensures
    ∙ ap (λ (k : ℕ). command_at (commands_of c.args.i c.args.view.lines.now) k) same_line ∙ stands))
