-- The deeds of a rank's next command are added, and nothing else.
use Rattle.std.proofs.Common.{◌≡◌, ℕ, Some, sym, ◌∙◌, ap}
use Rattle.std.specs.Prelude.{count_by, option_copied}
use Rattle.nm_types.specs.Commands.{command_at, commands_of}
use Rattle.nm_outcomes.specs.declared.spots.deeds.Deed.{Deed}
use Rattle.nm_outcomes.specs.Looks.{is_answer_by}
use Rattle.nm_explored.specs.declared.choices.moves.Move.TheVariants.{Act}
use Rattle.nm_explored.specs.declared.choices.moves.Turn.{Turn}
use Rattle.nm_explored.specs.Successors.{spot_in}
use Rattle.nm_explored.specs.Lines.{line_in}
use Rattle.nm_explored.specs.Moves.{IsAct}
use Rattle.nm_search.proofs.ListLemmas.{only_weaker}
use Rattle.nm_explored.proofs.KeptLemmas.{IsDeedTurn}
use Rattle.nm_explored.proofs.choices.moves.push_deeds.Goals as goal

pub returns-clause-only : goal.returns-clause-only
returns-clause-only c few short =
    let lines = c.args.view.lines.now in
    let v = spot_in c.args.view.table.now c.args.view.ids.now in
    let at : command_at (commands_of c.args.i lines) c.in-Some.line ≡ Some c.in-Some-command_of_line.command.now =
    sym c.command_of_line.ensures ∙ ap (λ o. option_copied o) c.in-Some-command_of_line.is in
    let place : line_in lines c.args.i (count_by is_answer_by c.args.rank.now.deeds) ≡ Some c.in-Some.line =
    ap (λ (n : ℕ). line_in lines c.args.i n)
    (sym (c.ran.ensures ∙ ap (λ ds. count_by is_answer_by ds) c.deeds.ensures))
    ∙ sym (c.line_at.ensures few) ∙ c.in-Some.is in
    only_weaker
    (λ (t : Turn). IsDeedTurn c.args.view.eager lines v c.args.i c.args.rank.now c.in-Some.line
    c.in-Some-command_of_line.command.now t)
    (λ (t : Turn). (d : Deed) × (record { rank = c.args.i; by = Act d } ≡ t)
    × IsAct c.args.view.eager lines v c.args.i c.args.rank.now d)
    c.args.turns.now.items c.push_command.new.turns.items
    (λ t p. (
      p.0,
      p.1,
      record {
        line = c.in-Some.line;
        command = c.in-Some-command_of_line.command.now;
        place = place;
        at = at;
        deed_of = p.2;
      },
    ))
    (c.in_ok-push_command.ensures.only (short c.args.i c.in-Some.line c.in-Some-command_of_line.command.now at))
