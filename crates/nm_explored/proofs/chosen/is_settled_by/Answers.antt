-- A wait that has an answer is settled.
use Rattle.std.proofs.Common.{sym, ◌∙◌, ap, subst}
use Rattle.std.specs.Prelude.{IsTrue}
use Rattle.nm_types.specs.declared.scripts.Command.{Command}
use Rattle.nm_types.proofs.OptionLemmas.{some_of}
use Rattle.nm_explored.specs.Successors.{answer_in, spot_in}
use Rattle.nm_explored.specs.Chosen.{IsSettledBy}
use Rattle.nm_explored.proofs.chosen.is_settled_by.Goals as goal

pub returns-in-Wait : goal.returns-in-Wait
returns-in-Wait c =
    let v = spot_in c.args.view.table.now c.args.view.ids.now in
    subst (λ (x : Command). IsTrue c.is_some.result →
    IsSettledBy v c.args.view.lines.now c.args.i c.args.rank.now c.args.line x) (sym c.in-Wait.is)
    (λ so.
    let r = some_of c.answer.result (sym c.is_some.ensures ∙ so) in (
      r.0,
      ap (λ (x : Command). answer_in v c.args.view.lines.now c.args.i c.args.rank.now c.args.line x) (sym c.in-Wait.is)
          ∙ sym c.answer.ensures ∙ r.1,
    ))
