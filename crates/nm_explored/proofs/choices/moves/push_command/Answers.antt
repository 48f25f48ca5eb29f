-- What the command does and the answers that it may have are among the moves.
use Rattle.std.proofs.Common.{inl, inr, Option, ap, ◌∙◌}
use Rattle.std.specs.Prelude.{option_map}
use Rattle.nm_types.proofs.OptionLemmas.{if_some}
use Rattle.nm_outcomes.specs.declared.spots.deeds.Deed.{Deed}
use Rattle.nm_outcomes.specs.declared.spots.deeds.Deed.TheVariants as deed
use Rattle.nm_outcomes.specs.declared.spots.deeds.Reply.{Reply}
use Rattle.nm_explored.specs.declared.choices.moves.Move.TheVariants.{Act}
use Rattle.nm_explored.specs.Successors.{spot_in}
use Rattle.nm_search.specs.Lists.{Has}
use Rattle.nm_explored.specs.Moves.{IsDeedOf}
use Rattle.nm_search.proofs.ListLemmas.{has_kept}
use Rattle.nm_explored.proofs.KeptLemmas.{deeds_only}
use Rattle.nm_explored.proofs.choices.moves.push_command.Goals as goal

pub returns-clause-added : goal.returns-clause-added
returns-clause-added c d is = by_kind is
  where
    by_kind : IsDeedOf c.args.view.eager c.args.view.lines.now
        (spot_in c.args.view.table.now c.args.view.ids.now) c.args.i c.args.rank.now c.args.line c.args.command.now d →
        Has c.push_deed-3.new.turns.items (record { rank = c.args.i; by = Act d })
    by_kind (inl begun) =
        has_kept c.push_deed-2.new.turns.items c.push_deed-3.new.turns.items _ c.in_ok-push_deed-3.ensures.kept
        (has_kept c.push_deed.new.turns.items c.push_deed-2.new.turns.items _ c.in_ok-push_deed-2.ensures.kept
        (if_some (λ (d : Deed). Has c.push_deed.new.turns.items (record { rank = c.args.i; by = Act d }))
        c.begin.result d (c.begin.ensures begun.0 ∙ begun.1) c.in_ok-push_deed.ensures.added))
    by_kind (inr (inl says)) =
        has_kept c.push_deed-2.new.turns.items c.push_deed-3.new.turns.items _ c.in_ok-push_deed-3.ensures.kept
        (if_some (λ (d : Deed). Has c.push_deed-2.new.turns.items (record { rank = c.args.i; by = Act d }))
        c.replied.result d
        (c.replied.ensures ∙ ap (λ (o : Option Reply). option_map (λ r. deed.Ran c.args.line r) o) c.answer.ensures
        ∙ says)
        c.in_ok-push_deed-2.ensures.added)
    by_kind (inr (inr denies)) =
        if_some (λ (d : Deed). Has c.push_deed-3.new.turns.items (record { rank = c.args.i; by = Act d }))
        c.denied.result d (c.denied.ensures ∙ denies) c.in_ok-push_deed-3.ensures.added

-- .. and nothing else
pub returns-clause-only : goal.returns-clause-only
returns-clause-only c short =
    deeds_only c.args.view.eager c.args.view.lines.now (spot_in c.args.view.table.now c.args.view.ids.now) c.args.i
    c.args.rank.now c.args.line c.args.command.now c.args.turns.now.items c.push_deed.new.turns.items
    c.push_deed-2.new.turns.items c.push_deed-3.new.turns.items c.begin.result c.replied.result c.denied.result short
    (c.begin.ensures short)
    (c.replied.ensures ∙ ap (λ (o : Option Reply). option_map (λ r. deed.Ran c.args.line r) o) c.answer.ensures)
    c.denied.ensures c.in_ok-push_deed.ensures.only c.in_ok-push_deed-2.ensures.only
    c.in_ok-push_deed-3.ensures.only
