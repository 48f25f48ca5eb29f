-- The first rank tells.
use Rattle.std.proofs.Common.{ap, ◌∙◌}
use Rattle.std.specs.Arc.{arc_value}
use Rattle.nm_handle.specs.declared.handles.Handle.{Handle}
use Rattle.nm_handle.proofs.Ending.{first_ranked}
use Rattle.nm_handle.proofs.ends.shared_of.Goals as goal

pub returns : goal.returns
returns c = record {
  same = λ shape f r each.
      let h = c.index-handles-0.result in
      let one = first_ranked shape f r c.args.handles.now h c.requires.some each in
      let is = c.index-handles-0.is in (
        c.in_ok-shared.ensures.0 ∙ ap (λ (x : Handle). arc_value x.fabric) is ∙ one.fabric,
        c.in_ok-shared.ensures.1 ∙ ap (λ (x : Handle). arc_value x.rings) is ∙ one.rings,
      );
}
