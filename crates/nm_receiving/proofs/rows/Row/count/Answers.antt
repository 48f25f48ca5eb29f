use Rattle.std.proofs.Common.{Bool, List, ap, length, ◌∙◌}
use Rattle.std.proofs.lemmas.List.{length-map}
use Rattle.nm_receiving.specs.Rows.{is_settled, messages_of}
use Rattle.nm_receiving.proofs.rows.Row.count.Goals as goal

pub returns : goal.returns
returns c =
    rw (← c.self.view_is)
    (c.len.ensures ∙ ap (λ (bs : List Bool). length bs) c.self.invariant.each
    ∙ length-map (messages_of c.self.inside.marks.items) is_settled)
