-- The length of the list that is seen is that of the texts.
use Rattle.std.proofs.Common.{◌≤◌, Global, ap, length, sum_by, subst, sym, ◌∙◌}
use Rattle.std.specs.Prelude.{◌↔◌, IsTrue}
use Rattle.nm_listed.specs.Texts.{bytes_of, total_length}
use Rattle.nm_listed.proofs.OrderLemmas.{length_of_images}
use Rattle.nm_listed.proofs.texts.Texts.is_within.Goals as goal

pub returns : goal.returns
returns c =
    subst (λ n. IsTrue c.are_within.result ↔ (n ≤ c.args.most))
    (ap (sum_by (λ text. length (bytes_of text))) c.as_slice.ensures.value
    ∙ sym (length_of_images (bytes_of {A = Global}) c.self.inside.items.items) ∙ ap total_length c.self.view_is)
    c.are_within.ensures
