use Rattle.std.proofs.Common.{◌≡◌, List, ◌*◌, None, length, replicate, sym, ap, ◌∙◌, subst}
use Rattle.std.proofs.lemmas.List.{length-replicate}
use Rattle.atomic_table.specs.Table.{opening}
use Rattle.nm_copyring.specs.Rule.{Load, Rule, first_view}
use Rattle.nm_copyring.proofs.OpeningLemmas.{opened}
use Rattle.nm_copyring.proofs.build.whole.Goals as goal

pub new-requires : goal.new-requires
new-requires c = let n = c.args.ranks in let flags = c.in_ok-flags.flags in
    let zeros = c.in_ok-flags.ensures in
    let long : c.len.result ≡ 4 * (n * n) = c.len.ensures ∙ flags.ok.0 ∙ ap length zeros
    ∙ length-replicate (4 * (n * n)) 0 in
    subst (λ (l : List Load). Rule n (opening c.as_slice.result.now l (first_view n)))
    (sym (c.in_ok-slots.ensures ∙ ap (λ k. replicate k None) long))
    (subst (λ ws. Rule n (opening ws (replicate (4 * (n * n)) None) (first_view n)))
    (sym (c.as_slice.ensures.value ∙ zeros)) (opened n))
