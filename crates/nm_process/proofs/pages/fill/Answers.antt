-- A page with its places reads as it did.
use Rattle.std.proofs.Common.{rules, ℕ, ◌-◌, ◌∙◌, ap, List, ◌++◌, replicate, get_or, vec_len}
use Rattle.std.proofs.lemmas.List.{take_all}
use Rattle.nm_process.proofs.PageLemmas.{zeros_more}
use Rattle.nm_process.proofs.pages.fill.Goals as goal

pub returns-in_ok-resize-clause-same : goal.returns-in_ok-resize-clause-same
returns-in_ok-resize-clause-same c k =
    let page = c.args.page.now in
    ap (λ (xs : List ℕ). get_or xs k 0) (c.in_ok-resize.ensures.items
    ∙ ap (λ (xs : List ℕ). xs ++ replicate (256 - vec_len page) 0) (take_all 256 page.items (search rules)))
    ∙ zeros_more page.items (256 - vec_len page) k
