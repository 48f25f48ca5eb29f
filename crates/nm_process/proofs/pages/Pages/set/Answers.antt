-- A name is given a place.
use Rattle.std.proofs.Common.{ℕ, ◌∙◌, sym, ap, List, [], map, get_or, cond, nat_eq, arith, Vec, Global}
use Rattle.std.proofs.lemmas.List.{length-map, map-set}
use Rattle.nm_types.proofs.ResultLemmas.{on_err}
use Rattle.nm_types.proofs.RowLemmas.{row_at}
use Rattle.nm_process.specs.Sparse.{place_of_name}
use Rattle.nm_process.proofs.PageLemmas.{put, refill, same_pages}
use Rattle.nm_process.proofs.pages.Pages.set.Goals as goal

abbrev items : Vec ℕ Global → List ℕ
items v = v.items

pub returns-in_err-reach-clause-err : goal.returns-in_err-reach-clause-err
returns-in_err-reach-clause-err c = on_err c.from_residual.result (λ k. rw (← c.self.view_is)
    (same_pages (map items c.reach.new.pages.items) (map items c.self.inside.pages.items) c.reach.ensures.same k))

pub returns-in_err-fill-clause-err : goal.returns-in_err-fill-clause-err
returns-in_err-fill-clause-err c =
    let n = c.page_of-number.result in
    let pages = c.reach.new.pages.items in
    let inside = c.in_ok-reach.ensures.there in
    on_err c.from_residual-in_err-fill.result (λ k. rw (← c.self.view_is)
    (ap (λ (ps : List (List ℕ)). place_of_name ps k) (map-set items pages n c.fill.new.page)
    ∙ refill (map items pages) c.fill.new.page.items n (omega (arith, inside, length-map pages items))
    (λ i. c.in_err-fill.ensures.same i ∙ ap (λ (row : List ℕ). get_or row i 0)
    (sym (row_at items pages n c.index_mut-page.result.now [] inside c.index_mut-page.ensures.value))) k
    ∙ same_pages (map items pages) (map items c.self.inside.pages.items) c.reach.ensures.same k))

pub returns-clause-ok : goal.returns-clause-ok
returns-clause-ok c k =
    let n = c.page_of-number.result in
    let pages = c.reach.new.pages.items in
    let inside = c.in_ok-reach.ensures.there in
    rw (← c.self.view_is)
    (ap (λ (ps : List (List ℕ)). place_of_name ps k) (map-set items pages n _)
    ∙ put (map items pages) c.fill.new.page.items c.args.q c.args.place n c.slot_of.result
    c.page_of-number.ensures.is c.slot_of.ensures.is (omega (arith, inside, length-map pages items))
    (omega (arith, c.in_ok-fill.ensures.there, c.slot_of.ensures.inside))
    (λ i. c.in_ok-fill.ensures.same i ∙ ap (λ (row : List ℕ). get_or row i 0)
    (sym (row_at items pages n c.index_mut-page.result.now [] inside c.index_mut-page.ensures.value))) k
    ∙ ap (λ (p : ℕ). cond (nat_eq c.args.q k) c.args.place p)
    (same_pages (map items pages) (map items c.self.inside.pages.items) c.reach.ensures.same k))
