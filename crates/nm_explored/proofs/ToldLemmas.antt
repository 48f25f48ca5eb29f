-- What some ranks and some deeds told, with one more.
use Rattle.std.proofs.Common.{◌≡◌, ℕ, zero, suc, ◌+◌, ◌<◌, Option, Some, None, List, [], ◌∷◌, ◌++◌, length, take, get_or, refl}
use Rattle.std.proofs.Common.{◌∙◌, ap, arith}
use Rattle.std.specs.Prelude.{option_map}
use Rattle.std.specs.List.{cons_option, filter_map, range_with_len}
use Rattle.std.proofs.lemmas.List.Elements.{filter_map-append}
use Rattle.std.proofs.lemmas.Option.{slice_get-get_or}
use Rattle.nm_types.specs.declared.scripts.Line.{Line}
use Rattle.nm_types.proofs.ListLemmas.{take_more}
use Rattle.nm_report.specs.Told.{RankTold, told_by}
use Rattle.nm_outcomes.specs.declared.spots.deeds.Deed.{Deed}
use Rattle.nm_outcomes.specs.Deeds.{happening}
use Rattle.nm_outcomes.specs.RankStates.{Spot}
use Rattle.nm_explored.specs.Ends.{all_told, told_in}

pub taken_told : (lines : List Line) (ds : List Deed) (k : ℕ) (d : Deed) → k < length ds →
    filter_map (λ d. told_by (happening lines d)) (take (k + 1) ds)
    ≡ filter_map (λ d. told_by (happening lines d)) (take k ds)
    ++ cons_option (told_by (happening lines (get_or ds k d))) []
taken_told lines ds k d below =
    let e : k + 1 ≡ suc k = omega arith in
    ap (λ (n : ℕ). filter_map (λ d. told_by (happening lines d)) (take n ds)) e
    ∙ ap (λ (xs : List Deed). filter_map (λ d. told_by (happening lines d)) xs)
    (take_more ds k (get_or ds k d) (slice_get-get_or ds k d below))
    ∙ filter_map-append (λ (d : Deed). told_by (happening lines d)) (take k ds) (get_or ds k d ∷ [])

cons_more : {X : Type 0} (o : Option X) (xs ys : List X) → cons_option o (xs ++ ys) ≡ cons_option o xs ++ ys
cons_more None xs ys = refl
cons_more (Some x) xs ys = refl

-- what a range gives, with one number more
range_more : (f : ℕ → Option RankTold) (a n : ℕ) →
    filter_map f (range_with_len a (n + 1)) ≡ filter_map f (range_with_len a n) ++ cons_option (f (a + n)) []
range_more f a zero = let e : a ≡ a + 0 = omega arith in ap (λ (k : ℕ). cons_option (f k) []) e
range_more f a (suc n) =
    let e : suc n + 1 ≡ suc (n + 1) = omega arith in
    let g : a + 1 + n ≡ a + suc n = omega arith in
    ap (λ (k : ℕ). filter_map f (range_with_len a k)) e
    ∙ ap (λ (ts : List RankTold). cons_option (f a) ts) (range_more f (a + 1) n)
    ∙ cons_more (f a) (filter_map f (range_with_len (a + 1) n)) (cons_option (f (a + 1 + n)) [])
    ∙ ap (λ (k : ℕ). cons_option (f a) (filter_map f (range_with_len (a + 1) n)) ++ cons_option (f k) []) g

pub told_more : (lines : List Line) (v : ℕ → Option Spot) (i : ℕ) →
    all_told lines v (i + 1) ≡ all_told lines v i ++ cons_option (option_map (told_in lines i) (v i)) []
told_more lines v i =
    let e : 0 + i ≡ i = omega arith in
    range_more (λ (k : ℕ). option_map (told_in lines k) (v k)) 0 i
    ∙ ap (λ (k : ℕ). all_told lines v i ++ cons_option (option_map (told_in lines k) (v k)) []) e
