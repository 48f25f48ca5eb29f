-- The reports of ends and the ways to them, and one of these that is traced.
use Rattle.std.proofs.Common.{◌≡◌, ℕ, ◌<◌, refl, sym, ◌∙◌, ap, subst, get_or, length}
use Rattle.std.specs.Prelude.{List, [], ◌∷◌, ◌++◌, Contains, Option, Some, None, Vec, map, slice_get}
use Rattle.std.specs.Option.{IsSome}
use Rattle.std.proofs.lemmas.List.{map-append}
use Rattle.std.proofs.lemmas.List.Elements.{Contains-get_or}
use Rattle.std.proofs.lemmas.Option.{get_or_from_slice_get, slice_get_read, slice_get_within}
use Rattle.nm_types.proofs.ListLemmas.{get_from_map, get_map}
use Rattle.nm_types.proofs.OptionLemmas.{same_some}
use Rattle.nm_types.specs.declared.scripts.Line.{Line}
use Rattle.nm_types.specs.Sizes.{Sizes}
use Rattle.nm_report.specs.Told.{RankTold}
use Rattle.nm_explored.specs.declared.choices.moves.Turn.{Turn}
use Rattle.nm_explored.specs.declared.ends.End.{End}
use Rattle.nm_explored.specs.Ends.{AreEndsByWay, TellsOnly, told_at_end}
use Rattle.nm_outcomes.specs.Outcomes.{AreOutcomes}
use Rattle.nm_listed.specs.Finding.{IsTraced, text_of_told}
use Rattle.nm_listed.specs.Texts.{SameTexts}
use Rattle.nm_listed.specs.Tracing.{AreReported, IsChosen, IsReportByWay, turns_of, way_of}
use Rattle.nm_listed.specs.declared.tracing.Traced.{Traced}
use Rattle.nm_listed.specs.declared.tracing.Traced.TheVariants.{Trace, Fewer, TooLong}

-- what ends with their ways tell is told at rest
pub way_only : (shape : Sizes) (lines : List Line) (ends : List End) → AreEndsByWay shape lines ends →
    TellsOnly shape lines ends
way_only shape lines ends ways told has =
    let at = get_from_map told_at_end ends has.0 told has.1 in
    let by = ways at.0 (has.0, at.1) in
    record { state = by.state; met = (at.0.path.items, by.way); rest = by.rest; told_is = sym at.2 ∙ by.told }

-- one way more
pub ways_more : {A : Type 0} (paths new : List (Vec Turn A)) (ends : List End) (end : End) →
    map turns_of paths ≡ map way_of ends → map turns_of new ≡ map turns_of paths ++ way_of end ∷ [] →
    map turns_of new ≡ map way_of (ends ++ end ∷ [])
ways_more paths new ends end are more =
    more ∙ ap (λ (ways : List (List Turn)). ways ++ way_of end ∷ []) are ∙ sym (map-append way_of ends (end ∷ []))

-- the way at the place of a report
pub report_there : (shape : Sizes) (lines : List Line) (texts : List (List ℕ)) (ways : List (List Turn)) (k : ℕ)
    (text : List ℕ) → AreReported shape lines texts ways → slice_get texts k ≡ Some text →
    (ts : List Turn) × (slice_get ways k ≡ Some ts) × IsReportByWay shape lines text ts
report_there shape lines texts ways k text found is =
    let at = get_from_map (λ (end : End). text_of_told shape (told_at_end end)) found.ends k text
    (ap (λ (ys : List (List ℕ)). slice_get ys k) (sym found.texts_are) ∙ is) in
    let by = found.by_way at.0 (k, at.1) in (
      way_of at.0,
      ap (λ (ys : List (List Turn)). slice_get ys k) found.ways_are ∙ get_map way_of found.ends k at.0 at.1,
      record {
        state = by.state;
        way = by.way;
        rest = by.rest;
        text_is = sym at.2 ∙ ap (λ (t : List RankTold). text_of_told shape t) by.told;
      },
    )

-- the turns of the way that stands at a place
pub way_at : {A : Type 0} (paths : List (Vec Turn A)) (k : ℕ) (path : Vec Turn A) (ts : List Turn) →
    slice_get (map turns_of paths) k ≡ Some ts → path ≡ get_or paths k path → turns_of path ≡ ts
way_at {A} paths k path ts is here =
    let at = get_from_map turns_of paths k ts is in
    let read = slice_get_read paths (length paths) k path refl (slice_get_within paths k at.0 at.1) here in
    ap (λ (p : Vec Turn A). turns_of p) (same_some path at.0 (sym read ∙ at.1)) ∙ at.2

-- what stands at a place is there
there_at : (texts : List (List ℕ)) (k : ℕ) (text : List ℕ) → slice_get texts k ≡ Some text → Contains texts text
there_at texts k text is =
    subst (Contains texts) (get_or_from_slice_get texts k text text is)
    (Contains-get_or texts k text (slice_get_within texts k text is))

-- a text of the list is found among the same texts
pub is_found : (texts list : List (List ℕ)) (k : ℕ) (text : List ℕ) (found : Option ℕ) → SameTexts texts list →
    slice_get list k ≡ Some text → (found ≡ None → ¬ (Contains texts text)) → found ≡ None → ⊥
is_found texts list k text found same is none nothing =
    none nothing ((same text).1 (there_at list k text is))

-- what was found is there
pub some_found : (found : Option ℕ) → (found ≡ None → ⊥) → IsSome found
some_found None none = absurd (none refl)
some_found (Some at) none = refl

-- a text at a place of some items
pub text_there : {X : Type 0} (f : X → List ℕ) (xs : List X) (list : List (List ℕ)) (k : ℕ) (x : X) →
    map f xs ≡ list → k < length xs → x ≡ get_or xs k x → slice_get list k ≡ Some (f x)
text_there f xs list k x are below is =
    ap (λ (ys : List (List ℕ)). slice_get ys k) (sym are)
    ∙ get_map f xs k x (slice_get_read xs (length xs) k x refl below is)

-- what was chosen is traced right
pub traced : (shape : Sizes) (lines : List Line) (list : List (List ℕ)) (number : ℕ) (t : Traced) →
    AreOutcomes shape lines list → IsChosen shape lines list number t → IsTraced shape lines number t
traced shape lines list number (Trace trace) all chosen =
    record {
      texts = list;
      outcomes = all;
      run = chosen.traced.run;
      lawful = chosen.traced.lawful;
      report = chosen.there ∙ ap (λ (text : List ℕ). Some text) (sym chosen.traced.report);
      trace_is = chosen.traced.trace_is;
    }
traced shape lines list number (Fewer count) all chosen =
    record { texts = list; outcomes = all; many = chosen.0; fewer = chosen.1 }
traced shape lines list number TooLong all chosen = absurd chosen
