-- What the parts of a receive took, and what a rank's lines show.
use Rattle.std.proofs.Common.{◌≡◌, ℕ, ◌+◌, ◌<◌, ◌≤◌, List, [], ◌∷◌, ◌++◌, length, Bor, Option}
use Rattle.std.proofs.Common.{None, Some, sym, ap, ◌∙◌, refl, map, take, drop, get_or, arith}
use Rattle.std.specs.Prelude.{fold, filter_map, option_map, option_to_list}
use Rattle.std.specs.List.{cons_option}
use Rattle.std.proofs.lemmas.Bool.{le-ltb}
use Rattle.std.proofs.lemmas.List.{drop-drop, drop-map, drop_more, get_or_default, length-map}
use Rattle.std.proofs.lemmas.List.{map-append, take-map}
use Rattle.std.proofs.lemmas.List.Elements.{filter_map-append}
use Rattle.std.proofs.lemmas.List.Sums.{fold-append}
use Rattle.std.proofs.lemmas.Option.{slice_get_read}
use Rattle.indexmap.specs.IndexMap.{IndexMap}
use Rattle.nm_history.specs.declared.events.Event.{Event}
use Rattle.nm_types.specs.declared.answers.Answer.{Answer}
use Rattle.nm_report.specs.Told.{Told, told_by}
use Rattle.nm_report.proofs.Written.{next_written}
use Rattle.nm_persist.specs.declared.asked.Asked.{Asked}
use Rattle.nm_persist.specs.Report.{Named, named_from, rank_lines, result_behind}
use Rattle.nm_persist.specs.Report.{shown_line, shown_words}
use Rattle.nm_persist.specs.Results.{AreResults, found}
use Rattle.nm_types.proofs.ListLemmas.{take_next}

-- answers more are kept
pub results_more : {S : Type 0} (before more : List Named) (old new : IndexMap ℕ (Bor Answer) S)
    → AreResults before old
    → ((name : ℕ) → found new name ≡ fold (result_behind name) (found old name) more)
    → AreResults (before ++ more) new
results_more before more old new are step = record {
  each = λ name. step name ∙ ap (λ (r : Option Answer). fold (result_behind name) r more) (are.each name)
      ∙ sym (fold-append (result_behind name) None before more);
}

-- a line has all its answers
pub goes_on : (rank : ℕ) (a : Asked) (asked : List Asked) (before : List Named) (rest : List Answer)
    (waits : Option ℕ) → a.count ≤ length rest
    → rank_lines rank (a ∷ asked) before rest waits
    ≡ shown_line a (shown_words a (take a.count rest) (before ++ named_from a.name (take a.count rest)))
    ++ rank_lines rank asked (before ++ named_from a.name (take a.count rest)) (drop a.count rest) waits
goes_on rank a asked before rest waits has = rw (le-ltb (length rest) a.count has) refl

-- the answer to the next command is kept
pub named_step : (name next i : ℕ) (answers : List (Bor Answer)) (x : Bor Answer) (old new all : Option Answer)
    → i < length answers → x ≡ get_or answers i x
    → new ≡ result_behind name old (record { name = next; answer = x.now })
    → fold (result_behind name) old (named_from next (map (λ (a : Bor Answer). a.now) (drop i answers))) ≡ all
    → fold (result_behind name) new
    (named_from (next + 1) (map (λ (a : Bor Answer). a.now) (drop (i + 1) answers))) ≡ all
named_step name next i answers x old new all inside is put so_far =
    let same : drop i answers ≡ x ∷ drop (i + 1) answers =
    drop_more answers i x inside ∙ ap (λ (y : Bor Answer). y ∷ drop (i + 1) answers) (sym is) in
    ap (λ (r : Option Answer). fold (result_behind name) r
    (named_from (next + 1) (map (λ (a : Bor Answer). a.now) (drop (i + 1) answers)))) put
    ∙ ap (λ (xs : List (Bor Answer)). fold (result_behind name) old
    (named_from next (map (λ (a : Bor Answer). a.now) xs))) (sym same)
    ∙ so_far

-- the next line is written
pub line_written : (rank i : ℕ) (asked : List Asked) (a : Asked) (before : List Named) (rest : List Answer)
    (waits : Option ℕ) (old new all : List ℕ)
    → i < length asked → a ≡ get_or asked i a → a.count ≤ length rest
    → new ≡ old ++ shown_line a (shown_words a (take a.count rest) (before ++ named_from a.name (take a.count rest)))
    → old ++ rank_lines rank (drop i asked) before rest waits ≡ all
    → new ++ rank_lines rank (drop (i + 1) asked) (before ++ named_from a.name (take a.count rest))
    (drop a.count rest) waits ≡ all
line_written rank i asked a before rest waits old new all inside is has put so_far =
    next_written (λ (xs : List Asked). rank_lines rank xs before rest waits)
    (λ (xs : List Asked). rank_lines rank xs (before ++ named_from a.name (take a.count rest))
    (drop a.count rest) waits)
    (shown_line a (shown_words a (take a.count rest) (before ++ named_from a.name (take a.count rest))))
    asked i a old new all (slice_get_read asked (length asked) i a refl inside is)
    (goes_on rank a (drop (i + 1) asked) before rest waits has) put so_far

-- the same, of the answers from a place on, of which the line has so many
pub rank_goes : (rank i next count : ℕ) (asked : List Asked) (d : Asked) (answers own : List (Bor Answer))
    (before : List Named) (waits : Option ℕ) (old new all : List ℕ)
    → i < length asked → count ≡ (get_or asked i d).count → count ≤ length (drop next answers)
    → own ≡ take count (drop next answers)
    → new ≡ old ++ shown_line (get_or asked i d) (shown_words (get_or asked i d)
    (map (λ (a : Bor Answer). a.now) own)
    (before ++ named_from (get_or asked i d).name (map (λ (a : Bor Answer). a.now) own)))
    → old ++ rank_lines rank (drop i asked) before (map (λ (a : Bor Answer). a.now) (drop next answers)) waits ≡ all
    → new ++ rank_lines rank (drop (i + 1) asked)
    (before ++ named_from (get_or asked i d).name (map (λ (a : Bor Answer). a.now) own))
    (map (λ (a : Bor Answer). a.now) (drop (next + count) answers)) waits ≡ all
rank_goes rank i next count asked d answers own before waits old new all inside same few own_is put so_far =
    let now : Bor Answer → Answer = λ a. a.now in
    let a = get_or asked i d in
    let rest = map now (drop next answers) in
    let taken : map now own ≡ take a.count rest =
    ap (map now) own_is ∙ sym (take-map now count (drop next answers)) ∙ ap (λ (n : ℕ). take n rest) same in
    let left : drop a.count rest ≡ map now (drop (next + count) answers) =
    ap (λ (n : ℕ). drop n rest) (sym same) ∙ drop-map now count (drop next answers)
    ∙ ap (map now) (drop-drop count next answers) in
    let has : a.count ≤ length rest = omega (arith, same, few, length-map (drop next answers) now) in
    let shown : new ≡ old ++ shown_line a (shown_words a (take a.count rest)
    (before ++ named_from a.name (take a.count rest))) =
    put ∙ ap (λ (xs : List Answer). old ++ shown_line a (shown_words a xs (before ++ named_from a.name xs))) taken in
    ap (λ (xs : List Answer). new ++ rank_lines rank (drop (i + 1) asked) (before ++ named_from a.name xs)
    (map now (drop (next + count) answers)) waits) taken
    ∙ ap (λ (ys : List Answer). new ++ rank_lines rank (drop (i + 1) asked)
    (before ++ named_from a.name (take a.count rest)) ys waits) (sym left)
    ∙ line_written rank i asked a before rest waits old new all inside (get_or_default asked i d a inside) has shown
    so_far

one_told : (o : Option Told) → option_to_list (option_map (λ (t : Told). t.answer) o)
    ≡ map (λ (t : Told). t.answer) (cons_option o [])
one_told None = refl
one_told (Some t) = refl

-- the answers of one event more
pub told_more : (events : List Event) (i : ℕ) (e : Event) (old new : List Answer)
    → i < length events → e ≡ get_or events i e
    → new ≡ old ++ option_to_list (option_map (λ (t : Told). t.answer) (told_by e.what))
    → old ≡ map (λ (t : Told). t.answer) (filter_map (λ (e : Event). told_by e.what) (take i events))
    → new ≡ map (λ (t : Told). t.answer) (filter_map (λ (e : Event). told_by e.what) (take (i + 1) events))
told_more events i e old new inside is put so_far =
    let told : Event → Option Told = λ e. told_by e.what in
    put ∙ ap (λ (xs : List Answer). xs ++ option_to_list (option_map (λ (t : Told). t.answer) (told_by e.what))) so_far
    ∙ ap (λ (xs : List Answer). map (λ (t : Told). t.answer) (filter_map told (take i events)) ++ xs)
    (one_told (told e))
    ∙ sym (map-append (λ (t : Told). t.answer) (filter_map told (take i events)) (filter_map told (e ∷ [])))
    ∙ ap (map (λ (t : Told). t.answer)) (sym (filter_map-append told (take i events) (e ∷ [])))
    ∙ ap (λ (es : List Event). map (λ (t : Told). t.answer) (filter_map told es)) (sym (take_next events i e inside is))
