-- Where no report is stuck, no run hangs.
use Rattle.std.proofs.Common.{◌≡◌, ℕ, zero, suc, ◌<◌, ◌≤◌, Bool, true, false, cond, refl, sym, ◌∙◌, ap, arith, codes}
use Rattle.std.proofs.Common.{List, [], ◌∷◌, ◌++◌, Option, append_assoc, get_or, if◌then◌else◌, length, nat_eq}
use Rattle.std.specs.Prelude.{Contains}
use Rattle.std.specs.Cmp.Lexicographic.{pointwise}
use Rattle.std.proofs.lemmas.Bool.{lt-ltb}
use Rattle.std.proofs.lemmas.List.Prefix.{end_rest}
use Rattle.std.proofs.lemmas.List.Sums.{sum_by-cons}
use Rattle.nm_types.specs.declared.scripts.Line.{Line}
use Rattle.nm_report.specs.declared.records.RunRecord.{RunRecord}
use Rattle.nm_report.specs.Layout.{by_rank}
use Rattle.nm_report.specs.Report.{answer_lines, cells_line, end_line, report_text}
use Rattle.nm_outcomes_top.specs.Answers.{listed_status}
use Rattle.nm_outcomes_top.specs.Endings.{IsEitherListed, IsSafe}
use Rattle.nm_outcomes_top.specs.Texts.{is_stuck, stuck_count}
use Rattle.nm_outcomes_top.specs.declared.words.Asked.{Asked}

-- the report of a run that hangs says so at its end
stuck_text : (run : RunRecord) → run.done ≡ false → is_stuck (report_text false run) ≡ true
stuck_text run hung =
    let front : List ℕ = by_rank answer_lines run.ranks ++ cells_line run.cells in
    let ends : report_text false run ≡ front ++ codes "stuck\n" =
    ap (λ (done : Bool). by_rank answer_lines run.ranks ++ (cells_line run.cells ++ end_line done)) hung
    ∙ sym (append_assoc (by_rank answer_lines run.ranks) (cells_line run.cells) (codes "stuck\n")) in
    ap (λ (rest : List ℕ). pointwise nat_eq (codes "stuck\n") rest)
    (end_rest (report_text false run) (codes "stuck\n") front ends)

-- such a report is counted
counted : (texts : List (List ℕ)) (k : ℕ) (text : List ℕ) → k < length texts → get_or texts k text ≡ text →
    is_stuck text ≡ true → 1 ≤ stuck_count texts
counted [] k text low is stuck = absurd (omega (arith, low))
counted (t ∷ texts) zero text low is stuck =
    let all = sum_by-cons (λ (x : List ℕ). cond (is_stuck x) 1 0) t texts in
    let one : ◌≡◌ {A = ℕ} (cond (is_stuck t) 1 0) 1 = ap (λ (b : Bool). cond b 1 0) (ap is_stuck is ∙ stuck) in
    omega (arith, all, one)
counted (t ∷ texts) (suc k) text low is stuck =
    let all = sum_by-cons (λ (x : List ℕ). cond (is_stuck x) 1 0) t texts in
    let rest = counted texts k text (omega (arith, low)) is stuck in
    omega (arith, all, rest)

-- so the status is 1
stuck_status : (texts : List (List ℕ)) → 1 ≤ stuck_count texts → listed_status texts ≡ 1
stuck_status texts some = ap (λ (b : Bool). if b then 1 else 0) (lt-ltb 0 (stuck_count texts) (omega (arith, some)))

-- where it is 0, each run is done
done_by : (run : RunRecord) (texts : List (List ℕ)) (done : Bool) → run.done ≡ done → listed_status texts ≡ 0 →
    Contains texts (report_text false run) → run.done ≡ true
done_by run texts true is none there = is
done_by run texts false is none (k, low, at) =
    let one = stuck_status texts (counted texts k (report_text false run) low at (stuck_text run is)) in
    absurd (omega (arith, one, none))

pub safe_of : {asked : Asked} {before after : Option (List ℕ)} {bytes : List ℕ} (status : ℕ) → status ≡ 0 →
    IsEitherListed asked status before after bytes → IsSafe asked bytes
safe_of status none listed =
    record {
      given = listed.given;
      never = λ variant one run lawful.
          done_by run listed.texts run.done refl (sym listed.ended ∙ none)
          (listed.reports.complete variant one run lawful);
    }
