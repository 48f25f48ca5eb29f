-- Silent ranks take no line of a trace.
use Rattle.std.proofs.Common.{◌≡◌, ℕ, ◌+◌, ◌-◌, ◌≤◌, zero, suc, List, [], ◌∷◌, ◌++◌, true, refl, sym, ap, ◌∙◌, arith}
use Rattle.std.proofs.Common.{length, replicate, flat_map}
use Rattle.std.specs.List.{AllByRecursion}
use Rattle.std.proofs.lemmas.List.{length-append, length-replicate}
use Rattle.nm_types.specs.Sizes.{Sizes}
use Rattle.nm_report.specs.declared.accounts.RankAccount.{RankAccount}
use Rattle.nm_report.specs.declared.records.RunRecord.{RunRecord}
use Rattle.nm_report.specs.Ends.{end_of_account, ends_of}
use Rattle.nm_report.specs.Events.{event_lines, pair_line}
use Rattle.nm_report.specs.Layout.{from_rank}
use Rattle.nm_report.specs.Report.{answer_lines, cells_line, end_line, report_text}
use Rattle.nm_trace.specs.Traces.{EndIn, IsTraceOf}
use Rattle.nm_diagram.specs.Alike.{AreAlike}
use Rattle.nm_diagram.specs.Frames.{IsSilent}
use Rattle.nm_picture.specs.Pictures.{IsPictureOf}
use Rattle.nm_picture.proofs.AlikeLemmas.{alike-picture}
use Rattle.nm_chart.specs.Endings.{IsTraceOfOne, widest}
use Rattle.nm_chart.specs.Widened.{silent, widened}

silent_text : (text_of : ℕ → RankAccount → List ℕ) → ((rank : ℕ) → text_of rank silent ≡ []) → (n rank : ℕ) →
    from_rank text_of rank (replicate n silent) ≡ []
silent_text text_of none zero rank = refl
silent_text text_of none (suc n) rank =
    ap (λ l. l ++ from_rank text_of (rank + 1) (replicate n silent)) (none rank)
    ∙ silent_text text_of none n (rank + 1)

behind_text : (text_of : ℕ → RankAccount → List ℕ) → ((rank : ℕ) → text_of rank silent ≡ []) → (n rank : ℕ)
    (ranks : List RankAccount) → from_rank text_of rank (ranks ++ replicate n silent) ≡ from_rank text_of rank ranks
behind_text text_of none n rank [] = silent_text text_of none n rank
behind_text text_of none n rank (account ∷ accounts) =
    ap (λ l. text_of rank account ++ l) (behind_text text_of none n (rank + 1) accounts)

same_text : (run : RunRecord) → report_text true (widened run) ≡ report_text true run
same_text run =
    let n = 64 - length run.ranks in
    let pairs : List ℕ = flat_map pair_line run.pairs in
    let last : List ℕ = cells_line run.cells ++ end_line run.done in
    let answers = from_rank answer_lines 0 (widened run).ranks in
    ap (λ l. (l ++ pairs) ++ (answers ++ last)) (behind_text event_lines (λ rank. refl) n 0 run.ranks)
    ∙ ap (λ l. (from_rank event_lines 0 run.ranks ++ pairs) ++ (l ++ last))
    (behind_text answer_lines (λ rank. refl) n 0 run.ranks)

silent_ends : (n : ℕ) → AllByRecursion EndIn (ends_of (replicate n silent))
silent_ends zero = tt
silent_ends (suc n) = (record { events = tt; waits = tt; at = refl }, silent_ends n)

behind_ends : (n : ℕ) (ranks : List RankAccount) → AllByRecursion EndIn (ends_of ranks) →
    AllByRecursion EndIn (ends_of (ranks ++ replicate n silent))
behind_ends n [] h = silent_ends n
behind_ends n (account ∷ accounts) h = (h.0, behind_ends n accounts h.1)

pub widened-trace : (shape : Sizes) (bytes : List ℕ) (run : RunRecord) → shape.ranks ≤ 64 → IsTraceOf shape bytes run →
    IsTraceOf widest bytes (widened run)
widened-trace shape bytes run few trace =
    let n = 64 - length run.ranks in
    let many = trace.whole in
    let both = length-append run.ranks (replicate n silent) in
    let behind = length-replicate n silent in
    record {
      spelled = trace.spelled ∙ sym (same_text run);
      shaped = refl;
      whole = omega (arith, few, many, both, behind);
      ends = behind_ends n run.ranks trace.ends;
      pairs = trace.pairs;
      cells = trace.cells;
    }

-- records with the same ends, but for silent ranks behind those of one, are alike
all_silent : (n : ℕ) (xs : List RankAccount) → ends_of xs ≡ ends_of (replicate n silent) → AllByRecursion IsSilent xs
all_silent n [] same = tt
all_silent zero (x ∷ xs) same = absurd cc
all_silent (suc n) (x ∷ xs) same =
    let head : end_of_account x ≡ end_of_account silent = cc in
    let tail : ends_of xs ≡ ends_of (replicate n silent) = cc in
    ((ap (λ e. e.events) head, ap (λ e. e.waits) head), all_silent n xs tail)

ends_alike : (n : ℕ) (xs ys : List RankAccount) → ends_of xs ≡ ends_of (ys ++ replicate n silent) → AreAlike xs ys
ends_alike n [] [] same = tt
ends_alike n [] (y ∷ ys) same = absurd cc
ends_alike n (x ∷ xs) [] same = all_silent n (x ∷ xs) same
ends_alike n (x ∷ xs) (y ∷ ys) same =
    let head : end_of_account x ≡ end_of_account y = cc in
    let tail : ends_of xs ≡ ends_of (ys ++ replicate n silent) = cc in
    (ap (λ e. e.events) head, ap (λ e. e.waits) head, ends_alike n xs ys tail)

-- the picture of a record is that of each run whose trace it is
pub picture_of_each : (bytes : List ℕ) (run : RunRecord) (text : List ℕ) → IsTraceOfOne bytes run →
    IsPictureOf run text → (shape : Sizes) (other : RunRecord) → shape.ranks ≤ 64 → IsTraceOf shape bytes other →
    IsPictureOf other text
picture_of_each bytes run text one picture shape other few trace =
    let same = one.only (widened other) (one.of_run.0, widened-trace shape bytes other few trace) in
    alike-picture run other text (ends_alike (64 - length other.ranks) run.ranks other.ranks same.ranks) picture
