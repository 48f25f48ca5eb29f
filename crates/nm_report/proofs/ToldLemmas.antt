-- A report without its trace is the report of what was told.
use Rattle.std.proofs.Common.{◌≡◌, ℕ, ◌+◌, false, List, [], ◌∷◌, ◌++◌, map, flat_map, refl, ◌∙◌, ap}
use Rattle.std.specs.Prelude.{filter_map}
use Rattle.std.specs.List.{cons_option}
use Rattle.nm_history.specs.declared.events.Event.{Event}
use Rattle.nm_history.specs.declared.events.Happened.{Happened}
use Rattle.nm_history.specs.declared.events.Happened.TheVariants.{Ran}
use Rattle.nm_report.specs.declared.accounts.RankAccount.{RankAccount}
use Rattle.nm_report.specs.declared.records.RunRecord.{RunRecord}
use Rattle.nm_report.specs.Layout.{from_rank}
use Rattle.nm_report.specs.Report.{answer_line, answer_lines, cells_line, end_line, ran_line, report_text}
use Rattle.nm_report.specs.Report.{waits_line}
use Rattle.nm_report.specs.Told.{Told, told_by, told_from, told_of, told_of_rank, told_text}

one_told : (rank : ℕ) (what : Happened) (more : List ℕ) (list : List Told) →
    more ≡ flat_map (λ t. answer_line rank t.line t.answer) list →
    ran_line rank what ++ more ≡ flat_map (λ t. answer_line rank t.line t.answer) (cons_option (told_by what) list)
one_told rank (Ran line answer) more list same = ap (λ (ls : List ℕ). answer_line rank line answer ++ ls) same
one_told rank what more list same = same

answers_told : (rank : ℕ) (h : List Event) → flat_map (λ event. ran_line rank event.what) h
    ≡ flat_map (λ t. answer_line rank t.line t.answer) (filter_map (λ event. told_by event.what) h)
answers_told rank [] = refl
answers_told rank (e ∷ h) =
    one_told rank e.what (flat_map (λ (event : Event). ran_line rank event.what) h)
    (filter_map (λ (event : Event). told_by event.what) h) (answers_told rank h)

ranks_told : (rank : ℕ) (accounts : List RankAccount) →
    from_rank answer_lines rank accounts ≡ told_from rank (map told_of_rank accounts)
ranks_told rank [] = refl
ranks_told rank (account ∷ accounts) =
    ap (λ (ls : List ℕ). (ls ++ waits_line rank account.waits) ++ from_rank answer_lines (rank + 1) accounts)
    (answers_told rank account.history.events)
    ∙ ap (λ (ls : List ℕ). (flat_map (λ (t : Told). answer_line rank t.line t.answer)
    (filter_map (λ (event : Event). told_by event.what) account.history.events) ++ waits_line rank account.waits) ++ ls)
    (ranks_told (rank + 1) accounts)

pub report_told : (run : RunRecord) → report_text false run ≡ told_text (told_of run) run.cells run.done
report_told run = ap (λ (ls : List ℕ). ls ++ (cells_line run.cells ++ end_line run.done)) (ranks_told 0 run.ranks)
