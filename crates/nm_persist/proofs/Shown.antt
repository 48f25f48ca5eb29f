-- The text of a plan's run, by the lines that it shows.
use Rattle.std.proofs.Common.{◌≡◌, ℕ, ◌+◌, Bool, true, false, cond, Option, List, [], ◌∷◌, ◌++◌, length, map, refl}
use Rattle.std.proofs.Common.{sym, ◌∙◌, ap, append_assoc, drop, take}
use Rattle.std.specs.Prelude.{flat_map, nat_lt, option_map}
use Rattle.std.proofs.lemmas.List.Concat.{flat_map-cons}
use Rattle.nm_types.specs.declared.answers.Answer.{Answer}
use Rattle.nm_report.specs.declared.accounts.RankAccount.{RankAccount}
use Rattle.nm_report.specs.declared.records.RunRecord.{RunRecord}
use Rattle.nm_report.specs.Report.{cells_line, end_line, waits_line}
use Rattle.nm_report.specs.Told.{told_of_rank}
use Rattle.nm_plans.specs.declared.lines.PlanLine.{PlanLine}
use Rattle.nm_persist.specs.declared.asked.Asked.{Asked}
use Rattle.nm_persist.specs.Report.{Named, asked_at, asked_behind, named_from, rank_lines, ranks_lines, run_text}
use Rattle.nm_persist.specs.Promises.{Entry, accounts_text, answers_of, entries, entry_line, rank_text}
use Rattle.nm_persist.specs.Promises.{standing_line}

lines_shown : (rank : ℕ) (asked : List Asked) (told : List Named) (rest : List Answer) (waits : Option ℕ) →
    rank_lines rank asked told rest waits ≡ flat_map entry_line (entries asked told rest) ++ standing_line rank asked
    rest waits
lines_shown rank [] told rest waits = refl
lines_shown rank (a ∷ asked) told rest waits =
    by_count (nat_lt (length rest) a.count)
    (lines_shown rank asked (told ++ named_from a.name (take a.count rest)) (drop a.count rest) waits)
  where
    own : List Answer
    own = take a.count rest

    told' : List Named
    told' = told ++ named_from a.name (take a.count rest)

    e : Entry
    e = record { asked = a; own = take a.count rest; told = told ++ named_from a.name (take a.count rest) }

    by_count : (b : Bool) →
        rank_lines rank asked told' (drop a.count rest) waits
        ≡ flat_map entry_line (entries asked told' (drop a.count rest)) ++ standing_line rank asked
        (drop a.count rest) waits →
        cond b (waits_line rank (option_map (λ _. a.line) waits))
        (entry_line e ++ rank_lines rank asked told' (drop a.count rest) waits)
        ≡ flat_map entry_line (cond b [] (e ∷ entries asked told' (drop a.count rest)))
        ++ cond b (waits_line rank (option_map (λ _. a.line) waits))
        (standing_line rank asked (drop a.count rest) waits)
    by_count true later = refl
    by_count false later =
        ap (λ (xs : List ℕ). entry_line e ++ xs) later
        ∙ sym (append_assoc (entry_line e) (flat_map entry_line (entries asked told' (drop a.count rest)))
        (standing_line rank asked (drop a.count rest) waits))
        ∙ ap (λ (xs : List ℕ). xs ++ standing_line rank asked (drop a.count rest) waits)
        (sym (flat_map-cons entry_line e (entries asked told' (drop a.count rest))))

accounts_shown : (lines : List PlanLine) (rank : ℕ) (accounts : List RankAccount) →
    ranks_lines (asked_behind [] lines) rank (map told_of_rank accounts) ≡ accounts_text lines rank accounts
accounts_shown lines rank [] = refl
accounts_shown lines rank (account ∷ accounts) =
    ap (λ (xs : List ℕ). xs ++ ranks_lines (asked_behind [] lines) (rank + 1) (map told_of_rank accounts))
    (lines_shown rank (asked_at rank (asked_behind [] lines)) [] (answers_of account) account.waits)
    ∙ ap (λ (xs : List ℕ). rank_text lines rank account ++ xs) (accounts_shown lines (rank + 1) accounts)

pub text_shown : (lines : List PlanLine) (run : RunRecord) →
    run_text lines run ≡ accounts_text lines 0 run.ranks ++ (cells_line run.cells ++ end_line run.done)
text_shown lines run = ap (λ (xs : List ℕ). xs ++ (cells_line run.cells ++ end_line run.done))
    (accounts_shown lines 0 run.ranks)
