-- What the last state stands for is a report with its trace.
use Rattle.std.proofs.Common.{◌≡◌, ℕ, ◌+◌, true, List, [], ◌∷◌, ◌++◌, refl, ap}
use Rattle.std.proofs.Common.{append_assoc, flat_map}
use Rattle.nm_report.specs.declared.accounts.RankAccount.{RankAccount}
use Rattle.nm_report.specs.declared.records.RunRecord.{RunRecord}
use Rattle.nm_report.specs.Ends.{ends_of}
use Rattle.nm_report.specs.Events.{event_line, event_lines, pair_line}
use Rattle.nm_report.specs.Layout.{from_rank}
use Rattle.nm_report.specs.Report.{answer_lines, cells_line, end_line, report_text}
use Rattle.nm_trace.specs.Machine.{Over}
use Rattle.nm_trace.specs.Texts.{events_from, answers_from, state_text, trace_of}

events_are : (rank : ℕ) (ranks : List RankAccount) → events_from rank (ends_of ranks)
    ≡ from_rank event_lines rank ranks
events_are rank [] = refl
events_are rank (a ∷ ranks) = ap (λ t. flat_map (event_line rank) a.history.events ++ t)
    (events_are (rank + 1) ranks)

answers_are : (rank : ℕ) (ranks : List RankAccount) → answers_from rank (ends_of ranks)
    ≡ from_rank answer_lines rank ranks
answers_are rank [] = refl
answers_are rank (a ∷ ranks) = ap (λ t. answer_lines rank a ++ t) (answers_are (rank + 1) ranks)

grouped : (e p a c d : List ℕ) → ((e ++ p) ++ a) ++ c ++ d ≡ (e ++ p) ++ (a ++ (c ++ d))
grouped e p a c d = simp append_assoc

pub report_is : (run : RunRecord) → state_text (Over (trace_of run)) ≡ report_text true run
report_is run =
    rw (events_are 0 run.ranks, answers_are 0 run.ranks)
    (grouped (from_rank event_lines 0 run.ranks) (flat_map pair_line run.pairs)
    (from_rank answer_lines 0 run.ranks) (cells_line run.cells) (end_line run.done))
