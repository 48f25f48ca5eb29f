-- The text of a summary, which is said over what a run told.
use Rattle.std.specs.Prelude.{ℕ, ◌^◌, ◌<◌, Bool, List, map, flat_map, codes, decimal, count_by, sum_by}
use Rattle.nm_types.specs.declared.answers.Account.{Account}
use Rattle.nm_types.specs.declared.answers.Answer.{Answer}
pub use Rattle.nm_history.specs.Totals.{got_len, is_got, is_sent}
use Rattle.nm_report.specs.declared.records.RunRecord.{RunRecord}
use Rattle.nm_report.specs.Layout.{◌⧺◌, ◌␣◌}
use Rattle.nm_report.specs.Report.{cells_line, end_line}
use Rattle.nm_report.specs.Told.{RankTold, told_of}

-- the answers that were told, rank by rank
abbrev pub answers_of : List RankTold → List Answer
answers_of told = flat_map (λ rank. map (λ t. t.answer) rank.answers) told

-- how many sends are complete
abbrev pub sent_count : List RankTold → ℕ
sent_count told = count_by is_sent (answers_of told)

-- how many receives have their message
abbrev pub got_count : List RankTold → ℕ
got_count told = count_by is_got (answers_of told)

-- how many bytes these messages have together
abbrev pub got_bytes : List RankTold → ℕ
got_bytes told = sum_by got_len (answers_of told)

-- each of these numbers is below 2^64
pub record CountsFit (told : List RankTold) : Type 0 where
  pub sent : sent_count told < 2 ^ 64
  pub got : got_count told < 2 ^ 64
  pub bytes : got_bytes told < 2 ^ 64

-- the line of the flood: its key, its ranks and its messages
abbrev pub flood_line : ℕ → ℕ → ℕ → List ℕ
flood_line key ranks messages =
    codes "flood" ␣ decimal key ␣ decimal ranks ␣ decimal messages ⧺ codes "\n"

-- the line of the sends that are complete
abbrev pub sent_line : ℕ → List ℕ
sent_line count = codes "sent" ␣ decimal count ⧺ codes "\n"

-- the line of the receives that have their message
abbrev pub got_line : ℕ → ℕ → List ℕ
got_line count bytes =
    codes "got" ␣ decimal count ␣ codes "bytes" ␣ decimal bytes ⧺ codes "\n"

-- the summary of what the ranks of a run told, with its cells and its end
abbrev pub told_summary : ℕ → ℕ → ℕ → List RankTold → Account → Bool → List ℕ
told_summary key ranks messages told cells done =
    flood_line key ranks messages ⧺ sent_line (sent_count told)
    ⧺ got_line (got_count told) (got_bytes told) ⧺ cells_line cells ⧺ end_line done

-- the whole summary of a flood with this key and so many messages
abbrev pub summary_text : ℕ → ℕ → RunRecord → List ℕ
summary_text key messages run =
    told_summary key run.shape.ranks messages (told_of run) run.cells run.done
