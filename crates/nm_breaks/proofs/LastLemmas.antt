-- The last two lines of a trace are those of the cells and of the end.
use Rattle.std.proofs.Common.{◌≡◌, ℕ, ◌+◌, ◌-◌, ◌<◌, ◌≤◌, ◌^◌, ◌==◌, Bool, true, false, List, [], ◌∷◌, ◌++◌, length, map}
use Rattle.std.proofs.Common.{refl, sym, ◌∙◌, ap, arith, append_assoc, length-append}
use Rattle.std.specs.Prelude.{codes, count_by, decimal, slice_get}
use Rattle.std.specs.List.{join_with_byte}
use Rattle.std.proofs.lemmas.List.{length-map}
use Rattle.std.proofs.lemmas.List.Sums.{count_by-le-length, length-filter}
use Rattle.nm_types.proofs.ListLemmas.{get_behind}
use Rattle.nm_types.specs.Sizes.{Sizes}
use Rattle.nm_types.specs.Text.{text_line}
use Rattle.nm_types.specs.declared.answers.Account.{Account}
use Rattle.nm_report.specs.declared.records.RunRecord.{RunRecord}
use Rattle.nm_report.specs.Ends.{ends_of}
use Rattle.nm_report.specs.Layout.{by_rank}
use Rattle.nm_report.specs.Report.{answer_lines, cells_line, end_line, trace_text}
use Rattle.nm_script.specs.Lines.{is_printable, lines_of}
use Rattle.nm_script.proofs.WordLemmas.{decimal_solid, joined_printable}
use Rattle.nm_trace.specs.Notes.{cells_words, end_word}
use Rattle.nm_trace.specs.Traces.{CellsIn, IsTraceOf}
use Rattle.nm_breaks.specs.Lines.{IsLineAt}
use Rattle.nm_breaks.specs.Places.{events_in}
use Rattle.nm_breaks.specs.Stops.{lines_in}
use Rattle.nm_breaks.proofs.FedLemmas.{Feeds, answers_feed, feeds_both, feeds_last, trace_feeds}
use Rattle.nm_breaks.proofs.LineLemmas.{all_lines, lines_from, many_from, one_line, pair_text, there_too}

cells_printable : (cells : Account) → CellsIn cells → is_printable (join_with_byte 32 (cells_words cells)) ≡ true
cells_printable cells within =
    joined_printable (codes "cells") (decimal cells.total ∷ codes "home" ∷ decimal cells.home ∷ []) (
      refl,
      (
        decimal_solid cells.total (omega (arith, within.0)),
        (refl, (decimal_solid cells.home (omega (arith, within.1)), tt)),
      ),
    )

-- what stands behind four words stands behind the last one
four_words : (a b c d end : List ℕ) → a ++ 32 ∷ (b ++ 32 ∷ (c ++ 32 ∷ (d ++ end)))
    ≡ (a ++ 32 ∷ (b ++ 32 ∷ (c ++ 32 ∷ d))) ++ end
four_words a b c d end = simp append_assoc

-- the line of the cells is that of its words
cells_text : (cells : Account) → cells_line cells ≡ text_line (cells_words cells)
cells_text cells = four_words (codes "cells") (decimal cells.total) (codes "home") (decimal cells.home) (10 ∷ [])

end_feeds : (done : Bool) → Feeds (end_line done)
end_feeds true = feeds_last (codes "done")
end_feeds false = feeds_last (codes "stuck")

end_text : (done : Bool) → lines_of (end_line done) ≡ end_word done ∷ []
end_text true = refl
end_text false = refl

-- all lines of a trace, and how many there are
pub record LastTwo (bytes : List ℕ) (cells : Account) (done : Bool) : Type 0 where
  pub before : List (List ℕ)
  pub are : lines_of bytes ≡ before ++ join_with_byte 32 (cells_words cells) ∷ end_word done ∷ []
  pub many : lines_in bytes ≡ length before + 2

pub last_two : (shape : Sizes) (bytes : List ℕ) (run : RunRecord) → IsTraceOf shape bytes run →
    LastTwo bytes run.cells run.done
last_two shape bytes run trace =
    let answers = by_rank answer_lines run.ranks in
    let front = trace_text run ++ answers in
    let cells = text_line (cells_words run.cells) in
    let end = end_line run.done in
    let fed : Feeds front = feeds_both (trace_text run) answers (trace_feeds run) (answers_feed run.ranks) in
    let last : Feeds (cells ++ end) =
    feeds_both cells end (feeds_last (join_with_byte 32 (cells_words run.cells))) (end_feeds run.done) in
    let all : Feeds (front ++ (cells ++ end)) = feeds_both front (cells ++ end) fed last in
    let is : bytes ≡ front ++ (cells ++ end) =
    trace.spelled ∙ ap (λ (xs : List ℕ). trace_text run ++ (answers ++ (xs ++ end))) (cells_text run.cells)
    ∙ sym (append_assoc (trace_text run) answers (cells ++ end)) in
    let two : lines_of (cells ++ end) ≡ join_with_byte 32 (cells_words run.cells) ∷ end_word run.done ∷ [] =
    one_line (cells_words run.cells) end (cells_printable run.cells trace.cells)
    ∙ ap (λ (ls : List (List ℕ)). join_with_byte 32 (cells_words run.cells) ∷ ls) (end_text run.done) in
    let lines : lines_of (front ++ (cells ++ end))
    ≡ lines_of front ++ join_with_byte 32 (cells_words run.cells) ∷ end_word run.done ∷ [] =
    fed.split (cells ++ end) ∙ ap (λ (ls : List (List ℕ)). lines_of front ++ ls) two in
    record {
      before = lines_of front;
      are = ap lines_of is ∙ lines;
      many = ap lines_in is ∙ sym all.many ∙ ap length lines
          ∙ length-append (lines_of front) (join_with_byte 32 (cells_words run.cells) ∷ end_word run.done ∷ []);
    }

module _ (bytes : List ℕ) (cells : Account) (done : Bool) (two : LastTwo bytes cells done) where
  -- the last but one
  pub cells_stand : IsLineAt bytes (lines_in bytes - 1) (join_with_byte 32 (cells_words cells))
  cells_stand = (
    length two.before,
    omega (arith, two.many),
    ap (λ (ls : List (List ℕ)). slice_get ls (length two.before)) two.are
        ∙ get_behind two.before (end_word done ∷ []) (join_with_byte 32 (cells_words cells)),
  )

  -- the last
  pub end_stands : IsLineAt bytes (lines_in bytes) (end_word done)
  end_stands = (
    length two.before + 1,
    omega (arith, two.many),
    ap (λ (ls : List (List ℕ)). slice_get ls (length two.before + 1)) two.are
        ∙ there_too two.before (join_with_byte 32 (cells_words cells) ∷ end_word done ∷ []) 1 (end_word done) refl,
  )

-- the events and the counts of a trace are no more than its bytes
pub few_lines : (shape : Sizes) (bytes : List ℕ) (run : RunRecord) → IsTraceOf shape bytes run →
    shape.ranks < 2 ^ 64 → events_in (ends_of run.ranks) + length run.pairs ≤ length bytes
few_lines shape bytes run trace few =
    let two = last_two shape bytes run trace in
    let all = all_lines shape bytes run trace few in
    let lines : length (lines_of bytes) ≡ length two.before + 2 =
    ap length two.are
    ∙ length-append two.before (join_with_byte 32 (cells_words run.cells) ∷ end_word run.done ∷ []) in
    let parts : length (lines_of bytes)
    ≡ length (lines_from 0 run.ranks) + length (map pair_text run.pairs ++ lines_of all.0) =
    ap length all.1 ∙ length-append (lines_from 0 run.ranks) (map pair_text run.pairs ++ lines_of all.0) in
    let counts : length (map pair_text run.pairs ++ lines_of all.0)
    ≡ length (map pair_text run.pairs) + length (lines_of all.0) =
    length-append (map pair_text run.pairs) (lines_of all.0) in
    let events : length (lines_from 0 run.ranks) ≡ events_in (ends_of run.ranks) = many_from 0 run.ranks in
    let pairs : length (map pair_text run.pairs) ≡ length run.pairs = length-map run.pairs pair_text in
    let feeds : lines_in bytes ≡ count_by (λ (b : ℕ). b == 10) bytes = length-filter (λ (b : ℕ). b == 10) bytes in
    let less : count_by (λ (b : ℕ). b == 10) bytes ≤ length bytes = count_by-le-length (λ (b : ℕ). b == 10) bytes in
    omega (arith, two.many, lines, parts, counts, events, pairs, feeds, less)
