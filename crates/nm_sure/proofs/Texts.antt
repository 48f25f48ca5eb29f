-- The report of a lawful run of a plain script is that of its plain run.
use Rattle.std.proofs.Common.{◌≡◌, ℕ, ◌+◌, ◌*◌, Bool, false, ◌&&◌, suc, Option, Some, None}
use Rattle.std.proofs.Common.{List, [], ◌∷◌, ◌++◌, length, map, refl, sym, ◌∙◌, ap, subst, arith}
use Rattle.std.specs.Prelude.{MatchOption, flat_map, is_none, option_map, replicate, take}
use Rattle.std.specs.List.{filter_map, list_all, range_with_len, slice_get}
use Rattle.std.specs.Option.{option_map_or}
use Rattle.std.proofs.lemmas.List.{length-map, length-replicate}
use Rattle.nm_types.specs.declared.scripts.Line.{Line}
use Rattle.nm_types.specs.Commands.{Numbered, StandAtLines, commands_of}
use Rattle.nm_types.specs.Limits.{IsScript}
use Rattle.nm_types.specs.Sizes.{Sizes}
use Rattle.nm_history.specs.declared.events.Event.{Event}
use Rattle.nm_history.specs.Answers.{can_go_on}
use Rattle.nm_history.specs.Quiescence.{Ended, IsStopped, history_of}
use Rattle.nm_report.specs.declared.accounts.RankAccount.{RankAccount}
use Rattle.nm_report.specs.declared.records.RunRecord.{RunRecord}
use Rattle.nm_report.specs.Ends.{are_done, ends_of}
use Rattle.nm_report.specs.Lawful.{IsRunIn}
use Rattle.nm_report.specs.Report.{answer_line, cells_line, end_line, report_text, waits_line}
use Rattle.nm_report.specs.Told.{RankTold, Told, told_by, told_from, told_lines, told_of}
use Rattle.nm_report.specs.Told.{SayWhatWasTold, told_of_rank}
use Rattle.nm_sure.specs.Agree.{ArePlain}
use Rattle.nm_sure.specs.Plain.{at_of, next_of, plain_end}
use Rattle.nm_sure.specs.PlainText.{are_at_end, plain_done, plain_text, plain_told, rank_text, rank_told, told_after}
use Rattle.nm_sure.specs.PlainText.{waits_at}
use Rattle.nm_sure.proofs.Assembled.{Begins, as_far, assembled, at_in}
use Rattle.nm_sure.proofs.Fuel.{end_length}
use Rattle.nm_sure.proofs.ShownAnswers.{told_all}
use Rattle.nm_types.proofs.ListLemmas.{get_map}
use Rattle.nm_types.proofs.OptionLemmas.{if_some}
use Rattle.nm_types.specs.Bodies.{HaveTheirLength}

-- where each rank tells its text, the texts are theirs in order
each_text : (T : ℕ → List ℕ) (n : ℕ) (accounts : List RankAccount) →
    ((k : ℕ) (a : RankAccount) → slice_get accounts k ≡ Some a → told_lines (n + k) (told_of_rank a) ≡ T (n + k)) →
    told_from n (map told_of_rank accounts) ≡ flat_map T (range_with_len n (length accounts))
each_text T n [] each = refl
each_text T n (a ∷ accounts) each =
    ap (λ (t : List ℕ). t ++ told_from (n + 1) (map told_of_rank accounts)) (first n a T (each 0 a refl))
    ∙ ap (λ (ts : List ℕ). T n ++ ts) (each_text T (n + 1) accounts (λ k b here. later n k b T (each (suc k) b here)))
  where
    first : (n : ℕ) (a : RankAccount) (T : ℕ → List ℕ) → told_lines (n + 0) (told_of_rank a) ≡ T (n + 0) →
        told_lines n (told_of_rank a) ≡ T n
    first n a T same = let sum : n + 0 ≡ n = omega arith in
        subst (λ (m : ℕ). told_lines m (told_of_rank a) ≡ T m) sum same

    later : (n k : ℕ) (b : RankAccount) (T : ℕ → List ℕ) → told_lines (n + suc k) (told_of_rank b) ≡ T (n + suc k) →
        told_lines (n + 1 + k) (told_of_rank b) ≡ T (n + 1 + k)
    later n k b T same = let sum : n + suc k ≡ n + 1 + k = omega arith in
        subst (λ (m : ℕ). told_lines m (told_of_rank b) ≡ T m) sum same

-- where each rank tells what it should, all do
each_told : (T : ℕ → RankTold) (n : ℕ) (accounts : List RankAccount) →
    ((k : ℕ) (a : RankAccount) → slice_get accounts k ≡ Some a → told_of_rank a ≡ T (n + k)) →
    map told_of_rank accounts ≡ map T (range_with_len n (length accounts))
each_told T n [] each = refl
each_told T n (a ∷ accounts) each =
    ap (λ (t : RankTold). t ∷ map told_of_rank accounts) (each 0 a refl ∙ ap T (add_zero n))
    ∙ ap (λ (ts : List RankTold). T n ∷ ts)
    (each_told T (n + 1) accounts (λ k b here. each (suc k) b here ∙ ap T (shift n k)))
  where
    add_zero : (n : ℕ) → n + 0 ≡ n
    add_zero n = omega arith

    shift : (n k : ℕ) → n + suc k ≡ n + 1 + k
    shift n k = omega arith

-- where each rank is at its end or not in both, all are or not
each_end : (t : ℕ → Bool) (n : ℕ) (accounts : List RankAccount) →
    ((k : ℕ) (a : RankAccount) → slice_get accounts k ≡ Some a → is_none a.waits ≡ t (n + k)) →
    are_done (ends_of accounts) ≡ list_all t (range_with_len n (length accounts))
each_end t n [] each = refl
each_end t n (a ∷ accounts) each =
    both (is_none a.waits) (t n) (are_done (ends_of accounts)) (list_all t (range_with_len (n + 1) (length accounts)))
    (each 0 a refl ∙ ap t (add_zero n))
    (each_end t (n + 1) accounts (λ k b here. each (suc k) b here ∙ ap t (shift n k)))
  where
    add_zero : (n : ℕ) → n + 0 ≡ n
    add_zero n = omega arith

    shift : (n k : ℕ) → n + suc k ≡ n + 1 + k
    shift n k = omega arith

    both : (x y u v : Bool) → x ≡ y → u ≡ v → (x && u) ≡ (y && v)
    both x y u v p q = rw (p, q) refl

module _ (shape : Sizes) (lines : List Line) (run : RunRecord) (stand : StandAtLines) (begins : Begins)
    (lengths : HaveTheirLength)
    (says : SayWhatWasTold) (script : IsScript shape.ranks lines) (plain : ArePlain lines)
    (is : IsRunIn shape lines run) where
  abbrev F : List ℕ
  F = plain_end shape.eager shape.ranks lines

  abbrev end_of : RankAccount → Ended
  end_of a = record { at = a.at; waits = a.waits; events = a.history.events }

  count : length run.ranks ≡ shape.ranks
  count = sym (length-map run.ranks end_of) ∙ is.lawful.one_each

  far : (k : ℕ) (a : RankAccount) → slice_get run.ranks k ≡ Some a → a.at ≡ at_of F k
  far k a here =
      sym (ap (λ (o : Option Ended). option_map_or (λ r. r.at) o 0) (get_map end_of run.ranks k a here))
      ∙ as_far shape lines (ends_of run.ranks) _ stand begins script plain is.lawful k

  -- a rank waits where it does in the plain run
  waits_same : (k : ℕ) (a : RankAccount) → slice_get run.ranks k ≡ Some a → a.waits ≡ waits_at lines F k
  waits_same k a here =
      at_place (slice_get (commands_of k lines) a.at)
      (if_some (λ (r : Ended). IsStopped (commands_of k lines) r) (slice_get (ends_of run.ranks) k) (end_of a)
      (get_map end_of run.ranks k a here) (is.lawful.quiescent.waits k))
      ∙ ap (λ (n : ℕ). option_map (λ c. c.line) (slice_get (commands_of k lines) n)) (far k a here)
    where
      at_place : (o : Option Numbered) → MatchOption o (a.waits ≡ None)
          (λ c. (a.waits ≡ Some c.line) × (can_go_on (commands_of k lines) a.history.events c.command ≡ false)) →
          a.waits ≡ option_map (λ c. c.line) o
      at_place None holds = holds
      at_place (Some c) holds = holds.0

  answers_same : (k : ℕ) (a : RankAccount) → slice_get run.ranks k ≡ Some a →
      filter_map (λ e. told_by e.what) a.history.events ≡ told_after lines k [] (take (at_of F k) (commands_of k lines))
  answers_same k a here =
      let ranks : List Ended = ends_of run.ranks in
      let all = told_all shape lines (at_in ranks) (history_of ranks)
      (assembled shape lines ranks _ stand begins script plain is.lawful) lengths k in
      ap (λ (h : List Event). filter_map (λ e. told_by e.what) h)
      (sym (ap (λ (o : Option Ended). option_map_or (λ r. r.events) o []) (get_map end_of run.ranks k a here)))
      ∙ all ∙ ap (λ (n : ℕ). told_after lines k [] (take n (commands_of k lines)))
      (as_far shape lines ranks _ stand begins script plain is.lawful k)

  rank_same : (k : ℕ) (a : RankAccount) → slice_get run.ranks k ≡ Some a →
      told_lines k (told_of_rank a) ≡ rank_text lines F k
  rank_same k a here =
      ap (λ (ts : List Told). flat_map (λ t. answer_line k t.line t.answer) ts ++ waits_line k a.waits)
      (answers_same k a here)
      ∙ ap (λ (o : Option ℕ). flat_map (λ t. answer_line k t.line t.answer)
      (told_after lines k [] (take (at_of F k) (commands_of k lines))) ++ waits_line k o)
      (waits_same k a here)

  zero_add : (k : ℕ) → 0 + k ≡ k
  zero_add k = omega arith

  lengths_same : length run.ranks ≡ length F
  lengths_same =
      count ∙ sym (end_length shape.eager lines (length lines) (replicate shape.ranks 0)
      ∙ length-replicate shape.ranks 0)

  texts_same : told_from 0 (told_of run) ≡ flat_map (rank_text lines F) (range_with_len 0 (length F))
  texts_same =
      each_text (rank_text lines F) 0 run.ranks
      (λ k a here. subst (λ (m : ℕ). told_lines m (told_of_rank a) ≡ rank_text lines F m) (sym (zero_add k))
      (rank_same k a here))
      ∙ ap (λ (n : ℕ). flat_map (rank_text lines F) (range_with_len 0 n)) lengths_same

  ends_same : run.done ≡ are_at_end lines F
  ends_same =
      is.ended
      ∙ each_end (λ k. is_none (next_of lines F k)) 0 run.ranks
      (λ k a here. ap (λ (o : Option ℕ). is_none o) (waits_same k a here) ∙ mapped (next_of lines F k)
      ∙ ap (λ (m : ℕ). is_none (next_of lines F m)) (sym (zero_add k)))
      ∙ ap (λ (n : ℕ). list_all (λ k. is_none (next_of lines F k)) (range_with_len 0 n)) lengths_same
    where
      mapped : (o : Option Numbered) → is_none (option_map (λ c. c.line) o) ≡ is_none o
      mapped None = refl
      mapped (Some c) = refl

  cells_same : cells_line run.cells ≡ cells_line
      (record { total = shape.ranks * shape.cells; home = shape.ranks * shape.cells })
  cells_same =
      let total : run.cells.total ≡ shape.ranks * shape.cells =
      is.home.all ∙ ap (λ (s : Sizes). s.ranks * s.cells) is.shaped in
      of_two run.cells.total (shape.ranks * shape.cells) run.cells.home total (is.home.home ∙ total)
    where
      of_two : (t u h : ℕ) → t ≡ u → h ≡ u → cells_line (record { total = t; home = h }) ≡ cells_line
          (record { total = u; home = u })
      of_two t u h p q = rw (p, q) refl

  pub report_same : report_text false run ≡ plain_text shape lines
  unfolding plain_text
  report_same =
      says run
      ∙ ap (λ (ts : List ℕ). ts ++ (cells_line run.cells ++ end_line run.done)) texts_same
      ∙ ap (λ (ts : List ℕ). flat_map (rank_text lines F) (range_with_len 0 (length F)) ++ (ts ++ end_line run.done))
      cells_same
      ∙ ap (λ (b : Bool). flat_map (rank_text lines F) (range_with_len 0 (length F))
      ++ (cells_line (record { total = shape.ranks * shape.cells; home = shape.ranks * shape.cells }) ++ end_line b))
      ends_same

  pub told_same : told_of run ≡ plain_told shape lines
  unfolding plain_told
  told_same =
      each_told (rank_told lines F) 0 run.ranks
      (λ k a here. ap (λ (ts : List Told). record { answers = ts; waits = a.waits }) (answers_same k a here)
      ∙ ap (λ (o : Option ℕ). record {
        answers = told_after lines k [] (take (at_of F k) (commands_of k lines));
        waits = o;
      }) (waits_same k a here)
      ∙ ap (λ (m : ℕ). rank_told lines F m) (sym (zero_add k)))
      ∙ ap (λ (n : ℕ). map (rank_told lines F) (range_with_len 0 n)) lengths_same

  pub done_same : run.done ≡ plain_done shape lines
  unfolding plain_done
  done_same = ends_same
