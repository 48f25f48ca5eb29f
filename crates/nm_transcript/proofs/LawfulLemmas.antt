-- The record by the lines of a script tells a run of the script.
use Rattle.std.proofs.Common.{◌≡◌, ℕ, ◌+◌, ◌*◌, Bool, ◌&&◌, Option, Some, None, List, [], ◌∷◌, length, refl, sym, ◌∙◌, ap, subst}
use Rattle.std.proofs.Math.Path.{fun_ext}
use Rattle.std.specs.Prelude.{Err, IfSome, Ok, Result, is_none, option_map}
use Rattle.std.specs.Result.{IfErr, IsErrAnd}
use Rattle.std.specs.List.{slice_get}
use Rattle.std.proofs.lemmas.List.{length-map}
use Rattle.nm_types.specs.declared.answers.Account.{Account}
use Rattle.nm_types.specs.declared.scripts.Command.{Command}
use Rattle.nm_types.specs.declared.scripts.Line.{Line}
use Rattle.nm_types.specs.Commands.{Numbered, commands_of}
use Rattle.nm_types.specs.Sizes.{Sizes}
use Rattle.nm_history.specs.Quiescence.{Ended, Packets}
use Rattle.nm_history.specs.Run.{IsRunBy, IsRunOf}
use Rattle.nm_process.specs.Playing.{all_numbered}
use Rattle.nm_report.specs.declared.records.RunRecord.{RunRecord}
use Rattle.nm_report.specs.declared.pairs.PairCount.{PairCount}
use Rattle.nm_report.specs.Cells.{AllCellsFree}
use Rattle.nm_report.specs.Ends.{are_done, ends_of, packets_of}
use Rattle.nm_report.specs.Lawful.{IsRunIn}
use Rattle.nm_transcript.specs.declared.transcripts.Refusal.{Refusal}
use Rattle.nm_transcript.specs.Orders.{AreAll, calls_of}
use Rattle.nm_transcript.specs.Renumbered.{number_in, renumbered_ends}
use Rattle.nm_transcript.specs.Transcripts.{AreEndsOf, IsEndOf, IsRecordOf, IsTranscript, numbers_of}
use Rattle.nm_transcript.proofs.LineLemmas.{all_apart, commands_named, looked_up, moved}
use Rattle.nm_transcript.proofs.OwnLemmas.{ends_own}
use Rattle.nm_transcript.proofs.RunLemmas.{run_same}

-- as many numbers as commands
as_many : (lines : List Line) (given : List (List Command)) → AreAll lines given → (i : ℕ) →
    length (calls_of given i) ≡ length (numbers_of lines i)
as_many lines given all i =
    ap (λ (xs : List Command). length xs) (sym (all i))
    ∙ length-map (commands_of i lines) (λ (c : Numbered). c.command)
    ∙ sym (length-map (commands_of i lines) (λ (c : Numbered). c.line))

-- so each line of the record has its number
pub numbers_own : (lines : List Line) (given : List (List Command)) (ranks : List Ended) → AreAll lines given →
    AreEndsOf given ranks → (i : ℕ) → IfSome (slice_get ranks i) (IsEndOf (length (numbers_of lines i)))
numbers_own lines given ranks all own i =
    subst (λ (n : ℕ). IfSome (slice_get ranks i) (IsEndOf n)) (as_many lines given all i) (own i)

pub run_of_lines : (shape : Sizes) (lines : List Line) (given : List (List Command)) (ranks : List Ended)
    (packets : List Packets) → AreAll lines given →
    IsRunBy shape (λ i. all_numbered 2 (calls_of given i)) ranks packets →
    IsRunOf shape lines (renumbered_ends (λ i. number_in (numbers_of lines i)) 0 ranks) packets
run_of_lines shape lines given ranks packets all run =
    subst (λ (ends : List Ended). IsRunOf shape lines ends packets)
    (sym (looked_up lines ranks (numbers_own lines given ranks all (ends_own shape given ranks packets run))))
    (subst (λ (commands : ℕ → List Numbered).
    IsRunBy shape commands (renumbered_ends (λ i. moved (numbers_of lines i) (2 + length lines)) 0 ranks) packets)
    (fun_ext (λ (i : ℕ). commands_named lines i (calls_of given i) (all i)))
    (run_same (λ i. moved (numbers_of lines i) (2 + length lines)) (λ i. all_apart lines i)
    (λ i. all_numbered 2 (calls_of given i)) shape ranks packets run))

-- a rank is at its end where it was
none_same : (f : ℕ → ℕ) (o : Option ℕ) → is_none (option_map f o) ≡ is_none o
none_same f None = refl
none_same f (Some line) = refl

done_same : (f : ℕ → ℕ → ℕ) (k : ℕ) (ranks : List Ended) → are_done (renumbered_ends f k ranks) ≡ are_done ranks
done_same f k [] = refl
done_same f k (rank ∷ ranks) =
    ap (λ (b : Bool). b && are_done (renumbered_ends f (k + 1) ranks)) (none_same (f k) rank.waits)
    ∙ ap (λ (b : Bool). is_none rank.waits && b) (done_same f (k + 1) ranks)

lawful_later : (given : List (List Command)) (run : RunRecord) (lines : List Line) (later : RunRecord) →
    IsTranscript given run lines later →
    IsRunBy run.shape (λ i. all_numbered 2 (calls_of given i)) (ends_of run.ranks) (packets_of run.pairs) →
    AllCellsFree run → run.done ≡ are_done (ends_of run.ranks) → IsRunIn run.shape lines later
lawful_later given run lines later is lawful home done = record {
  shaped = is.shape;
  lawful = subst (λ (ends : List Ended). IsRunOf run.shape lines ends (packets_of later.pairs)) (sym is.ranks)
      (subst (λ (pairs : List PairCount). IsRunOf run.shape lines
      (renumbered_ends (λ i. number_in (numbers_of lines i)) 0 (ends_of run.ranks)) (packets_of pairs)) (sym is.pairs)
      (run_of_lines run.shape lines given (ends_of run.ranks) (packets_of run.pairs) is.commands lawful));
  home = record {
    all = ap (λ (cells : Account). cells.total) is.cells ∙ home.all
        ∙ sym (ap (λ (shape : Sizes). shape.ranks * shape.cells) is.shape);
    home = ap (λ (cells : Account). cells.home) is.cells ∙ home.home
        ∙ sym (ap (λ (cells : Account). cells.total) is.cells);
  };
  ended = is.done ∙ done
      ∙ sym (ap (λ (ends : List Ended). are_done ends) is.ranks
      ∙ done_same (λ i. number_in (numbers_of lines i)) 0 (ends_of run.ranks));
}

-- so it is where the lines that were made are those of the script, and those that were looked up
pub transcript_told : (given : List (List Command)) (run : RunRecord) (made lines seen : List Line)
    (later : RunRecord) → AreAll made given → lines ≡ made → seen ≡ lines →
    ends_of later.ranks ≡ renumbered_ends (λ i. number_in (numbers_of seen i)) 0 (ends_of run.ranks) →
    later.shape ≡ run.shape → later.pairs ≡ run.pairs → later.cells ≡ run.cells → later.done ≡ run.done →
    IsTranscript given run lines later
transcript_told given run made lines seen later all lines_are seen_are ranks shape pairs cells done = record {
  commands = subst (λ (ls : List Line). AreAll ls given) (sym lines_are) all;
  shape = shape;
  ranks = ranks
      ∙ ap (λ (ls : List Line). renumbered_ends (λ i. number_in (numbers_of ls i)) 0 (ends_of run.ranks)) seen_are;
  pairs = pairs;
  cells = cells;
  done = done;
}

-- the record of a run is one of the script's
pub lawful_told : (given : List (List Command)) (run : RunRecord) (lines : List Line) (later : RunRecord) →
    IsTranscript given run lines later → IsRecordOf given run → IsRunIn run.shape lines later
lawful_told given run lines later is told = lawful_later given run lines later is told.ran told.home told.done

-- the lines of such a record are those of the commands
pub all_own : (given : List (List Command)) (run : RunRecord) → IsRecordOf given run →
    AreEndsOf given (ends_of run.ranks)
all_own given run told = ends_own run.shape given (ends_of run.ranks) (packets_of run.pairs) told.ran

-- what holds of an error holds where it is passed on
pub passed_on : {A : Type 0} (r : Result A Refusal) (why : Refusal) (Q : Refusal → Type 0) →
    IsErrAnd r (λ w. w ≡ why) → Q why → IfErr r Q
passed_on (Ok a) why Q is holds = tt
passed_on (Err w) why Q is holds = subst (λ (v : Refusal). Q v) (sym is) holds
