-- What is told decides the report of a run.
use Rattle.std.proofs.Common.{◌≡◌, ℕ, zero, suc, ◌*◌, ◌≤◌, ◌<◌, Bool, true, false, ◌&&◌, refl, sym, ◌∙◌, ap}
use Rattle.std.proofs.Common.{subst, slice_index_or, arith}
use Rattle.std.specs.Prelude.{◌↔◌, ◌++◌, IsTrue, List, [], ◌∷◌, Contains, Some, is_none, length, map}
use Rattle.std.specs.List.{All, list_all, slice_get}
use Rattle.std.proofs.lemmas.List.{map-append}
use Rattle.std.proofs.lemmas.List.Elements.{All-contains, All-map, All-same, Contains-get_or}
use Rattle.std.proofs.lemmas.Simd.{map-map}
use Rattle.std.proofs.Math.Nat.{lt_of_not-le}
use Rattle.nm_types.specs.declared.answers.Account.{Account}
use Rattle.nm_types.specs.declared.scripts.Line.{Line}
use Rattle.nm_types.specs.Limits.{IsScript}
use Rattle.nm_types.specs.Sizes.{Sizes}
use Rattle.nm_report.specs.declared.accounts.RankAccount.{RankAccount}
use Rattle.nm_report.specs.declared.records.RunRecord.{RunRecord}
use Rattle.nm_report.specs.Ends.{are_done, ends_of}
use Rattle.nm_report.specs.Lawful.{IsRunIn}
use Rattle.nm_report.specs.Report.{report_text}
use Rattle.nm_report.specs.Told.{SayWhatWasTold, told_of, told_of_rank, told_text}
use Rattle.nm_report.specs.Cells.{all_home}
use Rattle.nm_explored.specs.declared.ends.End.{End}
use Rattle.nm_outcomes.specs.Outcomes.{AreOutcomes, AreRising, IsReportOfRun}
use Rattle.nm_search.specs.Lists.{Has}
use Rattle.nm_explored.specs.Ends.{TellsAll, TellsOnly, told_at_end}
use Rattle.nm_listed.specs.Ends.{EndsAreRuns}
use Rattle.nm_listed.specs.Finding.{text_of_told}
use Rattle.nm_listed.specs.Texts.{SameTexts}
use Rattle.nm_listed.proofs.OrderLemmas.{image_is_there}

-- no rank waits, by the accounts, by their ends and by what they told
pub done_by_told : (ranks : List RankAccount) →
    list_all (λ account. is_none account.waits) ranks
    ≡ list_all (λ rank. is_none rank.waits) (map told_of_rank ranks)
done_by_told [] = refl
done_by_told (rank ∷ ranks) = ap (λ (b : Bool). is_none rank.waits && b) (done_by_told ranks)

pub done_by_ends : (ranks : List RankAccount) →
    are_done (ends_of ranks) ≡ list_all (λ rank. is_none rank.waits) (map told_of_rank ranks)
done_by_ends [] = refl
done_by_ends (rank ∷ ranks) = ap (λ (b : Bool). is_none rank.waits && b) (done_by_ends ranks)

-- an account by its two numbers
abbrev account_of : ℕ → ℕ → Account
account_of total home = record { total = total; home = home }

home_by : (a : Account) (all : ℕ) → a.total ≡ all → a.home ≡ a.total →
    a ≡ record { total = all; home = all }
home_by a all total home =
    ap (λ (n : ℕ). account_of n a.home) total ∙ ap (λ (n : ℕ). account_of all n) (home ∙ total)

-- the report of a run of a script is that of what it told
pub report_by_told : SayWhatWasTold → (shape : Sizes) (lines : List Line) (run : RunRecord) →
    IsRunIn shape lines run → report_text false run ≡ text_of_told shape (told_of run)
report_by_told law shape lines run lawful =
    let cells : run.cells ≡ all_home shape =
    home_by run.cells (run.shape.ranks * run.shape.cells) lawful.home.all lawful.home.home
    ∙ ap all_home lawful.shaped in
    law run
    ∙ ap (λ (cells : Account). told_text (told_of run) cells run.done) cells
    ∙ ap (λ (done : Bool). told_text (told_of run) (all_home shape) done)
    (lawful.ended ∙ done_by_ends run.ranks)

-- what ends tell all, texts of what they told have all reports
pub texts_complete : SayWhatWasTold → (shape : Sizes) (lines : List Line) (ends : List End)
    (texts : List (List ℕ)) → TellsAll shape lines ends →
    SameTexts (map (λ end. text_of_told shape (told_at_end end)) ends) texts →
    (run : RunRecord) → IsRunIn shape lines run → Contains texts (report_text false run)
texts_complete law shape lines ends texts all same run lawful =
    let told : Contains (map (text_of_told shape) (map told_at_end ends)) (text_of_told shape (told_of run)) =
    image_is_there (text_of_told shape) (map told_at_end ends) (told_of run) (all run lawful) in
    let there : Contains (map (λ end. text_of_told shape (told_at_end end)) ends) (text_of_told shape (told_of run)) =
    subst (λ (texts : List (List ℕ)). Contains texts (text_of_told shape (told_of run)))
    (map-map (text_of_told shape) told_at_end ends) told in
    subst (Contains texts) (sym (report_by_told law shape lines run lawful))
    ((same (text_of_told shape (told_of run))).0 there)

-- what holds of each of some texts holds of each of the same texts
pub all_same : (P : List ℕ → Type 0) (old new : List (List ℕ)) → SameTexts old new → All P old → All P new
all_same P old new same all k d below =
    All-contains P old (slice_index_or new k d) all
    ((same (slice_index_or new k d)).1 (Contains-get_or new k d below))

-- the texts of ends that tell all, in order and each once, are all reports
pub are_outcomes : SayWhatWasTold → (shape : Sizes) (lines : List Line) (ends : List End)
    (old texts : List (List ℕ)) → old ≡ map (λ end. text_of_told shape (told_at_end end)) ends →
    All (IsReportOfRun shape lines) old → AreRising texts → SameTexts old texts → TellsAll shape lines ends →
    AreOutcomes shape lines texts
are_outcomes law shape lines ends old texts told lawful rising same whole =
    record {
      rising = rising;
      lawful = all_same (IsReportOfRun shape lines) old texts same lawful;
      complete =
          texts_complete law shape lines ends texts whole
          (subst (λ (old : List (List ℕ)). SameTexts old texts) told same);
    }

-- the report of a record in these sizes, all of whose cells are home, and which is done where no rank waits
pub text_of_record : SayWhatWasTold → (shape : Sizes) (run : RunRecord) → run.cells ≡ all_home shape →
    run.done ≡ list_all (λ account. is_none account.waits) run.ranks →
    report_text false run ≡ text_of_told shape (map told_of_rank run.ranks)
text_of_record law shape run cells done =
    law run
    ∙ ap (λ (cells : Account). told_text (told_of run) cells run.done) cells
    ∙ ap (λ (done : Bool). told_text (told_of run) (all_home shape) done) (done ∙ done_by_told run.ranks)

-- a test of a bound that did not pass
pub not_within : (b : Bool) (n m : ℕ) → (IsTrue b ↔ (n ≤ m)) → b ≡ false → m < n
not_within b n m tests is = lt_of_not-le (λ within. let yes : b ≡ true = tests.1 within in cc)

-- the text of one end more
pub texts_more : (shape : Sizes) (texts new : List (List ℕ)) (ends : List End) (end : End) (text : List ℕ) →
    texts ≡ map (λ end. text_of_told shape (told_at_end end)) ends → new ≡ texts ++ text ∷ [] →
    text ≡ text_of_told shape (told_at_end end) →
    new ≡ map (λ end. text_of_told shape (told_at_end end)) (ends ++ end ∷ [])
texts_more shape texts new ends end text told more is =
    more ∙ ap (λ (ts : List (List ℕ)). ts ++ text ∷ []) told
    ∙ ap (λ (t : List ℕ). map (λ end. text_of_told shape (told_at_end end)) ends ++ t ∷ []) is
    ∙ sym (map-append (λ (end : End). text_of_told shape (told_at_end end)) ends (end ∷ []))

-- what is told at rest is a run's, and so is its text
pub texts_lawful : EndsAreRuns → SayWhatWasTold → (shape : Sizes) (ranks : ℕ) (lines : List Line) (ends : List End)
    (texts : List (List ℕ)) → shape.ranks ≡ ranks → IsScript ranks lines → TellsOnly shape lines ends →
    texts ≡ map (λ end. text_of_told shape (told_at_end end)) ends → All (IsReportOfRun shape lines) texts
texts_lawful runs law shape ranks lines ends texts equal script only are =
    All-same (IsReportOfRun shape lines) texts (map (λ end. text_of_told shape (told_at_end end)) ends) are
    (All-map (IsReportOfRun shape lines) (λ end. text_of_told shape (told_at_end end)) ends
    (λ k d below. of_end (slice_index_or ends k d) (k, at_place ends k d below)))
  where
    at_place : (es : List End) (k : ℕ) (d : End) → k < length es →
        slice_get (map told_at_end es) k ≡ Some (told_at_end (slice_index_or es k d))
    at_place [] k d below = absurd (omega (arith, below))
    at_place (e ∷ es) zero d below = refl
    at_place (e ∷ es) (suc k) d below = at_place es k d (omega (arith, below))

    of_end : (end : End) → Has (map told_at_end ends) (told_at_end end) →
        IsReportOfRun shape lines (text_of_told shape (told_at_end end))
    of_end end has =
        let rest = only (told_at_end end) has in
        let run = runs shape lines rest.state (subst (λ (n : ℕ). IsScript n lines) (sym equal) script) rest.met
        rest.rest in (
          run.0,
          run.1,
          report_by_told law shape lines run.0 run.1 ∙ ap (text_of_told shape) (run.2 ∙ sym rest.told_is),
        )
