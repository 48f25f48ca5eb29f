-- What the sources of a run were told and gave, as a run of programs.
use Rattle.std.proofs.Common.{◌≡◌, ℕ, zero, suc, ◌+◌, Bool, true, false, cond, Option, Some, None, List, [], ◌∷◌}
use Rattle.std.proofs.Common.{map, refl, sym, ◌∙◌, ap, subst, arith, append-nil}
use Rattle.std.specs.Prelude.{IfSome, MatchOption, is_some, option_map, unwrap_or}
use Rattle.std.specs.List.{All, AllByRecursion, AllZip, slice_get}
use Rattle.std.proofs.lemmas.List.Elements.{All-cons}
use Rattle.nm_types.specs.declared.answers.Answer.{Answer}
use Rattle.nm_types.specs.declared.scripts.Command.{Command}
use Rattle.nm_types.specs.Commands.{Numbered}
use Rattle.nm_types.proofs.ListLemmas.{get_map}
use Rattle.nm_channels.specs.Finished.{AreInRange}
use Rattle.nm_history.specs.Quiescence.{Ended}
use Rattle.nm_history.specs.Totals.{answers_given}
use Rattle.nm_process.specs.Playing.{AllInRange, GivenView, HasPlayed, IsCounted, IsFront, NeverRuns, all_numbered}
use Rattle.nm_process.specs.Playing.{gives_on, shown_by}
use Rattle.nm_process.proofs.PlayLemmas.{numbered_in_range, some_given, waits_given}
use Rattle.nm_world.specs.Players.{AreGiven, BeginsAt, GoesOn, WasTold}
use Rattle.nm_world.specs.Records.{HasStopped}
use Rattle.nm_programs.specs.declared.running.Finished.{Finished}
use Rattle.nm_programs.specs.declared.stops.Stop.{Stop}
use Rattle.nm_programs.specs.declared.stops.Stop.TheVariants.{Memory, Range}
use Rattle.nm_programs.specs.HasRun.{AreProgramsOf, IsProgramOf, IsStopped, commands_in}
use Rattle.nm_programs.specs.Turns.{BeginsWith, IsLeft, IsStray}
use Rattle.nm_programs.proofs.SoFar.{zip_at}

-- the commands of one rank are in range
row_in_range : (ranks : ℕ) (given : List (List Command)) → AllByRecursion (AllInRange ranks) given → (i : ℕ) →
    AllInRange ranks (unwrap_or (slice_get given i) [])
row_in_range ranks [] all i = tt
row_in_range ranks (xs ∷ given) all zero = all.0
row_in_range ranks (xs ∷ given) all (suc i) = row_in_range ranks given all.1 i

-- so are those of all, with their lines
pub all_in_range : (ranks : ℕ) (given : List (List Command)) → AllByRecursion (AllInRange ranks) given →
    AreInRange ranks (commands_in given)
all_in_range ranks given all i =
    numbered_in_range 2 ranks (unwrap_or (slice_get given i) []) (row_in_range ranks given all i)

module _ {P : Type 0} where
  -- a source that was refused no memory shows what it was told
  shows_told : (g : GivenView P) (answers : List Answer) → g.failed ≡ false → g.told ≡ answers →
      WasTold (shown_by g) answers
  shows_told g answers works told = by g.failed works where
    by : (b : Bool) → b ≡ false → IfSome (cond b None (Some g.told)) (λ xs. xs ≡ answers)
    by true other = cc
    by false other = told

  was_told : (g : GivenView P) (answers : List Answer) → g.failed ≡ false → WasTold (shown_by g) answers →
      g.told ≡ answers
  was_told g answers works shown = by g.failed works shown where
    by : (b : Bool) → b ≡ false → IfSome (cond b None (Some g.told)) (λ xs. xs ≡ answers) → g.told ≡ answers
    by true other has = cc
    by false other has = has

  -- one that went on was refused none
  works_on : (s t : GivenView P) → s.failed ≡ false → is_some (shown_by t).told ≡ is_some (shown_by s).told →
      t.failed ≡ false
  works_on s t works hears = by s.failed t.failed works hears where
    by : (b d : Bool) → b ≡ false →
        is_some (cond d None (Some t.told)) ≡ is_some (cond b None (Some s.told)) → d ≡ false
    by true d other same = cc
    by false true other same = cc
    by false false other same = refl

  -- a source gives what its program gave so far
  gives_given : (g : GivenView P) → gives_on g (all_numbered 2 g.given) (g.at + 1)
  gives_given g = (by g.next, refl) where
    by : (o : Option Command) → MatchOption o (all_numbered 2 g.given ≡ all_numbered 2 g.given)
        (λ x. IsFront (all_numbered 2 g.given) (all_numbered 2 g.given))
    by None = refl
    by (Some x) = record { more = []; is = sym (append-nil (all_numbered 2 g.given)) }

  -- the sources at the start
  pub all_begin : (n : ℕ) (programs : List P) (sources : List (GivenView P)) →
      AllZip (BeginsWith n) programs sources → All (BeginsAt shown_by gives_on n) sources
  all_begin n [] [] all = λ i d low. absurd (omega (arith, low))
  all_begin n [] (g ∷ sources) all = absurd all
  all_begin n (p ∷ programs) [] all = absurd all
  all_begin n (p ∷ programs) (g ∷ sources) all =
      All-cons (BeginsAt shown_by gives_on n) g sources (record {
        at = all.0.at;
        ranks = all.0.ranks;
        told = shows_told g [] all.0.works all.0.told;
        some = some_given g;
      }) (all_begin n programs sources all.1)

  -- what they gave, they give at the end
  pub all_given : (commands : ℕ → List Numbered) (k : ℕ) (sources : List (GivenView P)) →
      ((i : ℕ) (g : GivenView P) → slice_get sources i ≡ Some g → commands (k + i) ≡ all_numbered 2 g.given) →
      AreGiven gives_on commands k sources
  all_given commands k [] each = tt
  all_given commands k (g ∷ sources) each =
      let own : commands k ≡ all_numbered 2 g.given =
      ap (λ (n : ℕ). commands n) (omega arith) ∙ each 0 g refl in (
        record {
          before = g.at + 1;
          gives = subst (λ (cs : List Numbered). gives_on g cs (g.at + 1)) (sym own) (gives_given g);
        },
        all_given commands (k + 1) sources
            (λ i h at. ap (λ (n : ℕ). commands n) (omega arith) ∙ each (suc i) h at),
      )

  -- the commands of a rank are those that its source gave
  pub given_at : (sources : List (GivenView P)) (i : ℕ) (g : GivenView P) → slice_get sources i ≡ Some g →
      commands_in (map (λ (h : GivenView P). h.given) sources) (0 + i) ≡ all_numbered 2 g.given
  given_at sources i g at =
      ap (λ (o : Option (List Command)). all_numbered 2 (unwrap_or o []))
      (ap (λ (n : ℕ). slice_get (map (λ (h : GivenView P). h.given) sources) n) (omega arith)
      ∙ get_map (λ (h : GivenView P). h.given) sources i g at)

  -- what they gave is in range
  pub given_in_range : (says : P → Option Answer → Option Command → P → Type 0) (n : ℕ) (programs : List P)
      (sources left : List (GivenView P)) (ends : List (Finished P)) → AllZip (BeginsWith n) programs sources →
      AllZip (GoesOn shown_by gives_on) sources left → AllZip (IsLeft says) left ends →
      AllByRecursion (AllInRange n) (map (λ (g : GivenView P). g.given) left)
  given_in_range says n [] [] [] [] begins on ends = tt
  given_in_range says n [] [] [] (f ∷ fs) begins on ends = absurd ends
  given_in_range says n [] [] (t ∷ left) fs begins on ends = absurd on
  given_in_range says n [] (s ∷ sources) left fs begins on ends = absurd begins
  given_in_range says n (p ∷ programs) [] left fs begins on ends = absurd begins
  given_in_range says n (p ∷ programs) (s ∷ sources) [] fs begins on ends = absurd on
  given_in_range says n (p ∷ programs) (s ∷ sources) (t ∷ left) [] begins on ends = absurd ends
  given_in_range says n (p ∷ programs) (s ∷ sources) (t ∷ left) (f ∷ fs) begins on ends = (
    subst (λ (k : ℕ). AllInRange k t.given) (on.0.ranks ∙ begins.0.ranks) ends.0.in_range,
    given_in_range says n programs sources left fs begins.1 on.1 ends.1,
  )

  -- the program of one rank
  program_of : (says : P → Option Answer → Option Command → P → Type 0) (n : ℕ) (p : P) (s t : GivenView P) (e : Ended)
      (f : Finished P) → BeginsWith n p s → GoesOn shown_by gives_on s t → HasStopped shown_by gives_on t e →
      IsLeft says t f → IsProgramOf says p t.given e f
  program_of says n p s t e f begins on stopped left =
      let works = works_on s t begins.works on.hears in
      let told = was_told t (answers_given e.events) works stopped.told in
      let counted : IsCounted t.given t.next t.at =
      subst (λ (o : Option Command). IsCounted t.given o t.at) left.waits left.counted in
      record {
        played = subst (λ (xs : List Answer). HasPlayed says p xs f.program f.waits t.given) told
            (left.played works p (on.begun ∙ begins.start));
        counted = subst (λ (k : ℕ). IsCounted t.given f.waits k) stopped.at left.counted;
        waits = stopped.waits (all_numbered 2 t.given) (t.at + 1) (gives_given t) ∙ waits_given t counted
            ∙ ap (λ (k : ℕ). option_map (λ (x : Command). k + 2) t.next) stopped.at
            ∙ ap (λ (o : Option Command). option_map (λ (x : Command). e.at + 2) o) (sym left.waits);
      }

  -- so it is with each
  pub programs_of : (says : P → Option Answer → Option Command → P → Type 0) (n : ℕ) (programs : List P)
      (sources left : List (GivenView P)) (ends : List Ended) (fs : List (Finished P)) →
      AllZip (BeginsWith n) programs sources → AllZip (GoesOn shown_by gives_on) sources left →
      AllZip (HasStopped shown_by gives_on) left ends → AllZip (IsLeft says) left fs →
      AreProgramsOf says programs (map (λ (g : GivenView P). g.given) left) ends fs
  programs_of says n [] [] [] [] [] begins on stopped rest = tt
  programs_of says n [] [] [] [] (f ∷ fs) begins on stopped rest = absurd rest
  programs_of says n [] [] [] (e ∷ ends) fs begins on stopped rest = absurd stopped
  programs_of says n [] [] (t ∷ left) ends fs begins on stopped rest = absurd on
  programs_of says n [] (s ∷ sources) left ends fs begins on stopped rest = absurd begins
  programs_of says n (p ∷ programs) [] left ends fs begins on stopped rest = absurd begins
  programs_of says n (p ∷ programs) (s ∷ sources) [] ends fs begins on stopped rest = absurd on
  programs_of says n (p ∷ programs) (s ∷ sources) (t ∷ left) [] fs begins on stopped rest = absurd stopped
  programs_of says n (p ∷ programs) (s ∷ sources) (t ∷ left) (e ∷ ends) [] begins on stopped rest = absurd rest
  programs_of says n (p ∷ programs) (s ∷ sources) (t ∷ left) (e ∷ ends) (f ∷ fs) begins on stopped rest = (
    program_of says n p s t e f begins.0 on.0 stopped.0 rest.0,
    programs_of says n programs sources left ends fs begins.1 on.1 stopped.1 rest.1,
  )

  -- why a run stopped
  pub stopped_by : (says : P → Option Answer → Option Command → P → Type 0) (n : ℕ) (programs : List P)
      (sources left : List (GivenView P)) (why : Stop) → AllZip (BeginsWith n) programs sources →
      AllZip (GoesOn shown_by gives_on) sources left → IsStray says left why → IsStopped says n programs why
  stopped_by says n programs sources left Memory begins on stray = tt
  stopped_by says n programs sources left (Range rank command) begins on stray =
      let t = stray.source in
      let s = zip_at (GoesOn shown_by gives_on) sources left rank t on stray.is in
      let p = zip_at (BeginsWith n) programs sources rank s.0 begins s.1 in
      let works = works_on s.0 t p.2.works s.2.hears in
      record {
        start = p.0;
        is = p.1;
        told = t.told;
        given = t.given;
        left = t.program;
        played = stray.played works p.0 (s.2.begun ∙ p.2.start);
        ran = t.at;
        never = subst (λ (k : ℕ). NeverRuns k t.at command) (s.2.ranks ∙ p.2.ranks) stray.never;
      }
