-- The states that a log reached, and one step more.
use Rattle.std.proofs.Common.{◌≡◌, ℕ, ◌<◌, false, Some, None, List, [], ◌∷◌}
use Rattle.std.proofs.Common.{◌++◌, sym, ◌∙◌, subst}
use Rattle.std.specs.List.{slice_get, slice_set}
use Rattle.nm_types.specs.declared.scripts.Line.{Line}
use Rattle.nm_types.specs.Commands.{Numbered, commands_of}
use Rattle.nm_types.specs.Limits.{IsScript}
use Rattle.nm_types.specs.Sizes.{Sizes}
use Rattle.nm_types.proofs.OptionLemmas.{same_some}
use Rattle.nm_history.specs.declared.events.Event.{Event}
use Rattle.nm_history.specs.declared.events.Happened.{Happened}
use Rattle.nm_history.specs.Answers.{request_at}
use Rattle.nm_history.specs.AtEach.{AtEach}
use Rattle.nm_history.specs.Completion.Request.{Sending}
use Rattle.nm_history.specs.Underway.{MayFollow, is_answer}
use Rattle.nm_outcomes.specs.Logs.{Step, history_in}
use Rattle.nm_outcomes.specs.Paths.{AreCommands}
use Rattle.nm_outcomes.specs.Places.{IsProper}
use Rattle.nm_outcomes.specs.RankStates.{IsSpotOf, Spot, spot_after}
use Rattle.nm_outcomes.specs.declared.spots.deeds.Deed.{Deed}
use Rattle.nm_outcomes.specs.Deeds.{happening}
use Rattle.nm_outcomes.proofs.EndLemmas.{all_follow}
use Rattle.nm_outcomes.proofs.LogLemmas.{grown_here, log-push}
use Rattle.nm_outcomes.proofs.PathLemmas.{proper}
use Rattle.nm_outcomes.proofs.SentLemmas.{request_sent, sent_place}
use Rattle.nm_outcomes.proofs.StepLemmas.{acts}
use Rattle.nm_explored.specs.Moves.{AreSpots}
use Rattle.nm_explored.specs.Settings.{IsAt}
use Rattle.nm_listed.specs.Tellings.{clock, pushed}
use Rattle.nm_listed.proofs.HushLemmas.{AreHushed, hushed_event, is_mark}
use Rattle.nm_listed.proofs.SteadyLemmas.{AreOfCommands, IsSteady}
use Rattle.nm_listed.proofs.TellLemmas.{IsTold, MayBe, clock_some, each_rank, may_come, moved_spots, now, step_at, told_push}

-- a log tells how the ranks came into these states, and nothing was marked of their open requests
pub record IsReached (shape : Sizes) (lines : List Line) (log : List Step) (states : List Spot) : Type 0 where
  pub told : IsTold shape lines log states
  pub hushed : (j : ℕ) → AreHushed (commands_of j lines) (history_in log j) None

-- what a rank sends is for ranks of the run
pub sent_inside : (ranks : ℕ) (commands : List Numbered) (h : List Event) → AreOfCommands ranks commands h →
    (line to n : ℕ) → request_at h line ≡ Some (Sending to n) → to < ranks
sent_inside ranks commands h sent line to n asked =
    let place = sent_place h to n (request_sent h line to n asked) in
    let s = sent to place.0 place.1 place.2 in s.3

module _ (shape : Sizes) (lines : List Line) (commands : AreCommands shape.ranks lines)
    (script : IsScript shape.ranks lines) where
  pub is_at : (log : List Step) (states : List Spot) → IsTold shape lines log states → (i : ℕ) → i < shape.ranks →
      (spot : Spot) → slice_get states i ≡ Some spot → IsAt shape lines log (λ k. slice_get states k) i spot
  is_at log states told i low spot here =
      let s = told.stands i low in record {
        script = script;
        is_log = told.is_log;
        stands = told.stands;
        stand = commands.stand i;
        within = sent_inside shape.ranks (commands_of i lines) (history_in log i) (told.steady i).sent;
        low = low;
        here = here;
        is = subst (λ (x : Spot). IsSpotOf lines (history_in log i) x) (same_some s.0 spot (sym s.1 ∙ here)) s.2;
      }

  -- the log with a step more
  pub next_log : (log : List Step) (states : List Spot) (told : IsTold shape lines log states) (i : ℕ)
      (what : Happened) →
      i < shape.ranks → MayBe shape lines log (clock log) i what →
      AtEach (λ b e. MayFollow shape (commands_of i lines) b e) (history_in log i ++ now (clock log) what ∷ [])
  next_log log states told i what low may =
      subst (λ (h : List Event). AtEach (λ b e. MayFollow shape (commands_of i lines) b e) h)
      (grown_here log (step_at i (clock log) what))
      (all_follow shape lines (log ++ step_at i (clock log) what ∷ [])
      (log-push shape lines [] log (step_at i (clock log) what) told.is_log
      (may_come shape lines log (clock log) i what low (clock_some log) (told.early i) may)) i)

  pub is_proper : (log : List Step) (states : List Spot) (told : IsTold shape lines log states) (i : ℕ)
      (what : Happened) → i < shape.ranks → MayBe shape lines log (clock log) i what → IsProper (history_in log i) what
  is_proper log states told i what low may =
      let next = may_come shape lines log (clock log) i what low (clock_some log) (told.early i) may in
      proper shape (commands_of i lines) (history_in log i) (clock log) what (all_follow shape lines log told.is_log i)
      next.own

  -- a step that is no answer and marks nothing
  pub reached_on : (log : List Step) (states new : List Spot) (reached : IsReached shape lines log states) (i : ℕ)
      (what : Happened) → i < shape.ranks → MayBe shape lines log (clock log) i what →
      is_answer what ≡ false → is_mark what ≡ false →
      AreSpots shape.ranks lines (log ++ step_at i (clock log) what ∷ []) (λ j. slice_get new j) →
      IsSteady shape (commands_of i lines) (history_in log i ++ now (clock log) what ∷ []) →
      IsReached shape lines (log ++ step_at i (clock log) what ∷ []) new
  reached_on log states new reached i what low may quiet unmarked stands steady =
      let told = reached.told in
      let t : ℕ = clock log in
      record {
        told = told_push shape lines log states new told i what low may stands steady;
        hushed = each_rank shape lines (λ j h. AreHushed (commands_of j lines) h None) log (step_at i t what)
            (hushed_event shape (commands_of i lines) (history_in log i) t what
            (next_log log states told i what low may) unmarked None quiet may.numbers (reached.hushed i))
            reached.hushed;
      }

  -- what a rank does before an answer
  pub acts_now : (log : List Step) (states : List Spot) (reached : IsReached shape lines log states) (i : ℕ)
      (low : i < shape.ranks) (spot : Spot) → slice_get states i ≡ Some spot → (d : Deed) →
      is_answer (happening lines d) ≡ false → is_mark (happening lines d) ≡ false →
      MayBe shape lines log (clock log) i (happening lines d) →
      IsSteady shape (commands_of i lines) (history_in log i ++ now (clock log) (happening lines d) ∷ []) →
      IsReached shape lines (pushed log i (happening lines d)) (slice_set states i (spot_after spot d))
  acts_now log states reached i low spot here d quiet unmarked may steady =
      let told = reached.told in
      let at = is_at log states told i low spot here in
      reached_on log states (slice_set states i (spot_after spot d)) reached i (happening lines d) low may quiet
      unmarked
      (moved_spots shape lines log (step_at i (clock log) (happening lines d)) states
      (spot_after spot d) low told.stands
      (acts lines (history_in log i) spot at.is (clock log) d
      (is_proper log states told i (happening lines d) low may)))
      steady
