-- Events that show the machine nothing.
use Rattle.std.proofs.Common.{◌≡◌, ℕ, ◌==◌, ◌&&◌, ◌||◌, Bool, true, false, cond, Option, Some, None}
use Rattle.std.proofs.Common.{List, [], ◌∷◌, ◌++◌, refl, sym, ◌∙◌, ap, subst, append-nil}
use Rattle.std.specs.List.{cons_option, list_any}
use Rattle.std.proofs.lemmas.Bool.{false≢true}
use Rattle.std.proofs.lemmas.List.Folds.{list_any-append}
use Rattle.nm_types.specs.declared.scripts.Line.{Line}
use Rattle.nm_types.specs.Commands.{Numbered, commands_of}
use Rattle.nm_types.specs.Sizes.{Sizes}
use Rattle.nm_types.proofs.NumberLemmas.{same_number}
use Rattle.nm_history.specs.declared.events.Event.{Event}
use Rattle.nm_history.specs.declared.events.Happened.{Happened}
use Rattle.nm_history.specs.declared.events.Happened.TheVariants as event
use Rattle.nm_history.specs.RankRun.{is_cancelling, is_start, ran_lines, since_after, since_command}
use Rattle.nm_history.specs.Underway.{is_answer}
use Rattle.nm_history.proofs.Basic.{or_false}
use Rattle.nm_history.proofs.RankRunLemmas.{no_answer, ran_lines-push, since-push}
use Rattle.nm_outcomes.specs.Logs.{Step, history_in}
use Rattle.nm_outcomes.specs.Paths.{moved}
use Rattle.nm_outcomes.specs.Places.{RankPoint, after, or_else}
use Rattle.nm_lawful.specs.Moves.{Report}
use Rattle.nm_runs_lawful.specs.Stands.{AreAlike, LookAlike, StepLeads, effects, is_begun, is_match_of}
use Rattle.nm_runs_lawful.specs.Stands.{is_live_at}
use Rattle.nm_runs_lawful.proofs.AlikeLemmas.{IsBlank, state_kept}

-- the first of one
pub first_alone : {X : Type 0} (o : Option X) → or_else o None ≡ o
first_alone None = refl
first_alone (Some x) = refl

-- a name and what has just started, where nothing more starts
pub live_still : (p : RankPoint) (q line : ℕ) (begun : List Happened) → begun ≡ p.begun →
    is_live_at (record p { begun = begun }) q line ≡ is_live_at p q line
live_still p q line begun same = rw same refl

-- places stay alike where the event is quiet, or claims
abbrev pub IsHidden : Happened → Type 0
IsHidden (event.Whole from n) = Unit {0}
IsHidden (event.Out to n) = Unit {0}
IsHidden (event.Undone to n done) = Unit {0}
IsHidden (event.Withdraw from n done) = done ≡ false
IsHidden (event.Claim from n line) = Unit {0}
IsHidden _ = ⊥

pub hidden_alike : (me : ℕ) (commands : List Numbered) (p : RankPoint) (what : Happened) → IsHidden what →
    LookAlike p (after me commands p what)
hidden_alike me commands p (event.Whole from n) is = record {
  live = λ q line. live_still p q line (p.begun ++ []) (append-nil p.begun);
  handled = λ m. refl;
  matched = λ from n. ap (λ (ws : List Happened). list_any (is_match_of from n) ws) (append-nil p.begun);
  known = λ from n. first_alone (p.known from n);
  pairs = λ number. first_alone (p.pairs number);
  off = λ number. or_false (p.off number);
  taken = λ from n. or_false (p.taken from n);
  withdrawn = λ from n. or_false (p.withdrawn from n);
  recalled = λ to n. or_false (p.recalled to n);
  lines = λ to. append-nil (p.lines to);
}
hidden_alike me commands p (event.Out to n) is = record {
  live = λ q line. live_still p q line (p.begun ++ []) (append-nil p.begun);
  handled = λ m. refl;
  matched = λ from n. ap (λ (ws : List Happened). list_any (is_match_of from n) ws) (append-nil p.begun);
  known = λ from n. first_alone (p.known from n);
  pairs = λ number. first_alone (p.pairs number);
  off = λ number. or_false (p.off number);
  taken = λ from n. or_false (p.taken from n);
  withdrawn = λ from n. or_false (p.withdrawn from n);
  recalled = λ to n. or_false (p.recalled to n);
  lines = λ to. append-nil (p.lines to);
}
hidden_alike me commands p (event.Undone to n done) is = record {
  live = λ q line. live_still p q line (p.begun ++ []) (append-nil p.begun);
  handled = λ m. refl;
  matched = λ from n. ap (λ (ws : List Happened). list_any (is_match_of from n) ws) (append-nil p.begun);
  known = λ from n. first_alone (p.known from n);
  pairs = λ number. first_alone (p.pairs number);
  off = λ number. or_false (p.off number);
  taken = λ from n. or_false (p.taken from n);
  withdrawn = λ from n. or_false (p.withdrawn from n);
  recalled = λ to n. or_false (p.recalled to n);
  lines = λ to. append-nil (p.lines to);
}
hidden_alike me commands p (event.Withdraw from' n' done) is = record {
  live = λ q line. live_still p q line (p.begun ++ []) (append-nil p.begun);
  handled = λ m. refl;
  matched = λ from n. ap (λ (ws : List Happened). list_any (is_match_of from n) ws) (append-nil p.begun);
  known = λ from n. first_alone (p.known from n);
  pairs = λ number. first_alone (p.pairs number);
  off = λ number. or_false (p.off number);
  taken = λ from n. or_false (p.taken from n);
  withdrawn = λ from n. rw is (late (p.withdrawn from n) (from' == from && n' == n));
  recalled = λ to n. or_false (p.recalled to n);
  lines = λ to. append-nil (p.lines to);
}
  where
    late : (a b : Bool) → (a || b && false) ≡ a
    late true b = refl
    late false true = refl
    late false false = refl
hidden_alike me commands p (event.Claim from n line') is = record {
  live = λ q line. live_still p q line (p.begun ++ []) (append-nil p.begun);
  handled = λ m. refl;
  matched = λ from n. ap (λ (ws : List Happened). list_any (is_match_of from n) ws) (append-nil p.begun);
  known = λ from n. first_alone (p.known from n);
  pairs = λ number. first_alone (p.pairs number);
  off = λ number. or_false (p.off number);
  taken = λ from n. or_false (p.taken from n);
  withdrawn = λ from n. or_false (p.withdrawn from n);
  recalled = λ to n. or_false (p.recalled to n);
  lines = λ to. append-nil (p.lines to);
}
hidden_alike me commands p what is = absurd is

-- the places of all ranks, where those of one stay alike
pub moved_alike : (lines : List Line) (w : ℕ → RankPoint) (s : Step) →
    LookAlike (w s.rank) (after s.rank (commands_of s.rank lines) (w s.rank) s.event.what) →
    AreAlike w (moved lines w s)
moved_alike lines w s here r = by_rank (s.rank == r) refl
  where
    itself : (p : RankPoint) → LookAlike p p
    itself p = record {
      live = λ q line. refl;
      handled = λ m. refl;
      matched = λ from n. refl;
      known = λ from n. refl;
      pairs = λ number. refl;
      off = λ number. refl;
      taken = λ from n. refl;
      withdrawn = λ from n. refl;
      recalled = λ to n. refl;
      lines = λ to. refl;
    }

    by_rank : (b : Bool) → (s.rank == r) ≡ b →
        LookAlike (w r) (cond b (after r (commands_of r lines) (w r) s.event.what) (w r))
    by_rank true same =
        subst (λ (r : ℕ). LookAlike (w r) (after r (commands_of r lines) (w r) s.event.what))
        (same_number s.rank r same) here
    by_rank false other = itself (w r)

-- an event that is no answer, no start and no cancel, takes no command's effect
pub same_effects : (h : List Event) (e : Event) → is_answer e.what ≡ false →
    (is_start e.what || is_cancelling e.what) ≡ false → effects (h ++ e ∷ []) ≡ effects h
same_effects h e none nor =
    let ran : ran_lines (h ++ e ∷ []) ≡ ran_lines h =
    ran_lines-push h e ∙ ap (λ (o : Option ℕ). ran_lines h ++ cons_option o []) (no_answer e.what none)
    ∙ append-nil (ran_lines h) in
    let begun : is_begun (h ++ e ∷ []) ≡ is_begun h =
    ap (λ (ws : List Happened). list_any (λ what. is_start what || is_cancelling what) ws)
    (since-push h e ∙ since_more (since_command h) e.what none)
    ∙ any_more (since_command h) ∙ rw nor (or_false (is_begun h)) in
    rw (ran, begun) refl
  where
    since_more : (since : List Happened) (what : Happened) → is_answer what ≡ false →
        since_after since what ≡ since ++ what ∷ []
    since_more since (event.Ran line answer) none = absurd (false≢true (sym none))
    since_more since what none = refl

    any_more : (ws : List Happened) →
        list_any (λ what. is_start what || is_cancelling what) (ws ++ e.what ∷ [])
        ≡ (list_any (λ what. is_start what || is_cancelling what) ws || (is_start e.what || is_cancelling e.what))
    any_more ws =
        list_any-append (λ (what : Happened). is_start what || is_cancelling what) ws (e.what ∷ [])
        ∙ ap (λ (b : Bool). list_any (λ (what : Happened). is_start what || is_cancelling what) ws || b)
        (or_false (is_start e.what || is_cancelling e.what))

-- Moves need not be made where nothing is shown.
pub hidden_leads : (shape : Sizes) (lines : List Line) (told : Report) (before : List Step) (s : Step)
    (w : ℕ → RankPoint) → IsHidden s.event.what → IsBlank lines (moved lines w s) s.rank s.event →
    StepLeads shape lines told before s w
hidden_leads shape lines told before s w is blank = (
  0,
  sym (state_kept shape.ranks lines w before s
      (moved_alike lines w s (hidden_alike s.rank (commands_of s.rank lines) (w s.rank) s.event.what is)) blank
      (same_effects (history_in before s.rank) s.event (no_answer_hidden s.event.what is)
      (no_effect_hidden s.event.what is))),
)
  where
    no_answer_hidden : (what : Happened) → IsHidden what → is_answer what ≡ false
    no_answer_hidden (event.Ran line answer) is = absurd is
    no_answer_hidden what is = refl

    no_effect_hidden : (what : Happened) → IsHidden what → (is_start what || is_cancelling what) ≡ false
    no_effect_hidden (event.Send to n tag ctx len how line) is = absurd is
    no_effect_hidden (event.Post p line) is = absurd is
    no_effect_hidden (event.Match number from n cap line) is = absurd is
    no_effect_hidden (event.Cancel number done) is = absurd is
    no_effect_hidden (event.Recall to n) is = absurd is
    no_effect_hidden what is = refl
