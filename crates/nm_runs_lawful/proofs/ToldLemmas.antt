-- What a report tells of a line is what its command answered, which ran once.
use Rattle.std.proofs.Common.{◌≡◌, ℕ, zero, suc, ◌+◌, ◌-◌, ◌<◌, ◌≤◌, ◌==◌, Bool, true, false, cond, Option}
use Rattle.std.proofs.Common.{Some, None, List, [], ◌∷◌, ◌++◌, take, map, refl, sym, ◌∙◌, ap, subst, arith}
use Rattle.std.specs.Prelude.{option_and_then}
use Rattle.std.specs.List.{cons_option, filter_map, list_any, slice_get}
use Rattle.std.proofs.lemmas.List.Elements.{filter_map-append}
use Rattle.nm_types.specs.declared.answers.Answer.{Answer}
use Rattle.nm_types.specs.declared.scripts.Line.{Line}
use Rattle.nm_types.specs.Commands.{Numbered, commands_from, commands_of, numbered}
use Rattle.nm_types.specs.Sizes.{Sizes}
use Rattle.nm_types.proofs.NumberLemmas.{eq_false, eq_less}
use Rattle.nm_types.proofs.TruthLemmas.{neither}
use Rattle.nm_history.specs.declared.events.Event.{Event}
use Rattle.nm_history.specs.declared.events.Happened.{Happened}
use Rattle.nm_history.specs.declared.events.Happened.TheVariants as event
use Rattle.nm_history.specs.Quiescence.{Ended, Packets, history_of}
use Rattle.nm_history.specs.RankRun.{Answers, ran_lines, ran_of}
use Rattle.nm_outcomes.specs.Logs.{IsLogOf, Step, history_in}
use Rattle.nm_outcomes.proofs.LogLemmas.{at_of, own_run}
use Rattle.nm_outcomes.proofs.PathLemmas.{history_at, history_split}
use Rattle.nm_outcomes.proofs.PlaceLemmas.{one_or_none}
use Rattle.nm_lawful.specs.Moves.{Report, told_at_lem}
use Rattle.nm_runs_lawful.specs.Runs.{answer_by, answer_in}
use Rattle.nm_runs_lawful.specs.Stands.{IsRunTold}
use Rattle.nm_runs_lawful.proofs.NextLemmas.{line_there}

-- numbers that rise, from one on
abbrev pub IsRising : ℕ → List ℕ → Type 0
IsRising n [] = Unit {0}
IsRising n (x ∷ xs) = (n ≤ x) × IsRising (x + 1) xs

from_below : (m n : ℕ) (xs : List ℕ) → m ≤ n → IsRising n xs → IsRising m xs
from_below m n [] low rise = tt
from_below m n (x ∷ xs) low rise = let least = rise.0 in (omega (arith, low, least), rise.1)

pub lines_rise : (rank number : ℕ) (lines : List Line) →
    IsRising number (map (λ (c : Numbered). c.line) (commands_from rank number lines))
lines_rise rank number [] = tt
lines_rise rank number (l ∷ lines) = by_rank (l.rank == rank) (lines_rise rank (number + 1) lines)
  where
    by_rank : (b : Bool) → IsRising (number + 1) (map (λ (c : Numbered). c.line) (commands_from rank (number + 1)
        lines)) →
        IsRising number (map (λ (c : Numbered). c.line)
        (cond b (numbered number l ∷ commands_from rank (number + 1) lines) (commands_from rank (number + 1) lines)))
    by_rank true rise = (omega arith, rise)
    by_rank false rise = from_below number (number + 1)
        (map (λ (c : Numbered). c.line) (commands_from rank (number + 1) lines)) (omega arith) rise

pub first_rise : (n k : ℕ) (cs : List Numbered) → IsRising n (map (λ (c : Numbered). c.line) cs) →
    IsRising n (map (λ (c : Numbered). c.line) (take k cs))
first_rise n zero cs rise = tt
first_rise n (suc k) [] rise = tt
first_rise n (suc k) (c ∷ cs) rise = (rise.0, first_rise (c.line + 1) k cs rise.1)

-- a number stands there once
none_above : (x n : ℕ) (xs : List ℕ) → x < n → IsRising n xs → list_any (λ y. y == x) xs ≡ false
none_above x n [] low rise = refl
none_above x n (y ∷ ys) low rise =
    let least = rise.0 in
    rw (eq_false y x (omega (arith, low, least)), none_above x (y + 1) ys (omega (arith, low, least)) rise.1) refl

pub once : (n x : ℕ) (xs ys : List ℕ) → IsRising n (xs ++ x ∷ ys) →
    (n ≤ x) × (list_any (λ y. y == x) xs ≡ false) × (list_any (λ y. y == x) ys ≡ false)
once n x [] ys rise = (rise.0, refl, none_above x (x + 1) ys (omega arith) rise.1)
once n x (y ∷ xs) ys rise =
    let later = once (y + 1) x xs ys rise.1 in
    let low = later.0 in
    let least = rise.0 in
    (omega (arith, low, least), rw (eq_less y x (omega (arith, low)), later.1) refl, later.2)

-- a line that did not run told nothing
pub nothing_told : (line : ℕ) (h : List Event) → list_any (λ l. l == line) (ran_lines h) ≡ false →
    filter_map (λ (e : Event). answer_by line e.what) h ≡ []
nothing_told line [] none = refl
nothing_told line (e ∷ h) none = by_event e.what none (nothing_told line h)
  where
    by_event : (what : Happened) → list_any (λ l. l == line) (cons_option (ran_of what) (ran_lines h)) ≡ false →
        (list_any (λ l. l == line) (ran_lines h) ≡ false → filter_map (λ (e : Event). answer_by line e.what) h ≡ []) →
        cons_option (answer_by line what) (filter_map (λ (e : Event). answer_by line e.what) h) ≡ []
    by_event (event.Ran ran a) none later =
        let two = neither (ran == line) (list_any (λ l. l == line) (ran_lines h)) none in rw (two.0, later two.1) refl
    by_event (event.Send to n tag ctx len how line') none later = later none
    by_event (event.Post p line') none later = later none
    by_event (event.Arrive a) none later = later none
    by_event (event.Whole from n) none later = later none
    by_event (event.Out to n) none later = later none
    by_event (event.Cancel number done) none later = later none
    by_event (event.Recall to n) none later = later none
    by_event (event.Withdraw from n done) none later = later none
    by_event (event.Undone to n done) none later = later none
    by_event (event.Claim from n line') none later = later none
    by_event (event.Match number from n cap line') none later = later none

-- the line of an answer ran neither before nor later
pub ran_once : (rank : ℕ) (lines : List Line) (at : ℕ) (h b t : List Event) (e : Event) (line : ℕ) (a : Answer) →
    Answers (commands_of rank lines) at h → h ≡ b ++ e ∷ t → e.what ≡ event.Ran line a →
    (list_any (λ l. l == line) (ran_lines b) ≡ false) × (list_any (λ l. l == line) (ran_lines t) ≡ false)
ran_once rank lines at h b t e line a answers split is =
    let ran : ran_lines h ≡ ran_lines b ++ line ∷ ran_lines t =
    ap ran_lines split ∙ filter_map-append (λ (e : Event). ran_of e.what) b (e ∷ t)
    ∙ ap (λ (what : Happened). ran_lines b ++ cons_option (ran_of what) (ran_lines t)) is in
    let rise : IsRising 2 (ran_lines b ++ line ∷ ran_lines t) =
    subst (λ (ls : List ℕ). IsRising 2 ls) (sym answers.in_order ∙ ran)
    (first_rise 2 at (commands_of rank lines) (lines_rise rank 2 lines)) in
    let two = once 2 line (ran_lines b) (ran_lines t) rise in (two.1, two.2)

-- .. so its answer is what the history tells of it
pub told_once : (rank : ℕ) (lines : List Line) (at : ℕ) (h b t : List Event) (e : Event) (line : ℕ) (a : Answer) →
    Answers (commands_of rank lines) at h → h ≡ b ++ e ∷ t → e.what ≡ event.Ran line a →
    answer_in line h ≡ answer_by line (event.Ran line a)
told_once rank lines at h b t e line a answers split is =
    let two = ran_once rank lines at h b t e line a answers split is in
    let tells : Event → Option Answer = λ e. answer_by line e.what in
    ap (λ (h : List Event). slice_get (filter_map tells h) 0) split
    ∙ ap (λ (as' : List Answer). slice_get as' 0)
    (filter_map-append tells b (e ∷ t)
    ∙ ap (λ (as' : List Answer). as' ++ cons_option (tells e) (filter_map tells t)) (nothing_told line b two.0)
    ∙ ap (λ (as' : List Answer). cons_option (tells e) as') (nothing_told line t two.1))
    ∙ one_or_none (tells e) ∙ ap (answer_by line) is

-- what a report tells of the line of a step that is an answer
module _ (shape : Sizes) (lines : List Line) (ranks : List Ended) (packets : List Packets) (told : Report)
    (is : IsRunTold shape lines ranks packets told)
  where
    pub line_told : (i k : ℕ) (c : Numbered) → slice_get (commands_of i lines) k ≡ Some c →
        told_at_lem told None (c.line - 2) ≡ answer_in c.line (history_of ranks i)
    line_told i k c next =
        let there = line_there i lines k c next in
        let low = there.0 in
        let back : c.line - 2 + 2 ≡ c.line = omega (arith, low) in
        is.told_by.said (c.line - 2)
        ∙ ap (λ (o : Option Line). option_and_then (λ l. answer_in (c.line - 2 + 2) (history_of ranks l.rank)) o)
        there.1
        ∙ ap (λ (n : ℕ). answer_in n (history_of ranks i)) back

    pub step_split : (before after : List Step) (s : Step) → IsLogOf shape lines ranks (before ++ s ∷ after) →
        history_of ranks s.rank ≡ history_in before s.rank ++ s.event ∷ history_in after s.rank
    step_split before after s whole =
        sym (whole.histories s.rank) ∙ history_split before (s ∷ after) s.rank
        ∙ ap (λ (h : List Event). history_in before s.rank ++ h) (history_at s after)

    pub step_told : (before after : List Step) (s : Step) (k : ℕ) (c : Numbered) (a : Answer) →
        IsLogOf shape lines ranks (before ++ s ∷ after) → slice_get (commands_of s.rank lines) k ≡ Some c →
        s.event.what ≡ event.Ran c.line a → told_at_lem told None (c.line - 2) ≡ answer_by c.line (event.Ran c.line a)
    step_told before after s k c a whole next ran =
        line_told s.rank k c next
        ∙ told_once s.rank lines (at_of shape lines ranks packets is.run s.rank) (history_of ranks s.rank)
        (history_in before s.rank) (history_in after s.rank) s.event c.line a
        (own_run shape lines ranks packets is.run s.rank).answers (step_split before after s whole) ran
