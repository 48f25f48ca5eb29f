-- The ranks of a run, whose commands that ran are counted.
use Rattle.std.proofs.Common.{◌≡◌, ℕ, suc, cond, List, [], ◌∷◌, length, take, refl, sym, ◌∙◌, ap, arith}
use Rattle.std.specs.List.{AllByRecursion, cons_option, filter}
use Rattle.std.proofs.lemmas.List.{length-map, length-take-le}
use Rattle.nm_types.specs.declared.scripts.Line.{Line}
use Rattle.nm_types.specs.Commands.{Numbered, commands_of}
use Rattle.nm_types.specs.Sizes.{Sizes}
use Rattle.nm_history.specs.declared.events.Event.{Event}
use Rattle.nm_history.specs.declared.events.Happened.{Happened}
use Rattle.nm_history.specs.declared.events.Happened.TheVariants.{Ran}
use Rattle.nm_history.specs.Quiescence.{EachRank, Ended}
use Rattle.nm_history.specs.RankRun.{IsRankRun, ran_lines, ran_of}
use Rattle.nm_history.specs.Underway.{is_answer}
use Rattle.nm_trace.specs.Traces.{EndIn}
use Rattle.nm_breaks.specs.Ranges.{ReadIn}

-- each command that ran has its line
ran_one : (what : Happened) (rest : List ℕ) (events : List Event) (e : Event) →
    length rest ≡ length (filter (λ event. is_answer event.what) events) →
    length (cons_option (ran_of what) rest) ≡ length
    (cond (is_answer what) (e ∷ filter (λ event. is_answer event.what) events)
    (filter (λ event. is_answer event.what) events))
ran_one (Ran line answer) rest events e same = grind (arith, same)
ran_one what rest events e same = same

ran_counted : (h : List Event) → length (ran_lines h) ≡ length (filter (λ event. is_answer event.what) h)
ran_counted [] = refl
ran_counted (e ∷ h) = ran_one e.what (ran_lines h) h e (ran_counted h)

-- as many as are counted
pub at_counted : (shape : Sizes) (commands : List Numbered) (at : ℕ) (h : List Event) → IsRankRun shape commands at h →
    at ≡ length (filter (λ event. is_answer event.what) h)
at_counted shape commands at h run =
    sym (length-take-le at commands run.answers.few) ∙ sym (length-map (take at commands) (λ c. c.line))
    ∙ sym (ap (λ (xs : List ℕ). length xs) run.answers.in_order) ∙ ran_counted h

-- what is so of each rank by its number is so of all
all_ranks : (R : ℕ → Ended → Type 0) (P : Ended → Type 0) → ((i : ℕ) (e : Ended) → R i e → P e) →
    (es : List Ended) → EachRank R es → AllByRecursion P es
all_ranks R P gives [] each = tt
all_ranks R P gives (e ∷ es) each =
    (gives 0 e (each 0), all_ranks (λ i. R (suc i)) P (λ i. gives (suc i)) es (λ i. each (suc i)))

both : (es : List Ended) → AllByRecursion ReadIn es →
    AllByRecursion (λ e. e.at ≡ length (filter (λ event. is_answer event.what) e.events)) es → AllByRecursion EndIn es
both [] read counted = tt
both (e ∷ es) read counted =
    (record { events = read.0.0; waits = read.0.1; at = counted.0 }, both es read.1 counted.1)

-- the ranks of a run are within their types, and their commands are counted
pub ends_in : (shape : Sizes) (lines : List Line) (es : List Ended) → AllByRecursion ReadIn es →
    EachRank (λ i rank. IsRankRun shape (commands_of i lines) rank.at rank.events) es → AllByRecursion EndIn es
ends_in shape lines es read runs =
    both es read (all_ranks (λ i rank. IsRankRun shape (commands_of i lines) rank.at rank.events)
    (λ e. e.at ≡ length (filter (λ event. is_answer event.what) e.events))
    (λ i e run. at_counted shape (commands_of i lines) e.at e.events run) es runs)
