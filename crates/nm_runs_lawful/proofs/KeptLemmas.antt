-- A send that was recalled, and whose recall has no answer, has its live request. MPI 3.1, 3.7.2, 3.8.4.
use Rattle.std.proofs.Common.{◌≡◌, ℕ, ◌==◌, ◌&&◌, ◌||◌, Bool, true, false, cond, Option, Some, None}
use Rattle.std.proofs.Common.{List, [], ◌∷◌, ◌++◌, refl, sym, ◌∙◌, ap, subst}
use Rattle.std.proofs.Common.{append_assoc}
use Rattle.std.specs.Prelude.{IfSome, option_and_then}
use Rattle.std.proofs.lemmas.Bool.{false≢true}
use Rattle.nm_types.specs.declared.answers.Answer.TheVariants as answer
use Rattle.nm_types.specs.declared.scripts.Line.{Line}
use Rattle.nm_types.specs.Commands.{Numbered, command_at, commands_of}
use Rattle.nm_types.specs.Sizes.{Sizes}
use Rattle.nm_types.proofs.NumberLemmas.{eq_true, same_number}
use Rattle.nm_types.proofs.OptionLemmas.{no_some}
use Rattle.nm_types.proofs.TruthLemmas.{and_left, and_right, both, or_left, or_right}
use Rattle.nm_history.specs.declared.events.Event.{Event}
use Rattle.nm_history.specs.declared.events.Happened.{Happened}
use Rattle.nm_history.specs.declared.events.Happened.TheVariants as event
use Rattle.nm_history.specs.Answers.{line_of_name, request_at}
use Rattle.nm_history.specs.Completion.{result_of}
use Rattle.nm_history.specs.Completion.Request.{Sending}
use Rattle.nm_history.specs.Happens.{happened, is_out, is_recall, is_undone}
use Rattle.nm_history.specs.Quiescence.{Ended, Packets}
use Rattle.nm_history.specs.Underway.{is_answer}
use Rattle.nm_history.proofs.AnswerLemmas.{line-push, line_kept}
use Rattle.nm_history.proofs.Sent.{happened-append}
use Rattle.nm_outcomes.specs.Due.{IsCancelOf, IsDue}
use Rattle.nm_outcomes.specs.Logs.{Step, history_in}
use Rattle.nm_outcomes.specs.Places.{RankPoint}
use Rattle.nm_outcomes.proofs.HappenedLemmas.{split_any}
use Rattle.nm_lawful.specs.Moves.{Report}
use Rattle.nm_runs_lawful.specs.Stands.{IsRunTold, IsSoFar, name_of}
use Rattle.nm_runs_lawful.proofs.LiveLemmas.{is_named}
use Rattle.nm_runs_lawful.proofs.OnceLemmas.{due_at}
use Rattle.nm_runs_lawful.proofs.StayLemmas.{named_still, not_before, request_stays}

module _ (shape : Sizes) (lines : List Line) (ranks : List Ended) (packets : List Packets) (told : Report)
    (is : IsRunTold shape lines ranks packets told) (before : List Step) (later : List Step)
    (w : ℕ → RankPoint) (next : IsSoFar shape lines ranks before later w) (i : ℕ)
  where
    abbrev commands : List Numbered
    commands = commands_of i lines

    abbrev h : List Event
    h = history_in before i

    -- A send that was recalled, and whose recall has no answer.
    module _ (to n : ℕ) (recalled : (w i).recalled to n ≡ true)
        (not_done : happened (is_undone to n true) (history_in before i) ≡ false)
        (not_late : happened (is_undone to n false) (history_in before i) ≡ false)
      where
        -- the name that has it, and its line
        pub record IsKept : Type 0 where
          pub q : ℕ
          pub line : ℕ
          pub named : (w i).named q ≡ Some line
          pub names : option_and_then name_of (command_at (commands_of i lines) line) ≡ Some q
          pub request : request_at (history_in before i) line ≡ Some (Sending to n)

        unended : (x more : List Event) → h ≡ x ++ more → happened (is_recall to n) x ≡ true →
            result_of x (Sending to n) ≡ None
        unended x more so recalls =
            ap (λ (z : Bool). cond (cond z
            (happened (is_undone to n true) x || (happened (is_undone to n false) x && happened (is_out to n) x))
            (happened (is_out to n) x))
            (Some (cond (happened (is_undone to n true) x) answer.Cancelled answer.Sent)) None) recalls
            ∙ ap (λ (z : Bool). cond (z || (happened (is_undone to n false) x && happened (is_out to n) x))
            (Some (cond z answer.Cancelled answer.Sent)) None)
            (not_before (is_undone to n true) x more (ap (happened (is_undone to n true)) (sym so) ∙ not_done))
            ∙ ap (λ (z : Bool). cond (z && happened (is_out to n) x) (Some answer.Sent) None)
            (not_before (is_undone to n false) x more (ap (happened (is_undone to n false)) (sym so) ∙ not_late))

        kept_from : (b : List Event) (e : Event) (t : List Event) → h ≡ b ++ e ∷ t → e.what ≡ event.Recall to n →
            IsKept
        kept_from b e t split recalls =
            by_name (line_of_name commands b due.name) refl due.live_is
          where
            due : IsCancelOf commands b (Sending to n)
            due =
                subst (λ (what : Happened). IsDue shape.eager commands b what) recalls
                (due_at shape lines ranks packets told is before later w next i b e t split)

            grown : List Event
            grown = b ++ e ∷ []

            grown_split : h ≡ grown ++ t
            grown_split = split ∙ sym (append_assoc b (e ∷ []) t)

            quiet : is_answer e.what ≡ false
            quiet = ap is_answer recalls

            has_recalled : (z : List Event) → happened (is_recall to n) (grown ++ z) ≡ true
            has_recalled z =
                ap (happened (is_recall to n)) (append_assoc b (e ∷ []) z)
                ∙ happened-append (is_recall to n) b (e ∷ z)
                ∙ or_right (happened (is_recall to n) b) (is_recall to n e.what || happened (is_recall to n) z)
                (or_left (is_recall to n e.what) (happened (is_recall to n) z)
                (ap (is_recall to n) recalls ∙ both (to == to) (n == n) (eq_true to to refl) (eq_true n n refl)))

            by_line : (line : ℕ) → line_of_name commands b due.name ≡ Some line →
                request_at b line ≡ Some (Sending to n) → IsKept
            by_line line stands request =
                let named = named_still shape lines ranks packets told is before later w next i due.name line
                (Sending to n) grown (request_stays line b (e ∷ []) (Sending to n) request)
                (λ z rest so. unended (grown ++ z) rest so (has_recalled z)) t grown_split
                (line-push commands b e due.name ∙ line_kept commands due.name (line_of_name commands b due.name) e.what
                quiet ∙ stands) in
                record {
                  q = due.name;
                  line = line;
                  named = named;
                  names = subst (λ (o : Option ℕ). IfSome o
                      (λ line. option_and_then name_of (command_at commands line) ≡ Some due.name))
                      (sym ((next.places i).named due.name) ∙ named) (is_named commands due.name h);
                  request = ap (λ (k : List Event). request_at k line) split
                      ∙ request_stays line b (e ∷ t) (Sending to n) request;
                }

            by_name : (o : Option ℕ) → line_of_name commands b due.name ≡ o →
                option_and_then (request_at b) o ≡ Some (Sending to n) → IsKept
            by_name None stands request = absurd (no_some (Sending to n) request)
            by_name (Some line) stands request = by_line line stands request

        pub recalled_kept : IsKept
        recalled_kept =
            let spot = split_any (is_recall to n) h (sym ((next.places i).recalled to n) ∙ recalled) in
            by_event spot.0 spot.1 spot.2 spot.3 spot.1.what refl spot.4
          where
            by_event : (b : List Event) (e : Event) (t : List Event) → h ≡ b ++ e ∷ t → (what : Happened) →
                e.what ≡ what → is_recall to n what ≡ true → IsKept
            by_event b e t split (event.Recall to' n') at same =
                kept_from b e t split
                (at
                ∙ ap (λ (x : ℕ). event.Recall x n') (same_number to' to (and_left (to' == to) (n' == n) same))
                ∙ ap (λ (x : ℕ). event.Recall to x) (same_number n' n (and_right (to' == to) (n' == n) same)))
            by_event b e t split what at same = absurd (false≢true same)
