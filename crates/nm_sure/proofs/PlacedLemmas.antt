-- The starts of a run, one event after another.
use Rattle.std.proofs.Common.{◌≡◌, ℕ, Bool, true, false, List, [], ◌∷◌, ◌++◌, length, map}
use Rattle.std.proofs.Common.{refl, sym, ◌∙◌, ap, append-nil, append_assoc}
use Rattle.std.specs.List.{filter}
use Rattle.std.proofs.lemmas.List.{map-append}
use Rattle.std.proofs.lemmas.List.Elements.{filter-append}
use Rattle.nm_history.specs.declared.events.Event.{Event}
use Rattle.nm_history.specs.declared.events.Happened.{Happened}
use Rattle.nm_history.specs.declared.events.Happened.TheVariants as event
use Rattle.nm_history.specs.RankRun.{is_start, ran_lines, since_command, starts_since}
use Rattle.nm_history.specs.Underway.{is_answer}
use Rattle.nm_history.proofs.OutgoingLemmas.{in_turn-push}
use Rattle.nm_history.proofs.RankRunLemmas.{since-push}
use Rattle.nm_sure.specs.Placed.{Placed, at_place, placed, start_entry}
use Rattle.nm_history.proofs.AppendLemmas.{since_grows}

-- an event that is no answer adds its start, if it is one, to those since the last answer
pub starts_grow : (h : List Event) (stamp : ℕ) (what : Happened) → is_answer what ≡ false →
    starts_since (h ++ record { stamp = stamp; what = what } ∷ []) ≡ starts_since h ++ filter is_start (what ∷ [])
starts_grow h stamp what silent =
    ap (λ (ws : List Happened). filter is_start ws)
    (since-push h (record { stamp = stamp; what = what }) ∙ since_grows (since_command h) what silent)
    ∙ filter-append is_start (since_command h) (what ∷ [])

entry_is : (h : List Event) (what : Happened) (b : Bool) → is_start what ≡ b →
    start_entry h what ≡ map (at_place (length (ran_lines h))) (filter is_start (what ∷ []))
entry_is h what true same = rw same refl
entry_is h what false same = rw same refl

-- what is placed so far: the starts of commands that ran, and then those since the last answer
abbrev pub IsPlacedSo : List Placed → List Event → Type 0
IsPlacedSo front h = placed h ≡ front ++ map (at_place (length (ran_lines h))) (starts_since h)

-- in the middle of a command
pub placed-push : (front : List Placed) (h : List Event) (stamp : ℕ) (what : Happened) → is_answer what ≡ false →
    ran_lines (h ++ record { stamp = stamp; what = what } ∷ []) ≡ ran_lines h → IsPlacedSo front h →
    IsPlacedSo front (h ++ record { stamp = stamp; what = what } ∷ [])
placed-push front h stamp what silent same so =
    let place : Happened → Placed = at_place (length (ran_lines h)) in
    in_turn-push (λ before e. start_entry before e.what) h (record { stamp = stamp; what = what })
    ∙ ap (λ (ps : List Placed). ps ++ start_entry h what) so
    ∙ append_assoc front (map place (starts_since h)) (start_entry h what)
    ∙ ap (λ (ps : List Placed). front ++ (map place (starts_since h) ++ ps)) (entry_is h what (is_start what) refl)
    ∙ ap (λ (ps : List Placed). front ++ ps) (sym (map-append place (starts_since h) (filter is_start (what ∷ []))))
    ∙ ap (λ (ws : List Happened). front ++ map place ws) (sym (starts_grow h stamp what silent))
    ∙ ap (λ (n : List ℕ). front ++ map (at_place (length n))
    (starts_since (h ++ record { stamp = stamp; what = what } ∷ []))) (sym same)

-- at an answer all that stood since the last one is of its command
pub placed-answer : (front : List Placed) (h : List Event) (stamp line : ℕ) (what : Happened) →
    starts_since (h ++ record { stamp = stamp; what = what } ∷ []) ≡ [] → is_start what ≡ false → IsPlacedSo front h →
    IsPlacedSo (front ++ map (at_place (length (ran_lines h))) (starts_since h))
    (h ++ record { stamp = stamp; what = what } ∷ [])
placed-answer front h stamp line what none silent so =
    in_turn-push (λ before e. start_entry before e.what) h (record { stamp = stamp; what = what })
    ∙ (rw (silent, none, append-nil (placed h))
    (so ∙ sym (append-nil (front ++ map (at_place (length (ran_lines h))) (starts_since h)))))
