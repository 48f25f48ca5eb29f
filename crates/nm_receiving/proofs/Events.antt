-- Events by what happened in them, and two histories of the same deeds.
use Rattle.std.proofs.Common.{◌≡◌, ℕ, List, [], ◌∷◌, ◌++◌}
use Rattle.std.proofs.Common.{sym, ◌∙◌, subst}
use Rattle.nm_types.specs.declared.messages.Envelope.{Envelope}
use Rattle.nm_history.specs.declared.events.Event.{Event}
use Rattle.nm_history.specs.declared.events.Happened.{Happened}
use Rattle.nm_history.specs.Completion.{is_taken}
use Rattle.nm_history.specs.Matching.{first_receive, matched_pairs}
use Rattle.nm_history.specs.Effects.{happenings}
use Rattle.nm_history.specs.Rules.{AreRight, IsRightAt}
use Rattle.nm_history.specs.Happens.{at}
use Rattle.nm_match.specs.declared.deeds.Deed.{Deed}
use Rattle.nm_match.specs.Deeds.{Represents}
use Rattle.nm_match.proofs.StandsLemmas.{first_receive-stands, taken-stands}

-- no event
pub unstamp-none : (P : List Event → Type 0) (events : List Event) → P [] → happenings events ≡ [] → P events
unstamp-none P [] holds is = holds
unstamp-none P (e ∷ events) holds is = absurd (let h : ⊥ = cc in h)

-- one event
pub unstamp-one : (P : List Event → Type 0) (events : List Event) (w : Happened) → ((s : ℕ) → P (at s w ∷ []))
    → happenings events ≡ w ∷ [] → P events
unstamp-one P [] w holds is = absurd (let h : ⊥ = cc in h)
unstamp-one P (e ∷ []) w holds is =
    let same : e.what ≡ w = cc in subst (λ (w' : Happened). P (at e.stamp w' ∷ [])) (sym same) (holds e.stamp)
unstamp-one P (e ∷ e' ∷ events) w holds is = absurd (let h : ⊥ = cc in h)

-- two events
pub unstamp-two : (P : List Event → Type 0) (events : List Event) (w x : Happened) →
    ((s t : ℕ) → P (at s w ∷ at t x ∷ []))
    → happenings events ≡ w ∷ x ∷ [] → P events
unstamp-two P [] w x holds is = absurd (let h : ⊥ = cc in h)
unstamp-two P (e ∷ []) w x holds is = absurd (let h : ⊥ = cc in h)
unstamp-two P (e ∷ e' ∷ []) w x holds is =
    let same : e.what ≡ w = cc in
    let same' : e'.what ≡ x = cc in
    subst (λ (w' : Happened). P (at e.stamp w' ∷ e' ∷ [])) (sym same)
    (subst (λ (x' : Happened). P (at e.stamp w ∷ at e'.stamp x' ∷ [])) (sym same') (holds e.stamp e'.stamp))
unstamp-two P (e ∷ e' ∷ f ∷ events) w x holds is = absurd (let h : ⊥ = cc in h)

-- the rules of one event, and of two
pub right-one : (ranks : ℕ) (h : List Event) (e : Event) → IsRightAt ranks h e.what → AreRight ranks h (e ∷ [])
right-one ranks h e right = (right, tt)

pub right-two : (ranks : ℕ) (h : List Event) (e e' : Event) → IsRightAt ranks h e.what →
    IsRightAt ranks (h ++ e ∷ []) e'.what
    → AreRight ranks h (e ∷ e' ∷ [])
right-two ranks h e e' right right' = (right, (right', tt))

-- histories of the same deeds agree
pub same_receive : (deeds : List Deed) (h k : List Event) → Represents deeds h → Represents deeds k → (env : Envelope)
    → first_receive h (matched_pairs h) env ≡ first_receive k (matched_pairs k) env
same_receive deeds h k stands stands' env = first_receive-stands deeds h stands env
    ∙ sym (first_receive-stands deeds k stands' env)

pub same_taken : (deeds : List Deed) (h k : List Event) → Represents deeds h → Represents deeds k → (from n : ℕ)
    → is_taken h from n ≡ is_taken k from n
same_taken deeds h k stands stands' from n = taken-stands deeds h stands from n
    ∙ sym (taken-stands deeds k stands' from n)
