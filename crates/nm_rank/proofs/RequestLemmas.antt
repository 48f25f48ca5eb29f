-- The live requests with one more.
use Rattle.std.proofs.Common.{◌≡◌, ◌≢◌, ℕ, zero, suc, ◌<◌, Bool, true, false, Some, List, [], ◌∷◌, ◌++◌, length, refl}
use Rattle.std.proofs.Common.{sym, ◌∙◌, ap, subst, arith}
use Rattle.std.specs.List.{slice_get}
use Rattle.std.proofs.lemmas.Option.{slice_get_within}
use mathlib.Core.Logic.{dite}
use native.Mathlib.Decide.{ℕ_discrete}
use Rattle.nm_history.specs.declared.events.Event.{Event}
use Rattle.nm_history.specs.Happens.{happened, is_send}
use Rattle.nm_request.specs.declared.Req.{Req}
use Rattle.nm_request.specs.declared.Kind.{Kind}
use Rattle.nm_request.specs.declared.Kind.TheVariants as kind
use Rattle.nm_request.specs.Requests.{Live, kind_of, AddsRequest}
use Rattle.nm_receiving.specs.Receipts.{ReceivingView}
use Rattle.nm_rank.specs.Fields.{HasRequests, endings}

abbrev with_key : ℕ → ℕ → Req
with_key turn key = record { key = key; turn = turn }

abbrev with_turn : ℕ → ℕ → Req
with_turn key turn = record { key = key; turn = turn }

same_req : (x y : Req) → x.key ≡ y.key → x.turn ≡ y.turn → x ≡ y
same_req x y k t = ap (with_key x.turn) k ∙ ap (with_turn y.key) t

-- a request that is another one, or this one
either : (x y : Req) {A : Type 0} → (x ≡ y → A) → (x ≢ y → A) → A
either x y same other = dite (ℕ_discrete x.key y.key)
    (λ k. dite (ℕ_discrete x.turn y.turn) (λ t. same (same_req x y k t))
    (λ f. other (λ e. f (ap (λ (r : Req). r.turn) e))))
    (λ f. other (λ e. f (ap (λ (r : Req). r.key) e)))

-- where a request of this kind is live that is not the new one, it was live before
was_live : (q q' : Live) (x : Req) (k : Kind) → AddsRequest q q' x k → (y : Req) (l : Kind)
    → y ≢ x → kind_of q' y ≡ Some l → kind_of q y ≡ Some l
was_live q q' x k a y l ne e = sym (a.others y ne) ∙ e

some_same : (l k : Kind) → Some l ≡ Some k → l ≡ k
some_same l k e = cc

-- the kind of the new one
is_new : (q q' : Live) (x : Req) (k : Kind) → AddsRequest q q' x k → (y : Req) (l : Kind)
    → y ≡ x → kind_of q' y ≡ Some l → l ≡ k
is_new q q' x k a y l same e = some_same l k (sym e ∙ ap (kind_of q') same ∙ a.live)

no_receive : (number to n : ℕ) → kind.Receive number ≡ kind.Send to n → ⊥
no_receive number to n e = cc

no_send : (number to n : ℕ) → kind.Send to n ≡ kind.Receive number → ⊥
no_send number to n e = cc

abbrev IsSent : ℕ → List Event → Kind → Type 0
IsSent ranks h (kind.Send t m) = (t < ranks) × (happened (is_send t m) h ≡ true)
IsSent ranks h (kind.Receive number) = Unit {0}

sent_too : (ranks : ℕ) (h : List Event) (k l : Kind) → k ≡ l → IsSent ranks h l → IsSent ranks h k
sent_too ranks h k l e s = subst (IsSent ranks h) (sym e) s

pub adds-send : (ranks : ℕ) (q q' : Live) (h : List Event) (r : ReceivingView) (x : Req) (to n : ℕ)
    → to < ranks → happened (is_send to n) h ≡ true
    → AddsRequest q q' x (kind.Send to n) → HasRequests ranks q h r → HasRequests ranks q' h r
adds-send ranks q q' h r x to n within sent a b = record {
  sends = λ y to' n' e. either y x
      (λ same. sent_too ranks h (kind.Send to' n') (kind.Send to n)
      (is_new q q' x (kind.Send to n) a y (kind.Send to' n') same e) (within, sent))
      (λ ne. b.sends y to' n' (was_live q q' x (kind.Send to n) a y (kind.Send to' n') ne e));
  receives = λ y number e. either y x
      (λ same. absurd (no_receive number to n (is_new q q' x (kind.Send to n) a y _ same e)))
      (λ ne. b.receives y number (was_live q q' x (kind.Send to n) a y _ ne e));
  apart = λ y z number e f. either y x
      (λ same. absurd (no_receive number to n (is_new q q' x (kind.Send to n) a y _ same e)))
      (λ ne. either z x
      (λ same. absurd (no_receive number to n (is_new q q' x (kind.Send to n) a z _ same f)))
      (λ ne'. b.apart y z number (was_live q q' x (kind.Send to n) a y _ ne e)
      (was_live q q' x (kind.Send to n) a z _ ne' f)));
}

get_front : (es : List Bool) (k : ℕ) (b c : Bool) → slice_get es k ≡ Some b
    → slice_get (es ++ c ∷ []) k ≡ Some b
get_front [] k b c e = cc
get_front (x ∷ es) zero b c e = e
get_front (x ∷ es) (suc k) b c e = get_front es k b c e

get_end : (es : List Bool) (c : Bool) → slice_get (es ++ c ∷ []) (length es) ≡ Some c
get_end [] c = refl
get_end (x ∷ es) c = get_end es c

receive_same : (m n : ℕ) → kind.Receive m ≡ kind.Receive n → m ≡ n
receive_same m n e = cc

-- a receive whose result was not given was started
below : (es : List Bool) (k : ℕ) → slice_get es k ≡ Some false → k ≡ length es → ⊥
below es k e same = omega (arith, slice_get_within es k false e)

-- one request more, of a receive that was just started
pub adds-receive : (ranks : ℕ) (q q' : Live) (h : List Event) (r r' : ReceivingView) (x : Req)
    (number : ℕ) → number ≡ length (endings r) → endings r' ≡ endings r ++ false ∷ []
    → AddsRequest q q' x (kind.Receive number) → HasRequests ranks q h r → HasRequests ranks q' h r'
adds-receive ranks q q' h r r' x number next more a b = record {
  sends = λ y to n e. either y x
      (λ same. absurd (no_send number to n (is_new q q' x (kind.Receive number) a y _ same e)))
      (λ ne. b.sends y to n (was_live q q' x (kind.Receive number) a y _ ne e));
  receives = λ y m e. either y x
      (λ same. let m_is : m ≡ number = receive_same m number
      (is_new q q' x (kind.Receive number) a y (kind.Receive m) same e) in
      rw (more, m_is, next) (get_end (endings r) false))
      (λ ne. rw more (get_front (endings r) m false false
      (b.receives y m (was_live q q' x (kind.Receive number) a y _ ne e))));
  apart = λ y z m e f. either y x
      (λ same. either z x (λ same'. same ∙ sym same')
      (λ ne. absurd (below (endings r) m
      (b.receives z m (was_live q q' x (kind.Receive number) a z (kind.Receive m) ne f))
      (receive_same m number (is_new q q' x (kind.Receive number) a y (kind.Receive m) same e) ∙ next))))
      (λ ne. either z x
      (λ same. absurd (below (endings r) m
      (b.receives y m (was_live q q' x (kind.Receive number) a y (kind.Receive m) ne e))
      (receive_same m number (is_new q q' x (kind.Receive number) a z (kind.Receive m) same f) ∙ next)))
      (λ ne'. b.apart y z m (was_live q q' x (kind.Receive number) a y _ ne e)
      (was_live q q' x (kind.Receive number) a z _ ne' f)));
}
