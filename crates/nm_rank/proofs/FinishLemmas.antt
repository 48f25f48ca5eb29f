-- A request that is finished.
use Rattle.std.proofs.Common.{◌≡◌, ◌≢◌, ℕ, zero, suc, ◌<◌, Bool, false, Option, Some, None, Ok, List, [], ◌∷◌, length}
use Rattle.std.proofs.Common.{refl, sym, ◌∙◌, ap, subst}
use Rattle.std.specs.Prelude.{map, option_map, slice_set, Result, OnOk}
use Rattle.std.specs.List.{slice_get}
use Rattle.std.specs.Option.{ok_or, option_map_or}
use Rattle.std.proofs.lemmas.Option.{slice_get-map, slice_get_within}
use Rattle.nm_types.specs.Sizes.{Sizes}
use Rattle.nm_history.specs.declared.events.Event.{Event}
use Rattle.nm_history.specs.Known.{Known}
use Rattle.nm_eager.specs.Streams.{missing}
use Rattle.nm_rank.specs.Journals.{JournalView}
use Rattle.nm_request.specs.declared.NoSuch.{NoSuch}
use Rattle.nm_request.specs.declared.Req.{Req}
use Rattle.nm_request.specs.declared.Kind.{Kind}
use Rattle.nm_request.specs.declared.Kind.TheVariants as kind
use Rattle.nm_request.specs.Requests.{Live, kind_of, FreesRequest}
use Rattle.nm_sending.specs.Departures.{SendingView}
use Rattle.nm_receiving.specs.declared.receipts.Receive.{Receive}
use Rattle.nm_receiving.specs.Receipts.{ReceivingView, stream_of}
use Rattle.nm_receiving.specs.Received.{AreReceived}
use Rattle.nm_receiving.specs.Steps.{has_ended, with_ended}
use Rattle.nm_rank.specs.Fields.{AreFields, HasRequests}
use Rattle.nm_rank.specs.Requests.{IsFreed}
use Rattle.nm_rank.proofs.Goes.{StaysTold, peers-stay, told-stays}

abbrev ended_of : Receive → Bool
ended_of x = x.ended

nothing : None ≡ Some false → ⊥
nothing e = cc

nothing_some : (k : Kind) → None ≡ Some k → ⊥
nothing_some k e = cc

inner : {b : Bool} → Some b ≡ Some false → b ≡ false
inner e = cc

some-of : (o : Option Receive) → option_map ended_of o ≡ Some false
    → (x : Receive) × (o ≡ Some x) × (x.ended ≡ false)
some-of None e = absurd (nothing e)
some-of (Some x) e = (x, refl, inner e)

-- a receive whose result was not given was started
pub was-started : (xs : List Receive) (k : ℕ) → slice_get (map ended_of xs) k ≡ Some false
    → k < length xs
was-started xs k e = let s = some-of (slice_get xs k) (sym (slice_get-map ended_of xs k) ∙ e) in
    slice_get_within xs k s.0 s.1

pub not-ended : (xs : List Receive) (k : ℕ) → slice_get (map ended_of xs) k ≡ Some false
    → option_map_or ended_of (slice_get xs k) false ≡ false
not-ended xs k e = let s = some-of (slice_get xs k) (sym (slice_get-map ended_of xs k) ∙ e) in
    rw s.1 s.2

set-else : (xs : List Receive) (k m : ℕ) (y : Receive) → k ≢ m
    → slice_get (map ended_of (slice_set xs k y)) m ≡ slice_get (map ended_of xs) m
set-else [] k m y ne = refl
set-else (x ∷ xs) zero zero y ne = absurd (ne refl)
set-else (x ∷ xs) zero (suc m) y ne = refl
set-else (x ∷ xs) (suc k) zero y ne = refl
set-else (x ∷ xs) (suc k) (suc m) y ne = set-else xs k m y (λ e. ne (ap suc e))

end-else : (xs : List Receive) (k m : ℕ) (o : Option Receive) → k ≢ m
    → slice_get (map ended_of (option_map_or (λ r. slice_set xs k (has_ended r)) o xs)) m
    ≡ slice_get (map ended_of xs) m
end-else xs k m None ne = refl
end-else xs k m (Some x) ne = set-else xs k m (has_ended x) ne

-- the results of the other receives
pub ended-else : (xs : List Receive) (k m : ℕ) → k ≢ m
    → slice_get (map ended_of (with_ended xs k)) m ≡ slice_get (map ended_of xs) m
ended-else xs k m ne = end-else xs k m (slice_get xs k) ne

-- a request that is freed is live no more
gone : (q q' : Live) (x y : Req) (k : Kind) → FreesRequest q q' x → y ≡ x → kind_of q' y ≡ Some k → ⊥
gone q q' x y k f same e = nothing_some k (sym f.gone ∙ sym (ap (kind_of q') same) ∙ e)

stays : (q q' : Live) (x y : Req) (k : Kind) → FreesRequest q q' x → kind_of q' y ≡ Some k
    → (y ≢ x) × (kind_of q y ≡ Some k)
stays q q' x y k f e = let ne : y ≢ x = λ same. gone q q' x y k f same e in
    (ne, sym (f.others y ne) ∙ e)

pub frees-send : (ranks : ℕ) (q q' : Live) (h : List Event) (r : ReceivingView) (x : Req)
    → FreesRequest q q' x → HasRequests ranks q h r → HasRequests ranks q' h r
frees-send ranks q q' h r x f b = record {
  sends = λ y to n e. b.sends y to n (stays q q' x y (kind.Send to n) f e).1;
  receives = λ y m e. b.receives y m (stays q q' x y (kind.Receive m) f e).1;
  apart = λ y z m e g. b.apart y z m (stays q q' x y (kind.Receive m) f e).1
      (stays q q' x z (kind.Receive m) f g).1;
}

pub frees-receive : (ranks : ℕ) (q q' : Live) (h : List Event) (r r' : ReceivingView) (x : Req)
    (number : ℕ) → kind_of q x ≡ Some (kind.Receive number)
    → r'.receives ≡ with_ended r.receives number
    → FreesRequest q q' x → HasRequests ranks q h r → HasRequests ranks q' h r'
frees-receive ranks q q' h r r' x number live ended f b = record {
  sends = λ y to n e. b.sends y to n (stays q q' x y (kind.Send to n) f e).1;
  receives = λ y m e. (let s = stays q q' x y (kind.Receive m) f e in
      let ne : number ≢ m = λ same. s.0
      (b.apart y x m s.1 (subst (λ (k : ℕ). kind_of q x ≡ Some (kind.Receive k)) same live)) in
      subst (λ (xs : List Receive). slice_get (map ended_of xs) m ≡ Some false) (sym ended)
      (ended-else r.receives number m ne ∙ b.receives y m s.1));
  apart = λ y z m e g. b.apart y z m (stays q q' x y (kind.Receive m) f e).1
      (stays q q' x z (kind.Receive m) f g).1;
}

-- the fields after a send was finished
pub fields-finish_send : (me : ℕ) (sizes : Sizes) (j : JournalView) (s : SendingView)
    (r : ReceivingView) (known : List Known) (q q' : Live) (took pulled : List ℕ) (x : Req)
    → AreFields me sizes j s r known q took pulled → FreesRequest q q' x
    → AreFields me sizes j s r known q' took pulled
fields-finish_send me sizes j s r known q q' took pulled x a f = record {
  history = a.history;
  peers = a.peers;
  told = a.told;
  requests = frees-send sizes.ranks q q' j.events r x f a.requests;
  room = a.room;
}

-- the fields after a receive was finished
pub fields-finish_receive : (me : ℕ) (sizes : Sizes) (j : JournalView) (s : SendingView)
    (r r' : ReceivingView) (known : List Known) (q q' : Live) (took pulled : List ℕ) (x : Req)
    (number : ℕ)
    → AreFields me sizes j s r known q took pulled
    → kind_of q x ≡ Some (kind.Receive number) → FreesRequest q q' x
    → ((h : List Event) → AreReceived r h → AreReceived r' h)
    → r'.receives ≡ with_ended r.receives number
    → r' ≡ record r { streams = r'.streams; grants = r'.grants; receives = r'.receives }
    → ((from : ℕ) → ((stream_of r' from).count ≡ (stream_of r from).count)
    × (missing (stream_of r' from) ≡ missing (stream_of r from)))
    → AreFields me sizes j s r' known q' took pulled
fields-finish_receive me sizes j s r r' known q q' took pulled x number a live f kept ended same streams =
    let k : StaysTold s s r r' = record {
      me = refl;
      to = refl;
      order = refl;
      sizes = ap (λ (u : ReceivingView). u.sizes) same;
      drawn = ap (λ (u : ReceivingView). u.drawn) same;
      counts = λ from. (streams from).0;
      missing = λ from. (streams from).1;
    } in
    record {
      history = record {
        right = a.history.right;
        sent = a.history.sent;
        received = kept j.events a.history.received;
        agrees = a.history.agrees;
      };
      peers = peers-stay me sizes s s r r' known took pulled k a.peers;
      told = told-stays sizes.ranks s s r r' known took pulled k a.told;
      requests = frees-receive sizes.ranks q q' j.events r r' x number live ended f a.requests;
      room = a.room;
    }

-- what a request was found to be
pub found : (o : Option Kind) (k : Kind) (e : NoSuch) → Ok k ≡ ok_or o e → o ≡ Some k
found None k e f = cc
found (Some l) k e f = cc

-- a request that is freed, where contracts see no room
pub freed : (q q' : Live) (x : Req) → FreesRequest q q' x
    → IsFreed (record q { spare = 0 }) (record q' { spare = 0 }) x
freed q q' x f = record { counted = f.counted; gone = f.gone; others = f.others }

-- a live request is freed
pub frees-ok : (o : Option Kind) (k : Kind) (e : NoSuch) (res : Result Kind NoSuch) (P : Type 0)
    → o ≡ Some k → res ≡ ok_or o e → OnOk res P → P
frees-ok o k e res P live is ok = rw (is, live) at ok
