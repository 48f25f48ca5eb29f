-- The fields of a rank at which nothing happened.
use Rattle.std.proofs.Common.{◌≡◌, ℕ, zero, suc, ◌<◌, Some, None, List, [], length, replicate, refl, sym, ◌∙◌, ap}
use Rattle.std.proofs.Common.{arith}
use Rattle.nm_types.specs.Sizes.{Sizes}
use Rattle.nm_history.specs.Known.{Known, nothing_known}
use Rattle.nm_history.proofs.Agreeing.{agrees-none}
use Rattle.nm_eager.specs.Streams.{nothing_came}
use Rattle.nm_rank.specs.Journals.{JournalView}
use Rattle.nm_request.specs.declared.Req.{Req}
use Rattle.nm_request.specs.declared.Kind.{Kind}
use Rattle.nm_request.specs.Requests.{Live, kind_of}
use Rattle.nm_rndv.specs.Offers.{Offering, no_offers}
use Rattle.nm_sending.specs.Departures.{SendingView}
use Rattle.nm_sending.specs.Sent.{AreSent}
use Rattle.nm_sending.proofs.TurnLemmas.{numbers_to}
use Rattle.nm_receiving.specs.Receipts.{ReceivingView, stream_of, drawn_from}
use Rattle.nm_receiving.specs.Received.{AreReceived}
use Rattle.nm_rank.specs.Fields.{AreFields}
use Rattle.nm_rank.specs.Ranks.{known_from}

nothing-known : (n i : ℕ) → known_from (replicate n nothing_known) i ≡ nothing_known
nothing-known zero i = refl
nothing-known (suc n) zero = refl
nothing-known (suc n) (suc i) = nothing-known n i

length-rep : {A : Type 0} (n : ℕ) (x : A) → length (replicate n x) ≡ n
length-rep zero x = refl
length-rep (suc n) x = ap suc (length-rep n x)

none_live : (k : Kind) → None ≡ Some k → ⊥
none_live k e = cc

pub fields-new : (me : ℕ) (sizes : Sizes) (j : JournalView) (s : SendingView) (r : ReceivingView)
    (known : List Known) (q : Live) (took pulled : List ℕ)
    → me < sizes.ranks → j.events ≡ []
    → AreSent s [] → s.outbox.me ≡ me → s.outbox.popped ≡ replicate sizes.ranks 0
    → s.offers ≡ no_offers sizes.ranks → s.staying ≡ 0
    → AreReceived r [] → r.sizes ≡ sizes
    → ((from : ℕ) → (stream_of r from ≡ nothing_came) × (drawn_from r from ≡ 0))
    → known ≡ replicate sizes.ranks nothing_known
    → ((x : Req) → kind_of q x ≡ None)
    → took ≡ replicate sizes.ranks 0 → pulled ≡ replicate sizes.ranks 0
    → AreFields me sizes j s r known q took pulled
fields-new me sizes j s r known q took pulled within e sent own popped offers staying received sz nothing kn
    none tk pl = record {
      history = record {
        right = rw e tt;
        sent = rw e sent;
        received = rw e received;
        agrees = λ from b. rw (e, kn, nothing-known sizes.ranks from) (agrees-none from);
      };
      peers = record {
        shape = sz;
        own = own;
        within = within;
        to = ap length popped ∙ length-rep sizes.ranks 0;
        streams = ap length kn ∙ length-rep sizes.ranks nothing_known;
        packets = ap length tk ∙ length-rep sizes.ranks 0;
        pieces = ap length pl ∙ length-rep sizes.ranks 0;
      };
      told = record {
        counts = λ from b. rw (kn, nothing-known sizes.ranks from, (nothing from).0) refl;
        missing = λ from b. rw (kn, nothing-known sizes.ranks from, (nothing from).0) refl;
        cleared = λ to b. (rw (kn, nothing-known sizes.ranks to) refl)
            ∙ sym (ap (λ (o : Offering). numbers_to to o.order) offers);
        few = λ from b. rw (kn, nothing-known sizes.ranks from) (omega arith);
        drawn = λ from b. rw ((nothing from).1) (omega arith);
      };
      requests = record {
        sends = λ x to n k. absurd (none_live _ (sym (none x) ∙ k));
        receives = λ x number k. absurd (none_live _ (sym (none x) ∙ k));
        apart = λ x y number k l. absurd (none_live _ (sym (none x) ∙ k));
      };
      room = record { events = omega arith; few = omega arith };
    }
