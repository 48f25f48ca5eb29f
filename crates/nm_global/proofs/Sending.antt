-- Sends.
use Rattle.std.proofs.Common.{◌≡◌, ℕ, ◌+◌, ◌==◌, ◌⊎◌, inl, inr, Bool, true, false, cond, Option, Some, None}
use Rattle.std.proofs.Common.{List, [], ◌∷◌, ◌++◌, length, refl, sym, ◌∙◌, ap, subst, arith, IfSome}
use Rattle.std.proofs.Common.{IsSomeAnd}
use Rattle.std.specs.Option.{option_or}
use Rattle.std.proofs.lemmas.List.Folds.{find-append}
use Rattle.nm_types.specs.Bodies.{body_len, bytes_of}
use Rattle.nm_types.specs.declared.messages.How.{How}
use Rattle.nm_types.specs.declared.messages.How.TheVariants.{Eager, Ask}
use Rattle.nm_types.specs.declared.scripts.Body.{Body}
use Rattle.nm_history.specs.declared.events.Event.{Event}
use Rattle.nm_history.specs.declared.events.Happened.{Happened}
use Rattle.nm_history.specs.declared.events.Happened.TheVariants.{Send}
use Rattle.nm_history.specs.Sends.{Sent, is_ask, sends}
use Rattle.nm_history.specs.Clock.{stamped}
use Rattle.nm_history.specs.Rules.{AreRight}
use Rattle.nm_history.proofs.Basic.{self_true}
use Rattle.nm_history.proofs.Right.{right-numbers}
use Rattle.nm_history.proofs.Sent.{sends_numbered}
use Rattle.nm_rndv.specs.Offers.{Offering, destined, with_asked, with_destined}
use Rattle.nm_sending.specs.Departures.{cleared_to}
use Rattle.nm_rank.specs.Calls.{Happens, called_by, eager_sent}
use Rattle.nm_rank.specs.Ranks.{RankView}
use Rattle.nm_global.specs.Emitted.{IsEager, IsEmitted, Emitted, sent_in}
use Rattle.nm_global.proofs.Packets.{OfBoth}
use Rattle.nm_global.proofs.Destinations.{Going, asked_goes, other_goes, stay}
use Rattle.nm_global.proofs.Calls.{happening, put_go}
use Rattle.nm_global.proofs.Numbered.{none_next, not_among}
use Rattle.nm_types.proofs.NumberLemmas.{same_number}
use Rattle.nm_history.proofs.AppendLemmas.{sends-append}

-- the next send to a rank
abbrev pub next_send : RankView → ℕ → ℕ → ℕ → How → ℕ → Body → Sent
next_send v to tag ctx how line body =
    record {
      stamp = v.clock + 1;
      to = to;
      n = length (sends v.events to);
      tag = tag;
      ctx = ctx;
      len = body_len body;
      how = how;
      line = line;
    }

-- what happens by it
abbrev pub by_send : RankView → ℕ → ℕ → ℕ → How → ℕ → Body → List Happened
by_send v to tag ctx how line body =
    Send to (length (sends v.events to)) tag ctx (body_len body) how line ∷ []

-- a message with this body is sent
pub record IsSend (bodies : Sent → List ℕ) (v v' : RankView) (to tag ctx line : ℕ) (how : How)
    (body : Body) : Type 0 where
  pub bytes : bodies (next_send v to tag ctx how line body) ≡ bytes_of body
  pub happens : Happens bodies v.clock (by_send v to tag ctx how line body) v v'
  pub own : v'.me ≡ v.me
  pub offers :
      v'.sending.offers
      ≡ cond (is_ask how) (with_destined v.sending.offers to
      (with_asked (destined v.sending.offers to) (length (sends v.events to)) body)) v.sending.offers

module _ (both : OfBoth) (bodies : Sent → List ℕ) (v v' : RankView) (to : ℕ) (left : Emitted)
    (is : IsEmitted bodies v to left) (tag ctx line : ℕ) (how : How) (body : Body) where
  abbrev events_of : ℕ → List Event
  events_of receiver = stamped v.clock (by_send v receiver tag ctx how line body)

  -- the offers where a message is asked of a rank
  abbrev asked_of : ℕ → Offering
  asked_of receiver =
      with_destined v.sending.offers receiver
      (with_asked (destined v.sending.offers receiver) (length (sends v.events receiver)) body)

  -- where the messages to this rank go on, and those that leave with its letters are eager
  send_go : (receiver : ℕ) → IsSend bodies v v' receiver tag ctx line how body →
      Going bodies v v' to (cond (is_ask how) (asked_of receiver) v.sending.offers) →
      (called_by bodies to v.events (events_of receiver) ≡ [])
      ⊎ IfSome (eager_sent (by_send v receiver tag ctx how line body)) (IsEager (sends v'.events to)) →
      IsEmitted bodies v' to left
  send_go receiver sent going eager =
      put_go both is sent.own (omega arith) sent.happens eager refl
      (cond (is_ask how) (asked_of receiver) v.sending.offers)
      sent.offers going

  -- a send to another rank
  send_elsewhere : (receiver : ℕ) → IsSend bodies v v' receiver tag ctx line how body →
      (receiver == to) ≡ false → IsEmitted bodies v' to left
  send_elsewhere receiver sent other = send_go receiver sent (by (is_ask how)) (inl (rw other refl)) where
    by : (b : Bool) → Going bodies v v' to (cond b (asked_of receiver) v.sending.offers)
    by true =
        other_goes (happening is sent.own sent.happens) receiver
        (with_asked (destined v.sending.offers receiver) (length (sends v.events receiver)) body) other
    by false = stay (happening is sent.own sent.happens)

  -- a send to this rank
  module _ (sent : IsSend bodies v v' to tag ctx line how body)
      (right : AreRight v.sizes.ranks [] v.events) where
    none : sent_in (sends v.events to) (length (sends v.events to)) ≡ None
    none =
        none_next 0 (length (sends v.events to)) (sends v.events to)
        (sends_numbered v.sizes.ranks to v.events (right-numbers v.sizes.ranks v.events right))
        (omega arith)

    found : sent_in (sends v'.events to) (length (sends v.events to))
        ≡ Some (next_send v to tag ctx how line body)
    found =
        let s : Sent = next_send v to tag ctx how line body in
        ap (λ (ss : List Sent). sent_in ss (length (sends v.events to)))
        (ap (λ (h : List Event). sends h to) sent.happens.events ∙ sends-append v.events (events_of to) to
        ∙ ap (λ (b : Bool). sends v.events to ++ cond b (s ∷ []) []) (self_true to))
        ∙ find-append (λ (s : Sent). s.n == length (sends v.events to)) (sends v.events to) (s ∷ [])
        ∙ ap (λ (o : Option Sent). option_or o (sent_in (s ∷ []) (length (sends v.events to)))) none
        ∙ ap (λ (b : Bool). cond b (Some s) None) (self_true (length (sends v.events to)))

    goes : (b : Bool) → is_ask how ≡ b → Going bodies v v' to (cond b (asked_of to) v.sending.offers)
    goes false eager = stay (happening is sent.own sent.happens)
    goes true asks =
        asked_goes (happening is sent.own sent.happens) (length (sends v.events to)) body
        (record {
          s = next_send v to tag ctx how line body;
          sent = found;
          asked = asks;
          bytes = sym sent.bytes;
          len = refl;
        })
        (not_among (length (sends v.events to)) (sends v.events to) (cleared_to v.sending to) none
        is.pieces.offered.sent)

    leaves_with : (h : How) → how ≡ h →
        IfSome (eager_sent (by_send v to tag ctx h line body)) (IsEager (sends v'.events to))
    leaves_with Ask asks = tt
    leaves_with Eager eager =
        subst (λ (o : Option Sent). IsSomeAnd o (λ s. is_ask s.how ≡ false)) (sym found) (ap is_ask eager)

    send_here : IsEmitted bodies v' to left
    send_here = send_go to sent (goes (is_ask how) refl) (inr (leaves_with how refl))

-- by a send nothing leaves
pub sends_go : OfBoth → (bodies : Sent → List ℕ) (v v' : RankView) (to receiver tag ctx line : ℕ)
    (how : How) (body : Body) (left : Emitted) → AreRight v.sizes.ranks [] v.events →
    IsSend bodies v v' receiver tag ctx line how body →
    IsEmitted bodies v to left → IsEmitted bodies v' to left
sends_go both bodies v v' to receiver tag ctx line how body left right sent is =
    by (receiver == to) refl
  where
    by : (b : Bool) → (receiver == to) ≡ b → IsEmitted bodies v' to left
    by true same =
        send_here both bodies v v' to left is tag ctx line how body
        (subst (λ (t : ℕ). IsSend bodies v v' t tag ctx line how body) (same_number receiver to same) sent)
        right
    by false other =
        send_elsewhere both bodies v v' to left is tag ctx line how body receiver sent other
