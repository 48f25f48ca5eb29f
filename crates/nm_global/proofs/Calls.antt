-- Calls of a rank by which nothing leaves.
use Rattle.std.proofs.Common.{◌≡◌, ◌≤◌, ℕ, ◌⊎◌, inr, arith, Bool, true, false, cond, Option}
use Rattle.std.proofs.Common.{None, Some, List, [], ◌∷◌, ◌++◌, refl, sym, ap, subst}
use Rattle.std.proofs.Common.{IfSome}
use Rattle.std.specs.List.{AllByRecursion}
use Rattle.nm_types.specs.declared.messages.Arrival.{Arrival}
use Rattle.nm_history.specs.declared.events.Happened.{Happened}
use Rattle.nm_history.specs.declared.events.Happened.TheVariants as event
use Rattle.nm_history.specs.AtEach.{in_turn_after}
use Rattle.nm_history.specs.Happens.{happened, is_recall}
use Rattle.nm_history.specs.Sends.{Sent, sends}
use Rattle.nm_history.specs.Clock.{stamped}
use Rattle.nm_history.specs.Effects.{whole_if}
use Rattle.nm_rndv.specs.Offers.{Offering, destined, with_destined, with_recall}
use Rattle.nm_request.specs.declared.Kind.{Kind}
use Rattle.nm_request.specs.declared.Kind.TheVariants as kind
use Rattle.nm_sending.specs.Departures.{SendingView, ends_to}
use Rattle.nm_sending.specs.Sent.{is_of_sending}
use Rattle.nm_receiving.specs.Receipts.{is_empty_ask, taken_events}
use Rattle.nm_rank.specs.Calls.{Happens, eager_sent}
use Rattle.nm_rank.specs.Calls.{called_by}
use Rattle.nm_rank.specs.Ranks.{RankView}
use Rattle.nm_rank.specs.Requests.{cancel_events, offers_cancelled}
use Rattle.nm_global.specs.Emitted.{IsEager, IsEmitted, Emitted}
use Rattle.nm_global.proofs.Packets.{OfBoth, is_silent, outgoing_same, packets_happen, packets_stay}
use Rattle.nm_global.proofs.Destinations.{Going, Grows, recall_goes, stay}
use Rattle.nm_global.proofs.Pieces.{eager_still, ends_put, is_leave, no_pieces, pieces_at}
use Rattle.nm_global.proofs.Pieces.{pieces_go}
use Rattle.nm_global.proofs.Pieces.{same_pushed}
use Rattle.nm_types.proofs.ListLemmas.{all_along}

-- the history of a rank grows by what happens
abbrev pub happening : {bodies : Sent → List ℕ} {start : ℕ} {ws : List Happened} {v v' : RankView} {to : ℕ}
    {left : Emitted} → IsEmitted bodies v to left → v'.me ≡ v.me → Happens bodies start ws v v' →
    Grows bodies v v' to left.pieces
happening {bodies} {start} {ws} is own happens =
    record { are = is.pieces; own = own; more = stamped start ws; events = happens.events }

-- what happens puts the packets that it calls for, and no piece leaves
pub put_go : OfBoth → {bodies : Sent → List ℕ} {start : ℕ} {ws : List Happened} {v v' : RankView}
    {to : ℕ} {left : Emitted} → IsEmitted bodies v to left → v'.me ≡ v.me → v.clock ≤ start →
    Happens bodies start ws v v' →
    (called_by bodies to v.events (stamped start ws) ≡ [])
    ⊎ IfSome (eager_sent ws) (IsEager (sends v'.events to)) →
    in_turn_after (pieces_at bodies to) v.events (stamped start ws) ≡ [] →
    (o' : Offering) → v'.sending.offers ≡ o' → Going bodies v v' to o' → IsEmitted bodies v' to left
put_go both {bodies} {start} {ws} {v} {v'} {to} is own later happens eager quiet o' same going =
    let g = happening is own happens in
    record {
      packets = packets_happen both own later happens is.packets;
      pieces = pieces_go g quiet (same_pushed v v' to happens.pushed) o' same going
          (ends_put (IsEager (sends v'.events to)) to happens.packets eager
          (eager_still g (ends_to to v.sending.outbox.letters) is.pieces.eager));
    }

-- where what happens sends no eager message
pub happens_go : OfBoth → {bodies : Sent → List ℕ} {start : ℕ} {ws : List Happened} {v v' : RankView}
    {to : ℕ} {left : Emitted} → IsEmitted bodies v to left → v'.me ≡ v.me → v.clock ≤ start →
    Happens bodies start ws v v' →
    eager_sent ws ≡ None → in_turn_after (pieces_at bodies to) v.events (stamped start ws) ≡ [] →
    (o' : Offering) → v'.sending.offers ≡ o' → Going bodies v v' to o' → IsEmitted bodies v' to left
happens_go both {v' = v'} {to = to} is own later happens none quiet o' same going =
    put_go both is own later happens
    (inr (subst (λ (o : Option ℕ). IfSome o (IsEager (sends v'.events to))) (sym none) tt)) quiet o' same
    going

-- where what happens calls for nothing, and the sending side is the same, what left is the same
pub same_go : {bodies : Sent → List ℕ} {v v' : RankView} {to : ℕ} {left : Emitted}
    → IsEmitted bodies v to left → v'.me ≡ v.me → v.clock ≤ v'.clock → (clock : ℕ) (ws : List Happened) →
    v'.events ≡ v.events ++ stamped clock ws → AllByRecursion (λ w. is_silent w ≡ true) ws →
    AllByRecursion (λ w. is_leave to w ≡ false) ws → v'.sending ≡ v.sending → IsEmitted bodies v' to left
same_go {bodies} {v} {v'} {to} {left} is own later clock ws grown silent quiet same =
    let g : Grows bodies v v' to left.pieces =
    record { are = is.pieces; own = own; more = stamped clock ws; events = grown } in
    record {
      packets = packets_stay bodies v v' to left.packets own later
          (outgoing_same bodies to v.events v'.events clock ws grown silent)
          (ap (λ (s : SendingView). s.outbox) same) is.packets;
      pieces = pieces_go g (no_pieces bodies to v.events clock ws quiet)
          (same_pushed v v' to (ap (λ (s : SendingView). s.pushed) same)) v.sending.offers
          (ap (λ (s : SendingView). s.offers) same) (stay g)
          (subst (λ (s : SendingView). AllByRecursion (IsEager (sends v'.events to))
          (ends_to to s.outbox.letters)) (sym same)
          (eager_still g (ends_to to v.sending.outbox.letters) is.pieces.eager));
    }

-- events that are none of a rank's own messages
pub no_own_leave : (to : ℕ) (ws : List Happened) → AllByRecursion (λ w. is_of_sending w ≡ false) ws →
    AllByRecursion (λ w. is_leave to w ≡ false) ws
no_own_leave to ws each =
    all_along (λ w. is_of_sending w ≡ false) (λ w. is_leave to w ≡ false) ws one each
  where
    one : (w : Happened) → is_of_sending w ≡ false → is_leave to w ≡ false
    one (event.Out to' n) is = cc
    one w is = refl

-- a message is sent by the event
abbrev pub is_sending : Happened → Bool
is_sending (event.Send to n tag ctx len how line) = true
is_sending _ = false

pub none_sent : (ws : List Happened) → AllByRecursion (λ w. is_sending w ≡ false) ws → eager_sent ws ≡ None
none_sent [] each = refl
none_sent (event.Send to n tag ctx len how line ∷ ws) each = cc
none_sent (w ∷ ws) each = none_sent ws each.1

pub no_own_sent : (ws : List Happened) → AllByRecursion (λ w. is_of_sending w ≡ false) ws →
    eager_sent ws ≡ None
no_own_sent ws each =
    none_sent ws (all_along (λ w. is_of_sending w ≡ false) (λ w. is_sending w ≡ false) ws one each)
  where
    one : (w : Happened) → is_of_sending w ≡ false → is_sending w ≡ false
    one (event.Send to n tag ctx len how line) is = cc
    one w is = refl

-- a message that is here is none of a rank's own
pub whole_other : (b : Bool) (from n : ℕ) → AllByRecursion (λ w. is_of_sending w ≡ false) (whole_if b from n)
whole_other true from n = (refl, tt)
whole_other false from n = tt

-- nor is one that a receive takes
pub taken_other : (taken : Option Arrival) → AllByRecursion (λ w. is_of_sending w ≡ false) (taken_events taken)
taken_other None = tt
taken_other (Some a) = whole_other (is_empty_ask a) a.env.from a.n

-- a receive
pub receives_go : OfBoth → {bodies : Sent → List ℕ} {start : ℕ} {v v' : RankView} {to : ℕ}
    {left : Emitted} → IsEmitted bodies v to left → v'.me ≡ v.me → v.clock ≤ start → (ws : List Happened) →
    AllByRecursion (λ w. is_of_sending w ≡ false) ws → Happens bodies start ws v v' →
    v'.sending.offers ≡ v.sending.offers → IsEmitted bodies v' to left
receives_go both {bodies} {start} {v} {v'} {to} is own later ws others happens same =
    happens_go both is own later happens (no_own_sent ws others)
    (no_pieces bodies to v.events start ws (no_own_leave to ws others)) v.sending.offers same
    (stay (happening is own happens))

-- a cancel
pub cancels_go : OfBoth → {bodies : Sent → List ℕ} {v v' : RankView} {to : ℕ} {left : Emitted}
    → IsEmitted bodies v to left → v'.me ≡ v.me → (k : Kind) →
    Happens bodies v.clock (cancel_events v.events k) v v' →
    v'.sending.offers ≡ offers_cancelled v.events k v.sending.offers → IsEmitted bodies v' to left
cancels_go both is own (kind.Receive number) happens same =
    receives_go both is own (omega arith) _ (refl, tt) happens same
cancels_go both {bodies} {v} {v'} {to} {left} is own (kind.Send to' n) happens same =
    by (happened (is_recall to' n) v.events) happens same
  where
    by : (b : Bool) → Happens bodies v.clock (cond b [] (event.Recall to' n ∷ [])) v v' →
        v'.sending.offers ≡ cond b v.sending.offers
        (with_destined v.sending.offers to' (with_recall (destined v.sending.offers to') n)) →
        IsEmitted bodies v' to left
    by true happens same = receives_go both is own (omega arith) [] tt happens same
    by false happens same =
        happens_go both is own (omega arith) happens refl
        (no_pieces bodies to v.events v.clock (event.Recall to' n ∷ []) (refl, tt)) _ same
        (recall_goes (happening is own happens) to' n)
