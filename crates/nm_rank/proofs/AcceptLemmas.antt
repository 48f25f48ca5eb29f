-- What a packet that continues its stream does to the messages.
use Rattle.std.proofs.Common.{◌≡◌, ℕ, ◌+◌, ◌<◌, Bool, true, false, List, [], ◌∷◌, ◌++◌, length, refl, sym, ◌∙◌, ap}
use Rattle.std.proofs.Common.{subst, append-nil, arith}
use Rattle.std.specs.Prelude.{map, filter, not, if◌then◌else◌, ◌==◌, ◌&&◌, nat_lt, slice_index_or}
use Rattle.std.specs.Prelude.{IsTrue, Result, Ok, Err, OnOk}
use Rattle.std.specs.List.{AllByRecursion}
use Rattle.std.proofs.lemmas.List.{get_or-set_other}
use Rattle.nm_types.specs.declared.limits.TheConstants.{MAX_PACKETS}
use Rattle.nm_types.specs.declared.lists.Memory.{Memory}
use Rattle.nm_types.specs.declared.packets.Packet.{Packet}
use Rattle.nm_types.specs.declared.packets.What.{What}
use Rattle.nm_types.specs.declared.packets.What.TheVariants as what
use Rattle.nm_history.specs.declared.events.Event.{Event}
use Rattle.nm_history.specs.declared.events.Happened.{Happened}
use Rattle.nm_history.specs.declared.events.Happened.TheVariants as event
use Rattle.nm_history.specs.Happens.{happened, is_arrival, is_recall, is_undone, is_withdraw}
use Rattle.nm_history.specs.Matching.{is_free_message, matched_pairs}
use Rattle.nm_history.specs.Sends.{is_ask}
use Rattle.nm_history.specs.Continues.{continues_answer, continues_stream, has, is_of_stream, WORN_STAMP}
use Rattle.nm_history.specs.Effects.{happenings, packet_events, whole_if, is_empty_send}
use Rattle.nm_history.specs.Known.{Known, learned}
use Rattle.nm_history.specs.Rules.{AreRight}
use Rattle.nm_history.proofs.Basic.{self_true}
use Rattle.nm_eager.specs.Streams.{Stream, missing, nothing_came, is_kept, after}
use Rattle.nm_eager.specs.Streams.{continues as continues_message}
use Rattle.nm_rndv.specs.Offers.{Offering, destined, with_answer, with_clearance, with_destined}
use Rattle.nm_sending.specs.Departures.{SendingView}
use Rattle.nm_sending.specs.Sent.{AreSent, Preserves, MayBeAnswered, is_of_sending}
use Rattle.nm_sending.proofs.TurnLemmas.{numbers_to}
use Rattle.nm_receiving.specs.Calls.{MayBeTakenIn, TakesMessagePacket}
use Rattle.nm_receiving.specs.Receipts.{AddsBytes, ReceivingView, came_of, of_eager, stream_of}
use Rattle.nm_receiving.specs.Received.{AreReceived, PreservesSender, is_of_receiving}
use Rattle.nm_rank.specs.Calls.{offers_by}
use Rattle.nm_rank.specs.Fields.{endings}
use Rattle.nm_rank.specs.Takes.{Accepts, MayBeAccepted}
use Rattle.nm_rank.proofs.LeaveLemmas.{StaysSent, StaysReceived}
use Rattle.nm_types.proofs.NumberLemmas.{unequal}
use Rattle.nm_types.proofs.ListLemmas.{all_append}
use Rattle.nm_types.proofs.TruthLemmas.{neither, and_right}

-- what holds of all that happened holds of the events
pub each-event : (P : Happened → Type 0) (events : List Event) → AllByRecursion P (happenings events)
    → AllByRecursion (λ (e : Event). P e.what) events
each-event P [] a = tt
each-event P (e ∷ events) a = (a.0, each-event P events a.1)

pub each-as : (P : Happened → Type 0) (events : List Event) (ws : List Happened)
    → happenings events ≡ ws → AllByRecursion P ws
    → AllByRecursion (λ (e : Event). P e.what) events
each-as P events ws e a = each-event P events (subst (AllByRecursion P) (sym e) a)

abbrev NotSent : Happened → Type 0
NotSent w = is_of_sending w ≡ false

abbrev NotReceived : Happened → Type 0
NotReceived w = is_of_receiving w ≡ false

whole-not : (b : Bool) (from n : ℕ) → AllByRecursion NotSent (whole_if b from n)
whole-not true from n = (refl, tt)
whole-not false from n = tt

not_kept : {A : Type 0} → false ≡ true → A
not_kept e = absurd (unlike e) where
  unlike : false ≡ true → ⊥
  unlike e = cc

-- what a packet of a message makes happen is no event of a rank's own messages
kept-none : (known : Known) (h : List Event) (from : ℕ) (w : What) (size : ℕ) → is_kept w ≡ true
    → AllByRecursion NotSent (packet_events known h from w size)
kept-none known h from (what.Head tag ctx len) size e = (
  refl,
  all_append NotSent (whole_if (len == size) from known.count) []
      (whole-not (len == size) from known.count) tt,
)
kept-none known h from (what.More n) size e =
    all_append NotSent (whole_if (known.missing == size) from n) []
    (whole-not (known.missing == size) from n) tt
kept-none known h from (what.Ask tag ctx len) size e = (refl, whole-not _ from known.count)
kept-none known h from (what.Clear n) size e = not_kept e
kept-none known h from (what.Withdraw n) size e = not_kept e
kept-none known h from (what.Withdrawn n done) size e = not_kept e

kept-cleared : (known : Known) (w : What) (size : ℕ) → is_kept w ≡ true
    → (learned known w size).cleared ≡ known.cleared
kept-cleared known (what.Head tag ctx len) size e = refl
kept-cleared known (what.More n) size e = refl
kept-cleared known (what.Ask tag ctx len) size e = refl
kept-cleared known (what.Clear n) size e = not_kept e
kept-cleared known (what.Withdraw n) size e = not_kept e
kept-cleared known (what.Withdrawn n done) size e = not_kept e

-- a packet of a message changes nothing of the messages that this rank asked for
kept-offers : (v : Offering) (from : ℕ) (w : What) → is_kept w ≡ true → v ≡ offers_by v from w
kept-offers v from (what.Head tag ctx len) e = refl
kept-offers v from (what.More n) e = refl
kept-offers v from (what.Ask tag ctx len) e = refl
kept-offers v from (what.Clear n) e = not_kept e
kept-offers v from (what.Withdraw n) e = not_kept e
kept-offers v from (what.Withdrawn n done) e = not_kept e

-- no bytes are added where none are carried
adds-none : (from : ℕ) (r r' : ReceivingView) → r'.streams ≡ r.streams → r'.grants ≡ r.grants
    → AddsBytes (of_eager from (λ n. [])) r r'
adds-none from r r' streams grants a = by_test (a.env.from == from && not (is_ask a.env.how)) where
  same : came_of r' a ≡ came_of r a
  same = rw (streams, grants) refl

  by_test : (b : Bool) → came_of r' a ≡ came_of r a ++ (if b then [] else [])
  by_test true = same ∙ sym (append-nil (came_of r a))
  by_test false = same ∙ sym (append-nil (came_of r a))

pub accepts-take : (p : Packet) (s : SendingView) (r r' : ReceivingView) → is_kept p.what ≡ true
    → TakesMessagePacket p r r'
    → ((known : Known) → known.count ≡ (stream_of r p.from).count →
    known.missing ≡ missing (stream_of r p.from) →
    PreservesSender r' p.from (learned known p.what (length p.payload)))
    → StaysSent
    → Accepts p s s r r'
accepts-take p s r r' kept took follows stays = record {
  kept = λ h events known agrees t cont is sent received right.
      (let g = took.kept h events known t.told.count t.told.lacks is received right in (
        stays s h events
            (each-as NotSent events (packet_events known h p.from p.what (length p.payload)) is
            (kept-none known h p.from p.what (length p.payload) kept)) sent,
        g.0,
        g.1,
      ));
  tells = λ h known t cont. (let f = follows known t.told.count t.told.lacks in record {
    told = f;
    cleared = kept-cleared known p.what (length p.payload) kept ∙ t.cleared;
  });
  others = λ other known ne t. (let same : stream_of r' other ≡ stream_of r other =
      ap (λ (xs : List Stream). slice_index_or xs other nothing_came) took.streams
      ∙ get_or-set_other r.streams p.from other (after (stream_of r p.from) p.what p.payload) nothing_came ne in
      record {
        told = record {
          count = t.told.count ∙ sym (ap (λ (x : Stream). x.count) same);
          lacks = t.told.lacks
              ∙ sym (ap missing same);
        };
        cleared = t.cleared;
      });
  outbox = refl;
  staying = λ h known sent cont. omega arith;
  fewer = omega arith;
  offers = kept-offers s.offers p.from p.what kept;
  pushed = refl;
  bytes = took.bytes;
  sizes = took.sizes;
  drawn = took.drawn;
  ended = took.ended;
}

-- a test of a list's first element, under a map
first-test : (b : Bool) (m : ℕ × ℕ) (rest short : List (ℕ × ℕ)) (more : List ℕ)
    → map (λ (x : ℕ × ℕ). x.1) rest ≡ map (λ (x : ℕ × ℕ). x.1) short ++ more
    → map (λ (x : ℕ × ℕ). x.1) (if b then m ∷ rest else rest)
    ≡ map (λ (x : ℕ × ℕ). x.1) (if b then m ∷ short else short) ++ more
first-test true m rest short more e = ap (λ (k : List ℕ). m.1 ∷ k) e
first-test false m rest short more e = e

one-test : (b : Bool) (from n : ℕ)
    → map (λ (x : ℕ × ℕ). x.1) (if b then (from, n) ∷ [] else []) ≡ (if b then n ∷ [] else [])
one-test true from n = refl
one-test false from n = refl

cleared-more : (to from n : ℕ) (order : List (ℕ × ℕ))
    → numbers_to to (order ++ (from, n) ∷ [])
    ≡ numbers_to to order ++ (if from == to then n ∷ [] else [])
cleared-more to from n [] = one-test (from == to) from n
cleared-more to from n (m ∷ order) = first-test (m.0 == to) m
    (filter (λ (x : ℕ × ℕ). x.0 == to) (order ++ (from, n) ∷ []))
    (filter (λ (x : ℕ × ℕ). x.0 == to) order) (if from == to then n ∷ [] else [])
    (cleared-more to from n order)

-- what a call that may be refused gives where it isn't
pub accepts-ok : (res : Result Bool Memory) (p : Packet) (s : SendingView) (r r' : ReceivingView)
    → is_kept p.what ≡ true
    → OnOk res (TakesMessagePacket p r r')
    → OnOk res ((known : Known) → known.count ≡ (stream_of r p.from).count →
    known.missing ≡ missing (stream_of r p.from) →
    PreservesSender r' p.from (learned known p.what (length p.payload)))
    → StaysSent
    → OnOk res (Accepts p s s r r')
accepts-ok (Ok b) p s r r' kept took follows stays = accepts-take p s r r' kept took follows stays
accepts-ok (Err m) p s r r' kept took follows stays = tt

-- a packet of a message that continues, by what is known, continues what came of its sender's messages
kept-continues : (eager : ℕ) (known : Known) (h : List Event) (from : ℕ) (w : What) (size : ℕ) (fresh : Bool)
    → is_kept w ≡ true
    → (fresh
    && (if is_of_stream w then continues_stream eager known w size else continues_answer known h from w size))
    ≡ true
    → continues_message eager known.count known.missing w size ≡ true
kept-continues eager known h from (what.Head tag ctx len) size fresh e c = and_right fresh _ c
kept-continues eager known h from (what.More n) size fresh e c = and_right fresh _ c
kept-continues eager known h from (what.Ask tag ctx len) size fresh e c = and_right fresh _ c
kept-continues eager known h from (what.Clear n) size fresh e c = not_kept e
kept-continues eager known h from (what.Withdraw n) size fresh e c = not_kept e
kept-continues eager known h from (what.Withdrawn n done) size fresh e c = not_kept e

-- so it may be taken
pub may-take : (s : SendingView) (r : ReceivingView) (p : Packet) → MayBeAccepted s r p → is_kept p.what ≡ true
    → MayBeTakenIn r p
may-take s r p may kept =
    let told = may.tells.told in
    record {
      sender = may.sender;
      kind = kept;
      continued = subst (λ (n : ℕ). continues_message r.sizes.eager n (missing (stream_of r p.from)) p.what
          (length p.payload) ≡ true) told.count
          (subst (λ (n : ℕ). continues_message r.sizes.eager may.known.count n p.what (length p.payload) ≡ true)
          told.lacks
          (kept-continues r.sizes.eager may.known may.history p.from p.what (length p.payload)
          (nat_lt p.stamp WORN_STAMP) kept may.continued));
      few = subst (λ (n : ℕ). n < MAX_PACKETS) told.count may.few;
    }

-- what a clearance makes happen
clear-none : (b : Bool) (from n : ℕ)
    → AllByRecursion NotReceived (if b then event.Out from n ∷ [] else [])
clear-none true from n = (refl, tt)
clear-none false from n = tt

clear-length : (b : Bool) (from n : ℕ)
    → length ((if b then event.Out from n ∷ [] else []) ++ []) ≡ (if b then 1 else 0)
clear-length true from n = refl
clear-length false from n = refl

pub accepts-clear : (p : Packet) (n : ℕ) (s s' : SendingView) (r : ReceivingView) (b : Bool)
    → p.what ≡ what.Clear n
    → ((h : List Event) → AreSent s h → b ≡ is_empty_send h p.from n)
    → Preserves s s' (if b then event.Out p.from n ∷ [] else [])
    → s'.offers ≡ with_clearance s.offers p.from n
    → s.staying ≡ s'.staying + (if b then 1 else 0) → s'.outbox ≡ s.outbox → s'.pushed ≡ s.pushed
    → StaysReceived
    → Accepts p s s' r r
accepts-clear p n s s' r b e value kept cleared counted outbox pushed stays =
    let order : s'.offers.order ≡ s.offers.order ++ (p.from, n) ∷ [] =
    ap (λ (o : Offering). o.order) cleared in
    record {
      kept = λ h events known agrees t cont is sent received right.
          (let made : happenings events ≡ (if b then event.Out p.from n ∷ [] else []) =
          (rw (e, ← value h sent) at is) ∙ append-nil (if b then event.Out p.from n ∷ [] else []) in
          let g = kept h events made sent in (
            g.0,
            stays r h events (each-as NotReceived events (if b then event.Out p.from n ∷ [] else []) made
                (clear-none b p.from n)) received,
            g.1 r.sizes.ranks,
          ));
      tells = λ h known t cont. rw e (record {
        told = record { count = t.told.count; lacks = t.told.lacks };
        cleared = ap (λ (k : List ℕ). k ++ n ∷ []) t.cleared
            ∙ sym (ap (numbers_to p.from) order ∙ cleared-more p.from p.from n s.offers.order
            ∙ ap (λ (x : Bool). numbers_to p.from s.offers.order ++ (if x then n ∷ [] else []))
            (self_true p.from));
      });
      others = λ other known ne t. (record {
        told = record { count = t.told.count; lacks = t.told.lacks };
        cleared = t.cleared ∙ sym (ap (numbers_to other) order ∙ cleared-more other p.from n s.offers.order
            ∙ ap (λ (x : Bool). numbers_to other s.offers.order ++ (if x then n ∷ [] else []))
            (unequal p.from other (λ same. ne (sym same)))
            ∙ append-nil (numbers_to other s.offers.order));
      });
      outbox = outbox;
      staying = λ h known sent cont. rw (e, ← value h sent, clear-length b p.from n) (omega arith);
      fewer = omega arith;
      offers = rw e cleared;
      pushed = pushed;
      bytes = λ known count. rw e (adds-none p.from r r refl refl);
      sizes = refl;
      drawn = refl;
      ended = refl;
    }

third : (a b x c : Bool) → (a && b && not x && c) ≡ true → x ≡ false
third a b false c e = refl
third true true true c e = not_kept e
third true false true c e = not_kept e
third false true true c e = not_kept e
third false false true c e = not_kept e

three : (a x y c : Bool) → (a && not x && not y && c) ≡ true
    → (a ≡ true) × (x ≡ false) × (y ≡ false)
three true false false c e = (refl, refl, refl)
three true false true c e = not_kept e
three true true false c e = not_kept e
three true true true c e = not_kept e
three false false false c e = not_kept e
three false false true c e = not_kept e
three false true false c e = not_kept e
three false true true c e = not_kept e

-- one event, by what happened
one-event : (events : List Event) (w : Happened) → happenings events ≡ w ∷ []
    → (e : Event) × (events ≡ e ∷ []) × (e.what ≡ w)
one-event [] w e = absurd (no_event w e) where
  no_event : (w : Happened) → happenings [] ≡ w ∷ [] → ⊥
  no_event w e = cc
one-event (x ∷ []) w e = (x, refl, same x w e) where
  same : (x : Event) (w : Happened) → happenings (x ∷ []) ≡ w ∷ [] → x.what ≡ w
  same x w e = cc
one-event (x ∷ y ∷ events) w e = absurd (too_many x y events w e) where
  too_many : (x y : Event) (events : List Event) (w : Happened)
      → happenings (x ∷ y ∷ events) ≡ w ∷ [] → ⊥
  too_many x y events w e = cc

-- a withdrawal may come where it is the first of its message, which came
right-withdraw : (ranks from n : ℕ) (done : Bool) (h events : List Event)
    → happenings events ≡ event.Withdraw from n done ∷ []
    → happened (is_withdraw from n true) h ≡ false → happened (is_withdraw from n false) h ≡ false
    → IsTrue (happened (is_arrival from n) h)
    → done ≡ is_free_message h (matched_pairs h) from n
    → AreRight ranks h events
right-withdraw ranks from n done h events made none late came free =
    let o = one-event events (event.Withdraw from n done) made in
    rw o.1 (
      rw o.2 (record {
        numbers = tt;
        matches = tt;
        claims = tt;
        cancels = tt;
        wholes = tt;
        ends = (none, late, came, free);
      }),
      tt,
    )

pub accepts-withdraw : (p : Packet) (n : ℕ) (s : SendingView) (r r' : ReceivingView) (b : Bool)
    → p.what ≡ what.Withdraw n
    → ((h : List Event) → AreReceived r h → b ≡ is_free_message h (matched_pairs h) p.from n)
    → ((h events : List Event) → happenings events ≡ event.Withdraw p.from n b ∷ []
    → AreReceived r h → AreReceived r' (h ++ events))
    → ((h : List Event) → AreReceived r h → IsTrue (happened (is_arrival p.from n) h))
    → r' ≡ record r { deeds = r'.deeds }
    → StaysSent
    → Accepts p s s r r'
accepts-withdraw p n s r r' b e value kept arrived same stays =
    let streams : r'.streams ≡ r.streams = ap (λ (u : ReceivingView). u.streams) same in
    record {
      kept = λ h events known agrees t cont is sent received right.
          (let made : happenings events ≡ event.Withdraw p.from n b ∷ [] = rw (e, ← value h received) at is in
          let new : has known.withdrawn n ≡ false =
          third (known.missing == 0) (nat_lt n known.count) (has known.withdrawn n) (length p.payload == 0)
          (and_right (nat_lt p.stamp WORN_STAMP) _ (rw e at cont)) in
          let none = neither (happened (is_withdraw p.from n true) h) (happened (is_withdraw p.from n false) h)
          (sym (agrees.withdrawn n) ∙ new) in (
            stays s h events (each-as NotSent events (event.Withdraw p.from n b ∷ []) made (refl, tt)) sent,
            kept h events made received,
            right-withdraw r.sizes.ranks p.from n b h events made none.0 none.1 (arrived h received)
                (value h received),
          ));
      tells = λ h known t cont. rw e (record {
        told = record {
          count = t.told.count
              ∙ sym (ap (λ (xs : List Stream). (slice_index_or xs p.from nothing_came).count) streams);
          lacks =
              t.told.lacks ∙ sym (ap (λ (xs : List Stream). missing (slice_index_or xs p.from nothing_came)) streams);
        };
        cleared = t.cleared;
      });
      others = λ other known ne t. (record {
        told = record {
          count = t.told.count
              ∙ sym (ap (λ (xs : List Stream). (slice_index_or xs other nothing_came).count) streams);
          lacks =
              t.told.lacks ∙ sym (ap (λ (xs : List Stream). missing (slice_index_or xs other nothing_came)) streams);
        };
        cleared = t.cleared;
      });
      outbox = refl;
      staying = λ h known sent cont. omega arith;
      fewer = omega arith;
      offers = rw e refl;
      pushed = refl;
      bytes = λ known count. rw e (adds-none p.from r r' streams
          (ap (λ (u : ReceivingView). u.grants) same));
      sizes = ap (λ (u : ReceivingView). u.sizes) same;
      drawn = ap (λ (u : ReceivingView). u.drawn) same;
      ended = ap (λ (u : ReceivingView). endings u) same;
    }

-- the answer to a recall may come
pub may-undo : (s : SendingView) (r : ReceivingView) (p : Packet) (n : ℕ) (done : Bool)
    → p.what ≡ what.Withdrawn n done → MayBeAccepted s r p → MayBeAnswered s p.from n done
may-undo s r p n done e m =
    let x = three (happened (is_recall p.from n) m.history) (has m.known.answered n)
    (done && has m.known.cleared n) (length p.payload == 0)
    (and_right (nat_lt p.stamp WORN_STAMP) _ (rw e at m.continued)) in
    let none = neither (happened (is_undone p.from n true) m.history)
    (happened (is_undone p.from n false) m.history) (sym (m.agrees.answered n) ∙ x.1) in
    record {
      history = m.history;
      messages = m.sent;
      recalled = x.0;
      no_answer = either_answer none.0 none.1;
      uncleared = ap (λ (k : List ℕ). done && has k n) (sym m.tells.cleared) ∙ x.2;
    } where
      either_answer : happened (is_undone p.from n true) m.history ≡ false
          → happened (is_undone p.from n false) m.history ≡ false
          → (other : Bool) → happened (is_undone p.from n other) m.history ≡ false
      either_answer t f true = t
      either_answer t f false = f

pub accepts-undo : (p : Packet) (n : ℕ) (done : Bool) (s s' : SendingView) (r : ReceivingView)
    → p.what ≡ what.Withdrawn n done
    → Preserves s s' (event.Undone p.from n done ∷ [])
    → s'.staying ≡ s.staying
    → s'.offers ≡ with_destined s.offers p.from (with_answer (destined s.offers p.from) n done)
    → s'.outbox ≡ s.outbox → s'.pushed ≡ s.pushed
    → StaysReceived
    → Accepts p s s' r r
accepts-undo p n done s s' r e kept counted answered outbox pushed stays = record {
  kept = λ h events known agrees t cont is sent received right.
      (let made : happenings events ≡ event.Undone p.from n done ∷ [] = rw e at is in
      let g = kept h events made sent in (
        g.0,
        stays r h events (each-as NotReceived events (event.Undone p.from n done ∷ []) made (refl, tt))
            received,
        g.1 r.sizes.ranks,
      ));
  tells = λ h known t cont. rw e (record {
    told = record { count = t.told.count; lacks = t.told.lacks };
    cleared = t.cleared ∙ sym (ap (λ (o : Offering). numbers_to p.from o.order) answered);
  });
  others = λ other known ne t. (record {
    told = record { count = t.told.count; lacks = t.told.lacks };
    cleared = t.cleared ∙ sym (ap (λ (o : Offering). numbers_to other o.order) answered);
  });
  outbox = outbox;
  staying = λ h known sent cont. omega arith;
  fewer = omega arith;
  offers = rw e answered;
  pushed = pushed;
  bytes = λ known count. rw e (adds-none p.from r r refl refl);
  sizes = refl;
  drawn = refl;
  ended = refl;
}
