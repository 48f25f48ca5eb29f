-- What the tables keep, by some history, and how it goes on.
use Rattle.std.proofs.Common.{◌≡◌, ℕ, ◌<◌, ◌==◌, Bool, true, false, not, ◌&&◌, ◌||◌, if◌then◌else◌, get_or, arith}
use Rattle.std.proofs.Common.{Option, Some, None, List, [], ◌∷◌, ◌++◌, length, refl, sym, ◌∙◌, ap, subst}
use Rattle.std.specs.List.{find, list_any, slice_get}
use Rattle.std.specs.Option.{MatchOption, option_map}
use Rattle.std.specs.Prelude.{Result, Ok, Err, IfOk, OnErr}
use Rattle.std.proofs.Math.ListN.{set}
use Rattle.std.proofs.lemmas.Bool.{le-ltb, lt-ltb, or_from}
use Rattle.std.proofs.lemmas.Option.{slice_get-get_or}
use Rattle.nm_types.specs.declared.messages.Arrival.{Arrival}
use Rattle.nm_types.specs.declared.messages.How.TheVariants.{Eager}
use Rattle.nm_types.specs.declared.messages.Peer.{Peer}
use Rattle.nm_types.specs.declared.messages.TagPick.{TagPick}
use Rattle.nm_history.specs.declared.events.Event.{Event}
use Rattle.nm_history.specs.declared.events.Happened.TheVariants.{Cancel, Claim, Withdraw}
use Rattle.nm_history.specs.Happens.{at, happened, is_arrival, is_withdraw}
use Rattle.nm_history.specs.Matching.{first_message, is_free, is_free_message, is_matching, is_of_receive}
use Rattle.nm_history.specs.Matching.{matched_pairs}
use Rattle.nm_history.specs.Selection.{matches}
use Rattle.nm_history.specs.Sends.{arrivals, message_of, messages, post_of, receives}
use Rattle.nm_history.proofs.MatchingLemmas.{matched_pairs-push_other}
use Rattle.nm_history.specs.Rules.{AreRight}
use Rattle.nm_history.proofs.Right.{right-append, right-numbers}
use Rattle.nm_history.proofs.Sent.{happened-append}
use Rattle.nm_match.specs.declared.deeds.Deed.{Deed}
use Rattle.nm_match.specs.declared.deeds.Deed.TheVariants as deed
use Rattle.nm_match.specs.Deeds.{deeds_after, history_of, is_known_message, is_known_receive}
use Rattle.nm_match.proofs.NumberLemmas.{messages_numbered, receives_numbered}
use Rattle.nm_match.proofs.QueueLemmas.{free_means}
use Rattle.nm_match.proofs.StandsLemmas.{first_message-stands, is_free_message-stands, is_known_message-stands}
use Rattle.nm_match.proofs.StandsLemmas.{is_known_receive-stands}
use Rattle.nm_receiving.specs.declared.receipts.Receipt.{Receipt}
use Rattle.nm_receiving.specs.declared.receipts.Receive.{Receive}
use Rattle.nm_receiving.specs.Kept.{AreGrantedFor, TablesAgree, ReceivingInvariant}
use Rattle.nm_receiving.specs.Receipts.{ReceivingView, receipt_of, receipts_from}
use Rattle.nm_receiving.specs.Received.{AreReceived, Preserves}
use Rattle.nm_receiving.specs.Steps.{has_cancelled}
use Rattle.nm_receiving.proofs.Changing.{keeps-cancelled, keeps-claim, keeps-deeds, keeps-late}
use Rattle.nm_receiving.proofs.Coming.{newcomer}
use Rattle.nm_receiving.proofs.Events.{right-one}
use Rattle.nm_receiving.proofs.Facts.{arrived_from, message_name}
use Rattle.nm_receiving.proofs.Grow.{posts_still}
use Rattle.nm_receiving.specs.Receives.{has_ended_at}
use Rattle.nm_receiving.proofs.Overs.{cancelled_ended, complete_later, ended_same}
use Rattle.nm_receiving.proofs.Stood.{with_deeds}
use Rattle.nm_receiving.proofs.TablesMark.{IsLike}
use Rattle.nm_types.proofs.ListLemmas.{find_passes}
use Rattle.nm_types.proofs.TruthLemmas.{and_right}
use Rattle.nm_receiving.proofs.TablesRest.{later_same, later_set, owed-still, tables-receives}

-- a receipt stands at the name of its message
pub names_of : (v : ReceivingView) (h : List Event) → AreReceived v h → (i k : ℕ) (s : Receipt) →
    receipt_of v i k ≡ Some s
    → (s.arrival.env.from ≡ i) × (s.arrival.n ≡ k)
names_of v h received i k s is =
    message_name h i k s.arrival
    (sym (received.messages i k) ∙ ap (λ (o : Option Receipt). option_map (λ m. m.arrival) o) is)

-- the tables afterwards, by the longer history
pub goes_on : (v v' : ReceivingView) (kept : ReceivingInvariant v) (events : List Event) → v'.sizes ≡ v.sizes
    → ((k : ℕ) → has_ended_at v'.receives k ≡ true → has_ended_at v.receives k ≡ true)
    → AreReceived v' (kept.history ++ events) × AreRight v.sizes.ranks kept.history events
    → ((from n : ℕ) → happened (is_withdraw from n false) events ≡ false) → TablesAgree v' (kept.history ++ events)
    → AreGrantedFor v' (kept.history ++ events) → ReceivingInvariant v'
goes_on v v' kept events same ended keeps in_time tables owed = record {
  history = kept.history ++ events;
  received = keeps.0;
  right = subst (λ s. AreRight s.ranks [] (kept.history ++ events)) (sym same)
      (right-append v.sizes.ranks [] kept.history events kept.right keeps.1);
  in_time = λ from n. happened-append (is_withdraw from n false) kept.history events
      ∙ or_from (happened (is_withdraw from n false) kept.history) (happened (is_withdraw from n false) events)
      (kept.in_time from n) (in_time from n);
  tables = tables;
  owed = owed;
  over = λ k is. complete_later kept.history events k (kept.over k (ended k is));
}

-- one event that makes no pair and posts nothing
pub like-push : (h : List Event) (e : Event) → is_matching e.what ≡ false → post_of e.what ≡ None →
    IsLike h (h ++ e ∷ [])
like-push h e silent no_post = record { pairs = matched_pairs-push_other h e silent; posts = posts_still h e no_post }

pub kept-claim : (v : ReceivingView) → ReceivingInvariant v → (from n : ℕ) (deeds : List Deed) →
    deeds ≡ v.deeds ++ deed.Claim from n ∷ []
    → ((h : List Event) → AreReceived v h → is_free_message h (matched_pairs h) from n ≡ true)
    → ReceivingInvariant (with_deeds v deeds)
kept-claim v kept from n deeds done free =
    let e : Event = at 0 (Claim from n 0) in
    goes_on v (with_deeds v deeds) kept (e ∷ []) refl (λ _ is. is)
    (keeps-claim v from n 0 deeds done free kept.history (e ∷ []) refl kept.received kept.right) (λ i k. refl)
    (tables-receives v kept.history (kept.history ++ e ∷ []) deeds v.receives kept.tables
    (like-push kept.history e refl refl) (later_same v.receives))
    (owed-still v (with_deeds v deeds) kept.history (kept.history ++ e ∷ []) refl refl
    (like-push kept.history e refl refl) kept.owed)

-- the message that a probe shows is free
first_free : (v : ReceivingView) (from : Peer) (tag : TagPick) (ctx : ℕ) (a : Arrival)
    → Some a ≡ first_message (history_of v.deeds) (matched_pairs (history_of v.deeds)) from tag ctx
    → (h : List Event) → AreReceived v h → is_free_message h (matched_pairs h) a.env.from a.n ≡ true
first_free v from tag ctx a oldest h received =
    let test : Arrival → Bool = λ b. matches from tag ctx b.env && is_free h (matched_pairs h) b in
    let is : find test (messages h) ≡ Some a =
    first_message-stands v.deeds h received.stands from tag ctx ∙ sym oldest in
    and_right (matches from tag ctx a.env) (is_free h (matched_pairs h) a) (find_passes test (messages h) a is)

module _ {E : Type 0} (v : ReceivingView) (deeds : List Deed) (from : Peer) (tag : TagPick) (ctx : ℕ) where
  -- the claim of the message that a probe shows, or none
  abbrev Claims : Result (Option Arrival) E → Type 0
  Claims r =
      IfOk r (λ t. MatchOption t (deeds ≡ v.deeds) (λ a. deeds ≡ v.deeds ++ deed.Claim a.env.from a.n ∷ []))

  abbrev Oldest : Result (Option Arrival) E → Type 0
  Oldest r =
      IfOk r (λ t. t ≡ first_message (history_of v.deeds) (matched_pairs (history_of v.deeds)) from tag ctx)

  pub kept-claimed : ReceivingInvariant v → (r : Result (Option Arrival) E) → Claims r → Oldest r → OnErr r (deeds ≡ v.deeds)
      → ReceivingInvariant (with_deeds v deeds)
  kept-claimed kept (Ok None) done oldest failed =
      subst (λ (ds : List Deed). ReceivingInvariant (with_deeds v ds)) (sym done) kept
  kept-claimed kept (Ok (Some a)) done oldest failed =
      kept-claim v kept a.env.from a.n deeds done (first_free v from tag ctx a oldest)
  kept-claimed kept (Err e) done oldest failed =
      subst (λ (ds : List Deed). ReceivingInvariant (with_deeds v ds)) (sym failed) kept

  pub claimed-keeps : (r : Result (Option Arrival) E) → Claims r → Oldest r
      → IfOk r (λ t. MatchOption t (with_deeds v deeds ≡ v)
      (λ a. (line : ℕ) → Preserves v (with_deeds v deeds) (Claim a.env.from a.n line ∷ [])))
  claimed-keeps (Ok None) done oldest = ap (λ (ds : List Deed). with_deeds v ds) done
  claimed-keeps (Ok (Some a)) done oldest =
      λ line. keeps-claim v a.env.from a.n line deeds done (first_free v from tag ctx a oldest)
  claimed-keeps (Err e) done oldest = tt

-- a cancel, and one that came too late
pub kept-cancelled : (v : ReceivingView) → ReceivingInvariant v → (number : ℕ) (r : Receive) →
    slice_get v.receives number ≡ Some r → (deeds : List Deed)
    → deeds ≡ deeds_after v.deeds (Cancel number true) →
    true ≡ not (list_any (is_of_receive number) (matched_pairs (history_of v.deeds)))
    → ReceivingInvariant (record v { deeds = deeds; receives = set v.receives number (has_cancelled r) })
kept-cancelled v kept number r here deeds done late =
    let e : Event = at 0 (Cancel number true) in
    let v' : ReceivingView = record v { deeds = deeds; receives = set v.receives number (has_cancelled r) } in
    goes_on v v' kept (e ∷ []) refl
    (ended_same v.receives (set v.receives number (has_cancelled r)) (cancelled_ended v.receives number r here))
    (keeps-cancelled v number r here deeds done late kept.history (e ∷ []) refl kept.received kept.right) (λ i k. refl)
    (tables-receives v kept.history (kept.history ++ e ∷ []) deeds (set v.receives number (has_cancelled r)) kept.tables
    (like-push kept.history e refl refl)
    (later_set v.receives number r (has_cancelled r) here (record { taken = refl; ended = λ live. live }) refl))
    (owed-still v v' kept.history (kept.history ++ e ∷ []) refl refl (like-push kept.history e refl refl) kept.owed)

-- a withdrawal in time
pub kept-withdrawn : (v : ReceivingView) → ReceivingInvariant v → (from n : ℕ) → n < length (receipts_from v from)
    → is_free_message (history_of v.deeds) (matched_pairs (history_of v.deeds)) from n ≡ true
    → ReceivingInvariant (with_deeds v (v.deeds ++ deed.Withdraw from n ∷ []))
kept-withdrawn v kept from n below free =
    let h : List Event = kept.history in
    let e : Event = at 0 (Withdraw from n true) in
    let is_free : is_free_message h (matched_pairs h) from n ≡ true = is_free_message-stands v.deeds h
    kept.received.stands from n ∙ free in
    let parts = free_means h (matched_pairs h) from n is_free in
    let r : Receipt = get_or (receipts_from v from) n (no_receipt from) in
    let here : receipt_of v from n ≡ Some r = slice_get-get_or (receipts_from v from) n (no_receipt from) below in
    let there : message_of h from n ≡ Some r.arrival =
    sym (kept.received.messages from n) ∙ ap (λ (o : Option Receipt). option_map (λ m. m.arrival) o) here in
    let v' : ReceivingView = with_deeds v (v.deeds ++ deed.Withdraw from n ∷ []) in
    goes_on v v' kept (e ∷ []) refl (λ _ is. is) (
      keeps-deeds v (Withdraw from n true) (v.deeds ++ deed.Withdraw from n ∷ []) refl refl refl refl (λ _ _. refl)
          (λ _. refl)
          h (e ∷ []) refl kept.received,
      right-one v.sizes.ranks h e (record {
        numbers = tt;
        matches = tt;
        claims = tt;
        cancels = tt;
        wholes = tt;
        ends = (parts.2, kept.in_time from n, arrived_from h from n r.arrival there, sym is_free);
      }),
    )
    (λ i k. late (from == i) (n == k))
    (tables-receives v h (h ++ e ∷ []) (v.deeds ++ deed.Withdraw from n ∷ []) v.receives kept.tables
    (like-push h e refl refl) (later_same v.receives))
    (owed-still v v' h (h ++ e ∷ []) refl refl (like-push h e refl refl) kept.owed)
  where
    no_receipt : ℕ → Receipt
    no_receipt from = newcomer (record { n = 0; env = record { from = from; tag = 0; ctx = 0; len = 0; how = Eager } })

    late : (a b : Bool) → ((a && b && false) || false) ≡ false
    late true true = refl
    late true false = refl
    late false b = refl

pub kept-withdrawn_if : (v : ReceivingView) → ReceivingInvariant v → (from n : ℕ) → n < length (receipts_from v from) →
    (deeds : List Deed) (done : Bool)
    → done ≡ is_free_message (history_of v.deeds) (matched_pairs (history_of v.deeds)) from n
    → deeds ≡ (if done then v.deeds ++ deed.Withdraw from n ∷ [] else v.deeds) → ReceivingInvariant (with_deeds v deeds)
kept-withdrawn_if v kept from n below deeds true free is =
    subst (λ (ds : List Deed). ReceivingInvariant (with_deeds v ds)) (sym is) (kept-withdrawn v kept from n below (sym free))
kept-withdrawn_if v kept from n below deeds false free is = subst (λ (ds : List Deed). ReceivingInvariant (with_deeds v ds))
    (sym is) kept

-- what is known to the matcher
pub receive_known : (v : ReceivingView) → ReceivingInvariant v → (number : ℕ) → number < length v.receives
    → is_known_receive (history_of v.deeds) number ≡ true
receive_known v kept number below =
    let h : List Event = kept.history in
    let count = kept.received.count in
    sym (is_known_receive-stands v.deeds h kept.received.stands number)
    ∙ receives_numbered v.sizes.ranks h (right-numbers v.sizes.ranks h kept.right) number
    ∙ lt-ltb number (length (receives h)) (omega (arith, count, below))

pub next_receive : (v : ReceivingView) → ReceivingInvariant v → (number : ℕ) → number ≡ length v.receives
    → is_known_receive (history_of v.deeds) number ≡ false
next_receive v kept number next =
    let h : List Event = kept.history in
    let count = kept.received.count in
    sym (is_known_receive-stands v.deeds h kept.received.stands number)
    ∙ receives_numbered v.sizes.ranks h (right-numbers v.sizes.ranks h kept.right) number
    ∙ le-ltb number (length (receives h)) (omega (arith, count, next))

pub message_known : (v : ReceivingView) → ReceivingInvariant v → (from n : ℕ) → n < length (receipts_from v from)
    → is_known_message (history_of v.deeds) from n ≡ true
message_known v kept from n below =
    let h : List Event = kept.history in
    let arrived = kept.received.arrived from in
    sym (is_known_message-stands v.deeds h kept.received.stands from n)
    ∙ messages_numbered v.sizes.ranks h (right-numbers v.sizes.ranks h kept.right) from n
    ∙ lt-ltb n (length (arrivals h from)) (omega (arith, arrived, below))

pub next_message : (v : ReceivingView) → ReceivingInvariant v → (from n : ℕ) → n ≡ length (receipts_from v from)
    → is_known_message (history_of v.deeds) from n ≡ false
next_message v kept from n next =
    let h : List Event = kept.history in
    let arrived = kept.received.arrived from in
    sym (is_known_message-stands v.deeds h kept.received.stands from n)
    ∙ messages_numbered v.sizes.ranks h (right-numbers v.sizes.ranks h kept.right) from n
    ∙ le-ltb n (length (arrivals h from)) (omega (arith, arrived, next))

-- a message below the count came
pub arrived_below : (v : ReceivingView) (h : List Event) → AreReceived v h →
    (from n : ℕ) → n < length (receipts_from v from)
    → happened (is_arrival from n) h ≡ true
arrived_below v h received from n below =
    let d : Receipt = newcomer
    (record { n = 0; env = record { from = from; tag = 0; ctx = 0; len = 0; how = Eager } }) in
    let here = slice_get-get_or (receipts_from v from) n d below in
    arrived_from h from n (get_or (receipts_from v from) n d).arrival
    (sym (received.messages from n) ∙ ap (λ (o : Option Receipt). option_map (λ m. m.arrival) o) here)

-- a cancel by its answer
pub kept-cancel_done : (v : ReceivingView) → ReceivingInvariant v → (number : ℕ) (r : Receive) →
    slice_get v.receives number ≡ Some r → (deeds : List Deed) (done : Bool)
    → done ≡ true → done ≡ not (list_any (is_of_receive number) (matched_pairs (history_of v.deeds)))
    → deeds ≡ deeds_after v.deeds (Cancel number done) →
    ReceivingInvariant (record v { deeds = deeds; receives = set v.receives number (has_cancelled r) })
kept-cancel_done v kept number r here deeds done is late made =
    kept-cancelled v kept number r here deeds
    (subst (λ (b : Bool). deeds ≡ deeds_after v.deeds (Cancel number b)) is made) (sym is ∙ late)

pub keeps-cancel_done : (v : ReceivingView) (number : ℕ) (r : Receive) → slice_get v.receives number ≡ Some r →
    (deeds : List Deed) (done : Bool)
    → done ≡ true → done ≡ not (list_any (is_of_receive number) (matched_pairs (history_of v.deeds)))
    → deeds ≡ deeds_after v.deeds (Cancel number done)
    → Preserves v (record v { deeds = deeds; receives = set v.receives number (has_cancelled r) }) (Cancel number done ∷ [])
keeps-cancel_done v number r here deeds done is late made =
    let v' : ReceivingView = record v { deeds = deeds; receives = set v.receives number (has_cancelled r) } in
    subst (λ (b : Bool). Preserves v v' (Cancel number b ∷ [])) (sym is)
    (keeps-cancelled v number r here deeds
    (subst (λ (b : Bool). deeds ≡ deeds_after v.deeds (Cancel number b)) is made) (sym is ∙ late))

pub keeps-cancel_late : (v : ReceivingView) (number : ℕ) (deeds : List Deed) (done : Bool)
    → done ≡ false → done ≡ not (list_any (is_of_receive number) (matched_pairs (history_of v.deeds)))
    → deeds ≡ deeds_after v.deeds (Cancel number done) → Preserves v (with_deeds v deeds) (Cancel number done ∷ [])
keeps-cancel_late v number deeds done is late made =
    let same : deeds ≡ v.deeds = subst (λ (b : Bool). deeds ≡ deeds_after v.deeds (Cancel number b)) is made in
    subst (λ (ds : List Deed). Preserves v (with_deeds v ds) (Cancel number done ∷ [])) (sym same)
    (subst (λ (b : Bool). Preserves v v (Cancel number b ∷ [])) (sym is) (keeps-late v number (sym is ∙ late)))
