-- Which receive has which message, by their places in a channel.
use Rattle.std.proofs.Common.{◌≡◌, ℕ, ◌==◌, Bool, true, false, ◌&&◌, cond, Option, Some, None, List, [], ◌∷◌}
use Rattle.std.proofs.Common.{length, map, refl, sym, ◌∙◌, ap, subst, arith}
use Rattle.std.specs.Prelude.{take}
use Rattle.std.specs.List.{AllByRecursion, cons_option, filter, filter_map, slice_get}
use Rattle.std.specs.Option.{option_map}
use Rattle.std.proofs.lemmas.Bool.{false≢true}
use Rattle.std.proofs.lemmas.Bool.Decides.{nat_tests}
use Rattle.nm_types.specs.declared.messages.Arrival.{Arrival}
use Rattle.nm_types.specs.declared.messages.Envelope.{Envelope}
use Rattle.nm_types.specs.declared.messages.Post as post
use Rattle.nm_history.specs.declared.events.Event.{Event}
use Rattle.nm_history.specs.declared.events.Happened.{Happened}
use Rattle.nm_history.specs.declared.events.Happened.TheVariants as event
use Rattle.nm_history.specs.declared.plain.Pair.{Pair}
use Rattle.nm_history.specs.Completion.{is_taken, pair_of_receive}
use Rattle.nm_history.specs.Matching.{is_of_message, is_of_receive, matched_pairs, pair_of}
use Rattle.nm_history.specs.RankRun.{Always, NumberAt}
use Rattle.nm_history.specs.Sends.{Arrived, arrival_of, arrivals, arrived_of, messages, post_of, posts}
use Rattle.nm_history.proofs.OnceLemmas.{eqb_self}
use Rattle.nm_match.specs.InTurn.{ArePlainEvents, are_named, envelope_of, is_for, is_in, is_plain_event}
use Rattle.nm_sure.proofs.Carried.{came_in}
use Rattle.nm_match.proofs.InTurnLemmas.{paired_in_turn, selects_these}
use Rattle.nm_sure.proofs.Lists.{any_at, at_any, at_found, found_at, kept_at, kept_from}
use Rattle.nm_sure.proofs.Lists.{paired_at, paired_from}
use Rattle.nm_sure.proofs.Numbering.{arrivals_numbered, posts_numbered}
use Rattle.nm_types.proofs.NumberLemmas.{same_number}
use Rattle.nm_types.proofs.OptionLemmas.{no_some, same_some}
use Rattle.nm_types.proofs.ListLemmas.{get_from_map, all_at}
use Rattle.nm_types.proofs.TruthLemmas.{and_left, and_right}

-- the receives of a channel, and its messages
abbrev pub channel_posts : List Event → ℕ → ℕ → ℕ → List post.Post
channel_posts h from tag ctx = filter (is_for from tag ctx) (posts h)

abbrev pub channel_messages : List Event → ℕ → ℕ → ℕ → List Arrival
channel_messages h from tag ctx = filter (λ a. is_in from tag ctx a.env) (messages h)

abbrev pub channel_arrivals : List Event → ℕ → ℕ → ℕ → List Arrived
channel_arrivals h from tag ctx = filter (came_in from tag ctx) (arrivals h from)

-- the messages of a channel are its arrivals
from_matters : (from tag ctx : ℕ) (a : Arrival) → (a.env.from == from) ≡ false → is_in from tag ctx a.env ≡ false
from_matters from tag ctx a other = last (ctx == a.env.ctx) (from == a.env.from) (tag == a.env.tag)
    (grind (arith, nat_tests))
  where
    last : (x y z : Bool) → y ≡ false → (x && y && z) ≡ false
    last true true z other = absurd (false≢true (sym other))
    last true false z other = refl
    last false y z other = refl

arrivals_at : (from tag ctx : ℕ) (as' : List Arrived) (ms : List Arrival) (stamp : ℕ) (a : Arrival) (b : Bool) →
    (a.env.from == from) ≡ b → map (λ (x : Arrived). x.arrival) (filter (came_in from tag ctx) as') ≡ ms →
    map (λ (x : Arrived). x.arrival)
    (filter (came_in from tag ctx) (cond b (record { stamp = stamp; arrival = a } ∷ as') as'))
    ≡ cond (is_in from tag ctx a.env) (a ∷ ms) ms
arrivals_at from tag ctx as' ms stamp a true is later = by_test (is_in from tag ctx a.env)
  where
    by_test : (c : Bool) → map (λ (x : Arrived). x.arrival)
        (cond c (record { stamp = stamp; arrival = a } ∷ filter (came_in from tag ctx) as')
        (filter (came_in from tag ctx) as'))
        ≡ cond c (a ∷ ms) ms
    by_test true = ap (λ (xs : List Arrival). a ∷ xs) later
    by_test false = later
arrivals_at from tag ctx as' ms stamp a false is later = rw (from_matters from tag ctx a is) later

arrivals_step : (from tag ctx : ℕ) (stamp : ℕ) (what : Happened) (as' : List Arrived) (ms : List Arrival) →
    map (λ (x : Arrived). x.arrival) (filter (came_in from tag ctx) (filter (λ a. a.arrival.env.from == from) as'))
    ≡ filter (λ a. is_in from tag ctx a.env) ms →
    map (λ (x : Arrived). x.arrival)
    (filter (came_in from tag ctx) (filter (λ a. a.arrival.env.from == from) (cons_option (arrived_of stamp what) as')))
    ≡ filter (λ a. is_in from tag ctx a.env) (cons_option (arrival_of what) ms)
arrivals_step from tag ctx stamp (event.Arrive a) as' ms later =
    arrivals_at from tag ctx (filter (λ a. a.arrival.env.from == from) as') (filter (λ a. is_in from tag ctx a.env) ms)
    stamp a (a.env.from == from) refl later
arrivals_step from tag ctx stamp what as' ms later = later

pub messages_arrived : (h : List Event) (from tag ctx : ℕ) →
    map (λ (a : Arrived). a.arrival) (channel_arrivals h from tag ctx) ≡ channel_messages h from tag ctx
messages_arrived [] from tag ctx = refl
messages_arrived (e ∷ h) from tag ctx =
    arrivals_step from tag ctx e.stamp e.what (filter_map (λ (e : Event). arrived_of e.stamp e.what) h) (messages h)
    (messages_arrived h from tag ctx)

-- each receive names its source and its tag
named_step : (what : Happened) (ps : List post.Post) → is_plain_event what ≡ true →
    AllByRecursion (λ (p : post.Post). are_named p.from p.tag ≡ true) ps →
    AllByRecursion (λ (p : post.Post). are_named p.from p.tag ≡ true) (cons_option (post_of what) ps)
named_step (event.Post p line) ps plain later = (plain, later)
named_step what ps plain later = later

named_posts : (h : List Event) → ArePlainEvents h → AllByRecursion (λ (p : post.Post). are_named p.from p.tag ≡ true)
    (posts h)
named_posts [] plain = tt
named_posts (e ∷ h) plain = named_step e.what (posts h) plain.0 (named_posts h plain.1)

parts : (c i t p q r : ℕ) → (c == p && i == q && t == r) ≡ true → (i ≡ q) × (t ≡ r) × (c ≡ p)
parts c i t p q r h = (grind (arith, nat_tests), grind (arith, nat_tests), grind (arith, nat_tests))

-- a named receive is of one channel
one_channel : (p : post.Post) (i t c i' t' c' : ℕ) → are_named p.from p.tag ≡ true → is_for i t c p ≡ true →
    is_for i' t' c' p ≡ true → (i ≡ i') × (t ≡ t') × (c ≡ c')
one_channel p i t c i' t' c' named first second =
    parts c i t c' i' t' (sym (selects_these p.from p.tag p.ctx i t c named first (envelope_of i' t' c')) ∙ second)

pub own_channel : (env : Envelope) → is_in env.from env.tag env.ctx env ≡ true
own_channel env = three (env.ctx == env.ctx) (env.from == env.from) (env.tag == env.tag) (eqb_self env.ctx)
    (eqb_self env.from) (eqb_self env.tag)
  where
    three : (x y z : Bool) → x ≡ true → y ≡ true → z ≡ true → (x && y && z) ≡ true
    three x y z a b c = rw (a, b, c) refl

pub channel_of : (from tag ctx : ℕ) (env : Envelope) → is_in from tag ctx env ≡ true →
    (from ≡ env.from) × (tag ≡ env.tag) × (ctx ≡ env.ctx)
channel_of from tag ctx env is = parts ctx from tag env.ctx env.from env.tag is

-- an element stands at the same place in the list of the same channel
pub moved : {X : Type 0} (list : ℕ → ℕ → ℕ → List X) (f g t u c d k m : ℕ) (x : X) → f ≡ g → t ≡ u → c ≡ d → k ≡ m →
    slice_get (list f t c) k ≡ Some x → slice_get (list g u d) m ≡ Some x
moved list f g t u c d k m x p q r s here = rw (← p, ← q, ← r, ← s) here

same_count : (ps : List post.Post) (f g t u c d : ℕ) → f ≡ g → t ≡ u → c ≡ d →
    length (filter (is_for f t c) ps) ≡ length (filter (is_for g u d) ps)
same_count ps f g t u c d p q r = rw (← p, ← q, ← r) refl

module _ (ranks : ℕ) (h : List Event) (numbers : Always (NumberAt ranks) h) (plain : ArePlainEvents h) where
  -- a pair stands in its channel where its receive and its message do
  record Coupled (pair : Pair) (from tag ctx : ℕ) : Type 0 where
    place : ℕ
    receive : post.Post
    posted : slice_get (channel_posts h from tag ctx) place ≡ Some receive
    came : slice_get (channel_messages h from tag ctx) place ≡ Some pair.arrival
    whole : pair_of receive pair.arrival ≡ pair

  coupled : (n : ℕ) (pair : Pair) → slice_get (matched_pairs h) n ≡ Some pair →
      Coupled pair pair.arrival.env.from pair.arrival.env.tag pair.arrival.env.ctx
  coupled n pair here =
      let env : Envelope = pair.arrival.env in
      let test : Pair → Bool = λ pair. is_in env.from env.tag env.ctx pair.arrival.env in
      let kept = kept_at test (matched_pairs h) n pair here (own_channel env) in
      let among = subst (λ (xs : List Pair). slice_get xs (length (filter test (take n (matched_pairs h)))) ≡ Some pair)
      (paired_in_turn ranks h numbers plain env.from env.tag env.ctx) kept in
      let both = paired_from (channel_posts h env.from env.tag env.ctx) (channel_messages h env.from env.tag env.ctx)
      (length (filter test (take n (matched_pairs h)))) pair among in
      let arrived : both.1 ≡ pair.arrival = ap (λ (q : Pair). q.arrival) both.4 in
      record {
        place = length (filter test (take n (matched_pairs h)));
        receive = both.0;
        posted = both.2;
        came = both.3 ∙ ap (λ (a : Arrival). Some a) arrived;
        whole = sym (ap (λ (a : Arrival). pair_of both.0 a) arrived) ∙ both.4;
      }

  -- a receive of the channel with the number of a pair has its place
  pair_place : (from tag ctx k n : ℕ) (p : post.Post) (pair : Pair) → slice_get (channel_posts h from tag ctx) k
      ≡ Some p →
      slice_get (matched_pairs h) n ≡ Some pair → pair.number ≡ p.number →
      (slice_get (channel_messages h from tag ctx) k ≡ Some pair.arrival) × (pair_of p pair.arrival ≡ pair)
  pair_place from tag ctx k n p pair here there same =
      let env : Envelope = pair.arrival.env in
      let two = coupled n pair there in
      let mine = kept_from (is_for from tag ctx) (posts h) k p here in
      let its = kept_from (is_for env.from env.tag env.ctx) (posts h) two.place two.receive two.posted in
      let numbered = posts_numbered ranks h numbers plain in
      let at' : its.0 ≡ mine.0 =
      sym (numbered its.0 two.receive its.1) ∙ ap (λ (q : Pair). q.number) two.whole ∙ same
      ∙ numbered mine.0 p mine.1 in
      let one : two.receive ≡ p =
      same_some two.receive p (sym its.1 ∙ ap (λ (k : ℕ). slice_get (posts h) k) at' ∙ mine.1) in
      let channel = one_channel p from tag ctx env.from env.tag env.ctx
      (all_at (λ (p : post.Post). are_named p.from p.tag ≡ true) (posts h) mine.0 p (named_posts h plain) mine.1) mine.2
      (subst (λ (q : post.Post). is_for env.from env.tag env.ctx q ≡ true) one its.2) in
      let spot : two.place ≡ k =
      its.3 ∙ ap (λ (m : ℕ). length (filter (is_for env.from env.tag env.ctx) (take m (posts h)))) at'
      ∙ same_count (take mine.0 (posts h)) env.from from env.tag tag env.ctx ctx (sym channel.0) (sym channel.1)
      (sym channel.2)
      ∙ sym mine.3 in (
        moved (channel_messages h) env.from from env.tag tag env.ctx ctx two.place k pair.arrival (sym channel.0)
            (sym channel.1)
            (sym channel.2) spot two.came,
        ap (λ (q : post.Post). pair_of q pair.arrival) (sym one) ∙ two.whole,
      )

  -- where the receive and the message at one place of a channel are, they are paired
  pub paired_here : (from tag ctx k : ℕ) (p : post.Post) (a : Arrival) → slice_get (channel_posts h from tag ctx) k
      ≡ Some p →
      slice_get (channel_messages h from tag ctx) k ≡ Some a →
      (n : ℕ) × (slice_get (matched_pairs h) n ≡ Some (pair_of p a))
  paired_here from tag ctx k p a here there =
      let test : Pair → Bool = λ pair. is_in from tag ctx pair.arrival.env in
      let among = paired_at (channel_posts h from tag ctx) (channel_messages h from tag ctx) k p a here there in
      let found = kept_from test (matched_pairs h) k (pair_of p a)
      (subst (λ (xs : List Pair). slice_get xs k ≡ Some (pair_of p a))
      (sym (paired_in_turn ranks h numbers plain from tag ctx)) among) in
      (found.0, found.1)

  -- a receive has the message at its place in the channel, if there is one
  pub pair_of_place : (from tag ctx k : ℕ) (p : post.Post) → slice_get (channel_posts h from tag ctx) k ≡ Some p →
      pair_of_receive h p.number ≡ option_map (pair_of p) (slice_get (channel_messages h from tag ctx) k)
  pair_of_place from tag ctx k p here =
      by_message (slice_get (channel_messages h from tag ctx) k) refl (pair_of_receive h p.number) refl
    where
      by_message : (o : Option Arrival) → slice_get (channel_messages h from tag ctx) k ≡ o → (r : Option Pair) →
          pair_of_receive h p.number ≡ r → r ≡ option_map (pair_of p) o
      by_message None none None found = refl
      by_message None none (Some pair) found =
          let at' = found_at (is_of_receive p.number) (matched_pairs h) pair found in
          absurd (no_some pair.arrival (sym none ∙ (pair_place from tag ctx k at'.0 p pair here at'.1
          (same_number pair.number p.number at'.2)).0))
      by_message (Some a) came None found =
          let one = paired_here from tag ctx k p a here came in
          let some = at_found (is_of_receive p.number) (matched_pairs h) one.0 (pair_of p a) one.1
          (eqb_self p.number) in
          absurd (no_some some.0 (sym found ∙ some.1))
      by_message (Some a) came (Some pair) found =
          let at' = found_at (is_of_receive p.number) (matched_pairs h) pair found in
          let spot = pair_place from tag ctx k at'.0 p pair here at'.1 (same_number pair.number p.number at'.2) in
          ap (λ (q : Pair). Some q) (sym spot.1
          ∙ ap (λ (b : Arrival). pair_of p b) (same_some pair.arrival a (sym spot.0 ∙ came)))

  -- the place of a message in its channel
  pub place_of_message : (from tag ctx k : ℕ) (a : Arrival) → slice_get (channel_messages h from tag ctx) k ≡ Some a →
      (arrived : Arrived) × (slice_get (arrivals h from) a.n ≡ Some arrived) × (arrived.arrival ≡ a)
      × (k ≡ length (filter (came_in from tag ctx) (take a.n (arrivals h from))))
  place_of_message from tag ctx k a here =
      let arrived = get_from_map (λ (a : Arrived). a.arrival) (channel_arrivals h from tag ctx) k a
      (subst (λ (xs : List Arrival). slice_get xs k ≡ Some a) (sym (messages_arrived h from tag ctx)) here) in
      let at' = kept_from (came_in from tag ctx) (arrivals h from) k arrived.0 arrived.1 in
      let number : at'.0 ≡ a.n =
      sym (arrivals_numbered ranks h from numbers at'.0 arrived.0 at'.1) ∙ ap (λ (b : Arrival). b.n) arrived.2 in (
        arrived.0,
        ap (λ (m : ℕ). slice_get (arrivals h from) m) (sym number) ∙ at'.1,
        arrived.2,
        at'.3 ∙ ap (λ (m : ℕ). length (filter (came_in from tag ctx) (take m (arrivals h from)))) number,
      )

  -- a taken message, with its receive and with its place in its channel
  pub record Taken (from n : ℕ) : Type 0 where
    pub message : Arrival
    pub place : ℕ
    pub receive : post.Post
    pub posted : slice_get (channel_posts h from message.env.tag message.env.ctx) place ≡ Some receive
    pub arrived : Arrived
    pub came : slice_get (arrivals h from) n ≡ Some arrived
    pub same : arrived.arrival ≡ message
    pub counted : place ≡ length (filter (came_in from message.env.tag message.env.ctx) (take n (arrivals h from)))

  pub taken_so : (from n : ℕ) → is_taken h from n ≡ true → Taken from n
  taken_so from n taken =
      let some = any_at (is_of_message from n) (matched_pairs h) taken in
      let pair : Pair = some.1 in
      let env : Envelope = pair.arrival.env in
      let two = coupled some.0 pair some.2 in
      let its = place_of_message env.from env.tag env.ctx two.place pair.arrival two.came in
      subst (λ (m : ℕ). Taken from m)
      (same_number pair.arrival.n n (and_right (env.from == from) (pair.arrival.n == n) some.3))
      (subst (λ (i : ℕ). Taken i pair.arrival.n)
      (same_number env.from from (and_left (env.from == from) (pair.arrival.n == n) some.3))
      (record {
        message = pair.arrival;
        place = two.place;
        receive = two.receive;
        posted = two.posted;
        arrived = its.0;
        came = its.1;
        same = its.2;
        counted = its.3;
      }))

  -- a message whose receive is there is taken
  pub place_taken : (from tag ctx k : ℕ) (p : post.Post) (a : Arrival) → slice_get (channel_posts h from tag ctx) k
      ≡ Some p →
      slice_get (channel_messages h from tag ctx) k ≡ Some a → is_taken h from a.n ≡ true
  place_taken from tag ctx k p a here there =
      let one = paired_here from tag ctx k p a here there in
      let found = kept_from (λ (a : Arrival). is_in from tag ctx a.env) (messages h) k a there in
      let channel = channel_of from tag ctx a.env found.2 in
      let both : (a.env.from == from && a.n == a.n) ≡ true = rw (← channel.0, eqb_self from, eqb_self a.n) refl in
      at_any (is_of_message from a.n) (matched_pairs h) one.0 (pair_of p a) one.1 both
