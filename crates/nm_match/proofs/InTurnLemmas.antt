-- Messages of one channel and receives that name it pair in turn.
use Rattle.std.proofs.Common.{◌≡◌, ℕ, ◌==◌, Bool, true, false, ◌&&◌, cond, ltb, Option, Some}
use Rattle.std.proofs.Common.{None, List, [], ◌∷◌, ◌++◌, length, refl, sym, ◌∙◌, ap, subst, arith}
use Rattle.std.proofs.Common.{append-nil, append_assoc, get_or, ◌⊎◌, inl, inr}
use Rattle.std.specs.Prelude.{map}
use Rattle.std.specs.List.{All, filter, find}
use Rattle.std.specs.Option.{option_map, option_to_list}
use Rattle.std.proofs.lemmas.Bool.{false≢true}
use Rattle.std.proofs.lemmas.Bool.Decides.{nat_tests}
use Rattle.std.proofs.lemmas.List.{map-append}
use Rattle.std.proofs.lemmas.List.Elements.{All-append, All-cons, All-nil, All-weaker, filter-append}
use Rattle.nm_types.specs.declared.messages.Arrival.{Arrival}
use Rattle.nm_types.specs.declared.messages.Envelope.{Envelope}
use Rattle.nm_types.specs.declared.messages.Peer.{Peer}
use Rattle.nm_types.specs.declared.messages.Peer.TheVariants as peer
use Rattle.nm_types.specs.declared.messages.Post as post
use Rattle.nm_types.specs.declared.messages.TagPick.{TagPick}
use Rattle.nm_types.specs.declared.messages.TagPick.TheVariants as pick
use Rattle.nm_history.specs.declared.events.Event.{Event}
use Rattle.nm_history.specs.declared.events.Happened.{Happened}
use Rattle.nm_history.specs.declared.events.Happened.TheVariants as event
use Rattle.nm_history.specs.declared.plain.Pair.{Pair}
use Rattle.nm_history.specs.AtEach.{AtEach, AtEachAfter}
use Rattle.nm_history.specs.Matching.{first_message, first_receive, matched_pairs, matched_pairs_after}
use Rattle.nm_history.specs.Matching.{is_matching, new_pair, pair_of}
use Rattle.nm_history.specs.RankRun.{Always, NumberAt}
use Rattle.nm_history.specs.Selection.{matches}
use Rattle.nm_history.specs.Sends.{arrivals, messages, posts, receives}
use Rattle.nm_history.proofs.AtEachLemmas.{AtEach-push}
use Rattle.nm_history.proofs.OnceLemmas.{messages-push, posts-push}
use Rattle.nm_match.specs.Deeds.{is_known_message, is_known_receive}
use Rattle.nm_match.specs.Queues.{AreQueues, without_first}
use Rattle.nm_match.proofs.DeedLemmas.{first_message-queue, first_receive-queue}
use Rattle.nm_match.proofs.NumberLemmas.{messages_numbered, receives_numbered}
use Rattle.nm_match.specs.InTurn.{ArePairedInTurn, ArePlainEvents, are_named, envelope_of, is_for, is_in}
use Rattle.nm_match.specs.InTurn.{is_plain_event, paired}
use Rattle.nm_match.proofs.EventLemmas.{arrived_alone, arrived_taking, came_at, other_stays, posted_alone}
use Rattle.nm_match.proofs.EventLemmas.{posted_at, posted_taking, queues-start}
use Rattle.nm_match.proofs.SearchLemmas.{first_kept, nothing_kept, others_all, others_kept}
use Rattle.nm_types.proofs.ListLemmas.{find_passes}

-- three numbers that are those of a channel
agree3 : (a b d c i t p q r : ℕ) → (a == c && b == i && d == t) ≡ true →
    (a == p && b == q && d == r) ≡ (c == p && i == q && t == r)
agree3 a b d c i t p q r h = grind (arith, nat_tests)

apart3 : (a b d c i t p q r : ℕ) → (a == c && b == i && d == t) ≡ false →
    (a == p && b == q && d == r) ≡ true → (c == p && i == q && t == r) ≡ false
apart3 a b d c i t p q r h g = grind (arith, nat_tests)

other3 : (a b d c i t p q r : ℕ) → (c == p && i == q && t == r) ≡ false →
    (a == p && b == q && d == r) ≡ true → (a == c && b == i && d == t) ≡ false
other3 a b d c i t p q r h g = grind (arith, nat_tests)

-- a receive of the channel selects its messages and no others
pub selects_these : (source : Peer) (tags : TagPick) (context from tag ctx : ℕ) → are_named source tags ≡ true →
    matches source tags context (envelope_of from tag ctx) ≡ true → (env : Envelope) →
    matches source tags context env ≡ is_in from tag ctx env
selects_these (peer.One i) (pick.One t) context from tag ctx named holds env =
    agree3 context i t ctx from tag env.ctx env.from env.tag holds
selects_these peer.Any tags context from tag ctx named holds env = absurd (false≢true named)
selects_these (peer.One i) pick.Any context from tag ctx named holds env = absurd (false≢true named)

-- another receive selects none of them
selects_others : (source : Peer) (tags : TagPick) (context from tag ctx : ℕ) → are_named source tags ≡ true →
    matches source tags context (envelope_of from tag ctx) ≡ false → (env : Envelope) →
    matches source tags context env ≡ true → is_in from tag ctx env ≡ false
selects_others (peer.One i) (pick.One t) context from tag ctx named fails env holds =
    apart3 context i t ctx from tag env.ctx env.from env.tag fails holds
selects_others peer.Any tags context from tag ctx named fails env holds = absurd (false≢true named)
selects_others (peer.One i) pick.Any context from tag ctx named fails env holds = absurd (false≢true named)

parts3 : (c i t p q r : ℕ) → (c == p && i == q && t == r) ≡ true → (c ≡ p) × (i ≡ q) × (t ≡ r)
parts3 c i t p q r h = (grind (arith, nat_tests), grind (arith, nat_tests), grind (arith, nat_tests))

-- a message of the channel is selected by its receives and by no others
selected_by_these : (from tag ctx : ℕ) (env : Envelope) → is_in from tag ctx env ≡ true → (p : post.Post) →
    matches p.from p.tag p.ctx env ≡ is_for from tag ctx p
selected_by_these from tag ctx env holds p =
    let same = parts3 ctx from tag env.ctx env.from env.tag holds in
    rw (same.0, same.1, same.2) refl

-- a message of another channel is selected by none of them
selected_by_others : (source : Peer) (tags : TagPick) (context from tag ctx : ℕ) (env : Envelope) →
    is_in from tag ctx env ≡ false → are_named source tags ≡ true → matches source tags context env ≡ true →
    matches source tags context (envelope_of from tag ctx) ≡ false
selected_by_others (peer.One i) (pick.One t) context from tag ctx env fails named holds =
    other3 context i t ctx from tag env.ctx env.from env.tag fails holds
selected_by_others peer.Any tags context from tag ctx env fails named holds = absurd (false≢true named)
selected_by_others (peer.One i) pick.Any context from tag ctx env fails named holds = absurd (false≢true named)

-- a receive and the message that it took
record Couple : Type 0 where
  receive : post.Post
  message : Arrival

abbrev as_pair : Couple → Pair
as_pair c = pair_of c.receive c.message

abbrev receives_of : List Couple → List post.Post
receives_of done = map (λ c. c.receive) done

abbrev messages_of : List Couple → List Arrival
messages_of done = map (λ c. c.message) done

-- what is paired, and then what is left on one of the two sides
paired_done : (done : List Couple) (ps : List post.Post) (ms : List Arrival) → (ps ≡ []) ⊎ (ms ≡ []) →
    map as_pair done ≡ paired (receives_of done ++ ps) (messages_of done ++ ms)
paired_done [] ps ms (inl none) = rw none refl
paired_done [] [] ms (inr none) = refl
paired_done [] (p ∷ ps) ms (inr none) = rw none refl
paired_done (c ∷ done) ps ms one = ap (λ (list : List Pair). as_pair c ∷ list) (paired_done done ps ms one)

abbrev in_channel : ℕ → ℕ → ℕ → Arrival → Bool
in_channel from tag ctx a = is_in from tag ctx a.env

abbrev of_channel : ℕ → ℕ → ℕ → Pair → Bool
of_channel from tag ctx pair = is_in from tag ctx pair.arrival.env

-- in a channel all that is paired stands before all that is not, on both sides, and on one of the
-- two nothing is left
record InTurn (from tag ctx : ℕ) (h : List Event) (found : List Pair) : Type 0 where
  posted : List post.Post
  unexpected : List Arrival
  queues : AreQueues h found posted unexpected [] []
  named : All (λ p. are_named p.from p.tag ≡ true) posted
  done : List Couple
  pairs : filter (of_channel from tag ctx) found ≡ map as_pair done
  received : filter (is_for from tag ctx) (posts h) ≡ receives_of done ++ filter (is_for from tag ctx) posted
  came : filter (in_channel from tag ctx) (messages h) ≡ messages_of done ++ filter (in_channel from tag ctx) unexpected
  idle : (filter (is_for from tag ctx) posted ≡ []) ⊎ (filter (in_channel from tag ctx) unexpected ≡ [])

-- behind a list, what one element more adds to both sides of an equation
grown : {X : Type 0} (test : X → Bool) (xs front left : List X) (x : X) →
    filter test xs ≡ front ++ filter test left →
    filter test (xs ++ x ∷ []) ≡ front ++ filter test (left ++ x ∷ [])
grown {X} test xs front left x same =
    filter-append test xs (x ∷ []) ∙ ap (λ (ys : List X). ys ++ filter test (x ∷ [])) same
    ∙ append_assoc front (filter test left) (filter test (x ∷ []))
    ∙ ap (λ (ys : List X). front ++ ys) (sym (filter-append test left (x ∷ [])))

kept_at : {X : Type 0} (x : X) (b : Bool) → b ≡ true → cond b (x ∷ []) [] ≡ x ∷ []
kept_at x true holds = refl
kept_at x false fails = absurd (false≢true fails)

dropped_at : {X : Type 0} (x : X) (b : Bool) → b ≡ false → cond b (x ∷ []) [] ≡ []
dropped_at x true fails = absurd (false≢true (sym fails))
dropped_at x false holds = refl

-- an element that the test passes goes behind a front with nothing left behind it
moved : {X : Type 0} (test : X → Bool) (xs front : List X) (x : X) → test x ≡ true →
    filter test xs ≡ front ++ [] → filter test (xs ++ x ∷ []) ≡ (front ++ x ∷ []) ++ []
moved {X} test xs front x passes same =
    filter-append test xs (x ∷ []) ∙ ap (λ (ys : List X). ys ++ filter test (x ∷ [])) (same ∙ append-nil front)
    ∙ ap (λ (ys : List X). front ++ ys) (kept_at x (test x) passes) ∙ sym (append-nil (front ++ x ∷ []))

-- an element that the test doesn't pass changes nothing
skipped : {X : Type 0} (test : X → Bool) (xs : List X) (x : X) → test x ≡ false →
    filter test (xs ++ x ∷ []) ≡ filter test xs
skipped {X} test xs x fails =
    filter-append test xs (x ∷ []) ∙ ap (λ (ys : List X). filter test xs ++ ys) (dropped_at x (test x) fails)
    ∙ append-nil (filter test xs)

first_idle : {X Y : Type 0} (ps : List X) (a : Y) (rest : List Y) → (ps ≡ []) ⊎ (a ∷ rest ≡ []) → ps ≡ []
first_idle ps a rest (inl none) = none
first_idle ps a rest (inr never) = absurd (grind arith)

second_idle : {X Y : Type 0} (p : X) (rest : List X) (ms : List Y) → (p ∷ rest ≡ []) ⊎ (ms ≡ []) → ms ≡ []
second_idle p rest ms (inl never) = absurd (grind arith)
second_idle p rest ms (inr none) = none

-- one couple more, where the left side has nothing left
first_moved : {X : Type 0} (test : X → Bool) (f : Couple → X) (xs left : List X) (done : List Couple) (c : Couple) →
    test (f c) ≡ true → filter test left ≡ [] → filter test xs ≡ map f done ++ filter test left →
    filter test (xs ++ f c ∷ []) ≡ map f (done ++ c ∷ []) ++ filter test left
first_moved test f xs left done c passes none same =
    rw (none, map-append f done (c ∷ [])) (moved test xs (map f done) (f c) passes (rw none at same))

-- one couple more, whose side has it at its front
front_moved : {X : Type 0} (f : Couple → X) (kept front rest : List X) (done : List Couple) (c : Couple) →
    kept ≡ map f done ++ front → front ≡ f c ∷ rest → kept ≡ map f (done ++ c ∷ []) ++ rest
front_moved {X} f kept front rest done c same first =
    same ∙ ap (λ (ys : List X). map f done ++ ys) first ∙ sym (append_assoc (map f done) (f c ∷ []) rest)
    ∙ ap (λ (ys : List X). ys ++ rest) (sym (map-append f done (c ∷ [])))

-- the pairs with one more of the channel, or of another one
pair_kept : (from tag ctx : ℕ) (found : List Pair) (done : List Couple) (c : Couple) →
    is_in from tag ctx c.message.env ≡ true → filter (of_channel from tag ctx) found ≡ map as_pair done →
    filter (of_channel from tag ctx) (found ++ as_pair c ∷ []) ≡ map as_pair (done ++ c ∷ [])
pair_kept from tag ctx found done c mine same =
    filter-append (of_channel from tag ctx) found (as_pair c ∷ [])
    ∙ ap (λ (ys : List Pair). ys ++ filter (of_channel from tag ctx) (as_pair c ∷ [])) same
    ∙ ap (λ (ys : List Pair). map as_pair done ++ ys) (kept_at (as_pair c) (is_in from tag ctx c.message.env) mine)
    ∙ sym (map-append as_pair done (c ∷ []))

module _ (from tag ctx : ℕ) {h : List Event} {found : List Pair} (turn : InTurn from tag ctx h found) where
  post_idle : (p : post.Post) → are_named p.from p.tag ≡ true →
      find (λ a. matches p.from p.tag p.ctx a.env) turn.unexpected ≡ None → (b : Bool) →
      is_for from tag ctx p ≡ b → (filter (is_for from tag ctx) (turn.posted ++ p ∷ []) ≡ [])
      ⊎ (filter (in_channel from tag ctx) turn.unexpected ≡ [])
  post_idle p named none true is =
      inr (nothing_kept (λ (a : Arrival). matches p.from p.tag p.ctx a.env) (in_channel from tag ctx)
      (λ a. selects_these p.from p.tag p.ctx from tag ctx named is a.env) turn.unexpected none)
  post_idle p named none false is = rw (skipped (is_for from tag ctx) turn.posted p is) turn.idle

  arrive_idle : (a : Arrival) → find (λ p. matches p.from p.tag p.ctx a.env) turn.posted ≡ None → (b : Bool) →
      in_channel from tag ctx a ≡ b → (filter (is_for from tag ctx) turn.posted ≡ [])
      ⊎ (filter (in_channel from tag ctx) (turn.unexpected ++ a ∷ []) ≡ [])
  arrive_idle a none true is =
      inl (nothing_kept (λ (p : post.Post). matches p.from p.tag p.ctx a.env) (is_for from tag ctx)
      (selected_by_these from tag ctx a.env is) turn.posted none)
  arrive_idle a none false is = rw (skipped (in_channel from tag ctx) turn.unexpected a is) turn.idle

  -- a receive is posted that selects no free message
  post_alone : (stamp line : ℕ) (p : post.Post) → is_known_receive h p.number ≡ false →
      are_named p.from p.tag ≡ true →
      find (λ a. matches p.from p.tag p.ctx a.env) turn.unexpected ≡ None →
      InTurn from tag ctx (h ++ posted_at stamp line p ∷ []) (found ++ [])
  post_alone stamp line p new named none = record {
    posted = turn.posted ++ p ∷ [];
    unexpected = turn.unexpected;
    queues = posted_alone turn.queues stamp line p new;
    named = All-append (λ (q : post.Post). are_named q.from q.tag ≡ true) turn.posted (p ∷ []) turn.named
        (All-cons (λ (q : post.Post). are_named q.from q.tag ≡ true) p [] named
        (All-nil (λ (q : post.Post). are_named q.from q.tag ≡ true)));
    done = turn.done;
    pairs = rw (append-nil found) turn.pairs;
    received = rw (posts-push h (posted_at stamp line p))
        (grown (is_for from tag ctx) (posts h) (receives_of turn.done) turn.posted p turn.received);
    came = rw (messages-push h (posted_at stamp line p), append-nil (messages h)) turn.came;
    idle = post_idle p named none (is_for from tag ctx p) refl;
  }

  -- a receive is posted, and takes the first free message that it selects
  post_taking : (stamp line : ℕ) (p : post.Post) (a : Arrival) → is_known_receive h p.number ≡ false →
      are_named p.from p.tag ≡ true →
      find (λ a. matches p.from p.tag p.ctx a.env) turn.unexpected ≡ Some a → (b : Bool) →
      is_for from tag ctx p ≡ b →
      InTurn from tag ctx (h ++ posted_at stamp line p ∷ []) (found ++ pair_of p a ∷ [])
  post_taking stamp line p a new named is_first true is =
      let test : Arrival → Bool = λ a. matches p.from p.tag p.ctx a.env in
      let left : List Arrival = without_first test turn.unexpected in
      let c : Couple = record { receive = p; message = a } in
      let agree : (x : Arrival) → test x ≡ in_channel from tag ctx x =
      λ x. selects_these p.from p.tag p.ctx from tag ctx named is x.env in
      let front : filter (in_channel from tag ctx) turn.unexpected ≡ a ∷ filter (in_channel from tag ctx) left =
      first_kept test (in_channel from tag ctx) agree turn.unexpected a is_first in
      let none : filter (is_for from tag ctx) turn.posted ≡ [] =
      first_idle (filter (is_for from tag ctx) turn.posted) a (filter (in_channel from tag ctx) left)
      (rw front at turn.idle) in
      let mine : in_channel from tag ctx a ≡ true = sym (agree a) ∙ find_passes test turn.unexpected a is_first in
      record {
        posted = turn.posted;
        unexpected = left;
        queues = posted_taking turn.queues stamp line p a new is_first;
        named = turn.named;
        done = turn.done ++ c ∷ [];
        pairs = pair_kept from tag ctx found turn.done c mine turn.pairs;
        received = rw (posts-push h (posted_at stamp line p))
            (first_moved (is_for from tag ctx) (λ (c : Couple). c.receive) (posts h) turn.posted turn.done c is none
            turn.received);
        came = rw (messages-push h (posted_at stamp line p), append-nil (messages h))
            (front_moved (λ (c : Couple). c.message) (filter (in_channel from tag ctx) (messages h))
            (filter (in_channel from tag ctx) turn.unexpected) (filter (in_channel from tag ctx) left) turn.done c
            turn.came front);
        idle = inl none;
      }
  post_taking stamp line p a new named is_first false is =
      let test : Arrival → Bool = λ a. matches p.from p.tag p.ctx a.env in
      let left : List Arrival = without_first test turn.unexpected in
      let apart : (x : Arrival) → test x ≡ true → in_channel from tag ctx x ≡ false =
      λ x holds. selects_others p.from p.tag p.ctx from tag ctx named is x.env holds in
      let same : filter (in_channel from tag ctx) left ≡ filter (in_channel from tag ctx) turn.unexpected =
      others_kept test (in_channel from tag ctx) turn.unexpected (λ k d inside. apart (get_or turn.unexpected k d)) in
      let other : in_channel from tag ctx a ≡ false = apart a (find_passes test turn.unexpected a is_first) in
      record {
        posted = turn.posted;
        unexpected = left;
        queues = posted_taking turn.queues stamp line p a new is_first;
        named = turn.named;
        done = turn.done;
        pairs = skipped (of_channel from tag ctx) found (pair_of p a) other ∙ turn.pairs;
        received = rw (posts-push h (posted_at stamp line p)) (skipped (is_for from tag ctx) (posts h) p is
            ∙ turn.received);
        came = rw (messages-push h (posted_at stamp line p), append-nil (messages h), same) turn.came;
        idle = rw same turn.idle;
      }

  -- a message arrives that no open receive selects
  arrive_alone : (stamp : ℕ) (a : Arrival) → is_known_message h a.env.from a.n ≡ false →
      find (λ p. matches p.from p.tag p.ctx a.env) turn.posted ≡ None →
      InTurn from tag ctx (h ++ came_at stamp a ∷ []) (found ++ [])
  arrive_alone stamp a new none = record {
    posted = turn.posted;
    unexpected = turn.unexpected ++ a ∷ [];
    queues = arrived_alone turn.queues stamp a new;
    named = turn.named;
    done = turn.done;
    pairs = rw (append-nil found) turn.pairs;
    received = rw (posts-push h (came_at stamp a), append-nil (posts h)) turn.received;
    came = rw (messages-push h (came_at stamp a))
        (grown (in_channel from tag ctx) (messages h) (messages_of turn.done) turn.unexpected a turn.came);
    idle = arrive_idle a none (in_channel from tag ctx a) refl;
  }

  -- a message arrives, and goes to the first open receive that selects it
  arrive_taking : (stamp : ℕ) (a : Arrival) (p : post.Post) → is_known_message h a.env.from a.n ≡ false →
      find (λ p. matches p.from p.tag p.ctx a.env) turn.posted ≡ Some p → (b : Bool) →
      in_channel from tag ctx a ≡ b →
      InTurn from tag ctx (h ++ came_at stamp a ∷ []) (found ++ pair_of p a ∷ [])
  arrive_taking stamp a p new is_first true is =
      let test : post.Post → Bool = λ p. matches p.from p.tag p.ctx a.env in
      let left : List post.Post = without_first test turn.posted in
      let c : Couple = record { receive = p; message = a } in
      let agree : (q : post.Post) → test q ≡ is_for from tag ctx q = selected_by_these from tag ctx a.env is in
      let front : filter (is_for from tag ctx) turn.posted ≡ p ∷ filter (is_for from tag ctx) left =
      first_kept test (is_for from tag ctx) agree turn.posted p is_first in
      let none : filter (in_channel from tag ctx) turn.unexpected ≡ [] =
      second_idle p (filter (is_for from tag ctx) left) (filter (in_channel from tag ctx) turn.unexpected)
      (rw front at turn.idle) in
      record {
        posted = left;
        unexpected = turn.unexpected;
        queues = arrived_taking turn.queues stamp a p new is_first;
        named = others_all (λ (q : post.Post). are_named q.from q.tag ≡ true) test turn.posted turn.named;
        done = turn.done ++ c ∷ [];
        pairs = pair_kept from tag ctx found turn.done c is turn.pairs;
        received = rw (posts-push h (came_at stamp a), append-nil (posts h))
            (front_moved (λ (c : Couple). c.receive) (filter (is_for from tag ctx) (posts h))
            (filter (is_for from tag ctx) turn.posted) (filter (is_for from tag ctx) left) turn.done c turn.received
            front);
        came = rw (messages-push h (came_at stamp a))
            (first_moved (in_channel from tag ctx) (λ (c : Couple). c.message) (messages h) turn.unexpected turn.done
            c is none turn.came);
        idle = inr none;
      }
  arrive_taking stamp a p new is_first false is =
      let test : post.Post → Bool = λ p. matches p.from p.tag p.ctx a.env in
      let left : List post.Post = without_first test turn.posted in
      let same : filter (is_for from tag ctx) left ≡ filter (is_for from tag ctx) turn.posted =
      others_kept test (is_for from tag ctx) turn.posted
      (All-weaker (λ (q : post.Post). are_named q.from q.tag ≡ true)
      (λ (q : post.Post). test q ≡ true → is_for from tag ctx q ≡ false)
      (λ q named holds. selected_by_others q.from q.tag q.ctx from tag ctx a.env is named holds)
      turn.posted turn.named) in
      record {
        posted = left;
        unexpected = turn.unexpected;
        queues = arrived_taking turn.queues stamp a p new is_first;
        named = others_all (λ (q : post.Post). are_named q.from q.tag ≡ true) test turn.posted turn.named;
        done = turn.done;
        pairs = skipped (of_channel from tag ctx) found (pair_of p a) is ∙ turn.pairs;
        received = rw (posts-push h (came_at stamp a), append-nil (posts h), same) turn.received;
        came = rw (messages-push h (came_at stamp a)) (skipped (in_channel from tag ctx) (messages h) a is ∙ turn.came);
        idle = rw same turn.idle;
      }

  post_step : (stamp line : ℕ) (p : post.Post) (o : Option Arrival) → is_known_receive h p.number ≡ false →
      are_named p.from p.tag ≡ true →
      find (λ a. matches p.from p.tag p.ctx a.env) turn.unexpected ≡ o →
      InTurn from tag ctx (h ++ posted_at stamp line p ∷ [])
      (found ++ option_to_list (option_map (λ a. pair_of p a) o))
  post_step stamp line p None new named none = post_alone stamp line p new named none
  post_step stamp line p (Some a) new named is_first =
      post_taking stamp line p a new named is_first (is_for from tag ctx p) refl

  arrive_step : (stamp : ℕ) (a : Arrival) (o : Option post.Post) → is_known_message h a.env.from a.n ≡ false →
      find (λ p. matches p.from p.tag p.ctx a.env) turn.posted ≡ o →
      InTurn from tag ctx (h ++ came_at stamp a ∷ [])
      (found ++ option_to_list (option_map (λ p. pair_of p a) o))
  arrive_step stamp a None new none = arrive_alone stamp a new none
  arrive_step stamp a (Some p) new is_first =
      arrive_taking stamp a p new is_first (in_channel from tag ctx a) refl

  other_step : (stamp : ℕ) (what : Happened) → is_plain_event what ≡ true → is_matching what ≡ false →
      posts (h ++ record { stamp = stamp; what = what } ∷ []) ≡ posts h →
      messages (h ++ record { stamp = stamp; what = what } ∷ []) ≡ messages h →
      InTurn from tag ctx (h ++ record { stamp = stamp; what = what } ∷ []) (found ++ [])
  other_step stamp what plain other same_posts same_messages = record {
    posted = turn.posted;
    unexpected = turn.unexpected;
    queues = other_stays turn.queues stamp what plain other;
    named = turn.named;
    done = turn.done;
    pairs = rw (append-nil found) turn.pairs;
    received = rw same_posts turn.received;
    came = rw same_messages turn.came;
    idle = turn.idle;
  }

not_below : (n next : ℕ) → n ≡ next → ltb n next ≡ false
not_below n next same = grind (arith, nat_tests)

-- the next receive and the next message are new
new_receive : (ranks : ℕ) (h : List Event) (number : ℕ) → Always (NumberAt ranks) h →
    number ≡ length (receives h) → is_known_receive h number ≡ false
new_receive ranks h number numbers next =
    receives_numbered ranks h numbers number ∙ not_below number (length (receives h)) next

new_message : (ranks : ℕ) (h : List Event) (i n : ℕ) → Always (NumberAt ranks) h →
    n ≡ length (arrivals h i) → is_known_message h i n ≡ false
new_message ranks h i n numbers next =
    messages_numbered ranks h numbers i n ∙ not_below n (length (arrivals h i)) next

step : (from tag ctx ranks : ℕ) (h : List Event) (found : List Pair) (stamp : ℕ) (what : Happened) →
    InTurn from tag ctx h found → Always (NumberAt ranks) h → NumberAt ranks h what →
    is_plain_event what ≡ true →
    InTurn from tag ctx (h ++ record { stamp = stamp; what = what } ∷ [])
    (found ++ option_to_list (new_pair h found what))
step from tag ctx ranks h found stamp (event.Post p line) turn numbers next plain =
    post_step from tag ctx turn stamp line p (first_message h found p.from p.tag p.ctx)
    (new_receive ranks h p.number numbers next) plain (first_message-queue turn.queues p.from p.tag p.ctx)
step from tag ctx ranks h found stamp (event.Arrive a) turn numbers next plain =
    arrive_step from tag ctx turn stamp a (first_receive h found a.env)
    (new_message ranks h a.env.from a.n numbers next.1) (first_receive-queue turn.queues a.env)
step from tag ctx ranks h found stamp (event.Cancel number done) turn numbers next plain = absurd (false≢true plain)
step from tag ctx ranks h found stamp (event.Withdraw i n done) turn numbers next plain = absurd (false≢true plain)
step from tag ctx ranks h found stamp (event.Claim i n line) turn numbers next plain = absurd (false≢true plain)
step from tag ctx ranks h found stamp (event.Match number i n cap line) turn numbers next plain =
    absurd (false≢true plain)
step from tag ctx ranks h found stamp what turn numbers next plain =
    other_step from tag ctx turn stamp what plain refl
    (posts-push h (record { stamp = stamp; what = what }) ∙ append-nil (posts h))
    (messages-push h (record { stamp = stamp; what = what }) ∙ append-nil (messages h))

after : (from tag ctx ranks : ℕ) (h : List Event) (found : List Pair) (events : List Event) →
    InTurn from tag ctx h found → Always (NumberAt ranks) h →
    AtEachAfter (λ before e. NumberAt ranks before e.what) h events → ArePlainEvents events →
    InTurn from tag ctx (h ++ events) (matched_pairs_after h found events)
after from tag ctx ranks h found [] turn numbers next plain =
    subst (λ (k : List Event). InTurn from tag ctx k found) (sym (append-nil h)) turn
after from tag ctx ranks h found (e ∷ events) turn numbers next plain =
    let found' : List Pair = found ++ option_to_list (new_pair h found e.what) in
    subst (λ (k : List Event). InTurn from tag ctx k (matched_pairs_after (h ++ e ∷ []) found' events))
    (append_assoc h (e ∷ []) events)
    (after from tag ctx ranks (h ++ e ∷ []) found' events
    (step from tag ctx ranks h found e.stamp e.what turn numbers next.0 plain.0)
    (AtEach-push (λ before e. NumberAt ranks before e.what) h e numbers next.0) next.1 plain.1)

start : (from tag ctx : ℕ) → InTurn from tag ctx [] []
start from tag ctx = record {
  posted = [];
  unexpected = [];
  queues = queues-start;
  named = All-nil (λ (p : post.Post). are_named p.from p.tag ≡ true);
  done = [];
  pairs = refl;
  received = refl;
  came = refl;
  idle = inl refl;
}

whole : (from tag ctx ranks : ℕ) (h : List Event) → Always (NumberAt ranks) h → ArePlainEvents h →
    InTurn from tag ctx h (matched_pairs h)
unfolding matched_pairs AtEach
whole from tag ctx ranks h numbers plain = after from tag ctx ranks [] [] h (start from tag ctx) tt numbers plain

pub paired_in_turn : (ranks : ℕ) (h : List Event) → Always (NumberAt ranks) h → ArePlainEvents h → ArePairedInTurn h
paired_in_turn ranks h numbers plain from tag ctx =
    let turn = whole from tag ctx ranks h numbers plain in
    turn.pairs ∙ paired_done turn.done (filter (is_for from tag ctx) turn.posted)
    (filter (in_channel from tag ctx) turn.unexpected) turn.idle
    ∙ (rw (turn.received, turn.came) refl)
