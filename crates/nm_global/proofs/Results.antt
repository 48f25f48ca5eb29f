-- A result that is given.
use Rattle.std.proofs.Common.{◌≡◌, ℕ, ◌==◌, Bool, true, false, ◌||◌, cond, Option, Some, None, List, [], ◌∷◌}
use Rattle.std.proofs.Common.{refl, sym, ◌∙◌, ap, subst}
use Rattle.std.specs.Prelude.{IfSome, option_and_then}
use Rattle.std.specs.Option.{option_map_or}
use Rattle.std.proofs.lemmas.List.Elements.{All-from_recursion}
use Rattle.nm_types.specs.declared.answers.Answer.{Answer}
use Rattle.nm_types.specs.declared.answers.Answer.TheVariants.{Got}
use Rattle.nm_types.specs.declared.messages.Arrival.{Arrival}
use Rattle.nm_types.specs.Commands.{Numbered}
use Rattle.nm_history.specs.declared.events.Event.{Event}
use Rattle.nm_history.specs.declared.plain.Pair.{Pair}
use Rattle.nm_history.specs.Completion.{pair_of_receive}
use Rattle.nm_history.specs.Delivery.{pair_of_request}
use Rattle.nm_history.specs.Matching.{is_of_message, is_of_receive, matched_pairs}
use Rattle.nm_history.specs.Sends.{Sent, is_ask, message_of}
use Rattle.nm_history.proofs.OnceLemmas.{find_among}
use Rattle.nm_history.specs.Bytes.{eager_bytes, piece_bytes}
use Rattle.nm_history.specs.Continues.{has}
use Rattle.nm_history.specs.Known.{nothing_known}
use Rattle.nm_history.specs.Rules.{AreRight}
use Rattle.nm_history.proofs.Basic.{refuted}
use Rattle.nm_receiving.specs.Receipts.{bytes_of, came_of}
use Rattle.nm_request.specs.declared.Kind.{Kind}
use Rattle.nm_request.specs.declared.Kind.TheVariants as kind
use Rattle.nm_request.specs.declared.Req.{Req}
use Rattle.nm_request.specs.Requests.{kind_of}
use Rattle.nm_channels.specs.Moments.{LogEntry, history_of, pulled_from, taken_from}
use Rattle.nm_channels.specs.Sound.{bytes_of_message}
use Rattle.nm_rank.specs.Ranks.{RankView, request_of}
use Rattle.nm_rank.specs.Requests.{Finishes, ShowsBytes}
use Rattle.nm_rank.proofs.ResultLemmas.{finished_as}
use Rattle.nm_global.specs.Calls.{ShowsLogged, given_after}
use Rattle.nm_global.specs.Logged.{HasBytes, IsLogged, IsNotOf, IsUngiven, came_by}
use Rattle.nm_global.proofs.Once.{one_receive, pairs_apart, pairs_named}
use Rattle.nm_global.proofs.Requests.{freed_request}
use Rattle.nm_global.proofs.LogTaken.{IsKept, kept_counts, kept_taken}
use Rattle.nm_types.proofs.NumberLemmas.{eq_true}

kept : (v v' : RankView) (r : Req) (answer : Answer) → Finishes r answer v v' → IsKept v v'
kept v v' r answer ends =
    record {
      sizes = ap (λ (v : RankView). v.sizes) ends.same;
      known = ap (λ (v : RankView). v.known) ends.same;
      took = ap (λ (v : RankView). v.took) ends.same;
      pulled = ap (λ (v : RankView). v.pulled) ends.same;
      drawn = ends.drawn;
    }

kept_bytes : (v v' : RankView) (log : List LogEntry) (given : List ℕ) (r : Req) (k : Kind) (answer : Answer) →
    kind_of v.requests r ≡ Some k → Finishes r answer v v' → HasBytes v log given →
    HasBytes v' log (given_after k given)
kept_bytes v v' log given r k answer is ends old a ungiven =
    by_kind k is (subst (λ (h : List Event). IsUngiven h (given_after k given) a)
    (ap (λ (v : RankView). v.events) ends.same) ungiven)
  where
    by_kind : (k : Kind) → kind_of v.requests r ≡ Some k → IsUngiven v.events (given_after k given) a →
        came_of v'.receiving a ≡ came_by log a
    by_kind (kind.Send to n) is ungiven =
        ends.bytes a (ap (λ (o : Option Kind). option_map_or (is_of_message a.env.from a.n)
        (option_and_then (λ k. pair_of_request v.events (request_of k)) o) false) is)
        ∙ old a ungiven
    by_kind (kind.Receive number) is ungiven =
        ends.bytes a (ap (λ (o : Option Kind). option_map_or (is_of_message a.env.from a.n)
        (option_and_then (λ k. pair_of_request v.events (request_of k)) o) false) is ∙ ungiven.0)
        ∙ old a ungiven.1

pub result_kept : (eager : ℕ) (bodies : Sent → List ℕ) (commands : List Numbered) (v v' : RankView)
    (log : List LogEntry) (given : List ℕ) (r : Req) (k : Kind) (answer : Answer) →
    IsLogged eager bodies commands v log given → kind_of v.requests r ≡ Some k →
    Finishes r answer v v' → IsLogged eager bodies commands v' log (given_after k given)
result_kept eager bodies commands v v' log given r k answer old is ends =
    let events = ap (λ (v : RankView). v.events) ends.same in
    record {
      sound = old.sound;
      limit = ap (λ (v : RankView). v.sizes.eager) ends.same ∙ old.limit;
      events = events ∙ old.events;
      clock = ap (λ (v : RankView). v.clock) ends.same ∙ old.clock;
      counts = kept_counts v v' (kept v v' r answer ends) old.counts;
      taken = kept_taken v v' log (kept v v' r answer ends) old.taken;
      bytes = kept_bytes v v' log given r k answer is ends old.bytes;
      requests = freed_request v v' given r k events is ends.freed old.requests;
    }

-- the message of a receive whose result was not given was given by no receive
ungiven : (ranks : ℕ) (h : List Event) (number : ℕ) (pair : Pair) → AreRight ranks [] h →
    pair_of_receive h number ≡ Some pair → (given : List ℕ) → has given number ≡ false →
    IsUngiven h given pair.arrival
ungiven ranks h number pair right found [] none = tt
ungiven ranks h number pair right found (g ∷ given) none =
    by_test (g == number) refl none (ungiven ranks h number pair right found given)
  where
    by_pair : (o : Option Pair) → pair_of_receive h g ≡ o → (g == number) ≡ false →
        option_map_or (is_of_message pair.arrival.env.from pair.arrival.n) o false ≡ false
    by_pair None is other = refl
    by_pair (Some q) is other = refuted _ (λ same.
        sym (eq_true g number
        (sym (one_receive (matched_pairs h) number g pair q (pairs_apart ranks h right) found is same)))
        ∙ other)

    by_test : (b : Bool) → (g == number) ≡ b → (b || has given number) ≡ false →
        (has given number ≡ false → IsUngiven h given pair.arrival) →
        IsNotOf h pair.arrival g × IsUngiven h given pair.arrival
    by_test true is none later = cc
    by_test false is none later = (by_pair (pair_of_receive h g) refl is, later none)

-- a message's bytes by the log, by its number and by its arrival
bytes_are : (log : List LogEntry) (h : List Event) (a : Arrival) → h ≡ history_of log →
    message_of h a.env.from a.n ≡ Some a → came_by log a ≡ bytes_of_message log a.env.from a.n
bytes_are log h a same named =
    ap (λ (o : Option Arrival). cond (option_map_or (λ a. is_ask a.env.how) o false)
    (piece_bytes a.n (pulled_from a.env.from log))
    (eager_bytes a.n nothing_known (taken_from a.env.from log)))
    (sym named ∙ ap (λ (k : List Event). message_of k a.env.from a.n) same)

-- the pair's message is the one of its rank and number
abbrev IsNamed : List Event → Pair → Type 0
IsNamed h pair = message_of h pair.arrival.env.from pair.arrival.n ≡ Some pair.arrival

-- the bytes of a pair's message by the log
abbrev bytes_with : List LogEntry → Pair → List ℕ
bytes_with log pair = bytes_of_message log pair.arrival.env.from pair.arrival.n

pub result_shows : (eager : ℕ) (bodies : Sent → List ℕ) (commands : List Numbered) (v v' : RankView)
    (log : List LogEntry) (given : List ℕ) (r : Req) (k : Kind) (answer : Answer) →
    IsLogged eager bodies commands v log given → AreRight v.sizes.ranks [] v.events →
    kind_of v.requests r ≡ Some k → Finishes r answer v v' → ShowsLogged log v.events k answer
result_shows eager bodies commands v v' log given r k answer old right is ends =
    by_answer answer (finished_as v v' r answer k is ends).bytes
  where
    by_pair : (number : ℕ) (body : List ℕ) (o : Option Pair) → pair_of_receive v.events number ≡ o →
        has given number ≡ false → IfSome o (λ pair. bytes_of v.receiving pair.arrival ≡ Some body) →
        IfSome o (λ pair. body ≡ bytes_with log pair)
    by_pair number body None found none bytes = tt
    by_pair number body (Some pair) found none bytes =
        let named = find_among (IsNamed v.events)
        (is_of_receive number) (matched_pairs v.events) pair
        (All-from_recursion _ (matched_pairs v.events) (pairs_named v.sizes.ranks v.events right)) found in
        sym (ap (λ (o : Option (List ℕ)). option_map_or (λ bytes. bytes) o []) bytes)
        ∙ old.bytes pair.arrival (ungiven v.sizes.ranks v.events number pair right found given none)
        ∙ bytes_are log v.events pair.arrival old.events named

    by_kind : (k : Kind) → kind_of v.requests r ≡ Some k → (body : List ℕ) →
        IfSome (pair_of_request v.events (request_of k))
        (λ pair. bytes_of v.receiving pair.arrival ≡ Some body) →
        IfSome (pair_of_request v.events (request_of k)) (λ pair. body ≡ bytes_with log pair)
    by_kind (kind.Send to n) is body bytes = tt
    by_kind (kind.Receive number) is body bytes =
        by_pair number body (pair_of_receive v.events number) refl (old.requests.live r number is).0 bytes

    by_answer : (answer : Answer) → ShowsBytes v k answer → ShowsLogged log v.events k answer
    by_answer (Got from tag body) bytes = by_kind k is body bytes
    by_answer answer bytes = tt
