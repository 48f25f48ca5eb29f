-- Why packets were sent, and which packets made events.
use Rattle.std.proofs.Common.{◌≡◌, ℕ, zero, suc, ◌+◌, ◌≤◌, ◌==◌, Bool, true, false, cond, Option, Some, None, List}
use Rattle.std.proofs.Common.{[], ◌∷◌, ◌++◌, map, refl, sym, ◌∙◌, ap, subst, append_assoc, arith}
use Rattle.std.specs.List.{AllByRecursion, range_with_len}
use Rattle.std.specs.Option.{option_map_or}
use Rattle.nm_types.specs.declared.messages.How.{How}
use Rattle.nm_types.specs.declared.messages.How.TheVariants as how
use Rattle.nm_types.specs.declared.packets.What.{What}
use Rattle.nm_types.specs.declared.packets.What.TheVariants as what
use Rattle.nm_history.specs.declared.events.Event.{Event}
use Rattle.nm_history.specs.declared.events.Happened.{Happened}
use Rattle.nm_history.specs.declared.events.Happened.TheVariants.{Send, Post, Arrive, Match, Recall, Withdraw}
use Rattle.nm_history.specs.declared.plain.Pair.{Pair}
use Rattle.nm_history.specs.AtEach.{in_turn_after, in_turn}
use Rattle.nm_history.specs.Sends.{Sent, is_ask}
use Rattle.nm_history.specs.Matching.{matched_pairs, new_pair}
use Rattle.nm_history.specs.Outgoing.{Called, outgoing, packets_by, send_packets, eager_packets, clear_packets}
use Rattle.nm_history.specs.Outgoing.{is_clear, bare}
use Rattle.nm_history.specs.Known.{Taken}
use Rattle.nm_channels.proofs.Streaming.{Carries}
use Rattle.nm_types.proofs.ListLemmas.{all_append, all_along}
use Rattle.nm_types.proofs.NumberLemmas.{same_number}

-- the event that such a packet to this rank is of, after the events before it
abbrev pub Origin : ℕ → List Event → Happened → What → Type 0
Origin to before w (what.Withdraw n) = w ≡ Recall to n
Origin to before w (what.Withdrawn n done) = w ≡ Withdraw to n done
Origin to before w (what.Clear n) =
    (pair : Pair) × (new_pair before (matched_pairs before) w ≡ Some pair) × (is_clear to pair ≡ true)
    × (pair.arrival.n ≡ n)
Origin to before w _ = Unit {0}

-- why a packet was called for
pub record Source (to : ℕ) (h : List Event) (stamp : ℕ) (what : What) : Type 0 where
  pub before : List Event
  pub event : Event
  pub after : List Event
  pub split : h ≡ before ++ event ∷ after
  pub since : event.stamp ≤ stamp
  pub origin : Origin to before event.what what

-- a packet called for at an event
abbrev CalledAt : ℕ → List Event → Event → Called → Type 0
CalledAt to before e c = (c.stamp ≡ e.stamp) × Origin to before e.what c.what

-- packets of a message have no other source
abbrev IsOfMessage : ℕ → Called → Type 0
IsOfMessage stamp c = (c.stamp ≡ stamp) × ((to : ℕ) (before : List Event) (w : Happened) → Origin to before w c.what)

mores_of : (s : Sent) (body : List ℕ) (f : ℕ → List ℕ) (m k : ℕ) → AllByRecursion (IsOfMessage s.stamp)
    (map (λ k. record { stamp = s.stamp; what = what.More s.n; payload = f k }) (range_with_len k m))
mores_of s body f zero k = tt
mores_of s body f (suc m) k = ((refl, λ to before w. tt), mores_of s body f m (k + 1))

send_of : (s : Sent) (body : List ℕ) → AllByRecursion (IsOfMessage s.stamp) (send_packets s body)
send_of s body = by_how s.how where
  by_how : (h : How) → AllByRecursion (IsOfMessage s.stamp)
      (cond (is_ask h) (bare s.stamp (what.Ask s.tag s.ctx s.len) ∷ []) (eager_packets s body))
  by_how how.Ask = ((refl, λ to before w. tt), tt)
  by_how how.Eager = ((refl, λ to before w. tt), mores_of s body _ _ 1)

pair_calls : (to : ℕ) (before : List Event) (stamp : ℕ) (w : Happened) (o : Option Pair) →
    new_pair before (matched_pairs before) w ≡ o → AllByRecursion (λ c. (c.stamp ≡ stamp) × Origin to before w c.what)
    (option_map_or (clear_packets to stamp) o [])
pair_calls to before stamp w None new = tt
pair_calls to before stamp w (Some pair) new = by_test (is_clear to pair) refl where
  by_test : (b : Bool) → is_clear to pair ≡ b → AllByRecursion (λ c. (c.stamp ≡ stamp) × Origin to before w c.what)
      (cond b (bare stamp (what.Clear pair.arrival.n) ∷ []) [])
  by_test true test = ((refl, (pair, new, test, refl)), tt)
  by_test false test = tt

pub event_calls : (bodies : Sent → List ℕ) (to : ℕ) (before : List Event) (stamp : ℕ) (w : Happened) →
    AllByRecursion (λ c. (c.stamp ≡ stamp) × Origin to before w c.what) (packets_by bodies to before stamp w)
event_calls bodies to before stamp (Send to' n tag ctx len how line) = by_test (to' == to) where
  s : Sent
  s = record { stamp = stamp; to = to'; n = n; tag = tag; ctx = ctx; len = len; how = how; line = line }

  by_test : (b : Bool) →
      AllByRecursion (λ c. (c.stamp ≡ stamp) × Origin to before (Send to' n tag ctx len how line) c.what)
      (cond b (send_packets s (bodies s)) [])
  by_test true = all_along (IsOfMessage stamp)
      (λ (c : Called). (c.stamp ≡ stamp) × Origin to before (Send to' n tag ctx len how line) c.what)
      (send_packets s (bodies s)) (λ c is. (is.0, is.1 to before (Send to' n tag ctx len how line)))
      (send_of s (bodies s))
  by_test false = tt
event_calls bodies to before stamp (Recall to' n) = by_test (to' == to) refl where
  by_test : (b : Bool) →
      (to' == to) ≡ b → AllByRecursion (λ c. (c.stamp ≡ stamp) × Origin to before (Recall to' n) c.what)
      (cond b (bare stamp (what.Withdraw n) ∷ []) [])
  by_test true test = ((refl, ap (λ (k : ℕ). Recall k n) (same_number to' to test)), tt)
  by_test false test = tt
event_calls bodies to before stamp (Withdraw from n done) = by_test (from == to) refl where
  by_test : (b : Bool) →
      (from == to) ≡ b → AllByRecursion (λ c. (c.stamp ≡ stamp) × Origin to before (Withdraw from n done) c.what)
      (cond b (bare stamp (what.Withdrawn n done) ∷ []) [])
  by_test true test = ((refl, ap (λ (k : ℕ). Withdraw k n done) (same_number from to test)), tt)
  by_test false test = tt
event_calls bodies to before stamp (Post p line) = pair_calls to before stamp (Post p line) _ refl
event_calls bodies to before stamp (Arrive a) = pair_calls to before stamp (Arrive a) _ refl
event_calls bodies to before stamp (Match number from n cap line) = pair_calls to before stamp
    (Match number from n cap line) _ refl
event_calls bodies to before stamp w = tt

-- each packet that a history calls for has its source
sources : (bodies : Sent → List ℕ) (to : ℕ) (h before events : List Event) → h ≡ before ++ events →
    AllByRecursion (λ c. Source to h c.stamp c.what)
    (in_turn_after (λ before e. packets_by bodies to before e.stamp e.what) before events)
sources bodies to h before [] same = tt
sources bodies to h before (e ∷ events) same =
    all_append (λ (c : Called). Source to h c.stamp c.what) (packets_by bodies to before e.stamp e.what) _
    (all_along (λ (c : Called). (c.stamp ≡ e.stamp) × Origin to before e.what c.what)
    (λ (c : Called). Source to h c.stamp c.what) (packets_by bodies to before e.stamp e.what)
    (λ c is. record {
      before = before;
      event = e;
      after = events;
      split = same;
      since = omega (arith, is.0);
      origin =
          is.1;
    }) (event_calls bodies to before e.stamp e.what))
    (sources bodies to h (before ++ e ∷ []) events (same ∙ sym (append_assoc before (e ∷ []) events)))

-- each packet that was taken has its source
abbrev pub HasSource : ℕ → List Event → Taken → Type 0
HasSource to h t = Source to h t.packet.stamp t.packet.what

carried_sources : (i num to : ℕ) (h : List Event) (called : List Called) (ts : List Taken) → Carries i num called ts →
    AllByRecursion (λ c. Source to h c.stamp c.what) called → AllByRecursion (HasSource to h) ts
carried_sources i num to h [] [] carries each = tt
carried_sources i num to h [] (t ∷ ts) carries each = absurd carries
carried_sources i num to h (c ∷ called) [] carries each = absurd carries
carried_sources i num to h (c ∷ called) (t ∷ ts) carries each =
    let source = each.0 in (
      record {
        before = source.before;
        event = source.event;
        after = source.after;
        split = source.split;
        since = omega (arith, source.since, carries.0.later);
        origin = subst (λ (w : What). Origin to source.before source.event.what w) (sym carries.0.same) source.origin;
      },
      carried_sources i (num + 1) to h called ts carries.1 each.1,
    )

pub taken_sources : (bodies : Sent → List ℕ) (i to : ℕ) (h : List Event) (ts : List Taken) →
    Carries i 0 (outgoing bodies h to) ts → AllByRecursion (HasSource to h) ts
unfolding in_turn
taken_sources bodies i to h ts carries = carried_sources i 0 to h (outgoing bodies h to) ts carries
    (sources bodies to h [] h refl)
