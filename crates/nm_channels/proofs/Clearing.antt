-- The messages that a rank cleared are those that it paired, in that order.
use Rattle.std.proofs.Common.{◌≡◌, ℕ, ◌+◌, ◌==◌, Bool, true, false, cond, Option, Some, None, List, [], ◌∷◌, ◌++◌}
use Rattle.std.proofs.Common.{map, refl, sym, ◌∙◌, ap, append-nil, append_assoc}
use Rattle.std.specs.List.{AllByRecursion, filter, filter_map, cons_option}
use Rattle.std.specs.Option.{option_map_or, option_to_list}
use Rattle.std.proofs.lemmas.List.{map-append}
use Rattle.std.proofs.lemmas.List.Elements.{filter_map-append, filter-append}
use Rattle.nm_types.specs.declared.packets.What.{What}
use Rattle.nm_types.specs.declared.packets.What.TheVariants as what
use Rattle.nm_history.specs.declared.events.Event.{Event}
use Rattle.nm_history.specs.declared.events.Happened.{Happened}
use Rattle.nm_history.specs.declared.events.Happened.TheVariants.{Send, Post, Arrive, Match, Recall, Withdraw}
use Rattle.nm_history.specs.declared.plain.Pair.{Pair}
use Rattle.nm_history.specs.AtEach.{in_turn, in_turn_after}
use Rattle.nm_history.specs.Sends.{Sent}
use Rattle.nm_history.specs.Matching.{matched_pairs, new_pair}
use Rattle.nm_history.specs.Outgoing.{Called, outgoing, packets_by, send_packets, clear_packets, is_clear, bare}
use Rattle.nm_history.proofs.MatchingLemmas.{matched_pairs-push}
use Rattle.nm_history.specs.Known.{Taken, known_by, nothing_known}
use Rattle.nm_history.specs.Continues.{is_of_stream}
use Rattle.nm_channels.proofs.Streams.{clear_of, cleared_by}
use Rattle.nm_channels.proofs.Streaming.{Carries}
use Rattle.nm_channels.proofs.Clashing.{send_stream}
use Rattle.nm_channels.proofs.Made.{known_cleared}

-- the numbers of the messages of a rank that were sent by asking and are in these pairs
abbrev pub asked_numbers : ℕ → List Pair → List ℕ
asked_numbers i pairs = map (λ (pair : Pair). pair.arrival.n) (filter (is_clear i) pairs)

-- the messages that packets clear
abbrev clears_in : List Called → List ℕ
clears_in cs = filter_map (λ (c : Called). cleared_by c.what) cs

pair_clears : (i stamp : ℕ) (o : Option Pair) → clears_in (option_map_or (clear_packets i stamp) o [])
    ≡ asked_numbers i (option_to_list o)
pair_clears i stamp None = refl
pair_clears i stamp (Some pair) = by_test (is_clear i pair) where
  by_test : (b : Bool) → clears_in (cond b (bare stamp (what.Clear pair.arrival.n) ∷ []) []) ≡ map
      (λ (pair : Pair). pair.arrival.n) (cond b (pair ∷ []) [])
  by_test true = refl
  by_test false = refl

stream_clears : (cs : List Called) → AllByRecursion (λ (c : Called). is_of_stream c.what ≡ true) cs → clears_in cs ≡ []
stream_clears [] stream = refl
stream_clears (c ∷ cs) stream = by_what c.what stream.0 (stream_clears cs stream.1) where
  by_what : (w : What) → is_of_stream w ≡ true → clears_in cs ≡ [] → cons_option (cleared_by w) (clears_in cs) ≡ []
  by_what (what.Clear n) is later = cc
  by_what w is later = later

event_clears : (bodies : Sent → List ℕ) (i : ℕ) (b : List Event) (stamp : ℕ) (w : Happened) →
    clears_in (packets_by bodies i b stamp w) ≡ asked_numbers i (option_to_list (new_pair b (matched_pairs b) w))
event_clears bodies i b stamp (Send to n tag ctx len how line) = by_test (to == i) where
  s : Sent
  s = record { stamp = stamp; to = to; n = n; tag = tag; ctx = ctx; len = len; how = how; line = line }

  by_test : (b : Bool) → clears_in (cond b (send_packets s (bodies s)) []) ≡ []
  by_test true = stream_clears (send_packets s (bodies s)) (send_stream s (bodies s))
  by_test false = refl
event_clears bodies i b stamp (Recall to n) = by_test (to == i) where
  by_test : (b : Bool) → clears_in (cond b (bare stamp (what.Withdraw n) ∷ []) []) ≡ []
  by_test true = refl
  by_test false = refl
event_clears bodies i b stamp (Withdraw from n done) = by_test (from == i) where
  by_test : (b : Bool) → clears_in (cond b (bare stamp (what.Withdrawn n done) ∷ []) []) ≡ []
  by_test true = refl
  by_test false = refl
event_clears bodies i b stamp (Post p line) = pair_clears i stamp (new_pair b (matched_pairs b) (Post p line))
event_clears bodies i b stamp (Arrive a) = pair_clears i stamp (new_pair b (matched_pairs b) (Arrive a))
event_clears bodies i b stamp (Match number from n cap line) = pair_clears i stamp
    (new_pair b (matched_pairs b) (Match number from n cap line))
event_clears bodies i b stamp w = refl

pub asked_numbers-append : (i : ℕ) (pairs more : List Pair) → asked_numbers i (pairs ++ more) ≡ asked_numbers i pairs
    ++ asked_numbers i more
asked_numbers-append i pairs more =
    ap (λ (ps : List Pair). map (λ (pair : Pair). pair.arrival.n) ps) (filter-append (is_clear i) pairs more)
    ∙ map-append (λ (pair : Pair). pair.arrival.n) (filter (is_clear i) pairs) (filter (is_clear i) more)

history_clears : (bodies : Sent → List ℕ) (i : ℕ) (b xs : List Event) → asked_numbers i (matched_pairs (b ++ xs))
    ≡ asked_numbers i (matched_pairs b) ++ clears_in
    (in_turn_after (λ before e. packets_by bodies i before e.stamp e.what) b xs)
history_clears bodies i b [] = ap (λ (h : List Event). asked_numbers i (matched_pairs h)) (append-nil b)
    ∙ sym (append-nil (asked_numbers i (matched_pairs b)))
history_clears bodies i b (e ∷ xs) =
    let rest : List Called = in_turn_after (λ before e. packets_by bodies i before e.stamp e.what) (b ++ e ∷ []) xs in
    let now : List ℕ = asked_numbers i (matched_pairs b) in
    ap (λ (h : List Event). asked_numbers i (matched_pairs h)) (sym (append_assoc b (e ∷ []) xs))
    ∙ history_clears bodies i (b ++ e ∷ []) xs
    ∙ ap (λ (ns : List ℕ). ns ++ clears_in rest) (ap (λ (ps : List Pair). asked_numbers i ps) (matched_pairs-push b e)
    ∙ asked_numbers-append i (matched_pairs b) (option_to_list (new_pair b (matched_pairs b) e.what)))
    ∙ append_assoc now (asked_numbers i (option_to_list (new_pair b (matched_pairs b) e.what))) (clears_in rest)
    ∙ ap (λ (ns : List ℕ). now ++ (ns ++ clears_in rest)) (sym (event_clears bodies i b e.stamp e.what))
    ∙ ap (λ (ns : List ℕ). now ++ ns)
    (sym (filter_map-append (λ (c : Called). cleared_by c.what) (packets_by bodies i b e.stamp e.what) rest))

-- the clearances that a history calls for are of the pairs
outgoing_clears : (bodies : Sent → List ℕ) (i : ℕ) (h : List Event) →
    clears_in (outgoing bodies h i) ≡ asked_numbers i (matched_pairs h)
unfolding in_turn matched_pairs
outgoing_clears bodies i h = sym (history_clears bodies i [] h)

carried_clears : (j num : ℕ) (called : List Called) (ts : List Taken) → Carries j num called ts →
    AllByRecursion (λ t. t.continued ≡ true) ts → filter_map clear_of ts ≡ clears_in called
carried_clears j num [] [] carries goes = refl
carried_clears j num [] (t ∷ ts) carries goes = absurd carries
carried_clears j num (c ∷ called) [] carries goes = absurd carries
carried_clears j num (c ∷ called) (t ∷ ts) carries goes =
    rw (goes.0, carries.0.same, carried_clears j (num + 1) called ts carries.1 goes.1) refl

-- the messages that were cleared are those of the pairs
pub cleared_are_paired : (bodies : Sent → List ℕ) (i j : ℕ) (h : List Event) (ts : List Taken) →
    Carries j 0 (outgoing bodies h i) ts → AllByRecursion (λ t. t.continued ≡ true) ts →
    (known_by ts).cleared ≡ asked_numbers i (matched_pairs h)
cleared_are_paired bodies i j h ts carries goes = known_cleared nothing_known ts
    ∙ carried_clears j 0 (outgoing bodies h i) ts carries goes ∙ outgoing_clears bodies i h
