-- What comes of packets and pieces makes events of no command.
use Rattle.std.proofs.Common.{◌≡◌, ℕ, ◌+◌, ◌==◌, Bool, true, false, ◌&&◌, Option, Some, None, List, []}
use Rattle.std.proofs.Common.{◌∷◌, ◌++◌, length, refl, sym, subst, append_assoc, append-nil}
use Rattle.std.specs.Prelude.{if◌then◌else◌}
use Rattle.std.specs.List.{list_all}
use Rattle.nm_types.specs.declared.packets.Piece.{Piece}
use Rattle.nm_types.specs.declared.packets.What.{What}
use Rattle.nm_types.specs.declared.packets.What.TheVariants as what
use Rattle.nm_history.specs.declared.events.Event.{Event}
use Rattle.nm_history.specs.declared.events.Happened.{Happened}
use Rattle.nm_history.specs.declared.events.Happened.TheVariants.{Out}
use Rattle.nm_history.specs.AtEach.{AtEachAfter}
use Rattle.nm_history.specs.RankRun.{NumberAt}
use Rattle.nm_history.specs.Underway.{is_of_packet}
use Rattle.nm_history.specs.Clock.{stamped}
use Rattle.nm_history.specs.Effects.{ask_ends, is_empty_send, packet_events, packet_makes, taken_events}
use Rattle.nm_history.specs.Effects.{whole_if}
use Rattle.nm_history.specs.Known.{Known, Taken}
use Rattle.nm_history.specs.Pieces.{Due, is_due, piece_makes}
use Rattle.nm_history.specs.Rules.{AreRight, IsRightAt}
use Rattle.nm_sending.specs.Sent.{outs}
use Rattle.nm_rank.specs.Ranks.{RankView}
use Rattle.nm_process.specs.declared.steps.Handle.{Handle}
use Rattle.nm_process.specs.Names.{AreHeld}
use Rattle.nm_process.proofs.HeldLemmas.{all_held, held_after, packets_leave}
use Rattle.nm_types.proofs.TruthLemmas.{both, and_left, and_right}
use Rattle.nm_history.proofs.Right.{right-numbers}

-- all of what happened comes of packets
abbrev pub are_of_packets : List Happened → Bool
are_of_packets ws = list_all is_of_packet ws

pub stamped_of_packets : (clock : ℕ) (ws : List Happened) → are_of_packets ws ≡ true →
    list_all (λ e. is_of_packet e.what) (stamped clock ws) ≡ true
stamped_of_packets clock [] all = refl
stamped_of_packets clock (w ∷ ws) all = both (is_of_packet w) _
    (and_left (is_of_packet w) (are_of_packets ws) all)
    (stamped_of_packets (clock + 1) ws (and_right (is_of_packet w) (are_of_packets ws) all))

both_of_packets : (ws more : List Happened) → are_of_packets ws ≡ true → are_of_packets more ≡ true →
    are_of_packets (ws ++ more) ≡ true
both_of_packets [] more first rest = rest
both_of_packets (w ∷ ws) more first rest = both (is_of_packet w) _
    (and_left (is_of_packet w) (are_of_packets ws) first)
    (both_of_packets ws more (and_right (is_of_packet w) (are_of_packets ws) first) rest)

pub whole_of_packets : (b : Bool) (from n : ℕ) → are_of_packets (whole_if b from n) ≡ true
whole_of_packets true from n = refl
whole_of_packets false from n = refl

pub outs_of_packets : (o : Option (ℕ × ℕ)) → are_of_packets (outs o) ≡ true
outs_of_packets None = refl
outs_of_packets (Some m) = refl

pub piece_of_packets : (from : ℕ) (o : Option Due) (q : Piece) →
    are_of_packets (piece_makes from o q) ≡ true
piece_of_packets from None q = refl
piece_of_packets from (Some due) q = whole_of_packets (is_due q due && due.last) from q.n

makes_of_packets : (known : Known) (h : List Event) (from : ℕ) (w : What) (size : ℕ) →
    are_of_packets (packet_makes known h from w size) ≡ true
makes_of_packets known h from (what.Head tag ctx len) size = whole_of_packets (len == size) from known.count
makes_of_packets known h from (what.More n) size = whole_of_packets (known.missing == size) from n
makes_of_packets known h from (what.Ask tag ctx len) size = refl
makes_of_packets known h from (what.Clear n) size = by_test (is_empty_send h from n) where
  by_test : (b : Bool) → are_of_packets (if b then Out from n ∷ [] else []) ≡ true
  by_test true = refl
  by_test false = refl
makes_of_packets known h from (what.Withdraw n) size = refl
makes_of_packets known h from (what.Withdrawn n done) size = refl

ends_of_packets : (known : Known) (h : List Event) (from : ℕ) (w : What) →
    are_of_packets (ask_ends known h from w) ≡ true
ends_of_packets known h from (what.Ask tag ctx len) = whole_of_packets _ from known.count
ends_of_packets known h from (what.Head tag ctx len) = refl
ends_of_packets known h from (what.More n) = refl
ends_of_packets known h from (what.Clear n) = refl
ends_of_packets known h from (what.Withdraw n) = refl
ends_of_packets known h from (what.Withdrawn n done) = refl

pub packet_of_packets : (known : Known) (h : List Event) (t : Taken) →
    are_of_packets (taken_events known h t) ≡ true
packet_of_packets known h t = by_test t.continued where
  by_test : (b : Bool) → are_of_packets (if b then packet_events known h t.packet.from t.packet.what
      (length t.packet.payload) else []) ≡ true
  by_test true = both_of_packets (packet_makes known h t.packet.from t.packet.what
      (length t.packet.payload)) (ask_ends known h t.packet.from t.packet.what)
      (makes_of_packets known h t.packet.from t.packet.what (length t.packet.payload))
      (ends_of_packets known h t.packet.from t.packet.what)
  by_test false = refl

-- a rule of each event, before some place and after it
pub after_parts : (R : List Event → Event → Type 0) (before events more : List Event) →
    AtEachAfter R before (events ++ more) → AtEachAfter R before events
    × AtEachAfter R (before ++ events) more
after_parts R before [] more each = (tt, rw append-nil each)
after_parts R before (e ∷ events) more each =
    let rest = after_parts R (before ++ e ∷ []) events more each.1 in (
      (each.0, rest.0),
      subst (λ (k : List Event). AtEachAfter R k more)
          (append_assoc before (e ∷ []) events) rest.1,
    )

pub after_weaker : (R S : List Event → Event → Type 0) (before events : List Event) →
    ((h : List Event) (e : Event) → R h e → S h e) → AtEachAfter R before events →
    AtEachAfter S before events
after_weaker R S before [] f each = tt
after_weaker R S before (e ∷ events) f each =
    (f before e each.0, after_weaker R S (before ++ e ∷ []) events f each.1)

-- the handles stand for held messages while packets and pieces come
pub packets_hold : (ranks : ℕ) (h events : List Event) (handles : List (ℕ × Handle)) →
    AreRight ranks [] (h ++ events) → list_all (λ e. is_of_packet e.what) events ≡ true →
    AreHeld h handles → AreHeld (h ++ events) handles
packets_hold ranks h events handles right all held =
    let parts = after_parts (λ h e. IsRightAt ranks h e.what) [] h events right in
    let numbers = after_weaker (λ h e. IsRightAt ranks h e.what) (λ h e. NumberAt ranks h e.what) h events
    (λ h e is. is.numbers) parts.1 in
    all_held h (h ++ events) handles
    (λ x is. held_after x h events (packets_leave ranks x h events (right-numbers ranks h parts.0)
    numbers all) is) held

-- the same, of a rank for which this happened
pub packets_hold_at : (v w : RankView) (start : ℕ) (ws : List Happened) (handles : List (ℕ × Handle)) →
    w.events ≡ v.events ++ stamped start ws →
    AreRight w.sizes.ranks [] w.events → are_of_packets ws ≡ true → AreHeld v.events handles →
    AreHeld w.events handles
packets_hold_at v w start ws handles is right all held =
    subst (λ (k : List Event). AreHeld k handles) (sym is)
    (packets_hold w.sizes.ranks v.events (stamped start ws) handles
    (subst (λ (k : List Event). AreRight w.sizes.ranks [] k) is right) (stamped_of_packets start ws all)
    held)
