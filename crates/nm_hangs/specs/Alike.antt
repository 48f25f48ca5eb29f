-- States of a rank that go on alike: they differ in what ended requests were told, and in which of the messages that
-- came their receives took (MPI 3.1, 3.5 and 3.7.3).
use Rattle.std.specs.Prelude.{◌≡◌, ◌⊎◌, ℕ, ◌≤◌, ◌&&◌, Bool, true, false, Option, Some, None, List, count_by}
use Rattle.std.specs.Prelude.{find, map, nat_lt}
use Rattle.std.specs.Cmp.Lexicographic.{pointwise}
use Rattle.std.specs.List.{list_all, list_any}
use Rattle.nm_types.specs.contracts.messages.ArrivalPartialEq.TheImpl.{ghosts as arrival_eq}
use Rattle.nm_types.specs.declared.scripts.Line.{Line}
use Rattle.nm_history.specs.contracts.plain.PairPartialEq.TheImpl.{ghosts as pair_eq}
use Rattle.nm_history.specs.declared.plain.Pair.{Pair}
use Rattle.nm_history.specs.Completion.Request.{Receiving}
use Rattle.nm_history.specs.Matching.{is_of_message, is_of_receive}
use Rattle.nm_match.specs.contracts.names.MessagePartialEq.TheImpl.{ghosts as message_eq}
use Rattle.nm_outcomes.specs.contracts.spots.deeds.ReceivePartialEq.TheImpl.{ghosts as receive_eq}
use Rattle.nm_outcomes.specs.declared.spots.deeds.Deed.{Deed}
use Rattle.nm_outcomes.specs.declared.spots.deeds.Deed.TheVariants as deed
use Rattle.nm_outcomes.specs.declared.spots.deeds.Reply.{Reply}
use Rattle.nm_outcomes.specs.declared.spots.deeds.Reply.TheVariants as reply
use Rattle.nm_outcomes.specs.Looks.{is_answer_by, is_receive_by, live_in, request_in}
use Rattle.nm_outcomes.specs.RankStates.{Spot}
use Rattle.nm_explored.specs.Lines.{line_in}

-- a reply without the message that it shows
abbrev pub plain_reply : Reply → Reply
plain_reply (reply.Got from tag line) = reply.Sent
plain_reply (reply.Cut from tag len) = reply.Sent
plain_reply (reply.Seen seen) = reply.Seen (record { from = 0; tag = 0; len = 0 })
plain_reply r = r

-- a deed without it
abbrev pub plain : Deed → Deed
plain (deed.Ran line r) = deed.Ran line (plain_reply r)
plain d = d

-- A receive of this number may still be asked for its message: a name stands for it, or its start has no answer yet, or
-- it was not started.
abbrev pub IsAsked : List Line → ℕ → List Deed → ℕ → Type 0
IsAsked lines i deeds number =
    ((q : ℕ) × (live_in lines i deeds q ≡ Some (Receiving number)))
    ⊎ (((line place : ℕ) × (request_in deeds line ≡ Some (Receiving number)) × (count_by is_answer_by deeds ≤ place)
    × (line_in lines i place ≡ Some line))
    ⊎ (count_by is_receive_by deeds ≤ number))

-- a test whether two states have the same open receives and messages
abbrev pub have_same : Spot → Spot → Bool
have_same a b =
    pointwise receive_eq.eq a.receives b.receives
    && (pointwise arrival_eq.eq a.free b.free
    && (pointwise arrival_eq.eq a.came b.came && pointwise message_eq.eq a.withdrawn b.withdrawn))

-- a test whether two receives have the same message, or neither has one
abbrev pub same_pair : Option Pair → Option Pair → Bool
same_pair (Some p) (Some q) = pair_eq.eq p q
same_pair None None = true
same_pair _ _ = false

-- .. whether all that is paired in one state is in the other one, whatever the receive and its message are to each
-- other
abbrev pub are_there : List Pair → List Pair → Bool
are_there xs ys =
    list_all (λ p. list_any (is_of_receive p.number) ys
    && list_any (is_of_message p.arrival.env.from p.arrival.n) ys) xs

-- .. whether two states have the same pairs, where these receives have the same messages
abbrev pub pair_same : Spot → Spot → List ℕ → Bool
pair_same a b numbers =
    are_there a.pairs b.pairs
    && (are_there b.pairs a.pairs
    && (list_all (λ p. nat_lt p.number (count_by is_receive_by a.deeds)) a.pairs
    && list_all (λ number. same_pair (find (is_of_receive number) a.pairs) (find (is_of_receive number) b.pairs))
    numbers))

-- two states of rank i go on alike
pub record IsAlike (lines : List Line) (i : ℕ) (x y : Spot) : Type 0 where
  pub deeds : map plain x.deeds ≡ map plain y.deeds
  pub receives : x.receives ≡ y.receives
  pub free : x.free ≡ y.free
  pub came : x.came ≡ y.came
  pub withdrawn : x.withdrawn ≡ y.withdrawn
  pub taken : (from n : ℕ) → list_any (is_of_message from n) x.pairs ≡ list_any (is_of_message from n) y.pairs
  pub paired : (number : ℕ) → list_any (is_of_receive number) x.pairs ≡ list_any (is_of_receive number) y.pairs
  pub asked : (number : ℕ) → IsAsked lines i x.deeds number →
      find (is_of_receive number) x.pairs ≡ find (is_of_receive number) y.pairs

-- so do these, or neither is there
abbrev pub IsAlikeOr : List Line → ℕ → Option Spot → Option Spot → Type 0
IsAlikeOr lines i None None = Unit {0}
IsAlikeOr lines i (Some x) (Some y) = IsAlike lines i x y
IsAlikeOr lines i _ _ = ⊥

-- so do the states of all ranks
abbrev pub AreAlike : List Line → (ℕ → Option Spot) → (ℕ → Option Spot) → Type 0
AreAlike lines v w = (i : ℕ) → IsAlikeOr lines i (v i) (w i)
