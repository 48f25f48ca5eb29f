-- The messages that are claimed and not yet received. MPI 3.1, 3.8.2 and 3.8.3.
use Rattle.std.specs.Prelude.{◌≡◌, ℕ, ◌==◌, ◌&&◌, true, Some, List, is_some}
use Rattle.std.specs.List.{All, find}
use Rattle.std.specs.Map.{lookup}
use Rattle.nm_types.specs.declared.messages.Arrival.{Arrival}
use Rattle.nm_history.specs.Matching.{is_claimed, matched_pairs}
use Rattle.nm_history.specs.Sends.{message_of, messages}
use Rattle.nm_match.specs.declared.deeds.Deed.{Deed}
use Rattle.nm_match.specs.declared.names.Message.{Message}
use Rattle.nm_match.specs.Deeds.{history_of}
use Rattle.nm_match.specs.Names.{same_message}

-- this is the first of the messages that has its name
abbrev pub IsNamed : List Arrival → Arrival → Type 0
IsNamed ms a = find (λ b. b.env.from == a.env.from && b.n == a.n) ms ≡ Some a

-- message n of a rank is in memory
pub record IsNoted (claimed : List (Message × Arrival)) (deeds : List Deed) (from n : ℕ) : Type 0 where
  pub arrival : Arrival
  pub found : lookup (same_message (record { rank = from; n = n })) claimed ≡ Some arrival
  pub is : message_of (history_of deeds) from n ≡ Some arrival

-- No name is twice among the messages, and exactly those that are claimed and not yet received are in memory.
pub record AreNoted (claimed : List (Message × Arrival)) (deeds : List Deed) : Type 0 where
  pub named : All (IsNamed (messages (history_of deeds))) (messages (history_of deeds))
  pub each :
      (from n : ℕ) → is_claimed (history_of deeds) (matched_pairs (history_of deeds)) from n ≡ true →
      IsNoted claimed deeds from n
  pub only :
      (from n : ℕ) → is_some (lookup (same_message (record { rank = from; n = n })) claimed) ≡ true →
      is_claimed (history_of deeds) (matched_pairs (history_of deeds)) from n ≡ true
