-- The live requests of a rank. MPI 3.1, section 3.7.1 (a request identifies a send or a receive
-- that was started).
use Rattle.std.specs.Prelude.{◌≡◌, ◌≢◌, ℕ, ◌+◌, ◌<◌, ◌≤◌, ◌==◌, if◌then◌else◌}
use Rattle.std.specs.Prelude.{List, slice_index_or, Option, Some, None, IsSome}
use Rattle.nm_request.specs.declared.Kind.{Kind}
use Rattle.nm_request.specs.declared.Req.{Req}

-- what is live under each key, with the turn of its request; how many requests were added so far;
-- and for how many more there is room
pub record Live : Type 0 where
  pub slots : List (Option (ℕ × Kind))
  pub added : ℕ
  pub spare : ℕ

-- the kind of the slot's request, if that has this turn
abbrev pub kind_at_turn : ℕ → Option (ℕ × Kind) → Option Kind
kind_at_turn turn None = None
kind_at_turn turn (Some p) = if p.0 == turn then Some p.1 else None

-- the map: what a live request stands for
abbrev pub kind_of : Live → Req → Option Kind
kind_of live r = kind_at_turn r.turn (slice_index_or live.slots r.key None)

-- each live request was added before, so that the next one is new
abbrev pub AllAreOlder : Live → Type 0
AllAreOlder live = (r : Req) → IsSome (kind_of live r) → r.turn < live.added

-- the same requests, and no less room
pub record SameRequests (old new : Live) : Type 0 where
  pub requests : new ≡ record old { spare = new.spare }
  pub room : old.spare ≤ new.spare

-- this request of this kind is live beside the others, and its turn is the number of requests that
-- were added before it
pub record AddsRequest (old new : Live) (r : Req) (kind : Kind) : Type 0 where
  pub turn : r.turn ≡ old.added
  pub counted : new.added ≡ old.added + 1
  pub live : kind_of new r ≡ Some kind
  pub others : (q : Req) → q ≢ r → kind_of new q ≡ kind_of old q
  pub room : old.spare ≤ new.spare + 1

-- this request is no longer live, the others are as they were, and there is room for one more
pub record FreesRequest (old new : Live) (r : Req) : Type 0 where
  pub counted : new.added ≡ old.added
  pub gone : kind_of new r ≡ None
  pub others : (q : Req) → q ≢ r → kind_of new q ≡ kind_of old q
  pub room : 0 < new.spare
