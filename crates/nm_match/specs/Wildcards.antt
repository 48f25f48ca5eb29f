-- The messages that wait, in buckets by what receives with a wildcard name.
use Rattle.std.specs.Prelude.{◌≡◌, ℕ, List, Option, IfSome, filter}
use Rattle.nm_types.specs.declared.messages.Arrival.{Arrival}
use Rattle.nm_types.specs.declared.messages.Peer.TheVariants as peer
use Rattle.nm_types.specs.declared.messages.TagPick.TheVariants as tag
use Rattle.nm_match.specs.declared.buckets.Buckets.{Buckets}
use Rattle.nm_match.specs.declared.picks.Picks.{Picks}
use Rattle.nm_match.specs.declared.wildcards.Wildcards.{Wildcards}
use Rattle.nm_match.specs.Buckets.{bucket_of}
use Rattle.nm_match.specs.Picks.{picks_of_arrival, same_picks}

-- the same source in the same context, and any tag
abbrev pub with_any_tag : Picks → Picks
with_any_tag k = record { from = k.from; tag = tag.Any; ctx = k.ctx }

-- the same tag in the same context, and any source
abbrev pub with_any_source : Picks → Picks
with_any_source k = record { from = peer.Any; tag = k.tag; ctx = k.ctx }

-- any source and any tag in the same context
abbrev pub with_any_message : Picks → Picks
with_any_message k = record { from = peer.Any; tag = tag.Any; ctx = k.ctx }

-- the buckets have what the queue has under each name, in the same order
abbrev pub AreUnder : (Picks → Picks) → List (ℕ × Arrival) → Buckets Arrival → Type 0
AreUnder name queue b =
    (k : Picks) → bucket_of b.map k ≡ filter (λ x. same_picks k (name (picks_of_arrival x.1))) queue

-- the queue stands under each wildcard
pub record AreByWildcard (queue : List (ℕ × Arrival)) (w : Wildcards) : Type 0 where
  pub any_tag : AreUnder with_any_tag queue w.any_tag
  pub any_source : AreUnder with_any_source queue w.any_source
  pub any_message : AreUnder with_any_message queue w.any_message

-- where there are such buckets, they have the queue
abbrev pub IndexQueue : List (ℕ × Arrival) → Option Wildcards → Type 0
IndexQueue queue o = IfSome o (λ w. AreByWildcard queue w)
