-- When two keys of buckets are the same, and the key of each thing that waits.
use Rattle.std.specs.Prelude.{ℕ, ◌+◌, ◌*◌, ◌==◌, Bool, true, false, not, ◌&&◌, ◌||◌}
use Rattle.nm_types.specs.declared.messages.Arrival.{Arrival}
use Rattle.nm_types.specs.declared.messages.Peer.{Peer}
use Rattle.nm_types.specs.declared.messages.Peer.TheVariants as peer
use Rattle.nm_types.specs.declared.messages.Post as post
use Rattle.nm_types.specs.declared.messages.TagPick.{TagPick}
use Rattle.nm_types.specs.declared.messages.TagPick.TheVariants as tag
use Rattle.nm_match.specs.declared.picks.Picks.{Picks}

-- the same source, or any source both
abbrev pub same_peer : Peer → Peer → Bool
same_peer peer.Any peer.Any = true
same_peer (peer.One a) (peer.One b) = a == b
same_peer _ _ = false

-- the same tag, or any tag both
abbrev pub same_tag : TagPick → TagPick → Bool
same_tag tag.Any tag.Any = true
same_tag (tag.One a) (tag.One b) = a == b
same_tag _ _ = false

-- the same source, the same tag and the same context
abbrev pub same_picks : Picks → Picks → Bool
same_picks a b = same_peer a.from b.from && same_tag a.tag b.tag && a.ctx == b.ctx

-- a source as a number, and any source as 0
abbrev pub peer_code : Peer → ℕ
peer_code peer.Any = 0
peer_code (peer.One rank) = 1 + rank

-- a tag as a number, and any tag as 0
abbrev pub tag_code : TagPick → ℕ
tag_code tag.Any = 0
tag_code (tag.One t) = 1 + t

-- a source, a tag and a context as one number: that of a source is below 512, that of a tag below 2^17
abbrev pub code_of : Picks → ℕ
code_of a = peer_code a.from + 512 * tag_code a.tag + 67108864 * a.ctx

-- what a posted receive names
abbrev pub picks_of_post : post.Post → Picks
picks_of_post p = record { from = p.from; tag = p.tag; ctx = p.ctx }

-- what names the source, the tag and the context of a message
abbrev pub picks_of_arrival : Arrival → Picks
picks_of_arrival a = record { from = peer.One a.env.from; tag = tag.One a.env.tag; ctx = a.env.ctx }

-- a receive that names the first selects what the second names
abbrev pub fits_picks : Picks → Picks → Bool
fits_picks wanted key =
    wanted.ctx == key.ctx && (same_peer wanted.from peer.Any || same_peer wanted.from key.from)
    && (same_tag wanted.tag tag.Any || same_tag wanted.tag key.tag)

-- a source and a tag are named
abbrev pub names_both : Picks → Bool
names_both wanted = not (same_peer wanted.from peer.Any) && not (same_tag wanted.tag tag.Any)
