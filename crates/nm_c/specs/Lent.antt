-- What a `&mut` to the handle of a rank does to the rank.
use base.Fml.{Fml}
use denote.Ref.{MutBor}
use denote.Follow.{follows}
use Rattle.nm_handle.specs.contracts.handles.Handle as handle
use Rattle.nm_c.specs.declared.Rank.{Rank}
use Rattle.nm_c.specs.contracts.Rank as rank
use Rattle.nm_handle.specs.declared.handles.Handle.{Handle}

-- the rank with another handle
abbrev pub with_handle : Rank → Handle → Rank
with_handle h w = record { ptr = h.ptr; alloc = h.alloc; value = w }

-- once the borrow r ends, the rank behind b holds the last handle written through r
abbrev pub handle_follows : MutBor Rank → MutBor Handle → Fml
handle_follows b r = follows rank.the_row handle.the_row b.ghost_name r.ghost_name (with_handle b.now)
