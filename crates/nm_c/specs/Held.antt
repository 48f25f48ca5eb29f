-- What a `Rank` owns: the same as a `Box<Handle>`.
use base.Fml.{Fml}
use base.Stored.{Coded}
use denote.RawPtr.{Ptr}
use Rattle.std.specs.Box.Ownership.{box_owns}
use Rattle.std.specs.Global.{Global}
use Rattle.std_heap.specs.contracts.GlobalAllocator.TheImpl.{ghosts}
use Rattle.nm_handle.specs.contracts.handles.Handle.{the_row}

abbrev pub rank_owns : Global → Ptr → the_row.Denot → Fml
rank_owns alloc = box_owns (ghosts.dealloc_token alloc) the_row

abbrev pub handle_coded : Coded the_row.Denot
handle_coded = the_row.coded
