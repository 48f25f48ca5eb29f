-- A rank and its parts own what a box at the same types owns.
use mir.Syntax.{impl, tnil, dnil}
use mathlib.Core.List.{[]}
use denote.Signature.{Slot, plain}
use Rattle.std_alloc.proofs.BoxSteps.Form.{Bx}
use Rattle.std_heap.specs.contracts.Global as Heap
use Rattle.std_heap.specs.contracts.GlobalAllocator.TheImpl.{ghosts, dict}
use Rattle.std_heap.proofs.Global.TheLaws as heap
use Rattle.nm_handle.specs.contracts.handles.Handle as Handle
use Rattle.nm_handle.proofs.handles.Handle.TheLaws as handle
use Rattle.nm_c.specs.contracts.parts.Parts as Parts
use Rattle.nm_c.specs.contracts.Rank as Rank

abbrev pub E : Bx
E = record {
  row = Handle.the_row;
  laws = handle.the_row_laws;
  al = record {
    row = Heap.the_row;
    laws =
        heap.the_row_laws;
    g = ghosts;
    d = dict;
    drops = impl [] tnil dnil;
  };
}

abbrev pub FromParts : Slot 0
FromParts = plain (λ _. Parts.the_row Handle.the_row Heap.the_row ghosts)

abbrev pub FromRank : Slot 0
FromRank = plain (λ _. Rank.the_row)
