-- The ranks of one world.
use Rattle.std.specs.Prelude.{◌≡◌, ℕ, ◌+◌, List, [], ◌∷◌, length}
use Rattle.std.specs.Arc.{arc_value}
use Rattle.std.specs.List.{AllByRecursion}
use Rattle.nm_types.specs.declared.packets.Packet.{Packet}
use Rattle.nm_types.specs.Sizes.{Sizes}
use Rattle.nm_cells.specs.declared.port.Fabric.{Fabric}
use Rattle.nm_copyring.specs.declared.port.Rings.{Rings}
use Rattle.nm_world.specs.Actors.{seat_of}
use Rattle.nm_handle.specs.declared.handles.Handle.{Handle}

-- b is the same rank of the same world as a
pub record IsSameRank (a b : Handle) : Type 0 where
  pub fabric : arc_value b.fabric ≡ arc_value a.fabric
  pub rings : arc_value b.rings ≡ arc_value a.rings
  pub shape : b.shape ≡ a.shape
  pub seat : seat_of b.player.actor ≡ seat_of a.player.actor

-- a handle is rank k of the world of this shape that has this fabric and these rings
pub record IsRankAt (shape : Sizes) (f : Fabric Packet) (r : Rings) (k : ℕ) (h : Handle) : Type 0 where
  pub fabric : arc_value h.fabric ≡ f
  pub rings : arc_value h.rings ≡ r
  pub own : h.shape ≡ shape
  pub seat : seat_of h.player.actor ≡ record { rank = k; sizes = shape }

-- so it is with each of these, from rank k on
abbrev pub AreRanksFrom : Sizes → Fabric Packet → Rings → ℕ → List Handle → Type 0
AreRanksFrom shape f r k [] = Unit {0}
AreRanksFrom shape f r k (h ∷ hs) = IsRankAt shape f r k h × AreRanksFrom shape f r (k + 1) hs

-- these are all ranks of one world of this shape, in order (the processes of a communicator: MPI 3.1, 6.4.1)
pub record AreWorld (shape : Sizes) (handles : List Handle) : Type 0 where
  pub fabric : Fabric Packet
  pub rings : Rings
  pub ranks : (fabric.ranks ≡ shape.ranks) × (rings.ranks ≡ shape.ranks)
  pub cells : fabric.each ≡ shape.cells
  pub each : AreRanksFrom shape fabric rings 0 handles
  pub many : length handles ≡ shape.ranks

-- a handle is a rank of the world of this shape that has this fabric and these rings
pub record IsRankOf (shape : Sizes) (f : Fabric Packet) (r : Rings) (h : Handle) : Type 0 where
  pub fabric : arc_value h.fabric ≡ f
  pub rings : arc_value h.rings ≡ r
  pub own : h.shape ≡ shape
  pub sizes : (seat_of h.player.actor).sizes ≡ shape

-- these are ranks of one world, be they all or not, in whichever order
pub record AreOfOneWorld (handles : List Handle) : Type 0 where
  pub shape : Sizes
  pub fabric : Fabric Packet
  pub rings : Rings
  pub ranks : (fabric.ranks ≡ shape.ranks) × (rings.ranks ≡ shape.ranks)
  pub cells : fabric.each ≡ shape.cells
  pub each : AllByRecursion (IsRankOf shape fabric rings) handles

-- the numbers of these ranks are those from k on
abbrev pub AreInOrder : ℕ → List Handle → Type 0
AreInOrder k [] = Unit {0}
AreInOrder k (h ∷ hs) = ((seat_of h.player.actor).rank ≡ k) × AreInOrder (k + 1) hs
