-- The ranks of a world, one more.
use Rattle.std.proofs.Common.{◌≡◌, ℕ, ◌+◌, suc, List, [], ◌∷◌, ◌++◌, length, ap, subst, ◌∙◌, arith}
use Rattle.std.specs.List.{AllByRecursion, AllZip}
use Rattle.std.proofs.lemmas.Slice.Zip.{AllZip-long}
use Rattle.nm_types.specs.Sizes.{Sizes}
use Rattle.nm_handle.specs.declared.handles.Handle.{Handle}
use Rattle.nm_types.specs.declared.packets.Packet.{Packet}
use Rattle.nm_cells.specs.declared.port.Fabric.{Fabric}
use Rattle.nm_copyring.specs.declared.port.Rings.{Rings}
use Rattle.nm_world.specs.Actors.{Seat, seat_of}
use Rattle.nm_handle.specs.Standing.{AreNew, HasTurned, IsNewAt}
use Rattle.nm_handle.specs.Worlds.{AreInOrder, AreOfOneWorld, AreRanksFrom, AreWorld, IsRankAt, IsRankOf, IsSameRank}

pub new_push : (shape : Sizes) (k : ℕ) (hs : List Handle) (h : Handle) → AreNew shape k hs →
    IsNewAt shape (k + length hs) h → AreNew shape k (hs ++ h ∷ [])
new_push shape k [] h new one =
    let same : k + 0 ≡ k = omega arith in (subst (λ (n : ℕ). IsNewAt shape n h) same one, tt)
new_push shape k (x ∷ hs) h new one =
    let same : k + suc (length hs) ≡ (k + 1) + length hs = omega arith in
    (new.0, new_push shape (k + 1) hs h new.1 (subst (λ (n : ℕ). IsNewAt shape n h) same one))

pub ranks_push : (shape : Sizes) (f : Fabric Packet) (r : Rings) (k : ℕ) (hs : List Handle) (h : Handle) →
    AreRanksFrom shape f r k hs → IsRankAt shape f r (k + length hs) h → AreRanksFrom shape f r k (hs ++ h ∷ [])
ranks_push shape f r k [] h each one =
    let same : k + 0 ≡ k = omega arith in (subst (λ (n : ℕ). IsRankAt shape f r n h) same one, tt)
ranks_push shape f r k (x ∷ hs) h each one =
    let same : k + suc (length hs) ≡ (k + 1) + length hs = omega arith in
    (each.0, ranks_push shape f r (k + 1) hs h each.1 (subst (λ (n : ℕ). IsRankAt shape f r n h) same one))

ranks_stay : (shape : Sizes) (f : Fabric Packet) (r : Rings) (k : ℕ) (hs gs : List Handle) →
    AreRanksFrom shape f r k hs → AllZip IsSameRank hs gs → AreRanksFrom shape f r k gs
ranks_stay shape f r k [] [] each same = tt
ranks_stay shape f r k [] (g ∷ gs) each same = absurd same
ranks_stay shape f r k (h ∷ hs) [] each same = absurd same
ranks_stay shape f r k (h ∷ hs) (g ∷ gs) each same =
    let was = each.0 in
    let is = same.0 in (
      record {
        fabric = is.fabric ∙ was.fabric;
        rings = is.rings ∙ was.rings;
        own = is.shape ∙ was.own;
        seat = is.seat ∙ was.seat;
      },
      ranks_stay shape f r (k + 1) hs gs each.1 same.1,
    )

pub world_stays : (shape : Sizes) (hs gs : List Handle) → AreWorld shape hs → AllZip IsSameRank hs gs →
    AreWorld shape gs
world_stays shape hs gs w same = record {
  fabric = w.fabric;
  rings = w.rings;
  ranks = w.ranks;
  cells = w.cells;
  each = ranks_stay shape w.fabric w.rings 0 hs gs w.each same;
  many = AllZip-long IsSameRank hs gs same ∙ w.many;
}

-- ranks of one world, in order
seated : (shape : Sizes) (f : Fabric Packet) (r : Rings) (k : ℕ) (h g : Handle) → IsRankOf shape f r h →
    HasTurned h g → (seat_of g.player.actor).rank ≡ k → IsRankAt shape f r k g
seated shape f r k h g is turned at =
    let same = turned.same in
    let sizes = ap (λ (s : Seat). s.sizes) same.seat ∙ is.sizes in
    record {
      fabric = same.fabric ∙ is.fabric;
      rings = same.rings ∙ is.rings;
      own = same.shape ∙ is.own;
      seat = ap (λ (n : ℕ). record { rank = n; sizes = (seat_of g.player.actor).sizes }) at
          ∙ ap (λ (s : Sizes). record { rank = k; sizes = s }) sizes;
    }

all_seated : (shape : Sizes) (f : Fabric Packet) (r : Rings) (k : ℕ) (hs gs : List Handle) →
    AllByRecursion (IsRankOf shape f r) hs → AllZip HasTurned hs gs → AreInOrder k gs → AreRanksFrom shape f r k gs
all_seated shape f r k [] [] each turned order = tt
all_seated shape f r k [] (g ∷ gs) each turned order = absurd turned
all_seated shape f r k (h ∷ hs) [] each turned order = absurd turned
all_seated shape f r k (h ∷ hs) (g ∷ gs) each turned order = (
  seated shape f r k h g each.0 turned.0 order.0,
  all_seated shape f r (k + 1) hs gs each.1 turned.1 order.1,
)

pub world_in_order : (hs gs : List Handle) (w : AreOfOneWorld hs) → AllZip HasTurned hs gs → AreInOrder 0 gs →
    length gs ≡ w.shape.ranks → AreWorld w.shape gs
world_in_order hs gs w turned order many = record {
  fabric = w.fabric;
  rings = w.rings;
  ranks = w.ranks;
  cells = w.cells;
  each = all_seated w.shape w.fabric w.rings 0 hs gs w.each turned order;
  many = many;
}
