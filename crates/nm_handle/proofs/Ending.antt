-- The calls of all ranks of a world at its end.
use Rattle.std.proofs.Common.{◌≡◌, ℕ, zero, suc, ◌+◌, ◌<◌, Option, Some, List, [], ◌∷◌, get_or, length, map, refl, ap, subst, arith}
use Rattle.std.proofs.Common.{◌∙◌}
use Rattle.std.specs.Prelude.{slice_get, unwrap_or}
use Rattle.std.specs.List.{AllByRecursion, AllZip}
use Rattle.nm_types.specs.declared.packets.Packet.{Packet}
use Rattle.nm_types.specs.declared.scripts.Command.{Command}
use Rattle.nm_types.specs.Commands.{Numbered}
use Rattle.nm_types.specs.Sizes.{Sizes}
use Rattle.nm_types.proofs.ListLemmas.{get_map}
use Rattle.nm_cells.specs.declared.port.Fabric.{Fabric}
use Rattle.nm_copyring.specs.declared.port.Rings.{Rings}
use Rattle.nm_channels.specs.Finished.{AreInRange}
use Rattle.nm_process.specs.Playing.{AllInRange, all_numbered}
use Rattle.nm_process.proofs.PlayLemmas.{numbered_in_range}
use Rattle.nm_rank.specs.declared.journal.erased.Erased.{Erased}
use Rattle.nm_world.specs.declared.players.Player.{Player}
use Rattle.nm_world.specs.Actors.{Seat}
use Rattle.nm_world.specs.Players.{AreGiven}
use Rattle.nm_world.specs.Records.{ended_from}
use Rattle.nm_world.specs.Runs.{InPlace}
use Rattle.nm_calls.specs.Calling.{CallsView, ahead, gave, shown}
use Rattle.nm_handle.specs.declared.handles.Handle.{Handle}
use Rattle.nm_handle.specs.declared.ends.Unended.{Unended}
use Rattle.nm_handle.specs.declared.ends.Unended.TheVariants as unended
use Rattle.nm_handle.specs.Ends.{AreUnderWay, HasEndedSo, IsWhy, KeepsOpen, calls_by_rank}
use Rattle.nm_handle.specs.Standing.{calls_of}
use Rattle.nm_handle.specs.Worlds.{AreRanksFrom, IsRankAt}

pub first_ranked : (shape : Sizes) (f : Fabric Packet) (r : Rings) (hs : List Handle) (d : Handle) → 0 < length hs →
    AreRanksFrom shape f r 0 hs → IsRankAt shape f r 0 (get_or hs 0 d)
first_ranked shape f r [] d some each = absurd (omega (arith, some))
first_ranked shape f r (h ∷ hs) d some each = each.0

-- the calls of one rank
pub calls_at : (hs : List Handle) (i : ℕ) (h : Handle) → slice_get hs i ≡ Some h →
    calls_by_rank hs (0 + i) ≡ all_numbered 2 (ahead (calls_of h))
calls_at hs i h at =
    ap (λ (o : Option (List Command)). all_numbered 2 (unwrap_or o []))
    (ap (λ (n : ℕ). slice_get (map (λ (x : Handle). ahead (calls_of x)) hs) n) (omega arith)
    ∙ get_map (λ (x : Handle). ahead (calls_of x)) hs i h at)

pub calls_given : (commands : ℕ → List Numbered) (k : ℕ) (hs : List Handle) →
    ((i : ℕ) (h : Handle) → slice_get hs i ≡ Some h → commands (k + i) ≡ all_numbered 2 (ahead (calls_of h))) →
    AreGiven gave commands k (map (λ (x : Player CallsView Erased). x.source) (map (λ (h : Handle). h.player) hs))
calls_given commands k [] each = tt
calls_given commands k (h ∷ hs) each =
    let own : commands k ≡ all_numbered 2 (ahead (calls_of h)) =
    ap (λ (n : ℕ). commands n) (omega arith) ∙ each 0 h refl in (
      record { before = (calls_of h).at + 1; gives = (own, refl) },
      calls_given commands (k + 1) hs (λ i x at. ap (λ (n : ℕ). commands n) (omega arith) ∙ each (suc i) x at),
    )

-- they are in range
ranges : (shape : Sizes) (f : Fabric Packet) (r : Rings) (k : ℕ) (hs : List Handle) →
    AllByRecursion (λ (x : Player CallsView Erased). AllInRange x.source.ranks (ahead x.source))
    (map (λ (h : Handle). h.player) hs) → InPlace shown gave shape f r k (map (λ (h : Handle). h.player) hs) →
    AllByRecursion (λ (h : Handle). AllInRange shape.ranks (ahead (calls_of h))) hs
ranges shape f r k [] all place = tt
ranges shape f r k (h ∷ hs) all place =
    let seat = place.1 in (
      subst (λ (n : ℕ). AllInRange n (ahead (calls_of h))) (place.0.ranks ∙ ap (λ (s : Seat). s.sizes.ranks) seat)
          all.0,
      ranges shape f r (k + 1) hs all.1 place.2,
    )

range_at : (n : ℕ) (hs : List Handle) → AllByRecursion (λ (h : Handle). AllInRange n (ahead (calls_of h))) hs →
    (i : ℕ) →
    AllInRange n (unwrap_or (slice_get (map (λ (h : Handle). ahead (calls_of h)) hs) i) [])
range_at n [] all i = tt
range_at n (h ∷ hs) all zero = all.0
range_at n (h ∷ hs) all (suc i) = range_at n hs all.1 i

pub calls_in_range : (shape : Sizes) (f : Fabric Packet) (r : Rings) (hs : List Handle) →
    AllByRecursion (λ (x : Player CallsView Erased). AllInRange x.source.ranks (ahead x.source))
    (map (λ (h : Handle). h.player) hs) → InPlace shown gave shape f r 0 (map (λ (h : Handle). h.player) hs) →
    AreInRange shape.ranks (calls_by_rank hs)
calls_in_range shape f r hs all place i =
    numbered_in_range 2 shape.ranks (unwrap_or (slice_get (map (λ (h : Handle). ahead (calls_of h)) hs) i) [])
    (range_at shape.ranks hs (ranges shape f r 0 hs all place) i)

-- what became of each
pub ended_so : (commands : ℕ → List Numbered) (k : ℕ) (hs : List Handle) →
    AllZip HasEndedSo hs (ended_from commands k (map (λ (h : Handle). h.player) hs))
ended_so commands k [] = tt
ended_so commands k (h ∷ hs) = (record { at = refl; events = refl }, ended_so commands (k + 1) hs)

-- why players have no end, their ranks have none
pub why_open : (hs : List Handle) (ps : List (Player CallsView Erased)) (e : Unended) →
    ps ≡ map (λ (h : Handle). h.player) hs → KeepsOpen ps e → IsWhy hs e
why_open hs ps unended.Failed same why = absurd why
why_open hs ps unended.Moves same why = subst AreUnderWay same why
why_open hs ps unended.Shared same why = tt
why_open hs ps unended.Memory same why = tt
