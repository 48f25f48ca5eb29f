-- The packets of a cut.
use Rattle.std.proofs.Common.{◌≡◌, ℕ, ◌+◌, ◌<◌, ◌==◌, cond, List, Some, ap, ◌∙◌, refl, arith}
use Rattle.std.proofs.Common.{zero, suc, map, slice_get}
use Rattle.std.specs.List.{range_with_len}
use Rattle.std.proofs.lemmas.List.FromFn.{get_or-map-range_with_len, length-map-range_with_len}
use Rattle.std.proofs.lemmas.Option.{slice_get-get_or}
use Rattle.nm_types.specs.declared.limits.TheConstants.{MAX_PAYLOAD}
use Rattle.nm_types.specs.declared.packets.What.TheVariants as what
use Rattle.nm_history.specs.Sends.{Sent}
use Rattle.nm_history.specs.Outgoing.{Called, eager_packets, further_packets, part_at}
use Rattle.nm_types.proofs.NumberLemmas.{unequal}

-- the packet at a place of a cut
pub packet-at : (s : Sent) (body : List ℕ) (given : ℕ) → given < 1 + further_packets s.len
    → slice_get (eager_packets s body) given ≡ Some (record {
      stamp = s.stamp;
      what = cond (given == 0) (what.Head s.tag s.ctx s.len) (what.More s.n);
      payload = part_at MAX_PAYLOAD body given;
    })
packet-at s body zero h = refl
packet-at s body (suc k) h =
    let more : ℕ → Called = λ j. record {
      stamp = s.stamp;
      what = what.More s.n;
      payload = part_at MAX_PAYLOAD body j;
    } in
    let m = further_packets s.len in
    let within : k < m = omega arith in
    let long = length-map-range_with_len more 1 m in
    rw (unequal (suc k) 0 (λ never. omega arith)) (slice_get-get_or (map more (range_with_len 1 m)) k
    (more 0) (omega arith) ∙ ap (λ (c : Called). Some c) (get_or-map-range_with_len more 1 m k (suc k)
    (more 0) within (omega arith)))
