-- As many parcels have those numbers as there are numbers.
use Rattle.std.proofs.Common.{◌≡◌, ℕ, zero, suc, ◌<◌, Some, None, List, [], ◌∷◌, length, map, sym, ap, ◌∙◌, subst}
use Rattle.std.proofs.Common.{arith}
use Rattle.std.specs.List.{slice_get}
use Rattle.nm_chain.specs.Rule.{from, put_to}
use Rattle.nm_cells.specs.declared.port.Port.{Port}
use Rattle.nm_cells.specs.Counted.{peer_in}
use Rattle.nm_cells.specs.Ports.{knows, sent_by, taken_by}
use Rattle.nm_cells.specs.PathLists.{entry_in, peers_in, sent_parcels, taken_parcels}
use Rattle.nm_cells.specs.ClosedLists.{counted, entries, ranks_of, sent_list, taken_list}
use Rattle.nm_port.proofs.Listed.{begins_whole, listed_is}
use Rattle.nm_port.proofs.carried.laws.a_close_carries.Goals as goal

entry_is : {A : Type 0} (ports : List (Port A)) (i : ℕ) (p : Port A) → slice_get ports i ≡ Some p →
    entry_in (map knows ports) i ≡ knows p
entry_is [] i p is = cc
entry_is (x ∷ ports) zero p is = ap knows (one is) where
  one : {B : Type 0} {x y : Port B} → Some x ≡ Some y → x ≡ y
  one e = cc
entry_is (x ∷ ports) (suc i) p is = entry_is ports i p is

place_below : {A : Type 0} (ports : List (Port A)) (j : ℕ) (p : Port A) → slice_get ports j ≡ Some p → j < length (map knows ports)
place_below [] j p is = absurd (none is) where
  none : None ≡ Some p → ⊥
  none e = cc
place_below (x ∷ ports) zero p is = omega arith
place_below (x ∷ ports) (suc j) p is = let low = place_below ports j p is in omega (arith, low)

pub returns-clause-sent : goal.returns-clause-sent
returns-clause-sent g c seen closed ports i j p bs knew at count is =
    let here : entry_in (entries closed) i ≡ knows p = ap (λ es. entry_in es i) knew ∙ entry_is ports i p at in
    let list : sent_list closed i j ≡ sent_parcels (knows p) j = ap (λ e. sent_parcels e j) here in
    ap (map seen) list ∙ listed_is seen (put_to j (knows p).put_box) (put_to j (knows p).put) bs (sent_by p j) is.many
    (sym (ap length list) ∙ count) is.listed

pub returns-clause-taken : goal.returns-clause-taken
returns-clause-taken g c seen closed ports i j p bs knew at within count is =
    let here : entry_in (entries closed) j ≡ knows p = ap (λ es. entry_in es j) knew ∙ entry_is ports j p at in
    let low : j < ranks_of closed = subst (λ es. j < length es) (sym knew) (place_below ports j p at) in
    let tally : (peer_in (peers_in (counted closed) j) i).taken ≡ length (taken_list closed i j) =
    closed.tallied.taken i j within low in
    let list : taken_list closed i j ≡ taken_parcels (knows p) (taken_by p i) i =
    ap (λ e. taken_parcels e (peer_in (peers_in (counted closed) j) i).taken i) here
    ∙ ap (λ t. taken_parcels (knows p) t i) (tally ∙ count) in
    ap (map seen) list ∙ listed_is seen (from i (knows p).got_box) (from i (knows p).got) bs (taken_by p i) is.many
    (sym (ap length list) ∙ count) is.listed

pub returns-clause-whole : goal.returns-clause-whole
returns-clause-whole g c closed i j begins many =
    begins_whole (taken_list closed i j) (sent_list closed i j) begins many
