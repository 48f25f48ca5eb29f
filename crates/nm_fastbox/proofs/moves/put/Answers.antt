use Rattle.std.proofs.Common.{ℕ, List, [], ◌∷◌, Some, true, false, refl, ap, ◌∙◌, arith}
use Rattle.std.proofs.lemmas.List.{set-set}
use Rattle.nm_chain.specs.Plays.{with_filling, with_put_box}
use Rattle.nm_chain.specs.Rule.{Load, sent_to}
use Rattle.nm_cells.specs.Ports.{knows}
use Rattle.nm_fastbox.proofs.PutLemmas.{sent_box}
use Rattle.nm_fastbox.proofs.moves.put.Goals as goal

pub returns-clause-puts : goal.returns-clause-puts
returns-clause-puts g c = let p = c.args.port.now in let to = c.args.to in
    let sent : List (ℕ × Load _) = (to, Some c.args.parcel.value) ∷ [] in
    let free = c.if-not-load_box_out.ensures.free refl in let b = c.fill_box.ensures in
    let hands = b.hands in let boxes = free.2 in record {
      put = b.put ∙ (λ i. with_put_box sent (with_filling to false (free.1 i)))
          ∙ (λ i. with_put_box sent (record (knows p) {
            filling = set-set (knows p).filling to true false i;
          }));
      sent = λ n j. (ap (λ e. sent_to j e.put_box e.put) (b.put
          ∙ (λ i. with_put_box ((to, Some c.args.parcel.value) ∷ []) (with_filling to false (free.1 i))))
          ∙ sent_box (knows p).put_box (knows p).put to (Some c.args.parcel.value) j) n;
      hands = hands ∙ boxes;
    }

pub returns-then-not-load_box_out-clause-full : goal.returns-then-not-load_box_out-clause-full
returns-then-not-load_box_out-clause-full g c = let full = c.if-not-load_box_out.ensures.full refl in
    (refl, record { counted = full.0; hands = full.1 })

pub returns-clause-cost : goal.returns-clause-cost
returns-clause-cost g c = let first = c.load_box_out.ensures.cost in let then = c.fill_box.ensures.cost in
    omega (arith, first, then)
