-- What a step on the head of an own queue leaves of a port.
use Rattle.std.proofs.Common.{◌≡◌, ◌*◌, ◌<◌, [], ◌∷◌, length, ap, ◌∙◌}
use Rattle.nm_chain.specs.Spoken.{view}
use Rattle.nm_chain.specs.declared.table.table.Heads.{Heads}
use Rattle.nm_chain.specs.declared.table.table.Misses.{Misses}
use Rattle.nm_chain.specs.Plays.{Knowing, mine, with_heads, with_missed}
use Rattle.nm_chain.specs.OwnQueues.{OwnQueue, receive_queue, free_queue}
use Rattle.nm_cells.specs.declared.port.Port.{Port}
use Rattle.nm_cells.specs.declared.port.Fabric.{Fabric}
use Rattle.nm_cells.specs.Carried.{held_in}
use Rattle.nm_cells.specs.Ports.{Owns, holding, knows}

module _ {A : Type 0} (f : Fabric A) (p : Port A) (owns : Owns f p) (after : Knowing A) where
  -- the port is the fabric's still
  pub heads_owns : {A : Type 0} {t u : A} → t ≡ u → (b : OwnQueue) (x : Heads)
      → after ≡ (view (with_heads b x (knows p) ∷ []), p.seat.me.1)
      → (t ≡ u) × (p.rank < f.ranks) × ((mine after).ranks ≡ f.ranks)
      × ((mine after).each ≡ f.each) × (length (mine after).hands ≡ f.ranks * f.each)
      × (length (mine after).filling ≡ f.ranks) × (length (mine after).emptying ≡ f.ranks)
  heads_owns table receive_queue x is = (
    table,
    owns.1,
    ap (λ m. (mine m).ranks) is ∙ owns.2,
    ap (λ m. (mine m).each) is ∙ owns.3,
    ap (λ m. length (mine m).hands) is ∙ owns.4,
    ap (λ m. length (mine m).filling) is ∙ owns.5,
    ap (λ m. length (mine m).emptying) is ∙ owns.6,
  )
  heads_owns table free_queue x is = (
    table,
    owns.1,
    ap (λ m. (mine m).ranks) is ∙ owns.2,
    ap (λ m. (mine m).each) is ∙ owns.3,
    ap (λ m. length (mine m).hands) is ∙ owns.4,
    ap (λ m. length (mine m).filling) is ∙ owns.5,
    ap (λ m. length (mine m).emptying) is ∙ owns.6,
  )

  -- the cells in hand hold the same
  pub heads_holds : (b : OwnQueue) (x : Heads)
      → after ≡ (view (with_heads b x (knows p) ∷ []), p.seat.me.1)
      → held_in (length (mine after).hands) after.1 ≡ holding p
  heads_holds receive_queue x is = ap (λ (m : Knowing A). held_in (length (mine m).hands) m.1) is
  heads_holds free_queue x is = ap (λ (m : Knowing A). held_in (length (mine m).hands) m.1) is

  -- the same where a miss was counted too
  pub missed_owns : {A : Type 0} {t u : A} → t ≡ u → (b : OwnQueue) (g : Misses → Misses) (x : Heads)
      → after ≡ (view (with_missed b g (with_heads b x (knows p)) ∷ []), p.seat.me.1)
      → (t ≡ u) × (p.rank < f.ranks) × ((mine after).ranks ≡ f.ranks)
      × ((mine after).each ≡ f.each) × (length (mine after).hands ≡ f.ranks * f.each)
      × (length (mine after).filling ≡ f.ranks) × (length (mine after).emptying ≡ f.ranks)
  missed_owns table receive_queue g x is = (
    table,
    owns.1,
    ap (λ m. (mine m).ranks) is ∙ owns.2,
    ap (λ m. (mine m).each) is ∙ owns.3,
    ap (λ m. length (mine m).hands) is ∙ owns.4,
    ap (λ m. length (mine m).filling) is ∙ owns.5,
    ap (λ m. length (mine m).emptying) is ∙ owns.6,
  )
  missed_owns table free_queue g x is = (
    table,
    owns.1,
    ap (λ m. (mine m).ranks) is ∙ owns.2,
    ap (λ m. (mine m).each) is ∙ owns.3,
    ap (λ m. length (mine m).hands) is ∙ owns.4,
    ap (λ m. length (mine m).filling) is ∙ owns.5,
    ap (λ m. length (mine m).emptying) is ∙ owns.6,
  )

  pub missed_holds : (b : OwnQueue) (g : Misses → Misses) (x : Heads)
      → after ≡ (view (with_missed b g (with_heads b x (knows p)) ∷ []), p.seat.me.1)
      → held_in (length (mine after).hands) after.1 ≡ holding p
  missed_holds receive_queue g x is = ap (λ (m : Knowing A). held_in (length (mine m).hands) m.1) is
  missed_holds free_queue g x is = ap (λ (m : Knowing A). held_in (length (mine m).hands) m.1) is
