-- What every call of a port keeps.
use Rattle.std.specs.Prelude.{◌≡◌, ℕ, ◌≤◌}
use Rattle.nm_chain.specs.Rule.{hand}
use Rattle.nm_chain.specs.Plays.{InHand}
use Rattle.nm_cells.specs.declared.port.Port.{Port}
use Rattle.nm_cells.specs.declared.port.Fabric.{Fabric}
use Rattle.nm_cells.specs.Ports.{Owns, knows, holding}

module _ {A : Type 0} where
  -- the cells in the port's hand hold the same
  abbrev pub HoldSame : Port A → Port A → Type 0
  HoldSame old new = (c : ℕ) → InHand (hand (knows old) c) → holding new c ≡ holding old c

  -- The fabric's port of the same rank, with the same loose cells, whose cells in hand hold the same. No more is in
  -- hand, and as much where no box was at work for this call
  pub record KeepsPort (f : Fabric A) (idle : Type 0) (old new : Port A) : Type 0 where
    pub owns : Owns f new
    pub rank : new.rank ≡ old.rank
    pub loose : new.loose ≡ old.loose
    pub holds : HoldSame old new
    pub few : new.hands ≤ old.hands
    pub hands : idle → new.hands ≡ old.hands
