-- What notes are made of.
use Rattle.std.specs.Prelude.{ℕ}
use Rattle.nm_types.specs.declared.packets.What.{What}
use Rattle.nm_eager.specs.Cutting.{Cutting}
use Rattle.nm_sending.specs.declared.outbox.notes.Load.{Load}
use Rattle.nm_sending.specs.declared.outbox.notes.Load.TheVariants as load

-- what packets are made of: one without bytes, or those of an eager message that were not given
pub data Matter : Type 0 where
  Bare : What → Matter
  Cut : Cutting → Matter

-- the rank that a load goes to
abbrev pub to_of : Load → ℕ
to_of (load.Bare to what) = to
to_of (load.Cut to left cutting) = to

-- how many packets it is
abbrev pub left_of : Load → ℕ
left_of (load.Bare to what) = 1
left_of (load.Cut to left cutting) = left

-- what they are made of
abbrev pub matter_of : Load → Matter
matter_of (load.Bare to what) = Bare what
matter_of (load.Cut to left cutting) = Cut cutting
