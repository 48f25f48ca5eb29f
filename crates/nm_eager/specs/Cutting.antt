-- What contracts see of a cutter.
use Rattle.std.specs.Prelude.{◌≡◌, ℕ, ◌+◌, ◌==◌, if◌then◌else◌, List, length}
use Rattle.nm_types.specs.declared.packets.What.{What}
use Rattle.nm_types.specs.declared.packets.What.TheVariants as what
use Rattle.nm_history.specs.Sends.{Sent}
use Rattle.nm_history.specs.Outgoing.{further_packets}

-- an eager message, and how many of its packets were given
pub record Cutting : Type 0 where
  pub n : ℕ
  pub tag : ℕ
  pub ctx : ℕ
  pub body : List ℕ
  pub given : ℕ

-- how many packets the message is cut into
abbrev pub packet_count : Cutting → ℕ
packet_count cutting = 1 + further_packets (length cutting.body)

-- what the next packet is
abbrev pub next_what : Cutting → What
next_what cutting =
    if cutting.given == 0
    then what.Head cutting.tag cutting.ctx (length cutting.body)
    else what.More cutting.n

-- the message is the one that this send sends
pub record IsMessageOf (cutting : Cutting) (s : Sent) : Type 0 where
  pub n : s.n ≡ cutting.n
  pub tag : s.tag ≡ cutting.tag
  pub ctx : s.ctx ≡ cutting.ctx
  pub len : s.len ≡ length cutting.body
