-- Calls as commands, and the numbers that bodies carry.
use Rattle.std.specs.Prelude.{ℕ, ◌==◌, if◌then◌else◌, Option, Some, None, List, length}
use Rattle.std.specs.Int.{w64, from_le_bytes}
use Rattle.nm_types.specs.declared.answers.Answer.{Answer}
use Rattle.nm_types.specs.declared.answers.Answer.TheVariants.{Got}
use Rattle.nm_types.specs.declared.scripts.Command.{Command}
use Rattle.nm_types.specs.declared.scripts.Command.TheVariants.{Send, Recv, Probe, Await, Mprobe}

-- the call in this context, if it has one (MPI 3.1, 3.2.3)
abbrev pub in_context : ℕ → Command → Command
in_context ctx (Send to q tag old sync body) = Send to q tag ctx sync body
in_context ctx (Recv q from tag old cap) = Recv q from tag ctx cap
in_context ctx (Probe from tag old) = Probe from tag ctx
in_context ctx (Await from tag old) = Await from tag ctx
in_context ctx (Mprobe m from tag old) = Mprobe m from tag ctx
in_context ctx call = call

-- the number that eight bytes spell, the lowest first
abbrev pub number_of : List ℕ → Option ℕ
number_of bytes = if length bytes == 8 then Some (from_le_bytes w64 bytes) else None

-- the number that a receive got, if its message has one
abbrev pub number_in : Answer → Option ℕ
number_in (Got from tag body) = number_of body
number_in _ = None
