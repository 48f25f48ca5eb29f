-- Where each thing happened first.
use Rattle.std.specs.Prelude.{ℕ, ◌==◌, Bool, false, Option, is_some}
use Rattle.std.specs.Option.{option_map_or}
use Rattle.nm_history.specs.declared.events.Happened.{Happened}
use Rattle.nm_history.specs.Answers.{message_claimed, request_of}
use Rattle.nm_match.specs.declared.names.Message.{Message}
use Rattle.nm_match.specs.Names.{same_message}

-- a message is named, and it is this one
abbrev pub is_named : Message → Option Message → Bool
is_named m named = option_map_or (λ a. same_message a m) named false

-- a number is named, and it is this one
abbrev pub is_numbered : ℕ → Option ℕ → Bool
is_numbered n named = option_map_or (λ a. a == n) named false

-- an event is a start of a line
abbrev pub is_start_at : ℕ → Happened → Bool
is_start_at line what = is_some (request_of line what)

-- an event is a claim of a line
abbrev pub is_claim_at : ℕ → Happened → Bool
is_claim_at line what = is_some (message_claimed line what)
