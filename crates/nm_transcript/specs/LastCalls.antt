-- The calls of a rank that are kept.
use Rattle.std.specs.Prelude.{◌≡◌, ◌<◌, ◌^◌, ◌-◌, List, Some}
use Rattle.std.specs.List.{All, slice_get}
use Rattle.nm_types.specs.declared.scripts.Command.{Command}
use Rattle.nm_transcript.specs.declared.last_calls.Call.{Call}

-- the rank made so many calls before this one, if they are below 2^64 - 1
abbrev pub IsCallOf : List Command → Call → Type 0
IsCallOf all call = call.number < 2 ^ 64 - 1 → slice_get all call.number ≡ Some call.command

-- so it is with each of these
abbrev pub AreCallsOf : List Command → List Call → Type 0
AreCallsOf all calls = All (IsCallOf all) calls
