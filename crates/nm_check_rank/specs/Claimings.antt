-- What is called for at a claim, and at the answer to a matched probe.
use Rattle.std.specs.Prelude.{ℕ, ◌==◌, ◌&&◌, false, if◌then◌else◌, Option, Some, None, List, [], ◌∷◌}
use Rattle.std.specs.Prelude.{option_and_then, option_map}
use Rattle.std.specs.Option.{option_map_or}
use Rattle.nm_types.specs.Commands.{Numbered, command_at}
use Rattle.nm_history.specs.declared.events.Event.{Event}
use Rattle.nm_history.specs.declared.events.Happened.{Happened}
use Rattle.nm_history.specs.declared.events.Happened.TheVariants.{Claim, Ran}
use Rattle.nm_history.specs.Answers.{is_seen}
use Rattle.nm_history.specs.RankRun.{claims_since, is_matched_probe}
use Rattle.nm_match.specs.declared.names.Message.{Message}
use Rattle.nm_match.specs.Names.{id_of_arrival, same_message}
use Rattle.nm_lookups.specs.Looks.{found_by}
use Rattle.nm_check_rank.specs.Manies.{many_due, many_of}
use Rattle.nm_check_rank.specs.declared.paired.dues.Due.{Due}
use Rattle.nm_check_rank.specs.declared.paired.dues.Due.TheVariants as due

-- the message that is to be claimed for a line: the first free one that its matched probe selects
abbrev pub claim_called : List Numbered → List Event → ℕ → Option Message
claim_called commands before line =
    option_map id_of_arrival
    (option_and_then (λ c. if is_matched_probe c then found_by before c else None) (command_at commands line))

-- no message is to be claimed, or another one
abbrev pub message_due : Option Message → Message → Option Due
message_due None found = Some (due.Claim None found)
message_due (Some called) found = if same_message called found then None else Some (due.Claim (Some called) found)

-- the claim is to name another line
abbrev pub named_due : ℕ → ℕ → Option Due
named_due called found = if called == found then None else Some (due.Named called found)

-- another number of claims is called for than was found, or one that names another line
abbrev pub claims_due : List ℕ → List ℕ → Option Due
claims_due (called ∷ []) (found ∷ []) = named_due called found
claims_due called found = many_due (many_of called) (many_of found)

-- what is called for at a claim, and at an answer by the claims since the answer before: the one of a matched probe
-- whose answer shows a message
abbrev pub claim_due : List Numbered → List Event → Happened → Option Due
claim_due commands before (Claim from n line) =
    message_due (claim_called commands before line) (record { rank = from; n = n })
claim_due commands before (Ran line answer) =
    claims_due
    (if option_map_or is_matched_probe (command_at commands line) false && is_seen answer then line ∷ [] else [])
    (claims_since before)
claim_due commands before what = None
