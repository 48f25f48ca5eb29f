-- What is said of a state in which ranks wait and nothing can happen any more.
use Rattle.std.specs.Prelude.{ℕ, ◌++◌, ◌&&◌, Bool, if◌then◌else◌, Option, Some, None, List, [], codes, decimal}
use Rattle.std.specs.Prelude.{find, flat_map, option_and_then}
use Rattle.std.specs.List.{slice_get}
use Rattle.std.specs.Option.{option_map_or}
use Rattle.nm_types.specs.declared.messages.Arrival.{Arrival}
use Rattle.nm_types.specs.declared.messages.Peer.{Peer}
use Rattle.nm_types.specs.declared.messages.TagPick.{TagPick}
use Rattle.nm_types.specs.Text.{peer_word, tag_word}
use Rattle.nm_match.specs.Deeds.{is_message}
use Rattle.nm_outcomes.specs.RankStates.{Spot}
use Rattle.nm_waits.specs.declared.near.Fit.{Fit}
use Rattle.nm_waits.specs.declared.near.NearMessage.{NearMessage}
use Rattle.nm_waits.specs.declared.near.NearReceive.{NearReceive}
use Rattle.nm_waits.specs.declared.near.Standing.{Standing}
use Rattle.nm_waits.specs.declared.near.Standing.TheVariants.{Free, Taken, Claimed, Withdrawn}
use Rattle.nm_waits.specs.declared.waits.Need.{Need}
use Rattle.nm_waits.specs.declared.waits.Need.TheVariants.{Receiver, Message}
use Rattle.nm_waits.specs.declared.waits.Wait.{Wait}
use Rattle.nm_waits.specs.Near.{first_said, near_messages, near_receives, send_line, standing_of}

-- what is selected
abbrev pub selection_words : Peer → TagPick → ℕ → List ℕ
selection_words from tag ctx =
    codes "source " ++ (peer_word from ++ (codes " tag " ++ (tag_word tag ++ (codes " context " ++ decimal ctx))))

-- the fields that do not fit
abbrev pub misfit_words : Fit → List ℕ
misfit_words fit =
    (if fit.source then [] else codes ", other source")
    ++ ((if fit.tag then [] else codes ", other tag") ++ (if fit.context then [] else codes ", other context"))

-- what a rank needs
abbrev pub need_words : Need → List ℕ
need_words (Receiver to n tag ctx line) =
    codes "line "
    ++ (decimal line
    ++ (codes " needs a receive at rank "
    ++ (decimal to ++ (codes ", tag " ++ (decimal tag ++ (codes " context " ++ (decimal ctx ++ codes "\n")))))))
need_words (Message from tag ctx line) =
    codes "line " ++ (decimal line ++ (codes " needs a message, " ++ (selection_words from tag ctx ++ codes "\n")))

-- the line of a rank that waits, and what it needs
abbrev pub wait_line : Wait → List ℕ
wait_line wait =
    codes "rank " ++ (decimal wait.rank ++ (codes " waits in line " ++ (decimal wait.line ++ (codes ": " ++ need_words wait.need))))

-- the number of a line, if there is one
abbrev pub line_words : Option ℕ → List ℕ
line_words (Some line) = codes "line " ++ decimal line
line_words None = codes "no line"

-- the line that sent a message to a rank, by the states of all ranks
abbrev pub sent_in : List Spot → ℕ → Arrival → Option ℕ
sent_in states i a = option_and_then (λ sender. first_said (send_line i a.n) sender.deeds) (slice_get states a.env.from)

-- a message to a rank: who sent it, by which line, with which tag and context
abbrev pub message_words : List Spot → ℕ → Arrival → List ℕ
message_words states i a =
    codes "    message of rank "
    ++ (decimal a.env.from
    ++ (codes ", "
    ++ (line_words (sent_in states i a)
    ++ (codes ", tag " ++ (decimal a.env.tag ++ (codes " context " ++ decimal a.env.ctx))))))

-- where a message stands
abbrev pub standing_words : Standing → List ℕ
standing_words Free = codes ", fits\n"
standing_words (Taken line) = codes ", taken by the receive of " ++ (line_words line ++ codes "\n")
standing_words (Claimed line) = codes ", claimed by the matched probe of line " ++ (decimal line ++ codes "\n")
standing_words Withdrawn = codes ", withdrawn\n"

-- a message has all fields that are selected
abbrev pub fits : Fit → Bool
fits fit = fit.source && (fit.tag && fit.context)

-- a line of a message, if it is free
abbrev pub if_free : Standing → List ℕ → List ℕ
if_free Free text = text
if_free _ text = []

-- a message that came: one that fits, with where it stands; one that is free, with the fields that do not fit; no other
abbrev pub near_message_line : List Spot → ℕ → NearMessage → List ℕ
near_message_line states i near =
    if fits near.fit then message_words states i near.message ++ standing_words near.standing
    else if_free near.standing (message_words states i near.message ++ (misfit_words near.fit ++ codes "\n"))

-- an open receive, with the fields that do not fit
abbrev pub near_receive_line : ℕ → NearReceive → List ℕ
near_receive_line to near =
    codes "    receive of rank "
    ++ (decimal to
    ++ (codes ", line "
    ++ (decimal near.line
    ++ (codes ", "
    ++ (selection_words near.receive.from near.receive.tag near.receive.ctx ++ (misfit_words near.fit ++ codes "\n"))))))

-- that the message is claimed, where it is
abbrev pub claimed_line : Standing → List ℕ
claimed_line (Claimed line) = codes "    it is claimed by the matched probe of line " ++ (decimal line ++ codes "\n")
claimed_line _ = []

-- what stands against the receive of a message that came to a rank
abbrev pub against_message : ℕ → Spot → Arrival → List ℕ
against_message to spot a = claimed_line (standing_of spot a) ++ flat_map (near_receive_line to) (near_receives spot a)

-- .. by the rank, if it came
abbrev pub against_send : ℕ → ℕ → ℕ → Spot → List ℕ
against_send i to n spot = option_map_or (against_message to spot) (find (is_message i n) spot.came) []

-- what stands against a need of a rank
abbrev pub against : List Spot → ℕ → Need → List ℕ
against states i (Receiver to n tag ctx line) = option_map_or (against_send i to n) (slice_get states to) []
against states i (Message from tag ctx line) =
    option_map_or (λ spot. flat_map (near_message_line states i) (near_messages spot from tag ctx))
    (slice_get states i) []

-- a rank that waits, for what, and what stands against it
abbrev pub wait_text : List Spot → Wait → List ℕ
wait_text states wait = wait_line wait ++ against states wait.rank wait.need

-- a rank, behind a space
abbrev pub rank_words : ℕ → List ℕ
rank_words rank = codes " " ++ decimal rank

-- which rank waits for which
abbrev pub chain_line : List ℕ → List ℕ
chain_line ranks = codes "waits for" ++ (flat_map rank_words ranks ++ codes "\n")
