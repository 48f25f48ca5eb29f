-- The plain run of a script. MPI 3.1, 3.5 and 3.7.3: where each receive names its source and its
-- tag, and no command looks for a message or cancels, a wait hangs on one other command alone.
use Rattle.std.specs.Prelude.{ℕ, zero, suc, ◌+◌, ◌==◌, Bool, true, false, not, ◌||◌, Option}
use Rattle.std.specs.Prelude.{option_map, position, List, length, take, find, replicate, slice_get, slice_set}
use Rattle.std.specs.Prelude.{unwrap_or}
use Rattle.std.specs.List.{list_any, range_with_len}
use Rattle.std.specs.Option.{option_map_or}
use Rattle.nm_types.specs.declared.messages.Peer.TheVariants as peer
use Rattle.nm_types.specs.declared.messages.TagPick.TheVariants as pick
use Rattle.nm_types.specs.declared.scripts.Command.{Command}
use Rattle.nm_types.specs.declared.scripts.Command.TheVariants.{Send, Recv, Wait}
use Rattle.nm_types.specs.declared.scripts.Line.{Line}
use Rattle.nm_types.specs.Bodies.{body_len}
use Rattle.nm_types.specs.Commands.{Numbered, command_at, commands_of}
use Rattle.nm_history.specs.RankRun.{how_of}
use Rattle.nm_history.specs.Sends.{is_ask}
use Rattle.nm_sure.specs.Channels.{receive_channel, receive_for, send_channel, send_for}
use Rattle.nm_sure.specs.Names.{holder}

-- a send, a receive with a named source and a named tag, or a wait
abbrev pub is_plain : Command → Bool
is_plain (Send to q tag ctx sync body) = true
is_plain (Recv q (peer.One from) (pick.One tag) ctx cap) = true
is_plain (Wait q) = true
is_plain _ = false

-- The line of the first command that is not plain. The first line, the one of the ranks, has number 1.
abbrev pub first_free : List Line → Option ℕ
first_free lines = option_map (λ k. k + 2) (position (λ line. not (is_plain line.command)) lines)

-- how many commands of a rank ran, by how many of each rank did
abbrev pub at_of : List ℕ → ℕ → ℕ
at_of at rank = unwrap_or (slice_get at rank) 0

-- the commands of a rank that ran
abbrev pub ran_of : List Line → List ℕ → ℕ → List Numbered
ran_of lines at rank = take (at_of at rank) (commands_of rank lines)

-- the command of a line ran
abbrev pub has_run : List Line → List ℕ → ℕ → Option Numbered → Bool
has_run lines at rank start =
    option_map_or (λ s. list_any (λ c. c.line == s.line) (ran_of lines at rank)) start false

-- The request of a start is ready: a receive where its send ran, a send where it is eager or its
-- receive ran.
abbrev pub is_ready : ℕ → List Line → List ℕ → ℕ → ℕ → Command → Bool
is_ready eager lines at rank line (Send to q tag ctx sync body) =
    not (is_ask (how_of eager sync (body_len body)))
    || option_map_or (λ k. has_run lines at to (receive_for lines k line))
    (send_channel rank (Send to q tag ctx sync body)) false
is_ready eager lines at rank line (Recv q from tag ctx cap) =
    option_map_or (λ k. has_run lines at k.from (send_for lines k line))
    (receive_channel rank (Recv q from tag ctx cap)) false
is_ready eager lines at rank line _ = true

-- The request of the start of a line is ready.
abbrev pub is_ready_at : ℕ → List Line → List ℕ → ℕ → ℕ → Bool
is_ready_at eager lines at rank line =
    option_map_or (is_ready eager lines at rank line) (command_at (commands_of rank lines) line)
    true

-- a command can go on: a wait unless its name stands for a start whose request isn't ready
abbrev pub goes_on : ℕ → List Line → List ℕ → ℕ → Command → Bool
goes_on eager lines at rank (Wait q) =
    option_map_or (is_ready_at eager lines at rank) (holder (ran_of lines at rank) q) true
goes_on eager lines at rank _ = true

-- the next command of a rank
abbrev pub next_of : List Line → List ℕ → ℕ → Option Numbered
next_of lines at rank = slice_get (commands_of rank lines) (at_of at rank)

-- a rank has a next command, which can go on
abbrev pub can_run : ℕ → List Line → List ℕ → ℕ → Bool
can_run eager lines at rank =
    option_map_or (λ c. goes_on eager lines at rank c.command) (next_of lines at rank) false

-- the lowest rank that can run its next command
abbrev pub next_rank : ℕ → List Line → List ℕ → Option ℕ
next_rank eager lines at = find (can_run eager lines at) (range_with_len 0 (length at))

-- the rank ran one command more
abbrev pub with_one_more : List ℕ → ℕ → List ℕ
with_one_more at rank = slice_set at rank (at_of at rank + 1)

-- so many commands more, each of the lowest rank that can run one
unfoldable pub plain_after : ℕ → List Line → ℕ → List ℕ → List ℕ
plain_after eager lines zero at = at
plain_after eager lines (suc more) at =
    option_map_or (λ rank. plain_after eager lines more (with_one_more at rank))
    (next_rank eager lines at) at

-- how many commands of each rank run, until no rank can run one
abbrev pub plain_end : ℕ → ℕ → List Line → List ℕ
plain_end eager ranks lines = plain_after eager lines (length lines) (replicate ranks 0)
