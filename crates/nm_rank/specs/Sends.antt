-- The send that a rank starts next.
use Rattle.std.specs.Prelude.{ℕ, ◌+◌, Bool, length}
use Rattle.nm_types.specs.Bodies.{body_len}
use Rattle.nm_types.specs.declared.scripts.Body.{Body}
use Rattle.nm_history.specs.RankRun.{how_of}
use Rattle.nm_history.specs.Sends.{Sent, sends}
use Rattle.nm_sending.specs.Calls.{sent_as}
use Rattle.nm_rank.specs.Ranks.{RankView}

-- The send of this body to a rank, with this tag and context and of the command of this line, if a rank
-- starts it next, in synchronous mode or not: it has the next stamp, and the next number of that rank.
abbrev pub next_send : RankView → ℕ → ℕ → ℕ → Body → Bool → ℕ → Sent
next_send v to tag ctx body sync line =
    sent_as to tag ctx body (how_of v.sizes.eager sync (body_len body)) (v.clock + 1)
    (length (sends v.events to)) line
