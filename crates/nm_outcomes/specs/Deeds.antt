-- What a rank does, as a state keeps it, and the events that it stands for.
use Rattle.std.specs.Prelude.{ℕ, List, []}
use Rattle.std.specs.Option.{option_map_or}
use Rattle.nm_types.specs.declared.answers.Answer.{Answer}
use Rattle.nm_types.specs.declared.answers.Answer.TheVariants as answer
use Rattle.nm_types.specs.declared.messages.Post as post
use Rattle.nm_types.specs.declared.scripts.Line.{Line}
use Rattle.nm_types.specs.Commands.{command_at, commands_of}
use Rattle.nm_history.specs.declared.events.Happened.{Happened}
use Rattle.nm_history.specs.declared.events.Happened.TheVariants as event
use Rattle.nm_history.specs.Sends.{sent_bytes}
use Rattle.nm_outcomes.specs.declared.spots.deeds.Deed.{Deed}
use Rattle.nm_outcomes.specs.declared.spots.deeds.Deed.TheVariants as deed
use Rattle.nm_outcomes.specs.declared.spots.deeds.Receive.{Receive}
use Rattle.nm_outcomes.specs.declared.spots.deeds.Reply.{Reply}
use Rattle.nm_outcomes.specs.declared.spots.deeds.Reply.TheVariants as reply

-- the receive as matching has it
abbrev pub post_of_lem : Receive → post.Post
post_of_lem r = record { number = r.number; from = r.from; tag = r.tag; ctx = r.ctx; cap = r.cap }

-- the bytes that the line of a rank sends
abbrev pub bytes_at : List Line → ℕ → ℕ → List ℕ
bytes_at lines from line = option_map_or sent_bytes (command_at (commands_of from lines) line) []

-- the answer that a reply stands for
abbrev pub answer_meant : List Line → Reply → Answer
answer_meant lines reply.Started = answer.Started
answer_meant lines reply.Busy = answer.Busy
answer_meant lines reply.Null = answer.Null
answer_meant lines reply.No = answer.No
answer_meant lines reply.Nothing = answer.Nothing
answer_meant lines reply.Sent = answer.Sent
answer_meant lines (reply.Got from tag line) = answer.Got from tag (bytes_at lines from line)
answer_meant lines (reply.Cut from tag len) = answer.Cut from tag len
answer_meant lines reply.Cancelled = answer.Cancelled
answer_meant lines (reply.Seen seen) = answer.Seen seen
answer_meant lines reply.Done = answer.Done
answer_meant lines reply.Late = answer.Late
answer_meant lines reply.Asked = answer.Asked

-- the event that a deed stands for
abbrev pub happening : List Line → Deed → Happened
happening lines (deed.Send to n tag ctx len how line) = event.Send to n tag ctx len how line
happening lines (deed.Post receive line) = event.Post (post_of_lem receive) line
happening lines (deed.Match number from n cap line) = event.Match number from n cap line
happening lines (deed.Cancel number done) = event.Cancel number done
happening lines (deed.Recall to n) = event.Recall to n
happening lines (deed.Claim from n line) = event.Claim from n line
happening lines (deed.Ran line reply) = event.Ran line (answer_meant lines reply)
