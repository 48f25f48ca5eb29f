-- Answers without the bytes of messages.
use Rattle.std.specs.Prelude.{replicate}
use Rattle.nm_types.specs.declared.answers.Answer.{Answer}
use Rattle.nm_types.specs.declared.answers.Answer.TheVariants as answer
use Rattle.nm_check_rank.specs.declared.paired.told.Told.{Told}
use Rattle.nm_check_rank.specs.declared.paired.told.Told.TheVariants as told

-- the answer that is told; its bytes, if there are any, stand as zeros
abbrev pub untold : Told → Answer
untold told.Started = answer.Started
untold told.Busy = answer.Busy
untold told.Null = answer.Null
untold told.No = answer.No
untold told.Nothing = answer.Nothing
untold told.Sent = answer.Sent
untold (told.Got from tag len) = answer.Got from tag (replicate len 0)
untold (told.Cut from tag len) = answer.Cut from tag len
untold told.Cancelled = answer.Cancelled
untold (told.Seen from tag len) = answer.Seen (record { from = from; tag = tag; len = len })
untold told.Done = answer.Done
untold told.Late = answer.Late
untold told.Asked = answer.Asked
