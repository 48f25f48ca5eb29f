-- The answers of one word, as values that are copied.
use Rattle.std.specs.Prelude.{List, [], ◌∷◌}
use Rattle.nm_types.specs.declared.answers.Answer.{Answer}
use Rattle.nm_types.specs.declared.answers.Answer.TheVariants as answer
use Rattle.nm_trace.specs.declared.sorts.Lone.{Lone}
use Rattle.nm_trace.specs.declared.sorts.Lone.TheVariants as lone

-- the answer
abbrev pub answer_of : Lone → Answer
answer_of lone.Started = answer.Started
answer_of lone.Busy = answer.Busy
answer_of lone.Null = answer.Null
answer_of lone.No = answer.No
answer_of lone.Nothing = answer.Nothing
answer_of lone.Sent = answer.Sent
answer_of lone.Cancelled = answer.Cancelled
answer_of lone.Done = answer.Done
answer_of lone.Late = answer.Late
answer_of lone.Asked = answer.Asked

-- all of them
abbrev pub lones : List Lone
lones =
    lone.Started ∷ lone.Busy ∷ lone.Null ∷ lone.No ∷ lone.Nothing ∷ lone.Sent ∷ lone.Cancelled ∷ lone.Done
    ∷ lone.Late ∷ lone.Asked ∷ []
