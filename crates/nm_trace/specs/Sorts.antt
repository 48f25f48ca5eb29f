-- The names of the events, and the answers of one word.
use Rattle.std.specs.Prelude.{ℕ, List, [], ◌∷◌, Option, codes, find}
use Rattle.std.specs.Str.{bytes_eq}
use Rattle.nm_types.specs.declared.answers.Answer.{Answer}
use Rattle.nm_types.specs.declared.answers.Answer.TheVariants as answer
use Rattle.nm_trace.specs.declared.sorts.Sort.{Sort}
use Rattle.nm_trace.specs.declared.sorts.Sort.TheVariants as sort

-- the name of an event
abbrev pub sort_text : Sort → List ℕ
sort_text sort.Send = codes "send"
sort_text sort.Post = codes "post"
sort_text sort.Arrive = codes "arrive"
sort_text sort.Whole = codes "whole"
sort_text sort.Out = codes "out"
sort_text sort.Cancel = codes "cancel"
sort_text sort.Recall = codes "recall"
sort_text sort.Withdraw = codes "withdraw"
sort_text sort.Undone = codes "undone"
sort_text sort.Claim = codes "claim"
sort_text sort.Match = codes "match"
sort_text sort.Ran = codes "ran"

-- the events that there are
abbrev pub sorts : List Sort
sorts =
    sort.Send ∷ sort.Post ∷ sort.Arrive ∷ sort.Whole ∷ sort.Out ∷ sort.Cancel ∷ sort.Recall
    ∷ sort.Withdraw ∷ sort.Undone ∷ sort.Claim ∷ sort.Match ∷ sort.Ran ∷ []

-- the event that has this name
unfoldable pub sort_of : List ℕ → Option Sort
sort_of word = find (λ s. bytes_eq word (sort_text s)) sorts

-- the word of an answer that has one alone
abbrev pub lone_text : Answer → List ℕ
lone_text answer.Started = codes "started"
lone_text answer.Busy = codes "busy"
lone_text answer.Null = codes "null"
lone_text answer.No = codes "no"
lone_text answer.Nothing = codes "none"
lone_text answer.Sent = codes "sent"
lone_text answer.Cancelled = codes "cancelled"
lone_text answer.Done = codes "done"
lone_text answer.Late = codes "late"
lone_text answer.Asked = codes "asked"
lone_text _ = []

-- the answers of one word
abbrev pub lone_answers : List Answer
lone_answers =
    answer.Started ∷ answer.Busy ∷ answer.Null ∷ answer.No ∷ answer.Nothing ∷ answer.Sent
    ∷ answer.Cancelled ∷ answer.Done ∷ answer.Late ∷ answer.Asked ∷ []

-- the answer that is this word
unfoldable pub lone_answer : List ℕ → Option Answer
lone_answer word = find (λ a. bytes_eq word (lone_text a)) lone_answers
