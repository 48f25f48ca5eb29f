-- What is said of what was called for, and of what was found.
use Rattle.std.specs.Prelude.{ℕ, Bool, if◌then◌else◌, List, [], ◌∷◌, ◌++◌, Option, Some, None, codes, decimal}
use Rattle.hex.specs.Hex.{encode_lower}
use Rattle.nm_check_rank.specs.declared.paired.told.Told.{Told}
use Rattle.nm_check_rank.specs.declared.paired.told.Told.TheVariants as told
use Rattle.nm_check_rank.specs.declared.paired.objections.Objection.{Objection}
use Rattle.nm_check_rank.specs.declared.paired.objections.Objection.TheVariants as against
use Rattle.nm_check_rank.specs.declared.paired.dues.Due.{Due}
use Rattle.nm_check_rank.specs.declared.paired.dues.Due.TheVariants as due
use Rattle.nm_verdict.specs.Called.{claim_words, many_words, mismatch_words, named_words, of_words}

-- the word of an answer
abbrev pub told_word : Told → List ℕ
told_word told.Started = codes "started"
told_word told.Busy = codes "busy"
told_word told.Null = codes "null"
told_word told.No = codes "no"
told_word told.Nothing = codes "none"
told_word told.Sent = codes "sent"
told_word (told.Got from tag len) = codes "got"
told_word (told.Cut from tag len) = codes "cut"
told_word told.Cancelled = codes "cancelled"
told_word (told.Seen from tag len) = codes "seen"
told_word told.Done = codes "done"
told_word told.Late = codes "late"
told_word told.Asked = codes "asked"

-- the sender, the tag and the length of a message
abbrev pub message_words : ℕ → ℕ → ℕ → List ℕ
message_words from tag len = codes " " ++ (decimal from ++ (codes " " ++ (decimal tag ++ (codes " " ++ decimal len))))

-- the message that an answer shows
abbrev pub shown_words : Told → List ℕ
shown_words (told.Got from tag len) = message_words from tag len
shown_words (told.Cut from tag len) = message_words from tag len
shown_words (told.Seen from tag len) = message_words from tag len
shown_words _ = codes ""

-- an answer as a trace has it, but for the bytes of a message
abbrev pub told_words : Told → List ℕ
told_words t = codes "`" ++ (told_word t ++ (shown_words t ++ codes "`"))

-- an answer that was called for, if there is one, and the one that was found
abbrev pub answer_words : Option Told → Told → List ℕ
answer_words (Some called) found =
    codes "its answer is to be " ++ (told_words called ++ (codes ", and is " ++ told_words found))
answer_words None found = codes "it can't go on, and its answer is " ++ told_words found

-- the next command, if one is left
abbrev pub next_words : Option ℕ → List ℕ
next_words (Some next) = codes "the next one is in line " ++ decimal next
next_words None = codes "no command of it is left"

-- a stamp, a number or a rank that was called for, and the one that was found
abbrev pub number_words : List ℕ → ℕ → ℕ → List ℕ
number_words name called found = name ++ (decimal called ++ (codes ", and is " ++ decimal found))

-- what stands against an event
abbrev pub objection_words : Objection → List ℕ
objection_words against.Again = codes "the same happened to its message before"
objection_words against.NotCome = codes "its message had not come"
objection_words against.NotTaken = codes "its message was sent by rendezvous, and no receive had taken it"
objection_words against.NotSent = codes "its message was not sent before"
objection_words against.NotRecalled = codes "its message was not recalled before"
objection_words against.Done = codes "it is to be `done`, and is `late`"
objection_words against.Late = codes "it is to be `late`, and is `done`"
objection_words against.NotClaimed = codes "its message was not claimed before"
objection_words against.Taken = codes "a receive had taken its message"
objection_words against.NoMessage = codes "its handle has no live message"
objection_words against.Asking = codes "a synchronous send goes by rendezvous, and this one does not"

-- whether a send of so many bytes goes by rendezvous by this limit
abbrev pub eager_words : ℕ → ℕ → Bool → List ℕ
eager_words limit len asks =
    codes "--eager does not fit: by " ++ (decimal limit ++ (codes " a send of " ++ (decimal len
    ++ (if asks then codes " bytes is eager, and this one is not" else codes " bytes is not eager, and this one is"))))

-- the value of a byte, if there is one
abbrev pub value_words : Option ℕ → List ℕ
value_words (Some byte) = codes "x" ++ encode_lower (byte ∷ [])
value_words None = codes "missing"

-- a byte by its place
abbrev pub place_words : ℕ → List ℕ
place_words at = codes "byte " ++ (decimal at ++ codes " of its body, counted from 0,")

-- a byte of the body that was to be shown, and the one that was
abbrev pub byte_words : ℕ → Option ℕ → Option ℕ → List ℕ
byte_words at called found =
    place_words at ++ (codes " is to be " ++ (value_words called ++ (codes ", and is " ++ value_words found)))

-- what was called for, and what was found
abbrev pub some_words : Due → List ℕ
some_words (due.Command next) = next_words next
some_words (due.Answer called found) = answer_words called found
some_words (due.Stamp last found) = number_words (codes "its stamp is to be greater than ") last found
some_words (due.Number called found) = number_words (codes "its number is to be ") called found
some_words (due.Rank ranks found) = number_words (codes "its rank is to be less than ") ranks found
some_words (due.Eager limit len asks) = eager_words limit len asks
some_words (due.Against objection) = objection_words objection
some_words (due.Many called found) = many_words called found
some_words (due.Claim called found) = claim_words called found
some_words (due.Named called found) = named_words called found
some_words (due.Argument mismatch) = mismatch_words mismatch
some_words (due.Of called found) = of_words called found
some_words (due.Byte at called found) = byte_words at called found

-- .. if it is told
abbrev pub due_words : Option Due → List ℕ
due_words (Some due) = some_words due
due_words None = codes ""
