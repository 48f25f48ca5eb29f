-- What is said of what was called for at a claim, at a start and at the answer to a cancel.
use Rattle.std.specs.Prelude.{ℕ, List, ◌++◌, Option, Some, None, codes, decimal}
use Rattle.nm_types.specs.declared.messages.How.{How}
use Rattle.nm_types.specs.declared.messages.How.TheVariants as how
use Rattle.nm_types.specs.Text.{peer_word, tag_word}
use Rattle.nm_lookups.specs.declared.asked.requests.Request.{Request}
use Rattle.nm_lookups.specs.declared.asked.requests.Request.TheVariants.{Sending, Receiving}
use Rattle.nm_match.specs.declared.names.Message.{Message}
use Rattle.nm_check_rank.specs.declared.paired.arguments.Argument.{Argument}
use Rattle.nm_check_rank.specs.declared.paired.arguments.Argument.TheVariants as arg
use Rattle.nm_check_rank.specs.declared.paired.arguments.Mismatch.{Mismatch}
use Rattle.nm_check_rank.specs.declared.paired.arguments.Sort.{Sort}
use Rattle.nm_check_rank.specs.declared.paired.arguments.Sort.TheVariants as sort
use Rattle.nm_check_rank.specs.declared.paired.manies.Many.{Many}
use Rattle.nm_check_rank.specs.declared.paired.manies.Many.TheVariants as many
use Rattle.nm_verdict.specs.Events.{from_words, receive_words, to_words}

-- how many there are to be
abbrev pub many_word : Many → List ℕ
many_word many.Nothing = codes "none"
many_word many.One = codes "one"
many_word many.More = codes "two or more"

-- .. and how many there are
abbrev pub found_word : Many → List ℕ
found_word many.Nothing = codes "is none"
found_word many.One = codes "is one"
found_word many.More = codes "are two or more"

-- another number of events is called for than was found
abbrev pub many_words : Many → Many → List ℕ
many_words called found =
    codes "since the answer before there is to be "
    ++ (many_word called ++ (codes ", and there " ++ found_word found))

-- another message is claimed than is to be, if one is
abbrev pub claim_words : Option Message → Message → List ℕ
claim_words (Some called) found =
    codes "it is to be " ++ (from_words called.rank called.n ++ (codes ", and is " ++ from_words found.rank found.n))
claim_words None found =
    codes "no message is to be claimed for that line, and it is " ++ from_words found.rank found.n

-- a claim for another line
abbrev pub named_words : ℕ → ℕ → List ℕ
named_words called found =
    codes "its claim is to name line " ++ (decimal called ++ (codes ", and names line " ++ decimal found))

-- a request
abbrev pub request_words : Request → List ℕ
request_words (Sending to n) = to_words to n
request_words (Receiving number) = receive_words number

-- another request is cancelled than is to be
abbrev pub of_words : Request → Request → List ℕ
of_words called found =
    codes "it is to be of " ++ (request_words called ++ (codes ", and is of " ++ request_words found))

-- what a start is
abbrev pub sort_word : Sort → List ℕ
sort_word sort.Send = codes "a send"
sort_word sort.Receive = codes "a receive"
sort_word sort.Matched = codes "a receive of a claimed message"

-- how a message is sent, as a trace has it
abbrev pub way_word : How → List ℕ
way_word how.Eager = codes "`eager`"
way_word how.Ask = codes "`ask`"

-- the name of an argument
abbrev pub name_word : Argument → List ℕ
name_word (arg.Sort s) = codes "it"
name_word (arg.To to) = codes "its destination"
name_word (arg.From from) = codes "its source"
name_word (arg.Tag tag) = codes "its tag"
name_word (arg.Context ctx) = codes "its context"
name_word (arg.Length len) = codes "its length"
name_word (arg.Capacity cap) = codes "its capacity"
name_word (arg.Message message) = codes "its message"
name_word (arg.Way its_how) = codes "it"
name_word (arg.Line line) = codes "its command"

-- .. and its value
abbrev pub value_words : Argument → List ℕ
value_words (arg.Sort s) = sort_word s
value_words (arg.To to) = decimal to
value_words (arg.From from) = peer_word from
value_words (arg.Tag tag) = tag_word tag
value_words (arg.Context ctx) = decimal ctx
value_words (arg.Length len) = decimal len
value_words (arg.Capacity cap) = decimal cap
value_words (arg.Message message) = from_words message.rank message.n
value_words (arg.Way its_how) = way_word its_how
value_words (arg.Line line) = codes "that of line " ++ decimal line

-- an argument that was called for, and another one that was found
abbrev pub mismatch_words : Mismatch → List ℕ
mismatch_words m =
    name_word m.called ++ (codes " is to be " ++ (value_words m.called ++ (codes ", and is " ++ value_words m.found)))
