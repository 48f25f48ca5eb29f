-- The signs of a picture: their names in the sheet, and what they stand for.
use Rattle.std.specs.Prelude.{ℕ, Bool, true, false, List, [], ◌∷◌, codes}
use Rattle.nm_types.specs.declared.messages.How.{How}
use Rattle.nm_types.specs.declared.messages.How.TheVariants.{Eager, Ask}
use Rattle.nm_history.specs.declared.events.Happened.{Happened}
use Rattle.nm_history.specs.declared.events.Happened.TheVariants as what
use Rattle.nm_diagram.specs.declared.signs.Sign.{Sign}
use Rattle.nm_diagram.specs.declared.signs.Sign.TheVariants as sign

-- all signs, in the order of the legend
abbrev pub all_signs : List Sign
all_signs =
    sign.Send ∷ sign.Ask ∷ sign.Post ∷ sign.Arrive ∷ sign.Whole ∷ sign.Out ∷ sign.Cancel ∷ sign.Recall
    ∷ sign.Withdraw ∷ sign.Undone ∷ sign.Claim ∷ sign.Match ∷ sign.Ran ∷ sign.Waits ∷ sign.EagerWay
    ∷ sign.AskWay ∷ sign.BackWay ∷ sign.Taken ∷ sign.Left ∷ []

-- the name of the group that draws a sign
abbrev pub name_of : Sign → List ℕ
name_of sign.Send = codes "send"
name_of sign.Ask = codes "ask"
name_of sign.Post = codes "post"
name_of sign.Arrive = codes "arrive"
name_of sign.Whole = codes "whole"
name_of sign.Out = codes "out"
name_of sign.Cancel = codes "cancel"
name_of sign.Recall = codes "recall"
name_of sign.Withdraw = codes "withdraw"
name_of sign.Undone = codes "undone"
name_of sign.Claim = codes "claim"
name_of sign.Match = codes "match"
name_of sign.Ran = codes "ran"
name_of sign.Waits = codes "waits"
name_of sign.EagerWay = codes "eagerway"
name_of sign.AskWay = codes "askway"
name_of sign.BackWay = codes "backway"
name_of sign.Taken = codes "taken"
name_of sign.Left = codes "left"

-- what a sign stands for, in words
abbrev pub words_of : Sign → List ℕ
words_of sign.Send = codes "an eager send"
words_of sign.Ask = codes "a rendezvous send"
words_of sign.Post = codes "a receive posted"
words_of sign.Arrive = codes "a message, or its request, arrives"
words_of sign.Whole = codes "all bytes have arrived"
words_of sign.Out = codes "a message has left"
words_of sign.Cancel = codes "a cancel of a receive"
words_of sign.Recall = codes "a cancel of a send"
words_of sign.Withdraw = codes "a withdrawal, done or late"
words_of sign.Undone = codes "the answer to a cancelled send"
words_of sign.Claim = codes "a message claimed by a probe"
words_of sign.Match = codes "a claimed message received"
words_of sign.Ran = codes "a command answered"
words_of sign.Waits = codes "a command blocked at the end"
words_of sign.EagerWay = codes "an eager message on its way"
words_of sign.AskWay = codes "a rendezvous request on its way"
words_of sign.BackWay = codes "a withdrawal on its way"
words_of sign.Taken = codes "a receive and what it took"
words_of sign.Left = codes "a message that nobody took"

-- the sign of a message on its way
abbrev pub way_of : How → Sign
way_of Eager = sign.EagerWay
way_of Ask = sign.AskWay

-- a message is eager
abbrev pub is_eager : How → Bool
is_eager Eager = true
is_eager Ask = false

-- a message goes by rendezvous
abbrev pub is_ask : How → Bool
is_ask Eager = false
is_ask Ask = true

-- an event is told by a sign: by its own, an arrival by that of its message's way, a withdrawal and
-- its answer by that of theirs, and a receive by that of what it takes, too
abbrev pub tells : Sign → Happened → Bool
tells sign.Send (what.Send to n tag ctx len how line) = is_eager how
tells sign.Ask (what.Send to n tag ctx len how line) = is_ask how
tells sign.Post (what.Post post line) = true
tells sign.Arrive (what.Arrive a) = true
tells sign.Whole (what.Whole from n) = true
tells sign.Out (what.Out to n) = true
tells sign.Cancel (what.Cancel number done) = true
tells sign.Recall (what.Recall to n) = true
tells sign.Withdraw (what.Withdraw from n done) = true
tells sign.Undone (what.Undone to n done) = true
tells sign.Claim (what.Claim from n line) = true
tells sign.Match (what.Match number from n cap line) = true
tells sign.Ran (what.Ran line answer) = true
tells sign.EagerWay (what.Arrive a) = is_eager a.env.how
tells sign.AskWay (what.Arrive a) = is_ask a.env.how
tells sign.BackWay (what.Withdraw from n done) = true
tells sign.BackWay (what.Undone to n done) = true
tells sign.Taken (what.Post post line) = true
tells sign.Taken (what.Match number from n cap line) = true
tells _ _ = false

-- the sign of a wait tells of a command that can't go on
abbrev pub is_waits : Sign → Bool
is_waits sign.Waits = true
is_waits _ = false

-- the sign of a ring tells of a message that nobody took
abbrev pub is_of_left : Sign → Bool
is_of_left sign.Left = true
is_of_left _ = false
