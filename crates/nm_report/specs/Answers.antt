-- The words of an answer.
use Rattle.std.specs.Prelude.{ℕ, List, [], ◌∷◌, length, codes, decimal}
use Rattle.hex.specs.Hex.{encode_lower}
use Rattle.nm_types.specs.declared.answers.Answer.{Answer}
use Rattle.nm_types.specs.declared.answers.Answer.TheVariants.{Started, Busy, Null, No, Nothing}
use Rattle.nm_types.specs.declared.answers.Answer.TheVariants.{Sent, Got, Cut, Cancelled, Seen}
use Rattle.nm_types.specs.declared.answers.Answer.TheVariants.{Done, Late, Asked}
use Rattle.nm_report.specs.Layout.{◌⧺◌}

-- the words of an answer, but for the bytes of a message
abbrev pub answer_words : Answer → List (List ℕ)
answer_words Started = codes "started" ∷ []
answer_words Busy = codes "busy" ∷ []
answer_words Null = codes "null" ∷ []
answer_words No = codes "no" ∷ []
answer_words Nothing = codes "none" ∷ []
answer_words Sent = codes "sent" ∷ []
answer_words (Got from tag body) =
    codes "got" ∷ decimal from ∷ decimal tag ∷ decimal (length body) ∷ []
answer_words (Cut from tag len) = codes "cut" ∷ decimal from ∷ decimal tag ∷ decimal len ∷ []
answer_words Cancelled = codes "cancelled" ∷ []
answer_words (Seen seen) =
    codes "seen" ∷ decimal seen.from ∷ decimal seen.tag ∷ decimal seen.len ∷ []
answer_words Done = codes "done" ∷ []
answer_words Late = codes "late" ∷ []
answer_words Asked = codes "asked" ∷ []

-- a space and the bytes of a message, in an answer that has them
abbrev pub body_word : Answer → List ℕ
body_word (Got from tag body) = codes " x" ⧺ encode_lower body
body_word _ = []
