-- What is written beside the marks: what each event tells, in short.
use Rattle.std.specs.Prelude.{ℕ, ◌==◌, if◌then◌else◌, List, [], ◌∷◌, ◌++◌, codes, decimal, flat_map}
use Rattle.nm_types.specs.declared.answers.Answer.{Answer}
use Rattle.nm_types.specs.declared.answers.Answer.TheVariants.{Started, Busy, Null, No, Nothing, Sent, Got, Cut}
use Rattle.nm_types.specs.declared.answers.Answer.TheVariants.{Cancelled, Seen, Done, Late, Asked}
use Rattle.nm_types.specs.declared.messages.Post.{Post}
use Rattle.nm_types.specs.Text.{peer_word, tag_word}
use Rattle.nm_history.specs.declared.events.Event.{Event}
use Rattle.nm_history.specs.declared.events.Happened.{Happened}
use Rattle.nm_history.specs.declared.events.Happened.TheVariants as what
use Rattle.nm_report.specs.declared.accounts.RankAccount.{RankAccount}
use Rattle.nm_report.specs.Events.{done_word}
use Rattle.nm_diagram.specs.declared.frames.Span.{Span}
use Rattle.nm_diagram.specs.Diagrams.{from_lane}
use Rattle.nm_diagram.specs.Frames.{is_shown}

-- a message by its number, its tag and how many bytes it has
abbrev pub message_words : ℕ → ℕ → ℕ → List ℕ
message_words n tag len =
    codes "m" ++ (decimal n ++ (codes " t" ++ (decimal tag ++ (codes " " ++ (decimal len ++ codes "b")))))

-- a receive by its number, the source that it names, and the tag
abbrev pub receive_words : Post → List ℕ
receive_words post =
    codes "r" ++ (decimal post.number ++ (codes " <" ++ (peer_word post.from ++ (codes " t" ++ tag_word post.tag))))

-- the context, where it is another than 0. MPI 3.1, 3.2.3
abbrev pub context_words : ℕ → List ℕ
context_words ctx = if ctx == 0 then [] else codes " c" ++ decimal ctx

-- the first word of an answer
abbrev pub answer_label : Answer → List ℕ
answer_label Started = codes "started"
answer_label Busy = codes "busy"
answer_label Null = codes "null"
answer_label No = codes "no"
answer_label Nothing = codes "none"
answer_label Sent = codes "sent"
answer_label (Got from tag body) = codes "got"
answer_label (Cut from tag len) = codes "cut"
answer_label Cancelled = codes "cancelled"
answer_label (Seen seen) = codes "seen"
answer_label Done = codes "done"
answer_label Late = codes "late"
answer_label Asked = codes "asked"

-- a message by its number and the rank that it came from
abbrev pub of_rank : ℕ → ℕ → List ℕ
of_rank n from = codes "m" ++ (decimal n ++ (codes " of " ++ decimal from))

-- and by the rank that it goes to
abbrev pub to_rank : ℕ → ℕ → List ℕ
to_rank n to = codes "m" ++ (decimal n ++ (codes " to " ++ decimal to))

-- what an event tells in short: the message, the receive, or the line of the script with its answer
abbrev pub label_of : Happened → List ℕ
label_of (what.Send to n tag ctx len how line) = message_words n tag len ++ context_words ctx
label_of (what.Post post line) = receive_words post ++ context_words post.ctx
label_of (what.Arrive a) = message_words a.n a.env.tag a.env.len ++ context_words a.env.ctx
label_of (what.Whole from n) = of_rank n from
label_of (what.Out to n) = to_rank n to
label_of (what.Cancel number done) = codes "r" ++ (decimal number ++ (codes " " ++ done_word done))
label_of (what.Recall to n) = to_rank n to
label_of (what.Withdraw from n done) = of_rank n from ++ (codes " " ++ done_word done)
label_of (what.Undone to n done) = to_rank n to ++ (codes " " ++ done_word done)
label_of (what.Claim from n line) = of_rank n from
label_of (what.Match number from n cap line) = codes "r" ++ (decimal number ++ (codes " m" ++ decimal n))
label_of (what.Ran line answer) = decimal line ++ (codes " " ++ answer_label answer)

-- how far down a label stands: that of a send above the arrow that leaves, that of an arrival below the
-- arrow that comes, and others between
abbrev pub drop_of : Happened → ℕ
drop_of (what.Send to n tag ctx len how line) = 0
drop_of (what.Arrive a) = 8
drop_of _ = 4

-- a label: the lane and the stamp of its event, how far down it stands, and its words
pub record Label : Type 0 where
  pub lane : ℕ
  pub stamp : ℕ
  pub drop : ℕ
  pub words : List ℕ

-- the label of an event of this rank
abbrev pub labelled : ℕ → Event → Label
labelled rank event =
    record { lane = rank; stamp = event.stamp; drop = drop_of event.what; words = label_of event.what }

-- an event that is shown has one label
abbrev pub labels_at : Span → ℕ → Event → List Label
labels_at span rank event = if is_shown span event then labelled rank event ∷ [] else []

-- the labels of a rank
abbrev pub labels_of : Span → ℕ → RankAccount → List Label
labels_of span rank account = flat_map (labels_at span rank) account.history.events

-- the labels of all ranks
abbrev pub all_labels : Span → List RankAccount → List Label
all_labels span ranks = from_lane (labels_of span) 0 ranks
