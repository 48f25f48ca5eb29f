-- The lines of a trace.
use Rattle.std.specs.Prelude.{ℕ, Bool, true, false, List, [], ◌∷◌, codes, decimal, flat_map}
use Rattle.nm_types.specs.declared.messages.How.{How}
use Rattle.nm_types.specs.declared.messages.How.TheVariants.{Eager, Ask}
use Rattle.nm_types.specs.Text.{peer_word, tag_word, text_line}
use Rattle.nm_history.specs.declared.events.Event.{Event}
use Rattle.nm_history.specs.declared.events.Happened.{Happened}
use Rattle.nm_history.specs.declared.events.Happened.TheVariants.{Send, Post, Arrive, Whole, Out}
use Rattle.nm_history.specs.declared.events.Happened.TheVariants.{Cancel, Recall, Withdraw}
use Rattle.nm_history.specs.declared.events.Happened.TheVariants.{Undone, Claim, Match, Ran}
use Rattle.nm_report.specs.declared.accounts.RankAccount.{RankAccount}
use Rattle.nm_report.specs.declared.pairs.PairCount.{PairCount}
use Rattle.nm_report.specs.Answers.{answer_words}

-- how a message was sent
abbrev pub how_word : How → List ℕ
how_word Eager = codes "eager"
how_word Ask = codes "ask"

-- whether something was done, or too late
abbrev pub done_word : Bool → List ℕ
done_word true = codes "done"
done_word false = codes "late"

-- the words of an event
abbrev pub event_words : Happened → List (List ℕ)
event_words (Send to n tag ctx len how line) =
    codes "send" ∷ decimal to ∷ decimal n ∷ decimal tag ∷ decimal ctx ∷ decimal len ∷ how_word how
    ∷ decimal line ∷ []
event_words (Post post line) =
    codes "post" ∷ decimal post.number ∷ peer_word post.from ∷ tag_word post.tag
    ∷ decimal post.ctx ∷ decimal post.cap ∷ decimal line ∷ []
event_words (Arrive a) =
    codes "arrive" ∷ decimal a.env.from ∷ decimal a.n ∷ decimal a.env.tag ∷ decimal a.env.ctx
    ∷ decimal a.env.len ∷ how_word a.env.how ∷ []
event_words (Whole from n) = codes "whole" ∷ decimal from ∷ decimal n ∷ []
event_words (Out to n) = codes "out" ∷ decimal to ∷ decimal n ∷ []
event_words (Cancel number done) = codes "cancel" ∷ decimal number ∷ done_word done ∷ []
event_words (Recall to n) = codes "recall" ∷ decimal to ∷ decimal n ∷ []
event_words (Withdraw from n done) = codes "withdraw" ∷ decimal from ∷ decimal n ∷ done_word done ∷ []
event_words (Undone to n done) = codes "undone" ∷ decimal to ∷ decimal n ∷ done_word done ∷ []
event_words (Claim from n line) = codes "claim" ∷ decimal from ∷ decimal n ∷ decimal line ∷ []
event_words (Match number from n cap line) =
    codes "match" ∷ decimal number ∷ decimal from ∷ decimal n ∷ decimal cap ∷ decimal line ∷ []
event_words (Ran line answer) = codes "ran" ∷ decimal line ∷ answer_words answer

-- the line of an event
abbrev pub event_line : ℕ → Event → List ℕ
event_line rank event =
    text_line (codes "@" ∷ decimal rank ∷ decimal event.stamp ∷ event_words event.what)

-- the lines of a rank's events
abbrev pub event_lines : ℕ → RankAccount → List ℕ
event_lines rank account = flat_map (event_line rank) account.history.events

-- the line of a pair's count of packets
abbrev pub pair_line : PairCount → List ℕ
pair_line pair =
    text_line (codes "pair" ∷ decimal pair.from ∷ decimal pair.to ∷ decimal pair.packets ∷ [])
