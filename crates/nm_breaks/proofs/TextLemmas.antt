-- The line of an event is printable, so no line feed stands in it.
use Rattle.std.proofs.Common.{◌≡◌, ℕ, ◌<◌, ◌^◌, Bool, true, false, [], ◌∷◌, length, decimal, refl, arith}
use Rattle.std.specs.Prelude.{codes}
use Rattle.nm_types.specs.declared.answers.Answer.{Answer}
use Rattle.nm_types.specs.declared.answers.Answer.TheVariants as answer
use Rattle.nm_types.specs.declared.messages.How.{How}
use Rattle.nm_types.specs.declared.messages.How.TheVariants as how
use Rattle.nm_types.specs.declared.messages.Peer.{Peer}
use Rattle.nm_types.specs.declared.messages.Peer.TheVariants as peer
use Rattle.nm_types.specs.declared.messages.TagPick.{TagPick}
use Rattle.nm_types.specs.declared.messages.TagPick.TheVariants as pick
use Rattle.nm_types.specs.Text.{peer_word, tag_word}
use Rattle.nm_history.specs.declared.events.Event.{Event}
use Rattle.nm_history.specs.declared.events.Happened.{Happened}
use Rattle.nm_history.specs.declared.events.Happened.TheVariants as what
use Rattle.nm_report.specs.Answers.{answer_words}
use Rattle.nm_report.specs.Events.{done_word, event_words, how_word}
use Rattle.nm_script.specs.Lines.{is_printable}
use Rattle.nm_script.proofs.WordLemmas.{Solid, decimal_solid, joined_printable}
use Rattle.nm_trace.specs.Traces.{AnswerIn, EventIn, PeerIn, PickIn, WhatIn}
use Rattle.nm_breaks.specs.Lines.{event_text}

pub event_printable : (rank : ℕ) (e : Event) → rank < 2 ^ 64 → EventIn e → is_printable (event_text rank e) ≡ true
event_printable rank e few within =
    joined_printable (codes "@") (decimal rank ∷ decimal e.stamp ∷ event_words e.what)
    (refl, (decimal_solid rank few, (decimal_solid e.stamp within.0, of_what e.what within.1)))
  where
    -- words of one number
    small : (n : ℕ) → n < 2 ^ 8 → Solid (decimal n ∷ [])
    small n h = (decimal_solid n (omega (arith, h)), tt)

    middle : (n : ℕ) → n < 2 ^ 16 → Solid (decimal n ∷ [])
    middle n h = (decimal_solid n (omega (arith, h)), tt)

    large : (n : ℕ) → n < 2 ^ 32 → Solid (decimal n ∷ [])
    large n h = (decimal_solid n (omega (arith, h)), tt)

    long : (n : ℕ) → n < 2 ^ 63 → Solid (decimal n ∷ [])
    long n h = (decimal_solid n (omega (arith, h)), tt)

    of_peer : (p : Peer) → PeerIn p → Solid (peer_word p ∷ [])
    of_peer peer.Any h = (refl, tt)
    of_peer (peer.One rank) h = small rank h

    of_pick : (t : TagPick) → PickIn t → Solid (tag_word t ∷ [])
    of_pick pick.Any h = (refl, tt)
    of_pick (pick.One tag) h = middle tag h

    of_how : (h : How) → Solid (how_word h ∷ [])
    of_how how.Eager = (refl, tt)
    of_how how.Ask = (refl, tt)

    of_done : (d : Bool) → Solid (done_word d ∷ [])
    of_done true = (refl, tt)
    of_done false = (refl, tt)

    of_answer : (a : Answer) → AnswerIn a → Solid (answer_words a)
    of_answer answer.Started h = (refl, tt)
    of_answer answer.Busy h = (refl, tt)
    of_answer answer.Null h = (refl, tt)
    of_answer answer.No h = (refl, tt)
    of_answer answer.Nothing h = (refl, tt)
    of_answer answer.Sent h = (refl, tt)
    of_answer (answer.Got from tag body) h =
        (refl, ((small from h.0).0, ((middle tag h.1).0, long (length body) h.2)))
    of_answer (answer.Cut from tag n) h = (refl, ((small from h.0).0, ((middle tag h.1).0, large n h.2)))
    of_answer answer.Cancelled h = (refl, tt)
    of_answer (answer.Seen seen) h =
        (refl, ((small seen.from h.0).0, ((middle seen.tag h.1).0, large seen.len h.2)))
    of_answer answer.Done h = (refl, tt)
    of_answer answer.Late h = (refl, tt)
    of_answer answer.Asked h = (refl, tt)

    of_what : (w : Happened) → WhatIn w → Solid (event_words w)
    of_what (what.Send to n tag ctx size how line) h = (
      refl,
      (
        (small to h.0).0,
        (
          decimal_solid n h.1,
          (
            (middle tag h.2).0,
            ((small ctx h.3).0, ((large size h.4).0, ((of_how how).0, (decimal_solid line h.5, tt)))),
          ),
        ),
      ),
    )
    of_what (what.Post post line) h = (
      refl,
      (
        decimal_solid post.number h.0,
        (
          (of_peer post.from h.1).0,
          ((of_pick post.tag h.2).0, ((small post.ctx h.3).0, ((large post.cap h.4).0, (decimal_solid line h.5, tt)))),
        ),
      ),
    )
    of_what (what.Arrive a) h = (
      refl,
      (
        (small a.env.from h.0).0,
        (
          decimal_solid a.n h.1,
          ((middle a.env.tag h.2).0, ((small a.env.ctx h.3).0, ((large a.env.len h.4).0, of_how a.env.how))),
        ),
      ),
    )
    of_what (what.Whole from n) h = (refl, ((small from h.0).0, (decimal_solid n h.1, tt)))
    of_what (what.Out to n) h = (refl, ((small to h.0).0, (decimal_solid n h.1, tt)))
    of_what (what.Cancel number done) h = (refl, (decimal_solid number h, of_done done))
    of_what (what.Recall to n) h = (refl, ((small to h.0).0, (decimal_solid n h.1, tt)))
    of_what (what.Withdraw from n done) h = (refl, ((small from h.0).0, (decimal_solid n h.1, of_done done)))
    of_what (what.Undone to n done) h = (refl, ((small to h.0).0, (decimal_solid n h.1, of_done done)))
    of_what (what.Claim from n line) h =
        (refl, ((small from h.0).0, (decimal_solid n h.1, (decimal_solid line h.2, tt))))
    of_what (what.Match number from n cap line) h = (
      refl,
      (
        decimal_solid number h.0,
        ((small from h.1).0, (decimal_solid n h.2, ((large cap h.3).0, (decimal_solid line h.4, tt)))),
      ),
    )
    of_what (what.Ran line a) h = (refl, (decimal_solid line h.0, of_answer a h.1))
