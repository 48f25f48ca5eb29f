-- One event more is counted at its own place.
use Rattle.std.proofs.Common.{◌≡◌, ℕ, ◌+◌, ◌<◌, ◌++◌, ◌∷◌, [], List, length, min, arith, refl, sym, ◌∙◌, inl, inr}
use Rattle.nm_history.specs.declared.events.Event.{Event}
use Rattle.nm_history.specs.declared.events.Happened.{Happened}
use Rattle.nm_history.specs.declared.events.Happened.TheVariants as happened
use Rattle.nm_history.specs.Sends.{Arrived, Sent, arrivals, receives, sends}
use Rattle.nm_check_rank.specs.Counted.{AreCounted}
use Rattle.nm_check_rank.specs.declared.numbers.Counts.{Counts}
use Rattle.nm_check_rank.proofs.CountLemmas.{IsReceive, a_match, a_post, arrivals_count, arrivals_same, counted_more}
use Rattle.nm_check_rank.proofs.CountLemmas.{few_arrivals, few_receives, few_sends, no_arrival, no_receive, no_send}
use Rattle.nm_check_rank.proofs.CountLemmas.{sends_count, sends_same}
use Rattle.nm_check_rank.proofs.numbers.Counts.add.Goals as goal
use Rattle.nm_history.proofs.AppendLemmas.{receives_more, receives_still}

abbrev event : ℕ → Happened → Event
event stamp what = record { stamp = stamp; what = what }

pub returns-in-Send : goal.returns-in-Send
returns-in-Send c = λ before stamp few counted. let s = c.in-Send in
    let what : Happened = happened.Send s.to s.n s.tag s.ctx s.len s.how s.line in
    let sent : Sent = record {
      stamp = stamp;
      to = s.to;
      n = s.n;
      tag = s.tag;
      ctx = s.ctx;
      len = s.len;
      how = s.how;
      line = s.line;
    } in
    rw s.is (record {
      sent = λ to low. let small = few_sends before to in
          counted_more c.args.self.now.sends s.to to (length (sends before to)) c.saturating_add.result
          (omega arith) (counted.sent to low)
          (omega (arith, small, few)) c.saturating_add.ensures
          ∙ sym (sends_count before (event stamp what) sent to refl);
      came = λ from low. counted.came from low ∙ sym (arrivals_same before (event stamp what) from refl);
      received = counted.received ∙ sym (receives_still before (event stamp what) refl);
    })

pub returns-in-Arrive : goal.returns-in-Arrive
returns-in-Arrive c = λ before stamp few counted. let a = c.in-Arrive.a in
    let what : Happened = happened.Arrive a in
    let arrived : Arrived = record { stamp = stamp; arrival = a } in
    rw c.in-Arrive.is (record {
      sent = λ to low. counted.sent to low ∙ sym (sends_same before (event stamp what) to refl);
      came = λ from low. let small = few_arrivals before from in
          counted_more c.args.self.now.arrivals a.env.from from
          (length (arrivals before from)) c.saturating_add-in-Arrive.result (omega arith) (counted.came from low)
          (omega (arith, small, few)) c.saturating_add-in-Arrive.ensures
          ∙ sym (arrivals_count before (event stamp what) arrived from refl);
      received = counted.received ∙ sym (receives_still before (event stamp what) refl);
    })

received : (before : List Event) (stamp more : ℕ) (what : Happened) (counts : Counts) →
    length before < 18446744073709551615 →
    AreCounted before counts → more ≡ min (counts.receives + 1) 18446744073709551615 → IsReceive what →
    AreCounted (before ++ event stamp what ∷ []) (record counts { receives = more })
received before stamp more what counts few counted is one = record {
  sent = λ to low. counted.sent to low ∙ sym (sends_same before (event stamp what) to (one.0 stamp));
  came = λ from low. counted.came from low ∙ sym (arrivals_same before (event stamp what) from (one.1 stamp));
  received = let small = few_receives before in let same = counted.received in let next :
      more ≡ length (receives before) + 1 = omega (arith, is, same, small, few) in
      next ∙ sym (receives_more before (event stamp what) one.2 one.3);
}

pub returns-in-Post : goal.returns-in-Post
returns-in-Post c = λ before stamp few counted.
    received before stamp c.saturating_add-self.result c.args.what.now c.args.self.now few counted
    c.saturating_add-self.ensures
    (elim c.in-Post.is [
      | inl is ↦ a_post c.args.what.now is.0 is.1 is.2
      | inr is ↦ a_match c.args.what.now is.0 is.1 is.2 is.3 is.4 is.5
    ])

pub returns-in_default : goal.returns-in_default
returns-in_default c = λ before stamp few counted. let what = c.args.what.now in record {
  sent = λ to low. counted.sent to low ∙ sym (sends_same before (event stamp what) to
      (no_send stamp what c.in_default.not-Send));
  came = λ from low. counted.came from low ∙ sym
      (arrivals_same before (event stamp what) from (no_arrival stamp what c.in_default.not-Arrive));
  received = counted.received ∙ sym (receives_still before (event stamp what)
      (no_receive what c.in_default.not-Post c.in_default.not-Match));
}
