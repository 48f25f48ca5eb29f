use Rattle.std.proofs.Common.{rules, ◌≡◌, suc, ◌+◌, ◌<◌, [], ◌∷◌, Some, refl}
use Rattle.std.proofs.Common.{sym, ap, ◌∙◌, arith, subst}
use Rattle.std.proofs.Common.{ℕ, None}
use Rattle.std.proofs.lemmas.Bool.{false≢true}
use Rattle.std.proofs.lemmas.List.{set-set}
use Rattle.nm_chain.specs.Update.{update}
use Rattle.nm_chain.specs.Plays.{with_emptying, with_got_box, box_load}
use Rattle.nm_cells.specs.Ports.{Empties}
use Rattle.nm_chain.specs.Rule.{emptying_of}
use Rattle.nm_cells.specs.Ports.{knows}
use Rattle.nm_port.specs.Polls.{by_box, Missed}
use Rattle.nm_port.proofs.PollLemmas.{missed_later, missed_next, all_missed, still_next, next_by, last_by_box}
use Rattle.nm_port.proofs.PollLemmas.{box_came}
use Rattle.nm_chain.specs.declared.table.table.Entry.{Entry}
use Rattle.nm_port.proofs.PollLemmas.{box_polled, polled_by, polled_on, emptied_hands, came_since}
use Rattle.nm_port.proofs.polls.take_first.Goals as goal

pub loop-sender-preserved : goal.loop-sender-preserved
loop-sender-preserved g c = let f = c.args.f.now in let old = c.args.port.now in
    let now = c.loop-sender.port in let new = c.load_box_in.new.port in
    let k = c.loop-sender.sender in
    let m = c.loop-sender.invariant.1 in let o = c.loop-sender.invariant.0 in
    let e = c.if-load_box_in.ensures in let miss = e.missed refl in
    let low : k < (knows old).ranks = search rules in
    let next = missed_next k old now new m low miss.0 e.stays.1 e.stays.2.1 e.stays.2.2 e.holding
    e.stays.2.0 miss.1 e.stays.3 (λ over. false≢true (e.overtaken over)) in
    let one : suc k ≡ k + 1 = omega arith in let cost = e.cost in
    let steps = c.loop-sender.invariant.2 in
    (e.stays.0, subst (λ j. Missed j old new) one next, omega arith)

pub empty_box-requires-clause-taking : goal.empty_box-requires-clause-taking
empty_box-requires-clause-taking g c = let s = c.loop-sender.sender in
    let m = c.load_box_in.new.port in
    subst (λ (t : ℕ → ℕ). Empties m s (t s)) (sym c.load_box_in.ensures.stays.2.0)
    (c.if-load_box_in.ensures.found refl).0

pub returns-then-load_box_in-clause-polls : goal.returns-then-load_box_in-clause-polls
returns-then-load_box_in-clause-polls g c = let f = c.args.f.now in let old = c.args.port.now in
    let now = c.loop-sender.port in let new = c.empty_box.new.port in let k = c.loop-sender.sender in
    let m = c.loop-sender.invariant.1 in let at = c.load_box_in.new.port in
    let e = c.empty_box.ensures in let there = c.if-load_box_in.ensures.found refl in
    let stays = c.load_box_in.ensures.stays in
    let p = c.empty_box.result.value in
    let low : k < f.ranks = search rules in
    let came_now = Some p ∷ [] in
    let seen = e.got ∙ (λ i. with_got_box came_now (with_emptying k None (there.1 i)))
    ∙ (λ i. with_got_box came_now (record (knows now) {
      emptying = set-set (knows now).emptying k (Some (box_load k (knows at))) None i;
    })) in
    let took = e.taken ∙ (λ i. update (stays.2.0 i) k (stays.2.0 i k + 1)) in
    let number = e.parcel.2 ∙ ap (λ (t : ℕ → ℕ). t k) stays.2.0 in
    let came = came_since old now new (ap (λ e. e.got_box) m.seen) (ap (λ e. e.got) m.seen)
    (Some p ∷ []) [] (box_came now new p k seen) in record {
      next = still_next f old now new p m.taken (next_by f now new p k low e.parcel.1 number took);
      got = last_by_box new p (knows old).got_box came.0;
      way = by_box (e.others.0 ∙ stays.2.1 ∙ m.held) came;
      same = polled_on (knows old) (knows now) (knows new)
          (polled_by (knows old) (knows now) _ m.seen refl) (box_polled now new p k seen);
      later = λ i. missed_later k i (knows old) (knows now) (knows new) m.seen
          (ap (λ (e : Entry _). e.box_miss) seen);
    }

pub returns-then-load_box_in-clause-keeps : goal.returns-then-load_box_in-clause-keeps
returns-then-load_box_in-clause-keeps g c = let m = c.loop-sender.invariant.1 in
    let a = c.load_box_in.ensures in let e = c.empty_box.ensures in record {
      owns = e.owns.0;
      rank = e.owns.1 ∙ a.stays.1 ∙ m.rank;
      loose = e.owns.2 ∙ a.stays.3 ∙ m.loose;
      holds = e.holding ∙ a.holding ∙ m.holds;
      held = e.others.0 ∙ a.stays.2.1 ∙ m.held;
      unpassed = e.others.1 ∙ a.stays.2.2 ∙ m.unpassed;
    }

pub returns-then-load_box_in-clause-hands : goal.returns-then-load_box_in-clause-hands
returns-then-load_box_in-clause-hands g c = let now = c.loop-sender.port in let m = c.loop-sender.invariant.1 in
    let there = c.if-load_box_in.ensures.found refl in
    let hands = emptied_hands now c.empty_box.new.port c.loop-sender.sender (c.empty_box.ensures.hands ∙ there.2) in
    let few = hands.0 in let same = m.hands in (
      omega (arith, few, same),
      λ none. hands.1 (λ i. ap (λ e. emptying_of e i) m.seen ∙ none i) ∙ same,
    )

pub returns-clause-missed : goal.returns-clause-missed
returns-clause-missed g c = let f = c.args.f.now in let old = c.args.port.now in
    let now = c.loop-sender.port in let m = c.loop-sender.invariant.1 in
    let o = c.requires.owns in let k = c.loop-sender.sender in
    let end : k ≡ f.ranks = search rules in
    let steps = c.loop-sender.invariant.2 in (
      refl,
      record {
        seen = all_missed k old now (end ∙ sym o.2) m;
        taken = m.taken;
        not = λ i less. m.not i (subst (λ n. i < n) (sym end) less);
      },
      omega arith,
    )

pub returns-clause-keeps : goal.returns-clause-keeps
returns-clause-keeps g c = let m = c.loop-sender.invariant.1 in record {
  owns = c.loop-sender.invariant.0;
  rank = m.rank;
  loose = m.loose;
  holds = m.holds;
  held = m.held;
  unpassed = m.unpassed;
}
