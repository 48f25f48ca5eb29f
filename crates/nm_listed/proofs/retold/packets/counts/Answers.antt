-- One rank more.
use Rattle.std.proofs.Common.{◌≡◌, ◌≤◌, ◌++◌, ◌∙◌, ℕ, List, length, sym, ap, arith}
use Rattle.std.specs.List.{range_with_len}
use Rattle.std.proofs.lemmas.List.{take_all}
use Rattle.nm_history.specs.declared.events.Event.{Event}
use Rattle.nm_history.specs.Quiescence.{Ended, packets_by_rank, packets_from}
use Rattle.nm_report.specs.Ends.{ends_of, packets_of}
use Rattle.nm_report.proofs.EndLemmas.{end_at}
use Rattle.nm_listed.proofs.PacketLemmas.{rank_step}
use Rattle.nm_listed.proofs.RecordLemmas.{ends_many}
use Rattle.nm_listed.proofs.retold.packets.counts.Goals as goal

pub push_row-requires-clause-numbered : goal.push_row-requires-clause-numbered
push_row-requires-clause-numbered c =
    let here = end_at c.args.ranks.now c.loop-i.i c.index-ranks-i.result c.loop-i-test.true c.index-ranks-i.is in
    rw (c.as_slice-events.ensures) (c.requires.countable.numbered c.loop-i.i _ here)

pub push_row-requires-clause-packets : goal.push_row-requires-clause-packets
push_row-requires-clause-packets c =
    let here = end_at c.args.ranks.now c.loop-i.i c.index-ranks-i.result c.loop-i-test.true c.index-ranks-i.is in
    rw (c.as_slice-events.ensures) (λ to. c.requires.countable.packets c.loop-i.i to _ here)

pub loop-i-preserved : goal.loop-i-preserved
loop-i-preserved c =
    let here = end_at c.args.ranks.now c.loop-i.i c.index-ranks-i.result c.loop-i-test.true c.index-ranks-i.is in
    let many = ends_many c.args.ranks.now in
    rank_step c.args.lines.now (range_with_len 0 (length (ends_of c.args.ranks.now))) (ends_of c.args.ranks.now)
    c.loop-i.i _ (packets_of c.loop-i.pairs) (packets_of c.push_row.new.pairs) here c.loop-i.invariant
    (c.in_ok-push_row.ensures
    ∙ ap (λ (n : ℕ). packets_of c.loop-i.pairs
    ++ packets_from c.args.lines.now (range_with_len 0 n) c.loop-i.i c.as_slice-events.result.now) (sym many)
    ∙ ap (λ (h : List Event). packets_of c.loop-i.pairs
    ++ packets_from c.args.lines.now (range_with_len 0 (length (ends_of c.args.ranks.now))) c.loop-i.i h)
    c.as_slice-events.ensures)

pub returns : goal.returns
returns c =
    let ends : List Ended = ends_of c.args.ranks.now in
    let many : length ends ≡ length c.args.ranks.now = ends_many c.args.ranks.now in
    let over : length ends ≤ c.loop-i.i = omega (arith, many, c.loop-i-test.false) in
    c.loop-i.invariant
    ∙ ap (λ (es : List Ended). packets_by_rank c.args.lines.now (range_with_len 0 (length ends)) 0 es)
    (take_all c.loop-i.i ends over)
