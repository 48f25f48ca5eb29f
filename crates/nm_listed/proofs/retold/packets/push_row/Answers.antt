-- One count more.
use Rattle.nm_report.specs.Ends.{packets_of}
use Rattle.nm_listed.proofs.PacketLemmas.{row_none, row_step}
use Rattle.nm_listed.proofs.retold.packets.push_row.Goals as goal

pub packets_to-packets-requires-clause-pairs : goal.packets_to-packets-requires-clause-pairs
packets_to-packets-requires-clause-pairs c =
    c.pairs-matched.ensures c.args.from c.args.lines.now c.args.events.now c.in_ok-pairing.ensures

pub loop-to-init : goal.loop-to-init
loop-to-init c = row_none c.args.lines.now c.args.from c.args.events.now (packets_of c.args.pairs.now)

pub loop-to-preserved : goal.loop-to-preserved
loop-to-preserved c =
    row_step c.args.lines.now c.args.from c.loop-to.to c.args.events.now (packets_of c.args.pairs.now)
    (packets_of c.loop-to.pairs) (packets_of c.push_count.new.pairs) c.packets_to-packets.result
    c.loop-to.invariant c.in_ok-push_count.ensures c.packets_to-packets.ensures
