-- Each call is one of those that are made.
use Rattle.nm_multi.specs.declared.calls.Call.TheVariants.{Cancel, Finish, Irecv, Isend, Pump, Test}
use Rattle.nm_multi.proofs.Going.{alone_ok, going, going_ok, stays_alone}
use Rattle.nm_multi.proofs.desks.reply_to.Goals as goal

pub returns-in-Test-clause-acts : goal.returns-in-Test-clause-acts
returns-in-Test-clause-acts c =
    let fresh = c.is_worn.ensures.0 c.if-is_worn.false in
    let v = c.args.rank.now in
    rw c.in-Test.is (going (Test c.in-Test.r) c.test.result v v fresh c.test.ensures)

pub returns-in-Finish-clause-acts : goal.returns-in-Finish-clause-acts
returns-in-Finish-clause-acts c =
    let fresh = c.is_worn.ensures.0 c.if-is_worn.false in
    rw c.in-Finish.is
    (going (Finish c.in-Finish.r) c.finish.result c.args.rank.now c.finish.new.rank fresh c.finish.ensures)

pub returns-in-Finish-clause-alone : goal.returns-in-Finish-clause-alone
returns-in-Finish-clause-alone c =
    let fresh = c.is_worn.ensures.0 c.if-is_worn.false in
    let v = c.args.rank.now in
    (stays_alone (Finish c.in-Finish.r) c.finish.result v c.finish.new.rank
    (going (Finish c.in-Finish.r) c.finish.result v c.finish.new.rank fresh c.finish.ensures)
    c.requires.alone).0

pub returns-in-Isend-clause-acts : goal.returns-in-Isend-clause-acts
returns-in-Isend-clause-acts c =
    let fresh = c.is_worn.ensures.0 c.if-is_worn.false in
    rw c.in-Isend.is
    (going_ok (Isend c.in-Isend.tag c.in-Isend.body) c.send.result c.args.rank.now c.send.new.rank fresh
    c.send.ensures.acts)

pub returns-in-Isend-clause-alone : goal.returns-in-Isend-clause-alone
returns-in-Isend-clause-alone c =
    let fresh = c.is_worn.ensures.0 c.if-is_worn.false in
    alone_ok (Isend c.in-Isend.tag c.in-Isend.body) c.send.result c.args.rank.now c.send.new.rank fresh c.requires.alone
    c.send.ensures.acts c.send.ensures.err

pub returns-in-Irecv-clause-acts : goal.returns-in-Irecv-clause-acts
returns-in-Irecv-clause-acts c =
    let fresh = c.is_worn.ensures.0 c.if-is_worn.false in
    rw c.in-Irecv.is
    (going_ok (Irecv c.in-Irecv.tag c.in-Irecv.cap) c.receive.result c.args.rank.now c.receive.new.rank fresh
    c.receive.ensures.acts)

pub returns-in-Irecv-clause-alone : goal.returns-in-Irecv-clause-alone
returns-in-Irecv-clause-alone c =
    let fresh = c.is_worn.ensures.0 c.if-is_worn.false in
    alone_ok (Irecv c.in-Irecv.tag c.in-Irecv.cap) c.receive.result c.args.rank.now c.receive.new.rank fresh
    c.requires.alone
    c.receive.ensures.acts c.receive.ensures.err

pub returns-in-Pump-clause-acts : goal.returns-in-Pump-clause-acts
returns-in-Pump-clause-acts c =
    let fresh = c.is_worn.ensures.0 c.if-is_worn.false in
    rw c.in-Pump.is
    (going_ok Pump c.pump.result c.args.rank.now c.pump.new.rank fresh c.pump.ensures.moves)

pub returns-in-Cancel-clause-acts : goal.returns-in-Cancel-clause-acts
returns-in-Cancel-clause-acts c =
    let fresh = c.is_worn.ensures.0 c.if-is_worn.false in
    rw c.in-Cancel.is
    (going_ok (Cancel c.in-Cancel.r) c.cancel.result c.args.rank.now c.cancel.new.rank fresh
    c.cancel.ensures.acts)

pub returns-in-Cancel-clause-alone : goal.returns-in-Cancel-clause-alone
returns-in-Cancel-clause-alone c =
    let fresh = c.is_worn.ensures.0 c.if-is_worn.false in
    alone_ok (Cancel c.in-Cancel.r) c.cancel.result c.args.rank.now c.cancel.new.rank fresh c.requires.alone
    c.cancel.ensures.acts c.cancel.ensures.err
