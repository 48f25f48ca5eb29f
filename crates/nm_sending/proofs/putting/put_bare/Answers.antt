-- A packet without bytes ends no message.
use Rattle.nm_sending.proofs.PutLemmas.{bare_ends, bare_room, puts_bare}
use Rattle.nm_sending.proofs.putting.put_bare.Goals as goal

pub returns-clause-puts : goal.returns-clause-puts
returns-clause-puts c =
    puts_bare c.args.to c.args.stamp c.args.what c.args.outbox.now c.put_bare.new.self c.put_bare.ensures

pub returns-clause-ends : goal.returns-clause-ends
returns-clause-ends c =
    bare_ends c.args.to c.args.stamp c.args.what c.args.outbox.now c.put_bare.new.self c.put_bare.ensures

pub returns-clause-room : goal.returns-clause-room
returns-clause-room c =
    bare_room c.args.to c.args.stamp c.args.what c.args.outbox.now c.put_bare.new.self c.put_bare.ensures
