use Rattle.std.proofs.Common.{◌≡◌, rules, true}
use Rattle.nm_eager.specs.Streams.{is_kept}
use Rattle.nm_rank.proofs.AcceptLemmas.{accepts-ok, accepts-clear, accepts-undo, accepts-withdraw, may-take, may-undo}
use Rattle.nm_rank.proofs.takes.accept.Goals as goal

pub returns-in-Head-clause-accepts : goal.returns-in-Head-clause-accepts
returns-in-Head-clause-accepts c =
    let kept : is_kept c.args.p.now.what ≡ true = search (rules, c.in-Head.is) in
    accepts-ok c.take.result c.args.p.now c.args.sending.now c.args.receiving.now c.take.new.self kept
    c.take.ensures.took c.take.ensures.known c.sides_stay.ensures.sent

pub take-requires : goal.take-requires
take-requires c =
    let kept : is_kept c.args.p.now.what ≡ true = search (rules, c.in-Head.is) in
    record { continues = may-take c.args.sending.now c.args.receiving.now c.args.p.now c.requires.may kept }

pub returns-in-Clear-clause-accepts : goal.returns-in-Clear-clause-accepts
returns-in-Clear-clause-accepts c =
    accepts-clear c.args.p.now c.in-Clear.n c.args.sending.now c.clear.new.self c.args.receiving.now
    c.clear.result c.in-Clear.is c.clear.ensures.value c.clear.ensures.kept c.clear.ensures.cleared
    c.clear.ensures.counted c.clear.ensures.outbox c.clear.ensures.same c.sides_stay.ensures.received

pub returns-in-Withdraw-clause-accepts : goal.returns-in-Withdraw-clause-accepts
returns-in-Withdraw-clause-accepts c =
    accepts-withdraw c.args.p.now c.in-Withdraw.n c.args.sending.now c.args.receiving.now c.withdraw.new.self
    c.withdraw.result c.in-Withdraw.is c.withdraw.ensures.value c.withdraw.ensures.kept
    c.withdraw.ensures.arrived c.withdraw.ensures.same c.sides_stay.ensures.sent

pub undo-requires-clause-may : goal.undo-requires-clause-may
undo-requires-clause-may c = may-undo c.args.sending.now c.args.receiving.now c.args.p.now c.in-Withdrawn.n
    c.in-Withdrawn.done c.in-Withdrawn.is c.requires.may

pub returns-in-Withdrawn-clause-accepts : goal.returns-in-Withdrawn-clause-accepts
returns-in-Withdrawn-clause-accepts c =
    accepts-undo c.args.p.now c.in-Withdrawn.n c.in-Withdrawn.done c.args.sending.now c.undo.new.self
    c.args.receiving.now c.in-Withdrawn.is c.undo.ensures.kept c.undo.ensures.counted c.undo.ensures.answered
    c.undo.ensures.outbox c.undo.ensures.same c.sides_stay.ensures.received
