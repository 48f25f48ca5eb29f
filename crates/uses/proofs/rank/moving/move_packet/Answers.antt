-- The packet is the next one of its sender.
use Rattle.std.proofs.Common.{ℕ, sym, ap, ◌∙◌, arith}
use Rattle.nm_sending.specs.Outboxes.{popped_to}
use Rattle.nm_rank.specs.Ranks.{count_of}
use Rattle.uses.proofs.StepLemmas.{has_first, letter_of, packet_moved}
use Rattle.uses.proofs.rank.moving.move_packet.Goals as goal

pub take_packet-requires-clause-sender : goal.take_packet-requires-clause-sender
take_packet-requires-clause-sender c =
    let step = c.requires.step in
    let own = c.in-Some.ensures.own.1 in
    let me = step.first.me in
    let low = step.first.low in
    let ranks = step.second.ranks in omega (arith, own, me, low, ranks)

pub take_packet-requires-clause-number : goal.take_packet-requires-clause-number
take_packet-requires-clause-number c =
    let step = c.requires.step in
    let own = c.in-Some.ensures.own in
    own.2 ∙ ap (λ (k : ℕ). popped_to c.args.from.now.sending.outbox k) c.if-at-there.false
    ∙ sym step.there.packets ∙ ap (λ (k : ℕ). count_of c.args.to.now.took k) (sym (own.1 ∙ step.first.me))

pub pop_front-requires-clause-first : goal.pop_front-requires-clause-first
pop_front-requires-clause-first c =
    let l = letter_of _ _ c.in-Some.at c.fill_front.new.into c.in-Some.ensures.first in
    has_first _ l.0 l.1

pub returns : goal.returns
returns c =
    let step = c.requires.step in
    let own = c.in-Some.ensures.own in
    let l = letter_of _ _ c.in-Some.at c.fill_front.new.into c.in-Some.ensures.first in record {
      step = packet_moved c.args.from.now c.pop_front.new.self c.args.to.now c.take_packet.new.self
          c.fill_front.new.into l.0 step (own.1 ∙ step.first.me) c.in_ok-take_packet.ensures.taken l.1
          (sym l.2 ∙ c.if-at-there.false) c.pop_front.ensures;
    }
