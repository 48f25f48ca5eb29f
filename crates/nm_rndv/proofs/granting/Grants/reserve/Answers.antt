use Rattle.std.proofs.lemmas.List.{length-map}
use Rattle.std.proofs.Common.{◌<◌, ◌∙◌, sym, ap, arith, length, length-set}
use Rattle.std.proofs.Math.Seq.{map-set_same}
use Rattle.nm_rndv.specs.Grants.{FromSender, count_unfinished}
use Rattle.nm_rndv.proofs.SenderLemmas.{room_more, room_all, room_each}
use Rattle.nm_rndv.proofs.granting.Grants.reserve.Goals as goal

pub returns-in_err-reserve-clause-same : goal.returns-in_err-reserve-clause-same
returns-in_err-reserve-clause-same c =
    let ss = c.loop-from.self-inside.senders.items in
    map-set_same (λ (s : FromSender). s.grants) ss c.loop-from.from c.reserve.new.self c.index_mut.result.now
    (c.reserve.ensures.same ∙ ap (λ (s : FromSender). s.grants) c.index_mut.ensures.value)
    ∙ c.loop-from.invariant.1

pub invariant_of-self-in_err-reserve : goal.invariant_of-self-in_err-reserve
invariant_of-self-in_err-reserve c =
    let ss = c.loop-from.self-inside.senders.items in
    c.loop-from.invariant.3 ∙ sym (ap count_unfinished
    (map-set_same (λ (s : FromSender). s.grants) ss c.loop-from.from c.reserve.new.self c.index_mut.result.now
    (c.reserve.ensures.same ∙ ap (λ (s : FromSender). s.grants) c.index_mut.ensures.value)))

pub loop-from-preserved : goal.loop-from-preserved
loop-from-preserved c =
    let ss = c.loop-from.self-inside.senders.items in
    let within : c.loop-from.from < length ss = omega arith in
    let same = map-set_same (λ (s : FromSender). s.grants) ss c.loop-from.from c.reserve.new.self c.index_mut.result.now
    (c.reserve.ensures.same ∙ ap (λ (s : FromSender). s.grants) c.index_mut.ensures.value) in (
      length-set ss c.loop-from.from c.reserve.new.self ∙ c.loop-from.invariant.0,
      same ∙ c.loop-from.invariant.1,
      room_more ss c.loop-from.from c.reserve.new.self within c.in_ok-reserve.ensures.room c.loop-from.invariant.2,
      c.loop-from.invariant.3 ∙ sym (ap count_unfinished same),
    )

pub returns-clause-ready : goal.returns-clause-ready
returns-clause-ready c =
    let ss = c.loop-from.self-inside.senders.items in
    room_all ss (λ k d lt. c.loop-from.invariant.2 k d (omega arith))

pub returns-clause-each : goal.returns-clause-each
returns-clause-each c =
    let ss = c.loop-from.self-inside.senders.items in
    λ from within. room_each ss (λ k d lt. c.loop-from.invariant.2 k d (omega arith)) from
    (omega (arith, within, length-map ss (λ (s : FromSender). s.grants)))
