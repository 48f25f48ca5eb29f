-- The parcel carries the next byte, whichever way it went.
use Rattle.std.proofs.Common.{◌<◌, true, length, get_or, ap, ◌∙◌, arith}
use Rattle.nm_chain.specs.Rule.{sent_to}
use Rattle.nm_chain.specs.declared.table.parcels.Parcel.{Parcel}
use Rattle.nm_cells.specs.Ports.{knows}
use Rattle.uses.specs.declared.letters.Letter.{Letter}
use Rattle.uses.specs.Crossings.{byte_of}
use Rattle.uses.proofs.Fronts.{sends_on}
use Rattle.uses.proofs.port.sending.send_next.Goals as goal

pub returns-clause-sends : goal.returns-clause-sends
returns-clause-sends g c =
    let p = c.args.port.now in
    let e = c.send.ensures in
    let text = c.args.text.now in
    let x = c.in_ok-next.next.value in
    let number = c.sent-number.ensures in let made = c.in_ok-next.ensures.ok in
    let low : sent_to 1 (knows p).put_box (knows p).put < length text = omega arith in
    sends_on c.a_send_carries.ensures.some c.a_send_carries.ensures.none true p c.send.new.port x text _ c.send.result
    e.sends e.back
    (ap (λ (z : Parcel Letter). z.seq) made ∙ c.parcel.ensures.1 ∙ number) low
    (ap byte_of made ∙ c.parcel.ensures.2 ∙ ap (λ n. get_or text n 0) number)
    c.requires.sends
