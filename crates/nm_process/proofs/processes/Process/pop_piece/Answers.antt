-- The next piece leaves.
use Rattle.std.proofs.Common.{sym, subst, ◌∙◌}
use Rattle.std.specs.Prelude.{option_and_then}
use Rattle.nm_rndv.specs.Offers.{first_leaving, out_by_piece}
use Rattle.nm_sending.specs.Sent.{outs}
use Rattle.nm_request.specs.Requests.{Live}
use Rattle.nm_process.specs.Names.{AreGiven}
use Rattle.nm_process.specs.Processes.{ProcessView}
use Rattle.nm_process.specs.Work.{IsWorking}
use Rattle.nm_process.proofs.MidLemmas.{work_packets}
use Rattle.nm_process.proofs.PacketLemmas.{outs_of_packets, packets_hold_at}
use Rattle.nm_process.proofs.processes.Process.pop_piece.Goals as goal

pub invariant_of-self : goal.invariant_of-self
invariant_of-self g c =
    let p = c.self.inside in
    let i = c.self.invariant in
    let v = p.rank in
    let w = c.pop_piece.new.self in (
      subst (λ (r : Live). AreGiven r p.requests) (sym c.pop_piece.ensures.requests) i.0,
      packets_hold_at v w (v.clock)
          (outs (option_and_then (out_by_piece v.sending.offers) (first_leaving v.sending.offers)))
          p.handles.entries c.pop_piece.ensures.left.events c.history.ensures.right
          (outs_of_packets (option_and_then (out_by_piece v.sending.offers)
          (first_leaving v.sending.offers))) i.1,
      i.2 ∙ sym c.pop_piece.ensures.takes.me,
    )

pub returns-clause-work : goal.returns-clause-work
returns-clause-work g c shape commands bound some work =
    let p = c.self.inside in
    let v = p.rank in
    let w = c.pop_piece.new.self in
    let a : ProcessView = record {
      rank = v;
      at = p.at;
      names =
          p.requests;
      handles = p.handles.entries;
    } in
    work_packets shape commands bound a w (v.clock)
    (outs (option_and_then (out_by_piece v.sending.offers) (first_leaving v.sending.offers)))
    some c.pop_piece.ensures.takes.sizes c.pop_piece.ensures.requests
    c.pop_piece.ensures.left.events
    (outs_of_packets (option_and_then (out_by_piece v.sending.offers)
    (first_leaving v.sending.offers))) (subst (λ (v : ProcessView). IsWorking shape commands bound v)
    (sym c.self.view_is) work)
