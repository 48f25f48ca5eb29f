-- The first packet leaves.
use Rattle.std.proofs.Common.{sym, subst, ◌∙◌}
use Rattle.std.specs.Prelude.{slice_get}
use Rattle.nm_sending.specs.Departures.{ended_by}
use Rattle.nm_sending.specs.Sent.{outs}
use Rattle.nm_request.specs.Requests.{Live}
use Rattle.nm_process.specs.Names.{AreGiven}
use Rattle.nm_process.specs.Processes.{ProcessView}
use Rattle.nm_process.specs.Work.{IsWorking}
use Rattle.nm_process.proofs.MidLemmas.{work_packets}
use Rattle.nm_process.proofs.PacketLemmas.{outs_of_packets, packets_hold_at}
use Rattle.nm_process.proofs.processes.Process.pop_front.Goals as goal

pub invariant_of-self : goal.invariant_of-self
invariant_of-self g c =
    let p = c.self.inside in
    let i = c.self.invariant in
    let v = p.rank in
    let w = c.pop_front.new.self in (
      subst (λ (r : Live). AreGiven r p.requests) (sym c.pop_front.ensures.requests) i.0,
      packets_hold_at v w (v.clock) (outs (ended_by (slice_get v.sending.outbox.letters 0)))
          p.handles.entries c.pop_front.ensures.left.events c.history.ensures.right
          (outs_of_packets (ended_by (slice_get v.sending.outbox.letters 0))) i.1,
      i.2 ∙ sym c.pop_front.ensures.takes.me,
    )

pub returns-clause-work : goal.returns-clause-work
returns-clause-work g c shape commands bound some work =
    let p = c.self.inside in
    let v = p.rank in
    let w = c.pop_front.new.self in
    let a : ProcessView = record {
      rank = v;
      at = p.at;
      names =
          p.requests;
      handles = p.handles.entries;
    } in
    work_packets shape commands bound a w (v.clock) (outs (ended_by (slice_get v.sending.outbox.letters 0)))
    some c.pop_front.ensures.takes.sizes c.pop_front.ensures.requests
    c.pop_front.ensures.left.events
    (outs_of_packets (ended_by (slice_get v.sending.outbox.letters 0)))
    (subst (λ (v : ProcessView). IsWorking shape commands bound v) (sym c.self.view_is) work)
