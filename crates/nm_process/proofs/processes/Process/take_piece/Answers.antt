-- A piece comes.
use Rattle.std.proofs.Common.{sym, subst, ◌∙◌}
use Rattle.nm_history.specs.Pieces.{piece_makes}
use Rattle.nm_rank.specs.Calls.{next_due}
use Rattle.nm_request.specs.Requests.{Live}
use Rattle.nm_process.specs.Names.{AreGiven}
use Rattle.nm_process.specs.Processes.{ProcessView}
use Rattle.nm_process.specs.Work.{IsWorking}
use Rattle.nm_process.proofs.MidLemmas.{work_packets}
use Rattle.nm_process.proofs.PacketLemmas.{piece_of_packets, packets_hold_at}
use Rattle.nm_process.proofs.processes.Process.take_piece.Goals as goal

pub invariant_of-self-2 : goal.invariant_of-self-2
invariant_of-self-2 g c =
    let p = c.self.inside in
    let i = c.self.invariant in
    let v = p.rank in
    let w = c.take_piece.new.self in
    let taken = c.in_ok-take_piece.ensures.taken in (
      subst (λ (r : Live). AreGiven r p.requests) (sym taken.requests) i.0,
      packets_hold_at v w (v.clock) (piece_makes c.args.p.now.from (next_due v c.args.p.now.from) c.args.p.now)
          p.handles.entries taken.happened.events c.history.ensures.right
          (piece_of_packets c.args.p.now.from (next_due v c.args.p.now.from) c.args.p.now) i.1,
      i.2 ∙ sym taken.me,
    )

pub returns-clause-work : goal.returns-clause-work
returns-clause-work g c shape commands bound some work =
    let p = c.self.inside in
    let v = p.rank in
    let w = c.take_piece.new.self in
    let taken = c.in_ok-take_piece.ensures.taken in
    let a : ProcessView = record {
      rank = v;
      at = p.at;
      names =
          p.requests;
      handles = p.handles.entries;
    } in
    work_packets shape commands bound a w (v.clock)
    (piece_makes c.args.p.now.from (next_due v c.args.p.now.from) c.args.p.now)
    some taken.sizes taken.requests taken.happened.events
    (piece_of_packets c.args.p.now.from (next_due v c.args.p.now.from) c.args.p.now)
    (subst (λ (v : ProcessView). IsWorking shape commands bound v) (sym c.self.view_is) work)
