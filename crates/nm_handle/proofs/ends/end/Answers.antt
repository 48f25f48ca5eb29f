-- From the handles to their players, and back.
use Rattle.std.proofs.Common.{◌≡◌, List, length, map, ap, rules, subst, sym, ◌∙◌, arith}
use Rattle.std.specs.Arc.{arc_value}
use Rattle.std.specs.List.{AllByRecursion, AllZip}
use Rattle.std.proofs.lemmas.List.{length-map}
use Rattle.std.proofs.lemmas.Result.{err_from_is_err_and}
use Rattle.nm_types.specs.declared.packets.Packet.{Packet}
use Rattle.nm_history.specs.Quiescence.{Ended}
use Rattle.nm_cells.specs.declared.port.Fabric.{Fabric}
use Rattle.nm_copyring.specs.declared.port.Rings.{Rings}
use Rattle.nm_process.specs.Playing.{AllInRange}
use Rattle.nm_rank.specs.declared.journal.erased.Erased.{Erased}
use Rattle.nm_report.specs.Ends.{packets_of}
use Rattle.nm_world.specs.declared.players.Player.{Player}
use Rattle.nm_world.specs.Players.{AreGiven}
use Rattle.nm_world.specs.Records.{ended_from, ends_by}
use Rattle.nm_world.specs.Runs.{InPlace}
use Rattle.nm_calls.specs.Calling.{CallsView, ahead, gave, shown}
use Rattle.nm_handle.specs.declared.handles.Handle.{Handle}
use Rattle.nm_handle.specs.Ends.{HasEndedSo, calls_by_rank}
use Rattle.nm_handle.specs.Worlds.{AreRanksFrom}
use Rattle.nm_handle.proofs.Ending.{calls_at, calls_given, calls_in_range, ended_so, why_open}
use Rattle.nm_handle.proofs.ends.end.Goals as goal

pub shared_of-requires : goal.shared_of-requires
shared_of-requires c =
    let same : c.as_slice.result.now ≡ c.args.handles.items = search rules in
    let long = ap length same in
    let some = c.ranks.ensures.in_range.some_rank in
    let many = c.requires.world.many in
    record { some = omega (arith, long, some, many) }

pub players_of-requires-clause-each : goal.players_of-requires-clause-each
players_of-requires-clause-each c =
    let same : c.as_slice.result.now ≡ c.args.handles.items = search rules in
    let w = c.requires.world in
    let s = c.in_ok-shared.ensures.same c.args.shape w.fabric w.rings
    (subst (λ (hs : List Handle). AreRanksFrom c.args.shape w.fabric w.rings 0 hs) (sym same) w.each) in
    subst (λ (f : Fabric Packet). AreRanksFrom c.args.shape f (arc_value c.in_ok-shared.shared.rings) 0
    c.args.handles.items) (sym s.0)
    (subst (λ (r : Rings). AreRanksFrom c.args.shape w.fabric r 0 c.args.handles.items) (sym s.1) w.each)

pub close-requires : goal.close-requires
close-requires c =
    let same : c.as_slice.result.now ≡ c.args.handles.items = search rules in
    let w = c.requires.world in
    let s = c.in_ok-shared.ensures.same c.args.shape w.fabric w.rings
    (subst (λ (hs : List Handle). AreRanksFrom c.args.shape w.fabric w.rings 0 hs) (sym same) w.each) in
    record {
      many = ap length c.in_ok-players.ensures.same ∙ length-map c.args.handles.items (λ (h : Handle). h.player) ∙
          w.many;
      sizes = (
        ap (λ (f : Fabric Packet). f.ranks) s.0 ∙ w.ranks.0,
        ap (λ (r : Rings). r.ranks) s.1 ∙ w.ranks.1,
        ap (λ (f : Fabric Packet). f.each) s.0 ∙ w.cells,
      );
      place = c.in_ok-players.ensures.place;
    }

pub returns-clause-run : goal.returns-clause-run
returns-clause-run c =
    let hs = c.args.handles.items in
    let ps = c.in_ok-players.players.items in
    let same : ps ≡ map (λ (h : Handle). h.player) hs = c.in_ok-players.ensures.same in
    let shared = c.in_ok-shared.shared in
    let f = arc_value shared.fabric in
    let r = arc_value shared.rings in
    let rested = c.in_ok-rested.rested in
    let closed = c.in_ok-rested.ensures.closed in
    let calls = calls_by_rank hs in
    let given : AreGiven gave calls 0 (map (λ (x : Player CallsView Erased). x.source) ps) =
    subst (λ (qs : List (Player CallsView Erased)). AreGiven gave calls 0
    (map (λ (x : Player CallsView Erased). x.source) qs)) (sym same) (calls_given calls 0 hs (calls_at hs)) in
    let in_range = calls_in_range c.args.shape f r hs
    (subst (λ (qs : List (Player CallsView Erased)).
    AllByRecursion (λ (x : Player CallsView Erased). AllInRange x.source.ranks (ahead x.source)) qs) same
    c.in_ok-players.ensures.range)
    (subst (λ (qs : List (Player CallsView Erased)). InPlace shown gave c.args.shape f r 0 qs) same
    c.in_ok-players.ensures.place) in
    record {
      ends = ends_by (λ (h : Erased). h.all) rested.ranks.items;
      packets = packets_of rested.pairs;
      each = subst (λ (es : List Ended). AllZip HasEndedSo hs es)
          (sym (closed.ends calls given
          ∙ ap (λ (qs : List (Player CallsView Erased)). ended_from calls 0 qs) same))
          (ended_so calls 0 hs);
      whole = closed.run calls in_range given;
      done_is = closed.done;
    }

pub returns-clause-all : goal.returns-clause-all
returns-clause-all c = c.in_ok-rested.ensures.closed.all

pub returns-clause-home : goal.returns-clause-home
returns-clause-home c = c.in_ok-rested.ensures.closed.home

pub returns-in_err-shared-clause-why : goal.returns-in_err-shared-clause-why
returns-in_err-shared-clause-why c =
    let p = err_from_is_err_and c.from_residual.result c.from_residual.ensures.1 in
    rw (p.1, p.2) tt

pub returns-in_err-players-clause-why : goal.returns-in_err-players-clause-why
returns-in_err-players-clause-why c =
    let p = err_from_is_err_and c.from_residual-in_err-players.result c.from_residual-in_err-players.ensures.1 in
    rw (p.1, p.2) c.in_err-players.ensures.why

pub returns-in_err-rested-clause-why : goal.returns-in_err-rested-clause-why
returns-in_err-rested-clause-why c =
    let p = err_from_is_err_and c.from_residual-in_err-rested.result c.from_residual-in_err-rested.ensures.1 in
    rw (p.1, p.2) (why_open c.args.handles.items c.in_ok-players.players.items _ c.in_ok-players.ensures.same
    c.in_err-rested.ensures.why)
