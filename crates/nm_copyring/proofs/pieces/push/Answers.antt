use Rattle.std.proofs.Common.{◌∙◌, ap, refl}
use Rattle.nm_copyring.specs.Plays.{mine, one_pushed, one_full, unlooked}
use Rattle.nm_copyring.proofs.OpeningLemmas.{false_true}
use Rattle.nm_copyring.proofs.PortLemmas.{lane_rests, lane_wide, lane_owned, lane_counts}
use Rattle.nm_copyring.proofs.pieces.push.Goals as goal

pub invariant_of-port-clause-rests : goal.invariant_of-port-clause-rests
invariant_of-port-clause-rests g c = let p = c.args.port.now in
    let is = c.in-Ok.ensures.pushed in
    lane_rests (one_pushed c.args.piece.value) c.args.to (unlooked (mine p.seat.me))
    c.fill_next.new.seat.me is p.rests.1

pub invariant_of-port-clause-wide : goal.invariant_of-port-clause-wide
invariant_of-port-clause-wide g c = let p = c.args.port.now in
    let is = c.in-Ok.ensures.pushed in
    lane_wide (one_pushed c.args.piece.value) c.args.to (unlooked (mine p.seat.me))
    c.fill_next.new.seat.me is p.wide

pub invariant_of-port-clause-named : goal.invariant_of-port-clause-named
invariant_of-port-clause-named g c =
    ap (λ m. (mine m).rank) (c.in-Ok.ensures.pushed)
    ∙ c.args.port.now.named

pub invariant_of-port-clause-counts : goal.invariant_of-port-clause-counts
invariant_of-port-clause-counts g c = let p = c.args.port.now in
    let is = c.in-Ok.ensures.pushed in
    lane_counts (one_pushed c.args.piece.value) c.args.to (unlooked (mine p.seat.me)) c.fill_next.new.seat.me is
    c.count_pushed.new.tallies.items (c.count_pushed.ensures (unlooked (mine p.seat.me)) c.args.piece.value p.counts)

pub returns-in-Ok-clause-keeps : goal.returns-in-Ok-clause-keeps
returns-in-Ok-clause-keeps g c = let p = c.args.port.now in
    let is = c.in-Ok.ensures.pushed in
    let o = c.requires.ready.0.0 in
    record {
      owns = (
        c.fill_next.ensures.same ∙ o.0,
        lane_owned (one_pushed c.args.piece.value) c.args.to (unlooked (mine p.seat.me)) c.fill_next.new.seat.me is
            c.args.r.now.ranks o.1,
      );
      rank = refl;
    }

pub returns-in-Ok-clause-pushes : goal.returns-in-Ok-clause-pushes
returns-in-Ok-clause-pushes g c = ap (λ m. unlooked (mine m)) (c.in-Ok.ensures.pushed)

pub invariant_of-port-in-Err-clause-rests : goal.invariant_of-port-in-Err-clause-rests
invariant_of-port-in-Err-clause-rests g c = let p = c.args.port.now in
    let is = c.in-Err.ensures.refused.1 in
    lane_rests one_full c.args.to (mine p.seat.me) c.fill_next.new.seat.me is p.rests.1

pub invariant_of-port-in-Err-clause-wide : goal.invariant_of-port-in-Err-clause-wide
invariant_of-port-in-Err-clause-wide g c = let p = c.args.port.now in
    let is = c.in-Err.ensures.refused.1 in
    lane_wide one_full c.args.to (mine p.seat.me) c.fill_next.new.seat.me is p.wide

pub invariant_of-port-in-Err-clause-named : goal.invariant_of-port-in-Err-clause-named
invariant_of-port-in-Err-clause-named g c =
    ap (λ m. (mine m).rank) (c.in-Err.ensures.refused.1)
    ∙ c.args.port.now.named

pub invariant_of-port-in-Err-clause-counts : goal.invariant_of-port-in-Err-clause-counts
invariant_of-port-in-Err-clause-counts g c = let p = c.args.port.now in
    let is = c.in-Err.ensures.refused.1 in
    lane_counts one_full c.args.to (mine p.seat.me) c.fill_next.new.seat.me is
    c.count_full.new.tallies.items (c.count_full.ensures (mine p.seat.me) p.counts)

pub returns-in-Err-clause-keeps : goal.returns-in-Err-clause-keeps
returns-in-Err-clause-keeps g c = let p = c.args.port.now in
    let is = c.in-Err.ensures.refused.1 in
    let o = c.requires.ready.0.0 in
    record {
      owns = (
        c.fill_next.ensures.same ∙ o.0,
        lane_owned one_full c.args.to (mine p.seat.me) c.fill_next.new.seat.me is
            c.args.r.now.ranks o.1,
      );
      rank = refl;
    }

pub returns-in-Err-clause-refused : goal.returns-in-Err-clause-refused
returns-in-Err-clause-refused g c = (
  c.in-Err.ensures.refused.0,
  ap (λ m. unlooked (mine m)) c.in-Err.ensures.refused.1,
  λ free. absurd (false_true (c.in-Err.ensures.sure free)),
)
