use Rattle.std.proofs.Common.{◌∙◌, ap, refl}
use Rattle.nm_copyring.specs.Plays.{mine, one_pulled, one_empty, unlooked}
use Rattle.nm_copyring.proofs.OpeningLemmas.{false_true}
use Rattle.nm_copyring.proofs.PortLemmas.{lane_rests, lane_wide, lane_owned, lane_counts}
use Rattle.nm_copyring.proofs.pieces.pull.Goals as goal

pub invariant_of-port-clause-rests : goal.invariant_of-port-clause-rests
invariant_of-port-clause-rests g c = let p = c.args.port.now in
    let is = c.in-Ok.ensures.pulled in
    lane_rests (one_pulled c.in-Ok.piece.value) c.args.sender (unlooked (mine p.seat.me))
    c.empty_next.new.seat.me is p.rests.1

pub invariant_of-port-clause-wide : goal.invariant_of-port-clause-wide
invariant_of-port-clause-wide g c = let p = c.args.port.now in
    let is = c.in-Ok.ensures.pulled in
    lane_wide (one_pulled c.in-Ok.piece.value) c.args.sender (unlooked (mine p.seat.me))
    c.empty_next.new.seat.me is p.wide

pub invariant_of-port-clause-named : goal.invariant_of-port-clause-named
invariant_of-port-clause-named g c =
    ap (λ m. (mine m).rank) (c.in-Ok.ensures.pulled)
    ∙ c.args.port.now.named

pub invariant_of-port-clause-counts : goal.invariant_of-port-clause-counts
invariant_of-port-clause-counts g c = let p = c.args.port.now in
    let is = c.in-Ok.ensures.pulled in
    lane_counts (one_pulled c.in-Ok.piece.value) c.args.sender (unlooked (mine p.seat.me))
    c.empty_next.new.seat.me is
    c.count_pulled.new.tallies.items (c.count_pulled.ensures (unlooked (mine p.seat.me)) c.in-Ok.piece.value p.counts)

pub returns-in-Ok-clause-keeps : goal.returns-in-Ok-clause-keeps
returns-in-Ok-clause-keeps g c = let p = c.args.port.now in
    let is = c.in-Ok.ensures.pulled in
    let o = c.requires.owns.0 in
    record {
      owns = (
        c.empty_next.ensures.same ∙ o.0,
        lane_owned (one_pulled c.in-Ok.piece.value) c.args.sender (unlooked (mine p.seat.me))
            c.empty_next.new.seat.me is
            c.args.r.now.ranks o.1,
      );
      rank = refl;
    }

pub returns-in-Ok-clause-pulls : goal.returns-in-Ok-clause-pulls
returns-in-Ok-clause-pulls g c = record {
  from = c.in-Ok.ensures.next.0;
  number = c.in-Ok.ensures.next.1 ∙ c.pulled-number.ensures;
  knew = ap (λ m. unlooked (mine m)) c.in-Ok.ensures.pulled;
}

pub invariant_of-port-in-Err-clause-rests : goal.invariant_of-port-in-Err-clause-rests
invariant_of-port-in-Err-clause-rests g c = let p = c.args.port.now in
    let is = c.in-Err.ensures.missed in
    lane_rests one_empty c.args.sender (mine p.seat.me) c.empty_next.new.seat.me is p.rests.1

pub invariant_of-port-in-Err-clause-wide : goal.invariant_of-port-in-Err-clause-wide
invariant_of-port-in-Err-clause-wide g c = let p = c.args.port.now in
    let is = c.in-Err.ensures.missed in
    lane_wide one_empty c.args.sender (mine p.seat.me) c.empty_next.new.seat.me is p.wide

pub invariant_of-port-in-Err-clause-named : goal.invariant_of-port-in-Err-clause-named
invariant_of-port-in-Err-clause-named g c =
    ap (λ m. (mine m).rank) (c.in-Err.ensures.missed)
    ∙ c.args.port.now.named

pub invariant_of-port-in-Err-clause-counts : goal.invariant_of-port-in-Err-clause-counts
invariant_of-port-in-Err-clause-counts g c = let p = c.args.port.now in
    let is = c.in-Err.ensures.missed in
    lane_counts one_empty c.args.sender (mine p.seat.me) c.empty_next.new.seat.me is
    c.count_empty.new.tallies.items (c.count_empty.ensures (mine p.seat.me) p.counts)

pub returns-in-Err-clause-keeps : goal.returns-in-Err-clause-keeps
returns-in-Err-clause-keeps g c = let p = c.args.port.now in
    let is = c.in-Err.ensures.missed in
    let o = c.requires.owns.0 in
    record {
      owns = (
        c.empty_next.ensures.same ∙ o.0,
        lane_owned one_empty c.args.sender (mine p.seat.me) c.empty_next.new.seat.me is
            c.args.r.now.ranks o.1,
      );
      rank = refl;
    }

pub returns-in-Err-clause-missed : goal.returns-in-Err-clause-missed
returns-in-Err-clause-missed g c =
    (ap (λ m. unlooked (mine m)) c.in-Err.ensures.missed, λ full. absurd (false_true (c.in-Err.ensures.sure full)))
