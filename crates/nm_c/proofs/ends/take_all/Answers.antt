-- One handle more is taken, and another is in its place.
use Rattle.std.proofs.Common.{List, ◌+◌, ◌<◌, length, set, subst, sym, ◌∙◌, arith}
use Rattle.std.proofs.lemmas.List.Elements.{All-get_or}
use Rattle.nm_handle.specs.declared.handles.Handle.{Handle}
use Rattle.nm_handle.specs.Standing.{Stands}
use Rattle.nm_c.specs.Ranks.{handles_in}
use Rattle.nm_c.proofs.Behind.{get_behind, many_behind, set_behind}
use Rattle.nm_c.proofs.Taken.{TakenTo, still_open, taken_start, taken_step}
use Rattle.nm_c.proofs.ends.take_all.Goals as goal

pub loop-k-init : goal.loop-k-init
loop-k-init c = taken_start (handles_in c.args.ranks.now) c.args.handles.now
    (c.requires.many ∙ sym (many_behind c.args.ranks.now)) c.requires.stands c.requires.others

pub take-requires : goal.take-requires
take-requires c =
    let below = c.loop-k-test.true in
    let long = c.loop-k.auto.handles in
    let low : c.loop-k.k < length c.loop-k.handles = omega (arith, below, long) in
    record {
      opened = still_open c.loop-k.k (handles_in c.args.ranks.now) (handles_in c.loop-k.ranks) c.args.handles.now
          c.loop-k.handles c.index-handles-k.result c.loop-k.invariant
          (c.requires.many ∙ sym (many_behind c.args.ranks.now)) low c.requires.opened;
      stands = All-get_or Stands c.loop-k.handles c.loop-k.k c.index-handles-k.result low c.loop-k.invariant.others;
    }

pub loop-k-preserved : goal.loop-k-preserved
loop-k-preserved c =
    let below = c.loop-k-test.true in
    let long = c.loop-k.auto.handles in
    let low : c.loop-k.k < length c.loop-k.handles = omega (arith, below, long) in
    let ranks = c.loop-k.ranks in
    let k = c.loop-k.k in
    let item = c.index-ranks-k.result in
    let b = c.take.new.rank in
    let e = c.take.ensures in
    subst (λ (hs : List Handle). TakenTo (k + 1) (handles_in c.args.ranks.now) hs c.args.handles.now
    (set c.loop-k.handles k c.take.new.other))
    (sym (set_behind ranks k b))
    (taken_step k (handles_in c.args.ranks.now) (handles_in ranks) c.args.handles.now c.loop-k.handles item.value b.value
    c.take.new.other c.loop-k.invariant low (e.taken ∙ get_behind ranks k item) e.closed e.kept)
