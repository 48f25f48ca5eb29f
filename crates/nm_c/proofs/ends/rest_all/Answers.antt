-- One rank more made a turn.
use Rattle.std.proofs.Common.{List, ◌+◌, subst, sym, arith}
use Rattle.std.specs.List.{All}
use Rattle.std.proofs.lemmas.List.Elements.{All-get_or, All-set}
use Rattle.std.proofs.lemmas.Result.{err_from_is_err_and}
use Rattle.nm_handle.specs.declared.handles.Handle.{Handle}
use Rattle.nm_handle.specs.Standing.{HasTurned, Stands}
use Rattle.nm_c.specs.Ranks.{handles_in}
use Rattle.nm_c.proofs.Behind.{get_behind, many_behind, set_behind}
use Rattle.nm_c.proofs.Turned.{TurnedTo, not_behind, turned_start, turned_step}
use Rattle.nm_c.proofs.ends.rest_all.Goals as goal

pub loop-place-init : goal.loop-place-init
loop-place-init c = turned_start (handles_in c.args.ranks.now) c.requires.stands

pub rest_at-requires : goal.rest_at-requires
rest_at-requires c =
    let low = c.loop-place-test.true in
    let many = c.loop-place.auto.ranks in
    let behind = many_behind c.loop-place.ranks in
    record {
      stands = subst Stands (sym (get_behind c.loop-place.ranks c.loop-place.place c.index-ranks-place.result))
          (All-get_or Stands (handles_in c.loop-place.ranks) c.loop-place.place c.index-ranks-place.result.value
          (omega (arith, low, many, behind)) c.loop-place.invariant.stands);
    }

pub loop-place-preserved : goal.loop-place-preserved
loop-place-preserved c =
    let low = c.loop-place-test.true in
    let many = c.loop-place.auto.ranks in
    let ranks = c.loop-place.ranks in
    let behind = many_behind ranks in
    let k = c.loop-place.place in
    let item = c.index-ranks-place.result in
    let b = c.rest_at.new.rank in
    let e = c.in_ok-rest_at.ensures in
    subst (λ (hs : List Handle). TurnedTo (k + 1) (handles_in c.args.ranks.now) hs) (sym (set_behind ranks k b))
    (turned_step k (handles_in c.args.ranks.now) (handles_in ranks) item.value b.value c.loop-place.invariant
    (omega (arith, low, many, behind))
    (subst (λ (h : Handle). HasTurned h b.value) (get_behind ranks k item) e.turned) e.placed e.kept)

pub returns-in_err-rest_at-clause-kept : goal.returns-in_err-rest_at-clause-kept
returns-in_err-rest_at-clause-kept c =
    let ranks = c.loop-place.ranks in
    let b = c.rest_at.new.rank in
    subst (All Stands) (sym (set_behind ranks c.loop-place.place b))
    (All-set Stands (handles_in ranks) c.loop-place.place b.value c.rest_at.ensures.kept c.loop-place.invariant.stands)

pub returns-in_err-rest_at-clause-why : goal.returns-in_err-rest_at-clause-why
returns-in_err-rest_at-clause-why c =
    let p = err_from_is_err_and c.from_residual.result c.from_residual.ensures.1 in
    let low = c.loop-place-test.true in
    let many = c.loop-place.auto.ranks in
    let ranks = c.loop-place.ranks in
    rw (p.1, p.2)
    (not_behind c.loop-place.place (handles_in c.args.ranks.now) ranks c.index-ranks-place.result c.rest_at.new.rank
    c.in_err-rest_at.field-0.0 c.loop-place.invariant (omega (arith, low, many)) c.in_err-rest_at.ensures.why)
