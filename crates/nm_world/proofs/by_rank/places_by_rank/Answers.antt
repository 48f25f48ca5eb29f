-- A line's place stands behind those of its rank.
use Rattle.std.proofs.Common.{◌≡◌, ℕ, ◌<◌, true, Some, List, length, refl, subst, ◌∙◌, arith}
use Rattle.std.specs.List.{slice_get}
use Rattle.std.specs.Prelude.{◌&&◌, nat_lt}
use Rattle.std.proofs.lemmas.Bool.Decides.{nat_tests}
use Rattle.std.proofs.lemmas.List.{take_all}
use Rattle.std.proofs.lemmas.Option.{slice_get_read}
use Rattle.nm_types.specs.declared.scripts.Line.{Line}
use Rattle.nm_types.specs.Limits.{is_in_range}
use Rattle.nm_types.proofs.TruthLemmas.{and_left}
use Rattle.nm_process.proofs.PlaceLemmas.{all_at}
use Rattle.nm_world.specs.ByRank.{AreByRank}
use Rattle.nm_world.proofs.ByRank.{noted}
use Rattle.nm_world.proofs.by_rank.places_by_rank.Goals as goal

pub loop-place-init : goal.loop-place-init
loop-place-init c = record { places = c.in_ok-all.ensures.places; many = c.in_ok-all.ensures.many }

pub note-requires : goal.note-requires
note-requires c =
    let lines = c.args.lines.now in
    let ranks = c.args.ranks in
    let line = c.index-lines-place.result in
    let here : slice_get lines c.loop-place.place ≡ Some line =
    slice_get_read lines (length lines) c.loop-place.place line refl (omega arith) c.index-lines-place.is in
    let many = c.loop-place.invariant.many in
    let low : line.rank < ranks = below line.rank ranks (and_left (nat_lt line.rank ranks)
    (is_in_range ranks line.command)
    (all_at (λ (l : Line). nat_lt l.rank ranks && is_in_range ranks l.command) lines c.loop-place.place line
    c.requires.script.lines_in_range here)) in
    omega (arith, low, many)
  where
    below : (x y : ℕ) → nat_lt x y ≡ true → x < y
    below x y is = grind (arith, nat_tests)

pub loop-place-preserved : goal.loop-place-preserved
loop-place-preserved c =
    let notes = c.in_ok-note.ensures in
    record {
      places = noted c.args.lines.now c.loop-place.place c.index-lines-place.result c.loop-place.all.items
          c.note.new.all.items (omega arith) c.index-lines-place.is c.loop-place.invariant.places notes;
      many = notes.many ∙ c.loop-place.invariant.many;
    }

pub returns-clause-places : goal.returns-clause-places
returns-clause-places c = subst (λ (ls : List Line). AreByRank ls c.loop-place.all.items)
    (take_all c.loop-place.place c.args.lines.now (omega arith)) c.loop-place.invariant.places
