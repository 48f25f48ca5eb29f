use Rattle.std.proofs.Common.{◌+◌, drop, flat_map, refl}
use Rattle.std.proofs.lemmas.Grind.{flat_map-append}
use Rattle.std.proofs.lemmas.Option.{slice_get_read}
use Rattle.nm_report.proofs.Written.{next_written}
use Rattle.nm_diagram.specs.Diagrams.{from_lane, lanes_at}
use Rattle.nm_picture.specs.Pictures.{lane_words}
use Rattle.nm_picture.proofs.outlines.push_all_words.Goals as goal

pub loop-rank-preserved : goal.loop-rank-preserved
loop-rank-preserved c =
    let ranks = c.args.ranks.now in
    let rank = c.loop-rank.rank in
    let account = c.index-ranks-rank in
    let text = lane_words c.args.frame.now in
    let lanes = lanes_at c.args.frame.now.chosen in
    let found = slice_get_read ranks _ rank account.result refl c.loop-rank-test.true account.is in
    next_written (λ l. flat_map text (from_lane lanes rank l)) (λ l. flat_map text (from_lane lanes (rank + 1) l))
    (flat_map text (lanes rank account.result)) ranks rank account.result _ _ _ found
    (flat_map-append text (lanes rank account.result) (from_lane lanes (rank + 1) (drop (rank + 1) ranks)))
    c.in_ok-push_words_if_chosen.ensures.ok c.loop-rank.invariant
