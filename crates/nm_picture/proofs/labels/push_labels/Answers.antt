use Rattle.std.proofs.Common.{◌+◌, drop, flat_map, refl}
use Rattle.std.proofs.lemmas.Grind.{flat_map-append}
use Rattle.std.proofs.lemmas.Option.{slice_get_read}
use Rattle.nm_report.proofs.Written.{next_written}
use Rattle.nm_diagram.specs.Diagrams.{from_lane}
use Rattle.nm_diagram.specs.Labels.{labels_of}
use Rattle.nm_picture.specs.Pictures.{label_text}
use Rattle.nm_picture.proofs.labels.push_labels.Goals as goal

pub loop-rank-preserved : goal.loop-rank-preserved
loop-rank-preserved c =
    let ranks = c.args.ranks.now in
    let rank = c.loop-rank.rank in
    let account = c.index-ranks-rank in
    let labels = labels_of c.args.frame.now.span in
    let text = label_text c.args.frame.now in
    let found = slice_get_read ranks _ rank account.result refl c.loop-rank-test.true account.is in
    next_written (λ l. flat_map text (from_lane labels rank l))
    (λ l. flat_map text (from_lane labels (rank + 1) l))
    (flat_map text (labels rank account.result)) ranks rank account.result _ _ _ found
    (flat_map-append text (labels rank account.result) (from_lane labels (rank + 1) (drop (rank + 1) ranks)))
    c.in_ok-push_labels_of_rank.ensures.ok c.loop-rank.invariant
