use Rattle.std.proofs.Common.{◌≡◌, length, ◌∙◌}
use Rattle.std.proofs.lemmas.List.{length-map}
use Rattle.std.proofs.lemmas.Result.{err_from_is_err_and}
use Rattle.nm_report.specs.Ends.{end_of_account, ends_of}
use Rattle.nm_trace.proofs.reading.read_record.Goals as goal

pub returns-in_err-ranks-clause-stops : goal.returns-in_err-ranks-clause-stops
returns-in_err-ranks-clause-stops c =
    let from = c.from_residual-in_err-ranks in
    let e = err_from_is_err_and from.result from.ensures.1 in
    let value = c.ranks-count.ensures.value in
    let notes = rw value at c.in_ok-notes.ensures.told in
    let pairs = c.in_ok-pairs.ensures.told c.args.shape.ranks c.in_ok-notes.notes.items in
    let stops = rw value at (c.in_err-ranks.ensures.stops c.in_ok-pairs.pairs) in
    rw (e.1, e.2) (rw (notes, pairs) stops)

pub returns-in_err-cells-clause-stops : goal.returns-in_err-cells-clause-stops
returns-in_err-cells-clause-stops c =
    let from = c.from_residual-in_err-cells in
    let e = err_from_is_err_and from.result from.ensures.1 in
    let value = c.ranks-count.ensures.value in
    let notes = rw value at c.in_ok-notes.ensures.told in
    let pairs = c.in_ok-pairs.ensures.told c.args.shape.ranks c.in_ok-notes.notes.items in
    let ranks = rw value at (c.in_ok-ranks.ensures.told c.in_ok-pairs.pairs) in
    let ends = ends_of c.in_ok-ranks.ranks in
    let all : length ends ≡ c.args.shape.ranks = length-map c.in_ok-ranks.ranks end_of_account
    ∙ c.in_ok-ranks.ensures.whole ∙ value in
    let stops = rw all at (c.in_err-cells.ensures.stops c.in_ok-pairs.pairs ends) in
    rw (e.1, e.2) (rw (notes, pairs, ranks) stops)

pub returns-in_err-done-clause-stops : goal.returns-in_err-done-clause-stops
returns-in_err-done-clause-stops c =
    let from = c.from_residual-in_err-done in
    let e = err_from_is_err_and from.result from.ensures.1 in
    let value = c.ranks-count.ensures.value in
    let notes = rw value at c.in_ok-notes.ensures.told in
    let pairs = c.in_ok-pairs.ensures.told c.args.shape.ranks c.in_ok-notes.notes.items in
    let ranks = rw value at (c.in_ok-ranks.ensures.told c.in_ok-pairs.pairs) in
    let ends = ends_of c.in_ok-ranks.ranks in
    let all : length ends ≡ c.args.shape.ranks = length-map c.in_ok-ranks.ranks end_of_account
    ∙ c.in_ok-ranks.ensures.whole ∙ value in
    let cells = rw all at (c.in_ok-cells.ensures.told c.in_ok-pairs.pairs ends) in
    let stops = c.in_err-done.ensures.stops c.args.shape.ranks c.in_ok-pairs.pairs ends c.in_ok-cells.cells in
    rw (e.1, e.2) (rw (notes, pairs, ranks, cells) stops)

pub returns-clause-told : goal.returns-clause-told
returns-clause-told c =
    let value = c.ranks-count.ensures.value in
    let notes = rw value at c.in_ok-notes.ensures.told in
    let pairs = c.in_ok-pairs.ensures.told c.args.shape.ranks c.in_ok-notes.notes.items in
    let ranks = rw value at (c.in_ok-ranks.ensures.told c.in_ok-pairs.pairs) in
    let ends = ends_of c.in_ok-ranks.ranks in
    let all : length ends ≡ c.args.shape.ranks = length-map c.in_ok-ranks.ranks end_of_account
    ∙ c.in_ok-ranks.ensures.whole ∙ value in
    let cells = rw all at (c.in_ok-cells.ensures.told c.in_ok-pairs.pairs ends) in
    notes ∙ pairs ∙ ranks ∙ cells
    ∙ c.in_ok-done.ensures.told c.args.shape.ranks c.in_ok-pairs.pairs ends c.in_ok-cells.cells
