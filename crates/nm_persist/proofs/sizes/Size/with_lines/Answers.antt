use Rattle.std.proofs.Common.{◌≡◌, ◌++◌, List, sym, subst, ap, take, drop, arith, ◌+◌, ◌∙◌}
use Rattle.std.proofs.lemmas.List.{take_all}
use Rattle.nm_types.specs.declared.scripts.Line.{Line}
use Rattle.nm_persist.specs.Sizes.{IsSizeOf}
use Rattle.nm_persist.specs.Table.{fits}
use Rattle.nm_persist.proofs.SizeLemmas.{around_item, past_stays, size_fits, size_more, up_to_item}
use Rattle.nm_persist.proofs.sizes.Size.with_lines.Goals as goal

pub loop-line-preserved : goal.loop-line-preserved
loop-line-preserved c = λ ranks before is.
    let i = c.loop-line.line-index in
    let lines = c.args.lines.now in
    let xs = before ++ take i lines in
    let x = c.line-item.result in
    subst (λ (ls : List Line). IsSizeOf c.in_ok-size.size ranks ls)
    (sym (up_to_item before lines i x (omega arith) c.line-item.is))
    (size_more c.loop-line.size c.in_ok-size.size ranks xs x (c.loop-line.invariant ranks before is)
    c.in_ok-size.ensures)

pub returns-in_err-size : goal.returns-in_err-size
returns-in_err-size c =
    rw c.from_residual.ensures (λ ranks before is.
    let i = c.loop-line.line-index in
    let lines = c.args.lines.now in
    let x = c.line-item.result in
    ap (fits ranks) (sym (around_item before lines i x (omega arith) c.line-item.is))
    ∙ past_stays c.loop-line.size ranks (before ++ take i lines) (drop (i + 1) lines) x
    (c.loop-line.invariant ranks before is) c.in_err-size.ensures)

pub returns : goal.returns
returns c = λ ranks before is.
    let i = c.loop-line.line-index in
    let lines = c.args.lines.now in
    let all : before ++ take i lines ≡ before ++ lines =
    ap (λ xs. before ++ xs) (take_all i lines (omega arith)) in
    let size : IsSizeOf c.loop-line.size ranks (before ++ lines) =
    subst (λ (ls : List Line). IsSizeOf c.loop-line.size ranks ls) all (c.loop-line.invariant ranks before is) in
    (size, size_fits c.loop-line.size ranks (before ++ lines) size)
