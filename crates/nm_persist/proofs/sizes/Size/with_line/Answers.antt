use Rattle.std.proofs.Common.{◌≡◌, ◌<◌, ◌+◌, ◌^◌, arith, length}
use Rattle.nm_types.specs.Limits.{sent_len}
use Rattle.nm_types.specs.Text.{command_line}
use Rattle.nm_persist.proofs.SizeLemmas.{past_bodies, past_lines, past_text}
use Rattle.nm_persist.proofs.sizes.Size.with_line.Goals as goal
use Rattle.nm_persist.proofs.sizes.Size.with_line.Goals.{then-lines-ge-MAX_LINES-via-then-lines-ge-MAX_LINES}
use Rattle.nm_persist.proofs.sizes.Size.with_line.Goals.{then-lines-ge-MAX_LINES-via-else-lines-ge-MAX_LINES+then-bodies-from}
use Rattle.nm_persist.proofs.sizes.Size.with_line.Goals.{then-lines-ge-MAX_LINES-via-else-lines-ge-MAX_LINES+else-bodies-from+then-text-from}

pub returns-in_err-text : goal.returns-in_err-text
returns-in_err-text c =
    let s = c.args.self in
    let line = c.args.line.now in
    let len : c.command_len.result ≡ length (command_line line) = c.command_len.ensures in
    let old : c.from-3.result ≡ s.text = c.from-3.ensures in
    let large : c.from-3.result + c.command_len.result < 2 ^ 64 → ⊥ = c.in_err-text.ensures in
    rw c.from_residual.ensures (past_text (s.lines + 1) (s.bodies + sent_len line.command)
    (s.text + length (command_line line)) (omega (arith, len, old, large)))

pub returns-then-lines-ge-MAX_LINES : goal.returns-then-lines-ge-MAX_LINES
returns-then-lines-ge-MAX_LINES c =
    let s = c.args.self in
    let line = c.args.line.now in
    let lines = s.lines + 1 in
    let bodies = s.bodies + sent_len line.command in
    let text = s.text + length (command_line line) in
    elim c.then-lines-ge-MAX_LINES.branch [
      | then-lines-ge-MAX_LINES-via-then-lines-ge-MAX_LINES w ↦ past_lines lines bodies text (omega arith)
      | then-lines-ge-MAX_LINES-via-else-lines-ge-MAX_LINES+then-bodies-from w ↦
          past_bodies lines bodies text (omega (arith, c.sent_len.ensures, c.from.ensures, c.from-2.ensures))
      | then-lines-ge-MAX_LINES-via-else-lines-ge-MAX_LINES+else-bodies-from+then-text-from w ↦
          past_text lines bodies text
          (omega (arith, c.from-3.ensures, c.command_len.ensures, c.in_ok-text.ensures))
    ]

pub returns : goal.returns
returns c = record {
  lines_are = omega arith;
  bodies_are = omega (arith, c.sent_len.ensures, c.from.ensures, c.from-2.ensures);
  text_is = omega (arith, c.from-3.ensures, c.command_len.ensures, c.in_ok-text.ensures);
}
