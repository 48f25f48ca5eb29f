use Rattle.std.proofs.Common.{◌≡◌, ℕ, suc, ◌+◌, ◌-◌, None, List, [], length, sym, ◌∙◌, ap, arith}
use Rattle.std.specs.Prelude.{slice_get}
use Rattle.std.proofs.lemmas.Bool.{eqb-true}
use Rattle.std.proofs.lemmas.List.{nil_from_length}
use Rattle.std.proofs.lemmas.Option.{slice_get_past}
use Rattle.nm_script.specs.Lines.{lines_of}
use Rattle.nm_breaks.proofs.stops.line_at.Goals as goal

-- so many lines are not there
none_left : (k : ℕ) (rest : List ℕ) → rest ≡ [] → slice_get (lines_of rest) k ≡ None
none_left k rest empty = ap (λ (bs : List ℕ). slice_get (lines_of bs) k) empty ∙ slice_get_past [] k (omega arith)

pub returns-then-is_empty : goal.returns-then-is_empty
returns-then-is_empty c =
    let empty : c.loop-line.rest.now ≡ [] =
    nil_from_length c.loop-line.rest.now (eqb-true (length c.loop-line.rest.now) 0
    (sym c.is_empty.ensures ∙ c.if-is_empty.true)) in
    let early = c.loop-line-test.true in
    let at : c.args.at ≡ c.loop-line._line + (c.args.at - c.loop-line._line) = omega (arith, early) in
    sym (ap (λ (n : ℕ). slice_get (lines_of c.args.bytes.now) n) at
    ∙ c.loop-line.invariant (c.args.at - c.loop-line._line)
    ∙ none_left (c.args.at - c.loop-line._line) c.loop-line.rest.now empty)

pub loop-line-preserved : goal.loop-line-preserved
loop-line-preserved c = λ k.
    let at : c.loop-line._line + 1 + k ≡ c.loop-line._line + suc k = omega arith in
    ap (λ (n : ℕ). slice_get (lines_of c.args.bytes.now) n) at ∙ c.loop-line.invariant (suc k)
    ∙ ap (λ (ls : List (List ℕ)). slice_get ls (suc k)) c.split_line.ensures.lines
