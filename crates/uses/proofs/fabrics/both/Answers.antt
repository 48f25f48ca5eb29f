use Rattle.std.proofs.Common.{◌≡◌, ℕ, zero, suc, ◌<◌, List, [], ◌∷◌, Some, length, slice_get, get_or}
use Rattle.std.proofs.Common.{sym, refl, ap, ◌∙◌, arith}
use Rattle.std.specs.Prelude.{remove}
use Rattle.nm_cells.specs.declared.port.Port.{Port}
use Rattle.uses.specs.declared.letters.Letter.{Letter}
use Rattle.uses.proofs.fabrics.both.Goals as goal

stands : (xs : List (Port Letter)) (i : ℕ) (x : Port Letter) → i < length xs → x ≡ get_or xs i x
    → slice_get xs i ≡ Some x
stands [] i x low e = absurd (omega arith)
stands (y ∷ ys) zero x low e = ap Some (sym e)
stands (y ∷ ys) (suc i) x low e = stands ys i x (omega arith) e

first_kept : (xs : List (Port Letter)) (x : Port Letter) → get_or (remove xs 1) 0 x ≡ get_or xs 0 x
first_kept [] x = refl
first_kept (y ∷ ys) x = refl

pub returns : goal.returns
returns c = let xs = c.args.ports.items in let two = c.requires.count in
    let a = c.remove-a.result in let b = c.remove-b.result in (
      c.requires.new 0 a (stands xs 0 a (omega arith) (c.remove-a.ensures.value
          ∙ ap (λ l. get_or l 0 a) c.remove-b.ensures.items ∙ first_kept xs a)),
      c.requires.new 1 b (stands xs 1 b (omega arith) c.remove-b.ensures.value),
    )
