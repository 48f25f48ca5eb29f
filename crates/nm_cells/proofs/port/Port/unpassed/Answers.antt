use Rattle.std.proofs.Common.{◌≡◌, ℕ, ◌+◌, take, sum_by, ap, ◌∙◌, arith, min}
use Rattle.std.proofs.lemmas.List.Sums.{sum_by_more}
use Rattle.nm_cells.specs.declared.tallies.Tally.{Tally}
use Rattle.nm_chain.specs.Plays.{capped}
use Rattle.nm_cells.proofs.port.Port.unpassed.Goals as goal

more : (a b t m : ℕ) → t ≡ min a m → min (t + b) m ≡ min (a + b) m
more a b t m is = omega arith

pub loop-i-preserved : goal.loop-i-preserved
loop-i-preserved g c = let xs = c.args.self.now.peers.items in let i = c.loop-i.i in
    let f : Tally → ℕ = λ p. p.unpassed in let e = c.index.result.now in
    let long = c.len-i-end.ensures in let test = c.loop-i-test.true in
    let s = sum_by_more f xs i e (omega arith) in
    let at = ap f c.index.ensures in
    c.saturating_add-total.ensures
    ∙ more (sum_by f (take i xs)) (f e) c.loop-i.total 18446744073709551615 c.loop-i.invariant
    ∙ ap capped (let z : sum_by f (take i xs) + f e ≡ sum_by f (take (i + 1) xs) = omega arith in z)
