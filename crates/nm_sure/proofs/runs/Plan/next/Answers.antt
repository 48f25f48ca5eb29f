-- A rank that there is has its lines, and any other has none.
use Rattle.std.proofs.Common.{◌≡◌, ◌≤◌, ℕ, List, Some, ap, arith, get_or, length, refl, sym, ◌∙◌}
use Rattle.std.specs.List.{slice_get}
use Rattle.std.proofs.lemmas.Option.{slice_get_read}
use Rattle.nm_sure.proofs.Running.{got_at, next_none, next_some}
use Rattle.nm_sure.proofs.runs.Plan.next.Goals as goal

pub returns-in_err-own : goal.returns-in_err-own
returns-in_err-own c =
    let past : length c.args.self.now.ranks.items ≤ c.args.rank =
    (let low = c.in_err-own.ensures.lookup.3 in let same = c.deref.ensures.len in omega (arith, low, same)) in
    c.from_residual.ensures
    ∙ sym (next_none c.args.self.now.lines.now c.args.self.now.ranks.items _ _ c.args.self.now.right c.args.at.now
    c.args.rank past)

pub returns : goal.returns
returns c =
    let shown : c.copied.result ≡ slice_get c.deref-2.result.now (get_or c.args.at.now c.args.rank 0) =
    c.copied.ensures ∙ got_at c.deref-2.result.now (get_or c.args.at.now c.args.rank 0) c.get-2.result
    c.get-2.ensures.lookup.0 c.get-2.ensures.lookup.1 in
    let here : slice_get c.args.self.now.ranks.items c.args.rank ≡ Some c.in_ok-own.own.now =
    rw c.deref.ensures.value at
    (slice_get_read c.deref.result.now (length c.deref.result.now) c.args.rank c.in_ok-own.own.now refl
    c.in_ok-own.ensures.lookup.3.0 c.in_ok-own.ensures.lookup.1) in
    shown
    ∙ ap (λ (ls : List ℕ). slice_get ls (get_or c.args.at.now c.args.rank 0)) c.deref-2.ensures.value
    ∙ next_some c.args.self.now.lines.now c.args.self.now.ranks.items _ _ c.args.self.now.right c.args.at.now
    c.args.rank c.in_ok-own.own.now here
