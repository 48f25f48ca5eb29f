-- The receive that the name of one line more stands for.
use Rattle.std.proofs.Common.{◌≡◌, ℕ, true, Some, arith, subst}
use Rattle.nm_types.specs.declared.scripts.Line.{Line}
use Rattle.nm_types.proofs.ListLemmas.{place_below}
use Rattle.nm_history.specs.Answers.{is_start_of}
use Rattle.nm_history.specs.Completion.Request.{Receiving}
use Rattle.nm_outcomes.specs.Looks.{live_in}
use Rattle.nm_search.specs.Lists.{Has}
use Rattle.nm_search.proofs.ListLemmas.{has_kept, keeps_all, keeps_then}
use Rattle.nm_hangs.proofs.FitLemmas.{named_line}
use Rattle.nm_hangs.proofs.NotedLemmas.{each_at, of_some}
use Rattle.nm_hangs.proofs.alike.push_live.Goals as goal

pub loop-line-init : goal.loop-line-init
loop-line-init c = record {
  kept = keeps_all c.args.numbers.now.items;
  added = λ m line low here own q number starts lives. absurd (omega (arith, low));
}

pub loop-line-preserved : goal.loop-line-preserved
loop-line-preserved c = record {
  kept = keeps_then c.args.numbers.now.items c.loop-line.numbers.items c.push_number.new.numbers.items
      c.loop-line.invariant.kept c.in_ok-push_number.ensures.kept;
  added = each_at
      (λ (line : Line). line.rank ≡ c.args.i → (q number : ℕ) → is_start_of q line.command ≡ true →
      live_in c.args.lines.now c.args.i c.args.deeds.now q ≡ Some (Receiving number) →
      Has c.push_number.new.numbers.items number) c.args.lines.now c.loop-line.line-index c.line-item.result
      (subst
      (λ (line : Line). line.rank ≡ c.args.i → (q number : ℕ) → is_start_of q line.command ≡ true →
      live_in c.args.lines.now c.args.i c.args.deeds.now q ≡ Some (Receiving number) →
      Has c.push_number.new.numbers.items number) c.line-item.is
      (λ own q number starts lives.
      of_some (Has c.push_number.new.numbers.items) number c.receive_at.result
      (c.receive_at.ensures own q number starts lives) c.in_ok-push_number.ensures.added))
      (λ m line low here own q number starts lives.
      has_kept c.loop-line.numbers.items c.push_number.new.numbers.items number c.in_ok-push_number.ensures.kept
      (c.loop-line.invariant.added m line low here own q number starts lives));
}

pub returns-clause-added : goal.returns-clause-added
returns-clause-added c q number lives =
    let l = named_line c.args.lines.now c.args.i q number c.args.deeds.now lives in
    let end = c.loop-line-test.false in
    let below = place_below c.args.lines.now l.1.0 l.0 l.1.1 in
    c.loop-line.invariant.added l.1.0 l.0 (omega (arith, end, below)) l.1.1 l.2 q number l.3 lives
