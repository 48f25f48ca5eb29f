-- The receive that one deed more started.
use Rattle.std.proofs.Common.{◌≡◌, ℕ, ◌≤◌, true, Some, [], arith}
use Rattle.nm_types.proofs.ListLemmas.{place_below}
use Rattle.nm_history.specs.Answers.{request_of}
use Rattle.nm_history.specs.Completion.Request.{Receiving}
use Rattle.nm_outcomes.specs.declared.spots.deeds.Deed.{Deed}
use Rattle.nm_outcomes.specs.Deeds.{happening}
use Rattle.nm_outcomes.specs.Looks.{is_start_by}
use Rattle.nm_search.specs.Lists.{Has}
use Rattle.nm_search.proofs.ListLemmas.{has_kept, keeps_all, keeps_then}
use Rattle.nm_hangs.proofs.FitLemmas.{made_there}
use Rattle.nm_hangs.proofs.NotedLemmas.{each_at, of_some}
use Rattle.nm_hangs.proofs.alike.push_started.Goals as goal

pub loop-deed-init : goal.loop-deed-init
loop-deed-init c = record {
  kept = keeps_all c.args.numbers.now.items;
  added = λ m d low here line number order starts makes. absurd (omega (arith, low));
}

pub loop-deed-preserved : goal.loop-deed-preserved
loop-deed-preserved c = record {
  kept = keeps_then c.args.numbers.now.items c.loop-deed.numbers.items c.push_number.new.numbers.items
      c.loop-deed.invariant.kept c.in_ok-push_number.ensures.kept;
  added = each_at
      (λ (d : Deed). (line number : ℕ) → c.args.current ≤ line → is_start_by line d ≡ true →
      request_of line (happening [] d) ≡ Some (Receiving number) → Has c.push_number.new.numbers.items number)
      c.args.deeds.now c.loop-deed.deed-index _
      (λ line number order starts makes.
      of_some (Has c.push_number.new.numbers.items) number c.started_from.result
      (c.started_from.ensures line number order starts makes) c.in_ok-push_number.ensures.added)
      (λ m d low here line number order starts makes.
      has_kept c.loop-deed.numbers.items c.push_number.new.numbers.items number c.in_ok-push_number.ensures.kept
      (c.loop-deed.invariant.added m d low here line number order starts makes));
}

pub returns-clause-added : goal.returns-clause-added
returns-clause-added c line number order made =
    let d = made_there c.args.deeds.now line number made in
    let end = c.loop-deed-test.false in
    let below = place_below c.args.deeds.now d.1.0 d.0 d.1.1 in
    c.loop-deed.invariant.added d.1.0 d.0 (omega (arith, end, below)) d.1.1 line number order d.2 d.3
