-- The state that one move more leads to is there.
use Rattle.std.proofs.Common.{◌≡◌, ℕ, ◌<◌, Option, Some, List, length, ◌∙◌, ap, subst, arith}
use Rattle.std.specs.List.{slice_get}
use Rattle.nm_types.proofs.ListLemmas.{place_below}
use Rattle.nm_outcomes.specs.RankStates.{Spot}
use Rattle.nm_explored.specs.declared.choices.moves.Turn.{Turn}
use Rattle.nm_explored.specs.Successors.{spot_in}
use Rattle.nm_explored.specs.Coming.{AreEnoughTurns}
use Rattle.nm_explored.specs.Moves.{moved_at}
use Rattle.nm_search.proofs.ListLemmas.{each_next}
use Rattle.nm_explored.specs.Stores.{Leads}
use Rattle.nm_explored.proofs.ExpandLemmas.{expanded_now}
use Rattle.nm_explored.proofs.MetLemmas.{got_has, turn_here, turn_shown}
use Rattle.nm_explored.proofs.StoreLemmas.{follow_leads, grows_then, leads_kept, spot_kept}
use Rattle.nm_explored.proofs.searches.Search.expand_from.Goals as goal

pub loop-turn-preserved : goal.loop-turn-preserved
loop-turn-preserved c =
    record {
      grows = grows_then c.args.self.now c.loop-turn.self c.follow.new.self c.loop-turn.invariant.grows
          c.in_ok-follow.ensures.grows;
      leads = λ ids here.
          each_next
          (λ (m : ℕ). (t : Turn) → slice_get c.deref-turn-items.result.now m ≡ Some t → (spot : Spot) →
          spot_in c.args.self.now.table ids t.rank ≡ Some spot →
          Leads c.follow.new.self ids t.rank (moved_at spot t.by)) c.loop-turn.turn-index
          (λ m low t at spot there.
          leads_kept c.loop-turn.self c.follow.new.self c.in_ok-follow.ensures.grows ids t.rank (moved_at spot t.by)
          (c.loop-turn.invariant.leads ids here m low t at spot there))
          (λ t at.
          follow_leads c.follow.new.self ids c.deref-turn-items.result.now c.loop-turn.turn-index _ t
          c.args.self.now.table at
          (λ spot there.
          c.in_ok-follow.ensures.leads ids spot (c.loop-turn.invariant.grows.states c.args.k ids here)
          (spot_kept c.args.self.now.table c.loop-turn.self.table ids _ spot c.loop-turn.invariant.grows.table there)));
      made = λ few short shown inside made.
          c.in_ok-follow.ensures.made c.args.of.eager c.args.of.ranks c.args.of.lines.now
          (c.loop-turn.invariant.made few short shown inside made)
          (turn_here c.args.of.eager c.args.of.ranks c.args.of.lines.now c.args.self.now c.loop-turn.self c.args.k _
          c.loop-turn.invariant.grows made inside
          (λ ids here.
          turn_shown c.args.of.eager c.args.of.ranks c.args.of.lines.now _ (spot_in c.args.self.now.table ids) _
          (shown ids here) (c.in_ok-turns.ensures.only few short _
          (got_has c.deref-turn-items.result.now c.in_ok-turns.turns.items c.loop-turn.turn-index _
          c.deref-turn-items.ensures.value c.loop-turn-test.true))));
      back = λ few short shown inside made back.
          c.in_ok-follow.ensures.back c.args.of.eager c.args.of.ranks c.args.of.lines.now
          (c.loop-turn.invariant.made few short shown inside made)
          (c.loop-turn.invariant.back few short shown inside made back)
          (turn_here c.args.of.eager c.args.of.ranks c.args.of.lines.now c.args.self.now c.loop-turn.self c.args.k _
          c.loop-turn.invariant.grows made inside
          (λ ids here.
          turn_shown c.args.of.eager c.args.of.ranks c.args.of.lines.now _ (spot_in c.args.self.now.table ids) _
          (shown ids here) (c.in_ok-turns.ensures.only few short _
          (got_has c.deref-turn-items.result.now c.in_ok-turns.turns.items c.loop-turn.turn-index _
          c.deref-turn-items.ensures.value c.loop-turn-test.true))));
    }

pub returns-clause-expanded : goal.returns-clause-expanded
returns-clause-expanded c few shown made ids here =
    let past = c.loop-turn-test.false in
    let same = c.deref-turn-items.ensures.value in
    expanded_now c.args.of.eager c.args.of.ranks c.args.of.lines.now c.args.self.now c.loop-turn.self
    c.loop-turn.invariant.grows made c.args.k ids here c.in_ok-turns.turns.items
    (λ m t at spot there.
    let inside = place_below c.in_ok-turns.turns.items m t at in
    let long = ap (λ (ts : List Turn). length ts) same in
    let low : m < c.loop-turn.turn-index = omega (arith, inside, long, past) in
    c.loop-turn.invariant.leads ids here m low t (ap (λ (ts : List Turn). slice_get ts m) same ∙ at) spot there)
    (subst (λ (v : ℕ → Option Spot). AreEnoughTurns c.args.of.eager c.args.of.ranks c.args.of.lines.now v
    c.in_ok-turns.turns.items) (shown ids here) (c.in_ok-turns.ensures.enough few))
