-- The state with a number, if it is there, and the one nearby.
use Rattle.std.proofs.Common.{ℕ, [], List, Option, ◌∙◌, ap, subst, sym}
use Rattle.std.specs.Prelude.{OnOk, Ok, Err, Result, unwrap_or}
use Rattle.std.specs.List.{slice_get}
use Rattle.nm_types.proofs.ListLemmas.{no_item}
use Rattle.nm_outcomes.specs.RankStates.{Spot}
use Rattle.nm_explored.specs.Stores.{AreLow, Store}
use Rattle.nm_hangs.specs.Hunts.{AreNear, IsNoted}
use Rattle.nm_hangs.proofs.NotedLemmas.{unwrapped}
use Rattle.nm_hangs.proofs.hunts.push_state.Goals as goal

on_ok : {X E P Q : Type 0} → (P → Q) → (r : Result X E) → OnOk r P → OnOk r Q
on_ok follows (Ok x) right = follows right
on_ok follows (Err e) right = tt

pub push_new-requires-clause-low : goal.push_new-requires-clause-low
push_new-requires-clause-low c =
    subst (λ (x : List Spot). AreLow x c.ids_of-2.result.now)
    (sym (ap (λ (s : Store). s.table) c.search.view_is))
    (subst (λ (y : List ℕ). AreLow c.args.search.now.table y) (sym c.ids_of-2.ensures)
    (unwrapped (λ (y : List ℕ). AreLow c.args.search.now.table y) (slice_get c.args.search.now.states c.args.n)
    (λ j id here. absurd (no_item j id here)) (λ ids here. (c.requires.made.sound c.args.n ids here).low)))

pub push_new-requires-clause-near : goal.push_new-requires-clause-near
push_new-requires-clause-near c own there =
    subst (λ (x : List Spot). AreNear c.args.of.lines.now x c.ids_of.result.now own)
    (sym (ap (λ (s : Store). s.table) c.search.view_is))
    (subst (λ (y : List ℕ). AreNear c.args.of.lines.now c.args.search.now.table y own) (sym c.ids_of.ensures)
    (unwrapped (λ (y : List ℕ). AreNear c.args.of.lines.now c.args.search.now.table y own)
    (slice_get c.args.search.now.states c.args.near.state) (λ j id class here. absurd (no_item j id here))
    (λ ids here. c.requires.near ids own here there)))

pub returns : goal.returns
returns c =
    on_ok
    (λ noted ids here.
    subst (λ (x : List Spot). IsNoted c.args.of.lines.now x ids c.args.n c.args.classes.now c.push_new.new.classes
    c.args.ahead.now.items c.push_new.new.ahead.items)
    (ap (λ (s : Store). s.table) c.search.view_is)
    (subst (λ (y : List ℕ). IsNoted c.args.of.lines.now c.search.inside.table y c.args.n c.args.classes.now
    c.push_new.new.classes c.args.ahead.now.items c.push_new.new.ahead.items)
    (c.ids_of-2.ensures ∙ ap (λ (o : Option (List ℕ)). unwrap_or o []) here) noted))
    c.push_new.result c.push_new.ensures
