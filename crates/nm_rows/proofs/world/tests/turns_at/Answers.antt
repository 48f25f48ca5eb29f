-- Each of the two has its script, its ports and its rank.
use Rattle.std.proofs.Common.{ℕ, ◌<◌, arith, subst, sym}
use Rattle.nm_cells.specs.Ports.{IsNew}
use Rattle.nm_copyring.specs.Ports as ring_port
use Rattle.std.proofs.lemmas.Option.{get_or_from_slice_get}
use Rattle.nm_types.proofs.ListLemmas.{place_below}
use Rattle.nm_process.specs.Places.{ScriptedView, gives_lines, shown}
use Rattle.nm_world.specs.Players.{BeginsAt}
use Rattle.nm_rows.proofs.world.tests.turns_at.Goals as goal

pub player_at-first-requires-clause-script : goal.player_at-first-requires-clause-script
player_at-first-requires-clause-script c =
    let scripts = c.args.scripts.items in
    let s = c.both-script.result.0 in
    subst (λ (x : ScriptedView). BeginsAt shown gives_lines c.args.shape.ranks x)
    (get_or_from_slice_get scripts 0 s s c.both-script.ensures.first)
    (c.requires.scripts 0 s (place_below scripts 0 s c.both-script.ensures.first))

pub player_at-second-requires-clause-script : goal.player_at-second-requires-clause-script
player_at-second-requires-clause-script c =
    let scripts = c.args.scripts.items in
    let s = c.both-script.result.1 in
    subst (λ (x : ScriptedView). BeginsAt shown gives_lines c.args.shape.ranks x)
    (get_or_from_slice_get scripts 1 s s c.both-script.ensures.second)
    (c.requires.scripts 1 s (place_below scripts 1 s c.both-script.ensures.second))

pub player_at-first-requires-clause-new : goal.player_at-first-requires-clause-new
player_at-first-requires-clause-new c =
    let p = c.both-port.result.0 in
    let new = c.requires.ports 0 p c.both-port.ensures.first in (
      subst (λ (n : ℕ). IsNew c.args.f.now p n) (sym new.1) new,
      subst (λ (n : ℕ). ring_port.IsNew c.args.r.now c.both-ring.result.0 n) (sym new.1)
          (c.requires.rings 0 c.both-ring.result.0 c.both-ring.ensures.first),
    )

pub player_at-first-requires-clause-in_range : goal.player_at-first-requires-clause-in_range
player_at-first-requires-clause-in_range c =
    let new = c.requires.ports 0 c.both-port.result.0 c.both-port.ensures.first in
    subst (λ (n : ℕ). n < c.args.shape.ranks) (sym new.1)
    (subst (λ (n : ℕ). 0 < n) (sym c.requires.two) (omega arith))

pub player_at-second-requires-clause-new : goal.player_at-second-requires-clause-new
player_at-second-requires-clause-new c =
    let p = c.both-port.result.1 in
    let new = c.requires.ports 1 p c.both-port.ensures.second in (
      subst (λ (n : ℕ). IsNew c.args.f.now p n) (sym new.1) new,
      subst (λ (n : ℕ). ring_port.IsNew c.args.r.now c.both-ring.result.1 n) (sym new.1)
          (c.requires.rings 1 c.both-ring.result.1 c.both-ring.ensures.second),
    )

pub player_at-second-requires-clause-in_range : goal.player_at-second-requires-clause-in_range
player_at-second-requires-clause-in_range c =
    let new = c.requires.ports 1 c.both-port.result.1 c.both-port.ensures.second in
    subst (λ (n : ℕ). n < c.args.shape.ranks) (sym new.1)
    (subst (λ (n : ℕ). 1 < n) (sym c.requires.two) (omega arith))
