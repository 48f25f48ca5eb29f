-- What came is something done, and so is all that follows from it.
use Rattle.std.proofs.Common.{◌≡◌, Bool, true, refl, subst}
use Rattle.nm_world.specs.declared.players.Player.{Player}
use Rattle.nm_world.specs.Actors.{did}
use Rattle.nm_world.proofs.Did.{did_on, did_same}
use Rattle.nm_world.proofs.Playing.{carries_on, plays_on, plays_same}
use Rattle.nm_world.proofs.Results.{clash}
use Rattle.nm_world.proofs.players.Player.reply.Goals as goal

pub returns-then-is_busy : goal.returns-then-is_busy
returns-then-is_busy g c =
    let x = c.args.self.now in
    record {
      kept = plays_same g.S.Source.shows g.S.Source.gives c.args.f.now g.here.rings x c.requires.1.1.1;
      moved = did_same c.args.f.now.ranks x.actor;
      still = λ none. (refl, refl);
    }

pub returns-then-not-branch : goal.returns-then-not-branch
returns-then-not-branch g c =
    let x = c.args.self.now in
    let t = c.take_soon.new.self in
    let moves = c.in_ok-take_soon.ensures.moves in
    let none = c.if-not-branch.true in
    record {
      kept = carries_on g.S.Source.shows g.S.Source.gives c.args.f.now g.here.rings x t c.requires.1.1.1 moves.kept
          moves.stepped.at;
      moved = subst (λ (p : Bool). p ≡ did c.args.f.now.ranks x.actor t) none moves.moved;
      still = λ same. (moves.stepped.still none, refl);
    }

pub take_soon-requires : goal.take_soon-requires
take_soon-requires g c lifetimes outlive = (outlive.0, (outlive.1, c.requires.1.1.1.ports))

pub run_while_idle-requires : goal.run_while_idle-requires
run_while_idle-requires g c lifetimes outlive =
    let x = c.args.self.now in
    let moves = c.in_ok-take_soon.ensures.moves in
    let took = carries_on g.S.Source.shows g.S.Source.gives c.args.f.now g.here.rings x c.take_soon.new.self
    c.requires.1.1.1 moves.kept moves.stepped.at in
    (outlive.0, (outlive.1.0, (outlive.1.1, (refl, took.stands))))

pub returns : goal.returns
returns g c =
    let shows = g.S.Source.shows in
    let gives = g.S.Source.gives in
    let f = c.args.f.now in
    let r = g.here.rings in
    let x = c.args.self.now in
    let t : Player _ _ = record { actor = c.take_soon.new.self; source = x.source } in
    let e = c.run_while_idle.new.self in
    let moves = c.in_ok-take_soon.ensures.moves in
    let took = carries_on shows gives f r x t.actor c.requires.1.1.1 moves.kept moves.stepped.at in
    let ran = c.in_ok-run_while_idle.ensures in
    record {
      kept = plays_on shows gives f r x t e took ran;
      moved = did_on f.ranks x.actor t.actor e.actor true (did f.ranks t.actor e.actor) took.grows ran.grows
          (subst (λ (p : Bool). p ≡ did f.ranks x.actor t.actor) c.if-not-branch.false moves.moved) refl;
      still = λ none. absurd (clash none);
    }
