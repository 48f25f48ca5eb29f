-- What all crews tell, and no player.
use Rattle.std.proofs.Common.{◌∙◌, false, ap, sym}
use Rattle.std.specs.Option.{option_copied}
use Rattle.nm_world.specs.Sweeps.{HasSwept}
use Rattle.nm_world.proofs.Sweeps.{none_told, swept_all}
use Rattle.nm_world.proofs.rounds.round_in.Given.{Over}
use Rattle.nm_world.proofs.rounds.round_in.Goals as goal
use Rattle.nm_world.proofs.rounds.round_in.Goals.{In_default}

-- there is none
none : (g : Over) (c : In_default g) →
    HasSwept c.args.f.now.ranks g.S.Source.shows g.S.Source.gives c.args.f.now c.args.r.now false c.args.players.now
    c.args.players.now
none g c =
    none_told c.args.f.now.ranks g.S.Source.shows g.S.Source.gives c.args.f.now c.args.r.now c.args.players.now
    (sym c.first.ensures.value ∙ ap option_copied c.in_default.is)

pub returns-in_default-clause-kept : goal.returns-in_default-clause-kept
returns-in_default-clause-kept g c = (none g c).kept

pub returns-in_default-clause-moved : goal.returns-in_default-clause-moved
returns-in_default-clause-moved g c = (none g c).moved

pub returns-in_default-clause-idle : goal.returns-in_default-clause-idle
returns-in_default-clause-idle g c = (none g c).idle

pub returns-clause-kept : goal.returns-clause-kept
returns-clause-kept g c =
    (swept_all c.args.f.now.ranks g.S.Source.shows g.S.Source.gives c.args.f.now c.args.r.now c.args.players.now c.turns_by.new.items
    c.in_ok-moved.moved c.in_ok-moved.ensures.told).kept

pub returns-clause-moved : goal.returns-clause-moved
returns-clause-moved g c =
    (swept_all c.args.f.now.ranks g.S.Source.shows g.S.Source.gives c.args.f.now c.args.r.now c.args.players.now c.turns_by.new.items
    c.in_ok-moved.moved c.in_ok-moved.ensures.told).moved

pub returns-clause-idle : goal.returns-clause-idle
returns-clause-idle g c =
    (swept_all c.args.f.now.ranks g.S.Source.shows g.S.Source.gives c.args.f.now c.args.r.now c.args.players.now c.turns_by.new.items
    c.in_ok-moved.moved c.in_ok-moved.ensures.told).idle

pub turns_by-requires-clause-stands : goal.turns_by-requires-clause-stands
turns_by-requires-clause-stands g c lifetimes outlive = c.requires.stands
