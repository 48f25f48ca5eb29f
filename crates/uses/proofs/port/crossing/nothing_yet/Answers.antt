-- No packet is the front of any text.
use Rattle.std.proofs.Common.{[], sym, ap, ◌∙◌, refl, subst}
use Rattle.nm_port.specs.Polls.{count_held}
use Rattle.uses.specs.Crossings.{Takes, byte_of}
use Rattle.uses.proofs.port.crossing.nothing_yet.Goals as goal

pub returns-clause-sends : goal.returns-clause-sends
returns-clause-sends c text = record {
  bytes = [];
  sent = c.a_new_port_carries_nothing.ensures.sent byte_of c.args.f.now c.args.a.now 0 1 c.requires.first;
  front = refl;
}

pub returns-clause-rest : goal.returns-clause-rest
returns-clause-rest c = let new = c.requires.second.0 in new.7 ∙ sym (ap count_held new.6)

pub returns-clause-takes : goal.returns-clause-takes
returns-clause-takes c =
    subst (λ l. Takes c.args.b.now 0 l) (sym c.requires.second.1)
    (c.a_new_port_carries_nothing.ensures.passed byte_of c.args.f.now c.args.b.now 1 0 c.requires.second.0)
