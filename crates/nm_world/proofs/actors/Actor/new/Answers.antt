-- A new process and new ports.
use Rattle.std.proofs.Common.{ℕ, ◌+◌, List, [], subst}
use Rattle.nm_types.specs.Commands.{Numbered}
use Rattle.nm_rank.specs.New.{IsNew}
use Rattle.nm_world.proofs.Begins.{new_ports, new_stands}
use Rattle.nm_world.proofs.actors.Actor.new.Goals as goal

pub returns-clause-stands : goal.returns-clause-stands
returns-clause-stands g c f r sizes fresh ring_fresh commands last =
    let v = c.in_ok-process.process in
    let p = c.in_ok-process.ensures in
    let shape = c.args.shape in
    let port = c.args.port in
    let new = subst (λ (k : ℕ). IsNew shape k v.rank) c.rank.ensures p.new in
    let work = p.begins commands (last + 1) in
    let standing = c.a_process_begins.ensures shape commands (last + 1) port.rank v work new in
    new_stands shape commands last f r v port c.args.ring sizes.1 fresh ring_fresh new.sizes work standing.rank

pub returns-clause-ports : goal.returns-clause-ports
returns-clause-ports g c f r sizes fresh ring_fresh =
    let v = c.in_ok-process.process in
    let p = c.in_ok-process.ensures in
    let shape = c.args.shape in
    let port = c.args.port in
    let new = subst (λ (k : ℕ). IsNew shape k v.rank) c.rank.ensures p.new in
    let none : List Numbered = [] in
    let work = p.begins none 1 in
    let standing = c.a_process_begins.ensures shape none 1 port.rank v work new in
    new_ports shape f r v port c.args.ring sizes.0 sizes.1 fresh ring_fresh new.sizes (record {
      commands = none;
      last = 0;
      stands = new_stands shape none 0 f r v port c.args.ring sizes.1 fresh ring_fresh new.sizes work standing.rank;
    })
