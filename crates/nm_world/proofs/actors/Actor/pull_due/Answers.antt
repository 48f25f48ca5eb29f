-- The piece comes behind the others of its sender.
use Rattle.std.proofs.Common.{ℕ, ◌+◌, ◌<◌, true, length, sym, ap, subst, arith, refl}
use Rattle.nm_types.specs.declared.packets.Piece.{Piece}
use Rattle.nm_rank.specs.Calls.{TakesPiece}
use Rattle.nm_process.specs.Processes.{ProcessView}
use Rattle.nm_history.specs.Pieces.{due_pieces}
use Rattle.nm_receiving.specs.Receipts.{drawn_from}
use Rattle.nm_copyring.specs.Plays.{one_empty, one_pulled}
use Rattle.nm_copyring.specs.Ports as ring
use Rattle.nm_world.specs.declared.actors.Actor.{Actor}
use Rattle.nm_world.specs.Actors.{Grows}
use Rattle.nm_world.specs.Actors.Grew.{pulled}
use Rattle.nm_world.proofs.Did.{did_more}
use Rattle.nm_world.proofs.Grows.{empty_up, port_same, pulled_more, pulled_up, ring_up}
use Rattle.nm_world.proofs.Idle.{no_piece, stepped_fresh}
use Rattle.nm_world.proofs.Moves.{port_missed}
use Rattle.nm_world.proofs.Results.{clash}
use Rattle.nm_world.proofs.Steps.{pull_on, ring_goes_on}
use Rattle.nm_world.proofs.actors.Actor.pull_due.Goals as goal

pub returns : goal.returns
returns g c =
    let s = c.requires.1.1.0 in
    let a = c.args.self.now in
    let v = c.take_piece.new.self in
    let q = c.in-Ok.piece.value in
    let pulls = c.in-Ok.ensures.pulls in
    let knew = pulls.knew in
    let shape = a.process.rank.sizes in
    let sender = c.requires.1.1.1.0 in
    let ranks = s.ranks.1 in
    let own = pulls.from in
    let due = c.requires.1.1.1.1.0 in
    let taken = subst (λ (p : Piece). TakesPiece p a.process.rank v.rank) c.deref.ensures
    c.in_ok-take_piece.ensures.taken in
    let from : q.from < a.process.rank.sizes.ranks = omega (arith, own, sender, ranks) in
    let is_due = subst (λ (k : ℕ). drawn_from a.process.rank.receiving k < length (due_pieces a.process.rank.events k))
    (sym own) due in
    let n = g.here.fabric.ranks in
    let wide = s.rings.1.2 in
    let cells = s.ranks.0 in
    let port = c.pull.new.port in
    let b : Actor _ = record { process = v; port = a.port; ring = port; places = tt } in
    let low : c.args.sender < length (ring.knows a.ring).lanes = omega (arith, sender, wide) in
    let grows : Grows a b = record {
      events = (_, taken.happened.events);
      port = port_same a.port;
      ring = ring_up a.ring port (one_pulled q) c.args.sender low (pulled_up q) knew;
    } in
    let fresh = c.requires.1.1.1.1.1 in
    record {
      moves = record {
        kept = ring_goes_on g.here.fabric c.args.r.now a v port s c.pull.ensures.keeps taken.sizes grows
            (λ commands last at. pull_on commands last a v port c.args.sender q at low pulls
            (c.in_ok-take_piece.ensures.work shape commands (last + 1) (omega arith) at.is.work)
            (c.a_piece_is_taken.ensures shape commands a.port.rank a.process.rank v.rank at.past q from is_due taken
            at.is.stands));
        moved = did_more n a b grows (pulled c.args.sender (omega (arith, sender, cells, ranks))
            (pulled_more (ring.knows a.ring) (ring.knows port) c.args.sender q low knew));
        stepped = stepped_fresh true a b fresh (ap (λ (x : ProcessView). x.at) c.in_ok-take_piece.ensures.others)
            (λ none. absurd (clash none));
      };
      bound = let cost = c.in-Ok.ensures.cost.0 in omega (arith, cost);
      none = λ none. absurd (clash none);
    }

pub returns-in-Err : goal.returns-in-Err
returns-in-Err g c =
    let s = c.requires.1.1.0 in
    let a = c.args.self.now in
    let sender = c.requires.1.1.1.0 in
    let wide = s.rings.1.2 in
    let missed = c.in-Err.ensures.missed.0 in
    let fresh = c.requires.1.1.1.1.1 in
    let done = port_missed (record g.here { rings = c.args.r.now }) a c.pull.new.port one_empty c.args.sender fresh s
    c.pull.ensures.keeps (omega (arith, sender, wide)) empty_up (λ l. (refl, refl))
    missed in
    let b : Actor _ = record a { ring = c.pull.new.port } in
    record {
      bound = let cost = c.in-Err.ensures.cost.1 in omega (arith, cost);
      moves = done;
      none = λ none. no_piece a b c.args.sender (omega (arith, sender, wide)) missed;
    }
