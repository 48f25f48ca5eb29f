-- The piece comes behind the others of its sender.
use Rattle.std.proofs.Common.{◌≡◌, ℕ, ◌<◌, ◌≤◌, true, false, length, sym, ◌∙◌, subst, arith, refl}
use Rattle.std.specs.Prelude.{nat_lt}
use Rattle.std.proofs.lemmas.Bool.Decides.{nat_tests}
use Rattle.nm_history.specs.Pieces.{due_pieces}
use Rattle.nm_receiving.specs.Receipts.{drawn_from}
use Rattle.nm_copyring.specs.Plays.{one_empty}
use Rattle.nm_copyring.specs.Ports as ring
use Rattle.nm_world.specs.declared.actors.Actor.{Actor}
use Rattle.nm_world.proofs.Grows.{empty_up}
use Rattle.nm_world.proofs.Idle.{no_piece}
use Rattle.nm_world.proofs.Moves.{moves_none, moves_on, port_looked, port_missed}
use Rattle.nm_world.proofs.Results.{clash}
use Rattle.std.proofs.lemmas.Result.{IfOk-weaker}
use Rattle.nm_copyring.specs.declared.table.Entry as ring_entry
use Rattle.nm_copyring.specs.Rule.{lane}
use Rattle.nm_world.proofs.actors.Actor.pull_next.Goals as goal

is_below : (x y : ℕ) → nat_lt x y ≡ true → x < y
is_below x y is = grind (arith, nat_tests)

isnt_below : (x y : ℕ) → nat_lt x y ≡ false → x < y → ⊥
isnt_below x y is less = let no : y ≤ x = grind (arith, nat_tests) in omega (arith, no, less)

pub returns-then-not-is_piece_due : goal.returns-then-not-is_piece_due
returns-then-not-is_piece_due g c =
    let a = c.args.self.now in
    record {
      bound = omega arith;
      moves = moves_none (record g.here { rings = c.args.r.now }) a c.requires.1.1.0;
      none = λ none fresh due. absurd (isnt_below (drawn_from a.process.rank.receiving c.args.sender)
          (length (due_pieces a.process.rank.events c.args.sender))
          (sym (rw c.rank-rank.ensures at c.is_piece_due.ensures) ∙ c.if-not-is_piece_due.true) due);
    }

pub returns-then-is_worn : goal.returns-then-is_worn
returns-then-is_worn g c =
    let a = c.args.self.now in
    record {
      bound = omega arith;
      moves = moves_none (record g.here { rings = c.args.r.now }) a c.requires.1.1.0;
      none = λ none fresh. absurd
          (clash (sym c.if-is_worn.true ∙ (rw c.rank-rank.ensures at c.is_worn.ensures).1 fresh));
    }

pub returns-then-not-can_pull : goal.returns-then-not-can_pull
returns-then-not-can_pull g c =
    let s = c.requires.1.1.0 in
    let a = c.args.self.now in
    let sender = c.requires.1.1.1 in
    let wide = s.rings.1.2 in
    let fresh = (rw c.rank-rank.ensures at c.is_worn.ensures).0 c.if-is_worn.false in
    let done = port_missed (record g.here { rings = c.args.r.now }) a c.can_pull.new.port one_empty c.args.sender
    fresh s
    c.can_pull.ensures.keeps (omega (arith, sender, wide)) empty_up (λ l. (refl, refl))
    (c.can_pull.ensures.empty c.if-not-can_pull.true) in
    let b : Actor _ = record a { ring = c.can_pull.new.port } in
    record {
      bound = let cost = c.can_pull.ensures.cost in omega (arith, cost);
      moves = done;
      none = λ none fresh. no_piece a b c.args.sender (omega (arith, sender, wide))
          (c.can_pull.ensures.empty c.if-not-can_pull.true);
    }

pub pull_due-requires : goal.pull_due-requires
pull_due-requires g c lifetimes outlive =
    let a = c.args.self.now in
    let fresh = (rw c.rank-rank.ensures at c.is_worn.ensures).0 c.if-is_worn.false in
    let looked = port_looked (record g.here { rings = c.args.r.now }) a c.can_pull.new.port fresh c.requires.1.1.0
    c.can_pull.ensures.keeps ((c.can_pull.ensures.full c.if-not-can_pull.false).0) in
    let due = is_below (drawn_from a.process.rank.receiving c.args.sender)
    (length (due_pieces a.process.rank.events c.args.sender))
    (sym (rw c.rank-rank.ensures at c.is_piece_due.ensures) ∙ c.if-not-is_piece_due.false) in
    (outlive.0, (outlive.1, (looked.kept.ports, (c.requires.1.1.1, (due, fresh)))))

pub returns : goal.returns
returns g c =
    let a = c.args.self.now in
    let port = c.can_pull.new.port in
    let knew = (c.can_pull.ensures.full c.if-not-can_pull.false).0 in
    let fresh = (rw c.rank-rank.ensures at c.is_worn.ensures).0 c.if-is_worn.false in
    let looked = port_looked (record g.here { rings = c.args.r.now }) a port fresh c.requires.1.1.0
    c.can_pull.ensures.keeps knew in
    let b : Actor _ = record a { ring = port } in
    let d = c.pull_due.new.self in
    let e = c.pull_due.ensures in
    record {
      bound = let cost = c.can_pull.ensures.cost in let more = e.bound in omega (arith, cost, more);
      moves = IfOk-weaker c.pull_due.result _ _
          (λ m is. moves_on (record g.here { rings = c.args.r.now }) false m a b d looked is) e.moves;
      none = IfOk-weaker c.pull_due.result _ _ (λ m is none fresh due. subst
          (λ (x : ring_entry.Entry). (lane x c.args.sender).empty < ring.empty_from d.ring c.args.sender) knew
          (is none due)) e.none;
    }
