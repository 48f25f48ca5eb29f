-- By what each call answered.
use Rattle.std.proofs.Common.{sym, refl, ◌∙◌}
use Rattle.nm_world.specs.Rest.CanMove.{worn, letter, piece, command}
use Rattle.nm_world.proofs.Results.{at_none, clash, no_letters, none_less, not_some, some_letters}
use Rattle.nm_world.proofs.players.Player.can_move.Goals as goal

pub returns-then-is_worn : goal.returns-then-is_worn
returns-then-is_worn g c = record {
  exactly = λ commands work. (
    λ e. worn (λ fresh. clash (sym c.if-is_worn.true ∙ (rw c.rank-rank.ensures at c.is_worn.ensures).1 fresh)),
    λ moves. refl,
  );
  still = λ stuck commands work. absurd (clash stuck);
}

pub returns-then-is_some : goal.returns-then-is_some
returns-then-is_some g c = record {
  exactly = λ commands work. (
    λ e. letter (some_letters c.args.self.now.actor.process.rank.sending.outbox.letters c.front_to.result _
        (rw c.rank-rank.ensures at c.front_to.ensures.first) (sym c.is_some.ensures ∙ c.if-is_some.true)),
    λ moves. refl,
  );
  still = λ stuck commands work. absurd (clash stuck);
}

pub returns-then-has_piece : goal.returns-then-has_piece
returns-then-has_piece g c = record {
  exactly = λ commands work. (
    λ e. piece ((rw c.rank-rank.ensures at c.has_piece.ensures.some) c.if-has_piece.true),
    λ moves. refl,
  );
  still = λ stuck commands work. absurd (clash stuck);
}

pub returns : goal.returns
returns g c =
    let v = c.args.self.now.actor.process in
    let no_front = sym c.is_some.ensures ∙ c.if-is_some.false in
    let no_piece = (rw c.rank-rank.ensures at c.has_piece.ensures.none) c.if-has_piece.false in
    let fresh = (rw c.rank-rank.ensures at c.is_worn.ensures).0 c.if-is_worn.false in
    let outbox = no_letters v.rank.sending.outbox.letters c.front_to.result _ _
    (rw c.rank-rank.ensures at c.front_to.ensures.first) no_front in
    record {
      exactly = λ commands work. (
        λ e. command (sym (c.can_run.ensures commands work) ∙ e),
        λ moves. elim moves [
          | worn not ↦ absurd (not fresh)
          | letter some ↦ absurd (none_less v.rank.sending.outbox.letters outbox some)
          | piece some ↦ absurd (not_some _ no_piece some)
          | command e ↦ c.can_run.ensures commands work ∙ e
        ],
      );
      still = λ stuck commands work. record {
        right = rw c.rank-rank.ensures at c.history.ensures.right;
        stamped = rw c.rank-rank.ensures at c.history.ensures.stamped;
        empty = rw c.rank-rank.ensures at c.history.ensures.empty;
        fresh = fresh;
        outbox = outbox;
        eager = at_none c.front_to.result _ (rw c.rank-rank.ensures at c.front_to.ensures.left) no_front;
        pieces = (rw c.rank-rank.ensures at c.has_piece.ensures.out).0 c.if-has_piece.false;
        cleared = (rw c.rank-rank.ensures at c.has_piece.ensures.left).0 c.if-has_piece.false;
        stuck = sym (c.can_run.ensures commands work) ∙ stuck;
      };
    }
