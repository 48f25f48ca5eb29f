-- The piece is the next one of its sender.
use Rattle.std.proofs.Common.{ℕ, sym, ap, ◌∙◌, arith}
use Rattle.nm_rndv.specs.Offers.{offered}
use Rattle.nm_sending.specs.Departures.{pushed_to}
use Rattle.nm_rank.specs.Ranks.{count_of}
use Rattle.uses.proofs.StepLemmas.{piece_moved}
use Rattle.uses.proofs.rank.moving.move_piece.Goals as goal

pub take_piece-requires-clause-sender : goal.take_piece-requires-clause-sender
take_piece-requires-clause-sender c =
    let step = c.requires.step in
    let own = c.in-Some.ensures.own.1 in
    let me = step.first.me in
    let low = step.first.low in
    let ranks = step.second.ranks in omega (arith, own, me, low, ranks)

pub take_piece-requires-clause-number : goal.take_piece-requires-clause-number
take_piece-requires-clause-number c =
    let step = c.requires.step in
    let own = c.in-Some.ensures.own in
    own.2 ∙ ap (λ (k : ℕ). pushed_to c.args.from.now.sending k) c.if-at-there.false
    ∙ sym step.there.pieces ∙ ap (λ (k : ℕ). count_of c.args.to.now.pulled k) (sym (own.1 ∙ step.first.me))

pub returns : goal.returns
returns c =
    let step = c.requires.step in
    let own = c.in-Some.ensures.own in record {
      step = piece_moved c.args.from.now c.pop_piece.new.self c.args.to.now c.take_piece.new.self
          c.front_piece.new.into (offered (c.in-Some.at, c.front_piece.new.into)) step (own.1 ∙ step.first.me)
          c.in_ok-take_piece.ensures.taken c.in-Some.ensures.next c.if-at-there.false c.pop_piece.ensures;
    }
