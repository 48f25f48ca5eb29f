use Rattle.std.proofs.Common.{[], ◌∙◌, sym, ap, refl, inl, inr, arith, List, length-append, true≢false}
use Rattle.std.specs.Prelude.{length}
use Rattle.nm_multi.proofs.Alone.{begins, moved_one, moves_of}
use Rattle.nm_multi.proofs.moving.move_first.Goals as goal

pub pop_front-requires-clause-first : goal.pop_front-requires-clause-first
pop_front-requires-clause-first c =
    let t = c.in_ok-take_packet.ensures.taken in
    let put = (t.happened (λ s. [])).packets in
    let some = c.requires.some in
    let long = ap (λ (l : List _). length l) put.letters
    ∙ length-append c.args.rank.now.sending.outbox.letters put.added in
    omega (arith, long, some)

pub returns-then-not-is_worn-clause-moves : goal.returns-then-not-is_worn-clause-moves
returns-then-not-is_worn-clause-moves c =
    let e = c.in-Some.ensures.own in
    let b = begins c.args.rank.now c.take_packet.new.self _ c.in-Some.field-0 c.fill_front.new.into
    c.fill_front.new.into c.requires.alone c.requires.fresh c.history.ensures.right (λ none. cc)
    c.in-Some.ensures.first e.0 e.1 refl c.in_ok-take_packet.ensures.taken in
    moves_of c.args.rank.now c.take_packet.new.self c.pop_front.new.self b
    (inl (c.is_worn.ensures.0 c.if-not-is_worn.true, c.pop_front.ensures))

pub returns-then-not-is_worn-clause-alone : goal.returns-then-not-is_worn-clause-alone
returns-then-not-is_worn-clause-alone c =
    let e = c.in-Some.ensures.own in
    let b = begins c.args.rank.now c.take_packet.new.self _ c.in-Some.field-0 c.fill_front.new.into
    c.fill_front.new.into c.requires.alone c.requires.fresh c.history.ensures.right (λ none. cc)
    c.in-Some.ensures.first e.0 e.1 refl c.in_ok-take_packet.ensures.taken in
    moved_one c.args.rank.now c.pop_front.new.self c.requires.alone
    (moves_of c.args.rank.now c.take_packet.new.self c.pop_front.new.self b
    (inl (c.is_worn.ensures.0 c.if-not-is_worn.true, c.pop_front.ensures)))

pub returns-else-not-is_worn-clause-moves : goal.returns-else-not-is_worn-clause-moves
returns-else-not-is_worn-clause-moves c =
    let e = c.in-Some.ensures.own in
    let b = begins c.args.rank.now c.take_packet.new.self _ c.in-Some.field-0 c.fill_front.new.into
    c.fill_front.new.into c.requires.alone c.requires.fresh c.history.ensures.right (λ none. cc)
    c.in-Some.ensures.first e.0 e.1 refl c.in_ok-take_packet.ensures.taken in
    moves_of c.args.rank.now c.take_packet.new.self c.take_packet.new.self b
    (inr (λ fresh. absurd (true≢false (sym c.if-not-is_worn.false ∙ c.is_worn.ensures.1 fresh)), refl))

pub returns-else-not-is_worn-clause-alone : goal.returns-else-not-is_worn-clause-alone
returns-else-not-is_worn-clause-alone c =
    let e = c.in-Some.ensures.own in
    let b = begins c.args.rank.now c.take_packet.new.self _ c.in-Some.field-0 c.fill_front.new.into
    c.fill_front.new.into c.requires.alone c.requires.fresh c.history.ensures.right (λ none. cc)
    c.in-Some.ensures.first e.0 e.1 refl c.in_ok-take_packet.ensures.taken in
    moved_one c.args.rank.now c.take_packet.new.self c.requires.alone
    (moves_of c.args.rank.now c.take_packet.new.self c.take_packet.new.self b
    (inr (λ fresh. absurd (true≢false (sym c.if-not-is_worn.false ∙ c.is_worn.ensures.1 fresh)), refl)))
