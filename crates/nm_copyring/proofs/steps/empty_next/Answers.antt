use Rattle.std.proofs.Common.{◌≡◌, ℕ, ◌<◌, [], ◌∷◌, Some, None, sym, refl, ap, ◌∙◌}
use Rattle.std.proofs.Common.{subst, arith}
use mathlib.Core.Option as maybe
use Rattle.atomic_table.specs.Table.{Allows, step, rest}
use Rattle.nm_types.specs.declared.packets.Piece.{Piece}
use Rattle.nm_copyring.specs.declared.table.Work.TheVariants.{Emptying}
use Rattle.nm_copyring.specs.Rule.{Load, Rule}
use Rattle.nm_copyring.specs.Plays.{Knowing, mine, knowing, emptied, unlooked, with_lane, one_pulled}
use Rattle.nm_copyring.proofs.KeptLemmas.{look_in_allowed, empty_allowed, same_piece}
use Rattle.nm_copyring.proofs.PortLemmas.{working, in_is, piece_found, exchanged, pulled_after}
use Rattle.nm_copyring.proofs.steps.empty_next.Goals as goal

pub load-requires : goal.load-requires
load-requires g c = let r = c.args.r.now in let seat = c.args.seat.now in let z = r.sizes in
    let words = z.0 in let rest = c.requires.rests in let next = c.requires.next in
    let low = c.place-at.ensures.low in let word : ℕ = c.place-at.result in
    let few : word < r.board.shared.table_id.words = omega arith in (
      c.requires.table,
      few,
      look_in_allowed r.board.shared.key r.ranks r.board.shared.table_id.slots seat.id r.shape z.1
          seat.me (ap (λ m. m.0) rest.0.0) rest.1 c.args.sender c.requires.sender word
          (in_is r.ranks 0 word c.args.sender seat.me rest.0 rest.1 c.requires.sender c.args.rank
          c.args.number c.place-at.ensures.at next.0 next.1) rest.0.1,
    )

pub empty_slot-piece-requires-clause-front : goal.empty_slot-piece-requires-clause-front
empty_slot-piece-requires-clause-front g c = let r = c.args.r.now in let seat = c.args.seat.now in
    let rests = c.requires.rests in let next = c.requires.next in let word : ℕ = c.place-at.result in
    let slots = r.board.shared.table_id.slots in let from = c.args.sender in
    let is = in_is r.ranks slots word from seat.me rests.0 rests.1 c.requires.sender c.args.rank
    c.args.number c.place-at.ensures.at next.0 next.1 in let full = c.if-load-eq0.false in
    let there = piece_found r.ranks slots word from seat.me rests.0 rests.1 c.requires.sender
    c.load.result c.load.new.seat.me c.load.ensures.2 is (omega arith) in (
      there.0,
      ap (λ m. m.1) there.3
          ∙ ap (λ hs. (word, Some there.0) ∷ rest hs) (sym (ap (λ m. m.1) there.3)),
    )

pub store-requires : goal.store-requires
store-requires g c = let r = c.args.r.now in let seat = c.args.seat.now in let z = r.sizes in
    let words = z.0 in let rests = c.requires.rests in let next = c.requires.next in
    let low = c.place-at.ensures.low in let word : ℕ = c.place-at.result in
    let slots = r.board.shared.table_id.slots in let from = c.args.sender in
    let few : word < r.board.shared.table_id.words = omega arith in
    let is = in_is r.ranks slots word from seat.me rests.0 rests.1 c.requires.sender c.args.rank
    c.args.number c.place-at.ensures.at next.0 next.1 in let full = c.if-load-eq0.false in
    let there = piece_found r.ranks slots word from seat.me rests.0 rests.1 c.requires.sender
    c.load.result c.load.new.seat.me c.load.ensures.2 is (omega arith) in let q = there.0 in
    let none : Load = None in
    let lies = exchanged r.ranks slots word from seat.me rests.0 rests.1 c.requires.sender
    (Emptying from q) (Some q) none c.load.new.seat.me c.empty_slot-piece.new.seat.me there.3
    c.empty_slot-piece.ensures.emptied in let me : Knowing = working (Emptying from q) word none (mine seat.me)
    in (
      c.empty_slot-piece.ensures.seat.0 ∙ c.load.ensures.0 ∙ c.requires.table,
      few,
      subst (λ m. Allows (Rule r.board.shared.key) slots c.empty_slot-piece.new.seat.id m word (λ _. 0)
          (λ _. emptied (step slots word 0 0 maybe.none) m 0)) (sym lies)
          (empty_allowed r.board.shared.key r.ranks slots c.empty_slot-piece.new.seat.id r.shape z.1 me
          refl rests.1 from c.requires.sender word q [] is refl refl),
    )

pub returns-clause-next : goal.returns-clause-next
returns-clause-next g c = let r = c.args.r.now in let seat = c.args.seat.now in
    let rests = c.requires.rests in let next = c.requires.next in let word : ℕ = c.place-at.result in
    let slots = r.board.shared.table_id.slots in let from = c.args.sender in
    let is = in_is r.ranks slots word from seat.me rests.0 rests.1 c.requires.sender c.args.rank
    c.args.number c.place-at.ensures.at next.0 next.1 in let full = c.if-load-eq0.false in
    let there = piece_found r.ranks slots word from seat.me rests.0 rests.1 c.requires.sender
    c.load.result c.load.new.seat.me c.load.ensures.2 is (omega arith) in
    let found = same_piece word there.0 c.empty_slot-piece.result.value (ap (λ m. m.1) there.3)
    c.empty_slot-piece.ensures.piece in (
      sym (ap (λ (p : Piece). p.from) found) ∙ there.1,
      sym (ap (λ (p : Piece). p.number) found) ∙ there.2 ∙ sym next.1,
    )

pub returns-clause-pulled : goal.returns-clause-pulled
returns-clause-pulled g c = let r = c.args.r.now in let seat = c.args.seat.now in
    let rests = c.requires.rests in let next = c.requires.next in let word : ℕ = c.place-at.result in
    let slots = r.board.shared.table_id.slots in let from = c.args.sender in
    let is = in_is r.ranks slots word from seat.me rests.0 rests.1 c.requires.sender c.args.rank
    c.args.number c.place-at.ensures.at next.0 next.1 in let full = c.if-load-eq0.false in
    let there = piece_found r.ranks slots word from seat.me rests.0 rests.1 c.requires.sender
    c.load.result c.load.new.seat.me c.load.ensures.2 is (omega arith) in let q = there.0 in
    let none : Load = None in
    let lies = exchanged r.ranks slots word from seat.me rests.0 rests.1 c.requires.sender
    (Emptying from q) (Some q) none c.load.new.seat.me c.empty_slot-piece.new.seat.me there.3
    c.empty_slot-piece.ensures.emptied in
    let found = same_piece word q c.empty_slot-piece.result.value (ap (λ m. m.1) there.3)
    c.empty_slot-piece.ensures.piece in
    subst (λ piece. c.store.new.seat.me ≡ knowing (with_lane (one_pulled piece) from (unlooked (mine seat.me)))) found
    (pulled_after r.ranks slots word from seat.me rests.0 rests.1 c.requires.sender q
    c.empty_slot-piece.new.seat.me c.store.new.seat.me lies c.store.ensures.2)
