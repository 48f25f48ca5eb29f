use Rattle.std.proofs.Common.{ℕ, ◌<◌, [], Some, None, sym, refl, ap, ◌∙◌, subst, arith}
use mathlib.Core.Option as maybe
use Rattle.atomic_table.specs.Table.{Allows, step}
use Rattle.nm_types.specs.declared.packets.Piece.{Piece}
use Rattle.nm_copyring.specs.declared.table.Work.TheVariants.{Filling}
use Rattle.nm_copyring.specs.Rule.{Rule}
use Rattle.nm_copyring.specs.Plays.{Knowing, mine, filled}
use Rattle.nm_copyring.proofs.KeptLemmas.{look_out_allowed, fill_allowed}
use Rattle.nm_copyring.proofs.PortLemmas.{working, out_is, free_found, exchanged, pushed_after}
use Rattle.nm_copyring.proofs.steps.fill_next.Goals as goal

pub load-requires : goal.load-requires
load-requires g c = let r = c.args.r.now in let seat = c.args.seat.now in let z = r.sizes in
    let words = z.0 in let q = c.requires.rests in let next = c.requires.next in
    let low = c.place-at.ensures.low in let word : ℕ = c.place-at.result in
    let few : word < r.board.shared.table_id.words = omega arith in (
      c.requires.table,
      few,
      look_out_allowed r.board.shared.key r.ranks r.board.shared.table_id.slots seat.id r.shape z.1
          seat.me (ap (λ m. m.0) q.0.0) q.1 c.args.to c.requires.to word
          (out_is r.ranks 0 word c.args.to seat.me q.0 q.1 c.requires.to c.deref.result.now.from
          c.deref-2.result.now.number c.place-at.ensures.at (ap (λ (p : Piece). p.from) c.deref.ensures ∙ next.0)
          (ap (λ (p : Piece). p.number) c.deref-2.ensures ∙ next.1)) q.0.1,
    )

pub store-requires : goal.store-requires
store-requires g c = let r = c.args.r.now in let seat = c.args.seat.now in let z = r.sizes in
    let words = z.0 in let rest = c.requires.rests in let next = c.requires.next in
    let low = c.place-at.ensures.low in let q = c.args.piece.value in let to = c.args.to in
    let word : ℕ = c.place-at.result in let slots = r.board.shared.table_id.slots in
    let few : word < r.board.shared.table_id.words = omega arith in
    let is = out_is r.ranks slots word to seat.me rest.0 rest.1 c.requires.to c.deref.result.now.from
    c.deref-2.result.now.number c.place-at.ensures.at (ap (λ (p : Piece). p.from) c.deref.ensures ∙ next.0)
    (ap (λ (p : Piece). p.number) c.deref-2.ensures ∙ next.1) in
    let free = free_found r.ranks slots word to seat.me rest.0 rest.1 c.requires.to c.load.result
    c.load.new.seat.me c.load.ensures.2 is c.if-load-ne0.false in
    let lies = exchanged r.ranks slots word to seat.me rest.0 rest.1 c.requires.to (Filling to) None
    (Some q) c.load.new.seat.me c.fill_slot-spare.new.seat.me free c.fill_slot-spare.ensures.filled in
    let me : Knowing = working (Filling to) word (Some q) (mine seat.me) in (
      c.fill_slot-spare.ensures.seat.0 ∙ c.load.ensures.0 ∙ c.requires.table,
      few,
      subst (λ m. Allows (Rule r.board.shared.key) slots c.fill_slot-spare.new.seat.id m word (λ _. 1)
          (λ _. filled (step slots word 1 0 maybe.none) m 1)) (sym lies)
          (fill_allowed r.board.shared.key r.ranks slots c.fill_slot-spare.new.seat.id r.shape z.1 me
          refl rest.1 to c.requires.to word q [] is refl refl next.0 next.1),
    )

pub returns-clause-pushed : goal.returns-clause-pushed
returns-clause-pushed g c = let r = c.args.r.now in let seat = c.args.seat.now in
    let rest = c.requires.rests in let next = c.requires.next in let q = c.args.piece.value in
    let to = c.args.to in let word : ℕ = c.place-at.result in
    let slots = r.board.shared.table_id.slots in
    let is = out_is r.ranks slots word to seat.me rest.0 rest.1 c.requires.to c.deref.result.now.from
    c.deref-2.result.now.number c.place-at.ensures.at (ap (λ (p : Piece). p.from) c.deref.ensures ∙ next.0)
    (ap (λ (p : Piece). p.number) c.deref-2.ensures ∙ next.1) in
    let free = free_found r.ranks slots word to seat.me rest.0 rest.1 c.requires.to c.load.result
    c.load.new.seat.me c.load.ensures.2 is c.if-load-ne0.false in
    let lies = exchanged r.ranks slots word to seat.me rest.0 rest.1 c.requires.to (Filling to) None
    (Some q) c.load.new.seat.me c.fill_slot-spare.new.seat.me free c.fill_slot-spare.ensures.filled in
    pushed_after r.ranks slots word to seat.me rest.0 rest.1 c.requires.to q
    c.fill_slot-spare.new.seat.me c.store.new.seat.me lies c.store.ensures.2
