use Rattle.std.proofs.Common.{◌≡◌, ◌<◌, length, map, sym, ap, ◌∙◌, subst, arith}
use Rattle.std.proofs.lemmas.List.{length-map}
use mathlib.Core.Option as maybe
use lib.ListN.{get_elem?}
use Rattle.nm_chain.specs.Spoken.{view}
use Rattle.nm_copyring.specs.AtClose.{Prefixed, not_pulled, seen_in}
use Rattle.nm_copyring.specs.declared.table.Entry.{Entry}
use Rattle.nm_copyring.specs.Plays.{unlooked}
use Rattle.nm_copyring.specs.Ports.{sees}
use Rattle.nm_copyring.proofs.ListLemmas.{place_low}
use Rattle.nm_chain.proofs.ListLemmas.{get_mapped}
use Rattle.nm_copyring.proofs.ClosingLemmas.{known_seen, left_unlooked, prefix_unlooked, sealed_off}
use Rattle.nm_copyring.proofs.port.Rings.close.Goals as goal

pub split_seat-requires : goal.split_seat-requires
split_seat-requires c = let r = c.args.self in let z = r.sizes.0 in let seat = c.gather-seat in
    let p = place_low r.ranks 0 0 0 r.small.0 r.small.0 (omega arith) in
    let low : 0 < r.board.shared.table_id.words = omega arith in
    (seat.ensures.table, low, sealed_off r.board.shared.key seat.result.id seat.result.me.0)

pub settle-left-requires-clause-all : goal.settle-left-requires-clause-all
settle-left-requires-clause-all c = let items = c.args.ports.items in
    let whole : c.split_seat.new.seat.me.0 ≡ view (map sees items) =
    ap (λ m. m.0) c.split_seat.ensures.2 ∙ ap (λ m. m.0) c.gather-seat.ensures.all in
    let is : c.split_seat.new.seat.me.0.entries ≡ map sees items = ap (λ v. v.entries) whole in (
      (
        ap length is ∙ length-map items sees ∙ c.requires.count,
        λ k e at. let p = get_mapped sees items k e
            (subst (λ l. get_elem? l k ≡ maybe.some e) is at) in
            ap (λ (x : Entry). x.rank) (sym p.2) ∙ p.0.named ∙ (c.requires.ports k p.0 p.1).1,
      ),
      whole ∙ ap view (sym is),
    )

-- what the badge keeps
pub invariant_of-result : goal.invariant_of-result
invariant_of-result c = let items = c.args.ports.items in
    let is : c.split_seat.new.seat.me.0.entries ≡ map sees items =
    ap (λ m. m.0.entries) c.split_seat.ensures.2
    ∙ ap (λ m. m.0.entries) c.gather-seat.ensures.all in
    let listed : seen_in c.into_badge-badge.result.views ≡ map sees items =
    ap seen_in c.into_badge-badge.ensures.2 ∙ ap (λ m. m.0.seen) c.split_seat.ensures.4
    ∙ ap (λ m. m.0.entries) c.gather-seat.ensures.all in
    let many : length (map sees items) ≡ c.args.self.ranks = length-map items sees ∙ c.requires.count in record {
      pending = c.settle-left.ensures.left ∙ ap (λ es. not_pulled c.args.self.ranks es) is
          ∙ ap (λ n. not_pulled n (map sees items)) (sym many)
          ∙ ap (λ es. not_pulled (length es) es) (sym listed);
    }

pub returns-clause-entries : goal.returns-clause-entries
returns-clause-entries c = let items = c.args.ports.items in
    let listed : seen_in c.into_badge-badge.result.views ≡ map sees items =
    ap seen_in c.into_badge-badge.ensures.2 ∙ ap (λ m. m.0.seen) c.split_seat.ensures.4
    ∙ ap (λ m. m.0.entries) c.gather-seat.ensures.all in
    ap (λ es. map unlooked es) listed ∙ known_seen items

pub returns-clause-prefix : goal.returns-clause-prefix
returns-clause-prefix c = let items = c.args.ports.items in
    let is : c.split_seat.new.seat.me.0.entries ≡ map sees items =
    ap (λ m. m.0.entries) c.split_seat.ensures.2
    ∙ ap (λ m. m.0.entries) c.gather-seat.ensures.all in
    let listed : seen_in c.into_badge-badge.result.views ≡ map sees items =
    ap seen_in c.into_badge-badge.ensures.2 ∙ ap (λ m. m.0.seen) c.split_seat.ensures.4
    ∙ ap (λ m. m.0.entries) c.gather-seat.ensures.all in
    subst (λ es. Prefixed c.args.self.ranks (map unlooked es)) (is ∙ sym listed)
    (prefix_unlooked c.args.self.ranks c.split_seat.new.seat.me.0.entries c.settle-left.ensures.prefix)

pub returns-clause-left : goal.returns-clause-left
returns-clause-left c = let items = c.args.ports.items in
    let is : c.split_seat.new.seat.me.0.entries ≡ map sees items =
    ap (λ m. m.0.entries) c.split_seat.ensures.2
    ∙ ap (λ m. m.0.entries) c.gather-seat.ensures.all in
    let listed : seen_in c.into_badge-badge.result.views ≡ map sees items =
    ap seen_in c.into_badge-badge.ensures.2 ∙ ap (λ m. m.0.seen) c.split_seat.ensures.4
    ∙ ap (λ m. m.0.entries) c.gather-seat.ensures.all in
    c.settle-left.ensures.left
    ∙ sym (left_unlooked c.args.self.ranks c.split_seat.new.seat.me.0.entries)
    ∙ ap (λ es. not_pulled c.args.self.ranks (map unlooked es)) (is ∙ sym listed)

-- the same of the lists by name
pub returns-clause-lists : goal.returns-clause-lists
returns-clause-lists c = returns-clause-prefix c
