use Rattle.std.proofs.Common.{◌≡◌, ◌<◌, List, length, map, sym, ap, ◌∙◌, subst, arith}
use mathlib.Core.Option as maybe
use lib.ListN.{get_elem?}
use Rattle.nm_chain.specs.Spoken.{view}
use Rattle.nm_chain.specs.Rule.{hand}
use Rattle.nm_cells.specs.AtClose.{AllCame, Prefixed, Settled}
use Rattle.nm_cells.specs.Ports.{knows}
use Rattle.nm_cells.specs.declared.tallies.Tally.{Tally}
use Rattle.nm_cells.specs.PathLists.{seen_in}
use Rattle.nm_cells.proofs.PortLemmas.{idle}
use Rattle.nm_cells.proofs.ClosingLemmas.{sealed_off}
use Rattle.nm_cells.proofs.TallyLemmas.{counts_of, tallied, counts, prefix, all_came}
use Rattle.nm_cells.proofs.port.Fabric.close.Goals as goal
use Rattle.nm_types.proofs.ListLemmas.{map_length}
use Rattle.nm_chain.proofs.ListLemmas.{get_mapped}

pub split_seat-requires : goal.split_seat-requires
split_seat-requires g c = let f = c.args.self in let z = f.sizes.0 in let some = f.some in
    let seat = c.gather-seat in let low : 0 < f.board.shared.table_id.words = omega arith in (
      seat.ensures.table,
      low,
      sealed_off f.board.shared.key seat.result.0.id seat.result.0.me.0,
    )

pub settle-remains-requires-clause-all : goal.settle-remains-requires-clause-all
settle-remains-requires-clause-all g c = let items = c.args.ports.items in
    let whole : c.split_seat.new.seat.me.0 ≡ view (map knows items) =
    ap (λ m. m.0) c.split_seat.ensures.2 ∙ ap (λ m. m.0) c.gather-seat.ensures.all in
    let is : c.split_seat.new.seat.me.0.entries ≡ map knows items = ap (λ v. v.entries) whole in (
      (
        ap length is ∙ map_length knows items ∙ c.requires.count,
        λ k e at. let p = get_mapped knows items k e
            (subst (λ l. get_elem? l k ≡ maybe.some e) is at) in
            let ok = c.requires.ports k p.0 p.1 in (
              ap (λ x. x.rank) (sym p.2) ∙ p.0.named ∙ ok.1,
              λ d low. ap (λ x. hand x d) (sym p.2)
                  ∙ (idle p.0 ok.2).1 d (subst (λ n. d < n) (sym ok.0.4) low),
            ),
      ),
      whole ∙ ap view (sym is),
    )

pub returns-clause-settled : goal.returns-clause-settled
returns-clause-settled g c = let items = c.args.ports.items in
    let is : c.split_seat.new.seat.me.0.entries ≡ map knows items =
    ap (λ m. m.0.entries) c.split_seat.ensures.2
    ∙ ap (λ m. m.0.entries) c.gather-seat.ensures.all in
    let listed : seen_in c.into_badge-badge.result.views ≡ map knows items =
    ap seen_in c.into_badge-badge.ensures.2 ∙ ap (λ m. m.0.seen) c.split_seat.ensures.4
    ∙ ap (λ m. m.0.entries) c.gather-seat.ensures.all in
    subst (λ es. Settled g.I.Item.boxable c.args.self.board.shared.key es c.settle-remains.result.0.home)
    (is ∙ sym listed) c.settle-remains.ensures.settled

pub returns-clause-paths : goal.returns-clause-paths
returns-clause-paths g c = let items = c.args.ports.items in
    let is : c.split_seat.new.seat.me.0.entries ≡ map knows items =
    ap (λ m. m.0.entries) c.split_seat.ensures.2
    ∙ ap (λ m. m.0.entries) c.gather-seat.ensures.all in
    let listed : seen_in c.into_badge-badge.result.views ≡ map knows items =
    ap seen_in c.into_badge-badge.ensures.2 ∙ ap (λ m. m.0.seen) c.split_seat.ensures.4
    ∙ ap (λ m. m.0.entries) c.gather-seat.ensures.all in
    subst (λ es. Prefixed c.args.self.ranks es) (is ∙ sym listed) c.settle-remains.ensures.paths

pub returns-clause-home : goal.returns-clause-home
returns-clause-home g c all = let items = c.args.ports.items in
    let is : c.split_seat.new.seat.me.0.entries ≡ map knows items =
    ap (λ m. m.0.entries) c.split_seat.ensures.2
    ∙ ap (λ m. m.0.entries) c.gather-seat.ensures.all in
    let listed : seen_in c.into_badge-badge.result.views ≡ map knows items =
    ap seen_in c.into_badge-badge.ensures.2 ∙ ap (λ m. m.0.seen) c.split_seat.ensures.4
    ∙ ap (λ m. m.0.entries) c.gather-seat.ensures.all in
    c.settle-remains.ensures.home (subst (λ es. AllCame c.args.self.ranks es) (listed ∙ sym is) all)

pub invariant_of-result : goal.invariant_of-result
invariant_of-result g c = let f = c.args.self in let items = c.args.ports.items in
    let is : c.split_seat.new.seat.me.0.entries ≡ map knows items =
    ap (λ m. m.0.entries) c.split_seat.ensures.2
    ∙ ap (λ m. m.0.entries) c.gather-seat.ensures.all in
    let es = seen_in c.into_badge-badge.result.views in
    let ps : List (List Tally) = map (λ v. v.items) c.gather-seat.result.1.items in
    let listed : es ≡ map knows items =
    ap seen_in c.into_badge-badge.ensures.2 ∙ ap (λ m. m.0.seen) c.split_seat.ensures.4
    ∙ ap (λ m. m.0.entries) c.gather-seat.ensures.all in
    let counted : ps ≡ counts_of items = ap (map (λ v. v.items)) c.gather-seat.ensures.counted in
    let home = c.settle-remains.result.0.home in
    let settled = subst (λ l. Settled g.I.Item.boxable f.board.shared.key l home)
    (is ∙ sym listed) c.settle-remains.ensures.settled in
    record {
      tallied = tallied f items c.requires.count c.requires.ports es ps home listed counted
          settled;
    }

pub returns-clause-counts : goal.returns-clause-counts
returns-clause-counts g c = let f = c.args.self in let items = c.args.ports.items in
    let is : c.split_seat.new.seat.me.0.entries ≡ map knows items =
    ap (λ m. m.0.entries) c.split_seat.ensures.2
    ∙ ap (λ m. m.0.entries) c.gather-seat.ensures.all in
    let es = seen_in c.into_badge-badge.result.views in
    let ps : List (List Tally) = map (λ v. v.items) c.gather-seat.result.1.items in
    let listed : es ≡ map knows items =
    ap seen_in c.into_badge-badge.ensures.2 ∙ ap (λ m. m.0.seen) c.split_seat.ensures.4
    ∙ ap (λ m. m.0.entries) c.gather-seat.ensures.all in
    let counted : ps ≡ counts_of items = ap (map (λ v. v.items)) c.gather-seat.ensures.counted in
    let home = c.settle-remains.result.0.home in
    let settled = subst (λ l. Settled g.I.Item.boxable f.board.shared.key l home)
    (is ∙ sym listed) c.settle-remains.ensures.settled in
    counts f items c.requires.count c.requires.ports es ps home listed counted settled

pub returns-clause-prefix : goal.returns-clause-prefix
returns-clause-prefix g c = let f = c.args.self in let items = c.args.ports.items in
    let is : c.split_seat.new.seat.me.0.entries ≡ map knows items =
    ap (λ m. m.0.entries) c.split_seat.ensures.2
    ∙ ap (λ m. m.0.entries) c.gather-seat.ensures.all in
    let es = seen_in c.into_badge-badge.result.views in
    let ps : List (List Tally) = map (λ v. v.items) c.gather-seat.result.1.items in
    let listed : es ≡ map knows items =
    ap seen_in c.into_badge-badge.ensures.2 ∙ ap (λ m. m.0.seen) c.split_seat.ensures.4
    ∙ ap (λ m. m.0.entries) c.gather-seat.ensures.all in
    let counted : ps ≡ counts_of items = ap (map (λ v. v.items)) c.gather-seat.ensures.counted in
    let home = c.settle-remains.result.0.home in
    let settled = subst (λ l. Settled g.I.Item.boxable f.board.shared.key l home)
    (is ∙ sym listed) c.settle-remains.ensures.settled in
    prefix f items c.requires.count c.requires.ports es ps home listed counted settled

pub returns-clause-all_taken : goal.returns-clause-all_taken
returns-clause-all_taken g c even = let f = c.args.self in let items = c.args.ports.items in
    let is : c.split_seat.new.seat.me.0.entries ≡ map knows items =
    ap (λ m. m.0.entries) c.split_seat.ensures.2
    ∙ ap (λ m. m.0.entries) c.gather-seat.ensures.all in
    let es = seen_in c.into_badge-badge.result.views in
    let ps : List (List Tally) = map (λ v. v.items) c.gather-seat.result.1.items in
    let listed : es ≡ map knows items =
    ap seen_in c.into_badge-badge.ensures.2 ∙ ap (λ m. m.0.seen) c.split_seat.ensures.4
    ∙ ap (λ m. m.0.entries) c.gather-seat.ensures.all in
    let counted : ps ≡ counts_of items = ap (map (λ v. v.items)) c.gather-seat.ensures.counted in
    let home = c.settle-remains.result.0.home in
    let settled = subst (λ l. Settled g.I.Item.boxable f.board.shared.key l home)
    (is ∙ sym listed) c.settle-remains.ensures.settled in
    c.settle-remains.ensures.home (subst (AllCame f.ranks) (listed ∙ sym is)
    (all_came f items c.requires.count c.requires.ports es ps home listed counted settled even))
