use Rattle.std.proofs.Common.{◌≡◌, ◌<◌, ◌∙◌, ◌+◌, ℕ, length, sym, ap, subst, true}
use Rattle.std.specs.Prelude.{map, slice_set}
use Rattle.nm_history.specs.Continues.{continues}
use Rattle.nm_history.specs.Agreement.{Agrees}
use Rattle.nm_history.specs.Known.{Known}
use Rattle.nm_rank.specs.Calls.{TakesPacket, taken_of}
use Rattle.nm_sending.specs.Departures.{cleared_to}
use Rattle.nm_rank.specs.Ranks.{RankView, known_from, count_of, seen}
use Rattle.nm_rank.proofs.AcceptedLemmas.{streams-low}
use Rattle.nm_rank.proofs.TakeLemmas.{known-at, known_of}
use Rattle.nm_rank.proofs.TakenLemmas.{takes-stray}
use Rattle.nm_rank.proofs.ranks.Rank.take_packet.Goals as goal

pub take_next-requires-clause-continues : goal.take_next-requires-clause-continues
take_next-requires-clause-continues g c = let a = c.self.inside in
    let p = c.args.p.now in
    let within : p.from < a.shape.ranks =
    subst (λ (v : RankView). c.args.p.now.from < v.sizes.ranks) (sym c.self.view_is) c.requires.sender in
    let low : p.from < length a.streams.items = streams-low a.me a.shape a.journal a.sending
    a.receiving a.streams.items a.requests a.took.items a.pulled.items p.from c.self.invariant within in
    let here : known_from (map known_of a.streams.items) p.from ≡ c.index.result.now.known =
    known-at a.streams.items p.from c.index.result.now low c.index.ensures in
    let k = c.index.result.now.known in
    let awaited = c.is_awaited-awaited.ensures a.journal.events k c.self.invariant.history.sent
    (subst (λ (x : Known). Agrees p.from a.journal.events x) here (c.self.invariant.history.agrees p.from within))
    (subst (λ (x : Known). x.cleared ≡ cleared_to a.sending p.from) here (c.self.invariant.told.cleared p.from within))
    in
    let cont = ap (λ (k : Known). continues a.shape.eager k a.journal.events p) here
    ∙ ap (λ (e : ℕ). continues e c.index.result.now.known a.journal.events p) (sym c.eager-eager.ensures.value)
    ∙ sym (c.continues.ensures.value a.journal.events awaited) ∙ c.if-continues.true in
    subst (λ (v : RankView). (taken_of v p).continued ≡ true) c.self.view_is cont

pub returns-else-continues-clause-taken : goal.returns-else-continues-clause-taken
returns-else-continues-clause-taken g c = let a = c.self.inside in
    let p = c.args.p.now in
    let within : p.from < a.shape.ranks =
    subst (λ (v : RankView). c.args.p.now.from < v.sizes.ranks) (sym c.self.view_is) c.requires.sender in
    let number : p.seq ≡ count_of a.took.items p.from =
    subst (λ (v : RankView). c.args.p.now.seq ≡ count_of v.took c.args.p.now.from) (sym c.self.view_is)
    c.requires.number in
    let low : p.from < length a.streams.items = streams-low a.me a.shape a.journal a.sending
    a.receiving a.streams.items a.requests a.took.items a.pulled.items p.from c.self.invariant within in
    let here : known_from (map known_of a.streams.items) p.from ≡ c.index.result.now.known =
    known-at a.streams.items p.from c.index.result.now low c.index.ensures in
    let k = c.index.result.now.known in
    let awaited = c.is_awaited-awaited.ensures a.journal.events k c.self.invariant.history.sent
    (subst (λ (x : Known). Agrees p.from a.journal.events x) here (c.self.invariant.history.agrees p.from within))
    (subst (λ (x : Known). x.cleared ≡ cleared_to a.sending p.from) here (c.self.invariant.told.cleared p.from within))
    in
    let cont = ap (λ (k : Known). continues a.shape.eager k a.journal.events p) here
    ∙ ap (λ (e : ℕ). continues e c.index.result.now.known a.journal.events p) (sym c.eager-eager.ensures.value)
    ∙ sym (c.continues.ensures.value a.journal.events awaited) ∙ c.if-continues.false in
    subst (λ (v : RankView). TakesPacket c.args.p.now v
    (seen a.me a.shape c.raise.new.self a.sending a.receiving (map known_of a.streams.items) a.requests
    (slice_set a.took.items c.args.p.now.from (c.args.p.now.seq + 1)) a.pulled.items
    c.strays_after-self-inside.result))
    c.self.view_is
    (takes-stray a.me a.shape a.journal c.raise.new.self a.sending a.receiving (map known_of a.streams.items)
    a.requests a.took.items a.pulled.items a.strays c.strays_after-self-inside.result p c.raise.ensures cont
    number c.strays_after-self-inside.ensures)
