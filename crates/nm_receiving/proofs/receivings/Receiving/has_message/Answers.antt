use Rattle.std.proofs.Common.{◌≡◌, false, Option, sym, ◌∙◌, ap, arith}
use Rattle.std.specs.List.{slice_get}
use Rattle.std.specs.Option.{option_map_or}
use Rattle.nm_types.specs.declared.messages.Arrival.{Arrival}
use Rattle.nm_receiving.specs.declared.receipts.Receipt.{Receipt}
use Rattle.nm_receiving.specs.Receipts.{ReceivingView, receipt_of}
use Rattle.nm_receiving.specs.Seen.{seen}
use Rattle.nm_receiving.proofs.Finishing.{taken_from}
use Rattle.nm_receiving.proofs.Heres.{asked_here}
use Rattle.nm_receiving.proofs.Lists.{some_from}
use Rattle.nm_receiving.proofs.receivings.Receiving.has_message.Goals as goal

pub is_here-requires-clause-sender : goal.is_here-requires-clause-sender
is_here-requires-clause-sender c =
    let v = seen c.self.inside in
    let r = c.args.receive.now in
    let here = ap (λ (w : ReceivingView). slice_get w.receives c.requires.number) c.self.view_is ∙ c.requires.here in
    let sender = taken_from v c.self.invariant c.requires.number r here c.in-Some.a c.in-Some.is in
    let grants = c.self.invariant.tables.grants in
    omega (arith, sender, grants)

pub is_here-requires-clause-came : goal.is_here-requires-clause-came
is_here-requires-clause-came c =
    let v = seen c.self.inside in
    let r = c.args.receive.now in
    let a = c.in-Some.a in
    let here = ap (λ (w : ReceivingView). slice_get w.receives c.requires.number) c.self.view_is ∙ c.requires.here in
    let had = c.self.invariant.tables.taken c.requires.number r a here c.in-Some.is in
    some_from (λ (q : Receipt). q.arrival ≡ a) (receipt_of v a.env.from a.n) had.0 had.1.0 had.1.1

pub is_here-requires-clause-asked : goal.is_here-requires-clause-asked
is_here-requires-clause-asked c =
    let v = seen c.self.inside in
    let r = c.args.receive.now in
    let here = ap (λ (w : ReceivingView). slice_get w.receives c.requires.number) c.self.view_is ∙ c.requires.here in
    asked_here v c.self.invariant c.requires.number r here c.requires.live c.in-Some.a c.in-Some.is

pub returns-in-Some : goal.returns-in-Some
returns-in-Some c =
    c.is_here.ensures
    ∙ ap (λ (w : ReceivingView). option_map_or (λ (q : Receipt). q.whole)
    (receipt_of w c.in-Some.a.env.from c.in-Some.a.n) false) c.self.view_is
    ∙ ap (λ (o : Option Arrival). option_map_or (λ (a : Arrival). option_map_or (λ (q : Receipt). q.whole)
    (receipt_of c.args.self.now a.env.from a.n) false) o false) (sym c.in-Some.is)
