use Rattle.std.proofs.Common.{◌||◌, ◌∙◌, Bool, false, sym, ap, subst}
use Rattle.std.specs.List.{slice_get}
use Rattle.std.specs.Option.{option_map_or}
use Rattle.nm_kept.proofs.EntryLemmas.{kept_passes}
use Rattle.nm_receiving.specs.Calls.{IsLiveOf}
use Rattle.nm_receiving.specs.Receipts.{ReceivingView, receipt_of}
use Rattle.nm_receiving.specs.Receives.{is_live}
use Rattle.nm_receiving.specs.Received.{AreReceived}
use Rattle.nm_receiving.specs.Seen.{seen}
use Rattle.nm_receiving.proofs.Answering.{complete_some, gone_complete}
use Rattle.nm_receiving.proofs.Lives.{not_ended}
use Rattle.nm_receiving.proofs.Stood.{is_whole_at}
use Rattle.nm_receiving.proofs.receivings.Receiving.is_complete.Goals as goal

pub has_message-requires : goal.has_message-requires
has_message-requires c =
    let r = c.in-Some.receive in
    let v = seen c.self.inside in
    let here = kept_passes is_live (slice_get v.receives c.args.number) r (sym c.live.ensures ∙ c.in-Some.is) in
    subst (λ (w : ReceivingView). IsLiveOf w r) c.self.view_is
    (record { number = c.args.number; here = here.0; live = not_ended r.ended here.1 })

pub returns-then-receive : goal.returns-then-receive
returns-then-receive c = λ h received.
    let r = c.in-Some.receive in
    let v = seen c.self.inside in
    let received' = subst (λ (v : ReceivingView). AreReceived v h) (sym c.self.view_is) received in
    let here = kept_passes is_live (slice_get v.receives c.args.number) r (sym c.live.ensures ∙ c.in-Some.is) in
    c.if-receive.true
    ∙ sym (complete_some v h received' c.args.number r here.0
    ∙ ap (λ (b : Bool). b || option_map_or (λ a. is_whole_at (receipt_of v a.env.from a.n)) r.taken false)
    c.if-receive.true)

pub returns-else-receive : goal.returns-else-receive
returns-else-receive c = λ h received.
    let r = c.in-Some.receive in
    let v = c.args.self.now in
    let here = kept_passes is_live (slice_get (seen c.self.inside).receives c.args.number) r
    (sym c.live.ensures ∙ c.in-Some.is) in
    c.has_message.ensures
    ∙ sym (complete_some v h received c.args.number r
    (ap (λ (v : ReceivingView). slice_get v.receives c.args.number) (sym c.self.view_is) ∙ here.0)
    ∙ ap (λ (b : Bool). b || option_map_or (λ a. is_whole_at (receipt_of v a.env.from a.n)) r.taken false)
    c.if-receive.false)

pub returns-in-None : goal.returns-in-None
returns-in-None c = λ h received.
    let received' = subst (λ (v : ReceivingView). AreReceived v h) (sym c.self.view_is) received in
    rw c.count.ensures
    (gone_complete (seen c.self.inside) c.self.invariant h received' c.args.number (sym c.live.ensures ∙ c.in-None.is))
