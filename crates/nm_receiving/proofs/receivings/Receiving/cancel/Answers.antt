use Rattle.std.proofs.Common.{◌≡◌, ◌<◌, ℕ, Option, Some, List, [], ◌∷◌, length, map, sym, ◌∙◌, ap, subst}
use Rattle.std.proofs.Math.ListN.{set}
use Rattle.std.specs.List.{slice_get}
use Rattle.std.specs.Option.{option_map_or}
use Rattle.nm_history.specs.declared.events.Happened.TheVariants.{Cancel}
use Rattle.nm_match.proofs.StandsLemmas.{paired-stands}
use Rattle.std.proofs.Common.{not}
use Rattle.nm_receiving.specs.declared.receipts.Receive.{Receive}
use Rattle.nm_receiving.specs.Receipts.{ReceivingView}
use Rattle.nm_receiving.specs.Received.{AreReceived, Preserves}
use Rattle.nm_receiving.specs.Seen.{seen}
use Rattle.nm_receiving.specs.Kept.{ReceivingInvariant}
use Rattle.nm_receiving.specs.Steps.{has_cancelled, with_cancelled}
use Rattle.nm_receiving.proofs.Answering.{ended_cancelled}
use Rattle.nm_receiving.proofs.Goings.{keeps-cancel_done, keeps-cancel_late, kept-cancel_done, receive_known}
use Rattle.nm_receiving.proofs.Overs.{cancelled_ended}
use Rattle.nm_types.proofs.ListLemmas.{get_some}
use Rattle.nm_receiving.proofs.receivings.Receiving.cancel.Goals as goal

pub cancel-done-requires : goal.cancel-done-requires
cancel-done-requires c =
    let below = subst (λ (v : ReceivingView). c.args.number < length v.receives) (sym c.self.view_is) c.requires in
    record { known = receive_known (seen c.self.inside) c.self.invariant c.args.number below }

-- the receive that is cancelled
receive_at : (v : ReceivingView) (number : ℕ) → number < length v.receives →
    (r : Receive) × (slice_get v.receives number ≡ Some r)
    × (with_cancelled v.receives number ≡ set v.receives number (has_cancelled r))
receive_at v number below =
    let r = get_some v.receives number below in (
      r.0,
      r.1,
      ap (λ (o : Option Receive). option_map_or (λ r. set v.receives number (has_cancelled r)) o v.receives) r.1,
    )

pub cancel-requires : goal.cancel-requires
cancel-requires c =
    ended_cancelled (seen c.self.inside) c.self.invariant c.args.number
    (sym c.if-done.true ∙ c.cancel-done.ensures.late)

pub invariant_of-self : goal.invariant_of-self
invariant_of-self c =
    let below = subst (λ (v : ReceivingView). c.args.number < length v.receives) (sym c.self.view_is) c.requires in
    let r = receive_at (seen c.self.inside) c.args.number below in
    subst (λ (rs : List Receive). ReceivingInvariant (record (seen c.self.inside) {
      deeds = c.cancel-done.new.self;
      receives = rs;
    })) (sym (c.cancel.ensures ∙ r.2))
    (kept-cancel_done (seen c.self.inside) c.self.invariant c.args.number r.0 r.1
    c.cancel-done.new.self c.cancel-done.result c.if-done.true c.cancel-done.ensures.late c.cancel-done.ensures.deeds)

pub returns-then-done-clause-late : goal.returns-then-done-clause-late
returns-then-done-clause-late c = λ h received.
    let here = subst (λ (v : ReceivingView). AreReceived v h) (sym c.self.view_is) received in
    c.cancel-done.ensures.late ∙ ap not (sym (paired-stands c.self.inside.matcher h here.stands c.args.number))

pub returns-else-done-clause-late : goal.returns-else-done-clause-late
returns-else-done-clause-late c = λ h received.
    let here = subst (λ (v : ReceivingView). AreReceived v h) (sym c.self.view_is) received in
    c.cancel-done.ensures.late ∙ ap not (sym (paired-stands c.self.inside.matcher h here.stands c.args.number))

pub returns-then-done-clause-kept : goal.returns-then-done-clause-kept
returns-then-done-clause-kept c =
    let below = subst (λ (v : ReceivingView). c.args.number < length v.receives) (sym c.self.view_is) c.requires in
    let r = receive_at (seen c.self.inside) c.args.number below in
    let v' : ReceivingView = record (seen c.self.inside) {
      deeds = c.cancel-done.new.self;
      receives = c.cancel.new.self.items;
    } in
    subst (λ (v : ReceivingView). Preserves v v' (Cancel c.args.number c.cancel-done.result ∷ [])) c.self.view_is
    (subst (λ (rs : List Receive). Preserves (seen c.self.inside) (record (seen c.self.inside) {
      deeds = c.cancel-done.new.self;
      receives = rs;
    }) (Cancel c.args.number c.cancel-done.result ∷ [])) (sym (c.cancel.ensures ∙ r.2))
    (keeps-cancel_done (seen c.self.inside) c.args.number r.0 r.1
    c.cancel-done.new.self c.cancel-done.result c.if-done.true c.cancel-done.ensures.late c.cancel-done.ensures.deeds))

pub returns-else-done-clause-kept : goal.returns-else-done-clause-kept
returns-else-done-clause-kept c =
    subst (λ (v : ReceivingView). Preserves v (record (seen c.self.inside) { deeds = c.cancel-done.new.self })
    (Cancel c.args.number c.cancel-done.result ∷ []))
    c.self.view_is
    (keeps-cancel_late (seen c.self.inside) c.args.number c.cancel-done.new.self c.cancel-done.result c.if-done.false
    c.cancel-done.ensures.late c.cancel-done.ensures.deeds)

pub returns-then-done-clause-ended : goal.returns-then-done-clause-ended
returns-then-done-clause-ended c =
    let below = subst (λ (v : ReceivingView). c.args.number < length v.receives) (sym c.self.view_is) c.requires in
    let r = receive_at (seen c.self.inside) c.args.number below in
    ap (λ (rs : List Receive). map (λ r. r.ended) rs) (c.cancel.ensures ∙ r.2)
    ∙ cancelled_ended c.self.inside.receives.items c.args.number r.0 r.1
    ∙ ap (λ (v : ReceivingView). map (λ r. r.ended) v.receives) c.self.view_is
