use Rattle.std.proofs.Common.{◌≡◌, ℕ, Option, Some, List, [], ◌∷◌, ◌++◌, length, refl, sym, ◌∙◌, ap, subst}
use Rattle.std.proofs.lemmas.Bool.{true≢false}
use Rattle.nm_types.specs.declared.messages.Arrival.{Arrival}
use Rattle.nm_history.specs.declared.events.Happened.{Happened}
use Rattle.nm_history.specs.declared.events.Happened.TheVariants as event
use Rattle.nm_match.specs.declared.deeds.Deed.TheVariants as deed
use Rattle.nm_match.proofs.StandsLemmas.{is_claimed-stands, message_of-stands}
use Rattle.nm_receiving.specs.declared.receipts.Receive.{Receive}
use Rattle.nm_receiving.specs.declared.receivings.Started.{Started}
use Rattle.nm_receiving.specs.Calls.{StartsOne}
use Rattle.nm_receiving.specs.Kept.{ReceivingInvariant}
use Rattle.nm_receiving.specs.Receipts.{ReceivingView, taken_events}
use Rattle.nm_receiving.specs.Received.{AreReceived, Preserves}
use Rattle.nm_receiving.specs.Seen.{seen}
use Rattle.nm_receiving.specs.Steps.{grants_with}
use Rattle.nm_receiving.proofs.CameLemmas.{same-granted}
use Rattle.nm_receiving.proofs.Goings.{next_receive}
use Rattle.nm_receiving.proofs.Keeping.{keeps-begun}
use Rattle.nm_receiving.proofs.Starting.{begun_same, is_begin_match, kept-begun}
use Rattle.nm_receiving.proofs.Starting.{match_takeable, may_begin_with}
use Rattle.nm_receiving.proofs.Starting.{may_grant-came, may_grant-new, may_grant-sender, taken_sender}
use Rattle.nm_receiving.proofs.receivings.Receiving.take_claimed.Goals as goal

pub prove-unreachable-requires : goal.prove-unreachable-requires
prove-unreachable-requires c =
    let here = subst (λ (v : ReceivingView). AreReceived v c.requires.history)
    (sym c.self.view_is) c.requires.messages in
    true≢false (sym c.requires.claimed ∙ is_claimed-stands c.self.inside.matcher c.requires.history here.stands
    c.args.from c.args.n
    ∙ sym c.is_claimed.ensures.value ∙ c.if-prove.true)

pub claimed-arrival-requires : goal.claimed-arrival-requires
claimed-arrival-requires c = sym c.is_claimed.ensures.value ∙ c.if-prove.false

pub take_claimed-requires-clause-is_new : goal.take_claimed-requires-clause-is_new
take_claimed-requires-clause-is_new c =
    let a = c.self.inside in
    let next : c.count-number.result ≡ length a.receives.items =
    c.count-number.ensures ∙ ap (λ (rs : List Receive). length rs) c.reserve.ensures.items in
    next_receive (seen a) c.self.invariant c.count-number.result next

pub reserve_for-requires : goal.reserve_for-requires
reserve_for-requires c =
    let v = seen c.self.inside in
    let taken : Option Arrival = Some c.claimed-arrival.result in
    let there = c.claimed-arrival.ensures in
    may_grant-sender v c.self.invariant taken
    (match_takeable v c.self.invariant c.args.from c.args.n taken (sym c.is_claimed.ensures.value ∙ c.if-prove.false)
    there)
    v.grants refl

pub grant_taken-requires-clause-sender : goal.grant_taken-requires-clause-sender
grant_taken-requires-clause-sender c =
    let v = seen c.self.inside in
    let taken : Option Arrival = Some c.claimed-arrival.result in
    let there = c.claimed-arrival.ensures in
    may_grant-sender v c.self.invariant taken
    (match_takeable v c.self.invariant c.args.from c.args.n taken (sym c.is_claimed.ensures.value ∙ c.if-prove.false)
    there)
    c.reserve_for.new.self.grants c.reserve_for.ensures.same

pub grant_taken-requires-clause-new : goal.grant_taken-requires-clause-new
grant_taken-requires-clause-new c =
    let v = seen c.self.inside in
    let taken : Option Arrival = Some c.claimed-arrival.result in
    let there = c.claimed-arrival.ensures in
    may_grant-new v c.self.invariant taken
    (match_takeable v c.self.invariant c.args.from c.args.n taken (sym c.is_claimed.ensures.value ∙ c.if-prove.false)
    there)
    c.reserve_for.new.self.grants c.reserve_for.ensures.same

pub grant_taken-requires-clause-came : goal.grant_taken-requires-clause-came
grant_taken-requires-clause-came c =
    let v = seen c.self.inside in
    let taken : Option Arrival = Some c.claimed-arrival.result in
    let there = c.claimed-arrival.ensures in
    may_grant-came v c.self.invariant taken
    (match_takeable v c.self.invariant c.args.from c.args.n taken (sym c.is_claimed.ensures.value ∙ c.if-prove.false)
    there)

pub invariant_of-self-2 : goal.invariant_of-self-2
invariant_of-self-2 c =
    let v = seen c.self.inside in
    let a = c.self.inside in
    let number = c.count-number.result in
    let taken : Option Arrival = Some c.claimed-arrival.result in
    let next : number ≡ length a.receives.items =
    c.count-number.ensures ∙ ap (λ (rs : List Receive). length rs) c.reserve.ensures.items in
    let claimed = sym c.is_claimed.ensures.value ∙ c.if-prove.false in
    let there = c.claimed-arrival.ensures in
    let same = begun_same v (deed.Match number c.args.from c.args.n) c.args.cap taken c.take_claimed.new.self
    c.grant_taken.new.grants.grants
    c.grant_taken.new.receipts.rows c.push.new.self.items c.in_ok-take_claimed.ensures.ok
    (c.grant_taken.ensures.grants ∙ ap (λ gs. grants_with gs taken) c.reserve_for.ensures.same)
    c.grant_taken.ensures.receipts
    (c.push.ensures ∙ ap (λ (rs : List Receive). rs ++ c.new.result ∷ []) c.reserve.ensures.items
    ∙ ap (λ (r : Receive). a.receives.items ++ r ∷ []) c.new.ensures) in
    subst (λ (v : ReceivingView). ReceivingInvariant v) same
    (kept-begun v c.self.invariant (event.Match number c.args.from c.args.n c.args.cap 0)
    (deed.Match number c.args.from c.args.n) number c.args.cap
    (record { posted = λ q is. absurd (let h : ⊥ = cc in h); in_time = λ _ _. refl })
    taken (is_begin_match v number c.args.from c.args.n c.args.cap 0 taken next claimed there)
    (match_takeable v c.self.invariant c.args.from c.args.n taken claimed there))

pub returns-clause-taken : goal.returns-clause-taken
returns-clause-taken c = λ h received.
    let here = subst (λ (v : ReceivingView). AreReceived v h) (sym c.self.view_is) received in
    sym (message_of-stands c.self.inside.matcher h here.stands c.args.from c.args.n ∙ c.claimed-arrival.ensures)

pub returns-clause-started : goal.returns-clause-started
returns-clause-started c =
    let v = seen c.self.inside in
    let a = c.self.inside in
    let number = c.count-number.result in
    let taken : Option Arrival = Some c.claimed-arrival.result in
    let s : Started = record { number = number; taken = taken } in
    let begins : ℕ → Happened = event.Match number c.args.from c.args.n c.args.cap in
    let next : number ≡ length a.receives.items =
    c.count-number.ensures ∙ ap (λ (rs : List Receive). length rs) c.reserve.ensures.items in
    let claimed = sym c.is_claimed.ensures.value ∙ c.if-prove.false in
    let there = c.claimed-arrival.ensures in
    let grants = c.grant_taken.ensures.grants ∙ ap (λ gs. grants_with gs taken) c.reserve_for.ensures.same in
    let receives = c.push.ensures
    ∙ ap (λ (rs : List Receive). rs ++ c.new.result ∷ []) c.reserve.ensures.items
    ∙ ap (λ (r : Receive). a.receives.items ++ r ∷ []) c.new.ensures in
    let same = begun_same v (deed.Match number c.args.from c.args.n) c.args.cap taken c.take_claimed.new.self
    c.grant_taken.new.grants.grants c.grant_taken.new.receipts.rows c.push.new.self.items
    c.in_ok-take_claimed.ensures.ok grants c.grant_taken.ensures.receipts receives in
    let takeable = match_takeable v c.self.invariant c.args.from c.args.n taken claimed there in
    let v' : ReceivingView = record v {
      deeds = c.take_claimed.new.self;
      grants = c.grant_taken.new.grants.grants;
      receipts = c.grant_taken.new.receipts.rows;
      receives = c.push.new.self.items;
    } in
    subst (λ (w : ReceivingView). StartsOne c.args.cap begins s w v') c.self.view_is
    (record {
      number = next;
      sender = taken_sender v c.self.invariant taken takeable;
      kept = λ line. subst (λ (u : ReceivingView). Preserves v u (begins line ∷ taken_events taken)) same
          (keeps-begun v (begins line) (deed.Match number c.args.from c.args.n) number c.args.cap taken
          (is_begin_match v number c.args.from c.args.n c.args.cap line taken next claimed there)
          (may_begin_with v c.self.invariant taken takeable));
      sizes = refl;
      streams = refl;
      bytes = same-granted v v' taken refl grants;
      drawn = refl;
      receives = receives;
    })
