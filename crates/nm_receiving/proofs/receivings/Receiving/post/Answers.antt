use Rattle.std.proofs.Common.{◌≡◌, List, [], ◌∷◌, ◌++◌, length, refl, sym, ◌∙◌, ap, subst, arith}
use Rattle.nm_types.specs.declared.messages.Post as post
use Rattle.nm_history.specs.declared.events.Happened.TheVariants as event
use Rattle.nm_match.specs.declared.deeds.Deed.TheVariants as deed
use Rattle.nm_history.specs.Selection.{matches_source}
use Rattle.nm_match.specs.Deeds.{history_of}
use Rattle.nm_match.proofs.StandsLemmas.{first_message-stands}
use Rattle.nm_receiving.specs.declared.receipts.Receive.{Receive}
use Rattle.nm_receiving.specs.declared.receivings.Started.{Started}
use Rattle.nm_receiving.specs.Calls.{StartsOne}
use Rattle.nm_receiving.specs.Kept.{ReceivingInvariant}
use Rattle.nm_receiving.specs.Receipts.{ReceivingView, taken_events}
use Rattle.nm_receiving.specs.Received.{AreReceived, Preserves}
use Rattle.nm_receiving.specs.Seen.{seen}
use Rattle.nm_receiving.specs.Steps.{grants_with}
use Rattle.nm_receiving.proofs.CameLemmas.{same-granted}
use Rattle.nm_receiving.proofs.Facts.{first_source}
use Rattle.nm_receiving.proofs.Goings.{next_receive}
use Rattle.nm_receiving.proofs.Keeping.{keeps-begun}
use Rattle.nm_receiving.proofs.Starting.{begun_same, is_begin_post, kept-begun, may_begin_with, may_grant-came}
use Rattle.nm_receiving.proofs.Starting.{may_grant-new, may_grant-ready, may_grant-sender}
use Rattle.nm_receiving.proofs.Starting.{post_takeable, taken_sender}
use Rattle.nm_receiving.proofs.receivings.Receiving.post.Goals as goal

pub post-requires : goal.post-requires
post-requires c =
    let a = c.self.inside in
    let next : c.count-number.result ≡ length a.receives.items =
    c.count-number.ensures ∙ ap (λ (rs : List Receive). length rs) c.reserve.ensures.items in
    record { is_new = next_receive (seen a) c.self.invariant c.count-number.result next }

pub reserve_from-requires : goal.reserve_from-requires
reserve_from-requires c =
    let tables = c.self.invariant.tables in
    let drawn = tables.drawn in
    let grants = tables.grants in
    omega (arith, c.len.ensures, c.self.inside.drawn.ok.0, drawn, grants)

pub grant_taken-requires-clause-ready : goal.grant_taken-requires-clause-ready
grant_taken-requires-clause-ready c =
    let v = seen c.self.inside in
    let p : post.Post = record {
      number = c.count-number.result;
      from = c.args.from;
      tag = c.args.tag;
      ctx = c.args.ctx;
      cap = c.args.cap;
    } in
    let taken = c.in_ok-taken.taken in
    may_grant-ready v c.self.invariant taken (post_takeable v c.self.invariant p taken c.in_ok-taken.ensures.oldest)
    c.reserve_from.new.grants (matches_source c.args.from) c.in_ok-reserve_from.ensures.ready
    (λ a is. first_source (history_of v.deeds) c.args.from c.args.tag c.args.ctx a (sym c.in_ok-taken.ensures.oldest ∙ is))

pub grant_taken-requires-clause-sender : goal.grant_taken-requires-clause-sender
grant_taken-requires-clause-sender c =
    let v = seen c.self.inside in
    let p : post.Post = record {
      number = c.count-number.result;
      from = c.args.from;
      tag = c.args.tag;
      ctx =
          c.args.ctx;
      cap = c.args.cap;
    } in
    may_grant-sender v c.self.invariant c.in_ok-taken.taken
    (post_takeable v c.self.invariant p c.in_ok-taken.taken c.in_ok-taken.ensures.oldest)
    c.reserve_from.new.grants.grants c.reserve_from.ensures.same

pub grant_taken-requires-clause-new : goal.grant_taken-requires-clause-new
grant_taken-requires-clause-new c =
    let v = seen c.self.inside in
    let p : post.Post = record {
      number = c.count-number.result;
      from = c.args.from;
      tag = c.args.tag;
      ctx =
          c.args.ctx;
      cap = c.args.cap;
    } in
    may_grant-new v c.self.invariant c.in_ok-taken.taken
    (post_takeable v c.self.invariant p c.in_ok-taken.taken c.in_ok-taken.ensures.oldest)
    c.reserve_from.new.grants.grants c.reserve_from.ensures.same

pub grant_taken-requires-clause-came : goal.grant_taken-requires-clause-came
grant_taken-requires-clause-came c =
    let v = seen c.self.inside in
    let p : post.Post = record {
      number = c.count-number.result;
      from = c.args.from;
      tag = c.args.tag;
      ctx =
          c.args.ctx;
      cap = c.args.cap;
    } in
    may_grant-came v c.self.invariant c.in_ok-taken.taken
    (post_takeable v c.self.invariant p c.in_ok-taken.taken c.in_ok-taken.ensures.oldest)

pub invariant_of-self-2 : goal.invariant_of-self-2
invariant_of-self-2 c =
    let v = seen c.self.inside in
    let a = c.self.inside in
    let p : post.Post = record {
      number = c.count-number.result;
      from = c.args.from;
      tag = c.args.tag;
      ctx =
          c.args.ctx;
      cap = c.args.cap;
    } in
    let taken = c.in_ok-taken.taken in
    let next : c.count-number.result ≡ length a.receives.items =
    c.count-number.ensures ∙ ap (λ (rs : List Receive). length rs) c.reserve.ensures.items in
    let same = begun_same v (deed.Post p) c.args.cap taken c.post.new.self c.grant_taken.new.grants.grants
    c.grant_taken.new.receipts.rows
    c.push.new.self.items c.in_ok-taken.ensures.ok
    (c.grant_taken.ensures.grants ∙ ap (λ gs. grants_with gs taken) c.reserve_from.ensures.same)
    c.grant_taken.ensures.receipts
    (c.push.ensures ∙ ap (λ (rs : List Receive). rs ++ c.new.result ∷ []) c.reserve.ensures.items
    ∙ ap (λ (r : Receive). a.receives.items ++ r ∷ []) c.new.ensures) in
    subst (λ (v : ReceivingView). ReceivingInvariant v) same
    (kept-begun v c.self.invariant (event.Post p 0) (deed.Post p) c.count-number.result c.args.cap
    (record {
      posted = λ q is. let is_p : p ≡ q = cc in
          (ap (λ (x : post.Post). x.number) (sym is_p), ap (λ (x : post.Post). x.cap) (sym is_p));
      in_time = λ _ _. refl;
    })
    taken (is_begin_post v p 0 taken next c.in_ok-taken.ensures.oldest)
    (post_takeable v c.self.invariant p taken c.in_ok-taken.ensures.oldest))

pub returns-clause-taken : goal.returns-clause-taken
returns-clause-taken c = λ h received.
    let here = subst (λ (v : ReceivingView). AreReceived v h) (sym c.self.view_is) received in
    c.in_ok-taken.ensures.oldest
    ∙ sym (first_message-stands c.self.inside.matcher h here.stands c.args.from c.args.tag c.args.ctx)

pub returns-clause-started : goal.returns-clause-started
returns-clause-started c =
    let v = seen c.self.inside in
    let a = c.self.inside in
    let p : post.Post = record {
      number = c.count-number.result;
      from = c.args.from;
      tag = c.args.tag;
      ctx = c.args.ctx;
      cap = c.args.cap;
    } in
    let taken = c.in_ok-taken.taken in
    let s : Started = record { number = c.count-number.result; taken = taken } in
    let next : c.count-number.result ≡ length a.receives.items =
    c.count-number.ensures ∙ ap (λ (rs : List Receive). length rs) c.reserve.ensures.items in
    let grants = c.grant_taken.ensures.grants ∙ ap (λ gs. grants_with gs taken) c.reserve_from.ensures.same in
    let receives = c.push.ensures
    ∙ ap (λ (rs : List Receive). rs ++ c.new.result ∷ []) c.reserve.ensures.items
    ∙ ap (λ (r : Receive). a.receives.items ++ r ∷ []) c.new.ensures in
    let same = begun_same v (deed.Post p) c.args.cap taken c.post.new.self c.grant_taken.new.grants.grants
    c.grant_taken.new.receipts.rows
    c.push.new.self.items c.in_ok-taken.ensures.ok grants c.grant_taken.ensures.receipts receives in
    let takeable = post_takeable v c.self.invariant p taken c.in_ok-taken.ensures.oldest in
    let v' : ReceivingView = record v {
      deeds = c.post.new.self;
      grants = c.grant_taken.new.grants.grants;
      receipts = c.grant_taken.new.receipts.rows;
      receives = c.push.new.self.items;
    } in
    subst (λ (w : ReceivingView). StartsOne c.args.cap (event.Post p) s w v') c.self.view_is
    (record {
      number = next;
      sender = taken_sender v c.self.invariant taken takeable;
      kept = λ line. subst (λ (w : ReceivingView). Preserves v w (event.Post p line ∷ taken_events taken)) same
          (keeps-begun v (event.Post p line) (deed.Post p) c.count-number.result c.args.cap taken
          (is_begin_post v p line taken next c.in_ok-taken.ensures.oldest)
          (may_begin_with v c.self.invariant taken takeable));
      sizes = refl;
      streams = refl;
      bytes = same-granted v v' taken refl grants;
      drawn = refl;
      receives = receives;
    })
