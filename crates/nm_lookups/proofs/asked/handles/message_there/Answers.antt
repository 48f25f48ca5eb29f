use Rattle.std.proofs.Common.{◌≡◌, ◌∙◌, sym, subst}
use Rattle.std.specs.Prelude.{IsTrue, option_map}
use Rattle.std.proofs.lemmas.Option.{get_or_from_slice_get}
use Rattle.nm_history.specs.declared.events.Event.{Event}
use Rattle.nm_history.specs.Answers.{message_claimed}
use Rattle.nm_lookups.specs.Firsts.{is_claim_at}
use Rattle.nm_lookups.specs.AskedFor.{message_meant}
use Rattle.nm_lookups.proofs.asked.handles.message_there.Goals as goal

pub returns : goal.returns
returns c = λ line e here start.
    let same : c.in_ok-get.field-0.now ≡ e =
    c.in_ok-get.ensures.lookup.1
    ∙ get_or_from_slice_get c.args.events.now c.args.place e c.in_ok-get.field-0.now here in
    subst (λ (x : Event). option_map message_meant c.message_taken.result ≡ message_claimed line x.what) same
    (c.message_taken.ensures line (subst (λ (x : Event). IsTrue (is_claim_at line x.what)) (sym same) start))
