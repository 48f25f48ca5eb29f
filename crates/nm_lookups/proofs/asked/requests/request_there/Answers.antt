use Rattle.std.proofs.Common.{◌≡◌, ◌∙◌, sym, subst}
use Rattle.std.specs.Prelude.{IsTrue, option_map}
use Rattle.std.proofs.lemmas.Option.{get_or_from_slice_get}
use Rattle.nm_history.specs.declared.events.Event.{Event}
use Rattle.nm_history.specs.Answers.{request_of}
use Rattle.nm_lookups.specs.Firsts.{is_start_at}
use Rattle.nm_lookups.specs.AskedFor.{meant_by}
use Rattle.nm_lookups.proofs.asked.requests.request_there.Goals as goal

pub returns : goal.returns
returns c = λ line e here start.
    let same : c.in_ok-get.field-0.now ≡ e =
    c.in_ok-get.ensures.lookup.1
    ∙ get_or_from_slice_get c.args.events.now c.args.place e c.in_ok-get.field-0.now here in
    subst (λ (x : Event). option_map meant_by c.request_made.result ≡ request_of line x.what) same
    (c.request_made.ensures line (subst (λ (x : Event). IsTrue (is_start_at line x.what)) (sym same) start))
