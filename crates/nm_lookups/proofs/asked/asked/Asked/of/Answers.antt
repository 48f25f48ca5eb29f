use Rattle.std.proofs.Common.{◌≡◌, ℕ, ◌+◌, List, Option, length, take, refl, sym, subst}
use Rattle.std.specs.Prelude.{option_map}
use Rattle.std.proofs.lemmas.List.{take_all}
use Rattle.std.proofs.lemmas.Option.{slice_get_read}
use Rattle.nm_types.specs.Commands.{commands_of}
use Rattle.nm_history.specs.declared.events.Event.{Event}
use Rattle.nm_lookups.specs.AskedFor.{AreNames, asked_request, meant_by}
use Rattle.nm_lookups.specs.declared.asked.requests.Request.{Request}
use Rattle.nm_lookups.proofs.UpToLemmas.{UpTo, up_to_all, up_to_next}
use Rattle.nm_lookups.proofs.asked.asked.Asked.of.Goals as goal
use Rattle.nm_types.proofs.ListLemmas.{take_next}

pub loop-k-preserved : goal.loop-k-preserved
loop-k-preserved c =
    let h = c.args.events.now in
    let k = c.loop-k.k in
    let e = c.index-events-k.result in
    let P : ℕ → Event → Option Request → Type 0 = λ t x request. option_map meant_by request
    ≡ asked_request (commands_of c.args.rank c.args.lines.now) (take t h) x.what in (
      subst (λ (g : List Event). AreNames (commands_of c.args.rank c.args.lines.now) g c.rename.new.names)
          (sym (take_next h k e c.loop-k-test.true c.index-events-k.is))
          (c.in_ok-rename.ensures (take k h) e.stamp c.loop-k.invariant.0),
      subst (λ (xs : List (Option Request)). UpTo P h (k + 1) xs)
          (sym {A = List (Option Request)} c.in_ok-push.ensures.items)
          (up_to_next P h k e c.loop-k.requests.items c.request_asked.result
          (slice_get_read h (length h) k e refl c.loop-k-test.true c.index-events-k.is)
          c.request_asked.ensures c.loop-k.invariant.1),
    )

pub returns : goal.returns
returns c = record {
  requests = up_to_all (λ t (x : Event) (request : Option Request). option_map meant_by request
      ≡ asked_request (commands_of c.args.rank c.args.lines.now) (take t c.args.events.now) x.what)
      c.args.events.now c.loop-k.k c.loop-k.requests.items c.loop-k-test.false c.loop-k.invariant.1;
  messages = c.in_ok-messages.ensures;
  names = subst (λ (g : List Event). AreNames (commands_of c.args.rank c.args.lines.now) g c.loop-k.names)
      (take_all c.loop-k.k c.args.events.now c.loop-k-test.false) c.loop-k.invariant.0;
}
