use Rattle.std.proofs.Common.{◌≡◌, ℕ, ◌+◌, List, Option, length, take, refl, sym, subst}
use Rattle.std.specs.Prelude.{option_map}
use Rattle.std.proofs.lemmas.Option.{slice_get_read}
use Rattle.nm_types.specs.Commands.{commands_of}
use Rattle.nm_history.specs.declared.events.Event.{Event}
use Rattle.nm_match.specs.declared.names.Message.{Message}
use Rattle.nm_lookups.specs.AskedFor.{AreHandles, asked_message, message_meant}
use Rattle.nm_lookups.proofs.UpToLemmas.{UpTo, up_to_all, up_to_next}
use Rattle.nm_lookups.proofs.asked.handles.messages_asked.Goals as goal
use Rattle.nm_types.proofs.ListLemmas.{take_next}

pub loop-k-preserved : goal.loop-k-preserved
loop-k-preserved c =
    let h = c.args.events.now in
    let k = c.loop-k.k in
    let e = c.index-events-k.result in
    let P : ℕ → Event → Option Message → Type 0 = λ t x message. option_map message_meant message
    ≡ asked_message (commands_of c.args.rank c.args.lines.now) (take t h) x.what in (
      subst (λ (g : List Event). AreHandles (commands_of c.args.rank c.args.lines.now) g c.hand_on.new.handles)
          (sym (take_next h k e c.loop-k-test.true c.index-events-k.is))
          (c.in_ok-hand_on.ensures (take k h) e.stamp c.loop-k.invariant.0),
      subst (λ (xs : List (Option Message)). UpTo P h (k + 1) xs)
          (sym {A = List (Option Message)} c.in_ok-push.ensures.items)
          (up_to_next P h k e c.loop-k.asked.items c.message_asked.result
          (slice_get_read h (length h) k e refl c.loop-k-test.true c.index-events-k.is)
          c.message_asked.ensures c.loop-k.invariant.1),
    )

pub returns : goal.returns
returns c =
    up_to_all (λ t (x : Event) message. option_map message_meant message
    ≡ asked_message (commands_of c.args.rank c.args.lines.now) (take t c.args.events.now) x.what)
    c.args.events.now c.loop-k.k c.loop-k.asked.items c.loop-k-test.false c.loop-k.invariant.1
