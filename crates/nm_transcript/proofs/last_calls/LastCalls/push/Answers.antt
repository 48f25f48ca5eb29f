-- One call more.
use Rattle.std.proofs.Common.{◌≡◌, ◌+◌, ◌∙◌, ◌++◌, ◌∷◌, [], List, ap, arith, false, length, refl, subst, sym}
use Rattle.std.proofs.lemmas.List.{length_push}
use Rattle.nm_types.specs.declared.scripts.Command.{Command}
use Rattle.nm_transcript.specs.declared.last_calls.Call.{Call}
use Rattle.nm_transcript.specs.LastCalls.{AreCallsOf}
use Rattle.nm_transcript.proofs.CallLemmas.{calls_later, made_more}
use Rattle.nm_transcript.proofs.last_calls.LastCalls.push.Goals as goal

pub invariant_of-self-in_err-push_back : goal.invariant_of-self-in_err-push_back
invariant_of-self-in_err-push_back c =
    let all = c.self.inside.all.items in (
      c.self.invariant.0,
      c.pass.ensures.starts all c.self.invariant.1 c.self.invariant.2,
      subst (λ (xs : List Call). AreCallsOf all xs) (sym c.in_err-push_back.ensures.items)
          (c.pass.ensures.last all c.self.invariant.2),
    )

pub invariant_of-self-2 : goal.invariant_of-self-2
invariant_of-self-2 c =
    let all = c.self.inside.all.items in
    let made = c.self.inside.made in
    let x : Call = record { number = made; command = c.args.command; started = false } in
    let grown : c.then-all.result.items ≡ all ++ c.args.command ∷ [] = c.then-all.ensures in
    let long : length c.then-all.result.items ≡ length all + 1 =
    ap (λ (xs : List Command). length xs) grown ∙ length_push all c.args.command in
    let sum = c.saturating_add-made.ensures in (
      λ low. let was = c.self.invariant.0 (omega (arith, low, sum)) in omega (arith, low, sum, was, long),
      subst (λ (xs : List Command). AreCallsOf xs c.pass.new.starts.items) (sym grown)
          (calls_later all (c.args.command ∷ []) c.pass.new.starts.items
          (c.pass.ensures.starts all c.self.invariant.1 c.self.invariant.2)),
      subst (λ (xs : List Command). AreCallsOf xs c.push_back.new.self.items) (sym grown)
          (made_more all c.args.command c.pass.new.last.items c.push_back.new.self.items x
          c.in_ok-push_back.ensures.items refl c.self.invariant.0 (c.pass.ensures.last all c.self.invariant.2)),
    )
