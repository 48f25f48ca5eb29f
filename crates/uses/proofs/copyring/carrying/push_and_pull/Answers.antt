-- The bytes that were pushed are the beginning of the text, wherever the loop ends.
use Rattle.std.proofs.Common.{List, ℕ, sym, subst}
use Rattle.nm_copyring.specs.declared.port.RingPort.{RingPort}
use Rattle.nm_copyring.specs.Ports.{pushed_to}
use Rattle.uses.specs.Fronts.{IsFront, bytes_in}
use Rattle.uses.proofs.Lanes.{none_more, take_front}
use Rattle.uses.proofs.copyring.carrying.push_and_pull.Goals as goal
use Rattle.uses.proofs.copyring.carrying.push_and_pull.Goals.{else-loop-byte-test}
use Rattle.uses.proofs.copyring.carrying.push_and_pull.Goals.{then-loop-byte-test+in_ok-push_byte+then-not-branch}

pub returns-clause-sent : goal.returns-clause-sent
returns-clause-sent g c =
    let text = c.args.text.now in
    let before : IsFront (bytes_in (pushed_to c.loop-byte.first 1)) text =
    subst (λ (bytes : List ℕ). IsFront bytes text) (sym c.loop-byte.invariant.4)
    (take_front c.loop-byte.byte-index text) in
    elim c.loop-byte-test.branch [
      | else-loop-byte-test w ↦ subst (λ (port : RingPort). IsFront (bytes_in (pushed_to port 1)) text)
          (sym w.first-is) before
      | then-loop-byte-test+in_ok-push_byte+then-not-branch w ↦
          subst (λ (port : RingPort). IsFront (bytes_in (pushed_to port 1)) text) (sym w.first-is)
          (subst (λ (bytes : List ℕ). IsFront bytes text)
          (sym (none_more _ _ _ _ w.if-not-branch.true w.in_ok-push_byte.ensures.went)) before)
    ]
