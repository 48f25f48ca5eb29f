use Rattle.std.proofs.Common.{[], sym, ◌∙◌}
use Rattle.nm_receiving.proofs.ContinueLemmas.{clear-continues, withdrawn-continues, own-continues, own-of}
use Rattle.nm_receiving.proofs.streams.streams.Stream.continues.Goals as goal

pub returns-in-Clear : goal.returns-in-Clear
returns-in-Clear c =
    let p = c.args.packet.now in
    let k = c.args.self.now.known in
    let fresh = c.if-packet-ge-WORN.false in
    let is = rw c.as_slice-size.ensures.value at c.can_clear.ensures in
    record {
      value = λ h same. is ∙ clear-continues c.args.eager k h p _ c.args.awaited fresh c.in-Clear.is same;
      continued = λ h same yes. record {
        eager = c.args.eager;
        history = h;
        continued = sym (clear-continues c.args.eager k h p _ c.args.awaited fresh c.in-Clear.is same)
            ∙ sym is ∙ yes;
      };
    }

pub returns-in-Withdrawn : goal.returns-in-Withdrawn
returns-in-Withdrawn c =
    let p = c.args.packet.now in
    let k = c.args.self.now.known in
    let n = c.in-Withdrawn.n in
    let done = c.in-Withdrawn.done in
    let fresh = c.if-packet-ge-WORN.false in
    let is = rw c.as_slice-size.ensures.value at c.can_answer.ensures in
    record {
      value = λ h same. is
          ∙ withdrawn-continues c.args.eager k h p n done c.args.awaited fresh c.in-Withdrawn.is same;
      continued = λ h same yes. record {
        eager = c.args.eager;
        history = h;
        continued = sym
            (withdrawn-continues c.args.eager k h p n done c.args.awaited fresh c.in-Withdrawn.is same)
            ∙ sym is ∙ yes;
      };
    }

pub returns-in_default : goal.returns-in_default
returns-in_default c =
    let p = c.args.packet.now in
    let k = c.args.self.now.known in
    let own = own-of p.what c.in_default.not-Clear c.in_default.not-Withdrawn in
    let at = own-continues c.args.eager k in
    let is = rw c.as_slice-size.ensures.value at c.continues_own.ensures in
    record {
      value = λ h _. is ∙ sym (at h p c.if-packet-ge-WORN.false own);
      continued = λ h same yes. record {
        eager = c.args.eager;
        history = [];
        continued = at [] p c.if-packet-ge-WORN.false
            own ∙ sym is ∙ yes;
      };
    }
