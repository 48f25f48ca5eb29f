-- The part does it without so many commands, too.
use Rattle.std.proofs.Common.{List, ℕ, subst, sym}
use Rattle.nm_why.specs.declared.hangs.Meets.{Meets}
use Rattle.nm_why.specs.Hangs.{Does, IsMeeting}
use Rattle.nm_why.specs.Least.{AreRising}
use Rattle.nm_why.specs.Parts.{lines_at}
use Rattle.nm_why.proofs.least.leave_out.Goals as goal

pub returns-in-Yes : goal.returns-in-Yes
returns-in-Yes g c =
    let aim = c.args.of.now.aim in
    let shape = c.args.of.now.shape in
    let lines = c.args.of.now.lines.now in
    record {
      rising = c.in_ok-others.ensures
          (subst (λ (places : List ℕ). AreRising places) (sym c.as_slice.ensures.value) c.requires.rising);
      does =
          subst (λ (places : List ℕ). Does aim shape (lines_at lines places)) c.as_slice-2.ensures.value
          (subst (λ (m : Meets). IsMeeting aim shape (lines_at lines c.as_slice-2.result.now) m) c.in-Yes.is
          c.in_ok-meets.ensures);
    }
