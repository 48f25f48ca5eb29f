-- The part does it without this command, too.
use Rattle.std.proofs.Common.{ℕ, ◌<◌, List, subst, sym}
use Rattle.std.proofs.lemmas.List.Quantifiers.{all_pairs_remove}
use Rattle.nm_why.specs.declared.least.Scan.{Scan}
use Rattle.nm_why.specs.declared.least.Scan.TheVariants.{Shorter}
use Rattle.nm_why.specs.Hangs.{Does}
use Rattle.nm_why.specs.Least.{AreRising, IsScan}
use Rattle.nm_why.specs.Parts.{lines_at}
use Rattle.nm_why.proofs.least.shorten.Goals as goal

pub turns-preserved-in-Shorter : goal.turns-preserved-in-Shorter
turns-preserved-in-Shorter g c =
    let aim = c.args.of.now.aim in
    let shape = c.args.of.now.shape in
    let lines = c.args.of.now.lines.now in
    let found = subst (λ (places : List ℕ). IsScan aim shape lines places c.turns.from (Shorter c.in-Shorter.k))
    c.as_slice.ensures.value
    (subst (λ (scan : Scan). IsScan aim shape lines c.as_slice.result.now c.turns.from scan) c.in-Shorter.is
    c.in_ok-k.ensures) in
    record {
      rising =
          subst (λ (places : List ℕ). AreRising places) (sym c.remove.ensures.items)
          (all_pairs_remove (λ j k. j < k) c.turns.places.items c.in-Shorter.k found.0 c.turns.invariant.rising);
      does =
          subst (λ (places : List ℕ). Does aim shape (lines_at lines places)) (sym c.remove.ensures.items) found.1;
    }
