-- All places rise, and give the whole script.
use Rattle.std.proofs.Common.{List, ℕ, ◌∙◌, ap, subst, sym}
use Rattle.nm_types.specs.declared.scripts.Line.{Line}
use Rattle.nm_why.specs.Hangs.{Does}
use Rattle.nm_why.specs.Least.{AreRising}
use Rattle.nm_why.specs.Parts.{lines_at}
use Rattle.nm_why.proofs.PartLemmas.{at_all_places, places_rise}
use Rattle.nm_why.proofs.least.least_part.Goals as goal

pub halve-requires : goal.halve-requires
halve-requires g c =
    let lines = c.args.of.now.lines.now in
    record {
      rising = subst (λ (places : List ℕ). AreRising places) (sym c.in_ok-places.ensures) (places_rise _);
      does =
          subst (λ (part : List Line). Does c.args.of.now.aim c.args.of.now.shape part)
          (sym (ap (λ (places : List ℕ). lines_at lines places) c.in_ok-places.ensures ∙ at_all_places lines))
          c.requires;
    }
