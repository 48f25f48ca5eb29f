-- A run that ends is one.
use Rattle.std.proofs.Common.{subst}
use Rattle.nm_why_top.specs.declared.seeking.Seen.{Seen}
use Rattle.nm_why_top.specs.declared.seeking.Sought.TheVariants as sought
use Rattle.nm_why_top.specs.Seeking.{IsSeen}
use Rattle.nm_why_top.proofs.SeekLemmas.{way_runs}
use Rattle.nm_why_top.proofs.searching.fate_with.Goals as goal

pub returns-in-By : goal.returns-in-By
returns-in-By c = λ shape lines script hangs seen. (
  hangs,
  way_runs c.ends_are_runs.ensures sought.End shape lines script _
      (subst (λ (s : Seen). IsSeen sought.End shape lines s) c.in-By.is seen),
)

pub returns-in-Never : goal.returns-in-Never
returns-in-Never c = λ shape lines script hangs seen. (
  hangs,
  subst (λ (s : Seen). IsSeen sought.End shape lines s) c.in-Never.is seen,
)
