use Rattle.std.proofs.Common.{◌≡◌, Option, Some, None, refl, subst}
use Rattle.std.specs.Prelude.{MatchOption}
use Rattle.nm_history.specs.declared.events.Event.{Event}
use Rattle.nm_check_rank.specs.declared.paired.dues.Due.{Due}
use Rattle.nm_check_rank.specs.declared.paired.dues.Due.TheVariants.{Stamp}
use Rattle.nm_breaks.specs.Against.{IsBetween}
use Rattle.nm_breaks.proofs.against.against_held.Goals as goal

abbrev nothing : Option Due
nothing = None

pub returns-in-Some : goal.returns-in-Some
returns-in-Some c =
    let e = c.args.e.now in
    subst (λ (o : Option Event). MatchOption o (c.between.result ≡ None)
    (λ f. IsBetween c.args.lines.now c.args.held.rank e.what f.what (Some (Stamp f.stamp e.stamp)) c.between.result))
    c.in-Some.ensures c.between.ensures

pub returns-in-None : goal.returns-in-None
returns-in-None c =
    let e = c.args.e.now in
    subst (λ (o : Option Event). MatchOption o (nothing ≡ None)
    (λ f. IsBetween c.args.lines.now c.args.held.rank e.what f.what (Some (Stamp f.stamp e.stamp)) nothing))
    c.in-None.ensures refl
