use Rattle.std.proofs.Common.{◌≡◌, Option, None, refl, subst}
use Rattle.std.specs.Prelude.{MatchOption}
use Rattle.nm_history.specs.declared.events.Event.{Event}
use Rattle.nm_report.specs.Ends.{ends_of}
use Rattle.nm_check_rank.specs.declared.paired.dues.Due.{Due}
use Rattle.nm_breaks.specs.Against.{IsAgainstHeld}
use Rattle.nm_breaks.proofs.against.against_at.Goals as goal

abbrev nothing : Option Due
nothing = None

pub returns-in-Some : goal.returns-in-Some
returns-in-Some c =
    subst (λ (o : Option Event). MatchOption o (c.against_held.result ≡ None)
    (λ e. IsAgainstHeld c.args.lines.now (ends_of c.args.ranks.now) e c.args.held c.against_held.result))
    c.in-Some.ensures c.against_held.ensures

pub returns-in-None : goal.returns-in-None
returns-in-None c =
    subst (λ (o : Option Event). MatchOption o (nothing ≡ None)
    (λ e. IsAgainstHeld c.args.lines.now (ends_of c.args.ranks.now) e c.args.held nothing)) c.in-None.ensures refl
