-- The lines that are told of a judgement.
use Rattle.std.proofs.Common.{◌≡◌, ℕ, Option, None, refl}
use Rattle.nm_check_rank.specs.declared.paired.dues.Due.{Due}
use Rattle.nm_check.specs.declared.clauses.CarriedClause.{CarriedClause}
use Rattle.nm_verdict.specs.Quotes.{other_line, place_line, quoted_line}
use Rattle.nm_breaks.specs.declared.counts.Miscount.{Miscount}
use Rattle.nm_breaks.specs.declared.judgements.Judgement.{Judgement}
use Rattle.nm_breaks.specs.declared.judgements.Judgement.TheVariants.{Carried, Counted}
use Rattle.nm_breaks.specs.declared.places.EventLine.{EventLine}

-- the bytes of each line are told, but of a count
pub quotes_place : (j : Judgement) → ((line : ℕ) (m : Miscount) → j ≡ Counted line m → ⊥) →
    place_line j ≡ quoted_line j
quotes_place (Counted line m) not = absurd (not line m refl)
quotes_place j not = refl

abbrev nothing : Option ℕ
nothing = None

-- an event of another rank is told between two ranks alone
pub no_other : (j : Judgement) → ((c : CarriedClause) (from to : ℕ) (e : EventLine) (o : Option EventLine)
    (a : Option Due) → j ≡ Carried c from to e o a → ⊥) → nothing ≡ other_line j
no_other (Carried c from to e o a) not = absurd (not c from to e o a refl)
no_other j not = refl
