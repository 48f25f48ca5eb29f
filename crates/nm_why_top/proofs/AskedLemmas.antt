-- What the words ask for, and the parts of an answer.
use Rattle.std.proofs.Common.{◌≡◌, ℕ, Option, Some, None, List, [], ◌∷◌, length, refl, sym, ◌∙◌, subst}
use Rattle.std.specs.Option.{IfSome}
use Rattle.std.specs.List.{slice_get}
use Rattle.nm_types.proofs.OptionLemmas.{no_some, same_some}
use Rattle.nm_types.specs.declared.scripts.Line.{Line}
use Rattle.nm_types.specs.Sizes.{Sizes}
use Rattle.nm_outcomes_top.specs.OptionWords.{InRange, IsTaken, sizes_for}
use Rattle.nm_outcomes_top.specs.declared.words.Asked.{Asked}
use Rattle.nm_outcomes_top.specs.declared.words.Question.TheVariants.{All}
use Rattle.nm_waits.specs.declared.waits.Wait.{Wait}
use Rattle.nm_waits.specs.Chains.{IsChain}
use Rattle.nm_why_top.specs.Answers.{IsAnswerFor, IsAsked, IsChainOf, IsCounted, IsExplained}
use Rattle.nm_why_top.specs.declared.answers.Count.{Count}
use Rattle.nm_why_top.specs.declared.answers.Response.{Response}
use Rattle.nm_why_top.specs.declared.answers.Response.TheVariants.{Told}
use Rattle.nm_why_texts.specs.declared.whys.Why.{Why}

-- what was found is asked for
pub asked_for : (words : List (List ℕ)) (asked : Asked) (found : Option Asked) → IsTaken words asked →
    IfSome found (λ f. (f ≡ asked) × (asked.question ≡ All)) → IfSome found (IsAsked words)
asked_for words asked None taken same = tt
asked_for words asked (Some f) taken same =
    subst (λ (a : Asked). IsAsked words a) (sym same.0) (taken, same.1)

-- .. and in range
pub asked_within : (asked : Asked) (found : Option Asked) → InRange asked →
    IfSome found (λ f. (f ≡ asked) × (asked.question ≡ All)) → IfSome found InRange
asked_within asked None range same = tt
asked_within asked (Some f) range same = subst (λ (a : Asked). InRange a) (sym same.0) range

-- .. and nothing else is
pub asked_only : (words : List (List ℕ)) (asked : Asked) (found : Option Asked) →
    (asked.question ≡ All → found ≡ Some asked) → (line : Asked) → Some asked ≡ Some line → IsAsked words line →
    found ≡ Some line
asked_only words asked found takes line same is =
    let one : line ≡ asked = cc in
    takes (subst (λ (a : Asked). a.question ≡ All) one is.1) ∙ same

-- the chain begins at the first that waits
pub chain_first : (waits : List Wait) (wait : Wait) (ranks : List ℕ) → Some wait ≡ slice_get waits 0 →
    IsChain waits wait.rank ranks → IsChainOf waits ranks
chain_first [] wait ranks here chain = absurd (no_some wait (sym here))
chain_first (w ∷ waits) wait ranks here chain =
    subst (λ (x : Wait). IsChain (w ∷ waits) x.rank ranks) (same_some wait w here) chain

pub chain_none : (waits : List Wait) (ranks : List ℕ) → None ≡ slice_get waits 0 → ranks ≡ [] → IsChainOf waits ranks
chain_none [] ranks here none = none
chain_none (w ∷ waits) ranks here none = absurd (no_some w here)

-- what is told of a script
pub told_right : (asked : Asked) (ranks : ℕ) (lines : List Line) (shape : Sizes) → shape ≡ sizes_for asked ranks →
    (count : Count) (why : Option Why) → IsCounted asked shape lines count → IsExplained shape lines why →
    (answer : Response) → answer ≡ Told count (length lines) why → IsAnswerFor asked ranks lines answer
told_right asked ranks lines shape same count why counted is answer told =
    subst (λ (a : Response). IsAnswerFor asked ranks lines a) (sym told)
    (subst (λ (s : Sizes). IsCounted asked s lines count × ((length lines ≡ length lines) × IsExplained s lines why))
    same (counted, (refl, is)))
