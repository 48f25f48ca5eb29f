-- What a status says of the input.
use Rattle.std.proofs.Common.{◌≡◌, ℕ, inl, inr, List, Option, Some, None, refl, sym, ◌∙◌, subst, arith}
use Rattle.std.specs.Option.{IfSome}
use Rattle.nm_types.proofs.OptionLemmas.{if_each, if_some, no_some, same_some}
use Rattle.nm_shell.specs.Inputs.{read_of}
use Rattle.nm_shell.specs.Done.{Ending}
use Rattle.nm_lawful.specs.declared.judging.Judged.{Judged as the_judged}
use Rattle.nm_lawful.specs.declared.judging.Judged.TheVariants as judged
use Rattle.nm_lawful.specs.Searches.{JudgedSays}
use Rattle.nm_lawful_top.specs.Answers.{IsDueTo, TellsLawful, status_of}
use Rattle.nm_lawful_top.specs.Endings.{AreLawful, AreUnlawful, IsGiven}
use Rattle.nm_lawful_top.specs.Texts.{judged_status_lem}
use Rattle.nm_lawful_top.specs.declared.responses.Response.{Response}
use Rattle.nm_lawful_top.specs.declared.responses.Response.TheVariants.{BadLine, Judged, NoAnswers, Refused, Unread, Usage}
use Rattle.nm_lawful_top.specs.declared.words.Asked.{Asked}
use Rattle.nm_lawful_top.specs.Words.{IsTaken}

-- what is given is judged so
abbrev IsGivenJudged : the_judged → Asked → List ℕ → Type 0
IsGivenJudged j asked bytes =
    (given : IsGiven asked bytes)
    × JudgedSays given.lines given.told given.ranks given.count asked.states j

-- the verdict in an answer
abbrev judged_in : Response → Option the_judged
judged_in (Judged j l w) = Some j
judged_in answer = None

given_of : (asked : Asked) (bytes : List ℕ) (answer : Response) (j : the_judged) → judged_in answer ≡ Some j →
    IsDueTo asked (read_of bytes) answer → IsGivenJudged j asked bytes
given_of asked bytes Usage j is h = absurd h
given_of asked bytes Unread j is h = absurd h
given_of asked bytes NoAnswers j is h = absurd (no_some j is)
given_of asked bytes (Refused n k) j is h = absurd (no_some j is)
given_of asked bytes (BadLine n) j is h = absurd (no_some j is)
given_of asked bytes (Judged k l w) j is h =
    subst (λ (v : the_judged). IsGivenJudged v asked bytes) (same_some k j is) (
      record {
        script = h.script;
        text = h.text;
        input = h.input;
        ranks = h.right.ranks;
        lines = h.right.lines;
        spelled = h.right.spelled;
        told = h.right.right.told;
        count = h.right.right.count;
        read = h.right.right.read;
      },
      h.right.right.says,
    )

-- the status of a verdict
zero_in : (answer : Response) → 0 ≡ status_of answer → judged_in answer ≡ Some judged.Lawful
zero_in Usage h = absurd (omega (arith, h))
zero_in Unread h = absurd (omega (arith, h))
zero_in NoAnswers h = absurd (omega (arith, h))
zero_in (Refused n k) h = absurd (omega (arith, h))
zero_in (BadLine n) h = absurd (omega (arith, h))
zero_in (Judged judged.Lawful l w) h = refl
zero_in (Judged (judged.Unlawful m) l w) h = absurd (omega (arith, h))
zero_in (Judged (judged.NoRest i) l w) h = absurd (omega (arith, h))
zero_in (Judged judged.TooMany l w) h = absurd (omega (arith, h))

eight_in : (answer : Response) → 8 ≡ status_of answer →
    (j : the_judged) × (judged_in answer ≡ Some j) × (8 ≡ judged_status_lem j)
eight_in Usage h = absurd (omega (arith, h))
eight_in Unread h = absurd (omega (arith, h))
eight_in NoAnswers h = absurd (omega (arith, h))
eight_in (Refused n k) h = absurd (omega (arith, h))
eight_in (BadLine n) h = absurd (omega (arith, h))
eight_in (Judged j l w) h = (j, refl, h)

refused_by : (asked : Asked) (bytes : List ℕ) (j : the_judged) → 8 ≡ judged_status_lem j →
    IsGivenJudged j asked bytes → AreUnlawful asked bytes
refused_by asked bytes judged.Lawful h given = absurd (omega (arith, h))
refused_by asked bytes (judged.Unlawful m) h given = (given.0, given.1.0)
refused_by asked bytes (judged.NoRest i) h given = (given.0, given.1.0)
refused_by asked bytes judged.TooMany h given = absurd (omega (arith, h))

module _ {e : Ending} where
  -- a status that is none of 5 was said whole
  whole : (answer : Response) → TellsLawful e answer → (k : ℕ) → e.status ≡ k → (k ≡ 5 → ⊥) → k ≡ status_of answer
  whole answer t k is other = elim t.said [ inl p ↦ sym is ∙ p.0 | inr p ↦ absurd (other (sym is ∙ p.0)) ]

  found : (answer : Response) → TellsLawful e answer → (asked : Asked) → IsTaken e.words asked → (j : the_judged) →
      judged_in answer ≡ Some j → IfSome e.input (IsGivenJudged j asked)
  found Usage t asked taken j is = absurd (no_some j is)
  found Unread t asked taken j is = absurd (no_some j is)
  found NoAnswers t asked taken j is = absurd (no_some j is)
  found (Refused n k) t asked taken j is = absurd (no_some j is)
  found (BadLine n) t asked taken j is = absurd (no_some j is)
  found (Judged k l w) t asked taken j is =
      subst (λ (a : Asked). IfSome e.input (IsGivenJudged j a))
      (same_some t.right.asked asked (sym t.right.taken ∙ taken))
      (if_each (IsGivenJudged j t.right.asked) e.input
      (λ bytes here. given_of t.right.asked bytes (Judged k l w) j is
      (if_some (λ (bs : List ℕ). IsDueTo t.right.asked (read_of bs) (Judged k l w)) e.input bytes here t.right.right)))

  pub lawful_is : (answer : Response) → TellsLawful e answer → (asked : Asked) → IsTaken e.words asked →
      e.status ≡ 0 → IfSome e.input (AreLawful asked)
  lawful_is answer t asked taken zero =
      found answer t asked taken judged.Lawful (zero_in answer (whole answer t 0 zero (λ f. cc)))

  pub unlawful_is : (answer : Response) → TellsLawful e answer → (asked : Asked) → IsTaken e.words asked →
      e.status ≡ 8 → IfSome e.input (AreUnlawful asked)
  unlawful_is answer t asked taken eight =
      let j = eight_in answer (whole answer t 8 eight (λ f. cc)) in
      if_each (AreUnlawful asked) e.input
      (λ bytes here. refused_by asked bytes j.0 j.2
      (if_some (IsGivenJudged j.0 asked) e.input bytes here (found answer t asked taken j.0 j.1)))
