-- How the program ends, answer by answer.
use Rattle.std.proofs.Common.{◌≡◌, ℕ, inl, inr, List, Option, Some, None, sym, ◌∙◌, ap, subst, take}
use Rattle.std.specs.Option.{IfSome, IsSomeAnd}
use Rattle.nm_script.specs.declared.command_line.CommandLine.{CommandLine}
use Rattle.nm_outside.specs.Told.{Appends, AppendsPart, Rose}
use Rattle.nm_check.specs.declared.verdicts.Verdict.{Verdict}
use Rattle.nm_check.specs.declared.verdicts.Verdict.TheVariants.{Holds, Own, Carried, Rest, Home, Done}
use Rattle.nm_breaks.specs.Found.{IsFound, verdict_in}
use Rattle.nm_breaks.specs.Judgements.{judged_as}
use Rattle.nm_breaks.specs.declared.finding.Found.{Found}
use Rattle.nm_breaks.specs.declared.finding.Found.TheVariants.{NoTrace, NoScript, BadTrace, Judged}
use Rattle.nm_breaks.specs.Answers.{IsAsked, IsFoundIn, NotAsked, found_status}
use Rattle.nm_check.specs.Answers.{IsTraced, verdict_status}
use Rattle.nm_verdict.specs.Answers.{IsAnswer, IsFoundOf, AreQuotesOf, IsWritten, SaysVerdict, WasRead}
use Rattle.nm_verdict.specs.Answers.{status_of, text_of, usage}
use Rattle.nm_shell.specs.Done.{Ending, OrFails, OrUnwritten, unread}
use Rattle.nm_verdict.specs.Endings.{IsSpoken, IsStatus, IsTold}
use Rattle.nm_verdict.specs.Quotes.{quotes_of}
use Rattle.nm_verdict.specs.declared.quotes.Quotes.{Quotes}
use Rattle.nm_verdict.specs.declared.answers.Response.{Response}
use Rattle.nm_verdict.specs.declared.answers.Response.TheVariants.{Usage, Unread, Told}

judged_spoken : (verdict : Verdict) (k : ℕ) → k ≡ verdict_status verdict → IsSpoken k
judged_spoken Holds k h = inl h
judged_spoken (Own c r) k h = inr (inr (inl h))
judged_spoken (Carried c i j) k h = inr (inr (inl h))
judged_spoken (Rest c) k h = inr (inr (inl h))
judged_spoken Home k h = inr (inr (inl h))
judged_spoken Done k h = inr (inr (inl h))

-- the statuses of what was found
spoken : (found : Found) (k : ℕ) → k ≡ found_status found → IsSpoken k
spoken NoTrace k h = inr (inr (inr h))
spoken (NoScript line kind) k h = inr (inl h)
spoken (BadTrace before line stop) k h = inr (inr (inr h))
spoken (Judged before j run) k h = judged_spoken (judged_as j) k h

not_spoken : (k : ℕ) → (k ≡ 0 → ⊥) → (k ≡ 3 → ⊥) → (k ≡ 8 → ⊥) → (k ≡ 9 → ⊥) → IsSpoken k → ⊥
not_spoken k a b c d (inl h) = a h
not_spoken k a b c d (inr (inl h)) = b h
not_spoken k a b c d (inr (inr (inl h))) = c h
not_spoken k a b c d (inr (inr (inr h))) = d h

two : IsSpoken 2 → ⊥
two s = not_spoken 2 (λ h. cc) (λ h. cc) (λ h. cc) (λ h. cc) s

four : IsSpoken 4 → ⊥
four s = not_spoken 4 (λ h. cc) (λ h. cc) (λ h. cc) (λ h. cc) s

five : IsSpoken 5 → ⊥
five s = not_spoken 5 (λ h. cc) (λ h. cc) (λ h. cc) (λ h. cc) s

six : IsSpoken 6 → ⊥
six s = not_spoken 6 (λ h. cc) (λ h. cc) (λ h. cc) (λ h. cc) s

no_five : (answer : Response) → 5 ≡ status_of answer → ⊥
no_five Usage h = cc
no_five Unread h = cc
no_five (Told found quotes) h = five (spoken found 5 h)

-- what holds is said so
zero_of : (found : Found) → verdict_in found ≡ Some Holds → found_status found ≡ 0
zero_of NoTrace h = absurd cc
zero_of (NoScript line kind) h = absurd cc
zero_of (BadTrace before line stop) h = absurd cc
zero_of (Judged before j run) h = let same : judged_as j ≡ Holds = cc in ap verdict_status same

-- a script and a trace of one of its runs hold
holds_for : (line : CommandLine) (input : Option (List ℕ)) (found : Found) → IsFoundOf line input found →
    IsSomeAnd input (IsWritten line) → found_status found ≡ 0
holds_for line None found right written = absurd written
holds_for line (Some all) found right written = zero_of found (right.holds written)

module _ {e : Ending} where
  -- a status that is none of 5 was said whole
  whole : {answer : Response} → SaysVerdict e answer → (k : ℕ) → e.status ≡ k → (k ≡ 5 → ⊥) →
      (k ≡ status_of answer) × Appends e.before e.after (text_of answer)
  whole ends k h other = elim ends.said [ inl p ↦ (sym h ∙ p.0, p.1) | inr p ↦ absurd (other (sym h ∙ p.0)) ]

  pub usage_is : (answer : Response) → SaysVerdict e answer → e.status ≡ 2 →
      NotAsked e.words × Appends e.before e.after usage
  usage_is Usage ends h = (ends.right, (whole ends 2 h (λ f. cc)).1)
  usage_is Unread ends h = absurd (let w = (whole ends 2 h (λ f. cc)).0 in cc)
  usage_is (Told found quotes) ends h = absurd (two (spoken found 2 (whole ends 2 h (λ f. cc)).0))

  pub not_taken_is : (answer : Response) → SaysVerdict e answer → NotAsked e.words →
      OrUnwritten (e.status ≡ 2) e.status
  not_taken_is Usage ends none = elim ends.said [ inl p ↦ inl p.0 | inr p ↦ inr (inl p.0) ]
  not_taken_is Unread ends none = absurd (none ends.right.0.0 ends.right.0.1)
  not_taken_is (Told found quotes) ends none = absurd (none ends.right.0 ends.right.1.asked)

  pub told_is : (answer : Response) → SaysVerdict e answer → IsSpoken e.status →
      IsTold e.words e.input e.status e.before e.after
  told_is Usage ends s =
      absurd (elim ends.said [
        | inl p ↦ two (subst IsSpoken p.0 s)
        | inr p ↦ five (subst IsSpoken p.0 s)
      ])
  told_is Unread ends s =
      absurd (elim ends.said [
        | inl p ↦ four (subst IsSpoken p.0 s)
        | inr p ↦ five (subst IsSpoken p.0 s)
      ])
  told_is (Told found quotes) ends s =
      elim ends.said [
        | inl p ↦ record {
          line = ends.right.0;
          asked = ends.right.1.asked;
          found = found;
          right = ends.right.2;
          quotes = quotes;
          quoted = ends.right.3;
          ended = p.0;
          said = p.1;
        }
        | inr p ↦ absurd (five (subst IsSpoken p.0 s))
      ]

  pub unread_is : (answer : Response) → SaysVerdict e answer → e.status ≡ 4 →
      Rose e.read_old e.read_new × Appends e.before e.after unread
  unread_is Usage ends h = absurd (let w = (whole ends 4 h (λ f. cc)).0 in cc)
  unread_is Unread ends h = (ends.right.1, (whole ends 4 h (λ f. cc)).1)
  unread_is (Told found quotes) ends h = absurd (four (spoken found 4 (whole ends 4 h (λ f. cc)).0))

  pub unwritten_is : (answer : Response) → SaysVerdict e answer → e.status ≡ 5 →
      Rose e.write_old e.write_new × (answer : Response)
      × IsAnswer e.words e.input e.read_old e.read_new answer × AppendsPart e.before e.after (text_of answer)
  unwritten_is answer ends h =
      elim ends.said [
        | inl p ↦ absurd (no_five answer (sym h ∙ p.0))
        | inr p ↦ (p.1, answer, ends.right, p.2)
      ]

  -- what holds where the source was not found to fail
  pub unless_unread : {P : Type 0} (answer : Response) → SaysVerdict e answer → (WasRead answer → P) →
      OrFails P e.status
  unless_unread Unread ends make = elim ends.said [ inl p ↦ inr (inl p.0) | inr p ↦ inr (inr (inl p.0)) ]
  unless_unread Usage ends make = inl (make tt)
  unless_unread (Told found quotes) ends make = inl (make tt)

  -- a status is never 6 where something was said
  pub not_six : (answer : Response) → SaysVerdict e answer → e.status ≡ 6 → ⊥
  not_six Usage ends h = let w = (whole ends 6 h (λ f. cc)).0 in cc
  not_six Unread ends h = let w = (whole ends 6 h (λ f. cc)).0 in cc
  not_six (Told found quotes) ends h = six (spoken found 6 (whole ends 6 h (λ f. cc)).0)

  pub holds_is : (answer : Response) → SaysVerdict e answer → (line : CommandLine) → IsAsked e.words line →
      IsSomeAnd e.input (IsWritten line) → OrFails (e.status ≡ 0) e.status
  holds_is Usage ends line asked written = absurd (ends.right line asked)
  holds_is Unread ends line asked written =
      elim ends.said [ inl p ↦ inr (inl p.0) | inr p ↦ inr (inr (inl p.0)) ]
  holds_is (Told found quotes) ends line asked written =
      let its = subst (λ l. IsSomeAnd e.input (IsWritten l)) (ends.right.1.only line asked) written in
      let zero = holds_for ends.right.0 e.input found ends.right.2 its in
      elim ends.said [ inl p ↦ inl (p.0 ∙ zero) | inr p ↦ inr (inr (inl p.0)) ]

  pub status_is : (answer : Response) → SaysVerdict e answer → IsStatus e.status
  status_is Usage ends = elim ends.said [ inl p ↦ inr (inl p.0) | inr p ↦ inr (inr (inr (inl p.0))) ]
  status_is Unread ends = elim ends.said [ inl p ↦ inr (inr (inl p.0)) | inr p ↦ inr (inr (inr (inl p.0))) ]
  status_is (Told found quotes) ends =
      elim ends.said [ inl p ↦ inl (spoken found e.status p.0) | inr p ↦ inr (inr (inr (inl p.0))) ]

-- what was found of the bytes that were read is so of those of the source
pub found_of : (line : CommandLine) (input : Option (List ℕ)) (bytes : List ℕ) (found : Found) →
    IfSome input (λ all. bytes ≡ take 67108865 all) → IsFound line.cells line.eager bytes found →
    (IsTraced line bytes → verdict_in found ≡ Some Holds) →
    IsFoundOf line input found
found_of line None bytes found read right holds = tt
found_of line (Some all) bytes found read right holds =
    subst (λ b. IsFoundIn line found b) read (record { right = right; holds = holds })

-- the lines that were read are those of the source
pub quotes_read : (input : Option (List ℕ)) (bytes : List ℕ) (found : Found) (quotes : Quotes) →
    IfSome input (λ all. bytes ≡ take 67108865 all) → quotes ≡ quotes_of bytes found → AreQuotesOf input found quotes
quotes_read None bytes found quotes read is = tt
quotes_read (Some all) bytes found quotes read is = is ∙ ap (λ (b : List ℕ). quotes_of b found) read
