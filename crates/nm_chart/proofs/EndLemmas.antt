-- How the program ends, answer by answer.
use Rattle.std.proofs.Common.{◌≡◌, ℕ, inl, inr, List, [], ◌∷◌, Option, Some, None, refl, sym, ◌∙◌, subst, arith}
use Rattle.std.proofs.Common.{drop, map, take}
use Rattle.std.specs.Option.{IfSome}
use Rattle.nm_outside.specs.Told.{Appends, AppendsPart, Rose}
use Rattle.nm_report.specs.declared.records.RunRecord.{RunRecord}
use Rattle.nm_chart.specs.Answers.{Charts, IsAnswer, IsAnswerTo, Tells, WasQuiet, WasRead, status_of}
use Rattle.nm_chart.specs.Given.{IsReadFor}
use Rattle.nm_shell.specs.Done.{Ending, OrFails, OrUnwritten, unread}
use Rattle.nm_chart.specs.Endings.{IsBadTrace, IsDrawn, IsRefused, IsStatus, IsTrace, IsTraceOfOne, usage}
use Rattle.nm_shell.specs.Inputs.{read_of}
use Rattle.nm_shell.proofs.FailLemmas.{to_fails}
use Rattle.nm_chart.specs.declared.answers.Response.{Response}
use Rattle.nm_chart.specs.declared.answers.Response.TheVariants.{Usage, Unread, Refused, Drawn}
use Rattle.nm_chart.proofs.WidenedLemmas.{picture_of_each}
use Rattle.nm_types.proofs.OptionLemmas.{if_all as always}

-- an answer whose whole text was written
record Whole (answer : Response) (k : ℕ) (before after : Option (List ℕ)) : Type 0 where
  status : k ≡ status_of answer
  text : List ℕ
  tells : Tells answer text
  said : Appends before after text

-- a status that is none of 5 was said whole
whole : {e : Ending} {answer : Response} → Charts e answer → (k : ℕ) → e.status ≡ k → (k ≡ 5 → ⊥) →
    Whole answer k e.before e.after
whole ends k h other =
    let text = ends.said.0 in
    elim ends.said.2 [
      | inl p ↦ record { status = sym h ∙ p.0; text = text; tells = ends.said.1; said = p.1 }
      | inr p ↦ absurd (other (sym h ∙ p.0))
    ]

-- it is so, or a write failed
or_fails : {P : Type 0} {e : Ending} {answer : Response} → Charts e answer → (e.status ≡ status_of answer → P) →
    OrUnwritten P e.status
or_fails ends make = elim ends.said.2 [ inl p ↦ inl (make p.0) | inr p ↦ inr (inl p.0) ]

-- a source that failed was answered by 4 or 5
unread_fails : {P : Type 0} {e : Ending} → Charts e Unread → OrFails P e.status
unread_fails ends = elim ends.said.2 [ inl p ↦ inr (inl p.0) | inr p ↦ inr (inr (inl p.0)) ]

weaker : (input : Option (List ℕ)) (P Q : List ℕ → Type 0) → ((bytes : List ℕ) → P bytes → Q bytes) →
    IfSome input P → IfSome input Q
weaker None P Q h p = tt
weaker (Some bytes) P Q h p = h bytes p

-- a text that is the same was said
said_same : (before after : Option (List ℕ)) (text other : List ℕ) → text ≡ other → Appends before after text →
    Appends before after other
said_same before after text other same said = subst (λ t. Appends before after t) same said

-- bytes are not both a trace and none
not_both : (bytes : List ℕ) (line : ℕ) (run : RunRecord) → IsBadTrace bytes line → IsTrace bytes run → ⊥
not_both bytes line run (inl long) trace = omega (arith, long.0, trace.0)
not_both bytes line run (inr bad) trace = bad.1.none run trace.1

-- an answer that has another status was not said whole
apart : {P : Type 0} {e : Ending} {answer : Response} → Charts e answer → (k : ℕ) → e.status ≡ k → (k ≡ 5 → ⊥) →
    (k ≡ status_of answer → ⊥) → P
apart ends k h other none = absurd (none (whole ends k h other).status)

pub usage_is : (e : Ending) (answer : Response) → Charts e answer → e.status ≡ 2 →
    (e.words ≡ [] → ⊥) × Appends e.before e.after usage
usage_is e Usage ends h =
    let w = whole ends 2 h (λ f. cc) in
    (ends.right, said_same e.before e.after w.text usage w.tells w.said)
usage_is e Unread ends h = apart ends 2 h (λ f. cc) (λ n. cc)
usage_is e (Refused n) ends h = apart ends 2 h (λ f. cc) (λ n. cc)
usage_is e (Drawn r) ends h = apart ends 2 h (λ f. cc) (λ n. cc)

pub not_taken_is : (e : Ending) (answer : Response) → Charts e answer → (e.words ≡ [] → ⊥) →
    OrUnwritten (e.status ≡ 2) e.status
not_taken_is e Usage ends some = or_fails ends (λ h. h)
not_taken_is e Unread ends some = absurd (some ends.right.0)
not_taken_is e (Refused n) ends some = absurd (some ends.right.0)
not_taken_is e (Drawn r) ends some = absurd (some ends.right.0)

pub refused_is : (e : Ending) (answer : Response) → Charts e answer → e.status ≡ 9 →
    (e.words ≡ []) × IfSome e.input (λ bytes. IsRefused (read_of bytes) e.before e.after)
refused_is e Usage ends h = apart ends 9 h (λ f. cc) (λ n. cc)
refused_is e Unread ends h = apart ends 9 h (λ f. cc) (λ n. cc)
refused_is e (Refused n) ends h =
    let w = whole ends 9 h (λ f. cc) in
    let said = said_same e.before e.after w.text _ w.tells w.said in (
      ends.right.0,
      weaker e.input (λ bytes. IsBadTrace (read_of bytes) n) (λ bytes. IsRefused (read_of bytes) e.before e.after)
          (λ bytes bad. record { line = n; bad = bad; said = said }) ends.right.1,
    )
refused_is e (Drawn r) ends h = apart ends 9 h (λ f. cc) (λ n. cc)

pub refuses_is : (e : Ending) (answer : Response) → Charts e answer → e.words ≡ [] →
    IfSome e.input (λ bytes. (line : ℕ) → IsBadTrace (read_of bytes) line → OrFails (e.status ≡ 9) e.status)
refuses_is e Usage ends none = absurd (ends.right none)
refuses_is e Unread ends none = always e.input _ (λ bytes line bad. unread_fails ends)
refuses_is e (Refused n) ends none = always e.input _ (λ bytes line bad. to_fails e.status (or_fails ends (λ h. h)))
refuses_is e (Drawn r) ends none =
    weaker e.input _ _ (λ bytes trace line bad. absurd (not_both (read_of bytes) line r bad trace.of_run)) ends.right.1

pub drawn_is : (e : Ending) (answer : Response) → Charts e answer → e.status ≡ 0 →
    (e.words ≡ []) × IfSome e.input (λ bytes. IsDrawn (read_of bytes) e.before e.after)
drawn_is e Usage ends h = apart ends 0 h (λ f. cc) (λ n. cc)
drawn_is e Unread ends h = apart ends 0 h (λ f. cc) (λ n. cc)
drawn_is e (Refused n) ends h = apart ends 0 h (λ f. cc) (λ n. cc)
drawn_is e (Drawn r) ends h =
    let w = whole ends 0 h (λ f. cc) in (
      ends.right.0,
      weaker e.input (λ bytes. IsTraceOfOne (read_of bytes) r) (λ bytes. IsDrawn (read_of bytes) e.before e.after)
          (λ bytes trace. record {
            run = r;
            text = w.text;
            of_run = trace.of_run;
            picture = picture_of_each (read_of bytes) r w.text trace w.tells;
            said = w.said;
          }) ends.right.1,
    )

pub draws_is : (e : Ending) (answer : Response) → Charts e answer → e.words ≡ [] →
    IfSome e.input (λ bytes. (run : RunRecord) → IsTrace (read_of bytes) run → OrFails (e.status ≡ 0) e.status)
draws_is e Usage ends none = absurd (ends.right none)
draws_is e Unread ends none = always e.input _ (λ bytes run trace. unread_fails ends)
draws_is e (Refused n) ends none =
    weaker e.input _ _ (λ bytes bad run trace. absurd (not_both (read_of bytes) n run bad trace)) ends.right.1
draws_is e (Drawn r) ends none = always e.input _ (λ bytes run trace. to_fails e.status (or_fails ends (λ h. h)))

pub unread_is : (e : Ending) (answer : Response) → Charts e answer → e.status ≡ 4 →
    Rose e.read_old e.read_new × Appends e.before e.after unread
unread_is e Usage ends h = apart ends 4 h (λ f. cc) (λ n. cc)
unread_is e Unread ends h =
    let w = whole ends 4 h (λ f. cc) in
    (ends.right.1, said_same e.before e.after w.text unread w.tells w.said)
unread_is e (Refused n) ends h = apart ends 4 h (λ f. cc) (λ n. cc)
unread_is e (Drawn r) ends h = apart ends 4 h (λ f. cc) (λ n. cc)

-- no answer has status 5
no_five : (answer : Response) → 5 ≡ status_of answer → ⊥
no_five Usage h = cc
no_five Unread h = cc
no_five (Refused n) h = cc
no_five (Drawn r) h = cc

pub unwritten_is : (e : Ending) (answer : Response) → Charts e answer → e.status ≡ 5 →
    Rose e.write_old e.write_new × (answer : Response) × IsAnswer e.words e.input e.read_old e.read_new answer
    × IsReadFor (WasQuiet answer) (WasRead answer) e.input e.left e.read_old e.read_new × (text : List ℕ)
    × Tells answer text × AppendsPart e.before e.after text
unwritten_is e answer ends h =
    elim ends.said.2 [
      | inl p ↦ absurd (no_five answer (sym h ∙ p.0))
      | inr p ↦ (p.1, answer, ends.right, ends.read, ends.said.0, ends.said.1, p.2)
    ]

-- what holds where the source was not found to fail
pub unless_unread : {P : Type 0} (e : Ending) (answer : Response) → Charts e answer → (WasQuiet answer → P) →
    OrFails P e.status
unless_unread e Unread ends make = unread_fails ends
unless_unread e answer ends make = inl (make tt)

-- where there are no words, the source was read
pub read_is : (e : Ending) (answer : Response) → Charts e answer → e.words ≡ [] →
    OrFails (IfSome e.input (λ bytes. e.left ≡ Some (drop 67108865 bytes))) e.status
read_is e Usage ends none = absurd (ends.right none)
read_is e Unread ends none = unread_fails ends
read_is e (Refused n) ends none = inl (ends.read.whole tt)
read_is e (Drawn r) ends none = inl (ends.read.whole tt)

-- a status is never 6 where something was said
pub not_six : (e : Ending) (answer : Response) → Charts e answer → e.status ≡ 6 → ⊥
not_six e Usage ends h = apart ends 6 h (λ f. cc) (λ n. cc)
not_six e Unread ends h = apart ends 6 h (λ f. cc) (λ n. cc)
not_six e (Refused n) ends h = apart ends 6 h (λ f. cc) (λ n. cc)
not_six e (Drawn r) ends h = apart ends 6 h (λ f. cc) (λ n. cc)

-- what was said has one of the statuses
pub status_is : (e : Ending) (answer : Response) → Charts e answer → IsStatus e.status
status_is e Usage ends =
    elim ends.said.2 [ inl p ↦ inr (inl p.0) | inr p ↦ inr (inr (inr (inl p.0))) ]
status_is e Unread ends =
    elim ends.said.2 [ inl p ↦ inr (inr (inl p.0)) | inr p ↦ inr (inr (inr (inl p.0))) ]
status_is e (Refused n) ends =
    elim ends.said.2 [ inl p ↦ inr (inr (inr (inr (inr p.0)))) | inr p ↦ inr (inr (inr (inl p.0))) ]
status_is e (Drawn r) ends =
    elim ends.said.2 [ inl p ↦ inl p.0 | inr p ↦ inr (inr (inr (inl p.0))) ]

-- words are none exactly where their bytes are
pub none_of : {X : Type 0} (f : X → List ℕ) (words : List X) → map f words ≡ [] → words ≡ []
none_of f [] h = refl
none_of f (word ∷ words) h = absurd cc

pub some_of : {X : Type 0} (f : X → List ℕ) (words : List X) → (words ≡ [] → ⊥) → map f words ≡ [] → ⊥
some_of f words some h = some (none_of f words h)

-- an answer to the bytes that were read is one to the source
pub answered : (words : List (List ℕ)) (input : Option (List ℕ)) (old new : ℕ) (bytes : List ℕ) → words ≡ [] →
    IfSome input (λ all. bytes ≡ take 67108865 all) → (answer : Response) → IsAnswerTo bytes answer →
    IsAnswer words input old new answer
answered words input old new bytes none read Usage h = absurd h
answered words input old new bytes none read Unread h = absurd h
answered words input old new bytes none read (Refused n) h =
    (none, weaker input _ _ (λ all same. subst (λ b. IsAnswerTo b (Refused n)) same h) read)
answered words input old new bytes none read (Drawn r) h =
    (none, weaker input _ _ (λ all same. subst (λ b. IsAnswerTo b (Drawn r)) same h) read)
