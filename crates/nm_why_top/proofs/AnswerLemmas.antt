-- Answers that are right, from the script to the source and the words.
use Rattle.std.proofs.Common.{◌≡◌, ℕ, inl, inr, List, Option, Some, None, refl, sym, ◌∙◌, subst, take, arith}
use Rattle.std.specs.Option.{IfSome}
use Rattle.nm_types.specs.declared.scripts.Line.{Line}
use Rattle.nm_types.specs.Sizes.{Sizes}
use Rattle.nm_script.specs.Spelled.{IsTextOf}
use Rattle.nm_shell.specs.Done.{Ending}
use Rattle.nm_outcomes_top.specs.Answers.{IsOutgrowing}
use Rattle.nm_outcomes_top.specs.OptionWords.{sizes_for}
use Rattle.nm_outcomes_top.specs.declared.words.Asked.{Asked}
use Rattle.nm_why_top.specs.declared.answers.Response.{Response}
use Rattle.nm_why_top.specs.declared.answers.Response.TheVariants.{Outgrown, Refused, Told, Unread, Usage}
use Rattle.nm_why_texts.specs.declared.whys.Why.{Why}
use Rattle.nm_why_top.specs.Answers.{IsAnswer, IsAnswerFor, IsAnswerIn, IsAnswerOf, IsAsked, TellsWhy, status_of}
use Rattle.nm_why_top.specs.Answers.{why_status}

-- an answer to the bytes that were read is one to the source
pub answered : (asked : Asked) (input : Option (List ℕ)) (old new : ℕ) (bytes : List ℕ) →
    IfSome input (λ all. bytes ≡ take 8388609 all) → (answer : Response) → IsAnswerIn asked bytes answer →
    IsAnswerOf asked input old new answer
answered asked input old new bytes read Usage h = absurd h
answered asked input old new bytes read Unread h = absurd h
answered asked None old new bytes read (Refused n k) h = tt
answered asked (Some all) old new bytes read (Refused n k) h =
    subst (λ (b : List ℕ). IsAnswerIn asked b (Refused n k)) read h
answered asked None old new bytes read (Outgrown s) h = tt
answered asked (Some all) old new bytes read (Outgrown s) h =
    subst (λ (b : List ℕ). IsAnswerIn asked b (Outgrown s)) read h
answered asked None old new bytes read (Told n c w) h = tt
answered asked (Some all) old new bytes read (Told n c w) h =
    subst (λ (b : List ℕ). IsAnswerIn asked b (Told n c w)) read h

-- an answer for a script that is spelled is one to its text
pub answered_in : (asked : Asked) (script : List ℕ) (ranks : ℕ) (lines : List Line) → IsTextOf script ranks lines →
    (answer : Response) → IsAnswerFor asked ranks lines answer → IsAnswerIn asked script answer
answered_in asked script ranks lines spelled Usage h = absurd h
answered_in asked script ranks lines spelled Unread h = absurd h
answered_in asked script ranks lines spelled (Refused n k) h = absurd h
answered_in asked script ranks lines spelled (Outgrown s) h =
    record { ranks = ranks; lines = lines; spelled = spelled; right = h }
answered_in asked script ranks lines spelled (Told n c w) h =
    record { ranks = ranks; lines = lines; spelled = spelled; right = h }

-- an answer to words that are taken is right
pub answered_words : (words : List (List ℕ)) (input : Option (List ℕ)) (old new : ℕ) (asked : Asked) →
    IsAsked words asked → (answer : Response) → IsAnswerOf asked input old new answer →
    IsAnswer words input old new answer
answered_words words input old new asked taken Usage h = absurd h
answered_words words input old new asked taken Unread h = record { asked = asked; taken = taken; right = h }
answered_words words input old new asked taken (Refused n k) h = record { asked = asked; taken = taken; right = h }
answered_words words input old new asked taken (Outgrown s) h = record { asked = asked; taken = taken; right = h }
answered_words words input old new asked taken (Told n c w) h = record { asked = asked; taken = taken; right = h }

-- an answer that there are too many
pub outgrown_right : (asked : Asked) (ranks : ℕ) (lines : List Line) (shape : Sizes) → shape ≡ sizes_for asked ranks →
    IsOutgrowing asked shape lines → IsAnswerFor asked ranks lines (Outgrown asked.states)
outgrown_right asked ranks lines shape same over =
    (refl, subst (λ (s : Sizes). IsOutgrowing asked s lines) same over)

-- no answer has status 6
no_six_told : (why : Option Why) → 6 ≡ why_status why → ⊥
no_six_told None h = cc
no_six_told (Some w) h = cc

no_six : (answer : Response) → 6 ≡ status_of answer → ⊥
no_six Usage h = cc
no_six Unread h = cc
no_six (Refused n k) h = cc
no_six (Outgrown s) h = cc
no_six (Told n c w) h = no_six_told w h

pub not_six : {s : Ending} (answer : Response) → TellsWhy s answer → s.status ≡ 6 → ⊥
not_six {s} answer e h =
    elim e.said [ inl p ↦ no_six answer (sym h ∙ p.0) | inr p ↦ absurd (omega (arith, h, p.0)) ]
