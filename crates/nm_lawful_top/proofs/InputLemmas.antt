-- Answers that are right.
use Rattle.std.proofs.Common.{◌≡◌, ℕ, List, subst}
use Rattle.std.specs.Prelude.{Option, Some, None}
use Rattle.std.specs.Option.{IfSome}
use Rattle.nm_types.specs.declared.scripts.Line.{Line}
use Rattle.nm_script.specs.Spelled.{IsTextOf}
use Rattle.nm_shell.specs.Inputs.{IsInput, read_of}
use Rattle.nm_lawful.specs.declared.judging.Judged.{Judged as the_judged}
use Rattle.nm_lawful.specs.declared.moves.Said.{Said}
use Rattle.nm_lawful.specs.Moves.{report_lem}
use Rattle.nm_lawful.specs.Searches.{JudgedSays}
use Rattle.nm_lawful_top.specs.Answers.{IsDue, IsDueFor, IsDueIn, IsDueOf, IsDueTo}
use Rattle.nm_lawful_top.specs.declared.responses.Response.{Response}
use Rattle.nm_lawful_top.specs.declared.responses.Response.TheVariants.{BadLine, Judged, NoAnswers, Refused, Unread, Usage}
use Rattle.nm_lawful_top.specs.declared.words.Asked.{Asked}
use Rattle.nm_lawful_top.specs.Words.{IsTaken}

-- an answer for a script that is spelled is one to its text
pub answered_in : (asked : Asked) (script text : List ℕ) (ranks : ℕ) (lines : List Line) →
    IsTextOf script ranks lines → (answer : Response) → IsDueFor asked ranks lines text answer →
    IsDueIn asked script text answer
answered_in asked script text ranks lines spelled Usage h = absurd h
answered_in asked script text ranks lines spelled Unread h = absurd h
answered_in asked script text ranks lines spelled NoAnswers h = absurd h
answered_in asked script text ranks lines spelled (Refused n k) h = absurd h
answered_in asked script text ranks lines spelled (BadLine n) h =
    record { ranks = ranks; lines = lines; spelled = spelled; right = h }
answered_in asked script text ranks lines spelled (Judged j l w) h =
    record { ranks = ranks; lines = lines; spelled = spelled; right = h }

-- an answer to the parts of the bytes is one to the bytes
pub answered_to : (asked : Asked) (bytes script text : List ℕ) → IsInput bytes script text → (answer : Response) →
    IsDueIn asked script text answer → IsDueTo asked bytes answer
answered_to asked bytes script text parts Usage h = absurd h
answered_to asked bytes script text parts Unread h = absurd h
answered_to asked bytes script text parts NoAnswers h = absurd h
answered_to asked bytes script text parts (Refused n k) h =
    record { script = script; text = text; input = parts; right = h }
answered_to asked bytes script text parts (BadLine n) h =
    record { script = script; text = text; input = parts; right = h }
answered_to asked bytes script text parts (Judged j l w) h =
    record { script = script; text = text; input = parts; right = h }

-- an answer to the bytes that were read is one to the source
module _ (asked : Asked) (old new : ℕ) (bytes : List ℕ) where
  some_read : (input : Option (List ℕ)) (answer : Response) → IfSome input (λ all. bytes ≡ read_of all) →
      IsDueTo asked bytes answer → IfSome input (λ all. IsDueTo asked (read_of all) answer)
  some_read None answer read h = tt
  some_read (Some all) answer read h = subst (λ (b : List ℕ). IsDueTo asked b answer) read h

  pub answered : (input : Option (List ℕ)) → IfSome input (λ all. bytes ≡ read_of all) → (answer : Response) →
      IsDueTo asked bytes answer → IsDueOf asked input old new answer
  answered input read Usage h = absurd h
  answered input read Unread h = absurd h
  answered input read NoAnswers h = some_read input NoAnswers read h
  answered input read (Refused n k) h = some_read input (Refused n k) read h
  answered input read (BadLine n) h = some_read input (BadLine n) read h
  answered input read (Judged j l w) h = some_read input (Judged j l w) read h

-- an answer to words that are taken is right
pub answered_words : (words : List (List ℕ)) (input : Option (List ℕ)) (old new : ℕ) (asked : Asked) →
    IsTaken words asked → (answer : Response) → IsDueOf asked input old new answer →
    IsDue words input old new answer
answered_words words input old new asked taken Usage h = absurd h
answered_words words input old new asked taken Unread h = record { asked = asked; taken = taken; right = h }
answered_words words input old new asked taken NoAnswers h = record { asked = asked; taken = taken; right = h }
answered_words words input old new asked taken (Refused n k) h = record { asked = asked; taken = taken; right = h }
answered_words words input old new asked taken (BadLine n) h = record { asked = asked; taken = taken; right = h }
answered_words words input old new asked taken (Judged j l w) h = record { asked = asked; taken = taken; right = h }

-- what is judged by parts of a report is judged by it
pub judged_as : (own lines : List Line) (said told : List (Option Said)) (rests waits : List (Option ℕ))
    (ranks count limit : ℕ) (judged : the_judged) → own ≡ lines → said ≡ told → rests ≡ waits →
    JudgedSays own (report_lem said rests) ranks count limit judged →
    JudgedSays lines (report_lem told waits) ranks count limit judged
judged_as own lines said told rests waits ranks count limit judged one two three says =
    subst (λ (w : List (Option ℕ)). JudgedSays lines (report_lem told w) ranks count limit judged) three
    (subst (λ (s : List (Option Said)). JudgedSays lines (report_lem s rests) ranks count limit judged) two
    (subst (λ (ls : List Line). JudgedSays ls (report_lem said rests) ranks count limit judged) one says))
