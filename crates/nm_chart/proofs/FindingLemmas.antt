-- What is found of a script and a trace, and the picture of it.
use Rattle.std.proofs.Common.{◌≡◌, ℕ, ◌≤◌, List, Option, Some, None, arith, length, subst, take}
use Rattle.std.specs.Option.{IfSome}
use Rattle.nm_script.specs.declared.command_line.CommandLine.{CommandLine}
use Rattle.nm_breaks.specs.Answers.{IsAsked}
use Rattle.nm_shell.specs.Inputs.{read_of}
use Rattle.nm_breaks.specs.Found.{IsFound}
use Rattle.nm_breaks.specs.declared.finding.Found.{Found}
use Rattle.nm_breaks.specs.declared.finding.Found.TheVariants as found
use Rattle.nm_chart.specs.Findings.{CanBeFound, IsAnswer, IsAnswerIn, finding_of}
use Rattle.nm_chart.specs.declared.check.findings.Finding.{Finding}
use Rattle.nm_chart.specs.declared.check.findings.Finding.TheVariants.{Usage, Unread, NoScript, NoTrace, Drawn}

-- a record that was found has few ranks
pub found_few : (cells eager : ℕ) (bytes : List ℕ) (what : Found) → IsFound cells eager bytes what → CanBeFound what
found_few cells eager bytes found.NoTrace is = tt
found_few cells eager bytes (found.NoScript line kind) is = tt
found_few cells eager bytes (found.BadTrace before line stop) is = tt
found_few cells eager bytes (found.Judged before j run) is =
    let script = is.3 in
    let whole : length run.ranks ≡ script.0 = script.3.1.whole in
    let few : script.0 ≤ 64 = script.2.limits.few_ranks in
    omega (arith, whole, few)

-- what was found says nothing of words or of a source that failed
no_usage : (what : Found) → Usage ≡ finding_of what → ⊥
no_usage found.NoTrace h = cc
no_usage (found.NoScript line kind) h = cc
no_usage (found.BadTrace before line stop) h = cc
no_usage (found.Judged before j run) h = cc

no_unread : (what : Found) → Unread ≡ finding_of what → ⊥
no_unread found.NoTrace h = cc
no_unread (found.NoScript line kind) h = cc
no_unread (found.BadTrace before line stop) h = cc
no_unread (found.Judged before j run) h = cc

-- what there is to say of the bytes that were read is what there is to say of those of the source
in_all : (line : CommandLine) (input : Option (List ℕ)) (bytes : List ℕ) (finding : Finding) →
    IfSome input (λ all. bytes ≡ take 67108865 all) → IsAnswerIn line finding bytes →
    IfSome input (λ all. IsAnswerIn line finding (read_of all))
in_all line None bytes finding read h = tt
in_all line (Some all) bytes finding read h = subst (λ b. IsAnswerIn line finding b) read h

pub answer_of : (words : List (List ℕ)) (line : CommandLine) (input : Option (List ℕ)) (old new : ℕ) (bytes : List ℕ) →
    IsAsked words line → IfSome input (λ all. bytes ≡ take 67108865 all) → (finding : Finding) →
    IsAnswerIn line finding bytes → IsAnswer words input old new finding
answer_of words line input old new bytes asked read Usage h = absurd (no_usage h.what h.said)
answer_of words line input old new bytes asked read Unread h = absurd (no_unread h.what h.said)
answer_of words line input old new bytes asked read (NoScript n) h =
    (line, asked, in_all line input bytes (NoScript n) read h)
answer_of words line input old new bytes asked read (NoTrace n) h =
    (line, asked, in_all line input bytes (NoTrace n) read h)
answer_of words line input old new bytes asked read (Drawn run verdict flag) h =
    (line, asked, in_all line input bytes (Drawn run verdict flag) read h)
