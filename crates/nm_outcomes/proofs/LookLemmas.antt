-- What an answer does to the line that a name or a handle stands for.
use Rattle.std.proofs.Common.{◌≡◌, ℕ, Bool, Option, Some, None, List, refl}
use Rattle.std.specs.Prelude.{◌&&◌, if◌then◌else◌}
use Rattle.nm_types.specs.declared.answers.Answer.{Answer}
use Rattle.nm_types.specs.declared.scripts.Command.{Command}
use Rattle.nm_types.specs.Commands.{Numbered, command_at}
use Rattle.nm_history.specs.declared.events.Happened.TheVariants as event
use Rattle.nm_history.specs.Answers.{claim_line_after, is_claim_for, is_question_of, is_receive_of, is_result, is_seen}
use Rattle.nm_history.specs.Answers.{is_start_of, is_started, line_after}

pub named : (commands : List Numbered) (q line : ℕ) (was : Option ℕ) (c : Command) (a : Answer) (s r : Bool) →
    command_at commands line ≡ Some c → is_started a ≡ s → is_result a ≡ r →
    line_after commands q was (event.Ran line a)
    ≡ (if is_start_of q c && s then Some line else if is_question_of q c && r then None else was)
named commands q line was c a s r here starts ends = rw (here, starts, ends) refl

pub unnamed : (commands : List Numbered) (q line : ℕ) (was : Option ℕ) (a : Answer) →
    command_at commands line ≡ None → line_after commands q was (event.Ran line a) ≡ was
unnamed commands q line was a none = rw none refl

pub handled : (commands : List Numbered) (m line : ℕ) (was : Option ℕ) (c : Command) (a : Answer) (s r : Bool) →
    command_at commands line ≡ Some c → is_seen a ≡ s → is_started a ≡ r →
    claim_line_after commands m was (event.Ran line a)
    ≡ (if is_claim_for m c && s then Some line else if is_receive_of m c && r then None else was)
handled commands m line was c a s r here shows ends = rw (here, shows, ends) refl

pub unhandled : (commands : List Numbered) (m line : ℕ) (was : Option ℕ) (a : Answer) →
    command_at commands line ≡ None → claim_line_after commands m was (event.Ran line a) ≡ was
unhandled commands m line was a none = rw none refl
