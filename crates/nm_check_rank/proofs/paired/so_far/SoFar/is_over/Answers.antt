use Rattle.std.proofs.Common.{◌≡◌, ℕ, List, length, arith, subst}
use Rattle.std.proofs.lemmas.List.{take_all}
use Rattle.nm_history.specs.declared.events.Event.{Event}
use Rattle.nm_history.specs.RankRun.{is_cancelling, is_start, ran_lines}
use Rattle.nm_lookups.specs.Deciding.{Decides}
use Rattle.nm_check_rank.specs.Kinds.{is_claiming}
use Rattle.nm_check_rank.proofs.ClaimLemmas.{no_claiming, no_claims}
use Rattle.nm_check_rank.proofs.DecideLemmas.{decides_by}
use Rattle.nm_check_rank.proofs.SoFarLemmas.{left_decided, no_end_rule}
use Rattle.nm_check_rank.proofs.paired.so_far.SoFar.is_over.Goals as goal

pub returns-in-Answers : goal.returns-in-Answers
returns-in-Answers c = λ h so_far. rw c.in-Answers.is
    (subst (λ (g : List Event). Decides c.is_same.result (c.args.at ≡ length (ran_lines g)))
    (take_all (length h) h (omega arith))
    (subst (λ (n : ℕ). Decides c.is_same.result (c.args.at ≡ n)) so_far.ran c.is_same.ensures))

pub returns-in-Starts : goal.returns-in-Starts
returns-in-Starts c = λ h so_far. rw c.in-Starts.is
    (left_decided is_start h c.is_nothing.result (c.is_nothing.ensures is_start h (length h) so_far.starts))

pub returns-in-Cancels : goal.returns-in-Cancels
returns-in-Cancels c = λ h so_far. rw c.in-Cancels.is
    (left_decided is_cancelling h c.is_nothing-in-Cancels.result
    (c.is_nothing-in-Cancels.ensures is_cancelling h (length h) so_far.cancels))

pub returns-in-Claims : goal.returns-in-Claims
returns-in-Claims c = λ h so_far. rw c.in-Claims.is
    (decides_by c.is_nothing-in-Claims.result (no_claims h) (no_claiming h)
    (left_decided is_claiming h c.is_nothing-in-Claims.result
    (c.is_nothing-in-Claims.ensures is_claiming h (length h) so_far.claims)))

pub returns-in_default : goal.returns-in_default
returns-in_default c = λ h so_far.
    no_end_rule c.args.at h c.args.clause c.in_default.not-Answers c.in_default.not-Starts c.in_default.not-Cancels
    c.in_default.not-Claims
