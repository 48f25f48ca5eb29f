-- Two answers told apart.
use Rattle.std.proofs.Common.{◌≡◌, ℕ, Bool, refl, sym, ◌∙◌, ap, length}
use Rattle.std.proofs.lemmas.List.{length-replicate}
use Rattle.nm_types.specs.declared.answers.Answer.{Answer}
use Rattle.nm_types.specs.declared.answers.Answer.TheVariants as answer
use Rattle.nm_lookups.specs.Deciding.{Decides}
use Rattle.nm_check_rank.specs.declared.paired.told.Told.{Told}
use Rattle.nm_check_rank.specs.declared.paired.told.Told.TheVariants as told
use Rattle.nm_check_rank.specs.Told.{untold}
use Rattle.nm_check_rank.proofs.DecideLemmas.{decides_by}

abbrev retold : Answer → Told
retold answer.Started = told.Started
retold answer.Busy = told.Busy
retold answer.Null = told.Null
retold answer.No = told.No
retold answer.Nothing = told.Nothing
retold answer.Sent = told.Sent
retold (answer.Got from tag body) = told.Got from tag (length body)
retold (answer.Cut from tag len) = told.Cut from tag len
retold answer.Cancelled = told.Cancelled
retold (answer.Seen seen) = told.Seen seen.from seen.tag seen.len
retold answer.Done = told.Done
retold answer.Late = told.Late
retold answer.Asked = told.Asked

told_back : (t : Told) → retold (untold t) ≡ t
told_back (told.Got from tag len) = ap (λ (n : ℕ). told.Got from tag n) (length-replicate len 0)
told_back t = refl

-- answers are the same where they are told the same
pub told_decided : (r : Bool) (a b : Told) (given : Answer) → untold b ≡ given → Decides r (a ≡ b) →
    Decides r (untold a ≡ given)
told_decided r a b given is right =
    decides_by r (λ same. ap untold same ∙ is)
    (λ same. sym (told_back a) ∙ ap retold (same ∙ sym is) ∙ told_back b) right
