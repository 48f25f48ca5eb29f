use Rattle.std.proofs.Common.{◌∙◌, Some, None, take}
use Rattle.std.specs.Prelude.{if◌then◌else◌}
use Rattle.nm_check_rank.specs.declared.paired.objections.Objection.TheVariants as against
use Rattle.nm_check_rank.proofs.ObjectionLemmas.{no_receive}
use Rattle.nm_check_rank.proofs.paired.objections.match_objection.Goals as goal

pub returns-in-Match : goal.returns-in-Match
returns-in-Match c = λ rank lines h told. rw c.in-Match.is
    (c.unclaimed.ensures
    ∙ (λ i. if c.is_taken-taken.ensures rank lines h told.tells i then Some against.Taken
    else if c.is_before-claimed.ensures h told.places.incoming.settled.claims i then None
    else Some against.NotClaimed))

pub returns-in_default : goal.returns-in_default
returns-in_default c = λ rank lines h told. no_receive (take c.args.k h) c.args.what.now c.in_default.not-Match
