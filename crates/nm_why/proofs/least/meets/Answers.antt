-- What the search says of the script of these lines is said of the part.
use Rattle.std.proofs.Common.{◌∙◌}
use Rattle.nm_why.proofs.HangLemmas.{meets_at}
use Rattle.nm_why.proofs.least.meets.Goals as goal

pub returns-in_ok-fate-in-Some : goal.returns-in_ok-fate-in-Some
returns-in_ok-fate-in-Some g c =
    meets_at c.args.of.now.aim c.in_ok-fate-in-Some.field-0 c.args.of.now.shape c.in-Some.script.lines _
    c.meeting.result c.meeting.ensures
    (c.in-Some.ensures.some.1 ∙ c.from_vec-lines.ensures ∙ c.in_ok-lines_at.ensures) c.in_ok-fate-in-Some.ensures
