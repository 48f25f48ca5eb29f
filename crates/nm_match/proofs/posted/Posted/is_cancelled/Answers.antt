-- What waits no more stands aside or nowhere.
use Rattle.std.proofs.Common.{◌∙◌, Option, ap}
use Rattle.std.specs.Option.{option_map}
use Rattle.nm_history.specs.Continues.{has}
use Rattle.nm_match.specs.declared.names.Receive.{Receive}
use Rattle.nm_match.specs.Standings.{standing_of}
use Rattle.nm_match.proofs.NameLemmas.{some_aside, stands_aside}
use Rattle.nm_match.proofs.PostedLemmas.{aside_is}
use Rattle.nm_match.proofs.posted.Posted.is_cancelled.Goals as goal

pub returns-in-Some : goal.returns-in-Some
returns-in-Some c = λ posts cancelled next is none.
    c.is_cancelled.ensures ∙ aside_is c.in-Some.receive.now
    ∙ some_aside (has cancelled c.args.number) (standing_of c.in-Some.receive.now)
    (ap (λ (o : Option Receive). option_map standing_of o) c.in-Some.ensures ∙ stands_aside is.is c.args.number none)
