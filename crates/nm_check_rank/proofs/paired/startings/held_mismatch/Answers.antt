use Rattle.std.proofs.Common.{sym, ◌∙◌, subst}
use Rattle.std.proofs.lemmas.Option.{none-some, same_Some}
use Rattle.nm_history.specs.declared.events.Happened.TheVariants as what
use Rattle.nm_match.specs.declared.names.Message.{Message}
use Rattle.nm_check_rank.specs.Arguments.{IsFirstMismatch, arguments}
use Rattle.nm_check_rank.proofs.paired.startings.held_mismatch.Goals as goal

pub returns-in-Some : goal.returns-in-Some
returns-in-Some c = λ m is.
    subst (λ (x : Message). IsFirstMismatch (arguments (what.Match 0 x.rank x.n c.args.cap c.args.line))
    (arguments c.args.what.now) c.match_mismatch.result) (same_Some c.in-Some.message m (sym c.in-Some.is ∙ is))
    c.match_mismatch.ensures

pub returns-in-None : goal.returns-in-None
returns-in-None c = λ m is. absurd (none-some m (sym c.in-None.is ∙ is))
