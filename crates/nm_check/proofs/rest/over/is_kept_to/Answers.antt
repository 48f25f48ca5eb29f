use Rattle.std.proofs.Common.{List, Option, sym, subst}
use Rattle.std.specs.Prelude.{IfSome}
use Rattle.nm_history.specs.declared.events.Event.{Event}
use Rattle.nm_history.specs.Quiescence.{Ended}
use Rattle.nm_report.specs.Ends.{ends_of}
use Rattle.nm_lookups.specs.Deciding.{Decides}
use Rattle.nm_check.specs.RestBreaks.{KeepsSend}
use Rattle.nm_check.proofs.TableLemmas.{history_decided}
use Rattle.nm_check.proofs.rest.over.is_kept_to.Goals as goal

pub returns-in-Some : goal.returns-in-Some
returns-in-Some c = λ hi sent.
    history_decided (ends_of c.args.of.now.ranks.now) c.args.j c.is_kept.result
    (λ h. KeepsSend c.args.rule c.args.i hi c.args.j h c.args.n c.args.how) c.in-Some.ensures.inside
    (subst (λ (h : List Event). Decides c.is_kept.result
    (KeepsSend c.args.rule c.args.i hi c.args.j h c.args.n c.args.how)) (sym c.in-Some.ensures.history)
    (c.is_kept.ensures hi c.in-Some._events.now c.args.of.now.lines.now sent c.in-Some.ensures.tabled))

pub returns-in-None : goal.returns-in-None
returns-in-None c = λ hi sent.
    subst (λ (o : Option Ended). IfSome o
    (λ rank. KeepsSend c.args.rule c.args.i hi c.args.j rank.events c.args.n c.args.how)) (sym c.in-None.ensures) tt
