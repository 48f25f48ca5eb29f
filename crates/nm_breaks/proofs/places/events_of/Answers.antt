use Rattle.std.proofs.Common.{sym, ◌∙◌, ap, arith}
use Rattle.nm_report.specs.declared.accounts.RankAccount.{RankAccount}
use Rattle.nm_check.proofs.TableLemmas.{history_at, no_history}
use Rattle.nm_breaks.proofs.places.events_of.Goals as goal

pub returns-then-i-ranks : goal.returns-then-i-ranks
returns-then-i-ranks c = sym (no_history c.args.ranks.now c.args.rank (omega (arith, c.if-i-ranks.true)))

pub returns : goal.returns
returns c =
    c.as_slice.ensures ∙ ap (λ (r : RankAccount). r.history.events) (sym c.index-ranks-i.is)
    ∙ sym (history_at c.args.ranks.now c.args.rank c.index-ranks-i.result c.if-i-ranks.false c.index-ranks-i.is)
