-- The histories in memory are those of the record.
use Rattle.std.proofs.Common.{◌∙◌, List, ap, sym, subst}
use Rattle.std.specs.List.{AllZip}
use Rattle.nm_history.specs.Quiescence.{Ended}
use Rattle.nm_report.specs.Ends.{are_done, packets_of}
use Rattle.nm_world.specs.Records.{HasStopped}
use Rattle.nm_world.specs.Runs.{IsWholeOf}
use Rattle.nm_world.proofs.whole.run_sources.Goals as goal

pub returns-clause-run : goal.returns-clause-run
returns-clause-run g c commands in_range given =
    let x = c.in_ok-rested.rested in
    subst (λ (es : List Ended). IsWholeOf c.args.shape commands es (packets_of x.pairs) x.cells x.ways.cells
    x.ways.rings)
    (sym c.in_ok-ranks.ensures) (c.in_ok-rested.ensures.run commands in_range given)

pub returns-clause-stopped : goal.returns-clause-stopped
returns-clause-stopped g c =
    subst (λ (es : List Ended). AllZip (HasStopped g.S.Source.shows g.S.Source.gives)
    c.in_ok-rested.rested.sources.items es)
    (sym c.in_ok-ranks.ensures) c.in_ok-rested.ensures.stopped

pub returns-clause-home : goal.returns-clause-home
returns-clause-home g c = record { all = c.in_ok-rested.ensures.all; home = c.in_ok-rested.ensures.home }

pub returns-clause-done : goal.returns-clause-done
returns-clause-done g c =
    c.in_ok-rested.ensures.done ∙ ap (λ (es : List Ended). are_done es) (sym c.in_ok-ranks.ensures)
