-- How the program ends, clause by clause.
use Rattle.std.proofs.Common.{inr, map, string_bytes}
use Rattle.nm_chart.specs.Answers.{Charts}
use Rattle.nm_shell.specs.Done.{Ending}
use Rattle.nm_chart.proofs.EndLemmas.{drawn_is, none_of}
use Rattle.nm_chart.proofs.charts.chart.Goals as goal
use Rattle.nm_chart.proofs.charts.chart.Goals.{Joined-answer-2}
use Rattle.nm_chart.proofs.charts.chart.Given.{Over}

-- what is seen where all was written, or the sink failed
abbrev seen : (g : Over) → Joined-answer-2 g → Ending
seen g c =
    record {
      words = map string_bytes c.args.words.now;
      input = g.S.Source.left c.args.source.now;
      left = g.S.Source.left c.find_answer.new.source;
      read_old = g.S.Source.faults c.args.source.now;
      read_new = g.S.Source.faults c.find_answer.new.source;
      before = g.K.Sink.taken c.args.sink.now;
      after = g.K.Sink.taken c.deliver.new.sink;
      write_old = g.K.Sink.faults c.args.sink.now;
      write_new = g.K.Sink.faults c.deliver.new.sink;
      status = c.deliver.result;
    }

-- and what is known of it
known : (g : Over) (c : Joined-answer-2 g) → Charts (seen g c) c.in-Ok.answer
known g c =
    record {
      right = c.in-Ok.ensures.answer;
      read = c.in-Ok.ensures.read;
      said = (
        c.in-Ok-text.due.items,
        c.in-Ok-text.ensures,
        rw (c.deref.ensures.value, c.status.ensures) at c.deliver.ensures.said,
      );
    }

pub returns-clause-drawn : goal.returns-clause-drawn
returns-clause-drawn g c none =
    let drawn = drawn_is (seen g c) c.in-Ok.answer (known g c) none in
    (none_of string_bytes c.args.words.now drawn.0, drawn.1)

pub returns-clause-done : goal.returns-clause-done
returns-clause-done g c = inr (c.in-Ok.answer, known g c)
