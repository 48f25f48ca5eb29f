-- How the program ends, clause by clause.
use Rattle.std.proofs.Common.{inr, map}
use Rattle.std.specs.Prelude.{string_bytes}
use Rattle.nm_verdict.specs.Answers.{SaysVerdict}
use Rattle.nm_shell.specs.Done.{Ending}
use Rattle.nm_verdict.proofs.EndLemmas.{not_six, told_is, unread_is, unwritten_is}
use Rattle.nm_verdict.proofs.top.verdict.Goals as goal
use Rattle.nm_verdict.proofs.top.verdict.Goals.{Joined-answer-5}
use Rattle.nm_verdict.proofs.top.verdict.Given.{Over}

-- what is seen where all was written, or the sink failed
abbrev seen : (g : Over) → Joined-answer-5 g → Ending
seen g c =
    record {
      words = map string_bytes c.args.words.now;
      input = g.S.Source.left c.args.source.now;
      left = g.S.Source.left c.find_answer.new.source;
      read_old = g.S.Source.faults c.args.source.now;
      read_new = g.S.Source.faults c.find_answer.new.source;
      before = g.K.Sink.taken c.args.sink.now;
      after = g.K.Sink.taken c.deliver.new.sink;
      write_old = g.K.Sink.faults c.args.sink.now;
      write_new = g.K.Sink.faults c.deliver.new.sink;
      status = c.deliver.result;
    }

-- and what is known of it
known : (g : Over) (c : Joined-answer-5 g) → SaysVerdict (seen g c) c.in-Ok.answer
known g c =
    record {
      right = c.in-Ok.ensures.answer;
      read = c.in-Ok.ensures.read;
      said = rw (c.deref.ensures.value, c.in-Ok-text.ensures, c.status.ensures) at c.deliver.ensures.said;
    }

pub returns-clause-told : goal.returns-clause-told
returns-clause-told g c = told_is c.in-Ok.answer (known g c)

pub returns-clause-done : goal.returns-clause-done
returns-clause-done g c = inr (c.in-Ok.answer, known g c)

pub returns-clause-unread : goal.returns-clause-unread
returns-clause-unread g c = unread_is c.in-Ok.answer (known g c)

pub returns-clause-unwritten : goal.returns-clause-unwritten
returns-clause-unwritten g c = unwritten_is c.in-Ok.answer (known g c)

pub returns-clause-memory : goal.returns-clause-memory
returns-clause-memory g c six = absurd (not_six c.in-Ok.answer (known g c) six)
