-- How the program ends, clause by clause.
use Rattle.std.proofs.Common.{inl, inr, map, string_bytes}
use Rattle.nm_shell.specs.Done.{Ending}
use Rattle.nm_outcomes_top.specs.Answers.{TellsOutcomes}
use Rattle.nm_outcomes_top.proofs.EndLemmas.{not_six, status_is, told_is, unread_is, unwritten_is, weaker}
use Rattle.nm_outcomes_top.proofs.TellingLemmas.{listed_of}
use Rattle.nm_outcomes_top.proofs.tops.outcomes.Goals as goal
use Rattle.nm_outcomes_top.proofs.tops.outcomes.Goals.{Joined-answer-3}
use Rattle.nm_outcomes_top.proofs.tops.outcomes.Given.{Over}

-- what is seen where all was written, or the sink failed
abbrev seen : (g : Over) → Joined-answer-3 g → Ending
seen g c =
    record {
      words = map string_bytes c.args.words.now;
      input = g.S.Source.left c.args.source.now;
      left = g.S.Source.left c.find_answer.new.source;
      read_old = g.S.Source.faults c.args.source.now;
      read_new = g.S.Source.faults c.find_answer.new.source;
      before = g.K.Sink.taken c.args.sink.now;
      after = g.K.Sink.taken c.deliver.new.sink;
      write_old = g.K.Sink.faults c.args.sink.now;
      write_new = g.K.Sink.faults c.deliver.new.sink;
      status = c.deliver.result;
    }

-- and what is known of it
known : (g : Over) (c : Joined-answer-3 g) → TellsOutcomes (seen g c) c.in-Ok.answer
known g c = record {
  right = c.in-Ok.ensures.answer;
  said = rw (c.deref.ensures.value, c.in-Ok-text.ensures, c.status.ensures) at c.deliver.ensures.said;
}

pub returns-clause-listed : goal.returns-clause-listed
returns-clause-listed g c asked taken is small =
    weaker (g.S.Source.left c.args.source.now) _ _ (λ bytes told. listed_of c.deliver.result is told)
    (told_is c.in-Ok.answer (known g c) asked taken (elim small [ inl h ↦ inl h | inr h ↦ inr (inl h) ]))

pub returns-clause-done : goal.returns-clause-done
returns-clause-done g c = inr (c.in-Ok.answer, known g c)

pub returns-clause-unread : goal.returns-clause-unread
returns-clause-unread g c = unread_is c.in-Ok.answer (known g c)

pub returns-clause-unwritten : goal.returns-clause-unwritten
returns-clause-unwritten g c = unwritten_is c.in-Ok.answer (known g c)

pub returns-clause-memory : goal.returns-clause-memory
returns-clause-memory g c six = absurd (not_six c.in-Ok.answer (known g c) six)

pub returns-clause-statuses : goal.returns-clause-statuses
returns-clause-statuses g c = status_is c.in-Ok.answer (known g c)
