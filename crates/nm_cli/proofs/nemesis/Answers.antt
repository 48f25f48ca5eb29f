-- How the program ends, clause by clause.
use Rattle.std.proofs.Common.{arith, ◌≡◌, ◌⊎◌, inl, inr, map, refl, string_bytes, sym, subst}
use Rattle.nm_outside.specs.Told.{Rose}
use Rattle.nm_cli.specs.Answers.{status_of, text_of}
use Rattle.nm_cli.specs.Done.{Ending, Ends}
use Rattle.nm_shell.specs.Done.{IsSaid}
use Rattle.nm_cli.proofs.EndLemmas.{not_memory, status_is, unread_is, unwritten_is}
use Rattle.nm_cli.proofs.RunEnds.{reported_is}
use Rattle.nm_cli.proofs.nemesis.Goals as goal
use Rattle.nm_cli.proofs.nemesis.Goals.{After-drop-due}
use Rattle.nm_cli.proofs.nemesis.Given.{Over}

pub returns-in_default-clause-done : goal.returns-in_default-clause-done
returns-in_default-clause-done g c =
    let nothing = c.hand_out_nothing.ensures in
    inl (record {
      memory = nothing.0;
      unsaid = refl;
      no_run = nothing.1;
      no_ways = nothing.2;
      no_log = nothing.3;
    })

pub returns-in_default-text-clause-done : goal.returns-in_default-text-clause-done
returns-in_default-text-clause-done g c =
    let nothing = c.hand_out_nothing-in_default-text.ensures in
    inl (record {
      memory = nothing.0;
      unsaid = refl;
      no_run = nothing.1;
      no_ways = nothing.2;
      no_log = nothing.3;
    })

pub returns-in_default-text-clause-reported : goal.returns-in_default-text-clause-reported
returns-in_default-text-clause-reported g c (inl zero) =
    absurd (omega (arith, zero, c.hand_out_nothing-in_default-text.ensures.0))
returns-in_default-text-clause-reported g c (inr one) =
    absurd (omega (arith, one, c.hand_out_nothing-in_default-text.ensures.0))

-- what is seen where all was written, or the sink failed
abbrev seen : (g : Over) → After-drop-due g → Ending
seen g c =
    record {
      words = map string_bytes c.args.words.now;
      input = g.S.Source.left c.args.source.now;
      left = g.S.Source.left c.find_answer.new.source;
      read_old = g.S.Source.faults c.args.source.now;
      read_new = g.S.Source.faults c.find_answer.new.source;
      before = g.K.Sink.taken c.args.sink.now;
      after = g.K.Sink.taken c.deliver-status.new.sink;
      write_old = g.K.Sink.faults c.args.sink.now;
      write_new = g.K.Sink.faults c.deliver-status.new.sink;
      status = c.hand_out.result.status;
      run = c.hand_out.result.run;
      closed = c.hand_out.result.closed;
      log = c.hand_out.result.log;
    }

-- and what is known of it
known : (g : Over) (c : After-drop-due g) → Ends (seen g c) c.in-Ok.answer
known g c =
    record {
      right = c.in-Ok.ensures.answer;
      read = c.in-Ok.ensures.read;
      said = subst (λ status. IsSaid (text_of c.in-Ok.answer) (status_of c.in-Ok.answer) status
          (g.K.Sink.taken c.args.sink.now) (g.K.Sink.taken c.deliver-status.new.sink)
          (Rose (g.K.Sink.faults c.args.sink.now) (g.K.Sink.faults c.deliver-status.new.sink)))
          (sym c.hand_out.ensures.status)
          (rw (c.deref.ensures.value, c.in-Ok-text.ensures, c.status.ensures) at c.deliver-status.ensures.said);
      run_given = c.hand_out.ensures.run;
      ways_given = c.hand_out.ensures.ways;
      log_given = c.hand_out.ensures.log;
    }

pub returns-clause-reported : goal.returns-clause-reported
returns-clause-reported g c = reported_is (seen g c) c.in-Ok.answer (known g c)

pub returns-clause-done : goal.returns-clause-done
returns-clause-done g c = inr (c.in-Ok.answer, known g c)

pub returns-clause-quiet_sink : goal.returns-clause-quiet_sink
returns-clause-quiet_sink g c =
    subst (λ status. (status ≡ 5)
    ⊎ (g.K.Sink.faults c.deliver-status.new.sink ≡ g.K.Sink.faults c.args.sink.now))
    (sym c.hand_out.ensures.status) c.deliver-status.ensures.quiet

pub returns-clause-unread : goal.returns-clause-unread
returns-clause-unread g c = unread_is (seen g c) c.in-Ok.answer (known g c)

pub returns-clause-unwritten : goal.returns-clause-unwritten
returns-clause-unwritten g c = unwritten_is (seen g c) c.in-Ok.answer (known g c)

pub returns-clause-memory : goal.returns-clause-memory
returns-clause-memory g c six = absurd (not_memory (seen g c) c.in-Ok.answer (known g c) six)

pub returns-clause-statuses : goal.returns-clause-statuses
returns-clause-statuses g c = status_is (seen g c) c.in-Ok.answer (known g c)
