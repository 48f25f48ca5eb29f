-- The process stands, and the ports are as they were.
use Rattle.std.proofs.Common.{◌≡◌, ◌<◌, ◌+◌, ℕ, true, false, Option, Some, None, List, refl, sym, ap, subst, ◌∙◌, arith}
use Rattle.std.specs.Prelude.{◌++◌, IsSome, option_map, option_to_list}
use Rattle.nm_history.specs.declared.events.Event.{Event}
use Rattle.nm_history.specs.RankRun.{ran_lines}
use Rattle.nm_history.specs.Totals.{answers_given}
use Rattle.nm_process.specs.LastAnswer.{last_answer}
use Rattle.nm_world.specs.Looks.{RanNext}
use Rattle.nm_world.proofs.Looks.{ran_one}
use Rattle.nm_world.proofs.Told.{hears_more, one_more_given, told_more}
use Rattle.std.specs.List.{slice_get}
use Rattle.std.specs.Option.{option_map_or}
use Rattle.nm_types.specs.declared.answers.Answer.{Answer}
use Rattle.nm_types.specs.declared.scripts.Command.{Command}
use Rattle.nm_types.specs.Commands.{Numbered}
use Rattle.nm_types.specs.Limits.{is_in_range}
use Rattle.nm_history.specs.Answers.{can_go_on}
use Rattle.nm_process.specs.declared.steps.Step.{Step}
use Rattle.nm_process.specs.Processes.{ProcessView}
use Rattle.nm_process.specs.Steps.{HasStepped}
use Rattle.nm_process.specs.Work.{IsNext}
use Rattle.nm_process.proofs.NextLemmas.{next_goes_on}
use Rattle.nm_process.proofs.WorkLemmas.{bound_more}
use Rattle.nm_world.specs.Actors.{ActorInvariant, did}
use Rattle.nm_world.specs.Players.{PlaysOn}
use Rattle.nm_world.specs.declared.actors.Actor.{Actor}
use Rattle.nm_world.specs.declared.players.Player.{Player}
use Rattle.nm_world.proofs.Did.{did_more, did_same, ran_on}
use Rattle.nm_world.proofs.Playing.{plays_same}
use Rattle.nm_world.proofs.Results.{clash}
use Rattle.nm_world.proofs.Steps.{run_on, seat_is}
use Rattle.nm_world.proofs.players.Player.run_next.Goals as goal

pub run-requires-clause-in_range : goal.run-requires-clause-in_range
run-requires-clause-in_range g c =
    subst (λ (n : ℕ). is_in_range n c.in-Some.command.now ≡ true) c.requires.1.1.ranks c.in-Some.ensures.in_range

pub run-requires-clause-counted : goal.run-requires-clause-counted
run-requires-clause-counted g c = subst (λ (k : ℕ). k < c.in-Some.line) c.requires.1.1.at c.in-Some.ensures.counted

pub pass-requires : goal.pass-requires
pass-requires g c = record { next = subst (λ (o : Option Command). IsSome o) c.in-Some.ensures.shown refl }

pub returns-in_default : goal.returns-in_default
returns-in_default g c =
    let s = c.requires.1.1 in
    let x = c.args.self.now in
    let v = x.actor.process in
    record {
      kept = plays_same g.S.Source.shows g.S.Source.gives g.here.fabric g.here.rings x s;
      moved = did_same g.here.fabric.ranks x.actor;
      ran = λ e. absurd (clash (sym e));
      next = λ e. absurd (clash (sym e));
      still = λ none. refl;
      stuck = λ none fresh commands last given.
          ap (λ (o : Option Numbered). option_map_or (λ (n : Numbered). can_go_on commands v.rank.events n.command) o
          false) (subst (λ (k : ℕ). slice_get commands k ≡ None) s.at (c.in_default.ensures.next commands last given));
    }

pub returns-in-Waits : goal.returns-in-Waits
returns-in-Waits g c =
    let s = c.requires.1.1 in
    let x = c.args.self.now in
    let a = x.actor in
    let v = c.run.new.self in
    let line = c.in-Some.line in
    let command = c.in-Some.command.now in
    let y : Player _ _ = record x { actor = record a { process = v } } in
    let stepped = subst (λ (y : Step). HasStepped command line a.process v y) c.in-Waits.is
    c.in_ok-run.ensures.stepped in
    let same : y ≡ x = ap (λ (w : ProcessView). record x { actor = record a { process = w } }) stepped in
    let o : Option Command = Some command in
    record {
      kept = subst (λ (z : Player _ _). PlaysOn g.S.Source.shows g.S.Source.gives g.here.fabric g.here.rings x z)
          (sym same)
          (plays_same g.S.Source.shows g.S.Source.gives g.here.fabric g.here.rings x s);
      moved = subst (λ (z : Player _ _). false ≡ did g.here.fabric.ranks a z.actor) (sym same)
          (did_same g.here.fabric.ranks a);
      ran = λ e. absurd (clash (sym e));
      next = λ e. absurd (clash (sym e));
      still = λ none. same;
      stuck = λ none fresh commands last given.
          let next = subst (λ (k : ℕ). IsNext commands k (last + 1) line command) s.at
          (c.in-Some.ensures.next commands last given) in
          sym (next_goes_on a.process.rank.sizes commands (last + 1) a.process o
          (s.stands commands last given).is.work (sym (ap (option_map (λ (n : Numbered). n.command)) next.next)))
          ∙ c.in_ok-run.ensures.waits c.in-Waits.is fresh;
    }

pub returns-in_ok-pass-in-Ran : goal.returns-in_ok-pass-in-Ran
returns-in_ok-pass-in-Ran g c =
    let s = c.requires.1.1 in
    let x = c.args.self.now in
    let a = x.actor in
    let v = c.run.new.self in
    let t = c.pass.new.self in
    let shape = a.process.rank.sizes in
    let line = c.in-Some.line in
    let command = c.in-Some.command.now in
    let gives = g.S.Source.gives in
    let stepped = subst (λ (y : Step). HasStepped command line a.process v y) c.in-Ran.is
    c.in_ok-run.ensures.stepped in
    let b : Actor _ = record a { process = v } in
    let passed = c.in_ok-pass-in-Ran.ensures in
    let in_range = subst (λ (n : ℕ). is_in_range n command ≡ true) s.ranks c.in-Some.ensures.in_range in
    let right = rw c.rank.ensures at c.history.ensures.right in
    let next = λ (commands : List Numbered) (last : ℕ) (given : gives t commands last).
    let before = passed.gives commands last given in
    subst (λ (k : ℕ). IsNext commands k (before.before + 1) line command) s.at
    (c.in-Some.ensures.next commands before.before before.gives) in
    let on = λ (commands : List Numbered) (last : ℕ) (given : gives t commands last).
    let before = passed.gives commands last given in
    let at = s.stands commands before.before before.gives in
    c.a_command_runs.ensures shape commands (before.before + 1) line a.port.rank command a.process v at.past in_range
    right (record { work = at.is.work; rank = at.is.stands }) (next commands last given) stepped in
    let stands : (commands : List Numbered) (last : ℕ) → gives t commands last → ActorInvariant commands last b =
    λ commands last given.
    let before = passed.gives commands last given in
    let at = s.stands commands before.before before.gives in
    let low = before.rises line command (c.in-Some.ensures.next commands before.before before.gives) in
    let ran = c.in_ok-run.ensures.work c.in-Ran.is shape commands (before.before + 1) at.is.work
    (next commands last given) in
    run_on commands before.before last a v at
    (bound_more shape commands (line + 1) (last + 1) v (omega (arith, low)) ran) (on commands last given) in
    let some = passed.some in
    let before = passed.gives some.commands some.last some.some in
    let grown = ran_on g.here.fabric.ranks a b (s.stands some.commands before.before before.gives)
    (on some.commands some.last some.some) refl refl in
    let sizes = c.in_ok-run.ensures.same.1 in
    let at = passed.counted.0 in
    let was = s.at in
    let counts = stepped.at in
    let at_old = s.stands some.commands before.before before.gives in
    let run_is : RanNext some.commands a.process v = record {
      bound = before.before + 1;
      line = line;
      command = command;
      next = next some.commands some.last some.some;
      ran = stepped;
    } in
    let one = ran_one some.commands a.process v at_old.is.work.answers
    (stands some.commands some.last some.some).is.work.answers run_is in
    let events = grown.0.events in
    let more : answers_given v.rank.events ≡ answers_given a.process.rank.events
    ++ option_to_list (last_answer v.rank.events) =
    subst (λ (h : List Event). answers_given h ≡ answers_given a.process.rank.events ++ option_to_list (last_answer h))
    (sym events.1) (one_more_given a.process.rank.events events.0 line
    (ap (λ (h : List Event). ran_lines h) (sym events.1) ∙ one)
    (subst (λ (h : List Event). IsSome (last_answer h)) events.1 (c.in_ok-run.ensures.answered c.in-Ran.is))) in
    record {
      ran = λ e. c.in_ok-run.ensures.fresh c.in-Ran.is;
      next = λ e commands last given. record {
        bound = (passed.gives commands last given).before + 1;
        line = line;
        command = command;
        next = next commands last given;
        ran = stepped;
      };
      still = λ none. absurd (clash none);
      stuck = λ none fresh. absurd (clash none);
      moved = did_more g.here.fabric.ranks a b grown.0 grown.1;
      kept = record {
        stands = record {
          ports = record {
            some = record {
              commands = some.commands;
              last = some.last;
              stands = stands some.commands some.last some.some;
            };
            cells = s.ports.cells;
            rings = s.ports.rings;
            rank = s.ports.rank;
            ranks = (
              s.ports.ranks.0 ∙ sym (ap (λ z. z.ranks) sizes),
              s.ports.ranks.1 ∙ sym (ap (λ z. z.ranks) sizes),
            );
            hands = s.ports.hands;
            rest = s.ports.rest;
          };
          at = omega (arith, at, was, counts);
          ranks = passed.counted.1 ∙ s.ranks ∙ sym (ap (λ z. z.ranks) sizes);
          told = told_more _ _ c.in-Some-last_answer.answer.now (answers_given a.process.rank.events)
              (answers_given v.rank.events) passed.told s.told
              (more
              ∙ ap (λ (o : Option Answer). answers_given a.process.rank.events ++ option_to_list o)
              (sym c.last_answer.ensures)
              ∙ ap (λ (o : Option _). answers_given a.process.rank.events ++ option_to_list (option_map (λ x. x.now) o))
              c.in-Some-last_answer.is);
          stands = stands;
        };
        seat = seat_is a v a.port.rank refl sizes;
        grows = grown.0;
        source = record {
          gave = λ commands last given.
              let before = passed.gives commands last given in
              record { before = before.before; gives = before.gives };
          begun = passed.begun;
          ranks = passed.counted.1;
          hears = hears_more _ _ _ passed.told;
        };
      };
    }
