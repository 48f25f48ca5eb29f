use Rattle.std.proofs.Common.{List, length, arith, ◌∙◌, ap, subst}
use Rattle.std.specs.Prelude.{MatchOption}
use Rattle.std.proofs.lemmas.List.{take_all}
use Rattle.nm_history.specs.declared.events.Event.{Event}
use Rattle.nm_history.specs.RankRun.{IsRankRun, last_stamp}
use Rattle.nm_check_rank.specs.OwnBreaks.{IsBreach, KeepsAll}
use Rattle.nm_check_rank.specs.Runs.{commands_in}
use Rattle.nm_check_rank.proofs.paired.judging.breach_behind.Goals as goal

pub wrong_number-requires : goal.wrong_number-requires
wrong_number-requires c =
    let h = c.args.run.now.events.now in
    record {
      inside = c.if-right-count.true;
      last = c.requires.so_far.stamp
          ∙ ap (λ (g : List Event). last_stamp g) (take_all (length h) h (omega arith) ∙ c.requires.run.front);
      broken = c.requires.run.wrong c.if-right-count.true;
    }

pub returns-then-right-count : goal.returns-then-right-count
returns-then-right-count c =
    let run = c.args.run.now in
    c.wrong_number.ensures (commands_in run) c.args.at
    (subst (λ (g : List Event). KeepsAll run.shape (commands_in run) g) c.requires.run.front c.requires.kept)

pub returns : goal.returns
returns c =
    let run = c.args.run.now in
    let commands = commands_in run in
    let h = run.events.now in
    subst (λ (g : List Event). MatchOption c.left_in_the_end.result (IsRankRun run.shape commands c.args.at g)
    (IsBreach run.shape commands c.args.at g))
    (c.requires.run.front ∙ take_all (length h) run.all.now c.if-right-count.false)
    (c.left_in_the_end.ensures run.shape commands h c.requires.so_far c.requires.kept)
