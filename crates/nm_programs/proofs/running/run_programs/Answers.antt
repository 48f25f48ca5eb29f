-- From the sources at rest to a run of programs.
use Rattle.std.proofs.Common.{ℕ, map, subst, ◌∙◌, arith}
use Rattle.std.specs.List.{All, AllZip}
use Rattle.std.proofs.lemmas.Slice.Zip.{AllZip-long}
use Rattle.nm_process.specs.Playing.{GivenView, gives_on, shown_by}
use Rattle.nm_report.specs.Ends.{ends_of}
use Rattle.nm_world.specs.Players.{BeginsAt, GoesOn}
use Rattle.nm_programs.specs.HasRun.{IsStopped, commands_in}
use Rattle.nm_programs.specs.Turns.{BeginsWith}
use Rattle.nm_programs.proofs.StopLemmas.{passed_on}
use Rattle.nm_programs.proofs.TurnLemmas.{all_begin, all_given, all_in_range, given_at, given_in_range, programs_of, stopped_by}
use Rattle.nm_programs.proofs.running.run_programs.Goals as goal

pub run_sources-requires-clause-many : goal.run_sources-requires-clause-many
run_sources-requires-clause-many g c lifetimes outlive =
    AllZip-long (BeginsWith c.ranks.result) c.args.programs.items c.in_ok-begun.begun.items c.in_ok-begun.ensures.begins
    ∙ c.requires.many

pub run_sources-requires-clause-begins : goal.run_sources-requires-clause-begins
run_sources-requires-clause-begins g c lifetimes outlive =
    subst (λ (n : ℕ). All (BeginsAt shown_by gives_on n) c.in_ok-begun.begun.items) c.ranks.ensures.value
    (all_begin c.ranks.result c.args.programs.items c.in_ok-begun.begun.items c.in_ok-begun.ensures.begins)

pub finish-requires : goal.finish-requires
finish-requires g c =
    let start = AllZip-long (BeginsWith c.ranks.result) c.args.programs.items c.in_ok-begun.begun.items
    c.in_ok-begun.ensures.begins in
    let on = AllZip-long (GoesOn shown_by gives_on) c.in_ok-begun.begun.items c.in_ok-left.left.sources.items
    c.in_ok-left.ensures.goes_on in
    let many = c.requires.many in
    let few = c.ranks.ensures.in_range.few_ranks in
    record { few = omega (arith, start, on, many, few) }

pub returns-clause-run : goal.returns-clause-run
returns-clause-run g c =
    let says = g.P.Program.says in
    let begun = c.in_ok-begun.begun.items in
    let left = c.in_ok-left.left in
    let finished = c.in_ok-finished.finished.items in
    let given = map (λ (s : GivenView _). s.given) left.sources.items in
    let begins = subst (λ (n : ℕ). AllZip (BeginsWith n) c.args.programs.items begun) c.ranks.ensures.value
    c.in_ok-begun.ensures.begins in
    let on = c.in_ok-left.ensures.goes_on in
    let rest = c.in_ok-finished.ensures.left in
    let in_range = given_in_range says c.args.shape.ranks c.args.programs.items begun left.sources.items finished begins on
    rest in
    record {
      given = given;
      each = programs_of says c.args.shape.ranks c.args.programs.items begun left.sources.items (ends_of left.record.ranks)
          finished begins on c.in_ok-left.ensures.stopped rest;
      in_range = in_range;
      whole = c.in_ok-left.ensures.run (commands_in given) (all_in_range c.args.shape.ranks given in_range)
          (all_given (commands_in given) 0 left.sources.items (given_at left.sources.items));
    }

pub returns-in_err-finished-clause-stopped : goal.returns-in_err-finished-clause-stopped
returns-in_err-finished-clause-stopped g c =
    let says = g.P.Program.says in
    let ranks = c.args.shape.ranks in
    let programs = c.args.programs.items in
    let begun = c.in_ok-begun.begun.items in
    let why = (c.in_err-finished.field-0).0 in
    let begins = subst (λ (n : ℕ). AllZip (BeginsWith n) programs begun) c.ranks.ensures.value
    c.in_ok-begun.ensures.begins in
    passed_on c.from_residual-in_err-finished.result why (IsStopped says ranks programs)
    c.from_residual-in_err-finished.ensures.1
    (stopped_by says ranks programs begun c.in_ok-left.left.sources.items why begins c.in_ok-left.ensures.goes_on
    c.in_err-finished.ensures.stray)
