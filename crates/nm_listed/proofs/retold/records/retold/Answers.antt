-- The log of a way to rest is that of a run, and its record can be counted.
use Rattle.std.proofs.Common.{◌≡◌, ℕ, List, sym, subst}
use Rattle.nm_types.specs.declared.scripts.Line.{Line}
use Rattle.nm_types.specs.Limits.{IsScript}
use Rattle.nm_report.specs.Lawful.{IsRunIn}
use Rattle.nm_report.specs.Told.{told_of}
use Rattle.std.specs.List.{slice_get}
use Rattle.nm_explored.specs.Ends.{AreShort, all_told}
use Rattle.nm_explored.proofs.TellLemmas.{ok_weaker, script_short}
use Rattle.nm_listed.specs.Records.{IsCountable, IsRecordOf}
use Rattle.nm_listed.specs.Tellings.{Telling, finished, told_way}
use Rattle.nm_listed.proofs.RecordLemmas.{told_all}
use Rattle.nm_listed.proofs.retold.records.retold.Goals as goal
use Rattle.nm_listed.proofs.retold.records.retold.Goals.{In_ok-finish}

pub of-requires : goal.of-requires
of-requires c =
    subst (λ (ls : List Line). AreShort ls) (sym c.as_slice-lines.ensures)
    (script_short c.args.script.now.ranks c.args.script.now.lines c.args.script.now.limits)

-- the log is that of the way
all : (c : In_ok-finish) →
    c.finish.new.self
    ≡ finished c.args.shape.ranks (told_way c.args.script.now.lines c.args.shape.ranks c.args.path.now)
all c =
    told_all c.args.shape c.args.script.now.lines c.as_slice-lines.result.now c.args.path.now c.in_ok-telling.telling
    c.finish.new.self c.ranks.result c.ranks-2.result c.as_slice-lines.ensures c.ranks.ensures.value
    c.ranks-2.ensures.value c.in_ok-telling.ensures c.in_ok-finish.ensures

script : (c : In_ok-finish) → IsScript c.args.shape.ranks c.args.script.now.lines
script c =
    subst (λ (n : ℕ). IsScript n c.args.script.now.lines) (sym c.requires.equal) c.args.script.now.limits

pub record_of-requires-clause-countable : goal.record_of-requires-clause-countable
record_of-requires-clause-countable c =
    let at = (goal.at.record_of-requires-clause-countable c).In_ok-finish in
    subst (λ (t : Telling). IsCountable c.args.shape t) (sym (all at))
    (c.records_are_countable.ensures c.args.shape c.args.script.now.lines c.args.path.now c.requires.way.0 (script at)
    c.requires.way.1 c.requires.way.2)

pub returns : goal.returns
returns c = λ state way rest.
    let at = (goal.at.returns c).In_ok-finish in
    ok_weaker (IsRecordOf c.args.shape c.as_slice-lines.result.now c.finish.new.self)
    (λ run. IsRunIn c.args.shape c.args.script.now.lines run
    × (told_of run ≡ all_told c.args.script.now.lines (λ i. slice_get state i) c.args.shape.ranks))
    (λ run is.
    c.records_are_runs.ensures c.args.shape c.args.script.now.lines c.args.path.now state run (script at) way rest
    (subst (λ (t : Telling). IsRecordOf c.args.shape c.args.script.now.lines t run) (all at)
    (subst (λ (ls : List Line). IsRecordOf c.args.shape ls c.finish.new.self run) c.as_slice-lines.ensures is)))
    c.record_of.result c.record_of.ensures
