-- What was asked for is done, and a flood and several threads need no source.
use Rattle.std.proofs.lemmas.Result.{IfOk-weaker}
use Rattle.nm_script.specs.declared.command_line.Mode.TheVariants.{Flood, Multi}
use Rattle.nm_cli.proofs.RunLemmas.{flood_answered, log_answered, log_told, loses_none, told, unread_source}
use Rattle.nm_cli.proofs.finding.answer_line.Goals as goal

pub returns-in-Flood-clause-answer : goal.returns-in-Flood-clause-answer
returns-in-Flood-clause-answer g c =
    let flood = c.in-Flood in
    IfOk-weaker c.run_flood.result _ _
    (flood_answered c.args.line.now (g.S.Source.left c.args.source.now) _ _ flood.key flood.ranks flood.messages
    flood.is)
    c.run_flood.ensures

pub returns-in-Flood-clause-told : goal.returns-in-Flood-clause-told
returns-in-Flood-clause-told g c =
    IfOk-weaker c.run_flood.result _ _ (told c.args.line.now c.in-Flood.ranks _) c.run_flood.ensures

pub returns-in-Flood-clause-taken : goal.returns-in-Flood-clause-taken
returns-in-Flood-clause-taken g c = loses_none _ (g.S.Source.left c.args.source.now)

pub returns-in-Flood-clause-read : goal.returns-in-Flood-clause-read
returns-in-Flood-clause-read g c =
    let flood = c.in-Flood in
    IfOk-weaker c.run_flood.result _ _
    (λ a h. unread_source c.args.line.now (Flood flood.key flood.ranks flood.messages) a flood.is (λ r. r))
    c.run_flood.ensures

pub returns-in-Multi-clause-answer : goal.returns-in-Multi-clause-answer
returns-in-Multi-clause-answer g c =
    IfOk-weaker c.run_threads.result _ _
    (log_answered c.args.line.now (g.S.Source.left c.args.source.now) _ _ c.in-Multi.threads c.in-Multi.rounds
    c.in-Multi.is)
    c.run_threads.ensures

pub returns-in-Multi-clause-told : goal.returns-in-Multi-clause-told
returns-in-Multi-clause-told g c =
    IfOk-weaker c.run_threads.result _ _ (log_told c.in-Multi.threads c.in-Multi.rounds) c.run_threads.ensures

pub returns-in-Multi-clause-taken : goal.returns-in-Multi-clause-taken
returns-in-Multi-clause-taken g c = loses_none _ (g.S.Source.left c.args.source.now)

pub returns-in-Multi-clause-read : goal.returns-in-Multi-clause-read
returns-in-Multi-clause-read g c =
    IfOk-weaker c.run_threads.result _ _
    (λ a h. unread_source c.args.line.now (Multi c.in-Multi.threads c.in-Multi.rounds) a c.in-Multi.is (λ r. r))
    c.run_threads.ensures
