-- The record is of a run of the script.
use Rattle.std.proofs.lemmas.Result.{IfOk-weaker}
use Rattle.nm_report.specs.Lawful.{IsRunIn}
use Rattle.nm_transcript.specs.Transcripts.{IsTranscript}
use Rattle.nm_transcript.proofs.LawfulLemmas.{all_own, lawful_told}
use Rattle.nm_transcript.proofs.transcripts.transcribe.Goals as goal

pub arrange-requires-clause-many : goal.arrange-requires-clause-many
arrange-requires-clause-many c = c.requires.many

pub arrange-requires-clause-own : goal.arrange-requires-clause-own
arrange-requires-clause-own c = all_own c.args.given.items c.args.run c.requires

pub returns-clause-lawful : goal.returns-clause-lawful
returns-clause-lawful c =
    IfOk-weaker c.arrange.result (λ x. IsTranscript c.args.given.items c.args.run x.script.lines x.record)
    (λ x. IsRunIn c.args.run.shape x.script.lines x.record)
    (λ x is. lawful_told c.args.given.items c.args.run x.script.lines x.record is c.requires) c.arrange.ensures.ok
