-- The script's lines are the commands, and the record is by their numbers.
use Rattle.std.proofs.Common.{◌≡◌, ℕ, List, length, sym, subst, ◌∙◌}
use Rattle.std.specs.Prelude.{IfSome}
use Rattle.std.specs.List.{slice_get}
use Rattle.nm_types.specs.declared.scripts.Line.{Line}
use Rattle.nm_report.specs.Ends.{ends_of}
use Rattle.nm_transcript.specs.Orders.{IsNoScript}
use Rattle.nm_transcript.specs.Transcripts.{IsEndOf, numbers_of}
use Rattle.nm_transcript.proofs.LawfulLemmas.{numbers_own, passed_on, transcript_told}
use Rattle.nm_transcript.proofs.transcripts.arrange.Goals as goal

pub returns-in_err-lines-clause-refused : goal.returns-in_err-lines-clause-refused
returns-in_err-lines-clause-refused c =
    passed_on c.from_residual-in_err-lines.result (c.in_err-lines.field-0).0
    (IsNoScript c.args.run.shape.ranks c.args.given.items) c.from_residual-in_err-lines.ensures.1
    (c.in_err-lines.ensures.err c.args.run.shape.ranks)

pub renumber-requires : goal.renumber-requires
renumber-requires c =
    let made = c.in_ok-lines.lines in
    let lines_are : c.as_slice-2.result.now ≡ made = c.as_slice-2.ensures ∙ c.in-Some.ensures.some.1 in
    subst (λ (ls : List Line). (i : ℕ) → IfSome (slice_get (ends_of c.args.run.ranks) i)
    (IsEndOf (length (numbers_of ls i)))) (sym lines_are)
    (numbers_own made c.args.given.items (ends_of c.args.run.ranks) c.in_ok-lines.ensures.ok c.requires.own)

pub returns-clause-ok : goal.returns-clause-ok
returns-clause-ok c =
    let same = c.in_ok-record.ensures.same in
    transcript_told c.args.given.items c.args.run c.in_ok-lines.lines c.in-Some.script.lines c.as_slice-2.result.now
    c.in_ok-record.record c.in_ok-lines.ensures.ok c.in-Some.ensures.some.1 c.as_slice-2.ensures
    c.in_ok-record.ensures.ranks same.0 same.1 same.2 same.3
