-- Words that are not taken, and those that are.
use Rattle.std.proofs.Common.{◌≡◌, None, Some, sym, refl, map, string_bytes, subst}
use Rattle.std.proofs.lemmas.Result.{IfOk-weaker}
use Rattle.nm_outside.specs.Told.{LosesAtMost}
use Rattle.nm_script.specs.declared.command_line.CommandLine.{CommandLine}
use Rattle.nm_cli.specs.Scripts.{ReadsSource, limit_of}
use Rattle.nm_cli.proofs.RunLemmas.{line_answered, read_for}
use Rattle.nm_cli.proofs.finding.find_answer.Goals as goal

no_line : (line : CommandLine) → None ≡ Some line → ⊥
no_line line h = cc

pub returns-in_default-clause-answer : goal.returns-in_default-clause-answer
returns-in_default-clause-answer g c line taken = no_line line (c.in_default.ensures.takes line taken)

pub returns-in_default-clause-taken : goal.returns-in_default-clause-taken
returns-in_default-clause-taken g c = record {
  not_taken = λ none. refl;
  made = λ line taken unread. absurd (no_line line (c.in_default.ensures.takes line taken));
  most = λ line taken. absurd (no_line line (c.in_default.ensures.takes line taken));
}

pub returns-in_default-clause-read : goal.returns-in_default-clause-read
returns-in_default-clause-read g c = record {
  quiet = λ was. refl;
  whole = λ was line taken reads. absurd (no_line line (c.in_default.ensures.takes line taken));
}

-- what was asked for is one thing
line_is : (a line : CommandLine) → Some a ≡ Some line → line ≡ a
line_is a line same =
    let is : a ≡ line = cc in
    sym is

pub returns-clause-answer : goal.returns-clause-answer
returns-clause-answer g c =
    IfOk-weaker c.answer_line.result _ _
    (line_answered (map string_bytes c.args.words.now) c.in-Some.line c.in-Some.ensures.taken
    (λ line taken. line_is c.in-Some.line line (c.in-Some.ensures.takes line taken))
    (g.S.Source.left c.args.source.now) _ _)
    c.answer_line.ensures.answer

pub returns-clause-taken : goal.returns-clause-taken
returns-clause-taken g c = record {
  not_taken = λ none. absurd (none c.in-Some.line c.in-Some.ensures.taken);
  made = λ line taken unread.
      let same = line_is c.in-Some.line line (c.in-Some.ensures.takes line taken) in
      c.answer_line.ensures.untouched (λ reads. unread (subst (λ l. ReadsSource l.mode) (sym same) reads));
  most = λ line taken.
      let same = line_is c.in-Some.line line (c.in-Some.ensures.takes line taken) in
      subst (λ l. LosesAtMost (limit_of l.mode) (g.S.Source.left c.args.source.now)
      (g.S.Source.left c.answer_line.new.source)) (sym same) c.answer_line.ensures.taken;
}

pub returns-clause-read : goal.returns-clause-read
returns-clause-read g c =
    IfOk-weaker c.answer_line.result _ _
    (read_for (map string_bytes c.args.words.now) c.in-Some.line
    (λ line taken. line_is c.in-Some.line line (c.in-Some.ensures.takes line taken))
    (g.S.Source.left c.args.source.now) (g.S.Source.left c.answer_line.new.source) _ _)
    c.answer_line.ensures.read
