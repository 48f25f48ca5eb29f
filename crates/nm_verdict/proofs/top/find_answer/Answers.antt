-- What was read is judged.
use Rattle.std.proofs.Common.{◌≡◌, ℕ, List, Some, refl, sym, ◌∙◌, ap, subst}
use Rattle.nm_script.specs.declared.command_line.CommandLine.{CommandLine}
use Rattle.nm_shell.specs.Inputs.{IsInput}
use Rattle.nm_breaks.specs.Found.{IsFound}
use Rattle.nm_verdict.specs.Quotes.{quotes_of}
use Rattle.nm_verdict.proofs.EndLemmas.{found_of, quotes_read}
use Rattle.nm_outside.proofs.ReadingLemmas.{left_at}
use Rattle.nm_verdict.proofs.top.find_answer.Goals as goal

one_line : (a b : CommandLine) → Some a ≡ Some b → b ≡ a
one_line a b same =
    let is : a ≡ b = cc in
    sym is

pub returns-in_ok-quotes-in-Ok-clause-answer : goal.returns-in_ok-quotes-in-Ok-clause-answer
returns-in_ok-quotes-in-Ok-clause-answer g c =
    let line = c.in-Some.line in
    let found = c.in_ok-found-in-Ok.found in
    let is = c.deref.ensures.value in (
      line,
      record {
        asked = c.in-Some.ensures.asked;
        only = λ other asked. one_line line other (c.in-Some.ensures.only other asked);
      },
      found_of line (g.S.Source.left c.args.source.now) c.in-Ok.bytes.items found c.in-Ok.ensures.bytes
          (subst (λ b. IsFound line.cells line.eager b found) is c.in_ok-found-in-Ok.ensures.found)
          (λ traced. c.in_ok-found-in-Ok.ensures.holds traced.front traced.rest traced.ranks traced.lines traced.run
          (subst (λ bytes. IsInput bytes traced.front traced.rest) (sym is) traced.input) traced.script traced.trace
          traced.lawful),
      quotes_read (g.S.Source.left c.args.source.now) c.in-Ok.bytes.items found c.in_ok-quotes-in-Ok.quotes
          c.in-Ok.ensures.bytes
          (c.in_ok-quotes-in-Ok.ensures ∙ ap (λ (b : List ℕ). quotes_of b found) c.deref-in-Ok.ensures.value),
    )

pub returns-in_ok-quotes-in-Ok-clause-read : goal.returns-in_ok-quotes-in-Ok-clause-read
returns-in_ok-quotes-in-Ok-clause-read g c = record {
  quiet = λ was. c.in-Ok.ensures.quiet (λ failed. cc);
  whole = λ was asked. left_at 67108865 (g.S.Source.left c.args.source.now) _ c.in-Ok.bytes.items
      c.in-Ok.ensures.bytes c.in-Ok.ensures.rest;
}

pub returns-in_default-clause-read : goal.returns-in_default-clause-read
returns-in_default-clause-read g c = record {
  quiet = λ was. refl;
  whole = λ was asked. absurd (c.in_default.ensures.asked asked.0 asked.1);
}
