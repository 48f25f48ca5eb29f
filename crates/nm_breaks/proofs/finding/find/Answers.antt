use Rattle.std.proofs.Common.{◌≡◌, ℕ, List, sym, subst}
use Rattle.nm_script.specs.Spelled.{IsTextOf}
use Rattle.nm_trace.specs.Traces.{IsTraceOf}
use Rattle.nm_check.specs.Trials.{sizes}
use Rattle.nm_shell.proofs.PartLemmas.{no_input}
use Rattle.nm_breaks.proofs.finding.find.Goals as goal

pub returns-in-None-clause-holds : goal.returns-in-None-clause-holds
returns-in-None-clause-holds c = λ front rest ranks lines run input text trace lawful.
    absurd (no_input c.args.bytes.now front rest c.in-None.ensures input)

pub returns-in-Some-clause-holds : goal.returns-in-Some-clause-holds
returns-in-Some-clause-holds c = λ front rest ranks lines run input text trace lawful.
    let same : (c.in-Some.front.now ≡ front) × (c.in-Some.rest.now ≡ rest) = input.cut.only c.in-Some.front.now
    c.in-Some.rest.now c.in-Some.ensures.cut.cut in
    c.find_in_script.ensures.holds ranks lines run (subst (λ (x : List ℕ). IsTextOf x ranks lines) (sym same.0) text)
    (subst (λ (x : List ℕ). IsTraceOf (sizes c.args.cells c.args.eager ranks) x run) (sym same.1) trace) lawful
