-- Words that are taken are read as what they ask for.
use Rattle.std.proofs.Common.{◌≡◌, None, Some, string_bytes, map, ap, sym, ◌∙◌}
use Rattle.nm_outcomes_top.specs.OptionWords.{as_run}
use Rattle.nm_outcomes_top.proofs.WordLemmas.{options_taken, parts}
use Rattle.nm_outcomes_top.proofs.words.read_sizes.Goals as goal

pub returns-in-Some-read-clause-takes : goal.returns-in-Some-read-clause-takes
returns-in-Some-read-clause-takes c line taken asks =
    let split = c.in-Some.ensures.cases.0 in
    let p = parts string_bytes c.args.words.now c.in-Some.options.now c.in-Some.last.now line split taken in
    let number : Some c.in-Some-number_of_states.states ≡ Some line.states =
    c.in-Some-number_of_states.ensures.finds line.states (c.as_bytes.ensures.value ∙ p.1) taken.some_state
    taken.few_states in
    let states : c.in-Some-number_of_states.states ≡ line.states = cc in
    let read : Some c.in-Some-read.line ≡ Some (as_run line) =
    c.in-Some-read.ensures.takes (as_run line)
    (options_taken string_bytes c.args.words.now c.in-Some.options.now c.in-Some.last.now _ line c.args.question split
    (ap (map string_bytes) c.deref.ensures.value ∙ c.in_ok-words.ensures) asks taken) in
    let same : c.in-Some-read.line ≡ as_run line = cc in
    c.with_states.ensures.asks line same (sym states) asks

pub returns-clause-takes : goal.returns-clause-takes
returns-clause-takes c line taken asks =
    let split = c.in-Some.ensures.cases.0 in
    let read : None ≡ Some (as_run line) =
    c.in-None.ensures.takes (as_run line)
    (options_taken string_bytes c.args.words.now c.in-Some.options.now c.in-Some.last.now _ line c.args.question split
    (ap (map string_bytes) c.deref.ensures.value ∙ c.in_ok-words.ensures) asks taken) in
    cc
