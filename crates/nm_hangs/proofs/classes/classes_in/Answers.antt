-- The classes with a number, if they are there.
use Rattle.std.proofs.Common.{ℕ, [], List, length, Option, ◌∙◌, ap, arith, sym}
use Rattle.std.specs.Prelude.{unwrap_or}
use Rattle.std.proofs.lemmas.Option.{slice_get_past}
use Rattle.nm_explored.proofs.RestedLemmas.{state_there}
use Rattle.nm_hangs.proofs.classes.classes_in.Goals as goal

pub returns-in-Some : goal.returns-in-Some
returns-in-Some c =
    c.as_slice-in-Some.ensures
    ∙ sym (ap (λ (o : Option (List ℕ)). unwrap_or o [])
    (state_there c.as_slice.result.now c.args.met.now c.args.number c.in-Some.state.now c.as_slice.ensures
    c.in-Some.ensures.lookup.3.0 c.in-Some.ensures.lookup.3.1))

pub returns-in-None : goal.returns-in-None
returns-in-None c =
    let past = c.in-None.ensures.lookup.3 in
    let long = ap (λ (ss : List (List ℕ)). length ss) c.as_slice.ensures in
    sym (ap (λ (o : Option (List ℕ)). unwrap_or o [])
    (slice_get_past c.args.met.now c.args.number (omega (arith, past, long))))
