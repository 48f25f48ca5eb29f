-- The states with a number, if they are there.
use Rattle.std.proofs.Common.{◌≡◌, ℕ, [], List, length, Option, ◌∙◌, ap, arith, sym}
use Rattle.std.specs.Prelude.{unwrap_or}
use Rattle.std.proofs.lemmas.Option.{slice_get_past}
use Rattle.nm_explored.specs.Stores.{Store}
use Rattle.nm_explored.proofs.RestedLemmas.{state_there}
use Rattle.nm_explored.proofs.searches.Search.ids_of.Goals as goal

pub returns-in-Some : goal.returns-in-Some
returns-in-Some c =
    let states : c.as_slice.result.now ≡ c.args.self.now.states =
    c.as_slice.ensures ∙ ap (λ (s : Store). s.states) c.self.view_is in
    c.as_slice-in-Some.ensures
    ∙ sym (ap (λ (o : Option (List ℕ)). unwrap_or o [])
    (state_there c.as_slice.result.now c.args.self.now.states c.args.k c.in-Some.state.now states
    c.in-Some.ensures.lookup.3.0 c.in-Some.ensures.lookup.3.1))

pub returns-in-None : goal.returns-in-None
returns-in-None c =
    let states : c.as_slice.result.now ≡ c.args.self.now.states =
    c.as_slice.ensures ∙ ap (λ (s : Store). s.states) c.self.view_is in
    let past = c.in-None.ensures.lookup.3 in
    let long = ap (λ (ss : List (List ℕ)). length ss) states in
    sym (ap (λ (o : Option (List ℕ)). unwrap_or o [])
    (slice_get_past c.args.self.now.states c.args.k (omega (arith, past, long))))
