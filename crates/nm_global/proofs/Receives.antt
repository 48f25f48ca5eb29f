-- Which receive took a message, and which receives were started, after more events.
use Rattle.std.proofs.Common.{◌≡◌, ℕ, ◌+◌, false, Option, Some, None, List, ◌++◌, length, refl, sym, ◌∙◌}
use Rattle.std.proofs.Common.{ap, length-append}
use Rattle.std.specs.Option.{option_map_or, option_or}
use Rattle.std.specs.List.{find}
use Rattle.std.proofs.lemmas.List.Elements.{filter_map-append}
use Rattle.std.proofs.lemmas.List.Folds.{find-append}
use Rattle.nm_types.specs.declared.messages.Arrival.{Arrival}
use Rattle.nm_history.specs.declared.events.Event.{Event}
use Rattle.nm_history.specs.declared.plain.Pair.{Pair}
use Rattle.nm_history.specs.Completion.{pair_of_receive}
use Rattle.nm_history.specs.Matching.{is_of_message, is_of_receive, matched_pairs}
use Rattle.nm_history.specs.Sends.{receive_of, receives}
use Rattle.nm_history.proofs.MatchingLemmas.{matched_pairs-append}
use Rattle.nm_global.specs.Logged.{IsNotOf, IsUngiven}
use Rattle.nm_types.proofs.ListLemmas.{all_along}

-- a receive that did not take a message had not taken it before
not_before : (h more : List Event) (a : Arrival) (number : ℕ) → IsNotOf (h ++ more) a number →
    IsNotOf h a number
not_before h more a number not_of =
    let later = matched_pairs-append h more in
    let found : pair_of_receive (h ++ more) number
    ≡ option_or (pair_of_receive h number) (find (is_of_receive number) later.0) =
    ap (λ (pairs : List Pair). find (is_of_receive number) pairs) later.1
    ∙ find-append (is_of_receive number) (matched_pairs h) later.0 in
    by_pair (pair_of_receive h number) (find (is_of_receive number) later.0)
    (ap (λ (o : Option Pair). option_map_or (is_of_message a.env.from a.n) o false) (sym found)
    ∙ not_of)
  where
    by_pair : (o rest : Option Pair) →
        option_map_or (is_of_message a.env.from a.n) (option_or o rest) false ≡ false →
        option_map_or (is_of_message a.env.from a.n) o false ≡ false
    by_pair None rest not_of = refl
    by_pair (Some pair) rest not_of = not_of

pub ungiven_before : (h h' more : List Event) (given : List ℕ) (a : Arrival) → h' ≡ h ++ more →
    IsUngiven h' given a → IsUngiven h given a
ungiven_before h h' more given a grown =
    all_along (IsNotOf h' a) (IsNotOf h a) given (λ number not_of.
    not_before h more a number
    (ap (λ (k : List Event). option_map_or (is_of_message a.env.from a.n) (pair_of_receive k number) false)
    (sym grown) ∙ not_of))

pub receives-append : (h more : List Event) → receives (h ++ more) ≡ receives h ++ receives more
receives-append h more = filter_map-append (λ (e : Event). receive_of e.what) h more

pub receives_grow : (h h' more : List Event) → h' ≡ h ++ more →
    length (receives h') ≡ length (receives h) + length (receives more)
receives_grow h h' more grown =
    ap (λ (k : List Event). length (receives k)) grown
    ∙ ap (λ (ns : List ℕ). length ns) (receives-append h more)
    ∙ length-append (receives h) (receives more)
