-- What is new was noted.
use Rattle.std.proofs.Common.{◌≡◌, ℕ, ◌∷◌, [], ◌++◌, List, length, ◌∙◌, ap, refl, sym, subst, arith}
use Rattle.nm_search.proofs.ListLemmas.{has_push, keeps_all}
use Rattle.nm_types.proofs.ListLemmas.{place_below}
use Rattle.nm_explored.specs.Stores.{Store}
use Rattle.nm_hangs.specs.Hunts.{AreOpen}
use Rattle.nm_hangs.proofs.HuntLemmas.{longer, near_kept, open_next}
use Rattle.nm_hangs.proofs.hunts.look.Goals as goal

pub push_states-requires-clause-near : goal.push_states-requires-clause-near
push_states-requires-clause-near c =
    near_kept c.args.of.eager c.args.of.ranks c.args.of.lines.now c.args.search.now c.expand_from.new.self
    c.args.classes.now c.args.classes.now c.in_ok-expand_from.ensures.grows (keeps_all c.args.classes.now) c.args.near
    (c.requires.ahead.near c.args.near
    (has_push c.args.ahead.now.items (c.args.ahead.now.items ++ c.args.near ∷ []) c.args.near refl))

pub push_states-requires-clause-made : goal.push_states-requires-clause-made
push_states-requires-clause-made c =
    let near = c.requires.ahead.near c.args.near
    (has_push c.args.ahead.now.items (c.args.ahead.now.items ++ c.args.near ∷ []) c.args.near refl) in
    c.in_ok-expand_from.ensures.made c.requires.short.count c.requires.short.sends c.requires.shown
    (place_below c.args.search.now.states c.args.near.state near.0 near.2) c.requires.made

pub push_states-requires-clause-order : goal.push_states-requires-clause-order
push_states-requires-clause-order c =
    let before : length c.as_slice-before.result.now ≡ length c.args.search.now.states =
    ap (λ (ss : List (List ℕ)). length ss)
    (c.as_slice-before.ensures ∙ ap (λ (s : Store). s.states) c.search.view_is) in
    let after : length c.as_slice-after.result.now ≡ length c.expand_from.new.self.states =
    ap (λ (ss : List (List ℕ)). length ss)
    (c.as_slice-after.ensures ∙ ap (λ (s : Store). s.states) c.search-2.view_is) in
    let more = longer c.args.search.now.states c.expand_from.new.self.states c.in_ok-expand_from.ensures.grows.states in
    omega (arith, before, after, more)

pub push_states-requires-clause-there : goal.push_states-requires-clause-there
push_states-requires-clause-there c =
    let after : length c.as_slice-after.result.now ≡ length c.expand_from.new.self.states =
    ap (λ (ss : List (List ℕ)). length ss)
    (c.as_slice-after.ensures ∙ ap (λ (s : Store). s.states) c.search-2.view_is) in
    omega (arith, after)

pub push_states-requires-clause-ahead : goal.push_states-requires-clause-ahead
push_states-requires-clause-ahead c =
    let before : length c.as_slice-before.result.now ≡ length c.args.search.now.states =
    ap (λ (ss : List (List ℕ)). length ss)
    (c.as_slice-before.ensures ∙ ap (λ (s : Store). s.states) c.search.view_is) in
    subst (λ (n : ℕ). AreOpen c.args.of.eager c.args.of.ranks c.args.of.lines.now c.expand_from.new.self
    c.args.classes.now c.args.ahead.now.items n) (sym before)
    (open_next c.args.of.eager c.args.of.ranks c.args.of.lines.now c.args.search.now c.expand_from.new.self
    c.args.classes.now c.args.ahead.now.items c.args.near c.in_ok-expand_from.ensures.grows c.requires.made
    c.requires.ahead (c.in_ok-expand_from.ensures.expanded c.requires.short.count c.requires.shown c.requires.made)
    c.requires.free)

pub returns-clause-made : goal.returns-clause-made
returns-clause-made c =
    let near = c.requires.ahead.near c.args.near
    (has_push c.args.ahead.now.items (c.args.ahead.now.items ++ c.args.near ∷ []) c.args.near refl) in
    c.in_ok-expand_from.ensures.made c.requires.short.count c.requires.short.sends c.requires.shown
    (place_below c.args.search.now.states c.args.near.state near.0 near.2) c.requires.made

pub returns-clause-back : goal.returns-clause-back
returns-clause-back c =
    let near = c.requires.ahead.near c.args.near
    (has_push c.args.ahead.now.items (c.args.ahead.now.items ++ c.args.near ∷ []) c.args.near refl) in
    c.in_ok-expand_from.ensures.back c.requires.short.count c.requires.short.sends c.requires.shown
    (place_below c.args.search.now.states c.args.near.state near.0 near.2) c.requires.made c.requires.back

pub returns-clause-ahead : goal.returns-clause-ahead
returns-clause-ahead c =
    let after : length c.as_slice-after.result.now ≡ length c.expand_from.new.self.states =
    ap (λ (ss : List (List ℕ)). length ss)
    (c.as_slice-after.ensures ∙ ap (λ (s : Store). s.states) c.search-2.view_is) in
    subst (λ (n : ℕ). AreOpen c.args.of.eager c.args.of.ranks c.args.of.lines.now c.expand_from.new.self
    c.push_states.new.classes c.push_states.new.ahead.items n) after c.in_ok-push_states.ensures.noted

pub returns-clause-count : goal.returns-clause-count
returns-clause-count c =
    let before : length c.as_slice-before.result.now ≡ length c.args.search.now.states =
    ap (λ (ss : List (List ℕ)). length ss)
    (c.as_slice-before.ensures ∙ ap (λ (s : Store). s.states) c.search.view_is) in
    let after : length c.as_slice-after.result.now ≡ length c.expand_from.new.self.states =
    ap (λ (ss : List (List ℕ)). length ss)
    (c.as_slice-after.ensures ∙ ap (λ (s : Store). s.states) c.search-2.view_is) in
    let more = longer c.args.search.now.states c.expand_from.new.self.states c.in_ok-expand_from.ensures.grows.states in
    let count = c.in_ok-push_states.ensures.count in
    omega (arith, before, after, count)
