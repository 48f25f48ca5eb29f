-- One event more.
use Rattle.std.proofs.Common.{List, ◌≡◌, ◌∙◌, ◌++◌, ◌∷◌, [], ap, subst, sym}
use Rattle.nm_history.specs.declared.events.Event.{Event}
use Rattle.nm_recent.specs.Recents.{AreOf, last_items}
use Rattle.nm_recent.proofs.RecentLemmas.{grown_of, last_few, last_of, slid}
use Rattle.nm_recent.proofs.recents.RecentRecorder.put.Goals as goal

pub make_place-requires-clause-few : goal.make_place-requires-clause-few
make_place-requires-clause-few c =
    last_few c.self.inside.all.items c.self.inside.window.items c.self.inside.window.len c.self.invariant.0
    c.self.inside.window.ok.0

pub invariant_of-self : goal.invariant_of-self
invariant_of-self c =
    let all = c.self.inside.all.items in
    let window = c.self.inside.window in
    let grown : c.then-self-inside.result.items ≡ all ++ c.args.e ∷ [] = c.then-self-inside.ensures in (
      c.push_back_reserved.ensures.items
          ∙ slid all window.items c.make_place.new.window.items window.len c.args.e c.self.invariant.0 window.ok.0
          c.make_place.ensures.window
          ∙ sym (ap (λ (xs : List Event). last_items 64 xs) grown),
      subst (λ (xs : List Event). AreOf xs c.make_place.new.pending.items) (sym grown)
          (grown_of all c.make_place.new.pending.items c.args.e
          (c.make_place.ensures.of all c.self.invariant.1
          (subst (λ (xs : List Event). AreOf all xs) (sym c.self.invariant.0) (last_of all 64)))),
    )
