use Rattle.std.proofs.Common.{◌==◌, ◌<◌, ◌||◌, ◌∙◌, Bool, List, ℕ, ap, subst, sym}
use Rattle.nm_history.specs.Continues.{has}
use Rattle.nm_receiving.specs.StreamViews.{Noted}
use Rattle.nm_receiving.proofs.NumberLemmas.{has-push}
use Rattle.nm_receiving.proofs.streams.numbers.Numbers.add.Goals as goal

pub add-requires : goal.add-requires
add-requires c = subst (λ (v : Noted). 0 < v.spare) (sym c.self.view_is) c.requires.room

pub returns : goal.returns
returns c = rw (← c.self.view_is) c.then-self-inside.ensures

pub invariant_of-self : goal.invariant_of-self
invariant_of-self c = λ m.
    let a = c.self.inside in
    ap (λ (l : List ℕ). has l m) c.then-self-inside.ensures ∙ has-push a.all.items c.args.n m
    ∙ ap (λ (b : Bool). b || c.args.n == m) (c.self.invariant m) ∙ sym (c.add.ensures m)
