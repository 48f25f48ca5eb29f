-- A text that was looked for, and was found or not.
use Rattle.std.proofs.Common.{◌≡◌, ℕ, ◌+◌, ◌-◌, ap, arith, map, refl, sym, subst, ◌∙◌}
use Rattle.std.specs.Prelude.{Contains, Some, slice_get}
use Rattle.std.proofs.lemmas.List.{take_all}
use Rattle.std.proofs.lemmas.Slice.Eq.{bytes_eq-Decides}
use Rattle.nm_listed.specs.Texts.{bytes_of}
use Rattle.nm_listed.proofs.PlaceLemmas.{next_none}
use Rattle.nm_listed.proofs.TraceLemmas.{text_there}
use Rattle.nm_listed.proofs.texts.number_among.Goals as goal

pub returns-then-eq-clause-some : goal.returns-then-eq-clause-some
returns-then-eq-clause-some c =
    let there = text_there bytes_of c.args.texts.now (map bytes_of c.args.texts.now) c.loop-at.at
    c.index-texts-at.result refl c.loop-at-test.true c.index-texts-at.is in
    let same = sym c.as_slice.ensures.value ∙ (bytes_eq-Decides c.as_slice.result.now c.args.text.now).0
    (sym c.eq.ensures ∙ c.if-eq.true) in
    let place : c.loop-at.at ≡ c.loop-at.at + 1 - 1 = omega arith in (
      omega arith,
      subst (λ (k : ℕ). slice_get (map bytes_of c.args.texts.now) k ≡ Some c.args.text.now) place
          (there ∙ ap (λ b. Some b) same),
    )

pub loop-at-preserved : goal.loop-at-preserved
loop-at-preserved c =
    next_none bytes_of c.args.texts.now c.loop-at.at c.index-texts-at.result c.args.text.now c.as_slice.result.now
    c.loop-at-test.true c.index-texts-at.is c.as_slice.ensures.value c.loop-at.invariant
    (λ same. let equal = (bytes_eq-Decides c.as_slice.result.now c.args.text.now).1 same in
    let other = sym c.eq.ensures ∙ c.if-eq.false in
    cc)

pub returns-clause-none : goal.returns-clause-none
returns-clause-none c none there =
    c.loop-at.invariant (subst (λ xs. Contains (map bytes_of xs) c.args.text.now)
    (sym (take_all c.loop-at.at c.args.texts.now c.loop-at-test.false)) there)
