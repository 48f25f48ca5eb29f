use Rattle.std.proofs.Common.{◌≡◌, ◌≢◌, ◌++◌, ◌∷◌, [], ℕ, List, inl, inr, length, take, ◌-◌, refl, ◌∙◌, ap, sym, subst}
use Rattle.std.specs.Prelude.{codes}
use Rattle.nm_shell.specs.Inputs.{IsOnlyCut}
use Rattle.nm_shell.proofs.CutLemmas.{cut_here, none_behind, none_last, reached_more, reached_none}
use Rattle.nm_shell.proofs.inputs.cut.Goals as goal

pub loop-rest-init : goal.loop-rest-init
loop-rest-init c = reached_none c.args.bytes.now

pub returns-in-Some : goal.returns-in-Some
returns-in-Some c =
    let here : c.first_line.result.0.now ≡ codes "---" = rw c.if-is_between.true at c.is_between.ensures in
    let parts : c.loop-rest.rest.now ≡ c.first_line.result.0.now ++ 10 ∷ c.in-Some.behind.now =
    rw c.in-Some.is at c.first_line.ensures.parts in
    cut_here c.args.bytes.now c.loop-rest.rest.now c.in-Some.behind.now c.loop-rest.invariant
    (inl (parts ∙ ap (λ (l : List ℕ). l ++ 10 ∷ c.in-Some.behind.now) here))

pub returns-in-None : goal.returns-in-None
returns-in-None c =
    let here : c.first_line.result.0.now ≡ codes "---" = rw c.if-is_between.true at c.is_between.ensures in
    let parts : c.loop-rest.rest.now ≡ c.first_line.result.0.now = rw c.in-None.is at c.first_line.ensures.parts in
    subst (λ (r : List ℕ). IsOnlyCut c.args.bytes.now
    (take (length c.args.bytes.now - length c.loop-rest.rest.now) c.args.bytes.now) r)
    (sym (none_behind c.args.bytes.now))
    (cut_here c.args.bytes.now c.loop-rest.rest.now [] c.loop-rest.invariant (inr (parts ∙ here, refl)))

pub loop-rest-preserved : goal.loop-rest-preserved
loop-rest-preserved c =
    let other : c.first_line.result.0.now ≢ codes "---" = rw c.if-is_between.false at c.is_between.ensures in
    let parts : c.loop-rest.rest.now ≡ c.first_line.result.0.now ++ 10 ∷ c.in-Some-behind.others.now =
    rw c.in-Some-behind.is at c.first_line.ensures.parts in
    reached_more c.args.bytes.now c.loop-rest.rest.now c.first_line.result.0.now c.in-Some-behind.others.now
    c.loop-rest.invariant (record { one = c.first_line.ensures.one; other = other }) parts

pub returns-in-None-behind : goal.returns-in-None-behind
returns-in-None-behind c =
    let other : c.first_line.result.0.now ≢ codes "---" = rw c.if-is_between.false at c.is_between.ensures in
    let parts : c.loop-rest.rest.now ≡ c.first_line.result.0.now =
    rw c.in-None-behind.is at c.first_line.ensures.parts in
    none_last c.args.bytes.now c.loop-rest.rest.now c.first_line.result.0.now c.loop-rest.invariant
    (record { one = c.first_line.ensures.one; other = other }) parts
