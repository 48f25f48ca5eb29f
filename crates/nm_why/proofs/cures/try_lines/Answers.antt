-- What the search says of the script of these lines is said of them.
use Rattle.std.proofs.Common.{◌∙◌, ℕ, List, refl, subst, sym}
use Rattle.nm_types.specs.declared.scripts.Line.{Line}
use Rattle.nm_types.specs.Limits.{IsScript}
use Rattle.nm_why.proofs.CureLemmas.{trial_at}
use Rattle.nm_why.proofs.cures.try_lines.Goals as goal

pub returns-in_ok-fate-in-Some : goal.returns-in_ok-fate-in-Some
returns-in_ok-fate-in-Some g c =
    let script = c.in-Some.script in
    trial_at c.in_ok-fate-in-Some.field-0 c.args.shape script.lines c.args.others.items c.trial_of.result
    (subst (λ (n : ℕ). IsScript n script.lines) (c.in-Some.ensures.some.0 ∙ c.ranks.ensures.value) script.limits)
    c.trial_of.ensures (c.in-Some.ensures.some.1 ∙ c.from_vec.ensures) c.in_ok-fate-in-Some.ensures

pub returns-in-None : goal.returns-in-None
returns-in-None g c = λ safe.
    c.in-None.ensures.none refl
    (subst (λ (n : ℕ). IsScript n c.from_vec.result) (sym c.ranks.ensures.value)
    (subst (λ (lines : List Line). IsScript c.args.shape.ranks lines) (sym c.from_vec.ensures) safe.0))
