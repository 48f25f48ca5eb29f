use Rattle.std.proofs.Common.{◌&&◌, Bool, sym, ◌∙◌, subst}
use Rattle.std.specs.Prelude.{IsTrue}
use Rattle.std.specs.Bool.{OnTrue}
use Rattle.nm_history.specs.Completion.{is_taken}
use Rattle.nm_history.specs.Matching.{is_claimed, matched_pairs}
use Rattle.nm_history.specs.Quiescence.{is_kept_back, is_over}
use Rattle.nm_check.proofs.OverLemmas.{asked_decided}
use Rattle.nm_check.proofs.rest.over.is_asked_over.Goals as goal

pub returns-then-not-is_asked : goal.returns-then-not-is_asked
returns-then-not-is_asked c = λ hi hj lines sent got.
    let i = c.args.i in
    let n = c.args.n in
    subst (λ (b : Bool). OnTrue (b && is_taken hj i n) (IsTrue (is_over i c.args.j hi hj n))
    × OnTrue (b && is_claimed hj (matched_pairs hj) i n) (IsTrue (is_kept_back i c.args.j hi hj n)))
    (sym c.if-not-is_asked.true ∙ c.is_asked.ensures) (tt, tt)

pub returns : goal.returns
returns c = λ hi hj lines sent got.
    asked_decided c.args.i hi c.args.j hj c.args.n c.args.how c.are_implied.result c.is_ever_taken-taken.result
    c.is_ever-claimed.result c.is_message_over-over.result c.is_message_kept_back-kept.result
    (sym c.is_asked.ensures ∙ c.if-not-is_asked.false)
    (c.is_ever_taken-taken.ensures hj (c.taken.ensures c.args.j lines hj got.tells))
    (c.is_ever-claimed.ensures hj got.places.incoming.settled.claims)
    (c.is_message_over-over.ensures hi hj sent got.places)
    (c.is_message_kept_back-kept.ensures hi hj sent got.places) c.are_implied.ensures
