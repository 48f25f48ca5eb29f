-- The first of the four rules that breaks.
use Rattle.std.proofs.Common.{[], ◌∷◌, None, Some, refl}
use Rattle.nm_check.specs.declared.clauses.CarriedClause.TheVariants.{Messages, Bodies, Outs, Withdrawals}
use Rattle.nm_check.proofs.BetweenLemmas.{first_break}
use Rattle.nm_check.proofs.FirstLemmas.{bodies_first, messages_first, outs_first}
use Rattle.nm_check.proofs.between.first_between.Goals as goal

pub returns-in-Some : goal.returns-in-Some
returns-in-Some c = λ lines ranks sent got.
    first_break lines ranks c.args.i c.args.j [] Messages (Bodies ∷ Outs ∷ Withdrawals ∷ []) c.in-Some.spot refl tt
    (messages_first lines ranks c.args.i c.args.j (Some c.in-Some.spot) (c.in-Some.ensures lines ranks got))

pub returns-in-Some-first_at : goal.returns-in-Some-first_at
returns-in-Some-first_at c = λ lines ranks sent got.
    let messages = messages_first lines ranks c.args.i c.args.j None (c.in_default.ensures lines ranks got) in
    first_break lines ranks c.args.i c.args.j (Messages ∷ []) Bodies (Outs ∷ Withdrawals ∷ [])
    c.in-Some-first_at.spot refl (messages, tt)
    (bodies_first lines ranks c.args.i c.args.j (Some c.in-Some-first_at.spot)
    (c.in-Some-first_at.ensures lines ranks got))

pub returns-in-Some-first_at-2 : goal.returns-in-Some-first_at-2
returns-in-Some-first_at-2 c = λ lines ranks sent got.
    let messages = messages_first lines ranks c.args.i c.args.j None (c.in_default.ensures lines ranks got) in
    let bodies = bodies_first lines ranks c.args.i c.args.j None (c.in_default-first_at.ensures lines ranks got) in
    first_break lines ranks c.args.i c.args.j (Messages ∷ Bodies ∷ []) Outs (Withdrawals ∷ [])
    c.in-Some-first_at-2.spot refl (messages, (bodies, tt))
    (outs_first lines ranks c.args.i c.args.j (Some c.in-Some-first_at-2.spot)
    (c.in-Some-first_at-2.ensures lines ranks sent))

pub returns-in-Some-first_withdrawal : goal.returns-in-Some-first_withdrawal
returns-in-Some-first_withdrawal c = λ lines ranks sent got.
    let messages = messages_first lines ranks c.args.i c.args.j None (c.in_default.ensures lines ranks got) in
    let bodies = bodies_first lines ranks c.args.i c.args.j None (c.in_default-first_at.ensures lines ranks got) in
    let outs = outs_first lines ranks c.args.i c.args.j None (c.in_default-first_at-2.ensures lines ranks sent) in
    first_break lines ranks c.args.i c.args.j (Messages ∷ Bodies ∷ Outs ∷ []) Withdrawals []
    c.in-Some-first_withdrawal.spot refl (messages, (bodies, (outs, tt)))
    (c.in-Some-first_withdrawal.ensures lines ranks sent got)

pub returns : goal.returns
returns c = λ lines ranks sent got. record {
  messages = messages_first lines ranks c.args.i c.args.j None (c.in_default.ensures lines ranks got);
  bodies = bodies_first lines ranks c.args.i c.args.j None (c.in_default-first_at.ensures lines ranks got);
  outs = outs_first lines ranks c.args.i c.args.j None (c.in_default-first_at-2.ensures lines ranks sent);
  withdrawals = c.in_default-first_withdrawal.ensures lines ranks sent got;
}
