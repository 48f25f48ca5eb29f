-- What one crew tells, and what both halves do.
use Rattle.std.proofs.Common.{Bool, rules}
use Rattle.std.proofs.lemmas.Result.{IfOk-weaker}
use Rattle.nm_crews.specs.Crews.{HaveTold}
use Rattle.nm_crews.proofs.forks.+halves.Goals as goal

pub halves-returns : goal.halves-returns
halves-returns g t c =
    let R = g.W.Work.told c.args.work.now in
    let front : HaveTold R c.in_ok-one.one c.args.front.now c.front-1.given.0 = search rules in
    let back : HaveTold R c.in_ok-other.other c.args.back.now c.back-1.given.0 = search rules in
    record { told = HaveTold.halves front back }

pub turns_by-returns-then-crews-le1 : goal.turns_by-returns-then-crews-le1
turns_by-returns-then-crews-le1 g t c =
    let R = g.W.Work.told c.args.work.now in
    record {
      told = IfOk-weaker c.turns.result (λ (some : Bool). R some c.args.items.now c.turns.new.items)
          (λ (some : Bool). HaveTold R some c.args.items.now c.turns.new.items) (λ some told. HaveTold.sole told)
          c.turns.ensures;
    }
