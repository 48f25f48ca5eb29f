use Rattle.std.proofs.Common.{map, arith, sym}
use Rattle.std.proofs.lemmas.Bool.Decides.{nat_tests}
use Rattle.std.proofs.lemmas.List.{length-map}
use Rattle.nm_plans.specs.declared.keywords.PlanKeyword.TheVariants as key
use Rattle.nm_plans.proofs.CountLemmas.{other_arguments}
use Rattle.nm_plans.proofs.commands.recv_init.Goals as goal
use Rattle.nm_plans.proofs.commands.recv_init.Goals.{in_default-via-then-arguments-lt5}
use Rattle.nm_plans.proofs.commands.recv_init.Goals.{in_default-via-else-arguments-lt5+else-arguments-lt6}

pub returns-in_default : goal.returns-in_default
returns-in_default c =
    sym (other_arguments c.args.ranks key.RecvInit (map (λ word. word.now) c.args.arguments.now) (λ e.
    let same = length-map c.args.arguments.now (λ word. word.now) in
    elim c.in_default.branch [
      | in_default-via-then-arguments-lt5 w ↦ grind (arith, nat_tests, same, e)
      | in_default-via-else-arguments-lt5+else-arguments-lt6 w ↦ grind (arith, nat_tests, same, e)
    ]))
