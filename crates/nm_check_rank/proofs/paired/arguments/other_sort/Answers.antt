use Rattle.std.proofs.Common.{Some, ◌∷◌, sym, subst}
use Rattle.nm_check_rank.specs.Arguments.{IsFirstMismatch, arguments}
use Rattle.nm_check_rank.specs.declared.paired.arguments.Argument.TheVariants as arg
use Rattle.nm_check_rank.specs.declared.paired.arguments.Sort.{Sort}
use Rattle.nm_check_rank.proofs.MismatchLemmas.{sorts_apart}
use Rattle.nm_check_rank.proofs.paired.arguments.other_sort.Goals as goal

pub returns : goal.returns
returns c = λ xs not.
    subst (λ (s : Sort). IsFirstMismatch (arg.Sort c.args.called ∷ xs) (arguments c.args.what.now)
    (Some (record { called = arg.Sort c.args.called; found = arg.Sort s }))) (sym c.sort_of.ensures)
    (sorts_apart c.args.called c.args.what.now xs not)
