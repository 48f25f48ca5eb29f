use Rattle.std.proofs.Common.{Option, [], ◌∷◌, sym, ◌∙◌, ap}
use Rattle.nm_history.specs.RankRun.{start_of}
use Rattle.nm_check_rank.specs.Manies.{many_due}
use Rattle.nm_check_rank.specs.Startings.{mismatch_due}
use Rattle.nm_check_rank.specs.declared.paired.dues.Due.{Due}
use Rattle.nm_check_rank.specs.declared.paired.manies.Many.{Many}
use Rattle.nm_check_rank.specs.declared.paired.manies.Many.TheVariants.{One}
use Rattle.nm_check_rank.proofs.StartingLemmas.{many_is_due, one_is_due}
use Rattle.nm_check_rank.proofs.paired.startings.found_due.Goals as goal

pub returns-in-One : goal.returns-in-One
returns-in-One c = λ commands before held holds started.
    let limit = c.args.limit in
    let command = c.args.command.now in
    one_is_due limit command c.mismatch_due.result c.args.what.now (start_of limit commands before c.args.line command)
    c.first_mismatch-first.result (sym c.in-One.is ∙ c.starts_called-called.ensures limit commands before c.args.line
    holds)
    (λ w is. c.first_mismatch-first.ensures limit commands before w held started is)
    (c.mismatch_due.ensures ∙ ap (λ (o : Option Due). mismatch_due c.first_mismatch-first.result o) c.one_due.ensures)

pub returns-in_default : goal.returns-in_default
returns-in_default c = λ commands before held holds started.
    let limit = c.args.limit in
    let command = c.args.command.now in
    let called = c.starts_called-called.ensures limit commands before c.args.line holds in
    many_is_due limit command c.many_due.result (start_of limit commands before c.args.line command)
    (c.args.what.now ∷ []) (λ one found. c.in_default.not-One (called ∙ sym one))
    (c.many_due.ensures ∙ ap (λ (m : Many). many_due m One) called)
