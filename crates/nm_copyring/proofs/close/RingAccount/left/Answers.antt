-- What the account says of itself, in the words of contracts.
use Rattle.std.proofs.Common.{length, map, sym, ap, ◌∙◌}
use Rattle.std.proofs.lemmas.List.{length-map}
use Rattle.nm_copyring.specs.AtClose.{not_pulled, seen_in}
use Rattle.nm_copyring.specs.Plays.{unlooked}
use Rattle.nm_copyring.proofs.ClosingLemmas.{left_unlooked}
use Rattle.nm_copyring.proofs.close.RingAccount.left.Goals as goal

pub returns-clause-pending : goal.returns-clause-pending
returns-clause-pending c =
    let a = c.args.self.now in
    let es = seen_in a.badge.views in
    a.pending ∙ sym (left_unlooked (length es) es)
    ∙ ap (λ n. not_pulled n (map unlooked es)) (sym (length-map es unlooked))
