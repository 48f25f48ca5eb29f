-- One rank more.
use Rattle.std.proofs.Common.{ℕ, ◌∙◌, ◌++◌, ◌∷◌, [], List, ap, length, subst, sym}
use Rattle.nm_types.specs.declared.scripts.Command.{Command}
use Rattle.nm_report.specs.declared.accounts.RankAccount.{RankAccount}
use Rattle.nm_transcript.specs.Excerpts.{AreOwn, IsOwn}
use Rattle.nm_transcript.proofs.PlaceLemmas.{own_more}
use Rattle.nm_transcript.proofs.excerpts.put.Goals as goal

pub returns-clause-own : goal.returns-clause-own
returns-clause-own c all =
    let calls = c.in_ok-chosen.chosen.calls in
    let account = c.in_ok-account.account in
    subst (λ (xs : List (List Command)). AreOwn xs c.push-2.new.self.items) (sym c.in_ok-push.ensures.items)
    (subst (λ (xs : List RankAccount). AreOwn (c.args.own.now.given.items ++ calls ∷ []) xs)
    (sym c.in_ok-push-2.ensures.items)
    (own_more c.args.own.now.given.items c.args.own.now.accounts.items calls account all
    (subst (λ (n : ℕ). IsOwn n account) (ap (λ (xs : List ℕ). length xs) c.deref-2.ensures.value
    ∙ sym c.in_ok-chosen.ensures) c.in_ok-account.ensures)))
