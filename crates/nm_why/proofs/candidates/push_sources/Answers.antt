-- One rank more.
use Rattle.std.proofs.Common.{ℕ, inl, inr, arith, subst}
use Rattle.std.specs.Prelude.{Contains}
use Rattle.std.proofs.lemmas.Bool.{cases_lt}
use Rattle.nm_types.specs.declared.messages.Peer.TheVariants.{One}
use Rattle.nm_why.specs.declared.changes.Edit.TheVariants.{Source}
use Rattle.nm_why.proofs.ListLemmas.{has_push, keeps_push}
use Rattle.nm_why.proofs.candidates.push_sources.Goals as goal

pub loop-rank-preserved : goal.loop-rank-preserved
loop-rank-preserved c =
    let before = c.loop-rank.invariant in
    let kept = keeps_push _ _ _ c.in_ok-push.ensures.items in
    record {
      kept = λ x at. kept x (before.kept x at);
      sources = λ rank low. elim (cases_lt rank c.loop-rank.rank) [
        | inl below ↦ kept (Source (One rank)) (before.sources rank below)
        | inr not ↦
            subst (λ (r : ℕ). Contains c.push.new.self.items (Source (One r))) (omega (arith, low, not))
            (has_push _ _ _ c.in_ok-push.ensures.items)
      ];
    }
