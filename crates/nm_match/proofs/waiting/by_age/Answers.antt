-- One bucket after another.
use Rattle.std.proofs.Common.{ℕ, List, ap, sym, ◌∙◌, arith}
use Rattle.nm_types.specs.declared.messages.Arrival.{Arrival}
use Rattle.nm_match.specs.Buckets.{bucket_at, with_entries}
use Rattle.nm_match.proofs.AgeLemmas.{among_all, among_next, among_none}
use Rattle.nm_match.proofs.waiting.by_age.Goals as goal

pub loop-index-init : goal.loop-index-init
loop-index-init c = λ queue next are. c.new-by_age.ensures.empty ∙ sym (among_none c.args.named.now.map are)

pub loop-index-preserved : goal.loop-index-preserved
loop-index-preserved c = λ queue next are.
    c.in_ok-pour.ensures
    ∙ ap (λ (l : List (ℕ × Arrival)). with_entries l (bucket_at c.args.named.now.map c.loop-index.index))
    (c.loop-index.invariant queue next are)
    ∙ among_next c.args.named.now.map are c.loop-index.index

pub returns : goal.returns
returns c = λ queue next are. c.loop-index.invariant queue next are
    ∙ among_all c.args.named.now.map are c.loop-index.index (omega arith)
