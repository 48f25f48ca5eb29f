-- It goes behind all others.
use Rattle.std.proofs.Common.{ℕ, ◌<◌, ◌∷◌, ◌∙◌, List, ap}
use Rattle.std.proofs.lemmas.List.Elements.{All-tail}
use Rattle.nm_match.proofs.OrderLemmas.{entry_last}
use Rattle.nm_match.proofs.buckets.Bucket.put.Goals as goal

pub returns-clause-ok : goal.returns-clause-ok
returns-clause-ok g c = λ below.
    ap (λ (l : List (ℕ × g.row.T.Denot)). c.args.self.now.oldest ∷ l)
    (c.in_ok-insert.ensures.entries ∙ entry_last c.args.order c.args.item c.args.self.now.rest.entries
    (All-tail (λ x. x.0 < c.args.order) c.args.self.now.oldest c.args.self.now.rest.entries below))
