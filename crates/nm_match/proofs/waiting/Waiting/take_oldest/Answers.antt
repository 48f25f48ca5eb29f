-- Where both are named, one bucket has it, and else it is selected out of all.
use Rattle.std.proofs.Common.{rules, ◌≡◌, ℕ, Bool, Some, sym, ◌∙◌}
use Rattle.std.specs.List.{find}
use Rattle.nm_types.specs.declared.messages.Arrival.{Arrival}
use Rattle.nm_match.specs.Buckets.{IsTaken, bucket_of}
use Rattle.nm_match.specs.Picks.{picks_of_arrival}
use Rattle.nm_match.specs.Queues.{without_first}
use Rattle.nm_match.specs.Wildcards.{IndexQueue}
use Rattle.nm_match.proofs.OldestLemmas.{own_found}
use Rattle.nm_match.proofs.WildLemmas.{front_key}
use Rattle.nm_match.proofs.WildcardLemmas.{not_indexed, some_both}
use Rattle.nm_match.proofs.waiting.Waiting.take_oldest.Goals as goal

pub returns-then-is_none-clause-oldest : goal.returns-then-is_none-clause-oldest
returns-then-is_none-clause-oldest c = λ queue next are held.
    c.take_front.ensures.oldest ∙ own_found are c.args.wanted (sym c.is_named.ensures ∙ c.if-is_named.true)

pub returns-then-is_none-clause-taken : goal.returns-then-is_none-clause-taken
returns-then-is_none-clause-taken c = λ queue next are held.
    some_both (λ x. IsTaken (picks_of_arrival x.1) x.0 (bucket_of c.args.self.now.named.map)
    (bucket_of c.take_front.new.self.map)) (λ x. (test : ℕ × Arrival → Bool) → find test queue ≡ Some x →
    IndexQueue (without_first test queue) c.args.self.now.wildcards) c.take_front.result
    (front_key are c.args.wanted c.take_front.result c.take_front.ensures.oldest
    (λ k x. IsTaken k x.0 (bucket_of c.args.self.now.named.map) (bucket_of c.take_front.new.self.map))
    c.take_front.ensures.taken)
    (λ x test found. not_indexed c.args.self.now.wildcards (without_first test queue)
    (search rules))
