-- As many states, or others.
use Rattle.std.proofs.Common.{ℕ, List, length, ◌∙◌, ap}
use Rattle.nm_explored.proofs.stores.Table.show.Goals as goal

pub returns-then-are_as_many : goal.returns-then-are_as_many
returns-then-are_as_many c low are =
    c.refresh.ensures low
    (c.are_as_many.ensures c.if-are_as_many.true ∙ ap (λ (xs : List ℕ). length xs) c.as_slice.ensures.value) are

pub returns-else-are_as_many : goal.returns-else-are_as_many
returns-else-are_as_many c low are = c.renew.ensures low
