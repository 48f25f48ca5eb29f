-- What crews tell of their items.
use Rattle.std.specs.Prelude.{Bool, ◌||◌, List, ◌++◌}

-- A crew told this of its items (R), or the crews of two parts, one behind the other, did so of theirs, and
-- one of them answered `true` where both together do.
pub data HaveTold {T : Type 0} (R : Bool → List T → List T → Type 0) : Bool → List T → List T → Type 0 where
  sole : {some : Bool} {old new : List T} → R some old new → HaveTold R some old new
  halves :
      {p q : Bool} {xs ys xs' ys' : List T} → HaveTold R p xs xs' → HaveTold R q ys ys' →
      HaveTold R (p || q) (xs ++ ys) (xs' ++ ys')
