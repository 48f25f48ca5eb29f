use Rattle.std.proofs.Common.{◌≡◌, drop}
use Rattle.std.specs.List.{list_any}
use Rattle.nm_diagram.specs.Left.{has_left}
use Rattle.nm_diagram.proofs.rings.is_any_left.Given as goal

-- none was found so far
abbrev pub invariant-loop-account : goal.invariant-loop-account
invariant-loop-account l =
    list_any (has_left l.span) (drop l.account-index l.ranks) ≡ list_any (has_left l.span) l.ranks
