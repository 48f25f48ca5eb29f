-- The legend: the signs that stand in a picture, each with what it stands for.
use Rattle.std.specs.Prelude.{Bool, ◌&&◌, ◌||◌, List, filter}
use Rattle.std.specs.Option.{is_some}
use Rattle.std.specs.List.{list_any}
use Rattle.nm_history.specs.declared.events.Event.{Event}
use Rattle.nm_report.specs.declared.accounts.RankAccount.{RankAccount}
use Rattle.nm_diagram.specs.declared.frames.Span.{Span}
use Rattle.nm_diagram.specs.declared.signs.Sign.{Sign}
use Rattle.nm_diagram.specs.Frames.{is_shown}
use Rattle.nm_diagram.specs.Left.{has_left}
use Rattle.nm_diagram.specs.Signs.{all_signs, is_of_left, is_waits, tells}

-- an event is shown, and told by this sign
abbrev pub is_told : Span → Sign → Event → Bool
is_told span sign event = is_shown span event && tells sign event.what

-- a rank has this sign
abbrev pub has_sign : Span → Sign → RankAccount → Bool
has_sign span sign account =
    is_waits sign && is_some account.waits || list_any (is_told span sign) account.history.events

-- a sign stands in the picture of these ranks
abbrev pub is_used : Span → List RankAccount → Sign → Bool
is_used span ranks sign =
    is_of_left sign && list_any (has_left span) ranks || list_any (has_sign span sign) ranks

-- the legend of these ranks: the signs that stand in their picture
abbrev pub legend_of : Span → List RankAccount → List Sign
legend_of span ranks = filter (is_used span ranks) all_signs
