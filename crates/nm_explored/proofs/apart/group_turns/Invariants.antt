-- All moves of the first ranks of the group are there, and nothing else.
use Rattle.std.proofs.Common.{◌≡◌, ℕ, ◌<◌, length}
use Rattle.nm_explored.specs.declared.choices.moves.Turn.{Turn}
use Rattle.nm_explored.specs.Successors.{spot_in}
use Rattle.nm_search.specs.Lists.{Has}
use Rattle.nm_explored.specs.Apart.{group_of}
use Rattle.nm_explored.specs.Moves.{AreMovesOf, AreSendsShort, IsTurn}
use Rattle.nm_explored.proofs.apart.group_turns.Given as goal

abbrev pub invariant-loop-i : goal.invariant-loop-i
invariant-loop-i l =
    record {
      all : length l.view.lines.now < 4294967293 → (j : ℕ) → j < l.i →
          group_of l.groups j ≡ group_of l.groups l.rank →
          AreMovesOf l.view.eager l.ranks l.view.lines.now (spot_in l.view.table.now l.view.ids.now) j l.turns.items;
      only : length l.view.lines.now < 4294967293 → AreSendsShort l.view.lines.now → (t : Turn) → Has l.turns.items t →
          IsTurn l.view.eager l.ranks l.view.lines.now (spot_in l.view.table.now l.view.ids.now) t;
    }
