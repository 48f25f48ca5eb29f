-- What a rank was called with.
use Rattle.std.specs.Prelude.{◌≡◌, ℕ, ◌+◌, Option, Some, None, List, [], ◌∷◌, ◌++◌, option_to_list}
use Rattle.nm_types.specs.declared.scripts.Command.{Command}
use Rattle.nm_types.specs.Commands.{Numbered}
use Rattle.nm_process.specs.Playing.{all_numbered}
use Rattle.nm_process.specs.Sources.{SourceView}
use Rattle.nm_process.specs.declared.steps.Step.{Step}
use Rattle.nm_process.specs.declared.steps.Step.TheVariants.{Ran, Waits}

-- What contracts see of the calls of a rank: among how many ranks they are in range, how many ran, and which, and the
-- one that was given and has still to run, if there is one.
pub record CallsView : Type 0 where
  pub ranks : ℕ
  pub at : ℕ
  pub given : List Command
  pub next : Option Command

-- one call more ran
abbrev pub called : CallsView → Command → CallsView
called c x = record { ranks = c.ranks; at = c.at + 1; given = c.given ++ x ∷ []; next = None }

-- one call came to this: it ran, or had to wait
abbrev pub counted : CallsView → Command → Step → CallsView
counted c x Ran = called c x
counted c x Waits = c

-- all that were given
abbrev pub ahead : CallsView → List Command
ahead c = c.given ++ option_to_list c.next

-- as a source
abbrev pub shown : CallsView → SourceView (Unit {0})
shown c = record { at = c.at; ranks = c.ranks; next = c.next; told = None; begun = tt }

-- it gave these calls: the k-th one, from 0, has line k + 2
abbrev pub gave : CallsView → List Numbered → ℕ → Type 0
gave c commands last = (commands ≡ all_numbered 2 (ahead c)) × (last ≡ c.at + 1)
