-- What a rank started stands at its lines; which cancels concern a send, and which a receive.
use Rattle.std.specs.Prelude.{◌≡◌, ℕ, ◌==◌, ◌&&◌, Bool, true, false, Some, List}
use Rattle.std.specs.List.{list_any, slice_get}
use Rattle.nm_types.specs.declared.scripts.Body.{Body}
use Rattle.nm_types.specs.declared.scripts.Command.{Command}
use Rattle.nm_types.specs.declared.scripts.Command.TheVariants as command
use Rattle.nm_types.specs.declared.scripts.Line.{Line}
use Rattle.nm_types.specs.Commands.{command_at, commands_of}
use Rattle.nm_match.specs.Picks.{same_peer, same_tag}
use Rattle.nm_outcomes.specs.declared.spots.deeds.Deed.{Deed}
use Rattle.nm_outcomes.specs.declared.spots.deeds.Deed.TheVariants as deed
use Rattle.nm_outcomes.specs.declared.spots.deeds.Receive.{Receive}
use Rattle.nm_outcomes.specs.RankStates.{Spot}
use Rattle.nm_search.specs.Lists.{Has}

-- a command of a rank passes a test
abbrev pub any_of : List Line → ℕ → (Command → Bool) → Bool
any_of lines i test = list_any (λ line. line.rank == i && test line.command) lines

-- what a rank sent or posted, a line of its own sends or posts
abbrev pub IsStarted : List Line → ℕ → Deed → Type 0
IsStarted lines i (deed.Send to n tag ctx len how line) =
    (q : ℕ) × (sync : Bool) × (body : Body)
    × (command_at (commands_of i lines) line ≡ Some (command.Send to q tag ctx sync body))
IsStarted lines i (deed.Post r line) =
    (q : ℕ) × (command_at (commands_of i lines) line ≡ Some (command.Recv q r.from r.tag r.ctx r.cap))
IsStarted lines i _ = Unit {0}

-- so it is with all that the ranks sent and posted
abbrev pub AreStarted : List Line → List Spot → Type 0
AreStarted lines s = (i : ℕ) (x : Spot) → slice_get s i ≡ Some x → (d : Deed) → Has x.deeds d → IsStarted lines i d

-- a command starts a send under this name
abbrev pub sends_as : ℕ → Command → Bool
sends_as q (command.Send to q' tag ctx sync body) = q' == q
sends_as q _ = false

-- a command of a rank may recall a message: it cancels a name that a send of the rank has (MPI 3.1, 3.8.4)
abbrev pub may_recall : List Line → ℕ → Command → Bool
may_recall lines i (command.Cancel q) = any_of lines i (sends_as q)
may_recall lines i _ = false

-- no command of the script may
abbrev pub HasNoRecall : List Line → Type 0
HasNoRecall lines = list_any (λ line. may_recall lines line.rank line.command) lines ≡ false

-- a deed recalls a message
abbrev pub is_recalling_by : Deed → Bool
is_recalling_by (deed.Recall to n) = true
is_recalling_by _ = false

-- no rank has recalled any
abbrev pub AreCalm : List Spot → Type 0
AreCalm s = (i : ℕ) (spot : Spot) → slice_get s i ≡ Some spot → list_any is_recalling_by spot.deeds ≡ false

-- a command posts a receive under this name, which selects as this one does
abbrev pub posts_as : ℕ → Receive → Command → Bool
posts_as q r (command.Recv q' from tag ctx cap) =
    q' == q && (r.ctx == ctx && (same_peer r.from from && same_tag r.tag tag))
posts_as q r _ = false

-- a command of rank i may cancel a receive: it cancels a name under which the rank posts one that selects so
abbrev pub may_cancel : List Line → ℕ → Receive → Command → Bool
may_cancel lines i r (command.Cancel q) = any_of lines i (posts_as q r)
may_cancel lines i r _ = false

-- no command of the rank may
abbrev pub IsSpared : List Line → ℕ → Receive → Type 0
IsSpared lines i r = any_of lines i (may_cancel lines i r) ≡ false
