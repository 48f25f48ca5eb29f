-- How the one rank stands to what was sent at its desk. No program keeps what is said here.
use Rattle.std.specs.Prelude.{◌≡◌, ℕ, Some, List, [], length, map, slice_get}
use Rattle.nm_types.specs.declared.scripts.Body.{Body}
use Rattle.nm_types.specs.Bodies.{bytes_of}
use Rattle.nm_history.specs.Sends.{Sent, sends}
use Rattle.nm_channels.specs.Moments.{pulled_from, taken_from}
use Rattle.nm_global.specs.ProcessInvariant.{GhostHistory}
use Rattle.nm_global.specs.Steps.{IsPlaced, Setting}
use Rattle.nm_rank.specs.Ranks.{IsFresh, RankView}

-- these are the bodies of the sends, by their numbers
abbrev pub AreBodies : (Sent → List ℕ) → List Body → Type 0
AreBodies bodies sent =
    (s : Sent) (body : Body) → slice_get sent s.n ≡ Some body → bodies s ≡ bytes_of body

-- the run of a rank that has only itself to send to, with this eager limit and no commands, where its sends
-- have these bodies
abbrev pub alone_run : ℕ → (Sent → List ℕ) → Setting
alone_run eager bodies = record { eager = eager; ranks = 1; commands = []; bodies = bodies }

-- The rank stands at its place after some past, in which the messages of these bodies were sent, one by one.
-- While it can go on, it took each packet that left it; and it took no piece.
pub record DeskInvariant (sent : List Body) (v : RankView) : Type 0 where
  pub eager : ℕ
  pub past : GhostHistory
  pub placed :
      (bodies : Sent → List ℕ) → AreBodies bodies sent → IsPlaced (alone_run eager bodies) v past
  pub many : length (sends v.events 0) ≡ length sent
  pub even : IsFresh v → map (λ t. t.packet) (taken_from 0 past.log) ≡ (past.left 0).packets
  pub pieces : pulled_from 0 past.log ≡ []
