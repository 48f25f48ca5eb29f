-- States of ranks without recalls and matched probes: what has a number has a new one.
use Rattle.std.specs.Prelude.{◌≡◌, ℕ, ◌<◌, ◌≤◌, ◌==◌, Bool, true, false, Some, List, [], count_by}
use Rattle.std.specs.List.{list_any, slice_get}
use Rattle.nm_types.specs.declared.scripts.Command.{Command}
use Rattle.nm_types.specs.declared.scripts.Command.TheVariants as command
use Rattle.nm_types.specs.declared.scripts.Line.{Line}
use Rattle.nm_history.specs.Matching.{is_of_message, is_of_receive}
use Rattle.nm_match.specs.Deeds.{is_message}
use Rattle.nm_outcomes.specs.declared.spots.deeds.Deed.{Deed}
use Rattle.nm_outcomes.specs.declared.spots.deeds.Deed.TheVariants as deed
use Rattle.nm_outcomes.specs.declared.spots.deeds.Receive.{Receive}
use Rattle.nm_outcomes.specs.Looks.{is_receive_by}
use Rattle.nm_outcomes.specs.RankStates.{Spot, is_cancel_by}
use Rattle.nm_explored.specs.Started.{any_of}
use Rattle.nm_search.specs.Lists.{Has}

-- a command is a matched probe or a matched receive
abbrev pub is_claiming : Command → Bool
is_claiming (command.Mprobe m from tag ctx) = true
is_claiming (command.Mrecv q m cap) = true
is_claiming _ = false

-- no command of a rank is one of these
abbrev pub HasNoClaim : List Line → ℕ → Type 0
HasNoClaim lines i = any_of lines i is_claiming ≡ false

-- a deed is no send, no receive that is posted, no cancel of one, and no answer
abbrev pub is_rare_by : Deed → Bool
is_rare_by (deed.Send to n tag ctx len how line) = false
is_rare_by (deed.Post r line) = false
is_rare_by (deed.Cancel number done) = false
is_rare_by (deed.Ran line r) = false
is_rare_by _ = true

-- a receive has this number
abbrev pub is_numbered : ℕ → Receive → Bool
is_numbered number r = r.number == number

-- so many messages of a rank came
abbrev pub came_of : Spot → ℕ → ℕ
came_of x from = count_by (λ a. a.env.from == from) x.came

-- The numbers of receives are below the number of those that were started, those of messages below the
-- number of those that came. Open receives have numbers of their own, and no pair; each is as it was posted.
pub record IsOrderly (x : Spot) : Type 0 where
  pub common : list_any is_rare_by x.deeds ≡ false
  pub opens : (number : ℕ) → count_by is_receive_by x.deeds ≤ number → list_any (is_numbered number) x.receives ≡ false
  pub posts : (r : Receive) (line : ℕ) → Has x.deeds (deed.Post r line) → r.number < count_by is_receive_by x.deeds
  pub cancelled : (number : ℕ) → count_by is_receive_by x.deeds ≤ number →
      list_any (is_cancel_by number) x.deeds ≡ false
  pub paired : (number : ℕ) → count_by is_receive_by x.deeds ≤ number → list_any (is_of_receive number) x.pairs ≡ false
  pub free : (from n : ℕ) → came_of x from ≤ n → list_any (is_message from n) x.free ≡ false
  pub taken : (from n : ℕ) → came_of x from ≤ n → list_any (is_of_message from n) x.pairs ≡ false
  pub came : (from n : ℕ) → came_of x from ≤ n → list_any (is_message from n) x.came ≡ false
  pub withdrawn : x.withdrawn ≡ []
  pub own : (q o : Receive) → Has x.receives q → Has x.receives o → q.number ≡ o.number → q ≡ o
  pub same : (q o : Receive) (line : ℕ) → Has x.deeds (deed.Post q line) → Has x.receives o → q.number ≡ o.number →
      q ≡ o
  pub alone : (q : Receive) → Has x.receives q → list_any (is_of_receive q.number) x.pairs ≡ false

-- so it is with a rank of these
abbrev pub IsOrderlyAt : ℕ → List Spot → Type 0
IsOrderlyAt i s = (x : Spot) → slice_get s i ≡ Some x → IsOrderly x
