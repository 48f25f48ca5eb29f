-- The names of a process's requests, and the handles of its claimed messages.
use Rattle.std.specs.Prelude.{◌≡◌, ℕ, ◌<◌, Option, Some, option_map, option_and_then, IfSome, IsTrue}
use Rattle.std.specs.Prelude.{List, nat_eq}
use Rattle.std.specs.Map.{lookup}
use Rattle.nm_history.specs.Answers.{Message}
use Rattle.nm_history.specs.Completion.{Request}
use Rattle.nm_history.specs.Happens.{happened, is_arrival}
use Rattle.nm_history.specs.Matching.{is_claimed, matched_pairs}
use Rattle.nm_history.specs.declared.events.Event.{Event}
use Rattle.nm_request.specs.declared.Req.{Req}
use Rattle.nm_request.specs.Requests.{Live, kind_of}
use Rattle.nm_rank.specs.Ranks.{request_of}
use Rattle.nm_process.specs.declared.steps.Handle.{Handle}
use Rattle.nm_process.specs.Processes.{ProcessView}

-- the request that a name stands for
abbrev pub request_named : Live → List (ℕ × Req) → ℕ → Option Request
request_named requests names q =
    option_map request_of (option_and_then (kind_of requests) (lookup (nat_eq q) names))

-- what a name of a process stands for
abbrev pub named : ProcessView → ℕ → Option Request
named v q = request_named v.rank.requests v.names q

-- the message of a handle
abbrev pub message_with : Handle → Message
message_with x = record { from = x.from; n = x.n }

-- what a handle of a process stands for
abbrev pub handled : ProcessView → ℕ → Option Message
handled v m = option_map message_with (lookup (nat_eq m) v.handles)

-- a request was added before the next one
abbrev pub IsOlder : Live → Req → Type 0
IsOlder requests r = r.turn < requests.added

-- a message came and was claimed, and no receive took it yet
pub record IsHeld (h : List Event) (x : Handle) : Type 0 where
  pub came : IsTrue (happened (is_arrival x.from x.n) h)
  pub claimed : IsTrue (is_claimed h (matched_pairs h) x.from x.n)

-- each name was given a request of its own, which may have ended since
pub record AreGiven (requests : Live) (names : List (ℕ × Req)) : Type 0 where
  pub older : (q : ℕ) → IfSome (lookup (nat_eq q) names) (IsOlder requests)
  pub one_name :
      (q p : ℕ) (r : Req) → lookup (nat_eq q) names ≡ Some r → lookup (nat_eq p) names ≡ Some r →
      q ≡ p

-- each handle stands for a claimed message of its own
pub record AreHeld (h : List Event) (handles : List (ℕ × Handle)) : Type 0 where
  pub held : (m : ℕ) → IfSome (lookup (nat_eq m) handles) (IsHeld h)
  pub one_handle :
      (m k : ℕ) (x : Handle) → lookup (nat_eq m) handles ≡ Some x →
      lookup (nat_eq k) handles ≡ Some x → m ≡ k
