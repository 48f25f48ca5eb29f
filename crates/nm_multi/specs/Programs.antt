-- The programs of threads that share a desk, and how far each is.
use Rattle.std.specs.Prelude.{◌≡◌, ℕ, ◌+◌, ◌*◌, ◌/◌, ◌%◌, ◌<◌, ◌≤◌, ◌==◌, if◌then◌else◌, false}
use Rattle.std.specs.Prelude.{Option, None, Some, List, [], ◌∷◌, filter, length, slice_index_or}
use Rattle.std.specs.List.{AllByRecursion, list_any}
use Rattle.nm_types.specs.declared.scripts.Body.TheVariants.{Gen}
use Rattle.nm_types.specs.Sizes.{Sizes}
use Rattle.nm_request.specs.declared.Req.{Req}
use Rattle.nm_rank.specs.Ranks.{RankView}
use Rattle.nm_multi.specs.declared.calls.Call.{Call}
use Rattle.nm_multi.specs.declared.calls.Call.TheVariants as call
use Rattle.nm_multi.specs.declared.calls.Entry.{Entry}
use Rattle.nm_multi.specs.declared.calls.Reply.{Reply}
use Rattle.nm_multi.specs.declared.calls.Reply.TheVariants as reply
use Rattle.nm_multi.specs.declared.turns.Progress.{Progress}
use Rattle.nm_multi.specs.Acts.{DeskView, IsReplay, is_short}

-- the request that a reply gives, if it does
abbrev pub request_in : Reply → Option Req
request_in (reply.Started r) = Some r
request_in _ = None

-- the finish of a request, or a pump where there is none
abbrev pub finish_or_pump : Option Req → Call
finish_or_pump None = call.Pump
finish_or_pump (Some r) = call.Finish r

-- The next call of the program of a thread. A round is a send of a body that is longer from round to
-- round, a receive, a pump, and the finish of each of the two, or a pump where it was not started.
abbrev pub next_call : ℕ → Progress → Call
next_call t p =
    if p.made % 5 == 0 then call.Isend t (Gen (p.made / 5 % 64))
    else if p.made % 5 == 1 then call.Irecv t 64
    else if p.made % 5 == 2 then call.Pump
    else if p.made % 5 == 3 then finish_or_pump p.received
    else finish_or_pump p.sent

-- how far a thread is after one more call, which had this reply
abbrev pub progress_after : Progress → Reply → Progress
progress_after p r =
    record {
      made = p.made + 1;
      sent = if p.made % 5 == 0 then request_in r else p.sent;
      received = if p.made % 5 == 1 then request_in r else p.received;
    }

-- a thread that made no call
abbrev pub no_progress : Progress
no_progress = record { made = 0; sent = None; received = None }

-- how far a thread is after these calls of it
abbrev pub progress_from : Progress → List Entry → Progress
progress_from p [] = p
progress_from p (e ∷ es) = progress_from (progress_after p e.reply) es

-- each of these calls of a thread is the next one of its program
abbrev pub FollowsProgram : ℕ → Progress → List Entry → Type 0
FollowsProgram t p [] = Unit {0}
FollowsProgram t p (e ∷ es) = (e.call ≡ next_call t p) × FollowsProgram t (progress_after p e.reply) es

-- the calls of a thread in a log
abbrev pub entries_of : ℕ → List Entry → List Entry
entries_of t log = filter (λ e. e.who == t) log

-- how far a thread is by a log
abbrev pub progress_of : ℕ → List Entry → Progress
progress_of t log = progress_from no_progress (entries_of t log)

-- Each call of a log is of one of the threads, and those of each thread are a front of its program,
-- of so many rounds.
pub record ArePrograms (threads rounds : ℕ) (log : List Entry) : Type 0 where
  pub whose : AllByRecursion (λ e. e.who < threads) log
  pub follow : (t : ℕ) → t < threads → FollowsProgram t no_progress (entries_of t log)
  pub few : (t : ℕ) → t < threads → length (entries_of t log) ≤ 5 * rounds

-- the desk, and the numbers of threads and rounds
pub record TurnsView : Type 0 where
  pub desk : DeskView
  pub threads : ℕ
  pub rounds : ℕ

-- The desk has this shape, its log is of the programs of these threads, and each is as far as is
-- noted.
pub record AreTurns (shape : Sizes) (v : TurnsView) (progress : List Progress) : Type 0 where
  pub sizes : v.desk.rank.sizes ≡ shape
  pub programs : ArePrograms v.threads v.rounds v.desk.log
  pub many : length progress ≡ v.threads
  pub noted : (t : ℕ) → t < v.threads → slice_index_or progress t no_progress ≡ progress_of t v.desk.log

-- a thread made all calls of its program
abbrev pub HasMadeAll : TurnsView → ℕ → Type 0
HasMadeAll v t = length (entries_of t v.desk.log) ≡ 5 * v.rounds

-- the next call of a thread's program
abbrev pub call_of : TurnsView → ℕ → Call
call_of v t = next_call t (progress_of t v.desk.log)

-- the same threads and rounds, of one run
pub record SameTurns (old new : TurnsView) : Type 0 where
  pub shape : new.desk.rank.sizes ≡ old.desk.rank.sizes
  pub threads : new.threads ≡ old.threads
  pub rounds : new.rounds ≡ old.rounds

-- threads that made all calls of their programs still have
abbrev pub AllStayMade : TurnsView → TurnsView → Type 0
AllStayMade old new = (t : ℕ) → t < old.threads → HasMadeAll old t → HasMadeAll new t

-- the shape of the one rank
abbrev pub one_rank : Sizes
one_rank = record { ranks = 1; cells = 8; eager = 1024 }

-- These are the turns of so many threads and rounds on the one rank.
pub record AreOf (threads rounds : ℕ) (v : TurnsView) : Type 0 where
  pub sizes : v.desk.rank.sizes ≡ one_rank
  pub of_threads : v.threads ≡ threads
  pub of_rounds : v.rounds ≡ rounds

-- The log is one legal history of the one rank that has each thread's whole program, each call once
-- and in its order; and no call of it was cut short.
pub record IsWhole (threads rounds : ℕ) (log : List Entry) : Type 0 where
  pub rank : RankView
  pub replay : IsReplay one_rank log rank
  pub programs : ArePrograms threads rounds log
  pub all : (t : ℕ) → t < threads → length (entries_of t log) ≡ 5 * rounds
  pub many : length log ≡ threads * (5 * rounds)
  pub no_short : list_any (λ e. is_short e.reply) log ≡ false
