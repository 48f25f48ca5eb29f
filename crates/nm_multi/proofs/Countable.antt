-- The messages that a log of programs shows are short, since those that programs send are.
use Rattle.std.proofs.Common.{◌≡◌, ℕ, zero, suc, ◌+◌, ◌*◌, ◌/◌, ◌%◌, ◌^◌, ◌<◌, ◌≤◌, ◌==◌, Bool, true, false, cond}
use Rattle.std.proofs.Common.{Option, None, Some, List, [], ◌∷◌, ◌++◌, length}
use Rattle.std.proofs.Common.{refl, sym, ap, subst, arith}
use Rattle.std.specs.Prelude.{slice_get}
use Rattle.std.proofs.Math.Nat.{mul-le-mul_left}
use Rattle.std.proofs.lemmas.List.FromFn.{length-map-range_with_len}
use Rattle.std.proofs.lemmas.List.Sums.{sum_by-cons}
use Rattle.std.specs.List.{AllByRecursion, cons_option}
use Rattle.std.specs.Option.{option_map_or}
use Rattle.nm_types.specs.declared.answers.Answer.TheVariants as answer
use Rattle.nm_types.specs.declared.scripts.Body.{Body}
use Rattle.nm_types.specs.declared.scripts.Body.TheVariants.{Gen}
use Rattle.nm_types.specs.Bodies.{bytes_of, generated_byte}
use Rattle.nm_request.specs.declared.Req.{Req}
use Rattle.nm_rank.specs.Ranks.{RankView}
use Rattle.nm_rank.specs.Requests.{pair_with}
use Rattle.nm_multi.specs.declared.calls.Call.{Call}
use Rattle.nm_multi.specs.declared.calls.Call.TheVariants as call
use Rattle.nm_multi.specs.declared.calls.Entry.{Entry}
use Rattle.nm_multi.specs.declared.calls.Reply.{Reply}
use Rattle.nm_multi.specs.declared.calls.Reply.TheVariants as reply
use Rattle.nm_multi.specs.declared.turns.Progress.{Progress}
use Rattle.nm_multi.specs.Acts.{Acts, Leads, ShowsBody, bodies_of, body_sent}
use Rattle.nm_multi.specs.Programs.{FollowsProgram, IsWhole, entries_of, finish_or_pump, next_call, no_progress}
use Rattle.nm_multi.specs.Programs.{progress_after}
use Rattle.nm_multi.specs.Text.{bytes_got, shown}
use Rattle.nm_multi.proofs.Going.{more_sent}
use Rattle.nm_types.proofs.NumberLemmas.{eq_true}
use Rattle.nm_types.proofs.ListLemmas.{all_append}
use Rattle.nm_types.proofs.OptionLemmas.{some_and}

-- a body has fewer than 64 bytes
abbrev IsShort : Body → Type 0
IsShort body = length (bytes_of body) < 64

-- so has the one that a call sends
abbrev SendsShort : Call → Type 0
SendsShort (call.Isend tag body) = IsShort body
SendsShort _ = Unit {0}

finish_short : (o : Option Req) → SendsShort (finish_or_pump o)
finish_short None = tt
finish_short (Some r) = tt

chosen_short : (t n : ℕ) (r s : Option Req) (b0 b1 b2 b3 : Bool) → IsShort (Gen n) →
    SendsShort (cond b0 (call.Isend t (Gen n))
    (cond b1 (call.Irecv t 64) (cond b2 call.Pump (cond b3 (finish_or_pump r) (finish_or_pump s)))))
chosen_short t n r s true b1 b2 b3 short = short
chosen_short t n r s false true b2 b3 short = tt
chosen_short t n r s false false true b3 short = tt
chosen_short t n r s false false false true short = finish_short r
chosen_short t n r s false false false false short = finish_short s

next_short : (t : ℕ) (p : Progress) → SendsShort (next_call t p)
next_short t p =
    let n : ℕ = p.made / 5 % 64 in
    let long = length-map-range_with_len generated_byte 0 n in
    chosen_short t n p.received p.sent (p.made % 5 == 0) (p.made % 5 == 1) (p.made % 5 == 2)
    (p.made % 5 == 3) (omega (arith, long))

follow_short : (t : ℕ) (p : Progress) (es : List Entry) → FollowsProgram t p es →
    AllByRecursion (λ e. SendsShort e.call) es
follow_short t p [] follows = tt
follow_short t p (e ∷ es) follows = (
  subst (λ (c : Call). SendsShort c) (sym follows.0) (next_short t p),
  follow_short t (progress_after p e.reply) es follows.1,
)

-- what holds of the entries of each thread holds of all
of_threads : (P : Entry → Type 0) (threads : ℕ) (log : List Entry) →
    AllByRecursion (λ e. e.who < threads) log →
    ((t : ℕ) → t < threads → AllByRecursion P (entries_of t log)) → AllByRecursion P log
of_threads P threads [] whose each = tt
of_threads P threads (e ∷ log) whose each =
    let first = subst (λ (b : Bool). AllByRecursion P (cond b (e ∷ entries_of e.who log) (entries_of e.who log)))
    (eq_true e.who e.who refl) (each e.who whose.0) in
    (first.0, of_threads P threads log whose.1 (λ t below. rest t (e.who == t) (each t below)))
  where
    rest : (t : ℕ) (b : Bool) → AllByRecursion P (cond b (e ∷ entries_of t log) (entries_of t log)) →
        AllByRecursion P (entries_of t log)
    rest t true all = all.1
    rest t false all = all

at_place : (P : Body → Type 0) (xs : List Body) (k : ℕ) (x : Body) → AllByRecursion P xs →
    slice_get xs k ≡ Some x → P x
at_place P [] k x each at = absurd (clash at) where
  clash : ◌≡◌ {A = Option Body} None (Some x) → ⊥
  clash e = cc
at_place P (y ∷ ys) zero x each at = let same : y ≡ x = cc in subst P same each.0
at_place P (y ∷ ys) (suc k) x each at = at_place P ys k x each.1 at

-- a reply shows no more bytes than that
got_short : (sent : List Body) (c : Call) (r : Reply) (old new : RankView) → Acts c r old new →
    ShowsBody sent old c r → AllByRecursion IsShort sent → option_map_or (λ len. len) (shown r) 0 ≤ 64
got_short sent (call.Finish q) (reply.Ended (answer.Got from tag body)) old new acts shows short =
    let pair = some_and _ (pair_with old q) shows in
    let b = some_and (λ b. body ≡ bytes_of b) (slice_get sent pair.0.arrival.n) pair.2 in
    let below = at_place IsShort sent pair.0.arrival.n b.0 short b.1 in
    let long = ap (λ (l : List ℕ). length l) b.2 in
    omega (arith, below, long)
got_short sent (call.Isend tag body) (reply.Ended (answer.Got from t got)) old new acts shows short = absurd acts.1
got_short sent (call.Irecv tag cap) (reply.Ended (answer.Got from t got)) old new acts shows short = absurd acts.1
got_short sent call.Pump (reply.Ended (answer.Got from t got)) old new acts shows short = absurd acts.1
got_short sent (call.Test q) (reply.Ended (answer.Got from t got)) old new acts shows short = absurd acts.1
got_short sent (call.Cancel q) (reply.Ended (answer.Got from t got)) old new acts shows short = absurd acts.1
got_short sent c r old new acts shows short = omega arith

sent_short : (c : Call) (r : Reply) → SendsShort c → AllByRecursion IsShort (cons_option (body_sent c r) [])
sent_short (call.Isend tag body) (reply.Started r) short = (short, tt)
sent_short c r short = tt

-- nor do as many calls as there are
few_bytes : (before log : List Entry) (old new : RankView) → Leads before old log new →
    AllByRecursion IsShort (bodies_of before) → AllByRecursion (λ e. SendsShort e.call) log →
    bytes_got log ≤ 64 * length log
few_bytes before [] old new leads short each = omega arith
few_bytes before (e ∷ log) old new leads short each =
    let one = got_short (bodies_of before) e.call e.reply old leads.0 leads.1 leads.2 short in
    let rest = few_bytes (before ++ e ∷ []) log leads.0 new leads.3
    (subst (λ (bs : List Body). AllByRecursion IsShort bs) (sym (more_sent before e))
    (all_append IsShort (bodies_of before) _ short (sent_short e.call e.reply each.0))) each.1 in
    let sum : bytes_got (e ∷ log) ≡ option_map_or (λ len. len) (shown e.reply) 0 + bytes_got log =
    sum_by-cons (λ (e : Entry). option_map_or (λ len. len) (shown e.reply) 0) e log in
    omega (arith, one, rest, sum)

many_calls : (threads rounds : ℕ) → threads ≤ 16 → rounds ≤ 1000 → threads * (5 * rounds) ≤ 80000
many_calls threads rounds few short =
    let some : 5 * rounds ≤ 5000 = omega (arith, short) in
    let all : threads * (5 * rounds) ≤ threads * 5000 = mul-le-mul_left threads some in
    omega (arith, few, all)

-- the bytes that a whole log shows can be counted in 64 bits
pub countable : (threads rounds : ℕ) (log : List Entry) → IsWhole threads rounds log → threads ≤ 16 →
    rounds ≤ 1000 → bytes_got log < 2 ^ 64
countable threads rounds log is few short =
    let each = of_threads (λ e. SendsShort e.call) threads log is.programs.whose
    (λ t below. follow_short t no_progress (entries_of t log) (is.programs.follow t below)) in
    let bytes = few_bytes [] log is.replay.start is.rank is.replay.leads tt each in
    let long = is.many in
    let calls = many_calls threads rounds few short in
    omega (arith, bytes, long, calls)
