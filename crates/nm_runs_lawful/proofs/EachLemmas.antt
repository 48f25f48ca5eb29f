-- Each step leads on.
use Rattle.std.proofs.Common.{◌≡◌, ◌⊎◌, inl, inr, ℕ, ◌&&◌, ◌||◌, Bool, true, false, cond, not, Option, Some, None}
use Rattle.std.proofs.Common.{List, ◌∷◌}
use Rattle.std.proofs.Common.{refl, sym, ◌∙◌, ap, arith}
use Rattle.std.specs.Option.{option_map_or}
use Rattle.std.proofs.lemmas.Bool.{false≢true}
use Rattle.std.specs.Prelude.{MatchOption, is_some, nat_lt, option_and_then, option_map, replicate}
use Rattle.nm_types.specs.declared.answers.Answer.{Answer}
use Rattle.nm_types.specs.declared.answers.Answer.TheVariants as answer
use Rattle.nm_types.specs.declared.messages.Arrival.{Arrival}
use Rattle.nm_types.specs.declared.messages.Post as post
use Rattle.nm_types.specs.declared.scripts.Command.{Command}
use Rattle.nm_types.specs.declared.scripts.Command.TheVariants as command
use Rattle.nm_types.specs.declared.scripts.Line.{Line}
use Rattle.nm_types.specs.Sizes.{Sizes}
use Rattle.nm_types.proofs.OptionLemmas.{no_some, same_some}
use Rattle.nm_history.specs.declared.events.Happened.{Happened}
use Rattle.nm_history.specs.declared.events.Happened.TheVariants as event
use Rattle.nm_history.specs.Quiescence.{Ended, Packets}
use Rattle.nm_history.specs.declared.plain.Pair.{Pair}
use Rattle.nm_history.specs.Answers.{seen, without_bytes}
use Rattle.nm_history.specs.Completion.{Request as asked, shown}
use Rattle.nm_history.specs.Completion.Request.{Receiving, Sending}
use Rattle.nm_outcomes.specs.Logs.{Step}
use Rattle.nm_outcomes.specs.Places.{RankPoint, is_quiet, message_for, receive_for}
use Rattle.nm_outcomes.specs.Moves.{MayAnswer, asked_in, found_in, is_free_in, may_show, message_now, pair_in}
use Rattle.nm_outcomes.specs.Moves.{request_now}
use Rattle.nm_lawful.specs.Moves.{Report}
use Rattle.nm_runs_lawful.specs.Stands.{IsNext, IsRunTold, StepLeads, StepsLead}
use Rattle.nm_runs_lawful.proofs.AnsweredLemmas.{probe_answered}
use Rattle.nm_runs_lawful.proofs.ClaimedLemmas.{mprobe_busy}
use Rattle.nm_runs_lawful.proofs.HandedLemmas.{mprobe_seen}
use Rattle.nm_runs_lawful.proofs.MatchLemmas.{match_leads}
use Rattle.nm_runs_lawful.proofs.RecallLemmas.{recall_leads}
use Rattle.nm_runs_lawful.proofs.ReceivedLemmas.{mrecv_started}
use Rattle.nm_runs_lawful.proofs.ArriveLemmas.{arrive_leads, arrive_paired}
use Rattle.nm_runs_lawful.proofs.PostLemmas.{post_leads, post_paired}
use Rattle.nm_runs_lawful.proofs.SeenLemmas.{await_seen, probe_seen}
use Rattle.nm_runs_lawful.proofs.SendLemmas.{send_leads}
use Rattle.nm_runs_lawful.proofs.StopLemmas.{stop_leads}
use Rattle.nm_runs_lawful.proofs.EndedLemmas.{other_right, test_ends, wait_ends}
use Rattle.nm_runs_lawful.proofs.NamedLemmas.{command_due, may_here, recv_busy, send_busy, test_no, test_null}
use Rattle.nm_runs_lawful.proofs.NamedLemmas.{wait_null}
use Rattle.nm_runs_lawful.proofs.LiveLemmas.{request_from}
use Rattle.nm_runs_lawful.proofs.GotLemmas.{got_bytes}
use Rattle.nm_runs_lawful.proofs.OnceLemmas.{has_left}
use Rattle.nm_runs_lawful.proofs.StartedLemmas.{recv_started, send_started}
use Rattle.nm_runs_lawful.proofs.StepLemmas.{cancel_leads, claim_leads, mprobe_nothing, mrecv_busy, mrecv_null}
use Rattle.nm_runs_lawful.proofs.StepLemmas.{quiet_leads}
use Rattle.nm_runs_lawful.proofs.WithdrawLemmas.{withdrawal_leads}

-- an answer that a command can have
abbrev is_answer_of : Command → Answer → Bool
is_answer_of (command.Send to q tag ctx sync body) answer.Busy = true
is_answer_of (command.Send to q tag ctx sync body) answer.Started = true
is_answer_of (command.Recv q from tag ctx cap) answer.Busy = true
is_answer_of (command.Recv q from tag ctx cap) answer.Started = true
is_answer_of (command.Wait q) answer.Null = true
is_answer_of (command.Wait q) answer.Sent = true
is_answer_of (command.Wait q) (answer.Got from tag body) = true
is_answer_of (command.Wait q) answer.Cancelled = true
is_answer_of (command.Wait q) (answer.Cut from tag len) = true
is_answer_of (command.Test q) answer.Null = true
is_answer_of (command.Test q) answer.Sent = true
is_answer_of (command.Test q) (answer.Got from tag body) = true
is_answer_of (command.Test q) answer.Cancelled = true
is_answer_of (command.Test q) (answer.Cut from tag len) = true
is_answer_of (command.Test q) answer.No = true
is_answer_of (command.Probe from tag ctx) answer.Nothing = true
is_answer_of (command.Probe from tag ctx) (answer.Seen seen) = true
is_answer_of (command.Await from tag ctx) (answer.Seen seen) = true
is_answer_of (command.Cancel q) a = true
is_answer_of (command.Mprobe m from tag ctx) answer.Nothing = true
is_answer_of (command.Mprobe m from tag ctx) answer.Busy = true
is_answer_of (command.Mprobe m from tag ctx) (answer.Seen seen) = true
is_answer_of (command.Mrecv q m cap) answer.Started = true
is_answer_of (command.Mrecv q m cap) answer.Busy = true
is_answer_of (command.Mrecv q m cap) answer.Null = true
is_answer_of c a = false

-- .. whose bytes do not matter to that
without_so : (c : Command) (a : Answer) → is_answer_of c (without_bytes a) ≡ is_answer_of c a
without_so (command.Send to q tag ctx sync body) (answer.Got from tag' bytes) = refl
without_so (command.Recv q from tag ctx cap) (answer.Got from' tag' bytes) = refl
without_so (command.Wait q) (answer.Got from tag bytes) = refl
without_so (command.Test q) (answer.Got from tag bytes) = refl
without_so (command.Probe from tag ctx) (answer.Got from' tag' bytes) = refl
without_so (command.Await from tag ctx) (answer.Got from' tag' bytes) = refl
without_so (command.Cancel q) (answer.Got from tag bytes) = refl
without_so (command.Mprobe m from tag ctx) (answer.Got from' tag' bytes) = refl
without_so (command.Mrecv q m cap) (answer.Got from tag bytes) = refl
without_so c a = refl

-- what a request ends with, a wait and a test can answer
module _ (ends : Answer → Bool) (sent : ends answer.Sent ≡ true) (cancelled : ends answer.Cancelled ≡ true)
    (got : (from tag : ℕ) (body : List ℕ) → ends (answer.Got from tag body) ≡ true)
    (cut : (from tag len : ℕ) → ends (answer.Cut from tag len) ≡ true) (w : ℕ → RankPoint) (i : ℕ)
  where
    shown_so : (pair : Pair) → ends (shown pair) ≡ true
    shown_so pair = by_length (nat_lt pair.cap pair.arrival.env.len)
      where
        by_length : (b : Bool) →
            ends (cond b (answer.Cut pair.arrival.env.from pair.arrival.env.tag pair.arrival.env.len)
            (answer.Got pair.arrival.env.from pair.arrival.env.tag (replicate pair.arrival.env.len 0))) ≡ true
        by_length true = cut pair.arrival.env.from pair.arrival.env.tag pair.arrival.env.len
        by_length false =
            got pair.arrival.env.from pair.arrival.env.tag (replicate pair.arrival.env.len 0)

    ends_so : (r : asked) (a : Answer) → may_show w i r ≡ Some a → ends a ≡ true
    ends_so (Receiving number) a may = by_off ((w i).off number) ((w i).pairs number) may
      where
        by_off : (x : Bool) (o : Option Pair) → cond x (Some answer.Cancelled) (option_map shown o) ≡ Some a →
            ends a ≡ true
        by_off true o may = ap ends (sym (same_some answer.Cancelled a may)) ∙ cancelled
        by_off false None may = absurd (no_some a may)
        by_off false (Some pair) may = ap ends (sym (same_some (shown pair) a may)) ∙ shown_so pair
    ends_so (Sending to n) a may =
        by_end ((w to).withdrawn i n) (((w i).unasked to n || (w to).taken i n)
        && (not ((w i).recalled to n) || ((w to).arrived i n && not (is_free_in (w to) i n)))) may
      where
        by_end : (x y : Bool) → cond x (Some answer.Cancelled) (cond y (Some answer.Sent) None) ≡ Some a →
            ends a ≡ true
        by_end true y may = ap ends (sym (same_some answer.Cancelled a may)) ∙ cancelled
        by_end false true may = ap ends (sym (same_some answer.Sent a may)) ∙ sent
        by_end false false may = absurd (no_some a may)

-- an answer that comes is one that its command can have
plain_so : (w : ℕ → RankPoint) (i line : ℕ) (c : Command) (a : Answer) → MayAnswer w i line c a →
    is_answer_of c a ≡ true
plain_so w i line (command.Send to q tag ctx sync body) a may = by_live (is_some (request_now (w i) q)) may
  where
    by_live : (b : Bool) → Some (cond b answer.Busy answer.Started) ≡ Some a →
        is_answer_of (command.Send to q tag ctx sync body) a ≡ true
    by_live true may = ap (is_answer_of (command.Send to q tag ctx sync body)) (sym (same_some answer.Busy a may))
    by_live false may = ap (is_answer_of (command.Send to q tag ctx sync body)) (sym (same_some answer.Started a may))
plain_so w i line (command.Recv q from tag ctx cap) a may = by_live (is_some (request_now (w i) q)) may
  where
    by_live : (b : Bool) → Some (cond b answer.Busy answer.Started) ≡ Some a →
        is_answer_of (command.Recv q from tag ctx cap) a ≡ true
    by_live true may = ap (is_answer_of (command.Recv q from tag ctx cap)) (sym (same_some answer.Busy a may))
    by_live false may = ap (is_answer_of (command.Recv q from tag ctx cap)) (sym (same_some answer.Started a may))
plain_so w i line (command.Wait q) a may = by_request (request_now (w i) q) may
  where
    by_request : (o : Option asked) → MatchOption o (a ≡ answer.Null) (λ request. may_show w i request ≡ Some a) →
        is_answer_of (command.Wait q) a ≡ true
    by_request None may = ap (is_answer_of (command.Wait q)) may
    by_request (Some r) may =
        ends_so (is_answer_of (command.Wait q)) refl refl (λ from tag body. refl) (λ from tag len. refl) w i r a may
plain_so w i line (command.Test q) a may = by_request (request_now (w i) q) may
  where
    by_end : (r : asked) → (a ≡ answer.No) ⊎ (may_show w i r ≡ Some a) → is_answer_of (command.Test q) a ≡ true
    by_end r (inl refused) = ap (is_answer_of (command.Test q)) refused
    by_end r (inr may) =
        ends_so (is_answer_of (command.Test q)) refl refl (λ from tag body. refl) (λ from tag len. refl) w i r a may

    by_request : (o : Option asked) → MatchOption o (a ≡ answer.Null)
        (λ request. (a ≡ answer.No) ⊎ (may_show w i request ≡ Some a)) → is_answer_of (command.Test q) a ≡ true
    by_request None may = ap (is_answer_of (command.Test q)) may
    by_request (Some r) may = by_end r may
plain_so w i line (command.Probe from tag ctx) a may = by_found (found_in (w i) from tag ctx) may
  where
    by_found : (o : Option Arrival) → Some (option_map_or seen o answer.Nothing) ≡ Some a →
        is_answer_of (command.Probe from tag ctx) a ≡ true
    by_found None may = ap (is_answer_of (command.Probe from tag ctx)) (sym (same_some answer.Nothing a may))
    by_found (Some x) may = ap (is_answer_of (command.Probe from tag ctx)) (sym (same_some (seen x) a may))
plain_so w i line (command.Await from tag ctx) a may = by_found (found_in (w i) from tag ctx) may
  where
    by_found : (o : Option Arrival) → option_map seen o ≡ Some a → is_answer_of (command.Await from tag ctx) a ≡ true
    by_found None may = absurd (no_some a may)
    by_found (Some x) may = ap (is_answer_of (command.Await from tag ctx)) (sym (same_some (seen x) a may))
plain_so w i line (command.Cancel q) a may = refl
plain_so w i line (command.Mprobe m from tag ctx) a may =
    by_live (is_some (message_now (w i) m))
    (option_and_then (λ message. (w i).known message.from message.n) ((w i).claims line))
    (is_some (found_in (w i) from tag ctx)) may
  where
    by_live : (x : Bool) (o : Option Arrival) (y : Bool) →
        cond x (Some answer.Busy) (option_map_or (λ a. Some (seen a)) o (cond y None (Some answer.Nothing)))
        ≡ Some a → is_answer_of (command.Mprobe m from tag ctx) a ≡ true
    by_live true o y may = ap (is_answer_of (command.Mprobe m from tag ctx)) (sym (same_some answer.Busy a may))
    by_live false (Some x) y may = ap (is_answer_of (command.Mprobe m from tag ctx)) (sym (same_some (seen x) a may))
    by_live false None true may = absurd (no_some a may)
    by_live false None false may =
        ap (is_answer_of (command.Mprobe m from tag ctx)) (sym (same_some answer.Nothing a may))
plain_so w i line (command.Mrecv q m cap) a may =
    by_live (is_some (request_now (w i) q)) (is_some (message_now (w i) m)) may
  where
    by_live : (x y : Bool) → Some (cond x answer.Busy (cond y answer.Started answer.Null)) ≡ Some a →
        is_answer_of (command.Mrecv q m cap) a ≡ true
    by_live true y may = ap (is_answer_of (command.Mrecv q m cap)) (sym (same_some answer.Busy a may))
    by_live false true may = ap (is_answer_of (command.Mrecv q m cap)) (sym (same_some answer.Started a may))
    by_live false false may = ap (is_answer_of (command.Mrecv q m cap)) (sym (same_some answer.Null a may))

answers_so : (w : ℕ → RankPoint) (i line : ℕ) (c : Command) (a : Answer) → MayAnswer w i line c (without_bytes a) →
    is_answer_of c a ≡ true
answers_so w i line c a may = sym (without_so c a) ∙ plain_so w i line c (without_bytes a) may

module _ (shape : Sizes) (lines : List Line) (ranks : List Ended) (packets : List Packets) (told : Report)
    (is : IsRunTold shape lines ranks packets told) (before : List Step) (s : Step) (later : List Step)
    (w : ℕ → RankPoint) (next : IsNext shape lines ranks before s later w)
  where
    abbrev Ends : Type 0
    Ends = StepLeads shape lines told before s w

    abbrev due_at : (line : ℕ) (a : Answer) → s.event.what ≡ event.Ran line a → Command
    due_at line a ran = command_due shape lines ranks packets told is before s later w next line a ran

    -- an answer
    by_answer : (line : ℕ) (c : Command) (a : Answer) (ran : s.event.what ≡ event.Ran line a) → due_at line a ran ≡ c →
        is_answer_of c a ≡ true → Ends
    by_answer line (command.Send to q tag ctx sync body) answer.Busy ran due idle =
        send_busy shape lines ranks packets told is before s later w next line ran to q tag ctx sync body due
    by_answer line (command.Recv q from tag ctx room) answer.Busy ran due idle =
        recv_busy shape lines ranks packets told is before s later w next line ran q from tag ctx room due
    by_answer line (command.Send to q tag ctx sync body) answer.Started ran due idle =
        send_started shape lines ranks packets told is before s later w next line ran to q tag ctx sync body due
    by_answer line (command.Recv q from tag ctx room) answer.Started ran due idle =
        recv_started shape lines ranks packets told is before s later w next line ran q from tag ctx room due
    by_answer line (command.Wait q) answer.Null ran due idle =
        wait_null shape lines ranks packets told is before s later w next line ran q due
    by_answer line (command.Wait q) answer.Sent ran due idle =
        wait_ends shape lines ranks packets told is before s later w next line answer.Sent ran
        (record { not_started = refl; result = refl; not_seen = refl }) q
        (λ own what start at. (
          λ sent. has_left shape lines ranks packets told is before (s ∷ later) w next.so_far s.rank own what start at,
          λ now from tag body pair same. absurd (grind arith),
        )) due
    by_answer line (command.Wait q) (answer.Got from tag body) ran due idle =
        wait_ends shape lines ranks packets told is before s later w next line (answer.Got from tag body) ran
        (record { not_started = refl; result = refl; not_seen = refl }) q
        (λ own what start at. (
          λ sent. absurd (grind arith),
          got_bytes shape lines ranks packets told is before s later w next line from tag body ran q
              (λ r now. ap (λ (c : Command). asked_in (w s.rank) c) due
              ∙ ap (λ (o : Option asked). option_and_then (pair_in (w s.rank)) o) now) (request_from what),
        )) due
    by_answer line (command.Wait q) answer.Cancelled ran due idle =
        wait_ends shape lines ranks packets told is before s later w next line answer.Cancelled ran
        (record { not_started = refl; result = refl; not_seen = refl }) q
        (other_right shape lines ranks packets told is before s later w next line answer.Cancelled ran
        (record { not_started = refl; result = refl; not_seen = refl }) q (λ same. grind arith)
        (λ from' tag' body same. grind arith)) due
    by_answer line (command.Wait q) (answer.Cut from tag len) ran due idle =
        wait_ends shape lines ranks packets told is before s later w next line (answer.Cut from tag len) ran
        (record { not_started = refl; result = refl; not_seen = refl }) q
        (other_right shape lines ranks packets told is before s later w next line (answer.Cut from tag len) ran
        (record { not_started = refl; result = refl; not_seen = refl }) q (λ same. grind arith)
        (λ from' tag' body same. grind arith)) due
    by_answer line (command.Test q) answer.Sent ran due idle =
        test_ends shape lines ranks packets told is before s later w next line answer.Sent ran
        (record { not_started = refl; result = refl; not_seen = refl }) q
        (λ own what start at. (
          λ sent. has_left shape lines ranks packets told is before (s ∷ later) w next.so_far s.rank own what start at,
          λ now from tag body pair same. absurd (grind arith),
        )) due
    by_answer line (command.Test q) (answer.Got from tag body) ran due idle =
        test_ends shape lines ranks packets told is before s later w next line (answer.Got from tag body) ran
        (record { not_started = refl; result = refl; not_seen = refl }) q
        (λ own what start at. (
          λ sent. absurd (grind arith),
          got_bytes shape lines ranks packets told is before s later w next line from tag body ran q
              (λ r now. ap (λ (c : Command). asked_in (w s.rank) c) due
              ∙ ap (λ (o : Option asked). option_and_then (pair_in (w s.rank)) o) now) (request_from what),
        )) due
    by_answer line (command.Test q) answer.Cancelled ran due idle =
        test_ends shape lines ranks packets told is before s later w next line answer.Cancelled ran
        (record { not_started = refl; result = refl; not_seen = refl }) q
        (other_right shape lines ranks packets told is before s later w next line answer.Cancelled ran
        (record { not_started = refl; result = refl; not_seen = refl }) q (λ same. grind arith)
        (λ from' tag' body same. grind arith)) due
    by_answer line (command.Test q) (answer.Cut from tag len) ran due idle =
        test_ends shape lines ranks packets told is before s later w next line (answer.Cut from tag len) ran
        (record { not_started = refl; result = refl; not_seen = refl }) q
        (other_right shape lines ranks packets told is before s later w next line (answer.Cut from tag len) ran
        (record { not_started = refl; result = refl; not_seen = refl }) q (λ same. grind arith)
        (λ from' tag' body same. grind arith)) due
    by_answer line (command.Test q) answer.Null ran due idle =
        test_null shape lines ranks packets told is before s later w next line ran q due
    by_answer line (command.Test q) answer.No ran due idle =
        test_no shape lines ranks packets told is before s later w next line ran q due
    by_answer line (command.Probe from tag ctx) answer.Nothing ran due idle =
        probe_answered shape lines ranks packets told is before s later w next line answer.Nothing ran from tag ctx
        due refl
    by_answer line (command.Probe from tag ctx) (answer.Seen x) ran due idle =
        probe_seen shape lines ranks packets told is before s later w next line x ran from tag ctx due
    by_answer line (command.Await from tag ctx) (answer.Seen x) ran due idle =
        await_seen shape lines ranks packets told is before s later w next line x ran from tag ctx due
    by_answer line (command.Cancel q) a ran due idle =
        cancel_leads shape lines ranks packets told is before s later w next line a ran q due
    by_answer line (command.Mprobe m from tag ctx) answer.Nothing ran due idle =
        mprobe_nothing shape lines ranks packets told is before s later w next line ran m from tag ctx due
    by_answer line (command.Mprobe m from tag ctx) answer.Busy ran due idle =
        mprobe_busy shape lines ranks packets told is before s later w next line ran m from tag ctx due
    by_answer line (command.Mprobe m from tag ctx) (answer.Seen x) ran due idle =
        mprobe_seen shape lines ranks packets told is before s later w next line x ran m from tag ctx due
    by_answer line (command.Mrecv q m room) answer.Started ran due idle =
        mrecv_started shape lines ranks packets told is before s later w next line ran q m room due
    by_answer line (command.Mrecv q m room) answer.Busy ran due idle =
        mrecv_busy shape lines ranks packets told is before s later w next line ran q m room due
    by_answer line (command.Mrecv q m room) answer.Null ran due idle =
        mrecv_null shape lines ranks packets told is before s later w next line ran q m room due
    by_answer line c a ran due idle = absurd (false≢true idle)

    by_event : (what : Happened) → s.event.what ≡ what → Ends
    by_event (event.Ran line a) ran =
        by_answer line (due_at line a ran) a ran refl
        (answers_so w s.rank line (due_at line a ran) a
        (may_here shape lines ranks packets told is before s later w next line a ran))
    by_event (event.Claim from n line) claims =
        claim_leads shape lines ranks packets told is before s later w next from n line claims
    by_event (event.Send to n tag ctx len how line) sent =
        send_leads shape lines ranks packets told is before s later w next to n tag ctx len how line sent
    by_event (event.Match number from n cap line) matched =
        match_leads shape lines ranks packets told is before s later w next number from n cap line matched
    by_event (event.Cancel number done) cancels =
        stop_leads shape lines ranks packets told is before s later w next number done cancels
    by_event (event.Recall to n) recalls =
        recall_leads shape lines ranks packets told is before s later w next to n recalls
    by_event (event.Post p line) posted = by_message (message_for (w s.rank) p) refl
      where
        by_message : (o : Option Arrival) → message_for (w s.rank) p ≡ o → Ends
        by_message None there =
            post_leads shape lines ranks packets told is before s later w next p line posted there
        by_message (Some a) there =
            post_paired shape lines ranks packets told is before s later w next p line posted a there
    by_event (event.Arrive a) comes = by_receive (receive_for (w s.rank) a) refl
      where
        by_receive : (o : Option post.Post) → receive_for (w s.rank) a ≡ o → Ends
        by_receive None there = arrive_leads shape lines ranks packets told is before s later w next a comes there
        by_receive (Some p) there =
            arrive_paired shape lines ranks packets told is before s later w next a comes p there
    by_event (event.Whole from n) same = quiet_leads shape lines told before s w (ap is_quiet same)
    by_event (event.Out to n) same = quiet_leads shape lines told before s w (ap is_quiet same)
    by_event (event.Undone to n done) same = quiet_leads shape lines told before s w (ap is_quiet same)
    by_event (event.Withdraw from n true) same =
        withdrawal_leads shape lines ranks packets told is before s later w next from n same
    by_event (event.Withdraw from n false) same = quiet_leads shape lines told before s w (ap is_quiet same)

pub steps_lead : StepsLead
steps_lead shape lines ranks packets told before s later w is next =
    by_event shape lines ranks packets told is before s later w next s.event.what refl
