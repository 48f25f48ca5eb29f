-- Steps at which the machine does nothing, or nothing but go on.
use Rattle.std.proofs.Common.{◌≡◌, ℕ, ◌-◌, ◌==◌, ◌||◌, Bool, true, false, cond, Option, Some, None, List, [], ◌∷◌}
use Rattle.std.proofs.Common.{refl, sym, ◌∙◌, ap, subst, arith}
use Rattle.std.specs.Prelude.{is_some, not, option_and_then}
use Rattle.std.specs.List.{filter, list_any}
use Rattle.std.specs.Option.{option_map_or}
use Rattle.std.proofs.lemmas.Bool.{false≢true}
use Rattle.nm_types.specs.declared.answers.Answer.{Answer}
use Rattle.nm_types.specs.declared.answers.Answer.TheVariants as answer
use Rattle.nm_types.specs.declared.messages.Arrival.{Arrival}
use Rattle.nm_types.specs.declared.messages.Peer.{Peer}
use Rattle.nm_types.specs.declared.messages.TagPick.{TagPick}
use Rattle.nm_types.specs.declared.scripts.Command.{Command}
use Rattle.nm_types.specs.declared.scripts.Command.TheVariants as command
use Rattle.nm_types.specs.declared.scripts.Line.{Line}
use Rattle.nm_types.specs.Commands.{Numbered, command_at, commands_of}
use Rattle.nm_types.specs.Sizes.{Sizes}
use Rattle.nm_types.proofs.NumberLemmas.{same_number}
use Rattle.nm_types.proofs.OptionLemmas.{same_some}
use Rattle.nm_types.proofs.TruthLemmas.{neither, not_true}
use Rattle.nm_history.specs.declared.events.Happened.{Happened}
use Rattle.nm_history.specs.declared.events.Happened.TheVariants as event
use Rattle.nm_history.specs.Answers.{Message as claimed, is_seen, is_started, seen, without_bytes}
use Rattle.nm_history.specs.Answers.{live, request_at}
use Rattle.nm_history.specs.Completion.{Request as asked}
use Rattle.nm_history.specs.Completion.Request.{Receiving, Sending}
use Rattle.nm_history.specs.Quiescence.{Ended, Packets, history_of}
use Rattle.nm_history.specs.RankRun.{is_cancelling, is_start, ran_lines, since_command}
use Rattle.nm_history.specs.RankRun.{CancelsFor, CancelsOf}
use Rattle.nm_history.proofs.ResultLemmas.{bytes_no_matter}
use Rattle.nm_outcomes.specs.Due.{IsAnswerOf, IsDue}
use Rattle.nm_outcomes.specs.Logs.{Step, history_in}
use Rattle.nm_outcomes.specs.Moves.{MayAnswer, cancel_in, found_in, message_now, request_now}
use Rattle.nm_outcomes.specs.Paths.{moved}
use Rattle.nm_outcomes.specs.Places.{RankPoint, is_quiet}
use Rattle.nm_outcomes.proofs.LogLemmas.{at_of, own_run}
use Rattle.nm_lawful.specs.declared.messages.Act.TheVariants as act
use Rattle.nm_lawful.specs.declared.messages.Claim.{Claim}
use Rattle.nm_lawful.specs.declared.messages.Request.{Request}
use Rattle.nm_lawful.specs.declared.messages.Standing.TheVariants as standing
use Rattle.nm_lawful.specs.Replies.{cancelled_at_lem}
use Rattle.nm_lawful.specs.Moves.{Report}
use Rattle.nm_lawful.specs.Ranks.{handle_lem}
use Rattle.nm_runs_lawful.specs.Stands.{AreAlike, IsNext, IsRunTold, StepLeads, claim_by, handle_of, is_begun}
use Rattle.nm_runs_lawful.specs.Stands.{message_by}
use Rattle.nm_runs_lawful.specs.Stands.{claimed_at, is_sync, rank_of, request_by, standing_of}
use Rattle.nm_runs_lawful.proofs.AlikeLemmas.{claim_alike, own_of, seen_of}
use Rattle.nm_runs_lawful.proofs.AnsweredLemmas.{IsPlain, cancel_answered, cancels_for, due, plain_answered}
use Rattle.nm_runs_lawful.proofs.AnsweredLemmas.{no_bytes}
use Rattle.nm_runs_lawful.proofs.LiveLemmas.{one_lives, request_from}
use Rattle.nm_runs_lawful.proofs.HandleLemmas.{handle_ran, no_message, not_yet}
use Rattle.nm_runs_lawful.proofs.NamedLemmas.{act_at, busy_is, command_due, leads, may_here, none_live, null_is}
use Rattle.nm_runs_lawful.proofs.NamedLemmas.{some_live}
use Rattle.nm_runs_lawful.proofs.QuietLemmas.{IsHidden, hidden_alike, hidden_leads, moved_alike}
use Rattle.nm_runs_lawful.proofs.ToldLemmas.{step_split}

-- where there is none of two kinds, there is none of either
pub no_first : (p q : Happened → Bool) (ws : List Happened) → list_any (λ what. p what || q what) ws ≡ false →
    filter p ws ≡ []
no_first p q [] none = refl
no_first p q (what ∷ ws) none =
    let two = neither (p what || q what) (list_any (λ what. p what || q what) ws) none in
    ap (λ (b : Bool). cond b (what ∷ filter p ws) (filter p ws)) (neither (p what) (q what) two.0).0
    ∙ no_first p q ws two.1

no_second : (p q : Happened → Bool) (ws : List Happened) → list_any (λ what. p what || q what) ws ≡ false →
    filter q ws ≡ []
no_second p q [] none = refl
no_second p q (what ∷ ws) none =
    let two = neither (p what || q what) (list_any (λ what. p what || q what) ws) none in
    ap (λ (b : Bool). cond b (what ∷ filter q ws) (filter q ws)) (neither (p what) (q what) two.0).1
    ∙ no_second p q ws two.1

pub some_first : {X : Type 0} {x : X} {xs : List X} → x ∷ xs ≡ [] → ⊥
some_first same = grind arith

-- an event that is quiet shows nothing
quiet_hidden : (what : Happened) → is_quiet what ≡ true → IsHidden what
quiet_hidden (event.Whole from n) quiet = tt
quiet_hidden (event.Out to n) quiet = tt
quiet_hidden (event.Undone to n done) quiet = tt
quiet_hidden (event.Withdraw from n done) quiet = late done quiet
  where
    late : (b : Bool) → not b ≡ true → b ≡ false
    late true no_way = sym no_way
    late false quiet = refl
quiet_hidden what quiet = absurd (false≢true quiet)

quiet_blank : (commands : List Numbered) (v : ℕ → RankPoint) (i : ℕ) (what : Happened) → is_quiet what ≡ true →
    (request_by commands v i what ≡ None) × (message_by v i what ≡ None) × (claim_by commands v i what ≡ None)
quiet_blank commands v i (event.Whole from n) quiet = (refl, refl, refl)
quiet_blank commands v i (event.Out to n) quiet = (refl, refl, refl)
quiet_blank commands v i (event.Undone to n done) quiet = (refl, refl, refl)
quiet_blank commands v i (event.Withdraw from n done) quiet = (refl, refl, refl)
quiet_blank commands v i what quiet = absurd (false≢true quiet)

pub quiet_leads : (shape : Sizes) (lines : List Line) (told : Report) (before : List Step) (s : Step)
    (w : ℕ → RankPoint) → is_quiet s.event.what ≡ true → StepLeads shape lines told before s w
quiet_leads shape lines told before s w quiet =
    let blank = quiet_blank (commands_of s.rank lines) (moved lines w s) s.rank s.event.what quiet in
    hidden_leads shape lines told before s w (quiet_hidden s.event.what quiet)
    (record { request = blank.0; message = blank.1; claim = blank.2 })

module _ (shape : Sizes) (lines : List Line) (ranks : List Ended) (packets : List Packets) (told : Report)
    (is : IsRunTold shape lines ranks packets told) (before : List Step) (s : Step) (later : List Step)
    (w : ℕ → RankPoint) (next : IsNext shape lines ranks before s later w)
  where
    -- a claim, of which the machine learns by its answer (3.8.2)
    pub claim_leads : (from n line : ℕ) → s.event.what ≡ event.Claim from n line → StepLeads shape lines told before s w
    claim_leads from n line claims =
        hidden_leads shape lines told before s w hidden (record {
          request = ap (λ (what : Happened). request_by commands (moved lines w s) s.rank what) claims;
          message = ap (λ (what : Happened). message_by (moved lines w s) s.rank what) claims;
          claim = claim_alike w (moved lines w s) s.rank (own_of (w s.rank) (moved lines w s s.rank) (alike s.rank))
              (λ r. seen_of (w r) (moved lines w s r) (alike r)) commands s.event.what
              ∙ ap (λ (what : Happened). claim_by commands w s.rank what) claims
              ∙ by_handle (option_and_then handle_of (command_at commands line));
        })
      where
        commands : List Numbered
        commands = commands_of s.rank lines

        hidden : IsHidden s.event.what
        hidden = subst IsHidden (sym claims) tt

        alike : AreAlike w (moved lines w s)
        alike = moved_alike lines w s (hidden_alike s.rank commands (w s.rank) s.event.what hidden)

        due : IsAnswerOf (commands_of s.rank lines) (history_in before s.rank) line
        due =
            (subst (λ (what : Happened). IsDue shape.eager (commands_of s.rank lines) (history_in before s.rank)
            what) claims
            next.due).0

        new : list_any (λ l. l == line) (ran_lines (history_in before s.rank)) ≡ false
        new =
            subst (λ (n : ℕ). list_any (λ l. l == n) (ran_lines (history_in before s.rank)) ≡ false) due.line_is
            (not_yet s.rank lines (at_of shape lines ranks packets is.run s.rank) (history_of ranks s.rank)
            (history_in before s.rank) (s.event ∷ history_in later s.rank) due.command
            (own_run shape lines ranks packets is.run s.rank).answers
            (step_split shape lines ranks packets told is before later s next.so_far.whole) due.next)

        by_stands : (m : ℕ) (o : Option ℕ) → (w s.rank).handled m ≡ o →
            option_map_or (λ l. l == line) o false ≡ true → ⊥
        by_stands m None stands same = false≢true same
        by_stands m (Some l) stands same =
            false≢true (sym new
            ∙ ap (λ (n : ℕ). list_any (λ l. l == n) (ran_lines (history_in before s.rank))) (sym (same_number l line
            same))
            ∙ handle_ran (commands_of s.rank lines) m (history_in before s.rank) l
            (sym ((next.so_far.places s.rank).handled m) ∙ stands))

        by_handle : (o : Option ℕ) →
            option_and_then (λ (m : ℕ). cond (option_map_or (λ l. l == line) ((w s.rank).handled m) false)
            (claimed_at w s.rank m from n) None) o ≡ None
        by_handle None = refl
        by_handle (Some m) =
            ap (λ (b : Bool). cond b (claimed_at w s.rank m from n)
            None)
            (not_true (option_map_or (λ l. l == line) ((w s.rank).handled m) false)
            (λ same. by_stands m ((w s.rank).handled m) refl same))

    -- a matched probe that finds nothing (3.8.2)
    pub mprobe_nothing : (line : ℕ) (ran : s.event.what ≡ event.Ran line answer.Nothing) (m : ℕ) (from : Peer)
        (tag : TagPick) (ctx : ℕ) →
        command_due shape lines ranks packets told is before s later w next line answer.Nothing ran
        ≡ command.Mprobe m from tag ctx → StepLeads shape lines told before s w
    mprobe_nothing line ran m from tag ctx probes =
        let may = subst (λ (c : Command). MayAnswer w s.rank line c answer.Nothing) probes
        (may_here shape lines ranks packets told is before s later w next line answer.Nothing ran) in
        leads shape lines ranks packets told is before s later w next line answer.Nothing ran
        (record { not_started = refl; no_result = refl; not_seen = refl }) (command.Mprobe m from tag ctx) probes refl
        (λ place. ap (λ (o : Option Claim). cond (is_some o) None (Some act.Pass))
        (no_message lines w (history_in before) s.rank (next.so_far.places s.rank) m (by_now (message_now (w s.rank) m)
        refl may)))
      where
        by_now : (o : Option claimed) → message_now (w s.rank) m ≡ o →
            cond (is_some o) (Some answer.Busy)
            (option_map_or (λ (a : Arrival). Some (seen a)) (option_and_then (λ message. (w s.rank).known
            message.from message.n)
            ((w s.rank).claims line))
            (cond (is_some (found_in (w s.rank) from tag ctx)) None (Some answer.Nothing))) ≡ Some answer.Nothing →
            message_now (w s.rank) m ≡ None
        by_now None now may = now
        by_now (Some x) now may = absurd (grind arith)

    -- a matched receive that is refused (3.8.3)
    either : (request message : Bool) (a : Answer) →
        Some (cond request answer.Busy (cond message answer.Started answer.Null)) ≡ Some a →
        (a ≡ answer.Busy → request ≡ true) × (a ≡ answer.Null → (request ≡ false) × (message ≡ false))
    either true message a may = (λ busy. refl, λ null. absurd (grind arith))
    either false true a may = (λ busy. absurd (grind arith), λ null. absurd (grind arith))
    either false false a may = (λ busy. absurd (grind arith), λ null. (refl, refl))

    pub mrecv_busy : (line : ℕ) (ran : s.event.what ≡ event.Ran line answer.Busy) (q m room : ℕ) →
        command_due shape lines ranks packets told is before s later w next line answer.Busy ran
        ≡ command.Mrecv q m room → StepLeads shape lines told before s w
    mrecv_busy line ran q m room receives =
        let may = subst (λ (c : Command). MayAnswer w s.rank line c answer.Busy) receives
        (may_here shape lines ranks packets told is before s later w next line answer.Busy ran) in
        let some = (either (is_some (request_now (w s.rank) q)) (is_some (message_now (w s.rank) m)) answer.Busy
        may).0 refl in
        leads shape lines ranks packets told is before s later w next line answer.Busy ran busy_is
        (command.Mrecv q m room) receives refl
        (λ place. ap (λ (b : Bool). cond b (Some act.Pass) None)
        (some_live shape lines ranks packets told is before s later w next line answer.Busy ran refl q ∙ some))

    pub mrecv_null : (line : ℕ) (ran : s.event.what ≡ event.Ran line answer.Null) (q m room : ℕ) →
        command_due shape lines ranks packets told is before s later w next line answer.Null ran
        ≡ command.Mrecv q m room → StepLeads shape lines told before s w
    mrecv_null line ran q m room receives =
        let may = subst (λ (c : Command). MayAnswer w s.rank line c answer.Null) receives
        (may_here shape lines ranks packets told is before s later w next line answer.Null ran) in
        let two = (either (is_some (request_now (w s.rank) q)) (is_some (message_now (w s.rank) m)) answer.Null
        may).1 refl in
        leads shape lines ranks packets told is before s later w next line answer.Null ran null_is
        (command.Mrecv q m room) receives refl
        (λ place. ap (λ (b : Bool). cond (b || is_some (handle_lem (rank_of lines w (history_in before) s.rank) m)) None
        (Some act.Pass))
        (some_live shape lines ranks packets told is before s later w next line answer.Null ran refl q ∙ two.0)
        ∙ ap (λ (o : Option Claim). cond (is_some o) None (Some act.Pass))
        (no_message lines w (history_in before) s.rank (next.so_far.places s.rank) m
        (none_now (message_now (w s.rank) m) two.1)))
      where
        none_now : (o : Option claimed) → is_some o ≡ false → o ≡ None
        none_now None none = refl
        none_now (Some x) none = absurd (false≢true (sym none))

    -- the answers of a cancel are plain (3.8.4)
    started_same : (a : Answer) → is_started (without_bytes a) ≡ is_started a
    started_same (answer.Got from tag body) = refl
    started_same a = refl

    seen_same : (a : Answer) → is_seen (without_bytes a) ≡ is_seen a
    seen_same (answer.Got from tag body) = refl
    seen_same a = refl

    cancel_plain : (a : Answer) (o : Option asked) → Some (option_map_or (cancel_in (w s.rank)) o answer.Null)
        ≡ Some (without_bytes a) → IsPlain a
    cancel_plain a o may =
        let plain = subst IsPlain (same_some (option_map_or (cancel_in (w s.rank)) o answer.Null) (without_bytes a) may)
        (by_request o) in
        record {
          not_started = sym (started_same a) ∙ plain.not_started;
          no_result = sym (bytes_no_matter a) ∙ plain.no_result;
          not_seen = sym (seen_same a) ∙ plain.not_seen;
        }
      where
        by_late : (b : Bool) → IsPlain (cond b answer.Late answer.Done)
        by_late true = record { not_started = refl; no_result = refl; not_seen = refl }
        by_late false = record { not_started = refl; no_result = refl; not_seen = refl }

        by_request : (o : Option asked) → IsPlain (option_map_or (cancel_in (w s.rank)) o answer.Null)
        by_request None = record { not_started = refl; no_result = refl; not_seen = refl }
        by_request (Some (Receiving number)) = by_late (is_some ((w s.rank).pairs number))
        by_request (Some (Sending to n)) = record { not_started = refl; no_result = refl; not_seen = refl }

    -- a name has the live request that it has in the rank
    live_now : (q : ℕ) → live (commands_of s.rank lines) (history_in before s.rank) q ≡ request_now (w s.rank) q
    live_now q =
        ap (λ (o : Option ℕ). option_and_then (request_at (history_in before s.rank)) o)
        (sym ((next.so_far.places s.rank).named q))
        ∙ sym (by_line ((w s.rank).named q))
      where
        by_line : (o : Option ℕ) →
            option_and_then (w s.rank).requests o ≡ option_and_then (request_at (history_in before s.rank)) o
        by_line None = refl
        by_line (Some l) = (next.so_far.places s.rank).requests l

    -- the cancels since the last command are those of the request
    cancels_now : (line : ℕ) (a : Answer) (ran : s.event.what ≡ event.Ran line a) (q : ℕ) →
        command_due shape lines ranks packets told is before s later w next line a ran ≡ command.Cancel q →
        CancelsOf (history_in before s.rank) (request_now (w s.rank) q)
    cancels_now line a ran q cancels =
        subst (λ (o : Option asked). CancelsOf (history_in before s.rank) o) (live_now q)
        (subst (λ (c : Command). CancelsFor (commands_of s.rank lines) (history_in before s.rank) c) cancels
        (cancels_for shape lines ranks packets told is before s later w next line a ran))

    -- a cancel of a name that has nothing (3.8.4)
    cancel_null : (line : ℕ) (ran : s.event.what ≡ event.Ran line answer.Null) (q : ℕ) →
        command_due shape lines ranks packets told is before s later w next line answer.Null ran ≡ command.Cancel q →
        request_now (w s.rank) q ≡ None → is_begun (history_in before s.rank) ≡ false →
        StepLeads shape lines told before s w
    cancel_null line ran q cancels none idle =
        plain_answered shape lines ranks packets told is before s later w next line answer.Null ran null_is idle
        (ap (λ (c : Command). act_at shape lines ranks packets told is before s later w next line
        ((due shape lines ranks packets told is before s later w next line answer.Null ran).command.line - 2) c
        (Some answer.Null)) cancels
        ∙ ap (λ (o : Option Request). option_map_or (λ r. cancelled_at_lem r.place r.standing answer.Null) o
        (Some act.Pass))
        (none_live shape lines ranks packets told is before s later w next line answer.Null ran refl q none))

    -- a cancel of a send that was cancelled before (3.8.4)
    cancel_again : (line : ℕ) (ran : s.event.what ≡ event.Ran line answer.Asked) (q to n : ℕ) →
        command_due shape lines ranks packets told is before s later w next line answer.Asked ran ≡ command.Cancel q →
        request_now (w s.rank) q ≡ Some (Sending to n) → is_begun (history_in before s.rank) ≡ false →
        StepLeads shape lines told before s w
    cancel_again line ran q to n cancels now idle =
        let live = one_lives lines w (history_in before) s.rank (next.so_far.places s.rank)
        ((next.so_far.places s.rank).begun
        ∙ no_first is_start is_cancelling (since_command (history_in before s.rank)) idle) q (Sending to n) now in
        plain_answered shape lines ranks packets told is before s later w next line answer.Asked ran
        (record { not_started = refl; no_result = refl; not_seen = refl }) idle
        (ap (λ (c : Command). act_at shape lines ranks packets told is before s later w next line
        ((due shape lines ranks packets told is before s later w next line answer.Asked ran).command.line - 2) c
        (Some answer.Asked)) cancels
        ∙ ap (λ (o : Option Request). option_map_or (λ r. cancelled_at_lem r.place r.standing answer.Asked) o None)
        live.lives_so
        ∙ by_start live.what (live.line - 2) live.request)
      where
        recalled : (w s.rank).recalled to n ≡ true
        recalled =
            (next.so_far.places s.rank).recalled to n
            ∙ (subst (λ (o : Option asked). CancelsOf (history_in before s.rank) o) now
            (cancels_now line answer.Asked ran q cancels)).0

        by_withdrawn : (place : ℕ) (withdrawn recalled sync : Bool) → recalled ≡ true →
            cancelled_at_lem place (cond withdrawn standing.Withdrawn
            (cond recalled (standing.Recalled sync) (standing.Send sync))) answer.Asked ≡ Some act.Pass
        by_withdrawn place true recalled sync is = refl
        by_withdrawn place false true sync is = refl
        by_withdrawn place false false sync is = absurd (false≢true is)

        by_start : (what : Happened) (place : ℕ) → request_from what ≡ Sending to n →
            cancelled_at_lem place (standing_of (commands_of s.rank lines) w s.rank what) answer.Asked
            ≡ Some act.Pass
        by_start (event.Send to' n' tag ctx len how own) place is =
            let one : to ≡ to' = cc in
            let two : n ≡ n' = cc in
            by_withdrawn place ((w to').withdrawn s.rank n') ((w s.rank).recalled to' n')
            (option_map_or is_sync (command_at (commands_of s.rank lines) own) false)
            (subst (λ (t : ℕ). (w s.rank).recalled t n' ≡ true) one
            (subst (λ (k : ℕ). (w s.rank).recalled to k ≡ true) two recalled))
        by_start what place is = absurd (grind arith)

    abbrev CancelLeads : ℕ → ℕ → Answer → Type 0
    CancelLeads line q a =
        (ran : s.event.what ≡ event.Ran line a) →
        command_due shape lines ranks packets told is before s later w next line a ran ≡ command.Cancel q →
        StepLeads shape lines told before s w

    -- a cancel (3.8.4)
    pub cancel_leads : (line : ℕ) (a : Answer) (ran : s.event.what ≡ event.Ran line a) (q : ℕ) →
        command_due shape lines ranks packets told is before s later w next line a ran ≡ command.Cancel q →
        StepLeads shape lines told before s w
    cancel_leads line a ran q cancels =
        by_begun (is_begun (history_in before s.rank)) refl
      where
        may : Some (option_map_or (cancel_in (w s.rank)) (request_now (w s.rank) q) answer.Null)
            ≡ Some (without_bytes a)
        may =
            subst (λ (c : Command). MayAnswer w s.rank line c (without_bytes a)) cancels
            (may_here shape lines ranks packets told is before s later w next line a ran)

        may_now : (o : Option asked) → request_now (w s.rank) q ≡ o →
            Some (option_map_or (cancel_in (w s.rank)) o answer.Null) ≡ Some (without_bytes a)
        may_now o now =
            subst (λ (o : Option asked). Some (option_map_or (cancel_in (w s.rank)) o answer.Null)
            ≡ Some (without_bytes a)) now may

        by_request : (o : Option asked) → request_now (w s.rank) q ≡ o → is_begun (history_in before s.rank) ≡ false →
            CancelsOf (history_in before s.rank) o → StepLeads shape lines told before s w
        by_request None now idle of =
            subst (CancelLeads line q)
            (sym (no_bytes answer.Null a (λ from tag body is. grind arith) (may_now None now)))
            (λ ran cancels. cancel_null line ran q cancels now idle) ran cancels
        by_request (Some (Receiving number)) now idle of =
            absurd (some_first
            (sym of ∙ no_second is_start is_cancelling (since_command (history_in before s.rank)) idle))
        by_request (Some (Sending to n)) now idle of =
            subst (CancelLeads line q) (sym (no_bytes answer.Asked a (λ from tag body is. grind arith)
            (may_now (Some (Sending to n)) now)))
            (λ ran cancels. cancel_again line ran q to n cancels now idle) ran cancels

        by_begun : (b : Bool) → is_begun (history_in before s.rank) ≡ b → StepLeads shape lines told before s w
        by_begun true begun =
            cancel_answered shape lines ranks packets told is before s later w next line a ran
            (cancel_plain a (request_now (w s.rank) q) may) begun
        by_begun false idle =
            by_request (request_now (w s.rank) q) refl idle (cancels_now line a ran q cancels)
