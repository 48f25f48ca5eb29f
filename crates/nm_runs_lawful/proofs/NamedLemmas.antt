-- Answers that say whether a name has a live request, or not yet its result. MPI 3.1, 3.7.3, 3.8.4.
use Rattle.std.proofs.Common.{◌≡◌, ◌⊎◌, inl, inr, ℕ, ◌-◌, ◌&&◌, ◌||◌, Bool, true, false, cond, Option, Some, None, List}
use Rattle.std.proofs.Common.{refl, sym, ◌∙◌, ap, subst, arith}
use Rattle.std.specs.Prelude.{MatchOption, is_some, nat_lt, not, option_map, replicate}
use Rattle.std.specs.List.{slice_get}
use Rattle.std.specs.Option.{option_map_or}
use Rattle.std.proofs.lemmas.Bool.{false≢true}
use Rattle.nm_types.specs.declared.answers.Answer.{Answer}
use Rattle.nm_types.specs.declared.answers.Answer.TheVariants as answer
use Rattle.nm_types.specs.declared.messages.Peer.{Peer}
use Rattle.nm_types.specs.declared.messages.TagPick.{TagPick}
use Rattle.nm_types.specs.declared.scripts.Body.{Body}
use Rattle.nm_types.specs.declared.scripts.Command.{Command}
use Rattle.nm_types.specs.declared.scripts.Command.TheVariants as command
use Rattle.nm_types.specs.declared.scripts.Line.{Line}
use Rattle.nm_types.specs.Commands.{Numbered, commands_of}
use Rattle.nm_types.specs.Sizes.{Sizes}
use Rattle.nm_types.proofs.OptionLemmas.{no_some, same_some}
use Rattle.nm_history.specs.declared.events.Happened.TheVariants as event
use Rattle.nm_history.specs.declared.plain.Pair.{Pair}
use Rattle.nm_history.specs.Answers.{is_result, is_started}
use Rattle.nm_history.specs.Answers.{without_bytes}
use Rattle.nm_history.specs.Completion.{Request as asked, shown}
use Rattle.nm_history.specs.Completion.Request.{Receiving, Sending}
use Rattle.nm_history.specs.Quiescence.{Ended, Packets}
use Rattle.nm_history.specs.RankRun.{is_canceller}
use Rattle.nm_outcomes.specs.Logs.{Step, history_in}
use Rattle.nm_outcomes.specs.Moves.{Answers, MayAnswer, MayMove, is_free_in, may_show, request_now}
use Rattle.nm_outcomes.specs.Places.{RankPoint}
use Rattle.nm_lawful.specs.declared.messages.Act.{Act}
use Rattle.nm_lawful.specs.declared.messages.Act.TheVariants as act
use Rattle.nm_lawful.specs.declared.messages.Request.{Request}
use Rattle.nm_lawful.specs.Moves.{Report}
use Rattle.nm_lawful.specs.Ranks.{live_lem}
use Rattle.nm_lawful.specs.Replies.{act_of_lem, may_end_lem}
use Rattle.nm_runs_lawful.specs.Stands.{IsNext, IsRunTold, StepLeads, rank_of, state_of}
use Rattle.nm_runs_lawful.proofs.AnsweredLemmas.{IsPlain, due, idle, not_begun, plain_answered}
use Rattle.nm_runs_lawful.proofs.LiveLemmas.{as_many, none_lives}

-- what a request ends with is a result
pub shown_result : (w : ℕ → RankPoint) (i : ℕ) (r : asked) (a : Answer) → may_show w i r ≡ Some a →
    is_result a ≡ true
shown_result w i (Receiving number) a is = by_off ((w i).off number) is
  where
    result_of_cut : (pair : Pair) (b : Bool) →
        is_result (cond b (answer.Cut pair.arrival.env.from pair.arrival.env.tag pair.arrival.env.len) (answer.Got
        pair.arrival.env.from pair.arrival.env.tag (replicate pair.arrival.env.len 0))) ≡ true
    result_of_cut pair true = refl
    result_of_cut pair false = refl

    by_pair : (o : Option Pair) → option_map shown o ≡ Some a → is_result a ≡ true
    by_pair None is = absurd (no_some a is)
    by_pair (Some pair) is =
        subst (λ (x : Answer). is_result x ≡ true) (same_some (shown pair) a is)
        (result_of_cut pair (nat_lt pair.cap pair.arrival.env.len))

    by_off : (b : Bool) → cond b (Some answer.Cancelled) (option_map shown ((w i).pairs number)) ≡ Some a →
        is_result a ≡ true
    by_off true is = subst (λ (x : Answer). is_result x ≡ true) (same_some answer.Cancelled a is) refl
    by_off false is = by_pair ((w i).pairs number) is
shown_result w i (Sending j n) a is =
    by_end ((w j).withdrawn i n)
    (((w i).unasked j n || (w j).taken i n)
    && (not ((w i).recalled j n) || ((w j).arrived i n && not (is_free_in (w j) i n)))) is
  where
    by_left : (b : Bool) → cond b (Some answer.Sent) None ≡ Some a → is_result a ≡ true
    by_left true is = subst (λ (x : Answer). is_result x ≡ true) (same_some answer.Sent a is) refl
    by_left false is = absurd (no_some a is)

    by_end : (b left : Bool) → cond b (Some answer.Cancelled) (cond left (Some answer.Sent) None) ≡ Some a →
        is_result a ≡ true
    by_end true left is = subst (λ (x : Answer). is_result x ≡ true) (same_some answer.Cancelled a is) refl
    by_end false left is = by_left left is

pub busy_is : IsPlain answer.Busy
busy_is = record { not_started = refl; no_result = refl; not_seen = refl }

pub null_is : IsPlain answer.Null
null_is = record { not_started = refl; no_result = refl; not_seen = refl }

no_is : IsPlain answer.No
no_is = record { not_started = refl; no_result = refl; not_seen = refl }

module _ (shape : Sizes) (lines : List Line) (ranks : List Ended) (packets : List Packets) (told : Report)
    (is : IsRunTold shape lines ranks packets told) (before : List Step) (s : Step) (later : List Step)
    (w : ℕ → RankPoint) (next : IsNext shape lines ranks before s later w) (line : ℕ)
  where
    abbrev pub Ran : Answer → Type 0
    Ran a = s.event.what ≡ event.Ran line a

    abbrev pub command_due : (a : Answer) → Ran a → Command
    command_due a ran = (due shape lines ranks packets told is before s later w next line a ran).command.command

    -- the command may have this answer
    pub may_here : (a : Answer) (ran : Ran a) → MayAnswer w s.rank line (command_due a ran) (without_bytes a)
    may_here a ran =
        let answers : Answers w s.rank (commands_of s.rank lines) line a =
        (subst (λ what. MayMove shape lines w s.rank what) ran next.moves).0 in
        let d = due shape lines ranks packets told is before s later w next line a ran in
        let same : answers.command ≡ d.command =
        same_some answers.command d.command
        (sym answers.next
        ∙ ap (λ (k : ℕ). slice_get (commands_of s.rank lines) k) (next.so_far.places s.rank).done ∙ d.next) in
        subst (λ (c : Numbered). MayAnswer w s.rank line c.command (without_bytes a)) same answers.may

    abbrev pub lives : ℕ → Option Request
    lives q = live_lem (rank_of lines w (history_in before) s.rank) q

    pub none_live : (a : Answer) (ran : Ran a) → is_started a ≡ false → (q : ℕ) → request_now (w s.rank) q ≡ None →
        lives q ≡ None
    none_live a ran not_started q none =
        none_lives lines w (history_in before) s.rank (next.so_far.places s.rank)
        (not_begun shape lines ranks packets told is before s later w next line a ran not_started) q none

    pub some_live : (a : Answer) (ran : Ran a) → is_started a ≡ false → (q : ℕ) →
        is_some (lives q) ≡ is_some (request_now (w s.rank) q)
    some_live a ran not_started q =
        as_many lines w (history_in before) s.rank (next.so_far.places s.rank)
        (not_begun shape lines ranks packets told is before s later w next line a ran not_started) q

    -- what the machine does at a command that is due
    abbrev pub act_at : ℕ → Command → Option Answer → Option Act
    act_at place c o =
        act_of_lem lines (state_of shape.ranks lines w before) s.rank (rank_of lines w (history_in before) s.rank)
        place c o

    pub leads : (a : Answer) (ran : Ran a) → IsPlain a → (c : Command) → command_due a ran ≡ c →
        is_canceller c ≡ false →
        ((place : ℕ) → act_at place c (Some a) ≡ Some act.Pass) → StepLeads shape lines told before s w
    leads a ran plain c is_c none passes =
        let d = due shape lines ranks packets told is before s later w next line a ran in
        plain_answered shape lines ranks packets told is before s later w next line a ran plain
        (idle shape lines ranks packets told is before s later w next line a ran plain.not_started
        (ap is_canceller is_c ∙ none))
        (ap (λ (c : Command). act_at (d.command.line - 2) c (Some a)) is_c ∙ passes (d.command.line - 2))

    -- a wait or a test of a name that has nothing
    nothing_now : (q : ℕ) (o : Option asked) → request_now (w s.rank) q ≡ o →
        MatchOption o (answer.Null ≡ answer.Null) (λ r. may_show w s.rank r ≡ Some answer.Null) →
        request_now (w s.rank) q ≡ None
    nothing_now q None now may = now
    nothing_now q (Some r) now may = absurd (false≢true (shown_result w s.rank r answer.Null may))

    pub wait_null : (ran : Ran answer.Null) (q : ℕ) → command_due answer.Null ran ≡ command.Wait q →
        StepLeads shape lines told before s w
    wait_null ran q waits =
        let may = subst (λ (c : Command). MayAnswer w s.rank line c answer.Null) waits (may_here answer.Null ran) in
        let none = nothing_now q (request_now (w s.rank) q) refl may in
        leads answer.Null ran null_is (command.Wait q) waits refl
        (λ place. ap (λ (o : Option Request). option_map_or (λ r. cond (may_end_lem lines
        (rank_of lines w (history_in before) s.rank) r answer.Null) (Some (act.End q)) None) o (Some act.Pass))
        (none_live answer.Null ran refl q none))

    -- a start of a name that has a live request
    busy_now : (q : ℕ) (b : Bool) → is_some (request_now (w s.rank) q) ≡ b →
        Some (cond b answer.Busy answer.Started) ≡ Some answer.Busy → is_some (request_now (w s.rank) q) ≡ true
    busy_now q true now may = now
    busy_now q false now may = absurd (grind arith)

    refused : (ran : Ran answer.Busy) (q : ℕ) → is_some (request_now (w s.rank) q) ≡ true → (a : Act) →
        cond (not (is_some (lives q))) None (Some act.Pass) ≡ Some act.Pass
    refused ran q some a =
        ap (λ (b : Bool). cond (not b) None (Some act.Pass)) (some_live answer.Busy ran refl q ∙ some)

    pub send_busy : (ran : Ran answer.Busy) (to q tag ctx : ℕ) (sync : Bool) (body : Body) →
        command_due answer.Busy ran ≡ command.Send to q tag ctx sync body → StepLeads shape lines told before s w
    send_busy ran to q tag ctx sync body sends =
        let may = subst (λ (c : Command). MayAnswer w s.rank line c answer.Busy) sends (may_here answer.Busy ran) in
        leads answer.Busy ran busy_is (command.Send to q tag ctx sync body) sends refl
        (λ place. refused ran q (busy_now q (is_some (request_now (w s.rank) q)) refl may) act.Pass)

    pub recv_busy : (ran : Ran answer.Busy) (q : ℕ) (from : Peer) (tag : TagPick) (ctx room : ℕ) →
        command_due answer.Busy ran ≡ command.Recv q from tag ctx room → StepLeads shape lines told before s w
    recv_busy ran q from tag ctx room receives =
        let may = subst (λ (c : Command). MayAnswer w s.rank line c answer.Busy) receives (may_here answer.Busy ran) in
        leads answer.Busy ran busy_is (command.Recv q from tag ctx room) receives refl
        (λ place. refused ran q (busy_now q (is_some (request_now (w s.rank) q)) refl may) act.Pass)

    pub test_null : (ran : Ran answer.Null) (q : ℕ) → command_due answer.Null ran ≡ command.Test q →
        StepLeads shape lines told before s w
    test_null ran q tests =
        let may = subst (λ (c : Command). MayAnswer w s.rank line c answer.Null) tests (may_here answer.Null ran) in
        let none = by_now (request_now (w s.rank) q) refl may in
        leads answer.Null ran null_is (command.Test q) tests refl
        (λ place. ap (λ (o : Option Request). option_map_or (λ r. cond (may_end_lem lines
        (rank_of lines w (history_in before) s.rank) r answer.Null) (Some (act.End q)) None) o (Some act.Pass))
        (none_live answer.Null ran refl q none))
      where
        not_no : (answer.Null ≡ answer.No) → ⊥
        not_no same = grind arith

        by_either : (r : asked) → (answer.Null ≡ answer.No) ⊎ (may_show w s.rank r ≡ Some answer.Null) → ⊥
        by_either r (inl same) = not_no same
        by_either r (inr may) = false≢true (shown_result w s.rank r answer.Null may)

        by_now : (o : Option asked) → request_now (w s.rank) q ≡ o →
            MatchOption o (answer.Null ≡ answer.Null)
            (λ r. (answer.Null ≡ answer.No) ⊎ (may_show w s.rank r ≡ Some answer.Null)) →
            request_now (w s.rank) q ≡ None
        by_now None now may = now
        by_now (Some r) now may = absurd (by_either r may)

    -- a test that says `no`
    pub test_no : (ran : Ran answer.No) (q : ℕ) → command_due answer.No ran ≡ command.Test q →
        StepLeads shape lines told before s w
    test_no ran q tests =
        let may = subst (λ (c : Command). MayAnswer w s.rank line c answer.No) tests (may_here answer.No ran) in
        let some = by_now (request_now (w s.rank) q) refl may in
        leads answer.No ran no_is (command.Test q) tests refl
        (λ place. ap (λ (b : Bool). cond b (Some act.Pass) None) (some_live answer.No ran refl q ∙ some))
      where
        by_now : (o : Option asked) → request_now (w s.rank) q ≡ o →
            MatchOption o (answer.No ≡ answer.Null)
            (λ r. (answer.No ≡ answer.No) ⊎ (may_show w s.rank r ≡ Some answer.No)) →
            is_some (request_now (w s.rank) q) ≡ true
        by_now None now may = absurd (grind arith)
        by_now (Some r) now may = ap (λ (o : Option asked). is_some o) now
