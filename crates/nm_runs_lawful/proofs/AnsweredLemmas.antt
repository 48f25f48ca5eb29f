-- A command answers, and no name and no handle is changed.
use Rattle.std.proofs.Common.{replicate, ◌≡◌, ℕ, suc, ◌+◌, ◌-◌, ◌==◌, ◌&&◌, ◌||◌, Bool, true, false, cond, Option, Some}
use Rattle.std.proofs.Common.{None, List, [], ◌∷◌, ◌++◌, length, map, refl, sym, ◌∙◌, ap, subst, arith, append-nil}
use Rattle.std.proofs.Common.{length-append}
use Rattle.std.specs.Prelude.{MatchOption}
use Rattle.std.specs.List.{cons_option, filter, list_any, slice_get}
use Rattle.std.specs.Option.{option_map_or}
use Rattle.std.proofs.lemmas.Bool.{false≢true}
use Rattle.nm_types.specs.declared.answers.Answer.{Answer}
use Rattle.nm_types.specs.declared.answers.Answer.TheVariants as answer
use Rattle.nm_types.specs.declared.messages.Peer.{Peer}
use Rattle.nm_types.specs.declared.messages.TagPick.{TagPick}
use Rattle.nm_types.specs.declared.scripts.Command.{Command}
use Rattle.nm_types.specs.declared.scripts.Command.TheVariants as command
use Rattle.nm_types.specs.declared.scripts.Line.{Line}
use Rattle.nm_types.specs.Commands.{Numbered, command_at, commands_of}
use Rattle.nm_types.specs.Sizes.{Sizes}
use Rattle.nm_types.proofs.OptionLemmas.{same_some}
use Rattle.nm_types.proofs.NumberLemmas.{eq_true}
use Rattle.nm_history.specs.declared.events.Event.{Event}
use Rattle.nm_history.specs.declared.events.Happened.{Happened}
use Rattle.nm_history.specs.declared.events.Happened.TheVariants as event
use Rattle.nm_history.specs.Answers.{claim_line_after, is_claim_for, is_question_of, is_receive_of, is_result}
use Rattle.nm_history.specs.Answers.{is_seen, without_bytes}
use Rattle.nm_history.specs.Answers.{is_start_of, is_started, line_after}
use Rattle.nm_history.specs.Quiescence.{Ended, Packets}
use Rattle.nm_history.specs.RankRun.{CancelAt, CancelsFor, StartAt, cancels_since, is_canceller, is_cancelling}
use Rattle.nm_history.specs.RankRun.{is_start}
use Rattle.nm_history.specs.RankRun.{ran_lines, ran_of, since_command, start_of, starts_since, without_number}
use Rattle.nm_history.proofs.Basic.{or_false}
use Rattle.nm_history.proofs.RankRunLemmas.{ran_lines-push, since-push}
use Rattle.nm_outcomes.specs.Due.{IsAnswerOf, IsDue}
use Rattle.nm_outcomes.specs.Logs.{Step, history_in}
use Rattle.nm_outcomes.specs.Paths.{moved}
use Rattle.nm_outcomes.specs.Places.{RankPoint, after}
use Rattle.nm_outcomes.proofs.LogLemmas.{grown_here, grown_other}
use Rattle.nm_lawful.specs.declared.messages.Act.TheVariants as act
use Rattle.nm_lawful.specs.Moves.{Report, told_at_lem}
use Rattle.nm_lawful.specs.Replies.{act_of_lem}
use Rattle.nm_runs_lawful.specs.Stands.{AreAlike, IsNext, IsRunTold, LookAlike, StepLeads, behind, claim_by, effects}
use Rattle.nm_runs_lawful.specs.Stands.{is_begun, is_match_of, message_by, rank_of, request_by, state_of, line_of}
use Rattle.nm_runs_lawful.proofs.AlikeLemmas.{IsBlank, grown_rank, kept_rank, seen_of, state_kept}
use Rattle.nm_runs_lawful.proofs.NextLemmas.{behind_next, line_there}
use Rattle.nm_runs_lawful.proofs.QuietLemmas.{first_alone, moved_alike}
use Rattle.nm_runs_lawful.proofs.RunLemmas.{run_leads}
use Rattle.nm_runs_lawful.proofs.ToldLemmas.{step_told}

-- an answer that starts nothing, ends nothing and claims nothing
pub record IsPlain (a : Answer) : Type 0 where
  pub not_started : is_started a ≡ false
  pub no_result : is_result a ≡ false
  pub not_seen : is_seen a ≡ false

pub and_nothing : (b : Bool) → (b && false) ≡ false
and_nothing true = refl
and_nothing false = refl

pub name_kept : (commands : List Numbered) (q : ℕ) (was : Option ℕ) (line : ℕ) (a : Answer) → is_started a ≡ false →
    is_result a ≡ false → line_after commands q was (event.Ran line a) ≡ was
name_kept commands q was line a first second =
    let starts : Bool = option_map_or (is_start_of q) (command_at commands line) false in
    let asks : Bool = option_map_or (is_question_of q) (command_at commands line) false in
    ap (λ (b : Bool). cond (starts && b) (Some line) (cond (asks && is_result a) None was)) first
    ∙ ap (λ (b : Bool). cond b (Some line) (cond (asks && is_result a) None was)) (and_nothing starts)
    ∙ ap (λ (b : Bool). cond (asks && b) None was) second ∙ ap (λ (b : Bool). cond b None was) (and_nothing asks)

pub handle_kept : (commands : List Numbered) (m : ℕ) (was : Option ℕ) (line : ℕ) (a : Answer) → is_seen a ≡ false →
    is_started a ≡ false → claim_line_after commands m was (event.Ran line a) ≡ was
handle_kept commands m was line a first second =
    let claims : Bool = option_map_or (is_claim_for m) (command_at commands line) false in
    let receives : Bool = option_map_or (is_receive_of m) (command_at commands line) false in
    ap (λ (b : Bool). cond (claims && b) (Some line) (cond (receives && is_started a) None was)) first
    ∙ ap (λ (b : Bool). cond b (Some line) (cond (receives && is_started a) None was)) (and_nothing claims)
    ∙ ap (λ (b : Bool). cond (receives && b) None was) second
    ∙ ap (λ (b : Bool). cond b None was) (and_nothing receives)

-- an answer that has no bytes is what it is without them
pub no_bytes : (x a : Answer) → ((from tag : ℕ) (body : List ℕ) → x ≡ answer.Got from tag body → ⊥) →
    Some x ≡ Some (without_bytes a) → a ≡ x
no_bytes x (answer.Got from tag body) none same =
    absurd (none from tag (replicate (length body) 0)
    (same_some x (answer.Got from tag (replicate (length body) 0)) same))
no_bytes x a none same = sym (same_some x a same)

-- a place looks alike behind an answer that changes no name and no handle, where nothing has started
pub answered_alike : (me : ℕ) (commands : List Numbered) (p : RankPoint) (line : ℕ) (a : Answer) → p.begun ≡ [] →
    ((q : ℕ) → line_after commands q (p.named q) (event.Ran line a) ≡ p.named q) →
    ((m : ℕ) → claim_line_after commands m (p.handled m) (event.Ran line a) ≡ p.handled m) →
    LookAlike p (after me commands p (event.Ran line a))
answered_alike me commands p line a none names handles = record {
  live = λ q own.
      ap (λ (o : Option ℕ). option_map_or (λ l. l == own) o false || false) (names q)
      ∙ ap (λ (ws : List Happened). option_map_or (λ l. l == own) (p.named q) false
      || list_any (λ what. option_map_or (λ l. l == own) (line_of what) false) ws) (sym none);
  handled = handles;
  matched = λ from n. ap (λ (ws : List Happened). list_any (is_match_of from n) ws) (sym none);
  known = λ from n. first_alone (p.known from n);
  pairs = λ number. first_alone (p.pairs number);
  off = λ number. or_false (p.off number);
  taken = λ from n. or_false (p.taken from n);
  withdrawn = λ from n. or_false (p.withdrawn from n);
  recalled = λ to n. or_false (p.recalled to n);
  lines = λ to. append-nil (p.lines to);
}

pub plain_alike : (me : ℕ) (commands : List Numbered) (p : RankPoint) (line : ℕ) (a : Answer) → p.begun ≡ [] →
    IsPlain a → LookAlike p (after me commands p (event.Ran line a))
plain_alike me commands p line a none plain =
    answered_alike me commands p line a none
    (λ q. name_kept commands q (p.named q) line a plain.not_started plain.no_result)
    (λ m. handle_kept commands m (p.handled m) line a plain.not_seen plain.not_started)

-- two kinds of which there is none
pub neither_kind : (p q : Happened → Bool) (ws : List Happened) → filter p ws ≡ [] → filter q ws ≡ [] →
    list_any (λ what. p what || q what) ws ≡ false
neither_kind p q [] none nor = refl
neither_kind p q (what ∷ ws) none nor = by_first (p what) none (neither_kind p q ws)
  where
    by_second : (b : Bool) → cond b (what ∷ filter q ws) (filter q ws) ≡ [] →
        (filter q ws ≡ [] → list_any (λ what. p what || q what) ws ≡ false) →
        (b || list_any (λ what. p what || q what) ws) ≡ false
    by_second true nor later = absurd (grind arith)
    by_second false nor later = later nor

    by_first : (b : Bool) → cond b (what ∷ filter p ws) (filter p ws) ≡ [] →
        (filter p ws ≡ [] → filter q ws ≡ [] → list_any (λ what. p what || q what) ws ≡ false) →
        ((b || q what) || list_any (λ what. p what || q what) ws) ≡ false
    by_first true none later = absurd (grind arith)
    by_first false none later = by_second (q what) nor (later none)

pub nothing_mapped : (f : Happened → Happened) (ws : List Happened) → map f ws ≡ [] → ws ≡ []
nothing_mapped f [] none = refl
nothing_mapped f (w ∷ ws) none = absurd (grind arith)

-- behind an answer as many commands took effect as ran
pub ran_effects : (h : List Event) (e : Event) (line : ℕ) (a : Answer) → e.what ≡ event.Ran line a →
    effects (h ++ e ∷ []) ≡ suc (length (ran_lines h))
ran_effects h e line a is =
    let ran : ran_lines (h ++ e ∷ []) ≡ ran_lines h ++ line ∷ [] =
    ran_lines-push h e ∙ ap (λ (what : Happened). ran_lines h ++ cons_option (ran_of what) []) is in
    let since : since_command (h ++ e ∷ []) ≡ [] = since-push h e ∙ rw is refl in
    let count : length (ran_lines h ++ line ∷ []) ≡ suc (length (ran_lines h)) =
    length-append (ran_lines h) (line ∷ []) ∙ omega arith in
    ap (λ (ls : List ℕ). length ls + cond (is_begun (h ++ e ∷ [])) 1 0) ran
    ∙ ap (λ (ws : List Happened). length (ran_lines h ++ line ∷ [])
    + cond (list_any (λ what. is_start what || is_cancelling what) ws) 1 0) since
    ∙ ap (λ (n : ℕ). n + 0) count ∙ omega arith

pub idle_effects : (h : List Event) → is_begun h ≡ false → effects h ≡ length (ran_lines h)
idle_effects h idle = ap (λ (b : Bool). length (ran_lines h) + cond b 1 0) idle ∙ omega arith

pub begun_effects : (h : List Event) → is_begun h ≡ true → effects h ≡ suc (length (ran_lines h))
begun_effects h begun = ap (λ (b : Bool). length (ran_lines h) + cond b 1 0) begun ∙ omega arith

-- a step that is an answer
module _ (shape : Sizes) (lines : List Line) (ranks : List Ended) (packets : List Packets) (told : Report)
    (is : IsRunTold shape lines ranks packets told) (before : List Step) (s : Step) (later : List Step)
    (w : ℕ → RankPoint) (next : IsNext shape lines ranks before s later w) (line : ℕ) (a : Answer)
    (ran : s.event.what ≡ event.Ran line a)
  where
    abbrev h : List Event
    h = history_in before s.rank

    abbrev commands : List Numbered
    commands = commands_of s.rank lines

    abbrev v : ℕ → RankPoint
    v = moved lines w s

    pub due : IsAnswerOf commands h line
    due = subst (λ (what : Happened). IsDue shape.eager commands h what) ran next.due

    pub here : command_at commands line ≡ Some due.command.command
    here =
        ap (λ (l : ℕ). command_at commands l) (sym due.line_is)
        ∙ is.commands.stand s.rank (length (ran_lines h)) due.command due.next

    -- it starts nothing, where it says so
    pub no_starts : is_started a ≡ false → starts_since h ≡ []
    no_starts not_started =
        let made = subst (λ (what : Happened). StartAt shape.eager commands h what) ran next.comes.own.starts in
        nothing_mapped without_number (starts_since h) (made.0
        ∙ ap (λ (b : Bool). cond b (option_map_or (start_of shape.eager commands h line) (command_at commands line)
        []) [])
        not_started)

    -- the cancels since the last command are its own
    pub cancels_for : CancelsFor commands h due.command.command
    cancels_for =
        subst (λ (o : Option Command). MatchOption o (cancels_since h ≡ []) (CancelsFor commands h)) here
        (subst (λ (what : Happened). CancelAt commands h what) ran next.comes.own.cancels)

    -- .. none, where it is no cancel
    pub no_cancels : is_canceller due.command.command ≡ false → cancels_since h ≡ []
    no_cancels none = by_command due.command.command none cancels_for
      where
        by_command : (c : Command) → is_canceller c ≡ false → CancelsFor commands h c → cancels_since h ≡ []
        by_command (command.Cancel q) none cancels = absurd (false≢true (sym none))
        by_command c none cancels = cancels

    pub idle_with : is_started a ≡ false → cancels_since h ≡ [] → is_begun h ≡ false
    idle_with not_started none = neither_kind is_start is_cancelling (since_command h) (no_starts not_started) none

    pub idle : is_started a ≡ false → is_canceller due.command.command ≡ false → is_begun h ≡ false
    idle not_started none = idle_with not_started (no_cancels none)

    blank : IsBlank lines v s.rank s.event
    blank = record {
      request = ap (λ (what : Happened). request_by commands v s.rank what) ran;
      message = ap (λ (what : Happened). message_by v s.rank what) ran;
      claim = ap (λ (what : Happened). claim_by commands v s.rank what) ran;
    }

    abbrev LooksAlike : Type 0
    LooksAlike = LookAlike (w s.rank) (after s.rank commands (w s.rank) (event.Ran line a))

    alike_ranks : LooksAlike → AreAlike w v
    alike_ranks same =
        moved_alike lines w s
        (subst (λ (what : Happened). LookAlike (w s.rank) (after s.rank commands (w s.rank) what)) (sym ran) same)

    -- the command took effect before, and its answer shows nothing more
    pub begun_leads : is_begun h ≡ true → LooksAlike → StepLeads shape lines told before s w
    begun_leads begun same = (
      0,
      sym (state_kept shape.ranks lines w before s (alike_ranks same) blank
          (ran_effects h s.event line a ran ∙ sym (begun_effects h begun))),
    )

    -- what is told of the line
    pub told_here : is_started a ≡ false → told_at_lem told None (due.command.line - 2) ≡ Some a
    told_here not_started =
        step_told shape lines ranks packets told is before later s (length (ran_lines h)) due.command a
        next.so_far.whole
        due.next (ran ∙ ap (λ (l : ℕ). event.Ran l a) (sym due.line_is))
        ∙ rw (eq_true due.command.line due.command.line refl, not_started) refl

    abbrev acts : Option Answer → Type 0
    acts o =
        act_of_lem lines (state_of shape.ranks lines w before) s.rank (rank_of lines w (history_in before) s.rank)
        (due.command.line - 2) due.command.command o
        ≡ Some act.Pass

    -- the command takes effect now, and its answer shows nothing more
    pub pass_leads : is_started a ≡ false → is_begun h ≡ false → LooksAlike → acts (Some a) →
        StepLeads shape lines told before s w
    pass_leads not_started idle same passes =
        let c = due.command in
        let there = line_there s.rank lines (length (ran_lines h)) c due.next in
        let low = there.0 in
        let place : c.line - 1 ≡ c.line - 2 + 1 = omega (arith, low) in
        run_leads lines told shape.ranks w v (history_in before) (history_in (before ++ s ∷ [])) s.rank
        next.comes.within c (ap (λ (n : ℕ). slice_get commands n) (idle_effects h idle) ∙ due.next) act.Pass (λ s. refl)
        (ap (λ (o : Option Answer). act_of_lem lines (state_of shape.ranks lines w before) s.rank
        (rank_of lines w (history_in before) s.rank) (c.line - 2) c.command o) (told_here not_started) ∙ passes)
        (grown_rank lines w v (history_in before) (history_in (before ++ s ∷ [])) s.rank s.event (alike_ranks same)
        (grown_here before s) blank
        ∙ ap (λ (n : ℕ). record (rank_of lines w (history_in before) s.rank) { at = n })
        (ap (λ (h : List Event). behind commands (effects h)) (grown_here before s)
        ∙ ap (behind commands) (ran_effects h s.event line a ran)
        ∙ behind_next commands (length (ran_lines h)) c due.next ∙ place))
        (λ k other. kept_rank lines w v (history_in before) (history_in (before ++ s ∷ [])) k (alike_ranks same k)
        (λ r. seen_of (w r) (v r) (alike_ranks same r))
        (grown_other before s k other))

    -- nothing has started where nothing starts
    pub not_begun : is_started a ≡ false → (w s.rank).begun ≡ []
    not_begun not_started = (next.so_far.places s.rank).begun ∙ no_starts not_started

    plain_here : IsPlain a → LooksAlike
    plain_here plain = plain_alike s.rank commands (w s.rank) line a (not_begun plain.not_started) plain

    -- a cancel that took effect, behind it (3.8.4)
    pub cancel_answered : IsPlain a → is_begun h ≡ true → StepLeads shape lines told before s w
    cancel_answered plain begun = begun_leads begun (plain_here plain)

    -- a command with a plain answer, which the machine may give too
    pub plain_answered : IsPlain a → is_begun h ≡ false → acts (Some a) → StepLeads shape lines told before s w
    plain_answered plain idle passes = pass_leads plain.not_started idle (plain_here plain) passes

    -- a probe that finds nothing (3.8.1)
    pub probe_answered : (from : Peer) (tag : TagPick) (ctx : ℕ) → due.command.command ≡ command.Probe from tag ctx →
        a ≡ answer.Nothing → StepLeads shape lines told before s w
    probe_answered from tag ctx probes nothing =
        let plain : IsPlain a = subst IsPlain (sym nothing)
        (record { not_started = refl; no_result = refl; not_seen = refl }) in
        plain_answered plain (idle plain.not_started (ap is_canceller probes))
        (ap (λ (c : Command). act_of_lem lines (state_of shape.ranks lines w before) s.rank
        (rank_of lines w (history_in before) s.rank) (due.command.line - 2) c (Some a)) probes
        ∙ ap (λ (a : Answer). act_of_lem lines (state_of shape.ranks lines w before) s.rank
        (rank_of lines w (history_in before) s.rank) (due.command.line - 2) (command.Probe from tag ctx) (Some a))
        nothing)
