-- A command that takes effect on its own rank's requests alone. MPI 3.1, 3.8.4.
use Rattle.std.proofs.Common.{◌≡◌, ℕ, ◌+◌, ◌-◌, ◌||◌, true, false, Option, Some, None, List, [], ◌∷◌}
use Rattle.std.proofs.Common.{◌++◌, get_or, length, refl, sym, ◌∙◌, ap, append-nil}
use Rattle.std.specs.List.{cons_option, filter_map, slice_get}
use Rattle.std.proofs.lemmas.List.Elements.{filter_map-append}
use Rattle.nm_types.specs.declared.messages.Arrival.{Arrival}
use Rattle.nm_types.specs.declared.scripts.Line.{Line}
use Rattle.nm_types.specs.Commands.{Numbered, commands_of}
use Rattle.nm_types.specs.Sizes.{Sizes}
use Rattle.nm_history.specs.declared.events.Event.{Event}
use Rattle.nm_history.specs.declared.events.Happened.{Happened}
use Rattle.nm_history.specs.declared.events.Happened.TheVariants as event
use Rattle.nm_history.specs.Quiescence.{Ended, Packets}
use Rattle.nm_history.specs.RankRun.{cancels_since, is_cancelling, is_start, ran_lines, starts_since}
use Rattle.nm_history.specs.Underway.{is_answer}
use Rattle.nm_history.proofs.Basic.{all_of}
use Rattle.nm_outcomes.specs.Due.{IsNextCommand}
use Rattle.nm_outcomes.specs.Logs.{Step, history_in}
use Rattle.nm_outcomes.specs.Paths.{moved}
use Rattle.nm_outcomes.specs.Places.{RankPoint}
use Rattle.nm_outcomes.proofs.LogLemmas.{grown_here, grown_other}
use Rattle.nm_lawful.specs.declared.messages.Act.{Act}
use Rattle.nm_lawful.specs.declared.messages.Claim.{Claim}
use Rattle.nm_lawful.specs.declared.messages.Message.{Message}
use Rattle.nm_lawful.specs.declared.messages.Request.{Request}
use Rattle.nm_lawful.specs.Moves.{Report, told_at_lem}
use Rattle.nm_lawful.specs.Ranks.{RankState, changed_by}
use Rattle.nm_lawful.specs.Replies.{act_of_lem}
use Rattle.nm_lawful.specs.States.{received_by}
use Rattle.nm_runs_lawful.specs.Stands.{IsNext, IsRunTold, SeenAlike, StepLeads, behind, claim_by, effects}
use Rattle.nm_runs_lawful.specs.Stands.{is_matched_now}
use Rattle.nm_runs_lawful.specs.Stands.{message_at, message_by, rank_of, request_by, state_of}
use Rattle.nm_runs_lawful.proofs.ChangeLemmas.{claim_as, grown_map, message_as, pending_as, row_is}
use Rattle.nm_runs_lawful.proofs.AlikeLemmas.{kept_rank}
use Rattle.nm_runs_lawful.proofs.EffectLemmas.{effects_before, effects_behind, place_on}
use Rattle.nm_runs_lawful.proofs.EndedLemmas.{moved_other}
use Rattle.nm_runs_lawful.proofs.NextLemmas.{behind_next}
use Rattle.nm_runs_lawful.proofs.RunLemmas.{run_leads}
use Rattle.nm_runs_lawful.proofs.ToldLemmas.{step_split}

-- what a rank shows of its handles and of the messages that it knows is the same
pub record KnownAlike (p q : RankPoint) : Type 0 where
  pub handled : (m : ℕ) → q.handled m ≡ p.handled m
  pub matched : (from n : ℕ) → is_matched_now q from n ≡ is_matched_now p from n
  pub known : (from n : ℕ) → q.known from n ≡ p.known from n

-- .. so its messages and claims are the same
module _ (w v : ℕ → RankPoint) (i : ℕ) (seen : (r : ℕ) → SeenAlike (w r) (v r)) where
  pub message_seen : (a : Arrival) → message_at v i a ≡ message_at w i a
  message_seen a = message_as w v i a (ap (λ (ls : List ℕ). get_or ls a.n 0)
      ((seen a.env.from).lines i))

  pub pending_seen : (what : Happened) → message_by v i what ≡ message_by w i what
  pending_seen what = pending_as w v i what (λ r n. (seen r).taken i n) (λ r n. (seen r).withdrawn i n)

  pub claim_seen : KnownAlike (w i) (v i) → (commands : List Numbered) (what : Happened) →
      claim_by commands v i what ≡ claim_by commands w i what
  claim_seen same commands (event.Claim from n line) =
      claim_as w v i commands from n line same.handled (same.matched from n) (same.known from n)
      (λ a known. message_seen a)
  claim_seen same commands what = refl

module _ (shape : Sizes) (lines : List Line) (ranks : List Ended) (packets : List Packets) (told : Report)
    (is : IsRunTold shape lines ranks packets told) (before : List Step) (s : Step) (later : List Step)
    (w : ℕ → RankPoint) (next : IsNext shape lines ranks before s later w) (c : Numbered)
    (due : IsNextCommand (commands_of s.rank lines) (history_in before s.rank) c)
    (quiet : is_answer s.event.what ≡ false) (none : starts_since (history_in before s.rank) ≡ [])
    (nor : cancels_since (history_in before s.rank) ≡ [])
    (own : (is_start s.event.what || is_cancelling s.event.what) ≡ true)
  where
    abbrev i : ℕ
    i = s.rank

    abbrev commands : List Numbered
    commands = commands_of s.rank lines

    abbrev h : List Event
    h = history_in before s.rank

    abbrev v : ℕ → RankPoint
    v = moved lines w s

    abbrev g : ℕ → List Event
    g = history_in (before ++ s ∷ [])

    abbrev row : RankState
    row = rank_of lines w (history_in before) s.rank

    pub at_before : slice_get (commands_of s.rank lines) (effects (history_in before s.rank)) ≡ Some c
    at_before =
        ap (λ (k : ℕ). slice_get commands k)
        (effects_before shape lines ranks packets told is i h s.event (history_in later i)
        (step_split shape lines ranks packets told is before later s next.so_far.whole) c due quiet none nor)
        ∙ due

    pub at_behind : behind (commands_of s.rank lines) (effects (history_in (before ++ s ∷ []) s.rank))
        ≡ c.line - 2 + 1
    at_behind =
        ap (λ (k : List Event). behind commands (effects k)) (grown_here before s)
        ∙ ap (behind commands) (effects_behind shape lines ranks packets told is i h s.event (history_in later i)
        (step_split shape lines ranks packets told is before later s next.so_far.whole) c due quiet own)
        ∙ behind_next commands (length (ran_lines h)) c due
        ∙ place_on shape lines ranks packets told is i h s.event (history_in later i)
        (step_split shape lines ranks packets told is before later s next.so_far.whole) c due quiet

    -- The machine acts so, and other ranks and the rank's handles are the same, but it may have a new request.
    pub own_grows : ((r : ℕ) → SeenAlike (w r) (moved lines w s r)) →
        KnownAlike (w s.rank) (moved lines w s s.rank) →
        message_by (moved lines w s) s.rank s.event.what ≡ None →
        claim_by (commands_of s.rank lines) (moved lines w s) s.rank s.event.what ≡ None →
        (a : Act) → ((t : List RankState) → received_by a t ≡ t) → (requests : List Request) →
        changed_by (c.line - 2) a (rank_of lines w (history_in before) s.rank)
        ≡ record (rank_of lines w (history_in before) s.rank) { requests = requests } →
        filter_map (λ (e : Event). request_by (commands_of s.rank lines) (moved lines w s) s.rank e.what)
        (history_in before s.rank ++ s.event ∷ []) ≡ requests →
        act_of_lem lines (state_of shape.ranks lines w before) s.rank (rank_of lines w (history_in before) s.rank)
        (c.line - 2) c.command (told_at_lem told None (c.line - 2)) ≡ Some a →
        StepLeads shape lines told before s w
    own_grows seen same no_message no_claim a alone requests changed are acts =
        run_leads lines told shape.ranks w v (history_in before) g i next.comes.within c at_before a alone acts
        (row_is lines v g i (c.line - 2 + 1) requests row.outgoing row.claims at_behind
        (ap (λ (k : List Event). filter_map (λ (e : Event). request_by commands v i e.what) k) (grown_here before s)
        ∙ are)
        (ap (λ (k : List Event). filter_map (λ (e : Event). message_by v i e.what) k) (grown_here before s)
        ∙ grown_map (λ (e : Event). message_by w i e.what) (λ (e : Event). message_by v i e.what) h s.event
        (all_of (λ e. message_by v i e.what ≡ message_by w i e.what) h (λ e. pending_seen w v i seen e.what))
        ∙ ap (λ (o : Option Message). row.outgoing ++ cons_option o []) no_message ∙ append-nil row.outgoing)
        (ap (λ (k : List Event). filter_map (λ (e : Event). claim_by commands v i e.what) k) (grown_here before s)
        ∙ grown_map (λ (e : Event). claim_by commands w i e.what) (λ (e : Event). claim_by commands v i e.what) h
        s.event
        (all_of (λ e. claim_by commands v i e.what ≡ claim_by commands w i e.what) h
        (λ e. claim_seen w v i seen same commands e.what))
        ∙ ap (λ (o : Option Claim). row.claims ++ cons_option o []) no_claim ∙ append-nil row.claims)
        ∙ ap (λ (r : RankState). record r { at = c.line - 2 + 1 }) (sym changed))
        (λ k other. kept_rank lines w v (history_in before) g k (moved_other lines w s k other) seen
        (grown_other before s k other))

    -- .. but it has none
    pub own_leads : ((r : ℕ) → SeenAlike (w r) (moved lines w s r)) → KnownAlike (w s.rank) (moved lines w s s.rank) →
        request_by (commands_of s.rank lines) (moved lines w s) s.rank s.event.what ≡ None →
        message_by (moved lines w s) s.rank s.event.what ≡ None →
        claim_by (commands_of s.rank lines) (moved lines w s) s.rank s.event.what ≡ None →
        (a : Act) → ((t : List RankState) → received_by a t ≡ t) → (requests : List Request) →
        changed_by (c.line - 2) a (rank_of lines w (history_in before) s.rank)
        ≡ record (rank_of lines w (history_in before) s.rank) { requests = requests } →
        filter_map (λ (e : Event). request_by (commands_of s.rank lines) (moved lines w s) s.rank e.what)
        (history_in before s.rank) ≡ requests →
        act_of_lem lines (state_of shape.ranks lines w before) s.rank (rank_of lines w (history_in before) s.rank)
        (c.line - 2) c.command (told_at_lem told None (c.line - 2)) ≡ Some a →
        StepLeads shape lines told before s w
    own_leads seen same no_request no_message no_claim a alone requests changed are acts =
        own_grows seen same no_message no_claim a alone requests changed
        (filter_map-append (λ (e : Event). request_by commands v i e.what) h (s.event ∷ [])
        ∙ ap (λ (o : Option Request). filter_map (λ (e : Event). request_by commands v i e.what) h ++ cons_option o [])
        no_request
        ∙ append-nil (filter_map (λ (e : Event). request_by commands v i e.what) h) ∙ are) acts
