-- A receive is cancelled. MPI 3.1, 3.8.4.
use Rattle.std.proofs.Common.{◌≡◌, ◌⊎◌, inl, inr, ℕ, ◌-◌, ◌==◌, ◌&&◌, ◌||◌, Bool, true, false, cond, not, Option}
use Rattle.std.proofs.Common.{Some, None, List, []}
use Rattle.std.proofs.Common.{◌∷◌, ◌++◌, map, refl, sym, ◌∙◌, ap, subst, arith, append-nil}
use Rattle.std.specs.Prelude.{is_some}
use Rattle.std.specs.List.{filter_map, list_any}
use Rattle.std.specs.Option.{option_map_or}
use Rattle.std.proofs.lemmas.Bool.{false≢true}
use Rattle.std.proofs.lemmas.List.Elements.{All-weaker}
use Rattle.std.proofs.lemmas.List.Folds.{list_any_none}
use Rattle.nm_types.specs.declared.answers.Answer.TheVariants as answer
use Rattle.nm_types.specs.declared.scripts.Line.{Line}
use Rattle.nm_types.specs.Commands.{Numbered, commands_of}
use Rattle.nm_types.specs.Sizes.{Sizes}
use Rattle.nm_types.proofs.NumberLemmas.{eq_true, same_number}
use Rattle.nm_types.proofs.OptionLemmas.{no_some, same_some}
use Rattle.nm_types.proofs.TruthLemmas.{and_left, and_right, both, not_true, or_right}
use Rattle.nm_history.specs.declared.events.Event.{Event}
use Rattle.nm_history.specs.declared.events.Happened.{Happened}
use Rattle.nm_history.specs.declared.events.Happened.TheVariants as event
use Rattle.nm_history.specs.declared.plain.Pair.{Pair}
use Rattle.nm_history.specs.Answers.{cancel_answer, is_started, live, without_bytes}
use Rattle.nm_history.specs.Completion.{Request as asked}
use Rattle.nm_history.specs.Completion.Request.{Receiving, Sending}
use Rattle.nm_history.specs.Happens.{is_same}
use Rattle.nm_history.specs.Matching.{is_of_receive, matched_pairs}
use Rattle.nm_history.specs.Quiescence.{Ended, Packets, history_of}
use Rattle.nm_history.specs.RankRun.{CancelsOf, cancels_since, is_cancelling, is_start}
use Rattle.nm_history.specs.RankRun.{starts_since}
use Rattle.nm_history.specs.Sends.{receive_of}
use Rattle.nm_history.specs.Underway.{is_answer}
use Rattle.nm_history.proofs.Basic.{or_false, same_done}
use Rattle.nm_history.proofs.Lasting.{by_splits, filter_map_same}
use Rattle.nm_history.proofs.OnceLemmas.{eqb_self}
use Rattle.nm_outcomes.specs.Due.{IsCancelOf, IsDue}
use Rattle.nm_outcomes.specs.Logs.{Step, history_in}
use Rattle.nm_outcomes.specs.Moves.{MayMove}
use Rattle.nm_outcomes.specs.Paths.{moved}
use Rattle.nm_outcomes.specs.Places.{RankPoint, after}
use Rattle.nm_lawful.specs.declared.messages.Act.{Act}
use Rattle.nm_lawful.specs.declared.messages.Act.TheVariants as act
use Rattle.nm_lawful.specs.declared.messages.Request.{Request}
use Rattle.nm_lawful.specs.declared.messages.Standing.{Standing}
use Rattle.nm_lawful.specs.declared.messages.Standing.TheVariants as standing
use Rattle.nm_lawful.specs.Moves.{Report}
use Rattle.nm_lawful.specs.Ranks.{RankState, changed_by, marked_lem}
use Rattle.nm_lawful.specs.Replies.{cancelled_at_lem, pattern_lem}
use Rattle.nm_lawful.specs.States.{received_by}
use Rattle.nm_runs_lawful.specs.Stands.{IsNext, IsRunTold, SeenAlike, StepLeads, claim_by, is_live_at, is_match_of}
use Rattle.nm_runs_lawful.specs.Stands.{line_of, message_at, message_by, rank_of, request_by}
use Rattle.nm_runs_lawful.specs.Stands.{standing_of, taken_by}
use Rattle.nm_runs_lawful.proofs.AnsweredLemmas.{and_nothing, no_bytes}
use Rattle.nm_runs_lawful.proofs.CancelLemmas.{Behind, answers, behind, cancel_acts, cancels_of, no_start, now, some}
use Rattle.nm_runs_lawful.proofs.CancelLemmas.{told_is}
use Rattle.nm_runs_lawful.proofs.ChangeLemmas.{request_as, standing_as}
use Rattle.nm_runs_lawful.proofs.EndedLemmas.{moved_own, moved_seen}
use Rattle.nm_runs_lawful.proofs.LiveLemmas.{IsLive, one_lives, request_from, request_with, start_in, start_line}
use Rattle.nm_runs_lawful.proofs.OnceLemmas.{found_at}
use Rattle.nm_runs_lawful.proofs.OffLemmas.{off_unpaired}
use Rattle.nm_runs_lawful.proofs.OwnLemmas.{KnownAlike, message_seen, own_leads}
use Rattle.nm_runs_lawful.proofs.QuietLemmas.{first_alone, live_still}
use Rattle.nm_runs_lawful.proofs.ToldLemmas.{step_split}
use Rattle.nm_runs_lawful.proofs.UniqueLemmas.{line_starts, receive_once, requests_marked}

-- an event is this cancel
abbrev is_this : ℕ → Bool → Happened → Bool
is_this number done (event.Cancel k d) = k == number && is_same d done
is_this number done _ = false

module _ (shape : Sizes) (lines : List Line) (ranks : List Ended) (packets : List Packets) (told : Report)
    (is : IsRunTold shape lines ranks packets told) (before : List Step) (s : Step) (later : List Step)
    (w : ℕ → RankPoint) (next : IsNext shape lines ranks before s later w)
  where
    abbrev i : ℕ
    i = s.rank

    abbrev commands : List Numbered
    commands = commands_of s.rank lines

    abbrev h : List Event
    h = history_in before s.rank

    abbrev v : ℕ → RankPoint
    v = moved lines w s

    abbrev whole_is : history_of ranks s.rank ≡ h ++ s.event ∷ history_in later s.rank
    whole_is = step_split shape lines ranks packets told is before later s next.so_far.whole

    -- a cancel of a receive (3.8.4)
    module _ (number : ℕ) (done : Bool) (cancels : s.event.what ≡ event.Cancel number done) where
      stop_due : IsCancelOf (commands_of s.rank lines) (history_in before s.rank) (Receiving number)
      stop_due = (subst (λ (what : Happened). IsDue shape.eager commands h what) cancels next.due).0

      alone : cancels_since h ≡ []
      alone = (subst (λ (what : Happened). IsDue shape.eager commands h what) cancels next.due).1

      stop_quiet : is_answer s.event.what ≡ false
      stop_quiet = ap is_answer cancels

      stop_passes : (x : Happened) → is_this number done x ≡ true → is_cancelling x ≡ true
      stop_passes (event.Cancel k d) is = refl
      stop_passes x is = absurd (false≢true is)

      stop_own : is_this number done s.event.what ≡ true
      stop_own =
          ap (is_this number done) cancels
          ∙ both (number == number) (is_same done done) (eqb_self number) (same_done done)

      abbrev stop_behind : Behind shape lines ranks packets told is before s later w next
          (Receiving number) stop_due stop_quiet (is_this number done) stop_passes stop_own
      stop_behind =
          behind shape lines ranks packets told is before s later w next
          (Receiving number) stop_due stop_quiet (is_this number done) stop_passes stop_own

      -- the answer says whether it was cancelled
      answer_is : stop_behind.answer ≡ cond done answer.Done answer.Late
      answer_is =
          by_live (live commands stop_behind.front stop_due.name)
          (cancels_of shape lines ranks packets told is before s later w next (Receiving number) stop_due stop_quiet
          (is_this number done) stop_passes stop_own)
          (answers shape lines ranks packets told is before s later w next (Receiving number) stop_due stop_quiet
          (is_this number done) stop_passes stop_own)
        where
          has : list_any (is_this number done) (cancels_since stop_behind.front) ≡ true
          has =
              some shape lines ranks packets told is before s later w next (Receiving number) stop_due stop_quiet
              (is_this number done) stop_passes stop_own

          by_any : (any d : Bool) → d ≡ done → is_same (not any) d ≡ true →
              Some (cond any answer.Late answer.Done) ≡ Some (without_bytes stop_behind.answer) →
              stop_behind.answer ≡ cond d answer.Done answer.Late
          by_any true true is same answered = absurd (false≢true same)
          by_any true false is same answered =
              no_bytes answer.Late stop_behind.answer (λ from tag body other. grind arith) answered
          by_any false true is same answered =
              no_bytes answer.Done stop_behind.answer (λ from tag body other. grind arith) answered
          by_any false false is same answered = absurd (false≢true same)

          by_live : (o : Option asked) → CancelsOf stop_behind.front o →
              Some (option_map_or (cancel_answer stop_behind.front) o answer.Null)
              ≡ Some (without_bytes stop_behind.answer) →
              stop_behind.answer ≡ cond done answer.Done answer.Late
          by_live None of answered =
              absurd (false≢true (sym (ap (λ (ws : List Happened). list_any (is_this number done) ws) of) ∙ has))
          by_live (Some (Receiving k)) of answered =
              let any = list_any (is_of_receive k) (matched_pairs stop_behind.front) in
              let this : (k == number && is_same (not any) done) ≡ true =
              sym (or_false (k == number && is_same (not any) done))
              ∙ sym (ap (λ (ws : List Happened). list_any (is_this number done) ws) of) ∙ has in
              by_any any done refl (and_right (k == number) (is_same (not any) done) this) answered
          by_live (Some (Sending to n)) of answered =
              absurd (false≢true (sym (list_any_none (is_this number done) (cancels_since stop_behind.front)
              (All-weaker (λ x. x ≡ event.Recall to n) (λ x. is_this number done x ≡ false)
              (λ x same. ap (is_this number done) same) (cancels_since stop_behind.front) of.1)) ∙ has))

      plain : (d : Bool) → is_started (cond d answer.Done answer.Late) ≡ false
      plain true = refl
      plain false = refl

      none : starts_since h ≡ []
      none =
          no_start shape lines ranks packets told is before s later w next (Receiving number) stop_due stop_quiet
          (is_this number done) stop_passes stop_own
          (ap is_started answer_is ∙ plain done)

      lives : IsLive lines w (history_in before) s.rank (next.so_far.places s.rank) ((next.so_far.places i).begun ∙
          none)
          stop_due.name (Receiving number)
      lives =
          one_lives lines w (history_in before) i (next.so_far.places i) ((next.so_far.places i).begun ∙ none)
          stop_due.name
          (Receiving number) (now shape lines ranks packets told is before s later w next
          (Receiving number) stop_due stop_quiet (is_this number done) stop_passes stop_own)

      own_is : v i ≡ after i commands (w i) (event.Cancel number done)
      own_is = moved_own lines w s ∙ ap (λ (what : Happened). after i commands (w i) what) cancels

      seen : (r : ℕ) → SeenAlike (w r) (v r)
      seen =
          moved_seen lines w s
          (subst (λ (what : Happened). SeenAlike (w i) (after i commands (w i) what)) (sym cancels) (record {
            taken = λ from n. or_false ((w i).taken from n);
            withdrawn = λ from n. or_false ((w i).withdrawn from n);
            lines = λ to. append-nil ((w i).lines to);
          }))

      known : KnownAlike (w i) (v i)
      known = subst (λ (p : RankPoint). KnownAlike (w i) p) (sym own_is) (record {
        handled = λ m. refl;
        matched = λ from n. ap (λ (ws : List Happened). list_any (is_match_of from n) ws) (append-nil (w i).begun);
        known = λ from n. first_alone ((w i).known from n);
      })

      live_same : (q line : ℕ) → is_live_at (v i) q line ≡ is_live_at (w i) q line
      live_same q line =
          ap (λ (p : RankPoint). is_live_at p q line) own_is
          ∙ live_still (w i) q line ((w i).begun ++ []) (append-nil (w i).begun)

      off_is : (k : ℕ) → (v i).off k ≡ ((w i).off k || (number == k && done))
      off_is k = ap (λ (p : RankPoint). p.off k) own_is

      pairs_same : (k : ℕ) → (v i).pairs k ≡ (w i).pairs k
      pairs_same k = ap (λ (p : RankPoint). p.pairs k) own_is ∙ first_alone ((w i).pairs k)

      -- what is not this receive stands as before
      others_stand : (what : Happened) → ((k : ℕ) → receive_of what ≡ Some k → (number == k && done) ≡ false) →
          standing_of commands v i what ≡ standing_of commands w i what
      others_stand what other =
          standing_as w v i commands what (λ t k of. (seen t).withdrawn i k)
          (λ t k of. ap (λ (p : RankPoint). p.recalled t k) own_is ∙ or_false ((w i).recalled t k))
          (λ k of. off_is k ∙ ap (λ (b : Bool). (w i).off k || b) (other k of) ∙ or_false ((w i).off k))
          (λ k of. pairs_same k) (λ k pair of paired. message_seen w v i seen pair.arrival)

      found : (b : List Event) × (e : Event) × (t : List Event) × (h ≡ b ++ e ∷ t) × (e.what ≡ lives.what)
      found = found_at lives.line h lives.what lives.start

      of_number : (x : Happened) (line : ℕ) → line_of x ≡ Some line → request_from x ≡ Receiving number →
          receive_of x ≡ Some number
      of_number (event.Post p own) line at is = let same : p.number ≡ number = cc in ap (λ (k : ℕ). Some k) same
      of_number (event.Match k from n cap own) line at is =
          let same : k ≡ number = cc in ap (λ (k : ℕ). Some k) same
      of_number (event.Send to n tag ctx len how own) line at is = absurd (grind arith)
      of_number x line at is = absurd (no_some line at)

      line_is : line_of lives.what ≡ Some lives.line
      line_is = start_line lives.line h lives.what lives.start

      number_is : receive_of lives.what ≡ Some number
      number_is = of_number lives.what lives.line line_is lives.request

      -- each other start is of another receive
      others : (b : List Event) (e : Event) (t : List Event) → h ≡ b ++ e ∷ t → (line : ℕ) →
          line_of e.what ≡ Some line → (line == lives.line) ≡ false → (k : ℕ) → receive_of e.what ≡ Some k →
          (number == k && done) ≡ false
      others b e t split line at differ k of =
          not_true (number == k && done) (λ same.
          let one : number ≡ k = same_number number k (and_left (number == k) done same) in
          let equal : e ≡ found.1 = receive_once shape lines ranks packets told is before (s ∷ later) w next.so_far i
          b e t split
          found.0 found.1 found.2 found.3 k of
          (ap receive_of found.4 ∙ number_is ∙ ap (λ (k : ℕ). Some k) one) in
          false≢true (sym differ ∙ eq_true line lives.line (same_some line lives.line
          (sym at ∙ ap (λ (x : Event). line_of x.what) equal ∙ ap line_of found.4 ∙ line_is))))

      -- a start has a line, if it is of a receive
      no_line : (x : Happened) → line_of x ≡ None → (k : ℕ) → receive_of x ≡ Some k → ⊥
      no_line (event.Post p own) at k of = no_some own (sym at)
      no_line (event.Match number' from n cap own) at k of = no_some own (sym at)
      no_line x at k of = no_some k of

      -- all requests stand as before, if this one does
      all_stand : standing_of commands v i lives.what ≡ standing_of commands w i lives.what →
          filter_map (λ (e : Event). request_by commands v i e.what) h
          ≡ filter_map (λ (e : Event). request_by commands w i e.what) h
      all_stand own =
          filter_map_same (λ (e : Event). request_by commands v i e.what)
          (λ (e : Event). request_by commands w i e.what) h
          (by_splits (λ e. request_by commands v i e.what ≡ request_by commands w i e.what) h [] h refl
          (λ b e t split. request_as w v i commands e.what (λ q line at names. live_same q line)
          (by_line b e t split (line_of e.what) refl)))
        where
          by_same : (b : List Event) (e : Event) (t : List Event) → h ≡ b ++ e ∷ t → (line : ℕ) →
              line_of e.what ≡ Some line → (x : Bool) → (line == lives.line) ≡ x →
              standing_of commands v i e.what ≡ standing_of commands w i e.what
          by_same b e t split line at false differ = others_stand e.what (others b e t split line at differ)
          by_same b e t split line at true same =
              let is_it : e.what ≡ lives.what =
              same_some e.what lives.what
              (sym (line_starts shape lines ranks packets told is before (s ∷ later) w next.so_far i b e t split line
              at).0
              ∙ ap (λ (l : ℕ). start_in l h) (same_number line lives.line same) ∙ lives.start) in
              ap (standing_of commands v i) is_it ∙ own ∙ sym (ap (standing_of commands w i) is_it)

          by_line : (b : List Event) (e : Event) (t : List Event) → h ≡ b ++ e ∷ t → (o : Option ℕ) →
              line_of e.what ≡ o → standing_of commands v i e.what ≡ standing_of commands w i e.what
          by_line b e t split None at = others_stand e.what (λ k of. absurd (no_line e.what at k of))
          by_line b e t split (Some line) at = by_same b e t split line at (line == lives.line) refl

      abbrev blank : Happened → Type 0
      blank what =
          (request_by commands v i what ≡ None) × (message_by v i what ≡ None) × (claim_by commands v i what ≡ None)

      blank_here : blank s.event.what
      blank_here = subst blank (sym cancels) (refl, refl, refl)

      abbrev SoLeads : Type 0
      SoLeads = StepLeads shape lines told before s w

      leads_by : (a : Act) → ((t : List RankState) → received_by a t ≡ t) → (requests : List Request) →
          changed_by (stop_due.command.line - 2) a (rank_of lines w (history_in before) i)
          ≡ record (rank_of lines w (history_in before) i) { requests = requests } →
          filter_map (λ (e : Event). request_by commands v i e.what) h ≡ requests →
          cancelled_at_lem (lives.line - 2) (standing_of commands w i lives.what) (cond done answer.Done answer.Late)
          ≡ Some a → SoLeads
      leads_by a alone' requests changed are at =
          own_leads shape lines ranks packets told is before s later w next stop_due.command stop_due.next
          stop_quiet none alone
          (ap (λ (what : Happened). is_start what || is_cancelling what) cancels) seen known blank_here.0 blank_here.1
          blank_here.2 a alone' requests changed are
          (cancel_acts shape lines ranks packets told is before s later w next (Receiving number) stop_due stop_quiet
          (is_this number done) stop_passes stop_own
          (cond done answer.Done answer.Late)
          (told_is shape lines ranks packets told is before s later w next (Receiving number) stop_due stop_quiet
          (is_this number done) stop_passes stop_own
          (cond done answer.Done answer.Late) answer_is (plain done))
          (request_with commands w i stop_due.name lives.line lives.what) lives.lives_so a at)

      pass : cancelled_at_lem (lives.line - 2) (standing_of commands w i lives.what)
          (cond done answer.Done answer.Late) ≡ Some act.Pass →
          standing_of commands v i lives.what ≡ standing_of commands w i lives.what → SoLeads
      pass at own =
          leads_by act.Pass (λ t. refl) (rank_of lines w (history_in before) i).requests refl (all_stand own) at

      paired : done ≡ not (is_some ((w i).pairs number))
      paired = (subst (λ (what : Happened). MayMove shape lines w i what) cancels next.moves).1

      -- what the receive stands like where it has no message: it is open, or off
      by_done : (d : Bool) → done ≡ d → (b : Bool) → (w i).off number ≡ b → SoLeads
      by_done d so b off = by_what d so b off lives.what refl number_is
        where
          unpaired : done ≡ true → (w i).pairs number ≡ None
          unpaired so = by_pair ((w i).pairs number) (sym so ∙ paired)
            where
              by_pair : (o : Option Pair) → true ≡ not (is_some o) → o ≡ None
              by_pair None is = refl
              by_pair (Some pair) is = absurd (false≢true (sym is))

          has_pair : done ≡ false → (pair : Pair) × ((w i).pairs number ≡ Some pair)
          has_pair so = by_pair ((w i).pairs number) (sym so ∙ paired)
            where
              by_pair : (o : Option Pair) → false ≡ not (is_some o) → (pair : Pair) × (o ≡ Some pair)
              by_pair None is = absurd (false≢true is)
              by_pair (Some pair) is = (pair, refl)

          now_off : done ≡ true → (v i).off number ≡ true
          now_off so =
              off_is number
              ∙ or_right ((w i).off number) (number == number && done)
              (both (number == number) done (eqb_self number) so)

          by_stood : (d : Bool) → done ≡ d → (b : Bool) → (w i).off number ≡ b → (opened : Standing) →
              standing_of commands w i lives.what
              ≡ cond ((w i).off number) standing.Off (taken_by w i ((w i).pairs number) opened) →
              standing_of commands v i lives.what
              ≡ cond ((v i).off number) standing.Off (taken_by v i ((v i).pairs number) opened) →
              (cancelled_at_lem (lives.line - 2) opened answer.Done
              ≡ Some (act.Mark (lives.line - 2) standing.Off)) ⊎ (opened ≡ standing.Off) → SoLeads
          by_stood true so true off opened is_w is_v kind =
              pass
              (ap (λ (x : Standing). cancelled_at_lem (lives.line - 2) x (cond done answer.Done answer.Late))
              (is_w ∙ ap (λ (b : Bool). cond b standing.Off (taken_by w i ((w i).pairs number) opened)) off)
              ∙ ap (λ (b : Bool). cancelled_at_lem (lives.line - 2) standing.Off (cond b answer.Done answer.Late)) so)
              (is_v ∙ ap (λ (b : Bool). cond b standing.Off (taken_by v i ((v i).pairs number) opened)) (now_off so)
              ∙ sym (is_w ∙ ap (λ (b : Bool). cond b standing.Off (taken_by w i ((w i).pairs number) opened)) off))
          by_stood true so false off opened is_w is_v (inr closed) =
              let off_now : standing_of commands w i lives.what ≡ standing.Off = is_w
              ∙ ap (λ (b : Bool). cond b standing.Off (taken_by w i ((w i).pairs number) opened)) off
              ∙ ap (λ (o : Option Pair). taken_by w i o opened) (unpaired so) ∙ closed in
              pass
              (ap (λ (x : Standing). cancelled_at_lem (lives.line - 2) x (cond done answer.Done answer.Late)) off_now
              ∙ ap (λ (b : Bool). cancelled_at_lem (lives.line - 2) standing.Off (cond b answer.Done answer.Late)) so)
              (is_v ∙ ap (λ (b : Bool). cond b standing.Off (taken_by v i ((v i).pairs number) opened)) (now_off so)
              ∙ sym off_now)
          by_stood true so false off opened is_w is_v (inl marks) =
              leads_by (act.Mark (lives.line - 2) standing.Off) (λ t. refl)
              (map (marked_lem (lives.line - 2) standing.Off) (rank_of lines w (history_in before) i).requests) refl
              (requests_marked shape lines ranks packets told is before (s ∷ later) w next.so_far i v lives.line
              lives.what
              lives.start standing.Off
              (is_v ∙ ap (λ (b : Bool). cond b standing.Off (taken_by v i ((v i).pairs number) opened)) (now_off so))
              (λ b e t split line at differ. others_stand e.what (others b e t split line at differ))
              (λ b e t split q line at names. live_same q line))
              (ap (λ (x : Standing). cancelled_at_lem (lives.line - 2) x (cond done answer.Done answer.Late))
              (is_w ∙ ap (λ (b : Bool). cond b standing.Off (taken_by w i ((w i).pairs number) opened)) off
              ∙ ap (λ (o : Option Pair). taken_by w i o opened) (unpaired so))
              ∙ ap (λ (b : Bool). cancelled_at_lem (lives.line - 2) opened (cond b answer.Done answer.Late)) so ∙ marks)
          by_stood false so true off opened is_w is_v kind =
              let pair = has_pair so in
              absurd (no_some pair.0 (sym (off_unpaired shape lines ranks packets told is before (s ∷ later) w
              next.so_far i
              number off) ∙ pair.1))
          by_stood false so false off opened is_w is_v kind =
              let pair = has_pair so in
              pass
              (ap (λ (x : Standing). cancelled_at_lem (lives.line - 2) x (cond done answer.Done answer.Late))
              (is_w ∙ ap (λ (b : Bool). cond b standing.Off (taken_by w i ((w i).pairs number) opened)) off
              ∙ ap (λ (o : Option Pair). taken_by w i o opened) pair.1)
              ∙ ap (λ (b : Bool). cancelled_at_lem (lives.line - 2)
              (standing.Taken pair.0.cap (message_at w i pair.0.arrival)) (cond b answer.Done answer.Late)) so)
              (others_stand lives.what (λ k of. ap (λ (b : Bool). number == k && b) so ∙ and_nothing (number == k)))

          by_what : (d : Bool) → done ≡ d → (b : Bool) → (w i).off number ≡ b → (x : Happened) → lives.what ≡ x →
              receive_of x ≡ Some number → SoLeads
          by_what d sure b off (event.Post p own) so of =
              let same : p.number ≡ number = same_some p.number number of in
              by_stood d sure b off (standing.Open (pattern_lem p.from p.tag p.ctx) p.cap)
              (ap (standing_of commands w i) so
              ∙ ap (λ (k : ℕ). cond ((w i).off k) standing.Off (taken_by w i ((w i).pairs k)
              (standing.Open (pattern_lem p.from p.tag p.ctx) p.cap))) same)
              (ap (standing_of commands v i) so
              ∙ ap (λ (k : ℕ). cond ((v i).off k) standing.Off (taken_by v i ((v i).pairs k)
              (standing.Open (pattern_lem p.from p.tag p.ctx) p.cap))) same)
              (inl refl)
          by_what d sure b off (event.Match k from n cap own) so of =
              let same : k ≡ number = same_some k number of in
              by_stood d sure b off standing.Off
              (ap (standing_of commands w i) so
              ∙ ap (λ (k : ℕ). cond ((w i).off k) standing.Off (taken_by w i ((w i).pairs k) standing.Off)) same)
              (ap (standing_of commands v i) so
              ∙ ap (λ (k : ℕ). cond ((v i).off k) standing.Off (taken_by v i ((v i).pairs k) standing.Off)) same)
              (inr refl)
          by_what d sure b off x so of = absurd (no_some number of)

      pub stop_leads : StepLeads shape lines told before s w
      stop_leads = by_done done refl ((w i).off number) refl
