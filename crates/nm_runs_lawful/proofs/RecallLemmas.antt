-- A recall takes effect: a send is to be withdrawn. MPI 3.1, 3.8.4.
use Rattle.std.proofs.Common.{◌≡◌, ℕ, ◌-◌, ◌==◌, ◌&&◌, ◌||◌, Bool, true, false, cond, Option, Some, None, List, []}
use Rattle.std.proofs.Common.{◌∷◌, ◌++◌, map, refl, sym, ◌∙◌, ap, subst, arith, append-nil}
use Rattle.std.specs.Prelude.{All}
use Rattle.std.specs.List.{filter, filter_map, list_any}
use Rattle.std.specs.Option.{option_map_or}
use Rattle.std.proofs.lemmas.Bool.{false≢true}
use Rattle.std.proofs.lemmas.List.Elements.{All-head, All-weaker, filter-append}
use Rattle.std.proofs.lemmas.List.Folds.{list_any_none}
use Rattle.nm_types.specs.declared.answers.Answer.TheVariants as answer
use Rattle.nm_types.specs.declared.scripts.Line.{Line}
use Rattle.nm_types.specs.Commands.{Numbered, command_at, commands_of}
use Rattle.nm_types.specs.Sizes.{Sizes}
use Rattle.nm_types.proofs.NumberLemmas.{eq_true, same_number}
use Rattle.nm_types.proofs.OptionLemmas.{no_some, same_some}
use Rattle.nm_types.proofs.TruthLemmas.{and_left, and_right, both, not_true, or_left, or_right}
use Rattle.nm_history.specs.declared.events.Event.{Event}
use Rattle.nm_history.specs.declared.events.Happened.{Happened}
use Rattle.nm_history.specs.declared.events.Happened.TheVariants as event
use Rattle.nm_history.specs.Answers.{cancel_answer, is_started, live, without_bytes}
use Rattle.nm_history.specs.Completion.{Request as asked}
use Rattle.nm_history.specs.Completion.Request.{Receiving, Sending}
use Rattle.nm_history.specs.Happens.{happened, is_recall, is_send}
use Rattle.nm_history.specs.Quiescence.{Ended, Packets, history_of}
use Rattle.nm_history.specs.RankRun.{CancelsOf, cancels_since, is_cancelling, is_start, since_command}
use Rattle.nm_history.specs.Underway.{is_answer}
use Rattle.nm_history.proofs.Basic.{or_false}
use Rattle.nm_history.proofs.Lasting.{by_splits, filter_map_same}
use Rattle.nm_history.proofs.OnceLemmas.{eqb_self}
use Rattle.nm_outcomes.specs.Due.{IsCancelOf, IsDue}
use Rattle.nm_outcomes.specs.Logs.{Step, history_in}
use Rattle.nm_outcomes.specs.Moves.{MayMove}
use Rattle.nm_outcomes.specs.Paths.{moved}
use Rattle.nm_outcomes.specs.Places.{RankPoint, after}
use Rattle.nm_lawful.specs.declared.messages.Act.{Act}
use Rattle.nm_lawful.specs.declared.messages.Act.TheVariants as act
use Rattle.nm_lawful.specs.declared.messages.Request.{Request}
use Rattle.nm_lawful.specs.declared.messages.Standing.{Standing}
use Rattle.nm_lawful.specs.declared.messages.Standing.TheVariants as standing
use Rattle.nm_lawful.specs.Moves.{Report}
use Rattle.nm_lawful.specs.Ranks.{RankState, changed_by, marked_lem}
use Rattle.nm_lawful.specs.Replies.{cancelled_at_lem}
use Rattle.nm_lawful.specs.States.{received_by}
use Rattle.nm_runs_lawful.specs.Stands.{IsNext, IsRunTold, SeenAlike, StepLeads, claim_by, is_live_at, is_match_of}
use Rattle.nm_runs_lawful.specs.Stands.{is_sync}
use Rattle.nm_runs_lawful.specs.Stands.{line_of, message_by, rank_of, request_by, standing_of}
use Rattle.nm_runs_lawful.proofs.AnsweredLemmas.{no_bytes}
use Rattle.nm_runs_lawful.proofs.CancelLemmas.{Behind, answers, any_kept, behind, cancel_acts, cancels_of, no_start}
use Rattle.nm_runs_lawful.proofs.CancelLemmas.{now, since_happened, some, told_is}
use Rattle.nm_runs_lawful.proofs.ChangeLemmas.{request_as, standing_as}
use Rattle.nm_runs_lawful.proofs.EndedLemmas.{moved_own, moved_seen}
use Rattle.nm_runs_lawful.proofs.LiveLemmas.{IsLive, one_lives, request_from, request_with, start_in, start_line}
use Rattle.nm_runs_lawful.proofs.OnceLemmas.{found_at}
use Rattle.nm_runs_lawful.proofs.OwnLemmas.{KnownAlike, message_seen, own_leads}
use Rattle.nm_runs_lawful.proofs.QuietLemmas.{first_alone, live_still}
use Rattle.nm_runs_lawful.proofs.ToldLemmas.{step_split}
use Rattle.nm_runs_lawful.proofs.UniqueLemmas.{line_starts, requests_marked, send_once}

module _ (shape : Sizes) (lines : List Line) (ranks : List Ended) (packets : List Packets) (told : Report)
    (is : IsRunTold shape lines ranks packets told) (before : List Step) (s : Step) (later : List Step)
    (w : ℕ → RankPoint) (next : IsNext shape lines ranks before s later w)
  where
    abbrev i : ℕ
    i = s.rank

    abbrev commands : List Numbered
    commands = commands_of s.rank lines

    abbrev h : List Event
    h = history_in before s.rank

    abbrev v : ℕ → RankPoint
    v = moved lines w s

    abbrev whole_is : history_of ranks s.rank ≡ h ++ s.event ∷ history_in later s.rank
    whole_is = step_split shape lines ranks packets told is before later s next.so_far.whole

    -- a recall of a send (3.8.4)
    module _ (to n : ℕ) (recalls : s.event.what ≡ event.Recall to n) where
      recall_due : IsCancelOf (commands_of s.rank lines) (history_in before s.rank) (Sending to n)
      recall_due = subst (λ (what : Happened). IsDue shape.eager commands h what) recalls next.due

      recall_quiet : is_answer s.event.what ≡ false
      recall_quiet = ap is_answer recalls

      recall_passes : (x : Happened) → is_recall to n x ≡ true → is_cancelling x ≡ true
      recall_passes (event.Recall to' n') is = refl
      recall_passes x is = absurd (false≢true is)

      recall_own : is_recall to n s.event.what ≡ true
      recall_own = ap (is_recall to n) recalls ∙ both (to == to) (n == n) (eqb_self to) (eqb_self n)

      abbrev recall_behind :
          Behind shape lines ranks packets told is before s later w next (Sending to n) recall_due recall_quiet
          (is_recall to n) recall_passes recall_own
      recall_behind =
          behind shape lines ranks packets told is before s later w next
          (Sending to n) recall_due recall_quiet (is_recall to n) recall_passes recall_own

      not_recalled : happened (is_recall to n) h ≡ false
      not_recalled =
          sym ((next.so_far.places i).recalled to n)
          ∙ (subst (λ (what : Happened). MayMove shape lines w i what) recalls next.moves).1

      -- the recalls before are none, since each is of this message
      none_earlier : (to' n' : ℕ) → All (λ x. x ≡ event.Recall to' n') (cancels_since recall_behind.front) →
          cancels_since h ≡ []
      none_earlier to' n' each =
          by_same (is_recall to n (event.Recall to' n')) refl
        where
          front : cancels_since recall_behind.front
              ≡ cancels_since h ++ filter is_cancelling (s.event.what ∷ recall_behind.more)
          front =
              ap (λ (ws : List Happened). filter is_cancelling ws) recall_behind.since
              ∙ filter-append is_cancelling (since_command h) (s.event.what ∷ recall_behind.more)

          by_first : (ws more : List Happened) → ws ≡ cancels_since h → is_recall to n (event.Recall to' n') ≡ true →
              All (λ x. x ≡ event.Recall to' n') (ws ++ more) → ws ≡ []
          by_first [] more same is all = refl
          by_first (x ∷ ws) more same is all =
              absurd (false≢true (sym not_recalled ∙ since_happened (is_recall to n) h
              (sym (any_kept is_cancelling (is_recall to n) recall_passes (since_command h))
              ∙ ap (λ (ws : List Happened). list_any (is_recall to n) ws) (sym same)
              ∙ or_left (is_recall to n x) (list_any (is_recall to n) ws)
              (ap (is_recall to n) (All-head (λ x. x ≡ event.Recall to' n') x (ws ++ more) all) ∙ is))))

          by_same : (b : Bool) → is_recall to n (event.Recall to' n') ≡ b → cancels_since h ≡ []
          by_same true is =
              by_first (cancels_since h) (filter is_cancelling (s.event.what ∷ recall_behind.more)) refl is
              (subst (λ (ws : List Happened). All (λ x. x ≡ event.Recall to' n') ws) front each)
          by_same false other =
              absurd (false≢true (sym (list_any_none (is_recall to n) (cancels_since recall_behind.front)
              (All-weaker (λ x. x ≡ event.Recall to' n') (λ x. is_recall to n x ≡ false)
              (λ x same. ap (is_recall to n) same ∙ other) (cancels_since recall_behind.front) each))
              ∙ some shape lines ranks packets told is before s later w next (Sending to n) recall_due recall_quiet
              (is_recall to n) recall_passes recall_own))

      asked_alone : (recall_behind.answer ≡ answer.Asked) × (cancels_since h ≡ [])
      asked_alone =
          by_live (live commands recall_behind.front recall_due.name)
          (cancels_of shape lines ranks packets told is before s later w next (Sending to n) recall_due recall_quiet
          (is_recall to n) recall_passes recall_own)
          (answers shape lines ranks packets told is before s later w next (Sending to n) recall_due recall_quiet
          (is_recall to n) recall_passes recall_own)
        where
          has : list_any (is_recall to n) (cancels_since recall_behind.front) ≡ true
          has =
              some shape lines ranks packets told is before s later w next (Sending to n) recall_due recall_quiet
              (is_recall to n) recall_passes recall_own

          by_live : (o : Option asked) → CancelsOf recall_behind.front o →
              Some (option_map_or (cancel_answer recall_behind.front) o answer.Null)
              ≡ Some (without_bytes recall_behind.answer) →
              (recall_behind.answer ≡ answer.Asked) × (cancels_since h ≡ [])
          by_live None of answered =
              absurd (false≢true (sym (ap (λ (ws : List Happened). list_any (is_recall to n) ws) of) ∙ has))
          by_live (Some (Receiving k)) of answered =
              absurd (false≢true (sym (ap (λ (ws : List Happened). list_any (is_recall to n) ws) of) ∙ has))
          by_live (Some (Sending to' n')) of answered = (
            no_bytes answer.Asked recall_behind.answer (λ from tag body same. grind arith) answered,
            none_earlier to' n' of.1,
          )

      recall_lives : IsLive lines w (history_in before) s.rank (next.so_far.places s.rank)
          ((next.so_far.places i).begun ∙ no_start shape lines ranks packets told is before s later w next
          (Sending to n) recall_due recall_quiet (is_recall to n) recall_passes
          recall_own (ap is_started asked_alone.0)) recall_due.name (Sending to n)
      recall_lives =
          one_lives lines w (history_in before) i (next.so_far.places i)
          ((next.so_far.places i).begun ∙ no_start shape lines ranks packets told is before s later w next
          (Sending to n) recall_due recall_quiet (is_recall to n) recall_passes
          recall_own (ap is_started asked_alone.0)) recall_due.name (Sending to n)
          (now shape lines ranks packets told is before s later w next (Sending to n) recall_due recall_quiet
          (is_recall to n) recall_passes recall_own)

      own_is : v i ≡ after i commands (w i) (event.Recall to n)
      own_is = moved_own lines w s ∙ ap (λ (what : Happened). after i commands (w i) what) recalls

      seen : (r : ℕ) → SeenAlike (w r) (v r)
      seen =
          moved_seen lines w s
          (subst (λ (what : Happened). SeenAlike (w i) (after i commands (w i) what)) (sym recalls) (record {
            taken = λ from n. or_false ((w i).taken from n);
            withdrawn = λ from n. or_false ((w i).withdrawn from n);
            lines = λ to. append-nil ((w i).lines to);
          }))

      known : KnownAlike (w i) (v i)
      known = subst (λ (p : RankPoint). KnownAlike (w i) p) (sym own_is) (record {
        handled = λ m. refl;
        matched = λ from n. ap (λ (ws : List Happened). list_any (is_match_of from n) ws) (append-nil (w i).begun);
        known = λ from n. first_alone ((w i).known from n);
      })

      live_same : (q line : ℕ) → is_live_at (v i) q line ≡ is_live_at (w i) q line
      live_same q line =
          ap (λ (p : RankPoint). is_live_at p q line) own_is
          ∙ live_still (w i) q line ((w i).begun ++ []) (append-nil (w i).begun)

      -- what is not this send stands as before
      others_stand : (what : Happened) → is_send to n what ≡ false →
          standing_of commands v i what ≡ standing_of commands w i what
      others_stand what other =
          standing_as w v i commands what (λ t k of. (seen t).withdrawn i k)
          (λ t k of. ap (λ (p : RankPoint). p.recalled t k) own_is
          ∙ ap (λ (b : Bool). (w i).recalled t k || b)
          (not_true (to == t && n == k) (λ same. false≢true (sym other
          ∙ subst (λ (t : ℕ). is_send t n what ≡ true) (sym (same_number to t (and_left (to == t) (n == k) same)))
          (subst (λ (k : ℕ). is_send t k what ≡ true) (sym (same_number n k (and_right (to == t) (n == k) same))) of))))
          ∙ or_false ((w i).recalled t k))
          (λ k of. ap (λ (p : RankPoint). p.off k) own_is ∙ or_false ((w i).off k))
          (λ k of. ap (λ (p : RankPoint). p.pairs k) own_is ∙ first_alone ((w i).pairs k))
          (λ k pair of paired. message_seen w v i seen pair.arrival)

      abbrev sync_of : ℕ → Bool
      sync_of line = option_map_or is_sync (command_at commands line) false

      abbrev blank : Happened → Type 0
      blank what =
          (request_by commands v i what ≡ None) × (message_by v i what ≡ None) × (claim_by commands v i what ≡ None)

      blank_here : blank s.event.what
      blank_here = subst blank (sym recalls) (refl, refl, refl)

      abbrev SoLeads : Type 0
      SoLeads = StepLeads shape lines told before s w

      leads_by : (a : Act) → ((t : List RankState) → received_by a t ≡ t) → (requests : List Request) →
          changed_by (recall_due.command.line - 2) a (rank_of lines w (history_in before) i)
          ≡ record (rank_of lines w (history_in before) i) { requests = requests } →
          filter_map (λ (e : Event). request_by commands v i e.what) h ≡ requests →
          cancelled_at_lem (recall_lives.line - 2) (standing_of commands w i recall_lives.what) answer.Asked ≡ Some a →
          SoLeads
      leads_by a alone requests changed are at =
          own_leads shape lines ranks packets told is before s later w next recall_due.command recall_due.next
          recall_quiet
          (no_start shape lines ranks packets told is before s later w next (Sending to n) recall_due recall_quiet
          (is_recall to n) recall_passes recall_own
          (ap is_started asked_alone.0)) asked_alone.1
          (ap (λ (what : Happened). is_start what || is_cancelling what) recalls) seen known blank_here.0 blank_here.1
          blank_here.2 a alone requests changed are
          (cancel_acts shape lines ranks packets told is before s later w next (Sending to n) recall_due recall_quiet
          (is_recall to n) recall_passes recall_own answer.Asked
          (told_is shape lines ranks packets told is before s later w next (Sending to n) recall_due recall_quiet
          (is_recall to n) recall_passes recall_own answer.Asked
          asked_alone.0 refl) (request_with commands w i recall_due.name recall_lives.line recall_lives.what)
          recall_lives.lives_so a at)

      by_what : (what : Happened) → recall_lives.what ≡ what → request_from what ≡ Sending to n → SoLeads
      by_what (event.Send to' n' tag ctx len how own) this of =
          let one : to ≡ to' = cc in
          let two : n ≡ n' = cc in
          by_withdrawn ((w to).withdrawn i n) refl
          (this ∙ ap (λ (t : ℕ). event.Send t n' tag ctx len how own) (sym one)
          ∙ ap (λ (k : ℕ). event.Send to k tag ctx len how own) (sym two))
        where
          stood : (b c : Bool) → (w to).withdrawn i n ≡ b → (w i).recalled to n ≡ c →
              standing_of commands w i (event.Send to n tag ctx len how own)
              ≡ cond b standing.Withdrawn (cond c (standing.Recalled (sync_of own)) (standing.Send (sync_of own)))
          stood b c first second = rw (first, second) refl

          now_recalled : (v i).recalled to n ≡ true
          now_recalled =
              ap (λ (p : RankPoint). p.recalled to n) own_is
              ∙ or_right ((w i).recalled to n) (to == to && n == n)
              (both (to == to) (n == n) (eqb_self to) (eqb_self n))

          stands : (b : Bool) → (w to).withdrawn i n ≡ b →
              standing_of commands v i (event.Send to n tag ctx len how own)
              ≡ cond b standing.Withdrawn (standing.Recalled (sync_of own))
          stands b first = rw ((seen to).withdrawn i n ∙ first, now_recalled) refl

          -- each other start is no send of the message
          others : recall_lives.what ≡ event.Send to n tag ctx len how own →
              (b : List Event) (e : Event) (t : List Event) → h ≡ b ++ e ∷ t → (other : ℕ) →
              line_of e.what ≡ Some other → (other == recall_lives.line) ≡ false → is_send to n e.what ≡ false
          others so b e t split other at differ =
              not_true (is_send to n e.what) (λ same. by_event e.what refl at same)
            where
              found : (b : List Event) × (e : Event) × (t : List Event) × (h ≡ b ++ e ∷ t)
                  × (e.what ≡ recall_lives.what)
              found = found_at recall_lives.line h recall_lives.what recall_lives.start

              by_event : (x : Happened) → e.what ≡ x → line_of x ≡ Some other → is_send to n x ≡ true → ⊥
              by_event (event.Send to'' n'' tag'' ctx'' len'' how'' own'') is'' at'' same'' =
                  let one = same_number to'' to (and_left (to'' == to) (n'' == n) same'') in
                  let two = same_number n'' n (and_right (to'' == to) (n'' == n) same'') in
                  let equal : e ≡ found.1 = send_once shape lines ranks packets told is before (s ∷ later) w
                  next.so_far i b e t
                  split found.0 found.1 found.2 found.3 to n tag'' ctx'' len'' how'' own'' tag ctx len how own
                  (is'' ∙ ap (λ (t : ℕ). event.Send t n'' tag'' ctx'' len'' how'' own'') one
                  ∙ ap (λ (k : ℕ). event.Send to k tag'' ctx'' len'' how'' own'') two) (found.4 ∙ so) in
                  false≢true (sym differ ∙ eq_true other recall_lives.line
                  (same_some other recall_lives.line (sym at ∙ ap (λ (x : Event). line_of x.what) equal
                  ∙ ap line_of found.4 ∙ start_line recall_lives.line h recall_lives.what recall_lives.start)))
              by_event x is'' at'' same'' = false≢true same''

          by_withdrawn : (b : Bool) → (w to).withdrawn i n ≡ b →
              recall_lives.what ≡ event.Send to n tag ctx len how own → SoLeads
          by_withdrawn true gone so =
              leads_by act.Pass (λ t. refl) (rank_of lines w (history_in before) i).requests refl
              (filter_map_same (λ (e : Event). request_by commands v i e.what)
              (λ (e : Event). request_by commands w i e.what) h
              (by_splits (λ e. request_by commands v i e.what ≡ request_by commands w i e.what) h [] h refl
              (λ b e t split. request_as w v i commands e.what (λ q line at names. live_same q line)
              (by_line b e t split (line_of e.what) refl))))
              (ap (λ (x : Happened). cancelled_at_lem (recall_lives.line - 2) (standing_of commands w i x)
              answer.Asked) so
              ∙ ap (λ (x : Standing). cancelled_at_lem (recall_lives.line - 2) x answer.Asked)
              (stood true ((w i).recalled to n) gone refl))
            where
              by_same : (b : List Event) (e : Event) (t : List Event) → h ≡ b ++ e ∷ t → (other : ℕ) →
                  line_of e.what ≡ Some other → (x : Bool) → (other == recall_lives.line) ≡ x →
                  standing_of commands v i e.what ≡ standing_of commands w i e.what
              by_same b e t split other at false differ =
                  others_stand e.what (others so b e t split other at differ)
              by_same b e t split other at true same =
                  let is_it : e.what ≡ event.Send to n tag ctx len how own =
                  same_some e.what (event.Send to n tag ctx len how own)
                  (sym (line_starts shape lines ranks packets told is before (s ∷ later) w next.so_far i b e t split
                  other at).0
                  ∙ ap (λ (l : ℕ). start_in l h) (same_number other recall_lives.line same) ∙ recall_lives.start
                  ∙ ap (λ (x : Happened). Some x) so) in
                  ap (standing_of commands v i) is_it ∙ stands true gone
                  ∙ sym (stood true ((w i).recalled to n) gone refl) ∙ sym (ap (standing_of commands w i) is_it)

              by_line : (b : List Event) (e : Event) (t : List Event) → h ≡ b ++ e ∷ t → (o : Option ℕ) →
                  line_of e.what ≡ o → standing_of commands v i e.what ≡ standing_of commands w i e.what
              by_line b e t split None at = others_stand e.what (no_send e.what at)
                where
                  no_send : (x : Happened) → line_of x ≡ None → is_send to n x ≡ false
                  no_send (event.Send to'' n'' tag'' ctx'' len'' how'' own'') at'' = absurd (no_some own'' (sym at''))
                  no_send x at'' = refl
              by_line b e t split (Some other) at = by_same b e t split other at (other == recall_lives.line) refl
          by_withdrawn false kept so =
              leads_by (act.Mark (recall_lives.line - 2) (standing.Recalled (sync_of own))) (λ t. refl)
              (map (marked_lem (recall_lives.line - 2) (standing.Recalled (sync_of own)))
              (rank_of lines w (history_in before) i).requests) refl
              (requests_marked shape lines ranks packets told is before (s ∷ later) w next.so_far i v recall_lives.line
              recall_lives.what recall_lives.start (standing.Recalled (sync_of own))
              (ap (standing_of commands v i) so ∙ stands false kept)
              (λ b e t split other at differ. others_stand e.what (others so b e t split other at differ))
              (λ b e t split q line at names. live_same q line))
              (ap (λ (x : Happened). cancelled_at_lem (recall_lives.line - 2) (standing_of commands w i x)
              answer.Asked) so
              ∙ ap (λ (x : Standing). cancelled_at_lem (recall_lives.line - 2) x answer.Asked)
              (stood false false kept ((next.so_far.places i).recalled to n ∙ not_recalled)))
      by_what what this of = absurd (grind arith)

      pub recall_leads : StepLeads shape lines told before s w
      recall_leads = by_what recall_lives.what refl recall_lives.request
