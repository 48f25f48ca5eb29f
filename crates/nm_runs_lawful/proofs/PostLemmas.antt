-- A receive is posted for which no message is there. MPI 3.1, 3.5, 3.7.2.
use Rattle.std.proofs.Common.{◌≡◌, ℕ, ◌+◌, ◌-◌, ◌<◌, ◌≤◌, ◌==◌, ◌||◌, Bool, true, false, cond, not, Option, Some, None}
use Rattle.std.proofs.Common.{List, [], ◌∷◌, ◌++◌, length, map, refl, sym, ◌∙◌, ap, subst, arith, append-nil}
use Rattle.std.specs.Prelude.{Contains, is_some, option_map, option_to_list}
use Rattle.std.specs.List.{cons_option, filter_map, find, list_any, range_with_len}
use Rattle.std.proofs.lemmas.Bool.{false≢true}
use Rattle.std.proofs.lemmas.List.{map-append}
use Rattle.nm_types.specs.declared.answers.Answer.{Answer}
use Rattle.nm_types.specs.declared.messages.Arrival.{Arrival}
use Rattle.nm_types.specs.declared.messages.Post as post
use Rattle.nm_types.specs.declared.scripts.Command.{Command}
use Rattle.nm_types.specs.declared.scripts.Line.{Line}
use Rattle.nm_types.specs.Commands.{Numbered, commands_of, rank_line}
use Rattle.nm_types.specs.Sizes.{Sizes}
use Rattle.nm_types.proofs.NumberLemmas.{eq_false, eq_true, same_number}
use Rattle.nm_types.proofs.TruthLemmas.{not_true}
use Rattle.nm_history.specs.declared.events.Event.{Event}
use Rattle.nm_history.specs.declared.events.Happened.{Happened}
use Rattle.nm_history.specs.declared.events.Happened.TheVariants as event
use Rattle.nm_history.specs.declared.plain.Pair.{Pair}
use Rattle.nm_history.specs.Answers.{answer_of, live}
use Rattle.nm_history.specs.Matching.{first_message, is_of_message, is_of_receive, matched_pairs, pair_of}
use Rattle.nm_history.specs.Quiescence.{Ended, Packets, history_of}
use Rattle.nm_history.specs.RankRun.{NumberAt, cancels_since, is_start, ran_lines}
use Rattle.nm_history.specs.Selection.{matches}
use Rattle.nm_history.specs.Sends.{messages, receive_of, receives as all_receives}
use Rattle.nm_history.specs.Underway.{is_answer}
use Rattle.nm_history.proofs.Basic.{all_of, or_false}
use Rattle.nm_history.proofs.Lasting.{by_splits}
use Rattle.nm_outcomes.specs.Due.{IsDue, IsStartOf}
use Rattle.nm_outcomes.specs.Logs.{Step, history_in}
use Rattle.nm_outcomes.specs.Paths.{moved}
use Rattle.nm_outcomes.specs.Places.{RankPoint, after, message_for, or_else, pair_by}
use Rattle.nm_outcomes.proofs.Bodies.{came_known}
use Rattle.nm_outcomes.proofs.LogLemmas.{grown_here}
use Rattle.nm_outcomes.proofs.MoveLemmas.{found_is, request_is}
use Rattle.nm_outcomes.proofs.PlaceLemmas.{find-append}
use Rattle.nm_lawful.specs.declared.messages.Act.{Act}
use Rattle.nm_lawful.specs.declared.messages.Act.TheVariants as act
use Rattle.nm_lawful.specs.declared.messages.Message.{Message}
use Rattle.nm_lawful.specs.declared.messages.Pattern.{Pattern}
use Rattle.nm_lawful.specs.declared.messages.Request.{Request}
use Rattle.nm_lawful.specs.declared.messages.Standing.{Standing}
use Rattle.nm_lawful.specs.declared.messages.Standing.TheVariants as standing
use Rattle.nm_lawful.specs.Moves.{Goes, Report, told_at_lem}
use Rattle.nm_lawful.specs.Ranks.{RankState, first_to_lem, is_receiver_lem, live_lem, marked_lem, ran_at}
use Rattle.nm_lawful.specs.Ranks.{receiver_of_lem, with_standing, without_message}
use Rattle.nm_lawful.specs.Replies.{act_of_lem, pattern_lem}
use Rattle.nm_runs_lawful.specs.Stands.{IsNext, IsRunTold, SeenAlike, StepLeads, behind, claim_by, effects}
use Rattle.nm_runs_lawful.specs.Stands.{is_match_of, line_of, message_at, message_by, name_of, rank_of, request_by}
use Rattle.nm_runs_lawful.specs.Stands.{standing_of, state_of, taken_by}
use Rattle.nm_runs_lawful.proofs.BeginLemmas.{begin_answered, begun_none, live_others, no_cancels, other_line}
use Rattle.nm_runs_lawful.proofs.BeginLemmas.{request_new}
use Rattle.nm_runs_lawful.proofs.ArrivedLemmas.{sender_within}
use Rattle.nm_runs_lawful.proofs.ChangeLemmas.{claim_as, grown_map, marked_map, request_as, request_marked}
use Rattle.nm_runs_lawful.proofs.ChangeLemmas.{standing_as}
use Rattle.nm_runs_lawful.proofs.EffectLemmas.{IsStartAnswered, free_before}
use Rattle.nm_runs_lawful.proofs.EndedLemmas.{moved_own, moved_seen}
use Rattle.nm_runs_lawful.proofs.KnownLemmas.{known_sent}
use Rattle.nm_runs_lawful.proofs.LiveLemmas.{none_lives}
use Rattle.nm_runs_lawful.proofs.NextLemmas.{line_there, next_is}
use Rattle.nm_runs_lawful.proofs.OffLemmas.{new_receive}
use Rattle.nm_runs_lawful.proofs.OnceLemmas.{number_at}
use Rattle.nm_runs_lawful.proofs.OwnLemmas.{KnownAlike, at_before, at_behind, message_seen, own_grows}
use Rattle.nm_runs_lawful.proofs.PairedLemmas.{PairsAlike, now_paired, pairs_each, post_pairs, rows_behind, rows_same}
use Rattle.nm_runs_lawful.proofs.PairedLemmas.{same_message, stands_still}
use Rattle.nm_runs_lawful.proofs.RunLemmas.{run_goes, with_row}
use Rattle.nm_runs_lawful.proofs.SeenLemmas.{first_pending, inside, none_receives, selected}
use Rattle.nm_runs_lawful.proofs.SendLemmas.{free_of}
use Rattle.nm_runs_lawful.proofs.StayLemmas.{IsRecv, recv_command}
use Rattle.nm_runs_lawful.proofs.TakeLemmas.{row_at, take_leads}
use Rattle.nm_runs_lawful.proofs.UniqueLemmas.{line_starts, more_receives, receive_number}
use Rattle.nm_runs_lawful.proofs.QuietLemmas.{first_alone}
use Rattle.nm_runs_lawful.proofs.ToldLemmas.{step_split}

module _ (shape : Sizes) (lines : List Line) (ranks : List Ended) (packets : List Packets) (told : Report)
    (is : IsRunTold shape lines ranks packets told) (before : List Step) (s : Step) (later : List Step)
    (w : ℕ → RankPoint) (next : IsNext shape lines ranks before s later w) (p : post.Post) (line : ℕ)
    (posted : s.event.what ≡ event.Post p line)
  where
    abbrev i : ℕ
    i = s.rank

    abbrev commands : List Numbered
    commands = commands_of s.rank lines

    abbrev h : List Event
    h = history_in before s.rank

    abbrev v : ℕ → RankPoint
    v = moved lines w s

    due : IsStartOf shape.eager commands h (event.Post p line)
    due = subst (λ (what : Happened). IsDue shape.eager commands h what) posted next.due

    abbrev c : Numbered
    c = due.command

    recv : IsRecv c.line p line c.command
    recv = recv_command shape.eager c.line commands h p line c.command due.start

    at : line_of s.event.what ≡ Some c.line
    at = ap line_of posted ∙ ap (λ (l : ℕ). Some l) recv.line_is

    quiet : is_answer s.event.what ≡ false
    quiet = ap is_answer posted

    starts : is_start s.event.what ≡ true
    starts = ap is_start posted

    abbrev whole_is : history_of ranks s.rank ≡ h ++ s.event ∷ history_in later s.rank
    whole_is = step_split shape lines ranks packets told is before later s next.so_far.whole

    answered : IsStartAnswered shape lines ranks packets told is s.rank (history_in before s.rank) s.event
        (history_in later s.rank) whole_is c due.next quiet
    answered = begin_answered shape lines ranks packets told is before s later w next c due.next at quiet starts

    nor : cancels_since h ≡ []
    nor = no_cancels shape lines ranks packets told is before s later w next c due.next at quiet starts

    new : ((w i).off p.number ≡ false) × ((w i).pairs p.number ≡ None)
    new =
        new_receive shape lines ranks packets told is before (s ∷ later) w next.so_far i p.number
        (subst (λ (what : Happened). NumberAt shape.ranks h what) posted next.comes.own.numbers)

    own_is : v i ≡ after i commands (w i) (event.Post p line)
    own_is = moved_own lines w s ∙ ap (λ (what : Happened). after i commands (w i) what) posted

    known : KnownAlike (w i) (v i)
    known = subst (λ (x : RankPoint). KnownAlike (w i) x) (sym own_is) (record {
      handled = λ m. refl;
      matched = λ from n. matched_more from n (w i).begun;
      known = λ from n. first_alone ((w i).known from n);
    })
      where
        matched_more : (from n : ℕ) (ws : List Happened) →
            list_any (is_match_of from n) (ws ++ event.Post p line ∷ []) ≡ list_any (is_match_of from n) ws
        matched_more from n [] = refl
        matched_more from n (x ∷ ws) = ap (λ (b : Bool). is_match_of from n x || b) (matched_more from n ws)

    named : (q : ℕ) → (v i).named q ≡ (w i).named q
    named q = ap (λ (x : RankPoint). x.named q) own_is

    begun : (v i).begun ≡ (w i).begun ++ s.event.what ∷ []
    begun =
        ap (λ (x : RankPoint). x.begun) own_is ∙ ap (λ (what : Happened). (w i).begun ++ what ∷ []) (sym posted)

    off_same : (k : ℕ) → (v i).off k ≡ (w i).off k
    off_same k = ap (λ (x : RankPoint). x.off k) own_is ∙ or_false ((w i).off k)

    abbrev opened : Standing
    opened = standing.Open (pattern_lem p.from p.tag p.ctx) p.cap

    abbrev new_request : Request
    new_request = record { q = recv.q; place = c.line - 2; standing = opened }

    abbrev row : RankState
    row = rank_of lines w (history_in before) s.rank

    free : live_lem row recv.q ≡ None
    free =
        none_lives lines w (history_in before) i (next.so_far.places i)
        (begun_none shape lines ranks packets told is before s later w next c due.next at quiet starts) recv.q
        (request_is i commands h (w i) (next.so_far.places i) recv.q
        ∙ free_before shape lines ranks packets told is i h s.event (history_in later i) whole_is c due.next quiet
        answered.behind recv.q
        (free_of (live commands answered.behind.front recv.q)
        (sym (ap (answer_of commands answered.behind.front c.line) recv.is) ∙ answered.may)))

    acts : act_of_lem lines (state_of shape.ranks lines w before) i row (c.line - 2) c.command
        (told_at_lem told None (c.line - 2)) ≡ Some (act.Post recv.q (pattern_lem p.from p.tag p.ctx) p.cap)
    acts =
        ap (λ (o : Option Answer). act_of_lem lines (state_of shape.ranks lines w before) i row (c.line - 2) c.command
        o) answered.is_told
        ∙ ap (λ (x : Command). act_of_lem lines (state_of shape.ranks lines w before) i row (c.line - 2) x None) recv.is
        ∙ ap (λ (o : Option Request). cond (not (is_some o))
        (Some (act.Post recv.q (pattern_lem p.from p.tag p.ctx) p.cap)) None) free

    -- no message is there for it
    module _ (none_there : message_for (w s.rank) p ≡ None) where
      unpaired : pair_by (w i) (event.Post p line) ≡ None
      unpaired = ap (λ (o : Option Arrival). option_map (λ a. pair_of p a) o) none_there

      seen : (r : ℕ) → SeenAlike (w r) (v r)
      seen =
          moved_seen lines w s
          (subst (λ (what : Happened). SeenAlike (w i) (after i commands (w i) what)) (sym posted) (record {
            taken = λ from n.
                ap (λ (o : Option Pair). (w i).taken from n || list_any (is_of_message from n)
                (option_to_list o)) unpaired
                ∙ or_false ((w i).taken from n);
            withdrawn = λ from n. or_false ((w i).withdrawn from n);
            lines = λ to. append-nil ((w i).lines to);
          }))

      pairs_same : (k : ℕ) → (v i).pairs k ≡ (w i).pairs k
      pairs_same k =
          ap (λ (x : RankPoint). x.pairs k) own_is
          ∙ ap (λ (o : Option Pair). or_else ((w i).pairs k) (find (is_of_receive k) (option_to_list o))) unpaired
          ∙ first_alone ((w i).pairs k)

      same_standing : (what : Happened) → standing_of commands v i what ≡ standing_of commands w i what
      same_standing what =
          standing_as w v i commands what (λ t k of. (seen t).withdrawn i k)
          (λ t k of. ap (λ (x : RankPoint). x.recalled t k) own_is ∙ or_false ((w i).recalled t k))
          (λ k of. off_same k) (λ k of. pairs_same k) (λ k pair of paired. message_seen w v i seen pair.arrival)

      request_is_new : request_by commands v i s.event.what ≡ Some new_request
      request_is_new =
          request_new shape lines ranks packets told is before s later w next c due.next at quiet starts named begun
          recv.q (ap name_of recv.is)
          ∙ ap (λ (x : Standing). Some (record { q = recv.q; place = c.line - 2; standing = x }))
          (ap (standing_of commands v i) posted
          ∙ ap (λ (b : Bool). cond b standing.Off (taken_by v i ((v i).pairs p.number) opened))
          (off_same p.number ∙ new.0)
          ∙ ap (λ (o : Option Pair). taken_by v i o opened) (pairs_same p.number ∙ new.1))

      requests : filter_map (λ (e : Event). request_by commands v i e.what) (h ++ s.event ∷ [])
          ≡ row.requests ++ new_request ∷ []
      requests =
          grown_map (λ (e : Event). request_by commands w i e.what) (λ (e : Event). request_by commands v i e.what) h
          s.event
          (by_splits (λ e. request_by commands v i e.what ≡ request_by commands w i e.what) h [] h refl
          (λ b e t split. request_as w v i commands e.what
          (λ q l of names. live_others shape lines ranks packets told is before s later w next c due.next at quiet
          starts
          named begun q l
          (other_line shape lines ranks packets told is before s later w next c due.next at quiet starts b e t split l
          of)) (same_standing e.what)))
          ∙ ap (λ (o : Option Request). row.requests ++ cons_option o []) request_is_new

      pub post_leads : StepLeads shape lines told before s w
      post_leads =
          own_grows shape lines ranks packets told is before s later w next c due.next quiet answered.first nor
          (rw starts refl) seen known (ap (message_by v i) posted) (ap (claim_by commands v i) posted)
          (act.Post recv.q (pattern_lem p.from p.tag p.ctx) p.cap) (λ t. refl) (row.requests ++ new_request ∷ []) refl
          requests acts

    -- A message is there for it, which it takes: the machine's receive stands open first, and takes it then.
    module _ (a : Arrival) (there : message_for (w s.rank) p ≡ Some a) where
      abbrev pair : Pair
      pair = pair_of p a

      abbrev j : ℕ
      j = a.env.from

      abbrev m : Message
      m = message_at w s.rank a

      abbrev pattern : Pattern
      pattern = pattern_lem p.from p.tag p.ctx

      abbrev g : ℕ → List Event
      g = history_in (before ++ s ∷ [])

      abbrev rows : ℕ → RankState
      rows = rank_of lines w (history_in before)

      alike : (r : ℕ) → PairsAlike (s.rank == r) pair (w r) (moved lines w s r)
      alike =
          pairs_each lines w s pair
          (subst (λ (what : Happened). PairsAlike true pair (w i) (after i commands (w i) what)) (sym posted)
          (post_pairs i commands (w i) p line pair
          (ap (λ (o : Option Arrival). option_map (λ a. pair_of p a) o) there)))

      found : first_message h (matched_pairs h) p.from p.tag p.ctx ≡ Some a
      found = sym (found_is i commands h (w i) (next.so_far.places i) p.from p.tag p.ctx) ∙ there

      came : Contains (messages h) a
      came =
          inside shape lines ranks packets told is before s later w next i answered.not_claimed p.from p.tag p.ctx a
          found

      chosen : matches p.from p.tag p.ctx a.env ≡ true
      chosen =
          selected shape lines ranks packets told is before s later w next i answered.not_claimed p.from p.tag p.ctx a
          found

      within : a.env.from < shape.ranks
      within = sender_within shape lines ranks packets told is before (s ∷ later) w next.so_far i a came

      sent : a.n < length ((w a.env.from).lines s.rank)
      sent =
          known_sent shape lines ranks packets told is before (s ∷ later) w next.so_far i j a.n
          (came_known h a came)

      -- the receive has its message behind it
      abbrev taken_request : Request
      taken_request = record { q = recv.q; place = c.line - 2; standing = standing.Taken p.cap m }

      request_is_taken : request_by commands v i s.event.what ≡ Some taken_request
      request_is_taken =
          request_new shape lines ranks packets told is before s later w next c due.next at quiet starts named begun
          recv.q (ap name_of recv.is)
          ∙ ap (λ (x : Standing). Some (record { q = recv.q; place = c.line - 2; standing = x }))
          (ap (standing_of commands v i) posted
          ∙ ap (λ (b : Bool). cond b standing.Off (taken_by v i ((v i).pairs p.number) opened))
          (off_same p.number ∙ new.0)
          ∙ ap (λ (o : Option Pair). taken_by v i o opened)
          (now_paired shape lines ranks packets told is before s later w next pair alike new.1)
          ∙ ap (λ (x : Message). standing.Taken p.cap x)
          (same_message shape lines ranks packets told is before s later w next pair alike i a))

      requests_taken : filter_map (λ (e : Event). request_by commands v i e.what) (g i)
          ≡ row.requests ++ taken_request ∷ []
      requests_taken =
          ap (λ (k : List Event). filter_map (λ (e : Event). request_by commands v i e.what) k) (grown_here before s)
          ∙ grown_map (λ (e : Event). request_by commands w i e.what) (λ (e : Event). request_by commands v i e.what)
          h s.event
          (by_splits (λ e. request_by commands v i e.what ≡ request_by commands w i e.what) h [] h refl
          (λ b e t split. request_as w v i commands e.what
          (λ q l of names. live_others shape lines ranks packets told is before s later w next c due.next at quiet
          starts named begun q l
          (other_line shape lines ranks packets told is before s later w next c due.next at quiet starts b e t split l
          of))
          (stands_still shape lines ranks packets told is before s later w next pair alike e.what
          (λ k of. not_new b e t split k of))))
          ∙ ap (λ (o : Option Request). row.requests ++ cons_option o []) request_is_taken
        where
          not_new : (b : List Event) (e : Event) (t : List Event) → h ≡ b ++ e ∷ t → (k : ℕ) →
              receive_of e.what ≡ Some k → (p.number == k) ≡ false
          not_new b e t split k of =
              let early = more_receives b t e k of (receive_number shape.ranks b e.what k
              (number_at shape lines ranks packets told is before (s ∷ later) w next.so_far i b e t split) of) in
              let all : length (all_receives (b ++ e ∷ t)) ≡ length (all_receives h) =
              ap (λ (k : List Event). length (all_receives k)) (sym split) in
              let number : p.number ≡ length (all_receives h) =
              subst (λ (what : Happened). NumberAt shape.ranks h what) posted next.comes.own.numbers in
              eq_false p.number k (omega (arith, early, all, number))

      claims_same : filter_map (λ (e : Event). claim_by commands v i e.what) (g i) ≡ row.claims
      claims_same =
          ap (λ (k : List Event). filter_map (λ (e : Event). claim_by commands v i e.what) k) (grown_here before s)
          ∙ grown_map (λ (e : Event). claim_by commands w i e.what) (λ (e : Event). claim_by commands v i e.what) h
          s.event
          (all_of (λ e. claim_by commands v i e.what ≡ claim_by commands w i e.what) h (λ e. by_event e.what))
          ∙ ap (λ (what : Happened). row.claims ++ cons_option (claim_by commands v i what) []) posted
          ∙ append-nil row.claims
        where
          by_event : (what : Happened) → claim_by commands v i what ≡ claim_by commands w i what
          by_event (event.Claim f y own) =
              claim_as w v i commands f y own known.handled (known.matched f y) (known.known f y)
              (λ x so. same_message shape lines ranks packets told is before s later w next pair alike i x)
          by_event what = refl

      -- the state between the machine's two moves
      abbrev does : Act
      does = act.Post recv.q pattern p.cap

      abbrev first : RankState → RankState
      first = ran_at (c.line - 2) (c.line - 2 + 1) does

      abbrev middle : ℕ → RankState
      middle k = cond (s.rank == k) (first (rows k)) (rows k)

      own_middle : middle i ≡ first (rows i)
      own_middle = ap (λ (b : Bool). cond b (first (rows i)) (rows i)) (eq_true i i refl)

      abbrev now : List RankState
      now = state_of shape.ranks lines w before

      posts_first : Goes lines told None now (map middle (range_with_len 0 shape.ranks))
      posts_first =
          let here = at_before shape lines ranks packets told is before s later w next c due.next quiet answered.first
          nor (rw starts refl) in
          let goes = run_goes lines told now i (rows i) (row_at lines told shape.ranks rows i next.comes.within)
          (c.line - 2) (rank_line i c.command) does (next_is i lines (effects h) c here)
          (line_there i lines (effects h) c here).1 acts in (
            goes.0,
            goes.1 ∙ ap (λ (t : List RankState). Some t)
                (with_row rows middle first i shape.ranks next.comes.within own_middle
                (λ k other. ap (λ (b : Bool). cond b (first (rows k)) (rows k)) other)),
          )

      -- there the new receive is the oldest that selects the message
      receives : receiver_of_lem (middle i) m ≡ Some new_request
      receives =
          ap (λ (x : RankState). receiver_of_lem x m) own_middle
          ∙ find-append (λ (r : Request). is_receiver_lem m r) row.requests (new_request ∷ [])
          ∙ ap (λ (o : Option Request). or_else o (find (λ (r : Request). is_receiver_lem m r) (new_request ∷ [])))
          (none_receives shape lines ranks packets told is before s later w next i answered.not_claimed p.from p.tag
          p.ctx a found)
          ∙ ap (λ (b : Bool). cond b (Some new_request) None) chosen

      -- .. whose first it is
      is_first : first_to_lem (middle j) i (middle i) pattern ≡ Some m
      is_first =
          ap (λ (x : RankState). first_to_lem (middle j) i x pattern) own_middle ∙ by_sender (i == j)
          ∙ first_pending shape lines ranks packets told is before s later w next i answered.not_claimed p.from p.tag
          p.ctx a found
        where
          by_sender : (b : Bool) → first_to_lem (cond b (first (rows j)) (rows j)) i (first (rows i)) pattern
              ≡ first_to_lem (rows j) i (rows i) pattern
          by_sender true = refl
          by_sender false = refl

      -- the pair marks the new receive alone
      abbrev mark : Request → Request
      mark = marked_lem (c.line - 2) (standing.Taken p.cap m)

      others_unmarked : row.requests ≡ map mark row.requests
      others_unmarked =
          marked_map (λ (e : Event). request_by commands w i e.what) (λ (e : Event). request_by commands w i e.what)
          mark h
          (by_splits (λ e. request_by commands w i e.what ≡ option_map mark (request_by commands w i e.what)) h [] h
          refl
          (λ b e t split. request_marked w w i commands e.what (c.line - 2) (standing.Taken p.cap m)
          (λ q l of names. refl)
          (λ l of. sym (ap (λ (x : Bool). cond x (standing.Taken p.cap m) (standing_of commands w i e.what))
          (other_place b e t split l of)))))
        where
          apart : (x y : ℕ) → 2 ≤ x → 2 ≤ y → x - 2 ≡ y - 2 → x ≡ y
          apart x y first second same = omega (arith, first, second, same)

          other_place : (b : List Event) (e : Event) (t : List Event) → h ≡ b ++ e ∷ t → (l : ℕ) →
              line_of e.what ≡ Some l → ((l - 2) == (c.line - 2)) ≡ false
          other_place b e t split l of =
              not_true ((l - 2) == (c.line - 2)) (λ same. false≢true
              (sym (other_line shape lines ranks packets told is before s later w next c due.next at quiet starts b e
              t split l of)
              ∙ eq_true l c.line (apart l c.line
              (line_starts shape lines ranks packets told is before (s ∷ later) w next.so_far i b e t split l of).1
              (line_there i lines (length (ran_lines h)) c due.next).0
              (same_number (l - 2) (c.line - 2) same))))

      abbrev own : RankState
      own =
          record {
            at = c.line - 2 + 1;
            requests = row.requests ++ taken_request ∷ [];
            outgoing = row.outgoing;
            claims = row.claims;
          }

      marked : with_standing (c.line - 2) (standing.Taken p.cap m) (first (rows i)) ≡ own
      marked =
          ap (λ (rs : List Request). record own { requests = rs })
          (map-append mark row.requests (new_request ∷ [])
          ∙ ap (λ (rs : List Request). rs ++ mark new_request ∷ []) (sym others_unmarked)
          ∙ ap (λ (b : Bool). row.requests ++ cond b taken_request new_request ∷ [])
          (eq_true (c.line - 2) (c.line - 2) refl))

      each_behind : (k : ℕ) → rank_of lines v g k
          ≡ cond (i == k) (with_standing (c.line - 2) (standing.Taken p.cap m)
          (cond (j == k) (without_message m.place (middle k)) (middle k)))
          (cond (j == k) (without_message m.place (middle k)) (middle k))
      each_behind k =
          rows_behind shape lines ranks packets told is before s later w next pair alike sent
          (ap (message_by v i) posted) own
          (rows_same (behind commands (effects (g i))) (c.line - 2 + 1)
          (filter_map (λ (e : Event). request_by commands v i e.what) (g i)) (row.requests ++ taken_request ∷ [])
          (filter_map (λ (e : Event). claim_by commands v i e.what) (g i)) row.claims row.outgoing
          (at_behind shape lines ranks packets told is before s later w next c due.next quiet answered.first nor
          (rw starts refl)) requests_taken claims_same) k
          ∙ by_rank (i == k) refl
        where
          by_sender : (d : Bool) → cond d (without_message m.place own) own
              ≡ with_standing (c.line - 2) (standing.Taken p.cap m)
              (cond d (without_message m.place (first (rows i))) (first (rows i)))
          by_sender true = ap (without_message m.place) (sym marked)
          by_sender false = sym marked

          by_rank : (b : Bool) → (i == k) ≡ b →
              cond (j == k) (without_message m.place (cond b own (rows k))) (cond b own (rows k))
              ≡ cond b (with_standing (c.line - 2) (standing.Taken p.cap m)
              (cond (j == k) (without_message m.place (cond b (first (rows k)) (rows k)))
              (cond b (first (rows k)) (rows k))))
              (cond (j == k) (without_message m.place (cond b (first (rows k)) (rows k)))
              (cond b (first (rows k)) (rows k)))
          by_rank true same =
              subst (λ (k : ℕ). cond (j == k) (without_message m.place own) own
              ≡ with_standing (c.line - 2) (standing.Taken p.cap m)
              (cond (j == k) (without_message m.place (first (rows k))) (first (rows k)))) (same_number i k same)
              (by_sender (j == i))
          by_rank false other = refl

      pub post_paired : StepLeads shape lines told before s w
      post_paired = (
        2,
        (
          map middle (range_with_len 0 shape.ranks),
          posts_first,
          (
            state_of shape.ranks lines v (before ++ s ∷ []),
            take_leads lines told shape.ranks middle (rank_of lines v g) m new_request pattern next.comes.within
                within receives refl is_first each_behind,
            refl,
          ),
        ),
      )
