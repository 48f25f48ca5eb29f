-- A message comes for which no receive is there. The machine, which has no arrivals, does nothing. MPI 3.1, 3.5.
use Rattle.std.proofs.Common.{◌≡◌, ◌⊎◌, ℕ, ◌-◌, ◌<◌, ◌==◌, ◌||◌, Bool, true, false, cond, Option, Some, None}
use Rattle.std.proofs.Common.{List, [], ◌∷◌, ◌++◌, length, map, refl, sym, ◌∙◌, ap, subst, arith, append-nil}
use Rattle.std.proofs.lemmas.Bool.{false≢true, le-ltb}
use Rattle.std.proofs.lemmas.List.Elements.{filter_map-append}
use Rattle.std.specs.Prelude.{Contains, option_map, option_to_list}
use Rattle.std.specs.List.{cons_option, filter_map, find, list_any, slice_get}
use Rattle.nm_types.specs.declared.messages.Arrival.{Arrival}
use Rattle.nm_types.specs.declared.messages.Envelope.{Envelope}
use Rattle.nm_types.specs.declared.messages.How.{How}
use Rattle.nm_types.specs.declared.messages.Post as post
use Rattle.nm_types.specs.declared.scripts.Line.{Line}
use Rattle.nm_types.specs.Commands.{Numbered, commands_of}
use Rattle.nm_types.specs.Sizes.{Sizes}
use Rattle.nm_types.proofs.ListLemmas.{find_nothing, find_passes, get_from_map, get_map, place_below}
use Rattle.nm_types.proofs.NumberLemmas.{eq_true, same_number}
use Rattle.nm_types.proofs.OptionLemmas.{same_some}
use Rattle.nm_types.proofs.TruthLemmas.{and_left, and_right, not_true}
use Rattle.nm_history.specs.declared.events.Event.{Event}
use Rattle.nm_history.specs.declared.events.Happened.{Happened}
use Rattle.nm_history.specs.declared.events.Happened.TheVariants as event
use Rattle.nm_history.specs.declared.plain.Pair.{Pair}
use Rattle.nm_history.specs.Matching.{is_of_message, is_of_receive, is_open, matched_pairs, pair_of}
use Rattle.nm_history.specs.Quiescence.{Ended, Packets}
use Rattle.nm_history.specs.RankRun.{NumberAt, is_cancelling, is_start}
use Rattle.nm_history.specs.Selection.{matches}
use Rattle.nm_history.specs.Sends.{Sent, arrival_of, arrivals, envelope, messages, posts, receive_of, sends}
use Rattle.nm_history.specs.Underway.{is_answer}
use Rattle.nm_history.proofs.Basic.{all_of, or_false}
use Rattle.nm_history.proofs.Lasting.{by_splits}
use Rattle.nm_history.proofs.SelectionLemmas.{find_contains}
use Rattle.nm_lookups.proofs.ReplayLemmas.{first_open}
use Rattle.nm_match.specs.Deeds.{is_known_message, is_message}
use Rattle.nm_match.proofs.NumberLemmas.{messages_numbered}
use Rattle.nm_match.proofs.QueueLemmas.{open_means}
use Rattle.nm_outcomes.specs.Moves.{MayMove}
use Rattle.nm_outcomes.specs.Logs.{Step, history_in}
use Rattle.nm_outcomes.specs.Paths.{moved}
use Rattle.nm_outcomes.specs.Places.{RankPoint, after, or_else, pair_by, receive_for}
use Rattle.nm_outcomes.proofs.LogLemmas.{grown_here}
use Rattle.nm_lawful.specs.declared.messages.Message.{Message}
use Rattle.nm_lawful.specs.declared.messages.Pattern.{Pattern}
use Rattle.nm_lawful.specs.declared.messages.Request.{Request}
use Rattle.nm_lawful.specs.declared.messages.Standing.{Standing}
use Rattle.nm_lawful.specs.declared.messages.Standing.TheVariants as standing
use Rattle.nm_lawful.specs.Moves.{Report}
use Rattle.nm_lawful.specs.Ranks.{RankState, first_to_lem, is_claimed_lem, marked_lem, receiver_of_lem, with_standing}
use Rattle.nm_lawful.specs.Ranks.{without_message}
use Rattle.nm_lawful.specs.Replies.{pattern_lem}
use Rattle.nm_runs_lawful.specs.Stands.{IsNext, IsRunTold, SeenAlike, StepLeads, behind, claim_by, effects}
use Rattle.nm_runs_lawful.specs.Stands.{is_live_at, is_match_of, line_of, message_at, state_of, taken_by}
use Rattle.nm_runs_lawful.specs.Stands.{is_matched_now, message_by, rank_of, request_by, standing_of}
use Rattle.nm_runs_lawful.proofs.AlikeLemmas.{rows_kept}
use Rattle.nm_runs_lawful.proofs.ChangeLemmas.{claim_as, grown_map, request_as, row_is, standing_as}
use Rattle.nm_runs_lawful.proofs.ClaimedLemmas.{claim_known}
use Rattle.nm_runs_lawful.proofs.EndedLemmas.{moved_other, moved_own, moved_seen}
use Rattle.nm_runs_lawful.proofs.OwnLemmas.{message_seen, pending_seen}
use Rattle.nm_runs_lawful.proofs.QuietLemmas.{first_alone, live_still, same_effects}
use Rattle.nm_runs_lawful.proofs.ArrivedLemmas.{message_sent}
use Rattle.nm_runs_lawful.proofs.BeforeLemmas.{claimed_or_missed}
use Rattle.nm_runs_lawful.proofs.FirstLemmas.{first_of}
use Rattle.nm_runs_lawful.proofs.KnownLemmas.{known_named, unknown_taken, unknown_withdrawn}
use Rattle.nm_runs_lawful.proofs.OnceLemmas.{numbers_now}
use Rattle.nm_runs_lawful.proofs.OpenLemmas.{IsPostedFirst, first_posted, first_receiver, selecting}
use Rattle.nm_runs_lawful.proofs.PairedLemmas.{PairsAlike, arrive_pairs, now_paired, pairs_each, rows_behind, rows_same}
use Rattle.nm_runs_lawful.proofs.PairedLemmas.{same_message, stands_still}
use Rattle.nm_runs_lawful.proofs.OpenedLemmas.{recv, request_open}
use Rattle.nm_runs_lawful.proofs.TakeLemmas.{take_leads}
use Rattle.nm_runs_lawful.proofs.UniqueLemmas.{line_starts, receive_once, requests_marked}

module _ (shape : Sizes) (lines : List Line) (ranks : List Ended) (packets : List Packets) (told : Report)
    (is : IsRunTold shape lines ranks packets told) (before : List Step) (s : Step) (later : List Step)
    (w : ℕ → RankPoint) (next : IsNext shape lines ranks before s later w) (a : Arrival)
    (comes : s.event.what ≡ event.Arrive a)
  where
    abbrev i : ℕ
    i = s.rank

    abbrev commands : List Numbered
    commands = commands_of s.rank lines

    abbrev h : List Event
    h = history_in before s.rank

    abbrev v : ℕ → RankPoint
    v = moved lines w s

    own_is : v i ≡ after i commands (w i) (event.Arrive a)
    own_is = moved_own lines w s ∙ ap (λ (what : Happened). after i commands (w i) what) comes

    -- what was claimed before was known before
    same_claim : ((y : Arrival) → message_at v i y ≡ message_at w i y) → (b : List Event) (e : Event) (t : List Event)
        → h ≡ b ++ e ∷ t → (what : Happened) → e.what ≡ what →
        claim_by commands v i what ≡ claim_by commands w i what
    same_claim messages b e t split (event.Claim f k l) at =
        let known = claim_known shape lines ranks packets told is before (s ∷ later) w next.so_far i b e t split f k l
        at in
        claim_as w v i commands f k l (λ m. ap (λ (x : RankPoint). x.handled m) own_is)
        (ap (λ (x : RankPoint). is_matched_now x f k) own_is
        ∙ ap (λ (ws : List Happened). list_any (is_match_of f k) ws) (append-nil (w i).begun))
        (ap (λ (x : RankPoint). x.known f k) own_is
        ∙ ap (λ (o : Option Arrival). or_else o (find (is_message f k) (cons_option (arrival_of (event.Arrive a)) [])))
        known.1 ∙ sym known.1) (λ y so. messages y)
    same_claim messages b e t split what at = refl

    abbrev row : RankState
    row = rank_of lines w (history_in before) s.rank

    at_same : behind commands (effects (history_in (before ++ s ∷ []) i)) ≡ row.at
    at_same =
        ap (λ (k : List Event). behind commands (effects k)) (grown_here before s)
        ∙ ap (behind commands) (same_effects h s.event (ap is_answer comes)
        (ap (λ (what : Happened). is_start what || is_cancelling what) comes))

    live_same : (q l : ℕ) → is_live_at (v i) q l ≡ is_live_at (w i) q l
    live_same q l =
        ap (λ (x : RankPoint). is_live_at x q l) own_is
        ∙ live_still (w i) q l ((w i).begun ++ []) (append-nil (w i).begun)

    -- no receive is there for it
    module _ (none_there : receive_for (w s.rank) a ≡ None) where
      unpaired : pair_by (w i) (event.Arrive a) ≡ None
      unpaired = ap (λ (o : Option post.Post). option_map (λ p. pair_of p a) o) none_there

      seen : (r : ℕ) → SeenAlike (w r) (v r)
      seen =
          moved_seen lines w s
          (subst (λ (what : Happened). SeenAlike (w i) (after i commands (w i) what)) (sym comes) (record {
            taken = λ from n.
                ap (λ (o : Option Pair). (w i).taken from n || list_any (is_of_message from n)
                (option_to_list o)) unpaired
                ∙ or_false ((w i).taken from n);
            withdrawn = λ from n. or_false ((w i).withdrawn from n);
            lines = λ to. append-nil ((w i).lines to);
          }))

      same_standing : (what : Happened) → standing_of commands v i what ≡ standing_of commands w i what
      same_standing what =
          standing_as w v i commands what (λ t k of. (seen t).withdrawn i k)
          (λ t k of. ap (λ (x : RankPoint). x.recalled t k) own_is ∙ or_false ((w i).recalled t k))
          (λ k of. ap (λ (x : RankPoint). x.off k) own_is ∙ or_false ((w i).off k))
          (λ k of. ap (λ (x : RankPoint). x.pairs k) own_is
          ∙ ap (λ (o : Option Pair). or_else ((w i).pairs k) (find (is_of_receive k) (option_to_list o))) unpaired
          ∙ first_alone ((w i).pairs k)) (λ k pair of paired. message_seen w v i seen pair.arrival)

      pub arrive_leads : StepLeads shape lines told before s w
      arrive_leads = (
        0,
        sym (rows_kept shape.ranks lines w before s (moved_other lines w s) seen
            (row_is lines v (history_in (before ++ s ∷ [])) i row.at row.requests row.outgoing row.claims
            at_same
            (ap (λ (k : List Event). filter_map (λ (e : Event). request_by commands v i e.what) k) (grown_here before s)
            ∙ grown_map (λ (e : Event). request_by commands w i e.what) (λ (e : Event). request_by commands v i
            e.what) h
            s.event
            (all_of (λ e. request_by commands v i e.what ≡ request_by commands w i e.what) h
            (λ e. request_as w v i commands e.what
            (λ q l of names. live_same q l) (same_standing e.what)))
            ∙ ap (λ (what : Happened). row.requests ++ cons_option (request_by commands v i what) []) comes
            ∙ append-nil row.requests)
            (ap (λ (k : List Event). filter_map (λ (e : Event). message_by v i e.what) k) (grown_here before s)
            ∙ grown_map (λ (e : Event). message_by w i e.what) (λ (e : Event). message_by v i e.what) h s.event
            (all_of (λ e. message_by v i e.what ≡ message_by w i e.what) h (λ e. pending_seen w v i seen e.what))
            ∙ ap (λ (what : Happened). row.outgoing ++ cons_option (message_by v i what) []) comes
            ∙ append-nil row.outgoing)
            (ap (λ (k : List Event). filter_map (λ (e : Event). claim_by commands v i e.what) k) (grown_here before s)
            ∙ grown_map (λ (e : Event). claim_by commands w i e.what) (λ (e : Event). claim_by commands v i e.what) h
            s.event
            (by_splits (λ e. claim_by commands v i e.what ≡ claim_by commands w i e.what) h [] h refl
            (λ b e t split. same_claim (message_seen w v i seen) b e t split e.what refl))
            ∙ ap (λ (what : Happened). row.claims ++ cons_option (claim_by commands v i what) []) comes
            ∙ append-nil row.claims))),
      )

    -- A receive is there for it, and takes it.
    module _ (p : post.Post) (there : receive_for (w s.rank) a ≡ Some p) where
      abbrev pair : Pair
      pair = pair_of p a

      abbrev j : ℕ
      j = a.env.from

      abbrev m : Message
      m = message_at w s.rank a

      abbrev pattern : Pattern
      pattern = pattern_lem p.from p.tag p.ctx

      abbrev g : ℕ → List Event
      g = history_in (before ++ s ∷ [])

      abbrev rows : ℕ → RankState
      rows = rank_of lines w (history_in before)

      abbrev test : post.Post → Bool
      test = selecting shape lines ranks packets told is before (s ∷ later) w next.so_far i a

      alike : (r : ℕ) → PairsAlike (s.rank == r) pair (w r) (moved lines w s r)
      alike =
          pairs_each lines w s pair
          (subst (λ (what : Happened). PairsAlike true pair (w i) (after i commands (w i) what)) (sym comes)
          (arrive_pairs i commands (w i) a pair
          (ap (λ (o : Option post.Post). option_map (λ p. pair_of p a) o) there)))

      -- the first open receive that selects it
      found : find test (posts h) ≡ Some p
      found =
          sym (ap (λ (ps : List post.Post). find (λ p. matches p.from p.tag p.ctx a.env) ps)
          (next.so_far.places i).receives ∙ first_open h a.env) ∙ there

      first : IsPostedFirst test h p
      first = first_posted test h p found

      passes : test p ≡ true
      passes = find_passes test (posts h) p found

      chosen : matches p.from p.tag p.ctx a.env ≡ true
      chosen = and_left (matches p.from p.tag p.ctx a.env) (is_open h (matched_pairs h) p) passes

      opened : is_open h (matched_pairs h) p ≡ true
      opened = and_right (matches p.from p.tag p.ctx a.env) (is_open h (matched_pairs h) p) passes

      posted_in : Contains (posts h) p
      posted_in = find_contains test (posts h) p found

      -- the message is the next one of its sender
      number : a.n ≡ length (arrivals h j)
      number = (subst (λ (what : Happened). NumberAt shape.ranks h what) comes next.comes.own.numbers).1

      within : a.env.from < shape.ranks
      within = (subst (λ (what : Happened). NumberAt shape.ranks h what) comes next.comes.own.numbers).0

      send_found : (x : Sent) × (slice_get (sends (history_in before j) i) a.n ≡ Some x) × (envelope j x ≡ a.env)
      send_found =
          let moves = subst (λ (what : Happened). MayMove shape lines w i what) comes next.moves in
          get_from_map (envelope j) (sends (history_in before j) i) a.n a.env
          (ap (λ (es : List Envelope). slice_get es a.n) (sym ((next.so_far.places j).sent i))
          ∙ ap (λ (k : ℕ). slice_get ((w j).sent i) k) moves.1 ∙ moves.0)

      abbrev x : Sent
      x = send_found.0

      line_there : slice_get ((w j).lines i) a.n ≡ Some x.line
      line_there =
          ap (λ (ls : List ℕ). slice_get ls a.n) ((next.so_far.places j).lines i)
          ∙ get_map (λ (s : Sent). s.line) (sends (history_in before j) i) a.n x send_found.1

      sent : a.n < length ((w a.env.from).lines s.rank)
      sent = place_below ((w j).lines i) a.n x.line line_there

      same_as : (b : List Event) (e : Event) (t : List Event) → history_in before j ≡ b ++ e ∷ t →
          (tag ctx len : ℕ) (how : How) → e.what ≡ event.Send i a.n tag ctx len how x.line →
          ◌≡◌ {A = Message} (record { place = x.line - 2; from = j; to = i; tag = tag; ctx = ctx; len = len }) m
      same_as b e t split tag ctx len how at =
          message_sent shape lines ranks packets told is before (s ∷ later) w next.so_far i a
          (λ y here. sym send_found.2 ∙ ap (envelope j) (same_some x y (sym send_found.1 ∙ here))) b e t split tag ctx
          len how x.line at

      unknown : is_known_message h j a.n ≡ false
      unknown =
          messages_numbered shape.ranks h
          (numbers_now shape lines ranks packets told is before (s ∷ later) w next.so_far i) j a.n
          ∙ le-ltb a.n (length (arrivals h j)) (let same = number in omega (arith, same))

      gone : ((w i).taken j a.n ≡ false) × ((w i).withdrawn j a.n ≡ false)
      gone = (
        unknown_taken shape lines ranks packets told is before (s ∷ later) w next.so_far i j a.n unknown,
        unknown_withdrawn shape lines ranks packets told is before (s ∷ later) w next.so_far i j a.n unknown,
      )

      unheld : (b : List Event) (e : Event) (t : List Event) → h ≡ b ++ e ∷ t → (l : ℕ) →
          e.what ≡ event.Claim j a.n l → claim_by commands w i e.what ≡ None
      unheld b e t split l at =
          let known = claim_known shape lines ranks packets told is before (s ∷ later) w next.so_far i b e t split j
          a.n l at in
          absurd (false≢true (sym unknown
          ∙ (known_named shape lines ranks packets told is before (s ∷ later) w next.so_far i j a.n known.0
          known.1).2))

      earlier : (a' : Arrival) → Contains (messages h) a' → a'.env.from ≡ j → a'.n < a.n →
          ((w i).taken j a'.n ≡ false) × ((w i).withdrawn j a'.n ≡ false) →
          (is_claimed_lem (rank_of lines w (history_in before) i) (message_at w i a') ≡ true)
          ⊎ (matches p.from p.tag p.ctx a'.env ≡ false)
      earlier a' inside same low free =
          claimed_or_missed shape lines ranks packets told is before (s ∷ later) w next.so_far i p posted_in opened a'
          inside
          (subst (λ (r : ℕ). ((w i).taken r a'.n ≡ false) × ((w i).withdrawn r a'.n ≡ false)) (sym same) free)

      is_first : first_to_lem (rows j) i (rows i) pattern ≡ Some m
      is_first =
          first_of shape lines ranks packets told is before (s ∷ later) w next.so_far i a x.line line_there same_as
          (λ n low. let count = number in omega (arith, low, count)) gone unheld p.from p.tag p.ctx chosen earlier

      -- the receive's request is the oldest that selects it
      abbrev request : Request
      request =
          record {
            q = (recv shape lines ranks packets told is before (s ∷ later) w next.so_far i p first.line first.b first.e
                first.t first.split first.posted opened).q;
            place = first.line - 2;
            standing = standing.Open pattern p.cap;
          }

      receives : receiver_of_lem (rows i) m ≡ Some request
      receives =
          first_receiver shape lines ranks packets told is before (s ∷ later) w next.so_far i a p first request
          (request_open shape lines ranks packets told is before (s ∷ later) w next.so_far i p first.line first.b
          first.e first.t first.split first.posted opened) chosen

      abbrev stand : Standing
      stand = standing.Taken p.cap m

      at_line : line_of first.e.what ≡ Some first.line
      at_line = ap line_of first.posted

      stands_taken : standing_of commands v i (event.Post p first.line) ≡ stand
      stands_taken =
          let closed = open_means h (matched_pairs h) p opened in
          ap (λ (b : Bool). cond b standing.Off
          (taken_by v i ((v i).pairs p.number) (standing.Open pattern p.cap)))
          ((alike i).off p.number ∙ (next.so_far.places i).off p.number ∙ closed.1)
          ∙ ap (λ (o : Option Pair). taken_by v i o (standing.Open pattern p.cap))
          (now_paired shape lines ranks packets told is before s later w next pair alike
          ((next.so_far.places i).pairs p.number
          ∙ find_nothing (is_of_receive p.number) (matched_pairs h) closed.0))
          ∙ ap (λ (y : Message). standing.Taken p.cap y)
          (same_message shape lines ranks packets told is before s later w next pair alike i a)

      others_stand : (b : List Event) (e : Event) (t : List Event) → h ≡ b ++ e ∷ t → (other : ℕ) →
          line_of e.what ≡ Some other → (other == first.line) ≡ false →
          standing_of commands v i e.what ≡ standing_of commands w i e.what
      others_stand b e t split other of differ =
          stands_still shape lines ranks packets told is before s later w next pair alike e.what (λ k own.
          not_true (p.number == k) (λ same.
          let one = receive_once shape lines ranks packets told is before (s ∷ later) w next.so_far i first.b first.e
          first.t first.split b e t split k
          (ap receive_of first.posted ∙ ap (λ (y : ℕ). Some y) (same_number p.number k same)) own in
          false≢true (sym differ ∙ eq_true other first.line (same_some other first.line
          (sym of ∙ ap (λ (y : Event). line_of y.what) (sym one) ∙ at_line)))))

      requests_taken : filter_map (λ (e : Event). request_by commands v i e.what) (g i)
          ≡ map (marked_lem (first.line - 2) stand) row.requests
      requests_taken =
          ap (λ (k : List Event). filter_map (λ (e : Event). request_by commands v i e.what) k) (grown_here before s)
          ∙ filter_map-append (λ (e : Event). request_by commands v i e.what) h (s.event ∷ [])
          ∙ ap (λ (what : Happened). filter_map (λ (e : Event). request_by commands v i e.what) h
          ++ cons_option (request_by commands v i what) []) comes
          ∙ append-nil (filter_map (λ (e : Event). request_by commands v i e.what) h)
          ∙ requests_marked shape lines ranks packets told is before (s ∷ later) w next.so_far i v first.line
          (event.Post p first.line)
          ((line_starts shape lines ranks packets told is before (s ∷ later) w next.so_far i first.b first.e first.t
          first.split first.line at_line).0 ∙ ap (λ (what : Happened). Some what) first.posted) stand stands_taken
          others_stand (λ b e t split q l of names. live_same q l)

      claims_same : filter_map (λ (e : Event). claim_by commands v i e.what) (g i) ≡ row.claims
      claims_same =
          ap (λ (k : List Event). filter_map (λ (e : Event). claim_by commands v i e.what) k) (grown_here before s)
          ∙ grown_map (λ (e : Event). claim_by commands w i e.what) (λ (e : Event). claim_by commands v i e.what) h
          s.event
          (by_splits (λ e. claim_by commands v i e.what ≡ claim_by commands w i e.what) h [] h refl
          (λ b e t split. same_claim
          (same_message shape lines ranks packets told is before s later w next pair alike i) b e t split e.what refl))
          ∙ ap (λ (what : Happened). row.claims ++ cons_option (claim_by commands v i what) []) comes
          ∙ append-nil row.claims

      abbrev own : RankState
      own = with_standing (first.line - 2) stand (rows i)

      each_behind : (k : ℕ) → rank_of lines v g k
          ≡ cond (i == k) (with_standing (first.line - 2) stand
          (cond (j == k) (without_message m.place (rows k)) (rows k)))
          (cond (j == k) (without_message m.place (rows k)) (rows k))
      each_behind k =
          rows_behind shape lines ranks packets told is before s later w next pair alike sent
          (ap (message_by v i) comes) own
          (rows_same (behind commands (effects (g i))) row.at
          (filter_map (λ (e : Event). request_by commands v i e.what) (g i))
          (map (marked_lem (first.line - 2) stand) row.requests)
          (filter_map (λ (e : Event). claim_by commands v i e.what) (g i)) row.claims row.outgoing at_same
          requests_taken claims_same) k
          ∙ by_rank (i == k) refl
        where
          by_sender : (d : Bool) → cond d (without_message m.place own) own
              ≡ with_standing (first.line - 2) stand (cond d (without_message m.place (rows i)) (rows i))
          by_sender true = refl
          by_sender false = refl

          by_rank : (b : Bool) → (i == k) ≡ b →
              cond (j == k) (without_message m.place (cond b own (rows k))) (cond b own (rows k))
              ≡ cond b (with_standing (first.line - 2) stand
              (cond (j == k) (without_message m.place (rows k)) (rows k)))
              (cond (j == k) (without_message m.place (rows k)) (rows k))
          by_rank true same =
              subst (λ (k : ℕ). cond (j == k) (without_message m.place own) own
              ≡ with_standing (first.line - 2) stand (cond (j == k) (without_message m.place (rows k)) (rows k)))
              (same_number i k same) (by_sender (j == i))
          by_rank false other = refl

      pub arrive_paired : StepLeads shape lines told before s w
      arrive_paired = (
        1,
        (
          state_of shape.ranks lines v (before ++ s ∷ []),
          take_leads lines told shape.ranks rows (rank_of lines v g) m request pattern next.comes.within within
              receives refl is_first each_behind,
          refl,
        ),
      )
