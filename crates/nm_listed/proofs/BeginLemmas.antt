-- What the next command does before its answer may come next in the log.
use Rattle.std.proofs.Common.{◌≡◌, ◌⊎◌, inl, inr, ℕ, ◌-◌, ◌<◌, ◌==◌, ◌&&◌, ◌||◌, not, Bool, true, false, cond}
use Rattle.std.proofs.Common.{Option, Some, None, List, [], ◌∷◌, ◌++◌, length, map, refl, sym, ◌∙◌, ap, subst, arith}
use Rattle.std.specs.Prelude.{if◌then◌else◌, IsSomeAnd, count_by, option_and_then, option_map, option_to_list}
use Rattle.std.specs.List.{cons_option, filter_map, list_any, slice_get, slice_set}
use Rattle.std.specs.Option.{option_map_or}
use Rattle.std.proofs.lemmas.Bool.{false≢true}
use Rattle.std.proofs.lemmas.List.Folds.{list_any-append}
use Rattle.nm_types.specs.declared.messages.Arrival.{Arrival}
use Rattle.nm_types.specs.declared.messages.How.{How}
use Rattle.nm_types.specs.declared.messages.Peer.{Peer}
use Rattle.nm_types.specs.declared.messages.TagPick.{TagPick}
use Rattle.nm_types.specs.declared.scripts.Body.{Body}
use Rattle.nm_types.specs.declared.scripts.Command.{Command}
use Rattle.nm_types.specs.declared.scripts.Command.TheVariants as command
use Rattle.nm_types.specs.declared.scripts.Line.{Line}
use Rattle.nm_types.specs.Bodies.{body_len}
use Rattle.nm_types.specs.Commands.{Numbered, command_at, commands_of}
use Rattle.nm_types.specs.Limits.{IsScript}
use Rattle.nm_types.specs.Sizes.{Sizes}
use Rattle.nm_types.proofs.BodyLemmas.{bytes_count}
use Rattle.nm_types.proofs.ListLemmas.{find_passes, get_from_map, map_length}
use Rattle.nm_types.proofs.NumberLemmas.{same_number}
use Rattle.nm_types.proofs.OptionLemmas.{mapped_some, no_some, same_some}
use Rattle.nm_types.proofs.TruthLemmas.{both, or_left, or_right}
use Rattle.nm_history.specs.declared.events.Event.{Event}
use Rattle.nm_history.specs.declared.events.Happened.{Happened}
use Rattle.nm_history.specs.declared.events.Happened.TheVariants as event
use Rattle.nm_history.specs.declared.plain.Pair.{Pair}
use Rattle.nm_history.specs.Answers.{Message, claim_at, live, live_message, message_claimed, request_at}
use Rattle.nm_history.specs.Completion.{Request, is_taken}
use Rattle.nm_history.specs.Completion.Request.{Receiving, Sending}
use Rattle.nm_history.specs.Happens.{happened, is_cancel, is_claim, is_recall}
use Rattle.nm_history.specs.Matching.{first_message, is_of_message, is_of_receive, matched_pairs}
use Rattle.nm_history.specs.Matching.{pair_of_claimed}
use Rattle.nm_history.specs.RankRun.{claim_of, claims_since, how_of, is_cancelling, is_start, ran_lines}
use Rattle.nm_history.specs.RankRun.{starts_since, without_number}
use Rattle.nm_history.specs.Sends.{Sent, messages, sends, sent_bytes}
use Rattle.nm_history.specs.Underway.{is_answer, is_of_packet}
use Rattle.nm_history.proofs.AnswerLemmas.{handle_same, live_same}
use Rattle.nm_history.proofs.AppendLemmas.{happened-push}
use Rattle.nm_history.proofs.DeliveryLemmas.{sends-push}
use Rattle.nm_history.proofs.MatchingLemmas.{matched_pairs-push, matched_pairs-push_other}
use Rattle.nm_history.proofs.OnceLemmas.{eqb_self}
use Rattle.nm_match.specs.Deeds.{is_message}
use Rattle.nm_outcomes.specs.Logs.{Step, history_in}
use Rattle.nm_outcomes.specs.Paths.{AreCommands}
use Rattle.nm_outcomes.specs.Places.{or_else}
use Rattle.nm_outcomes.specs.RankStates.{Spot, own_of, spot_after}
use Rattle.nm_outcomes.specs.declared.spots.deeds.Deed.{Deed}
use Rattle.nm_outcomes.specs.declared.spots.deeds.Deed.TheVariants as deed
use Rattle.nm_outcomes.specs.declared.spots.deeds.Receive.{Receive}
use Rattle.nm_outcomes.specs.Deeds.{happening}
use Rattle.nm_outcomes.specs.Looks.{IsSaid, is_cancelling_by, is_claim_any, is_receive_by, is_recall_by, is_send_by}
use Rattle.nm_outcomes.specs.Looks.{is_starting_by}
use Rattle.nm_outcomes.proofs.SaidLemmas.{said}
use Rattle.nm_outcomes.proofs.SentLemmas.{get_more, request_sent}
use Rattle.nm_explored.specs.Successors.{begun_in, cancel_at, is_held_by, match_at, may_begin, start_in}
use Rattle.nm_explored.specs.Settings.{IsAt}
use Rattle.nm_explored.proofs.PlacedLemmas.{first_said, in_pairs}
use Rattle.nm_explored.specs.declared.choices.moves.Move.TheVariants as move
use Rattle.nm_listed.specs.Tellings.{after_move, clock}
use Rattle.nm_listed.proofs.ReachLemmas.{IsReached, acts_now, is_at, is_proper}
use Rattle.nm_listed.proofs.SteadyLemmas.{AreClaimed, AreOfCommands, Begins, HasCancelled}
use Rattle.nm_listed.proofs.SteadyLemmas.{HasRecalled}
use Rattle.nm_listed.proofs.SteadyLemmas.{IsBegun, IsIdle, IsPast, IsSteady, cancels_more, cancels_same}
use Rattle.nm_listed.proofs.SteadyLemmas.{claim_push, claimed_as_before}
use Rattle.nm_listed.proofs.SteadyLemmas.{claims_more, claims_same, last_now, last_own}
use Rattle.nm_explored.proofs.SinceLemmas.{is_claiming}
use Rattle.nm_listed.proofs.SteadyLemmas.{past_same, ran_same}
use Rattle.nm_listed.proofs.SteadyLemmas.{sent_as_before, starts_more, starts_same, steady_begun}
use Rattle.nm_listed.proofs.TellLemmas.{MayBe, now}

-- kinds of deeds, and of what they stand for
pub kind_start : (lines : List Line) (d : Deed) → is_start (happening lines d) ≡ true → is_starting_by d ≡ true
kind_start lines (deed.Send to n tag ctx len how line) so = refl
kind_start lines (deed.Post r line) so = refl
kind_start lines (deed.Match number from n cap line) so = refl
kind_start lines (deed.Cancel number done) so = absurd (false≢true so)
kind_start lines (deed.Recall to n) so = absurd (false≢true so)
kind_start lines (deed.Claim from n line) so = absurd (false≢true so)
kind_start lines (deed.Ran line reply) so = absurd (false≢true so)

pub kind_cancel : (lines : List Line) (d : Deed) → is_cancelling (happening lines d) ≡ true → is_cancelling_by d ≡ true
kind_cancel lines (deed.Cancel number done) so = refl
kind_cancel lines (deed.Recall to n) so = refl
kind_cancel lines (deed.Send to n tag ctx len how line) so = absurd (false≢true so)
kind_cancel lines (deed.Post r line) so = absurd (false≢true so)
kind_cancel lines (deed.Match number from n cap line) so = absurd (false≢true so)
kind_cancel lines (deed.Claim from n line) so = absurd (false≢true so)
kind_cancel lines (deed.Ran line reply) so = absurd (false≢true so)

pub kind_claim : (lines : List Line) (d : Deed) → is_claiming (happening lines d) ≡ true → is_claim_any d ≡ true
kind_claim lines (deed.Claim from n line) so = refl
kind_claim lines (deed.Cancel number done) so = absurd (false≢true so)
kind_claim lines (deed.Recall to n) so = absurd (false≢true so)
kind_claim lines (deed.Send to n tag ctx len how line) so = absurd (false≢true so)
kind_claim lines (deed.Post r line) so = absurd (false≢true so)
kind_claim lines (deed.Match number from n cap line) so = absurd (false≢true so)
kind_claim lines (deed.Ran line reply) so = absurd (false≢true so)

-- a message that a line claimed was claimed
pub claim_happened : (h : List Event) (line : ℕ) (m : Message) → claim_at h line ≡ Some m →
    happened (is_claim m.from m.n) h ≡ true
claim_happened [] line m is = absurd (no_some m is)
claim_happened (e ∷ h) line m is = by_event e.what is (λ is. claim_happened h line m is)
  where
    rest : List Message
    rest = filter_map (λ (e : Event). message_claimed line e.what) h

    by_event : (what : Happened) → slice_get (cons_option (message_claimed line what) rest) 0 ≡ Some m →
        (slice_get rest 0 ≡ Some m → happened (is_claim m.from m.n) h ≡ true) →
        (is_claim m.from m.n what || happened (is_claim m.from m.n) h) ≡ true
    by_event (event.Claim from n own) is later = by_line (own == line) is
      where
        by_line : (b : Bool) → slice_get (cons_option (cond b (Some (record { from = from; n = n })) None) rest) 0
            ≡ Some m →
            ((from == m.from && n == m.n) || happened (is_claim m.from m.n) h) ≡ true
        by_line true is =
            let same : record { from = from; n = n } ≡ m = same_some _ m is in
            or_left (from == m.from && n == m.n) _
            (both (from == m.from) (n == m.n)
            (ap (λ (x : Message). from == x.from) (sym same) ∙ eqb_self from)
            (ap (λ (x : Message). n == x.n) (sym same) ∙ eqb_self n))
        by_line false is = or_right (from == m.from && n == m.n) _ (later is)
    by_event what is later = later is

-- a message or a request that a name stands for is of some line
pub of_line : {X : Type 0} (f : ℕ → Option X) (o : Option ℕ) (x : X) → option_and_then f o ≡ Some x →
    (line : ℕ) × (f line ≡ Some x)
of_line f None x is = absurd (no_some x is)
of_line f (Some line) x is = (line, is)

module _ (shape : Sizes) (lines : List Line) (commands : AreCommands shape.ranks lines)
    (script : IsScript shape.ranks lines) (log : List Step) (states : List Spot)
    (reached : IsReached shape lines log states) (i : ℕ) (low : i < shape.ranks) (spot : Spot)
    (here : slice_get states i ≡ Some spot) where
  abbrev h : List Event
  h = history_in log i

  abbrev mine : List Numbered
  mine = commands_of i lines

  abbrev t : ℕ
  t = clock log

  at : IsAt shape lines log (λ k. slice_get states k) i spot
  at = is_at shape lines commands script log states reached.told i low spot here

  say : IsSaid lines h spot
  say = said lines h spot at.is

  steady : IsSteady shape mine h
  steady = reached.told.steady i

  abbrev Later : Deed → Type 0
  Later d =
      IsReached shape lines (after_move lines log i spot (move.Act d)) (slice_set states i (spot_after spot d))

  abbrev after : Happened → List Event
  after what = h ++ now t what ∷ []

  -- the last deed
  pub last_deed : (w : Happened) → last_own h ≡ Some w →
      (d : Deed) × (slice_get spot.deeds (length spot.deeds - 1) ≡ Some d) × (happening lines d ≡ w)
  last_deed w is =
      let many : length (own_of h) - 1 ≡ length spot.deeds - 1 =
      ap (λ (k : ℕ). k - 1) (ap (λ (ws : List Happened). length ws) (sym at.is.deeds) ∙ map_length (happening lines)
      spot.deeds) in
      get_from_map (happening lines) spot.deeds (length spot.deeds - 1) w
      (ap (λ (ws : List Happened). slice_get ws (length spot.deeds - 1)) at.is.deeds
      ∙ ap (λ (k : ℕ). slice_get (own_of h) k) (sym many) ∙ is)

  held : (d : Deed) (last : Deed) → slice_get spot.deeds (length spot.deeds - 1) ≡ Some last →
      is_held_by last d ≡ true →
      may_begin spot.deeds d ≡ true → ⊥
  held d last is so may =
      false≢true
      (sym (ap (λ (o : Option Deed). option_map_or (λ last. not (is_held_by last d)) o true) is ∙ ap not so) ∙ may)

  -- a command that has begun begins nothing more
  stuck : (b : IsBegun shape.eager mine h) (d : Deed) →
      start_in shape.eager lines i spot b.command.line b.command.command ≡ Some d → may_begin spot.deeds d ≡ true → ⊥
  stuck b d start may = by_command b.command.line b.command.command b.begun start
    where
      last : (d : Deed) × (slice_get spot.deeds (length spot.deeds - 1) ≡ Some d) × (happening lines d ≡ b.last)
      last = last_deed b.last b.last_is

      starts_held : is_start b.last ≡ true → is_starting_by last.0 ≡ true
      starts_held so = kind_start lines last.0 (ap is_start last.2 ∙ so)

      by_command : (line : ℕ) (c : Command) → Begins shape.eager mine h line c b.last →
          start_in shape.eager lines i spot line c ≡ Some d → ⊥
      by_command line (command.Send to q tag ctx sync body) begun start =
          held d last.0 last.1
          (subst (λ (d : Deed). is_held_by last.0 d ≡ true) (same_some _ d start) (starts_held begun.kind)) may
      by_command line (command.Recv q from tag ctx cap) begun start =
          held d last.0 last.1
          (subst (λ (d : Deed). is_held_by last.0 d ≡ true) (same_some _ d start) (starts_held begun.kind)) may
      by_command line (command.Mrecv q m cap) begun start =
          no_some d
          (sym (ap (λ (o : Option Message). option_and_then (match_at spot cap line) o)
          (say.message i m ∙ begun.message_is)
          ∙ ap (λ (b : Bool). if b then None
          else Some (deed.Match (count_by is_receive_by spot.deeds) begun.message.from begun.message.n cap line))
          (at.is.taken begun.message.from begun.message.n ∙ begun.taken)) ∙ start)
      by_command line (command.Cancel q) begun start = by_kind begun.2
        where
          by_kind : HasCancelled mine h q b.last ⊎ HasRecalled mine h q → ⊥
          by_kind (inl cancelled) =
              let d' : Deed = deed.Cancel cancelled.number
              (not (list_any (is_of_receive cancelled.number) spot.pairs)) in
              let same : Some d' ≡ Some d =
              sym (ap (λ (o : Option Request). option_and_then (cancel_at spot) o)
              (say.live i q ∙ cancelled.live_is)) ∙ start in
              held d last.0 last.1
              (subst (λ (d : Deed). is_held_by last.0 d ≡ true) (same_some d' d same)
              (kind_cancel lines last.0 (ap is_cancelling last.2 ∙ cancelled.kind))) may
          by_kind (inr recalled) =
              no_some d
              (sym (ap (λ (o : Option Request). option_and_then (cancel_at spot) o)
              (say.live i q ∙ recalled.live_is)
              ∙ ap (λ (b : Bool). if b then None else Some (deed.Recall recalled.to recalled.n))
              (say.recalled recalled.to recalled.n ∙ recalled.recalled)) ∙ start)
      by_command line (command.Mprobe m from tag ctx) begun start =
          let found = mapped_some (λ (a : Arrival). deed.Claim a.env.from a.n line) _ d start in
          held d last.0 last.1
          (subst (λ (d : Deed). is_held_by last.0 d ≡ true) found.2
          (kind_claim lines last.0 (ap is_claiming last.2 ∙ begun.kind))) may
      by_command line (command.Wait q) begun start = begun
      by_command line (command.Test q) begun start = begun
      by_command line (command.Probe from tag ctx) begun start = begun
      by_command line (command.Await from tag ctx) begun start = begun

  module _ (idle : IsIdle h) (x : Numbered) (next : slice_get mine (length (ran_lines h)) ≡ Some x) where
    stands : command_at mine x.line ≡ Some x.command
    stands = commands.stand i (length (ran_lines h)) x next

    -- the command has begun with this
    begins_with : (what : Happened) → is_answer what ≡ false → is_of_packet what ≡ false →
        Begins shape.eager mine (after what) x.line x.command what → IsBegun shape.eager mine (after what)
    begins_with what quiet own begun = record {
      command = x;
      next = ap (λ (ls : List ℕ). slice_get mine (length ls)) (ran_same h t what quiet) ∙ next;
      last = what;
      last_is = last_now h t what own;
      begun = begun;
    }

    one_start : (what : Happened) → is_answer what ≡ false → is_start what ≡ true →
        map without_number (starts_since (after what)) ≡ without_number what ∷ []
    one_start what quiet start =
        ap (λ (ws : List Happened). map without_number ws)
        (starts_more h t what quiet ∙ ap (λ (b : Bool). starts_since h ++ cond b (what ∷ []) []) start
        ∙ ap (λ (ws : List Happened). ws ++ what ∷ []) idle.starts)

    sends_now : (q to tag ctx : ℕ) (body : Body) (sync : Bool) → x.command ≡ command.Send to q tag ctx sync body →
        Later (deed.Send to (count_by (is_send_by to) spot.deeds) tag ctx (body_len body)
        (how_of shape.eager sync (body_len body)) x.line)
    sends_now q to tag ctx body sync is =
        let n : ℕ = count_by (is_send_by to) spot.deeds in
        let how : How = how_of shape.eager sync (body_len body) in
        let what : Happened = event.Send to n tag ctx (body_len body) how x.line in
        let c : Command = command.Send to q tag ctx sync body in
        acts_now shape lines commands script log states reached i low spot here
        (deed.Send to n tag ctx (body_len body) how x.line) refl refl
        (record {
          answers = tt;
          starts = tt;
          numbers = say.sent to;
          cancels = tt;
          wholes = tt;
          ends = tt;
          claims = tt;
          outs = λ j low. tt;
          answered = λ j low. tt;
          comes = λ k low. tt;
          body = λ k low. tt;
          asked = λ k low. tt;
        })
        (steady_begun shape mine h t what refl steady
        (begins_with what refl refl
        (subst (λ (c : Command). Begins shape.eager mine (after what) x.line c what) (sym is) (record {
          starts = one_start what refl refl;
          cancels = cancels_same h t what refl refl ∙ idle.cancels;
          claims = claims_same h t what refl refl ∙ idle.claims;
          kind = refl;
        })))
        (sent_by n how) (claimed_as_before shape mine h t what refl steady refl))
      where
        sent_by : (n : ℕ) (how : How) →
            AreOfCommands shape.ranks mine (after (event.Send to n tag ctx (body_len body) how x.line))
        sent_by n how to' k s got =
            by_place
            (get_more (sends h to') s0 (to == to') k s
            (ap (λ (ss : List Sent). slice_get ss k)
            (sym (sends-push h (now t (event.Send to n tag ctx (body_len body) how x.line)) to')) ∙ got))
          where
            s0 : Sent
            s0 = record {
              stamp = t;
              to = to;
              n = n;
              tag = tag;
              ctx = ctx;
              len = body_len body;
              how = how;
              line = x.line;
            }

            by_place : (slice_get (sends h to') k ≡ Some s)
                ⊎ ((k ≡ length (sends h to')) × (s0 ≡ s) × ((to == to') ≡ true)) →
                (c : Command) × (command_at mine s.line ≡ Some c) × (length (sent_bytes c) ≡ s.len)
                × (to' < shape.ranks)
            by_place (inl was) = steady.sent to' k s was
            by_place (inr last) =
                let c : Command = command.Send to q tag ctx sync body in
                let stands_so : command_at mine x.line ≡ Some c = stands ∙ ap (λ (c : Command). Some c) is in (
                  c,
                  ap (λ (s : Sent). command_at mine s.line) (sym last.1) ∙ stands_so,
                  bytes_count body ∙ ap (λ (s : Sent). s.len) last.1,
                  subst (λ (r : ℕ). r < shape.ranks) (same_number to to' last.2)
                      (commands.addressed i x.line c stands_so),
                )

    posts_now : (q : ℕ) (from : Peer) (tag : TagPick) (ctx cap : ℕ) → x.command ≡ command.Recv q from tag ctx cap →
        Later (deed.Post (record {
          number = count_by is_receive_by spot.deeds;
          from = from;
          tag = tag;
          ctx = ctx;
          cap = cap;
        }) x.line)
    posts_now q from tag ctx cap is =
        let r : Receive = record {
          number = count_by is_receive_by spot.deeds;
          from = from;
          tag = tag;
          ctx = ctx;
          cap = cap;
        } in
        let what : Happened = happening lines (deed.Post r x.line) in
        acts_now shape lines commands script log states reached i low spot here (deed.Post r x.line) refl refl
        (record {
          answers = tt;
          starts = tt;
          numbers = say.received;
          cancels = tt;
          wholes = tt;
          ends = tt;
          claims = tt;
          outs = λ j low. tt;
          answered = λ j low. tt;
          comes = λ k low. tt;
          body = λ k low. tt;
          asked = λ k low. tt;
        })
        (steady_begun shape mine h t what refl steady
        (begins_with what refl refl
        (subst (λ (c : Command). Begins shape.eager mine (after what) x.line c what) (sym is) (record {
          starts = one_start what refl refl;
          cancels = cancels_same h t what refl refl ∙ idle.cancels;
          claims = claims_same h t what refl refl ∙ idle.claims;
          kind = refl;
        })))
        (sent_as_before shape mine h t what refl steady refl)
        (claimed_as_before shape mine h t what refl steady refl))

    matches_now : (q m cap : ℕ) → x.command ≡ command.Mrecv q m cap → (msg : Message) →
        live_message mine h m ≡ Some msg → is_taken h msg.from msg.n ≡ false →
        Later (deed.Match (count_by is_receive_by spot.deeds) msg.from msg.n cap x.line)
    matches_now q m cap is msg message_is open' =
        acts_now shape lines commands script log states reached i low spot here
        (deed.Match number msg.from msg.n cap x.line) refl refl may
        (steady_begun shape mine h t what refl steady
        (begins_with what refl refl
        (subst (λ (c : Command). Begins shape.eager mine (after what) x.line c what) (sym is) (record {
          message = msg;
          message_is = handle_same mine h (now t what) m refl refl ∙ message_is;
          taken = now_taken;
          starts = one_start what refl refl;
          cancels = cancels_same h t what refl refl ∙ idle.cancels;
          claims = claims_same h t what refl refl ∙ idle.claims;
          kind = refl;
        })))
        (sent_as_before shape mine h t what refl steady refl)
        (claimed_as_before shape mine h t what refl steady refl))
      where
        number : ℕ
        number = count_by is_receive_by spot.deeds

        what : Happened
        what = event.Match number msg.from msg.n cap x.line

        line : (line : ℕ) × (claim_at h line ≡ Some msg)
        line = of_line (claim_at h) _ msg message_is

        may : MayBe shape lines log t i what
        may = record {
          answers = tt;
          starts = both (happened (is_claim msg.from msg.n) h) _ (claim_happened h line.0 msg line.1) (ap not open');
          numbers = say.received;
          cancels = tt;
          wholes = tt;
          ends = tt;
          claims = tt;
          outs = λ j low. tt;
          answered = λ j low. tt;
          comes = λ k low. tt;
          body = λ k low. tt;
          asked = λ k low. tt;
        }

        now_taken : is_taken (after what) msg.from msg.n ≡ true
        now_taken =
            let known = (is_proper shape lines commands script log states reached.told i what low may).1 in
            let named = find_passes (is_message msg.from msg.n) (messages h) known.0 known.1 in
            ap (λ (ps : List Pair). list_any (is_of_message msg.from msg.n) ps)
            (matched_pairs-push h (now t what)
            ∙ ap (λ (o : Option Arrival). matched_pairs h
            ++ option_to_list (option_map (λ a. pair_of_claimed number cap a) o)) known.1)
            ∙ list_any-append (is_of_message msg.from msg.n) (matched_pairs h) (pair_of_claimed number cap known.0 ∷ [])
            ∙ or_right (is_taken h msg.from msg.n) _
            (or_left (known.0.env.from == msg.from && known.0.n == msg.n) false named)

    cancels_now : (q number : ℕ) → x.command ≡ command.Cancel q → live mine h q ≡ Some (Receiving number) →
        Later (deed.Cancel number (not (list_any (is_of_receive number) spot.pairs)))
    cancels_now q number is live_is =
        acts_now shape lines commands script log states reached i low spot here (deed.Cancel number done) refl refl
        (record {
          answers = tt;
          starts = tt;
          numbers = tt;
          cancels = ap not (in_pairs lines h spot at.is number);
          wholes = tt;
          ends = tt;
          claims = tt;
          outs = λ j low. tt;
          answered = λ j low. tt;
          comes = λ k low. tt;
          body = λ k low. tt;
          asked = λ k low. tt;
        })
        (steady_begun shape mine h t what refl steady
        (begins_with what refl refl
        (subst (λ (c : Command). Begins shape.eager mine (after what) x.line c what) (sym is) (
          starts_same h t what refl refl ∙ idle.starts,
          claims_same h t what refl refl ∙ idle.claims,
          inl (record {
            number = number;
            done = done;
            live_is = live_same mine h (now t what) q refl refl ∙ live_is;
            cancels = cancels_more h t what refl ∙ ap (λ (ws : List Happened). ws ++ what ∷ []) idle.cancels;
            paired = ap not
                (in_pairs lines h spot at.is number
                ∙ ap (λ (ps : List Pair). list_any (is_of_receive number) ps)
                (sym (matched_pairs-push_other h (now t what) refl)));
            off = λ so. happened-push (is_cancel number) h (now t what)
                ∙ or_right (happened (is_cancel number) h) _ (both (number == number) done (eqb_self number) so);
            kind = refl;
          }),
        )))
        (sent_as_before shape mine h t what refl steady refl)
        (claimed_as_before shape mine h t what refl steady refl))
      where
        done : Bool
        done = not (list_any (is_of_receive number) spot.pairs)

        what : Happened
        what = event.Cancel number done

    recalls_now : (q to n : ℕ) → x.command ≡ command.Cancel q → live mine h q ≡ Some (Sending to n) →
        happened (is_recall to n) h ≡ false → Later (deed.Recall to n)
    recalls_now q to n is live_is first =
        acts_now shape lines commands script log states reached i low spot here (deed.Recall to n) refl refl
        (record {
          answers = tt;
          starts = tt;
          numbers = tt;
          cancels = (first, request_sent h line.0 to n line.1);
          wholes = tt;
          ends = tt;
          claims = tt;
          outs = λ j low. tt;
          answered = λ j low. tt;
          comes = λ k low. tt;
          body = λ k low. tt;
          asked = λ k low. tt;
        })
        (steady_begun shape mine h t what refl steady
        (begins_with what refl refl
        (subst (λ (c : Command). Begins shape.eager mine (after what) x.line c what) (sym is) (
          starts_same h t what refl refl ∙ idle.starts,
          claims_same h t what refl refl ∙ idle.claims,
          inr (record {
            to = to;
            n = n;
            live_is = live_same mine h (now t what) q refl refl ∙ live_is;
            cancels = cancels_more h t what refl ∙ ap (λ (ws : List Happened). ws ++ what ∷ []) idle.cancels;
            recalled = happened-push (is_recall to n) h (now t what)
                ∙ or_right (happened (is_recall to n) h) _ (both (to == to) (n == n) (eqb_self to) (eqb_self n));
          }),
        )))
        (sent_as_before shape mine h t what refl steady refl)
        (claimed_as_before shape mine h t what refl steady refl))
      where
        what : Happened
        what = event.Recall to n

        line : (line : ℕ) × (request_at h line ≡ Some (Sending to n))
        line = of_line (request_at h) _ (Sending to n) live_is

    claims_now : (m : ℕ) (peer : Peer) (tag : TagPick) (ctx : ℕ) → x.command ≡ command.Mprobe m peer tag ctx →
        (a : Arrival) → first_message h (matched_pairs h) peer tag ctx ≡ Some a →
        Later (deed.Claim a.env.from a.n x.line)
    claims_now m peer tag ctx is a found =
        acts_now shape lines commands script log states reached i low spot here (deed.Claim a.env.from a.n x.line)
        refl refl
        (record {
          answers = tt;
          starts = tt;
          numbers = tt;
          cancels = tt;
          wholes = tt;
          ends = tt;
          claims = subst (λ (o : Option Command). IsSomeAnd o (λ c. claim_of h x.line c ≡ what ∷ []))
              (sym (stands ∙ ap (λ (c : Command). Some c) is))
              (ap (λ (o : Option Arrival). option_map_or
              (λ (a : Arrival). event.Claim a.env.from a.n x.line ∷ []) o []) found);
          outs = λ j low. tt;
          answered = λ j low. tt;
          comes = λ k low. tt;
          body = λ k low. tt;
          asked = λ k low. tt;
        })
        (steady_begun shape mine h t what refl steady
        (begins_with what refl refl
        (subst (λ (c : Command). Begins shape.eager mine (after what) x.line c what) (sym is) (record {
          starts = starts_same h t what refl refl ∙ idle.starts;
          cancels = cancels_same h t what refl refl ∙ idle.cancels;
          claims = one_claim;
          kind = refl;
        })))
        (sent_as_before shape mine h t what refl steady refl) claimed_by)
      where
        what : Happened
        what = event.Claim a.env.from a.n x.line

        one_claim : claims_since (after what) ≡ x.line ∷ []
        one_claim = claims_more h t what refl ∙ ap (λ (ls : List ℕ). ls ++ x.line ∷ []) idle.claims

        no_cons : (ls : List ℕ) (l : ℕ) → ls ≡ [] → ls ≡ l ∷ [] → ⊥
        no_cons [] l none some = grind arith
        no_cons (k ∷ ls) l none some = grind arith

        claimed_by : AreClaimed mine (after what)
        claimed_by line msg is = by_first (claim_at h line) refl (sym (claim_push h t what line) ∙ is)
          where
            by_place : IsPast mine h line ⊎ (claims_since h ≡ line ∷ []) →
                IsPast mine (after what) line ⊎ (claims_since (after what) ≡ line ∷ [])
            by_place (inl past) = inl (past_same h t what mine line refl past)
            by_place (inr some) = absurd (no_cons (claims_since h) line idle.claims some)

            by_first : (o : Option Message) → claim_at h line ≡ o →
                or_else o (message_claimed line what) ≡ Some msg →
                IsPast mine (after what) line ⊎ (claims_since (after what) ≡ line ∷ [])
            by_first (Some old) was is = by_place (steady.claimed line old was)
            by_first None was is = by_line (x.line == line) refl is
              where
                by_line : (b : Bool) → (x.line == line) ≡ b →
                    cond b (Some (record { from = a.env.from; n = a.n })) None ≡ Some msg →
                    IsPast mine (after what) line ⊎ (claims_since (after what) ≡ line ∷ [])
                by_line true same is = inr (one_claim ∙ ap (λ (l : ℕ). l ∷ []) (same_number x.line line same))
                by_line false other is = absurd (no_some msg is)

    -- whatever the command begins
    pub begins_now : (d : Deed) → start_in shape.eager lines i spot x.line x.command ≡ Some d → Later d
    begins_now d start = by_command x.command refl start
      where
        by_command : (c : Command) → x.command ≡ c → start_in shape.eager lines i spot x.line c ≡ Some d → Later d
        by_command (command.Send to q tag ctx sync body) is start =
            subst Later (same_some _ d start) (sends_now q to tag ctx body sync is)
        by_command (command.Recv q from tag ctx cap) is start =
            subst Later (same_some _ d start) (posts_now q from tag ctx cap is)
        by_command (command.Mrecv q m cap) is start =
            by_message (live_message mine h m) refl
            (sym (ap (λ (o : Option Message). option_and_then (match_at spot cap x.line) o) (say.message i m)) ∙ start)
          where
            by_message : (o : Option Message) → live_message mine h m ≡ o →
                option_and_then (match_at spot cap x.line) o ≡ Some d → Later d
            by_message None message_is start = absurd (no_some d start)
            by_message (Some msg) message_is start =
                by_taken (list_any (is_of_message msg.from msg.n) spot.pairs) (at.is.taken msg.from msg.n) start
              where
                by_taken : (b : Bool) → b ≡ is_taken h msg.from msg.n →
                    (if b then None
                    else Some (deed.Match (count_by is_receive_by spot.deeds) msg.from msg.n cap x.line)) ≡ Some d →
                    Later d
                by_taken true taken start = absurd (no_some d start)
                by_taken false taken start =
                    subst Later (same_some _ d start) (matches_now q m cap is msg message_is (sym taken))
        by_command (command.Cancel q) is start =
            by_request (live mine h q) refl
            (sym (ap (λ (o : Option Request). option_and_then (cancel_at spot) o) (say.live i q)) ∙ start)
          where
            by_request : (o : Option Request) → live mine h q ≡ o → option_and_then (cancel_at spot) o ≡ Some d →
                Later d
            by_request None live_is start = absurd (no_some d start)
            by_request (Some (Receiving number)) live_is start =
                subst Later (same_some _ d start) (cancels_now q number is live_is)
            by_request (Some (Sending to n)) live_is start =
                by_recalled (list_any (is_recall_by to n) spot.deeds) (say.recalled to n) start
              where
                by_recalled : (b : Bool) → b ≡ happened (is_recall to n) h →
                    (if b then None else Some (deed.Recall to n)) ≡ Some d → Later d
                by_recalled true first start = absurd (no_some d start)
                by_recalled false first start =
                    subst Later (same_some _ d start) (recalls_now q to n is live_is (sym first))
        by_command (command.Mprobe m peer tag ctx) is start =
            let found = mapped_some (λ (a : Arrival). deed.Claim a.env.from a.n x.line)
            (first_message h (matched_pairs h) peer tag ctx) d
            (sym (ap (λ (o : Option Arrival). option_map (λ a. deed.Claim a.env.from a.n x.line) o)
            (first_said lines h spot at.is peer tag ctx)) ∙ start) in
            subst Later found.2 (claims_now m peer tag ctx is found.0 found.1)
        by_command (command.Wait q) is start = absurd (no_some d start)
        by_command (command.Test q) is start = absurd (no_some d start)
        by_command (command.Probe from tag ctx) is start = absurd (no_some d start)
        by_command (command.Await from tag ctx) is start = absurd (no_some d start)

  -- whatever the next command begins
  pub begun_reached : (x : Numbered) → slice_get mine (length (ran_lines h)) ≡ Some x → (d : Deed) →
      begun_in shape.eager lines i spot x.line x.command ≡ Some d → Later d
  begun_reached x next d begun = by_start (start_in shape.eager lines i spot x.line x.command) refl begun
    where
      by_stage : start_in shape.eager lines i spot x.line x.command ≡ Some d → may_begin spot.deeds d ≡ true →
          IsIdle h ⊎ IsBegun shape.eager mine h → Later d
      by_stage start may (inl idle) = begins_now idle x next d start
      by_stage start may (inr b) =
          let same : b.command ≡ x = same_some b.command x (sym b.next ∙ next) in
          absurd (stuck b d
          (subst (λ (y : Numbered). start_in shape.eager lines i spot y.line y.command ≡ Some d) (sym same) start) may)

      by_start : (o : Option Deed) → start_in shape.eager lines i spot x.line x.command ≡ o →
          option_and_then (λ d. if may_begin spot.deeds d then Some d else None) o ≡ Some d → Later d
      by_start None start begun = absurd (no_some d begun)
      by_start (Some e) start begun = by_may (may_begin spot.deeds e) refl begun
        where
          by_may : (b : Bool) → may_begin spot.deeds e ≡ b → (if b then Some e else None) ≡ Some d → Later d
          by_may false may begun = absurd (no_some d begun)
          by_may true may begun =
              let same : e ≡ d = same_some e d begun in
              by_stage (start ∙ ap (λ (d : Deed). Some d) same)
              (subst (λ (d : Deed). may_begin spot.deeds d ≡ true) same may) steady.stage
