-- Each event that may come next is a move of the ranks' states.
use Rattle.std.proofs.Common.{◌≡◌, inl, ℕ, ◌-◌, ◌<◌, ◌≤◌, ◌==◌, ◌&&◌, not, Bool, true, false, Option, Some, None}
use Rattle.std.proofs.Common.{List, [], ◌∷◌, ◌++◌, length, refl, sym, ◌∙◌, ap, subst, arith}
use Rattle.std.specs.Prelude.{◌^◌, if◌then◌else◌, nat_le, nat_lt, IsSomeAnd, MatchOption, count_by, option_and_then}
use Rattle.std.specs.Prelude.{option_map}
use Rattle.std.specs.List.{filter, list_any, slice_get}
use Rattle.std.specs.Option.{option_map_or}
use Rattle.std.proofs.lemmas.Bool.{false≢true}
use Rattle.std.proofs.lemmas.Bool.Decides.{nat_tests}
use Rattle.std.proofs.lemmas.List.Sums.{length-filter}
use Rattle.nm_types.specs.declared.answers.Answer.{Answer}
use Rattle.nm_types.specs.declared.limits.TheConstants.{MAX_BODY, MAX_CONTEXT, MAX_NAME, MAX_TAG}
use Rattle.nm_types.specs.declared.messages.Arrival.{Arrival}
use Rattle.nm_types.specs.declared.messages.Envelope.{Envelope}
use Rattle.nm_types.specs.declared.messages.How.{How}
use Rattle.nm_types.specs.declared.messages.Peer.{Peer}
use Rattle.nm_types.specs.declared.messages.Post as post
use Rattle.nm_types.specs.declared.messages.TagPick.{TagPick}
use Rattle.nm_types.specs.declared.scripts.Command.{Command}
use Rattle.nm_types.specs.declared.scripts.Command.TheVariants as command
use Rattle.nm_types.specs.declared.scripts.Line.{Line}
use Rattle.nm_types.specs.Bodies.{body_len}
use Rattle.nm_types.specs.Commands.{Numbered, command_at, commands_of}
use Rattle.nm_types.specs.Limits.{is_in_range, sent_len}
use Rattle.nm_types.specs.Sizes.{Sizes}
use Rattle.nm_history.specs.declared.events.Event.{Event}
use Rattle.nm_history.specs.declared.events.Happened.{Happened}
use Rattle.nm_history.specs.declared.events.Happened.TheVariants as event
use Rattle.nm_history.specs.Answers.{Message, answer_of, is_seen, is_started, live, live_message}
use Rattle.nm_history.specs.Answers.{without_bytes}
use Rattle.nm_history.specs.Completion.{Request, is_taken}
use Rattle.nm_history.specs.Completion.Request.{Receiving, Sending}
use Rattle.nm_history.specs.Happens.{happened, is_recall}
use Rattle.nm_history.specs.Matching.{first_message, is_of_receive, matched_pairs}
use Rattle.nm_history.specs.RankRun.{CancelsFor, cancels_since, claim_of, claims_since, how_of, is_matched_probe}
use Rattle.nm_history.specs.RankRun.{ran_lines, start_of}
use Rattle.nm_history.specs.Sends.{Sent, arrivals, envelope, receives, sends}
use Rattle.nm_history.specs.Underway.{MayFollow}
use Rattle.nm_match.specs.Deeds.{is_message}
use Rattle.nm_types.proofs.ListLemmas.{get_from_map}
use Rattle.nm_types.proofs.NumberLemmas.{same_number}
use Rattle.nm_types.proofs.TruthLemmas.{and_left, and_right, both}
use Rattle.nm_sure.proofs.Lists.{any_at}
use Rattle.nm_outcomes.specs.Due.{IsAnswerOf, IsCancelOf, IsDue, IsMatchOf, IsStartOf}
use Rattle.nm_outcomes.specs.Logs.{Step, history_in}
use Rattle.nm_outcomes.specs.Moves.{MayMove, ShowsBytes}
use Rattle.nm_outcomes.specs.Places.{IsProper, is_quiet}
use Rattle.nm_outcomes.proofs.EndLemmas.{all_follow}
use Rattle.nm_outcomes.proofs.FoundLemmas.{commands_in_range}
use Rattle.nm_outcomes.proofs.MoveLemmas.{steps_are_moves}
use Rattle.nm_outcomes.proofs.PathLemmas.{proper}
use Rattle.nm_outcomes.proofs.SentLemmas.{came_within}
use Rattle.nm_outcomes.specs.declared.spots.deeds.Deed.{Deed}
use Rattle.nm_outcomes.specs.declared.spots.deeds.Deed.TheVariants as deed
use Rattle.nm_match.specs.declared.names.Message as message
use Rattle.nm_outcomes.specs.declared.spots.deeds.Receive.{Receive}
use Rattle.nm_outcomes.specs.Deeds.{happening}
use Rattle.nm_outcomes.specs.Looks.{IsSaid, is_receive_by, is_recall_by, is_send_by}
use Rattle.nm_outcomes.specs.RankStates.{IsSpotOf, Spot, free_lem, spot_after}
use Rattle.nm_outcomes.proofs.SaidLemmas.{said}
use Rattle.nm_outcomes.proofs.StepLemmas.{acts, arrives, withdraws}
use Rattle.nm_explored.specs.declared.choices.moves.Move.TheVariants as move
use Rattle.nm_explored.specs.Successors.{arrival_by, cancel_at, match_at, may_begin, start_in}
use Rattle.nm_explored.specs.Successors.{is_withdrawn_next}
use Rattle.nm_explored.specs.Lines.{line_in}
use Rattle.nm_explored.specs.Moves.{EventsAreChoices, IsChosen, IsDeedOf}
use Rattle.nm_explored.specs.Settings.{IsAt}
use Rattle.nm_explored.proofs.AnswerLemmas.{answered}
use Rattle.nm_explored.proofs.PlacedLemmas.{are_placed, came_said, first_said, free_said, in_pairs, numbers_in, placed}
use Rattle.nm_explored.proofs.SendLemmas.{deed_of, sent_deed}
use Rattle.nm_explored.proofs.SinceLemmas.{cancel_free, claim_free, start_free}

le_true : (a b : ℕ) → nat_le a b ≡ true → a ≤ b
le_true a b is = grind (arith, nat_tests)

last_of_five : (a b c d e : Bool) → (a && b && c && d && e) ≡ true → e ≡ true
last_of_five true true true true true is = refl
last_of_five true true true true false is = absurd (false≢true is)
last_of_five true true true false e is = absurd (false≢true is)
last_of_five true true false d e is = absurd (false≢true is)
last_of_five true false c d e is = absurd (false≢true is)
last_of_five false b c d e is = absurd (false≢true is)

-- what a command in range sends is short
pub sends_short : (ranks : ℕ) (c : Command) → is_in_range ranks c ≡ true → sent_len c < 2 ^ 32
sends_short ranks (command.Send to q tag ctx sync body) fine =
    let x : body_len body ≤ MAX_BODY = le_true (body_len body) MAX_BODY
    (last_of_five (nat_le q MAX_NAME) (nat_lt to ranks) (nat_le tag MAX_TAG) (nat_le ctx MAX_CONTEXT)
    (nat_le (body_len body) MAX_BODY) fine) in
    omega (arith, x)
sends_short ranks (command.Recv q from tag ctx cap) fine = omega arith
sends_short ranks (command.Wait q) fine = omega arith
sends_short ranks (command.Test q) fine = omega arith
sends_short ranks (command.Probe from tag ctx) fine = omega arith
sends_short ranks (command.Await from tag ctx) fine = omega arith
sends_short ranks (command.Cancel q) fine = omega arith
sends_short ranks (command.Mprobe m from tag ctx) fine = omega arith
sends_short ranks (command.Mrecv q m cap) fine = omega arith

never_held : (o : Option Deed) → option_map_or (λ (last : Deed). not false) o true ≡ true
never_held None = refl
never_held (Some d) = refl

send_same : (to to' n n' tag tag' ctx ctx' len len' line line' : ℕ) (how how' : How) → to ≡ to' → n ≡ n' →
    tag ≡ tag' → ctx ≡ ctx' → len ≡ len' → how ≡ how' → line ≡ line' →
    event.Send to n tag ctx len how line ≡ event.Send to' n' tag' ctx' len' how' line'
send_same to to' n n' tag tag' ctx ctx' len len' line line' how how' a b c d e f g = rw (a, b, c, d, e, f, g) refl

post_same : (p : post.Post) (number : ℕ) (from : Peer) (tag : TagPick) (ctx cap : ℕ) → number ≡ p.number →
    record p { number = 0 } ≡ record { number = 0; from = from; tag = tag; ctx = ctx; cap = cap } →
    record { number = number; from = from; tag = tag; ctx = ctx; cap = cap } ≡ p
post_same p number from tag ctx cap one same =
    ap (λ (x : post.Post). record x { number = number }) (sym same)
    ∙ ap (λ (k : ℕ). record p { number = k }) one

match_same : (number number' from n cap line line' : ℕ) → number ≡ number' → line ≡ line' →
    event.Match number from n cap line ≡ event.Match number' from n cap line'
match_same number number' from n cap line line' a b = rw (a, b) refl

abbrev the_message : ℕ → ℕ → message.Message
the_message rank n = record { rank = rank; n = n }

message_same : (rank m from n : ℕ) → rank ≡ from → m ≡ n → the_message rank m ≡ the_message from n
message_same rank m from n one two = rw (one, two) refl

arrival_same : (a : Arrival) (n : ℕ) (env : Envelope) → n ≡ a.n → env ≡ a.env → record { n = n; env = env } ≡ a
arrival_same a n env one two = rw (one, two) refl

module _ (shape : Sizes) (lines : List Line) (log : List Step) (v : ℕ → Option Spot) (i : ℕ) (spot : Spot)
    (at : IsAt shape lines log v i spot) where
  abbrev h : List Event
  h = history_in log i

  abbrev mine : List Numbered
  mine = commands_of i lines

  say : IsSaid lines h spot
  say = said lines h spot at.is

  -- with this event
  abbrev Chosen : ℕ → Happened → Type 0
  Chosen stamp what = IsChosen shape lines v i spot (h ++ record { stamp = stamp; what = what } ∷ [])

  by_deed : (stamp : ℕ) (what : Happened) → IsProper h what → (c : Numbered) →
      slice_get mine (length (ran_lines h)) ≡ Some c → (line : ℕ) → c.line ≡ line → (d : Deed) →
      happening lines d ≡ what → IsDeedOf shape.eager lines v i spot line c.command d → Chosen stamp what
  by_deed stamp what fine c next line line_is d same deed_of =
      record {
        by = move.Act d;
        choice = record {
          line = line;
          command = c.command;
          place = ap (λ (k : ℕ). line_in lines i k) say.ran
              ∙ ap (λ (o : Option Numbered). option_map (λ (x : Numbered). x.line) o) next
              ∙ ap (λ (l : ℕ). Some l) line_is;
          at = subst (λ (l : ℕ). command_at mine l ≡ Some c.command) line_is
              (at.stand (length (ran_lines h)) c next);
          deed_of = deed_of;
        };
        state = subst (λ (w : Happened). IsSpotOf lines (h ++ record { stamp = stamp; what = w } ∷ [])
            (spot_after spot d)) same
            (acts lines h spot at.is stamp d (subst (λ (w : Happened). IsProper h w) (sym same) fine));
      }

  -- what the command of a line does now
  begins : (c : Numbered) → slice_get mine (length (ran_lines h)) ≡ Some c → (line : ℕ) → (d : Deed) →
      start_in shape.eager lines i spot line c.command ≡ Some d → may_begin spot.deeds d ≡ true →
      IsDeedOf shape.eager lines v i spot line c.command d
  begins c next line d start free =
      inl (
        sends_short shape.ranks c.command
            (commands_in_range shape.ranks lines at.script i c.line c.command
            (at.stand (length (ran_lines h)) c next)),
        ap (λ (o : Option Deed). option_and_then (λ d. if may_begin spot.deeds d then Some d else None) o) start
            ∙ ap (λ (b : Bool). if b then Some d else None) free,
      )

  sends_now : (stamp to n tag ctx len line : ℕ) (how : How) → n ≡ length (sends h to) →
      IsStartOf shape.eager mine h (event.Send to n tag ctx len how line) →
      Chosen stamp (event.Send to n tag ctx len how line)
  sends_now stamp to n tag ctx len line how number due = by_command due.command.command refl due.start
    where
      by_command : (c : Command) → due.command.command ≡ c →
          event.Send to 0 tag ctx len how line ∷ [] ≡ start_of shape.eager mine h due.command.line c →
          Chosen stamp (event.Send to n tag ctx len how line)
      by_command (command.Send to' q tag' ctx' sync body) is start =
          let a : to ≡ to' = cc in
          let b : tag ≡ tag' = cc in
          let x : ctx ≡ ctx' = cc in
          let l : len ≡ body_len body = cc in
          let w : how ≡ how_of shape.eager sync (body_len body) = cc in
          let k : line ≡ due.command.line = cc in
          let d : Deed = deed.Send to' (count_by (is_send_by to') spot.deeds) tag' ctx' (body_len body)
          (how_of shape.eager sync (body_len body)) due.command.line in
          by_deed stamp (event.Send to n tag ctx len how line) tt due.command due.next due.command.line refl d
          (send_same to' to (count_by (is_send_by to') spot.deeds) n tag' tag ctx' ctx (body_len body) len
          due.command.line line (how_of shape.eager sync (body_len body)) how (sym a)
          (say.sent to' ∙ ap (λ (j : ℕ). length (sends h j)) (sym a) ∙ sym number) (sym b) (sym x) (sym l) (sym w)
          (sym k))
          (begins due.command due.next due.command.line d
          (ap (λ (c : Command). start_in shape.eager lines i spot due.command.line c) is)
          (start_free lines h spot at.is due.first))
      by_command (command.Recv q from tag' ctx' cap) is start = absurd (grind arith)
      by_command (command.Mrecv q m cap) is start = absurd (by_message (live_message mine h m) start)
        where
          by_message : (o : Option Message) → event.Send to 0 tag ctx len how line ∷ []
              ≡ option_map_or (λ (x : Message). event.Match 0 x.from x.n cap due.command.line ∷ []) o [] → ⊥
          by_message None start = grind arith
          by_message (Some x) start = grind arith
      by_command (command.Wait q) is start = absurd (grind arith)
      by_command (command.Test q) is start = absurd (grind arith)
      by_command (command.Probe from tag' ctx') is start = absurd (grind arith)
      by_command (command.Await from tag' ctx') is start = absurd (grind arith)
      by_command (command.Cancel q) is start = absurd (grind arith)
      by_command (command.Mprobe m from tag' ctx') is start = absurd (grind arith)

  posts_now : (stamp : ℕ) (p : post.Post) (line : ℕ) → p.number ≡ length (receives h) →
      IsProper h (event.Post p line) → IsStartOf shape.eager mine h (event.Post p line) →
      Chosen stamp (event.Post p line)
  posts_now stamp p line number fine due = by_command due.command.command refl due.start
    where
      by_command : (c : Command) → due.command.command ≡ c →
          event.Post (record p { number = 0 }) line ∷ [] ≡ start_of shape.eager mine h due.command.line c →
          Chosen stamp (event.Post p line)
      by_command (command.Recv q from tag ctx cap) is start =
          let same : record p { number = 0 }
          ≡ record { number = 0; from = from; tag = tag; ctx = ctx; cap = cap } = cc in
          let k : line ≡ due.command.line = cc in
          let r : Receive = record {
            number = count_by is_receive_by spot.deeds;
            from = from;
            tag = tag;
            ctx = ctx;
            cap = cap;
          } in
          by_deed stamp (event.Post p line) fine due.command due.next due.command.line refl
          (deed.Post r due.command.line)
          (ap (λ (x : post.Post). event.Post x due.command.line)
          (post_same p (count_by is_receive_by spot.deeds) from tag ctx cap (say.received ∙ sym number) same)
          ∙ ap (λ (l : ℕ). event.Post p l) (sym k))
          (begins due.command due.next due.command.line (deed.Post r due.command.line)
          (ap (λ (c : Command). start_in shape.eager lines i spot due.command.line c) is)
          (start_free lines h spot at.is due.first))
      by_command (command.Send to q tag ctx sync body) is start = absurd (grind arith)
      by_command (command.Mrecv q m cap) is start = absurd (by_message (live_message mine h m) start)
        where
          by_message : (o : Option Message) → event.Post (record p { number = 0 }) line ∷ []
              ≡ option_map_or (λ (x : Message). event.Match 0 x.from x.n cap due.command.line ∷ []) o [] → ⊥
          by_message None start = grind arith
          by_message (Some x) start = grind arith
      by_command (command.Wait q) is start = absurd (grind arith)
      by_command (command.Test q) is start = absurd (grind arith)
      by_command (command.Probe from tag ctx) is start = absurd (grind arith)
      by_command (command.Await from tag ctx) is start = absurd (grind arith)
      by_command (command.Cancel q) is start = absurd (grind arith)
      by_command (command.Mprobe m from tag ctx) is start = absurd (grind arith)

  matches_now : (stamp number from n cap line : ℕ) → number ≡ length (receives h) →
      IsProper h (event.Match number from n cap line) → is_taken h from n ≡ false →
      IsMatchOf mine h from n cap line → Chosen stamp (event.Match number from n cap line)
  matches_now stamp number from n cap line count fine open' due =
      let d : Deed = deed.Match (count_by is_receive_by spot.deeds) from n cap line in
      by_deed stamp (event.Match number from n cap line) fine due.command due.next line due.line_is d
      (match_same (count_by is_receive_by spot.deeds) number from n cap line line (say.received ∙ sym count) refl)
      (begins due.command due.next line d
      (ap (λ (c : Command). start_in shape.eager lines i spot line c) due.receives
      ∙ ap (λ (o : Option Message). option_and_then (match_at spot cap line) o)
      (say.message i due.handle ∙ due.message_is)
      ∙ ap (λ (b : Bool). if b then None else Some d) (at.is.taken from n ∙ open'))
      (never_held (slice_get spot.deeds (length spot.deeds - 1))))

  cancels_now : (stamp number : ℕ) (done : Bool) →
      done ≡ not (list_any (is_of_receive number) (matched_pairs h)) → cancels_since h ≡ [] →
      IsCancelOf mine h (Receiving number) → Chosen stamp (event.Cancel number done)
  cancels_now stamp number done paired first due =
      let d : Deed = deed.Cancel number (not (list_any (is_of_receive number) spot.pairs)) in
      by_deed stamp (event.Cancel number done) tt due.command due.next due.command.line refl d
      (ap (λ (b : Bool). event.Cancel number b)
      (ap (λ (b : Bool). not b) (in_pairs lines h spot at.is number) ∙ sym paired))
      (begins due.command due.next due.command.line d
      (ap (λ (c : Command). start_in shape.eager lines i spot due.command.line c) due.cancels
      ∙ ap (λ (o : Option Request). option_and_then (cancel_at spot) o) (say.live i due.name ∙ due.live_is))
      (cancel_free lines h spot at.is first))

  recalls_now : (stamp to n : ℕ) → happened (is_recall to n) h ≡ false → IsCancelOf mine h (Sending to n) →
      Chosen stamp (event.Recall to n)
  recalls_now stamp to n first due =
      by_deed stamp (event.Recall to n) tt due.command due.next due.command.line refl (deed.Recall to n) refl
      (begins due.command due.next due.command.line (deed.Recall to n)
      (ap (λ (c : Command). start_in shape.eager lines i spot due.command.line c) due.cancels
      ∙ ap (λ (o : Option Request). option_and_then (cancel_at spot) o) (say.live i due.name ∙ due.live_is)
      ∙ ap (λ (b : Bool). if b then None else Some (deed.Recall to n)) (say.recalled to n ∙ first))
      (never_held (slice_get spot.deeds (length spot.deeds - 1))))

  claims_now : (stamp from n line : ℕ) →
      IsSomeAnd (command_at mine line) (λ c. claim_of h line c ≡ event.Claim from n line ∷ []) →
      claims_since h ≡ [] → IsAnswerOf mine h line → Chosen stamp (event.Claim from n line)
  claims_now stamp from n line claims first due =
      by_command due.command.command refl
      (subst (λ (o : Option Command). IsSomeAnd o (λ c. claim_of h line c ≡ event.Claim from n line ∷ []))
      (ap (λ (l : ℕ). command_at mine l) (sym due.line_is)
      ∙ at.stand (length (ran_lines h)) due.command due.next) claims)
    where
      by_found : (peer : Peer) (tag : TagPick) (ctx : ℕ) (o : Option Arrival) →
          first_message h (matched_pairs h) peer tag ctx ≡ o →
          option_map_or (λ (a : Arrival). event.Claim a.env.from a.n line ∷ []) o []
          ≡ event.Claim from n line ∷ [] →
          option_map (λ (a : Arrival). deed.Claim a.env.from a.n line) o ≡ Some (deed.Claim from n line)
      by_found peer tag ctx None found same = absurd (grind arith)
      by_found peer tag ctx (Some a) found same =
          let one : a.env.from ≡ from = cc in
          let two : a.n ≡ n = cc in
          rw (one, two) refl

      by_command : (c : Command) → due.command.command ≡ c →
          claim_of h line c ≡ event.Claim from n line ∷ [] → Chosen stamp (event.Claim from n line)
      by_command (command.Mprobe m peer tag ctx) is same =
          by_deed stamp (event.Claim from n line) tt due.command due.next line due.line_is (deed.Claim from n line) refl
          (begins due.command due.next line (deed.Claim from n line)
          (ap (λ (c : Command). start_in shape.eager lines i spot line c) is
          ∙ ap (λ (o : Option Arrival). option_map (λ (a : Arrival). deed.Claim a.env.from a.n line) o)
          (first_said lines h spot at.is peer tag ctx)
          ∙ by_found peer tag ctx (first_message h (matched_pairs h) peer tag ctx) refl same)
          (claim_free lines h spot at.is first))
      by_command (command.Send to q tag ctx sync body) is same = absurd (grind arith)
      by_command (command.Recv q peer tag ctx cap) is same = absurd (grind arith)
      by_command (command.Wait q) is same = absurd (grind arith)
      by_command (command.Test q) is same = absurd (grind arith)
      by_command (command.Probe peer tag ctx) is same = absurd (grind arith)
      by_command (command.Await peer tag ctx) is same = absurd (grind arith)
      by_command (command.Cancel q) is same = absurd (grind arith)
      by_command (command.Mrecv q m cap) is same = absurd (grind arith)

  answers_now : (stamp line : ℕ) (a : Answer) →
      MayFollow shape mine h (record { stamp = stamp; what = event.Ran line a }) →
      MayMove shape lines (placed lines log) i (event.Ran line a) → Chosen stamp (event.Ran line a)
  answers_now stamp line a own moves =
      let c : Numbered = moves.0.command in
      let here : command_at mine line ≡ Some c.command =
      ap (λ (l : ℕ). command_at mine l) (sym moves.0.line_is) ∙ at.stand (length (ran_lines h)) c moves.0.next in
      let found = answered shape lines log v i spot at line c.command a (record {
        may = moves.0.may;
        starts = own.starts.0
            ∙ ap (λ (o : Option Command). if is_started a
            then option_map_or (start_of shape.eager mine h line) o [] else []) here;
        cancels = subst (λ (o : Option Command). MatchOption o (cancels_since h ≡ []) (CancelsFor mine h)) here
            own.cancels;
        claims = own.claims
            ∙ ap (λ (o : Option Command). if option_map_or is_matched_probe o false && is_seen a
            then line ∷ [] else []) here;
        shows = subst (λ (o : Option Command). IsSomeAnd o (ShowsBytes shape lines (placed lines log) i a)) here
            moves.1;
        right = subst (λ (o : Option Command).
            IsSomeAnd o (λ x. answer_of mine h line x ≡ Some (without_bytes a))) here own.answers;
      }) in
      by_deed stamp (event.Ran line a) tt c moves.0.next line moves.0.line_is found.0 found.1 found.2

  arrives_now : (stamp : ℕ) (a : Arrival) → a.env.from < shape.ranks → IsProper h (event.Arrive a) →
      MayMove shape lines (placed lines log) i (event.Arrive a) → Chosen stamp (event.Arrive a)
  arrives_now stamp a low fine moves =
      let from = a.env.from in
      let other = at.stands from low in
      let s = get_from_map (λ (s : Sent). envelope from s) (sends (history_in log from) i) (length (arrivals h from))
      a.env moves.0 in
      let many : count_by (λ (b : Arrival). b.env.from == from) spot.came ≡ length (arrivals h from) =
      sym (length-filter (λ (b : Arrival). b.env.from == from) spot.came) ∙ at.is.came from in
      record {
        by = move.Arrive a;
        choice = record {
          from = from;
          within = low;
          next = ap (λ (o : Option Spot). option_and_then (λ (spot : Spot). option_and_then (λ (other : Spot).
              let n = count_by (λ (b : Arrival). b.env.from == from) spot.came in
              option_and_then (arrival_by from n) (slice_get (filter (is_send_by i) other.deeds) n)) (v from)) o)
              at.here
              ∙ ap (λ (o : Option Spot). option_and_then (λ (other : Spot).
              let n = count_by (λ (b : Arrival). b.env.from == from) spot.came in
              option_and_then (arrival_by from n) (slice_get (filter (is_send_by i) other.deeds) n)) o) other.1
              ∙ ap (λ (n : ℕ). option_and_then (arrival_by from n)
              (slice_get (filter (is_send_by i) other.0.deeds) n)) many
              ∙ ap (λ (o : Option Deed). option_and_then (arrival_by from (length (arrivals h from))) o)
              (sent_deed lines (history_in log from) other.0 other.2 i (length (arrivals h from)) s.0 s.1)
              ∙ ap (λ (b : Arrival). Some b)
              (arrival_same a (length (arrivals h from)) (envelope from s.0) (sym moves.1) s.2);
        };
        state = arrives lines h spot at.is stamp a fine;
      }

  withdraws_now : (stamp from n : ℕ) → MayMove shape lines (placed lines log) i (event.Withdraw from n true) →
      Chosen stamp (event.Withdraw from n true)
  withdraws_now stamp from n moves =
      let low = came_within shape.ranks from n h (numbers_in shape lines log at.is_log i) moves.0 in
      let other = at.stands from low in
      let came : list_any (is_message from n) spot.came ≡ true = came_said lines h spot at.is from n ∙ moves.0 in
      let a = any_at (is_message from n) spot.came came in
      let sender = same_number a.1.env.from from (and_left (a.1.env.from == from) (a.1.n == n) a.3) in
      let number = same_number a.1.n n (and_right (a.1.env.from == from) (a.1.n == n) a.3) in
      record {
        by = move.Withdraw (the_message from n);
        choice = record {
          place = a.0;
          arrival = a.1;
          came = a.2;
          message = message_same a.1.env.from a.1.n from n sender number;
          free = same_free a.1.env.from a.1.n sender number
              (ap (λ (o : Option Spot). option_map_or (λ (spot : Spot). option_map_or (λ (other : Spot).
              list_any (is_message from n) spot.came
              && (free_lem spot from n && list_any (is_recall_by i n) other.deeds)) (v from) false) o false) at.here
              ∙ ap (λ (o : Option Spot). option_map_or (λ (other : Spot).
              list_any (is_message from n) spot.came
              && (free_lem spot from n && list_any (is_recall_by i n) other.deeds)) o false) other.1
              ∙ both (list_any (is_message from n) spot.came)
              (free_lem spot from n && list_any (is_recall_by i n) other.0.deeds) came
              (both (free_lem spot from n) (list_any (is_recall_by i n) other.0.deeds)
              (free_said lines h spot at.is from n ∙ sym moves.1)
              ((said lines (history_in log from) other.0 other.2).recalled i n ∙ moves.2 low)));
        };
        state = withdraws lines h spot at.is stamp from n;
      }
    where
      same_free : (rank m : ℕ) → rank ≡ from → m ≡ n → is_withdrawn_next v i from n ≡ true →
          is_withdrawn_next v i rank m ≡ true
      same_free rank m one two free = rw (one, two) free

  by_event : (stamp : ℕ) (what : Happened) → MayFollow shape mine h (record { stamp = stamp; what = what }) →
      IsProper h what → IsDue shape.eager mine h what → MayMove shape lines (placed lines log) i what →
      is_quiet what ≡ false → Chosen stamp what
  by_event stamp (event.Send to n tag ctx len how line) own fine due moves loud =
      sends_now stamp to n tag ctx len line how own.numbers due
  by_event stamp (event.Post p line) own fine due moves loud = posts_now stamp p line own.numbers fine due
  by_event stamp (event.Match number from n cap line) own fine due moves loud =
      matches_now stamp number from n cap line own.numbers fine moves.not_taken due
  by_event stamp (event.Cancel number done) own fine due moves loud =
      cancels_now stamp number done own.cancels due.1 due.0
  by_event stamp (event.Recall to n) own fine due moves loud = recalls_now stamp to n own.cancels.0 due
  by_event stamp (event.Claim from n line) own fine due moves loud =
      claims_now stamp from n line own.claims due.1 due.0
  by_event stamp (event.Ran line a) own fine due moves loud = answers_now stamp line a own moves
  by_event stamp (event.Arrive a) own fine due moves loud = arrives_now stamp a own.numbers.0 fine moves
  by_event stamp (event.Withdraw from n true) own fine due moves loud = withdraws_now stamp from n moves
  by_event stamp (event.Withdraw from n false) own fine due moves loud = absurd (false≢true (sym loud))
  by_event stamp (event.Whole from n) own fine due moves loud = absurd (false≢true (sym loud))
  by_event stamp (event.Out to n) own fine due moves loud = absurd (false≢true (sym loud))
  by_event stamp (event.Undone to n done) own fine due moves loud = absurd (false≢true (sym loud))

pub events_are_choices : EventsAreChoices
events_are_choices shape lines log v i e spot script is_log stands stand within next due loud here =
    let s = stands i next.within in
    let same : s.0 ≡ spot = same_spot s.0 spot (sym s.1 ∙ here) in
    by_event shape lines log v i spot
    (record {
      script = script;
      is_log = is_log;
      stands = stands;
      stand = stand;
      within = within;
      low = next.within;
      here = here;
      is = subst (λ (x : Spot). IsSpotOf lines (history_in log i) x) same s.2;
    })
    e.stamp e.what next.own
    (proper shape (commands_of i lines) (history_in log i) e.stamp e.what (all_follow shape lines log is_log i)
    next.own)
    due
    (steps_are_moves shape lines log (placed lines log) i e is_log (are_placed lines log) stand within next due) loud
  where
    same_spot : (a b : Spot) → Some a ≡ Some b → a ≡ b
    same_spot a b same = cc
