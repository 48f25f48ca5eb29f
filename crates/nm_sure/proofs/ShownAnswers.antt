-- The answers of a lawful run of plain commands are those of the plain run.
use Rattle.std.proofs.Common.{◌≡◌, ℕ, ◌+◌, ◌<◌, ◌==◌, Bool, true, false, cond, suc, Option, Some}
use Rattle.std.proofs.Common.{None, List, [], ◌∷◌, ◌++◌, length, map, refl, sym, ◌∙◌, ap, subst, arith, append_assoc}
use Rattle.std.specs.Prelude.{IsSomeAnd, drop, is_some, nat_lt, option_map, replicate, take}
use Rattle.std.specs.List.{cons_option, filter, filter_map, position, slice_get}
use Rattle.std.specs.Option.{option_and_then, option_map_or}
use Rattle.std.proofs.lemmas.Bool.{false≢true}
use Rattle.std.proofs.lemmas.Bool.Decides.{nat_tests}
use Rattle.std.proofs.Common.{length-append}
use Rattle.std.proofs.lemmas.List.{take-append-drop}
use Rattle.std.proofs.lemmas.List.Elements.{filter_map-append}
use Rattle.std.proofs.Math.Seq.{take-append_seam}
use Rattle.nm_types.specs.declared.answers.Answer.{Answer}
use Rattle.nm_types.specs.declared.answers.Answer.TheVariants as answer
use Rattle.nm_types.specs.declared.messages.Arrival.{Arrival}
use Rattle.nm_types.specs.declared.messages.Envelope.{Envelope}
use Rattle.nm_types.specs.declared.messages.Peer.TheVariants as peer
use Rattle.nm_types.specs.declared.messages.Post as post
use Rattle.nm_types.specs.declared.messages.TagPick.TheVariants as pick
use Rattle.nm_types.specs.declared.scripts.Command.{Command}
use Rattle.nm_types.specs.declared.scripts.Command.TheVariants as command
use Rattle.nm_types.specs.declared.scripts.Line.{Line}
use Rattle.nm_types.specs.Commands.{Numbered, command_at, commands_of}
use Rattle.nm_types.specs.Sizes.{Sizes}
use Rattle.nm_history.specs.declared.events.Event.{Event}
use Rattle.nm_history.specs.declared.events.Happened.{Happened}
use Rattle.nm_history.specs.declared.events.Happened.TheVariants as event
use Rattle.nm_history.specs.declared.plain.Pair.{Pair}
use Rattle.nm_history.specs.AtEach.{AtEach}
use Rattle.nm_history.specs.Answers.{answer_of, live, request_at, without_bytes}
use Rattle.nm_history.specs.Completion.{Request, is_complete, is_here, pair_of_receive, result_of, shown}
use Rattle.nm_history.specs.Completion.Request.{Sending, Receiving}
use Rattle.nm_history.specs.Delivery.{ArriveInOrder, BodyAt, ShowsBytes, asked_pair, pair_of_request}
use Rattle.nm_history.specs.Happens.{happened, is_cancel, is_undone}
use Rattle.nm_history.specs.Matching.{pair_of}
use Rattle.nm_history.specs.RankRun.{AnswerAt, ran_lines, start_of}
use Rattle.nm_history.specs.RankRun.{ran_of as ran_of_event}
use Rattle.nm_report.specs.Told.{Told, told_by}
use Rattle.nm_history.specs.Sends.{Arrived, Sent, arrivals, envelope, messages, sends, sent_bytes}
use Rattle.nm_history.proofs.AtEachLemmas.{AtEach-split}
use Rattle.nm_history.proofs.OnceLemmas.{eqb_self}
use Rattle.nm_sure.specs.Channels.{Channel, receives_in, send_for, sends_in}
use Rattle.nm_match.specs.InTurn.{is_in}
use Rattle.nm_sure.specs.Names.{holder, started}
use Rattle.nm_sure.specs.PlainText.{plain_answer, result_at, result_by, shown_of, start_answer, told_after}
use Rattle.nm_sure.proofs.Called.{called_for, front_ends, front_numbers, front_plain, is_posting, partner}
use Rattle.nm_sure.proofs.Coupled.{channel_messages, channel_of, pair_of_place, place_of_message}
use Rattle.nm_sure.proofs.Fitting.{EachFits}
use Rattle.nm_sure.proofs.Floor.{is_sending, place_whole, told}
use Rattle.nm_sure.proofs.Flown.{arrive_front, as_many_before, goes_in, sent_at}
use Rattle.nm_sure.proofs.Fronts.{answered}
use Rattle.nm_sure.proofs.Gathered.{post_line, posts_read, posts_told, receives_it, send_line, sends_it, sends_read}
use Rattle.nm_sure.proofs.Gathered.{sends_told}
use Rattle.nm_sure.specs.Plain.{is_plain}
use Rattle.nm_sure.proofs.Named.{IsNamed, is_live}
use Rattle.nm_sure.proofs.Lists.{kept_at, kept_from, of_some_and}
use Rattle.nm_sure.proofs.Made.{channel_sends, post_lines, post_made, send_lines, send_made, sends_told_by_lines}
use Rattle.nm_sure.proofs.Reached.{receives_kept, sends_kept}
use Rattle.nm_sure.proofs.Rising.{front_run, started_from}
use Rattle.nm_sure.proofs.Worlds.{PlainRun, answers_counted, fits, lined, no_cancel, no_undone, on_true, plain_events}
use Rattle.nm_sure.proofs.Worlds.{seen}
use Rattle.nm_types.proofs.ListLemmas.{get_map, all_split, get_before, get_from_map, place_below}
use Rattle.nm_types.proofs.OptionLemmas.{if_some, no_some, same_some}
use Rattle.nm_types.specs.Bodies.{HaveTheirLength}
use Rattle.nm_history.proofs.AppendLemmas.{arrivals-append}
use Rattle.nm_sure.proofs.Shown.{sent_fits, length_sent, cap_called, answer_shown, plain_as_it_is}

module _ (shape : Sizes) (lines : List Line) (at : ℕ → ℕ) (hist : ℕ → List Event) (run : PlainRun shape lines at hist)
    (lengths : HaveTheirLength) where
  -- the send that the receive of a line belongs to, as the script and as the run have it
  record Partner (from i tag ctx l n : ℕ) (env : Envelope) : Type 0 where
    start : Numbered
    found : send_for lines (record { from = from; to = i; tag = tag; ctx = ctx }) l ≡ Some start
    sent : Sent
    here : slice_get (sends (hist from) i) n ≡ Some sent
    same : env ≡ envelope from sent
    command : command_at (commands_of from lines) sent.line ≡ Some start.command

  start_of_line : (i from tag ctx l x : ℕ) (b rest : List Event) (a : Arrival) → i < shape.ranks → from < shape.ranks →
      hist i ≡ b ++ rest → slice_get (post_lines b from tag ctx) x ≡ Some l → (sent : Sent) →
      slice_get (sends (hist from) i) a.n ≡ Some sent → a.env ≡ envelope from sent →
      slice_get (send_lines (hist from) i tag ctx) x ≡ Some sent.line → Partner from i tag ctx l a.n a.env
  start_of_line i from tag ctx l x b rest a inside within split posted sent here env line =
      let k : Channel = record { from = from; to = i; tag = tag; ctx = ctx } in
      let commands : List Numbered = commands_of from lines in
      let all = told shape lines at hist run (send_line i tag ctx) (sends_it i tag ctx) (sends_read i tag ctx)
      (sends_told i tag ctx) from in
      let start = get_from_map (λ (c : Numbered). c.line)
      (filter (λ c. sends_it i tag ctx c.command) (started (take (at from) commands))) x sent.line
      (ap (λ (ls : List ℕ). slice_get ls x) (sym all) ∙ line) in
      let whole = front_run (λ c. sends_it i tag ctx c.command) (take (at from) commands) (drop (at from) commands) x
      start.0 start.1 in
      let own : slice_get (filter (λ c. sends_it i tag ctx c.command) (started commands)) x ≡ Some start.0 =
      ap (λ (cs : List Numbered). slice_get (filter (λ c. sends_it i tag ctx c.command) (started cs)) x)
      (sym (take-append-drop (at from) commands)) ∙ whole.0 in
      let kept = kept_from (λ (c : Numbered). sends_it i tag ctx c.command) (started commands) x start.0 own in
      let among = started_from [] commands kept.0 start.0 kept.1 in
      let posted_whole : slice_get (post_lines (hist i) from tag ctx) x ≡ Some l =
      ap (λ (ls : List ℕ). slice_get ls x) (ap (λ (h : List Event). post_lines h from tag ctx) split
      ∙ filter_map-append (λ (e : Event). post_line from tag ctx e.what) b rest)
      ∙ get_before (post_lines b from tag ctx) (post_lines rest from tag ctx) x l posted in
      record {
        start = start.0;
        found = partner (sends_in lines k) (receives_in lines k) l x start.0
            (ap (λ (cs : List Numbered). position (λ c. c.line == l) cs)
            (receives_kept k (commands_of i lines) (run.plain i))
            ∙ place_whole shape lines at hist run (post_line from tag ctx) (receives_it from tag ctx)
            (posts_read from tag ctx) (posts_told from tag ctx) i x l posted_whole)
            (ap (λ (cs : List Numbered). slice_get cs x) (sends_kept k commands (run.plain from)) ∙ own);
        sent = sent;
        here = here;
        same = env;
        command = ap (λ (l : ℕ). command_at commands l) (sym start.2) ∙ run.stand from among.0 start.0 among.1;
      }

  partner_of : (i from tag ctx l x : ℕ) (b rest : List Event) (a : Arrival) → i < shape.ranks → from < shape.ranks →
      hist i ≡ b ++ rest → slice_get (post_lines b from tag ctx) x ≡ Some l →
      slice_get (channel_messages b from tag ctx) x ≡ Some a → Partner from i tag ctx l a.n a.env
  partner_of i from tag ctx l x b rest a inside within split posted came =
      let k : Channel = record { from = from; to = i; tag = tag; ctx = ctx } in
      let numbers = front_numbers shape.ranks (hist i) b rest split (run.own i).numbers in
      let plain = front_plain (hist i) b rest split (plain_events shape lines at hist run i inside) in
      let its = place_of_message shape.ranks b numbers plain from tag ctx x a came in
      let order = arrive_front from (sends (hist from) i) (arrivals b from) (arrivals rest from)
      (subst (λ (as' : List Arrived). ArriveInOrder from (sends (hist from) i) as')
      (ap (λ (h : List Event). arrivals h from) split ∙ arrivals-append b rest from)
      (run.carried from i within inside).messages) in
      let send = sent_at from (sends (hist from) i) (arrivals b from) a.n its.0 order its.1 in
      let env : a.env ≡ envelope from send.0 = ap (λ (c : Arrival). c.env) (sym its.2) ∙ send.2 in
      let spot : x ≡ length (filter (goes_in tag ctx) (take a.n (sends (hist from) i))) =
      its.3 ∙ as_many_before from tag ctx (sends (hist from) i) (arrivals b from) a.n order
      (let p = place_below (arrivals b from) a.n its.0 its.1 in omega (arith, p)) in
      let passes = in_channel from tag ctx send.0 (sym (ap (λ (v : Envelope). is_in from tag ctx v) env)
      ∙ (kept_from (λ (a : Arrival). is_in from tag ctx a.env) (messages b) x a came).2) in
      let line : slice_get (send_lines (hist from) i tag ctx) x ≡ Some send.0.line =
      ap (λ (ls : List ℕ). slice_get ls x) (sym (sends_told_by_lines (hist from) i tag ctx))
      ∙ get_map (λ (s : Sent). s.line) (channel_sends (hist from) i tag ctx) x send.0
      (ap (λ (m : ℕ). slice_get (channel_sends (hist from) i tag ctx) m) spot ∙ kept_at (goes_in tag ctx)
      (sends (hist from) i) a.n send.0 send.1 passes) in
      start_of_line i from tag ctx l x b rest a inside within split posted send.0 send.1 env line
    where
      in_channel : (from tag ctx : ℕ) (s : Sent) → is_in from tag ctx (envelope from s) ≡ true →
          goes_in tag ctx s ≡ true
      in_channel from tag ctx s is = grind (arith, nat_tests)

  -- what a receive shows of its message
  receive_result : (b : List Event) (p : post.Post) (m : Option Arrival) (o : Option Pair) (x : Answer) →
      o ≡ option_map (pair_of p) m →
      option_and_then (λ pair. cond (is_here b pair) (Some (shown pair)) None) o ≡ Some x →
      (a : Arrival) × (m ≡ Some a) × (shown (pair_of p a) ≡ x)
  receive_result b p None o x same result =
      absurd (no_some x (sym
      (ap (λ (o : Option Pair). option_and_then (λ pair. cond (is_here b pair) (Some (shown pair)) None) o) same)
      ∙ result))
  receive_result b p (Some a) o x same result = (
    a,
    refl,
    by_here (is_here b (pair_of p a))
        (sym (ap (λ (o : Option Pair). option_and_then (λ pair. cond (is_here b pair) (Some (shown pair)) None) o)
        same) ∙ result),
  )
    where
      by_here : (c : Bool) → cond c (Some (shown (pair_of p a))) None ≡ Some x → shown (pair_of p a) ≡ x
      by_here true same = same_some (shown (pair_of p a)) x same
      by_here false same = absurd (no_some x same)

  -- the bytes that a wait shows are those of the send
  bytes_shown : (i from : ℕ) (b : List Event) (e : Event) (rest : List Event) (line q number source t : ℕ)
      (bytes : List ℕ) (p : post.Post)
      (m : Arrival) (sent : Sent) (c : Command) → i < shape.ranks → from < shape.ranks → hist i ≡ b ++ e ∷ rest →
      e.what ≡ event.Ran line (answer.Got source t bytes) → command_at (commands_of i lines) line ≡ Some
      (command.Wait q) →
      live (commands_of i lines) b q ≡ Some (Receiving number) → pair_of_receive b number ≡ Some (pair_of p m) →
      m.env.from ≡ from →
      slice_get (sends (hist from) i) m.n ≡ Some sent → command_at (commands_of from lines) sent.line ≡ Some c →
      bytes ≡ sent_bytes c
  bytes_shown i from b e rest line q number source t bytes p m sent c inside within split what here alive pair is
      sends_here at_line =
      let commands : List Numbered = commands_of i lines in
      let body = AtEach-split (λ b e. BodyAt from (commands_of from lines) (sends (hist from) i) commands b e.what) b
      e rest
      (subst (λ (h : List Event). AtEach
      (λ b e. BodyAt from (commands_of from lines) (sends (hist from) i) commands b e.what) h) split
      (run.carried from i within inside).bodies) in
      let shows = subst (λ (w : Happened). BodyAt from (commands_of from lines) (sends (hist from) i) commands b w)
      what body in
      let asked : option_and_then (asked_pair commands b) (command_at commands line) ≡ Some (pair_of p m) =
      ap (λ (o : Option Command). option_and_then (asked_pair commands b) o) here
      ∙ ap (λ (o : Option Request). option_and_then (pair_of_request b) o) alive ∙ pair in
      of_some_and (λ (c : Command). bytes ≡ sent_bytes c) (command_at (commands_of from lines) sent.line) c at_line
      (of_some_and (λ (s : Sent). IsSomeAnd (command_at (commands_of from lines) s.line) (λ c. bytes ≡ sent_bytes c))
      (slice_get (sends (hist from) i) m.n) sent sends_here
      (on_true (m.env.from == from) (IsSomeAnd (slice_get (sends (hist from) i) m.n)
      (λ s. IsSomeAnd (command_at (commands_of from lines) s.line) (λ c. bytes ≡ sent_bytes c)))
      (ap (λ (f : ℕ). f == from) is ∙ eqb_self from)
      (if_some (ShowsBytes from (commands_of from lines) (sends (hist from) i) bytes)
      (option_and_then (asked_pair commands b) (command_at commands line))
      (pair_of p m) asked shows)))

  -- what a wait for a receive answers
  receive_shown : (i : ℕ) (b : List Event) (e : Event) (rest : List Event) (line q l number : ℕ) (a : Answer)
      (q' from tag ctx cap : ℕ) →
      hist i ≡ b ++ e ∷ rest → e.what ≡ event.Ran line a → command_at (commands_of i lines) line ≡ Some
      (command.Wait q) →
      live (commands_of i lines) b q ≡ Some (Receiving number) → request_at b l ≡ Some (Receiving number) →
      command_at (commands_of i lines) l ≡ Some (command.Recv q' (peer.One from) (pick.One tag) ctx cap) →
      result_of b (Receiving number) ≡ Some (without_bytes a) →
      a ≡ result_by lines i l (command.Recv q' (peer.One from) (pick.One tag) ctx cap)
  receive_shown i b e rest line q l number a q' from tag ctx cap split what waits alive asked here result =
      let commands : List Numbered = commands_of i lines in
      let peers = run.peers i l (command.Recv q' (peer.One from) (pick.One tag) ctx cap) here in
      let fit : EachFits shape.eager commands b =
      (all_split _ b (e ∷ rest) (subst (λ (h : List Event). EachFits shape.eager commands h) split
      (fits shape lines at hist run i))).0 in
      let numbers = front_numbers shape.ranks (hist i) b (e ∷ rest) split (run.own i).numbers in
      let plain = front_plain (hist i) b (e ∷ rest) split (plain_events shape lines at hist run i peers.0) in
      let made = post_made shape.eager commands b l number fit asked in
      let spot = made.place from tag ctx
      (called_for shape.eager commands l q' from tag ctx cap made.receive made.fits here) in
      let pair = ap (λ (n : ℕ). pair_of_receive b n) (sym made.numbered)
      ∙ pair_of_place shape.ranks b numbers plain from tag ctx spot.0 made.receive spot.1 in
      let message = receive_result b made.receive (slice_get (channel_messages b from tag ctx) spot.0)
      (pair_of_receive b number)
      (without_bytes a) pair
      (not_cancelled (happened (is_cancel number) b) _ _ (no_cancel shape.eager commands b number fit) result) in
      let m : Arrival = message.0 in
      let other = partner_of i from tag ctx l spot.0 b (e ∷ rest) m peers.0 peers.1 split spot.2 message.1 in
      let channel = channel_of from tag ctx m.env
      (kept_from (λ (a : Arrival). is_in from tag ctx a.env) (messages b) spot.0 m message.1).2 in
      let calls = sent_fits shape.eager (commands_of from lines) (hist from) i m.n other.sent
      (fits shape lines at hist run from) other.here in
      let own : calls.command ≡ other.start.command = same_some calls.command other.start.command
      (sym calls.at_line ∙ other.command) in
      let len : m.env.len ≡ length (sent_bytes other.start.command) =
      ap (λ (v : Envelope). v.len) other.same
      ∙ sym (length_sent lengths shape.eager (commands_of from lines) other.sent calls)
      ∙ ap (λ (c : Command). length (sent_bytes c)) own in
      shown_so from tag cap made.receive m other.start a
      (cap_called shape.eager commands l q' from tag ctx cap made.receive made.fits here)
      (sym channel.0) (sym channel.1) len message.2
      (λ source t bytes is. bytes_shown i from b e rest line q number source t bytes made.receive m other.sent
      other.start.command
      peers.0 peers.1 split (what ∙ ap (λ (a : Answer). event.Ran line a) is) waits alive
      (pair ∙ ap (λ (o : Option Arrival). option_map (pair_of made.receive) o) message.1) (sym channel.0) other.here
      other.command)
      ∙ sym (ap (λ (o : Option Numbered). option_map_or
      (λ s. shown_of (record { from = from; to = i; tag = tag; ctx = ctx }) cap (sent_bytes s.command)) o answer.Null)
      other.found)
    where
      not_cancelled : (c : Bool) (x o : Option Answer) → c ≡ false → cond c x o ≡ Some (without_bytes a) →
          o ≡ Some (without_bytes a)
      not_cancelled true x o is result = absurd (false≢true (sym is))
      not_cancelled false x o is result = result

      shown_so : (from tag cap : ℕ) (p : post.Post) (m : Arrival) (s : Numbered) (a : Answer) → p.cap ≡ cap →
          m.env.from ≡ from → m.env.tag ≡ tag →
          m.env.len ≡ length (sent_bytes s.command) → shown (pair_of p m) ≡ without_bytes a →
          ((source t : ℕ) (bytes : List ℕ) → a ≡ answer.Got source t bytes → bytes ≡ sent_bytes s.command) →
          a ≡ cond (nat_lt cap (length (sent_bytes s.command))) (answer.Cut from tag (length (sent_bytes s.command)))
          (answer.Got from tag (sent_bytes s.command))
      shown_so from tag cap p m s a caps froms tags len same shows =
          answer_shown from tag (sent_bytes s.command) (nat_lt cap (length (sent_bytes s.command))) a
          (moved_shown p.cap cap m.env.from from m.env.tag tag m.env.len (length (sent_bytes s.command)) caps froms
          tags len ∙ same) shows
        where
          moved_shown : (c d f g t u m n : ℕ) → c ≡ d → f ≡ g → t ≡ u → m ≡ n →
              cond (nat_lt d n) (answer.Cut g u n) (answer.Got g u (replicate n 0)) ≡ cond (nat_lt c m)
              (answer.Cut f t m) (answer.Got f t (replicate m 0))
          moved_shown c d f g t u m n p q r s = rw (← p, ← q, ← r, ← s) refl

  -- what a wait for a send answers
  send_shown : (i : ℕ) (b : List Event) (e : Event) (rest : List Event) (to n : ℕ) (a : Answer) →
      hist i ≡ b ++ e ∷ rest →
      result_of b (Sending to n) ≡ Some (without_bytes a) → a ≡ answer.Sent
  send_shown i b e rest to n a split result =
      by_complete (is_complete b (Sending to n)) (happened (is_undone to n true) b)
      (no_undone shape.eager (commands_of i lines) b to n
      (all_split _ b (e ∷ rest) (subst (λ (h : List Event). EachFits shape.eager (commands_of i lines) h) split
      (fits shape lines at hist run i))).0
      (front_ends (hist i) b (e ∷ rest) split (run.own i).ends)) result
    where
      by_complete : (c u : Bool) → u ≡ false → cond c (Some (cond u answer.Cancelled answer.Sent)) None ≡ Some
          (without_bytes a) → a ≡ answer.Sent
      by_complete true true none result = absurd (false≢true (sym none))
      by_complete true false none result = plain_as_it_is answer.Sent a refl
          (same_some answer.Sent (without_bytes a) result)
      by_complete false u none result = absurd (no_some (without_bytes a) result)

  -- what a wait with a live request answers
  wait_shown : (i : ℕ) (b : List Event) (e : Event) (rest : List Event) (line q l : ℕ) (r : Request) (a : Answer) →
      hist i ≡ b ++ e ∷ rest → e.what ≡ event.Ran line a → command_at (commands_of i lines) line ≡ Some
      (command.Wait q) →
      live (commands_of i lines) b q ≡ Some r → request_at b l ≡ Some r → result_of b r ≡ Some (without_bytes a) →
      a ≡ result_at lines i l
  wait_shown i b e rest line q l (Receiving number) a split what waits alive asked result =
      let calls = (post_made shape.eager (commands_of i lines) b l number
      (all_split _ b (e ∷ rest) (subst (λ (h : List Event). EachFits shape.eager (commands_of i lines) h) split
      (fits shape lines at hist run i))).0 asked).fits in
      by_command calls.command calls.at_line calls.plain (ap (λ (ws : List Happened). is_posting ws) calls.start)
      ∙ sym (ap (λ (o : Option Command). option_map_or (result_by lines i l) o answer.Null) calls.at_line)
    where
      by_command : (c : Command) → command_at (commands_of i lines) l ≡ Some c → is_plain c ≡ true →
          is_posting (start_of shape.eager (commands_of i lines) [] l c) ≡ true → a ≡ result_by lines i l c
      by_command (command.Recv q' (peer.One from) (pick.One tag) ctx cap) here plain posts =
          receive_shown i b e rest line q l number a q' from tag ctx cap split what waits alive asked here result
      by_command (command.Recv q' peer.Any tags ctx cap) here plain posts = absurd (false≢true plain)
      by_command (command.Recv q' (peer.One from) pick.Any ctx cap) here plain posts = absurd (false≢true plain)
      by_command (command.Send to q' tag ctx sync body) here plain posts = absurd (false≢true posts)
      by_command (command.Wait q') here plain posts = absurd (false≢true posts)
      by_command (command.Test q') here plain posts = absurd (false≢true plain)
      by_command (command.Probe from tag ctx) here plain posts = absurd (false≢true plain)
      by_command (command.Await from tag ctx) here plain posts = absurd (false≢true plain)
      by_command (command.Cancel q') here plain posts = absurd (false≢true plain)
      by_command (command.Mprobe m from tag ctx) here plain posts = absurd (false≢true plain)
      by_command (command.Mrecv q' m cap) here plain posts = absurd (false≢true plain)
  wait_shown i b e rest line q l (Sending to n) a split what waits alive asked result =
      let calls = (send_made shape.eager (commands_of i lines) b l to n
      (all_split _ b (e ∷ rest) (subst (λ (h : List Event). EachFits shape.eager (commands_of i lines) h) split
      (fits shape lines at hist run i))).0 asked).fits in
      send_shown i b e rest to n a split result
      ∙ by_command calls.command calls.plain (ap (λ (ws : List Happened). is_sending ws) calls.start)
      ∙ sym (ap (λ (o : Option Command). option_map_or (result_by lines i l) o answer.Null) calls.at_line)
    where
      by_command : (c : Command) → is_plain c ≡ true → is_sending (start_of shape.eager (commands_of i lines) [] l c)
          ≡ true →
          answer.Sent ≡ result_by lines i l c
      by_command (command.Send to q' tag ctx sync body) plain sends = refl
      by_command (command.Recv q' from tags ctx cap) plain sends = absurd (false≢true sends)
      by_command (command.Wait q') plain sends = absurd (false≢true sends)
      by_command (command.Test q') plain sends = absurd (false≢true plain)
      by_command (command.Probe from tag ctx) plain sends = absurd (false≢true plain)
      by_command (command.Await from tag ctx) plain sends = absurd (false≢true plain)
      by_command (command.Cancel q') plain sends = absurd (false≢true plain)
      by_command (command.Mprobe m from tag ctx) plain sends = absurd (false≢true plain)
      by_command (command.Mrecv q' m cap) plain sends = absurd (false≢true plain)

  start_shown : (live held : Bool) (a : Answer) → live ≡ held → Some (cond live answer.Busy answer.Started) ≡ Some
      (without_bytes a) →
      a ≡ cond held answer.Busy answer.Started
  start_shown live true a same told =
      plain_as_it_is answer.Busy a refl (same_some answer.Busy (without_bytes a)
      (sym (ap (λ (b : Bool). Some (cond b answer.Busy answer.Started)) same) ∙ told))
  start_shown live false a same told =
      plain_as_it_is answer.Started a refl (same_some answer.Started (without_bytes a)
      (sym (ap (λ (b : Bool). Some (cond b answer.Busy answer.Started)) same) ∙ told))

  held_answer : (o : Option ℕ) → cond (is_some o) answer.Busy answer.Started ≡ start_answer o
  held_answer None = refl
  held_answer (Some l) = refl

  -- each answer is that of the plain run
  answer_is : (i : ℕ) (b : List Event) (e : Event) (rest : List Event) (line : ℕ) (a : Answer) (done : List Numbered)
      (c : Command) →
      hist i ≡ b ++ e ∷ rest → e.what ≡ event.Ran line a → command_at (commands_of i lines) line ≡ Some c →
      is_plain c ≡ true →
      IsNamed (commands_of i lines) done b → answer_of (commands_of i lines) b line c ≡ Some (without_bytes a) →
      a ≡ plain_answer lines i done c
  answer_is i b e rest line a done (command.Send to q tag ctx sync body) split what here plain named right =
      start_shown (is_some (live (commands_of i lines) b q)) (is_some (holder done q)) a
      (is_live (commands_of i lines) done b q named) right
      ∙ held_answer (holder done q)
  answer_is i b e rest line a done (command.Recv q from tags ctx cap) split what here plain named right =
      start_shown (is_some (live (commands_of i lines) b q)) (is_some (holder done q)) a
      (is_live (commands_of i lines) done b q named) right
      ∙ held_answer (holder done q)
  answer_is i b e rest line a done (command.Wait q) split what here plain named right =
      by_holder (holder done q) refl
    where
      by_request : (l : ℕ) (o : Option Request) → request_at b l ≡ o → is_some o ≡ true →
          live (commands_of i lines) b q ≡ o →
          option_map_or (result_of b) o (Some answer.Null) ≡ Some (without_bytes a) → a ≡ result_at lines i l
      by_request l None asked some alive right = absurd (false≢true some)
      by_request l (Some r) asked some alive right = wait_shown i b e rest line q l r a split what here alive asked
          right

      by_holder : (o : Option ℕ) → holder done q ≡ o → a ≡ option_map_or (result_at lines i) (holder done q) answer.Null
      by_holder None held =
          plain_as_it_is answer.Null a refl (same_some answer.Null (without_bytes a)
          (sym (ap (λ (o : Option ℕ). option_map_or (result_of b) (option_and_then (request_at b) o)
          (Some answer.Null)) (named.line q ∙ held)) ∙ right))
          ∙ sym (ap (λ (o : Option ℕ). option_map_or (result_at lines i) o answer.Null) held)
      by_holder (Some l) held =
          by_request l (request_at b l) refl (named.made q l held)
          (ap (λ (o : Option ℕ). option_and_then (request_at b) o) (named.line q ∙ held))
          (sym (ap (λ (o : Option ℕ). option_map_or (result_of b) (option_and_then (request_at b) o)
          (Some answer.Null)) (named.line q ∙ held)) ∙ right)
          ∙ sym (ap (λ (o : Option ℕ). option_map_or (result_at lines i) o answer.Null) held)
  answer_is i b e rest line a done (command.Test q) split what here plain named right = absurd (false≢true plain)
  answer_is i b e rest line a done (command.Probe from tag ctx) split what here plain named right =
      absurd (false≢true plain)
  answer_is i b e rest line a done (command.Await from tag ctx) split what here plain named right =
      absurd (false≢true plain)
  answer_is i b e rest line a done (command.Cancel q) split what here plain named right = absurd (false≢true plain)
  answer_is i b e rest line a done (command.Mprobe m from tag ctx) split what here plain named right =
      absurd (false≢true plain)
  answer_is i b e rest line a done (command.Mrecv q m cap) split what here plain named right = absurd (false≢true plain)

  -- the answers of the commands that are left
  told_rest : (i : ℕ) (b events : List Event) (done more : List Numbered) → hist i ≡ b ++ events →
      commands_of i lines ≡ done ++ more →
      length (ran_lines b) ≡ length done → ran_lines events ≡ map (λ c. c.line)
      (take (length (ran_lines events)) more) →
      filter_map (λ e. told_by e.what) events ≡ told_after lines i done (take (length (ran_lines events)) more)
  told_rest i b [] done more split cut count ran = refl
  told_rest i b (e ∷ events) done more split cut count ran =
      at_event e.what refl ran (λ done' more' cut' count' ran'.
      told_rest i (b ++ e ∷ []) events done' more' (split ∙ sym (append_assoc b (e ∷ []) events)) cut' count' ran')
    where
      grown : (o : Option ℕ) → ran_of_event e.what ≡ o → length (ran_lines (b ++ e ∷ [])) ≡ length
          (ran_lines b) + length (cons_option o [])
      grown o what =
          ap (λ (ls : List ℕ). length ls) (filter_map-append (λ (e : Event). ran_of_event e.what) b (e ∷ [])
          ∙ ap (λ (o : Option ℕ). ran_lines b ++ cons_option o []) what) ∙ length-append (ran_lines b)
          (cons_option o [])

      named_here : IsNamed (commands_of i lines) done b
      named_here =
          let s = seen shape lines at hist run i b (e ∷ events) split in
          let same : s.done ≡ done =
          sym (take-append_seam s.done s.more) ∙ ap (λ (cs : List Numbered). take (length s.done) cs)
          (sym s.split ∙ cut)
          ∙ ap (λ (n : ℕ). take n (done ++ more)) (sym s.stood.counted ∙ count) ∙ take-append_seam done more in
          subst (λ (cs : List Numbered). IsNamed (commands_of i lines) cs b) same s.stood.named

      answer_here : (line : ℕ) (a : Answer) (c : Numbered) (more' : List Numbered) → e.what ≡ event.Ran line a →
          line ≡ c.line →
          commands_of i lines ≡ done ++ c ∷ more' → a ≡ plain_answer lines i done c.command
      answer_here line a c more' what here cut =
          let own = lined shape lines at hist run i done c more' cut in
          let at_line : command_at (commands_of i lines) line ≡ Some c.command =
          ap (λ (l : ℕ). command_at (commands_of i lines) l) here ∙ own.0 in
          let right = AtEach-split (λ b e. AnswerAt (commands_of i lines) b e.what) b e events
          (subst (λ (h : List Event). AtEach (λ b e. AnswerAt (commands_of i lines) b e.what) h) split
          (run.own i).answers.right) in
          answer_is i b e events line a done c.command split what at_line own.1 named_here
          (answered (commands_of i lines) b line a c.command
          (subst (λ (w : Happened). AnswerAt (commands_of i lines) b w) what right) at_line)

      at_event : (what : Happened) → e.what ≡ what →
          cons_option (ran_of_event what) (ran_lines events) ≡ map (λ c. c.line)
          (take (length (cons_option (ran_of_event what) (ran_lines events))) more) →
          ((done' more' : List Numbered) → commands_of i lines ≡ done' ++ more' → length (ran_lines (b ++ e ∷ []))
          ≡ length done' →
          ran_lines events ≡ map (λ c. c.line) (take (length (ran_lines events)) more') →
          filter_map (λ e. told_by e.what) events ≡ told_after lines i done' (take (length (ran_lines events)) more')) →
          cons_option (told_by what) (filter_map (λ e. told_by e.what) events)
          ≡ told_after lines i done (take (length (cons_option (ran_of_event what) (ran_lines events))) more)
      at_event (event.Ran line a) what ran later = by_more more cut ran later
        where
          by_more : (more : List Numbered) → commands_of i lines ≡ done ++ more →
              line ∷ ran_lines events ≡ map (λ c. c.line) (take (suc (length (ran_lines events))) more) →
              ((done' more' : List Numbered) → commands_of i lines ≡ done' ++ more' → length (ran_lines (b ++ e ∷ []))
              ≡ length done' →
              ran_lines events ≡ map (λ c. c.line) (take (length (ran_lines events)) more') →
              filter_map (λ e. told_by e.what) events ≡ told_after lines i done'
              (take (length (ran_lines events)) more')) →
              record { line = line; answer = a } ∷ filter_map (λ e. told_by e.what) events
              ≡ told_after lines i done (take (suc (length (ran_lines events))) more)
          by_more [] cut ran later = absurd (grind arith)
          by_more (c ∷ more') cut ran later =
              let here : line ≡ c.line = cc in
              let ahead : ran_lines events ≡ map (λ c. c.line) (take (length (ran_lines events)) more') = cc in
              let tail = later (done ++ c ∷ []) more' (cut ∙ sym (append_assoc done (c ∷ []) more'))
              (grown (Some line) (ap (λ (w : Happened). ran_of_event w) what) ∙ ap (λ (n : ℕ). n + 1) count
              ∙ sym (length-append done (c ∷ []))) ahead in
              let first = answer_here line a c more' what here cut in
              ap (λ (l : ℕ). record { line = l; answer = a } ∷ filter_map (λ e. told_by e.what) events) here
              ∙ ap (λ (a : Answer). record { line = c.line; answer = a } ∷ filter_map (λ e. told_by e.what) events)
              first
              ∙ ap (λ (ts : List Told). record { line = c.line; answer = plain_answer lines i done c.command } ∷ ts)
              tail
      at_event w what ran later =
          later done more cut (grown None (ap (λ (w : Happened). ran_of_event w) what)
          ∙ add_zero (length (ran_lines b)) ∙ count) ran
        where
          add_zero : (n : ℕ) → n + 0 ≡ n
          add_zero n = omega arith

  -- what a rank told is what it tells in the plain run
  pub told_all : (i : ℕ) → filter_map (λ e. told_by e.what) (hist i) ≡ told_after lines i []
      (take (at i) (commands_of i lines))
  told_all i =
      let count = answers_counted shape lines at hist run i in
      told_rest i [] (hist i) [] (commands_of i lines) refl refl refl (rw count (run.own i).answers.in_order)
      ∙ ap (λ (n : ℕ). told_after lines i [] (take n (commands_of i lines))) count
