-- Each rank of a lawful run gets as far as the plain run: what is ready there is complete.
use Rattle.std.proofs.Common.{◌≡◌, ℕ, ◌+◌, ◌<◌, ◌≤◌, ◌==◌, Bool, true, false, not, ◌&&◌, ◌||◌, cond, ltb, zero, suc}
use Rattle.std.proofs.Common.{Option, Some}
use Rattle.std.proofs.Common.{None, List, [], ◌∷◌, length, map, refl, sym, ◌∙◌, ap, subst, arith, append-nil}
use Rattle.std.proofs.Common.{◌⊎◌, inl, inr}
use Rattle.std.specs.Prelude.{IsTrue, drop, is_some, option_map, slice_set, take}
use Rattle.std.specs.List.{filter, filter_map, list_any, position, range_with_len, slice_get}
use Rattle.std.specs.Option.{option_and_then, option_map_or}
use Rattle.std.proofs.lemmas.Bool.{false≢true}
use Rattle.std.proofs.lemmas.Bool.Decides.{nat_tests}
use Rattle.std.proofs.lemmas.List.{length-map, take-append-drop}
use Rattle.std.proofs.Math.Seq.{take-append_seam}
use Rattle.nm_types.specs.declared.messages.Arrival.{Arrival}
use Rattle.nm_types.specs.declared.messages.Envelope.{Envelope}
use Rattle.nm_types.specs.declared.messages.Peer.TheVariants as peer
use Rattle.nm_types.specs.declared.messages.TagPick.TheVariants as pick
use Rattle.nm_types.specs.declared.scripts.Body.{Body}
use Rattle.nm_types.specs.declared.scripts.Command.{Command}
use Rattle.nm_types.specs.declared.scripts.Command.TheVariants as command
use Rattle.nm_types.specs.declared.scripts.Line.{Line}
use Rattle.nm_types.specs.Bodies.{body_len}
use Rattle.nm_types.specs.Commands.{Numbered, command_at, commands_of}
use Rattle.nm_types.specs.Sizes.{Sizes}
use Rattle.nm_history.specs.declared.events.Event.{Event}
use Rattle.nm_history.specs.declared.events.Happened.{Happened}
use Rattle.nm_history.specs.declared.events.Happened.TheVariants as event
use Rattle.nm_history.specs.declared.plain.Pair.{Pair}
use Rattle.nm_history.specs.Answers.{can_go_on, request_at}
use Rattle.nm_history.specs.Completion.{Request, is_complete, is_here, is_taken, pair_of_receive}
use Rattle.nm_history.specs.Completion.Request.{Sending, Receiving}
use Rattle.nm_history.specs.Happens.{happened, is_cancel, is_out, is_recall, is_whole}
use Rattle.nm_history.specs.Matching.{pair_of}
use Rattle.nm_history.specs.Quiescence.{is_over}
use Rattle.nm_history.specs.RankRun.{how_of, start_of}
use Rattle.nm_history.specs.Sends.{Arrived, Sent, arrivals, envelope, is_ask, sends}
use Rattle.nm_history.proofs.OnceLemmas.{eqb_self}
use Rattle.nm_sure.specs.Channels.{Channel, receive_for, receives_in, send_for, sends_in}
use Rattle.nm_match.specs.InTurn.{is_in}
use Rattle.nm_sure.specs.Names.{holder, started}
use Rattle.nm_sure.specs.Plain.{at_of, can_run, goes_on, has_run, is_plain, is_ready, is_ready_at, next_of}
use Rattle.nm_sure.specs.Plain.{next_rank, plain_after, ran_of, with_one_more}
use Rattle.nm_sure.proofs.Carried.{came_in}
use Rattle.nm_sure.proofs.Called.{called_for, is_posting, sent_for}
use Rattle.nm_sure.proofs.Coupled.{channel_arrivals, channel_messages, channel_posts, messages_arrived, pair_of_place}
use Rattle.nm_sure.proofs.Coupled.{place_of_message, place_taken}
use Rattle.nm_sure.proofs.Flown.{all_came, as_many_before, goes_in, sent_at}
use Rattle.nm_sure.proofs.Gathered.{ReadsCommands, ReadsStarts, post_line, posts_read, posts_told, receives_it}
use Rattle.nm_sure.proofs.Gathered.{send_line, sends_it}
use Rattle.nm_sure.proofs.Gathered.{sends_read, sends_told}
use Rattle.nm_sure.proofs.Lists.{kept_at}
use Rattle.nm_sure.proofs.Made.{SendMade, channel_sends, post_made, posts_counted, send_lines, send_made}
use Rattle.nm_sure.proofs.Made.{sends_told_by_lines}
use Rattle.nm_sure.proofs.Numbering.{arrivals_numbered, sends_numbered}
use Rattle.nm_sure.proofs.Reached.{plain_at, receives_kept, sends_kept, told_whole}
use Rattle.nm_sure.proofs.Rising.{Rising, commands_rise, front_run, position_at, run_front}
use Rattle.nm_sure.proofs.Worlds.{PlainRun, Seen, answers_counted, fits, no_recall, on_true, plain_events, seen}
use Rattle.nm_types.proofs.ListLemmas.{get_some, get_map, find_passes, get_from_map, all_at, place_below}
use Rattle.nm_types.proofs.OptionLemmas.{same_some}
use Rattle.nm_types.proofs.TruthLemmas.{and_left, and_right}

-- what is among the first is among more
any_more : {X : Type 0} (test : X → Bool) (n m : ℕ) (xs : List X) → n ≤ m → list_any test (take n xs) ≡ true →
    list_any test (take m xs) ≡ true
any_more test zero m xs low some = absurd (false≢true some)
any_more test (suc n) zero xs low some = absurd (omega (arith, low))
any_more test (suc n) (suc m) [] low some = some
any_more test (suc n) (suc m) (x ∷ xs) low some = by_test (test x) some (any_more test n m xs (omega (arith, low)))
  where
    by_test : (b : Bool) → (b || list_any test (take n xs)) ≡ true →
        (list_any test (take n xs) ≡ true → list_any test (take m xs) ≡ true) → (b || list_any test (take m xs)) ≡ true
    by_test true some later = refl
    by_test false some later = later some

-- of a start that has run, the start itself
started_ran : (lines : List Line) (at : List ℕ) (j : ℕ) (S R : List Numbered) (l x : ℕ) →
    position (λ c. c.line == l) R ≡ Some x →
    has_run lines at j (option_and_then (slice_get S) (position (λ c. c.line == l) R)) ≡ true →
    (s : Numbered) × (slice_get S x ≡ Some s) × (list_any (λ c. c.line == s.line) (ran_of lines at j) ≡ true)
started_ran lines at j S R l x place ran =
    by_start (slice_get S x) refl
    (sym (ap (λ (o : Option ℕ). has_run lines at j (option_and_then (slice_get S) o)) place) ∙ ran)
  where
    by_start : (o : Option Numbered) → slice_get S x ≡ o → has_run lines at j o ≡ true →
        (s : Numbered) × (slice_get S x ≡ Some s) × (list_any (λ c. c.line == s.line) (ran_of lines at j) ≡ true)
    by_start None here ran = absurd (false≢true ran)
    by_start (Some s) here ran = (s, here, ran)

abbrev pub is_sending : List Happened → Bool
is_sending (event.Send to n tag ctx len how line ∷ ws) = true
is_sending _ = false

-- where one rank ran one command more, each ran at most so many
pub more_at : (F : List ℕ) (i j : ℕ) →
    (at_of (with_one_more F i) j ≡ at_of F j) ⊎ ((j ≡ i) × (at_of (with_one_more F i) j ≡ at_of F i + 1))
more_at F i j = set_at F i j (at_of F i + 1)
  where
    set_at : (F : List ℕ) (i j v : ℕ) →
        (at_of (slice_set F i v) j ≡ at_of F j) ⊎ ((j ≡ i) × (at_of (slice_set F i v) j ≡ v))
    set_at [] i j v = inl refl
    set_at (n ∷ F) zero zero v = inr (refl, refl)
    set_at (n ∷ F) zero (suc j) v = inl refl
    set_at (n ∷ F) (suc i) zero v = inl refl
    set_at (n ∷ F) (suc i) (suc j) v = elim (set_at F i j v) [
      | inl same ↦ inl same
      | inr here ↦ inr (ap (λ (k : ℕ). suc k) here.0, here.1)
    ]

module _ (shape : Sizes) (lines : List Line) (at : ℕ → ℕ) (hist : ℕ → List Event) (run : PlainRun shape lines at hist)
  where
    -- the lines of a channel's starts are those of the commands that ran
    pub told : (f : Happened → Option ℕ) (g : Command → Bool) → ReadsStarts f → ReadsCommands f g → (j : ℕ) →
        filter_map (λ e. f e.what) (hist j) ≡ map (λ c. c.line)
        (filter (λ c. g c.command) (started (take (at j) (commands_of j lines))))
    told f g reads tells j =
        let s = seen shape lines at hist run j (hist j) [] (sym (append-nil (hist j))) in
        told_whole f g reads tells shape.eager (commands_of j lines) (run.plain j) (hist j) s.done s.more s.split
        s.stood
        (run.own j).starts.no_others
        ∙ ap (λ (cs : List Numbered). map (λ c. c.line) (filter (λ c. g c.command) (started cs))) (ran_all j s)
      where
        ran_all : (j : ℕ) (s : Seen shape lines at hist run j (hist j) []) → s.done ≡ take (at j) (commands_of j lines)
        ran_all j s =
            sym (take-append_seam s.done s.more) ∙ ap (λ (cs : List Numbered). take (length s.done) cs) (sym s.split)
            ∙ ap (λ (n : ℕ). take n (commands_of j lines))
            (sym s.stood.counted ∙ answers_counted shape lines at hist run j)

    pub place_whole : (f : Happened → Option ℕ) (g : Command → Bool) → ReadsStarts f → ReadsCommands f g → (j x l : ℕ) →
        slice_get (filter_map (λ e. f e.what) (hist j)) x ≡ Some l →
        position (λ c. c.line == l) (filter (λ c. g c.command) (started (commands_of j lines))) ≡ Some x
    place_whole f g reads tells j x l here =
        let commands : List Numbered = commands_of j lines in
        let start = get_from_map (λ (c : Numbered). c.line) (filter (λ c. g c.command) (started (take (at j) commands)))
        x l
        (ap (λ (ls : List ℕ). slice_get ls x) (sym (told f g reads tells j)) ∙ here) in
        let both = front_run (λ c. g c.command) (take (at j) commands) (drop (at j) commands) x start.0 start.1 in
        let own : slice_get (filter (λ c. g c.command) (started commands)) x ≡ Some start.0 =
        ap (λ (cs : List Numbered). slice_get (filter (λ c. g c.command) (started cs)) x)
        (sym (take-append-drop (at j) commands)) ∙ both.0 in
        ap (λ (l : ℕ). position (λ c. c.line == l) (filter (λ c. g c.command) (started commands))) (sym start.2)
        ∙ position_at (λ c. g c.command) commands x start.0 (commands_rise j lines) own

    -- a start that ran stands in the history
    ran_below : (f : Happened → Option ℕ) (g : Command → Bool) → ReadsStarts f → ReadsCommands f g →
        (j x n : ℕ) (s : Numbered) →
        slice_get (filter (λ c. g c.command) (started (commands_of j lines))) x ≡ Some s → n ≤ at j →
        list_any (λ c. c.line == s.line) (take n (commands_of j lines)) ≡ true →
        x < length (filter_map (λ e. f e.what) (hist j))
    ran_below f g reads tells j x n s here low ran =
        let commands : List Numbered = commands_of j lines in
        let own = run_front (λ c. g c.command) 2 (take (at j) commands) (drop (at j) commands) x s
        (subst (λ (cs : List Numbered). Rising 2 cs) (sym (take-append-drop (at j) commands)) (commands_rise j lines))
        (ap (λ (cs : List Numbered). slice_get (filter (λ c. g c.command) (started cs)) x)
        (take-append-drop (at j) commands) ∙ here)
        (any_more (λ c. c.line == s.line) n (at j) commands low ran) in
        let below = place_below (filter (λ c. g c.command) (started (take (at j) commands))) x s own in
        let count = ap (λ (ls : List ℕ). length ls) (told f g reads tells j)
        ∙ length-map (filter (λ c. g c.command) (started (take (at j) commands))) (λ (c : Numbered). c.line) in
        omega (arith, below, count)

    -- a message that is eager, or taken, is over
    over : (i j k : ℕ) (s : Sent) → i < shape.ranks → j < shape.ranks → slice_get (sends (hist i) j) k ≡ Some s →
        (is_ask s.how ≡ true → is_taken (hist j) i s.n ≡ true) → is_over i j (hist i) (hist j) s.n ≡ true
    over i j k s inside within here taken = by_how (is_ask s.how) refl taken
      where
        both : (x y : Bool) → x ≡ true → y ≡ true → (x && y) ≡ true
        both x y p q = rw (p, q) refl

        by_how : (b : Bool) → is_ask s.how ≡ b → (b ≡ true → is_taken (hist j) i s.n ≡ true) →
            is_over i j (hist i) (hist j) s.n ≡ true
        by_how false how taken =
            on_true (not (is_ask s.how)) (IsTrue (is_over i j (hist i) (hist j) s.n)) (ap not how)
            (all_at _ (sends (hist i) j) k s (run.eager i j inside within) here)
        by_how true how taken =
            on_true (is_ask s.how && is_taken (hist j) i s.n) (IsTrue (is_over i j (hist i) (hist j) s.n))
            (both (is_ask s.how) (is_taken (hist j) i s.n) how (taken refl))
            (all_at _ (sends (hist i) j) k s (run.asked i j inside within) here).0

    -- as many messages of a channel came as were sent
    all_there : (i j tag ctx : ℕ) → i < shape.ranks → j < shape.ranks →
        length (channel_messages (hist j) i tag ctx) ≡ length (send_lines (hist i) j tag ctx)
    all_there i j tag ctx inside within =
        ap (λ (ms : List Arrival). length ms) (sym (messages_arrived (hist j) i tag ctx))
        ∙ length-map (channel_arrivals (hist j) i tag ctx) (λ (a : Arrived). a.arrival)
        ∙ all_came i tag ctx (sends (hist i) j) (arrivals (hist j) i) (run.carried i j inside within).messages
        (run.arrived i j inside within)
        ∙ sym (length-map (channel_sends (hist i) j tag ctx) (λ (s : Sent). s.line))
        ∙ ap (λ (ls : List ℕ). length ls) (sends_told_by_lines (hist i) j tag ctx)

    module _ (F : List ℕ) (low : (j : ℕ) → at_of F j ≤ at j) where
      -- a receive whose send ran has its message, and all of it
      receive_complete : (i l q from tag ctx cap number : ℕ) → i < shape.ranks → from < shape.ranks →
          command_at (commands_of i lines) l ≡ Some (command.Recv q (peer.One from) (pick.One tag) ctx cap) →
          request_at (hist i) l ≡ Some (Receiving number) →
          has_run lines F from (send_for lines (record { from = from; to = i; tag = tag; ctx = ctx }) l) ≡ true →
          is_complete (hist i) (Receiving number) ≡ true
      receive_complete i l q from tag ctx cap number inside within here asked ran =
          let commands : List Numbered = commands_of i lines in
          let k : Channel = record { from = from; to = i; tag = tag; ctx = ctx } in
          let h : List Event = hist i in
          let numbers = (run.own i).numbers in
          let plain = plain_events shape lines at hist run i inside in
          let made = post_made shape.eager commands h l number (fits shape lines at hist run i) asked in
          let spot = made.place from tag ctx
          (called_for shape.eager commands l q from tag ctx cap made.receive made.fits here) in
          let place = ap (λ (cs : List Numbered). position (λ c. c.line == l) cs)
          (receives_kept k commands (run.plain i))
          ∙ place_whole (post_line from tag ctx) (receives_it from tag ctx) (posts_read from tag ctx)
          (posts_told from tag ctx) i spot.0 l spot.2 in
          let sent = started_ran lines F from (sends_in lines k) (receives_in lines k) l spot.0 place ran in
          let below = ran_below (send_line i tag ctx) (sends_it i tag ctx) (sends_read i tag ctx)
          (sends_told i tag ctx) from spot.0
          (at_of F from) sent.0
          (ap (λ (cs : List Numbered). slice_get cs spot.0)
          (sym (sends_kept k (commands_of from lines) (run.plain from))) ∙ sent.1)
          (low from) sent.2 in
          let count = all_there from i tag ctx within inside in
          let message = get_some (channel_messages h from tag ctx) spot.0 (omega (arith, below, count)) in
          let a : Arrival = message.0 in
          let pair = pair_of_place shape.ranks h numbers plain from tag ctx spot.0 made.receive spot.1
          ∙ ap (λ (o : Option Arrival). option_map (pair_of made.receive) o) message.1 in
          let its = place_of_message shape.ranks h numbers plain from tag ctx spot.0 a message.1 in
          let send = sent_at from (sends (hist from) i) (arrivals h from) a.n its.0
          (run.carried from i within inside).messages its.1 in
          let number_same : send.0.n ≡ a.n = sends_numbered shape.ranks (hist from) i (run.own from).numbers a.n send.0
          send.1 in
          let taken = place_taken shape.ranks h numbers plain from tag ctx spot.0 made.receive a spot.1 message.1 in
          let whole = over from i a.n send.0 within inside send.1
          (λ ask. subst (λ (n : ℕ). is_taken h from n ≡ true) (sym number_same) taken) in
          let came : a.env.from ≡ from = ap (λ (v : Envelope). v.from) (sym (ap (λ (b : Arrival). b.env) its.2)
          ∙ send.2) in
          let is : happened (is_whole a.env.from a.n) h ≡ true =
          ap (λ (f : ℕ). happened (is_whole f a.n) h) came ∙ ap (λ (n : ℕ). happened (is_whole from n) h)
          (sym number_same)
          ∙ and_right (happened (is_out i send.0.n) (hist from)) (happened (is_whole from send.0.n) h) whole in
          either (happened (is_cancel number) h) (option_map_or (is_here h) (pair_of_receive h number) false)
          (ap (λ (n : ℕ). option_map_or (is_here h) (pair_of_receive h n) false) (sym made.numbered)
          ∙ ap (λ (o : Option Pair). option_map_or (is_here h) o false) pair ∙ is)
        where
          either : (x y : Bool) → y ≡ true → (x || y) ≡ true
          either true y is = refl
          either false y is = is

      -- a send by asking whose receive ran is taken
      send_taken : (i l q to tag ctx : ℕ) (body : Body) (sync : Bool) (n : ℕ)
          (made : SendMade shape.eager (commands_of i lines) (hist i) l to n) →
          i < shape.ranks → to < shape.ranks → (tag ≡ made.sent.tag) × (ctx ≡ made.sent.ctx) →
          slice_get (sends (hist i) to) n ≡ Some made.sent →
          has_run lines F to (receive_for lines (record { from = i; to = to; tag = tag; ctx = ctx }) l) ≡ true →
          is_taken (hist to) i n ≡ true
      send_taken i l q to tag ctx body sync n made inside within tags whole ran =
          let k : Channel = record { from = i; to = to; tag = tag; ctx = ctx } in
          let numbers = (run.own to).numbers in
          let plain = plain_events shape lines at hist run to within in
          let x : ℕ = length (filter (goes_in tag ctx) (take n (sends (hist i) to))) in
          let mine : slice_get (send_lines (hist i) to tag ctx) x ≡ Some l =
          ap (λ (ls : List ℕ). slice_get ls x) (sym (sends_told_by_lines (hist i) to tag ctx))
          ∙ get_map (λ (s : Sent). s.line) (channel_sends (hist i) to tag ctx) x made.sent
          (kept_at (goes_in tag ctx) (sends (hist i) to) n made.sent whole (in_channel tag ctx made.sent tags.0 tags.1))
          ∙ ap (λ (l : ℕ). Some l) made.line in
          let place = ap (λ (cs : List Numbered). position (λ c. c.line == l) cs)
          (sends_kept k (commands_of i lines) (run.plain i))
          ∙ place_whole (send_line to tag ctx) (sends_it to tag ctx) (sends_read to tag ctx) (sends_told to tag ctx) i x
          l mine in
          let start = started_ran lines F to (receives_in lines k) (sends_in lines k) l x place ran in
          let below = ran_below (post_line i tag ctx) (receives_it i tag ctx) (posts_read i tag ctx)
          (posts_told i tag ctx) to x
          (at_of F to) start.0
          (ap (λ (cs : List Numbered). slice_get cs x) (sym (receives_kept k (commands_of to lines) (run.plain to)))
          ∙ start.1)
          (low to) start.2 in
          let count = posts_counted (hist to) i tag ctx in
          let posted = get_some (channel_posts (hist to) i tag ctx) x (omega (arith, below, count)) in
          let order = (run.carried i to inside within).messages in
          let all = run.arrived i to inside within in
          let arrived = get_some (arrivals (hist to) i) n
          (let p = place_below (sends (hist i) to) n made.sent whole in omega (arith, p, all)) in
          let send = sent_at i (sends (hist i) to) (arrivals (hist to) i) n arrived.0 order arrived.1 in
          let one : send.0 ≡ made.sent = same_some send.0 made.sent (sym send.1 ∙ whole) in
          let env : arrived.0.arrival.env ≡ envelope i made.sent = send.2 ∙ ap (λ (s : Sent). envelope i s) one in
          let spot = as_many_before i tag ctx (sends (hist i) to) (arrivals (hist to) i) n order
          (let p = place_below (arrivals (hist to) i) n arrived.0 arrived.1 in omega (arith, p)) in
          let kept = kept_at (came_in i tag ctx) (arrivals (hist to) i) n arrived.0 arrived.1
          (ap (λ (v : Envelope). is_in i tag ctx v) env ∙ in_envelope i tag ctx made.sent tags.0 tags.1) in
          let came : slice_get (channel_messages (hist to) i tag ctx) x ≡ Some arrived.0.arrival =
          ap (λ (ms : List Arrival). slice_get ms x) (sym (messages_arrived (hist to) i tag ctx))
          ∙ get_map (λ (a : Arrived). a.arrival) (channel_arrivals (hist to) i tag ctx) x arrived.0
          (ap (λ (m : ℕ). slice_get (channel_arrivals (hist to) i tag ctx) m) (sym spot) ∙ kept) in
          let taken = place_taken shape.ranks (hist to) numbers plain i tag ctx x posted.0 arrived.0.arrival posted.1
          came in
          subst (λ (m : ℕ). is_taken (hist to) i m ≡ true)
          (arrivals_numbered shape.ranks (hist to) i numbers n arrived.0 arrived.1) taken
        where
          in_channel : (tag ctx : ℕ) (s : Sent) → tag ≡ s.tag → ctx ≡ s.ctx → goes_in tag ctx s ≡ true
          in_channel tag ctx s p q = rw (p, q, eqb_self s.ctx, eqb_self s.tag) refl

          in_envelope : (i tag ctx : ℕ) (s : Sent) → tag ≡ s.tag → ctx ≡ s.ctx → is_in i tag ctx (envelope i s) ≡ true
          in_envelope i tag ctx s p q = rw (p, q, eqb_self s.ctx, eqb_self i, eqb_self s.tag) refl

      -- a send that is eager, or whose receive ran, has left
      send_complete : (i l q to tag ctx : ℕ) (body : Body) (sync : Bool) (n : ℕ) → i < shape.ranks → to < shape.ranks →
          command_at (commands_of i lines) l ≡ Some (command.Send to q tag ctx sync body) →
          request_at (hist i) l ≡ Some (Sending to n) →
          (is_ask (how_of shape.eager sync (body_len body)) ≡ true →
          has_run lines F to (receive_for lines (record { from = i; to = to; tag = tag; ctx = ctx }) l) ≡ true) →
          is_complete (hist i) (Sending to n) ≡ true
      send_complete i l q to tag ctx body sync n inside within here asked ran =
          let commands : List Numbered = commands_of i lines in
          let made = send_made shape.eager commands (hist i) l to n (fits shape lines at hist run i) asked in
          let place : made.place ≡ n =
          sym (sends_numbered shape.ranks (hist i) to (run.own i).numbers made.place made.sent made.here)
          ∙ made.numbered in
          let whole : slice_get (sends (hist i) to) n ≡ Some made.sent = ap (λ (k : ℕ). slice_get (sends (hist i) to) k)
          (sym place) ∙ made.here in
          let goes = sent_for shape.eager commands l q to tag ctx body sync to n made.sent.tag made.sent.ctx
          made.sent.len made.sent.how made.fits here in
          let done = over i to n made.sent inside within whole
          (λ ask. subst (λ (m : ℕ). is_taken (hist to) i m ≡ true) (sym made.numbered)
          (send_taken i l q to tag ctx body sync n made inside within (goes.1, goes.2) whole (ran (goes.3 ∙ ask)))) in
          let out = and_left (happened (is_out to made.sent.n) (hist i)) (happened (is_whole i made.sent.n) (hist to))
          done in
          left_alone (happened (is_recall to n) (hist i)) _ (happened (is_out to n) (hist i))
          (no_recall shape.eager commands (hist i) to n (fits shape lines at hist run i))
          (subst (λ (m : ℕ). happened (is_out to m) (hist i) ≡ true) made.numbered out)
        where
          left_alone : (b x y : Bool) → b ≡ false → y ≡ true → cond b x y ≡ true
          left_alone true x y is out = absurd (false≢true (sym is))
          left_alone false x y is out = out

      receive_case : (i l number : ℕ) (c : Command) → request_at (hist i) l ≡ Some (Receiving number) →
          command_at (commands_of i lines) l ≡ Some c → is_plain c ≡ true →
          is_posting (start_of shape.eager (commands_of i lines) [] l c) ≡ true →
          is_ready shape.eager lines F i l c ≡ true → is_complete (hist i) (Receiving number) ≡ true
      receive_case i l number (command.Recv q (peer.One from) (pick.One tag) ctx cap) asked here plain posts ready =
          let peers = run.peers i l (command.Recv q (peer.One from) (pick.One tag) ctx cap) here in
          receive_complete i l q from tag ctx cap number peers.0 peers.1 here asked ready
      receive_case i l number (command.Recv q peer.Any tags ctx cap) asked here plain posts ready =
          absurd (false≢true plain)
      receive_case i l number (command.Recv q (peer.One from) pick.Any ctx cap) asked here plain posts ready =
          absurd (false≢true plain)
      receive_case i l number (command.Send to q tag ctx sync body) asked here plain posts ready =
          absurd (false≢true posts)
      receive_case i l number (command.Wait q) asked here plain posts ready = absurd (false≢true posts)
      receive_case i l number (command.Test q) asked here plain posts ready = absurd (false≢true plain)
      receive_case i l number (command.Probe from tag ctx) asked here plain posts ready = absurd (false≢true plain)
      receive_case i l number (command.Await from tag ctx) asked here plain posts ready = absurd (false≢true plain)
      receive_case i l number (command.Cancel q) asked here plain posts ready = absurd (false≢true plain)
      receive_case i l number (command.Mprobe m from tag ctx) asked here plain posts ready = absurd (false≢true plain)
      receive_case i l number (command.Mrecv q m cap) asked here plain posts ready = absurd (false≢true plain)

      send_case : (i l to' n : ℕ) (c : Command) (made : SendMade shape.eager (commands_of i lines) (hist i) l to' n) →
          request_at (hist i) l ≡ Some (Sending to' n) →
          command_at (commands_of i lines) l ≡ Some c → is_plain c ≡ true →
          is_sending (start_of shape.eager (commands_of i lines) [] l c) ≡ true →
          is_ready shape.eager lines F i l c ≡ true → is_complete (hist i) (Sending to' n) ≡ true
      send_case i l to' n (command.Send to q tag ctx sync body) made asked here plain sends ready =
          let peers = run.peers i l (command.Send to q tag ctx sync body) here in
          let goes = sent_for shape.eager (commands_of i lines) l q to tag ctx body sync to' n made.sent.tag
          made.sent.ctx made.sent.len
          made.sent.how made.fits here in
          subst (λ (t : ℕ). is_complete (hist i) (Sending t n) ≡ true) goes.0
          (send_complete i l q to tag ctx body sync n peers.0 peers.1 here
          (asked ∙ ap (λ (t : ℕ). Some (Sending t n)) (sym goes.0))
          (λ ask. by_how (is_ask (how_of shape.eager sync (body_len body)))
          (has_run lines F to (receive_for lines (record { from = i; to = to; tag = tag; ctx = ctx }) l)) ask ready))
        where
          by_how : (a b : Bool) → a ≡ true → (not a || b) ≡ true → b ≡ true
          by_how true b ask ready = ready
          by_how false b ask ready = absurd (false≢true ask)
      send_case i l to' n (command.Recv q from tags ctx cap) made asked here plain sends ready =
          absurd (false≢true sends)
      send_case i l to' n (command.Wait q) made asked here plain sends ready = absurd (false≢true sends)
      send_case i l to' n (command.Test q) made asked here plain sends ready = absurd (false≢true plain)
      send_case i l to' n (command.Probe from tag ctx) made asked here plain sends ready = absurd (false≢true plain)
      send_case i l to' n (command.Await from tag ctx) made asked here plain sends ready = absurd (false≢true plain)
      send_case i l to' n (command.Cancel q) made asked here plain sends ready = absurd (false≢true plain)
      send_case i l to' n (command.Mprobe m from tag ctx) made asked here plain sends ready = absurd (false≢true plain)
      send_case i l to' n (command.Mrecv q m cap) made asked here plain sends ready = absurd (false≢true plain)

      -- what is ready is complete
      complete : (i l : ℕ) (r : Request) → request_at (hist i) l ≡ Some r → is_ready_at shape.eager lines F i l ≡ true →
          is_complete (hist i) r ≡ true
      complete i l (Receiving number) asked ready =
          let calls = (post_made shape.eager (commands_of i lines) (hist i) l number (fits shape lines at hist run i)
          asked).fits in
          receive_case i l number calls.command asked calls.at_line calls.plain
          (ap (λ (ws : List Happened). is_posting ws) calls.start)
          (sym (ap (λ (o : Option Command). option_map_or (is_ready shape.eager lines F i l) o true) calls.at_line)
          ∙ ready)
      complete i l (Sending to n) asked ready =
          let made = send_made shape.eager (commands_of i lines) (hist i) l to n (fits shape lines at hist run i)
          asked in
          let calls = made.fits in
          send_case i l to n calls.command made asked calls.at_line calls.plain
          (ap (λ (ws : List Happened). is_sending ws) calls.start)
          (sym (ap (λ (o : Option Command). option_map_or (is_ready shape.eager lines F i l) o true) calls.at_line)
          ∙ ready)

      -- a command that can't go on in the run can't in the plain run
      stops : (i : ℕ) (s : Seen shape lines at hist run i (hist i) []) (c : Command) → s.done ≡ ran_of lines F i →
          is_plain c ≡ true →
          can_go_on (commands_of i lines) (hist i) c ≡ false → goes_on shape.eager lines F i c ≡ true → ⊥
      stops i s (command.Wait q) same plain stop goes =
          by_holder (holder s.done q) refl
        where
          by_request : (l : ℕ) (o : Option Request) → request_at (hist i) l ≡ o → is_some o ≡ true →
              option_map_or (is_complete (hist i)) o true ≡ false → is_ready_at shape.eager lines F i l ≡ true → ⊥
          by_request l None asked some stop ready = false≢true some
          by_request l (Some r) asked some stop ready = false≢true (sym stop ∙ complete i l r asked ready)

          by_holder : (o : Option ℕ) → holder s.done q ≡ o → ⊥
          by_holder None held =
              false≢true (sym stop ∙ ap (λ (o : Option ℕ). option_map_or (is_complete (hist i))
              (option_and_then (request_at (hist i)) o) true)
              (s.stood.named.line q ∙ held))
          by_holder (Some l) held =
              by_request l (request_at (hist i) l) refl (s.stood.named.made q l held)
              (sym (ap (λ (o : Option ℕ). option_map_or (is_complete (hist i)) (option_and_then (request_at (hist i)) o)
              true)
              (s.stood.named.line q ∙ held)) ∙ stop)
              (sym (ap (λ (o : Option ℕ). option_map_or (is_ready_at shape.eager lines F i) o true)
              (ap (λ (cs : List Numbered). holder cs q) (sym same) ∙ held)) ∙ goes)
      stops i s (command.Await from tag ctx) same plain stop goes = false≢true plain
      stops i s (command.Send to q tag ctx sync body) same plain stop goes = false≢true (sym stop)
      stops i s (command.Recv q from tags ctx cap) same plain stop goes = false≢true (sym stop)
      stops i s (command.Test q) same plain stop goes = false≢true plain
      stops i s (command.Probe from tag ctx) same plain stop goes = false≢true plain
      stops i s (command.Cancel q) same plain stop goes = false≢true plain
      stops i s (command.Mprobe m from tag ctx) same plain stop goes = false≢true plain
      stops i s (command.Mrecv q m cap) same plain stop goes = false≢true plain

      -- a rank that can run a command in the plain run ran it
      ran_it : (i : ℕ) → can_run shape.eager lines F i ≡ true → at_of F i < at i
      ran_it i can = by_test (ltb (at_of F i) (at i)) refl
        where
          high : (n m : ℕ) → ltb n m ≡ false → n ≤ m → n ≡ m
          high n m is low = grind (arith, nat_tests)

          by_next : at_of F i ≡ at i → (o : Option Numbered) → next_of lines F i ≡ o →
              option_map_or (λ c. goes_on shape.eager lines F i c.command) o false ≡ true → ⊥
          by_next same None next goes = false≢true goes
          by_next same (Some c) next goes =
              let s = seen shape lines at hist run i (hist i) [] (sym (append-nil (hist i))) in
              let here : slice_get (commands_of i lines) (at i) ≡ Some c =
              ap (λ (k : ℕ). slice_get (commands_of i lines) k) (sym same) ∙ next in
              stops i s c.command
              (sym (take-append_seam s.done s.more) ∙ ap (λ (cs : List Numbered). take (length s.done) cs) (sym s.split)
              ∙ ap (λ (n : ℕ). take n (commands_of i lines))
              (sym s.stood.counted ∙ answers_counted shape lines at hist run i ∙ sym same))
              (plain_at (commands_of i lines) (at i) c (run.plain i) here) (run.waits i c here) goes

          by_test : (b : Bool) → ltb (at_of F i) (at i) ≡ b → at_of F i < at i
          by_test true is = grind (arith, nat_tests)
          by_test false is = absurd (by_next (high (at_of F i) (at i) is (low i)) (next_of lines F i) refl can)

    one_step : (F : List ℕ) → ((j : ℕ) → at_of F j ≤ at j) → (i : ℕ) → can_run shape.eager lines F i ≡ true →
        (j : ℕ) → at_of (with_one_more F i) j ≤ at j
    one_step F low i can j = elim (more_at F i j) [
      | inl same ↦ subst (λ (m : ℕ). m ≤ at j) (sym same) (low j)
      | inr here ↦
          let far = ran_it F low i can in
          let there : at_of F i + 1 ≤ at i = omega (arith, far) in
          subst (λ (m : ℕ). m ≤ at j) (sym here.1) (subst (λ (k : ℕ). at_of F i + 1 ≤ at k) (sym here.0) there)
    ]

    -- the plain run gets no farther than the run
    pub floor : (more : ℕ) (F : List ℕ) → ((j : ℕ) → at_of F j ≤ at j) →
        (j : ℕ) → at_of (plain_after shape.eager lines more F) j ≤ at j
    unfolding plain_after
    floor zero F low = low
    floor (suc more) F low = by_next (next_rank shape.eager lines F) refl
        (λ i can. floor more (with_one_more F i) (one_step F low i can))
      where
        by_next : (o : Option ℕ) → next_rank shape.eager lines F ≡ o →
            ((i : ℕ) → can_run shape.eager lines F i ≡ true →
            (j : ℕ) → at_of (plain_after shape.eager lines more (with_one_more F i)) j ≤ at j) →
            (j : ℕ) → at_of (option_map_or (λ i. plain_after shape.eager lines more (with_one_more F i)) o F) j ≤ at j
        by_next None next later = low
        by_next (Some i) next later =
            later i (find_passes (can_run shape.eager lines F) (range_with_len 0 (length F)) i next)
