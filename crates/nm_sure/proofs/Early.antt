-- What holds before a stamp where no rank has got farther until then than an end of the plain run: where a
-- start stands, that the send of a complete receive has run, and that what has left by asking was taken.
use Rattle.std.proofs.Common.{◌≡◌, ℕ, ◌+◌, ◌-◌, ◌<◌, ◌≤◌, ◌==◌, Bool, true, false, ◌&&◌}
use Rattle.std.proofs.Common.{Option, Some}
use Rattle.std.proofs.Common.{List, ◌∷◌, ◌++◌, length, map, refl, sym, ◌∙◌, ap, subst, arith, append_assoc}
use Rattle.std.specs.Prelude.{IsTrue, drop, is_some, take}
use Rattle.std.specs.List.{filter, filter_map, list_any, position, slice_get}
use Rattle.std.specs.Option.{option_map_or}
use Rattle.std.proofs.lemmas.Bool.{false≢true}
use Rattle.std.proofs.lemmas.List.{length-map, take-append-drop}
use Rattle.nm_types.specs.declared.messages.Arrival.{Arrival}
use Rattle.nm_types.specs.declared.messages.Peer.TheVariants as peer
use Rattle.nm_types.specs.declared.messages.TagPick.TheVariants as pick
use Rattle.nm_types.specs.declared.scripts.Body.{Body}
use Rattle.nm_types.specs.declared.scripts.Command.{Command}
use Rattle.nm_types.specs.declared.scripts.Command.TheVariants as command
use Rattle.nm_types.specs.declared.scripts.Line.{Line}
use Rattle.nm_types.specs.Bodies.{body_len}
use Rattle.nm_types.specs.Commands.{Numbered, command_at, commands_of}
use Rattle.nm_types.specs.Sizes.{Sizes}
use Rattle.nm_history.specs.declared.events.Event.{Event}
use Rattle.nm_history.specs.declared.events.Happened.{Happened}
use Rattle.nm_history.specs.declared.events.Happened.TheVariants as event
use Rattle.nm_history.specs.AtEach.{AtEach}
use Rattle.nm_history.specs.Answers.{request_at}
use Rattle.nm_history.specs.Completion.{is_complete, is_here, pair_of_receive}
use Rattle.nm_history.specs.Completion.Request.{Sending, Receiving}
use Rattle.std.specs.Bool.{OnTrue}
use Rattle.nm_history.specs.Completion.{is_taken}
use Rattle.nm_history.specs.Delivery.{ArriveInOrder, OutAfterPair, earlier_than, is_asked}
use Rattle.nm_history.specs.Happens.{happened, is_cancel, is_out, is_recall, is_send}
use Rattle.nm_history.specs.RankRun.{EndAt, how_of, ran_lines}
use Rattle.nm_history.specs.Sends.{Arrived, Sent, arrivals, is_ask, sends}
use Rattle.nm_history.proofs.AtEachLemmas.{AtEach-split}
use Rattle.nm_history.proofs.OnceLemmas.{eqb_self}
use Rattle.nm_sure.specs.Channels.{Channel, receives_in, send_for, sends_in}
use Rattle.nm_sure.specs.Names.{started, started_name}
use Rattle.nm_sure.specs.Plain.{at_of, can_run, goes_on, has_run, next_of, ran_of}
use Rattle.nm_sure.proofs.Carried.{came_in, few_came, sent_in}
use Rattle.nm_sure.proofs.Coupled.{channel_messages, messages_arrived, pair_of_place}
use Rattle.nm_history.proofs.EarlierLemmas.{earlier_is_front}
use Rattle.nm_sure.proofs.Fitting.{EachFits}
use Rattle.nm_sure.proofs.Flown.{arrivals_lower, arrive_front, sends_early}
use Rattle.nm_sure.proofs.Gathered.{ReadsCommands, ReadsStarts, post_line, posts_read, posts_told, receives_it}
use Rattle.nm_sure.proofs.Gathered.{send_line, sends_it}
use Rattle.nm_sure.proofs.Gathered.{sends_read, sends_told}
use Rattle.nm_sure.proofs.Lists.{at_any, place_behind}
use Rattle.nm_sure.proofs.Made.{channel_sends, post_made, send_lines, send_made}
use Rattle.nm_sure.proofs.Made.{sends_told_by_lines}
use Rattle.nm_sure.proofs.Numbering.{sends_numbered}
use Rattle.nm_sure.proofs.Reached.{reached, receives_kept, sends_kept}
use Rattle.nm_sure.proofs.Rising.{commands_rise, front_run, position_at}
use Rattle.nm_sure.proofs.Worlds.{PlainRun, fits, fits_early, no_cancel, no_recall, on_true}
use Rattle.nm_sure.proofs.Worlds.{plain_events, seen}
use Rattle.nm_types.proofs.ListLemmas.{get_some, get_before, get_from_map, place_below}
use Rattle.nm_types.proofs.NumberLemmas.{same_number}
use Rattle.nm_types.proofs.OptionLemmas.{same_some}
use Rattle.nm_types.proofs.TruthLemmas.{and_left, and_right}
use Rattle.nm_history.proofs.AppendLemmas.{arrivals-append, sends-append}
use Rattle.nm_sure.proofs.Called.{called_for, early_all, front_numbers, front_plain, has_message, partner}
use Rattle.nm_sure.proofs.Called.{received_complete, send_in, sent_complete, sent_for, split_any}

module _ (shape : Sizes) (lines : List Line) (at : ℕ → ℕ) (hist : ℕ → List Event) (run : PlainRun shape lines at hist)
    (F : List ℕ) (ended : (i : ℕ) → can_run shape.eager lines F i ≡ false) where
  abbrev pub early : ℕ → ℕ → List Event
  early T j = earlier_than T (hist j)

  -- no rank has more answers before a stamp
  abbrev pub Under : ℕ → Type 0
  Under T = (j : ℕ) → length (ran_lines (early T j)) ≤ at_of F j

  pub front : (T j : ℕ) → (rest : List Event) × (hist j ≡ early T j ++ rest)
  front T j = let split = earlier_is_front T (hist j) (run.own j).stamps in (split.0, split.1)

  pub stopped : (j : ℕ) (c : Numbered) → next_of lines F j ≡ Some c → goes_on shape.eager lines F j c.command ≡ false
  stopped j c here = sym
      (ap (λ (o : Option Numbered). option_map_or (λ c. goes_on shape.eager lines F j c.command) o false) here)
      ∙ ended j

  waits_there : (j : ℕ) (c : Command) → goes_on shape.eager lines F j c ≡ false → is_some (started_name c) ≡ false
  waits_there j (command.Wait q) stop = refl
  waits_there j (command.Test q) stop = refl
  waits_there j (command.Probe from tag ctx) stop = refl
  waits_there j (command.Await from tag ctx) stop = refl
  waits_there j (command.Cancel q) stop = refl
  waits_there j (command.Mprobe m from tag ctx) stop = refl
  waits_there j (command.Mrecv q m cap) stop = refl
  waits_there j c stop = absurd (false≢true (sym stop))

  -- where a line of a start stands
  pub record Placed (g : Command → Bool) (j x l : ℕ) : Type 0 where
    pub start : Numbered
    pub line : start.line ≡ l
    pub here : slice_get (filter (λ c. g c.command) (started (commands_of j lines))) x ≡ Some start
    pub ran : list_any (λ c. c.line == start.line) (ran_of lines F j) ≡ true
    pub place : position (λ c. c.line == l) (filter (λ c. g c.command) (started (commands_of j lines))) ≡ Some x

  pub placed : (f : Happened → Option ℕ) (g : Command → Bool) → ReadsStarts f → ReadsCommands f g →
      (T j x l : ℕ) → Under T →
      slice_get (filter_map (λ e. f e.what) (early T j)) x ≡ Some l → Placed g j x l
  placed f g reads tells T j x l under here =
      let commands : List Numbered = commands_of j lines in
      let b : List Event = early T j in
      let split = front T j in
      let s = seen shape lines at hist run j b split.0 split.1 in
      let low : length s.done ≤ at_of F j = (let u = under j in let c = s.stood.counted in omega (arith, u, c)) in
      let m : ℕ = at_of F j - length s.done in
      let whole : length s.done + m ≡ at_of F j = omega (arith, low) in
      let stop : (c : Numbered) → m ≡ 0 → slice_get s.more 0 ≡ Some c → is_some (started_name c.command) ≡ false =
      λ c none next. waits_there j c.command (stopped j c
      (ap (λ (k : ℕ). slice_get commands k) (sym whole ∙ ap (λ (k : ℕ). length s.done + k) none)
      ∙ ap (λ (cs : List Numbered). slice_get cs (length s.done + 0)) s.split ∙ place_behind s.done s.more 0 ∙ next)) in
      let all = reached f g reads tells shape.eager commands (run.plain j) b s.done s.more m s.split s.stood s.under
      stop in
      let at' : slice_get (map (λ (c : Numbered). c.line)
      (filter (λ c. g c.command) (started (take (length s.done + m) commands)))) x ≡ Some l =
      ap (λ (ls : List ℕ). slice_get ls x) all.1 ∙ get_before (filter_map (λ e. f e.what) b) all.0 x l here in
      let start = get_from_map (λ (c : Numbered). c.line)
      (filter (λ c. g c.command) (started (take (length s.done + m) commands))) x l at' in
      let mine : slice_get (filter (λ c. g c.command) (started (take (at_of F j) commands))) x ≡ Some start.0 =
      ap (λ (k : ℕ). slice_get (filter (λ c. g c.command) (started (take k commands))) x) (sym whole) ∙ start.1 in
      let both = front_run (λ c. g c.command) (take (at_of F j) commands) (drop (at_of F j) commands) x start.0 mine in
      let own : slice_get (filter (λ c. g c.command) (started commands)) x ≡ Some start.0 =
      ap (λ (cs : List Numbered). slice_get (filter (λ c. g c.command) (started cs)) x)
      (sym (take-append-drop (at_of F j) commands)) ∙ both.0 in
      record {
        start = start.0;
        line = start.2;
        here = own;
        ran = both.1;
        place = ap (λ (l : ℕ). position (λ c. c.line == l) (filter (λ c. g c.command) (started commands))) (sym start.2)
            ∙ position_at (λ c. g c.command) commands x start.0 (commands_rise j lines) own;
      }

  -- a receive that is complete has a message, and so its send has run
  pub receive_ready : (T i l q from tag ctx cap number : ℕ) → Under T → i < shape.ranks → from < shape.ranks →
      command_at (commands_of i lines) l ≡ Some (command.Recv q (peer.One from) (pick.One tag) ctx cap) →
      request_at (early T i) l ≡ Some (Receiving number) → is_complete (early T i) (Receiving number) ≡ true →
      has_run lines F from (send_for lines (record { from = from; to = i; tag = tag; ctx = ctx }) l) ≡ true
  receive_ready T i l q from tag ctx cap number under inside within here asked complete =
      let commands : List Numbered = commands_of i lines in
      let b : List Event = early T i in
      let k : Channel = record { from = from; to = i; tag = tag; ctx = ctx } in
      let split = front T i in
      let fit : EachFits shape.eager commands b = fits_early shape.eager commands T (hist i)
      (fits shape lines at hist run i) in
      let made = post_made shape.eager commands b l number fit asked in
      let is = called_for shape.eager commands l q from tag ctx cap made.receive made.fits here in
      let spot = made.place from tag ctx is in
      let numbers = front_numbers shape.ranks (hist i) b split.0 split.1 (run.own i).numbers in
      let plain = front_plain (hist i) b split.0 split.1 (plain_events shape lines at hist run i inside) in
      let pair = pair_of_place shape.ranks b numbers plain from tag ctx spot.0 made.receive spot.1 in
      let message = has_message b made.receive (pair_of_receive b made.receive.number)
      (slice_get (channel_messages b from tag ctx) spot.0) pair
      (subst (λ (n : ℕ). option_map_or (is_here b) (pair_of_receive b n) false ≡ true) (sym made.numbered)
      (received_complete (happened (is_cancel number) b) (option_map_or (is_here b) (pair_of_receive b number) false)
      (no_cancel shape.eager commands b number fit) complete)) in
      let few = few_came from tag ctx T (sends (hist from) i) (arrivals b from)
      (arrive_front from (sends (hist from) i) (arrivals b from) (arrivals split.0 from)
      (subst (λ (as' : List Arrived). ArriveInOrder from (sends (hist from) i) as')
      (ap (λ (h : List Event). arrivals h from) split.1 ∙ arrivals-append b split.0 from)
      (run.carried from i within inside).messages))
      (arrivals_lower T (hist i) from) in
      let came : length (channel_messages b from tag ctx) ≡ length (filter (came_in from tag ctx) (arrivals b from)) =
      ap (λ (ms : List Arrival). length ms) (sym (messages_arrived b from tag ctx))
      ∙ length-map (filter (came_in from tag ctx) (arrivals b from)) (λ (a : Arrived). a.arrival) in
      let gone : length (filter (sent_in tag ctx T) (sends (hist from) i)) ≡ length
      (send_lines (early T from) i tag ctx) =
      ap (λ (ss : List Sent). length ss) (sends_early T (hist from) i tag ctx)
      ∙ sym (length-map (channel_sends (early T from) i tag ctx) (λ (s : Sent). s.line))
      ∙ ap (λ (ls : List ℕ). length ls) (sends_told_by_lines (early T from) i tag ctx) in
      let low : spot.0 < length (send_lines (early T from) i tag ctx) =
      (let p = place_below (channel_messages b from tag ctx) spot.0 message.0 message.1 in
      omega (arith, p, few, came, gone)) in
      let line = get_some (send_lines (early T from) i tag ctx) spot.0 low in
      let sent = placed (send_line i tag ctx) (sends_it i tag ctx) (sends_read i tag ctx) (sends_told i tag ctx) T
      from spot.0 line.0 under line.1 in
      let own = placed (post_line from tag ctx) (receives_it from tag ctx) (posts_read from tag ctx)
      (posts_told from tag ctx) T i spot.0 l under spot.2 in
      let found : send_for lines k l ≡ Some sent.start =
      partner (sends_in lines k) (receives_in lines k) l spot.0 sent.start
      (ap (λ (cs : List Numbered). position (λ c. c.line == l) cs) (receives_kept k commands (run.plain i)) ∙ own.place)
      (ap (λ (cs : List Numbered). slice_get cs spot.0) (sends_kept k (commands_of from lines) (run.plain from))
      ∙ sent.here) in
      ap (λ (o : Option Numbered). has_run lines F from o) found ∙ sent.ran

  -- an event that a message has left
  left_so : (T i to n : ℕ) (what : Happened) (c : List Event) (stamp : ℕ) → is_out to n what ≡ true →
      OutAfterPair i to (hist to) c stamp what → EndAt c what →
      (OnTrue (to == to && is_asked (sends c to) n) (IsTrue (is_taken (earlier_than stamp (hist to)) i n)))
      × (happened (is_send to n) c ≡ true)
  left_so T i to n (event.Out to' n') c stamp is after ends =
      let first : to' ≡ to = same_number to' to (and_left (to' == to) (n' == n) is) in
      let second : n' ≡ n = same_number n' n (and_right (to' == to) (n' == n) is) in (
        subst (λ (m : ℕ). OnTrue (to == to && is_asked (sends c to) m)
            (IsTrue (is_taken (earlier_than stamp (hist to)) i m))) second
            (left_from to' to n' first after),
        subst (λ (m : ℕ). happened (is_send to m) c ≡ true) second
            (subst (λ (t : ℕ). happened (is_send t n') c ≡ true) first ends.1),
      )
    where
      left_from : (to' to n' : ℕ) → to' ≡ to →
          OnTrue (to' == to && is_asked (sends c to) n') (IsTrue (is_taken (earlier_than stamp (hist to)) i n')) →
          OnTrue (to == to && is_asked (sends c to) n') (IsTrue (is_taken (earlier_than stamp (hist to)) i n'))
      left_from to' to n' same after =
          subst (λ (t : ℕ). OnTrue (t == to && is_asked (sends c to) n')
          (IsTrue (is_taken (earlier_than stamp (hist to)) i n'))) same after
  left_so T i to n what c stamp is after ends = absurd (false≢true is)

  -- the send of a line, at its number among those of its rank
  pub record Own (T i l q to tag ctx : ℕ) (body : Body) (sync : Bool) (n : ℕ) : Type 0 where
    pub sent : Sent
    pub line : sent.line ≡ l
    pub here : slice_get (sends (early T i) to) n ≡ Some sent
    pub whole : slice_get (sends (hist i) to) n ≡ Some sent
    pub tags : (tag ≡ sent.tag) × (ctx ≡ sent.ctx)
    pub asks : is_ask (how_of shape.eager sync (body_len body)) ≡ is_ask sent.how

  pub own_send : (T i l q to tag ctx : ℕ) (body : Body) (sync : Bool) (n : ℕ) →
      command_at (commands_of i lines) l ≡ Some (command.Send to q tag ctx sync body) →
      request_at (early T i) l ≡ Some (Sending to n) → Own T i l q to tag ctx body sync n
  own_send T i l q to tag ctx body sync n here asked =
      let commands : List Numbered = commands_of i lines in
      let split = front T i in
      let made = send_made shape.eager commands (early T i) l to n
      (fits_early shape.eager commands T (hist i) (fits shape lines at hist run i)) asked in
      let whole : slice_get (sends (hist i) to) made.place ≡ Some made.sent =
      ap (λ (ss : List Sent). slice_get ss made.place) (ap (λ (h : List Event). sends h to) split.1
      ∙ sends-append (early T i) split.0 to)
      ∙ get_before (sends (early T i) to) (sends split.0 to) made.place made.sent made.here in
      let place : made.place ≡ n =
      sym (sends_numbered shape.ranks (hist i) to (run.own i).numbers made.place made.sent whole) ∙ made.numbered in
      let goes = sent_for shape.eager commands l q to tag ctx body sync to n made.sent.tag made.sent.ctx made.sent.len
      made.sent.how
      made.fits here in
      record {
        sent = made.sent;
        line = made.line;
        here = ap (λ (k : ℕ). slice_get (sends (early T i) to) k) (sym place) ∙ made.here;
        whole = ap (λ (k : ℕ). slice_get (sends (hist i) to) k) (sym place) ∙ whole;
        tags = (goes.1, goes.2);
        asks = goes.3;
      }

  -- a message that was sent by asking and has left was taken before
  pub record Left (T i to n : ℕ) : Type 0 where
    pub stamp : ℕ
    pub low : stamp < T
    pub taken : is_taken (early stamp to) i n ≡ true

  pub left : (T i l q to tag ctx : ℕ) (body : Body) (sync : Bool) (n : ℕ) → i < shape.ranks → to < shape.ranks →
      is_ask (how_of shape.eager sync (body_len body)) ≡ true → Own T i l q to tag ctx body sync n →
      is_complete (early T i) (Sending to n) ≡ true → Left T i to n
  left T i l q to tag ctx body sync n inside within ask own complete =
      let commands : List Numbered = commands_of i lines in
      let b : List Event = early T i in
      let fit = fits_early shape.eager commands T (hist i) (fits shape lines at hist run i) in
      let out = split_any (λ (e : Event). is_out to n e.what) b
      (sent_complete (happened (is_recall to n) b) _ (happened (is_out to n) b)
      (no_recall shape.eager commands b to n fit) complete) in
      let c : List Event = out.0 in
      let e : Event = out.1 in
      let behind = front T i in
      let split : hist i ≡ c ++ e ∷ (out.2 ++ behind.0) =
      behind.1 ∙ ap (λ (h : List Event). h ++ behind.0) out.3 ∙ append_assoc c (e ∷ out.2) behind.0 in
      let so = left_so T i to n e.what c e.stamp out.4
      (AtEach-split (λ before e. OutAfterPair i to (hist to) before e.stamp e.what) c e (out.2 ++ behind.0)
      (subst (λ (h : List Event). AtEach (λ before e. OutAfterPair i to (hist to) before e.stamp e.what) h) split
      (run.carried i to inside within).outs))
      (AtEach-split (λ before e. EndAt before e.what) c e (out.2 ++ behind.0)
      (subst (λ (h : List Event). AtEach (λ before e. EndAt before e.what) h) split (run.own i).ends)) in
      let sent = send_in c to n so.1 in
      let whole : slice_get (sends (hist i) to) sent.0 ≡ Some sent.1 =
      ap (λ (ss : List Sent). slice_get ss sent.0) (ap (λ (h : List Event). sends h to) split
      ∙ sends-append c (e ∷ (out.2 ++ behind.0)) to)
      ∙ get_before (sends c to) (sends (e ∷ (out.2 ++ behind.0)) to) sent.0 sent.1 sent.2 in
      let place : sent.0 ≡ n =
      sym (sends_numbered shape.ranks (hist i) to (run.own i).numbers sent.0 sent.1 whole) ∙ sent.3 in
      let one : sent.1 ≡ own.sent =
      same_some sent.1 own.sent (sym whole ∙ ap (λ (k : ℕ). slice_get (sends (hist i) to) k) place ∙ own.whole) in
      let asked : is_asked (sends c to) n ≡ true =
      at_any (λ s. s.n == n && is_ask s.how) (sends c to) sent.0 sent.1 sent.2
      (both (sent.1.n == n) (is_ask sent.1.how) (ap (λ (m : ℕ). m == n) sent.3 ∙ eqb_self n)
      (ap (λ (s : Sent). is_ask s.how) one ∙ sym own.asks ∙ ask)) in
      record {
        stamp = e.stamp;
        low = early_all T (hist i) c e out.2 out.3;
        taken = on_true (to == to && is_asked (sends c to) n) (IsTrue (is_taken (early e.stamp to) i n))
            (both (to == to) (is_asked (sends c to) n) (eqb_self to) asked) so.0;
      }
    where
      both : (x y : Bool) → x ≡ true → y ≡ true → (x && y) ≡ true
      both x y p q = rw (p, q) refl
