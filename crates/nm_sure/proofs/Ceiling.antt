-- No rank of a lawful run gets farther than an end of the plain run: by the stamps of the answers.
use Rattle.std.proofs.Common.{◌≡◌, ℕ, ◌+◌, ◌-◌, ◌<◌, ◌≤◌, ◌==◌, Bool, true, false, not, ◌&&◌, ◌||◌, ltb, zero}
use Rattle.std.proofs.Common.{suc, Option, Some}
use Rattle.std.proofs.Common.{None, List, [], ◌∷◌, ◌++◌, length, map, refl, sym, ◌∙◌, ap, subst, arith}
use Rattle.std.proofs.Common.{inl, inr, length-append}
use Rattle.std.proofs.lemmas.List.Elements.{filter_map-append}
use Rattle.std.specs.Prelude.{is_some, take}
use Rattle.std.specs.List.{cons_option, filter, position, slice_get}
use Rattle.std.specs.Option.{option_and_then, option_map_or}
use Rattle.std.proofs.lemmas.Bool.{false≢true}
use Rattle.std.proofs.lemmas.Bool.Decides.{nat_tests}
use Rattle.std.proofs.lemmas.List.{take-append-le}
use Rattle.std.proofs.Math.Seq.{take-append_seam}
use Rattle.nm_types.specs.declared.answers.Answer.{Answer}
use Rattle.nm_types.specs.declared.messages.Arrival.{Arrival}
use Rattle.nm_types.specs.declared.messages.Envelope.{Envelope}
use Rattle.nm_types.specs.declared.messages.Peer.TheVariants as peer
use Rattle.nm_types.specs.declared.messages.Post as post
use Rattle.nm_types.specs.declared.messages.TagPick.TheVariants as pick
use Rattle.nm_types.specs.declared.scripts.Body.{Body}
use Rattle.nm_types.specs.declared.scripts.Command.{Command}
use Rattle.nm_types.specs.declared.scripts.Command.TheVariants as command
use Rattle.nm_types.specs.declared.scripts.Line.{Line}
use Rattle.nm_types.specs.Bodies.{body_len}
use Rattle.nm_types.specs.Commands.{Numbered, command_at, commands_of}
use Rattle.nm_types.specs.Sizes.{Sizes}
use Rattle.nm_history.specs.declared.events.Event.{Event}
use Rattle.nm_history.specs.declared.events.Happened.{Happened}
use Rattle.nm_history.specs.declared.events.Happened.TheVariants as event
use Rattle.nm_history.specs.AtEach.{AtEach}
use Rattle.nm_types.specs.declared.answers.Answer.TheVariants as answer
use Rattle.nm_history.specs.Answers.{answer_of, live, request_at, without_bytes}
use Rattle.nm_history.specs.Completion.{Request, is_complete, result_of}
use Rattle.nm_history.specs.Completion.Request.{Sending, Receiving}
use Rattle.nm_history.specs.Delivery.{ArriveInOrder, earlier_than}
use Rattle.nm_history.specs.RankRun.{ran_of as ran_of_event}
use Rattle.nm_history.specs.RankRun.{AnswerAt, how_of, ran_lines, start_of}
use Rattle.nm_history.specs.Sends.{Arrived, Sent, arrivals, envelope, is_ask, sends}
use Rattle.nm_history.proofs.AtEachLemmas.{AtEach-split}
use Rattle.nm_sure.specs.Channels.{Channel, receive_for, receives_in, sends_in}
use Rattle.nm_sure.specs.Names.{holder}
use Rattle.nm_sure.specs.Plain.{at_of, can_run, goes_on, has_run, is_ready, is_ready_at, ran_of}
use Rattle.nm_sure.proofs.Coupled.{channel_posts, moved, taken_so}
use Rattle.nm_history.proofs.EarlierLemmas.{one_more}
use Rattle.nm_sure.proofs.Fitting.{Calls}
use Rattle.nm_sure.proofs.Flown.{arrive_front, as_many_before, goes_in, sent_at}
use Rattle.nm_sure.proofs.Fronts.{answered}
use Rattle.nm_sure.proofs.Named.{IsNamed}
use Rattle.nm_sure.proofs.Gathered.{post_line, posts_read, posts_told, receives_it}
use Rattle.nm_sure.proofs.Gathered.{send_line, sends_it}
use Rattle.nm_sure.proofs.Gathered.{sends_read, sends_told}
use Rattle.nm_sure.proofs.Lists.{kept_at, place_behind}
use Rattle.nm_sure.proofs.Made.{channel_sends, post_lines, post_made, posts_counted, send_lines, send_made}
use Rattle.nm_sure.proofs.Made.{sends_told_by_lines}
use Rattle.nm_sure.proofs.Reached.{receives_kept, sends_kept}
use Rattle.nm_sure.proofs.Worlds.{PlainRun, Seen, answers_counted, fits, fits_early}
use Rattle.nm_sure.proofs.Worlds.{plain_events, plain_lines, seen}
use Rattle.nm_types.proofs.ListLemmas.{get_some, get_map, place_below}
use Rattle.nm_types.proofs.OptionLemmas.{same_some}
use Rattle.nm_history.proofs.AppendLemmas.{arrivals-append, sends-append}
use Rattle.nm_sure.proofs.Called.{front_numbers, front_plain, is_posting, partner, result_complete, same_command}
use Rattle.nm_sure.proofs.Called.{sent_for}
use Rattle.nm_sure.proofs.Early.{Own, Under as Under_of, early as early_of, front, left, own_send, placed}
use Rattle.nm_sure.proofs.Early.{receive_ready, stopped}

module _ (shape : Sizes) (lines : List Line) (at : ℕ → ℕ) (hist : ℕ → List Event) (run : PlainRun shape lines at hist)
    (F : List ℕ) (ended : (i : ℕ) → can_run shape.eager lines F i ≡ false) where
  -- the history before a stamp, and that no rank has more answers in it than at the end of the plain run
  abbrev early : ℕ → ℕ → List Event
  early = early_of shape lines at hist run F ended

  abbrev Under : ℕ → Type 0
  Under = Under_of shape lines at hist run F ended

  -- the place of the send in its channel is that of the message
  send_ready : (T i l q to tag ctx : ℕ) (body : Body) (sync : Bool) (n : ℕ) → ((t : ℕ) → t ≤ T → Under t) →
      i < shape.ranks →
      to < shape.ranks → command_at (commands_of i lines) l ≡ Some (command.Send to q tag ctx sync body) →
      is_ask (how_of shape.eager sync (body_len body)) ≡ true → request_at (early T i) l ≡ Some (Sending to n) →
      is_complete (early T i) (Sending to n) ≡ true →
      has_run lines F to (receive_for lines (record { from = i; to = to; tag = tag; ctx = ctx }) l) ≡ true
  send_ready T i l q to tag ctx body sync n under inside within here ask asked complete =
      let k : Channel = record { from = i; to = to; tag = tag; ctx = ctx } in
      let own = own_send shape lines at hist run F ended T i l q to tag ctx body sync n here asked in
      let gone = left shape lines at hist run F ended T i l q to tag ctx body sync n inside within ask own complete in
      let b : List Event = early gone.stamp to in
      let split = front shape lines at hist run F ended gone.stamp to in
      let t = taken_so shape.ranks b (front_numbers shape.ranks (hist to) b split.0 split.1 (run.own to).numbers)
      (front_plain (hist to) b split.0 split.1 (plain_events shape lines at hist run to within)) i n gone.taken in
      let order = arrive_front i (sends (hist i) to) (arrivals b i) (arrivals split.0 i)
      (subst (λ (as' : List Arrived). ArriveInOrder i (sends (hist i) to) as')
      (ap (λ (h : List Event). arrivals h i) split.1 ∙ arrivals-append b split.0 i)
      (run.carried i to inside within).messages) in
      let sent = sent_at i (sends (hist i) to) (arrivals b i) n t.arrived order t.came in
      let one : sent.0 ≡ own.sent = same_some sent.0 own.sent (sym sent.1 ∙ own.whole) in
      let env : t.message.env ≡ envelope i own.sent =
      ap (λ (a : Arrival). a.env) (sym t.same) ∙ sent.2 ∙ ap (λ (s : Sent). envelope i s) one in
      let tags : t.message.env.tag ≡ tag = ap (λ (v : Envelope). v.tag) env ∙ sym own.tags.0 in
      let ctxs : t.message.env.ctx ≡ ctx = ap (λ (v : Envelope). v.ctx) env ∙ sym own.tags.1 in
      let x : ℕ = length (filter (goes_in tag ctx) (take n (sends (early T i) to))) in
      let whole = front shape lines at hist run F ended T i in
      let shorter : take n (sends (hist i) to) ≡ take n (sends (early T i) to) =
      ap (λ (ss : List Sent). take n ss) (ap (λ (h : List Event). sends h to) whole.1
      ∙ sends-append (early T i) whole.0 to)
      ∙ take-append-le n (sends (early T i) to) (sends whole.0 to)
      (let p = place_below (sends (early T i) to) n own.sent own.here in omega (arith, p)) in
      let spot : t.place ≡ x =
      t.counted ∙ as_many_before i t.message.env.tag t.message.env.ctx (sends (hist i) to) (arrivals b i) n order
      (let p = place_below (arrivals b i) n t.arrived t.came in omega (arith, p))
      ∙ count_alike t.message.env.tag tag t.message.env.ctx ctx (take n (sends (hist i) to)) tags ctxs
      ∙ ap (λ (ss : List Sent). length (filter (goes_in tag ctx) ss)) shorter in
      let posted = moved (channel_posts b) i i t.message.env.tag tag t.message.env.ctx ctx t.place x t.receive refl
      tags ctxs spot t.posted in
      let line = get_some (post_lines b i tag ctx) x
      (let p = place_below (channel_posts b i tag ctx) x t.receive posted in let c = posts_counted b i tag ctx in
      omega (arith, p, c)) in
      let received = placed shape lines at hist run F ended (post_line i tag ctx) (receives_it i tag ctx)
      (posts_read i tag ctx)
      (posts_told i tag ctx) gone.stamp to x line.0
      (under gone.stamp (let p = gone.low in omega (arith, p))) line.1 in
      let mine = placed shape lines at hist run F ended (send_line to tag ctx) (sends_it to tag ctx)
      (sends_read to tag ctx) (sends_told to tag ctx) T
      i x l
      (under T (omega arith)) (sent_line T i l q to tag ctx body sync n own) in
      let found : receive_for lines k l ≡ Some received.start =
      partner (receives_in lines k) (sends_in lines k) l x received.start
      (ap (λ (cs : List Numbered). position (λ c. c.line == l) cs) (sends_kept k (commands_of i lines) (run.plain i))
      ∙ mine.place)
      (ap (λ (cs : List Numbered). slice_get cs x) (receives_kept k (commands_of to lines) (run.plain to))
      ∙ received.here) in
      ap (λ (o : Option Numbered). has_run lines F to o) found ∙ received.ran
    where
      count_alike : (t u c d : ℕ) (ss : List Sent) → t ≡ u → c ≡ d → length (filter (goes_in t c) ss) ≡ length
          (filter (goes_in u d) ss)
      count_alike t u c d ss p q = rw (← p, ← q) refl

      sent_line : (T i l q to tag ctx : ℕ) (body : Body) (sync : Bool) (n : ℕ)
          (own : Own shape lines at hist run F ended T i l q to tag ctx body sync n) →
          slice_get (send_lines (early T i) to tag ctx)
          (length (filter (goes_in tag ctx) (take n (sends (early T i) to)))) ≡ Some l
      sent_line T i l q to tag ctx body sync n own =
          let x : ℕ = length (filter (goes_in tag ctx) (take n (sends (early T i) to))) in
          let passes : goes_in tag ctx own.sent ≡ true = rw (← own.tags.0, ← own.tags.1) (two ctx tag) in
          ap (λ (ls : List ℕ). slice_get ls x) (sym (sends_told_by_lines (early T i) to tag ctx))
          ∙ get_map (λ (s : Sent). s.line) (channel_sends (early T i) to tag ctx) x own.sent
          (kept_at (goes_in tag ctx) (sends (early T i) to) n own.sent own.here passes)
          ∙ ap (λ (l : ℕ). Some l) own.line
        where
          two : (a b : ℕ) → (a == a && b == b) ≡ true
          two a b = grind (arith, nat_tests)

  -- the request of a start is of its sort
  no_post : (i l q to tag ctx : ℕ) (body : Body) (sync : Bool) (T number : ℕ) →
      command_at (commands_of i lines) l ≡ Some (command.Send to q tag ctx sync body) →
      request_at (early T i) l ≡ Some (Receiving number) → ⊥
  no_post i l q to tag ctx body sync T number here asked =
      let made = post_made shape.eager (commands_of i lines) (early T i) l number
      (fits_early shape.eager (commands_of i lines) T (hist i) (fits shape lines at hist run i)) asked in
      not_both (commands_of i lines) made.receive made.fits
    where
      not_both : (commands : List Numbered) (p : post.Post)
          (calls : Calls shape.eager (commands_of i lines) l (event.Post (record p { number = 0 }) l)) → ⊥
      not_both commands p calls =
          let own = same_command (commands_of i lines) l calls.command (command.Send to q tag ctx sync body)
          calls.at_line here in
          false≢true (ap (λ (c : Command). is_posting (start_of shape.eager (commands_of i lines) [] l c)) (sym own)
          ∙ ap (λ (ws : List Happened). is_posting ws) calls.start)

  no_send : (i l q from tag ctx cap T to n : ℕ) →
      command_at (commands_of i lines) l ≡ Some (command.Recv q (peer.One from) (pick.One tag) ctx cap) →
      request_at (early T i) l ≡ Some (Sending to n) → ⊥
  no_send i l q from tag ctx cap T to n here asked =
      let made = send_made shape.eager (commands_of i lines) (early T i) l to n
      (fits_early shape.eager (commands_of i lines) T (hist i) (fits shape lines at hist run i)) asked in
      let own = same_command (commands_of i lines) l made.fits.command
      (command.Recv q (peer.One from) (pick.One tag) ctx cap) made.fits.at_line here in
      false≢true (sym (ap (λ (ws : List Happened). is_posting ws) made.fits.start)
      ∙ ap (λ (c : Command). is_posting (start_of shape.eager (commands_of i lines) [] l c)) own)

  -- a request that is complete is ready
  ready : (T i l : ℕ) (r : Request) (c : Command) → ((t : ℕ) → t ≤ T → Under t) → command_at (commands_of i lines) l
      ≡ Some c →
      request_at (early T i) l ≡ Some r → is_complete (early T i) r ≡ true → is_ready shape.eager lines F i l c ≡ true
  ready T i l (Sending to' n) (command.Send to q tag ctx sync body) under here asked complete =
      by_how (is_ask (how_of shape.eager sync (body_len body))) refl
    where
      to_same : to' ≡ to
      to_same =
          let made = send_made shape.eager (commands_of i lines) (early T i) l to' n
          (fits_early shape.eager (commands_of i lines) T (hist i) (fits shape lines at hist run i)) asked in
          sym (sent_for shape.eager (commands_of i lines) l q to tag ctx body sync to' n made.sent.tag made.sent.ctx
          made.sent.len
          made.sent.how made.fits here).0

      by_how : (b : Bool) → is_ask (how_of shape.eager sync (body_len body)) ≡ b →
          (not b || has_run lines F to (receive_for lines (record { from = i; to = to; tag = tag; ctx = ctx }) l))
          ≡ true
      by_how false ask = refl
      by_how true ask =
          let peers = run.peers i l (command.Send to q tag ctx sync body) here in
          send_ready T i l q to tag ctx body sync n under peers.0 peers.1 here ask
          (asked ∙ ap (λ (t : ℕ). Some (Sending t n)) to_same)
          (subst (λ (t : ℕ). is_complete (early T i) (Sending t n) ≡ true) to_same complete)
  ready T i l (Receiving number) (command.Send to q tag ctx sync body) under here asked complete =
      absurd (no_post i l q to tag ctx body sync T number here asked)
  ready T i l (Receiving number) (command.Recv q (peer.One from) (pick.One tag) ctx cap) under here asked complete =
      let peers = run.peers i l (command.Recv q (peer.One from) (pick.One tag) ctx cap) here in
      receive_ready shape lines at hist run F ended T i l q from tag ctx cap number (under T (omega arith)) peers.0
      peers.1 here asked complete
  ready T i l (Sending to n) (command.Recv q (peer.One from) (pick.One tag) ctx cap) under here asked complete =
      absurd (no_send i l q from tag ctx cap T to n here asked)
  ready T i l r (command.Recv q peer.Any tags ctx cap) under here asked complete =
      absurd (false≢true (plain_lines shape lines at hist run i l (command.Recv q peer.Any tags ctx cap) here))
  ready T i l r (command.Recv q (peer.One from) pick.Any ctx cap) under here asked complete =
      absurd (false≢true (plain_lines shape lines at hist run i l (command.Recv q (peer.One from) pick.Any ctx cap)
      here))
  ready T i l r c under here asked complete = refl

  ready_at : (T i l : ℕ) (r : Request) → ((t : ℕ) → t ≤ T → Under t) → request_at (early T i) l ≡ Some r →
      is_complete (early T i) r ≡ true → is_ready_at shape.eager lines F i l ≡ true
  ready_at T i l r under asked complete = by_command (command_at (commands_of i lines) l) refl
    where
      by_command : (o : Option Command) → command_at (commands_of i lines) l ≡ o →
          option_map_or (is_ready shape.eager lines F i l) o true ≡ true
      by_command None here = refl
      by_command (Some c) here = ready T i l r c under here asked complete

  -- a command that was answered before a stamp can go on
  went_on : (T i line : ℕ) (done : List Numbered) (c : Command) (a : Answer) → ((t : ℕ) → t ≤ T → Under t) →
      IsNamed (commands_of i lines) done (early T i) → done ≡ ran_of lines F i →
      answer_of (commands_of i lines) (early T i) line c ≡ Some (without_bytes a) →
      goes_on shape.eager lines F i c ≡ true
  went_on T i line done (command.Wait q) a under named same told =
      by_holder (holder done q) refl (ap (λ (cs : List Numbered). holder cs q) same) told
    where
      result : (l : ℕ) (o : Option Request) → request_at (early T i) l ≡ o → is_some o ≡ true →
          option_map_or (result_of (early T i)) o (Some answer.Null) ≡ Some (without_bytes a) →
          is_ready_at shape.eager lines F i l ≡ true
      result l None asked some told = absurd (false≢true some)
      result l (Some r) asked some told =
          ready_at T i l r under asked (result_complete (early T i) r (without_bytes a) told)

      by_holder : (o : Option ℕ) → holder done q ≡ o → holder done q ≡ holder (ran_of lines F i) q →
          option_map_or (result_of (early T i)) (live (commands_of i lines) (early T i) q) (Some answer.Null) ≡ Some
          (without_bytes a) →
          option_map_or (is_ready_at shape.eager lines F i) (holder (ran_of lines F i) q) true ≡ true
      by_holder None held there told =
          ap (λ (o : Option ℕ). option_map_or (is_ready_at shape.eager lines F i) o true) (sym there ∙ held)
      by_holder (Some l) held there told =
          ap (λ (o : Option ℕ). option_map_or (is_ready_at shape.eager lines F i) o true) (sym there ∙ held)
          ∙ result l (request_at (early T i) l) refl (named.made q l held)
          (sym (ap (λ (o : Option ℕ). option_map_or (result_of (early T i))
          (option_and_then (request_at (early T i)) o) (Some answer.Null))
          (named.line q ∙ held)) ∙ told)
  went_on T i line done c a under named same told = refl

  -- the next answer after a stamp is within the end
  next_answer : (T i : ℕ) (e : Event) (rest : List Event) (line : ℕ) (a : Answer) → ((t : ℕ) → t ≤ T → Under t) →
      e.what ≡ event.Ran line a → hist i ≡ early T i ++ e ∷ rest → length (ran_lines (early T i)) < at_of F i
  next_answer T i e rest line a under what split =
      let b : List Event = early T i in
      let commands : List Numbered = commands_of i lines in
      let s = seen shape lines at hist run i b (e ∷ rest) split in
      by_test (ltb (length (ran_lines b)) (at_of F i)) refl s
    where
      at_end : (s : Seen shape lines at hist run i (early T i) (e ∷ rest)) →
          length (ran_lines (early T i)) ≡ at_of F i →
          (c : Numbered) (more : List Numbered) → s.more ≡ c ∷ more → line ≡ c.line → ⊥
      at_end s same c more next here =
          let commands : List Numbered = commands_of i lines in
          let count : length s.done ≡ at_of F i = sym s.stood.counted ∙ same in
          let done : s.done ≡ ran_of lines F i =
          sym (take-append_seam s.done s.more) ∙ ap (λ (cs : List Numbered). take (length s.done) cs) (sym s.split)
          ∙ ap (λ (k : ℕ). take k commands) count in
          let place : slice_get commands (length s.done + 0) ≡ Some c =
          ap (λ (cs : List Numbered). slice_get cs (length s.done + 0))
          (s.split ∙ ap (λ (cs : List Numbered). s.done ++ cs) next)
          ∙ place_behind s.done (c ∷ more) 0 in
          let stop = stopped shape lines at hist run F ended i c
          (ap (λ (k : ℕ). slice_get commands k) (sym count ∙ zero_add (length s.done)) ∙ place)
          in
          let answer = AtEach-split (λ b e. AnswerAt commands b e.what) (early T i) e rest
          (subst (λ (h : List Event). AtEach (λ b e. AnswerAt commands b e.what) h) split (run.own i).answers.right) in
          let right = answered commands (early T i) line a c.command
          (subst (λ (w : Happened). AnswerAt commands (early T i) w) what answer)
          (ap (λ (l : ℕ). command_at commands l) here ∙ run.stand i (length s.done + 0) c place) in
          false≢true (sym stop ∙ went_on T i line s.done c.command a under s.stood.named done right)
        where
          zero_add : (n : ℕ) → n ≡ n + 0
          zero_add n = omega arith

      next_command : (s : Seen shape lines at hist run i (early T i) (e ∷ rest)) →
          length (ran_lines (early T i)) ≡ at_of F i →
          (more : List Numbered) → s.more ≡ more →
          (ls : List ℕ) → line ∷ ls ≡ map (λ c. c.line) (take (suc (length ls)) more) → ⊥
      next_command s same [] next ls told = cc
      next_command s same (c ∷ more) next ls told = at_end s same c more next (cc)

      by_test : (b : Bool) → ltb (length (ran_lines (early T i))) (at_of F i) ≡ b → Seen shape lines at hist run i
          (early T i) (e ∷ rest) →
          length (ran_lines (early T i)) < at_of F i
      by_test true is s = grind (arith, nat_tests)
      by_test false is s =
          let low = under T (omega arith) i in
          let high : at_of F i ≤ length (ran_lines (early T i)) = grind (arith, nat_tests) in
          let same : length (ran_lines (early T i)) ≡ at_of F i = omega (arith, low, high) in
          absurd (next_command s same s.more refl (ran_lines rest)
          (subst (λ (w : Happened). cons_option (ran_of_event w) (ran_lines rest)
          ≡ map (λ c. c.line) (take (length (cons_option (ran_of_event w) (ran_lines rest))) s.more)) what s.told))

  one_stamp : (T : ℕ) → ((t : ℕ) → t ≤ T → Under t) → Under (T + 1)
  one_stamp T under j = elim (one_more T (hist j) (run.own j).stamps) [
    | inl same ↦ subst (λ (h : List Event). length (ran_lines h) ≤ at_of F j) (sym same) (under T (omega arith) j)
    | inr more ↦ at_event more.0 more.1 more.2 more.3 more.0.what refl
  ]
    where
      counted : (e : Event) (o : Option ℕ) → ran_of_event e.what ≡ o →
          length (ran_lines (early T j ++ e ∷ [])) ≡ length (ran_lines (early T j)) + length (cons_option o [])
      counted e o what =
          ap (λ (ls : List ℕ). length ls) (filter_map-append (λ (e : Event). ran_of_event e.what) (early T j) (e ∷ [])
          ∙ ap (λ (o : Option ℕ). ran_lines (early T j) ++ cons_option o []) what)
          ∙ length-append (ran_lines (early T j)) (cons_option o [])

      kept : (n m k : ℕ) → m ≡ n + 0 → n ≤ k → m ≤ k
      kept n m k same low = omega (arith, same, low)

      at_event : (e : Event) (rest : List Event) → hist j ≡ early T j ++ e ∷ rest →
          early (T + 1) j ≡ early T j ++ e ∷ [] →
          (what : Happened) → e.what ≡ what → length (ran_lines (early (T + 1) j)) ≤ at_of F j
      at_event e rest split same (event.Ran line a) what =
          let low = next_answer T j e rest line a under what split in
          let count = ap (λ (h : List Event). length (ran_lines h)) same
          ∙ counted e (Some line) (ap (λ (w : Happened). ran_of_event w) what) in
          omega (arith, low, count)
      at_event e rest split same w what =
          kept (length (ran_lines (early T j))) (length (ran_lines (early (T + 1) j))) (at_of F j)
          (ap (λ (h : List Event). length (ran_lines h)) same
          ∙ counted e None (ap (λ (w : Happened). ran_of_event w) what))
          (under T (omega arith) j)

  nothing_early : (h : List Event) → earlier_than 0 h ≡ []
  nothing_early [] = refl
  nothing_early (e ∷ h) = rw (none e.stamp) (nothing_early h)
    where
      none : (m : ℕ) → ltb m 0 ≡ false
      none m = grind (arith, nat_tests)

  all_under : (T t : ℕ) → t ≤ T → Under t
  all_under zero t low j =
      let same : t ≡ 0 = omega (arith, low) in
      subst (λ (t : ℕ). length (ran_lines (early t j)) ≤ at_of F j) (sym same)
      (subst (λ (h : List Event). length (ran_lines h) ≤ at_of F j) (sym (nothing_early (hist j))) (omega arith))
  all_under (suc T) t low j = by_test (ltb t (suc T)) refl (all_under T)
    where
      here : (n m : ℕ) → ltb n (suc m) ≡ false → n ≤ suc m → n ≡ m + 1
      here n m is low = grind (arith, nat_tests)

      before : (n m : ℕ) → ltb n (suc m) ≡ true → n ≤ m
      before n m is = grind (arith, nat_tests)

      by_test : (b : Bool) → ltb t (suc T) ≡ b → ((t : ℕ) → t ≤ T → Under t) →
          length (ran_lines (early t j)) ≤ at_of F j
      by_test true is under = under t (before t T is) j
      by_test false is under =
          subst (λ (t : ℕ). length (ran_lines (early t j)) ≤ at_of F j) (sym (here t T is low)) (one_stamp T under j)

  -- past all of its stamps a history is seen whole
  bound : List Event → ℕ
  bound [] = 0
  bound (e ∷ h) = e.stamp + 1 + bound h

  seen_whole : (h : List Event) (k : ℕ) → bound h ≤ k → earlier_than k h ≡ h
  unfolding bound
  seen_whole [] k low = refl
  seen_whole (e ∷ h) k low = rw (earlier e.stamp (bound h) k low)
      (ap (λ (es : List Event). e ∷ es) (seen_whole h k (later e.stamp (bound h) k low)))
    where
      earlier : (m n k : ℕ) → m + 1 + n ≤ k → ltb m k ≡ true
      earlier m n k low = grind (arith, nat_tests)

      later : (m n k : ℕ) → m + 1 + n ≤ k → n ≤ k
      later m n k low = omega (arith, low)

  -- no rank gets farther
  pub ceiling : (i : ℕ) → at i ≤ at_of F i
  ceiling i =
      let whole = seen_whole (hist i) (bound (hist i)) (omega arith) in
      let low = all_under (bound (hist i)) (bound (hist i)) (omega arith) i in
      let count = ap (λ (h : List Event). length (ran_lines h)) whole ∙ answers_counted shape lines at hist run i in
      omega (arith, low, count)
