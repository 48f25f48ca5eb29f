-- What a result of a receive shows: the body of the send at its place in the channel.
use Rattle.std.proofs.Common.{◌≡◌, ℕ, ◌<◌, ◌==◌, Bool, true, false, cond, Option, Some, None, List, ◌∷◌, ◌++◌}
use Rattle.std.proofs.Common.{length, refl, sym, ◌∙◌, ap, subst, arith, ◌⊎◌, inl, inr}
use Rattle.std.specs.Prelude.{IsSomeAnd, nat_lt, option_map, replicate, take}
use Rattle.std.specs.List.{filter, slice_get}
use Rattle.std.specs.Option.{option_and_then}
use Rattle.std.proofs.lemmas.Bool.{false≢true}
use Rattle.std.proofs.lemmas.Bool.Decides.{nat_tests}
use Rattle.nm_types.specs.declared.answers.Answer.{Answer}
use Rattle.nm_types.specs.declared.answers.Answer.TheVariants as answer
use Rattle.nm_types.specs.declared.messages.Arrival.{Arrival}
use Rattle.nm_types.specs.declared.messages.Envelope.{Envelope}
use Rattle.nm_types.specs.declared.messages.Peer.TheVariants as peer
use Rattle.nm_types.specs.declared.messages.Post as post
use Rattle.nm_types.specs.declared.messages.TagPick.TheVariants as pick
use Rattle.nm_types.specs.declared.scripts.Command.{Command}
use Rattle.nm_types.specs.declared.scripts.Command.TheVariants as command
use Rattle.nm_types.specs.Commands.{Numbered, command_at}
use Rattle.nm_types.specs.Sizes.{Sizes}
use Rattle.nm_history.specs.declared.events.Event.{Event}
use Rattle.nm_history.specs.declared.events.Happened.{Happened}
use Rattle.nm_history.specs.declared.events.Happened.TheVariants as event
use Rattle.nm_history.specs.declared.plain.Pair.{Pair}
use Rattle.nm_history.specs.AtEach.{AtEach}
use Rattle.nm_history.specs.Answers.{request_at, without_bytes}
use Rattle.nm_history.specs.Completion.{is_here, pair_of_receive, result_of, shown}
use Rattle.nm_history.specs.Completion.Request.{Receiving}
use Rattle.nm_history.specs.Delivery.{ArriveInOrder, BodyAt, ShowsBytes, asked_pair}
use Rattle.nm_history.specs.Happens.{happened, is_cancel}
use Rattle.nm_history.specs.Matching.{pair_of}
use Rattle.nm_history.specs.Sends.{Arrived, Sent, arrivals, envelope, messages, sends, sent_bytes}
use Rattle.nm_history.proofs.AtEachLemmas.{AtEach-split}
use Rattle.nm_history.proofs.OnceLemmas.{eqb_self}
use Rattle.nm_match.specs.InTurn.{is_in}
use Rattle.nm_sure.proofs.Called.{called_for, front_numbers, front_plain}
use Rattle.nm_sure.proofs.Coupled.{channel_messages, channel_of, pair_of_place, place_of_message}
use Rattle.nm_sure.proofs.Fitting.{EachFits}
use Rattle.nm_sure.proofs.Flown.{arrive_front, as_many_before, goes_in, sent_at}
use Rattle.nm_sure.proofs.Lists.{kept_at, kept_from, of_some_and}
use Rattle.nm_sure.proofs.Made.{channel_sends, post_lines, post_made, send_lines, sends_told_by_lines}
use Rattle.nm_sure.proofs.Shown.{length_sent, sent_fits}
use Rattle.nm_sure.proofs.Worlds.{no_cancel, on_true}
use Rattle.nm_persist.proofs.Quiet.{NamedRun, fits, plain_events}
use Rattle.nm_types.proofs.ListLemmas.{get_map, all_split, place_below}
use Rattle.nm_types.proofs.OptionLemmas.{if_some, no_some, same_some}
use Rattle.nm_types.specs.Bodies.{HaveTheirLength}
use Rattle.nm_sure.proofs.Shown.{got_case, cut_case}
use Rattle.nm_history.proofs.AppendLemmas.{arrivals-append}

-- a result has these bytes, or says that they were cut off
abbrev pub Shows : ℕ → ℕ → List ℕ → Answer → Type 0
Shows from tag bytes a = (a ≡ answer.Got from tag bytes) ⊎ (a ≡ answer.Cut from tag (length bytes))

answer_shown : (from tag : ℕ) (body : List ℕ) (b : Bool) (a : Answer) →
    cond b (answer.Cut from tag (length body)) (answer.Got from tag (replicate (length body) 0)) ≡ without_bytes a →
    ((source t : ℕ) (bytes : List ℕ) → a ≡ answer.Got source t bytes → bytes ≡ body) → Shows from tag body a
answer_shown from tag body true a same shows = inr (cut_case from tag (length body) a same)
answer_shown from tag body false a same shows = inl (got_case from tag body a same shows)

shown_so : (from tag : ℕ) (p : post.Post) (m : Arrival) (bytes : List ℕ) (a : Answer) → m.env.from ≡ from →
    m.env.tag ≡ tag →
    m.env.len ≡ length bytes → shown (pair_of p m) ≡ without_bytes a →
    ((source t : ℕ) (shows : List ℕ) → a ≡ answer.Got source t shows → shows ≡ bytes) → Shows from tag bytes a
shown_so from tag p m bytes a froms tags len same shows =
    answer_shown from tag bytes (nat_lt p.cap (length bytes)) a
    (moved_shown p.cap m.env.from from m.env.tag tag m.env.len (length bytes) froms tags len ∙ same) shows
  where
    moved_shown : (c f g t u m n : ℕ) → f ≡ g → t ≡ u → m ≡ n →
        cond (nat_lt c n) (answer.Cut g u n) (answer.Got g u (replicate n 0)) ≡ cond (nat_lt c m) (answer.Cut f t m)
        (answer.Got f t (replicate m 0))
    moved_shown c f g t u m n q r s = rw (← q, ← r, ← s) refl

-- what a receive shows of its message
receive_result : (b : List Event) (p : post.Post) (m : Option Arrival) (o : Option Pair) (x : Answer) →
    o ≡ option_map (pair_of p) m →
    option_and_then (λ pair. cond (is_here b pair) (Some (shown pair)) None) o ≡ Some x →
    (a : Arrival) × (m ≡ Some a) × (shown (pair_of p a) ≡ x)
receive_result b p None o x same result =
    absurd (no_some x (sym
    (ap (λ (o : Option Pair). option_and_then (λ pair. cond (is_here b pair) (Some (shown pair)) None) o) same)
    ∙ result))
receive_result b p (Some a) o x same result = (
  a,
  refl,
  by_here (is_here b (pair_of p a))
      (sym (ap (λ (o : Option Pair). option_and_then (λ pair. cond (is_here b pair) (Some (shown pair)) None) o) same)
      ∙ result),
)
  where
    by_here : (c : Bool) → cond c (Some (shown (pair_of p a))) None ≡ Some x → shown (pair_of p a) ≡ x
    by_here true same = same_some (shown (pair_of p a)) x same
    by_here false same = absurd (no_some x same)

not_cancelled : (c : Bool) (x o : Option Answer) (a : Answer) → c ≡ false → cond c x o ≡ Some a → o ≡ Some a
not_cancelled true x o a is result = absurd (false≢true (sym is))
not_cancelled false x o a is result = result

module _ (shape : Sizes) (cs : ℕ → List Numbered) (at : ℕ → ℕ) (hist : ℕ → List Event) (run : NamedRun shape cs at hist)
    (lengths : HaveTheirLength) where
  -- a result shows what the x-th send of a channel of rank i to rank j sends
  pub record Takes (i j tag ctx x : ℕ) (a : Answer) : Type 0 where
    pub sent : Sent
    pub line : slice_get (send_lines (hist i) j tag ctx) x ≡ Some sent.line
    pub command : Command
    pub at_line : command_at (cs i) sent.line ≡ Some command
    pub shows : Shows i tag (sent_bytes command) a

  -- the send of a message, at its place in the channel
  record Origin (i j tag ctx x n : ℕ) (env : Envelope) : Type 0 where
    sent : Sent
    here : slice_get (sends (hist i) j) n ≡ Some sent
    same : env ≡ envelope i sent
    line : slice_get (send_lines (hist i) j tag ctx) x ≡ Some sent.line

  origin_of : (j i tag ctx x : ℕ) (b rest : List Event) (a : Arrival) → j < shape.ranks → i < shape.ranks →
      hist j ≡ b ++ rest → slice_get (channel_messages b i tag ctx) x ≡ Some a → Origin i j tag ctx x a.n a.env
  origin_of j i tag ctx x b rest a inside within split came =
      let numbers = front_numbers shape.ranks (hist j) b rest split (run.own j inside).numbers in
      let plain = front_plain (hist j) b rest split (plain_events shape cs at hist run j inside) in
      let its = place_of_message shape.ranks b numbers plain i tag ctx x a came in
      let order = arrive_front i (sends (hist i) j) (arrivals b i) (arrivals rest i)
      (subst (λ (as' : List Arrived). ArriveInOrder i (sends (hist i) j) as')
      (ap (λ (h : List Event). arrivals h i) split ∙ arrivals-append b rest i)
      (run.carried i j within inside).messages) in
      let send = sent_at i (sends (hist i) j) (arrivals b i) a.n its.0 order its.1 in
      let env : a.env ≡ envelope i send.0 = ap (λ (c : Arrival). c.env) (sym its.2) ∙ send.2 in
      let spot : x ≡ length (filter (goes_in tag ctx) (take a.n (sends (hist i) j))) =
      its.3 ∙ as_many_before i tag ctx (sends (hist i) j) (arrivals b i) a.n order
      (let p = place_below (arrivals b i) a.n its.0 its.1 in omega (arith, p)) in
      let passes = in_channel i tag ctx send.0 (sym (ap (λ (v : Envelope). is_in i tag ctx v) env)
      ∙ (kept_from (λ (a : Arrival). is_in i tag ctx a.env) (messages b) x a came).2) in
      record {
        sent = send.0;
        here = send.1;
        same = env;
        line = ap (λ (ls : List ℕ). slice_get ls x) (sym (sends_told_by_lines (hist i) j tag ctx))
            ∙ get_map (λ (s : Sent). s.line) (channel_sends (hist i) j tag ctx) x send.0
            (ap (λ (m : ℕ). slice_get (channel_sends (hist i) j tag ctx) m) spot ∙ kept_at (goes_in tag ctx)
            (sends (hist i) j) a.n send.0 send.1 passes);
      }
    where
      in_channel : (i tag ctx : ℕ) (s : Sent) → is_in i tag ctx (envelope i s) ≡ true → goes_in tag ctx s ≡ true
      in_channel i tag ctx s is = grind (arith, nat_tests)

  -- the bytes that are shown are those of the send
  bytes_shown : (j i : ℕ) (b : List Event) (e : Event) (rest : List Event) (line source t : ℕ) (bytes : List ℕ)
      (p : post.Post)
      (m : Arrival) (sent : Sent) (c : Command) → j < shape.ranks → i < shape.ranks → hist j ≡ b ++ e ∷ rest →
      e.what ≡ event.Ran line (answer.Got source t bytes) →
      option_and_then (asked_pair (cs j) b) (command_at (cs j) line) ≡ Some (pair_of p m) → m.env.from ≡ i →
      slice_get (sends (hist i) j) m.n ≡ Some sent → command_at (cs i) sent.line ≡ Some c → bytes ≡ sent_bytes c
  bytes_shown j i b e rest line source t bytes p m sent c inside within split what asked is sends_here at_line =
      let body = AtEach-split (λ b e. BodyAt i (cs i) (sends (hist i) j) (cs j) b e.what) b e rest
      (subst (λ (h : List Event). AtEach (λ b e. BodyAt i (cs i) (sends (hist i) j) (cs j) b e.what) h) split
      (run.carried i j within inside).bodies) in
      let shows = subst (λ (w : Happened). BodyAt i (cs i) (sends (hist i) j) (cs j) b w) what body in
      of_some_and (λ (c : Command). bytes ≡ sent_bytes c) (command_at (cs i) sent.line) c at_line
      (of_some_and (λ (s : Sent). IsSomeAnd (command_at (cs i) s.line) (λ c. bytes ≡ sent_bytes c))
      (slice_get (sends (hist i) j) m.n) sent sends_here
      (on_true (m.env.from == i) (IsSomeAnd (slice_get (sends (hist i) j) m.n)
      (λ s. IsSomeAnd (command_at (cs i) s.line) (λ c. bytes ≡ sent_bytes c))) (ap (λ (f : ℕ). f == i) is ∙ eqb_self i)
      (if_some (ShowsBytes i (cs i) (sends (hist i) j) bytes)
      (option_and_then (asked_pair (cs j) b) (command_at (cs j) line))
      (pair_of p m) asked shows)))

  -- what a wait or a test with a result shows: its receive stands at a place of its channel, and the
  -- send at this place is shown
  pub taken_from : (j : ℕ) (b : List Event) (e : Event) (rest : List Event) (line l number : ℕ) (a : Answer)
      (q i tag ctx cap : ℕ) →
      j < shape.ranks → hist j ≡ b ++ e ∷ rest → e.what ≡ event.Ran line a →
      option_and_then (asked_pair (cs j) b) (command_at (cs j) line) ≡ pair_of_receive b number →
      request_at b l ≡ Some (Receiving number) →
      command_at (cs j) l ≡ Some (command.Recv q (peer.One i) (pick.One tag) ctx cap) →
      result_of b (Receiving number) ≡ Some (without_bytes a) →
      (x : ℕ) × (slice_get (post_lines b i tag ctx) x ≡ Some l) × Takes i j tag ctx x a
  taken_from j b e rest line l number a q i tag ctx cap inside split what asked made here result =
      let within = run.peers j l (command.Recv q (peer.One i) (pick.One tag) ctx cap) here in
      let fit : EachFits shape.eager (cs j) b =
      (all_split _ b (e ∷ rest) (subst (λ (h : List Event). EachFits shape.eager (cs j) h) split
      (fits shape cs at hist run j inside))).0 in
      let numbers = front_numbers shape.ranks (hist j) b (e ∷ rest) split (run.own j inside).numbers in
      let plain = front_plain (hist j) b (e ∷ rest) split (plain_events shape cs at hist run j inside) in
      let posted = post_made shape.eager (cs j) b l number fit made in
      let spot = posted.place i tag ctx
      (called_for shape.eager (cs j) l q i tag ctx cap posted.receive posted.fits here) in
      let pair = ap (λ (n : ℕ). pair_of_receive b n) (sym posted.numbered)
      ∙ pair_of_place shape.ranks b numbers plain i tag ctx spot.0 posted.receive spot.1 in
      let message = receive_result b posted.receive (slice_get (channel_messages b i tag ctx) spot.0)
      (pair_of_receive b number)
      (without_bytes a) pair
      (not_cancelled (happened (is_cancel number) b) _ _ (without_bytes a) (no_cancel shape.eager (cs j) b number fit)
      result) in
      let m : Arrival = message.0 in
      let other = origin_of j i tag ctx spot.0 b (e ∷ rest) m inside within split message.1 in
      let channel = channel_of i tag ctx m.env
      (kept_from (λ (a : Arrival). is_in i tag ctx a.env) (messages b) spot.0 m message.1).2 in
      let calls = sent_fits shape.eager (cs i) (hist i) j m.n other.sent (fits shape cs at hist run i within)
      other.here in
      let len : m.env.len ≡ length (sent_bytes calls.command) =
      ap (λ (v : Envelope). v.len) other.same ∙ sym (length_sent lengths shape.eager (cs i) other.sent calls) in (
        spot.0,
        spot.2,
        record {
          sent = other.sent;
          line = other.line;
          command = calls.command;
          at_line = calls.at_line;
          shows = shown_so i tag posted.receive m (sent_bytes calls.command) a (sym channel.0)
              (sym channel.1) len message.2
              (λ source t bytes is. bytes_shown j i b e rest line source t bytes posted.receive m other.sent
              calls.command
              inside within split (what ∙ ap (λ (a : Answer). event.Ran line a) is)
              (asked ∙ pair ∙ ap (λ (o : Option Arrival). option_map (pair_of posted.receive) o) message.1)
              (sym channel.0) other.here calls.at_line);
        },
      )
