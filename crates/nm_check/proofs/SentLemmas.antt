-- A message's send, by the first place of its number; and arrivals in order, one after another.
use Rattle.std.proofs.Common.{not, ◌≡◌, ℕ, ◌+◌, ◌<◌, ◌==◌, ◌&&◌, ◌||◌, Bool, true, false, cond, Option, Some, None, List}
use Rattle.std.proofs.Common.{[], ◌∷◌, ◌++◌, length, take, drop, get_or, refl, sym, ◌∙◌, ap, subst, arith}
use Rattle.std.proofs.Common.{append_assoc, append-nil}
use Rattle.std.specs.Prelude.{IsSomeAnd, filter_map, nat_lt, position}
use Rattle.std.specs.List.{cons_option, filter, list_any, slice_get}
use Rattle.std.specs.Bool.{OnTrue}
use Rattle.std.proofs.lemmas.Bool.{false≢true, ltb-false, ltb-true}
use Rattle.std.proofs.lemmas.List.Elements.{filter_map-append, filter-append}
use Rattle.std.proofs.lemmas.List.Quantifiers.{position-Some}
use Rattle.std.proofs.lemmas.Option.{get_or_from_slice_get, slice_get_within}
use Rattle.nm_types.specs.declared.messages.Envelope.{Envelope}
use Rattle.nm_types.specs.declared.messages.How.{How}
use Rattle.nm_history.specs.declared.events.Event.{Event}
use Rattle.nm_history.specs.declared.events.Happened.{Happened}
use Rattle.nm_history.specs.declared.events.Happened.TheVariants.{Arrive, Send}
use Rattle.nm_history.specs.AtEach.{AtEach, AtEachAfter}
use Rattle.nm_history.specs.Delivery.{ArriveInOrder}
use Rattle.nm_history.specs.Growing.{ArrivesNext}
use Rattle.nm_history.specs.Happens.{is_send}
use Rattle.nm_history.specs.RankRun.{Always, NumberAt}
use Rattle.nm_history.specs.Sends.{Arrived, Sent, arrivals, arrived_of, envelope, sends, sent_of}
use Rattle.nm_lookups.specs.Deciding.{Decides}
use Rattle.nm_history.proofs.AtEachLemmas.{AtEach-split}
use Rattle.nm_history.proofs.OnceLemmas.{arrivals-push}
use Rattle.nm_history.proofs.Sent.{any_at, sends_numbered}
use Rattle.nm_types.proofs.NumberLemmas.{differ, same_number}
use Rattle.nm_types.proofs.TruthLemmas.{and_left, and_right}
use Rattle.nm_types.proofs.ListLemmas.{split_at, get_behind as behind}

module _ (ranks j n : ℕ) where
  -- the numbers of the sends, by the events
  sent_any : (h : List Event) →
      list_any (λ (s : Sent). s.n == n && true) (sends h j) ≡ list_any (λ (e : Event). is_send j n e.what) h
  sent_any [] = refl
  sent_any (e ∷ h) = by_what e.what (sent_any h)
    where
      by_number : (b : Bool) (x y : Bool) → x ≡ y → ((b && true) || x) ≡ (b || y)
      by_number true x y same = refl
      by_number false x y same = same

      by_rank : (b : Bool) (s : Sent) →
          list_any (λ (s : Sent). s.n == n && true) (sends h j) ≡ list_any (λ (e : Event). is_send j n e.what) h →
          list_any (λ (s : Sent). s.n == n && true) (cond b (s ∷ sends h j) (sends h j))
          ≡ ((b && s.n == n) || list_any (λ (e : Event). is_send j n e.what) h)
      by_rank true s same = by_number (s.n == n) _ _ same
      by_rank false s same = same

      by_what : (w : Happened) →
          list_any (λ (s : Sent). s.n == n && true) (sends h j) ≡ list_any (λ (e : Event). is_send j n e.what) h →
          list_any (λ (s : Sent). s.n == n && true) (filter (λ s. s.to == j)
          (cons_option (sent_of e.stamp w) (filter_map (λ (e : Event). sent_of e.stamp e.what) h)))
          ≡ (is_send j n w || list_any (λ (e : Event). is_send j n e.what) h)
      by_what (Send to m tag ctx len how line) same =
          by_rank (to == j)
          (record { stamp = e.stamp; to = to; n = m; tag = tag; ctx = ctx; len = len; how = how; line = line }) same
      by_what w same = same

  -- a message whose number no send has was not sent
  pub never_sent : (h : List Event) → Always (NumberAt ranks) h → list_any (λ e. is_send j n e.what) h ≡ false →
      slice_get (sends h j) n ≡ None
  never_sent h each none = by_send (slice_get (sends h j) n) refl
    where
      by_send : (o : Option Sent) → slice_get (sends h j) n ≡ o → o ≡ None
      by_send None is = refl
      by_send (Some s) is = absurd (false≢true (sym none ∙ sym (sent_any h)
          ∙ any_at (λ (s : Sent). s.n) (λ s. true) 0 n n (sends h j) s (omega arith) (sends_numbered ranks j h each)
          is))

  sent_at : (before after : List Event) (stamp : ℕ) (what : Happened) → NumberAt ranks before what →
      is_send j n what ≡ true →
      slice_get (sends (before ++ record { stamp = stamp; what = what } ∷ after) j) n ≡ sent_of stamp what
  sent_at before after stamp (Send to m tag ctx len how line) number passes =
      let to_j : to ≡ j = same_number to j (and_left (to == j) (m == n) passes) in
      let its : m ≡ n = same_number m n (and_right (to == j) (m == n) passes) in
      let s : Sent = record { stamp = stamp; to = to; n = m; tag = tag; ctx = ctx; len = len; how = how; line = line }
      in
      let own : length (sends before j) ≡ n = ap (λ (k : ℕ). length (sends before k)) (sym to_j) ∙ sym number ∙ its in
      let parts : sends (before ++ record { stamp = stamp; what = Send to m tag ctx len how line } ∷ after) j
      ≡ sends before j ++ s ∷ sends after j =
      sends-both before (record { stamp = stamp; what = Send to m tag ctx len how line } ∷ after) j
      ∙ ap (λ (b : Bool). sends before j ++ cond b (s ∷ sends after j) (sends after j))
      (and_left (to == j) (m == n) passes) in
      subst (λ (k : ℕ). slice_get
      (sends (before ++ record { stamp = stamp; what = Send to m tag ctx len how line } ∷ after) j) k ≡ Some s) own
      (ap (λ (ss : List Sent). slice_get ss (length (sends before j))) parts ∙ behind (sends before j)
      (sends after j) s)
    where
      sends-both : (a b : List Event) (k : ℕ) → sends (a ++ b) k ≡ sends a k ++ sends b k
      sends-both a b k =
          ap (λ (xs : List Sent). filter (λ s. s.to == k) xs)
          (filter_map-append (λ (e : Event). sent_of e.stamp e.what) a b)
          ∙ filter-append (λ (s : Sent). s.to == k) (filter_map (λ (e : Event). sent_of e.stamp e.what) a)
          (filter_map (λ (e : Event). sent_of e.stamp e.what) b)
  sent_at before after stamp what number passes = cc

  -- the first send with its number is that of the message
  pub sent_there : (h : List Event) (t : ℕ) (e : Event) → Always (NumberAt ranks) h →
      position (λ e. is_send j n e.what) h ≡ Some t →
      slice_get h t ≡ Some e → slice_get (sends h j) n ≡ sent_of e.stamp e.what
  sent_there h t e each first here =
      let inside : t < length h = slice_get_within h t e here in
      let is : e ≡ get_or h t e = sym (get_or_from_slice_get h t e e here) in
      let split : h ≡ take t h ++ e ∷ drop (t + 1) h = split_at h t e inside is in
      let passes : is_send j n (get_or h t e).what ≡ true =
      (position-Some (λ (e : Event). is_send j n e.what) h t e first).1 in
      let here_passes : is_send j n e.what ≡ true = subst (λ (x : Event). is_send j n x.what ≡ true) (sym is) passes in
      let number : NumberAt ranks (take t h) e.what = AtEach-split (λ b e. NumberAt ranks b e.what) (take t h) e
      (drop (t + 1) h)
      (subst (λ (g : List Event). Always (NumberAt ranks) g) split each) in
      ap (λ (g : List Event). slice_get (sends g j) n) split ∙ sent_at (take t h) (drop (t + 1) h) e.stamp e.what
      number here_passes

module _ (i j : ℕ) (hi : List Event) where
  next_arrival : (ss : List Sent) (as' : List Arrived) (a : Arrived) → ArriveInOrder i ss as' →
      IsSomeAnd (slice_get ss (length as')) (λ s. (a.arrival.env ≡ envelope i s) × (s.stamp < a.stamp)) →
      ArriveInOrder i ss (as' ++ a ∷ [])
  next_arrival [] [] a right next = absurd next
  next_arrival (s ∷ ss) [] a right next = (next.0, next.1, tt)
  next_arrival [] (b ∷ as') a right next = absurd right
  next_arrival (s ∷ ss) (b ∷ as') a right next = (right.0, right.1, next_arrival ss as' a right.2 next)

  last_arrival : (ss : List Sent) (as' : List Arrived) (a : Arrived) → ArriveInOrder i ss (as' ++ a ∷ []) →
      IsSomeAnd (slice_get ss (length as')) (λ s. (a.arrival.env ≡ envelope i s) × (s.stamp < a.stamp))
  last_arrival [] [] a right = absurd right
  last_arrival (s ∷ ss) [] a right = (right.0, right.1)
  last_arrival [] (b ∷ as') a right = absurd right
  last_arrival (s ∷ ss) (b ∷ as') a right = last_arrival ss as' a right.2

  fewer_arrivals : (ss : List Sent) (as' more : List Arrived) → ArriveInOrder i ss (as' ++ more) →
      ArriveInOrder i ss as'
  fewer_arrivals ss [] more right = tt
  fewer_arrivals [] (a ∷ as') more right = absurd right
  fewer_arrivals (s ∷ ss) (a ∷ as') more right = (right.0, right.1, fewer_arrivals ss as' more right.2)

  more_arrive : (before : List Event) (stamp : ℕ) (what : Happened) → ArriveInOrder i (sends hi j)
      (arrivals before i) → ArrivesNext i j hi before stamp what →
      ArriveInOrder i (sends hi j) (arrivals before i ++ filter (λ a. a.arrival.env.from == i)
      (cons_option (arrived_of stamp what) []))
  more_arrive before stamp (Arrive a) right next = by_source (a.env.from == i) next
    where
      by_source : (b : Bool) →
          OnTrue b (IsSomeAnd (slice_get (sends hi j) (length (arrivals before i)))
          (λ s. (a.env ≡ envelope i s) × (s.stamp < stamp))) →
          ArriveInOrder i (sends hi j) (arrivals before i ++ cond b (record { stamp = stamp; arrival = a } ∷ []) [])
      by_source true next = next_arrival (sends hi j) (arrivals before i) (record { stamp = stamp; arrival = a })
          right next
      by_source false next = rw append-nil right
  more_arrive before stamp what right next = rw append-nil right

  last_arrives : (before : List Event) (stamp : ℕ) (what : Happened) →
      ArriveInOrder i (sends hi j) (arrivals before i ++ filter (λ a. a.arrival.env.from == i)
      (cons_option (arrived_of stamp what) [])) →
      ArrivesNext i j hi before stamp what
  last_arrives before stamp (Arrive a) right = by_source (a.env.from == i) right
    where
      by_source : (b : Bool) → ArriveInOrder i (sends hi j)
          (arrivals before i ++ cond b (record { stamp = stamp; arrival = a } ∷ []) []) →
          OnTrue b (IsSomeAnd (slice_get (sends hi j) (length (arrivals before i)))
          (λ s. (a.env ≡ envelope i s) × (s.stamp < stamp)))
      by_source true right = last_arrival (sends hi j) (arrivals before i) (record { stamp = stamp; arrival = a }) right
      by_source false right = tt
  last_arrives before stamp what right = tt

  arrive_after : (before events : List Event) → ArriveInOrder i (sends hi j) (arrivals before i) →
      AtEachAfter (λ before e. ArrivesNext i j hi before e.stamp e.what) before events → ArriveInOrder i (sends hi j)
      (arrivals (before ++ events) i)
  arrive_after before [] right each = rw append-nil right
  arrive_after before (e ∷ events) right each =
      subst (λ (g : List Event). ArriveInOrder i (sends hi j) (arrivals g i)) (append_assoc before (e ∷ []) events)
      (arrive_after (before ++ e ∷ []) events
      (subst (λ (as' : List Arrived). ArriveInOrder i (sends hi j) as') (sym (arrivals-push before e i))
      (more_arrive before e.stamp e.what right each.0)) each.1)

  each_arrives : (before events : List Event) → ArriveInOrder i (sends hi j) (arrivals (before ++ events) i) →
      AtEachAfter (λ before e. ArrivesNext i j hi before e.stamp e.what) before events
  each_arrives before [] right = tt
  each_arrives before (e ∷ events) right =
      let all : ArriveInOrder i (sends hi j) (arrivals ((before ++ e ∷ []) ++ events) i) =
      subst (λ (g : List Event). ArriveInOrder i (sends hi j) (arrivals g i))
      (sym (append_assoc before (e ∷ []) events)) right in
      let front : ArriveInOrder i (sends hi j) (arrivals (before ++ e ∷ []) i) =
      fewer_arrivals (sends hi j) (arrivals (before ++ e ∷ []) i) (arrivals events i)
      (subst (λ (as' : List Arrived). ArriveInOrder i (sends hi j) as') (arrivals-both (before ++ e ∷ []) events) all)
      in (
        last_arrives before e.stamp e.what (subst (λ (as' : List Arrived). ArriveInOrder i (sends hi j) as')
            (arrivals-push before e i) front),
        each_arrives (before ++ e ∷ []) events all,
      )
    where
      arrivals-both : (a b : List Event) → arrivals (a ++ b) i ≡ arrivals a i ++ arrivals b i
      arrivals-both a b =
          ap (λ (xs : List Arrived). filter (λ a. a.arrival.env.from == i) xs)
          (filter_map-append (λ (e : Event). arrived_of e.stamp e.what) a b)
          ∙ filter-append (λ (a : Arrived). a.arrival.env.from == i)
          (filter_map (λ (e : Event). arrived_of e.stamp e.what) a)
          (filter_map (λ (e : Event). arrived_of e.stamp e.what) b)

  -- the arrivals are the first of the sends in order exactly where each is the next one
  pub in_order : (hj : List Event) → AtEach (λ before e. ArrivesNext i j hi before e.stamp e.what) hj →
      ArriveInOrder i (sends hi j) (arrivals hj i)
  unfolding AtEach
  in_order hj each = arrive_after [] hj tt each

  pub each_next : (hj : List Event) → ArriveInOrder i (sends hi j) (arrivals hj i) →
      AtEach (λ before e. ArrivesNext i j hi before e.stamp e.what) hj
  unfolding AtEach
  each_next hj right = each_arrives [] hj right

-- an envelope is that of a send with a smaller stamp
pub sent_as : (env : Envelope) (tag ctx len : ℕ) (how : How) (s stamp : ℕ) (same_how r : Bool) →
    Decides same_how (env.how ≡ how) →
    r ≡ (env.tag == tag && env.ctx == ctx && env.len == len && same_how && nat_lt s stamp) →
    Decides r ((env ≡ record { from = env.from; tag = tag; ctx = ctx; len = len; how = how }) × (s < stamp))
sent_as env tag ctx len how s stamp same_how r right is =
    subst (λ (b : Bool). Decides b ((env ≡ record { from = env.from; tag = tag; ctx = ctx; len = len; how = how })
    × (s < stamp))) (sym is)
    (by_parts (env.tag == tag) (env.ctx == ctx) (env.len == len) same_how (nat_lt s stamp) refl refl refl right refl)
  where
    by_parts : (a b c d e : Bool) → (env.tag == tag) ≡ a → (env.ctx == ctx) ≡ b →
        (env.len == len) ≡ c → Decides d (env.how ≡ how) → nat_lt s stamp ≡ e →
        Decides (a && b && c && d && e)
        ((env ≡ record { from = env.from; tag = tag; ctx = ctx; len = len; how = how }) × (s < stamp))
    by_parts true true true true true a b c d e =
        let tags : env.tag ≡ tag = same_number env.tag tag a in
        let ctxs : env.ctx ≡ ctx = same_number env.ctx ctx b in
        let lens : env.len ≡ len = same_number env.len len c in
        (λ i. record { from = env.from; tag = tags i; ctx = ctxs i; len = lens i; how = d i }, ltb-true s stamp e)
    by_parts false x y z w a b c d e = λ right. differ env.tag tag a (sym (ap (λ (v : Envelope). v.tag) right.0))
    by_parts true false y z w a b c d e = λ right. differ env.ctx ctx b (sym (ap (λ (v : Envelope). v.ctx) right.0))
    by_parts true true false z w a b c d e = λ right. differ env.len len c (sym (ap (λ (v : Envelope). v.len) right.0))
    by_parts true true true false w a b c d e = λ right. d (ap (λ (v : Envelope). v.how) right.0)
    by_parts true true true true false a b c d e = λ right.
        let high = ltb-false s stamp e in
        let low = right.1 in
        omega (arith, high, low)

-- an event that is no send is none of an envelope
pub no_send_of : (stamp : ℕ) (what : Happened) (P : Sent → Type 0) →
    ((to n tag ctx len : ℕ) (how : How) (line : ℕ) → what ≡ Send to n tag ctx len how line → ⊥) →
    IsSomeAnd (sent_of stamp what) P → ⊥
no_send_of stamp (Send to n tag ctx len how line) P not sent = not to n tag ctx len how line refl
no_send_of stamp what P not sent = sent
