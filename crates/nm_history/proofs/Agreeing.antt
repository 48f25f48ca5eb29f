-- What is known agrees with the history, one packet or one event after another.
use Rattle.std.proofs.Common.{◌≡◌, ◌≢◌, ℕ, ◌+◌, ◌==◌, Bool, true, false, ◌&&◌, ◌||◌, cond, List, [], ◌∷◌, ◌++◌}
use Rattle.std.proofs.Common.{length, refl, sym, ◌∙◌, ap, subst, length-append, arith}
use Rattle.std.specs.List.{AllByRecursion, filter, filter_map, cons_option, list_any}
use Rattle.std.proofs.lemmas.Bool.Decides.{nat_tests}
use Rattle.std.proofs.lemmas.List.Elements.{filter_map-append, filter-append}
use Rattle.std.proofs.lemmas.List.Folds.{list_any-append}
use Rattle.nm_types.specs.declared.messages.Arrival.{Arrival}
use Rattle.nm_types.specs.declared.packets.What.{What}
use Rattle.nm_types.specs.declared.packets.What.TheVariants as what
use Rattle.nm_history.specs.declared.events.Event.{Event}
use Rattle.nm_history.specs.declared.events.Happened.{Happened}
use Rattle.nm_history.specs.declared.events.Happened.TheVariants.{Arrive, Out, Withdraw, Undone}
use Rattle.nm_history.specs.Sends.{Arrived, arrivals, arrived_of}
use Rattle.nm_history.specs.Happens.{happened, is_withdraw, is_undone, is_same}
use Rattle.nm_history.specs.Matching.{matched_pairs, is_free_message}
use Rattle.std.proofs.Common.{Option, Some, None}
use Rattle.nm_types.specs.declared.packets.Piece.{Piece}
use Rattle.nm_history.specs.Pieces.{Due, is_due, piece_makes}
use Rattle.nm_history.proofs.Basic.{happened_in, or_false, self_true}
use Rattle.nm_history.specs.Agreement.{Agrees, tells}
use Rattle.nm_history.specs.Continues.{has}
use Rattle.nm_history.specs.Effects.{happenings, is_empty_send, packet_events, taken_events, whole_if}
use Rattle.nm_history.specs.Known.{Known, Taken, known_after, learned, nothing_known}
use Rattle.nm_types.proofs.TruthLemmas.{or_mix}

-- the arrivals from a rank in what happens
abbrev arrived_in : ℕ → List Happened → ℕ
arrived_in from [] = 0
arrived_in from (Arrive a ∷ ws) = cond (a.env.from == from) 1 0 + arrived_in from ws
arrived_in from (w ∷ ws) = arrived_in from ws

arrivals_count : (from : ℕ) (events : List Event) → length (arrivals events from) ≡ arrived_in from (happenings events)
arrivals_count from [] = refl
arrivals_count from (e ∷ events) = by_what e.what (arrivals_count from events) where
  by_what : (w : Happened) → length (arrivals events from) ≡ arrived_in from (happenings events) →
      length (filter (λ a. a.arrival.env.from == from)
      (cons_option (arrived_of e.stamp w) (filter_map (λ e. arrived_of e.stamp e.what) events))) ≡ arrived_in from
      (w ∷ happenings events)
  by_what (Arrive a) later = by_from (a.env.from == from) where
    by_from : (b : Bool) →
        length (cond b (record { stamp = e.stamp; arrival = a } ∷ arrivals events from) (arrivals events from))
        ≡ cond b 1 0 + arrived_in from (happenings events)
    by_from true = omega (arith, later)
    by_from false = omega (arith, later)
  by_what w later = later

arrivals_more : (from : ℕ) (h events : List Event) → length (arrivals (h ++ events) from) ≡ length
    (arrivals h from) + arrived_in from (happenings events)
arrivals_more from h events =
    let both : arrivals (h ++ events) from ≡ arrivals h from ++ arrivals events from =
    ap (λ (xs : List Arrived). filter (λ a. a.arrival.env.from == from) xs)
    (filter_map-append (λ (e : Event). arrived_of e.stamp e.what) h events)
    ∙ filter-append (λ (a : Arrived). a.arrival.env.from == from)
    (filter_map (λ (e : Event). arrived_of e.stamp e.what) h)
    (filter_map (λ (e : Event). arrived_of e.stamp e.what) events) in
    ap (λ (as' : List Arrived). length as') both ∙ length-append (arrivals h from) (arrivals events from)
    ∙ ap (λ (k : ℕ). length (arrivals h from) + k) (arrivals_count from events)

happened_more : (test : Happened → Bool) (h events : List Event) →
    happened test (h ++ events) ≡ (happened test h || list_any test (happenings events))
happened_more test h events = list_any-append (λ (e : Event). test e.what) h events
    ∙ ap (λ (b : Bool). happened test h || b) (happened_in test events)

-- what happens that tells this of a rank: so many arrivals, this message withdrawn, and this recall
-- answered
record Tells (from : ℕ) (ws : List Happened) (count : ℕ) (withdrawn : ℕ → Bool → Bool)
    (undone : ℕ → Bool → Bool) : Type 0 where
  came : arrived_in from ws ≡ count
  gone : (n : ℕ) (done : Bool) → list_any (is_withdraw from n done) ws ≡ withdrawn n done
  told : (n : ℕ) (done : Bool) → list_any (is_undone from n done) ws ≡ undone n done

-- nothing is told
abbrev Nothing : ℕ → Bool → Bool
Nothing n done = false

tells_nothing : (from : ℕ) (ws : List Happened) → AllByRecursion (λ w. tells from w ≡ false) ws →
    Tells from ws 0 Nothing Nothing
tells_nothing from [] none = record { came = refl; gone = λ n done. refl; told = λ n done. refl }
tells_nothing from (w ∷ ws) none = by_what w none.0 (tells_nothing from ws none.1) where
  by_what : (w : Happened) → tells from w ≡ false → Tells from ws 0 Nothing Nothing →
      Tells from (w ∷ ws) 0 Nothing Nothing
  by_what (Arrive a) other later = record {
    came = rw other (omega (arith, later.came));
    gone = later.gone;
    told =
        later.told;
  }
  by_what (Withdraw from' m done') other later =
      record { came = later.came; gone = λ n done. rw other (later.gone n done); told = later.told }
  by_what (Undone to m done') other later = record {
    came = later.came;
    gone = later.gone;
    told = λ n done. rw other
        (later.told n done);
  }
  by_what w other later = record { came = later.came; gone = later.gone; told = later.told }

-- what is known grows by what is told
grown : (from : ℕ) (h events : List Event) (known known' : Known) (count : ℕ) (withdrawn undone : ℕ → Bool → Bool) →
    Tells from (happenings events) count withdrawn undone → known'.count ≡ known.count + count →
    ((n : ℕ) → has known'.withdrawn n ≡ (has known.withdrawn n || (withdrawn n true || withdrawn n false))) →
    ((n : ℕ) → has known'.answered n ≡ (has known.answered n || (undone n true || undone n false))) →
    ((n : ℕ) → has known'.undone n ≡ (has known.undone n || undone n true)) → Agrees from h known →
    Agrees from (h ++ events) known'
grown from h events known known' count withdrawn undone told counts gone answers done was = record {
  count = counts ∙ ap (λ (k : ℕ). k + count) was.count ∙ ap (λ (k : ℕ). length (arrivals h from) + k) (sym told.came)
      ∙ sym (arrivals_more from h events);
  withdrawn = λ n. gone n ∙ ap (λ (b : Bool). b || (withdrawn n true || withdrawn n false)) (was.withdrawn n)
      ∙ sym (or_mix (happened (is_withdraw from n true) h) (withdrawn n true) (happened (is_withdraw from n false) h)
      (withdrawn n false))
      ∙ ap (λ (b : Bool). (happened (is_withdraw from n true) h || b) ||
      (happened (is_withdraw from n false) h || withdrawn n false)) (sym (told.gone n true))
      ∙ ap (λ (b : Bool). (happened (is_withdraw from n true) h || list_any (is_withdraw from n true)
      (happenings events)) || (happened (is_withdraw from n false) h || b)) (sym (told.gone n false))
      ∙ ap (λ (b : Bool). b || (happened (is_withdraw from n false) h || list_any (is_withdraw from n false)
      (happenings events))) (sym (happened_more (is_withdraw from n true) h events))
      ∙ ap (λ (b : Bool). happened (is_withdraw from n true) (h ++ events) || b)
      (sym (happened_more (is_withdraw from n false) h events));
  answered = λ n. answers n ∙ ap (λ (b : Bool). b || (undone n true || undone n false)) (was.answered n)
      ∙ sym (or_mix (happened (is_undone from n true) h) (undone n true) (happened (is_undone from n false) h)
      (undone n false))
      ∙ ap (λ (b : Bool). (happened (is_undone from n true) h || b) ||
      (happened (is_undone from n false) h || undone n false)) (sym (told.told n true))
      ∙ ap (λ (b : Bool). (happened (is_undone from n true) h || list_any (is_undone from n true) (happenings events))
      || (happened (is_undone from n false) h || b)) (sym (told.told n false))
      ∙ ap (λ (b : Bool). b || (happened (is_undone from n false) h || list_any (is_undone from n false)
      (happenings events))) (sym (happened_more (is_undone from n true) h events))
      ∙ ap (λ (b : Bool). happened (is_undone from n true) (h ++ events) || b)
      (sym (happened_more (is_undone from n false) h events));
  undone = λ n. done n ∙ ap (λ (b : Bool). b || undone n true) (was.undone n)
      ∙ ap (λ (b : Bool). happened (is_undone from n true) h || b) (sym (told.told n true))
      ∙ sym (happened_more (is_undone from n true) h events);
}

none_known : (b : Bool) → b ≡ (b || (false || false))
none_known b = sym (or_false b)

-- events that tell nothing of a rank leave what is known of it
pub agrees-other : (from : ℕ) (h events : List Event) (known : Known) → AllByRecursion (λ w. tells from w ≡ false)
    (happenings events) → Agrees from h known → Agrees from (h ++ events) known
agrees-other from h events known none was =
    grown from h events known known 0 Nothing Nothing (tells_nothing from (happenings events) none)
    (plus_none known.count) (λ n. none_known _) (λ n. none_known _) (λ n. sym (or_false _)) was
  where
    plus_none : (k : ℕ) → k ≡ k + 0
    plus_none k = omega arith

whole_tells : (from : ℕ) (b : Bool) (from' n : ℕ) → AllByRecursion (λ w. tells from w ≡ false) (whole_if b from' n)
whole_tells from true from' n = (refl, tt)
whole_tells from false from' n = tt

empty_end : (from : ℕ) (ws : List Happened) → AllByRecursion (λ w. tells from w ≡ false) ws →
    AllByRecursion (λ w. tells from w ≡ false) (ws ++ [])
empty_end from [] none = tt
empty_end from (w ∷ ws) none = (none.0, empty_end from ws none.1)

arrival_first : (from : ℕ) (a : Arrival) (ws : List Happened) → a.env.from ≡ from →
    AllByRecursion (λ w. tells from w ≡ false) ws → Tells from (Arrive a ∷ ws) 1 Nothing Nothing
arrival_first from a ws same none =
    let rest = tells_nothing from ws none in
    let here : (a.env.from == from) ≡ true = grind (arith, nat_tests) in
    record { came = rw here (omega (arith, rest.came)); gone = rest.gone; told = rest.told }

-- a packet of the rank, by its kind
packet_agrees : (from size : ℕ) (w : What) (h events : List Event) (known : Known) →
    happenings events ≡ packet_events known h from w size → Agrees from h known → Agrees from (h ++ events)
    (learned known w size)
packet_agrees from size (what.Head tag ctx len) h events known same was =
    grown from h events known (learned known (what.Head tag ctx len) size) 1 Nothing Nothing
    (subst (λ (ws : List Happened). Tells from ws 1 Nothing Nothing) (sym same)
    (arrival_first from _ _ refl (empty_end from _ (whole_tells from (len == size) from known.count))))
    refl (λ n. none_known _) (λ n. none_known _) (λ n. sym (or_false _)) was
packet_agrees from size (what.Ask tag ctx len) h events known same was =
    grown from h events known (learned known (what.Ask tag ctx len) size) 1 Nothing Nothing
    (subst (λ (ws : List Happened). Tells from ws 1 Nothing Nothing) (sym same)
    (arrival_first from _ _ refl (whole_tells from _ from known.count)))
    refl (λ n. none_known _) (λ n. none_known _) (λ n. sym (or_false _)) was
packet_agrees from size (what.More n) h events known same was =
    let next = agrees-other from h events known
    (subst (λ (ws : List Happened). AllByRecursion (λ w. tells from w ≡ false) ws) (sym same)
    (empty_end from _ (whole_tells from (known.missing == size) from n))) was in
    record { count = next.count; withdrawn = next.withdrawn; answered = next.answered; undone = next.undone }
packet_agrees from size (what.Clear n) h events known same was =
    let next = agrees-other from h events known
    (subst (λ (ws : List Happened). AllByRecursion (λ w. tells from w ≡ false) ws) (sym same)
    (empty_end from _ (by_test (is_empty_send h from n)))) was in
    record { count = next.count; withdrawn = next.withdrawn; answered = next.answered; undone = next.undone }
  where
    by_test : (b : Bool) → AllByRecursion (λ w. tells from w ≡ false) (cond b (Out from n ∷ []) [])
    by_test true = (refl, tt)
    by_test false = tt
packet_agrees from size (what.Withdraw n) h events known same was =
    let free : Bool = is_free_message h (matched_pairs h) from n in
    grown from h events known (learned known (what.Withdraw n) size) 0 (λ m d. n == m && is_same d free) Nothing
    (subst (λ (ws : List Happened). Tells from ws 0 (λ m d. n == m && is_same d free) Nothing) (sym same)
    (record { came = refl; gone = λ m d. rw (self_true from) (or_false _); told = λ m d. refl }))
    (plus_none known.count) (λ m. list_any-append (λ (k : ℕ). k == m) known.withdrawn (n ∷ [])
    ∙ ap (λ (b : Bool). has known.withdrawn m || b) (or_false (n == m) ∙ either (n == m) free)) (λ m. none_known _)
    (λ m. sym (or_false _)) was
  where
    plus_none : (k : ℕ) → k ≡ k + 0
    plus_none k = omega arith

    either : (b d : Bool) → b ≡ ((b && is_same true d) || (b && is_same false d))
    either true true = refl
    either true false = refl
    either false d = refl
packet_agrees from size (what.Withdrawn n done) h events known same was =
    grown from h events known (learned known (what.Withdrawn n done) size) 0 Nothing (λ m d. n == m && is_same d done)
    (subst (λ (ws : List Happened). Tells from ws 0 Nothing (λ m d. n == m && is_same d done)) (sym same)
    (record { came = refl; gone = λ m d. refl; told = λ m d. rw (self_true from) (or_false _) }))
    (plus_none known.count) (λ m. none_known _) (λ m. list_any-append (λ (k : ℕ). k == m) known.answered (n ∷ [])
    ∙ ap (λ (b : Bool). has known.answered m || b) (or_false (n == m) ∙ either (n == m) done))
    (λ m. by_done done m) was
  where
    plus_none : (k : ℕ) → k ≡ k + 0
    plus_none k = omega arith

    either : (b d : Bool) → b ≡ ((b && is_same true d) || (b && is_same false d))
    either true true = refl
    either true false = refl
    either false d = refl

    and_false : (b : Bool) → (b && false) ≡ false
    and_false true = refl
    and_false false = refl

    and_true : (b : Bool) → (b && true) ≡ b
    and_true true = refl
    and_true false = refl

    by_done : (done : Bool) (m : ℕ) → has (cond done (known.undone ++ n ∷ []) known.undone) m
        ≡ (has known.undone m || (n == m && is_same true done))
    by_done true m = list_any-append (λ (k : ℕ). k == m) known.undone (n ∷ [])
        ∙ ap (λ (b : Bool). has known.undone m || b) (or_false (n == m) ∙ sym (and_true (n == m)))
    by_done false m = sym (or_false _) ∙ ap (λ (b : Bool). has known.undone m || b) (sym (and_false (n == m)))

pub agrees-none : (from : ℕ) → Agrees from [] nothing_known
agrees-none from = record { count = refl; withdrawn = λ n. refl; answered = λ n. refl; undone = λ n. refl }

-- a packet of the rank, which may be a stray
pub agrees-packet : (from : ℕ) (h events : List Event) (known : Known) (t : Taken) → t.packet.from ≡ from →
    happenings events ≡ taken_events known h t → Agrees from h known → Agrees from (h ++ events) (known_after known t)
agrees-packet from h events known t source same was = by_goes t.continued same where
  by_goes : (b : Bool) → happenings events ≡ cond b
      (packet_events known h t.packet.from t.packet.what (length t.packet.payload)) [] → Agrees from (h ++ events)
      (cond b (learned known t.packet.what (length t.packet.payload)) known)
  by_goes true same = packet_agrees from (length t.packet.payload) t.packet.what h events known
      (same ∙ ap (λ (k : ℕ). packet_events known h k t.packet.what (length t.packet.payload)) source) was
  by_goes false same = agrees-other from h events known
      (subst (λ (ws : List Happened). AllByRecursion (λ w. tells from w ≡ false) ws) (sym same) tt) was

packet_elsewhere : (from from' size : ℕ) (known : Known) (h : List Event) (w : What) → (from' == from) ≡ false →
    AllByRecursion (λ w. tells from w ≡ false) (packet_events known h from' w size)
packet_elsewhere from from' size known h (what.Head tag ctx len) other =
    (other, empty_end from _ (whole_tells from (len == size) from' known.count))
packet_elsewhere from from' size known h (what.Ask tag ctx len) other = (other, whole_tells from _ from' known.count)
packet_elsewhere from from' size known h (what.More n) other = empty_end from _
    (whole_tells from (known.missing == size) from' n)
packet_elsewhere from from' size known h (what.Clear n) other = empty_end from _ (by_test (is_empty_send h from' n))
  where
    by_test : (b : Bool) → AllByRecursion (λ w. tells from w ≡ false) (cond b (Out from' n ∷ []) [])
    by_test true = (refl, tt)
    by_test false = tt
packet_elsewhere from from' size known h (what.Withdraw n) other = (other, tt)
packet_elsewhere from from' size known h (what.Withdrawn n done) other = (other, tt)

-- a packet of another rank
pub agrees-elsewhere : (from : ℕ) (h events : List Event) (known known' : Known) (t : Taken) → t.packet.from ≢ from →
    happenings events ≡ taken_events known' h t → Agrees from h known → Agrees from (h ++ events) known
agrees-elsewhere from h events known known' t apart same was = agrees-other from h events known
    (subst (λ (ws : List Happened). AllByRecursion (λ w. tells from w ≡ false) ws) (sym same) (by_goes t.continued))
    was where
      apart_test : (x y : ℕ) → x ≢ y → (x == y) ≡ false
      apart_test x y h = grind (arith, nat_tests)

      by_goes : (b : Bool) → AllByRecursion (λ w. tells from w ≡ false)
          (cond b (packet_events known' h t.packet.from t.packet.what (length t.packet.payload)) [])
      by_goes true = packet_elsewhere from t.packet.from (length t.packet.payload) known' h t.packet.what
          (apart_test t.packet.from from apart)
      by_goes false = tt

-- a piece of any rank
pub agrees-piece : (from from' : ℕ) (h events : List Event) (known : Known) (due : Option Due) (q : Piece) →
    happenings events ≡ piece_makes from' due q → Agrees from h known → Agrees from (h ++ events) known
agrees-piece from from' h events known due q same was = agrees-other from h events known
    (subst (λ (ws : List Happened). AllByRecursion (λ w. tells from w ≡ false) ws) (sym same) (by_due due)) was where
      by_due : (o : Option Due) → AllByRecursion (λ w. tells from w ≡ false) (piece_makes from' o q)
      by_due None = tt
      by_due (Some due) = whole_tells from (is_due q due && due.last) from' q.n
