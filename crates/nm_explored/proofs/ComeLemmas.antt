-- The arrival of a message that goes to a receive which can take no other rank's is enough.
use Rattle.std.proofs.Common.{◌≡◌, ◌≢◌, ◌⊎◌, inl, inr, ℕ, ◌+◌, ◌<◌, ◌≤◌, ◌==◌, ◌&&◌, ◌||◌, not, Bool, true, false, cond}
use Rattle.std.proofs.Common.{Option, Some, None, List, [], ◌∷◌, ◌++◌, length, refl, sym, ◌∙◌, ap, subst, arith}
use Rattle.std.specs.Prelude.{if◌then◌else◌, count_by, nat_lt, option_and_then}
use Rattle.std.specs.List.{filter, find, list_any, slice_get, slice_set}
use Rattle.std.proofs.lemmas.Bool.{false≢true}
use Rattle.std.proofs.lemmas.Bool.Decides.{nat_tests}
use Rattle.std.proofs.lemmas.List.{set_comm}
use Rattle.std.proofs.lemmas.List.Sums.{length-filter}
use Rattle.nm_types.specs.declared.messages.Arrival.{Arrival}
use Rattle.nm_types.specs.declared.messages.Peer.{Peer}
use Rattle.nm_types.specs.declared.messages.Peer.TheVariants as peer
use Rattle.nm_types.specs.declared.scripts.Command.{Command}
use Rattle.nm_types.specs.declared.scripts.Command.TheVariants as command
use Rattle.nm_types.specs.declared.scripts.Line.{Line}
use Rattle.nm_history.specs.declared.plain.Pair.{Pair}
use Rattle.nm_history.specs.Matching.{is_of_message, is_of_receive}
use Rattle.nm_history.specs.Selection.{matches, matches_source, matches_tag}
use Rattle.nm_history.specs.Completion.{Request}
use Rattle.nm_history.specs.Completion.Request.{Receiving, Sending}
use Rattle.nm_match.specs.Deeds.{is_message}
use Rattle.nm_types.proofs.ListLemmas.{find_passes, get_set_other, get_set_same, place_below, set_twice}
use Rattle.nm_types.proofs.NumberLemmas.{differ, same_number}
use Rattle.nm_types.proofs.OptionLemmas.{no_some, same_some}
use Rattle.std.proofs.Math.Bool.{or-false}
use Rattle.nm_types.proofs.TruthLemmas.{and_left, not_true, or_left}
use Rattle.nm_outcomes.specs.Searches.{AreEnough}
use Rattle.nm_outcomes.specs.declared.spots.deeds.Deed.{Deed}
use Rattle.nm_outcomes.specs.declared.spots.deeds.Deed.TheVariants as deed
use Rattle.nm_match.specs.declared.names.Message.{Message}
use Rattle.nm_outcomes.specs.declared.spots.deeds.Receive.{Receive}
use Rattle.nm_outcomes.specs.Looks.{is_recall_by, is_send_by, live_in}
use Rattle.nm_outcomes.specs.RankStates.{Spot, arrived_at, is_behind, is_claim_by, is_gone_at, is_that}
use Rattle.nm_outcomes.specs.RankStates.{receive_of_spot, spot_after}
use Rattle.nm_outcomes.specs.RankStates.{with_arrival, with_pair, without_number}
use Rattle.nm_outcomes.proofs.ListLemmas.{any-placed_new, count-placed_new}
use Rattle.nm_search.proofs.ListLemmas.{then_some}
use Rattle.nm_explored.specs.declared.choices.moves.Move.{Move}
use Rattle.nm_explored.specs.declared.choices.moves.Move.TheVariants as move
use Rattle.nm_explored.specs.Successors.{arrival_by, cancel_at, message_next}
use Rattle.nm_explored.specs.Successors.{start_in}
use Rattle.nm_explored.specs.Moves.{IsAct, IsChoiceOf, IsNextMessage, moved_at}
use Rattle.nm_explored.specs.Chosen.{Goes}
use Rattle.nm_explored.specs.Coming.{AreEnoughAt, Choice, Comes, LetsCome, Makes}
use Rattle.nm_explored.specs.Coming.Choice.{Acting, Arriving, Parting}
use Rattle.nm_explored.specs.Rests.{AreAtRest}
use Rattle.nm_explored.specs.Orderly.{IsOrderly, came_of, is_claiming}
use Rattle.nm_explored.proofs.AfterLemmas.{act_behind, other_cancelled, receive_behind}
use Rattle.nm_explored.proofs.ApartLemmas.{parts_are_enough}
use Rattle.nm_explored.proofs.CalmLemmas.{calm_next, no_withdrawal}
use Rattle.nm_explored.proofs.BehindLemmas.{IsKept, deed_behind}
use Rattle.nm_explored.proofs.ChosenLemmas.{acts_are_enough, arrival_later}
use Rattle.nm_explored.proofs.OrderlyLemmas.{IsCommon, common_act, new_number, no_claim, not_gone}
use Rattle.nm_explored.proofs.OrderlyLemmas.{numbered, orderly_next}
use Rattle.nm_explored.proofs.PostLemmas.{arrived, arrives_at, arrives_free, both_left, find_still, found_has}
use Rattle.nm_explored.proofs.PostLemmas.{none_of_three, none_placed, pair_for, pairs_swap}
use Rattle.nm_explored.proofs.PostLemmas.{put_swap, turned}
use Rattle.nm_explored.proofs.SenderLemmas.{selects_no_other}
use Rattle.nm_explored.proofs.StartedLemmas.{none_of_rank, of_deed, started_next}
use Rattle.nm_explored.proofs.SeenLemmas.{AreSeen, act_kept, after_arrival, after_deed, coming_kept}
use Rattle.nm_explored.proofs.SeenLemmas.{next_kept}
use Rattle.nm_explored.proofs.SeenLemmas.{seen_arrival, seen_deed, set_seen}

-- nothing is found without others, where nothing is found
find_none : {X : Type 0} (p q : X → Bool) (xs : List X) → find p xs ≡ None → find p (filter q xs) ≡ None
find_none p q [] none = refl
find_none {X} p q (y ∷ ys) none = by_both (p y) (q y) refl none (find_none p q ys)
  where
    by_both : (a b : Bool) → p y ≡ a → cond a (Some y) (find p ys) ≡ None →
        (find p ys ≡ None → find p (filter q ys) ≡ None) →
        find p (cond b (y ∷ filter q ys) (filter q ys)) ≡ None
    by_both true b one none later = absurd (no_some y (sym none))
    by_both false true one none later =
        ap (λ (c : Bool). cond c (Some y) (find p (filter q ys))) one ∙ later none
    by_both false false one none later = later none

-- two messages of different senders stand in the order of these
came_swap : (a b : Arrival) (came : List Arrival) → (a.env.from == b.env.from) ≡ false →
    list_any (is_message a.env.from a.n) came ≡ false → list_any (is_message b.env.from b.n) came ≡ false →
    with_arrival b (with_arrival a came) ≡ with_arrival a (with_arrival b came)
came_swap a b came apart new_a new_b = by_order (nat_lt a.env.from b.env.from) refl
  where
    none_both : (a b c : Bool) → a ≡ false → b ≡ false → (a || (b && c)) ≡ false
    none_both true b c x y = absurd (false≢true (sym x))
    none_both false true c x y = absurd (false≢true (sym y))
    none_both false false c x y = refl

    not_less : (f n g m : ℕ) → nat_lt f g ≡ true → (nat_lt g f || (f == g && nat_lt m n)) ≡ false
    not_less f n g m is =
        let a : nat_lt g f ≡ false = grind (arith, nat_tests) in
        let b : (f == g) ≡ false = grind (arith, nat_tests) in
        none_both (nat_lt g f) (f == g) (nat_lt m n) a b

    along_first : (f g m h k : ℕ) → nat_lt f g ≡ true → (b : Bool) → nat_lt g h ≡ b →
        (b || (h == g && nat_lt m k)) ≡ true → nat_lt f h ≡ true
    along_first f g m h k less true is so = grind (arith, nat_tests)
    along_first f g m h k less false is so =
        ap (λ (e : ℕ). nat_lt f e) (same_number h g (and_left (h == g) (nat_lt m k) so)) ∙ less

    along : (f n g m h k : ℕ) → nat_lt f g ≡ true → (nat_lt g h || (h == g && nat_lt m k)) ≡ true →
        (nat_lt f h || (h == f && nat_lt n k)) ≡ true
    along f n g m h k less so =
        or_left (nat_lt f h) (h == f && nat_lt n k) (along_first f g m h k less (nat_lt g h) refl so)

    more : (f g : ℕ) → nat_lt f g ≡ false → (f == g) ≡ false → nat_lt g f ≡ true
    more f g is other = grind (arith, nat_tests)

    other_is : (x y : Arrival) → (x.env.from == y.env.from) ≡ false → is_message y.env.from y.n x ≡ false
    other_is x y is = ap (λ (b : Bool). b && x.n == y.n) is

    swap : (x y : Arrival) → list_any (is_message x.env.from x.n) came ≡ false →
        list_any (is_message y.env.from y.n) came ≡ false → (x.env.from == y.env.from) ≡ false →
        nat_lt x.env.from y.env.from ≡ true →
        with_arrival y (with_arrival x came) ≡ with_arrival x (with_arrival y came)
    swap x y new_x new_y other less =
        put_swap (λ (p q : Arrival). is_message p.env.from p.n q)
        (λ (p q : Arrival). is_behind p.env.from p.n q.env.from q.n) came x y new_x new_y
        (other_is y x (turned y.env.from x.env.from ∙ other)) (other_is x y other)
        (or_left (nat_lt x.env.from y.env.from) (y.env.from == x.env.from && nat_lt x.n y.n) less)
        (not_less x.env.from x.n y.env.from y.n less)
        (λ z so. along x.env.from x.n y.env.from y.n z.env.from z.n less so)

    by_order : (b' : Bool) → nat_lt a.env.from b.env.from ≡ b' →
        with_arrival b (with_arrival a came) ≡ with_arrival a (with_arrival b came)
    by_order true less = swap a b new_a new_b apart less
    by_order false is =
        sym (swap b a new_b new_a (turned b.env.from a.env.from ∙ apart) (more a.env.from b.env.from is apart))

-- a receive that names its sender selects no message of another one
names_no_other : (o : Receive) (from : ℕ) (b : Arrival) → o.from ≡ peer.One from → (from == b.env.from) ≡ false →
    matches o.from o.tag o.ctx b.env ≡ false
names_no_other o from b named other =
    ap (λ (p : Peer). o.ctx == b.env.ctx && matches_source p b.env.from && matches_tag o.tag b.env.tag) named
    ∙ ap (λ (c : Bool). o.ctx == b.env.ctx && c && matches_tag o.tag b.env.tag) other
    ∙ none_between (o.ctx == b.env.ctx) (matches_tag o.tag b.env.tag)
  where
    none_between : (a c : Bool) → (a && false && c) ≡ false
    none_between true true = refl
    none_between true false = refl
    none_between false true = refl
    none_between false false = refl

-- two messages of different senders, of which one goes to a receive that does not select the other
module _ (x : Spot) (is : IsOrderly x) (a b : Arrival) (o : Receive) (from : ℕ) (to : receive_of_spot x a ≡ Some o)
    (takes_not : matches o.from o.tag o.ctx b.env ≡ false) (of : a.env.from ≡ from)
    (other : (from == b.env.from) ≡ false)
    (new_a : a.n ≡ came_of x a.env.from) (new_b : b.n ≡ came_of x b.env.from)
  where
    past_a : came_of x a.env.from ≤ a.n
    past_a = omega (arith, new_a)

    past_b : came_of x b.env.from ≤ b.n
    past_b = omega (arith, new_b)

    apart : (a.env.from == b.env.from) ≡ false
    apart = ap (λ (k : ℕ). k == b.env.from) of ∙ other

    -- another receive takes the other message
    other_number : (p : Receive) → receive_of_spot x b ≡ Some p → (p.number == o.number) ≡ false
    other_number p goes =
        not_true (p.number == o.number)
        (λ same. false≢true
        (sym takes_not
        ∙ ap (λ (q : Receive). matches q.from q.tag q.ctx b.env)
        (sym (is.own p o (found_has (λ (r : Receive). matches r.from r.tag r.ctx b.env) x.receives p goes)
        (found_has (λ (r : Receive). matches r.from r.tag r.ctx a.env) x.receives o to)
        (same_number p.number o.number same)))
        ∙ find_passes (λ (r : Receive). matches r.from r.tag r.ctx b.env) x.receives p goes))

    not_same : (c : Bool) → c ≡ false → not c ≡ true
    not_same true is = absurd (false≢true (sym is))
    not_same false is = refl

    -- it goes to the same receive behind the other message
    pub to_behind : receive_of_spot (arrived_at x b) a ≡ Some o
    to_behind = by_other (receive_of_spot x b) refl
      where
        by_other : (p : Option Receive) → receive_of_spot x b ≡ p → receive_of_spot (arrived_at x b) a ≡ Some o
        by_other None none =
            ap (λ (y : Spot). receive_of_spot y a) (arrives_free b x none (not_gone x is b.env.from b.n past_b)) ∙ to
        by_other (Some p) goes =
            ap (λ (y : Spot). receive_of_spot y a) (arrives_at b x p goes)
            ∙ find_still (λ (r : Receive). matches r.from r.tag r.ctx a.env)
            (λ (r : Receive). not (p.number == r.number))
            x.receives o to (not_same (p.number == o.number) (other_number p goes))

    swap_came : with_arrival a (with_arrival b x.came) ≡ with_arrival b (with_arrival a x.came)
    swap_came =
        sym (came_swap a b x.came apart (is.came a.env.from a.n past_a) (is.came b.env.from b.n past_b))

    not_gone_with : (pairs : List Pair) → list_any (is_of_message b.env.from b.n) pairs ≡ false →
        is_gone_at (record x { pairs = pairs }) b.env.from b.n ≡ false
    not_gone_with pairs none =
        none_of_three (list_any (is_of_message b.env.from b.n) pairs) (list_any (is_claim_by b.env.from b.n) x.deeds)
        (list_any (is_that b.env.from b.n) x.withdrawn) none (no_claim x is b.env.from b.n)
        (ap (λ (ms : List Message). list_any (is_that b.env.from b.n) ms) is.withdrawn)

    pub both_come : arrived_at (arrived_at x b) a ≡ arrived_at (arrived_at x a) b
    both_come = by_other (receive_of_spot x b) refl
      where
        by_other : (p : Option Receive) → receive_of_spot x b ≡ p →
            arrived_at (arrived_at x b) a ≡ arrived_at (arrived_at x a) b
        by_other None none =
            ap (λ (y : Spot). arrived_at y a) (arrives_free b x none (not_gone x is b.env.from b.n past_b))
            ∙ arrives_at a (arrived b x None) o to
            ∙ ap (λ (came : List Arrival). record {
              deeds = x.deeds;
              receives = without_number o.number x.receives;
              free = x.free ++ b ∷ [];
              pairs = with_pair (pair_for o a) x.pairs;
              came = came;
              withdrawn = x.withdrawn;
            }) swap_came
            ∙ sym (ap (λ (y : Spot). arrived_at y b) (arrives_at a x o to)
            ∙ arrives_free b (arrived a x (Some o))
            (find_none (λ (r : Receive). matches r.from r.tag r.ctx b.env) (λ (r : Receive). not (o.number == r.number))
            x.receives none)
            (not_gone_with (with_pair (pair_for o a) x.pairs)
            (none_placed (is_of_receive o.number) (is_of_message b.env.from b.n) (λ p. nat_lt o.number p.number)
            (pair_for o a) x.pairs (is.taken b.env.from b.n past_b) (ap (λ (c : Bool). c && a.n == b.n) apart))))
        by_other (Some p) goes =
            ap (λ (y : Spot). arrived_at y a) (arrives_at b x p goes)
            ∙ arrives_at a (arrived b x (Some p)) o
            (find_still (λ (r : Receive). matches r.from r.tag r.ctx a.env)
            (λ (r : Receive). not (p.number == r.number))
            x.receives o to (not_same (p.number == o.number) (other_number p goes)))
            ∙ ap (λ (rs : List Receive). record {
              deeds = x.deeds;
              receives = rs;
              free = x.free;
              pairs = with_pair (pair_for o a) (with_pair (pair_for p b) x.pairs);
              came = with_arrival a (with_arrival b x.came);
              withdrawn = x.withdrawn;
            }) (both_left o.number p.number x.receives)
            ∙ ap (λ (ps : List Pair). record {
              deeds = x.deeds;
              receives = without_number p.number (without_number o.number x.receives);
              free = x.free;
              pairs = ps;
              came = with_arrival a (with_arrival b x.came);
              withdrawn = x.withdrawn;
            })
            (pairs_swap (pair_for p b) (pair_for o a) x.pairs
            (is.alone p (found_has (λ (r : Receive). matches r.from r.tag r.ctx b.env) x.receives p goes))
            (is.alone o (found_has (λ (r : Receive). matches r.from r.tag r.ctx a.env) x.receives o to))
            (other_number p goes))
            ∙ ap (λ (came : List Arrival). record {
              deeds = x.deeds;
              receives = without_number p.number (without_number o.number x.receives);
              free = x.free;
              pairs = with_pair (pair_for p b) (with_pair (pair_for o a) x.pairs);
              came = came;
              withdrawn = x.withdrawn;
            }) swap_came
            ∙ sym (ap (λ (y : Spot). arrived_at y b) (arrives_at a x o to)
            ∙ arrives_at b (arrived a x (Some o)) p
            (find_still (λ (r : Receive). matches r.from r.tag r.ctx b.env)
            (λ (r : Receive). not (o.number == r.number))
            x.receives p goes
            (not_same (o.number == p.number) (turned o.number p.number ∙ other_number p goes))))

-- a message does not count for other senders
came_same : (x : Spot) (b : Arrival) (from : ℕ) → (from == b.env.from) ≡ false →
    came_of (arrived_at x b) from ≡ came_of x from
came_same x b from other =
    ap (λ (y : Spot). count_by (λ (c : Arrival). c.env.from == from) y.came) (after_arrival x b).3
    ∙ sym (length-filter (λ (c : Arrival). c.env.from == from) (with_arrival b x.came))
    ∙ count-placed_new (is_message b.env.from b.n) (λ (c : Arrival). c.env.from == from)
    (λ c. is_behind b.env.from b.n c.env.from c.n) b x.came
    ∙ ap (λ (k : Bool). length (filter (λ (c : Arrival). c.env.from == from) x.came)
    + length {A = Arrival} (cond k (b ∷ []) [])) (turned b.env.from from ∙ other)
    ∙ none_more (length (filter (λ (c : Arrival). c.env.from == from) x.came))
    ∙ length-filter (λ (c : Arrival). c.env.from == from) x.came
  where
    none_more : (n : ℕ) → n + 0 ≡ n
    none_more n = omega arith

-- a message that may come may come where as many of its sender came
message_kept : (v w : ℕ → Option Spot) → AreSeen v w → (i : ℕ) (x y : Spot) → v i ≡ Some x → w i ≡ Some y →
    (from : ℕ) → came_of y from ≡ came_of x from → (a : Arrival) → message_next v i from ≡ Some a →
    message_next w i from ≡ Some a
message_kept v w seen i x y here there from same a next =
    ap (λ (o : Option Spot). option_and_then (λ (spot : Spot). option_and_then (λ (other : Spot).
    let n = count_by (λ (b : Arrival). b.env.from == from) spot.came in
    option_and_then (arrival_by from n) (slice_get (filter (is_send_by i) other.deeds) n)) (w from)) o) there
    ∙ ap (λ (n : ℕ). option_and_then (λ (other : Spot).
    option_and_then (arrival_by from n) (slice_get (filter (is_send_by i) other.deeds) n)) (w from)) same
    ∙ coming_kept v w seen i from x.came a
    (ap (λ (o : Option Spot). option_and_then (λ (spot : Spot). option_and_then (λ (other : Spot).
    let n = count_by (λ (b : Arrival). b.env.from == from) spot.came in
    option_and_then (arrival_by from n) (slice_get (filter (is_send_by i) other.deeds) n)) (v from)) o) (sym here)
    ∙ next)

module _ (eager ranks : ℕ) (lines : List Line) (i from : ℕ) (s : List Spot) (at : LetsCome ranks lines i from s) where
  abbrev x : Spot
  x = at.is.spot

  abbrev a : Arrival
  a = at.arrival

  orderly : IsOrderly x
  orderly = at.orderly x at.is.here

  below : i < length s
  below = place_below s i x at.is.here

  abbrev next_is : IsNextMessage ranks (λ k. slice_get s k) i a
  next_is = record { from = from; within = at.is.low; next = at.is.next }

  new : a.n ≡ came_of x a.env.from
  new = new_number ranks (λ k. slice_get s k) i x at.is.here a next_is

  of : a.env.from ≡ from
  of = (numbered ranks (λ k. slice_get s k) i x at.is.here a next_is).0

  -- the states after the message came
  abbrev t : List Spot
  t = slice_set s i (arrived_at x a)

  t_seen : AreSeen (λ k. slice_get s k) (λ k. slice_get t k)
  t_seen = set_seen s i x (arrived_at x a) at.is.here (seen_arrival x a)

  t_here : slice_get t i ≡ Some (arrived_at x a)
  t_here = get_set_same s i (arrived_at x a) below

  abbrev IsOther : List Spot → Type 0
  IsOther u =
      Comes i from s u
      ⊎ (LetsCome ranks lines i from u
      × ((v : List Spot) → Comes i from u v → (w : List Spot) × Comes i from s w × Goes eager ranks lines w v))

  -- where the message may come as before
  moved_on : (u : List Spot) (y : Spot) → Goes eager ranks lines s u → slice_get u i ≡ Some y →
      message_next (λ k. slice_get u k) i from ≡ Some a → receive_of_spot y a ≡ Some at.is.receive →
      Goes eager ranks lines t (slice_set u i (arrived_at y a)) → IsOther u
  moved_on u y go here next to back =
      inr (
        record {
          no_recall = at.no_recall;
          started = started_next eager ranks lines s u at.started go;
          calm = calm_next eager ranks lines at.no_recall s u at.started at.calm go;
          orderly = orderly_next eager ranks lines at.no_recall i at.is.named.no_claim s u at.started at.calm at.orderly
              go;
          arrival = a;
          is = record {
            inside = at.is.inside;
            low = at.is.low;
            spot = y;
            here = here;
            next = next;
            receive = at.is.receive;
            to = to;
            named = at.is.named;
          };
        },
        λ v comes.
            let spot_is : y ≡ comes.0 = same_some y comes.0 (sym here ∙ comes.1) in
            let same : a ≡ comes.2 = same_some a comes.2 (sym next ∙ comes.3) in (
              t,
              (x, at.is.here, a, at.is.next, refl),
              subst (λ (z : List Spot). Goes eager ranks lines t z)
                  (ap (λ (z : Spot). slice_set u i (arrived_at z a)) spot_is
                  ∙ ap (λ (b : Arrival). slice_set u i (arrived_at comes.0 b)) same ∙ sym comes.4)
                  back,
            ),
      )

  -- a move of another rank, that withdraws nothing
  by_another : (j : ℕ) → j < ranks → (j == i) ≡ false → (z : Spot) → slice_get s j ≡ Some z → (m : Move) →
      IsChoiceOf eager ranks lines (λ k. slice_get s k) j z m →
      AreSeen (λ k. slice_get s k) (λ k. slice_get (slice_set s j (moved_at z m)) k) →
      (slice_get t j ≡ Some z → IsChoiceOf eager ranks lines (λ k. slice_get t k) j z m) →
      IsOther (slice_set s j (moved_at z m))
  by_another j low other z here m choice seen kept =
      moved_on (slice_set s j (moved_at z m)) x
      (record { rank = j; by = m }, low, record { spot = z; here = here; choice = choice }, refl) own
      (message_kept (λ k. slice_get s k) (λ k. slice_get (slice_set s j (moved_at z m)) k) seen i x x at.is.here own
      from
      refl a at.is.next)
      at.is.to (
        record { rank = j; by = m },
        low,
        record { spot = z; here = there; choice = kept there },
        set_comm s j i (moved_at z m) (arrived_at x a) (λ same. apart (sym same)),
      )
    where
      apart : i ≢ j
      apart = differ j i other

      own : slice_get (slice_set s j (moved_at z m)) i ≡ Some x
      own = get_set_other s j i (moved_at z m) apart ∙ at.is.here

      there : slice_get t j ≡ Some z
      there = get_set_other s i j (arrived_at x a) (λ same. apart (sym same)) ∙ here

  -- the rank's next command does something, or answers
  by_deed : (d : Deed) → IsAct eager lines (λ k. slice_get s k) i x d → IsOther (slice_set s i (spot_after x d))
  by_deed d act =
      moved_on (slice_set s i (spot_after x d)) (spot_after x d) (
        record { rank = i; by = move.Act d },
        at.is.inside,
        record { spot = x; here = at.is.here; choice = act },
        refl,
      ) own
      (message_kept (λ k. slice_get s k) (λ k. slice_get (slice_set s i (spot_after x d)) k)
      (set_seen s i x (spot_after x d) at.is.here (seen_deed x d)) i x (spot_after x d) at.is.here own from
      (ap (λ (y : Spot). came_of y from) (after_deed x d).3) a at.is.next)
      (receive_behind x orderly a at.is.receive at.is.to d common.0 common.1 kept) (
        record { rank = i; by = move.Act d },
        at.is.inside,
        record {
          spot = arrived_at x a;
          here = t_here;
          choice = act_behind eager lines (λ k. slice_get s k) (λ k. slice_get t k) t_seen i x (arrived_at x a)
              (arrival_later x a) (ap (λ (y : Spot). y.free) (arrives_at a x at.is.receive at.is.to)) d act same_pairs
              claims;
        },
        set_twice s i (spot_after x d) (arrived_at (spot_after x d) a)
            ∙ ap (λ (y : Spot). slice_set s i y) (deed_behind x orderly a new d common.0 common.1 kept)
            ∙ sym (set_twice s i (arrived_at x a) (spot_after (arrived_at x a) d)),
      )
    where
      claims : is_claiming act.command ≡ false
      claims = none_of_rank lines i act.line act.command is_claiming at.is.named.no_claim act.at

      common : IsCommon x d
      common =
          common_act eager lines at.no_recall (λ k. slice_get s k) i at.is.named.no_claim x (at.started i x at.is.here)
          orderly d act

      -- a cancel is of another receive
      apart : (q number : ℕ) → act.command ≡ command.Cancel q → live_in lines i x.deeds q ≡ Some (Receiving number) →
          (number == at.is.receive.number) ≡ false
      apart q number is lives =
          other_cancelled lines i x orderly (at.started i x at.is.here) at.is.receive
          (found_has (λ (r : Receive). matches r.from r.tag r.ctx a.env) x.receives at.is.receive at.is.to)
          at.is.named.spared act.line q (act.at ∙ ap (λ (c : Command). Some c) is) number lives

      same_pairs : (q number : ℕ) → act.command ≡ command.Cancel q →
          live_in lines i x.deeds q ≡ Some (Receiving number) →
          list_any (is_of_receive number) (arrived_at x a).pairs ≡ list_any (is_of_receive number) x.pairs
      same_pairs q number is lives =
          ap (λ (y : Spot). list_any (is_of_receive number) y.pairs) (arrives_at a x at.is.receive at.is.to)
          ∙ any-placed_new (is_of_receive at.is.receive.number) (is_of_receive number)
          (λ p. nat_lt at.is.receive.number p.number) (pair_for at.is.receive a) x.pairs
          ∙ ap (λ (b : Bool). list_any (is_of_receive number) x.pairs || (b || false))
          (turned at.is.receive.number number ∙ apart q number is lives)
          ∙ or-false (list_any (is_of_receive number) x.pairs)

      kept_as : (z e : Deed) → Some e ≡ Some z → IsKept x a e → IsKept x a z
      kept_as z e same kept = subst (λ (d : Deed). IsKept x a d) (same_some e z same) kept

      kept_start : (c : Command) → act.command ≡ c → is_claiming c ≡ false → (z : Deed) →
          start_in eager lines i x act.line c ≡ Some z → IsKept x a z
      kept_start (command.Send to q tag ctx sync body) is claims z starts = kept_as z _ starts tt
      kept_start (command.Recv q from tag ctx cap) is claims z starts = kept_as z _ starts tt
      kept_start (command.Cancel q) is claims z starts =
          let r = then_some (cancel_at x) (live_in lines i x.deeds q) z starts in by_request r.0 r.1 r.2
        where
          by_recall : (to n : ℕ) (b : Bool) → (if b then None else Some (deed.Recall to n)) ≡ Some z → IsKept x a z
          by_recall to n true makes = absurd (no_some z makes)
          by_recall to n false makes = kept_as z _ makes tt

          by_request : (r : Request) → live_in lines i x.deeds q ≡ Some r → cancel_at x r ≡ Some z → IsKept x a z
          by_request (Receiving number) lives makes =
              kept_as z _ makes (at.is.receive, at.is.to, apart q number is lives)
          by_request (Sending to n) lives makes = by_recall to n (list_any (is_recall_by to n) x.deeds) makes
      kept_start (command.Mprobe m from tag ctx) is claims z starts = absurd (false≢true (sym claims))
      kept_start (command.Mrecv q m cap) is claims z starts = absurd (false≢true (sym claims))
      kept_start (command.Wait q) is claims z starts = absurd (no_some z starts)
      kept_start (command.Test q) is claims z starts = absurd (no_some z starts)
      kept_start (command.Probe from tag ctx) is claims z starts = absurd (no_some z starts)
      kept_start (command.Await from tag ctx) is claims z starts = absurd (no_some z starts)

      kept : IsKept x a d
      kept =
          of_deed (λ (z : Deed). IsKept x a z) eager lines (λ k. slice_get s k) i x act.line act.command d
          (λ z starts. kept_start act.command refl claims z starts) (λ r. tt) act.deed_of

      own : slice_get (slice_set s i (spot_after x d)) i ≡ Some (spot_after x d)
      own = get_set_same s i (spot_after x d) below

  -- a message of another sender comes to the same rank
  by_arrival : (b : Arrival) → (next : IsNextMessage ranks (λ k. slice_get s k) i b) → (from == next.from) ≡ false →
      IsOther (slice_set s i (arrived_at x b))
  by_arrival b next other =
      moved_on (slice_set s i (arrived_at x b)) (arrived_at x b) (
        record { rank = i; by = move.Arrive b },
        at.is.inside,
        record { spot = x; here = at.is.here; choice = next },
        refl,
      ) own
      (message_kept (λ k. slice_get s k) (λ k. slice_get (slice_set s i (arrived_at x b)) k)
      (set_seen s i x (arrived_at x b) at.is.here (seen_arrival x b)) i x (arrived_at x b) at.is.here own from
      (came_same x b from apart) a at.is.next)
      (to_behind x orderly a b at.is.receive from at.is.to takes_not of apart new new_b) (
        record { rank = i; by = move.Arrive b },
        at.is.inside,
        record {
          spot = arrived_at x a;
          here = t_here;
          choice = record {
            from = next.from;
            within = next.within;
            next = message_kept (λ k. slice_get s k) (λ k. slice_get t k) t_seen i x (arrived_at x a) at.is.here t_here
                next.from
                (came_same x a next.from (ap (λ (k : ℕ). next.from == k) of ∙ turned next.from from ∙ other)) b
                next.next;
          };
        },
        set_twice s i (arrived_at x b) (arrived_at (arrived_at x b) a)
            ∙ ap (λ (y : Spot). slice_set s i y)
            (both_come x orderly a b at.is.receive from at.is.to takes_not of apart new new_b)
            ∙ sym (set_twice s i (arrived_at x a) (arrived_at (arrived_at x a) b)),
      )
    where
      of_b : b.env.from ≡ next.from
      of_b = (numbered ranks (λ k. slice_get s k) i x at.is.here b next).0

      new_b : b.n ≡ came_of x b.env.from
      new_b = new_number ranks (λ k. slice_get s k) i x at.is.here b next

      apart : (from == b.env.from) ≡ false
      apart = ap (λ (k : ℕ). from == k) of_b ∙ other

      takes_not : matches at.is.receive.from at.is.receive.tag at.is.receive.ctx b.env ≡ false
      takes_not = elim at.is.named.only [
        | inl names ↦ names_no_other at.is.receive from b names apart
        | inr none ↦
            selects_no_other lines s at.started i from next.from at.is.receive none (turned next.from from ∙ other) b
            next.next
      ]

      own : slice_get (slice_set s i (arrived_at x b)) i ≡ Some (arrived_at x b)
      own = get_set_same s i (arrived_at x b) below

  abbrev IsOtherBy : ℕ → Type 0
  IsOtherBy j =
      (m : Move) (z : Spot) → slice_get s j ≡ Some z → IsChoiceOf eager ranks lines (λ k. slice_get s k) j z m →
      IsOther (slice_set s j (moved_at z m))

  own_move : (m : Move) → IsChoiceOf eager ranks lines (λ k. slice_get s k) i x m →
      IsOther (slice_set s i (moved_at x m))
  own_move (move.Act d) act = by_deed d act
  own_move (move.Arrive b) next = by_sender (from == next.from) refl
    where
      by_sender : (c : Bool) → (from == next.from) ≡ c → IsOther (slice_set s i (arrived_at x b))
      by_sender true same =
          inl (
            x,
            at.is.here,
            b,
            ap (λ (k : ℕ). message_next (λ k. slice_get s k) i k) (same_number from next.from same) ∙ next.next,
            refl,
          )
      by_sender false other = by_arrival b next other
  own_move (move.Withdraw m) recalled =
      absurd (no_withdrawal s at.calm i recalled.arrival.env.from recalled.arrival.n recalled.free)

  own : IsOtherBy i
  own m z here choice =
      subst (λ (y : Spot). IsOther (slice_set s i (moved_at y m))) (same_some x z (sym at.is.here ∙ here))
      (own_move m
      (subst (λ (y : Spot). IsChoiceOf eager ranks lines (λ k. slice_get s k) i y m)
      (same_some z x (sym here ∙ at.is.here)) choice))

  another : (j : ℕ) → j < ranks → (j == i) ≡ false → IsOtherBy j
  another j low other (move.Act d) z here act =
      by_another j low other z here (move.Act d) act (set_seen s j z (spot_after z d) here (seen_deed z d))
      (λ there. act_kept (λ k. slice_get s k) (λ k. slice_get t k) t_seen j eager lines z d act)
  another j low other (move.Arrive b) z here next =
      by_another j low other z here (move.Arrive b) next (set_seen s j z (arrived_at z b) here (seen_arrival z b))
      (λ there. next_kept (λ k. slice_get s k) (λ k. slice_get t k) t_seen j ranks z z here there refl b next)
  another j low other (move.Withdraw m) z here recalled =
      absurd (no_withdrawal s at.calm j recalled.arrival.env.from recalled.arrival.n recalled.free)

  others : (u : List Spot) → Goes eager ranks lines s u → IsOther u
  others u go =
      subst (λ (w : List Spot). IsOther w) (sym go.3)
      (by_rank (go.0.rank == i) refl go.0.by go.2.spot go.2.here go.2.choice)
    where
      by_rank : (b : Bool) → (go.0.rank == i) ≡ b → IsOtherBy go.0.rank
      by_rank true same = subst (λ (j : ℕ). IsOtherBy j) (sym (same_number go.0.rank i same)) own
      by_rank false other = another go.0.rank go.1 other

  no_end : AreAtRest ranks lines (λ k. slice_get s k) → ⊥
  no_end rest = no_some a (sym ((rest i at.is.inside).messages from at.is.low) ∙ at.is.next)

-- the arrival is enough
pub comes_are_enough : (eager ranks : ℕ) (lines : List Line) (i from : ℕ) →
    AreEnough (Goes eager ranks lines) (λ s. AreAtRest ranks lines (λ k. slice_get s k)) (LetsCome ranks lines i from)
    (Comes i from)
comes_are_enough eager ranks lines i from = record {
  no_end = λ s at rest. no_end eager ranks lines i from s at rest;
  others = λ s u at go. others eager ranks lines i from s at u go;
}

pub choices_are_enough : (eager ranks : ℕ) (lines : List Line) (c : Choice) →
    AreEnough (Goes eager ranks lines) (λ s. AreAtRest ranks lines (λ k. slice_get s k)) (AreEnoughAt ranks lines c)
    (Makes eager ranks lines c)
choices_are_enough eager ranks lines (Acting i) = acts_are_enough eager ranks lines i
choices_are_enough eager ranks lines (Arriving i from) = comes_are_enough eager ranks lines i from
choices_are_enough eager ranks lines (Parting groups g) = parts_are_enough eager ranks lines groups g
