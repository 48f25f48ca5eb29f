-- The moves of a group of ranks that no other rank speaks to are enough.
use Rattle.std.proofs.Common.{◌≡◌, ◌≢◌, ◌⊎◌, inl, inr, ℕ, zero, suc, ◌<◌, ◌==◌, ◌&&◌, not, Bool, true, false, cond}
use Rattle.std.proofs.Common.{Option, Some, None, List, [], ◌∷◌, ◌++◌, replicate, refl, sym, ◌∙◌, ap, subst}
use Rattle.std.specs.Prelude.{if◌then◌else◌, count_by, nat_lt, option_and_then, option_map}
use Rattle.std.specs.List.{filter, find, list_any, slice_get, slice_set}
use Rattle.std.specs.Option.{option_map_or}
use Rattle.std.proofs.lemmas.Bool.{false≢true}
use Rattle.std.proofs.lemmas.List.{set_comm}
use Rattle.nm_types.specs.declared.messages.Arrival.{Arrival}
use Rattle.nm_types.specs.declared.scripts.Command.{Command}
use Rattle.nm_types.specs.declared.scripts.Command.TheVariants as command
use Rattle.nm_types.specs.declared.scripts.Line.{Line}
use Rattle.nm_types.specs.Commands.{command_at, commands_of}
use Rattle.nm_history.specs.declared.plain.Pair.{Pair}
use Rattle.nm_history.specs.Completion.{Request}
use Rattle.nm_history.specs.Completion.Request.{Receiving, Sending}
use Rattle.nm_history.specs.Matching.{is_of_receive}
use Rattle.nm_history.specs.Selection.{matches}
use Rattle.nm_match.specs.Deeds.{is_message}
use Rattle.nm_types.proofs.ListLemmas.{find_passes, find_some, get_set_other, get_set_same, no_item, place_below}
use Rattle.nm_types.proofs.NumberLemmas.{differ, eq_true, same_number}
use Rattle.nm_types.proofs.OptionLemmas.{no_some, same_some}
use Rattle.nm_types.proofs.TruthLemmas.{and_left, not_true}
use Rattle.nm_outcomes.specs.Searches.{AreEnough}
use Rattle.nm_outcomes.specs.declared.spots.deeds.Deed.{Deed}
use Rattle.nm_outcomes.specs.declared.spots.deeds.Deed.TheVariants as deed
use Rattle.nm_outcomes.specs.declared.spots.deeds.Receive.{Receive}
use Rattle.nm_outcomes.specs.declared.spots.deeds.Reply.{Reply}
use Rattle.nm_outcomes.specs.declared.spots.deeds.Reply.TheVariants as reply
use Rattle.nm_outcomes.specs.Looks.{is_answer_by, is_recall_by, is_send_by, live_in}
use Rattle.nm_outcomes.specs.RankStates.{Spot, arrived_at, arrived_by, first_spot, free_lem, is_cancel_by, is_closed_at}
use Rattle.nm_outcomes.specs.RankStates.{is_gone_at, message_of_spot, posted_at, receive_of_spot, spot_after, taken_at}
use Rattle.nm_outcomes.specs.RankStates.{with_arrival}
use Rattle.nm_search.specs.Lists.{Has}
use Rattle.nm_explored.specs.declared.choices.moves.Move.{Move}
use Rattle.nm_explored.specs.declared.choices.moves.Move.TheVariants as move
use Rattle.nm_explored.specs.declared.choices.moves.Turn.{Turn}
use Rattle.nm_explored.specs.Successors.{answer_in, arrival_by, got_by, is_withdrawn_next, message_next, result_in}
use Rattle.nm_explored.specs.Successors.{sent_at, shown_at}
use Rattle.nm_explored.specs.Moves.{IsChoiceOf, IsDeedOf, IsTurn, moved_at}
use Rattle.nm_explored.specs.Chosen.{Goes}
use Rattle.nm_explored.specs.Rests.{AreAtRest, IsAtRest, is_waiting}
use Rattle.nm_explored.specs.Lines.{line_in}
use Rattle.nm_explored.specs.Apart.{AreApart, AreInside, IsInside, LetsPart, Parts, group_of, is_inside, is_strange}
use Rattle.nm_explored.specs.Met.{IsMet, IsWay}
use Rattle.nm_explored.specs.Started.{AreStarted, IsStarted}
use Rattle.nm_explored.proofs.OrderlyLemmas.{none_left}
use Rattle.nm_explored.proofs.PostLemmas.{found_has, none_has, none_placed, none_push, pair_for, turned}
use Rattle.nm_explored.proofs.SenderLemmas.{all_has, sent_by}
use Rattle.nm_explored.proofs.RestedLemmas.{nothing_rests}
use Rattle.nm_explored.proofs.StartedLemmas.{HasBegun, at_line, begun, started_next, way_started}

-- a rank that is not strange is of the group
same_group : (groups : List ℕ) (i from : ℕ) → is_strange groups i from ≡ false →
    group_of groups from ≡ group_of groups i
same_group groups i from own = same_number (group_of groups from) (group_of groups i) (by_test _ own)
  where
    by_test : (b : Bool) → not b ≡ false → b ≡ true
    by_test true so = refl
    by_test false so = absurd (false≢true (sym so))

not_strange : (groups : List ℕ) (i from : ℕ) → group_of groups from ≡ group_of groups i →
    is_strange groups i from ≡ false
not_strange groups i from same =
    ap (λ (b : Bool). not b) (eq_true (group_of groups from) (group_of groups i) same)

-- a rank sends to its group
sends_inside : (groups : List ℕ) (lines : List Line) → AreApart groups lines → (i line to q tag ctx : ℕ) (c : Command) →
    command_at (commands_of i lines) line ≡ Some c → is_inside groups i c ≡ true
sends_inside groups lines apart i line to q tag ctx c at =
    let l = at_line i 2 line lines c at in
    ap (λ (k : ℕ). is_inside groups k c) (sym l.2)
    ∙ ap (λ (d : Command). is_inside groups l.0.rank d) (sym l.3)
    ∙ all_has (λ (m : Line). is_inside groups m.rank m.command) lines l.0 apart l.1

-- what a rank has of messages stays inside
module _ (groups : List ℕ) (i : ℕ) (x : Spot) (is : IsInside groups i x) where
  abbrev strange : Arrival → Bool
  strange a = is_strange groups i a.env.from

  inside_post : (r : Receive) (line : ℕ) → IsInside groups i (spot_after x (deed.Post r line))
  inside_post r line = by_message (message_of_spot x r) refl
    where
      by_closed : (b : Bool) → IsInside groups i (let s = cond b x (record x { receives = x.receives ++ r ∷ [] }) in
          record s { deeds = s.deeds ++ deed.Post r line ∷ [] })
      by_closed true = record { came = is.came; free = is.free; pairs = is.pairs }
      by_closed false = record { came = is.came; free = is.free; pairs = is.pairs }

      by_message : (m : Option Arrival) → message_of_spot x r ≡ m →
          IsInside groups i (let s = posted_at x r m in record s { deeds = s.deeds ++ deed.Post r line ∷ [] })
      by_message None found = by_closed (is_closed_at x r.number)
      by_message (Some m) found = record {
        came = is.came;
        free = none_left strange _ x.free is.free;
        pairs = none_placed _ _ _ (pair_for r m) x.pairs is.pairs
            (none_has strange x.free m is.free
            (found_has (λ (a : Arrival). matches r.from r.tag r.ctx a.env) x.free m found));
      }

  inside_match : (number from n cap line : ℕ) → IsInside groups i (spot_after x (deed.Match number from n cap line))
  inside_match number from n cap line = by_message (find (is_message from n) x.came) refl
    where
      by_message : (m : Option Arrival) → find (is_message from n) x.came ≡ m →
          IsInside groups i (let s = taken_at x number cap from n m in
          record s { deeds = s.deeds ++ deed.Match number from n cap line ∷ [] })
      by_message None found = record { came = is.came; free = none_left strange _ x.free is.free; pairs = is.pairs }
      by_message (Some m) found = record {
        came = is.came;
        free = none_left strange _ x.free is.free;
        pairs = none_placed _ _ _ (record { number = number; cap = cap; arrival = m }) x.pairs is.pairs
            (none_has strange x.came m is.came (found_has (is_message from n) x.came m found));
      }

  inside_deed : (d : Deed) → IsInside groups i (spot_after x d)
  inside_deed (deed.Post r line) = inside_post r line
  inside_deed (deed.Match number from n cap line) = inside_match number from n cap line
  inside_deed (deed.Claim from n line) =
      record { came = is.came; free = none_left strange _ x.free is.free; pairs = is.pairs }
  inside_deed (deed.Cancel number true) = record { came = is.came; free = is.free; pairs = is.pairs }
  inside_deed (deed.Cancel number false) = record { came = is.came; free = is.free; pairs = is.pairs }
  inside_deed (deed.Send to n tag ctx len how line) = record { came = is.came; free = is.free; pairs = is.pairs }
  inside_deed (deed.Recall to n) = record { came = is.came; free = is.free; pairs = is.pairs }
  inside_deed (deed.Ran line r) = record { came = is.came; free = is.free; pairs = is.pairs }

  inside_arrival : (a : Arrival) → strange a ≡ false → IsInside groups i (arrived_at x a)
  inside_arrival a own = by_receive (receive_of_spot x a)
    where
      came : list_any strange (with_arrival a x.came) ≡ false
      came = none_placed _ strange _ a x.came is.came own

      by_gone : (b : Bool) → IsInside groups i (let s = cond b x (record x { free = x.free ++ a ∷ [] }) in
          record s { came = with_arrival a s.came })
      by_gone true = record { came = came; free = is.free; pairs = is.pairs }
      by_gone false = record { came = came; free = none_push strange x.free a is.free own; pairs = is.pairs }

      by_receive : (o : Option Receive) →
          IsInside groups i (let s = arrived_by x a o in record s { came = with_arrival a s.came })
      by_receive None = by_gone (is_gone_at x a.env.from a.n)
      by_receive (Some r) = record {
        came = came;
        free = is.free;
        pairs = none_placed _ _ _ (pair_for r a) x.pairs is.pairs own;
      }

module _ (eager ranks : ℕ) (lines : List Line) (groups : List ℕ) (apart : AreApart groups lines) where
  -- a message of a rank comes from its group
  next_inside : (s : List Spot) → AreStarted lines s → (i from : ℕ) (a : Arrival) →
      message_next (λ k. slice_get s k) i from ≡ Some a →
      (a.env.from ≡ from) × (group_of groups from ≡ group_of groups i)
  next_inside s started i from a next =
      let by = sent_by lines s started i from a next in (
        by.4,
        sym (same_number (group_of groups i) (group_of groups from)
            (sends_inside groups lines apart from by.1 i by.0 a.env.tag a.env.ctx
            (command.Send i by.0 a.env.tag a.env.ctx by.2 by.3) by.5)),
      )

  -- what has come to the ranks is inside after one move more
  inside_move : (s : List Spot) → AreStarted lines s → (i : ℕ) (x : Spot) (m : Move) → IsInside groups i x →
      IsChoiceOf eager ranks lines (λ k. slice_get s k) i x m → IsInside groups i (moved_at x m)
  inside_move s started i x (move.Act d) is act = inside_deed groups i x is d
  inside_move s started i x (move.Arrive a) is next =
      let own = next_inside s started i next.from a next.next in
      inside_arrival groups i x is a
      (not_strange groups i a.env.from (ap (λ (k : ℕ). group_of groups k) own.0 ∙ own.1))
  inside_move s started i x (move.Withdraw m) is recalled =
      record {
        came = is.came;
        free = none_left (λ (a : Arrival). is_strange groups i a.env.from) _ x.free is.free;
        pairs = is.pairs;
      }

  inside_turn : (s : List Spot) → AreStarted lines s → AreInside groups s → (t : Turn) →
      (turn : IsTurn eager ranks lines (λ k. slice_get s k) t) →
      AreInside groups (slice_set s t.rank (moved_at turn.spot t.by))
  inside_turn s started inside t turn k y here = by_rank (t.rank == k) refl
    where
      by_rank : (b : Bool) → (t.rank == k) ≡ b → IsInside groups k y
      by_rank true same =
          let e : t.rank ≡ k = same_number t.rank k same in
          let is : moved_at turn.spot t.by ≡ y =
          same_some (moved_at turn.spot t.by) y
          (sym (get_set_same s t.rank (moved_at turn.spot t.by) (place_below s t.rank turn.spot turn.here))
          ∙ ap (λ (n : ℕ). slice_get (slice_set s t.rank (moved_at turn.spot t.by)) n) e ∙ here) in
          subst (λ (n : ℕ). IsInside groups n y) e
          (subst (λ (z : Spot). IsInside groups t.rank z) is
          (inside_move s started t.rank turn.spot t.by (inside t.rank turn.spot turn.here) turn.choice))
      by_rank false other =
          inside k y (sym (get_set_other s t.rank k (moved_at turn.spot t.by) (differ t.rank k other)) ∙ here)

  inside_next : (s u : List Spot) → AreStarted lines s → AreInside groups s → Goes eager ranks lines s u →
      AreInside groups u
  inside_next s u started inside go =
      subst (λ (w : List Spot). AreInside groups w) (sym go.3) (inside_turn s started inside go.0 go.2)

  inside_first : (n i : ℕ) (x : Spot) → slice_get (replicate n first_spot) i ≡ Some x → IsInside groups i x
  inside_first n i x here =
      subst (λ (y : Spot). IsInside groups i y) (first n i here) (record { came = refl; free = refl; pairs = refl })
    where
      first : (n k : ℕ) → slice_get (replicate n first_spot) k ≡ Some x → first_spot ≡ x
      first zero k here = absurd (no_item k x here)
      first (suc n) zero here = same_some first_spot x here
      first (suc n) (suc k) here = first n k here

  way_inside : (ts : List Turn) (s : List Spot) → IsWay eager ranks lines ts s → AreInside groups s
  way_inside [] s way =
      subst (λ (w : List Spot). AreInside groups w) (sym way) (λ i x here. inside_first ranks i x here)
  way_inside (t ∷ ts) s way =
      subst (λ (w : List Spot). AreInside groups w) (sym way.3)
      (inside_turn way.0 (way_started eager ranks lines ts way.0 way.1) (way_inside ts way.0 way.1) t way.2)

  pub met_inside : (s : List Spot) → IsMet eager ranks lines s → AreInside groups s
  met_inside s met = way_inside met.0 s met.1

  -- the same group in two states of all ranks
  module _ (s u : List Spot) (started : AreStarted lines s) (g : ℕ)
      (same : (k : ℕ) → group_of groups k ≡ g → slice_get u k ≡ slice_get s k)
      (i : ℕ) (own : group_of groups i ≡ g) (x : Spot) (here : slice_get s i ≡ Some x) (is : IsInside groups i x)
    where
      abbrev v : ℕ → Option Spot
      v = λ k. slice_get s k

      abbrev w : ℕ → Option Spot
      w = λ k. slice_get u k

      shown_same : (p : Pair) → Has x.pairs p → shown_at v i p ≡ shown_at w i p
      shown_same p at =
          ap (λ (o : Option Spot). if nat_lt p.cap p.arrival.env.len
          then Some (reply.Cut p.arrival.env.from p.arrival.env.tag p.arrival.env.len)
          else option_and_then (λ (sender : Spot). option_and_then (got_by p)
          (slice_get (filter (is_send_by i) sender.deeds) p.arrival.n)) o)
          (sym (same p.arrival.env.from
          (same_group groups i p.arrival.env.from
          (none_has (λ (q : Pair). is_strange groups i q.arrival.env.from) x.pairs p is.pairs at) ∙ own)))

      result_same : (q : ℕ) (r : Request) → live_in lines i x.deeds q ≡ Some r → result_in v i x r ≡ result_in w i x r
      result_same q (Receiving number) lives =
          ap (λ (o : Option Reply). if list_any (is_cancel_by number) x.deeds then Some reply.Cancelled else o)
          (by_pair (find (is_of_receive number) x.pairs) refl)
        where
          by_pair : (o : Option Pair) → find (is_of_receive number) x.pairs ≡ o →
              option_and_then (shown_at v i) o ≡ option_and_then (shown_at w i) o
          by_pair None found = refl
          by_pair (Some p) found = shown_same p (found_has (is_of_receive number) x.pairs p found)
      result_same q (Sending to n) lives =
          ap (λ (o : Option Spot). option_and_then (λ (other : Spot). sent_at x other i to n) o)
          (sym (same to (to_group (begun lines i q x.deeds (Sending to n) lives))))
        where
          not_sending : (number : ℕ) → Receiving number ≡ Sending to n → ⊥
          not_sending number e = cc

          to_group : (d : Deed) × Has x.deeds d × HasBegun lines i q (Sending to n) d → group_of groups to ≡ g
          to_group s = by_deed s.0 (started i x here s.0 s.1) s.2
            where
              by_deed : (d : Deed) → IsStarted lines i d → HasBegun lines i q (Sending to n) d → group_of groups to ≡ g
              by_deed (deed.Send to' n' tag ctx len how line) (q', sync, body, at) s =
                  let e : Sending to' n' ≡ Sending to n = s.0 in
                  let e' : to' ≡ to = cc in
                  ap (λ (k : ℕ). group_of groups k) (sym e')
                  ∙ same_number (group_of groups to') (group_of groups i)
                  (sends_inside groups lines apart i line to' q' tag ctx (command.Send to' q' tag ctx sync body) at)
                  ∙ own
              by_deed (deed.Post p line) begins s = absurd (not_sending p.number s.0)
              by_deed (deed.Match number from m cap line) begins s = absurd (not_sending number s)
              by_deed (deed.Cancel number done) begins s = absurd s
              by_deed (deed.Recall k m) begins s = absurd s
              by_deed (deed.Claim from m line) begins s = absurd s
              by_deed (deed.Ran line r) begins s = absurd s

      wait_same : (q : ℕ) →
          option_map_or (result_in v i x) (live_in lines i x.deeds q) (Some reply.Null)
          ≡ option_map_or (result_in w i x) (live_in lines i x.deeds q) (Some reply.Null)
      wait_same q = by_live (live_in lines i x.deeds q) refl
        where
          by_live : (o : Option Request) → live_in lines i x.deeds q ≡ o →
              option_map_or (result_in v i x) o (Some reply.Null) ≡ option_map_or (result_in w i x) o (Some reply.Null)
          by_live None lives = refl
          by_live (Some r) lives = result_same q r lives

      answer_same : (line : ℕ) (c : Command) → answer_in v lines i x line c ≡ answer_in w lines i x line c
      answer_same line (command.Wait q) = wait_same q
      answer_same line (command.Test q) = wait_same q
      answer_same line (command.Send to q tag ctx sync body) = refl
      answer_same line (command.Recv q from tag ctx cap) = refl
      answer_same line (command.Probe from tag ctx) = refl
      answer_same line (command.Await from tag ctx) = refl
      answer_same line (command.Cancel q) = refl
      answer_same line (command.Mprobe m from tag ctx) = refl
      answer_same line (command.Mrecv q m cap) = refl

      abbrev next_of : ℕ → Option Spot → Option Spot → Option Arrival
      next_of from o p =
          option_and_then (λ (spot : Spot). option_and_then (λ (other : Spot).
          let n = count_by (λ (a : Arrival). a.env.from == from) spot.came in
          option_and_then (arrival_by from n) (slice_get (filter (is_send_by i) other.deeds) n)) p) o

      next_same : (from : ℕ) → group_of groups from ≡ g → message_next w i from ≡ message_next v i from
      next_same from inside =
          ap (λ (o : Option Spot). next_of from o (slice_get u from)) (same i own)
          ∙ ap (λ (o : Option Spot). next_of from (slice_get s i) o) (same from inside)

      abbrev recalled_of : ℕ → ℕ → Option Spot → Option Spot → Bool
      recalled_of from n o p =
          option_map_or (λ (spot : Spot). option_map_or (λ (other : Spot). list_any (is_message from n) spot.came
          && (free_lem spot from n && list_any (is_recall_by i n) other.deeds)) p false) o false

      recalled_same : (from n : ℕ) → group_of groups from ≡ g →
          is_withdrawn_next w i from n ≡ is_withdrawn_next v i from n
      recalled_same from n inside =
          ap (λ (o : Option Spot). recalled_of from n o (slice_get u from)) (same i own)
          ∙ ap (λ (o : Option Spot). recalled_of from n (slice_get s i) o) (same from inside)

      -- a move of the rank may be made there, too
      choice_same : (m : Move) → IsChoiceOf eager ranks lines v i x m → IsChoiceOf eager ranks lines w i x m
      choice_same (move.Act d) act = record {
        line = act.line;
        command = act.command;
        place = act.place;
        at = act.at;
        deed_of = by_deed act.deed_of;
      }
        where
          by_deed : IsDeedOf eager lines v i x act.line act.command d →
              IsDeedOf eager lines w i x act.line act.command d
          by_deed (inl does) = inl does
          by_deed (inr (inl says)) =
              inr (inl (ap (λ (o : Option Reply). option_map (λ (r : Reply). deed.Ran act.line r) o)
              (sym (answer_same act.line act.command)) ∙ says))
          by_deed (inr (inr denies)) = inr (inr denies)
      choice_same (move.Arrive a) next = record {
        from = next.from;
        within = next.within;
        next = next_same next.from ((next_inside s started i next.from a next.next).1 ∙ own) ∙ next.next;
      }
      choice_same (move.Withdraw m) recalled = record {
        place = recalled.place;
        arrival = recalled.arrival;
        came = recalled.came;
        message = recalled.message;
        free = recalled_same recalled.arrival.env.from recalled.arrival.n
            (same_group groups i recalled.arrival.env.from
            (none_has (λ (a : Arrival). is_strange groups i a.env.from) x.came recalled.arrival is.came
            (recalled.place, recalled.came)) ∙ own) ∙ recalled.free;
      }

      -- a rank that is at rest there is at rest here
      rest_same : IsAtRest ranks lines w i → IsAtRest ranks lines v i
      rest_same rest = record {
        held = λ spot at line c place command.
            subst (λ (y : Spot). line_in lines i (count_by is_answer_by y.deeds) ≡ Some line →
            (is_waiting c ≡ true) × (answer_in v lines i y line c ≡ None)) (same_some x spot (sym here ∙ at))
            (λ own_place.
            let held = rest.held x (same i own ∙ here) line c own_place command in
            (held.0, answer_same line c ∙ held.1)) place;
        messages = λ from low. by_next from low (message_next v i from) refl;
        free = λ from n. not_true (is_withdrawn_next v i from n) (λ so. by_withdrawal from n so);
      }
        where
          by_next : (from : ℕ) → from < ranks → (o : Option Arrival) → message_next v i from ≡ o →
              message_next v i from ≡ None
          by_next from low None next = next
          by_next from low (Some a) next =
              absurd (no_some a (sym (rest.messages from low)
              ∙ next_same from ((next_inside s started i from a next).1 ∙ own) ∙ next))

          came_of_it : (from n : ℕ) → is_withdrawn_next v i from n ≡ true → list_any (is_message from n) x.came ≡ true
          came_of_it from n so =
              by_other (slice_get s from)
              (sym (ap (λ (o : Option Spot). recalled_of from n o (slice_get s from)) here) ∙ so)
            where
              by_other : (p : Option Spot) → recalled_of from n (Some x) p ≡ true →
                  list_any (is_message from n) x.came ≡ true
              by_other None so = absurd (false≢true so)
              by_other (Some other) so =
                  and_left (list_any (is_message from n) x.came)
                  (free_lem x from n && list_any (is_recall_by i n) other.deeds) so

          by_withdrawal : (from n : ℕ) → is_withdrawn_next v i from n ≡ true → ⊥
          by_withdrawal from n so =
              let a = find_some (is_message from n) x.came (came_of_it from n so) in
              let of : a.0.env.from ≡ from =
              same_number a.0.env.from from
              (and_left (a.0.env.from == from) (a.0.n == n) (find_passes (is_message from n) x.came a.0 a.1)) in
              let inside = same_group groups i a.0.env.from
              (none_has (λ (b : Arrival). is_strange groups i b.env.from) x.came a.0 is.came
              (found_has (is_message from n) x.came a.0 a.1)) in
              false≢true
              (sym (rest.free from n)
              ∙ recalled_same from n (ap (λ (k : ℕ). group_of groups k) (sym of) ∙ inside ∙ own) ∙ so)

-- the moves of a group are enough
module _ (eager ranks : ℕ) (lines : List Line) (groups : List ℕ) (g : ℕ) (s : List Spot)
    (at : LetsPart ranks lines groups g s)
  where
    abbrev IsOther : List Spot → Type 0
    IsOther u =
        Parts eager ranks lines groups g s u
        ⊎ (LetsPart ranks lines groups g u
        × ((v : List Spot) → Parts eager ranks lines groups g u v →
        (w : List Spot) × Parts eager ranks lines groups g s w × Goes eager ranks lines w v))

    -- a state of a rank of another group changes nothing for the group
    apart_from : (s : List Spot) (j : ℕ) (y : Spot) (h : ℕ) → (group_of groups j == h) ≡ false → (k : ℕ) →
        group_of groups k ≡ h → slice_get (slice_set s j y) k ≡ slice_get s k
    apart_from s j y h other k own =
        get_set_other s j k y
        (λ e. false≢true
        (sym other ∙ eq_true (group_of groups j) h (ap (λ (n : ℕ). group_of groups n) (sym e) ∙ own)))

    other_group : (j : ℕ) → j < ranks → (z : Spot) → slice_get s j ≡ Some z → (m : Move) →
        IsChoiceOf eager ranks lines (λ k. slice_get s k) j z m → (group_of groups j == g) ≡ false →
        IsOther (slice_set s j (moved_at z m))
    other_group j low z here m choice other = inr (let_part, back)
      where
        go : Goes eager ranks lines s (slice_set s j (moved_at z m))
        go = (record { rank = j; by = m }, low, record { spot = z; here = here; choice = choice }, refl)

        started : AreStarted lines (slice_set s j (moved_at z m))
        started = started_next eager ranks lines s (slice_set s j (moved_at z m)) at.started go

        inside : AreInside groups (slice_set s j (moved_at z m))
        inside = inside_next eager ranks lines groups at.apart s (slice_set s j (moved_at z m)) at.started at.inside go

        same : (k : ℕ) → group_of groups k ≡ g → slice_get (slice_set s j (moved_at z m)) k ≡ slice_get s k
        same = apart_from s j (moved_at z m) g other

        rests : IsAtRest ranks lines (λ k. slice_get (slice_set s j (moved_at z m)) k) at.rank →
            IsAtRest ranks lines (λ k. slice_get s k) at.rank
        rests rest = by_spot (slice_get s at.rank) refl
          where
            by_spot : (o : Option Spot) → slice_get s at.rank ≡ o → IsAtRest ranks lines (λ k. slice_get s k) at.rank
            by_spot None none = nothing_rests ranks lines (λ k. slice_get s k) at.rank none
            by_spot (Some x) here =
                rest_same eager ranks lines groups at.apart s (slice_set s j (moved_at z m)) at.started g same at.rank
                at.own x here (at.inside at.rank x here) rest

        let_part : LetsPart ranks lines groups g (slice_set s j (moved_at z m))
        let_part = record {
          apart = at.apart;
          started = started;
          inside = inside;
          rank = at.rank;
          low = at.low;
          own = at.own;
          moves = λ rest. at.moves (rests rest);
        }

        back : (t : List Spot) → Parts eager ranks lines groups g (slice_set s j (moved_at z m)) t →
            (w : List Spot) × Parts eager ranks lines groups g s w × Goes eager ranks lines w t
        back t makes =
            let i = makes.0.rank in
            let x = makes.3.spot in
            let there : slice_get s i ≡ Some x = sym (same i makes.2) ∙ makes.3.here in
            let before : IsChoiceOf eager ranks lines (λ k. slice_get s k) i x makes.0.by =
            choice_same eager ranks lines groups at.apart (slice_set s j (moved_at z m)) s started g
            (λ k own. sym (same k own)) i makes.2 x makes.3.here (inside i x makes.3.here) makes.0.by makes.3.choice in
            let y = moved_at x makes.0.by in
            let not_g : (group_of groups i == group_of groups j) ≡ false =
            ap (λ (n : ℕ). n == group_of groups j) makes.2 ∙ turned g (group_of groups j) ∙ other in
            let still : slice_get (slice_set s i y) j ≡ slice_get s j =
            apart_from s i y (group_of groups j) not_g j refl in (
              slice_set s i y,
              (makes.0, makes.1, makes.2, record { spot = x; here = there; choice = before }, refl),
              (
                record { rank = j; by = m },
                low,
                record {
                  spot = z;
                  here = still ∙ here;
                  choice = choice_same eager ranks lines groups at.apart s (slice_set s i y) at.started
                      (group_of groups j)
                      (apart_from s i y (group_of groups j) not_g) j refl z here (at.inside j z here) m choice;
                },
                makes.4
                    ∙ set_comm s j i (moved_at z m) y
                    (λ e. false≢true
                    (sym other ∙ eq_true (group_of groups j) g (ap (λ (n : ℕ). group_of groups n) e ∙ makes.2))),
              ),
            )

    no_end : AreAtRest ranks lines (λ k. slice_get s k) → ⊥
    no_end rest = at.moves (rest at.rank at.low)

    others : (u : List Spot) → Goes eager ranks lines s u → IsOther u
    others u go =
        subst (λ (w : List Spot). IsOther w) (sym go.3) (by_group (group_of groups go.0.rank == g) refl)
      where
        by_group : (b : Bool) → (group_of groups go.0.rank == g) ≡ b →
            IsOther (slice_set s go.0.rank (moved_at go.2.spot go.0.by))
        by_group true own = inl (go.0, go.1, same_number (group_of groups go.0.rank) g own, go.2, refl)
        by_group false other = other_group go.0.rank go.1 go.2.spot go.2.here go.0.by go.2.choice other

pub parts_are_enough : (eager ranks : ℕ) (lines : List Line) (groups : List ℕ) (g : ℕ) →
    AreEnough (Goes eager ranks lines) (λ s. AreAtRest ranks lines (λ k. slice_get s k)) (LetsPart ranks lines groups g)
    (Parts eager ranks lines groups g)
parts_are_enough eager ranks lines groups g = record {
  no_end = λ s at rest. no_end eager ranks lines groups g s at rest;
  others = λ s u at go. others eager ranks lines groups g s at u go;
}
