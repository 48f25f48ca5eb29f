-- States of ranks that go on alike have the same moves.
use Rattle.std.proofs.Common.{◌≡◌, inl, inr, ℕ, ◌==◌, ◌&&◌, ◌||◌, not, Bool, false, Option, Some, None, List}
use Rattle.std.proofs.Common.{refl, sym, ◌∙◌, ap}
use Rattle.std.specs.Prelude.{if◌then◌else◌, count_by, is_some, nat_lt, option_and_then, option_map}
use Rattle.std.specs.List.{filter, find, list_any, slice_get}
use Rattle.std.specs.Option.{option_map_or}
use Rattle.nm_types.specs.declared.messages.Arrival.{Arrival}
use Rattle.nm_types.specs.declared.messages.Peer.{Peer}
use Rattle.nm_types.specs.declared.messages.TagPick.{TagPick}
use Rattle.nm_types.specs.declared.scripts.Command.{Command}
use Rattle.nm_types.specs.declared.scripts.Command.TheVariants as command
use Rattle.nm_types.specs.declared.scripts.Line.{Line}
use Rattle.nm_types.specs.Bodies.{body_len}
use Rattle.nm_history.specs.declared.plain.Pair.{Pair}
use Rattle.nm_history.specs.Answers.{Message as Claimed}
use Rattle.nm_history.specs.Completion.{Request}
use Rattle.nm_history.specs.Completion.Request.{Receiving, Sending}
use Rattle.nm_history.specs.Matching.{is_of_receive}
use Rattle.nm_history.specs.RankRun.{how_of}
use Rattle.nm_history.specs.Selection.{matches}
use Rattle.nm_match.specs.Deeds.{is_message}
use Rattle.nm_outcomes.specs.declared.spots.deeds.Deed.{Deed}
use Rattle.nm_outcomes.specs.declared.spots.deeds.Deed.TheVariants as deed
use Rattle.nm_outcomes.specs.declared.spots.deeds.Receive.{Receive}
use Rattle.nm_outcomes.specs.declared.spots.deeds.Reply.{Reply}
use Rattle.nm_outcomes.specs.declared.spots.deeds.Reply.TheVariants as reply
use Rattle.nm_outcomes.specs.Looks.{found_at, is_answer_by, is_recall_by, is_receive_by, is_send_by, is_unasked_by}
use Rattle.nm_outcomes.specs.Looks.{live_in, message_in}
use Rattle.nm_outcomes.specs.RankStates.{Spot, free_lem, is_cancel_by, is_claim_by, is_gone_at, is_that, receive_of_spot}
use Rattle.nm_explored.specs.declared.choices.moves.Move.{Move}
use Rattle.nm_explored.specs.declared.choices.moves.Move.TheVariants as move
use Rattle.nm_explored.specs.Successors.{answer_in, arrival_by, begun_in, cancel_at, cancelled_at, got_by, is_held_by}
use Rattle.nm_explored.specs.Successors.{is_idle_at, is_test_of, is_withdrawn_next, match_at, may_be_open, may_begin, message_next}
use Rattle.nm_explored.specs.Successors.{probed_at, received_at, result_in, seen_at, sent_at, shown_at, start_in}
use Rattle.nm_explored.specs.Successors.{started_at}
use Rattle.nm_explored.specs.Lines.{line_in}
use Rattle.nm_explored.specs.Moves.{IsChoiceOf, IsDeedOf}
use Rattle.nm_hangs.specs.Alike.{AreAlike, IsAlike, IsAlikeOr}
use Rattle.nm_hangs.proofs.PlainLemmas.{any_same, claim_same, count_same, filter_same, last_same, live_same, message_same}

held_ran : (d : Deed) (line : ℕ) (r s : Reply) →
    not (is_held_by (deed.Ran line r) d) ≡ not (is_held_by (deed.Ran line s) d)
held_ran (deed.Send to n tag ctx len how own) line r s = refl
held_ran (deed.Post p own) line r s = refl
held_ran (deed.Match number from n cap own) line r s = refl
held_ran (deed.Cancel number done) line r s = refl
held_ran (deed.Recall to n) line r s = refl
held_ran (deed.Claim from n own) line r s = refl
held_ran (deed.Ran own p) line r s = refl

-- what one rank finds by its own state
module _ (lines : List Line) (i : ℕ) (x y : Spot) (is : IsAlike lines i x y) where
  pub ran_same : count_by is_answer_by x.deeds ≡ count_by is_answer_by y.deeds
  ran_same = count_same x.deeds y.deeds is.deeds is_answer_by (λ l r s. refl)

  pub received_same : count_by is_receive_by x.deeds ≡ count_by is_receive_by y.deeds
  received_same = count_same x.deeds y.deeds is.deeds is_receive_by (λ l r s. refl)

  pub off_same : (number : ℕ) → list_any (is_cancel_by number) x.deeds ≡ list_any (is_cancel_by number) y.deeds
  off_same number = any_same x.deeds y.deeds is.deeds (is_cancel_by number) (λ l r s. refl)

  recalled_same : (to n : ℕ) → list_any (is_recall_by to n) x.deeds ≡ list_any (is_recall_by to n) y.deeds
  recalled_same to n = any_same x.deeds y.deeds is.deeds (is_recall_by to n) (λ l r s. refl)

  lives : (q : ℕ) → live_in lines i x.deeds q ≡ live_in lines i y.deeds q
  lives q = live_same x.deeds y.deeds is.deeds lines i q

  handles : (m : ℕ) → message_in lines i x.deeds m ≡ message_in lines i y.deeds m
  handles m = message_same x.deeds y.deeds is.deeds lines i m

  idles : is_idle_at x ≡ is_idle_at y
  idles = last_same x.deeds y.deeds is.deeds is_answer_by (λ l r s. refl)

  found_same : (from : Peer) (tag : TagPick) (ctx : ℕ) → found_at x from tag ctx ≡ found_at y from tag ctx
  unfolding found_at
  found_same from tag ctx =
      ap (λ (free : List Arrival). find (λ (a : Arrival). matches from tag ctx a.env) free) is.free

  pub takes_same : (a : Arrival) → receive_of_spot x a ≡ receive_of_spot y a
  takes_same a = ap (λ (rs : List Receive). find (λ (r : Receive). matches r.from r.tag r.ctx a.env) rs) is.receives

  pub gone_same : (from n : ℕ) → is_gone_at x from n ≡ is_gone_at y from n
  gone_same from n = λ k.
      is.taken from n k
      || any_same x.deeds y.deeds is.deeds (is_claim_by from n) (λ l r s. refl) k
      || list_any (is_that from n) (is.withdrawn k)

  start_same : (eager line : ℕ) (c : Command) → start_in eager lines i x line c ≡ start_in eager lines i y line c
  start_same eager line (command.Send to q tag ctx sync body) =
      ap (λ (n : ℕ). Some (deed.Send to n tag ctx (body_len body) (how_of eager sync (body_len body)) line))
      (count_same x.deeds y.deeds is.deeds (is_send_by to) (λ l r s. refl))
  start_same eager line (command.Recv q from tag ctx cap) =
      ap (λ (n : ℕ). Some (deed.Post (record { number = n; from = from; tag = tag; ctx = ctx; cap = cap }) line))
      received_same
  start_same eager line (command.Mrecv q m cap) =
      ap (λ (o : Option Claimed). option_and_then (match_at x cap line) o) (handles m)
      ∙ by_message (message_in lines i y.deeds m)
    where
      by_message : (o : Option Claimed) →
          option_and_then (match_at x cap line) o ≡ option_and_then (match_at y cap line) o
      by_message None = refl
      by_message (Some m) = λ k.
          if is.taken m.from m.n k then None else Some (deed.Match (received_same k) m.from m.n cap line)
  start_same eager line (command.Cancel q) =
      ap (λ (o : Option Request). option_and_then (cancel_at x) o) (lives q) ∙ by_request (live_in lines i y.deeds q)
    where
      by_request : (o : Option Request) → option_and_then (cancel_at x) o ≡ option_and_then (cancel_at y) o
      by_request None = refl
      by_request (Some (Receiving number)) = λ k. Some (deed.Cancel number (not (is.paired number k)))
      by_request (Some (Sending to n)) = λ k. if recalled_same to n k then None else Some (deed.Recall to n)
  start_same eager line (command.Mprobe m from tag ctx) =
      ap (λ (o : Option Arrival). option_map (λ (a : Arrival). deed.Claim a.env.from a.n line) o)
      (found_same from tag ctx)
  start_same eager line (command.Wait q) = refl
  start_same eager line (command.Test q) = refl
  start_same eager line (command.Probe from tag ctx) = refl
  start_same eager line (command.Await from tag ctx) = refl

  begun_same : (eager line : ℕ) (c : Command) → begun_in eager lines i x line c ≡ begun_in eager lines i y line c
  begun_same eager line c =
      ap (λ (o : Option Deed). option_and_then (λ (d : Deed). if may_begin x.deeds d then Some d else None) o)
      (start_same eager line c) ∙ by_start (start_in eager lines i y line c)
    where
      by_start : (o : Option Deed) →
          option_and_then (λ (d : Deed). if may_begin x.deeds d then Some d else None) o
          ≡ option_and_then (λ (d : Deed). if may_begin y.deeds d then Some d else None) o
      by_start None = refl
      by_start (Some d) =
          ap (λ (b : Bool). if b then Some d else None)
          (last_same x.deeds y.deeds is.deeds (λ (last : Deed). not (is_held_by last d)) (held_ran d))

  open_same : (r : Request) → may_be_open x r ≡ may_be_open y r
  open_same (Receiving number) = ap (λ (b : Bool). not b) (off_same number)
  open_same (Sending to n) = refl

  test_same : (c : Command) → is_test_of lines i x c ≡ is_test_of lines i y c
  test_same (command.Test q) =
      ap (λ (o : Option Request). option_map_or (may_be_open x) o false) (lives q)
      ∙ by_request (live_in lines i y.deeds q)
    where
      by_request : (o : Option Request) → option_map_or (may_be_open x) o false ≡ option_map_or (may_be_open y) o false
      by_request None = refl
      by_request (Some r) = open_same r
  test_same (command.Wait q) = refl
  test_same (command.Send to q tag ctx sync body) = refl
  test_same (command.Recv q from tag ctx cap) = refl
  test_same (command.Probe from tag ctx) = refl
  test_same (command.Await from tag ctx) = refl
  test_same (command.Cancel q) = refl
  test_same (command.Mprobe m from tag ctx) = refl
  test_same (command.Mrecv q m cap) = refl

-- what a receive of rank i shows of its message, by its sender's state
abbrev got_of : ℕ → Pair → Option Spot → Option Reply
got_of i p o =
    option_and_then (λ (sender : Spot). option_and_then (got_by p)
    (slice_get (filter (is_send_by i) sender.deeds) p.arrival.n)) o

-- what it finds by those of others, too
module _ (lines : List Line) (v w : ℕ → Option Spot) (are : AreAlike lines v w) (i : ℕ) (x y : Spot)
    (is : IsAlike lines i x y)
  where
    shown_same : (p : Pair) → shown_at v i p ≡ shown_at w i p
    shown_same p =
        ap (λ (o : Option Reply). if nat_lt p.cap p.arrival.env.len
        then Some (reply.Cut p.arrival.env.from p.arrival.env.tag p.arrival.env.len) else o)
        (by_sender (v p.arrival.env.from) (w p.arrival.env.from) (are p.arrival.env.from))
      where
        by_sender : (o u : Option Spot) → IsAlikeOr lines p.arrival.env.from o u → got_of i p o ≡ got_of i p u
        by_sender None None both = refl
        by_sender (Some a) (Some b) both =
            ap (λ (ds : List Deed). option_and_then (got_by p) (slice_get ds p.arrival.n))
            (filter_same a.deeds b.deeds both.deeds (is_send_by i) (λ l r. refl))
        by_sender None (Some b) both = absurd both
        by_sender (Some a) None both = absurd both

    result_same : (q : ℕ) (r : Request) → live_in lines i x.deeds q ≡ Some r → result_in v i x r ≡ result_in w i y r
    result_same q (Receiving number) stands =
        first
        ∙ ap (λ (o : Option Reply). if list_any (is_cancel_by number) y.deeds then Some reply.Cancelled else o)
        (by_pair (find (is_of_receive number) y.pairs))
      where
        first : (if list_any (is_cancel_by number) x.deeds then Some reply.Cancelled
            else option_and_then (shown_at v i) (find (is_of_receive number) x.pairs))
            ≡ (if list_any (is_cancel_by number) y.deeds then Some reply.Cancelled
            else option_and_then (shown_at v i) (find (is_of_receive number) y.pairs))
        first = λ k.
            if off_same lines i x y is number k then Some reply.Cancelled
            else option_and_then (shown_at v i) (is.asked number (inl (q, stands)) k)

        by_pair : (o : Option Pair) → option_and_then (shown_at v i) o ≡ option_and_then (shown_at w i) o
        by_pair None = refl
        by_pair (Some p) = shown_same p
    result_same q (Sending to n) stands = by_other (v to) (w to) (are to)
      where
        by_other : (o u : Option Spot) → IsAlikeOr lines to o u →
            option_and_then (λ (other : Spot). sent_at x other i to n) o
            ≡ option_and_then (λ (other : Spot). sent_at y other i to n) u
        by_other None None both = refl
        by_other (Some a) (Some b) both = λ k.
            if list_any (is_that i n) (both.withdrawn k) then Some reply.Cancelled
            else if (any_same x.deeds y.deeds is.deeds (is_unasked_by to n) (λ l r s. refl) k || both.taken i n k)
            && (not (recalled_same lines i x y is to n k)
            || (list_any (is_message i n) (both.came k) && not (not (gone_same lines to a b both i n k))))
            then Some reply.Sent
            else None
        by_other None (Some b) both = absurd both
        by_other (Some a) None both = absurd both

    ends_same : (q : ℕ) →
        option_map_or (result_in v i x) (live_in lines i x.deeds q) (Some reply.Null)
        ≡ option_map_or (result_in w i y) (live_in lines i y.deeds q) (Some reply.Null)
    ends_same q =
        by_live (live_in lines i x.deeds q) refl
        ∙ ap (λ (o : Option Request). option_map_or (result_in w i y) o (Some reply.Null)) (lives lines i x y is q)
      where
        by_live : (o : Option Request) → live_in lines i x.deeds q ≡ o →
            option_map_or (result_in v i x) o (Some reply.Null) ≡ option_map_or (result_in w i y) o (Some reply.Null)
        by_live None stands = refl
        by_live (Some r) stands = result_same q r stands

    pub answer_same : (line : ℕ) (c : Command) → answer_in v lines i x line c ≡ answer_in w lines i y line c
    answer_same line (command.Wait q) = ends_same q
    answer_same line (command.Test q) = ends_same q
    answer_same line (command.Send to q tag ctx sync body) = λ k.
        started_at (idles lines i x y is k) (lives lines i x y is q k)
    answer_same line (command.Recv q from tag ctx cap) = λ k.
        started_at (idles lines i x y is k) (lives lines i x y is q k)
    answer_same line (command.Probe from tag ctx) = λ k.
        Some (option_map_or seen_at (found_same lines i x y is from tag ctx k) reply.Nothing)
    answer_same line (command.Await from tag ctx) = λ k. option_map seen_at (found_same lines i x y is from tag ctx k)
    answer_same line (command.Cancel q) =
        ap (λ (o : Option Request). cancelled_at (is_idle_at x) x o) (lives lines i x y is q)
        ∙ by_request (live_in lines i y.deeds q)
      where
        by_request : (o : Option Request) → cancelled_at (is_idle_at x) x o ≡ cancelled_at (is_idle_at y) y o
        by_request None = λ k. if idles lines i x y is k then Some reply.Null else None
        by_request (Some (Receiving number)) = λ k.
            if idles lines i x y is k then None else Some (if is.paired number k then reply.Late else reply.Done)
        by_request (Some (Sending to n)) = λ k. if recalled_same lines i x y is to n k then Some reply.Asked else None
    answer_same line (command.Mprobe m from tag ctx) =
        ap (λ (o : Option Claimed). probed_at (is_idle_at x) x line (found_at x from tag ctx) o)
        (handles lines i x y is m)
        ∙ by_held (message_in lines i y.deeds m)
      where
        by_held : (o : Option Claimed) → probed_at (is_idle_at x) x line (found_at x from tag ctx) o
            ≡ probed_at (is_idle_at y) y line (found_at y from tag ctx) o
        by_held None = λ k.
            if idles lines i x y is k
            then (if is_some (found_same lines i x y is from tag ctx k) then None else Some reply.Nothing)
            else option_map seen_at
            (option_and_then (λ (m : Claimed). find (is_message m.from m.n) (is.came k))
            (claim_same x.deeds y.deeds is.deeds line k))
        by_held (Some held) = λ k. if idles lines i x y is k then Some reply.Busy else None
    answer_same line (command.Mrecv q m cap) = λ k.
        received_at (idles lines i x y is k) (lives lines i x y is q k) (handles lines i x y is m k)

    -- a move of the rank may be made there, too
    deed_same : (eager line : ℕ) (c : Command) (d : Deed) → IsDeedOf eager lines v i x line c d →
        IsDeedOf eager lines w i y line c d
    deed_same eager line c d (inl does) = inl (does.0, sym (begun_same lines i x y is eager line c) ∙ does.1)
    deed_same eager line c d (inr (inl says)) =
        inr (inl (ap (λ (o : Option Reply). option_map (λ (r : Reply). deed.Ran line r) o) (sym (answer_same line c))
        ∙ says))
    deed_same eager line c d (inr (inr denies)) =
        inr (inr (ap (λ (b : Bool). if b then Some (deed.Ran line reply.No) else None)
        (sym (test_same lines i x y is c)) ∙ denies))

    pub place_same : line_in lines i (count_by is_answer_by x.deeds) ≡ line_in lines i (count_by is_answer_by y.deeds)
    place_same = ap (λ (n : ℕ). line_in lines i n) (ran_same lines i x y is)

-- what may come to a rank
module _ (lines : List Line) (v w : ℕ → Option Spot) (are : AreAlike lines v w) (i : ℕ) where
  abbrev next_of : ℕ → Option Spot → Option Spot → Option Arrival
  next_of from o p =
      option_and_then (λ (spot : Spot). option_and_then (λ (other : Spot).
      let n = count_by (λ (a : Arrival). a.env.from == from) spot.came in
      option_and_then (arrival_by from n) (slice_get (filter (is_send_by i) other.deeds) n)) p) o

  pub next_same : (from : ℕ) → message_next v i from ≡ message_next w i from
  next_same from = by_ranks (v i) (w i) (are i) (v from) (w from) (are from)
    where
      by_ranks : (o u : Option Spot) → IsAlikeOr lines i o u → (p q : Option Spot) → IsAlikeOr lines from p q →
          next_of from o p ≡ next_of from u q
      by_ranks None None own p q other = refl
      by_ranks (Some a) (Some b) own None None other = refl
      by_ranks (Some a) (Some b) own (Some c) (Some d) other = λ k.
          (let n = count_by (λ (e : Arrival). e.env.from == from) (own.came k) in
          option_and_then (arrival_by from n)
          (slice_get (filter_same c.deeds d.deeds other.deeds (is_send_by i) (λ l r. refl) k) n))
      by_ranks (Some a) (Some b) own None (Some d) other = absurd other
      by_ranks (Some a) (Some b) own (Some c) None other = absurd other
      by_ranks None (Some b) own p q other = absurd own
      by_ranks (Some a) None own p q other = absurd own

  abbrev withdrawn_of : ℕ → ℕ → Option Spot → Option Spot → Bool
  withdrawn_of from n o p =
      option_map_or (λ (spot : Spot). option_map_or (λ (other : Spot). list_any (is_message from n) spot.came
      && (free_lem spot from n && list_any (is_recall_by i n) other.deeds)) p false) o false

  pub withdrawn_same : (from n : ℕ) → is_withdrawn_next v i from n ≡ is_withdrawn_next w i from n
  withdrawn_same from n = by_ranks (v i) (w i) (are i) (v from) (w from) (are from)
    where
      by_ranks : (o u : Option Spot) → IsAlikeOr lines i o u → (p q : Option Spot) → IsAlikeOr lines from p q →
          withdrawn_of from n o p ≡ withdrawn_of from n u q
      by_ranks None None own p q other = refl
      by_ranks (Some a) (Some b) own None None other = refl
      by_ranks (Some a) (Some b) own (Some c) (Some d) other = λ k.
          list_any (is_message from n) (own.came k)
          && (not (gone_same lines i a b own from n k) && recalled_same lines from c d other i n k)
      by_ranks (Some a) (Some b) own None (Some d) other = absurd other
      by_ranks (Some a) (Some b) own (Some c) None other = absurd other
      by_ranks None (Some b) own p q other = absurd own
      by_ranks (Some a) None own p q other = absurd own

-- a move of a rank may be made in a state that goes on alike
pub choice_same : (eager ranks : ℕ) (lines : List Line) (v w : ℕ → Option Spot) (are : AreAlike lines v w) (i : ℕ)
    (x y : Spot) → IsAlike lines i x y → (m : Move) → IsChoiceOf eager ranks lines v i x m →
    IsChoiceOf eager ranks lines w i y m
choice_same eager ranks lines v w are i x y is (move.Act d) act = record {
  line = act.line;
  command = act.command;
  place = sym (place_same lines v w are i x y is) ∙ act.place;
  at = act.at;
  deed_of = deed_same lines v w are i x y is eager act.line act.command d act.deed_of;
}
choice_same eager ranks lines v w are i x y is (move.Arrive a) next = record {
  from = next.from;
  within = next.within;
  next = sym (next_same lines v w are i next.from) ∙ next.next;
}
choice_same eager ranks lines v w are i x y is (move.Withdraw m) recalled = record {
  place = recalled.place;
  arrival = recalled.arrival;
  came = sym (ap (λ (came : List Arrival). slice_get came recalled.place) is.came) ∙ recalled.came;
  message = recalled.message;
  free = sym (withdrawn_same lines v w are i recalled.arrival.env.from recalled.arrival.n) ∙ recalled.free;
}
