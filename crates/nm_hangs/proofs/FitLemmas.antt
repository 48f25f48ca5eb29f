-- What a test of two states of a rank shows.
use Rattle.std.proofs.Common.{◌≡◌, ◌⊎◌, inl, inr, ℕ, zero, suc, ◌+◌, ◌<◌, ◌≤◌, ◌==◌, ◌&&◌, Bool, true, false, cond, Option, Some, None}
use Rattle.std.proofs.Common.{List, [], ◌∷◌, ◌++◌, length, take, get_or, map, refl, sym, ◌∙◌, ap, subst, arith}
use Rattle.std.specs.Prelude.{count_by, nat_lt}
use Rattle.std.specs.Cmp.Lexicographic.{pointwise}
use Rattle.std.specs.List.{find, list_all, list_any, slice_get}
use Rattle.std.specs.Option.{option_map_or}
use Rattle.std.proofs.lemmas.Bool.{false≢true}
use Rattle.std.proofs.lemmas.Bool.Decides.{nat_tests}
use Rattle.std.proofs.lemmas.List.{map-append}
use Rattle.std.proofs.lemmas.Option.{slice_get-get_or}
use Rattle.nm_types.specs.contracts.messages.ArrivalPartialEq.TheImpl.{ghosts as arrival_eq}
use Rattle.nm_types.specs.declared.scripts.Command.{Command}
use Rattle.nm_types.specs.declared.scripts.Line.{Line}
use Rattle.nm_types.specs.Commands.{Numbered, command_at, commands_from, commands_of}
use Rattle.nm_types.proofs.ListLemmas.{find_nothing, find_passes, find_some, no_item, take_more}
use Rattle.nm_types.proofs.NumberLemmas.{same_number}
use Rattle.nm_types.proofs.OptionLemmas.{mapped_none, mapped_some, no_some, same_some}
use Rattle.nm_types.proofs.TruthLemmas.{and_left, and_right, not_true, same_test}
use Rattle.nm_history.specs.declared.plain.Pair.{Pair}
use Rattle.nm_history.specs.Answers.{is_start_of, request_of}
use Rattle.nm_history.specs.Completion.Request.{Receiving}
use Rattle.nm_history.specs.Matching.{is_of_message, is_of_receive}
use Rattle.nm_match.specs.contracts.names.MessagePartialEq.TheImpl.{ghosts as message_eq}
use Rattle.nm_outcomes.specs.contracts.spots.deeds.DeedPartialEq.TheImpl.{ghosts as deed_eq}
use Rattle.nm_outcomes.specs.contracts.spots.deeds.ReceivePartialEq.TheImpl.{ghosts as receive_eq}
use Rattle.nm_outcomes.specs.declared.spots.deeds.Deed.{Deed}
use Rattle.nm_outcomes.specs.Deeds.{happening}
use Rattle.nm_outcomes.specs.Looks.{is_answer_by, is_receive_by, is_start_by, live_in, name_in, request_in}
use Rattle.nm_outcomes.specs.RankStates.{Spot}
use Rattle.nm_outcomes.specs.SameLaws.{arrivals, deeds as same_by_deeds, messages, pairs, receives}
use Rattle.nm_search.specs.Lists.{Extends, Has}
use Rattle.nm_search.specs.Tells.{lists}
use Rattle.nm_search.proofs.ListLemmas.{has_kept, then_some}
use Rattle.nm_explored.specs.Lines.{line_in}
use Rattle.nm_explored.proofs.PostLemmas.{found_has}
use Rattle.nm_explored.proofs.SenderLemmas.{all_has}
use Rattle.nm_explored.proofs.StartedLemmas.{at_line, of_name}
use Rattle.nm_hangs.specs.Alike.{IsAlike, IsAsked, are_there, have_same, pair_same, plain, same_pair}

-- the first deeds, with one more
pub taken_plain : (ds : List Deed) (k : ℕ) (d : Deed) → k < length ds →
    map plain (take (k + 1) ds) ≡ map plain (take k ds) ++ plain (get_or ds k d) ∷ []
taken_plain ds k d below =
    let e : k + 1 ≡ suc k = omega arith in
    ap (λ (n : ℕ). map plain (take n ds)) e
    ∙ ap (λ (xs : List Deed). map plain xs) (take_more ds k (get_or ds k d) (slice_get-get_or ds k d below))
    ∙ map-append plain (take k ds) (get_or ds k d ∷ [])

-- the test of each pair of one list, that the other one has its receive and its message
abbrev pub is_there : List Pair → Pair → Bool
is_there ys p =
    list_any (is_of_receive p.number) ys && list_any (is_of_message p.arrival.env.from p.arrival.n) ys

receive_there : (xs ys : List Pair) → list_all (is_there ys) xs ≡ true → (number : ℕ) →
    list_any (is_of_receive number) xs ≡ true → list_any (is_of_receive number) ys ≡ true
receive_there xs ys all number some =
    let p = find_some (is_of_receive number) xs some in
    subst (λ (k : ℕ). list_any (is_of_receive k) ys ≡ true)
    (same_number p.0.number number (find_passes (is_of_receive number) xs p.0 p.1))
    (and_left (list_any (is_of_receive p.0.number) ys)
    (list_any (is_of_message p.0.arrival.env.from p.0.arrival.n) ys)
    (all_has (is_there ys) xs p.0 all (found_has (is_of_receive number) xs p.0 p.1)))

message_there : (xs ys : List Pair) → list_all (is_there ys) xs ≡ true → (from n : ℕ) →
    list_any (is_of_message from n) xs ≡ true → list_any (is_of_message from n) ys ≡ true
message_there xs ys all from n some =
    let p = find_some (is_of_message from n) xs some in
    let passes = find_passes (is_of_message from n) xs p.0 p.1 in
    let first = and_left (p.0.arrival.env.from == from) (p.0.arrival.n == n) passes in
    let last = and_right (p.0.arrival.env.from == from) (p.0.arrival.n == n) passes in
    subst (λ (k : ℕ). list_any (is_of_message k n) ys ≡ true) (same_number p.0.arrival.env.from from first)
    (subst (λ (k : ℕ). list_any (is_of_message p.0.arrival.env.from k) ys ≡ true) (same_number p.0.arrival.n n last)
    (and_right (list_any (is_of_receive p.0.number) ys)
    (list_any (is_of_message p.0.arrival.env.from p.0.arrival.n) ys)
    (all_has (is_there ys) xs p.0 all (found_has (is_of_message from n) xs p.0 p.1))))

-- two lists of pairs each of which has what the other one has
module _ (xs ys : List Pair) (one : list_all (is_there ys) xs ≡ true) (other : list_all (is_there xs) ys ≡ true) where
  pub same_paired : (number : ℕ) → list_any (is_of_receive number) xs ≡ list_any (is_of_receive number) ys
  same_paired number =
      same_test (list_any (is_of_receive number) xs) (list_any (is_of_receive number) ys)
      (receive_there xs ys one number) (receive_there ys xs other number)

  pub same_taken : (from n : ℕ) → list_any (is_of_message from n) xs ≡ list_any (is_of_message from n) ys
  same_taken from n =
      same_test (list_any (is_of_message from n) xs) (list_any (is_of_message from n) ys)
      (message_there xs ys one from n) (message_there ys xs other from n)

  -- no pair has a number from this one on
  pub none_behind : (count number : ℕ) → list_all (λ (p : Pair). nat_lt p.number count) xs ≡ true → count ≤ number →
      find (is_of_receive number) xs ≡ find (is_of_receive number) ys
  none_behind count number low past =
      find_nothing (is_of_receive number) xs none
      ∙ sym (find_nothing (is_of_receive number) ys (sym (same_paired number) ∙ none))
    where
      none : list_any (is_of_receive number) xs ≡ false
      none =
          not_true (list_any (is_of_receive number) xs)
          (λ some.
          let p = find_some (is_of_receive number) xs some in
          let same = same_number p.0.number number (find_passes (is_of_receive number) xs p.0 p.1) in
          let below : p.0.number < count =
          below_it p.0.number
          (all_has (λ (q : Pair). nat_lt q.number count) xs p.0 low (found_has (is_of_receive number) xs p.0 p.1)) in
          omega (arith, same, below, past))
        where
          below_it : (k : ℕ) → nat_lt k count ≡ true → k < count
          below_it k so = grind (arith, nat_tests)

-- the lines of a rank's commands stand in order
lines_rise : (i number : ℕ) (lines : List Line) (j k : ℕ) (x y : Numbered) → j ≤ k →
    slice_get (commands_from i number lines) j ≡ Some x → slice_get (commands_from i number lines) k ≡ Some y →
    x.line ≤ y.line
lines_rise i number [] j k x y order here there = absurd (no_item j x here)
lines_rise i number (l ∷ lines) j k x y order here there =
    by_rank (l.rank == i) j k (λ j k order here there. lines_rise i (number + 1) lines j k x y order here there) order
    here there
  where
    from : (number : ℕ) (lines : List Line) (k : ℕ) → slice_get (commands_from i number lines) k ≡ Some y →
        number ≤ y.line
    from number [] k here = absurd (no_item k y here)
    from number (l ∷ lines) k here = by_own (l.rank == i) k (from (number + 1) lines) here
      where
        by_own : (b : Bool) (k : ℕ) →
            ((k : ℕ) → slice_get (commands_from i (number + 1) lines) k ≡ Some y → number + 1 ≤ y.line) →
            slice_get (cond b (record { line = number; command = l.command } ∷ commands_from i (number + 1) lines)
            (commands_from i (number + 1) lines)) k ≡ Some y → number ≤ y.line
        by_own true zero later here =
            let e = ap (λ (c : Numbered). c.line) (same_some (record { line = number; command = l.command }) y here) in
            omega (arith, e)
        by_own true (suc k) later here = let low = later k here in omega (arith, low)
        by_own false k later here = let low = later k here in omega (arith, low)

    by_rank : (b : Bool) (j k : ℕ) →
        ((j k : ℕ) → j ≤ k → slice_get (commands_from i (number + 1) lines) j ≡ Some x →
        slice_get (commands_from i (number + 1) lines) k ≡ Some y → x.line ≤ y.line) → j ≤ k →
        slice_get (cond b (record { line = number; command = l.command } ∷ commands_from i (number + 1) lines)
        (commands_from i (number + 1) lines)) j ≡ Some x →
        slice_get (cond b (record { line = number; command = l.command } ∷ commands_from i (number + 1) lines)
        (commands_from i (number + 1) lines)) k ≡ Some y → x.line ≤ y.line
    by_rank true zero zero later order here there =
        let e = ap (λ (c : Numbered). c.line) (same_some x y (sym here ∙ there)) in
        omega (arith, e)
    by_rank true zero (suc k) later order here there =
        let e = ap (λ (c : Numbered). c.line) (same_some (record { line = number; command = l.command }) x here) in
        let low = from (number + 1) lines k there in
        omega (arith, e, low)
    by_rank true (suc j) zero later order here there = absurd (omega (arith, order))
    by_rank true (suc j) (suc k) later order here there = later j k (omega (arith, order)) here there
    by_rank false j k later order here there = later j k order here there

-- a command behind another one stands at a later line
pub later_line : (lines : List Line) (i j k current line : ℕ) → j ≤ k → line_in lines i j ≡ Some current →
    line_in lines i k ≡ Some line → current ≤ line
later_line lines i j k current line order here there =
    let x = line_of lines i j current here in
    let y = line_of lines i k line there in
    let low = lines_rise i 2 lines j k x.0 y.0 order x.1 y.1 in
    let one = x.2 in
    let other = y.2 in
    omega (arith, low, one, other)
  where
    line_of : (lines : List Line) (i k line : ℕ) → line_in lines i k ≡ Some line →
        (x : Numbered) × (slice_get (commands_of i lines) k ≡ Some x) × (x.line ≡ line)
    line_of lines i k line here = mapped_some (λ (c : Numbered). c.line) (slice_get (commands_of i lines) k) line here

-- where there is no command at a place, there is none behind it
none_later : {X : Type 0} (xs : List X) (j k : ℕ) (x : X) → j ≤ k → slice_get xs j ≡ None → slice_get xs k ≡ Some x → ⊥
none_later [] j k x order none here = no_item k x here
none_later (y ∷ ys) zero k x order none here = no_some y (sym none)
none_later (y ∷ ys) (suc j) zero x order none here = absurd (omega (arith, order))
none_later (y ∷ ys) (suc j) (suc k) x order none here = none_later ys j k x (omega (arith, order)) none here

pub no_later_line : (lines : List Line) (i j k line : ℕ) → j ≤ k → line_in lines i j ≡ None →
    line_in lines i k ≡ Some line → ⊥
no_later_line lines i j k line order none here =
    let y = mapped_some (λ (c : Numbered). c.line) (slice_get (commands_of i lines) k) line here in
    none_later (commands_of i lines) j k y.0 order
    (mapped_none (λ (c : Numbered). c.line) (slice_get (commands_of i lines) j) none) y.1

-- a name that stands for a receive is that of a line of the rank
pub named_line : (lines : List Line) (i q number : ℕ) (deeds : List Deed) →
    live_in lines i deeds q ≡ Some (Receiving number) →
    (l : Line) × Has lines l × (l.rank ≡ i) × (is_start_of q l.command ≡ true)
named_line lines i q number deeds lives =
    let name = then_some (request_in deeds) (name_in lines i deeds q) (Receiving number) lives in
    by_command name.0 (command_at (commands_of i lines) name.0) refl (of_name lines i q deeds name.0 name.1)
  where
    by_command : (line : ℕ) (o : Option Command) → command_at (commands_of i lines) line ≡ o →
        option_map_or (is_start_of q) o false ≡ true →
        (l : Line) × Has lines l × (l.rank ≡ i) × (is_start_of q l.command ≡ true)
    by_command line None at so = absurd (false≢true so)
    by_command line (Some c) at so =
        let l = at_line i 2 line lines c at in
        (l.0, l.1, l.2, ap (λ (d : Command). is_start_of q d) l.3 ∙ so)

-- the request of a line was made by a deed that starts it
pub made_there : (deeds : List Deed) (line number : ℕ) → request_in deeds line ≡ Some (Receiving number) →
    (d : Deed) × Has deeds d × (is_start_by line d ≡ true) × (request_of line (happening [] d)
    ≡ Some (Receiving number))
made_there deeds line number made =
    let d = then_some (λ (d : Deed). request_of line (happening [] d)) (find (is_start_by line) deeds)
    (Receiving number)
    made in
    (d.0, found_has (is_start_by line) deeds d.0 d.1, find_passes (is_start_by line) deeds d.0 d.1, d.2)

-- the tests of lists tell which are equal
module _ (a b : Spot) (so : have_same a b ≡ true) where
  abbrev rest_so : Bool
  rest_so =
      pointwise arrival_eq.eq a.free b.free
      && (pointwise arrival_eq.eq a.came b.came && pointwise message_eq.eq a.withdrawn b.withdrawn)

  abbrev last_so : Bool
  last_so = pointwise arrival_eq.eq a.came b.came && pointwise message_eq.eq a.withdrawn b.withdrawn

  rest_is : rest_so ≡ true
  rest_is = and_right (pointwise receive_eq.eq a.receives b.receives) rest_so so

  last_is : last_so ≡ true
  last_is = and_right (pointwise arrival_eq.eq a.free b.free) last_so rest_is

  pub same_receives : a.receives ≡ b.receives
  same_receives =
      (lists receives a.receives b.receives).0 (and_left (pointwise receive_eq.eq a.receives b.receives) rest_so so)

  pub same_free : a.free ≡ b.free
  same_free = (lists arrivals a.free b.free).0 (and_left (pointwise arrival_eq.eq a.free b.free) last_so rest_is)

  pub same_came : a.came ≡ b.came
  same_came =
      (lists arrivals a.came b.came).0
      (and_left (pointwise arrival_eq.eq a.came b.came) (pointwise message_eq.eq a.withdrawn b.withdrawn) last_is)

  pub same_withdrawn : a.withdrawn ≡ b.withdrawn
  same_withdrawn =
      (lists messages a.withdrawn b.withdrawn).0
      (and_right (pointwise arrival_eq.eq a.came b.came) (pointwise message_eq.eq a.withdrawn b.withdrawn) last_is)

pub same_deeds : (xs ys : List Deed) → pointwise deed_eq.eq xs ys ≡ true → xs ≡ ys
same_deeds xs ys so = (lists same_by_deeds xs ys).0 so

-- receives with the same message, or none
shown_so : (o u : Option Pair) → same_pair o u ≡ true → o ≡ u
shown_so (Some p) (Some q) so = ap (λ (r : Pair). Some r) ((pairs p q).0 so)
shown_so None None so = refl
shown_so None (Some q) so = absurd (false≢true so)
shown_so (Some p) None so = absurd (false≢true so)

-- two states that pass all tests go on alike
pub fit_alike : (lines : List Line) (i : ℕ) (a b : Spot) (numbers : List ℕ) →
    (have_same a b && pair_same a b numbers) ≡ true → ((number : ℕ) → IsAsked lines i a.deeds number →
    Has numbers number ⊎ (count_by is_receive_by a.deeds ≤ number)) → map plain a.deeds ≡ map plain b.deeds →
    IsAlike lines i a b
fit_alike lines i a b numbers so asked did = record {
  deeds = did;
  receives = same_receives a b have;
  free = same_free a b have;
  came = same_came a b have;
  withdrawn = same_withdrawn a b have;
  taken = same_taken a.pairs b.pairs one other;
  paired = same_paired a.pairs b.pairs one other;
  asked = λ number may. by_number number (asked number may);
}
  where
    have : have_same a b ≡ true
    have = and_left (have_same a b) (pair_same a b numbers) so

    low_too : Bool
    low_too = list_all (λ (p : Pair). nat_lt p.number (count_by is_receive_by a.deeds)) a.pairs

    show_too : Bool
    show_too =
        list_all (λ (number : ℕ). same_pair (find (is_of_receive number) a.pairs) (find (is_of_receive number) b.pairs))
        numbers

    all : pair_same a b numbers ≡ true
    all = and_right (have_same a b) (pair_same a b numbers) so

    one : are_there a.pairs b.pairs ≡ true
    one = and_left (are_there a.pairs b.pairs) (are_there b.pairs a.pairs && (low_too && show_too)) all

    rest : (are_there b.pairs a.pairs && (low_too && show_too)) ≡ true
    rest = and_right (are_there a.pairs b.pairs) (are_there b.pairs a.pairs && (low_too && show_too)) all

    other : are_there b.pairs a.pairs ≡ true
    other = and_left (are_there b.pairs a.pairs) (low_too && show_too) rest

    last : (low_too && show_too) ≡ true
    last = and_right (are_there b.pairs a.pairs) (low_too && show_too) rest

    by_number : (number : ℕ) → Has numbers number ⊎ (count_by is_receive_by a.deeds ≤ number) →
        find (is_of_receive number) a.pairs ≡ find (is_of_receive number) b.pairs
    by_number number (inl at) =
        shown_so (find (is_of_receive number) a.pairs) (find (is_of_receive number) b.pairs)
        (all_has (λ (n : ℕ). same_pair (find (is_of_receive n) a.pairs) (find (is_of_receive n) b.pairs)) numbers number
        (and_right low_too show_too last) at)
    by_number number (inr new) =
        none_behind a.pairs b.pairs one other (count_by is_receive_by a.deeds) number (and_left low_too show_too last)
        new

-- the numbers of the receives that names stand for, and of those that were started at a line to come
abbrev pub HasLive : List Line → ℕ → List ℕ → List Deed → Type 0
HasLive lines i numbers deeds =
    (q number : ℕ) → live_in lines i deeds q ≡ Some (Receiving number) → Has numbers number

abbrev pub HasStarted : List Line → ℕ → List ℕ → List Deed → Type 0
HasStarted lines i numbers deeds =
    (line place number : ℕ) → request_in deeds line ≡ Some (Receiving number) → count_by is_answer_by deeds ≤ place →
    line_in lines i place ≡ Some line → Has numbers number

pub asked_there : (lines : List Line) (i : ℕ) (deeds : List Deed) (one two : List ℕ) → Extends one two →
    HasLive lines i one deeds → HasStarted lines i two deeds → (number : ℕ) → IsAsked lines i deeds number →
    Has two number ⊎ (count_by is_receive_by deeds ≤ number)
asked_there lines i deeds one two kept live started number (inl named) =
    inl (has_kept one two number kept (live named.0 number named.1))
asked_there lines i deeds one two kept live started number (inr (inl begun)) =
    inl (started begun.0 begun.1 number begun.2 begun.3 begun.4)
asked_there lines i deeds one two kept live started number (inr (inr new)) = inr new
