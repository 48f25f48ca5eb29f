-- States of all ranks that go on alike: their moves lead to such states, and the same ones are enough.
use Rattle.std.proofs.Common.{◌≡◌, ℕ, ◌<◌, ◌==◌, ◌&&◌, Bool, true, false, Option, Some, None, List, [], ◌∷◌, length}
use Rattle.std.proofs.Common.{refl, sym, ◌∙◌, subst}
use Rattle.std.specs.Prelude.{filter_map, is_none, option_map}
use Rattle.std.specs.List.{cons_option, list_all, range_with_len, slice_get, slice_set}
use Rattle.nm_types.specs.declared.scripts.Command.{Command}
use Rattle.nm_types.specs.declared.scripts.Command.TheVariants as command
use Rattle.nm_types.specs.declared.scripts.Line.{Line}
use Rattle.nm_types.proofs.ListLemmas.{get_set_other, get_set_same, place_below}
use Rattle.nm_types.proofs.NumberLemmas.{differ, same_number}
use Rattle.nm_report.specs.Told.{RankTold}
use Rattle.nm_outcomes.specs.RankStates.{Spot, arrived_at, spot_after}
use Rattle.nm_explored.specs.declared.choices.moves.Move.{Move}
use Rattle.nm_explored.specs.declared.choices.moves.Move.TheVariants as move
use Rattle.nm_explored.specs.Lines.{line_in}
use Rattle.nm_explored.specs.Chosen.{Goes, IsSettledBy}
use Rattle.nm_explored.specs.Coming.{AreEnoughAt, Choice, Makes}
use Rattle.nm_explored.specs.Coming.Choice.{Acting, Arriving, Parting}
use Rattle.nm_explored.specs.Ends.{told_in}
use Rattle.nm_explored.specs.Met.{IsMet}
use Rattle.nm_explored.specs.Moves.{IsChoiceOf, moved_at}
use Rattle.nm_explored.specs.Rests.{IsAtRest}
use Rattle.nm_explored.proofs.ApartLemmas.{met_inside}
use Rattle.nm_explored.proofs.CalmLemmas.{met_calm}
use Rattle.nm_explored.proofs.OrderlyLemmas.{met_orderly}
use Rattle.nm_explored.proofs.StartedLemmas.{met_started}
use Rattle.nm_hangs.specs.Alike.{AreAlike, IsAlike, IsAlikeOr}
use Rattle.nm_hangs.specs.Hunts.{IsStuckAt}
use Rattle.nm_hangs.proofs.AlikeLemmas.{answer_same, choice_same, next_same, place_same, ran_same, takes_same, withdrawn_same}
use Rattle.nm_hangs.proofs.ClassLemmas.{are_turned, other_there}
use Rattle.nm_hangs.proofs.MovedLemmas.{came_alike, moved_alike}

-- the states of all ranks go on alike
abbrev pub StatesAlike : List Line → List Spot → List Spot → Type 0
StatesAlike lines s t = AreAlike lines (λ k. slice_get s k) (λ k. slice_get t k)

-- one state is put in the place of another one on both sides
set_alike : (lines : List Line) (s t : List Spot) → StatesAlike lines s t → (r : ℕ) (x y : Spot) → r < length s →
    r < length t → IsAlike lines r x y → StatesAlike lines (slice_set s r x) (slice_set t r y)
set_alike lines s t are r x y low lower is k = by_rank (r == k) refl
  where
    by_rank : (b : Bool) → (r == k) ≡ b →
        IsAlikeOr lines k (slice_get (slice_set s r x) k) (slice_get (slice_set t r y) k)
    by_rank true same =
        let e : r ≡ k = same_number r k same in
        subst (λ (n : ℕ). IsAlikeOr lines n (slice_get (slice_set s r x) n) (slice_get (slice_set t r y) n)) e
        (subst (λ (o : Option Spot). IsAlikeOr lines r o (slice_get (slice_set t r y) r)) (sym (get_set_same s r x low))
        (subst (λ (o : Option Spot). IsAlikeOr lines r (Some x) o) (sym (get_set_same t r y lower)) is))
    by_rank false other =
        subst (λ (o : Option Spot). IsAlikeOr lines k o (slice_get (slice_set t r y) k))
        (sym (get_set_other s r k x (differ r k other)))
        (subst (λ (o : Option Spot). IsAlikeOr lines k (slice_get s k) o)
        (sym (get_set_other t r k y (differ r k other)))
        (are k))

module _ (eager ranks : ℕ) (lines : List Line) (s t : List Spot) (are : StatesAlike lines s t) where
  abbrev v : ℕ → Option Spot
  v = λ k. slice_get s k

  abbrev w : ℕ → Option Spot
  w = λ k. slice_get t k

  -- a move of a rank may be made there, too, and leads to states that go on alike
  turn_alike : (i : ℕ) (x : Spot) → slice_get s i ≡ Some x → (m : Move) → IsChoiceOf eager ranks lines v i x m →
      (y : Spot) × (slice_get t i ≡ Some y) × IsChoiceOf eager ranks lines w i y m
      × StatesAlike lines (slice_set s i (moved_at x m)) (slice_set t i (moved_at y m))
  turn_alike i x here m choice =
      let other = other_there lines i (v i) (w i) x (are i) here in (
        other.0,
        other.1,
        choice_same eager ranks lines v w are i x other.0 other.2 m choice,
        set_alike lines s t are i (moved_at x m) (moved_at other.0 m) (place_below s i x here)
            (place_below t i other.0 other.1) (moved_alike lines i x other.0 other.2 eager ranks v m choice),
      )

  pub goes_alike : (u : List Spot) → Goes eager ranks lines s u →
      (z : List Spot) × Goes eager ranks lines t z × StatesAlike lines u z
  goes_alike u go =
      let there = turn_alike go.0.rank go.2.spot go.2.here go.0.by go.2.choice in (
        slice_set t go.0.rank (moved_at there.0 go.0.by),
        (go.0, go.1, record { spot = there.0; here = there.1; choice = there.2 }, refl),
        subst (λ (z : List Spot). StatesAlike lines z (slice_set t go.0.rank (moved_at there.0 go.0.by))) (sym go.3)
            there.3,
      )

  -- a rank that is at rest there is at rest here
  pub rest_alike : (i : ℕ) → IsAtRest ranks lines w i → IsAtRest ranks lines v i
  rest_alike i rest = record {
    held = λ spot here line c place at.
        let other = other_there lines i (v i) (w i) spot (are i) here in
        let held = rest.held other.0 other.1 line c
        (sym (place_same lines v w are i spot other.0 other.2) ∙ place) at in
        (held.0, answer_same lines v w are i spot other.0 other.2 line c ∙ held.1);
    messages = λ from low. next_same lines v w are i from ∙ rest.messages from low;
    free = λ from n. withdrawn_same lines v w are i from n ∙ rest.free from n;
  }

  -- .. and waits there, too
  waits_alike : (is : List ℕ) →
      list_all (λ (rank : RankTold). is_none rank.waits) (filter_map (λ (i : ℕ). option_map (told_in lines i) (v i)) is)
      ≡ list_all (λ (rank : RankTold). is_none rank.waits)
      (filter_map (λ (i : ℕ). option_map (told_in lines i) (w i)) is)
  waits_alike [] = refl
  waits_alike (i ∷ is) = by_rank (v i) (w i) (are i) (waits_alike is)
    where
      by_rank : (o p : Option Spot) → IsAlikeOr lines i o p →
          list_all (λ (rank : RankTold). is_none rank.waits)
          (filter_map (λ (i : ℕ). option_map (told_in lines i) (v i)) is)
          ≡ list_all (λ (rank : RankTold). is_none rank.waits)
          (filter_map (λ (i : ℕ). option_map (told_in lines i) (w i)) is) →
          list_all (λ (rank : RankTold). is_none rank.waits)
          (cons_option (option_map (told_in lines i) o) (filter_map (λ (i : ℕ). option_map (told_in lines i) (v i)) is))
          ≡ list_all (λ (rank : RankTold). is_none rank.waits)
          (cons_option (option_map (told_in lines i) p) (filter_map (λ (i : ℕ). option_map (told_in lines i) (w i)) is))
      by_rank None None both later = later
      by_rank (Some x) (Some y) both later = λ k.
          is_none (line_in lines i (ran_same lines i x y both k)) && later k
      by_rank None (Some y) both later = absurd both
      by_rank (Some x) None both later = absurd both

  pub stuck_alike : IsStuckAt ranks lines w → IsStuckAt ranks lines v
  stuck_alike stuck = record {
    rest = λ i low. rest_alike i (stuck.rest i low);
    waits = waits_alike (range_with_len 0 ranks) ∙ stuck.waits;
  }

  -- what the next command of a rank does is settled there, too
  settled_by : (i : ℕ) (x y : Spot) → IsAlike lines i x y → (line : ℕ) (c : Command) →
      IsSettledBy w lines i y line c → IsSettledBy v lines i x line c
  settled_by i x y is line (command.Send to q tag ctx sync body) so = tt
  settled_by i x y is line (command.Wait q) so =
      (so.0, answer_same lines v w are i x y is line (command.Wait q) ∙ so.1)
  settled_by i x y is line (command.Recv q from tag ctx cap) so = so
  settled_by i x y is line (command.Test q) so = absurd so
  settled_by i x y is line (command.Probe from tag ctx) so = absurd so
  settled_by i x y is line (command.Await from tag ctx) so = absurd so
  settled_by i x y is line (command.Cancel q) so = absurd so
  settled_by i x y is line (command.Mprobe m from tag ctx) so = absurd so
  settled_by i x y is line (command.Mrecv q m cap) so = absurd so

  -- what is enough there is enough here, where moves lead
  pub enough_alike : IsMet eager ranks lines s →
      (c : Choice) → AreEnoughAt ranks lines c t → AreEnoughAt ranks lines c s
  enough_alike met (Acting i) at =
      let other = other_there lines i (w i) (v i) at.spot (are_turned lines v w are i) at.here in
      record {
        no_recall = at.no_recall;
        started = met_started eager ranks lines s met;
        calm = met_calm eager ranks lines at.no_recall s met;
        orderly = λ none. met_orderly eager ranks lines at.no_recall i none s met;
        inside = at.inside;
        spot = other.0;
        here = other.1;
        settled = record {
          line = at.settled.line;
          command = at.settled.command;
          place = place_same lines v w are i other.0 at.spot (back i at.spot other.0 at.here other.1)
              ∙ at.settled.place;
          at = at.settled.at;
          settled = settled_by i other.0 at.spot
              (back i at.spot other.0 at.here other.1) at.settled.line at.settled.command
              at.settled.settled;
        };
      }
    where
      back : (i : ℕ) (y x : Spot) → slice_get t i ≡ Some y → slice_get s i ≡ Some x → IsAlike lines i x y
      back i y x there here =
          subst (λ (o : Option Spot). IsAlikeOr lines i o (Some y)) here
          (subst (λ (o : Option Spot). IsAlikeOr lines i (slice_get s i) o) there (are i))
  enough_alike met (Arriving i from) at =
      let other = other_there lines i (w i) (v i) at.is.spot (are_turned lines v w are i) at.is.here in
      record {
        no_recall = at.no_recall;
        started = met_started eager ranks lines s met;
        calm = met_calm eager ranks lines at.no_recall s met;
        orderly = met_orderly eager ranks lines at.no_recall i at.is.named.no_claim s met;
        arrival = at.arrival;
        is = record {
          inside = at.is.inside;
          low = at.is.low;
          spot = other.0;
          here = other.1;
          next = next_same lines v w are i from ∙ at.is.next;
          receive = at.is.receive;
          to = sym (takes_same lines i at.is.spot other.0 other.2 at.arrival) ∙ at.is.to;
          named = at.is.named;
        };
      }
  enough_alike met (Parting groups g) at =
      record {
        apart = at.apart;
        started = met_started eager ranks lines s met;
        inside = met_inside eager ranks lines groups at.apart s met;
        rank = at.rank;
        low = at.low;
        own = at.own;
        moves = λ rest. at.moves (rest_back at.rank rest);
      }
    where
      rest_back : (i : ℕ) → IsAtRest ranks lines v i → IsAtRest ranks lines w i
      rest_back i rest = record {
        held = λ spot here line c place own.
            let other = other_there lines i (w i) (v i) spot (are_turned lines v w are i) here in
            let held = rest.held other.0 other.1 line c
            (sym (place_same lines w v (are_turned lines v w are) i spot other.0 other.2) ∙ place) own in
            (held.0, answer_same lines w v (are_turned lines v w are) i spot other.0 other.2 line c ∙ held.1);
        messages = λ from low. sym (next_same lines v w are i from) ∙ rest.messages from low;
        free = λ from n. sym (withdrawn_same lines v w are i from n) ∙ rest.free from n;
      }

  -- those moves are made there, too
  pub makes_alike : (c : Choice) (u : List Spot) → Makes eager ranks lines c s u →
      (z : List Spot) × Makes eager ranks lines c t z × StatesAlike lines u z
  makes_alike (Acting i) u acts =
      let there = turn_alike i acts.0 acts.1 (move.Act acts.2) acts.3 in (
        slice_set t i (spot_after there.0 acts.2),
        (there.0, there.1, acts.2, there.2, refl),
        subst (λ (z : List Spot). StatesAlike lines z (slice_set t i (spot_after there.0 acts.2))) (sym acts.4) there.3,
      )
  makes_alike (Arriving i from) u comes =
      let other = other_there lines i (v i) (w i) comes.0 (are i) comes.1 in (
        slice_set t i (arrived_at other.0 comes.2),
        (other.0, other.1, comes.2, sym (next_same lines v w are i from) ∙ comes.3, refl),
        subst (λ (z : List Spot). StatesAlike lines z (slice_set t i (arrived_at other.0 comes.2))) (sym comes.4)
            (set_alike lines s t are i (arrived_at comes.0 comes.2) (arrived_at other.0 comes.2)
            (place_below s i comes.0 comes.1) (place_below t i other.0 other.1)
            (came_alike lines i comes.0 other.0 other.2 comes.2)),
      )
  makes_alike (Parting groups g) u makes =
      let there = turn_alike makes.0.rank makes.3.spot makes.3.here makes.0.by makes.3.choice in (
        slice_set t makes.0.rank (moved_at there.0 makes.0.by),
        (makes.0, makes.1, makes.2, record { spot = there.0; here = there.1; choice = there.2 }, refl),
        subst (λ (z : List Spot). StatesAlike lines z (slice_set t makes.0.rank (moved_at there.0 makes.0.by)))
            (sym makes.4) there.3,
      )

-- what is made is a move
pub makes_go : (eager ranks : ℕ) (lines : List Line) (c : Choice) (s u : List Spot) → AreEnoughAt ranks lines c s →
    Makes eager ranks lines c s u → Goes eager ranks lines s u
makes_go eager ranks lines (Acting i) s u at acts = (
  record { rank = i; by = move.Act acts.2 },
  at.inside,
  record { spot = acts.0; here = acts.1; choice = acts.3 },
  acts.4,
)
makes_go eager ranks lines (Arriving i from) s u at comes = (
  record { rank = i; by = move.Arrive comes.2 },
  at.is.inside,
  record {
    spot = comes.0;
    here = comes.1;
    choice = record { from = from; within = at.is.low; next = comes.3 };
  },
  comes.4,
)
makes_go eager ranks lines (Parting groups g) s u at makes = (makes.0, makes.1, makes.3, makes.4)

-- moves lead on
pub met_next : (eager ranks : ℕ) (lines : List Line) (s u : List Spot) → IsMet eager ranks lines s →
    Goes eager ranks lines s u → IsMet eager ranks lines u
met_next eager ranks lines s u met go = (go.0 ∷ met.0, (s, met.1, go.2, go.3))
