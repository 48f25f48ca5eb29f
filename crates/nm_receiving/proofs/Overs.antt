-- Receives whose results were given are complete, and stay so.
use Rattle.std.proofs.Common.{◌≡◌, ℕ, Bool, true, false, ◌||◌, Option, Some, None, List, [], ◌∷◌, ◌++◌}
use Rattle.std.proofs.Common.{length, map, ◌⊎◌, inl, inr, refl, sym, ◌∙◌, ap}
use Rattle.std.specs.List.{find, slice_get}
use Rattle.std.specs.Option.{option_map, option_map_or, option_or}
use Rattle.std.proofs.Math.ListN.{set}
use Rattle.std.proofs.Math.Seq.{map-set_same}
use Rattle.std.proofs.lemmas.Bool.{cases_eq, false≢true, true≢false}
use Rattle.std.proofs.lemmas.List.Folds.{find-append}
use Rattle.std.proofs.lemmas.Option.{get_or_from_slice_get, slice_get-map}
use Rattle.nm_types.specs.declared.messages.Arrival.{Arrival}
use Rattle.nm_history.specs.declared.events.Event.{Event}
use Rattle.nm_history.specs.declared.plain.Pair.{Pair}
use Rattle.nm_history.specs.Completion.{is_complete, is_here, pair_of_receive}
use Rattle.nm_history.specs.Completion.Request.{Receiving}
use Rattle.nm_history.specs.Happens.{happened, is_cancel, is_whole}
use Rattle.nm_history.specs.Matching.{is_of_receive, matched_pairs}
use Rattle.nm_history.proofs.Basic.{or_true}
use Rattle.nm_history.proofs.MatchingLemmas.{matched_pairs-append}
use Rattle.nm_receiving.specs.declared.receipts.Receive.{Receive}
use Rattle.nm_receiving.specs.Receives.{has_ended_at}
use Rattle.nm_receiving.specs.Steps.{has_cancelled, has_ended, has_taken, with_taken}
use Rattle.nm_receiving.proofs.Grow.{happened_later}
use Rattle.nm_receiving.proofs.Lists.{slice_get-last, slice_get-push_other}
use Rattle.nm_types.proofs.ListLemmas.{get_set_other}

-- a receive that took a message has it for good
pair_later : (h more : List Event) (number : ℕ) (p : Pair) → pair_of_receive h number ≡ Some p
    → pair_of_receive (h ++ more) number ≡ Some p
pair_later h more number p is =
    let rest = matched_pairs-append h more in
    ap (λ (ps : List Pair). find (is_of_receive number) ps) rest.1
    ∙ find-append (is_of_receive number) (matched_pairs h) rest.0
    ∙ ap (λ (o : Option Pair). option_or o (find (is_of_receive number) rest.0)) is

-- a receive that is complete stays so (MPI 3.1, section 3.7.3)
pub complete_later : (h more : List Event) (number : ℕ) → is_complete h (Receiving number) ≡ true
    → is_complete (h ++ more) (Receiving number) ≡ true
complete_later h more number is = by (happened (is_cancel number) h) refl is
  where
    by_pair : (o : Option Pair) → pair_of_receive h number ≡ o → option_map_or (is_here h) o false ≡ true
        → is_complete (h ++ more) (Receiving number) ≡ true
    by_pair None was here = absurd (false≢true here)
    by_pair (Some p) was here =
        ap (λ (o : Option Pair). happened (is_cancel number) (h ++ more) || option_map_or (is_here (h ++ more)) o false)
        (pair_later h more number p was)
        ∙ ap (λ (b : Bool). happened (is_cancel number) (h ++ more) || b)
        (happened_later (is_whole p.arrival.env.from p.arrival.n) h more here)
        ∙ or_true (happened (is_cancel number) (h ++ more))

    by : (b : Bool) → happened (is_cancel number) h ≡ b
        → (b || option_map_or (is_here h) (pair_of_receive h number) false) ≡ true
        → is_complete (h ++ more) (Receiving number) ≡ true
    by true was _ =
        ap (λ (b : Bool). b || option_map_or (is_here (h ++ more)) (pair_of_receive (h ++ more) number) false)
        (happened_later (is_cancel number) h more was)
    by false was here = by_pair (pair_of_receive h number) refl here

-- an open receive is not complete
pub open_incomplete : (h : List Event) (number : ℕ) → pair_of_receive h number ≡ None
    → happened (is_cancel number) h ≡ false → is_complete h (Receiving number) ≡ false
open_incomplete h number untaken uncancelled =
    ap (λ (b : Bool). b || option_map_or (is_here h) (pair_of_receive h number) false) uncancelled
    ∙ ap (λ (o : Option Pair). option_map_or (is_here h) o false) untaken

-- which receives ended stands in the list of what ended
ended_by : (rs : List Receive) (k : ℕ)
    → has_ended_at rs k ≡ option_map_or (λ b. b) (slice_get (map (λ r. r.ended) rs) k) false
ended_by rs k = by (slice_get rs k) ∙ ap (λ (o : Option Bool). option_map_or (λ b. b) o false)
    (sym (slice_get-map (λ (r : Receive). r.ended) rs k))
  where
    by : (o : Option Receive) → option_map_or (λ r. r.ended) o false
        ≡ option_map_or (λ b. b) (option_map (λ (r : Receive). r.ended) o) false
    by None = refl
    by (Some r) = refl

-- where the same receives ended, those that ended did before
pub ended_same : (rs rs' : List Receive) → map (λ r. r.ended) rs' ≡ map (λ r. r.ended) rs
    → (k : ℕ) → has_ended_at rs' k ≡ true → has_ended_at rs k ≡ true
ended_same rs rs' same k is =
    ended_by rs k ∙ ap (λ (bs : List Bool). option_map_or (λ b. b) (slice_get bs k) false) (sym same)
    ∙ sym (ended_by rs' k) ∙ is

-- a receive that takes a message did not end by that
pub taken_ended : (rs : List Receive) (taker : Option ℕ) (a : Arrival) → map (λ r. r.ended) (with_taken rs taker a)
    ≡ map (λ r. r.ended) rs
taken_ended rs None a = refl
taken_ended rs (Some k) a = by (slice_get rs k) refl
  where
    by : (o : Option Receive) → slice_get rs k ≡ o →
        map (λ r. r.ended) (option_map_or (λ r. set rs k (has_taken a r)) o rs) ≡ map (λ r. r.ended) rs
    by None is = refl
    by (Some r) is = map-set_same (λ (r : Receive). r.ended) rs k (has_taken a r) r
        (ap (λ (r : Receive). r.ended) (sym (get_or_from_slice_get rs k r r is)))

-- a receive that is cancelled did not end by that
pub cancelled_ended : (rs : List Receive) (number : ℕ) (r : Receive) → slice_get rs number ≡ Some r
    → map (λ r. r.ended) (set rs number (has_cancelled r)) ≡ map (λ r. r.ended) rs
cancelled_ended rs number r here =
    map-set_same (λ (r : Receive). r.ended) rs number (has_cancelled r) r
    (ap (λ (r : Receive). r.ended) (sym (get_or_from_slice_get rs number r r here)))

-- a receive that begins did not end
pub begun_ended : (rs : List Receive) (r : Receive) → r.ended ≡ false → (k : ℕ)
    → has_ended_at (rs ++ r ∷ []) k ≡ true → has_ended_at rs k ≡ true
begun_ended rs r live k is = by (cases_eq k (length rs))
  where
    by : (k ≡ length rs) ⊎ (k ≡ length rs → ⊥) → has_ended_at rs k ≡ true
    by (inl last) = absurd (true≢false (sym is
        ∙ ap (λ (o : Option Receive). option_map_or (λ r. r.ended) o false) (slice_get-last rs r k last) ∙ live))
    by (inr other) = ap (λ (o : Option Receive). option_map_or (λ r. r.ended) o false)
        (sym (slice_get-push_other rs r k other)) ∙ is

-- of the receives one more ended
pub over-ended : (rs : List Receive) (h : List Event) (number : ℕ) (r : Receive) → slice_get rs number ≡ Some r
    → is_complete h (Receiving number) ≡ true
    → ((k : ℕ) → has_ended_at rs k ≡ true → is_complete h (Receiving k) ≡ true)
    → (k : ℕ) → has_ended_at (set rs number (has_ended r)) k ≡ true → is_complete h (Receiving k) ≡ true
over-ended rs h number r here complete over k is = by (cases_eq k number)
  where
    by : (k ≡ number) ⊎ (k ≡ number → ⊥) → is_complete h (Receiving k) ≡ true
    by (inl same) = ap (λ (j : ℕ). is_complete h (Receiving j)) same ∙ complete
    by (inr other) = over k (ap (λ (o : Option Receive). option_map_or (λ r. r.ended) o false)
        (sym (get_set_other rs number k (has_ended r) other)) ∙ is)
