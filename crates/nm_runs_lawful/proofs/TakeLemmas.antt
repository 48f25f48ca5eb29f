-- A message and an open receive become a pair, and a message is withdrawn: the machine's moves. MPI 3.1, 3.5, 3.8.4.
use Rattle.std.proofs.Common.{◌≡◌, ℕ, zero, suc, ◌+◌, ◌<◌, ◌==◌, ◌&&◌, Bool, true, false, cond, not, Option, Some, None}
use Rattle.std.proofs.Common.{List, [], ◌∷◌, map, refl, ◌∙◌, ap, arith}
use Rattle.std.specs.Prelude.{option_and_then, option_map}
use Rattle.std.specs.List.{find, range_with_len, slice_get}
use Rattle.std.specs.Option.{option_map_or}
use Rattle.nm_types.specs.declared.scripts.Line.{Line}
use Rattle.nm_types.proofs.NumberLemmas.{eq_true}
use Rattle.nm_types.proofs.OptionLemmas.{no_some}
use Rattle.nm_lawful.specs.declared.messages.Message.{Message}
use Rattle.nm_lawful.specs.declared.messages.Pattern.{Pattern}
use Rattle.nm_lawful.specs.declared.messages.Request.{Request}
use Rattle.nm_lawful.specs.declared.messages.Standing.TheVariants as standing
use Rattle.nm_lawful.specs.declared.moves.Move.TheVariants as move
use Rattle.nm_lawful.specs.declared.states.Deed.{Deed}
use Rattle.nm_lawful.specs.declared.states.Deed.TheVariants as deed
use Rattle.nm_lawful.specs.Moves.{Goes, Report, deed_of_lem, is_first_lem, is_recalled_lem, pair_by_lem, pair_of_lem}
use Rattle.nm_lawful.specs.Moves.{withdrawal_of_lem}
use Rattle.nm_lawful.specs.Ranks.{RankState, cap_of_lem, first_to_lem, is_claimed_lem, pattern_of_lem}
use Rattle.nm_lawful.specs.Ranks.{receiver_of_lem, request_at_lem, selects_lem, with_standing, without_message}
use Rattle.nm_lawful.specs.States.{after_lem}
use Rattle.nm_runs_lawful.proofs.ChangeLemmas.{two_rows}
use Rattle.nm_runs_lawful.proofs.RunLemmas.{row_of}

-- what is found stands at a place
pub found_place : {X : Type 0} (test : X → Bool) (xs : List X) (x : X) → find test xs ≡ Some x →
    (k : ℕ) × (slice_get xs k ≡ Some x)
found_place test [] x found = absurd (no_some x found)
found_place {X} test (y ∷ ys) x found = by_test (test y) found (found_place test ys x)
  where
    by_test : (b : Bool) → cond b (Some y) (find test ys) ≡ Some x →
        (find test ys ≡ Some x → (k : ℕ) × (slice_get ys k ≡ Some x)) → (k : ℕ) × (slice_get (y ∷ ys) k ≡ Some x)
    by_test true found later = (zero, found)
    by_test false found later = let more = later found in (suc more.0, more.1)

module _ (lines : List Line) (told : Report) (ranks : ℕ) (f : ℕ → RankState) where
  abbrev rows : List RankState
  rows = map f (range_with_len 0 ranks)

  pub row_at : (k : ℕ) → k < ranks → slice_get (map f (range_with_len 0 ranks)) k ≡ Some (f k)
  row_at k low = row_of f k 0 ranks low ∙ ap (λ (n : ℕ). Some (f n)) (zero_add k)
    where
      zero_add : (n : ℕ) → 0 + n ≡ n
      zero_add n = omega arith

  -- the oldest open receive that selects a message takes it, if it is the first of its sender
  pub take_leads : (g : ℕ → RankState) (m : Message) (r : Request) (p : Pattern) → m.to < ranks → m.from < ranks →
      receiver_of_lem (f m.to) m ≡ Some r → pattern_of_lem r.standing ≡ Some p →
      first_to_lem (f m.from) m.to (f m.to) p ≡ Some m →
      ((k : ℕ) → g k
      ≡ cond (m.to == k) (with_standing r.place (standing.Taken (cap_of_lem r.standing) m)
      (cond (m.from == k) (without_message m.place (f k)) (f k)))
      (cond (m.from == k) (without_message m.place (f k)) (f k))) →
      Goes lines told None (map f (range_with_len 0 ranks)) (map g (range_with_len 0 ranks))
  take_leads g m r p low low' found opens first each = (
    move.Take m.from at.0,
    ap (λ (o : Option Deed). option_map (after_lem rows) o) deed_is
        ∙ ap (λ (s : List RankState). Some s)
        (two_rows f g (without_message m.place) (with_standing r.place (standing.Taken (cap_of_lem r.standing) m))
        m.from m.to ranks low' low each),
  )
    where
      at : (k : ℕ) × (slice_get (f m.from).outgoing k ≡ Some m)
      at =
          found_place (λ x. x.to == m.to && not (is_claimed_lem (f m.to) x) && selects_lem p x) (f m.from).outgoing m
          first

      is_first : is_first_lem (f m.from) (f m.to) m p ≡ true
      is_first =
          ap (λ (o : Option Message). option_map_or (λ x. x.place == m.place) o false) first
          ∙ eq_true m.place m.place refl

      deed_is : deed_of_lem lines told None rows (move.Take m.from at.0)
          ≡ Some (deed.Pair m r.place (cap_of_lem r.standing))
      deed_is =
          ap (λ (o : Option RankState). option_and_then
          (λ sender. option_and_then (pair_of_lem rows sender) (slice_get sender.outgoing at.0)) o) (row_at m.from low')
          ∙ ap (λ (o : Option Message). option_and_then (pair_of_lem rows (f m.from)) o) at.1
          ∙ ap (λ (o : Option RankState). option_and_then
          (λ receiver. option_and_then (pair_by_lem (f m.from) receiver m) (receiver_of_lem receiver m)) o)
          (row_at m.to low)
          ∙ ap (λ (o : Option Request). option_and_then (pair_by_lem (f m.from) (f m.to) m) o) found
          ∙ ap (λ (o : Option Pattern). option_and_then
          (λ p. cond (is_first_lem (f m.from) (f m.to) m p) (Some (deed.Pair m r.place (cap_of_lem r.standing))) None)
          o) opens
          ∙ ap (λ (b : Bool). cond b (Some (deed.Pair m r.place (cap_of_lem r.standing))) None) is_first

  -- a message that no handle has is withdrawn, if its send was recalled
  pub withdraw_leads : (g : ℕ → RankState) (m : Message) (k : ℕ) (r : Request) → m.to < ranks → m.from < ranks →
      slice_get (f m.from).outgoing k ≡ Some m → is_claimed_lem (f m.to) m ≡ false →
      request_at_lem (f m.from) m.place ≡ Some r → is_recalled_lem r.standing ≡ true →
      ((k : ℕ) → g k
      ≡ cond (m.from == k) (with_standing m.place standing.Withdrawn
      (cond (m.from == k) (without_message m.place (f k)) (f k)))
      (cond (m.from == k) (without_message m.place (f k)) (f k))) →
      Goes lines told None (map f (range_with_len 0 ranks)) (map g (range_with_len 0 ranks))
  withdraw_leads g m k r low low' at unclaimed found recalled each = (
    move.Withdraw m.from k,
    ap (λ (o : Option Deed). option_map (after_lem rows) o) deed_is
        ∙ ap (λ (s : List RankState). Some s)
        (two_rows f g (without_message m.place) (with_standing m.place standing.Withdrawn) m.from m.from ranks low' low'
        each),
  )
    where
      deed_is : deed_of_lem lines told None rows (move.Withdraw m.from k) ≡ Some (deed.Withdraw m)
      deed_is =
          ap (λ (o : Option RankState). option_and_then
          (λ sender. option_and_then (withdrawal_of_lem rows sender) (slice_get sender.outgoing k)) o)
          (row_at m.from low')
          ∙ ap (λ (o : Option Message). option_and_then (withdrawal_of_lem rows (f m.from)) o) at
          ∙ ap (λ (o : Option RankState). option_and_then
          (λ receiver. cond (not (is_claimed_lem receiver m)
          && option_map_or (λ r. is_recalled_lem r.standing) (request_at_lem (f m.from) m.place) false)
          (Some (deed.Withdraw m)) None) o) (row_at m.to low)
          ∙ ap (λ (b : Bool). cond (not b
          && option_map_or (λ r. is_recalled_lem r.standing) (request_at_lem (f m.from) m.place) false)
          (Some (deed.Withdraw m)) None) unclaimed
          ∙ ap (λ (o : Option Request). cond (option_map_or (λ r. is_recalled_lem r.standing) o false)
          (Some (deed.Withdraw m)) None) found
          ∙ ap (λ (b : Bool). cond b (Some (deed.Withdraw m)) None) recalled
