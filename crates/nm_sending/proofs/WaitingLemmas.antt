-- The eager messages that have not left, and how many messages have not left.
use Rattle.std.proofs.Common.{◌≡◌, ℕ, ◌+◌, ◌<◌, zero, suc, Bool, true, false, not, cond}
use Rattle.std.proofs.Common.{Some, List, [], ◌∷◌, ◌++◌, length, get_or, refl, sym, ◌∙◌, ap}
use Rattle.std.proofs.Common.{sum_by, arith}
use Rattle.std.specs.Prelude.{count_by}
use Rattle.std.specs.List.{slice_get}
use Rattle.std.proofs.Math.ListN.{set}
use Rattle.std.proofs.lemmas.List.Sums.{sum_by-set, sum_by_push}
use Rattle.std.proofs.lemmas.Option.{slice_get_within, get_or_from_slice_get}
use Rattle.nm_sending.specs.declared.departures.Departure.{Departure}
use Rattle.nm_sending.specs.Departures.{row_of, with_departure}
use Rattle.nm_sending.specs.Tables.{waits, waiting_from}

-- one message more
pub waiting-push : (k m : ℕ) (ds : List Departure) (d : Departure) → m ≡ k + length ds
    → waiting_from k (ds ++ d ∷ []) ≡ waiting_from k ds ++ cond (waits d) (m ∷ []) []
waiting-push k m [] d is = let e : k ≡ m = omega (arith, is) in ap (λ (x : ℕ). cond (waits d) (x ∷ []) []) e
waiting-push k m (x ∷ ds) d is =
    by_test (waits x) (waiting-push (k + 1) m ds d (omega (arith, is)))
  where
    by_test : (b : Bool) → waiting_from (k + 1) (ds ++ d ∷ [])
        ≡ waiting_from (k + 1) ds ++ cond (waits d) (m ∷ []) []
        → cond b (k ∷ waiting_from (k + 1) (ds ++ d ∷ [])) (waiting_from (k + 1) (ds ++ d ∷ []))
        ≡ cond b (k ∷ waiting_from (k + 1) ds) (waiting_from (k + 1) ds) ++ cond (waits d) (m ∷ []) []
    by_test true rest = ap (λ (ns : List ℕ). k ∷ ns) rest
    by_test false rest = rest

-- a message that waits as before
pub waiting-set : (k n : ℕ) (ds : List Departure) (d d' : Departure) → slice_get ds n ≡ Some d
    → waits d' ≡ waits d → waiting_from k (set ds n d') ≡ waiting_from k ds
waiting-set k n [] d d' at same = refl
waiting-set k zero (x ∷ ds) d d' at same =
    let is : x ≡ d = cc in
    ap (λ (b : Bool). cond b (k ∷ waiting_from (k + 1) ds) (waiting_from (k + 1) ds))
    (same ∙ ap waits (sym is))
waiting-set k (suc n) (x ∷ ds) d d' at same =
    ap (λ (ns : List ℕ). cond (waits x) (k ∷ ns) ns) (waiting-set (k + 1) n ds d d' at same)

-- the first message that waits, and those that wait when it has left
pub record First (k m : ℕ) (ds : List Departure) (rest : List ℕ) : Type 0 where
  pub place : ℕ
  pub is : m ≡ k + place
  pub message : Departure
  pub there : slice_get ds place ≡ Some message
  pub waiting : waits message ≡ true
  pub without : (d : Departure) → waits d ≡ false → waiting_from k (set ds place d) ≡ rest

pub waiting_first : (k m : ℕ) (ds : List Departure) (rest : List ℕ) → waiting_from k ds ≡ m ∷ rest
    → First k m ds rest
waiting_first k m [] rest list = absurd cc
waiting_first k m (x ∷ ds) rest list =
    by_test (waits x) refl list (λ later. waiting_first (k + 1) m ds rest later)
  where
    by_test : (b : Bool) → waits x ≡ b
        → cond b (k ∷ waiting_from (k + 1) ds) (waiting_from (k + 1) ds) ≡ m ∷ rest
        → (waiting_from (k + 1) ds ≡ m ∷ rest → First (k + 1) m ds rest) → First k m (x ∷ ds) rest
    by_test true w list again =
        let head : k ≡ m = cc in
        let tail : waiting_from (k + 1) ds ≡ rest = cc in
        record {
          place = 0;
          is = omega (arith, head);
          message = x;
          there = refl;
          waiting = w;
          without = λ d gone. ap (λ (b : Bool). cond b (k ∷ waiting_from (k + 1) ds)
              (waiting_from (k + 1) ds)) gone ∙ tail;
        }
    by_test false w list again =
        let later = again list in
        record {
          place = suc later.place;
          is = omega (arith, later.is);
          message = later.message;
          there = later.there;
          waiting = later.waiting;
          without = λ d gone. ap (λ (b : Bool). cond b (k ∷ waiting_from (k + 1) (set ds later.place d))
              (waiting_from (k + 1) (set ds later.place d))) w ∙ later.without d gone;
        }

-- where none waits, each message does not
pub none_waits : (k n : ℕ) (ds : List Departure) (d : Departure) → waiting_from k ds ≡ []
    → slice_get ds n ≡ Some d → waits d ≡ false
none_waits k n [] d none at = absurd cc
none_waits k n (x ∷ ds) d none at = by_test (waits x) refl none n at (λ m. none_waits (k + 1) m ds d)
  where
    by_test : (b : Bool) → waits x ≡ b
        → cond b (k ∷ waiting_from (k + 1) ds) (waiting_from (k + 1) ds) ≡ []
        → (n : ℕ) → slice_get (x ∷ ds) n ≡ Some d
        → ((m : ℕ) → waiting_from (k + 1) ds ≡ [] → slice_get ds m ≡ Some d → waits d ≡ false)
        → waits d ≡ false
    by_test true w none n at again = absurd cc
    by_test false w none zero at again = let is : x ≡ d = cc in ap waits (sym is) ∙ w
    by_test false w none (suc n) at again = again n none at

-- how many messages of a rank have not left
abbrev pub staying_in : List Departure → ℕ
staying_in ds = count_by (λ d. not d.out) ds

abbrev pub weight : Departure → ℕ
weight d = cond (not d.out) 1 0

-- of all ranks, where one message is replaced
pub staying-set : (rows : List (List Departure)) (to n : ℕ) (d d' : Departure) → to < length rows
    → slice_get (row_of rows to) n ≡ Some d
    → sum_by staying_in (with_departure rows to n d') + weight d ≡ sum_by staying_in rows + weight d'
staying-set rows to n d d' inside at =
    let row = row_of rows to in
    let all = sum_by-set staying_in rows to (set row n d') [] inside in
    let one = sum_by-set weight row n d' d (slice_get_within row n d at) in
    let is : get_or row n d ≡ d = get_or_from_slice_get row n d d at in
    let is' : weight (get_or row n d) ≡ weight d = ap weight is in
    omega (arith, all, one, is')

-- and where there is one message more
pub staying-push : (rows : List (List Departure)) (to : ℕ) (d : Departure) → to < length rows
    → sum_by staying_in (set rows to (row_of rows to ++ d ∷ [])) ≡ sum_by staying_in rows + weight d
staying-push rows to d inside =
    let row = row_of rows to in
    let all = sum_by-set staying_in rows to (row ++ d ∷ []) [] inside in
    let one : staying_in (row ++ d ∷ []) ≡ staying_in row + weight d = sum_by_push weight row d in
    omega (arith, all, one)
