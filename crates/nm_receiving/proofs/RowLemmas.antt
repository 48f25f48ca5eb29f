-- A list of lists, seen by what each holds, and what the tables of a row hold.
use Rattle.std.specs.Prelude.{IsSome, IsSomeAnd}
use Rattle.std.proofs.Common.{◌≡◌, ℕ, ◌+◌, ◌<◌, ◌≤◌, ◌^◌, ◌||◌, ◌⊎◌, inl, inr, subst, suc, zero, Bool, true, false}
use Rattle.std.proofs.Common.{Option, Some, None, List, [], ◌∷◌, ◌++◌, length, map, get_or, refl, sym, ◌∙◌, ap}
use Rattle.std.proofs.Common.{arith, length-append}
use Rattle.std.specs.List.{slice_get}
use Rattle.std.specs.Option.{option_map, option_map_or}
use Rattle.std.proofs.Math.ListN.{set}
use Rattle.std.proofs.lemmas.Bool.{cases_lt, false≢true, true≢false}
use Rattle.std.proofs.lemmas.List.{get_or_past, length-map, length-set, map-append}
use Rattle.std.proofs.lemmas.List.{map-set}
use Rattle.std.proofs.lemmas.List.Sums.{fold-append, prefix_len-le-length}
use Rattle.std.proofs.lemmas.Option.{same_Some, slice_get-map, slice_get_within}
use Rattle.nm_history.specs.Sends.{is_ask}
use Rattle.nm_history.proofs.Basic.{or_true}
use Rattle.nm_kept.specs.Keeping.{IsHeld, Keeping}
use Rattle.nm_receiving.specs.declared.receipts.Receipt.{Receipt}
use Rattle.nm_receiving.specs.declared.rows.Mark.{Mark}
use Rattle.nm_receiving.specs.Rows.{RowKeeps, is_settled, messages_after, messages_of, settled_before}
use Rattle.nm_receiving.specs.Steps.{made_whole, with_whole}
use Rattle.nm_types.proofs.OptionLemmas.{some_and}
use Rattle.nm_types.proofs.RowLemmas.{row_at}

-- an element that is there stands inside the list
some_inside : {X : Type 0} (xs : List X) (k : ℕ) (o : Option X) → slice_get xs k ≡ o → IsSome o
    → k < length xs
some_inside xs k None is there = absurd (false≢true there)
some_inside xs k (Some x) is there = slice_get_within xs k x is

pub some_within : {X : Type 0} (xs : List X) (k : ℕ) → IsSome (slice_get xs k) → k < length xs
some_within xs k there = some_inside xs k (slice_get xs k) refl there

-- a row that has an element at n
pub row_filled : {X Z : Type 0} (f : X → List Z) (rows : List X) (i n : ℕ) (row : X)
    → row ≡ get_or rows i row → IsSome (slice_get (get_or (map f rows) i []) n) →
    (get_or (map f rows) i [] ≡ f row) × (n < length (f row))
row_filled f rows i n row read there = by_place (cases_lt i (length rows)) where
  filled : i < length rows → (get_or (map f rows) i [] ≡ f row) × (n < length (f row))
  filled inside =
      let is : get_or (map f rows) i [] ≡ f row = row_at f rows i row [] inside read in
      (is, subst (λ ys. n < length ys) is (some_within (get_or (map f rows) i []) n there))

  by_place : (i < length rows) ⊎ (length rows ≤ i)
      → (get_or (map f rows) i [] ≡ f row) × (n < length (f row))
  by_place (inl inside) = filled inside
  by_place (inr past) =
      let none : get_or (map f rows) i [] ≡ [] =
      get_or_past (map f rows) i [] (omega (arith, length-map rows f)) in
      absurd (false≢true (subst (λ ys. IsSome (slice_get ys n)) none there))

-- a message of a row that is whole
pub row-whole : {X : Type 0} (f : X → List Receipt) (rows : List X) (i n : ℕ) (row new : X)
    → row ≡ get_or rows i row → IsSome (slice_get (get_or (map f rows) i []) n)
    → f new ≡ with_whole (f row) n
    → map f (set rows i new) ≡ set (map f rows) i (with_whole (get_or (map f rows) i []) n)
row-whole f rows i n row new read there changed =
    let filled = row_filled f rows i n row read there in
    map-set f rows i new
    ∙ ap (λ (zs : List Receipt). set (map f rows) i zs)
    (changed ∙ sym (ap (λ (zs : List Receipt). with_whole zs n) filled.0))

-- the messages after one thing more was noted
pub messages-note : (marks : List Mark) (m : Mark)
    → messages_of (marks ++ m ∷ []) ≡ messages_after (messages_of marks) m
messages-note marks m = fold-append (λ (rs : List Receipt) (m : Mark). messages_after rs m) [] marks (m ∷ [])

-- no more are settled at the front than there are
pub settled-few : (bs : List Bool) → settled_before bs ≤ length bs
settled-few bs = prefix_len-le-length (λ b. b) bs

-- where the first in memory is not settled, all before it are
pub settled-stays : (bs : List Bool) (k : ℕ) → k ≤ settled_before bs
    → option_map_or (λ b. b) (slice_get bs k) false ≡ false → k ≡ settled_before bs
settled-stays [] k low stays = omega (arith, low)
settled-stays (false ∷ bs) k low stays = omega (arith, low)
settled-stays (true ∷ bs) zero low stays = absurd (true≢false stays)
settled-stays (true ∷ bs) (suc k) low stays =
    let rest = settled-stays bs k (omega (arith, low)) stays in omega (arith, rest)

-- and where it is settled, so are all up to it
pub settled-goes : (bs : List Bool) (k : ℕ) → k ≤ settled_before bs
    → option_map_or (λ b. b) (slice_get bs k) false ≡ true → k + 1 ≤ settled_before bs
settled-goes [] k low goes = absurd (false≢true goes)
settled-goes (false ∷ bs) zero low goes = absurd (false≢true goes)
settled-goes (false ∷ bs) (suc k) low goes = absurd (let h : ⊥ = omega (arith, low) in h)
settled-goes (true ∷ bs) zero low goes = omega arith
settled-goes (true ∷ bs) (suc k) low goes =
    let rest = settled-goes bs k (omega (arith, low)) goes in omega (arith, rest)

-- each of those at the front is settled
settled-there : (bs : List Bool) (n : ℕ) → n < settled_before bs → slice_get bs n ≡ Some true
settled-there [] n lt = absurd (let h : ⊥ = omega (arith, lt) in h)
settled-there (false ∷ bs) n lt = absurd (let h : ⊥ = omega (arith, lt) in h)
settled-there (true ∷ bs) zero lt = refl
settled-there (true ∷ bs) (suc n) lt = settled-there bs n (omega (arith, lt))

-- so nothing changes where one of them is settled again
pub settled-again : (bs : List Bool) (n : ℕ) → n < settled_before bs → bs ≡ set bs n true
settled-again [] n lt = absurd (let h : ⊥ = omega (arith, lt) in h)
settled-again (false ∷ bs) n lt = absurd (let h : ⊥ = omega (arith, lt) in h)
settled-again (true ∷ bs) zero lt = refl
settled-again (true ∷ bs) (suc n) lt = ap (λ (l : List Bool). true ∷ l) (settled-again bs n (omega (arith, lt)))

-- where one more is settled, no fewer are at the front
pub settled-set : (bs : List Bool) (n : ℕ) → settled_before bs ≤ settled_before (set bs n true)
settled-set [] n = omega arith
settled-set (false ∷ bs) n = omega arith
settled-set (true ∷ bs) zero = omega arith
settled-set (true ∷ bs) (suc n) = let rest = settled-set bs n in omega (arith, rest)

-- and where one more comes
pub settled-push : (bs : List Bool) (c : Bool) → settled_before bs ≤ settled_before (bs ++ c ∷ [])
settled-push [] c = omega arith
settled-push (false ∷ bs) c = omega arith
settled-push (true ∷ bs) c = let rest = settled-push bs c in omega (arith, rest)

-- a message before the first in memory is settled
pub gone-before : (settled : Keeping Bool) (n : ℕ) → settled.forgotten ≡ settled_before settled.items
    → n < length settled.items → (IsHeld settled n → ⊥) → n < settled_before settled.items
gone-before settled n first within gone = by (cases_lt n settled.forgotten)
  where
    by : (n < settled.forgotten) ⊎ (settled.forgotten ≤ n) → n < settled_before settled.items
    by (inl less) = omega (arith, less, first)
    by (inr most) = absurd (gone (record { behind = most; within = within }))

-- a message that is whole is settled
settled-whole : (rs : List Receipt) (n : ℕ) → set (map is_settled rs) n true ≡ map is_settled (with_whole rs n)
settled-whole [] n = refl
settled-whole (r ∷ rs) zero = ap (λ (b : Bool). b ∷ map is_settled rs) (sym (or_true (is_ask r.arrival.env.how)))
settled-whole (r ∷ rs) (suc n) =
    ap (λ (bs : List Bool). is_settled r ∷ bs) (settled-whole rs n)
    ∙ ap (λ (qs : List Receipt). map is_settled qs) (behind r rs n)
  where
    behind : (r : Receipt) (rs : List Receipt) (n : ℕ) → r ∷ with_whole rs n ≡ with_whole (r ∷ rs) (suc n)
    behind r rs n = by (slice_get rs n) where
      by : (o : Option Receipt) → r ∷ option_map_or (λ q. set rs n (made_whole q)) o rs
          ≡ option_map_or (λ q. set (r ∷ rs) (suc n) (made_whole q)) o (r ∷ rs)
      by None = refl
      by (Some q) = refl

-- the row with one message more
pub keeps-push : (rs : List Receipt) (old mid new : Keeping Bool) (r : Receipt) → RowKeeps rs old
    → mid.items ≡ old.items ++ is_settled r ∷ [] → new.items ≡ mid.items
    → new.forgotten ≡ settled_before mid.items → length rs + 1 < 2 ^ 64 → RowKeeps (rs ++ r ∷ []) new
keeps-push rs old mid new r keeps pushed same first few =
    let more : length (old.items ++ is_settled r ∷ []) ≡ length old.items + 1 =
    length-append old.items (is_settled r ∷ []) in
    let many : length old.items ≡ length rs =
    ap (λ (bs : List Bool). length bs) keeps.each ∙ length-map rs is_settled in
    let now : length new.items ≡ length (old.items ++ is_settled r ∷ []) =
    ap (λ (bs : List Bool). length bs) (same ∙ pushed) in
    record {
      each = same ∙ pushed ∙ ap (λ (bs : List Bool). bs ++ is_settled r ∷ []) keeps.each
          ∙ sym (map-append is_settled rs (r ∷ []));
      first = first ∙ ap settled_before (sym same);
      few = omega (arith, more, many, now, few);
    }

-- the row where message n is whole
pub keeps-whole : (rs : List Receipt) (old new : Keeping Bool) (n : ℕ) → RowKeeps rs old
    → new.items ≡ set old.items n true → new.forgotten ≡ settled_before new.items → RowKeeps (with_whole rs n) new
keeps-whole rs old new n keeps changed first =
    let many : length new.items ≡ length old.items =
    ap (λ (bs : List Bool). length bs) changed ∙ length-set old.items n true in
    let few = keeps.few in
    record {
      each = changed ∙ ap (λ (bs : List Bool). set bs n true) keeps.each ∙ settled-whole rs n;
      first = first;
      few = omega (arith, many, few);
    }

-- an eager message is whole where it is settled
pub told-whole : (rs : List Receipt) (bs : List Bool) (n : ℕ) (b : Bool) → bs ≡ map is_settled rs
    → IsSomeAnd (slice_get rs n) (λ r. is_ask r.arrival.env.how ≡ false) → slice_get bs n ≡ Some b
    → b ≡ option_map_or (λ r. r.whole) (slice_get rs n) false
told-whole rs bs n b each eager there =
    let r = some_and (λ (r : Receipt). is_ask r.arrival.env.how ≡ false) (slice_get rs n) eager in
    same_Some b (is_settled r.0)
    (sym there ∙ ap (λ (l : List Bool). slice_get l n) each ∙ slice_get-map is_settled rs n
    ∙ ap (λ (o : Option Receipt). option_map is_settled o) r.1)
    ∙ ap (λ (c : Bool). c || r.0.whole) r.2
    ∙ sym (ap (λ (o : Option Receipt). option_map_or (λ r. r.whole) o false) r.1)

-- and so is one that was let go
pub gone-whole : (rs : List Receipt) (settled : Keeping Bool) (n : ℕ) → RowKeeps rs settled
    → IsSomeAnd (slice_get rs n) (λ r. is_ask r.arrival.env.how ≡ false) → (IsHeld settled n → ⊥)
    → true ≡ option_map_or (λ r. r.whole) (slice_get rs n) false
gone-whole rs settled n keeps eager gone =
    let r = some_and (λ (r : Receipt). is_ask r.arrival.env.how ≡ false) (slice_get rs n) eager in
    let many : length settled.items ≡ length rs =
    ap (λ (bs : List Bool). length bs) keeps.each ∙ length-map rs is_settled in
    let within : n < length settled.items = omega (arith, many, slice_get_within rs n r.0 r.1) in
    told-whole rs settled.items n true keeps.each eager
    (settled-there settled.items n (gone-before settled n keeps.first within gone))
