-- Entries by number, when one of them is put or changed.
use Rattle.std.proofs.Common.{◌≡◌, ℕ, ◌+◌, ◌++◌, [], ◌∷◌, Bool, true, false, cond, List, length, nat_eq}
use Rattle.std.proofs.Common.{Option, Some, None, IsSome, is_some, refl, sym, ap, ◌∙◌, true≢false}
use Rattle.std.proofs.Common.{arith, sum_by, count_by, length-append, subst}
use Rattle.std.proofs.lemmas.List.{map-append}
use Rattle.std.proofs.lemmas.List.Sums.{fold-append, sum_by_push}
use Rattle.std.proofs.lemmas.Map.{keys-set_value, length-set_value, lookup-set_value}
use Rattle.std.proofs.lemmas.Map.Entries.{sum_by-set_value}
use Rattle.std.proofs.lemmas.Map.Keys.{IsDistinct-push}
use Rattle.std.proofs.lemmas.Map.Made.{is_some-lookup}
use Rattle.std.specs.Cmp.{nat_eq_equiv}
use Rattle.std.specs.List.{IsDistinct}
use Rattle.std.specs.Map.{keys_of, lookup, set_value, values_of}
use Rattle.std.specs.Option.{option_map_or}
use Rattle.indexmap.specs.IndexMap.{insert_entry}
use Rattle.nm_types.proofs.NumberLemmas.{eq_true, same_number}
use Rattle.nm_kept.specs.Entering.{Entering, noted, kept_if, AreLive, SetsLive}

module _ {X : Type 0} (n : ℕ) (v : X) where
  -- a new number goes behind the others
  pub insert_new : (es : List (ℕ × X)) → lookup (nat_eq n) es ≡ None → insert_entry nat_eq es n v ≡ es ++ (n, v) ∷ []
  insert_new [] none = refl
  insert_new (e ∷ es) none = by (nat_eq n e.0) none (insert_new es)
    where
      by : (b : Bool) → cond b (Some e.1) (lookup (nat_eq n) es) ≡ None
          → (lookup (nat_eq n) es ≡ None → insert_entry nat_eq es n v ≡ es ++ (n, v) ∷ [])
          → cond b ((e.0, v) ∷ es) (e ∷ insert_entry nat_eq es n v) ≡ e ∷ es ++ (n, v) ∷ []
      by true none rest = absurd cc
      by false none rest = ap (λ l. e ∷ l) (rest none)

  -- one that is there gets the value
  insert_known : (es : List (ℕ × X)) → IsSome (lookup (nat_eq n) es)
      → insert_entry nat_eq es n v ≡ set_value (nat_eq n) es v
  insert_known [] there = absurd (true≢false (sym there))
  insert_known (e ∷ es) there = by (nat_eq n e.0) there (insert_known es)
    where
      by : (b : Bool) → IsSome (cond b (Some e.1) (lookup (nat_eq n) es))
          → (IsSome (lookup (nat_eq n) es) → insert_entry nat_eq es n v ≡ set_value (nat_eq n) es v)
          → cond b ((e.0, v) ∷ es) (e ∷ insert_entry nat_eq es n v)
          ≡ cond b ((e.0, v) ∷ es) (e ∷ set_value (nat_eq n) es v)
      by true there rest = refl
      by false there rest = ap (λ l. e ∷ l) (rest there)

  module _ (log : List (ℕ × X)) where
    noted_push : noted (log ++ (n, v) ∷ []) ≡ insert_entry nat_eq (noted log) n v
    noted_push =
        fold-append (λ (done : List (ℕ × X)) (p : ℕ × X). insert_entry nat_eq done p.0 p.1) [] log ((n, v) ∷ [])

    -- the entries after one more was put
    pub noted_new : lookup (nat_eq n) (noted log) ≡ None → noted (log ++ (n, v) ∷ []) ≡ noted log ++ (n, v) ∷ []
    noted_new none = noted_push ∙ insert_new (noted log) none

    -- and after one was set
    pub noted_set : IsSome (lookup (nat_eq n) (noted log))
        → noted (log ++ (n, v) ∷ []) ≡ set_value (nat_eq n) (noted log) v
    noted_set there = noted_push ∙ insert_known (noted log) there

-- what is found where one entry more stands behind the others
pub lookup-more : {X : Type 0} (es : List (ℕ × X)) (n : ℕ) (v : X) → lookup (nat_eq n) es ≡ None → (q : ℕ)
    → lookup (nat_eq q) (es ++ (n, v) ∷ []) ≡ cond (nat_eq n q) (Some v) (lookup (nat_eq q) es)
lookup-more {X} [] n v none q = ap (λ b. cond b (Some v) None) (nat_eq_equiv.symm q n)
lookup-more {X} (e ∷ es) n v none q = by (nat_eq n e.0) refl none (λ absent. lookup-more es n v absent q)
  where
    with_q : nat_eq n e.0 ≡ false → (c : Bool) → nat_eq q e.0 ≡ c → (d : Bool) → nat_eq n q ≡ d
        → lookup (nat_eq q) (es ++ (n, v) ∷ []) ≡ cond d (Some v) (lookup (nat_eq q) es)
        → cond c (Some e.1) (lookup (nat_eq q) (es ++ (n, v) ∷ []))
        ≡ cond d (Some v) (cond c (Some e.1) (lookup (nat_eq q) es))
    with_q other true at true same rest =
        absurd (true≢false (sym at ∙ ap (λ k. nat_eq k e.0) (sym (same_number n q same)) ∙ other))
    with_q other true at false same rest = refl
    with_q other false at d same rest = rest

    by : (b : Bool) → nat_eq n e.0 ≡ b → cond b (Some e.1) (lookup (nat_eq n) es) ≡ None
        → (lookup (nat_eq n) es ≡ None → lookup (nat_eq q) (es ++ (n, v) ∷ [])
        ≡ cond (nat_eq n q) (Some v) (lookup (nat_eq q) es))
        → cond (nat_eq q e.0) (Some e.1) (lookup (nat_eq q) (es ++ (n, v) ∷ []))
        ≡ cond (nat_eq n q) (Some v) (cond (nat_eq q e.0) (Some e.1) (lookup (nat_eq q) es))
    by true is none rest = absurd cc
    by false other none rest = with_q other (nat_eq q e.0) refl (nat_eq n q) refl (rest none)

-- what is found where one entry was set
pub lookup-set : {X : Type 0} (es : List (ℕ × X)) (n : ℕ) (w : X) → IsSome (lookup (nat_eq n) es) → (q : ℕ)
    → lookup (nat_eq q) (set_value (nat_eq n) es w) ≡ cond (nat_eq n q) (Some w) (lookup (nat_eq q) es)
lookup-set es n w there q =
    let one : (x y : ℕ) → nat_eq n x ≡ true → nat_eq n y ≡ nat_eq x y =
    λ x y h. ap (λ k. nat_eq k y) (same_number n x h) in
    lookup-set_value nat_eq_equiv (nat_eq n) one q w es there

-- a value that is set after another is the one that stays
pub set_value-twice : {X : Type 0} (n : ℕ) (v w : X) (es : List (ℕ × X))
    → set_value (nat_eq n) (set_value (nat_eq n) es v) w ≡ set_value (nat_eq n) es w
set_value-twice n v w [] = refl
set_value-twice n v w (e ∷ es) = by (nat_eq n e.0) refl (set_value-twice n v w es)
  where
    by : (b : Bool) → nat_eq n e.0 ≡ b
        → set_value (nat_eq n) (set_value (nat_eq n) es v) w ≡ set_value (nat_eq n) es w
        → set_value (nat_eq n) (cond b ((e.0, v) ∷ es) (e ∷ set_value (nat_eq n) es v)) w
        ≡ cond b ((e.0, w) ∷ es) (e ∷ set_value (nat_eq n) es w)
    by true at rest = ap (λ b. cond b ((e.0, w) ∷ es) ((e.0, v) ∷ set_value (nat_eq n) es w)) at
    by false at rest =
        ap (λ b. cond b ((e.0, w) ∷ set_value (nat_eq n) es v)
        (e ∷ set_value (nat_eq n) (set_value (nat_eq n) es v) w)) at
        ∙ ap (λ l. e ∷ l) rest

module _ {X : Type 0} (lives : X → Bool) where
  abbrev weigh : X → ℕ
  weigh x = cond (lives x) 1 0

  -- what is kept of what is there passes
  pub kept_passes : (o : Option X) (x : X) → kept_if lives o ≡ Some x → (o ≡ Some x) × (lives x ≡ true)
  kept_passes None x is = absurd cc
  kept_passes (Some y) x is = by (lives y) refl is
    where
      by : (b : Bool) → lives y ≡ b → cond b (Some y) None ≡ Some x → (Some y ≡ Some x) × (lives x ≡ true)
      by true e is = let same : y ≡ x = cc in (ap Some same, ap lives (sym same) ∙ e)
      by false e is = absurd cc

  -- what is there and passes is kept
  pub kept_there : (o : Option X) (x : X) → o ≡ Some x → lives x ≡ true → kept_if lives o ≡ Some x
  kept_there o x is passes = ap (kept_if lives) is ∙ ap (λ b. cond b (Some x) None) passes

  -- what is kept is there exactly where what it is of passes
  pub kept_seen : (o : Option X) → is_some (kept_if lives o) ≡ option_map_or lives o false
  kept_seen None = refl
  kept_seen (Some x) = by (lives x)
    where
      by : (b : Bool) → is_some (cond b (Some x) None) ≡ b
      by true = refl
      by false = refl

  -- a test that only values that are kept pass
  pub test_kept : (test : X → Bool) → ((x : X) → lives x ≡ false → test x ≡ false) → (o : Option X)
      → option_map_or test (kept_if lives o) false ≡ option_map_or test o false
  test_kept test only None = refl
  test_kept test only (Some x) = by (lives x) refl
    where
      by : (b : Bool) → lives x ≡ b → option_map_or test (cond b (Some x) None) false ≡ test x
      by true e = refl
      by false e = sym (only x e)

  -- nothing is live where there is nothing
  pub live_none : (e : Entering X) → e.entries ≡ [] → e.live ≡ [] → AreLive lives e
  unfolding IsDistinct
  live_none e none no_live = record {
    there = λ n. ap (lookup (nat_eq n)) no_live ∙ sym (ap (λ es. kept_if lives (lookup (nat_eq n) es)) none);
    many = ap length no_live ∙ sym (ap (λ es. count_by lives (values_of es)) none);
    distinct = subst (λ es. IsDistinct nat_eq (keys_of es)) (sym none) tt;
  }

  -- what is there and passes
  passing : (o : Option X) → option_map_or lives o false ≡ true → (x : X) × (o ≡ Some x) × (lives x ≡ true)
  passing None h = absurd (true≢false (sym h))
  passing (Some x) h = (x, refl, h)

  -- where entries and memory are the same, the same holds
  pub live_same : (e e' : Entering X) → AreLive lives e → e'.entries ≡ e.entries → e'.live ≡ e.live → AreLive lives e'
  live_same e e' are entries live = record {
    there = λ n. ap (lookup (nat_eq n)) live ∙ are.there n
        ∙ sym (ap (λ es. kept_if lives (lookup (nat_eq n) es)) entries);
    many = ap length live ∙ are.many ∙ sym (ap (λ es. count_by lives (values_of es)) entries);
    distinct = subst (λ es. IsDistinct nat_eq (keys_of es)) (sym entries) are.distinct;
  }

  module _ (e : Entering X) (are : AreLive lives e) (n : ℕ) where
    -- an entry that passes is in memory
    pub in_memory : option_map_or lives (lookup (nat_eq n) e.entries) false ≡ true
        → (x : X) × (lookup (nat_eq n) e.entries ≡ Some x) × (lookup (nat_eq n) e.live ≡ Some x) × (lives x ≡ true)
    in_memory h =
        let p = passing (lookup (nat_eq n) e.entries) h in
        (p.0, p.1, are.there n ∙ kept_there (lookup (nat_eq n) e.entries) p.0 p.1 p.2, p.2)

    -- and so is one that was set to a value that passes
    pub passes_set : (e' : Entering X) (w : X) → IsSome (lookup (nat_eq n) e.entries)
        → e'.entries ≡ set_value (nat_eq n) e.entries w → lives w ≡ true
        → option_map_or lives (lookup (nat_eq n) e'.entries) false ≡ true
    passes_set e' w there entries passes =
        ap (λ es. option_map_or lives (lookup (nat_eq n) es) false) entries
        ∙ ap (λ o. option_map_or lives o false) (lookup-set e.entries n w there n)
        ∙ ap (λ b. option_map_or lives (cond b (Some w) (lookup (nat_eq n) e.entries)) false) (eq_true n n refl)
        ∙ passes

    -- a number with no entry is not in memory
    pub absent : lookup (nat_eq n) e.entries ≡ None → lookup (nat_eq n) e.live ≡ None
    absent none = are.there n ∙ ap (kept_if lives) none

    module _ (e' : Entering X) (w : X) where
      -- an entry that is live is put
      pub live_put : lookup (nat_eq n) e.entries ≡ None → lives w ≡ true → e'.entries ≡ e.entries ++ (n, w) ∷ []
          → e'.live ≡ e.live ++ (n, w) ∷ [] → AreLive lives e'
      live_put none passes entries live = record {
        there = there';
        many = ap length live ∙ length-append e.live ((n, w) ∷ []) ∙ ap (λ k. k + 1) are.many
            ∙ sym (ap (λ es. count_by lives (values_of es)) entries
            ∙ ap (sum_by weigh) (map-append (λ (p : ℕ × X). p.1) e.entries ((n, w) ∷ []))
            ∙ sum_by_push weigh (values_of e.entries) w
            ∙ ap {B = ℕ} (λ b. sum_by weigh (values_of e.entries) + cond b 1 0) passes);
        distinct = subst (λ es. IsDistinct nat_eq (keys_of es)) (sym entries)
            (subst (IsDistinct nat_eq) (sym (map-append (λ (p : ℕ × X). p.0) e.entries ((n, w) ∷ [])))
            (IsDistinct-push nat_eq_equiv (keys_of e.entries) n are.distinct
            (sym (is_some-lookup (nat_eq n) e.entries) ∙ ap is_some none)));
      }
        where
          there' : (q : ℕ) → lookup (nat_eq q) e'.live ≡ kept_if lives (lookup (nat_eq q) e'.entries)
          there' q =
              ap (lookup (nat_eq q)) live ∙ lookup-more e.live n w (absent none) q
              ∙ by (nat_eq n q)
              ∙ sym (ap (kept_if lives) (ap (lookup (nat_eq q)) entries ∙ lookup-more e.entries n w none q))
            where
              by : (b : Bool) → cond b (Some w) (lookup (nat_eq q) e.live)
                  ≡ kept_if lives (cond b (Some w) (lookup (nat_eq q) e.entries))
              by true = sym (ap (λ b. cond b (Some w) None) passes)
              by false = are.there q

      module _ (s : X) (was : lookup (nat_eq n) e.live ≡ Some s)
          (entries : e'.entries ≡ set_value (nat_eq n) e.entries w) where
        stood : (lookup (nat_eq n) e.entries ≡ Some s) × (lives s ≡ true)
        stood = kept_passes (lookup (nat_eq n) e.entries) s (sym (are.there n) ∙ was)

        counted : count_by lives (values_of e'.entries) + 1 ≡ count_by lives (values_of e.entries) + weigh w
        counted =
            ap (λ es. sum_by weigh (values_of es) + 1) entries
            ∙ ap (λ b. sum_by weigh (values_of (set_value (nat_eq n) e.entries w)) + cond b 1 0) (sym stood.1)
            ∙ sum_by-set_value weigh (nat_eq n) e.entries s w stood.0

        apart : IsDistinct nat_eq (keys_of e'.entries)
        apart =
            subst (IsDistinct nat_eq) (sym (ap keys_of entries ∙ keys-set_value (nat_eq n) e.entries w)) are.distinct

        -- an entry in memory is set to a value that is live
        pub live_set : lives w ≡ true → e'.live ≡ set_value (nat_eq n) e.live w → AreLive lives e'
        live_set passes live = record {
          there = there';
          many = omega (
            arith,
            ap length live,
            length-set_value (nat_eq n) e.live w,
            are.many,
            counted,
            ap {B = ℕ} (λ b. cond b 1 0) passes,
          );
          distinct = apart;
        }
          where
            there' : (q : ℕ) → lookup (nat_eq q) e'.live ≡ kept_if lives (lookup (nat_eq q) e'.entries)
            there' q =
                ap (lookup (nat_eq q)) live ∙ lookup-set e.live n w (ap is_some was) q
                ∙ by (nat_eq n q)
                ∙ sym (ap (kept_if lives)
                (ap (lookup (nat_eq q)) entries ∙ lookup-set e.entries n w (ap is_some stood.0) q))
              where
                by : (b : Bool) → cond b (Some w) (lookup (nat_eq q) e.live)
                    ≡ kept_if lives (cond b (Some w) (lookup (nat_eq q) e.entries))
                by true = sym (ap (λ b. cond b (Some w) None) passes)
                by false = are.there q

        -- an entry in memory ends
        pub live_end : lives w ≡ false → SetsLive n None e.live e'.live
            → length e'.live + cond (is_some (lookup (nat_eq n) e.live)) 1 0 ≡ length e.live → AreLive lives e'
        live_end ends live fewer = record {
          there = there';
          many = omega (
            arith,
            fewer,
            ap {B = ℕ} (λ o. cond (is_some o) 1 0) was,
            are.many,
            counted,
            ap {B = ℕ} (λ b. cond b 1 0) ends,
          );
          distinct = apart;
        }
          where
            there' : (q : ℕ) → lookup (nat_eq q) e'.live ≡ kept_if lives (lookup (nat_eq q) e'.entries)
            there' q =
                live q
                ∙ by (nat_eq n q)
                ∙ sym (ap (kept_if lives)
                (ap (lookup (nat_eq q)) entries ∙ lookup-set e.entries n w (ap is_some stood.0) q))
              where
                by : (b : Bool) → cond b None (lookup (nat_eq q) e.live)
                    ≡ kept_if lives (cond b (Some w) (lookup (nat_eq q) e.entries))
                by true = sym (ap (λ b. cond b (Some w) None) ends)
                by false = are.there q
