-- The bucket at a place of the map: whose it is, and what the buckets are after an entry left it.
use Rattle.std.proofs.Common.{◌≡◌, ◌≢◌, ℕ, ◌<◌, zero, suc, Bool, true, false, cond, Option, Some, None}
use Rattle.std.proofs.Common.{List, [], ◌∷◌, refl, sym, ◌∙◌, ap, subst, arith, get_or, slice_get}
use Rattle.std.specs.BTreeMap.{is_at}
use Rattle.std.specs.Cmp.{IsEquivalence}
use Rattle.std.specs.Prelude.{IfSome, nat_eq}
use Rattle.std.specs.Map.{keys_of, lookup, remove_entry, values_of}
use Rattle.std.specs.Option.{option_map, option_map_or}
use Rattle.std.specs.Ordering.{nat_cmp}
use Rattle.std.proofs.lemmas.List.Quantifiers.{position-Some}
use Rattle.indexmap.specs.IndexMap.{IndexMap, IsUnique, Updates, get, index_of, keys, values}
use Rattle.indexmap.specs.IndexMap.{with_value_at}
use Rattle.indexmap.specs.Layout.{set_value_at}
use Rattle.indexmap.proofs.CallerLemmas.{updates-with_value_at}
use Rattle.nm_match.specs.declared.buckets.Bucket.{Bucket}
use Rattle.nm_match.specs.declared.picks.Picks.{Picks}
use Rattle.nm_match.specs.Buckets.{IsTaken, bucket_of, entries_of}
use Rattle.nm_match.specs.Picks.{same_picks}
use Rattle.nm_match.specs.Rings.{IsPassed, passed}
use Rattle.nm_match.proofs.NameLemmas.{number_itself}
use Rattle.nm_match.proofs.RingLemmas.{other_number}
use Rattle.nm_match.specs.SameKeys.{same_picks-flip, same_picks-self, same_picks-true}

same_picks-laws : IsEquivalence same_picks
same_picks-laws = record {
  refl = same_picks-self;
  symm = λ a b. either a b (same_picks a b) refl;
  congr = λ a b c same. ap (λ k. same_picks k c) (same_picks-true a b same);
}
  where
    either : (a b : Picks) (t : Bool) → same_picks a b ≡ t → same_picks a b ≡ same_picks b a
    either a b true same =
        same ∙ sym (subst (λ c. same_picks c a ≡ true) (same_picks-true a b same) (same_picks-self a))
    either a b false apart = apart ∙ sym (same_picks-flip a b apart)

key_at : {V : Type 0} (es : List (Picks × V)) (i : ℕ) (e : Picks × V) (d : Picks) → slice_get es i ≡ Some e →
    get_or (keys_of es) i d ≡ e.0
key_at [] i e d there = absurd (grind arith)
key_at (x ∷ es) zero e d there = let same : x ≡ e = cc in ap (λ p. p.0) same
key_at (x ∷ es) (suc i) e d there = key_at es i e d there

value_at : {V : Type 0} (es : List (Picks × V)) (i : ℕ) (e : Picks × V) (w : V) → slice_get es i ≡ Some e →
    slice_get (set_value_at es i w) i ≡ Some (e.0, w)
value_at [] i e w there = absurd (grind arith)
value_at (x ∷ es) zero e w there = let same : x ≡ e = cc in ap (λ p. Some (p.0, w)) same
value_at (x ∷ es) (suc i) e w there = value_at es i e w there

-- what stands at the place of a key is found under it
pub lookup_at : {V : Type 0} (key : Picks) (es : List (Picks × V)) (i : ℕ) (v : V) →
    slice_get (values_of es) i ≡ Some v →
    same_picks key (get_or (keys_of es) i key) ≡ true →
    ((j : ℕ) → j < i → same_picks key (get_or (keys_of es) j key) ≡ false) → lookup (same_picks key) es ≡ Some v
lookup_at key [] i v there is others = absurd (grind arith)
lookup_at key (x ∷ es) zero v there is others = rw is there
lookup_at key (x ∷ es) (suc i) v there is others =
    rw (others 0 (omega arith)) (lookup_at key es i v there is (λ j below. others (suc j) (omega (arith, below))))

pub found_at : {V S : Type 0} (m : IndexMap Picks V S) (key : Picks) (place : ℕ) (v : V) →
    index_of same_picks m key ≡ Some place → slice_get (values m) place ≡ Some v → get same_picks m key ≡ Some v
found_at m key place v found there =
    let first = position-Some (same_picks key) (keys m) place key found in
    lookup_at key m.entries place v there first.1 first.2

set_same : {V : Type 0} (es : List (Picks × V)) (i : ℕ) (e : Picks × V) → slice_get es i ≡ Some e →
    set_value_at es i e.1 ≡ es
set_same [] i e there = refl
set_same {V} (x ∷ es) zero e there =
    let same : e ≡ x = cc in ap (λ (p : Picks × V). (x.0, p.1) ∷ es) same
set_same {V} (x ∷ es) (suc i) e there = ap (λ (l : List (Picks × V)). x ∷ l) (set_same es i e there)

module _ {V S : Type 0} (m : IndexMap Picks V S) (unique : IsUnique same_picks m) (key : Picks)
    (place : ℕ) (found : index_of same_picks m key ≡ Some place) (k : Picks) (b : V)
    (there : slice_get m.entries place ≡ Some (k, b)) where
  pub its_key : k ≡ key
  its_key = sym (same_picks-true key k
      (subst (λ (l : Picks). same_picks key l ≡ true) (key_at m.entries place (k, b) key there)
      (position-Some (same_picks key) (keys m) place key found).1))

  written : (w : V) (l : Picks) → get same_picks (with_value_at m place w) l
      ≡ cond (same_picks key l) (Some w) (get same_picks m l)
  written w = subst (λ (k : Picks). (l : Picks) → get same_picks (with_value_at m place w) l
      ≡ cond (same_picks k l) (Some w) (get same_picks m l)) its_key
      (updates-with_value_at m place w same_picks-laws unique k b there).0

  -- what is written at the place is that of the key
  pub own : (w : V) → get same_picks (with_value_at m place w) key ≡ Some w
  own w = written w key ∙ rw (same_picks-self key) refl

  -- what stands at the place is that of the key
  pub was : get same_picks m key ≡ Some b
  was = sym (ap (λ (es : List (Picks × V)). lookup (same_picks key) es) (set_same m.entries place (k, b) there))
      ∙ own b

  -- and the others are as they were
  pub other : (w : V) (l : Picks) → same_picks key l ≡ false →
      get same_picks (with_value_at m place w) l ≡ get same_picks m l
  other w l apart = written w l ∙ rw apart refl

-- the value at a place is that of an entry
entry_at : {V : Type 0} (es : List (Picks × V)) (i : ℕ) (v : V) → slice_get (values_of es) i ≡ Some v →
    (k : Picks) × (slice_get es i ≡ Some (k, v))
entry_at [] i v there = absurd (grind arith)
entry_at (x ∷ es) zero v there = (x.0, ap (λ o. option_map (λ w. (x.0, w)) o) there)
entry_at (x ∷ es) (suc i) v there = entry_at es i v there

-- the entry of the place left the map
gone : {V S : Type 0} (m : IndexMap Picks V S) (key : Picks) (place : ℕ) → index_of same_picks m key ≡ Some place →
    (n : IndexMap Picks V S) (o : Option (Picks × V)) → o ≡ slice_get m.entries place →
    (v : V) → (k : Picks) × (slice_get m.entries place ≡ Some (k, v)) →
    IfSome o (λ p. Updates same_picks m n p.0 None) → (l : Picks) →
    get same_picks n l ≡ cond (same_picks key l) None (get same_picks m l)
gone m key place found n o same v entry updates =
    let there = entry.1 in
    let its_key = same_picks-true key entry.0
    (subst (λ (l : Picks). same_picks key l ≡ true) (key_at m.entries place (entry.0, v) key there)
    (position-Some (same_picks key) (keys m) place key found).1) in
    subst (λ (k : Picks). (l : Picks) → get same_picks n l ≡ cond (same_picks k l) None (get same_picks m l))
    (sym its_key)
    (subst (λ o. IfSome o (λ p. Updates same_picks m n p.0 None)) (same ∙ there) updates).0

module _ {X S : Type 0} (m : IndexMap Picks (Bucket X) S) (unique : IsUnique same_picks m) (key : Picks)
    (place : ℕ) (found : index_of same_picks m key ≡ Some place) (k : Picks) (b c : Bucket X)
    (there : slice_get m.entries place ≡ Some (k, b)) (order : ℕ) where
  abbrev entries : Option (Bucket X) → List (ℕ × X)
  entries o = option_map_or entries_of o []

  -- some entries are left
  pub taken_left : entries_of c ≡ remove_entry (is_at (nat_cmp order)) (entries_of b) →
      IsTaken key order (bucket_of m) (bucket_of (with_value_at m place c))
  taken_left left = (
    ap (λ (o : Option (Bucket X)). entries o) (own m unique key place found k b there c) ∙ left
        ∙ ap (λ (o : Option (Bucket X)). remove_entry (is_at (nat_cmp order)) (entries o))
        (sym (was m unique key place found k b there)),
    (λ l apart. ap (λ (o : Option (Bucket X)). entries o) (other m unique key place found k b there c l apart)),
  )

  -- none is left, and the bucket goes
  pub taken_whole : remove_entry (is_at (nat_cmp order)) (entries_of b) ≡ [] → (n : IndexMap Picks (Bucket X) S)
      (o : Option (Picks × Bucket X)) → o ≡ slice_get (with_value_at m place c).entries place →
      IfSome o (λ p. Updates same_picks (with_value_at m place c) n p.0 None) →
      IsTaken key order (bucket_of m) (bucket_of n)
  taken_whole none n o same updates =
      let here : o ≡ Some (k, c) = same ∙ value_at m.entries place (k, b) c there in
      let gone : (l : Picks) → get same_picks n l
      ≡ cond (same_picks key l) None (get same_picks (with_value_at m place c) l)
      = subst (λ (k : Picks). (l : Picks) → get same_picks n l
      ≡ cond (same_picks k l) None (get same_picks (with_value_at m place c) l))
      (its_key m unique key place found k b there)
      (subst (λ o. IfSome o (λ p. Updates same_picks (with_value_at m place c) n p.0 None)) here updates).0 in
      let left : get same_picks n key ≡ None = gone key ∙ rw (same_picks-self key) refl in
      let stays : (l : Picks) → same_picks key l ≡ false → get same_picks n l ≡ get same_picks m l
      = λ l apart. gone l ∙ rw apart (other m unique key place found k b there c l apart) in (
        ap (λ (o : Option (Bucket X)). entries o) left ∙ sym none
            ∙ ap (λ (o : Option (Bucket X)). remove_entry (is_at (nat_cmp order)) (entries o))
            (sym (was m unique key place found k b there)),
        (λ l apart. ap (λ (o : Option (Bucket X)). entries o) (stays l apart)),
      )

module _ {S : Type 0} (m : IndexMap Picks ℕ S) (key : Picks) (place : ℕ)
    (found : index_of same_picks m key ≡ Some place) (first : ℕ) (there : slice_get (values m) place ≡ Some first)
    (number next : ℕ) where
  here : get same_picks m key ≡ Some first
  here = found_at m key place first found there

  -- another one is the oldest
  pub passed_not : first ≢ number → IsPassed key number next (get same_picks m) (get same_picks m)
  passed_not other = (here ∙ passed_some, (λ l apart. refl))
    where
      kept : passed number next (Some first) ≡ Some first
      kept = rw (other_number first number other) refl

      passed_some : Some first ≡ passed number next (get same_picks m key)
      passed_some = sym (ap (λ (o : Option ℕ). passed number next o) here ∙ kept)

  -- it was the last
  pub passed_last : first ≡ number → next ≡ number → (n : IndexMap Picks ℕ S)
      (o : Option (Picks × ℕ)) → o ≡ slice_get m.entries place →
      IfSome o (λ p. Updates same_picks m n p.0 None) →
      IsPassed key number next (get same_picks m) (get same_picks n)
  passed_last same last n o entry updates = (
    left key ∙ nothing ∙ sym (ap (λ (o : Option ℕ). passed number next o) here ∙ passes),
    (λ l apart. left l ∙ rw apart refl),
  )
    where
      left : (l : Picks) → get same_picks n l ≡ cond (same_picks key l) None (get same_picks m l)
      left = gone m key place found n o entry first (entry_at m.entries place first there) updates

      nothing : cond (same_picks key key) None (get same_picks m key) ≡ None
      nothing = rw (same_picks-self key) refl

      itself : (a b : ℕ) → a ≡ b → nat_eq a b ≡ true
      itself a b same = subst (λ (n : ℕ). nat_eq a n ≡ true) same (number_itself a)

      passes : passed number next (Some first) ≡ None
      passes = rw (itself first number same, itself next number last) refl

  -- the one behind it is the oldest
  pub passed_on : IsUnique same_picks m → first ≡ number → next ≢ number →
      IsPassed key number next (get same_picks m) (get same_picks (with_value_at m place next))
  passed_on unique same more = (
    own m unique key place found entry.0 first entry.1 next
        ∙ sym (ap (λ (o : Option ℕ). passed number next o) here ∙ passes),
    other m unique key place found entry.0 first entry.1 next,
  )
    where
      entry : (k : Picks) × (slice_get m.entries place ≡ Some (k, first))
      entry = entry_at m.entries place first there

      itself : nat_eq first number ≡ true
      itself = subst (λ (n : ℕ). nat_eq first n ≡ true) same (number_itself first)

      passes : passed number next (Some first) ≡ Some next
      passes = rw (itself, other_number next number more) refl
