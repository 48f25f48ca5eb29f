-- A queue in buckets, whose names are known: what waits at a place, and what is left after each change.
pub use Rattle.nm_match.specs.SameKeys.{same_message-true}
use Rattle.std.proofs.Common.{◌≡◌, ℕ, ◌+◌, ◌<◌, ◌==◌, Bool, true, false, cond, Option, Some, None}
use Rattle.std.proofs.Common.{List, [], ◌∷◌, ◌++◌, refl, sym, ◌∙◌, ap, subst, arith, not, ◌&&◌, ◌||◌, is_some}
use Rattle.std.specs.BTreeMap.{is_at}
use Rattle.std.specs.List.{All, filter, find, list_any}
use Rattle.std.specs.Map.{remove_entry}
use Rattle.std.specs.Option.{option_map, option_map_or, option_or}
use Rattle.std.specs.Ordering.{nat_cmp}
use Rattle.std.specs.Prelude.{AllPairs, nat_eq}
use Rattle.std.proofs.Math.Bool.{or-false}
use Rattle.std.proofs.lemmas.Bool.{eqb-true, false≢true, false_from_ne_true}
use Rattle.std.proofs.lemmas.Bool.Decides.{nat_tests}
use Rattle.std.proofs.lemmas.List.Elements.{All-filter}
use Rattle.std.proofs.lemmas.List.Folds.{find-append, list_any-append}
use Rattle.nm_types.specs.declared.messages.Arrival.{Arrival}
use Rattle.nm_match.specs.declared.names.Message.{Message}
use Rattle.nm_match.specs.declared.names.Standing.{Standing}
use Rattle.nm_match.specs.declared.names.Standing.TheVariants.{Waits, Aside}
use Rattle.nm_match.specs.declared.picks.Picks.{Picks}
use Rattle.nm_match.specs.Buckets.{AreBuckets, IsPutLast}
use Rattle.nm_match.specs.Deeds.{is_message}
use Rattle.nm_match.specs.Names.{IsNamedQueue, has_one, id_of_arrival, is_aside, same_message, standing_of}
use Rattle.nm_match.specs.Picks.{same_picks}
use Rattle.nm_match.specs.Queues.{without_first}
use Rattle.nm_match.proofs.BucketLemmas.{kept, map_push, map-without_first, pairs_unmap}
use Rattle.nm_match.proofs.BucketLemmas.{put_last, taken}
use Rattle.nm_match.proofs.ListLemmas.{list_any-filter, list_any_agree}
use Rattle.nm_match.proofs.OldestLemmas.{queue_find}
use Rattle.nm_match.proofs.OrderLemmas.{entry_left, find_gone, find_only, find_others, order_found}
use Rattle.nm_match.proofs.OrderLemmas.{order_left}
use Rattle.nm_types.proofs.OptionLemmas.{mapped_none}
use Rattle.nm_types.proofs.ListLemmas.{find_passes}

or_true : (b : Bool) → (b || true) ≡ true
or_true true = refl
or_true false = refl

pub or_none : {X : Type 0} (o : Option X) → option_or o None ≡ o
or_none None = refl
or_none (Some x) = refl

module _ {X K : Type 0} {known : X → K → Bool} {key : X → Picks} {items : List X}
    {aside : K → Bool} {next : ℕ} {m : Picks → List (ℕ × X)} {stands_at : K → Option Standing}
    (is : IsNamedQueue known key items aside next m stands_at) where
  abbrev standing : K → Option (ℕ × X) → Option Standing
  standing name o = option_map_or (λ (x : ℕ × X). Some (Waits (key x.1) x.0)) o (cond (aside name) (Some Aside) None)

  -- what waits at a place
  pub at_place : (name : K) (k : Picks) (order : ℕ) → stands_at name ≡ Some (Waits k order) →
      (x : ℕ × X) × (find (λ (y : ℕ × X). known y.1 name) is.is.queue ≡ Some x) × (key x.1 ≡ k) × (x.0 ≡ order)
  at_place name k order there =
      at (find (λ (y : ℕ × X). known y.1 name) is.is.queue) refl (sym (is.stands name) ∙ there)
    where
      never : (b : Bool) → cond b (Some Aside) None ≡ Some (Waits k order) → ⊥
      never true says = absurd (grind arith)
      never false says = absurd (grind arith)

      at : (o : Option (ℕ × X)) → find (λ (y : ℕ × X). known y.1 name) is.is.queue ≡ o →
          standing name o ≡ Some (Waits k order) →
          (x : ℕ × X) × (find (λ (y : ℕ × X). known y.1 name) is.is.queue ≡ Some x) × (key x.1 ≡ k) × (x.0 ≡ order)
      at None nothing says = absurd (never (aside name) says)
      at (Some x) found says =
          let k_same : key x.1 ≡ k = cc in let order_same : x.0 ≡ order = cc in (x, found, k_same, order_same)

  -- it is what the queue has of this name
  pub place_found : (name : K) (k : Picks) (order : ℕ) → stands_at name ≡ Some (Waits k order) →
      (x : X) × (find (λ x. known x name) items ≡ Some x)
  place_found name k order there =
      let waits = at_place name k order there in (
        waits.0.1,
        sym (queue_find is.is (λ x. known x name))
            ∙ ap (λ (o : Option (ℕ × X)). option_map (λ (y : ℕ × X). y.1) o) waits.1,
      )

  -- what waits stands in its bucket
  pub waits_by_name : (R : X → X → Type 0) → AllPairs R items →
      ((x y : X) (name : K) → R x y → known x name ≡ true → known y name ≡ true → ⊥) →
      (t : ℕ × X → Bool) (x : ℕ × X) → find t is.is.queue ≡ Some x → (name : K) → known x.1 name ≡ true →
      stands_at name ≡ Some (Waits (key x.1) x.0)
  waits_by_name R two apart t x found name named =
      is.stands name ∙ ap (λ (o : Option (ℕ × X)). standing name o)
      (find_only (λ (y : ℕ × X). known y.1 name) t (λ (y z : ℕ × X). R y.1 z.1)
      (λ y z r. apart y.1 z.1 name r) is.is.queue
      (pairs_unmap R (λ (y : ℕ × X). y.1) is.is.queue (subst (λ (l : List X). AllPairs R l) (sym is.is.same) two))
      x found named)

  -- nothing waits that has no place
  pub no_place : (name : K) → stands_at name ≡ option_map (λ s. Aside) (stands_at name) →
      find (λ x. known x name) items ≡ None
  no_place name says = sym (queue_find is.is (λ x. known x name))
      ∙ ap (λ (o : Option (ℕ × X)). option_map (λ (y : ℕ × X). y.1) o)
      (at (find (λ (y : ℕ × X). known y.1 name) is.is.queue) refl)
    where
      at : (o : Option (ℕ × X)) → find (λ (y : ℕ × X). known y.1 name) is.is.queue ≡ o →
          find (λ (y : ℕ × X). known y.1 name) is.is.queue ≡ None
      at None nothing = nothing
      at (Some x) found =
          let waits : stands_at name ≡ Some (Waits (key x.1) x.0)
          = is.stands name ∙ ap (λ (o : Option (ℕ × X)). standing name o) found in
          let never = rw waits at says in absurd (grind arith)

  -- what does not wait is aside or nowhere
  pub stands_aside : (name : K) → find (λ x. known x name) items ≡ None →
      stands_at name ≡ cond (aside name) (Some Aside) None
  stands_aside name none = is.stands name ∙ ap (λ (o : Option (ℕ × X)). standing name o)
      (mapped_none (λ (y : ℕ × X). y.1) (find (λ (y : ℕ × X). known y.1 name) is.is.queue)
      (queue_find is.is (λ x. known x name) ∙ none))

  -- what waits is not aside
  pub waits_not_aside : (name : K) (s : Standing) → stands_at name ≡ Some s →
      is_some (find (λ x. known x name) items) ≡ true → is_aside s ≡ false
  waits_not_aside name (Waits k order) says some = refl
  waits_not_aside name Aside says some = absurd (false≢true (sym (ap is_some (no_place name (says
      ∙ sym (ap (λ (o : Option Standing). option_map (λ s. Aside) o) says)))) ∙ some))

  -- where no bucket and no standing changed
  pub named_kept : (m' : Picks → List (ℕ × X)) (stands_at' : K → Option Standing) → ((k : Picks) → m' k ≡ m k) →
      ((name : K) → stands_at' name ≡ stands_at name) → (r : IsNamedQueue known key items aside next m' stands_at') × (r.is.queue ≡ is.is.queue)
  named_kept m' stands_at' bucket stands = (
    record {
      is = record {
        queue = is.is.queue;
        are = kept is.is.are m' next (omega arith) bucket;
        same = is.is.same;
      };
      stands = λ name. stands name ∙ is.stands name;
    },
    refl,
  )

  module _ (same : K → K → Bool) (m' : Picks → List (ℕ × X)) (stands_at' : K → Option Standing) where
    -- after one was taken from its bucket
    pub named_taken : (R : X → X → Type 0) → AllPairs R items →
        ((x y : X) (name : K) → R x y → known x name ≡ true → known y name ≡ true → ⊥) → (test : X → Bool)
        (x : ℕ × X) → find (λ (y : ℕ × X). test y.1) is.is.queue ≡ Some x → (id : K) →
        ((name : K) → known x.1 name ≡ same id name) →
        m' (key x.1) ≡ remove_entry (is_at (nat_cmp x.0)) (m (key x.1)) →
        ((k : Picks) → same_picks (key x.1) k ≡ false → m' k ≡ m k) →
        (aside' : K → Bool) → ((name : K) → same id name ≡ false → aside' name ≡ aside name) →
        ((name : K) → same id name ≡ true → stands_at' name ≡ cond (aside' name) (Some Aside) None) →
        ((name : K) → same id name ≡ false → stands_at' name ≡ stands_at name) →
        (r : IsNamedQueue known key (without_first test items) aside' next m' stands_at') × (r.is.queue ≡ without_first (λ (y : ℕ × X). test y.1) is.is.queue)
    named_taken R two apart test x found id is_id own others aside' agree there elsewhere = (
      record {
        is = record {
          queue = without_first t queue;
          are = subst (λ (l : List (ℕ × X)). AreBuckets key l next m')
              (order_left t queue x is.is.are.rising found)
              (taken is.is.are m' (λ (y : ℕ × X). x.0 == y.0) x
              (order_found t queue x is.is.are.rising found) (own ∙ entry_left x.0 (m (key x.1))) others);
          same = map-without_first (λ (y : ℕ × X). y.1) test queue
              ∙ ap (λ (l : List X). without_first test l) is.is.same;
        };
        stands = λ name. at name (same id name) refl;
      },
      refl,
    )
      where
        queue : List (ℕ × X)
        queue = is.is.queue

        t : ℕ × X → Bool
        t y = test y.1

        at : (name : K) (b : Bool) → same id name ≡ b →
            stands_at' name ≡ standing_of known key (without_first t queue) aside' name
        at name true here = there name here
            ∙ sym (ap (λ (o : Option (ℕ × X)). option_map_or (λ (x : ℕ × X). Some (Waits (key x.1) x.0)) o
            (cond (aside' name) (Some Aside) None))
            (find_gone (λ (y : ℕ × X). known y.1 name) t (λ (y z : ℕ × X). R y.1 z.1)
            (λ y z r. apart y.1 z.1 name r) queue
            (pairs_unmap R (λ (y : ℕ × X). y.1) queue (subst (λ (l : List X). AllPairs R l) (sym is.is.same) two))
            x found (is_id name ∙ here)))
        at name false other = elsewhere name other ∙ is.stands name
            ∙ (λ i. option_map_or (λ (x : ℕ × X). Some (Waits (key x.1) x.0))
            (sym (find_others (λ (y : ℕ × X). known y.1 name) t queue x found (is_id name ∙ other)) i)
            (cond (sym (agree name other) i) (Some Aside) None))

    -- after what waits at a place was taken from there
    pub place_taken : (R : X → X → Type 0) → AllPairs R items →
        ((x y : X) (name : K) → R x y → known x name ≡ true → known y name ≡ true → ⊥) → (id : K)
        (k : Picks) (order : ℕ) → stands_at id ≡ Some (Waits k order) →
        ((x : X) → known x id ≡ true → (name : K) → known x name ≡ same id name) →
        m' k ≡ remove_entry (is_at (nat_cmp order)) (m k) →
        ((l : Picks) → same_picks k l ≡ false → m' l ≡ m l) →
        (aside' : K → Bool) → ((name : K) → same id name ≡ false → aside' name ≡ aside name) →
        ((name : K) → same id name ≡ true → stands_at' name ≡ cond (aside' name) (Some Aside) None) →
        ((name : K) → same id name ≡ false → stands_at' name ≡ stands_at name) →
        (r : IsNamedQueue known key (without_first (λ x. known x id) items) aside' next m' stands_at') × (r.is.queue ≡ without_first (λ (y : ℕ × X). known y.1 id) is.is.queue)
    place_taken R two apart id k order there is_id own others aside' agree here elsewhere =
        let waits = at_place id k order there in
        let x : ℕ × X = waits.0 in
        let of_key : k ≡ key x.1 = sym waits.2 in
        let of_order : order ≡ x.0 = sym waits.3 in
        named_taken R two apart (λ x. known x id) x waits.1 id
        (is_id x.1 (find_passes (λ (y : ℕ × X). known y.1 id) is.is.queue x waits.1))
        (subst (λ (n : ℕ). m' (key x.1) ≡ remove_entry (is_at (nat_cmp n)) (m (key x.1))) of_order
        (subst (λ (l : Picks). m' l ≡ remove_entry (is_at (nat_cmp order)) (m l)) of_key own))
        (subst (λ (k : Picks). (l : Picks) → same_picks k l ≡ false → m' l ≡ m l) of_key others)
        aside' agree here elsewhere

    -- after one was put aside no more
    pub named_freed : ((a b : K) → same a b ≡ true → a ≡ b) → (id : K) → find (λ x. known x id) items ≡ None →
        ((k : Picks) → m' k ≡ m k) →
        (aside' : K → Bool) → ((name : K) → same id name ≡ false → aside' name ≡ aside name) →
        ((name : K) → same id name ≡ true → stands_at' name ≡ cond (aside' name) (Some Aside) None) →
        ((name : K) → same id name ≡ false → stands_at' name ≡ stands_at name) →
        (r : IsNamedQueue known key items aside' next m' stands_at') × (r.is.queue ≡ is.is.queue)
    named_freed same_true id none bucket aside' agree there elsewhere = (
      record {
        is = record {
          queue = is.is.queue;
          are = kept is.is.are m' next (omega arith) bucket;
          same = is.is.same;
        };
        stands = λ name. at name (same id name) refl;
      },
      refl,
    )
      where
        at : (name : K) (b : Bool) → same id name ≡ b →
            stands_at' name ≡ standing_of known key is.is.queue aside' name
        at name true here = there name here
            ∙ sym (ap (λ (o : Option (ℕ × X)). option_map_or (λ (x : ℕ × X). Some (Waits (key x.1) x.0)) o
            (cond (aside' name) (Some Aside) None))
            (mapped_none (λ (y : ℕ × X). y.1) (find (λ (y : ℕ × X). known y.1 name) is.is.queue)
            (queue_find is.is (λ x. known x name)
            ∙ subst (λ (name : K). find (λ x. known x name) items ≡ None) (same_true id name here) none)))
        at name false other = elsewhere name other ∙ is.stands name
            ∙ ap (λ (b : Bool). option_map_or (λ (x : ℕ × X). Some (Waits (key x.1) x.0))
            (find (λ (y : ℕ × X). known y.1 name) is.is.queue) (cond b (Some Aside) None)) (sym (agree name other))

    -- after one of a new name was put last
    pub named_put : (item : X) (id : K) → ((name : K) → known item name ≡ same id name) →
        ((name : K) → same id name ≡ true → find (λ x. known x name) items ≡ None) →
        IsPutLast next item (m (key item)) (m' (key item)) →
        ((k : Picks) → same_picks (key item) k ≡ false → m' k ≡ m k) →
        ((name : K) → same id name ≡ true → stands_at' name ≡ Some (Waits (key item) next)) →
        ((name : K) → same id name ≡ false → stands_at' name ≡ stands_at name) →
        (r : IsNamedQueue known key (items ++ item ∷ []) aside (next + 1) m' stands_at') × (r.is.queue ≡ is.is.queue ++ (next, item) ∷ [])
    named_put item id is_id new own others there elsewhere = (
      record {
        is = record {
          queue = queue ++ (next, item) ∷ [];
          are = put_last is.is.are m' item (next + 1) (omega arith)
              (own below) others;
          same = map_push (λ (y : ℕ × X). y.1) queue (next, item) ∙ ap (λ (l : List X). l ++ item ∷ []) is.is.same;
        };
        stands = λ name. at name (same id name) refl;
      },
      refl,
    )
      where
        queue : List (ℕ × X)
        queue = is.is.queue

        below : All (λ (y : ℕ × X). y.0 < next) (m (key item))
        below = subst (λ (l : List (ℕ × X)). All (λ (y : ℕ × X). y.0 < next) l) (sym (is.is.are.holds (key item)))
            (All-filter (λ (y : ℕ × X). same_picks (key item) (key y.1)) (λ (y : ℕ × X). y.0 < next) queue
            is.is.are.below)

        grown : (name : K) → find (λ (y : ℕ × X). known y.1 name) (queue ++ (next, item) ∷ [])
            ≡ option_or (find (λ (y : ℕ × X). known y.1 name) queue) (cond (known item name) (Some (next, item)) None)
        grown name = find-append (λ (y : ℕ × X). known y.1 name) queue ((next, item) ∷ [])

        at : (name : K) (b : Bool) → same id name ≡ b →
            stands_at' name ≡ standing name (find (λ (y : ℕ × X). known y.1 name) (queue ++ (next, item) ∷ []))
        at name true here = there name here ∙ sym (ap (λ (o : Option (ℕ × X)). standing name o)
            (grown name ∙ (λ i. option_or (mapped_none (λ (y : ℕ × X). y.1)
            (find (λ (y : ℕ × X). known y.1 name) queue) (queue_find is.is (λ x. known x name) ∙ new name here) i)
            (cond ((is_id name ∙ here) i) (Some (next, item)) None))))
        at name false other = elsewhere name other ∙ is.stands name
            ∙ sym (ap (λ (o : Option (ℕ × X)). standing name o)
            (grown name ∙ ap (λ (b : Bool). option_or (find (λ (y : ℕ × X). known y.1 name) queue)
            (cond b (Some (next, item)) None)) (is_id name ∙ other)
            ∙ or_none (find (λ (y : ℕ × X). known y.1 name) queue)))

-- nothing waits in empty buckets
pub named_none : {X K : Type 0} {known : X → K → Bool} {key : X → Picks}
    {aside : K → Bool} {next : ℕ} {m : Picks → List (ℕ × X)}
    {stands_at : K → Option Standing} → ((k : Picks) → m k ≡ []) →
    ((name : K) → stands_at name ≡ None) → ((name : K) → aside name ≡ false) →
    IsNamedQueue known key [] aside next m stands_at
named_none none nowhere no_one = record {
  is = record {
    queue = [];
    are = record {
      holds = none;
      below = λ k d inside. absurd (omega (arith, inside));
      rising = tt;
    };
    same = refl;
  };
  stands = λ name. nowhere name ∙ rw (no_one name) refl;
}

-- what holds of a name holds of each that is the same
pub there_at : {K : Type 0} {same : K → K → Bool} → ((a b : K) → same a b ≡ true → a ≡ b) →
    (aside : K → Bool) (stands_at : K → Option Standing) (id : K) →
    stands_at id ≡ cond (aside id) (Some Aside) None → (name : K) → same id name ≡ true →
    stands_at name ≡ cond (aside name) (Some Aside) None
there_at {K} {same} same_true aside stands_at id there name here =
    subst (λ (name : K). stands_at name ≡ cond (aside name) (Some Aside) None) (same_true id name here) there

-- where it is nowhere, it is not aside
pub none_aside : (b : Bool) → None ≡ cond b (Some Aside) None → b ≡ false
none_aside true never = absurd (grind arith)
none_aside false says = refl

-- what stands somewhere and does not wait is aside
pub some_aside : (b : Bool) (s : Standing) → Some s ≡ cond b (Some Aside) None → is_aside s ≡ b
some_aside true (Waits k order) never = absurd (grind arith)
some_aside true Aside says = refl
some_aside false s never = absurd (grind arith)

-- one more that passes
pub any_more : {X : Type 0} (test : X → Bool) (xs : List X) (x : X) → test x ≡ true →
    list_any test (xs ++ x ∷ []) ≡ true
any_more test xs x passes = list_any-append test xs (x ∷ []) ∙ rw passes (or_true (list_any test xs))

-- one more that does not
pub any_other : {X : Type 0} (test : X → Bool) (xs : List X) (x : X) → test x ≡ false →
    list_any test (xs ++ x ∷ []) ≡ list_any test xs
any_other test xs x fails = list_any-append test xs (x ∷ []) ∙ rw fails (or-false (list_any test xs))

-- each message is itself
pub message_itself : (id : Message) → same_message id id ≡ true
message_itself id =
    let rank : (id.rank == id.rank) ≡ true = grind (arith, nat_tests) in
    let n : (id.n == id.n) ≡ true = grind (arith, nat_tests) in rw (rank, n) refl

-- two numbers that are the same are equal
pub same_number-true : (a b : ℕ) → nat_eq a b ≡ true → a ≡ b
same_number-true a b same = eqb-true a b same

other_at : (b c : Bool) → (c ≡ true → b ≡ false) → (not b && c) ≡ c
other_at true true never = absurd (false≢true (sym (never refl)))
other_at true false never = refl
other_at false c never = refl

never_both : (b : Bool) → (not b && b) ≡ false
never_both true = refl
never_both false = refl

any_never : {X : Type 0} (test : X → Bool) (xs : List X) → ((x : X) → test x ≡ false) → list_any test xs ≡ false
any_never test [] never = refl
any_never test (x ∷ xs) never = rw (never x) (any_never test xs never)

-- a message that left the others is not among them
pub left_gone : (id : Message) (xs : List Arrival) →
    has_one (filter (λ a. not (is_message id.rank id.n a)) xs) id ≡ false
left_gone id xs = list_any-filter (is_message id.rank id.n) (λ (a : Arrival). not (is_message id.rank id.n a)) xs
    ∙ any_never _ xs (λ a. never_both (is_message id.rank id.n a))

-- and each other one is where it was
pub left_other : (id other : Message) (xs : List Arrival) → same_message id other ≡ false →
    has_one (filter (λ a. not (is_message id.rank id.n a)) xs) other ≡ has_one xs other
left_other id other xs apart =
    list_any-filter (is_message other.rank other.n) (λ (a : Arrival). not (is_message id.rank id.n a)) xs
    ∙ list_any_agree (λ (a : Arrival). not (is_message id.rank id.n a) && is_message other.rank other.n a)
    (is_message other.rank other.n)
    (λ a. other_at (is_message id.rank id.n a) (is_message other.rank other.n a)
    (λ of_other. false_from_ne_true (is_message id.rank id.n a)
    (λ of_id. false≢true (sym apart ∙ subst (λ (m : Message). same_message id m ≡ true)
    (sym (same_message-true (id_of_arrival a) id of_id) ∙ same_message-true (id_of_arrival a) other of_other)
    (message_itself id))))) xs

-- each number is itself
pub number_itself : (number : ℕ) → nat_eq number number ≡ true
number_itself number = grind (arith, nat_tests)
