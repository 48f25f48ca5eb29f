-- The posted receives, after each change.
use Rattle.std.proofs.Common.{◌≡◌, ◌≢◌, ℕ, ◌+◌, ◌==◌, Bool, true, false, cond, Option, Some, None}
use Rattle.std.proofs.Common.{List, [], ◌∷◌, ◌++◌}
use Rattle.std.proofs.Common.{refl, sym, ◌∙◌, ap, subst, arith, slice_get}
use Rattle.std.specs.List.{find}
use Rattle.std.specs.Option.{option_map, option_map_or}
use Rattle.std.specs.Prelude.{AllPairs, IfSome, nat_eq}
use Rattle.nm_types.specs.declared.messages.Post as post
use Rattle.nm_types.proofs.ListLemmas.{find_passes}
use Rattle.nm_types.proofs.OptionLemmas.{mapped_none, same_some}
use Rattle.nm_history.specs.Continues.{has}
use Rattle.nm_match.specs.declared.names.Receive.{Receive}
use Rattle.nm_match.specs.declared.names.Receive.TheVariants as kept
use Rattle.nm_match.specs.declared.names.Standing.{Standing}
use Rattle.nm_match.specs.declared.names.Standing.TheVariants.{Waits, Aside}
use Rattle.nm_match.specs.declared.picks.Picks.{Picks}
use Rattle.nm_match.specs.declared.posted.Posted.{Posted}
use Rattle.nm_match.specs.Buckets.{AreBuckets}
use Rattle.nm_match.specs.Fronts.{front_at}
use Rattle.nm_match.specs.Names.{ArePosted, fronts_of, is_aside}
use Rattle.nm_match.specs.Picks.{names_both, picks_of_post, same_picks}
use Rattle.nm_match.specs.Queues.{TwoReceives, without_first}
use Rattle.nm_match.specs.Rings.{AreRings, HasLeft, IsPassed, before_of, before_set, ends_set, is_cancelled, let_in}
use Rattle.nm_match.specs.Rings.{next_of, shut_out, waiting_at, waiting_of, waits_between}
use Rattle.nm_match.specs.Rings.{first_number, front_number, last_number, with_before, with_next}
use Rattle.nm_match.specs.SameKeys.{same_picks-self}
use Rattle.nm_match.specs.Standings.{receive_at, standing_at, standing_of}
use Rattle.nm_match.proofs.BucketLemmas.{pairs_unmap}
use Rattle.nm_match.proofs.NameLemmas.{at_place, named_kept, named_put, named_taken, same_number-true}
use Rattle.nm_match.proofs.NameLemmas.{any_more, any_other, number_itself, stands_aside, there_at}
use Rattle.nm_match.proofs.OldestLemmas.{posts_apart, queue_find}
use Rattle.nm_match.proofs.RingLemmas.{NoneHas, Two}
use Rattle.nm_match.proofs.RingQueueLemmas.{each_kept, first_waits, none_has, put_under, rings_come, rings_left}
use Rattle.nm_match.proofs.RingQueueLemmas.{rings_same, taken_from}
use Rattle.nm_match.proofs.WildLemmas.{front_key}

abbrev Entry : Type 0
Entry = ℕ × post.Post

-- where a receive stands is not changed by its neighbours
next_stands : (n : ℕ) (o : Option Receive) →
    option_map standing_of (option_map (with_next n) o) ≡ option_map standing_of o
next_stands n None = refl
next_stands n (Some (kept.Waits ctx from t cap order before next)) = refl
next_stands n (Some kept.Cancelled) = refl

before_stands : (n : ℕ) (o : Option Receive) →
    option_map standing_of (option_map (with_before n) o) ≡ option_map standing_of o
before_stands n None = refl
before_stands n (Some (kept.Waits ctx from t cap order before next)) = refl
before_stands n (Some kept.Cancelled) = refl

either_stands : (b : Bool) (o p : Option Receive) → option_map standing_of o ≡ option_map standing_of p →
    option_map standing_of (cond b o p) ≡ option_map standing_of p
either_stands true o p same = same
either_stands false o p same = refl

ends_stand : (at : ℕ → Option Receive) (first before last next n : ℕ) →
    option_map standing_of (ends_set at first before last next n) ≡ option_map standing_of (at n)
ends_stand at first before last next n =
    either_stands (nat_eq last n) (option_map (with_next next) (before_set at first before n))
    (before_set at first before n) (next_stands next (before_set at first before n))
    ∙ either_stands (nat_eq first n) (option_map (with_before before) (at n)) (at n) (before_stands before (at n))

-- what does not wait has no neighbours
alone_of : (n : ℕ) (b : Bool) (o : Option Receive) → option_map standing_of o ≡ cond b (Some Aside) None →
    before_of n o ≡ n
alone_of n b None says = refl
alone_of n b (Some kept.Cancelled) says = refl
alone_of n true (Some (kept.Waits ctx from t cap order before next)) says = absurd (grind arith)
alone_of n false (Some (kept.Waits ctx from t cap order before next)) says = absurd (grind arith)

-- where one stands that waits at its number
pub waits_at : (n : ℕ) (o : Option Receive) (x : Entry) → waiting_of n o ≡ Some x →
    (option_map standing_of o ≡ Some (Waits (picks_of_post x.1) x.0)) × (x.1.number ≡ n)
waits_at n None x waits = absurd (grind arith)
waits_at n (Some kept.Cancelled) x waits = absurd (grind arith)
waits_at n (Some (kept.Waits ctx from t cap order before next)) x waits =
    let same = same_some _ x waits in (
      ap (λ (y : Entry). Some (Waits (picks_of_post y.1) y.0)) same,
      sym (ap (λ (y : Entry). y.1.number) same),
    )

-- where nothing waits, what stands is aside
pub none_waiting : (n : ℕ) (o : Option Receive) → waiting_of n o ≡ None →
    option_map standing_of o ≡ option_map (λ s. Aside) (option_map standing_of o)
none_waiting n None none = refl
none_waiting n (Some kept.Cancelled) none = refl
none_waiting n (Some (kept.Waits ctx from t cap order before next)) none = absurd (grind arith)

some_aside_at : (o : Option Receive) (s : Standing) → option_map standing_of o ≡ Some s →
    option_map standing_of (option_map (λ r. kept.Cancelled) o) ≡ Some Aside
some_aside_at None s never = absurd (grind arith)
some_aside_at (Some r) s stands = refl

-- one that was shut out and cancelled stands aside
pub left_aside : (at : ℕ → Option Receive) (id : ℕ) (x : Entry) → waiting_of id (at id) ≡ Some x →
    (at' : ℕ → Option Receive) → ((n : ℕ) → at' n ≡ shut_out at id n) → (o : Option Receive) →
    o ≡ option_map (λ r. kept.Cancelled) (at' id) → option_map standing_of o ≡ Some Aside
left_aside at id x waits at' changed o cancelled =
    ap (λ (o : Option Receive). option_map standing_of o) cancelled
    ∙ some_aside_at (at' id) (Waits (picks_of_post x.1) x.0)
    (ap (λ (o : Option Receive). option_map standing_of o) (changed id)
    ∙ ends_stand at (next_of id (at id)) (before_of id (at id)) (before_of id (at id)) (next_of id (at id)) id
    ∙ (waits_at id (at id) x waits).0)

-- a receive is cancelled where it stands aside
pub aside_is : (r : Receive) → is_cancelled r ≡ is_aside (standing_of r)
aside_is (kept.Waits ctx from t cap order before next) = refl
aside_is kept.Cancelled = refl

module _ {posts : List post.Post} {cancelled : List ℕ} {next : ℕ} {p : Posted}
    (is : ArePosted posts cancelled next p) where
  module _ (p' : Posted) where
    -- where nothing changed
    pub posted_kept : ((k : Picks) → fronts_of p' k ≡ fronts_of p k) →
        ((n : ℕ) → receive_at p'.standings n ≡ receive_at p.standings n) → ArePosted posts cancelled next p'
    posted_kept fronts receives = record {
      under = is.under;
      is = (named_kept is.is is.under (standing_at p'.standings) (λ k. refl)
          (λ n. ap (λ (o : Option Receive). option_map standing_of o) (receives n))).0;
      rings = rings_same is.under (fronts_of p) (fronts_of p') (receive_at p.standings) (receive_at p'.standings)
          fronts receives is.rings;
    }

    -- after a receive has left its ring
    pub posted_left : AllPairs TwoReceives posts → (test : post.Post → Bool) (x : Entry) →
        find (λ (y : Entry). test y.1) is.is.is.queue ≡ Some x →
        IsPassed (picks_of_post x.1) x.1.number (next_of x.1.number (receive_at p.standings x.1.number))
        (fronts_of p) (fronts_of p') →
        ((n : ℕ) → nat_eq x.1.number n ≡ false →
        receive_at p'.standings n ≡ shut_out (receive_at p.standings) x.1.number n) → (cancelled' : List ℕ) →
        ((n : ℕ) → nat_eq x.1.number n ≡ false → has cancelled' n ≡ has cancelled n) →
        standing_at p'.standings x.1.number ≡ cond (has cancelled' x.1.number) (Some Aside) None →
        ArePosted (without_first test posts) cancelled' next p'
    posted_left two test x found passes changed cancelled' agree there = record {
      under = taken_from is.under x;
      is = (named_taken is.is nat_eq (taken_from is.under x) (standing_at p'.standings) TwoReceives two
          (λ p q number. posts_apart number p q) test x found x.1.number (λ number. refl)
          (rw (same_picks-self (picks_of_post x.1)) refl) (λ k apart. rw apart refl) (has cancelled') agree
          (there_at same_number-true (has cancelled') (standing_at p'.standings) x.1.number there)
          (λ n other. ap (λ (o : Option Receive). option_map standing_of o) (changed n other)
          ∙ ends_stand (receive_at p.standings)
          (next_of x.1.number (receive_at p.standings x.1.number))
          (before_of x.1.number (receive_at p.standings x.1.number))
          (before_of x.1.number (receive_at p.standings x.1.number))
          (next_of x.1.number (receive_at p.standings x.1.number)) n)).0;
      rings = rings_left is.is.is.are two_queue (fronts_of p) (receive_at p.standings) is.rings
          (λ (y : Entry). test y.1) x found (fronts_of p') (receive_at p'.standings) passes changed;
    }
      where
        two_queue : AllPairs Two is.is.is.queue
        two_queue = pairs_unmap TwoReceives (λ (y : Entry). y.1) is.is.is.queue
            (subst (λ (l : List post.Post). AllPairs TwoReceives l) (sym is.is.is.same) two)

    -- after a new one has come last
    pub posted_put : AllPairs TwoReceives posts → (item : post.Post) →
        find (λ q. q.number == item.number) posts ≡ None → (first : ℕ) →
        first ≡ option_map_or (λ n. n) (fronts_of p (picks_of_post item)) item.number →
        fronts_of p' (picks_of_post item) ≡ Some first →
        ((k : Picks) → same_picks (picks_of_post item) k ≡ false → fronts_of p' k ≡ fronts_of p k) →
        ((n : ℕ) → receive_at p'.standings n ≡ let_in (receive_at p.standings) (next, item) first n) →
        ArePosted (posts ++ item ∷ []) cancelled (next + 1) p'
    posted_put two item none first is_first own others changed = record {
      under = put_under is.under (next, item);
      is = (named_put is.is nat_eq (put_under is.under (next, item)) (standing_at p'.standings) item item.number
          (λ name. refl)
          (λ name here. subst (λ (n : ℕ). find (λ (q : post.Post). q.number == n) posts ≡ None)
          (same_number-true item.number name here) none)
          (λ below. rw (same_picks-self (picks_of_post item)) refl) (λ k apart. rw apart refl)
          (λ name here. stands name ∙ rw here refl)
          (λ name other. stands name ∙ rw other refl)).0;
      rings = rings_come is.is.is.are two_queue (fronts_of p) (receive_at p.standings) is.rings (next, item) fresh
          (alone_of item.number (has cancelled item.number) (receive_at p.standings item.number)
          (stands_aside is.is item.number none)) (fronts_of p') (receive_at p'.standings) first is_first own others
          changed;
    }
      where
        two_queue : AllPairs Two is.is.is.queue
        two_queue = pairs_unmap TwoReceives (λ (y : Entry). y.1) is.is.is.queue
            (subst (λ (l : List post.Post). AllPairs TwoReceives l) (sym is.is.is.same) two)

        fresh : (k : Picks) → NoneHas item.number (is.under k)
        fresh k = subst (λ (l : List Entry). NoneHas item.number l) (sym (is.is.is.are.holds k))
            (each_kept (λ (y : Entry). item.number ≢ y.1.number) (λ (y : Entry). same_picks k (picks_of_post y.1))
            is.is.is.queue (none_has item.number is.is.is.queue
            (mapped_none (λ (y : Entry). y.1) (find (λ (y : Entry). y.1.number == item.number) is.is.is.queue)
            (queue_find is.is.is (λ q. q.number == item.number) ∙ none))))

        stands : (n : ℕ) → standing_at p'.standings n
            ≡ cond (nat_eq item.number n) (Some (Waits (picks_of_post item) next)) (standing_at p.standings n)
        stands n = ap (λ (o : Option Receive). option_map standing_of o) (changed n)
            ∙ ends_stand (λ m. cond (nat_eq item.number m) (Some (waits_between (next, item)
            (before_of first (receive_at p.standings first)) first)) (receive_at p.standings m)) first item.number
            (before_of first (receive_at p.standings first)) item.number n
            ∙ at (nat_eq item.number n)
          where
            at : (b : Bool) → option_map standing_of (cond b (Some (waits_between (next, item)
                (before_of first (receive_at p.standings first)) first)) (receive_at p.standings n))
                ≡ cond b (Some (Waits (picks_of_post item) next)) (standing_at p.standings n)
            at true = refl
            at false = refl

    -- after one has left that a search found
    pub posted_taken : AllPairs TwoReceives posts → (test : post.Post → Bool) (o : Option Entry) →
        o ≡ find (λ (y : Entry). test y.1) is.is.is.queue → (item : post.Post) →
        Some item ≡ option_map (λ (y : Entry). y.1) o →
        IsPassed (picks_of_post item) item.number (next_of item.number (receive_at p.standings item.number))
        (fronts_of p) (fronts_of p') →
        ((n : ℕ) → nat_eq item.number n ≡ false →
        receive_at p'.standings n ≡ shut_out (receive_at p.standings) item.number n) →
        receive_at p'.standings item.number ≡ None → has cancelled item.number ≡ false →
        ArePosted (without_first test posts) cancelled next p'
    posted_taken two test None same item is_item passes changed gone stays = absurd (grind arith)
    posted_taken two test (Some x) same item is_item passes changed gone stays =
        let it : item ≡ x.1 = same_some item x.1 is_item in
        posted_left two test x (sym same)
        (subst (λ (i : post.Post). IsPassed (picks_of_post i) i.number
        (next_of i.number (receive_at p.standings i.number)) (fronts_of p) (fronts_of p')) it passes)
        (subst (λ (i : post.Post). (n : ℕ) → nat_eq i.number n ≡ false →
        receive_at p'.standings n ≡ shut_out (receive_at p.standings) i.number n) it changed)
        cancelled (λ n other. refl)
        (subst (λ (i : post.Post). standing_at p'.standings i.number
        ≡ cond (has cancelled i.number) (Some Aside) None) it
        (ap (λ (o : Option Receive). option_map standing_of o) gone ∙ rw stays refl))

    -- after one was cancelled
    pub posted_cancelled : AllPairs TwoReceives posts → (id : ℕ) (x : Entry) →
        waiting_of id (receive_at p.standings id) ≡ Some x →
        IsPassed (picks_of_post x.1) id (next_of id (receive_at p.standings id)) (fronts_of p) (fronts_of p') →
        ((n : ℕ) → nat_eq id n ≡ false → receive_at p'.standings n ≡ shut_out (receive_at p.standings) id n) →
        standing_at p'.standings id ≡ Some Aside →
        ArePosted (without_first (λ q. q.number == id) posts) (cancelled ++ id ∷ []) next p'
    posted_cancelled two id x waits passes changed aside =
        let there = waits_at id (receive_at p.standings id) x waits in
        let place = at_place is.is id (picks_of_post x.1) x.0 there.0 in
        let y : Entry = place.0 in
        let number : id ≡ y.1.number
        = sym (same_number-true y.1.number id
        (find_passes (λ (z : Entry). z.1.number == id) is.is.is.queue y place.1)) in
        posted_left two (λ q. q.number == id) y place.1
        (subst (λ (m : ℕ). IsPassed (picks_of_post y.1) m (next_of m (receive_at p.standings m)) (fronts_of p)
        (fronts_of p')) number
        (subst (λ (k : Picks). IsPassed k id (next_of id (receive_at p.standings id)) (fronts_of p) (fronts_of p'))
        (sym place.2) passes))
        (subst (λ (m : ℕ). (n : ℕ) → nat_eq m n ≡ false →
        receive_at p'.standings n ≡ shut_out (receive_at p.standings) m n) number changed)
        (cancelled ++ id ∷ [])
        (subst (λ (m : ℕ). (n : ℕ) → nat_eq m n ≡ false → has (cancelled ++ id ∷ []) n ≡ has cancelled n) number
        (λ n other. any_other (λ m. m == n) cancelled id other))
        (subst (λ (m : ℕ). standing_at p'.standings m ≡ cond (has (cancelled ++ id ∷ []) m) (Some Aside) None) number
        (aside ∙ sym (ap (λ (b : Bool). cond b (Some Aside) None)
        (any_more (λ m. m == id) cancelled id (number_itself id)))))

-- a receive left its ring, as two states of the queue know it
abbrev Left : Posted → Posted → (Picks → Option ℕ) → (Picks → Option ℕ) → Picks → ℕ → Type 0
Left p p' f f' k n = HasLeft k n f f' (receive_at p.standings) (receive_at p'.standings)

-- those that name both left their ring, and so did the oldest of them
pub left_named : {queue : List Entry} {next : ℕ} {under : Picks → List Entry} →
    AreBuckets picks_of_post queue next under → (p p' : Posted) →
    AreRings (fronts_of p) (receive_at p.standings) under → (key : Picks) → names_both key ≡ true →
    (r : Option post.Post) → r ≡ option_map (λ (y : Entry). y.1)
    (waiting_at (receive_at p.standings) (front_at p.named key)) → p'.wild ≡ p.wild →
    IfSome r (λ i. HasLeft key i.number (front_at p.named) (front_at p'.named)
    (receive_at p.standings) (receive_at p'.standings)) →
    IfSome r (λ i. HasLeft (picks_of_post i) i.number (fronts_of p) (fronts_of p') (receive_at p.standings)
    (receive_at p'.standings))
left_named {queue} {next} {under} are p p' rings key named r is wild left =
    at (slice_get (under key) 0) refl r (is ∙ ap (λ (o : Option Entry). option_map (λ (y : Entry). y.1) o) first) left
  where
    first : waiting_at (receive_at p.standings) (front_at p.named key) ≡ slice_get (under key) 0
    first = first_waits (receive_at p.standings) (front_at p.named key) (last_number 0 (under key))
        (first_number 0 (under key)) (under key)
        (subst (λ (b : Bool). cond b (front_at p.named key) (front_at p.wild key)
        ≡ front_number (under key)) named (rings key).0) (rings key).1

    both : (n : ℕ) → Left p p' (front_at p.named) (front_at p'.named) key n →
        Left p p' (fronts_of p) (fronts_of p') key n
    both n left = (
      (
        rw named left.0.0,
        (λ k apart. λ i. cond (names_both k) (left.0.1 k apart i) (front_at (wild i) k)),
      ),
      left.1,
    )

    at : (o : Option Entry) → o ≡ slice_get (under key) 0 → (r : Option post.Post) →
        r ≡ option_map (λ (y : Entry). y.1) o →
        IfSome r (λ i. Left p p' (front_at p.named) (front_at p'.named) key i.number) →
        IfSome r (λ i. Left p p' (fronts_of p) (fronts_of p') (picks_of_post i) i.number)
    at None same r is left = subst (λ (r : Option post.Post).
        IfSome r (λ i. Left p p' (fronts_of p) (fronts_of p') (picks_of_post i) i.number)) (sym is) tt
    at (Some x) same r is left = subst (λ (r : Option post.Post).
        IfSome r (λ i. Left p p' (fronts_of p) (fronts_of p') (picks_of_post i) i.number)) (sym is)
        (front_key are key (Some x) same (λ k y. Left p p' (fronts_of p) (fronts_of p') k y.1.number)
        (both x.1.number (subst (λ (r : Option post.Post).
        IfSome r (λ i. Left p p' (front_at p.named) (front_at p'.named) key i.number)) is left)))
