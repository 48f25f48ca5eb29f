-- The oldest of all that waits, by the fronts of the buckets.
use Rattle.std.proofs.Common.{◌≡◌, ℕ, ◌==◌, Bool, true, false, ◌&&◌, ◌||◌, Option, Some, List}
use Rattle.std.proofs.Common.{refl, sym, ◌∙◌, ap, arith, slice_get}
use Rattle.std.specs.List.{find}
use Rattle.std.specs.Option.{option_map}
use Rattle.std.proofs.lemmas.Bool.{eqb-true, false≢true}
use Rattle.std.proofs.lemmas.Bool.Decides.{nat_tests}
use Rattle.nm_types.specs.declared.messages.Arrival.{Arrival}
use Rattle.nm_types.specs.declared.messages.Envelope.{Envelope}
use Rattle.nm_types.specs.declared.messages.Peer.{Peer}
use Rattle.nm_types.specs.declared.messages.Peer.TheVariants as peer
use Rattle.nm_types.specs.declared.messages.Post as post
use Rattle.nm_types.specs.declared.messages.TagPick.{TagPick}
use Rattle.nm_types.specs.declared.messages.TagPick.TheVariants as tag
use Rattle.nm_history.specs.Selection.{matches, matches_source, matches_tag}
use Rattle.nm_match.specs.declared.picks.Picks.{Picks}
use Rattle.nm_match.specs.Buckets.{AreBuckets, IsQueue, earlier_of, oldest_of}
use Rattle.nm_match.specs.Picks.{fits_picks, names_both, picks_of_arrival, picks_of_post, same_peer, same_picks}
use Rattle.nm_match.specs.Picks.{same_tag}
use Rattle.nm_match.specs.Deeds.{is_message}
use Rattle.nm_match.specs.Queues.{TwoMessages, TwoReceives}
use Rattle.nm_match.proofs.BucketLemmas.{find-map, find_either, find_same, front_is_found}
use Rattle.nm_match.proofs.QueueLemmas.{both_fail}
use Rattle.nm_types.proofs.TruthLemmas.{and_left, and_right}

flip : (a b : ℕ) → (a == b) ≡ (b == a)
flip a b = grind (arith, nat_tests)

pub swapped : (x y z : Bool) → (x && y && z) ≡ (z && x && y)
swapped true true true = refl
swapped true true false = refl
swapped true false true = refl
swapped true false false = refl
swapped false y true = refl
swapped false y false = refl

or_none : (x : Bool) → (x || false) ≡ x
or_none true = refl
or_none false = refl

any_tag : (x z : Bool) → (((x && false && z) || (false && false && z)) || ((x && true && z)
    || (false && true && z))) ≡ (z && x && true)
any_tag true true = refl
any_tag true false = refl
any_tag false true = refl
any_tag false false = refl

both_named : (x y z : Bool) → (((x && y && z) || (false && y && z)) || ((x && false && z)
    || (false && false && z))) ≡ (z && x && y)
both_named true true true = refl
both_named true true false = refl
both_named true false true = refl
both_named true false false = refl
both_named false y true = refl
both_named false y false = refl

four : (f : Peer) (t : TagPick) (c from named ctx : ℕ) →
    (((same_peer (peer.One from) f && same_tag (tag.One named) t && ctx == c)
    || (same_peer peer.Any f && same_tag (tag.One named) t && ctx == c))
    || ((same_peer (peer.One from) f && same_tag tag.Any t && ctx == c)
    || (same_peer peer.Any f && same_tag tag.Any t && ctx == c)))
    ≡ (c == ctx && matches_source f from && matches_tag t named)
four peer.Any tag.Any c from named ctx = rw (flip c ctx) (swapped true true (ctx == c))
four peer.Any (tag.One m) c from named ctx =
    rw (flip c ctx, flip m named) (or_none (named == m && ctx == c) ∙ swapped true (named == m) (ctx == c))
four (peer.One r) tag.Any c from named ctx = rw (flip c ctx, flip r from) (any_tag (from == r) (ctx == c))
four (peer.One r) (tag.One m) c from named ctx =
    rw (flip c ctx, flip r from, flip m named) (both_named (from == r) (named == m) (ctx == c))

module _ {queue : List (ℕ × post.Post)} {next : ℕ} {m : Picks → List (ℕ × post.Post)}
    (are : AreBuckets picks_of_post queue next m) where
  front : (k : Picks) → slice_get (m k) 0
      ≡ find (λ (x : ℕ × post.Post). same_picks k (picks_of_post x.1)) queue
  front k = ap (λ (l : List (ℕ × post.Post)). slice_get l 0) (are.holds k)
      ∙ front_is_found (λ (x : ℕ × post.Post). same_picks k (picks_of_post x.1)) queue

  -- the oldest under the four keys is the oldest receive that selects the message
  pub oldest_found : (env : Envelope) → oldest_of m env
      ≡ find (λ (x : ℕ × post.Post). matches x.1.from x.1.tag x.1.ctx env) queue
  oldest_found env =
      let key : Peer → TagPick → Picks = λ f t. record { from = f; tag = t; ctx = env.ctx } in
      let has : Picks → ℕ × post.Post → Bool = λ k x. same_picks k (picks_of_post x.1) in
      let p = has (key (peer.One env.from) (tag.One env.tag)) in
      let q = has (key peer.Any (tag.One env.tag)) in
      let r = has (key (peer.One env.from) tag.Any) in
      let s = has (key peer.Any tag.Any) in
      (λ i. earlier_of
      (earlier_of (front (key (peer.One env.from) (tag.One env.tag)) i) (front (key peer.Any (tag.One env.tag)) i))
      (earlier_of (front (key (peer.One env.from) tag.Any) i) (front (key peer.Any tag.Any) i)))
      ∙ (λ i. earlier_of (sym (find_either p q queue are.rising) i) (sym (find_either r s queue are.rising) i))
      ∙ sym (find_either (λ x. p x || q x) (λ x. r x || s x) queue are.rising)
      ∙ find_same (λ (x : ℕ × post.Post). (p x || q x) || (r x || s x))
      (λ (x : ℕ × post.Post). matches x.1.from x.1.tag x.1.ctx env) queue
      (λ x. four x.1.from x.1.tag x.1.ctx env.from env.tag env.ctx)

module _ {X : Type 0} {key : X → Picks} {items : List X} {next : ℕ} {m : Picks → List (ℕ × X)}
    (is : IsQueue key items next m) where
  -- what is found, without its number
  pub queue_find : (test : X → Bool) → option_map (λ (y : ℕ × X). y.1) (find (λ (y : ℕ × X). test y.1) is.queue)
      ≡ find test items
  queue_find test = find-map (λ (y : ℕ × X). y.1) test is.queue ∙ ap (λ (l : List X). find test l) is.same

-- the receive that is found
pub posted_found : {posts : List post.Post} {next : ℕ} {m : Picks → List (ℕ × post.Post)}
    (is : IsQueue picks_of_post posts next m) →
    (env : Envelope) (o : Option (ℕ × post.Post)) → o ≡ oldest_of m env →
    option_map (λ (y : ℕ × post.Post). y.1) o ≡ find (λ p. matches p.from p.tag p.ctx env) posts
posted_found is env o same =
    ap (λ (o : Option (ℕ × post.Post)). option_map (λ (y : ℕ × post.Post). y.1) o) (same ∙ oldest_found is.are env)
    ∙ queue_find is (λ p. matches p.from p.tag p.ctx env)

-- what a receive selects, by the key of a message
pub arrival_fits : (f : Peer) (t : TagPick) (ctx : ℕ) (a : Arrival) →
    fits_picks (record { from = f; tag = t; ctx = ctx }) (picks_of_arrival a) ≡ matches f t ctx a.env
arrival_fits peer.Any tag.Any ctx a = refl
arrival_fits peer.Any (tag.One m) ctx a = refl
arrival_fits (peer.One r) tag.Any ctx a = refl
arrival_fits (peer.One r) (tag.One m) ctx a = refl

-- the message that is found
pub arrival_found : {arrivals : List Arrival} {next : ℕ} {m : Picks → List (ℕ × Arrival)}
    (is : IsQueue picks_of_arrival arrivals next m) →
    (f : Peer) (t : TagPick) (ctx : ℕ) (o : Option (ℕ × Arrival)) →
    o ≡ find (λ (x : ℕ × Arrival). fits_picks (record { from = f; tag = t; ctx = ctx }) (picks_of_arrival x.1))
    is.queue →
    option_map (λ (y : ℕ × Arrival). y.1) o ≡ find (λ a. matches f t ctx a.env) arrivals
arrival_found is f t ctx o same =
    let wanted : Picks = record { from = f; tag = t; ctx = ctx } in
    ap (λ (o : Option (ℕ × Arrival)). option_map (λ (y : ℕ × Arrival). y.1) o) (same
    ∙ find_same (λ (x : ℕ × Arrival). fits_picks wanted (picks_of_arrival x.1))
    (λ (x : ℕ × Arrival). matches f t ctx x.1.env) is.queue (λ x. arrival_fits f t ctx x.1))
    ∙ queue_find is (λ a. matches f t ctx a.env)

-- what a key selects is what a receive that names it selects
pub selected_found : (queue : List (ℕ × Arrival)) (f : Peer) (t : TagPick) (ctx : ℕ) (x : ℕ × Arrival) →
    find (λ (y : ℕ × Arrival). fits_picks (record { from = f; tag = t; ctx = ctx }) (picks_of_arrival y.1)) queue
    ≡ Some x → find (λ (y : ℕ × Arrival). matches f t ctx y.1.env) queue ≡ Some x
selected_found queue f t ctx x found =
    sym (find_same (λ (y : ℕ × Arrival). fits_picks (record { from = f; tag = t; ctx = ctx }) (picks_of_arrival y.1))
    (λ (y : ℕ × Arrival). matches f t ctx y.1.env) queue (λ y. arrival_fits f t ctx y.1)) ∙ found

-- two receives that are apart do not both have one number
pub posts_apart : (number : ℕ) (p q : post.Post) → TwoReceives p q → (p.number == number) ≡ true →
    (q.number == number) ≡ true → ⊥
posts_apart number p q two first second =
    two (eqb-true p.number number first ∙ sym (eqb-true q.number number second))

-- two messages that are apart are not both message n of one rank
pub messages_apart : (from n : ℕ) (a b : Arrival) → TwoMessages a b → is_message from n a ≡ true →
    is_message from n b ≡ true → ⊥
messages_apart from n a b two first second =
    two (eqb-true a.env.from from (and_left (a.env.from == from) (a.n == n) first)
    ∙ sym (eqb-true b.env.from from (and_left (b.env.from == from) (b.n == n) second)))
    (eqb-true a.n n (and_right (a.env.from == from) (a.n == n) first)
    ∙ sym (eqb-true b.n n (and_right (b.env.from == from) (b.n == n) second)))

-- of the keys of messages one that names both fits its own alone
pub named_fits : (f : Peer) (t : TagPick) (ctx : ℕ) → same_peer f peer.Any ≡ false →
    same_tag t tag.Any ≡ false → (a : Arrival) →
    same_picks (record { from = f; tag = t; ctx = ctx }) (picks_of_arrival a)
    ≡ fits_picks (record { from = f; tag = t; ctx = ctx }) (picks_of_arrival a)
named_fits peer.Any t ctx named_from named_tag a = absurd (false≢true (sym named_from))
named_fits (peer.One r) tag.Any ctx named_from named_tag a = absurd (false≢true (sym named_tag))
named_fits (peer.One r) (tag.One m) ctx named_from named_tag a =
    swapped (r == a.env.from) (m == a.env.tag) (ctx == a.env.ctx)

-- the oldest under its own key is the oldest that fits
pub named_found : {queue : List (ℕ × Arrival)} {next : ℕ} {m : Picks → List (ℕ × Arrival)}
    (are : AreBuckets picks_of_arrival queue next m) → (f : Peer) (t : TagPick) (ctx : ℕ) →
    same_peer f peer.Any ≡ false → same_tag t tag.Any ≡ false →
    slice_get (m (record { from = f; tag = t; ctx = ctx })) 0
    ≡ find (λ (x : ℕ × Arrival). fits_picks (record { from = f; tag = t; ctx = ctx }) (picks_of_arrival x.1)) queue
named_found {queue} are f t ctx named_from named_tag =
    let wanted : Picks = record { from = f; tag = t; ctx = ctx } in
    ap (λ (l : List (ℕ × Arrival)). slice_get l 0) (are.holds wanted)
    ∙ front_is_found (λ (x : ℕ × Arrival). same_picks wanted (picks_of_arrival x.1)) queue
    ∙ find_same (λ (x : ℕ × Arrival). same_picks wanted (picks_of_arrival x.1))
    (λ (x : ℕ × Arrival). fits_picks wanted (picks_of_arrival x.1)) queue
    (λ x. named_fits f t ctx named_from named_tag x.1)

-- where a source and a tag are named, the bucket of these has the oldest that fits
pub own_found : {queue : List (ℕ × Arrival)} {next : ℕ} {m : Picks → List (ℕ × Arrival)}
    (are : AreBuckets picks_of_arrival queue next m) → (w : Picks) → names_both w ≡ true →
    slice_get (m w) 0 ≡ find (λ (x : ℕ × Arrival). fits_picks w (picks_of_arrival x.1)) queue
own_found are w named =
    let both = both_fail (same_peer w.from peer.Any) (same_tag w.tag tag.Any) named in
    named_found are w.from w.tag w.ctx both.0 both.1
