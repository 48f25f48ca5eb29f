-- Words of a line, both ways: numbers of each width, sources, tags, and choices of two words.
use Rattle.std.proofs.Common.{◌≡◌, ℕ, ◌<◌, ◌^◌, inl, inr, Bool, true, false, List}
use Rattle.std.proofs.Common.{Option, Some, None, refl, arith, codes, decimal}
use Rattle.std.specs.Str.{bytes_eq}
use Rattle.std.proofs.lemmas.Bool.{false_from_ne_true}
use Rattle.std.proofs.lemmas.Slice.Eq.{bytes_eq-Decides}
use Rattle.nm_types.specs.declared.messages.How.{How}
use Rattle.nm_types.specs.declared.messages.How.TheVariants as how
use Rattle.nm_types.specs.declared.messages.Peer.{Peer}
use Rattle.nm_types.specs.declared.messages.Peer.TheVariants as peer
use Rattle.nm_types.specs.declared.messages.TagPick.{TagPick}
use Rattle.nm_types.specs.declared.messages.TagPick.TheVariants as pick
use Rattle.nm_types.specs.Text.{peer_word, tag_word}
use Rattle.nm_report.specs.Events.{how_word, done_word}
use Rattle.nm_script.specs.Decimal.{number_of}
use Rattle.nm_script.proofs.NumberLemmas.{number_taken, number_again}
use Rattle.nm_script.proofs.WordsStepLemmas.{chosen}
use Rattle.nm_script.proofs.StepLemmas.{guard_some}
use Rattle.nm_trace.specs.Events.{peer_of, pick_of, how_of, done_of}
use Rattle.nm_trace.specs.Steps.{◌>>=◌}
use Rattle.nm_trace.specs.Traces.{PeerIn, PickIn}

-- both steps gave a value
pub bind_some : {A B : Type 0} (o : Option A) (f : A → Option B) (y : B) → (o >>= f) ≡ Some y
    → (x : A) × (o ≡ Some x) × (f x ≡ Some y)
bind_some (Some x) f y h = (x, refl, h)
bind_some None f y h = cc

pub same_bytes : (a b : List ℕ) → bytes_eq a b ≡ true → a ≡ b
same_bytes a b h = (bytes_eq-Decides a b).0 h

-- numbers of each width
pub small_again : (n : ℕ) → n < 2 ^ 8 → number_of (2 ^ 8) (decimal n) ≡ Some n
small_again n h = number_again (2 ^ 8) n (omega arith) h

pub middle_again : (n : ℕ) → n < 2 ^ 16 → number_of (2 ^ 16) (decimal n) ≡ Some n
middle_again n h = number_again (2 ^ 16) n (omega arith) h

pub large_again : (n : ℕ) → n < 2 ^ 32 → number_of (2 ^ 32) (decimal n) ≡ Some n
large_again n h = number_again (2 ^ 32) n (omega arith) h

pub long_again : (n : ℕ) → n < 2 ^ 63 → number_of (2 ^ 63) (decimal n) ≡ Some n
long_again n h = number_again (2 ^ 63) n (omega arith) h

pub huge_again : (n : ℕ) → n < 2 ^ 64 → number_of (2 ^ 64) (decimal n) ≡ Some n
huge_again n h = number_again (2 ^ 64) n (omega arith) h

pub small_taken : (n : ℕ) (word : List ℕ) → number_of (2 ^ 8) word ≡ Some n → (n < 2 ^ 8) × (word ≡ decimal n)
small_taken n word h = number_taken (2 ^ 8) n word (omega arith) h

pub middle_taken : (n : ℕ) (word : List ℕ) → number_of (2 ^ 16) word ≡ Some n
    → (n < 2 ^ 16) × (word ≡ decimal n)
middle_taken n word h = number_taken (2 ^ 16) n word (omega arith) h

pub large_taken : (n : ℕ) (word : List ℕ) → number_of (2 ^ 32) word ≡ Some n
    → (n < 2 ^ 32) × (word ≡ decimal n)
large_taken n word h = number_taken (2 ^ 32) n word (omega arith) h

pub long_taken : (n : ℕ) (word : List ℕ) → number_of (2 ^ 63) word ≡ Some n
    → (n < 2 ^ 63) × (word ≡ decimal n)
long_taken n word h = number_taken (2 ^ 63) n word (omega arith) h

pub huge_taken : (n : ℕ) (word : List ℕ) → number_of (2 ^ 64) word ≡ Some n
    → (n < 2 ^ 64) × (word ≡ decimal n)
huge_taken n word h = number_taken (2 ^ 64) n word (omega arith) h

-- no number is spelled `any`
any_is_none : (limit : ℕ) → number_of limit (codes "any") ≡ None
any_is_none limit = refl

not_any : (limit n : ℕ) → number_of limit (decimal n) ≡ Some n → bytes_eq (decimal n) (codes "any") ≡ false
not_any limit n h = false_from_ne_true _ (λ e.
    let is = same_bytes (decimal n) (codes "any") e in
    let gone : number_of limit (codes "any") ≡ Some n = rw is at h in
    cc (any_is_none limit, gone))

pub peer_again : (p : Peer) → PeerIn p → peer_of (peer_word p) ≡ Some p
unfolding peer_of
peer_again peer.Any h = refl
peer_again (peer.One rank) h =
    let e = small_again rank h in
    rw (not_any (2 ^ 8) rank e, e) refl

pub pick_again : (t : TagPick) → PickIn t → pick_of (tag_word t) ≡ Some t
unfolding pick_of
pick_again pick.Any h = refl
pick_again (pick.One tag) h =
    let e = middle_again tag h in
    rw (not_any (2 ^ 16) tag e, e) refl

pub peer_taken : (p : Peer) (word : List ℕ) → peer_of word ≡ Some p → PeerIn p × (word ≡ peer_word p)
unfolding peer_of
peer_taken p word h =
    elim (chosen (bytes_eq word (codes "any")) _ _ (Some p) h) [
      | inl e ↦
          let is : peer.Any ≡ p = cc (e.1) in
          rw (← is) (tt, same_bytes word (codes "any") e.0)
      | inr e ↦
          let b = bind_some (number_of (2 ^ 8) word) _ p e.1 in
          let n = small_taken b.0 word b.1 in
          let is : peer.One b.0 ≡ p = cc (b.2) in
          rw (← is) (n.0, n.1)
    ]

pub pick_taken : (t : TagPick) (word : List ℕ) → pick_of word ≡ Some t → PickIn t × (word ≡ tag_word t)
unfolding pick_of
pick_taken t word h =
    elim (chosen (bytes_eq word (codes "any")) _ _ (Some t) h) [
      | inl e ↦
          let is : pick.Any ≡ t = cc (e.1) in
          rw (← is) (tt, same_bytes word (codes "any") e.0)
      | inr e ↦
          let b = bind_some (number_of (2 ^ 16) word) _ t e.1 in
          let n = middle_taken b.0 word b.1 in
          let is : pick.One b.0 ≡ t = cc (b.2) in
          rw (← is) (n.0, n.1)
    ]

pub how_again : (h : How) → how_of (how_word h) ≡ Some h
unfolding how_of
how_again how.Eager = refl
how_again how.Ask = refl

pub how_taken : (w : How) (word : List ℕ) → how_of word ≡ Some w → word ≡ how_word w
unfolding how_of
how_taken w word h =
    elim (chosen (bytes_eq word (codes "eager")) _ _ (Some w) h) [
      | inl e ↦
          let is : how.Eager ≡ w = cc (e.1) in
          rw (← is) (same_bytes word (codes "eager") e.0)
      | inr e ↦
          let g = guard_some (bytes_eq word (codes "ask")) (Some how.Ask) w e.1 in
          let is : how.Ask ≡ w = cc (g.1) in
          rw (← is) (same_bytes word (codes "ask") g.0)
    ]

pub done_again : (d : Bool) → done_of (done_word d) ≡ Some d
unfolding done_of
done_again true = refl
done_again false = refl

pub done_taken : (d : Bool) (word : List ℕ) → done_of word ≡ Some d → word ≡ done_word d
unfolding done_of
done_taken d word h =
    elim (chosen (bytes_eq word (codes "done")) _ _ (Some d) h) [
      | inl e ↦
          let is : true ≡ d = cc (e.1) in
          rw (← is) (same_bytes word (codes "done") e.0)
      | inr e ↦
          let g = guard_some (bytes_eq word (codes "late")) (Some false) d e.1 in
          let is : false ≡ d = cc (g.1) in
          rw (← is) (same_bytes word (codes "late") g.0)
    ]
