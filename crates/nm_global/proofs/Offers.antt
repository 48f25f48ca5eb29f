-- The messages that were sent to a rank by asking, and what of them has left.
use Rattle.std.proofs.Common.{◌≡◌, ◌≢◌, nat_eq, ℕ, zero, suc, ◌<◌, ◌==◌, ◌||◌, ◌⊎◌, inl, inr, Bool, true}
use Rattle.std.proofs.Common.{false, Option, Some, None, List, [], ◌∷◌, ◌++◌, refl, sym, ◌∙◌, ap}
use Rattle.std.proofs.Common.{subst, arith, true≢false, IsSome, IsSomeAnd, is_some, find, take}
use Rattle.std.specs.List.{AllByRecursion}
use Rattle.std.specs.Option.{option_map_or, option_or}
use Rattle.std.proofs.lemmas.List.Folds.{find-append}
use Rattle.nm_types.specs.declared.scripts.Body.{Body}
use Rattle.nm_history.specs.Outgoing.{send_pieces}
use Rattle.nm_history.specs.Sends.{Sent, is_ask}
use Rattle.nm_history.specs.Continues.{has}
use Rattle.nm_history.proofs.Basic.{self_true}
use Rattle.nm_rndv.specs.declared.asked.State.{State}
use Rattle.nm_rndv.specs.declared.asked.State.TheVariants.{Asked, Cleared, Out, Withdrawn}
use Rattle.nm_rndv.specs.Offers.{is_leaving, is_waiting}
use Rattle.nm_rndv.proofs.StateLemmas.{apart, equal}
use Rattle.nm_global.specs.Emitted.{AreOffered, IsBody, IsEager, IsOffered, begun_of, first_of, popped_in}
use Rattle.nm_global.specs.Emitted.{sent_in}
use Rattle.nm_types.proofs.ListLemmas.{all_along}
use Rattle.nm_types.proofs.TruthLemmas.{or_right}

-- the messages of some sends are those of others too
abbrev pub Lasts : List Sent → List Sent → Type 0
Lasts ss ss' = (n : ℕ) (s : Sent) → sent_in ss n ≡ Some s → sent_in ss' n ≡ Some s

pub lasts-append : (ss more : List Sent) → Lasts ss (ss ++ more)
lasts-append ss more n s found =
    find-append (λ (s : Sent). s.n == n) ss more
    ∙ ap (λ (o : Option Sent). option_or o (sent_in more n)) found

pub body_lasts : (bodies : Sent → List ℕ) (ss ss' : List Sent) (n : ℕ) (body : Body) → Lasts ss ss' →
    IsBody bodies ss n body → IsBody bodies ss' n body
body_lasts bodies ss ss' n body lasts is =
    record {
      s = is.s;
      sent = lasts n is.s is.sent;
      asked = is.asked;
      bytes = is.bytes;
      len = is.len;
    }

pub eager_lasts : (ss ss' : List Sent) → Lasts ss ss' → (n : ℕ) → IsEager ss n → IsEager ss' n
eager_lasts ss ss' lasts n is = by (sent_in ss n) refl is where
  by : (o : Option Sent) → sent_in ss n ≡ o → IsSomeAnd o (λ s. is_ask s.how ≡ false) → IsEager ss' n
  by None found is = absurd is
  by (Some s) found is =
      subst (λ (o : Option Sent). IsSomeAnd o (λ s. is_ask s.how ≡ false)) (sym (lasts n s found)) is

pub some_lasts : (ss ss' : List Sent) → Lasts ss ss' → (n : ℕ) → IsSome (sent_in ss n) →
    IsSome (sent_in ss' n)
some_lasts ss ss' lasts n is = by (sent_in ss n) refl is where
  by : (o : Option Sent) → sent_in ss n ≡ o → IsSome o → IsSome (sent_in ss' n)
  by None found is = absurd (true≢false (sym is))
  by (Some s) found is = ap (λ (o : Option Sent). is_some o) (lasts n s found)

abbrev pub leaves_now : Option State → Bool
leaves_now o = option_map_or is_leaving o false

abbrev pub waits_now : Option State → Bool
waits_now o = option_map_or is_waiting o false

-- a message whose state does not change
pub kept_state : (bodies : Sent → List ℕ) (ss ss' : List Sent) (c c' : List ℕ) (first first' : Option ℕ)
    (n : ℕ) (o : Option State) → Lasts ss ss' → (first ≡ Some n → first' ≡ Some n) →
    (waits_now o ≡ true → has c n ≡ false → has c' n ≡ false) →
    IsOffered bodies ss c first n o → IsOffered bodies ss' c' first' n o
kept_state bodies ss ss' c c' first first' n None lasts stays apart is = tt
kept_state bodies ss ss' c c' first first' n (Some (Asked body)) lasts stays apart is =
    (body_lasts bodies ss ss' n body lasts is.0, apart refl is.1)
kept_state bodies ss ss' c c' first first' n (Some (Cleared cut)) lasts stays apart is =
    (body_lasts bodies ss ss' n cut.body lasts is.0, is.1, λ some. stays (is.2 some))
kept_state bodies ss ss' c c' first first' n (Some Out) lasts stays apart is = tt
kept_state bodies ss ss' c c' first first' n (Some Withdrawn) lasts stays apart is = tt

-- a message of which pieces have left is the first one, and was sent
begun_is_first : (bodies : Sent → List ℕ) (ss : List Sent) (c : List ℕ) (first : Option ℕ) (n : ℕ)
    (o : Option State) → 0 < popped_in o → IsOffered bodies ss c first n o →
    (s : Sent) × (sent_in ss n ≡ Some s) × (first ≡ Some n)
begun_is_first bodies ss c first n None some is = absurd (omega (arith, some))
begun_is_first bodies ss c first n (Some (Asked body)) some is = absurd (omega (arith, some))
begun_is_first bodies ss c first n (Some (Cleared cut)) some is = (is.0.s, is.0.sent, is.2 some)
begun_is_first bodies ss c first n (Some Out) some is = absurd (omega (arith, some))
begun_is_first bodies ss c first n (Some Withdrawn) some is = absurd (omega (arith, some))

not_leaving : (o : Option State) → leaves_now o ≡ false → popped_in o ≡ 0
not_leaving None is = refl
not_leaving (Some (Asked body)) is = refl
not_leaving (Some (Cleared cut)) is = absurd (true≢false is)
not_leaving (Some Out) is = refl
not_leaving (Some Withdrawn) is = refl

-- nothing has left of a message of which no piece has
pub none_begun : (bodies : Sent → List ℕ) (ss : List Sent) (st : ℕ → Option State) (n : ℕ) →
    popped_in (st n) ≡ 0 → begun_of bodies ss st (Some n) ≡ []
none_begun bodies ss st n none =
    ap (λ (k : ℕ). take k (option_map_or (send_pieces bodies) (sent_in ss n) [])) none

-- a search by another test that says the same of each of these
pub find_same : (p q : ℕ → Bool) (ns : List ℕ) → ((n : ℕ) → has ns n ≡ true → q n ≡ p n) →
    find q ns ≡ find p ns
find_same p q [] same = refl
find_same p q (n ∷ ns) same =
    rw (
      same n (ap (λ (b : Bool). b || has ns n) (self_true n)),
      find_same p q ns
          (λ m among. same m (or_right (n == m) (has ns m) among)),
    ) refl

-- how the messages to a rank go on
pub record Goes (bodies : Sent → List ℕ) (ss : List Sent) (st : ℕ → Option State) (c : List ℕ)
    (ss' : List Sent) (st' : ℕ → Option State) (c' : List ℕ) : Type 0 where
  pub lasts : Lasts ss ss'
  pub offered : AreOffered bodies ss' st' c'
  pub popped : (n : ℕ) → popped_in (st' n) ≡ popped_in (st n)

-- a number is this one or another
pub by_number : (P : ℕ → Type 0) (n : ℕ) → P n → ((q : ℕ) → n ≢ q → P q) → (q : ℕ) → P q
by_number P n now others q = by (nat_eq n q) refl where
  by : (b : Bool) → nat_eq n q ≡ b → P q
  by true same = subst P (equal n q same) now
  by false other = others q (apart n q other)

module _ (bodies : Sent → List ℕ) (ss : List Sent) (st : ℕ → Option State) (c : List ℕ)
    (are : AreOffered bodies ss st c) where
  -- a message of which pieces have left is the first one
  begun_at : (n k : ℕ) → popped_in (st n) ≡ suc k →
      (s : Sent) × (sent_in ss n ≡ Some s) × (first_of st c ≡ Some n)
  begun_at n k is = begun_is_first bodies ss c (first_of st c) n (st n) (omega (arith, is)) (are.states n)

  pub not_begun : (n : ℕ) → first_of st c ≢ Some n → popped_in (st n) ≡ 0
  not_begun n other = by (popped_in (st n)) refl where
    by : (k : ℕ) → popped_in (st n) ≡ k → popped_in (st n) ≡ 0
    by zero is = is
    by (suc k) is = let first = begun_at n k is in absurd (other first.2)

  -- nothing has left where no piece has left of any message
  nothing_begun : ((n : ℕ) → popped_in (st n) ≡ 0) → begun_of bodies ss st (first_of st c) ≡ []
  nothing_begun none = by (first_of st c) where
    by : (o : Option ℕ) → begun_of bodies ss st o ≡ []
    by None = refl
    by (Some n) = none_begun bodies ss st n (none n)

-- the pieces that have left of the first message stay those
pub begun_same : (bodies : Sent → List ℕ) (ss : List Sent) (st : ℕ → Option State) (c : List ℕ)
    (ss' : List Sent) (st' : ℕ → Option State) (c' : List ℕ) → AreOffered bodies ss st c →
    Goes bodies ss st c ss' st' c' →
    begun_of bodies ss' st' (first_of st' c') ≡ begun_of bodies ss st (first_of st c)
begun_same bodies ss st c ss' st' c' are goes = by (first_of st c) refl where
  none : ((n : ℕ) → popped_in (st n) ≡ 0) →
      begun_of bodies ss' st' (first_of st' c') ≡ begun_of bodies ss st (first_of st c)
  none all =
      nothing_begun bodies ss' st' c' goes.offered (λ n. goes.popped n ∙ all n)
      ∙ sym (nothing_begun bodies ss st c are all)

  by : (o : Option ℕ) → first_of st c ≡ o →
      begun_of bodies ss' st' (first_of st' c') ≡ begun_of bodies ss st (first_of st c)
  by None is = none (λ n. not_begun bodies ss st c are n (λ e. cc))
  by (Some n) is = by_count (popped_in (st n)) refl where
    by_count : (k : ℕ) → popped_in (st n) ≡ k →
        begun_of bodies ss' st' (first_of st' c') ≡ begun_of bodies ss st (first_of st c)
    by_count zero zero' =
        none (by_number (λ q. popped_in (st q) ≡ 0) n zero' (λ q other.
        not_begun bodies ss st c are q (λ e. let same : n ≡ q = cc in other same)))
    by_count (suc k) some =
        let old = begun_at bodies ss st c are n k some in
        let new = begun_at bodies ss' st' c' goes.offered n k (goes.popped n ∙ some) in
        ap (begun_of bodies ss' st') new.2
        ∙ ap (λ (k : ℕ). take k (option_map_or (send_pieces bodies) (sent_in ss' n) [])) (goes.popped n)
        ∙ ap (λ (o : Option Sent). take (popped_in (st n)) (option_map_or (send_pieces bodies) o []))
        (goes.lasts n old.0 old.1 ∙ sym old.1)
        ∙ sym (ap (begun_of bodies ss st) old.2)

-- messages that go on
module _ (bodies : Sent → List ℕ) (ss : List Sent) (st : ℕ → Option State) (c : List ℕ)
    (are : AreOffered bodies ss st c) where
  module _ (ss' : List Sent) (lasts : Lasts ss ss') (st' : ℕ → Option State) where
    pub sent_still : AllByRecursion (λ n. IsSome (sent_in ss' n)) c
    sent_still =
        all_along (λ n. IsSome (sent_in ss n)) (λ n. IsSome (sent_in ss' n)) c
        (some_lasts ss ss' lasts) are.sent

    -- a message has the same state, or one of neither of which any piece has left
    abbrev pub Quiet : ℕ → Type 0
    Quiet n =
        (st' n ≡ st n)
        ⊎ ((leaves_now (st n) ≡ false) × (leaves_now (st' n) ≡ false)
        × IsOffered bodies ss' c (first_of st' c) n (st' n))

    -- where that is so of each message, all go on
    pub quiet_goes : ((n : ℕ) → Quiet n) → Goes bodies ss st c ss' st' c
    quiet_goes quiet =
        record {
          lasts = lasts;
          offered = record { states = λ n. states n (quiet n); sent = sent_still };
          popped = λ n. popped n (quiet n);
        }
      where
        leaves : (n : ℕ) → Quiet n → leaves_now (st' n) ≡ leaves_now (st n)
        leaves n (inl same) = ap leaves_now same
        leaves n (inr both) = both.1 ∙ sym both.0

        first : first_of st' c ≡ first_of st c
        first =
            find_same (λ n. leaves_now (st n)) (λ n. leaves_now (st' n)) c
            (λ n among. leaves n (quiet n))

        states : (n : ℕ) → Quiet n → IsOffered bodies ss' c (first_of st' c) n (st' n)
        states n (inl same) =
            subst (λ (o : Option State). IsOffered bodies ss' c (first_of st' c) n o) (sym same)
            (kept_state bodies ss ss' c c (first_of st c) (first_of st' c) n (st n) lasts
            (λ is. first ∙ is) (λ waits apart. apart) (are.states n))
        states n (inr both) = both.2

        popped : (n : ℕ) → Quiet n → popped_in (st' n) ≡ popped_in (st n)
        popped n (inl same) = ap popped_in same
        popped n (inr both) = not_leaving (st' n) both.1 ∙ sym (not_leaving (st n) both.0)
