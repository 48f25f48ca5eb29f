-- What the tables keep when a piece continues.
use Rattle.std.specs.Prelude.{IsSomeAnd}
use Rattle.std.proofs.Common.{◌≡◌, ◌≢◌, ℕ, ◌<◌, Bool, true, false, cond, nat_eq, Option, Some, None, List, ◌++◌}
use Rattle.std.proofs.Common.{length, get_or, refl, sym, ◌∙◌, ap, subst, ◌⊎◌, inl, inr, arith}
use Rattle.std.specs.List.{All, IsDistinct}
use Rattle.std.specs.Map.{keys_of, lookup}
use Rattle.std.specs.Option.{option_map}
use Rattle.std.proofs.lemmas.Bool.{cases_eq, true≢false}
use Rattle.std.proofs.lemmas.Option.{same_Some}
use Rattle.nm_history.specs.declared.events.Event.{Event}
use Rattle.nm_history.specs.Sends.{is_ask}
use Rattle.nm_rndv.specs.Grants.{Granted, grant_in, is_open}
use Rattle.nm_receiving.specs.declared.receipts.Receipt.{Receipt}
use Rattle.nm_receiving.specs.Kept.{AreGrantedFor, TablesAgree, HasBytes, HasOpen, IsCleared, IsGranted, IsGrantedFor}
use Rattle.nm_receiving.specs.Receipts.{ReceivingView, granted_to, receipt_of}
use Rattle.nm_receiving.proofs.Grants.{grant_among}
use Rattle.nm_receiving.proofs.Lists.{some_from}
use Rattle.std.specs.Map.{set_value}
use Rattle.std.specs.Option.{option_map_or}
use Rattle.std.proofs.Math.ListN.{set}
use Rattle.std.proofs.lemmas.Bool.{lt-ltb, ltb-true}
use Rattle.std.proofs.lemmas.List.{length-set}
use Rattle.std.proofs.lemmas.Map.{keys-set_value}
use Rattle.std.proofs.lemmas.Map.Entries.{lookup_from_place}
use Rattle.std.proofs.lemmas.Option.{slice_get-get_or}
use Rattle.std.specs.Cmp.{nat_eq_equiv}
use Rattle.nm_rndv.specs.Grants.{with_grant, with_more, with_piece}
use Rattle.nm_receiving.specs.Steps.{made_whole}
use Rattle.nm_receiving.proofs.Grants.{all_set, grant_set, open_still, self}
use Rattle.nm_receiving.proofs.Lists.{row-other, row-same}
use Rattle.nm_receiving.proofs.Tables.{bytes_along}
use Rattle.nm_receiving.proofs.TablesMark.{MayMark}
use Rattle.std.proofs.Common.{nat_lt, slice_get}
use Rattle.std.specs.List.{position_or_len}
use Rattle.std.proofs.lemmas.Bool.Decides.{nat_tests}
use Rattle.nm_rndv.specs.Grants.{expected_in, is_unfinished}
use Rattle.nm_rndv.proofs.GrantLemmas.{expected_in-none, expected_in-some, open_there}
use Rattle.nm_rndv.proofs.StateLemmas.{equal}
use Rattle.nm_types.proofs.OptionLemmas.{some_and}
use Rattle.nm_types.proofs.NumberLemmas.{nat_unequal as differs}

module _ (es : List (ℕ × Granted)) (i : ℕ) (first : i ≡ position_or_len is_unfinished es) where
  -- an expected message has an unfinished grant
  expected_is_open : IsDistinct nat_eq (keys_of es) → (n : ℕ) →
      option_map (λ at. at.0) (expected_in es) ≡ Some n →
      (g : Granted) × (lookup (nat_eq n) es ≡ Some g) × (is_open g ≡ true)
  expected_is_open distinct n h = by (slice_get es i) refl
    where
      by : (o : Option (ℕ × Granted)) → slice_get es i ≡ o →
          (g : Granted) × (lookup (nat_eq n) es ≡ Some g) × (is_open g ≡ true)
      by None at =
          let none : Some n ≡ None =
          sym h ∙ ap (λ o. option_map (λ (e : ℕ × ℕ). e.0) o) (expected_in-none es i first at) in
          absurd cc
      by (Some e) at =
          let named : Some e.0 ≡ Some n =
          sym (ap (λ o. option_map (λ (e : ℕ × ℕ). e.0) o) (expected_in-some es i first e at)) ∙ h in
          let is : e.0 ≡ n = cc in (
            e.1,
            subst (λ k. lookup (nat_eq k) es ≡ Some e.1) is
                (lookup_from_place nat_eq_equiv es i e.0 e.1 distinct at),
            open_there es i first e at,
          )

-- an open grant has bytes
open_bytes : (g : Granted) → is_open g ≡ true → (bytes : List ℕ) × (g.bytes ≡ Some bytes) × (length bytes < g.len)
open_bytes g is = by g.bytes refl is
  where
    by : (o : Option (List ℕ)) → g.bytes ≡ o → option_map_or (λ bytes. nat_lt (length bytes) g.len) o false ≡ true
        → (bytes : List ℕ) × (g.bytes ≡ Some bytes) × (length bytes < g.len)
    by None there is = absurd (true≢false (sym is))
    by (Some bytes) there is = (bytes, there, ltb-true (length bytes) g.len is)

-- the message that the next piece is of
pub record IsExpected (v : ReceivingView) (h : List Event) (from n : ℕ) (g : Granted) (came : List ℕ)
    (r : Receipt) : Type 0 where
  pub there : grant_in (granted_to v from) n ≡ Some g
  pub is_open' : is_open g ≡ true
  pub bytes : g.bytes ≡ Some came
  pub below : length came < g.len
  pub here : receipt_of v from n ≡ Some r
  pub cleared : IsCleared h from (n, g) r

pub expected_is : (v : ReceivingView) (h : List Event) (from n at' : ℕ) → TablesAgree v h →
    expected_in (granted_to v from) ≡ Some (n, at')
    → (g : Granted) × (came : List ℕ) × (r : Receipt) × IsExpected v h from n g came r
expected_is v h from n at' tables expected =
    let row : List (ℕ × Granted) = granted_to v from in
    let found = expected_is_open row (position_or_len is_unfinished row) refl (tables.once from) n
    (ap (λ (o : Option (ℕ × ℕ)). option_map (λ e. e.0) o) expected) in
    let entry = grant_among (λ e. IsSomeAnd (receipt_of v from e.0) (IsCleared h from e)) row n found.0
    (tables.cleared from) found.1 in
    let r = some_and (IsCleared h from (n, found.0)) (receipt_of v from n) entry in
    let b = open_bytes found.0 found.2 in (
      found.0,
      b.0,
      r.0,
      record {
        there = found.1;
        is_open' = found.2;
        bytes = b.1;
        below = b.2;
        here = r.1;
        cleared =
            r.2;
      },
    )

module _ (v : ReceivingView) (h : List Event) (from n : ℕ) (bytes : List ℕ) (drawn : List ℕ) (g : Granted)
    (came : List ℕ) (r : Receipt)
    (tables : TablesAgree v h) (inside : from < length v.grants) (is : IsExpected v h from n g came r) where
  abbrev row : List (ℕ × Granted)
  row = granted_to v from

  abbrev w : Granted
  w = with_more g bytes

  abbrev row1 : List (ℕ × Granted)
  row1 = with_piece row n bytes

  abbrev pub pieced : ReceivingView
  pieced = record v { grants = set v.grants from row1; drawn = drawn }

  row_is : row1 ≡ set_value (nat_eq n) row w
  row_is = ap (λ (o : Option Granted). option_map_or (λ g. with_grant row n (with_more g bytes)) o row) is.there

  granted_here : granted_to pieced from ≡ set_value (nat_eq n) row w
  granted_here = row-same v.grants from row1 from refl inside ∙ row_is

  granted_other : (i : ℕ) → i ≢ from → granted_to pieced i ≡ granted_to v i
  granted_other i differ = row-other v.grants from row1 i differ

  pub now_there : grant_in (granted_to pieced from) n ≡ Some w
  now_there = ap (λ (es : List (ℕ × Granted)). grant_in es n) granted_here ∙ grant_set row n g w is.there n
      ∙ ap (λ (b : Bool). cond b (Some w) (grant_in row n)) (self n)

  still_there : (i k : ℕ) → (i ≡ from → k ≡ n → ⊥) → grant_in (granted_to pieced i) k ≡ grant_in (granted_to v i) k
  still_there i k differ = by (cases_eq i from)
    where
      by : (i ≡ from) ⊎ (i ≡ from → ⊥) → grant_in (granted_to pieced i) k ≡ grant_in (granted_to v i) k
      by (inl same) =
          ap (λ (j : ℕ). grant_in (granted_to pieced j) k) same
          ∙ ap (λ (es : List (ℕ × Granted)). grant_in es k) granted_here ∙ grant_set row n g w is.there k
          ∙ ap (λ (b : Bool). cond b (Some w) (grant_in row k)) (differs n k (λ is'. differ same (sym is')))
          ∙ ap (λ (j : ℕ). grant_in (granted_to v j) k) (sym same)
      by (inr other) = ap (λ (es : List (ℕ × Granted)). grant_in es k) (granted_other i other)

  not_whole : r.whole ≡ false
  not_whole = is.cleared.due is.is_open'

  w_bytes : w.bytes ≡ Some (came ++ bytes)
  w_bytes = ap (λ (o : Option (List ℕ)). option_map (λ bs. bs ++ bytes) o) is.bytes

  piece_bytes : (s : Receipt) → receipt_of v s.arrival.env.from s.arrival.n ≡ Some s → HasBytes v s → HasBytes pieced s
  piece_bytes s here = bytes_along v pieced s s refl
      (λ how g' there has. by g' there has (cases_eq s.arrival.env.from from) (cases_eq s.arrival.n n))
      (λ how m there has. (m, there, has))
    where
      Now : Type 0
      Now = (g' : Granted) × (grant_in (granted_to pieced s.arrival.env.from) s.arrival.n ≡ Some g') × IsGranted s g'

      other : (g' : Granted) → grant_in (granted_to v s.arrival.env.from) s.arrival.n ≡ Some g' → IsGranted s g'
          → (s.arrival.env.from ≡ from → s.arrival.n ≡ n → ⊥)
          → (g' : Granted) × (grant_in (granted_to pieced s.arrival.env.from) s.arrival.n ≡ Some g') × IsGranted s g'
      other g' there has differ = (g', still_there s.arrival.env.from s.arrival.n differ ∙ there, has)

      by : (g' : Granted) → grant_in (granted_to v s.arrival.env.from) s.arrival.n ≡ Some g' → IsGranted s g'
          → (s.arrival.env.from ≡ from) ⊎ (s.arrival.env.from ≡ from → ⊥) → (s.arrival.n ≡ n) ⊎ (s.arrival.n ≡ n → ⊥)
          → (g' : Granted) × (grant_in (granted_to pieced s.arrival.env.from) s.arrival.n ≡ Some g') × IsGranted s g'
      by g' there has (inl same) (inl same') =
          let is_g : g' ≡ g = same_Some g' g (sym there ∙ ap (λ (i : ℕ). grant_in (granted_to v i) s.arrival.n) same
          ∙ ap (λ (k : ℕ). grant_in (granted_to v from) k) same' ∙ is.there) in
          let is_r : s ≡ r = same_Some s r (sym here ∙ ap (λ (i : ℕ). receipt_of v i s.arrival.n) same
          ∙ ap (λ (k : ℕ). receipt_of v from k) same' ∙ is.here) in (
            w,
            ap (λ (i : ℕ). grant_in (granted_to pieced i) s.arrival.n) same
                ∙ ap (λ (k : ℕ). grant_in (granted_to pieced from) k) same' ∙ now_there,
            record {
              len = ap (λ (x : Granted). x.len) (sym is_g) ∙ has.len;
              bytes = some_from (λ bytes. s.whole ≡ true → length bytes ≡ w.len) w.bytes (came ++ bytes) w_bytes
                  (λ whole. absurd (true≢false (sym whole ∙ ap (λ (x : Receipt). x.whole) is_r ∙ not_whole)));
            },
          )
      by g' there has (inl same) (inr differ) = other g' there has (λ _ is'. differ is')
      by g' there has (inr differ) place = other g' there has (λ is' _. differ is')

  -- the other messages have the grants that they had, and this one has it open until its last piece
  pub owed-others : AreGrantedFor v h → (i k : ℕ) → (i ≡ from → k ≡ n → ⊥) → IsGrantedFor pieced h i k
  owed-others owed i k differ s here awaited =
      open_still (granted_to v i) (granted_to pieced i) k (λ g' there. still_there i k differ ∙ there)
      (owed i k s here awaited)

  pub owed-piece : AreGrantedFor v h → length (came ++ bytes) < g.len → AreGrantedFor pieced h
  owed-piece owed short i k s here awaited = by (cases_eq i from) (cases_eq k n)
    where
      open_now : is_open w ≡ true
      open_now = ap (λ (o : Option (List ℕ)). option_map_or (λ b. nat_lt (length b) g.len) o false) w_bytes
          ∙ lt-ltb (length (came ++ bytes)) g.len short

      by : (i ≡ from) ⊎ (i ≡ from → ⊥) → (k ≡ n) ⊎ (k ≡ n → ⊥) → HasOpen (granted_to pieced i) k
      by (inl same) (inl same') =
          subst (λ (j : ℕ). HasOpen (granted_to pieced j) k) (sym same)
          (subst (λ (j : ℕ). HasOpen (granted_to pieced from) j) (sym same')
          (some_from (λ (g : Granted). is_open g ≡ true) (grant_in (granted_to pieced from) n) w now_there open_now))
      by (inl same) (inr differ) = owed-others owed i k (λ _ is'. differ is') s here awaited
      by (inr differ) place = owed-others owed i k (λ is' _. differ is') s here awaited

  module _ (names : (i k : ℕ) (s : Receipt) → receipt_of v i k ≡ Some s →
      (s.arrival.env.from ≡ i) × (s.arrival.n ≡ k)) where
    at_name : (i k : ℕ) (s : Receipt) → receipt_of v i k ≡ Some s → receipt_of v s.arrival.env.from s.arrival.n ≡ Some s
    at_name i k s there =
        let name = names i k s there in
        ap (λ (j : ℕ). receipt_of v j s.arrival.n) name.0 ∙ ap (λ (j : ℕ). receipt_of v i j) name.1 ∙ there

    piece_cleared : (i : ℕ) → All (λ e. IsSomeAnd (receipt_of v i e.0) (IsCleared h i e)) (granted_to pieced i)
    piece_cleared i = by (cases_eq i from)
      where
        by : (i ≡ from) ⊎ (i ≡ from → ⊥) → All (λ e. IsSomeAnd (receipt_of v i e.0) (IsCleared h i e))
            (granted_to pieced i)
        by (inl same) =
            subst (λ (j : ℕ). All (λ e. IsSomeAnd (receipt_of v j e.0) (IsCleared h j e)) (granted_to pieced j))
            (sym same)
            (subst (λ (es : List (ℕ × Granted)). All (λ e. IsSomeAnd (receipt_of v from e.0) (IsCleared h from e)) es)
            (sym granted_here)
            (all_set (λ e. IsSomeAnd (receipt_of v from e.0) (IsCleared h from e)) (nat_eq n) row w
            (λ k is_n. let same' : n ≡ k = equal n k is_n in
            subst (λ (j : ℕ). IsSomeAnd (receipt_of v from j) (IsCleared h from (j, w))) same'
            (some_from (IsCleared h from (n, w)) (receipt_of v from n) r is.here
            (record { asked = is.cleared.asked; taken = is.cleared.taken; due = λ _. not_whole })))
            (tables.cleared from)))
        by (inr other) = subst (λ (es : List (ℕ × Granted)). All
            (λ e. IsSomeAnd (receipt_of v i e.0) (IsCleared h i e)) es) (sym (granted_other i other))
            (tables.cleared i)

    pub piece_once : (i : ℕ) → IsDistinct nat_eq (keys_of (granted_to pieced i))
    piece_once i = by (cases_eq i from)
      where
        by : (i ≡ from) ⊎ (i ≡ from → ⊥) → IsDistinct nat_eq (keys_of (granted_to pieced i))
        by (inl same) =
            subst (λ (ks : List ℕ). IsDistinct nat_eq ks)
            (sym (ap (λ (j : ℕ). keys_of (granted_to pieced j)) same
            ∙ ap (λ (es : List (ℕ × Granted)). keys_of es) granted_here
            ∙ keys-set_value (nat_eq n) row w)) (tables.once from)
        by (inr other) = subst (λ (es : List (ℕ × Granted)). IsDistinct nat_eq (keys_of es))
            (sym (granted_other i other)) (tables.once i)

    pub tables-piece : length drawn ≡ length v.drawn → TablesAgree pieced h
    tables-piece same_drawn = record {
      streams = tables.streams;
      grants = length-set v.grants from row1 ∙ tables.grants;
      receipts = tables.receipts;
      drawn = same_drawn ∙ tables.drawn;
      counts = tables.counts;
      unfinished = tables.unfinished;
      untaken = λ i k s here how none. piece_bytes s (at_name i k s here) (tables.untaken i k s here how none);
      waiting = tables.waiting;
      taken = λ k receive a at' some.
          let had = tables.taken k receive a at' some in
          (had.0, had.1, λ live. piece_bytes had.0 (at_name a.env.from a.n had.0 had.1.0) (had.2 live));
      apart = tables.apart;
      cleared = piece_cleared;
      once = piece_once;
      caps = tables.caps;
    }

    -- with its last piece the message may be made whole
    module _ (full : length (came ++ bytes) ≡ g.len) where
      w_closed : is_open w ≡ false
      w_closed = ap (λ (o : Option (List ℕ)). option_map_or (λ b. nat_lt (length b) g.len) o false) w_bytes
          ∙ below (length (came ++ bytes)) g.len full
        where
          below : (a b : ℕ) → a ≡ b → nat_lt a b ≡ false
          below a b same = grind (arith, nat_tests)

      pub piece_may_mark : MayMark pieced h from n r
      piece_may_mark = record {
        here = is.here;
        complete = λ had. record {
          granted = λ how. complete_at (names from n r is.here) had how;
          joined = λ eager. absurd (true≢false (sym is.cleared.asked ∙ eager));
        };
        last = λ last some.
            let was = some_and (λ (r : Receipt). (is_ask r.arrival.env.how ≡ false) × (r.whole ≡ false))
            (receipt_of v from n)
            (tables.unfinished from n last some) in
            let same : was.0 ≡ r = same_Some was.0 r (sym was.1 ∙ is.here) in
            true≢false (sym is.cleared.asked ∙ ap (λ (x : Receipt). is_ask x.arrival.env.how) (sym same) ∙ was.2.0);
        taken = λ _. is.cleared.taken;
        closed = λ k d below same.
            let es : List (ℕ × Granted) = granted_to pieced from in
            let e : ℕ × Granted = get_or es k d in
            let there = lookup_from_place nat_eq_equiv es k e.0 e.1 (piece_once from) (slice_get-get_or es k d below) in
            let is_w : e.1 ≡ w = same_Some e.1 w (sym there ∙ ap (λ (j : ℕ). grant_in es j) same ∙ now_there) in
            ap (λ (x : Granted). is_open x) is_w ∙ w_closed;
      }
        where
          complete_at : (r.arrival.env.from ≡ from) × (r.arrival.n ≡ n) → HasBytes pieced r →
              is_ask r.arrival.env.how ≡ true
              → IsSomeAnd (grant_in (granted_to pieced r.arrival.env.from) r.arrival.n) (IsGranted (made_whole r))
          complete_at name had how =
              let there : grant_in (granted_to pieced r.arrival.env.from) r.arrival.n ≡ Some w =
              ap (λ (i : ℕ). grant_in (granted_to pieced i) r.arrival.n) name.0
              ∙ ap (λ (k : ℕ). grant_in (granted_to pieced from) k) name.1 ∙ now_there in
              let was = some_and (IsGranted r) (grant_in (granted_to pieced r.arrival.env.from) r.arrival.n)
              (had.granted how) in
              let is_w : was.0 ≡ w = same_Some was.0 w (sym was.1 ∙ there) in
              some_from (IsGranted (made_whole r)) (grant_in (granted_to pieced r.arrival.env.from) r.arrival.n) w there
              (record {
                len = ap (λ (x : Granted). x.len) (sym is_w) ∙ was.2.len;
                bytes = some_from (λ bytes. true ≡ true → length bytes ≡ w.len) w.bytes (came ++ bytes) w_bytes
                    (λ _. full);
              })
