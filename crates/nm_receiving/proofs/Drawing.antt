-- How the tables go on by a piece.
use Rattle.std.specs.Prelude.{IsSome, IsTrue, is_some}
use Rattle.std.proofs.Common.{◌≡◌, ℕ, ◌+◌, ◌-◌, ◌<◌, ◌==◌, ◌↔◌, Bool, true, false, ◌&&◌, cond, if◌then◌else◌, Option}
use Rattle.std.proofs.Common.{Some, None, List, [], ◌∷◌, ◌++◌}
use Rattle.std.proofs.Common.{length, get_or, refl, sym, ◌∙◌, ap, subst, append-nil, arith, length-append}
use Rattle.std.specs.Cmp.{nat_eq_equiv}
use Rattle.std.specs.List.{slice_get}
use Rattle.std.specs.Option.{option_map_or}
use Rattle.std.proofs.Math.ListN.{set}
use Rattle.std.proofs.lemmas.Bool.{eqb-false, eqb-true}
use Rattle.std.proofs.lemmas.List.{length-set}
use Rattle.std.proofs.lemmas.Map.Entries.{lookup_from_place}
use Rattle.std.proofs.lemmas.Option.{same_Some, slice_get-get_or}
use Rattle.nm_types.specs.declared.packets.Joined.{Joined}
use Rattle.nm_types.specs.declared.packets.Joined.TheVariants as joined
use Rattle.nm_types.specs.declared.packets.Piece.{Piece}
use Rattle.nm_history.specs.declared.events.Event.{Event}
use Rattle.nm_history.specs.declared.events.Happened.TheVariants.{Whole}
use Rattle.nm_history.proofs.SelectionLemmas.{find_contains}
use Rattle.nm_history.specs.Bytes.{pulled_bytes}
use Rattle.nm_history.specs.Effects.{whole_if}
use Rattle.nm_history.specs.Pieces.{Due, due_pieces, is_due, piece_makes}
use Rattle.nm_history.specs.Rules.{AreRight}
use Rattle.nm_history.specs.Happens.{at}
use Rattle.nm_rndv.specs.Grants.{Continues, Granted, Granting, came as came_of, due_in, due_of, expected_in}
use Rattle.nm_rndv.specs.Grants.{first_unfinished, grant_in, grants_from}
use Rattle.nm_rndv.specs.Grants.{is_open, is_open_in, is_unfinished, joined_by, with_piece}
use Rattle.nm_rndv.specs.Pieces.{piece_size}
use Rattle.nm_receiving.specs.Pieces.{due_of_grants}
use Rattle.nm_receiving.proofs.DueLemmas.{due-first}
use Rattle.nm_receiving.proofs.GrantLemmas.{fits-first, joined-made}
use Rattle.nm_receiving.specs.declared.receipts.Receipt.{Receipt}
use Rattle.nm_receiving.specs.Kept.{TablesAgree, ReceivingInvariant}
use Rattle.nm_receiving.specs.Receipts.{AddsBytes, ReceivingView, drawn_from, granted_to, of_asked}
use Rattle.nm_receiving.specs.Receipts.{receipt_of}
use Rattle.nm_receiving.specs.Received.{AreReceived, Preserves}
use Rattle.nm_receiving.specs.Steps.{rows_with_whole}
use Rattle.nm_receiving.proofs.CameLemmas.{piece-came}
use Rattle.nm_receiving.proofs.Changing.{keeps-piece}
use Rattle.nm_receiving.proofs.Events.{same_taken, unstamp-none}
use Rattle.nm_receiving.proofs.Goings.{goes_on, like-push, names_of}
use Rattle.nm_receiving.proofs.Marking.{marked}
use Rattle.nm_receiving.proofs.Stood.{stood_of}
use Rattle.nm_receiving.proofs.TablesMark.{owed-marked, tables-marked}
use Rattle.nm_receiving.proofs.TablesPiece.{IsExpected, expected_is, owed-others, owed-piece, piece_may_mark}
use Rattle.nm_receiving.proofs.TablesPiece.{tables-piece}
use Rattle.nm_receiving.proofs.Taking.{MayEnd, keeps-marked, marked_if}
use Rattle.nm_types.proofs.OptionLemmas.{mapped_some as mapped}

-- what is due of a rank at a history, by what was granted to it
pub due_at : (v : ReceivingView) (h : List Event) → AreReceived v h → (from : ℕ)
    → slice_get (due_of_grants (granted_to v from)) 0 ≡ slice_get (due_pieces h from) (drawn_from v from)
due_at v h received from = due-first (granted_to v from) h from (drawn_from v from) (received.due from)

pub continued_at : (v : ReceivingView) (gs : Granting) (p : Piece) (b : Bool) → gs.grants ≡ v.grants →
    (IsTrue b ↔ Continues gs p)
    → (h : List Event) → AreReceived v h
    → b ≡ option_map_or (is_due p) (slice_get (due_pieces h p.from) (drawn_from v p.from)) false
continued_at v gs p b same fits h received =
    fits-first gs p b fits
    ∙ ap (λ (rows : List (List (ℕ × Granted))). option_map_or (is_due p)
    (slice_get (due_of_grants (get_or rows p.from [])) 0) false) same
    ∙ ap (λ (o : Option Due). option_map_or (is_due p) o false) (due_at v h received p.from)

-- a stray makes nothing happen
pub stray_makes : (from : ℕ) (o : Option Due) (p : Piece) → false ≡ option_map_or (is_due p) o false →
    [] ≡ piece_makes from o p
stray_makes from None p stray = refl
stray_makes from (Some due) p stray = ap (λ (b : Bool). whole_if (b && due.last) from p.n) stray

pub keeps-stray : (v : ReceivingView) → Preserves v v []
keeps-stray v h events happens received right =
    unstamp-none (λ events. AreReceived v (h ++ events) × AreRight v.sizes.ranks h events) events
    (subst (λ (k : List Event). AreReceived v k) (sym (append-nil h)) received, tt) happens

same_whole : (b d : Bool) (from n : ℕ) → whole_if b from n ≡ whole_if d from n → d ≡ b
same_whole true true from n is = refl
same_whole true false from n is = absurd (let h : ⊥ = cc in h)
same_whole false true from n is = absurd (let h : ⊥ = cc in h)
same_whole false false from n is = refl

module _ (v : ReceivingView) (kept : ReceivingInvariant v) (gs : Granting) (p : Piece) (same : gs.grants ≡ v.grants)
    (fits : Continues gs p)
    (sender : p.from < v.sizes.ranks) (did : Joined) (whole : Bool)
    (joins : did ≡ joined_by (due_in (grants_from gs p.from)) p.at (length p.bytes))
    (makes : whole_if whole p.from p.n ≡ piece_makes p.from (slice_get (due_of_grants (grants_from gs p.from)) 0) p) where
  abbrev row : List (ℕ × Granted)
  row = granted_to v p.from

  abbrev pub ends : Bool
  ends = length p.bytes == due_in (grants_from gs p.from)

  abbrev piecing : ReceivingView
  piecing = record v {
    grants = set v.grants p.from (with_piece row p.n p.bytes);
    drawn = set v.drawn p.from (drawn_from v p.from + 1);
  }

  abbrev pub drawn_view : ReceivingView
  drawn_view = marked_if ends piecing p.from p.n

  row_is : grants_from gs p.from ≡ row
  row_is = ap (λ (rows : List (List (ℕ × Granted))). get_or rows p.from []) same

  expected : expected_in row ≡ Some (p.n, p.at)
  expected = ap expected_in (sym row_is) ∙ fits.expected

  size : length p.bytes ≡ piece_size (due_in row)
  size = fits.size ∙ ap (λ (r : List (ℕ × Granted)). piece_size (due_in r)) row_is

  found : (g : Granted) × (came : List ℕ) × (r : Receipt) × IsExpected v kept.history p.from p.n g came r
  found = expected_is v kept.history p.from p.n p.at kept.tables expected

  inside : p.from < length v.grants
  inside = let n = kept.tables.grants in omega (arith, sender, n)

  inside' : p.from < length v.drawn
  inside' = let n = kept.tables.drawn in omega (arith, sender, n)

  open_in : is_open_in row p.n ≡ true
  open_in = ap (λ (o : Option Granted). option_map_or is_open o false) found.3.there ∙ found.3.is_open'

  -- the first unfinished grant is the one that is expected
  due_is : due_in row ≡ due_of found.0
  due_is =
      let first = mapped (λ (e : ℕ × Granted). (e.0, came_of e.1)) (first_unfinished row) (p.n, p.at) expected in
      let e = first.0 in
      let place = find_contains is_unfinished row e first.1 in
      let at_place : slice_get row place.0 ≡ Some e = slice_get-get_or row place.0 e place.1
      ∙ ap (λ (x : ℕ × Granted). Some x) place.2 in
      let there = lookup_from_place nat_eq_equiv row place.0 e.0 e.1 (kept.tables.once p.from) at_place in
      let n_is : e.0 ≡ p.n = ap (λ (x : ℕ × ℕ). x.0) first.2 in
      let is_g : e.1 ≡ found.0 = same_Some e.1 found.0 (sym there ∙ ap (λ (k : ℕ). grant_in row k) n_is
      ∙ found.3.there) in
      ap (λ (o : Option (ℕ × Granted)). option_map_or (λ e. due_of e.1) o 0) first.1
      ∙ ap (λ (x : Granted). due_of x) is_g

  due_left : due_in row ≡ found.0.len - length found.1
  due_left = due_is ∙ ap (λ (o : Option (List ℕ)). found.0.len - option_map_or length o 0) found.3.bytes

  full : ends ≡ true → length (found.1 ++ p.bytes) ≡ found.0.len
  full all =
      let last : length p.bytes ≡ due_in (grants_from gs p.from) = eqb-true (length p.bytes)
      (due_in (grants_from gs p.from)) all in
      let left : due_in (grants_from gs p.from) ≡ found.0.len - length found.1 = ap due_in row_is ∙ due_left in
      let below = found.3.below in
      omega (arith, last, left, below, length-append found.1 p.bytes)

  short : ends ≡ false → length (found.1 ++ p.bytes) < found.0.len
  short part =
      let some_left = eqb-false (length p.bytes) (due_in (grants_from gs p.from)) part in
      let within : length p.bytes ≡ piece_size (due_in (grants_from gs p.from)) = fits.size in
      let left : due_in (grants_from gs p.from) ≡ found.0.len - length found.1 = ap due_in row_is ∙ due_left in
      let below = found.3.below in
      omega (arith, some_left, within, left, below, length-append found.1 p.bytes)

  not_begun : (b : Bool) → (if b then joined.Begun else joined.More) ≡ joined.Whole → ⊥
  not_begun true is = let h : ⊥ = cc in h
  not_begun false is = let h : ⊥ = cc in h

  pub whole_is : whole_if ends p.from p.n ≡ whole_if whole p.from p.n
  whole_is =
      joined-made gs p did fits joins ends
      (λ is. joins ∙ ap (λ (b : Bool). if b then joined.Whole else (if p.at == 0 then joined.Begun else joined.More))
      is)
      (λ is whole. not_begun (p.at == 0)
      (sym (joins ∙ ap (λ (b : Bool). if b then joined.Whole else (if p.at == 0 then joined.Begun else joined.More))
      is) ∙ whole))
      ∙ sym makes

  pub ends_is : whole ≡ ends
  ends_is = same_whole ends whole p.from p.n whole_is

  pub piece_came : IsSome (receipt_of v p.from p.n)
  piece_came = ap (λ (o : Option Receipt). is_some o) found.3.here

  received1 : (h : List Event) → AreReceived v h → AreReceived piecing h
  received1 h received = keeps-piece v p.from p.n p.at p.bytes inside inside' expected size open_in h received

  may_end : (h : List Event) → AreReceived v h → (r : Receipt) × MayEnd piecing h p.from p.n r
  may_end h received = (
    found.2,
    record {
      here = found.3.here;
      whole = found.3.cleared.due found.3.is_open';
      taken = λ _. same_taken v.deeds h kept.history received.stands kept.received.stands p.from p.n
          ∙ found.3.cleared.taken;
    },
  )

  pub keeps-draw : Preserves v drawn_view (whole_if whole p.from p.n)
  keeps-draw h events happens received right =
      keeps-marked piecing p.from p.n ends h events (happens ∙ sym whole_is) (received1 h received) right
      (λ _. may_end h received)

  pub kept-draw : ReceivingInvariant drawn_view
  kept-draw = by ends refl
    where
      drawn1 : List ℕ
      drawn1 = set v.drawn p.from (drawn_from v p.from + 1)

      tables1 : TablesAgree piecing kept.history
      tables1 = tables-piece v kept.history p.from p.n p.bytes drawn1 found.0 found.1 found.2 kept.tables inside found.3
          (names_of v kept.history kept.received) (length-set v.drawn p.from (drawn_from v p.from + 1))

      by : (b : Bool) → ends ≡ b → ReceivingInvariant drawn_view
      by false later =
          subst (λ (b : Bool). ReceivingInvariant (marked_if b piecing p.from p.n)) (sym later)
          (record {
            history = kept.history;
            received = received1 kept.history kept.received;
            right = kept.right;
            in_time = kept.in_time;
            tables = tables1;
            owed = owed-piece v kept.history p.from p.n p.bytes drawn1 found.0 found.1 found.2 kept.tables inside
                found.3 kept.owed (short later);
            over = kept.over;
          })
      by true last =
          let x : Event = at 0 (Whole p.from p.n) in
          subst (λ (b : Bool). ReceivingInvariant (marked_if b piecing p.from p.n)) (sym last)
          (goes_on v (marked piecing p.from p.n) kept (x ∷ []) refl (λ _ is. is)
          (keeps-marked piecing p.from p.n true kept.history (x ∷ []) refl (received1 kept.history kept.received)
          kept.right
          (λ _. may_end kept.history kept.received))
          (λ i k. refl)
          (tables-marked piecing kept.history (kept.history ++ x ∷ [])
          (stood_of piecing kept.history (received1 kept.history kept.received)) p.from p.n found.2
          tables1 (like-push kept.history x refl refl)
          (piece_may_mark v kept.history p.from p.n p.bytes drawn1 found.0 found.1 found.2 kept.tables inside found.3
          (names_of v kept.history kept.received) (full last)))
          (owed-marked piecing kept.history (kept.history ++ x ∷ [])
          (stood_of piecing kept.history (received1 kept.history kept.received)) p.from p.n found.2 found.3.here
          (like-push kept.history x refl refl)
          (owed-others v kept.history p.from p.n p.bytes drawn1 found.0 found.1 found.2 kept.tables inside found.3
          kept.owed)))

  -- its bytes are added
  pub bytes-draw :
      AddsBytes (of_asked p.from (λ n. pulled_bytes n (record { piece = p; continued = true }))) v drawn_view
  bytes-draw = piece-came v drawn_view p found.0 found.1 inside refl refl found.3.there found.3.bytes

  -- the fields afterwards
  pub drawn_is : (b : Bool) (grants : List (List (ℕ × Granted))) (rows : List (List Receipt)) (drawn : List ℕ) →
      b ≡ ends
      → grants ≡ set gs.grants p.from (with_piece (grants_from gs p.from) p.n p.bytes)
      → rows ≡ cond b (rows_with_whole v.receipts p.from p.n) v.receipts → drawn ≡ set v.drawn p.from
      (drawn_from v p.from + 1)
      → ◌≡◌ {A = ReceivingView} drawn_view (record v { grants = grants; receipts = rows; drawn = drawn })
  drawn_is b grants rows drawn b_is grants_is rows_is drawn_is' =
      rw (grants_is, rows_is, drawn_is', b_is)
      (ap (λ (rows : List (List (ℕ × Granted))). let w : ReceivingView =
      record drawn_view { grants = set rows p.from (with_piece (get_or rows p.from []) p.n p.bytes) } in w)
      (sym same))
