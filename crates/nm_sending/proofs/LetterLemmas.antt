-- The letters of an outbox, and what its fields keep.
use Rattle.std.proofs.Common.{◌≡◌, ◌≢◌, ℕ, ◌+◌, ◌<◌, ◌==◌, Bool, true, false, cond, Option, Some, None, List, [], ◌∷◌}
use Rattle.std.proofs.Common.{◌++◌, length, map, get_or, replicate, refl, sym, ◌∙◌, ap, subst, ⊎_elim}
use Rattle.std.proofs.Common.{arith, ◌≤◌, max, suc, append-nil}
use Rattle.std.specs.List.{AllByRecursion, filter}
use Rattle.std.specs.Prelude.{MatchOption}
use Rattle.std.proofs.Math.ListN.{set}
use Rattle.std.proofs.Math.Nat.{le-max_left, le-max_right}
use Rattle.std.proofs.lemmas.Bool.{cases_eq, cases_lt}
use Rattle.std.proofs.lemmas.List.{get_or-set_other, get_or-set_same, length-append, length-set}
use Rattle.std.proofs.lemmas.List.{get_or-replicate, get_or_past, length-map, length-replicate, map-append}
use Rattle.std.proofs.lemmas.List.Elements.{filter-append}
use Rattle.nm_types.specs.declared.packets.Packet.{Packet}
use Rattle.nm_sending.specs.Letters.{AreNumbered, Letter, packets_for}
use Rattle.nm_sending.specs.Outboxes.{AreFields}
use Rattle.nm_types.proofs.NumberLemmas.{unequal, eq_true}
use Rattle.nm_types.proofs.ListLemmas.{all_append}

-- the first letter is this one
pub first_letter : (o : Option Letter) (N : Type 0) (to : ℕ) (p : Packet) → (N → ⊥) →
    MatchOption o N (λ letter. (to ≡ letter.to) × (p ≡ letter.packet)) →
    (letter : Letter) × (o ≡ Some letter) × (to ≡ letter.to) × (p ≡ letter.packet)
first_letter None N to p not is = absurd (not is)
first_letter (Some letter) N to p not is = (letter, refl, is.0, is.1)

pub for-append : (to : ℕ) (first rest : List Letter) →
    packets_for to (first ++ rest) ≡ packets_for to first ++ packets_for to rest
for-append to first rest =
    ap (λ (ls : List Letter). map (λ (l : Letter). l.packet) ls)
    (filter-append (λ (l : Letter). l.to == to) first rest)
    ∙ map-append (λ (l : Letter). l.packet) (filter (λ (l : Letter). l.to == to) first)
    (filter (λ (l : Letter). l.to == to) rest)

one_by : (letter : Letter) (b : Bool) →
    map (λ (l : Letter). l.packet) (cond b (letter ∷ []) []) ≡ cond b (letter.packet ∷ []) []
one_by letter true = refl
one_by letter false = refl

pub for_one : (to : ℕ) (letter : Letter) →
    packets_for to (letter ∷ []) ≡ cond (letter.to == to) (letter.packet ∷ []) []
for_one to letter = one_by letter (letter.to == to)

-- one letter less
pub for_first-own : (to : ℕ) (letter : Letter) (rest : List Letter) → letter.to ≡ to →
    packets_for to (letter ∷ rest) ≡ letter.packet ∷ packets_for to rest
for_first-own to letter rest same =
    for-append to (letter ∷ []) rest ∙ ap (λ (ps : List Packet). ps ++ packets_for to rest)
    (for_one to letter ∙ ap (λ (b : Bool). cond b (letter.packet ∷ []) []) (eq_true letter.to to same))

pub for_first-other : (to : ℕ) (letter : Letter) (rest : List Letter) → letter.to ≢ to →
    packets_for to (letter ∷ rest) ≡ packets_for to rest
for_first-other to letter rest differ =
    for-append to (letter ∷ []) rest ∙ ap (λ (ps : List Packet). ps ++ packets_for to rest)
    (for_one to letter ∙ ap (λ (b : Bool). cond b (letter.packet ∷ []) []) (unequal letter.to to differ))

-- letters that all go to one rank
pub for_receiver : (to : ℕ) (ls : List Letter) → AllByRecursion (λ l. l.to ≡ to) ls → (t : ℕ)
    → packets_for t ls ≡ cond (to == t) (map (λ l. l.packet) ls) []
for_receiver to [] each t = by_test (to == t) where
  by_test : (b : Bool) → ◌≡◌ {A = List Packet} [] (cond b [] [])
  by_test true = refl
  by_test false = refl
for_receiver to (l ∷ ls) each t =
    ap (λ (x : ℕ). map (λ k. k.packet)
    (cond (x == t) (l ∷ filter (λ k. k.to == t) ls) (filter (λ k. k.to == t) ls)))
    each.0
    ∙ by_test (to == t) (for_receiver to ls each.1 t)
  where
    by_test : (b : Bool) → packets_for t ls ≡ cond b (map (λ l. l.packet) ls) []
        → map (λ k. k.packet) (cond b (l ∷ filter (λ k. k.to == t) ls) (filter (λ k. k.to == t) ls))
        ≡ cond b (map (λ l. l.packet) (l ∷ ls)) []
    by_test true later = ap (λ (ps : List Packet). l.packet ∷ ps) later
    by_test false later = later

-- letters to this rank or to another behind others
pub for_more-own : (to t : ℕ) (letters added : List Letter) → AllByRecursion (λ l. l.to ≡ to) added → to ≡ t
    → packets_for t (letters ++ added) ≡ packets_for t letters ++ map (λ l. l.packet) added
for_more-own to t letters added each same =
    for-append t letters added ∙ ap (λ (ps : List Packet). packets_for t letters ++ ps)
    (for_receiver to added each t
    ∙ ap (λ (b : Bool). cond b (map (λ (l : Letter). l.packet) added) []) (eq_true to t same))

pub for_more-other : (to t : ℕ) (letters added : List Letter) → AllByRecursion (λ l. l.to ≡ to) added → to ≢ t
    → packets_for t (letters ++ added) ≡ packets_for t letters
for_more-other to t letters added each differ =
    for-append t letters added ∙ ap (λ (ps : List Packet). packets_for t letters ++ ps)
    (for_receiver to added each t
    ∙ ap (λ (b : Bool). cond b (map (λ (l : Letter). l.packet) added) []) (unequal to t differ))
    ∙ append-nil (packets_for t letters)

-- where there is one rank, all letters go to it
zero_each : (ls : List Letter) → AllByRecursion (λ l. l.to < 1) ls → AllByRecursion (λ l. l.to ≡ 0) ls
zero_each [] each = tt
zero_each (l ∷ ls) each = (omega (arith, each.0), zero_each ls each.1)

pub all_for_one : (ls : List Letter) → AllByRecursion (λ l. l.to < 1) ls → length (packets_for 0 ls) ≡ length ls
all_for_one ls each =
    ap (λ (ps : List Packet). length ps) (for_receiver 0 ls (zero_each ls each) 0)
    ∙ length-map ls (λ (l : Letter). l.packet)

-- numbered packets, and those numbered on
numbered-append : (from number : ℕ) (ps qs : List Packet) → AreNumbered from number ps
    → AreNumbered from (number + length ps) qs → AreNumbered from number (ps ++ qs)
numbered-append from number [] qs are more =
    let here : number + 0 ≡ number = omega arith in
    subst (λ (k : ℕ). AreNumbered from k qs) here more
numbered-append from number (p ∷ ps) qs are more =
    let next : number + suc (length ps) ≡ number + 1 + length ps = omega arith in (
      are.0,
      are.1,
      numbered-append from (number + 1) ps qs are.2 (subst (λ (k : ℕ). AreNumbered from k qs) next more),
    )

-- in a list of equal items each is that, and so is what is read behind the last
pub alike : {X : Type 0} (n i : ℕ) (x : X) → get_or (replicate n x) i x ≡ x
alike n i x =
    ⊎_elim (λ below. get_or-replicate n i x x below)
    (λ past. get_or_past (replicate n x) i x (omega (arith, length-replicate n x))) (cases_lt i n)

-- the fields of an empty outbox
pub fields-none : (me n : ℕ) (letters : List Letter) (popped put : List ℕ) (most : ℕ) → letters ≡ [] →
    popped ≡ replicate n 0 → put ≡ replicate n 0 → AreFields me letters popped put most
fields-none me n letters popped put most none fresh fresh' =
    rw (none, fresh, fresh') (record {
      lawful = record { in_range = tt; numbered = λ to. tt };
      ranks = refl;
      counts = λ to. rw (alike {X = ℕ} n to 0) (omega arith);
      bounded = λ to. rw (alike {X = ℕ} n to 0) (omega arith);
    })

-- the fields after so many letters more to one rank
module _ (me : ℕ) (letters : List Letter) (popped put : List ℕ) (most : ℕ)
    (fields : AreFields me letters popped put most) (added : List Letter) (to seq many : ℕ)
    (inside : to < length popped) (receiver : AllByRecursion (λ l. l.to ≡ to) added)
    (numbered : AreNumbered me seq (map (λ l. l.packet) added)) (long : length added ≡ many)
    (next : seq ≡ get_or popped to 0 + length (packets_for to letters)) where
  pub fields-more : AreFields me (letters ++ added) popped (set put to (seq + many)) (max most (seq + many))
  fields-more =
      record {
        lawful = record {
          in_range = all_append (λ (l : Letter). l.to < length popped) letters added
              fields.lawful.in_range (all_inside added receiver);
          numbered = λ t. ⊎_elim (numbered_own t) (numbered_other t) (cases_eq to t);
        };
        ranks = length-set put to (seq + many) ∙ fields.ranks;
        counts = λ t. ⊎_elim (counts_own t) (counts_other t) (cases_eq to t);
        bounded = λ t. ⊎_elim (bounded_own t) (bounded_other t) (cases_eq to t);
      } where
        put' : List ℕ
        put' = set put to (seq + many)

        all_inside : (ls : List Letter) → AllByRecursion (λ l. l.to ≡ to) ls
            → AllByRecursion (λ l. l.to < length popped) ls
        all_inside [] each = tt
        all_inside (l ∷ ls) each = (
          subst (λ (k : ℕ). k < length popped) (sym each.0) inside,
          all_inside ls each.1,
        )

        numbered_own : (t : ℕ) → to ≡ t → AreNumbered me (get_or popped t 0) (packets_for t (letters ++ added))
        numbered_own t same =
            let here : seq ≡ get_or popped t 0 + length (packets_for t letters) =
            next ∙ ap (λ (k : ℕ). get_or popped k 0 + length (packets_for k letters)) same in
            subst (λ (ps : List Packet). AreNumbered me (get_or popped t 0) ps)
            (sym (for_more-own to t letters added receiver same))
            (numbered-append me (get_or popped t 0) (packets_for t letters) (map (λ (l : Letter). l.packet) added)
            (fields.lawful.numbered t)
            (subst (λ (k : ℕ). AreNumbered me k (map (λ (l : Letter). l.packet) added)) here numbered))

        numbered_other : (t : ℕ) → to ≢ t → AreNumbered me (get_or popped t 0) (packets_for t (letters ++ added))
        numbered_other t differ =
            subst (λ (ps : List Packet). AreNumbered me (get_or popped t 0) ps)
            (sym (for_more-other to t letters added receiver differ)) (fields.lawful.numbered t)

        counts_own : (t : ℕ) → to ≡ t →
            get_or put' t 0 ≡ get_or popped t 0 + length (packets_for t (letters ++ added))
        counts_own t same =
            let here : seq ≡ get_or popped t 0 + length (packets_for t letters) =
            next ∙ ap (λ (k : ℕ). get_or popped k 0 + length (packets_for k letters)) same in
            let longer : length (packets_for t (letters ++ added)) ≡ length (packets_for t letters) + many =
            ap (λ (ps : List Packet). length ps) (for_more-own to t letters added receiver same)
            ∙ length-append (packets_for t letters) (map (λ (l : Letter). l.packet) added)
            ∙ ap (λ (k : ℕ). length (packets_for t letters) + k)
            (length-map added (λ (l : Letter). l.packet) ∙ long) in
            let set_here : get_or put' t 0 ≡ seq + many =
            ap (λ (k : ℕ). get_or put' k 0) (sym same)
            ∙ get_or-set_same put to (seq + many) 0 (let ranks = fields.ranks in omega arith) in
            omega (arith, here, longer, set_here)

        counts_other : (t : ℕ) → to ≢ t →
            get_or put' t 0 ≡ get_or popped t 0 + length (packets_for t (letters ++ added))
        counts_other t differ =
            get_or-set_other put to t (seq + many) 0 (λ same. differ (sym same))
            ∙ fields.counts t
            ∙ ap (λ (ps : List Packet). get_or popped t 0 + length ps)
            (sym (for_more-other to t letters added receiver differ))

        bounded_own : (t : ℕ) → to ≡ t → get_or put' t 0 ≤ max most (seq + many)
        bounded_own t same =
            let here : get_or put' to 0 ≡ seq + many =
            get_or-set_same put to (seq + many) 0 (let ranks = fields.ranks in omega arith) in
            subst (λ (k : ℕ). get_or put' k 0 ≤ max most (seq + many)) same
            (subst (λ (k : ℕ). k ≤ max most (seq + many)) (sym here) (le-max_right most (seq + many)))

        bounded_other : (t : ℕ) → to ≢ t → get_or put' t 0 ≤ max most (seq + many)
        bounded_other t differ =
            let same : get_or put' t 0 ≡ get_or put t 0 =
            get_or-set_other put to t (seq + many) 0 (λ same. differ (sym same)) in
            let before = fields.bounded t in
            let above = le-max_left most (seq + many) in
            omega arith

-- the fields after a letter less
module _ (me : ℕ) (letter : Letter) (rest : List Letter) (popped put : List ℕ) (most : ℕ)
    (fields : AreFields me (letter ∷ rest) popped put most) where
  pub number_first : letter.packet.seq ≡ get_or popped letter.to 0
  number_first =
      let are : AreNumbered me (get_or popped letter.to 0) (letter.packet ∷ packets_for letter.to rest) =
      subst (λ (ps : List Packet). AreNumbered me (get_or popped letter.to 0) ps)
      (for_first-own letter.to letter rest refl) (fields.lawful.numbered letter.to) in
      are.1

  abbrev pub popped' : List ℕ
  popped' = set popped letter.to (letter.packet.seq + 1)

  inside : letter.to < length popped
  inside = fields.lawful.in_range.0

  own : (to : ℕ) → letter.to ≡ to → get_or popped' to 0 ≡ get_or popped to 0 + 1
  own to same =
      let first = number_first in
      let here : get_or popped' letter.to 0 ≡ letter.packet.seq + 1 =
      get_or-set_same popped letter.to (letter.packet.seq + 1) 0 inside in
      subst (λ (k : ℕ). get_or popped' k 0 ≡ get_or popped k 0 + 1) same (omega arith)

  other : (to : ℕ) → letter.to ≢ to → get_or popped' to 0 ≡ get_or popped to 0
  other to differ =
      get_or-set_other popped letter.to to (letter.packet.seq + 1) 0 (λ same. differ (sym same))

  numbered_own : (to : ℕ) → letter.to ≡ to →
      AreNumbered me (get_or popped' to 0) (packets_for to rest)
  numbered_own to same =
      let are : AreNumbered me (get_or popped to 0) (letter.packet ∷ packets_for to rest) =
      subst (λ (ps : List Packet). AreNumbered me (get_or popped to 0) ps)
      (for_first-own to letter rest same) (fields.lawful.numbered to) in
      subst (λ (k : ℕ). AreNumbered me k (packets_for to rest)) (sym (own to same)) are.2

  numbered_other : (to : ℕ) → letter.to ≢ to →
      AreNumbered me (get_or popped' to 0) (packets_for to rest)
  numbered_other to differ =
      subst (λ (k : ℕ). AreNumbered me k (packets_for to rest)) (sym (other to differ))
      (subst (λ (ps : List Packet). AreNumbered me (get_or popped to 0) ps)
      (for_first-other to letter rest differ) (fields.lawful.numbered to))

  -- as many were put as before
  pub kept_own : (to : ℕ) → letter.to ≡ to →
      get_or popped' to 0 + length (packets_for to rest)
      ≡ get_or popped to 0 + length (packets_for to (letter ∷ rest))
  kept_own to same =
      let one = own to same in
      let longer = ap length (for_first-own to letter rest same) in
      omega arith

  pub kept_other : (to : ℕ) → letter.to ≢ to →
      get_or popped' to 0 + length (packets_for to rest)
      ≡ get_or popped to 0 + length (packets_for to (letter ∷ rest))
  kept_other to differ =
      let none = other to differ in
      let long = ap length (for_first-other to letter rest differ) in
      omega arith

  pub fields-pop : AreFields me rest popped' put most
  fields-pop =
      record {
        lawful = record {
          in_range = subst (λ (n : ℕ). AllByRecursion (λ (l : Letter). l.to < n) rest)
              (sym (length-set popped letter.to (letter.packet.seq + 1))) fields.lawful.in_range.1;
          numbered = λ to. ⊎_elim (numbered_own to) (numbered_other to) (cases_eq letter.to to);
        };
        ranks = fields.ranks ∙ sym (length-set popped letter.to (letter.packet.seq + 1));
        counts = λ to. fields.counts to
            ∙ sym (⊎_elim (kept_own to) (kept_other to) (cases_eq letter.to to));
        bounded = fields.bounded;
      }
