-- The first line between two texts, and that no other is it.
use Rattle.std.proofs.Common.{◌≡◌, ◌≢◌, ℕ, ◌-◌, inl, inr, List, [], ◌∷◌, ◌++◌, zero, suc, drop, length, take}
use Rattle.std.proofs.Common.{refl, sym, ◌∙◌, ap, subst, arith, append_assoc, append-nil, length-append}
use Rattle.std.specs.Prelude.{codes}
use Rattle.std.specs.List.{AllByRecursion}
use Rattle.std.proofs.Math.Seq.{take-append_seam}
use Rattle.std.proofs.lemmas.List.{drop_all}
use Rattle.std.proofs.lemmas.List.Concat.{flat_map-append, flat_map-cons}
use Rattle.nm_types.proofs.ListLemmas.{all_push}
use Rattle.nm_script.specs.Lines.{ended_lines}
use Rattle.nm_shell.specs.Inputs.{IsDivider, HasNoCut, IsBefore, IsOnlyCut}

abbrev pub HasNoFeed : List ℕ → Type 0
HasNoFeed line = AllByRecursion (λ b. b ≢ 10) line

no_feed : (line x : List ℕ) → HasNoFeed (line ++ 10 ∷ x) → ⊥
no_feed [] x none = none.0 refl
no_feed (b ∷ line) x none = no_feed line x none.1

-- a first line and what stands behind its line feed are no others
first_only : (a b x y : List ℕ) → HasNoFeed a → HasNoFeed b → a ++ 10 ∷ x ≡ b ++ 10 ∷ y → (a ≡ b) × (x ≡ y)
first_only [] [] x y one other same = (refl, cc)
first_only [] (c ∷ b) x y one other same = let feed : c ≡ 10 = cc in absurd (other.0 feed)
first_only (c ∷ a) [] x y one other same = let feed : c ≡ 10 = cc in absurd (one.0 feed)
first_only (c ∷ a) (d ∷ b) x y one other same =
    let tails : a ++ 10 ∷ x ≡ b ++ 10 ∷ y = cc in
    let heads : c ≡ d = cc in
    let rest : (a ≡ b) × (x ≡ y) = first_only a b x y one.1 other.1 tails in
    (ap (λ (e : ℕ). e ∷ a) heads ∙ ap (λ (l : List ℕ). d ∷ l) rest.0, rest.1)

between_no_feed : HasNoFeed (codes "---")
between_no_feed = (λ e. absurd (omega arith), (λ e. absurd (omega arith), (λ e. absurd (omega arith), tt)))

-- lines, and a text behind them
ended_cons : (l : List ℕ) (ls : List (List ℕ)) (behind : List ℕ) →
    ended_lines (l ∷ ls) ++ behind ≡ l ++ 10 ∷ (ended_lines ls ++ behind)
ended_cons l ls behind =
    ap (λ (x : List ℕ). x ++ behind) (flat_map-cons (λ (l : List ℕ). l ++ 10 ∷ []) l ls)
    ∙ append_assoc (l ++ 10 ∷ []) (ended_lines ls) behind ∙ append_assoc l (10 ∷ []) (ended_lines ls ++ behind)

ended_push : (lines : List (List ℕ)) (line behind : List ℕ) →
    ended_lines (lines ++ line ∷ []) ++ behind ≡ ended_lines lines ++ (line ++ 10 ∷ behind)
ended_push lines line behind =
    ap (λ (x : List ℕ). x ++ behind) (flat_map-append (λ (l : List ℕ). l ++ 10 ∷ []) lines (line ∷ [])
    ∙ ap (λ (x : List ℕ). ended_lines lines ++ x) (append-nil (line ++ 10 ∷ [])))
    ∙ append_assoc (ended_lines lines) (line ++ 10 ∷ []) behind
    ∙ ap (λ (x : List ℕ). ended_lines lines ++ x) (append_assoc line (10 ∷ []) behind)

-- the line between is no line before it
not_before : (l z x r : List ℕ) → IsBefore l → IsDivider x r → x ≡ l ++ 10 ∷ z → ⊥
not_before l z x r before (inl fed) is =
    before.other (sym (first_only (codes "---") l r z between_no_feed before.one (sym fed ∙ is)).0)
not_before l z x r before (inr last) is = no_feed l z (subst HasNoFeed (sym last.0 ∙ is) between_no_feed)

-- what stands behind the line between is one text
rest_same : (x y r s : List ℕ) → IsDivider x r → IsDivider y s → x ≡ y → r ≡ s
rest_same x y r s (inl a) (inl b) same =
    (first_only (codes "---") (codes "---") r s between_no_feed between_no_feed (sym a ∙ same ∙ b)).1
rest_same x y r s (inl a) (inr b) same =
    absurd (no_feed (codes "---") r (subst HasNoFeed (sym b.0 ∙ sym same ∙ a) between_no_feed))
rest_same x y r s (inr a) (inl b) same =
    absurd (no_feed (codes "---") s (subst HasNoFeed (sym a.0 ∙ same ∙ b) between_no_feed))
rest_same x y r s (inr a) (inr b) same = a.1 ∙ sym b.1

-- two cuts of one text are the same
cuts_same : (ls ms : List (List ℕ)) (x y r s : List ℕ) → AllByRecursion IsBefore ls → AllByRecursion IsBefore ms →
    IsDivider x r → IsDivider y s → ended_lines ls ++ x ≡ ended_lines ms ++ y → (ls ≡ ms) × (r ≡ s)
cuts_same [] [] x y r s p q f g same = (refl, rest_same x y r s f g same)
cuts_same [] (m ∷ ms) x y r s p q f g same =
    absurd (not_before m (ended_lines ms ++ y) x r q.0 f (same ∙ ended_cons m ms y))
cuts_same (l ∷ ls) [] x y r s p q f g same =
    absurd (not_before l (ended_lines ls ++ x) y s p.0 g (sym same ∙ ended_cons l ls x))
cuts_same (l ∷ ls) (m ∷ ms) x y r s p q f g same =
    let both = first_only l m (ended_lines ls ++ x) (ended_lines ms ++ y) p.0.one q.0.one
    (sym (ended_cons l ls x) ∙ same ∙ ended_cons m ms y) in
    let more = cuts_same ls ms x y r s p.1 q.1 f g both.1 in
    (ap (λ (t : List ℕ). t ∷ ls) both.0 ∙ ap (λ (ts : List (List ℕ)). m ∷ ts) more.0, more.1)

-- lines that are not the one between, the last without its line feed, have no cut
no_cut : (ls ms : List (List ℕ)) (line x r : List ℕ) → AllByRecursion IsBefore ls → AllByRecursion IsBefore ms →
    IsBefore line → IsDivider x r → ended_lines ls ++ line ≡ ended_lines ms ++ x → ⊥
no_cut [] [] line x r p q last (inl fed) same = no_feed (codes "---") r (subst HasNoFeed (same ∙ fed) last.one)
no_cut [] [] line x r p q last (inr is) same = last.other (same ∙ is.0)
no_cut [] (m ∷ ms) line x r p q last is same =
    no_feed m (ended_lines ms ++ x) (subst HasNoFeed (same ∙ ended_cons m ms x) last.one)
no_cut (l ∷ ls) [] line x r p q last is same =
    not_before l (ended_lines ls ++ line) x r p.0 is (sym same ∙ ended_cons l ls line)
no_cut (l ∷ ls) (m ∷ ms) line x r p q last is same =
    no_cut ls ms line x r p.1 q.1 last is (first_only l m (ended_lines ls ++ line) (ended_lines ms ++ x) p.0.one q.0.one
    (sym (ended_cons l ls line) ∙ same ∙ ended_cons m ms x)).1

-- lines that are not the one between, and that one
pub cut_off : (lines : List (List ℕ)) (behind rest : List ℕ) → AllByRecursion IsBefore lines → IsDivider behind rest →
    IsOnlyCut (ended_lines lines ++ behind) (ended_lines lines) rest
cut_off lines behind rest before is = record {
  cut = record { lines = lines; behind = behind; before = before; front_is = refl; split = refl; follows = is };
  only = λ f r cut.
      let whole = sym (cut.split ∙ ap (λ (t : List ℕ). t ++ cut.behind) cut.front_is) in
      let same = cuts_same cut.lines lines cut.behind behind r rest cut.before before cut.follows is whole in
      (cut.front_is ∙ ap ended_lines same.0, same.1);
}

-- how far the lines have been looked at
pub record Reached (bytes rest : List ℕ) : Type 0 where
  pub lines : List (List ℕ)
  pub before : AllByRecursion IsBefore lines
  pub split : bytes ≡ ended_lines lines ++ rest

pub reached_none : (bytes : List ℕ) → Reached bytes bytes
reached_none bytes = record { lines = []; before = tt; split = refl }

-- one line more
pub reached_more : (bytes rest line others : List ℕ) → Reached bytes rest → IsBefore line →
    rest ≡ line ++ 10 ∷ others → Reached bytes others
reached_more bytes rest line others so_far here is = record {
  lines = so_far.lines ++ line ∷ [];
  before = all_push IsBefore so_far.lines line so_far.before here;
  split = so_far.split ∙ ap (λ (x : List ℕ). ended_lines so_far.lines ++ x) is
      ∙ sym (ended_push so_far.lines line others);
}

-- the last line is not the one between
pub none_last : (bytes rest line : List ℕ) → Reached bytes rest → IsBefore line → rest ≡ line → HasNoCut bytes
none_last bytes rest line so_far last is = λ f r cut.
    no_cut so_far.lines cut.lines line cut.behind r so_far.before cut.before last cut.follows
    (ap (λ (x : List ℕ). ended_lines so_far.lines ++ x) (sym is) ∙ sym so_far.split ∙ cut.split
    ∙ ap (λ (t : List ℕ). t ++ cut.behind) cut.front_is)

front_taken : (bytes front rest : List ℕ) → bytes ≡ front ++ rest → take (length bytes - length rest) bytes ≡ front
front_taken bytes front rest is =
    let many : length bytes - length rest ≡ length front =
    omega (arith, ap (λ (x : List ℕ). length x) is, length-append front rest) in
    ap (λ (n : ℕ). take n bytes) many ∙ ap (λ (x : List ℕ). take (length front) x) is ∙ take-append_seam front rest

-- the line between is here
pub cut_here : (bytes rest behind : List ℕ) → Reached bytes rest → IsDivider rest behind →
    IsOnlyCut bytes (take (length bytes - length rest) bytes) behind
cut_here bytes rest behind so_far is =
    let front = front_taken bytes (ended_lines so_far.lines) rest so_far.split in
    subst (λ (f : List ℕ). IsOnlyCut bytes f behind) (sym front)
    (subst (λ (b : List ℕ). IsOnlyCut b (ended_lines so_far.lines) behind) (sym so_far.split)
    (cut_off so_far.lines rest behind so_far.before is))

take_nil : (n : ℕ) → take {A = ℕ} n [] ≡ []
take_nil zero = refl
take_nil (suc n) = refl

-- nothing stands behind the last byte
pub none_behind : (bytes : List ℕ) → take (length bytes - length bytes) (drop (length bytes) bytes) ≡ []
none_behind bytes =
    let none : drop (length bytes) bytes ≡ [] = drop_all (length bytes) bytes (omega arith) in
    ap (λ (x : List ℕ). take (length bytes - length bytes) x) none ∙ take_nil (length bytes - length bytes)
