-- The line at which a text leaves all others.
use Rattle.std.proofs.Common.{◌≡◌, ℕ, suc, ◌+◌, ◌-◌, ◌<◌, ◌≤◌, ◌⊎◌, Bool, true, false, inl, inr, refl, sym, ◌∙◌}
use Rattle.std.proofs.Common.{ap, subst, arith, drop, drop-cons, get_or, map, take}
use Rattle.std.specs.Prelude.{List, [], ◌∷◌, ◌++◌, Contains, cond, length, nat_eq}
use Rattle.std.proofs.lemmas.List.Elements.{Contains-append_left, Contains-push, Contains-push_cases}
use Rattle.std.proofs.lemmas.List.Recursion.{is_count_by}
use Rattle.std.proofs.lemmas.Bool.{eqb-true, eq-eqb}
use Rattle.std.proofs.lemmas.Bool.Decides.{eqb_tells}
use Rattle.std.proofs.lemmas.List.{map-append, take_more}
use Rattle.std.proofs.Math.ListN.{drop_of_length-le}
use Rattle.nm_listed.specs.Places.{IsFirstNew, IsShared, ShareLines, lines_in}

-- how many whole lines two texts begin with
abbrev pub shared : List ℕ → List ℕ → ℕ
shared [] ys = 0
shared (x ∷ xs) [] = 0
shared (x ∷ xs) (y ∷ ys) = cond (nat_eq x y) (cond (nat_eq x 10) 1 0 + shared xs ys) 0

-- line feeds, counted from the front
abbrev feeds : List ℕ → ℕ
feeds [] = 0
feeds (x ∷ xs) = cond (nat_eq x 10) (1 + feeds xs) (feeds xs)

feeds_are_lines : (xs : List ℕ) → feeds xs ≡ lines_in xs
feeds_are_lines xs = is_count_by feeds (λ b. nat_eq b 10) refl (λ x xs. refl) xs

feeds_more : (b : Bool) (n : ℕ) → cond b (1 + n) n ≡ cond b 1 0 + n
feeds_more true n = refl
feeds_more false n = let e : n ≡ 0 + n = omega arith in e

lines_more : (x : ℕ) (xs : List ℕ) → lines_in (x ∷ xs) ≡ cond (nat_eq x 10) 1 0 + lines_in xs
lines_more x xs =
    sym (feeds_are_lines (x ∷ xs)) ∙ feeds_more (nat_eq x 10) (feeds xs)
    ∙ ap (λ (n : ℕ). cond (nat_eq x 10) 1 0 + n) (feeds_are_lines xs)

-- both begin with so many
share_by : (x y : ℕ) (xs ys : List ℕ) (b : Bool) → nat_eq x y ≡ b → ShareLines xs ys (shared xs ys) →
    ShareLines (x ∷ xs) (y ∷ ys) (cond b (cond (nat_eq x 10) 1 0 + shared xs ys) 0)
share_by x y xs ys false is rest =
    record { front = []; behind = x ∷ xs; others = y ∷ ys; lines = refl; text_is = refl; other_is = refl }
share_by x y xs ys true is rest =
    let same : x ≡ y = eqb-true x y is in
    record {
      front = x ∷ rest.front;
      behind = rest.behind;
      others = rest.others;
      lines = lines_more x rest.front ∙ ap (λ (n : ℕ). cond (nat_eq x 10) 1 0 + n) rest.lines;
      text_is = ap (λ (zs : List ℕ). x ∷ zs) rest.text_is;
      other_is = ap (λ (z : ℕ). z ∷ ys) (sym same) ∙ ap (λ (zs : List ℕ). x ∷ zs) rest.other_is;
    }

pub share : (xs ys : List ℕ) → ShareLines xs ys (shared xs ys)
share [] ys =
    record { front = []; behind = []; others = ys; lines = refl; text_is = refl; other_is = refl }
share (x ∷ xs) [] =
    record { front = []; behind = x ∷ xs; others = []; lines = refl; text_is = refl; other_is = refl }
share (x ∷ xs) (y ∷ ys) = share_by x y xs ys (nat_eq x y) refl (share xs ys)

-- and with no more
front_shared : (front behind others : List ℕ) → lines_in front ≤ shared (front ++ behind) (front ++ others)
front_shared [] behind others = omega arith
front_shared (x ∷ front) behind others =
    let same : shared (x ∷ (front ++ behind)) (x ∷ (front ++ others))
    ≡ cond (nat_eq x 10) 1 0 + shared (front ++ behind) (front ++ others) =
    ap (λ (b : Bool). cond b (cond (nat_eq x 10) 1 0 + shared (front ++ behind) (front ++ others)) 0)
    (eq-eqb x x refl) in
    omega (arith, same, lines_more x front, front_shared front behind others)

pub most : (xs ys : List ℕ) (count : ℕ) → ShareLines xs ys count → count ≤ shared xs ys
most xs ys count both =
    subst (λ (n : ℕ). n ≤ shared xs ys) both.lines
    (subst (λ (zs : List ℕ). lines_in both.front ≤ shared zs ys) (sym both.text_is)
    (subst (λ (zs : List ℕ). lines_in both.front ≤ shared (both.front ++ both.behind) zs) (sym both.other_is)
    (front_shared both.front both.behind both.others)))

-- one byte more of both is the same
pub shared_next : (x y : ℕ) (xs ys : List ℕ) → x ≡ y →
    shared (x ∷ xs) (y ∷ ys) ≡ cond (nat_eq x 10) 1 0 + shared xs ys
shared_next x y xs ys same =
    let is : nat_eq x y ≡ true = eq-eqb x y same in
    ap (λ (b : Bool). cond b (cond (nat_eq x 10) 1 0 + shared xs ys) 0) is

-- no other text: the first line is new
pub none_shared : (text : List ℕ) → IsFirstNew [] text 1
none_shared text =
    record {
      some = omega arith;
      before = λ more. absurd (omega (arith, more));
      none = λ count h. absurd (omega (arith, h.1.1));
    }

-- one text more
pub next_shared : (texts : List (List ℕ)) (text other : List ℕ) (most lines new : ℕ) →
    IsFirstNew texts text (most + 1) → ShareLines text other lines →
    ((count : ℕ) → ShareLines text other count → count ≤ lines) → most ≤ new → lines ≤ new →
    (new ≡ most) ⊎ (new ≡ lines) → IsFirstNew (texts ++ other ∷ []) text (new + 1)
next_shared texts text other most lines new old both few above over which =
    record {
      some = omega arith;
      before = λ more. elim which [
        | inl is ↦
            let old_more : 1 < most + 1 = omega (arith, more, is) in
            let h = old.before old_more in
            let count : most + 1 - 1 ≡ new + 1 - 1 = omega (arith, is) in
            subst (λ (n : ℕ). IsShared (texts ++ other ∷ []) text n) count
            (h.0, Contains-append_left texts (other ∷ []) h.0 h.1, h.2)
        | inr is ↦
            let count : lines ≡ new + 1 - 1 = omega (arith, is) in
            subst (λ (n : ℕ). IsShared (texts ++ other ∷ []) text n) count
            (other, Contains-push texts other, both)
      ];
      none = λ count h. elim (Contains-push_cases texts other h.0 h.1) [
        | inl there ↦ let below = old.none count (h.0, there, h.2) in omega (arith, below, above)
        | inr is ↦
            let below = few count (subst (λ (o : List ℕ). ShareLines text o count) (sym is) h.2) in
            omega (arith, below, over)
      ];
    }

-- at the end of either text nothing is shared
pub shared_end : (xs ys : List ℕ) (n : ℕ) → length ys ≤ n → shared xs (drop n ys) ≡ 0
shared_end xs ys n over = ap (shared xs) (drop_of_length-le ys over) ∙ shared_nothing xs
  where
    shared_nothing : (xs : List ℕ) → shared xs [] ≡ 0
    shared_nothing [] = refl
    shared_nothing (x ∷ xs) = refl

pub shared_over : (xs ys : List ℕ) (n : ℕ) → length xs ≤ n → shared (drop n xs) ys ≡ 0
shared_over xs ys n over = ap (λ (zs : List ℕ). shared zs ys) (drop_of_length-le xs over)

-- at bytes that are not the same, nothing more is
pub shared_apart : (text other : List ℕ) (n d e : ℕ) → n < length text → n < length other →
    (get_or text n d ≡ get_or other n e → ⊥) → shared (drop n text) (drop n other) ≡ 0
shared_apart text other n d e below under apart =
    let is : nat_eq (get_or text n d) (get_or other n e) ≡ false = not_same (get_or text n d) (get_or other n e) apart
    in
    ap (λ (xs : List ℕ). shared xs (drop n other)) (drop-cons text n d below)
    ∙ ap (shared (get_or text n d ∷ drop (suc n) text)) (drop-cons other n e under)
    ∙ ap (λ (b : Bool). cond b (cond (nat_eq (get_or text n d) 10) 1 0
    + shared (drop (suc n) text) (drop (suc n) other)) 0) is
  where
    not_same : (x y : ℕ) → (x ≡ y → ⊥) → nat_eq x y ≡ false
    not_same x y apart = elim (eqb_tells x y) [ inl both ↦ absurd (apart both.1) | inr both ↦ both.0 ]

-- one byte more that is the same
pub shared_step : (text other : List ℕ) (n d e lines total : ℕ) → n < length text → n < length other →
    get_or text n d ≡ get_or other n e →
    lines + shared (drop n text) (drop n other) ≡ total →
    lines + cond (nat_eq (get_or text n d) 10) 1 0 + shared (drop (n + 1) text) (drop (n + 1) other) ≡ total
shared_step text other n d e lines total below under same old =
    let next : shared (drop n text) (drop n other)
    ≡ cond (nat_eq (get_or text n d) 10) 1 0 + shared (drop (suc n) text) (drop (suc n) other) =
    ap (λ (xs : List ℕ). shared xs (drop n other)) (drop-cons text n d below)
    ∙ ap (shared (get_or text n d ∷ drop (suc n) text)) (drop-cons other n e under)
    ∙ shared_next (get_or text n d) (get_or other n e) (drop (suc n) text) (drop (suc n) other) same in
    let plus : n + 1 ≡ suc n = omega arith in
    subst (λ (m : ℕ). lines + cond (nat_eq (get_or text n d) 10) 1 0 + shared (drop m text) (drop m other) ≡ total)
    (sym plus) (omega (arith, next, old))

-- with a line feed there is one line more
pub feed_step : (text other : List ℕ) (n d e lines total : ℕ) → n < length text → n < length other →
    get_or text n d ≡ get_or other n e → get_or text n d ≡ 10 →
    lines + shared (drop n text) (drop n other) ≡ total →
    lines + 1 + shared (drop (n + 1) text) (drop (n + 1) other) ≡ total
feed_step text other n d e lines total below under same feed old =
    let is : nat_eq (get_or text n d) 10 ≡ true = eq-eqb (get_or text n d) 10 feed in
    subst (λ (b : Bool). lines + cond b 1 0 + shared (drop (n + 1) text) (drop (n + 1) other) ≡ total) is
    (shared_step text other n d e lines total below under same old)

pub other_step : (text other : List ℕ) (n d e lines total : ℕ) → n < length text → n < length other →
    get_or text n d ≡ get_or other n e → (get_or text n d ≡ 10 → ⊥) →
    lines + shared (drop n text) (drop n other) ≡ total →
    lines + shared (drop (n + 1) text) (drop (n + 1) other) ≡ total
other_step text other n d e lines total below under same feed old =
    let is : nat_eq (get_or text n d) 10 ≡ false =
    elim (eqb_tells (get_or text n d) 10) [ inl both ↦ absurd (feed both.1) | inr both ↦ both.0 ] in
    let step : lines + 0 + shared (drop (n + 1) text) (drop (n + 1) other) ≡ total =
    subst (λ (b : Bool). lines + cond b 1 0 + shared (drop (n + 1) text) (drop (n + 1) other) ≡ total) is
    (shared_step text other n d e lines total below under same old) in
    omega (arith, step)

-- what was counted up to where nothing more is shared
pub share_counted : (text other : List ℕ) (n lines : ℕ) →
    lines + shared (drop n text) (drop n other) ≡ shared text other → shared (drop n text) (drop n other) ≡ 0 →
    ShareLines text other lines
share_counted text other n lines sum none =
    let is : shared text other ≡ lines = omega (arith, sum, none) in
    subst (ShareLines text other) is (share text other)

pub most_counted : (text other : List ℕ) (n lines : ℕ) →
    lines + shared (drop n text) (drop n other) ≡ shared text other → shared (drop n text) (drop n other) ≡ 0 →
    (count : ℕ) → ShareLines text other count → count ≤ lines
most_counted text other n lines sum none count both =
    omega (arith, most text other count both, sum, none)

-- one text more, at its place
pub next_text : {X : Type 0} (f : X → List ℕ) (texts : List X) (i : ℕ) (x : X) (text other : List ℕ)
    (most lines new : ℕ) → i < length texts → x ≡ get_or texts i x → other ≡ f x →
    IsFirstNew (map f (take i texts)) text (most + 1) → ShareLines text other lines →
    ((count : ℕ) → ShareLines text other count → count ≤ lines) → most ≤ new → lines ≤ new →
    (new ≡ most) ⊎ (new ≡ lines) → IsFirstNew (map f (take (i + 1) texts)) text (new + 1)
next_text f texts i x text other most lines new below is same old both few above over which =
    let more : map f (take (i + 1) texts) ≡ map f (take i texts) ++ other ∷ [] =
    ap (map f) (take_more texts i x below ∙ ap (λ y. take i texts ++ y ∷ []) (sym is))
    ∙ map-append f (take i texts) (x ∷ []) ∙ ap (λ (t : List ℕ). map f (take i texts) ++ t ∷ []) (sym same) in
    subst (λ (ts : List (List ℕ)). IsFirstNew ts text (new + 1)) (sym more)
    (next_shared (map f (take i texts)) text other most lines new old both few above over which)

-- a text that is none of the first ones, nor the next, is none of one more
pub next_none : {X : Type 0} (f : X → List ℕ) (texts : List X) (i : ℕ) (x : X) (text other : List ℕ) →
    i < length texts → x ≡ get_or texts i x → other ≡ f x → ¬ (Contains (map f (take i texts)) text) →
    (other ≡ text → ⊥) → ¬ (Contains (map f (take (i + 1) texts)) text)
next_none f texts i x text other below is same none apart there =
    let more : map f (take (i + 1) texts) ≡ map f (take i texts) ++ other ∷ [] =
    ap (map f) (take_more texts i x below ∙ ap (λ y. take i texts ++ y ∷ []) (sym is))
    ∙ map-append f (take i texts) (x ∷ []) ∙ ap (λ (t : List ℕ). map f (take i texts) ++ t ∷ []) (sym same) in
    elim (Contains-push_cases (map f (take i texts)) other text
    (subst (λ (ts : List (List ℕ)). Contains ts text) more there)) [
      | inl before ↦ none before
      | inr last ↦ apart last
    ]

-- one text more was copied
pub next_copied : {X : Type 0} (f : X → List ℕ) (texts : List X) (i : ℕ) (x : X) (text : List ℕ)
    (copy new : List (List ℕ)) → i < length texts → x ≡ get_or texts i x → text ≡ f x →
    copy ≡ map f (take i texts) → new ≡ copy ++ text ∷ [] → new ≡ map f (take (i + 1) texts)
next_copied f texts i x text copy new below is same old longer =
    longer ∙ ap (λ (ts : List (List ℕ)). ts ++ text ∷ []) old
    ∙ ap (λ (t : List ℕ). map f (take i texts) ++ t ∷ []) same
    ∙ sym (map-append f (take i texts) (x ∷ []))
    ∙ ap (map f) (ap (λ y. take i texts ++ y ∷ []) is ∙ sym (take_more texts i x below))
