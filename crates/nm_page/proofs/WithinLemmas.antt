-- Well-formed markup may stand inside an element: a reader who comes to it there reads on behind it.
use Rattle.std.proofs.Common.{◌≡◌, ℕ, ◌⊎◌, inl, inr, List, [], ◌∷◌, ◌++◌, Bool, true, false, cond, ◌||◌, ◌==◌, refl, sym, ap}
use Rattle.std.proofs.Common.{◌∙◌, subst}
use Rattle.std.proofs.lemmas.Bool.{eqb-true}
use Rattle.nm_picture.specs.WellFormed.{ReaderState, ends, expects, goes_on, is_letter, is_name, is_text, read, step}
use Rattle.nm_picture.specs.WellFormed.ReaderState.{Before, Between, Opened, Named, Spaced, Attribute, Equals, Value}
use Rattle.nm_picture.specs.WellFormed.ReaderState.{Quoted, Reference, Expects, Broken}

-- the same place, inside these elements
abbrev pub within : List (List ℕ) → ReaderState → ReaderState
within base Before = Between base
within base (Between tags) = Between (tags ++ base)
within base (Opened tags) = Opened (tags ++ base)
within base (Named name tags) = Named name (tags ++ base)
within base (Spaced tags) = Spaced (tags ++ base)
within base (Attribute tags) = Attribute (tags ++ base)
within base (Equals tags) = Equals (tags ++ base)
within base (Value tags) = Value (tags ++ base)
within base (Quoted tags) = Quoted (tags ++ base)
within base (Reference tags) = Reference (tags ++ base)
within base (Expects first rest tags) = Expects first rest (tags ++ base)
within base Broken = Broken

-- the text is broken there, or both readers come to the same place
abbrev Goes : List (List ℕ) → ReaderState → ReaderState → Type 0
Goes base inner outer = (inner ≡ Broken) ⊎ (outer ≡ within base inner)

expects-within : (base : List (List ℕ)) (rest : List ℕ) (tags : List (List ℕ)) →
    Goes base (expects rest tags) (expects rest (tags ++ base))
expects-within base [] tags = inr refl
expects-within base (b ∷ rest) tags = inr refl

ends-within : (base : List (List ℕ)) (tags : List (List ℕ)) → Goes base (ends tags) (ends (tags ++ base))
ends-within base [] = inl refl
ends-within base (name ∷ tags) = expects-within base (name ++ 62 ∷ []) tags

goes_on-within : (base tags : List (List ℕ)) (close space : Bool) →
    Goes base (cond close (Between tags) (cond space (Spaced tags) Broken))
    (cond close (Between (tags ++ base)) (cond space (Spaced (tags ++ base)) Broken))
goes_on-within base tags true space = inr refl
goes_on-within base tags false true = inr refl
goes_on-within base tags false false = inl refl

before-within : (name : List ℕ) (base : List (List ℕ)) (tag amp text : Bool) →
    Goes (name ∷ base) (cond tag (Opened []) Broken)
    (cond tag (Opened (name ∷ base))
    (cond amp (Reference (name ∷ base)) (cond text (Between (name ∷ base)) Broken)))
before-within name base true amp text = inr refl
before-within name base false amp text = inl refl

after-within : (name : List ℕ) (base : List (List ℕ)) (b : ℕ) (is : Bool) → (b == 10) ≡ is →
    Goes (name ∷ base) (cond is (Between []) Broken) (step (Between (name ∷ base)) b)
after-within name base b false h = inl refl
after-within name base b true h =
    inr (subst (λ x. step (Between (name ∷ base)) x ≡ Between (name ∷ base)) (sym (eqb-true b 10 h)) refl)

between-within : (base : List (List ℕ)) (name : List ℕ) (tags : List (List ℕ)) (tag amp text : Bool) →
    Goes base
    (cond tag (Opened (name ∷ tags)) (cond amp (Reference (name ∷ tags)) (cond text (Between (name ∷ tags)) Broken)))
    (cond tag (Opened (name ∷ (tags ++ base)))
    (cond amp (Reference (name ∷ (tags ++ base))) (cond text (Between (name ∷ (tags ++ base))) Broken)))
between-within base name tags true amp text = inr refl
between-within base name tags false true text = inr refl
between-within base name tags false false true = inr refl
between-within base name tags false false false = inl refl

opened-within : (base tags : List (List ℕ)) (b : ℕ) (letter slash : Bool) →
    Goes base (cond letter (Named (b ∷ []) tags) (cond slash (ends tags) Broken))
    (cond letter (Named (b ∷ []) (tags ++ base)) (cond slash (ends (tags ++ base)) Broken))
opened-within base tags b true slash = inr refl
opened-within base tags b false true = ends-within base tags
opened-within base tags b false false = inl refl

named-within : (base : List (List ℕ)) (name : List ℕ) (tags : List (List ℕ)) (b : ℕ) (is : Bool) →
    Goes base (cond is (Named (name ++ b ∷ []) tags) (goes_on b (name ∷ tags)))
    (cond is (Named (name ++ b ∷ []) (tags ++ base)) (goes_on b (name ∷ (tags ++ base))))
named-within base name tags b true = inr refl
named-within base name tags b false = goes_on-within base (name ∷ tags) (b == 62) (b == 32)

one-within : (base : List (List ℕ)) (next : ReaderState) (is : Bool) →
    Goes base (cond is next Broken) (cond is (within base next) Broken)
one-within base next true = inr refl
one-within base next false = inl refl

two-within : (base : List (List ℕ)) (first second : ReaderState) (is other : Bool) →
    Goes base (cond is first (cond other second Broken))
    (cond is (within base first) (cond other (within base second) Broken))
two-within base first second true other = inr refl
two-within base first second false true = inr refl
two-within base first second false false = inl refl

value-within : (base tags : List (List ℕ)) (quote tag text : Bool) →
    Goes base (cond quote (Quoted tags) (cond tag Broken (cond text (Value tags) Broken)))
    (cond quote (Quoted (tags ++ base)) (cond tag Broken (cond text (Value (tags ++ base)) Broken)))
value-within base tags true tag text = inr refl
value-within base tags false true text = inl refl
value-within base tags false false true = inr refl
value-within base tags false false false = inl refl

met-within : (base : List (List ℕ)) (rest : List ℕ) (tags : List (List ℕ)) (is : Bool) →
    Goes base (cond is (expects rest tags) Broken) (cond is (expects rest (tags ++ base)) Broken)
met-within base rest tags true = expects-within base rest tags
met-within base rest tags false = inl refl

step-within : (name : List ℕ) (base : List (List ℕ)) (place : ReaderState) (b : ℕ) →
    Goes (name ∷ base) (step place b) (step (within (name ∷ base) place) b)
step-within name base Before b = before-within name base (b == 60) (b == 38) (is_text b)
step-within name base (Between []) b = after-within name base b (b == 10) refl
step-within name base (Between (tag ∷ tags)) b = between-within (name ∷ base) tag tags (b == 60) (b == 38) (is_text b)
step-within name base (Opened tags) b = opened-within (name ∷ base) tags b (is_letter b) (b == 47)
step-within name base (Named tag tags) b = named-within (name ∷ base) tag tags b (is_name b)
step-within name base (Spaced tags) b = one-within (name ∷ base) (Attribute tags) (is_letter b)
step-within name base (Attribute tags) b =
    two-within (name ∷ base) (Attribute tags) (Equals tags) (is_name b) (b == 61)
step-within name base (Equals tags) b = one-within (name ∷ base) (Value tags) (b == 34)
step-within name base (Value tags) b = value-within (name ∷ base) tags (b == 34) (b == 60 || b == 38) (is_text b)
step-within name base (Quoted tags) b = goes_on-within (name ∷ base) tags (b == 62) (b == 32)
step-within name base (Reference tags) b =
    two-within (name ∷ base) (Expects 116 (59 ∷ []) tags) (Expects 109 (112 ∷ 59 ∷ []) tags)
    (b == 108 || b == 103) (b == 97)
step-within name base (Expects first rest tags) b = met-within (name ∷ base) rest tags (b == first)
step-within name base Broken b = inl refl

-- what is broken stays so
broken-stays : (text : List ℕ) → read Broken text ≡ Broken
broken-stays [] = refl
broken-stays (b ∷ text) = broken-stays text

abbrev is_between : ReaderState → Bool
is_between (Between tags) = true
is_between _ = false

not_both : false ≡ true → ⊥
not_both h = absurd cc

not_broken : Broken ≡ Between [] → ⊥
not_broken h = not_both (ap is_between h)

pub read-within : (name : List ℕ) (base : List (List ℕ)) (place : ReaderState) (text : List ℕ) →
    read place text ≡ Between [] → read (within (name ∷ base) place) text ≡ Between (name ∷ base)
read-within name base place [] h = ap (within (name ∷ base)) h
read-within name base place (b ∷ text) h =
    by_case (step-within name base place b) (read-within name base (step place b) text h) where
      by_case : Goes (name ∷ base) (step place b) (step (within (name ∷ base) place) b) →
          read (within (name ∷ base) (step place b)) text ≡ Between (name ∷ base) →
          read (step (within (name ∷ base) place) b) text ≡ Between (name ∷ base)
      by_case (inl broken) rest =
          absurd (not_broken (sym (broken-stays text) ∙ ap (λ p. read p text) (sym broken) ∙ h))
      by_case (inr same) rest = ap (λ p. read p text) same ∙ rest
