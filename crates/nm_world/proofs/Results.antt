-- What a call answered.
use Rattle.std.proofs.Common.{◌≡◌, ◌<◌, true, false, Option, Some, None, List, [], ◌∷◌}
use Rattle.std.proofs.Common.{ℕ, is_some, length, refl, sym, ap, subst, ◌∙◌, arith}
use Rattle.nm_types.specs.declared.packets.Packet.{Packet}
use Rattle.std.specs.Prelude.{IfNone, IfSome, IsSome, IsSomeAnd, MatchOption}
use Rattle.std.specs.List.{slice_get}
use Rattle.nm_sending.specs.Letters.{Letter}

pub at_none : {A : Type 0} (o : Option A) (P : Type 0) → IfNone o P → is_some o ≡ false → P
at_none None P is none = is
at_none (Some x) P is none = absurd (clash none) where
  clash : true ≡ false → ⊥
  clash e = cc

pub no_letters : {A : Type 0} (letters : List Letter) (o : Option A) (N : Type 0) (Q : Letter → A → Type 0) →
    MatchOption (slice_get letters 0) N (λ letter. IsSomeAnd o (Q letter)) → is_some o ≡ false → letters ≡ []
no_letters [] o N Q is none = refl
no_letters (letter ∷ letters) None N Q is none = absurd is
no_letters (letter ∷ letters) (Some x) N Q is none = absurd (clash none) where
  clash : true ≡ false → ⊥
  clash e = cc

pub clash : true ≡ false → ⊥
clash e = cc

-- where there is no front, there is no letter
pub none_first : (o : Option Letter) (N : Type 0) (P : Letter → Type 0) → MatchOption o N (λ letter. ⊥) → IfSome o P
none_first None N P is = tt
none_first (Some letter) N P is = absurd is

-- the packet that was cut is the first letter's, which goes where was said before
pub front_cut : (o : Option Letter) (to : ℕ) (r : Option ℕ) (p : Packet) (N : Type 0) (O : ℕ → Type 0) → (N → ⊥)
    → MatchOption o N (λ letter. to ≡ letter.to)
    → MatchOption o (r ≡ None) (λ letter. IsSomeAnd r (λ k. (k ≡ letter.to) × (p ≡ letter.packet))) → IfSome r O
    → (letter : Letter) × (o ≡ Some letter) × (to ≡ letter.to) × (p ≡ letter.packet) × O to
front_cut None to r p N O not goes cut own = absurd (not goes)
front_cut (Some letter) to None p N O not goes cut own = absurd cut
front_cut (Some letter) to (Some k) p N O not goes cut own =
    (letter, refl, goes, cut.1, subst O (cut.0 ∙ sym goes) own)

pub some_letters : {A : Type 0} (letters : List Letter) (o : Option A) (Q : Letter → Type 0) →
    MatchOption (slice_get letters 0) (o ≡ None) Q → is_some o ≡ true → 0 < length letters
some_letters [] o Q is some = absurd (clash (sym some ∙ ap is_some is))
some_letters (letter ∷ letters) o Q is some = omega arith

pub not_some : {A : Type 0} (o : Option A) → o ≡ None → IsSome o → ⊥
not_some None none some = clash (sym some)
not_some (Some x) none some = absurd (nothing none) where
  nothing : Some x ≡ None → ⊥
  nothing e = cc

pub none_less : (letters : List Letter) → letters ≡ [] → 0 < length letters → ⊥
none_less letters none some = let zero_long = ap length none in omega (arith, zero_long, some)
