-- What an option has, and what is made of it.
use Rattle.std.proofs.Common.{◌≡◌, Option, Some, None, [], refl, subst}
use Rattle.std.specs.Prelude.{IfSome, IsSome, IsSomeAnd, is_some, option_map}
use Rattle.std.specs.List.{cons_option}
use Rattle.std.specs.Option.{option_to_list}

-- two values are the same option where they are equal
pub same_some : {X : Type 0} (x y : X) → Some x ≡ Some y → x ≡ y
same_some x y same = cc

pub no_some : {X : Type 0} (x : X) → None ≡ Some x → ⊥
no_some x same = cc

-- what an option has
pub some_of : {X : Type 0} (o : Option X) → IsSome o → (x : X) × (o ≡ Some x)
some_of (Some x) some = (x, refl)
some_of None some = cc

pub some_and : {X : Type 0} (P : X → Type 0) (o : Option X) → IsSomeAnd o P → (x : X) × (o ≡ Some x) × P x
some_and P None holds = absurd holds
some_and P (Some x) holds = (x, refl, holds)

-- what holds of an option's value, if there is one
pub if_some : {X : Type 0} (P : X → Type 0) (o : Option X) (x : X) → o ≡ Some x → IfSome o P → P x
if_some {X = X} P o x is holds = subst (λ (o : Option X). IfSome o P) is holds

pub if_each : {X : Type 0} (P : X → Type 0) (o : Option X) → ((x : X) → o ≡ Some x → P x) → IfSome o P
if_each P None each = tt
if_each P (Some x) each = each x refl

pub if_all : {X : Type 0} (o : Option X) (P : X → Type 0) → ((x : X) → P x) → IfSome o P
if_all None P all = tt
if_all (Some x) P all = all x

-- what a mapped option has
pub mapped_some : {X Y : Type 0} (f : X → Y) (o : Option X) (y : Y) → option_map f o ≡ Some y →
    (x : X) × (o ≡ Some x) × (f x ≡ y)
mapped_some f None y h = absurd (let none : ⊥ = cc in none)
mapped_some f (Some x) y h = (x, refl, cc)

pub mapped_none : {X Y : Type 0} (f : X → Y) (o : Option X) → option_map f o ≡ None → o ≡ None
mapped_none f (Some x) h = cc
mapped_none f None h = refl

pub some_mapped : {X Y : Type 0} (f : X → Y) (o : Option X) → is_some (option_map f o) ≡ is_some o
some_mapped f None = refl
some_mapped f (Some x) = refl

-- an option as a list
pub one_option : {X : Type 0} (o : Option X) → cons_option o [] ≡ option_to_list o
one_option None = refl
one_option (Some x) = refl
