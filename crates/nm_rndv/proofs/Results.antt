-- What follows from the variant of an answer.
use Rattle.std.proofs.Common.{◌≡◌, Result, Ok, Err, Option, Some, None, OnOk, IsSome, IfSome}
use Rattle.std.proofs.Common.{Bor, MutBor, ap, is_some, refl, subst}
use Rattle.std.specs.Option.{option_copied, option_copied_mut}

-- what is lent is there
pub lent : {T : Type 0} (o : Option (MutBor T)) (x : T) → option_copied_mut o ≡ Some x → IsSome o
lent None x h = absurd cc
lent (Some y) x h = refl

-- a fact holds of a success
pub on_ok : {T E P : Type 0} (r : Result T E) → P → OnOk r P
on_ok (Ok x) p = p
on_ok (Err e) p = tt

-- and the same fact of a value that is there
pub is_there : {X : Type 0} (P : X → Type 0) {o : Option X} {x : X} → o ≡ Some x → IfSome o P → P x
is_there P e h = subst (λ o. IfSome o P) e h

-- what is lent is there exactly where what it is of is there
pub seen : {T : Type 0} (o : Option (Bor T)) (x : Option T) → option_copied o ≡ x → is_some o ≡ is_some x
seen None x h = ap is_some h
seen (Some y) x h = ap is_some h
