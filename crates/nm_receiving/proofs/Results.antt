-- What follows of a result.
use Rattle.std.specs.Prelude.{IfOk, OnOk, Result, Ok, Err}
use Rattle.std.proofs.Common.{◌≡◌}

pub ok_along : {T E : Type 0} (r : Result T E) (P Q : T → Type 0) → ((x : T) → P x → Q x) → IfOk r P → IfOk r Q
ok_along (Ok x) P Q f h = f x h
ok_along (Err e) P Q f h = tt

pub ok_all : {T E : Type 0} (r : Result T E) (Q : T → Type 0) → ((x : T) → Q x) → IfOk r Q
ok_all (Ok x) Q f = f x
ok_all (Err e) Q f = tt

pub ok_gives : {T E : Type 0} (r : Result T E) (x : T) {P : Type 0} → r ≡ Ok x → OnOk r P → P
ok_gives (Ok y) x is h = h
ok_gives (Err e) x is h = absurd (let h' : ⊥ = cc in h')
