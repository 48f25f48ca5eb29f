-- The names of commands, and numbers, both ways.
use Rattle.std.proofs.Common.{◌≡◌, ℕ, ◌+◌, ◌<◌, ◌≤◌, ◌^◌, true}
use Rattle.std.proofs.Common.{List, nat_le, Option, Some, None, Result, Ok, Err}
use Rattle.std.proofs.Common.{refl, sym, ap, ◌∙◌, arith, decimal}
use Rattle.std.specs.List.{list_all}
use Rattle.std.specs.Option.{ok_or}
use Rattle.std.specs.Str.{bytes_eq}
use Rattle.std.proofs.lemmas.Bool.{leb-true, le-leb}
use Rattle.std.proofs.lemmas.Slice.Eq.{bytes_eq-Decides}
use Rattle.nm_script.specs.Decimal.{number_of}
use Rattle.nm_script.proofs.NumberLemmas.{number_taken, number_again}
use Rattle.nm_script.proofs.WordLemmas.{is_solid}
use Rattle.nm_plans.specs.declared.faults.PlanKind.{PlanKind}
use Rattle.nm_plans.specs.declared.faults.PlanKind.TheVariants as kind
use Rattle.nm_plans.specs.declared.keywords.PlanKeyword.{PlanKeyword}
use Rattle.nm_plans.specs.declared.keywords.PlanKeyword.TheVariants as key
use Rattle.nm_plans.specs.Commands.{plan_argument}
use Rattle.nm_plans.specs.Faults.{or_kind}
use Rattle.nm_plans.specs.Grammar.{keyword_of, keyword_text, keywords}
use Rattle.nm_types.proofs.ListLemmas.{find_passes}

-- ---- names

-- a name that is taken is the command's
pub keyword_taken : (word : List ℕ) (k : PlanKeyword) → keyword_of word ≡ Some k → word ≡ keyword_text k
unfolding keyword_of
keyword_taken word k h = (bytes_eq-Decides word (keyword_text k)).0
    (find_passes (λ k. bytes_eq word (keyword_text k)) keywords k h)

-- each command's name is taken
pub keyword_again : (k : PlanKeyword) → keyword_of (keyword_text k) ≡ Some k
unfolding keyword_of
keyword_again key.SendInit = refl
keyword_again key.RecvInit = refl
keyword_again key.PsendInit = refl
keyword_again key.PrecvInit = refl
keyword_again key.Fill = refl
keyword_again key.Start = refl
keyword_again key.Ready = refl
keyword_again key.Arrived = refl
keyword_again key.Wait = refl

-- a name is that of one command
pub one_keyword : (j k : PlanKeyword) → keyword_text j ≡ keyword_text k → j ≡ k
one_keyword j k same =
    let found : ◌≡◌ {A = Option PlanKeyword} (Some j) (Some k) =
    sym (keyword_again j) ∙ ap keyword_of same ∙ keyword_again k in
    cc (found)

pub keyword_solid : (k : PlanKeyword) → list_all is_solid (keyword_text k) ≡ true
keyword_solid key.SendInit = refl
keyword_solid key.RecvInit = refl
keyword_solid key.PsendInit = refl
keyword_solid key.PrecvInit = refl
keyword_solid key.Fill = refl
keyword_solid key.Start = refl
keyword_solid key.Ready = refl
keyword_solid key.Arrived = refl
keyword_solid key.Wait = refl

-- ---- steps

pub ok_some : {A : Type 0} (o : Option A) (e : PlanKind) (x : A) → ok_or o e ≡ Ok x → o ≡ Some x
ok_some (Some y) e x h = cc
ok_some None e x h = cc

pub err_none : {A : Type 0} (o : Option A) (d e : PlanKind) → ok_or o d ≡ Err e → (o ≡ None) × (e ≡ d)
err_none (Some x) d e h = cc
err_none None d e h = (refl, cc)

pub or_ok : {A E : Type 0} (r : Result A E) (k : PlanKind) (x : A) → or_kind r k ≡ Ok x → r ≡ Ok x
or_ok (Ok y) k x h = cc
or_ok (Err e) k x h = cc

pub or_err : {A E : Type 0} (r : Result A E) (k e : PlanKind) → or_kind r k ≡ Err e → e ≡ k
or_err (Ok y) k e h = cc
or_err (Err d) k e h = cc

-- ---- numbers

pub argument_again : (limit n : ℕ) → limit ≤ 2 ^ 64 → n < limit → plan_argument limit (decimal n) ≡ Ok n
unfolding plan_argument
argument_again limit n small h = rw (number_again limit n small h) refl

pub argument_taken : (limit n : ℕ) (word : List ℕ) → limit ≤ 2 ^ 64 → plan_argument limit word ≡ Ok n
    → (n < limit) × (word ≡ decimal n)
unfolding plan_argument
argument_taken limit n word small h =
    number_taken limit n word small (ok_some (number_of limit word) kind.Number n h)

pub argument_kind : (limit : ℕ) (word : List ℕ) (e : PlanKind) → plan_argument limit word ≡ Err e → e ≡ kind.Number
unfolding plan_argument
argument_kind limit word e h = (err_none (number_of limit word) kind.Number e h).1

-- a number in range is read
pub most_again : (most n : ℕ) → most < 2 ^ 63 → nat_le n most ≡ true → plan_argument (most + 1) (decimal n) ≡ Ok n
most_again most n small h =
    argument_again (most + 1) n (omega arith) (omega (arith, leb-true n most h))

pub most_taken : (most n : ℕ) (word : List ℕ) → most < 2 ^ 63 → plan_argument (most + 1) word ≡ Ok n
    → (nat_le n most ≡ true) × (word ≡ decimal n)
most_taken most n word small h =
    let a = argument_taken (most + 1) n word (omega arith) h in
    (le-leb n most (omega (arith, a.0)), a.1)
