-- What is found is in range.
use Rattle.std.proofs.Common.{◌≡◌, ℕ, ◌≤◌, List, Option, Some, None, sym, subst, arith, unwrap_or, lit≤}
use Rattle.nm_script.specs.ArgumentWords.{IsArgument}
use Rattle.nm_script.specs.CommandWords.{AreNumbers, ReadsArguments, InRange, nothing, unless, with_argument}
use Rattle.nm_script.specs.CommandWords.{with_cells, with_eager, with_first, with_second, with_third}
use Rattle.nm_script.specs.CommandWords.ReadsArguments.{ends, more}
use Rattle.nm_script.specs.declared.command_line.Mode.{Mode}
use Rattle.nm_script.specs.declared.command_line.arguments.Argument.{Argument}
use Rattle.nm_script.specs.declared.command_line.arguments.Argument.TheVariants.{Cells, Eager, Number}
use Rattle.nm_script.specs.declared.command_line.found.Found.{Found}

-- where there is one, it is between these
abbrev pub IsWithin : ℕ → ℕ → Option ℕ → Type 0
IsWithin least most None = Unit {0}
IsWithin least most (Some n) = (least ≤ n) × (n ≤ most)

-- the options are in range
pub record AreFound (f : Found) : Type 0 where
  pub cells : IsWithin 1 64 f.cells
  pub eager : IsWithin 0 4096 f.eager

once_within : (f g : Found) (value : Option ℕ) → AreFound f → unless value f ≡ Some g → AreFound g
once_within f g None within h = let same : f ≡ g = cc in subst AreFound same within
once_within f g (Some n) within h = let e : None ≡ Some g = h in cc

-- a number more leaves the options
third_within : (number : ℕ) (f g : Found) (value : Option ℕ) → AreFound f →
    with_third number f value ≡ Some g → AreFound g
third_within number f g None within h =
    let same : record f { third = Some number } ≡ g = cc in
    subst AreFound same (record { cells = within.cells; eager = within.eager })
third_within number f g (Some n) within h = let e : None ≡ Some g = h in cc

second_within : (number : ℕ) (f g : Found) (value : Option ℕ) → AreFound f →
    with_second number f value ≡ Some g → AreFound g
second_within number f g None within h =
    let same : record f { second = Some number } ≡ g = cc in
    subst AreFound same (record { cells = within.cells; eager = within.eager })
second_within number f g (Some n) within h = third_within number f g f.third within h

number_within : (number : ℕ) (f g : Found) (value : Option ℕ) → AreFound f →
    with_first number f value ≡ Some g → AreFound g
number_within number f g None within h =
    let same : record f { first = Some number } ≡ g = cc in
    subst AreFound same (record { cells = within.cells; eager = within.eager })
number_within number f g (Some n) within h = second_within number f g f.second within h

-- one argument more
argument_within : (a : Argument) (words others : List (List ℕ)) (f g : Found) → IsArgument a words others →
    AreFound f → with_argument f a ≡ Some g → AreFound g
argument_within (Cells cells) words others f g (some, few, is) within h =
    once_within (with_cells cells f) g f.cells (record {
      cells = (some, few);
      eager = within.eager;
    }) h
argument_within (Eager eager) words others f g (few, is) within h =
    once_within (with_eager eager f) g f.eager (record {
      cells = within.cells;
      eager = (omega arith, few);
    }) h
argument_within (Number number) words others f g is within h = number_within number f g f.first within h

-- and all of them
pub all_within : (f h : Found) (words : List (List ℕ)) → ReadsArguments f words h → AreFound f → AreFound h
all_within _ _ _ (ends _) within = within
all_within f h words (more a _ others _ g _ is added follows) within =
    all_within g h others follows (argument_within a words others f g is within added)

-- nothing is in range
pub nothing_within : AreFound nothing
nothing_within = record { cells = tt; eager = tt }

or_within : (least most n : ℕ) (value : Option ℕ) → IsWithin least most value → least ≤ n → n ≤ most →
    (least ≤ unwrap_or value n) × (unwrap_or value n ≤ most)
or_within least most n None within some few = (some, few)
or_within least most n (Some v) within some few = within

-- what was taken is in range
pub taken_within : (mode : Mode) (f : Found) (cells eager : ℕ) → AreFound f → AreNumbers mode →
    cells ≡ unwrap_or f.cells 8 → eager ≡ unwrap_or f.eager 1024 →
    InRange (record { mode = mode; cells = cells; eager = eager })
taken_within mode f cells eager within numbers is_cells is_eager =
    let c = or_within 1 64 8 f.cells within.cells (lit≤ tt) (lit≤ tt) in
    let e = or_within 0 4096 1024 f.eager within.eager (lit≤ tt) (lit≤ tt) in
    record {
      numbers = numbers;
      some_cell = subst (λ n. 1 ≤ n) (sym is_cells) c.0;
      few_cells = subst (λ n. n ≤ 64) (sym is_cells) c.1;
      few_eager = subst (λ n. n ≤ 4096) (sym is_eager) e.1;
    }
