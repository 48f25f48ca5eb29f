-- Numbers that tell states apart, mostly.
use Rattle.std.specs.Prelude.{ℕ, ◌+◌, ◌*◌, ◌%◌, ◌^◌}

-- a number of two numbers
abbrev pub mixed_lem : ℕ → ℕ → ℕ
mixed_lem a b = ((a * 11400714819323198485) % 2 ^ 64 + b) % 2 ^ 64
