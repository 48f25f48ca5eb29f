-- What a program that counts at each turn has counted at its end.
use Rattle.std.proofs.Common.{◌≡◌, Option, Some, None, List, [], ◌∷◌, ◌∙◌, ap}
use Rattle.nm_types.specs.declared.answers.Answer.{Answer}
use Rattle.nm_types.specs.declared.scripts.Command.{Command}
use Rattle.nm_process.specs.Playing.{HasPlayed, Talked}
use Rattle.nm_programs.specs.Counts.{count_after}

module _ {P S : Type 0} (says : P → Option Answer → Option Command → P → Type 0) (count : P → S)
    (step : S → Option Answer → S)
    (each : (p : P) (a : Option Answer) (c : Option Command) (q : P) → says p a c q → count q ≡ step (count p) a) where
  -- after a first command
  counted_on : (p : P) (now : Option Command) (told : List Answer) (left : P) (last : Option Command)
      (given : List Command) → Talked says p now told left last given → count left ≡ count_after step (count p) told
  counted_on p now [] left last given talked = ap count talked.0
  counted_on p None (a ∷ told) left last given talked = absurd talked
  counted_on p (Some c) (a ∷ told) left last given talked =
      counted_on talked.0 talked.1 told left last talked.2 talked.5
      ∙ ap (λ (s : S). count_after step s told) (each p (Some a) talked.1 talked.0 talked.3)

  -- from its start on
  pub counted_in_all : (start : P) (told : List Answer) (left : P) (last : Option Command) (given : List Command) →
      HasPlayed says start told left last given →
      count left ≡ count_after step (step (count start) None) told
  counted_in_all start told left last given played =
      counted_on played.begun played.first told left last given played.talked
      ∙ ap (λ (s : S). count_after step s told) (each start None played.first played.begun played.begins)
