-- What is called for at the answer to a cancel, by the cancels since the answer before.
use Rattle.std.proofs.Common.{◌≡◌, ℕ, ◌≤◌, Bool, false, cond, Option, Some, None, List, [], ◌∷◌, length}
use Rattle.std.proofs.Common.{refl, ap, arith}
use Rattle.std.specs.Prelude.{option_and_then, option_map}
use Rattle.std.specs.Option.{option_map_or}
use Rattle.nm_types.specs.declared.answers.Answer.{Answer}
use Rattle.nm_types.specs.declared.scripts.Command.{Command}
use Rattle.nm_types.specs.Commands.{Numbered}
use Rattle.nm_history.specs.declared.events.Event.{Event}
use Rattle.nm_history.specs.declared.events.Happened.{Happened}
use Rattle.nm_history.specs.declared.events.Happened.TheVariants.{Ran}
use Rattle.nm_history.specs.Answers.{live}
use Rattle.nm_history.specs.Completion.{Request as Meant}
use Rattle.nm_history.specs.RankRun.{is_canceller}
use Rattle.nm_lookups.specs.AskedFor.{name_of}
use Rattle.nm_check_rank.specs.Cancellings.{cancel_due, receive_cancels, send_cancels}
use Rattle.nm_check_rank.specs.Manies.{many_due, many_of}
use Rattle.nm_check_rank.specs.Objections.{cancel_objection}
use Rattle.nm_check_rank.specs.declared.paired.dues.Due.TheVariants.{Against}
use Rattle.nm_check_rank.specs.declared.paired.manies.Many.TheVariants as many

-- not one cancel of a receive
pub not_one_received : (number : ℕ) (paired : Bool) (xs : List Happened) → (many.One ≡ many_of xs → ⊥) →
    many_due many.One (many_of xs) ≡ receive_cancels number paired xs
not_one_received number paired [] not = refl
not_one_received number paired (w ∷ []) not = absurd (not refl)
not_one_received number paired (w ∷ v ∷ ws) not = refl

-- two or more of a send
pub more_sent : (to n : ℕ) (recalled : Bool) (xs : List Happened) → 2 ≤ length xs →
    many_due many.One many.More ≡ send_cancels to n recalled xs
more_sent to n recalled [] few = absurd (omega (arith, few))
more_sent to n recalled (w ∷ []) few = absurd (omega (arith, few))
more_sent to n recalled (w ∷ v ∷ ws) few = refl

module _ (commands : List Numbered) (before : List Event) where
  abbrev Cancelled : Command → Option Meant
  Cancelled c = cond (is_canceller c) (option_and_then (live commands before) (name_of c)) None

  -- the request that a cancel asks for, and no other command
  pub cancelled_by : (o : Option Command) (b : Bool) → b ≡ option_map_or is_canceller o false →
      cond b (option_and_then (live commands before) (option_and_then name_of o)) None ≡ option_and_then Cancelled o
  cancelled_by None b is =
      ap (λ (x : Bool). cond x (option_and_then (live commands before) (option_and_then name_of None)) None) is
  cancelled_by (Some c) b is =
      ap (λ (x : Bool). cond x (option_and_then (live commands before) (name_of c)) None) is

  -- at another event than an answer
  pub other_cancel : (w : Happened) → ((line : ℕ) (answer : Answer) → w ≡ Ran line answer → ⊥) →
      option_map Against (cancel_objection before w) ≡ cancel_due commands before w
  other_cancel (Ran line answer) not = absurd (not line answer refl)
  other_cancel w not = refl
