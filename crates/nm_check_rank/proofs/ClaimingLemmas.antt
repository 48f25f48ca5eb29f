-- What is called for at a claim, by what was found.
use Rattle.std.proofs.Common.{◌≡◌, ℕ, ◌≤◌, Bool, true, false, cond, Option, Some, None, List, [], ◌∷◌, length}
use Rattle.std.proofs.Common.{refl, sym, ap, arith}
use Rattle.std.specs.Prelude.{option_and_then, option_map, option_to_list}
use Rattle.std.specs.Option.{option_map_or}
use Rattle.nm_types.specs.declared.answers.Answer.{Answer}
use Rattle.nm_types.specs.declared.messages.Arrival.{Arrival}
use Rattle.nm_types.specs.declared.scripts.Command.{Command}
use Rattle.nm_types.specs.Commands.{Numbered}
use Rattle.nm_history.specs.declared.events.Event.{Event}
use Rattle.nm_history.specs.declared.events.Happened.{Happened}
use Rattle.nm_history.specs.declared.events.Happened.TheVariants.{Claim, Ran}
use Rattle.nm_history.specs.RankRun.{claims_since, is_matched_probe, line_of_claim}
use Rattle.nm_lookups.specs.Looks.{found_by}
use Rattle.nm_lookups.specs.SinceAnswer.{of_kind}
use Rattle.nm_check_rank.specs.Claimings.{claim_due, claims_due}
use Rattle.nm_match.specs.Names.{id_of_arrival}
use Rattle.nm_check_rank.specs.Kinds.{is_claiming}
use Rattle.nm_check_rank.specs.Manies.{many_due}
use Rattle.nm_check_rank.specs.declared.paired.dues.Due.{Due}
use Rattle.nm_check_rank.specs.declared.paired.manies.Many.TheVariants as many
use Rattle.nm_check_rank.proofs.ClaimLemmas.{claims_length, no_claims, one_claim}

-- the message that the matched probe of a line found
pub probed_by : (before : List Event) (o : Option Command) (found : Option Arrival) →
    found ≡ option_and_then (found_by before) o →
    cond (option_map_or is_matched_probe o false) (option_map id_of_arrival found) None
    ≡ option_map id_of_arrival (option_and_then (λ c. cond (is_matched_probe c) (found_by before c) None) o)
probed_by before None found is = refl
probed_by before (Some c) found is = by_test (is_matched_probe c)
  where
    by_test : (b : Bool) → cond b (option_map id_of_arrival found) None
        ≡ option_map id_of_arrival (cond b (found_by before c) None)
    by_test true = ap (λ (o : Option Arrival). option_map id_of_arrival o) is
    by_test false = refl

-- more than one claim
more_called : (line : ℕ) (called : Bool) (xs : List ℕ) → 2 ≤ length xs →
    many_due (cond called many.One many.Nothing) many.More ≡ claims_due (cond called (line ∷ []) []) xs
more_called line called [] few = absurd (omega (arith, few))
more_called line called (x ∷ []) few = absurd (omega (arith, few))
more_called line true (x ∷ y ∷ xs) few = refl
more_called line false (x ∷ y ∷ xs) few = refl

module _ (h : List Event) (line : ℕ) (called : Bool) where
  abbrev Called : List ℕ → Option Due
  Called xs = claims_due (cond called (line ∷ []) []) xs

  -- no claim since the last answer
  pub none_claimed : of_kind is_claiming h ≡ [] → Called [] ≡ Called (claims_since h)
  none_claimed none = sym (ap (λ (xs : List ℕ). Called xs) (no_claims h none))

  -- one
  pub one_claimed : (w : Happened) → of_kind is_claiming h ≡ w ∷ [] →
      Called (option_to_list (line_of_claim w)) ≡ Called (claims_since h)
  one_claimed w one = sym (ap (λ (xs : List ℕ). Called xs) (one_claim h w one))

  -- two or more
  pub more_claimed : 2 ≤ length (of_kind is_claiming h) →
      many_due (cond called many.One many.Nothing) many.More ≡ Called (claims_since h)
  more_claimed few = let all = claims_length h in more_called line called (claims_since h) (omega (arith, few, all))

-- nothing is called for at any other event
pub no_claim_due : (commands : List Numbered) (before : List Event) (w : Happened) →
    ((line : ℕ) (answer : Answer) → w ≡ Ran line answer → ⊥) →
    ((from n line : ℕ) → w ≡ Claim from n line → ⊥) → None ≡ claim_due commands before w
no_claim_due commands before (Ran line answer) ran claim = absurd (ran line answer refl)
no_claim_due commands before (Claim from n line) ran claim = absurd (claim from n line refl)
no_claim_due commands before w ran claim = refl
