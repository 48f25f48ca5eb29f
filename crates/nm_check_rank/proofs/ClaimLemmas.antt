-- The rule on claims, by the claims since the last answer and by what was found.
use Rattle.std.proofs.Common.{◌≡◌, List, [], ◌∷◌, length, sym, ◌∙◌, ap}
use Rattle.std.specs.Prelude.{filter_map, option_to_list}
use Rattle.nm_history.specs.declared.events.Event.{Event}
use Rattle.nm_history.specs.declared.events.Happened.{Happened}
use Rattle.nm_history.specs.RankRun.{claims_since, line_of_claim, since_command}
use Rattle.nm_lookups.specs.SinceAnswer.{of_kind}
use Rattle.nm_check_rank.specs.Kinds.{is_claiming}
use Rattle.nm_check_rank.proofs.GivenLemmas.{given_length, given_of_passed}
use Rattle.nm_types.proofs.ListLemmas.{no_items}
use Rattle.nm_types.proofs.OptionLemmas.{one_option}

-- the lines of the claims are those of the events that are claims
claims_of_kind : (h : List Event) → claims_since h ≡ filter_map line_of_claim (of_kind is_claiming h)
claims_of_kind h = sym (given_of_passed line_of_claim (since_command h))

pub claims_length : (h : List Event) → length (claims_since h) ≡ length (of_kind is_claiming h)
claims_length h = given_length line_of_claim (since_command h)

-- there are claims where there are events of the kind
pub no_claims : (h : List Event) → of_kind is_claiming h ≡ [] → claims_since h ≡ []
no_claims h none = claims_of_kind h ∙ ap (λ (xs : List Happened). filter_map line_of_claim xs) none

pub no_claiming : (h : List Event) → claims_since h ≡ [] → of_kind is_claiming h ≡ []
no_claiming h none =
    no_items (of_kind is_claiming h) (sym (claims_length h) ∙ ap length none)

-- the line of the one claim
pub one_claim : (h : List Event) (w : Happened) → of_kind is_claiming h ≡ w ∷ [] →
    claims_since h ≡ option_to_list (line_of_claim w)
one_claim h w one =
    claims_of_kind h ∙ ap (λ (xs : List Happened). filter_map line_of_claim xs) one ∙ one_option (line_of_claim w)
