-- The next piece goes, and a message that was sent by asking leaves with its last one.
use Rattle.std.proofs.Common.{◌≡◌, ℕ, ◌+◌, ◌<◌, ◌≤◌, true}
use Rattle.std.proofs.Common.{Option, Some, None, List}
use Rattle.std.proofs.Common.{refl, sym}
use Rattle.std.proofs.Common.{◌∙◌, ap, subst, arith, true≢false, sum_by, nat_eq}
use Rattle.std.specs.Prelude.{IsSome, option_and_then}
use Rattle.std.specs.Map.{values_of}
use Rattle.std.proofs.lemmas.Map.Entries.{sum_by-set_value}
use Rattle.nm_types.specs.declared.messages.How.{How}
use Rattle.nm_types.specs.declared.messages.How.TheVariants.{Eager, Ask}
use Rattle.nm_history.specs.Sends.{is_ask}
use Rattle.nm_history.specs.Continues.{has}
use Rattle.nm_rndv.specs.Cuts.{Cut}
use Rattle.nm_rndv.specs.declared.asked.State.{State}
use Rattle.nm_rndv.specs.declared.asked.State.TheVariants.{Cleared, Out}
use Rattle.nm_rndv.specs.Offers.{Destined, Offering, state_in, state_of}
use Rattle.nm_rndv.specs.Offers.{leaves}
use Rattle.nm_rndv.specs.Offers.{first_leaving, next_offered, offered_of, with_step}
use Rattle.nm_rndv.proofs.StateLemmas.{leaving_is_cleared, leaving_within, asked-with_step}
use Rattle.nm_sending.specs.declared.departures.Departure.{Departure}
use Rattle.nm_sending.specs.Departures.{SendingView}
use Rattle.nm_sending.specs.Departures.{departure_of}
use Rattle.nm_sending.specs.Departures.{cleared_to}
use Rattle.nm_sending.specs.Tables.{TablesAgree, IsOffer, IsOfferBy, IsStateOf, allowance, allowed}

-- where there is a next piece, there is a message that leaves
pub is_leading : (v : Offering) → IsSome (next_offered v) → (m : ℕ × ℕ) × (first_leaving v ≡ Some m)
is_leading v there = by_first (first_leaving v) refl there where
  by_first : (o : Option (ℕ × ℕ)) → first_leaving v ≡ o
      → IsSome (option_and_then (offered_of v.destinations) o)
      → (m : ℕ × ℕ) × (first_leaving v ≡ Some m)
  by_first None is h = absurd (true≢false (sym h))
  by_first (Some m) is h = (m, is)

-- a message that leaves, and the body that it leaves with
pub record Leads (v : SendingView) (m : ℕ × ℕ) : Type 0 where
  pub departure : Departure
  pub cut : Cut
  pub there : departure_of v m.0 m.1 ≡ Some departure
  pub asked : is_ask departure.how ≡ true
  pub state : state_of v.offers m.0 m.1 ≡ Some (Cleared cut)
  pub offer : IsStateOf departure (has (cleared_to v m.0) m.1) (Some (Cleared cut))

offer_leads : (v : SendingView) (m : ℕ × ℕ) (cut : Cut) → state_of v.offers m.0 m.1 ≡ Some (Cleared cut)
    → (o : Option Departure) → departure_of v m.0 m.1 ≡ o
    → IsOffer o (has (cleared_to v m.0) m.1) (Some (Cleared cut)) → Leads v m
offer_leads v m cut state None there offer = absurd (elim_some offer.1) where
  elim_some : {s : State} → Some s ≡ None → ⊥
  elim_some e = cc
offer_leads v m cut state (Some d) there offer = by_how d.how refl offer where
  elim_some : {s : State} → Some s ≡ None → ⊥
  elim_some e = cc

  by_how : (how : How) → d.how ≡ how → IsOfferBy how d (has (cleared_to v m.0) m.1) (Some (Cleared cut))
      → Leads v m
  by_how Eager is offer = absurd (elim_some offer.1)
  by_how Ask is offer = record {
    departure = d;
    cut = cut;
    there = there;
    asked = ap is_ask is;
    state = state;
    offer = offer;
  }

module _ (me ranks : ℕ) (old : SendingView) (tables : TablesAgree me ranks old) (m : ℕ × ℕ) where
  pub leads : leaves old.offers.destinations m ≡ true → Leads old m
  leads left =
      let cleared = leaving_is_cleared (state_of old.offers m.0 m.1) left in
      offer_leads old m cleared.0 cleared.1 (departure_of old m.0 m.1) refl
      (subst (λ (s : Option State). IsOffer (departure_of old m.0 m.1) (has (cleared_to old m.0) m.1) s)
      cleared.1 (tables.states m.0 m.1))

  pub leads_within : leaves old.offers.destinations m ≡ true → m.0 < ranks
  leads_within left = let inside = leaving_within old.offers.destinations m left in omega
      (arith, inside, tables.offers)

-- a state counts among the pieces that are allowed
pub allowed-step : (d : Destined) (n : ℕ) (step : State → State) (s : State) → state_in d n ≡ Some s
    → allowed (with_step d n step) + allowance s ≡ allowed d + allowance (step s)
allowed-step d n step s was =
    ap (λ (es : List (ℕ × State)). sum_by allowance (values_of es) + allowance s)
    (asked-with_step d (with_step d n step) n step s was refl)
    ∙ sum_by-set_value allowance (nat_eq n) d.asked s (step s) was

pub allowed-at : (d : Destined) (n : ℕ) (s : State) → state_in d n ≡ Some s → allowance s ≤ allowed d
allowed-at d n s was =
    let none = allowed-step d n (λ x. Out) s was in omega (arith, none)
