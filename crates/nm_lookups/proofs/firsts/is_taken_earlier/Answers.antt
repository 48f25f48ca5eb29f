use Rattle.std.proofs.Common.{ℕ, Option, false, ◌≡◌, subst, sym, ◌∙◌, ap}
use Rattle.std.specs.Prelude.{nat_lt, take}
use Rattle.std.specs.Option.{option_map_or}
use Rattle.nm_history.specs.Completion.{is_taken}
use Rattle.nm_lookups.proofs.EarlyLemmas.{never_taken_earlier, taken_is_earlier}
use Rattle.nm_lookups.proofs.firsts.is_taken_earlier.Goals as goal

pub returns-in-Some : goal.returns-in-Some
returns-in-Some c =
    taken_is_earlier c.args.stamp c.args.events.now c.args.rank c.args.n c.in-Some.place.now
    c.is_stamped_before.result c.requires.rising
    (λ k. ap (λ (o : Option ℕ). option_map_or (λ t. nat_lt t k) o false) c.in-Some.ensures.value
    ∙ c.requires.taken (record { rank = c.args.rank; n = c.args.n }) k)
    c.is_stamped_before.ensures.there c.is_stamped_before.ensures.past

pub returns-in-None : goal.returns-in-None
returns-in-None c =
    never_taken_earlier c.args.stamp c.args.events.now c.args.rank c.args.n c.requires.rising
    (λ k. ap (λ (o : Option ℕ). option_map_or (λ t. nat_lt t k) o false) c.in-None.ensures.value
    ∙ c.requires.taken (record { rank = c.args.rank; n = c.args.n }) k)
