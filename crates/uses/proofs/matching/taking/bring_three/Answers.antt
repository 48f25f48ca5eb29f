-- Each message is new, and goes to the oldest open receive that selects it.
use Rattle.std.proofs.Common.{refl, ap, ◌∙◌, ◌≡◌, ℕ, [], ◌∷◌, ◌++◌, Some, None, Option}
use Rattle.nm_types.specs.declared.messages.Arrival.{Arrival}
use Rattle.nm_history.specs.Matching.{is_free_message, matched_pairs}
use Rattle.nm_match.specs.declared.deeds.Deed.TheVariants.{Arrive}
use Rattle.nm_match.specs.Deeds.{history_of, is_known_message}
use Rattle.uses.specs.Story.{after_posts, message, second_of_two}
use Rattle.uses.proofs.StoryLemmas.{grown, new_message, same_taker}
use Rattle.uses.proofs.matching.taking.bring_three.Goals as goal

pub arrive-requires : goal.arrive-requires
unfolding history_of is_known_message
arrive-requires c = record {
  is_new = new_message _ after_posts _ (message 3 0 9) c.requires c.message.ensures refl;
}

pub arrive-requires-2 : goal.arrive-requires-2
unfolding history_of is_known_message
arrive-requires-2 c =
    let one = grown _ _ after_posts _ (Arrive (message 3 0 9)) c.in_ok-one.ensures.ok c.requires
    (ap (λ (a : Arrival). Arrive a) c.message.ensures) in
    record {
      is_new = new_message _ (after_posts ++ Arrive (message 3 0 9) ∷ []) _ (message 2 0 5) one
          c.message-2.ensures refl;
    }

pub arrive-requires-3 : goal.arrive-requires-3
unfolding history_of is_known_message
arrive-requires-3 c =
    let one = grown _ _ after_posts _ (Arrive (message 3 0 9)) c.in_ok-one.ensures.ok c.requires
    (ap (λ (a : Arrival). Arrive a) c.message.ensures) in
    let two = grown _ _ _ _ (Arrive (message 2 0 5)) c.in_ok-two.ensures.ok one
    (ap (λ (a : Arrival). Arrive a) c.message-2.ensures) in
    record {
      is_new = new_message _ _ _ second_of_two two c.message-3.ensures refl;
    }

three : (a b c : Option ℕ) → a ≡ Some 1 → b ≡ Some 0 → c ≡ None →
    a ∷ b ∷ c ∷ [] ≡ Some 1 ∷ Some 0 ∷ None ∷ []
three a b c is_a is_b is_c = cc

pub returns-clause-taken : goal.returns-clause-taken
unfolding history_of matched_pairs is_free_message
returns-clause-taken c =
    let one = grown _ _ after_posts _ (Arrive (message 3 0 9)) c.in_ok-one.ensures.ok c.requires
    (ap (λ (a : Arrival). Arrive a) c.message.ensures) in
    let two = grown _ _ _ _ (Arrive (message 2 0 5)) c.in_ok-two.ensures.ok one
    (ap (λ (a : Arrival). Arrive a) c.message-2.ensures) in
    three _ _ _
    (c.in_ok-one.ensures.oldest ∙ same_taker _ after_posts _ (message 3 0 9) c.requires c.message.ensures)
    (c.in_ok-two.ensures.oldest ∙ same_taker _ _ _ (message 2 0 5) one c.message-2.ensures)
    (c.in_ok-three.ensures.oldest ∙ same_taker _ _ _ second_of_two two c.message-3.ensures)
