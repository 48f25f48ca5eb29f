-- What holds of the pairs of ranks before one, by sender and then receiver.
use Rattle.std.proofs.Common.{◌≡◌, ℕ, ◌<◌, Option, Some, None, List, [], ap, length, refl, sym, ◌∙◌, subst, ⊎_elim}
use Rattle.std.specs.Prelude.{IfSome, IsSomeAnd}
use Rattle.std.specs.Option.{option_map_or}
use Rattle.std.specs.List.{slice_get}
use Rattle.std.proofs.lemmas.Option.{same_Some}
use Rattle.nm_history.specs.declared.events.Event.{Event}
use Rattle.nm_history.specs.Quiescence.{EachPair, EachRank, Ended, history_of}
use Rattle.nm_types.specs.declared.scripts.Line.{Line}
use Rattle.nm_types.specs.Commands.{commands_of}
use Rattle.nm_types.proofs.ListLemmas.{get_some}
use Rattle.nm_check.specs.Marked.{BreaksTo, BreaksPair}
use Rattle.nm_check_rank.specs.FirstBroken.{IsFirstBroken}
use Rattle.nm_check.specs.CarriedClauses.{KeepsCarried, PairDelivered, StandsBefore, carried_order}
use Rattle.nm_check.specs.declared.between.Break.{Break}
use Rattle.nm_check.proofs.RankLemmas.{UpTo}
use Rattle.nm_check.proofs.TableLemmas.{its_history}

module _ (D : ℕ → ℕ → List Event → List Event → Type 0) (ranks : List Ended) (i j : ℕ) (a : Ended)
    (is : slice_get ranks i ≡ Some a) where
  in_row : (k l : ℕ) (x b : Ended) → slice_get ranks k ≡ Some x → slice_get ranks l ≡ Some b →
      IfSome (slice_get ranks k) (λ y. EachRank (λ l b. D k l y.events b.events) ranks) → D k l x.events b.events
  in_row k l x b is_k is_l row =
      let own : EachRank (λ l b. D k l x.events b.events) ranks =
      subst (λ (o : Option Ended). IfSome o (λ y. EachRank (λ l b. D k l y.events b.events) ranks)) is_k row in
      subst (λ (o : Option Ended). IfSome o (λ b. D k l x.events b.events)) is_l (own l)

  in_last : (k l : ℕ) (x b : Ended) → k ≡ i → l < j → slice_get ranks k ≡ Some x → slice_get ranks l ≡ Some b →
      EachRank (λ l b. l < j → D i l a.events b.events) ranks → D k l x.events b.events
  in_last k l x b same less is_k is_l row =
      let there : slice_get ranks i ≡ Some x = subst (λ (n : ℕ). slice_get ranks n ≡ Some x) same is_k in
      let one : x ≡ a = same_Some x a (sym there ∙ is) in
      let own : l < j → D i l a.events b.events =
      subst (λ (o : Option Ended). IfSome o (λ b. l < j → D i l a.events b.events)) is_l (row l) in
      subst (λ (n : ℕ). D n l x.events b.events) (sym same) (subst (λ (y : Ended). D i l y.events b.events) (sym one)
      (own less))

  pub pairs_earlier : UpTo (λ i a. EachRank (λ j b. D i j a.events b.events) ranks) ranks i →
      EachRank (λ l b. l < j → D i l a.events b.events) ranks →
      EachPair (λ k l hk hl. StandsBefore k l i j → D k l hk hl) ranks
  pairs_earlier below row k = by_sender (slice_get ranks k) refl
    where
      by_receiver : (x : Ended) → slice_get ranks k ≡ Some x → (l : ℕ) (o : Option Ended) → slice_get ranks l ≡ o →
          IfSome o (λ b. StandsBefore k l i j → D k l x.events b.events)
      by_receiver x is_k l None is_l = tt
      by_receiver x is_k l (Some b) is_l = λ before.
          ⊎_elim (λ low. in_row k l x b is_k is_l (below k low)) (λ same. in_last k l x b same.0 same.1 is_k is_l row)
          before

      by_sender : (o : Option Ended) → slice_get ranks k ≡ o →
          IfSome o (λ x. EachRank (λ l b. StandsBefore k l i j → D k l x.events b.events) ranks)
      by_sender None is_k = tt
      by_sender (Some x) is_k = λ l. by_receiver x is_k l (slice_get ranks l) refl

-- the first pair of ranks between which a rule is broken, by the first receiver of a sender
pub breaks_pair : (lines : List Line) (ranks : List Ended) (i j : ℕ) (b : Break) → i < length ranks →
    UpTo (λ i a. EachRank (λ j b. PairDelivered lines i j a.events b.events) ranks) ranks i →
    BreaksTo lines ranks i j b → BreaksPair lines ranks i j b
breaks_pair lines ranks i j b inside below to =
    let own = get_some ranks i inside in
    let history : history_of ranks i ≡ own.0.events =
    ap (λ (o : Option Ended). option_map_or (λ rank. rank.events) o []) own.1 in
    record {
      earlier = pairs_earlier (PairDelivered lines) ranks i j own.0 own.1 below
          (subst (λ (h : List Event). EachRank (λ l b. l < j → PairDelivered lines i l h b.events) ranks) history
          to.earlier);
      first = its_history ranks i (λ h. IsSomeAnd (slice_get ranks j) (λ y. IsFirstBroken
          (KeepsCarried i j (commands_of i lines) (commands_of j lines) h y.events) carried_order b.clause)) inside
          (its_history ranks j (λ g. IsFirstBroken
          (KeepsCarried i j (commands_of i lines) (commands_of j lines) (history_of ranks i) g) carried_order b.clause)
          to.inside to.its.first);
      at = to.its.at;
    }
