use Rattle.std.proofs.Common.{◌≡◌, ℕ, List, [], length, replicate, sym, ◌∙◌, ap}
use Rattle.std.proofs.lemmas.List.{length-replicate}
use Rattle.nm_types.specs.Sizes.{Sizes}
use Rattle.nm_rndv.specs.Grants.{Granted}
use Rattle.nm_receiving.specs.declared.receipts.Receipt.{Receipt}
use Rattle.nm_receiving.specs.Receipts.{ReceivingView}
use Rattle.nm_receiving.specs.Steps.{streams_of}
use Rattle.nm_receiving.proofs.Beginning.{IsEmpty, kept-none, no_grants, no_streams, none_drawn}
use Rattle.nm_receiving.proofs.Beginning.{received-none, streams_length}
use Rattle.nm_receiving.proofs.CameLemmas.{came-none}
use Rattle.nm_receiving.proofs.receivings.Receiving.with_capacity.Goals as goal
use Rattle.nm_receiving.proofs.receivings.Receiving.with_capacity.Goals.{After-new-4}

abbrev made : After-new-4 → ReceivingView
made c =
    record {
      sizes = c.in_ok-new.field-0.sizes;
      deeds = c.new-4.result;
      streams = streams_of c.in_ok-new.field-0;
      grants = c.in_ok-new-2.field-0.grants;
      receipts = c.in_ok-new-3.field-0.rows;
      receives = c.in_ok-with_capacity.field-0.items;
      drawn = c.in_ok-vec.field-0.items;
    }

is_empty : (c : After-new-4) → IsEmpty (made c)
is_empty c =
    let n : ℕ = c.in_ok-new.field-0.sizes.ranks in
    let ranks : c.ranks-ranks.result ≡ n =
    c.ranks-ranks.ensures.value ∙ ap (λ (s : Sizes). s.ranks) (sym c.in_ok-new.ensures.shape) in
    record {
      deeds = c.new-4.ensures;
      streams = no_streams c.in_ok-new.field-0 c.in_ok-new.ensures.empty;
      streams' = streams_length c.in_ok-new.field-0;
      grants = c.in_ok-new-2.ensures ∙ ap (λ (k : ℕ). let ys : List (List (ℕ × Granted)) = replicate k [] in ys) ranks;
      receipts = c.in_ok-new-3.ensures ∙ ap (λ (k : ℕ). let ys : List (List Receipt) = replicate k [] in ys) ranks;
      receives = c.in_ok-with_capacity.ensures;
      drawn = c.in_ok-vec.ensures.items_if_clones_equal (λ y is. is)
          ∙ ap (λ (k : ℕ). let ys : List ℕ = replicate k 0 in ys) ranks;
    }

pub invariant_of-result : goal.invariant_of-result
invariant_of-result c = kept-none (made c) (is_empty c)

pub returns : goal.returns
returns c =
    let empty = is_empty c in
    record {
      sizes = c.in_ok-new.ensures.shape;
      none = received-none (made c) empty;
      streams = empty.streams;
      pieces = none_drawn (made c) empty;
      bytes = came-none (made c) empty.streams (no_grants (made c) empty);
      receives = empty.receives;
      drawn = ap length empty.drawn ∙ length-replicate (made c).sizes.ranks 0
          ∙ ap (λ (s : Sizes). s.ranks) c.in_ok-new.ensures.shape;
    }
