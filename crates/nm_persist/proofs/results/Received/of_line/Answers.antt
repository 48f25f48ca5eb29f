-- One part more.
use Rattle.std.proofs.Common.{◌≡◌, ℕ, ◌+◌, ◌∙◌, ◌∷◌, [], ◌++◌, List, Option, sym, ap, subst, map, arith, option_copied}
use Rattle.std.specs.List.{range_with_len}
use Rattle.std.proofs.lemmas.List.FromFn.{map-range_with_len_more}
use Rattle.nm_types.specs.declared.answers.Answer.{Answer}
use Rattle.nm_persist.specs.Report.{last_result}
use Rattle.nm_persist.specs.Results.{IsReceived}
use Rattle.nm_persist.proofs.results.Received.of_line.Goals as goal

pub loop-k-preserved : goal.loop-k-preserved
loop-k-preserved c = record {
  received = λ before are.
      let k = c.loop-k.k in
      let f : ℕ → Option Answer = λ k. last_result before (c.args.asked.now.name + k) in
      let so_far = map f (range_with_len 0 k) in
      let part : option_copied c.get.result ≡ f k =
      c.get.ensures ∙ are.each (c.from.result + c.from-in-loop-k.result)
      ∙ ap (last_result before) (omega (arith, c.from.ensures, c.from-in-loop-k.ensures)) in
      let all : so_far ++ option_copied c.get.result ∷ [] ≡ map f (range_with_len 0 (k + 1)) =
      ap (λ (o : Option Answer). so_far ++ o ∷ []) part ∙ sym (map-range_with_len_more f 0 k k (omega arith)) in
      subst (λ (parts : List (Option Answer)). IsReceived parts c.add.new.self) all
      (c.in_ok-add.ensures.received so_far (c.loop-k.invariant.received before are));
  lost = omega (arith, c.in_ok-add.ensures.lost, c.loop-k.invariant.lost);
}
