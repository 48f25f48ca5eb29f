use Rattle.std.proofs.Common.{◌≡◌, drop, false, length, map, replicate}
use Rattle.nm_chart.specs.PartWords.{choose}
use Rattle.nm_chart.proofs.words.ranks.choose.Given as goal

-- those that were looked at are chosen
abbrev pub invariant-loop-word : goal.invariant-loop-word
invariant-loop-word l =
    record {
      many : length l.chosen ≡ 256;
      so_far : choose (map (λ word. word.now) (drop l.word-index l.words)) l.chosen
          ≡ choose (map (λ word. word.now) l.words) (replicate 256 false);
    }
