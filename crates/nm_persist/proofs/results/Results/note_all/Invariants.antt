use Rattle.std.proofs.Common.{◌≡◌, ℕ, ◌+◌, map, drop}
use Rattle.std.specs.Prelude.{fold}
use Rattle.nm_persist.specs.Report.{named_from, result_behind}
use Rattle.nm_persist.specs.Results.{found}
use Rattle.nm_persist.proofs.results.Results.note_all.Given as goal

-- what was taken and what is still to take are all
abbrev pub invariant-loop-answer : goal.invariant-loop-answer
invariant-loop-answer l = record {
  next : l.next ≡ l.fn.name + l.answer-index;
  each : (n : ℕ)
      → fold (result_behind n) (found l.self.map n)
      (named_from l.next (map (λ a. a.now) (drop l.answer-index l.answers)))
      ≡ fold (result_behind n) (found l.fn.self.map n) (named_from l.fn.name (map (λ a. a.now) l.answers));
}
