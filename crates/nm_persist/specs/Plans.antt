-- The limits that a plan keeps, and what bytes spell.
use Rattle.std.specs.Prelude.{◌≡◌, ℕ, ◌≤◌, ◌<◌, true, ◌&&◌, nat_lt, IsTrue, List, [], length}
use Rattle.std.specs.List.{list_all}
use Rattle.nm_types.specs.declared.limits.TheConstants.{MAX_RANKS, MAX_LINES, MAX_TEXT}
use Rattle.nm_plans.specs.declared.lines.PlanLine.{PlanLine}
use Rattle.nm_plans.specs.Grammar.{is_in_range}
use Rattle.nm_persist.specs.Table.{are_sound}
use Rattle.nm_plans.specs.Text.{plan_text}

-- the limits of a plan
pub record IsPlan (ranks : ℕ) (lines : List PlanLine) : Type 0 where
  pub some_rank : 1 ≤ ranks
  pub few_ranks : ranks ≤ MAX_RANKS
  pub few_lines : length lines < MAX_LINES
  pub lines_in_range :
      IsTrue (list_all (λ line. nat_lt line.rank ranks && is_in_range ranks line.command) lines)
  pub sound : IsTrue (are_sound ranks [] lines)
  pub text_fits : length (plan_text ranks lines) ≤ MAX_TEXT

-- lines in range, none of which has a fault behind those before it
pub record AreReady (ranks : ℕ) (lines : List PlanLine) : Type 0 where
  pub in_range : list_all (λ line. nat_lt line.rank ranks && is_in_range ranks line.command) lines ≡ true
  pub sound : are_sound ranks [] lines ≡ true
