use Rattle.std.proofs.Common.{◌≡◌, ◌⊎◌, inl, inr, ℕ, ◌<◌, ◌≤◌, List, length, map, take, arith, refl, sym, ◌∙◌, ap, subst}
use Rattle.std.proofs.lemmas.Bool.{cases_lt}
use Rattle.std.proofs.lemmas.List.{length-take-le, take_all}
use Rattle.nm_history.specs.declared.events.Event.{Event}
use Rattle.nm_history.specs.RankRun.{Always, NumberAt}
use Rattle.nm_check_rank.specs.Breaks.{BreaksFirstAt}
use Rattle.nm_check_rank.specs.Runs.{IsRun, commands_in}
use Rattle.nm_check_rank.specs.Tabled.{AreRankTables}
use Rattle.nm_check_rank.specs.declared.paired.runs.Run.{Run}
use Rattle.nm_check_rank.proofs.BreakLemmas.{not_kept}
use Rattle.nm_check_rank.proofs.paired.judging.judge_rank.Goals as goal

-- a run whose events are the first of all, as many as have right numbers
is_run : (run : Run) (right : ℕ) → run.events.now ≡ take right run.all.now → right ≤ length run.all.now →
    (right < length run.all.now → BreaksFirstAt (Always (NumberAt run.shape.ranks)) run.all.now right) →
    Always (NumberAt run.shape.ranks) run.events.now →
    AreRankTables run.rank run.lines.now run.events.now run.tables.now →
    run.own.now ≡ map (λ c. c.line) (commands_in run) → IsRun run
is_run run right front inside wrong numbers tables own =
    let long : length run.events.now ≡ right =
    ap length front ∙ length-take-le right run.all.now (omega (arith, inside)) in
    record {
      tables = tables;
      own = own;
      numbers = numbers;
      inside = omega (arith, long, inside);
      front = front ∙ ap (λ (n : ℕ). take n run.all.now) (sym long);
      wrong = λ low. subst (λ (n : ℕ). BreaksFirstAt (Always (NumberAt run.shape.ranks)) run.all.now n) (sym long)
          (wrong (omega (arith, long, low)));
    }

-- where all numbers are right these are all events
whole : (ranks right : ℕ) (h : List Event) → (right < length h → BreaksFirstAt (Always (NumberAt ranks)) h right) →
    Always (NumberAt ranks) h → take right h ≡ h
whole ranks right h wrong kept = by_order (cases_lt right (length h))
  where
    by_order : (right < length h) ⊎ (length h ≤ right) → take right h ≡ h
    by_order (inl low) = absurd (not_kept (λ before e. NumberAt ranks before e.what) h right (wrong low) kept)
    by_order (inr over) = take_all right h over

pub of-requires : goal.of-requires
of-requires c = record { numbered = (c.ranks.result, c.first_number-right.ensures.kept) }

pub first_breach-requires : goal.first_breach-requires
first_breach-requires c =
    let right = c.first_number-right in
    is_run _ right.result refl right.ensures.inside (rw c.ranks.ensures.value at right.ensures.broken)
    (rw c.ranks.ensures.value at right.ensures.kept) c.in_ok-tables.ensures
    (c.deref.ensures.value ∙ c.in_ok-own.ensures)

pub broken_rule-clause-requires : goal.broken_rule-clause-requires
broken_rule-clause-requires c =
    let right = c.first_number-right in
    record {
      run = is_run _ right.result refl right.ensures.inside (rw c.ranks.ensures.value at right.ensures.broken)
          (rw c.ranks.ensures.value at right.ensures.kept) c.in_ok-tables.ensures
          (c.deref.ensures.value ∙ c.in_ok-own.ensures);
      broken = c.in-Some.ensures;
    }

pub returns-in-Some : goal.returns-in-Some
returns-in-Some c = (c.broken_rule-clause.ensures, c.in-Some.ensures)

pub returns-in-None : goal.returns-in-None
returns-in-None c =
    let right = c.first_number-right in
    let rank = c.args.rank in (
      c.in-None.ensures,
      subst (λ (g : List Event). AreRankTables rank c.args.lines.now g c.in_ok-tables.tables)
          (whole c.args.shape.ranks right.result c.args.events.now (rw c.ranks.ensures.value at right.ensures.broken)
          c.in-None.ensures.numbers) c.in_ok-tables.ensures,
    )
