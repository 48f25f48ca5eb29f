-- One program more, or one that gave a command that never ran.
use Rattle.std.proofs.Common.{◌≡◌, ◌≢◌, ℕ, ◌∷◌, [], ◌++◌, false, Option, Some, None, List, length, refl, ap, subst, sym, ◌∙◌, arith}
use Rattle.std.proofs.Common.{append-nil}
use Rattle.std.specs.Prelude.{IfSome, option_to_list}
use Rattle.std.specs.Option.{option_or}
use Rattle.std.specs.List.{slice_get}
use Rattle.std.specs.Vec.Iter.{into_iter_items}
use Rattle.nm_types.specs.declared.answers.Answer.{Answer}
use Rattle.nm_types.specs.declared.scripts.Command.{Command}
use Rattle.nm_process.specs.Playing.{AllInRange, GivenView, HasPlayed, IsCounted, NeverRuns}
use Rattle.nm_programs.specs.Turns.{HasStray, IsLeft}
use Rattle.nm_programs.proofs.SoFar.{counted, next_is, one_more}
use Rattle.nm_programs.proofs.running.finish.Goals as goal

-- there are fewer than 256
pub overflow_cast-rank : goal.overflow_cast-rank
overflow_cast-rank g c =
    let rest = into_iter_items c.loop-source.source-iterator in
    let split = ap length c.in-Some.ensures.steps.0 in
    let many = counted (IsLeft g.P.Program.says) c.args.sources.items rest c.loop-source.ranks.items
    c.loop-source.invariant in
    let few = c.requires.few in
    let len = c.len-rank.ensures in
    let ok = c.loop-source.ranks.ok.0 in
    omega (arith, split, many, few, len, ok)

-- what a source with a command that never runs was told and gave
strayed : {P : Type 0} (says : P → Option Answer → Option Command → P → Type 0) (sources : List (GivenView P))
    (g : GivenView P) (rank : ℕ) (x : Command) → slice_get sources rank ≡ Some g → g.stray ≡ Some x →
    IfSome g.stray (NeverRuns g.ranks g.at) → (g.failed ≡ false → (start : P) → g.start ≡ start ∷ [] →
    HasPlayed says start g.told g.program (option_or g.stray g.next) (g.given ++ option_to_list g.stray)) →
    HasStray says sources rank x
strayed {P} says sources g rank x is stray never played = record {
  source = g;
  is = is;
  never = subst (λ (o : Option Command). IfSome o (NeverRuns g.ranks g.at)) stray never;
  played = λ works start begins. subst (λ (o : Option Command). HasPlayed says start g.told g.program
      (option_or o g.next) (g.given ++ option_to_list o)) stray (played works start begins);
}

-- what another source was told and gave
left_so : {P : Type 0} (says : P → Option Answer → Option Command → P → Type 0) (g : GivenView P) (q : P)
    (next : Option Command) → q ≡ g.program → next ≡ g.next → g.stray ≡ None → IsCounted g.given g.next g.at →
    AllInRange g.ranks g.given → (g.failed ≡ false → (start : P) → g.start ≡ start ∷ [] →
    HasPlayed says start g.told g.program (option_or g.stray g.next) (g.given ++ option_to_list g.stray)) →
    IsLeft says g (record { program = q; waits = next })
left_so {P} says g q next program waits stray counts in_range played = record {
  waits = waits;
  counted = subst (λ (o : Option Command). IsCounted g.given o g.at) (sym waits) counts;
  in_range = in_range;
  played = λ works start begins.
      let told = subst (λ (o : Option Command). HasPlayed says start g.told g.program (option_or o g.next)
      (g.given ++ option_to_list o)) stray (played works start begins) in
      subst (λ (o : Option Command). HasPlayed says start g.told q o g.given) (sym waits)
      (subst (λ (r : P). HasPlayed says start g.told r g.next g.given) (sym program)
      (subst (λ (xs : List Command). HasPlayed says start g.told g.program g.next xs) (append-nil g.given) told));
}

none_is : (o : Option Command) → ((x : Command) → o ≢ Some x) → o ≡ None
none_is None other = refl
none_is (Some x) other = absurd (other x refl)

pub returns-in-Some-stray-clause-stray : goal.returns-in-Some-stray-clause-stray
returns-in-Some-stray-clause-stray g c =
    let rest = into_iter_items c.loop-source.source-iterator in
    let parts = c.into_parts-program.ensures in
    let len = c.len-rank.ensures in
    let ok = c.loop-source.ranks.ok.0 in
    let place : c.len-rank.result ≡ length c.loop-source.ranks.items = omega (arith, len, ok) in
    strayed g.P.Program.says c.args.sources.items c.in-Some.source c.len-rank.result c.in-Some-stray.command
    (next_is (IsLeft g.P.Program.says) c.args.sources.items rest (into_iter_items c.next.new.self)
    c.loop-source.ranks.items c.in-Some.source c.len-rank.result place c.in-Some.ensures.steps.0
    c.loop-source.invariant) (sym parts.left.2 ∙ c.in-Some-stray.is) parts.stray parts.played

pub loop-source-preserved : goal.loop-source-preserved
loop-source-preserved g c =
    let parts = c.into_parts-program.ensures in
    let played = c.into_parts-program.result in
    one_more (IsLeft g.P.Program.says) c.args.sources.items (into_iter_items c.loop-source.source-iterator)
    (into_iter_items c.next.new.self) c.loop-source.ranks.items c.add.new.list.items c.in-Some.source
    (record { program = played.program; waits = played.next }) c.in-Some.ensures.steps.0 c.in_ok-add.ensures
    c.loop-source.invariant (left_so g.P.Program.says c.in-Some.source played.program played.next parts.left.0
    parts.left.1 (sym parts.left.2 ∙ none_is played.stray c.in_default.not-Some) parts.counted parts.in_range
    parts.played)
