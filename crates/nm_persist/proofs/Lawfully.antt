-- A record of a run of a plan's script keeps the promises of the plan's lines.
use Rattle.std.proofs.Common.{◌≡◌, ℕ, ◌/◌, ◌%◌, ◌<◌, true, false, ◌&&◌, ltb, Option, Some, None, List, [], ◌∷◌, ◌++◌}
use Rattle.std.proofs.Common.{length, map}
use Rattle.std.proofs.Common.{refl, sym, ◌∙◌, ap, subst, arith}
use Rattle.std.specs.Prelude.{IfSome, drop, take}
use Rattle.std.specs.List.{AllByRecursion, cons_option, filter_map, slice_get}
use Rattle.std.specs.Option.{option_map_or}
use Rattle.std.proofs.lemmas.Bool.Decides.{nat_tests}
use Rattle.std.proofs.lemmas.List.{map-append, take-append-drop}
use Rattle.nm_types.specs.declared.answers.Answer.{Answer}
use Rattle.nm_types.specs.declared.messages.Peer.TheVariants as peer
use Rattle.nm_types.specs.declared.scripts.Command.{Command}
use Rattle.nm_types.specs.declared.scripts.Command.TheVariants as command
use Rattle.nm_types.specs.Commands.{Numbered, StandAtLines, command_at, commands_of}
use Rattle.nm_types.specs.Limits.{IsScript}
use Rattle.nm_types.specs.Sizes.{Sizes}
use Rattle.nm_history.specs.declared.events.Event.{Event}
use Rattle.nm_history.specs.declared.events.Happened.{Happened}
use Rattle.nm_history.specs.declared.events.Happened.TheVariants as event
use Rattle.nm_history.specs.Quiescence.{EachPair, EachRank, Ended, history_of}
use Rattle.nm_history.specs.RankRun.{IsRankRun, ran_lines}
use Rattle.nm_report.specs.declared.accounts.RankAccount.{RankAccount}
use Rattle.nm_report.specs.declared.records.RunRecord.{RunRecord}
use Rattle.nm_report.specs.Ends.{ends_of}
use Rattle.nm_report.specs.Lawful.{IsRunIn}
use Rattle.nm_report.specs.Told.{Told, told_by}
use Rattle.nm_sure.proofs.Assembled.{Begins, at_in, from_line}
use Rattle.nm_sure.proofs.Rising.{commands_rise}
use Rattle.nm_sure.proofs.Worlds.{IsWithin, line_place}
use Rattle.nm_plans.specs.declared.lines.PlanLine.{PlanLine}
use Rattle.nm_plans.specs.Expansion.{expand, name_of}
use Rattle.nm_persist.specs.Plans.{IsPlan}
use Rattle.nm_persist.specs.Report.{asked_at, asked_behind}
use Rattle.nm_persist.proofs.ReadyLemmas.{plan_script}
use Rattle.nm_persist.specs.Names.{Done, are_apart, is_named}
use Rattle.nm_persist.specs.Promises.{KeepsPromise, answers_of, entries, shown_of}
use Rattle.nm_persist.proofs.Described.{IsDescribed, described}
use Rattle.nm_persist.proofs.Items.{apart_own}
use Rattle.nm_persist.proofs.Kept.{kept_all}
use Rattle.nm_persist.proofs.Owned.{commands_are, own_commands}
use Rattle.nm_persist.proofs.Partnering.{Last}
use Rattle.nm_persist.proofs.Quiet.{NamedRun}
use Rattle.nm_persist.proofs.Tracked.{AreFine, tracked}
use Rattle.nm_persist.proofs.Waited.{owned}
use Rattle.nm_persist.proofs.Walked.{IsWalked, answer_in, answers_in, walked}
use Rattle.nm_types.proofs.ListLemmas.{get_some, get_map, all_at, place_below}
use Rattle.nm_types.proofs.OptionLemmas.{if_some}
use Rattle.nm_types.specs.Bodies.{HaveTheirLength}
use Rattle.nm_sure.proofs.Assembled.{within_range}

low_of : (a b : ℕ) → ltb a b ≡ true → a < b
low_of a b is = grind (arith, nat_tests)

-- the answers that a rank told
told_answers : (h : List Event) → map (λ (t : Told). t.answer) (filter_map (λ (e : Event). told_by e.what) h)
    ≡ answers_in h
told_answers [] = refl
told_answers (e ∷ h) = by_event e.what (told_answers h)
  where
    by_event : (what : Happened) → map (λ (t : Told). t.answer) (filter_map (λ (e : Event). told_by e.what) h)
        ≡ answers_in h →
        map (λ (t : Told). t.answer) (cons_option (told_by what) (filter_map (λ (e : Event). told_by e.what) h))
        ≡ cons_option (answer_in what) (answers_in h)
    by_event (event.Ran line a) later = ap (λ (xs : List Answer). a ∷ xs) later
    by_event what later = later

module _ (shape : Sizes) (lines : List PlanLine) (record' : RunRecord) (stand : StandAtLines) (begins : Begins)
    (lengths : HaveTheirLength)
    (plan : IsPlan shape.ranks lines) (is : IsRunIn shape (expand lines) record') where
  abbrev ranks : List Ended
  ranks = ends_of record'.ranks

  abbrev cs : ℕ → List Numbered
  cs rank = commands_of rank (expand lines)

  fine : AreFine shape.ranks lines
  fine = record { range = plan.lines_in_range; sound = plan.sound }

  script : IsScript shape.ranks (expand lines)
  script = plan_script shape.ranks lines plan

  pair_of_ranks : (R : ℕ → ℕ → List Event → List Event → Type 0) → EachPair R ranks → (i j : ℕ) → i < shape.ranks →
      j < shape.ranks →
      R i j (history_of ranks i) (history_of ranks j)
  pair_of_ranks R each i j inside within =
      let low : i < length ranks = (let n = is.lawful.one_each in omega (arith, inside, n)) in
      let near : j < length ranks = (let n = is.lawful.one_each in omega (arith, within, n)) in
      let a = get_some ranks i low in
      let b = get_some ranks j near in
      let both : R i j a.0.events b.0.events =
      if_some (λ (b : Ended). R i j a.0.events b.events) (slice_get ranks j) b.0 b.1
      (if_some (λ (a : Ended). EachRank (λ j b. R i j a.events b.events) ranks) (slice_get ranks i) a.0 a.1
      (each i) j) in
      subst (λ (h : List Event). R i j h (history_of ranks j))
      (sym (ap (λ (o : Option Ended). option_map_or (λ r. r.events) o []) a.1))
      (subst (λ (h : List Event). R i j a.0.events h)
      (sym (ap (λ (o : Option Ended). option_map_or (λ r. r.events) o []) b.1)) both)

  own_run : (i : ℕ) → IsRankRun shape (cs i) (at_in ranks i) (history_of ranks i)
  own_run i = by_rank (slice_get ranks i) (is.lawful.rank_runs i)
    where
      by_rank : (o : Option Ended) → IfSome o (λ r. IsRankRun shape (cs i) r.at r.events) →
          IsRankRun shape (cs i) (option_map_or (λ r. r.at) o 0) (option_map_or (λ r. r.events) o [])
      by_rank None holds = begins shape (cs i)
      by_rank (Some r) holds = holds

  peers_in : (i l : ℕ) (c : Command) → command_at (cs i) l ≡ Some c → IsWithin shape.ranks c
  peers_in i l c here =
      let place = line_place (cs i) l c here in
      let all = from_line shape.ranks i 2 (expand lines) place.0 place.1 script.lines_in_range place.2 in
      subst (λ (c : Command). IsWithin shape.ranks c) place.4 (within_range shape.ranks place.1.command all.1)

  named_in : (i l : ℕ) (c : Command) → command_at (cs i) l ≡ Some c → is_named c ≡ true
  named_in i l c here =
      let place = line_place (cs i) l c here in
      let told = all_at (λ x. IsDescribed i lines x) (own_commands i (expand lines)) place.0 place.1.command
      (described shape.ranks i lines fine)
      (ap (λ (xs : List Command). slice_get xs place.0) (sym (commands_are i 2 (expand lines)))
      ∙ get_map (λ (c : Numbered). c.command) (cs i) place.0 place.1 place.2) in
      subst (λ (c : Command). is_named c ≡ true) place.4 told.named

  run : NamedRun shape cs (at_in ranks) (history_of ranks)
  run = record {
    own = λ i inside. own_run i;
    carried = λ i j inside within. pair_of_ranks _ is.lawful.delivered i j inside within;
    named = named_in;
    stand = λ i k c here. stand i (expand lines) k c here;
    peers = peers_in;
  }

  apart : (i q : ℕ) → are_apart q false (map (λ (c : Numbered). c.command) (cs i)) ≡ true
  apart i q =
      ap (λ (xs : List Command). are_apart q false xs) (commands_are i 2 (expand lines))
      ∙ subst (λ (q : ℕ). are_apart q false (own_commands i (expand lines)) ≡ true) (name_is q)
      (apart_own (name_of (q / 16) (q % 16)) false (own_commands i (expand lines))
      ∙ (tracked shape.ranks lines fine (record { rank = i; p = q / 16 }) (q % 16) (omega arith)).apart)
    where
      name_is : (q : ℕ) → name_of (q / 16) (q % 16) ≡ q
      name_is q = omega arith

  walk_of : (i : ℕ) (inside : i < shape.ranks) →
      IsWalked shape cs (at_in ranks) (history_of ranks) run lengths i inside (commands_rise i (expand lines))
      (apart i) [] (history_of ranks i) [] (cs i)
  walk_of i inside = walked shape cs (at_in ranks) (history_of ranks) run lengths i inside
      (commands_rise i (expand lines)) (apart i)

  lasts : (i : ℕ) → i < shape.ranks → (ran : List Done) × Last shape lines (at_in ranks) (history_of ranks) run lengths
      fine (λ i. commands_rise i (expand lines)) i ran
  lasts i inside = let w = walk_of i inside in (w.list, (inside, commands_rise i (expand lines), apart i, w.last))

  pub keeps : (rank : ℕ) (account : RankAccount) → slice_get record'.ranks rank ≡ Some account →
      AllByRecursion (KeepsPromise lines rank) (shown_of lines rank account)
  keeps j account here =
      let at' : slice_get ranks j ≡ Some
      (record { at = account.at; waits = account.waits; events = account.history.events }) =
      get_map (λ (r : RankAccount). record { at = r.at; waits = r.waits; events = r.history.events }) record'.ranks j
      account here in
      let inside : j < shape.ranks = (let low = place_below ranks j _ at' in let n = is.lawful.one_each in
      omega (arith, low, n)) in
      let events : history_of ranks j ≡ account.history.events =
      ap (λ (o : Option Ended). option_map_or (λ r. r.events) o []) at' in
      let w = walk_of j inside in
      let told : map (λ (d : Done). d.answer) w.list ≡ answers_of account =
      w.told ∙ ap (λ (h : List Event). answers_in h) events ∙ sym (told_answers account.history.events) in
      let n : ℕ = length (ran_lines (history_of ranks j)) in
      let left : map (λ (d : Done). d.own.command) w.list ++ map (λ (c : Numbered). c.command) (drop n (cs j))
      ≡ own_commands j (expand lines) =
      ap (λ (xs : List Command). xs ++ map (λ (c : Numbered). c.command) (drop n (cs j)))
      (sym (owned w.list) ∙ ap (λ (xs : List Numbered). map (λ (c : Numbered). c.command) xs) w.owned)
      ∙ sym (map-append (λ (c : Numbered). c.command) (take n (cs j)) (drop n (cs j)))
      ∙ ap (λ (xs : List Numbered). map (λ (c : Numbered). c.command) xs) (take-append-drop n (cs j))
      ∙ commands_are j 2 (expand lines) in
      subst (λ (as' : List Answer). AllByRecursion (KeepsPromise lines j)
      (entries (asked_at j (asked_behind [] lines)) [] as')) told
      (kept_all shape lines (at_in ranks) (history_of ranks) run lengths fine (λ i. commands_rise i (expand lines))
      lasts j inside
      (commands_rise j (expand lines)) (apart j) w.list w.begun (λ front back split. w.states front back split)
      (map (λ (c : Numbered). c.command) (drop n (cs j))) left)
