-- The rules of a rank's own run, at each event and in the end.
use Rattle.std.proofs.Common.{◌≡◌, ℕ, suc, ◌+◌, ◌<◌, ◌≤◌, Option, Some, None, List, [], ◌∷◌, ◌++◌}
use Rattle.std.proofs.Common.{append-nil, append_assoc, drop, get_or, length, length-append, map, take, refl, sym, ◌∙◌}
use Rattle.std.proofs.Common.{ap, subst, arith}
use Rattle.std.specs.Prelude.{All, IsSomeAnd, slice_get}
use Rattle.std.specs.List.{cons_option}
use Rattle.std.proofs.Math.Seq.{take-append_seam}
use Rattle.std.proofs.lemmas.List.{get_or_default, length-map, length-take-le, take-append-drop, take-map, take_all}
use Rattle.std.proofs.lemmas.List.Elements.{All-get_or}
use Rattle.std.proofs.lemmas.Option.{slice_get_within}
use Rattle.nm_types.specs.Commands.{Numbered}
use Rattle.nm_types.specs.Sizes.{Sizes}
use Rattle.nm_types.proofs.ListLemmas.{get_behind, split_at, take_more}
use Rattle.nm_history.specs.declared.events.Event.{Event}
use Rattle.nm_history.specs.declared.events.Happened.{Happened}
use Rattle.nm_history.specs.declared.events.Happened.TheVariants.{Ran}
use Rattle.nm_history.specs.AtEach.{AtEach}
use Rattle.nm_history.specs.RankRun.{AnswerAt, Answers, IsRankRun, ran_lines, ran_of}
use Rattle.nm_history.proofs.AtEachLemmas.{AtEach-front, AtEach-push, AtEach-split}
use Rattle.nm_history.proofs.DeliveryLemmas.{AtEach-along}
use Rattle.nm_history.proofs.RankRunLemmas.{ran_lines-push}
use Rattle.nm_check_rank.specs.FirstBroken.{IsFirstBroken}
use Rattle.nm_check_rank.specs.OwnBreaks.{BreaksAt, BreaksOf, IsBreachAt, KeepsInTheEnd, KeepsSoFar, NextAt, RuleAt}
use Rattle.nm_check_rank.specs.OwnClauses.{KeepsOwn, own_order}
use Rattle.nm_check_rank.specs.declared.breaks.Break.{Break}
use Rattle.nm_check_rank.specs.declared.breaks.Break.TheVariants.{At, Behind}
use Rattle.nm_check_rank.specs.declared.clauses.OwnClause.{OwnClause}
use Rattle.nm_check_rank.specs.declared.clauses.OwnClause.TheVariants as own
use Rattle.nm_check_rank.specs.declared.paired.dues.Due.{Due}
use Rattle.nm_check_rank.proofs.AgainstLemmas.{holds_at}
use Rattle.nm_check_rank.proofs.ManyLemmas.{same_head}
use Rattle.nm_check_rank.proofs.PushLemmas.{by_pushes}

-- the rules in order are all rules
pub each_rule : (P : OwnClause → Type 0) → All P own_order → (c : OwnClause) → P c
each_rule P all own.Stamps = All-get_or P own_order 0 own.Stamps (omega arith) all
each_rule P all own.Numbers = All-get_or P own_order 1 own.Stamps (omega arith) all
each_rule P all own.Claims = All-get_or P own_order 2 own.Stamps (omega arith) all
each_rule P all own.Starts = All-get_or P own_order 3 own.Stamps (omega arith) all
each_rule P all own.Cancels = All-get_or P own_order 4 own.Stamps (omega arith) all
each_rule P all own.Wholes = All-get_or P own_order 5 own.Stamps (omega arith) all
each_rule P all own.Ends = All-get_or P own_order 6 own.Stamps (omega arith) all
each_rule P all own.Answers = All-get_or P own_order 7 own.Stamps (omega arith) all

module _ {C : Type 0} (Keeps : C → Type 0) (items : List C) (i : ℕ) (other : C) (inside : i < length items) where
  abbrev item : C
  item = get_or items i other

  is_item : item ≡ get_or items i item
  is_item = get_or_default items i other item inside

  -- one rule more that is broken
  pub broken_next : (order : List C) → items ≡ order → All Keeps (take i items) → (Keeps item → ⊥) →
      IsFirstBroken Keeps order item
  broken_next order same kept broken = record {
    earlier = take i items;
    later = drop (i + 1) items;
    split = sym same ∙ split_at items i item inside is_item;
    kept = kept;
    broken = broken;
  }

-- of one rule it is the one that is broken
pub one_broken : {C : Type 0} (Keeps : C → Type 0) (c d : C) → IsFirstBroken Keeps (c ∷ []) d → Keeps c → ⊥
one_broken {C} Keeps c d first kept = by_split first.earlier first.split
  where
    by_split : (earlier : List C) → c ∷ [] ≡ earlier ++ d ∷ first.later → ⊥
    by_split [] same = first.broken (subst Keeps (same_head same) kept)
    by_split (x ∷ xs) same =
        let both : 1 ≡ suc (length (xs ++ d ∷ first.later)) = ap length same in
        let more = length-append xs (d ∷ first.later) in omega (arith, both, more)

-- all of them are kept
pub kept_all : {C : Type 0} (Keeps : C → Type 0) (items order : List C) (i : ℕ) → items ≡ order → length items ≤ i →
    All Keeps (take i items) → All Keeps order
kept_all {C} Keeps items order i is over kept =
    subst (λ (cs : List C). All Keeps cs) (take_all i items over ∙ is) kept

-- the answers
module _ (commands : List Numbered) where
  abbrev own_lines : List ℕ
  own_lines = map (λ c. c.line) commands

  abbrev Next : List Event → Event → Type 0
  Next before e = NextAt commands before e.what

  abbrev Right : List Event → Event → Type 0
  Right before e = AnswerAt commands before e.what

  next_right : (before : List Event) (w : Happened) → NextAt commands before w → AnswerAt commands before w
  next_right before (Ran line answer) next = next.1
  next_right before w next = tt

  lines_more : (h : List Event) (e : Event) (o : Option ℕ) → ran_of e.what ≡ o →
      ran_lines (h ++ e ∷ []) ≡ ran_lines h ++ cons_option o []
  lines_more h e o is = ran_lines-push h e ∙ ap (λ (x : Option ℕ). ran_lines h ++ cons_option x []) is

  -- the commands that ran are the first ones
  abbrev Front : List Event → Type 0
  Front h = (length (ran_lines h) ≤ length own_lines) × (ran_lines h ≡ take (length (ran_lines h)) own_lines)

  front_same : (h : List Event) (e : Event) → ran_of e.what ≡ None → Front h → Front (h ++ e ∷ [])
  front_same h e none front =
      let same : ran_lines (h ++ e ∷ []) ≡ ran_lines h = lines_more h e None none ∙ append-nil (ran_lines h) in
      subst (λ (ls : List ℕ). (length ls ≤ length own_lines) × (ls ≡ take (length ls) own_lines)) (sym same) front

  front_step : (h : List Event) (e : Event) (w : Happened) → e.what ≡ w → Front h → NextAt commands h w →
      Front (h ++ e ∷ [])
  front_step h e (Ran line answer) is front next =
      let n = length (ran_lines h) in
      let lines : ran_lines (h ++ e ∷ []) ≡ ran_lines h ++ line ∷ [] = lines_more h e (Some line) (ap ran_of is) in
      let inside : n < length own_lines = slice_get_within own_lines n line next.0 in
      let count : length (ran_lines (h ++ e ∷ [])) ≡ n + 1 = ap length lines ∙ length-append (ran_lines h)
      (line ∷ []) in
      let same : suc n ≡ length (ran_lines (h ++ e ∷ [])) = omega (arith, count) in (
        omega (arith, count, inside),
        lines ∙ ap (λ (ls : List ℕ). ls ++ line ∷ []) front.1 ∙ sym (take_more own_lines n line next.0)
            ∙ ap (λ (m : ℕ). take m own_lines) same,
      )
  front_step h e w is front next = front_same h e (ap ran_of is) front

  fronts : (h : List Event) → AtEach Next h → Front h
  fronts h = by_pushes (λ g. AtEach Next g → Front g)
      (λ g e before each. front_step g e e.what refl (before (AtEach-front Next g e each))
      (AtEach-split Next g e [] each))
      (λ each. (omega arith, refl)) h

  pub answers_of : (h : List Event) → AtEach Next h → Answers commands (length (ran_lines h)) h
  answers_of h each =
      let front = fronts h each in
      let few = front.0 in
      let lengths : length own_lines ≡ length commands = length-map commands (λ (c : Numbered). c.line) in
      record {
        few = omega (arith, few, lengths);
        in_order = front.1 ∙ take-map (λ (c : Numbered). c.line) (length (ran_lines h)) commands;
        right = AtEach-along Next Right h (λ before e next. next_right before e.what next) each;
      }

  -- .. and so each is the next one
  abbrev NextOf : List Event → Type 0
  NextOf h = (n : ℕ) → n ≤ length own_lines → ran_lines h ≡ take n own_lines → AtEach Right h → AtEach Next h

  next_step : (h : List Event) (e : Event) (w : Happened) → e.what ≡ w → NextOf h → NextOf (h ++ e ∷ [])
  next_step h e (Ran line answer) is before n few lines each =
      let m = length (ran_lines h) in
      let all : ran_lines h ++ line ∷ [] ≡ take n own_lines =
      sym (lines_more h e (Some line) (ap ran_of is)) ∙ lines in
      let whole : own_lines ≡ ran_lines h ++ line ∷ drop n own_lines =
      sym (take-append-drop n own_lines) ∙ ap (λ (ls : List ℕ). ls ++ drop n own_lines) (sym all)
      ∙ append_assoc (ran_lines h) (line ∷ []) (drop n own_lines) in
      let next : slice_get own_lines m ≡ Some line =
      subst (λ (ls : List ℕ). slice_get ls m ≡ Some line) (sym whole)
      (get_behind (ran_lines h) (drop n own_lines) line) in
      let inside : m < length own_lines = slice_get_within own_lines m line next in
      let front : ran_lines h ≡ take m own_lines =
      sym (ap (λ (ls : List ℕ). take m ls) whole ∙ take-append_seam (ran_lines h) (line ∷ drop n own_lines)) in
      let right : AnswerAt commands h (Ran line answer) =
      subst (λ (w : Happened). AnswerAt commands h w) is (AtEach-split Right h e [] each) in
      AtEach-push Next h e (before m (omega (arith, inside)) front (AtEach-front Right h e each))
      (subst (λ (w : Happened). NextAt commands h w) (sym is) (next, right))
  next_step h e w is before n few lines each =
      AtEach-push Next h e
      (before n few (sym (append-nil (ran_lines h)) ∙ sym (lines_more h e None (ap ran_of is)) ∙ lines)
      (AtEach-front Right h e each)) (subst (λ (w : Happened). NextAt commands h w) (sym is) tt)

  pub next_of : (at : ℕ) (h : List Event) → Answers commands at h → AtEach Next h
  unfolding AtEach
  next_of at h answers =
      let few = answers.few in
      let lengths : length own_lines ≡ length commands = length-map commands (λ (c : Numbered). c.line) in
      by_pushes NextOf (λ g e. next_step g e e.what refl) (λ n few lines each. each) h at (omega (arith, few, lengths))
      (answers.in_order ∙ sym (take-map (λ (c : Numbered). c.line) at commands)) answers.right

  pub ran_of_answers : (at : ℕ) (h : List Event) → Answers commands at h → at ≡ length (ran_lines h)
  ran_of_answers at h answers =
      sym (ap length answers.in_order ∙ length-map (take at commands) (λ (c : Numbered). c.line)
      ∙ length-take-le at commands answers.few)

-- a rule is kept where each event keeps it, and the end
module _ (shape : Sizes) (commands : List Numbered) (at : ℕ) (h : List Event) where
  pub whole_of : (c : OwnClause) → KeepsSoFar shape commands c h → KeepsInTheEnd at c h →
      KeepsOwn shape commands at h c
  whole_of own.Answers so end = subst (λ (n : ℕ). Answers commands n h) (sym end) (answers_of commands h so)
  whole_of own.Starts so end = record { made = so; no_others = end }
  whole_of own.Cancels so end = record { made = so; no_others = end }
  whole_of own.Claims so end = record { made = so; no_others = end }
  whole_of c so end = so

  pub so_far_of : (c : OwnClause) → KeepsOwn shape commands at h c → KeepsSoFar shape commands c h
  so_far_of own.Answers whole = next_of commands at h whole
  so_far_of own.Starts whole = whole.made
  so_far_of own.Cancels whole = whole.made
  so_far_of own.Claims whole = whole.made
  so_far_of c whole = whole

  pub end_of : (c : OwnClause) → KeepsOwn shape commands at h c → KeepsInTheEnd at c h
  end_of own.Answers whole = ran_of_answers commands at h whole
  end_of own.Starts whole = whole.no_others
  end_of own.Cancels whole = whole.no_others
  end_of own.Claims whole = whole.no_others
  end_of c whole = tt

  -- .. all of them are those of a run
  pub run_of : ((c : OwnClause) → KeepsOwn shape commands at h c) → IsRankRun shape commands at h
  run_of whole = record {
    answers = whole own.Answers;
    starts = whole own.Starts;
    numbers = whole own.Numbers;
    cancels = whole own.Cancels;
    wholes = whole own.Wholes;
    ends = whole own.Ends;
    stamps = whole own.Stamps;
    claims = whole own.Claims;
  }

-- a rank that breaks a rule somewhere does not keep all rules
module _ (shape : Sizes) (commands : List Numbered) (at : ℕ) (h : List Event) where
  at_event : (c : OwnClause) (k : ℕ) (e : Event) → slice_get h k ≡ Some e →
      IsFirstBroken (λ d. RuleAt shape commands d (take k h) e) own_order c →
      ((d : OwnClause) → KeepsOwn shape commands at h d) → ⊥
  at_event c k e here first whole =
      first.broken (holds_at (λ before e. RuleAt shape commands c before e) h k e here
      (so_far_of shape commands at h c (whole c)))

  pub one_stands : (c d : OwnClause) (due : Due) (k : ℕ) (o : Option Event) → slice_get h k ≡ o →
      IsSomeAnd o (λ e. BreaksOf shape commands (c ∷ []) (take k h) e d due) → KeepsOwn shape commands at h c → ⊥
  one_stands c d due k None here some whole = some
  one_stands c d due k (Some e) here some whole =
      one_broken (λ d. RuleAt shape commands d (take k h) e) c d some.0
      (holds_at (λ before e. RuleAt shape commands c before e) h k e here (so_far_of shape commands at h c whole))

  pub breach_breaks : (c : OwnClause) (due : Option Due) (b : Break) → IsBreachAt shape commands at h c due b →
      ((d : OwnClause) → KeepsOwn shape commands at h d) → ⊥
  breach_breaks c due (At k) breach whole = by_event (slice_get h k) refl due breach.1
    where
      by_event : (o : Option Event) → slice_get h k ≡ o → (due : Option Due) →
          IsSomeAnd o (λ e. IsSomeAnd due (BreaksAt shape commands (take k h) e c)) → ⊥
      by_event None here due some = some
      by_event (Some e) here None some = some
      by_event (Some e) here (Some d) some = at_event c k e here some.0 whole
  breach_breaks c due Behind breach whole = breach.1.broken (end_of shape commands at h c (whole c))
