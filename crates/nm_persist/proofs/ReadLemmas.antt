-- Plans are read by their rules: what is spelled is read, what is read is spelled so, and first faults.
use Rattle.std.proofs.Common.{◌≡◌, ℕ, ◌+◌, ◌≤◌, inl, inr, Bool, true, false, ◌&&◌, List, [], ◌∷◌, ◌++◌, length, nat_lt}
use Rattle.std.proofs.Common.{Option, Some, None, Result, Ok, Err, refl, sym, ap, ◌∙◌, arith, codes, decimal}
use Rattle.std.proofs.Common.{append_assoc, length-append, IfOk, IfErr}
use Rattle.std.specs.Prelude.{is_none}
use Rattle.std.proofs.lemmas.Bool.{and_from, and_parts, lt-ltb, ltb-true}
use Rattle.std.proofs.lemmas.List.{append-nil}
use Rattle.std.proofs.lemmas.List.Folds.{flat_map-map, list_all-append}
use Rattle.nm_types.specs.declared.limits.TheConstants.{MAX_RANKS}
use Rattle.nm_script.specs.declared.faults.TextFault.{TextFault}
use Rattle.nm_script.specs.Faults.{GivesAt}
use Rattle.nm_script.specs.TextReading.{AnswersText, IsRefused}
use Rattle.nm_script.specs.TextRules.{IsFaultIn, IsTextIn, ranks_text, text_with}
use Rattle.nm_script.proofs.FirstLineLemmas.{ranks_again, ranks_fault, ranks_kept, ranks_taken}
use Rattle.nm_script.proofs.LineLemmas.{some_joined}
use Rattle.nm_script.proofs.TextLemmas.{ReadsBy, fault_from, faults_from, taken_from, takes_from}
use Rattle.nm_script.proofs.WordLemmas.{joined_printable}
use Rattle.nm_plans.specs.declared.faults.PlanKind.{PlanKind}
use Rattle.nm_plans.specs.declared.faults.PlanKind.TheVariants as kind
use Rattle.nm_plans.specs.declared.lines.PlanLine.{PlanLine}
use Rattle.nm_plans.specs.Grammar.{is_in_range}
use Rattle.nm_plans.specs.Spelled.{IsLine}
use Rattle.nm_plans.specs.Text.{line_text, plan_text, words}
use Rattle.nm_plans.proofs.MakeLemmas.{line_again}
use Rattle.nm_persist.specs.declared.plans.Plan.{Plan}
use Rattle.nm_persist.specs.Plans.{AreReady}
use Rattle.nm_persist.specs.Reading.{parts, plan_reader, read_of}
use Rattle.nm_persist.specs.Rules.{FirstKeeps, IsFirstFault, IsTextOf, plans}
use Rattle.nm_persist.specs.Table.{are_sound, fault_in}
use Rattle.nm_persist.proofs.RuleLemmas.{IsLineAt, line_at_again, line_at_taken, line_fault, line_kept}

pub none_is : (o : Option PlanKind) → o ≡ None → is_none o ≡ true
none_is o h = rw h refl

is_none_none : (o : Option PlanKind) → is_none o ≡ true → o ≡ None
is_none_none None h = refl
is_none_none (Some e) h = cc (h)

-- ---- lines that are ready

and_regrouped : (a b c : Bool) → (a && (b && c)) ≡ ((a && b) && c)
and_regrouped true b c = refl
and_regrouped false b c = refl

-- lines are sound where the first ones are, and the others behind them
sound-append : (ranks : ℕ) (before lines more : List PlanLine) → are_sound ranks before (lines ++ more)
    ≡ (are_sound ranks before lines && are_sound ranks (before ++ lines) more)
sound-append ranks before [] more = ap (λ ls. are_sound ranks ls more) (sym (append-nil before))
sound-append ranks before (line ∷ lines) more =
    ap (λ b. is_none (fault_in ranks before line) && b)
    (sound-append ranks (before ++ line ∷ []) lines more
    ∙ ap (λ ls. are_sound ranks (before ++ line ∷ []) lines && are_sound ranks ls more)
    (append_assoc before (line ∷ []) lines))
    ∙ and_regrouped (is_none (fault_in ranks before line)) (are_sound ranks (before ++ line ∷ []) lines)
    (are_sound ranks (before ++ line ∷ lines) more)

-- lines in front of others
front : (ranks : ℕ) (before after : List PlanLine) → AreReady ranks (before ++ after) → AreReady ranks before
front ranks before after are = record {
  in_range = (and_parts _ _ (sym (list_all-append _ before after) ∙ are.in_range)).0;
  sound = (and_parts _ _ (sym (sound-append ranks [] before after) ∙ are.sound)).0;
}

module _ (ranks : ℕ) (few : ranks ≤ MAX_RANKS) where
  -- the last of these lines
  last_line : (before : List PlanLine) (line : PlanLine) → AreReady ranks (before ++ line ∷ []) →
      IsLine ranks (line_text line) line × (fault_in ranks before line ≡ None)
  last_line before line are =
      let range = (and_parts _ _ (sym (list_all-append _ before (line ∷ [])) ∙ are.in_range)).1 in
      let own = (and_parts (nat_lt line.rank ranks && is_in_range ranks line.command) true range).0 in
      let parts = and_parts (nat_lt line.rank ranks) (is_in_range ranks line.command) own in
      let sound = (and_parts _ _ (sym (sound-append ranks [] before (line ∷ [])) ∙ are.sound)).1 in (
        record { text_is = refl; own = ltb-true line.rank ranks parts.0; range = parts.1 },
        is_none_none (fault_in ranks before line)
            (and_parts (is_none (fault_in ranks before line)) true sound).0,
      )

  one_behind : (before : List PlanLine) (text : List ℕ) (line : PlanLine) → AreReady ranks before →
      IsLineAt ranks few before text line → AreReady ranks (before ++ line ∷ [])
  one_behind before text line are here = record {
    in_range = list_all-append _ before (line ∷ []) ∙ and_from _ _ are.in_range
        (and_from _ _ (and_from _ _ (lt-ltb line.rank ranks here.is.own) here.is.range) refl);
    sound = sound-append ranks [] before (line ∷ []) ∙ and_from _ _ are.sound
        (and_from _ _ (none_is (fault_in ranks before line) here.sound) refl);
  }

pub reads_plans : ReadsBy plans plan_reader
reads_plans = record {
  begins = λ ranks. record { in_range = refl; sound = refl };
  front = front;
  printable = λ ranks before line few are.
      let is = (last_line ranks few before line are).0 in
      joined_printable (decimal line.rank ++ codes ":") (words line.command)
      (line_again ranks few line is.own is.range).1;
  some = λ line. some_joined (decimal line.rank ++ codes ":") (words line.command)
      (omega (arith, length-append (decimal line.rank) (58 ∷ [])));
  again = λ ranks before line few in_lines are.
      let last = last_line ranks few before line are in
      line_at_again ranks few before (line_text line) line
      (record { is = last.0; in_lines = in_lines; sound = last.1 });
  taken = λ ranks before text line few are h.
      let here = line_at_taken ranks few before text line h in
      record {
        text_is = here.is.text_is;
        in_lines = here.in_lines;
        sound = one_behind ranks few before text line are here;
      };
  kept = λ ranks before text line few h.
      let here = line_at_taken ranks few before text line h in
      line_kept ranks few before text line here.is here.in_lines here.sound;
  refused = λ ranks before text e few h. line_fault ranks few before text e h;
  first_taken = ranks_taken kind.NotAscii kind.First;
  first_again = ranks_again kind.NotAscii kind.First;
  first_kept = λ text n is. ranks_kept kind.NotAscii kind.First (FirstKeeps text) text (λ k. k) (λ k. k) n is;
  first_refused = λ text e h.
      ranks_fault kind.NotAscii kind.First (FirstKeeps text) text (λ k. k) (λ k. k) (λ k. k) (λ k. k) e h;
  no_first = inr (refl, inl (refl, λ never. cc (never.3)));
  too_long = refl;
}

-- ---- the text of a plan

ended-plan_lines : (ranks : ℕ) (lines : List PlanLine) → text_with plans ranks lines ≡ plan_text ranks lines
ended-plan_lines ranks lines = ap (λ xs. (ranks_text ranks ++ 10 ∷ []) ++ xs)
    (flat_map-map (λ line. line ++ 10 ∷ []) line_text lines)

-- bytes that spell a plan are a text of its lines, and the other way
spelled_in : (bytes : List ℕ) (ranks : ℕ) (lines : List PlanLine) → IsTextOf bytes ranks lines →
    IsTextIn plans bytes ranks lines
spelled_in bytes ranks lines is =
    let same = ended-plan_lines ranks lines in
    let limits = is.limits in
    record {
      spelled = elim is.spelled [ inl e ↦ inl (e ∙ sym same) | inr e ↦ inr (e ∙ sym same) ];
      some_rank = limits.some_rank;
      few_ranks = limits.few_ranks;
      few_lines = limits.few_lines;
      sound = record { in_range = limits.lines_in_range; sound = limits.sound };
      text_fits = omega (arith, limits.text_fits, ap length same);
    }

pub spelled_of : (bytes : List ℕ) (ranks : ℕ) (lines : List PlanLine) → IsTextIn plans bytes ranks lines →
    IsTextOf bytes ranks lines
spelled_of bytes ranks lines is =
    let same = ended-plan_lines ranks lines in
    record {
      spelled = elim is.spelled [ inl e ↦ inl (e ∙ same) | inr e ↦ inr (e ∙ same) ];
      limits = record {
        some_rank = is.some_rank;
        few_ranks = is.few_ranks;
        few_lines = is.few_lines;
        lines_in_range = is.sound.in_range;
        sound = is.sound.sound;
        text_fits = omega (arith, is.text_fits, ap length same);
      };
    }

-- ---- what `read` promises, from what reading gives

module _ (bytes : List ℕ) (r : Result Plan (TextFault PlanKind)) (gives : GivesAt parts r (read_of bytes)) where
  pub plan_taken : IfOk r (λ plan. IsTextOf bytes plan.ranks plan.lines)
  unfolding read_of
  plan_taken = of_answer r (taken_from plans plan_reader reads_plans parts bytes r gives) where
    of_answer : (r : Result Plan (TextFault PlanKind)) →
        IfOk r (λ plan. IsTextIn plans bytes plan.ranks plan.lines) →
        IfOk r (λ plan. IsTextOf bytes plan.ranks plan.lines)
    of_answer (Ok plan) is = spelled_of bytes plan.ranks plan.lines is
    of_answer (Err e) is = tt

  pub plan_takes : (ranks : ℕ) (lines : List PlanLine) → IsTextOf bytes ranks lines →
      AnswersText parts r ranks lines
  unfolding read_of
  plan_takes ranks lines is =
      takes_from plans plan_reader reads_plans parts bytes r gives ranks lines (spelled_in bytes ranks lines is)

  pub plan_fault : IfErr r (IsFaultIn plans bytes)
  unfolding read_of
  plan_fault = fault_from plans plan_reader reads_plans parts bytes r gives

  pub plan_faults : (number : ℕ) (e : PlanKind) → IsFirstFault bytes number e → IsRefused r number e
  unfolding read_of
  plan_faults = faults_from plans plan_reader reads_plans parts bytes r gives
