-- Lines behind lines: what their requests, ends and script are with one line more.
use Rattle.std.proofs.Common.{◌≡◌, ℕ, true, false, ◌&&◌, List, [], ◌∷◌, ◌++◌, None, nat_lt}
use Rattle.std.proofs.Common.{refl, sym, ap, ◌∙◌, append_assoc, subst, ◌+◌, ◌<◌}
use Rattle.std.proofs.lemmas.Bool.{and_from}
use Rattle.std.proofs.lemmas.List.Folds.{list_all-append}
use Rattle.indexmap.specs.IndexMap.{get}
use Rattle.nm_persist.specs.declared.drafts.Draft.{Draft}
use Rattle.nm_persist.specs.Drafts.{IsDraft}
use Rattle.nm_plans.specs.Grammar.{is_in_range}
use Rattle.nm_persist.specs.Sizes.{IsSizeOf}
use Rattle.std.specs.Prelude.{is_none}
use Rattle.std.proofs.Math.Bool.{and-true, and_assoc}
use Rattle.std.proofs.lemmas.List.{append-nil}
use Rattle.nm_plans.specs.declared.requests.ends.End.{End}
use Rattle.nm_plans.specs.declared.lines.PlanLine.{PlanLine}
use Rattle.nm_plans.specs.declared.requests.requests.Owner.{Owner}
use Rattle.nm_plans.specs.Ends.{parts_at, parts_behind, same_end}
use Rattle.nm_plans.specs.Expansion.{expand}
use Rattle.nm_plans.specs.PlanRequests.{request_at, request_behind, same_owner}
use Rattle.nm_plans.proofs.RequestLemmas.{parts_at-more, request_at-more}
use Rattle.nm_persist.specs.Table.{are_sound, fault_in, has_other_parts, is_out_of_order, is_past, is_taken}

-- lines and one more are sound where the lines are and the one more has no fault
are_sound-more_behind : (ranks : ℕ) (before lines : List PlanLine) (line : PlanLine)
    → are_sound ranks before (lines ++ line ∷ [])
    ≡ (are_sound ranks before lines && is_none (fault_in ranks (before ++ lines) line))
are_sound-more_behind ranks before [] line =
    and-true (is_none (fault_in ranks before line))
    ∙ ap (λ bs. is_none (fault_in ranks bs line)) (sym (append-nil before))
are_sound-more_behind ranks before (first ∷ lines) line =
    let here = is_none (fault_in ranks before first) in
    let others = are_sound ranks (before ++ first ∷ []) lines in
    ap (λ b. here && b) (are_sound-more_behind ranks (before ++ first ∷ []) lines line)
    ∙ sym (and_assoc here others
    (is_none (fault_in ranks ((before ++ first ∷ []) ++ lines) line)))
    ∙ ap (λ bs. here && others && is_none (fault_in ranks bs line)) (append_assoc before (first ∷ []) lines)

pub are_sound-more : (ranks : ℕ) (lines : List PlanLine) (line : PlanLine)
    → are_sound ranks [] (lines ++ line ∷ []) ≡ (are_sound ranks [] lines && is_none (fault_in ranks lines line))
are_sound-more ranks lines line = are_sound-more_behind ranks [] lines line

-- ---- drafts

module _ (d : Draft) where
  pub empty_draft : d.lines ≡ [] → ((owner : Owner) → get same_owner d.requests.map owner ≡ None)
      → ((e : End) → get same_end d.ends.map e ≡ None) → IsSizeOf d.size d.ranks [] → IsDraft d
  unfolding request_at parts_at expand
  empty_draft none requests ends size = record {
    in_range = rw none refl;
    sound = rw none refl;
    requests = record { each = λ owner. requests owner ∙ ap (λ ls. request_at ls owner) (sym none) };
    ends = record { each = λ e. ends e ∙ ap (λ ls. parts_at ls e) (sym none) };
    size = subst (λ ls. IsSizeOf d.size d.ranks (expand ls)) (sym none) size;
  }

  -- with one line more, which has no fault
  pub draft_more : (old : Draft) (line : PlanLine) → IsDraft old → d.ranks ≡ old.ranks
      → d.lines ≡ old.lines ++ line ∷ []
      → ((owner : Owner) → get same_owner d.requests.map owner
      ≡ request_behind owner (get same_owner old.requests.map owner) line)
      → ((e : End) → get same_end d.ends.map e ≡ parts_behind e (get same_end old.ends.map e) line)
      → IsSizeOf d.size old.ranks (expand (old.lines ++ line ∷ []))
      → (nat_lt line.rank old.ranks && is_in_range old.ranks line.command) ≡ true
      → fault_in old.ranks old.lines line ≡ None → IsDraft d
  draft_more old line is ranks lines requests ends size here none = record {
    in_range = rw (ranks, lines) (list_all-append
        (λ (line : PlanLine). nat_lt line.rank old.ranks && is_in_range old.ranks line.command) old.lines (line ∷ [])
        ∙ and_from _ _ is.in_range (and_from _ _ here refl));
    sound = rw (ranks, lines) (are_sound-more old.ranks old.lines line
        ∙ and_from _ _ is.sound (ap is_none none));
    requests = record {
      each = λ owner. requests owner ∙ ap (λ r. request_behind owner r line) (is.requests.each owner)
          ∙ sym (request_at-more old.lines line owner) ∙ ap (λ ls. request_at ls owner) (sym lines);
    };
    ends = record {
      each = λ e. ends e ∙ ap (λ r. parts_behind e r line) (is.ends.each e)
          ∙ sym (parts_at-more old.lines line e) ∙ ap (λ ls. parts_at ls e) (sym lines);
    };
    size = rw (ranks, lines) size;
  }

-- no fault, where no test finds one
pub none_of : (ranks : ℕ) (before : List PlanLine) (line : PlanLine) → is_taken before line ≡ false
    → has_other_parts before line ≡ false → is_out_of_order before line ≡ false → is_past ranks before line ≡ false
    → fault_in ranks before line ≡ None
none_of ranks before line a b d e = rw (a, b, d, e) refl
