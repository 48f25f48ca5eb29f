-- Handles, and the lines that ran. MPI 3.1, 3.8.2, 3.8.3.
use Rattle.std.proofs.Common.{◌≡◌, ℕ, zero, suc, ◌==◌, ◌&&◌, ◌||◌, Bool, true, false, cond, Option, Some, None}
use Rattle.std.proofs.Common.{List, [], ◌∷◌, ◌++◌, length, map, take, refl, sym, ◌∙◌, ap, subst, arith}
use Rattle.std.specs.Prelude.{option_and_then, option_map}
use Rattle.std.specs.List.{cons_option, filter_map, find, list_any, slice_get}
use Rattle.std.specs.Option.{option_map_or}
use Rattle.std.proofs.lemmas.Bool.{false≢true}
use Rattle.std.proofs.lemmas.List.Elements.{filter_map-append}
use Rattle.std.proofs.lemmas.List.Folds.{list_any-append}
use Rattle.std.proofs.lemmas.List.Sums.{fold_push}
use Rattle.nm_types.specs.declared.answers.Answer.{Answer}
use Rattle.nm_types.specs.declared.messages.Arrival.{Arrival}
use Rattle.nm_types.specs.declared.scripts.Line.{Line}
use Rattle.nm_types.specs.Commands.{Numbered, command_at, commands_of}
use Rattle.nm_types.proofs.ListLemmas.{take_more}
use Rattle.nm_types.proofs.NumberLemmas.{eq_true, same_number}
use Rattle.nm_types.proofs.OptionLemmas.{no_some, same_some}
use Rattle.nm_types.proofs.TruthLemmas.{not_true, or_left, or_right}
use Rattle.nm_history.specs.declared.events.Event.{Event}
use Rattle.nm_history.specs.declared.events.Happened.{Happened}
use Rattle.nm_history.specs.declared.events.Happened.TheVariants as event
use Rattle.nm_history.specs.Answers.{Message as claimed, claim_at, claim_line_after, is_claim_for, is_receive_of}
use Rattle.nm_history.specs.Answers.{is_seen}
use Rattle.nm_history.specs.Answers.{is_started, line_of_handle, message_claimed}
use Rattle.nm_history.specs.RankRun.{Answers, ran_lines, ran_of}
use Rattle.nm_history.proofs.AtEachLemmas.{AtEach-from_splits}
use Rattle.nm_history.proofs.RankRunLemmas.{ran_lines-push}
use Rattle.nm_outcomes.specs.Moves.{message_now}
use Rattle.nm_outcomes.specs.Places.{IsPlaceOf, RankPoint}
use Rattle.nm_outcomes.proofs.HappenedLemmas.{history_induction}
use Rattle.nm_lawful.specs.declared.messages.Claim.{Claim}
use Rattle.nm_lawful.specs.Ranks.{handle_lem}
use Rattle.nm_runs_lawful.specs.Stands.{claim_by, claimed_at, handle_of, is_matched_now, rank_of}
use Rattle.nm_runs_lawful.proofs.AlikeLemmas.{claim_of}
use Rattle.nm_runs_lawful.proofs.LiveLemmas.{find_step}
use Rattle.nm_runs_lawful.proofs.ToldLemmas.{IsRising, first_rise, lines_rise, once}

-- the first of a list are the first of what it is made of
front_of : (cs : List Numbered) (n : ℕ) (xs ys : List ℕ) → xs ++ ys ≡ map (λ (c : Numbered). c.line) (take n cs) →
    xs ≡ map (λ (c : Numbered). c.line) (take (length xs) cs)
front_of cs n [] ys is = refl
front_of cs zero (x ∷ xs) ys is = absurd (grind arith)
front_of [] (suc n) (x ∷ xs) ys is = absurd (grind arith)
front_of (c ∷ cs) (suc n) (x ∷ xs) ys is =
    let first : x ≡ c.line = cc in
    let rest : xs ++ ys ≡ map (λ (c : Numbered). c.line) (take n cs) = cc in
    ap (λ (l : ℕ). l ∷ xs) first ∙ ap (λ (ls : List ℕ). c.line ∷ ls) (front_of cs n xs ys rest)

mapped_last : (cs : List Numbered) (c : Numbered) →
    map (λ (c : Numbered). c.line) (cs ++ c ∷ []) ≡ map (λ (c : Numbered). c.line) cs ++ c.line ∷ []
mapped_last [] c = refl
mapped_last (d ∷ cs) c = ap (λ (ls : List ℕ). d.line ∷ ls) (mapped_last cs c)

-- the line of the next command did not run
pub not_yet : (rank : ℕ) (lines : List Line) (at : ℕ) (h b t : List Event) (c : Numbered) →
    Answers (commands_of rank lines) at h → h ≡ b ++ t →
    slice_get (commands_of rank lines) (length (ran_lines b)) ≡ Some c →
    list_any (λ l. l == c.line) (ran_lines b) ≡ false
not_yet rank lines at h b t c answers split next =
    let commands = commands_of rank lines in
    let k = length (ran_lines b) in
    let ran : ran_lines b ≡ map (λ (c : Numbered). c.line) (take k commands) =
    front_of commands at (ran_lines b) (ran_lines t)
    (sym (ap ran_lines split ∙ filter_map-append (λ (e : Event). ran_of e.what) b t) ∙ answers.in_order) in
    let rise : IsRising 2 (ran_lines b ++ c.line ∷ []) =
    subst (λ (ls : List ℕ). IsRising 2 ls)
    (ap (λ (cs : List Numbered). map (λ (c : Numbered). c.line) cs) (take_more commands k c next)
    ∙ mapped_last (take k commands) c ∙ ap (λ (ls : List ℕ). ls ++ c.line ∷ []) (sym ran))
    (first_rise 2 (suc k) commands (lines_rise rank 2 lines)) in
    (once 2 c.line (ran_lines b) [] rise).1

-- a handle stands for a line that ran
pub handle_ran : (commands : List Numbered) (m : ℕ) (h : List Event) (line : ℕ) →
    line_of_handle commands h m ≡ Some line → list_any (λ l. l == line) (ran_lines h) ≡ true
handle_ran commands m h =
    history_induction (λ b e. Unit {0})
    (λ h. (line : ℕ) → line_of_handle commands h m ≡ Some line → list_any (λ l. l == line) (ran_lines h) ≡ true)
    (λ h e was any line stands. grow h e was line
    (sym (fold_push (λ (o : Option ℕ) (e : Event). claim_line_after commands m o e.what) None h e) ∙ stands))
    (λ line none. absurd (no_some line none)) h (AtEach-from_splits (λ b e. Unit {0}) h (λ b e t split. tt))
  where
    kept : (h : List Event) (e : Event) (line : ℕ) → list_any (λ l. l == line) (ran_lines h) ≡ true →
        list_any (λ l. l == line) (ran_lines (h ++ e ∷ [])) ≡ true
    kept h e line was =
        ap (λ (ls : List ℕ). list_any (λ l. l == line) ls) (ran_lines-push h e)
        ∙ list_any-append (λ l. l == line) (ran_lines h) (cons_option (ran_of e.what) [])
        ∙ or_left (list_any (λ l. l == line) (ran_lines h)) _ was

    grow : (h : List Event) (e : Event) →
        ((line : ℕ) → line_of_handle commands h m ≡ Some line → list_any (λ l. l == line) (ran_lines h) ≡ true) →
        (line : ℕ) → claim_line_after commands m (line_of_handle commands h m) e.what ≡ Some line →
        list_any (λ l. l == line) (ran_lines (h ++ e ∷ [])) ≡ true
    grow h e was line stands = by_event e.what refl stands
      where
        now : (ran : ℕ) (a : Answer) → e.what ≡ event.Ran ran a → ran ≡ line →
            list_any (λ l. l == line) (ran_lines (h ++ e ∷ [])) ≡ true
        now ran a is same =
            ap (λ (ls : List ℕ). list_any (λ l. l == line) ls) (ran_lines-push h e)
            ∙ list_any-append (λ l. l == line) (ran_lines h) (cons_option (ran_of e.what) [])
            ∙ or_right (list_any (λ l. l == line) (ran_lines h)) _
            (ap (λ (what : Happened). list_any (λ l. l == line) (cons_option (ran_of what) [])) is
            ∙ ap (λ (b : Bool). b || false) (eq_true ran line same))

        by_end : (b : Bool) → cond b None (line_of_handle commands h m) ≡ Some line →
            list_any (λ l. l == line) (ran_lines (h ++ e ∷ [])) ≡ true
        by_end true stands = absurd (no_some line stands)
        by_end false stands = kept h e line (was line stands)

        by_claim : (ran : ℕ) (a : Answer) → e.what ≡ event.Ran ran a → (b : Bool) →
            cond b (Some ran)
            (cond (option_map_or (is_receive_of m) (command_at commands ran) false && is_started a) None
            (line_of_handle commands h m)) ≡ Some line →
            list_any (λ l. l == line) (ran_lines (h ++ e ∷ [])) ≡ true
        by_claim ran a is true stands = now ran a is (same_some ran line stands)
        by_claim ran a is false stands =
            by_end (option_map_or (is_receive_of m) (command_at commands ran) false && is_started a) stands

        by_event : (what : Happened) → e.what ≡ what →
            claim_line_after commands m (line_of_handle commands h m) what ≡ Some line →
            list_any (λ l. l == line) (ran_lines (h ++ e ∷ [])) ≡ true
        by_event (event.Ran ran a) is stands =
            by_claim ran a is (option_map_or (is_claim_for m) (command_at commands ran) false && is_seen a) stands
        by_event (event.Send to n tag ctx len how own) is stands = kept h e line (was line stands)
        by_event (event.Post p own) is stands = kept h e line (was line stands)
        by_event (event.Arrive a) is stands = kept h e line (was line stands)
        by_event (event.Whole from n) is stands = kept h e line (was line stands)
        by_event (event.Out to n) is stands = kept h e line (was line stands)
        by_event (event.Cancel number done) is stands = kept h e line (was line stands)
        by_event (event.Recall to n) is stands = kept h e line (was line stands)
        by_event (event.Withdraw from n done) is stands = kept h e line (was line stands)
        by_event (event.Undone to n done) is stands = kept h e line (was line stands)
        by_event (event.Claim from n own) is stands = kept h e line (was line stands)
        by_event (event.Match number from n room own) is stands = kept h e line (was line stands)

-- a handle has no message in the machine where it has none in the rank
module _ (commands : List Numbered) (w : ℕ → RankPoint) (i m : ℕ) where
  abbrev pub held : List Event → Option Claim
  held h = find (λ (c : Claim). c.m == m) (filter_map (λ (e : Event). claim_by commands w i e.what) h)

  -- a claim whose line the handle does not stand for
  pub other_handle : (what : Happened) (c : Claim) → claim_by commands w i what ≡ Some c →
      option_and_then (λ l. message_claimed l what) ((w i).handled m) ≡ None → (c.m == m) ≡ false
  other_handle (event.Claim from n line) c is none =
      by_handle (option_and_then handle_of (command_at commands line)) is
    where
      by_stands : (o : Option ℕ) → option_map_or (λ l. l == line) o false ≡ true →
          option_and_then (λ l. message_claimed l (event.Claim from n line)) o ≡ None → ⊥
      by_stands None stands none = false≢true stands
      by_stands (Some l) stands none =
          no_some (record { from = from; n = n })
          (sym none ∙ ap (λ (b : Bool). cond b (Some (record { from = from; n = n })) None)
          (eq_true line l (sym (same_number l line stands))))

      by_known : (name : ℕ) (o : Option Arrival) → option_map (λ (a : Arrival). claim_of w i name a) o ≡ Some c →
          c.m ≡ name
      by_known name None is = absurd (no_some c is)
      by_known name (Some a) is = ap (λ (c : Claim). c.m) (sym (same_some (claim_of w i name a) c is))

      by_claimed : (name : ℕ) (b : Bool) →
          cond b None (option_map (λ (a : Arrival). claim_of w i name a) ((w i).known from n)) ≡ Some c → c.m ≡ name
      by_claimed name true is = absurd (no_some c is)
      by_claimed name false is = by_known name ((w i).known from n) is

      by_live : (name : ℕ) (b : Bool) → option_map_or (λ l. l == line) ((w i).handled name) false ≡ b →
          cond b (claimed_at w i name from n) None ≡ Some c →
          (c.m == m) ≡ false
      by_live name true stands is =
          not_true (c.m == m) (λ same. by_stands ((w i).handled m)
          (ap (λ (x : ℕ). option_map_or (λ l. l == line) ((w i).handled x) false)
          (sym (same_number c.m m same) ∙ by_claimed name (is_matched_now (w i) from n) is) ∙ stands) none)
      by_live name false stands is = absurd (no_some c is)

      by_handle : (o : Option ℕ) →
          option_and_then (λ (name : ℕ). cond (option_map_or (λ l. l == line) ((w i).handled name) false)
          (claimed_at w i name from n) None) o ≡ Some c →
          (c.m == m) ≡ false
      by_handle None is = absurd (no_some c is)
      by_handle (Some name) is = by_live name (option_map_or (λ l. l == line) ((w i).handled name) false) refl is
  other_handle (event.Send to n tag ctx len how own) c is none = absurd (no_some c is)
  other_handle (event.Post p own) c is none = absurd (no_some c is)
  other_handle (event.Arrive a) c is none = absurd (no_some c is)
  other_handle (event.Whole from n) c is none = absurd (no_some c is)
  other_handle (event.Out to n) c is none = absurd (no_some c is)
  other_handle (event.Cancel number done) c is none = absurd (no_some c is)
  other_handle (event.Recall to n) c is none = absurd (no_some c is)
  other_handle (event.Withdraw from n done) c is none = absurd (no_some c is)
  other_handle (event.Undone to n done) c is none = absurd (no_some c is)
  other_handle (event.Match number from n room own) c is none = absurd (no_some c is)
  other_handle (event.Ran own a) c is none = absurd (no_some c is)

  none_held : (o : Option ℕ) → (w i).handled m ≡ o → (h : List Event) → option_and_then (claim_at h) o ≡ None →
      held h ≡ None
  none_held o stands [] none = refl
  none_held None stands (e ∷ h) none =
      find_step (λ (c : Claim). c.m == m) (claim_by commands w i e.what)
      (filter_map (λ (e : Event). claim_by commands w i e.what) h)
      (λ c is. other_handle e.what c is (ap (λ (o : Option ℕ). option_and_then (λ l. message_claimed l e.what) o)
      stands))
      ∙ none_held None stands h refl
  none_held (Some l) stands (e ∷ h) none =
      let two = by_claim (message_claimed l e.what) refl none in
      find_step (λ (c : Claim). c.m == m) (claim_by commands w i e.what)
      (filter_map (λ (e : Event). claim_by commands w i e.what) h)
      (λ c is. other_handle e.what c is
      (ap (λ (o : Option ℕ). option_and_then (λ l. message_claimed l e.what) o) stands ∙ two.0))
      ∙ none_held (Some l) stands h two.1
    where
      by_claim : (o : Option claimed) → message_claimed l e.what ≡ o →
          slice_get (cons_option o (filter_map (λ (e : Event). message_claimed l e.what) h)) 0 ≡ None →
          (message_claimed l e.what ≡ None) × (claim_at h l ≡ None)
      by_claim None is none = (is, none)
      by_claim (Some x) is none = absurd (no_some x (sym none))

pub no_message : (lines : List Line) (w : ℕ → RankPoint) (f : ℕ → List Event) (i : ℕ) →
    IsPlaceOf i (commands_of i lines) (f i) (w i) → (m : ℕ) → message_now (w i) m ≡ None →
    handle_lem (rank_of lines w f i) m ≡ None
no_message lines w f i are m none = by_handle ((w i).handled m) refl none
  where
    by_handle : (o : Option ℕ) → (w i).handled m ≡ o → option_and_then (w i).claims o ≡ None →
        handle_lem (rank_of lines w f i) m ≡ None
    by_handle None stands none = none_held (commands_of i lines) w i m None stands (f i) refl
    by_handle (Some l) stands none =
        none_held (commands_of i lines) w i m (Some l) stands (f i) (sym (are.claims l) ∙ none)
