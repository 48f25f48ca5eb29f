-- At each event of a rank's run, a start and an answer are those of its next command.
use Rattle.std.proofs.Common.{◌≡◌, inl, inr, ℕ, Bool, true, false, cond, Option, Some, None, List, [], ◌∷◌, ◌++◌}
use Rattle.std.proofs.Common.{length, map, take, drop, refl, sym, ◌∙◌, ap, subst, arith, append-nil, append_assoc}
use Rattle.std.specs.List.{cons_option, filter, slice_get}
use Rattle.std.specs.Option.{option_map_or}
use Rattle.std.proofs.lemmas.Bool.{false≢true}
use Rattle.std.proofs.lemmas.List.{take-append-drop}
use Rattle.std.proofs.lemmas.List.Elements.{filter_map-append}
use Rattle.nm_types.specs.declared.answers.Answer.{Answer}
use Rattle.nm_types.specs.declared.scripts.Command.{Command}
use Rattle.nm_types.specs.declared.scripts.Command.TheVariants as command
use Rattle.nm_types.specs.Commands.{Numbered, command_at}
use Rattle.nm_types.specs.Sizes.{Sizes}
use Rattle.nm_history.specs.declared.events.Event.{Event}
use Rattle.nm_history.specs.declared.events.Happened.{Happened}
use Rattle.nm_history.specs.declared.events.Happened.TheVariants as event
use Rattle.nm_history.specs.AtEach.{AtEach, AtEachAfter}
use Rattle.nm_history.specs.Answers.{Message, is_started, live_message}
use Rattle.nm_history.specs.RankRun.{IsRankRun, StartAt, is_start, ran_lines, ran_of}
use Rattle.nm_history.specs.RankRun.{start_of, starts_since, without_number}
use Rattle.nm_history.specs.Underway.{is_answer}
use Rattle.nm_types.proofs.ListLemmas.{get_before, get_behind, get_from_map}
use Rattle.nm_sure.proofs.Progress.{AtMostOne}
use Rattle.nm_sure.proofs.PlacedLemmas.{starts_grow}
use Rattle.nm_outcomes.specs.Due.{AreAtLines, IsAnswerOf, IsNextCommand, IsStartOf}

-- one more answer, and the command that it is of
pub next_answer : (commands : List Numbered) (at : ℕ) (before after : List Event) (stamp line : ℕ) (answer : Answer) →
    ran_lines (before ++ record { stamp = stamp; what = event.Ran line answer } ∷ after)
    ≡ map (λ c. c.line) (take at commands) → IsAnswerOf commands before line
next_answer commands at before after stamp line answer order =
    let here : slice_get (map (λ (c : Numbered). c.line) (take at commands)) (length (ran_lines before)) ≡ Some line =
    ap (λ (ls : List ℕ). slice_get ls (length (ran_lines before)))
    (sym order ∙ filter_map-append (λ (e : Event). ran_of e.what) before
    (record { stamp = stamp; what = event.Ran line answer } ∷ after))
    ∙ get_behind (ran_lines before) (ran_lines after) line in
    let c = get_from_map (λ (c : Numbered). c.line) (take at commands) (length (ran_lines before)) line here in
    record {
      command = c.0;
      next = ap (λ (cs : List Numbered). slice_get cs (length (ran_lines before))) (sym (take-append-drop at commands))
          ∙ get_before (take at commands) (drop at commands) (length (ran_lines before)) c.0 c.1;
      line_is = c.2;
    }

not_empty : (pre mid : List Happened) (w : Happened) → map without_number (pre ++ w ∷ mid) ≡ [] → ⊥
not_empty [] mid w none = grind arith
not_empty (v ∷ pre) mid w none = grind arith

pub one_only : (pre mid : List Happened) (w : Happened) (ys : List Happened) → AtMostOne ys →
    map without_number (pre ++ w ∷ mid) ≡ ys → (pre ≡ []) × (without_number w ∷ [] ≡ ys)
one_only pre mid w ys (inl none) same = absurd (not_empty pre mid w (same ∙ none))
one_only [] mid w ys (inr one) same =
    let whole : without_number w ∷ map without_number mid ≡ one.0 ∷ [] = same ∙ one.1 in
    let first : without_number w ≡ one.0 = cc in
    (refl, ap (λ (v : Happened). v ∷ []) first ∙ sym one.1)
one_only (v ∷ pre) mid w ys (inr one) same =
    let whole : without_number v ∷ map without_number (pre ++ w ∷ mid) ≡ one.0 ∷ [] = same ∙ one.1 in
    let tail : map without_number (pre ++ w ∷ mid) ≡ [] = cc in
    absurd (not_empty pre mid w tail)

pub few_starts : (eager l : ℕ) (commands : List Numbered) (h : List Event) (c : Command) →
    AtMostOne (start_of eager commands h l c)
few_starts eager l commands h (command.Send to q tag ctx sync body) = inr (_, refl)
few_starts eager l commands h (command.Recv q from tag ctx cap) = inr (_, refl)
few_starts eager l commands h (command.Mrecv q m cap) = by_message (live_message commands h m)
  where
    by_message : (o : Option Message) →
        AtMostOne (option_map_or (λ (message : Message). event.Match 0 message.from message.n cap l ∷ []) o [])
    by_message None = inl refl
    by_message (Some message) = inr (_, refl)
few_starts eager l commands h c = inl refl

-- a send or a posted receive
abbrev pub is_posting : Happened → Bool
is_posting (event.Send to n tag ctx len how line) = true
is_posting (event.Post p line) = true
is_posting _ = false

-- what it is the start of does not hang on the history
pub start_fresh : (eager l : ℕ) (commands : List Numbered) (h before : List Event) (c : Command) (w : Happened) →
    is_posting (without_number w) ≡ true → without_number w ∷ [] ≡ start_of eager commands h l c →
    without_number w ∷ [] ≡ start_of eager commands before l c
start_fresh eager l commands h before (command.Mrecv q m cap) w posting same =
    absurd (by_message (live_message commands h m) same)
  where
    by_message : (o : Option Message) → without_number w ∷ []
        ≡ option_map_or (λ (message : Message). event.Match 0 message.from message.n cap l ∷ []) o [] → ⊥
    by_message None same = grind arith
    by_message (Some message) same =
        let other : without_number w ≡ event.Match 0 message.from message.n cap l = cc in
        false≢true (ap is_posting (sym other) ∙ posting)
start_fresh eager l commands h before (command.Send to q tag ctx sync body) w posting same = same
start_fresh eager l commands h before (command.Recv q from tag ctx cap) w posting same = same
start_fresh eager l commands h before (command.Wait q) w posting same = same
start_fresh eager l commands h before (command.Test q) w posting same = same
start_fresh eager l commands h before (command.Probe from tag ctx) w posting same = same
start_fresh eager l commands h before (command.Await from tag ctx) w posting same = same
start_fresh eager l commands h before (command.Cancel q) w posting same = same
start_fresh eager l commands h before (command.Mprobe m from tag ctx) w posting same = same

ran-push : (h : List Event) (stamp : ℕ) (what : Happened) → is_answer what ≡ false →
    length (ran_lines (h ++ record { stamp = stamp; what = what } ∷ [])) ≡ length (ran_lines h)
ran-push h stamp what none =
    ap (λ (ls : List ℕ). length ls)
    (filter_map-append (λ (e : Event). ran_of e.what) h (record { stamp = stamp; what = what } ∷ [])
    ∙ by_event what none)
  where
    by_event : (what : Happened) → is_answer what ≡ false → ran_lines h ++ cons_option (ran_of what) [] ≡ ran_lines h
    by_event (event.Ran line answer) none = absurd (false≢true (sym none))
    by_event what none = append-nil (ran_lines h)

-- a start that was made before some events, up to the answer of its command
module _ (shape : Sizes) (commands : List Numbered) (at : ℕ) (stand : AreAtLines commands) (before : List Event)
    (w : Happened) (posting : is_posting (without_number w) ≡ true) where
  abbrev Start : Type 0
  Start = (c : Numbered) × IsNextCommand commands before c
      × (without_number w ∷ [] ≡ start_of shape.eager commands before c.line c.command)

  at_answer : (h rest : List Event) (stamp line : ℕ) (answer : Answer) (pre mid : List Happened) →
      length (ran_lines h) ≡ length (ran_lines before) → starts_since h ≡ pre ++ w ∷ mid →
      StartAt shape.eager commands h (event.Ran line answer) →
      ran_lines (h ++ record { stamp = stamp; what = event.Ran line answer } ∷ rest)
      ≡ map (λ c. c.line) (take at commands) → (pre ≡ []) × Start
  at_answer h rest stamp line answer pre mid count starts start order =
      let due = next_answer commands at h rest stamp line answer order in
      let here : command_at commands line ≡ Some due.command.command =
      ap (λ (l : ℕ). command_at commands l) (sym due.line_is) ∙ stand (length (ran_lines h)) due.command due.next in
      let called : map without_number (pre ++ w ∷ mid)
      ≡ cond (is_started answer) (start_of shape.eager commands h line due.command.command) [] =
      ap (λ (ws : List Happened). map without_number ws) (sym starts) ∙ start.0
      ∙ ap (λ (o : Option Command). cond (is_started answer)
      (option_map_or (start_of shape.eager commands h line) o []) []) here in
      by_started due here (is_started answer) called
    where
      by_started : (due : IsAnswerOf commands h line) → command_at commands line ≡ Some due.command.command →
          (b : Bool) → map without_number (pre ++ w ∷ mid)
          ≡ cond b (start_of shape.eager commands h line due.command.command) [] → (pre ≡ []) × Start
      by_started due here false called = absurd (not_empty pre mid w called)
      by_started due here true called =
          let one = one_only pre mid w (start_of shape.eager commands h line due.command.command)
          (few_starts shape.eager line commands h due.command.command) called in (
            one.0,
            (
              due.command,
              ap (λ (k : ℕ). slice_get commands k) (sym count) ∙ due.next,
              subst (λ (l : ℕ). without_number w ∷ [] ≡ start_of shape.eager commands before l due.command.command)
                  (sym due.line_is)
                  (start_fresh shape.eager line commands h before due.command.command w posting one.1),
            ),
          )

  walk : (h rest : List Event) (pre mid : List Happened) → length (ran_lines h) ≡ length (ran_lines before) →
      starts_since h ≡ pre ++ w ∷ mid → AtEachAfter (λ b e. StartAt shape.eager commands b e.what) h rest →
      starts_since (h ++ rest) ≡ [] → ran_lines (h ++ rest) ≡ map (λ c. c.line) (take at commands) →
      (pre ≡ []) × Start
  walk h [] pre mid count starts each none order =
      absurd (not_empty pre mid w (ap (λ (ws : List Happened). map without_number ws)
      (sym starts ∙ ap (λ (k : List Event). starts_since k) (sym (append-nil h)) ∙ none)))
  walk h (e ∷ rest) pre mid count starts each none order =
      by_event e.what e.stamp each.0 order
      (λ count starts. walk (h ++ e ∷ []) rest pre (mid ++ filter is_start (e.what ∷ [])) count starts each.1
      (ap (λ (k : List Event). starts_since k) (append_assoc h (e ∷ []) rest) ∙ none)
      (ap (λ (k : List Event). ran_lines k) (append_assoc h (e ∷ []) rest) ∙ order))
    where
      other : (what : Happened) (stamp : ℕ) → is_answer what ≡ false →
          (length (ran_lines (h ++ record { stamp = stamp; what = what } ∷ [])) ≡ length (ran_lines before) →
          starts_since (h ++ record { stamp = stamp; what = what } ∷ [])
          ≡ pre ++ w ∷ (mid ++ filter is_start (what ∷ [])) → (pre ≡ []) × Start) → (pre ≡ []) × Start
      other what stamp no_answer later =
          later (ran-push h stamp what no_answer ∙ count)
          (starts_grow h stamp what no_answer
          ∙ ap (λ (ws : List Happened). ws ++ filter is_start (what ∷ [])) starts
          ∙ append_assoc pre (w ∷ mid) (filter is_start (what ∷ [])))

      by_event : (what : Happened) (stamp : ℕ) → StartAt shape.eager commands h what →
          ran_lines (h ++ record { stamp = stamp; what = what } ∷ rest) ≡ map (λ c. c.line) (take at commands) →
          (length (ran_lines (h ++ record { stamp = stamp; what = what } ∷ [])) ≡ length (ran_lines before) →
          starts_since (h ++ record { stamp = stamp; what = what } ∷ [])
          ≡ pre ++ w ∷ (mid ++ filter is_start (what ∷ [])) → (pre ≡ []) × Start) → (pre ≡ []) × Start
      by_event (event.Ran line answer) stamp start order later =
          at_answer h rest stamp line answer pre mid count starts start order
      by_event what stamp start order later = other what stamp refl later

-- what follows a front of a history
after_front : (R : List Event → Event → Type 0) (b xs ys : List Event) → AtEachAfter R b (xs ++ ys) →
    AtEachAfter R (b ++ xs) ys
after_front R b [] ys each = subst (λ (k : List Event). AtEachAfter R k ys) (sym (append-nil b)) each
after_front R b (x ∷ xs) ys each =
    subst (λ (k : List Event). AtEachAfter R k ys) (append_assoc b (x ∷ []) xs)
    (after_front R (b ++ x ∷ []) xs ys each.1)

module _ (shape : Sizes) (commands : List Numbered) (at : ℕ) (h : List Event) (stand : AreAtLines commands)
    (run : IsRankRun shape commands at h) where
  pub started : (before : List Event) (stamp : ℕ) (w : Happened) (after : List Event) →
      h ≡ before ++ record { stamp = stamp; what = w } ∷ after → is_posting (without_number w) ≡ true →
      is_answer w ≡ false → filter is_start (w ∷ []) ≡ w ∷ [] → IsStartOf shape.eager commands before w
  unfolding AtEach
  started before stamp w after split posting no_answer counts =
      let e : Event = record { stamp = stamp; what = w } in
      let whole : (before ++ e ∷ []) ++ after ≡ h = append_assoc before (e ∷ []) after ∙ sym split in
      let found = walk shape commands at stand before w posting (before ++ e ∷ []) after (starts_since before) []
      (ran-push before stamp w no_answer)
      (starts_grow before stamp w no_answer ∙ ap (λ (ws : List Happened). starts_since before ++ ws) counts)
      (after_front (λ b e. StartAt shape.eager commands b e.what) [] (before ++ e ∷ []) after
      (subst (λ (k : List Event). AtEachAfter (λ b e. StartAt shape.eager commands b e.what) [] k) (sym whole)
      run.starts.made))
      (ap (λ (k : List Event). starts_since k) whole ∙ run.starts.no_others)
      (ap (λ (k : List Event). ran_lines k) whole ∙ run.answers.in_order) in
      record { command = found.1.0; next = found.1.1; first = found.0; start = found.1.2 }
