-- A rank's whole run: the commands that ran with their answers, and what is known behind each of them.
use Rattle.std.proofs.Common.{◌≡◌, ℕ, ◌+◌, ◌<◌, true, false, Option, Some, None}
use Rattle.std.proofs.Common.{List, [], ◌∷◌, ◌++◌, length, map, refl, sym, ◌∙◌, ap, subst, arith, append-nil}
use Rattle.std.proofs.Common.{append_assoc, length-take-le}
use Rattle.std.specs.Prelude.{take}
use Rattle.std.specs.List.{AllByRecursion, cons_option, filter_map, slice_get}
use Rattle.std.proofs.lemmas.Bool.{false≢true}
use Rattle.std.proofs.lemmas.List.{length-map, map-append}
use Rattle.nm_types.specs.declared.answers.Answer.{Answer}
use Rattle.nm_types.specs.Commands.{Numbered, command_at}
use Rattle.nm_types.specs.Sizes.{Sizes}
use Rattle.nm_types.specs.Bodies.{HaveTheirLength}
use Rattle.nm_history.specs.declared.events.Event.{Event}
use Rattle.nm_history.specs.declared.events.Happened.{Happened}
use Rattle.nm_history.specs.declared.events.Happened.TheVariants as event
use Rattle.nm_history.specs.AtEach.{AtEach, AtEachAfter}
use Rattle.nm_history.specs.Answers.{is_started}
use Rattle.nm_history.specs.RankRun.{AnswerAt, StartAt, ran_lines, ran_of}
use Rattle.nm_history.specs.Underway.{is_answer}
use Rattle.nm_sure.proofs.Fronts.{answered, started_so}
use Rattle.nm_sure.proofs.Lists.{place_behind}
use Rattle.nm_sure.proofs.Rising.{Rising}
use Rattle.nm_persist.specs.Names.{Done, are_apart}
use Rattle.nm_persist.proofs.Quiet.{NamedRun}
use Rattle.nm_persist.proofs.LinesRead.{starts_one}
use Rattle.nm_persist.proofs.States.{State, owns, state_answer, state_none, state_other, taken}

-- the answer of an event
abbrev pub answer_in : Happened → Option Answer
answer_in (event.Ran line a) = Some a
answer_in _ = None

abbrev pub answers_in : List Event → List Answer
answers_in h = filter_map (λ e. answer_in e.what) h

module _ (shape : Sizes) (cs : ℕ → List Numbered) (at : ℕ → ℕ) (hist : ℕ → List Event) (run : NamedRun shape cs at hist)
    (lengths : HaveTheirLength) (j : ℕ) (inside : j < shape.ranks) (rising : Rising 2 (cs j))
    (apart : (q : ℕ) → are_apart q false (map (λ c. c.command) (cs j)) ≡ true) where
  abbrev pub Known : List Event → List Done → Type 0
  Known b ran = State shape cs at hist run lengths j inside rising apart b ran

  -- what is known behind each command of those that are left
  pub record IsWalked (b rest : List Event) (ran : List Done) (more : List Numbered) : Type 0 where
    pub list : List Done
    pub owned : owns list ≡ take (length (ran_lines rest)) more
    pub told : map (λ d. d.answer) list ≡ answers_in rest
    pub begun : AllByRecursion (λ (d : Done). starts_one d.own.command ≡ true → is_started d.answer ≡ true) list
    pub states : (front back : List Done) → list ≡ front ++ back → (h : List Event) × Known h (ran ++ front)
    pub last : Known (b ++ rest) (ran ++ list)

  walk_none : (b : List Event) (ran : List Done) (more : List Numbered) → Known b ran → IsWalked b [] ran more
  walk_none b ran more known = record {
    list = [];
    owned = refl;
    told = refl;
    begun = tt;
    states = λ front back split. first front back split;
    last = subst (λ (h : List Event). Known h (ran ++ [])) (sym (append-nil b))
        (subst (λ (r : List Done). Known b r) (sym (append-nil ran)) known);
  }
    where
      first : (front back : List Done) → [] ≡ front ++ back → (h : List Event) × Known h (ran ++ front)
      first [] back split = (b, subst (λ (r : List Done). Known b r) (sym (append-nil ran)) known)
      first (d ∷ front) back split = absurd (grind (arith, split))

  -- an event more that is no answer
  walk_other : (b : List Event) (e : Event) (events : List Event) (ran : List Done) (more : List Numbered) →
      is_answer e.what ≡ false → IsWalked (b ++ e ∷ []) events ran more → IsWalked b (e ∷ events) ran more
  walk_other b e events ran more silent w = record {
    list = w.list;
    owned = w.owned ∙ ap (λ (n : ℕ). take n more)
        (ap (λ (ls : List ℕ). length ls)
        (sym (ap (λ (o : Option ℕ). cons_option o (ran_lines events)) (no_line e.what silent))));
    told = w.told ∙ sym (ap (λ (o : Option Answer). cons_option o (answers_in events)) (no_answer e.what silent));
    begun = w.begun;
    states = w.states;
    last = subst (λ (h : List Event). Known h (ran ++ w.list)) (append_assoc b (e ∷ []) events) w.last;
  }
    where
      no_line : (what : Happened) → is_answer what ≡ false → ran_of what ≡ None
      no_line (event.Ran line a) silent = absurd (false≢true (sym silent))
      no_line what silent = refl

      no_answer : (what : Happened) → is_answer what ≡ false → answer_in what ≡ None
      no_answer (event.Ran line a) silent = absurd (false≢true (sym silent))
      no_answer what silent = refl

  walk_answer : (b : List Event) (e : Event) (events : List Event) (ran : List Done) (c : Numbered) (a : Answer)
      (line : ℕ) (more : List Numbered) →
      e.what ≡ event.Ran line a → Known b ran → (starts_one c.command ≡ true → is_started a ≡ true) →
      IsWalked (b ++ e ∷ []) events (ran ++ record { own = c; answer = a } ∷ []) more → IsWalked b (e ∷ events) ran
      (c ∷ more)
  walk_answer b e events ran c a line more what known taking w = record {
    list = d ∷ w.list;
    owned = ap (λ (xs : List Numbered). c ∷ xs) w.owned
        ∙ sym (ap (λ (o : Option ℕ). take (length (cons_option o (ran_lines events))) (c ∷ more))
        (ap (λ (w : Happened). ran_of w) what));
    told = ap (λ (xs : List Answer). a ∷ xs) w.told
        ∙ sym (ap (λ (o : Option Answer). cons_option o (answers_in events)) (ap (λ (w : Happened). answer_in w) what));
    begun = (taking, w.begun);
    states = at_front;
    last = subst (λ (h : List Event). Known h (ran ++ d ∷ w.list)) (append_assoc b (e ∷ []) events)
        (subst (λ (r : List Done). Known ((b ++ e ∷ []) ++ events) r) (append_assoc ran (d ∷ []) w.list) w.last);
  }
    where
      d : Done
      d = record { own = c; answer = a }

      at_front : (front back : List Done) → d ∷ w.list ≡ front ++ back → (h : List Event) × Known h (ran ++ front)
      at_front [] back split = (b, subst (λ (r : List Done). Known b r) (sym (append-nil ran)) known)
      at_front (x ∷ front) back split =
          let first : d ≡ x = cc in
          let others : w.list ≡ front ++ back = cc in
          let found = w.states front back others in (
            found.0,
            subst (λ (y : Done). Known found.0 (ran ++ y ∷ front)) first
                (subst (λ (r : List Done). Known found.0 r) (append_assoc ran (d ∷ []) front) found.1),
          )

  walk : (b rest : List Event) (ran : List Done) (more : List Numbered) → hist j ≡ b ++ rest →
      cs j ≡ owns ran ++ more → Known b ran →
      AtEachAfter (λ b e. AnswerAt (cs j) b e.what) b rest → AtEachAfter (λ b e. StartAt shape.eager (cs j) b e.what)
      b rest →
      ran_lines rest ≡ map (λ c. c.line) (take (length (ran_lines rest)) more) → IsWalked b rest ran more
  walk b [] ran more whole cut known answers starts told = walk_none b ran more known
  walk b (e ∷ events) ran more whole cut known answers starts told =
      at_event e.what refl more cut told
      (λ ran' more' cut' known' told'. walk (b ++ e ∷ []) events ran' more'
      (whole ∙ sym (append_assoc b (e ∷ []) events)) cut' known'
      answers.1 starts.1 told')
    where
      at_event : (what : Happened) → e.what ≡ what → (more : List Numbered) → cs j ≡ owns ran ++ more →
          cons_option (ran_of what) (ran_lines events) ≡ map (λ c. c.line)
          (take (length (cons_option (ran_of what) (ran_lines events))) more) →
          ((ran' : List Done) (more' : List Numbered) → cs j ≡ owns ran' ++ more' → Known (b ++ e ∷ []) ran' →
          ran_lines events ≡ map (λ c. c.line) (take (length (ran_lines events)) more') →
          IsWalked (b ++ e ∷ []) events ran' more') →
          IsWalked b (e ∷ events) ran more
      at_event (event.Ran line a) what [] cut told later = absurd (grind arith)
      at_event (event.Ran line a) what (c ∷ more) cut told later =
          let here : line ≡ c.line = cc in
          let ahead : ran_lines events ≡ map (λ c. c.line) (take (length (ran_lines events)) more) = cc in
          let d : Done = record { own = c; answer = a } in
          let now : e.what ≡ event.Ran c.line a = what ∙ ap (λ (l : ℕ). event.Ran l a) here in
          let at_line : command_at (cs j) c.line ≡ Some c.command =
          run.stand j (length (owns ran) + 0) c (ap (λ (xs : List Numbered). slice_get xs (length (owns ran) + 0)) cut
          ∙ place_behind (owns ran) (c ∷ more) 0) in
          let right = answered (cs j) b c.line a c.command
          (subst (λ (w : Happened). AnswerAt (cs j) b w) now answers.0) at_line in
          let began = started_so shape.eager (cs j) b c.line a c.command
          (subst (λ (w : Happened). StartAt shape.eager (cs j) b w) now starts.0) at_line in
          let next : Known (b ++ e ∷ []) (ran ++ d ∷ []) =
          subst (λ (w : Happened). Known (b ++ record { stamp = e.stamp; what = w } ∷ []) (ran ++ d ∷ [])) (sym now)
          (state_answer shape cs at hist run lengths j inside rising apart b ran known e events c a more whole now cut
          right began) in
          walk_answer b e events ran c a line more what known
          (taken shape cs at hist run lengths j inside rising apart b ran known e events c a more whole now cut right
          began)
          (later (ran ++ d ∷ []) more
          (cut ∙ sym (append_assoc (owns ran) (c ∷ []) more) ∙ ap (λ (xs : List Numbered). xs ++ more)
          (sym (map-append (λ (d : Done). d.own) ran (d ∷ []))))
          next ahead)
      at_event w what more cut told later =
          let silent : is_answer e.what ≡ false = ap (λ (w : Happened). is_answer w) what in
          walk_other b e events ran more silent
          (later ran more cut (state_other shape cs at hist run lengths j inside rising apart b ran e.stamp e.what
          silent known) told)

  in_order : ran_lines (hist j) ≡ map (λ c. c.line) (take (length (ran_lines (hist j))) (cs j))
  in_order =
      let answers = (run.own j inside).answers in
      let counted : length (ran_lines (hist j)) ≡ at j =
      ap (λ (ls : List ℕ). length ls) answers.in_order ∙ length-map (take (at j) (cs j)) (λ c. c.line)
      ∙ length-take-le (at j) (cs j) answers.few in
      rw counted answers.in_order

  -- the whole run of the rank
  pub walked : IsWalked [] (hist j) [] (cs j)
  unfolding AtEach
  walked =
      walk [] (hist j) [] (cs j) refl refl (state_none shape cs at hist run lengths j inside rising apart)
      (run.own j inside).answers.right (run.own j inside).starts.made in_order
