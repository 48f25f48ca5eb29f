-- At each front of a rank's run of plain commands, its names and its starts are those of the commands
-- that ran so far.
use Rattle.std.proofs.Common.{◌≡◌, ℕ, ◌==◌, Bool, true, false, not, ◌&&◌, ◌||◌, cond, Option, Some, None}
use Rattle.std.proofs.Common.{List, [], ◌∷◌, ◌++◌, length, map, refl, sym, ◌∙◌, ap, subst, arith, ◌⊎◌, inl, inr}
use Rattle.std.proofs.Common.{append-nil, append_assoc}
use Rattle.std.specs.Prelude.{is_some, is_none}
use Rattle.std.specs.List.{filter, filter_map, cons_option, fold, list_any, slice_get}
use Rattle.std.specs.Option.{option_map_or}
use Rattle.std.proofs.lemmas.Bool.{false≢true}
use Rattle.nm_types.specs.declared.answers.Answer.{Answer}
use Rattle.nm_types.specs.declared.scripts.Command.{Command}
use Rattle.nm_types.specs.declared.scripts.Command.TheVariants as command
use Rattle.nm_types.specs.Commands.{Numbered, command_at}
use Rattle.nm_history.specs.declared.events.Event.{Event}
use Rattle.nm_history.specs.declared.events.Happened.{Happened}
use Rattle.nm_history.specs.declared.events.Happened.TheVariants as event
use Rattle.nm_history.specs.Answers.{answer_of, is_started, live, request_at, request_of, without_bytes}
use Rattle.nm_history.specs.Completion.{Request}
use Rattle.nm_history.specs.Completion.Request.{Sending, Receiving}
use Rattle.nm_history.proofs.OnceLemmas.{eqb_self}
use Rattle.nm_history.specs.RankRun.{is_start, ran_lines, ran_of, since_after, since_command, start_of}
use Rattle.nm_history.specs.RankRun.{AnswerAt, StartAt, starts_since}
use Rattle.nm_history.specs.AtEach.{AtEachAfter}
use Rattle.std.specs.Prelude.{IsSomeAnd, suc, take}
use Rattle.nm_history.specs.Answers.{line_of_name}
use Rattle.nm_history.proofs.AnswerLemmas.{line-push, line_kept}
use Rattle.std.proofs.lemmas.List.Elements.{filter_map-append}
use Rattle.std.proofs.lemmas.List.Sums.{fold_push}
use Rattle.std.proofs.Common.{length-append}
use Rattle.nm_history.specs.RankRun.{without_number}
use Rattle.nm_history.specs.Underway.{is_answer}
use Rattle.nm_history.proofs.RankRunLemmas.{since-push}
use Rattle.nm_sure.specs.Names.{holder, holder_by, is_taken, started_name}
use Rattle.nm_sure.specs.Placed.{Placed, at_place, placed_at, placed_from, placed_of}
use Rattle.nm_sure.specs.Plain.{is_plain}
use Rattle.nm_sure.proofs.Named.{IsNamed, is_live, names_told, request_lasts, started_fact}
use Rattle.nm_sure.proofs.PlacedLemmas.{IsPlacedSo, placed-answer, placed-push}
use Rattle.nm_types.proofs.NumberLemmas.{same_number}
use Rattle.nm_history.proofs.RankRunLemmas.{no_answer}

-- something of these asks for the request of a line
abbrev asks : ℕ → List Happened → Bool
asks l ws = list_any (λ w. is_some (request_of l w)) ws

abbrev has : ℕ → List Event → Bool
has l h = list_any (λ e. is_some (request_of l e.what)) h

either : (a b c : Bool) → ((a || b) || c) ≡ true → (a || (b || c)) ≡ true
either true b c h = refl
either false b c h = h

asked-push : (l : ℕ) (ws : List Happened) (w : Happened) →
    asks l (ws ++ w ∷ []) ≡ (asks l ws || is_some (request_of l w))
asked-push l [] w = or_false (is_some (request_of l w))
  where
    or_false : (b : Bool) → (b || false) ≡ b
    or_false true = refl
    or_false false = refl
asked-push l (v ∷ ws) w = both (is_some (request_of l v)) (asks l ws) (is_some (request_of l w)) (asked-push l ws w)
  where
    both : (a b c : Bool) → asks l (ws ++ w ∷ []) ≡ (b || c) → (a || asks l (ws ++ w ∷ [])) ≡ ((a || b) || c)
    both true b c same = refl
    both false b c same = same

since_grown : (l : ℕ) (since : List Happened) (w : Happened) → asks l (since_after since w) ≡ true →
    (asks l since || is_some (request_of l w)) ≡ true
since_grown l since (event.Ran line answer) some = absurd (false≢true some)
since_grown l since w some = sym (asked-push l since w) ∙ some

last : (a b : Bool) → (a || (b || true)) ≡ true
last true b = refl
last false true = refl
last false false = refl

-- what stands since the last answer stands in the history
since_from : (l : ℕ) (since : List Happened) (h : List Event) →
    asks l (fold (λ since e. since_after since e.what) since h) ≡ true → (asks l since || has l h) ≡ true
since_from l since [] some = rw some refl
since_from l since (e ∷ h) some =
    first (asks l (since_after since e.what)) refl (since_from l (since_after since e.what) h some)
  where
    first : (b : Bool) → asks l (since_after since e.what) ≡ b → (b || has l h) ≡ true →
        (asks l since || (is_some (request_of l e.what) || has l h)) ≡ true
    first true same any = either (asks l since) (is_some (request_of l e.what)) (has l h)
        (rw (since_grown l since e.what same) refl)
    first false same any = rw any (last (asks l since) (is_some (request_of l e.what)))

request_first : (l : ℕ) (h : List Event) (o : Option Request) → (has l h ≡ true → is_some (request_at h l) ≡ true) →
    (is_some o || has l h) ≡ true →
    is_some (slice_get (cons_option o (filter_map (λ e. request_of l e.what) h)) 0) ≡ true
request_first l h (Some r) later some = refl
request_first l h None later some = later some

request_some : (l : ℕ) (h : List Event) → has l h ≡ true → is_some (request_at h l) ≡ true
request_some l [] some = absurd (false≢true some)
request_some l (e ∷ h) some = request_first l h (request_of l e.what) (request_some l h) some

or_true : (b : Bool) → (b || true) ≡ true
or_true true = refl
or_true false = refl

asked_kept : (l : ℕ) (ws : List Happened) → asks l (filter is_start ws) ≡ true → asks l ws ≡ true
asked_kept l [] some = some
asked_kept l (w ∷ ws) some = at_test (is_start w) some (asked_kept l ws)
  where
    at_test : (b : Bool) → asks l (cond b (w ∷ filter is_start ws) (filter is_start ws)) ≡ true →
        (asks l (filter is_start ws) ≡ true → asks l ws ≡ true) → (is_some (request_of l w) || asks l ws) ≡ true
    at_test true some later = by_first (is_some (request_of l w)) some later
      where
        by_first : (b : Bool) → (b || asks l (filter is_start ws)) ≡ true →
            (asks l (filter is_start ws) ≡ true → asks l ws ≡ true) → (b || asks l ws) ≡ true
        by_first true some later = refl
        by_first false some later = later some
    at_test false some later = rw (later some) (or_true (is_some (request_of l w)))

-- a start since the last answer made the request of its line
pub start_made : (l : ℕ) (h : List Event) → asks l (starts_since h) ≡ true → is_some (request_at h l) ≡ true
start_made l h some = request_some l h (since_from l [] h (asked_kept l (since_command h) some))

number_no_matter : (l : ℕ) (w : Happened) → is_some (request_of l (without_number w)) ≡ is_some (request_of l w)
number_no_matter l (event.Send to n tag ctx len how line) = line_matters (line == l)
  where
    line_matters : (b : Bool) → is_some (cond b (Some (Sending to 0)) None) ≡ is_some
        (cond b (Some (Sending to n)) None)
    line_matters true = refl
    line_matters false = refl
number_no_matter l (event.Post p line) = line_matters (line == l)
  where
    line_matters : (b : Bool) → is_some (cond b (Some (Receiving 0)) None) ≡ is_some
        (cond b (Some (Receiving p.number)) None)
    line_matters true = refl
    line_matters false = refl
number_no_matter l (event.Match number from n cap line) = line_matters (line == l)
  where
    line_matters : (b : Bool) → is_some (cond b (Some (Receiving 0)) None) ≡ is_some
        (cond b (Some (Receiving number)) None)
    line_matters true = refl
    line_matters false = refl
number_no_matter l w = refl

numbers_no_matter : (l : ℕ) (ws : List Happened) → asks l (map without_number ws) ≡ asks l ws
numbers_no_matter l [] = refl
numbers_no_matter l (w ∷ ws) = rw (number_no_matter l w, numbers_no_matter l ws) refl

-- a plain command's start asks for its line
start_asks : (eager l : ℕ) (commands : List Numbered) (h : List Event) (c : Command) → is_some (started_name c) ≡ true →
    is_plain c ≡ true → asks l (start_of eager commands h l c) ≡ true
start_asks eager l commands h (command.Send to q tag ctx sync body) starts plain = rw (eqb_self l) refl
start_asks eager l commands h (command.Recv q from tag ctx cap) starts plain = rw (eqb_self l) refl
start_asks eager l commands h (command.Wait q) starts plain = absurd (false≢true starts)
start_asks eager l commands h (command.Test q) starts plain = absurd (false≢true plain)
start_asks eager l commands h (command.Probe from tag ctx) starts plain = absurd (false≢true plain)
start_asks eager l commands h (command.Await from tag ctx) starts plain = absurd (false≢true plain)
start_asks eager l commands h (command.Cancel q) starts plain = absurd (false≢true plain)
start_asks eager l commands h (command.Mprobe m from tag ctx) starts plain = absurd (false≢true plain)
start_asks eager l commands h (command.Mrecv q m cap) starts plain = absurd (false≢true plain)

both_none : (b : Bool) → cond {A = List Happened} b [] [] ≡ []
both_none true = refl
both_none false = refl

not_some : (o : Option ℕ) (x : List Happened) → cond (not (is_some o)) x [] ≡ cond (is_none o) x []
not_some None x = refl
not_some (Some k) x = refl

-- the starts are taken where their names stand for none
pub is_taken_by : (commands done : List Numbered) (h : List Event) (l : ℕ) (c : Command) (a : Answer) →
    IsNamed commands done h → is_plain c ≡ true → answer_of commands h l c ≡ Some (without_bytes a) →
    (x : List Happened) → (is_some (started_name c) ≡ false → x ≡ []) → cond (is_started a) x [] ≡ cond
    (is_taken done c) x []
is_taken_by commands done h l (command.Send to q tag ctx sync body) a named plain same x none =
    rw (started_fact (is_some (live commands h q)) a same ∙ ap not (is_live commands done h q named))
    (not_some (holder done q) x)
is_taken_by commands done h l (command.Recv q from tag ctx cap) a named plain same x none =
    rw (started_fact (is_some (live commands h q)) a same ∙ ap not (is_live commands done h q named))
    (not_some (holder done q) x)
is_taken_by commands done h l (command.Wait q) a named plain same x none =
    rw (none refl) (both_none (is_started a))
is_taken_by commands done h l (command.Test q) a named plain same x none = absurd (false≢true plain)
is_taken_by commands done h l (command.Probe from tag ctx) a named plain same x none = absurd (false≢true plain)
is_taken_by commands done h l (command.Await from tag ctx) a named plain same x none = absurd (false≢true plain)
is_taken_by commands done h l (command.Cancel q) a named plain same x none = absurd (false≢true plain)
is_taken_by commands done h l (command.Mprobe m from tag ctx) a named plain same x none = absurd (false≢true plain)
is_taken_by commands done h l (command.Mrecv q m cap) a named plain same x none = absurd (false≢true plain)

abbrev mark : ℕ → Happened → Placed
mark n w = record { place = n; what = w }

marked : (n : ℕ) (ws : List Happened) → map (at_place n) ws ≡ map (mark n) (map without_number ws)
marked n [] = refl
marked n (w ∷ ws) = ap (λ (ps : List Placed). at_place n w ∷ ps) (marked n ws)

-- a plain command's start has no number yet, and is the same after any events
pub start_any : (eager l : ℕ) (commands : List Numbered) (h : List Event) (c : Command) → is_plain c ≡ true →
    start_of eager commands h l c ≡ map without_number (start_of eager commands [] l c)
start_any eager l commands h (command.Send to q tag ctx sync body) plain = refl
start_any eager l commands h (command.Recv q from tag ctx cap) plain = refl
start_any eager l commands h (command.Wait q) plain = refl
start_any eager l commands h (command.Test q) plain = absurd (false≢true plain)
start_any eager l commands h (command.Probe from tag ctx) plain = absurd (false≢true plain)
start_any eager l commands h (command.Await from tag ctx) plain = absurd (false≢true plain)
start_any eager l commands h (command.Cancel q) plain = absurd (false≢true plain)
start_any eager l commands h (command.Mprobe m from tag ctx) plain = absurd (false≢true plain)
start_any eager l commands h (command.Mrecv q m cap) plain = absurd (false≢true plain)

pub no_start : (eager l : ℕ) (commands : List Numbered) (h : List Event) (c : Command) → is_plain c ≡ true →
    is_some (started_name c) ≡ false → start_of eager commands h l c ≡ []
no_start eager l commands h (command.Send to q tag ctx sync body) plain none = absurd (false≢true (sym none))
no_start eager l commands h (command.Recv q from tag ctx cap) plain none = absurd (false≢true (sym none))
no_start eager l commands h (command.Wait q) plain none = refl
no_start eager l commands h (command.Test q) plain none = refl
no_start eager l commands h (command.Probe from tag ctx) plain none = refl
no_start eager l commands h (command.Await from tag ctx) plain none = refl
no_start eager l commands h (command.Cancel q) plain none = refl
no_start eager l commands h (command.Mprobe m from tag ctx) plain none = refl
no_start eager l commands h (command.Mrecv q m cap) plain none = absurd (false≢true plain)

placed-snoc : (eager : ℕ) (commands before done : List Numbered) (c : Numbered) →
    placed_from eager commands before (done ++ c ∷ [])
    ≡ placed_from eager commands before done ++ placed_at eager commands [] (before ++ done) c
placed-snoc eager commands before [] c =
    append-nil (placed_at eager commands [] before c)
    ∙ ap (λ (b : List Numbered). placed_at eager commands [] b c) (sym (append-nil before))
placed-snoc eager commands before (d ∷ done) c =
    ap (λ (ps : List Placed). placed_at eager commands [] before d ++ ps)
    (placed-snoc eager commands (before ++ d ∷ []) done c
    ∙ ap (λ (b : List Numbered). placed_from eager commands (before ++ d ∷ []) done ++ placed_at eager commands [] b c)
    (append_assoc before (d ∷ []) done))
    ∙ sym (append_assoc (placed_at eager commands [] before d) (placed_from eager commands (before ++ d ∷ []) done)
    (placed_at eager commands [] (before ++ d ∷ done) c))

marked_if : (n : ℕ) (b : Bool) (x y : List Happened) → y ≡ map without_number x →
    map (mark n) (cond b y []) ≡ cond b (map (at_place n) x) []
marked_if n true x y same = ap (λ (ws : List Happened). map (mark n) ws) same ∙ sym (marked n x)
marked_if n false x y same = refl

-- a rank's history behind which these commands ran
pub record Stood (eager : ℕ) (commands done : List Numbered) (h : List Event) : Type 0 where
  pub named : IsNamed commands done h
  pub places : IsPlacedSo (placed_of eager commands done) h
  pub counted : length (ran_lines h) ≡ length done

pub stood_other : (eager : ℕ) (commands done : List Numbered) (h : List Event) (stamp : ℕ) (what : Happened) →
    is_answer what ≡ false → Stood eager commands done h →
    Stood eager commands done (h ++ record { stamp = stamp; what = what } ∷ [])
stood_other eager commands done h stamp what silent stood =
    let e : Event = record { stamp = stamp; what = what } in
    let same : ran_lines (h ++ e ∷ []) ≡ ran_lines h =
    filter_map-append (λ (e : Event). ran_of e.what) h (e ∷ [])
    ∙ (rw (no_answer what silent) (append-nil (ran_lines h))) in
    record {
      named = record {
        line = λ q. line-push commands h e q ∙ line_kept commands q (line_of_name commands h q) what silent
            ∙ stood.named.line q;
        made = λ q l held. request_lasts h e l (stood.named.made q l held);
      };
      places = placed-push (placed_of eager commands done) h stamp what silent same stood.places;
      counted = ap (λ (ls : List ℕ). length ls) same ∙ stood.counted;
    }

-- a name stands for the start just taken, or for what it stood for
held_by : (q q' line l : ℕ) (done : List Numbered) (b : Bool) → (q' == q) ≡ b →
    cond (b && is_none (holder done q)) (Some line) (holder done q) ≡ Some l →
    ((line ≡ l) × (is_none (holder done q') ≡ true)) ⊎ (holder done q ≡ Some l)
held_by q q' line l done true same held =
    let here : q' ≡ q = same_number q' q same in
    by_none (is_none (holder done q)) refl held here
  where
    by_none : (b : Bool) → is_none (holder done q) ≡ b → cond b (Some line) (holder done q) ≡ Some l → q' ≡ q →
        ((line ≡ l) × (is_none (holder done q') ≡ true)) ⊎ (holder done q ≡ Some l)
    by_none true none held here = inl (cc, ap (λ (k : ℕ). is_none (holder done k)) here ∙ none)
    by_none false none held here = inr held
held_by q q' line l done false same held = inr held

freed_by : (q q' l : ℕ) (done : List Numbered) (b : Bool) → cond b None (holder done q) ≡ Some l →
    holder done q ≡ Some l
freed_by q q' l done true held = absurd (grind arith)
freed_by q q' l done false held = held

pub held_after : (q line l : ℕ) (done : List Numbered) (c : Command) →
    holder_by q (holder done q) line c ≡ Some l →
    ((line ≡ l) × (is_taken done c ≡ true)) ⊎ (holder done q ≡ Some l)
held_after q line l done (command.Send to q' tag ctx sync body) held = held_by q q' line l done (q' == q) refl held
held_after q line l done (command.Recv q' from tag ctx cap) held = held_by q q' line l done (q' == q) refl held
held_after q line l done (command.Wait q') held = inr (freed_by q q' l done (q' == q) held)
held_after q line l done (command.Test q') held = inr held
held_after q line l done (command.Probe from tag ctx) held = inr held
held_after q line l done (command.Await from tag ctx) held = inr held
held_after q line l done (command.Cancel q') held = inr held
held_after q line l done (command.Mprobe m from tag ctx) held = inr held
held_after q line l done (command.Mrecv q' m cap) held = inr held

taken_starts : (done : List Numbered) (c : Command) → is_taken done c ≡ true → is_some (started_name c) ≡ true
taken_starts done (command.Send to q tag ctx sync body) taken = refl
taken_starts done (command.Recv q from tag ctx cap) taken = refl
taken_starts done c taken = absurd (false≢true taken)

if_true : (b : Bool) (x : List Happened) → b ≡ true → cond b x [] ≡ x
if_true true x same = refl
if_true false x same = absurd (false≢true same)

pub stood_answer : (eager : ℕ) (commands done : List Numbered) (h : List Event) (stamp : ℕ) (c : Numbered)
    (a : Answer) →
    is_plain c.command ≡ true → command_at commands c.line ≡ Some c.command →
    answer_of commands h c.line c.command ≡ Some (without_bytes a) →
    map without_number (starts_since h) ≡ cond (is_started a) (start_of eager commands h c.line c.command) [] →
    Stood eager commands done h →
    Stood eager commands (done ++ c ∷ []) (h ++ record { stamp = stamp; what = event.Ran c.line a } ∷ [])
stood_answer eager commands done h stamp c a plain at' same started stood =
    let e : Event = record { stamp = stamp; what = event.Ran c.line a } in
    let starts : List Happened = start_of eager commands h c.line c.command in
    let taken : map without_number (starts_since h) ≡ cond (is_taken done c.command) starts [] =
    started ∙ is_taken_by commands done h c.line c.command a stood.named plain same starts
    (no_start eager c.line commands h c.command plain) in
    let front : map (at_place (length (ran_lines h))) (starts_since h) ≡ placed_at eager commands [] done c =
    marked (length (ran_lines h)) (starts_since h)
    ∙ ap (λ (ws : List Happened). map (mark (length (ran_lines h))) ws) taken
    ∙ marked_if (length (ran_lines h)) (is_taken done c.command) (start_of eager commands [] c.line c.command) starts
    (start_any eager c.line commands h c.command plain)
    ∙ ap (λ (n : ℕ). cond (is_taken done c.command) (map (at_place n) (start_of eager commands [] c.line c.command)) [])
    stood.counted in
    record {
      named = record {
        line = names_told commands done h stamp c a stood.named plain at' same;
        made = λ q l held. elim (held_after q c.line l done c.command
            (sym (fold_push (λ (held : Option ℕ) (c : Numbered). holder_by q held c.line c.command) None done c)
            ∙ held)) [
              | inl now ↦ request_lasts h e l (subst (λ (k : ℕ). is_some (request_at h k) ≡ true) now.0
                  (start_made c.line h (sym (numbers_no_matter c.line (starts_since h))
                  ∙ ap (λ (ws : List Happened). asks c.line ws) (taken ∙ if_true (is_taken done c.command) starts now.1)
                  ∙ start_asks eager c.line commands h c.command (taken_starts done c.command now.1) plain)))
              | inr before ↦ request_lasts h e l (stood.named.made q l before)
            ];
      };
      places = subst (λ (ps : List Placed). IsPlacedSo ps (h ++ e ∷ []))
          (ap (λ (ps : List Placed). placed_of eager commands done ++ ps) front
          ∙ sym (placed-snoc eager commands [] done c))
          (placed-answer (placed_of eager commands done) h stamp c.line (event.Ran c.line a)
          (ap (λ (ws : List Happened). filter is_start ws) (since-push h e)) refl stood.places);
      counted = ap (λ (ls : List ℕ). length ls) (filter_map-append (λ (e : Event). ran_of e.what) h (e ∷ []))
          ∙ length-append (ran_lines h) (c.line ∷ []) ∙ (rw stood.counted (sym (length-append done (c ∷ []))));
    }

-- each command of a rank stands at its line
abbrev pub AreAtLines : List Numbered → Type 0
AreAtLines commands =
    (done : List Numbered) (c : Numbered) (more : List Numbered) → commands ≡ done ++ c ∷ more →
    (command_at commands c.line ≡ Some c.command) × (is_plain c.command ≡ true)

-- what stands behind a front of events: the commands that ran so far, and those that did not
pub record Front (eager : ℕ) (commands : List Numbered) (h : List Event) : Type 0 where
  pub done : List Numbered
  pub more : List Numbered
  pub split : commands ≡ done ++ more
  pub stood : Stood eager commands done h

pub answered : (commands : List Numbered) (h : List Event) (line : ℕ) (a : Answer) (c : Command) →
    AnswerAt commands h (event.Ran line a) → command_at commands line ≡ Some c →
    answer_of commands h line c ≡ Some (without_bytes a)
answered commands h line a c right at' =
    let some : IsSomeAnd (Some c) (λ c. answer_of commands h line c ≡ Some (without_bytes a)) = rw at' at right in some

pub started_so : (eager : ℕ) (commands : List Numbered) (h : List Event) (line : ℕ) (a : Answer) (c : Command) →
    StartAt eager commands h (event.Ran line a) → command_at commands line ≡ Some c →
    map without_number (starts_since h) ≡ cond (is_started a) (start_of eager commands h line c) []
started_so eager commands h line a c right at' =
    right.0
    ∙ ap (λ (o : Option Command). cond (is_started a) (option_map_or (start_of eager commands h line) o []) []) at'

-- one event more
front_step : (eager : ℕ) (commands : List Numbered) (h : List Event) (stamp : ℕ) (what : Happened) (lines : List ℕ)
    (front : Front eager commands h) → AreAtLines commands → AnswerAt commands h what → StartAt eager commands h what →
    cons_option (ran_of what) lines ≡ map (λ c. c.line) (take (length (cons_option (ran_of what) lines)) front.more) →
    (next : Front eager commands (h ++ record { stamp = stamp; what = what } ∷ []))
    × (lines ≡ map (λ c. c.line) (take (length lines) next.more))
front_step eager commands h stamp (event.Ran line a) lines front lined answer start told =
    by_more front.more front.split told
  where
    by_more : (more : List Numbered) → commands ≡ front.done ++ more →
        line ∷ lines ≡ map (λ c. c.line) (take (suc (length lines)) more) →
        (next : Front eager commands (h ++ record { stamp = stamp; what = event.Ran line a } ∷ []))
        × (lines ≡ map (λ c. c.line) (take (length lines) next.more))
    by_more [] split told = absurd (grind arith)
    by_more (c ∷ more) split told =
        let here : line ≡ c.line = cc in
        let ahead : lines ≡ map (λ c. c.line) (take (length lines) more) = cc in
        let at' = lined front.done c more split in
        let at_line : command_at commands line ≡ Some c.command = rw here at'.0 in (
          record {
            done = front.done ++ c ∷ [];
            more = more;
            split = split ∙ sym (append_assoc front.done (c ∷ []) more);
            stood = subst (λ (l : ℕ). Stood eager commands (front.done ++ c ∷ [])
                (h ++ record { stamp = stamp; what = event.Ran l a } ∷ [])) (sym here)
                (stood_answer eager commands front.done h stamp c a at'.1 at'.0
                (subst (λ (l : ℕ). answer_of commands h l c.command ≡ Some (without_bytes a)) here
                (answered commands h line a c.command answer at_line))
                (subst (λ (l : ℕ). map without_number (starts_since h) ≡ cond (is_started a)
                (start_of eager commands h l c.command) []) here
                (started_so eager commands h line a c.command start at_line)) front.stood);
          },
          ahead,
        )
front_step eager commands h stamp what lines front lined answer start told = (
  record {
    done = front.done;
    more = front.more;
    split = front.split;
    stood = stood_other eager commands front.done h stamp what refl front.stood;
  },
  told,
)

-- behind each front of a run of plain commands stand the first of them, and the next ones run behind it
pub front_after : (eager : ℕ) (commands : List Numbered) (before events rest : List Event)
    (front : Front eager commands before) → AreAtLines commands →
    AtEachAfter (λ b e. AnswerAt commands b e.what) before (events ++ rest) →
    AtEachAfter (λ b e. StartAt eager commands b e.what) before (events ++ rest) →
    ran_lines (events ++ rest) ≡ map (λ c. c.line) (take (length (ran_lines (events ++ rest))) front.more) →
    (last : Front eager commands (before ++ events))
    × (ran_lines rest ≡ map (λ c. c.line) (take (length (ran_lines rest)) last.more))
front_after eager commands before [] rest front lined answers starts told =
    subst (λ (k : List Event). (last : Front eager commands k)
    × (ran_lines rest ≡ map (λ c. c.line) (take (length (ran_lines rest)) last.more))) (sym (append-nil before))
    (front, told)
front_after eager commands before (e ∷ events) rest front lined answers starts told =
    let next = front_step eager commands before e.stamp e.what (ran_lines (events ++ rest)) front lined answers.0
    starts.0 told in
    subst (λ (k : List Event). (last : Front eager commands k)
    × (ran_lines rest ≡ map (λ c. c.line) (take (length (ran_lines rest)) last.more)))
    (append_assoc before (e ∷ []) events)
    (front_after eager commands (before ++ e ∷ []) events rest next.0 lined answers.1 starts.1 next.1)
