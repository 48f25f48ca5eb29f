-- The lines of the starts of a history, by the commands that ran.
use Rattle.std.proofs.Common.{◌≡◌, ℕ, ◌<◌, ◌==◌, Bool, true, false, ◌&&◌, cond, suc, Option, Some, None, List, []}
use Rattle.std.proofs.Common.{◌∷◌, ◌++◌}
use Rattle.std.proofs.Common.{length, map, refl, sym, ◌∙◌, ap, arith, append-nil, append_assoc}
use Rattle.std.specs.Prelude.{is_some}
use Rattle.std.specs.List.{cons_option, filter, filter_map, slice_get}
use Rattle.std.proofs.lemmas.Bool.{false≢true}
use Rattle.std.proofs.lemmas.List.Elements.{filter-append, filter_map-append}
use Rattle.std.proofs.lemmas.List.{map-append}
use Rattle.nm_types.specs.declared.answers.Answer.{Answer}
use Rattle.nm_types.specs.declared.scripts.Command.{Command}
use Rattle.nm_types.specs.declared.scripts.Command.TheVariants as command
use Rattle.nm_types.specs.Commands.{Numbered}
use Rattle.nm_history.specs.declared.events.Event.{Event}
use Rattle.nm_history.specs.declared.events.Happened.{Happened}
use Rattle.nm_history.specs.declared.events.Happened.TheVariants as event
use Rattle.nm_history.specs.Answers.{is_started, request_at, request_of}
use Rattle.nm_history.specs.Completion.{Request}
use Rattle.nm_history.specs.Completion.Request.{Sending, Receiving}
use Rattle.nm_history.specs.RankRun.{is_start, since_after, since_command, start_of, starts_since, without_number}
use Rattle.nm_history.specs.Underway.{is_answer}
use Rattle.nm_history.proofs.RankRunLemmas.{since-push}
use Rattle.nm_match.specs.InTurn.{is_for}
use Rattle.nm_sure.proofs.Gathered.{ReadsStarts, if_some, post_line, receives_it, send_line, sends_it}
use Rattle.nm_persist.specs.Names.{is_named}
use Rattle.nm_sure.proofs.Gathered.{one_line}

-- a send or a receive
abbrev pub starts_one : Command → Bool
starts_one (command.Send to q tag ctx sync body) = true
starts_one (command.Recv q from tag ctx cap) = true
starts_one _ = false

-- what is read off the start of a command
abbrev pub ReadsNamed : (Happened → Option ℕ) → (Numbered → Bool) → Type 0
ReadsNamed f g =
    (eager : ℕ) (commands : List Numbered) (c : Numbered) → is_named c.command ≡ true →
    filter_map f (start_of eager commands [] c.line c.command) ≡ cond (g c) (c.line ∷ []) []

-- the lines of those that pass
abbrev pub lines_of : (Numbered → Bool) → List Numbered → List ℕ
lines_of g cs = map (λ c. c.line) (filter g cs)

pub lines-push : (g : Numbered → Bool) (cs : List Numbered) (c : Numbered) →
    lines_of g (cs ++ c ∷ []) ≡ lines_of g cs ++ cond (g c) (c.line ∷ []) []
lines-push g cs c =
    ap (λ (xs : List Numbered). map (λ c. c.line) xs) (filter-append g cs (c ∷ []))
    ∙ map-append (λ (c : Numbered). c.line) (filter g cs) (cond (g c) (c ∷ []) []) ∙ by_test (g c)
  where
    by_test : (b : Bool) → map (λ (c : Numbered). c.line) (filter g cs) ++ map (λ (c : Numbered). c.line)
        (cond b (c ∷ []) [])
        ≡ map (λ (c : Numbered). c.line) (filter g cs) ++ cond b (c.line ∷ []) []
    by_test true = refl
    by_test false = refl

pub posts_named : (from tag ctx : ℕ) → ReadsNamed (post_line from tag ctx) (λ c. receives_it from tag ctx c.command)
posts_named from tag ctx eager commands c named = by_command c.command named
  where
    by_command : (d : Command) → is_named d ≡ true →
        filter_map (post_line from tag ctx) (start_of eager commands [] c.line d) ≡ cond (receives_it from tag ctx d)
        (c.line ∷ []) []
    by_command (command.Send to q t x sync body) named = refl
    by_command (command.Recv q source tags context cap) named =
        one_line (is_for from tag ctx (record { number = 0; from = source; tag = tags; ctx = context; cap = cap }))
        c.line
    by_command (command.Mrecv q m cap) named = absurd (false≢true named)
    by_command d named = refl

pub sends_named : (to tag ctx : ℕ) → ReadsNamed (send_line to tag ctx) (λ c. sends_it to tag ctx c.command)
sends_named to tag ctx eager commands c named = by_command c.command named
  where
    by_command : (d : Command) → is_named d ≡ true →
        filter_map (send_line to tag ctx) (start_of eager commands [] c.line d) ≡ cond (sends_it to tag ctx d)
        (c.line ∷ []) []
    by_command (command.Send to' q tag' ctx' sync body) named = one_line (ctx == ctx' && to == to' && tag == tag')
        c.line
    by_command (command.Recv q source tags context cap) named = refl
    by_command (command.Mrecv q m cap) named = absurd (false≢true named)
    by_command d named = refl

-- the start of a line
abbrev pub start_at : ℕ → Happened → Option ℕ
start_at l (event.Send to n tag ctx len how line) = if_some (line == l) line
start_at l (event.Post p line) = if_some (line == l) line
start_at l (event.Match number from n cap line) = if_some (line == l) line
start_at l _ = None

pub starts_read : (l : ℕ) → ReadsStarts (start_at l)
starts_read l = record { numbers = same_line; others = no_line }
  where
    same_line : (w : Happened) → start_at l (without_number w) ≡ start_at l w
    same_line (event.Send to n t c len how line) = refl
    same_line (event.Post p line) = refl
    same_line (event.Match number i n cap line) = refl
    same_line w = refl

    no_line : (w : Happened) → is_start w ≡ false → start_at l w ≡ None
    no_line (event.Send to n t c len how line) other = absurd (false≢true (sym other))
    no_line (event.Post p line) other = absurd (false≢true (sym other))
    no_line (event.Match number i n cap line) other = absurd (false≢true (sym other))
    no_line w other = refl

pub starts_named : (l : ℕ) → ReadsNamed (start_at l) (λ c. starts_one c.command && c.line == l)
starts_named l eager commands c named = by_command c.command named
  where
    by_command : (d : Command) → is_named d ≡ true →
        filter_map (start_at l) (start_of eager commands [] c.line d) ≡ cond (starts_one d && c.line == l)
        (c.line ∷ []) []
    by_command (command.Send to' q tag' ctx' sync body) named = one_line (c.line == l) c.line
    by_command (command.Recv q source tags context cap) named = one_line (c.line == l) c.line
    by_command (command.Mrecv q m cap) named = absurd (false≢true named)
    by_command d named = refl

-- there are as many requests of a line as starts of it
same_count : (l : ℕ) (w : Happened) → is_some (request_of l w) ≡ is_some (start_at l w)
same_count l (event.Send to n t c len how line) = by_line (line == l)
  where
    by_line : (b : Bool) → is_some (cond b (Some (Sending to n)) None) ≡ is_some (if_some b line)
    by_line true = refl
    by_line false = refl
same_count l (event.Post p line) = by_line (line == l)
  where
    by_line : (b : Bool) → is_some (cond b (Some (Receiving p.number)) None) ≡ is_some (if_some b line)
    by_line true = refl
    by_line false = refl
same_count l (event.Match number i n cap line) = by_line (line == l)
  where
    by_line : (b : Bool) → is_some (cond b (Some (Receiving number)) None) ≡ is_some (if_some b line)
    by_line true = refl
    by_line false = refl
same_count l w = refl

both_counted : (o : Option Request) (p : Option ℕ) (rs : List Request) (ls : List ℕ) → is_some o ≡ is_some p →
    length rs ≡ length ls →
    length (cons_option o rs) ≡ length (cons_option p ls)
both_counted None None rs ls same later = later
both_counted (Some r) (Some l) rs ls same later = ap (λ (n : ℕ). suc n) later
both_counted None (Some l) rs ls same later = absurd (false≢true same)
both_counted (Some r) None rs ls same later = absurd (false≢true (sym same))

requests_counted : (l : ℕ) (h : List Event) →
    length (filter_map (λ (e : Event). request_of l e.what) h) ≡ length
    (filter_map (λ (e : Event). start_at l e.what) h)
requests_counted l [] = refl
requests_counted l (e ∷ h) =
    both_counted (request_of l e.what) (start_at l e.what) (filter_map (λ (e : Event). request_of l e.what) h)
    (filter_map (λ (e : Event). start_at l e.what) h) (same_count l e.what) (requests_counted l h)

first_some : {X : Type 0} (xs : List X) → 0 < length xs → is_some (slice_get xs 0) ≡ true
first_some [] some = absurd (omega (arith, some))
first_some (x ∷ xs) some = refl

-- a start of a line makes its request
pub request_made : (l : ℕ) (h : List Event) → 0 < length (filter_map (λ (e : Event). start_at l e.what) h) →
    is_some (request_at h l) ≡ true
request_made l h some =
    first_some (filter_map (λ (e : Event). request_of l e.what) h)
    (let same = requests_counted l h in omega (arith, some, same))

-- what is read off events is read off their starts
pub read_starts : (f : Happened → Option ℕ) → ReadsStarts f → (ws : List Happened) →
    filter_map f ws ≡ filter_map f (map without_number (filter is_start ws))
read_starts f reads [] = refl
read_starts f reads (w ∷ ws) = by_test (is_start w) refl (read_starts f reads ws)
  where
    by_test : (b : Bool) → is_start w ≡ b → filter_map f ws ≡ filter_map f (map without_number (filter is_start ws)) →
        cons_option (f w) (filter_map f ws) ≡ filter_map f
        (map without_number (cond b (w ∷ filter is_start ws) (filter is_start ws)))
    by_test true is later =
        ap (λ (ls : List ℕ). cons_option (f w) ls) later
        ∙ ap (λ (o : Option ℕ). cons_option o (filter_map f (map without_number (filter is_start ws))))
        (sym (reads.numbers w))
    by_test false is later = ap (λ (o : Option ℕ). cons_option o (filter_map f ws)) (reads.others w is) ∙ later

-- a taken start makes its event
pub starts_made : (eager l : ℕ) (commands : List Numbered) (h : List Event) (c : Command) (b : Bool) →
    is_named c ≡ true →
    (starts_one c ≡ true → b ≡ true) → cond b (start_of eager commands h l c) [] ≡ start_of eager commands [] l c
starts_made eager l commands h (command.Send to q tag ctx sync body) b named taken = rw (taken refl) refl
starts_made eager l commands h (command.Recv q from tag ctx cap) b named taken = rw (taken refl) refl
starts_made eager l commands h (command.Mrecv q m cap) b named taken = absurd (false≢true named)
starts_made eager l commands h c true named taken = refl
starts_made eager l commands h c false named taken = refl

-- what is read off a history is the lines of the commands that ran, and of the starts since then
abbrev pub IsRead : (Happened → Option ℕ) → (Numbered → Bool) → List Numbered → List Event → Type 0
IsRead f g done h = filter_map (λ (e : Event). f e.what) h ≡ lines_of g done ++ filter_map f (since_command h)

pub read_other : (f : Happened → Option ℕ) (g : Numbered → Bool) (done : List Numbered) (h : List Event) (e : Event) →
    is_answer e.what ≡ false → IsRead f g done h → IsRead f g done (h ++ e ∷ [])
read_other f g done h e silent so =
    filter_map-append (λ (e : Event). f e.what) h (e ∷ [])
    ∙ ap (λ (ls : List ℕ). ls ++ cons_option (f e.what) []) so
    ∙ append_assoc (lines_of g done) (filter_map f (since_command h)) (cons_option (f e.what) [])
    ∙ ap (λ (ls : List ℕ). lines_of g done ++ ls) (sym (filter_map-append f (since_command h) (e.what ∷ [])))
    ∙ ap (λ (ws : List Happened). lines_of g done ++ filter_map f ws) (sym (since-push h e ∙ grown e.what silent))
  where
    grown : (what : Happened) → is_answer what ≡ false → since_after (since_command h) what ≡ since_command h ++ what
        ∷ []
    grown (event.Ran line a) silent = absurd (false≢true (sym silent))
    grown what silent = refl

pub read_answer : (f : Happened → Option ℕ) (g : Numbered → Bool) → ReadsStarts f → ReadsNamed f g → (eager : ℕ)
    (commands done : List Numbered) (h : List Event) (stamp : ℕ) (c : Numbered) (a : Answer) →
    is_named c.command ≡ true →
    (starts_one c.command ≡ true → is_started a ≡ true) →
    map without_number (starts_since h) ≡ cond (is_started a) (start_of eager commands h c.line c.command) [] →
    IsRead f g done h → IsRead f g (done ++ c ∷ []) (h ++ record { stamp = stamp; what = event.Ran c.line a } ∷ [])
read_answer f g reads tells eager commands done h stamp c a named taken started so =
    let e : Event = record { stamp = stamp; what = event.Ran c.line a } in
    let ran : f (event.Ran c.line a) ≡ None = reads.others (event.Ran c.line a) refl in
    let since : filter_map f (since_command h) ≡ cond (g c) (c.line ∷ []) [] =
    read_starts f reads (since_command h)
    ∙ ap (λ (ws : List Happened). filter_map f ws)
    (started ∙ starts_made eager c.line commands h c.command (is_started a) named taken)
    ∙ tells eager commands c named in
    filter_map-append (λ (e : Event). f e.what) h (e ∷ [])
    ∙ ap (λ (o : Option ℕ). filter_map (λ (e : Event). f e.what) h ++ cons_option o []) ran
    ∙ append-nil (filter_map (λ (e : Event). f e.what) h)
    ∙ so ∙ ap (λ (ls : List ℕ). lines_of g done ++ ls) since ∙ sym (lines-push g done c)
    ∙ sym (append-nil (lines_of g (done ++ c ∷ [])))
    ∙ ap (λ (ws : List Happened). lines_of g (done ++ c ∷ []) ++ filter_map f ws) (sym (since-push h e))
