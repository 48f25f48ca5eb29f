-- What is known of a rank behind each of its commands that ran.
use Rattle.std.proofs.Common.{◌≡◌, ℕ, ◌+◌, ◌<◌, ◌==◌, Bool, true, false, not, ◌&&◌, ◌||◌, cond, Option, Some, None}
use Rattle.std.proofs.Common.{List, [], ◌∷◌, ◌++◌, length, map, refl, sym, ◌∙◌, ap, subst, arith, append-nil}
use Rattle.std.proofs.Common.{append_assoc, length-append, inl, inr}
use Rattle.std.specs.Prelude.{is_some, take}
use Rattle.std.specs.List.{filter, filter_map, slice_get}
use Rattle.std.specs.Option.{option_and_then, option_map_or}
use Rattle.std.proofs.lemmas.Bool.{false≢true}
use Rattle.std.proofs.lemmas.List.{map-append}
use Rattle.std.proofs.lemmas.List.Elements.{filter-append}
use Rattle.std.proofs.lemmas.List.Sums.{fold_push}
use Rattle.nm_types.specs.declared.answers.Answer.{Answer}
use Rattle.nm_types.specs.declared.answers.Answer.TheVariants as answer
use Rattle.nm_types.specs.declared.messages.Peer.TheVariants as peer
use Rattle.nm_types.specs.declared.messages.TagPick.TheVariants as pick
use Rattle.nm_types.specs.declared.scripts.Command.{Command}
use Rattle.nm_types.specs.declared.scripts.Command.TheVariants as command
use Rattle.nm_types.specs.Commands.{Numbered, command_at}
use Rattle.nm_types.specs.Sizes.{Sizes}
use Rattle.nm_history.specs.declared.events.Event.{Event}
use Rattle.nm_history.specs.declared.events.Happened.{Happened}
use Rattle.nm_history.specs.declared.events.Happened.TheVariants as event
use Rattle.nm_history.specs.Answers.{answer_of, is_question_of, is_result, is_start_of, is_started, line_of_name}
use Rattle.nm_history.specs.Answers.{live, request_at, without_bytes}
use Rattle.nm_history.specs.Completion.{Request, result_of}
use Rattle.nm_history.specs.Completion.Request.{Sending, Receiving}
use Rattle.nm_history.specs.Delivery.{asked_pair, pair_of_request}
use Rattle.nm_history.specs.RankRun.{start_of, starts_since, since_command, without_number}
use Rattle.nm_history.specs.Underway.{is_answer}
use Rattle.nm_history.proofs.AnswerLemmas.{line-push, line_kept}
use Rattle.nm_history.proofs.OnceLemmas.{eqb_self}
use Rattle.nm_history.specs.Sends.{sent_bytes}
use Rattle.nm_sure.proofs.Fitting.{EachFits}
use Rattle.nm_sure.proofs.Floor.{is_sending}
use Rattle.nm_sure.proofs.Gathered.{ReadsStarts, post_line, posts_read, receives_it}
use Rattle.nm_sure.proofs.Lists.{kept_at, kept_from, place_behind}
use Rattle.nm_sure.proofs.Made.{post_lines, send_made}
use Rattle.nm_sure.proofs.Named.{started_fact}
use Rattle.nm_sure.proofs.Rising.{Rising}
use Rattle.nm_persist.specs.Report.{is_result as is_end}
use Rattle.nm_persist.specs.Names.{Done, are_apart, end_after, is_named, is_no, is_shut, is_shut_after}
use Rattle.nm_persist.specs.Names.{is_wait_of, last_end, waits_for}
use Rattle.nm_persist.proofs.Quiet.{NamedRun, fits}
use Rattle.nm_persist.proofs.LinesRead.{IsRead, ReadsNamed, lines_of, posts_named, read_answer, read_other}
use Rattle.nm_persist.proofs.LinesRead.{read_starts, request_made}
use Rattle.nm_persist.proofs.LinesRead.{start_at, starts_made, starts_named, starts_one, starts_read}
use Rattle.nm_persist.proofs.Taking.{Shows, Takes, taken_from}
use Rattle.nm_persist.proofs.Walk.{apart_here, filter_same, one_place, question_asked, question_dead, receive_is}
use Rattle.nm_persist.proofs.Walk.{rising_front}
use Rattle.nm_persist.proofs.Walk.{shut_from, start_is_one}
use Rattle.nm_types.proofs.ListLemmas.{get_map, all_split, get_before, get_from_map, place_below}
use Rattle.nm_types.proofs.OptionLemmas.{no_some, same_some}
use Rattle.nm_types.proofs.TruthLemmas.{and_left}
use Rattle.nm_types.specs.Bodies.{HaveTheirLength}
use Rattle.nm_sure.proofs.Rising.{rising_kept}

-- the commands that ran
abbrev pub owns : List Done → List Numbered
owns ran = map (λ d. d.own) ran

-- the starts of a name
abbrev pub starts_for : ℕ → List Numbered → List Numbered
starts_for q cs = filter (λ c. is_start_of q c.command) cs

-- the start of a line is the last of a name's
pub record IsLastStart (q l : ℕ) (cs : List Numbered) : Type 0 where
  pub front : List Numbered
  pub start : Numbered
  pub starts : starts_for q cs ≡ front ++ start ∷ []
  pub line : start.line ≡ l

owns-push : (ran : List Done) (d : Done) → owns (ran ++ d ∷ []) ≡ owns ran ++ d.own ∷ []
owns-push ran d = map-append (λ (d : Done). d.own) ran (d ∷ [])

starts-push : (q : ℕ) (ran : List Done) (d : Done) →
    starts_for q (owns (ran ++ d ∷ [])) ≡ starts_for q (owns ran) ++ cond (is_start_of q d.own.command) (d.own ∷ []) []
starts-push q ran d =
    ap (λ (cs : List Numbered). starts_for q cs) (owns-push ran d)
    ∙ filter-append (λ (c : Numbered). is_start_of q c.command) (owns ran) (d.own ∷ [])

last_place : (front : List Numbered) (c : Numbered) → slice_get (front ++ c ∷ []) (length front) ≡ Some c
last_place [] c = refl
last_place (x ∷ front) c = last_place front c

module _ (shape : Sizes) (cs : ℕ → List Numbered) (at : ℕ → ℕ) (hist : ℕ → List Event) (run : NamedRun shape cs at hist)
    (lengths : HaveTheirLength) (j : ℕ) (inside : j < shape.ranks) (rising : Rising 2 (cs j))
    (apart : (q : ℕ) → are_apart q false (map (λ c. c.command) (cs j)) ≡ true) where
  -- the receives of a channel are the starts of a name
  abbrev pub IsOneChannel : ℕ → ℕ → ℕ → ℕ → Type 0
  IsOneChannel q i tag ctx =
      (k : ℕ) (c : Numbered) → slice_get (cs j) k ≡ Some c → receives_it i tag ctx c.command ≡ is_start_of q c.command

  -- a result of the x-th receive of a channel
  pub record IsEnded (i tag ctx x : ℕ) (o : Option Answer) : Type 0 where
    pub result : Answer
    pub is : o ≡ Some result
    pub takes : Takes shape cs at hist run lengths i j tag ctx x result

  pub record State (b : List Event) (ran : List Done) : Type 0 where
    pub more : List Numbered
    pub split : cs j ≡ owns ran ++ more
    pub reads : (f : Happened → Option ℕ) (g : Numbered → Bool) → ReadsStarts f → ReadsNamed f g →
        IsRead f g (owns ran) b
    pub names : (q l : ℕ) → line_of_name (cs j) b q ≡ Some l → IsLastStart q l (owns ran)
    pub shut : (q : ℕ) → is_shut q ran ≡ true → line_of_name (cs j) b q ≡ None
    pub results : (q i tag ctx : ℕ) → IsOneChannel q i tag ctx → (front : List Numbered) (start : Numbered) →
        starts_for q (owns ran) ≡ front ++ start ∷ [] → line_of_name (cs j) b q ≡ None →
        IsEnded i tag ctx (length front) (last_end q ran)

  pub state_none : State [] []
  state_none = record {
    more = cs j;
    split = refl;
    reads = λ f g reads tells. refl;
    names = λ q l held. absurd (no_some l held);
    shut = λ q is. refl;
    results = λ q i tag ctx one front start starts none. absurd (none_before front start starts);
  }
    where
      none_before : (front : List Numbered) (start : Numbered) → [] ≡ front ++ start ∷ [] → ⊥
      none_before front start starts =
          let none = ap (λ (xs : List Numbered). length xs) starts in
          omega (arith, none, length-append front (start ∷ []))

  pub state_other : (b : List Event) (ran : List Done) (stamp : ℕ) (what : Happened) → is_answer what ≡ false →
      State b ran →
      State (b ++ record { stamp = stamp; what = what } ∷ []) ran
  state_other b ran stamp what silent state =
      let e : Event = record { stamp = stamp; what = what } in
      let same : (q : ℕ) → line_of_name (cs j) (b ++ e ∷ []) q ≡ line_of_name (cs j) b q = λ (q : ℕ).
      line-push (cs j) b e q ∙ line_kept (cs j) q (line_of_name (cs j) b q) what silent in
      record {
        more = state.more;
        split = state.split;
        reads = λ f g reads tells. read_other f g (owns ran) b e silent (state.reads f g reads tells);
        names = λ q l held. state.names q l (sym (same q) ∙ held);
        shut = λ q is. same q ∙ state.shut q is;
        results = λ q i tag ctx one front start starts none. state.results q i tag ctx one front start starts
            (sym (same q) ∙ none);
      }

  -- a name that stands for a start has its request
  request_some : (b : List Event) (ran : List Done) → State b ran → (q l : ℕ) → line_of_name (cs j) b q ≡ Some l →
      is_some (request_at b l) ≡ true
  request_some b ran state q l held =
      let last = state.names q l held in
      let from = kept_from (λ (c : Numbered). is_start_of q c.command) (owns ran) (length last.front) last.start
      (ap (λ (xs : List Numbered). slice_get xs (length last.front)) last.starts ∙ last_place last.front last.start) in
      let among : slice_get (cs j) from.0 ≡ Some last.start =
      ap (λ (xs : List Numbered). slice_get xs from.0) state.split
      ∙ get_before (owns ran) state.more from.0 last.start from.1 in
      let own = run.named j last.start.line last.start.command (run.stand j from.0 last.start among) in
      let g : Numbered → Bool = λ (c : Numbered). starts_one c.command && c.line == l in
      let passes : g last.start ≡ true =
      both (starts_one last.start.command) (last.start.line == l) (start_is_one q last.start.command own from.2)
      (ap (λ (k : ℕ). k == l) last.line ∙ eqb_self l) in
      let n : ℕ = length (filter g (take from.0 (owns ran))) in
      let place = get_map (λ (c : Numbered). c.line) (filter g (owns ran)) n last.start
      (kept_at g (owns ran) from.0 last.start from.1 passes) in
      let whole = get_before (lines_of g (owns ran)) (filter_map (start_at l) (since_command b)) n last.start.line
      place in
      let low = place_below (filter_map (λ (e : Event). start_at l e.what) b) n last.start.line
      (ap (λ (xs : List ℕ). slice_get xs n) (state.reads (start_at l) g (starts_read l) (starts_named l)) ∙ whole) in
      request_made l b (omega (arith, low))
    where
      both : (x y : Bool) → x ≡ true → y ≡ true → (x && y) ≡ true
      both true true first second = refl
      both true false first second = absurd (false≢true second)
      both false y first second = absurd (false≢true first)

  -- a name without a live request stands for no start
  not_live : (b : List Event) (ran : List Done) → State b ran → (q : ℕ) → live (cs j) b q ≡ None →
      line_of_name (cs j) b q ≡ None
  not_live b ran state q none = by_line (line_of_name (cs j) b q) refl
    where
      by_request : (o : Option Request) → is_some o ≡ true → o ≡ None → ⊥
      by_request None some none = false≢true some
      by_request (Some r) some none = absurd (grind arith)

      by_line : (o : Option ℕ) → line_of_name (cs j) b q ≡ o → o ≡ None
      by_line None held = refl
      by_line (Some l) held =
          absurd (by_request (request_at b l) (request_some b ran state q l held)
          (sym (ap (λ (o : Option ℕ). option_and_then (request_at b) o) held) ∙ none))

  -- one command more, with its answer
  module _ (b : List Event) (ran : List Done) (state : State b ran) (e : Event) (rest : List Event) (c : Numbered)
      (a : Answer)
      (more : List Numbered) (whole : hist j ≡ b ++ e ∷ rest) (what : e.what ≡ event.Ran c.line a)
      (cut : cs j ≡ owns ran ++ c ∷ more)
      (right : answer_of (cs j) b c.line c.command ≡ Some (without_bytes a))
      (began : map without_number (starts_since b) ≡ cond (is_started a)
      (start_of shape.eager (cs j) b c.line c.command) []) where
    abbrev pub d : Done
    d = record { own = c; answer = a }

    abbrev pub e' : Event
    e' = record { stamp = e.stamp; what = event.Ran c.line a }

    here : slice_get (cs j) (length (owns ran) + 0) ≡ Some c
    here = ap (λ (xs : List Numbered). slice_get xs (length (owns ran) + 0)) cut ∙ place_behind (owns ran) (c ∷ more) 0

    at_line : command_at (cs j) c.line ≡ Some c.command
    at_line = run.stand j (length (owns ran) + 0) c here

    own : is_named c.command ≡ true
    own = run.named j c.line c.command at_line

    -- the line of a name after this command
    line_now : (q : ℕ) → line_of_name (cs j) (b ++ e' ∷ []) q
        ≡ cond (is_start_of q c.command && is_started a) (Some c.line)
        (cond (is_question_of q c.command && is_result a) None (line_of_name (cs j) b q))
    line_now q =
        line-push (cs j) b e' q
        ∙ ap (λ (o : Option Command). cond (option_map_or (is_start_of q) o false && is_started a) (Some c.line)
        (cond (option_map_or (is_question_of q) o false && is_result a) None (line_of_name (cs j) b q))) at_line

    -- a start is taken: its name is free
    free_here : (q : ℕ) → is_start_of q c.command ≡ true → live (cs j) b q ≡ None
    free_here q starts =
        let waits : waits_for q false (map (λ (d : Done). d.own.command) ran) ≡ false =
        subst (λ (xs : List Command). waits_for q false xs ≡ false) (owned ran)
        (apart_here q false (map (λ (c : Numbered). c.command) (owns ran)) c.command
        (map (λ (c : Numbered). c.command) more)
        (subst (λ (xs : List Command). are_apart q false xs ≡ true)
        (ap (λ (xs : List Numbered). map (λ (c : Numbered). c.command) xs) cut
        ∙ map-append (λ (c : Numbered). c.command) (owns ran) (c ∷ more)) (apart q)) starts) in
        ap (λ (o : Option ℕ). option_and_then (request_at b) o)
        (state.shut q (shut_from q false true ran (λ is. refl) waits))
      where
        owned : (ran : List Done) → map (λ (c : Numbered). c.command) (owns ran) ≡ map (λ (d : Done). d.own.command) ran
        owned [] = refl
        owned (d ∷ ran) = ap (λ (xs : List Command). d.own.command ∷ xs) (owned ran)

    pub taken : starts_one c.command ≡ true → is_started a ≡ true
    taken one = by_command c.command one right (λ q starts. free_here q starts)
      where
        by_command : (x : Command) → starts_one x ≡ true → answer_of (cs j) b c.line x ≡ Some (without_bytes a) →
            ((q : ℕ) → is_start_of q x ≡ true → live (cs j) b q ≡ None) → is_started a ≡ true
        by_command (command.Send to q tag ctx sync body) one right free =
            started_fact (is_some (live (cs j) b q)) a right ∙ ap (λ (o : Option Request). not (is_some o))
            (free q (eqb_self q))
        by_command (command.Recv q from tag ctx cap) one right free =
            started_fact (is_some (live (cs j) b q)) a right ∙ ap (λ (o : Option Request). not (is_some o))
            (free q (eqb_self q))
        by_command x one right free = absurd (false≢true one)

    start_taken : (q : ℕ) → is_start_of q c.command ≡ true → is_started a ≡ true
    start_taken q starts = taken (start_is_one q c.command own starts)

    -- of a name that this command doesn't start
    line_else : (q : ℕ) → is_start_of q c.command ≡ false →
        line_of_name (cs j) (b ++ e' ∷ []) q ≡ cond (is_question_of q c.command && is_result a) None
        (line_of_name (cs j) b q)
    line_else q starts =
        line_now q ∙ ap (λ (x : Bool). cond (x && is_started a) (Some c.line)
        (cond (is_question_of q c.command && is_result a) None (line_of_name (cs j) b q))) starts

    line_started : (q : ℕ) → is_start_of q c.command ≡ true → line_of_name (cs j) (b ++ e' ∷ []) q ≡ Some c.line
    line_started q starts =
        line_now q ∙ ap (λ (x : Bool). cond x (Some c.line)
        (cond (is_question_of q c.command && is_result a) None (line_of_name (cs j) b q)))
        (both (is_start_of q c.command) (is_started a) starts (start_taken q starts))
      where
        both : (x y : Bool) → x ≡ true → y ≡ true → (x && y) ≡ true
        both true true first second = refl
        both true false first second = absurd (false≢true second)
        both false y first second = absurd (false≢true first)

    starts_else : (q : ℕ) → is_start_of q c.command ≡ false → starts_for q (owns (ran ++ d ∷ [])) ≡ starts_for q
        (owns ran)
    starts_else q starts =
        starts-push q ran d ∙ ap (λ (x : Bool). starts_for q (owns ran) ++ cond x (c ∷ []) []) starts
        ∙ append-nil (starts_for q (owns ran))

    names_now : (q l : ℕ) → line_of_name (cs j) (b ++ e' ∷ []) q ≡ Some l → IsLastStart q l (owns (ran ++ d ∷ []))
    names_now q l held = by_start (is_start_of q c.command) refl
      where
        by_question : (x : Bool) → is_start_of q c.command ≡ false →
            cond x None (line_of_name (cs j) b q) ≡ Some l → IsLastStart q l (owns (ran ++ d ∷ []))
        by_question true starts held = absurd (no_some l held)
        by_question false starts held =
            let last = state.names q l held in
            record {
              front = last.front;
              start = last.start;
              starts = starts_else q starts ∙ last.starts;
              line =
                  last.line;
            }

        by_start : (x : Bool) → is_start_of q c.command ≡ x → IsLastStart q l (owns (ran ++ d ∷ []))
        by_start true starts = record {
          front = starts_for q (owns ran);
          start = c;
          starts = starts-push q ran d ∙ ap (λ (x : Bool). starts_for q (owns ran) ++ cond x (c ∷ []) []) starts;
          line = same_some c.line l (sym (line_started q starts) ∙ held);
        }
        by_start false starts =
            by_question (is_question_of q c.command && is_result a) starts (sym (line_else q starts) ∙ held)

    shut_now : (q : ℕ) → is_shut q (ran ++ d ∷ []) ≡ true → line_of_name (cs j) (b ++ e' ∷ []) q ≡ None
    shut_now q is = by_start (is_start_of q c.command) refl (sym (fold_push (is_shut_after q) true ran d) ∙ is)
      where
        by_result : (x : Bool) → is_result a ≡ x →
            (is_wait_of q c.command || (is_question_of q c.command && not (is_no a))) ≡ true →
            cond (is_question_of q c.command && x) None (line_of_name (cs j) b q) ≡ None
        by_result true result ends = ended (is_question_of q c.command) (asks_of c.command ends)
          where
            ended : (y : Bool) → y ≡ true → cond (y && true) None (line_of_name (cs j) b q) ≡ None
            ended true asks = refl
            ended false asks = absurd (false≢true asks)

            asks_of : (x : Command) → (is_wait_of q x || (is_question_of q x && not (is_no a))) ≡ true →
                is_question_of q x ≡ true
            asks_of (command.Wait q') ends = first (q' == q) (not (is_no a)) ends
              where
                first : (x y : Bool) → (x || (x && y)) ≡ true → x ≡ true
                first true y is = refl
                first false y is = is
            asks_of (command.Test q') ends = and_left (q' == q) (not (is_no a)) ends
            asks_of x ends = absurd (false≢true ends)
        by_result false result ends =
            dropped (is_question_of q c.command)
            (not_live b ran state q (question_dead (cs j) b c.line q a c.command ends result right))
          where
            dropped : (y : Bool) → line_of_name (cs j) b q ≡ None → cond (y && false) None (line_of_name (cs j) b q)
                ≡ None
            dropped true none = none
            dropped false none = none

        by_end : (x : Bool) → (is_wait_of q c.command || (is_question_of q c.command && not (is_no a))) ≡ x →
            cond x true (is_shut q ran) ≡ true → cond (is_question_of q c.command && is_result a) None
            (line_of_name (cs j) b q) ≡ None
        by_end true ends is = by_result (is_result a) refl ends
        by_end false ends is = kept (is_question_of q c.command && is_result a)
          where
            kept : (y : Bool) → cond y None (line_of_name (cs j) b q) ≡ None
            kept true = refl
            kept false = state.shut q is

        by_start : (x : Bool) → is_start_of q c.command ≡ x →
            cond x false (cond (is_wait_of q c.command || (is_question_of q c.command && not (is_no a))) true
            (is_shut q ran)) ≡ true →
            line_of_name (cs j) (b ++ e' ∷ []) q ≡ None
        by_start true starts is = absurd (false≢true is)
        by_start false starts is = line_else q starts
            ∙ by_end (is_wait_of q c.command || (is_question_of q c.command && not (is_no a))) refl is

    -- the receives of a channel are those of a name, where this command starts none
    posted_lines : (q i tag ctx : ℕ) → IsOneChannel q i tag ctx → is_start_of q c.command ≡ false →
        post_lines b i tag ctx ≡ lines_of (λ c. is_start_of q c.command) (owns ran)
    posted_lines q i tag ctx one starts =
        let f : Happened → Option ℕ = post_line i tag ctx in
        let g : Numbered → Bool = λ (c : Numbered). receives_it i tag ctx c.command in
        let none : filter_map f (since_command b) ≡ [] =
        read_starts f (posts_read i tag ctx) (since_command b)
        ∙ ap (λ (ws : List Happened). filter_map f ws) (began ∙ starts_made shape.eager c.line (cs j) b c.command
        (is_started a) own taken)
        ∙ posts_named i tag ctx shape.eager (cs j) c own
        ∙ ap (λ (x : Bool). cond x (c.line ∷ []) []) (one (length (owns ran) + 0) c here ∙ starts) in
        state.reads f g (posts_read i tag ctx) (posts_named i tag ctx)
        ∙ ap (λ (ls : List ℕ). lines_of g (owns ran) ++ ls) none ∙ append-nil (lines_of g (owns ran))
        ∙ ap (λ (xs : List Numbered). map (λ (c : Numbered). c.line) xs)
        (filter_same g (λ c. is_start_of q c.command) (owns ran)
        (λ k x place. one k x (ap (λ (xs : List Numbered). slice_get xs k) state.split
        ∙ get_before (owns ran) state.more k x place)))

    -- the result that this command shows
    result_now : (q i tag ctx : ℕ) → IsOneChannel q i tag ctx → (front : List Numbered) (start : Numbered) →
        starts_for q (owns ran) ≡ front ++ start ∷ [] → is_start_of q c.command ≡ false →
        is_question_of q c.command ≡ true →
        is_result a ≡ true → Takes shape cs at hist run lengths i j tag ctx (length front) a
    result_now q i tag ctx one front start starts none asks some =
        let asked = question_asked (cs j) b c.line q a c.command asks some right in
        by_line (line_of_name (cs j) b q) refl asked.request asked.alive asked.result asked.pair
      where
        by_line : (o : Option ℕ) → line_of_name (cs j) b q ≡ o → (r : Request) → live (cs j) b q ≡ Some r →
            result_of b r ≡ Some (without_bytes a) → asked_pair (cs j) b c.command ≡ pair_of_request b r →
            Takes shape cs at hist run lengths i j tag ctx (length front) a
        by_line None held r alive result pair =
            absurd (no_some r (sym (ap (λ (o : Option ℕ). option_and_then (request_at b) o) held) ∙ alive))
        by_line (Some l) held r alive result pair =
            by_request r (sym (ap (λ (o : Option ℕ). option_and_then (request_at b) o) held) ∙ alive) result pair
          where
            last : IsLastStart q l (owns ran)
            last = state.names q l held

            place : slice_get (starts_for q (owns ran)) (length last.front) ≡ Some last.start
            place = ap (λ (xs : List Numbered). slice_get xs (length last.front)) last.starts
                ∙ last_place last.front last.start

            same_len : length last.front ≡ length front
            same_len =
                let both = ap (λ (xs : List Numbered). length xs) (sym last.starts ∙ starts) in
                omega (arith, both, length-append last.front (last.start ∷ []), length-append front (start ∷ []))

            fit : EachFits shape.eager (cs j) b
            fit = (all_split _ b (e ∷ rest) (subst (λ (h : List Event). EachFits shape.eager (cs j) h) whole
                (fits shape cs at hist run j inside))).0

            from : (n : ℕ) × (slice_get (owns ran) n ≡ Some last.start) × (is_start_of q last.start.command ≡ true)
                × (length last.front ≡ length (filter (λ (c : Numbered). is_start_of q c.command) (take n (owns ran))))
            from = kept_from (λ (c : Numbered). is_start_of q c.command) (owns ran) (length last.front) last.start place

            among : slice_get (cs j) from.0 ≡ Some last.start
            among = ap (λ (xs : List Numbered). slice_get xs from.0) state.split
                ∙ get_before (owns ran) state.more from.0 last.start from.1

            stands : command_at (cs j) l ≡ Some last.start.command
            stands = ap (λ (k : ℕ). command_at (cs j) k) (sym last.line) ∙ run.stand j from.0 last.start among

            by_request : (r : Request) → request_at b l ≡ Some r → result_of b r ≡ Some (without_bytes a) →
                asked_pair (cs j) b c.command ≡ pair_of_request b r → Takes shape cs at hist run lengths i j tag ctx
                (length front) a
            by_request (Sending to n) made result pair =
                let posts = receive_is i tag ctx last.start.command (run.named j l last.start.command stands)
                (one from.0 last.start among ∙ from.2) in
                let calls = (send_made shape.eager (cs j) b l to n fit made).fits in
                let same : calls.command ≡ command.Recv posts.name (peer.One i) (pick.One tag) ctx posts.cap =
                same_some calls.command last.start.command (sym calls.at_line ∙ stands) ∙ posts.is in
                absurd (false≢true (sym (ap (λ (x : Command). is_sending (start_of shape.eager (cs j) [] l x)) same)
                ∙ ap (λ (ws : List Happened). is_sending ws) calls.start))
            by_request (Receiving number) made result pair =
                let posts = receive_is i tag ctx last.start.command (run.named j l last.start.command stands)
                (one from.0 last.start among ∙ from.2) in
                let found = taken_from shape cs at hist run lengths j b e rest c.line l number a posts.name i tag ctx
                posts.cap inside whole what
                (ap (λ (o : Option Command). option_and_then (asked_pair (cs j) b) o) at_line ∙ pair) made
                (stands ∙ ap (λ (x : Command). Some x) posts.is) result in
                let spot = get_from_map (λ (c : Numbered). c.line) (starts_for q (owns ran)) found.0 l
                (ap (λ (ls : List ℕ). slice_get ls found.0) (sym (posted_lines q i tag ctx one none)) ∙ found.1) in
                let rises = rising_kept (λ (c : Numbered). is_start_of q c.command) 2 (owns ran)
                (rising_front 2 (owns ran) state.more
                (subst (λ (xs : List Numbered). Rising 2 xs) state.split rising)) in
                subst (λ (x : ℕ). Takes shape cs at hist run lengths i j tag ctx x a)
                (one_place 2 found.0 (length last.front) (starts_for q (owns ran)) spot.0 last.start rises spot.1
                place (spot.2 ∙ sym last.line) ∙ same_len)
                found.2

    end_now : (q : ℕ) → (is_question_of q c.command && is_end a) ≡ true → last_end q (ran ++ d ∷ []) ≡ Some a
    end_now q is = fold_push (end_after q) None ran d ∙ ap (λ (x : Bool). cond x (Some a) (last_end q ran)) is

    end_else : (q : ℕ) → (is_question_of q c.command && is_end a) ≡ false → last_end q (ran ++ d ∷ []) ≡ last_end q ran
    end_else q is = fold_push (end_after q) None ran d ∙ ap (λ (x : Bool). cond x (Some a) (last_end q ran)) is

    results_now : (q i tag ctx : ℕ) → IsOneChannel q i tag ctx → (front : List Numbered) (start : Numbered) →
        starts_for q (owns (ran ++ d ∷ [])) ≡ front ++ start ∷ [] → line_of_name (cs j) (b ++ e' ∷ []) q ≡ None →
        IsEnded i tag ctx (length front) (last_end q (ran ++ d ∷ []))
    results_now q i tag ctx one front start starts none = by_start (is_start_of q c.command) refl
      where
        by_question : (x : Bool) → is_question_of q c.command ≡ x → (y : Bool) → is_result a ≡ y →
            is_start_of q c.command ≡ false →
            IsEnded i tag ctx (length front) (last_end q (ran ++ d ∷ []))
        by_question true asks true some silent =
            let takes = result_now q i tag ctx one front start (sym (starts_else q silent) ∙ starts) silent asks some in
            record { result = a; is = end_now q (rw asks (is_shown i tag a takes.command takes.shows)); takes = takes }
          where
            is_shown : (i tag : ℕ) (a : Answer) (x : Command) → Shows i tag (sent_bytes x) a → is_end a ≡ true
            is_shown i tag a x shows = elim shows [
              | inl got ↦ ap (λ (a : Answer). is_end a) got
              | inr cut ↦ ap (λ (a : Answer). is_end a) cut
            ]
        by_question true asks false dead silent =
            let over : (is_question_of q c.command && is_result a) ≡ false = rw (asks, dead) refl in
            let ended = state.results q i tag ctx one front start (sym (starts_else q silent) ∙ starts)
            (sym (line_else q silent ∙ ap (λ (x : Bool). cond x None (line_of_name (cs j) b q)) over) ∙ none) in
            record { result = ended.result; is = end_else q (rw asks (no_end a dead)) ∙ ended.is; takes = ended.takes }
          where
            no_end : (a : Answer) → is_result a ≡ false → is_end a ≡ false
            no_end (answer.Got from tag body) dead = dead
            no_end (answer.Cut from tag len) dead = dead
            no_end a dead = refl
        by_question false asks y some silent =
            let ended = state.results q i tag ctx one front start (sym (starts_else q silent) ∙ starts)
            (sym (line_else q silent ∙ ap (λ (x : Bool). cond (x && is_result a) None (line_of_name (cs j) b q)) asks)
            ∙ none) in
            record { result = ended.result; is = end_else q (rw asks refl) ∙ ended.is; takes = ended.takes }

        by_start : (x : Bool) → is_start_of q c.command ≡ x → IsEnded i tag ctx (length front)
            (last_end q (ran ++ d ∷ []))
        by_start true begins = absurd (no_some c.line (sym none ∙ line_started q begins))
        by_start false begins = by_question (is_question_of q c.command) refl (is_result a) refl begins

    pub state_answer : State (b ++ e' ∷ []) (ran ++ d ∷ [])
    state_answer = record {
      more = more;
      split = cut ∙ sym (append_assoc (owns ran) (c ∷ []) more) ∙ ap (λ (xs : List Numbered). xs ++ more)
          (sym (owns-push ran d));
      reads = λ f g reads tells. subst (λ (xs : List Numbered). IsRead f g xs (b ++ e' ∷ [])) (sym (owns-push ran d))
          (read_answer f g reads tells shape.eager (cs j) (owns ran) b e.stamp c a own taken began
          (state.reads f g reads tells));
      names = names_now;
      shut = shut_now;
      results = results_now;
    }
