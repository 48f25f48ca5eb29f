-- A request that can't end stays that of its name. MPI 3.1, 3.7.2, 3.7.3.
use Rattle.std.proofs.Common.{◌≡◌, ℕ, ◌==◌, ◌&&◌, Bool, true, false, cond, Option, Some, None}
use Rattle.std.proofs.Common.{List, [], ◌∷◌, ◌++◌, refl, sym, ◌∙◌, ap, subst, arith, append-nil}
use Rattle.std.proofs.Common.{append_assoc}
use Rattle.std.specs.Prelude.{IsSomeAnd, is_some, option_and_then, unwrap_or}
use Rattle.std.specs.List.{cons_option, filter_map, slice_get}
use Rattle.std.specs.Option.{option_map_or}
use Rattle.std.proofs.lemmas.Bool.{false≢true}
use Rattle.nm_types.specs.declared.answers.Answer.{Answer}
use Rattle.nm_types.specs.declared.answers.Answer.TheVariants as answer
use Rattle.nm_types.specs.declared.messages.Post as post
use Rattle.nm_types.specs.declared.scripts.Command.{Command}
use Rattle.nm_types.specs.declared.scripts.Command.TheVariants as command
use Rattle.nm_types.specs.declared.scripts.Line.{Line}
use Rattle.nm_types.specs.Commands.{Numbered, command_at, commands_of}
use Rattle.nm_types.specs.Sizes.{Sizes}
use Rattle.nm_types.proofs.NumberLemmas.{same_number}
use Rattle.nm_types.proofs.OptionLemmas.{no_some}
use Rattle.nm_types.proofs.TruthLemmas.{and_left, and_right, neither}
use Rattle.nm_history.specs.declared.events.Event.{Event}
use Rattle.nm_history.specs.declared.events.Happened.{Happened}
use Rattle.nm_history.specs.declared.events.Happened.TheVariants as event
use Rattle.nm_history.specs.Answers.{Message as claimed, answer_of, is_question_of, is_result, is_start_of, is_started}
use Rattle.nm_history.specs.Answers.{line_after, line_of_name, live, live_message, request_at, request_of}
use Rattle.nm_history.specs.Answers.{without_bytes}
use Rattle.nm_history.specs.Completion.{Request as asked, result_of}
use Rattle.nm_history.specs.Happens.{happened}
use Rattle.nm_history.specs.Quiescence.{Ended, Packets}
use Rattle.nm_history.specs.RankRun.{AnswerAt, start_of}
use Rattle.nm_history.proofs.AnswerLemmas.{line-push}
use Rattle.nm_history.proofs.Sent.{happened-append}
use Rattle.nm_outcomes.specs.Logs.{Step, history_in}
use Rattle.nm_outcomes.specs.Places.{RankPoint}
use Rattle.nm_outcomes.proofs.LogLemmas.{own_run}
use Rattle.nm_lawful.specs.Moves.{Report}
use Rattle.nm_runs_lawful.specs.Stands.{IsRunTold, IsSoFar}
use Rattle.nm_runs_lawful.proofs.AnsweredLemmas.{no_bytes}
use Rattle.nm_runs_lawful.proofs.StandingLemmas.{at_event}

-- the command of a receive's start
pub record IsRecv (l : ℕ) (p : post.Post) (line : ℕ) (c : Command) : Type 0 where
  pub q : ℕ
  pub is : c ≡ command.Recv q p.from p.tag p.ctx p.cap
  pub line_is : line ≡ l

pub recv_command : (eager l : ℕ) (commands : List Numbered) (h : List Event) (p : post.Post) (line : ℕ) (c : Command) →
    event.Post (record p { number = 0 }) line ∷ [] ≡ start_of eager commands h l c → IsRecv l p line c
recv_command eager l commands h p line (command.Recv q from tag ctx cap) same =
    let posted : (record p { number = 0 })
    ≡ (record { number = 0; from = from; tag = tag; ctx = ctx; cap = cap }) = cc in
    let one : p.from ≡ from = ap (λ (x : post.Post). x.from) posted in
    let two : p.tag ≡ tag = ap (λ (x : post.Post). x.tag) posted in
    let three : p.ctx ≡ ctx = ap (λ (x : post.Post). x.ctx) posted in
    let four : p.cap ≡ cap = ap (λ (x : post.Post). x.cap) posted in
    record { q = q; is = rw (one, two, three, four) refl; line_is = cc }
recv_command eager l commands h p line (command.Mrecv q m cap) same =
    absurd (by_message (live_message commands h m) same)
  where
    by_message : (o : Option claimed) → event.Post (record p { number = 0 }) line ∷ []
        ≡ option_map_or (λ (message : claimed). event.Match 0 message.from message.n cap l ∷ []) o [] → ⊥
    by_message None same = grind arith
    by_message (Some message) same = grind arith
recv_command eager l commands h p line c same = absurd (grind arith)

-- the request of a line stays its
pub request_stays : (line : ℕ) (x more : List Event) (r : asked) → request_at x line ≡ Some r →
    request_at (x ++ more) line ≡ Some r
request_stays line [] more r is = absurd (no_some r is)
request_stays line (e ∷ x) more r is = by_first (request_of line e.what) is (request_stays line x more r)
  where
    by_first : (o : Option asked) →
        slice_get (cons_option o (filter_map (λ (e : Event). request_of line e.what) x)) 0 ≡ Some r →
        (request_at x line ≡ Some r → request_at (x ++ more) line ≡ Some r) →
        slice_get (cons_option o (filter_map (λ (e : Event). request_of line e.what) (x ++ more))) 0 ≡ Some r
    by_first None is rest = rest is
    by_first (Some y) is rest = is

-- what has not happened had not happened before
pub not_before : (test : Happened → Bool) (x more : List Event) → happened test (x ++ more) ≡ false →
    happened test x ≡ false
not_before test x more none =
    (neither (happened test x) (happened test more) (sym (happened-append test x more) ∙ none)).0

-- The request of a name at a moment, which can't end from then on.
module _ (shape : Sizes) (lines : List Line) (ranks : List Ended) (packets : List Packets) (told : Report)
    (is : IsRunTold shape lines ranks packets told) (before : List Step) (later : List Step)
    (w : ℕ → RankPoint) (next : IsSoFar shape lines ranks before later w) (i q l : ℕ) (r : asked)
  where
    abbrev commands : List Numbered
    commands = commands_of i lines

    abbrev h : List Event
    h = history_in before i

    -- no answer takes it away
    module _ (x : List Event) (y : Event) (rest : List Event) (split : h ≡ x ++ y ∷ rest)
        (stands : line_of_name commands x q ≡ Some l) (request : request_at x l ≡ Some r)
        (unended : result_of x r ≡ None)
      where
        live_is : live commands x q ≡ Some r
        live_is = ap (λ (o : Option ℕ). option_and_then (request_at x) o) stands ∙ request

        answers : (l' : ℕ) (a : Answer) → y.what ≡ event.Ran l' a →
            IsSomeAnd (command_at commands l') (λ c. answer_of commands x l' c ≡ Some (without_bytes a))
        answers l' a ran =
            subst (λ (what : Happened). AnswerAt commands x what) ran
            (at_event shape lines ranks packets told is before later w next i (λ b e. AnswerAt commands b e.what)
            (own_run shape lines ranks packets is.run i).answers.right x y rest split)

        not_started : (l' : ℕ) (a : Answer) → y.what ≡ event.Ran l' a →
            option_map_or (is_start_of q) (command_at commands l') false ≡ true → is_started a ≡ true → ⊥
        not_started l' a ran starts started = by_command (command_at commands l') starts (answers l' a ran)
          where
            busy : (q' : ℕ) → (q' == q) ≡ true → (z : Answer) →
                Some (cond (is_some (live commands x q')) answer.Busy z) ≡ Some (without_bytes a) → ⊥
            busy q' same z may =
                let so : Some answer.Busy ≡ Some (without_bytes a) =
                sym (ap (λ (o : Option asked). Some (cond (is_some o) answer.Busy z))
                (ap (live commands x) (same_number q' q same) ∙ live_is)) ∙ may in
                false≢true (sym (ap is_started (no_bytes answer.Busy a (λ from tag body same. grind arith) so))
                ∙ started)

            by_command : (o : Option Command) → option_map_or (is_start_of q) o false ≡ true →
                IsSomeAnd o (λ c. answer_of commands x l' c ≡ Some (without_bytes a)) → ⊥
            by_command (Some (command.Send to q' tag ctx sync body)) starts may = busy q' starts answer.Started may
            by_command (Some (command.Recv q' from tag ctx cap)) starts may = busy q' starts answer.Started may
            by_command (Some (command.Mrecv q' m cap)) starts may =
                busy q' starts (cond (is_some (live_message commands x m)) answer.Started answer.Null) may
            by_command (Some (command.Wait q')) starts may = false≢true starts
            by_command (Some (command.Test q')) starts may = false≢true starts
            by_command (Some (command.Probe from tag ctx)) starts may = false≢true starts
            by_command (Some (command.Await from tag ctx)) starts may = false≢true starts
            by_command (Some (command.Cancel q')) starts may = false≢true starts
            by_command (Some (command.Mprobe m from tag ctx)) starts may = false≢true starts
            by_command None starts may = false≢true starts

        not_ended : (l' : ℕ) (a : Answer) → y.what ≡ event.Ran l' a →
            option_map_or (is_question_of q) (command_at commands l') false ≡ true → is_result a ≡ true → ⊥
        not_ended l' a ran asks ends = by_command (command_at commands l') asks (answers l' a ran)
          where
            by_command : (o : Option Command) → option_map_or (is_question_of q) o false ≡ true →
                IsSomeAnd o (λ c. answer_of commands x l' c ≡ Some (without_bytes a)) → ⊥
            by_command (Some (command.Wait q')) asks may =
                no_some (without_bytes a)
                (sym (ap (λ (o : Option asked). option_map_or (result_of x) o (Some answer.Null))
                (ap (live commands x) (same_number q' q asks) ∙ live_is) ∙ unended) ∙ may)
            by_command (Some (command.Test q')) asks may =
                let so : Some answer.No ≡ Some (without_bytes a) =
                sym (ap (λ (o : Option asked). Some (option_map_or (λ r. unwrap_or (result_of x r) answer.No) o
                answer.Null)) (ap (live commands x) (same_number q' q asks) ∙ live_is)
                ∙ ap (λ (o : Option Answer). Some (unwrap_or o answer.No)) unended) ∙ may in
                false≢true (sym (ap is_result (no_bytes answer.No a (λ from tag body same. grind arith) so)) ∙ ends)
            by_command (Some (command.Send to q' tag ctx sync body)) asks may = false≢true asks
            by_command (Some (command.Recv q' from tag ctx cap)) asks may = false≢true asks
            by_command (Some (command.Probe from tag ctx)) asks may = false≢true asks
            by_command (Some (command.Await from tag ctx)) asks may = false≢true asks
            by_command (Some (command.Cancel q')) asks may = false≢true asks
            by_command (Some (command.Mprobe m from tag ctx)) asks may = false≢true asks
            by_command (Some (command.Mrecv q' m cap)) asks may = false≢true asks
            by_command None asks may = false≢true asks

        still : line_of_name commands (x ++ y ∷ []) q ≡ Some l
        still =
            line-push commands x y q ∙ ap (λ (o : Option ℕ). line_after commands q o y.what) stands
            ∙ by_event y.what refl
          where
            by_end : (l' : ℕ) (a : Answer) → y.what ≡ event.Ran l' a → (z : Bool) →
                (option_map_or (is_question_of q) (command_at commands l') false && is_result a) ≡ z →
                cond z None (Some l) ≡ Some l
            by_end l' a ran true so =
                absurd (not_ended l' a ran
                (and_left (option_map_or (is_question_of q) (command_at commands l') false) (is_result a) so)
                (and_right (option_map_or (is_question_of q) (command_at commands l') false) (is_result a) so))
            by_end l' a ran false so = refl

            by_start : (l' : ℕ) (a : Answer) → y.what ≡ event.Ran l' a → (z : Bool) →
                (option_map_or (is_start_of q) (command_at commands l') false && is_started a) ≡ z →
                cond z (Some l')
                (cond (option_map_or (is_question_of q) (command_at commands l') false && is_result a) None (Some l))
                ≡ Some l
            by_start l' a ran true so =
                absurd (not_started l' a ran
                (and_left (option_map_or (is_start_of q) (command_at commands l') false) (is_started a) so)
                (and_right (option_map_or (is_start_of q) (command_at commands l') false) (is_started a) so))
            by_start l' a ran false so =
                by_end l' a ran (option_map_or (is_question_of q) (command_at commands l') false && is_result a) refl

            by_event : (what : Happened) → y.what ≡ what → line_after commands q (Some l) what ≡ Some l
            by_event (event.Ran l' a) ran =
                by_start l' a ran (option_map_or (is_start_of q) (command_at commands l') false && is_started a) refl
            by_event what ran = refl

    -- so it stays
    module _ (front : List Event) (request : request_at front l ≡ Some r)
        (unended : (z rest : List Event) → history_in before i ≡ (front ++ z) ++ rest → result_of (front ++ z) r ≡ None)
      where
        walk : (z rest : List Event) → h ≡ (front ++ z) ++ rest → line_of_name commands (front ++ z) q ≡ Some l →
            line_of_name commands h q ≡ Some l
        walk z [] split stands =
            ap (λ (k : List Event). line_of_name commands k q) (split ∙ append-nil (front ++ z)) ∙ stands
        walk z (y ∷ rest) split stands =
            walk (z ++ y ∷ []) rest
            (split ∙ sym (append_assoc (front ++ z) (y ∷ []) rest)
            ∙ ap (λ (k : List Event). k ++ rest) (append_assoc front z (y ∷ [])))
            (ap (λ (k : List Event). line_of_name commands k q) (sym (append_assoc front z (y ∷ [])))
            ∙ still (front ++ z) y rest split stands (request_stays l front z r request) (unended z (y ∷ rest) split))

        pub named_still : (rest : List Event) → history_in before i ≡ front ++ rest →
            line_of_name (commands_of i lines) front q ≡ Some l → (w i).named q ≡ Some l
        named_still rest split stands =
            (next.places i).named q
            ∙ walk [] rest (split ∙ ap (λ (k : List Event). k ++ rest) (sym (append-nil front)))
            (ap (λ (k : List Event). line_of_name commands k q) (append-nil front) ∙ stands)
