-- A wait or a test ends a request. MPI 3.1, 3.7.3, 3.8.4.
use Rattle.std.proofs.Common.{◌≡◌, ◌⊎◌, inl, inr, ℕ, ◌+◌, ◌-◌, ◌==◌, ◌&&◌, ◌||◌, Bool, true, false, cond, Option, Some}
use Rattle.std.proofs.Common.{None, List, [], ◌∷◌, ◌++◌, length, refl, sym, ◌∙◌, ap, subst, arith, append-nil}
use Rattle.std.specs.Prelude.{MatchOption, nat_le, nat_lt, not, option_and_then, option_map, replicate}
use Rattle.std.specs.List.{cons_option, filter, filter_map, list_any, slice_get}
use Rattle.std.specs.Option.{option_map_or}
use Rattle.std.proofs.lemmas.List.Elements.{filter_map-append}
use Rattle.std.proofs.lemmas.Bool.{false≢true, ltb-false}
use Rattle.nm_types.specs.declared.answers.Answer.{Answer}
use Rattle.nm_types.specs.declared.answers.Answer.TheVariants as answer
use Rattle.nm_types.specs.declared.scripts.Command.{Command}
use Rattle.nm_types.specs.declared.scripts.Command.TheVariants as command
use Rattle.nm_types.specs.declared.scripts.Line.{Line}
use Rattle.nm_types.specs.Commands.{Numbered, command_at, commands_of}
use Rattle.nm_types.specs.Sizes.{Sizes}
use Rattle.nm_types.proofs.NumberLemmas.{eq_true, same_number}
use Rattle.nm_types.proofs.OptionLemmas.{no_some, same_some}
use Rattle.nm_types.proofs.TruthLemmas.{same_test}
use Rattle.nm_history.specs.declared.events.Event.{Event}
use Rattle.nm_history.specs.declared.events.Happened.{Happened}
use Rattle.nm_history.specs.declared.events.Happened.TheVariants as event
use Rattle.nm_history.specs.declared.plain.Pair.{Pair}
use Rattle.nm_history.specs.Answers.{is_question_of, is_result, is_seen, is_start_of, is_started, line_after}
use Rattle.nm_history.specs.Answers.{without_bytes}
use Rattle.nm_history.specs.Completion.{Request as asked, shown}
use Rattle.nm_history.specs.Quiescence.{Ended, Packets}
use Rattle.nm_history.specs.RankRun.{is_canceller, ran_lines}
use Rattle.nm_history.specs.Totals.{is_sent}
use Rattle.nm_history.proofs.Basic.{le_true, or_false, or_true}
use Rattle.nm_history.proofs.ResultLemmas.{bytes_no_matter}
use Rattle.nm_history.proofs.OnceLemmas.{eqb_self}
use Rattle.nm_outcomes.specs.Logs.{Step, history_in}
use Rattle.nm_outcomes.specs.Moves.{MayAnswer, is_free_in, may_show, pair_in, request_now}
use Rattle.nm_outcomes.specs.Paths.{moved}
use Rattle.nm_outcomes.specs.Places.{RankPoint, after}
use Rattle.nm_outcomes.proofs.LogLemmas.{grown_here, grown_other}
use Rattle.nm_lawful.specs.declared.messages.Act.TheVariants as act
use Rattle.nm_lawful.specs.declared.messages.Request.{Request}
use Rattle.nm_lawful.specs.declared.messages.Standing.{Standing}
use Rattle.nm_lawful.specs.declared.messages.Standing.TheVariants as standing
use Rattle.nm_lawful.specs.Moves.{Report}
use Rattle.nm_lawful.specs.declared.messages.Act.{Act}
use Rattle.nm_lawful.specs.Replies.{act_of_lem, ends_lem, has_bytes_lem, is_cancelled_lem, is_result_lem, may_end_lem}
use Rattle.nm_lawful.specs.Replies.{nulled_lem}
use Rattle.nm_lawful.specs.Replies.{pattern_lem, tested_lem, waited_lem}
use Rattle.nm_lawful.specs.Ranks.{is_waiting_lem, live_lem}
use Rattle.nm_runs_lawful.specs.Stands.{IsNext, IsRunTold, LookAlike, OwnAlike, SeenAlike, StepLeads, behind, claim_by}
use Rattle.nm_runs_lawful.specs.Stands.{is_match_of}
use Rattle.nm_runs_lawful.specs.Stands.{effects, is_live_at, is_sync, line_of, message_at, message_by, name_of}
use Rattle.nm_runs_lawful.specs.Stands.{rank_of, request_by}
use Rattle.nm_runs_lawful.specs.Stands.{standing_of, state_of, taken_by}
use Rattle.nm_runs_lawful.proofs.AlikeLemmas.{grown_with, kept_rank, live_request, standing_alike, started_at}
use Rattle.nm_runs_lawful.proofs.AnsweredLemmas.{and_nothing, due, handle_kept, here, idle, idle_effects, not_begun}
use Rattle.nm_runs_lawful.proofs.AnsweredLemmas.{ran_effects}
use Rattle.nm_runs_lawful.proofs.AnsweredLemmas.{no_bytes, told_here}
use Rattle.nm_runs_lawful.proofs.LiveLemmas.{idle_live, one_lives, request_from, request_with, start_in, start_line}
use Rattle.nm_runs_lawful.proofs.NamedLemmas.{command_due, may_here}
use Rattle.nm_runs_lawful.proofs.NextLemmas.{behind_next, line_there}
use Rattle.nm_runs_lawful.proofs.QuietLemmas.{first_alone}
use Rattle.nm_runs_lawful.proofs.RunLemmas.{run_leads}

-- those of a list that are kept
kept_of : {X Y : Type 0} (keep : Y → Bool) (f g : X → Option Y) →
    ((x : X) → g x ≡ option_and_then (λ (y : Y). cond (keep y) (Some y) None) (f x)) → (xs : List X) →
    filter keep (filter_map f xs) ≡ filter_map g xs
kept_of keep f g each [] = refl
kept_of {X} {Y} keep f g each (x ∷ xs) =
    by_first (f x) (kept_of keep f g each xs)
    ∙ ap (λ (o : Option Y). cons_option o (filter_map g xs)) (sym (each x))
  where
    by_test : (y : Y) (b : Bool) → filter keep (filter_map f xs) ≡ filter_map g xs →
        cond b (y ∷ filter keep (filter_map f xs)) (filter keep (filter_map f xs))
        ≡ cons_option (cond b (Some y) None) (filter_map g xs)
    by_test y true rest = ap (λ (ys : List Y). y ∷ ys) rest
    by_test y false rest = rest

    by_first : (o : Option Y) → filter keep (filter_map f xs) ≡ filter_map g xs →
        filter keep (cons_option o (filter_map f xs))
        ≡ cons_option (option_and_then (λ (y : Y). cond (keep y) (Some y) None) o) (filter_map g xs)
    by_first None rest = rest
    by_first (Some y) rest = by_test y (keep y) rest

and_so : (b : Bool) → (b && true) ≡ b
and_so true = refl
and_so false = refl

-- the places of the ranks behind a step of one of them
module _ (lines : List Line) (w : ℕ → RankPoint) (s : Step) where
  pub moved_own : moved lines w s s.rank ≡ after s.rank (commands_of s.rank lines) (w s.rank) s.event.what
  moved_own = rw (eqb_self s.rank) refl

  pub moved_other : (k : ℕ) → (s.rank == k) ≡ false → LookAlike (w k) (moved lines w s k)
  moved_other k other =
      subst (λ (b : Bool). LookAlike (w k) (cond b (after k (commands_of k lines) (w k) s.event.what) (w k))) (sym
      other)
      (record {
        live = λ q line. refl;
        handled = λ m. refl;
        matched = λ from n. refl;
        known = λ from n. refl;
        pairs = λ number. refl;
        off = λ number. refl;
        taken = λ from n. refl;
        withdrawn = λ from n. refl;
        recalled = λ to n. refl;
        lines = λ to. refl;
      })

  pub moved_seen : SeenAlike (w s.rank) (after s.rank (commands_of s.rank lines) (w s.rank) s.event.what) → (r : ℕ) →
      SeenAlike (w r) (moved lines w s r)
  moved_seen own r = by_rank (s.rank == r) refl
    where
      by_rank : (b : Bool) → (s.rank == r) ≡ b →
          SeenAlike (w r) (cond b (after r (commands_of r lines) (w r) s.event.what) (w r))
      by_rank true same =
          subst (λ (r : ℕ). SeenAlike (w r) (after r (commands_of r lines) (w r) s.event.what))
          (same_number s.rank r same) own
      by_rank false other = record { taken = λ from n. refl; withdrawn = λ from n. refl; lines = λ to. refl }

pub ran_seen : (me : ℕ) (commands : List Numbered) (p : RankPoint) (line : ℕ) (a : Answer) →
    SeenAlike p (after me commands p (event.Ran line a))
ran_seen me commands p line a = record {
  taken = λ from n. or_false (p.taken from n);
  withdrawn = λ from n. or_false (p.withdrawn from n);
  lines = λ to. append-nil (p.lines to);
}

-- A request of a name ends, where the name stands for nothing afterwards and all else is the same.
module _ (commands : List Numbered) (w v : ℕ → RankPoint) (i q : ℕ) (own : OwnAlike (w i) (v i))
    (seen : (r : ℕ) → SeenAlike (w r) (v r)) (before : (w i).begun ≡ []) (behind : (v i).begun ≡ [])
    (names : (name : ℕ) → (v i).named name ≡ cond (q == name) None ((w i).named name))
  where
    abbrev keep : Request → Bool
    keep r = not (r.q == q)

    turned : (name : ℕ) → (name == q) ≡ (q == name)
    turned name =
        same_test (name == q) (q == name) (λ same. eq_true q name (sym (same_number name q same)))
        (λ same. eq_true name q (sym (same_number q name same)))

    by_live : (line name : ℕ) (s : Standing) (b c lives : Bool) → (name == q) ≡ c → c ≡ b →
        cond (cond b false lives) (started_at s line name) None
        ≡ option_and_then (λ (r : Request). cond (keep r) (Some r) None) (cond lives (started_at s line name) None)
    by_live line name s true c true is same =
        ap (λ (b : Bool). cond (not b) (started_at s line name) None) (sym (is ∙ same))
    by_live line name s true c false is same = refl
    by_live line name s false c true is same =
        ap (λ (b : Bool). cond (not b) (started_at s line name) None) (sym (is ∙ same))
    by_live line name s false c false is same = refl

    live_behind : (name line : ℕ) →
        is_live_at (v i) name line ≡ cond (q == name) false (option_map_or (λ l. l == line) ((w i).named name) false)
    live_behind name line =
        idle_live commands v i name behind name line
        ∙ ap (λ (o : Option ℕ). option_map_or (λ l. l == line) o false) (names name)
        ∙ by_name (q == name)
      where
        by_name : (b : Bool) → option_map_or (λ l. l == line) (cond b None ((w i).named name)) false
            ≡ cond b false (option_map_or (λ l. l == line) ((w i).named name) false)
        by_name true = refl
        by_name false = refl

    pub request_ended : (what : Happened) →
        request_by commands v i what
        ≡ option_and_then (λ (r : Request). cond (keep r) (Some r) None) (request_by commands w i what)
    request_ended what = by_line (line_of what)
      where
        by_name : (line : ℕ) (o : Option ℕ) →
            option_and_then (λ (q : ℕ). live_request (v i) (standing_of commands v i what) line q) o
            ≡ option_and_then (λ (r : Request). cond (keep r) (Some r) None)
            (option_and_then (λ (q : ℕ). live_request (w i) (standing_of commands w i what) line q) o)
        by_name line None = refl
        by_name line (Some name) =
            let s = standing_of commands w i what in
            let lives = option_map_or (λ l. l == line) ((w i).named name) false in
            ap (λ (s : Standing). live_request (v i) s line name) (standing_alike w v i own seen commands what)
            ∙ ap (λ (b : Bool). cond b (started_at s line name) None) (live_behind name line)
            ∙ by_live line name s (q == name) (name == q) lives refl (turned name)
            ∙ ap (λ (b : Bool). option_and_then (λ (r : Request). cond (keep r) (Some r) None)
            (cond b (started_at s line name) None)) (sym (idle_live commands w i name before name line))

        by_line : (o : Option ℕ) →
            option_and_then (λ (line : ℕ). option_and_then
            (λ (q : ℕ). live_request (v i) (standing_of commands v i what) line q)
            (option_and_then name_of (command_at commands line))) o
            ≡ option_and_then (λ (r : Request). cond (keep r) (Some r) None)
            (option_and_then (λ (line : ℕ). option_and_then
            (λ (q : ℕ). live_request (w i) (standing_of commands w i what) line q)
            (option_and_then name_of (command_at commands line))) o)
        by_line None = refl
        by_line (Some line) = by_name line (option_and_then name_of (command_at commands line))

-- results, of which bytes are a part of one
cancelled_is : (a : Answer) → Some answer.Cancelled ≡ Some (without_bytes a) → a ≡ answer.Cancelled
cancelled_is a same = no_bytes answer.Cancelled a (λ from tag body is. grind arith) same

sent_is : (a : Answer) → Some answer.Sent ≡ Some (without_bytes a) → a ≡ answer.Sent
sent_is a same = no_bytes answer.Sent a (λ from tag body is. grind arith) same

cut_is : (from tag len : ℕ) (a : Answer) → Some (answer.Cut from tag len) ≡ Some (without_bytes a) →
    a ≡ answer.Cut from tag len
cut_is from tag len a same = no_bytes (answer.Cut from tag len) a (λ from' tag' body is. grind arith) same

got_is : (from tag : ℕ) (zeros : List ℕ) (a : Answer) → Some (answer.Got from tag zeros) ≡ Some (without_bytes a) →
    (body : List ℕ) × (a ≡ answer.Got from tag body)
got_is from tag zeros (answer.Got from' tag' body) same =
    let one : answer.Got from tag zeros ≡ answer.Got from' tag' (replicate (length body) 0) =
    same_some (answer.Got from tag zeros) (answer.Got from' tag' (replicate (length body) 0)) same in
    let first : from ≡ from' = cc in
    let second : tag ≡ tag' = cc in
    (body, rw (first, second) refl)
got_is from tag zeros a same = (zeros, sym (same_some (answer.Got from tag zeros) a same))

-- a synchronous send that a receive has does not wait for one
abbrev pub HasLeft : List Numbered → (ℕ → RankPoint) → ℕ → Bool → Happened → Type 0
HasLeft commands w i waiting (event.Send to n tag ctx len how line) =
    option_map_or is_sync (command_at commands line) false ≡ true →
    ((w i).unasked to n || (w to).taken i n) ≡ true → waiting ≡ false
HasLeft commands w i waiting _ = Unit {0}

-- the bytes of an answer are those of its message
abbrev pub HasBytes : List Line → (ℕ → RankPoint) → ℕ → asked → Answer → Type 0
HasBytes lines w i r a =
    (from tag : ℕ) (body : List ℕ) (pair : Pair) → a ≡ answer.Got from tag body → pair_in (w i) r ≡ Some pair →
    has_bytes_lem lines (message_at w i pair.arrival).place body ≡ true

-- a send ends so in the machine
send_ends : (lines : List Line) (waiting withdrawn left late recalled sync : Bool) (a : Answer) →
    cond withdrawn (Some answer.Cancelled) (cond (left && late) (Some answer.Sent) None) ≡ Some (without_bytes a) →
    (a ≡ answer.Sent → sync ≡ true → left ≡ true → waiting ≡ false) →
    ends_lem lines waiting (cond withdrawn standing.Withdrawn
    (cond recalled (standing.Recalled sync) (standing.Send sync))) a ≡ true
send_ends lines waiting true left late recalled sync a may has =
    ap is_cancelled_lem (cancelled_is a may)
send_ends lines waiting false true true recalled sync a may has = by_recalled recalled
  where
    free : (b : Bool) → sync ≡ b → (not b || not waiting) ≡ true
    free true same = rw (has (sent_is a may) same refl) refl
    free false same = refl

    by_recalled : (b : Bool) →
        ends_lem lines waiting (cond b (standing.Recalled sync) (standing.Send sync)) a ≡ true
    by_recalled true = ap (λ (x : Answer). is_sent x && (not sync || not waiting)) (sent_is a may) ∙ free sync refl
    by_recalled false = ap (λ (x : Answer). is_sent x && (not sync || not waiting)) (sent_is a may) ∙ free sync refl
send_ends lines waiting false true false recalled sync a may has = absurd (no_some (without_bytes a) may)
send_ends lines waiting false false late recalled sync a may has = absurd (no_some (without_bytes a) may)

-- a receive ends so in the machine
receive_ends : (lines : List Line) (w : ℕ → RankPoint) (i : ℕ) (waiting off : Bool) (o : Option Pair) (s : Standing)
    (a : Answer) → cond off (Some answer.Cancelled) (option_map shown o) ≡ Some (without_bytes a) →
    ((from tag : ℕ) (body : List ℕ) (pair : Pair) → a ≡ answer.Got from tag body → o ≡ Some pair →
    has_bytes_lem lines (message_at w i pair.arrival).place body ≡ true) →
    ends_lem lines waiting (cond off standing.Off (taken_by w i o s)) a ≡ true
receive_ends lines w i waiting true o s a may has = ap is_cancelled_lem (cancelled_is a may)
receive_ends lines w i waiting false None s a may has = absurd (no_some (without_bytes a) may)
receive_ends lines w i waiting false (Some pair) s a may has =
    by_cut (nat_lt pair.cap pair.arrival.env.len) refl may
  where
    fits : (x y : ℕ) → nat_lt x y ≡ false → nat_le y x ≡ true
    fits x y over = le_true y x (ltb-false x y over)

    by_cut : (b : Bool) → nat_lt pair.cap pair.arrival.env.len ≡ b →
        Some (cond b (answer.Cut pair.arrival.env.from pair.arrival.env.tag pair.arrival.env.len)
        (answer.Got pair.arrival.env.from pair.arrival.env.tag (replicate pair.arrival.env.len 0)))
        ≡ Some (without_bytes a) →
        is_result_lem lines pair.cap (message_at w i pair.arrival) a ≡ true
    by_cut true over may =
        ap (λ (x : Answer). is_result_lem lines pair.cap (message_at w i pair.arrival) x)
        (cut_is pair.arrival.env.from pair.arrival.env.tag pair.arrival.env.len a may)
        ∙ rw (over, eqb_self pair.arrival.env.from, eqb_self pair.arrival.env.tag, eqb_self pair.arrival.env.len)
        (or_true (pair.arrival.env.len == 0))
    by_cut false over may =
        let got = got_is pair.arrival.env.from pair.arrival.env.tag (replicate pair.arrival.env.len 0) a may in
        ap (λ (x : Answer). is_result_lem lines pair.cap (message_at w i pair.arrival) x) got.1
        ∙ rw (fits pair.cap pair.arrival.env.len over, eqb_self pair.arrival.env.from, eqb_self pair.arrival.env.tag)
        (has pair.arrival.env.from pair.arrival.env.tag got.0 pair got.1 refl)

shown_ends : (lines : List Line) (commands : List Numbered) (w : ℕ → RankPoint) (i : ℕ) (waiting : Bool)
    (what : Happened) (line : ℕ) (a : Answer) → line_of what ≡ Some line →
    may_show w i (request_from what) ≡ Some (without_bytes a) →
    (a ≡ answer.Sent → HasLeft commands w i waiting what) → HasBytes lines w i (request_from what) a →
    ends_lem lines waiting (standing_of commands w i what) a ≡ true
shown_ends lines commands w i waiting (event.Send to n tag ctx len how own) line a at may left has =
    send_ends lines waiting ((w to).withdrawn i n) ((w i).unasked to n || (w to).taken i n)
    (not ((w i).recalled to n) || ((w to).arrived i n && not (is_free_in (w to) i n))) ((w i).recalled to n)
    (option_map_or is_sync (command_at commands own) false) a may left
shown_ends lines commands w i waiting (event.Post p own) line a at may left has =
    receive_ends lines w i waiting ((w i).off p.number) ((w i).pairs p.number)
    (standing.Open (pattern_lem p.from p.tag p.ctx) p.cap) a may has
shown_ends lines commands w i waiting (event.Match number from n room own) line a at may left has =
    receive_ends lines w i waiting ((w i).off number) ((w i).pairs number) standing.Off a may has
shown_ends lines commands w i waiting what line a at may left has = absurd (no_some line at)

-- an answer that is a result
pub record IsEnding (a : Answer) : Type 0 where
  pub not_started : is_started a ≡ false
  pub result : is_result a ≡ true
  pub not_seen : is_seen a ≡ false

-- a wait or a test answers with the result of its request
module _ (shape : Sizes) (lines : List Line) (ranks : List Ended) (packets : List Packets) (told : Report)
    (is : IsRunTold shape lines ranks packets told) (before : List Step) (s : Step) (later : List Step)
    (w : ℕ → RankPoint) (next : IsNext shape lines ranks before s later w) (line : ℕ)
    (a : Answer) (ran : s.event.what ≡ event.Ran line a) (ending : IsEnding a) (q : ℕ)
  where
    abbrev commands : List Numbered
    commands = commands_of s.rank lines

    abbrev v : ℕ → RankPoint
    v = moved lines w s

    abbrev i : ℕ
    i = s.rank

    abbrev h : List Event
    h = history_in before s.rank

    abbrev called : Command
    called = command_due shape lines ranks packets told is before s later w next line a ran

    -- the command asks for the result of this name alone
    abbrev Asks : Type 0
    Asks = (name : ℕ) → is_question_of name called ≡ (q == name)

    own_is : v i ≡ after i commands (w i) (event.Ran line a)
    own_is = moved_own lines w s ∙ ap (λ (what : Happened). after i commands (w i) what) ran

    name_ended : Asks → (name : ℕ) (was : Option ℕ) →
        line_after commands name was (event.Ran line a) ≡ cond (q == name) None was
    name_ended asks name was =
        let command_is = here shape lines ranks packets told is before s later w next line a ran in
        let starts : Bool = option_map_or (is_start_of name) (command_at commands line) false in
        let questions : Bool = option_map_or (is_question_of name) (command_at commands line) false in
        ap (λ (b : Bool). cond (starts && b) (Some line) (cond (questions && is_result a) None was)) ending.not_started
        ∙ ap (λ (b : Bool). cond b (Some line) (cond (questions && is_result a) None was)) (and_nothing starts)
        ∙ ap (λ (b : Bool). cond (questions && b) None was) ending.result
        ∙ ap (λ (b : Bool). cond b None was) (and_so questions)
        ∙ ap (λ (o : Option Command). cond (option_map_or (is_question_of name) o false) None was) command_is
        ∙ ap (λ (b : Bool). cond b None was) (asks name)

    own : OwnAlike (w i) (v i)
    own = subst (λ (p : RankPoint). OwnAlike (w i) p) (sym own_is) (record {
      handled = λ m. handle_kept commands m ((w i).handled m) line a ending.not_seen ending.not_started;
      matched = λ from n. ap (λ (ws : List Happened). list_any (is_match_of from n) ws)
          (sym (not_begun shape lines ranks packets told is before s later w next line a ran ending.not_started));
      known = λ from n. first_alone ((w i).known from n);
      pairs = λ number. first_alone ((w i).pairs number);
      off = λ number. or_false ((w i).off number);
      recalled = λ to n. or_false ((w i).recalled to n);
    })

    seen : (r : ℕ) → SeenAlike (w r) (v r)
    seen =
        moved_seen lines w s
        (subst (λ (what : Happened). SeenAlike (w i) (after i commands (w i) what)) (sym ran)
        (ran_seen i commands (w i) line a))

    begun : (w i).begun ≡ []
    begun = not_begun shape lines ranks packets told is before s later w next line a ran ending.not_started

    grown : history_in (before ++ s ∷ []) i ≡ h ++ s.event ∷ []
    grown = grown_here before s

    requests : Asks →
        filter_map (λ (e : Event). request_by commands v i e.what) (history_in (before ++ s ∷ []) i)
        ≡ filter (λ (r : Request). not (r.q == q)) (rank_of lines w (history_in before) i).requests
    requests asks =
        ap (λ (h : List Event). filter_map (λ (e : Event). request_by commands v i e.what) h) grown
        ∙ filter_map-append (λ (e : Event). request_by commands v i e.what) h (s.event ∷ [])
        ∙ ap (λ (what : Happened). filter_map (λ (e : Event). request_by commands v i e.what) h
        ++ cons_option (request_by commands v i what) []) ran
        ∙ append-nil (filter_map (λ (e : Event). request_by commands v i e.what) h)
        ∙ sym (kept_of (λ (r : Request). not (r.q == q)) (λ (e : Event). request_by commands w i e.what)
        (λ (e : Event). request_by commands v i e.what)
        (λ e. request_ended commands w v i q own seen begun (ap (λ (p : RankPoint). p.begun) own_is)
        (λ name. ap (λ (p : RankPoint). p.named name) own_is ∙ name_ended asks name ((w i).named name)) e.what) h)

    abbrev acts : Type 0
    acts =
        (place : ℕ) →
        act_of_lem lines (state_of shape.ranks lines w before) i (rank_of lines w (history_in before) i) place called
        (Some a) ≡ Some (act.End q)

    end_leads : Asks → is_canceller called ≡ false → acts → StepLeads shape lines told before s w
    end_leads asks not_cancel gives =
        let d = due shape lines ranks packets told is before s later w next line a ran in
        let c = d.command in
        let there = line_there i lines (length (ran_lines h)) c d.next in
        let low = there.0 in
        let place : c.line - 1 ≡ c.line - 2 + 1 = omega (arith, low) in
        let idle_now = idle shape lines ranks packets told is before s later w next line a ran ending.not_started
        not_cancel in
        run_leads lines told shape.ranks w v (history_in before) (history_in (before ++ s ∷ [])) i
        next.comes.within c (ap (λ (n : ℕ). slice_get commands n) (idle_effects h idle_now)
        ∙ d.next) (act.End q) (λ s. refl)
        (ap (λ (o : Option Answer). act_of_lem lines (state_of shape.ranks lines w before) i
        (rank_of lines w (history_in before) i) (c.line - 2) c.command o)
        (told_here shape lines ranks packets told is before s later w next line a ran ending.not_started)
        ∙ gives (c.line - 2))
        (grown_with lines w v (history_in before) (history_in (before ++ s ∷ [])) i s.event
        (filter (λ (r : Request). not (r.q == q)) (rank_of lines w (history_in before) i).requests) own seen grown
        (ap (λ (what : Happened). message_by v i what) ran) (ap (λ (what : Happened). claim_by commands v i what) ran)
        (requests asks)
        ∙ ap (λ (n : ℕ). record (rank_of lines w (history_in before) i) {
          at = n;
          requests = filter (λ (r : Request). not (r.q == q)) (rank_of lines w (history_in before) i).requests;
        })
        (ap (λ (h : List Event). behind commands (effects h)) grown
        ∙ ap (behind commands) (ran_effects h s.event line a ran)
        ∙ behind_next commands (length (ran_lines h)) c d.next ∙ place))
        (λ k other. kept_rank lines w v (history_in before) (history_in (before ++ s ∷ [])) k (moved_other lines w s
        k other)
        seen (grown_other before s k other))

    -- what the machine does where its request may end so
    abbrev ended : Option Request → Option Act
    ended o = option_map_or (λ x. cond (may_end_lem lines (rank_of lines w (history_in before) i) x a)
        (Some (act.End q)) None) o (nulled_lem a)

    -- a send that left does not wait for a receive, and bytes are those of the message
    abbrev pub Right : Type 0
    Right =
        (own : ℕ) (what : Happened) → start_in own (history_in before i) ≡ Some what → line_of what ≡ Some own →
        (a ≡ answer.Sent → HasLeft commands w i (is_waiting_lem (rank_of lines w (history_in before) i) (own - 2)) what)
        × (request_now (w i) q ≡ Some (request_from what) → HasBytes lines w i (request_from what) a)

    -- .. where the answer is of no such kind
    pub other_right : (a ≡ answer.Sent → ⊥) → ((from tag : ℕ) (body : List ℕ) → a ≡ answer.Got from tag body → ⊥) →
        Right
    other_right not_sent not_got line_of_it what start at = (
      λ same. absurd (not_sent same),
      λ now from tag body pair same is. absurd (not_got from tag body same),
    )

    ends_now : Right → (r : asked) → request_now (w i) q ≡ Some r → may_show w i r ≡ Some (without_bytes a) →
        ended (live_lem (rank_of lines w (history_in before) i) q) ≡ Some (act.End q)
    ends_now right r now may =
        let live = one_lives lines w (history_in before) i (next.so_far.places i) begun q r now in
        let x : Request = request_with commands w i q live.line live.what in
        let at = start_line live.line (history_in before i) live.what live.start in
        let both = right live.line live.what live.start at in
        ap ended live.lives_so
        ∙ ap (λ (b : Bool). cond b (Some (act.End q)) None)
        (shown_ends lines commands w i (is_waiting_lem (rank_of lines w (history_in before) i) x.place) live.what
        live.line a at (ap (may_show w i) live.request ∙ may) both.0
        (both.1 (now ∙ ap (λ (r : asked). Some r) (sym live.request))))

    null_ends : without_bytes a ≡ answer.Null → ⊥
    null_ends same =
        false≢true (sym (ap is_result same) ∙ bytes_no_matter a ∙ ending.result)

    pub wait_ends : Right → called ≡ command.Wait q → StepLeads shape lines told before s w
    wait_ends right waits =
        end_leads (λ name. ap (is_question_of name) waits) (ap is_canceller waits)
        (λ place. ap (λ (c : Command). act_of_lem lines (state_of shape.ranks lines w before) i
        (rank_of lines w (history_in before) i) place c (Some a)) waits
        ∙ by_now (request_now (w i) q) refl
        (subst (λ (c : Command). MayAnswer w i line c (without_bytes a)) waits
        (may_here shape lines ranks packets told is before s later w next line a ran)))
      where
        by_now : (o : Option asked) → request_now (w i) q ≡ o →
            MatchOption o (without_bytes a ≡ answer.Null) (λ r. may_show w i r ≡ Some (without_bytes a)) →
            ended (live_lem (rank_of lines w (history_in before) i) q) ≡ Some (act.End q)
        by_now None now may = absurd (null_ends may)
        by_now (Some r) now may = ends_now right r now may

    pub test_ends : Right → called ≡ command.Test q → StepLeads shape lines told before s w
    test_ends right tests =
        end_leads (λ name. ap (is_question_of name) tests) (ap is_canceller tests)
        (λ place. ap (λ (c : Command). act_of_lem lines (state_of shape.ranks lines w before) i
        (rank_of lines w (history_in before) i) place c (Some a)) tests
        ∙ tested a ending.result
        ∙ by_now (request_now (w i) q) refl
        (subst (λ (c : Command). MayAnswer w i line c (without_bytes a)) tests
        (may_here shape lines ranks packets told is before s later w next line a ran)))
      where
        tested : (x : Answer) → is_result x ≡ true →
            tested_lem lines (rank_of lines w (history_in before) i) q x
            ≡ waited_lem lines (rank_of lines w (history_in before) i) q x
        tested answer.No result = absurd (false≢true result)
        tested x result = refl

        no_result : without_bytes a ≡ answer.No → ⊥
        no_result same = false≢true (sym (ap is_result same) ∙ bytes_no_matter a ∙ ending.result)

        by_shown : (r : asked) → (without_bytes a ≡ answer.No) ⊎ (may_show w i r ≡ Some (without_bytes a)) →
            may_show w i r ≡ Some (without_bytes a)
        by_shown r (inl same) = absurd (no_result same)
        by_shown r (inr may) = may

        by_now : (o : Option asked) → request_now (w i) q ≡ o →
            MatchOption o (without_bytes a ≡ answer.Null)
            (λ r. (without_bytes a ≡ answer.No) ⊎ (may_show w i r ≡ Some (without_bytes a))) →
            ended (live_lem (rank_of lines w (history_in before) i) q) ≡ Some (act.End q)
        by_now None now may = absurd (null_ends may)
        by_now (Some r) now may = ends_now right r now (by_shown r may)
