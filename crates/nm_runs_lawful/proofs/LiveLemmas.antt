-- The live request of a name, in the machine as in the rank.
use Rattle.std.proofs.Common.{◌≡◌, ℕ, ◌-◌, ◌==◌, ◌&&◌, ◌||◌, Bool, true, false, cond, Option, Some, None, List, []}
use Rattle.std.proofs.Common.{◌∷◌, fold, refl, sym, ◌∙◌, ap, subst, arith}
use Rattle.std.specs.Prelude.{IfSome, is_some, option_and_then, option_map}
use Rattle.std.specs.List.{cons_option, filter_map, find, list_any, slice_get}
use Rattle.std.specs.Option.{option_map_or}
use Rattle.std.proofs.lemmas.Bool.{false≢true}
use Rattle.nm_types.specs.declared.scripts.Command.{Command}
use Rattle.nm_types.specs.declared.scripts.Command.TheVariants as command
use Rattle.nm_types.specs.declared.scripts.Line.{Line}
use Rattle.nm_types.specs.Commands.{Numbered, command_at, commands_of}
use Rattle.nm_types.proofs.NumberLemmas.{eq_true, same_number}
use Rattle.nm_types.proofs.OptionLemmas.{no_some, same_some}
use Rattle.nm_types.proofs.TruthLemmas.{and_left, not_true}
use Rattle.nm_history.specs.declared.events.Event.{Event}
use Rattle.nm_history.specs.declared.events.Happened.{Happened}
use Rattle.nm_history.specs.declared.events.Happened.TheVariants as event
use Rattle.nm_history.specs.Answers.{is_question_of, is_result, is_start_of, is_started, line_after, line_of_name}
use Rattle.nm_history.specs.Answers.{request_at, request_of}
use Rattle.nm_history.specs.Completion.{Request as asked}
use Rattle.nm_history.specs.Completion.Request.{Receiving, Sending}
use Rattle.nm_outcomes.specs.Moves.{request_now}
use Rattle.nm_outcomes.specs.Places.{IsPlaceOf, RankPoint}
use Rattle.nm_lawful.specs.declared.messages.Request.{Request}
use Rattle.nm_lawful.specs.Ranks.{live_lem}
use Rattle.nm_runs_lawful.specs.Stands.{is_live_at, line_of, name_of, rank_of, request_by, standing_of}
use Rattle.nm_runs_lawful.proofs.AlikeLemmas.{live_request}

-- an element that fails is not found
pub find_step : {X : Type 0} (test : X → Bool) (o : Option X) (xs : List X) →
    ((x : X) → o ≡ Some x → test x ≡ false) → find test (cons_option o xs) ≡ find test xs
find_step test None xs fails = refl
find_step {X} test (Some x) xs fails = ap (λ (b : Bool). cond b (Some x) (find test xs)) (fails x refl)

-- a start of the line
abbrev pub start_at : ℕ → Happened → Option Happened
start_at line what = option_and_then (λ l. cond (l == line) (Some what) None) (line_of what)

-- .. in a history
abbrev pub start_in : ℕ → List Event → Option Happened
start_in line h = slice_get (filter_map (λ e. start_at line e.what) h) 0

-- .. is of that line
pub start_line : (line : ℕ) (h : List Event) (what : Happened) → start_in line h ≡ Some what →
    line_of what ≡ Some line
start_line line [] what is = absurd (no_some what is)
start_line line (e ∷ h) what is = by_line (line_of e.what) refl is (start_line line h what)
  where
    by_own : (own : ℕ) → line_of e.what ≡ Some own → (b : Bool) → (own == line) ≡ b →
        slice_get (cons_option (cond b (Some e.what) None)
        (filter_map (λ (e : Event). start_at line e.what) h)) 0 ≡ Some what →
        (start_in line h ≡ Some what → line_of what ≡ Some line) → line_of what ≡ Some line
    by_own own at true same is later =
        ap line_of (sym (same_some e.what what is)) ∙ at ∙ ap (λ (n : ℕ). Some n) (same_number own line same)
    by_own own at false other is later = later is

    by_line : (o : Option ℕ) → line_of e.what ≡ o →
        slice_get (cons_option (option_and_then (λ l. cond (l == line) (Some e.what) None) o)
        (filter_map (λ (e : Event). start_at line e.what) h)) 0 ≡ Some what →
        (start_in line h ≡ Some what → line_of what ≡ Some line) → line_of what ≡ Some line
    by_line None at is later = later is
    by_line (Some own) at is later = by_own own at (own == line) refl is later

-- the request of a start
abbrev pub request_from : Happened → asked
request_from (event.Send to n tag ctx len how line) = Sending to n
request_from (event.Post p line) = Receiving p.number
request_from (event.Match number from n cap line) = Receiving number
request_from _ = Receiving 0

request_of_start : (line : ℕ) (what : Happened) → request_of line what ≡ option_map request_from (start_at line what)
request_of_start line (event.Send to n tag ctx len how own) = by_line (own == line)
  where
    by_line : (b : Bool) → cond b (Some (Sending to n)) None
        ≡ option_map request_from (cond b (Some (event.Send to n tag ctx len how own)) None)
    by_line true = refl
    by_line false = refl
request_of_start line (event.Post p own) = by_line (own == line)
  where
    by_line : (b : Bool) → cond b (Some (Receiving p.number)) None
        ≡ option_map request_from (cond b (Some (event.Post p own)) None)
    by_line true = refl
    by_line false = refl
request_of_start line (event.Match number from n cap own) = by_line (own == line)
  where
    by_line : (b : Bool) → cond b (Some (Receiving number)) None
        ≡ option_map request_from (cond b (Some (event.Match number from n cap own)) None)
    by_line true = refl
    by_line false = refl
request_of_start line what = refl

pub request_in_start : (line : ℕ) (h : List Event) → request_at h line ≡ option_map request_from (start_in line h)
request_in_start line [] = refl
request_in_start line (e ∷ h) =
    ap (λ (o : Option asked). slice_get (cons_option o (filter_map (λ (e : Event). request_of line e.what) h)) 0)
    (request_of_start line e.what)
    ∙ by_start (start_at line e.what) (request_in_start line h)
  where
    by_start : (o : Option Happened) → request_at h line ≡ option_map request_from (start_in line h) →
        slice_get (cons_option (option_map request_from o) (filter_map (λ (e : Event). request_of line e.what) h)) 0
        ≡ option_map request_from (slice_get (cons_option o (filter_map (λ (e : Event). start_at line e.what) h)) 0)
    by_start None later = later
    by_start (Some what) later = refl

-- a name stands for a command that starts a request of that name
abbrev IsNamed : List Numbered → ℕ → Option ℕ → Type 0
IsNamed commands q o = IfSome o (λ line. option_and_then name_of (command_at commands line) ≡ Some q)

starts_named : (q : ℕ) (c : Command) → is_start_of q c ≡ true → name_of c ≡ Some q
starts_named q (command.Send to q' tag ctx sync body) is = ap (λ (n : ℕ). Some n) (same_number q' q is)
starts_named q (command.Recv q' from tag ctx room) is = ap (λ (n : ℕ). Some n) (same_number q' q is)
starts_named q (command.Mrecv q' m room) is = ap (λ (n : ℕ). Some n) (same_number q' q is)
starts_named q (command.Wait q') is = absurd (grind arith)
starts_named q (command.Test q') is = absurd (grind arith)
starts_named q (command.Probe from tag ctx) is = absurd (grind arith)
starts_named q (command.Await from tag ctx) is = absurd (grind arith)
starts_named q (command.Cancel q') is = absurd (grind arith)
starts_named q (command.Mprobe m from tag ctx) is = absurd (grind arith)

named_after : (commands : List Numbered) (q : ℕ) (o : Option ℕ) (what : Happened) → IsNamed commands q o →
    IsNamed commands q (line_after commands q o what)
named_after commands q o (event.Ran line a) was =
    by_start (option_map_or (is_start_of q) (command_at commands line) false && is_started a) refl
  where
    started : (c : Option Command) → option_map_or (is_start_of q) c false ≡ true → option_and_then name_of c ≡ Some q
    started None is = absurd (grind arith)
    started (Some c) is = starts_named q c is

    by_end : (b : Bool) → IsNamed commands q (cond b None o)
    by_end true = tt
    by_end false = was

    by_start : (b : Bool) → (option_map_or (is_start_of q) (command_at commands line) false && is_started a) ≡ b →
        IsNamed commands q (cond b (Some line)
        (cond (option_map_or (is_question_of q) (command_at commands line) false && is_result a) None o))
    by_start true is =
        started (command_at commands line)
        (and_left (option_map_or (is_start_of q) (command_at commands line) false) (is_started a) is)
    by_start false is = by_end (option_map_or (is_question_of q) (command_at commands line) false && is_result a)
named_after commands q o (event.Send to n tag ctx len how line) was = was
named_after commands q o (event.Post p line) was = was
named_after commands q o (event.Arrive a) was = was
named_after commands q o (event.Whole from n) was = was
named_after commands q o (event.Out to n) was = was
named_after commands q o (event.Cancel number done) was = was
named_after commands q o (event.Recall to n) was = was
named_after commands q o (event.Withdraw from n done) was = was
named_after commands q o (event.Undone to n done) was = was
named_after commands q o (event.Claim from n line) was = was
named_after commands q o (event.Match number from n cap line) was = was

pub is_named : (commands : List Numbered) (q : ℕ) (h : List Event) → IsNamed commands q (line_of_name commands h q)
is_named commands q h = along None h tt
  where
    along : (o : Option ℕ) (h : List Event) → IsNamed commands q o →
        IsNamed commands q (fold (λ (line : Option ℕ) (e : Event). line_after commands q line e.what) o h)
    along o [] was = was
    along o (e ∷ h) was = along (line_after commands q o e.what) h (named_after commands q o e.what was)

-- the request that a start has, of this name
abbrev pub request_with : List Numbered → (ℕ → RankPoint) → ℕ → ℕ → ℕ → Happened → Request
request_with commands w i q line what =
    record { q = q; place = line - 2; standing = standing_of commands w i what }

module _ (commands : List Numbered) (w : ℕ → RankPoint) (i q : ℕ) (begun : (w i).begun ≡ []) where
  abbrev found : List Event → Option Request
  found h = find (λ (r : Request). r.q == q) (filter_map (λ (e : Event). request_by commands w i e.what) h)

  pub idle_live : (name line : ℕ) → is_live_at (w i) name line ≡ option_map_or (λ l. l == line) ((w i).named name) false
  idle_live name line =
      ap (λ (ws : List Happened). option_map_or (λ l. l == line) ((w i).named name) false
      || list_any (λ what. option_map_or (λ l. l == line) (line_of what) false) ws) begun
      ∙ or_nothing (option_map_or (λ l. l == line) ((w i).named name) false)
    where
      or_nothing : (b : Bool) → (b || false) ≡ b
      or_nothing true = refl
      or_nothing false = refl

  -- a start whose line the name does not stand for gives no request of the name
  other_name : (line : ℕ) (what : Happened) → line_of what ≡ Some line →
      option_map_or (λ l. l == line) ((w i).named q) false ≡ false → (r : Request) →
      request_by commands w i what ≡ Some r → (r.q == q) ≡ false
  other_name line what at not r is =
      by_name (option_and_then name_of (command_at commands line))
      (sym (ap (λ (o : Option ℕ). option_and_then (λ (line : ℕ). option_and_then
      (λ (q : ℕ). live_request (w i) (standing_of commands w i what) line q)
      (option_and_then name_of (command_at commands line))) o) at) ∙ is)
    where
      by_live : (name : ℕ) (b : Bool) → is_live_at (w i) name line ≡ b →
          cond b (Some (request_with commands w i name line what)) None ≡ Some r → (r.q == q) ≡ false
      by_live name true live is =
          not_true (r.q == q) (λ same. absurd (false≢true (sym not ∙ sym (idle_live q line)
          ∙ ap (λ (n : ℕ). is_live_at (w i) n line)
          (sym (ap (λ (r : Request). r.q) (same_some (request_with commands w i name line what) r is)
          ∙ same_number r.q q same)) ∙ live)))
      by_live name false live is = absurd (no_some r is)

      by_name : (o : Option ℕ) →
          option_and_then (λ (q : ℕ). live_request (w i) (standing_of commands w i what) line q) o ≡ Some r →
          (r.q == q) ≡ false
      by_name None is = absurd (no_some r is)
      by_name (Some name) is = by_live name (is_live_at (w i) name line) refl is

  no_line : (what : Happened) → line_of what ≡ None → request_by commands w i what ≡ None
  no_line what none =
      ap (λ (o : Option ℕ). option_and_then (λ (line : ℕ). option_and_then
      (λ (q : ℕ). live_request (w i) (standing_of commands w i what) line q)
      (option_and_then name_of (command_at commands line))) o) none

  -- where the name stands for nothing, there is none
  pub none_found : (w i).named q ≡ None → (h : List Event) → found h ≡ None
  none_found none [] = refl
  none_found none (e ∷ h) =
      find_step (λ (r : Request). r.q == q) (request_by commands w i e.what)
      (filter_map (λ (e : Event). request_by commands w i e.what) h) (by_line (line_of e.what) refl) ∙ none_found none h
    where
      by_line : (o : Option ℕ) → line_of e.what ≡ o → (r : Request) → request_by commands w i e.what ≡ Some r →
          (r.q == q) ≡ false
      by_line None at r is = absurd (no_some r (sym (no_line e.what at) ∙ is))
      by_line (Some line) at r is =
          other_name line e.what at (ap (λ (o : Option ℕ). option_map_or (λ l. l == line) o false) none) r is

  -- where it stands for a line, it is that of the line's start
  module _ (line : ℕ) (stands : (w i).named q ≡ Some line)
      (names : option_and_then name_of (command_at commands line) ≡ Some q)
    where
      own_start : (what : Happened) (own : ℕ) → line_of what ≡ Some own → (own == line) ≡ true →
          request_by commands w i what ≡ Some (request_with commands w i q line what)
      own_start what own at same =
          ap (λ (o : Option ℕ). option_and_then (λ (line : ℕ). option_and_then
          (λ (q : ℕ). live_request (w i) (standing_of commands w i what) line q)
          (option_and_then name_of (command_at commands line))) o)
          (at ∙ ap (λ (n : ℕ). Some n) (same_number own line same))
          ∙ ap (λ (o : Option ℕ). option_and_then
          (λ (q : ℕ). live_request (w i) (standing_of commands w i what) line q) o) names
          ∙ ap (λ (b : Bool). cond b (Some (request_with commands w i q line what)) None)
          (idle_live q line ∙ ap (λ (o : Option ℕ). option_map_or (λ l. l == line) o false) stands
          ∙ eq_true line line refl)

      abbrev Found : Event → List Event → Option Happened → Type 0
      Found e h o =
          found (e ∷ h) ≡ option_map (request_with commands w i q line)
          (slice_get (cons_option o (filter_map (λ (e : Event). start_at line e.what) h)) 0)

      abbrev FoundIn : List Event → Type 0
      FoundIn h = found h ≡ option_map (request_with commands w i q line) (start_in line h)

      one_more : (e : Event) (h : List Event) → FoundIn h → (o : Option ℕ) → line_of e.what ≡ o →
          Found e h (option_and_then (λ l. cond (l == line) (Some e.what) None) o)
      one_more e h later None at =
          ap (λ (o : Option Request). find (λ (r : Request). r.q == q)
          (cons_option o (filter_map (λ (e : Event). request_by commands w i e.what) h))) (no_line e.what at)
          ∙ later
      one_more e h later (Some own) at = by_own (own == line) refl
        where
          by_own : (b : Bool) → (own == line) ≡ b → Found e h (cond b (Some e.what) None)
          by_own true same =
              ap (λ (o : Option Request). find (λ (r : Request). r.q == q)
              (cons_option o (filter_map (λ (e : Event). request_by commands w i e.what) h)))
              (own_start e.what own at same)
              ∙ ap (λ (b : Bool). cond b (Some (request_with commands w i q line e.what)) (found h)) (eq_true q q refl)
          by_own false other =
              find_step (λ (r : Request). r.q == q) (request_by commands w i e.what)
              (filter_map (λ (e : Event). request_by commands w i e.what) h)
              (other_name own e.what at (ap (λ (o : Option ℕ). option_map_or (λ l. l == own) o false) stands
              ∙ not_true (line == own) (λ same. absurd (false≢true (sym other
              ∙ eq_true own line (sym (same_number line own same)))))))
              ∙ later

      pub start_found : (h : List Event) → FoundIn h
      start_found [] = refl
      start_found (e ∷ h) = one_more e h (start_found h) (line_of e.what) refl

-- The live request of a rank's name, in the machine.
module _ (lines : List Line) (w : ℕ → RankPoint) (f : ℕ → List Event) (i : ℕ)
    (are : IsPlaceOf i (commands_of i lines) (f i) (w i)) (begun : (w i).begun ≡ []) (q : ℕ)
  where
    abbrev lives : Option Request
    lives = live_lem (rank_of lines w f i) q

    -- the start of a live request
    pub record IsLive (r : asked) : Type 0 where
      pub line : ℕ
      pub what : Happened
      pub named : (w i).named q ≡ Some line
      pub start : start_in line (f i) ≡ Some what
      pub request : request_from what ≡ r
      pub lives_so : lives ≡ Some (request_with (commands_of i lines) w i q line what)

    names : (line : ℕ) → (w i).named q ≡ Some line →
        option_and_then name_of (command_at (commands_of i lines) line) ≡ Some q
    names line stands =
        subst (λ (o : Option ℕ). IsNamed (commands_of i lines) q o) (sym (are.named q) ∙ stands)
        (is_named (commands_of i lines) q (f i))

    by_start : (line : ℕ) → (w i).named q ≡ Some line →
        lives ≡ option_map (request_with (commands_of i lines) w i q line) (start_in line (f i))
    by_start line stands = start_found (commands_of i lines) w i q begun line stands (names line stands) (f i)

    by_request : (line : ℕ) → (w i).requests line ≡ option_map request_from (start_in line (f i))
    by_request line = are.requests line ∙ request_in_start line (f i)

    pub none_lives : request_now (w i) q ≡ None → lives ≡ None
    none_lives none = by_name ((w i).named q) refl none
      where
        by_what : (line : ℕ) (o : Option Happened) →
            lives ≡ option_map (request_with (commands_of i lines) w i q line) o →
            option_map request_from o ≡ None → lives ≡ None
        by_what line None is none = is
        by_what line (Some what) is none = absurd (no_some (request_from what) (sym none))

        by_name : (o : Option ℕ) → (w i).named q ≡ o → option_and_then (w i).requests o ≡ None → lives ≡ None
        by_name None stands none = none_found (commands_of i lines) w i q begun stands (f i)
        by_name (Some line) stands none =
            by_what line (start_in line (f i)) (by_start line stands) (sym (by_request line) ∙ none)

    pub one_lives : (r : asked) → request_now (w i) q ≡ Some r → IsLive r
    one_lives r some = by_name ((w i).named q) refl some
      where
        by_what : (line : ℕ) → (w i).named q ≡ Some line → (o : Option Happened) → start_in line (f i) ≡ o →
            option_map request_from o ≡ Some r → IsLive r
        by_what line stands None start is = absurd (no_some r is)
        by_what line stands (Some what) start is = record {
          line = line;
          what = what;
          named = stands;
          start = start;
          request = same_some (request_from what) r is;
          lives_so = by_start line stands
              ∙ ap (λ (o : Option Happened). option_map (request_with (commands_of i lines) w i q line) o) start;
        }

        by_name : (o : Option ℕ) → (w i).named q ≡ o → option_and_then (w i).requests o ≡ Some r → IsLive r
        by_name None stands some = absurd (no_some r some)
        by_name (Some line) stands some =
            by_what line stands (start_in line (f i)) refl (sym (by_request line) ∙ some)

    pub as_many : is_some lives ≡ is_some (request_now (w i) q)
    as_many = by_now (request_now (w i) q) refl
      where
        by_now : (o : Option asked) → request_now (w i) q ≡ o → is_some lives ≡ is_some o
        by_now None is = ap (λ (o : Option Request). is_some o) (none_lives is)
        by_now (Some r) is = ap (λ (o : Option Request). is_some o) (one_lives r is).lives_so
