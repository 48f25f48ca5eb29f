-- In a run of plain commands, what a name stands for is told by the commands that ran alone.
use Rattle.std.proofs.Common.{◌≡◌, ℕ, ◌==◌, Bool, true, false, not, ◌&&◌, cond, Option, Some, None}
use Rattle.std.proofs.Common.{List, [], ◌∷◌, ◌++◌, refl, sym, ◌∙◌, ap, subst, arith}
use Rattle.std.specs.Prelude.{is_some, is_none}
use Rattle.std.specs.List.{filter_map, slice_get}
use Rattle.std.specs.Option.{option_and_then, option_map_or}
use Rattle.std.proofs.lemmas.Bool.{false≢true}
use Rattle.std.proofs.lemmas.List.Elements.{filter_map-append}
use Rattle.std.proofs.lemmas.List.Sums.{fold_push}
use Rattle.nm_types.specs.declared.answers.Answer.{Answer}
use Rattle.nm_types.specs.declared.answers.Answer.TheVariants as answer
use Rattle.nm_types.specs.declared.scripts.Command.{Command}
use Rattle.nm_types.specs.declared.scripts.Command.TheVariants as command
use Rattle.nm_types.specs.Commands.{Numbered, command_at}
use Rattle.nm_history.specs.declared.events.Event.{Event}
use Rattle.nm_history.specs.declared.events.Happened.TheVariants as event
use Rattle.nm_history.specs.Answers.{answer_of, is_result, is_started, line_after}
use Rattle.nm_history.specs.Answers.{line_of_name, live, request_at, request_of, without_bytes}
use Rattle.nm_history.specs.Completion.{Request, result_of}
use Rattle.std.proofs.Math.Bool.{and-true}
use Rattle.nm_history.proofs.AnswerLemmas.{line-push}
use Rattle.nm_sure.specs.Names.{holder, holder_by}
use Rattle.nm_sure.specs.Plain.{is_plain}
use Rattle.nm_types.proofs.NumberLemmas.{same_number}
use Rattle.nm_history.proofs.ResultLemmas.{result_is_result, bytes_no_matter}

-- a request that was made stays made
some_front : {X : Type 0} (xs ys : List X) → is_some (slice_get xs 0) ≡ true → is_some (slice_get (xs ++ ys) 0) ≡ true
some_front [] ys some = absurd (false≢true some)
some_front (x ∷ xs) ys some = refl

pub request_lasts : (h : List Event) (e : Event) (l : ℕ) → is_some (request_at h l) ≡ true →
    is_some (request_at (h ++ e ∷ []) l) ≡ true
request_lasts h e l some =
    rw (filter_map-append (λ (e : Event). request_of l e.what) h (e ∷ []))
    (some_front (filter_map (λ (e : Event). request_of l e.what) h)
    (filter_map (λ (e : Event). request_of l e.what) (e ∷ [])) some)

-- each name stands for what the commands say, and its request was made
pub record IsNamed (commands done : List Numbered) (h : List Event) : Type 0 where
  pub line : (q : ℕ) → line_of_name commands h q ≡ holder done q
  pub made : (q l : ℕ) → holder done q ≡ Some l → is_some (request_at h l) ≡ true

live_some : (f : ℕ → Option Request) (o : Option ℕ) → ((l : ℕ) → o ≡ Some l → is_some (f l) ≡ true) →
    is_some (option_and_then f o) ≡ is_some o
live_some f None made = refl
live_some f (Some l) made = made l refl

pub is_live : (commands done : List Numbered) (h : List Event) (q : ℕ) → IsNamed commands done h →
    is_some (live commands h q) ≡ is_some (holder done q)
is_live commands done h q named =
    rw (named.line q) (live_some (request_at h) (holder done q) (named.made q))

pub started_fact : (b : Bool) (a : Answer) → Some (cond b answer.Busy answer.Started) ≡ Some (without_bytes a) →
    is_started a ≡ not b
started_fact true answer.Started same = absurd (grind arith)
started_fact true a same = refl
started_fact false answer.Started same = refl
started_fact false a same = absurd (grind arith)

wait_fact : (h : List Event) (o : Option Request) (a : Answer) →
    option_map_or (result_of h) o (Some answer.Null) ≡ Some (without_bytes a) → is_some o ≡ true → is_result a ≡ true
wait_fact h None a same some = absurd (false≢true some)
wait_fact h (Some r) a same some = sym (bytes_no_matter a) ∙ result_is_result h r (without_bytes a) same

-- a start's name
start_line : (q' q l : ℕ) (held : ℕ → Option ℕ) (started b : Bool) → (q' == q) ≡ b → started ≡ not (is_some (held q')) →
    cond (b && started) (Some l) (held q) ≡ cond (b && is_none (held q)) (Some l) (held q)
start_line q' q l held started true same is =
    let here : q' ≡ q = same_number q' q same in
    rw (is ∙ ap (λ (k : ℕ). not (is_some (held k))) here) (none_or_some (held q))
  where
    none_or_some : (o : Option ℕ) → cond (not (is_some o)) (Some l) o ≡ cond (is_none o) (Some l) o
    none_or_some None = refl
    none_or_some (Some k) = refl
start_line q' q l held started false same is = refl

wait_line : (q' q : ℕ) (held : ℕ → Option ℕ) (ended b : Bool) → (q' == q) ≡ b →
    (is_some (held q') ≡ true → ended ≡ true) →
    cond (b && ended) None (held q) ≡ cond b None (held q)
wait_line q' q held true b same is = rw (and-true b) refl
wait_line q' q held false false same is = refl
wait_line q' q held false true same is =
    let here : q' ≡ q = same_number q' q same in
    nothing_held (held q) (λ some. is (subst (λ (k : ℕ). is_some (held k) ≡ true) (sym here) some))
  where
    nothing_held : (o : Option ℕ) → (is_some o ≡ true → false ≡ true) → o ≡ None
    nothing_held None never = refl
    nothing_held (Some k) never = absurd (false≢true (never refl))

-- the line of a name after an answer
line_told : (commands done : List Numbered) (h : List Event) (l q : ℕ) (c : Command) (a : Answer) →
    IsNamed commands done h → is_plain c ≡ true → command_at commands l ≡ Some c →
    answer_of commands h l c ≡ Some (without_bytes a) →
    line_after commands q (line_of_name commands h q) (event.Ran l a) ≡ holder_by q (holder done q) l c
line_told commands done h l q (command.Send to q' tag ctx sync body) a named plain at' same =
    rw (at', named.line q)
    (start_line q' q l (holder done) (is_started a) (q' == q) refl
    (started_fact (is_some (live commands h q')) a same ∙ ap not (is_live commands done h q' named)))
line_told commands done h l q (command.Recv q' from tag ctx cap) a named plain at' same =
    rw (at', named.line q)
    (start_line q' q l (holder done) (is_started a) (q' == q) refl
    (started_fact (is_some (live commands h q')) a same ∙ ap not (is_live commands done h q' named)))
line_told commands done h l q (command.Wait q') a named plain at' same =
    rw (at', named.line q)
    (wait_line q' q (holder done) (is_result a) (q' == q) refl
    (λ some. wait_fact h (live commands h q') a same (is_live commands done h q' named ∙ some)))
line_told commands done h l q (command.Test q') a named plain at' same = absurd (false≢true plain)
line_told commands done h l q (command.Probe from tag ctx) a named plain at' same = absurd (false≢true plain)
line_told commands done h l q (command.Await from tag ctx) a named plain at' same = absurd (false≢true plain)
line_told commands done h l q (command.Cancel q') a named plain at' same = absurd (false≢true plain)
line_told commands done h l q (command.Mprobe m from tag ctx) a named plain at' same = absurd (false≢true plain)
line_told commands done h l q (command.Mrecv q' m cap) a named plain at' same = absurd (false≢true plain)

-- after the answer of the next command the names are those of one command more
pub names_told : (commands done : List Numbered) (h : List Event) (stamp : ℕ) (c : Numbered) (a : Answer) →
    IsNamed commands done h → is_plain c.command ≡ true → command_at commands c.line ≡ Some c.command →
    answer_of commands h c.line c.command ≡ Some (without_bytes a) → (q : ℕ) →
    line_of_name commands (h ++ record { stamp = stamp; what = event.Ran c.line a } ∷ []) q ≡ holder (done ++ c ∷ []) q
names_told commands done h stamp c a named plain at' same q =
    line-push commands h (record { stamp = stamp; what = event.Ran c.line a }) q
    ∙ line_told commands done h c.line q c.command a named plain at' same
    ∙ sym (fold_push (λ (held : Option ℕ) (c : Numbered). holder_by q held c.line c.command) None done c)
