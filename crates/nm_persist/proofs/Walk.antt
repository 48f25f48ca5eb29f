-- What is known of a rank's names and receives, behind each command that ran.
use Rattle.std.proofs.Common.{◌≡◌, ℕ, ◌+◌, ◌≤◌, ◌==◌, Bool, true, false, not, ◌&&◌, ◌||◌, cond, zero, suc, Option}
use Rattle.std.proofs.Common.{Some, None}
use Rattle.std.proofs.Common.{List, [], ◌∷◌, ◌++◌, map, refl, sym, ◌∙◌, ap, subst, arith}
use Rattle.std.specs.Prelude.{unwrap_or}
use Rattle.std.specs.List.{filter, fold, slice_get}
use Rattle.std.specs.Option.{option_and_then, option_map_or}
use Rattle.std.proofs.lemmas.Bool.{false≢true}
use Rattle.nm_types.specs.declared.answers.Answer.{Answer}
use Rattle.nm_types.specs.declared.answers.Answer.TheVariants as answer
use Rattle.nm_types.specs.declared.messages.Peer.TheVariants as peer
use Rattle.nm_types.specs.declared.messages.TagPick.TheVariants as pick
use Rattle.nm_types.specs.declared.scripts.Command.{Command}
use Rattle.nm_types.specs.declared.scripts.Command.TheVariants as command
use Rattle.nm_types.specs.Commands.{Numbered}
use Rattle.nm_history.specs.declared.events.Event.{Event}
use Rattle.nm_history.specs.Answers.{answer_of, is_question_of, is_result, is_start_of, live, without_bytes}
use Rattle.nm_history.specs.Completion.{Request, result_of}
use Rattle.nm_history.specs.Delivery.{asked_pair, pair_of_request}
use Rattle.nm_sure.proofs.Gathered.{receives_it}
use Rattle.nm_sure.proofs.Rising.{Rising}
use Rattle.nm_persist.specs.Names.{Done, are_apart, is_named, is_no, is_shut_after, is_wait_of}
use Rattle.nm_persist.specs.Names.{waits_after, waits_for}
use Rattle.nm_persist.proofs.LinesRead.{starts_one}
use Rattle.nm_types.proofs.NumberLemmas.{same_number}
use Rattle.nm_types.proofs.OptionLemmas.{no_some, same_some}
use Rattle.nm_types.proofs.TruthLemmas.{and_left, and_right}
use Rattle.nm_sure.proofs.Rising.{rising_at}
use Rattle.nm_history.proofs.ResultLemmas.{result_is_result, bytes_no_matter}

-- answers

bytes_no_no : (a : Answer) → is_no (without_bytes a) ≡ is_no a
bytes_no_no (answer.Got from tag body) = refl
bytes_no_no a = refl

result_of_bytes : (h : List Event) (r : Request) (a : Answer) → result_of h r ≡ Some (without_bytes a) →
    is_result a ≡ true
result_of_bytes h r a same = sym (bytes_no_matter a) ∙ result_is_result h r (without_bytes a) same

-- a question with a result is of a live request, and shows its result
pub record Asked (commands : List Numbered) (b : List Event) (q : ℕ) (c : Command) (a : Answer) : Type 0 where
  pub request : Request
  pub alive : live commands b q ≡ Some request
  pub result : result_of b request ≡ Some (without_bytes a)
  pub pair : asked_pair commands b c ≡ pair_of_request b request

no_result : (x a : Answer) → is_result x ≡ false → is_result a ≡ true → x ≡ without_bytes a → ⊥
no_result x a none some same = false≢true (sym none ∙ ap (λ (x : Answer). is_result x) same ∙ bytes_no_matter a ∙ some)

module _ (commands : List Numbered) (b : List Event) (l q : ℕ) (a : Answer) where
  wait_asked : (o : Option Request) → live commands b q ≡ o → is_result a ≡ true →
      option_map_or (result_of b) o (Some answer.Null) ≡ Some (without_bytes a) → Asked commands b q (command.Wait q) a
  wait_asked None alive some right =
      absurd (no_result answer.Null a refl some (same_some answer.Null (without_bytes a) right))
  wait_asked (Some r) alive some right =
      record {
        request = r;
        alive = alive;
        result = right;
        pair =
            ap (λ (o : Option Request). option_and_then (pair_of_request b) o) alive;
      }

  test_asked : (o : Option Request) → live commands b q ≡ o → is_result a ≡ true →
      Some (option_map_or (λ request. unwrap_or (result_of b request) answer.No) o answer.Null) ≡ Some
      (without_bytes a) →
      Asked commands b q (command.Test q) a
  test_asked None alive some right =
      absurd (no_result answer.Null a refl some (same_some answer.Null (without_bytes a) right))
  test_asked (Some r) alive some right = by_result (result_of b r) refl right
    where
      by_result : (o : Option Answer) → result_of b r ≡ o → Some (unwrap_or o answer.No) ≡ Some (without_bytes a) →
          Asked commands b q (command.Test q) a
      by_result None is right = absurd (no_result answer.No a refl some (same_some answer.No (without_bytes a) right))
      by_result (Some x) is right =
          record {
            request = r;
            alive = alive;
            result = is
                ∙ right;
            pair = ap (λ (o : Option Request). option_and_then (pair_of_request b) o) alive;
          }

  pub question_asked : (c : Command) → is_question_of q c ≡ true → is_result a ≡ true →
      answer_of commands b l c ≡ Some (without_bytes a) → Asked commands b q c a
  question_asked (command.Wait q') asks some right =
      let same : q' ≡ q = same_number q' q asks in
      subst (λ (k : ℕ). Asked commands b q (command.Wait k) a) (sym same)
      (wait_asked (live commands b q) refl some
      (subst (λ (k : ℕ). answer_of commands b l (command.Wait k) ≡ Some (without_bytes a)) same right))
  question_asked (command.Test q') asks some right =
      let same : q' ≡ q = same_number q' q asks in
      subst (λ (k : ℕ). Asked commands b q (command.Test k) a) (sym same)
      (test_asked (live commands b q) refl some
      (subst (λ (k : ℕ). answer_of commands b l (command.Test k) ≡ Some (without_bytes a)) same right))
  question_asked c asks some right = absurd (false≢true asks)

  -- a question without a result that isn't told to wait is of no live request
  wait_dead : (o : Option Request) → is_result a ≡ false → option_map_or (result_of b) o (Some answer.Null) ≡ Some
      (without_bytes a) → o ≡ None
  wait_dead None none right = refl
  wait_dead (Some r) none right = absurd (false≢true (sym none ∙ result_of_bytes b r a right))

  test_dead : (o : Option Request) → is_result a ≡ false → is_no a ≡ false →
      Some (option_map_or (λ request. unwrap_or (result_of b request) answer.No) o answer.Null) ≡ Some
      (without_bytes a) → o ≡ None
  test_dead None none some right = refl
  test_dead (Some r) none some right = by_result (result_of b r) refl right
    where
      by_result : (o : Option Answer) → result_of b r ≡ o → Some (unwrap_or o answer.No) ≡ Some (without_bytes a) →
          Some r ≡ None
      by_result None is right =
          absurd (false≢true (sym some ∙ sym (bytes_no_no a)
          ∙ sym (ap (λ (x : Answer). is_no x) (same_some answer.No (without_bytes a) right))))
      by_result (Some x) is right = absurd (false≢true (sym none ∙ result_of_bytes b r a (is ∙ right)))

  pub question_dead : (c : Command) → (is_wait_of q c || (is_question_of q c && not (is_no a))) ≡ true →
      is_result a ≡ false →
      answer_of commands b l c ≡ Some (without_bytes a) → live commands b q ≡ None
  question_dead (command.Wait q') asks none right =
      let same : q' ≡ q = same_number q' q (either (q' == q) (not (is_no a)) asks) in
      wait_dead (live commands b q) none
      (subst (λ (k : ℕ). answer_of commands b l (command.Wait k) ≡ Some (without_bytes a)) same right)
    where
      either : (x y : Bool) → (x || (x && y)) ≡ true → x ≡ true
      either true y is = refl
      either false y is = is
  question_dead (command.Test q') asks none right =
      let same : q' ≡ q = same_number q' q (and_left (q' == q) (not (is_no a)) asks) in
      test_dead (live commands b q) none (no_not (is_no a) (and_right (q' == q) (not (is_no a)) asks))
      (subst (λ (k : ℕ). answer_of commands b l (command.Test k) ≡ Some (without_bytes a)) same right)
    where
      no_not : (x : Bool) → not x ≡ true → x ≡ false
      no_not true is = sym is
      no_not false is = refl
  question_dead c asks none right = absurd (false≢true asks)

-- a start of a name is a send or a receive
pub start_is_one : (q : ℕ) (c : Command) → is_named c ≡ true → is_start_of q c ≡ true → starts_one c ≡ true
start_is_one q (command.Send to q' tag ctx sync body) named starts = refl
start_is_one q (command.Recv q' from tag ctx cap) named starts = refl
start_is_one q (command.Mrecv q' m cap) named starts = named
start_is_one q c named starts = absurd (false≢true starts)

-- a name's start was waited for where its next start stands
pub apart_here : (q : ℕ) (w : Bool) (xs : List Command) (c : Command) (ys : List Command) →
    are_apart q w (xs ++ c ∷ ys) ≡ true →
    is_start_of q c ≡ true → waits_for q w xs ≡ false
apart_here q w [] c ys apart starts = waited (is_start_of q c) w (and_left _ _ apart) starts
  where
    waited : (s w : Bool) → not (s && w) ≡ true → s ≡ true → w ≡ false
    waited true true apart starts = sym apart
    waited true false apart starts = refl
    waited false w apart starts = absurd (false≢true starts)
apart_here q w (x ∷ xs) c ys apart starts = apart_here q (waits_after q w x) xs c ys (and_right _ _ apart) starts

shut_step : (s t n w o : Bool) → (w ≡ false → o ≡ true) → cond s true (cond t false w) ≡ false →
    cond s false (cond (t || n) true o) ≡ true
shut_step true t n w o known is = absurd (false≢true (sym is))
shut_step false true n w o known is = refl
shut_step false false true w o known is = refl
shut_step false false false w o known is = known is

pub shut_from : (q : ℕ) (w o : Bool) (ran : List Done) → (w ≡ false → o ≡ true) →
    waits_for q w (map (λ d. d.own.command) ran) ≡ false →
    fold (is_shut_after q) o ran ≡ true
shut_from q w o [] known is = known is
shut_from q w o (d ∷ ran) known is =
    shut_from q (waits_after q w d.own.command) (is_shut_after q o d) ran
    (shut_step (is_start_of q d.own.command) (is_wait_of q d.own.command)
    (is_question_of q d.own.command && not (is_no d.answer)) w o known) is

pub rising_front : (n : ℕ) (xs ys : List Numbered) → Rising n (xs ++ ys) → Rising n xs
rising_front n [] ys rising = tt
rising_front n (x ∷ xs) ys rising = (rising.0, rising_front (x.line + 1) xs ys rising.1)

pub one_place : (n k m : ℕ) (cs : List Numbered) (c d : Numbered) → Rising n cs → slice_get cs k ≡ Some c →
    slice_get cs m ≡ Some d →
    c.line ≡ d.line → k ≡ m
one_place n k m [] c d rising here there same = absurd (no_some c here)
one_place n zero zero (x ∷ cs) c d rising here there same = refl
one_place n zero (suc m) (x ∷ cs) c d rising here there same =
    let low = rising_at (x.line + 1) m cs d rising.1 there in
    let first = ap (λ (y : Numbered). y.line) (same_some x c here) in
    absurd (omega (arith, low, first, same))
one_place n (suc k) zero (x ∷ cs) c d rising here there same =
    let low = rising_at (x.line + 1) k cs c rising.1 here in
    let first = ap (λ (y : Numbered). y.line) (same_some x d there) in
    absurd (omega (arith, low, first, same))
one_place n (suc k) (suc m) (x ∷ cs) c d rising here there same =
    ap (λ (i : ℕ). suc i) (one_place (x.line + 1) k m cs c d rising.1 here there same)

pub filter_same : (g g' : Numbered → Bool) (xs : List Numbered) →
    ((k : ℕ) (c : Numbered) → slice_get xs k ≡ Some c → g c ≡ g' c) →
    filter g xs ≡ filter g' xs
filter_same g g' [] same = refl
filter_same g g' (x ∷ xs) same =
    ap (λ (b : Bool). cond b (x ∷ filter g xs) (filter g xs)) (same 0 x refl)
    ∙ ap (λ (ys : List Numbered). cond (g' x) (x ∷ ys) ys) (filter_same g g' xs (λ k c here. same (suc k) c here))

-- a named receive of a channel
pub record IsReceive (i tag ctx : ℕ) (c : Command) : Type 0 where
  pub name : ℕ
  pub cap : ℕ
  pub is : c ≡ command.Recv name (peer.One i) (pick.One tag) ctx cap

pub receive_is : (i tag ctx : ℕ) (c : Command) → is_named c ≡ true → receives_it i tag ctx c ≡ true →
    IsReceive i tag ctx c
receive_is i tag ctx (command.Recv q (peer.One i') (pick.One t') ctx' cap) named it =
    let first = same_number ctx' ctx (and_left _ _ (and_left _ _ it)) in
    let second = same_number i' i (and_right _ _ (and_left _ _ it)) in
    let third = same_number t' tag (and_right _ _ it) in
    record { name = q; cap = cap; is = rw (first, second, third) refl }
receive_is i tag ctx (command.Recv q peer.Any tags ctx' cap) named it = absurd (false≢true named)
receive_is i tag ctx (command.Recv q (peer.One from) pick.Any ctx' cap) named it = absurd (false≢true named)
receive_is i tag ctx c named it = absurd (false≢true it)
