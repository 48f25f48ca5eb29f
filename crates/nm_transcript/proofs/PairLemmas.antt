-- What is delivered from rank to rank is so by other numbers of lines, where those of a rank stay different.
use Rattle.std.proofs.Common.{◌≡◌, ℕ, zero, suc, ◌==◌, Bool, true, false, cond, ◌&&◌, ◌||◌, Option, Some}
use Rattle.std.proofs.Common.{None, List, [], ◌∷◌, map, refl, sym, ◌∙◌, ap, subst}
use Rattle.std.specs.Prelude.{IfSome, IsSomeAnd, IsTrue, nat_lt, option_and_then, option_map}
use Rattle.std.specs.Bool.{OnTrue}
use Rattle.std.specs.List.{slice_get}
use Rattle.nm_types.specs.declared.answers.Answer.TheVariants.{Got}
use Rattle.nm_types.specs.declared.scripts.Command.{Command}
use Rattle.nm_types.specs.declared.scripts.Command.TheVariants as command
use Rattle.nm_types.specs.Commands.{Numbered, command_at}
use Rattle.nm_history.specs.declared.events.Event.{Event}
use Rattle.nm_history.specs.declared.events.Happened.{Happened}
use Rattle.nm_history.specs.declared.events.Happened.TheVariants.{Out, Withdraw, Undone, Ran}
use Rattle.nm_history.specs.declared.plain.Pair.{Pair}
use Rattle.nm_history.specs.Answers.{live}
use Rattle.nm_history.specs.Completion.{Request, is_taken}
use Rattle.nm_history.specs.Completion.Request.{Sending, Receiving}
use Rattle.nm_history.specs.Delivery.{AreDelivered, ArriveInOrder, BodyAt, EachEvent, OutAfterPair, ShowsBytes}
use Rattle.nm_history.specs.Delivery.{UndoneAfterWithdraw, WithdrawAfterRecall, asked_pair, earlier_than, is_asked}
use Rattle.nm_history.specs.Delivery.{pair_of_request}
use Rattle.nm_history.specs.Happens.{happened, is_recall, is_withdraw}
use Rattle.nm_history.specs.RankRun.{Always}
use Rattle.nm_history.specs.Sends.{Arrived, Sent, arrivals, is_ask, sends, sent_bytes}
use Rattle.nm_transcript.specs.Renumbered.{KeepsApart, renumbered, renumbered_all, renumbered_command, renumbered_event}
use Rattle.nm_transcript.proofs.AnswerLemmas.{found_same, live_same}
use Rattle.nm_transcript.proofs.RankLemmas.{always_same, each_same, some_and}
use Rattle.nm_transcript.proofs.SameLemmas.{arrivals_same, pair_of_receive_same, recall_same, resent, sends_same}
use Rattle.nm_transcript.proofs.SameLemmas.{taken_same, withdraw_same}

pub get_mapped : {X Y : Type 0} (g : X → Y) (xs : List X) (k : ℕ) →
    slice_get (map g xs) k ≡ option_map g (slice_get xs k)
get_mapped g [] k = refl
get_mapped g (x ∷ xs) zero = refl
get_mapped g (x ∷ xs) (suc k) = get_mapped g xs k

pub on_true : (P Q : Type 0) (b : Bool) → (P → Q) → OnTrue b P → OnTrue b Q
on_true P Q true imp holds = imp holds
on_true P Q false imp holds = tt

if_some : {X : Type 0} (P Q : X → Type 0) (o k : Option X) → k ≡ o → ((x : X) → P x → Q x) → IfSome o P → IfSome k Q
if_some {X} P Q o k is imp holds = subst (λ (u : Option X). IfSome u Q) (sym is) (by o holds) where
  by : (v : Option X) → IfSome v P → IfSome v Q
  by None none = tt
  by (Some x) some = imp x some

module _ (f : ℕ → ℕ) where
  pub earlier_same : (stamp : ℕ) (h : List Event) →
      earlier_than stamp (renumbered_all f h) ≡ renumbered_all f (earlier_than stamp h)
  earlier_same stamp [] = refl
  earlier_same stamp (e ∷ h) = by (nat_lt e.stamp stamp) (earlier_same stamp h) where
    by : (b : Bool) → earlier_than stamp (renumbered_all f h) ≡ renumbered_all f (earlier_than stamp h) →
        cond b (renumbered_event f e ∷ earlier_than stamp (renumbered_all f h)) (earlier_than stamp (renumbered_all f h))
        ≡ renumbered_all f (cond b (e ∷ earlier_than stamp h) (earlier_than stamp h))
    by true rest = ap (λ (xs : List Event). renumbered_event f e ∷ xs) rest
    by false rest = rest

  pub asked_same : (ss : List Sent) (n : ℕ) → is_asked (map (resent f) ss) n ≡ is_asked ss n
  asked_same [] n = refl
  asked_same (s ∷ ss) n = ap (λ (b : Bool). (s.n == n && is_ask s.how) || b) (asked_same ss n)

  arrive_same : (from : ℕ) (ss : List Sent) (xs : List Arrived) → ArriveInOrder from ss xs →
      ArriveInOrder from (map (resent f) ss) xs
  arrive_same from [] [] holds = tt
  arrive_same from (s ∷ ss) [] holds = tt
  arrive_same from [] (a ∷ xs) holds = absurd holds
  arrive_same from (s ∷ ss) (a ∷ xs) holds = (holds.0, holds.1, arrive_same from ss xs holds.2)

  each_event_same : (R Q : ℕ → Happened → Type 0) (h : List Event) →
      ((stamp : ℕ) (w : Happened) → R stamp w → Q stamp (renumbered f w)) → EachEvent R h →
      EachEvent Q (renumbered_all f h)
  each_event_same R Q [] imp each = tt
  each_event_same R Q (e ∷ h) imp each = (imp e.stamp e.what each.0, each_event_same R Q h imp each.1)

  pair_of_request_same : (h : List Event) (r : Request) → pair_of_request (renumbered_all f h) r ≡ pair_of_request h r
  pair_of_request_same h (Receiving number) = pair_of_receive_same f h number
  pair_of_request_same h (Sending to n) = refl

  request_pair_same : (h : List Event) (o : Option Request) →
      option_and_then (pair_of_request (renumbered_all f h)) o ≡ option_and_then (pair_of_request h) o
  request_pair_same h None = refl
  request_pair_same h (Some r) = pair_of_request_same h r

module _ (f : ℕ → ℕ) (apart : KeepsApart f) (commands : List Numbered) where
  asked_pair_same : (h : List Event) (c : Command) →
      asked_pair (map (renumbered_command f) commands) (renumbered_all f h) c ≡ asked_pair commands h c
  asked_pair_same h (command.Wait q) =
      ap (λ (o : Option Request). option_and_then (pair_of_request (renumbered_all f h)) o)
      (live_same f apart commands h q) ∙ request_pair_same f h (live commands h q)
  asked_pair_same h (command.Test q) =
      ap (λ (o : Option Request). option_and_then (pair_of_request (renumbered_all f h)) o)
      (live_same f apart commands h q) ∙ request_pair_same f h (live commands h q)
  asked_pair_same h c = refl

  asked_pairs_same : (h : List Event) (line : ℕ) →
      option_and_then (asked_pair (map (renumbered_command f) commands) (renumbered_all f h))
      (command_at (map (renumbered_command f) commands) (f line))
      ≡ option_and_then (asked_pair commands h) (command_at commands line)
  asked_pairs_same h line =
      ap (λ (o : Option Command).
      option_and_then (asked_pair (map (renumbered_command f) commands) (renumbered_all f h)) o)
      (found_same f apart commands line)
      ∙ by (command_at commands line) where
        by : (o : Option Command) →
            option_and_then (asked_pair (map (renumbered_command f) commands) (renumbered_all f h)) o
            ≡ option_and_then (asked_pair commands h) o
        by None = refl
        by (Some c) = asked_pair_same h c

  -- a receive shows the bytes of its send
  shows_same : (from : ℕ) (ss : List Sent) (body : List ℕ) (pair : Pair) → ShowsBytes from commands ss body pair →
      ShowsBytes from (map (renumbered_command f) commands) (map (resent f) ss) body pair
  shows_same from ss body pair holds =
      on_true (IsSomeAnd (slice_get ss pair.arrival.n)
      (λ s. IsSomeAnd (command_at commands s.line) (λ c. body ≡ sent_bytes c)))
      (IsSomeAnd (slice_get (map (resent f) ss) pair.arrival.n)
      (λ s. IsSomeAnd (command_at (map (renumbered_command f) commands) s.line) (λ c. body ≡ sent_bytes c)))
      (pair.arrival.env.from == from)
      (λ shown. subst (λ (o : Option Sent). IsSomeAnd o
      (λ s. IsSomeAnd (command_at (map (renumbered_command f) commands) s.line) (λ c. body ≡ sent_bytes c)))
      (sym (get_mapped (resent f) ss pair.arrival.n)) (by (slice_get ss pair.arrival.n) shown)) holds where
        by : (o : Option Sent) → IsSomeAnd o (λ s. IsSomeAnd (command_at commands s.line) (λ c. body ≡ sent_bytes c)) →
            IsSomeAnd (option_map (resent f) o)
            (λ s. IsSomeAnd (command_at (map (renumbered_command f) commands) s.line) (λ c. body ≡ sent_bytes c))
        by None none = absurd none
        by (Some s) some =
            some_and (λ c. body ≡ sent_bytes c) (λ c. body ≡ sent_bytes c) (command_at commands s.line)
            (command_at (map (renumbered_command f) commands) (f s.line)) (found_same f apart commands s.line)
            (λ c is. is) some

module _ (f g : ℕ → ℕ) (apart : KeepsApart f) (others_apart : KeepsApart g) (i j : ℕ) (ci cj : List Numbered) where
  body_at : (ss : List Sent) (before : List Event) (w : Happened) → BodyAt i ci ss cj before w →
      BodyAt i (map (renumbered_command f) ci) (map (resent f) ss) (map (renumbered_command g) cj)
      (renumbered_all g before) (renumbered g w)
  body_at ss before (Ran line (Got source tag body)) holds =
      if_some (ShowsBytes i ci ss body) (ShowsBytes i (map (renumbered_command f) ci) (map (resent f) ss) body)
      (option_and_then (asked_pair cj before) (command_at cj line))
      (option_and_then (asked_pair (map (renumbered_command g) cj) (renumbered_all g before))
      (command_at (map (renumbered_command g) cj) (g line))) (asked_pairs_same g others_apart cj before line)
      (λ pair shows. shows_same f apart ci i ss body pair shows) holds
  body_at ss before w holds = tt

  out_at : (hj before : List Event) (stamp : ℕ) (w : Happened) → OutAfterPair i j hj before stamp w →
      OutAfterPair i j (renumbered_all g hj) (renumbered_all f before) stamp (renumbered f w)
  out_at hj before stamp (Out to n) holds =
      subst (λ (b : Bool). OnTrue (to == j && b) (IsTrue (is_taken (earlier_than stamp (renumbered_all g hj)) i n)))
      (sym (ap (λ (ss : List Sent). is_asked ss n) (sends_same f before j) ∙ asked_same f (sends before j) n))
      (subst (λ (b : Bool). OnTrue (to == j && is_asked (sends before j) n) (IsTrue b))
      (sym (ap (λ (h : List Event). is_taken h i n) (earlier_same g stamp hj)
      ∙ taken_same g (earlier_than stamp hj) i n)) holds)
  out_at hj before stamp w holds = tt

  withdraw_at : (hi : List Event) (stamp : ℕ) (w : Happened) → WithdrawAfterRecall i j hi stamp w →
      WithdrawAfterRecall i j (renumbered_all f hi) stamp (renumbered g w)
  withdraw_at hi stamp (Withdraw from n done) holds =
      subst (λ (b : Bool). OnTrue (from == i) (IsTrue b))
      (sym (ap (λ (h : List Event). happened (is_recall j n) h) (earlier_same f stamp hi)
      ∙ recall_same f j n (earlier_than stamp hi))) holds
  withdraw_at hi stamp w holds = tt

  undone_at : (hj : List Event) (stamp : ℕ) (w : Happened) → UndoneAfterWithdraw i j hj stamp w →
      UndoneAfterWithdraw i j (renumbered_all g hj) stamp (renumbered f w)
  undone_at hj stamp (Undone to n done) holds =
      subst (λ (b : Bool). OnTrue (to == j) (IsTrue b))
      (sym (ap (λ (h : List Event). happened (is_withdraw i n done) h) (earlier_same g stamp hj)
      ∙ withdraw_same g i n done (earlier_than stamp hj))) holds
  undone_at hj stamp w holds = tt

  pub delivered_same : (hi hj : List Event) → AreDelivered i j ci cj hi hj →
      AreDelivered i j (map (renumbered_command f) ci) (map (renumbered_command g) cj) (renumbered_all f hi)
      (renumbered_all g hj)
  delivered_same hi hj delivered = record {
    messages = subst (λ (ss : List Sent). ArriveInOrder i ss (arrivals (renumbered_all g hj) i))
        (sym (sends_same f hi j))
        (subst (λ (xs : List Arrived). ArriveInOrder i (map (resent f) (sends hi j)) xs) (sym (arrivals_same g hj i))
        (arrive_same f i (sends hi j) (arrivals hj i) delivered.messages));
    bodies = subst (λ (ss : List Sent). Always
        (BodyAt i (map (renumbered_command f) ci) ss (map (renumbered_command g) cj)) (renumbered_all g hj))
        (sym (sends_same f hi j))
        (always_same g (BodyAt i ci (sends hi j) cj)
        (BodyAt i (map (renumbered_command f) ci) (map (resent f) (sends hi j)) (map (renumbered_command g) cj)) hj
        (body_at (sends hi j)) delivered.bodies);
    outs = each_same f (λ before e. OutAfterPair i j hj before e.stamp e.what)
        (λ before e. OutAfterPair i j (renumbered_all g hj) before e.stamp e.what) hi
        (λ before e holds. out_at hj before e.stamp e.what holds) delivered.outs;
    withdrawals = record {
      asked = each_event_same g (WithdrawAfterRecall i j hi) (WithdrawAfterRecall i j (renumbered_all f hi)) hj
          (withdraw_at hi) delivered.withdrawals.asked;
      answered = each_event_same f (UndoneAfterWithdraw i j hj) (UndoneAfterWithdraw i j (renumbered_all g hj)) hi
          (undone_at hj) delivered.withdrawals.answered;
    };
  }
