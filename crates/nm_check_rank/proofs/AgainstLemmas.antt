-- Nothing stands against an event exactly where it keeps a rule.
use Rattle.std.proofs.Common.{◌≡◌, ℕ, ◌≤◌, ◌==◌, ◌&&◌, ◌||◌, Bool, true, false, not, cond, Option, Some, None, List, []}
use Rattle.std.proofs.Common.{◌∷◌, ◌+◌, drop, length, take, refl, sym, ◌∙◌, ap, arith, subst}
use Rattle.std.specs.Prelude.{All, IsSomeAnd, IsTrue, MatchBool, MatchOption, map, nat_lt, option_and_then, option_map}
use Rattle.std.specs.Prelude.{slice_get}
use Rattle.std.specs.Bool.{OnTrue}
use Rattle.std.specs.List.{list_any}
use Rattle.std.specs.Option.{option_map_or}
use Rattle.std.proofs.lemmas.Bool.{false≢true}
use Rattle.std.proofs.lemmas.List.Elements.{All-cons, All-head, All-nil}
use Rattle.std.proofs.lemmas.Option.{get_or_from_slice_get, slice_get_within}
use Rattle.nm_types.proofs.ListLemmas.{map_length, no_items, split_at}
use Rattle.nm_types.proofs.TruthLemmas.{neither}
use Rattle.nm_types.specs.declared.messages.Arrival.{Arrival}
use Rattle.nm_types.specs.declared.messages.How.{How}
use Rattle.nm_types.specs.declared.messages.How.TheVariants.{Ask, Eager}
use Rattle.nm_types.specs.declared.messages.Post.{Post}
use Rattle.nm_types.specs.declared.scripts.Body.{Body}
use Rattle.nm_types.specs.declared.scripts.Command.{Command}
use Rattle.nm_types.specs.declared.scripts.Command.TheVariants as command
use Rattle.nm_types.specs.Bodies.{body_len}
use Rattle.nm_types.specs.Commands.{Numbered, command_at}
use Rattle.nm_history.specs.declared.events.Event.{Event}
use Rattle.nm_history.specs.declared.events.Happened.{Happened}
use Rattle.nm_history.specs.declared.events.Happened.TheVariants as what
use Rattle.nm_history.specs.Answers.{Message as Claimed, is_seen, is_started, live, live_message}
use Rattle.nm_history.specs.AtEach.{AtEach}
use Rattle.nm_history.specs.Completion.{Request as Meant, is_taken}
use Rattle.nm_history.specs.Completion.Request.{Sending as sending, Receiving as receiving}
use Rattle.nm_history.specs.Happens.{happened, is_arrival, is_claim, is_out, is_recall, is_send, is_undone, is_whole}
use Rattle.nm_history.specs.Happens.{is_withdraw}
use Rattle.nm_history.specs.Matching.{first_message, is_free_message, is_of_receive, matched_pairs}
use Rattle.nm_history.specs.RankRun.{CancelAt, CancelsFor, CancelsOf, ClaimAt, EndAt, StartAt, WholeAt, cancels_since}
use Rattle.nm_history.specs.RankRun.{claim_of, claims_since, how_of, is_asking, is_canceller, is_cancelling}
use Rattle.nm_history.specs.RankRun.{is_matched_probe, is_start, lacks_message, since_command, start_of, starts_since}
use Rattle.nm_history.specs.RankRun.{without_number}
use Rattle.nm_history.specs.Sends.{is_ask}
use Rattle.nm_history.proofs.AtEachLemmas.{AtEach-split}
use Rattle.nm_lookups.specs.AskedFor.{name_of}
use Rattle.nm_lookups.specs.Deciding.{Decides}
use Rattle.nm_lookups.specs.Looks.{found_by}
use Rattle.nm_lookups.specs.declared.asked.requests.Request.TheVariants.{Sending, Receiving}
use Rattle.nm_match.specs.declared.names.Message.{Message}
use Rattle.nm_match.specs.Names.{id_of_arrival}
use Rattle.nm_check_rank.specs.Arguments.{IsFirstMismatch, arguments}
use Rattle.nm_check_rank.specs.Cancellings.{cancel_due, cancels_due, receive_cancels, receive_due, send_cancels, send_due}
use Rattle.nm_check_rank.specs.Claimings.{claim_due, claims_due, message_due}
use Rattle.nm_check_rank.specs.Manies.{many_due, many_of}
use Rattle.nm_check_rank.specs.Objections.{either, end_objection, once_after, whole_objection, word_after}
use Rattle.nm_check_rank.specs.Startings.{IsStartDue, IsStartsDue, IsTakenDue, limit_due, mismatch_due, one_due, sent_due}
use Rattle.nm_check_rank.specs.declared.paired.arguments.Argument.TheVariants as arg
use Rattle.nm_check_rank.specs.declared.paired.arguments.Mismatch.{Mismatch}
use Rattle.nm_check_rank.specs.declared.paired.dues.Due.{Due}
use Rattle.nm_check_rank.specs.declared.paired.dues.Due.TheVariants as due
use Rattle.nm_check_rank.specs.declared.paired.manies.Many.TheVariants as many
use Rattle.nm_check_rank.specs.declared.paired.objections.Objection.{Objection}
use Rattle.nm_check_rank.specs.declared.paired.objections.Objection.TheVariants as against
use Rattle.nm_check_rank.proofs.CancelLemmas.{is_that_recall, no_two_recalls, some_of_kind}
use Rattle.nm_check_rank.proofs.DecideLemmas.{decides_both, decides_nat}
use Rattle.nm_check_rank.proofs.DifferLemmas.{differ_not}
use Rattle.nm_check_rank.proofs.ManyLemmas.{passed_head, same_head}
use Rattle.nm_check_rank.proofs.PushLemmas.{since_happened}
use Rattle.nm_check_rank.proofs.StartLemmas.{few_started}

-- nothing is told exactly where it holds
abbrev pub Tells : {X : Type 0} → Option X → Type 0 → Type 0
Tells o P = MatchOption o P (λ x. P → ⊥)

-- .. and else what is told is this
pub exact : {X : Type 0} (P : Type 0) (Q : Option X → Type 0) (o : Option X) → Q o → Tells o P →
    MatchOption o P (λ x. (P → ⊥) × Q (Some x))
exact P Q None told tells = tells
exact P Q (Some x) told tells = (tells, told)

-- the same is told of what holds where the other does
tells_by : {X : Type 0} {P Q : Type 0} (o : Option X) → Tells o P → (P → Q) → (Q → P) → Tells o Q
tells_by None tells there back = there tells
tells_by (Some x) tells there back = λ q. tells (back q)

tells_same : {X : Type 0} (P : Type 0) (found o : Option X) → found ≡ o → Tells o P → Tells found P
tells_same {X} P found o is tells = subst (λ (x : Option X). Tells x P) (sym is) tells

pub exactly : {X : Type 0} (P : Type 0) (found o : Option X) → found ≡ o → Tells o P →
    MatchOption found P (λ x. (P → ⊥) × (Some x ≡ o))
exactly {X} P found o is tells = exact P (λ (x : Option X). x ≡ o) found is (tells_same P found o is tells)

tells_test : {X : Type 0} (P : Type 0) (b : Bool) (x : X) → Decides b P → Tells (cond b None (Some x)) P
tells_test P true x decides = decides
tells_test P false x decides = decides

against_tells : (P : Type 0) (o : Option Objection) → Tells o P → Tells (option_map due.Against o) P
against_tells P None tells = tells
against_tells P (Some a) tells = tells

pub exactly_against : (P : Type 0) (found : Option Due) (o : Option Objection) → found ≡ option_map due.Against o →
    Tells o P → MatchOption found P (λ x. (P → ⊥) × (Some x ≡ option_map due.Against o))
exactly_against P found o is tells = exactly P found (option_map due.Against o) is (against_tells P o tells)

no_item : {X : Type 0} (x : X) → [] ≡ x ∷ [] → ⊥
no_item x same = let both : 0 ≡ length (x ∷ []) = ap length same in omega (arith, both)

no_more : {X : Type 0} (x y z : X) (xs : List X) → x ∷ y ∷ xs ≡ z ∷ [] → ⊥
no_more x y z xs same = let both : length (x ∷ y ∷ xs) ≡ 1 = ap length same in omega (arith, both)

-- the claims at an answer
claims_tell : (line : ℕ) (called : Bool) (ys : List ℕ) →
    Tells (claims_due (cond called (line ∷ []) []) ys) (ys ≡ cond called (line ∷ []) [])
claims_tell line true [] = λ is. no_item line is
claims_tell line true (y ∷ []) =
    tells_by (cond (line == y) None (Some (due.Named line y)))
    (tells_test (line ≡ y) (line == y) (due.Named line y) (decides_nat line y))
    (λ same. ap (λ (n : ℕ). n ∷ []) (sym same)) (λ is. sym (same_head is))
claims_tell line true (y ∷ z ∷ zs) = λ is. no_more y z line zs is
claims_tell line false [] = refl
claims_tell line false (y ∷ []) = λ is. no_item y (sym is)
claims_tell line false (y ∷ z ∷ zs) = λ is. let both : length (y ∷ z ∷ zs) ≡ 0 = ap length is in omega (arith, both)

-- a claim
module _ (before : List Event) (from n line : ℕ) where
  abbrev found : Message
  found = record { rank = from; n = n }

  parts : {f m : ℕ} → (what.Claim f m line ∷ []) ≡ (what.Claim from n line ∷ []) → (f ≡ from) × (m ≡ n)
  parts same = (cc, cc)

  found_tells : (o : Option Arrival) → Tells (message_due (option_map id_of_arrival o) found)
      (option_map_or (λ a. what.Claim a.env.from a.n line ∷ []) o [] ≡ what.Claim from n line ∷ [])
  found_tells None = λ is. no_item _ is
  found_tells (Some a) =
      tells_by
      (cond (a.env.from == from && a.n == n) None (Some (due.Claim (Some (id_of_arrival a)) found)))
      (tells_test ((a.env.from ≡ from) × (a.n ≡ n)) (a.env.from == from && a.n == n)
      (due.Claim (Some (id_of_arrival a)) found)
      (decides_both (a.env.from ≡ from) (a.n ≡ n) (a.env.from == from) (a.n == n) (decides_nat a.env.from from)
      (decides_nat a.n n)))
      (λ both i. what.Claim (both.0 i) (both.1 i) line ∷ []) (λ is. parts is)

  probe_tells : (o : Option Command) → Tells
      (message_due (option_map id_of_arrival
      (option_and_then (λ c. cond (is_matched_probe c) (found_by before c) None) o)) found)
      (IsSomeAnd o (λ c. claim_of before line c ≡ what.Claim from n line ∷ []))
  probe_tells None = λ is. is
  probe_tells (Some (command.Mprobe m from' tag ctx)) =
      found_tells (first_message before (matched_pairs before) from' tag ctx)
  probe_tells (Some c) = λ is. no_item _ is

pub claim_tells : (commands : List Numbered) (before : List Event) (w : Happened) →
    Tells (claim_due commands before w) (ClaimAt commands before w)
claim_tells commands before (what.Claim from n line) = probe_tells before from n line (command_at commands line)
claim_tells commands before (what.Ran line answer) =
    claims_tell line (option_map_or is_matched_probe (command_at commands line) false && is_seen answer)
    (claims_since before)
claim_tells commands before w = tt

-- the word of a cancel or a withdrawal
word_tells : (called done : Bool) → Tells (word_after called done) (done ≡ called)
word_tells true true = refl
word_tells false false = refl
word_tells true false = λ same. false≢true same
word_tells false true = λ same. false≢true (sym same)

-- it happened before, or something else had to be before it, and was not; or something else is told
once_or : (P : Type 0) (again there : Bool) (lacks : Objection) (o : Option Objection) → Tells o P →
    Tells (either (once_after again there lacks) o) ((again ≡ false) × IsTrue there × P)
once_or P true there lacks o tells = λ all. false≢true (sym all.0)
once_or P false false lacks o tells = λ all. false≢true all.1
once_or P false true lacks None tells = (refl, refl, tells)
once_or P false true lacks (Some x) tells = λ all. tells all.2

once_tells : (again there : Bool) (lacks : Objection) →
    Tells (once_after again there lacks) ((again ≡ false) × IsTrue there)
once_tells true there lacks = λ all. false≢true (sym all.0)
once_tells false false lacks = λ all. false≢true all.1
once_tells false true lacks = (refl, refl)

both_false : (a b : Bool) → a ≡ false → b ≡ false → (a || b) ≡ false
both_false false b none other = other
both_false true b none other = absurd (false≢true (sym none))

-- none of some
nothing_tells : (ws : List Happened) → Tells (many_due many.Nothing (many_of ws)) (ws ≡ [])
nothing_tells [] = refl
nothing_tells (w ∷ []) = λ is. no_item w (sym is)
nothing_tells (w ∷ v ∷ ws) = λ is. let both : length (w ∷ v ∷ ws) ≡ 0 = ap length is in omega (arith, both)

-- the cancel of a receive
cancel_parts : {m k : ℕ} {d e : Bool} → what.Cancel m d ≡ what.Cancel k e → (m ≡ k) × (d ≡ e)
cancel_parts same = (cc, cc)

recall_parts : {t f m k : ℕ} → what.Recall t m ≡ what.Recall f k → (t ≡ f) × (m ≡ k)
recall_parts same = (cc, cc)

no_recall : {t m k : ℕ} {d : Bool} → what.Cancel m d ≡ what.Recall t k → ⊥
no_recall same = cc

one_received : (number : ℕ) (paired : Bool) (w : Happened) → is_cancelling w ≡ true →
    Tells (receive_due number paired w) (w ≡ what.Cancel number (not paired))
one_received number paired (what.Cancel found done) kind = by_test (number == found) (decides_nat number found)
  where
    by_test : (b : Bool) → Decides b (number ≡ found) →
        Tells (cond b (option_map due.Against (word_after (not paired) done))
        (Some (due.Of (Receiving number) (Receiving found))))
        (what.Cancel found done ≡ what.Cancel number (not paired))
    by_test true same =
        let back : found ≡ number = sym same in
        tells_by (option_map due.Against (word_after (not paired) done))
        (against_tells (done ≡ not paired) (word_after (not paired) done) (word_tells (not paired) done))
        (λ word i. what.Cancel (back i) (word i)) (λ is. (cancel_parts is).1)
    by_test false other = λ is. other (sym (cancel_parts is).0)
one_received number paired (what.Recall to n) kind = λ is. no_recall (sym is)
one_received number paired w kind = absurd (false≢true kind)

received_tells : (number : ℕ) (paired : Bool) (ws : List Happened) →
    ((w : Happened) → ws ≡ w ∷ [] → is_cancelling w ≡ true) →
    Tells (receive_cancels number paired ws) (ws ≡ what.Cancel number (not paired) ∷ [])
received_tells number paired [] kinds = λ is. no_item _ is
received_tells number paired (w ∷ []) kinds =
    tells_by (receive_due number paired w) (one_received number paired w (kinds w refl))
    (λ is. ap (λ (x : Happened). x ∷ []) is) (λ is. same_head is)
received_tells number paired (w ∷ v ∷ ws) kinds = λ is. no_more w v _ ws is

-- .. of a send
one_recalled : (to n : ℕ) (w : Happened) → is_cancelling w ≡ true → Tells (send_due to n w) (w ≡ what.Recall to n)
one_recalled to n (what.Recall found m) kind =
    tells_by (cond (to == found && n == m) None (Some (due.Of (Sending to n) (Sending found m))))
    (tells_test ((to ≡ found) × (n ≡ m)) (to == found && n == m) (due.Of (Sending to n) (Sending found m))
    (decides_both (to ≡ found) (n ≡ m) (to == found) (n == m) (decides_nat to found) (decides_nat n m)))
    (λ both. sym (λ i. what.Recall (both.0 i) (both.1 i))) (λ is. recall_parts (sym is))
one_recalled to n (what.Cancel number done) kind = λ is. no_recall is
one_recalled to n w kind = absurd (false≢true kind)

sent_tells : (to n : ℕ) (recalled : Bool) (ws : List Happened) →
    ((w : Happened) → ws ≡ w ∷ [] → is_cancelling w ≡ true) → ((ws ≡ what.Recall to n ∷ []) → recalled ≡ true) →
    (2 ≤ length ws → All (λ x. x ≡ what.Recall to n) ws → ⊥) →
    Tells (send_cancels to n recalled ws) (IsTrue recalled × All (λ x. x ≡ what.Recall to n) ws)
sent_tells to n true [] kinds among few = (refl, All-nil (λ (x : Happened). x ≡ what.Recall to n))
sent_tells to n false [] kinds among few = λ all. false≢true all.0
sent_tells to n recalled (w ∷ []) kinds among few =
    tells_by (send_due to n w) (one_recalled to n w (kinds w refl))
    (λ is. (
      among (ap (λ (x : Happened). x ∷ []) is),
      All-cons (λ (x : Happened). x ≡ what.Recall to n) w [] is (All-nil (λ (x : Happened). x ≡ what.Recall to n)),
    ))
    (λ all. All-head (λ (x : Happened). x ≡ what.Recall to n) w [] all.1)
sent_tells to n recalled (w ∷ v ∷ ws) kinds among few = λ all. few (omega arith) all.1

-- the cancels since the answer before
module _ (commands : List Numbered) (before : List Event)
    (each : AtEach (λ b e. CancelAt commands b e.what) before) where
  request_tells : (o : Option Meant) → Tells (cancels_due before o (cancels_since before)) (CancelsOf before o)
  request_tells None = nothing_tells (cancels_since before)
  request_tells (Some (receiving number)) =
      received_tells number (list_any (is_of_receive number) (matched_pairs before)) (cancels_since before)
      (λ w one. passed_head is_cancelling (since_command before) w one)
  request_tells (Some (sending to n)) =
      sent_tells to n (happened (is_recall to n) before) (cancels_since before)
      (λ w one. passed_head is_cancelling (since_command before) w one)
      (λ one. since_happened (is_recall to n) before (some_of_kind commands to n (is_recall to n) is_cancelling
      (since_command before) (ap (λ (ws : List Happened). list_any (is_recall to n) ws) one
      ∙ ap (λ (b : Bool). b || false) (is_that_recall commands to n))))
      (λ two all. no_two_recalls commands to n before each two all)

  cancels_tell : (o : Option Command) → Tells
      (cancels_due before
      (option_and_then (λ c. cond (is_canceller c) (option_and_then (live commands before) (name_of c)) None) o)
      (cancels_since before))
      (MatchOption o (cancels_since before ≡ []) (CancelsFor commands before))
  cancels_tell None = nothing_tells (cancels_since before)
  cancels_tell (Some (command.Cancel q)) = request_tells (live commands before q)
  cancels_tell (Some c) = nothing_tells (cancels_since before)

  pub cancel_tells : (w : Happened) → Tells (cancel_due commands before w) (CancelAt commands before w)
  cancel_tells (what.Ran line answer) = cancels_tell (command_at commands line)
  cancel_tells (what.Cancel number done) =
      let called = not (list_any (is_of_receive number) (matched_pairs before)) in
      against_tells (done ≡ called) (word_after called done) (word_tells called done)
  cancel_tells (what.Recall to n) =
      let again = happened (is_recall to n) before in
      let there = happened (is_send to n) before in
      against_tells ((again ≡ false) × IsTrue there) (once_after again there against.NotSent)
      (once_tells again there against.NotSent)
  cancel_tells w = tt

-- a message that is whole, is withdrawn or leaves, and the answer to a recall
taken_tells : (asking taken : Bool) →
    Tells (cond (asking && not taken) (Some against.NotTaken) None) (OnTrue asking (IsTrue taken))
taken_tells true true = refl
taken_tells true false = λ is. false≢true is
taken_tells false taken = tt

pub whole_tells : (before : List Event) (w : Happened) → Tells (whole_objection before w) (WholeAt before w)
whole_tells before (what.Whole from n) =
    let asking = happened (is_asking from n) before in
    let taken = is_taken before from n in
    once_or (OnTrue asking (IsTrue taken)) (happened (is_whole from n) before) (happened (is_arrival from n) before)
    against.NotCome (cond (asking && not taken) (Some against.NotTaken) None) (taken_tells asking taken)
whole_tells before w = tt

pub end_tells : (before : List Event) (w : Happened) → Tells (end_objection before w) (EndAt before w)
end_tells before (what.Withdraw from n done) =
    let one = happened (is_withdraw from n true) before in
    let other = happened (is_withdraw from n false) before in
    let free = is_free_message before (matched_pairs before) from n in
    tells_by (end_objection before (what.Withdraw from n done))
    (once_or (done ≡ free) (one || other) (happened (is_arrival from n) before) against.NotCome (word_after free done)
    (word_tells free done))
    (λ all. let apart = neither one other all.0 in (apart.0, apart.1, all.1, all.2))
    (λ all. (both_false one other all.0 all.1, all.2, all.3))
end_tells before (what.Out to n) =
    once_tells (happened (is_out to n) before) (happened (is_send to n) before) against.NotSent
end_tells before (what.Undone to n done) =
    let one = happened (is_undone to n true) before in
    let other = happened (is_undone to n false) before in
    tells_by (end_objection before (what.Undone to n done))
    (once_tells (one || other) (happened (is_recall to n) before) against.NotRecalled)
    (λ all. let apart = neither one other all.0 in (apart.0, apart.1, all.1))
    (λ all. (both_false one other all.0 all.1, all.2))
end_tells before w = tt

-- how a send goes
how_back : (how : How) (b : Bool) → is_ask how ≡ b → how ≡ cond b Ask Eager
how_back Ask true is = refl
how_back Eager false is = refl
how_back Ask false is = absurd (false≢true (sym is))
how_back Eager true is = absurd (false≢true is)

ask_back : (how : How) (b : Bool) → how ≡ cond b Ask Eager → is_ask how ≡ b
ask_back how true is = ap is_ask is
ask_back how false is = ap is_ask is

limit_tells : (limit len : ℕ) (called asks : Bool) → Tells (limit_due limit len called asks) (asks ≡ called)
limit_tells limit len true true = refl
limit_tells limit len false false = refl
limit_tells limit len true false = λ is. false≢true is
limit_tells limit len false true = λ is. false≢true (sym is)

how_tells : (limit q to tag ctx : ℕ) (body : Body) (sync : Bool) (how : How) →
    Tells (sent_due limit how (command.Send to q tag ctx sync body)) (how ≡ how_of limit sync (body_len body))
how_tells limit q to tag ctx body true Ask = refl
how_tells limit q to tag ctx body true Eager = λ is. false≢true (ap is_ask is)
how_tells limit q to tag ctx body false how =
    let long = nat_lt limit (body_len body) in
    tells_by (limit_due limit (body_len body) long (is_ask how)) (limit_tells limit (body_len body) long (is_ask how))
    (λ is. how_back how long is) (λ is. ask_back how long is)

-- the arguments are all of a start but its number and whether it asks
send_same : (to tag ctx len line : ℕ) (how : How) (v : Happened) →
    arguments (what.Send to 0 tag ctx len how line) ≡ arguments v →
    (n : ℕ) × (h : How) × (v ≡ what.Send to n tag ctx len h line)
send_same to tag ctx len line how (what.Send to' n tag' ctx' len' how' line') same =
    let tos : to' ≡ to = cc in
    let tags : tag' ≡ tag = cc in
    let ctxs : ctx' ≡ ctx = cc in
    let lens : len' ≡ len = cc in
    let lines : line' ≡ line = cc in
    (n, how', λ i. what.Send (tos i) n (tags i) (ctxs i) (lens i) how' (lines i))
send_same to tag ctx len line how (what.Match number from n cap line') same = absurd (let no : ⊥ = cc in no)
send_same to tag ctx len line how v same = absurd (let no : ⊥ = cc in no)

post_same : (p : Post) (line : ℕ) (v : Happened) → is_start v ≡ true → arguments (what.Post p line) ≡ arguments v →
    (n : ℕ) × (v ≡ what.Post (record p { number = n }) line)
post_same p line (what.Send to n tag ctx len how line') kind same = absurd (let no : ⊥ = cc in no)
post_same p line (what.Post p' line') kind same =
    let froms : p'.from ≡ p.from = cc in
    let tags : p'.tag ≡ p.tag = cc in
    let ctxs : p'.ctx ≡ p.ctx = cc in
    let caps : p'.cap ≡ p.cap = cc in
    let lines : line' ≡ line = cc in (
      p'.number,
      λ i. what.Post (record {
        number = p'.number;
        from = froms i;
        tag = tags i;
        ctx = ctxs i;
        cap = caps i;
      }) (lines i),
    )
post_same p line (what.Match number from n cap line') kind same = absurd (let no : ⊥ = cc in no)
post_same p line v kind same = absurd (false≢true kind)

abbrev record_message : ℕ → ℕ → Message
record_message from n = record { rank = from; n = n }

message_back : {a b : Message} → arg.Message a ≡ arg.Message b → a ≡ b
message_back same = cc

match_same : (from n cap line : ℕ) (v : Happened) → arguments (what.Match 0 from n cap line) ≡ arguments v →
    (m : ℕ) × (v ≡ what.Match m from n cap line)
match_same from n cap line (what.Send to n' tag ctx len how line') same = absurd (let no : ⊥ = cc in no)
match_same from n cap line (what.Match number from' n' cap' line') same =
    let messages : arg.Message (record_message from' n') ≡ arg.Message (record_message from n) = cc in
    let message : record_message from' n' ≡ record_message from n = message_back messages in
    let caps : cap' ≡ cap = cc in
    let lines : line' ≡ line = cc in
    (number, λ i. what.Match number (message i).rank (message i).n (caps i) (lines i))
match_same from n cap line v same = absurd (let no : ⊥ = cc in no)

same_arguments : (v : Happened) → arguments (without_number v) ≡ arguments v
same_arguments (what.Send to n tag ctx len how line) = refl
same_arguments (what.Post p line) = refl
same_arguments (what.Match number from n cap line) = refl
same_arguments v = refl

send_how : {to to' n tag tag' ctx ctx' len len' line line' : ℕ} {how how' : How} →
    what.Send to 0 tag ctx len how line ≡ what.Send to' n tag' ctx' len' how' line' → how ≡ how'
send_how same = cc

module _ (limit : ℕ) (commands : List Numbered) (before : List Event) (line : ℕ) where
  -- one start with these arguments is sent as it is to be
  start_is : (c : Command) (w v : Happened) → start_of limit commands before line c ≡ w ∷ [] → is_start v ≡ true →
      arguments w ≡ arguments v → Tells (one_due limit c v) (without_number v ≡ w)
  start_is (command.Send to q tag ctx sync body) w v is kind same =
      let len = body_len body in
      let how = how_of limit sync len in
      let called : what.Send to 0 tag ctx len how line ≡ w = same_head is in
      let found = send_same to tag ctx len line how v (ap arguments called ∙ same) in
      subst (λ (x : Happened). Tells (one_due limit (command.Send to q tag ctx sync body) x) (without_number x ≡ w))
      (sym found.2)
      (tells_by (sent_due limit found.1 (command.Send to q tag ctx sync body))
      (how_tells limit q to tag ctx body sync found.1)
      (λ sent. (λ i. what.Send to 0 tag ctx len (sent i) line) ∙ called) (λ whole. send_how (whole ∙ sym called)))
  start_is (command.Recv q from tag ctx cap) w v is kind same =
      let p : Post = record { number = 0; from = from; tag = tag; ctx = ctx; cap = cap } in
      let called : what.Post p line ≡ w = same_head is in
      let found = post_same p line v kind (ap arguments called ∙ same) in
      subst (λ (x : Happened). Tells (one_due limit (command.Recv q from tag ctx cap) x) (without_number x ≡ w))
      (sym found.1) called
  start_is (command.Mrecv q m cap) w v is kind same = by_message (live_message commands before m) is
    where
      by_message : (o : Option Claimed) →
          option_map_or (λ a. what.Match 0 a.from a.n cap line ∷ []) o [] ≡ w ∷ [] →
          Tells (one_due limit (command.Mrecv q m cap) v) (without_number v ≡ w)
      by_message None is = absurd (no_item w is)
      by_message (Some a) is =
          let called : what.Match 0 a.from a.n cap line ≡ w = same_head is in
          let found = match_same a.from a.n cap line v (ap arguments called ∙ same) in
          subst (λ (x : Happened). Tells (one_due limit (command.Mrecv q m cap) x) (without_number x ≡ w))
          (sym found.1) called
  start_is c w v is kind same = absurd (no_item w is)

  apart : (ys xs : List Happened) (told : Option Due) (d : Due) → told ≡ Some d →
      (length ys ≡ length xs → ⊥) → Tells told (map without_number ys ≡ xs)
  apart ys xs told d is other =
      tells_same (map without_number ys ≡ xs) told (Some d) is
      (λ same. other (sym (map_length without_number ys) ∙ ap length same))

  starts_tell : (c : Command) (xs ys : List Happened) (told : Option Due) → start_of limit commands before line c ≡ xs →
      ((v : Happened) → ys ≡ v ∷ [] → is_start v ≡ true) → IsStartsDue limit c xs ys told →
      Tells told (map without_number ys ≡ xs)
  starts_tell c [] [] told is kinds given = tells_same (map without_number [] ≡ []) told None given refl
  starts_tell c [] (v ∷ []) told is kinds given = apart (v ∷ []) [] told _ given (λ same. omega (arith, same))
  starts_tell c [] (v ∷ u ∷ vs) told is kinds given = apart (v ∷ u ∷ vs) [] told _ given (λ same. omega (arith, same))
  starts_tell c (w ∷ []) [] told is kinds given = apart [] (w ∷ []) told _ given (λ same. omega (arith, same))
  starts_tell c (w ∷ []) (v ∷ []) told is kinds given = by_first given.0 given.1 given.2
    where
      by_first : (first : Option Mismatch) → IsFirstMismatch (arguments w) (arguments v) first →
          told ≡ mismatch_due first (one_due limit c v) → Tells told ((without_number v ∷ []) ≡ (w ∷ []))
      by_first None same given =
          tells_same ((without_number v ∷ []) ≡ (w ∷ [])) told (one_due limit c v) given
          (tells_by (one_due limit c v) (start_is c w v is (kinds v refl) same)
          (λ one. ap (λ (x : Happened). x ∷ []) one) (λ one. same_head one))
      by_first (Some m) other given =
          tells_same ((without_number v ∷ []) ≡ (w ∷ [])) told (Some (due.Argument m)) given
          (λ one. differ_not (arguments w) (arguments v) other.0 other.1
          (ap arguments (sym (same_head one)) ∙ same_arguments v))
  starts_tell c (w ∷ []) (v ∷ u ∷ vs) told is kinds given =
      apart (v ∷ u ∷ vs) (w ∷ []) told _ given (λ same. omega (arith, same))
  starts_tell c (w ∷ u ∷ us) ys told is kinds given =
      let few = few_started limit commands before line c in
      let both : length (start_of limit commands before line c) ≡ length (w ∷ u ∷ us) = ap length is in
      absurd (omega (arith, few, both))

  -- the starts since the answer before
  none_tells : (told : Option Due) → told ≡ many_due many.Nothing (many_of (starts_since before)) →
      Tells told ((map without_number (starts_since before) ≡ []) × (false ≡ false))
  none_tells told given =
      tells_same ((map without_number (starts_since before) ≡ []) × (false ≡ false)) told
      (many_due many.Nothing (many_of (starts_since before))) given
      (tells_by (many_due many.Nothing (many_of (starts_since before))) (nothing_tells (starts_since before))
      (λ none. (ap (λ (ws : List Happened). map without_number ws) none, refl))
      (λ all. no_items (starts_since before)
      (sym (map_length without_number (starts_since before)) ∙ ap length all.0)))

  answer_tells : (o : Option Command) (started : Bool) (told : Option Due) →
      MatchOption (cond started o None) (told ≡ many_due many.Nothing (many_of (starts_since before)))
      (λ c. IsTakenDue limit commands before line c (starts_since before) told) →
      Tells told ((map without_number (starts_since before)
      ≡ cond started (option_map_or (start_of limit commands before line) o []) [])
      × ((started && option_map_or (lacks_message commands before) o false) ≡ false))
  answer_tells o false told given = none_tells told given
  answer_tells None true told given = none_tells told given
  answer_tells (Some c) true told given = by_test (lacks_message commands before c) given
    where
      by_test : (b : Bool) → MatchBool b (told ≡ Some (due.Against against.NoMessage))
          (IsStartsDue limit c (start_of limit commands before line c) (starts_since before) told) →
          Tells told ((map without_number (starts_since before) ≡ start_of limit commands before line c) × (b ≡ false))
      by_test true given =
          tells_same ((map without_number (starts_since before) ≡ start_of limit commands before line c)
          × (true ≡ false)) told (Some (due.Against against.NoMessage)) given (λ all. false≢true (sym all.1))
      by_test false given =
          tells_by told
          (starts_tell c (start_of limit commands before line c) (starts_since before) told refl
          (λ v one. passed_head is_start (since_command before) v one) given)
          (λ same. (same, refl)) (λ all. all.0)

-- the receive of a claimed message
claimed_tells : (taken claimed : Bool) → Tells
    (cond taken (Some against.Taken) (cond claimed None (Some against.NotClaimed))) (IsTrue (claimed && not taken))
claimed_tells false true = refl
claimed_tells false false = λ is. false≢true is
claimed_tells true true = λ is. false≢true is
claimed_tells true false = λ is. false≢true is

pub start_tells : (limit : ℕ) (commands : List Numbered) (before : List Event) (w : Happened) (told : Option Due) →
    IsStartDue limit commands before w told → Tells told (StartAt limit commands before w)
start_tells limit commands before (what.Ran line answer) told given =
    answer_tells limit commands before line (command_at commands line) (is_started answer) told given
start_tells limit commands before (what.Match number from n cap line) told given =
    let taken = is_taken before from n in
    let claimed = happened (is_claim from n) before in
    let o = cond taken (Some against.Taken) (cond claimed None (Some against.NotClaimed)) in
    tells_same (IsTrue (claimed && not taken)) told (option_map due.Against o) given
    (against_tells (IsTrue (claimed && not taken)) o (claimed_tells taken claimed))
start_tells limit commands before w told given = tells_same (Unit {0}) told None given tt

-- what each event keeps
pub holds_at : (R : List Event → Event → Type 0) (h : List Event) (k : ℕ) (e : Event) → slice_get h k ≡ Some e →
    AtEach R h → R (take k h) e
holds_at R h k e here each =
    let inside = slice_get_within h k e here in
    AtEach-split R (take k h) e (drop (k + 1) h)
    (subst (λ (g : List Event). AtEach R g) (split_at h k e inside (sym (get_or_from_slice_get h k e e here))) each)
