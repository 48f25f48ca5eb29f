-- The events by the words of their lines, both ways.
use Rattle.std.proofs.Common.{◌≡◌, ℕ, ◌<◌, ◌^◌, Bool, List, [], ◌∷◌, Some, refl, decimal}
use Rattle.nm_types.specs.declared.messages.How.{How}
use Rattle.nm_types.specs.declared.messages.Peer.{Peer}
use Rattle.nm_types.specs.declared.messages.TagPick.{TagPick}
use Rattle.nm_types.specs.Text.{peer_word, tag_word}
use Rattle.nm_history.specs.declared.events.Happened.{Happened}
use Rattle.nm_history.specs.declared.events.Happened.TheVariants as what
use Rattle.nm_report.specs.Answers.{answer_words}
use Rattle.nm_report.specs.Events.{how_word, done_word}
use Rattle.nm_script.specs.Decimal.{number_of}
use Rattle.nm_trace.specs.declared.sorts.Sort.{Sort}
use Rattle.nm_trace.specs.declared.sorts.Sort.TheVariants as sort
use Rattle.nm_trace.specs.Events.{send_with}
use Rattle.nm_trace.specs.Events.{peer_of, pick_of, how_of, done_of, send_of, post_of, arrive_of}
use Rattle.nm_trace.specs.Events.{whole_of, out_of, cancel_of, recall_of, withdraw_of, undone_of}
use Rattle.nm_trace.specs.Events.{claim_of, match_of, plain_of}
use Rattle.nm_trace.specs.Traces.{PeerIn, PickIn, WhatIn}
use Rattle.nm_trace.proofs.FieldLemmas.{bind_some, small_again, middle_again, large_again, huge_again}
use Rattle.nm_trace.proofs.FieldLemmas.{peer_again, pick_again, how_again, done_again}
use Rattle.nm_trace.proofs.FieldLemmas.{small_taken, middle_taken, large_taken, huge_taken}
use Rattle.nm_trace.proofs.FieldLemmas.{peer_taken, pick_taken, how_taken, done_taken}

-- what is spelled is read

send_again : (to : ℕ) (n : ℕ) (tag : ℕ) (ctx : ℕ) (len : ℕ) (how : How) (line : ℕ) → to < 2 ^ 8 → n < 2 ^ 64
    → tag < 2 ^ 16 → ctx < 2 ^ 8 → len < 2 ^ 32 → line < 2 ^ 64
    → send_of (decimal to ∷ decimal n ∷ decimal tag ∷ decimal ctx ∷ decimal len ∷ how_word how ∷ decimal line
    ∷ []) ≡ Some (what.Send to n tag ctx len how line)
unfolding send_of send_with
send_again to n tag ctx len how line h0 h1 h2 h3 h4 h5 =
    rw (
      small_again to h0,
      huge_again n h1,
      middle_again tag h2,
      small_again ctx h3,
      large_again len h4,
      how_again how,
      huge_again line h5,
    ) refl

post_again : (number : ℕ) (from : Peer) (tag : TagPick) (ctx : ℕ) (cap : ℕ) (line : ℕ) → number < 2 ^ 64
    → PeerIn from → PickIn tag → ctx < 2 ^ 8 → cap < 2 ^ 32 → line < 2 ^ 64
    → post_of (decimal number ∷ peer_word from ∷ tag_word tag ∷ decimal ctx ∷ decimal cap ∷ decimal line
    ∷ []) ≡ Some (what.Post (record { number = number; from = from; tag = tag; ctx = ctx; cap = cap }) line)
unfolding post_of
post_again number from tag ctx cap line h0 h1 h2 h3 h4 h5 =
    rw (
      huge_again number h0,
      peer_again from h1,
      pick_again tag h2,
      small_again ctx h3,
      large_again cap h4,
      huge_again line h5,
    ) refl

arrive_again : (from : ℕ) (n : ℕ) (tag : ℕ) (ctx : ℕ) (len : ℕ) (how : How) → from < 2 ^ 8 → n < 2 ^ 64
    → tag < 2 ^ 16 → ctx < 2 ^ 8 → len < 2 ^ 32
    → arrive_of (decimal from ∷ decimal n ∷ decimal tag ∷ decimal ctx ∷ decimal len ∷ how_word how ∷ [])
    ≡ Some (what.Arrive
    (record { n = n; env = record { from = from; tag = tag; ctx = ctx; len = len; how = how } }))
unfolding arrive_of
arrive_again from n tag ctx len how h0 h1 h2 h3 h4 =
    rw (
      small_again from h0,
      huge_again n h1,
      middle_again tag h2,
      small_again ctx h3,
      large_again len h4,
      how_again how,
    ) refl

whole_again : (from : ℕ) (n : ℕ) → from < 2 ^ 8 → n < 2 ^ 64
    → whole_of (decimal from ∷ decimal n ∷ []) ≡ Some (what.Whole from n)
unfolding whole_of
whole_again from n h0 h1 =
    rw (small_again from h0, huge_again n h1) refl

out_again : (to : ℕ) (n : ℕ) → to < 2 ^ 8 → n < 2 ^ 64
    → out_of (decimal to ∷ decimal n ∷ []) ≡ Some (what.Out to n)
unfolding out_of
out_again to n h0 h1 =
    rw (small_again to h0, huge_again n h1) refl

cancel_again : (number : ℕ) (done : Bool) → number < 2 ^ 64
    → cancel_of (decimal number ∷ done_word done ∷ []) ≡ Some (what.Cancel number done)
unfolding cancel_of
cancel_again number done h0 =
    rw (huge_again number h0, done_again done) refl

recall_again : (to : ℕ) (n : ℕ) → to < 2 ^ 8 → n < 2 ^ 64
    → recall_of (decimal to ∷ decimal n ∷ []) ≡ Some (what.Recall to n)
unfolding recall_of
recall_again to n h0 h1 =
    rw (small_again to h0, huge_again n h1) refl

withdraw_again : (from : ℕ) (n : ℕ) (done : Bool) → from < 2 ^ 8 → n < 2 ^ 64
    → withdraw_of (decimal from ∷ decimal n ∷ done_word done ∷ []) ≡ Some (what.Withdraw from n done)
unfolding withdraw_of
withdraw_again from n done h0 h1 =
    rw (small_again from h0, huge_again n h1, done_again done) refl

undone_again : (to : ℕ) (n : ℕ) (done : Bool) → to < 2 ^ 8 → n < 2 ^ 64
    → undone_of (decimal to ∷ decimal n ∷ done_word done ∷ []) ≡ Some (what.Undone to n done)
unfolding undone_of
undone_again to n done h0 h1 =
    rw (small_again to h0, huge_again n h1, done_again done) refl

claim_again : (from : ℕ) (n : ℕ) (line : ℕ) → from < 2 ^ 8 → n < 2 ^ 64 → line < 2 ^ 64
    → claim_of (decimal from ∷ decimal n ∷ decimal line ∷ []) ≡ Some (what.Claim from n line)
unfolding claim_of
claim_again from n line h0 h1 h2 =
    rw (small_again from h0, huge_again n h1, huge_again line h2) refl

match_again : (number : ℕ) (from : ℕ) (n : ℕ) (cap : ℕ) (line : ℕ) → number < 2 ^ 64 → from < 2 ^ 8
    → n < 2 ^ 64 → cap < 2 ^ 32 → line < 2 ^ 64
    → match_of (decimal number ∷ decimal from ∷ decimal n ∷ decimal cap ∷ decimal line ∷ []) ≡ Some
    (what.Match number from n cap line)
unfolding match_of
match_again number from n cap line h0 h1 h2 h3 h4 =
    rw (huge_again number h0, small_again from h1, huge_again n h2, large_again cap h3, huge_again line h4) refl

-- the event of a sort, which is no answer
abbrev pub sort_is : Happened → Sort
sort_is (what.Send to n tag ctx len how line) = sort.Send
sort_is (what.Post post line) = sort.Post
sort_is (what.Arrive a) = sort.Arrive
sort_is (what.Whole from n) = sort.Whole
sort_is (what.Out to n) = sort.Out
sort_is (what.Cancel number done) = sort.Cancel
sort_is (what.Recall to n) = sort.Recall
sort_is (what.Withdraw from n done) = sort.Withdraw
sort_is (what.Undone to n done) = sort.Undone
sort_is (what.Claim from n line) = sort.Claim
sort_is (what.Match number from n cap line) = sort.Match
sort_is (what.Ran line answer) = sort.Ran

-- the words behind the name
abbrev pub rest_words : Happened → List (List ℕ)
rest_words (what.Send to n tag ctx len how line) = decimal to ∷ decimal n ∷ decimal tag ∷ decimal ctx
    ∷ decimal len ∷ how_word how ∷ decimal line ∷ []
rest_words (what.Post post line) = decimal post.number ∷ peer_word post.from ∷ tag_word post.tag
    ∷ decimal post.ctx ∷ decimal post.cap ∷ decimal line ∷ []
rest_words (what.Arrive a) = decimal a.env.from ∷ decimal a.n ∷ decimal a.env.tag ∷ decimal a.env.ctx
    ∷ decimal a.env.len ∷ how_word a.env.how ∷ []
rest_words (what.Whole from n) = decimal from ∷ decimal n ∷ []
rest_words (what.Out to n) = decimal to ∷ decimal n ∷ []
rest_words (what.Cancel number done) = decimal number ∷ done_word done ∷ []
rest_words (what.Recall to n) = decimal to ∷ decimal n ∷ []
rest_words (what.Withdraw from n done) = decimal from ∷ decimal n ∷ done_word done ∷ []
rest_words (what.Undone to n done) = decimal to ∷ decimal n ∷ done_word done ∷ []
rest_words (what.Claim from n line) = decimal from ∷ decimal n ∷ decimal line ∷ []
rest_words (what.Match number from n cap line) = decimal number ∷ decimal from ∷ decimal n ∷ decimal cap
    ∷ decimal line ∷ []
rest_words (what.Ran line answer) = decimal line ∷ answer_words answer

-- an event that is no answer is read again
pub plain_again : (w : Happened) → WhatIn w → (sort_is w ≡ sort.Ran → ⊥) → plain_of (sort_is w) (rest_words w) ≡ Some w
unfolding plain_of
plain_again (what.Send to n tag ctx len how line) h other =
    send_again to n tag ctx len how line h.0 h.1 h.2 h.3 h.4 h.5
plain_again (what.Post post line) h other =
    post_again post.number post.from post.tag post.ctx post.cap line h.0 h.1 h.2 h.3 h.4 h.5
plain_again (what.Arrive a) h other =
    arrive_again a.env.from a.n a.env.tag a.env.ctx a.env.len a.env.how h.0 h.1 h.2 h.3 h.4
plain_again (what.Whole from n) h other =
    whole_again from n h.0 h.1
plain_again (what.Out to n) h other =
    out_again to n h.0 h.1
plain_again (what.Cancel number done) h other =
    cancel_again number done h
plain_again (what.Recall to n) h other =
    recall_again to n h.0 h.1
plain_again (what.Withdraw from n done) h other =
    withdraw_again from n done h.0 h.1
plain_again (what.Undone to n done) h other =
    undone_again to n done h.0 h.1
plain_again (what.Claim from n line) h other =
    claim_again from n line h.0 h.1 h.2
plain_again (what.Match number from n cap line) h other =
    match_again number from n cap line h.0 h.1 h.2 h.3 h.4
plain_again (what.Ran line answer) h other = absurd (other refl)

-- what is read is spelled so

-- the words are those of what happened, whose numbers are within their types
pub record IsSpelled (s : Sort) (words : List (List ℕ)) (w : Happened) : Type 0 where
  pub sort : sort_is w ≡ s
  pub words_are : words ≡ rest_words w
  pub within : WhatIn w

-- seven words and seven equal ones
same_seven : (a b c d e f g h i j k l m n : List ℕ) → a ≡ h → b ≡ i → c ≡ j → d ≡ k → e ≡ l → f ≡ m
    → g ≡ n → a ∷ b ∷ c ∷ d ∷ e ∷ f ∷ g ∷ [] ≡ h ∷ i ∷ j ∷ k ∷ l ∷ m ∷ n ∷ []
same_seven a b c d e f g h i j k l m n p q r s t u v = cc (p, q, r, s, t, u, v)

send_taken : (words : List (List ℕ)) (w : Happened) → send_of words ≡ Some w
    → IsSpelled sort.Send words w
unfolding send_of send_with
send_taken ([]) w h = cc
send_taken (to_w ∷ []) w h = cc
send_taken (to_w ∷ n_w ∷ []) w h = cc
send_taken (to_w ∷ n_w ∷ tag_w ∷ []) w h = cc
send_taken (to_w ∷ n_w ∷ tag_w ∷ ctx_w ∷ []) w h = cc
send_taken (to_w ∷ n_w ∷ tag_w ∷ ctx_w ∷ len_w ∷ []) w h = cc
send_taken (to_w ∷ n_w ∷ tag_w ∷ ctx_w ∷ len_w ∷ how_w ∷ []) w h = cc
send_taken (to_w ∷ n_w ∷ tag_w ∷ ctx_w ∷ len_w ∷ how_w ∷ line_w ∷ x ∷ more) w h = cc
send_taken (to_w ∷ n_w ∷ tag_w ∷ ctx_w ∷ len_w ∷ how_w ∷ line_w ∷ []) w h =
    let b0 = bind_some (number_of (2 ^ 8) to_w) _ w h in
    let t0 = small_taken b0.0 to_w b0.1 in
    let b1 = bind_some (number_of (2 ^ 64) n_w) _ w b0.2 in
    let t1 = huge_taken b1.0 n_w b1.1 in
    let b2 = bind_some (number_of (2 ^ 16) tag_w) _ w b1.2 in
    let t2 = middle_taken b2.0 tag_w b2.1 in
    let b3 = bind_some (number_of (2 ^ 8) ctx_w) _ w b2.2 in
    let t3 = small_taken b3.0 ctx_w b3.1 in
    let b4 = bind_some (number_of (2 ^ 32) len_w) _ w b3.2 in
    let t4 = large_taken b4.0 len_w b4.1 in
    let b5 = bind_some (how_of how_w) _ w b4.2 in
    let t5 = how_taken b5.0 how_w b5.1 in
    let b6 = bind_some (number_of (2 ^ 64) line_w) _ w b5.2 in
    let t6 = huge_taken b6.0 line_w b6.1 in
    let is : what.Send b0.0 b1.0 b2.0 b3.0 b4.0 b5.0 b6.0 ≡ w = cc (b6.2) in
    let made : IsSpelled sort.Send (to_w ∷ n_w ∷ tag_w ∷ ctx_w ∷ len_w ∷ how_w ∷ line_w ∷ [])
    (what.Send b0.0 b1.0 b2.0 b3.0 b4.0 b5.0 b6.0) = record {
      sort = refl;
      words_are = same_seven _ _ _ _ _ _ _ _ _ _ _ _ _ _ t0.1 t1.1 t2.1 t3.1 t4.1 t5 t6.1;
      within = (t0.0, t1.0, t2.0, t3.0, t4.0, t6.0);
    } in
    rw is at made

post_taken : (words : List (List ℕ)) (w : Happened) → post_of words ≡ Some w
    → IsSpelled sort.Post words w
unfolding post_of
post_taken ([]) w h = cc
post_taken (number_w ∷ []) w h = cc
post_taken (number_w ∷ from_w ∷ []) w h = cc
post_taken (number_w ∷ from_w ∷ tag_w ∷ []) w h = cc
post_taken (number_w ∷ from_w ∷ tag_w ∷ ctx_w ∷ []) w h = cc
post_taken (number_w ∷ from_w ∷ tag_w ∷ ctx_w ∷ cap_w ∷ []) w h = cc
post_taken (number_w ∷ from_w ∷ tag_w ∷ ctx_w ∷ cap_w ∷ line_w ∷ x ∷ more) w h = cc
post_taken (number_w ∷ from_w ∷ tag_w ∷ ctx_w ∷ cap_w ∷ line_w ∷ []) w h =
    let b0 = bind_some (number_of (2 ^ 64) number_w) _ w h in
    let t0 = huge_taken b0.0 number_w b0.1 in
    let b1 = bind_some (peer_of from_w) _ w b0.2 in
    let t1 = peer_taken b1.0 from_w b1.1 in
    let b2 = bind_some (pick_of tag_w) _ w b1.2 in
    let t2 = pick_taken b2.0 tag_w b2.1 in
    let b3 = bind_some (number_of (2 ^ 8) ctx_w) _ w b2.2 in
    let t3 = small_taken b3.0 ctx_w b3.1 in
    let b4 = bind_some (number_of (2 ^ 32) cap_w) _ w b3.2 in
    let t4 = large_taken b4.0 cap_w b4.1 in
    let b5 = bind_some (number_of (2 ^ 64) line_w) _ w b4.2 in
    let t5 = huge_taken b5.0 line_w b5.1 in
    let is : what.Post (record { number = b0.0; from = b1.0; tag = b2.0; ctx = b3.0; cap = b4.0 }) b5.0
    ≡ w = cc (b5.2) in
    let made : IsSpelled sort.Post (number_w ∷ from_w ∷ tag_w ∷ ctx_w ∷ cap_w ∷ line_w ∷ []) (what.Post
    (record { number = b0.0; from = b1.0; tag = b2.0; ctx = b3.0; cap = b4.0 }) b5.0) = record {
      sort = refl;
      words_are = cc (t0.1, t1.1, t2.1, t3.1, t4.1, t5.1);
      within = (t0.0, t1.0, t2.0, t3.0, t4.0, t5.0);
    } in
    rw is at made

arrive_taken : (words : List (List ℕ)) (w : Happened) → arrive_of words ≡ Some w
    → IsSpelled sort.Arrive words w
unfolding arrive_of
arrive_taken ([]) w h = cc
arrive_taken (from_w ∷ []) w h = cc
arrive_taken (from_w ∷ n_w ∷ []) w h = cc
arrive_taken (from_w ∷ n_w ∷ tag_w ∷ []) w h = cc
arrive_taken (from_w ∷ n_w ∷ tag_w ∷ ctx_w ∷ []) w h = cc
arrive_taken (from_w ∷ n_w ∷ tag_w ∷ ctx_w ∷ len_w ∷ []) w h = cc
arrive_taken (from_w ∷ n_w ∷ tag_w ∷ ctx_w ∷ len_w ∷ how_w ∷ x ∷ more) w h = cc
arrive_taken (from_w ∷ n_w ∷ tag_w ∷ ctx_w ∷ len_w ∷ how_w ∷ []) w h =
    let b0 = bind_some (number_of (2 ^ 8) from_w) _ w h in
    let t0 = small_taken b0.0 from_w b0.1 in
    let b1 = bind_some (number_of (2 ^ 64) n_w) _ w b0.2 in
    let t1 = huge_taken b1.0 n_w b1.1 in
    let b2 = bind_some (number_of (2 ^ 16) tag_w) _ w b1.2 in
    let t2 = middle_taken b2.0 tag_w b2.1 in
    let b3 = bind_some (number_of (2 ^ 8) ctx_w) _ w b2.2 in
    let t3 = small_taken b3.0 ctx_w b3.1 in
    let b4 = bind_some (number_of (2 ^ 32) len_w) _ w b3.2 in
    let t4 = large_taken b4.0 len_w b4.1 in
    let b5 = bind_some (how_of how_w) _ w b4.2 in
    let t5 = how_taken b5.0 how_w b5.1 in
    let is : what.Arrive
    (record { n = b1.0; env = record { from = b0.0; tag = b2.0; ctx = b3.0; len = b4.0; how = b5.0 } })
    ≡ w = cc (b5.2) in
    let made : IsSpelled sort.Arrive (from_w ∷ n_w ∷ tag_w ∷ ctx_w ∷ len_w ∷ how_w ∷ []) (what.Arrive
    (record { n = b1.0; env = record { from = b0.0; tag = b2.0; ctx = b3.0; len = b4.0; how = b5.0 } })) = record {
      sort = refl;
      words_are = cc (t0.1, t1.1, t2.1, t3.1, t4.1, t5);
      within = (t0.0, t1.0, t2.0, t3.0, t4.0);
    } in
    rw is at made

whole_taken : (words : List (List ℕ)) (w : Happened) → whole_of words ≡ Some w
    → IsSpelled sort.Whole words w
unfolding whole_of
whole_taken ([]) w h = cc
whole_taken (from_w ∷ []) w h = cc
whole_taken (from_w ∷ n_w ∷ x ∷ more) w h = cc
whole_taken (from_w ∷ n_w ∷ []) w h =
    let b0 = bind_some (number_of (2 ^ 8) from_w) _ w h in
    let t0 = small_taken b0.0 from_w b0.1 in
    let b1 = bind_some (number_of (2 ^ 64) n_w) _ w b0.2 in
    let t1 = huge_taken b1.0 n_w b1.1 in
    let is : what.Whole b0.0 b1.0 ≡ w = cc (b1.2) in
    let made : IsSpelled sort.Whole (from_w ∷ n_w ∷ []) (what.Whole b0.0 b1.0) = record {
      sort = refl;
      words_are = cc (t0.1, t1.1);
      within = (t0.0, t1.0);
    } in
    rw is at made

out_taken : (words : List (List ℕ)) (w : Happened) → out_of words ≡ Some w
    → IsSpelled sort.Out words w
unfolding out_of
out_taken ([]) w h = cc
out_taken (to_w ∷ []) w h = cc
out_taken (to_w ∷ n_w ∷ x ∷ more) w h = cc
out_taken (to_w ∷ n_w ∷ []) w h =
    let b0 = bind_some (number_of (2 ^ 8) to_w) _ w h in
    let t0 = small_taken b0.0 to_w b0.1 in
    let b1 = bind_some (number_of (2 ^ 64) n_w) _ w b0.2 in
    let t1 = huge_taken b1.0 n_w b1.1 in
    let is : what.Out b0.0 b1.0 ≡ w = cc (b1.2) in
    let made : IsSpelled sort.Out (to_w ∷ n_w ∷ []) (what.Out b0.0 b1.0) = record {
      sort = refl;
      words_are = cc (t0.1, t1.1);
      within = (t0.0, t1.0);
    } in
    rw is at made

cancel_taken : (words : List (List ℕ)) (w : Happened) → cancel_of words ≡ Some w
    → IsSpelled sort.Cancel words w
unfolding cancel_of
cancel_taken ([]) w h = cc
cancel_taken (number_w ∷ []) w h = cc
cancel_taken (number_w ∷ done_w ∷ x ∷ more) w h = cc
cancel_taken (number_w ∷ done_w ∷ []) w h =
    let b0 = bind_some (number_of (2 ^ 64) number_w) _ w h in
    let t0 = huge_taken b0.0 number_w b0.1 in
    let b1 = bind_some (done_of done_w) _ w b0.2 in
    let t1 = done_taken b1.0 done_w b1.1 in
    let is : what.Cancel b0.0 b1.0 ≡ w = cc (b1.2) in
    let made : IsSpelled sort.Cancel (number_w ∷ done_w ∷ []) (what.Cancel b0.0 b1.0) = record {
      sort = refl;
      words_are = cc (t0.1, t1);
      within = t0.0;
    } in
    rw is at made

recall_taken : (words : List (List ℕ)) (w : Happened) → recall_of words ≡ Some w
    → IsSpelled sort.Recall words w
unfolding recall_of
recall_taken ([]) w h = cc
recall_taken (to_w ∷ []) w h = cc
recall_taken (to_w ∷ n_w ∷ x ∷ more) w h = cc
recall_taken (to_w ∷ n_w ∷ []) w h =
    let b0 = bind_some (number_of (2 ^ 8) to_w) _ w h in
    let t0 = small_taken b0.0 to_w b0.1 in
    let b1 = bind_some (number_of (2 ^ 64) n_w) _ w b0.2 in
    let t1 = huge_taken b1.0 n_w b1.1 in
    let is : what.Recall b0.0 b1.0 ≡ w = cc (b1.2) in
    let made : IsSpelled sort.Recall (to_w ∷ n_w ∷ []) (what.Recall b0.0 b1.0) = record {
      sort = refl;
      words_are = cc (t0.1, t1.1);
      within = (t0.0, t1.0);
    } in
    rw is at made

withdraw_taken : (words : List (List ℕ)) (w : Happened) → withdraw_of words ≡ Some w
    → IsSpelled sort.Withdraw words w
unfolding withdraw_of
withdraw_taken ([]) w h = cc
withdraw_taken (from_w ∷ []) w h = cc
withdraw_taken (from_w ∷ n_w ∷ []) w h = cc
withdraw_taken (from_w ∷ n_w ∷ done_w ∷ x ∷ more) w h = cc
withdraw_taken (from_w ∷ n_w ∷ done_w ∷ []) w h =
    let b0 = bind_some (number_of (2 ^ 8) from_w) _ w h in
    let t0 = small_taken b0.0 from_w b0.1 in
    let b1 = bind_some (number_of (2 ^ 64) n_w) _ w b0.2 in
    let t1 = huge_taken b1.0 n_w b1.1 in
    let b2 = bind_some (done_of done_w) _ w b1.2 in
    let t2 = done_taken b2.0 done_w b2.1 in
    let is : what.Withdraw b0.0 b1.0 b2.0 ≡ w = cc (b2.2) in
    let made : IsSpelled sort.Withdraw (from_w ∷ n_w ∷ done_w ∷ []) (what.Withdraw b0.0 b1.0 b2.0) = record {
      sort = refl;
      words_are = cc (t0.1, t1.1, t2);
      within = (t0.0, t1.0);
    } in
    rw is at made

undone_taken : (words : List (List ℕ)) (w : Happened) → undone_of words ≡ Some w
    → IsSpelled sort.Undone words w
unfolding undone_of
undone_taken ([]) w h = cc
undone_taken (to_w ∷ []) w h = cc
undone_taken (to_w ∷ n_w ∷ []) w h = cc
undone_taken (to_w ∷ n_w ∷ done_w ∷ x ∷ more) w h = cc
undone_taken (to_w ∷ n_w ∷ done_w ∷ []) w h =
    let b0 = bind_some (number_of (2 ^ 8) to_w) _ w h in
    let t0 = small_taken b0.0 to_w b0.1 in
    let b1 = bind_some (number_of (2 ^ 64) n_w) _ w b0.2 in
    let t1 = huge_taken b1.0 n_w b1.1 in
    let b2 = bind_some (done_of done_w) _ w b1.2 in
    let t2 = done_taken b2.0 done_w b2.1 in
    let is : what.Undone b0.0 b1.0 b2.0 ≡ w = cc (b2.2) in
    let made : IsSpelled sort.Undone (to_w ∷ n_w ∷ done_w ∷ []) (what.Undone b0.0 b1.0 b2.0) = record {
      sort = refl;
      words_are = cc (t0.1, t1.1, t2);
      within = (t0.0, t1.0);
    } in
    rw is at made

claim_taken : (words : List (List ℕ)) (w : Happened) → claim_of words ≡ Some w
    → IsSpelled sort.Claim words w
unfolding claim_of
claim_taken ([]) w h = cc
claim_taken (from_w ∷ []) w h = cc
claim_taken (from_w ∷ n_w ∷ []) w h = cc
claim_taken (from_w ∷ n_w ∷ line_w ∷ x ∷ more) w h = cc
claim_taken (from_w ∷ n_w ∷ line_w ∷ []) w h =
    let b0 = bind_some (number_of (2 ^ 8) from_w) _ w h in
    let t0 = small_taken b0.0 from_w b0.1 in
    let b1 = bind_some (number_of (2 ^ 64) n_w) _ w b0.2 in
    let t1 = huge_taken b1.0 n_w b1.1 in
    let b2 = bind_some (number_of (2 ^ 64) line_w) _ w b1.2 in
    let t2 = huge_taken b2.0 line_w b2.1 in
    let is : what.Claim b0.0 b1.0 b2.0 ≡ w = cc (b2.2) in
    let made : IsSpelled sort.Claim (from_w ∷ n_w ∷ line_w ∷ []) (what.Claim b0.0 b1.0 b2.0) = record {
      sort = refl;
      words_are = cc (t0.1, t1.1, t2.1);
      within = (t0.0, t1.0, t2.0);
    } in
    rw is at made

match_taken : (words : List (List ℕ)) (w : Happened) → match_of words ≡ Some w
    → IsSpelled sort.Match words w
unfolding match_of
match_taken ([]) w h = cc
match_taken (number_w ∷ []) w h = cc
match_taken (number_w ∷ from_w ∷ []) w h = cc
match_taken (number_w ∷ from_w ∷ n_w ∷ []) w h = cc
match_taken (number_w ∷ from_w ∷ n_w ∷ cap_w ∷ []) w h = cc
match_taken (number_w ∷ from_w ∷ n_w ∷ cap_w ∷ line_w ∷ x ∷ more) w h = cc
match_taken (number_w ∷ from_w ∷ n_w ∷ cap_w ∷ line_w ∷ []) w h =
    let b0 = bind_some (number_of (2 ^ 64) number_w) _ w h in
    let t0 = huge_taken b0.0 number_w b0.1 in
    let b1 = bind_some (number_of (2 ^ 8) from_w) _ w b0.2 in
    let t1 = small_taken b1.0 from_w b1.1 in
    let b2 = bind_some (number_of (2 ^ 64) n_w) _ w b1.2 in
    let t2 = huge_taken b2.0 n_w b2.1 in
    let b3 = bind_some (number_of (2 ^ 32) cap_w) _ w b2.2 in
    let t3 = large_taken b3.0 cap_w b3.1 in
    let b4 = bind_some (number_of (2 ^ 64) line_w) _ w b3.2 in
    let t4 = huge_taken b4.0 line_w b4.1 in
    let is : what.Match b0.0 b1.0 b2.0 b3.0 b4.0 ≡ w = cc (b4.2) in
    let made : IsSpelled sort.Match (number_w ∷ from_w ∷ n_w ∷ cap_w ∷ line_w ∷ [])
    (what.Match b0.0 b1.0 b2.0 b3.0 b4.0) = record {
      sort = refl;
      words_are = cc (t0.1, t1.1, t2.1, t3.1, t4.1);
      within = (t0.0, t1.0, t2.0, t3.0, t4.0);
    } in
    rw is at made

-- an event that is read and no answer
pub plain_taken : (s : Sort) (words : List (List ℕ)) (w : Happened) → plain_of s words ≡ Some w → IsSpelled s words w
unfolding plain_of
plain_taken sort.Send words w h = send_taken words w h
plain_taken sort.Post words w h = post_taken words w h
plain_taken sort.Arrive words w h = arrive_taken words w h
plain_taken sort.Whole words w h = whole_taken words w h
plain_taken sort.Out words w h = out_taken words w h
plain_taken sort.Cancel words w h = cancel_taken words w h
plain_taken sort.Recall words w h = recall_taken words w h
plain_taken sort.Withdraw words w h = withdraw_taken words w h
plain_taken sort.Undone words w h = undone_taken words w h
plain_taken sort.Claim words w h = claim_taken words w h
plain_taken sort.Match words w h = match_taken words w h
plain_taken sort.Ran words w h = cc
