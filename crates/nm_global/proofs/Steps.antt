-- What a send, a clearance, a withdrawal and a piece do to the messages that were sent by asking.
use Rattle.std.proofs.Common.{◌≡◌, ◌≢◌, ℕ, ◌+◌, ◌-◌, ◌*◌, ◌/◌, ◌<◌, ◌≤◌, ◌==◌, ◌||◌, Bool, true}
use Rattle.std.proofs.Common.{false, cond, Option, Some, None, List, [], ◌∷◌, ◌++◌, length, refl, sym}
use Rattle.std.proofs.Common.{◌∙◌, ap, subst, append-nil, arith, true≢false, IsSome, find}
use Rattle.std.proofs.Common.{nat_eq, nat_lt, take, option_map}
use Rattle.std.specs.Option.{option_map_or, option_or}
use Rattle.std.proofs.lemmas.Bool.Decides.{nat_tests}
use Rattle.std.proofs.lemmas.List.{take_all, take_more}
use Rattle.std.proofs.lemmas.List.Folds.{find-append, list_any-append}
use Rattle.std.proofs.lemmas.List.FromFn.{length-map-range_with_len, get_or-map-range_with_len}
use Rattle.nm_types.specs.Bodies.{body_len}
use Rattle.nm_types.specs.declared.limits.TheConstants.{MAX_PIECE}
use Rattle.nm_history.specs.Outgoing.{CalledPiece, message_pieces, part_at, send_pieces}
use Rattle.nm_history.specs.Sends.{Sent}
use Rattle.nm_history.specs.Continues.{has}
use Rattle.nm_history.proofs.Basic.{or_false}
use Rattle.nm_rndv.specs.declared.asked.State.{State}
use Rattle.nm_rndv.specs.declared.asked.State.TheVariants.{Asked, Cleared, Out, Withdrawn}
use Rattle.nm_rndv.specs.Cuts.{Cut}
use Rattle.nm_rndv.specs.Offers.{after_clearance, after_piece, leaving_or_out}
use Rattle.nm_rndv.proofs.StateLemmas.{apart}
use Rattle.nm_global.specs.Emitted.{AreOffered, IsBody, IsOffered, begun_of, first_of, popped_in, sent_in}
use Rattle.nm_global.proofs.Offers.{Goes, Lasts, kept_state, leaves_now, none_begun, not_begun}
use Rattle.nm_global.proofs.Offers.{find_same, sent_still, body_lasts, by_number}
use Rattle.nm_types.proofs.ListLemmas.{all_append}
use Rattle.nm_types.proofs.NumberLemmas.{nat_unequal as unlike}

-- one number more
has-push : (ns : List ℕ) (n m : ℕ) → n ≢ m → has (ns ++ n ∷ []) m ≡ has ns m
has-push ns n m other =
    list_any-append (λ k. k == m) ns (n ∷ [])
    ∙ ap (λ (b : Bool). has ns m || (b || false)) (unlike n m other)
    ∙ or_false (has ns m)

-- the state of message n is changed by a step, and the others are as before
pub record Stepped (st st' : ℕ → Option State) (n : ℕ) (step : State → State) : Type 0 where
  pub here : st' n ≡ option_map step (st n)
  pub others : (q : ℕ) → n ≢ q → st' q ≡ st q

-- a clearance starts a message, or leaves it as it is
clearance_popped : (o : Option State) → popped_in (option_map after_clearance o) ≡ popped_in o
clearance_popped None = refl
clearance_popped (Some (Asked body)) = by (nat_eq (body_len body) 0) where
  by : (b : Bool) →
      popped_in (Some (leaving_or_out (cond b None (Some (record { body = body; popped = 0 }))))) ≡ 0
  by true = refl
  by false = refl
clearance_popped (Some (Cleared cut)) = refl
clearance_popped (Some Out) = refl
clearance_popped (Some Withdrawn) = refl

clearance_leaves : (bodies : Sent → List ℕ) (ss : List Sent) (c : List ℕ) (first : Option ℕ) (n : ℕ)
    (o : Option State) → has c n ≡ true → IsOffered bodies ss c first n o →
    leaves_now (option_map after_clearance o) ≡ leaves_now o
clearance_leaves bodies ss c first n None there is = refl
clearance_leaves bodies ss c first n (Some (Asked body)) there is = absurd (true≢false (sym there ∙ is.1))
clearance_leaves bodies ss c first n (Some (Cleared cut)) there is = refl
clearance_leaves bodies ss c first n (Some Out) there is = refl
clearance_leaves bodies ss c first n (Some Withdrawn) there is = refl

clearance_state : (bodies : Sent → List ℕ) (ss ss' : List Sent) (c c' : List ℕ) (first first' : Option ℕ)
    (n : ℕ) (o : Option State) → Lasts ss ss' → (first ≡ Some n → first' ≡ Some n) →
    IsOffered bodies ss c first n o → IsOffered bodies ss' c' first' n (option_map after_clearance o)
clearance_state bodies ss ss' c c' first first' n None lasts stays is = tt
clearance_state bodies ss ss' c c' first first' n (Some (Asked body)) lasts stays is =
    by (nat_eq (body_len body) 0) refl
  where
    by : (b : Bool) → nat_eq (body_len body) 0 ≡ b → IsOffered bodies ss' c' first' n
        (Some (leaving_or_out (cond b None (Some (record { body = body; popped = 0 })))))
    by true none = tt
    by false some =
        let long = apart (body_len body) 0 some in
        (body_lasts bodies ss ss' n body lasts is.0, omega (arith, long), λ k. absurd (omega (arith, k)))
clearance_state bodies ss ss' c c' first first' n (Some (Cleared cut)) lasts stays is =
    (body_lasts bodies ss ss' n cut.body lasts is.0, is.1, λ k. stays (is.2 k))
clearance_state bodies ss ss' c c' first first' n (Some Out) lasts stays is = tt
clearance_state bodies ss ss' c c' first first' n (Some Withdrawn) lasts stays is = tt

-- a message is cleared, which was sent
module _ (bodies : Sent → List ℕ) (ss : List Sent) (st : ℕ → Option State) (c : List ℕ)
    (are : AreOffered bodies ss st c) (ss' : List Sent) (lasts : Lasts ss ss')
    (st' : ℕ → Option State) (n : ℕ) (sent : IsSome (sent_in ss' n))
    (is : Stepped st st' n after_clearance) where
  first_stays : (q : ℕ) → first_of st c ≡ Some q → first_of st' (c ++ n ∷ []) ≡ Some q
  first_stays q first =
      find-append (λ q. leaves_now (st' q)) c (n ∷ [])
      ∙ ap (λ (o : Option ℕ). option_or o (find (λ q. leaves_now (st' q)) (n ∷ [])))
      (find_same (λ q. leaves_now (st q)) (λ q. leaves_now (st' q)) c
      (by_number (λ q. has c q ≡ true → leaves_now (st' q) ≡ leaves_now (st q)) n
      (λ there. ap leaves_now is.here
      ∙ clearance_leaves bodies ss c (first_of st c) n (st n) there (are.states n))
      (λ q other there. ap leaves_now (is.others q other)))
      ∙ first)

  pub clear_goes : Goes bodies ss st c ss' st' (c ++ n ∷ [])
  clear_goes =
      record {
        lasts = lasts;
        offered = record {
          states = by_number (λ q. IsOffered bodies ss' (c ++ n ∷ []) (first_of st' (c ++ n ∷ [])) q (st' q))
              n (subst (λ (o : Option State).
              IsOffered bodies ss' (c ++ n ∷ []) (first_of st' (c ++ n ∷ [])) n o) (sym is.here)
              (clearance_state bodies ss ss' c (c ++ n ∷ []) (first_of st c) (first_of st' (c ++ n ∷ [])) n
              (st n) lasts (first_stays n) (are.states n)))
              (λ q other. subst (λ (o : Option State).
              IsOffered bodies ss' (c ++ n ∷ []) (first_of st' (c ++ n ∷ [])) q o) (sym (is.others q other))
              (kept_state bodies ss ss' c (c ++ n ∷ []) (first_of st c) (first_of st' (c ++ n ∷ [])) q (st q)
              lasts (first_stays q) (λ waits none. has-push c n q other ∙ none) (are.states q)));
          sent = all_append (λ q. IsSome (sent_in ss' q)) c (n ∷ [])
              (sent_still bodies ss st c are ss' lasts st') (sent, tt);
        };
        popped = by_number (λ q. popped_in (st' q) ≡ popped_in (st q)) n
            (ap popped_in is.here ∙ clearance_popped (st n))
            (λ q other. ap popped_in (is.others q other));
      }

-- a piece of the first message leaves
module _ (bodies : Sent → List ℕ) (ss : List Sent) (st : ℕ → Option State) (c : List ℕ)
    (are : AreOffered bodies ss st c) (ss' : List Sent) (lasts : Lasts ss ss')
    (st' : ℕ → Option State) (n : ℕ) (cut : Cut) (first : first_of st c ≡ Some n)
    (at : st n ≡ Some (Cleared cut)) (is : Stepped st st' n after_piece) where
  pub body_is : IsBody bodies ss n cut.body × (MAX_PIECE * cut.popped < body_len cut.body)
  body_is =
      let right = subst (λ (o : Option State). IsOffered bodies ss c (first_of st c) n o) at (are.states n) in
      (right.0, right.1)

  -- one piece of a message
  abbrev pub piece_at : Sent → ℕ → CalledPiece
  piece_at s k = record { n = s.n; at = MAX_PIECE * k; bytes = part_at MAX_PIECE (bodies s) k }

  abbrev pub pieces : List CalledPiece
  pieces = message_pieces body_is.0.s (bodies body_is.0.s)

  -- where others are left after it
  abbrev pub are_left : Bool
  are_left = nat_lt (MAX_PIECE * (cut.popped + 1)) (body_len cut.body)

  here_by : (b : Bool) → are_left ≡ b →
      st' n ≡ Some (leaving_or_out (cond b (Some (record { body = cut.body; popped = cut.popped + 1 })) None))
  here_by b left =
      is.here ∙ ap (option_map after_piece) at ∙ ap (λ (b : Bool). Some (leaving_or_out
      (cond b (Some (record { body = cut.body; popped = cut.popped + 1 })) None))) left

  first_still : are_left ≡ true → first_of st' c ≡ Some n
  first_still left =
      find_same (λ q. leaves_now (st q)) (λ q. leaves_now (st' q)) c
      (λ q among. by_number (λ q. leaves_now (st' q) ≡ leaves_now (st q)) n
      (ap leaves_now (here_by true left) ∙ sym (ap leaves_now at))
      (λ q other. ap leaves_now (is.others q other)) q) ∙ first

  pub piece_offered : AreOffered bodies ss' st' c
  piece_offered =
      record {
        states = by_number (λ q. IsOffered bodies ss' c (first_of st' c) q (st' q)) n
            (subst (λ (o : Option State). IsOffered bodies ss' c (first_of st' c) n o)
            (sym (here_by are_left refl)) (now are_left refl)) others;
        sent = sent_still bodies ss st c are ss' lasts st';
      }
    where
      now : (b : Bool) → are_left ≡ b → IsOffered bodies ss' c (first_of st' c) n
          (Some (leaving_or_out (cond b (Some (record { body = cut.body; popped = cut.popped + 1 })) None)))
      now true left =
          let less : MAX_PIECE * (cut.popped + 1) < body_len cut.body = grind (arith, nat_tests) in
          (body_lasts bodies ss ss' n cut.body lasts body_is.0, less, λ some. first_still left)
      now false left = tt

      others : (q : ℕ) → n ≢ q → IsOffered bodies ss' c (first_of st' c) q (st' q)
      others q other =
          subst (λ (o : Option State). IsOffered bodies ss' c (first_of st' c) q o)
          (sym (is.others q other))
          (kept_state bodies ss ss' c c (first_of st c) (first_of st' c) q (st q) lasts
          (λ first'. let same : n ≡ q = cc in absurd (other same)) (λ waits none. none) (are.states q))

  begun_before : begun_of bodies ss st (first_of st c) ≡ take cut.popped pieces
  begun_before =
      ap (begun_of bodies ss st) first
      ∙ ap (λ (o : Option State). take (popped_in o) (option_map_or (send_pieces bodies) (sent_in ss n) []))
      at
      ∙ ap (λ (o : Option Sent). take cut.popped (option_map_or (send_pieces bodies) o [])) body_is.0.sent
      ∙ ap (λ (b : Bool). take cut.popped (cond b pieces [])) body_is.0.asked

  abbrev pub count : ℕ
  count = (body_is.0.s.len + (MAX_PIECE - 1)) / MAX_PIECE

  many : length pieces ≡ count
  many = length-map-range_with_len (piece_at body_is.0.s) 0 count

  one_more : take (cut.popped + 1) pieces ≡ take cut.popped pieces ++ piece_at body_is.0.s cut.popped ∷ []
  one_more =
      let d : CalledPiece = piece_at body_is.0.s 0 in
      let within : cut.popped < count =
      (let some = body_is.1 in let same = body_is.0.len in omega (arith, some, same)) in
      take_more pieces cut.popped d (omega (arith, many, within))
      ∙ ap (λ (p : CalledPiece). take cut.popped pieces ++ p ∷ [])
      (get_or-map-range_with_len (piece_at body_is.0.s) 0 count cut.popped cut.popped d within (omega arith))

  -- the pieces that left before, and this one, are those of the message, where it leaves, and those that
  -- left after it
  pub piece_called : (b : Bool) → are_left ≡ b →
      cond b [] (option_map_or (send_pieces bodies) (sent_in ss n) [])
      ++ begun_of bodies ss' st' (first_of st' c)
      ≡ begun_of bodies ss st (first_of st c) ++ piece_at body_is.0.s cut.popped ∷ []
  piece_called true left =
      ap (begun_of bodies ss' st') (first_still left)
      ∙ ap (λ (o : Option State). take (popped_in o) (option_map_or (send_pieces bodies) (sent_in ss' n) []))
      (here_by true left)
      ∙ ap (λ (o : Option Sent). take (cut.popped + 1) (option_map_or (send_pieces bodies) o []))
      (lasts n body_is.0.s body_is.0.sent)
      ∙ ap (λ (b : Bool). take (cut.popped + 1) (cond b pieces [])) body_is.0.asked
      ∙ one_more
      ∙ ap (λ (cs : List CalledPiece). cs ++ piece_at body_is.0.s cut.popped ∷ []) (sym begun_before)
  piece_called false left =
      ap (λ (cs : List CalledPiece). option_map_or (send_pieces bodies) (sent_in ss n) [] ++ cs)
      (by (first_of st' c) refl)
      ∙ append-nil (option_map_or (send_pieces bodies) (sent_in ss n) [])
      ∙ ap (λ (o : Option Sent). option_map_or (send_pieces bodies) o []) body_is.0.sent
      ∙ ap (λ (b : Bool). cond b pieces []) body_is.0.asked
      ∙ sym (take_all (cut.popped + 1) pieces (all left))
      ∙ one_more
      ∙ ap (λ (cs : List CalledPiece). cs ++ piece_at body_is.0.s cut.popped ∷ []) (sym begun_before)
    where
      all : are_left ≡ false → length pieces ≤ cut.popped + 1
      all left =
          let past : body_len cut.body ≤ MAX_PIECE * (cut.popped + 1) = grind (arith, nat_tests) in
          let same = body_is.0.len in
          let counted = many in
          omega (arith, past, counted, same)

      by : (o : Option ℕ) → first_of st' c ≡ o → begun_of bodies ss' st' o ≡ []
      by None is' = refl
      by (Some q) is' =
          none_begun bodies ss' st' q (by_number (λ q. popped_in (st' q) ≡ 0) n
          (ap popped_in (here_by false left))
          (λ q other. ap popped_in (is.others q other)
          ∙ not_begun bodies ss st c are q (λ e. let same : n ≡ q = cc in other same)) q)
