-- The arguments that words spell, both ways, and the faults of words.
use Rattle.std.proofs.Common.{◌≡◌, ℕ, ◌+◌, ◌<◌, ◌≤◌, ◌^◌, ◌⊎◌, inl, inr, Bool, true, false, ◌&&◌}
use Rattle.std.proofs.Common.{List, [], ◌∷◌, length, map, nat_le, Ok, Err}
use Rattle.std.proofs.Common.{refl, ap, ◌∙◌, arith, decimal, lit<}
use Rattle.std.specs.List.{list_all}
use Rattle.std.proofs.lemmas.Bool.{and_from, and_parts, ltb-true, leb-true, lt-ltb, le-leb}
use Rattle.hex.specs.Hex.{encode_lower}
use Rattle.nm_types.specs.declared.limits.TheConstants.{MAX_RANKS, MAX_CAPACITY, MAX_BODY}
use Rattle.nm_types.specs.declared.scripts.Body.{Body}
use Rattle.nm_types.specs.declared.scripts.Body.TheVariants.{Hex, Gen}
use Rattle.nm_types.specs.Bodies.{body_len}
use Rattle.nm_types.specs.Text.{body_word}
use Rattle.nm_script.proofs.DigitLemmas.{all_lower, bytes_are}
use Rattle.nm_script.proofs.WordsStepLemmas.{bind_ok, chosen}
use Rattle.nm_script.proofs.WordLemmas.{is_solid, Solid, decimal_solid, lower_solid}
use Rattle.nm_script.specs.Bodies.{body_of}
use Rattle.nm_script.specs.Faults.{◌>>=◌}
use Rattle.nm_script.specs.Spelled.{are_bytes}
use Rattle.nm_script.proofs.BodyLemmas.{body_again, body_taken}
use Rattle.nm_script.proofs.StepLemmas.{bind_err, guard_ok}
use Rattle.nm_plans.specs.declared.faults.PlanKind.{PlanKind}
use Rattle.nm_plans.specs.declared.faults.PlanKind.TheVariants as kind
use Rattle.nm_plans.specs.declared.keywords.PlanKeyword.{PlanKeyword}
use Rattle.nm_plans.specs.declared.keywords.PlanKeyword.TheVariants as key
use Rattle.nm_plans.specs.declared.lines.PlanCommand.{PlanCommand}
use Rattle.nm_plans.specs.declared.lines.PlanCommand.TheVariants.{SendInit, RecvInit, PsendInit}
use Rattle.nm_plans.specs.declared.lines.PlanCommand.TheVariants.{PrecvInit, Fill, Start, Ready}
use Rattle.nm_plans.specs.declared.lines.PlanCommand.TheVariants.{Arrived, Wait}
use Rattle.nm_plans.specs.Commands.{plan_argument, body_in, make, number_for, number_in, parts_of, value_of, values_of}
use Rattle.nm_plans.specs.Faults.{or_kind}
use Rattle.nm_plans.specs.Grammar.{Argument, Value, are_values, arguments, is_number, is_value}
use Rattle.nm_plans.specs.Grammar.{keyword_in, value_word, values}
use Rattle.nm_plans.specs.Grammar.Argument.{Request, Peer, Tag, Context, Parts, Part, Capacity, Contents}
use Rattle.nm_plans.specs.Grammar.Value.{Number, Bytes}
use Rattle.nm_script.specs.Arguments.{Each}
use Rattle.nm_plans.specs.Spelled.{IsBodyThere, IsNumberThere, IsSpelled}
use Rattle.nm_plans.proofs.GrammarLemmas.{or_ok, or_err, argument_again, argument_taken, argument_kind, most_again}
use Rattle.nm_plans.proofs.GrammarLemmas.{most_taken}

-- the argument is a body
abbrev pub is_contents : Argument → Bool
is_contents Contents = true
is_contents _ = false

-- a body stands last
abbrev pub body_last : List Argument → Bool
body_last [] = true
body_last (Contents ∷ []) = true
body_last (Contents ∷ s ∷ ss) = false
body_last (s ∷ ss) = body_last ss

module _ (ranks : ℕ) (few : ranks ≤ MAX_RANKS) where
  pub number_reads : (s : Argument) (n : ℕ) → is_number ranks s n ≡ true
      → (number_for ranks s (decimal n) ≡ Ok n) × (n < 2 ^ 64)
  unfolding parts_of
  number_reads Request n h = (most_again 4095 n (lit< tt) h, omega (arith, leb-true n 4095 h))
  number_reads Peer n h =
      let lt = ltb-true n ranks h in (argument_again ranks n (omega arith) lt, omega (arith, lt))
  number_reads Tag n h = (most_again 2047 n (lit< tt) h, omega (arith, leb-true n 2047 h))
  number_reads Context n h = (most_again 127 n (lit< tt) h, omega (arith, leb-true n 127 h))
  number_reads Parts n h =
      let p = and_parts (nat_le 1 n) (nat_le n 16) h in
      (rw (most_again 16 n (lit< tt) p.1) (rw p.0 refl), omega (arith, leb-true n 16 p.1))
  number_reads Part n h = (most_again 15 n (lit< tt) h, omega (arith, leb-true n 15 h))
  number_reads Capacity n h =
      (most_again MAX_CAPACITY n (lit< tt) h, omega (arith, leb-true n MAX_CAPACITY h))
  number_reads Contents n h = cc (h)

  pub number_read : (s : Argument) (n : ℕ) (word : List ℕ) → number_for ranks s word ≡ Ok n
      → (is_number ranks s n ≡ true) × (word ≡ decimal n)
  unfolding parts_of
  number_read Request n word h = most_taken 4095 n word (lit< tt) h
  number_read Peer n word h =
      let a = argument_taken ranks n word (omega arith) h in (lt-ltb n ranks a.0, a.1)
  number_read Tag n word h = most_taken 2047 n word (lit< tt) h
  number_read Context n word h = most_taken 127 n word (lit< tt) h
  number_read Parts n word h =
      let p = bind_ok (plan_argument 17 word) _ n h in
      let q = guard_ok (nat_le 1 p.0) (Ok p.0) kind.Number n p.2 in
      let is : p.0 ≡ n = cc (q.1) in
      let a = most_taken 16 p.0 word (lit< tt) p.1 in
      rw (← is) (and_from (nat_le 1 p.0) (nat_le p.0 16) q.0 a.0, a.1)
  number_read Part n word h = most_taken 15 n word (lit< tt) h
  number_read Capacity n word h = most_taken MAX_CAPACITY n word (lit< tt) h
  number_read Contents n word h = cc (h)

  pub number_kind : (s : Argument) (word : List ℕ) (e : PlanKind) → number_for ranks s word ≡ Err e
      → e ≡ kind.Number
  unfolding parts_of
  number_kind Request word e h = argument_kind 4096 word e h
  number_kind Peer word e h = argument_kind ranks word e h
  number_kind Tag word e h = argument_kind 2048 word e h
  number_kind Context word e h = argument_kind 128 word e h
  number_kind Parts word e h =
      elim (bind_err (plan_argument 17 word) _ e h) [
        | inl f ↦ argument_kind 17 word e f
        | inr f ↦ elim (chosen (nat_le 1 f.0) (Ok f.0) (Err kind.Number) (Err e) f.2) [
          | inl g ↦ cc (g.1)
          | inr g ↦ cc (g.1)
        ]
      ]
  number_kind Part word e h = argument_kind 16 word e h
  number_kind Capacity word e h = argument_kind (MAX_CAPACITY + 1) word e h
  number_kind Contents word e h = cc (h)

  -- ---- arguments

  body_solid : (body : Body) → are_bytes body ≡ true → body_len body ≤ MAX_BODY
      → list_all is_solid (body_word body) ≡ true
  body_solid (Hex bytes) h short =
      and_from _ _ refl (lower_solid (encode_lower bytes) (all_lower bytes (bytes_are bytes h)))
  body_solid (Gen n) h short = and_from _ _ refl (decimal_solid n (omega arith))

  numeric : (s : Argument) (n : ℕ) → is_number ranks s n ≡ true → value_of ranks s (decimal n) ≡ Ok (Number n)
  numeric Request n h = rw (number_reads Request n h).0 refl
  numeric Peer n h = rw (number_reads Peer n h).0 refl
  numeric Tag n h = rw (number_reads Tag n h).0 refl
  numeric Context n h = rw (number_reads Context n h).0 refl
  numeric Parts n h = rw (number_reads Parts n h).0 refl
  numeric Part n h = rw (number_reads Part n h).0 refl
  numeric Capacity n h = rw (number_reads Capacity n h).0 refl
  numeric Contents n h = cc (h)

  body_reads : (body : Body) → (are_bytes body && nat_le (body_len body) MAX_BODY) ≡ true
      → (value_of ranks Contents (body_word body) ≡ Ok (Bytes body)) × (list_all is_solid (body_word body) ≡ true)
  body_reads body h =
      let p = and_parts (are_bytes body) (nat_le (body_len body) MAX_BODY) h in
      let short = leb-true (body_len body) MAX_BODY p.1 in
      (rw (body_again body p.0 short) refl, body_solid body p.0 short)

  -- an argument in range is read, and has no space
  pub value_again : (s : Argument) (v : Value) → is_value ranks s v ≡ true
      → (value_of ranks s (value_word v) ≡ Ok v) × (list_all is_solid (value_word v) ≡ true)
  value_again Request (Number n) h = (numeric Request n h, decimal_solid n (number_reads Request n h).1)
  value_again Peer (Number n) h = (numeric Peer n h, decimal_solid n (number_reads Peer n h).1)
  value_again Tag (Number n) h = (numeric Tag n h, decimal_solid n (number_reads Tag n h).1)
  value_again Context (Number n) h = (numeric Context n h, decimal_solid n (number_reads Context n h).1)
  value_again Parts (Number n) h = (numeric Parts n h, decimal_solid n (number_reads Parts n h).1)
  value_again Part (Number n) h = (numeric Part n h, decimal_solid n (number_reads Part n h).1)
  value_again Capacity (Number n) h = (numeric Capacity n h, decimal_solid n (number_reads Capacity n h).1)
  value_again Contents (Number n) h = cc (h)
  value_again Request (Bytes body) h = cc (h)
  value_again Peer (Bytes body) h = cc (h)
  value_again Tag (Bytes body) h = cc (h)
  value_again Context (Bytes body) h = cc (h)
  value_again Parts (Bytes body) h = cc (h)
  value_again Part (Bytes body) h = cc (h)
  value_again Capacity (Bytes body) h = cc (h)
  value_again Contents (Bytes body) h = body_reads body h

  of_number : (s : Argument) (v : Value) (word : List ℕ)
      → (number_for ranks s word >>= λ n. Ok (Number n)) ≡ Ok v
      → (n : ℕ) × (is_number ranks s n ≡ true) × (word ≡ decimal n) × (Number n ≡ v)
  of_number s v word h =
      let p = bind_ok (number_for ranks s word) _ v h in
      let r = number_read s p.0 word p.1 in
      (p.0, r.0, r.1, cc (p.2))

  numbers_taken : (s : Argument) (n : ℕ) (v : Value) (word : List ℕ) → is_value ranks s (Number n) ≡ true
      → word ≡ decimal n → Number n ≡ v → (is_value ranks s v ≡ true) × (word ≡ value_word v)
  numbers_taken s n v word h is same = rw (← same) (h, is)

  -- what is read is spelled, and in range
  pub value_taken : (s : Argument) (v : Value) (word : List ℕ) → value_of ranks s word ≡ Ok v
      → (is_value ranks s v ≡ true) × (word ≡ value_word v)
  value_taken Request v word h =
      let r = of_number Request v word h in numbers_taken Request r.0 v word r.1 r.2 r.3
  value_taken Peer v word h =
      let r = of_number Peer v word h in numbers_taken Peer r.0 v word r.1 r.2 r.3
  value_taken Tag v word h =
      let r = of_number Tag v word h in numbers_taken Tag r.0 v word r.1 r.2 r.3
  value_taken Context v word h =
      let r = of_number Context v word h in numbers_taken Context r.0 v word r.1 r.2 r.3
  value_taken Parts v word h =
      let r = of_number Parts v word h in numbers_taken Parts r.0 v word r.1 r.2 r.3
  value_taken Part v word h =
      let r = of_number Part v word h in numbers_taken Part r.0 v word r.1 r.2 r.3
  value_taken Capacity v word h =
      let r = of_number Capacity v word h in numbers_taken Capacity r.0 v word r.1 r.2 r.3
  value_taken Contents v word h =
      let p = bind_ok (or_kind (body_of word) kind.Body) _ v h in
      let t = body_taken word p.0 (or_ok (body_of word) kind.Body p.0 p.1) in
      let is : Bytes p.0 ≡ v = cc (p.2) in
      rw (← is) (and_from _ _ t.bytes (le-leb (body_len p.0) MAX_BODY t.fits), t.word_is)

  only_number : (s : Argument) (word : List ℕ) (e : PlanKind)
      → (number_for ranks s word >>= λ n. Ok (Number n)) ≡ Err e → e ≡ kind.Number
  only_number s word e h =
      elim (bind_err (number_for ranks s word) _ e h) [
        | inl f ↦ number_kind s word e f
        | inr f ↦ cc (f.2)
      ]

  -- what is refused is a number's or a body's fault
  value_kind : (s : Argument) (word : List ℕ) (e : PlanKind) → value_of ranks s word ≡ Err e
      → ((is_contents s ≡ false) × (e ≡ kind.Number)) ⊎ ((is_contents s ≡ true) × (e ≡ kind.Body))
  value_kind Request word e h = inl (refl, only_number Request word e h)
  value_kind Peer word e h = inl (refl, only_number Peer word e h)
  value_kind Tag word e h = inl (refl, only_number Tag word e h)
  value_kind Context word e h = inl (refl, only_number Context word e h)
  value_kind Parts word e h = inl (refl, only_number Parts word e h)
  value_kind Part word e h = inl (refl, only_number Part word e h)
  value_kind Capacity word e h = inl (refl, only_number Capacity word e h)
  value_kind Contents word e h =
      elim (bind_err (or_kind (body_of word) kind.Body) _ e h) [
        | inl f ↦ inr (refl, or_err (body_of word) kind.Body e f)
        | inr f ↦ cc (f.2)
      ]

  value_refused : (s : Argument) (word : List ℕ) (e : PlanKind) → value_of ranks s word ≡ Err e
      → ¬ (IsSpelled ranks s word)
  value_refused s word e h = λ is.
      let same : value_of ranks s word ≡ Ok is.0 = ap (value_of ranks s) is.2 ∙ (value_again s is.0 is.1).0 in
      cc (same, h)

  -- ---- lists of arguments

  pub values_again : (ss : List Argument) (vs : List Value) → are_values ranks ss vs ≡ true
      → (values_of ranks ss (map value_word vs) ≡ Ok vs) × Solid (map value_word vs)
  values_again [] [] h = (refl, tt)
  values_again [] (v ∷ vs) h = cc (h)
  values_again (s ∷ ss) [] h = cc (h)
  values_again (s ∷ ss) (v ∷ vs) h =
      let p = and_parts (is_value ranks s v) (are_values ranks ss vs) h in
      let one = value_again s v p.0 in
      let more = values_again ss vs p.1 in
      (rw one.0 (rw more.0 refl), (one.1, more.1))

  pub values_taken : (ss : List Argument) (vs : List Value) (ws : List (List ℕ)) → values_of ranks ss ws ≡ Ok vs
      → (are_values ranks ss vs ≡ true) × (ws ≡ map value_word vs)
  values_taken [] vs [] h = let is : [] ≡ vs = cc (h) in rw (← is) (refl, refl)
  values_taken [] vs (w ∷ ws) h = cc (h)
  values_taken (s ∷ ss) vs [] h = cc (h)
  values_taken (s ∷ ss) vs (w ∷ ws) h =
      let p = bind_ok (value_of ranks s w) _ vs h in
      let q = bind_ok (values_of ranks ss ws) _ vs p.2 in
      let is : p.0 ∷ q.0 ≡ vs = cc (q.2) in
      let one = value_taken s p.0 w p.1 in
      let more = values_taken ss q.0 ws q.1 in
      rw (← is) (and_from _ _ one.0 more.0, cc (one.1, more.1))

  number_there : (s : Argument) (word : List ℕ) → is_contents s ≡ false → IsNumberThere ranks s word
      → IsSpelled ranks s word
  number_there Request word h is = is
  number_there Peer word h is = is
  number_there Tag word h is = is
  number_there Context word h is = is
  number_there Parts word h is = is
  number_there Part word h is = is
  number_there Capacity word h is = is
  number_there Contents word h is = cc (h)

  pub there_number : (s : Argument) (word : List ℕ) → IsSpelled ranks s word → IsNumberThere ranks s word
  there_number Request word is = is
  there_number Peer word is = is
  there_number Tag word is = is
  there_number Context word is = is
  there_number Parts word is = is
  there_number Part word is = is
  there_number Capacity word is = is
  there_number Contents word is = tt

  -- the first rule that arguments break
  unfoldable pub BreaksOne : List Argument → List (List ℕ) → PlanKind → Type 0
  BreaksOne ss ws e =
      ((e ≡ kind.Number) × ¬ (Each (IsNumberThere ranks) ss ws))
      ⊎ (Each (IsNumberThere ranks) ss ws × (e ≡ kind.Body) × ¬ (Each (IsBodyThere ranks) ss ws))

  number_first : (s : Argument) (ss : List Argument) (w : List ℕ) (ws : List (List ℕ)) (e : PlanKind)
      → is_contents s ≡ false → IsBodyThere ranks s w
      → (value_of ranks s w >>= λ v. (values_of ranks ss ws >>= λ vs. Ok (v ∷ vs))) ≡ Err e
      → (values_of ranks ss ws ≡ Err e → BreaksOne ss ws e) → BreaksOne (s ∷ ss) (w ∷ ws) e
  unfolding BreaksOne
  number_first s ss w ws e plain free h rest =
      elim (bind_err (value_of ranks s w) _ e h) [
        | inl f ↦ elim (value_kind s w e f) [
          | inl k ↦ inl (k.1, λ all. value_refused s w e f (number_there s w plain all.0))
          | inr k ↦ cc (plain, k.0)
        ]
        | inr f ↦
            let t = value_taken s f.0 w f.1 in
            let here = there_number s w (f.0, t.0, t.1) in
            elim (bind_err (values_of ranks ss ws) _ e f.2) [
              | inl g ↦ elim (rest g) [
                | inl b ↦ inl (b.0, λ all. b.1 all.1)
                | inr b ↦ inr ((here, b.0), b.1, λ all. b.2 all.1)
              ]
              | inr g ↦ cc (g.2)
            ]
      ]

  pub values_fault : (ss : List Argument) (ws : List (List ℕ)) (e : PlanKind) → body_last ss ≡ true
      → length ws ≡ length ss → values_of ranks ss ws ≡ Err e → BreaksOne ss ws e
  unfolding BreaksOne
  values_fault [] [] e last n h = cc (h)
  values_fault [] (w ∷ ws) e last n h = absurd (omega (arith, n))
  values_fault (s ∷ ss) [] e last n h = absurd (omega (arith, n))
  values_fault (Request ∷ ss) (w ∷ ws) e last n h =
      number_first Request ss w ws e refl tt h (values_fault ss ws e last (omega (arith, n)))
  values_fault (Peer ∷ ss) (w ∷ ws) e last n h =
      number_first Peer ss w ws e refl tt h (values_fault ss ws e last (omega (arith, n)))
  values_fault (Tag ∷ ss) (w ∷ ws) e last n h =
      number_first Tag ss w ws e refl tt h (values_fault ss ws e last (omega (arith, n)))
  values_fault (Context ∷ ss) (w ∷ ws) e last n h =
      number_first Context ss w ws e refl tt h (values_fault ss ws e last (omega (arith, n)))
  values_fault (Parts ∷ ss) (w ∷ ws) e last n h =
      number_first Parts ss w ws e refl tt h (values_fault ss ws e last (omega (arith, n)))
  values_fault (Part ∷ ss) (w ∷ ws) e last n h =
      number_first Part ss w ws e refl tt h (values_fault ss ws e last (omega (arith, n)))
  values_fault (Capacity ∷ ss) (w ∷ ws) e last n h =
      number_first Capacity ss w ws e refl tt h (values_fault ss ws e last (omega (arith, n)))
  values_fault (Contents ∷ []) (w ∷ []) e last n h =
      elim (bind_err (value_of ranks Contents w) _ e h) [
        | inl f ↦ elim (value_kind Contents w e f) [
          | inl k ↦ cc (k.0)
          | inr k ↦ inr ((tt, tt), k.1, λ all. value_refused Contents w e f all.0)
        ]
        | inr f ↦ cc (f.2)
      ]
  values_fault (Contents ∷ []) (w ∷ x ∷ ws) e last n h = absurd (omega (arith, n))
  values_fault (Contents ∷ s ∷ ss) (w ∷ ws) e last n h = cc (last)

  -- ---- commands

  of_numbers : (s : Argument) (v : Value) → is_contents s ≡ false → is_value ranks s v ≡ true
      → Number (number_in v) ≡ v
  of_numbers Request (Number n) plain h = refl
  of_numbers Peer (Number n) plain h = refl
  of_numbers Tag (Number n) plain h = refl
  of_numbers Context (Number n) plain h = refl
  of_numbers Parts (Number n) plain h = refl
  of_numbers Part (Number n) plain h = refl
  of_numbers Capacity (Number n) plain h = refl
  of_numbers Contents (Number n) plain h = refl
  of_numbers Request (Bytes body) plain h = cc (h)
  of_numbers Peer (Bytes body) plain h = cc (h)
  of_numbers Tag (Bytes body) plain h = cc (h)
  of_numbers Context (Bytes body) plain h = cc (h)
  of_numbers Parts (Bytes body) plain h = cc (h)
  of_numbers Part (Bytes body) plain h = cc (h)
  of_numbers Capacity (Bytes body) plain h = cc (h)
  of_numbers Contents (Bytes body) plain h = cc (plain)

  of_body : (v : Value) → is_value ranks Contents v ≡ true → Bytes (body_in v) ≡ v
  of_body (Number n) h = cc (h)
  of_body (Bytes body) h = refl

  -- what is made of arguments in range has these arguments
  pub make_taken : (k : PlanKeyword) (vs : List Value) (c : PlanCommand) → make k vs ≡ Ok c
      → are_values ranks (arguments k) vs ≡ true → (keyword_in c ≡ k) × (values c ≡ vs)
  make_taken key.SendInit [] c h all = cc (h)
  make_taken key.SendInit (p ∷ []) c h all = cc (h)
  make_taken key.SendInit (p ∷ to ∷ []) c h all = cc (h)
  make_taken key.SendInit (p ∷ to ∷ tag ∷ []) c h all = cc (h)
  make_taken key.SendInit (p ∷ to ∷ tag ∷ ctx ∷ []) c h all = cc (h)
  make_taken key.SendInit (p ∷ to ∷ tag ∷ ctx ∷ body ∷ []) c h all =
      let is : SendInit (number_in p) (number_in to) (number_in tag) (number_in ctx) (body_in body) ≡ c = cc (h) in
      let q0 = and_parts (is_value ranks Request p) (are_values ranks (Peer ∷ Tag ∷ Context ∷ Contents ∷ [])
      (to ∷ tag ∷ ctx ∷ body ∷ [])) all in
      let q1 = and_parts (is_value ranks Peer to)
      (are_values ranks (Tag ∷ Context ∷ Contents ∷ []) (tag ∷ ctx ∷ body ∷ [])) q0.1 in
      let q2 = and_parts (is_value ranks Tag tag) (are_values ranks (Context ∷ Contents ∷ []) (ctx ∷ body ∷ [])) q1.1 in
      let q3 = and_parts (is_value ranks Context ctx) (are_values ranks (Contents ∷ []) (body ∷ [])) q2.1 in
      let q4 = and_parts (is_value ranks Contents body) (are_values ranks ([]) ([])) q3.1 in
      rw (← is) (
        refl,
        cc (
          of_numbers Request p refl q0.0,
          of_numbers Peer to refl q1.0,
          of_numbers Tag tag refl q2.0,
          of_numbers Context ctx refl q3.0,
          of_body body q4.0,
        ),
      )
  make_taken key.SendInit (p ∷ to ∷ tag ∷ ctx ∷ body ∷ x ∷ more) c h all = cc (h)
  make_taken key.RecvInit [] c h all = cc (h)
  make_taken key.RecvInit (p ∷ []) c h all = cc (h)
  make_taken key.RecvInit (p ∷ from ∷ []) c h all = cc (h)
  make_taken key.RecvInit (p ∷ from ∷ tag ∷ []) c h all = cc (h)
  make_taken key.RecvInit (p ∷ from ∷ tag ∷ ctx ∷ []) c h all = cc (h)
  make_taken key.RecvInit (p ∷ from ∷ tag ∷ ctx ∷ cap ∷ []) c h all =
      let is : RecvInit (number_in p) (number_in from) (number_in tag) (number_in ctx) (number_in cap) ≡ c = cc (h) in
      let q0 = and_parts (is_value ranks Request p) (are_values ranks (Peer ∷ Tag ∷ Context ∷ Capacity ∷ [])
      (from ∷ tag ∷ ctx ∷ cap ∷ [])) all in
      let q1 = and_parts (is_value ranks Peer from)
      (are_values ranks (Tag ∷ Context ∷ Capacity ∷ []) (tag ∷ ctx ∷ cap ∷ [])) q0.1 in
      let q2 = and_parts (is_value ranks Tag tag) (are_values ranks (Context ∷ Capacity ∷ []) (ctx ∷ cap ∷ [])) q1.1 in
      let q3 = and_parts (is_value ranks Context ctx) (are_values ranks (Capacity ∷ []) (cap ∷ [])) q2.1 in
      let q4 = and_parts (is_value ranks Capacity cap) (are_values ranks ([]) ([])) q3.1 in
      rw (← is) (
        refl,
        cc (
          of_numbers Request p refl q0.0,
          of_numbers Peer from refl q1.0,
          of_numbers Tag tag refl
              q2.0,
          of_numbers Context ctx refl q3.0,
          of_numbers Capacity cap refl q4.0,
        ),
      )
  make_taken key.RecvInit (p ∷ from ∷ tag ∷ ctx ∷ cap ∷ x ∷ more) c h all = cc (h)
  make_taken key.PsendInit [] c h all = cc (h)
  make_taken key.PsendInit (p ∷ []) c h all = cc (h)
  make_taken key.PsendInit (p ∷ to ∷ []) c h all = cc (h)
  make_taken key.PsendInit (p ∷ to ∷ tag ∷ []) c h all = cc (h)
  make_taken key.PsendInit (p ∷ to ∷ tag ∷ ctx ∷ []) c h all = cc (h)
  make_taken key.PsendInit (p ∷ to ∷ tag ∷ ctx ∷ parts ∷ []) c h all = cc (h)
  make_taken key.PsendInit (p ∷ to ∷ tag ∷ ctx ∷ parts ∷ body ∷ []) c h all =
      let is : PsendInit (number_in p) (number_in to) (number_in tag) (number_in ctx) (number_in parts) (body_in body)
      ≡ c = cc (h) in
      let q0 = and_parts (is_value ranks Request p) (are_values ranks (Peer ∷ Tag ∷ Context ∷ Parts ∷ Contents ∷ [])
      (to ∷ tag ∷ ctx ∷ parts ∷ body ∷ [])) all in
      let q1 = and_parts (is_value ranks Peer to) (are_values ranks (Tag ∷ Context ∷ Parts ∷ Contents ∷ [])
      (tag ∷ ctx ∷ parts ∷ body ∷ [])) q0.1 in
      let q2 = and_parts (is_value ranks Tag tag)
      (are_values ranks (Context ∷ Parts ∷ Contents ∷ []) (ctx ∷ parts ∷ body ∷ [])) q1.1 in
      let q3 = and_parts (is_value ranks Context ctx) (are_values ranks (Parts ∷ Contents ∷ []) (parts ∷ body ∷ []))
      q2.1 in
      let q4 = and_parts (is_value ranks Parts parts) (are_values ranks (Contents ∷ []) (body ∷ [])) q3.1 in
      let q5 = and_parts (is_value ranks Contents body) (are_values ranks ([]) ([])) q4.1 in
      rw (← is) (
        refl,
        cc (
          of_numbers Request p refl q0.0,
          of_numbers Peer to refl q1.0,
          of_numbers Tag tag refl q2.0,
          of_numbers Context ctx refl q3.0,
          of_numbers Parts parts refl q4.0,
          of_body body q5.0,
        ),
      )
  make_taken key.PsendInit (p ∷ to ∷ tag ∷ ctx ∷ parts ∷ body ∷ x ∷ more) c h all = cc (h)
  make_taken key.PrecvInit [] c h all = cc (h)
  make_taken key.PrecvInit (p ∷ []) c h all = cc (h)
  make_taken key.PrecvInit (p ∷ from ∷ []) c h all = cc (h)
  make_taken key.PrecvInit (p ∷ from ∷ tag ∷ []) c h all = cc (h)
  make_taken key.PrecvInit (p ∷ from ∷ tag ∷ ctx ∷ []) c h all = cc (h)
  make_taken key.PrecvInit (p ∷ from ∷ tag ∷ ctx ∷ parts ∷ []) c h all = cc (h)
  make_taken key.PrecvInit (p ∷ from ∷ tag ∷ ctx ∷ parts ∷ cap ∷ []) c h all =
      let is : PrecvInit (number_in p) (number_in from) (number_in tag) (number_in ctx) (number_in parts)
      (number_in cap) ≡ c = cc (h) in
      let q0 = and_parts (is_value ranks Request p) (are_values ranks (Peer ∷ Tag ∷ Context ∷ Parts ∷ Capacity ∷ [])
      (from ∷ tag ∷ ctx ∷ parts ∷ cap ∷ [])) all in
      let q1 = and_parts (is_value ranks Peer from) (are_values ranks (Tag ∷ Context ∷ Parts ∷ Capacity ∷ [])
      (tag ∷ ctx ∷ parts ∷ cap ∷ [])) q0.1 in
      let q2 = and_parts (is_value ranks Tag tag)
      (are_values ranks (Context ∷ Parts ∷ Capacity ∷ []) (ctx ∷ parts ∷ cap ∷ [])) q1.1 in
      let q3 = and_parts (is_value ranks Context ctx) (are_values ranks (Parts ∷ Capacity ∷ []) (parts ∷ cap ∷ []))
      q2.1 in
      let q4 = and_parts (is_value ranks Parts parts) (are_values ranks (Capacity ∷ []) (cap ∷ [])) q3.1 in
      let q5 = and_parts (is_value ranks Capacity cap) (are_values ranks ([]) ([])) q4.1 in
      rw (← is) (
        refl,
        cc (
          of_numbers Request p refl q0.0,
          of_numbers Peer from refl q1.0,
          of_numbers Tag tag refl
              q2.0,
          of_numbers Context ctx refl q3.0,
          of_numbers Parts parts refl q4.0,
          of_numbers Capacity cap refl q5.0,
        ),
      )
  make_taken key.PrecvInit (p ∷ from ∷ tag ∷ ctx ∷ parts ∷ cap ∷ x ∷ more) c h all = cc (h)
  make_taken key.Fill [] c h all = cc (h)
  make_taken key.Fill (p ∷ []) c h all = cc (h)
  make_taken key.Fill (p ∷ body ∷ []) c h all =
      let is : Fill (number_in p) (body_in body) ≡ c = cc (h) in
      let q0 = and_parts (is_value ranks Request p) (are_values ranks (Contents ∷ []) (body ∷ [])) all in
      let q1 = and_parts (is_value ranks Contents body) (are_values ranks ([]) ([])) q0.1 in
      rw (← is) (refl, cc (of_numbers Request p refl q0.0, of_body body q1.0))
  make_taken key.Fill (p ∷ body ∷ x ∷ more) c h all = cc (h)
  make_taken key.Start [] c h all = cc (h)
  make_taken key.Start (p ∷ []) c h all =
      let is : Start (number_in p) ≡ c = cc (h) in
      let q0 = and_parts (is_value ranks Request p) (are_values ranks ([]) ([])) all in
      rw (← is) (refl, cc (of_numbers Request p refl q0.0))
  make_taken key.Start (p ∷ x ∷ more) c h all = cc (h)
  make_taken key.Ready [] c h all = cc (h)
  make_taken key.Ready (p ∷ []) c h all = cc (h)
  make_taken key.Ready (p ∷ k ∷ []) c h all =
      let is : Ready (number_in p) (number_in k) ≡ c = cc (h) in
      let q0 = and_parts (is_value ranks Request p) (are_values ranks (Part ∷ []) (k ∷ [])) all in
      let q1 = and_parts (is_value ranks Part k) (are_values ranks ([]) ([])) q0.1 in
      rw (← is) (refl, cc (of_numbers Request p refl q0.0, of_numbers Part k refl q1.0))
  make_taken key.Ready (p ∷ k ∷ x ∷ more) c h all = cc (h)
  make_taken key.Arrived [] c h all = cc (h)
  make_taken key.Arrived (p ∷ []) c h all = cc (h)
  make_taken key.Arrived (p ∷ k ∷ []) c h all =
      let is : Arrived (number_in p) (number_in k) ≡ c = cc (h) in
      let q0 = and_parts (is_value ranks Request p) (are_values ranks (Part ∷ []) (k ∷ [])) all in
      let q1 = and_parts (is_value ranks Part k) (are_values ranks ([]) ([])) q0.1 in
      rw (← is) (refl, cc (of_numbers Request p refl q0.0, of_numbers Part k refl q1.0))
  make_taken key.Arrived (p ∷ k ∷ x ∷ more) c h all = cc (h)
  make_taken key.Wait [] c h all = cc (h)
  make_taken key.Wait (p ∷ []) c h all =
      let is : Wait (number_in p) ≡ c = cc (h) in
      let q0 = and_parts (is_value ranks Request p) (are_values ranks ([]) ([])) all in
      rw (← is) (refl, cc (of_numbers Request p refl q0.0))
  make_taken key.Wait (p ∷ x ∷ more) c h all = cc (h)
