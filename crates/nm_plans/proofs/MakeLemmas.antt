-- What a command's arguments make, both ways, and the faults of a line's words.
use Rattle.std.proofs.Common.{◌≡◌, ℕ, ◌<◌, ◌≤◌, inl, inr, true, eqb}
use Rattle.std.proofs.Common.{List, [], ◌∷◌, length, map, Ok, Err}
use Rattle.std.proofs.Common.{refl, sym, ap, ◌∙◌, arith, decimal}
use Rattle.std.specs.Option.{ok_or}
use Rattle.std.proofs.lemmas.Bool.{and_from, and_parts, eqb-true, eq-eqb}
use Rattle.std.proofs.lemmas.List.{length-map}
use Rattle.std.proofs.lemmas.List.Folds.{list_all-append}
use Rattle.nm_types.specs.declared.limits.TheConstants.{MAX_RANKS}
use Rattle.nm_script.proofs.WordsStepLemmas.{bind_ok, chosen}
use Rattle.nm_script.proofs.WordLemmas.{is_solid, Solid, decimal_solid}
use Rattle.nm_script.specs.Commands.{rank_of}
use Rattle.nm_script.specs.Faults.{◌>>=◌}
use Rattle.nm_script.proofs.CommandLemmas.{rank_again}
use Rattle.nm_script.proofs.CommandTakenLemmas.{rank_taken}
use Rattle.nm_script.proofs.StepLemmas.{bind_err, guard_ok}
use Rattle.nm_plans.specs.declared.faults.PlanKind.{PlanKind}
use Rattle.nm_plans.specs.declared.faults.PlanKind.TheVariants as kind
use Rattle.nm_plans.specs.declared.keywords.PlanKeyword.{PlanKeyword}
use Rattle.nm_plans.specs.declared.keywords.PlanKeyword.TheVariants as key
use Rattle.nm_plans.specs.declared.lines.PlanCommand.{PlanCommand}
use Rattle.nm_plans.specs.declared.lines.PlanCommand.TheVariants.{SendInit, RecvInit, PsendInit}
use Rattle.nm_plans.specs.declared.lines.PlanCommand.TheVariants.{PrecvInit, Fill, Start, Ready}
use Rattle.nm_plans.specs.declared.lines.PlanCommand.TheVariants.{Arrived, Wait}
use Rattle.nm_plans.specs.declared.lines.PlanLine.{PlanLine}
use Rattle.nm_plans.specs.Commands.{arguments_of, command_of, line_of, make}
use Rattle.nm_plans.specs.Commands.{values_of}
use Rattle.nm_plans.specs.Faults.{or_kind}
use Rattle.nm_plans.specs.Grammar.{Argument, Value, are_values, arguments, is_in_range, is_value}
use Rattle.nm_plans.specs.Grammar.{keyword_in, keyword_of, keyword_text, value_word, values}
use Rattle.nm_plans.specs.Grammar.Argument.{Request, Peer, Tag, Context, Parts, Part, Capacity, Contents}
use Rattle.nm_script.specs.Arguments.{Each}
use Rattle.nm_plans.specs.Spelled.{IsBodyThere, IsNumberThere, IsSpelled}
use Rattle.nm_script.specs.TextRules.{IsFirstOf}
use Rattle.nm_plans.specs.Text.{line_words}
use Rattle.nm_plans.proofs.GrammarLemmas.{keyword_taken, keyword_again, keyword_solid, ok_some, or_ok}
use Rattle.nm_plans.proofs.ValueLemmas.{body_last, values_again, values_taken, there_number, BreaksOne, values_fault}
use Rattle.nm_plans.proofs.ValueLemmas.{make_taken}

-- arguments as many as a command has make one
pub make_err : (k : PlanKeyword) (vs : List Value) (e : PlanKind) → make k vs ≡ Err e
    → length vs ≡ length (arguments k) → ⊥
make_err key.SendInit [] e h n = omega (arith, n)
make_err key.SendInit (p ∷ []) e h n = omega (arith, n)
make_err key.SendInit (p ∷ to ∷ []) e h n = omega (arith, n)
make_err key.SendInit (p ∷ to ∷ tag ∷ []) e h n = omega (arith, n)
make_err key.SendInit (p ∷ to ∷ tag ∷ ctx ∷ []) e h n = omega (arith, n)
make_err key.SendInit (p ∷ to ∷ tag ∷ ctx ∷ body ∷ []) e h n = cc (h)
make_err key.SendInit (p ∷ to ∷ tag ∷ ctx ∷ body ∷ x ∷ more) e h n = omega (arith, n)
make_err key.RecvInit [] e h n = omega (arith, n)
make_err key.RecvInit (p ∷ []) e h n = omega (arith, n)
make_err key.RecvInit (p ∷ from ∷ []) e h n = omega (arith, n)
make_err key.RecvInit (p ∷ from ∷ tag ∷ []) e h n = omega (arith, n)
make_err key.RecvInit (p ∷ from ∷ tag ∷ ctx ∷ []) e h n = omega (arith, n)
make_err key.RecvInit (p ∷ from ∷ tag ∷ ctx ∷ cap ∷ []) e h n = cc (h)
make_err key.RecvInit (p ∷ from ∷ tag ∷ ctx ∷ cap ∷ x ∷ more) e h n = omega (arith, n)
make_err key.PsendInit [] e h n = omega (arith, n)
make_err key.PsendInit (p ∷ []) e h n = omega (arith, n)
make_err key.PsendInit (p ∷ to ∷ []) e h n = omega (arith, n)
make_err key.PsendInit (p ∷ to ∷ tag ∷ []) e h n = omega (arith, n)
make_err key.PsendInit (p ∷ to ∷ tag ∷ ctx ∷ []) e h n = omega (arith, n)
make_err key.PsendInit (p ∷ to ∷ tag ∷ ctx ∷ parts ∷ []) e h n = omega (arith, n)
make_err key.PsendInit (p ∷ to ∷ tag ∷ ctx ∷ parts ∷ body ∷ []) e h n = cc (h)
make_err key.PsendInit (p ∷ to ∷ tag ∷ ctx ∷ parts ∷ body ∷ x ∷ more) e h n = omega (arith, n)
make_err key.PrecvInit [] e h n = omega (arith, n)
make_err key.PrecvInit (p ∷ []) e h n = omega (arith, n)
make_err key.PrecvInit (p ∷ from ∷ []) e h n = omega (arith, n)
make_err key.PrecvInit (p ∷ from ∷ tag ∷ []) e h n = omega (arith, n)
make_err key.PrecvInit (p ∷ from ∷ tag ∷ ctx ∷ []) e h n = omega (arith, n)
make_err key.PrecvInit (p ∷ from ∷ tag ∷ ctx ∷ parts ∷ []) e h n = omega (arith, n)
make_err key.PrecvInit (p ∷ from ∷ tag ∷ ctx ∷ parts ∷ cap ∷ []) e h n = cc (h)
make_err key.PrecvInit (p ∷ from ∷ tag ∷ ctx ∷ parts ∷ cap ∷ x ∷ more) e h n = omega (arith, n)
make_err key.Fill [] e h n = omega (arith, n)
make_err key.Fill (p ∷ []) e h n = omega (arith, n)
make_err key.Fill (p ∷ body ∷ []) e h n = cc (h)
make_err key.Fill (p ∷ body ∷ x ∷ more) e h n = omega (arith, n)
make_err key.Start [] e h n = omega (arith, n)
make_err key.Start (p ∷ []) e h n = cc (h)
make_err key.Start (p ∷ x ∷ more) e h n = omega (arith, n)
make_err key.Ready [] e h n = omega (arith, n)
make_err key.Ready (p ∷ []) e h n = omega (arith, n)
make_err key.Ready (p ∷ k ∷ []) e h n = cc (h)
make_err key.Ready (p ∷ k ∷ x ∷ more) e h n = omega (arith, n)
make_err key.Arrived [] e h n = omega (arith, n)
make_err key.Arrived (p ∷ []) e h n = omega (arith, n)
make_err key.Arrived (p ∷ k ∷ []) e h n = cc (h)
make_err key.Arrived (p ∷ k ∷ x ∷ more) e h n = omega (arith, n)
make_err key.Wait [] e h n = omega (arith, n)
make_err key.Wait (p ∷ []) e h n = cc (h)
make_err key.Wait (p ∷ x ∷ more) e h n = omega (arith, n)

make_again : (c : PlanCommand) → make (keyword_in c) (values c) ≡ Ok c
make_again (SendInit p to tag ctx body) = refl
make_again (RecvInit p from tag ctx cap) = refl
make_again (PsendInit p to tag ctx parts body) = refl
make_again (PrecvInit p from tag ctx parts cap) = refl
make_again (Fill p body) = refl
make_again (Start p) = refl
make_again (Ready p k) = refl
make_again (Arrived p k) = refl
make_again (Wait p) = refl

as_many : (c : PlanCommand) → eqb (length (map value_word (values c))) (length (arguments (keyword_in c))) ≡ true
as_many (SendInit p to tag ctx body) = refl
as_many (RecvInit p from tag ctx cap) = refl
as_many (PsendInit p to tag ctx parts body) = refl
as_many (PrecvInit p from tag ctx parts cap) = refl
as_many (Fill p body) = refl
as_many (Start p) = refl
as_many (Ready p k) = refl
as_many (Arrived p k) = refl
as_many (Wait p) = refl

pub last_body : (k : PlanKeyword) → body_last (arguments k) ≡ true
last_body key.SendInit = refl
last_body key.RecvInit = refl
last_body key.PsendInit = refl
last_body key.PrecvInit = refl
last_body key.Fill = refl
last_body key.Start = refl
last_body key.Ready = refl
last_body key.Arrived = refl
last_body key.Wait = refl

module _ (ranks : ℕ) (few : ranks ≤ MAX_RANKS) where
  -- the words of a command in range are read as it
  command_again : (c : PlanCommand) → is_in_range ranks c ≡ true
      → (arguments_of ranks (keyword_in c) (map value_word (values c)) ≡ Ok c)
      × Solid (map value_word (values c))
  unfolding arguments_of
  command_again c h =
      let back = values_again ranks few (arguments (keyword_in c)) (values c) h in
      (rw (as_many c) (rw back.0 (make_again c)), back.1)

  pub line_again : (line : PlanLine) → line.rank < ranks → is_in_range ranks line.command ≡ true
      → (line_of ranks (line_words line) ≡ Ok line) × Solid (line_words line)
  unfolding line_of command_of
  line_again line own h =
      let back = command_again line.command h in
      let first = list_all-append is_solid (decimal line.rank) (58 ∷ [])
      ∙ and_from _ _ (decimal_solid line.rank (omega arith)) refl in (
        rw (rank_again ranks line.rank few own)
            (rw (keyword_again (keyword_in line.command)) (rw back.0 refl)),
        (first, (keyword_solid (keyword_in line.command), back.1)),
      )

  -- what is read of arguments is a command with these, in range
  record IsCommand (k : PlanKeyword) (ws : List (List ℕ)) (c : PlanCommand) : Type 0 where
    keyword_is : keyword_in c ≡ k
    words_are : ws ≡ map value_word (values c)
    range : is_in_range ranks c ≡ true

  command_taken : (k : PlanKeyword) (ws : List (List ℕ)) (c : PlanCommand) → arguments_of ranks k ws ≡ Ok c
      → IsCommand k ws c
  unfolding arguments_of
  command_taken k ws c h =
      let p = guard_ok (eqb (length ws) (length (arguments k))) (values_of ranks (arguments k) ws >>= make k)
      kind.Count c h in
      let q = bind_ok (values_of ranks (arguments k) ws) (make k) c p.1 in
      let t = values_taken ranks few (arguments k) q.0 ws q.1 in
      let m = make_taken ranks few k q.0 c q.2 t.0 in
      record {
        keyword_is = m.0;
        words_are = t.1 ∙ ap (map value_word) (sym m.1);
        range = ap (λ j. are_values ranks (arguments j) (values c)) m.0
            ∙ ap (are_values ranks (arguments k)) m.1 ∙ t.0;
      }

  -- what is read of words is the line that has them
  pub record IsLineOf (ws : List (List ℕ)) (line : PlanLine) : Type 0 where
    pub words_are : ws ≡ line_words line
    pub own : line.rank < ranks
    pub range : is_in_range ranks line.command ≡ true

  pub line_taken : (ws : List (List ℕ)) (line : PlanLine) → line_of ranks ws ≡ Ok line → IsLineOf ws line
  unfolding line_of command_of
  line_taken [] line h = cc (h)
  line_taken (first ∷ []) line h =
      let p = bind_ok (or_kind (rank_of ranks first) kind.Rank) _ line h in cc (p.2)
  line_taken (first ∷ name ∷ ws) line h =
      let p = bind_ok (or_kind (rank_of ranks first) kind.Rank) _ line h in
      let q = bind_ok (command_of ranks name ws) _ line p.2 in
      let k = bind_ok (ok_or (keyword_of name) kind.Command) _ q.0 q.1 in
      let r = rank_taken ranks p.0 first (omega arith) (or_ok (rank_of ranks first) kind.Rank p.0 p.1) in
      let word = keyword_taken name k.0 (ok_some (keyword_of name) kind.Command k.0 k.1) in
      let t = command_taken k.0 ws q.0 k.2 in
      let is : record { rank = p.0; command = q.0 } ≡ line = cc (q.2) in
      let made : IsLineOf (first ∷ name ∷ ws) (record { rank = p.0; command = q.0 }) = record {
        words_are = cc (r.0, word, ap keyword_text t.keyword_is, t.words_are);
        own = r.1;
        range = t.range;
      } in
      rw is at made

  -- the rules of words that should be these arguments
  abbrev pub Kept : PlanKeyword → List (List ℕ) → PlanKind → Type 0
  Kept k ws kind.Count = length ws ≡ length (arguments k)
  Kept k ws kind.Number = Each (IsNumberThere ranks) (arguments k) ws
  Kept k ws kind.Body = Each (IsBodyThere ranks) (arguments k) ws
  Kept k ws _ = Unit {0}

  pub arguments_fault : (k : PlanKeyword) (ws : List (List ℕ)) (e : PlanKind) → arguments_of ranks k ws ≡ Err e
      → IsFirstOf (Kept k ws) (kind.Count ∷ kind.Number ∷ kind.Body ∷ []) e
  unfolding arguments_of BreaksOne
  arguments_fault k ws e h =
      elim (chosen (eqb (length ws) (length (arguments k))) (values_of ranks (arguments k) ws >>= make k)
      (Err kind.Count) (Err e) h) [
        | inl p ↦
            let n = eqb-true (length ws) (length (arguments k)) p.0 in
            inr (
              n,
              elim (bind_err (values_of ranks (arguments k) ws) (make k) e p.1) [
                | inl f ↦ elim (values_fault ranks few (arguments k) ws e (last_body k) n f) [
                  | inl b ↦ inl b
                  | inr b ↦ inr (b.0, inl (b.1, b.2))
                ]
                | inr f ↦
                    let t = values_taken ranks few (arguments k) f.0 ws f.1 in
                    let same : length f.0 ≡ length (arguments k) =
                    sym (length-map f.0 value_word) ∙ ap length (sym t.1) ∙ n in
                    absurd (make_err k f.0 e f.2 same)
              ],
            )
        | inr p ↦ inl (cc (p.1), λ n. cc (p.0, eq-eqb (length ws) (length (arguments k)) n))
      ]

module _ (ranks : ℕ) where
  -- there are as many arguments as sorts
  pub each_counts : (ss : List Argument) (vs : List Value) → are_values ranks ss vs ≡ true → length vs ≡ length ss
  each_counts [] [] h = refl
  each_counts [] (v ∷ vs) h = cc (h)
  each_counts (s ∷ ss) [] h = cc (h)
  each_counts (s ∷ ss) (v ∷ vs) h =
      let p = and_parts (is_value ranks s v) (are_values ranks ss vs) h in
      omega (arith, each_counts ss vs p.1)

  there_body : (s : Argument) (word : List ℕ) → IsSpelled ranks s word → IsBodyThere ranks s word
  there_body Request word is = tt
  there_body Peer word is = tt
  there_body Tag word is = tt
  there_body Context word is = tt
  there_body Parts word is = tt
  there_body Part word is = tt
  there_body Capacity word is = tt
  there_body Contents word is = is

module _ (ranks : ℕ) (few : ranks ≤ MAX_RANKS) where
  -- each number, and each body, of a command in range is spelled
  pub each_number : (ss : List Argument) (vs : List Value) → are_values ranks ss vs ≡ true
      → Each (IsNumberThere ranks) ss (map value_word vs)
  each_number [] vs h = tt
  each_number (s ∷ ss) [] h = tt
  each_number (s ∷ ss) (v ∷ vs) h =
      let p = and_parts (is_value ranks s v) (are_values ranks ss vs) h in
      (there_number ranks few s (value_word v) (v, p.0, refl), each_number ss vs p.1)

  pub each_body : (ss : List Argument) (vs : List Value) → are_values ranks ss vs ≡ true
      → Each (IsBodyThere ranks) ss (map value_word vs)
  each_body [] vs h = tt
  each_body (s ∷ ss) [] h = tt
  each_body (s ∷ ss) (v ∷ vs) h =
      let p = and_parts (is_value ranks s v) (are_values ranks ss vs) h in
      (there_body ranks s (value_word v) (v, p.0, refl), each_body ss vs p.1)
