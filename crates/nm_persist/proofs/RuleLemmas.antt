-- The rules of lines: which a command's line keeps, and which a line breaks that is refused.
use Rattle.std.proofs.Common.{◌≡◌, ℕ, ◌+◌, ◌≤◌, inl, inr, Bool, true, false}
use Rattle.std.proofs.Common.{List, [], ◌∷◌, ◌++◌, length, map, Option, Some, None, Result, Ok, Err, nat_lt}
use Rattle.std.proofs.Common.{refl, sym, ap, ◌∙◌, arith, codes, decimal, subst, cond}
use Rattle.std.specs.List.{join_with_byte}
use Rattle.std.specs.Option.{ok_or}
use Rattle.std.proofs.lemmas.Bool.{le-ltb, ltb-true, ltb-false}
use Rattle.std.proofs.lemmas.List.{length-map}
use Rattle.nm_types.specs.declared.limits.TheConstants.{MAX_RANKS, MAX_LINES}
use Rattle.nm_script.specs.Lines.{is_printable, words_of}
use Rattle.nm_script.proofs.WordsStepLemmas.{bind_ok, chosen}
use Rattle.nm_script.proofs.WordLemmas.{line_is, joined_printable, words_again}
use Rattle.nm_script.specs.Commands.{rank_of}
use Rattle.nm_script.specs.Faults.{◌>>=◌}
use Rattle.nm_script.specs.Rules.{HasRank}
use Rattle.nm_script.proofs.CommandLemmas.{rank_again}
use Rattle.nm_script.proofs.CommandTakenLemmas.{rank_taken}
use Rattle.nm_script.proofs.StepLemmas.{bind_err, guard_ok, unless_ok}
use Rattle.nm_plans.specs.declared.faults.PlanKind.{PlanKind}
use Rattle.nm_plans.specs.declared.faults.PlanKind.TheVariants as kind
use Rattle.nm_plans.specs.declared.keywords.PlanKeyword.{PlanKeyword}
use Rattle.nm_plans.specs.declared.lines.PlanLine.{PlanLine}
use Rattle.nm_plans.specs.Commands.{command_of, line_of}
use Rattle.nm_plans.specs.Faults.{or_kind}
use Rattle.nm_plans.specs.Grammar.{arguments, keyword_in, keyword_of, keyword_text, value_word, values}
use Rattle.nm_persist.specs.Reading.{line_at, unless}
use Rattle.nm_script.specs.TextRules.{AllKept, IsFirstOf}
use Rattle.nm_script.specs.Arguments.{Each}
use Rattle.nm_plans.specs.Spelled.{IsBodyThere, IsLine, IsNumberThere}
use Rattle.nm_persist.specs.Rules.{KeepsRule, line_kinds}
use Rattle.nm_persist.specs.Table.{fault_in, has_other_parts, is_out_of_order, is_past, is_taken}
use Rattle.nm_plans.specs.Text.{line_words, words}
use Rattle.nm_plans.proofs.GrammarLemmas.{err_none, keyword_again, keyword_taken}
use Rattle.nm_plans.proofs.MakeLemmas.{arguments_fault, line_again}
use Rattle.nm_plans.proofs.GrammarLemmas.{ok_some, one_keyword, or_err, or_ok}
use Rattle.nm_plans.proofs.MakeLemmas.{line_taken, Kept}
use Rattle.nm_plans.proofs.MakeLemmas.{each_body, each_counts, each_number}

-- ---- a command's line

module _ (ranks : ℕ) (few : ranks ≤ MAX_RANKS) where
  -- the line of a text is read as it
  pub record IsRead (text : List ℕ) (line : PlanLine) : Type 0 where
    pub printable : is_printable text ≡ true
    pub gives : line_of ranks (words_of text) ≡ Ok line

  pub is_read : (text : List ℕ) (line : PlanLine) → IsLine ranks text line → IsRead text line
  is_read text line is =
      let back = line_again ranks few line is.own is.range in
      let first = decimal line.rank ++ codes ":" in
      let split = ap words_of is.text_is ∙ words_again first (words line.command) back.1 in
      record {
        printable = ap is_printable is.text_is ∙ joined_printable first (words line.command) back.1;
        gives = ap (line_of ranks) split ∙ back.0;
      }

  pub one_line : (text : List ℕ) (a b : PlanLine) → IsLine ranks text a → IsLine ranks text b → a ≡ b
  one_line text a b x y =
      let same : ◌≡◌ {A = Result PlanLine PlanKind} (Ok a) (Ok b) =
      sym ((is_read text a x).gives) ∙ (is_read text b y).gives in
      cc (same)

  -- what is read is the line of its text
  pub read_is : (text : List ℕ) (line : PlanLine) → line_of ranks (words_of text) ≡ Ok line → IsLine ranks text line
  read_is text line h =
      let t = line_taken ranks few (words_of text) line h in
      record {
        text_is = sym (line_is text) ∙ ap (join_with_byte 32) t.words_are;
        own = t.own;
        range = t.range;
      }

  -- ---- the rules of words

  abbrev word_kinds : List PlanKind
  word_kinds = kind.Rank ∷ kind.Command ∷ kind.Count ∷ kind.Number ∷ kind.Body ∷ []

  -- and those of what a line says
  abbrev table_kinds : List PlanKind
  table_kinds = kind.Taken ∷ kind.Parts ∷ kind.Order ∷ kind.Size ∷ []

  -- the rules of the words behind a rank, where the name is known
  arguments_break : (before : List PlanLine) (text first name : List ℕ) (k : PlanKeyword)
      (ws : List (List ℕ)) (e : PlanKind) → name ≡ keyword_text k
      → IsFirstOf (Kept ranks few k ws) (kind.Count ∷ kind.Number ∷ kind.Body ∷ []) e
      → IsFirstOf (KeepsRule ranks before text (first ∷ name ∷ ws)) (kind.Count ∷ kind.Number ∷ kind.Body
      ∷ table_kinds) e
  arguments_break before text first name k ws e word faulty =
      let every : (P : PlanKeyword → Type 0) → P k → (j : PlanKeyword) → name ≡ keyword_text j →
      P j = λ P holds j named.
      subst P (one_keyword k j (sym word ∙ named)) holds in
      elim faulty [
        | inl f ↦ inl (f.0, λ all. f.1 (all k word))
        | inr c ↦ elim c.1 [
          | inl f ↦ inr (
            every (λ j. length ws ≡ length (arguments j)) c.0,
            inl (f.0, λ all. f.1 (all k word)),
          )
          | inr n ↦ elim n.1 [
            | inl f ↦ inr (
              every (λ j. length ws ≡ length (arguments j)) c.0,
              inr (
                every (λ j. Each (IsNumberThere ranks) (arguments j) ws) n.0,
                inl (f.0, λ all. f.1 (all k word)),
              ),
            )
            | inr b ↦ absurd b.1
          ]
        ]
      ]

  rank_refused : (first : List ℕ) (ws : List (List ℕ)) (e : PlanKind)
      → or_kind (rank_of ranks first) kind.Rank ≡ Err e → (e ≡ kind.Rank) × ¬ (HasRank ranks (first ∷ ws))
  rank_refused first ws e h = (
    or_err (rank_of ranks first) kind.Rank e h,
    λ is.
        let same : rank_of ranks first ≡ Ok is.0 = ap (rank_of ranks) is.2 ∙ rank_again ranks is.0 few is.1 in
        let both : or_kind (rank_of ranks first) kind.Rank ≡ Ok is.0 = ap (λ r. or_kind r kind.Rank) same in
        cc (both, h),
  )

  -- the first rule that the words of a line break, behind those of its bytes and its place
  pub words_fault : (before : List PlanLine) (text : List ℕ) (ws : List (List ℕ)) (e : PlanKind)
      → line_of ranks ws ≡ Err e
      → IsFirstOf (KeepsRule ranks before text ws) (kind.Rank ∷ kind.Command ∷ kind.Count ∷ kind.Number
      ∷ kind.Body ∷ table_kinds) e
  unfolding line_of command_of
  words_fault before text [] e h = inl (cc, λ never. never)
  words_fault before text (first ∷ []) e h =
      elim (bind_err (or_kind (rank_of ranks first) kind.Rank) _ e h) [
        | inl f ↦ inl (rank_refused first [] e f)
        | inr r ↦
            let w = rank_taken ranks r.0 first (omega arith) (or_ok (rank_of ranks first) kind.Rank r.0 r.1) in
            inr ((r.0, w.1, w.0), inl (cc (r.2), λ never. never.1))
      ]
  words_fault before text (first ∷ name ∷ ws) e h =
      elim (bind_err (or_kind (rank_of ranks first) kind.Rank) _ e h) [
        | inl f ↦ inl (rank_refused first (name ∷ ws) e f)
        | inr r ↦
            let w = rank_taken ranks r.0 first (omega arith) (or_ok (rank_of ranks first) kind.Rank r.0 r.1) in
            inr (
              (r.0, w.1, w.0),
              elim (bind_err (command_of ranks name ws) _ e r.2) [
                | inl f ↦ elim (bind_err (ok_or (keyword_of name) kind.Command) _ e f) [
                  | inl g ↦
                      let n = err_none (keyword_of name) kind.Command e g in
                      inl (
                        n.1,
                        λ is.
                            let same : keyword_of name ≡ Some is.0 = ap keyword_of is.1 ∙ keyword_again is.0 in
                            cc (same, n.0),
                      )
                  | inr k ↦
                      let word = keyword_taken name k.0 (ok_some (keyword_of name) kind.Command k.0 k.1) in
                      inr (
                        (k.0, word),
                        arguments_break before text first name k.0 ws e word
                            (arguments_fault ranks few k.0 ws e k.2),
                      )
                ]
                | inr f ↦ cc (f.2)
              ],
            )
      ]

  -- the words of a command's line keep the rules of words
  words_kept : (before : List PlanLine) (text : List ℕ) (line : PlanLine) → IsLine ranks text line
      → AllKept (KeepsRule ranks before text (line_words line)) word_kinds
  words_kept before text line is =
      let k = keyword_in line.command in
      let vs = values line.command in
      let every : (P : PlanKeyword → Type 0) → P k → (j : PlanKeyword) → keyword_text k ≡ keyword_text j →
      P j = λ P holds j named.
      subst P (one_keyword k j named) holds in
      let ws = map value_word vs in
      let count : length ws ≡ length (arguments k) = length-map vs value_word
      ∙ each_counts ranks (arguments k) vs is.range in (
        (line.rank, is.own, refl),
        (
          (k, refl),
          (
            every (λ j. length ws ≡ length (arguments j)) count,
            (
              every (λ j. Each (IsNumberThere ranks) (arguments j) ws)
                  (each_number ranks few (arguments k) vs is.range),
              (
                every (λ j. Each (IsBodyThere ranks) (arguments j) ws) (each_body ranks few (arguments k) vs is.range),
                tt,
              ),
            ),
          ),
        ),
      )

  line_words_kept : (before : List PlanLine) (text : List ℕ) (line : PlanLine) → IsLine ranks text line
      → AllKept (KeepsRule ranks before text (words_of text)) word_kinds
  line_words_kept before text line is =
      let back = line_again ranks few line is.own is.range in
      let first = decimal line.rank ++ codes ":" in
      let split : words_of text ≡ line_words line =
      ap words_of is.text_is ∙ words_again first (words line.command) back.1 in
      subst (λ ws. AllKept (KeepsRule ranks before text ws) word_kinds) (sym split) (words_kept before text line is)

  -- ---- the table

  -- what is so of the line of a text is so of each
  of_each : (text : List ℕ) (line : PlanLine) → IsLine ranks text line → (P : PlanLine → Type 0) → P line
      → (l : PlanLine) → IsLine ranks text l → P l
  of_each text line is P holds l also = subst P (one_line text line l is also) holds

  table_none : (a b c d : Bool)
      → cond a (Some kind.Taken) (cond b (Some kind.Parts) (cond c (Some kind.Order) (cond d (Some kind.Size) None)))
      ≡ None → (a ≡ false) × (b ≡ false) × (c ≡ false) × (d ≡ false)
  table_none true b c d h = cc (h)
  table_none false true c d h = cc (h)
  table_none false false true d h = cc (h)
  table_none false false false true h = cc (h)
  table_none false false false false h = (refl, refl, refl, refl)

  table_kept : (before : List PlanLine) (text : List ℕ) (ws : List (List ℕ)) (line : PlanLine)
      → IsLine ranks text line → fault_in ranks before line ≡ None
      → AllKept (KeepsRule ranks before text ws) table_kinds
  table_kept before text ws line is h =
      let p = table_none (is_taken before line) (has_other_parts before line) (is_out_of_order before line)
      (is_past ranks before line) h in (
        of_each text line is (λ l. is_taken before l ≡ false) p.0,
        (
          of_each text line is (λ l. has_other_parts before l ≡ false) p.1,
          (
            of_each text line is (λ l. is_out_of_order before l ≡ false) p.2,
            (of_each text line is (λ l. is_past ranks before l ≡ false) p.3, tt),
          ),
        ),
      )

  table_fault : (before : List PlanLine) (text : List ℕ) (ws : List (List ℕ)) (line : PlanLine) (e : PlanKind)
      → IsLine ranks text line → fault_in ranks before line ≡ Some e
      → IsFirstOf (KeepsRule ranks before text ws) table_kinds e
  table_fault before text ws line e is h =
      elim (chosen (is_taken before line) (Some kind.Taken) _ (Some e) h) [
        | inl p ↦ inl (cc (p.1), λ all. cc (all line is, p.0))
        | inr p ↦ inr (
          of_each text line is (λ l. is_taken before l ≡ false) p.0,
          elim (chosen (has_other_parts before line) (Some kind.Parts) _ (Some e) p.1) [
            | inl q ↦ inl (cc (q.1), λ all. cc (all line is, q.0))
            | inr q ↦ inr (
              of_each text line is (λ l. has_other_parts before l ≡ false) q.0,
              elim (chosen (is_out_of_order before line) (Some kind.Order) _ (Some e) q.1) [
                | inl r ↦ inl (cc (r.1), λ all. cc (all line is, r.0))
                | inr r ↦ inr (
                  of_each text line is (λ l. is_out_of_order before l ≡ false) r.0,
                  elim (chosen (is_past ranks before line) (Some kind.Size) None (Some e) r.1) [
                    | inl t ↦ inl (cc (t.1), λ all. cc (all line is, t.0))
                    | inr t ↦ cc (t.1)
                  ],
                )
              ],
            )
          ],
        )
      ]

  -- ---- a line at its place

  pub line_kept : (before : List PlanLine) (text : List ℕ) (line : PlanLine) → IsLine ranks text line
      → length before + 2 ≤ MAX_LINES → fault_in ranks before line ≡ None
      → AllKept (KeepsRule ranks before text (words_of text)) line_kinds
  line_kept before text line is in_lines sound =
      let w = line_words_kept before text line is in (
        (is_read text line is).printable,
        (
          in_lines,
          (
            w.0,
            (
              w.1.0,
              (
                w.1.1.0,
                (
                  w.1.1.1.0,
                  (
                    w.1.1.1.1.0,
                    table_kept before text (words_of text) line is sound,
                  ),
                ),
              ),
            ),
          ),
        ),
      )

  unless_some : (o : Option PlanKind) (line : PlanLine) (e : PlanKind) → unless o line ≡ Err e → o ≡ Some e
  unless_some None line e h = cc (h)
  unless_some (Some f) line e h = let is : f ≡ e = cc (h) in ap Some is

  unless_none : (o : Option PlanKind) (line other : PlanLine) → unless o line ≡ Ok other
      → (o ≡ None) × (line ≡ other)
  unless_none None line other h = (refl, cc (h))
  unless_none (Some f) line other h = cc (h)

  read_fault : (before : List PlanLine) (text : List ℕ) (line : PlanLine) (e : PlanKind)
      → line_of ranks (words_of text) ≡ Ok line → fault_in ranks before line ≡ Some e
      → IsFirstOf (KeepsRule ranks before text (words_of text)) (kind.Rank ∷ kind.Command ∷ kind.Count ∷ kind.Number
      ∷ kind.Body ∷ table_kinds) e
  read_fault before text line e read f =
      let is = read_is text line read in
      let w = line_words_kept before text line is in
      inr (
        w.0,
        inr (
          w.1.0,
          inr (
            w.1.1.0,
            inr (
              w.1.1.1.0,
              inr (
                w.1.1.1.1.0,
                table_fault before text (words_of text) line e is f,
              ),
            ),
          ),
        ),
      )

  pub line_fault : (before : List PlanLine) (text : List ℕ) (e : PlanKind) → line_at ranks before text ≡ Err e
      → IsFirstOf (KeepsRule ranks before text (words_of text)) line_kinds e
  unfolding line_at
  line_fault before text e h =
      let number = length before + 2 in
      elim (chosen (is_printable text) (cond (nat_lt MAX_LINES number) (Err kind.Lines)
      (line_of ranks (words_of text) >>= λ line. unless (fault_in ranks before line) line))
      (Err kind.NotAscii) (Err e) h) [
        | inl p ↦ inr (
          p.0,
          elim (chosen (nat_lt MAX_LINES number) (Err kind.Lines)
              (line_of ranks (words_of text) >>= λ line. unless (fault_in ranks before line) line) (Err e) p.1) [
                | inl q ↦
                    let past = ltb-true MAX_LINES number q.0 in
                    inl (cc (q.1), λ inside. omega (arith, past, inside))
                | inr q ↦ inr (
                  ltb-false MAX_LINES number q.0,
                  elim (bind_err (line_of ranks (words_of text)) _ e q.1) [
                    | inl f ↦ words_fault before text (words_of text) e f
                    | inr f ↦
                        read_fault before text f.0 e f.1 (unless_some (fault_in ranks before f.0) f.0 e f.2)
                  ],
                )
              ],
        )
        | inr p ↦ inl (cc (p.1), λ yes. cc (p.0, yes))
      ]

  -- a line that is read at its place
  pub record IsLineAt (before : List PlanLine) (text : List ℕ) (line : PlanLine) : Type 0 where
    pub is : IsLine ranks text line
    pub in_lines : length before + 2 ≤ MAX_LINES
    pub sound : fault_in ranks before line ≡ None

  pub line_at_taken : (before : List PlanLine) (text : List ℕ) (line : PlanLine)
      → line_at ranks before text ≡ Ok line → IsLineAt before text line
  unfolding line_at
  line_at_taken before text line h =
      let p = guard_ok (is_printable text) _ kind.NotAscii line h in
      let q = unless_ok (nat_lt MAX_LINES (length before + 2))
      (line_of ranks (words_of text) >>= λ line. unless (fault_in ranks before line) line) kind.Lines line p.1 in
      let r = bind_ok (line_of ranks (words_of text)) _ line q.1 in
      let s = unless_none (fault_in ranks before r.0) r.0 line r.2 in
      let made : IsLineAt before text r.0 = record {
        is = read_is text r.0 r.1;
        in_lines = ltb-false MAX_LINES (length before + 2) q.0;
        sound = s.0;
      } in
      rw s.1 at made

  pub line_at_again : (before : List PlanLine) (text : List ℕ) (line : PlanLine) → IsLineAt before text line
      → line_at ranks before text ≡ Ok line
  unfolding line_at
  line_at_again before text line here =
      let read = is_read text line here.is in
      rw (read.printable, le-ltb MAX_LINES (length before + 2) here.in_lines)
      (rw read.gives (rw here.sound refl))
