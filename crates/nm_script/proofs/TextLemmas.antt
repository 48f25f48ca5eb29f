-- Whole texts, whatever their grammar: what is spelled is read, what is read is spelled so, and first faults.
use Rattle.std.proofs.Common.{◌≡◌, ℕ, ◌+◌, ◌<◌, ◌≤◌, inl, inr, true, false, List, [], ◌∷◌, ◌++◌, length, map}
use Rattle.std.proofs.Common.{nat_lt, Result, Ok, Err, refl, sym, ap, ◌∙◌, arith, codes, decimal, subst, IfOk, IfErr}
use Rattle.std.proofs.Common.{length-append, append_assoc}
use Rattle.std.specs.List.{list_all}
use Rattle.std.proofs.lemmas.Bool.{and_from, ltb-true, ltb-false, lt-ltb, le-ltb}
use Rattle.std.proofs.lemmas.List.{append-nil}
use Rattle.nm_types.specs.declared.limits.TheConstants.{MAX_RANKS, MAX_LINES, MAX_TEXT}
use Rattle.nm_script.specs.declared.faults.TextFault.{TextFault}
use Rattle.nm_script.specs.declared.faults.TextFault.TheVariants as fault
use Rattle.nm_script.specs.Faults.{Fails, GivesAt, at_line}
use Rattle.nm_script.specs.Lines.{ended_lines, is_printable, lines_of, text_len}
use Rattle.nm_script.specs.TextReading.{AnswersText, IsRefused, Reader, lines_from, read_in, text_at}
use Rattle.nm_script.specs.TextRules.{AllKept, Grammar, IsFaultBehind, IsFaultIn, IsFaultOf, IsFirstFaultIn}
use Rattle.nm_script.specs.TextRules.{IsFirstOf, IsTextIn, first_of, ranks_text, text_with}
use Rattle.nm_script.proofs.FirstLineLemmas.{none_first, one_first, ranks_solid}
use Rattle.nm_script.proofs.LineLemmas.{is_some_line, joined_either, lines_fed, lines_split, some_joined}
use Rattle.nm_script.proofs.LineLemmas.{text_len-lines}
use Rattle.nm_script.proofs.StepLemmas.{at_line_err, at_line_ok, bind_err, only_first, unless_ok}
use Rattle.nm_script.proofs.WordLemmas.{joined_printable}
use Rattle.nm_script.proofs.WordsStepLemmas.{bind_ok, chosen}

-- ---- what is shown of one line

-- a line that was read behind these
pub record IsTaken {X K : Type 0} (g : Grammar X K) (ranks : ℕ) (before : List X) (text : List ℕ) (line : X)
    : Type 0 where
  pub text_is : text ≡ g.text_of line
  pub in_lines : length before + 2 ≤ MAX_LINES
  pub sound : g.AreSound ranks (before ++ line ∷ [])

-- the reader reads lines by these rules
pub record ReadsBy {X K : Type 0} (g : Grammar X K) (r : Reader X K) : Type 0 where
  pub begins : (ranks : ℕ) → g.AreSound ranks []
  pub front : (ranks : ℕ) (before after : List X) → g.AreSound ranks (before ++ after) → g.AreSound ranks before
  pub printable : (ranks : ℕ) (before : List X) (line : X) → ranks ≤ MAX_RANKS →
      g.AreSound ranks (before ++ line ∷ []) → is_printable (g.text_of line) ≡ true
  pub some : (line : X) → is_some_line (g.text_of line) ≡ true
  pub again : (ranks : ℕ) (before : List X) (line : X) → ranks ≤ MAX_RANKS → length before + 2 ≤ MAX_LINES →
      g.AreSound ranks (before ++ line ∷ []) → r.line_at ranks before (g.text_of line) ≡ Ok line
  pub taken : (ranks : ℕ) (before : List X) (text : List ℕ) (line : X) → ranks ≤ MAX_RANKS →
      g.AreSound ranks before → r.line_at ranks before text ≡ Ok line → IsTaken g ranks before text line
  pub kept : (ranks : ℕ) (before : List X) (text : List ℕ) (line : X) → ranks ≤ MAX_RANKS →
      r.line_at ranks before text ≡ Ok line → AllKept (g.KeepsRule ranks before text) g.line_kinds
  pub refused : (ranks : ℕ) (before : List X) (text : List ℕ) (e : K) → ranks ≤ MAX_RANKS →
      r.line_at ranks before text ≡ Err e → IsFirstOf (g.KeepsRule ranks before text) g.line_kinds e
  pub first_taken : (text : List ℕ) (n : ℕ) → r.first_at text ≡ Ok n →
      (text ≡ ranks_text n) × (0 < n) × (n ≤ MAX_RANKS)
  pub first_again : (n : ℕ) → 0 < n → n ≤ MAX_RANKS → r.first_at (ranks_text n) ≡ Ok n
  pub first_kept : (text : List ℕ) (n : ℕ) → (text ≡ ranks_text n) × (0 < n) × (n ≤ MAX_RANKS) →
      AllKept (g.FirstKeeps text) g.first_kinds
  pub first_refused : (text : List ℕ) (e : K) → r.first_at text ≡ Err e →
      IsFirstOf (g.FirstKeeps text) g.first_kinds e
  pub no_first : IsFirstOf (g.FirstKeeps []) g.first_kinds r.no_first
  pub too_long : g.too_long ≡ r.too_long

module _ {X K : Type 0} (g : Grammar X K) (r : Reader X K) (by : ReadsBy g r) where
  -- lines behind lines, which may stand together and are few enough
  record Follow (ranks : ℕ) (before lines : List X) : Type 0 where
    sound : g.AreSound ranks (before ++ lines)
    in_lines : length before + length lines < MAX_LINES

  regrouped : (before lines : List X) (line : X) → (before ++ line ∷ []) ++ lines ≡ before ++ line ∷ lines
  regrouped before lines line = append_assoc before (line ∷ []) lines

  none_follow : (ranks : ℕ) (before : List X) → g.AreSound ranks before → length before < MAX_LINES →
      Follow ranks before []
  none_follow ranks before sound few = record {
    sound = subst (g.AreSound ranks) (sym (append-nil before)) sound;
    in_lines = omega (arith, few);
  }

  one_more : (ranks : ℕ) (before lines : List X) (line : X) → Follow ranks (before ++ line ∷ []) lines →
      Follow ranks before (line ∷ lines)
  one_more ranks before lines line rest = record {
    sound = subst (g.AreSound ranks) (regrouped before lines line) rest.sound;
    in_lines = omega (arith, rest.in_lines, length-append before (line ∷ []));
  }

  one_less : (ranks : ℕ) (before lines : List X) (line : X) → Follow ranks before (line ∷ lines) →
      Follow ranks (before ++ line ∷ []) lines
  one_less ranks before lines line h = record {
    sound = subst (g.AreSound ranks) (sym (regrouped before lines line)) h.sound;
    in_lines = omega (arith, h.in_lines, length-append before (line ∷ []));
  }

  with_one : (ranks : ℕ) (before lines : List X) (line : X) → Follow ranks before (line ∷ lines) →
      g.AreSound ranks (before ++ line ∷ [])
  with_one ranks before lines line h =
      by.front ranks (before ++ line ∷ []) lines (one_less ranks before lines line h).sound

  read_here : (ranks : ℕ) (before lines : List X) (line : X) → ranks ≤ MAX_RANKS →
      Follow ranks before (line ∷ lines) → r.line_at ranks before (g.text_of line) ≡ Ok line
  read_here ranks before lines line few h =
      by.again ranks before line few (omega (arith, h.in_lines)) (with_one ranks before lines line h)

  -- lines that follow are read
  lines_again : (ranks : ℕ) (before lines : List X) → ranks ≤ MAX_RANKS → Follow ranks before lines →
      lines_from r ranks before (map g.text_of lines) ≡ Ok (before ++ lines)
  lines_again ranks before [] few h = ap Ok (sym (append-nil before))
  lines_again ranks before (line ∷ lines) few h =
      rw (read_here ranks before lines line few h)
      (lines_again ranks (before ++ line ∷ []) lines few (one_less ranks before lines line h)
      ∙ ap Ok (regrouped before lines line))

  -- and what is read follows
  record AreLines (ranks : ℕ) (before : List X) (texts : List (List ℕ)) (all : List X) : Type 0 where
    lines : List X
    texts_are : texts ≡ map g.text_of lines
    all_are : all ≡ before ++ lines
    follow : Follow ranks before lines

  lines_taken : (ranks : ℕ) (before : List X) (texts : List (List ℕ)) (all : List X) → ranks ≤ MAX_RANKS →
      g.AreSound ranks before → length before < MAX_LINES → lines_from r ranks before texts ≡ Ok all →
      AreLines ranks before texts all
  lines_taken ranks before [] all few sound inside h =
      let is : before ≡ all = cc (h) in record {
        lines = [];
        texts_are = refl;
        all_are = sym is ∙ sym (append-nil before);
        follow = none_follow ranks before sound inside;
      }
  lines_taken ranks before (text ∷ texts) all few sound inside h =
      let p = bind_ok (at_line (length before + 2) (r.line_at ranks before text)) _ all h in
      let here = by.taken ranks before text p.0 few sound
      (at_line_ok (length before + 2) (r.line_at ranks before text) p.0 p.1) in
      let rest = lines_taken ranks (before ++ p.0 ∷ []) texts all few here.sound
      (omega (arith, here.in_lines, length-append before (p.0 ∷ []))) p.2 in
      record {
        lines = p.0 ∷ rest.lines;
        texts_are = ap (λ t. t ∷ texts) here.text_is ∙ ap (λ ts. g.text_of p.0 ∷ ts) rest.texts_are;
        all_are = rest.all_are ∙ regrouped before rest.lines p.0;
        follow = one_more ranks before rest.lines p.0 rest.follow;
      }

  -- lines that follow, and a line with a fault
  record IsFaultFrom (ranks : ℕ) (before : List X) (texts : List (List ℕ)) (number : ℕ) (e : K) : Type 0 where
    lines : List X
    text : List ℕ
    after : List (List ℕ)
    texts_are : texts ≡ map g.text_of lines ++ text ∷ after
    follow : Follow ranks before lines
    number_is : number ≡ length before + length lines + 2
    here : IsFirstOf (g.KeepsRule ranks (before ++ lines) text) g.line_kinds e

  lines_fault : (ranks : ℕ) (before : List X) (texts : List (List ℕ)) (number : ℕ) (e : K) → ranks ≤ MAX_RANKS →
      g.AreSound ranks before → length before < MAX_LINES → lines_from r ranks before texts ≡ Err (number, e) →
      IsFaultFrom ranks before texts number e
  lines_fault ranks before [] number e few sound inside h = cc (h)
  lines_fault ranks before (text ∷ texts) number e few sound inside h =
      elim (bind_err (at_line (length before + 2) (r.line_at ranks before text)) _ (number, e) h) [
        | inl f ↦
            let p = at_line_err (length before + 2) number (r.line_at ranks before text) e f in
            record {
              lines = [];
              text = text;
              after = texts;
              texts_are = refl;
              follow = none_follow ranks before sound inside;
              number_is = omega (arith, p.0);
              here = subst (λ bs. IsFirstOf (g.KeepsRule ranks bs text) g.line_kinds e) (sym (append-nil before))
                  (by.refused ranks before text e few p.1);
            }
        | inr p ↦
            let here = by.taken ranks before text p.0 few sound
            (at_line_ok (length before + 2) (r.line_at ranks before text) p.0 p.1) in
            let count = length-append before (p.0 ∷ []) in
            let rest = lines_fault ranks (before ++ p.0 ∷ []) texts number e few here.sound
            (omega (arith, here.in_lines, count)) p.2 in
            record {
              lines = p.0 ∷ rest.lines;
              text = rest.text;
              after = rest.after;
              texts_are = ap (λ t. t ∷ texts) here.text_is ∙ ap (λ ts. g.text_of p.0 ∷ ts) rest.texts_are;
              follow = one_more ranks before rest.lines p.0 rest.follow;
              number_is = omega (arith, rest.number_is, count);
              here = subst (λ bs. IsFirstOf (g.KeepsRule ranks bs rest.text) g.line_kinds e)
                  (regrouped before rest.lines p.0) rest.here;
            }
      ]

  line_refused : (ranks : ℕ) (before : List X) (text : List ℕ) (e : K) → ranks ≤ MAX_RANKS →
      IsFirstOf (g.KeepsRule ranks before text) g.line_kinds e → (o : Result X K) →
      r.line_at ranks before text ≡ o → o ≡ Err e
  line_refused ranks before text e few first (Ok line) h =
      absurd (none_first (g.KeepsRule ranks before text) g.line_kinds e (by.kept ranks before text line few h) first)
  line_refused ranks before text e few first (Err d) h =
      ap Err (one_first (g.KeepsRule ranks before text) g.line_kinds d e (by.refused ranks before text d few h) first)

  lines_refused : (ranks : ℕ) (before lines : List X) (text : List ℕ) (after : List (List ℕ)) (e : K) →
      ranks ≤ MAX_RANKS → Follow ranks before lines →
      IsFirstOf (g.KeepsRule ranks (before ++ lines) text) g.line_kinds e →
      lines_from r ranks before (map g.text_of lines ++ text ∷ after) ≡ Err (length before + length lines + 2, e)
  lines_refused ranks before [] text after e few h first =
      let n : length before + 2 ≡ length before + length {A = X} [] + 2 = omega arith in
      let here = line_refused ranks before text e few
      (subst (λ bs. IsFirstOf (g.KeepsRule ranks bs text) g.line_kinds e) (append-nil before) first)
      (r.line_at ranks before text) refl in
      rw here (ap (λ m. Err (m, e)) n)
  lines_refused ranks before (line ∷ lines) text after e few h first =
      let n : length (before ++ line ∷ []) + length lines + 2 ≡ length before + length (line ∷ lines) + 2 =
      omega (arith, length-append before (line ∷ [])) in
      rw (read_here ranks before lines line few h)
      (lines_refused ranks (before ++ line ∷ []) lines text after e few (one_less ranks before lines line h)
      (subst (λ bs. IsFirstOf (g.KeepsRule ranks bs text) g.line_kinds e) (sym (regrouped before lines line)) first)
      ∙ ap (λ m. Err (m, e)) n)

  -- ---- the lines of a text

  abbrev lines_with : ℕ → List X → List (List ℕ)
  lines_with ranks lines = ranks_text ranks ∷ map g.text_of lines

  all_some : (lines : List X) → list_all is_some_line (map g.text_of lines) ≡ true
  all_some [] = refl
  all_some (line ∷ lines) = and_from _ _ (by.some line) (all_some lines)

  all_printable : (ranks : ℕ) (before lines : List X) → ranks ≤ MAX_RANKS → Follow ranks before lines →
      list_all is_printable (map g.text_of lines) ≡ true
  all_printable ranks before [] few h = refl
  all_printable ranks before (line ∷ lines) few h =
      and_from _ _ (by.printable ranks before line few (with_one ranks before lines line h))
      (all_printable ranks (before ++ line ∷ []) lines few (one_less ranks before lines line h))

  long_text : (ranks : ℕ) (lines : List X) → 2 ≤ length (text_with g ranks lines)
  long_text ranks lines = omega arith

  -- the lines of the bytes are those of the text
  pub spelled_lines : (bytes : List ℕ) (ranks : ℕ) (lines : List X) → IsTextIn g bytes ranks lines →
      (0 < length bytes) × (lines_of bytes ≡ lines_with ranks lines)
  spelled_lines bytes ranks lines is =
      let follow : Follow ranks [] lines = record { sound = is.sound; in_lines = omega (arith, is.few_lines) } in
      let printable = and_from (is_printable (ranks_text ranks)) _
      (joined_printable (codes "ranks") (decimal ranks ∷ []) (ranks_solid ranks is.few_ranks))
      (all_printable ranks [] lines is.few_ranks follow) in
      let some = and_from (is_some_line (ranks_text ranks)) _
      (some_joined (codes "ranks") (decimal ranks ∷ []) (omega arith)) (all_some lines) in
      let long = long_text ranks lines in
      elim is.spelled [
        | inl e ↦ (
          omega (arith, ap length e, long),
          lines_split bytes (lines_with ranks lines) printable e,
        )
        | inr e ↦
            let some_byte : 0 < length bytes = omega (arith, ap length e, long, length-append bytes (10 ∷ [])) in
            (some_byte, lines_fed bytes (lines_with ranks lines) some_byte printable some e)
      ]

  -- a text is read as just what it is the text of
  pub text_again : (bytes : List ℕ) (ranks : ℕ) (lines : List X) → IsTextIn g bytes ranks lines →
      read_in r bytes ≡ Ok (ranks, lines)
  text_again bytes ranks lines is =
      let split = spelled_lines bytes ranks lines is in
      let len : text_len bytes ≡ length (text_with g ranks lines) = sym (text_len-lines bytes split.0)
      ∙ ap (λ ls. length (ended_lines ls)) split.1 in
      let others = lines_again ranks [] lines is.few_ranks
      (record { sound = is.sound; in_lines = omega (arith, is.few_lines) }) in
      rw (le-ltb MAX_TEXT (text_len bytes) (omega (arith, len, is.text_fits)))
      (ap (text_at r) split.1 ∙ rw (by.first_again ranks is.some_rank is.few_ranks) (rw others refl))

  some_bytes : (bytes : List ℕ) (p : ℕ × List X) → text_at r (lines_of bytes) ≡ Ok p → 0 < length bytes
  some_bytes [] p h = cc (h)
  some_bytes (b ∷ bytes) p h = omega arith

  -- the lines of a text, in its limits
  record AreTextLines (texts : List (List ℕ)) (ranks : ℕ) (lines : List X) : Type 0 where
    texts_are : texts ≡ lines_with ranks lines
    some_rank : 1 ≤ ranks
    few_ranks : ranks ≤ MAX_RANKS
    follow : Follow ranks [] lines

  lines_are : (texts : List (List ℕ)) (ranks : ℕ) (lines : List X) → text_at r texts ≡ Ok (ranks, lines) →
      AreTextLines texts ranks lines
  lines_are [] ranks lines h = cc (h)
  lines_are (first ∷ texts) ranks lines h =
      let p = bind_ok (at_line 1 (r.first_at first)) _ (ranks, lines) h in
      let q = bind_ok (lines_from r p.0 [] texts) _ (ranks, lines) p.2 in
      let pair : ◌≡◌ {A = ℕ × List X} (p.0, q.0) (ranks, lines) = cc (q.2) in
      let number : p.0 ≡ ranks = ap (λ (x : ℕ × List X). x.0) pair in
      let list : q.0 ≡ lines = ap (λ (x : ℕ × List X). x.1) pair in
      let t = by.first_taken first ranks (at_line_ok 1 (r.first_at first) p.0 p.1 ∙ ap Ok number) in
      let read : lines_from r ranks [] texts ≡ Ok lines = ap (λ x. lines_from r x [] texts) (sym number)
      ∙ q.1 ∙ ap Ok list in
      let all = lines_taken ranks [] texts lines t.2 (by.begins ranks) (omega arith) read in
      let same : all.lines ≡ lines = sym all.all_are in
      record {
        texts_are = ap (λ x. x ∷ texts) t.0 ∙ ap (λ x. ranks_text ranks ∷ x) all.texts_are
            ∙ ap (λ (ls : List X). lines_with ranks ls) same;
        some_rank = t.1;
        few_ranks = t.2;
        follow = subst (λ (ls : List X). Follow ranks [] ls) same all.follow;
      }

  -- what is read is a text
  pub text_taken : (bytes : List ℕ) (ranks : ℕ) (lines : List X) → read_in r bytes ≡ Ok (ranks, lines) →
      IsTextIn g bytes ranks lines
  text_taken bytes ranks lines h =
      let p = unless_ok (nat_lt MAX_TEXT (text_len bytes)) (text_at r (lines_of bytes)) (0, r.too_long)
      (ranks, lines) h in
      let some = some_bytes bytes (ranks, lines) p.1 in
      let t = lines_are (lines_of bytes) ranks lines p.1 in
      let text : ended_lines (lines_of bytes) ≡ text_with g ranks lines = ap ended_lines t.texts_are in
      let len : length (text_with g ranks lines) ≡ text_len bytes = ap length (sym text) ∙
      text_len-lines bytes some in
      record {
        spelled = elim (joined_either bytes some) [ inl e ↦ inl (e ∙ text) | inr e ↦ inr (e ∙ text) ];
        some_rank = t.some_rank;
        few_ranks = t.few_ranks;
        few_lines = omega (arith, t.follow.in_lines);
        sound = t.follow.sound;
        text_fits = omega (arith, len, ltb-false MAX_TEXT (text_len bytes) p.0);
      }

  -- the parts of a text, put together
  pub text_of_parts : (bytes line : List ℕ) (texts : List (List ℕ)) (ranks : ℕ) (lines : List X) →
      nat_lt MAX_TEXT (text_len bytes) ≡ false → lines_of bytes ≡ line ∷ texts →
      at_line 1 (r.first_at line) ≡ Ok ranks → lines_from r ranks [] texts ≡ Ok lines →
      read_in r bytes ≡ Ok (ranks, lines)
  text_of_parts bytes line texts ranks lines short split first others = rw short
      (ap (text_at r) split ∙ rw first (rw others refl))

  -- ---- first faults

  fault_of : (texts : List (List ℕ)) (number : ℕ) (e : K) → text_at r texts ≡ Err (number, e) →
      IsFaultOf g texts number e
  fault_of [] number e h =
      let is : ◌≡◌ {A = ℕ × K} (1, r.no_first) (number, e) = cc (h) in
      inl (
        sym (ap (λ (x : ℕ × K). x.0) is),
        subst (IsFirstOf (g.FirstKeeps []) g.first_kinds) (ap (λ (x : ℕ × K). x.1) is) by.no_first,
      )
  fault_of (line ∷ texts) number e h =
      elim (bind_err (at_line 1 (r.first_at line)) _ (number, e) h) [
        | inl f ↦ let p = at_line_err 1 number (r.first_at line) e f in inl (p.0, by.first_refused line e p.1)
        | inr p ↦
            let first = by.first_taken line p.0 (at_line_ok 1 (r.first_at line) p.0 p.1) in
            let rest = lines_fault p.0 [] texts number e first.2 (by.begins p.0) (omega arith)
            (only_first (lines_from r p.0 [] texts) (λ lines. (p.0, lines)) (number, e) p.2) in
            inr (record {
              ranks = p.0;
              some_rank = first.1;
              few_ranks = first.2;
              before = rest.lines;
              text = rest.text;
              after = rest.after;
              texts_are = ap (λ x. x ∷ texts) first.0 ∙ ap (λ xs. ranks_text p.0 ∷ xs) rest.texts_are;
              sound = rest.follow.sound;
              few_lines = omega (arith, rest.follow.in_lines);
              number_is = omega (arith, rest.number_is);
              here = rest.here;
            })
      ]

  pub text_fault : (bytes : List ℕ) (number : ℕ) (e : K) → read_in r bytes ≡ Err (number, e) →
      IsFirstFaultIn g bytes number e
  text_fault bytes number e h =
      elim (chosen (nat_lt MAX_TEXT (text_len bytes)) (Err (0, r.too_long)) (text_at r (lines_of bytes))
      (Err (number, e)) h) [
        | inl p ↦
            let is : ◌≡◌ {A = ℕ × K} (0, r.too_long) (number, e) = cc (p.1) in
            inl (
              sym (ap (λ (x : ℕ × K). x.0) is),
              sym (ap (λ (x : ℕ × K). x.1) is) ∙ sym by.too_long,
              ltb-true MAX_TEXT (text_len bytes) p.0,
            )
        | inr p ↦ inr (
          ltb-false MAX_TEXT (text_len bytes) p.0,
          fault_of (lines_of bytes) number e p.1,
        )
      ]

  first_here : (text : List ℕ) (e : K) → IsFirstOf (g.FirstKeeps text) g.first_kinds e → (o : Result ℕ K) →
      r.first_at text ≡ o → o ≡ Err e
  first_here text e first (Ok n) h =
      absurd (none_first (g.FirstKeeps text) g.first_kinds e (by.first_kept text n (by.first_taken text n h)) first)
  first_here text e first (Err d) h =
      ap Err (one_first (g.FirstKeeps text) g.first_kinds d e (by.first_refused text d h) first)

  first_again : (texts : List (List ℕ)) (e : K) → IsFirstOf (g.FirstKeeps (first_of texts)) g.first_kinds e →
      text_at r texts ≡ Err (1, e)
  first_again [] e first =
      let is : r.no_first ≡ e = one_first (g.FirstKeeps []) g.first_kinds r.no_first e by.no_first first in
      ap (λ k. Err (1, k)) is
  first_again (line ∷ texts) e first = rw (first_here line e first (r.first_at line) refl) refl

  later_again : (texts : List (List ℕ)) (number : ℕ) (e : K) → IsFaultBehind g texts number e →
      text_at r texts ≡ Err (number, e)
  later_again texts number e f =
      let follow : Follow f.ranks [] f.before = record { sound = f.sound; in_lines = omega (arith, f.few_lines) } in
      let n : 0 + length f.before + 2 ≡ number = omega (arith, f.number_is) in
      let rest = lines_refused f.ranks [] f.before f.text f.after e f.few_ranks follow f.here in
      ap (text_at r) f.texts_are ∙ rw (by.first_again f.ranks f.some_rank f.few_ranks)
      (rw rest (ap (λ m. Err (m, e)) n))

  pub fault_again : (bytes : List ℕ) (number : ℕ) (e : K) → IsFirstFaultIn g bytes number e →
      read_in r bytes ≡ Err (number, e)
  fault_again bytes number e first =
      elim first [
        | inl f ↦ rw (lt-ltb MAX_TEXT (text_len bytes) f.2) (cc (f.0, f.1, by.too_long))
        | inr f ↦ rw (le-ltb MAX_TEXT (text_len bytes) f.0) (elim f.1 [
          | inl h ↦ first_again (lines_of bytes) e h.1 ∙ ap (λ m. Err (m, e)) (sym h.0)
          | inr h ↦ later_again (lines_of bytes) number e h
        ])
      ]

  -- ---- what reading promises, from what it gives

  module _ {V : Type 0} (view : V → ℕ × List X) (bytes : List ℕ) (o : Result V (TextFault K))
      (gives : GivesAt view o (read_in r bytes)) where
    pub taken_from : IfOk o (λ v. IsTextIn g bytes (view v).0 (view v).1)
    taken_from = of_answer o gives where
      of_answer : (o : Result V (TextFault K)) → GivesAt view o (read_in r bytes) →
          IfOk o (λ v. IsTextIn g bytes (view v).0 (view v).1)
      of_answer (Ok v) gives = text_taken bytes (view v).0 (view v).1 gives
      of_answer (Err e) gives = tt

    pub takes_from : (ranks : ℕ) (lines : List X) → IsTextIn g bytes ranks lines → AnswersText view o ranks lines
    takes_from ranks lines is = of_answer o gives where
      of_answer : (o : Result V (TextFault K)) → GivesAt view o (read_in r bytes) → AnswersText view o ranks lines
      of_answer (Ok v) gives =
          let pair : ◌≡◌ {A = ℕ × List X} (view v) (ranks, lines) = cc (text_again bytes ranks lines is, gives) in
          (ap (λ (x : ℕ × List X). x.0) pair, ap (λ (x : ℕ × List X). x.1) pair)
      of_answer (Err fault.Memory) gives = tt
      of_answer (Err (fault.Bad k e)) gives = cc (text_again bytes ranks lines is, gives)

    pub fault_from : IfErr o (IsFaultIn g bytes)
    fault_from = of_answer o gives where
      of_answer : (o : Result V (TextFault K)) → GivesAt view o (read_in r bytes) → IfErr o (IsFaultIn g bytes)
      of_answer (Ok v) gives = tt
      of_answer (Err fault.Memory) gives = tt
      of_answer (Err (fault.Bad number e)) gives = text_fault bytes number e gives

    pub faults_from : (number : ℕ) (e : K) → IsFirstFaultIn g bytes number e → IsRefused o number e
    faults_from number e first = of_answer o gives where
      of_answer : (o : Result V (TextFault K)) → GivesAt view o (read_in r bytes) → IsRefused o number e
      of_answer (Ok v) gives = cc (fault_again bytes number e first, gives)
      of_answer (Err fault.Memory) gives = tt
      of_answer (Err (fault.Bad n d)) gives =
          let is : ◌≡◌ {A = ℕ × K} (n, d) (number, e) = cc (fault_again bytes number e first, gives) in
          (ap (λ (x : ℕ × K). x.0) is, ap (λ (x : ℕ × K). x.1) is)

-- ---- as a loop reads

pub goes_on : {X K : Type 0} (r : Reader X K) (ranks : ℕ) (before : List X) (text : List ℕ) (texts : List (List ℕ))
    (line : X) (total : Result (List X) (ℕ × K)) → lines_from r ranks before (text ∷ texts) ≡ total →
    at_line (length before + 2) (r.line_at ranks before text) ≡ Ok line →
    lines_from r ranks (before ++ line ∷ []) texts ≡ total
goes_on r ranks before text texts line total so_far h =
    let one : lines_from r ranks before (text ∷ texts) ≡ lines_from r ranks (before ++ line ∷ []) texts = rw h refl in
    sym one ∙ so_far

pub ends : {X K : Type 0} (r : Reader X K) (ranks : ℕ) (before : List X) (text : List ℕ) (texts : List (List ℕ))
    (f : TextFault K) (total : Result (List X) (ℕ × K)) → lines_from r ranks before (text ∷ texts) ≡ total →
    Fails f (at_line (length before + 2) (r.line_at ranks before text)) → Fails f total
ends r ranks before text texts fault.Memory total so_far h = tt
ends r ranks before text texts (fault.Bad n e) total so_far h =
    let one : lines_from r ranks before (text ∷ texts) ≡ Err (n, e) = rw h refl in sym so_far ∙ one
