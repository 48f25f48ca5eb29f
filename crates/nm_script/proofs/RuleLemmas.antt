-- The rules of lines: which a command's line keeps, and which a line breaks that is refused.
use Rattle.std.proofs.Common.{◌≡◌, ℕ, ◌+◌, ◌≤◌, ◌<◌, inl, inr, true, false, ◌&&◌}
use Rattle.std.proofs.Common.{List, [], ◌∷◌, ◌++◌, length, Result, Ok, Err, nat_le, nat_lt}
use Rattle.std.proofs.Common.{refl, sym, ap, ◌∙◌, arith, codes, decimal, subst, cond}
use Rattle.std.specs.List.{join_with_byte}
use Rattle.std.proofs.lemmas.Bool.{leb-true, ltb-true, ltb-false}
use Rattle.nm_types.specs.declared.limits.TheConstants.{MAX_RANKS, MAX_NAME, MAX_TAG, MAX_CONTEXT}
use Rattle.nm_types.specs.declared.limits.TheConstants.{MAX_CAPACITY, MAX_BODY, MAX_LINES, MAX_BODIES}
use Rattle.nm_types.specs.declared.messages.Peer.{Peer}
use Rattle.nm_types.specs.declared.messages.TagPick.{TagPick}
use Rattle.nm_types.specs.declared.scripts.Command.{Command}
use Rattle.nm_types.specs.declared.scripts.Command.TheVariants.{Send, Recv, Wait, Test, Probe}
use Rattle.nm_types.specs.declared.scripts.Command.TheVariants.{Await, Cancel, Mprobe, Mrecv}
use Rattle.nm_types.specs.declared.scripts.Line.{Line}
use Rattle.nm_types.specs.Bodies.{body_len}
use Rattle.nm_types.specs.Limits.{is_peer, is_pick, is_in_range, sent_len}
use Rattle.nm_types.specs.Text.{words}
use Rattle.nm_script.specs.declared.faults.Kind.{Kind}
use Rattle.nm_script.specs.declared.faults.Kind.TheVariants as kind
use Rattle.nm_script.specs.declared.keywords.Keyword.{Keyword}
use Rattle.nm_script.specs.Arguments.{arguments, Each, IsBodyThere, IsSpelled, IsUpTo}
use Rattle.nm_script.specs.Commands.{line_of}
use Rattle.nm_script.specs.Faults.{◌>>=◌}
use Rattle.nm_script.specs.Keywords.{keyword_text}
use Rattle.nm_script.specs.Lines.{is_printable, words_of}
use Rattle.nm_script.specs.Reading.{fitting, line_at}
use Rattle.nm_script.specs.Rules.{IsLine, KeepsRule, line_kinds}
use Rattle.nm_script.specs.TextRules.{AllKept, IsFirstOf}
use Rattle.nm_script.specs.Spelled.{has_bytes}
use Rattle.nm_script.proofs.CommandLemmas.{Fits, arguments_in, keyword_in, line_again, line_words}
use Rattle.nm_script.proofs.CommandTakenLemmas.{line_taken}
use Rattle.nm_script.proofs.CommandLemmas.{words_are}
use Rattle.nm_script.proofs.FaultLemmas.{one_keyword, words_fault}
use Rattle.nm_script.proofs.FirstLineLemmas.{none_first}
use Rattle.nm_script.proofs.LineAtLemmas.{line_at_taken}
use Rattle.nm_script.proofs.StepLemmas.{bind_err, four_parts, five_parts}
use Rattle.nm_script.proofs.WordsStepLemmas.{chosen}
use Rattle.nm_script.proofs.WordLemmas.{line_is, joined_printable, words_again}
use Rattle.nm_types.proofs.TruthLemmas.{three_parts}

-- ---- a command's words

up_to : (most n : ℕ) → nat_le n most ≡ true → IsUpTo most (decimal n)
up_to most n h = (n, leb-true n most h, refl)

as_many : (c : Command) → length (arguments_in c) ≡ length (arguments (keyword_in c))
as_many (Send to q tag ctx true body) = refl
as_many (Send to q tag ctx false body) = refl
as_many (Recv q from tag ctx cap) = refl
as_many (Wait q) = refl
as_many (Test q) = refl
as_many (Probe from tag ctx) = refl
as_many (Await from tag ctx) = refl
as_many (Cancel q) = refl
as_many (Mprobe m from tag ctx) = refl
as_many (Mrecv q m cap) = refl

module _ (ranks : ℕ) where
  AllSpelled : Command → Type 0
  AllSpelled c = Each (IsSpelled ranks) (arguments (keyword_in c)) (arguments_in c)

  probe_spelled : (from : Peer) (tag : TagPick) (ctx : ℕ)
      → (is_peer ranks from && is_pick tag && nat_le ctx MAX_CONTEXT) ≡ true
      → AllSpelled (Probe from tag ctx)
  unfolding AllSpelled
  probe_spelled from tag ctx range =
      let t = three_parts (is_peer ranks from) (is_pick tag) (nat_le ctx MAX_CONTEXT) range in
      ((from, t.0, refl), ((tag, t.1, refl), (up_to MAX_CONTEXT ctx t.2, tt)))

  all_spelled : (c : Command) → is_in_range ranks c ≡ true → AllSpelled c
  unfolding AllSpelled
  all_spelled (Send to q tag ctx true body) range =
      let t = five_parts (nat_le q MAX_NAME) (nat_lt to ranks) (nat_le tag MAX_TAG) (nat_le ctx MAX_CONTEXT)
      (nat_le (body_len body) MAX_BODY) range in (
        up_to MAX_NAME q t.one,
        (
          (to, ltb-true to ranks t.two, refl),
          (up_to MAX_TAG tag t.three, (up_to MAX_CONTEXT ctx t.four, (tt, tt))),
        ),
      )
  all_spelled (Send to q tag ctx false body) range =
      let t = five_parts (nat_le q MAX_NAME) (nat_lt to ranks) (nat_le tag MAX_TAG) (nat_le ctx MAX_CONTEXT)
      (nat_le (body_len body) MAX_BODY) range in (
        up_to MAX_NAME q t.one,
        (
          (to, ltb-true to ranks t.two, refl),
          (up_to MAX_TAG tag t.three, (up_to MAX_CONTEXT ctx t.four, (tt, tt))),
        ),
      )
  all_spelled (Recv q from tag ctx cap) range =
      let t = five_parts (nat_le q MAX_NAME) (is_peer ranks from) (is_pick tag)
      (nat_le ctx MAX_CONTEXT) (nat_le cap MAX_CAPACITY) range in (
        up_to MAX_NAME q t.one,
        (
          (from, t.two, refl),
          ((tag, t.three, refl), (up_to MAX_CONTEXT ctx t.four, (up_to MAX_CAPACITY cap t.five, tt))),
        ),
      )
  all_spelled (Wait q) range = (up_to MAX_NAME q range, tt)
  all_spelled (Test q) range = (up_to MAX_NAME q range, tt)
  all_spelled (Probe from tag ctx) range = probe_spelled from tag ctx range
  all_spelled (Await from tag ctx) range = probe_spelled from tag ctx range
  all_spelled (Cancel q) range = (up_to MAX_NAME q range, tt)
  all_spelled (Mprobe m from tag ctx) range =
      let t = four_parts (nat_le m MAX_NAME) (is_peer ranks from) (is_pick tag) (nat_le ctx MAX_CONTEXT)
      range in
      (up_to MAX_NAME m t.0, ((from, t.1, refl), ((tag, t.2, refl), (up_to MAX_CONTEXT ctx t.3, tt))))
  all_spelled (Mrecv q m cap) range =
      let t = three_parts (nat_le q MAX_NAME) (nat_le m MAX_NAME) (nat_le cap MAX_CAPACITY) range in
      (up_to MAX_NAME q t.0, (up_to MAX_NAME m t.1, (up_to MAX_CAPACITY cap t.2, tt)))

  body_there : (c : Command) → is_in_range ranks c ≡ true → has_bytes c ≡ true
      → Each IsBodyThere (arguments (keyword_in c)) (arguments_in c)
  body_there (Send to q tag ctx true body) range bytes =
      let t = five_parts (nat_le q MAX_NAME) (nat_lt to ranks) (nat_le tag MAX_TAG) (nat_le ctx MAX_CONTEXT)
      (nat_le (body_len body) MAX_BODY) range in
      (tt, (tt, (tt, (tt, ((body, bytes, leb-true (body_len body) MAX_BODY t.five, refl), tt)))))
  body_there (Send to q tag ctx false body) range bytes =
      let t = five_parts (nat_le q MAX_NAME) (nat_lt to ranks) (nat_le tag MAX_TAG) (nat_le ctx MAX_CONTEXT)
      (nat_le (body_len body) MAX_BODY) range in
      (tt, (tt, (tt, (tt, ((body, bytes, leb-true (body_len body) MAX_BODY t.five, refl), tt)))))
  body_there (Recv q from tag ctx cap) range bytes = (tt, (tt, (tt, (tt, (tt, tt)))))
  body_there (Wait q) range bytes = (tt, tt)
  body_there (Test q) range bytes = (tt, tt)
  body_there (Probe from tag ctx) range bytes = (tt, (tt, (tt, tt)))
  body_there (Await from tag ctx) range bytes = (tt, (tt, (tt, tt)))
  body_there (Cancel q) range bytes = (tt, tt)
  body_there (Mprobe m from tag ctx) range bytes = (tt, (tt, (tt, (tt, tt))))
  body_there (Mrecv q m cap) range bytes = (tt, (tt, (tt, tt)))

-- the kinds of a line's words
abbrev word_kinds : List Kind
word_kinds = kind.Rank ∷ kind.Command ∷ kind.Count ∷ kind.Number ∷ kind.Body ∷ []

named_words_kept : (ranks number total : ℕ) (text : List ℕ) (line : Line) → Fits ranks line
    → AllKept (KeepsRule ranks number total text ((decimal line.rank ++ codes ":")
    ∷ keyword_text (keyword_in line.command) ∷ arguments_in line.command)) word_kinds
unfolding AllSpelled
named_words_kept ranks number total text line fits =
    let c = line.command in
    let ws = arguments_in c in
    let k = keyword_in c in
    let every : (P : Keyword → Type 0) → P k → (j : Keyword) → keyword_text k ≡ keyword_text j →
    P j = λ P holds j named.
    subst P (one_keyword k j named) holds in (
      (line.rank, fits.own, refl),
      (
        (k, refl),
        (
          every (λ j. length ws ≡ length (arguments j)) (as_many c),
          (
            every (λ j. Each (IsSpelled ranks) (arguments j) ws) (all_spelled ranks c fits.range),
            (
              every (λ j. Each IsBodyThere (arguments j) ws) (body_there ranks c fits.range fits.bytes),
              tt,
            ),
          ),
        ),
      ),
    )

-- the words of a line that fits keep the rules of words
words_kept : (ranks number total : ℕ) (text : List ℕ) (ws : List (List ℕ)) (line : Line) → Fits ranks line
    → ws ≡ line_words line.rank line.command → AllKept (KeepsRule ranks number total text ws) word_kinds
words_kept ranks number total text ws line fits is =
    let named = is ∙ ap (λ xs. (decimal line.rank ++ codes ":") ∷ xs) (words_are line.command) in
    subst (λ xs. AllKept (KeepsRule ranks number total text xs) word_kinds) (sym named)
    (named_words_kept ranks number total text line fits)

-- ---- a command's line

-- what is said of a line, of its text
pub record IsRead (ranks : ℕ) (text : List ℕ) (line : Line) : Type 0 where
  pub fits : Fits ranks line
  pub printable : is_printable text ≡ true
  pub words_are : words_of text ≡ line_words line.rank line.command
  pub gives : line_of ranks (words_of text) ≡ Ok line

pub is_read : (ranks : ℕ) (text : List ℕ) (line : Line) → ranks ≤ MAX_RANKS → IsLine ranks text line
    → IsRead ranks text line
is_read ranks text line few is =
    let fits : Fits ranks line = record { own = is.own; range = is.range; bytes = is.bytes } in
    let back = line_again ranks line few fits in
    let split = ap words_of is.text_is ∙ words_again (decimal line.rank ++ codes ":") (words line.command)
    back.1 in
    record {
      fits = fits;
      printable = ap is_printable is.text_is ∙ joined_printable (decimal line.rank ++ codes ":")
          (words line.command) back.1;
      words_are = split;
      gives = ap (line_of ranks) split ∙ back.0;
    }

-- a text is that of one line
one_line : (ranks : ℕ) (text : List ℕ) (a b : Line) → ranks ≤ MAX_RANKS → IsLine ranks text a
    → IsLine ranks text b → a ≡ b
one_line ranks text a b few x y =
    let same : ◌≡◌ {A = Result Line Kind} (Ok a) (Ok b) = sym ((is_read ranks text a few x).gives)
    ∙ (is_read ranks text b few y).gives in
    cc (same)

-- a command's line at its place keeps every rule
pub line_kept : (ranks number total : ℕ) (text : List ℕ) (line : Line) → ranks ≤ MAX_RANKS
    → IsLine ranks text line → number ≤ MAX_LINES → total + sent_len line.command ≤ MAX_BODIES
    → AllKept (KeepsRule ranks number total text (words_of text)) line_kinds
line_kept ranks number total text line few is in_lines in_bodies =
    let read = is_read ranks text line few is in
    let w = words_kept ranks number total text (words_of text) line read.fits read.words_are in
    let fit : (other : Line) → IsLine ranks text other → total + sent_len other.command ≤ MAX_BODIES = λ other o.
    subst (λ (l : Line). total + sent_len l.command ≤ MAX_BODIES)
    (one_line ranks text line other few is o) in_bodies in
    (read.printable, (in_lines, (w.0, (w.1.0, (w.1.1.0, (w.1.1.1.0, (w.1.1.1.1.0, (fit, tt))))))))

-- ---- a line that is refused

too_much : (total : ℕ) (line : Line) (e : Kind) → fitting total line ≡ Err e
    → (e ≡ kind.BodyTotal) × (MAX_BODIES < total + sent_len line.command)
too_much total line e h =
    elim (chosen (nat_lt MAX_BODIES (total + sent_len line.command)) (Err kind.BodyTotal) (Ok line) (Err e) h) [
      | inl p ↦ (cc (p.1), ltb-true MAX_BODIES (total + sent_len line.command) p.0)
      | inr p ↦ cc (p.1)
    ]

-- the bodies up to this line are too long together
overflows : (ranks number total : ℕ) (text : List ℕ) (line : Line) (e : Kind) → ranks ≤ MAX_RANKS
    → line_of ranks (words_of text) ≡ Ok line → fitting total line ≡ Err e
    → IsFirstOf (KeepsRule ranks number total text (words_of text)) (kind.Rank ∷ kind.Command
    ∷ kind.Count ∷ kind.Number ∷ kind.Body ∷ kind.BodyTotal ∷ []) e
overflows ranks number total text line e few read over =
    let t = line_taken ranks (words_of text) line (omega arith) read in
    let is : IsLine ranks text line = record {
      text_is = sym (line_is text) ∙ ap (join_with_byte 32) t.words_are;
      own = t.fits.own;
      range = t.fits.range;
      bytes = t.fits.bytes;
    } in
    let w = words_kept ranks number total text (words_of text) line t.fits t.words_are in
    let o = too_much total line e over in
    let broken : ¬ ((other : Line) → IsLine ranks text other → total + sent_len other.command ≤ MAX_BODIES)
    = λ all. let fits = all line is in omega (arith, fits, o.1) in
    inr (w.0, inr (w.1.0, inr (w.1.1.0, inr (w.1.1.1.0, inr (w.1.1.1.1.0, inl (o.0, broken))))))

pub line_fault : (ranks number total : ℕ) (text : List ℕ) (e : Kind) → ranks ≤ MAX_RANKS
    → line_at ranks number total text ≡ Err e
    → IsFirstOf (KeepsRule ranks number total text (words_of text)) line_kinds e
unfolding line_at
line_fault ranks number total text e few h =
    elim (chosen (is_printable text) (cond (nat_lt MAX_LINES number) (Err kind.Lines)
    (line_of ranks (words_of text) >>= fitting total)) (Err kind.NotAscii) (Err e) h) [
      | inl p ↦ inr (
        p.0,
        elim (chosen (nat_lt MAX_LINES number) (Err kind.Lines)
            (line_of ranks (words_of text) >>= fitting total) (Err e) p.1) [
              | inl q ↦
                  let past = ltb-true MAX_LINES number q.0 in
                  inl (cc (q.1), λ within. omega (arith, past, within))
              | inr q ↦ inr (
                ltb-false MAX_LINES number q.0,
                elim (bind_err (line_of ranks (words_of text)) (fitting total) e q.1) [
                  | inl f ↦ words_fault ranks number total text (words_of text) e few f
                  | inr r ↦ overflows ranks number total text r.0 e few r.1 r.2
                ],
              )
            ],
      )
      | inr p ↦ inl (cc (p.1), λ yes. cc (p.0, yes))
    ]

-- a text that keeps every rule is a command's line at its place
pub only_lines : (ranks number total : ℕ) (text : List ℕ) → ranks ≤ MAX_RANKS
    → AllKept (KeepsRule ranks number total text (words_of text)) line_kinds
    → (r : Result Line Kind) → line_at ranks number total text ≡ r
    → (line : Line) × IsLine ranks text line × (number ≤ MAX_LINES)
    × (total + sent_len line.command ≤ MAX_BODIES)
only_lines ranks number total text few all (Ok line) h =
    let here = line_at_taken ranks number total text line few h in
    let is : IsLine ranks text line = record {
      text_is = here.text_is;
      own = here.fits.own;
      range = here.fits.range;
      bytes = here.fits.bytes;
    } in
    (line, is, here.in_lines, here.in_bodies)
only_lines ranks number total text few all (Err e) h = absurd
    (none_first (KeepsRule ranks number total text (words_of text)) line_kinds e all
    (line_fault ranks number total text e few h))
