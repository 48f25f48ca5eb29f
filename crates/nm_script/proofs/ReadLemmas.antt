-- Scripts are read by their rules: what is spelled is read, what is read is spelled so, and first faults.
use Rattle.std.proofs.Common.{◌≡◌, ℕ, ◌+◌, ◌≤◌, ◌⊎◌, inl, inr, true, List, [], ◌∷◌, ◌++◌, length, map}
use Rattle.std.proofs.Common.{Result, Ok, Err, refl, sym, ap, ◌∙◌, arith, codes, decimal, IfOk, IfErr}
use Rattle.std.proofs.Common.{length-append}
use Rattle.std.specs.List.{list_all}
use Rattle.std.proofs.lemmas.Bool.{and_from, and_parts, lt-ltb}
use Rattle.std.proofs.lemmas.List.Folds.{flat_map-map, list_all-append}
use Rattle.std.proofs.lemmas.List.Sums.{sum_by-append, sum_by-cons}
use Rattle.nm_types.specs.declared.limits.TheConstants.{MAX_BODIES}
use Rattle.nm_types.specs.declared.scripts.Line.{Line}
use Rattle.nm_types.specs.declared.scripts.Script.{Script}
use Rattle.nm_types.specs.Limits.{IsScript, sent_len}
use Rattle.nm_types.specs.Text.{script_text, words}
use Rattle.nm_script.specs.declared.faults.Kind.{Kind}
use Rattle.nm_script.specs.declared.faults.Kind.TheVariants as kind
use Rattle.nm_script.specs.declared.faults.TextFault.{TextFault}
use Rattle.nm_script.specs.Faults.{GivesAt}
use Rattle.nm_script.specs.Lines.{ended_lines, with_feed}
use Rattle.nm_script.specs.Reading.{bodies_len, parts, read_of, script_reader}
use Rattle.nm_script.specs.Rules.{AreInLimits, FirstKeeps, IsFirstFault, IsLine, line_text, scripts}
use Rattle.nm_script.specs.Spelled.{IsTextOf, has_bytes}
use Rattle.nm_script.specs.TextReading.{AnswersText, IsRefused}
use Rattle.nm_script.specs.TextRules.{IsFaultIn, IsTextIn, ranks_text}
use Rattle.nm_script.proofs.CommandLemmas.{Fits, line_again}
use Rattle.nm_script.proofs.FirstLineLemmas.{ranks_again, ranks_fault, ranks_kept, ranks_taken}
use Rattle.nm_script.proofs.LineAtLemmas.{IsLineAt, first_fits, line_at_again, line_at_taken}
use Rattle.nm_script.proofs.LineLemmas.{joined, some_joined}
use Rattle.nm_script.proofs.RuleLemmas.{line_fault, line_kept}
use Rattle.nm_script.proofs.TextLemmas.{ReadsBy, fault_again, fault_from, faults_from, spelled_lines, taken_from}
use Rattle.nm_script.proofs.TextLemmas.{takes_from, text_again, text_fault, text_taken}
use Rattle.nm_script.proofs.WordLemmas.{joined_printable}

-- the lines of a script's text
abbrev pub script_lines : ℕ → List Line → List (List ℕ)
script_lines ranks lines = ranks_text ranks ∷ map line_text lines

ended-script_lines : (ranks : ℕ) (lines : List Line)
    → ended_lines (script_lines ranks lines) ≡ script_text ranks lines
ended-script_lines ranks lines = ap (λ xs. (ranks_text ranks ++ 10 ∷ []) ++ xs)
    (flat_map-map (λ line. line ++ 10 ∷ []) line_text lines)

-- ---- scripts are read by their rules

-- lines in front of others
front : (ranks : ℕ) (before after : List Line) → AreInLimits ranks (before ++ after) → AreInLimits ranks before
front ranks before after is = record {
  in_range = (and_parts _ _ (sym (list_all-append _ before after) ∙ is.in_range)).0;
  of_bytes = (and_parts _ _ (sym (list_all-append _ before after) ∙ is.of_bytes)).0;
  bodies_fit = omega (arith, is.bodies_fit, sum_by-append (λ (l : Line). sent_len l.command) before after);
}

-- the last of these lines
last_fits : (ranks : ℕ) (before : List Line) (line : Line) → AreInLimits ranks (before ++ line ∷ []) →
    Fits ranks line × (bodies_len before + sent_len line.command ≤ MAX_BODIES)
last_fits ranks before line is =
    let range = (and_parts _ _ (sym (list_all-append _ before (line ∷ [])) ∙ is.in_range)).1 in
    let bytes = (and_parts _ _ (sym (list_all-append _ before (line ∷ [])) ∙ is.of_bytes)).1 in
    let sum = sum_by-append (λ (l : Line). sent_len l.command) before (line ∷ []) in
    let one = sum_by-cons (λ (l : Line). sent_len l.command) line [] in
    ((first_fits ranks line [] (range, bytes)).0, omega (arith, is.bodies_fit, sum, one))

one_behind : (ranks : ℕ) (before : List Line) (text : List ℕ) (line : Line) → AreInLimits ranks before →
    IsLineAt ranks (length before + 2) (bodies_len before) text line → AreInLimits ranks (before ++ line ∷ [])
one_behind ranks before text line are here =
    let fits = here.fits in
    let sum = sum_by-append (λ (l : Line). sent_len l.command) before (line ∷ []) in
    let one = sum_by-cons (λ (l : Line). sent_len l.command) line [] in
    record {
      in_range = list_all-append _ before (line ∷ []) ∙ and_from _ _ are.in_range
          (and_from _ _ (and_from _ _ (lt-ltb line.rank ranks fits.own) fits.range) refl);
      of_bytes = list_all-append _ before (line ∷ []) ∙ and_from _ _ are.of_bytes (and_from _ _ fits.bytes refl);
      bodies_fit = omega (arith, here.in_bodies, sum, one);
    }

is_line : (ranks k total : ℕ) (text : List ℕ) (line : Line) → IsLineAt ranks k total text line →
    IsLine ranks text line
is_line ranks k total text line here = record {
  text_is = here.text_is;
  own = here.fits.own;
  range = here.fits.range;
  bytes = here.fits.bytes;
}

pub reads_scripts : ReadsBy scripts script_reader
reads_scripts = record {
  begins = λ ranks. record { in_range = refl; of_bytes = refl; bodies_fit = omega arith };
  front = front;
  printable = λ ranks before line few is.
      joined_printable _ _ (line_again ranks line few (last_fits ranks before line is).0).1;
  some = λ line. some_joined (decimal line.rank ++ codes ":") (words line.command)
      (omega (arith, length-append (decimal line.rank) (58 ∷ [])));
  again = λ ranks before line few in_lines is.
      let fits = last_fits ranks before line is in
      line_at_again ranks (length before + 2) (bodies_len before) line few in_lines fits.1 fits.0;
  taken = λ ranks before text line few are h.
      let here = line_at_taken ranks (length before + 2) (bodies_len before) text line few h in
      record {
        text_is = here.text_is;
        in_lines = here.in_lines;
        sound = one_behind ranks before text line are here;
      };
  kept = λ ranks before text line few h.
      let here = line_at_taken ranks (length before + 2) (bodies_len before) text line few h in
      line_kept ranks (length before + 2) (bodies_len before) text line few
      (is_line ranks (length before + 2) (bodies_len before) text line here) here.in_lines here.in_bodies;
  refused = λ ranks before text e few h. line_fault ranks (length before + 2) (bodies_len before) text e few h;
  first_taken = ranks_taken kind.NotAscii kind.First;
  first_again = ranks_again kind.NotAscii kind.First;
  first_kept = λ text n is. ranks_kept kind.NotAscii kind.First (FirstKeeps text) text (λ k. k) (λ k. k) n is;
  first_refused = λ text e h.
      ranks_fault kind.NotAscii kind.First (FirstKeeps text) text (λ k. k) (λ k. k) (λ k. k) (λ k. k) e h;
  no_first = inr (refl, inl (refl, λ no. cc (no.3)));
  too_long = refl;
}

-- bytes that spell a script are a text of its lines, and the other way
spelled_in : (bytes : List ℕ) (ranks : ℕ) (lines : List Line) → IsTextOf bytes ranks lines →
    IsTextIn scripts bytes ranks lines
spelled_in bytes ranks lines is =
    let same = ended-script_lines ranks lines in
    let limits = is.limits in
    record {
      spelled = elim is.spelled [ inl e ↦ inl (e ∙ sym same) | inr e ↦ inr (e ∙ sym same) ];
      some_rank = limits.some_rank;
      few_ranks = limits.few_ranks;
      few_lines = limits.few_lines;
      sound = record {
        in_range = limits.lines_in_range;
        of_bytes = is.in_part;
        bodies_fit = limits.bodies_fit;
      };
      text_fits = omega (arith, limits.text_fits, ap length same);
    }

pub spelled_of : (bytes : List ℕ) (ranks : ℕ) (lines : List Line) → IsTextIn scripts bytes ranks lines →
    IsTextOf bytes ranks lines
spelled_of bytes ranks lines is =
    let same = ended-script_lines ranks lines in
    record {
      spelled = elim is.spelled [ inl e ↦ inl (e ∙ same) | inr e ↦ inr (e ∙ same) ];
      limits = record {
        some_rank = is.some_rank;
        few_ranks = is.few_ranks;
        few_lines = is.few_lines;
        lines_in_range = is.sound.in_range;
        bodies_fit = is.sound.bodies_fit;
        text_fits = omega (arith, is.text_fits, ap length same);
      };
      in_part = is.sound.of_bytes;
    }

-- bytes that spell a script are read as just that script
pub read_again : (bytes : List ℕ) (ranks : ℕ) (lines : List Line) → IsTextOf bytes ranks lines →
    read_of bytes ≡ Ok (ranks, lines)
unfolding read_of
read_again bytes ranks lines is =
    text_again scripts script_reader reads_scripts bytes ranks lines (spelled_in bytes ranks lines is)

-- what is read is a script that the bytes spell
pub read_taken : (bytes : List ℕ) (ranks : ℕ) (lines : List Line) → read_of bytes ≡ Ok (ranks, lines) →
    IsTextOf bytes ranks lines
unfolding read_of
read_taken bytes ranks lines h =
    spelled_of bytes ranks lines (text_taken scripts script_reader reads_scripts bytes ranks lines h)

-- bytes spell at most one script
pub one_script : (bytes : List ℕ) (first second : ℕ) (lines others : List Line)
    → IsTextOf bytes first lines → IsTextOf bytes second others
    → (first ≡ second) × (lines ≡ others)
one_script bytes first second lines others a b =
    let pair : (first, lines) ≡ (second, others) = cc
    (read_again bytes first lines a, read_again bytes second others b) in
    (ap (λ (x : ℕ × List Line). x.0) pair, ap (λ (x : ℕ × List Line). x.1) pair)

-- the text of a script spells it
pub written_is_read : (ranks : ℕ) (lines : List Line) → IsScript ranks lines
    → list_all (λ line. has_bytes line.command) lines ≡ true
    → IsTextOf (script_text ranks lines) ranks lines
written_is_read ranks lines limits bytes = record { spelled = inl refl; limits = limits; in_part = bytes }

-- what was read is written as the same bytes, with a line feed where there was none
pub read_is_written : (bytes : List ℕ) (ranks : ℕ) (lines : List Line) → IsTextOf bytes ranks lines →
    script_text ranks lines ≡ with_feed bytes
read_is_written bytes ranks lines is =
    let split = spelled_lines scripts script_reader reads_scripts bytes ranks lines
    (spelled_in bytes ranks lines is) in
    sym (ap ended_lines split.1 ∙ ended-script_lines ranks lines) ∙ joined bytes split.0

-- ---- a script, or a first fault

pub either_is : (bytes : List ℕ) (r : Result (ℕ × List Line) (ℕ × Kind)) → read_of bytes ≡ r →
    ((ranks : ℕ) × (lines : List Line) × IsTextOf bytes ranks lines)
    ⊎ ((number : ℕ) × (e : Kind) × IsFirstFault bytes number e)
unfolding read_of
either_is bytes (Ok s) h =
    inl (s.0, s.1, spelled_of bytes s.0 s.1 (text_taken scripts script_reader reads_scripts bytes s.0 s.1 h))
either_is bytes (Err f) h = inr (f.0, f.1, text_fault scripts script_reader reads_scripts bytes f.0 f.1 h)

pub not_both : (bytes : List ℕ) (ranks number : ℕ) (lines : List Line) (e : Kind) →
    IsTextOf bytes ranks lines → IsFirstFault bytes number e → ⊥
not_both bytes ranks number lines e is first = cc (
  text_again scripts script_reader reads_scripts bytes ranks lines (spelled_in bytes ranks lines is),
  fault_again scripts script_reader reads_scripts bytes number e first,
)

pub one_fault : (bytes : List ℕ) (number other : ℕ) (e also : Kind) → IsFirstFault bytes number e →
    IsFirstFault bytes other also → (number ≡ other) × (e ≡ also)
one_fault bytes number other e also a b =
    let is : ◌≡◌ {A = ℕ × Kind} (number, e) (other, also) = cc (
      fault_again scripts script_reader reads_scripts bytes number e a,
      fault_again scripts script_reader reads_scripts bytes other also b,
    ) in
    (ap (λ (x : ℕ × Kind). x.0) is, ap (λ (x : ℕ × Kind). x.1) is)

-- ---- what `read` promises, from what reading gives

module _ (bytes : List ℕ) (r : Result Script (TextFault Kind)) (gives : GivesAt parts r (read_of bytes)) where
  pub script_taken : IfOk r (λ script. IsTextOf bytes script.ranks script.lines)
  unfolding read_of
  script_taken = of_answer r (taken_from scripts script_reader reads_scripts parts bytes r gives) where
    of_answer : (r : Result Script (TextFault Kind)) →
        IfOk r (λ script. IsTextIn scripts bytes script.ranks script.lines) →
        IfOk r (λ script. IsTextOf bytes script.ranks script.lines)
    of_answer (Ok script) is = spelled_of bytes script.ranks script.lines is
    of_answer (Err e) is = tt

  pub script_takes : (ranks : ℕ) (lines : List Line) → IsTextOf bytes ranks lines → AnswersText parts r ranks lines
  unfolding read_of
  script_takes ranks lines is =
      takes_from scripts script_reader reads_scripts parts bytes r gives ranks lines (spelled_in bytes ranks lines is)

  pub script_fault : IfErr r (IsFaultIn scripts bytes)
  unfolding read_of
  script_fault = fault_from scripts script_reader reads_scripts parts bytes r gives

  pub script_faults : (number : ℕ) (e : Kind) → IsFirstFault bytes number e → IsRefused r number e
  unfolding read_of
  script_faults = faults_from scripts script_reader reads_scripts parts bytes r gives
