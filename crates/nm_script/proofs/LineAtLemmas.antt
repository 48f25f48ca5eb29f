-- A line at its place: what is spelled is read, and what is read is spelled so.
use Rattle.std.proofs.Common.{◌≡◌, ℕ, ◌+◌, ◌≤◌, true, ◌&&◌, List, ◌∷◌, nat_lt, Ok, refl, sym, ap, ◌∙◌, arith}
use Rattle.std.specs.List.{join_with_byte, list_all}
use Rattle.std.proofs.lemmas.Bool.{and_parts, le-ltb, ltb-false, ltb-true}
use Rattle.nm_types.specs.declared.limits.TheConstants.{MAX_BODIES, MAX_LINES, MAX_RANKS}
use Rattle.nm_types.specs.declared.scripts.Line.{Line}
use Rattle.nm_types.specs.Limits.{is_in_range, sent_len}
use Rattle.nm_script.specs.declared.faults.Kind.TheVariants as kind
use Rattle.nm_script.specs.Commands.{line_of}
use Rattle.nm_script.specs.Faults.{◌>>=◌}
use Rattle.nm_script.specs.Lines.{is_printable, words_of}
use Rattle.nm_script.specs.Reading.{fitting, line_at}
use Rattle.nm_script.specs.Rules.{line_text}
use Rattle.nm_script.specs.Spelled.{has_bytes}
use Rattle.nm_script.proofs.CommandLemmas.{Fits, line_again}
use Rattle.nm_script.proofs.CommandTakenLemmas.{line_taken}
use Rattle.nm_script.proofs.StepLemmas.{guard_ok, unless_ok}
use Rattle.nm_script.proofs.WordLemmas.{joined_printable, line_is, words_again}
use Rattle.nm_script.proofs.WordsStepLemmas.{bind_ok}

pub line_at_again : (ranks k total : ℕ) (line : Line) → ranks ≤ MAX_RANKS → k ≤ MAX_LINES
    → total + sent_len line.command ≤ MAX_BODIES → Fits ranks line
    → line_at ranks k total (line_text line) ≡ Ok line
unfolding line_at
line_at_again ranks k total line few in_lines in_bodies fits =
    let back = line_again ranks line few fits in
    rw (joined_printable _ _ back.1, le-ltb MAX_LINES k in_lines, words_again _ _ back.1)
    (rw back.0 (rw (le-ltb MAX_BODIES (total + sent_len line.command) in_bodies) refl))

abbrev pub AllFit : ℕ → List Line → Type 0
AllFit ranks lines = (list_all (λ line. nat_lt line.rank ranks && is_in_range ranks line.command)
    lines ≡ true) × (list_all (λ line. has_bytes line.command) lines ≡ true)

pub first_fits : (ranks : ℕ) (line : Line) (lines : List Line) → AllFit ranks (line ∷ lines)
    → Fits ranks line × AllFit ranks lines
first_fits ranks line lines h =
    let p = and_parts (nat_lt line.rank ranks && is_in_range ranks line.command)
    (list_all (λ line. nat_lt line.rank ranks && is_in_range ranks line.command) lines) h.0 in
    let q = and_parts (nat_lt line.rank ranks) (is_in_range ranks line.command) p.0 in
    let r = and_parts (has_bytes line.command) (list_all (λ line. has_bytes line.command) lines) h.1 in
    (record { own = ltb-true line.rank ranks q.0; range = q.1; bytes = r.0 }, (p.1, r.1))

-- a line that was read at its place
pub record IsLineAt (ranks k total : ℕ) (text : List ℕ) (line : Line) : Type 0 where
  pub text_is : text ≡ line_text line
  pub fits : Fits ranks line
  pub in_lines : k ≤ MAX_LINES
  pub in_bodies : total + sent_len line.command ≤ MAX_BODIES

pub line_at_taken : (ranks k total : ℕ) (text : List ℕ) (line : Line) → ranks ≤ MAX_RANKS
    → line_at ranks k total text ≡ Ok line → IsLineAt ranks k total text line
unfolding line_at
line_at_taken ranks k total text line few h =
    let p = guard_ok (is_printable text) _ kind.NotAscii line h in
    let q = unless_ok (nat_lt MAX_LINES k) (line_of ranks (words_of text) >>= fitting total)
    kind.Lines line p.1 in
    let r = bind_ok (line_of ranks (words_of text)) (fitting total) line q.1 in
    let s = unless_ok (nat_lt MAX_BODIES (total + sent_len r.0.command)) (Ok r.0) kind.BodyTotal line r.2 in
    let is : r.0 ≡ line = cc (s.1) in
    let t = line_taken ranks (words_of text) r.0 (omega arith) r.1 in
    let made : IsLineAt ranks k total text r.0 = record {
      text_is = sym (line_is text) ∙ ap (join_with_byte 32) t.words_are;
      fits = t.fits;
      in_lines = ltb-false MAX_LINES k q.0;
      in_bodies = ltb-false MAX_BODIES (total + sent_len r.0.command) s.0;
    } in
    rw is at made
