-- The lines of a script are not the line between.
use Rattle.std.proofs.Common.{◌≡◌, ℕ, ◌≤◌, List, [], ◌∷◌, ◌++◌, true, ◌&&◌, ◌≢◌}
use Rattle.std.proofs.Common.{refl, sym, ◌∙◌, ap, subst, arith, append_assoc, map, codes, decimal, leb}
use Rattle.std.specs.List.{AllByRecursion, join_with_byte}
use Rattle.std.proofs.lemmas.Bool.{and_parts, leb-true}
use Rattle.std.proofs.lemmas.List.Folds.{flat_map-map}
use Rattle.nm_types.specs.declared.limits.TheConstants.{MAX_RANKS}
use Rattle.nm_types.specs.declared.scripts.Line.{Line}
use Rattle.nm_types.specs.Text.{script_text, words}
use Rattle.nm_script.specs.Lines.{ended_lines, is_printable}
use Rattle.nm_script.proofs.WordLemmas.{joined_printable}
use Rattle.nm_script.specs.Rules.{line_text}
use Rattle.nm_script.specs.TextRules.{ranks_text}
use Rattle.nm_script.proofs.CommandLemmas.{Fits, line_again}
use Rattle.nm_script.proofs.FirstLineLemmas.{ranks_solid}
use Rattle.nm_script.proofs.LineAtLemmas.{AllFit, first_fits}
use Rattle.nm_script.proofs.ReadLemmas.{script_lines}
use Rattle.nm_shell.specs.Inputs.{IsBefore}

-- a printed line has no line feed
printed_one : (line : List ℕ) → is_printable line ≡ true → AllByRecursion (λ b. b ≢ 10) line
printed_one [] h = tt
printed_one (b ∷ line) h =
    let p = and_parts (leb 32 b && leb b 126) (is_printable line) h in
    let q = and_parts (leb 32 b) (leb b 126) p.0 in
    let low : 32 ≤ b = leb-true 32 b q.0 in
    (λ ten. omega (arith, low, ten), printed_one line p.1)

dashes : AllByRecursion (λ b. b ≡ 45) (codes "---")
dashes = (refl, (refl, (refl, tt)))

no_colon : (xs ys : List ℕ) → AllByRecursion (λ b. b ≡ 45) (xs ++ 58 ∷ ys) → ⊥
no_colon [] ys h = omega (arith, h.0)
no_colon (x ∷ xs) ys h = no_colon xs ys h.1

-- a line that begins with a word and a colon
with_colon : (word : List ℕ) (ws : List (List ℕ)) →
    (ys : List ℕ) × (join_with_byte 32 ((word ++ codes ":") ∷ ws) ≡ word ++ 58 ∷ ys)
with_colon word [] = ([], refl)
with_colon word (next ∷ ws) =
    (32 ∷ join_with_byte 32 (next ∷ ws), append_assoc word (58 ∷ []) (32 ∷ join_with_byte 32 (next ∷ ws)))

line_before : (ranks : ℕ) (line : Line) → ranks ≤ MAX_RANKS → Fits ranks line → IsBefore (line_text line)
line_before ranks line few fits =
    let colon = with_colon (decimal line.rank) (words line.command) in
    record {
      one = printed_one (line_text line) (joined_printable _ _ (line_again ranks line few fits).1);
      other = λ same. no_colon (decimal line.rank) colon.0
          (subst (λ t. AllByRecursion (λ b. b ≡ 45) t) (sym same ∙ colon.1) dashes);
    }

lines_before : (ranks : ℕ) (lines : List Line) → ranks ≤ MAX_RANKS → AllFit ranks lines →
    AllByRecursion IsBefore (map line_text lines)
lines_before ranks [] few fit = tt
lines_before ranks (line ∷ lines) few fit =
    let p = first_fits ranks line lines fit in
    (line_before ranks line few p.0, lines_before ranks lines few p.1)

abbrev first_byte : List ℕ → ℕ
first_byte [] = 0
first_byte (b ∷ bytes) = b

ranks_before : (ranks : ℕ) → ranks ≤ MAX_RANKS → IsBefore (ranks_text ranks)
ranks_before ranks few = record {
  one = printed_one (ranks_text ranks) (joined_printable (codes "ranks") (decimal ranks ∷ []) (ranks_solid ranks few));
  other = λ same. let first : ◌≡◌ {A = ℕ} 114 45 = ap first_byte same in omega (arith, first);
}

pub script_before : (ranks : ℕ) (lines : List Line) → ranks ≤ MAX_RANKS → AllFit ranks lines →
    AllByRecursion IsBefore (script_lines ranks lines)
script_before ranks lines few fit = (ranks_before ranks few, lines_before ranks lines few fit)

pub text_of_lines : (ranks : ℕ) (lines : List Line) →
    script_text ranks lines ≡ ended_lines (script_lines ranks lines)
text_of_lines ranks lines =
    sym (ap (λ xs. (ranks_text ranks ++ 10 ∷ []) ++ xs) (flat_map-map (λ line. line ++ 10 ∷ []) line_text lines))
