-- Bodies as words, both ways.
use Rattle.std.proofs.Common.{◌≡◌, ℕ, ◌+◌, ◌*◌, ◌≤◌, inl, inr, true, ◌&&◌}
use Rattle.std.proofs.Common.{List, [], ◌∷◌, length, Result, Ok, Err, Option, Some, None}
use Rattle.std.proofs.Common.{refl, sym, ap, ◌∙◌, arith, eqb, nat_le}
use Rattle.std.specs.List.{list_all}
use Rattle.std.proofs.lemmas.Bool.{and_parts, eqb-true, leb-true, le-leb}
use Rattle.hex.specs.Hex.{encode_lower, lower_digits, decode_of}
use Rattle.hex.specs.declared.error.FromHexError.{FromHexError}
use Rattle.hex.proofs.HexLemmas.{decode_of-encode_lower, decode_of-even, decode_of-ok, length-encode_with}
use Rattle.nm_types.specs.declared.limits.TheConstants.{MAX_BODY}
use Rattle.nm_types.specs.declared.scripts.Body.{Body}
use Rattle.nm_types.specs.declared.scripts.Body.TheVariants.{Hex, Gen}
use Rattle.nm_types.specs.Bodies.{body_len}
use Rattle.nm_types.specs.Text.{body_word}
use Rattle.nm_script.specs.declared.faults.Kind.TheVariants as kind
use Rattle.nm_script.specs.Bodies.{hex_body, hex_of, generated_body, generated_of, body_of}
use Rattle.nm_script.specs.Decimal.{number_of}
use Rattle.nm_script.specs.Digits.{is_lower_digit}
use Rattle.nm_script.proofs.DigitLemmas.{all_lower, bytes_are, bytes_pass, lower_pairs}
use Rattle.nm_script.specs.Spelled.{are_bytes}
use Rattle.nm_script.proofs.NumberLemmas.{number_taken, number_again}
use Rattle.nm_script.proofs.StepLemmas.{guard_ok}
use Rattle.nm_script.proofs.WordsStepLemmas.{chosen}

hex_body_ok : (r : Result (List ℕ) FromHexError) (body : Body) → hex_body r ≡ Ok body
    → (bytes : List ℕ) × (r ≡ Ok bytes) × (Hex bytes ≡ body)
hex_body_ok (Ok bytes) body h = (bytes, refl, cc)
hex_body_ok (Err e) body h = cc

generated_ok : (o : Option ℕ) (body : Body) → generated_body o ≡ Ok body
    → (len : ℕ) × (o ≡ Some len) × (Gen len ≡ body)
generated_ok (Some len) body h = (len, refl, cc)
generated_ok None body h = cc

-- the word is the body's, which has bytes and is not too long
pub record IsBodyWord (word : List ℕ) (body : Body) : Type 0 where
  pub word_is : word ≡ body_word body
  pub bytes : are_bytes body ≡ true
  pub fits : body_len body ≤ MAX_BODY

hex_taken : (digits : List ℕ) (body : Body) → hex_of digits ≡ Ok body → IsBodyWord (120 ∷ digits) body
unfolding hex_of
hex_taken digits body h =
    let p = guard_ok (nat_le (length digits) (2 * MAX_BODY) && list_all is_lower_digit digits)
    (hex_body (decode_of digits)) kind.Body body h in
    let r = and_parts (nat_le (length digits) (2 * MAX_BODY)) (list_all is_lower_digit digits) p.0 in
    let d = hex_body_ok (decode_of digits) body p.1 in
    let ok = decode_of-ok digits d.0 d.1 in
    let lower = lower_pairs 0 digits d.0 r.1 (sym (decode_of-even digits ok.0) ∙ d.1) in
    let few = leb-true (length digits) (2 * MAX_BODY) r.0 in
    let made : IsBodyWord (120 ∷ digits) (Hex d.0) = record {
      word_is = ap (λ ds. 120 ∷ ds) lower;
      bytes = bytes_pass d.0 ok.3;
      fits = omega (arith, few, ok.2);
    } in
    rw d.2 at made

generated_taken : (digits : List ℕ) (body : Body) → generated_of digits ≡ Ok body
    → IsBodyWord (103 ∷ digits) body
unfolding generated_of
generated_taken digits body h =
    let g = generated_ok (number_of (MAX_BODY + 1) digits) body h in
    let n = number_taken (MAX_BODY + 1) g.0 digits (omega arith) g.1 in
    let made : IsBodyWord (103 ∷ digits) (Gen g.0) = record {
      word_is = ap (λ ds. 103 ∷ ds) n.1;
      bytes = refl;
      fits = omega (arith, n.0);
    } in
    rw g.2 at made

-- a word that is read is a body's
pub body_taken : (word : List ℕ) (body : Body) → body_of word ≡ Ok body → IsBodyWord word body
unfolding body_of
body_taken [] body h = cc
body_taken (b ∷ rest) body h =
    elim (chosen (eqb b 120) (hex_of rest) _ (Ok body) h) [
      | inl p ↦ rw (eqb-true b 120 p.0) (hex_taken rest body p.1)
      | inr p ↦
          let q = guard_ok (eqb b 103) (generated_of rest) kind.Body body p.1 in
          rw (eqb-true b 103 q.0) (generated_taken rest body q.1)
    ]

-- a body's word is read
pub body_again : (body : Body) → are_bytes body ≡ true → body_len body ≤ MAX_BODY
    → body_of (body_word body) ≡ Ok body
unfolding body_of hex_of generated_of
body_again (Hex bytes) h few =
    let small = bytes_are bytes h in
    let fits : length (encode_lower bytes) ≤ 2 * MAX_BODY = omega
    (arith, length-encode_with lower_digits bytes, few) in
    rw (le-leb (length (encode_lower bytes)) (2 * MAX_BODY) fits, all_lower bytes small)
    (ap hex_body (decode_of-encode_lower bytes small))
body_again (Gen n) h few = rw (number_again (MAX_BODY + 1) n (omega arith) (omega arith)) refl
