-- The lines of answers behind the events, both ways.
use Rattle.std.proofs.Common.{◌≡◌, ℕ, ◌*◌, true, ◌&&◌, List, [], ◌∷◌, ◌++◌}
use Rattle.std.proofs.Common.{length, take, drop, Result, Ok, Err, Some, None, cond, refl, sym, ap, ◌∙◌}
use Rattle.std.proofs.Common.{arith, eqb, codes, decimal, append_assoc}
use Rattle.std.specs.List.{join_with_byte, list_all}
use Rattle.std.specs.Str.{bytes_eq}
use Rattle.std.proofs.Math.Seq.{take-append_seam, drop-append_seam}
use Rattle.std.proofs.lemmas.Bool.{and_parts, eq-eqb, eqb-true}
use Rattle.std.proofs.lemmas.List.{take-append-drop}
use Rattle.std.proofs.lemmas.Slice.Eq.{bytes_eq-Decides}
use Rattle.hex.specs.Hex.{encode_lower, lower_digits, decode_of, IsBytes}
use Rattle.hex.specs.declared.error.FromHexError.{FromHexError}
use Rattle.hex.proofs.HexLemmas.{decode_of-encode_lower, decode_of-even, decode_of-ok, length-encode_with}
use Rattle.nm_types.specs.declared.answers.Answer.{Answer}
use Rattle.nm_types.specs.declared.answers.Answer.TheVariants as answer
use Rattle.nm_history.specs.declared.events.Happened.{Happened}
use Rattle.nm_history.specs.declared.events.Happened.TheVariants as what
use Rattle.nm_report.specs.Answers.{answer_words, body_word}
use Rattle.nm_report.specs.Summary.{got_len}
use Rattle.nm_script.specs.Digits.{is_lower_digit}
use Rattle.nm_script.proofs.DigitLemmas.{all_lower, lower_pairs}
use Rattle.nm_trace.specs.Answers.{has_line, start_words, answer_start, behind, decoded}
use Rattle.nm_trace.specs.Answers.{bytes_of, given_answer, given_what}
use Rattle.nm_trace.specs.Notes.{BareIn, bare, answer_text, IsGiven, HasBytes}
use Rattle.nm_script.proofs.StepLemmas.{guard_some}
use Rattle.nm_trace.proofs.FieldLemmas.{bind_some, same_bytes}

-- one word more
join_last : (word : List ℕ) (words : List (List ℕ)) (last : List ℕ)
    → join_with_byte 32 (word ∷ words ++ last ∷ []) ≡ join_with_byte 32 (word ∷ words) ++ 32 ∷ last
join_last word [] last = refl
join_last word (next ∷ words) last =
    ap (λ t. word ++ 32 ∷ t) (join_last next words last)
    ∙ sym (append_assoc word (32 ∷ join_with_byte 32 (next ∷ words)) (32 ∷ last))

-- the start of the line and the bytes are the line
text_is : (rank line : ℕ) (a : Answer) (len : ℕ) (digits : List ℕ) (from tag : ℕ) (body : List ℕ)
    → len ≡ length body → digits ≡ encode_lower body
    → answer_start rank line (answer.Got from tag []) len ++ digits
    ≡ answer_text rank line (answer.Got from tag body)
text_is rank line a len digits from tag body len_is digits_are =
    let words = decimal line ∷ codes "got" ∷ decimal from ∷ decimal tag ∷ decimal (length body) ∷ [] in
    rw (len_is, digits_are) (ap (λ t. t ++ encode_lower body) (join_last (decimal rank) words (codes "x"))
    ∙ append_assoc (join_with_byte 32 (decimal rank ∷ words)) (32 ∷ codes "x") (encode_lower body))

same_is : (bs : List ℕ) → bytes_eq bs bs ≡ true
same_is bs = (bytes_eq-Decides bs bs).1 refl

behind_again : (start rest : List ℕ) → behind (start ++ rest) start ≡ Some rest
unfolding behind
behind_again start rest = rw (take-append_seam start rest, drop-append_seam start rest) (rw (same_is start) refl)

take_drop_is : (n : ℕ) (bs : List ℕ) → take n bs ++ drop n bs ≡ bs
take_drop_is n bs = take-append-drop n bs

behind_taken : (text start rest : List ℕ) → behind text start ≡ Some rest → text ≡ start ++ rest
unfolding behind
behind_taken text start rest h =
    let g = guard_some (bytes_eq (take (length start) text) start) _ rest h in
    let front : take (length start) text ≡ start = same_bytes _ start g.0 in
    let back : drop (length start) text ≡ rest = cc (g.1) in
    sym (take_drop_is (length start) text) ∙ ap (λ t. t ++ drop (length start) text) front
    ∙ ap (λ t. start ++ t) back

decoded_ok : (r : Result (List ℕ) FromHexError) (bytes : List ℕ) → decoded r ≡ Some bytes → r ≡ Ok bytes
decoded_ok (Ok bs) bytes h = cc
decoded_ok (Err e) bytes h = cc

bytes_again : (bytes : List ℕ) → IsBytes bytes → bytes_of (encode_lower bytes) (length bytes) ≡ Some bytes
unfolding bytes_of
bytes_again bytes small =
    let long : eqb (length (encode_lower bytes)) (2 * length bytes) ≡ true = eq-eqb _ _
    (omega (arith, length-encode_with lower_digits bytes)) in
    rw (long, all_lower bytes small) (ap decoded (decode_of-encode_lower bytes small))

-- the digits are those of these bytes
record AreDigits (digits bytes : List ℕ) (len : ℕ) : Type 0 where
  spelled : digits ≡ encode_lower bytes
  long : len ≡ length bytes
  small : IsBytes bytes

bytes_taken : (digits bytes : List ℕ) (len : ℕ) → bytes_of digits len ≡ Some bytes → AreDigits digits bytes len
unfolding bytes_of
bytes_taken digits bytes len h =
    let g = guard_some (eqb (length digits) (2 * len) && list_all is_lower_digit digits)
    (decoded (decode_of digits)) bytes h in
    let p = and_parts (eqb (length digits) (2 * len)) (list_all is_lower_digit digits) g.0 in
    let d = decoded_ok (decode_of digits) bytes g.1 in
    let ok = decode_of-ok digits bytes d in
    record {
      spelled = lower_pairs 0 digits bytes p.1 (sym (decode_of-even digits ok.0) ∙ d);
      long = omega (arith, ok.2, eqb-true (length digits) (2 * len) p.0);
      small = ok.3;
    }

-- an answer's own line gives it
pub own_line_gives : (rank line : ℕ) (a : Answer) → has_line a ≡ true → HasBytes a
    → given_what rank (what.Ran line (bare a)) (got_len a) (answer_text rank line a)
    ≡ Some (what.Ran line a)
unfolding given_what given_answer
own_line_gives rank line (answer.Got from tag body) due small =
    let start = answer_start rank line (answer.Got from tag []) (length body) in
    let text : start ++ encode_lower body ≡ answer_text rank line (answer.Got from tag body) = text_is rank
    line (answer.Got from tag body) (length body) (encode_lower body) from tag body refl refl in
    rw (← text) (rw (behind_again start (encode_lower body), bytes_again body small) refl)
own_line_gives rank line answer.Started due small = cc
own_line_gives rank line answer.Busy due small = rw (behind_again (answer_start rank line answer.Busy 0) []) refl
own_line_gives rank line answer.Null due small = rw (behind_again (answer_start rank line answer.Null 0) []) refl
own_line_gives rank line answer.No due small = rw (behind_again (answer_start rank line answer.No 0) []) refl
own_line_gives rank line answer.Nothing due small = rw (behind_again (answer_start rank line answer.Nothing 0) []) refl
own_line_gives rank line answer.Sent due small = rw (behind_again (answer_start rank line answer.Sent 0) []) refl
own_line_gives rank line (answer.Cut from tag n) due small =
    rw (behind_again (answer_start rank line (answer.Cut from tag n) 0) []) refl
own_line_gives rank line answer.Cancelled due small =
    rw (behind_again (answer_start rank line answer.Cancelled 0) []) refl
own_line_gives rank line (answer.Seen seen) due small =
    rw (behind_again (answer_start rank line (answer.Seen seen) 0) []) refl
own_line_gives rank line answer.Done due small = rw (behind_again (answer_start rank line answer.Done 0) []) refl
own_line_gives rank line answer.Late due small = rw (behind_again (answer_start rank line answer.Late 0) []) refl
own_line_gives rank line answer.Asked due small = rw (behind_again (answer_start rank line answer.Asked 0) []) refl

-- a line that gives a plain answer is its start
plain_given : (rank line : ℕ) (a : Answer) (len : ℕ) (rest : List ℕ) (x : Answer) (text : List ℕ)
    → text ≡ answer_start rank line a len ++ rest → body_word a ≡ [] → start_words a len ≡ answer_words a
    → (bytes_eq rest [] ≡ true) × (Some a ≡ Some x) → (x ≡ a) × (text ≡ answer_text rank line a)
plain_given rank line a len rest x text is none words h =
    let empty : rest ≡ [] = same_bytes rest [] h.0 in
    let same : x ≡ a = cc (h.1) in
    (same, is ∙ rw (empty, none, words) refl)

plain_taken : (rank line : ℕ) (a : Answer) (len : ℕ) (text : List ℕ) (w : Happened)
    → ((rest : List ℕ) → given_answer a len rest ≡ cond (bytes_eq rest []) (Some a) None)
    → body_word a ≡ [] → start_words a len ≡ answer_words a → bare a ≡ a → got_len a ≡ len → HasBytes a
    → given_what rank (what.Ran line a) len text ≡ Some w → IsGiven rank line a len text w
unfolding given_what
plain_taken rank line a len text w plain none words bare_is long bytes given =
    let b = bind_some (behind text (answer_start rank line a len)) _ w given in
    let x = bind_some (given_answer a len b.0) _ w b.2 in
    let g = guard_some (bytes_eq b.0 []) (Some a) x.0 (sym (plain b.0) ∙ x.1) in
    let start = behind_taken text (answer_start rank line a len) b.0 b.1 in
    let p = plain_given rank line a len b.0 x.0 text start none words g in
    let is : what.Ran line x.0 ≡ w = cc (x.2) in
    record {
      whole = a;
      is = sym is ∙ ap (λ y. what.Ran line y) p.0;
      text_is = p.1;
      bare_is = bare_is;
      long = long;
      bytes = bytes;
    }

-- a line that gives an answer is the answer's
pub line_taken : (rank line : ℕ) (a : Answer) (len : ℕ) (text : List ℕ) (w : Happened) → BareIn a len
    → given_what rank (what.Ran line a) len text ≡ Some w → IsGiven rank line a len text w
unfolding given_what given_answer
line_taken rank line (answer.Got from tag body) len text w h given =
    let b = bind_some (behind text (answer_start rank line (answer.Got from tag body) len)) _ w given in
    let x = bind_some (given_answer (answer.Got from tag body) len b.0) _ w b.2 in
    let y = bind_some (bytes_of b.0 len) _ x.0 x.1 in
    let d = bytes_taken b.0 y.0 len y.1 in
    let is : what.Ran line (answer.Got from tag y.0) ≡ w = cc (x.2, y.2) in
    let start = behind_taken text (answer_start rank line (answer.Got from tag body) len) b.0 b.1 in
    record {
      whole = answer.Got from tag y.0;
      is = sym is;
      text_is = start ∙ text_is rank line (answer.Got from tag y.0) len b.0 from tag y.0 d.long d.spelled;
      bare_is = rw h.3 refl;
      long = sym d.long;
      bytes = d.small;
    }
line_taken rank line answer.Started len text w h given =
    plain_taken rank line answer.Started len text w (λ rest. refl) refl refl refl (sym h) tt given
line_taken rank line answer.Busy len text w h given =
    plain_taken rank line answer.Busy len text w (λ rest. refl) refl refl refl (sym h) tt given
line_taken rank line answer.Null len text w h given =
    plain_taken rank line answer.Null len text w (λ rest. refl) refl refl refl (sym h) tt given
line_taken rank line answer.No len text w h given =
    plain_taken rank line answer.No len text w (λ rest. refl) refl refl refl (sym h) tt given
line_taken rank line answer.Nothing len text w h given =
    plain_taken rank line answer.Nothing len text w (λ rest. refl) refl refl refl (sym h) tt given
line_taken rank line answer.Sent len text w h given =
    plain_taken rank line answer.Sent len text w (λ rest. refl) refl refl refl (sym h) tt given
line_taken rank line (answer.Cut from tag n) len text w h given =
    plain_taken rank line (answer.Cut from tag n) len text w (λ rest. refl) refl refl refl (sym h.3) tt given
line_taken rank line answer.Cancelled len text w h given =
    plain_taken rank line answer.Cancelled len text w (λ rest. refl) refl refl refl (sym h) tt given
line_taken rank line (answer.Seen seen) len text w h given =
    plain_taken rank line (answer.Seen seen) len text w (λ rest. refl) refl refl refl (sym h.3) tt given
line_taken rank line answer.Done len text w h given =
    plain_taken rank line answer.Done len text w (λ rest. refl) refl refl refl (sym h) tt given
line_taken rank line answer.Late len text w h given =
    plain_taken rank line answer.Late len text w (λ rest. refl) refl refl refl (sym h) tt given
line_taken rank line answer.Asked len text w h given =
    plain_taken rank line answer.Asked len text w (λ rest. refl) refl refl refl (sym h) tt given
