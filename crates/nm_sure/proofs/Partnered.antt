-- The places and the partners of starts, as two maps of channels have them.
use Rattle.std.proofs.Common.{◌≡◌, ℕ, ◌+◌, ◌<◌, cond, get_or, Option, Some, None, List, [], ◌∷◌, ◌++◌, length, map}
use Rattle.std.proofs.Common.{refl, sym, ◌∙◌}
use Rattle.std.proofs.Common.{ap, arith}
use Rattle.std.specs.Prelude.{is_none, option_and_then, option_map, take}
use Rattle.std.specs.List.{range_with_len, slice_get}
use Rattle.std.specs.Option.{option_map_or}
use Rattle.std.specs.HashMap.{HashMap}
use Rattle.std.specs.declared.vec.Vec.{Vec}
use Rattle.std.proofs.lemmas.List.FromFn.{length-map-range_with_len, map-range_with_len_more}
use Rattle.std.proofs.lemmas.Option.{slice_get_read}
use Rattle.nm_types.specs.declared.scripts.Line.{Line}
use Rattle.nm_sure.specs.declared.partners.Way.{Way}
use Rattle.nm_sure.specs.Held.{held_at}
use Rattle.nm_sure.specs.Ways.{AreAllIn, lines_at, number_if, partner_at, partner_for, partner_in, place_at}
use Rattle.nm_sure.specs.Ways.{place_for, place_in}
use Rattle.nm_sure.specs.Ways.{receive_lines, receive_way, send_lines, send_way}
use Rattle.nm_sure.proofs.Fuel.{in_range}
use Rattle.nm_sure.proofs.Wayside.{receives_more, sends_more}
use Rattle.nm_types.proofs.ListLemmas.{get_map}
use Rattle.nm_types.proofs.OptionLemmas.{same_some}

-- what stands at a place of a list that a function gives
pub given_at : {X : Type 0} (f : ℕ → X) (n k : ℕ) (xs : List X) → xs ≡ map f (range_with_len 0 n) → k < n →
    slice_get xs k ≡ Some (f k)
given_at {X} f n k xs is low =
    ap (λ (ys : List X). slice_get ys k) is
    ∙ get_map f (range_with_len 0 n) k (0 + k) (in_range 0 n k low)
    ∙ ap (λ (m : ℕ). Some (f m)) (zero_add k)
  where
    zero_add : (m : ℕ) → 0 + m ≡ m
    zero_add m = omega arith

pub given_read : {X : Type 0} (f : ℕ → X) (n k : ℕ) (xs : List X) (x : X) → xs ≡ map f (range_with_len 0 n) → k < n →
    x ≡ get_or xs k x → x ≡ f k
given_read {X} f n k xs x is low here =
    let count : length xs ≡ n = ap (λ (ys : List X). length ys) is ∙ length-map-range_with_len f 0 n in
    same_some x (f k)
    (sym (slice_get_read xs (length xs) k x refl (omega (arith, count, low)) here) ∙ given_at f n k xs is low)

-- both maps have the starts of one line more
pub all_more : {A B S T : Type 0} (s s' : HashMap Way (Vec ℕ A) S) (r r' : HashMap Way (Vec ℕ B) T)
    (lines : List Line) (k : ℕ) (line : Line)
    (held : Option ℕ) → slice_get lines k ≡ Some line → held ≡ held_at lines k → AreAllIn s r (take k lines) →
    ((w : Way) → lines_at s' w ≡ lines_at s w ++ cond (is_none held) (number_if w (send_way line) (k + 2)) []) →
    ((w : Way) → lines_at r' w ≡ lines_at r w ++ cond (is_none held) (number_if w (receive_way line) (k + 2)) []) →
    AreAllIn s' r' (take (k + 1) lines)
all_more s s' r r' lines k line held here same all sent taken = record {
  sent = λ w.
      sent w
      ∙ ap (λ (ls : List ℕ). ls ++ cond (is_none held) (number_if w (send_way line) (k + 2)) []) (all.sent w)
      ∙ ap (λ (o : Option ℕ). send_lines (take k lines) w ++ cond (is_none o) (number_if w (send_way line) (k + 2))
      []) same
      ∙ sym (sends_more lines k line w here);
  taken = λ w.
      taken w
      ∙ ap (λ (ls : List ℕ). ls ++ cond (is_none held) (number_if w (receive_way line) (k + 2)) []) (all.taken w)
      ∙ ap (λ (o : Option ℕ). receive_lines (take k lines) w ++ cond (is_none o)
      (number_if w (receive_way line) (k + 2)) []) same
      ∙ sym (receives_more lines k line w here);
}

place_now : {A B S T : Type 0} (s : HashMap Way (Vec ℕ A) S) (r : HashMap Way (Vec ℕ B) T) (lines : List Line)
    (line : Line) →
    AreAllIn s r lines → place_in s r line ≡ place_for lines line
place_now s r lines line all = by_way (send_way line) (receive_way line)
  where
    by_way : (o p : Option Way) →
        option_map_or (λ w. Some (length (lines_at s w))) o (option_map (λ w. length (lines_at r w)) p)
        ≡ option_map_or (λ w. Some (length (send_lines lines w))) o (option_map (λ w. length (receive_lines lines w)) p)
    by_way (Some w) p = ap (λ (ls : List ℕ). Some (length ls)) (all.sent w)
    by_way None (Some w) = ap (λ (ls : List ℕ). Some (length ls)) (all.taken w)
    by_way None None = refl

-- one place more
pub place_more : {A B S T : Type 0} (s : HashMap Way (Vec ℕ A) S) (r : HashMap Way (Vec ℕ B) T) (lines : List Line)
    (k : ℕ) (line : Line)
    (held : Option ℕ) (old new : List (Option ℕ)) → slice_get lines k ≡ Some line → held ≡ held_at lines k →
    AreAllIn s r (take k lines) → old ≡ map (place_at lines) (range_with_len 0 k) →
    new ≡ old ++ cond (is_none held) (place_in s r line) None ∷ [] →
    new ≡ map (place_at lines) (range_with_len 0 (k + 1))
place_more s r lines k line held old new here same all so_far put =
    put
    ∙ ap (λ (o : Option ℕ). old ++ cond (is_none o) (place_in s r line) None ∷ []) same
    ∙ ap (λ (p : Option ℕ). old ++ cond (is_none (held_at lines k)) p None ∷ []) (place_now s r (take k lines) line all)
    ∙ ap (λ (o : Option Line). old ++ cond (is_none (held_at lines k)) (option_and_then (place_for (take k lines)) o)
    None ∷ []) (sym here)
    ∙ ap (λ (os : List (Option ℕ)). os ++ place_at lines k ∷ []) so_far
    ∙ sym (map-range_with_len_more (place_at lines) 0 k k (omega arith))

partner_now : {A B S T : Type 0} (s : HashMap Way (Vec ℕ A) S) (r : HashMap Way (Vec ℕ B) T) (lines : List Line)
    (line : Line) (place : ℕ) →
    AreAllIn s r lines → partner_in s r line place ≡ partner_for lines line place
partner_now s r lines line place all = by_way (send_way line) (receive_way line)
  where
    by_way : (o p : Option Way) →
        option_map_or (λ w. slice_get (lines_at r w) place) o (option_and_then (λ w. slice_get (lines_at s w) place) p)
        ≡ option_map_or (λ w. slice_get (receive_lines lines w) place) o
        (option_and_then (λ w. slice_get (send_lines lines w) place) p)
    by_way (Some w) p = ap (λ (ls : List ℕ). slice_get ls place) (all.taken w)
    by_way None (Some w) = ap (λ (ls : List ℕ). slice_get ls place) (all.sent w)
    by_way None None = refl

-- one partner more
pub partner_more : {A B S T : Type 0} (s : HashMap Way (Vec ℕ A) S) (r : HashMap Way (Vec ℕ B) T) (lines : List Line)
    (k : ℕ) (line : Line)
    (place x : Option ℕ) (old new : List (Option ℕ)) → slice_get lines k ≡ Some line → place ≡ place_at lines k →
    AreAllIn s r lines → old ≡ map (partner_at lines) (range_with_len 0 k) →
    x ≡ option_and_then (partner_in s r line) place →
    new ≡ old ++ x ∷ [] → new ≡ map (partner_at lines) (range_with_len 0 (k + 1))
partner_more s r lines k line place x old new here same all so_far is put =
    put
    ∙ ap (λ (y : Option ℕ). old ++ y ∷ []) (is ∙ each place ∙ at_line)
    ∙ ap (λ (os : List (Option ℕ)). os ++ partner_at lines k ∷ []) so_far
    ∙ sym (map-range_with_len_more (partner_at lines) 0 k k (omega arith))
  where
    each : (o : Option ℕ) → option_and_then (partner_in s r line) o ≡ option_and_then (partner_for lines line) o
    each None = refl
    each (Some p) = partner_now s r lines line p all

    at_line : option_and_then (partner_for lines line) place ≡ partner_at lines k
    at_line =
        ap (λ (o : Option ℕ). option_and_then (partner_for lines line) o) same
        ∙ ap (λ (o : Option Line). option_and_then
        (λ (l : Line). option_and_then (partner_for lines l) (place_at lines k)) o) (sym here)
