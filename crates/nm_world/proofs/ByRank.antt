-- The places of each rank's commands, with one line more.
use Rattle.std.proofs.Common.{◌≡◌, ◌≢◌, ℕ, suc, ◌+◌, ◌<◌, ◌==◌, Bool, true, false, cond, Some, List, [], ◌∷◌, ◌++◌}
use Rattle.std.proofs.Common.{length, map, take, get_or, refl, sym, ap, ◌∙◌, subst, arith, append-nil}
use Rattle.std.proofs.lemmas.Bool.{eq-eqb, ne_eqb}
use Rattle.std.specs.List.{All, AllZip, slice_get}
use Rattle.std.specs.Prelude.{Vec, slice_index_or}
use Rattle.std.proofs.lemmas.List.{length-take-le, map-append}
use Rattle.std.proofs.lemmas.Option.{get_or_from_slice_get}
use mathlib.Core.Logic.{dite}
use native.Mathlib.Decide.{ℕ_discrete}
use Rattle.nm_types.specs.declared.scripts.Line.{Line}
use Rattle.nm_types.specs.Commands.{Numbered, commands_from, commands_of, numbered}
use Rattle.nm_types.proofs.ListLemmas.{place_below, take_next}
use Rattle.nm_types.specs.declared.packets.Packet.{Packet}
use Rattle.nm_cells.specs.declared.port.Port.{Port}
use Rattle.std.proofs.lemmas.List.Elements.{All-cons}
use Rattle.nm_history.specs.Quiescence.{commands_by_rank}
use Rattle.nm_process.specs.Places.{ArePlaces, ScriptedView, gives_lines, shown}
use Rattle.nm_world.specs.Players.{AreGiven, BeginsAt, GoesOn}
use Rattle.nm_world.specs.ByRank.{AreByRank, AreScripts, Notes}

-- the number of a rank's line behind others
lines_behind : (rank number : ℕ) (xs : List Line) (l : Line) →
    map (λ (c : Numbered). c.line) (commands_from rank number (xs ++ l ∷ []))
    ≡ map (λ (c : Numbered). c.line) (commands_from rank number xs)
    ++ cond (l.rank == rank) ((number + length xs) ∷ []) []
lines_behind rank number [] l = by_rank (l.rank == rank)
  where
    by_rank : (b : Bool) → map (λ (c : Numbered). c.line) (cond b (numbered number l ∷ []) []) ≡ cond b
        ((number + 0) ∷ []) []
    by_rank true = ap (λ (k : ℕ). k ∷ []) (omega arith)
    by_rank false = refl
lines_behind rank number (x ∷ xs) l =
    let sum : (number + 1) + length xs ≡ number + suc (length xs) = omega arith in
    by_rank (x.rank == rank) (subst (λ (k : ℕ).
    map (λ (c : Numbered). c.line) (commands_from rank (number + 1) (xs ++ l ∷ []))
    ≡ map (λ (c : Numbered). c.line) (commands_from rank (number + 1) xs) ++ cond (l.rank == rank) (k ∷ []) [])
    sum (lines_behind rank (number + 1) xs l))
  where
    by_rank : (b : Bool) → map (λ (c : Numbered). c.line) (commands_from rank (number + 1) (xs ++ l ∷ []))
        ≡ map (λ (c : Numbered). c.line) (commands_from rank (number + 1) xs)
        ++ cond (l.rank == rank) ((number + suc (length xs)) ∷ []) [] →
        map (λ (c : Numbered). c.line) (cond b
        (numbered number x ∷ commands_from rank (number + 1) (xs ++ l ∷ []))
        (commands_from rank (number + 1) (xs ++ l ∷ [])))
        ≡ map (λ (c : Numbered). c.line) (cond b (numbered number x ∷ commands_from rank (number + 1) xs)
        (commands_from rank (number + 1) xs)) ++ cond (l.rank == rank) ((number + suc (length xs)) ∷ []) []
    by_rank true later = ap (λ (ks : List ℕ). number ∷ ks) later
    by_rank false later = later

lines_more : (lines : List Line) (k rank : ℕ) (line : Line) (t : Bool) → k < length lines →
    line ≡ get_or lines k line → (line.rank == rank) ≡ t →
    map (λ (c : Numbered). c.line) (commands_of rank (take (k + 1) lines))
    ≡ map (λ (c : Numbered). c.line) (commands_of rank (take k lines)) ++ cond t ((k + 2) ∷ []) []
lines_more lines k rank line t inside is test =
    let many = length-take-le k lines (omega arith) in
    let number : 2 + length (take k lines) ≡ k + 2 = omega (arith, many) in
    ap (λ (ls : List Line). map (λ (c : Numbered). c.line) (commands_of rank ls)) (take_next lines k line inside is)
    ∙ lines_behind rank 2 (take k lines) line
    ∙ ap (λ (n : ℕ). map (λ (c : Numbered). c.line) (commands_of rank (take k lines))
    ++ cond (line.rank == rank) (n ∷ []) []) number
    ∙ ap (λ (b : Bool). map (λ (c : Numbered). c.line) (commands_of rank (take k lines)) ++ cond b ((k + 2) ∷ []) [])
    test

-- the places of the line's own rank
pub own_more : (lines : List Line) (k rank : ℕ) (line : Line) (old new : List ℕ) → k < length lines →
    line ≡ get_or lines k line → line.rank ≡ rank → ArePlaces (take k lines) rank old → new ≡ old ++ k ∷ [] →
    ArePlaces (take (k + 1) lines) rank new
own_more lines k rank line old new inside is own so_far put =
    ap (λ (ps : List ℕ). map (λ (p : ℕ). p + 2) ps) put
    ∙ map-append (λ (p : ℕ). p + 2) old (k ∷ [])
    ∙ ap (λ (ls : List ℕ). ls ++ (k + 2) ∷ []) so_far
    ∙ sym (lines_more lines k rank line true inside is (eq-eqb line.rank rank own))

-- those of another rank
pub others_more : (lines : List Line) (k rank : ℕ) (line : Line) (own : List ℕ) → k < length lines →
    line ≡ get_or lines k line → line.rank ≢ rank → ArePlaces (take k lines) rank own →
    ArePlaces (take (k + 1) lines) rank own
others_more lines k rank line own inside is other so_far =
    so_far ∙ sym (lines_more lines k rank line false inside is (ne_eqb line.rank rank other)
    ∙ append-nil (map (λ (c : Numbered). c.line) (commands_of rank (take k lines))))

-- one place more
pub noted : {A : Type 0} (lines : List Line) (k : ℕ) (line : Line) (old new : List (Vec ℕ A)) → k < length lines →
    line ≡ get_or lines k line → AreByRank (take k lines) old → Notes line.rank k old new →
    AreByRank (take (k + 1) lines) new
noted {A} lines k line old new inside is before notes = record {
  each = λ rank d low.
      let many = notes.many in
      let was = before.each rank d (omega (arith, low, many)) in
      dite (ℕ_discrete line.rank rank)
      (λ own. own_more lines k rank line (slice_index_or old rank d).items (slice_index_or new rank d).items inside is
      own was (subst (λ (r : ℕ). (slice_index_or new r d).items ≡ (slice_index_or old r d).items ++ k ∷ []) own
      (notes.own d)))
      (λ other. subst (λ (v : Vec ℕ A). ArePlaces (take (k + 1) lines) rank v.items)
      (sym (notes.others rank d (λ same. other (sym same))))
      (others_more lines k rank line (slice_index_or old rank d).items inside is other was));
}

-- those of one rank
pub at_rank : {A : Type 0} (lines : List Line) (all : List (Vec ℕ A)) (rank : ℕ) (own : Vec ℕ A) →
    AreByRank lines all → slice_get all rank ≡ Some own → ArePlaces lines rank own.items
at_rank {A} lines all rank own by_rank at = subst (λ (v : Vec ℕ A). ArePlaces lines rank v.items)
    (get_or_from_slice_get all rank own own at) (by_rank.each rank own (place_below all rank own at))

-- of each of these ports, those of its rank
pub of_ports : {A : Type 0} (lines : List Line) (k : ℕ) (ps : List (Port Packet)) (owns : List (Vec ℕ A)) →
    length owns ≡ length ps → ((i : ℕ) (p : Port Packet) → slice_get ps i ≡ Some p → p.rank ≡ k + i) →
    ((i : ℕ) (own : Vec ℕ A) → slice_get owns i ≡ Some own → ArePlaces lines (k + i) own.items) →
    AllZip (λ (p : Port Packet) (own : Vec ℕ A). ArePlaces lines p.rank own.items) ps owns
of_ports lines k [] [] many ranks places = tt
of_ports lines k [] (own ∷ owns) many ranks places = absurd (omega (arith, many))
of_ports lines k (p ∷ ps) [] many ranks places = absurd (omega (arith, many))
of_ports {A} lines k (p ∷ ps) (own ∷ owns) many ranks places = (
  subst (λ (r : ℕ). ArePlaces lines r own.items) (sym (ranks 0 p refl)) (places 0 own refl),
  of_ports lines (k + 1) ps owns (omega (arith, many)) (λ i x at. ranks (suc i) x at ∙ sym (later i))
      (λ i x at. subst (λ (r : ℕ). ArePlaces lines r x.items) (sym (later i)) (places (suc i) x at)),
)
  where
    later : (i : ℕ) → (k + 1) + i ≡ k + suc i
    later i = omega arith

-- what gives the commands of each rank, at its start
pub scripts_begin : (ranks : ℕ) (lines : List Line) (k : ℕ) (scripts : List ScriptedView) →
    AreScripts ranks lines k scripts → All (BeginsAt shown gives_lines ranks) scripts
scripts_begin ranks lines k [] are = λ i d low. absurd (omega (arith, low))
scripts_begin ranks lines k (s ∷ scripts) are =
    All-cons (BeginsAt shown gives_lines ranks) s scripts (record {
      at = are.3;
      ranks = are.2;
      told = tt;
      some = record { commands = commands_of s.me s.lines; last = s.next + 1; some = (refl, refl) };
    }) (scripts_begin ranks lines (k + 1) scripts are.4)

-- it gives them still at the end
pub scripts_give : (ranks : ℕ) (lines : List Line) (k : ℕ) (scripts left : List ScriptedView) →
    AreScripts ranks lines k scripts → AllZip (GoesOn shown gives_lines) scripts left →
    AreGiven gives_lines (commands_by_rank lines) k left
scripts_give ranks lines k [] [] are went = tt
scripts_give ranks lines k [] (t ∷ left) are went = absurd went
scripts_give ranks lines k (s ∷ scripts) [] are went = absurd went
scripts_give ranks lines k (s ∷ scripts) (t ∷ left) are went =
    let own = commands_of t.me t.lines in
    let before = went.0.gave own (t.next + 1) (refl, refl) in
    let same : own ≡ commands_of k lines = before.gives.0 ∙ ap (λ (r : ℕ). commands_of r s.lines) are.1
    ∙ ap (λ (ls : List Line). commands_of k ls) are.0 in (
      record { before = t.next + 1; gives = (sym same, refl) },
      scripts_give ranks lines (k + 1) scripts left are.4 went.1,
    )

-- one more
pub scripts_more : (ranks : ℕ) (lines : List Line) (k : ℕ) (scripts : List ScriptedView) (s : ScriptedView) →
    AreScripts ranks lines k scripts → s.lines ≡ lines → s.me ≡ k + length scripts → s.ranks ≡ ranks → s.at ≡ 0 →
    AreScripts ranks lines k (scripts ++ s ∷ [])
scripts_more ranks lines k [] s are own me many none = (own, me ∙ omega arith, many, none, tt)
scripts_more ranks lines k (x ∷ scripts) s are own me many none = (
  are.0,
  are.1,
  are.2,
  are.3,
  scripts_more ranks lines (k + 1) scripts s are.4 own (me ∙ omega arith) many none,
)
