-- The other lines behind the events, both ways: counts of packets, a rank that waits, the cells, the end.
use Rattle.std.proofs.Common.{◌≡◌, ℕ, ◌<◌, ◌^◌, inl, inr, Bool, true, false, ◌&&◌, List, [], ◌∷◌}
use Rattle.std.proofs.Common.{Some, refl, ap, ◌∙◌, codes, decimal, eqb}
use Rattle.std.specs.Str.{bytes_eq}
use Rattle.std.proofs.lemmas.Bool.{and_parts, eq-eqb, eqb-true}
use Rattle.nm_types.specs.declared.answers.Account.{Account}
use Rattle.nm_report.specs.declared.pairs.PairCount.{PairCount}
use Rattle.nm_script.specs.Decimal.{number_of}
use Rattle.nm_script.proofs.WordsStepLemmas.{chosen}
use Rattle.nm_trace.specs.Events.{pair_of}
use Rattle.nm_trace.specs.Machine.{waits_of, cells_of, cells_with, end_of}
use Rattle.nm_trace.specs.Notes.{pair_words, waits_words, cells_words, end_word}
use Rattle.nm_trace.specs.Traces.{PairIn, CellsIn}
use Rattle.nm_script.proofs.StepLemmas.{guard_some}
use Rattle.nm_trace.proofs.FieldLemmas.{bind_some, same_bytes, small_again, large_again}
use Rattle.nm_trace.proofs.FieldLemmas.{huge_again, small_taken, large_taken, huge_taken}
use Rattle.nm_trace.proofs.AnswerLemmas.{same_four}

pub pair_again : (p : PairCount) → PairIn p → pair_of (pair_words p) ≡ Some p
unfolding pair_of
pair_again p h = rw (small_again p.from h.0, small_again p.to h.1, huge_again p.packets h.2) refl

pub waits_again : (rank line : ℕ) → rank < 2 ^ 8 → line < 2 ^ 64
    → waits_of rank (waits_words rank line) ≡ Some line
unfolding waits_of
waits_again rank line small h = rw (small_again rank small, huge_again line h, eq-eqb rank rank refl) refl

pub cells_again : (c : Account) → CellsIn c → cells_of (cells_words c) ≡ Some c
unfolding cells_of cells_with
cells_again c h = rw (large_again c.total h.0, large_again c.home h.1) refl

pub end_again : (d : Bool) → end_of (end_word d) ≡ Some d
unfolding end_of
end_again true = refl
end_again false = refl

same_three : (a b c e f g : List ℕ) → a ≡ e → b ≡ f → c ≡ g → a ∷ b ∷ c ∷ [] ≡ e ∷ f ∷ g ∷ []
same_three a b c e f g p q r = cc (p, q, r)

pub pair_taken : (words : List (List ℕ)) (p : PairCount) → pair_of words ≡ Some p
    → (words ≡ pair_words p) × PairIn p
unfolding pair_of
pair_taken [] p h = cc
pair_taken (a ∷ []) p h = cc
pair_taken (a ∷ b ∷ []) p h = cc
pair_taken (a ∷ b ∷ c ∷ []) p h = cc
pair_taken (name ∷ from_w ∷ to_w ∷ packets_w ∷ []) p h =
    let g = guard_some (bytes_eq name (codes "pair")) _ p h in
    let f = bind_some (number_of (2 ^ 8) from_w) _ p g.1 in
    let t = bind_some (number_of (2 ^ 8) to_w) _ p f.2 in
    let n = bind_some (number_of (2 ^ 64) packets_w) _ p t.2 in
    let from = small_taken f.0 from_w f.1 in
    let to = small_taken t.0 to_w t.1 in
    let packets = huge_taken n.0 packets_w n.1 in
    let is : record { from = f.0; to = t.0; packets = n.0 } ≡ p = cc (n.2) in
    rw (← is) (
      same_four _ _ _ _ _ _ _ _ (same_bytes name (codes "pair") g.0) from.1 to.1 packets.1,
      (from.0, to.0, packets.0),
    )
pair_taken (a ∷ b ∷ c ∷ d ∷ e ∷ more) p h = cc

pub waits_taken : (rank line : ℕ) (words : List (List ℕ)) → waits_of rank words ≡ Some line
    → (words ≡ waits_words rank line) × (line < 2 ^ 64)
unfolding waits_of
waits_taken rank line [] h = cc
waits_taken rank line (a ∷ []) h = cc
waits_taken rank line (a ∷ b ∷ []) h = cc
waits_taken rank line (r ∷ line_w ∷ name ∷ []) h =
    let n = bind_some (number_of (2 ^ 8) r) _ line h in
    let g = guard_some (eqb n.0 rank && bytes_eq name (codes "waits")) _ line n.2 in
    let p = and_parts (eqb n.0 rank) (bytes_eq name (codes "waits")) g.0 in
    let l = huge_taken line line_w g.1 in
    let first : r ≡ decimal rank = (small_taken n.0 r n.1).1 ∙ ap decimal (eqb-true n.0 rank p.0) in
    (same_three _ _ _ _ _ _ first l.1 (same_bytes name (codes "waits") p.1), l.0)
waits_taken rank line (a ∷ b ∷ c ∷ d ∷ more) h = cc

pub cells_taken : (words : List (List ℕ)) (c : Account) → cells_of words ≡ Some c
    → (words ≡ cells_words c) × CellsIn c
unfolding cells_of cells_with
cells_taken [] c h = cc
cells_taken (a ∷ []) c h = cc
cells_taken (a ∷ b ∷ []) c h = cc
cells_taken (a ∷ b ∷ d ∷ []) c h = cc
cells_taken (name ∷ total_w ∷ word ∷ home_w ∷ []) c h =
    let g = guard_some (bytes_eq name (codes "cells") && bytes_eq word (codes "home")) _ c h in
    let p = and_parts (bytes_eq name (codes "cells")) (bytes_eq word (codes "home")) g.0 in
    let t = bind_some (number_of (2 ^ 32) total_w) _ c g.1 in
    let m = bind_some (number_of (2 ^ 32) home_w) _ c t.2 in
    let total = large_taken t.0 total_w t.1 in
    let home = large_taken m.0 home_w m.1 in
    let is : record { total = t.0; home = m.0 } ≡ c = cc (m.2) in
    rw (← is) (
      same_four _ _ _ _ _ _ _ _ (same_bytes name (codes "cells") p.0) total.1
          (same_bytes word (codes "home") p.1) home.1,
      (total.0, home.0),
    )
cells_taken (a ∷ b ∷ d ∷ e ∷ f ∷ more) c h = cc

pub end_taken : (line : List ℕ) (d : Bool) → end_of line ≡ Some d → line ≡ end_word d
unfolding end_of
end_taken line d h =
    elim (chosen (bytes_eq line (codes "done")) _ _ (Some d) h) [
      | inl e ↦
          let is : true ≡ d = cc (e.1) in
          rw (← is) (same_bytes line (codes "done") e.0)
      | inr e ↦
          let g = guard_some (bytes_eq line (codes "stuck")) (Some false) d e.1 in
          let is : false ≡ d = cc (g.1) in
          rw (← is) (same_bytes line (codes "stuck") g.0)
    ]
