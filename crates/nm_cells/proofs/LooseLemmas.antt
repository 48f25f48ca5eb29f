-- What each kind of step does to the loose cells: nothing.
use Rattle.std.proofs.Common.{◌≡◌, ◌≢◌, ℕ, ◌<◌, ◌≤◌, Bool, true, false, Option, Some, None}
use Rattle.std.proofs.Common.{List, [], ◌∷◌, length, map, sym, ◌∙◌, subst, arith, length-set, get_or-set_other}
use Rattle.nm_chain.specs.Spoken.{view}
use Rattle.nm_chain.specs.declared.table.table.Hand.{Hand}
use Rattle.nm_chain.specs.declared.table.table.Hand.TheVariants.{Away, Loose, Held, Ready, Entering}
use Rattle.nm_chain.specs.declared.table.table.Heads.{Heads}
use Rattle.nm_chain.specs.declared.table.table.Entry.{Entry}
use Rattle.nm_chain.specs.Rule.{Load, hand}
use Rattle.nm_chain.specs.Plays as plays
use Rattle.nm_chain.specs.Plays.{Knowing, mine, with_hand, Took}
use Rattle.nm_chain.specs.OwnQueues.{OwnQueue, receive_queue, free_queue}
use Rattle.nm_cells.specs.Carried.{times}
use Rattle.nm_cells.specs.declared.loose.LooseCells.{LooseCells}
use Rattle.nm_cells.specs.LooseCells.{IsAmong, AreKept}
use Rattle.nm_cells.proofs.HoldingLemmas.{load_behind, turned_by, load_by}

module _ {A : Type 0} where
  not_away : (h : Hand A) → h ≡ Held → h ≡ Away → ⊥
  not_away h held away = cc

  not_ready : (y : Load A) → Held ≡ Ready y → ⊥
  not_ready y e = cc

  not_entering : (h : Hand A) (q t : ℕ) → h ≡ Held → h ≡ Entering q t → ⊥
  not_entering h q t held entering = cc

  not_loose : (h : Hand A) → h ≡ Held → h ≡ Loose → ⊥
  not_loose h held loose = cc

module _ {A : Type 0} (x : LooseCells) (e : Entry A) (slots : List (ℕ × Load A)) (h : AreKept x e slots) where
  pub away_apart : (c : ℕ) → hand e c ≡ Away → ¬ IsAmong x c
  away_apart c is i = not_away (hand e c) (h c i).1 is

  pub entering_apart : (c q t : ℕ) → hand e c ≡ Entering q t → ¬ IsAmong x c
  entering_apart c q t is i = not_entering (hand e c) q t (h c i).1 is

  pub loose_apart : (c : ℕ) → hand e c ≡ Loose → ¬ IsAmong x c
  loose_apart c is i = not_loose (hand e c) (h c i).1 is

  pub far_apart : (k : ℕ) → length e.hands ≤ k → ¬ IsAmong x k
  far_apart k far i = let low = (h k i).0 in absurd (omega arith)

  -- what the rank has of another cell changes
  pub kept_hand : (c : ℕ) (new : Hand A) → ¬ IsAmong x c → AreKept x (with_hand c new e) slots
  kept_hand c new out d i = let k = h d i in let ne : d ≢ c = λ u. out (subst (IsAmong x) u i) in (
    subst (λ n. d < n) (sym (length-set e.hands c new)) k.0,
    get_or-set_other e.hands c d new Away ne ∙ k.1,
    k.2,
    k.3,
  )

  -- another slot is taken
  pub kept_push : (c : ℕ) (y : Load A) → ¬ IsAmong x c → AreKept x e ((c, y) ∷ slots)
  kept_push c y out d i = let k = h d i in let ne : c ≢ d = λ u. out (subst (IsAmong x) (sym u) i) in (
    k.0,
    k.1,
    load_behind c d y slots ne ∙ k.2,
    k.3,
  )

  -- the slots are turned
  pub kept_turned : (j : ℕ) → j ≤ length slots
      → ((c : ℕ) → c < length e.hands → times c (map (λ (s : ℕ × Load A). s.0) slots) ≤ 1)
      → AreKept x e (turned_by j slots)
  kept_turned j low once d i = let k = h d i in
      (k.0, k.1, load_by slots d j low (once d k.0) ∙ k.2, k.3)

  pub kept_heads : (b : OwnQueue) (s : Heads) → AreKept x (plays.with_heads b s e) slots
  kept_heads receive_queue s = h
  kept_heads free_queue s = h

module _ {A : Type 0} where
  -- another slot is given back
  pub kept_pop : (x : LooseCells) (e : Entry A) (slots : List (ℕ × Load A)) (c : ℕ) (y : Load A)
      → ¬ IsAmong x c → AreKept x e ((c, y) ∷ slots) → AreKept x e slots
  kept_pop x e slots c y out h d i = let k = h d i in
      let ne : c ≢ d = λ u. out (subst (IsAmong x) (sym u) i) in (
        k.0,
        k.1,
        sym (load_behind c d y slots ne) ∙ k.2,
        k.3,
      )

  -- a cell of an own queue is taken
  pub kept_took : (x : LooseCells) (me after : Knowing A) (b : OwnQueue) (c shadow : ℕ)
      → Took b c shadow me after → AreKept x (mine me) me.1 → AreKept x (mine after) after.1
  kept_took x me after b c shadow t h = let out = away_apart x (mine me) me.1 h c t.away in
      subst (λ (m : Knowing A). AreKept x (mine m) m.1) (sym t.after_is)
      (by_queue b out (kept_push x (mine me) me.1 h c t.load out)) where
        by_queue : (k : OwnQueue) → ¬ IsAmong x c → AreKept x (mine me) ((c, t.load) ∷ me.1)
            → AreKept x (plays.taken k c t.load shadow (mine me)) ((c, t.load) ∷ me.1)
        by_queue receive_queue out kept = kept_hand x (mine me) ((c, t.load) ∷ me.1) kept c Held out
        by_queue free_queue out kept = kept_hand x (mine me) ((c, t.load) ∷ me.1) kept c Held out

module _ {A : Type 0} (x : LooseCells) (me after : Knowing A) (h : AreKept x (mine me) me.1) where
  -- a box's slot is taken, to fill it
  pub kept_opened : (j k : ℕ) (was : Bool) → length (mine me).hands ≤ k
      → after ≡ (view (plays.with_filling j true (mine me) ∷ []), plays.slots_to_fill was k me.1)
      → AreKept x (mine after) after.1
  kept_opened j k true far is = subst (λ (m : Knowing A). AreKept x (mine m) m.1) (sym is) h
  kept_opened j k false far is = subst (λ (m : Knowing A). AreKept x (mine m) m.1) (sym is)
      (kept_push x (mine me) me.1 h k None (far_apart x (mine me) me.1 h k far))

  -- or to empty it
  pub kept_begun : (i k : ℕ) (was : Option (Load A)) (y : Load A) → length (mine me).hands ≤ k
      → after ≡ (
        view (plays.with_emptying i (Some y) (mine me) ∷ []),
        plays.slots_to_empty was k y me.1,
      ) → AreKept x (mine after) after.1
  kept_begun i k (Some z) y far is = subst (λ (m : Knowing A). AreKept x (mine m) m.1) (sym is) h
  kept_begun i k None y far is = subst (λ (m : Knowing A). AreKept x (mine m) m.1) (sym is)
      (kept_push x (mine me) me.1 h k y (far_apart x (mine me) me.1 h k far))
