-- A rank runs its next line.
use Rattle.std.proofs.Common.{◌≡◌, ℕ, zero, suc, ◌+◌, ◌-◌, ◌<◌, ◌≤◌, ◌==◌, false, Option, Some, None}
use Rattle.std.proofs.Common.{List, ◌∷◌, map, refl, sym, ◌∙◌, ap, subst, arith}
use Rattle.std.specs.Prelude.{option_and_then, option_map}
use Rattle.std.specs.List.{range_with_len, slice_get, slice_set}
use Rattle.std.specs.Option.{option_map_or}
use Rattle.nm_types.specs.declared.scripts.Line.{Line}
use Rattle.nm_types.specs.Commands.{Numbered, commands_of, rank_line}
use Rattle.nm_types.proofs.NumberLemmas.{eq_false, eq_later}
use Rattle.nm_history.specs.declared.events.Event.{Event}
use Rattle.nm_outcomes.specs.Places.{RankPoint}
use Rattle.nm_lawful.specs.declared.messages.Act.{Act}
use Rattle.nm_lawful.specs.declared.moves.Move.TheVariants as move
use Rattle.nm_lawful.specs.declared.states.Deed.{Deed}
use Rattle.nm_lawful.specs.declared.states.Deed.TheVariants as deed
use Rattle.nm_lawful.specs.Moves.{Goes, Report, next_of_lem, run_by_lem, told_at_lem}
use Rattle.nm_lawful.specs.Ranks.{RankState, ran_at}
use Rattle.nm_lawful.specs.Replies.{act_of_lem}
use Rattle.nm_lawful.specs.States.{after_lem, received_by, with_rank}
use Rattle.nm_runs_lawful.specs.Stands.{Leads, effects, rank_of}
use Rattle.nm_runs_lawful.proofs.NextLemmas.{line_there, next_is}

-- the state of one rank of all
pub row_of : (f : ℕ → RankState) (i start n : ℕ) → i < n →
    slice_get (map f (range_with_len start n)) i ≡ Some (f (start + i))
row_of f i start zero low = absurd (omega (arith, low))
row_of f zero start (suc n) low = ap (λ (k : ℕ). Some (f k)) (omega arith)
row_of f (suc i) start (suc n) low =
    row_of f i (start + 1) n (omega (arith, low)) ∙ ap (λ (k : ℕ). Some (f k)) (omega arith)

rows_from : (f g : ℕ → RankState) (start n : ℕ) → ((k : ℕ) → start ≤ k → f k ≡ g k) →
    map f (range_with_len start n) ≡ map g (range_with_len start n)
rows_from f g start zero same = refl
rows_from f g start (suc n) same =
    ap (λ (r : RankState). r ∷ map f (range_with_len (start + 1) n)) (same start (omega arith))
    ∙ ap (λ (rs : List RankState). g start ∷ rs)
    (rows_from f g (start + 1) n (λ k past. same k (omega (arith, past))))

-- .. is changed, and the others are not
set_row : (f g : ℕ → RankState) (i start n : ℕ) → i < n →
    ((k : ℕ) → ((start + i) == k) ≡ false → g k ≡ f k) →
    slice_set (map f (range_with_len start n)) i (g (start + i)) ≡ map g (range_with_len start n)
set_row f g i start zero low others = absurd (omega (arith, low))
set_row f g zero start (suc n) low others =
    ap (λ (k : ℕ). g k ∷ map f (range_with_len (start + 1) n)) (omega arith)
    ∙ ap (λ (rs : List RankState). g start ∷ rs)
    (rows_from f g (start + 1) n (λ k past. sym (others k (eq_later (start + 0) k (omega (arith, past))))))
set_row f g (suc i) start (suc n) low others =
    ap (λ (k : ℕ). f start ∷ slice_set (map f (range_with_len (start + 1) n)) i (g k)) (omega arith)
    ∙ ap (λ (r : RankState). r ∷ slice_set (map f (range_with_len (start + 1) n)) i (g (start + 1 + i)))
    (sym (others start (eq_false (start + suc i) start (omega arith))))
    ∙ ap (λ (rs : List RankState). g start ∷ rs)
    (set_row f g i (start + 1) n (omega (arith, low))
    (λ k other. others k (subst (λ (m : ℕ). (m == k) ≡ false) (shifted start i) other)))
  where
    shifted : (start i : ℕ) → start + 1 + i ≡ start + suc i
    shifted start i = omega arith

pub with_row : (f g : ℕ → RankState) (change : RankState → RankState) (i n : ℕ) → i < n → g i ≡ change (f i) →
    ((k : ℕ) → (i == k) ≡ false → g k ≡ f k) →
    with_rank change i (map f (range_with_len 0 n)) ≡ map g (range_with_len 0 n)
with_row f g change i n low here others =
    ap (λ (o : Option RankState). option_map_or (λ a. slice_set (map f (range_with_len 0 n)) i (change a)) o
    (map f (range_with_len 0 n))) (row_of f i 0 n low)
    ∙ ap (λ (x : RankState). slice_set (map f (range_with_len 0 n)) i x)
    (ap (λ (k : ℕ). change (f k)) (zero_add i) ∙ sym here ∙ ap g (sym (zero_add i)))
    ∙ set_row f g i 0 n low (λ k other. others k (subst (λ (m : ℕ). (m == k) ≡ false) (zero_add i) other))
  where
    zero_add : (n : ℕ) → 0 + n ≡ n
    zero_add n = omega arith

module _ (lines : List Line) (told : Report) (state : List RankState) (i : ℕ) (rank : RankState)
    (here : slice_get state i ≡ Some rank)
  where
    abbrev acted : ℕ → Line → Option Act
    acted place l = act_of_lem lines state i rank place l.command (told_at_lem told None place)

    -- the rank runs its next line
    pub run_goes : (place : ℕ) (l : Line) (a : Act) → next_of_lem lines i rank.at ≡ Some place →
        slice_get lines place ≡ Some l → acted place l ≡ Some a →
        Goes lines told None state (after_lem state (deed.Run i place (place + 1) a))
    run_goes place l a next there act = (
      move.Run i,
      ap (λ (o : Option Deed). option_map (after_lem state) o)
          (ap (λ (o : Option RankState). option_and_then (run_by_lem lines told None state i) o) here
          ∙ ap (λ (o : Option ℕ). option_and_then (λ place. option_and_then (λ l. option_map (λ a. deed.Run i place
          (place + 1) a)
          (acted place l)) (slice_get lines place)) o) next
          ∙ ap (λ (o : Option Line). option_and_then (λ l. option_map (λ a. deed.Run i place (place + 1) a)
          (acted place l)) o) there
          ∙ ap (λ (o : Option Act). option_map (λ a. deed.Run i place (place + 1) a) o) act),
    )

-- Moves lead on where a rank runs its next line, by which the state becomes the next one.
module _ (lines : List Line) (told : Report) (ranks : ℕ) (w v : ℕ → RankPoint) (f g : ℕ → List Event) (i : ℕ)
    (within : i < ranks) (c : Numbered) (next : slice_get (commands_of i lines) (effects (f i)) ≡ Some c)
  where
    abbrev now : List RankState
    now = map (rank_of lines w f) (range_with_len 0 ranks)

    pub run_leads_to : (a : Act) →
        act_of_lem lines now i (rank_of lines w f i) (c.line - 2) c.command (told_at_lem told None (c.line - 2)) ≡
        Some a →
        received_by a (with_rank (ran_at (c.line - 2) (c.line - 2 + 1) a) i (map (rank_of lines w f)
        (range_with_len 0 ranks))) ≡ map (rank_of lines v g) (range_with_len 0 ranks) →
        Leads lines told now (map (rank_of lines v g) (range_with_len 0 ranks))
    run_leads_to a act same =
        let row : slice_get now i ≡ Some (rank_of lines w f i) =
        row_of (rank_of lines w f) i 0 ranks within ∙ ap (λ (k : ℕ). Some (rank_of lines w f k)) (zero_add i) in
        let there = line_there i lines (effects (f i)) c next in
        let goes = run_goes lines told now i (rank_of lines w f i) row (c.line - 2) (rank_line i c.command) a
        (next_is i lines (effects (f i)) c next) there.1 act in
        (1, (after_lem now (deed.Run i (c.line - 2) (c.line - 2 + 1) a), goes, same))
      where
        zero_add : (n : ℕ) → 0 + n ≡ n
        zero_add n = omega arith

    pub run_leads : (a : Act) → ((s : List RankState) → received_by a s ≡ s) →
        act_of_lem lines now i (rank_of lines w f i) (c.line - 2) c.command (told_at_lem told None (c.line - 2)) ≡
        Some a →
        rank_of lines v g i ≡ ran_at (c.line - 2) (c.line - 2 + 1) a (rank_of lines w f i) →
        ((k : ℕ) → (i == k) ≡ false → rank_of lines v g k ≡ rank_of lines w f k) →
        Leads lines told now (map (rank_of lines v g) (range_with_len 0 ranks))
    run_leads a alone act here others =
        run_leads_to a act
        (alone (with_rank (ran_at (c.line - 2) (c.line - 2 + 1) a) i now)
        ∙ with_row (rank_of lines w f) (rank_of lines v g) (ran_at (c.line - 2) (c.line - 2 + 1) a) i ranks within
        here others)
