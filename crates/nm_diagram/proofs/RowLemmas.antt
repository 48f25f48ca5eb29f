-- Which rows are full: those in which an event tells more than a start.
use Rattle.std.proofs.Common.{◌≡◌, ℕ, ◌+◌, ◌-◌, ◌<◌, ◌≤◌, List, [], ◌∷◌, Bool, true, false, cond, ◌&&◌, ◌||◌, ◌==◌}
use Rattle.std.proofs.Common.{refl, sym, ap, ◌∙◌, arith, get_or, length, nat_le, nat_lt, replicate, set}
use Rattle.std.specs.List.{list_any}
use Rattle.std.proofs.lemmas.Bool.{eq-eqb, eqb-true, leb-false, leb-true, ltb-false, ltb-true}
use Rattle.std.proofs.lemmas.Grind.{get_or-set_at}
use Rattle.std.proofs.lemmas.List.{get_or-replicate, get_or-set_other, length-replicate, length-set}
use Rattle.nm_history.specs.declared.events.Event.{Event}
use Rattle.nm_report.specs.declared.accounts.RankAccount.{RankAccount}
use Rattle.nm_diagram.specs.Frames.{full_rows, has_more, is_more, tells_more, with_row, with_rows}

or_none : (x : Bool) → x ≡ (x || false)
or_none true = refl
or_none false = refl

or_one : (x : Bool) → true ≡ (x || true)
or_one true = refl
or_one false = refl

or_assoc : (x y z : Bool) → ((x || y) || z) ≡ (x || (y || z))
or_assoc true y z = refl
or_assoc false y z = refl

not_both : false ≡ true → ⊥
not_both h = absurd cc

-- no row is lost
one_length : (top : ℕ) (rows : List Bool) (e : Event) (b : Bool) → length rows ≡ 1024 →
    length (cond b (set rows (e.stamp - top - 1) true) rows) ≡ 1024
one_length top rows e true h = length-set rows (e.stamp - top - 1) true ∙ h
one_length top rows e false h = h

rows-length : (top : ℕ) (rows : List Bool) (events : List Event) → length rows ≡ 1024 →
    length (with_rows top rows events) ≡ 1024
rows-length top rows [] h = h
rows-length top rows (e ∷ events) h =
    rows-length top (with_row top rows e) events
    (one_length top rows e (tells_more e.what && nat_lt top e.stamp && nat_le (e.stamp - top) 1024) h)

-- an event that is set in its row
set_row : (rows : List Bool) (stamp top row : ℕ) (same : Bool) → row < 1024 → length rows ≡ 1024 → top < stamp →
    stamp - top ≤ 1024 → (stamp == top + row + 1) ≡ same →
    get_or (set rows (stamp - top - 1) true) row false ≡ (get_or rows row false || same)
set_row rows stamp top row true below long less most is =
    let at = eqb-true stamp (top + row + 1) is in
    get_or-set_at rows (stamp - top - 1) row true false (omega (arith, at)) (omega (arith, less, most, long))
    ∙ or_one (get_or rows row false)
set_row rows stamp top row false below long less most is =
    get_or-set_other rows (stamp - top - 1) row true false
    (λ (at : row ≡ stamp - top - 1). not_both (sym is ∙ eq-eqb stamp (top + row + 1) (omega (arith, at, less))))
    ∙ or_none (get_or rows row false)

-- an event that is set in none has another stamp
kept_row : (rows : List Bool) (stamp top row : ℕ) (same : Bool) → (stamp ≡ top + row + 1 → ⊥) →
    (stamp == top + row + 1) ≡ same → get_or rows row false ≡ (get_or rows row false || same)
kept_row rows stamp top row true other is = absurd (other (eqb-true stamp (top + row + 1) is))
kept_row rows stamp top row false other is = or_none (get_or rows row false)

one_row : (rows : List Bool) (stamp top row : ℕ) (more below within : Bool) → row < 1024 → length rows ≡ 1024 →
    nat_lt top stamp ≡ below → nat_le (stamp - top) 1024 ≡ within →
    get_or (cond (more && below && within) (set rows (stamp - top - 1) true) rows) row false
    ≡ (get_or rows row false || (more && stamp == top + row + 1))
one_row rows stamp top row false below within less long b w = or_none (get_or rows row false)
one_row rows stamp top row true false within less long b w =
    let above = ltb-false top stamp b in
    kept_row rows stamp top row (stamp == top + row + 1) (λ at. omega (arith, above, at)) refl
one_row rows stamp top row true true false less long b w =
    let beyond = leb-false (stamp - top) 1024 w in
    kept_row rows stamp top row (stamp == top + row + 1) (λ at. omega (arith, beyond, at, less)) refl
one_row rows stamp top row true true true less long b w =
    set_row rows stamp top row (stamp == top + row + 1) less long (ltb-true top stamp b) (leb-true (stamp - top) 1024 w)
    refl

rows-read : (top row : ℕ) (rows : List Bool) (events : List Event) → row < 1024 → length rows ≡ 1024 →
    get_or (with_rows top rows events) row false
    ≡ (get_or rows row false || list_any (is_more (top + row + 1)) events)
rows-read top row rows [] less long = or_none (get_or rows row false)
rows-read top row rows (e ∷ events) less long =
    let is = is_more (top + row + 1) e in
    let others = list_any (is_more (top + row + 1)) events in
    let each = tells_more e.what && nat_lt top e.stamp && nat_le (e.stamp - top) 1024 in
    rows-read top row (with_row top rows e) events less (one_length top rows e each long)
    ∙ ap (λ b. b || others)
    (one_row rows e.stamp top row (tells_more e.what) (nat_lt top e.stamp) (nat_le (e.stamp - top) 1024) less long refl
    refl)
    ∙ or_assoc (get_or rows row false) is others

ranks-read : (top row : ℕ) (rows : List Bool) (ranks : List RankAccount) → row < 1024 → length rows ≡ 1024 →
    get_or (full_rows top rows ranks) row false
    ≡ (get_or rows row false || list_any (has_more (top + row + 1)) ranks)
ranks-read top row rows [] less long = or_none (get_or rows row false)
ranks-read top row rows (account ∷ accounts) less long =
    let events = account.history.events in
    let others = list_any (has_more (top + row + 1)) accounts in
    ranks-read top row (with_rows top rows events) accounts less (rows-length top rows events long)
    ∙ ap (λ b. b || others) (rows-read top row rows events less long)
    ∙ or_assoc (get_or rows row false) (has_more (top + row + 1) account) others

pub full-rows : (ranks : List RankAccount) (top row : ℕ) → row < 1024 →
    get_or (full_rows top (replicate 1024 false) ranks) row false ≡ list_any (has_more (top + row + 1)) ranks
full-rows ranks top row less =
    ranks-read top row (replicate 1024 false) ranks less (length-replicate 1024 false)
    ∙ ap (λ b. b || list_any (has_more (top + row + 1)) ranks) (get_or-replicate 1024 row false false less)
