-- The commands about one name that a line of a plan stands for: one at most.
use Rattle.std.proofs.Common.{◌≡◌, ℕ, ◌+◌, ◌<◌, ◌≤◌, ◌==◌, Bool, true, false, not, ◌&&◌, ◌||◌, cond, zero, suc}
use Rattle.std.proofs.Common.{List, [], ◌∷◌, ◌++◌, map, refl, sym, ◌∙◌, ap, arith, append-nil}
use Rattle.std.specs.Prelude.{nat_lt}
use Rattle.std.specs.List.{filter, range_with_len}
use Rattle.std.proofs.lemmas.Bool.{false≢true}
use Rattle.std.proofs.lemmas.Bool.Decides.{nat_tests}
use Rattle.std.proofs.lemmas.List.FromFn.{filter_of_map_range_with_len_more}
use Rattle.nm_types.specs.declared.scripts.Command.{Command}
use Rattle.nm_types.specs.declared.scripts.Command.TheVariants as command
use Rattle.nm_history.specs.Answers.{is_question_of, is_start_of}
use Rattle.nm_plans.specs.declared.lines.PlanCommand.{PlanCommand}
use Rattle.nm_plans.specs.declared.lines.PlanCommand.TheVariants.{SendInit, RecvInit, PsendInit, PrecvInit, Fill}
use Rattle.nm_plans.specs.declared.lines.PlanCommand.TheVariants.{Start, Ready, Arrived, Wait}
use Rattle.nm_plans.specs.declared.requests.requests.Request.{Request}
use Rattle.nm_plans.specs.declared.requests.requests.Side.{Side}
use Rattle.nm_plans.specs.declared.requests.requests.Side.TheVariants.{Sends, Receives}
use Rattle.nm_plans.specs.Expansion.{commands_for, each_part, is_split_send, name_of, start_of, wait_of}
use Rattle.nm_plans.specs.PlanRequests.{part_count}
use Rattle.nm_plans.specs.Grammar.{request_in}
use Rattle.nm_persist.specs.Names.{are_apart, is_wait_of, waits_after, waits_for}
use Rattle.nm_types.proofs.NumberLemmas.{same_number}
use Rattle.nm_types.proofs.TruthLemmas.{not_left}

-- a command starts or asks for a request of this name
abbrev pub is_of : ℕ → Command → Bool
is_of q c = is_start_of q c || is_question_of q c

-- the name of part k of a request is that of another only where both are the same
pub same_name : (p k p' k' : ℕ) → k < 16 → k' < 16 → (name_of p' k' == name_of p k) ≡ (p' == p && k' == k)
same_name p k p' k' low low' = by_tests (p' == p) refl (k' == k) refl
  where
    by_tests : (b : Bool) → (p' == p) ≡ b → (c : Bool) → (k' == k) ≡ c → (name_of p' k' == name_of p k) ≡ (b && c)
    by_tests true first true second = grind (arith, nat_tests)
    by_tests true first false second = grind (arith, nat_tests)
    by_tests false first c second = grind (arith, nat_tests)

start_is : (p k q : ℕ) (r : Request) (side : Side) → is_of q (start_of p r k side) ≡ (name_of p k == q)
start_is p k q r (Sends body) = or_false (name_of p k == q)
  where
    or_false : (b : Bool) → (b || false) ≡ b
    or_false true = refl
    or_false false = refl
start_is p k q r (Receives cap) = or_false (name_of p k == q)
  where
    or_false : (b : Bool) → (b || false) ≡ b
    or_false true = refl
    or_false false = refl

-- of commands for each part one at most has this name
pub one_part : (f : ℕ → Command) (p k p' : ℕ) → k < 16 →
    ((m : ℕ) → is_of (name_of p k) (f m) ≡ (name_of p' m == name_of p k)) →
    (n : ℕ) → n ≤ 16 → filter (is_of (name_of p k)) (map f (range_with_len 0 n)) ≡ cond (p' == p && nat_lt k n)
    (f k ∷ []) []
one_part f p k p' low names zero small = by_test (p' == p) (nat_lt k 0) (grind (arith, nat_tests))
  where
    by_test : (b c : Bool) → c ≡ false → ◌≡◌ {A = List Command} [] (cond (b && c) (f k ∷ []) [])
    by_test true true is = absurd (false≢true (sym is))
    by_test true false is = refl
    by_test false c is = refl
one_part f p k p' low names (suc n) small =
    ap (λ (m : ℕ). filter (is_of (name_of p k)) (map f (range_with_len 0 m))) (sym (one_more n))
    ∙ filter_of_map_range_with_len_more (is_of (name_of p k)) f 0 n n (omega arith)
    ∙ ap (λ (cs : List Command). cs ++ cond (is_of (name_of p k) (f n)) (f n ∷ []) [])
    (one_part f p k p' low names n (omega (arith, small)))
    ∙ ap (λ (b : Bool). cond (p' == p && nat_lt k n) (f k ∷ []) [] ++ cond b (f n ∷ []) [])
    (names n ∙ same_name p k p' n low (omega (arith, small)))
    ∙ by_tests (p' == p) (n == k) refl
  where
    one_more : (n : ℕ) → n + 1 ≡ suc n
    one_more n = omega arith

    by_tests : (b c : Bool) → (n == k) ≡ c →
        cond (b && nat_lt k n) (f k ∷ []) [] ++ cond (b && c) (f n ∷ []) [] ≡ cond (b && nat_lt k (suc n)) (f k ∷ []) []
    by_tests false c is = refl
    by_tests true true is =
        let same : n ≡ k = grind (arith, nat_tests) in
        let low : nat_lt k n ≡ false = grind (arith, nat_tests) in
        let high : nat_lt k (suc n) ≡ true = grind (arith, nat_tests) in
        rw (low, high) (ap (λ (m : ℕ). f m ∷ []) same)
    by_tests true false is =
        let same : nat_lt k (suc n) ≡ nat_lt k n = grind (arith, nat_tests) in
        rw same (append-nil (cond (nat_lt k n) (f k ∷ []) []))

pub both : (b c : Bool) (x : Command) → cond (b && c) (x ∷ []) [] ≡ cond b (cond c (x ∷ []) []) []
both true c x = refl
both false c x = refl

pub nothing : (b : Bool) → ◌≡◌ {A = List Command} [] (cond b [] [])
nothing true = refl
nothing false = refl

-- the part that a command names
abbrev pub part_in : PlanCommand → ℕ
part_in (Ready p k) = k
part_in (Arrived p k) = k
part_in _ = 0

-- the command about part k that a command of its request stands for
abbrev pub item : ℕ → ℕ → PlanCommand → Request → List Command
item p k (Start p') r = cond (is_split_send r) [] (cond (nat_lt k (part_count r)) (start_of p r k r.side ∷ []) [])
item p k (Ready p' k') r = cond (k' == k) (start_of p r k r.side ∷ []) []
item p k (Arrived p' k') r = cond (k' == k) (command.Test (name_of p k) ∷ []) []
item p k (Wait p') r = cond (nat_lt k (part_count r)) (wait_of p k ∷ []) []
item p k _ r = []

-- a command that isn't about a name neither starts nor waits for it
not_start : (q : ℕ) (c : Command) → is_of q c ≡ false → is_start_of q c ≡ false
not_start q c is = not_left (is_start_of q c) (is_question_of q c) is

not_wait : (q : ℕ) (c : Command) → is_of q c ≡ false → is_wait_of q c ≡ false
not_wait q (command.Wait q') is = is
not_wait q c is = refl

-- waiting depends on the commands about a name alone
pub waits_own : (q : ℕ) (w : Bool) (cs : List Command) → waits_for q w cs ≡ waits_for q w (filter (is_of q) cs)
waits_own q w [] = refl
waits_own q w (c ∷ cs) = by_test (is_of q c) refl (λ w'. waits_own q w' cs)
  where
    by_test : (b : Bool) → is_of q c ≡ b → ((w' : Bool) → waits_for q w' cs ≡ waits_for q w' (filter (is_of q) cs)) →
        waits_for q (waits_after q w c) cs ≡ waits_for q w (cond b (c ∷ filter (is_of q) cs) (filter (is_of q) cs))
    by_test true is later = later (waits_after q w c)
    by_test false is later =
        ap (λ (b : Bool). waits_for q (cond b true (cond (is_wait_of q c) false w)) cs) (not_start q c is)
        ∙ ap (λ (b : Bool). waits_for q (cond b false w) cs) (not_wait q c is) ∙ later w

pub apart_own : (q : ℕ) (w : Bool) (cs : List Command) → are_apart q w cs ≡ are_apart q w (filter (is_of q) cs)
apart_own q w [] = refl
apart_own q w (c ∷ cs) = by_test (is_of q c) refl (λ w'. apart_own q w' cs)
  where
    by_test : (b : Bool) → is_of q c ≡ b → ((w' : Bool) → are_apart q w' cs ≡ are_apart q w' (filter (is_of q) cs)) →
        are_apart q w (c ∷ cs) ≡ are_apart q w (cond b (c ∷ filter (is_of q) cs) (filter (is_of q) cs))
    by_test true is later = ap (λ (b : Bool). not (is_start_of q c && w) && b) (later (waits_after q w c))
    by_test false is later =
        ap (λ (b : Bool). not (b && w) && are_apart q (cond b true (cond (is_wait_of q c) false w)) cs)
        (not_start q c is)
        ∙ ap (λ (b : Bool). are_apart q (cond b false w) cs) (not_wait q c is) ∙ later w

pub starts_own : (q : ℕ) (cs : List Command) → filter (is_start_of q) cs ≡ filter (is_start_of q) (filter (is_of q) cs)
starts_own q [] = refl
starts_own q (c ∷ cs) = by_test (is_of q c) refl (starts_own q cs)
  where
    by_test : (b : Bool) → is_of q c ≡ b → filter (is_start_of q) cs ≡ filter (is_start_of q) (filter (is_of q) cs) →
        filter (is_start_of q) (c ∷ cs) ≡ filter (is_start_of q)
        (cond b (c ∷ filter (is_of q) cs) (filter (is_of q) cs))
    by_test true is later = ap (λ (xs : List Command). cond (is_start_of q c) (c ∷ xs) xs) later
    by_test false is later = ap (λ (b : Bool). cond b (c ∷ filter (is_start_of q) cs) (filter (is_start_of q) cs))
        (not_start q c is) ∙ later

pub apart-append : (q : ℕ) (w : Bool) (xs ys : List Command) →
    are_apart q w (xs ++ ys) ≡ (are_apart q w xs && are_apart q (waits_for q w xs) ys)
apart-append q w [] ys = refl
apart-append q w (c ∷ xs) ys =
    ap (λ (b : Bool). not (is_start_of q c && w) && b) (apart-append q (waits_after q w c) xs ys)
    ∙ assoc (not (is_start_of q c && w)) (are_apart q (waits_after q w c) xs)
    (are_apart q (waits_for q (waits_after q w c) xs) ys)
  where
    assoc : (a b c : Bool) → (a && (b && c)) ≡ ((a && b) && c)
    assoc true b c = refl
    assoc false b c = refl

-- the commands about the name of part k that a command stands for
pub items_are : (p k : ℕ) (c : PlanCommand) (r : Request) → k < 16 → part_count r ≤ 16 → part_in c < 16 →
    filter (is_of (name_of p k)) (commands_for c r) ≡ cond (request_in c == p) (item (request_in c) k c r) []
items_are p k (Start p') r low few small =
    by_split (is_split_send r)
  where
    by_split : (b : Bool) → filter (is_of (name_of p k)) (cond b [] (each_part r (λ k. start_of p' r k r.side)))
        ≡ cond (p' == p) (cond b [] (cond (nat_lt k (part_count r)) (start_of p' r k r.side ∷ []) [])) []
    by_split true = nothing (p' == p)
    by_split false =
        one_part (λ k. start_of p' r k r.side) p k p' low (λ m. start_is p' m (name_of p k) r r.side) (part_count r) few
        ∙ both (p' == p) (nat_lt k (part_count r)) (start_of p' r k r.side)
items_are p k (Ready p' k') r low few small =
    ap (λ (b : Bool). cond b (start_of p' r k' r.side ∷ []) []) (start_is p' k' (name_of p k) r r.side
    ∙ same_name p k p' k' low small)
    ∙ by_tests (p' == p) (k' == k) refl
  where
    by_tests : (b c : Bool) → (k' == k) ≡ c → cond (b && c) (start_of p' r k' r.side ∷ []) []
        ≡ cond b (cond c (start_of p' r k r.side ∷ []) []) []
    by_tests true true is = ap (λ (m : ℕ). start_of p' r m r.side ∷ []) (same_number k' k is)
    by_tests true false is = refl
    by_tests false c is = refl
items_are p k (Arrived p' k') r low few small =
    ap (λ (b : Bool). cond b (command.Test (name_of p' k') ∷ []) []) (same_name p k p' k' low small)
    ∙ by_tests (p' == p) (k' == k) refl
  where
    by_tests : (b c : Bool) → (k' == k) ≡ c → cond (b && c) (command.Test (name_of p' k') ∷ []) []
        ≡ cond b (cond c (command.Test (name_of p' k) ∷ []) []) []
    by_tests true true is = ap (λ (m : ℕ). command.Test (name_of p' m) ∷ []) (same_number k' k is)
    by_tests true false is = refl
    by_tests false c is = refl
items_are p k (Wait p') r low few small =
    one_part (λ k. wait_of p' k) p k p' low (λ m. refl) (part_count r) few
    ∙ both (p' == p) (nat_lt k (part_count r)) (wait_of p' k)
items_are p k (SendInit p' to tag ctx body) r low few small = nothing (p' == p)
items_are p k (RecvInit p' from tag ctx cap) r low few small = nothing (p' == p)
items_are p k (PsendInit p' to tag ctx parts body) r low few small = nothing (p' == p)
items_are p k (PrecvInit p' from tag ctx parts cap) r low few small = nothing (p' == p)
items_are p k (Fill p' body) r low few small = nothing (p' == p)
