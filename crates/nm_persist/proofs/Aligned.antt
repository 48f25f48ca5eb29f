-- The answers of a rank, as the text of a plan's run takes them: as many for each line as it has commands.
use Rattle.std.proofs.Common.{◌≡◌, ℕ, ◌+◌, ◌≤◌, ◌==◌, Bool, true, false, ◌&&◌, cond, zero, suc, Option, Some, None}
use Rattle.std.proofs.Common.{List, [], ◌∷◌, ◌++◌, length, map, refl, sym, ◌∙◌, ap, subst, arith, drop, take}
use Rattle.std.specs.List.{AllByRecursion, fold, range_with_len}
use Rattle.std.proofs.lemmas.Bool.{false≢true}
use Rattle.nm_types.specs.declared.answers.Answer.{Answer}
use Rattle.nm_types.specs.declared.answers.Answer.TheVariants as answer
use Rattle.nm_types.specs.declared.scripts.Command.{Command}
use Rattle.nm_types.specs.declared.scripts.Command.TheVariants as command
use Rattle.nm_history.specs.Answers.{is_question_of, is_started}
use Rattle.nm_plans.specs.declared.lines.PlanCommand.{PlanCommand}
use Rattle.nm_plans.specs.declared.lines.PlanCommand.TheVariants.{SendInit, RecvInit, PsendInit, PrecvInit, Fill}
use Rattle.nm_plans.specs.declared.lines.PlanCommand.TheVariants.{Start, Ready, Arrived, Wait}
use Rattle.nm_plans.specs.declared.requests.requests.Request.{Request}
use Rattle.nm_plans.specs.declared.requests.requests.Side.{Side}
use Rattle.nm_plans.specs.declared.requests.requests.Side.TheVariants.{Sends, Receives}
use Rattle.nm_plans.specs.Expansion.{commands_of, each_part, is_split_send, name_of, start_of, wait_of}
use Rattle.nm_plans.specs.PlanRequests.{part_count}
use Rattle.nm_persist.specs.Report.{first_name, is_result, named_from, result_behind}
use Rattle.nm_persist.specs.Names.{Done, end_after}
use Rattle.nm_persist.proofs.LinesRead.{starts_one}

no_result : (a : Answer) → is_started a ≡ true → is_result a ≡ false
no_result (answer.Got from tag body) started = absurd (false≢true started)
no_result (answer.Cut from tag len) started = absurd (false≢true started)
no_result a started = refl

and_none : (b : Bool) → (b && false) ≡ false
and_none true = refl
and_none false = refl

abbrev pub cmds : List Done → List Command
cmds ds = map (λ d. d.own.command) ds

abbrev pub answers : List Done → List Answer
answers ds = map (λ d. d.answer) ds

-- answers that are no results change none
none_same : (q name : ℕ) (ds : List Done) (o : Option Answer) →
    AllByRecursion (λ (d : Done). is_result d.answer ≡ false) ds →
    fold (result_behind q) o (named_from name (answers ds)) ≡ fold (end_after q) o ds
none_same q name [] o none = refl
none_same q name (d ∷ ds) o none =
    ap (λ (b : Bool). fold (result_behind q) (cond (name == q && b) (Some d.answer) o)
    (named_from (name + 1) (answers ds))) none.0
    ∙ ap (λ (b : Bool). fold (result_behind q) (cond b (Some d.answer) o) (named_from (name + 1) (answers ds)))
    (and_none (name == q))
    ∙ none_same q (name + 1) ds o none.1
    ∙ sym (ap (λ (b : Bool). fold (end_after q) (cond b (Some d.answer) o) ds)
    (and_none (is_question_of q d.own.command)))
    ∙ sym (ap (λ (b : Bool). fold (end_after q) (cond (is_question_of q d.own.command && b) (Some d.answer) o) ds)
    none.0)

starts_end : (ds : List Done) → AllByRecursion (λ (d : Done). starts_one d.own.command ≡ true →
    is_started d.answer ≡ true) ds →
    AllByRecursion (λ (c : Command). starts_one c ≡ true) (cmds ds) →
    AllByRecursion (λ (d : Done). is_result d.answer ≡ false) ds
starts_end [] begun starts = tt
starts_end (d ∷ ds) begun starts = (no_result d.answer (begun.0 starts.0), starts_end ds begun.1 starts.1)

start_starts : (p k : ℕ) (r : Request) (side : Side) → starts_one (start_of p r k side) ≡ true
start_starts p k r (Sends body) = refl
start_starts p k r (Receives cap) = refl

all_start : (p m n : ℕ) (r : Request) → AllByRecursion (λ (c : Command). starts_one c ≡ true)
    (map (λ k. start_of p r k r.side) (range_with_len m n))
all_start p m zero r = tt
all_start p m (suc n) r = (start_starts p m r r.side, all_start p (m + 1) n r)

waits_same : (q p : ℕ) (ds : List Done) (name m n : ℕ) (o : Option Answer) → name ≡ name_of p m →
    cmds ds ≡ map (λ k. wait_of p k) (range_with_len m n) → fold (result_behind q) o (named_from name (answers ds))
    ≡ fold (end_after q) o ds
waits_same q p [] name m n o is same = refl
waits_same q p (d ∷ ds) name m zero o is same = absurd (grind (arith, same))
waits_same q p (d ∷ ds) name m (suc n) o is same =
    let here : d.own.command ≡ wait_of p m = cc in
    let others : cmds ds ≡ map (λ k. wait_of p k) (range_with_len (m + 1) n) = cc in
    ap (λ (x : ℕ). fold (result_behind q) (cond (x == q && is_result d.answer) (Some d.answer) o)
    (named_from (name + 1) (answers ds))) is
    ∙ sym (ap (λ (c : Command). fold (result_behind q)
    (cond (is_question_of q c && is_result d.answer) (Some d.answer) o) (named_from (name + 1) (answers ds))) here)
    ∙ waits_same q p ds (name + 1) (m + 1) n (end_after q o d) (omega (arith, is)) others

nothing : (q name : ℕ) (o : Option Answer) (ds : List Done) → cmds ds ≡ [] →
    fold (result_behind q) o (named_from name (answers ds)) ≡ fold (end_after q) o ds
nothing q name o [] same = refl
nothing q name o (d ∷ ds) same = absurd (grind (arith, same))

-- the results under a name, as the text takes them and as the commands say
pub results_same : (q : ℕ) (c : PlanCommand) (o' : Option Request) (ds : List Done) (o : Option Answer) →
    cmds ds ≡ commands_of c o' →
    AllByRecursion (λ (d : Done). starts_one d.own.command ≡ true → is_started d.answer ≡ true) ds →
    fold (result_behind q) o (named_from (first_name c) (answers ds)) ≡ fold (end_after q) o ds
results_same q c None ds o same begun = nothing q (first_name c) o ds same
results_same q (Start p) (Some r) ds o same begun = by_split (is_split_send r) same
  where
    by_split : (b : Bool) → cmds ds ≡ cond b [] (each_part r (λ k. start_of p r k r.side)) →
        fold (result_behind q) o (named_from (name_of p 0) (answers ds)) ≡ fold (end_after q) o ds
    by_split true same =
        none_same q (name_of p 0) ds o
        (starts_end ds begun (subst (λ (cs : List Command). AllByRecursion (λ (c : Command). starts_one c ≡ true)
        cs) (sym same) tt))
    by_split false same =
        none_same q (name_of p 0) ds o (starts_end ds begun
        (subst (λ (cs : List Command). AllByRecursion (λ (c : Command). starts_one c ≡ true) cs) (sym same)
        (all_start p 0 (part_count r) r)))
results_same q (Ready p k) (Some r) ds o same begun =
    none_same q (name_of p k) ds o (starts_end ds begun
    (subst (λ (cs : List Command). AllByRecursion (λ (c : Command). starts_one c ≡ true) cs) (sym same)
    (start_starts p k r r.side, tt)))
results_same q (Wait p) (Some r) ds o same begun = waits_same q p ds (name_of p 0) 0 (part_count r) o refl same
results_same q (Arrived p k) (Some r) ds o same begun = one ds same
  where
    one : (ds : List Done) → cmds ds ≡ command.Test (name_of p k) ∷ [] →
        fold (result_behind q) o (named_from (name_of p k) (answers ds)) ≡ fold (end_after q) o ds
    one [] same = refl
    one (d ∷ []) same =
        let here : d.own.command ≡ command.Test (name_of p k) = cc in
        sym (ap (λ (c : Command). cond (is_question_of q c && is_result d.answer) (Some d.answer) o) here)
    one (d ∷ e ∷ ds) same = absurd (grind (arith, same))
results_same q (SendInit p to tag ctx body) (Some r) ds o same begun = nothing q (name_of p 0) o ds same
results_same q (RecvInit p from tag ctx cap) (Some r) ds o same begun = nothing q (name_of p 0) o ds same
results_same q (PsendInit p to tag ctx parts body) (Some r) ds o same begun = nothing q (name_of p 0) o ds same
results_same q (PrecvInit p from tag ctx parts cap) (Some r) ds o same begun = nothing q (name_of p 0) o ds same
results_same q (Fill p body) (Some r) ds o same begun = nothing q (name_of p 0) o ds same

-- what stands before a block, and behind it
pub cut_at : (xs M B T : List Command) → xs ++ M ≡ B ++ T → length B ≤ length xs →
    (take (length B) xs ≡ B) × (drop (length B) xs ++ M ≡ T)
cut_at xs M [] T same few = (refl, same)
cut_at [] M (b ∷ B) T same few = absurd (omega (arith, few))
cut_at (x ∷ xs) M (b ∷ B) T same few =
    let first : x ≡ b = cc in
    let others : xs ++ M ≡ B ++ T = cc in
    let later = cut_at xs M B T others (omega (arith, few)) in
    (ap (λ (c : Command). c ∷ take (length B) xs) first ∙ ap (λ (cs : List Command). b ∷ cs) later.0, later.1)

pub take_map : {X Y : Type 0} (f : X → Y) (n : ℕ) (xs : List X) → take n (map f xs) ≡ map f (take n xs)
take_map f zero xs = refl
take_map f (suc n) [] = refl
take_map {Y = Y} f (suc n) (x ∷ xs) = ap (λ (ys : List Y). f x ∷ ys) (take_map f n xs)

pub drop_map : {X Y : Type 0} (f : X → Y) (n : ℕ) (xs : List X) → drop n (map f xs) ≡ map f (drop n xs)
drop_map f zero xs = refl
drop_map f (suc n) [] = refl
drop_map f (suc n) (x ∷ xs) = drop_map f n xs
