-- Each line that a rank's text shows keeps its promise.
use Rattle.std.proofs.Common.{◌≡◌, ℕ, ◌+◌, ◌<◌, Bool, true, false, not, ◌&&◌, cond, zero, suc, Option, Some, None}
use Rattle.std.proofs.Common.{List, [], ◌∷◌, ◌++◌, length, map, refl, sym, ◌∙◌, ap, subst, arith, append-nil}
use Rattle.std.proofs.Common.{append_assoc, length-append}
use Rattle.std.specs.Prelude.{is_none, is_some, nat_lt, option_map, option_to_list, unwrap_or}
use Rattle.std.specs.List.{AllByRecursion, filter, list_all, slice_get}
use Rattle.std.proofs.lemmas.Bool.{false≢true}
use Rattle.std.proofs.lemmas.Bool.Decides.{nat_tests}
use Rattle.std.proofs.lemmas.List.{length-map}
use Rattle.nm_types.specs.declared.scripts.Command.{Command}
use Rattle.nm_history.specs.Answers.{is_start_of}
use Rattle.nm_plans.specs.declared.lines.PlanLine.{PlanLine}
use Rattle.nm_plans.specs.Grammar.{is_in_range}
use Rattle.nm_plans.specs.declared.requests.requests.Owner.{Owner}
use Rattle.nm_plans.specs.declared.requests.requests.Request.{Request}
use Rattle.nm_plans.specs.declared.requests.requests.Side.{Side}
use Rattle.nm_plans.specs.declared.requests.requests.Side.TheVariants.{Receives}
use Rattle.nm_plans.specs.Expansion.{name_of}
use Rattle.nm_plans.specs.PlanRequests.{is_sending, part_count, request_at}
use Rattle.nm_persist.specs.Table.{are_sound, fault_in}
use Rattle.nm_persist.specs.Starts.{starts_it, starts_of}
use Rattle.nm_persist.proofs.EndsMade.{Kind, kind_by, kind_of}
use Rattle.nm_persist.proofs.Partnering.{cs}
use Rattle.nm_persist.proofs.Tracked.{AreFine, each_line, starts_of-more}
use Rattle.nm_persist.proofs.Tracking.{Follows, cmd, is_pending}
use Rattle.nm_persist.proofs.Described.{kind_stays}
use Rattle.nm_persist.proofs.ReadyLemmas.{IsReady}
use Rattle.nm_types.proofs.ListLemmas.{all_append, all_along}
use Rattle.nm_types.proofs.TruthLemmas.{and_left, and_right}

-- the first of sound lines are sound
sound_front : (ranks : ℕ) (before xs ys : List PlanLine) → are_sound ranks before (xs ++ ys) ≡ true →
    are_sound ranks before xs ≡ true
sound_front ranks before [] ys sound = refl
sound_front ranks before (x ∷ xs) ys sound =
    ap (λ (b : Bool). b && are_sound ranks (before ++ x ∷ []) xs) (and_left (is_none (fault_in ranks before x)) _ sound)
    ∙ sound_front ranks (before ++ x ∷ []) xs ys (and_right (is_none (fault_in ranks before x)) _ sound)

all_front : (test : PlanLine → Bool) (xs ys : List PlanLine) → list_all test (xs ++ ys) ≡ true → list_all test xs ≡ true
all_front test [] ys all = refl
all_front test (x ∷ xs) ys all =
    ap (λ (b : Bool). b && list_all test xs) (and_left (test x) _ all) ∙ all_front test xs ys (and_right (test x) _ all)

pub fine_front : (ranks : ℕ) (lines xs ys : List PlanLine) → lines ≡ xs ++ ys → AreFine ranks lines → AreFine ranks xs
fine_front ranks lines xs ys split fine = record {
  range = all_front _ xs ys
      (subst (λ (ls : List PlanLine). list_all (λ line. nat_lt line.rank ranks && is_in_range ranks line.command) ls
      ≡ true) split fine.range);
  sound = sound_front ranks [] xs ys (subst (λ (ls : List PlanLine). are_sound ranks [] ls ≡ true) split fine.sound);
}

-- a line among sound lines is fine
among : (ranks : ℕ) (before xs : List PlanLine) (line : PlanLine) (ys : List PlanLine) →
    list_all (λ line. nat_lt line.rank ranks && is_in_range ranks line.command) xs ≡ true →
    list_all (λ line. nat_lt line.rank ranks && is_in_range ranks line.command) (line ∷ ys) ≡ true →
    are_sound ranks before (xs ++ line ∷ ys) ≡ true → fault_in ranks (before ++ xs) line ≡ None
among ranks before [] line ys front back sound =
    ap (λ (bs : List PlanLine). fault_in ranks bs line) (append-nil before)
    ∙ none_of (fault_in ranks before line) (and_left (is_none (fault_in ranks before line)) _ sound)
  where
    none_of : {X : Type 0} (o : Option X) → is_none o ≡ true → o ≡ None
    none_of None is = refl
    none_of (Some x) is = absurd (false≢true is)
among ranks before (x ∷ xs) line ys front back sound =
    ap (λ (bs : List PlanLine). fault_in ranks bs line) (sym (append_assoc before (x ∷ []) xs))
    ∙ among ranks (before ++ x ∷ []) xs line ys
    (and_right (nat_lt x.rank ranks && is_in_range ranks x.command) _ front) back
    (and_right (is_none (fault_in ranks before x)) _ sound)

all_back : (test : PlanLine → Bool) (xs ys : List PlanLine) → list_all test (xs ++ ys) ≡ true → list_all test ys ≡ true
all_back test [] ys all = all
all_back test (x ∷ xs) ys all = all_back test xs ys (and_right (test x) _ all)

lt_true : (a b : ℕ) → nat_lt a b ≡ true → a < b
lt_true a b is = grind (arith, nat_tests)

pub fine_line : (ranks : ℕ) (lines before : List PlanLine) (line : PlanLine) (after : List PlanLine) →
    lines ≡ before ++ line ∷ after →
    AreFine ranks lines → IsReady ranks before line
fine_line ranks lines before line after split fine =
    let test : PlanLine → Bool = λ (line : PlanLine). nat_lt line.rank ranks && is_in_range ranks line.command in
    let all : list_all test (before ++ line ∷ after) ≡ true = subst (λ (ls : List PlanLine). list_all test ls ≡ true)
    split fine.range in
    let sound : are_sound ranks [] (before ++ line ∷ after) ≡ true =
    subst (λ (ls : List PlanLine). are_sound ranks [] ls ≡ true) split fine.sound in
    let here : test line ≡ true = and_left (test line) _ (all_back test before (line ∷ after) all) in
    record {
      before_in_range = all_front test before (line ∷ after) all;
      own = lt_true line.rank ranks (and_left (nat_lt line.rank ranks) (is_in_range ranks line.command) here);
      range = and_right (nat_lt line.rank ranks) (is_in_range ranks line.command) here;
      sound = among ranks [] before line after (all_front test before (line ∷ after) all)
          (all_back test before (line ∷ after) all) sound;
    }

-- a request at its starts is of the kind that it has
abbrev StartsAre : Owner → List PlanLine → Type 0
StartsAre owner lines = AllByRecursion (λ (r : Request). kind_of owner lines ≡ Some (kind_by owner.rank r))
    (starts_of lines owner)

starts_more : (ranks : ℕ) (owner : Owner) (before : List PlanLine) (line : PlanLine) → IsReady ranks before line →
    StartsAre owner before →
    StartsAre owner (before ++ line ∷ [])
starts_more ranks owner before line fine all =
    subst (λ (rs : List Request). AllByRecursion (λ (r : Request). kind_of owner (before ++ line ∷ []) ≡ Some
    (kind_by owner.rank r)) rs)
    (sym (starts_of-more before line owner))
    (all_append (λ (r : Request). kind_of owner (before ++ line ∷ []) ≡ Some (kind_by owner.rank r))
    (starts_of before owner)
    (cond (starts_it owner line) (option_to_list (request_at before owner)) [])
    (all_along (λ (r : Request). kind_of owner before ≡ Some (kind_by owner.rank r))
    (λ (r : Request). kind_of owner (before ++ line ∷ []) ≡ Some (kind_by owner.rank r))
    (starts_of before owner) (λ r is. kind_stays ranks owner before line (kind_by owner.rank r) fine is) all)
    (by_start (starts_it owner line) (request_at before owner) refl))
  where
    by_start : (b : Bool) (o : Option Request) → request_at before owner ≡ o →
        AllByRecursion (λ (r : Request). kind_of owner (before ++ line ∷ []) ≡ Some (kind_by owner.rank r))
        (cond b (option_to_list o) [])
    by_start false o is = tt
    by_start true None is = tt
    by_start true (Some r) is = (
      kind_stays ranks owner before line (kind_by owner.rank r) fine
          (ap (λ (o : Option Request). option_map (kind_by owner.rank) o) is),
      tt,
    )

starts_are : (ranks : ℕ) (lines : List PlanLine) (owner : Owner) → AreFine ranks lines → StartsAre owner lines
starts_are ranks lines owner fine =
    each_line ranks (λ lines. StartsAre owner lines) (λ before line f all. starts_more ranks owner before line f all)
    [] lines refl fine.range fine.sound tt

pub kinds : (ranks : ℕ) (lines : List PlanLine) → AreFine ranks lines → (owner : Owner) (kind : Kind) →
    kind_of owner lines ≡ Some kind →
    AllByRecursion (λ (r : Request). kind_by owner.rank r ≡ kind) (starts_of lines owner)
kinds ranks lines fine owner kind made =
    all_along (λ (r : Request). kind_of owner lines ≡ Some (kind_by owner.rank r))
    (λ (r : Request). kind_by owner.rank r ≡ kind) (starts_of lines owner)
    (λ r is. same_kind (kind_by owner.rank r) is) (starts_are ranks lines owner fine)
  where
    same_kind : (k : Kind) → kind_of owner lines ≡ Some k → k ≡ kind
    same_kind k is = cc

-- a kind that lines made is the plan's
stays_from : (ranks : ℕ) (owner : Owner) (k : Kind) (before lines : List PlanLine) →
    list_all (λ line. nat_lt line.rank ranks && is_in_range ranks line.command) before ≡ true →
    list_all (λ line. nat_lt line.rank ranks && is_in_range ranks line.command) lines ≡ true →
    are_sound ranks before lines ≡ true →
    kind_of owner before ≡ Some k → kind_of owner (before ++ lines) ≡ Some k
stays_from ranks owner k before lines front range sound made =
    each_line ranks (λ lines. kind_of owner lines ≡ Some k)
    (λ before line f made. kind_stays ranks owner before line k f made) before lines front range sound made

sound_back : (ranks : ℕ) (before xs ys : List PlanLine) → are_sound ranks before (xs ++ ys) ≡ true →
    are_sound ranks (before ++ xs) ys ≡ true
sound_back ranks before [] ys sound = subst (λ (bs : List PlanLine). are_sound ranks bs ys ≡ true)
    (sym (append-nil before)) sound
sound_back ranks before (x ∷ xs) ys sound =
    subst (λ (bs : List PlanLine). are_sound ranks bs ys ≡ true) (append_assoc before (x ∷ []) xs)
    (sound_back ranks (before ++ x ∷ []) xs ys (and_right (is_none (fault_in ranks before x)) _ sound))

pub kind_in_plan : (ranks : ℕ) (lines before after : List PlanLine) (owner : Owner) (k : Kind) →
    lines ≡ before ++ after → AreFine ranks lines →
    kind_of owner before ≡ Some k → kind_of owner lines ≡ Some k
kind_in_plan ranks lines before after owner k split fine made =
    let test : PlanLine → Bool = λ (line : PlanLine). nat_lt line.rank ranks && is_in_range ranks line.command in
    let all : list_all test (before ++ after) ≡ true = subst (λ (ls : List PlanLine). list_all test ls ≡ true) split
    fine.range in
    ap (λ (ls : List PlanLine). kind_of owner ls) split
    ∙ stays_from ranks owner k before after (all_front test before after all) (all_back test before after all)
    (sound_back ranks [] before after (subst (λ (ls : List PlanLine). are_sound ranks [] ls ≡ true) split fine.sound))
    made

-- the last of a list that isn't empty
pub snoc_of : {X : Type 0} (xs : List X) (n : ℕ) → length xs ≡ suc n →
    (front : List X) × (last : X) × (xs ≡ front ++ last ∷ []) × (length front ≡ n)
snoc_of [] n count = absurd (omega (arith, count))
snoc_of (x ∷ []) n count = ([], x, refl, omega (arith, count))
snoc_of (x ∷ y ∷ xs) zero count = absurd (omega (arith, count))
snoc_of {X} (x ∷ y ∷ xs) (suc n) count =
    let rest = snoc_of (y ∷ xs) n (omega (arith, count)) in
    (x ∷ rest.0, rest.1, ap (λ (ys : List X). x ∷ ys) rest.2, ap (λ (m : ℕ). suc m) rest.3)

-- a part that isn't pending has as many commands as its request has starts
pub as_many : (p k : ℕ) (r : Request) (N : List Command) (S : List Request) → Follows p k r N S →
    is_pending r k ≡ false → nat_lt k (part_count r) ≡ true →
    length (filter (is_start_of (name_of p k)) N) ≡ length S
as_many p k r N S follows sent small = by_active r.active refl
  where
    by_active : (b : Bool) → r.active ≡ b → length (filter (is_start_of (name_of p k)) N) ≡ length S
    by_active false idle = ap (λ (cs : List Command). length cs) (follows.idle idle small) ∙ length-map S (cmd p k)
    by_active true active =
        let busy = follows.busy active small in
        ap (λ (cs : List Command). length cs)
        (busy.commands ∙ ap (λ (b : Bool). map (cmd p k) busy.front ++ cond b [] (cmd p k r ∷ [])) sent)
        ∙ length-append (map (cmd p k) busy.front) (cmd p k r ∷ [])
        ∙ ap (λ (n : ℕ). n + 1) (length-map busy.front (cmd p k))
        ∙ sym (ap (λ (rs : List Request). length rs) busy.starts ∙ length-append busy.front (busy.last ∷ []))

pub never_pending : (r : Request) (cap : ℕ) (k : ℕ) → r.side ≡ Receives cap → is_pending r k ≡ false
never_pending r cap k is =
    ap (λ (s : Side). cond (is_some r.parts) (is_sending s) false && not (unwrap_or (slice_get r.ready k) false)) is
    ∙ by_parts (is_some r.parts) (not (unwrap_or (slice_get r.ready k) false))
  where
    by_parts : (b c : Bool) → (cond b false false && c) ≡ false
    by_parts true c = refl
    by_parts false c = refl
