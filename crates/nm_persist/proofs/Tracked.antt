-- Each part of each request, behind the lines of a sound plan.
use Rattle.std.proofs.Common.{◌≡◌, ℕ, ◌<◌, ◌≤◌, ◌==◌, Bool, true, false, not, ◌&&◌, ◌||◌, cond, Option, Some, None}
use Rattle.std.proofs.Common.{List, [], ◌∷◌, ◌++◌, refl, sym, ◌∙◌, ap, subst, arith, append-nil, append_assoc}
use Rattle.std.specs.Prelude.{IfSome, is_none, is_some, nat_le, nat_lt, option_to_list}
use Rattle.std.specs.List.{filter, list_all}
use Rattle.std.specs.Option.{option_map_or}
use Rattle.std.proofs.lemmas.Bool.{false≢true}
use Rattle.std.proofs.lemmas.Bool.Decides.{nat_tests}
use Rattle.std.proofs.lemmas.List.Elements.{filter-append}
use Rattle.nm_types.specs.declared.scripts.Command.{Command}
use Rattle.nm_types.specs.declared.scripts.Line.{Line}
use Rattle.nm_plans.specs.declared.faults.PlanKind.TheVariants as kind
use Rattle.nm_plans.specs.declared.lines.PlanCommand.{PlanCommand}
use Rattle.nm_plans.specs.declared.lines.PlanCommand.TheVariants.{SendInit, RecvInit, PsendInit, PrecvInit, Fill}
use Rattle.nm_plans.specs.declared.lines.PlanCommand.TheVariants.{Start, Ready, Arrived, Wait}
use Rattle.nm_plans.specs.declared.lines.PlanLine.{PlanLine}
use Rattle.nm_plans.specs.Grammar.{is_in_range, request_in}
use Rattle.nm_plans.specs.declared.requests.ends.End.{End}
use Rattle.nm_plans.specs.declared.requests.requests.Owner.{Owner}
use Rattle.nm_plans.specs.declared.requests.requests.Request.{Request}
use Rattle.nm_plans.specs.Ends.{end_in, parts_at}
use Rattle.nm_plans.specs.Expansion.{commands_of, expand, lines_for, name_of}
use Rattle.nm_plans.specs.PlanRequests.{IsSmall, is_about, owner_of, part_count, request_after, request_at}
use Rattle.nm_plans.specs.States.{allows}
use Rattle.nm_plans.proofs.RequestLemmas.{expand-more, request_at-more}
use Rattle.nm_persist.specs.Table.{are_sound, fault_in, has_other_parts, is_out_of_order, is_past, is_taken}
use Rattle.nm_persist.proofs.ReadyLemmas.{IsReady, requests_small}
use Rattle.nm_persist.specs.Names.{are_apart}
use Rattle.nm_persist.specs.Starts.{is_start, starts_behind, starts_it, starts_of}
use Rattle.nm_persist.proofs.Items.{is_of, items_are, part_in}
use Rattle.nm_persist.proofs.Owned.{own-append, own_block, own_commands}
use Rattle.nm_persist.proofs.Tracking.{FollowsFrom, InOrder, any_step, item_of}
use Rattle.nm_types.proofs.NumberLemmas.{same_number}
use Rattle.nm_types.proofs.TruthLemmas.{and_left, and_right}

-- the starts of a request in lines and one more
starts_behind-more : (owner : Owner) (before lines : List PlanLine) (line : PlanLine) →
    starts_behind owner before (lines ++ line ∷ [])
    ≡ starts_behind owner before lines ++ cond (starts_it owner line)
    (option_to_list (request_at (before ++ lines) owner)) []
starts_behind-more owner before [] line =
    append-nil (cond (starts_it owner line) (option_to_list (request_at before owner)) [])
    ∙ ap (λ (bs : List PlanLine). cond (starts_it owner line) (option_to_list (request_at bs owner)) [])
    (sym (append-nil before))
starts_behind-more owner before (x ∷ lines) line =
    let here = cond (starts_it owner x) (option_to_list (request_at before owner)) [] in
    let others = starts_behind owner (before ++ x ∷ []) lines in
    ap (λ (rs : List Request). here ++ rs) (starts_behind-more owner (before ++ x ∷ []) lines line)
    ∙ sym (append_assoc here others
    (cond (starts_it owner line) (option_to_list (request_at ((before ++ x ∷ []) ++ lines) owner)) []))
    ∙ ap (λ (bs : List PlanLine). (here ++ others) ++ cond (starts_it owner line)
    (option_to_list (request_at bs owner)) [])
    (append_assoc before (x ∷ []) lines)

pub starts_of-more : (lines : List PlanLine) (line : PlanLine) (owner : Owner) →
    starts_of (lines ++ line ∷ []) owner ≡ starts_of lines owner ++ cond (starts_it owner line)
    (option_to_list (request_at lines owner)) []
starts_of-more lines line owner = starts_behind-more owner [] lines line

-- the commands of a rank that lines and one more stand for
pub own-more : (rank : ℕ) (lines : List PlanLine) (line : PlanLine) →
    own_commands rank (expand (lines ++ line ∷ []))
    ≡ own_commands rank (expand lines) ++ cond (line.rank == rank)
    (commands_of line.command (request_at lines (owner_of line))) []
own-more rank lines line =
    ap (λ (ls : List Line). own_commands rank ls) (expand-more lines line)
    ∙ own-append rank (expand lines) (lines_for line (request_at lines (owner_of line)))
    ∙ ap (λ (cs : List Command). own_commands rank (expand lines) ++ cs)
    (own_block rank line.rank (commands_of line.command (request_at lines (owner_of line))))

-- what holds of no lines, and of a fine line more, holds of sound lines
lt_true : (a b : ℕ) → nat_lt a b ≡ true → a < b
lt_true a b is = grind (arith, nat_tests)

all-push : (test : PlanLine → Bool) (xs : List PlanLine) (x : PlanLine) → list_all test xs ≡ true → test x ≡ true →
    list_all test (xs ++ x ∷ []) ≡ true
all-push test [] x all one = ap (λ (b : Bool). b && true) one
all-push test (y ∷ xs) x all one =
    ap (λ (b : Bool). b && list_all test (xs ++ x ∷ [])) (and_left (test y) (list_all test xs) all)
    ∙ all-push test xs x (and_right (test y) (list_all test xs) all) one

pub each_line : (ranks : ℕ) (P : List PlanLine → Type 0) →
    ((before : List PlanLine) (line : PlanLine) → IsReady ranks before line → P before → P (before ++ line ∷ [])) →
    (before lines : List PlanLine) → list_all (λ line. nat_lt line.rank ranks && is_in_range ranks line.command)
    before ≡ true →
    list_all (λ line. nat_lt line.rank ranks && is_in_range ranks line.command) lines ≡ true →
    are_sound ranks before lines ≡ true →
    P before → P (before ++ lines)
each_line ranks P step before [] front range sound holds = subst P (sym (append-nil before)) holds
each_line ranks P step before (line ∷ lines) front range sound holds =
    let here = and_left (nat_lt line.rank ranks && is_in_range ranks line.command) _ range in
    let fine : IsReady ranks before line = record {
      before_in_range = front;
      own = lt_true line.rank ranks (and_left (nat_lt line.rank ranks) (is_in_range ranks line.command) here);
      range = and_right (nat_lt line.rank ranks) (is_in_range ranks line.command) here;
      sound = none_of (fault_in ranks before line) (and_left (is_none (fault_in ranks before line)) _ sound);
    } in
    subst P (append_assoc before (line ∷ []) lines)
    (each_line ranks P step (before ++ line ∷ []) lines
    (all-push (λ line. nat_lt line.rank ranks && is_in_range ranks line.command) before line front here)
    (and_right (nat_lt line.rank ranks && is_in_range ranks line.command) _ range)
    (and_right (is_none (fault_in ranks before line)) _ sound) (step before line fine holds))
  where
    none_of : {X : Type 0} (o : Option X) → is_none o ≡ true → o ≡ None
    none_of None is = refl
    none_of (Some x) is = absurd (false≢true is)

-- a fine line is in order
not_taken : (a b c d : Bool) → cond a (Some kind.Taken)
    (cond b (Some kind.Parts) (cond c (Some kind.Order) (cond d (Some kind.Size) None))) ≡ None →
    (a ≡ false) × (b ≡ false) × (c ≡ false)
not_taken true b c d none = absurd (grind (arith, none))
not_taken false true c d none = absurd (grind (arith, none))
not_taken false false true d none = absurd (grind (arith, none))
not_taken false false false d none = (refl, refl, refl)

pub faultless : (ranks : ℕ) (before : List PlanLine) (line : PlanLine) → IsReady ranks before line →
    (is_taken before line ≡ false) × (has_other_parts before line ≡ false) × (is_out_of_order before line ≡ false)
faultless ranks before line fine =
    not_taken (is_taken before line) (has_other_parts before line) (is_out_of_order before line)
    (is_past ranks before line) fine.sound

unnot : (b : Bool) → not b ≡ false → b ≡ true
unnot true is = refl
unnot false is = absurd (false≢true (sym is))

in_order_by : (rank : ℕ) (c : PlanCommand) (o : Option Request) (ended : End → Bool) →
    option_map_or (λ e. is_some o || ended e) (end_in rank c) false ≡ false →
    (is_none (end_in rank c) && not (option_map_or (allows c) o false)) ≡ false → InOrder c o
in_order_by rank (SendInit p to tag ctx body) None ended taken order = refl
in_order_by rank (RecvInit p from tag ctx cap) None ended taken order = refl
in_order_by rank (PsendInit p to tag ctx parts body) None ended taken order = refl
in_order_by rank (PrecvInit p from tag ctx parts cap) None ended taken order = refl
in_order_by rank (Fill p body) None ended taken order = absurd (false≢true (sym order))
in_order_by rank (Start p) None ended taken order = absurd (false≢true (sym order))
in_order_by rank (Ready p k) None ended taken order = absurd (false≢true (sym order))
in_order_by rank (Arrived p k) None ended taken order = absurd (false≢true (sym order))
in_order_by rank (Wait p) None ended taken order = absurd (false≢true (sym order))
in_order_by rank (SendInit p to tag ctx body) (Some r) ended taken order = absurd (false≢true (sym taken))
in_order_by rank (RecvInit p from tag ctx cap) (Some r) ended taken order = absurd (false≢true (sym taken))
in_order_by rank (PsendInit p to tag ctx parts body) (Some r) ended taken order = absurd (false≢true (sym taken))
in_order_by rank (PrecvInit p from tag ctx parts cap) (Some r) ended taken order = absurd (false≢true (sym taken))
in_order_by rank (Fill p body) (Some r) ended taken order = (refl, unnot (allows (Fill p body) r) order)
in_order_by rank (Start p) (Some r) ended taken order = (refl, unnot (allows (Start p) r) order)
in_order_by rank (Ready p k) (Some r) ended taken order = (refl, unnot (allows (Ready p k) r) order)
in_order_by rank (Arrived p k) (Some r) ended taken order = (refl, unnot (allows (Arrived p k) r) order)
in_order_by rank (Wait p) (Some r) ended taken order = (refl, unnot (allows (Wait p) r) order)

pub in_order : (ranks : ℕ) (before : List PlanLine) (line : PlanLine) → IsReady ranks before line →
    InOrder line.command (request_at before (owner_of line))
in_order ranks before line fine =
    let none = faultless ranks before line fine in
    in_order_by line.rank line.command (request_at before (owner_of line)) (λ e. is_some (parts_at before e)) none.0
    none.2

pub few_parts : (ranks : ℕ) (before : List PlanLine) (line : PlanLine) (owner : Owner) → IsReady ranks before line →
    IfSome (request_at before owner) (λ r. part_count r ≤ 16)
few_parts ranks before line owner fine = by_request (request_at before owner)
    (requests_small ranks before owner fine.before_in_range)
  where
    by_request : (o : Option Request) → IfSome o IsSmall → IfSome o (λ r. part_count r ≤ 16)
    by_request None small = tt
    by_request (Some r) small = small.parts

le_true : (a b : ℕ) → nat_le a b ≡ true → a ≤ b
le_true a b is = grind (arith, nat_tests)

pub part_low : (ranks : ℕ) (c : PlanCommand) → is_in_range ranks c ≡ true → part_in c < 16
part_low ranks (Ready p k) range =
    let low = le_true k 15 (and_left (nat_le k 15) true (and_right (nat_le p 4095) _ range)) in omega (arith, low)
part_low ranks (Arrived p k) range =
    let low = le_true k 15 (and_left (nat_le k 15) true (and_right (nat_le p 4095) _ range)) in omega (arith, low)
part_low ranks c range = omega arith

-- the owner of a line about a request
pub owner_is : (owner : Owner) (line : PlanLine) → is_about owner line ≡ true → owner_of line ≡ owner
owner_is owner line about =
    ap (λ (rank : ℕ). record { rank = rank; p = request_in line.command })
    (same_number line.rank owner.rank (and_left _ _ about))
    ∙ ap (λ (p : ℕ). record { rank = owner.rank; p = p })
    (same_number (request_in line.command) owner.p (and_right _ _ about))

-- the commands about part k of a request
abbrev pub named : Owner → ℕ → List PlanLine → List Command
named owner k lines = filter (is_of (name_of owner.p k)) (own_commands owner.rank (expand lines))

pub named-more : (ranks : ℕ) (owner : Owner) (k : ℕ) (before : List PlanLine) (line : PlanLine) → k < 16 →
    IsReady ranks before line →
    named owner k (before ++ line ∷ [])
    ≡ named owner k before ++ cond (is_about owner line) (item_of owner.p k line.command (request_at before owner)) []
named-more ranks owner k before line low fine =
    ap (λ (cs : List Command). filter (is_of (name_of owner.p k)) cs) (own-more owner.rank before line)
    ∙ filter-append (is_of (name_of owner.p k)) (own_commands owner.rank (expand before))
    (cond (line.rank == owner.rank) (commands_of line.command (request_at before (owner_of line))) [])
    ∙ ap (λ (cs : List Command). named owner k before ++ cs) (by_rank (line.rank == owner.rank) refl)
  where
    by_request : (o : Option Request) → IfSome o (λ r. part_count r ≤ 16) →
        filter (is_of (name_of owner.p k)) (commands_of line.command o)
        ≡ cond (request_in line.command == owner.p) (item_of (request_in line.command) k line.command o) []
    by_request None few = nothing (request_in line.command == owner.p)
      where
        nothing : (b : Bool) → ◌≡◌ {A = List Command} [] (cond b [] [])
        nothing true = refl
        nothing false = refl
    by_request (Some r) few = items_are owner.p k line.command r low few (part_low ranks line.command fine.range)

    by_name : (b : Bool) → (line.rank == owner.rank) ≡ true → (request_in line.command == owner.p) ≡ b →
        cond b (item_of (request_in line.command) k line.command (request_at before (owner_of line))) []
        ≡ cond b (item_of owner.p k line.command (request_at before owner)) []
    by_name true here named =
        ap (λ (o : Owner). item_of o.p k line.command (request_at before o))
        (owner_is owner line (ap (λ (b : Bool). b && (request_in line.command == owner.p)) here ∙ named))
    by_name false here named = refl

    by_rank : (b : Bool) → (line.rank == owner.rank) ≡ b →
        filter (is_of (name_of owner.p k)) (cond b (commands_of line.command (request_at before (owner_of line))) [])
        ≡ cond (b && (request_in line.command == owner.p)) (item_of owner.p k line.command (request_at before owner)) []
    by_rank true here =
        by_request (request_at before (owner_of line)) (few_parts ranks before line (owner_of line) fine)
        ∙ by_name (request_in line.command == owner.p) here refl
    by_rank false here = refl

-- what is known of part k of a request
pub record Tracks (owner : Owner) (k : ℕ) (lines : List PlanLine) : Type 0 where
  pub apart : are_apart (name_of owner.p k) false (named owner k lines) ≡ true
  pub follows : FollowsFrom owner.p k (request_at lines owner) (named owner k lines) (starts_of lines owner)

tracks_none : (owner : Owner) (k : ℕ) → Tracks owner k []
unfolding request_at expand
tracks_none owner k = record { apart = refl; follows = (refl, refl, refl) }

tracks_more : (ranks : ℕ) (owner : Owner) (k : ℕ) → k < 16 → (before : List PlanLine) (line : PlanLine) →
    IsReady ranks before line →
    Tracks owner k before → Tracks owner k (before ++ line ∷ [])
tracks_more ranks owner k low before line fine tracks = by_about (is_about owner line) refl
  where
    by_about : (b : Bool) → is_about owner line ≡ b → Tracks owner k (before ++ line ∷ [])
    by_about true about =
        let own = owner_is owner line about in
        let o : Option Request = request_at before owner in
        let next = any_step owner.p k line.command o (named owner k before) (starts_of before owner)
        (subst (λ (x : Owner). InOrder line.command (request_at before x)) own (in_order ranks before line fine))
        (part_low ranks line.command fine.range) (few_parts ranks before line owner fine) tracks.apart tracks.follows in
        let request : request_at (before ++ line ∷ []) owner ≡ request_after line.command o =
        request_at-more before line owner ∙ ap (λ (b : Bool). cond b (request_after line.command o) o) about in
        let names : named owner k (before ++ line ∷ []) ≡ named owner k before ++ item_of owner.p k line.command o =
        named-more ranks owner k before line low fine
        ∙ ap (λ (b : Bool). named owner k before ++ cond b (item_of owner.p k line.command o) []) about in
        let starts : starts_of (before ++ line ∷ []) owner ≡ starts_of before owner ++ cond (is_start line.command)
        (option_to_list o) [] =
        starts_of-more before line owner
        ∙ ap (λ (b : Bool). starts_of before owner ++ cond (b && is_start line.command) (option_to_list o) []) about in
        record {
          apart = ap (λ (cs : List Command). are_apart (name_of owner.p k) false cs) names ∙ next.0;
          follows = moved owner.p k _ _ _ _ _ _ (sym request) (sym names) (sym starts) next.1;
        }
      where
        moved : (p k : ℕ) (o o' : Option Request) (N N' : List Command) (S S' : List Request) → o ≡ o' → N ≡ N' →
            S ≡ S' →
            FollowsFrom p k o N S → FollowsFrom p k o' N' S'
        moved p k o o' N N' S S' first second third follows =
            subst (λ (o : Option Request). FollowsFrom p k o N' S') first
            (subst (λ (N : List Command). FollowsFrom p k o N S') second
            (subst (λ (S : List Request). FollowsFrom p k o N S) third follows))
    by_about false about =
        let o : Option Request = request_at before owner in
        let request : request_at (before ++ line ∷ []) owner ≡ o =
        request_at-more before line owner ∙ ap (λ (b : Bool). cond b (request_after line.command o) o) about in
        let names : named owner k (before ++ line ∷ []) ≡ named owner k before =
        named-more ranks owner k before line low fine
        ∙ ap (λ (b : Bool). named owner k before ++ cond b (item_of owner.p k line.command o) []) about
        ∙ append-nil (named owner k before) in
        let starts : starts_of (before ++ line ∷ []) owner ≡ starts_of before owner =
        starts_of-more before line owner
        ∙ ap (λ (b : Bool). starts_of before owner ++ cond (b && is_start line.command) (option_to_list o) []) about
        ∙ append-nil (starts_of before owner) in
        record {
          apart = ap (λ (cs : List Command). are_apart (name_of owner.p k) false cs) names ∙ tracks.apart;
          follows = subst (λ (o : Option Request). FollowsFrom owner.p k o (named owner k (before ++ line ∷ []))
              (starts_of (before ++ line ∷ []) owner)) (sym request)
              (subst (λ (N : List Command). FollowsFrom owner.p k o N (starts_of (before ++ line ∷ []) owner))
              (sym names)
              (subst (λ (S : List Request). FollowsFrom owner.p k o (named owner k before) S)
              (sym starts) tracks.follows));
        }

-- sound lines in range
pub record AreFine (ranks : ℕ) (lines : List PlanLine) : Type 0 where
  pub range : list_all (λ line. nat_lt line.rank ranks && is_in_range ranks line.command) lines ≡ true
  pub sound : are_sound ranks [] lines ≡ true

pub tracked : (ranks : ℕ) (lines : List PlanLine) → AreFine ranks lines → (owner : Owner) (k : ℕ) → k < 16 →
    Tracks owner k lines
tracked ranks lines fine owner k low =
    each_line ranks (λ lines. Tracks owner k lines) (tracks_more ranks owner k low) [] lines refl fine.range
    fine.sound (tracks_none owner k)
