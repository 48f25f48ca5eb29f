-- Sound lines are ready at their places, and the script of a plan keeps the limits of scripts.
use Rattle.std.proofs.Common.{◌≡◌, ℕ, suc, ◌+◌, ◌-◌, ◌≤◌, ◌<◌, Bool, true, false, ◌&&◌, not, nat_lt, nat_le}
use Rattle.std.proofs.Common.{cond, List, [], ◌∷◌, ◌++◌, length, take, drop, Option, Some, None, refl, sym, ap}
use Rattle.std.proofs.Common.{◌∙◌}
use Rattle.std.proofs.Common.{◌^◌, decimal, length-append, sum_by, arith, subst, append_assoc, get_or}
use Rattle.std.specs.Prelude.{IfSome, is_none}
use Rattle.std.specs.List.{All, list_all}
use Rattle.std.specs.Option.{option_map_or}
use Rattle.std.proofs.lemmas.Bool.{and_from, and_parts, ltb-true, leb-true, le-leb}
use Rattle.std.proofs.Math.Seq.{drop-cons}
use Rattle.std.proofs.lemmas.List.{append-nil, take-append-drop}
use Rattle.std.proofs.lemmas.List.Elements.{All-weaker}
use Rattle.std.proofs.lemmas.List.Sums.{AllPass-from_list_all}
use Rattle.std.proofs.lemmas.List.Folds.{list_all-append}
use Rattle.nm_types.specs.declared.limits.TheConstants.{MAX_BODIES, MAX_LINES}
use Rattle.nm_types.specs.declared.limits.TheConstants.{MAX_RANKS, MAX_TEXT}
use Rattle.nm_types.specs.declared.scripts.Line.{Line}
use Rattle.nm_types.specs.Limits.{IsScript, is_in_range as is_command, sent_len}
use Rattle.nm_types.specs.Text.{script_text}
use Rattle.nm_script.proofs.NumberLemmas.{few_digits}
use Rattle.nm_script.proofs.CommandTakenLemmas.{sent_fits}
use Rattle.nm_types.proofs.TruthLemmas.{three_parts}
use Rattle.nm_script.proofs.StepLemmas.{three_from}
use Rattle.nm_plans.specs.declared.faults.PlanKind.{PlanKind}
use Rattle.nm_plans.specs.declared.faults.PlanKind.TheVariants as kind
use Rattle.nm_plans.specs.declared.lines.PlanCommand.{PlanCommand}
use Rattle.nm_plans.specs.declared.lines.PlanCommand.TheVariants.{SendInit, RecvInit, PsendInit}
use Rattle.nm_plans.specs.declared.lines.PlanCommand.TheVariants.{PrecvInit, Fill, Start, Ready}
use Rattle.nm_plans.specs.declared.lines.PlanCommand.TheVariants.{Arrived, Wait}
use Rattle.nm_plans.specs.declared.lines.PlanLine.{PlanLine}
use Rattle.nm_plans.specs.declared.requests.requests.Owner.{Owner}
use Rattle.nm_plans.specs.declared.requests.requests.Request.{Request}
use Rattle.nm_plans.specs.Expansion.{expand, expand_behind}
use Rattle.nm_plans.specs.Expansion.{lines_for}
use Rattle.nm_plans.specs.Grammar.{is_in_range}
use Rattle.nm_plans.specs.PlanRequests.{IsSmall, owner_of}
use Rattle.nm_plans.specs.PlanRequests.{request_at}
use Rattle.nm_plans.specs.Grammar.{request_in}
use Rattle.nm_plans.specs.Ends.{end_in}
use Rattle.nm_persist.specs.Plans.{AreReady, IsPlan}
use Rattle.nm_persist.specs.Table.{are_sound, fault_in, fits, has_other_parts, is_out_of_order, is_past}
use Rattle.nm_plans.specs.States.{allows}
use Rattle.nm_persist.specs.Table.{is_taken}
use Rattle.nm_persist.proofs.RangeLemmas.{IsInRange, requests_in_range, OkLine, line_in_range}

-- ---- sound lines

unnot : (b : Bool) → not b ≡ false → b ≡ true
unnot true h = refl
unnot false h = cc (h)

none_from : (o : Option PlanKind) → is_none o ≡ true → o ≡ None
none_from None h = refl
none_from (Some e) h = cc (h)

order_allows : (c : PlanCommand) (rank : ℕ) (r : Request)
    → (is_none (end_in rank c) && not (allows c r)) ≡ false → allows c r ≡ true
order_allows (SendInit p to tag ctx body) rank r h = refl
order_allows (RecvInit p from tag ctx cap) rank r h = refl
order_allows (PsendInit p to tag ctx parts body) rank r h = refl
order_allows (PrecvInit p from tag ctx parts cap) rank r h = refl
order_allows (Fill p body) rank r h = unnot (allows (Fill p body) r) h
order_allows (Start p) rank r h = unnot (allows (Start p) r) h
order_allows (Ready p k) rank r h = unnot (allows (Ready p k) r) h
order_allows (Arrived p k) rank r h = unnot (allows (Arrived p k) r) h
order_allows (Wait p) rank r h = unnot (allows (Wait p) r) h

-- a line without a fault, and in range, behind lines in range
pub record IsReady (ranks : ℕ) (before : List PlanLine) (line : PlanLine) : Type 0 where
  pub before_in_range : list_all (λ line. nat_lt line.rank ranks && is_in_range ranks line.command) before ≡ true
  pub own : line.rank < ranks
  pub range : is_in_range ranks line.command ≡ true
  pub sound : fault_in ranks before line ≡ None

fault_order : (a b c d : Bool)
    → cond a (Some kind.Taken) (cond b (Some kind.Parts) (cond c (Some kind.Order) (cond d (Some kind.Size) None)))
    ≡ None → (c ≡ false) × (d ≡ false)
fault_order true b c d h = cc (h)
fault_order false true c d h = cc (h)
fault_order false false true d h = cc (h)
fault_order false false false true h = cc (h)
fault_order false false false false h = (refl, refl)

pub sound_order : (ranks : ℕ) (before : List PlanLine) (line : PlanLine) → fault_in ranks before line ≡ None
    → (is_out_of_order before line ≡ false) × (is_past ranks before line ≡ false)
sound_order ranks before line h =
    fault_order (is_taken before line) (has_other_parts before line) (is_out_of_order before line)
    (is_past ranks before line) h

allowed_by : (rank : ℕ) (c : PlanCommand) (o : Option Request)
    → (is_none (end_in rank c) && not (option_map_or (allows c) o false)) ≡ false
    → IfSome o (λ r. allows c r ≡ true)
allowed_by rank c None h = tt
allowed_by rank c (Some r) h = order_allows c rank r h

-- the request of a sound line is in a state for its command
pub ready_allows : (ranks : ℕ) (before : List PlanLine) (line : PlanLine) → fault_in ranks before line ≡ None
    → IfSome (request_at before (owner_of line)) (λ r. allows line.command r ≡ true)
ready_allows ranks before line h =
    allowed_by line.rank line.command (request_at before (owner_of line)) (sound_order ranks before line h).0

for_request : (ranks : ℕ) (line : PlanLine) (o : Option Request) → line.rank < ranks
    → is_in_range ranks line.command ≡ true → IfSome o (IsInRange ranks)
    → IfSome o (λ r. allows line.command r ≡ true) → list_all (OkLine ranks) (lines_for line o) ≡ true
for_request ranks line None own h one allowed = refl
for_request ranks line (Some r) own h one allowed = line_in_range ranks line.rank line.command r own h one allowed

-- the lines that a line in order stands for are in range
pub order_lines : (ranks : ℕ) (before : List PlanLine) (line : PlanLine)
    → list_all (λ line. nat_lt line.rank ranks && is_in_range ranks line.command) before ≡ true
    → (nat_lt line.rank ranks && is_in_range ranks line.command) ≡ true → is_out_of_order before line ≡ false
    → list_all (OkLine ranks) (lines_for line (request_at before (owner_of line))) ≡ true
order_lines ranks before line front here order =
    let p = and_parts (nat_lt line.rank ranks) (is_in_range ranks line.command) here in
    for_request ranks line (request_at before (owner_of line)) (ltb-true line.rank ranks p.0) p.1
    (requests_in_range ranks before (owner_of line) front)
    (allowed_by line.rank line.command (request_at before (owner_of line)) order)

small_of : (ranks : ℕ) (o : Option Request) → IfSome o (IsInRange ranks) → IfSome o IsSmall
small_of ranks None is = tt
small_of ranks (Some r) is = is.small

-- the requests of lines in range are small
pub requests_small : (ranks : ℕ) (before : List PlanLine) (owner : Owner)
    → list_all (λ line. nat_lt line.rank ranks && is_in_range ranks line.command) before ≡ true
    → IfSome (request_at before owner) IsSmall
requests_small ranks before owner front =
    small_of ranks (request_at before owner) (requests_in_range ranks before owner front)

-- the name that a command in range is about is small
pub name_small : (ranks : ℕ) (c : PlanCommand) → is_in_range ranks c ≡ true → request_in c ≤ 4095
name_small ranks (SendInit p to tag ctx body) h = leb-true p 4095 (and_parts (nat_le p 4095) _ h).0
name_small ranks (RecvInit p from tag ctx cap) h = leb-true p 4095 (and_parts (nat_le p 4095) _ h).0
name_small ranks (PsendInit p to tag ctx parts body) h = leb-true p 4095 (and_parts (nat_le p 4095) _ h).0
name_small ranks (PrecvInit p from tag ctx parts cap) h = leb-true p 4095 (and_parts (nat_le p 4095) _ h).0
name_small ranks (Fill p body) h = leb-true p 4095 (and_parts (nat_le p 4095) _ h).0
name_small ranks (Start p) h = leb-true p 4095 (and_parts (nat_le p 4095) _ h).0
name_small ranks (Ready p k) h = leb-true p 4095 (and_parts (nat_le p 4095) _ h).0
name_small ranks (Arrived p k) h = leb-true p 4095 (and_parts (nat_le p 4095) _ h).0
name_small ranks (Wait p) h = leb-true p 4095 (and_parts (nat_le p 4095) _ h).0

-- the lines that a sound line stands for are in range
pub ready_lines : (ranks : ℕ) (before : List PlanLine) (line : PlanLine) → IsReady ranks before line
    → list_all (OkLine ranks) (lines_for line (request_at before (owner_of line))) ≡ true
ready_lines ranks before line is =
    for_request ranks line (request_at before (owner_of line)) is.own is.range
    (requests_in_range ranks before (owner_of line) is.before_in_range) (ready_allows ranks before line is.sound)

-- lines in range send no more than a body may have
pub lines_short : (ranks : ℕ) (lines : List Line) → list_all (OkLine ranks) lines ≡ true
    → All (λ line. sent_len line.command < 2 ^ 32) lines
lines_short ranks lines h =
    All-weaker (λ (line : Line). OkLine ranks line ≡ true) (λ line. sent_len line.command < 2 ^ 32)
    (λ line ok.
    let p = and_parts (nat_lt line.rank ranks) (is_command ranks line.command) ok in
    let short = sent_fits ranks line.command p.1 in omega (arith, short)) lines
    (AllPass-from_list_all (OkLine ranks) lines h)

-- lines behind lines: each is ready at its place
module _ (ranks : ℕ) where
  first_ready : (before lines : List PlanLine) (line : PlanLine)
      → list_all (λ line. nat_lt line.rank ranks && is_in_range ranks line.command) before ≡ true
      → list_all (λ line. nat_lt line.rank ranks && is_in_range ranks line.command) (line ∷ lines) ≡ true
      → are_sound ranks before (line ∷ lines) ≡ true → IsReady ranks before line
  first_ready before lines line front range sound =
      let p = and_parts (nat_lt line.rank ranks && is_in_range ranks line.command)
      (list_all (λ line. nat_lt line.rank ranks && is_in_range ranks line.command) lines) range in
      let q = and_parts (nat_lt line.rank ranks) (is_in_range ranks line.command) p.0 in
      let r = and_parts (is_none (fault_in ranks before line)) (are_sound ranks (before ++ line ∷ []) lines) sound in
      record {
        before_in_range = front;
        own = ltb-true line.rank ranks q.0;
        range = q.1;
        sound = none_from (fault_in ranks before line) r.0;
      }

  more_in_range : (before : List PlanLine) (line : PlanLine)
      → list_all (λ line. nat_lt line.rank ranks && is_in_range ranks line.command) before ≡ true
      → (nat_lt line.rank ranks && is_in_range ranks line.command) ≡ true
      → list_all (λ line. nat_lt line.rank ranks && is_in_range ranks line.command) (before ++ line ∷ []) ≡ true
  more_in_range before line front here =
      list_all-append (λ (line : PlanLine). nat_lt line.rank ranks && is_in_range ranks line.command) before (line ∷ [])
      ∙ and_from _ _ front (and_from _ _ here refl)

  -- the script of sound lines is in range
  pub script_in_range : (before lines : List PlanLine)
      → list_all (λ line. nat_lt line.rank ranks && is_in_range ranks line.command) before ≡ true
      → list_all (λ line. nat_lt line.rank ranks && is_in_range ranks line.command) lines ≡ true
      → are_sound ranks before lines ≡ true → list_all (OkLine ranks) (expand_behind before lines) ≡ true
  script_in_range before [] front range sound = refl
  script_in_range before (line ∷ lines) front range sound =
      let ready = first_ready before lines line front range sound in
      let p = and_parts (nat_lt line.rank ranks && is_in_range ranks line.command)
      (list_all (λ line. nat_lt line.rank ranks && is_in_range ranks line.command) lines) range in
      let r = and_parts (is_none (fault_in ranks before line)) (are_sound ranks (before ++ line ∷ []) lines) sound in
      list_all-append (OkLine ranks) (lines_for line (request_at before (owner_of line)))
      (expand_behind (before ++ line ∷ []) lines)
      ∙ and_from _ _ (ready_lines ranks before line ready)
      (script_in_range (before ++ line ∷ []) lines (more_in_range before line front p.0) p.1 r.1)

  -- and keeps the limits of scripts
  script_fits : (before lines : List PlanLine) → fits ranks (expand before) ≡ true
      → are_sound ranks before lines ≡ true → fits ranks (expand (before ++ lines)) ≡ true
  script_fits before [] front sound = ap (λ bs. fits ranks (expand bs)) (append-nil before) ∙ front
  script_fits before (line ∷ lines) front sound =
      let r = and_parts (is_none (fault_in ranks before line)) (are_sound ranks (before ++ line ∷ []) lines) sound in
      let past = (sound_order ranks before line (none_from (fault_in ranks before line) r.0)).1 in
      let here = unnot (fits ranks (expand (before ++ line ∷ []))) past in
      ap (λ bs. fits ranks (expand bs)) (sym (append_assoc before (line ∷ []) lines))
      ∙ script_fits (before ++ line ∷ []) lines here r.1

-- a script without commands keeps them
none_fits : (ranks : ℕ) → ranks ≤ MAX_RANKS → fits ranks [] ≡ true
none_fits ranks few =
    let digits = few_digits ranks (omega arith) in
    let text : length (script_text ranks []) ≤ MAX_TEXT =
    omega (arith, digits, length-append (decimal ranks ++ 10 ∷ []) [], length-append (decimal ranks) (10 ∷ [])) in
    three_from (nat_lt 0 MAX_LINES) (nat_le 0 MAX_BODIES) (nat_le (length (script_text ranks [])) MAX_TEXT)
    refl refl (le-leb (length (script_text ranks [])) MAX_TEXT text)

-- the script of a plan keeps the limits of scripts
pub plan_script : (ranks : ℕ) (lines : List PlanLine) → IsPlan ranks lines → IsScript ranks (expand lines)
unfolding expand
plan_script ranks lines is =
    let all = script_fits ranks [] lines (none_fits ranks is.few_ranks) is.sound in
    let script = expand lines in
    let p = three_parts (nat_lt (length script) MAX_LINES)
    (nat_le (sum_by (λ line. sent_len line.command) script) MAX_BODIES)
    (nat_le (length (script_text ranks script)) MAX_TEXT) all in
    record {
      some_rank = is.some_rank;
      few_ranks = is.few_ranks;
      few_lines = ltb-true (length script) MAX_LINES p.0;
      lines_in_range = script_in_range ranks [] lines refl is.lines_in_range is.sound;
      bodies_fit = leb-true (sum_by (λ line. sent_len line.command) script) MAX_BODIES p.1;
      text_fits = leb-true (length (script_text ranks script)) MAX_TEXT p.2;
    }

ready_among : (ranks : ℕ) (before xs ys : List PlanLine) (line : PlanLine)
    → list_all (λ line. nat_lt line.rank ranks && is_in_range ranks line.command) before ≡ true
    → list_all (λ line. nat_lt line.rank ranks && is_in_range ranks line.command) (xs ++ line ∷ ys) ≡ true
    → are_sound ranks before (xs ++ line ∷ ys) ≡ true → IsReady ranks (before ++ xs) line
ready_among ranks before [] ys line front range sound =
    subst (λ bs. IsReady ranks bs line) (sym (append-nil before)) (first_ready ranks before ys line front range sound)
ready_among ranks before (x ∷ xs) ys line front range sound =
    let p = and_parts (nat_lt x.rank ranks && is_in_range ranks x.command)
    (list_all (λ line. nat_lt line.rank ranks && is_in_range ranks line.command) (xs ++ line ∷ ys)) range in
    let r = and_parts (is_none (fault_in ranks before x)) (are_sound ranks (before ++ x ∷ []) (xs ++ line ∷ ys)) sound
    in
    subst (λ bs. IsReady ranks bs line) (append_assoc before (x ∷ []) xs)
    (ready_among ranks (before ++ x ∷ []) xs ys line (more_in_range ranks before x front p.0) p.1 r.1)

-- a line at its place among sound lines is ready
pub ready_at : (ranks : ℕ) (lines : List PlanLine) (i : ℕ) (line : PlanLine) → AreReady ranks lines
    → i < length lines → line ≡ get_or lines i line → IsReady ranks (take i lines) line
ready_at ranks lines i line all inside is =
    let apart : take i lines ++ line ∷ drop (suc i) lines ≡ lines =
    ap (λ (x : PlanLine). take i lines ++ x ∷ drop (suc i) lines) is
    ∙ ap (λ xs. take i lines ++ xs) (sym (drop-cons lines i line inside)) ∙ take-append-drop i lines in
    ready_among ranks [] (take i lines) (drop (suc i) lines) line refl
    (ap (list_all (λ line. nat_lt line.rank ranks && is_in_range ranks line.command)) apart ∙ all.in_range)
    (ap (are_sound ranks []) apart ∙ all.sound)
