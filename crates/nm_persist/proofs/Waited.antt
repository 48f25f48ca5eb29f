-- What a wait and a test of a receive show.
use Rattle.std.proofs.Common.{◌≡◌, ℕ, ◌+◌, ◌<◌, ◌≤◌, ◌==◌, Bool, true, false, not, ◌&&◌, cond, suc, Option, Some, None}
use Rattle.std.proofs.Common.{List, [], ◌∷◌, ◌++◌, length, map, refl, sym, ◌∙◌, ap, subst, arith, append-nil}
use Rattle.std.proofs.Common.{append_assoc, length-append, ◌⊎◌, inl, inr}
use Rattle.std.specs.Prelude.{codes, nat_le, nat_lt, option_map, option_to_list}
use Rattle.std.specs.List.{filter, range_with_len, slice_get}
use Rattle.std.proofs.lemmas.Bool.{false≢true}
use Rattle.std.proofs.lemmas.Bool.Decides.{nat_tests}
use Rattle.std.proofs.lemmas.List.{length-map}
use Rattle.std.proofs.lemmas.List.Sums.{fold_push}
use Rattle.nm_types.specs.declared.answers.Answer.{Answer}
use Rattle.nm_types.specs.declared.answers.Answer.TheVariants as answer
use Rattle.nm_types.specs.declared.scripts.Command.{Command}
use Rattle.nm_types.specs.declared.scripts.Command.TheVariants as command
use Rattle.nm_types.specs.Commands.{Numbered, commands_of as numbered_of}
use Rattle.nm_types.specs.Sizes.{Sizes}
use Rattle.nm_history.specs.declared.events.Event.{Event}
use Rattle.nm_history.specs.Answers.{is_start_of}
use Rattle.nm_history.proofs.OnceLemmas.{eqb_self}
use Rattle.nm_sure.proofs.Lists.{kept_from}
use Rattle.nm_sure.proofs.Rising.{Rising}
use Rattle.nm_sure.proofs.Worlds.{IsWithin}
use Rattle.nm_plans.specs.declared.lines.PlanCommand.{PlanCommand}
use Rattle.nm_plans.specs.declared.lines.PlanCommand.TheVariants.{SendInit, RecvInit, PsendInit, PrecvInit, Fill}
use Rattle.nm_plans.specs.declared.lines.PlanCommand.TheVariants.{Start, Ready, Arrived, Wait}
use Rattle.nm_plans.specs.declared.lines.PlanLine.{PlanLine}
use Rattle.nm_plans.specs.Grammar.{is_in_range, request_in}
use Rattle.nm_plans.specs.declared.requests.ends.End.{End}
use Rattle.nm_plans.specs.declared.requests.requests.Owner.{Owner}
use Rattle.nm_plans.specs.declared.requests.requests.Request.{Request}
use Rattle.nm_plans.specs.declared.requests.requests.Side.{Side}
use Rattle.nm_plans.specs.declared.requests.requests.Side.TheVariants.{Receives}
use Rattle.nm_plans.specs.Ends.{end_in, parts_in}
use Rattle.nm_plans.specs.Expansion.{expand, name_of, tag_of}
use Rattle.nm_plans.specs.PlanRequests.{is_about, is_sending, owner_of, part_count, request_after, request_at}
use Rattle.nm_plans.specs.States.{allows}
use Rattle.nm_plans.proofs.RequestLemmas.{request_at-more}
use Rattle.nm_persist.specs.Report.{Named, arrived_word, last_result, received}
use Rattle.nm_persist.specs.Names.{Done, are_apart, last_end, is_no, is_shut, is_shut_after, waits_for}
use Rattle.nm_persist.specs.Starts.{bodies_of, is_start, part_bytes, starts_of}
use Rattle.nm_persist.specs.Promises.{IsHeld, IsResultOf, ShowsBody}
use Rattle.nm_persist.proofs.Aligned.{cmds}
use Rattle.nm_persist.proofs.Described.{context_at, one_receive, tag_at}
use Rattle.nm_persist.proofs.EndsMade.{Kind, Leaves, Makes, Making, alone, kind_by, kind_of, making}
use Rattle.nm_persist.proofs.Items.{starts_own, waits_own}
use Rattle.nm_persist.proofs.Keeping.{as_many, fine_front, fine_line, kind_in_plan, kinds, never_pending, snoc_of}
use Rattle.nm_persist.proofs.Owned.{own_commands}
use Rattle.nm_persist.proofs.Partnering.{IsPartOf, Last, described_at, filter_map_same, part_of_body}
use Rattle.nm_persist.proofs.Quiet.{NamedRun}
use Rattle.nm_persist.proofs.Received.{body_joined, shows_joined}
use Rattle.nm_persist.proofs.States.{State, owns, starts_for}
use Rattle.nm_persist.proofs.Taking.{Shows, Takes}
use Rattle.nm_persist.proofs.Tracked.{AreFine, each_line, in_order, named, starts_of-more, tracked}
use Rattle.nm_persist.proofs.Tracking.{Follows, FollowsFrom, InOrder, is_pending}
use Rattle.nm_persist.proofs.Walk.{receive_is, shut_from}
use Rattle.nm_persist.proofs.ReadyLemmas.{IsReady}
use Rattle.nm_types.proofs.ListLemmas.{get_before}
use Rattle.nm_types.proofs.OptionLemmas.{same_some}
use Rattle.nm_types.proofs.TruthLemmas.{and_left, and_right}
use Rattle.nm_types.specs.Bodies.{HaveTheirLength}

-- each request has a part
le_true : (a b : ℕ) → nat_le a b ≡ true → a ≤ b
le_true a b is = grind (arith, nat_tests)

some_parts_in : (ranks rank : ℕ) (c : PlanCommand) (e : End) → is_in_range ranks c ≡ true → end_in rank c ≡ Some e →
    0 < parts_in c
some_parts_in ranks rank (PsendInit p to tag ctx parts body) e range ended =
    let more = and_right (nat_le ctx 127) _
    (and_right (nat_le tag 2047) _ (and_right (nat_lt to ranks) _ (and_right (nat_le p 4095) _ range))) in
    let low = le_true 1 parts
    (and_left (nat_le 1 parts) (nat_le parts 16) (and_left (nat_le 1 parts && nat_le parts 16) _ more)) in
    omega (arith, low)
some_parts_in ranks rank (PrecvInit p from tag ctx parts cap) e range ended =
    let more = and_right (nat_le ctx 127) _
    (and_right (nat_le tag 2047) _ (and_right (nat_lt from ranks) _ (and_right (nat_le p 4095) _ range))) in
    let low = le_true 1 parts
    (and_left (nat_le 1 parts) (nat_le parts 16) (and_left (nat_le 1 parts && nat_le parts 16) _ more)) in
    omega (arith, low)
some_parts_in ranks rank (SendInit p to tag ctx body) e range ended = omega arith
some_parts_in ranks rank (RecvInit p from tag ctx cap) e range ended = omega arith
some_parts_in ranks rank (Fill p body) e range ended = absurd (grind (arith, ended))
some_parts_in ranks rank (Start p) e range ended = absurd (grind (arith, ended))
some_parts_in ranks rank (Ready p k) e range ended = absurd (grind (arith, ended))
some_parts_in ranks rank (Arrived p k) e range ended = absurd (grind (arith, ended))
some_parts_in ranks rank (Wait p) e range ended = absurd (grind (arith, ended))

abbrev HaveParts : List PlanLine → Type 0
HaveParts lines = (owner : Owner) (k : Kind) → kind_of owner lines ≡ Some k → 0 < k.parts

have_more : (ranks : ℕ) (before : List PlanLine) (line : PlanLine) → IsReady ranks before line → HaveParts before →
    HaveParts (before ++ line ∷ [])
have_more ranks before line fine have owner k is = by_making (making ranks owner before line fine)
  where
    by_making : Making owner before line → 0 < k.parts
    by_making (Makes about e ended none new) =
        let same : record { at = e; parts = parts_in line.command } ≡ k = cc in
        subst (λ (k : Kind). 0 < k.parts) same (some_parts_in ranks line.rank line.command e fine.range ended)
    by_making (Leaves kept own) = have owner k (sym kept ∙ is)

have_none : HaveParts []
unfolding request_at
have_none owner k is = absurd (grind (arith, is))

have_parts : (ranks : ℕ) (lines : List PlanLine) → AreFine ranks lines → HaveParts lines
have_parts ranks lines fine =
    each_line ranks (λ lines. HaveParts lines) (λ before line f have. have_more ranks before line f have) [] lines
    refl fine.range fine.sound have_none

-- the request of a kind
request_of : (lines : List PlanLine) (owner : Owner) (k : Kind) → kind_of owner lines ≡ Some k →
    (r : Request) × (request_at lines owner ≡ Some r) × (kind_by owner.rank r ≡ k)
request_of lines owner k made = by_request (request_at lines owner) refl made
  where
    by_request : (o : Option Request) → request_at lines owner ≡ o → option_map (kind_by owner.rank) o ≡ Some k →
        (r : Request) × (request_at lines owner ≡ Some r) × (kind_by owner.rank r ≡ k)
    by_request None is made = absurd (grind (arith, made))
    by_request (Some r) is made = (r, is, same_some (kind_by owner.rank r) k made)

pub owned : (ran : List Done) → map (λ (c : Numbered). c.command) (owns ran) ≡ cmds ran
owned [] = refl
owned (d ∷ ran) = ap (λ (xs : List Command). d.own.command ∷ xs) (owned ran)

module _ (shape : Sizes) (lines : List PlanLine) (at : ℕ → ℕ) (hist : ℕ → List Event)
    (run : NamedRun shape (λ rank. numbered_of rank (expand lines)) at hist) (lengths : HaveTheirLength)
    (fine : AreFine shape.ranks lines) (rising : (i : ℕ) → Rising 2 (numbered_of i (expand lines)))
    (lasts : (i : ℕ) → i < shape.ranks → (ran : List Done) × Last shape lines at hist run lengths fine rising i ran)
    (j : ℕ) (inside : j < shape.ranks) (rises : Rising 2 (numbered_of j (expand lines)))
    (apart : (q : ℕ) → are_apart q false (map (λ c. c.command) (numbered_of j (expand lines))) ≡ true)
    (before : List PlanLine) (line : PlanLine) (after : List PlanLine) (split : lines ≡ before ++ line ∷ after)
    (p : ℕ) (r : Request) (cap : ℕ) (made : request_at before (record { rank = j; p = p }) ≡ Some r)
    (side : r.side ≡ Receives cap)
    (D : List Done) (h : List Event)
    (state : State shape (λ rank. numbered_of rank (expand lines)) at hist run lengths j inside rises apart h D)
    (done : cmds D ≡ own_commands j (expand (before ++ line ∷ []))) where
  abbrev o : Owner
  o = record { rank = j; p = p }

  abbrev kind : Kind
  kind = kind_by j r

  abbrev up_to : List PlanLine
  up_to = before ++ line ∷ []

  split_up : lines ≡ up_to ++ after
  split_up = split ∙ sym (append_assoc before (line ∷ []) after)

  fine_before : AreFine shape.ranks before
  fine_before = fine_front shape.ranks lines before (line ∷ after) split fine

  fine_up : AreFine shape.ranks up_to
  fine_up = fine_front shape.ranks lines up_to after split_up fine

  kind_made : kind_of o lines ≡ Some kind
  kind_made = kind_in_plan shape.ranks lines before (line ∷ after) o kind split fine
      (ap (λ (x : Option Request). option_map (kind_by j) x) made)

  receiving : is_sending r.side ≡ false
  receiving = ap (λ (s : Side). is_sending s) side

  -- the answer to part k, where the request was started and each of the part's starts has its result
  part_shown : (k round : ℕ) (r' : Request) → k < 16 → nat_lt k (part_count r) ≡ true → is_shut (name_of p k) D ≡ true →
      request_at up_to o ≡ Some r' → part_count r' ≡ part_count r → is_pending r' k ≡ false →
      starts_of up_to o ≡ starts_of before o → length (starts_of before o) ≡ suc round →
      (a : Answer) × (last_end (name_of p k) D ≡ Some a) × IsPartOf shape lines at hist run lengths fine rising o
      kind r.parts k round a
  part_shown k round r' low small shut now count sent same_starts started =
      let q : ℕ = name_of p k in
      let track = tracked shape.ranks up_to fine_up o k low in
      let follows : Follows p k r' (named o k up_to) (starts_of up_to o) =
      subst (λ (x : Option Request). FollowsFrom p k x (named o k up_to) (starts_of up_to o)) now track.follows in
      let many : length (filter (is_start_of q) (own_commands j (expand up_to))) ≡ suc round =
      ap (λ (cs : List Command). length cs) (starts_own q (own_commands j (expand up_to)))
      ∙ as_many p k r' (named o k up_to) (starts_of up_to o) follows sent (ap (λ (n : ℕ). nat_lt k n) count ∙ small)
      ∙ ap (λ (rs : List Request). length rs) same_starts ∙ started in
      let all : length (starts_for q (owns D)) ≡ suc round =
      sym (length-map (starts_for q (owns D)) (λ (c : Numbered). c.command))
      ∙ ap (λ (cs : List Command). length cs) (filter_map_same (is_start_of q) (owns D)
      ∙ ap (λ (cs : List Command). filter (is_start_of q) cs) (owned D ∙ done)) ∙ many in
      let last = snoc_of (starts_for q (owns D)) round all in
      let one = λ (n : ℕ) (c : Numbered) (here : slice_get (numbered_of j (expand lines)) n ≡ Some c).
      one_receive shape.ranks lines fine o kind kind_made k low receiving c.command
      (described_at shape lines at hist run lengths fine rising j n c here) in
      let ended = state.results q kind.at.peer (tag_at kind.at k) (context_at kind.at) one last.0 last.1 last.2
      (state.shut q shut) in
      let from = kept_from (λ (c : Numbered). is_start_of q c.command) (owns D) (length last.0) last.1
      (ap (λ (xs : List Numbered). slice_get xs (length last.0)) last.2 ∙ last_place last.0 last.1) in
      let here : slice_get (numbered_of j (expand lines)) from.0 ≡ Some last.1 =
      ap (λ (xs : List Numbered). slice_get xs from.0) state.split
      ∙ get_before (owns D) state.more from.0 last.1 from.1 in
      let at_line = run.stand j from.0 last.1 here in
      let posts = receive_is kind.at.peer (tag_at kind.at k) (context_at kind.at) last.1.command
      (run.named j last.1.line last.1.command at_line) (one from.0 last.1 here ∙ from.2) in
      let within : kind.at.peer < shape.ranks =
      subst (λ (c : Command). IsWithin shape.ranks c) posts.is (run.peers j last.1.line last.1.command at_line) in (
        ended.result,
        ended.is,
        part_of_body shape lines at hist run lengths fine rising o kind r.parts k round ended.result low kind_made
            receiving refl refl small
            lasts within (kinds shape.ranks lines fine)
            (subst (λ (n : ℕ). Takes shape (λ rank. numbered_of rank (expand lines)) at hist run lengths kind.at.peer
            j (tag_at kind.at k) (context_at kind.at) n ended.result)
            last.3 ended.takes),
      )
    where
      last_place : (front : List Numbered) (c : Numbered) → slice_get (front ++ c ∷ []) (length front) ≡ Some c
      last_place [] c = refl
      last_place (x ∷ front) c = last_place front c

  -- the body that the other end held
  held_by : (k round : ℕ) (a : Answer)
      (part : IsPartOf shape lines at hist run lengths fine rising o kind r.parts k round a) →
      length (starts_of before o) ≡ suc round → IsHeld lines before o r part.body
  held_by k round a part started =
      let request = request_of lines part.sender part.other part.made in
      record {
        sender = part.sender;
        other = record {
          request = request.0;
          made = request.1;
          other = ap (λ (k : Kind). k.at) request.2 ∙ part.ends;
        };
        round = round;
        started = started ∙ (omega arith);
        held = part.held;
      }

  -- two parts are of one body
  one_body : (k m round : ℕ) (a b : Answer)
      (first : IsPartOf shape lines at hist run lengths fine rising o kind r.parts k round a)
      (second : IsPartOf shape lines at hist run lengths fine rising o kind r.parts m round b) →
      second.body ≡ first.body
  one_body k m round a b first second =
      let same = alone shape.ranks lines fine first.sender second.sender first.other second.other first.made
      second.made (first.ends ∙ sym second.ends) in
      same_some second.body first.body
      (sym second.held ∙ ap (λ (s : Owner). slice_get (bodies_of lines s) round) (sym same) ∙ first.held)

  result_of : (k : ℕ) (body : List ℕ) (a : Answer) (x : Option Answer) → x ≡ Some a →
      Shows kind.at.peer (tag_at kind.at k) (part_bytes r.parts k body) a →
      IsResultOf r.peer (tag_of r k) (part_bytes r.parts k body) x
  result_of k body a x is (inl got) = inl (is ∙ ap (λ (a : Answer). Some a) got)
  result_of k body a x is (inr cut) = inr (is ∙ ap (λ (a : Answer). Some a) cut)

  -- it was started, since it is active
  begun : r.active ≡ true → (round : ℕ) × (length (starts_of before o) ≡ suc round)
  begun active =
      let track = tracked shape.ranks before fine_before o 0 (omega arith) in
      let follows : Follows p 0 r (named o 0 before) (starts_of before o) =
      subst (λ (x : Option Request). FollowsFrom p 0 x (named o 0 before) (starts_of before o)) made track.follows in
      let busy = follows.busy active (some_lt (part_count r) (have_parts shape.ranks lines fine o kind kind_made)) in (
        length busy.front,
        ap (λ (rs : List Request). length rs) busy.starts ∙ length-append busy.front (busy.last ∷ [])
            ∙ one_more (length busy.front),
      )
    where
      some_lt : (n : ℕ) → 0 < n → nat_lt 0 n ≡ true
      some_lt n some = grind (arith, nat_tests)

      one_more : (n : ℕ) → n + 1 ≡ suc n
      one_more n = omega arith

  starts_same : (b : Bool) → is_start line.command ≡ false → starts_of up_to o ≡ starts_of before o
  starts_same b none =
      starts_of-more before line o
      ∙ ap (λ (b : Bool). starts_of before o ++ cond (is_about o line && b) (option_to_list (request_at before o)) [])
      none
      ∙ by_about (is_about o line)
    where
      by_about : (b : Bool) → starts_of before o ++ cond (b && false) (option_to_list (request_at before o)) []
          ≡ starts_of before o
      by_about true = append-nil (starts_of before o)
      by_about false = append-nil (starts_of before o)

  -- the requests that a command is allowed for
  allowed : (c : PlanCommand) → owner_of line ≡ o → line.command ≡ c → allows c r ≡ true
  allowed c own is =
      by_order (request_at before o) made
      (subst (λ (x : Owner). InOrder c (request_at before x)) own
      (subst (λ (c : PlanCommand). InOrder c (request_at before (owner_of line))) is
      (in_order shape.ranks before line (fine_line shape.ranks lines before line after split fine))))
    where
      by_order : (x : Option Request) → x ≡ Some r → InOrder c x → allows c r ≡ true
      by_order None is order = absurd (grind (arith, is))
      by_order (Some s) is order = let same : s ≡ r = cc in subst (λ (s : Request). allows c s ≡ true) same order.1

  request_up : (c : PlanCommand) → is_about o line ≡ true → line.command ≡ c → request_at up_to o ≡ request_after c
      (Some r)
  request_up c about is =
      request_at-more before line o
      ∙ ap (λ (b : Bool). cond b (request_after line.command (request_at before o)) (request_at before o)) about
      ∙ ap (λ (c : PlanCommand). request_after c (request_at before o)) is
      ∙ ap (λ (x : Option Request). request_after c x) made

  about_it : owner_of line ≡ o → is_about o line ≡ true
  about_it own =
      ap (λ (x : ℕ). x == j && (request_in line.command == p)) (ap (λ (x : Owner). x.rank) own)
      ∙ ap (λ (x : ℕ). j == j && (x == p)) (ap (λ (x : Owner). x.p) own)
      ∙ both (j == j) (p == p) (eqb_self j) (eqb_self p)
    where
      both : (a b : Bool) → a ≡ true → b ≡ true → (a && b) ≡ true
      both true true first second = refl
      both true false first second = absurd (false≢true second)
      both false b first second = absurd (false≢true first)

  lt_of : (a b : ℕ) → nat_lt a b ≡ true → a < b
  lt_of a b is = grind (arith, nat_tests)

  lt_is : (a b : ℕ) → a < b → nat_lt a b ≡ true
  lt_is a b is = grind (arith, nat_tests)

  -- a wait shows the body of its start
  pub wait_shown : owner_of line ≡ o → line.command ≡ Wait p → part_count r ≤ 16 → (told : List Named) →
      ((q : ℕ) → last_result told q ≡ last_end q D) →
      (body : List ℕ) × IsHeld lines before o r body
      × ShowsBody r.peer r.tag body
      (received r.peer r.tag (map (λ k. last_result told (name_of p 0 + k)) (range_with_len 0 (part_count r))))
  wait_shown own is few told same =
      let active : r.active ≡ true = and_left r.active _ (allowed (Wait p) own is) in
      let start = begun active in
      let round : ℕ = start.0 in
      let r' : Request = record r { active = false } in
      let now : request_at up_to o ≡ Some r' = request_up (Wait p) (about_it own) is in
      let none : is_start line.command ≡ false = ap (λ (c : PlanCommand). is_start c) is in
      let shut = λ (k : ℕ) (low : k < 16).
      shut_from (name_of p k) false true D (λ _. refl)
      (ap (λ (cs : List Command). waits_for (name_of p k) false cs) done ∙ waits_own (name_of p k) false
      (own_commands j (expand up_to))
      ∙ (follows_at k low now).waits) in
      let parts = λ (k : ℕ) (small : k < part_count r).
      let low : k < 16 = omega (arith, small, few) in
      part_shown k round r' low (lt_is k (part_count r) small) (shut k low) now refl (never_pending r' cap k side)
      (starts_same true none) start.1 in
      let some : 0 < part_count r = have_parts shape.ranks lines fine o kind kind_made in
      let first = parts 0 some in
      let body : List ℕ = first.2.body in (
        body,
        held_by 0 round first.0 first.2 start.1,
        shows_joined r.peer (λ k. tag_of r k) (λ k. part_bytes r.parts k body)
            (λ k. last_result told (name_of p 0 + k)) r.tag (part_count r) body
            (λ k low high.
            let small : k < part_count r = omega (arith, high) in
            let part = parts k small in
            result_of k body part.0 (last_result told (name_of p 0 + k))
            (same (name_of p 0 + k) ∙ ap (λ (q : ℕ). last_end q D) (named_at p k) ∙ part.1)
            (subst (λ (body : List ℕ). Shows kind.at.peer (tag_at kind.at k) (part_bytes r.parts k body) part.0)
            (one_body 0 k round first.0 part.0 first.2 part.2) part.2.shows))
            (body_joined r.parts body some),
      )
    where
      follows_at : (k : ℕ) → k < 16 → request_at up_to o ≡ Some (record r { active = false }) →
          Follows p k (record r { active = false }) (named o k up_to) (starts_of up_to o)
      follows_at k low now =
          subst (λ (x : Option Request). FollowsFrom p k x (named o k up_to) (starts_of up_to o)) now
          (tracked shape.ranks up_to fine_up o k low).follows

      named_at : (p k : ℕ) → name_of p 0 + k ≡ name_of p k
      named_at p k = omega arith

  -- a part has arrived where its request isn't active, or its result is there
  pub arrived_shown : (k : ℕ) → owner_of line ≡ o → line.command ≡ Arrived p k → k < 16 → (told : List Named) →
      ((q : ℕ) → last_result told q ≡ last_end q D) → (front : List Done) (d : Done) → D ≡ front ++ d ∷ [] →
      d.own.command ≡ command.Test (name_of p k) → arrived_word (Some d.answer) ∷ [] ≡ codes "yes" ∷ [] →
      (r.active ≡ false) ⊎ ((body : List ℕ) × IsHeld lines before o r body
      × IsResultOf r.peer (tag_of r k) (part_bytes r.parts k body) (last_result told (name_of p k)))
  arrived_shown k own is low told same front d ends asks says = by_active r.active refl
    where
      q : ℕ
      q = name_of p k

      not_no : (a : Answer) → arrived_word (Some a) ∷ [] ≡ codes "yes" ∷ [] → is_no a ≡ false
      not_no answer.No says = absurd (grind (arith, says))
      not_no a says = refl

      shut : is_shut (name_of p k) D ≡ true
      shut =
          ap (λ (ds : List Done). is_shut (name_of p k) ds) ends ∙ fold_push (is_shut_after (name_of p k)) true front d
          ∙ ap (λ (c : Command). is_shut_after (name_of p k) (is_shut (name_of p k) front)
          (record { own = record d.own { command = c }; answer = d.answer })) asks
          ∙ ap (λ (b : Bool). cond (b && not (is_no d.answer)) true (is_shut (name_of p k) front))
          (eqb_self (name_of p k))
          ∙ ap (λ (b : Bool). cond (not b) true (is_shut (name_of p k) front)) (not_no d.answer says)

      by_active : (b : Bool) → r.active ≡ b → (r.active ≡ false) ⊎ ((body : List ℕ) × IsHeld lines before o r body
          × IsResultOf r.peer (tag_of r k) (part_bytes r.parts k body) (last_result told (name_of p k)))
      by_active false idle = inl idle
      by_active true active =
          let start = begun active in
          let small : nat_lt k (part_count r) ≡ true = and_right _ (nat_lt k (part_count r))
          (allowed (Arrived p k) own is) in
          let none : is_start line.command ≡ false = ap (λ (c : PlanCommand). is_start c) is in
          let now : request_at up_to o ≡ Some r = request_up (Arrived p k) (about_it own) is in
          let part = part_shown k start.0 r low small shut now refl (never_pending r cap k side)
          (starts_same true none) start.1 in
          inr (
            part.2.body,
            held_by k start.0 part.0 part.2 start.1,
            result_of k part.2.body part.0 (last_result told (name_of p k)) (same (name_of p k) ∙ part.1) part.2.shows,
          )
