-- A part's result is of the part of the body that the sender's request held at its start of the same number.
use Rattle.std.proofs.Common.{◌≡◌, ℕ, ◌<◌, ◌==◌, Bool, true, false, not, ◌&&◌, cond, Option, Some, None}
use Rattle.std.proofs.Common.{List, [], ◌∷◌, ◌++◌, map, refl, sym, ◌∙◌, ap, subst, append-nil}
use Rattle.std.specs.Prelude.{is_some, nat_lt, option_map, unwrap_or}
use Rattle.std.specs.List.{AllByRecursion, filter, filter_map, slice_get}
use Rattle.std.proofs.lemmas.Bool.{false≢true}
use Rattle.std.proofs.lemmas.List.{map-append}
use Rattle.std.proofs.lemmas.List.Elements.{filter-append}
use Rattle.nm_types.specs.declared.answers.Answer.{Answer}
use Rattle.nm_types.specs.declared.scripts.Command.{Command}
use Rattle.nm_types.specs.declared.scripts.Command.TheVariants as command
use Rattle.nm_types.specs.Bodies.{HaveTheirLength, bytes_of}
use Rattle.nm_types.specs.Commands.{Numbered, command_at, commands_of}
use Rattle.nm_types.specs.Sizes.{Sizes}
use Rattle.nm_history.specs.declared.events.Event.{Event}
use Rattle.nm_history.specs.declared.events.Happened.{Happened}
use Rattle.nm_history.specs.Answers.{is_start_of}
use Rattle.nm_history.specs.RankRun.{since_command, without_number}
use Rattle.nm_history.specs.Sends.{sent_bytes}
use Rattle.nm_sure.proofs.Gathered.{send_line, sends_it, sends_read}
use Rattle.nm_sure.proofs.Lists.{kept_from}
use Rattle.nm_sure.proofs.Made.{send_lines}
use Rattle.nm_sure.proofs.Rising.{Rising}
use Rattle.nm_plans.specs.declared.lines.PlanLine.{PlanLine}
use Rattle.nm_plans.specs.declared.requests.ends.End.{End}
use Rattle.nm_plans.specs.declared.requests.requests.Owner.{Owner}
use Rattle.nm_plans.specs.declared.requests.requests.Request.{Request}
use Rattle.nm_plans.specs.declared.requests.requests.Side.{Side}
use Rattle.nm_plans.specs.declared.requests.requests.Side.TheVariants.{Sends, Receives}
use Rattle.nm_plans.specs.Ends.{other_end, parts_at}
use Rattle.nm_plans.specs.Expansion.{expand, name_of, part_body, start_of}
use Rattle.nm_plans.specs.PlanRequests.{is_sending, part_count, request_at}
use Rattle.nm_persist.specs.Names.{Done, are_apart}
use Rattle.nm_persist.specs.Starts.{bodies_of, body_held, part_bytes, starts_of}
use Rattle.nm_persist.proofs.Described.{IsDescribed, context_at, described, end_told, one_send, own_rank, tag_at}
use Rattle.nm_persist.proofs.EndsMade.{Kind, has_parts, kind_by, kind_of, partners}
use Rattle.nm_persist.proofs.Items.{starts_own}
use Rattle.nm_persist.proofs.LinesRead.{lines_of, sends_named, read_starts, starts_one}
use Rattle.nm_persist.proofs.Owned.{commands_are, own_commands}
use Rattle.nm_persist.proofs.Quiet.{NamedRun}
use Rattle.nm_persist.proofs.States.{State, owns}
use Rattle.nm_persist.proofs.Taking.{Shows, Takes}
use Rattle.nm_persist.proofs.Walk.{filter_same}
use Rattle.nm_persist.proofs.Tracked.{AreFine, named, tracked}
use Rattle.nm_persist.proofs.Tracking.{FollowsFrom, IsBusy, cmd, is_pending}
use Rattle.nm_types.proofs.NumberLemmas.{same_number}
use Rattle.nm_types.proofs.ListLemmas.{get_map, get_before, get_from_map, all_at}
use Rattle.nm_types.proofs.OptionLemmas.{no_some, same_some}
use Rattle.nm_types.proofs.TruthLemmas.{and_left, and_right}

-- the starts of a name by numbered commands and by commands alone
pub filter_map_same : (g : Command → Bool) (cs : List Numbered) → map (λ (c : Numbered). c.command)
    (filter (λ c. g c.command) cs) ≡ filter g (map (λ (c : Numbered). c.command) cs)
filter_map_same g [] = refl
filter_map_same g (c ∷ cs) = by_test (g c.command) (filter_map_same g cs)
  where
    by_test : (b : Bool) → map (λ (c : Numbered). c.command) (filter (λ c. g c.command) cs) ≡ filter g
        (map (λ (c : Numbered). c.command) cs) →
        map (λ (c : Numbered). c.command) (cond b (c ∷ filter (λ c. g c.command) cs) (filter (λ c. g c.command) cs))
        ≡ cond b (c.command ∷ filter g (map (λ (c : Numbered). c.command) cs))
        (filter g (map (λ (c : Numbered). c.command) cs))
    by_test true later = ap (λ (xs : List Command). c.command ∷ xs) later
    by_test false later = later

-- a start of part k stands at the place of its request's start
start_place : (p k : ℕ) (o : Option Request) (N : List Command) (S : List Request) (x : ℕ) (c : Command) →
    FollowsFrom p k o N S → ((r : Request) → o ≡ Some r → nat_lt k (part_count r) ≡ true) →
    slice_get (filter (is_start_of (name_of p k)) N) x ≡ Some c →
    (r : Request) × (slice_get S x ≡ Some r) × (c ≡ cmd p k r)
start_place p k None N S x c follows small here =
    absurd (no_some c (sym (ap (λ (xs : List Command). slice_get xs x) follows.1) ∙ here))
start_place p k (Some r) N S x c follows small here = by_active r.active refl
  where
    placed : slice_get (map (cmd p k) S) x ≡ Some c → (r : Request) × (slice_get S x ≡ Some r) × (c ≡ cmd p k r)
    placed there = let found = get_from_map (cmd p k) S x c there in (found.0, found.1, sym found.2)

    by_active : (b : Bool) → r.active ≡ b → (r : Request) × (slice_get S x ≡ Some r) × (c ≡ cmd p k r)
    by_active false idle =
        placed (ap (λ (xs : List Command). slice_get xs x) (sym (follows.idle idle (small r refl))) ∙ here)
    by_active true active =
        let busy = follows.busy active (small r refl) in
        placed (by_pending busy (is_pending r k) (ap (λ (xs : List Command). slice_get xs x) (sym busy.commands) ∙ here)
        ∙ refl)
      where
        whole : (busy : IsBusy p k r N S) → map (cmd p k) S ≡ map (cmd p k) busy.front ++ cmd p k r ∷ []
        whole busy =
            ap (λ (xs : List Request). map (cmd p k) xs) busy.starts ∙ map-append (cmd p k) busy.front (busy.last ∷ [])
            ∙ ap (λ (c : Command). map (cmd p k) busy.front ++ c ∷ []) busy.same

        by_pending : (busy : IsBusy p k r N S) (b : Bool) →
            slice_get (map (cmd p k) busy.front ++ cond b [] (cmd p k r ∷ [])) x ≡ Some c →
            slice_get (map (cmd p k) S) x ≡ Some c
        by_pending busy true there =
            ap (λ (xs : List Command). slice_get xs x) (whole busy)
            ∙ get_before (map (cmd p k) busy.front) (cmd p k r ∷ []) x c
            (ap (λ (xs : List Command). slice_get xs x) (sym (append-nil (map (cmd p k) busy.front))) ∙ there)
        by_pending busy false there = ap (λ (xs : List Command). slice_get xs x) (whole busy) ∙ there

-- the bytes of a start
start_bytes : (p k : ℕ) (r : Request) (side : Side) → is_sending side ≡ true → sent_bytes (start_of p r k side)
    ≡ part_bytes r.parts k (body_held side)
start_bytes p k r (Sends body) sending = by_parts r.parts
  where
    by_parts : (o : Option ℕ) → bytes_of (part_body o k body) ≡ part_bytes o k (bytes_of body)
    by_parts None = refl
    by_parts (Some n) = refl
start_bytes p k r (Receives cap) sending = absurd (false≢true sending)

same_parts : (o o' : Option ℕ) → is_some o ≡ is_some o' → unwrap_or o 1 ≡ unwrap_or o' 1 → o ≡ o'
same_parts None None some count = refl
same_parts (Some n) (Some m) some count = ap (λ (n : ℕ). Some n) count
same_parts None (Some m) some count = absurd (false≢true some)
same_parts (Some n) None some count = absurd (false≢true (sym some))

-- a lawful run of a plan's script
module _ (shape : Sizes) (lines : List PlanLine) (at : ℕ → ℕ) (hist : ℕ → List Event)
    (run : NamedRun shape (λ rank. commands_of rank (expand lines)) at hist) (lengths : HaveTheirLength)
    (fine : AreFine shape.ranks lines) (rising : (i : ℕ) → Rising 2 (commands_of i (expand lines))) where
  abbrev pub cs : ℕ → List Numbered
  cs rank = commands_of rank (expand lines)

  pub cs_are : (i : ℕ) → map (λ (c : Numbered). c.command) (cs i) ≡ own_commands i (expand lines)
  cs_are i = commands_are i 2 (expand lines)

  pub described_at : (i n : ℕ) (c : Numbered) → slice_get (cs i) n ≡ Some c → IsDescribed i lines c.command
  described_at i n c here =
      all_at (λ x. IsDescribed i lines x) (own_commands i (expand lines)) n c.command
      (described shape.ranks i lines fine)
      (ap (λ (xs : List Command). slice_get xs n) (sym (cs_are i)) ∙ get_map (λ (c : Numbered). c.command)
      (cs i) n c here)

  -- what is known of a rank at its end
  abbrev pub Last : ℕ → List Done → Type 0
  Last i ran =
      (inside : i < shape.ranks) × (rising : Rising 2 (cs i))
      × (apart : (q : ℕ) → are_apart q false (map (λ c. c.command) (cs i)) ≡ true)
      × State shape cs at hist run lengths i inside rising apart (hist i) ran

  -- the send of a channel at a place is a command of its rank
  sent_command : (i j tag ctx x line : ℕ) (c : Command) (ran : List Done) → Last i ran →
      slice_get (send_lines (hist i) j tag ctx) x ≡ Some line → command_at (cs i) line ≡ Some c →
      (d : Numbered) × (slice_get (filter (λ (c : Numbered). sends_it j tag ctx c.command) (cs i)) x ≡ Some d)
      × (d.command ≡ c)
  sent_command i j tag ctx x line c ran last here at_line =
      let state = last.3 in
      let g : Numbered → Bool = λ (c : Numbered). sends_it j tag ctx c.command in
      let f : Happened → Option ℕ = send_line j tag ctx in
      let none : filter_map f (since_command (hist i)) ≡ [] =
      read_starts f (sends_read j tag ctx) (since_command (hist i))
      ∙ ap (λ (ws : List Happened). filter_map f (map without_number ws)) (run.own i last.0).starts.no_others in
      let all : send_lines (hist i) j tag ctx ≡ lines_of g (owns ran) =
      state.reads f g (sends_read j tag ctx) (sends_named j tag ctx)
      ∙ ap (λ (ls : List ℕ). lines_of g (owns ran) ++ ls) none ∙ append-nil (lines_of g (owns ran)) in
      let found = get_from_map (λ (c : Numbered). c.line) (filter g (owns ran)) x line
      (ap (λ (ls : List ℕ). slice_get ls x) (sym all) ∙ here) in
      let whole : slice_get (filter g (cs i)) x ≡ Some found.0 =
      ap (λ (xs : List Numbered). slice_get (filter g xs) x) state.split
      ∙ ap (λ (xs : List Numbered). slice_get xs x) (filter-append g (owns ran) state.more)
      ∙ get_before (filter g (owns ran)) (filter g state.more) x found.0 found.1 in
      let own = kept_from g (cs i) x found.0 whole in (
        found.0,
        whole,
        same_some found.0.command c
            (sym (run.stand i own.0 found.0 own.1) ∙ ap (λ (l : ℕ). command_at (cs i) l) found.2 ∙ at_line),
      )

  -- the requests of a plan have kinds, at their starts too
  -- the result of part k of a start shows part k of the body that the other end held
  pub record IsPartOf (owner : Owner) (kind : Kind) (parts : Option ℕ) (k round : ℕ) (a : Answer) : Type 0 where
    pub sender : Owner
    pub other : Kind
    pub made : kind_of sender lines ≡ Some other
    pub ends : other.at ≡ other_end kind.at
    pub body : List ℕ
    pub held : slice_get (bodies_of lines sender) round ≡ Some body
    pub shows : Shows kind.at.peer (tag_at kind.at k) (part_bytes parts k body) a

  pub part_of_body : (owner : Owner) (kind : Kind) (parts : Option ℕ) (k round : ℕ) (a : Answer) → k < 16 →
      kind_of owner lines ≡ Some kind →
      kind.at.channel.sort.sends ≡ false → kind.at.channel.sort.split ≡ is_some parts →
      kind.parts ≡ unwrap_or parts 1 → nat_lt k kind.parts ≡ true →
      ((i : ℕ) → i < shape.ranks → (ran : List Done) × Last i ran) → (within : kind.at.peer < shape.ranks) →
      ((owner : Owner) (kind : Kind) → kind_of owner lines ≡ Some kind →
      AllByRecursion (λ (r : Request). kind_by owner.rank r ≡ kind) (starts_of lines owner)) →
      Takes shape cs at hist run lengths kind.at.peer owner.rank (tag_at kind.at k) (context_at kind.at) round a →
      IsPartOf owner kind parts k round a
  part_of_body owner kind parts k round a low made receiving split count small lasts within kinds takes =
      let i : ℕ = kind.at.peer in
      let j : ℕ = owner.rank in
      let tag : ℕ = tag_at kind.at k in
      let ctx : ℕ = context_at kind.at in
      let last = lasts i within in
      let d = sent_command i j tag ctx round takes.sent.line takes.command last.0 last.1 takes.line takes.at_line in
      let kept = kept_from (λ (c : Numbered). sends_it j tag ctx c.command) (cs i) round d.0 d.1 in
      let told = described_at i kept.0 d.0 kept.1 in
      let starts : starts_one d.0.command ≡ true = sends_start j tag ctx d.0.command kept.2 in
      let part = told.start starts in
      let tests : (part.kind.at.channel.sort.sends &&
      (ctx == context_at part.kind.at && j == part.kind.at.peer && tag == tag_at part.kind.at part.k)) ≡ true =
      sym (part.sends j tag ctx) ∙ kept.2 in
      let rest = and_right part.kind.at.channel.sort.sends
      (ctx == context_at part.kind.at && j == part.kind.at.peer && tag == tag_at part.kind.at part.k) tests in
      let front = and_left (ctx == context_at part.kind.at && j == part.kind.at.peer)
      (tag == tag_at part.kind.at part.k) rest in
      let sender : Owner = record { rank = i; p = part.p } in
      let same = end_told part.kind.at (other_end kind.at) part.k k part.low low
      (own_rank sender lines part.kind part.made)
      (and_left part.kind.at.channel.sort.sends (ctx == context_at part.kind.at && j == part.kind.at.peer && tag ==
      tag_at part.kind.at part.k) tests
      ∙ sym (ap (λ (b : Bool). not b) receiving))
      (sym (same_number ctx (context_at part.kind.at)
      (and_left (ctx == context_at part.kind.at) (j == part.kind.at.peer) front)))
      (sym (same_number j part.kind.at.peer
      (and_right (ctx == context_at part.kind.at) (j == part.kind.at.peer) front))
      ∙ sym (own_rank owner lines kind made))
      (sym (same_number tag (tag_at part.kind.at part.k)
      (and_right (ctx == context_at part.kind.at && j == part.kind.at.peer) (tag == tag_at part.kind.at part.k)
      rest))) in
      let as_many : kind.parts ≡ part.kind.parts =
      partners shape.ranks lines fine kind.at kind.parts part.kind.parts
      (has_parts shape.ranks lines fine owner kind made)
      (ap (λ (e : End). parts_at lines e) (sym same.0) ∙ has_parts shape.ranks lines fine sender part.kind part.made) in
      let sending : part.kind.at.channel.sort.sends ≡ true =
      ap (λ (e : End). e.channel.sort.sends) same.0 ∙ ap (λ (b : Bool). not b) receiving in
      let named_start : slice_get (filter (is_start_of (name_of part.p k)) (own_commands i (expand lines))) round
      ≡ Some d.0.command =
      by_name i sender part.kind part.made k low sending round d.0
      (moved_channel i j (part.kind.at.peer) tag (tag_at part.kind.at k) ctx (context_at part.kind.at) round d.0
      (same_number j part.kind.at.peer (and_right (ctx == context_at part.kind.at) (j == part.kind.at.peer) front))
      (same_number tag (tag_at part.kind.at part.k)
      (and_right (ctx == context_at part.kind.at && j == part.kind.at.peer) (tag == tag_at part.kind.at part.k) rest)
      ∙ ap (λ (m : ℕ). tag_at part.kind.at m) same.1)
      (same_number ctx (context_at part.kind.at)
      (and_left (ctx == context_at part.kind.at) (j == part.kind.at.peer) front)) d.1) in
      let track = tracked shape.ranks lines fine sender k low in
      let place = start_place part.p k (request_at lines sender) (named sender k lines) (starts_of lines sender) round
      d.0.command track.follows
      (λ r is. sym (ap (λ (n : ℕ). nat_lt k n) (as_many ∙ count_of sender r is part.kind part.made)) ∙ small)
      (ap (λ (xs : List Command). slice_get xs round)
      (sym (starts_own (name_of part.p k) (own_commands i (expand lines)))) ∙ named_start) in
      let r : Request = place.0 in
      let its : kind_by i r ≡ part.kind =
      all_at (λ (r : Request). kind_by i r ≡ part.kind) (starts_of lines sender) round r
      (kinds sender part.kind part.made) place.1 in
      let own_parts : r.parts ≡ parts =
      same_parts r.parts parts
      (ap (λ (k : Kind). k.at.channel.sort.split) its ∙ ap (λ (e : End). e.channel.sort.split) same.0 ∙ split)
      (ap (λ (k : Kind). k.parts) its ∙ sym as_many ∙ count) in
      let bytes : sent_bytes takes.command ≡ part_bytes parts k (body_held r.side) =
      ap (λ (c : Command). sent_bytes c) (sym d.2 ∙ place.2)
      ∙ start_bytes part.p k r r.side (ap (λ (k : Kind). k.at.channel.sort.sends) its ∙ sending)
      ∙ ap (λ (o : Option ℕ). part_bytes o k (body_held r.side)) own_parts in
      record {
        sender = sender;
        other = part.kind;
        made = part.made;
        ends = same.0;
        body = body_held r.side;
        held = get_map (λ (r : Request). body_held r.side) (starts_of lines sender) round r place.1;
        shows = subst (λ (bytes : List ℕ). Shows i tag bytes a) bytes takes.shows;
      }
    where
      sends_start : (j tag ctx : ℕ) (c : Command) → sends_it j tag ctx c ≡ true → starts_one c ≡ true
      sends_start j tag ctx (command.Send to q t x sync body) it = refl
      sends_start j tag ctx c it = absurd (false≢true it)

      moved_channel : (i j j' t t' x x' n : ℕ) (d : Numbered) → j ≡ j' → t ≡ t' → x ≡ x' →
          slice_get (filter (λ (c : Numbered). sends_it j t x c.command) (cs i)) n ≡ Some d →
          slice_get (filter (λ (c : Numbered). sends_it j' t' x' c.command) (cs i)) n ≡ Some d
      moved_channel i j j' t t' x x' n d first second third here = rw (← first, ← second, ← third) here

      count_of : (s : Owner) (r : Request) → request_at lines s ≡ Some r → (k : Kind) → kind_of s lines ≡ Some k →
          k.parts ≡ part_count r
      count_of s r is k made =
          let same : kind_by s.rank r ≡ k = same_kind (ap (λ (o : Option Request). option_map (kind_by s.rank) o) is)
          made in
          sym (ap (λ (k : Kind). k.parts) same)
        where
          same_kind : {o : Option Kind} {a b : Kind} → o ≡ Some a → o ≡ Some b → a ≡ b
          same_kind first second = cc

      by_name : (i : ℕ) (s : Owner) (kind : Kind) → kind_of s lines ≡ Some kind →
          (k : ℕ) → k < 16 → kind.at.channel.sort.sends ≡ true → (n : ℕ) (d : Numbered) →
          slice_get (filter (λ (c : Numbered). sends_it kind.at.peer (tag_at kind.at k)
          (context_at kind.at) c.command) (cs s.rank)) n ≡ Some d →
          slice_get (filter (is_start_of (name_of s.p k)) (own_commands s.rank (expand lines))) n ≡ Some d.command
      by_name i s kind made k low sending n d here =
          let same : filter (λ (c : Numbered). sends_it kind.at.peer (tag_at kind.at k)
          (context_at kind.at) c.command) (cs s.rank)
          ≡ filter (λ (c : Numbered). is_start_of (name_of s.p k) c.command) (cs s.rank) =
          filter_same (λ (c : Numbered). sends_it kind.at.peer (tag_at kind.at k) (context_at kind.at) c.command)
          (λ (c : Numbered). is_start_of (name_of s.p k) c.command) (cs s.rank)
          (λ m c place. one_send shape.ranks lines fine s kind made k low sending c.command
          (described_at s.rank m c place)) in
          ap (λ (xs : List Command). slice_get xs n)
          (sym (ap (λ (cs : List Command). filter (is_start_of (name_of s.p k)) cs) (cs_are s.rank))
          ∙ sym (filter_map_same (is_start_of (name_of s.p k)) (cs s.rank)))
          ∙ get_map (λ (c : Numbered). c.command) (filter (λ (c : Numbered). is_start_of (name_of s.p k) c.command)
          (cs s.rank)) n d
          (ap (λ (xs : List Numbered). slice_get xs n) (sym same) ∙ here)
