-- The commands of a rank in the script of a plan: each start is of a part of one of its requests, whose end
-- and part its channel tells.
use Rattle.std.proofs.Common.{◌≡◌, ℕ, ◌+◌, ◌*◌, ◌<◌, ◌≤◌, ◌==◌, Bool, true, false, not, ◌&&◌, cond, zero, suc, Option}
use Rattle.std.proofs.Common.{Some, None}
use Rattle.std.proofs.Common.{List, [], ◌∷◌, ◌++◌, map, refl, sym, ◌∙◌, ap, subst, arith}
use Rattle.std.specs.Prelude.{IfSome, is_some, option_map}
use Rattle.std.specs.List.{AllByRecursion, range_with_len}
use Rattle.std.proofs.lemmas.Bool.{false≢true}
use Rattle.std.proofs.lemmas.List.FromFn.{map-range_with_len_more}
use Rattle.nm_types.specs.declared.scripts.Command.{Command}
use Rattle.nm_types.specs.declared.scripts.Command.TheVariants as command
use Rattle.nm_history.specs.Answers.{is_start_of}
use Rattle.nm_history.proofs.OnceLemmas.{eqb_self}
use Rattle.nm_sure.proofs.Gathered.{receives_it, sends_it}
use Rattle.nm_plans.specs.declared.lines.PlanCommand.{PlanCommand}
use Rattle.nm_plans.specs.declared.lines.PlanCommand.TheVariants.{SendInit, RecvInit, PsendInit, PrecvInit, Fill}
use Rattle.nm_plans.specs.declared.lines.PlanCommand.TheVariants.{Start, Ready, Arrived, Wait}
use Rattle.nm_plans.specs.declared.lines.PlanLine.{PlanLine}
use Rattle.nm_plans.specs.Grammar.{request_in}
use Rattle.nm_plans.specs.declared.requests.ends.End.{End}
use Rattle.nm_plans.specs.declared.requests.requests.Owner.{Owner}
use Rattle.nm_plans.specs.declared.requests.requests.Request.{Request}
use Rattle.nm_plans.specs.declared.requests.requests.Side.{Side}
use Rattle.nm_plans.specs.declared.requests.requests.Side.TheVariants.{Sends, Receives}
use Rattle.nm_plans.specs.Ends.{end}
use Rattle.nm_plans.specs.Expansion.{commands_for, commands_of, each_part, expand, is_split_send, name_of}
use Rattle.nm_plans.specs.Expansion.{start_of}
use Rattle.nm_plans.specs.PlanRequests.{is_sending, owner_of, part_count, request_at}
use Rattle.nm_persist.specs.Names.{is_named}
use Rattle.nm_persist.proofs.EndsMade.{Kind, Leaves, Makes, Making, alone, end_parts, kind_by, kind_of, making}
use Rattle.nm_persist.proofs.Items.{part_in, same_name}
use Rattle.nm_persist.proofs.LinesRead.{starts_one}
use Rattle.nm_persist.proofs.Owned.{own_commands}
use Rattle.nm_persist.proofs.Tracked.{AreFine, each_line, few_parts, own-more, part_low}
use Rattle.nm_persist.proofs.ReadyLemmas.{IsReady}
use Rattle.nm_types.proofs.ListLemmas.{all_append, all_along}
use Rattle.nm_types.proofs.NumberLemmas.{same_number}
use Rattle.nm_types.proofs.TruthLemmas.{same_test, and_left, and_right}

-- the context and the tag of part k at an end
abbrev pub context_at : End → ℕ
context_at e = 2 * e.channel.ctx + cond e.channel.sort.split 1 0

abbrev pub tag_at : End → ℕ → ℕ
tag_at e k = 16 * e.channel.tag + k

-- a start of part k at an end
pub record IsPartStart (rank : ℕ) (lines : List PlanLine) (c : Command) : Type 0 where
  pub p : ℕ
  pub k : ℕ
  pub low : k < 16
  pub kind : Kind
  pub made : kind_of (record { rank = rank; p = p }) lines ≡ Some kind
  pub name : (q : ℕ) → is_start_of q c ≡ (name_of p k == q)
  pub sends : (to tag ctx : ℕ) → sends_it to tag ctx c
      ≡ (kind.at.channel.sort.sends && (ctx == context_at kind.at && to == kind.at.peer && tag == tag_at kind.at k))
  pub receives : (from tag ctx : ℕ) → receives_it from tag ctx c
      ≡ (not kind.at.channel.sort.sends && (context_at kind.at == ctx && kind.at.peer == from && tag_at kind.at k ==
      tag))

pub record IsDescribed (rank : ℕ) (lines : List PlanLine) (c : Command) : Type 0 where
  pub named : is_named c ≡ true
  pub start : starts_one c ≡ true → IsPartStart rank lines c

-- a request that is made stays
pub kind_stays : (ranks : ℕ) (owner : Owner) (before : List PlanLine) (line : PlanLine) (k : Kind) →
    IsReady ranks before line →
    kind_of owner before ≡ Some k → kind_of owner (before ++ line ∷ []) ≡ Some k
kind_stays ranks owner before line k fine made = by_making (making ranks owner before line fine)
  where
    by_making : Making owner before line → kind_of owner (before ++ line ∷ []) ≡ Some k
    by_making (Makes about e ended none new) = absurd (grind (arith, none, made))
    by_making (Leaves kept own) = kept ∙ made

described_later : (ranks rank : ℕ) (before : List PlanLine) (line : PlanLine) (c : Command) →
    IsReady ranks before line →
    IsDescribed rank before c → IsDescribed rank (before ++ line ∷ []) c
described_later ranks rank before line c fine is = record {
  named = is.named;
  start = λ starts.
      let part = is.start starts in
      record {
        p = part.p;
        k = part.k;
        low = part.low;
        kind = part.kind;
        made = kind_stays ranks (record { rank = rank; p = part.p }) before line part.kind fine part.made;
        name = part.name;
        sends = part.sends;
        receives = part.receives;
      };
}

-- what holds of each part
all_parts : (P : Command → Type 0) (f : ℕ → Command) (n : ℕ) → ((k : ℕ) → k < n → P (f k)) →
    AllByRecursion P (map f (range_with_len 0 n))
all_parts P f zero each = tt
all_parts P f (suc n) each =
    subst (λ (xs : List Command). AllByRecursion P xs)
    (sym (ap (λ (m : ℕ). map f (range_with_len 0 m)) (sym (one_more n)) ∙ map-range_with_len_more f 0 n n
    (omega arith)))
    (all_append P (map f (range_with_len 0 n)) (f n ∷ []) (all_parts P f n (λ k low. each k (omega (arith, low))))
    (each n (omega arith), tt))
  where
    one_more : (n : ℕ) → n + 1 ≡ suc n
    one_more n = omega arith

-- the start of part k of a request
start_described : (rank p k : ℕ) (lines : List PlanLine) (r : Request) (side : Side) → k < 16 → r.side ≡ side →
    kind_of (record { rank = rank; p = p }) lines ≡ Some (kind_by rank r) → IsDescribed rank lines (start_of p r k side)
start_described rank p k lines r (Sends body) low is made = record {
  named = refl;
  start = λ starts. record {
    p = p;
    k = k;
    low = low;
    kind = record { at = end rank r.peer r.tag r.ctx true (is_some r.parts); parts = part_count r };
    made = made ∙ ap (λ (s : Side). Some
        (record { at = end rank r.peer r.tag r.ctx (is_sending s) (is_some r.parts); parts = part_count r })) is;
    name = λ q. refl;
    sends = λ to tag ctx. refl;
    receives = λ from tag ctx. refl;
  };
}
start_described rank p k lines r (Receives cap) low is made = record {
  named = refl;
  start = λ starts. record {
    p = p;
    k = k;
    low = low;
    kind = record { at = end rank r.peer r.tag r.ctx false (is_some r.parts); parts = part_count r };
    made = made ∙ ap (λ (s : Side). Some
        (record { at = end rank r.peer r.tag r.ctx (is_sending s) (is_some r.parts); parts = part_count r })) is;
    name = λ q. refl;
    sends = λ to tag ctx. refl;
    receives = λ from tag ctx. refl;
  };
}

question_described : (rank : ℕ) (lines : List PlanLine) (c : Command) → is_named c ≡ true → starts_one c ≡ false →
    IsDescribed rank lines c
question_described rank lines c named none =
    record { named = named; start = λ starts. absurd (false≢true (sym none ∙ starts)) }

-- the commands that a line stands for
block_described : (rank : ℕ) (lines : List PlanLine) (c : PlanCommand) (r : Request) → part_count r ≤ 16 →
    part_in c < 16 →
    kind_of (record { rank = rank; p = request_in c }) lines ≡ Some (kind_by rank r) →
    AllByRecursion (λ x. IsDescribed rank lines x) (commands_for c r)
block_described rank lines (Start p) r few low made = by_split (is_split_send r)
  where
    by_split : (b : Bool) → AllByRecursion (λ x. IsDescribed rank lines x)
        (cond b [] (each_part r (λ k. start_of p r k r.side)))
    by_split true = tt
    by_split false =
        all_parts (λ x. IsDescribed rank lines x) (λ k. start_of p r k r.side) (part_count r)
        (λ k below. start_described rank p k lines r r.side (omega (arith, below, few)) refl made)
block_described rank lines (Ready p k) r few low made = (start_described rank p k lines r r.side low refl made, tt)
block_described rank lines (Arrived p k) r few low made =
    (question_described rank lines (command.Test (name_of p k)) refl refl, tt)
block_described rank lines (Wait p) r few low made =
    all_parts (λ x. IsDescribed rank lines x) (λ k. command.Wait (name_of p k)) (part_count r)
    (λ k below. question_described rank lines (command.Wait (name_of p k)) refl refl)
block_described rank lines (SendInit p to tag ctx body) r few low made = tt
block_described rank lines (RecvInit p from tag ctx cap) r few low made = tt
block_described rank lines (PsendInit p to tag ctx parts body) r few low made = tt
block_described rank lines (PrecvInit p from tag ctx parts cap) r few low made = tt
block_described rank lines (Fill p body) r few low made = tt

abbrev pub AreDescribed : ℕ → List PlanLine → Type 0
AreDescribed rank lines = AllByRecursion (λ c. IsDescribed rank lines c) (own_commands rank (expand lines))

described_more : (ranks rank : ℕ) (before : List PlanLine) (line : PlanLine) → IsReady ranks before line →
    AreDescribed rank before →
    AreDescribed rank (before ++ line ∷ [])
described_more ranks rank before line fine all =
    subst (λ (cs : List Command). AllByRecursion (λ c. IsDescribed rank (before ++ line ∷ []) c) cs)
    (sym (own-more rank before line))
    (all_append (λ c. IsDescribed rank (before ++ line ∷ []) c) (own_commands rank (expand before))
    (cond (line.rank == rank) (commands_of line.command (request_at before (owner_of line))) [])
    (all_along (λ c. IsDescribed rank before c) (λ c. IsDescribed rank (before ++ line ∷ []) c)
    (own_commands rank (expand before))
    (λ c is. described_later ranks rank before line c fine is) all) (by_rank (line.rank == rank) refl))
  where
    by_request : (o : Option Request) → request_at before (owner_of line) ≡ o → IfSome o (λ r. part_count r ≤ 16) →
        line.rank ≡ rank →
        AllByRecursion (λ c. IsDescribed rank (before ++ line ∷ []) c) (commands_of line.command o)
    by_request None is few same = tt
    by_request (Some r) is few same =
        let old : kind_of (record { rank = rank; p = request_in line.command }) before ≡ Some (kind_by rank r) =
        subst (λ (rank : ℕ). kind_of (record { rank = rank; p = request_in line.command }) before ≡ Some
        (kind_by rank r)) same
        (ap (λ (o : Option Request). option_map (kind_by line.rank) o) is) in
        block_described rank (before ++ line ∷ []) line.command r few (part_low ranks line.command fine.range)
        (kind_stays ranks (record { rank = rank; p = request_in line.command }) before line (kind_by rank r) fine old)

    by_rank : (b : Bool) → (line.rank == rank) ≡ b →
        AllByRecursion (λ c. IsDescribed rank (before ++ line ∷ []) c)
        (cond b (commands_of line.command (request_at before (owner_of line))) [])
    by_rank true is =
        by_request (request_at before (owner_of line)) refl (few_parts ranks before line (owner_of line) fine)
        (same_number line.rank rank is)
    by_rank false is = tt

described_none : (rank : ℕ) → AreDescribed rank []
unfolding expand
described_none rank = tt

pub described : (ranks rank : ℕ) (lines : List PlanLine) → AreFine ranks lines → AreDescribed rank lines
described ranks rank lines fine =
    each_line ranks (λ lines. AreDescribed rank lines)
    (λ before line f all. described_more ranks rank before line f all) [] lines
    refl fine.range fine.sound (described_none rank)

-- numbers that tell a channel
pub same_context : (a b : ℕ) (s t : Bool) → 2 * a + cond s 1 0 ≡ 2 * b + cond t 1 0 → (a ≡ b) × (s ≡ t)
same_context a b true true is = (omega (arith, is), refl)
same_context a b false false is = (omega (arith, is), refl)
same_context a b true false is = absurd (omega (arith, is))
same_context a b false true is = absurd (omega (arith, is))

pub same_tag : (a b k m : ℕ) → k < 16 → m < 16 → 16 * a + k ≡ 16 * b + m → (a ≡ b) × (k ≡ m)
same_tag a b k m low small is = (omega (arith, low, small, is), omega (arith, low, small, is))

-- an end of a rank that has these parts is that end
pub end_told : (e f : End) (k m : ℕ) → k < 16 → m < 16 → e.rank ≡ f.rank → e.channel.sort.sends ≡ f.channel.sort.sends →
    context_at e ≡ context_at f → e.peer ≡ f.peer → tag_at e k ≡ tag_at f m → (e ≡ f) × (k ≡ m)
end_told e f k m low small ranks sends contexts peers tags =
    let ctx = same_context e.channel.ctx f.channel.ctx e.channel.sort.split f.channel.sort.split contexts in
    let tag = same_tag e.channel.tag f.channel.tag k m low small tags in (
      end_parts e.rank f.rank e.peer f.peer e.channel.tag f.channel.tag e.channel.ctx f.channel.ctx
          e.channel.sort.sends f.channel.sort.sends
          e.channel.sort.split f.channel.sort.split ranks peers tag.0 ctx.0 sends ctx.1,
      tag.1,
    )

-- a request's end is of its rank
pub own_rank : (owner : Owner) (lines : List PlanLine) (k : Kind) → kind_of owner lines ≡ Some k →
    k.at.rank ≡ owner.rank
own_rank owner lines k made = by_request (request_at lines owner) made
  where
    by_request : (o : Option Request) → option_map (kind_by owner.rank) o ≡ Some k → k.at.rank ≡ owner.rank
    by_request None made = absurd (grind (arith, made))
    by_request (Some r) made =
        let same : kind_by owner.rank r ≡ k = cc in
        sym (ap (λ (k : Kind). k.at.rank) same)

both_none : (q from tag ctx : ℕ) (c : Command) → is_named c ≡ true → starts_one c ≡ false →
    (is_start_of q c ≡ false) × (receives_it from tag ctx c ≡ false) × (sends_it from tag ctx c ≡ false)
both_none q from tag ctx (command.Send to q' t x sync body) named none = absurd (false≢true (sym none))
both_none q from tag ctx (command.Recv q' source tags context cap) named none = absurd (false≢true (sym none))
both_none q from tag ctx (command.Mrecv q' m cap) named none = absurd (false≢true named)
both_none q from tag ctx c named none = (refl, refl, refl)

three : (a b c d : Bool) → a ≡ true → b ≡ true → c ≡ true → d ≡ true → (a && (b && c && d)) ≡ true
three a b c d p q r s = rw (p, q, r, s) refl

module _ (ranks : ℕ) (lines : List PlanLine) (fine : AreFine ranks lines) (owner : Owner) (kind : Kind)
    (made : kind_of owner lines ≡ Some kind)
    (k : ℕ) (low : k < 16) where
  -- a start whose name and channel are told by one part of one request
  own_name : (x : Command) (part : IsPartStart owner.rank lines x) → is_start_of (name_of owner.p k) x ≡ true →
      (part.kind ≡ kind) × (part.k ≡ k)
  own_name x part is =
      let both = same_name owner.p k part.p part.k low part.low in
      let tests : (part.p == owner.p && part.k == k) ≡ true = sym both ∙ sym (part.name (name_of owner.p k)) ∙ is in
      let p = same_number part.p owner.p (and_left (part.p == owner.p) (part.k == k) tests) in (
        same_kind (sym part.made ∙ ap (λ (p : ℕ). kind_of (record { rank = owner.rank; p = p }) lines) p ∙ made),
        same_number part.k k (and_right (part.p == owner.p) (part.k == k) tests),
      )
    where
      same_kind : Some part.kind ≡ Some kind → part.kind ≡ kind
      same_kind is = cc

  own_end : (x : Command) (part : IsPartStart owner.rank lines x) → part.kind.at ≡ kind.at → part.k ≡ k →
      is_start_of (name_of owner.p k) x ≡ true
  own_end x part ends parts =
      let one = alone ranks lines fine (record { rank = owner.rank; p = part.p }) owner part.kind kind part.made made
      ends in
      part.name (name_of owner.p k)
      ∙ ap (λ (p : ℕ). name_of p part.k == name_of owner.p k) (ap (λ (o : Owner). o.p) one)
      ∙ ap (λ (m : ℕ). name_of owner.p m == name_of owner.p k) parts ∙ eqb_self (name_of owner.p k)

  -- the receives of the channel of part k are the starts of its name
  pub one_receive : kind.at.channel.sort.sends ≡ false → (x : Command) → IsDescribed owner.rank lines x →
      receives_it kind.at.peer (tag_at kind.at k) (context_at kind.at) x ≡ is_start_of (name_of owner.p k) x
  one_receive receiving x is = by_start (starts_one x) refl
    where
      by_start : (b : Bool) → starts_one x ≡ b →
          receives_it kind.at.peer (tag_at kind.at k) (context_at kind.at) x ≡ is_start_of (name_of owner.p k) x
      by_start false none =
          let neither = both_none (name_of owner.p k) kind.at.peer (tag_at kind.at k) (context_at kind.at) x is.named
          none in
          neither.1 ∙ sym neither.0
      by_start true starts =
          let part = is.start starts in
          let told = part.receives kind.at.peer (tag_at kind.at k) (context_at kind.at) in
          same_test _ _
          (λ it.
          let all = sym told ∙ it in
          let way = and_left (not part.kind.at.channel.sort.sends)
          (context_at part.kind.at == context_at kind.at && part.kind.at.peer == kind.at.peer
          && tag_at part.kind.at part.k == tag_at kind.at k) all in
          let rest = and_right (not part.kind.at.channel.sort.sends)
          (context_at part.kind.at == context_at kind.at && part.kind.at.peer == kind.at.peer
          && tag_at part.kind.at part.k == tag_at kind.at k) all in
          let front = and_left (context_at part.kind.at == context_at kind.at && part.kind.at.peer == kind.at.peer)
          (tag_at part.kind.at part.k == tag_at kind.at k) rest in
          let same = end_told part.kind.at kind.at part.k k part.low low
          (own_rank (record { rank = owner.rank; p = part.p }) lines part.kind part.made
          ∙ sym (own_rank owner lines kind made))
          (off part.kind.at.channel.sort.sends way ∙ sym receiving)
          (same_number _ _ (and_left (context_at part.kind.at == context_at kind.at)
          (part.kind.at.peer == kind.at.peer) front))
          (same_number _ _ (and_right (context_at part.kind.at == context_at kind.at)
          (part.kind.at.peer == kind.at.peer) front))
          (same_number _ _ (and_right (context_at part.kind.at == context_at kind.at && part.kind.at.peer ==
          kind.at.peer) (tag_at part.kind.at part.k == tag_at kind.at k) rest)) in
          own_end x part same.0 same.1)
          (λ it.
          let same = own_name x part it in
          told
          ∙ ap (λ (e : End). not e.channel.sort.sends && (context_at e == context_at kind.at && e.peer ==
          kind.at.peer && tag_at e part.k == tag_at kind.at k))
          (ap (λ (k : Kind). k.at) same.0)
          ∙ ap (λ (m : ℕ). not kind.at.channel.sort.sends &&
          (context_at kind.at == context_at kind.at && kind.at.peer == kind.at.peer && tag_at kind.at m ==
          tag_at kind.at k)) same.1
          ∙ three (not kind.at.channel.sort.sends) (context_at kind.at == context_at kind.at)
          (kind.at.peer == kind.at.peer) (tag_at kind.at k == tag_at kind.at k)
          (ap (λ (b : Bool). not b) receiving) (eqb_self (context_at kind.at)) (eqb_self kind.at.peer)
          (eqb_self (tag_at kind.at k)))
        where
          off : (b : Bool) → not b ≡ true → b ≡ false
          off true is = sym is
          off false is = refl

  -- and so of its sends
  pub one_send : kind.at.channel.sort.sends ≡ true → (x : Command) → IsDescribed owner.rank lines x →
      sends_it kind.at.peer (tag_at kind.at k) (context_at kind.at) x ≡ is_start_of (name_of owner.p k) x
  one_send sending x is = by_start (starts_one x) refl
    where
      by_start : (b : Bool) → starts_one x ≡ b →
          sends_it kind.at.peer (tag_at kind.at k) (context_at kind.at) x ≡ is_start_of (name_of owner.p k) x
      by_start false none =
          let neither = both_none (name_of owner.p k) kind.at.peer (tag_at kind.at k) (context_at kind.at) x is.named
          none in
          neither.2 ∙ sym neither.0
      by_start true starts =
          let part = is.start starts in
          let told = part.sends kind.at.peer (tag_at kind.at k) (context_at kind.at) in
          same_test _ _
          (λ it.
          let all = sym told ∙ it in
          let way = and_left part.kind.at.channel.sort.sends
          (context_at kind.at == context_at part.kind.at && kind.at.peer == part.kind.at.peer
          && tag_at kind.at k == tag_at part.kind.at part.k) all in
          let rest = and_right part.kind.at.channel.sort.sends
          (context_at kind.at == context_at part.kind.at && kind.at.peer == part.kind.at.peer
          && tag_at kind.at k == tag_at part.kind.at part.k) all in
          let front = and_left (context_at kind.at == context_at part.kind.at && kind.at.peer == part.kind.at.peer)
          (tag_at kind.at k == tag_at part.kind.at part.k) rest in
          let same = end_told part.kind.at kind.at part.k k part.low low
          (own_rank (record { rank = owner.rank; p = part.p }) lines part.kind part.made
          ∙ sym (own_rank owner lines kind made))
          (way ∙ sym sending)
          (sym (same_number _ _ (and_left (context_at kind.at == context_at part.kind.at)
          (kind.at.peer == part.kind.at.peer) front)))
          (sym (same_number _ _ (and_right (context_at kind.at == context_at part.kind.at)
          (kind.at.peer == part.kind.at.peer) front)))
          (sym (same_number _ _
          (and_right (context_at kind.at == context_at part.kind.at && kind.at.peer == part.kind.at.peer)
          (tag_at kind.at k == tag_at part.kind.at part.k) rest))) in
          own_end x part same.0 same.1)
          (λ it.
          let same = own_name x part it in
          told
          ∙ ap (λ (e : End). e.channel.sort.sends && (context_at kind.at == context_at e && kind.at.peer ==
          e.peer && tag_at kind.at k == tag_at e part.k))
          (ap (λ (k : Kind). k.at) same.0)
          ∙ ap (λ (m : ℕ). kind.at.channel.sort.sends && (context_at kind.at == context_at kind.at && kind.at.peer ==
          kind.at.peer && tag_at kind.at k == tag_at kind.at m)) same.1
          ∙ three kind.at.channel.sort.sends (context_at kind.at == context_at kind.at) (kind.at.peer == kind.at.peer)
          (tag_at kind.at k == tag_at kind.at k)
          sending (eqb_self (context_at kind.at)) (eqb_self kind.at.peer) (eqb_self (tag_at kind.at k)))
