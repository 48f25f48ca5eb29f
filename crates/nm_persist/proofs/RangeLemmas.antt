-- The requests of lines in range are so, and so are the lines that they stand for.
use Rattle.std.proofs.lemmas.Grind.{common_steps}
use Rattle.std.proofs.Common.{◌≡◌, ℕ, zero, suc, ◌+◌, ◌-◌, ◌*◌, ◌≤◌, ◌<◌, Bool, true, false, ◌&&◌, nat_lt, nat_le}
use Rattle.std.proofs.Common.{cond, List, [], ◌∷◌, length, map, take, drop, Option, Some, None, refl}
use Rattle.std.proofs.Common.{arith, length-drop}
use Rattle.std.specs.Prelude.{IfSome, fold, option_map, is_some}
use Rattle.std.specs.List.{list_all, range_with_len}
use Rattle.std.specs.Option.{option_map_or}
use Rattle.std.proofs.lemmas.Bool.{and_from, and_parts, ltb-true, lt-ltb, leb-true, le-leb}
use Rattle.nm_types.specs.declared.limits.TheConstants.{MAX_BODY, MAX_CAPACITY, MAX_CONTEXT}
use Rattle.nm_types.specs.declared.limits.TheConstants.{MAX_NAME, MAX_TAG}
use Rattle.nm_types.specs.declared.scripts.Body.{Body}
use Rattle.nm_types.specs.declared.scripts.Command.{Command}
use Rattle.nm_types.specs.declared.scripts.Command.TheVariants.{Test}
use Rattle.nm_types.specs.declared.scripts.Line.{Line}
use Rattle.nm_types.specs.Bodies.{body_len, bytes_of}
use Rattle.nm_types.specs.Limits.{is_in_range as is_command}
use Rattle.nm_script.specs.Spelled.{are_bytes}
use Rattle.nm_script.proofs.StepLemmas.{five_from}
use Rattle.nm_plans.specs.declared.lines.PlanCommand.{PlanCommand}
use Rattle.nm_plans.specs.declared.lines.PlanCommand.TheVariants.{SendInit, RecvInit, PsendInit}
use Rattle.nm_plans.specs.declared.lines.PlanCommand.TheVariants.{PrecvInit, Fill, Start, Ready}
use Rattle.nm_plans.specs.declared.lines.PlanCommand.TheVariants.{Arrived, Wait}
use Rattle.nm_plans.specs.declared.lines.PlanLine.{PlanLine}
use Rattle.nm_plans.specs.declared.requests.requests.Owner.{Owner}
use Rattle.nm_plans.specs.declared.requests.requests.Request.{Request}
use Rattle.nm_plans.specs.declared.requests.requests.Side.{Side}
use Rattle.nm_plans.specs.declared.requests.requests.Side.TheVariants.{Sends, Receives}
use Rattle.nm_plans.specs.Expansion.{commands_for, context_of, each_part}
use Rattle.nm_plans.specs.Expansion.{is_split_send, line_at, name_of}
use Rattle.nm_plans.specs.Expansion.{part_body, part_start, start_of, wait_of}
use Rattle.nm_plans.specs.Grammar.{is_in_range}
use Rattle.nm_plans.specs.PlanRequests.{IsSmall, changed_by, is_about, made_by, part_count, request_after}
use Rattle.nm_plans.specs.PlanRequests.{request_at, request_behind, side_len}
use Rattle.nm_plans.specs.States.{allows}
use Rattle.nm_types.proofs.BodyLemmas.{bytes_count}

-- the capacity of a side that receives
abbrev side_cap : Side → ℕ
side_cap (Sends body) = 0
side_cap (Receives cap) = cap

-- a request is in the ranges of its arguments
pub record IsInRange (ranks : ℕ) (r : Request) : Type 0 where
  pub small : IsSmall r
  pub peer : r.peer < ranks
  pub cap : side_cap r.side ≤ MAX_CAPACITY

body_short : (body : Body) (rest : Bool) → ((are_bytes body && nat_le (body_len body) MAX_BODY) && rest) ≡ true
    → body_len body ≤ MAX_BODY
body_short body rest h =
    let p = and_parts (are_bytes body && nat_le (body_len body) MAX_BODY) rest h in
    leb-true (body_len body) MAX_BODY (and_parts (are_bytes body) (nat_le (body_len body) MAX_BODY) p.0).1

module _ (ranks : ℕ) where
  abbrev pub IsOne : Option Request → Type 0
  IsOne r = IfSome r (IsInRange ranks)

  made_in_range : (c : PlanCommand) → is_in_range ranks c ≡ true → IsOne (made_by c)
  made_in_range (SendInit p to tag ctx body) h =
      let q = and_parts (nat_le p 4095) _ h in
      let r = and_parts (nat_lt to ranks) _ q.1 in
      let s = and_parts (nat_le tag 2047) _ r.1 in
      let t = and_parts (nat_le ctx 127) _ s.1 in
      record {
        small = record {
          tag = leb-true tag 2047 s.0;
          ctx = leb-true ctx 127 t.0;
          parts = omega arith;
          body = body_short body true t.1;
        };
        peer = ltb-true to ranks r.0;
        cap = omega arith;
      }
  made_in_range (RecvInit p from tag ctx cap) h =
      let q = and_parts (nat_le p 4095) _ h in
      let r = and_parts (nat_lt from ranks) _ q.1 in
      let s = and_parts (nat_le tag 2047) _ r.1 in
      let t = and_parts (nat_le ctx 127) _ s.1 in
      let u = and_parts (nat_le cap MAX_CAPACITY) true t.1 in
      record {
        small = record {
          tag = leb-true tag 2047 s.0;
          ctx = leb-true ctx 127 t.0;
          parts = omega arith;
          body = omega arith;
        };
        peer = ltb-true from ranks r.0;
        cap = leb-true cap MAX_CAPACITY u.0;
      }
  made_in_range (PsendInit p to tag ctx parts body) h =
      let q = and_parts (nat_le p 4095) _ h in
      let r = and_parts (nat_lt to ranks) _ q.1 in
      let s = and_parts (nat_le tag 2047) _ r.1 in
      let t = and_parts (nat_le ctx 127) _ s.1 in
      let u = and_parts (nat_le 1 parts && nat_le parts 16) _ t.1 in
      let v = and_parts (nat_le 1 parts) (nat_le parts 16) u.0 in
      record {
        small = record {
          tag = leb-true tag 2047 s.0;
          ctx = leb-true ctx 127 t.0;
          parts = leb-true parts 16 v.1;
          body = body_short body true u.1;
        };
        peer = ltb-true to ranks r.0;
        cap = omega arith;
      }
  made_in_range (PrecvInit p from tag ctx parts cap) h =
      let q = and_parts (nat_le p 4095) _ h in
      let r = and_parts (nat_lt from ranks) _ q.1 in
      let s = and_parts (nat_le tag 2047) _ r.1 in
      let t = and_parts (nat_le ctx 127) _ s.1 in
      let u = and_parts (nat_le 1 parts && nat_le parts 16) _ t.1 in
      let v = and_parts (nat_le 1 parts) (nat_le parts 16) u.0 in
      let w = and_parts (nat_le cap MAX_CAPACITY) true u.1 in
      record {
        small = record {
          tag = leb-true tag 2047 s.0;
          ctx = leb-true ctx 127 t.0;
          parts = leb-true parts 16 v.1;
          body = omega arith;
        };
        peer = ltb-true from ranks r.0;
        cap = leb-true cap MAX_CAPACITY w.0;
      }
  made_in_range (Fill p body) h = tt
  made_in_range (Start p) h = tt
  made_in_range (Ready p k) h = tt
  made_in_range (Arrived p k) h = tt
  made_in_range (Wait p) h = tt

  same_range : (r s : Request) → s.tag ≡ r.tag → s.ctx ≡ r.ctx → s.parts ≡ r.parts → s.side ≡ r.side
      → s.peer ≡ r.peer → IsInRange ranks r → IsInRange ranks s
  same_range r s tag ctx parts side peer is = record {
    small = record {
      tag = omega (arith, is.small.tag, tag);
      ctx = omega (arith, is.small.ctx, ctx);
      parts = rw parts is.small.parts;
      body = rw side is.small.body;
    };
    peer = omega (arith, is.peer, peer);
    cap = rw side is.cap;
  }

  changed_in_range : (c : PlanCommand) (r : Request) → is_in_range ranks c ≡ true → IsInRange ranks r
      → IsInRange ranks (changed_by c r)
  changed_in_range (Fill p body) r h is =
      let q = and_parts (nat_le p 4095) _ h in
      record {
        small = record {
          tag = is.small.tag;
          ctx = is.small.ctx;
          parts = is.small.parts;
          body = body_short body true q.1;
        };
        peer = is.peer;
        cap = omega arith;
      }
  changed_in_range (Start p) r h is = same_range r (changed_by (Start p) r) refl refl refl refl refl is
  changed_in_range (Ready p k) r h is = same_range r (changed_by (Ready p k) r) refl refl refl refl refl is
  changed_in_range (Wait p) r h is = same_range r (changed_by (Wait p) r) refl refl refl refl refl is
  changed_in_range (Arrived p k) r h is = is
  changed_in_range (SendInit p to tag ctx body) r h is = is
  changed_in_range (RecvInit p from tag ctx cap) r h is = is
  changed_in_range (PsendInit p to tag ctx parts body) r h is = is
  changed_in_range (PrecvInit p from tag ctx parts cap) r h is = is

  mapped_one : (c : PlanCommand) (r : Option Request) → is_in_range ranks c ≡ true → IsOne r
      → IsOne (option_map (changed_by c) r)
  mapped_one c None h is = tt
  mapped_one c (Some r) h is = changed_in_range c r h is

  either_one : (m other : Option Request) → IsOne m → IsOne other
      → IsOne (option_map_or (λ new. Some new) m other)
  either_one None other one two = two
  either_one (Some r) other one two = one

  cond_one : (b : Bool) (x y : Option Request) → IsOne x → IsOne y → IsOne (cond b x y)
  cond_one true x y one two = one
  cond_one false x y one two = two

  abbrev pub AllInRange : List PlanLine → Type 0
  AllInRange lines = list_all (λ line. nat_lt line.rank ranks && is_in_range ranks line.command) lines ≡ true

  behind_one : (owner : Owner) (r : Option Request) (line : PlanLine) → is_in_range ranks line.command ≡ true
      → IsOne r → IsOne (request_behind owner r line)
  behind_one owner r line h is =
      cond_one (is_about owner line) (request_after line.command r) r
      (either_one (made_by line.command) (option_map (changed_by line.command) r) (made_in_range line.command h)
      (mapped_one line.command r h is)) is

  fold_one : (owner : Owner) (r : Option Request) (lines : List PlanLine) → AllInRange lines → IsOne r
      → IsOne (fold (request_behind owner) r lines)
  fold_one owner r [] all is = is
  fold_one owner r (line ∷ lines) all is =
      let p = and_parts (nat_lt line.rank ranks && is_in_range ranks line.command)
      (list_all (λ line. nat_lt line.rank ranks && is_in_range ranks line.command) lines) all in
      let q = and_parts (nat_lt line.rank ranks) (is_in_range ranks line.command) p.0 in
      fold_one owner (request_behind owner r line) lines p.1 (behind_one owner r line q.1 is)

  -- the requests of lines in range are in range
  pub requests_in_range : (lines : List PlanLine) (owner : Owner) → AllInRange lines → IsOne (request_at lines owner)
  unfolding request_at
  requests_in_range lines owner all = fold_one owner None lines all tt

-- ---- the script of a line

take_short : (n : ℕ) (xs : List ℕ) → length (take n xs) ≤ length xs
take_short n xs = grind (arith, common_steps)

bit_small : (b : Bool) (ctx : ℕ) → ctx ≤ 127 → 2 * ctx + cond b 1 0 ≤ 255
bit_small true ctx h = omega arith
bit_small false ctx h = omega arith

part_short : (parts : Option ℕ) (k : ℕ) (body : Body) → body_len (part_body parts k body) ≤ body_len body
part_short None k body = omega arith
part_short (Some n) k body =
    let bytes = bytes_of body in
    omega (
      arith,
      bytes_count body,
      take_short (part_start n (k + 1) (length bytes) - part_start n k (length bytes))
          (drop (part_start n k (length bytes)) bytes),
      length-drop (part_start n k (length bytes)) bytes,
    )

context_small : (r : Request) → r.ctx ≤ 127 → context_of r ≤ 255
context_small r h = bit_small (is_some r.parts) r.ctx h

module _ (ranks : ℕ) where
  abbrev pub OkLine : Line → Bool
  OkLine line = nat_lt line.rank ranks && is_command ranks line.command

  start_in_range : (p k : ℕ) (r : Request) (side : Side) → p ≤ 4095 → k < 16 → IsInRange ranks r
      → side_len side ≤ MAX_BODY → side_cap side ≤ MAX_CAPACITY → is_command ranks (start_of p r k side) ≡ true
  start_in_range p k r (Sends body) name part is short cap =
      five_from (nat_le (16 * p + k) MAX_NAME) (nat_lt r.peer ranks) (nat_le (16 * r.tag + k) MAX_TAG)
      (nat_le (context_of r) MAX_CONTEXT) (nat_le (body_len (part_body r.parts k body)) MAX_BODY) (record {
        one = le-leb (16 * p + k) MAX_NAME (omega arith);
        two = lt-ltb r.peer ranks is.peer;
        three = le-leb (16 * r.tag + k) MAX_TAG (omega (arith, is.small.tag));
        four = le-leb (context_of r) MAX_CONTEXT (context_small r is.small.ctx);
        five = le-leb (body_len (part_body r.parts k body)) MAX_BODY (omega (arith, part_short r.parts k body, short));
      })
  start_in_range p k r (Receives cap') name part is short cap =
      five_from (nat_le (16 * p + k) MAX_NAME) (nat_lt r.peer ranks) (nat_le (16 * r.tag + k) MAX_TAG)
      (nat_le (context_of r) MAX_CONTEXT) (nat_le cap' MAX_CAPACITY) (record {
        one = le-leb (16 * p + k) MAX_NAME (omega arith);
        two = lt-ltb r.peer ranks is.peer;
        three = le-leb (16 * r.tag + k) MAX_TAG (omega (arith, is.small.tag));
        four = le-leb (context_of r) MAX_CONTEXT (context_small r is.small.ctx);
        five = le-leb cap' MAX_CAPACITY cap;
      })

  each_in_range : (rank : ℕ) (of_part : ℕ → Command) (a n : ℕ) → rank < ranks
      → ((k : ℕ) → k < a + n → is_command ranks (of_part k) ≡ true)
      → list_all OkLine (map (line_at rank) (map of_part (range_with_len a n))) ≡ true
  each_in_range rank of_part a zero own each = refl
  each_in_range rank of_part a (suc n) own each =
      and_from _ _ (and_from _ _ (lt-ltb rank ranks own) (each a (omega arith)))
      (each_in_range rank of_part (a + 1) n own (λ k h. each k (omega (arith, h))))

  one_in_range : (rank : ℕ) (c : Command) → rank < ranks → is_command ranks c ≡ true
      → list_all OkLine (line_at rank c ∷ []) ≡ true
  one_in_range rank c own h = and_from _ _ (and_from _ _ (lt-ltb rank ranks own) h) refl

  cond_lines : (b : Bool) (xs ys : List Command) (rank : ℕ) → list_all OkLine (map (line_at rank) xs) ≡ true
      → list_all OkLine (map (line_at rank) ys) ≡ true → list_all OkLine (map (line_at rank) (cond b xs ys)) ≡ true
  cond_lines true xs ys rank one two = one
  cond_lines false xs ys rank one two = two

  pub line_in_range : (rank : ℕ) (c : PlanCommand) (r : Request) → rank < ranks → is_in_range ranks c ≡ true
      → IsInRange ranks r → allows c r ≡ true
      → list_all OkLine (map (line_at rank) (commands_for c r)) ≡ true
  line_in_range rank (Start p) r own h is allowed =
      let name = leb-true p 4095 (and_parts (nat_le p 4095) true h).0 in
      cond_lines (is_split_send r) [] (each_part r (λ k. start_of p r k r.side)) rank refl
      (each_in_range rank (λ k. start_of p r k r.side) 0 (part_count r) own
      (λ k lt. start_in_range p k r r.side name (omega (arith, lt, is.small.parts)) is is.small.body is.cap))
  line_in_range rank (Ready p k) r own h is allowed =
      let q = and_parts (nat_le p 4095) (nat_le k 15 && true) h in
      let name = leb-true p 4095 q.0 in
      let part = leb-true k 15 (and_parts (nat_le k 15) true q.1).0 in
      one_in_range rank (start_of p r k r.side) own
      (start_in_range p k r r.side name (omega (arith, part)) is is.small.body is.cap)
  line_in_range rank (Arrived p k) r own h is allowed =
      let q = and_parts (nat_le p 4095) (nat_le k 15 && true) h in
      let name = leb-true p 4095 q.0 in
      let part = leb-true k 15 (and_parts (nat_le k 15) true q.1).0 in
      one_in_range rank (Test (name_of p k)) own (le-leb (16 * p + k) MAX_NAME (omega (arith, name, part)))
  line_in_range rank (Wait p) r own h is allowed =
      let name = leb-true p 4095 (and_parts (nat_le p 4095) true h).0 in
      each_in_range rank (λ k. wait_of p k) 0 (part_count r) own
      (λ k lt. le-leb (16 * p + k) MAX_NAME (omega (arith, lt, is.small.parts, name)))
  line_in_range rank (Fill p body) r own h is allowed = refl
  line_in_range rank (SendInit p to tag ctx body) r own h is allowed = refl
  line_in_range rank (RecvInit p from tag ctx cap) r own h is allowed = refl
  line_in_range rank (PsendInit p to tag ctx parts body) r own h is allowed = refl
  line_in_range rank (PrecvInit p from tag ctx parts cap) r own h is allowed = refl
