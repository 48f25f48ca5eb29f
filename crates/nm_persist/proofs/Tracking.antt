-- One part of a request, behind the lines of a plan: its commands in the script, by the starts of the
-- request.
use Rattle.std.proofs.Common.{◌≡◌, ℕ, ◌<◌, ◌≤◌, ◌==◌, Bool, true, false, not, ◌&&◌, ◌||◌, cond, zero, suc, Option}
use Rattle.std.proofs.Common.{Some, None}
use Rattle.std.proofs.Common.{List, [], ◌∷◌, ◌++◌, length, map, refl, sym, ◌∙◌, ap, subst, arith, append-nil, take}
use Rattle.std.specs.Prelude.{IfSome, is_some, nat_lt, option_to_list, replicate, slice_set, unwrap_or}
use Rattle.std.specs.List.{filter, list_all, slice_get}
use Rattle.std.proofs.lemmas.Bool.{false≢true}
use Rattle.std.proofs.lemmas.List.{map-append}
use Rattle.std.proofs.lemmas.List.Elements.{filter-append}
use Rattle.std.proofs.lemmas.List.Sums.{fold-append}
use Rattle.nm_types.specs.declared.scripts.Command.{Command}
use Rattle.nm_types.specs.declared.scripts.Command.TheVariants as command
use Rattle.nm_history.specs.Answers.{is_start_of}
use Rattle.nm_history.proofs.OnceLemmas.{eqb_self}
use Rattle.std.proofs.lemmas.Bool.Decides.{nat_tests}
use Rattle.nm_plans.specs.declared.lines.PlanCommand.{PlanCommand}
use Rattle.nm_plans.specs.declared.lines.PlanCommand.TheVariants.{SendInit, RecvInit, PsendInit, PrecvInit, Fill}
use Rattle.nm_plans.specs.declared.lines.PlanCommand.TheVariants.{Start, Ready, Arrived, Wait}
use Rattle.nm_plans.specs.declared.requests.requests.Request.{Request}
use Rattle.nm_plans.specs.declared.requests.requests.Side.{Side}
use Rattle.nm_plans.specs.declared.requests.requests.Side.TheVariants.{Sends, Receives}
use Rattle.nm_plans.specs.Expansion.{is_split_send, name_of, start_of, wait_of}
use Rattle.nm_plans.specs.PlanRequests.{made_by, none_ready, part_count, request_after}
use Rattle.nm_plans.specs.States.{all_ready, allows, is_ready}
use Rattle.nm_persist.specs.Names.{are_apart, is_wait_of, waits_after, waits_for}
use Rattle.nm_persist.specs.Starts.{is_start}
use Rattle.nm_persist.proofs.Items.{apart-append, item, part_in}
use Rattle.nm_types.proofs.NumberLemmas.{same_number}
use Rattle.nm_types.proofs.TruthLemmas.{and_left, and_right}

-- part k of a partitioned send isn't ready
abbrev pub is_pending : Request → ℕ → Bool
is_pending r k = is_split_send r && not (is_ready r k)

-- the command that starts part k of a request
abbrev pub cmd : ℕ → ℕ → Request → Command
cmd p k r = start_of p r k r.side

-- a command in order: it makes a request that there isn't, or is allowed by the one that there is
abbrev pub InOrder : PlanCommand → Option Request → Type 0
InOrder c None = is_some (made_by c) ≡ true
InOrder c (Some r) = (made_by c ≡ None) × (allows c r ≡ true)

module _ (p k : ℕ) where
  abbrev q : ℕ
  q = name_of p k

  -- an active request was started last as it is now
  pub record IsBusy (r : Request) (N : List Command) (S : List Request) : Type 0 where
    pub front : List Request
    pub last : Request
    pub starts : S ≡ front ++ last ∷ []
    pub same : cmd p k last ≡ cmd p k r
    pub commands : filter (is_start_of q) N ≡ map (cmd p k) front ++ cond (is_pending r k) [] (cmd p k r ∷ [])

  pub record Follows (r : Request) (N : List Command) (S : List Request) : Type 0 where
    pub ready_len : length r.ready ≡ 16
    pub waits : waits_for q false N ≡ (r.active && (nat_lt k (part_count r) && not (is_pending r k)))
    pub idle : r.active ≡ false → nat_lt k (part_count r) ≡ true → filter (is_start_of q) N ≡ map (cmd p k) S
    pub busy : r.active ≡ true → nat_lt k (part_count r) ≡ true → IsBusy r N S

  abbrev pub FollowsFrom : Option Request → List Command → List Request → Type 0
  FollowsFrom None N S = (waits_for q false N ≡ false) × (filter (is_start_of q) N ≡ []) × (S ≡ [])
  FollowsFrom (Some r) N S = Follows r N S

  -- the command about this part, if there is a request
  abbrev pub item_of : PlanCommand → Option Request → List Command
  item_of c None = []
  item_of c (Some r) = item p k c r

  cmd_starts : (r : Request) (side : Side) → is_start_of q (start_of p r k side) ≡ true
  cmd_starts r (Sends body) = eqb_self q
  cmd_starts r (Receives cap) = eqb_self q

  waits-push : (N : List Command) (c : Command) → waits_for q false (N ++ c ∷ []) ≡ waits_after q
      (waits_for q false N) c
  waits-push N c = fold-append (waits_after q) false N (c ∷ [])

  apart-push : (N : List Command) (c : Command) → are_apart q false N ≡ true →
      (is_start_of q c && waits_for q false N) ≡ false →
      are_apart q false (N ++ c ∷ []) ≡ true
  apart-push N c apart free =
      apart-append q false N (c ∷ [])
      ∙ ap (λ (b : Bool). b && (not (is_start_of q c && waits_for q false N) && true)) apart
      ∙ ap (λ (b : Bool). not b && true) free

  starts-push : (N : List Command) (c : Command) → filter (is_start_of q) (N ++ c ∷ []) ≡ filter
      (is_start_of q) N ++ cond (is_start_of q c) (c ∷ []) []
  starts-push N c = filter-append (is_start_of q) N (c ∷ [])

  -- the step of one command
  record Step (o : Option Request) (N : List Command) (S : List Request) : Type 0 where
    apart : are_apart q false N ≡ true
    follows : FollowsFrom o N S

  off : (b : Bool) → not b ≡ true → b ≡ false
  off true is = sym is
  off false is = refl

  four : (a b c d : Bool) → (a && b && c && d) ≡ true → (a ≡ true) × (b ≡ true) × (c ≡ true) × (d ≡ true)
  four true true true d is = (refl, refl, refl, is)
  four true true false d is = absurd (false≢true is)
  four true false c d is = absurd (false≢true is)
  four false b c d is = absurd (false≢true is)

  lt_of : (a b : ℕ) → nat_lt a b ≡ true → a < b
  lt_of a b is = grind (arith, nat_tests)

  none_at : (n i : ℕ) → unwrap_or (slice_get (replicate n false) i) false ≡ false
  none_at zero i = refl
  none_at (suc n) zero = refl
  none_at (suc n) (suc i) = none_at n i

  set_same : (xs : List Bool) (i : ℕ) → i < length xs → unwrap_or (slice_get (slice_set xs i true) i) false ≡ true
  set_same [] i low = absurd (omega (arith, low))
  set_same (x ∷ xs) zero low = refl
  set_same (x ∷ xs) (suc i) low = set_same xs i (omega (arith, low))

  set_other : (xs : List Bool) (i m : ℕ) → (i == m) ≡ false → unwrap_or (slice_get (slice_set xs i true) m) false
      ≡ unwrap_or (slice_get xs m) false
  set_other [] i m other = refl
  set_other (x ∷ xs) zero zero other = absurd (false≢true (sym other))
  set_other (x ∷ xs) zero (suc m) other = refl
  set_other (x ∷ xs) (suc i) zero other = refl
  set_other (x ∷ xs) (suc i) (suc m) other = set_other xs i m (grind (arith, nat_tests))

  set_len : (xs : List Bool) (i : ℕ) → length (slice_set xs i true) ≡ length xs
  set_len [] i = refl
  set_len (x ∷ xs) zero = refl
  set_len (x ∷ xs) (suc i) = ap (λ (n : ℕ). suc n) (set_len xs i)

  all_at : (n i : ℕ) (xs : List Bool) → list_all (λ ready. ready) (take n xs) ≡ true → i < n → i < length xs →
      unwrap_or (slice_get xs i) false ≡ true
  all_at zero i xs all low inside = absurd (omega (arith, low))
  all_at (suc n) i [] all low inside = absurd (omega (arith, inside))
  all_at (suc n) zero (x ∷ xs) all low inside = and_left x (list_all (λ ready. ready) (take n xs)) all
  all_at (suc n) (suc i) (x ∷ xs) all low inside =
      all_at n i xs (and_right x (list_all (λ ready. ready) (take n xs)) all) (omega (arith, low))
      (omega (arith, inside))

  cmd_kept : (r : Request) (active : Bool) (ready : List Bool) (side : Side) →
      start_of p r k side ≡ start_of p (record r { active = active; ready = ready }) k side
  cmd_kept r active ready (Sends body) = refl
  cmd_kept r active ready (Receives cap) = refl

  -- what a command adds
  record Adds (N X : List Command) (w : Bool) (started : List Command) : Type 0 where
    apart : are_apart q false (N ++ X) ≡ true
    waits : waits_for q false (N ++ X) ≡ w
    starts : filter (is_start_of q) (N ++ X) ≡ filter (is_start_of q) N ++ started

  add_none : (N : List Command) (w : Bool) → are_apart q false N ≡ true → waits_for q false N ≡ w → Adds N [] w []
  add_none N w apart waits = record {
    apart = ap (λ (xs : List Command). are_apart q false xs) (append-nil N) ∙ apart;
    waits = ap (λ (xs : List Command). waits_for q false xs) (append-nil N) ∙ waits;
    starts = ap (λ (xs : List Command). filter (is_start_of q) xs) (append-nil N)
        ∙ sym (append-nil (filter (is_start_of q) N));
  }

  add_start : (N : List Command) (r : Request) → are_apart q false N ≡ true → waits_for q false N ≡ false →
      Adds N (cmd p k r ∷ []) true (cmd p k r ∷ [])
  add_start N r apart waits = record {
    apart = apart-push N (cmd p k r) apart (ap (λ (b : Bool). is_start_of q (cmd p k r) && b) waits
        ∙ and_false (is_start_of q (cmd p k r)));
    waits = waits-push N (cmd p k r)
        ∙ ap (λ (b : Bool). cond b true (cond (is_wait_of q (cmd p k r)) false (waits_for q false N)))
        (cmd_starts r r.side);
    starts = starts-push N (cmd p k r)
        ∙ ap (λ (b : Bool). filter (is_start_of q) N ++ cond b (cmd p k r ∷ []) []) (cmd_starts r r.side);
  }
    where
      and_false : (b : Bool) → (b && false) ≡ false
      and_false true = refl
      and_false false = refl

  add_test : (N : List Command) (w : Bool) → are_apart q false N ≡ true → waits_for q false N ≡ w →
      Adds N (command.Test q ∷ []) w []
  add_test N w apart waits = record {
    apart = apart-push N (command.Test q) apart refl;
    waits = waits-push N (command.Test q) ∙ waits;
    starts = starts-push N (command.Test q);
  }

  add_wait : (N : List Command) → are_apart q false N ≡ true → Adds N (wait_of p k ∷ []) false []
  add_wait N apart = record {
    apart = apart-push N (wait_of p k) apart refl;
    waits = waits-push N (wait_of p k) ∙ ap (λ (b : Bool). cond b false (waits_for q false N)) (eqb_self q);
    starts = starts-push N (wait_of p k);
  }

  and_none : (b : Bool) → (b && false) ≡ false
  and_none true = refl
  and_none false = refl

  and_all : (b : Bool) → (b && true) ≡ b
  and_all true = refl
  and_all false = refl

  -- a start
  start_step : (p' : ℕ) (r : Request) (N : List Command) (S : List Request) → r.active ≡ false →
      are_apart q false N ≡ true →
      Follows r N S → Step (Some (record r { active = true; ready = none_ready })) (N ++ item p k (Start p') r)
      (S ++ r ∷ [])
  start_step p' r N S idle apart f = by_cases (is_split_send r) refl (nat_lt k (part_count r)) refl
    where
      r' : Request
      r' = record r { active = true; ready = none_ready }

      free : waits_for q false N ≡ false
      free = f.waits ∙ ap (λ (a : Bool). a && (nat_lt k (part_count r) && not (is_pending r k))) idle

      pends : is_pending r' k ≡ is_split_send r
      pends = ap (λ (b : Bool). is_split_send r && not b) (none_at 16 k) ∙ and_all (is_split_send r)

      done : (X : List Command) (w : Bool) → Adds N X w X → w ≡ (nat_lt k (part_count r) && not (is_split_send r)) →
          (nat_lt k (part_count r) ≡ true → X ≡ cond (is_split_send r) [] (cmd p k r' ∷ [])) →
          Step (Some r') (N ++ X) (S ++ r ∷ [])
      done X w adds waits more = record {
        apart = adds.apart;
        follows = record {
          ready_len = refl;
          waits = adds.waits ∙ waits ∙ sym (ap (λ (b : Bool). nat_lt k (part_count r) && not b) pends);
          idle = λ is small. absurd (false≢true (sym is));
          busy = λ is small. record {
            front = S;
            last = r;
            starts = refl;
            same = cmd_kept r true none_ready r.side;
            commands = adds.starts ∙ ap (λ (xs : List Command). filter (is_start_of q) N ++ xs) (more small)
                ∙ ap (λ (xs : List Command). xs ++ cond (is_split_send r) [] (cmd p k r' ∷ [])) (f.idle idle small)
                ∙ sym (ap (λ (b : Bool). map (cmd p k) S ++ cond b [] (cmd p k r' ∷ [])) pends);
          };
        };
      }

      by_cases : (s : Bool) → is_split_send r ≡ s → (c : Bool) → nat_lt k (part_count r) ≡ c →
          Step (Some r') (N ++ cond s [] (cond c (cmd p k r ∷ []) [])) (S ++ r ∷ [])
      by_cases true split c small =
          done [] false (add_none N false apart free)
          (sym (ap (λ (b : Bool). nat_lt k (part_count r) && not b) split ∙ and_none (nat_lt k (part_count r))))
          (λ is. sym (ap (λ (b : Bool). cond b [] (cmd p k r' ∷ [])) split))
      by_cases false split true small =
          done (cmd p k r ∷ []) true (add_start N r apart free)
          (sym (ap (λ (b : Bool). nat_lt k (part_count r) && not b) split ∙ and_all (nat_lt k (part_count r)) ∙ small))
          (λ is. ap (λ (c : Command). c ∷ []) (cmd_kept r true none_ready r.side)
          ∙ sym (ap (λ (b : Bool). cond b [] (cmd p k r' ∷ [])) split))
      by_cases false split false small =
          done [] false (add_none N false apart free)
          (sym (ap (λ (b : Bool). b && not (is_split_send r)) small))
          (λ is. absurd (false≢true (sym small ∙ is)))

  -- a part that is ready
  ready_step : (p' k' : ℕ) (r : Request) (N : List Command) (S : List Request) → k' < 16 →
      allows (Ready p' k') r ≡ true → are_apart q false N ≡ true →
      Follows r N S → Step (Some (record r { ready = slice_set r.ready k' true })) (N ++ item p k (Ready p' k') r)
      (S ++ [])
  ready_step p' k' r N S low allowed apart f =
      subst (λ (xs : List Request). Step (Some r') (N ++ item p k (Ready p' k') r) xs) (sym (append-nil S))
      (by_part (k' == k) refl)
    where
      r' : Request
      r' = record r { ready = slice_set r.ready k' true }

      -- it is partitioned, active, has this part, which isn't ready
      facts : (is_split_send r ≡ true) × (r.active ≡ true) × (nat_lt k' (part_count r) ≡ true)
          × (not (is_ready r k') ≡ true)
      facts = four (is_split_send r) r.active (nat_lt k' (part_count r)) (not (is_ready r k')) allowed

      split : is_split_send r ≡ true
      split = facts.0

      active : r.active ≡ true
      active = facts.1

      has : nat_lt k' (part_count r) ≡ true
      has = facts.2

      unready : is_ready r k' ≡ false
      unready = off (is_ready r k') facts.3

      by_part : (b : Bool) → (k' == k) ≡ b → Step (Some r') (N ++ cond b (cmd p k r ∷ []) []) S
      by_part true is =
          let here : k' ≡ k = same_number k' k is in
          let was : is_pending r k ≡ true =
          ap (λ (b : Bool). b && not (is_ready r k)) split ∙ ap (λ (b : Bool). not b)
          (ap (λ (i : ℕ). is_ready r i) (sym here) ∙ unready) in
          let now : is_pending r' k ≡ false =
          ap (λ (b : Bool). is_split_send r && not b)
          (ap (λ (i : ℕ). unwrap_or (slice_get (slice_set r.ready i true) k) false) here
          ∙ set_same r.ready k (let len = f.ready_len in omega (arith, len, low, here))) ∙ and_none (is_split_send r) in
          let adds = add_start N r apart
          (f.waits ∙ ap (λ (b : Bool). r.active && (nat_lt k (part_count r) && not b)) was
          ∙ ap (λ (b : Bool). r.active && b) (and_none (nat_lt k (part_count r))) ∙ and_none r.active) in
          record {
            apart = adds.apart;
            follows = record {
              ready_len = set_len r.ready k' ∙ f.ready_len;
              waits = adds.waits ∙ sym
                  (ap (λ (a : Bool). a && (nat_lt k (part_count r) && not (is_pending r' k))) active
                  ∙ ap (λ (b : Bool). nat_lt k (part_count r) && not b) now ∙ and_all (nat_lt k (part_count r))
                  ∙ ap (λ (i : ℕ). nat_lt i (part_count r)) (sym here) ∙ has);
              idle = λ idle small. absurd (false≢true (sym idle ∙ active));
              busy = λ active small.
                  let old = f.busy active small in
                  record {
                    front = old.front;
                    last = old.last;
                    starts = old.starts;
                    same = old.same ∙ cmd_kept r r.active (slice_set r.ready k' true) r.side;
                    commands = adds.starts
                        ∙ ap (λ (xs : List Command). xs ++ cmd p k r ∷ [])
                        (old.commands ∙ ap (λ (b : Bool). map (cmd p k) old.front ++ cond b [] (cmd p k r ∷ [])) was
                        ∙ append-nil (map (cmd p k) old.front))
                        ∙ ap (λ (c : Command). map (cmd p k) old.front ++ c ∷ [])
                        (cmd_kept r r.active (slice_set r.ready k' true) r.side)
                        ∙ sym (ap (λ (b : Bool). map (cmd p k) old.front ++ cond b [] (cmd p k r' ∷ [])) now);
                  };
            };
          }
      by_part false is =
          let kept : is_pending r' k ≡ is_pending r k =
          ap (λ (b : Bool). is_split_send r && not b) (set_other r.ready k' k is) in
          let adds = add_none N (r.active && (nat_lt k (part_count r) && not (is_pending r k))) apart f.waits in
          record {
            apart = adds.apart;
            follows = record {
              ready_len = set_len r.ready k' ∙ f.ready_len;
              waits = adds.waits ∙ sym (ap (λ (b : Bool). r.active && (nat_lt k (part_count r) && not b)) kept);
              idle = λ idle small. absurd (false≢true (sym idle ∙ active));
              busy = λ active small.
                  let old = f.busy active small in
                  record {
                    front = old.front;
                    last = old.last;
                    starts = old.starts;
                    same = old.same ∙ cmd_kept r r.active (slice_set r.ready k' true) r.side;
                    commands = adds.starts ∙ append-nil (filter (is_start_of q) N) ∙ old.commands
                        ∙ ap (λ (b : Bool). map (cmd p k) old.front ++ cond b [] (cmd p k r ∷ [])) (sym kept)
                        ∙ ap (λ (c : Command). map (cmd p k) old.front ++ cond (is_pending r' k) [] (c ∷ []))
                        (cmd_kept r r.active (slice_set r.ready k' true) r.side);
                  };
            };
          }

  -- a test of a part
  arrived_step : (p' k' : ℕ) (r : Request) (N : List Command) (S : List Request) → are_apart q false N ≡ true →
      Follows r N S → Step (Some r) (N ++ item p k (Arrived p' k') r) (S ++ [])
  arrived_step p' k' r N S apart f =
      subst (λ (xs : List Request). Step (Some r) (N ++ item p k (Arrived p' k') r) xs) (sym (append-nil S))
      (by_part (k' == k))
    where
      done : (X : List Command) → Adds N X (r.active && (nat_lt k (part_count r) && not (is_pending r k))) [] →
          Step (Some r) (N ++ X) S
      done X adds = record {
        apart = adds.apart;
        follows = record {
          ready_len = f.ready_len;
          waits = adds.waits;
          idle = λ idle small. adds.starts ∙ append-nil (filter (is_start_of q) N) ∙ f.idle idle small;
          busy = λ active small.
              let old = f.busy active small in
              record {
                front = old.front;
                last = old.last;
                starts = old.starts;
                same = old.same;
                commands = adds.starts ∙ append-nil (filter (is_start_of q) N) ∙ old.commands;
              };
        };
      }

      by_part : (b : Bool) → Step (Some r) (N ++ cond b (command.Test q ∷ []) []) S
      by_part true = done (command.Test q ∷ []) (add_test N _ apart f.waits)
      by_part false = done [] (add_none N _ apart f.waits)

  -- a wait
  wait_step : (p' : ℕ) (r : Request) (N : List Command) (S : List Request) → part_count r ≤ 16 →
      allows (Wait p') r ≡ true → are_apart q false N ≡ true →
      Follows r N S → Step (Some (record r { active = false })) (N ++ item p k (Wait p') r) (S ++ [])
  wait_step p' r N S few allowed apart f =
      subst (λ (xs : List Request). Step (Some r') (N ++ item p k (Wait p') r) xs) (sym (append-nil S))
      (by_count (nat_lt k (part_count r)) refl)
    where
      r' : Request
      r' = record r { active = false }

      active : r.active ≡ true
      active = and_left r.active (not (is_split_send r) || all_ready r) allowed

      sent : nat_lt k (part_count r) ≡ true → is_pending r k ≡ false
      sent small = by_split (is_split_send r) refl (and_right r.active (not (is_split_send r) || all_ready r) allowed)
        where
          by_split : (s : Bool) → is_split_send r ≡ s → (not s || all_ready r) ≡ true →
              (s && not (is_ready r k)) ≡ false
          by_split true split all =
              ap (λ (b : Bool). not b) (all_at (part_count r) k r.ready all (lt_of k (part_count r) small)
              (let len = f.ready_len in let below = lt_of k (part_count r) small in omega (arith, len, below, few)))
          by_split false split all = refl

      done : (X : List Command) → Adds N X false [] → Step (Some r') (N ++ X) S
      done X adds = record {
        apart = adds.apart;
        follows = record {
          ready_len = f.ready_len;
          waits = adds.waits;
          idle = λ idle small.
              let old = f.busy active small in
              adds.starts ∙ append-nil (filter (is_start_of q) N) ∙ old.commands
              ∙ ap (λ (b : Bool). map (cmd p k) old.front ++ cond b [] (cmd p k r ∷ [])) (sent small)
              ∙ ap (λ (c : Command). map (cmd p k) old.front ++ c ∷ []) (sym old.same)
              ∙ sym (map-append (cmd p k) old.front (old.last ∷ [])) ∙ ap (λ (xs : List Request). map (cmd p k) xs)
              (sym old.starts);
          busy = λ active small. absurd (false≢true active);
        };
      }

      by_count : (c : Bool) → nat_lt k (part_count r) ≡ c → Step (Some r') (N ++ cond c (wait_of p k ∷ []) []) S
      by_count true small = done (wait_of p k ∷ []) (add_wait N apart)
      by_count false small =
          done [] (add_none N false apart (f.waits ∙ ap (λ (b : Bool). r.active && (b && not (is_pending r k))) small
          ∙ and_none r.active))

  -- another body
  fill_step : (p' : ℕ) (r : Request) (side : Side) (N : List Command) (S : List Request) → r.active ≡ false →
      are_apart q false N ≡ true →
      Follows r N S → Step (Some (record r { side = side })) (N ++ []) (S ++ [])
  fill_step p' r side N S idle apart f =
      let adds = add_none N false apart
      (f.waits ∙ ap (λ (a : Bool). a && (nat_lt k (part_count r) && not (is_pending r k))) idle) in
      subst (λ (xs : List Request). Step (Some (record r { side = side })) (N ++ []) xs) (sym (append-nil S)) (record {
        apart = adds.apart;
        follows = record {
          ready_len = f.ready_len;
          waits = adds.waits
              ∙ sym (ap (λ (a : Bool). a &&
              (nat_lt k (part_count r) && not (is_pending (record r { side = side }) k))) idle);
          idle = λ idle small. adds.starts ∙ append-nil (filter (is_start_of q) N) ∙ f.idle idle small;
          busy = λ active small. absurd (false≢true (sym idle ∙ active));
        };
      })

  -- a new request
  made_step : (r : Request) (N : List Command) (S : List Request) → r.active ≡ false → length r.ready ≡ 16 →
      are_apart q false N ≡ true →
      FollowsFrom None N S → Step (Some r) (N ++ []) (S ++ [])
  made_step r N S idle len apart f =
      let adds = add_none N false apart f.0 in
      record {
        apart = adds.apart;
        follows = record {
          ready_len = len;
          waits = adds.waits ∙ sym (ap (λ (a : Bool). a && (nat_lt k (part_count r) && not (is_pending r k))) idle);
          idle = λ idle small. adds.starts ∙ append-nil (filter (is_start_of q) N) ∙ f.1
              ∙ sym (ap (λ (xs : List Request). map (cmd p k) xs) (append-nil S ∙ f.2));
          busy = λ active small. absurd (false≢true (sym idle ∙ active));
        };
      }

  no_request : {X : Type 0} (b : Bool) → b ≡ true → b ≡ false → X
  no_request b first second = absurd (false≢true (sym second ∙ first))

  -- any command
  pub any_step : (c : PlanCommand) (o : Option Request) (N : List Command) (S : List Request) → InOrder c o →
      part_in c < 16 →
      IfSome o (λ r. part_count r ≤ 16) → are_apart q false N ≡ true → FollowsFrom o N S →
      (are_apart q false (N ++ item_of c o) ≡ true)
      × FollowsFrom (request_after c o) (N ++ item_of c o) (S ++ cond (is_start c) (option_to_list o) [])
  any_step (SendInit p' to tag ctx body) None N S order low few apart f = let s = made_step _ N S refl refl apart f in
      (s.apart, s.follows)
  any_step (RecvInit p' from tag ctx cap) None N S order low few apart f = let s = made_step _ N S refl refl apart f
      in (s.apart, s.follows)
  any_step (PsendInit p' to tag ctx parts body) None N S order low few apart f = let s =
      made_step _ N S refl refl apart f in (s.apart, s.follows)
  any_step (PrecvInit p' from tag ctx parts cap) None N S order low few apart f = let s =
      made_step _ N S refl refl apart f in (s.apart, s.follows)
  any_step (Fill p' body) None N S order low few apart f = absurd (false≢true order)
  any_step (Start p') None N S order low few apart f = absurd (false≢true order)
  any_step (Ready p' k') None N S order low few apart f = absurd (false≢true order)
  any_step (Arrived p' k') None N S order low few apart f = absurd (false≢true order)
  any_step (Wait p') None N S order low few apart f = absurd (false≢true order)
  any_step (SendInit p' to tag ctx body) (Some r) N S order low few apart f = absurd (grind (arith, order.0))
  any_step (RecvInit p' from tag ctx cap) (Some r) N S order low few apart f = absurd (grind (arith, order.0))
  any_step (PsendInit p' to tag ctx parts body) (Some r) N S order low few apart f = absurd (grind (arith, order.0))
  any_step (PrecvInit p' from tag ctx parts cap) (Some r) N S order low few apart f = absurd (grind (arith, order.0))
  any_step (Fill p' body) (Some r) N S order low few apart f =
      let s = fill_step p' r (Sends body) N S (off r.active (and_left _ _ order.1)) apart f in (s.apart, s.follows)
  any_step (Start p') (Some r) N S order low few apart f = let s = start_step p' r N S (off r.active order.1) apart f
      in (s.apart, s.follows)
  any_step (Ready p' k') (Some r) N S order low few apart f = let s = ready_step p' k' r N S low order.1 apart f in
      (s.apart, s.follows)
  any_step (Arrived p' k') (Some r) N S order low few apart f = let s = arrived_step p' k' r N S apart f in
      (s.apart, s.follows)
  any_step (Wait p') (Some r) N S order low few apart f = let s = wait_step p' r N S few order.1 apart f in
      (s.apart, s.follows)
