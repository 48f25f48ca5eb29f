-- One call more.
use Rattle.std.proofs.Common.{◌≡◌, ℕ, zero, suc, ◌+◌, ◌<◌, ◌≤◌, ◌==◌, Bool, true, false, cond, Option, Some, None, List, []}
use Rattle.std.proofs.Common.{◌∷◌, ◌++◌, length, map, take, refl, sym, ap, subst, ◌∙◌, arith}
use Rattle.std.specs.Prelude.{option_map}
use Rattle.std.specs.List.{find, slice_get}
use Rattle.std.proofs.lemmas.Bool.Decides.{nat_tests}
use Rattle.nm_types.specs.declared.scripts.Command.{Command}
use Rattle.nm_types.specs.Commands.{Numbered, command_at}
use Rattle.nm_types.specs.Sizes.{Sizes}
use Rattle.nm_history.specs.RankRun.{AnswerAt, CancelAt, ClaimAt, StartAt}
use Rattle.nm_process.specs.Playing.{all_numbered, numbered_at}
use Rattle.nm_process.specs.Processes.{ProcessView}
use Rattle.nm_process.specs.Work.{IsNext, IsWorking}
use Rattle.nm_global.specs.ProcessInvariant.{GhostHistory, ProcessInvariant}
use Rattle.nm_calls.proofs.Below.{each_low}
use Rattle.nm_calls.proofs.Later.{SameBelow, answer_at, cancel_at, claim_at_event, lives, messages, start_at}
use Rattle.nm_calls.proofs.LaterSent.{of_later}

-- below its line all is as it was
longer_at : (n : ℕ) (given : List Command) (x : Command) (line : ℕ) → line < n + length given →
    command_at (all_numbered n given) line ≡ command_at (all_numbered n (given ++ x ∷ [])) line
longer_at n [] x line low = rw other refl where
  other : (n == line) ≡ false
  other = grind (arith, nat_tests)
longer_at n (y ∷ ys) x line low = by (n == line) (longer_at (n + 1) ys x line (omega (arith, low))) where
  by : (t : Bool) →
      command_at (all_numbered (n + 1) ys) line ≡ command_at (all_numbered (n + 1) (ys ++ x ∷ [])) line →
      option_map (λ (c : Numbered). c.command)
      (cond t (Some (numbered_at n y)) (find (λ (c : Numbered). c.line == line) (all_numbered (n + 1) ys)))
      ≡ option_map (λ (c : Numbered). c.command)
      (cond t (Some (numbered_at n y)) (find (λ (c : Numbered). c.line == line) (all_numbered (n + 1) (ys ++ x ∷ []))))
  by true rest = refl
  by false rest = rest

front_kept : (n : ℕ) (given : List Command) (x : Command) (k : ℕ) → k ≤ length given →
    take k (all_numbered n (given ++ x ∷ [])) ≡ take k (all_numbered n given)
front_kept n [] x zero low = refl
front_kept n [] x (suc k) low = absurd (omega (arith, low))
front_kept n (y ∷ ys) x zero low = refl
front_kept n (y ∷ ys) x (suc k) low =
    ap (λ (cs : List Numbered). numbered_at n y ∷ cs) (front_kept (n + 1) ys x k (omega (arith, low)))

as_long : (n : ℕ) (given : List Command) → length (all_numbered n given) ≡ length given
as_long n [] = refl
as_long n (y ∷ ys) = ap suc (as_long (n + 1) ys)

one_longer : (given : List Command) (x : Command) → length (given ++ x ∷ []) ≡ suc (length given)
one_longer [] x = refl
one_longer (y ∷ ys) x = ap suc (one_longer ys x)

-- it stands behind the others, and is found by its line
last_there : (n : ℕ) (given : List Command) (x : Command) →
    slice_get (all_numbered n (given ++ x ∷ [])) (length given) ≡ Some (numbered_at (n + length given) x)
last_there n [] x = ap (λ (k : ℕ). Some (numbered_at k x)) (omega arith)
last_there n (y ∷ ys) x = last_there (n + 1) ys x ∙ ap (λ (k : ℕ). Some (numbered_at k x)) (omega arith)

last_found : (n : ℕ) (given : List Command) (x : Command) →
    command_at (all_numbered n (given ++ x ∷ [])) (n + length given) ≡ Some x
last_found n [] x = rw self refl where
  self : (n == n + 0) ≡ true
  self = grind (arith, nat_tests)
last_found n (y ∷ ys) x =
    let sum : (n + 1) + length ys ≡ n + suc (length ys) = omega arith in
    rw other (subst (λ (k : ℕ). command_at (all_numbered (n + 1) (ys ++ x ∷ [])) k ≡ Some x) sum
    (last_found (n + 1) ys x)) where
      other : (n == n + suc (length ys)) ≡ false
      other = grind (arith, nat_tests)

pub last_next : (given : List Command) (x : Command) →
    IsNext (all_numbered 2 (given ++ x ∷ [])) (length given) (length given + 2) (length given + 2) x
last_next given x =
    let sum : 2 + length given ≡ length given + 2 = omega arith in
    record {
      next = last_there 2 given x ∙ ap (λ (k : ℕ). Some (numbered_at k x)) sum;
      found = subst (λ (k : ℕ). command_at (all_numbered 2 (given ++ x ∷ [])) k ≡ Some x) sum (last_found 2 given x);
      past = omega arith;
    }

-- and nothing of what was is changed by it
pub stands_longer : (shape : Sizes) (given : List Command) (x : Command) (i : ℕ) (v : ProcessView) (past : GhostHistory) →
    v.at ≡ length given → ProcessInvariant shape (all_numbered 2 given) (length given + 2) i v past →
    ProcessInvariant shape (all_numbered 2 (given ++ x ∷ [])) (length given + 2) i v past
stands_longer shape given x i v past all stands =
    let xs = all_numbered 2 given in
    let ys = all_numbered 2 (given ++ x ∷ []) in
    let b = length given + 2 in
    let same : SameBelow b xs ys = λ line low. longer_at 2 given x line (omega (arith, low)) in
    let work = stands.work in
    let h = v.rank.events in
    let low = work.past in
    let long = as_long 2 (given ++ x ∷ []) in
    let one = one_longer given x in
    record {
      work = record {
        sizes = work.sizes;
        answers = record {
          few = omega (arith, all, long, one);
          in_order = work.answers.in_order
              ∙ ap (map (λ (c : Numbered). c.line)) (sym (front_kept 2 given x v.at (omega (arith, all))));
          right = each_low b (λ before e. AnswerAt xs before e.what) (λ before e. AnswerAt ys before e.what)
              (λ before e early here is. answer_at b xs ys same before early e.what here is) h low work.answers.right;
        };
        starts = record {
          made = each_low b (λ before e. StartAt shape.eager xs before e.what)
              (λ before e. StartAt shape.eager ys before e.what)
              (λ before e early here is. start_at b xs ys same before early shape.eager e.what here is) h low
              work.starts.made;
          no_others = work.starts.no_others;
        };
        cancels = record {
          made = each_low b (λ before e. CancelAt xs before e.what) (λ before e. CancelAt ys before e.what)
              (λ before e early here is. cancel_at b xs ys same before early e.what here is) h low work.cancels.made;
          no_others = work.cancels.no_others;
        };
        claims = record {
          made = each_low b (λ before e. ClaimAt xs before e.what) (λ before e. ClaimAt ys before e.what)
              (λ before e early here is. claim_at_event b xs ys same before early e.what here is) h low
              work.claims.made;
          no_others = work.claims.no_others;
        };
        past = work.past;
        requests = λ q. work.requests q ∙ lives b xs ys same h low q;
        handles = λ m. work.handles m ∙ messages b xs ys same h low m;
      };
      rank = of_later b xs ys same shape i v.rank past low stands.rank;
    }
