-- What a start does to a process.
use Rattle.std.proofs.Common.{◌≡◌, ℕ, ◌+◌, ◌≤◌, Bool, true, false, cond, Option, Some, None, List, []}
use Rattle.std.proofs.Common.{◌∷◌, ◌++◌, length, refl, sym, ◌∙◌, ap, subst, arith}
use Rattle.std.specs.Prelude.{nat_eq, option_map, if◌then◌else◌, is_some, IfOk}
use Rattle.std.specs.Prelude.{OnOk}
use Rattle.std.proofs.Common.{Ok, Err, Result}
use Rattle.std.specs.Map.{lookup}
use Rattle.nm_types.specs.declared.answers.Answer.{Answer}
use Rattle.nm_types.specs.declared.answers.Answer.TheVariants as answer
use Rattle.nm_types.specs.declared.messages.Arrival.{Arrival}
use Rattle.nm_history.specs.declared.events.Event.{Event}
use Rattle.nm_history.specs.declared.events.Happened.{Happened}
use Rattle.nm_history.specs.declared.events.Happened.TheVariants.{Recall}
use Rattle.nm_history.specs.AtEach.{AtEachAfter}
use Rattle.nm_history.specs.Happens.{happened, is_recall}
use Rattle.nm_history.specs.Sends.{Sent}
use Rattle.nm_history.specs.Clock.{stamped}
use Rattle.nm_history.specs.Effects.{whole_if}
use Rattle.nm_request.specs.declared.Kind.{Kind}
use Rattle.nm_request.specs.declared.Kind.TheVariants as kind
use Rattle.nm_request.specs.declared.Req.{Req}
use Rattle.nm_request.specs.Requests.{AddsRequest}
use Rattle.nm_receiving.specs.Receipts.{is_empty_ask, taken_events}
use Rattle.nm_rank.specs.Calls.{Starts}
use Rattle.nm_rank.specs.Ranks.{RankView, request_of}
use Rattle.nm_rank.specs.Requests.{cancel_events}
use Rattle.nm_process.specs.declared.steps.Handle.{Handle}
use Rattle.nm_process.specs.Names.{AreGiven, AreHeld, IsHeld, named}
use Rattle.nm_process.specs.Processes.{ProcessView}
use Rattle.nm_process.specs.Starts.{HasAnswered, HasStarted, KeepsHandles, SetsName}
use Rattle.nm_process.proofs.HeldLemmas.{Leaves, all_held, held_after}
use Rattle.nm_process.proofs.NameLemmas.{named_more, named_others, named_own}

-- what stands where a message is here leaves each held message alone
pub whole_leaves : (x : Handle) (h : List Event) (clock : ℕ) (o : Option Arrival) →
    AtEachAfter (λ before e. Leaves x before e.what) h (stamped clock (taken_events o))
whole_leaves x h clock None = tt
whole_leaves x h clock (Some a) = by_test (is_empty_ask a) where
  by_test : (b : Bool) → AtEachAfter (λ before e. Leaves x before e.what) h
      (stamped clock (whole_if b a.env.from a.n))
  by_test true = (tt, tt)
  by_test false = tt

pub one_leaves : (x : Handle) (h : List Event) (clock : ℕ) (w : Happened) (o : Option Arrival) →
    Leaves x h w →
    AtEachAfter (λ before e. Leaves x before e.what) h (stamped clock (w ∷ taken_events o))
one_leaves x h clock w o leaves =
    (leaves, whole_leaves x (h ++ record { stamp = clock + 1; what = w } ∷ []) (clock + 1) o)

-- the names and the handles after a start
pub start_keeps : (bodies : Sent → List ℕ) (ws : List Happened) (kind : Kind) (v w : RankView) (r : Req)
    (handles : List (ℕ × Handle)) →
    Starts bodies ws kind v w r →
    ((x : Handle) → AtEachAfter (λ before e. Leaves x before e.what) v.events (stamped v.clock ws)) →
    AreHeld v.events handles → AreHeld w.events handles
start_keeps bodies ws kind v w r handles starts leaves held =
    all_held v.events w.events handles (λ x is. subst (λ (h : List Event). IsHeld h x)
    (sym starts.happened.events) (held_after x v.events (stamped v.clock ws) (leaves x) is)) held

-- a start of a free name, and its answer
pub start_answered : (Call : Req → RankView → RankView → Type 0)
    (kind : Kind) (a mid b : ProcessView) (v : RankView) (r : Req) (q line : ℕ) →
    AddsRequest a.rank.requests v.requests r kind → AreGiven a.rank.requests a.names →
    named a q ≡ None → Call r a.rank v → mid.rank ≡ v →
    ((k : ℕ) → lookup (nat_eq k) mid.names ≡ cond (nat_eq q k) (Some r) (lookup (nat_eq k) a.names)) →
    mid.at ≡ a.at →
    HasAnswered mid b line answer.Started → HasStarted Call kind a b q line
start_answered Call kind a mid b v r q line adds given free starts is sets at answered =
    record {
      free = free;
      mid = mid;
      begun = record {
        request = r;
        starts = subst (λ (w : RankView). Call r a.rank w) (sym is) starts;
        names = subst (λ (w : RankView). SetsName a (record mid { rank = w }) q (Some (request_of kind)))
            (sym is) (record {
              own = named_own v.requests a.names mid.names q (Some r) sets
                  ∙ ap (λ (k : Option Kind). option_map request_of k) adds.live;
              others = λ k isnt. named_others v.requests a.names mid.names q (Some r) sets k isnt
                  ∙ named_more a.rank.requests v.requests r kind adds a.names given k;
            });
        at = at;
      };
      answered = answered;
    }

-- what follows from a clause of an answer that is given
pub on_ok : {T E P Q : Type 0} (r : Result T E) → (P → Q) → OnOk r P → OnOk r Q
on_ok (Ok x) f holds = f holds
on_ok (Err e) f holds = tt

pub none_found : {X : Type 0} (b : Bool) (o : Option X) → b ≡ false → b ≡ is_some o → o ≡ None
none_found b None is same = refl
none_found b (Some x) is same = cc

-- the handles and the place after the answer of a command
pub keeps_handles : (a mid b : ProcessView) (line : ℕ) (x : Answer) → mid.at ≡ a.at →
    mid.handles ≡ a.handles → HasAnswered mid b line x → KeepsHandles a b
keeps_handles a mid b line x at same answered = record {
  at = ap (λ (v : ProcessView). v.at) answered.others ∙ at;
  handles = ap (λ (v : ProcessView). v.handles) answered.others ∙ same;
}

-- a cancel leaves each held message alone
pub cancel_leaves : (x : Handle) (h : List Event) (clock : ℕ) (k : Kind) →
    AtEachAfter (λ before e. Leaves x before e.what) h (stamped clock (cancel_events h k))
cancel_leaves x h clock (kind.Receive number) = (tt, tt)
cancel_leaves x h clock (kind.Send to n) = by_test (happened (is_recall to n) h) where
  by_test : (b : Bool) → AtEachAfter (λ before e. Leaves x before e.what) h
      (stamped clock (if b then [] else Recall to n ∷ []))
  by_test true = tt
  by_test false = (tt, tt)

pub cancel_short : (h : List Event) (k : Kind) → length (cancel_events h k) ≤ 1
cancel_short h (kind.Receive number) = omega arith
cancel_short h (kind.Send to n) = by_test (happened (is_recall to n) h) where
  by_test : (b : Bool) → length (if b then [] else Recall to n ∷ []) ≤ 1
  by_test true = omega arith
  by_test false = omega arith

-- a step that is known, with what it came to
pub ok_step : {T E Q : Type 0} (P : T → Type 0) (r : Result T E) (s : T) → IfOk r (λ step. step ≡ s) →
    OnOk r Q → (Q → P s) → IfOk r P
ok_step P (Ok x) s is holds f = subst P (sym is) (f holds)
ok_step P (Err e) s is holds f = tt
