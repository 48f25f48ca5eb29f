-- A process at work, one event after another.
use Rattle.std.proofs.Common.{◌≡◌, ℕ, ◌+◌, ◌<◌, ◌≤◌, List, [], refl, sym, subst, arith}
use Rattle.nm_types.specs.Commands.{Numbered}
use Rattle.nm_types.specs.Sizes.{Sizes}
use Rattle.nm_history.specs.declared.events.Event.{Event}
use Rattle.nm_history.specs.AtEach.{AtEach}
use Rattle.nm_history.specs.RankRun.{Answers, Cancels, Claims, Starts}
use Rattle.nm_request.specs.declared.Req.{Req}
use Rattle.nm_request.specs.Requests.{Live}
use Rattle.nm_rank.specs.Ranks.{RankView}
use Rattle.nm_process.specs.declared.steps.Handle.{Handle}
use Rattle.nm_process.specs.Names.{AreHeld, AreGiven}
use Rattle.nm_process.specs.Processes.{ProcessView}
use Rattle.nm_process.specs.Work.{IsWorking}
use Rattle.nm_process.proofs.LineLemmas.{below-more}

-- where there is no name, each has a request of its own, and where there is no handle, each a message
pub none_given : (requests : Live) (names : List (ℕ × Req)) → names ≡ [] → AreGiven requests names
none_given requests names none = subst (λ (ns : List (ℕ × Req)). AreGiven requests ns) (sym none) (record {
  older = λ q. tt;
  one_name = λ q p r one two. cc;
})

pub none_held : (h : List Event) (handles : List (ℕ × Handle)) → handles ≡ [] → AreHeld h handles
none_held h handles none = subst (λ (hs : List (ℕ × Handle)). AreHeld h hs) (sym none) (record {
  held = λ m. tt;
  one_handle = λ m k x one two. cc;
})

-- a process of which no command ran
pub begins : (shape : Sizes) (commands : List Numbered) (bound : ℕ) (v : RankView) (names : List (ℕ × Req))
    (handles : List (ℕ × Handle)) → v.sizes ≡ shape → v.events ≡ [] → names ≡ [] → handles ≡ [] →
    IsWorking shape commands bound (record { rank = v; at = 0; names = names; handles = handles })
unfolding AtEach
begins shape commands bound v names handles sizes none no_names no_handles =
    subst (λ (ns : List (ℕ × Req)). IsWorking shape commands bound
    (record { rank = v; at = 0; names = ns; handles = handles })) (sym no_names)
    (subst (λ (hs : List (ℕ × Handle)). IsWorking shape commands bound
    (record { rank = v; at = 0; names = []; handles = hs })) (sym no_handles)
    (let is = none in record {
      sizes = sizes;
      answers = subst (λ (h : List Event). Answers commands 0 h) (sym is)
          (record { few = omega arith; in_order = refl; right = tt });
      starts = subst (λ (h : List Event). Starts shape.eager commands h) (sym is)
          (record { made = tt; no_others = refl });
      cancels = subst (λ (h : List Event). Cancels commands h) (sym is)
          (record { made = tt; no_others = refl });
      claims = subst (λ (h : List Event). Claims commands h) (sym is)
          (record { made = tt; no_others = refl });
      past = rw is refl;
      requests = λ q. rw is refl;
      handles = λ m. rw is refl;
    }))

-- a later bound
pub bound_more : (shape : Sizes) (commands : List Numbered) (bound more : ℕ) (v : ProcessView) → bound ≤ more →
    IsWorking shape commands bound v → IsWorking shape commands more v
bound_more shape commands bound more v less work = record {
  sizes = work.sizes;
  answers = work.answers;
  starts = work.starts;
  cancels = work.cancels;
  claims = work.claims;
  past = below-more bound more v.rank.events less work.past;
  requests = work.requests;
  handles = work.handles;
}
