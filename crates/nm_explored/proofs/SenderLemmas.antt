-- Each message that is under way was sent by a line of its sender.
use Rattle.std.proofs.Common.{◌≡◌, ℕ, zero, suc, ◌==◌, ◌&&◌, ◌||◌, not, Bool, true, false, Some}
use Rattle.std.proofs.Common.{List, [], ◌∷◌, refl, sym, ◌∙◌, ap, subst}
use Rattle.std.specs.Prelude.{count_by, option_and_then}
use Rattle.std.specs.List.{filter, list_all, slice_get}
use Rattle.std.proofs.lemmas.Bool.{false≢true}
use Rattle.nm_types.specs.declared.messages.Arrival.{Arrival}
use Rattle.nm_types.specs.declared.scripts.Body.{Body}
use Rattle.nm_types.specs.declared.scripts.Command.{Command}
use Rattle.nm_types.specs.declared.scripts.Command.TheVariants as command
use Rattle.nm_types.specs.declared.scripts.Line.{Line}
use Rattle.nm_types.specs.Commands.{command_at, commands_of}
use Rattle.nm_history.specs.Selection.{matches, matches_source, matches_tag}
use Rattle.nm_types.proofs.ListLemmas.{no_item}
use Rattle.nm_types.proofs.NumberLemmas.{eq_true, same_number}
use Rattle.nm_types.proofs.OptionLemmas.{same_some}
use Rattle.nm_types.proofs.TruthLemmas.{and_left, and_right}
use Rattle.nm_outcomes.specs.declared.spots.deeds.Deed.{Deed}
use Rattle.nm_outcomes.specs.declared.spots.deeds.Deed.TheVariants as deed
use Rattle.nm_outcomes.specs.declared.spots.deeds.Receive.{Receive}
use Rattle.nm_outcomes.specs.Looks.{is_send_by}
use Rattle.nm_outcomes.specs.RankStates.{Spot}
use Rattle.nm_search.specs.Lists.{Has}
use Rattle.nm_search.proofs.ListLemmas.{then_some}
use Rattle.nm_explored.specs.Successors.{arrival_by, message_next}
use Rattle.nm_explored.specs.Coming.{HasNoOtherSender, may_send}
use Rattle.nm_explored.specs.Started.{AreStarted, IsStarted}
use Rattle.nm_explored.proofs.OrderlyLemmas.{has_left}
use Rattle.nm_explored.proofs.StartedLemmas.{at_line}

-- what is so of all elements
pub all_has : {X : Type 0} (test : X → Bool) (xs : List X) (x : X) → list_all test xs ≡ true → Has xs x → test x ≡ true
all_has test [] x all at = absurd (no_item at.0 x at.1)
all_has {X} test (y ∷ ys) x all at =
    by_place at.0 at.1 (all_has test ys x (and_right (test y) (list_all test ys) all))
  where
    by_place : (k : ℕ) → slice_get (y ∷ ys) k ≡ Some x → (Has ys x → test x ≡ true) → test x ≡ true
    by_place zero here later =
        subst (λ (z : X). test z ≡ true) (same_some y x here) (and_left (test y) (list_all test ys) all)
    by_place (suc k) here later = later (k, here)

-- a test that all commands of the other ranks pass
others_from : (test : Command → Bool) (from rank line : ℕ) (lines : List Line) (c : Command) →
    (rank == from) ≡ false → list_all (λ (l : Line). l.rank == from || test l.command) lines ≡ true →
    command_at (commands_of rank lines) line ≡ Some c → test c ≡ true
others_from test from rank line lines c other all here =
    let at = at_line rank 2 line lines c here in
    ap test (sym at.3)
    ∙ sym (ap (λ (b : Bool). b || test at.0.command) (ap (λ (n : ℕ). n == from) at.2 ∙ other))
    ∙ all_has (λ (l : Line). l.rank == from || test l.command) lines at.0 all at.1

-- a message was sent by a line of its sender
abbrev pub IsSentBy : List Line → ℕ → ℕ → Arrival → Type 0
IsSentBy lines i j a =
    (q line : ℕ) × (sync : Bool) × (body : Body) × (a.env.from ≡ j)
    × (command_at (commands_of j lines) line ≡ Some (command.Send i q a.env.tag a.env.ctx sync body))

-- so is the next message of a rank
pub sent_by : (lines : List Line) (s : List Spot) → AreStarted lines s → (i j : ℕ) (b : Arrival) →
    message_next (λ k. slice_get s k) i j ≡ Some b → IsSentBy lines i j b
sent_by lines s started i j b next =
    let own = then_some (λ (x : Spot). option_and_then (λ (y : Spot).
    let n = count_by (λ (a : Arrival). a.env.from == j) x.came in
    option_and_then (arrival_by j n) (slice_get (filter (is_send_by i) y.deeds) n)) (slice_get s j)) (slice_get s i) b
    next in
    let n = count_by (λ (a : Arrival). a.env.from == j) own.0.came in
    let sender = then_some (λ (y : Spot).
    option_and_then (arrival_by j n) (slice_get (filter (is_send_by i) y.deeds) n)) (slice_get s j) b own.2 in
    let did = then_some (arrival_by j n) (slice_get (filter (is_send_by i) sender.0.deeds) n) b sender.2 in
    let stood = has_left (is_send_by i) sender.0.deeds did.0 (n, did.1) in
    by_deed n did.0 stood.1 did.2 (started j sender.0 sender.1 did.0 stood.0)
  where
    by_deed : (n : ℕ) (d : Deed) → is_send_by i d ≡ true → arrival_by j n d ≡ Some b → IsStarted lines j d →
        IsSentBy lines i j b
    by_deed n (deed.Send to m tag ctx len how line) to_i is (q, sync, body, at) =
        subst (λ (a : Arrival). IsSentBy lines i j a) (same_some _ b is) (
          q,
          line,
          sync,
          body,
          refl,
          subst (λ (k : ℕ). command_at (commands_of j lines) line ≡ Some (command.Send k q tag ctx sync body))
              (same_number to i to_i) at,
        )
    by_deed n (deed.Post p line) to_i is started = absurd (false≢true to_i)
    by_deed n (deed.Match number f m cap line) to_i is started = absurd (false≢true to_i)
    by_deed n (deed.Cancel number done) to_i is started = absurd (false≢true to_i)
    by_deed n (deed.Recall to m) to_i is started = absurd (false≢true to_i)
    by_deed n (deed.Claim f m line) to_i is started = absurd (false≢true to_i)
    by_deed n (deed.Ran line p) to_i is started = absurd (false≢true to_i)

-- a receive that no other rank has a send for selects no message of another rank
pub selects_no_other : (lines : List Line) (s : List Spot) → AreStarted lines s → (i from j : ℕ) (r : Receive) →
    HasNoOtherSender lines i from r → (j == from) ≡ false → (b : Arrival) →
    message_next (λ k. slice_get s k) i j ≡ Some b → matches r.from r.tag r.ctx b.env ≡ false
selects_no_other lines s started i from j r none other b next =
    let by = sent_by lines s started i j b next in
    let unsent = others_from (λ (c : Command). not (may_send i r c)) from j by.1 lines
    (command.Send i by.0 b.env.tag b.env.ctx by.2 by.3) other none by.5 in
    no_three (r.ctx == b.env.ctx) (matches_source r.from b.env.from) (matches_tag r.tag b.env.tag)
    (off (i == i) (r.ctx == b.env.ctx && matches_tag r.tag b.env.tag) (eq_true i i refl) unsent)
  where
    -- a message that the receive selects has its context and its tag
    no_three : (a c e : Bool) → (a && e) ≡ false → (a && c && e) ≡ false
    no_three true true e none = none
    no_three true false e none = refl
    no_three false c e none = refl

    off : (a c : Bool) → a ≡ true → not (a && c) ≡ true → c ≡ false
    off true true so none = absurd (false≢true none)
    off true false so none = refl
    off false c so none = absurd (false≢true so)
