-- How often an actor polled before it ran a command that looks at what came.
use Rattle.std.proofs.Common.{◌≡◌, ⊎_elim, inl, inr, ℕ, suc, ◌+◌, ◌<◌, ◌≤◌, Bool, true, false, cond}
use Rattle.std.proofs.Common.{Option, Some, List, [], ◌∷◌, ◌++◌, map, take, sym, ap, ◌∙◌, subst, arith}
use Rattle.std.specs.Prelude.{count_by}
use Rattle.std.specs.List.{slice_get}
use Rattle.std.specs.Option.{option_map_or}
use Rattle.std.proofs.lemmas.List.{map-append}
use native.Mathlib.Decide.{dec_le}
use Rattle.std.proofs.lemmas.List.Elements.{filter_map-append}
use Rattle.std.proofs.lemmas.List.Sums.{sum_by-append}
use Rattle.nm_types.specs.declared.scripts.Command.{Command}
use Rattle.nm_types.specs.Commands.{Numbered, command_at}
use Rattle.nm_history.specs.declared.events.Event.{Event}
use Rattle.nm_history.specs.RankRun.{Answers, ran_lines, ran_of}
use Rattle.nm_cells.specs.declared.port.Fabric.{Fabric}
use Rattle.nm_copyring.specs.declared.port.Rings.{Rings}
use Rattle.nm_cells.specs.declared.port.Port.{Port}
use Rattle.nm_cells.specs.Ports.{taken_by}
use Rattle.nm_process.specs.Processes.{ProcessView}
use Rattle.nm_process.specs.Steps.{is_look}
use Rattle.nm_rank.specs.Ranks.{IsFresh}
use Rattle.nm_world.specs.declared.actors.Actor.{Actor}
use Rattle.nm_world.specs.Actors.{Grows, Continues, Environment, PortGrows, Seat, ActorInvariant, did}
use Rattle.nm_world.specs.Idle.{Moves, QueueMissed}
use Rattle.nm_world.specs.Looks.{IsAtLast, Polled, PolledBefore, PolledUnlessWorn, is_look_at, looks_in}
use Rattle.nm_world.specs.Looks.{RanNext, looks_next, polls_of}
use Rattle.nm_world.proofs.Did.{did_same, sum_more, sum_up}
use Rattle.nm_world.proofs.Grows.{port_same}
use Rattle.nm_world.proofs.Loops.{HasLooped}
use Rattle.nm_world.proofs.Results.{clash}
use Rattle.nm_types.proofs.ListLemmas.{take_more}
use Rattle.nm_types.specs.declared.packets.Packet.{Packet}
use Rattle.nm_chain.specs.OwnQueues.{receive_queue}

-- ports
polls_up : (n : ℕ) (p q : Port Packet) → PortGrows p q → polls_of n p ≤ polls_of n q
polls_up n p q up =
    let x = sum_up n (λ i. taken_by p i) (λ i. taken_by q i) up.taken in
    let y = (up.queues receive_queue).head in
    let z = (up.queues receive_queue).link in omega (arith, x, y, z)

last_on : (p q : Port Packet) → PortGrows p q → IsAtLast p → IsAtLast q
last_on p q up = ⊎_elim
    (λ h. let y = (up.queues receive_queue).head in inl (omega (arith, h, y)))
    (λ h. let z = (up.queues receive_queue).link in inr (omega (arith, h, z)))

pub polled_none : (n : ℕ) (p q : Port Packet) → PortGrows p q → Polled n 0 p q
polled_none n p q up = let x = polls_up n p q up in inl (omega (arith, x))

pub polled_on : (n k m : ℕ) (p q s : Port Packet) → Polled n k p q → Polled n m q s → PortGrows q s →
    Polled n (k + m) p s
polled_on n k m p q s one two up = ⊎_elim
    (λ h. ⊎_elim (λ g. inl (omega (arith, h, g))) (λ g. inr g) two)
    (λ h. inr (last_on q s up h)) one

pub polled_within : (n k : ℕ) (p p' q' q : Port Packet) → PortGrows p p' → Polled n k p' q' → PortGrows q' q →
    Polled n k p q
polled_within n k p p' q' q up polled on =
    let x = polls_up n p p' up in
    let y = polls_up n q' q on in
    ⊎_elim (λ h. inl (omega (arith, x, h, y))) (λ h. inr (last_on q' q on h)) polled

pub polled_some : (n k : ℕ) (p q : Port Packet) → PortGrows p q → k < n → taken_by p k < taken_by q k → Polled n 1 p q
polled_some n k p q up low more =
    let x = sum_more n k (λ i. taken_by p i) (λ i. taken_by q i) up.taken low more in
    let y = (up.queues receive_queue).head in
    let z = (up.queues receive_queue).link in inl (omega (arith, x, y, z))

pub polled_miss : (n : ℕ) (p q : Port Packet) → PortGrows p q → QueueMissed receive_queue p q → Polled n 1 p q
polled_miss n p q up =
    let x = sum_up n (λ i. taken_by p i) (λ i. taken_by q i) up.taken in
    let y = (up.queues receive_queue).head in
    let z = (up.queues receive_queue).link in ⊎_elim
    (⊎_elim (λ h. inl (omega (arith, x, h, z))) (λ h. inr (inl h)))
    (⊎_elim (λ h. inl (omega (arith, x, y, h))) (λ h. inr (inr h)))

-- commands
pub looks_more : (commands : List Numbered) (h more : List Event) →
    looks_in commands (h ++ more) ≡ looks_in commands h + looks_in commands more
looks_more commands h more =
    ap (count_by (is_look_at commands)) (filter_map-append (λ (e : Event). ran_of e.what) h more)
    ∙ sum_by-append (λ x. cond (is_look_at commands x) 1 0) (ran_lines h) (ran_lines more)

-- where the same commands ran, as many of them look at what came
pub looks_same : (commands : List Numbered) (at at' : ℕ) (h h' : List Event) → Answers commands at h →
    Answers commands at' h' → at' ≡ at → looks_in commands h' ≡ looks_in commands h
looks_same commands at at' h h' one two same =
    ap (count_by (is_look_at commands)) (two.in_order
    ∙ ap (λ (k : ℕ). map (λ (c : Numbered). c.line) (take k commands)) same ∙ sym one.in_order)

-- one command more ran
sole_look : (commands : List Numbered) (line : ℕ) (c : Command) → command_at commands line ≡ Some c →
    count_by (is_look_at commands) (line ∷ []) ≡ cond (is_look c) 1 0
sole_look commands line c found =
    by (option_map_or is_look (command_at commands line) false)
    ∙ ap (λ (o : Option Command). cond (option_map_or is_look o false) 1 0) found where
      by : (b : Bool) → 0 + cond b 1 0 ≡ cond b 1 0
      by true = omega arith
      by false = omega arith

pub ran_one : (commands : List Numbered) (a b : ProcessView) →
    Answers commands a.at a.rank.events → Answers commands b.at b.rank.events → (run : RanNext commands a b) →
    ran_lines b.rank.events ≡ ran_lines a.rank.events ++ run.line ∷ []
ran_one commands a b one answers run =
    let next = run.next.next in
    let line : Numbered = record { line = run.line; command = run.command } in
    let at = run.ran.at in
    let more : b.at ≡ suc a.at = omega (arith, at) in
    let taken : take b.at commands ≡ take a.at commands ++ line ∷ [] =
    ap (λ (k : ℕ). take k commands) more ∙ take_more commands a.at line next in
    answers.in_order ∙ ap (map (λ (c : Numbered). c.line)) taken
    ∙ map-append (λ (c : Numbered). c.line) (take a.at commands) (line ∷ [])
    ∙ ap (λ (ls : List ℕ). ls ++ line.line ∷ []) (sym one.in_order)

pub looks_ran : (commands : List Numbered) (a b : ProcessView) →
    Answers commands a.at a.rank.events → Answers commands b.at b.rank.events → RanNext commands a b →
    looks_in commands b.rank.events ≡ looks_in commands a.rank.events + looks_next commands a
looks_ran commands a b one answers run =
    ap (count_by (is_look_at commands)) (ran_one commands a b one answers run)
    ∙ sum_by-append (λ x. cond (is_look_at commands x) 1 0) (ran_lines a.rank.events) (run.line ∷ [])
    ∙ ap (λ (k : ℕ). looks_in commands a.rank.events + k) (sole_look commands run.line run.command run.next.found
    ∙ sym (ap (λ (o : Option Numbered). cond (option_map_or (λ c. is_look c.command) o false) 1 0) run.next.next))

-- one step of a loop that takes packets, and its last one
pub ranks_same : {H : Type 0} → (f : Fabric Packet) (r : Rings) (a b : Actor H) → Continues f r a b →
    b.process.rank.sizes.ranks ≡ a.process.rank.sizes.ranks
ranks_same f r a b kept = ap (λ (s : Seat). s.sizes.ranks) kept.seat

pub polled_by_step : {H : Type 0} → (here : Environment) (a b d : Actor H) (q : Bool) →
    Continues here.fabric here.rings a b → q ≡ true → Moves here q b d →
    PolledUnlessWorn b.process.rank.sizes.ranks 1 b d → Polled a.process.rank.sizes.ranks 1 a.port d.port
polled_by_step here a b d q kept is moves = ⊎_elim
    (λ polled. polled_within a.process.rank.sizes.ranks 1 a.port b.port d.port d.port kept.grows.port
    (subst (λ (k : ℕ). Polled k 1 b.port d.port) (ranks_same here.fabric here.rings a b kept) polled)
    (port_same d.port))
    (λ worn. absurd (clash (sym is ∙ moves.moved ∙ ap (did here.fabric.ranks b) worn.1
    ∙ sym (did_same here.fabric.ranks b))))

pub polled_last : {H : Type 0} → (here : Environment) (k : ℕ) (a b d : Actor H) → HasLooped here k a b →
    (0 < k → Polled a.process.rank.sizes.ranks 1 a.port b.port) → Grows b d →
    PolledUnlessWorn b.process.rank.sizes.ranks 1 b d → PolledUnlessWorn a.process.rank.sizes.ranks 1 a d
polled_last here k a b d looped before up = ⊎_elim
    (λ polled. inl (polled_within a.process.rank.sizes.ranks 1 a.port b.port d.port d.port
    looped.moves.kept.grows.port (subst (λ (k : ℕ). Polled k 1 b.port d.port)
    (ranks_same here.fabric here.rings a b looped.moves.kept) polled) (port_same d.port)))
    (λ worn. by worn (dec_le 1 k)) where
      by : (¬ IsFresh b.process.rank) × (d ≡ b) → Dec (1 ≤ k) → PolledUnlessWorn a.process.rank.sizes.ranks 1 a d
      by worn (yes some) =
          inl (polled_within a.process.rank.sizes.ranks 1 a.port a.port b.port d.port (port_same a.port) (before some)
          up.port)
      by worn (no none) =
          let same = looped.first (omega (arith, none)) in
          inr (subst (λ (x : Actor _). ¬ IsFresh x.process.rank) same worn.0, worn.1 ∙ same)

-- the looks of an actor that ran no command
pub looks_kept : {H : Type 0} → (commands : List Numbered) (last : ℕ) (f : Fabric Packet) (r : Rings) (a b : Actor H) →
    ActorInvariant commands last a → Continues f r a b → b.process.at ≡ a.process.at →
    looks_in commands b.process.rank.events ≡ looks_in commands a.process.rank.events
looks_kept commands last f r a b s on at =
    looks_same commands a.process.at b.process.at a.process.rank.events b.process.rank.events s.is.work.answers
    (on.stands commands last s).is.work.answers at

looks_front : {H : Type 0} → (commands : List Numbered) (a b : Actor H) (g : Grows a b) →
    looks_in commands b.process.rank.events
    ≡ looks_in commands a.process.rank.events + looks_in commands g.events.0
looks_front commands a b g =
    ap (looks_in commands) g.events.1 ∙ looks_more commands a.process.rank.events g.events.0

-- before a command that did not run
pub looked_last : {H : Type 0} →
    (commands : List Numbered) (last : ℕ) (f : Fabric Packet) (r : Rings) (a b c : Actor H) →
    ActorInvariant commands last b → Continues f r b c → c.process.at ≡ b.process.at → PolledBefore commands a b →
    PolledBefore commands a c
looked_last commands last f r a b c s two at before looks is =
    let same = looks_kept commands last f r b c s two at in
    polled_within a.process.rank.sizes.ranks looks a.port a.port b.port c.port (port_same a.port)
    (before looks (sym same ∙ is)) two.grows.port

-- before one that ran, where the actor stood at m and at d
pub looked_more : {H : Type 0} →
    (commands : List Numbered) (last : ℕ) (f : Fabric Packet) (r : Rings) (a b m d : Actor H) →
    Grows a b → b.process.rank.sizes.ranks ≡ a.process.rank.sizes.ranks →
    ActorInvariant commands last b → Continues f r b m → Grows m d → m.process.at ≡ b.process.at →
    Answers commands d.process.at d.process.rank.events → PolledBefore commands a b →
    PolledUnlessWorn b.process.rank.sizes.ranks (looks_next commands b.process) b m → IsFresh m.process.rank →
    RanNext commands m.process d.process → PolledBefore commands a d
looked_more commands last f r a b m d one ranks s two three at answers before looked fresh run looks is =
    let n = a.process.rank.sizes.ranks in
    let next = looks_next commands b.process in
    let so_far = looks_in commands one.events.0 in
    let first = looks_front commands a b one in
    let same = looks_kept commands last f r b m s two at in
    let here = looks_ran commands m.process d.process (two.stands commands last s).is.work.answers answers run in
    let then : looks_next commands m.process ≡ next =
    ap (λ (k : ℕ). cond (option_map_or (λ (c : Numbered). is_look c.command) (slice_get commands k) false) 1 0) at in
    let sum : so_far + next ≡ looks = omega (arith, first, same, here, then, is) in
    ⊎_elim
    (λ polled. subst (λ (k : ℕ). Polled n k a.port d.port) sum
    (polled_within n (so_far + next) a.port a.port m.port d.port (port_same a.port)
    (polled_on n so_far next a.port b.port m.port (before so_far first)
    (subst (λ (k : ℕ). Polled k next b.port m.port) ranks polled) two.grows.port)
    three.port))
    (λ worn. absurd (worn.0 (subst (λ (x : Actor _). IsFresh x.process.rank) worn.1 fresh))) looked

-- at the start
pub looked_none : {H : Type 0} → (commands : List Numbered) (a : Actor H) → PolledBefore commands a a
looked_none commands a looks is =
    let none : 0 ≡ looks = omega (arith, is) in
    subst (λ (k : ℕ). Polled a.process.rank.sizes.ranks k a.port a.port) none
    (polled_none a.process.rank.sizes.ranks a.port a.port (port_same a.port))
