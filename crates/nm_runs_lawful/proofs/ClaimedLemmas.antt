-- The message of a live handle, in the machine as in the rank. MPI 3.1, 3.8.2.
use Rattle.std.proofs.Common.{◌≡◌, ℕ, ◌==◌, ◌&&◌, Bool, true, false, cond, Option, Some, None}
use Rattle.std.proofs.Common.{List, [], ◌∷◌, ◌++◌, fold, refl, sym, ◌∙◌, ap, subst, arith}
use Rattle.std.specs.Prelude.{Contains, IfSome, IsSomeAnd, is_some, option_and_then, option_map}
use Rattle.std.specs.List.{cons_option, filter_map, find, list_any, slice_get}
use Rattle.std.specs.Option.{option_map_or}
use Rattle.std.proofs.lemmas.Bool.{false≢true}
use Rattle.std.proofs.lemmas.List.Elements.{Contains-append_left, filter_map-append}
use Rattle.nm_types.specs.declared.answers.Answer.TheVariants as answer
use Rattle.nm_types.specs.declared.messages.Arrival.{Arrival}
use Rattle.nm_types.specs.declared.messages.Peer.{Peer}
use Rattle.nm_types.specs.declared.messages.TagPick.{TagPick}
use Rattle.nm_types.specs.declared.scripts.Command.{Command}
use Rattle.nm_types.specs.declared.scripts.Command.TheVariants as command
use Rattle.nm_types.specs.declared.scripts.Line.{Line}
use Rattle.nm_types.specs.Commands.{Numbered, command_at, commands_of}
use Rattle.nm_types.specs.Sizes.{Sizes}
use Rattle.nm_types.proofs.NumberLemmas.{eq_true, same_number}
use Rattle.nm_types.proofs.OptionLemmas.{no_some, same_some}
use Rattle.nm_types.proofs.TruthLemmas.{and_left}
use Rattle.nm_history.specs.declared.events.Event.{Event}
use Rattle.nm_history.specs.declared.events.Happened.{Happened}
use Rattle.nm_history.specs.declared.events.Happened.TheVariants as event
use Rattle.nm_history.specs.Answers.{Message as claimed, claim_at, claim_line_after, is_claim_for, is_receive_of}
use Rattle.nm_history.specs.Answers.{is_seen}
use Rattle.nm_history.specs.Answers.{is_started, line_of_handle, message_claimed, seen}
use Rattle.nm_history.specs.AtEach.{AtEach}
use Rattle.nm_history.specs.Matching.{first_message, is_free, matched_pairs}
use Rattle.nm_history.specs.Quiescence.{Ended, Packets}
use Rattle.nm_history.specs.RankRun.{ClaimAt, claim_of as claims_of}
use Rattle.nm_history.specs.Selection.{matches}
use Rattle.nm_history.specs.Sends.{arrival_of, messages}
use Rattle.nm_history.proofs.AtEachLemmas.{AtEach-split}
use Rattle.nm_history.proofs.SelectionLemmas.{find_contains}
use Rattle.nm_match.specs.Deeds.{is_known_message}
use Rattle.nm_lookups.proofs.ReplayLemmas.{is_some-message_of}
use Rattle.nm_outcomes.specs.Logs.{Step, history_in}
use Rattle.nm_outcomes.specs.Moves.{MayAnswer, found_in, message_now}
use Rattle.nm_outcomes.specs.Places.{RankPoint}
use Rattle.nm_outcomes.proofs.Bodies.{came_known}
use Rattle.nm_outcomes.proofs.LogLemmas.{own_run}
use Rattle.nm_lawful.specs.declared.messages.Act.TheVariants as act
use Rattle.nm_lawful.specs.declared.messages.Claim.{Claim}
use Rattle.nm_lawful.specs.Moves.{Report}
use Rattle.nm_lawful.specs.Ranks.{handle_lem}
use Rattle.nm_runs_lawful.specs.Stands.{IsNext, IsSoFar, IsRunTold, StepLeads, claim_by, claimed_at, handle_of}
use Rattle.nm_runs_lawful.specs.Stands.{is_match_of}
use Rattle.nm_runs_lawful.specs.Stands.{is_matched_now}
use Rattle.nm_runs_lawful.specs.Stands.{rank_of}
use Rattle.nm_runs_lawful.proofs.AlikeLemmas.{claim_of}
use Rattle.nm_runs_lawful.proofs.AnsweredLemmas.{not_begun}
use Rattle.nm_runs_lawful.proofs.HandleLemmas.{held, other_handle}
use Rattle.nm_runs_lawful.proofs.LiveLemmas.{find_step}
use Rattle.nm_runs_lawful.proofs.NamedLemmas.{busy_is, command_due, leads, may_here}
use Rattle.nm_runs_lawful.proofs.OnceLemmas.{whole_splits}

-- a handle stands for a matched probe of this handle
abbrev IsHandled : List Numbered → ℕ → Option ℕ → Type 0
IsHandled commands m o = IfSome o (λ line. option_and_then handle_of (command_at commands line) ≡ Some m)

claims_handled : (m : ℕ) (c : Command) → is_claim_for m c ≡ true → handle_of c ≡ Some m
claims_handled m (command.Mprobe m' from tag ctx) is = ap (λ (n : ℕ). Some n) (same_number m' m is)
claims_handled m c is = absurd (false≢true is)

handled_after : (commands : List Numbered) (m : ℕ) (o : Option ℕ) (what : Happened) → IsHandled commands m o →
    IsHandled commands m (claim_line_after commands m o what)
handled_after commands m o (event.Ran line a) was =
    by_claim (option_map_or (is_claim_for m) (command_at commands line) false && is_seen a) refl
  where
    named : (c : Option Command) → option_map_or (is_claim_for m) c false ≡ true →
        option_and_then handle_of c ≡ Some m
    named None is = absurd (false≢true is)
    named (Some c) is = claims_handled m c is

    by_end : (b : Bool) → IsHandled commands m (cond b None o)
    by_end true = tt
    by_end false = was

    by_claim : (b : Bool) → (option_map_or (is_claim_for m) (command_at commands line) false && is_seen a) ≡ b →
        IsHandled commands m (cond b (Some line)
        (cond (option_map_or (is_receive_of m) (command_at commands line) false && is_started a) None o))
    by_claim true is =
        named (command_at commands line)
        (and_left (option_map_or (is_claim_for m) (command_at commands line) false) (is_seen a) is)
    by_claim false is = by_end (option_map_or (is_receive_of m) (command_at commands line) false && is_started a)
handled_after commands m o what was = was

pub is_handled : (commands : List Numbered) (m : ℕ) (h : List Event) → IsHandled commands m
    (line_of_handle commands h m)
is_handled commands m h = along None h tt
  where
    along : (o : Option ℕ) (h : List Event) → IsHandled commands m o →
        IsHandled commands m (fold (λ (line : Option ℕ) (e : Event). claim_line_after commands m line e.what) o h)
    along o [] was = was
    along o (e ∷ h) was = along (claim_line_after commands m o e.what) h (handled_after commands m o e.what was)

-- the claim of a line is there
pub claim_split : (line : ℕ) (x : claimed) (h : List Event) → claim_at h line ≡ Some x →
    (b : List Event) × (e : Event) × (t : List Event) × (h ≡ b ++ e ∷ t) × (e.what ≡ event.Claim x.from x.n line)
claim_split line x [] is = absurd (no_some x is)
claim_split line x (e ∷ h) is = by_event e.what refl is (claim_split line x h)
  where
    Here : Type 0
    Here =
        (b : List Event) × (y : Event) × (t : List Event) × ((e ∷ h) ≡ b ++ y ∷ t)
        × (y.what ≡ event.Claim x.from x.n line)

    behind : (claim_at h line ≡ Some x →
        (b : List Event) × (y : Event) × (t : List Event) × (h ≡ b ++ y ∷ t)
        × (y.what ≡ event.Claim x.from x.n line)) →
        claim_at h line ≡ Some x → Here
    behind later is =
        let more = later is in (e ∷ more.0, more.1, more.2, ap (λ (h : List Event). e ∷ h) more.3, more.4)

    by_line : (from n own : ℕ) → e.what ≡ event.Claim from n own → (b : Bool) → (own == line) ≡ b →
        slice_get (cons_option (cond b (Some (record { from = from; n = n })) None)
        (filter_map (λ (e : Event). message_claimed line e.what) h)) 0 ≡ Some x →
        (claim_at h line ≡ Some x →
        (b : List Event) × (y : Event) × (t : List Event) × (h ≡ b ++ y ∷ t)
        × (y.what ≡ event.Claim x.from x.n line)) → Here
    by_line from n own at true same is later = (
      [],
      e,
      h,
      refl,
      at
          ∙ ap (λ (y : claimed). event.Claim y.from y.n own) (same_some (record { from = from; n = n }) x is)
          ∙ ap (λ (l : ℕ). event.Claim x.from x.n l) (same_number own line same),
    )
    by_line from n own at false same is later = behind later is

    by_event : (what : Happened) → e.what ≡ what →
        slice_get (cons_option (message_claimed line what)
        (filter_map (λ (e : Event). message_claimed line e.what) h)) 0 ≡ Some x →
        (claim_at h line ≡ Some x →
        (b : List Event) × (y : Event) × (t : List Event) × (h ≡ b ++ y ∷ t)
        × (y.what ≡ event.Claim x.from x.n line)) → Here
    by_event (event.Claim from n own) at is later = by_line from n own at (own == line) refl is later
    by_event what at is later = behind later is

-- The handle stands for this line, whose message is known, and no matched receive of it has just started.
module _ (commands : List Numbered) (w : ℕ → RankPoint) (i m line : ℕ) (stands : (w i).handled m ≡ Some line)
    (names : option_and_then handle_of (command_at commands line) ≡ Some m) (x : claimed) (a : Arrival)
    (known : (w i).known x.from x.n ≡ Some a) (waits : is_matched_now (w i) x.from x.n ≡ false)
  where
    own_claim : (what : Happened) → message_claimed line what ≡ Some x →
        claim_by commands w i what ≡ Some (claim_of w i m a)
    own_claim (event.Claim from n own) at = by_line (own == line) refl at
      where
        by_line : (b : Bool) → (own == line) ≡ b → cond b (Some (record { from = from; n = n })) None ≡ Some x →
            claim_by commands w i (event.Claim from n own) ≡ Some (claim_of w i m a)
        by_line true same at =
            ap (λ (l : ℕ). claim_by commands w i (event.Claim from n l)) (same_number own line same)
            ∙ ap (λ (o : Option ℕ). option_and_then
            (λ (name : ℕ). cond (option_map_or (λ l. l == line) ((w i).handled name) false)
            (claimed_at w i name from n) None) o) names
            ∙ ap (λ (o : Option ℕ). cond (option_map_or (λ l. l == line) o false) (claimed_at w i m from n) None) stands
            ∙ ap (λ (b : Bool). cond b (claimed_at w i m from n) None) (eq_true line line refl)
            ∙ ap (λ (y : claimed). claimed_at w i m y.from y.n) (same_some (record { from = from; n = n }) x at)
            ∙ ap (λ (b : Bool). cond b None (option_map (λ (a : Arrival). claim_of w i m a)
            ((w i).known x.from x.n))) waits
            ∙ ap (λ (o : Option Arrival). option_map (λ (a : Arrival). claim_of w i m a) o) known
        by_line false other at = absurd (no_some x at)
    own_claim what at = absurd (no_some x at)

    pub claim_found : (h : List Event) → claim_at h line ≡ Some x → held commands w i m h ≡ Some (claim_of w i m a)
    claim_found [] is = absurd (no_some x is)
    claim_found (e ∷ h) is = by_claim (message_claimed line e.what) refl is (claim_found h)
      where
        by_claim : (o : Option claimed) → message_claimed line e.what ≡ o →
            slice_get (cons_option o (filter_map (λ (e : Event). message_claimed line e.what) h)) 0 ≡ Some x →
            (claim_at h line ≡ Some x → held commands w i m h ≡ Some (claim_of w i m a)) →
            held commands w i m (e ∷ h) ≡ Some (claim_of w i m a)
        by_claim None at is later =
            find_step (λ (c : Claim). c.m == m) (claim_by commands w i e.what)
            (filter_map (λ (e : Event). claim_by commands w i e.what) h)
            (λ c own. other_handle commands w i m e.what c own
            (ap (λ (o : Option ℕ). option_and_then (λ l. message_claimed l e.what) o) stands ∙ at))
            ∙ later is
        by_claim (Some y) at is later =
            ap (λ (o : Option Claim). find (λ (c : Claim). c.m == m)
            (cons_option o (filter_map (λ (e : Event). claim_by commands w i e.what) h)))
            (own_claim e.what (at ∙ ap (λ (y : claimed). Some y) (same_some y x is)))
            ∙ ap (λ (b : Bool). cond b (Some (claim_of w i m a)) (held commands w i m h)) (eq_true m m refl)

module _ (shape : Sizes) (lines : List Line) (ranks : List Ended) (packets : List Packets) (told : Report)
    (is : IsRunTold shape lines ranks packets told) (before : List Step) (later : List Step)
    (w : ℕ → RankPoint) (next : IsSoFar shape lines ranks before later w)
  where
    -- .. of any rank
    module _ (i : ℕ) where
      abbrev commands : List Numbered
      commands = commands_of i lines

      abbrev h : List Event
      h = history_in before i

      abbrev rest : List Event
      rest = history_in later i

      pub claims_at : (b : List Event) (e : Event) (t : List Event) → h ≡ b ++ e ∷ t → ClaimAt commands b e.what
      claims_at b e t split =
          AtEach-split (λ b e. ClaimAt commands b e.what) b e (t ++ rest)
          (subst (λ (h : List Event). AtEach (λ b e. ClaimAt commands b e.what) h)
          (whole_splits shape lines ranks packets told is before later w next i b e t split)
          (own_run shape lines ranks packets is.run i).claims.made)

      -- a message that was claimed is known
      pub claim_known : (b : List Event) (e : Event) (t : List Event) → h ≡ b ++ e ∷ t → (from n line : ℕ) →
          e.what ≡ event.Claim from n line → (a : Arrival) × ((w i).known from n ≡ Some a)
      claim_known b e t split from n line at =
          by_command (command_at commands line)
          (subst (λ (what : Happened). ClaimAt commands b what) at (claims_at b e t split))
        where
          came : (a : Arrival) → Contains (messages b) a → Contains (messages h) a
          came a in_front =
              subst (λ (as' : List Arrival). Contains as' a)
              (sym (ap messages split ∙ filter_map-append (λ (e : Event). arrival_of e.what) b (e ∷ t)))
              (Contains-append_left (messages b) (messages (e ∷ t)) a in_front)

          is_there : (o : Option Arrival) → is_some o ≡ true → (a : Arrival) × (o ≡ Some a)
          is_there None some = absurd (false≢true some)
          is_there (Some a) some = (a, refl)

          by_found : (o : Option Arrival) → option_map_or (λ (a : Arrival). event.Claim a.env.from a.n line ∷ []) o []
              ≡ event.Claim from n line ∷ [] →
              (a : Arrival) × (o ≡ Some a) × (a.env.from ≡ from) × (a.n ≡ n)
          by_found None same = absurd (grind arith)
          by_found (Some a) same = (a, refl, cc, cc)

          by_command : (o : Option Command) →
              IsSomeAnd o (λ c. claims_of b line c ≡ event.Claim from n line ∷ []) →
              (a : Arrival) × ((w i).known from n ≡ Some a)
          by_command (Some (command.Mprobe handle from' tag ctx)) same =
              let found = by_found (first_message b (matched_pairs b) from' tag ctx) same in
              let contains = came found.0 (find_contains (λ (x : Arrival). matches from' tag ctx x.env && is_free b
              (matched_pairs b) x) (messages b) found.0 found.1) in
              let known : is_known_message h from n ≡ true =
              subst (λ (f : ℕ). is_known_message h f n ≡ true) found.2
              (subst (λ (k : ℕ). is_known_message h found.0.env.from k ≡ true) found.3
              (came_known h found.0 contains)) in
              is_there ((w i).known from n)
              (ap (λ (o : Option Arrival). is_some o) ((next.places i).known from n) ∙ is_some-message_of h from n
              ∙ known)
          by_command None same = absurd same
          by_command (Some c) same = absurd (grind arith)

      -- the claim of a live handle, unless a matched receive of it has just started
      pub record IsHeld (m : ℕ) (x : claimed) : Type 0 where
        pub line : ℕ
        pub stands : (w i).handled m ≡ Some line
        pub names : option_and_then handle_of (command_at (commands_of i lines) line) ≡ Some m
        pub claim : claim_at (history_in before i) line ≡ Some x
        pub message : Arrival
        pub known : (w i).known x.from x.n ≡ Some message

      pub message_held : (m : ℕ) (x : claimed) → message_now (w i) m ≡ Some x → IsHeld m x
      message_held m x now = by_handle ((w i).handled m) refl now
        where
          by_handle : (o : Option ℕ) → (w i).handled m ≡ o → option_and_then (w i).claims o ≡ Some x → IsHeld m x
          by_handle None stands now = absurd (no_some x now)
          by_handle (Some line) stands now =
              let claim : claim_at h line ≡ Some x = sym ((next.places i).claims line) ∙ now in
              let there = claim_split line x h claim in
              let known = claim_known there.0 there.1 there.2 there.3 x.from x.n line there.4 in
              record {
                line = line;
                stands = stands;
                names = subst (λ (o : Option ℕ). IsHandled commands m o) (sym ((next.places i).handled m) ∙ stands)
                    (is_handled commands m h);
                claim = claim;
                message = known.0;
                known = known.1;
              }

      pub held_found : (m : ℕ) (x : claimed) (is : IsHeld m x) → is_matched_now (w i) x.from x.n ≡ false →
          handle_lem (rank_of lines w (history_in before) i) m ≡ Some (claim_of w i m is.message)
      held_found m x is waits =
          claim_found commands w i m is.line is.stands is.names x is.message is.known waits h is.claim

module _ (shape : Sizes) (lines : List Line) (ranks : List Ended) (packets : List Packets) (told : Report)
    (is : IsRunTold shape lines ranks packets told) (before : List Step) (s : Step) (later : List Step)
    (w : ℕ → RankPoint) (next : IsNext shape lines ranks before s later w)
  where
    -- a matched probe whose handle has a message (3.8.2)
    pub mprobe_busy : (line : ℕ) (ran : s.event.what ≡ event.Ran line answer.Busy) (m : ℕ) (from : Peer)
        (tag : TagPick) (ctx : ℕ) →
        command_due shape lines ranks packets told is before s later w next line answer.Busy ran
        ≡ command.Mprobe m from tag ctx → StepLeads shape lines told before s w
    mprobe_busy line ran m from tag ctx probes =
        let may = subst (λ (c : Command). MayAnswer w s.rank line c answer.Busy) probes
        (may_here shape lines ranks packets told is before s later w next line answer.Busy ran) in
        let now = by_now (message_now (w s.rank) m) refl may in
        let held_now = message_held shape lines ranks packets told is before (s ∷ later) w next.so_far s.rank m now.0
        now.1 in
        leads shape lines ranks packets told is before s later w next line answer.Busy ran busy_is
        (command.Mprobe m from tag ctx) probes refl
        (λ place. ap (λ (o : Option Claim). cond (is_some o) (Some act.Pass) None)
        (held_found shape lines ranks packets told is before (s ∷ later) w next.so_far s.rank m now.0 held_now
        (ap (λ (ws : List Happened). list_any (is_match_of now.0.from now.0.n) ws)
        (not_begun shape lines ranks packets told is before s later w next line answer.Busy ran refl))))
      where
        by_now : (o : Option claimed) → message_now (w s.rank) m ≡ o →
            cond (is_some o) (Some answer.Busy)
            (option_map_or (λ (a : Arrival). Some (seen a)) (option_and_then (λ message. (w s.rank).known
            message.from message.n)
            ((w s.rank).claims line))
            (cond (is_some (found_in (w s.rank) from tag ctx)) None (Some answer.Nothing))) ≡ Some answer.Busy →
            (x : claimed) × (message_now (w s.rank) m ≡ Some x)
        by_now (Some x) now may = (x, now)
        by_now None now may =
            absurd (by_claim (option_and_then (λ message. (w s.rank).known message.from message.n)
            ((w s.rank).claims line)) (found_in (w s.rank) from tag ctx) may)
          where
            by_claim : (o f : Option Arrival) →
                option_map_or (λ (a : Arrival). Some (seen a)) o (cond (is_some f) None (Some answer.Nothing))
                ≡ Some answer.Busy → ⊥
            by_claim (Some a) f may = grind arith
            by_claim None (Some f) may = grind arith
            by_claim None None may = grind arith
