-- What an event changes of the machine's state: of a request, a message, a claim, and of lists of them.
use Rattle.std.proofs.Common.{◌≡◌, ℕ, ◌-◌, ◌<◌, ◌==◌, Bool, true, false, cond, Option, Some, None}
use Rattle.std.proofs.Common.{List, [], ◌∷◌, ◌++◌, get_or, map, refl, ◌∙◌, ap, subst}
use Rattle.std.specs.Prelude.{option_and_then, option_map}
use Rattle.std.specs.List.{AllByRecursion, cons_option, filter, filter_map, range_with_len}
use Rattle.std.specs.Option.{option_map_or}
use Rattle.std.proofs.lemmas.List.Elements.{filter_map-append}
use Rattle.nm_types.specs.declared.messages.Arrival.{Arrival}
use Rattle.nm_types.specs.declared.scripts.Line.{Line}
use Rattle.nm_types.specs.Commands.{Numbered, command_at, commands_of}
use Rattle.nm_types.proofs.NumberLemmas.{eq_true, same_number}
use Rattle.nm_types.proofs.TruthLemmas.{both}
use Rattle.nm_history.specs.declared.events.Event.{Event}
use Rattle.nm_history.specs.declared.events.Happened.{Happened}
use Rattle.nm_history.specs.declared.events.Happened.TheVariants as event
use Rattle.nm_history.specs.declared.plain.Pair.{Pair}
use Rattle.nm_history.specs.Happens.{is_send}
use Rattle.nm_history.specs.Sends.{receive_of}
use Rattle.nm_history.proofs.Lasting.{filter_map_same}
use Rattle.nm_history.proofs.OnceLemmas.{eqb_self}
use Rattle.nm_outcomes.specs.Logs.{Step}
use Rattle.nm_outcomes.specs.Paths.{moved}
use Rattle.nm_outcomes.specs.Places.{RankPoint, after}
use Rattle.nm_lawful.specs.declared.messages.Claim.{Claim}
use Rattle.nm_lawful.specs.declared.messages.Message.{Message}
use Rattle.nm_lawful.specs.declared.messages.Request.{Request}
use Rattle.nm_lawful.specs.declared.messages.Standing.{Standing}
use Rattle.nm_lawful.specs.declared.messages.Standing.TheVariants as standing
use Rattle.nm_lawful.specs.Ranks.{RankState, marked_lem}
use Rattle.nm_lawful.specs.Replies.{pattern_lem}
use Rattle.nm_lawful.specs.States.{with_rank}
use Rattle.nm_runs_lawful.specs.Stands.{behind, claim_by, claimed_at, effects, handle_of, is_live_at, is_matched_now}
use Rattle.nm_runs_lawful.specs.Stands.{line_of}
use Rattle.nm_runs_lawful.specs.Stands.{message_at, message_by, name_of, rank_of, request_by, standing_of, taken_by}
use Rattle.nm_runs_lawful.proofs.AlikeLemmas.{claim_of, claim_with, live_request, started_at}
use Rattle.nm_runs_lawful.proofs.RunLemmas.{with_row}

-- what holds of a place and itself, and of the place of a step's rank before and behind it, holds of each rank's
pub moved_each : (R : RankPoint → RankPoint → Type 0) → ((p : RankPoint) → R p p) → (lines : List Line)
    (w : ℕ → RankPoint) (s : Step) → R (w s.rank) (after s.rank (commands_of s.rank lines) (w s.rank) s.event.what) →
    (r : ℕ) → R (w r) (moved lines w s r)
moved_each R itself lines w s own r = by_rank (s.rank == r) refl
  where
    by_rank : (b : Bool) → (s.rank == r) ≡ b →
        R (w r) (cond b (after r (commands_of r lines) (w r) s.event.what) (w r))
    by_rank true same =
        subst (λ (r : ℕ). R (w r) (after r (commands_of r lines) (w r) s.event.what)) (same_number s.rank r same) own
    by_rank false other = itself (w r)

module _ {X Y : Type 0} (f g : X → Option Y) where
  -- a list that has one element more, of which the others give the same
  pub grown_map : (xs : List X) (x : X) → AllByRecursion (λ x. g x ≡ f x) xs →
      filter_map g (xs ++ x ∷ []) ≡ filter_map f xs ++ cons_option (g x) []
  grown_map xs x each =
      filter_map-append g xs (x ∷ [])
      ∙ ap (λ (ys : List Y). ys ++ cons_option (g x) []) (filter_map_same g f xs each)

  -- .. of which each gives a changed one
  pub marked_map : (mark : Y → Y) (xs : List X) → AllByRecursion (λ x. g x ≡ option_map mark (f x)) xs →
      filter_map g xs ≡ map mark (filter_map f xs)
  marked_map mark [] each = refl
  marked_map mark (x ∷ xs) each =
      ap (λ (o : Option Y). cons_option o (filter_map g xs)) each.0 ∙ by_first (f x) (marked_map mark xs each.1)
    where
      by_first : (o : Option Y) → filter_map g xs ≡ map mark (filter_map f xs) →
          cons_option (option_map mark o) (filter_map g xs) ≡ map mark (cons_option o (filter_map f xs))
      by_first None rest = rest
      by_first (Some y) rest = ap (λ (ys : List Y). mark y ∷ ys) rest

  -- .. of which some give nothing any more
  pub kept_map : (keep : Y → Bool) (xs : List X) →
      AllByRecursion (λ x. g x ≡ option_and_then (λ (y : Y). cond (keep y) (Some y) None) (f x)) xs →
      filter_map g xs ≡ filter keep (filter_map f xs)
  kept_map keep [] each = refl
  kept_map keep (x ∷ xs) each =
      ap (λ (o : Option Y). cons_option o (filter_map g xs)) each.0 ∙ by_first (f x) (kept_map keep xs each.1)
    where
      by_test : (y : Y) (b : Bool) → filter_map g xs ≡ filter keep (filter_map f xs) →
          cons_option (cond b (Some y) None) (filter_map g xs)
          ≡ cond b (y ∷ filter keep (filter_map f xs)) (filter keep (filter_map f xs))
      by_test y true rest = ap (λ (ys : List Y). y ∷ ys) rest
      by_test y false rest = rest

      by_first : (o : Option Y) → filter_map g xs ≡ filter keep (filter_map f xs) →
          cons_option (option_and_then (λ (y : Y). cond (keep y) (Some y) None) o) (filter_map g xs)
          ≡ filter keep (cons_option o (filter_map f xs))
      by_first None rest = rest
      by_first (Some y) rest = by_test y (keep y) rest

module _ (w v : ℕ → RankPoint) (i : ℕ) where
  -- a message is the same where its sender has the same line for it
  pub message_as : (a : Arrival) → get_or ((v a.env.from).lines i) a.n 0 ≡ get_or ((w a.env.from).lines i) a.n 0 →
      message_at v i a ≡ message_at w i a
  message_as a same =
      ap (λ (line : ℕ). record {
        place = line - 2;
        from = a.env.from;
        to = i;
        tag = a.env.tag;
        ctx = a.env.ctx;
        len = a.env.len;
      }) same

  -- a receive stands the same
  pub paired_as : (number : ℕ) (s : Standing) → (v i).off number ≡ (w i).off number →
      (v i).pairs number ≡ (w i).pairs number →
      ((pair : Pair) → (w i).pairs number ≡ Some pair → message_at v i pair.arrival ≡ message_at w i pair.arrival) →
      cond ((v i).off number) standing.Off (taken_by v i ((v i).pairs number) s)
      ≡ cond ((w i).off number) standing.Off (taken_by w i ((w i).pairs number) s)
  paired_as number s off pairs messages =
      ap (λ (b : Bool). cond b standing.Off (taken_by v i ((v i).pairs number) s)) off
      ∙ ap (λ (s : Standing). cond ((w i).off number) standing.Off s)
      (ap (λ (o : Option Pair). taken_by v i o s) pairs ∙ by_pair ((w i).pairs number) messages)
    where
      by_pair : (o : Option Pair) →
          ((pair : Pair) → o ≡ Some pair → message_at v i pair.arrival ≡ message_at w i pair.arrival) →
          taken_by v i o s ≡ taken_by w i o s
      by_pair None messages = refl
      by_pair (Some pair) messages = ap (λ (m : Message). standing.Taken pair.cap m) (messages pair refl)

  abbrev pub Live : List Numbered → Happened → Type 0
  Live commands what =
      (q line : ℕ) → line_of what ≡ Some line → option_and_then name_of (command_at commands line) ≡ Some q →
      is_live_at (v i) q line ≡ is_live_at (w i) q line

  -- a request whose standing changes at one place alone
  pub request_marked : (commands : List Numbered) (what : Happened) (place : ℕ) (s : Standing) → Live commands what →
      ((line : ℕ) → line_of what ≡ Some line →
      standing_of commands v i what ≡ cond ((line - 2) == place) s (standing_of commands w i what)) →
      request_by commands v i what ≡ option_map (marked_lem place s) (request_by commands w i what)
  request_marked commands what place s live stands = by_line (line_of what) refl
    where
      marked : (line q : ℕ) (t : Standing) (b : Bool) →
          ◌≡◌ {A = Request} (record { q = q; place = line - 2; standing = cond b s t })
          (cond b (record { q = q; place = line - 2; standing = s }) (record { q = q; place = line - 2; standing = t }))
      marked line q t true = refl
      marked line q t false = refl

      by_live : (line q : ℕ) (b : Bool) →
          cond b (started_at (cond ((line - 2) == place) s (standing_of commands w i what)) line q) None
          ≡ option_map (marked_lem place s) (cond b (started_at (standing_of commands w i what) line q) None)
      by_live line q true =
          ap (λ (r : Request). Some r) (marked line q (standing_of commands w i what) ((line - 2) == place))
      by_live line q false = refl

      by_name : (line : ℕ) → line_of what ≡ Some line → (o : Option ℕ) →
          option_and_then name_of (command_at commands line) ≡ o →
          option_and_then (λ (q : ℕ). live_request (v i) (standing_of commands v i what) line q) o
          ≡ option_map (marked_lem place s)
          (option_and_then (λ (q : ℕ). live_request (w i) (standing_of commands w i what) line q) o)
      by_name line at None named = refl
      by_name line at (Some q) named =
          ap (λ (b : Bool). cond b (started_at (standing_of commands v i what) line q) None) (live q line at named)
          ∙ ap (λ (t : Standing). cond (is_live_at (w i) q line) (started_at t line q) None) (stands line at)
          ∙ by_live line q (is_live_at (w i) q line)

      by_line : (o : Option ℕ) → line_of what ≡ o →
          option_and_then (λ (line : ℕ). option_and_then
          (λ (q : ℕ). live_request (v i) (standing_of commands v i what) line q)
          (option_and_then name_of (command_at commands line))) o
          ≡ option_map (marked_lem place s) (option_and_then (λ (line : ℕ). option_and_then
          (λ (q : ℕ). live_request (w i) (standing_of commands w i what) line q)
          (option_and_then name_of (command_at commands line))) o)
      by_line None at = refl
      by_line (Some line) at = by_name line at (option_and_then name_of (command_at commands line)) refl

  -- .. or not at all
  pub request_as : (commands : List Numbered) (what : Happened) → Live commands what →
      standing_of commands v i what ≡ standing_of commands w i what →
      request_by commands v i what ≡ request_by commands w i what
  request_as commands what live stands = by_line (line_of what) refl
    where
      by_name : (line : ℕ) → line_of what ≡ Some line → (o : Option ℕ) →
          option_and_then name_of (command_at commands line) ≡ o →
          option_and_then (λ (q : ℕ). live_request (v i) (standing_of commands v i what) line q) o
          ≡ option_and_then (λ (q : ℕ). live_request (w i) (standing_of commands w i what) line q) o
      by_name line at None named = refl
      by_name line at (Some q) named =
          ap (λ (b : Bool). cond b (started_at (standing_of commands v i what) line q) None) (live q line at named)
          ∙ ap (λ (s : Standing). live_request (w i) s line q) stands

      by_line : (o : Option ℕ) → line_of what ≡ o →
          option_and_then (λ (line : ℕ). option_and_then
          (λ (q : ℕ). live_request (v i) (standing_of commands v i what) line q)
          (option_and_then name_of (command_at commands line))) o
          ≡ option_and_then (λ (line : ℕ). option_and_then
          (λ (q : ℕ). live_request (w i) (standing_of commands w i what) line q)
          (option_and_then name_of (command_at commands line))) o
      by_line None at = refl
      by_line (Some line) at = by_name line at (option_and_then name_of (command_at commands line)) refl

  -- a claim is the same
  pub claim_as : (commands : List Numbered) (from n line : ℕ) → ((m : ℕ) → (v i).handled m ≡ (w i).handled m) →
      is_matched_now (v i) from n ≡ is_matched_now (w i) from n → (v i).known from n ≡ (w i).known from n →
      ((a : Arrival) → (w i).known from n ≡ Some a → message_at v i a ≡ message_at w i a) →
      claim_by commands v i (event.Claim from n line) ≡ claim_by commands w i (event.Claim from n line)
  claim_as commands from n line handled matched known messages =
      by_handle (option_and_then handle_of (command_at commands line))
    where
      by_known : (m : ℕ) (o : Option Arrival) →
          ((a : Arrival) → o ≡ Some a → message_at v i a ≡ message_at w i a) →
          option_map (λ (a : Arrival). claim_of v i m a) o ≡ option_map (λ (a : Arrival). claim_of w i m a) o
      by_known m None messages = refl
      by_known m (Some a) messages = ap (λ (x : Message). Some (claim_with m x)) (messages a refl)

      claimed_as : (m : ℕ) → claimed_at v i m from n ≡ claimed_at w i m from n
      claimed_as m =
          ap (λ (b : Bool). cond b None (option_map (λ (a : Arrival). claim_of v i m a) ((v i).known from n))) matched
          ∙ ap (λ (o : Option Claim). cond (is_matched_now (w i) from n) None o)
          (ap (λ (o : Option Arrival). option_map (λ (a : Arrival). claim_of v i m a) o) known
          ∙ by_known m ((w i).known from n) messages)

      by_handle : (o : Option ℕ) →
          option_and_then (λ (m : ℕ). cond (option_map_or (λ l. l == line) ((v i).handled m) false)
          (claimed_at v i m from n) None) o
          ≡ option_and_then (λ (m : ℕ). cond (option_map_or (λ l. l == line) ((w i).handled m) false)
          (claimed_at w i m from n) None) o
      by_handle None = refl
      by_handle (Some m) =
          ap (λ (h : Option ℕ). cond (option_map_or (λ l. l == line) h false) (claimed_at v i m from n) None)
          (handled m)
          ∙ ap (λ (o : Option Claim). cond (option_map_or (λ l. l == line) ((w i).handled m) false) o None)
          (claimed_as m)

-- the state of a rank, of which each part is known
pub row_is : (lines : List Line) (v : ℕ → RankPoint) (g : ℕ → List Event) (k at : ℕ) (requests : List Request)
    (outgoing : List Message) (claims : List Claim) → behind (commands_of k lines) (effects (g k)) ≡ at →
    filter_map (λ (e : Event). request_by (commands_of k lines) v k e.what) (g k) ≡ requests →
    filter_map (λ (e : Event). message_by v k e.what) (g k) ≡ outgoing →
    filter_map (λ (e : Event). claim_by (commands_of k lines) v k e.what) (g k) ≡ claims →
    rank_of lines v g k ≡ record { at = at; requests = requests; outgoing = outgoing; claims = claims }
row_is lines v g k at requests outgoing claims one two three four = rw (one, two, three, four) refl

-- the states of two ranks are changed, which may be the same rank
pub two_rows : (f g : ℕ → RankState) (first second : RankState → RankState) (i j n : ℕ) → i < n → j < n →
    ((k : ℕ) → g k ≡ cond (j == k) (second (cond (i == k) (first (f k)) (f k))) (cond (i == k) (first (f k)) (f k))) →
    with_rank second j (with_rank first i (map f (range_with_len 0 n))) ≡ map g (range_with_len 0 n)
two_rows f g first second i j n low below each =
    ap (λ (rs : List RankState). with_rank second j rs)
    (with_row f middle first i n low (own i first f) (λ k other. rw other refl))
    ∙ with_row middle g second j n below (each j ∙ own j second middle)
    (λ k other. each k ∙ rw other refl)
  where
    middle : ℕ → RankState
    middle k = cond (i == k) (first (f k)) (f k)

    own : (i : ℕ) (change : RankState → RankState) (f : ℕ → RankState) →
        cond (i == i) (change (f i)) (f i) ≡ change (f i)
    own i change f = ap (λ (b : Bool). cond b (change (f i)) (f i)) (eq_true i i refl)

-- a message is pending as before where it was neither taken nor withdrawn meanwhile
pub pending_as : (w v : ℕ → RankPoint) (i : ℕ) (what : Happened) →
    ((r n : ℕ) → (v r).taken i n ≡ (w r).taken i n) → ((r n : ℕ) → (v r).withdrawn i n ≡ (w r).withdrawn i n) →
    message_by v i what ≡ message_by w i what
pending_as w v i (event.Send to n tag ctx len how line) taken withdrawn = rw (taken to n, withdrawn to n) refl
pending_as w v i what taken withdrawn = refl

-- A start stands as before where its send was neither withdrawn nor recalled meanwhile, and its receive neither
-- cancelled nor paired.
pub standing_as : (w v : ℕ → RankPoint) (i : ℕ) (commands : List Numbered) (what : Happened) →
    ((to n : ℕ) → is_send to n what ≡ true → (v to).withdrawn i n ≡ (w to).withdrawn i n) →
    ((to n : ℕ) → is_send to n what ≡ true → (v i).recalled to n ≡ (w i).recalled to n) →
    ((k : ℕ) → receive_of what ≡ Some k → (v i).off k ≡ (w i).off k) →
    ((k : ℕ) → receive_of what ≡ Some k → (v i).pairs k ≡ (w i).pairs k) →
    ((k : ℕ) (pair : Pair) → receive_of what ≡ Some k → (w i).pairs k ≡ Some pair →
    message_at v i pair.arrival ≡ message_at w i pair.arrival) →
    standing_of commands v i what ≡ standing_of commands w i what
standing_as w v i commands (event.Send to n tag ctx len how line) withdrawn recalled off pairs messages =
    let own = both (to == to) (n == n) (eqb_self to) (eqb_self n) in rw (withdrawn to n own, recalled to n own) refl
standing_as w v i commands (event.Post p line) withdrawn recalled off pairs messages =
    paired_as w v i p.number (standing.Open (pattern_lem p.from p.tag p.ctx) p.cap) (off p.number refl)
    (pairs p.number refl) (λ pair is. messages p.number pair refl is)
standing_as w v i commands (event.Match number from n cap line) withdrawn recalled off pairs messages =
    paired_as w v i number standing.Off (off number refl) (pairs number refl) (λ pair is. messages number pair refl is)
standing_as w v i commands what withdrawn recalled off pairs messages = refl
