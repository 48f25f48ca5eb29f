-- Where places are alike, so are the states.
use Rattle.std.proofs.Common.{◌≡◌, ℕ, zero, suc, ◌+◌, ◌-◌, ◌==◌, Bool, true, false, cond, Option, Some, None}
use Rattle.std.proofs.Common.{List, [], ◌∷◌, ◌++◌, get_or, map, refl, ◌∙◌, ap, subst, append-nil}
use Rattle.std.specs.Prelude.{option_and_then, option_map}
use Rattle.std.specs.List.{cons_option, filter_map, range_with_len}
use Rattle.std.specs.Option.{option_map_or}
use Rattle.std.proofs.lemmas.List.Elements.{filter_map-append}
use Rattle.nm_types.specs.declared.messages.Arrival.{Arrival}
use Rattle.nm_types.specs.declared.scripts.Line.{Line}
use Rattle.nm_types.specs.Commands.{Numbered, command_at, commands_of}
use Rattle.nm_types.proofs.NumberLemmas.{same_number}
use Rattle.nm_history.specs.declared.events.Event.{Event}
use Rattle.nm_history.specs.declared.events.Happened.{Happened}
use Rattle.nm_history.specs.declared.events.Happened.TheVariants as event
use Rattle.nm_history.specs.declared.plain.Pair.{Pair}
use Rattle.nm_history.proofs.Basic.{all_of}
use Rattle.nm_history.proofs.Lasting.{filter_map_same}
use Rattle.nm_outcomes.specs.Logs.{Step, history_in}
use Rattle.nm_outcomes.specs.Paths.{moved}
use Rattle.nm_outcomes.specs.Places.{RankPoint}
use Rattle.nm_outcomes.proofs.LogLemmas.{grown_here, grown_other}
use Rattle.nm_lawful.specs.declared.messages.Claim.{Claim}
use Rattle.nm_lawful.specs.declared.messages.Message.{Message}
use Rattle.nm_lawful.specs.declared.messages.Request.{Request}
use Rattle.nm_lawful.specs.declared.messages.Standing.{Standing}
use Rattle.nm_lawful.specs.declared.messages.Standing.TheVariants as standing
use Rattle.nm_lawful.specs.Ranks.{RankState}
use Rattle.nm_lawful.specs.Replies.{pattern_lem}
use Rattle.nm_runs_lawful.specs.Stands.{AreAlike, LookAlike, OwnAlike, SeenAlike, behind, claim_by, claimed_at}
use Rattle.nm_runs_lawful.specs.Stands.{effects, handle_of, is_matched_now}
use Rattle.nm_runs_lawful.specs.Stands.{is_live_at, line_of}
use Rattle.nm_runs_lawful.specs.Stands.{message_at, message_by, name_of, rank_of, request_by, standing_of, state_of}
use Rattle.nm_runs_lawful.specs.Stands.{taken_by}

-- the request of a line, and if its name stands for it
abbrev pub started_at : Standing → ℕ → ℕ → Option Request
started_at s line q = Some (record { q = q; place = line - 2; standing = s })

abbrev pub live_request : RankPoint → Standing → ℕ → ℕ → Option Request
live_request p s line q = cond (is_live_at p q line) (started_at s line q) None

-- the message of a handle, and if that stands for the line
abbrev pub claim_with : ℕ → Message → Claim
claim_with m message = record { m = m; message = message }

abbrev pub claim_of : (ℕ → RankPoint) → ℕ → ℕ → Arrival → Claim
claim_of w i m a = claim_with m (message_at w i a)

abbrev live_claim : RankPoint → ℕ → ℕ → Option Claim → Option Claim
live_claim p line m o = cond (option_map_or (λ l. l == line) (p.handled m) false) o None

module _ (w v : ℕ → RankPoint) (i : ℕ) (own : OwnAlike (w i) (v i)) (seen : (r : ℕ) → SeenAlike (w r) (v r)) where
  message_alike : (a : Arrival) → message_at v i a ≡ message_at w i a
  message_alike a =
      ap (λ (ls : List ℕ). record {
        place = get_or ls a.n 0 - 2;
        from = a.env.from;
        to = i;
        tag = a.env.tag;
        ctx = a.env.ctx;
        len = a.env.len;
      }) ((seen a.env.from).lines i)

  taken_alike : (o : Option Pair) (s : Standing) → taken_by v i o s ≡ taken_by w i o s
  taken_alike None s = refl
  taken_alike (Some pair) s = ap (λ (m : Message). standing.Taken pair.cap m) (message_alike pair.arrival)

  paired_alike : (number : ℕ) (s : Standing) →
      cond ((v i).off number) standing.Off (taken_by v i ((v i).pairs number) s)
      ≡ cond ((w i).off number) standing.Off (taken_by w i ((w i).pairs number) s)
  paired_alike number s =
      ap (λ (b : Bool). cond b standing.Off (taken_by v i ((v i).pairs number) s)) (own.off number)
      ∙ ap (λ (s : Standing). cond ((w i).off number) standing.Off s)
      (ap (λ (o : Option Pair). taken_by v i o s) (own.pairs number) ∙ taken_alike ((w i).pairs number) s)

  pub standing_alike : (commands : List Numbered) (what : Happened) →
      standing_of commands v i what ≡ standing_of commands w i what
  standing_alike commands (event.Send to n tag ctx len how line) =
      rw ((seen to).withdrawn i n, own.recalled to n) refl
  standing_alike commands (event.Post p line) =
      paired_alike p.number (standing.Open (pattern_lem p.from p.tag p.ctx) p.cap)
  standing_alike commands (event.Match number from n cap line) = paired_alike number standing.Off
  standing_alike commands what = refl

  pub request_alike_at : (commands : List Numbered) (what : Happened) →
      ((q line : ℕ) → line_of what ≡ Some line → option_and_then name_of (command_at commands line) ≡ Some q →
      is_live_at (v i) q line ≡ is_live_at (w i) q line) →
      request_by commands v i what ≡ request_by commands w i what
  request_alike_at commands what live = by_line (line_of what) refl
    where
      by_name : (line : ℕ) → line_of what ≡ Some line → (o : Option ℕ) →
          option_and_then name_of (command_at commands line) ≡ o →
          option_and_then (λ (q : ℕ). live_request (v i) (standing_of commands v i what) line q) o
          ≡ option_and_then (λ (q : ℕ). live_request (w i) (standing_of commands w i what) line q) o
      by_name line at None named = refl
      by_name line at (Some q) named =
          ap (λ (b : Bool). cond b (started_at (standing_of commands v i what) line q) None) (live q line at named)
          ∙ ap (λ (s : Standing). live_request (w i) s line q) (standing_alike commands what)

      by_line : (o : Option ℕ) → line_of what ≡ o →
          option_and_then (λ (line : ℕ). option_and_then
          (λ (q : ℕ). live_request (v i) (standing_of commands v i what) line q)
          (option_and_then name_of (command_at commands line))) o
          ≡ option_and_then (λ (line : ℕ). option_and_then
          (λ (q : ℕ). live_request (w i) (standing_of commands w i what) line q)
          (option_and_then name_of (command_at commands line))) o
      by_line None at = refl
      by_line (Some line) at = by_name line at (option_and_then name_of (command_at commands line)) refl

  pub request_alike : ((q line : ℕ) → is_live_at (v i) q line ≡ is_live_at (w i) q line) →
      (commands : List Numbered) (what : Happened) → request_by commands v i what ≡ request_by commands w i what
  request_alike live commands what = request_alike_at commands what (λ q line at named. live q line)

  pub pending_alike : (what : Happened) → message_by v i what ≡ message_by w i what
  pending_alike (event.Send to n tag ctx len how line) = rw ((seen to).taken i n, (seen to).withdrawn i n) refl
  pending_alike what = refl

  pub claim_alike : (commands : List Numbered) (what : Happened) →
      claim_by commands v i what ≡ claim_by commands w i what
  claim_alike commands (event.Claim from n line) = by_handle (option_and_then handle_of (command_at commands line))
    where
      by_known : (m : ℕ) (o : Option Arrival) →
          option_map (λ (a : Arrival). claim_of v i m a) o ≡ option_map (λ (a : Arrival). claim_of w i m a) o
      by_known m None = refl
      by_known m (Some a) = ap (λ (x : Message). Some (claim_with m x)) (message_alike a)

      by_handle : (o : Option ℕ) →
          option_and_then (λ (m : ℕ). live_claim (v i) line m (claimed_at v i m from n)) o
          ≡ option_and_then (λ (m : ℕ). live_claim (w i) line m (claimed_at w i m from n)) o
      by_handle None = refl
      by_handle (Some m) =
          ap (λ (h : Option ℕ). cond (option_map_or (λ l. l == line) h false)
          (claimed_at v i m from n) None) (own.handled m)
          ∙ ap (λ (o : Option Claim). live_claim (w i) line m o)
          (ap (λ (b : Bool). cond b None (option_map (λ (a : Arrival). claim_of v i m a) ((v i).known from n)))
          (own.matched from n)
          ∙ ap (λ (o : Option Claim). cond (is_matched_now (w i) from n) None o)
          (ap (λ (o : Option Arrival). option_map (λ (a : Arrival). claim_of v i m a) o) (own.known from n)
          ∙ by_known m ((w i).known from n)))
  claim_alike commands what = refl

-- a list of what a history gives, where its last event gives nothing
last_nothing : {X : Type 0} (f g : Event → Option X) (h : List Event) (e : Event) → ((e : Event) → f e ≡ g e) →
    f e ≡ None → filter_map f (h ++ e ∷ []) ≡ filter_map g h
last_nothing {X} f g h e same nothing =
    filter_map-append f h (e ∷ []) ∙ ap (λ (o : Option X). filter_map f h ++ cons_option o []) nothing
    ∙ append-nil (filter_map f h) ∙ filter_map_same f g h (all_of (λ e. f e ≡ g e) h same)

-- rows that are the same, one by one
pub same_rows : (f g : ℕ → RankState) → ((k : ℕ) → f k ≡ g k) → (start n : ℕ) →
    map f (range_with_len start n) ≡ map g (range_with_len start n)
same_rows f g same start zero = refl
same_rows f g same start (suc n) =
    ap (λ (r : RankState). r ∷ map f (range_with_len (start + 1) n)) (same start)
    ∙ ap (λ (rs : List RankState). g start ∷ rs) (same_rows f g same (start + 1) n)

-- the event starts nothing, sends nothing and claims nothing that the machine shows
pub record IsBlank (lines : List Line) (v : ℕ → RankPoint) (i : ℕ) (e : Event) : Type 0 where
  pub request : request_by (commands_of i lines) v i e.what ≡ None
  pub message : message_by v i e.what ≡ None
  pub claim : claim_by (commands_of i lines) v i e.what ≡ None

-- a rank whose history has one event more, that neither sends nor claims what the machine shows
pub grown_with : (lines : List Line) (w v : ℕ → RankPoint) (f g : ℕ → List Event) (i : ℕ) (e : Event)
    (requests : List Request) → OwnAlike (w i) (v i) → ((r : ℕ) → SeenAlike (w r) (v r)) → g i ≡ f i ++ e ∷ [] →
    message_by v i e.what ≡ None → claim_by (commands_of i lines) v i e.what ≡ None →
    filter_map (λ (e : Event). request_by (commands_of i lines) v i e.what) (g i) ≡ requests →
    rank_of lines v g i ≡ record (rank_of lines w f i) {
      at = behind (commands_of i lines) (effects (g i));
      requests = requests;
    }
grown_with lines w v f g i e rs own seen grown no_message no_claim requests =
    let commands = commands_of i lines in
    let outgoing : filter_map (λ (e : Event). message_by v i e.what) (g i)
    ≡ filter_map (λ (e : Event). message_by w i e.what) (f i) =
    ap (λ (h : List Event). filter_map (λ (e : Event). message_by v i e.what) h) grown
    ∙ last_nothing (λ (e : Event). message_by v i e.what) (λ (e : Event). message_by w i e.what) (f i)
    e (λ e. pending_alike w v i own seen e.what) no_message in
    let claims : filter_map (λ (e : Event). claim_by commands v i e.what) (g i)
    ≡ filter_map (λ (e : Event). claim_by commands w i e.what) (f i) =
    ap (λ (h : List Event). filter_map (λ (e : Event). claim_by commands v i e.what) h) grown
    ∙ last_nothing (λ (e : Event). claim_by commands v i e.what) (λ (e : Event). claim_by commands w i e.what) (f i)
    e (λ e. claim_alike w v i own seen commands e.what) no_claim in
    rw (requests, outgoing, claims) refl

-- where all places are alike, each is
pub own_of : (p q : RankPoint) → LookAlike p q → OwnAlike p q
own_of p q alike = record {
  handled = alike.handled;
  matched = alike.matched;
  known = alike.known;
  pairs = alike.pairs;
  off = alike.off;
  recalled = alike.recalled;
}

pub seen_of : (p q : RankPoint) → LookAlike p q → SeenAlike p q
seen_of p q alike = record { taken = alike.taken; withdrawn = alike.withdrawn; lines = alike.lines }

-- a rank whose history has one such event more
pub grown_rank : (lines : List Line) (w v : ℕ → RankPoint) (f g : ℕ → List Event) (i : ℕ) (e : Event) → AreAlike w v →
    g i ≡ f i ++ e ∷ [] → IsBlank lines v i e →
    rank_of lines v g i ≡ record (rank_of lines w f i) { at = behind (commands_of i lines) (effects (g i)) }
grown_rank lines w v f g i e alike grown blank =
    let own = own_of (w i) (v i) (alike i) in
    let seen : (r : ℕ) → SeenAlike (w r) (v r) = λ r. seen_of (w r) (v r) (alike r) in
    grown_with lines w v f g i e (rank_of lines w f i).requests own seen grown blank.message blank.claim
    (ap (λ (h : List Event). filter_map (λ (e : Event). request_by (commands_of i lines) v i e.what) h) grown
    ∙ last_nothing (λ (e : Event). request_by (commands_of i lines) v i e.what)
    (λ (e : Event). request_by (commands_of i lines) w i e.what) (f i)
    e (λ e. request_alike w v i own seen (alike i).live (commands_of i lines) e.what) blank.request)

-- a rank whose place and history are the same, where others show the same
pub kept_rank : (lines : List Line) (w v : ℕ → RankPoint) (f g : ℕ → List Event) (i : ℕ) → LookAlike (w i) (v i) →
    ((r : ℕ) → SeenAlike (w r) (v r)) → g i ≡ f i → rank_of lines v g i ≡ rank_of lines w f i
kept_rank lines w v f g i alike seen same =
    let commands = commands_of i lines in
    let own = own_of (w i) (v i) alike in
    let requests : filter_map (λ (e : Event). request_by commands v i e.what) (f i)
    ≡ filter_map (λ (e : Event). request_by commands w i e.what) (f i) =
    filter_map_same (λ (e : Event). request_by commands v i e.what) (λ (e : Event). request_by commands w i e.what)
    (f i)
    (all_of (λ e. request_by commands v i e.what ≡ request_by commands w i e.what) (f i)
    (λ e. request_alike w v i own seen alike.live commands e.what)) in
    let outgoing : filter_map (λ (e : Event). message_by v i e.what) (f i)
    ≡ filter_map (λ (e : Event). message_by w i e.what) (f i) =
    filter_map_same (λ (e : Event). message_by v i e.what) (λ (e : Event). message_by w i e.what) (f i)
    (all_of (λ e. message_by v i e.what ≡ message_by w i e.what) (f i) (λ e. pending_alike w v i own seen e.what)) in
    let claims : filter_map (λ (e : Event). claim_by commands v i e.what) (f i)
    ≡ filter_map (λ (e : Event). claim_by commands w i e.what) (f i) =
    filter_map_same (λ (e : Event). claim_by commands v i e.what) (λ (e : Event). claim_by commands w i e.what) (f i)
    (all_of (λ e. claim_by commands v i e.what ≡ claim_by commands w i e.what) (f i)
    (λ e. claim_alike w v i own seen commands e.what)) in
    rw (same, requests, outgoing, claims) refl

-- Where the rank of a step is the same behind it, and others show the same, the state is the same.
pub rows_kept : (ranks : ℕ) (lines : List Line) (w : ℕ → RankPoint) (before : List Step) (s : Step) →
    ((k : ℕ) → (s.rank == k) ≡ false → LookAlike (w k) (moved lines w s k)) →
    ((r : ℕ) → SeenAlike (w r) (moved lines w s r)) →
    rank_of lines (moved lines w s) (history_in (before ++ s ∷ [])) s.rank
    ≡ rank_of lines w (history_in before) s.rank →
    state_of ranks lines (moved lines w s) (before ++ s ∷ []) ≡ state_of ranks lines w before
rows_kept ranks lines w before s others seen here =
    same_rows (rank_of lines (moved lines w s) (history_in (before ++ s ∷ []))) (rank_of lines w (history_in
    before)) (λ k. by_rank k (s.rank == k) refl) 0
    ranks
  where
    by_rank : (k : ℕ) (b : Bool) → (s.rank == k) ≡ b →
        rank_of lines (moved lines w s) (history_in (before ++ s ∷ [])) k ≡ rank_of lines w (history_in before) k
    by_rank k true is =
        subst (λ (k : ℕ). rank_of lines (moved lines w s) (history_in (before ++ s ∷ [])) k
        ≡ rank_of lines w (history_in before) k) (same_number s.rank k is) here
    by_rank k false other =
        kept_rank lines w (moved lines w s) (history_in before) (history_in (before ++ s ∷ [])) k (others k other) seen
        (grown_other before s k other)

-- .. so it is where the step shows the machine nothing, and takes no command's effect
pub state_kept : (ranks : ℕ) (lines : List Line) (w : ℕ → RankPoint) (before : List Step) (s : Step) →
    AreAlike w (moved lines w s) → IsBlank lines (moved lines w s) s.rank s.event →
    effects (history_in before s.rank ++ s.event ∷ []) ≡ effects (history_in before s.rank) →
    state_of ranks lines (moved lines w s) (before ++ s ∷ []) ≡ state_of ranks lines w before
state_kept ranks lines w before s alike blank same =
    rows_kept ranks lines w before s (λ k other. alike k) (λ r. seen_of (w r) (moved lines w s r) (alike r))
    (grown_rank lines w (moved lines w s) (history_in before) (history_in (before ++ s ∷ [])) s.rank s.event alike
    (grown_here before s) blank
    ∙ ap (λ (n : ℕ). record (rank_of lines w (history_in before) s.rank) {
      at = behind (commands_of s.rank lines) n;
    }) (ap effects (grown_here before s) ∙ same))
