-- What the start of a command calls for, what stands in the front of a history, and what is complete.
use Rattle.std.proofs.Common.{◌≡◌, ℕ, ◌+◌, ◌-◌, ◌<◌, ◌==◌, Bool, true, false, ◌&&◌, ◌||◌, cond, ltb, zero}
use Rattle.std.proofs.Common.{suc, Option, Some}
use Rattle.std.proofs.Common.{None, List, [], ◌∷◌, ◌++◌, length, refl, sym, ◌∙◌, ap, subst, arith}
use Rattle.std.specs.Prelude.{option_map}
use Rattle.std.specs.List.{list_any, position, slice_get}
use Rattle.std.specs.Option.{option_and_then, option_map_or}
use Rattle.std.proofs.lemmas.Bool.{false≢true}
use Rattle.std.proofs.lemmas.Bool.Decides.{nat_tests}
use Rattle.nm_types.specs.declared.answers.Answer.{Answer}
use Rattle.nm_types.specs.declared.messages.Arrival.{Arrival}
use Rattle.nm_types.specs.declared.messages.How.{How}
use Rattle.nm_types.specs.declared.messages.Peer.TheVariants as peer
use Rattle.nm_types.specs.declared.messages.Post as post
use Rattle.nm_types.specs.declared.messages.TagPick.TheVariants as pick
use Rattle.nm_types.specs.declared.scripts.Body.{Body}
use Rattle.nm_types.specs.declared.scripts.Command.{Command}
use Rattle.nm_types.specs.declared.scripts.Command.TheVariants as command
use Rattle.nm_types.specs.Bodies.{body_len}
use Rattle.nm_types.specs.Commands.{Numbered, command_at}
use Rattle.nm_history.specs.declared.events.Event.{Event}
use Rattle.nm_history.specs.declared.events.Happened.{Happened}
use Rattle.nm_history.specs.declared.events.Happened.TheVariants as event
use Rattle.nm_history.specs.declared.plain.Pair.{Pair}
use Rattle.nm_history.specs.AtEach.{AtEach, AtEachAfter}
use Rattle.nm_types.specs.declared.answers.Answer.TheVariants as answer
use Rattle.nm_history.specs.Completion.{Request, is_complete, is_here, pair_of_receive, result_of, shown}
use Rattle.nm_history.specs.Completion.Request.{Sending, Receiving}
use Rattle.nm_history.specs.Delivery.{earlier_than}
use Rattle.nm_history.specs.Happens.{happened, is_cancel, is_send}
use Rattle.nm_history.specs.Matching.{pair_of}
use Rattle.nm_history.specs.RankRun.{Always, EndAt, NumberAt, how_of, start_of}
use Rattle.nm_history.specs.Sends.{Sent, is_ask, sends}
use Rattle.nm_match.specs.InTurn.{ArePlainEvents, is_for}
use Rattle.nm_sure.proofs.Fitting.{Fits}
use Rattle.nm_sure.proofs.Gathered.{receives_it}
use Rattle.nm_sure.proofs.Gathered.{sends_it}
use Rattle.nm_sure.proofs.Lists.{kept_from, place_behind}
use Rattle.nm_types.proofs.ListLemmas.{all_split}
use Rattle.nm_types.proofs.NumberLemmas.{same_number}
use Rattle.nm_types.proofs.OptionLemmas.{no_some, same_some}
use Rattle.nm_history.proofs.EachLemmas.{after_prefix}

-- the tests of the channel's receives and of its sends
abbrev receiving : ℕ → ℕ → ℕ → Numbered → Bool
receiving from tag ctx c = receives_it from tag ctx c.command

abbrev sending : ℕ → ℕ → ℕ → Numbered → Bool
sending to tag ctx c = sends_it to tag ctx c.command

-- a command calls for a receive of its channel
abbrev first_for : ℕ → ℕ → ℕ → List Happened → Bool
first_for from tag ctx (event.Post p line ∷ ws) = is_for from tag ctx p
first_for from tag ctx _ = true

pub same_command : (cs : List Numbered) (l : ℕ) (c d : Command) → command_at cs l ≡ Some c → command_at cs l ≡ Some d →
    c ≡ d
same_command cs l c d first second = same_some c d (sym first ∙ second)

three : (a b c : ℕ) → (a == a && b == b && c == c) ≡ true
three a b c = grind (arith, nat_tests)

pub called_for : (eager : ℕ) (commands : List Numbered) (l q from tag ctx cap : ℕ) (p : post.Post) →
    Fits eager commands (event.Post p l) →
    command_at commands l ≡ Some (command.Recv q (peer.One from) (pick.One tag) ctx cap) → is_for from tag ctx p ≡ true
called_for eager commands l q from tag ctx cap p calls here =
    let own : calls.command ≡ command.Recv q (peer.One from) (pick.One tag) ctx cap =
    same_command commands l calls.command (command.Recv q (peer.One from) (pick.One tag) ctx cap) calls.at_line here in
    sym (ap (λ (ws : List Happened). first_for from tag ctx ws) calls.start)
    ∙ ap (λ (c : Command). first_for from tag ctx (start_of eager commands [] l c)) own ∙ three ctx from tag

-- what a send goes out with
record Goes : Type 0 where
  to : ℕ
  tag : ℕ
  ctx : ℕ
  asks : Bool

abbrev first_goes : List Happened → Goes
first_goes (event.Send to n tag ctx len how line ∷ ws) = record { to = to; tag = tag; ctx = ctx; asks = is_ask how }
first_goes _ = record { to = 0; tag = 0; ctx = 0; asks = false }

pub sent_for : (eager : ℕ) (commands : List Numbered) (l q to tag ctx : ℕ) (body : Body) (sync : Bool)
    (to' n t c len : ℕ) (h : How) →
    Fits eager commands (event.Send to' n t c len h l) →
    command_at commands l ≡ Some (command.Send to q tag ctx sync body) →
    (to ≡ to') × (tag ≡ t) × (ctx ≡ c) × (is_ask (how_of eager sync (body_len body)) ≡ is_ask h)
sent_for eager commands l q to tag ctx body sync to' n t c len h calls here =
    let own : calls.command ≡ command.Send to q tag ctx sync body =
    same_command commands l calls.command (command.Send to q tag ctx sync body) calls.at_line here in
    let same = ap (λ (c : Command). first_goes (start_of eager commands [] l c)) (sym own)
    ∙ ap (λ (ws : List Happened). first_goes ws) calls.start in (
      ap (λ (g : Goes). g.to) same,
      ap (λ (g : Goes). g.tag) same,
      ap (λ (g : Goes). g.ctx) same,
      ap (λ (g : Goes). g.asks) same,
    )

-- a send that happened is one of its rank
pub send_in : (h : List Event) (to n : ℕ) → happened (is_send to n) h ≡ true →
    (k : ℕ) × (s : Sent) × (slice_get (sends h to) k ≡ Some s) × (s.n ≡ n)
send_in [] to n some = absurd (false≢true some)
send_in (e ∷ h) to n some = at_event e.stamp e.what some (send_in h to n)
  where
    at_event : (stamp : ℕ) (what : Happened) → happened (is_send to n) (record { stamp = stamp; what = what } ∷ h)
        ≡ true →
        (happened (is_send to n) h ≡ true → (k : ℕ) × (s : Sent) × (slice_get (sends h to) k ≡ Some s) × (s.n ≡ n)) →
        (k : ℕ) × (s : Sent) × (slice_get (sends (record { stamp = stamp; what = what } ∷ h) to) k ≡ Some s) × (s.n ≡ n)
    at_event stamp (event.Send to' n' tag ctx len how line) some later = by_rank (to' == to) refl (n' == n) refl some
      where
        by_rank : (b : Bool) → (to' == to) ≡ b → (c : Bool) → (n' == n) ≡ c →
            ((b && c) || happened (is_send to n) h) ≡ true →
            (k : ℕ) × (s : Sent) ×
            (slice_get (sends (record { stamp = stamp; what = event.Send to' n' tag ctx len how line } ∷ h) to) k
            ≡ Some s) × (s.n ≡ n)
        by_rank true here true same some = (
          zero,
          record { stamp = stamp; to = to'; n = n'; tag = tag; ctx = ctx; len = len; how = how; line = line },
          rw here refl,
          same_number n' n same,
        )
        by_rank true here false same some = let more = later some in (suc more.0, more.1, rw here more.2, more.3)
        by_rank false here c same some = let more = later some in (more.0, more.1, rw here more.2, more.3)
    at_event stamp what some later = later some

-- an event of a history that passes splits it
pub split_any : (test : Event → Bool) (h : List Event) → list_any test h ≡ true →
    (c : List Event) × (e : Event) × (d : List Event) × (h ≡ c ++ e ∷ d) × (test e ≡ true)
split_any test [] some = absurd (false≢true some)
split_any test (e ∷ h) some = by_test (test e) refl some (split_any test h)
  where
    by_test : (b : Bool) → test e ≡ b → (b || list_any test h) ≡ true → (list_any test h ≡ true →
        (c : List Event) × (e : Event) × (d : List Event) × (h ≡ c ++ e ∷ d) × (test e ≡ true)) →
        (c : List Event) × (x : Event) × (d : List Event) × (e ∷ h ≡ c ++ x ∷ d) × (test x ≡ true)
    by_test true is some later = ([], e, h, refl, is)
    by_test false is some later =
        let more = later some in
        (e ∷ more.0, more.1, more.2, ap (λ (es : List Event). e ∷ es) more.3, more.4)

-- each event before a stamp is earlier
pub early_all : (limit : ℕ) (h c : List Event) (e : Event) (d : List Event) → earlier_than limit h ≡ c ++ e ∷ d →
    e.stamp < limit
early_all limit h c e d split =
    let here : slice_get (earlier_than limit h) (length c + 0) ≡ Some e =
    ap (λ (es : List Event). slice_get es (length c + 0)) split ∙ place_behind c (e ∷ d) 0 in
    let kept = kept_from (λ (e : Event). ltb e.stamp limit) h (length c + 0) e here in
    low e.stamp limit kept.2
  where
    low : (m n : ℕ) → ltb m n ≡ true → m < n
    low m n is = grind (arith, nat_tests)

pub partner : (S R : List Numbered) (l x : ℕ) (s : Numbered) → position (λ c. c.line == l) R ≡ Some x →
    slice_get S x ≡ Some s →
    option_and_then (slice_get S) (position (λ c. c.line == l) R) ≡ Some s
partner S R l x s place here = ap (λ (o : Option ℕ). option_and_then (slice_get S) o) place ∙ here

pub front_numbers : (ranks : ℕ) (h b rest : List Event) → h ≡ b ++ rest → Always (NumberAt ranks) h →
    Always (NumberAt ranks) b
unfolding AtEach
front_numbers ranks h b rest split each =
    after_prefix (λ before e. NumberAt ranks before e.what) [] b rest
    (subst (λ (k : List Event). AtEachAfter (λ before e. NumberAt ranks before e.what) [] k) split each)

pub front_ends : (h b rest : List Event) → h ≡ b ++ rest → AtEach (λ b e. EndAt b e.what) h →
    AtEach (λ b e. EndAt b e.what) b
unfolding AtEach
front_ends h b rest split each =
    after_prefix (λ b e. EndAt b e.what) [] b rest
    (subst (λ (k : List Event). AtEachAfter (λ b e. EndAt b e.what) [] k) split each)

pub front_plain : (h b rest : List Event) → h ≡ b ++ rest → ArePlainEvents h → ArePlainEvents b
front_plain h b rest split plain =
    (all_split _ b rest (subst (λ (k : List Event). ArePlainEvents k) split plain)).0

-- what is complete has its message
pub has_message : (h : List Event) (p : post.Post) (o : Option Pair) (m : Option Arrival) →
    o ≡ option_map (pair_of p) m →
    option_map_or (is_here h) o false ≡ true → (a : Arrival) × (m ≡ Some a)
has_message h p o None same here =
    absurd (false≢true (sym (ap (λ (o : Option Pair). option_map_or (is_here h) o false) same) ∙ here))
has_message h p o (Some a) same here = (a, refl)

pub received_complete : (b : Bool) (x : Bool) → b ≡ false → (b || x) ≡ true → x ≡ true
received_complete true x is some = absurd (false≢true (sym is))
received_complete false x is some = some

pub sent_complete : (b x y : Bool) → b ≡ false → cond b x y ≡ true → y ≡ true
sent_complete true x y is some = absurd (false≢true (sym is))
sent_complete false x y is some = some

abbrev pub is_posting : List Happened → Bool
is_posting (event.Post p line ∷ ws) = true
is_posting _ = false

-- a request with a result is complete
pub result_complete : (h : List Event) (r : Request) (a : Answer) → result_of h r ≡ Some a → is_complete h r ≡ true
result_complete h (Receiving number) a result = by_cancel (happened (is_cancel number) h) (pair_of_receive h number)
    result
  where
    by_cancel : (b : Bool) (o : Option Pair) → cond b (Some answer.Cancelled)
        (option_and_then (λ pair. cond (is_here h pair) (Some (shown pair)) None) o) ≡ Some a →
        (b || option_map_or (is_here h) o false) ≡ true
    by_cancel true o result = refl
    by_cancel false None result = absurd (no_some a result)
    by_cancel false (Some pair) result = by_here (is_here h pair) result
      where
        by_here : (c : Bool) → cond c (Some (shown pair)) None ≡ Some a → c ≡ true
        by_here true result = refl
        by_here false result = absurd (no_some a result)
result_complete h (Sending to n) a result = by_complete (is_complete h (Sending to n)) _ result
  where
    by_complete : (b : Bool) (x : Answer) → cond b (Some x) None ≡ Some a → b ≡ true
    by_complete true x result = refl
    by_complete false x result = absurd (no_some a result)
