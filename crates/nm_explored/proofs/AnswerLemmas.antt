-- Each answer that may come next is one that the states give.
use Rattle.std.proofs.Common.{◌≡◌, ◌⊎◌, inl, inr, ℕ, ◌&&◌, not, Bool, true, false, cond, Option, Some, None, List, []}
use Rattle.std.proofs.Common.{◌∷◌, map, refl, sym, ◌∙◌, ap, subst, arith}
use Rattle.std.specs.Prelude.{if◌then◌else◌, IfSome, MatchOption, is_some, option_and_then, option_map}
use Rattle.std.specs.Prelude.{unwrap_or}
use Rattle.std.specs.List.{find}
use Rattle.std.specs.Option.{option_map_or}
use Rattle.nm_types.specs.declared.answers.Answer.{Answer}
use Rattle.nm_types.specs.declared.answers.Answer.TheVariants as answer
use Rattle.nm_types.specs.declared.messages.Arrival.{Arrival}
use Rattle.nm_types.specs.declared.messages.Peer.{Peer}
use Rattle.nm_types.specs.declared.messages.TagPick.{TagPick}
use Rattle.nm_types.specs.declared.scripts.Command.{Command}
use Rattle.nm_types.specs.declared.scripts.Command.TheVariants as command
use Rattle.nm_types.specs.declared.scripts.Line.{Line}
use Rattle.nm_types.specs.Commands.{Numbered, commands_of}
use Rattle.nm_types.specs.Sizes.{Sizes}
use Rattle.nm_history.specs.declared.events.Event.{Event}
use Rattle.nm_history.specs.declared.events.Happened.{Happened}
use Rattle.nm_history.specs.declared.events.Happened.TheVariants as event
use Rattle.nm_history.specs.declared.plain.Pair.{Pair}
use Rattle.nm_history.specs.Answers.{Message, answer_of, claim_at, is_seen, is_started, live, live_message, seen, without_bytes}
use Rattle.nm_history.specs.Completion.{Request, is_here, pair_of_receive, result_of, shown}
use Rattle.nm_history.specs.Completion.Request.{Receiving, Sending}
use Rattle.nm_history.specs.Happens.{happened, is_cancel}
use Rattle.nm_history.specs.RankRun.{CancelsFor, CancelsOf, cancels_since, claims_since, is_matched_probe, start_of}
use Rattle.nm_history.specs.RankRun.{starts_since, without_number}
use Rattle.nm_history.specs.Selection.{matches}
use Rattle.nm_history.specs.Sends.{message_of}
use Rattle.nm_match.specs.Deeds.{is_message}
use Rattle.nm_lookups.specs.Queues.{free_messages}
use Rattle.nm_types.proofs.OptionLemmas.{no_some, same_some}
use Rattle.nm_outcomes.specs.Logs.{Step, history_in}
use Rattle.nm_outcomes.specs.Moves.{AreBytesOf, MayAnswer, ShowsBytes, cancel_in, may_show, pair_in}
use Rattle.nm_outcomes.specs.declared.spots.deeds.Deed.{Deed}
use Rattle.nm_outcomes.specs.declared.spots.deeds.Deed.TheVariants as deed
use Rattle.nm_outcomes.specs.declared.spots.deeds.Reply.{Reply}
use Rattle.nm_outcomes.specs.declared.spots.deeds.Reply.TheVariants as reply
use Rattle.nm_outcomes.specs.Deeds.{happening}
use Rattle.nm_outcomes.specs.Looks.{IsSaid, claim_in, found_at, live_in, message_in}
use Rattle.nm_outcomes.specs.RankStates.{Spot}
use Rattle.nm_outcomes.proofs.SaidLemmas.{said}
use Rattle.nm_outcomes.proofs.SpotLemmas.{off_is}
use Rattle.nm_explored.specs.Successors.{answer_in, cancelled_at, is_idle_at, may_be_open, probed_at, received_at}
use Rattle.nm_explored.specs.Successors.{result_in, seen_at, started_at}
use Rattle.nm_explored.specs.Moves.{IsDeedOf}
use Rattle.nm_explored.specs.Settings.{IsAt}
use Rattle.nm_explored.proofs.PlacedLemmas.{arrival_said, found_said, paired_said, placed}
use Rattle.nm_explored.proofs.ResultLemmas.{Replies, plain_answer, replies_by, result_said}
use Rattle.nm_explored.proofs.SinceLemmas.{busy_cancel, busy_claim, busy_start, idle}

no_cancelled : answer.Cancelled ≡ answer.No → ⊥
no_cancelled is = cc

not_cancelled : (rest : Option Answer) (b : Bool) →
    unwrap_or (if b then Some answer.Cancelled else rest) answer.No ≡ answer.No → not b ≡ true
not_cancelled rest true is = absurd (no_cancelled is)
not_cancelled rest false is = refl

nothing_mapped : (ws : List Happened) → map without_number ws ≡ [] → ws ≡ []
nothing_mapped [] none = refl
nothing_mapped (w ∷ ws) none = absurd (grind arith)

one_mapped : (ws : List Happened) (x : Happened) → map without_number ws ≡ x ∷ [] →
    (y : Happened) × (ys : List Happened) × (ws ≡ y ∷ ys)
one_mapped [] x one = absurd (grind arith)
one_mapped (w ∷ ws) x one = (w, ws, refl)

module _ (shape : Sizes) (lines : List Line) (log : List Step) (v : ℕ → Option Spot) (i : ℕ) (spot : Spot)
    (at : IsAt shape lines log v i spot) where
  abbrev h : List Event
  h = history_in log i

  abbrev mine : List Numbered
  mine = commands_of i lines

  say : IsSaid lines h spot
  say = said lines h spot at.is

  -- what the rules say of an answer of the command of a line
  pub record Rules (line : ℕ) (c : Command) (a : Answer) : Type 0 where
    pub may : MayAnswer (placed lines log) i line c (without_bytes a)
    pub starts : map without_number (starts_since h)
        ≡ (if is_started a then start_of shape.eager mine h line c else [])
    pub cancels : CancelsFor mine h c
    pub claims : claims_since h ≡ (if is_matched_probe c && is_seen a then line ∷ [] else [])
    pub shows : ShowsBytes shape lines (placed lines log) i a c
    pub right : answer_of mine h line c ≡ Some (without_bytes a)

  -- the next command had nothing to do
  is_idle : {x : Bool} → x ≡ false → (ws : List Happened) →
      map without_number (starts_since h) ≡ (if x then ws else []) → cancels_since h ≡ [] → claims_since h ≡ [] →
      is_idle_at spot ≡ true
  is_idle {x} none ws starts cancels claims =
      idle lines h spot at.is (nothing_mapped (starts_since h) (starts ∙ ap (λ (b : Bool). if b then ws else []) none))
      cancels claims

  -- a start
  started : (q : ℕ) (a : Answer) (x : Happened) →
      Some (if is_some (live mine h q) then answer.Busy else answer.Started) ≡ Some (without_bytes a) →
      map without_number (starts_since h) ≡ (if is_started a then x ∷ [] else []) → cancels_since h ≡ [] →
      claims_since h ≡ [] → Replies lines (started_at (is_idle_at spot) (live_in lines i spot.deeds q)) a
  started q a x may starts cancels claims =
      replies_by lines _ _ a (ap (λ (o : Option Request). started_at (is_idle_at spot) o) (say.live i q))
      (by_live (live mine h q) may)
    where
      by_live : (o : Option Request) →
          Some (if is_some o then answer.Busy else answer.Started) ≡ Some (without_bytes a) →
          Replies lines (started_at (is_idle_at spot) o) a
      by_live (Some request) may =
          let busy : a ≡ answer.Busy = plain_answer a answer.Busy refl (same_some _ _ may) in (
            reply.Busy,
            ap (λ (b : Bool). started_at b (Some request))
                (is_idle (ap is_started busy) (x ∷ []) starts cancels claims),
            sym busy,
          )
      by_live None may =
          let begun : a ≡ answer.Started = plain_answer a answer.Started refl (same_some _ _ may) in
          let one = one_mapped (starts_since h) x
          (starts ∙ ap (λ (b : Bool). if b then x ∷ [] else []) (ap is_started begun)) in (
            reply.Started,
            ap (λ (b : Bool). started_at b None) (busy_start lines h spot at.is one.0 one.1 one.2),
            sym begun,
          )

  -- a matched receive
  received : (q m cap line : ℕ) (a : Answer) →
      Some (if is_some (live mine h q) then answer.Busy
      else if is_some (live_message mine h m) then answer.Started else answer.Null) ≡ Some (without_bytes a) →
      map without_number (starts_since h)
      ≡ (if is_started a
      then option_map_or (λ (x : Message). event.Match 0 x.from x.n cap line ∷ []) (live_message mine h m) []
      else []) → cancels_since h ≡ [] → claims_since h ≡ [] →
      Replies lines
      (received_at (is_idle_at spot) (live_in lines i spot.deeds q) (message_in lines i spot.deeds m)) a
  received q m cap line a may starts cancels claims =
      replies_by lines _ _ a
      (ap (λ (o : Option Request). received_at (is_idle_at spot) o (message_in lines i spot.deeds m)) (say.live i q)
      ∙ ap (λ (o : Option Message). received_at (is_idle_at spot) (live mine h q) o) (say.message i m))
      (by_live (live mine h q) (live_message mine h m) may starts)
    where
      by_live : (o : Option Request) (p : Option Message) →
          Some (if is_some o then answer.Busy else if is_some p then answer.Started else answer.Null)
          ≡ Some (without_bytes a) →
          map without_number (starts_since h)
          ≡ (if is_started a
          then option_map_or (λ (x : Message). event.Match 0 x.from x.n cap line ∷ []) p [] else []) →
          Replies lines (received_at (is_idle_at spot) o p) a
      by_live (Some request) p may starts =
          let busy : a ≡ answer.Busy = plain_answer a answer.Busy refl (same_some _ _ may) in (
            reply.Busy,
            ap (λ (b : Bool). received_at b (Some request) p) (is_idle (ap is_started busy) _ starts cancels claims),
            sym busy,
          )
      by_live None (Some message) may starts =
          let begun : a ≡ answer.Started = plain_answer a answer.Started refl (same_some _ _ may) in
          let one = one_mapped (starts_since h) (event.Match 0 message.from message.n cap line)
          (starts ∙ ap (λ (b : Bool). if b then event.Match 0 message.from message.n cap line ∷ [] else [])
          (ap is_started begun)) in (
            reply.Started,
            ap (λ (b : Bool). received_at b None (Some message)) (busy_start lines h spot at.is one.0 one.1 one.2),
            sym begun,
          )
      by_live None None may starts =
          let null : a ≡ answer.Null = plain_answer a answer.Null refl (same_some _ _ may) in (
            reply.Null,
            ap (λ (b : Bool). received_at b None None) (is_idle (ap is_started null) _ starts cancels claims),
            sym null,
          )

  -- a cancel
  cancelled : (q : ℕ) (a : Answer) →
      Some (option_map_or (cancel_in (placed lines log i)) (live mine h q) answer.Null) ≡ Some (without_bytes a) →
      starts_since h ≡ [] → CancelsOf h (live mine h q) → claims_since h ≡ [] →
      Replies lines (cancelled_at (is_idle_at spot) spot (live_in lines i spot.deeds q)) a
  cancelled q a may starts cancels claims =
      replies_by lines _ _ a (ap (λ (o : Option Request). cancelled_at (is_idle_at spot) spot o) (say.live i q))
      (by_live (live mine h q) may cancels)
    where
      by_paired : (number : ℕ) (b : Bool) → (if b then answer.Late else answer.Done) ≡ without_bytes a →
          Replies lines (Some (if b then reply.Late else reply.Done)) a
      by_paired number true may = (reply.Late, refl, sym (plain_answer a answer.Late refl may))
      by_paired number false may = (reply.Done, refl, sym (plain_answer a answer.Done refl may))

      by_live : (o : Option Request) →
          Some (option_map_or (cancel_in (placed lines log i)) o answer.Null) ≡ Some (without_bytes a) →
          CancelsOf h o → Replies lines (cancelled_at (is_idle_at spot) spot o) a
      by_live None may cancels = (
        reply.Null,
        ap (λ (b : Bool). cancelled_at b spot None) (idle lines h spot at.is starts cancels claims),
        sym (plain_answer a answer.Null refl (same_some _ _ may)),
      )
      by_live (Some (Receiving number)) may cancels =
          replies_by lines _ _ a
          (ap (λ (b : Bool). cancelled_at b spot (Some (Receiving number)))
          (busy_cancel lines h spot at.is _ [] cancels)
          ∙ ap (λ (b : Bool). Some (if b then reply.Late else reply.Done))
          (paired_said lines h spot at.is number))
          (by_paired number (is_some (pair_of_receive h number)) (same_some _ _ may))
      by_live (Some (Sending to n)) may cancels = (
        reply.Asked,
        ap (λ (b : Bool). if b then Some reply.Asked else None) (say.recalled to n ∙ cancels.0),
        sym (plain_answer a answer.Asked refl (same_some _ _ may)),
      )

  -- a probe, and an await
  probed : (from : Peer) (tag : TagPick) (ctx : ℕ) (a : Answer) →
      Some (option_map_or seen (find (λ x. matches from tag ctx x.env) (free_messages h)) answer.Nothing)
      ≡ Some (without_bytes a) →
      Replies lines (Some (option_map_or seen_at (found_at spot from tag ctx) reply.Nothing)) a
  probed from tag ctx a may =
      replies_by lines _ _ a
      (ap (λ (o : Option Arrival). Some (option_map_or seen_at o reply.Nothing))
      (found_said lines h spot at.is from tag ctx))
      (by_found (find (λ x. matches from tag ctx x.env) (free_messages h)) may)
    where
      by_found : (o : Option Arrival) → Some (option_map_or seen o answer.Nothing) ≡ Some (without_bytes a) →
          Replies lines (Some (option_map_or seen_at o reply.Nothing)) a
      by_found None may = (reply.Nothing, refl, sym (plain_answer a answer.Nothing refl (same_some _ _ may)))
      by_found (Some x) may = (seen_at x, refl, sym (plain_answer a (seen x) refl (same_some _ _ may)))

  awaited : (from : Peer) (tag : TagPick) (ctx : ℕ) (a : Answer) →
      option_map seen (find (λ x. matches from tag ctx x.env) (free_messages h)) ≡ Some (without_bytes a) →
      Replies lines (option_map seen_at (found_at spot from tag ctx)) a
  awaited from tag ctx a may =
      replies_by lines _ _ a
      (ap (λ (o : Option Arrival). option_map seen_at o) (found_said lines h spot at.is from tag ctx))
      (by_found (find (λ x. matches from tag ctx x.env) (free_messages h)) may)
    where
      by_found : (o : Option Arrival) → option_map seen o ≡ Some (without_bytes a) →
          Replies lines (option_map seen_at o) a
      by_found None may = absurd (no_some (without_bytes a) may)
      by_found (Some x) may = (seen_at x, refl, sym (plain_answer a (seen x) refl (same_some _ _ may)))

  -- a matched probe
  claimed : (m line : ℕ) (from : Peer) (tag : TagPick) (ctx : ℕ) (a : Answer) →
      (if is_some (live_message mine h m) then Some answer.Busy
      else option_map_or (λ x. Some (seen x))
      (option_and_then (λ (x : Message). message_of h x.from x.n) (claim_at h line))
      (if is_some (find (λ x. matches from tag ctx x.env) (free_messages h)) then None else Some answer.Nothing))
      ≡ Some (without_bytes a) →
      starts_since h ≡ [] → cancels_since h ≡ [] → claims_since h ≡ (if is_seen a then line ∷ [] else []) →
      Replies lines
      (probed_at (is_idle_at spot) spot line (found_at spot from tag ctx) (message_in lines i spot.deeds m)) a
  claimed m line from tag ctx a may starts cancels claims =
      replies_by lines _ _ a
      (ap (λ (o : Option Message). probed_at (is_idle_at spot) spot line (found_at spot from tag ctx) o)
      (say.message i m))
      (by_held (live_message mine h m) may)
    where
      now_idle : is_seen a ≡ false → is_idle_at spot ≡ true
      now_idle none =
          idle lines h spot at.is starts cancels
          (claims ∙ ap (λ (b : Bool). if b then line ∷ [] else []) none)

      by_free : (o : Option Arrival) → (if is_some o then None else Some answer.Nothing) ≡ Some (without_bytes a) →
          Replies lines (probed_at (is_idle_at spot) spot line o None) a
      by_free (Some x) may = absurd (no_some (without_bytes a) may)
      by_free None may =
          let none : a ≡ answer.Nothing = plain_answer a answer.Nothing refl (same_some _ _ may) in (
            reply.Nothing,
            ap (λ (b : Bool). probed_at b spot line None None) (now_idle (ap is_seen none)),
            sym none,
          )

      by_claim : (o : Option Arrival) →
          option_and_then (λ (x : Message). find (is_message x.from x.n) spot.came) (claim_in spot.deeds line) ≡ o →
          option_map_or (λ x. Some (seen x)) o
          (if is_some (find (λ x. matches from tag ctx x.env) (free_messages h)) then None
          else Some answer.Nothing) ≡ Some (without_bytes a) →
          Replies lines (probed_at (is_idle_at spot) spot line (found_at spot from tag ctx) None) a
      by_claim (Some x) came may =
          let shown : a ≡ seen x = plain_answer a (seen x) refl (same_some _ _ may) in (
            seen_at x,
            ap (λ (b : Bool). probed_at b spot line (found_at spot from tag ctx) None)
                (busy_claim lines h spot at.is line []
                (claims ∙ ap (λ (b : Bool). if b then line ∷ [] else []) (ap is_seen shown)))
                ∙ ap (λ (o : Option Arrival). option_map seen_at o) came,
            sym shown,
          )
      by_claim None came may =
          replies_by lines _ _ a
          (ap (λ (o : Option Arrival). probed_at (is_idle_at spot) spot line o None)
          (found_said lines h spot at.is from tag ctx))
          (by_free (find (λ x. matches from tag ctx x.env) (free_messages h)) may)

      by_held : (o : Option Message) →
          (if is_some o then Some answer.Busy
          else option_map_or (λ x. Some (seen x))
          (option_and_then (λ (x : Message). message_of h x.from x.n) (claim_at h line))
          (if is_some (find (λ x. matches from tag ctx x.env) (free_messages h)) then None
          else Some answer.Nothing)) ≡ Some (without_bytes a) →
          Replies lines (probed_at (is_idle_at spot) spot line (found_at spot from tag ctx) o) a
      by_held (Some held) may =
          let busy : a ≡ answer.Busy = plain_answer a answer.Busy refl (same_some _ _ may) in (
            reply.Busy,
            ap (λ (b : Bool). probed_at b spot line (found_at spot from tag ctx) (Some held))
                (now_idle (ap is_seen busy)),
            sym busy,
          )
      by_held None may =
          by_claim (option_and_then (λ (x : Message). message_of h x.from x.n) (claim_at h line))
          (arrival_said lines h spot at.is line) may

  -- a wait or a test of a request
  ended : (q : ℕ) (a : Answer) (o : Option Request) → live mine h q ≡ o →
      MatchOption o (without_bytes a ≡ answer.Null)
      (λ request. may_show (placed lines log) i request ≡ Some (without_bytes a)) →
      ((number : ℕ) → o ≡ Some (Receiving number) → (pair : Pair) → pair_of_receive h number ≡ Some pair →
      (body : List ℕ) → a ≡ answer.Got pair.arrival.env.from pair.arrival.env.tag body →
      AreBytesOf shape lines (placed lines log) i body pair) →
      Replies lines (option_map_or (result_in v i spot) o (Some reply.Null)) a
  ended q a None here may bytes = (reply.Null, refl, sym (plain_answer a answer.Null refl (sym may)))
  ended q a (Some request) here may bytes =
      result_said shape lines log v i spot at a request q here may
      (λ number is. bytes number (ap (λ (r : Request). Some r) is))

  -- the bytes that a wait or a test shows
  bytes_shown : (q : ℕ) (a : Answer) →
      ((source tag : ℕ) (body : List ℕ) → a ≡ answer.Got source tag body →
      IfSome (option_and_then (pair_in (placed lines log i)) (live mine h q))
      (AreBytesOf shape lines (placed lines log) i body)) →
      (o : Option Request) → live mine h q ≡ o → (number : ℕ) → o ≡ Some (Receiving number) → (pair : Pair) →
      pair_of_receive h number ≡ Some pair → (body : List ℕ) →
      a ≡ answer.Got pair.arrival.env.from pair.arrival.env.tag body →
      AreBytesOf shape lines (placed lines log) i body pair
  bytes_shown q a shows o here number is pair found body got =
      subst (λ (p : Option Pair). IfSome p (AreBytesOf shape lines (placed lines log) i body)) found
      (subst (λ (r : Option Request). IfSome (option_and_then (pair_in (placed lines log i)) r)
      (AreBytesOf shape lines (placed lines log) i body)) (here ∙ is)
      (shows pair.arrival.env.from pair.arrival.env.tag body got))

  shown_bytes : (c : Command) (a : Answer) → ShowsBytes shape lines (placed lines log) i a c →
      (source tag : ℕ) (body : List ℕ) → a ≡ answer.Got source tag body →
      ShowsBytes shape lines (placed lines log) i (answer.Got source tag body) c
  shown_bytes c a shows source tag body got =
      subst (λ (x : Answer). ShowsBytes shape lines (placed lines log) i x c) got shows

  -- an answer, as a deed
  abbrev pub Answered : ℕ → Command → Answer → Type 0
  Answered line c a =
      (d : Deed) × (happening lines d ≡ event.Ran line a) × IsDeedOf shape.eager lines v i spot line c d

  by_reply : (line : ℕ) (c : Command) (a : Answer) → Replies lines (answer_in v lines i spot line c) a →
      Answered line c a
  by_reply line c a found = (
    deed.Ran line found.0,
    ap (λ (x : Answer). event.Ran line x) found.2,
    inr (inl (ap (λ (o : Option Reply). option_map (λ r. deed.Ran line r) o) found.1)),
  )

  -- a receive of which a test says no was not cancelled
  open_still : (request : Request) → unwrap_or (result_of h request) answer.No ≡ answer.No →
      may_be_open spot request ≡ true
  open_still (Sending to n) says = refl
  open_still (Receiving number) says =
      ap not (off_is lines h spot at.is number)
      ∙ not_cancelled
      (option_and_then (λ pair. if is_here h pair then Some (shown pair) else None) (pair_of_receive h number))
      (happened (is_cancel number) h) says

  tested : (q line : ℕ) (a : Answer) (o : Option Request) → live mine h q ≡ o →
      option_map_or (λ request. unwrap_or (result_of h request) answer.No) o answer.Null ≡ without_bytes a →
      MatchOption o (without_bytes a ≡ answer.Null)
      (λ request. (without_bytes a ≡ answer.No)
      ⊎ (may_show (placed lines log) i request ≡ Some (without_bytes a))) →
      ((number : ℕ) → o ≡ Some (Receiving number) → (pair : Pair) → pair_of_receive h number ≡ Some pair →
      (body : List ℕ) → a ≡ answer.Got pair.arrival.env.from pair.arrival.env.tag body →
      AreBytesOf shape lines (placed lines log) i body pair) →
      Answered line (command.Test q) a
  tested q line a None here right may bytes =
      by_reply line (command.Test q) a
      (replies_by lines _ _ a
      (ap (λ (o : Option Request). option_map_or (result_in v i spot) o (Some reply.Null)) (say.live i q ∙ here))
      (ended q a None here may bytes))
  tested q line a (Some request) here right (inr may) bytes =
      by_reply line (command.Test q) a
      (replies_by lines _ _ a
      (ap (λ (o : Option Request). option_map_or (result_in v i spot) o (Some reply.Null)) (say.live i q ∙ here))
      (ended q a (Some request) here may bytes))
  tested q line a (Some request) here right (inl says) bytes = (
    deed.Ran line reply.No,
    ap (λ (x : Answer). event.Ran line x) (sym (plain_answer a answer.No refl (sym says))),
    inr (inr (ap (λ (b : Bool). if b then Some (deed.Ran line reply.No) else None)
        (ap (λ (o : Option Request). option_map_or (may_be_open spot) o false) (say.live i q ∙ here)
        ∙ open_still request (right ∙ says)))),
  )

  no_starts : (b : Bool) → map without_number (starts_since h) ≡ cond {A = List Happened} b [] [] →
      starts_since h ≡ []
  no_starts true starts = nothing_mapped (starts_since h) starts
  no_starts false starts = nothing_mapped (starts_since h) starts

  pub answered : (line : ℕ) (c : Command) (a : Answer) → Rules line c a → Answered line c a
  answered line (command.Send to q tag ctx sync body) a rules =
      by_reply line (command.Send to q tag ctx sync body) a
      (started q a _ rules.may rules.starts rules.cancels rules.claims)
  answered line (command.Recv q from tag ctx cap) a rules =
      by_reply line (command.Recv q from tag ctx cap) a
      (started q a _ rules.may rules.starts rules.cancels rules.claims)
  answered line (command.Wait q) a rules =
      by_reply line (command.Wait q) a
      (replies_by lines _ _ a
      (ap (λ (o : Option Request). option_map_or (result_in v i spot) o (Some reply.Null)) (say.live i q))
      (ended q a (live mine h q) refl rules.may
      (bytes_shown q a (shown_bytes (command.Wait q) a rules.shows) (live mine h q) refl)))
  answered line (command.Test q) a rules =
      tested q line a (live mine h q) refl (same_some _ _ rules.right) rules.may
      (bytes_shown q a (shown_bytes (command.Test q) a rules.shows) (live mine h q) refl)
  answered line (command.Probe from tag ctx) a rules =
      by_reply line (command.Probe from tag ctx) a (probed from tag ctx a rules.may)
  answered line (command.Await from tag ctx) a rules =
      by_reply line (command.Await from tag ctx) a (awaited from tag ctx a rules.may)
  answered line (command.Cancel q) a rules =
      by_reply line (command.Cancel q) a
      (cancelled q a rules.may (no_starts (is_started a) rules.starts) rules.cancels rules.claims)
  answered line (command.Mprobe m from tag ctx) a rules =
      by_reply line (command.Mprobe m from tag ctx) a
      (claimed m line from tag ctx a rules.may (no_starts (is_started a) rules.starts) rules.cancels rules.claims)
  answered line (command.Mrecv q m cap) a rules =
      by_reply line (command.Mrecv q m cap) a
      (received q m cap line a rules.may rules.starts rules.cancels rules.claims)
