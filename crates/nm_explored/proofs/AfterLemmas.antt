-- What a rank may do, it may do behind a message that went to a receive.
use Rattle.std.proofs.Common.{◌≡◌, inl, inr, ℕ, ◌≤◌, ◌==◌, ◌&&◌, ◌||◌, not, Bool, true, false, Option, Some, None, List, [], ◌∷◌}
use Rattle.std.proofs.Common.{refl, sym, ◌∙◌, ap, subst, arith}
use Rattle.std.specs.Prelude.{if◌then◌else◌, count_by, option_and_then, option_map}
use Rattle.std.specs.List.{find, list_any}
use Rattle.std.specs.Option.{option_map_or}
use Rattle.std.proofs.lemmas.Bool.{false≢true}
use Rattle.nm_types.specs.declared.messages.Arrival.{Arrival}
use Rattle.nm_types.specs.declared.messages.Peer.{Peer}
use Rattle.nm_types.specs.declared.messages.Peer.TheVariants as peer
use Rattle.nm_types.specs.declared.messages.TagPick.{TagPick}
use Rattle.nm_types.specs.declared.messages.TagPick.TheVariants as pick
use Rattle.nm_types.specs.declared.scripts.Command.{Command}
use Rattle.nm_types.specs.declared.scripts.Command.TheVariants as command
use Rattle.nm_types.specs.declared.scripts.Line.{Line}
use Rattle.nm_types.specs.Commands.{command_at, commands_of}
use Rattle.nm_history.specs.Completion.{Request}
use Rattle.nm_history.specs.Completion.Request.{Receiving, Sending}
use Rattle.nm_history.specs.Matching.{is_of_receive}
use Rattle.nm_history.specs.Selection.{matches}
use Rattle.nm_match.specs.Picks.{same_peer, same_tag}
use Rattle.nm_types.proofs.NumberLemmas.{same_number}
use Rattle.nm_types.proofs.OptionLemmas.{mapped_some, same_some}
use Rattle.nm_types.proofs.TruthLemmas.{both, not_true}
use Rattle.nm_outcomes.specs.Places.{or_else}
use Rattle.nm_outcomes.proofs.PlaceLemmas.{find-append}
use Rattle.nm_outcomes.specs.declared.spots.deeds.Deed.{Deed}
use Rattle.nm_outcomes.specs.declared.spots.deeds.Deed.TheVariants as deed
use Rattle.nm_outcomes.specs.declared.spots.deeds.Receive.{Receive}
use Rattle.nm_outcomes.specs.declared.spots.deeds.Reply.{Reply}
use Rattle.nm_outcomes.specs.declared.spots.deeds.Reply.TheVariants as reply
use Rattle.nm_outcomes.specs.Looks.{found_at, is_answer_by, is_receive_by, live_in}
use Rattle.nm_outcomes.specs.RankStates.{Spot, is_cancel_by, message_of_spot, receive_of_spot, spot_after}
use Rattle.nm_search.specs.Lists.{Has}
use Rattle.nm_explored.specs.Successors.{cancel_at, cancelled_at, is_idle_at, may_begin, result_in, seen_at}
use Rattle.nm_explored.specs.Lines.{line_in}
use Rattle.nm_explored.specs.Moves.{IsAct, IsDeedOf}
use Rattle.nm_explored.specs.Orderly.{IsOrderly, is_claiming, is_rare_by}
use Rattle.nm_explored.specs.Started.{IsSpared, IsStarted, any_of, may_cancel, posts_as}
use Rattle.nm_explored.proofs.BehindLemmas.{IsKept, still_to}
use Rattle.nm_explored.proofs.OrderlyLemmas.{IsNewDeed}
use Rattle.nm_explored.proofs.PostLemmas.{none_has, posts_found, posts_open, self_is}
use Rattle.nm_explored.proofs.SeenLemmas.{AreSeen, IsLater, wait_kept}
use Rattle.nm_explored.proofs.StartedLemmas.{HasBegun, begun, named_so, none_of_rank}

found_same : (x y : Spot) (from : Peer) (tag : TagPick) (ctx : ℕ) → y.free ≡ x.free →
    found_at y from tag ctx ≡ found_at x from tag ctx
unfolding found_at
found_same x y from tag ctx same = ap (λ (ms : List Arrival). find (λ a. matches from tag ctx a.env) ms) same

-- its next command does the same, or answers the same
pub act_behind : (eager : ℕ) (lines : List Line) (v w : ℕ → Option Spot) → AreSeen v w →
    (i : ℕ) (x y : Spot) → IsLater x y →
    y.free ≡ x.free → (d : Deed) → (act : IsAct eager lines v i x d) →
    ((q number : ℕ) → act.command ≡ command.Cancel q → live_in lines i x.deeds q ≡ Some (Receiving number) →
    list_any (is_of_receive number) y.pairs ≡ list_any (is_of_receive number) x.pairs) →
    is_claiming act.command ≡ false → IsAct eager lines w i y d
act_behind eager lines v w seen i x y later free d act pairs claims = record {
  line = act.line;
  command = act.command;
  place = ap (λ (ds : List Deed). line_in lines i (count_by is_answer_by ds)) later.deeds ∙ act.place;
  at = act.at;
  deed_of = subst (λ (ds : List Deed). IsDeedOf eager lines w i (record y { deeds = ds }) act.line act.command d)
      (sym later.deeds) (by_command act.command refl claims act.deed_of);
}
  where
    waits : (q : ℕ) →
        option_map (λ (r : Reply). deed.Ran act.line r)
        (option_map_or (result_in v i x) (live_in lines i x.deeds q) (Some reply.Null)) ≡ Some d →
        option_map (λ (r : Reply). deed.Ran act.line r)
        (option_map_or (result_in w i (record y { deeds = x.deeds })) (live_in lines i x.deeds q) (Some reply.Null))
        ≡ Some d
    waits q says =
        let r = mapped_some (λ (r : Reply). deed.Ran act.line r)
        (option_map_or (result_in v i x) (live_in lines i x.deeds q) (Some reply.Null)) d says in
        ap (λ (o : Option Reply). option_map (λ (r : Reply). deed.Ran act.line r) o)
        (wait_kept v w seen i lines x (record y { deeds = x.deeds }) (record { deeds = refl; pairs = later.pairs }) q
        r.0 r.1)
        ∙ ap (λ (e : Deed). Some e) r.2

    -- a cancel finds its receive paired as before
    same_cancel : (q : ℕ) → act.command ≡ command.Cancel q → (o : Option Request) → live_in lines i x.deeds q ≡ o →
        option_and_then (cancel_at (record y { deeds = x.deeds })) o ≡ option_and_then (cancel_at x) o
    same_cancel q is None lives = refl
    same_cancel q is (Some (Sending to n)) lives = refl
    same_cancel q is (Some (Receiving number)) lives =
        ap (λ (b : Bool). Some (deed.Cancel number (not b))) (pairs q number is lives)

    same_answer : (q : ℕ) → act.command ≡ command.Cancel q → (o : Option Request) → live_in lines i x.deeds q ≡ o →
        cancelled_at (is_idle_at x) (record y { deeds = x.deeds }) o ≡ cancelled_at (is_idle_at x) x o
    same_answer q is None lives = refl
    same_answer q is (Some (Sending to n)) lives = refl
    same_answer q is (Some (Receiving number)) lives =
        ap (λ (b : Bool). if is_idle_at x then None else Some (if b then reply.Late else reply.Done))
        (pairs q number is lives)

    by_command : (c : Command) → act.command ≡ c → is_claiming c ≡ false →
        IsDeedOf eager lines v i x act.line c d → IsDeedOf eager lines w i (record y { deeds = x.deeds }) act.line c d
    by_command (command.Send to q tag ctx sync body) is claims does = does
    by_command (command.Recv q from tag ctx cap) is claims does = does
    by_command (command.Wait q) is claims (inl begins) = inl begins
    by_command (command.Wait q) is claims (inr (inl says)) = inr (inl (waits q says))
    by_command (command.Wait q) is claims (inr (inr denies)) = inr (inr denies)
    by_command (command.Test q) is claims (inl begins) = inl begins
    by_command (command.Test q) is claims (inr (inl says)) = inr (inl (waits q says))
    by_command (command.Test q) is claims (inr (inr denies)) = inr (inr denies)
    by_command (command.Probe from tag ctx) is claims (inl begins) = inl begins
    by_command (command.Probe from tag ctx) is claims (inr (inl says)) =
        inr (inl (ap (λ (o : Option Arrival). Some (deed.Ran act.line (option_map_or seen_at o reply.Nothing)))
        (found_same x (record y { deeds = x.deeds }) from tag ctx free) ∙ says))
    by_command (command.Probe from tag ctx) is claims (inr (inr denies)) = inr (inr denies)
    by_command (command.Await from tag ctx) is claims (inl begins) = inl begins
    by_command (command.Await from tag ctx) is claims (inr (inl says)) =
        inr (inl (ap (λ (o : Option Arrival). option_map (λ (r : Reply). deed.Ran act.line r) (option_map seen_at o))
        (found_same x (record y { deeds = x.deeds }) from tag ctx free) ∙ says))
    by_command (command.Await from tag ctx) is claims (inr (inr denies)) = inr (inr denies)
    by_command (command.Cancel q) is claims (inl begins) =
        inl (
          begins.0,
          ap (λ (o : Option Deed). option_and_then (λ e. if may_begin x.deeds e then Some e else None) o)
              (same_cancel q is (live_in lines i x.deeds q) refl) ∙ begins.1,
        )
    by_command (command.Cancel q) is claims (inr (inl says)) =
        inr (inl (ap (λ (o : Option Reply). option_map (λ (r : Reply). deed.Ran act.line r) o)
        (same_answer q is (live_in lines i x.deeds q) refl) ∙ says))
    by_command (command.Cancel q) is claims (inr (inr denies)) = inr (inr denies)
    by_command (command.Mprobe m from tag ctx) is claims does = absurd (false≢true (sym claims))
    by_command (command.Mrecv q m cap) is claims does = absurd (false≢true (sym claims))

-- the oldest receive that selects a message is so behind a deed
pub receive_behind : (x : Spot) → IsOrderly x → (a : Arrival) (o : Receive) → receive_of_spot x a ≡ Some o →
    (d : Deed) → is_rare_by d ≡ false → IsNewDeed x d → IsKept x a d → receive_of_spot (spot_after x d) a ≡ Some o
receive_behind x is a o to (deed.Send p n tag ctx len how line) common number kept = to
receive_behind x is a o to (deed.Ran line r) common number kept = to
receive_behind x is a o to (deed.Post r line) common number kept = by_message (message_of_spot x r) refl
  where
    started : count_by is_receive_by x.deeds ≤ r.number
    started = omega (arith, number)

    by_message : (m : Option Arrival) → message_of_spot x r ≡ m →
        receive_of_spot (spot_after x (deed.Post r line)) a ≡ Some o
    by_message None none =
        ap (λ (y : Spot). receive_of_spot y a)
        (posts_open r line x none
        (ap (λ (b : Bool). b || list_any (is_cancel_by r.number) x.deeds) (is.paired r.number started)
        ∙ is.cancelled r.number started))
        ∙ find-append (λ (q : Receive). matches q.from q.tag q.ctx a.env) x.receives (r ∷ [])
        ∙ ap (λ (p : Option Receive). or_else p (find (λ (q : Receive). matches q.from q.tag q.ctx a.env) (r ∷ []))) to
    by_message (Some m) found = ap (λ (y : Spot). receive_of_spot y a) (posts_found r line x m found) ∙ to
receive_behind x is a o to (deed.Cancel number false) common number' kept = to
receive_behind x is a o to (deed.Cancel number true) common number' kept =
    still_to x a o to number
    (subst (λ (p : Receive). (number == p.number) ≡ false) (same_some kept.0 o (sym kept.1 ∙ to)) kept.2)
receive_behind x is a o to (deed.Match number from n cap line) common number' kept = absurd (false≢true (sym common))
receive_behind x is a o to (deed.Recall to' n) common number kept = absurd (false≢true (sym common))
receive_behind x is a o to (deed.Claim from n line) common number kept = absurd (false≢true (sym common))

-- a receive selects as itself
peer_self : (p : Peer) → same_peer p p ≡ true
peer_self peer.Any = refl
peer_self (peer.One a) = self_is a

tag_self : (p : TagPick) → same_tag p p ≡ true
tag_self pick.Any = refl
tag_self (pick.One a) = self_is a

-- A cancel of a rank is of another receive than an open one that no cancel may be of.
pub other_cancelled : (lines : List Line) (i : ℕ) (x : Spot) → IsOrderly x →
    ((d : Deed) → Has x.deeds d → IsStarted lines i d) → (o : Receive) → Has x.receives o → IsSpared lines i o →
    (line q : ℕ) → command_at (commands_of i lines) line ≡ Some (command.Cancel q) → (number : ℕ) →
    live_in lines i x.deeds q ≡ Some (Receiving number) → (number == o.number) ≡ false
other_cancelled lines i x is started o at spared line q cancels number lives =
    let s = begun lines i q x.deeds (Receiving number) lives in
    not_true (number == o.number) (by_deed s.0 s.1 (started s.0 s.1) s.2)
  where
    none : any_of lines i (posts_as q o) ≡ false
    none = none_of_rank lines i line (command.Cancel q) (may_cancel lines i o) spared cancels

    same_start : (p : Receive) (q' : ℕ) → (q' == q) ≡ true →
        posts_as q p (command.Recv q' p.from p.tag p.ctx p.cap) ≡ true
    same_start p q' is =
        both (q' == q) (p.ctx == p.ctx && (same_peer p.from p.from && same_tag p.tag p.tag)) is
        (both (p.ctx == p.ctx) (same_peer p.from p.from && same_tag p.tag p.tag) (self_is p.ctx)
        (both (same_peer p.from p.from) (same_tag p.tag p.tag) (peer_self p.from) (tag_self p.tag)))

    by_deed : (d : Deed) → Has x.deeds d → IsStarted lines i d → HasBegun lines i q (Receiving number) d →
        (number == o.number) ≡ true → ⊥
    by_deed (deed.Post p own) there (q', begins) s so =
        let e : Receiving p.number ≡ Receiving number = s.0 in
        let numbers : p.number ≡ number = cc in
        let same = is.same p o own there at (numbers ∙ same_number number o.number so) in
        false≢true
        (sym (none_of_rank lines i own (command.Recv q' p.from p.tag p.ctx p.cap) (posts_as q p)
        (subst (λ (r : Receive). any_of lines i (posts_as q r) ≡ false) (sym same) none) begins)
        ∙ same_start p q' (named_so lines i q own (command.Recv q' p.from p.tag p.ctx p.cap) begins s.1))
    by_deed (deed.Match n from m cap own) there begins s so =
        false≢true (sym (none_has is_rare_by x.deeds (deed.Match n from m cap own) is.common there))
    by_deed (deed.Send to n tag ctx len how own) there begins s so =
        let e : Sending to n ≡ Receiving number = s.0 in cc
    by_deed (deed.Cancel n done) there begins s so = s
    by_deed (deed.Recall to n) there begins s so = s
    by_deed (deed.Claim from n own) there begins s so = s
    by_deed (deed.Ran own p) there begins s so = s
