-- Every sign that stands in a picture is one of the legend's.
use Rattle.std.proofs.Common.{◌≡◌, ℕ, ◌+◌, zero, suc, Bool, true, false, cond, ◌&&◌, List, [], ◌∷◌, refl, sym}
use Rattle.std.proofs.Common.{ap, ◌∙◌, subst, arith, flat_map, take, Option, Some, None}
use Rattle.std.specs.List.{AllByRecursion, Contains, filter, list_any, slice_get}
use Rattle.std.specs.Option.{is_some}
use Rattle.std.proofs.lemmas.Bool.{or_left, or_right}
use Rattle.nm_types.specs.declared.messages.Arrival.{Arrival}
use Rattle.nm_types.specs.declared.messages.How.{How}
use Rattle.nm_types.specs.declared.messages.How.TheVariants.{Eager, Ask}
use Rattle.nm_history.specs.declared.events.Event.{Event}
use Rattle.nm_history.specs.declared.events.Happened.{Happened}
use Rattle.nm_history.specs.declared.events.Happened.TheVariants.{Send, Post, Arrive, Whole, Out}
use Rattle.nm_history.specs.declared.events.Happened.TheVariants.{Cancel, Recall, Withdraw}
use Rattle.nm_history.specs.declared.events.Happened.TheVariants.{Undone, Claim, Match, Ran}
use Rattle.nm_history.specs.declared.plain.Pair.{Pair}
use Rattle.nm_history.specs.Matching.{matched_pairs}
use Rattle.nm_report.specs.declared.accounts.RankAccount.{RankAccount}
use Rattle.nm_diagram.specs.declared.frames.Span.{Span}
use Rattle.nm_diagram.specs.declared.signs.Sign.{Sign}
use Rattle.nm_diagram.specs.declared.signs.Sign.TheVariants as sign
use Rattle.nm_diagram.specs.declared.anchors.Anchor.TheVariants as anchor
use Rattle.nm_diagram.specs.declared.arrows.Arrow.{Arrow}
use Rattle.nm_diagram.specs.declared.links.Link.{Link}
use Rattle.nm_diagram.specs.Anchors.{first_stamp, found_by, is_anchor}
use Rattle.nm_diagram.specs.Diagrams.{all_arrows, all_marks, arrow_from, arrow_of, arrows_at, from_lane, mark_of}
use Rattle.nm_diagram.specs.Diagrams.{marks_at, sent_by, sign_of}
use Rattle.nm_diagram.specs.declared.returns.Return.{Return}
use Rattle.nm_diagram.specs.declared.rings.Ring.{Ring}
use Rattle.nm_diagram.specs.Left.{all_rings, are_few, has_left, is_left_at, ring_of, rings_among, rings_at}
use Rattle.nm_diagram.specs.Left.{rings_of, some_left}
use Rattle.nm_diagram.specs.Links.{all_links, link_from, link_of, links_of}
use Rattle.nm_diagram.specs.Returns.{all_returns, return_from, return_of, returns_at}
use Rattle.nm_diagram.specs.Frames.{IsIn, is_shown}
use Rattle.nm_diagram.specs.Legend.{has_sign, is_told, is_used, legend_of}
use Rattle.nm_diagram.specs.Signs.{all_signs, is_ask, is_eager, is_of_left, is_waits, tells, way_of}
use Rattle.nm_diagram.proofs.ArrowLemmas.{found_at, here, there}
use Rattle.nm_diagram.proofs.FrameLemmas.{in-shown}
use Rattle.nm_types.proofs.ListLemmas.{all_append as both}

-- what passes stays
kept_here : {X : Type 0} (test : X → Bool) (x : X) (xs : List X) (b : Bool) → b ≡ true →
    Contains (cond b (x ∷ filter test xs) (filter test xs)) x
kept_here test x xs true passes = here x (filter test xs)
kept_here test x xs false passes = absurd cc

kept_there : {X : Type 0} (test : X → Bool) (x y : X) (xs : List X) (b : Bool) → Contains (filter test xs) y →
    Contains (cond b (x ∷ filter test xs) (filter test xs)) y
kept_there test x y xs true c = there x y (filter test xs) c
kept_there test x y xs false c = c

pub kept : {X : Type 0} (test : X → Bool) (xs : List X) (y : X) → Contains xs y → test y ≡ true →
    Contains (filter test xs) y
kept test [] y (i, below, at) passes = absurd (omega (arith, below))
kept test (x ∷ xs) y (zero, below, at) passes =
    subst (λ z. Contains (cond (test x) (x ∷ filter test xs) (filter test xs)) z) at
    (kept_here test x xs (test x) (ap test at ∙ passes))
kept test (x ∷ xs) y (suc i, below, at) passes =
    kept_there test x y xs (test x) (kept test xs y (i, omega (arith, below), at) passes)

-- what one passes, some pass
any_passes : {X : Type 0} (test : X → Bool) (xs : List X) (y : X) → Contains xs y → test y ≡ true →
    list_any test xs ≡ true
any_passes test [] y (i, below, at) passes = absurd (omega (arith, below))
any_passes test (x ∷ xs) y (zero, below, at) passes = or_left (test x) (list_any test xs) (ap test at ∙ passes)
any_passes test (x ∷ xs) y (suc i, below, at) passes =
    or_right (test x) (list_any test xs) (any_passes test xs y (i, omega (arith, below), at) passes)

-- each sign is in the list of all
sign-listed : (s : Sign) → Contains all_signs s
sign-listed sign.Send = (0, omega arith, refl)
sign-listed sign.Ask = (1, omega arith, refl)
sign-listed sign.Post = (2, omega arith, refl)
sign-listed sign.Arrive = (3, omega arith, refl)
sign-listed sign.Whole = (4, omega arith, refl)
sign-listed sign.Out = (5, omega arith, refl)
sign-listed sign.Cancel = (6, omega arith, refl)
sign-listed sign.Recall = (7, omega arith, refl)
sign-listed sign.Withdraw = (8, omega arith, refl)
sign-listed sign.Undone = (9, omega arith, refl)
sign-listed sign.Claim = (10, omega arith, refl)
sign-listed sign.Match = (11, omega arith, refl)
sign-listed sign.Ran = (12, omega arith, refl)
sign-listed sign.Waits = (13, omega arith, refl)
sign-listed sign.EagerWay = (14, omega arith, refl)
sign-listed sign.AskWay = (15, omega arith, refl)
sign-listed sign.BackWay = (16, omega arith, refl)
sign-listed sign.Taken = (17, omega arith, refl)
sign-listed sign.Left = (18, omega arith, refl)

-- an event is told by its own sign
own_sign : (w : Happened) → tells (sign_of w) w ≡ true
own_sign (Send to n tag ctx len Eager line) = refl
own_sign (Send to n tag ctx len Ask line) = refl
own_sign (Post post line) = refl
own_sign (Arrive a) = refl
own_sign (Whole from n) = refl
own_sign (Out to n) = refl
own_sign (Cancel number done) = refl
own_sign (Recall to n) = refl
own_sign (Withdraw from n done) = refl
own_sign (Undone to n done) = refl
own_sign (Claim from n line) = refl
own_sign (Match number from n cap line) = refl
own_sign (Ran line answer) = refl

-- a sign that tells an event which is shown stands in the legend
pub told-explained : (span : Span) (ranks : List RankAccount) (s : Sign) (account : RankAccount) (e : Event) →
    Contains ranks account → Contains account.history.events e → is_shown span e ≡ true → tells s e.what ≡ true →
    Contains (legend_of span ranks) s
told-explained span ranks s account e among within shown told =
    let both_pass : (is_shown span e && tells s e.what) ≡ true =
    ap (λ b. b && tells s e.what) shown ∙ told in
    let of_rank = or_right (is_waits s && is_some account.waits) (list_any (is_told span s) account.history.events)
    (any_passes (is_told span s) account.history.events e within both_pass) in
    kept (is_used span ranks) all_signs s (sign-listed s)
    (or_right (is_of_left s && list_any (has_left span) ranks) (list_any (has_sign span s) ranks)
    (any_passes (has_sign span s) ranks account among of_rank))

pub sign-explained : (span : Span) (ranks : List RankAccount) (account : RankAccount) (e : Event) →
    Contains ranks account → Contains account.history.events e → is_shown span e ≡ true →
    Contains (legend_of span ranks) (sign_of e.what)
sign-explained span ranks account e among within shown =
    told-explained span ranks (sign_of e.what) account e among within shown (own_sign e.what)

some_waits : (waits : Option ℕ) → ¬ (waits ≡ None) → is_some waits ≡ true
some_waits None some = absurd (some refl)
some_waits (Some line) some = refl

pub waits-explained : (span : Span) (ranks : List RankAccount) (account : RankAccount) → Contains ranks account →
    ¬ (account.waits ≡ None) → Contains (legend_of span ranks) sign.Waits
waits-explained span ranks account among waits =
    let of_rank = or_left (is_some account.waits) (list_any (is_told span sign.Waits) account.history.events)
    (some_waits account.waits waits) in
    kept (is_used span ranks) all_signs sign.Waits (sign-listed sign.Waits)
    (or_right (is_of_left sign.Waits && list_any (has_left span) ranks) (list_any (has_sign span sign.Waits) ranks)
    (any_passes (has_sign span sign.Waits) ranks account among of_rank))

-- what holds of all that each event has, holds of all that some ranks have
of_events : {X : Type 0} (P : X → Type 0) (has : Event → List X) (account : RankAccount) (events : List Event) →
    ((e : Event) → Contains account.history.events e → AllByRecursion P (has e)) →
    ((e : Event) → Contains events e → Contains account.history.events e) → AllByRecursion P (flat_map has events)
of_events P has account [] each within = tt
of_events P has account (e ∷ events) each within =
    both P (has e) (flat_map has events) (each e (within e (here e events)))
    (of_events P has account events each (λ x c. within x (there e x events c)))

of_ranks : {X : Type 0} (P : X → Type 0) (has : ℕ → Event → List X) (rank : ℕ) (ranks accounts : List RankAccount) →
    ((rank : ℕ) (account : RankAccount) (e : Event) → Contains ranks account → Contains account.history.events e →
    AllByRecursion P (has rank e)) → ((x : RankAccount) → Contains accounts x → Contains ranks x) →
    AllByRecursion P (from_lane (λ rank account. flat_map (has rank) account.history.events) rank accounts)
of_ranks P has rank ranks [] each into = tt
of_ranks P has rank ranks (account ∷ accounts) each into =
    let among = into account (here account accounts) in
    both P (flat_map (has rank) account.history.events)
    (from_lane (λ rank account. flat_map (has rank) account.history.events) (rank + 1) accounts)
    (of_events P (has rank) account account.history.events (λ e c. each rank account e among c) (λ e c. c))
    (of_ranks P has (rank + 1) ranks accounts each (λ x c. into x (there account x accounts c)))

-- marks
one_mark : (span : Span) (rank : ℕ) (ranks : List RankAccount) (account : RankAccount) (e : Event) →
    Contains ranks account →
    Contains account.history.events e → (b : Bool) → is_shown span e ≡ b →
    AllByRecursion (λ mark. Contains (legend_of span ranks) mark.sign) (cond b (mark_of rank e ∷ []) [])
one_mark span rank ranks account e among within true shown =
    (sign-explained span ranks account e among within shown, tt)
one_mark span rank ranks account e among within false shown = tt

pub marks-explained : (span : Span) (ranks : List RankAccount) →
    AllByRecursion (λ mark. Contains (legend_of span ranks) mark.sign) (all_marks span ranks)
marks-explained span ranks =
    of_ranks (λ mark. Contains (legend_of span ranks) mark.sign) (marks_at span) 0 ranks ranks
    (λ rank account e among within. one_mark span rank ranks account e among within (is_shown span e) refl) (λ x c. c)

-- arrows
way_told : (a : Arrival) (how : How) → a.env.how ≡ how → tells (way_of how) (Arrive a) ≡ true
way_told a Eager is = ap is_eager is
way_told a Ask is = ap is_ask is

abbrev HasWay : Span → List RankAccount → Arrow → Type 0
HasWay span ranks arrow = Contains (legend_of span ranks) (way_of arrow.how)

way_of_arrow : (span : Span) (rank stamp : ℕ) (ranks : List RankAccount) (a : Arrival) (sent : Option ℕ) →
    Contains (legend_of span ranks) (way_of a.env.how) →
    AllByRecursion (HasWay span ranks) (arrow_from a.env.from rank stamp a.n a.env.how sent)
way_of_arrow span rank stamp ranks a None way = tt
way_of_arrow span rank stamp ranks a (Some s) way = (way, tt)

arrow_by_what : (span : Span) (rank : ℕ) (ranks : List RankAccount) (account : RankAccount) (e : Event) (w : Happened) →
    e.what ≡ w → Contains ranks account → Contains account.history.events e → is_shown span e ≡ true →
    AllByRecursion (HasWay span ranks) (arrow_of span ranks rank e.stamp w)
arrow_by_what span rank ranks account e (Arrive a) is among within shown =
    way_of_arrow span rank e.stamp ranks a (sent_by span rank a.n (slice_get ranks a.env.from))
    (told-explained span ranks (way_of a.env.how) account e among within shown
    (subst (λ w. tells (way_of a.env.how) w ≡ true) (sym is) (way_told a a.env.how refl)))
arrow_by_what span rank ranks account e _ is among within shown = tt

one_arrow : (span : Span) (rank : ℕ) (ranks : List RankAccount) (account : RankAccount) (e : Event) →
    Contains ranks account →
    Contains account.history.events e → (b : Bool) → is_shown span e ≡ b →
    AllByRecursion (HasWay span ranks) (cond b (arrow_of span ranks rank e.stamp e.what) [])
one_arrow span rank ranks account e among within true shown =
    arrow_by_what span rank ranks account e e.what refl among within shown
one_arrow span rank ranks account e among within false shown = tt

pub arrows-explained : (span : Span) (ranks : List RankAccount) →
    AllByRecursion (λ arrow. Contains (legend_of span ranks) (way_of arrow.how)) (all_arrows span ranks)
arrows-explained span ranks =
    of_ranks (HasWay span ranks) (arrows_at span ranks) 0 ranks ranks
    (λ rank account e among within. one_arrow span rank ranks account e among within (is_shown span e) refl) (λ x c. c)

-- the ways of withdrawals
abbrev HasBack : Span → List RankAccount → Return → Type 0
HasBack span ranks way = Contains (legend_of span ranks) sign.BackWay

back_of_way : (span : Span) (from rank stamp n : ℕ) (ranks : List RankAccount) (left : Option ℕ) →
    Contains (legend_of span ranks) sign.BackWay →
    AllByRecursion (HasBack span ranks) (return_from from rank stamp n left)
back_of_way span from rank stamp n ranks None way = tt
back_of_way span from rank stamp n ranks (Some s) way = (way, tt)

return_by_what : (span : Span) (rank : ℕ) (ranks : List RankAccount) (account : RankAccount) (e : Event)
    (w : Happened) →
    e.what ≡ w → Contains ranks account → Contains account.history.events e → is_shown span e ≡ true →
    AllByRecursion (HasBack span ranks) (return_of span ranks rank e.stamp w)
return_by_what span rank ranks account e (Withdraw from n done) is among within shown =
    back_of_way span from rank e.stamp n ranks (found_by span (anchor.Recall rank n) (slice_get ranks from))
    (told-explained span ranks sign.BackWay account e among within shown (ap (λ w. tells sign.BackWay w) is))
return_by_what span rank ranks account e (Undone to n done) is among within shown =
    back_of_way span to rank e.stamp n ranks (found_by span (anchor.Withdraw rank n) (slice_get ranks to))
    (told-explained span ranks sign.BackWay account e among within shown (ap (λ w. tells sign.BackWay w) is))
return_by_what span rank ranks account e _ is among within shown = tt

one_return : (span : Span) (rank : ℕ) (ranks : List RankAccount) (account : RankAccount) (e : Event) →
    Contains ranks account →
    Contains account.history.events e → (b : Bool) → is_shown span e ≡ b →
    AllByRecursion (HasBack span ranks) (cond b (return_of span ranks rank e.stamp e.what) [])
one_return span rank ranks account e among within true shown =
    return_by_what span rank ranks account e e.what refl among within shown
one_return span rank ranks account e among within false shown = tt

pub returns-explained : (span : Span) (ranks : List RankAccount) →
    AllByRecursion (λ way. Contains (legend_of span ranks) sign.BackWay) (all_returns span ranks)
returns-explained span ranks =
    of_ranks (HasBack span ranks) (returns_at span ranks) 0 ranks ranks
    (λ rank account e among within. one_return span rank ranks account e among within (is_shown span e) refl) (λ x c. c)

-- rings
abbrev HasRing : Span → List RankAccount → Ring → Type 0
HasRing span ranks ring = Contains (legend_of span ranks) sign.Left

left_explained : (span : Span) (ranks : List RankAccount) (account : RankAccount) → Contains ranks account →
    has_left span account ≡ true → Contains (legend_of span ranks) sign.Left
left_explained span ranks account among left =
    kept (is_used span ranks) all_signs sign.Left (sign-listed sign.Left)
    (or_left (list_any (has_left span) ranks) (list_any (has_sign span sign.Left) ranks)
    (any_passes (has_left span) ranks account among left))

rings_by : (span : Span) (rank stamp : ℕ) (ranks : List RankAccount) (w : Happened) →
    Contains (legend_of span ranks) sign.Left →
    AllByRecursion (HasRing span ranks) (ring_of rank stamp w)
rings_by span rank stamp ranks (Arrive a) left = (left, tt)
rings_by span rank stamp ranks _ left = tt

one_ring : (span : Span) (rank : ℕ) (ranks : List RankAccount) (account : RankAccount) (e : Event) →
    Contains ranks account →
    are_few account.history.events ≡ true → Contains account.history.events e → (b : Bool) →
    is_left_at span account.history.events (matched_pairs account.history.events) e ≡ b →
    AllByRecursion (HasRing span ranks) (cond b (ring_of rank e.stamp e.what) [])
one_ring span rank ranks account e among few within false left = tt
one_ring span rank ranks account e among few within true left =
    let events = account.history.events in
    let test : Event → Bool = is_left_at span events (matched_pairs events) in
    rings_by span rank e.stamp ranks e.what (left_explained span ranks account among
    (ap (λ b. cond b (some_left span events) false) few ∙ any_passes test events e within left))

few_rings : (span : Span) (rank : ℕ) (ranks : List RankAccount) (account : RankAccount) → Contains ranks account →
    (b : Bool) →
    are_few account.history.events ≡ b →
    AllByRecursion (HasRing span ranks) (cond b (rings_among span rank account.history.events) [])
few_rings span rank ranks account among false few = tt
few_rings span rank ranks account among true few =
    let events = account.history.events in
    of_events (HasRing span ranks) (rings_at span rank events (matched_pairs events)) account events
    (λ e within. one_ring span rank ranks account e among few within
    (is_left_at span events (matched_pairs events) e) refl)
    (λ e c. c)

rings_of_ranks : (span : Span) (rank : ℕ) (ranks accounts : List RankAccount) →
    ((x : RankAccount) → Contains accounts x → Contains ranks x) →
    AllByRecursion (HasRing span ranks) (from_lane (rings_of span) rank accounts)
rings_of_ranks span rank ranks [] into = tt
rings_of_ranks span rank ranks (account ∷ accounts) into =
    both (HasRing span ranks) (rings_of span rank account) (from_lane (rings_of span) (rank + 1) accounts)
    (few_rings span rank ranks account (into account (here account accounts)) (are_few account.history.events) refl)
    (rings_of_ranks span (rank + 1) ranks accounts (λ x c. into x (there account x accounts c)))

pub rings-explained : (span : Span) (ranks : List RankAccount) →
    AllByRecursion (λ ring. Contains (legend_of span ranks) sign.Left) (all_rings span ranks)
rings-explained span ranks = rings_of_ranks span 0 ranks ranks (λ x c. c)

-- links
abbrev IsTold : Span → List RankAccount → Link → Type 0
IsTold span ranks link = Contains (legend_of span ranks) sign.Taken

receive_told : (number : ℕ) (w : Happened) → is_anchor (anchor.Receive number) w ≡ true → tells sign.Taken w ≡ true
receive_told number (Post post line) is = refl
receive_told number (Match n from m cap line) is = refl
receive_told number (Send to n tag ctx len how line) is = absurd cc
receive_told number (Arrive a) is = absurd cc
receive_told number (Whole from n) is = absurd cc
receive_told number (Out to n) is = absurd cc
receive_told number (Cancel n done) is = absurd cc
receive_told number (Recall to n) is = absurd cc
receive_told number (Withdraw from n done) is = absurd cc
receive_told number (Undone to n done) is = absurd cc
receive_told number (Claim from n line) is = absurd cc
receive_told number (Ran line answer) is = absurd cc

link_told : (span : Span) (rank : ℕ) (ranks : List RankAccount) (account : RankAccount) (pair : Pair) →
    Contains ranks account → (r a : Option ℕ) →
    first_stamp span (anchor.Receive pair.number) (take 4096 account.history.events) ≡ r →
    AllByRecursion (IsTold span ranks) (link_from rank pair r a)
link_told span rank ranks account pair among None a found = tt
link_told span rank ranks account pair among (Some r) None found = tt
link_told span rank ranks account pair among (Some r) (Some a) found =
    let it = found_at span r (anchor.Receive pair.number) account.history.events 4096 found in
    let shown : is_shown span it.event ≡ true =
    in-shown span it.event (subst (λ n. IsIn span n) (sym it.at) it.shown) in (
      told-explained span ranks sign.Taken account it.event among it.among shown
          (receive_told pair.number it.event.what it.is_it),
      tt,
    )

links_of_pairs : (span : Span) (rank : ℕ) (ranks : List RankAccount) (account : RankAccount) (pairs : List Pair) →
    Contains ranks account →
    AllByRecursion (IsTold span ranks) (flat_map (link_of span rank (take 4096 account.history.events)) pairs)
links_of_pairs span rank ranks account [] among = tt
links_of_pairs span rank ranks account (pair ∷ pairs) among =
    let events = take 4096 account.history.events in
    both (IsTold span ranks) (link_of span rank events pair) (flat_map (link_of span rank events) pairs)
    (link_told span rank ranks account pair among (first_stamp span (anchor.Receive pair.number) events)
    (first_stamp span (anchor.Arrival pair.arrival.env.from pair.arrival.n) events) refl)
    (links_of_pairs span rank ranks account pairs among)

links_of_ranks : (span : Span) (rank : ℕ) (ranks accounts : List RankAccount) →
    ((x : RankAccount) → Contains accounts x → Contains ranks x) →
    AllByRecursion (IsTold span ranks) (from_lane (links_of span) rank accounts)
links_of_ranks span rank ranks [] into = tt
links_of_ranks span rank ranks (account ∷ accounts) into =
    both (IsTold span ranks) (links_of span rank account) (from_lane (links_of span) (rank + 1) accounts)
    (links_of_pairs span rank ranks account (matched_pairs (take 4096 account.history.events))
    (into account (here account accounts)))
    (links_of_ranks span (rank + 1) ranks accounts (λ x c. into x (there account x accounts c)))

pub links-explained : (span : Span) (ranks : List RankAccount) →
    AllByRecursion (λ link. Contains (legend_of span ranks) sign.Taken) (all_links span ranks)
links-explained span ranks = links_of_ranks span 0 ranks ranks (λ x c. c)

-- and the legend has no other sign
next_used : (test : Sign → Bool) (s : Sign) (b : Bool) (others : List Sign) → test s ≡ b →
    AllByRecursion (λ s. test s ≡ true) others → AllByRecursion (λ s. test s ≡ true) (cond b (s ∷ others) others)
next_used test s true others is rest = (is, rest)
next_used test s false others is rest = rest

pub only-used : (test : Sign → Bool) (signs : List Sign) → AllByRecursion (λ s. test s ≡ true) (filter test signs)
only-used test [] = tt
only-used test (s ∷ signs) = next_used test s (test s) (filter test signs) refl (only-used test signs)
