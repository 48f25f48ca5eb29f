-- What one event more, and the pair that it makes, do to the queues.
use Rattle.std.proofs.Common.{◌≡◌, ℕ, ◌==◌, Bool, true, false, not, ◌&&◌, ◌||◌}
use Rattle.std.proofs.Common.{List, [], ◌∷◌, ◌++◌, refl, sym, ◌∙◌, ap}
use Rattle.std.specs.List.{All, filter, list_any, cons_option}
use Rattle.std.proofs.lemmas.Bool.{or_right}
use Rattle.std.proofs.lemmas.List.Elements.{All-nil, All-cons, All-weaker, filter-append, filter_agree}
use Rattle.std.proofs.lemmas.List.Folds.{list_any-append}
use Rattle.nm_types.specs.declared.messages.Arrival.{Arrival}
use Rattle.nm_types.specs.declared.messages.Post as post
use Rattle.nm_history.specs.declared.events.Event.{Event}
use Rattle.nm_history.specs.declared.events.Happened.{Happened}
use Rattle.nm_history.specs.declared.events.Happened.TheVariants.{Post, Match}
use Rattle.nm_history.specs.declared.plain.Pair.{Pair}
use Rattle.nm_history.specs.Sends.{messages, posts, receives, post_of, arrival_of, receive_of}
use Rattle.nm_history.specs.Happens.{happened, is_cancel, is_claim, is_withdraw}
use Rattle.nm_history.specs.Matching.{is_claimed, is_free, is_free_message, is_of_message, is_of_receive}
use Rattle.nm_history.specs.Matching.{is_open}
use Rattle.nm_history.proofs.OnceLemmas.{posts-push, receives-push, messages-push, eqb_self}
use Rattle.nm_match.specs.Deeds.{is_known_message, is_known_receive, is_message}
use Rattle.nm_match.proofs.ListLemmas.{filter-filter}
use Rattle.nm_history.proofs.AppendLemmas.{happened-push}

pub is_known_receive-push : (h : List Event) (e : Event) (number : ℕ) →
    is_known_receive (h ++ e ∷ []) number ≡ (is_known_receive h number || list_any (λ m. m == number)
    (cons_option (receive_of e.what) []))
unfolding is_known_receive
is_known_receive-push h e number =
    ap (λ (ms : List ℕ). list_any (λ m. m == number) ms) (receives-push h e)
    ∙ list_any-append (λ (m : ℕ). m == number) (receives h) (cons_option (receive_of e.what) [])

pub is_known_message-push : (h : List Event) (e : Event) (from n : ℕ) →
    is_known_message (h ++ e ∷ []) from n ≡ (is_known_message h from n || list_any (is_message from n)
    (cons_option (arrival_of e.what) []))
unfolding is_known_message
is_known_message-push h e from n =
    ap (λ (as' : List Arrival). list_any (is_message from n) as') (messages-push h e)
    ∙ list_any-append (is_message from n) (messages h) (cons_option (arrival_of e.what) [])

open_parts : (x y u v : Bool) → (not (x || y) && not (u || v)) ≡ ((not x && not u) && not (y || v))
open_parts true y u v = refl
open_parts false true true v = refl
open_parts false true false v = refl
open_parts false false true v = refl
open_parts false false false v = refl

free_parts : (x y p q u v : Bool) → (not (x || y) && not (p || q) && not (u || v))
    ≡ ((not x && not p && not u) && not (y || q || v))
free_parts true y p q u v = refl
free_parts false true true q u v = refl
free_parts false true false q true v = refl
free_parts false true false q false v = refl
free_parts false false true q u v = refl
free_parts false false false true true v = refl
free_parts false false false true false v = refl
free_parts false false false false true v = refl
free_parts false false false false false v = refl

-- the event cancels the receive, or one of these new pairs is of it
abbrev pub closes : Happened → List Pair → ℕ → Bool
closes what more number = list_any (is_of_receive number) more || is_cancel number what

-- the event claims or withdraws the message, or one of these new pairs is of it
abbrev pub takes : Happened → List Pair → ℕ → ℕ → Bool
takes what more from n = list_any
    (is_of_message from n) more || is_claim from n what || is_withdraw from n true what

pub is_open-push : (h : List Event) (e : Event) (found more : List Pair) (p : post.Post) →
    is_open (h ++ e ∷ []) (found ++ more) p ≡ (is_open h found p && not (closes e.what more p.number))
is_open-push h e found more p =
    rw (list_any-append (is_of_receive p.number) found more, happened-push (is_cancel p.number) h e)
    (open_parts (list_any (is_of_receive p.number) found) (list_any (is_of_receive p.number) more)
    (happened (is_cancel p.number) h) (is_cancel p.number e.what))

pub is_free-push : (h : List Event) (e : Event) (found more : List Pair) (a : Arrival) →
    is_free (h ++ e ∷ []) (found ++ more) a ≡ (is_free h found a && not (takes e.what more a.env.from a.n))
unfolding is_free_message
is_free-push h e found more a =
    rw (
      list_any-append (is_of_message a.env.from a.n) found more,
      happened-push (is_claim a.env.from a.n) h e,
      happened-push (is_withdraw a.env.from a.n true) h e,
    )
    (free_parts (list_any (is_of_message a.env.from a.n) found)
    (list_any (is_of_message a.env.from a.n) more) (happened (is_claim a.env.from a.n) h)
    (is_claim a.env.from a.n e.what) (happened (is_withdraw a.env.from a.n true) h)
    (is_withdraw a.env.from a.n true e.what))

pub is_claimed-push : (h : List Event) (e : Event) (found more : List Pair) (from n : ℕ) →
    is_claimed (h ++ e ∷ []) (found ++ more) from n
    ≡ ((happened (is_claim from n) h || is_claim from n e.what) && not
    (list_any (is_of_message from n) found || list_any (is_of_message from n) more))
is_claimed-push h e found more from n =
    rw (list_any-append (is_of_message from n) found more, happened-push (is_claim from n) h e) refl

-- the open receives after the event: those that it leaves open, and the one that it posts
pub open_receives-push : (h : List Event) (e : Event) (found more : List Pair) →
    filter (is_open (h ++ e ∷ []) (found ++ more)) (posts (h ++ e ∷ []))
    ≡ filter (λ p. not (closes e.what more p.number)) (filter (is_open h found) (posts h)) ++ filter
    (is_open (h ++ e ∷ []) (found ++ more)) (cons_option (post_of e.what) [])
open_receives-push h e found more =
    let new : List post.Post = cons_option (post_of e.what) [] in
    let now : post.Post → Bool = is_open (h ++ e ∷ []) (found ++ more) in
    ap (λ (ps : List post.Post). filter now ps) (posts-push h e)
    ∙ filter-append now (posts h) new
    ∙ ap (λ (ps : List post.Post). ps ++ filter now new)
    (filter_agree now (λ p. is_open h found p && not (closes e.what more p.number))
    (is_open-push h e found more) (posts h)
    ∙ sym (filter-filter (λ p. not (closes e.what more p.number)) (is_open h found) (posts h)))

-- the free messages after the event: those that it leaves free, and the one that came
pub free_messages-push : (h : List Event) (e : Event) (found more : List Pair) →
    filter (is_free (h ++ e ∷ []) (found ++ more)) (messages (h ++ e ∷ []))
    ≡ filter (λ a. not (takes e.what more a.env.from a.n)) (filter (is_free h found) (messages h)) ++ filter
    (is_free (h ++ e ∷ []) (found ++ more)) (cons_option (arrival_of e.what) [])
free_messages-push h e found more =
    let new : List Arrival = cons_option (arrival_of e.what) [] in
    let now : Arrival → Bool = is_free (h ++ e ∷ []) (found ++ more) in
    ap (λ (as' : List Arrival). filter now as') (messages-push h e)
    ∙ filter-append now (messages h) new
    ∙ ap (λ (as' : List Arrival). as' ++ filter now new)
    (filter_agree now (λ a. is_free h found a && not (takes e.what more a.env.from a.n))
    (is_free-push h e found more) (messages h)
    ∙ sym (filter-filter (λ a. not (takes e.what more a.env.from a.n)) (is_free h found) (messages h)))

known_at : (h : List Event) (what : Happened) → All (λ p. list_any (λ m. m == p.number) (receives h) ≡ true)
    (posts h) → All (λ p. list_any (λ m. m == p.number) (cons_option (receive_of what) (receives h)) ≡ true)
    (cons_option (post_of what) (posts h))
known_at h (Post p line) each =
    All-cons (λ q. (p.number == q.number || list_any (λ m. m == q.number) (receives h)) ≡ true) p (posts h)
    (rw (eqb_self p.number) refl)
    (All-weaker (λ q. list_any (λ m. m == q.number) (receives h) ≡ true)
    (λ q. (p.number == q.number || list_any (λ m. m == q.number) (receives h)) ≡ true)
    (λ q known. or_right (p.number == q.number) _ known) (posts h) each)
known_at h (Match number from n cap line) each =
    All-weaker (λ q. list_any (λ m. m == q.number) (receives h) ≡ true)
    (λ q. (number == q.number || list_any (λ m. m == q.number) (receives h)) ≡ true)
    (λ q known. or_right (number == q.number) _ known) (posts h) each
known_at h what each = each

-- each posted receive is known
pub posts_known : (h : List Event) → All (λ p. is_known_receive h p.number ≡ true) (posts h)
unfolding is_known_receive
posts_known [] = All-nil (λ p. is_known_receive [] p.number ≡ true)
posts_known (e ∷ h) = known_at h e.what (posts_known h)

each_named : (as' : List Arrival) → All (λ a. list_any (is_message a.env.from a.n) as' ≡ true) as'
each_named [] = All-nil (λ a. list_any (is_message a.env.from a.n) [] ≡ true)
each_named (a ∷ as') =
    All-cons (λ b. list_any (is_message b.env.from b.n) (a ∷ as') ≡ true) a as'
    (rw (eqb_self a.env.from, eqb_self a.n) refl)
    (All-weaker (λ b. list_any (is_message b.env.from b.n) as' ≡ true)
    (λ b. list_any (is_message b.env.from b.n) (a ∷ as') ≡ true)
    (λ b named. or_right (is_message b.env.from b.n a) _ named) as' (each_named as'))

-- each message is known
pub messages_known : (h : List Event) → All (λ a. is_known_message h a.env.from a.n ≡ true) (messages h)
unfolding is_known_message
messages_known h = each_named (messages h)
