-- The request of a line: its send or its receive, with its place among those of its channel.
use Rattle.std.proofs.Common.{◌≡◌, ℕ, ◌==◌, Bool, true, false, ◌&&◌, cond, zero, suc, Some, None, List, [], ◌∷◌}
use Rattle.std.proofs.Common.{length, map, refl, sym, ap, subst, arith}
use Rattle.std.specs.List.{cons_option, filter, filter_map, slice_get}
use Rattle.std.proofs.lemmas.Bool.{false≢true}
use Rattle.std.proofs.lemmas.Bool.Decides.{nat_tests}
use Rattle.nm_types.specs.declared.messages.Post as post
use Rattle.nm_types.specs.Commands.{Numbered}
use Rattle.nm_history.specs.declared.events.Event.{Event}
use Rattle.nm_history.specs.declared.events.Happened.{Happened}
use Rattle.nm_history.specs.declared.events.Happened.TheVariants as event
use Rattle.nm_history.specs.Answers.{request_at, request_of}
use Rattle.nm_history.specs.Completion.Request.{Sending, Receiving}
use Rattle.nm_history.specs.Sends.{Sent, post_of, posts, sends, sent_of}
use Rattle.nm_history.proofs.OnceLemmas.{eqb_self}
use Rattle.nm_match.specs.InTurn.{is_for}
use Rattle.nm_sure.proofs.Coupled.{channel_posts}
use Rattle.nm_sure.proofs.Fitting.{EachFits, Fits}
use Rattle.nm_sure.proofs.Gathered.{if_some, post_line, send_line}
use Rattle.nm_types.proofs.NumberLemmas.{same_number}
use Rattle.nm_types.proofs.OptionLemmas.{no_some}

-- the lines of a channel's receives, and of its sends
abbrev pub post_lines : List Event → ℕ → ℕ → ℕ → List ℕ
post_lines h from tag ctx = filter_map (λ e. post_line from tag ctx e.what) h

abbrev pub send_lines : List Event → ℕ → ℕ → ℕ → List ℕ
send_lines h to tag ctx = filter_map (λ e. send_line to tag ctx e.what) h

-- the sends of a channel
abbrev pub channel_sends : List Event → ℕ → ℕ → ℕ → List Sent
channel_sends h to tag ctx = filter (λ s. ctx == s.ctx && tag == s.tag) (sends h to)

-- there are as many receives as lines of them
posts_step : (from tag ctx : ℕ) (what : Happened) (ps : List post.Post) (ls : List ℕ) →
    length (filter (is_for from tag ctx) ps) ≡ length ls →
    length (filter (is_for from tag ctx) (cons_option (post_of what) ps)) ≡ length
    (cons_option (post_line from tag ctx what) ls)
posts_step from tag ctx (event.Post p line) ps ls later = by_test (is_for from tag ctx p)
  where
    by_test : (b : Bool) → length (cond b (p ∷ filter (is_for from tag ctx) ps) (filter (is_for from tag ctx) ps))
        ≡ length (cons_option (if_some b line) ls)
    by_test true = ap (λ (n : ℕ). suc n) later
    by_test false = later
posts_step from tag ctx what ps ls later = later

pub posts_counted : (h : List Event) (from tag ctx : ℕ) → length (channel_posts h from tag ctx) ≡ length
    (post_lines h from tag ctx)
posts_counted [] from tag ctx = refl
posts_counted (e ∷ h) from tag ctx =
    posts_step from tag ctx e.what (posts h) (post_lines h from tag ctx) (posts_counted h from tag ctx)

-- the lines of the sends of a channel
swapped : (a b c : Bool) → a ≡ true → (b && c) ≡ (b && a && c)
swapped true true c is = refl
swapped true false c is = refl
swapped false b c is = absurd (false≢true is)

never : (a b c : Bool) → a ≡ false → (b && a && c) ≡ false
never false true c is = refl
never false false c is = refl
never true b c is = absurd (false≢true (sym is))

turned : (a b : ℕ) (v : Bool) → (a == b) ≡ v → (b == a) ≡ v
turned a b true is = rw (same_number a b is) (eqb_self b)
turned a b false is = grind (arith, nat_tests)

sends_at : (to tag ctx : ℕ) (s : Sent) (ss : List Sent) (ls : List ℕ) (b : Bool) → (s.to == to) ≡ b →
    map (λ (s : Sent). s.line) (filter (λ s. ctx == s.ctx && tag == s.tag) ss) ≡ ls →
    map (λ (s : Sent). s.line) (filter (λ s. ctx == s.ctx && tag == s.tag) (cond b (s ∷ ss) ss))
    ≡ cons_option (if_some (ctx == s.ctx && to == s.to && tag == s.tag) s.line) ls
sends_at to tag ctx s ss ls true is later =
    subst (λ (b : Bool). map (λ (s : Sent). s.line) (filter (λ s. ctx == s.ctx && tag == s.tag) (s ∷ ss))
    ≡ cons_option (if_some b s.line) ls)
    (swapped (to == s.to) (ctx == s.ctx) (tag == s.tag) (turned s.to to true is))
    (by_test (ctx == s.ctx && tag == s.tag))
  where
    by_test : (b : Bool) → map (λ (s : Sent). s.line) (cond b (s ∷ filter (λ s. ctx == s.ctx && tag == s.tag) ss)
        (filter (λ s. ctx == s.ctx && tag == s.tag) ss)) ≡ cons_option (if_some b s.line) ls
    by_test true = ap (λ (xs : List ℕ). s.line ∷ xs) later
    by_test false = later
sends_at to tag ctx s ss ls false is later =
    rw (never (to == s.to) (ctx == s.ctx) (tag == s.tag) (turned s.to to false is)) later

sends_step : (to tag ctx stamp : ℕ) (what : Happened) (ss : List Sent) (ls : List ℕ) →
    map (λ (s : Sent). s.line) (filter (λ s. ctx == s.ctx && tag == s.tag) (filter (λ s. s.to == to) ss)) ≡ ls →
    map (λ (s : Sent). s.line)
    (filter (λ s. ctx == s.ctx && tag == s.tag) (filter (λ s. s.to == to) (cons_option (sent_of stamp what) ss)))
    ≡ cons_option (send_line to tag ctx what) ls
sends_step to tag ctx stamp (event.Send to' n t c len how line) ss ls later =
    sends_at to tag ctx (record { stamp = stamp; to = to'; n = n; tag = t; ctx = c; len = len; how = how; line = line })
    (filter (λ s. s.to == to) ss) ls (to' == to) refl later
sends_step to tag ctx stamp what ss ls later = later

pub sends_told_by_lines : (h : List Event) (to tag ctx : ℕ) →
    map (λ (s : Sent). s.line) (channel_sends h to tag ctx) ≡ send_lines h to tag ctx
sends_told_by_lines [] to tag ctx = refl
sends_told_by_lines (e ∷ h) to tag ctx =
    sends_step to tag ctx e.stamp e.what (filter_map (λ (e : Event). sent_of e.stamp e.what) h)
    (send_lines h to tag ctx)
    (sends_told_by_lines h to tag ctx)

-- a receive with its line and its place in its channel
pub record PostMade (eager : ℕ) (commands : List Numbered) (h : List Event) (l number : ℕ) : Type 0 where
  pub receive : post.Post
  pub numbered : receive.number ≡ number
  pub fits : Fits eager commands (event.Post receive l)
  pub place : (from tag ctx : ℕ) → is_for from tag ctx receive ≡ true →
      (k : ℕ) × (slice_get (channel_posts h from tag ctx) k ≡ Some receive)
      × (slice_get (post_lines h from tag ctx) k ≡ Some l)

-- a send with its line, and one of its rank
pub record SendMade (eager : ℕ) (commands : List Numbered) (h : List Event) (l to n : ℕ) : Type 0 where
  pub sent : Sent
  pub numbered : sent.n ≡ n
  pub line : sent.line ≡ l
  pub fits : Fits eager commands (event.Send to n sent.tag sent.ctx sent.len sent.how l)
  pub place : ℕ
  pub here : slice_get (sends h to) place ≡ Some sent

post_later : (eager : ℕ) (commands : List Numbered) (stamp : ℕ) (what : Happened) (h : List Event) (l number : ℕ) →
    PostMade eager commands h l number → PostMade eager commands (record { stamp = stamp; what = what } ∷ h) l number
post_later eager commands stamp (event.Post p line) h l number made = record {
  receive = made.receive;
  numbered = made.numbered;
  fits = made.fits;
  place = λ from tag ctx is. by_test from tag ctx (is_for from tag ctx p) (made.place from tag ctx is);
}
  where
    by_test : (from tag ctx : ℕ) (b : Bool) →
        ((k : ℕ) × (slice_get (channel_posts h from tag ctx) k ≡ Some made.receive)
        × (slice_get (post_lines h from tag ctx) k ≡ Some l)) →
        (k : ℕ) × (slice_get (cond b (p ∷ channel_posts h from tag ctx) (channel_posts h from tag ctx)) k
        ≡ Some made.receive)
        × (slice_get (cons_option (if_some b line) (post_lines h from tag ctx)) k ≡ Some l)
    by_test from tag ctx true found = (suc found.0, found.1, found.2)
    by_test from tag ctx false found = found
post_later eager commands stamp what h l number made = record {
  receive = made.receive;
  numbered = made.numbered;
  fits = made.fits;
  place = made.place;
}

post_now : (eager : ℕ) (commands : List Numbered) (stamp : ℕ) (p : post.Post) (line : ℕ) (h : List Event)
    (l number : ℕ) →
    Fits eager commands (event.Post p line) → line ≡ l → p.number ≡ number →
    PostMade eager commands (record { stamp = stamp; what = event.Post p line } ∷ h) l number
post_now eager commands stamp p line h l number fits same numbered = record {
  receive = p;
  numbered = numbered;
  fits = subst (λ (m : ℕ). Fits eager commands (event.Post p m)) same fits;
  place = λ from tag ctx is. by_test from tag ctx (is_for from tag ctx p) is;
}
  where
    by_test : (from tag ctx : ℕ) (b : Bool) → b ≡ true →
        (k : ℕ) × (slice_get (cond b (p ∷ channel_posts h from tag ctx) (channel_posts h from tag ctx)) k ≡ Some p)
        × (slice_get (cons_option (if_some b line) (post_lines h from tag ctx)) k ≡ Some l)
    by_test from tag ctx true is = (zero, refl, ap (λ (m : ℕ). Some m) same)
    by_test from tag ctx false is = absurd (false≢true is)

post_case : (eager : ℕ) (commands : List Numbered) (stamp : ℕ) (what : Happened) (h : List Event) (l number : ℕ) →
    Fits eager commands what →
    (slice_get (filter_map (λ (e : Event). request_of l e.what) h) 0 ≡ Some (Receiving number) →
    PostMade eager commands h l number) →
    slice_get (cons_option (request_of l what) (filter_map (λ (e : Event). request_of l e.what) h)) 0 ≡ Some
    (Receiving number) →
    PostMade eager commands (record { stamp = stamp; what = what } ∷ h) l number
post_case eager commands stamp (event.Post p line) h l number fits later found = by_line (line == l) refl found
  where
    by_line : (b : Bool) → (line == l) ≡ b → slice_get (cons_option (cond b (Some (Receiving p.number)) None)
        (filter_map (λ (e : Event). request_of l e.what) h)) 0 ≡ Some (Receiving number) →
        PostMade eager commands (record { stamp = stamp; what = event.Post p line } ∷ h) l number
    by_line true is found = post_now eager commands stamp p line h l number fits (same_number line l is) (cc)
    by_line false is found = post_later eager commands stamp (event.Post p line) h l number (later found)
post_case eager commands stamp (event.Send to n tag ctx len how line) h l number fits later found =
    by_line (line == l) found
  where
    by_line : (b : Bool) → slice_get (cons_option (cond b (Some (Sending to n)) None)
        (filter_map (λ (e : Event). request_of l e.what) h)) 0 ≡ Some (Receiving number) →
        PostMade eager commands (record { stamp = stamp; what = event.Send to n tag ctx len how line } ∷ h) l number
    by_line true found = absurd (grind arith)
    by_line false found = post_later eager commands stamp (event.Send to n tag ctx len how line) h l number
        (later found)
post_case eager commands stamp (event.Match number' from n cap line) h l number fits later found = absurd fits
post_case eager commands stamp what h l number fits later found =
    post_later eager commands stamp what h l number (later found)

pub post_made : (eager : ℕ) (commands : List Numbered) (h : List Event) (l number : ℕ) → EachFits eager commands h →
    request_at h l ≡ Some (Receiving number) → PostMade eager commands h l number
post_made eager commands [] l number fits found = absurd (no_some (Receiving number) found)
post_made eager commands (e ∷ h) l number fits found =
    post_case eager commands e.stamp e.what h l number fits.0 (post_made eager commands h l number fits.1) found

send_later : (eager : ℕ) (commands : List Numbered) (stamp : ℕ) (what : Happened) (h : List Event) (l to n : ℕ) →
    SendMade eager commands h l to n → SendMade eager commands (record { stamp = stamp; what = what } ∷ h) l to n
send_later eager commands stamp (event.Send to' n' tag ctx len how line) h l to n made = by_rank (to' == to) refl
  where
    by_rank : (b : Bool) → (to' == to) ≡ b →
        SendMade eager commands (record { stamp = stamp; what = event.Send to' n' tag ctx len how line } ∷ h) l to n
    by_rank true is = record {
      sent = made.sent;
      numbered = made.numbered;
      line = made.line;
      fits = made.fits;
      place = suc made.place;
      here = rw is made.here;
    }
    by_rank false is = record {
      sent = made.sent;
      numbered = made.numbered;
      line = made.line;
      fits = made.fits;
      place = made.place;
      here = rw is made.here;
    }
send_later eager commands stamp what h l to n made = record {
  sent = made.sent;
  numbered = made.numbered;
  line = made.line;
  fits = made.fits;
  place = made.place;
  here = made.here;
}

send_case : (eager : ℕ) (commands : List Numbered) (stamp : ℕ) (what : Happened) (h : List Event) (l to n : ℕ) →
    Fits eager commands what →
    (slice_get (filter_map (λ (e : Event). request_of l e.what) h) 0 ≡ Some (Sending to n) →
    SendMade eager commands h l to n) →
    slice_get (cons_option (request_of l what) (filter_map (λ (e : Event). request_of l e.what) h)) 0 ≡ Some
    (Sending to n) →
    SendMade eager commands (record { stamp = stamp; what = what } ∷ h) l to n
send_case eager commands stamp (event.Post p line) h l to n fits later found = by_line (line == l) found
  where
    by_line : (b : Bool) → slice_get (cons_option (cond b (Some (Receiving p.number)) None)
        (filter_map (λ (e : Event). request_of l e.what) h)) 0 ≡ Some (Sending to n) →
        SendMade eager commands (record { stamp = stamp; what = event.Post p line } ∷ h) l to n
    by_line true found = absurd (grind arith)
    by_line false found = send_later eager commands stamp (event.Post p line) h l to n (later found)
send_case eager commands stamp (event.Send to' n' tag ctx len how line) h l to n fits later found =
    by_line (line == l) refl found
  where
    by_line : (b : Bool) → (line == l) ≡ b → slice_get (cons_option (cond b (Some (Sending to' n')) None)
        (filter_map (λ (e : Event). request_of l e.what) h)) 0 ≡ Some (Sending to n) →
        SendMade eager commands (record { stamp = stamp; what = event.Send to' n' tag ctx len how line } ∷ h) l to n
    by_line true is found =
        let first : to' ≡ to = cc in
        let second : n' ≡ n = cc in
        record {
          sent = record { stamp = stamp; to = to'; n = n'; tag = tag; ctx = ctx; len = len; how = how; line = line };
          numbered = second;
          line = same_number line l is;
          fits = rw (← first, ← same_number line l is) fits;
          place = zero;
          here = rw (first, eqb_self to) refl;
        }
    by_line false is found = send_later eager commands stamp (event.Send to' n' tag ctx len how line) h l to n
        (later found)
send_case eager commands stamp (event.Match number' from n' cap line) h l to n fits later found = absurd fits
send_case eager commands stamp what h l to n fits later found =
    send_later eager commands stamp what h l to n (later found)

pub send_made : (eager : ℕ) (commands : List Numbered) (h : List Event) (l to n : ℕ) → EachFits eager commands h →
    request_at h l ≡ Some (Sending to n) → SendMade eager commands h l to n
send_made eager commands [] l to n fits found = absurd (no_some (Sending to n) found)
send_made eager commands (e ∷ h) l to n fits found =
    send_case eager commands e.stamp e.what h l to n fits.0 (send_made eager commands h l to n fits.1) found
