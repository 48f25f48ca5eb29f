-- The messages that were sent by asking.
use Rattle.std.proofs.Common.{◌≡◌, ℕ, ◌==◌, Bool, true, false, ◌&&◌, ◌||◌, cond, List, [], ◌∷◌, refl, ap}
use Rattle.std.specs.List.{list_any, filter, filter_map, cons_option}
use Rattle.nm_history.specs.declared.events.Event.{Event}
use Rattle.nm_history.specs.declared.events.Happened.{Happened}
use Rattle.nm_history.specs.declared.events.Happened.TheVariants.{Send}
use Rattle.nm_history.specs.Delivery.{is_asked}
use Rattle.nm_history.specs.Happens.{happened, is_asked_send}
use Rattle.nm_history.specs.Sends.{sends, sent_of, is_ask}

-- a message was sent by asking exactly where there is such a send
pub asked_sends : (h : List Event) (to n : ℕ) → is_asked (sends h to) n ≡ happened (is_asked_send to n) h
asked_sends [] to n = refl
asked_sends (e ∷ h) to n = by_what e.what (asked_sends h to n) where
  by_what : (w : Happened) → is_asked (sends h to) n ≡ happened (is_asked_send to n) h →
      is_asked (filter (λ s. s.to == to) (cons_option (sent_of e.stamp w) (filter_map (λ e. sent_of e.stamp e.what) h)))
      n ≡ (is_asked_send to n w || happened (is_asked_send to n) h)
  by_what (Send to' n' tag ctx len how line) same = by_to (to' == to) same where
    by_to : (b : Bool) → is_asked (sends h to) n ≡ happened (is_asked_send to n) h →
        list_any (λ s. s.n == n && is_ask s.how)
        (cond b (record {
          stamp = e.stamp;
          to = to';
          n = n';
          tag = tag;
          ctx = ctx;
          len = len;
          how = how;
          line =
              line;
        } ∷ sends h to) (sends h to)) ≡ ((b && n' == n && is_ask how) || happened (is_asked_send to n) h)
    by_to true same = ap (λ (b : Bool). (n' == n && is_ask how) || b) same
    by_to false same = same
  by_what w same = same
