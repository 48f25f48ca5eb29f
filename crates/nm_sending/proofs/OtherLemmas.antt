-- Events that are none of a rank's own messages.
use Rattle.std.proofs.Common.{◌≡◌, ℕ, ◌==◌, Bool, false, ◌&&◌, ◌||◌, None, List}
use Rattle.std.proofs.Common.{[], ◌∷◌, ◌++◌}
use Rattle.std.proofs.Common.{map, refl, sym, ◌∙◌, ap, subst, append-nil, append_assoc, true≢false}
use Rattle.std.specs.List.{AllByRecursion, list_any}
use Rattle.nm_history.specs.declared.events.Event.{Event}
use Rattle.nm_history.specs.declared.events.Happened.{Happened}
use Rattle.nm_history.specs.declared.events.Happened.TheVariants.{Send, Out, Recall, Undone}
use Rattle.nm_history.specs.Delivery.{is_asked}
use Rattle.nm_history.specs.Happens.{happened, is_send, is_out, is_recall, is_undone}
use Rattle.nm_history.specs.Sends.{Sent, sends, sent_of}
use Rattle.nm_history.proofs.Basic.{or_false}
use Rattle.nm_history.specs.Clearance.{left_of}
use Rattle.nm_sending.specs.Departures.{SendingView}
use Rattle.nm_sending.specs.Sent.{AreSent, is_of_sending}
use Rattle.nm_sending.proofs.EventLemmas.{sends-same, pushed_out-same}
use Rattle.nm_sending.proofs.LeavingLemmas.{turn-still}
use Rattle.nm_history.proofs.AppendLemmas.{happened-push}

-- what another event is none of
record IsOther (w : Happened) : Type 0 where
  quiet : (stamp : ℕ) → sent_of stamp w ≡ None
  left : (h : List Event) (t : ℕ) → left_of h t w ≡ None
  no_send : (t k : ℕ) → is_send t k w ≡ false
  no_out : (t k : ℕ) → is_out t k w ≡ false
  no_recall : (t k : ℕ) → is_recall t k w ≡ false
  no_answer : (t k : ℕ) (done : Bool) → is_undone t k done w ≡ false

others : (w : Happened) → is_of_sending w ≡ false → IsOther w
others (Send to n tag ctx len how line) is = absurd (true≢false is)
others (Out to n) is = absurd (true≢false is)
others (Recall to n) is = absurd (true≢false is)
others (Undone to n done) is = absurd (true≢false is)
others w is = record {
  quiet = λ stamp. refl;
  left = λ h t. refl;
  no_send = λ t k. refl;
  no_out = λ t k. refl;
  no_recall = λ t k. refl;
  no_answer = λ t k done. refl;
}

one_more : (v : SendingView) (h : List Event) (e : Event) → IsOther e.what → AreSent v h
    → AreSent v (h ++ e ∷ [])
one_more v h e other was = record {
  numbers = λ t. ap (λ (ss : List Sent). map (λ s. s.n) ss) (same t) ∙ was.numbers t;
  sent = λ t k. was.sent t k ∙ still (is_send t k) (other.no_send t k);
  asked = λ t k. was.asked t k ∙ ap (λ (ss : List Sent). is_asked ss k) (sym (same t));
  empty = λ t k. was.empty t k
      ∙ ap (λ (ss : List Sent). list_any (λ s. s.n == k && s.len == 0) ss) (sym (same t));
  out = λ t k. was.out t k ∙ still (is_out t k) (other.no_out t k);
  recalled = λ t k. was.recalled t k ∙ still (is_recall t k) (other.no_recall t k);
  undone = λ t k done. was.undone t k done ∙ still (is_undone t k done) (other.no_answer t k done);
  in_turn = turn-still v v h (h ++ e ∷ []) same was.in_turn refl
      (λ t. pushed_out-same h e t (same t) (other.left h t)) (λ t k. refl);
}
  where
    same : (t : ℕ) → sends (h ++ e ∷ []) t ≡ sends h t
    same t = sends-same h e t (other.quiet e.stamp)

    still : (test : Happened → Bool) → test e.what ≡ false → happened test h ≡ happened test (h ++ e ∷ [])
    still test off = sym (happened-push test h e ∙ ap (λ (b : Bool). happened test h || b) off
        ∙ or_false (happened test h))

pub others_stay : (v : SendingView) (h events : List Event)
    → AllByRecursion (λ e. is_of_sending e.what ≡ false) events
    → AreSent v h → AreSent v (h ++ events)
others_stay v h [] each was = subst (λ (k : List Event). AreSent v k) (sym (append-nil h)) was
others_stay v h (e ∷ events) each was =
    subst (λ (k : List Event). AreSent v k) (append_assoc h (e ∷ []) events)
    (others_stay v (h ++ e ∷ []) events each.1 (one_more v h e (others e.what each.0) was))
