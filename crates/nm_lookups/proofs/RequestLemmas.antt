-- The request that an event makes.
use Rattle.std.proofs.Common.{◌≡◌, ℕ, Bool, true, false, cond, Some, None, refl}
use Rattle.std.specs.Prelude.{IsTrue, is_some}
use Rattle.std.proofs.lemmas.Bool.{false≢true}
use Rattle.nm_types.specs.declared.messages.Post.{Post}
use Rattle.nm_types.specs.declared.messages.How.{How}
use Rattle.nm_history.specs.declared.events.Event.{Event}
use Rattle.nm_history.specs.declared.events.Happened.{Happened}
use Rattle.nm_history.specs.declared.events.Happened.TheVariants as happening
use Rattle.nm_history.specs.Answers.{message_claimed, request_of}

-- any event
pub an_event : Event
an_event = record { stamp = 0; what = happening.Out 0 0 }

-- what gives, gives its own
pub made_at : {Y : Type 0} (b : Bool) (r : Y) → IsTrue (is_some (cond b (Some r) None)) → Some r ≡ cond b (Some r) None
made_at b r some = by_test b some
  where
    by_test : (b : Bool) → IsTrue (is_some (cond b (Some r) None)) → Some r ≡ cond b (Some r) None
    by_test true some = refl
    by_test false some = absurd (false≢true some)

-- another event makes no request
pub none_made : (line : ℕ) (what : Happened) →
    ((to n tag ctx len : ℕ) (how : How) (line : ℕ) → what ≡ happening.Send to n tag ctx len how line → ⊥) →
    ((p : Post) (line : ℕ) → what ≡ happening.Post p line → ⊥) →
    ((number from n cap line : ℕ) → what ≡ happening.Match number from n cap line → ⊥) → None ≡ request_of line what
none_made line (happening.Send to n tag ctx len how l) s p m = absurd (s to n tag ctx len how l refl)
none_made line (happening.Post post l) s p m = absurd (p post l refl)
none_made line (happening.Match number from n cap l) s p m = absurd (m number from n cap l refl)
none_made line what s p m = refl

-- .. and claims nothing
pub none_claimed : (line : ℕ) (what : Happened) → ((from n line : ℕ) → what ≡ happening.Claim from n line → ⊥) →
    None ≡ message_claimed line what
none_claimed line (happening.Claim from n l) not = absurd (not from n l refl)
none_claimed line what not = refl
