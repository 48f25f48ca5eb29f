-- One event of a history after another.
use Rattle.std.proofs.Common.{◌≡◌, ℕ, ◌+◌, ◌<◌, ◌≤◌, Bool, true, false, Option, Some, None, List, [], ◌∷◌, ◌++◌}
use Rattle.std.proofs.Common.{length, take, drop, get_or, refl, sym, ◌∙◌, ap, subst, arith}
use Rattle.std.specs.Prelude.{nat_lt}
use Rattle.std.specs.List.{slice_get}
use Rattle.std.proofs.Math.Seq.{get_or-append_seam}
use Rattle.std.proofs.lemmas.Bool.{le-ltb}
use Rattle.std.proofs.lemmas.Bool.Decides.{nat_tests}
use Rattle.std.proofs.lemmas.List.{get_or_append_left, length-append, length-take-le, take_all}
use Rattle.std.proofs.lemmas.Option.{get_or_from_slice_get, slice_get_past, slice_get_read, slice_get_within}
use Rattle.nm_types.specs.Commands.{commands_of}
use Rattle.nm_types.specs.declared.messages.Arrival.{Arrival}
use Rattle.nm_types.specs.declared.scripts.Line.{Line}
use Rattle.nm_history.specs.declared.events.Event.{Event}
use Rattle.nm_history.specs.declared.events.Happened.{Happened}
use Rattle.nm_history.specs.declared.events.Happened.TheVariants.{Send, Post, Arrive, Whole, Out, Cancel}
use Rattle.nm_history.specs.declared.events.Happened.TheVariants.{Recall, Withdraw, Undone, Claim, Match, Ran}
use Rattle.nm_history.specs.AtEach.{AtEach}
use Rattle.nm_history.specs.Matching.{matched_pairs, new_pair}
use Rattle.nm_history.specs.RankRun.{Always, NumberAt}
use Rattle.nm_history.specs.Sends.{arrivals, receives}
use Rattle.nm_history.proofs.AtEachLemmas.{AtEach-split}
use Rattle.nm_match.proofs.NumberLemmas.{messages_numbered, receives_numbered}
use Rattle.nm_lookups.specs.Looks.{look_of}
use Rattle.nm_match.specs.declared.deeds.Deed.{Deed}
use Rattle.nm_history.specs.declared.plain.Pair.{Pair}
use Rattle.nm_lookups.specs.declared.pairing.pairings.Pairing.{Pairing}
use Rattle.nm_lookups.specs.declared.pairing.pairings.Tables.{Tables}
use Rattle.nm_lookups.specs.declared.pairing.replays.Replay.{Replay}
use Rattle.nm_lookups.specs.Pairings.{ArePairTables, Tells}
use Rattle.nm_lookups.specs.Queues.{HasQueuesOf, IsFirstOfItsKind}
use Rattle.nm_lookups.specs.Replays.{Replays, IsNextReplay}
use Rattle.nm_lookups.proofs.PairingLemmas.{tables_stay}
use Rattle.nm_types.proofs.ListLemmas.{take_next, split_at}
use Rattle.nm_history.proofs.EachLemmas.{AtEach-prefix as front}

-- where events are numbered, the next one is new
new_event : (ranks : ℕ) (h : List Event) (what : Happened) → NumberAt ranks h what → Always (NumberAt ranks) h →
    IsFirstOfItsKind h what
new_event ranks h (Send to n tag ctx len how line) at numbers = tt
new_event ranks h (Post p line) at numbers =
    let above : length (receives h) ≤ p.number = omega (arith, at) in
    receives_numbered ranks h numbers p.number ∙ le-ltb _ _ above
new_event ranks h (Arrive a) at numbers =
    let is : a.n ≡ length (arrivals h a.env.from) = at.1 in
    let above : length (arrivals h a.env.from) ≤ a.n = omega (arith, is) in
    messages_numbered ranks h numbers a.env.from a.n ∙ le-ltb _ _ above
new_event ranks h (Whole from n) at numbers = tt
new_event ranks h (Out to n) at numbers = tt
new_event ranks h (Cancel number done) at numbers = tt
new_event ranks h (Recall to n) at numbers = tt
new_event ranks h (Withdraw from n done) at numbers = tt
new_event ranks h (Undone to n done) at numbers = tt
new_event ranks h (Claim from n line) at numbers = tt
new_event ranks h (Match number from n cap line) at numbers =
    let above : length (receives h) ≤ number = omega (arith, at) in
    receives_numbered ranks h numbers number ∙ le-ltb _ _ above
new_event ranks h (Ran line answer) at numbers = tt

-- each event of a history whose numbers are right is new
pub new_at : (ranks : ℕ) (h : List Event) (k : ℕ) (e : Event) → k < length h → e ≡ get_or h k e →
    Always (NumberAt ranks) h →
    IsFirstOfItsKind (take k h) e.what
new_at ranks h k e inside is numbers =
    let R : List Event → Event → Type 0 = λ before e. NumberAt ranks before e.what in
    let split : AtEach R (take k h ++ e ∷ drop (k + 1) h) =
    subst (λ (g : List Event). AtEach R g) (split_at h k e inside is) numbers in
    new_event ranks (take k h) e.what (AtEach-split R (take k h) e (drop (k + 1) h) split)
    (front R (take k h) (e ∷ drop (k + 1) h) split)

-- what was found at each of the first places
pub record AreLooksTo (rank : ℕ) (lines : List Line) (h : List Event) (k : ℕ)
    (looks : List (Option Arrival)) : Type 0 where
  pub counted : length looks ≡ k
  pub told : (j : ℕ) (e : Event) → j < k → slice_get h j ≡ Some e →
      slice_get looks j ≡ Some (look_of (commands_of rank lines) (take j h) e.what)

some_same : (x y : Event) → Some x ≡ Some y → x ≡ y
some_same x y same = cc

-- what is found at a place
abbrev look_at : ℕ → List Line → List Event → ℕ → Event → Option Arrival
look_at rank lines h k e = look_of (commands_of rank lines) (take k h) e.what

module _ (rank : ℕ) (lines : List Line) (h : List Event) where
  pub looks_none : AreLooksTo rank lines h 0 []
  looks_none = record {
    counted = refl;
    told = λ j e below is. absurd (omega (arith, below));
  }

  pub looks_more : (k : ℕ) (looks : List (Option Arrival)) (e : Event) → k < length h → e ≡ get_or h k e →
      AreLooksTo rank lines h k looks →
      AreLooksTo rank lines h (k + 1) (looks ++ look_of (commands_of rank lines) (take k h) e.what ∷ [])
  looks_more k looks e inside is are = record {
    counted = counted;
    told = λ j e' below here. by_place j e' below here (nat_lt j k) refl;
  }
    where
      counted : length (looks ++ (look_at rank lines h k e) ∷ []) ≡ k + 1
      counted = length-append looks ((look_at rank lines h k e) ∷ []) ∙ ap (λ n. n + 1) are.counted

      by_place : (j : ℕ) (e' : Event) → j < k + 1 → slice_get h j ≡ Some e' → (b : Bool) → nat_lt j k ≡ b →
          slice_get (looks ++ (look_at rank lines h k e) ∷ []) j
          ≡ Some (look_of (commands_of rank lines) (take j h) e'.what)
      by_place j e' below here true early =
          let within : j < k = grind (arith, nat_tests) in
          let x : Option Arrival = look_of (commands_of rank lines) (take j h) e'.what in
          slice_get_read (looks ++ (look_at rank lines h k e) ∷ []) (k + 1) j x (sym counted) below
          (sym (get_or_append_left looks ((look_at rank lines h k e) ∷ []) x j
          (subst (λ n. j < n) (sym are.counted) within)
          ∙ get_or_from_slice_get looks j x x (are.told j e' within here)))
      by_place j e' below here false late =
          let last : j ≡ k = grind (arith, nat_tests) in
          let read : slice_get h k ≡ Some e = slice_get_read h (length h) k e refl inside is in
          let same : e ≡ e' = some_same e e' (sym read ∙ subst (λ n. slice_get h n ≡ Some e') last here) in
          subst (λ n. slice_get (looks ++ (look_at rank lines h k e) ∷ []) n
          ≡ Some (look_of (commands_of rank lines) (take n h) e'.what)) (sym last)
          (subst (λ (x : Event). slice_get (looks ++ (look_at rank lines h k e) ∷ []) k
          ≡ Some (look_of (commands_of rank lines) (take k h) x.what)) same
          (slice_get_read (looks ++ (look_at rank lines h k e) ∷ []) (k + 1) k (look_at rank lines h k e) (sym counted)
          (omega arith)
          (sym (subst (λ n. get_or (looks ++ (look_at rank lines h k e) ∷ []) n (look_at rank lines h k e)
          ≡ (look_at rank lines h k e)) are.counted
          (get_or-append_seam looks (look_at rank lines h k e) [] (look_at rank lines h k e))))))

-- what was noted at a place, and that something was
pub look_noted : (looks noted : List (Option Arrival)) (k : ℕ) (x told : Option Arrival) → noted ≡ looks →
    x ≡ get_or noted k x → slice_get looks k ≡ Some told → x ≡ told
look_noted looks noted k x told same read is =
    read ∙ ap (λ (xs : List (Option Arrival)). get_or xs k x) same ∙ get_or_from_slice_get looks k told x is

pub look_missing : (looks noted : List (Option Arrival)) (k : ℕ) (told : Option Arrival) → noted ≡ looks →
    length noted ≤ k → slice_get looks k ≡ Some told → ⊥
look_missing looks noted k told same past is =
    let never : None ≡ Some told =
    sym (slice_get_past looks k (subst (λ (xs : List (Option Arrival)). length xs ≤ k) same past)) ∙ is in
    absurd (grind arith)

-- what is known of the first events of a history
pub record IsReplayed (rank : ℕ) (lines : List Line) (h : List Event) (k : ℕ) (replay : Replay) (tables : Tables)
    (looks : List (Option Arrival)) : Type 0 where
  pub followed : Replays (take k h) replay
  pub kept : ArePairTables (take k h) tables
  pub noted : AreLooksTo rank lines h k looks

module _ (rank : ℕ) (lines : List Line) (h : List Event) where
  -- of no event
  pub replayed_none : (replay : Replay) (tables : Tables) (looks : List (Option Arrival)) → Replays [] replay →
      ArePairTables [] tables → looks ≡ [] → IsReplayed rank lines h 0 replay tables looks
  replayed_none replay tables looks replays are none = record {
    followed = replays;
    kept = are;
    noted = subst (λ (xs : List (Option Arrival)). AreLooksTo rank lines h 0 xs) (sym none) (looks_none rank lines h);
  }

  module _ (k : ℕ) (e : Event) (inside : k < length h) (is : e ≡ get_or h k e) {replay : Replay} {tables : Tables}
      {looks : List (Option Arrival)} (known : IsReplayed rank lines h k replay tables looks) where
    -- of one event more
    pub replayed_more : (made : Option Pair) (found : Option Arrival) (replay' : Replay) (tables' : Tables)
        (looks' : List (Option Arrival)) → IsNextReplay (take k h) e made replay' →
        ArePairTables (take k h ++ e ∷ []) tables' → looks' ≡ looks ++ found ∷ [] →
        found ≡ look_at rank lines h k e → IsReplayed rank lines h (k + 1) replay' tables' looks'
    replayed_more made found replay' tables' looks' takes are pushed seen =
        let next : take k h ++ e ∷ [] ≡ take (k + 1) h = sym (take_next h k e inside is) in record {
          followed = subst (λ (g : List Event). Replays g replay') next takes.replays;
          kept = subst (λ (g : List Event). ArePairTables g tables') next are;
          noted = subst (λ (xs : List (Option Arrival)). AreLooksTo rank lines h (k + 1) xs)
              (sym (pushed ∙ ap (λ (o : Option Arrival). looks ++ o ∷ []) seen))
              (looks_more rank lines h k looks e inside is known.noted);
        }

    -- the tables of one event more, which makes no pair
    pub tables_none_more : (made : Option Pair) (replay' : Replay) → IsNextReplay (take k h) e made replay' → made ≡ None →
        ArePairTables (take k h ++ e ∷ []) tables
    tables_none_more made replay' takes none =
        tables_stay (take k h) e tables (sym none ∙ takes.made_is) known.kept

    -- the pair that it makes, and its place
    pub pair_made : (made : Option Pair) (replay' : Replay) → IsNextReplay (take k h) e made replay' → (pair : Pair) →
        made ≡ Some pair → Some pair ≡ new_pair (take k h) (matched_pairs (take k h)) e.what
    pair_made made replay' takes pair some = sym some ∙ takes.made_is

    pub pair_place : k ≡ length (take k h)
    pair_place = let below : k ≤ length h = omega arith in sym (length-take-le k h below)

  -- of the whole history
  pub replayed_all : (k : ℕ) (replay : Replay) (pairing : Pairing) → length h ≤ k →
      IsReplayed rank lines h k replay pairing.tables pairing.looks.items → replay.matcher ≡ pairing.matcher →
      Tells rank lines h pairing
  replayed_all k replay pairing past known same =
      let all : take k h ≡ h = take_all k h past in record {
        tables = subst (λ (g : List Event). ArePairTables g pairing.tables) all known.kept;
        looks = λ j e here. known.noted.told j e (omega (arith, past, slice_get_within h j e here)) here;
        queues = subst (λ (ds : List Deed). HasQueuesOf h ds) same
            (subst (λ (g : List Event). HasQueuesOf g replay.matcher) all known.followed.queues);
      }
