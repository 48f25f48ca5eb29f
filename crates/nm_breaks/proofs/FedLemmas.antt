-- Texts in which each line has its line feed.
use Rattle.std.proofs.Common.{◌≡◌, ℕ, ◌+◌, ◌≤◌, ◌==◌, Bool, true, false, cond, Option, Some, None}
use Rattle.std.proofs.Common.{List, [], ◌∷◌, ◌++◌, length, refl, sym, ◌∙◌, ap, subst, arith, append_assoc, length-append}
use Rattle.std.specs.Prelude.{codes, decimal, filter, flat_map}
use Rattle.std.specs.List.{join_with_byte, onto_first}
use Rattle.std.proofs.lemmas.List.Concat.{flat_map-cons}
use Rattle.std.proofs.lemmas.List.Elements.{filter-append}
use Rattle.nm_types.specs.declared.answers.Answer.{Answer}
use Rattle.nm_types.specs.declared.answers.Answer.TheVariants as answer
use Rattle.nm_history.specs.declared.events.Event.{Event}
use Rattle.nm_history.specs.declared.events.Happened.{Happened}
use Rattle.nm_history.specs.declared.events.Happened.TheVariants.{Ran}
use Rattle.nm_report.specs.declared.accounts.RankAccount.{RankAccount}
use Rattle.nm_report.specs.declared.pairs.PairCount.{PairCount}
use Rattle.nm_report.specs.declared.records.RunRecord.{RunRecord}
use Rattle.nm_report.specs.Answers.{answer_words, body_word}
use Rattle.nm_report.specs.Events.{event_line, event_lines, event_words, pair_line}
use Rattle.nm_report.specs.Layout.{by_rank, from_rank}
use Rattle.nm_report.specs.Report.{answer_line, answer_lines, ran_line, trace_text, waits_line}
use Rattle.nm_script.specs.Lines.{lines_of}
use Rattle.nm_breaks.specs.Stops.{lines_in}

-- its lines stand before those of what follows, and there are as many as line feeds
pub record Feeds (xs : List ℕ) : Type 0 where
  pub split : (ys : List ℕ) → lines_of (xs ++ ys) ≡ lines_of xs ++ lines_of ys
  pub many : length (lines_of xs) ≡ lines_in xs

-- the line feeds of two texts
lines_in_both : (xs ys : List ℕ) → lines_in (xs ++ ys) ≡ lines_in xs + lines_in ys
lines_in_both xs ys =
    ap length (filter-append (λ b. b == 10) xs ys)
    ∙ length-append (filter (λ b. b == 10) xs) (filter (λ b. b == 10) ys)

pub feeds_none : Feeds []
feeds_none = record { split = λ ys. refl; many = refl }

-- one behind another
pub feeds_both : (xs ys : List ℕ) → Feeds xs → Feeds ys → Feeds (xs ++ ys)
feeds_both xs ys first second = record {
  split = λ zs.
      ap lines_of (append_assoc xs ys zs) ∙ first.split (ys ++ zs)
      ∙ ap (λ (ls : List (List ℕ)). lines_of xs ++ ls) (second.split zs)
      ∙ sym (append_assoc (lines_of xs) (lines_of ys) (lines_of zs))
      ∙ ap (λ (ls : List (List ℕ)). ls ++ lines_of zs) (sym (first.split ys));
  many =
      let split : length (lines_of (xs ++ ys)) ≡ length (lines_of xs) + length (lines_of ys) =
      ap length (first.split ys) ∙ length-append (lines_of xs) (lines_of ys) in
      omega (arith, split, first.many, second.many, lines_in_both xs ys);
}

onto_both : (b : ℕ) (ls ms : List (List ℕ)) → 1 ≤ length ls → onto_first b (ls ++ ms) ≡ onto_first b ls ++ ms
onto_both b [] ms some = absurd (omega (arith, some))
onto_both b (l ∷ ls) ms some = refl

onto_length : (b : ℕ) (ls : List (List ℕ)) → 1 ≤ length ls → length (onto_first b ls) ≡ length ls
onto_length b [] some = absurd (omega (arith, some))
onto_length b (l ∷ ls) some = refl

-- one byte more at the front, which is a line feed or none
split_more : (feed : Bool) (b : ℕ) (all ls ms : List (List ℕ)) → 1 ≤ length ls → all ≡ ls ++ ms →
    cond feed ([] ∷ all) (onto_first b all) ≡ cond feed ([] ∷ ls) (onto_first b ls) ++ ms
split_more true b all ls ms some is = ap (λ (xs : List (List ℕ)). [] ∷ xs) is
split_more false b all ls ms some is = ap (onto_first b) is ∙ onto_both b ls ms some

many_more : (feed : Bool) (b : ℕ) (ls : List (List ℕ)) (feeds : List ℕ) → 1 ≤ length ls → length ls ≡ length feeds →
    length (cond feed ([] ∷ ls) (onto_first b ls)) ≡ length (cond feed (b ∷ feeds) feeds)
many_more true b ls feeds some is = omega (arith, is)
many_more false b ls feeds some is = onto_length b ls some ∙ is

some_more : (feed : Bool) (b : ℕ) (ls : List (List ℕ)) → 1 ≤ length ls →
    1 ≤ length (cond feed ([] ∷ ls) (onto_first b ls))
some_more true b ls some = omega arith
some_more false b ls some = let same = onto_length b ls some in omega (arith, same, some)

some_line : (zs : List ℕ) → 1 ≤ length (lines_of (zs ++ 10 ∷ []))
some_line [] = omega arith
some_line (b ∷ zs) = some_more (b == 10) b (lines_of (zs ++ 10 ∷ [])) (some_line zs)

split_fed : (zs ys : List ℕ) → lines_of ((zs ++ 10 ∷ []) ++ ys) ≡ lines_of (zs ++ 10 ∷ []) ++ lines_of ys
split_fed [] ys = refl
split_fed (b ∷ zs) ys =
    split_more (b == 10) b (lines_of ((zs ++ 10 ∷ []) ++ ys)) (lines_of (zs ++ 10 ∷ [])) (lines_of ys) (some_line zs)
    (split_fed zs ys)

many_fed : (zs : List ℕ) → length (lines_of (zs ++ 10 ∷ [])) ≡ lines_in (zs ++ 10 ∷ [])
many_fed [] = refl
many_fed (b ∷ zs) =
    many_more (b == 10) b (lines_of (zs ++ 10 ∷ [])) (filter (λ b. b == 10) (zs ++ 10 ∷ [])) (some_line zs)
    (many_fed zs)

-- a text whose last byte is a line feed
pub feeds_last : (zs : List ℕ) → Feeds (zs ++ 10 ∷ [])
feeds_last zs = record { split = split_fed zs; many = many_fed zs }

-- .. of two parts
pub feeds_end : (xs ys : List ℕ) → Feeds (xs ++ (ys ++ 10 ∷ []))
feeds_end xs ys = subst Feeds (append_assoc xs ys (10 ∷ [])) (feeds_last (xs ++ ys))

-- the texts of some items
pub feeds_each : {X : Type 0} (f : X → List ℕ) → ((x : X) → Feeds (f x)) → (xs : List X) → Feeds (flat_map f xs)
feeds_each f each [] = feeds_none
feeds_each f each (x ∷ xs) =
    subst Feeds (sym (flat_map-cons f x xs)) (feeds_both (f x) (flat_map f xs) (each x) (feeds_each f each xs))

-- .. and of ranks
feeds_from : (text_of : ℕ → RankAccount → List ℕ) → ((rank : ℕ) (a : RankAccount) → Feeds (text_of rank a)) →
    (rank : ℕ) (accounts : List RankAccount) → Feeds (from_rank text_of rank accounts)
feeds_from text_of each rank [] = feeds_none
feeds_from text_of each rank (a ∷ accounts) =
    feeds_both (text_of rank a) (from_rank text_of (rank + 1) accounts) (each rank a)
    (feeds_from text_of each (rank + 1) accounts)

event_feeds : (rank : ℕ) (e : Event) → Feeds (event_line rank e)
event_feeds rank e = feeds_last (join_with_byte 32 (codes "@" ∷ decimal rank ∷ decimal e.stamp ∷ event_words e.what))

pair_feeds : (pair : PairCount) → Feeds (pair_line pair)
pair_feeds pair =
    feeds_last (join_with_byte 32 (codes "pair" ∷ decimal pair.from ∷ decimal pair.to ∷ decimal pair.packets ∷ []))

-- the lines of the events and of the counts of packets
pub trace_feeds : (run : RunRecord) → Feeds (trace_text run)
trace_feeds run =
    feeds_both (by_rank event_lines run.ranks) (flat_map pair_line run.pairs)
    (feeds_from event_lines (λ rank a. feeds_each (event_line rank) (event_feeds rank) a.history.events) 0 run.ranks)
    (feeds_each pair_line pair_feeds run.pairs)

answer_feeds : (rank line : ℕ) (a : Answer) → Feeds (answer_line rank line a)
answer_feeds rank line answer.Started = feeds_none
answer_feeds rank line a = feeds_end (join_with_byte 32 (decimal rank ∷ decimal line ∷ answer_words a)) (body_word a)

ran_feeds : (rank : ℕ) (w : Happened) → Feeds (ran_line rank w)
ran_feeds rank (Ran line a) = answer_feeds rank line a
ran_feeds rank w = feeds_none

waits_is : (a b end : List ℕ) → (a ++ 32 ∷ (b ++ 32 ∷ [])) ++ end ≡ a ++ 32 ∷ (b ++ 32 ∷ end)
waits_is a b end =
    append_assoc a (32 ∷ (b ++ 32 ∷ [])) end ∙ ap (λ (xs : List ℕ). a ++ 32 ∷ xs) (append_assoc b (32 ∷ []) end)

waits_feeds : (rank : ℕ) (waits : Option ℕ) → Feeds (waits_line rank waits)
waits_feeds rank None = feeds_none
waits_feeds rank (Some line) =
    subst Feeds (waits_is (decimal rank) (decimal line) (codes "waits\n"))
    (feeds_end (decimal rank ++ 32 ∷ (decimal line ++ 32 ∷ [])) (codes "waits"))

-- .. and those of the answers
pub answers_feed : (ranks : List RankAccount) → Feeds (by_rank answer_lines ranks)
answers_feed ranks = feeds_from answer_lines (λ rank a.
    feeds_both (flat_map (λ (e : Event). ran_line rank e.what) a.history.events) (waits_line rank a.waits)
    (feeds_each (λ (e : Event). ran_line rank e.what) (λ e. ran_feeds rank e.what) a.history.events)
    (waits_feeds rank a.waits)) 0 ranks
