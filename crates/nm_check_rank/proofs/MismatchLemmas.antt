-- The first argument in which a start is another one than is called for.
use Rattle.std.proofs.Common.{◌≡◌, ◌≢◌, ℕ, ◌+◌, true, Option, Some, None, List, ◌∷◌, refl, sym, subst, add-one}
use Rattle.std.specs.List.{slice_get}
use Rattle.std.proofs.lemmas.Bool.{false≢true}
use Rattle.nm_types.specs.declared.messages.How.{How}
use Rattle.nm_types.specs.declared.messages.Post.{Post}
use Rattle.nm_history.specs.declared.events.Happened.{Happened}
use Rattle.nm_history.specs.declared.events.Happened.TheVariants as what
use Rattle.nm_history.specs.RankRun.{is_start}
use Rattle.nm_check_rank.specs.Arguments.{IsFirstMismatch, arguments, others_of, sort_of}
use Rattle.nm_check_rank.specs.declared.paired.arguments.Argument.{Argument}
use Rattle.nm_check_rank.specs.declared.paired.arguments.Argument.TheVariants as arg
use Rattle.nm_check_rank.specs.declared.paired.arguments.Mismatch.{Mismatch}
use Rattle.nm_check_rank.specs.declared.paired.arguments.Sort.{Sort}
use Rattle.nm_check_rank.specs.declared.paired.arguments.Sort.TheVariants as sort
use Rattle.nm_check_rank.proofs.DifferLemmas.{differ_behind, differ_here}

-- an item behind the first
item_behind : {X : Type 0} (x : X) (xs : List X) (k : ℕ) (o : Option X) → slice_get xs k ≡ o →
    slice_get (x ∷ xs) (k + 1) ≡ o
item_behind x xs k o is = subst (λ (n : ℕ). slice_get (x ∷ xs) n ≡ o) (sym (add-one k)) is

module _ (a b : Argument) (xs ys : List Argument) where
  -- it is the first one
  pub mismatch_here : a ≢ b → IsFirstMismatch (a ∷ xs) (b ∷ ys) (Some (record { called = a; found = b }))
  mismatch_here not = (0, differ_here a b xs ys not, refl, refl)

  -- .. or one behind it
  pub mismatch_behind : (first : Option Mismatch) → a ≡ b → IsFirstMismatch xs ys first →
      IsFirstMismatch (a ∷ xs) (b ∷ ys) first
  mismatch_behind None same others = λ i. same i ∷ others i
  mismatch_behind (Some m) same others = (
    others.0 + 1,
    differ_behind a b xs ys others.0 same others.1,
    item_behind a xs others.0 (Some m.called) others.2,
    item_behind b ys others.0 (Some m.found) others.3,
  )

-- a start that is another thing
sort_back : {a b : Sort} → arg.Sort a ≡ arg.Sort b → a ≡ b
sort_back same = cc

pub sorts_apart : (a : Sort) (w : Happened) (xs : List Argument) → a ≢ sort_of w →
    IsFirstMismatch (arg.Sort a ∷ xs) (arguments w)
    (Some (record { called = arg.Sort a; found = arg.Sort (sort_of w) }))
sorts_apart a w xs not =
    mismatch_here (arg.Sort a) (arg.Sort (sort_of w)) xs (others_of w) (λ same. not (sort_back same))

pub no_send : (w : Happened) →
    ((to n tag ctx len : ℕ) (how : How) (line : ℕ) → w ≡ what.Send to n tag ctx len how line → ⊥) →
    sort.Send ≢ sort_of w
no_send (what.Send to n tag ctx len how line) not = absurd (not to n tag ctx len how line refl)
no_send (what.Match number from n cap line) not = λ same. cc
no_send w not = λ same. cc

pub no_post : (w : Happened) → ((p : Post) (line : ℕ) → w ≡ what.Post p line → ⊥) → is_start w ≡ true →
    sort.Receive ≢ sort_of w
no_post (what.Send to n tag ctx len how line) not started = λ same. cc
no_post (what.Post p line) not started = absurd (not p line refl)
no_post (what.Match number from n cap line) not started = λ same. cc
no_post w not started = absurd (false≢true started)

pub no_match : (w : Happened) → ((number from n cap line : ℕ) → w ≡ what.Match number from n cap line → ⊥) →
    sort.Matched ≢ sort_of w
no_match (what.Send to n tag ctx len how line) not = λ same. cc
no_match (what.Match number from n cap line) not = absurd (not number from n cap line refl)
no_match w not = λ same. cc
