-- Options with a number behind them.
use Rattle.std.proofs.Common.{◌≡◌, ◌≢◌, ℕ, zero, suc, ◌≤◌, ◌<◌, ◌^◌, ◌⊎◌, inl, inr, List, [], ◌∷◌, ◌++◌, length}
use Rattle.std.proofs.Common.{Option, Some, None, refl, sym, ◌∙◌, ap, arith, lit<}
use Rattle.std.proofs.Common.{codes, decimal, get_or, length-append, map, subst}
use Rattle.std.proofs.lemmas.Fmt.{first_decimal, decimal_digit}
use Rattle.std.proofs.lemmas.List.{map-append}
use Rattle.std.specs.Prelude.{IfOk, Result, Ok, Err}
use Rattle.nm_script.specs.Decimal.{number_of}
use Rattle.nm_script.proofs.NumberLemmas.{number_again, number_taken}
use Rattle.nm_script.specs.CommandWords as nemesis
use Rattle.nm_script.specs.declared.command_line.CommandLine.{CommandLine}
use Rattle.nm_outcomes_top.specs.OptionWords.{Continues, IsSized, IsTaken, as_run, limit_words}
use Rattle.nm_script.specs.ArgumentWords.{IsArgument}
use Rattle.nm_script.specs.declared.command_line.arguments.Argument.{Argument}
use Rattle.nm_script.specs.declared.command_line.arguments.Argument.TheVariants.{Cells, Eager, Number}
use Rattle.nm_script.specs.declared.command_line.found.Found.{Found}
use Rattle.nm_outcomes_top.specs.declared.words.Asked.{Asked}
use Rattle.nm_outcomes_top.specs.declared.words.Question.{Question}
use Rattle.nm_outcomes_top.specs.declared.words.Question.TheVariants.{All, Trace, Among, Either, Hangs}

-- the number that a word spells is the one that is read, and is read again
pub spelled : (n : ℕ) (word : List ℕ) → Some n ≡ number_of 16777217 word → (n ≤ 16777216) × (word ≡ decimal n)
spelled n word h =
    let p = number_taken 16777217 n word (omega arith) (sym h) in
    (omega (arith, p.0), p.1)

pub again : (n : ℕ) (word : List ℕ) → word ≡ decimal n → n ≤ 16777216 → number_of 16777217 word ≡ Some n
again n word is few = ap (number_of 16777217) is ∙ number_again 16777217 n (omega arith) (omega arith)

-- two lists with one more at their ends
pub ends_same : {X : Type 0} (xs ys : List X) (x y : X) → xs ++ x ∷ [] ≡ ys ++ y ∷ [] → (xs ≡ ys) × (x ≡ y)
ends_same [] [] x y e = (refl, cc)
ends_same {X = X} [] (b ∷ ys) x y e = absurd (omega (arith, ap length e, length-append ys (y ∷ [])))
ends_same {X = X} (a ∷ xs) [] x y e = absurd (omega (arith, ap length e, length-append xs (x ∷ [])))
ends_same {X = X} (a ∷ xs) (b ∷ ys) x y e =
    let behind : xs ++ x ∷ [] ≡ ys ++ y ∷ [] = cc in
    let same = ends_same xs ys x y behind in
    let first : a ≡ b = cc in
    (ap (λ (zs : List X). a ∷ zs) same.0 ∙ ap (λ z. z ∷ ys) first, same.1)

module _ {X : Type 0} (bytes : X → List ℕ) where
  -- the words are options and a number
  pub taken : (words options : List X) (last : X) (all : List (List ℕ)) (line : CommandLine) (asked : Asked)
      (question : Question) (states : ℕ) → words ≡ options ++ last ∷ [] → bytes last ≡ decimal states → 1 ≤ states →
      states ≤ 16777216 → all ≡ codes "run" ∷ (limit_words question ++ map bytes options) →
      nemesis.IsTaken all line → line ≡ as_run asked → asked.states ≡ states → asked.question ≡ question →
      IsSized (map bytes words) asked
  taken words options last all line asked question states split is some few run read same count asks =
      record {
        options = map bytes options;
        words_are = ap (map bytes) split ∙ map-append bytes options (last ∷ [])
            ∙ ap (λ (word : List ℕ). map bytes options ++ word ∷ []) (is ∙ ap decimal (sym count));
        some_state = omega (arith, some, count);
        few_states = omega (arith, few, count);
        sizes = subst
            (λ (q : Question). nemesis.IsTaken (codes "run" ∷ (limit_words q ++ map bytes options)) (as_run asked))
            (sym asks)
            (subst (λ words. nemesis.IsTaken words (as_run asked)) run (subst (nemesis.IsTaken all) same read));
      }

  -- what is asked for by such words is told by them
  pub parts : (words options : List X) (last : X) (asked : Asked) → words ≡ options ++ last ∷ [] →
      (taken : IsSized (map bytes words) asked) →
      (map bytes options ≡ taken.options) × (bytes last ≡ decimal asked.states)
  parts words options last asked split taken =
      ends_same (map bytes options) taken.options (bytes last) (decimal asked.states)
      (sym (map-append bytes options (last ∷ [])) ∙ ap (map bytes) (sym split) ∙ taken.words_are)

  -- and the options are those of `nemesis run`
  pub options_taken : (words options : List X) (last : X) (all : List (List ℕ)) (asked : Asked)
      (question : Question) → words ≡ options ++ last ∷ [] →
      all ≡ codes "run" ∷ (limit_words question ++ map bytes options) → asked.question ≡ question →
      IsSized (map bytes words) asked → nemesis.IsTaken all (as_run asked)
  options_taken words options last all asked question split run asks taken =
      subst (λ words. nemesis.IsTaken words (as_run asked))
      (sym (run ∙ ap (λ (options : List (List ℕ)). codes "run" ∷ (limit_words question ++ options))
      (parts words options last asked split taken).0
      ∙ ap (λ (q : Question). codes "run" ∷ (limit_words q ++ taken.options)) (sym asks))) taken.sizes

  -- no words ask for nothing
  pub some_words : (words : List X) (asked : Asked) → length words ≡ 0 → IsSized (map bytes words) asked → ⊥
  some_words [] asked none taken =
      omega (arith, ap length taken.words_are, length-append taken.options (decimal asked.states ∷ []))
  some_words (word ∷ words) asked none taken = absurd (omega (arith, none))

-- a number does not begin with a dash
no_dash : (n : ℕ) → n < 2 ^ 64 → get_or (decimal n) 0 0 ≢ 45
no_dash zero small dash = let h = ap (λ ds. get_or ds 0 0) (decimal_digit 0 (lit< tt)) in omega (arith, h, dash)
no_dash (suc n) small dash = let h = first_decimal (suc n) (omega arith) small in omega (arith, h, dash)

-- what an argument begins with: no dash, or the name of one of the two options
abbrev BeginsArgument : List ℕ → Type 0
BeginsArgument word = (get_or word 0 0 ≢ 45) ⊎ ((get_or word 2 0 ≡ 99) ⊎ (get_or word 2 0 ≡ 101))

first_word : (word other : List ℕ) (words rest others : List (List ℕ)) → words ≡ other ∷ others →
    words ≡ word ∷ rest → word ≡ other
first_word word other words rest others h is =
    let both : other ∷ others ≡ word ∷ rest = sym h ∙ is in
    cc

argument_begins : (a : Argument) (word : List ℕ) (words rest others : List (List ℕ)) → IsArgument a words others →
    words ≡ word ∷ rest → BeginsArgument word
argument_begins (Cells cells) word words rest others (some, few, inl h) is =
    inr (inl (ap (λ w. get_or w 2 0) (first_word word _ words rest _ h is)))
argument_begins (Cells cells) word words rest others (some, few, inr h) is =
    inr (inl (ap (λ w. get_or w 2 0) (first_word word _ words rest _ h is)))
argument_begins (Eager eager) word words rest others (few, inl h) is =
    inr (inr (ap (λ w. get_or w 2 0) (first_word word _ words rest _ h is)))
argument_begins (Eager eager) word words rest others (few, inr h) is =
    inr (inr (ap (λ w. get_or w 2 0) (first_word word _ words rest _ h is)))
argument_begins (Number n) word words rest others (few, h) is =
    inl (subst (λ (w : List ℕ). get_or w 0 0 ≢ 45) (sym (first_word word _ words rest _ h is))
    (no_dash n (omega arith)))

-- the first word of arguments begins so
follows_begins : (f h : Found) (words : List (List ℕ)) → nemesis.ReadsArguments f words h → (word : List ℕ)
    (rest : List (List ℕ)) → words ≡ word ∷ rest → BeginsArgument word
follows_begins f _ _ (nemesis.ends _) word rest is = cc
follows_begins f h words (nemesis.more a _ others _ g _ argument takes further) word rest is =
    argument_begins a word words rest others argument is

-- such a word asks nothing
no_question : (word : List ℕ) → BeginsArgument word →
    (word ≢ codes "--trace") × (word ≢ codes "--among") × (word ≢ codes "--hangs")
no_question word (inl h) = (
  λ is. h (ap (λ w. get_or w 0 0) is),
  λ is. h (ap (λ w. get_or w 0 0) is),
  λ is. h (ap (λ w. get_or w 0 0) is),
)
no_question word (inr (inl h)) = (
  λ is. let e = ap (λ w. get_or w 2 0) is in omega (arith, e, h),
  λ is. let e = ap (λ w. get_or w 2 0) is in omega (arith, e, h),
  λ is. let e = ap (λ w. get_or w 2 0) is in omega (arith, e, h),
)
no_question word (inr (inr h)) = (
  λ is. let e = ap (λ w. get_or w 2 0) is in omega (arith, e, h),
  λ is. let e = ap (λ w. get_or w 2 0) is in omega (arith, e, h),
  λ is. let e = ap (λ w. get_or w 2 0) is in omega (arith, e, h),
)

-- a number is spelled by digits
no_number : (n : ℕ) → n ≤ 16777216 → codes "either" ≡ decimal n → ⊥
no_number n few is =
    let read : number_of 16777217 (codes "either") ≡ Some n = again n (codes "either") is few in
    let none : number_of 16777217 (codes "either") ≡ None = refl in
    cc

-- words that go on with others
abbrev GoesOn : List (List ℕ) → List (List ℕ) → List (List ℕ) → Type 0
GoesOn options behind others = options ++ behind ≡ codes "--eager" ∷ codes "either" ∷ others

-- the first two words, where the words are these
first_of_two : {A : Type 0} (a b : A) (xs ys : List A) → a ∷ xs ≡ b ∷ ys → a ≡ b
first_of_two a b xs ys is = cc

rest_of_two : {A : Type 0} (a b : A) (xs ys : List A) → a ∷ xs ≡ b ∷ ys → xs ≡ ys
rest_of_two a b xs ys is = cc

-- an argument is not `--eager either`
argument_other : (a : Argument) (options rest behind others : List (List ℕ)) → IsArgument a options rest →
    GoesOn options behind others → ⊥
argument_other (Cells cells) options rest behind others (some, few, inl h) is =
    let e = ap (λ w. get_or w 2 0)
    (first_of_two _ _ _ _ (sym (ap (λ (os : List (List ℕ)). os ++ behind) h) ∙ is)) in
    omega (arith, e)
argument_other (Cells cells) options rest behind others (some, few, inr h) is =
    let e = ap (λ w. get_or w 2 0)
    (first_of_two _ _ _ _ (sym (ap (λ (os : List (List ℕ)). os ++ behind) h) ∙ is)) in
    omega (arith, e)
argument_other (Eager eager) options rest behind others (few, inl h) is =
    no_number eager (omega (arith, few))
    (sym (first_of_two _ _ _ _ (rest_of_two _ _ _ _ (sym (ap (λ (os : List (List ℕ)). os ++ behind) h) ∙ is))))
argument_other (Eager eager) options rest behind others (few, inr h) is =
    let e = ap (λ w. get_or w 7 0)
    (first_of_two _ _ _ _ (sym (ap (λ (os : List (List ℕ)). os ++ behind) h) ∙ is)) in
    omega (arith, e)
argument_other (Number n) options rest behind others (few, h) is =
    no_dash n (omega arith)
    (ap (λ w. get_or w 0 0) (first_of_two _ _ _ _ (sym (ap (λ (os : List (List ℕ)). os ++ behind) h) ∙ is)))

follows_other : (f h : Found) (options : List (List ℕ)) → nemesis.ReadsArguments f options h →
    (behind others : List (List ℕ)) → (n : ℕ) → n ≤ 16777216 → GoesOn options (decimal n ∷ behind) others → ⊥
follows_other f _ _ (nemesis.ends _) behind others n few is =
    no_dash n (omega (arith, few)) (ap (λ w. get_or w 0 0) (first_of_two _ _ _ _ is))
follows_other f h options (nemesis.more a _ rest _ g _ argument takes further) behind others n few is =
    argument_other a options rest (decimal n ∷ behind) others argument is

-- the first word of sizes asks nothing
sizes_begin : (words options : List (List ℕ)) (asked : Asked) → words ≡ options ++ decimal asked.states ∷ [] →
    asked.states ≤ 16777216 → nemesis.IsTaken (codes "run" ∷ options) (as_run asked) →
    (first : List ℕ) × (rest : List (List ℕ)) × (words ≡ first ∷ rest) × BeginsArgument first
sizes_begin words [] asked are few taken =
    (decimal asked.states, [], are, inl (no_dash asked.states (omega arith)))
sizes_begin words (word ∷ options) asked are few taken =
    let same : taken.others ≡ word ∷ options = let both = taken.first in cc in
    (word, options ++ decimal asked.states ∷ [], are, follows_begins _ _ _ taken.follows word options same)

-- .. nor do the first two
sizes_other : (words options : List (List ℕ)) (asked : Asked) → words ≡ options ++ decimal asked.states ∷ [] →
    asked.states ≤ 16777216 → nemesis.IsTaken (codes "run" ∷ options) (as_run asked) → (others : List (List ℕ)) →
    words ≢ codes "--eager" ∷ codes "either" ∷ others
sizes_other words options asked are few taken others is =
    let same : taken.others ≡ options = let both = taken.first in cc in
    follows_other nemesis.nothing taken.found options
    (subst (λ (os : List (List ℕ)). nemesis.ReadsArguments nemesis.nothing os taken.found) same taken.follows) []
    others asked.states few (sym are ∙ is)

pub sized_continues : (words : List (List ℕ)) (asked : Asked) → IsSized words asked →
    Continues asked.question words
sized_continues words asked sized = by_question asked.question refl
  where
    by_question : (question : Question) → asked.question ≡ question → Continues question words
    by_question All is =
        let sizes : nemesis.IsTaken (codes "run" ∷ sized.options) (as_run asked) =
        subst (λ (q : Question). nemesis.IsTaken (codes "run" ∷ (limit_words q ++ sized.options)) (as_run asked)) is
        sized.sizes in
        let p = sizes_begin words sized.options asked sized.words_are sized.few_states sizes in
        let none = no_question p.0 p.3 in (
          p.0,
          p.1,
          p.2,
          none.0,
          none.1,
          none.2,
          sizes_other words sized.options asked sized.words_are sized.few_states sizes,
        )
    by_question (Trace n) is = tt
    by_question Among is = tt
    by_question Either is = tt
    by_question Hangs is = tt

-- what is read behind a question is what the words ask for
pub read_behind : {E : Type 0} (words others : List (List ℕ)) (question : Question) (r : Result (Option Asked) E) →
    ((line : Asked) (taken : IsTaken words line) → (line.question ≡ question) × (taken.others ≡ others)) →
    IfOk r (λ found. (line : Asked) → IsSized others line → line.question ≡ question → found ≡ Some line) →
    IfOk r (λ found. (line : Asked) → IsTaken words line → found ≡ Some line)
read_behind words others question (Ok found) one takes =
    λ line asks.
    takes line (subst (λ words. IsSized words line) (one line asks).1 asks.sized) (one line asks).0
read_behind words others question (Err e) one takes = tt
