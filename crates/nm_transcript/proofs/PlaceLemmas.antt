-- Events by other lines, one after another.
use Rattle.std.proofs.Common.{◌≡◌, ℕ, zero, suc, ◌+◌, Some, None, List, [], ◌∷◌, ◌++◌, length, refl, sym, ◌∙◌, ap, subst}
use Rattle.std.specs.Prelude.{IfSome}
use Rattle.std.proofs.SliceLists.{all_by_recursion_push}
use Rattle.std.proofs.lemmas.List.{length_push}
use Rattle.nm_types.specs.declared.scripts.Command.{Command}
use Rattle.nm_history.specs.declared.events.Event.{Event}
use Rattle.nm_history.specs.declared.events.Happened.{Happened}
use Rattle.nm_history.specs.declared.events.Happened.TheVariants.{Send, Post, Claim, Match, Ran}
use Rattle.nm_report.specs.declared.accounts.RankAccount.{RankAccount}
use Rattle.nm_report.specs.Ends.{ends_of}
use Rattle.nm_transcript.specs.Excerpts.{AreOwn, IsOwn}
use Rattle.nm_transcript.specs.Renumbered.{AreOf, IsOneOf, line_of, renumbered}
use Rattle.nm_transcript.specs.Transcripts.{AreEndsOf}

-- the line of its command is put in its place
pub line_set : (f : ℕ → ℕ) (w : Happened) (line n : ℕ) → Some line ≡ line_of w → n ≡ f line →
    renumbered (λ _. n) w ≡ renumbered f w
line_set f (Send to m tag ctx len how l) line n is put =
    let same : line ≡ l = cc in
    ap (λ (x : ℕ). Send to m tag ctx len how x) (put ∙ ap f same)
line_set f (Post p l) line n is put =
    let same : line ≡ l = cc in
    ap (λ (x : ℕ). Post p x) (put ∙ ap f same)
line_set f (Claim from m l) line n is put =
    let same : line ≡ l = cc in
    ap (λ (x : ℕ). Claim from m x) (put ∙ ap f same)
line_set f (Match number from m cap l) line n is put =
    let same : line ≡ l = cc in
    ap (λ (x : ℕ). Match number from m cap x) (put ∙ ap f same)
line_set f (Ran l answer) line n is put =
    let same : line ≡ l = cc in
    ap (λ (x : ℕ). Ran x answer) (put ∙ ap f same)
line_set f w line n is put = cc

-- an event of no command stays
pub line_none : (f : ℕ → ℕ) (w : Happened) → None ≡ line_of w → w ≡ renumbered f w
line_none f (Send to m tag ctx len how l) is = cc
line_none f (Post p l) is = cc
line_none f (Claim from m l) is = cc
line_none f (Match number from m cap l) is = cc
line_none f (Ran l answer) is = cc
line_none f w is = refl

-- it has the line that it was given
pub line_given : (P : ℕ → Type 0) (w : Happened) (n : ℕ) → P n → IfSome (line_of (renumbered (λ _. n) w)) P
line_given P (Send to m tag ctx len how l) n holds = holds
line_given P (Post p l) n holds = holds
line_given P (Claim from m l) n holds = holds
line_given P (Match number from m cap l) n holds = holds
line_given P (Ran l answer) n holds = holds
line_given P w n holds = tt

-- one more of two lists
pub both_longer : {A B : Type 0} (xs more : List A) (ys others : List B) (x : A) (y : B) → more ≡ xs ++ x ∷ [] →
    others ≡ ys ++ y ∷ [] → length xs ≡ length ys → length more ≡ length others
both_longer xs more ys others x y first second same =
    ap length first ∙ length_push xs x ∙ ap (λ (k : ℕ). k + 1) same ∙ sym (length_push ys y) ∙ sym (ap length second)

-- an event more
pub more_placed : (n : ℕ) (h more : List Event) (e : Event) → AreOf n h → IfSome (line_of e.what) (IsOneOf n) →
    more ≡ h ++ e ∷ [] → AreOf n more
more_placed n h more e all one grown =
    subst (λ (xs : List Event). AreOf n xs) (sym grown)
    (all_by_recursion_push (λ (x : Event). IfSome (line_of x.what) (IsOneOf n)) h e all one)

-- a rank more
pub own_more : (given : List (List Command)) (accounts : List RankAccount) (calls : List Command)
    (account : RankAccount) → AreOwn given accounts → IsOwn (length calls) account →
    AreOwn (given ++ calls ∷ []) (accounts ++ account ∷ [])
own_more [] [] calls account all one = (one, tt)
own_more [] (a ∷ accounts) calls account all one = absurd all
own_more (g ∷ given) [] calls account all one = absurd all
own_more (g ∷ given) (a ∷ accounts) calls account all one = (all.0, own_more given accounts calls account all.1 one)

-- so the lines of each rank are those of its calls
pub own_ends : (given : List (List Command)) (accounts : List RankAccount) → AreOwn given accounts →
    AreEndsOf given (ends_of accounts)
own_ends [] [] all i = tt
own_ends [] (a ∷ accounts) all i = absurd all
own_ends (g ∷ given) [] all i = absurd all
own_ends (g ∷ given) (a ∷ accounts) all zero = all.0
own_ends (g ∷ given) (a ∷ accounts) all (suc i) = own_ends given accounts all.1 i
