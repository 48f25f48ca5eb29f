-- What one call more does to the programs of threads.
use Rattle.std.proofs.Common.{◌≡◌, ◌≢◌, ℕ, ◌+◌, ◌*◌, ◌/◌, ◌%◌, ◌<◌, ◌≤◌, ◌==◌, ◌⊎◌, Bool, true, false, cond, Option}
use Rattle.std.proofs.Common.{None, Some, inl, inr}
use Rattle.std.proofs.Common.{List, [], ◌∷◌, ◌++◌, length, refl, sym, ◌∙◌, ap, subst, arith, append-nil, length-append}
use Rattle.std.specs.Prelude.{MatchOption, replicate, slice_get, slice_index_or, slice_set}
use Rattle.std.specs.List.{AllByRecursion}
use Rattle.std.proofs.lemmas.List.{get_or-replicate, get_or-set_other, get_or-set_same, length-replicate, length-set}
use Rattle.std.proofs.lemmas.List.{set-get_or}
use Rattle.std.proofs.lemmas.List.Elements.{filter-append}
use Rattle.std.proofs.lemmas.Option.{slice_get_past}
use Rattle.nm_types.specs.declared.scripts.Body.TheVariants.{Gen}
use Rattle.nm_types.specs.Sizes.{Sizes}
use Rattle.nm_receiving.proofs.Lists.{slice_get-last}
use Rattle.nm_multi.specs.declared.calls.Call.{Call}
use Rattle.nm_multi.specs.declared.calls.Call.TheVariants.{Irecv, Isend, Pump}
use Rattle.nm_multi.specs.declared.calls.Entry.{Entry}
use Rattle.nm_multi.specs.declared.turns.Progress.{Progress}
use Rattle.nm_multi.specs.Acts.{DeskView, Makes}
use Rattle.nm_multi.specs.Calls.{IsInRange}
use Rattle.nm_request.specs.declared.Req.{Req}
use Rattle.nm_multi.specs.Programs.{ArePrograms, AreTurns, FollowsProgram, HasMadeAll, SameTurns, TurnsView, call_of}
use Rattle.nm_multi.specs.Programs.{entries_of, next_call}
use Rattle.nm_multi.specs.Programs.{finish_or_pump, no_progress, progress_after, progress_from, progress_of}
use Rattle.nm_multi.proofs.Going.{same_sizes}
use Rattle.nm_types.proofs.ListLemmas.{all_append}
use Rattle.nm_types.proofs.NumberLemmas.{same_number, differ}

-- one call more follows the others
follows_on : (t : ℕ) (p : Progress) (es : List Entry) (e : Entry) → FollowsProgram t p es →
    e.call ≡ next_call t (progress_from p es) → FollowsProgram t p (es ++ e ∷ [])
follows_on t p [] e f is = (is, tt)
follows_on t p (x ∷ es) e f is = (f.0, follows_on t (progress_after p x.reply) es e f.1 is)

from_on : (p : Progress) (es : List Entry) (e : Entry) →
    progress_from p (es ++ e ∷ []) ≡ progress_after (progress_from p es) e.reply
from_on p [] e = refl
from_on p (x ∷ es) e = from_on (progress_after p x.reply) es e

-- as many calls were made as there are
made_from : (p : Progress) (es : List Entry) → (progress_from p es).made ≡ p.made + length es
made_from p [] = omega arith
made_from p (x ∷ es) = let i = made_from (progress_after p x.reply) es in omega (arith, i)

pub made_of : (t : ℕ) (log : List Entry) → (progress_of t log).made ≡ length (entries_of t log)
made_of t log = let i = made_from no_progress (entries_of t log) in omega (arith, i)

-- the calls of the one who made it, and of another
pub own_on : (t : ℕ) (log : List Entry) (e : Entry) → (e.who == t) ≡ true →
    entries_of t (log ++ e ∷ []) ≡ entries_of t log ++ e ∷ []
own_on t log e is =
    filter-append (λ e. e.who == t) log (e ∷ [])
    ∙ ap (λ (b : Bool). entries_of t log ++ cond b (e ∷ []) []) is

pub other_on : (t : ℕ) (log : List Entry) (e : Entry) → (e.who == t) ≡ false →
    entries_of t (log ++ e ∷ []) ≡ entries_of t log
other_on t log e is =
    filter-append (λ e. e.who == t) log (e ∷ [])
    ∙ ap (λ (b : Bool). entries_of t log ++ cond b (e ∷ []) []) is ∙ append-nil (entries_of t log)

-- a call of a thread's program
pub record IsCall (v : TurnsView) (t : ℕ) (e : Entry) : Type 0 where
  pub within : t < v.threads
  pub who : e.who ≡ t
  pub call : e.call ≡ call_of v t
  pub left : length (entries_of t v.desk.log) < 5 * v.rounds

-- one thing of each thread, after a call
by_thread : (v : TurnsView) (t : ℕ) (e : Entry) (P : ℕ → List Entry → Type 0) → IsCall v t e →
    P t (entries_of t v.desk.log ++ e ∷ []) → (s : ℕ) → (t ≢ s → P s (entries_of s v.desk.log)) →
    P s (entries_of s (v.desk.log ++ e ∷ []))
by_thread v t e P is own s others = by (e.who == s) refl where
  by : (b : Bool) → (e.who == s) ≡ b → P s (entries_of s (v.desk.log ++ e ∷ []))
  by true at =
      let here : t ≡ s = sym is.who ∙ same_number e.who s at in
      subst (λ (es : List Entry). P s es) (sym (own_on s v.desk.log e at))
      (subst (λ (k : ℕ). P k (entries_of k v.desk.log ++ e ∷ [])) here own)
  by false at =
      subst (λ (es : List Entry). P s es) (sym (other_on s v.desk.log e at))
      (others (λ same. differ e.who s at (sym same ∙ sym is.who)))

programs_on : (v : TurnsView) (t : ℕ) (e : Entry) → ArePrograms v.threads v.rounds v.desk.log →
    IsCall v t e → ArePrograms v.threads v.rounds (v.desk.log ++ e ∷ [])
programs_on v t e are is =
    record {
      whose = all_append (λ e. e.who < v.threads) v.desk.log (e ∷ []) are.whose
          (subst (λ (k : ℕ). k < v.threads) (sym is.who) is.within, tt);
      follow = λ s within. by_thread v t e (λ s es. s < v.threads → FollowsProgram s no_progress es) is
          (λ within. follows_on t no_progress (entries_of t v.desk.log) e (are.follow t within) is.call) s
          (λ _. are.follow s) within;
      few = λ s within. by_thread v t e (λ s es. s < v.threads → length es ≤ 5 * v.rounds) is
          (λ within. let long = length-append (entries_of t v.desk.log) (e ∷ []) in let left = is.left in
          omega (arith, long, left)) s (λ _. are.few s) within;
    }

noted_on : (v : TurnsView) (progress : List Progress) (t : ℕ) (e : Entry) (shape : Sizes) →
    AreTurns shape v progress → IsCall v t e → (s : ℕ) → s < v.threads →
    slice_index_or (slice_set progress t (progress_after (slice_index_or progress t no_progress) e.reply)) s
    no_progress ≡ progress_of s (v.desk.log ++ e ∷ [])
noted_on v progress t e shape are is s within =
    let set = slice_set progress t (progress_after (slice_index_or progress t no_progress) e.reply) in
    let many = are.many in
    by_thread v t e (λ s es. s < v.threads → slice_index_or set s no_progress ≡ progress_from no_progress es) is
    (λ within.
    get_or-set_same progress t (progress_after (slice_index_or progress t no_progress) e.reply) no_progress
    (omega (arith, many, within))
    ∙ ap (λ (p : Progress). progress_after p e.reply) (are.noted t within)
    ∙ sym (from_on no_progress (entries_of t v.desk.log) e)) s
    (λ other within.
    get_or-set_other progress t s (progress_after (slice_index_or progress t no_progress) e.reply) no_progress
    (λ same. other (sym same))
    ∙ are.noted s within) within

-- the turns after a call of one of the programs
pub turns_on : (shape : Sizes) (v : TurnsView) (desk : DeskView) (progress : List Progress) (t : ℕ)
    (short : Bool) → AreTurns shape v progress → t < v.threads →
    length (entries_of t v.desk.log) < 5 * v.rounds → (m : Makes short t (call_of v t) v.desk desk) →
    AreTurns shape (record v { desk = desk })
    (slice_set progress t (progress_after (slice_index_or progress t no_progress) m.reply))
turns_on shape v desk progress t short are within left m =
    let e : Entry = record { who = t; call = call_of v t; reply = m.reply } in
    let is : IsCall v t e = record { within = within; who = refl; call = refl; left = left } in
    record {
      sizes = same_sizes (call_of v t) m.reply v.desk.rank desk.rank m.acts ∙ are.sizes;
      programs = subst (λ (es : List Entry). ArePrograms v.threads v.rounds es) (sym m.logged)
          (programs_on v t e are.programs is);
      many = length-set progress t (progress_after (slice_index_or progress t no_progress) m.reply) ∙ are.many;
      noted = λ s within. noted_on v progress t e shape are is s within
          ∙ ap (progress_of s) (sym m.logged);
    }

-- what is noted where the log did not grow, and where it did
pub same_noted : (log : List Entry) (p q : Progress) →
    MatchOption (slice_get log (length log)) (q ≡ p) (λ e. q ≡ progress_after p e.reply) → q ≡ p
same_noted log p q is =
    subst (λ (o : Option Entry). MatchOption o (q ≡ p) (λ e. q ≡ progress_after p e.reply))
    (slice_get_past log (length log) (omega arith)) is

pub grown_noted : (log log' : List Entry) (e : Entry) (p q : Progress) (k : ℕ) → log' ≡ log ++ e ∷ [] →
    k ≡ length log →
    MatchOption (slice_get log' k) (q ≡ p) (λ e. q ≡ progress_after p e.reply) →
    q ≡ progress_after p e.reply
grown_noted log log' e p q k grown at is =
    subst (λ (o : Option Entry). MatchOption o (q ≡ p) (λ e. q ≡ progress_after p e.reply))
    (ap (λ (es : List Entry). slice_get es k) grown ∙ slice_get-last log e k at) is

-- the calls of programs are in range
finish_in : (o : Option Req) → IsInRange (finish_or_pump o)
finish_in None = tt
finish_in (Some r) = tt

chosen_in : (t n : ℕ) (r s : Option Req) (b0 b1 b2 b3 : Bool) → t < 256 → n < 64 →
    IsInRange (cond b0 (Isend t (Gen n))
    (cond b1 (Irecv t 64) (cond b2 Pump (cond b3 (finish_or_pump r) (finish_or_pump s)))))
chosen_in t n r s true b1 b2 b3 small short = (omega arith, omega arith)
chosen_in t n r s false true b2 b3 small short = (omega arith, omega arith)
chosen_in t n r s false false true b3 small short = tt
chosen_in t n r s false false false true small short = finish_in r
chosen_in t n r s false false false false small short = finish_in s

pub call_in : (t : ℕ) (p : Progress) → t < 256 → IsInRange (next_call t p)
call_in t p small =
    chosen_in t (p.made / 5 % 64) p.received p.sent (p.made % 5 == 0) (p.made % 5 == 1) (p.made % 5 == 2)
    (p.made % 5 == 3) small (omega arith)

-- a thread is not at its end, and this is its next call
pub record IsNext (v : TurnsView) (items : List Progress) (t : ℕ) (p : Progress) (c : Call) : Type 0 where
  pub within : t < v.threads
  pub noted : slice_index_or items t no_progress ≡ p
  pub left : p.made < 5 * v.rounds
  pub call : c ≡ next_call t p

-- what is noted of it after its next call was made, or was not
pub record IsNoted (desk desk' : DeskView) (p q : Progress) : Type 0 where
  pub place : ℕ
  pub at : place ≡ length desk.log
  pub is : MatchOption (slice_get desk'.log place) (q ≡ p) (λ e. q ≡ progress_after p e.reply)

left_of : (shape : Sizes) (v : TurnsView) (items : List Progress) (t : ℕ) (p : Progress) →
    AreTurns shape v items → t < v.threads → slice_index_or items t no_progress ≡ p →
    p.made ≡ length (entries_of t v.desk.log)
left_of shape v items t p are within noted =
    ap (λ (x : Progress). x.made) (sym noted ∙ are.noted t within) ∙ made_of t v.desk.log

pub next_is : (shape : Sizes) (v : TurnsView) (items : List Progress) (t : ℕ) (p : Progress) (c : Call) →
    AreTurns shape v items → IsNext v items t p c → c ≡ call_of v t
next_is shape v items t p c are is =
    is.call ∙ ap (next_call t) (sym is.noted ∙ are.noted t is.within)

pub goes_on : (shape : Sizes) (v : TurnsView) (desk' : DeskView) (items : List Progress) (t : ℕ)
    (short : Bool) (p q : Progress) (c : Call) → AreTurns shape v items → IsNext v items t p c →
    Makes short t c v.desk desk' → IsNoted v.desk desk' p q →
    AreTurns shape (record v { desk = desk' }) (slice_set items t q)
goes_on shape v desk' items t short p q c are is made noted =
    let m : Makes short t (call_of v t) v.desk desk' =
    subst (λ (c : Call). Makes short t c v.desk desk') (next_is shape v items t p c are is) made in
    let e : Entry = record { who = t; call = call_of v t; reply = m.reply } in
    let many = left_of shape v items t p are is.within is.noted in
    let left = is.left in
    let q_is : q ≡ progress_after p m.reply =
    grown_noted v.desk.log desk'.log e p q noted.place m.logged noted.at noted.is in
    subst (λ (x : Progress). AreTurns shape (record v { desk = desk' }) (slice_set items t x))
    (ap (λ (x : Progress). progress_after x m.reply) is.noted ∙ sym q_is)
    (turns_on shape v desk' items t short are is.within (omega (arith, many, left)) m)

pub goes_still : (shape : Sizes) (v : TurnsView) (desk' : DeskView) (items : List Progress) (t : ℕ)
    (p q : Progress) (c : Call) → AreTurns shape v items → IsNext v items t p c → desk' ≡ v.desk →
    IsNoted v.desk desk' p q → AreTurns shape (record v { desk = desk' }) (slice_set items t q)
goes_still shape v desk' items t p q c are is same noted =
    let still : q ≡ p =
    same_noted v.desk.log p q (subst (λ (k : ℕ). MatchOption (slice_get v.desk.log k) (q ≡ p)
    (λ e. q ≡ progress_after p e.reply)) noted.at
    (subst (λ (d : DeskView). MatchOption (slice_get d.log noted.place) (q ≡ p)
    (λ e. q ≡ progress_after p e.reply)) same noted.is)) in
    let set : items ≡ slice_set items t q =
    sym (ap (λ (x : Progress). slice_set items t x) (still ∙ sym is.noted) ∙ set-get_or items t no_progress) in
    subst (λ (d : DeskView). AreTurns shape (record v { desk = d }) (slice_set items t q)) (sym same)
    (subst (λ (ps : List Progress). AreTurns shape v ps) set are)

-- a thread that has calls left has not made all
pub not_all : (shape : Sizes) (v : TurnsView) (items : List Progress) (t : ℕ) (p : Progress) (c : Call) →
    AreTurns shape v items → IsNext v items t p c → HasMadeAll v t → ⊥
not_all shape v items t p c are is all =
    let many = left_of shape v items t p are is.within is.noted in let left = is.left in
    omega (arith, many, left, all)

-- a thread that has none left has made all
pub made_all : (shape : Sizes) (v : TurnsView) (items : List Progress) (t : ℕ) (p : Progress) →
    AreTurns shape v items → t < v.threads → slice_index_or items t no_progress ≡ p →
    5 * v.rounds ≤ p.made → HasMadeAll v t
made_all shape v items t p are within noted past =
    let many = left_of shape v items t p are within noted in
    let few = are.programs.few t within in
    omega (arith, many, few, past)

-- the same threads and rounds
pub same_turns : (shape : Sizes) (v v' : TurnsView) (items items' : List Progress) → AreTurns shape v items →
    AreTurns shape v' items' → v'.threads ≡ v.threads → v'.rounds ≡ v.rounds → SameTurns v v'
same_turns shape v v' items items' are are' threads rounds =
    record { shape = are'.sizes ∙ sym are.sizes; threads = threads; rounds = rounds }

-- the turns where a call was in want of memory
pub by_err : (shape : Sizes) (v : TurnsView) (desk' : DeskView) (items : List Progress) (t : ℕ)
    (p q : Progress) (c : Call) → AreTurns shape v items → IsNext v items t p c →
    IsNoted v.desk desk' p q → (desk' ≡ v.desk) ⊎ Makes true t c v.desk desk' →
    AreTurns shape (record v { desk = desk' }) (slice_set items t q)
by_err shape v desk' items t p q c are is noted (inl same) =
    goes_still shape v desk' items t p q c are is same noted
by_err shape v desk' items t p q c are is noted (inr made) =
    goes_on shape v desk' items t true p q c are is made noted

-- turns at a desk at which no call was made
pub none_made : (shape : Sizes) (v : TurnsView) (items : List Progress) → v.desk.rank.sizes ≡ shape →
    v.desk.log ≡ [] → items ≡ replicate v.threads no_progress → AreTurns shape v items
none_made shape v items sizes empty all =
    record {
      sizes = sizes;
      programs = record {
        whose = subst (λ (log : List Entry). AllByRecursion (λ e. e.who < v.threads) log) (sym empty) tt;
        follow = λ t within. subst (λ (log : List Entry). FollowsProgram t no_progress (entries_of t log)) (sym empty) tt;
        few = λ t within. subst (λ (log : List Entry). length (entries_of t log) ≤ 5 * v.rounds) (sym empty)
            (omega arith);
      };
      many = ap (λ (ps : List Progress). length ps) all ∙ length-replicate v.threads no_progress;
      noted = λ t within. ap (λ (ps : List Progress). slice_index_or ps t no_progress) all
          ∙ get_or-replicate v.threads t no_progress no_progress within
          ∙ ap (λ (log : List Entry). progress_of t log) (sym empty);
    }
