-- What a program gives.
use Rattle.std.proofs.Common.{◌≡◌, ℕ, ◌+◌, ◌<◌, ◌≤◌, ◌==◌, zero, suc, Bool, true, false, cond, Option, Some, None}
use Rattle.std.proofs.Common.{List, [], ◌∷◌, ◌++◌, length, refl, sym, ◌∙◌, ap, subst, arith, append_assoc, append-nil}
use Rattle.std.specs.Prelude.{IfSome, MatchOption, option_map, option_to_list}
use Rattle.std.specs.Option.{option_map_or, option_or}
use Rattle.std.specs.List.{AllByRecursion, find, slice_get}
use Rattle.std.proofs.lemmas.Bool.Decides.{nat_tests}
use Rattle.nm_types.specs.declared.answers.Answer.{Answer}
use Rattle.nm_types.specs.declared.scripts.Command.{Command}
use Rattle.nm_types.proofs.ListLemmas.{all_append}
use Rattle.nm_types.specs.Commands.{Numbered, command_at}
use Rattle.nm_types.specs.Limits.{is_in_range}
use Rattle.nm_process.specs.Playing.{AllInRange, GivenView, HasPlayed, IsCounted, IsFront, IsPlayed, Talked, all_numbered}
use Rattle.nm_process.specs.Playing.{gives_on, numbered_at}
use Rattle.nm_process.specs.Sources.{GivesSome, PassedOn}
use Rattle.nm_process.specs.Work.{IsNext}

-- the command of a place among those that were given
numbered_get : (n : ℕ) (given : List Command) (k : ℕ) (x : Command) (more : List Numbered) →
    slice_get given k ≡ Some x → slice_get (all_numbered n given ++ more) k ≡ Some (numbered_at (n + k) x)
numbered_get n [] k x more here = cc
numbered_get n (y ∷ ys) zero x more here = let same : y ≡ x = cc in rw same
    (ap (λ (j : ℕ). Some (numbered_at j x)) (omega arith))
numbered_get n (y ∷ ys) (suc k) x more here = numbered_get (n + 1) ys k x more here
    ∙ ap (λ (j : ℕ). Some (numbered_at j x)) (omega arith)

-- is found by its line
numbered_found : (n : ℕ) (given : List Command) (k : ℕ) (x : Command) (more : List Numbered) →
    slice_get given k ≡ Some x →
    find (λ (c : Numbered). c.line == n + k) (all_numbered n given ++ more) ≡ Some (numbered_at (n + k) x)
numbered_found n [] k x more here = cc
numbered_found n (y ∷ ys) zero x more here = let same : y ≡ x = cc in rw same (by_self self) where
  self : (n == n + 0) ≡ true
  self = grind (arith, nat_tests)

  by_self : (n == n + 0) ≡ true → cond (n == n + 0) (Some (numbered_at n x))
      (find (λ (c : Numbered). c.line == n + 0) (all_numbered (n + 1) ys ++ more)) ≡ Some
      (numbered_at (n + 0) x)
  by_self equal = rw equal (ap (λ (j : ℕ). Some (numbered_at j x)) (omega arith))
numbered_found n (y ∷ ys) (suc k) x more here =
    let sum : (n + 1) + k ≡ n + suc k = omega arith in
    rw other (subst (λ (j : ℕ). find (λ (c : Numbered). c.line == j) (all_numbered (n + 1) ys ++ more)
    ≡ Some (numbered_at j x)) sum (numbered_found (n + 1) ys k x more here)) where
      other : (n == n + suc k) ≡ false
      other = grind (arith, nat_tests)

-- one more given
numbered_more : (n : ℕ) (xs ys : List Command) →
    (more : List Numbered) × (all_numbered n (xs ++ ys) ≡ all_numbered n xs ++ more)
numbered_more n [] ys = (all_numbered n ys, refl)
numbered_more n (x ∷ xs) ys =
    let rest = numbered_more (n + 1) xs ys in
    (rest.0, ap (λ (cs : List Numbered). numbered_at n x ∷ cs) rest.1)

front_less : (xs ys : List Command) (commands : List Numbered) → IsFront (all_numbered 2 (xs ++ ys)) commands →
    IsFront (all_numbered 2 xs) commands
front_less xs ys commands front =
    let rest = numbered_more 2 xs ys in
    record {
      more = rest.0 ++ front.more;
      is = front.is ∙ ap (λ (cs : List Numbered). cs ++ front.more) rest.1
          ∙ append_assoc (all_numbered 2 xs) rest.0 front.more;
    }

-- the command that a program gave last and that has not run is next, whatever comes after it
pending_next : (given : List Command) (at : ℕ) (x : Command) (commands : List Numbered) →
    slice_get given at ≡ Some x → IsFront (all_numbered 2 given) commands →
    IsNext commands at (at + 2) (at + 2) x
pending_next given at x commands here front =
    let sum : 2 + at ≡ at + 2 = omega arith in
    record {
      next = ap (λ (cs : List Numbered). slice_get cs at) front.is
          ∙ subst (λ (j : ℕ). slice_get (all_numbered 2 given ++ front.more) at ≡ Some (numbered_at j x)) sum
          (numbered_get 2 given at x front.more here);
      found = ap (λ (cs : List Numbered). command_at cs (at + 2)) front.is
          ∙ ap (λ (o : Option Numbered). option_map (λ c. c.command) o)
          (subst (λ (j : ℕ). find (λ (c : Numbered). c.line == j) (all_numbered 2 given ++ front.more)
          ≡ Some (numbered_at j x)) sum (numbered_found 2 given at x front.more here));
      past = omega arith;
    }

-- the place of what comes behind so many
get_behind : (xs : List Command) (k : ℕ) (x : Command) → length xs ≡ k → slice_get (xs ++ x ∷ []) k ≡ Some x
get_behind [] zero x is = refl
get_behind [] (suc k) x is = cc
get_behind (y ∷ xs) zero x is = cc
get_behind (y ∷ xs) (suc k) x is = get_behind xs k x (omega (arith, is))

length_behind : (xs : List Command) (x : Command) → length (xs ++ x ∷ []) ≡ length xs + 1
length_behind [] x = refl
length_behind (y ∷ xs) x = ap suc (length_behind xs x) ∙ omega arith

-- so many commands were given, when one ran and this one is next, or none
counted_on : (given : List Command) (next : Option Command) (at after : ℕ) → length given ≡ at + 1 →
    after ≡ at + 1 → IsCounted (given ++ option_to_list next) next after
counted_on given None at after many is = rw append-nil (many ∙ sym is)
counted_on given (Some x) at after many is =
    (get_behind given after x (many ∙ sym is), length_behind given x ∙ ap (λ (k : ℕ). k + 1) (many ∙ sym is))

-- so many were given at the start
counted_first : (next : Option Command) → IsCounted (option_to_list next) next 0
counted_first None = refl
counted_first (Some x) = (refl, refl)

-- past all that were given there is none
given_past : (n : ℕ) (given : List Command) (k : ℕ) → length given ≡ k → slice_get (all_numbered n given) k ≡ None
given_past n [] k many = refl
given_past n (y ∷ ys) zero many = absurd (omega (arith, many))
given_past n (y ∷ ys) (suc k) many = given_past (n + 1) ys k (omega (arith, many))

-- the line of the command that has not run is that at which its rank waits
waits_at : (given : List Command) (at : ℕ) (next : Option Command) → IsCounted given next at →
    option_map (λ (c : Numbered). c.line) (slice_get (all_numbered 2 given) at)
    ≡ option_map (λ (x : Command). at + 2) next
waits_at given at None many =
    ap (λ (o : Option Numbered). option_map (λ (c : Numbered). c.line) o) (given_past 2 given at many)
waits_at given at (Some x) here =
    ap (λ (cs : List Numbered). option_map (λ (c : Numbered). c.line) (slice_get cs at))
    (sym (append-nil (all_numbered 2 given)))
    ∙ ap (λ (o : Option Numbered). option_map (λ (c : Numbered). c.line) o) (numbered_get 2 given at x [] here.0)
    ∙ ap (λ (k : ℕ). Some k) (omega arith)

-- commands in range are so with their lines
pub numbered_in_range : (n ranks : ℕ) (given : List Command) → AllInRange ranks given →
    AllByRecursion (λ (c : Numbered). is_in_range ranks c.command ≡ true) (all_numbered n given)
numbered_in_range n ranks [] all = tt
numbered_in_range n ranks (x ∷ xs) all = (all.0, numbered_in_range (n + 1) ranks xs all.1)

-- one more was given that may run, or none
pub in_range_more : (ranks at : ℕ) (stray : Option Command) (given : List Command) (next : Option Command) →
    AllInRange ranks given →
    IfSome next (λ x. (is_in_range ranks x ≡ true) × (at < 18446744073709551610) × (stray ≡ None)) →
    AllInRange ranks (given ++ option_to_list next)
in_range_more ranks at stray given next all runs =
    all_append (λ (x : Command). is_in_range ranks x ≡ true) given (option_to_list next) all (one next runs) where
      one : (o : Option Command) → IfSome o (λ x. (is_in_range ranks x ≡ true) × (at < 18446744073709551610) × (stray ≡ None)) →
          AllInRange ranks (option_to_list o)
      one None runs = tt
      one (Some x) runs = (runs.0, tt)

module _ {P : Type 0} where
  -- so it is with a program that gave a command last
  pub waits_given : (g : GivenView P) → IsCounted g.given g.next g.at →
      option_map (λ (c : Numbered). c.line) (slice_get (all_numbered 2 g.given) g.at)
      ≡ option_map (λ (x : Command). g.at + 2) g.next
  waits_given g counted = waits_at g.given g.at g.next counted

  -- at its end a program gives no more
  pub ended_given : (g : GivenView P) (commands : List Numbered) (last : ℕ) → g.next ≡ None →
      IsCounted g.given g.next g.at → gives_on g commands last → slice_get commands g.at ≡ None
  ended_given g commands last none counted gives =
      let same = subst (λ (o : Option Command). MatchOption o (commands ≡ all_numbered 2 g.given)
      (λ x. IsFront (all_numbered 2 g.given) commands)) none gives.0 in
      let many = subst (λ (o : Option Command). IsCounted g.given o g.at) none counted in
      ap (λ (cs : List Numbered). slice_get cs g.at) same ∙ given_past 2 g.given g.at many

  -- before its end its next command is next
  pub next_given : (g : GivenView P) (x : Command) (commands : List Numbered) (last : ℕ) → g.next ≡ Some x →
      IsCounted g.given g.next g.at → gives_on g commands last → IsNext commands g.at (last + 1) (g.at + 2) x
  next_given g x commands last some counted gives =
      let front = subst (λ (o : Option Command). MatchOption o (commands ≡ all_numbered 2 g.given)
      (λ x. IsFront (all_numbered 2 g.given) commands)) some gives.0 in
      let here = subst (λ (o : Option Command). IsCounted g.given o g.at) some counted in
      let high = gives.1 in
      let ends : g.at + 2 ≡ last + 1 = omega (arith, high) in
      subst (λ (k : ℕ). IsNext commands g.at k (g.at + 2) x) ends (pending_next g.given g.at x commands here.0 front)

  -- what it gives after one more ran, it gave before
  pub passed_given : (g h : GivenView P) (x : Command) → g.next ≡ Some x → IsCounted g.given g.next g.at →
      h.at ≡ g.at + 1 → h.given ≡ g.given ++ option_to_list h.next → (commands : List Numbered) (last : ℕ) →
      gives_on h commands last → PassedOn (gives_on g) commands g.at last
  passed_given g h x some counted at given commands last gives =
      let high = gives.1 in
      let front : IsFront (all_numbered 2 g.given) commands =
      front_less g.given (option_to_list h.next) commands
      (subst (λ (xs : List Command). IsFront (all_numbered 2 xs) commands) given (by h.next gives.0)) in
      let gave : gives_on g commands (g.at + 1) = (
        subst (λ (o : Option Command). MatchOption o (commands ≡ all_numbered 2 g.given)
            (λ x. IsFront (all_numbered 2 g.given) commands)) (sym some) front,
        refl,
      ) in record {
        before = g.at + 1;
        gives = gave;
        rises = λ line y is.
            let next = next_given g x commands (g.at + 1) some counted gave in
            let same : line ≡ g.at + 2 = ap (λ (o : Option Numbered). option_map_or (λ (c : Numbered). c.line) o 0)
            (sym is.next ∙ next.next) in
            omega (arith, same, at, high);
      } where
        by : (o : Option Command) → MatchOption o (commands ≡ all_numbered 2 h.given)
            (λ x. IsFront (all_numbered 2 h.given) commands) → IsFront (all_numbered 2 h.given) commands
        by None same = record { more = []; is = same ∙ sym (append-nil (all_numbered 2 h.given)) }
        by (Some y) front = front

  -- it gives what it gave so far
  pub some_given : (g : GivenView P) → GivesSome (gives_on g)
  some_given g = record {
    commands = all_numbered 2 g.given;
    last = g.at + 1;
    some = (by g.next, refl);
  } where
    by : (o : Option Command) → MatchOption o (all_numbered 2 g.given ≡ all_numbered 2 g.given)
        (λ x. IsFront (all_numbered 2 g.given) (all_numbered 2 g.given))
    by None = refl
    by (Some y) = record { more = []; is = sym (append-nil (all_numbered 2 g.given)) }

-- one more was given, or none
pub counted_more : (given : List Command) (next : Option Command) (at : ℕ) → length given ≡ at + 1 →
    IsCounted (given ++ option_to_list next) next (at + 1)
counted_more given next at many = counted_on given next at (at + 1) many refl

pub counted_some : (given : List Command) (next : Option Command) (x : Command) (at : ℕ) → next ≡ Some x →
    IsCounted given next at → length given ≡ at + 1
counted_some given next x at some counted = (subst (λ (o : Option Command). IsCounted given o at) some counted).1

-- a program that was told one answer more
talked_more : {P : Type 0} (says : P → Option Answer → Option Command → P → Type 0) (p : P) (now : Option Command)
    (told : List Answer) (q : P) (c : Command) (given : List Command) (a : Answer) (next : Option Command) (r : P) →
    Talked says p now told q (Some c) given → says q (Some a) next r →
    Talked says p now (told ++ a ∷ []) r next (given ++ option_to_list next)
talked_more {P} says p now [] q c given a next r talked said =
    let given_is : given ≡ c ∷ [] = talked.2 ∙ ap (λ (o : Option Command). option_to_list o) (sym talked.1) in
    subst (λ (o : Option Command). Talked says p o (a ∷ []) r next (given ++ option_to_list next)) talked.1 (
      r,
      next,
      option_to_list next,
      subst (λ (x : P). says x (Some a) next r) talked.0 said,
      ap (λ (xs : List Command). xs ++ option_to_list next) given_is,
      (refl, refl, refl),
    )
talked_more says p None (b ∷ told) q c given a next r talked said = absurd talked
talked_more says p (Some d) (b ∷ told) q c given a next r talked said =
    let mid = talked.0 in
    let then = talked.1 in
    let rest = talked.2 in (
      mid,
      then,
      rest ++ option_to_list next,
      talked.3,
      ap (λ (xs : List Command). xs ++ option_to_list next) talked.4,
      talked_more says mid then told q c rest a next r talked.5 said,
    )

-- so it is with the program of a source
pub played_more : {P : Type 0} (says : P → Option Answer → Option Command → P → Type 0) (g h : GivenView P) (c : Command)
    (a : Answer) (command : Option Command) → IsPlayed says g → g.next ≡ Some c → g.stray ≡ None →
    says g.program (Some a) command h.program → h.start ≡ g.start → h.told ≡ g.told ++ a ∷ [] →
    h.given ≡ g.given ++ option_to_list h.next → option_or h.stray h.next ≡ command →
    option_to_list h.next ++ option_to_list h.stray ≡ option_to_list command → IsPlayed says h
played_more {P} says g h c a command played next none said start told given last all =
    let one = played.played in
    let before : Talked says one.begun one.first g.told g.program (Some c) g.given =
    subst (λ (xs : List Command). Talked says one.begun one.first g.told g.program (Some c) xs)
    (ap (λ (o : Option Command). g.given ++ option_to_list o) none ∙ append-nil g.given)
    (subst (λ (o : Option Command). Talked says one.begun one.first g.told g.program o (g.given ++ option_to_list g.stray))
    (ap (λ (o : Option Command). option_or o g.next) none ∙ next) one.talked) in
    let more = talked_more says one.begun one.first g.told g.program c g.given a command h.program before said in
    let whole : h.given ++ option_to_list h.stray ≡ g.given ++ option_to_list command =
    ap (λ (xs : List Command). xs ++ option_to_list h.stray) given
    ∙ append_assoc g.given (option_to_list h.next) (option_to_list h.stray)
    ∙ ap (λ (xs : List Command). g.given ++ xs) all in
    record {
      start = played.start;
      begins = start ∙ played.begins;
      played = record {
        begun = one.begun;
        first = one.first;
        begins = one.begins;
        talked = subst (λ (xs : List Answer). Talked says one.begun one.first xs h.program (option_or h.stray h.next)
            (h.given ++ option_to_list h.stray)) (sym told)
            (subst (λ (xs : List Command). Talked says one.begun one.first (g.told ++ a ∷ []) h.program
            (option_or h.stray h.next) xs) (sym whole)
            (subst (λ (o : Option Command). Talked says one.begun one.first (g.told ++ a ∷ []) h.program o
            (g.given ++ option_to_list command)) (sym last) more));
      };
    }
