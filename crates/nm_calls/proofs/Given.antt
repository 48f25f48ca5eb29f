-- The calls that were given.
use Rattle.std.proofs.Common.{◌≡◌, ℕ, ◌+◌, ◌<◌, ◌≤◌, false, true, Option, Some, None, List, [], ◌∷◌, ◌++◌, length, refl, sym, ap, subst}
use Rattle.std.proofs.Common.{◌∙◌, arith, append-nil}
use Rattle.std.specs.Prelude.{IfSome, IsSome, option_to_list, slice_get}
use Rattle.std.specs.Option.{option_map_or}
use Rattle.nm_types.specs.declared.scripts.Command.{Command}
use Rattle.nm_types.specs.Commands.{Numbered}
use Rattle.nm_types.specs.Limits.{is_in_range}
use Rattle.nm_types.proofs.ListLemmas.{all_append}
use Rattle.nm_process.specs.Playing.{AllInRange, GivenView, all_numbered}
use Rattle.nm_process.specs.Sources.{PassedOn}
use Rattle.nm_process.specs.Work.{IsNext}
use Rattle.nm_process.proofs.PlayLemmas.{ended_given}
use Rattle.nm_calls.specs.Calling.{CallsView, ahead, gave}
use Rattle.nm_calls.proofs.Longer.{last_next}

-- behind those that ran there is none
pub none_next : (c : CallsView) (commands : List Numbered) (last : ℕ) → c.next ≡ None → length c.given ≡ c.at →
    gave c commands last → slice_get commands c.at ≡ None
none_next c commands last none many gives =
    let all : GivenView (Unit {0}) = record {
      ranks = c.ranks;
      start = [];
      program = tt;
      next = None;
      stray = None;
      at = c.at;
      given = c.given;
      told = [];
      failed = false;
    } in
    ended_given all commands last refl many (
      gives.0 ∙ ap (λ (o : Option Command). all_numbered 2 (c.given ++ option_to_list o)) none
          ∙ ap (λ (xs : List Command). all_numbered 2 xs) (append-nil c.given),
      gives.1,
    )

-- or this one
pub some_next : (c : CallsView) (x : Command) (commands : List Numbered) (last : ℕ) → c.next ≡ Some x →
    length c.given ≡ c.at → gave c commands last → IsNext commands c.at (last + 1) (c.at + 2) x
some_next c x commands last some many gives =
    let is = gives.0 ∙ ap (λ (o : Option Command). all_numbered 2 (c.given ++ option_to_list o)) some in
    let high = gives.1 in
    let ends : c.at + 2 ≡ last + 1 = omega (arith, high) in
    subst (λ (k : ℕ). IsNext commands c.at k (c.at + 2) x) ends
    (subst (λ (cs : List Numbered). IsNext cs c.at (c.at + 2) (c.at + 2) x) (sym is)
    (subst (λ (k : ℕ). IsNext (all_numbered 2 (c.given ++ x ∷ [])) k (k + 2) (k + 2) x) many (last_next c.given x)))

pub has_some : (o : Option Command) → IsSome o → (x : Command) × (o ≡ Some x)
has_some None some = cc
has_some (Some x) some = (x, refl)

-- once it ran, the calls are those that were given before
pub passed_next : (c d : CallsView) (x : Command) (commands : List Numbered) (last : ℕ) → c.next ≡ Some x →
    length c.given ≡ c.at → d.given ≡ c.given ++ x ∷ [] → d.next ≡ None → d.at ≡ c.at + 1 → gave d commands last →
    PassedOn (gave c) commands c.at last
passed_next c d x commands last some many given none at gives =
    let is : commands ≡ all_numbered 2 (c.given ++ option_to_list c.next) =
    gives.0 ∙ ap (λ (o : Option Command). all_numbered 2 (d.given ++ option_to_list o)) none
    ∙ ap (λ (xs : List Command). all_numbered 2 xs) (append-nil d.given ∙ given)
    ∙ ap (λ (o : Option Command). all_numbered 2 (c.given ++ option_to_list o)) (sym some) in
    let one = some_next c x commands (c.at + 1) some many (is, refl) in
    let high = gives.1 in
    record {
      before = c.at + 1;
      gives = (is, refl);
      rises = λ line y next.
          let same : line ≡ c.at + 2 = ap (λ (o : Option Numbered). option_map_or (λ (n : Numbered). n.line) o 0)
          (sym next.next ∙ one.next) in
          omega (arith, same, at, high);
    }

-- all that were given are in range, the one that is ahead among them
pub all_ahead : (c : CallsView) → AllInRange c.ranks c.given →
    IfSome c.next (λ x. (is_in_range c.ranks x ≡ true) × (c.at < 18446744073709551610)) → AllInRange c.ranks (ahead c)
all_ahead c all runs =
    all_append (λ (x : Command). is_in_range c.ranks x ≡ true) c.given (option_to_list c.next) all (one c.next runs)
  where
    one : (o : Option Command) → IfSome o (λ x. (is_in_range c.ranks x ≡ true) × (c.at < 18446744073709551610)) →
        AllInRange c.ranks (option_to_list o)
    one None runs = tt
    one (Some x) runs = (runs.0, tt)
