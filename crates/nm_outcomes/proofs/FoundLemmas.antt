-- What a run tells is told at the end of some moves.
use Rattle.std.proofs.Common.{◌≡◌, ℕ, suc, ◌+◌, ◌==◌, ◌&&◌, Bool, true, false, cond, Option, Some, None, List, [], ◌∷◌}
use Rattle.std.proofs.Common.{length, map, refl, sym, ◌∙◌, ap, subst, arith}
use Rattle.std.specs.Prelude.{nat_le, nat_lt, option_map}
use Rattle.std.specs.List.{AllByRecursion, find, list_all, range_with_len, slice_get}
use Rattle.nm_types.specs.declared.limits.TheConstants.{MAX_BODY, MAX_CONTEXT, MAX_NAME, MAX_TAG}
use Rattle.nm_types.specs.declared.scripts.Command.{Command}
use Rattle.nm_types.specs.declared.scripts.Command.TheVariants as command
use Rattle.nm_types.specs.Bodies.{body_len}
use Rattle.nm_types.specs.Limits.{IsScript, is_in_range}
use Rattle.nm_types.specs.declared.scripts.Line.{Line}
use Rattle.nm_types.specs.Commands.{Numbered, StandAtLines, command_at, commands_from, commands_of}
use Rattle.nm_types.specs.Sizes.{Sizes}
use Rattle.nm_history.specs.Quiescence.{history_of}
use Rattle.nm_report.specs.declared.accounts.RankAccount.{RankAccount}
use Rattle.nm_report.specs.declared.records.RunRecord.{RunRecord}
use Rattle.nm_report.specs.Ends.{end_of_account, ends_of, packets_of}
use Rattle.nm_report.specs.Lawful.{IsRunIn}
use Rattle.nm_report.specs.Told.{Told, told_of, told_of_rank}
use Rattle.nm_types.proofs.ListLemmas.{get_map, map_length}
use Rattle.nm_types.proofs.OptionLemmas.{no_some, same_some}
use Rattle.nm_types.proofs.TruthLemmas.{and_left, and_right, second_of_five}
use Rattle.nm_outcomes.specs.Logs.{Step}
use Rattle.nm_outcomes.specs.Outcomes.{RunsAreFound, told_at}
use Rattle.nm_outcomes.specs.Paths.{AreCommands, IsAddressed, first_place, moved_by}
use Rattle.nm_outcomes.specs.Places.{RankPoint}
use Rattle.nm_outcomes.proofs.Early.{is_below}
use Rattle.nm_history.specs.declared.events.Event.{Event}
use Rattle.nm_outcomes.specs.Logs.{IsLogOf}
use Rattle.nm_outcomes.specs.Places.{IsPlaceOf}
use Rattle.nm_outcomes.proofs.LogLemmas.{runs_have_logs}
use Rattle.nm_outcomes.proofs.PathLemmas.{loud_path}
use Rattle.nm_outcomes.proofs.RestLemmas.{at_rest, told_is, waits_is}

-- the commands of a script are in range
in_range_from : (ranks rank number : ℕ) (lines : List Line) →
    list_all (λ (l : Line). nat_lt l.rank ranks && is_in_range ranks l.command) lines ≡ true →
    AllByRecursion (λ (c : Numbered). is_in_range ranks c.command ≡ true) (commands_from rank number lines)
in_range_from ranks rank number [] fine = tt
in_range_from ranks rank number (l ∷ lines) fine =
    by_rank (l.rank == rank)
    (and_right (nat_lt l.rank ranks) (is_in_range ranks l.command)
    (and_left (nat_lt l.rank ranks && is_in_range ranks l.command) _ fine))
    (in_range_from ranks rank (number + 1) lines
    (and_right (nat_lt l.rank ranks && is_in_range ranks l.command) _ fine))
  where
    by_rank : (b : Bool) → is_in_range ranks l.command ≡ true →
        AllByRecursion (λ (c : Numbered). is_in_range ranks c.command ≡ true) (commands_from rank (number + 1) lines) →
        AllByRecursion (λ (c : Numbered). is_in_range ranks c.command ≡ true)
        (cond b (record { line = number; command = l.command } ∷ commands_from rank (number + 1) lines)
        (commands_from rank (number + 1) lines))
    by_rank true own later = (own, later)
    by_rank false own later = later

found_of_all : {X : Type 0} (P : X → Type 0) (test : X → Bool) (xs : List X) (x : X) → AllByRecursion P xs →
    find test xs ≡ Some x → P x
found_of_all P test [] x all found = absurd (no_some x found)
found_of_all {X} P test (y ∷ ys) x all found =
    by_test (test y) found (λ found. found_of_all P test ys x all.1 found)
  where
    by_test : (b : Bool) → cond b (Some y) (find test ys) ≡ Some x → (find test ys ≡ Some x → P x) → P x
    by_test true found later = subst P (same_some y x found) all.0
    by_test false found later = later found

sends_within : (ranks : ℕ) (c : Command) → is_in_range ranks c ≡ true → IsAddressed ranks c
sends_within ranks (command.Send to q tag ctx sync body) fine =
    is_below to ranks
    (second_of_five (nat_le q MAX_NAME) (nat_lt to ranks) (nat_le tag MAX_TAG) (nat_le ctx MAX_CONTEXT)
    (nat_le (body_len body) MAX_BODY) fine)
sends_within ranks c fine = tt

pub commands_in_range : (ranks : ℕ) (lines : List Line) → IsScript ranks lines → (i line : ℕ) (c : Command) →
    command_at (commands_of i lines) line ≡ Some c → is_in_range ranks c ≡ true
commands_in_range ranks lines script i line c here =
    by_found (find (λ (c : Numbered). c.line == line) (commands_of i lines)) refl here
  where
    by_found : (o : Option Numbered) → find (λ (c : Numbered). c.line == line) (commands_of i lines) ≡ o →
        option_map (λ (c : Numbered). c.command) o ≡ Some c → is_in_range ranks c ≡ true
    by_found None found here = absurd (no_some c here)
    by_found (Some x) found here =
        subst (λ (c : Command). is_in_range ranks c ≡ true) (same_some x.command c here)
        (found_of_all (λ (c : Numbered). is_in_range ranks c.command ≡ true) (λ (c : Numbered). c.line == line)
        (commands_of i lines) x (in_range_from ranks i 2 lines script.lines_in_range) found)

pub script_commands : (ranks : ℕ) (lines : List Line) → StandAtLines → IsScript ranks lines → AreCommands ranks lines
script_commands ranks lines stand script = record {
  stand = λ i k c here. stand i lines k c here;
  addressed = λ i line c here. sends_within ranks c (commands_in_range ranks lines script i line c here);
}

-- where each element has what its number says, all have
each_numbered : {A B : Type 0} (f : A → B) (T : ℕ → B) (n : ℕ) (xs : List A) →
    ((k : ℕ) (x : A) → slice_get xs k ≡ Some x → f x ≡ T (n + k)) → map f xs ≡ map T (range_with_len n (length xs))
each_numbered f T n [] each = refl
each_numbered {A} {B} f T n (x ∷ xs) each =
    ap (λ (y : B). y ∷ map f xs) (each 0 x refl ∙ ap T (add_zero n))
    ∙ ap (λ (ys : List B). T n ∷ ys) (each_numbered f T (n + 1) xs (λ k y here. each (suc k) y here
    ∙ ap T (shift n k)))
  where
    add_zero : (n : ℕ) → n + 0 ≡ n
    add_zero n = omega arith

    shift : (n k : ℕ) → n + suc k ≡ n + 1 + k
    shift n k = omega arith

module _ (shape : Sizes) (lines : List Line) (run : RunRecord) (commands : AreCommands shape.ranks lines)
    (is : IsRunIn shape lines run) (log : List Step) (log_of : IsLogOf shape lines (ends_of run.ranks) log)
    (w : ℕ → RankPoint) (ends : (i : ℕ) → IsPlaceOf i (commands_of i lines) (history_of (ends_of run.ranks) i) (w i))
  where
    rank_told : (k : ℕ) (a : RankAccount) → slice_get run.ranks k ≡ Some a → told_of_rank a ≡ told_at lines w k
    rank_told k a here =
        let there : slice_get (ends_of run.ranks) k ≡ Some (end_of_account a) =
        get_map end_of_account run.ranks k a here in
        ap (λ (ts : List Told). record { answers = ts; waits = a.waits })
        (sym (told_is shape lines (ends_of run.ranks) (packets_of run.pairs) commands is.lawful log log_of w ends k
        (end_of_account a) there))
        ∙ ap (λ (o : Option ℕ). record { answers = (w k).told; waits = o })
        (waits_is shape lines (ends_of run.ranks) (packets_of run.pairs) commands is.lawful log log_of w ends k
        (end_of_account a)
        there)

    zero_add : (k : ℕ) → 0 + k ≡ k
    zero_add k = omega arith

    pub all_told : told_of run ≡ map (told_at lines w) (range_with_len 0 shape.ranks)
    all_told =
        each_numbered told_of_rank (told_at lines w) 0 run.ranks
        (λ k a here. rank_told k a here ∙ ap (told_at lines w) (sym (zero_add k)))
        ∙ ap (λ (n : ℕ). map (told_at lines w) (range_with_len 0 n))
        (sym (map_length end_of_account run.ranks) ∙ is.lawful.one_each)

pub runs_are_found : StandAtLines → RunsAreFound
runs_are_found stand shape lines run script is =
    let commands = script_commands shape.ranks lines stand script in
    let log = runs_have_logs shape lines (ends_of run.ranks) (packets_of run.pairs) is.lawful in
    let loud = loud_path shape lines (ends_of run.ranks) (packets_of run.pairs) commands is.lawful log.0 log.1 in
    let w : ℕ → RankPoint = moved_by lines (λ i. first_place) loud.0 in
    let ends : (i : ℕ) → IsPlaceOf i (commands_of i lines) (history_of (ends_of run.ranks) i) (w i) =
    λ i. subst (λ (h : List Event). IsPlaceOf i (commands_of i lines) h (w i)) (log.1.histories i) (loud.1.2 i) in (
      loud.0,
      record {
        moves = loud.1.0;
        loud = loud.1.1;
        rest = at_rest shape lines (ends_of run.ranks) (packets_of run.pairs) commands is.lawful log.0 log.1 w ends;
        told = all_told shape lines run commands is log.0 log.1 w ends;
      },
    )
