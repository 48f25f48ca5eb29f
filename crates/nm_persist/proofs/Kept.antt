-- The law: in a lawful run of a plan's script each line that a rank's text shows keeps its promise.
use Rattle.std.proofs.Common.{◌≡◌, ℕ, ◌+◌, ◌<◌, ◌≤◌, ◌==◌, Bool, true, false, cond, Option, Some, None}
use Rattle.std.proofs.Common.{List, [], ◌∷◌, ◌++◌, length, map, refl, sym, ◌∙◌, ap, subst, arith, append-nil}
use Rattle.std.proofs.Common.{append_assoc, drop, take, ◌⊎◌, inl, inr}
use Rattle.std.specs.Prelude.{IfSome, codes, nat_lt}
use Rattle.std.specs.List.{AllByRecursion, fold, range_with_len}
use Rattle.std.specs.Option.{option_map_or}
use Rattle.std.proofs.lemmas.Bool.Decides.{nat_tests}
use Rattle.std.proofs.lemmas.List.{length-map, map-append, take-append-drop}
use Rattle.std.proofs.lemmas.List.Sums.{fold-append}
use Rattle.nm_types.specs.declared.answers.Answer.{Answer}
use Rattle.nm_types.specs.declared.scripts.Command.{Command}
use Rattle.nm_types.specs.declared.scripts.Command.TheVariants as command
use Rattle.nm_types.specs.Commands.{commands_of as numbered_of}
use Rattle.nm_types.specs.Sizes.{Sizes}
use Rattle.nm_history.specs.declared.events.Event.{Event}
use Rattle.nm_history.specs.Answers.{is_started}
use Rattle.nm_sure.proofs.Rising.{Rising}
use Rattle.nm_plans.specs.declared.lines.PlanCommand.{PlanCommand}
use Rattle.nm_plans.specs.declared.lines.PlanCommand.TheVariants.{SendInit, RecvInit, PsendInit, PrecvInit, Fill}
use Rattle.nm_plans.specs.declared.lines.PlanCommand.TheVariants.{Start, Ready, Arrived, Wait}
use Rattle.nm_plans.specs.declared.lines.PlanLine.{PlanLine}
use Rattle.nm_plans.specs.Grammar.{request_in}
use Rattle.nm_plans.specs.declared.requests.requests.Owner.{Owner}
use Rattle.nm_plans.specs.declared.requests.requests.Request.{Request}
use Rattle.nm_plans.specs.declared.requests.requests.Side.{Side}
use Rattle.nm_plans.specs.declared.requests.requests.Side.TheVariants.{Sends, Receives}
use Rattle.nm_plans.specs.Expansion.{commands_of, expand, expand_behind, lines_for, name_of, wait_of}
use Rattle.nm_plans.specs.PlanRequests.{is_sending, owner_of, part_count, request_at}
use Rattle.nm_plans.proofs.PartLemmas.{part_lengths}
use Rattle.nm_persist.specs.declared.asked.Asked.{Asked}
use Rattle.nm_persist.specs.declared.asked.Show.TheVariants as show
use Rattle.nm_persist.specs.Report.{Named, arrived_word, asked_at, asked_behind, asked_by, first_answer, first_name}
use Rattle.nm_persist.specs.Report.{last_result, named_from, received, result_behind, shows, words_shown}
use Rattle.nm_persist.specs.Names.{Done, are_apart, end_after, last_end}
use Rattle.nm_persist.specs.Promises.{Entry, KeepsPromise, IsHere, IsWaited, Promised, PromisedOf, ShowsBody, entries}
use Rattle.nm_persist.specs.Promises.{entry_words}
use Rattle.nm_persist.proofs.Items.{part_in}
use Rattle.nm_persist.proofs.Aligned.{answers, cmds, cut_at, drop_map, results_same, take_map}
use Rattle.nm_persist.proofs.Keeping.{fine_line}
use Rattle.nm_persist.proofs.LinesRead.{starts_one}
use Rattle.nm_persist.proofs.Owned.{own-append, own_block, own_commands}
use Rattle.nm_persist.proofs.Partnering.{Last}
use Rattle.nm_persist.proofs.Quiet.{NamedRun}
use Rattle.nm_persist.proofs.States.{State}
use Rattle.nm_persist.proofs.Tracked.{AreFine, few_parts, own-more, part_low}
use Rattle.nm_persist.proofs.Waited.{arrived_shown, wait_shown}
use Rattle.nm_types.proofs.NumberLemmas.{same_number}
use Rattle.nm_types.proofs.ListLemmas.{all_split}
use Rattle.nm_types.specs.Bodies.{HaveTheirLength}

-- the entry of a line, by its command and its request
abbrev entry_of : ℕ → ℕ → PlanCommand → Option Request → List Answer → List Named → Entry
entry_of number rank c o own told = record {
  asked = record {
    rank = rank;
    line = number;
    name = first_name c;
    count = length (commands_of c o);
    show = option_map_or (shows c) o show.Nothing;
  };
  own = own;
  told = told;
}

module _ (shape : Sizes) (lines : List PlanLine) (at : ℕ → ℕ) (hist : ℕ → List Event)
    (run : NamedRun shape (λ rank. numbered_of rank (expand lines)) at hist) (lengths : HaveTheirLength)
    (fine : AreFine shape.ranks lines) (rising : (i : ℕ) → Rising 2 (numbered_of i (expand lines)))
    (lasts : (i : ℕ) → i < shape.ranks → (ran : List Done) × Last shape lines at hist run lengths fine rising i ran)
    (j : ℕ) (inside : j < shape.ranks) (rises : Rising 2 (numbered_of j (expand lines)))
    (apart : (q : ℕ) → are_apart q false (map (λ c. c.command) (numbered_of j (expand lines))) ≡ true)
    (ran : List Done) (begun : AllByRecursion (λ (d : Done). starts_one d.own.command ≡ true →
    is_started d.answer ≡ true) ran)
    (states : (front back : List Done) → ran ≡ front ++ back → (h : List Event)
    × State shape (λ rank. numbered_of rank (expand lines)) at hist run lengths j inside rises apart h front) where
  -- what a line promises of its entry
  module _ (before : List PlanLine) (line : PlanLine) (after : List PlanLine) (split : lines ≡ before ++ line ∷ after)
      (own : line.rank ≡ j)
      (front block : List Done) (back : List Done) (cut : ran ≡ front ++ (block ++ back))
      (done : cmds (front ++ block) ≡ own_commands j (expand (before ++ line ∷ []))) (told : List Named)
      (same : (q : ℕ) → last_result told q ≡ last_end q (front ++ block)) (number : ℕ) where
    known : (h : List Event) × State shape (λ rank. numbered_of rank (expand lines)) at hist run lengths j inside
        rises apart h (front ++ block)
    known = states (front ++ block) back (cut ∙ sym (append_assoc front block back))

    owner_at : (c : PlanCommand) → line.command ≡ c → owner_of line ≡ record { rank = j; p = request_in c }
    owner_at c is =
        ap (λ (rank : ℕ). record { rank = rank; p = request_in line.command }) own
        ∙ ap (λ (c : PlanCommand). record { rank = j; p = request_in c }) is

    few : (r : Request) → request_at before (owner_of line) ≡ Some r → part_count r ≤ 16
    few r made = of_some (request_at before (owner_of line)) made
        (few_parts shape.ranks before line (owner_of line) (fine_line shape.ranks lines before line after split fine))
      where
        of_some : (o : Option Request) → o ≡ Some r → IfSome o (λ r. part_count r ≤ 16) → part_count r ≤ 16
        of_some None is all = absurd (grind (arith, is))
        of_some (Some s) is all = let same : s ≡ r = cc in subst (λ (r : Request). part_count r ≤ 16) same all

    wait_kept : (p : ℕ) (r : Request) (cap : ℕ) → line.command ≡ Wait p → request_at before (owner_of line) ≡ Some r →
        r.side ≡ Receives cap →
        IsWaited lines before (owner_of line) r (entry_of number line.rank (Wait p) (Some r) (answers block) told)
    wait_kept p r cap is made side =
        let o : Owner = record { rank = j; p = p } in
        let here = owner_at (Wait p) is in
        let shown = wait_shown shape lines at hist run lengths fine rising lasts j inside rises apart before line
        after split p r cap
        (subst (λ (o : Owner). request_at before o ≡ Some r) here made) side (front ++ block) known.0 known.1 done
        here is (few r made) told same in
        subst (λ (o : Owner). IsWaited lines before o r
        (entry_of number line.rank (Wait p) (Some r) (answers block) told)) (sym here)
        (record {
          body = shown.0;
          start = shown.1;
          shown = subst (λ (ws : List (List ℕ)). ShowsBody r.peer r.tag shown.0 ws) (sym (words side)) shown.2;
        })
      where
        words : r.side ≡ Receives cap → entry_words (entry_of number line.rank (Wait p) (Some r) (answers block) told)
            ≡ received r.peer r.tag (map (λ k. last_result told (name_of p 0 + k)) (range_with_len 0 (part_count r)))
        words side =
            ap (λ (s : Side). words_shown (cond (is_sending s) show.Sent (show.Received r.peer r.tag)) (answers block)
            (map (λ k. last_result told (name_of p 0 + k))
            (range_with_len 0 (length (commands_of (Wait p) (Some r)))))) side
            ∙ ap (λ (n : ℕ). received r.peer r.tag (map (λ k. last_result told (name_of p 0 + k)) (range_with_len 0 n)))
            (part_lengths (λ k. wait_of p k) (part_count r))

    arrived_kept : (p k : ℕ) (r : Request) (cap : ℕ) → line.command ≡ Arrived p k → request_at before (owner_of line)
        ≡ Some r → r.side ≡ Receives cap →
        cmds block ≡ command.Test (name_of p k) ∷ [] →
        entry_words (entry_of number line.rank (Arrived p k) (Some r) (answers block) told) ≡ codes "yes" ∷ [] →
        (r.active ≡ false) ⊎ IsHere lines before (owner_of line) r k
        (entry_of number line.rank (Arrived p k) (Some r) (answers block) told)
    arrived_kept p k r cap is made side one says = by_block block refl one says
      where
        here : owner_of line ≡ record { rank = j; p = p }
        here = owner_at (Arrived p k) is

        low : k < 16
        low = subst (λ (c : PlanCommand). part_in c < 16) is
            (part_low shape.ranks line.command (fine_line shape.ranks lines before line after split fine).range)

        by_block : (ds : List Done) → block ≡ ds → cmds ds ≡ command.Test (name_of p k) ∷ [] →
            arrived_word (first_answer (answers ds)) ∷ [] ≡ codes "yes" ∷ [] →
            (r.active ≡ false) ⊎ IsHere lines before (owner_of line) r k
            (entry_of number line.rank (Arrived p k) (Some r) (answers block) told)
        by_block [] is_block one says = absurd (grind (arith, one))
        by_block (d ∷ e ∷ ds) is_block one says = absurd (grind (arith, one))
        by_block (d ∷ []) is_block one says =
            let asks : d.own.command ≡ command.Test (name_of p k) = cc in
            elim (arrived_shown shape lines at hist run lengths fine rising lasts j inside rises apart before line
            after split p r cap
            (subst (λ (o : Owner). request_at before o ≡ Some r) here made) side (front ++ block) known.0 known.1 done
            k here is low told same front d
            (ap (λ (ds : List Done). front ++ ds) is_block) asks says) [
              | inl idle ↦ inl idle
              | inr shown ↦ inr (subst (λ (o : Owner). IsHere lines before o r k
                  (entry_of number line.rank (Arrived p k) (Some r) (answers block) told)) (sym here)
                  (record { body = shown.0; start = shown.1; result = shown.2 }))
            ]

    promise : cmds block ≡ commands_of line.command (request_at before (owner_of line)) →
        PromisedOf lines before (owner_of line) line.command (request_at before (owner_of line))
        (entry_of number line.rank line.command (request_at before (owner_of line)) (answers block) told)
    promise block_is = by_request (request_at before (owner_of line)) refl block_is
      where
        by_side : (c : PlanCommand) → line.command ≡ c → (r : Request) → request_at before (owner_of line) ≡ Some r →
            cmds block ≡ commands_of c (Some r) →
            (s : Side) → r.side ≡ s → Promised lines before (owner_of line) c r s
            (entry_of number line.rank c (Some r) (answers block) told)
        by_side (Wait p) is r made block_is (Receives cap) side = wait_kept p r cap is made side
        by_side (Arrived p k) is r made block_is (Receives cap) side = λ says. arrived_kept p k r cap is made side
            block_is says
        by_side (Wait p) is r made block_is (Sends body) side = tt
        by_side (Arrived p k) is r made block_is (Sends body) side = tt
        by_side (SendInit p to tag ctx body) is r made block_is s side = tt
        by_side (RecvInit p from tag ctx cap) is r made block_is s side = tt
        by_side (PsendInit p to tag ctx parts body) is r made block_is s side = tt
        by_side (PrecvInit p from tag ctx parts cap) is r made block_is s side = tt
        by_side (Fill p body) is r made block_is s side = tt
        by_side (Start p) is r made block_is s side = tt
        by_side (Ready p k) is r made block_is s side = tt

        by_request : (o : Option Request) → request_at before (owner_of line) ≡ o →
            cmds block ≡ commands_of line.command o →
            PromisedOf lines before (owner_of line) line.command o
            (entry_of number line.rank line.command o (answers block) told)
        by_request None is block_is = tt
        by_request (Some r) is block_is = by_side line.command refl r is block_is r.side refl

  -- the lines that are left
  kept_rest : (before rest : List PlanLine) → lines ≡ before ++ rest → (front back : List Done) (M : List Command) →
      ran ≡ front ++ back →
      cmds front ≡ own_commands j (expand before) → cmds back ++ M ≡ own_commands j (expand_behind before rest) →
      AllByRecursion (λ (d : Done). starts_one d.own.command ≡ true → is_started d.answer ≡ true) back →
      (told : List Named) →
      ((q : ℕ) → last_result told q ≡ last_end q front) →
      AllByRecursion (λ e. KeepsPromise lines j e) (entries (asked_at j (asked_behind before rest)) told (answers back))
  kept_rest before [] split front back M cut done left taken told same = tt
  kept_rest before (line ∷ rest) split front back M cut done left taken told same =
      by_rank (line.rank == j) refl
      (λ front' back' told' cut' done' left' taken' same'. kept_rest (before ++ line ∷ []) rest
      (split ∙ sym (append_assoc before (line ∷ []) rest))
      front' back' M cut' done' left' taken' told' same')
    where
      o : Option Request
      o = request_at before (owner_of line)

      number : ℕ
      number = length before + 2

      Later : Type 0
      Later =
          (front' back' : List Done) (told' : List Named) → ran ≡ front' ++ back' → cmds front' ≡ own_commands j
          (expand (before ++ line ∷ [])) →
          cmds back' ++ M ≡ own_commands j (expand_behind (before ++ line ∷ []) rest) →
          AllByRecursion (λ (d : Done). starts_one d.own.command ≡ true → is_started d.answer ≡ true) back' →
          ((q : ℕ) → last_result told' q ≡ last_end q front') →
          AllByRecursion (λ e. KeepsPromise lines j e) (entries (asked_at j (asked_behind (before ++ line ∷ []) rest)) told'
          (answers back'))

      n : ℕ
      n = length (commands_of line.command o)

      rest_at : List Asked
      rest_at = asked_at j (asked_behind (before ++ line ∷ []) rest)

      tail : List Command
      tail = own_commands j (expand_behind (before ++ line ∷ []) rest)

      block : List Done
      block = take n back

      left_by : (b : Bool) → (line.rank == j) ≡ b → cmds back ++ M ≡ cond b (commands_of line.command o) [] ++ tail
      left_by b is =
          left ∙ own-append j (lines_for line o) (expand_behind (before ++ line ∷ []) rest)
          ∙ ap (λ (cs : List Command). cs ++ tail) (own_block j line.rank (commands_of line.command o)
          ∙ ap (λ (b : Bool). cond b (commands_of line.command o) []) is)

      done_by : (b : Bool) → (line.rank == j) ≡ b →
          own_commands j (expand (before ++ line ∷ [])) ≡ own_commands j (expand before) ++ cond b
          (commands_of line.command o) []
      done_by b is =
          own-more j before line
          ∙ ap (λ (b : Bool). own_commands j (expand before) ++ cond b (commands_of line.command o) []) is

      le_of : (a b : ℕ) → nat_lt a b ≡ false → b ≤ a
      le_of a b is = grind (arith, nat_tests)

      by_enough : (line.rank == j) ≡ true → (b : Bool) → nat_lt (length (answers back)) n ≡ b → Later →
          AllByRecursion (λ e. KeepsPromise lines j e) (cond b []
          (record {
            asked = asked_by number line o;
            own = take n (answers back);
            told = told ++ named_from
                (first_name line.command) (take n (answers back));
          }
          ∷ entries rest_at (told ++ named_from (first_name line.command) (take n (answers back)))
          (drop n (answers back))))
      by_enough own true short later = tt
      by_enough own false long later =
          let few : n ≤ length (cmds back) =
          (let low = le_of (length (answers back)) n long in
          let one = length-map back (λ (d : Done). d.answer) in
          let two = length-map back (λ (d : Done). d.own.command) in omega (arith, low, one, two)) in
          let cut2 = cut_at (cmds back) M (commands_of line.command o) tail (left_by true own) few in
          let block_is : cmds block ≡ commands_of line.command o = sym (take_map (λ (d : Done). d.own.command) n back)
          ∙ cut2.0 in
          let apart2 : take n back ++ drop n back ≡ back = take-append-drop n back in
          let cut3 : ran ≡ front ++ (block ++ drop n back) = cut ∙ ap (λ (ds : List Done). front ++ ds) (sym apart2) in
          let done3 : cmds (front ++ block) ≡ own_commands j (expand (before ++ line ∷ [])) =
          map-append (λ (d : Done). d.own.command) front block ∙ ap (λ (cs : List Command). cs ++ cmds block) done
          ∙ ap (λ (cs : List Command). own_commands j (expand before) ++ cs) block_is ∙ sym (done_by true own) in
          let taken2 = all_split (λ (d : Done). starts_one d.own.command ≡ true → is_started d.answer ≡ true) block
          (drop n back)
          (subst (λ (ds : List Done). AllByRecursion (λ (d : Done). starts_one d.own.command ≡ true →
          is_started d.answer ≡ true) ds) (sym apart2) taken) in
          let told' : List Named = told ++ named_from (first_name line.command) (answers block) in
          let same3 = λ (q : ℕ).
          fold-append (result_behind q) None told (named_from (first_name line.command) (answers block))
          ∙ ap (λ (x : Option Answer). fold (result_behind q) x
          (named_from (first_name line.command) (answers block))) (same q)
          ∙ results_same q line.command o block (last_end q front) block_is taken2.0
          ∙ sym (fold-append (end_after q) None front block) in
          subst (λ (own : List Answer). AllByRecursion (λ e. KeepsPromise lines j e)
          (record { asked = asked_by number line o; own = own; told = told ++ named_from (first_name line.command) own }
          ∷ entries rest_at (told ++ named_from (first_name line.command) own) (drop n (answers back))))
          (sym (take_map (λ (d : Done). d.answer) n back))
          (subst (λ (others : List Answer). AllByRecursion (λ e. KeepsPromise lines j e)
          (record { asked = asked_by number line o; own = answers block; told = told' } ∷ entries rest_at told'
          others)) (sym (drop_map (λ (d : Done). d.answer) n back)) (
            record {
              before = before;
              line = line;
              after = rest;
              split = split;
              own = same_number line.rank j own;
              asks = refl;
              promise = promise before line rest split (same_number line.rank j own) front block
                  (drop n back) cut3 done3 told' same3 number block_is;
            },
            later (front ++ block) (drop n back) told' (cut3 ∙ sym (append_assoc front block (drop n back))) done3
                (ap (λ (cs : List Command). cs ++ M) (sym (drop_map (λ (d : Done). d.own.command) n back)) ∙ cut2.1)
                taken2.1 same3,
          ))

      by_rank : (b : Bool) → (line.rank == j) ≡ b → Later →
          AllByRecursion (λ e. KeepsPromise lines j e) (entries (cond b (asked_by number line o ∷ rest_at) rest_at) told
          (answers back))
      by_rank false other later =
          later front back told cut (done ∙ sym (done_by false other ∙ append-nil (own_commands j (expand before))))
          (left_by false other) taken same
      by_rank true own later = by_enough own (nat_lt (length (answers back)) n) refl later

  -- all lines of a rank
  pub kept_all : (M : List Command) → cmds ran ++ M ≡ own_commands j (expand lines) →
      AllByRecursion (λ e. KeepsPromise lines j e) (entries (asked_at j (asked_behind [] lines)) [] (answers ran))
  unfolding expand
  kept_all M left = kept_rest [] lines refl [] ran M refl refl left begun [] (λ q. refl)
