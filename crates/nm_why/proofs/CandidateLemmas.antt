-- The commands that lines name, the next command of a rank, and the single changes of a line.
use Rattle.std.proofs.Common.{◌≡◌, ◌⊎◌, inl, inr, ℕ, ◌+◌, ◌<◌, ◌≤◌, true, Option, Some, None, List, ◌∙◌, ap}
use Rattle.std.proofs.Common.{arith, get_or, length, refl, subst, sym, take}
use Rattle.std.specs.Prelude.{◌≢◌, Contains}
use Rattle.std.specs.List.{slice_get}
use Rattle.std.proofs.lemmas.Bool.{cases_lt}
use Rattle.std.proofs.lemmas.Option.{get_or_from_slice_get, slice_get_read, slice_get_within}
use Rattle.nm_types.specs.declared.messages.Peer.TheVariants as peer
use Rattle.nm_types.specs.declared.messages.TagPick.{TagPick}
use Rattle.nm_types.specs.declared.messages.TagPick.TheVariants as pick
use Rattle.nm_types.specs.declared.scripts.Command.{Command}
use Rattle.nm_types.specs.declared.scripts.Line.{Line}
use Rattle.nm_why.specs.declared.changes.Change.{Change}
use Rattle.nm_why.specs.declared.changes.Change.TheVariants.{Edited, Swapped, LeftOut}
use Rattle.nm_why.specs.declared.changes.Edit.{Edit}
use Rattle.nm_why.specs.declared.changes.Edit.TheVariants.{Source, Tag, Context, Synchronous}
use Rattle.nm_why.specs.Candidates.{AreNext, IsEdit, IsNamed, IsSingle, context_of, may_go, place_of, tag_of}
use Rattle.nm_why.specs.Changes.{edited}
use Rattle.nm_why.specs.Lists.{Keeps}
use Rattle.nm_why.proofs.ListLemmas.{taken_cases}

-- what one of the first lines names, with one line more
pub named_more : {X : Type 0} (of : Command → Option X) (lines : List Line) (k : ℕ) (line : Line) (x : X) →
    k < length lines → line ≡ get_or lines k line → IsNamed of (take (k + 1) lines) x →
    IsNamed of (take k lines) x ⊎ (of line.command ≡ Some x)
named_more {X} of lines k line x low is (j, l, there, says) =
    by_place
    (taken_cases lines k line l low
    (j, slice_get_within (take (k + 1) lines) j l there, get_or_from_slice_get (take (k + 1) lines) j l l there))
  where
    by_place : Contains (take k lines) l ⊎ (get_or lines k line ≡ l) →
        IsNamed of (take k lines) x ⊎ (of line.command ≡ Some x)
    by_place (inl (i, within, here)) =
        inl (i, l, slice_get_read (take k lines) (length (take k lines)) i l refl within (sym here), says)
    by_place (inr last) = inr (subst (λ (m : Line). of m.command ≡ Some x) (sym (is ∙ last)) says)

-- no line between two places is of a rank
abbrev pub NoneOf : List Line → ℕ → ℕ → ℕ → Type 0
NoneOf lines rank place end =
    (k : ℕ) (line : Line) → place < k → k < end → slice_get lines k ≡ Some line → line.rank ≢ rank

pub none_more : (lines : List Line) (rank place end : ℕ) (line : Line) → slice_get lines end ≡ Some line →
    line.rank ≢ rank → NoneOf lines rank place end → NoneOf lines rank place (end + 1)
none_more lines rank place end line here other none k l later low there =
    elim (cases_lt k end) [
      | inl before ↦ none k l later before there
      | inr not ↦
          let same : k ≡ end = omega (arith, low, not) in
          let both : Some l ≡ Some line = sym there ∙ ap (λ (i : ℕ). slice_get lines i) same ∙ here in
          let one : line ≡ l = cc in
          subst (λ (m : Line). m.rank ≢ rank) one other
    ]

-- the first one behind a place is the next
pub next_here : (lines : List Line) (rank place k : ℕ) (line : Line) → place < k → slice_get lines k ≡ Some line →
    line.rank ≡ rank → NoneOf lines rank place k → (other : ℕ) → AreNext lines rank place other → Some k ≡ Some other
next_here lines rank place k line later here own none other next =
    elim (cases_lt k other) [
      | inl behind ↦ absurd (next.between k line later behind here own)
      | inr not ↦ elim (cases_lt other k) [
        | inl before ↦ absurd (none other next.line next.later before next.there next.own)
        | inr also ↦ ap (λ (i : ℕ). Some i) (omega (arith, not, also))
      ]
    ]

-- where there is none behind a place, none is the next
pub next_none : (lines : List Line) (rank place end : ℕ) → length lines ≤ end → NoneOf lines rank place end →
    (other : ℕ) → AreNext lines rank place other → None ≡ Some other
next_none lines rank place end all none other next =
    let within = slice_get_within lines other next.line next.there in
    absurd (none other next.line next.later (omega (arith, within, all)) next.there next.own)

-- a list has each single change of the lines before a place
abbrev pub HasSingles : ℕ → List Line → ℕ → List Change → Type 0
HasSingles ranks lines place changes =
    (change : Change) → place_of change < place → IsSingle ranks lines change → Contains changes change

-- .. and each edit of a line that makes it another one
abbrev pub HasEdits : ℕ → Command → List Edit → List Change → Type 0
HasEdits place command edits changes =
    (edit : Edit) (other : Command) → Contains edits edit → edited command edit ≡ Some other → other ≢ command →
    Contains changes (Edited place edit)

-- one edit more
pub edits_more : (place : ℕ) (command : Command) (edits : List Edit) (k : ℕ) (d : Edit) (old new : List Change) →
    k < length edits → Keeps old new →
    ((other : Command) → edited command (get_or edits k d) ≡ Some other → other ≢ command →
    Contains new (Edited place (get_or edits k d))) →
    HasEdits place command (take k edits) old → HasEdits place command (take (k + 1) edits) new
edits_more place command edits k d old new low kept added has edit other at same differs =
    by_place (taken_cases edits k d edit low at)
  where
    by_place : Contains (take k edits) edit ⊎ (get_or edits k d ≡ edit) → Contains new (Edited place edit)
    by_place (inl before) = kept (Edited place edit) (has edit other before same differs)
    by_place (inr one) =
        subst (λ (e : Edit). Contains new (Edited place e)) one
        (added other (subst (λ (e : Edit). edited command e ≡ Some other) (sym one) same) differs)

-- each edit that is tried, by the lists that have one kind more each
pub edits_all : (ranks : ℕ) (lines : List Line) (a b c d e : List Edit) → Contains a (Source peer.Any) → Keeps a b →
    ((rank : ℕ) → rank < ranks → Contains b (Source (peer.One rank))) → Keeps b c → Contains c (Tag pick.Any) →
    Keeps c d → ((tag : TagPick) → IsNamed tag_of lines tag → Contains d (Tag tag)) →
    ((ctx : ℕ) → IsNamed context_of lines ctx → Contains d (Context ctx)) → Keeps d e → Contains e Synchronous →
    (edit : Edit) → IsEdit ranks lines edit → Contains e edit
edits_all ranks lines a b c d e any ab ranked bc all cd tags contexts de sync (Source peer.Any) is =
    de (Source peer.Any) (cd (Source peer.Any) (bc (Source peer.Any) (ab (Source peer.Any) any)))
edits_all ranks lines a b c d e any ab ranked bc all cd tags contexts de sync (Source (peer.One rank)) is =
    de (Source (peer.One rank)) (cd (Source (peer.One rank)) (bc (Source (peer.One rank)) (ranked rank is)))
edits_all ranks lines a b c d e any ab ranked bc all cd tags contexts de sync (Tag pick.Any) is =
    de (Tag pick.Any) (cd (Tag pick.Any) all)
edits_all ranks lines a b c d e any ab ranked bc all cd tags contexts de sync (Tag (pick.One tag)) is =
    de (Tag (pick.One tag)) (tags (pick.One tag) is)
edits_all ranks lines a b c d e any ab ranked bc all cd tags contexts de sync (Context ctx) is =
    de (Context ctx) (contexts ctx is)
edits_all ranks lines a b c d e any ab ranked bc all cd tags contexts de sync Synchronous is = sync

-- a single change is of a line
pub single_within : (ranks : ℕ) (lines : List Line) (change : Change) → IsSingle ranks lines change →
    place_of change < length lines
single_within ranks lines (Edited place edit) single =
    slice_get_within lines place single.1.line single.1.here
single_within ranks lines (Swapped place other) single = slice_get_within lines place single.0 single.1
single_within ranks lines (LeftOut place) single = slice_get_within lines place single.0 single.1

-- one line more
pub singles_more : (ranks : ℕ) (lines : List Line) (edits : List Edit) (place : ℕ) (line : Line)
    (old mid new : List Change) → slice_get lines place ≡ Some line →
    ((edit : Edit) → IsEdit ranks lines edit → Contains edits edit) → HasSingles ranks lines place old →
    Keeps old mid → HasEdits place line.command edits mid → Keeps mid new →
    ((other : ℕ) → AreNext lines line.rank place other → Contains new (Swapped place other)) →
    (may_go line.command ≡ true → Contains new (LeftOut place)) → HasSingles ranks lines (place + 1) new
singles_more ranks lines edits place line old mid new here all has first edited_is then swapped gone change low one =
    elim (cases_lt (place_of change) place) [
      | inl before ↦ then change (first change (has change before one))
      | inr not ↦ at_place change (omega (arith, low, not)) one
    ]
  where
    line_there : (p : ℕ) (l : Line) → p ≡ place → slice_get lines p ≡ Some l → line ≡ l
    line_there p l same there =
        let both : Some line ≡ Some l = sym here ∙ ap (λ (i : ℕ). slice_get lines i) (sym same) ∙ there in cc

    at_place : (c : Change) → place_of c ≡ place → IsSingle ranks lines c → Contains new c
    at_place (Edited p edit) same (is_edit, other) =
        let line_is = line_there p other.line same other.here in
        subst (λ (i : ℕ). Contains new (Edited i edit)) (sym same)
        (then (Edited place edit)
        (edited_is edit other.command (all edit is_edit)
        (subst (λ (l : Line). edited l.command edit ≡ Some other.command) (sym line_is) other.edited_is)
        (subst (λ (l : Line). other.command ≢ l.command) (sym line_is) other.other)))
    at_place (Swapped p other) same (l, there, next) =
        let line_is = line_there p l same there in
        subst (λ (i : ℕ). Contains new (Swapped i other)) (sym same)
        (swapped other
        (subst (λ (i : ℕ). AreNext lines line.rank i other) same
        (subst (λ (m : Line). AreNext lines m.rank p other) (sym line_is) next)))
    at_place (LeftOut p) same (l, there, goes) =
        let line_is = line_there p l same there in
        subst (λ (i : ℕ). Contains new (LeftOut i)) (sym same)
        (gone (subst (λ (m : Line). may_go m.command ≡ true) (sym line_is) goes))
