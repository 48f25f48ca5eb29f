-- The ends of a plan's requests: which a request has from its init on, that no two of a rank are the same,
-- and that both ends have the same number of parts.
use Rattle.std.proofs.Common.{◌≡◌, ℕ, ◌==◌, Bool, true, false, not, ◌&&◌, ◌||◌, cond, Option, Some, None}
use Rattle.std.proofs.Common.{List, [], ◌∷◌, ◌++◌, refl, sym, ◌∙◌, ap, subst, arith}
use Rattle.std.specs.Prelude.{is_some, option_map}
use Rattle.std.specs.Bool.{beq}
use Rattle.std.specs.Option.{option_map_or}
use Rattle.std.proofs.lemmas.Bool.{false≢true}
use Rattle.nm_history.proofs.OnceLemmas.{eqb_self}
use Rattle.nm_plans.specs.declared.lines.PlanCommand.{PlanCommand}
use Rattle.nm_plans.specs.declared.lines.PlanCommand.TheVariants.{SendInit, RecvInit, PsendInit, PrecvInit, Fill}
use Rattle.nm_plans.specs.declared.lines.PlanCommand.TheVariants.{Start, Ready, Arrived, Wait}
use Rattle.nm_plans.specs.declared.lines.PlanLine.{PlanLine}
use Rattle.nm_plans.specs.declared.requests.ends.End.{End}
use Rattle.nm_plans.specs.declared.requests.requests.Owner.{Owner}
use Rattle.nm_plans.specs.declared.requests.requests.Request.{Request}
use Rattle.nm_plans.specs.Ends.{end, end_in, other_end, parts_at, parts_in, same_channel, same_end, same_sort}
use Rattle.nm_plans.specs.PlanRequests.{is_about, is_sending, owner_of, part_count, request_after, request_at}
use Rattle.nm_plans.proofs.RequestLemmas.{parts_at-more, request_at-more}
use Rattle.nm_persist.specs.Starts.{end_of}
use Rattle.nm_persist.proofs.Tracked.{AreFine, each_line, faultless, in_order, owner_is}
use Rattle.nm_persist.proofs.Tracking.{InOrder}
use Rattle.nm_persist.proofs.ReadyLemmas.{IsReady}
use Rattle.nm_types.proofs.NumberLemmas.{same_number}
use Rattle.nm_types.proofs.TruthLemmas.{and_left, and_right}

-- the end and the number of parts of a request
pub record Kind : Type 0 where
  pub at : End
  pub parts : ℕ

abbrev pub kind_by : ℕ → Request → Kind
kind_by rank r = record { at = end_of rank r; parts = part_count r }

abbrev pub kind_of : Owner → List PlanLine → Option Kind
kind_of owner lines = option_map (kind_by owner.rank) (request_at lines owner)

-- equality of ends
same_bool : (a b : Bool) → beq a b ≡ true → a ≡ b
same_bool true true is = refl
same_bool false false is = refl
same_bool true false is = absurd (false≢true is)
same_bool false true is = absurd (false≢true is)

bool_self : (a : Bool) → beq a a ≡ true
bool_self true = refl
bool_self false = refl

pub end_parts : (rank rank' peer peer' tag tag' ctx ctx' : ℕ) (sends sends' split split' : Bool) → rank ≡ rank' →
    peer ≡ peer' → tag ≡ tag' → ctx ≡ ctx' →
    sends ≡ sends' → split ≡ split' → end rank peer tag ctx sends split ≡ end rank' peer' tag' ctx' sends' split'
end_parts rank rank' peer peer' tag tag' ctx ctx' sends sends' split split' a b c d e f = rw (a, b, c, d, e, f) refl

pub end_same : (e f : End) → same_end e f ≡ true → e ≡ f
end_same e f is =
    let channel : same_channel e.channel f.channel ≡ true = and_right (e.rank == f.rank && e.peer == f.peer) _ is in
    let sort : same_sort e.channel.sort f.channel.sort ≡ true = and_right
    (e.channel.tag == f.channel.tag && e.channel.ctx == f.channel.ctx) _ channel in
    let front = and_left (e.rank == f.rank && e.peer == f.peer) _ is in
    let middle = and_left (e.channel.tag == f.channel.tag && e.channel.ctx == f.channel.ctx) _ channel in
    end_parts e.rank f.rank e.peer f.peer e.channel.tag f.channel.tag e.channel.ctx f.channel.ctx e.channel.sort.sends
    f.channel.sort.sends
    e.channel.sort.split f.channel.sort.split
    (same_number e.rank f.rank (and_left _ _ front)) (same_number e.peer f.peer (and_right _ _ front))
    (same_number e.channel.tag f.channel.tag (and_left _ _ middle))
    (same_number e.channel.ctx f.channel.ctx (and_right _ _ middle))
    (same_bool _ _ (and_left _ _ sort)) (same_bool _ _ (and_right _ _ sort))

all_true : (a b c d e f : Bool) → a ≡ true → b ≡ true → c ≡ true → d ≡ true → e ≡ true → f ≡ true →
    ((a && b) && ((c && d) && (e && f))) ≡ true
all_true a b c d e f p q r s t u = rw (p, q, r, s, t, u) refl

pub end_self : (e : End) → same_end e e ≡ true
end_self e =
    all_true (e.rank == e.rank) (e.peer == e.peer) (e.channel.tag == e.channel.tag) (e.channel.ctx == e.channel.ctx)
    (beq e.channel.sort.sends e.channel.sort.sends) (beq e.channel.sort.split e.channel.sort.split)
    (eqb_self e.rank) (eqb_self e.peer) (eqb_self e.channel.tag) (eqb_self e.channel.ctx)
    (bool_self e.channel.sort.sends) (bool_self e.channel.sort.split)

not_not : (b : Bool) → not (not b) ≡ b
not_not true = refl
not_not false = refl

pub other_other : (e : End) → other_end (other_end e) ≡ e
other_other e =
    end_parts e.rank e.rank e.peer e.peer e.channel.tag e.channel.tag e.channel.ctx e.channel.ctx
    (not (not e.channel.sort.sends)) e.channel.sort.sends e.channel.sort.split e.channel.sort.split refl refl refl
    refl (not_not e.channel.sort.sends) refl

not_other : (e : End) → same_end (other_end e) e ≡ true → ⊥
not_other e is = differ e.channel.sort.sends (ap (λ (f : End). f.channel.sort.sends) (end_same (other_end e) e is))
  where
    differ : (b : Bool) → not b ≡ b → ⊥
    differ true same = false≢true same
    differ false same = false≢true (sym same)

-- a line makes a request of this kind, or none
pub data Making (owner : Owner) (before : List PlanLine) (line : PlanLine) : Type 0 where
  Makes : (about : is_about owner line ≡ true) (e : End) (ended : end_in line.rank line.command ≡ Some e)
      (none : kind_of owner before ≡ None)
      (new : kind_of owner (before ++ line ∷ []) ≡ Some (record { at = e; parts = parts_in line.command })) →
      Making owner before line
  Leaves : (kept : kind_of owner (before ++ line ∷ []) ≡ kind_of owner before)
      (own : is_about owner line ≡ true → end_in line.rank line.command ≡ None) → Making owner before line

data Step (rank : ℕ) (c : PlanCommand) (o : Option Request) : Type 0 where
  New : (e : End) (ended : end_in rank c ≡ Some e) (none : o ≡ None)
      (new : option_map (kind_by rank) (request_after c o) ≡ Some (record { at = e; parts = parts_in c })) →
      Step rank c o
  Old : (ended : end_in rank c ≡ None) (kept : option_map (kind_by rank) (request_after c o) ≡ option_map
      (kind_by rank) o) → Step rank c o

step_of : (rank : ℕ) (c : PlanCommand) (o : Option Request) → InOrder c o → Step rank c o
step_of rank (SendInit p to tag ctx body) None order = New (end rank to tag ctx true false) refl refl refl
step_of rank (RecvInit p from tag ctx cap) None order = New (end rank from tag ctx false false) refl refl refl
step_of rank (PsendInit p to tag ctx parts body) None order = New (end rank to tag ctx true true) refl refl refl
step_of rank (PrecvInit p from tag ctx parts cap) None order = New (end rank from tag ctx false true) refl refl refl
step_of rank (Fill p body) None order = absurd (false≢true order)
step_of rank (Start p) None order = absurd (false≢true order)
step_of rank (Ready p k) None order = absurd (false≢true order)
step_of rank (Arrived p k) None order = absurd (false≢true order)
step_of rank (Wait p) None order = absurd (false≢true order)
step_of rank (SendInit p to tag ctx body) (Some r) order = absurd (grind (arith, order.0))
step_of rank (RecvInit p from tag ctx cap) (Some r) order = absurd (grind (arith, order.0))
step_of rank (PsendInit p to tag ctx parts body) (Some r) order = absurd (grind (arith, order.0))
step_of rank (PrecvInit p from tag ctx parts cap) (Some r) order = absurd (grind (arith, order.0))
step_of rank (Fill p body) (Some r) order =
    Old refl (ap (λ (b : Bool). Some
    (record { at = end rank r.peer r.tag r.ctx b (is_some r.parts); parts = part_count r }))
    (sym (and_right (not r.active) (is_sending r.side) order.1)))
step_of rank (Start p) (Some r) order = Old refl refl
step_of rank (Ready p k) (Some r) order = Old refl refl
step_of rank (Arrived p k) (Some r) order = Old refl refl
step_of rank (Wait p) (Some r) order = Old refl refl

pub making : (ranks : ℕ) (owner : Owner) (before : List PlanLine) (line : PlanLine) → IsReady ranks before line →
    Making owner before line
making ranks owner before line fine = by_about (is_about owner line) refl
  where
    request : (b : Bool) → is_about owner line ≡ b →
        request_at (before ++ line ∷ []) owner ≡ cond b (request_after line.command (request_at before owner))
        (request_at before owner)
    request b about =
        request_at-more before line owner
        ∙ ap (λ (b : Bool). cond b (request_after line.command (request_at before owner)) (request_at before owner))
        about

    by_step : is_about owner line ≡ true → Step owner.rank line.command (request_at before owner) →
        Making owner before line
    by_step about (New e ended none new) =
        Makes about e (ap (λ (rank : ℕ). end_in rank line.command)
        (ap (λ (o : Owner). o.rank) (owner_is owner line about)) ∙ ended)
        (ap (λ (o : Option Request). option_map (kind_by owner.rank) o) none)
        (ap (λ (o : Option Request). option_map (kind_by owner.rank) o) (request true about) ∙ new)
    by_step about (Old ended kept) =
        Leaves (ap (λ (o : Option Request). option_map (kind_by owner.rank) o) (request true about) ∙ kept)
        (λ is. ap (λ (rank : ℕ). end_in rank line.command) (ap (λ (o : Owner). o.rank) (owner_is owner line about))
        ∙ ended)

    by_about : (b : Bool) → is_about owner line ≡ b → Making owner before line
    by_about true about =
        by_step about (step_of owner.rank line.command (request_at before owner)
        (subst (λ (o : Owner). InOrder line.command (request_at before o)) (owner_is owner line about)
        (in_order ranks before line fine)))
    by_about false about =
        Leaves (ap (λ (o : Option Request). option_map (kind_by owner.rank) o) (request false about))
        (λ is. absurd (false≢true (sym about ∙ is)))

-- a line that makes an end finds none like it
pub fresh : (ranks : ℕ) (before : List PlanLine) (line : PlanLine) (e : End) → IsReady ranks before line →
    end_in line.rank line.command ≡ Some e →
    parts_at before e ≡ None
fresh ranks before line e fine ended =
    none_of (is_some (request_at before (owner_of line))) (parts_at before e)
    (sym (ap (λ (o : Option End). option_map_or (λ e. is_some (request_at before (owner_of line)) || is_some
    (parts_at before e)) o false) ended)
    ∙ (faultless ranks before line fine).0)
  where
    none_of : {X : Type 0} (b : Bool) (o : Option X) → (b || is_some o) ≡ false → o ≡ None
    none_of true o is = absurd (false≢true (sym is))
    none_of false None is = refl
    none_of false (Some x) is = absurd (false≢true (sym is))

-- the parts of an end behind a line more
pub parts_step : (before : List PlanLine) (line : PlanLine) (e : End) (o : Option End) →
    end_in line.rank line.command ≡ o →
    parts_at (before ++ line ∷ []) e ≡ cond (option_map_or (same_end e) o false) (Some (parts_in line.command))
    (parts_at before e)
parts_step before line e o ended =
    parts_at-more before line e
    ∙ ap (λ (o : Option End). cond (option_map_or (same_end e) o false) (Some (parts_in line.command))
    (parts_at before e)) ended

no_two : {X : Type 0} (x : X) (o : Option X) → o ≡ Some x → o ≡ None → ⊥
no_two x o some none = grind (arith, some, none)

-- each request has its parts at its end
abbrev pub HasParts : List PlanLine → Type 0
HasParts lines = (owner : Owner) (k : Kind) → kind_of owner lines ≡ Some k → parts_at lines k.at ≡ Some k.parts

has_more : (ranks : ℕ) (before : List PlanLine) (line : PlanLine) → IsReady ranks before line → HasParts before →
    HasParts (before ++ line ∷ [])
has_more ranks before line fine has owner k is = by_making (making ranks owner before line fine)
  where
    by_making : Making owner before line → parts_at (before ++ line ∷ []) k.at ≡ Some k.parts
    by_making (Makes about e ended none new) =
        let same : record { at = e; parts = parts_in line.command } ≡ k = cc in
        subst (λ (k : Kind). parts_at (before ++ line ∷ []) k.at ≡ Some k.parts) same
        (parts_step before line e (Some e) ended
        ∙ ap (λ (b : Bool). cond b (Some (parts_in line.command)) (parts_at before e)) (end_self e))
    by_making (Leaves kept own) =
        let old = has owner k (sym kept ∙ is) in
        by_end (end_in line.rank line.command) refl old
      where
        by_same : (b : Bool) (e : End) → same_end k.at e ≡ b → end_in line.rank line.command ≡ Some e →
            parts_at before k.at ≡ Some k.parts →
            cond b (Some (parts_in line.command)) (parts_at before k.at) ≡ Some k.parts
        by_same true e same ended old =
            absurd (no_two k.parts (parts_at before k.at) old
            (ap (λ (e : End). parts_at before e) (end_same k.at e same) ∙ fresh ranks before line e fine ended))
        by_same false e same ended old = old

        by_end : (o : Option End) → end_in line.rank line.command ≡ o → parts_at before k.at ≡ Some k.parts →
            parts_at (before ++ line ∷ []) k.at ≡ Some k.parts
        by_end None ended old = parts_step before line k.at None ended ∙ old
        by_end (Some e) ended old = parts_step before line k.at (Some e) ended
            ∙ by_same (same_end k.at e) e refl ended old

has_none : HasParts []
unfolding request_at
has_none owner k is = absurd (grind (arith, is))

pub has_parts : (ranks : ℕ) (lines : List PlanLine) → AreFine ranks lines → HasParts lines
has_parts ranks lines fine =
    each_line ranks (λ lines. HasParts lines) (λ before line f has. has_more ranks before line f has) [] lines refl
    fine.range fine.sound has_none

-- no two requests of a rank have the same end
abbrev pub AreAlone : List PlanLine → Type 0
AreAlone lines =
    (owner owner' : Owner) (k k' : Kind) → kind_of owner lines ≡ Some k → kind_of owner' lines ≡ Some k' →
    k.at ≡ k'.at → owner ≡ owner'

alone_more : (ranks : ℕ) (before : List PlanLine) (line : PlanLine) → IsReady ranks before line → HasParts before →
    AreAlone before → AreAlone (before ++ line ∷ [])
alone_more ranks before line fine has alone owner owner' k k' is is' same =
    by_making (making ranks owner before line fine) (making ranks owner' before line fine)
  where
    clash : (owner : Owner) (k : Kind) (e : End) → end_in line.rank line.command ≡ Some e →
        kind_of owner before ≡ Some k → e ≡ k.at → ⊥
    clash owner k e ended old at =
        no_two k.parts (parts_at before k.at) (has owner k old)
        (ap (λ (e : End). parts_at before e) (sym at) ∙ fresh ranks before line e fine ended)

    by_making : Making owner before line → Making owner' before line → owner ≡ owner'
    by_making (Makes about e ended none new) (Makes about' e' ended' none' new') =
        sym (owner_is owner line about) ∙ owner_is owner' line about'
    by_making (Makes about e ended none new) (Leaves kept own) =
        let first : record { at = e; parts = parts_in line.command } ≡ k = cc in
        absurd (clash owner' k' e ended (sym kept ∙ is') (ap (λ (k : Kind). k.at) first ∙ same))
    by_making (Leaves kept own) (Makes about e ended none new) =
        let second : record { at = e; parts = parts_in line.command } ≡ k' = cc in
        absurd (clash owner k e ended (sym kept ∙ is) (ap (λ (k : Kind). k.at) second ∙ sym same))
    by_making (Leaves kept own) (Leaves kept' own') = alone owner owner' k k' (sym kept ∙ is) (sym kept' ∙ is') same

-- both ends have the same number of parts
abbrev pub ArePartners : List PlanLine → Type 0
ArePartners lines = (e : End) (n m : ℕ) → parts_at lines e ≡ Some n → parts_at lines (other_end e) ≡ Some m → n ≡ m

partners_more : (ranks : ℕ) (before : List PlanLine) (line : PlanLine) → IsReady ranks before line →
    ArePartners before → ArePartners (before ++ line ∷ [])
partners_more ranks before line fine partners e n m first second = by_end (end_in line.rank line.command) refl
  where
    -- the other end, made before, has as many parts
    as_many : (e : End) (n : ℕ) → end_in line.rank line.command ≡ Some e → parts_at before (other_end e) ≡ Some n →
        n ≡ parts_in line.command
    as_many e n ended other =
        same_number n (parts_in line.command) (on (n == parts_in line.command)
        (sym (ap (λ (o : Option ℕ). option_map_or (λ parts. not (parts == parts_in line.command)) o false) other)
        ∙ sym (ap (λ (o : Option End). option_map_or
        (λ e. option_map_or (λ parts. not (parts == parts_in line.command)) (parts_at before (other_end e)) false) o
        false) ended)
        ∙ (faultless ranks before line fine).1))
      where
        on : (b : Bool) → not b ≡ false → b ≡ true
        on true is = refl
        on false is = absurd (false≢true (sym is))

    by_tests : (e0 : End) → end_in line.rank line.command ≡ Some e0 → (a b : Bool) → same_end e e0 ≡ a →
        same_end (other_end e) e0 ≡ b →
        cond a (Some (parts_in line.command)) (parts_at before e) ≡ Some n →
        cond b (Some (parts_in line.command)) (parts_at before (other_end e)) ≡ Some m → n ≡ m
    by_tests e0 ended true true here there first second =
        let one = end_same e e0 here in
        absurd (not_other e0 (subst (λ (e : End). same_end (other_end e) e0 ≡ true) one there))
    by_tests e0 ended true false here there first second =
        let one = end_same e e0 here in
        let own : parts_in line.command ≡ n = cc in
        sym own ∙ sym (as_many e0 m ended (ap (λ (e : End). parts_at before (other_end e)) (sym one) ∙ second))
    by_tests e0 ended false true here there first second =
        let one = end_same (other_end e) e0 there in
        let own : parts_in line.command ≡ m = cc in
        as_many e0 n ended (ap (λ (e : End). parts_at before e) (ap (λ (f : End). other_end f) (sym one)
        ∙ other_other e) ∙ first) ∙ own
    by_tests e0 ended false false here there first second = partners e n m first second

    by_end : (o : Option End) → end_in line.rank line.command ≡ o → n ≡ m
    by_end None ended =
        partners e n m (sym (parts_step before line e None ended) ∙ first)
        (sym (parts_step before line (other_end e) None ended) ∙ second)
    by_end (Some e0) ended =
        by_tests e0 ended (same_end e e0) (same_end (other_end e) e0) refl refl
        (sym (parts_step before line e (Some e0) ended) ∙ first)
        (sym (parts_step before line (other_end e) (Some e0) ended) ∙ second)

record Ended (lines : List PlanLine) : Type 0 where
  has : HasParts lines
  alone : AreAlone lines
  partners : ArePartners lines

ended_none : Ended []
unfolding request_at parts_at
ended_none = record {
  has = λ owner k is. absurd (grind (arith, is));
  alone = λ owner owner' k k' is is' same. absurd (grind (arith, is));
  partners = λ e n m first second. absurd (grind (arith, first));
}

ended : (ranks : ℕ) (lines : List PlanLine) → AreFine ranks lines → Ended lines
ended ranks lines fine =
    each_line ranks (λ lines. Ended lines)
    (λ before line f so. record {
      has = has_more ranks before line f so.has;
      alone = alone_more ranks before line f so.has so.alone;
      partners = partners_more ranks before line f so.partners;
    }) [] lines refl fine.range fine.sound ended_none

pub alone : (ranks : ℕ) (lines : List PlanLine) → AreFine ranks lines → AreAlone lines
alone ranks lines fine = (ended ranks lines fine).alone

pub partners : (ranks : ℕ) (lines : List PlanLine) → AreFine ranks lines → ArePartners lines
partners ranks lines fine = (ended ranks lines fine).partners
