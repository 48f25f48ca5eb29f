-- A rank's state is that of its parts.
use Rattle.std.proofs.Common.{◌≡◌, List, [], ◌∷◌, ◌++◌, fold, map, sym, ◌∙◌, ap}
use Rattle.std.proofs.lemmas.Grind.{fold-append}
use Rattle.std.proofs.lemmas.List.{append-nil, append_assoc}
use Rattle.nm_types.specs.declared.messages.Arrival.{Arrival}
use Rattle.nm_history.specs.declared.plain.Pair.{Pair}
use Rattle.nm_match.specs.declared.names.Message.{Message}
use Rattle.nm_outcomes.specs.declared.spots.deeds.Deed.{Deed}
use Rattle.nm_outcomes.specs.declared.spots.deeds.Part.{Part}
use Rattle.nm_outcomes.specs.declared.spots.deeds.Part.TheVariants as part
use Rattle.nm_outcomes.specs.declared.spots.deeds.Receive.{Receive}
use Rattle.nm_outcomes.specs.Parts.{parts_of, with_part}
use Rattle.nm_outcomes.specs.RankStates.{Spot, first_spot}

-- parts of one kind are put behind those that are there
put_deeds : (xs : List Deed) (s : Spot) → fold with_part s (map part.Did xs) ≡ record s { deeds = s.deeds ++ xs }
put_deeds [] s = ap (λ (all : List Deed). record s { deeds = all }) (sym (append-nil s.deeds))
put_deeds (x ∷ xs) s =
    put_deeds xs (with_part s (part.Did x))
    ∙ ap (λ (all : List Deed). record s { deeds = all }) (append_assoc s.deeds (x ∷ []) xs)

put_receives : (xs : List Receive) (s : Spot) →
    fold with_part s (map part.Open xs) ≡ record s { receives = s.receives ++ xs }
put_receives [] s = ap (λ (all : List Receive). record s { receives = all }) (sym (append-nil s.receives))
put_receives (x ∷ xs) s =
    put_receives xs (with_part s (part.Open x))
    ∙ ap (λ (all : List Receive). record s { receives = all }) (append_assoc s.receives (x ∷ []) xs)

put_free : (xs : List Arrival) (s : Spot) → fold with_part s (map part.Free xs) ≡ record s { free = s.free ++ xs }
put_free [] s = ap (λ (all : List Arrival). record s { free = all }) (sym (append-nil s.free))
put_free (x ∷ xs) s =
    put_free xs (with_part s (part.Free x))
    ∙ ap (λ (all : List Arrival). record s { free = all }) (append_assoc s.free (x ∷ []) xs)

put_pairs : (xs : List Pair) (s : Spot) → fold with_part s (map part.Paired xs) ≡ record s { pairs = s.pairs ++ xs }
put_pairs [] s = ap (λ (all : List Pair). record s { pairs = all }) (sym (append-nil s.pairs))
put_pairs (x ∷ xs) s =
    put_pairs xs (with_part s (part.Paired x))
    ∙ ap (λ (all : List Pair). record s { pairs = all }) (append_assoc s.pairs (x ∷ []) xs)

put_came : (xs : List Arrival) (s : Spot) → fold with_part s (map part.Came xs) ≡ record s { came = s.came ++ xs }
put_came [] s = ap (λ (all : List Arrival). record s { came = all }) (sym (append-nil s.came))
put_came (x ∷ xs) s =
    put_came xs (with_part s (part.Came x))
    ∙ ap (λ (all : List Arrival). record s { came = all }) (append_assoc s.came (x ∷ []) xs)

put_gone : (xs : List Message) (s : Spot) →
    fold with_part s (map part.Gone xs) ≡ record s { withdrawn = s.withdrawn ++ xs }
put_gone [] s = ap (λ (all : List Message). record s { withdrawn = all }) (sym (append-nil s.withdrawn))
put_gone (x ∷ xs) s =
    put_gone xs (with_part s (part.Gone x))
    ∙ ap (λ (all : List Message). record s { withdrawn = all }) (append_assoc s.withdrawn (x ∷ []) xs)

-- all parts of a state make it
pub parts_make : (s : Spot) → fold with_part first_spot (parts_of s) ≡ s
parts_make s = all
  where
    a : List Part
    a = map part.Did s.deeds

    b : List Part
    b = a ++ map part.Open s.receives

    c : List Part
    c = b ++ map part.Free s.free

    d : List Part
    d = c ++ map part.Paired s.pairs

    e : List Part
    e = d ++ map part.Came s.came

    of_a : fold with_part first_spot a ≡ record first_spot { deeds = s.deeds }
    of_a = put_deeds s.deeds first_spot

    of_b : fold with_part first_spot b ≡ record first_spot { deeds = s.deeds; receives = s.receives }
    of_b =
        fold-append with_part first_spot a (map part.Open s.receives)
        ∙ ap (λ (x : Spot). fold with_part x (map part.Open s.receives)) of_a ∙ put_receives s.receives _

    of_c : fold with_part first_spot c
        ≡ record first_spot { deeds = s.deeds; receives = s.receives; free = s.free }
    of_c =
        fold-append with_part first_spot b (map part.Free s.free)
        ∙ ap (λ (x : Spot). fold with_part x (map part.Free s.free)) of_b ∙ put_free s.free _

    of_d : fold with_part first_spot d
        ≡ record first_spot { deeds = s.deeds; receives = s.receives; free = s.free; pairs = s.pairs }
    of_d =
        fold-append with_part first_spot c (map part.Paired s.pairs)
        ∙ ap (λ (x : Spot). fold with_part x (map part.Paired s.pairs)) of_c ∙ put_pairs s.pairs _

    of_e : fold with_part first_spot e
        ≡ record first_spot {
          deeds = s.deeds;
          receives = s.receives;
          free = s.free;
          pairs = s.pairs;
          came = s.came;
        }
    of_e =
        fold-append with_part first_spot d (map part.Came s.came)
        ∙ ap (λ (x : Spot). fold with_part x (map part.Came s.came)) of_d ∙ put_came s.came _

    all : fold with_part first_spot (parts_of s) ≡ s
    all =
        fold-append with_part first_spot e (map part.Gone s.withdrawn)
        ∙ ap (λ (x : Spot). fold with_part x (map part.Gone s.withdrawn)) of_e ∙ put_gone s.withdrawn _
