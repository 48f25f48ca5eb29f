-- What a rank did says the same without the messages that it was shown.
use Rattle.std.proofs.Common.{◌≡◌, ℕ, zero, suc, ◌-◌, Bool, true, false, cond, Option, Some, None, List, [], ◌∷◌, length}
use Rattle.std.proofs.Common.{map, fold, refl, sym, ◌∙◌, ap}
use Rattle.std.specs.Prelude.{◌||◌, count_by, option_and_then, option_map}
use Rattle.std.specs.List.{filter, find, list_any, slice_get}
use Rattle.std.specs.Option.{option_map_or}
use Rattle.std.proofs.lemmas.List.{length-map}
use Rattle.std.proofs.lemmas.List.Sums.{length-filter}
use Rattle.nm_types.specs.declared.scripts.Line.{Line}
use Rattle.nm_types.specs.Commands.{commands_of}
use Rattle.nm_history.specs.Answers.{claim_line_after, line_after, message_claimed, request_of}
use Rattle.nm_outcomes.specs.declared.spots.deeds.Deed.{Deed}
use Rattle.nm_outcomes.specs.declared.spots.deeds.Deed.TheVariants as deed
use Rattle.nm_outcomes.specs.declared.spots.deeds.Reply.{Reply}
use Rattle.nm_outcomes.specs.declared.spots.deeds.Reply.TheVariants as reply
use Rattle.nm_outcomes.specs.Deeds.{happening}
use Rattle.nm_outcomes.specs.Looks.{claim_in, handle_in, is_claim_at, is_start_by, live_in, message_in, name_in, request_in}
use Rattle.nm_hangs.specs.Alike.{plain, plain_reply}

-- a test of deeds that sees no reply
abbrev pub SeesNone : (Deed → Bool) → Type 0
SeesNone test = (line : ℕ) (r s : Reply) → test (deed.Ran line r) ≡ test (deed.Ran line s)

-- .. and one that no answer passes
abbrev pub IsOfOthers : (Deed → Bool) → Type 0
IsOfOthers test = (line : ℕ) (r : Reply) → test (deed.Ran line r) ≡ false

same_plain : (test : Deed → Bool) → SeesNone test → (d : Deed) → test (plain d) ≡ test d
same_plain test none (deed.Ran line r) = none line (plain_reply r) r
same_plain test none (deed.Send to n tag ctx len how line) = refl
same_plain test none (deed.Post r line) = refl
same_plain test none (deed.Match number from n cap line) = refl
same_plain test none (deed.Cancel number done) = refl
same_plain test none (deed.Recall to n) = refl
same_plain test none (deed.Claim from n line) = refl

any_plain : (test : Deed → Bool) → SeesNone test → (ds : List Deed) → list_any test (map plain ds) ≡ list_any test ds
any_plain test none [] = refl
any_plain test none (d ∷ ds) =
    ap (λ (b : Bool). b || list_any test (map plain ds)) (same_plain test none d)
    ∙ ap (λ (b : Bool). test d || b) (any_plain test none ds)

long_plain : (test : Deed → Bool) → SeesNone test → (ds : List Deed) →
    length (filter test (map plain ds)) ≡ length (filter test ds)
long_plain test none [] = refl
long_plain test none (d ∷ ds) =
    ap (λ (b : Bool). length (cond b (plain d ∷ filter test (map plain ds)) (filter test (map plain ds))))
    (same_plain test none d)
    ∙ by_test (test d) (long_plain test none ds)
  where
    by_test : (b : Bool) → length (filter test (map plain ds)) ≡ length (filter test ds) →
        length (cond b (plain d ∷ filter test (map plain ds)) (filter test (map plain ds)))
        ≡ length (cond b (d ∷ filter test ds) (filter test ds))
    by_test true later = ap suc later
    by_test false later = later

count_plain : (test : Deed → Bool) → SeesNone test → (ds : List Deed) → count_by test (map plain ds) ≡ count_by test ds
count_plain test none ds =
    sym (length-filter test (map plain ds)) ∙ long_plain test none ds ∙ length-filter test ds

-- a deed that passes is as it was
module _ (test : Deed → Bool) (others : IsOfOthers test) where
  find_step : (d : Deed) (o : Option Deed) → cond (test (plain d)) (Some (plain d)) o ≡ cond (test d) (Some d) o
  find_step (deed.Ran line r) o =
      ap (λ (b : Bool). cond b (Some (deed.Ran line (plain_reply r))) o) (others line (plain_reply r))
      ∙ sym (ap (λ (b : Bool). cond b (Some (deed.Ran line r)) o) (others line r))
  find_step (deed.Send to n tag ctx len how line) o = refl
  find_step (deed.Post r line) o = refl
  find_step (deed.Match number from n cap line) o = refl
  find_step (deed.Cancel number done) o = refl
  find_step (deed.Recall to n) o = refl
  find_step (deed.Claim from n line) o = refl

  find_plain : (ds : List Deed) → find test (map plain ds) ≡ find test ds
  find_plain [] = refl
  find_plain (d ∷ ds) =
      find_step d (find test (map plain ds)) ∙ ap (λ (o : Option Deed). cond (test d) (Some d) o) (find_plain ds)

  filter_step : (d : Deed) (es : List Deed) → cond (test (plain d)) (plain d ∷ es) es ≡ cond (test d) (d ∷ es) es
  filter_step (deed.Ran line r) es =
      ap (λ (b : Bool). cond b (deed.Ran line (plain_reply r) ∷ es) es) (others line (plain_reply r))
      ∙ sym (ap (λ (b : Bool). cond b (deed.Ran line r ∷ es) es) (others line r))
  filter_step (deed.Send to n tag ctx len how line) es = refl
  filter_step (deed.Post r line) es = refl
  filter_step (deed.Match number from n cap line) es = refl
  filter_step (deed.Cancel number done) es = refl
  filter_step (deed.Recall to n) es = refl
  filter_step (deed.Claim from n line) es = refl

  filter_plain : (ds : List Deed) → filter test (map plain ds) ≡ filter test ds
  filter_plain [] = refl
  filter_plain (d ∷ ds) =
      filter_step d (filter test (map plain ds)) ∙ ap (λ (es : List Deed). cond (test d) (d ∷ es) es) (filter_plain ds)

-- the last deed
got_plain : (ds : List Deed) (k : ℕ) → slice_get (map plain ds) k ≡ option_map plain (slice_get ds k)
got_plain [] k = refl
got_plain (d ∷ ds) zero = refl
got_plain (d ∷ ds) (suc k) = got_plain ds k

last_plain : (test : Deed → Bool) → SeesNone test → (ds : List Deed) →
    option_map_or test (slice_get (map plain ds) (length (map plain ds) - 1)) true
    ≡ option_map_or test (slice_get ds (length ds - 1)) true
last_plain test none ds =
    ap (λ (k : ℕ). option_map_or test (slice_get (map plain ds) (k - 1)) true) (length-map ds plain)
    ∙ ap (λ (o : Option Deed). option_map_or test o true) (got_plain ds (length ds - 1))
    ∙ by_last (slice_get ds (length ds - 1))
  where
    by_last : (o : Option Deed) → option_map_or test (option_map plain o) true ≡ option_map_or test o true
    by_last None = refl
    by_last (Some d) = same_plain test none d

-- names and handles
module _ (lines : List Line) (i q : ℕ) where
  abbrev named : Option ℕ → Deed → Option ℕ
  named o d = line_after (commands_of i lines) q o (happening lines d)

  name_reply : (o : Option ℕ) (line : ℕ) (r : Reply) →
      named o (deed.Ran line (plain_reply r)) ≡ named o (deed.Ran line r)
  name_reply o line (reply.Got from tag own) = refl
  name_reply o line (reply.Cut from tag len) = refl
  name_reply o line (reply.Seen seen) = refl
  name_reply o line r = refl

  name_step : (o : Option ℕ) (d : Deed) → named o (plain d) ≡ named o d
  name_step o (deed.Ran line r) = name_reply o line r
  name_step o (deed.Send to n tag ctx len how line) = refl
  name_step o (deed.Post r line) = refl
  name_step o (deed.Match number from n cap line) = refl
  name_step o (deed.Cancel number done) = refl
  name_step o (deed.Recall to n) = refl
  name_step o (deed.Claim from n line) = refl

  names_plain : (o : Option ℕ) (ds : List Deed) →
      fold (λ (p : Option ℕ) (d : Deed). named p d) o (map plain ds)
      ≡ fold (λ (p : Option ℕ) (d : Deed). named p d) o ds
  names_plain o [] = refl
  names_plain o (d ∷ ds) =
      ap (λ (p : Option ℕ). fold (λ (p : Option ℕ) (d : Deed). named p d) p (map plain ds)) (name_step o d)
      ∙ names_plain (named o d) ds

  abbrev handled : Option ℕ → Deed → Option ℕ
  handled o d = claim_line_after (commands_of i lines) q o (happening lines d)

  handle_reply : (o : Option ℕ) (line : ℕ) (r : Reply) →
      handled o (deed.Ran line (plain_reply r)) ≡ handled o (deed.Ran line r)
  handle_reply o line (reply.Got from tag own) = refl
  handle_reply o line (reply.Cut from tag len) = refl
  handle_reply o line (reply.Seen seen) = refl
  handle_reply o line r = refl

  handle_step : (o : Option ℕ) (d : Deed) → handled o (plain d) ≡ handled o d
  handle_step o (deed.Ran line r) = handle_reply o line r
  handle_step o (deed.Send to n tag ctx len how line) = refl
  handle_step o (deed.Post r line) = refl
  handle_step o (deed.Match number from n cap line) = refl
  handle_step o (deed.Cancel number done) = refl
  handle_step o (deed.Recall to n) = refl
  handle_step o (deed.Claim from n line) = refl

  handles_plain : (o : Option ℕ) (ds : List Deed) →
      fold (λ (p : Option ℕ) (d : Deed). handled p d) o (map plain ds)
      ≡ fold (λ (p : Option ℕ) (d : Deed). handled p d) o ds
  handles_plain o [] = refl
  handles_plain o (d ∷ ds) =
      ap (λ (p : Option ℕ). fold (λ (p : Option ℕ) (d : Deed). handled p d) p (map plain ds)) (handle_step o d)
      ∙ handles_plain (handled o d) ds

request_plain : (ds : List Deed) (line : ℕ) → request_in (map plain ds) line ≡ request_in ds line
request_plain ds line =
    ap (λ (o : Option Deed). option_and_then (λ (d : Deed). request_of line (happening [] d)) o)
    (find_plain (is_start_by line) (λ l r. refl) ds)

claim_plain : (ds : List Deed) (line : ℕ) → claim_in (map plain ds) line ≡ claim_in ds line
claim_plain ds line =
    ap (λ (o : Option Deed). option_and_then (λ (d : Deed). message_claimed line (happening [] d)) o)
    (find_plain (is_claim_at line) (λ l r. refl) ds)

live_plain : (lines : List Line) (i q : ℕ) (ds : List Deed) → live_in lines i (map plain ds) q ≡ live_in lines i ds q
live_plain lines i q ds =
    ap (λ (o : Option ℕ). option_and_then (request_in (map plain ds)) o) (names_plain lines i q None ds)
    ∙ by_name (name_in lines i ds q)
  where
    by_name : (o : Option ℕ) → option_and_then (request_in (map plain ds)) o ≡ option_and_then (request_in ds) o
    by_name None = refl
    by_name (Some line) = request_plain ds line

message_plain : (lines : List Line) (i m : ℕ) (ds : List Deed) →
    message_in lines i (map plain ds) m ≡ message_in lines i ds m
message_plain lines i m ds =
    ap (λ (o : Option ℕ). option_and_then (claim_in (map plain ds)) o) (handles_plain lines i m None ds)
    ∙ by_handle (handle_in lines i ds m)
  where
    by_handle : (o : Option ℕ) → option_and_then (claim_in (map plain ds)) o ≡ option_and_then (claim_in ds) o
    by_handle None = refl
    by_handle (Some line) = claim_plain ds line

-- two lists of deeds that differ in what they show alone
module _ (xs ys : List Deed) (alike : map plain xs ≡ map plain ys) where
  pub any_same : (test : Deed → Bool) → SeesNone test → list_any test xs ≡ list_any test ys
  any_same test none =
      sym (any_plain test none xs) ∙ ap (λ (ds : List Deed). list_any test ds) alike ∙ any_plain test none ys

  pub count_same : (test : Deed → Bool) → SeesNone test → count_by test xs ≡ count_by test ys
  count_same test none =
      sym (count_plain test none xs) ∙ ap (λ (ds : List Deed). count_by test ds) alike ∙ count_plain test none ys

  pub filter_same : (test : Deed → Bool) → IsOfOthers test → filter test xs ≡ filter test ys
  filter_same test others =
      sym (filter_plain test others xs) ∙ ap (λ (ds : List Deed). filter test ds) alike ∙ filter_plain test others ys

  pub last_same : (test : Deed → Bool) → SeesNone test →
      option_map_or test (slice_get xs (length xs - 1)) true ≡ option_map_or test (slice_get ys (length ys - 1)) true
  last_same test none =
      sym (last_plain test none xs)
      ∙ ap (λ (ds : List Deed). option_map_or test (slice_get ds (length ds - 1)) true) alike
      ∙ last_plain test none ys

  pub request_same : (line : ℕ) → request_in xs line ≡ request_in ys line
  request_same line =
      sym (request_plain xs line) ∙ ap (λ (ds : List Deed). request_in ds line) alike ∙ request_plain ys line

  pub claim_same : (line : ℕ) → claim_in xs line ≡ claim_in ys line
  claim_same line = sym (claim_plain xs line) ∙ ap (λ (ds : List Deed). claim_in ds line) alike ∙ claim_plain ys line

  pub live_same : (lines : List Line) (i q : ℕ) → live_in lines i xs q ≡ live_in lines i ys q
  live_same lines i q =
      sym (live_plain lines i q xs) ∙ ap (λ (ds : List Deed). live_in lines i ds q) alike ∙ live_plain lines i q ys

  pub message_same : (lines : List Line) (i m : ℕ) → message_in lines i xs m ≡ message_in lines i ys m
  message_same lines i m =
      sym (message_plain lines i m xs) ∙ ap (λ (ds : List Deed). message_in lines i ds m) alike
      ∙ message_plain lines i m ys
