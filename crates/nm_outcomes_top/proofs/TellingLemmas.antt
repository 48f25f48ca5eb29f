-- What is told of the reports of a script, question by question.
use Rattle.std.proofs.Common.{◌≡◌, ℕ, ◌≤◌, ◌⊎◌, inl, inr, List, Option, refl, sym, ◌∙◌}
use Rattle.std.proofs.Common.{subst, arith}
use Rattle.nm_outside.specs.Told.{Appends}
use Rattle.nm_types.specs.declared.scripts.Line.{Line}
use Rattle.nm_types.specs.Sizes.{Sizes}
use Rattle.nm_listed.specs.declared.places.Place.TheVariants.{At, Not}
use Rattle.nm_outcomes_top.specs.OptionWords.{sizes_for}
use Rattle.nm_outcomes_top.specs.declared.words.Asked.{Asked}
use Rattle.nm_outcomes_top.specs.declared.words.Question.{Question}
use Rattle.nm_outcomes_top.specs.declared.words.Question.TheVariants.{All, Trace, Among, Either, Hangs}
use Rattle.nm_outcomes_top.specs.Answers.{IsTelling, telling_status, telling_text, traced_status}
use Rattle.nm_outcomes_top.specs.Endings.{IsAmong, IsEitherListed, IsFewerSaid, IsGiven, IsHangSaid, IsListed}
use Rattle.nm_outcomes_top.specs.Endings.{IsNoHangSaid, IsNotAmong, IsSpoken, IsTraceSaid, Speaks}
use Rattle.nm_outcomes_top.specs.Texts.{fewer_text, is_stuck, joined_text}
use Rattle.nm_outcomes_top.specs.declared.tellings.Telling.{Telling}
use Rattle.nm_outcomes_top.specs.declared.tellings.Telling.TheVariants.{Fewer, Hung, Joined, Listed, NoHang, Placed}
use Rattle.nm_outcomes_top.specs.declared.tellings.Telling.TheVariants.{Traced}
use Rattle.nm_outcomes_top.proofs.ListingLemmas.{low, low_by}

-- what is known where it was said what was asked
pub record IsTold (asked : Asked) (status : ℕ) (before after : Option (List ℕ)) (bytes : List ℕ) : Type 0 where
  pub given : IsGiven asked bytes
  pub telling : Telling
  pub right : IsTelling asked.question (sizes_for asked given.ranks) given.lines given.report telling
  pub ended : status ≡ telling_status telling
  pub said : Appends before after (telling_text telling)

-- a trace has status 0 or 1
traced_low : (trace : List ℕ) → (traced_status trace ≡ 0) ⊎ (traced_status trace ≡ 1)
traced_low trace = low_by (is_stuck trace)

-- what is told has one of four statuses
pub telling_spoken : (t : Telling) → IsSpoken (telling_status t)
telling_spoken (Listed texts) = elim (low texts) [ inl h ↦ inl h | inr h ↦ inr (inl h) ]
telling_spoken (Traced trace) = elim (traced_low trace.items) [ inl h ↦ inl h | inr h ↦ inr (inl h) ]
telling_spoken (Fewer n c) = inr (inr (inl refl))
telling_spoken (Placed (At n)) = inl refl
telling_spoken (Placed (Not l)) = inr (inr (inr refl))
telling_spoken (Joined texts count) = elim (low texts) [ inl h ↦ inl h | inr h ↦ inr (inl h) ]
telling_spoken (Hung trace) = inr (inl refl)
telling_spoken NoHang = inl refl

-- other statuses are none of them
pub spoken : (status : ℕ) → IsSpoken status → (k : ℕ) → ((2 ≤ k) × (k ≤ 6)) ⊎ (9 ≤ k) → status ≡ k → ⊥
spoken status (inl h) k (inl apart) is = omega (arith, h, apart, is)
spoken status (inl h) k (inr apart) is = omega (arith, h, apart, is)
spoken status (inr (inl h)) k (inl apart) is = omega (arith, h, apart, is)
spoken status (inr (inl h)) k (inr apart) is = omega (arith, h, apart, is)
spoken status (inr (inr (inl h))) k (inl apart) is = omega (arith, h, apart, is)
spoken status (inr (inr (inl h))) k (inr apart) is = omega (arith, h, apart, is)
spoken status (inr (inr (inr h))) k (inl apart) is = omega (arith, h, apart, is)
spoken status (inr (inr (inr h))) k (inr apart) is = omega (arith, h, apart, is)

-- want of memory has another status
pub no_low : (status : ℕ) → status ≡ 6 → (status ≡ 0) ⊎ (status ≡ 1) → ⊥
no_low status six (inl h) = omega (arith, six, h)
no_low status six (inr h) = omega (arith, six, h)

pub not_told : (t : Telling) (k : ℕ) → ((2 ≤ k) × (k ≤ 6)) ⊎ (9 ≤ k) → k ≡ telling_status t → ⊥
not_told t k apart h = spoken (telling_status t) (telling_spoken t) k apart (sym h)

-- what is told has a status of its question
pub speaks_of : (question : Question) (shape : Sizes) (lines : List Line) (report : List ℕ) (t : Telling) →
    IsTelling question shape lines report t → Speaks question (telling_status t)
speaks_of All shape lines report (Listed texts) right = low texts
speaks_of All shape lines report (Traced trace) right = absurd right
speaks_of All shape lines report (Fewer n c) right = absurd right
speaks_of All shape lines report (Placed place) right = absurd right
speaks_of All shape lines report (Joined texts count) right = absurd right
speaks_of All shape lines report (Hung trace) right = absurd right
speaks_of All shape lines report NoHang right = absurd right
speaks_of (Trace k) shape lines report (Listed texts) right = absurd right
speaks_of (Trace k) shape lines report (Traced trace) right =
    elim (traced_low trace.items) [ inl h ↦ inl h | inr h ↦ inr (inl h) ]
speaks_of (Trace k) shape lines report (Fewer n c) right = inr (inr refl)
speaks_of (Trace k) shape lines report (Placed place) right = absurd right
speaks_of (Trace k) shape lines report (Joined texts count) right = absurd right
speaks_of (Trace k) shape lines report (Hung trace) right = absurd right
speaks_of (Trace k) shape lines report NoHang right = absurd right
speaks_of Among shape lines report (Listed texts) right = absurd right
speaks_of Among shape lines report (Traced trace) right = absurd right
speaks_of Among shape lines report (Fewer n c) right = absurd right
speaks_of Among shape lines report (Placed (At n)) right = inl refl
speaks_of Among shape lines report (Placed (Not l)) right = inr refl
speaks_of Among shape lines report (Joined texts count) right = absurd right
speaks_of Among shape lines report (Hung trace) right = absurd right
speaks_of Among shape lines report NoHang right = absurd right
speaks_of Either shape lines report (Listed texts) right = absurd right
speaks_of Either shape lines report (Traced trace) right = absurd right
speaks_of Either shape lines report (Fewer n c) right = absurd right
speaks_of Either shape lines report (Placed place) right = absurd right
speaks_of Either shape lines report (Joined texts count) right = low texts
speaks_of Either shape lines report (Hung trace) right = absurd right
speaks_of Either shape lines report NoHang right = absurd right
speaks_of Hangs shape lines report (Listed texts) right = absurd right
speaks_of Hangs shape lines report (Traced trace) right = absurd right
speaks_of Hangs shape lines report (Fewer n c) right = absurd right
speaks_of Hangs shape lines report (Placed place) right = absurd right
speaks_of Hangs shape lines report (Joined texts count) right = absurd right
speaks_of Hangs shape lines report (Hung trace) right = inr refl
speaks_of Hangs shape lines report NoHang right = inl refl

module _ {asked : Asked} {before after : Option (List ℕ)} {bytes : List ℕ} where
  -- what is told, for this question
  for : {status : ℕ} (question : Question) → asked.question ≡ question →
      (told : IsTold asked status before after bytes) →
      IsTelling question (sizes_for asked told.given.ranks) told.given.lines told.given.report told.telling
  for question is told =
      subst (λ (q : Question). IsTelling q (sizes_for asked told.given.ranks) told.given.lines told.given.report
      told.telling) is told.right

  listed_by : (status : ℕ) (given : IsGiven asked bytes) (t : Telling) →
      IsTelling All (sizes_for asked given.ranks) given.lines given.report t → status ≡ telling_status t →
      Appends before after (telling_text t) → IsListed asked status before after bytes
  listed_by status given (Listed texts) right ended said =
      record { given = given; texts = texts; reports = right; ended = ended; said = said }
  listed_by status given (Traced trace) right ended said = absurd right
  listed_by status given (Fewer n c) right ended said = absurd right
  listed_by status given (Placed place) right ended said = absurd right
  listed_by status given (Joined texts count) right ended said = absurd right
  listed_by status given (Hung trace) right ended said = absurd right
  listed_by status given NoHang right ended said = absurd right

  pub listed_of : (status : ℕ) → asked.question ≡ All → IsTold asked status before after bytes →
      IsListed asked status before after bytes
  listed_of status is told =
      listed_by status told.given told.telling (for All is told) told.ended told.said

  joined_by : (status : ℕ) (given : IsGiven asked bytes) (t : Telling) →
      IsTelling Either (sizes_for asked given.ranks) given.lines given.report t → status ≡ telling_status t →
      Appends before after (telling_text t) → IsEitherListed asked status before after bytes
  joined_by status given (Listed texts) right ended said = absurd right
  joined_by status given (Traced trace) right ended said = absurd right
  joined_by status given (Fewer n c) right ended said = absurd right
  joined_by status given (Placed place) right ended said = absurd right
  joined_by status given (Joined texts count) right ended said =
      record {
        given = given;
        texts = texts;
        reports = right.0;
        ended = ended;
        said = subst (λ (n : ℕ). Appends before after (joined_text n texts)) right.1 said;
      }
  joined_by status given (Hung trace) right ended said = absurd right
  joined_by status given NoHang right ended said = absurd right

  pub joined_of : (status : ℕ) → asked.question ≡ Either → IsTold asked status before after bytes →
      IsEitherListed asked status before after bytes
  joined_of status is told =
      joined_by status told.given told.telling (for Either is told) told.ended told.said

  traced_by : (number status : ℕ) → status ≤ 1 → (given : IsGiven asked bytes) (t : Telling) →
      IsTelling (Trace number) (sizes_for asked given.ranks) given.lines given.report t →
      status ≡ telling_status t → Appends before after (telling_text t) →
      IsTraceSaid asked number status before after bytes
  traced_by number status small given (Listed texts) right ended said = absurd right
  traced_by number status small given (Traced trace) right ended said =
      record { given = given; trace = trace.items; one = right; ended = ended; said = said }
  traced_by number status small given (Fewer n c) right ended said = absurd (omega (arith, small, ended))
  traced_by number status small given (Placed place) right ended said = absurd right
  traced_by number status small given (Joined texts count) right ended said = absurd right
  traced_by number status small given (Hung trace) right ended said = absurd right
  traced_by number status small given NoHang right ended said = absurd right

  pub traced_of : (number status : ℕ) → (status ≡ 0) ⊎ (status ≡ 1) → asked.question ≡ Trace number →
      IsTold asked status before after bytes → IsTraceSaid asked number status before after bytes
  traced_of number status (inl h) is told =
      traced_by number status (omega (arith, h)) told.given told.telling (for (Trace number) is told) told.ended
      told.said
  traced_of number status (inr h) is told =
      traced_by number status (omega (arith, h)) told.given told.telling (for (Trace number) is told) told.ended
      told.said

  fewer_by : (number : ℕ) (given : IsGiven asked bytes) (t : Telling) →
      IsTelling (Trace number) (sizes_for asked given.ranks) given.lines given.report t → 7 ≡ telling_status t →
      Appends before after (telling_text t) → IsFewerSaid asked number before after bytes
  fewer_by number given (Listed texts) right ended said = absurd right
  fewer_by number given (Traced trace) right ended said =
      absurd (elim (traced_low trace.items) [ inl h ↦ omega (arith, h, ended) | inr h ↦ omega (arith, h, ended) ])
  fewer_by number given (Fewer n c) right ended said =
      record {
        given = given;
        count = c;
        fewer = right.1;
        said = subst (λ (n : ℕ). Appends before after (fewer_text n c)) right.0 said;
      }
  fewer_by number given (Placed place) right ended said = absurd right
  fewer_by number given (Joined texts count) right ended said = absurd right
  fewer_by number given (Hung trace) right ended said = absurd right
  fewer_by number given NoHang right ended said = absurd right

  pub fewer_of : (number status : ℕ) → status ≡ 7 → asked.question ≡ Trace number →
      IsTold asked status before after bytes → IsFewerSaid asked number before after bytes
  fewer_of number status h is told =
      fewer_by number told.given told.telling (for (Trace number) is told) (sym h ∙ told.ended) told.said

  among_by : (given : IsGiven asked bytes) (t : Telling) →
      IsTelling Among (sizes_for asked given.ranks) given.lines given.report t → 0 ≡ telling_status t →
      Appends before after (telling_text t) → IsAmong asked before after bytes
  among_by given (Listed texts) right ended said = absurd right
  among_by given (Traced trace) right ended said = absurd right
  among_by given (Fewer n c) right ended said = absurd right
  among_by given (Placed (At n)) right ended said =
      record {
        given = given;
        texts = right.0;
        outcomes = right.1;
        number = n;
        some = right.2.0;
        there = right.2.1;
        said = said;
      }
  among_by given (Placed (Not l)) right ended said = absurd (omega (arith, ended))
  among_by given (Joined texts count) right ended said = absurd right
  among_by given (Hung trace) right ended said = absurd right
  among_by given NoHang right ended said = absurd right

  pub among_of : (status : ℕ) → status ≡ 0 → asked.question ≡ Among → IsTold asked status before after bytes →
      IsAmong asked before after bytes
  among_of status h is told =
      among_by told.given told.telling (for Among is told) (sym h ∙ told.ended) told.said

  not_among_by : (given : IsGiven asked bytes) (t : Telling) →
      IsTelling Among (sizes_for asked given.ranks) given.lines given.report t → 8 ≡ telling_status t →
      Appends before after (telling_text t) → IsNotAmong asked before after bytes
  not_among_by given (Listed texts) right ended said = absurd right
  not_among_by given (Traced trace) right ended said = absurd right
  not_among_by given (Fewer n c) right ended said = absurd right
  not_among_by given (Joined texts count) right ended said = absurd right
  not_among_by given (Placed (At n)) right ended said = absurd (omega (arith, ended))
  not_among_by given (Placed (Not l)) right ended said =
      record {
        given = given;
        texts = right.0;
        outcomes = right.1;
        none = right.2.0;
        line = l;
        first = right.2.1;
        said = said;
      }
  not_among_by given (Hung trace) right ended said = absurd right
  not_among_by given NoHang right ended said = absurd right

  pub not_among_of : (status : ℕ) → status ≡ 8 → asked.question ≡ Among → IsTold asked status before after bytes →
      IsNotAmong asked before after bytes
  not_among_of status h is told =
      not_among_by told.given told.telling (for Among is told) (sym h ∙ told.ended) told.said

  hang_by : (given : IsGiven asked bytes) (t : Telling) →
      IsTelling Hangs (sizes_for asked given.ranks) given.lines given.report t → 1 ≡ telling_status t →
      Appends before after (telling_text t) → IsHangSaid asked before after bytes
  hang_by given (Listed texts) right ended said = absurd right
  hang_by given (Traced trace) right ended said = absurd right
  hang_by given (Fewer n c) right ended said = absurd right
  hang_by given (Placed place) right ended said = absurd right
  hang_by given (Joined texts count) right ended said = absurd right
  hang_by given (Hung trace) right ended said =
      record { given = given; trace = trace.items; hangs = right; said = said }
  hang_by given NoHang right ended said = absurd (omega (arith, ended))

  pub hang_of : (status : ℕ) → status ≡ 1 → asked.question ≡ Hangs → IsTold asked status before after bytes →
      IsHangSaid asked before after bytes
  hang_of status h is told = hang_by told.given told.telling (for Hangs is told) (sym h ∙ told.ended) told.said

  no_hang_by : (given : IsGiven asked bytes) (t : Telling) →
      IsTelling Hangs (sizes_for asked given.ranks) given.lines given.report t → 0 ≡ telling_status t →
      Appends before after (telling_text t) → IsNoHangSaid asked before after bytes
  no_hang_by given (Listed texts) right ended said = absurd right
  no_hang_by given (Traced trace) right ended said = absurd right
  no_hang_by given (Fewer n c) right ended said = absurd right
  no_hang_by given (Placed place) right ended said = absurd right
  no_hang_by given (Joined texts count) right ended said = absurd right
  no_hang_by given (Hung trace) right ended said = absurd (omega (arith, ended))
  no_hang_by given NoHang right ended said = record { given = given; none = right; said = said }

  pub no_hang_of : (status : ℕ) → status ≡ 0 → asked.question ≡ Hangs → IsTold asked status before after bytes →
      IsNoHangSaid asked before after bytes
  no_hang_of status h is told = no_hang_by told.given told.telling (for Hangs is told) (sym h ∙ told.ended) told.said
