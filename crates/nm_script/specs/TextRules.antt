-- The rules of a text of lines, the first of which says how many ranks there are: its first fault, and when
-- it is the text of some lines. Scripts and plans are such texts.
use Rattle.std.specs.Prelude.{◌≡◌, ℕ, ◌+◌, ◌≤◌, ◌<◌, ◌⊎◌, List, [], ◌∷◌, ◌++◌, length, map, codes, decimal}
use Rattle.std.specs.List.{join_with_byte}
use Rattle.nm_types.specs.declared.limits.TheConstants.{MAX_RANKS, MAX_LINES, MAX_TEXT}
use Rattle.nm_script.specs.declared.faults.TextFault.{TextFault}
use Rattle.nm_script.specs.declared.faults.TextFault.TheVariants as fault
use Rattle.nm_script.specs.Lines.{ended_lines, lines_of, text_len}

-- the text of the line of the ranks
abbrev pub ranks_text : ℕ → List ℕ
ranks_text ranks = join_with_byte 32 (codes "ranks" ∷ decimal ranks ∷ [])

-- the text is the line of some ranks
abbrev pub IsRanks : List ℕ → Type 0
IsRanks text = (ranks : ℕ) × (1 ≤ ranks) × (ranks ≤ MAX_RANKS) × (text ≡ ranks_text ranks)

-- the rules of lines X, one for each of the kinds K of fault: the text of a line; which lines may stand
-- together in a text of so many ranks; what a text behind such lines has to keep, and what the first line
pub record Grammar (X K : Type 0) : Type 1 where
  pub text_of : X → List ℕ
  pub AreSound : ℕ → List X → Type 0
  pub KeepsRule : ℕ → List X → List ℕ → K → Type 0
  pub line_kinds : List K
  pub FirstKeeps : List ℕ → K → Type 0
  pub first_kinds : List K
  pub too_long : K

-- this is the first of the kinds whose rule is not kept
abbrev pub IsFirstOf : {K : Type 0} → (K → Type 0) → List K → K → Type 0
IsFirstOf keeps [] k = ⊥
IsFirstOf keeps (first ∷ others) k =
    ((k ≡ first) × ¬ (keeps first)) ⊎ (keeps first × IsFirstOf keeps others k)

-- each of the kinds has its rule kept
abbrev pub AllKept : {K : Type 0} → (K → Type 0) → List K → Type 0
AllKept keeps [] = Unit {0}
AllKept keeps (first ∷ others) = keeps first × AllKept keeps others

-- the first line; a text without bytes has an empty one
abbrev pub first_of : List (List ℕ) → List ℕ
first_of [] = []
first_of (line ∷ lines) = line

-- behind a first line and lines that keep every rule stands a line with this fault
pub record IsFaultBehind {X K : Type 0} (g : Grammar X K) (texts : List (List ℕ)) (number : ℕ) (k : K)
    : Type 0 where
  pub ranks : ℕ
  pub some_rank : 1 ≤ ranks
  pub few_ranks : ranks ≤ MAX_RANKS
  pub before : List X
  pub text : List ℕ
  pub after : List (List ℕ)
  pub texts_are : texts ≡ ranks_text ranks ∷ map g.text_of before ++ text ∷ after
  pub sound : g.AreSound ranks before
  pub few_lines : length before < MAX_LINES
  pub number_is : number ≡ length before + 2
  pub here : IsFirstOf (g.KeepsRule ranks before text) g.line_kinds k

-- the first fault of these lines
abbrev pub IsFaultOf : {X K : Type 0} → Grammar X K → List (List ℕ) → ℕ → K → Type 0
IsFaultOf g texts number k =
    ((number ≡ 1) × IsFirstOf (g.FirstKeeps (first_of texts)) g.first_kinds k)
    ⊎ IsFaultBehind g texts number k

-- the first fault of a text: too many bytes, before all others, or that of the first line with one
abbrev pub IsFirstFaultIn : {X K : Type 0} → Grammar X K → List ℕ → ℕ → K → Type 0
IsFirstFaultIn g bytes number k =
    ((number ≡ 0) × (k ≡ g.too_long) × (MAX_TEXT < text_len bytes))
    ⊎ ((text_len bytes ≤ MAX_TEXT) × IsFaultOf g (lines_of bytes) number k)

-- what is answered is the first fault; want of memory says nothing
abbrev pub IsFaultIn : {X K : Type 0} → Grammar X K → List ℕ → TextFault K → Type 0
IsFaultIn g bytes (fault.Bad number k) = IsFirstFaultIn g bytes number k
IsFaultIn g bytes fault.Memory = Unit {0}

-- the whole text, each line ended
abbrev pub text_with : {X K : Type 0} → Grammar X K → ℕ → List X → List ℕ
text_with g ranks lines = ended_lines (ranks_text ranks ∷ map g.text_of lines)

-- the bytes are the text of so many ranks and these lines, or that text without its last line feed, and keep
-- the limits
pub record IsTextIn {X K : Type 0} (g : Grammar X K) (bytes : List ℕ) (ranks : ℕ) (lines : List X)
    : Type 0 where
  pub spelled : (bytes ≡ text_with g ranks lines) ⊎ (bytes ++ 10 ∷ [] ≡ text_with g ranks lines)
  pub some_rank : 1 ≤ ranks
  pub few_ranks : ranks ≤ MAX_RANKS
  pub few_lines : length lines < MAX_LINES
  pub sound : g.AreSound ranks lines
  pub text_fits : length (text_with g ranks lines) ≤ MAX_TEXT
