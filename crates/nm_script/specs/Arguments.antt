-- The arguments of each command, and how each is spelled.
use Rattle.std.specs.Prelude.{◌≡◌, ℕ, ◌≤◌, ◌<◌, true, List, [], ◌∷◌, decimal}
use Rattle.nm_types.specs.declared.limits.TheConstants.{MAX_NAME, MAX_TAG, MAX_CONTEXT}
use Rattle.nm_types.specs.declared.limits.TheConstants.{MAX_CAPACITY, MAX_BODY}
use Rattle.nm_types.specs.declared.messages.Peer.{Peer}
use Rattle.nm_types.specs.declared.messages.TagPick.{TagPick}
use Rattle.nm_types.specs.declared.scripts.Body.{Body}
use Rattle.nm_types.specs.Bodies.{body_len}
use Rattle.nm_types.specs.Limits.{is_peer, is_pick}
use Rattle.nm_types.specs.Text.{body_word, peer_word, tag_word}
use Rattle.nm_script.specs.declared.keywords.Keyword.{Keyword}
use Rattle.nm_script.specs.declared.keywords.Keyword.TheVariants as key
use Rattle.nm_script.specs.Spelled.{are_bytes}

-- the sorts of arguments
pub data Argument : Type 0 where
  Name : Argument
  Destination : Argument
  Source : Argument
  Tag : Argument
  TagChoice : Argument
  Context : Argument
  Capacity : Argument
  Contents : Argument

-- the arguments of a command
abbrev pub arguments : Keyword → List Argument
arguments key.Isend = Name ∷ Destination ∷ Tag ∷ Context ∷ Contents ∷ []
arguments key.Issend = Name ∷ Destination ∷ Tag ∷ Context ∷ Contents ∷ []
arguments key.Irecv = Name ∷ Source ∷ TagChoice ∷ Context ∷ Capacity ∷ []
arguments key.Wait = Name ∷ []
arguments key.Test = Name ∷ []
arguments key.Probe = Source ∷ TagChoice ∷ Context ∷ []
arguments key.Await = Source ∷ TagChoice ∷ Context ∷ []
arguments key.Cancel = Name ∷ []
arguments key.Mprobe = Name ∷ Source ∷ TagChoice ∷ Context ∷ []
arguments key.Mrecv = Name ∷ Name ∷ Capacity ∷ []

-- the word is a number of at most `most`
abbrev pub IsUpTo : ℕ → List ℕ → Type 0
IsUpTo most word = (n : ℕ) × (n ≤ most) × (word ≡ decimal n)

-- the word is a number below the limit
abbrev pub IsBelow : ℕ → List ℕ → Type 0
IsBelow limit word = (n : ℕ) × (n < limit) × (word ≡ decimal n)

-- the word is an argument of this sort; a body is judged apart
abbrev pub IsSpelled : ℕ → Argument → List ℕ → Type 0
IsSpelled ranks Name word = IsUpTo MAX_NAME word
IsSpelled ranks Destination word = IsBelow ranks word
IsSpelled ranks Source word = (from : Peer) × (is_peer ranks from ≡ true) × (word ≡ peer_word from)
IsSpelled ranks Tag word = IsUpTo MAX_TAG word
IsSpelled ranks TagChoice word = (tag : TagPick) × (is_pick tag ≡ true) × (word ≡ tag_word tag)
IsSpelled ranks Context word = IsUpTo MAX_CONTEXT word
IsSpelled ranks Capacity word = IsUpTo MAX_CAPACITY word
IsSpelled ranks Contents word = Unit {0}

-- the word is a body's
abbrev pub IsBody : List ℕ → Type 0
IsBody word =
    (body : Body) × (are_bytes body ≡ true) × (body_len body ≤ MAX_BODY) × (word ≡ body_word body)

-- a word that stands for a body is one
abbrev pub IsBodyThere : Argument → List ℕ → Type 0
IsBodyThere Contents word = IsBody word
IsBodyThere _ word = Unit {0}

-- it is so of each argument and its word
abbrev pub Each : {A : Type 0} → (A → List ℕ → Type 0) → List A → List (List ℕ) → Type 0
Each is (sort ∷ sorts) (word ∷ words) = is sort word × Each is sorts words
Each is _ _ = Unit {0}
