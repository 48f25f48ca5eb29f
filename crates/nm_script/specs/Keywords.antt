-- The names of the commands.
use Rattle.std.specs.Prelude.{ℕ, List, [], ◌∷◌, Option, codes, find}
use Rattle.std.specs.Str.{bytes_eq}
use Rattle.nm_script.specs.declared.keywords.Keyword.{Keyword}
use Rattle.nm_script.specs.declared.keywords.Keyword.TheVariants as key

-- the name of a command
abbrev pub keyword_text : Keyword → List ℕ
keyword_text key.Isend = codes "isend"
keyword_text key.Issend = codes "issend"
keyword_text key.Irecv = codes "irecv"
keyword_text key.Wait = codes "wait"
keyword_text key.Test = codes "test"
keyword_text key.Probe = codes "probe"
keyword_text key.Await = codes "await"
keyword_text key.Cancel = codes "cancel"
keyword_text key.Mprobe = codes "mprobe"
keyword_text key.Mrecv = codes "mrecv"

-- the commands that there are
abbrev pub keywords : List Keyword
keywords =
    key.Isend ∷ key.Issend ∷ key.Irecv ∷ key.Wait ∷ key.Test ∷ key.Probe ∷ key.Await ∷ key.Cancel
    ∷ key.Mprobe ∷ key.Mrecv ∷ []

-- the command that has this name
unfoldable pub keyword_of : List ℕ → Option Keyword
keyword_of word = find (λ k. bytes_eq word (keyword_text k)) keywords
