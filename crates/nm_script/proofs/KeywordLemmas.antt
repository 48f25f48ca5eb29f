-- The names of the commands, both ways.
use Rattle.std.proofs.Common.{◌≡◌, ℕ, List, Some, refl}
use Rattle.std.specs.Str.{bytes_eq}
use Rattle.std.proofs.lemmas.Slice.Eq.{bytes_eq-Decides}
use Rattle.nm_script.specs.declared.keywords.Keyword.{Keyword}
use Rattle.nm_script.specs.declared.keywords.Keyword.TheVariants as key
use Rattle.nm_script.specs.Keywords.{keyword_text, keywords, keyword_of}
use Rattle.nm_types.proofs.ListLemmas.{find_passes}

-- a name that is taken is the command's
pub keyword_taken : (word : List ℕ) (k : Keyword) → keyword_of word ≡ Some k → word ≡ keyword_text k
unfolding keyword_of
keyword_taken word k h = (bytes_eq-Decides word (keyword_text k)).0
    (find_passes (λ k. bytes_eq word (keyword_text k)) keywords k h)

-- each command's name is taken
pub keyword_again : (k : Keyword) → keyword_of (keyword_text k) ≡ Some k
unfolding keyword_of
keyword_again key.Isend = refl
keyword_again key.Issend = refl
keyword_again key.Irecv = refl
keyword_again key.Wait = refl
keyword_again key.Test = refl
keyword_again key.Probe = refl
keyword_again key.Await = refl
keyword_again key.Cancel = refl
keyword_again key.Mprobe = refl
keyword_again key.Mrecv = refl
