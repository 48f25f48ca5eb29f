-- What a log comes to, as text.
use Rattle.std.specs.Prelude.{ℕ, Option, None, Some, List, codes, decimal, length, sum_by}
use Rattle.std.specs.Option.{option_map_or}
use Rattle.nm_types.specs.declared.answers.Answer.TheVariants.{Got}
use Rattle.nm_types.specs.Text.{text_line}
use Rattle.std.specs.Prelude.{[], ◌∷◌, ◌++◌}
use Rattle.nm_multi.specs.declared.calls.Entry.{Entry}
use Rattle.nm_multi.specs.declared.calls.Reply.{Reply}
use Rattle.nm_multi.specs.declared.calls.Reply.TheVariants as reply

-- the length of the message that a reply shows, if it shows one
abbrev pub shown : Reply → Option ℕ
shown (reply.Ended (Got from tag body)) = Some (length body)
shown _ = None

-- how many messages the replies show
abbrev pub got_of : List Entry → ℕ
got_of log = sum_by (λ e. option_map_or (λ _. 1) (shown e.reply) 0) log

-- how many bytes these have
abbrev pub bytes_got : List Entry → ℕ
bytes_got log = sum_by (λ e. option_map_or (λ len. len) (shown e.reply) 0) log

-- the text of a log, by so many threads of so many rounds
abbrev pub log_text : ℕ → ℕ → List Entry → List ℕ
log_text threads rounds log =
    text_line (codes "multi" ∷ decimal threads ∷ decimal rounds ∷ [])
    ++ text_line (codes "calls" ∷ decimal (length log) ∷ [])
    ++ text_line
    (codes "got" ∷ decimal (got_of log) ∷ codes "bytes" ∷ decimal (bytes_got log) ∷ [])
