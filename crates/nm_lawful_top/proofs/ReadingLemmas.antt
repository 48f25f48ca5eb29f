-- Lines that are read.
use Rattle.std.proofs.Common.{◌≡◌, ℕ, ◌+◌, Option, None, List, [], ◌∷◌, length, replicate, sym, ap, ◌∙◌}
use Rattle.std.specs.Prelude.{Ok, Err}
use Rattle.std.specs.Option.{option_map_or}
use Rattle.nm_types.specs.declared.scripts.Line.{Line}
use Rattle.nm_script.specs.Lines.{lines_of}
use Rattle.nm_lawful.specs.declared.moves.Said.{Said}
use Rattle.nm_lawful.specs.Moves.{Report, report_lem}
use Rattle.nm_lawful_top.specs.declared.readings.Added.{Added}
use Rattle.nm_lawful_top.specs.declared.readings.Added.TheVariants.{No, Yes}
use Rattle.nm_lawful_top.specs.declared.words.Cuts.{Cuts}
use Rattle.nm_lawful_top.specs.declared.readings.Lines.{Lines}
use Rattle.nm_lawful_top.specs.Readings.{added_as, line_by, read_as, read_from, reading_of}

-- one line more was added, and reading goes on behind it
pub read_on : (cuts : Cuts) (lines : List Line) (bytes line after : List ℕ) (number : ℕ) (told next : Report)
    (added : Added) → lines_of bytes ≡ line ∷ lines_of after → added ≡ Yes →
    added_as added next ≡ line_by cuts lines number line told →
    read_from cuts lines (lines_of after) (number + 1) next ≡ read_from cuts lines (lines_of bytes) number told
read_on cuts lines bytes line after number told next added split so is =
    ap (λ (o : Option Report). option_map_or (λ (r : Report). read_from cuts lines (lines_of after) (number + 1) r) o (Err (number + 1)))
    (ap (λ (a : Added). added_as a next) (sym so) ∙ is)
    ∙ ap (λ (ls : List (List ℕ)). read_from cuts lines ls number told) (sym split)

-- .. or it tells nothing
pub read_bad : (cuts : Cuts) (lines : List Line) (bytes line after : List ℕ) (number : ℕ) (told next : Report)
    (added : Added) → lines_of bytes ≡ line ∷ lines_of after → added ≡ No →
    added_as added next ≡ line_by cuts lines number line told →
    Err (number + 1) ≡ read_from cuts lines (lines_of bytes) number told
read_bad cuts lines bytes line after number told next added split so is =
    ap (λ (o : Option Report). option_map_or (λ (r : Report). read_from cuts lines (lines_of after) (number + 1) r) o (Err (number + 1)))
    (ap (λ (a : Added). added_as a next) (sym so) ∙ is)
    ∙ ap (λ (ls : List (List ℕ)). read_from cuts lines ls number told) (sym split)

-- all were read
pub read_all : (cuts : Cuts) (lines : List Line) (bytes : List ℕ) (number : ℕ) (told : Report) → bytes ≡ [] →
    Ok (told, number) ≡ read_from cuts lines (lines_of bytes) number told
read_all cuts lines bytes number told none =
    ap (λ (bs : List ℕ). read_from cuts lines (lines_of bs) number told) (sym none)

-- what was read behind nothing is what the text tells
pub read_whole : (cuts : Cuts) (ranks count : ℕ) (lines own : List Line) (text : List ℕ) (said : List (Option Said))
    (waits : List (Option ℕ)) (read is : Lines) (told : Report) → own ≡ lines → count ≡ length own →
    said ≡ replicate count None → waits ≡ replicate ranks None → read ≡ is →
    read_as read told ≡ read_from cuts own (lines_of text) 0 (report_lem said waits) →
    reading_of cuts ranks lines text ≡ read_as is told
read_whole cuts ranks count lines own text said waits read is told same as_many none calm so reads =
    sym (ap (λ (l : Lines). read_as l told) (sym so) ∙ reads
    ∙ ap (λ (s : List (Option Said)). read_from cuts own (lines_of text) 0 (report_lem s waits))
    (none ∙ ap (λ (n : ℕ). replicate n None) as_many)
    ∙ ap (λ (w : List (Option ℕ)). read_from cuts own (lines_of text) 0 (report_lem (replicate (length own) None) w)) calm
    ∙ ap (λ (ls : List Line). read_from cuts ls (lines_of text) 0 (report_lem (replicate (length ls) None) (replicate ranks None)))
    same)
