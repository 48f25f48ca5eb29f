-- The lines of the whole input that are told of a trace, and their bytes.
use Rattle.std.specs.Prelude.{ℕ, ◌+◌, ◌-◌, Option, Some, None, List, option_and_then, option_map, slice_get}
use Rattle.nm_script.specs.Lines.{lines_of}
use Rattle.nm_verdict.specs.declared.quotes.Quotes.{Quotes}
use Rattle.nm_breaks.specs.declared.finding.Found.{Found}
use Rattle.nm_breaks.specs.declared.finding.Found.TheVariants.{Judged}
use Rattle.nm_breaks.specs.declared.judgements.Judgement.{Judgement}
use Rattle.nm_breaks.specs.declared.judgements.Judgement.TheVariants.{Own, Carried, Left, Counted, Home, Done}
use Rattle.nm_breaks.specs.declared.places.EventLine.{EventLine}

-- the line of an event, if there is one
abbrev pub event_line : Option EventLine → Option ℕ
event_line event = option_map (λ e. e.line) event

-- the line of the trace, counted from 1, that is told, if one is
abbrev pub place_line : Judgement → Option ℕ
place_line (Own clause rank first event) = event_line event
place_line (Carried clause from to event other against) = Some event.line
place_line (Left rule event) = Some event.line
place_line (Counted line miscount) = Some line
place_line (Home line cells) = Some line
place_line (Done line) = Some line
place_line _ = None

-- .. whose bytes are told: of a count that is missing there is none
abbrev pub quoted_line : Judgement → Option ℕ
quoted_line (Counted line miscount) = option_map (λ pair. line) miscount.found
quoted_line j = place_line j

-- .. of the other rank's event
abbrev pub other_line : Judgement → Option ℕ
other_line (Carried clause from to event other against) = event_line other
other_line j = None

-- a line of the whole input: so many lines and the line `---` stand before the trace
abbrev pub whole_line : ℕ → Option ℕ → Option ℕ
whole_line before line = option_map (λ line. before + 1 + line) line

-- the bytes of a line of the whole input, counted from 1, if it is told
abbrev pub text_at : List ℕ → Option ℕ → Option (List ℕ)
text_at bytes told = option_and_then (λ line. slice_get (lines_of bytes) (line - 1)) told

-- .. of both lines that are told of what was found
abbrev pub quotes_of : List ℕ → Found → Quotes
quotes_of bytes (Judged before j run) = record {
  line = text_at bytes (whole_line before (quoted_line j));
  other = text_at bytes (whole_line before (other_line j));
}
quotes_of bytes found = record { line = None; other = None }
