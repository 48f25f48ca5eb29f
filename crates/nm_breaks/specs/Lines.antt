-- The lines of a trace that are told.
use Rattle.std.specs.Prelude.{◌≡◌, ℕ, ◌+◌, Some, IfSome, IsSomeAnd, List, ◌∷◌, codes, decimal, slice_get}
use Rattle.std.specs.List.{join_with_byte}
use Rattle.nm_script.specs.Lines.{lines_of}
use Rattle.nm_history.specs.declared.events.Event.{Event}
use Rattle.nm_history.specs.Quiescence.{history_of}
use Rattle.nm_report.specs.declared.records.RunRecord.{RunRecord}
use Rattle.nm_report.specs.Ends.{ends_of}
use Rattle.nm_report.specs.Events.{event_words}
use Rattle.nm_trace.specs.Notes.{cells_words, end_word, pair_words}
use Rattle.nm_breaks.specs.declared.judgements.Judgement.{Judgement}
use Rattle.nm_breaks.specs.declared.judgements.Judgement.TheVariants.{Own, Carried, Left, Counted, Home, Done}
use Rattle.nm_breaks.specs.declared.places.EventLine.{EventLine}

-- the line of an event, without its line feed
abbrev pub event_text : ℕ → Event → List ℕ
event_text rank event =
    join_with_byte 32 (codes "@" ∷ decimal rank ∷ decimal event.stamp ∷ event_words event.what)

-- the line of these bytes with this number, counted from 1, is this text
abbrev pub IsLineAt : List ℕ → ℕ → List ℕ → Type 0
IsLineAt bytes line text = (before : ℕ) × (line ≡ before + 1) × (slice_get (lines_of bytes) before ≡ Some text)

-- an event stands on its line
abbrev pub EventStands : List ℕ → RunRecord → EventLine → Type 0
EventStands bytes run event =
    IsSomeAnd (slice_get (history_of (ends_of run.ranks) event.spot.rank) event.spot.at)
    (λ e. IsLineAt bytes event.line (event_text event.spot.rank e))

-- Each line that is told is one of these bytes: that of an event and of the other rank's event, that of a count of
-- packets, if one stands there, that of the cells, and that of the end.
abbrev pub Stands : List ℕ → RunRecord → Judgement → Type 0
Stands bytes run (Own clause rank first event) = IfSome event (EventStands bytes run)
Stands bytes run (Carried clause from to event other against) =
    EventStands bytes run event × IfSome other (EventStands bytes run)
Stands bytes run (Left rule event) = EventStands bytes run event
Stands bytes run (Counted line miscount) =
    IfSome miscount.found (λ pair. IsLineAt bytes line (join_with_byte 32 (pair_words pair)))
Stands bytes run (Home line cells) = IsLineAt bytes line (join_with_byte 32 (cells_words run.cells))
Stands bytes run (Done line) = IsLineAt bytes line (end_word run.done)
Stands bytes run _ = Unit {0}
