-- A flag in a picture: where a trace breaks a rule first.
use Rattle.std.specs.Prelude.{◌≡◌, ℕ, ◌&&◌, Bool, false, nat_le, nat_lt, if◌then◌else◌, List, [], ◌∷◌, ◌++◌}
use Rattle.std.specs.Prelude.{Option, Some, None, codes, decimal, get_or}
use Rattle.nm_report.specs.declared.accounts.RankAccount.{RankAccount}
use Rattle.nm_report.specs.declared.records.RunRecord.{RunRecord}
use Rattle.nm_diagram.specs.declared.frames.Frame.{Frame}
use Rattle.nm_diagram.specs.declared.frames.Part.{Part}
use Rattle.nm_diagram.specs.Frames.{IsFrame}
use Rattle.nm_picture.specs.declared.flags.Flag.{Flag}
use Rattle.nm_picture.specs.declared.flags.Flag.TheVariants.{Event, Behind, Line}
use Rattle.nm_picture.specs.Markup.{element, empty}
use Rattle.nm_picture.specs.Pictures.{foot_y, front_text, lane_x, shapes_text, stamp_y}

-- a rank has a line
abbrev pub has_lane : Frame → ℕ → Bool
has_lane frame rank = nat_lt rank frame.lanes && get_or frame.chosen rank false

-- the events of a rank with a stamp are shown
abbrev pub is_place_in : Frame → ℕ → ℕ → Bool
is_place_in frame rank stamp =
    has_lane frame rank && nat_le frame.span.first stamp && nat_lt stamp frame.span.end

-- the ring round a place
unfoldable pub flag_ring : ℕ → ℕ → List ℕ
flag_ring x y =
    element (codes "circle")
    ((codes "class", codes "red stroke") ∷ (codes "r", codes "13") ∷ (codes "cx", decimal x)
    ∷ (codes "cy", decimal y) ∷ []) empty (codes "\n")

-- words above the names of the ranks
abbrev pub flag_note : (List ℕ → List ℕ) → List ℕ
flag_note words =
    element (codes "text")
    ((codes "class", codes "note") ∷ (codes "x", codes "340") ∷ (codes "y", codes "39") ∷ []) words (codes "\n")

-- which line of the trace breaks a rule
unfoldable pub event_note : ℕ → List ℕ
event_note line = flag_note (λ rest. codes "trace line " ++ (decimal line ++ (codes " breaks a rule (red ring)" ++ rest)))

-- .. which is no event
unfoldable pub line_note : ℕ → List ℕ
line_note line = flag_note (λ rest. codes "trace line " ++ (decimal line ++ (codes " breaks a rule" ++ rest)))

-- or which rank does at its end
unfoldable pub behind_note : ℕ → List ℕ
behind_note rank = flag_note (λ rest. codes "rank " ++ (decimal rank ++ (codes " breaks a rule at its end (red ring)" ++ rest)))

-- a flag: the words, and a ring where the place is shown
abbrev pub flag_text : Frame → Option Flag → List ℕ
flag_text frame None = []
flag_text frame (Some (Event rank stamp line)) =
    event_note line
    ++ (if is_place_in frame rank stamp then flag_ring (lane_x frame rank) (stamp_y frame stamp) else [])
flag_text frame (Some (Behind rank)) =
    behind_note rank ++ (if has_lane frame rank then flag_ring (lane_x frame rank) (foot_y frame) else [])
flag_text frame (Some (Line line)) = line_note line

-- a picture with a flag in front of all shapes
unfoldable pub flagged_text : Frame → List RankAccount → Option Flag → List ℕ
flagged_text frame ranks flag =
    front_text frame ranks ++ (shapes_text frame ranks ++ (flag_text frame flag ++ codes "</g>\n</svg>\n"))

-- the text is the picture of this part of a run, with this flag
pub record IsFlaggedIn (part : Part) (flag : Option Flag) (run : RunRecord) (text : List ℕ) : Type 0 where
  pub frame : Frame
  pub of_ranks : IsFrame part run.ranks frame
  pub drawn : text ≡ flagged_text frame run.ranks flag
