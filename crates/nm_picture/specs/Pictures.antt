-- The text of a picture, shape by shape.
use Rattle.std.specs.Prelude.{◌≡◌, ℕ, ◌+◌, ◌-◌, ◌*◌, ◌/◌, ◌%◌, ◌==◌, ◌&&◌, ◌||◌, Bool, not, nat_le}
use Rattle.std.specs.Prelude.{if◌then◌else◌, max, min, List, []}
use Rattle.std.specs.Prelude.{◌∷◌, ◌++◌, Option, Some, None, codes, count_by, decimal, flat_map, length, take}
use Rattle.std.specs.List.{range_with_len}
use Rattle.nm_report.specs.Events.{how_word}
use Rattle.nm_report.specs.declared.accounts.RankAccount.{RankAccount}
use Rattle.nm_report.specs.declared.records.RunRecord.{RunRecord}
use Rattle.nm_diagram.specs.declared.frames.Frame.{Frame}
use Rattle.nm_diagram.specs.declared.frames.Part.{Part}
use Rattle.nm_diagram.specs.declared.arrows.Arrow.{Arrow}
use Rattle.nm_diagram.specs.Diagrams.{Mark, Lane, all_marks, all_arrows, all_lanes}
use Rattle.nm_diagram.specs.declared.links.Link.{Link}
use Rattle.nm_diagram.specs.Labels.{Label, all_labels}
use Rattle.nm_diagram.specs.declared.rings.Ring.{Ring}
use Rattle.nm_diagram.specs.Left.{all_rings}
use Rattle.nm_diagram.specs.Legend.{legend_of}
use Rattle.nm_diagram.specs.Links.{all_links}
use Rattle.nm_diagram.specs.declared.returns.Return.{Return}
use Rattle.nm_diagram.specs.Returns.{all_returns}
use Rattle.nm_diagram.specs.declared.signs.Sign.{Sign}
use Rattle.nm_diagram.specs.Signs.{name_of, words_of}
use Rattle.nm_diagram.specs.Frames.{IsFrame, whole}
use Rattle.nm_picture.specs.Markup.{attributes, element, empty, escaped}
use Rattle.nm_picture.specs.Sheet.{sheet_text}

-- how many lines stand before that of a rank: those of the chosen ranks before it
abbrev pub column_of : Frame → ℕ → ℕ
column_of frame rank = count_by (λ chosen. chosen) (take rank frame.chosen)

-- how far apart the lines of ranks stand: they share 1,240 units, and none takes more than 150
abbrev pub lane_gap : Frame → ℕ
lane_gap frame = min 150 (1240 / (column_of frame frame.lanes + 1))

-- the lines stand so far apart that the ranks' names have room, with the word before each number
abbrev pub has_room : Frame → Bool
has_room frame = nat_le 50 (lane_gap frame)

-- a word, where there is room for it
abbrev pub short : Frame → List ℕ → List ℕ
short frame word = if has_room frame then word else []

-- how far from the left the line of a rank stands
abbrev pub lane_x : Frame → ℕ → ℕ
lane_x frame rank = 340 + lane_gap frame * column_of frame rank

-- how many rows are pressed of the first so many: those in which no event tells more than a start
abbrev pub pressed_count : Frame → ℕ → ℕ
pressed_count frame row = count_by (λ full. not full) (take row frame.full)

-- how far from the top a row stands, of which each stamp has one: 16 units below the row before, or 10 where it is
-- pressed; and before each fortieth there is room for the names of the ranks
abbrev pub y_of_row : Frame → ℕ → ℕ
y_of_row frame row = max (70 + 16 * row + 30 * (row / 40) - 6 * pressed_count frame row) 70

-- the same of any number. No picture has more than 1,000,000 rows
abbrev pub row_y : Frame → ℕ → ℕ
row_y frame row = y_of_row frame (min row 1000001)

-- the stamp before the first one of a picture, where the lines of the ranks begin. No picture begins behind
-- 1,000,000
abbrev pub top_of : Frame → ℕ
top_of frame = min (frame.span.first - 1) 1000000

-- how far from the top a stamp stands
abbrev pub stamp_y : Frame → ℕ → ℕ
stamp_y frame stamp = row_y frame (stamp - top_of frame)

-- where the process lines end
abbrev pub foot_y : Frame → ℕ
foot_y frame = stamp_y frame frame.bottom + 16

-- how wide a picture is
abbrev pub width_of : Frame → ℕ
width_of frame = max (lane_x frame frame.lanes) 560

-- the start tag of a sign at a place, by the name of the group that draws it
unfoldable pub use_tag : List ℕ → ℕ → ℕ → List ℕ
use_tag name x y =
    codes "<use" ++ attributes
    ((codes "href", codes "#" ++ name) ∷ (codes "x", decimal x) ∷ (codes "y", decimal y) ∷ []) (codes ">")

-- the start tag of a line of a class, from a place to a place
unfoldable pub line_tag : List ℕ → ℕ → ℕ → ℕ → ℕ → List ℕ
line_tag class x1 y1 x2 y2 =
    codes "<line" ++ attributes
    ((codes "class", class) ∷ (codes "x1", decimal x1) ∷ (codes "y1", decimal y1) ∷ (codes "x2", decimal x2)
    ∷ (codes "y2", decimal y2) ∷ []) (codes ">")

-- a title between its tags
unfoldable pub title_text : List ℕ → List ℕ
title_text words = codes "<title>" ++ (escaped words ++ codes "</title>")

-- the start tag of a mark: its sign, on the line of its rank, at its stamp
abbrev pub sign_text : Frame → Mark → List ℕ
sign_text frame mark = use_tag (name_of mark.sign) (lane_x frame mark.lane) (stamp_y frame mark.stamp)

-- a mark with its title
unfoldable pub mark_text : Frame → Mark → List ℕ
mark_text frame mark = sign_text frame mark ++ (title_text mark.title ++ codes "</use>\n")

-- how far an arrow stands aside: one that comes back to its own line does
abbrev pub aside_of : Arrow → ℕ
aside_of arrow = if arrow.from == arrow.to then 8 else 0

-- the title of an arrow: the message that it stands for
unfoldable pub arrow_title : Arrow → List ℕ
arrow_title arrow =
    element (codes "title") []
    (λ rest. codes "message " ++ (decimal arrow.n ++ (codes " from " ++ (decimal arrow.from
    ++ (codes " to " ++ (decimal arrow.to ++ (codes " " ++ (how_word arrow.how ++ rest)))))))) []

-- the start tag of an arrow, from its send to its arrival: drawn otherwise where the message was sent by
-- asking
abbrev pub shaft_text : Frame → Arrow → List ℕ
shaft_text frame arrow =
    line_tag (how_word arrow.how) (lane_x frame arrow.from + aside_of arrow) (stamp_y frame arrow.sent)
    (lane_x frame arrow.to + aside_of arrow) (stamp_y frame arrow.arrived)

-- an arrow with its title
unfoldable pub arrow_text : Frame → Arrow → List ℕ
arrow_text frame arrow = shaft_text frame arrow ++ (arrow_title arrow ++ codes "</line>\n")

-- how many stamps lie between the ends of a link
abbrev pub span_of : Link → ℕ
span_of link = min (max link.received link.arrived - min link.received link.arrived) 1000000

-- how far the bow of a link bends: the farther, the more it spans, and those of receives in a row apart
abbrev pub bend_of : Frame → Link → ℕ
bend_of frame link =
    lane_gap frame / 12 + min 25 (lane_gap frame * span_of link / (6 * span_of link + 72))
    + lane_gap frame / 24 * (link.number % 4)

-- how far from the left the bow of a link stands
abbrev pub bow_x : Frame → Link → ℕ
bow_x frame link = lane_x frame link.lane - bend_of frame link

-- the start tag of a bow at a line, between two heights, which stands so far from the left
unfoldable pub bow_at : ℕ → ℕ → ℕ → ℕ → List ℕ
bow_at x bow y1 y2 =
    codes "<path class=\"link\" d=\"M " ++ (decimal x ++ (codes " " ++ (decimal y1 ++ (codes " C "
    ++ (decimal bow ++ (codes " " ++ (decimal y1 ++ (codes " " ++ (decimal bow ++ (codes " " ++ (decimal y2
    ++ (codes " " ++ (decimal x ++ (codes " " ++ (decimal y2 ++ codes "\">")))))))))))))))

-- the start tag of a link, from its receive to its arrival
abbrev pub bow_text : Frame → Link → List ℕ
bow_text frame link =
    bow_at (lane_x frame link.lane) (bow_x frame link) (stamp_y frame link.received) (stamp_y frame link.arrived)

-- the title of a link: the receive, and the message that it took
unfoldable pub link_title : Link → List ℕ
link_title link =
    element (codes "title") []
    (λ rest. codes "receive " ++ (decimal link.number ++ (codes " takes message " ++ (decimal link.n
    ++ (codes " from " ++ (decimal link.from ++ rest)))))) []

-- a link with its title
unfoldable pub link_text : Frame → Link → List ℕ
link_text frame link = bow_text frame link ++ (link_title link ++ codes "</path>\n")

-- the start tag of the ring round the arrival of a message that nobody took
abbrev pub ring_tag : Frame → Ring → List ℕ
ring_tag frame ring = use_tag (codes "left") (lane_x frame ring.lane) (stamp_y frame ring.stamp)

-- its title: the message
unfoldable pub ring_title : ℕ → ℕ → List ℕ
ring_title n from =
    element (codes "title") []
    (λ rest. codes "nobody took message " ++ (decimal n ++ (codes " from " ++ (decimal from ++ rest)))) []

-- the ring
unfoldable pub ring_text : Frame → Ring → List ℕ
ring_text frame ring = ring_tag frame ring ++ (ring_title ring.n ring.from ++ codes "</use>\n")

-- the start tag of the way of a withdrawal, or of its answer
abbrev pub return_shaft : Frame → Return → List ℕ
return_shaft frame way =
    line_tag (codes "back") (lane_x frame way.from) (stamp_y frame way.left) (lane_x frame way.to) (stamp_y frame way.came)

-- its title: the message
unfoldable pub return_title : ℕ → List ℕ
return_title n =
    element (codes "title") [] (λ rest. codes "withdrawal of message " ++ (decimal n ++ rest)) []

-- the way of a withdrawal, or of its answer
unfoldable pub return_text : Frame → Return → List ℕ
return_text frame way = return_shaft frame way ++ (return_title way.n ++ codes "</line>\n")

-- a word and a number, before what follows
abbrev pub counted : List ℕ → ℕ → List ℕ → List ℕ
counted word number rest = word ++ (decimal number ++ rest)

-- a text at a place
abbrev pub label : List ℕ → ℕ → ℕ → (List ℕ → List ℕ) → List ℕ
label class x y words =
    element (codes "text")
    ((codes "class", class) ∷ (codes "x", decimal x) ∷ (codes "y", decimal y) ∷ []) words (codes "\n")

-- the sign of a command that can't go on, at a place
unfoldable pub wait_sign_at : ℕ → ℕ → ℕ → List ℕ
wait_sign_at x y line =
    element (codes "use")
    ((codes "href", codes "#waits") ∷ (codes "x", decimal x) ∷ (codes "y", decimal y) ∷ [])
    (element (codes "title") [] (counted (codes "waits at line ") line)) (codes "\n")

-- at the end of the rank's line
abbrev pub wait_sign : Frame → ℕ → ℕ → List ℕ
wait_sign frame rank line = wait_sign_at (lane_x frame rank) (foot_y frame) line

-- and the words below the rank's name
unfoldable pub wait_label : Frame → ℕ → ℕ → List ℕ
wait_label frame rank line =
    label (codes "waits") (lane_x frame rank) (foot_y frame + 40 + 14 * (rank % 2))
    (counted (short frame (codes "line ")) line)

-- the sign where a rank waits
unfoldable pub wait_text : Frame → ℕ → Option ℕ → List ℕ
wait_text frame rank None = []
wait_text frame rank (Some line) = wait_sign frame rank line

-- and the line of the command that can't go on
unfoldable pub wait_words : Frame → ℕ → Option ℕ → List ℕ
wait_words frame rank None = []
wait_words frame rank (Some line) = wait_label frame rank line

-- a process line
unfoldable pub process_line : Frame → ℕ → List ℕ
process_line frame rank =
    element (codes "line")
    ((codes "class", codes "lane") ∷ (codes "x1", decimal (lane_x frame rank)) ∷ (codes "y1", codes "70")
    ∷ (codes "x2", decimal (lane_x frame rank)) ∷ (codes "y2", decimal (foot_y frame)) ∷ []) empty (codes "\n")

-- the name of a rank, at a height: its number alone where the lines stand close
unfoldable pub rank_label : Frame → ℕ → ℕ → List ℕ
rank_label frame rank y =
    label (codes "rank") (lane_x frame rank) y
    (counted (short frame (codes "rank ")) rank)

-- the name of a rank before the row 40 * k
abbrev pub name_text : Frame → ℕ → ℕ → List ℕ
name_text frame rank k = rank_label frame rank (row_y frame (40 * k) - 20)

-- how often the names of the ranks stand between rows
abbrev pub name_count : Frame → ℕ
name_count frame = min 1000 ((frame.bottom - top_of frame) / 40)

-- the rank's name at both ends of its line and before each fortieth row
unfoldable pub rank_labels : Frame → ℕ → List ℕ
rank_labels frame rank =
    rank_label frame rank 56 ++ (rank_label frame rank (foot_y frame + 24)
    ++ flat_map (name_text frame rank) (range_with_len 1 (name_count frame)))

-- the shapes of a lane: its process line, and the sign where its rank waits
unfoldable pub lane_text : Frame → Lane → List ℕ
lane_text frame lane = process_line frame lane.rank ++ wait_text frame lane.rank lane.waits

-- the words of a lane: the names of its rank, and where it waits
unfoldable pub lane_words : Frame → Lane → List ℕ
lane_words frame lane = rank_labels frame lane.rank ++ wait_words frame lane.rank lane.waits

-- how many events are left out
unfoldable pub left_out_text : ℕ → List ℕ
left_out_text count =
    element (codes "text")
    ((codes "class", codes "note") ∷ (codes "x", codes "340") ∷ (codes "y", codes "26") ∷ [])
    (counted (codes "later events left out: ") count) (codes "\n")

-- the same, where there are any
unfoldable pub note_text : ℕ → List ℕ
note_text count = if count == 0 then [] else left_out_text count

-- the start tags of the picture, with its size, and of the one group that all of it stands in: a browser
-- looks through the children of the root again for each part that it reads
unfoldable pub size_text : ℕ → ℕ → List ℕ
size_text width height =
    codes "<svg xmlns=\"http://www.w3.org/2000/svg\" width=\"" ++ (decimal width
    ++ (codes "\" height=\"" ++ (decimal height ++ (codes "\" viewBox=\"0 0 " ++ (decimal width
    ++ (codes " " ++ (decimal height ++ codes "\">\n<g>\n")))))))

-- the start tag of a picture with this frame
unfoldable pub head_text : Frame → List ℕ
head_text frame = size_text (width_of frame) (max (foot_y frame + 74) 500)

-- the sign in a row of the legend
unfoldable pub row_sign : ℕ → Sign → List ℕ
row_sign row sign =
    element (codes "use")
    ((codes "href", codes "#" ++ name_of sign) ∷ (codes "x", codes "32")
    ∷ (codes "y", decimal (106 + 20 * row)) ∷ []) empty []

-- the words in a row of the legend
unfoldable pub row_words : ℕ → List ℕ → List ℕ
row_words row words =
    element (codes "text") ((codes "x", codes "56") ∷ (codes "y", decimal (110 + 20 * row)) ∷ [])
    (λ rest. words ++ rest) (codes "\n")

-- a row of the legend: a sign, and what it stands for
unfoldable pub row_text : ℕ → Sign → List ℕ
row_text row sign = row_sign row sign ++ row_words row (words_of sign)

-- the rows of a legend, of which the first has this number
abbrev pub rows_text : ℕ → List Sign → List ℕ
rows_text row [] = []
rows_text row (sign ∷ signs) = row_text row sign ++ rows_text (row + 1) signs

-- a fifth stamp: its number at the left, and a line through the lanes
unfoldable pub tick_text : Frame → ℕ → List ℕ
tick_text frame k =
    codes "<path class=\"grid\" d=\"M 296 " ++ (decimal (stamp_y frame (5 * k)) ++ (codes " H "
    ++ (decimal (width_of frame) ++ (codes "\"></path><text class=\"axis\" x=\"290\" y=\""
    ++ (decimal (stamp_y frame (5 * k) + 3) ++ (codes "\">" ++ (decimal (5 * k) ++ codes "</text>\n")))))))

-- how many fifth stamps stand above the first row
abbrev pub passed_ticks : Frame → ℕ
passed_ticks frame = top_of frame / 5

-- how many stamps are numbered
abbrev pub tick_count : Frame → ℕ
tick_count frame = min 8000 (frame.bottom / 5 - passed_ticks frame)

-- the fifth stamp of this number below the first row
abbrev pub next_tick : Frame → ℕ → List ℕ
next_tick frame k = tick_text frame (passed_ticks frame + k)

-- the axis of stamps
abbrev pub axis_text : Frame → List ℕ
axis_text frame = flat_map (next_tick frame) (range_with_len 1 (tick_count frame))

-- how wide the words of a label are: five units for each byte, or all the room that there is
abbrev pub words_width : Frame → List ℕ → ℕ
words_width frame words = min (5 * length words) (lane_gap frame / 2 + 2)

-- the start tag of a label, at the right of its mark
unfoldable pub tag_text : Frame → Label → List ℕ
tag_text frame label =
    codes "<text class=\"label\" lengthAdjust=\"spacingAndGlyphs\"" ++ attributes
    ((codes "x", decimal (lane_x frame label.lane + 13)) ∷ (codes "y", decimal (stamp_y frame label.stamp + label.drop - 1))
    ∷ (codes "textLength", decimal (words_width frame label.words)) ∷ []) (codes ">")

-- a label is drawn: the lines stand 70 units apart, or its letters have three units each
abbrev pub is_drawn : Frame → List ℕ → Bool
is_drawn frame words =
    nat_le 70 (lane_gap frame)
    || nat_le 30 (lane_gap frame) && nat_le (length words) ((lane_gap frame / 2 + 2) / 3)

-- a label with its words
unfoldable pub drawn_text : Frame → Label → List ℕ
drawn_text frame label = tag_text frame label ++ (escaped label.words ++ codes "</text>\n")

-- a label, where it has room
unfoldable pub label_text : Frame → Label → List ℕ
label_text frame label = if is_drawn frame label.words then drawn_text frame label else []

-- the front of the picture: its size, what stands in each picture, what is left out, the legend and the
-- axis
unfoldable pub front_text : Frame → List RankAccount → List ℕ
front_text frame ranks =
    head_text frame ++ (sheet_text ++ (note_text frame.left_out
    ++ (rows_text 0 (legend_of frame.span ranks) ++ axis_text frame)))

-- its shapes: the lines, the links, and the marks with their rings
unfoldable pub marks_text : Frame → List RankAccount → List ℕ
marks_text frame ranks =
    flat_map (lane_text frame) (all_lanes frame.chosen (take frame.lanes ranks))
    ++ (flat_map (link_text frame) (all_links frame.span ranks)
    ++ (flat_map (mark_text frame) (all_marks frame.span ranks)
    ++ flat_map (ring_text frame) (all_rings frame.span ranks)))

-- and in front of them the arrows, and the ways of withdrawals
unfoldable pub arrows_text : Frame → List RankAccount → List ℕ
arrows_text frame ranks =
    flat_map (arrow_text frame) (all_arrows frame.span ranks)
    ++ flat_map (return_text frame) (all_returns frame.span ranks)

-- and in front of all the words: the labels, and the names of the ranks
unfoldable pub words_text : Frame → List RankAccount → List ℕ
words_text frame ranks =
    flat_map (label_text frame) (all_labels frame.span ranks)
    ++ flat_map (lane_words frame) (all_lanes frame.chosen (take frame.lanes ranks))

-- all shapes
unfoldable pub shapes_text : Frame → List RankAccount → List ℕ
shapes_text frame ranks = marks_text frame ranks ++ (arrows_text frame ranks ++ words_text frame ranks)

-- the whole picture
unfoldable pub picture_text : Frame → List RankAccount → List ℕ
picture_text frame ranks = front_text frame ranks ++ (shapes_text frame ranks ++ codes "</g>\n</svg>\n")

-- the text is the picture of this part of a run
pub record IsPictureIn (part : Part) (run : RunRecord) (text : List ℕ) : Type 0 where
  pub frame : Frame
  pub of_ranks : IsFrame part run.ranks frame
  pub drawn : text ≡ picture_text frame run.ranks

-- the text is the picture of the whole of a run
abbrev pub IsPictureOf : RunRecord → List ℕ → Type 0
IsPictureOf run text = IsPictureIn whole run text
