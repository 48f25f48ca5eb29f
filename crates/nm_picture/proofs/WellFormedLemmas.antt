-- A picture is well formed, piece by piece.
use Rattle.std.proofs.Common.{◌≡◌, ℕ, ◌+◌, ◌-◌, ◌*◌, ◌/◌, ◌%◌, ◌<◌, zero, suc, List, [], ◌∷◌, ◌++◌, Bool, true}
use Rattle.std.proofs.Common.{false, cond}
use Rattle.std.proofs.Common.{not, ◌&&◌, ◌||◌, ◌==◌, refl, sym, ap, ◌∙◌, subst, arith, codes, decimal, flat_map, take}
use Rattle.std.proofs.Common.{max, Option, Some, None}
use Rattle.std.specs.List.{AllByRecursion, range_with_len}
use Rattle.std.specs.Fmt.{digits, digits_onto, digit_glyph}
use Rattle.std.proofs.lemmas.Bool.{lt-ltb}
use Rattle.std.proofs.lemmas.Nat.{mod_below}
use Rattle.nm_types.specs.declared.messages.How.{How}
use Rattle.nm_types.specs.declared.messages.How.TheVariants.{Eager, Ask}
use Rattle.nm_report.specs.Events.{how_word}
use Rattle.nm_report.specs.declared.accounts.RankAccount.{RankAccount}
use Rattle.nm_diagram.specs.declared.arrows.Arrow.{Arrow}
use Rattle.nm_diagram.specs.declared.frames.Frame.{Frame}
use Rattle.nm_diagram.specs.declared.links.Link.{Link}
use Rattle.nm_diagram.specs.Diagrams.{Lane, Mark, all_arrows, all_lanes, all_marks}
use Rattle.nm_diagram.specs.declared.signs.Sign.{Sign}
use Rattle.nm_diagram.specs.declared.signs.Sign.TheVariants as sign
use Rattle.nm_diagram.specs.Labels.{Label, all_labels}
use Rattle.nm_diagram.specs.declared.returns.Return.{Return}
use Rattle.nm_diagram.specs.declared.rings.Ring.{Ring}
use Rattle.nm_diagram.specs.Left.{all_rings}
use Rattle.nm_diagram.specs.Legend.{legend_of}
use Rattle.nm_picture.specs.declared.flags.Flag.{Flag}
use Rattle.nm_picture.specs.declared.flags.Flag.TheVariants.{Event, Behind, Line}
use Rattle.nm_picture.specs.Flags.{behind_note, event_note, flag_ring, flag_text, flagged_text, has_lane, is_place_in}
use Rattle.nm_picture.specs.Flags.{line_note}
use Rattle.nm_picture.specs.Sheet.{sheet_text}
use Rattle.nm_diagram.specs.Returns.{all_returns}
use Rattle.nm_diagram.specs.Signs.{name_of, words_of}
use Rattle.nm_diagram.specs.Links.{all_links}
use Rattle.nm_picture.specs.Markup.{escaped, escaped_byte, is_printable}
use Rattle.nm_picture.specs.Pictures.{arrow_text, arrow_title, aside_of, axis_text, bow_at, bow_text, bow_x, foot_y}
use Rattle.nm_picture.specs.Pictures.{front_text}
use Rattle.nm_picture.specs.Pictures.{drawn_text, has_room, head_text, is_drawn, label_text, lane_text, lane_words, lane_x}
use Rattle.nm_picture.specs.Pictures.{left_out_text, link_text, link_title, mark_text, name_count, name_text, note_text}
use Rattle.nm_picture.specs.Pictures.{picture_text, process_line, rank_label, rank_labels, row_sign, row_text, row_words}
use Rattle.nm_picture.specs.Pictures.{rows_text, wait_words, words_text}
use Rattle.nm_picture.specs.Pictures.{next_tick, passed_ticks, row_y, shaft_text}
use Rattle.nm_picture.specs.Pictures.{shapes_text, short, sign_text, size_text, stamp_y, tag_text, tick_count, tick_text}
use Rattle.nm_picture.specs.Pictures.{arrows_text, marks_text, return_shaft, return_text, return_title, ring_tag}
use Rattle.nm_picture.specs.Pictures.{ring_text, ring_title}
use Rattle.nm_picture.specs.Pictures.{title_text, use_tag, line_tag, wait_label, wait_sign, wait_sign_at, wait_text, width_of}
use Rattle.nm_picture.specs.Pictures.{words_width}
use Rattle.nm_picture.specs.WellFormed.{IsWellFormed, ReaderState, is_text, read, step}
use Rattle.nm_picture.specs.WellFormed.ReaderState.{Before, Between, Broken, Quoted, Opened, Reference, Value}

pub read-append : (p : ReaderState) (xs ys : List ℕ) → read p (xs ++ ys) ≡ read (read p xs) ys
read-append p [] ys = refl
read-append p (x ∷ xs) ys = read-append (step p x) xs ys

-- what is read first ends where the rest begins
pub behind : (p q : ReaderState) (xs ys : List ℕ) → read p xs ≡ q → read p (xs ++ ys) ≡ read q ys
behind p q xs ys h = read-append p xs ys ∙ ap (λ r. read r ys) h

-- a byte that a value goes on with, and one that a text does
abbrev in_value : ℕ → Bool
in_value b = not (b == 34) && not (b == 60 || b == 38) && is_text b

abbrev in_text : ℕ → Bool
in_text b = not (b == 60) && not (b == 38) && is_text b

value_tests : (tags : List (List ℕ)) (quote tag text : Bool) → (not quote && not tag && text) ≡ true →
    cond quote (Quoted tags) (cond tag Broken (cond text (Value tags) Broken)) ≡ Value tags
value_tests tags false false true h = refl
value_tests tags false false false h = absurd cc
value_tests tags false true text h = absurd cc
value_tests tags true tag text h = absurd cc

value-skip : (tags : List (List ℕ)) (xs ys : List ℕ) → AllByRecursion (λ b. in_value b ≡ true) xs →
    read (Value tags) (xs ++ ys) ≡ read (Value tags) ys
value-skip tags [] ys h = refl
value-skip tags (x ∷ xs) ys h =
    ap (λ p. read p (xs ++ ys)) (value_tests tags (x == 34) (x == 60 || x == 38) (is_text x) h.0)
    ∙ value-skip tags xs ys h.1

text_tests : (name : List ℕ) (tags : List (List ℕ)) (tag amp text : Bool) → (not tag && not amp && text) ≡ true →
    cond tag (Opened (name ∷ tags)) (cond amp (Reference (name ∷ tags)) (cond text (Between (name ∷ tags)) Broken))
    ≡ Between (name ∷ tags)
text_tests name tags false false true h = refl
text_tests name tags false false false h = absurd cc
text_tests name tags false true text h = absurd cc
text_tests name tags true amp text h = absurd cc

text-skip : (name : List ℕ) (tags : List (List ℕ)) (xs ys : List ℕ) → AllByRecursion (λ b. in_text b ≡ true) xs →
    read (Between (name ∷ tags)) (xs ++ ys) ≡ read (Between (name ∷ tags)) ys
text-skip name tags [] ys h = refl
text-skip name tags (x ∷ xs) ys h =
    ap (λ p. read p (xs ++ ys)) (text_tests name tags (x == 60) (x == 38) (is_text x) h.0)
    ∙ text-skip name tags xs ys h.1

-- a number is of digits
digit : (Q : ℕ → Type 0) → ((d : ℕ) → d < 10 → Q (48 + d)) → (d : ℕ) → d < 10 → Q (digit_glyph false d)
digit Q each d h = subst Q (sym (ap (λ b. cond b (48 + d) (87 + d)) (lt-ltb d 10 h))) (each d h)

digits-onto : (Q : ℕ → Type 0) → ((d : ℕ) → d < 10 → Q (48 + d)) → (k n : ℕ) (acc : List ℕ) → AllByRecursion Q acc →
    AllByRecursion Q (digits_onto k 10 false n acc)
digits-onto Q each zero n acc h = h
digits-onto Q each (suc k) n acc h =
    chosen (n / 10 == 0) (digits-onto Q each k (n / 10) (digit_glyph false (n % 10) ∷ acc) (last, h)) where
      last : Q (digit_glyph false (n % 10))
      last = digit Q each (n % 10) (mod_below n 10 (omega arith))

      more : List ℕ
      more = digits_onto k 10 false (n / 10) (digit_glyph false (n % 10) ∷ acc)

      chosen : (b : Bool) → AllByRecursion Q more → AllByRecursion Q (cond b (digit_glyph false (n % 10) ∷ acc) more)
      chosen true rest = (last, h)
      chosen false rest = rest

decimal-all : (Q : ℕ → Type 0) → ((d : ℕ) → d < 10 → Q (48 + d)) → (n : ℕ) → AllByRecursion Q (decimal n)
unfolding digits
decimal-all Q each n = digits-onto Q each 64 n [] tt

digit_in_value : (d : ℕ) → d < 10 → in_value (48 + d) ≡ true
digit_in_value d h = grind arith

digit_in_text : (d : ℕ) → d < 10 → in_text (48 + d) ≡ true
digit_in_text d h = grind arith

value-number : (tags : List (List ℕ)) (n : ℕ) (ys : List ℕ) → read (Value tags) (decimal n ++ ys) ≡ read (Value tags) ys
value-number tags n ys = value-skip tags (decimal n) ys (decimal-all (λ b. in_value b ≡ true) digit_in_value n)

text-number : (name : List ℕ) (tags : List (List ℕ)) (n : ℕ) (ys : List ℕ) →
    read (Between (name ∷ tags)) (decimal n ++ ys) ≡ read (Between (name ∷ tags)) ys
text-number name tags n ys = text-skip name tags (decimal n) ys (decimal-all (λ b. in_text b ≡ true) digit_in_text n)

-- the words of values and texts
value-sign : (tags : List (List ℕ)) (sign : Sign) (ys : List ℕ) →
    read (Value tags) (name_of sign ++ ys) ≡ read (Value tags) ys
value-sign tags sign.Send ys = refl
value-sign tags sign.Ask ys = refl
value-sign tags sign.Post ys = refl
value-sign tags sign.Arrive ys = refl
value-sign tags sign.Whole ys = refl
value-sign tags sign.Out ys = refl
value-sign tags sign.Cancel ys = refl
value-sign tags sign.Recall ys = refl
value-sign tags sign.Withdraw ys = refl
value-sign tags sign.Undone ys = refl
value-sign tags sign.Claim ys = refl
value-sign tags sign.Match ys = refl
value-sign tags sign.Ran ys = refl
value-sign tags sign.Waits ys = refl
value-sign tags sign.EagerWay ys = refl
value-sign tags sign.AskWay ys = refl
value-sign tags sign.BackWay ys = refl
value-sign tags sign.Taken ys = refl
value-sign tags sign.Left ys = refl

text-sign : (name : List ℕ) (tags : List (List ℕ)) (sign : Sign) (ys : List ℕ) →
    read (Between (name ∷ tags)) (words_of sign ++ ys) ≡ read (Between (name ∷ tags)) ys
text-sign name tags sign.Send ys = refl
text-sign name tags sign.Ask ys = refl
text-sign name tags sign.Post ys = refl
text-sign name tags sign.Arrive ys = refl
text-sign name tags sign.Whole ys = refl
text-sign name tags sign.Out ys = refl
text-sign name tags sign.Cancel ys = refl
text-sign name tags sign.Recall ys = refl
text-sign name tags sign.Withdraw ys = refl
text-sign name tags sign.Undone ys = refl
text-sign name tags sign.Claim ys = refl
text-sign name tags sign.Match ys = refl
text-sign name tags sign.Ran ys = refl
text-sign name tags sign.Waits ys = refl
text-sign name tags sign.EagerWay ys = refl
text-sign name tags sign.AskWay ys = refl
text-sign name tags sign.BackWay ys = refl
text-sign name tags sign.Taken ys = refl
text-sign name tags sign.Left ys = refl

value-how : (tags : List (List ℕ)) (how : How) (ys : List ℕ) →
    read (Value tags) (how_word how ++ ys) ≡ read (Value tags) ys
value-how tags Eager ys = refl
value-how tags Ask ys = refl

text-how : (name : List ℕ) (tags : List (List ℕ)) (how : How) (ys : List ℕ) →
    read (Between (name ∷ tags)) (how_word how ++ ys) ≡ read (Between (name ∷ tags)) ys
text-how name tags Eager ys = refl
text-how name tags Ask ys = refl

-- escaped text is read to its end
printed_in_text : (b : ℕ) → (b == 60) ≡ false → (b == 38) ≡ false → is_printable b ≡ true → (b == 62) ≡ false →
    in_text b ≡ true
printed_in_text b less amp printed greater =
    ap (λ x. not x && not (b == 38) && is_text b) less ∙ ap (λ x. not false && not x && is_text b) amp
    ∙ ap (λ x. not false && not false && (x && not (b == 62) || b == 10)) printed
    ∙ ap (λ x. not false && not false && (true && not x || b == 10)) greater

escaped_tests : (name : List ℕ) (tags : List (List ℕ)) (b : ℕ) (less greater amp printed : Bool) →
    (b == 60) ≡ less → (b == 62) ≡ greater → (b == 38) ≡ amp → is_printable b ≡ printed →
    read (Between (name ∷ tags))
    (cond less (codes "&lt;")
    (cond greater (codes "&gt;") (cond amp (codes "&amp;") (cond printed (b ∷ []) (codes "?")))))
    ≡ Between (name ∷ tags)
escaped_tests name tags b true greater amp printed l g a p = refl
escaped_tests name tags b false true amp printed l g a p = refl
escaped_tests name tags b false false true printed l g a p = refl
escaped_tests name tags b false false false false l g a p = refl
escaped_tests name tags b false false false true l g a p =
    text-skip name tags (b ∷ []) [] (printed_in_text b l a p g, tt)

text-escaped : (name : List ℕ) (tags : List (List ℕ)) (xs : List ℕ) →
    read (Between (name ∷ tags)) (escaped xs) ≡ Between (name ∷ tags)
text-escaped name tags [] = refl
text-escaped name tags (b ∷ xs) =
    behind (Between (name ∷ tags)) (Between (name ∷ tags)) (escaped_byte b) (escaped xs)
    (escaped_tests name tags b (b == 60) (b == 62) (b == 38) (is_printable b) refl refl refl refl)
    ∙ text-escaped name tags xs

-- inside the picture, and in its shapes
abbrev root : List (List ℕ)
root = codes "svg" ∷ []

abbrev svg : List (List ℕ)
svg = codes "g" ∷ root

abbrev in_use : List (List ℕ)
in_use = codes "use" ∷ svg

abbrev in_line : List (List ℕ)
in_line = codes "line" ∷ svg

abbrev in_path : List (List ℕ)
in_path = codes "path" ∷ svg

abbrev in_text_tag : List (List ℕ)
in_text_tag = codes "text" ∷ svg

-- a text that leaves the reader in the picture
abbrev Keeps : List ℕ → Type 0
Keeps text = read (Between svg) text ≡ Between svg

keeps-append : (xs ys : List ℕ) → Keeps xs → Keeps ys → Keeps (xs ++ ys)
keeps-append xs ys h k = behind (Between svg) (Between svg) xs ys h ∙ k

keeps-map : {X : Type 0} (f : X → List ℕ) → ((x : X) → Keeps (f x)) → (xs : List X) → Keeps (flat_map f xs)
keeps-map f each [] = refl
keeps-map f each (x ∷ xs) = keeps-append (f x) (flat_map f xs) (each x) (keeps-map f each xs)

-- marks
sign-read : (frame : Frame) (mark : Mark) → read (Between svg) (sign_text frame mark) ≡ Between in_use
unfolding use_tag
sign-read frame mark =
    let last : List ℕ = codes "\" y=\"" ++ (decimal (stamp_y frame mark.stamp) ++ codes "\">") in
    value-sign in_use mark.sign (codes "\" x=\"" ++ (decimal (lane_x frame mark.lane) ++ last))
    ∙ value-number in_use (lane_x frame mark.lane) last
    ∙ value-number in_use (stamp_y frame mark.stamp) (codes "\">")

title-read : (name : List ℕ) (tags : List (List ℕ)) (words : List ℕ) →
    read (Between (name ∷ tags)) (title_text words) ≡ Between (name ∷ tags)
unfolding title_text
title-read name tags words =
    behind (Between (codes "title" ∷ name ∷ tags)) (Between (codes "title" ∷ name ∷ tags)) (escaped words)
    (codes "</title>") (text-escaped (codes "title") (name ∷ tags) words)

mark-read : (frame : Frame) (mark : Mark) → Keeps (mark_text frame mark)
unfolding mark_text
mark-read frame mark =
    behind (Between svg) (Between in_use) (sign_text frame mark)
    (title_text mark.title ++ codes "</use>\n") (sign-read frame mark)
    ∙ behind (Between in_use) (Between in_use) (title_text mark.title) (codes "</use>\n")
    (title-read (codes "use") svg mark.title)

-- rings
ring_tag-read : (frame : Frame) (ring : Ring) → read (Between svg) (ring_tag frame ring) ≡ Between in_use
unfolding use_tag
ring_tag-read frame ring =
    let last : List ℕ = codes "\" y=\"" ++ (decimal (stamp_y frame ring.stamp) ++ codes "\">") in
    value-number in_use (lane_x frame ring.lane) last
    ∙ value-number in_use (stamp_y frame ring.stamp) (codes "\">")

ring_title-read : (n from : ℕ) → read (Between in_use) (ring_title n from) ≡ Between in_use
unfolding ring_title
ring_title-read n from =
    text-number (codes "title") in_use n (codes " from " ++ (decimal from ++ codes "</title>"))
    ∙ text-number (codes "title") in_use from (codes "</title>")

ring-read : (frame : Frame) (ring : Ring) → Keeps (ring_text frame ring)
unfolding ring_text
ring-read frame ring =
    behind (Between svg) (Between in_use) (ring_tag frame ring) (ring_title ring.n ring.from ++ codes "</use>\n")
    (ring_tag-read frame ring)
    ∙ behind (Between in_use) (Between in_use) (ring_title ring.n ring.from) (codes "</use>\n")
    (ring_title-read ring.n ring.from)

-- the ways of withdrawals
return_shaft-read : (frame : Frame) (way : Return) → read (Between svg) (return_shaft frame way) ≡ Between in_line
unfolding line_tag
return_shaft-read frame way =
    let fourth : List ℕ = codes "\" y2=\"" ++ (decimal (stamp_y frame way.came) ++ codes "\">") in
    let third : List ℕ = codes "\" x2=\"" ++ (decimal (lane_x frame way.to) ++ fourth) in
    let second : List ℕ = codes "\" y1=\"" ++ (decimal (stamp_y frame way.left) ++ third) in
    value-number in_line (lane_x frame way.from) second
    ∙ value-number in_line (stamp_y frame way.left) third
    ∙ value-number in_line (lane_x frame way.to) fourth
    ∙ value-number in_line (stamp_y frame way.came) (codes "\">")

return_title-read : (n : ℕ) → read (Between in_line) (return_title n) ≡ Between in_line
unfolding return_title
return_title-read n = text-number (codes "title") in_line n (codes "</title>")

return-read : (frame : Frame) (way : Return) → Keeps (return_text frame way)
unfolding return_text
return-read frame way =
    behind (Between svg) (Between in_line) (return_shaft frame way) (return_title way.n ++ codes "</line>\n")
    (return_shaft-read frame way)
    ∙ behind (Between in_line) (Between in_line) (return_title way.n) (codes "</line>\n") (return_title-read way.n)

-- arrows
shaft-read : (frame : Frame) (a : Arrow) → read (Between svg) (shaft_text frame a) ≡ Between in_line
unfolding line_tag
shaft-read frame a =
    let x1 = lane_x frame a.from + aside_of a in
    let x2 = lane_x frame a.to + aside_of a in
    let fourth : List ℕ = codes "\" y2=\"" ++ (decimal (stamp_y frame a.arrived) ++ codes "\">") in
    let third : List ℕ = codes "\" x2=\"" ++ (decimal x2 ++ fourth) in
    let second : List ℕ = codes "\" y1=\"" ++ (decimal (stamp_y frame a.sent) ++ third) in
    value-how in_line a.how (codes "\" x1=\"" ++ (decimal x1 ++ second))
    ∙ value-number in_line x1 second
    ∙ value-number in_line (stamp_y frame a.sent) third
    ∙ value-number in_line x2 fourth
    ∙ value-number in_line (stamp_y frame a.arrived) (codes "\">")

arrow_title-read : (a : Arrow) → read (Between in_line) (arrow_title a) ≡ Between in_line
unfolding arrow_title
arrow_title-read a =
    let title = codes "title" in
    let third : List ℕ = codes " " ++ (how_word a.how ++ codes "</title>") in
    let second : List ℕ = codes " to " ++ (decimal a.to ++ third) in
    let first : List ℕ = codes " from " ++ (decimal a.from ++ second) in
    text-number title in_line a.n first
    ∙ text-number title in_line a.from second
    ∙ text-number title in_line a.to third
    ∙ text-how title in_line a.how (codes "</title>")

arrow-read : (frame : Frame) (a : Arrow) → Keeps (arrow_text frame a)
unfolding arrow_text
arrow-read frame a =
    behind (Between svg) (Between in_line) (shaft_text frame a) (arrow_title a ++ codes "</line>\n")
    (shaft-read frame a)
    ∙ behind (Between in_line) (Between in_line) (arrow_title a) (codes "</line>\n") (arrow_title-read a)

-- links
bow-read : (frame : Frame) (k : Link) → read (Between svg) (bow_text frame k) ≡ Between in_path
unfolding bow_at
bow-read frame k =
    let x = lane_x frame k.lane in
    let y1 = stamp_y frame k.received in
    let y2 = stamp_y frame k.arrived in
    let seventh : List ℕ = codes " " ++ (decimal y2 ++ codes "\">") in
    let sixth : List ℕ = codes " " ++ (decimal x ++ seventh) in
    let fifth : List ℕ = codes " " ++ (decimal y2 ++ sixth) in
    let fourth : List ℕ = codes " " ++ (decimal (bow_x frame k) ++ fifth) in
    let third : List ℕ = codes " " ++ (decimal y1 ++ fourth) in
    let second : List ℕ = codes " C " ++ (decimal (bow_x frame k) ++ third) in
    let first : List ℕ = codes " " ++ (decimal y1 ++ second) in
    value-number in_path x first
    ∙ value-number in_path y1 second
    ∙ value-number in_path (bow_x frame k) third
    ∙ value-number in_path y1 fourth
    ∙ value-number in_path (bow_x frame k) fifth
    ∙ value-number in_path y2 sixth
    ∙ value-number in_path x seventh
    ∙ value-number in_path y2 (codes "\">")

link_title-read : (k : Link) → read (Between in_path) (link_title k) ≡ Between in_path
unfolding link_title
link_title-read k =
    let title = codes "title" in
    let second : List ℕ = codes " from " ++ (decimal k.from ++ codes "</title>") in
    let first : List ℕ = codes " takes message " ++ (decimal k.n ++ second) in
    text-number title in_path k.number first
    ∙ text-number title in_path k.n second
    ∙ text-number title in_path k.from (codes "</title>")

link-read : (frame : Frame) (k : Link) → Keeps (link_text frame k)
unfolding link_text
link-read frame k =
    behind (Between svg) (Between in_path) (bow_text frame k) (link_title k ++ codes "</path>\n") (bow-read frame k)
    ∙ behind (Between in_path) (Between in_path) (link_title k) (codes "</path>\n") (link_title-read k)

-- lanes
process-read : (frame : Frame) (rank : ℕ) → Keeps (process_line frame rank)
unfolding process_line
process-read frame rank =
    let x = lane_x frame rank in
    let last : List ℕ = codes "\" y2=\"" ++ (decimal (foot_y frame) ++ codes "\"></line>\n") in
    value-number in_line x (codes "\" y1=\"70\" x2=\"" ++ (decimal x ++ last))
    ∙ value-number in_line x last
    ∙ value-number in_line (foot_y frame) (codes "\"></line>\n")

-- a word in a text, where there is room for it
text-short : (frame : Frame) (word ys : List ℕ) → AllByRecursion (λ b. in_text b ≡ true) word →
    read (Between in_text_tag) (short frame word ++ ys) ≡ read (Between in_text_tag) ys
text-short frame word ys plain = either_way (has_room frame) where
  either_way : (b : Bool) → read (Between in_text_tag) (cond b word [] ++ ys) ≡ read (Between in_text_tag) ys
  either_way true = text-skip (codes "text") svg word ys plain
  either_way false = refl

rank_label-read : (frame : Frame) (rank y : ℕ) → Keeps (rank_label frame rank y)
unfolding rank_label
rank_label-read frame rank y =
    let number : List ℕ = decimal rank ++ codes "</text>\n" in
    let words : List ℕ = codes "\">" ++ (short frame (codes "rank ") ++ number) in
    value-number in_text_tag (lane_x frame rank) (codes "\" y=\"" ++ (decimal y ++ words))
    ∙ value-number in_text_tag y words
    ∙ text-short frame (codes "rank ") number (refl, (refl, (refl, (refl, (refl, tt)))))
    ∙ text-number (codes "text") svg rank (codes "</text>\n")

wait_sign-read : (frame : Frame) (rank line : ℕ) → Keeps (wait_sign frame rank line)
unfolding wait_sign_at
wait_sign-read frame rank line =
    let words : List ℕ = codes "\"><title>waits at line " ++ (decimal line ++ codes "</title></use>\n") in
    value-number in_use (lane_x frame rank) (codes "\" y=\"" ++ (decimal (foot_y frame) ++ words))
    ∙ value-number in_use (foot_y frame) words
    ∙ text-number (codes "title") in_use line (codes "</title></use>\n")

wait_label-read : (frame : Frame) (rank line : ℕ) → Keeps (wait_label frame rank line)
unfolding wait_label
wait_label-read frame rank line =
    let y = foot_y frame + 40 + 14 * (rank % 2) in
    let number : List ℕ = decimal line ++ codes "</text>\n" in
    let words : List ℕ = codes "\">" ++ (short frame (codes "line ") ++ number) in
    value-number in_text_tag (lane_x frame rank) (codes "\" y=\"" ++ (decimal y ++ words))
    ∙ value-number in_text_tag y words
    ∙ text-short frame (codes "line ") number (refl, (refl, (refl, (refl, (refl, tt)))))
    ∙ text-number (codes "text") svg line (codes "</text>\n")

wait-read : (frame : Frame) (rank : ℕ) (waits : Option ℕ) → Keeps (wait_text frame rank waits)
unfolding wait_text
wait-read frame rank None = refl
wait-read frame rank (Some line) = wait_sign-read frame rank line

wait_words-read : (frame : Frame) (rank : ℕ) (waits : Option ℕ) → Keeps (wait_words frame rank waits)
unfolding wait_words
wait_words-read frame rank None = refl
wait_words-read frame rank (Some line) = wait_label-read frame rank line

names-read : (frame : Frame) (rank : ℕ) (ks : List ℕ) → Keeps (flat_map (name_text frame rank) ks)
names-read frame rank ks =
    keeps-map (name_text frame rank) (λ k. rank_label-read frame rank (row_y frame (40 * k) - 20)) ks

rank_labels-read : (frame : Frame) (rank : ℕ) → Keeps (rank_labels frame rank)
unfolding rank_labels
rank_labels-read frame rank =
    let foot = foot_y frame + 24 in
    let names : List ℕ = flat_map (name_text frame rank) (range_with_len 1 (name_count frame)) in
    keeps-append (rank_label frame rank 56) (rank_label frame rank foot ++ names) (rank_label-read frame rank 56)
    (keeps-append (rank_label frame rank foot) names (rank_label-read frame rank foot)
    (names-read frame rank (range_with_len 1 (name_count frame))))

lane-read : (frame : Frame) (lane : Lane) → Keeps (lane_text frame lane)
unfolding lane_text
lane-read frame lane =
    keeps-append (process_line frame lane.rank) (wait_text frame lane.rank lane.waits)
    (process-read frame lane.rank) (wait-read frame lane.rank lane.waits)

lane_words-read : (frame : Frame) (lane : Lane) → Keeps (lane_words frame lane)
unfolding lane_words
lane_words-read frame lane =
    keeps-append (rank_labels frame lane.rank) (wait_words frame lane.rank lane.waits)
    (rank_labels-read frame lane.rank) (wait_words-read frame lane.rank lane.waits)

-- what stands before the shapes
size-read : (width height : ℕ) → read Before (size_text width height) ≡ Between svg
unfolding size_text
size-read width height =
    let third : List ℕ = codes " " ++ (decimal height ++ codes "\">\n<g>\n") in
    let second : List ℕ = codes "\" viewBox=\"0 0 " ++ (decimal width ++ third) in
    let first : List ℕ = codes "\" height=\"" ++ (decimal height ++ second) in
    value-number root width first
    ∙ value-number root height second
    ∙ value-number root width third
    ∙ value-number root height (codes "\">\n<g>\n")

left_out-read : (count : ℕ) → Keeps (left_out_text count)
unfolding left_out_text
left_out-read count = text-number (codes "text") svg count (codes "</text>\n")

note-read : (count : ℕ) → Keeps (note_text count)
unfolding note_text
note-read count = either_way (count == 0) where
  either_way : (b : Bool) → Keeps (cond b [] (left_out_text count))
  either_way true = refl
  either_way false = left_out-read count

sheet-read : Keeps sheet_text
unfolding sheet_text
sheet-read = refl

-- the legend
row_sign-read : (row : ℕ) (sign : Sign) → Keeps (row_sign row sign)
unfolding row_sign
row_sign-read row sign =
    value-sign in_use sign (codes "\" x=\"32\" y=\"" ++ (decimal (106 + 20 * row) ++ codes "\"></use>"))
    ∙ value-number in_use (106 + 20 * row) (codes "\"></use>")

row_words-read : (row : ℕ) (sign : Sign) → Keeps (row_words row (words_of sign))
unfolding row_words
row_words-read row sign =
    value-number in_text_tag (110 + 20 * row) (codes "\">" ++ (words_of sign ++ codes "</text>\n"))
    ∙ text-sign (codes "text") svg sign (codes "</text>\n")

row-read : (row : ℕ) (sign : Sign) → Keeps (row_text row sign)
unfolding row_text
row-read row sign =
    keeps-append (row_sign row sign) (row_words row (words_of sign)) (row_sign-read row sign) (row_words-read row sign)

rows-read : (row : ℕ) (signs : List Sign) → Keeps (rows_text row signs)
rows-read row [] = refl
rows-read row (sign ∷ signs) =
    keeps-append (row_text row sign) (rows_text (row + 1) signs) (row-read row sign) (rows-read (row + 1) signs)

-- the axis
tick-read : (frame : Frame) (k : ℕ) → Keeps (tick_text frame k)
unfolding tick_text
tick-read frame k =
    let number : List ℕ = decimal (5 * k) ++ codes "</text>\n" in
    let third : List ℕ = decimal (stamp_y frame (5 * k) + 3) ++ (codes "\">" ++ number) in
    let second : List ℕ = codes "\"></path><text class=\"axis\" x=\"290\" y=\"" ++ third in
    value-number in_path (stamp_y frame (5 * k)) (codes " H " ++ (decimal (width_of frame) ++ second))
    ∙ value-number in_path (width_of frame) second
    ∙ value-number in_text_tag (stamp_y frame (5 * k) + 3) (codes "\">" ++ number)
    ∙ text-number (codes "text") svg (5 * k) (codes "</text>\n")

axis-read : (frame : Frame) → Keeps (axis_text frame)
axis-read frame =
    keeps-map (next_tick frame) (λ k. tick-read frame (passed_ticks frame + k)) (range_with_len 1 (tick_count frame))

-- labels
tag-read : (frame : Frame) (l : Label) → read (Between svg) (tag_text frame l) ≡ Between in_text_tag
unfolding tag_text
tag-read frame l =
    let third : List ℕ = codes "\" textLength=\"" ++ (decimal (words_width frame l.words) ++ codes "\">") in
    let second : List ℕ = codes "\" y=\"" ++ (decimal (stamp_y frame l.stamp + l.drop - 1) ++ third) in
    value-number in_text_tag (lane_x frame l.lane + 13) second
    ∙ value-number in_text_tag (stamp_y frame l.stamp + l.drop - 1) third
    ∙ value-number in_text_tag (words_width frame l.words) (codes "\">")

drawn-read : (frame : Frame) (l : Label) → Keeps (drawn_text frame l)
unfolding drawn_text
drawn-read frame l =
    behind (Between svg) (Between in_text_tag) (tag_text frame l) (escaped l.words ++ codes "</text>\n")
    (tag-read frame l)
    ∙ behind (Between in_text_tag) (Between in_text_tag) (escaped l.words) (codes "</text>\n")
    (text-escaped (codes "text") svg l.words)

label-read : (frame : Frame) (l : Label) → Keeps (label_text frame l)
unfolding label_text
label-read frame l = either_way (is_drawn frame l.words) where
  either_way : (b : Bool) → Keeps (cond b (drawn_text frame l) [])
  either_way true = drawn-read frame l
  either_way false = refl

front-read : (frame : Frame) (ranks : List RankAccount) → read Before (front_text frame ranks) ≡ Between svg
unfolding front_text head_text
front-read frame ranks =
    let height = max (foot_y frame + 74) 500 in
    let rows : List ℕ = rows_text 0 (legend_of frame.span ranks) in
    let notes : List ℕ = note_text frame.left_out ++ (rows ++ axis_text frame) in
    behind Before (Between svg) (size_text (width_of frame) height) (sheet_text ++ notes)
    (size-read (width_of frame) height)
    ∙ keeps-append sheet_text notes sheet-read
    (keeps-append (note_text frame.left_out) (rows ++ axis_text frame) (note-read frame.left_out)
    (keeps-append rows (axis_text frame) (rows-read 0 (legend_of frame.span ranks)) (axis-read frame)))

marks_text-read : (frame : Frame) (ranks : List RankAccount) → Keeps (marks_text frame ranks)
unfolding marks_text
marks_text-read frame ranks =
    let lanes : List ℕ = flat_map (lane_text frame) (all_lanes frame.chosen (take frame.lanes ranks)) in
    let links : List ℕ = flat_map (link_text frame) (all_links frame.span ranks) in
    let marks : List ℕ = flat_map (mark_text frame) (all_marks frame.span ranks) in
    let rings : List ℕ = flat_map (ring_text frame) (all_rings frame.span ranks) in
    keeps-append lanes (links ++ (marks ++ rings))
    (keeps-map (lane_text frame) (lane-read frame) (all_lanes frame.chosen (take frame.lanes ranks)))
    (keeps-append links (marks ++ rings) (keeps-map (link_text frame) (link-read frame) (all_links frame.span ranks))
    (keeps-append marks rings (keeps-map (mark_text frame) (mark-read frame) (all_marks frame.span ranks))
    (keeps-map (ring_text frame) (ring-read frame) (all_rings frame.span ranks))))

arrows_text-read : (frame : Frame) (ranks : List RankAccount) → Keeps (arrows_text frame ranks)
unfolding arrows_text
arrows_text-read frame ranks =
    let arrows : List ℕ = flat_map (arrow_text frame) (all_arrows frame.span ranks) in
    let ways : List ℕ = flat_map (return_text frame) (all_returns frame.span ranks) in
    keeps-append arrows ways (keeps-map (arrow_text frame) (arrow-read frame) (all_arrows frame.span ranks))
    (keeps-map (return_text frame) (return-read frame) (all_returns frame.span ranks))

words_text-read : (frame : Frame) (ranks : List RankAccount) → Keeps (words_text frame ranks)
unfolding words_text
words_text-read frame ranks =
    let labels : List ℕ = flat_map (label_text frame) (all_labels frame.span ranks) in
    let lanes = all_lanes frame.chosen (take frame.lanes ranks) in
    keeps-append labels (flat_map (lane_words frame) lanes)
    (keeps-map (label_text frame) (label-read frame) (all_labels frame.span ranks))
    (keeps-map (lane_words frame) (lane_words-read frame) lanes)

shapes-read : (frame : Frame) (ranks : List RankAccount) → Keeps (shapes_text frame ranks)
unfolding shapes_text
shapes-read frame ranks =
    keeps-append (marks_text frame ranks) (arrows_text frame ranks ++ words_text frame ranks)
    (marks_text-read frame ranks)
    (keeps-append (arrows_text frame ranks) (words_text frame ranks) (arrows_text-read frame ranks)
    (words_text-read frame ranks))

pub picture-well_formed : (frame : Frame) (ranks : List RankAccount) → IsWellFormed (picture_text frame ranks)
unfolding picture_text
picture-well_formed frame ranks =
    behind Before (Between svg) (front_text frame ranks) (shapes_text frame ranks ++ codes "</g>\n</svg>\n")
    (front-read frame ranks)
    ∙ behind (Between svg) (Between svg) (shapes_text frame ranks) (codes "</g>\n</svg>\n") (shapes-read frame ranks)

-- flags
abbrev in_circle : List (List ℕ)
in_circle = codes "circle" ∷ svg

flag_ring-read : (x y : ℕ) → Keeps (flag_ring x y)
unfolding flag_ring
flag_ring-read x y =
    value-number in_circle x (codes "\" cy=\"" ++ (decimal y ++ codes "\"></circle>\n"))
    ∙ value-number in_circle y (codes "\"></circle>\n")

event_note-read : (line : ℕ) → Keeps (event_note line)
unfolding event_note
event_note-read line = text-number (codes "text") svg line (codes " breaks a rule (red ring)</text>\n")

behind_note-read : (rank : ℕ) → Keeps (behind_note rank)
unfolding behind_note
behind_note-read rank = text-number (codes "text") svg rank (codes " breaks a rule at its end (red ring)</text>\n")

line_note-read : (line : ℕ) → Keeps (line_note line)
unfolding line_note
line_note-read line = text-number (codes "text") svg line (codes " breaks a rule</text>\n")

keeps-if : (b : Bool) (text : List ℕ) → Keeps text → Keeps (cond b text [])
keeps-if true text h = h
keeps-if false text h = refl

flag-read : (frame : Frame) (flag : Option Flag) → Keeps (flag_text frame flag)
flag-read frame None = refl
flag-read frame (Some (Event rank stamp line)) =
    let ring = flag_ring (lane_x frame rank) (stamp_y frame stamp) in
    keeps-append (event_note line) (cond (is_place_in frame rank stamp) ring []) (event_note-read line)
    (keeps-if (is_place_in frame rank stamp) ring (flag_ring-read (lane_x frame rank) (stamp_y frame stamp)))
flag-read frame (Some (Behind rank)) =
    let ring = flag_ring (lane_x frame rank) (foot_y frame) in
    keeps-append (behind_note rank) (cond (has_lane frame rank) ring []) (behind_note-read rank)
    (keeps-if (has_lane frame rank) ring (flag_ring-read (lane_x frame rank) (foot_y frame)))
flag-read frame (Some (Line line)) = line_note-read line

pub flagged-well_formed : (frame : Frame) (ranks : List RankAccount) (flag : Option Flag) →
    IsWellFormed (flagged_text frame ranks flag)
unfolding flagged_text
flagged-well_formed frame ranks flag =
    let last : List ℕ = codes "</g>\n</svg>\n" in
    behind Before (Between svg) (front_text frame ranks) (shapes_text frame ranks ++ (flag_text frame flag ++ last))
    (front-read frame ranks)
    ∙ behind (Between svg) (Between svg) (shapes_text frame ranks) (flag_text frame flag ++ last)
    (shapes-read frame ranks)
    ∙ behind (Between svg) (Between svg) (flag_text frame flag) last (flag-read frame flag)
