-- Ranks that are alike have one picture.
use Rattle.std.proofs.Common.{◌≡◌, ℕ, ◌≤◌, List, ◌++◌, ap, sym, ◌∙◌, arith, codes, flat_map, length, take}
use Rattle.nm_report.specs.declared.accounts.RankAccount.{RankAccount}
use Rattle.nm_report.specs.declared.records.RunRecord.{RunRecord}
use Rattle.nm_diagram.specs.declared.arrows.Arrow.{Arrow}
use Rattle.nm_diagram.specs.declared.frames.Frame.{Frame}
use Rattle.nm_diagram.specs.declared.frames.Part.{Part}
use Rattle.nm_diagram.specs.declared.links.Link.{Link}
use Rattle.nm_diagram.specs.declared.returns.Return.{Return}
use Rattle.nm_diagram.specs.declared.rings.Ring.{Ring}
use Rattle.nm_diagram.specs.Alike.{AreAlike}
use Rattle.nm_diagram.specs.Diagrams.{Lane, Mark, all_arrows, all_lanes, all_marks}
use Rattle.nm_diagram.specs.Labels.{all_labels}
use Rattle.nm_diagram.specs.Frames.{whole}
use Rattle.nm_diagram.specs.Left.{all_rings}
use Rattle.nm_diagram.specs.Links.{all_links}
use Rattle.nm_diagram.specs.Returns.{all_returns}
use Rattle.nm_diagram.proofs.AlikeLemmas.{alike-frame, alike_lanes, arrows-alike, labels-alike, legend-alike}
use Rattle.nm_diagram.proofs.AlikeLemmas.{links-alike, marks-alike, returns-alike, rings-alike}
use Rattle.nm_diagram.proofs.FrameLemmas.{frame-same}
use Rattle.nm_picture.specs.Sheet.{sheet_text}
use Rattle.nm_picture.specs.Pictures.{IsPictureIn, IsPictureOf, arrow_text, arrows_text, axis_text, front_text}
use Rattle.nm_picture.specs.Pictures.{head_text, label_text, lane_text, lane_words, link_text, mark_text}
use Rattle.nm_picture.specs.Pictures.{marks_text, note_text, picture_text, return_text, ring_text, rows_text}
use Rattle.nm_picture.specs.Pictures.{shapes_text, words_text}

front_same : (xs ys : List RankAccount) (frame : Frame) → AreAlike xs ys → front_text frame xs ≡ front_text frame ys
unfolding front_text
front_same xs ys frame h =
    ap (λ l. head_text frame ++ (sheet_text ++ (note_text frame.left_out ++ (rows_text 0 l ++ axis_text frame))))
    (legend-alike frame.span xs ys h)

marks_same : (xs ys : List RankAccount) (frame : Frame) → frame.lanes ≤ length xs → frame.lanes ≤ length ys →
    AreAlike xs ys → marks_text frame xs ≡ marks_text frame ys
unfolding marks_text
marks_same xs ys frame m n h =
    let span = frame.span in
    let lanes = all_lanes frame.chosen (take frame.lanes ys) in
    ap (λ l. all l (all_links span xs) (all_marks span xs) (all_rings span xs))
    (alike_lanes frame.chosen frame.lanes 0 xs ys m n h)
    ∙ ap (λ l. all lanes l (all_marks span xs) (all_rings span xs)) (links-alike span xs ys h)
    ∙ ap (λ l. all lanes (all_links span ys) l (all_rings span xs)) (marks-alike span xs ys h)
    ∙ ap (λ l. all lanes (all_links span ys) (all_marks span ys) l) (rings-alike span xs ys h)
  where
    all : List Lane → List Link → List Mark → List Ring → List ℕ
    all lanes links marks rings =
        flat_map (lane_text frame) lanes ++ (flat_map (link_text frame) links
        ++ (flat_map (mark_text frame) marks ++ flat_map (ring_text frame) rings))

arrows_same : (xs ys : List RankAccount) (frame : Frame) → AreAlike xs ys → arrows_text frame xs ≡ arrows_text frame ys
unfolding arrows_text
arrows_same xs ys frame h =
    let span = frame.span in
    ap (λ l. all l (all_returns span xs)) (arrows-alike span xs ys h)
    ∙ ap (λ l. all (all_arrows span ys) l) (returns-alike span xs ys h)
  where
    all : List Arrow → List Return → List ℕ
    all arrows ways = flat_map (arrow_text frame) arrows ++ flat_map (return_text frame) ways

words_same : (xs ys : List RankAccount) (frame : Frame) → frame.lanes ≤ length xs → frame.lanes ≤ length ys →
    AreAlike xs ys → words_text frame xs ≡ words_text frame ys
unfolding words_text
words_same xs ys frame m n h =
    ap (λ l. flat_map (label_text frame) l
    ++ flat_map (lane_words frame) (all_lanes frame.chosen (take frame.lanes xs)))
    (labels-alike frame.span xs ys h)
    ∙ ap (λ l. flat_map (label_text frame) (all_labels frame.span ys) ++ flat_map (lane_words frame) l)
    (alike_lanes frame.chosen frame.lanes 0 xs ys m n h)

picture_same : (xs ys : List RankAccount) (frame : Frame) → frame.lanes ≤ length xs → frame.lanes ≤ length ys →
    AreAlike xs ys → picture_text frame xs ≡ picture_text frame ys
unfolding picture_text shapes_text
picture_same xs ys frame m n h =
    ap (λ l. all l (marks_text frame xs) (arrows_text frame xs) (words_text frame xs)) (front_same xs ys frame h)
    ∙ ap (λ l. all (front_text frame ys) l (arrows_text frame xs) (words_text frame xs)) (marks_same xs ys frame m n h)
    ∙ ap (λ l. all (front_text frame ys) (marks_text frame ys) l (words_text frame xs)) (arrows_same xs ys frame h)
    ∙ ap (λ l. all (front_text frame ys) (marks_text frame ys) (arrows_text frame ys) l)
    (words_same xs ys frame m n h)
  where
    all : List ℕ → List ℕ → List ℕ → List ℕ → List ℕ
    all front marks arrows words = front ++ ((marks ++ (arrows ++ words)) ++ codes "</g>\n</svg>\n")

pub alike-part : (part : Part) (run other : RunRecord) (text : List ℕ) → part.lanes ≤ length other.ranks →
    AreAlike run.ranks other.ranks → IsPictureIn part run text → IsPictureIn part other text
alike-part part run other text room alike p =
    let too = alike-frame part run.ranks other.ranks p.frame room alike p.of_ranks in
    record {
      frame = p.frame;
      of_ranks = too;
      drawn = p.drawn ∙ picture_same run.ranks other.ranks p.frame p.of_ranks.lanes too.lanes alike;
    }

pub alike-picture : (run other : RunRecord) (text : List ℕ) → AreAlike run.ranks other.ranks → IsPictureOf run text →
    IsPictureOf other text
alike-picture run other text = alike-part whole run other text (omega arith)

-- a part of a run has one picture, since its frame is one
pub one-picture : (part : Part) (run : RunRecord) (a b : List ℕ) → IsPictureIn part run a → IsPictureIn part run b →
    a ≡ b
one-picture part run a b p q =
    p.drawn
    ∙ ap (λ f. picture_text f run.ranks) (frame-same part run.ranks p.frame q.frame p.of_ranks q.of_ranks)
    ∙ sym q.drawn
