-- What the code of the plain run tells: the answer of each command, of each rank, and the report.
use Rattle.std.proofs.Common.{◌≡◌, ℕ, ◌+◌, ◌-◌, ◌*◌, ◌<◌, ◌≤◌, ◌&&◌, zero, suc, Bool, true, false, Option, Some, None}
use Rattle.std.proofs.Common.{List, []}
use Rattle.std.proofs.Common.{◌∷◌, ◌++◌, length, map, get_or, refl, sym, ◌∙◌, ap, subst, arith, append-nil}
use Rattle.std.proofs.Common.{append_assoc}
use Rattle.std.specs.Prelude.{Err, IfOk, Ok, Result, flat_map, is_none, is_some, option_and_then, option_map, take}
use Rattle.std.specs.List.{filter_map, list_all, range_with_len, slice_get}
use Rattle.std.specs.Option.{option_map_or}
use Rattle.std.proofs.lemmas.Bool.{false≢true}
use Rattle.std.proofs.lemmas.List.{get_or-take, length-map, length-take-le, map-append}
use Rattle.std.proofs.lemmas.Option.{get_or_from_slice_get}
use Rattle.std.proofs.lemmas.List.Elements.{filter_map-append}
use Rattle.std.proofs.lemmas.List.Folds.{list_all-map}
use Rattle.std.proofs.lemmas.List.FromFn.{map-range_with_len_more}
use Rattle.nm_types.specs.declared.answers.Account.{Account}
use Rattle.nm_types.specs.declared.answers.Answer.{Answer}
use Rattle.nm_types.specs.declared.answers.Answer.TheVariants as answer
use Rattle.nm_types.specs.declared.messages.Peer.{Peer}
use Rattle.nm_types.specs.declared.messages.Peer.TheVariants as peer
use Rattle.nm_types.specs.declared.messages.TagPick.{TagPick}
use Rattle.nm_types.specs.declared.messages.TagPick.TheVariants as pick
use Rattle.nm_types.specs.declared.scripts.Command.{Command}
use Rattle.nm_types.specs.declared.scripts.Command.TheVariants as command
use Rattle.nm_types.specs.declared.scripts.Line.{Line}
use Rattle.nm_types.specs.Commands.{Numbered, command_at, commands_of}
use Rattle.nm_types.specs.Sizes.{Sizes}
use Rattle.nm_history.specs.declared.events.Event.{Event}
use Rattle.nm_history.specs.declared.events.Happened.TheVariants as event
use Rattle.nm_history.specs.Sends.{sent_bytes}
use Rattle.nm_report.specs.declared.accounts.RankAccount.{RankAccount}
use Rattle.nm_report.specs.Report.{cells_line, end_line}
use Rattle.nm_report.specs.Told.{RankTold, Told, told_by, told_from, told_lines, told_of_rank, told_text}
use Rattle.nm_sure.specs.declared.partners.Way.{Way}
use Rattle.nm_sure.specs.Channels.{place_of, send_for, receives_in}
use Rattle.nm_sure.specs.Held.{before, held_at, name_of, own_lines}
use Rattle.nm_sure.specs.Names.{holder, started_name}
use Rattle.nm_sure.specs.Plain.{next_of, plain_end}
use Rattle.nm_sure.specs.PlainText.{are_at_end, plain_answer, plain_done, plain_text, rank_text, rank_told, result_at}
use Rattle.nm_sure.specs.PlainText.{result_by, shown_of}
use Rattle.nm_sure.specs.PlainText.{start_answer, text_at, told_after, told_at, told_by_rank, waits_at}
use Rattle.nm_sure.specs.Planned.{IsLine, IsStart}
use Rattle.nm_sure.specs.Ways.{channel_of, partner_at, receive_way, way_of_receive, way_of_send}
use Rattle.nm_sure.proofs.Before.{held_here}
use Rattle.nm_sure.proofs.Readiness.{NumberOf, StandAtPlaces, partner_of_receive, partner_stands, sends}
use Rattle.nm_sure.proofs.Running.{line_number, names_of, same_command}
use Rattle.nm_sure.proofs.Standing.{own_at}
use Rattle.nm_types.proofs.ListLemmas.{get_some, get_map, take_more}
use Rattle.nm_types.proofs.OptionLemmas.{no_some, same_some}

-- what holds of a value holds of what was made of it
pub if_ok : {A E : Type 0} (P Q : A → Type 0) (r : Result A E) → ((a : A) → P a → Q a) → IfOk r P → IfOk r Q
if_ok P Q (Ok a) on holds = on a holds
if_ok P Q (Err e) on holds = holds

-- what a request ends with
module _ (lines : List Line) (rank start : ℕ) (stand : StandAtPlaces) (is : IsStart lines rank start) where
  asked : result_at lines rank start ≡ result_by lines rank start is.line.command
  asked =
      ap (λ (o : Option Command). option_map_or (result_by lines rank start) o answer.Null)
      (ap (λ (l : ℕ). command_at (commands_of rank lines) l) is.is ∙ stand rank lines is.place is.line is.here is.own)

  -- a receive that names its source and its tag, by its send
  module _ (w : Way) (q : ℕ) (from : Peer) (tag : TagPick) (ctx cap : ℕ)
      (same : is.line.command ≡ command.Recv q from tag ctx cap)
      (way : receive_way is.line ≡ Some w) where
    abbrev by_send : Option Numbered → Answer
    by_send o = option_map_or (λ (s : Numbered). shown_of (channel_of w) cap (sent_bytes s.command)) o answer.Null

    received : by_send (send_for lines (channel_of w) (is.place + 2)) ≡ result_at lines rank start
    received =
        by_picks from tag (sym (ap (λ (c : Command). way_of_receive is.line.rank c) same) ∙ way)
        ∙ sym (asked ∙ ap (λ (c : Command). result_by lines rank start c) same)
      where
        at_way : Way → ℕ → Answer
        at_way v l = option_map_or (λ (s : Numbered). shown_of (channel_of v) cap (sent_bytes s.command))
            (send_for lines (channel_of v) l) answer.Null

        by_picks : (from : Peer) (tag : TagPick) → way_of_receive is.line.rank (command.Recv q from tag ctx cap)
            ≡ Some w →
            at_way w (is.place + 2) ≡ result_by lines rank start (command.Recv q from tag ctx cap)
        by_picks (peer.One from) (pick.One tag) some =
            ap (λ (v : Way). at_way v (is.place + 2)) (sym (same_some _ w some))
            ∙ ap (λ (l : ℕ). at_way (record { from = from; to = is.line.rank; tag = tag; ctx = ctx }) l) (sym is.is)
            ∙ ap (λ (r : ℕ). at_way (record { from = from; to = r; tag = tag; ctx = ctx }) start) is.own
        by_picks from tag some = absurd (no_some w some)

    pair : partner_at lines is.place ≡ NumberOf (send_for lines (channel_of w) (is.place + 2))
    pair = partner_of_receive lines is.place is.line w is.here is.free
        (ap (λ (c : Command). way_of_send is.line.rank c) same) way

    pub result_none : partner_at lines is.place ≡ None → answer.Null ≡ result_at lines rank start
    result_none none = at_send (send_for lines (channel_of w) (is.place + 2)) (sym pair ∙ none) ∙ received
      where
        at_send : (o : Option Numbered) → NumberOf o ≡ None → answer.Null ≡ by_send o
        at_send None none = refl
        at_send (Some s) none = absurd (no_some s.line (sym none))

    pub result_got : (p : ℕ) (item : Line) → partner_at lines is.place ≡ Some p → slice_get lines (p - 2) ≡ Some item →
        shown_of (channel_of w) cap (sent_bytes item.command) ≡ result_at lines rank start
    result_got p item some there =
        at_send (send_for lines (channel_of w) (is.place + 2)) refl (sym pair ∙ some) ∙ received
      where
        at_send : (o : Option Numbered) → send_for lines (channel_of w) (is.place + 2) ≡ o → NumberOf o ≡ Some p →
            shown_of (channel_of w) cap (sent_bytes item.command) ≡ by_send o
        at_send None found number = absurd (no_some p number)
        at_send (Some s) found number =
            let stands = (partner_stands (sends (channel_of w)) lines w.from
            (place_of (is.place + 2) (receives_in lines (channel_of w))) s found).1 in
            let line : s.line ≡ p = same_some s.line p number in
            let spot : p - 2 ≡ stands.place = (let is = stands.is in omega (arith, is, line)) in
            let own : stands.line ≡ item = same_some stands.line item
            (sym stands.here ∙ ap (λ (k : ℕ). slice_get lines k) (sym spot) ∙ there) in
            ap (λ (c : Command). shown_of (channel_of w) cap (sent_bytes c)) (ap (λ (l : Line). l.command) (sym own)
            ∙ stands.same)

-- the answer of the command at a place of a rank, by its line
module _ (lines : List Line) (rank n : ℕ) (c : Numbered) (place : ℕ) (line : Line)
    (here : slice_get (commands_of rank lines) n ≡ Some c)
    (number : c.line ≡ place + 2) (there : slice_get lines place ≡ Some line) where
  pub answer_start : is_some (started_name line.command) ≡ true →
      start_answer (held_at lines place) ≡ plain_answer lines rank (take n (commands_of rank lines)) c.command
  answer_start starts = by_command line.command refl starts
      ∙ ap (λ (d : Command). plain_answer lines rank (take n (commands_of rank lines)) d)
      (same_command lines rank n c place line here number there)
    where
      by_command : (d : Command) → line.command ≡ d → is_some (started_name d) ≡ true →
          start_answer (held_at lines place) ≡ plain_answer lines rank (take n (commands_of rank lines)) line.command
      by_command (command.Send to q tag ctx sync body) same starts =
          ap start_answer (sym (names_of lines rank n c place line here number there q (ap name_of same)))
          ∙ ap (λ (d : Command). plain_answer lines rank (take n (commands_of rank lines)) d) (sym same)
      by_command (command.Recv q from tag ctx cap) same starts =
          ap start_answer (sym (names_of lines rank n c place line here number there q (ap name_of same)))
          ∙ ap (λ (d : Command). plain_answer lines rank (take n (commands_of rank lines)) d) (sym same)
      by_command d same starts = absurd (false≢true starts)

  pub answer_other : is_some (started_name line.command) ≡ false →
      option_map_or (result_at lines rank) (held_at lines place) answer.Null ≡ plain_answer lines rank
      (take n (commands_of rank lines)) c.command
  answer_other starts = by_command line.command refl starts
      ∙ ap (λ (d : Command). plain_answer lines rank (take n (commands_of rank lines)) d)
      (same_command lines rank n c place line here number there)
    where
      unnamed : (d : Command) → line.command ≡ d → name_of d ≡ None → held_at lines place ≡ None
      unnamed d same none =
          held_here lines place line there
          ∙ ap (λ (o : Option ℕ). option_and_then (holder (before lines place line.rank)) o) (ap name_of same ∙ none)

      silent : (d : Command) → line.command ≡ d → name_of d ≡ None → answer.Null ≡ plain_answer lines rank
          (take n (commands_of rank lines)) d →
          option_map_or (result_at lines rank) (held_at lines place) answer.Null ≡ plain_answer lines rank
          (take n (commands_of rank lines)) line.command
      silent d same none null =
          ap (λ (o : Option ℕ). option_map_or (result_at lines rank) o answer.Null) (unnamed d same none) ∙ null
          ∙ ap (λ (e : Command). plain_answer lines rank (take n (commands_of rank lines)) e) (sym same)

      by_command : (d : Command) → line.command ≡ d → is_some (started_name d) ≡ false →
          option_map_or (result_at lines rank) (held_at lines place) answer.Null ≡ plain_answer lines rank
          (take n (commands_of rank lines)) line.command
      by_command (command.Wait q) same starts =
          ap (λ (o : Option ℕ). option_map_or (result_at lines rank) o answer.Null)
          (sym (names_of lines rank n c place line here number there q (ap name_of same)))
          ∙ ap (λ (d : Command). plain_answer lines rank (take n (commands_of rank lines)) d) (sym same)
      by_command (command.Send to q tag ctx sync body) same starts = absurd (false≢true (sym starts))
      by_command (command.Recv q from tag ctx cap) same starts = absurd (false≢true (sym starts))
      by_command (command.Test q) same starts = silent (command.Test q) same refl refl
      by_command (command.Probe from tag ctx) same starts = silent (command.Probe from tag ctx) same refl refl
      by_command (command.Await from tag ctx) same starts = silent (command.Await from tag ctx) same refl refl
      by_command (command.Cancel q) same starts = silent (command.Cancel q) same refl refl
      by_command (command.Mprobe m from tag ctx) same starts = silent (command.Mprobe m from tag ctx) same refl refl
      by_command (command.Mrecv q m cap) same starts = silent (command.Mrecv q m cap) same refl refl

pub own_count : (lines : List Line) (rank : ℕ) (own : List ℕ) → own ≡ own_lines lines rank →
    length own ≡ length (commands_of rank lines)
own_count lines rank own is =
    ap (λ (ls : List ℕ). length ls) is ∙ length-map (commands_of rank lines) (λ (c : Numbered). c.line)

-- the command at a place of a rank, by the rank's lines
pub own_item : (lines : List Line) (rank at n : ℕ) (own : List ℕ) → own ≡ own_lines lines rank →
    at ≤ length (commands_of rank lines) →
    n < length (take at own) →
    (c : Numbered) × (slice_get (commands_of rank lines) n ≡ Some c) × (c.line ≡ get_or (take at own) n 0)
own_item lines rank at n own is within low =
    let many = own_count lines rank own is in
    let taken : length (take at own) ≡ at = length-take-le at own (omega (arith, within, many)) in
    let found = get_some (commands_of rank lines) n (omega (arith, low, taken, within)) in (
      found.0,
      found.1,
      sym (get_or-take at own n 0 (omega (arith, low, taken))
          ∙ get_or_from_slice_get own n found.0.line 0
          (ap (λ (ls : List ℕ). slice_get ls n) is ∙ get_map (λ (c : Numbered). c.line) (commands_of rank lines) n
          found.0 found.1)),
    )

pub own_number : (lines : List Line) (rank n : ℕ) (c : Numbered) (number : ℕ) → slice_get (commands_of rank lines) n
    ≡ Some c → c.line ≡ number →
    IsLine lines number
own_number lines rank n c number here line =
    let o = own_at lines rank n c here in
    let same : o.place + 2 ≡ number = (let is = o.is in omega (arith, is, line)) in
    subst (λ (m : ℕ). IsLine lines m) same (line_number lines o.place o.line o.here)

-- the answers of one command more
told_push : (lines : List Line) (rank : ℕ) (before cs : List Numbered) (c : Numbered) →
    told_after lines rank before (cs ++ c ∷ [])
    ≡ told_after lines rank before cs ++ record {
      line = c.line;
      answer = plain_answer lines rank
          (before ++ cs) c.command;
    } ∷ []
told_push lines rank before [] c =
    ap (λ (b : List Numbered). record { line = c.line; answer = plain_answer lines rank b c.command } ∷ [])
    (sym (append-nil before))
told_push lines rank before (d ∷ cs) c =
    ap (λ (ts : List Told). record { line = d.line; answer = plain_answer lines rank before d.command } ∷ ts)
    (told_push lines rank (before ++ d ∷ []) cs c
    ∙ ap (λ (b : List Numbered). told_after lines rank (before ++ d ∷ []) cs ++ record {
      line = c.line;
      answer =
          plain_answer lines rank b c.command;
    } ∷ [])
    (append_assoc before (d ∷ []) cs))

pub told_more : (lines : List Line) (rank n number stamp : ℕ) (a : Answer) (c : Numbered) (old new : List Event) →
    slice_get (commands_of rank lines) n ≡ Some c → c.line ≡ number →
    a ≡ plain_answer lines rank (take n (commands_of rank lines)) c.command →
    filter_map (λ e. told_by e.what) old ≡ told_after lines rank [] (take n (commands_of rank lines)) →
    new ≡ old ++ record { stamp = stamp; what = event.Ran number a } ∷ [] →
    filter_map (λ e. told_by e.what) new ≡ told_after lines rank [] (take (n + 1) (commands_of rank lines))
told_more lines rank n number stamp a c old new here line answer so_far put =
    let one : n + 1 ≡ suc n = omega arith in
    ap (λ (es : List Event). filter_map (λ (e : Event). told_by e.what) es) put
    ∙ filter_map-append (λ (e : Event). told_by e.what) old (record { stamp = stamp; what = event.Ran number a } ∷ [])
    ∙ ap (λ (ts : List Told). ts ++ record { line = number; answer = a } ∷ []) so_far
    ∙ ap (λ (l : ℕ). told_after lines rank [] (take n (commands_of rank lines)) ++ record { line = l; answer = a } ∷
    []) (sym line)
    ∙ ap (λ (b : Answer). told_after lines rank [] (take n (commands_of rank lines)) ++
    record { line = c.line; answer = b } ∷ []) answer
    ∙ sym (told_push lines rank [] (take n (commands_of rank lines)) c)
    ∙ ap (λ (cs : List Numbered). told_after lines rank [] cs) (sym (take_more (commands_of rank lines) n c here))
    ∙ ap (λ (k : ℕ). told_after lines rank [] (take k (commands_of rank lines))) (sym one)

-- one rank more
pub account_more : (lines : List Line) (at : List ℕ) (rank : ℕ) (a : RankAccount) (old new : List RankAccount) →
    filter_map (λ e. told_by e.what) a.history.events ≡ told_by_rank lines at rank → a.waits ≡ waits_at lines at rank →
    map told_of_rank old ≡ map (rank_told lines at) (range_with_len 0 rank) → new ≡ old ++ a ∷ [] →
    map told_of_rank new ≡ map (rank_told lines at) (range_with_len 0 (rank + 1))
account_more lines at rank a old new answers waits so_far put =
    ap (λ (each : List RankAccount). map told_of_rank each) put
    ∙ map-append told_of_rank old (a ∷ [])
    ∙ ap (λ (ts : List RankTold). ts ++ told_of_rank a ∷ []) so_far
    ∙ ap (λ (ts : List Told). map (rank_told lines at) (range_with_len 0 rank) ++ record {
      answers = ts;
      waits =
          a.waits;
    } ∷ []) answers
    ∙ ap (λ (o : Option ℕ). map (rank_told lines at) (range_with_len 0 rank) ++
    record { answers = told_by_rank lines at rank; waits = o } ∷ []) waits
    ∙ sym (map-range_with_len_more (rank_told lines at) 0 rank rank (omega arith))

-- the lines of all ranks
texts_of : (T : ℕ → RankTold) (a n : ℕ) → told_from a (map T (range_with_len a n)) ≡ flat_map
    (λ r. told_lines r (T r)) (range_with_len a n)
texts_of T a zero = refl
texts_of T a (suc n) = ap (λ (ts : List ℕ). told_lines a (T a) ++ ts) (texts_of T (a + 1) n)

-- the report of what the plain run tells
pub report_of : (shape : Sizes) (lines : List Line) (told : List RankTold) (F : List ℕ) (cells : Account)
    (done : Bool) →
    F ≡ plain_end shape.eager shape.ranks lines → told ≡ told_at lines F →
    cells ≡ record { total = shape.ranks * shape.cells; home = shape.ranks * shape.cells } → done ≡ are_at_end lines F →
    told_text told cells done ≡ plain_text shape lines
unfolding plain_text
report_of shape lines told F cells done far tells home ended =
    ap (λ (ts : List RankTold). told_text ts cells done) tells
    ∙ ap (λ (ts : List ℕ). ts ++ (cells_line cells ++ end_line done)) (texts_of (rank_told lines F) 0 (length F))
    ∙ ap (λ (b : Bool). flat_map (rank_text lines F) (range_with_len 0 (length F)) ++
    (cells_line cells ++ end_line b)) ended
    ∙ ap (λ (a : Account). flat_map (rank_text lines F) (range_with_len 0 (length F)) ++
    (cells_line a ++ end_line (are_at_end lines F))) home
    ∙ ap (λ (at : List ℕ). text_at shape lines at) far

-- whether all are at their end
pub ended_of : (shape : Sizes) (lines : List Line) (accounts : List RankAccount) (F : List ℕ) (done : Bool) →
    F ≡ plain_end shape.eager shape.ranks lines → map told_of_rank accounts ≡ told_at lines F →
    done ≡ list_all (λ a. is_none a.waits) accounts → (done ≡ are_at_end lines F) × (done ≡ plain_done shape lines)
unfolding plain_done
ended_of shape lines accounts F done far tells is = (ended, ended ∙ ap (λ (at : List ℕ). are_at_end lines at) far)
  where
    open_ends : (rs : List ℕ) → list_all (λ r. is_none (waits_at lines F r)) rs ≡ list_all
        (λ r. is_none (next_of lines F r)) rs
    open_ends [] = refl
    open_ends (r ∷ rs) =
        ap (λ (b : Bool). b && list_all (λ r. is_none (waits_at lines F r)) rs) (mapped (next_of lines F r))
        ∙ ap (λ (b : Bool). is_none (next_of lines F r) && b) (open_ends rs)
      where
        mapped : (o : Option Numbered) → is_none (option_map (λ (c : Numbered). c.line) o) ≡ is_none o
        mapped None = refl
        mapped (Some c) = refl

    ended : done ≡ are_at_end lines F
    ended =
        is
        ∙ sym (list_all-map (λ (t : RankTold). is_none t.waits) told_of_rank accounts)
        ∙ ap (λ (ts : List RankTold). list_all (λ (t : RankTold). is_none t.waits) ts) tells
        ∙ list_all-map (λ (t : RankTold). is_none t.waits) (rank_told lines F) (range_with_len 0 (length F))
        ∙ open_ends (range_with_len 0 (length F))
