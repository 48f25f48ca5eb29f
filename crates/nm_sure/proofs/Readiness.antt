-- Whether a request is ready, by its partner and by which lines ran.
use Rattle.std.proofs.Common.{◌≡◌, ℕ, ◌+◌, ◌-◌, ◌==◌, ◌||◌, Bool, true, false, cond, Option, Some, None, List, [], ◌∷◌}
use Rattle.std.proofs.Common.{◌++◌, length, map, refl, sym, ◌∙◌, ap, subst, arith}
use Rattle.std.specs.Prelude.{is_none, is_some, option_and_then, option_map, take}
use Rattle.std.specs.List.{filter, list_any, position, slice_get}
use Rattle.std.specs.Option.{option_map_or}
use Rattle.std.proofs.lemmas.Bool.{false≢true}
use Rattle.std.proofs.lemmas.List.{map-append}
use Rattle.std.proofs.lemmas.Option.{slice_get-map}
use Rattle.nm_types.specs.declared.messages.Peer.TheVariants as peer
use Rattle.nm_types.specs.declared.messages.TagPick.TheVariants as pick
use Rattle.nm_types.specs.declared.scripts.Body.{Body}
use Rattle.nm_types.specs.declared.scripts.Command.{Command}
use Rattle.nm_types.specs.declared.scripts.Command.TheVariants as command
use Rattle.nm_types.specs.declared.scripts.Line.{Line}
use Rattle.nm_types.specs.Commands.{Numbered, command_at, commands_of}
use Rattle.nm_sure.specs.declared.partners.Way.{Way}
use Rattle.nm_sure.specs.Channels.{Channel, is_channel, place_of, receive_channel, receive_for, receives_in}
use Rattle.nm_sure.specs.Channels.{send_channel, send_for, sends_in}
use Rattle.nm_sure.specs.Held.{before, held_at}
use Rattle.nm_sure.specs.Names.{started, started_after, started_name}
use Rattle.nm_sure.specs.Plain.{has_run, is_ready, is_ready_at, ran_of}
use Rattle.nm_sure.specs.Planned.{AreRan, IsStart, is_eager, is_run}
use Rattle.nm_sure.specs.Ways.{channel_of, number_if, partner_at, partner_for, place_at, place_for, receive_lines}
use Rattle.nm_sure.specs.Ways.{receive_way}
use Rattle.nm_sure.specs.Ways.{send_lines, send_way, way_of_receive, way_of_send}
use Rattle.nm_sure.proofs.Lists.{kept_from, place_behind}
use Rattle.nm_sure.proofs.Rising.{commands_rise, position_at, started_from, starts_split}
use Rattle.nm_sure.proofs.Standing.{OwnFrom, before_split, own_at}
use Rattle.nm_sure.proofs.Wayside.{receives_more, same_way_self, sends_more}
use Rattle.nm_types.proofs.TruthLemmas.{or_left}
use Rattle.nm_types.proofs.ListLemmas.{get_before, get_from_map}
use Rattle.nm_types.proofs.OptionLemmas.{no_some, same_some}

-- the starts of a rank that pass a test
abbrev pub passing : (Numbered → Bool) → List Numbered → List Numbered
passing g commands = filter g (started commands)

abbrev pub lines_in : List Numbered → List ℕ
lines_in starts = map (λ (c : Numbered). c.line) starts

-- a start that the next line adds stands behind those before it, and its line has that place
start_at : (g : Numbered → Bool) (lines : List Line) (k own : ℕ) →
    lines_in (passing g (before lines (k + 1) own)) ≡ lines_in (passing g (before lines k own)) ++ (k + 2) ∷ [] →
    place_of (k + 2) (passing g (commands_of own lines)) ≡ Some (length (lines_in (passing g (before lines k own))))
start_at g lines k own grown =
    subst (λ (l : ℕ). position (λ c. c.line == l) (passing g (commands_of own lines)) ≡ Some p) found.2
    (position_at g (commands_of own lines) p found.0 (commands_rise own lines) found.1)
  where
    p : ℕ
    p = length (lines_in (passing g (before lines k own)))

    more : List Numbered
    more = (before_split lines (k + 1) own).0

    all : lines_in (passing g (commands_of own lines))
        ≡ lines_in (passing g (before lines k own)) ++ (k + 2) ∷ [] ++ lines_in
        (filter g (started_after (before lines (k + 1) own) more))
    all =
        ap (λ (cs : List Numbered). lines_in (passing g cs)) (before_split lines (k + 1) own).1
        ∙ ap (λ (cs : List Numbered). lines_in cs) (starts_split g (before lines (k + 1) own) more)
        ∙ map-append (λ (c : Numbered). c.line) (passing g (before lines (k + 1) own))
        (filter g (started_after (before lines (k + 1) own) more))
        ∙ ap (λ (ls : List ℕ). ls ++ lines_in (filter g (started_after (before lines (k + 1) own) more))) grown

    last : slice_get (lines_in (passing g (before lines k own)) ++ (k + 2) ∷ []) p ≡ Some (k + 2)
    last =
        ap (λ (m : ℕ). slice_get (lines_in (passing g (before lines k own)) ++ (k + 2) ∷ []) m) (add_zero p)
        ∙ place_behind (lines_in (passing g (before lines k own))) ((k + 2) ∷ []) 0
      where
        add_zero : (m : ℕ) → m ≡ m + 0
        add_zero m = omega arith

    found : (s : Numbered) × (slice_get (passing g (commands_of own lines)) p ≡ Some s) × (s.line ≡ k + 2)
    found =
        get_from_map (λ (c : Numbered). c.line) (passing g (commands_of own lines)) p (k + 2)
        (ap (λ (ls : List ℕ). slice_get ls p) all
        ∙ get_before (lines_in (passing g (before lines k own)) ++ (k + 2) ∷ [])
        (lines_in (filter g (started_after (before lines (k + 1) own) more))) p (k + 2) last)

-- a start adds its number to its channel
one_number : (w : Way) (o : Option Way) (held : Option ℕ) (n : ℕ) → o ≡ Some w → held ≡ None →
    cond (is_none held) (number_if w o n) [] ≡ n ∷ []
one_number w o held n is free = rw (free, is, same_way_self w) refl

abbrev pub NumberOf : Option Numbered → Option ℕ
NumberOf o = option_map (λ (c : Numbered). c.line) o

-- the partner of a send is its receive
pub partner_of_send : (lines : List Line) (k : ℕ) (line : Line) (w : Way) → slice_get lines k ≡ Some line →
    held_at lines k ≡ None →
    send_way line ≡ Some w → partner_at lines k ≡ NumberOf (receive_for lines (channel_of w) (k + 2))
partner_of_send lines k line w here free way =
    ap (λ (o : Option Line). option_and_then (λ (l : Line). option_and_then (partner_for lines l) (place_at lines k))
    o) here
    ∙ ap (λ (o : Option ℕ). option_and_then (partner_for lines line) o) placed
    ∙ ap (λ (o : Option Way). option_map_or (λ (v : Way). slice_get (receive_lines lines v) p) o
    (option_and_then (λ (v : Way). slice_get (send_lines lines v) p) (receive_way line))) way
    ∙ slice_get-map (λ (c : Numbered). c.line) (receives_in lines (channel_of w)) p
    ∙ ap (λ (o : Option ℕ). NumberOf (option_and_then (slice_get (receives_in lines (channel_of w))) o)) (sym spot)
  where
    p : ℕ
    p = length (send_lines (take k lines) w)

    placed : place_at lines k ≡ Some p
    placed =
        ap (λ (o : Option ℕ). cond (is_none o) (option_and_then (place_for (take k lines)) (slice_get lines k)) None)
        free
        ∙ ap (λ (o : Option Line). option_and_then (place_for (take k lines)) o) here
        ∙ ap (λ (o : Option Way). option_map_or (λ (v : Way). Some (length (send_lines (take k lines) v))) o
        (option_map (λ (v : Way). length (receive_lines (take k lines) v)) (receive_way line))) way

    spot : place_of (k + 2) (sends_in lines (channel_of w)) ≡ Some p
    spot = start_at _ lines k w.from
        (sends_more lines k line w here
        ∙ ap (λ (ls : List ℕ). send_lines (take k lines) w ++ ls)
        (one_number w (send_way line) (held_at lines k) (k + 2) way free))

-- the partner of a receive is its send
pub partner_of_receive : (lines : List Line) (k : ℕ) (line : Line) (w : Way) → slice_get lines k ≡ Some line →
    held_at lines k ≡ None →
    send_way line ≡ None → receive_way line ≡ Some w → partner_at lines k ≡ NumberOf
    (send_for lines (channel_of w) (k + 2))
partner_of_receive lines k line w here free none way =
    ap (λ (o : Option Line). option_and_then (λ (l : Line). option_and_then (partner_for lines l) (place_at lines k))
    o) here
    ∙ ap (λ (o : Option ℕ). option_and_then (partner_for lines line) o) placed
    ∙ ap (λ (o : Option Way). option_map_or (λ (v : Way). slice_get (receive_lines lines v) p) o
    (option_and_then (λ (v : Way). slice_get (send_lines lines v) p) (receive_way line))) none
    ∙ ap (λ (o : Option Way). option_and_then (λ (v : Way). slice_get (send_lines lines v) p) o) way
    ∙ slice_get-map (λ (c : Numbered). c.line) (sends_in lines (channel_of w)) p
    ∙ ap (λ (o : Option ℕ). NumberOf (option_and_then (slice_get (sends_in lines (channel_of w))) o)) (sym spot)
  where
    p : ℕ
    p = length (receive_lines (take k lines) w)

    placed : place_at lines k ≡ Some p
    placed =
        ap (λ (o : Option ℕ). cond (is_none o) (option_and_then (place_for (take k lines)) (slice_get lines k)) None)
        free
        ∙ ap (λ (o : Option Line). option_and_then (place_for (take k lines)) o) here
        ∙ ap (λ (o : Option Way). option_map_or (λ (v : Way). Some (length (send_lines (take k lines) v))) o
        (option_map (λ (v : Way). length (receive_lines (take k lines) v)) (receive_way line))) none
        ∙ ap (λ (o : Option Way). option_map (λ (v : Way). length (receive_lines (take k lines) v)) o) way

    spot : place_of (k + 2) (receives_in lines (channel_of w)) ≡ Some p
    spot = start_at _ lines k w.to
        (receives_more lines k line w here
        ∙ ap (λ (ls : List ℕ). receive_lines (take k lines) w ++ ls)
        (one_number w (receive_way line) (held_at lines k) (k + 2) way free))

-- a receive with a wildcard has none
partner_of_none : (lines : List Line) (k : ℕ) (line : Line) → slice_get lines k ≡ Some line → send_way line ≡ None →
    receive_way line ≡ None →
    partner_at lines k ≡ None
partner_of_none lines k line here none never =
    ap (λ (o : Option Line). option_and_then (λ (l : Line). option_and_then (partner_for lines l) (place_at lines k))
    o) here
    ∙ by_place (place_at lines k)
  where
    by_place : (o : Option ℕ) → option_and_then (partner_for lines line) o ≡ None
    by_place None = refl
    by_place (Some p) =
        ap (λ (o : Option Way). option_map_or (λ (v : Way). slice_get (receive_lines lines v) p) o
        (option_and_then (λ (v : Way). slice_get (send_lines lines v) p) (receive_way line))) none
        ∙ ap (λ (o : Option Way). option_and_then (λ (v : Way). slice_get (send_lines lines v) p) o) never

-- what belongs to a start is a command of its rank
pub partner_stands : (g : Numbered → Bool) (lines : List Line) (own : ℕ) (o : Option ℕ) (s : Numbered) →
    option_and_then (slice_get (passing g (commands_of own lines))) o ≡ Some s →
    (n : ℕ) × OwnFrom lines own 2 n s
partner_stands g lines own None s here = absurd (no_some s here)
partner_stands g lines own (Some p) s here =
    let kept = kept_from g (started (commands_of own lines)) p s here in
    let from = started_from [] (commands_of own lines) kept.0 s kept.1 in
    (from.0, own_at lines own from.0 s from.1)

-- the sends and the receives of a channel
abbrev pub sends : Channel → Numbered → Bool
sends k c = option_map_or (is_channel k) (send_channel k.from c.command) false

abbrev pub takes : Channel → Numbered → Bool
takes k c = option_map_or (is_channel k) (receive_channel k.to c.command) false

-- whether the partner of a start ran, where it has one
abbrev pub IsPartnerRun : List Bool → Option ℕ → Bool → Type 0
IsPartnerRun ran None ready = ready ≡ false
IsPartnerRun ran (Some partner) ready = slice_get ran (partner - 2) ≡ Some ready

partner_ran : (g : Numbered → Bool) (lines : List Line) (at : List ℕ) (ran : List Bool) (own : ℕ) (place : Option ℕ)
    (ready : Bool) →
    AreRan lines at ran → (o : Option Numbered) → option_and_then (slice_get (passing g (commands_of own lines)))
    place ≡ o →
    IsPartnerRun ran (NumberOf o) ready → ready ≡ has_run lines at own o
partner_ran g lines at ran own place ready are None found is = is
partner_ran g lines at ran own place ready are (Some s) found is =
    let stands = partner_stands g lines own place s found in
    let o = stands.1 in
    let spot : s.line - 2 ≡ o.place = (let is = o.is in omega (arith, is)) in
    let number : o.place + 2 ≡ s.line = (let is = o.is in omega (arith, is)) in
    same_some ready (is_run lines at o.place o.line)
    (sym is ∙ ap (λ (k : ℕ). slice_get ran k) spot ∙ are.each o.place o.line o.here)
    ∙ ap (λ (r : ℕ). list_any (λ c. c.line == o.place + 2) (ran_of lines at r)) o.own
    ∙ ap (λ (l : ℕ). list_any (λ c. c.line == l) (ran_of lines at own)) number

or_false : (b c : Bool) → b ≡ false → (b || c) ≡ c
or_false false c is = refl
or_false true c is = absurd (false≢true (sym is))

-- the law that the line at a place is the command of its number
abbrev pub StandAtPlaces : Type 0
StandAtPlaces = (rank : ℕ) (lines : List Line) (k : ℕ) (line : Line) → slice_get lines k ≡ Some line →
    line.rank ≡ rank →
    command_at (commands_of rank lines) (k + 2) ≡ Some line.command

module _ (eager : ℕ) (lines : List Line) (at : List ℕ) (rank start : ℕ) (stand : StandAtPlaces)
    (is : IsStart lines rank start) where
  asked : is_ready_at eager lines at rank start ≡ is_ready eager lines at rank start is.line.command
  asked =
      ap (λ (o : Option Command). option_map_or (is_ready eager lines at rank start) o true)
      (ap (λ (l : ℕ). command_at (commands_of rank lines) l) is.is ∙ stand rank lines is.place is.line is.here is.own)

  -- a send that leaves at once is ready
  pub ready_eager : is_eager eager is.line.command ≡ true → is_ready_at eager lines at rank start ≡ true
  ready_eager eagerly = asked ∙ by_command is.line.command eagerly
    where
      by_command : (c : Command) → is_eager eager c ≡ true → is_ready eager lines at rank start c ≡ true
      by_command (command.Send to q tag ctx sync body) eagerly = or_left _ _ eagerly
      by_command c eagerly = absurd (false≢true eagerly)

  -- any other start is ready where its partner ran
  pub ready_asked : (ran : List Bool) (ready : Bool) → AreRan lines at ran → is_eager eager is.line.command ≡ false →
      IsPartnerRun ran (partner_at lines is.place) ready → ready ≡ is_ready_at eager lines at rank start
  ready_asked ran ready are slow by =
      by_command is.line.command refl slow is.starts ∙ sym asked
    where
      by_send : (q to tag ctx : ℕ) (body : Body) (sync : Bool) → is.line.command ≡ command.Send to q tag ctx sync body →
          ready ≡ has_run lines at to (receive_for lines (record { from = rank; to = to; tag = tag; ctx = ctx }) start)
      by_send q to tag ctx body sync same =
          let w : Way = record { from = is.line.rank; to = to; tag = tag; ctx = ctx } in
          let pair = partner_of_send lines is.place is.line w is.here is.free
          (ap (λ (c : Command). way_of_send is.line.rank c) same) in
          partner_ran (takes (channel_of w)) lines at ran to (place_of (is.place + 2) (sends_in lines (channel_of w)))
          ready are
          (receive_for lines (channel_of w) (is.place + 2)) refl
          (subst (λ (o : Option ℕ). IsPartnerRun ran o ready) pair by)
          ∙ ap (λ (l : ℕ). has_run lines at to (receive_for lines (channel_of w) l)) (sym is.is)
          ∙ ap (λ (r : ℕ). has_run lines at to
          (receive_for lines (record { from = r; to = to; tag = tag; ctx = ctx }) start)) is.own

      by_receive : (q from tag ctx top : ℕ) → is.line.command ≡ command.Recv q (peer.One from) (pick.One tag) ctx top →
          ready ≡ has_run lines at from (send_for lines (record { from = from; to = rank; tag = tag; ctx = ctx }) start)
      by_receive q from tag ctx top same =
          let w : Way = record { from = from; to = is.line.rank; tag = tag; ctx = ctx } in
          let pair = partner_of_receive lines is.place is.line w is.here is.free
          (ap (λ (c : Command). way_of_send is.line.rank c) same)
          (ap (λ (c : Command). way_of_receive is.line.rank c) same) in
          partner_ran (sends (channel_of w)) lines at ran from
          (place_of (is.place + 2) (receives_in lines (channel_of w))) ready are
          (send_for lines (channel_of w) (is.place + 2)) refl
          (subst (λ (o : Option ℕ). IsPartnerRun ran o ready) pair by)
          ∙ ap (λ (l : ℕ). has_run lines at from (send_for lines (channel_of w) l)) (sym is.is)
          ∙ ap (λ (r : ℕ). has_run lines at from
          (send_for lines (record { from = from; to = r; tag = tag; ctx = ctx }) start)) is.own

      by_wild : (c : Command) → is.line.command ≡ c → ((r : ℕ) → way_of_send r c ≡ None) →
          ((r : ℕ) → way_of_receive r c ≡ None) →
          ready ≡ false
      by_wild c same none never =
          subst (λ (o : Option ℕ). IsPartnerRun ran o ready)
          (partner_of_none lines is.place is.line is.here
          (ap (λ (c : Command). way_of_send is.line.rank c) same ∙ none is.line.rank)
          (ap (λ (c : Command). way_of_receive is.line.rank c) same ∙ never is.line.rank)) by

      by_command : (c : Command) → is.line.command ≡ c → is_eager eager c ≡ false → is_some (started_name c) ≡ true →
          ready ≡ is_ready eager lines at rank start c
      by_command (command.Send to q tag ctx sync body) same slow starts =
          by_send q to tag ctx body sync same ∙ sym (or_false _ _ slow)
      by_command (command.Recv q (peer.One from) (pick.One tag) ctx top) same slow starts =
          by_receive q from tag ctx top same
      by_command (command.Recv q from tag ctx top) same slow starts =
          by_wild (command.Recv q from tag ctx top) same (λ r. refl) (λ r. refl)
      by_command c same slow starts = absurd (false≢true starts)
