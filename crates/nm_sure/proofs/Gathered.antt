-- The lines of the starts of a channel: by the events of a history, and by the commands that ran.
use Rattle.std.proofs.Common.{◌≡◌, ℕ, ◌==◌, Bool, true, false, ◌&&◌, cond, Option, Some, None, List, []}
use Rattle.std.proofs.Common.{◌∷◌, ◌++◌, length, map, refl, sym, ◌∙◌, ap}
use Rattle.std.specs.List.{cons_option, filter, filter_map, list_all}
use Rattle.std.proofs.lemmas.Bool.{false≢true}
use Rattle.std.proofs.lemmas.List.Elements.{filter_map-append}
use Rattle.nm_types.specs.declared.scripts.Command.{Command}
use Rattle.nm_types.specs.declared.scripts.Command.TheVariants as command
use Rattle.nm_types.specs.Commands.{Numbered}
use Rattle.nm_history.specs.declared.events.Event.{Event}
use Rattle.nm_history.specs.declared.events.Happened.{Happened}
use Rattle.nm_history.specs.declared.events.Happened.TheVariants as event
use Rattle.nm_history.specs.AtEach.{in_turn, in_turn_after}
use Rattle.nm_history.specs.RankRun.{is_start, ran_lines, start_of, starts_since, without_number}
use Rattle.nm_match.specs.InTurn.{is_for}
use Rattle.nm_sure.specs.Names.{is_taken, started_after}
use Rattle.nm_sure.specs.Placed.{Placed, at_place, placed, placed_at, placed_from, start_entry}
use Rattle.nm_sure.specs.Plain.{is_plain}
use Rattle.nm_sure.proofs.PlacedLemmas.{IsPlacedSo}
use Rattle.nm_types.proofs.TruthLemmas.{and_left, and_right}

-- the line, if the test passes
abbrev pub if_some : Bool → ℕ → Option ℕ
if_some b l = cond b (Some l) None

-- what is read off starts, whatever their numbers
pub record ReadsStarts (f : Happened → Option ℕ) : Type 0 where
  pub numbers : (w : Happened) → f (without_number w) ≡ f w
  pub others : (w : Happened) → is_start w ≡ false → f w ≡ None

abbrev pub gather : (Happened → Option ℕ) → List Placed → List ℕ
gather f ps = filter_map (λ p. f p.what) ps

onto : {X : Type 0} (o : Option X) (xs : List X) → cons_option o [] ++ xs ≡ cons_option o xs
onto None xs = refl
onto (Some x) xs = refl

entry_at : (f : Happened → Option ℕ) → ReadsStarts f → (n : ℕ) (w : Happened) (b : Bool) → is_start w ≡ b →
    gather f (cond b (at_place n w ∷ []) []) ≡ cons_option (f w) []
entry_at f reads n w true same = ap (λ (o : Option ℕ). cons_option o []) (reads.numbers w)
entry_at f reads n w false same = ap (λ (o : Option ℕ). cons_option o []) (sym (reads.others w same))

gathered_after : (f : Happened → Option ℕ) → ReadsStarts f → (before events : List Event) →
    gather f (in_turn_after (λ b e. start_entry b e.what) before events) ≡ filter_map (λ e. f e.what) events
gathered_after f reads before [] = refl
gathered_after f reads before (e ∷ events) =
    filter_map-append (λ (p : Placed). f p.what) (start_entry before e.what)
    (in_turn_after (λ b e. start_entry b e.what) (before ++ e ∷ []) events)
    ∙ ap (λ (ls : List ℕ). ls ++ gather f (in_turn_after (λ b e. start_entry b e.what) (before ++ e ∷ []) events))
    (entry_at f reads (length (ran_lines before)) e.what (is_start e.what) refl)
    ∙ onto (f e.what) (gather f (in_turn_after (λ b e. start_entry b e.what) (before ++ e ∷ []) events))
    ∙ ap (λ (ls : List ℕ). cons_option (f e.what) ls) (gathered_after f reads (before ++ e ∷ []) events)

-- the placed starts of a history are its starts
pub gathered : (f : Happened → Option ℕ) → ReadsStarts f → (h : List Event) →
    gather f (placed h) ≡ filter_map (λ e. f e.what) h
unfolding in_turn
gathered f reads h = gathered_after f reads [] h

gathered_at : (f : Happened → Option ℕ) → ReadsStarts f → (n : ℕ) (ws : List Happened) →
    gather f (map (at_place n) ws) ≡ filter_map f ws
gathered_at f reads n [] = refl
gathered_at f reads n (w ∷ ws) =
    ap (λ (ls : List ℕ). cons_option (f (without_number w)) ls) (gathered_at f reads n ws)
    ∙ ap (λ (o : Option ℕ). cons_option o (filter_map f ws)) (reads.numbers w)

-- what is read off the start of a plain command
abbrev pub ReadsCommands : (Happened → Option ℕ) → (Command → Bool) → Type 0
ReadsCommands f g =
    (eager l : ℕ) (commands : List Numbered) (c : Command) → is_plain c ≡ true →
    filter_map f (start_of eager commands [] l c) ≡ cond (g c) (l ∷ []) []

lines_at : (f : Happened → Option ℕ) (g : Command → Bool) → ReadsStarts f → ReadsCommands f g → (eager n : ℕ)
    (commands : List Numbered) (c : Numbered) (more : List ℕ) (rest : List Numbered) (b : Bool) →
    is_plain c.command ≡ true → more ≡ map (λ c. c.line) (filter (λ c. g c.command) rest) →
    gather f (cond b (map (at_place n) (start_of eager commands [] c.line c.command)) []) ++ more
    ≡ map (λ c. c.line) (filter (λ c. g c.command) (cond b (c ∷ rest) rest))
lines_at f g reads tells eager n commands c more rest false plain same = same
lines_at f g reads tells eager n commands c more rest true plain same =
    ap (λ (ls : List ℕ). ls ++ more) (gathered_at f reads n (start_of eager commands [] c.line c.command)
    ∙ tells eager c.line commands c.command plain) ∙ by_test (g c.command)
  where
    by_test : (b : Bool) → cond b (c.line ∷ []) [] ++ more ≡ map (λ c. c.line)
        (cond b (c ∷ filter (λ c. g c.command) rest) (filter (λ c. g c.command) rest))
    by_test true = ap (λ (ls : List ℕ). c.line ∷ ls) same
    by_test false = same

-- the placed starts of commands are their lines
pub lines_gathered : (f : Happened → Option ℕ) (g : Command → Bool) → ReadsStarts f → ReadsCommands f g → (eager : ℕ)
    (commands before done : List Numbered) → list_all (λ c. is_plain c.command) done ≡ true →
    gather f (placed_from eager commands before done)
    ≡ map (λ c. c.line) (filter (λ c. g c.command) (started_after before done))
lines_gathered f g reads tells eager commands before [] plain = refl
lines_gathered f g reads tells eager commands before (c ∷ done) plain =
    filter_map-append (λ (p : Placed). f p.what) (placed_at eager commands [] before c)
    (placed_from eager commands (before ++ c ∷ []) done)
    ∙ lines_at f g reads tells eager (length before) commands c
    (gather f (placed_from eager commands (before ++ c ∷ []) done)) (started_after (before ++ c ∷ []) done)
    (is_taken before c.command) (and_left (is_plain c.command) _ plain)
    (lines_gathered f g reads tells eager commands (before ++ c ∷ []) done (and_right (is_plain c.command) _ plain))

-- the receives of a channel, by a history and by the commands that ran
pub channel_lines : (f : Happened → Option ℕ) (g : Command → Bool) → ReadsStarts f → ReadsCommands f g → (eager : ℕ)
    (commands done : List Numbered) (h : List Event) → list_all (λ c. is_plain c.command) done ≡ true →
    IsPlacedSo (placed_from eager commands [] done) h →
    filter_map (λ e. f e.what) h
    ≡ map (λ c. c.line) (filter (λ c. g c.command) (started_after [] done)) ++ filter_map f (starts_since h)
channel_lines f g reads tells eager commands done h plain so =
    sym (gathered f reads h) ∙ ap (λ (ps : List Placed). gather f ps) so
    ∙ filter_map-append (λ (p : Placed). f p.what) (placed_from eager commands [] done)
    (map (at_place (length (ran_lines h))) (starts_since h))
    ∙ ap (λ (ls : List ℕ). ls ++ gather f (map (at_place (length (ran_lines h))) (starts_since h)))
    (lines_gathered f g reads tells eager commands [] done plain)
    ∙ ap (λ (ls : List ℕ). map (λ c. c.line) (filter (λ c. g c.command) (started_after [] done)) ++ ls)
    (gathered_at f reads (length (ran_lines h)) (starts_since h))

-- the line of a receive of the channel; the line of a send of it
abbrev pub post_line : ℕ → ℕ → ℕ → Happened → Option ℕ
post_line from tag ctx (event.Post p line) = if_some (is_for from tag ctx p) line
post_line from tag ctx _ = None

abbrev pub receives_it : ℕ → ℕ → ℕ → Command → Bool
receives_it from tag ctx (command.Recv q source tags context cap) =
    is_for from tag ctx (record { number = 0; from = source; tag = tags; ctx = context; cap = cap })
receives_it from tag ctx _ = false

pub posts_read : (from tag ctx : ℕ) → ReadsStarts (post_line from tag ctx)
posts_read from tag ctx = record { numbers = same_line; others = no_line }
  where
    same_line : (w : Happened) → post_line from tag ctx (without_number w) ≡ post_line from tag ctx w
    same_line (event.Send to n t c len how line) = refl
    same_line (event.Post p line) = refl
    same_line (event.Match number i n cap line) = refl
    same_line w = refl

    no_line : (w : Happened) → is_start w ≡ false → post_line from tag ctx w ≡ None
    no_line (event.Post p line) other = absurd (false≢true (sym other))
    no_line w other = refl

pub one_line : (b : Bool) (l : ℕ) → cons_option (if_some b l) [] ≡ cond b (l ∷ []) []
one_line true l = refl
one_line false l = refl

pub posts_told : (from tag ctx : ℕ) → ReadsCommands (post_line from tag ctx) (receives_it from tag ctx)
posts_told from tag ctx eager l commands (command.Send to q t c sync body) plain = refl
posts_told from tag ctx eager l commands (command.Recv q source tags context cap) plain =
    one_line (is_for from tag ctx (record { number = 0; from = source; tag = tags; ctx = context; cap = cap })) l
posts_told from tag ctx eager l commands (command.Wait q) plain = refl
posts_told from tag ctx eager l commands (command.Test q) plain = absurd (false≢true plain)
posts_told from tag ctx eager l commands (command.Probe i t c) plain = absurd (false≢true plain)
posts_told from tag ctx eager l commands (command.Await i t c) plain = absurd (false≢true plain)
posts_told from tag ctx eager l commands (command.Cancel q) plain = absurd (false≢true plain)
posts_told from tag ctx eager l commands (command.Mprobe m i t c) plain = absurd (false≢true plain)
posts_told from tag ctx eager l commands (command.Mrecv q m cap) plain = absurd (false≢true plain)

-- the line of a send of the channel
abbrev pub send_line : ℕ → ℕ → ℕ → Happened → Option ℕ
send_line to tag ctx (event.Send to' n tag' ctx' len how line) = if_some (ctx == ctx' && to == to' && tag == tag') line
send_line to tag ctx _ = None

abbrev pub sends_it : ℕ → ℕ → ℕ → Command → Bool
sends_it to tag ctx (command.Send to' q tag' ctx' sync body) = ctx == ctx' && to == to' && tag == tag'
sends_it to tag ctx _ = false

pub sends_read : (to tag ctx : ℕ) → ReadsStarts (send_line to tag ctx)
sends_read to tag ctx = record { numbers = same_line; others = no_line }
  where
    same_line : (w : Happened) → send_line to tag ctx (without_number w) ≡ send_line to tag ctx w
    same_line (event.Send to' n t c len how line) = refl
    same_line (event.Post p line) = refl
    same_line (event.Match number i n cap line) = refl
    same_line w = refl

    no_line : (w : Happened) → is_start w ≡ false → send_line to tag ctx w ≡ None
    no_line (event.Send to' n t c len how line) other = absurd (false≢true (sym other))
    no_line w other = refl

pub sends_told : (to tag ctx : ℕ) → ReadsCommands (send_line to tag ctx) (sends_it to tag ctx)
sends_told to tag ctx eager l commands (command.Send to' q tag' ctx' sync body) plain =
    one_line (ctx == ctx' && to == to' && tag == tag') l
sends_told to tag ctx eager l commands (command.Recv q source tags context cap) plain = refl
sends_told to tag ctx eager l commands (command.Wait q) plain = refl
sends_told to tag ctx eager l commands (command.Test q) plain = absurd (false≢true plain)
sends_told to tag ctx eager l commands (command.Probe i t c) plain = absurd (false≢true plain)
sends_told to tag ctx eager l commands (command.Await i t c) plain = absurd (false≢true plain)
sends_told to tag ctx eager l commands (command.Cancel q) plain = absurd (false≢true plain)
sends_told to tag ctx eager l commands (command.Mprobe m i t c) plain = absurd (false≢true plain)
sends_told to tag ctx eager l commands (command.Mrecv q m cap) plain = absurd (false≢true plain)
