-- The lines of a channel's starts in a history are the first of those that the commands call for.
use Rattle.std.proofs.Common.{◌≡◌, ℕ, ◌+◌, ◌==◌, Bool, true, false, ◌&&◌, cond, zero, suc, Option, Some, None}
use Rattle.std.proofs.Common.{List, [], ◌∷◌, ◌++◌, length, map, refl, sym, ◌∙◌, ap, subst, arith, inl, inr}
use Rattle.std.proofs.Common.{append-nil, append_assoc}
use Rattle.std.specs.Prelude.{is_none, is_some, take}
use Rattle.std.specs.List.{filter, filter_map, list_all, slice_get, cons_option}
use Rattle.std.specs.Option.{option_map_or}
use Rattle.std.proofs.lemmas.Bool.{false≢true}
use Rattle.std.proofs.lemmas.Bool.Decides.{nat_tests}
use Rattle.std.proofs.lemmas.List.{map-append}
use Rattle.std.proofs.Math.Seq.{take-append-add}
use Rattle.nm_types.specs.declared.messages.Peer.TheVariants as peer
use Rattle.nm_types.specs.declared.messages.TagPick.TheVariants as pick
use Rattle.nm_types.specs.declared.scripts.Command.{Command}
use Rattle.nm_types.specs.declared.scripts.Command.TheVariants as command
use Rattle.nm_types.specs.declared.scripts.Line.{Line}
use Rattle.nm_types.specs.Commands.{Numbered, commands_from}
use Rattle.nm_history.specs.declared.events.Event.{Event}
use Rattle.nm_history.specs.declared.events.Happened.{Happened}
use Rattle.nm_history.specs.RankRun.{start_of, starts_since, without_number}
use Rattle.nm_sure.specs.Channels.{Channel, is_channel, receive_channel, send_channel}
use Rattle.nm_sure.specs.Names.{holder, is_taken, started, started_after, started_name}
use Rattle.nm_sure.specs.Plain.{is_plain}
use Rattle.nm_sure.proofs.Fronts.{Stood}
use Rattle.nm_sure.proofs.Gathered.{ReadsCommands, ReadsStarts, channel_lines, receives_it, sends_it}
use Rattle.nm_sure.proofs.Progress.{IsUnderWay}
use Rattle.nm_sure.proofs.Rising.{starts_split}
use Rattle.nm_types.proofs.OptionLemmas.{no_some, same_some}
use Rattle.nm_types.proofs.TruthLemmas.{and_left, and_right}

-- each of these commands is plain
abbrev pub ArePlainCommands : List Numbered → Type 0
ArePlainCommands cs = list_all (λ c. is_plain c.command) cs ≡ true

pub plain_from : (rank number : ℕ) (lines : List Line) → list_all (λ (l : Line). is_plain l.command) lines ≡ true →
    ArePlainCommands (commands_from rank number lines)
plain_from rank number [] plain = refl
plain_from rank number (l ∷ lines) plain =
    by_rank (l.rank == rank) (and_left (is_plain l.command) (list_all (λ (l : Line). is_plain l.command) lines) plain)
    (plain_from rank (number + 1) lines
    (and_right (is_plain l.command) (list_all (λ (l : Line). is_plain l.command) lines) plain))
  where
    by_rank : (b : Bool) → is_plain l.command ≡ true → ArePlainCommands (commands_from rank (number + 1) lines) →
        ArePlainCommands (cond b (record { line = number; command = l.command } ∷ commands_from rank (number + 1) lines)
        (commands_from rank (number + 1) lines))
    by_rank true first later = rw (first, later) refl
    by_rank false first later = later

pub plain_front : (xs ys : List Numbered) → ArePlainCommands (xs ++ ys) → ArePlainCommands xs
plain_front [] ys plain = refl
plain_front (x ∷ xs) ys plain =
    rw (
      and_left (is_plain x.command) (list_all (λ c. is_plain c.command) (xs ++ ys)) plain,
      plain_front xs ys (and_right (is_plain x.command) (list_all (λ c. is_plain c.command) (xs ++ ys)) plain),
    ) refl

pub plain_at : (cs : List Numbered) (k : ℕ) (c : Numbered) → ArePlainCommands cs → slice_get cs k ≡ Some c →
    is_plain c.command ≡ true
plain_at [] k c plain here = absurd (no_some c here)
plain_at (d ∷ cs) zero c plain here =
    subst (λ (x : Numbered). is_plain x.command ≡ true) (same_some d c here)
    (and_left (is_plain d.command) (list_all (λ c. is_plain c.command) cs) plain)
plain_at (d ∷ cs) (suc k) c plain here =
    plain_at cs k c (and_right (is_plain d.command) (list_all (λ c. is_plain c.command) cs) plain) here

-- a command that is no start is not taken
not_taken : (before : List Numbered) (c : Command) → is_some (started_name c) ≡ false → is_taken before c ≡ false
not_taken before c none = by_name (started_name c) none
  where
    by_name : (o : Option ℕ) → is_some o ≡ false → option_map_or (λ q. is_none (holder before q)) o false ≡ false
    by_name None none = refl
    by_name (Some q) none = absurd (false≢true (sym none))

numbers_aside : (f : Happened → Option ℕ) → ReadsStarts f → (ws : List Happened) →
    filter_map f (map without_number ws) ≡ filter_map f ws
numbers_aside f reads [] = refl
numbers_aside f reads (w ∷ ws) =
    ap (λ (o : Option ℕ). cons_option o (filter_map f (map without_number ws))) (reads.numbers w)
    ∙ ap (λ (ls : List ℕ). cons_option (f w) ls) (numbers_aside f reads ws)

module _ (f : Happened → Option ℕ) (g : Command → Bool) (reads : ReadsStarts f) (tells : ReadsCommands f g) (eager : ℕ)
    (commands : List Numbered) (plain : ArePlainCommands commands) where
  abbrev lines_of : List Numbered → List ℕ
  lines_of cs = map (λ c. c.line) (filter (λ c. g c.command) cs)

  -- a whole run, behind whose last answer nothing was started
  pub told_whole : (h : List Event) (done more : List Numbered) → commands ≡ done ++ more →
      Stood eager commands done h →
      starts_since h ≡ [] → filter_map (λ e. f e.what) h ≡ map (λ c. c.line) (filter (λ c. g c.command) (started done))
  told_whole h done more split stood none =
      channel_lines f g reads tells eager commands done h
      (plain_front done more (subst (λ (cs : List Numbered). ArePlainCommands cs) split plain)) stood.places
      ∙ (rw none (append-nil (lines_of (started done))))

  next_lines : (c : Numbered) (taken : Bool) (xs : List Numbered) → is_plain c.command ≡ true →
      lines_of (cond taken (c ∷ xs) xs)
      ≡ filter_map f (cond taken (start_of eager commands [] c.line c.command) []) ++ lines_of xs
  next_lines c false xs plain = refl
  next_lines c true xs plain =
      rw (tells eager c.line commands c.command plain) (by_test (g c.command))
    where
      by_test : (b : Bool) →
          map (λ c. c.line) (cond b (c ∷ filter (λ c. g c.command) xs) (filter (λ c. g c.command) xs))
          ≡ cond b (c.line ∷ []) [] ++ lines_of xs
      by_test true = refl
      by_test false = refl

  -- behind some commands, those of more commands begin with what was started since
  ahead : (done more : List Numbered) (starts : List Happened) (m : ℕ) → ArePlainCommands more →
      IsUnderWay eager commands done more starts →
      ((c : Numbered) → m ≡ 0 → slice_get more 0 ≡ Some c → is_some (started_name c.command) ≡ false) →
      (rest : List ℕ) × (lines_of (started_after done (take m more)) ≡ filter_map f starts ++ rest)
  ahead done more starts m fine (inl none) stop = (lines_of (started_after done (take m more)), rw none refl)
  ahead done [] starts m fine (inr next) stop = absurd (grind (arith, next.2))
  ahead done (d ∷ more) starts zero fine (inr next) stop =
      let same : d ≡ next.0 = cc in
      let no : is_taken done next.0.command ≡ false =
      not_taken done next.0.command (subst (λ (c : Numbered). is_some (started_name c.command) ≡ false) same
      (stop d refl refl)) in
      let none : map without_number starts ≡ [] = next.3 ∙ (rw no refl) in (
        [],
        sym (append-nil (filter_map f starts) ∙ sym (numbers_aside f reads starts)
            ∙ ap (λ (ws : List Happened). filter_map f ws) none),
      )
  ahead done (d ∷ more) starts (suc m) fine (inr next) stop =
      let same : d ≡ next.0 = cc in
      let xs : List Numbered = started_after (done ++ d ∷ []) (take m more) in (
        lines_of xs,
        next_lines d (is_taken done d.command) xs (plain_at (d ∷ more) 0 d fine refl)
            ∙ ap (λ (ls : List ℕ). ls ++ lines_of xs) (sym (sym (numbers_aside f reads starts)
            ∙ ap (λ (ws : List Happened). filter_map f ws) (next.3
            ∙ ap (λ (c : Numbered). cond (is_taken done c.command) (start_of eager commands [] c.line c.command) [])
            (sym same)))),
      )

  -- a front of a run, where so many commands and no start behind them are allowed
  pub reached : (b : List Event) (done more : List Numbered) (m : ℕ) → commands ≡ done ++ more →
      Stood eager commands done b →
      IsUnderWay eager commands done more (starts_since b) →
      ((c : Numbered) → m ≡ 0 → slice_get more 0 ≡ Some c → is_some (started_name c.command) ≡ false) →
      (rest : List ℕ) × (map (λ c. c.line) (filter (λ c. g c.command) (started (take (length done + m) commands)))
      ≡ filter_map (λ e. f e.what) b ++ rest)
  reached b done more m split stood under stop =
      let fine : ArePlainCommands (done ++ more) = subst (λ (cs : List Numbered). ArePlainCommands cs) split plain in
      let later = ahead done more (starts_since b) m (plain_back done more fine) under stop in (
        later.0,
        ap (λ (cs : List Numbered). lines_of (started cs))
            (ap (λ (cs : List Numbered). take (length done + m) cs) split ∙ take-append-add done more m)
            ∙ ap (λ (cs : List Numbered). map (λ c. c.line) cs) (starts_split (λ c. g c.command) done (take m more))
            ∙ map-append (λ (c : Numbered). c.line) (filter (λ c. g c.command) (started done))
            (filter (λ c. g c.command) (started_after done (take m more)))
            ∙ ap (λ (ls : List ℕ). lines_of (started done) ++ ls) later.1
            ∙ sym (append_assoc (lines_of (started done)) (filter_map f (starts_since b)) later.0)
            ∙ ap (λ (ls : List ℕ). ls ++ later.0) (sym (channel_lines f g reads tells eager commands done b
            (plain_front done more fine) stood.places)),
      )
    where
      plain_back : (xs ys : List Numbered) → ArePlainCommands (xs ++ ys) → ArePlainCommands ys
      plain_back [] ys plain = plain
      plain_back (x ∷ xs) ys plain =
          plain_back xs ys (and_right (is_plain x.command) (list_all (λ c. is_plain c.command) (xs ++ ys)) plain)

-- two tests that agree on plain commands keep the same starts
kept_alike : (t u : Command → Bool) → ((c : Command) → is_plain c ≡ true → t c ≡ u c) → (before cs : List Numbered) →
    ArePlainCommands cs →
    filter (λ c. t c.command) (started_after before cs) ≡ filter (λ c. u c.command) (started_after before cs)
kept_alike t u alike before [] plain = refl
kept_alike t u alike before (c ∷ cs) plain =
    by_test (is_taken before c.command)
    (alike c.command (and_left (is_plain c.command) (list_all (λ c. is_plain c.command) cs) plain))
    (kept_alike t u alike (before ++ c ∷ []) cs
    (and_right (is_plain c.command) (list_all (λ c. is_plain c.command) cs) plain))
  where
    by_test : (b : Bool) → t c.command ≡ u c.command →
        filter (λ c. t c.command) (started_after (before ++ c ∷ []) cs) ≡ filter (λ c. u c.command)
        (started_after (before ++ c ∷ []) cs) →
        filter (λ c. t c.command)
        (cond b (c ∷ started_after (before ++ c ∷ []) cs) (started_after (before ++ c ∷ []) cs))
        ≡ filter (λ c. u c.command)
        (cond b (c ∷ started_after (before ++ c ∷ []) cs) (started_after (before ++ c ∷ []) cs))
    by_test true same later = rw (same, later) refl
    by_test false same later = later

swap3 : (i f j t u c d : ℕ) → (i == f && j == j && t == u && c == d) ≡ (d == c && f == i && u == t)
swap3 i f j t u c d = grind (arith, nat_tests)

receives_alike : (k : Channel) (c : Command) → is_plain c ≡ true →
    option_map_or (is_channel k) (receive_channel k.to c) false ≡ receives_it k.from k.tag k.ctx c
receives_alike k (command.Recv q (peer.One from) (pick.One tag) ctx cap) plain = swap3 k.from from k.to k.tag tag
    k.ctx ctx
receives_alike k (command.Recv q peer.Any tags ctx cap) plain = absurd (false≢true plain)
receives_alike k (command.Recv q (peer.One from) pick.Any ctx cap) plain = absurd (false≢true plain)
receives_alike k c plain = refl

swap4 : (i j t u c d v : ℕ) → (i == i && j == v && t == u && c == d) ≡ (c == d && j == v && t == u)
swap4 i j t u c d v = grind (arith, nat_tests)

sends_alike : (k : Channel) (c : Command) → is_plain c ≡ true →
    option_map_or (is_channel k) (send_channel k.from c) false ≡ sends_it k.to k.tag k.ctx c
sends_alike k (command.Send to q tag ctx sync body) plain = swap4 k.from k.to k.tag tag k.ctx ctx to
sends_alike k c plain = refl

pub receives_kept : (k : Channel) (cs : List Numbered) → ArePlainCommands cs →
    filter (λ c. option_map_or (is_channel k) (receive_channel k.to c.command) false) (started cs)
    ≡ filter (λ c. receives_it k.from k.tag k.ctx c.command) (started cs)
receives_kept k cs plain =
    kept_alike (λ c. option_map_or (is_channel k) (receive_channel k.to c) false) (receives_it k.from k.tag k.ctx)
    (receives_alike k) [] cs plain

pub sends_kept : (k : Channel) (cs : List Numbered) → ArePlainCommands cs →
    filter (λ c. option_map_or (is_channel k) (send_channel k.from c.command) false) (started cs)
    ≡ filter (λ c. sends_it k.to k.tag k.ctx c.command) (started cs)
sends_kept k cs plain =
    kept_alike (λ c. option_map_or (is_channel k) (send_channel k.from c) false) (sends_it k.to k.tag k.ctx)
    (sends_alike k) [] cs plain
