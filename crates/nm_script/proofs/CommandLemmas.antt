-- A line's words: what is spelled is read.
use Rattle.std.proofs.Common.{◌≡◌, ℕ, ◌+◌, ◌-◌, ◌<◌, ◌≤◌, ◌^◌, Bool, true, false, ◌&&◌}
use Rattle.std.proofs.Common.{List, [], ◌∷◌, ◌++◌, length, get_or, take, nat_le, nat_lt, Ok}
use Rattle.std.proofs.Common.{refl, ◌∙◌, arith, codes, decimal, length-append}
use Rattle.std.specs.List.{list_all}
use Rattle.std.specs.Str.{all_ascii_digits, bytes_eq}
use Rattle.std.proofs.lemmas.Bool.{and_from, ltb-true, leb-true, lt-ltb}
use Rattle.std.proofs.Math.Seq.{get_or-append_seam, take-append_seam}
use Rattle.std.proofs.lemmas.Fmt.{digits_decimal}
use Rattle.std.proofs.lemmas.List.Folds.{list_all-append}
use Rattle.std.proofs.lemmas.Slice.Eq.{bytes_eq-Decides}
use Rattle.hex.specs.Hex.{encode_lower}
use Rattle.nm_types.specs.declared.limits.TheConstants.{MAX_RANKS, MAX_NAME, MAX_TAG, MAX_CONTEXT}
use Rattle.nm_types.specs.declared.limits.TheConstants.{MAX_CAPACITY, MAX_BODY}
use Rattle.nm_types.specs.declared.messages.Peer.{Peer}
use Rattle.nm_types.specs.declared.messages.Peer.TheVariants as peer
use Rattle.nm_types.specs.declared.messages.TagPick.{TagPick}
use Rattle.nm_types.specs.declared.messages.TagPick.TheVariants as pick
use Rattle.nm_types.specs.declared.scripts.Body.{Body}
use Rattle.nm_types.specs.declared.scripts.Body.TheVariants.{Hex, Gen}
use Rattle.nm_types.specs.declared.scripts.Command.{Command}
use Rattle.nm_types.specs.declared.scripts.Command.TheVariants.{Send, Recv, Wait, Test, Probe}
use Rattle.nm_types.specs.declared.scripts.Command.TheVariants.{Await, Cancel, Mprobe, Mrecv}
use Rattle.nm_types.specs.declared.scripts.Line.{Line}
use Rattle.nm_types.specs.Bodies.{body_len}
use Rattle.nm_types.specs.Limits.{is_peer, is_pick, is_in_range}
use Rattle.nm_types.specs.Text.{peer_word, tag_word, body_word, words}
use Rattle.nm_script.specs.declared.keywords.Keyword.{Keyword}
use Rattle.nm_script.specs.declared.keywords.Keyword.TheVariants as key
use Rattle.nm_script.specs.Commands.{rank_of, argument_of, name_of, peer_of, pick_of, selection_of}
use Rattle.nm_script.specs.Commands.{send_with, send_of, recv_with, recv_of, lone_of, probe_of}
use Rattle.nm_script.specs.Commands.{mprobe_with, mprobe_of, mrecv_with, mrecv_of, arguments_of}
use Rattle.nm_script.specs.Commands.{command_of, line_of}
use Rattle.nm_script.specs.Keywords.{keyword_text}
use Rattle.nm_script.specs.Spelled.{are_bytes, has_bytes}
use Rattle.nm_script.proofs.BodyLemmas.{body_again}
use Rattle.nm_script.proofs.DigitLemmas.{all_lower, bytes_are}
use Rattle.nm_script.proofs.KeywordLemmas.{keyword_again}
use Rattle.nm_script.proofs.NumberLemmas.{own, number_again}
use Rattle.nm_script.proofs.StepLemmas.{four_parts, five_parts}
use Rattle.nm_script.proofs.WordLemmas.{is_solid, Solid, decimal_solid, lower_solid}
use Rattle.nm_types.proofs.TruthLemmas.{three_parts, not_true}

-- the words of a line
abbrev pub line_words : ℕ → Command → List (List ℕ)
line_words rank c = (decimal rank ++ codes ":") ∷ words c

-- ---- what is spelled is read

last_is : (xs : List ℕ) (y : ℕ) → get_or (xs ++ y ∷ []) (length (xs ++ y ∷ []) - 1) 0 ≡ y
last_is xs y =
    let n : length (xs ++ y ∷ []) - 1 ≡ length xs = omega (arith, length-append xs (y ∷ [])) in
    rw n (get_or-append_seam xs y [] 0)

front_is : (xs : List ℕ) (y : ℕ) → take (length (xs ++ y ∷ []) - 1) (xs ++ y ∷ []) ≡ xs
front_is xs y =
    let n : length (xs ++ y ∷ []) - 1 ≡ length xs = omega (arith, length-append xs (y ∷ [])) in
    rw n (take-append_seam xs (y ∷ []))

some_is : (xs : List ℕ) (y : ℕ) → nat_lt 0 (length (xs ++ y ∷ [])) ≡ true
some_is xs y = lt-ltb 0 (length (xs ++ y ∷ [])) (omega (arith, length-append xs (y ∷ [])))

pub rank_again : (ranks r : ℕ) → ranks ≤ MAX_RANKS → r < ranks → rank_of ranks (decimal r ++ 58 ∷ []) ≡ Ok r
unfolding rank_of
rank_again ranks r few h =
    rw (last_is (decimal r) 58, front_is (decimal r) 58, number_again ranks r (omega arith) h)
    (rw (some_is (decimal r) 58) refl)

pub argument_again : (limit n : ℕ) → limit ≤ 2 ^ 64 → n < limit → argument_of limit (decimal n) ≡ Ok n
unfolding argument_of
argument_again limit n small h = rw (number_again limit n small h) refl

-- a word is at most this number
pub word_again : (most n : ℕ) → most < 2 ^ 63 → nat_le n most ≡ true → argument_of (most + 1) (decimal n) ≡ Ok n
word_again most n small h = argument_again (most + 1) n (omega arith) (omega (arith, leb-true n most h))

body_solid : (body : Body) → are_bytes body ≡ true → body_len body ≤ MAX_BODY
    → list_all is_solid (body_word body) ≡ true
body_solid (Hex bytes) h few =
    and_from _ _ refl (lower_solid (encode_lower bytes) (all_lower bytes (bytes_are bytes h)))
body_solid (Gen n) h few = and_from _ _ refl (decimal_solid n (omega arith))

small_solid : (most n : ℕ) → most < 2 ^ 63 → nat_le n most ≡ true → list_all is_solid (decimal n) ≡ true
small_solid most n small h = decimal_solid n (omega (arith, leb-true n most h))

-- no number is spelled `any`
not_any : (n : ℕ) → n < 2 ^ 64 → bytes_eq (decimal n) (codes "any") ≡ false
not_any n h = not_true _ (λ e.
    let is : decimal n ≡ codes "any" = (bytes_eq-Decides (decimal n) (codes "any")).0 e in
    let digits : all_ascii_digits (decimal n) ≡ true = digits_decimal own n h in
    let no : all_ascii_digits (codes "any") ≡ true = rw is at digits in cc (no))

pub peer_again : (ranks : ℕ) (p : Peer) → ranks ≤ MAX_RANKS → is_peer ranks p ≡ true
    → peer_of ranks (peer_word p) ≡ Ok p
unfolding peer_of
peer_again ranks peer.Any few h = refl
peer_again ranks (peer.One r) few h =
    let below = ltb-true r ranks h in
    rw (not_any r (omega arith)) (rw (argument_again ranks r (omega arith) below) refl)

pub pick_again : (p : TagPick) → is_pick p ≡ true → pick_of (tag_word p) ≡ Ok p
unfolding pick_of
pick_again pick.Any h = refl
pick_again (pick.One t) h =
    let below = leb-true t MAX_TAG h in
    rw (not_any t (omega arith)) (rw (word_again MAX_TAG t (omega arith) h) refl)

pub selection_again : (ranks : ℕ) (from : Peer) (tag : TagPick) (ctx : ℕ) → ranks ≤ MAX_RANKS
    → is_peer ranks from ≡ true → is_pick tag ≡ true → nat_le ctx MAX_CONTEXT ≡ true
    → selection_of ranks (peer_word from) (tag_word tag) (decimal ctx)
    ≡ Ok (record { from = from; tag = tag; ctx = ctx })
unfolding selection_of
selection_again ranks from tag ctx few f t c =
    rw (peer_again ranks from few f)
    (rw (pick_again tag t) (rw (word_again MAX_CONTEXT ctx (omega arith) c) refl))

peer_solid : (ranks : ℕ) (p : Peer) → ranks ≤ MAX_RANKS → is_peer ranks p ≡ true
    → list_all is_solid (peer_word p) ≡ true
peer_solid ranks peer.Any few h = refl
peer_solid ranks (peer.One r) few h = decimal_solid r (omega (arith, ltb-true r ranks h))

pick_solid : (p : TagPick) → is_pick p ≡ true → list_all is_solid (tag_word p) ≡ true
pick_solid pick.Any h = refl
pick_solid (pick.One t) h = small_solid MAX_TAG t (omega arith) h

-- what is asked of a line, beside its place
pub record Fits (ranks : ℕ) (line : Line) : Type 0 where
  pub own : line.rank < ranks
  pub range : is_in_range ranks line.command ≡ true
  pub bytes : has_bytes line.command ≡ true

-- the name of a command
abbrev pub keyword_in : Command → Keyword
keyword_in (Send to q tag ctx true body) = key.Issend
keyword_in (Send to q tag ctx false body) = key.Isend
keyword_in (Recv q from tag ctx cap) = key.Irecv
keyword_in (Wait q) = key.Wait
keyword_in (Test q) = key.Test
keyword_in (Probe from tag ctx) = key.Probe
keyword_in (Await from tag ctx) = key.Await
keyword_in (Cancel q) = key.Cancel
keyword_in (Mprobe m from tag ctx) = key.Mprobe
keyword_in (Mrecv q m cap) = key.Mrecv

-- the words behind it
abbrev pub arguments_in : Command → List (List ℕ)
arguments_in (Send to q tag ctx sync body) =
    decimal q ∷ decimal to ∷ decimal tag ∷ decimal ctx ∷ body_word body ∷ []
arguments_in (Recv q from tag ctx cap) =
    decimal q ∷ peer_word from ∷ tag_word tag ∷ decimal ctx ∷ decimal cap ∷ []
arguments_in (Wait q) = decimal q ∷ []
arguments_in (Test q) = decimal q ∷ []
arguments_in (Probe from tag ctx) = peer_word from ∷ tag_word tag ∷ decimal ctx ∷ []
arguments_in (Await from tag ctx) = peer_word from ∷ tag_word tag ∷ decimal ctx ∷ []
arguments_in (Cancel q) = decimal q ∷ []
arguments_in (Mprobe m from tag ctx) =
    decimal m ∷ peer_word from ∷ tag_word tag ∷ decimal ctx ∷ []
arguments_in (Mrecv q m cap) = decimal q ∷ decimal m ∷ decimal cap ∷ []

pub words_are : (c : Command) → words c ≡ keyword_text (keyword_in c) ∷ arguments_in c
words_are (Send to q tag ctx true body) = refl
words_are (Send to q tag ctx false body) = refl
words_are (Recv q from tag ctx cap) = refl
words_are (Wait q) = refl
words_are (Test q) = refl
words_are (Probe from tag ctx) = refl
words_are (Await from tag ctx) = refl
words_are (Cancel q) = refl
words_are (Mprobe m from tag ctx) = refl
words_are (Mrecv q m cap) = refl

pub keyword_solid : (k : Keyword) → list_all is_solid (keyword_text k) ≡ true
keyword_solid key.Isend = refl
keyword_solid key.Issend = refl
keyword_solid key.Irecv = refl
keyword_solid key.Wait = refl
keyword_solid key.Test = refl
keyword_solid key.Probe = refl
keyword_solid key.Await = refl
keyword_solid key.Cancel = refl
keyword_solid key.Mprobe = refl
keyword_solid key.Mrecv = refl

module _ (ranks : ℕ) (few : ranks ≤ MAX_RANKS) where
  -- the arguments of a command in range have no space, and are read as that command
  pub ReadsBack : Command → Type 0
  ReadsBack c =
      is_in_range ranks c ≡ true → has_bytes c ≡ true
      → (arguments_of ranks (keyword_in c) (arguments_in c) ≡ Ok c) × Solid (arguments_in c)

  sends : (q to tag ctx : ℕ) (body : Body) (sync : Bool)
      → is_in_range ranks (Send to q tag ctx sync body) ≡ true → are_bytes body ≡ true
      → (send_of ranks sync (arguments_in (Send to q tag ctx sync body)) ≡ Ok
      (Send to q tag ctx sync body)) × Solid (arguments_in (Send to q tag ctx sync body))
  unfolding send_of send_with name_of
  sends q to tag ctx body sync range bytes =
      let t = five_parts (nat_le q MAX_NAME) (nat_lt to ranks) (nat_le tag MAX_TAG) (nat_le ctx MAX_CONTEXT)
      (nat_le (body_len body) MAX_BODY) range in
      let peer : to < ranks = ltb-true to ranks t.two in
      let fits : body_len body ≤ MAX_BODY = leb-true (body_len body) MAX_BODY t.five in (
        rw (word_again MAX_NAME q (omega arith) t.one)
            (rw (argument_again ranks to (omega arith) peer)
            (rw (word_again MAX_TAG tag (omega arith) t.three)
            (rw (word_again MAX_CONTEXT ctx (omega arith) t.four)
            (rw (body_again body bytes fits) refl)))),
        (
          small_solid MAX_NAME q (omega arith) t.one,
          (
            decimal_solid to (omega arith),
            (
              small_solid MAX_TAG tag (omega arith) t.three,
              (
                small_solid MAX_CONTEXT ctx (omega arith) t.four,
                (body_solid body bytes fits, tt),
              ),
            ),
          ),
        ),
      )

  send_again : (q to tag ctx : ℕ) (body : Body) (sync : Bool) → ReadsBack (Send to q tag ctx sync body)
  unfolding ReadsBack arguments_of
  send_again q to tag ctx body true range bytes = sends q to tag ctx body true range bytes
  send_again q to tag ctx body false range bytes = sends q to tag ctx body false range bytes

  recv_again : (q : ℕ) (from : Peer) (tag : TagPick) (ctx cap : ℕ) → ReadsBack (Recv q from tag ctx cap)
  unfolding ReadsBack arguments_of recv_of recv_with name_of
  recv_again q from tag ctx cap range bytes =
      let t = five_parts (nat_le q MAX_NAME) (is_peer ranks from) (is_pick tag)
      (nat_le ctx MAX_CONTEXT) (nat_le cap MAX_CAPACITY) range in (
        rw (word_again MAX_NAME q (omega arith) t.one)
            (rw (selection_again ranks from tag ctx few t.two t.three t.four)
            (rw (word_again MAX_CAPACITY cap (omega arith) t.five) refl)),
        (
          small_solid MAX_NAME q (omega arith) t.one,
          (
            peer_solid ranks from few t.two,
            (
              pick_solid tag t.three,
              (
                small_solid MAX_CONTEXT ctx (omega arith) t.four,
                (small_solid MAX_CAPACITY cap (omega arith) t.five, tt),
              ),
            ),
          ),
        ),
      )

  lone_again : (q : ℕ) → nat_le q MAX_NAME ≡ true → lone_of (decimal q ∷ []) ≡ Ok q
  unfolding lone_of name_of
  lone_again q range = word_again MAX_NAME q (omega arith) range

  lone_solid : (q : ℕ) → nat_le q MAX_NAME ≡ true → Solid (decimal q ∷ [])
  lone_solid q range = (small_solid MAX_NAME q (omega arith) range, tt)

  wait_again : (q : ℕ) → ReadsBack (Wait q)
  unfolding ReadsBack arguments_of
  wait_again q range bytes = (rw (lone_again q range) refl, lone_solid q range)

  test_again : (q : ℕ) → ReadsBack (Test q)
  unfolding ReadsBack arguments_of
  test_again q range bytes = (rw (lone_again q range) refl, lone_solid q range)

  cancel_again : (q : ℕ) → ReadsBack (Cancel q)
  unfolding ReadsBack arguments_of
  cancel_again q range bytes = (rw (lone_again q range) refl, lone_solid q range)

  probes : (from : Peer) (tag : TagPick) (ctx : ℕ)
      → (is_peer ranks from && is_pick tag && nat_le ctx MAX_CONTEXT) ≡ true
      → (probe_of ranks (peer_word from ∷ tag_word tag ∷ decimal ctx ∷ [])
      ≡ Ok (record { from = from; tag = tag; ctx = ctx }))
      × Solid (peer_word from ∷ tag_word tag ∷ decimal ctx ∷ [])
  unfolding probe_of
  probes from tag ctx range =
      let t = three_parts (is_peer ranks from) (is_pick tag) (nat_le ctx MAX_CONTEXT) range in (
        selection_again ranks from tag ctx few t.0 t.1 t.2,
        (
          peer_solid ranks from few t.0,
          (pick_solid tag t.1, (small_solid MAX_CONTEXT ctx (omega arith) t.2, tt)),
        ),
      )

  probe_again : (from : Peer) (tag : TagPick) (ctx : ℕ) → ReadsBack (Probe from tag ctx)
  unfolding ReadsBack arguments_of
  probe_again from tag ctx range bytes =
      let p = probes from tag ctx range in (rw p.0 refl, p.1)

  await_again : (from : Peer) (tag : TagPick) (ctx : ℕ) → ReadsBack (Await from tag ctx)
  unfolding ReadsBack arguments_of
  await_again from tag ctx range bytes =
      let p = probes from tag ctx range in (rw p.0 refl, p.1)

  mprobe_again : (m : ℕ) (from : Peer) (tag : TagPick) (ctx : ℕ) → ReadsBack (Mprobe m from tag ctx)
  unfolding ReadsBack arguments_of mprobe_of mprobe_with name_of
  mprobe_again m from tag ctx range bytes =
      let t = four_parts (nat_le m MAX_NAME) (is_peer ranks from) (is_pick tag) (nat_le ctx MAX_CONTEXT)
      range in (
        rw (word_again MAX_NAME m (omega arith) t.0)
            (rw (selection_again ranks from tag ctx few t.1 t.2 t.3) refl),
        (
          small_solid MAX_NAME m (omega arith) t.0,
          (
            peer_solid ranks from few t.1,
            (pick_solid tag t.2, (small_solid MAX_CONTEXT ctx (omega arith) t.3, tt)),
          ),
        ),
      )

  mrecv_again : (q m cap : ℕ) → ReadsBack (Mrecv q m cap)
  unfolding ReadsBack arguments_of mrecv_of mrecv_with name_of
  mrecv_again q m cap range bytes =
      let t = three_parts (nat_le q MAX_NAME) (nat_le m MAX_NAME) (nat_le cap MAX_CAPACITY) range in (
        rw (word_again MAX_NAME q (omega arith) t.0)
            (rw (word_again MAX_NAME m (omega arith) t.1)
            (rw (word_again MAX_CAPACITY cap (omega arith) t.2) refl)),
        (
          small_solid MAX_NAME q (omega arith) t.0,
          (
            small_solid MAX_NAME m (omega arith) t.1,
            (small_solid MAX_CAPACITY cap (omega arith) t.2, tt),
          ),
        ),
      )

  pub reads_back : (c : Command) → ReadsBack c
  reads_back (Send to q tag ctx sync body) = send_again q to tag ctx body sync
  reads_back (Recv q from tag ctx cap) = recv_again q from tag ctx cap
  reads_back (Wait q) = wait_again q
  reads_back (Test q) = test_again q
  reads_back (Probe from tag ctx) = probe_again from tag ctx
  reads_back (Await from tag ctx) = await_again from tag ctx
  reads_back (Cancel q) = cancel_again q
  reads_back (Mprobe m from tag ctx) = mprobe_again m from tag ctx
  reads_back (Mrecv q m cap) = mrecv_again q m cap

-- the words of a line have no space, and are read as that line
pub line_again : (ranks : ℕ) (line : Line) → ranks ≤ MAX_RANKS → Fits ranks line
    → (line_of ranks (line_words line.rank line.command) ≡ Ok line)
    × Solid (line_words line.rank line.command)
unfolding line_of command_of ReadsBack
line_again ranks line few fits =
    let r = line.rank in
    let c = line.command in
    let own = fits.own in
    let back = reads_back ranks few c fits.range fits.bytes in
    let first = list_all-append is_solid (decimal r) (58 ∷ [])
    ∙ and_from _ _ (decimal_solid r (omega arith)) refl in (
      rw (words_are c) (rw (rank_again ranks r few own)
          (rw (keyword_again (keyword_in c)) (rw back.0 refl))),
      (first, rw (words_are c) (keyword_solid (keyword_in c), back.1)),
    )

-- ---- what is read is spelled so
