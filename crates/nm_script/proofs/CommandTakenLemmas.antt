-- What is read of a line's words is spelled so.
use Rattle.std.proofs.Common.{◌≡◌, ℕ, suc, ◌+◌, ◌-◌, ◌<◌, ◌≤◌, ◌^◌, inl, inr, Bool, true, false, ◌&&◌}
use Rattle.std.proofs.Common.{List, [], ◌∷◌, ◌++◌, length, get_or, take, nat_le, nat_lt, Ok}
use Rattle.std.proofs.Common.{refl, ap, arith, eqb, codes, decimal}
use Rattle.std.specs.Option.{ok_or}
use Rattle.std.specs.Str.{bytes_eq}
use Rattle.std.proofs.lemmas.Bool.{and_parts, eqb-true, ltb-true, leb-true, lt-ltb, le-leb}
use Rattle.std.proofs.lemmas.Slice.Eq.{bytes_eq-Decides}
use Rattle.nm_types.specs.declared.limits.TheConstants.{MAX_NAME, MAX_TAG, MAX_CONTEXT}
use Rattle.nm_types.specs.declared.limits.TheConstants.{MAX_CAPACITY, MAX_BODY}
use Rattle.nm_types.specs.declared.messages.Peer.{Peer}
use Rattle.nm_types.specs.declared.messages.Peer.TheVariants as peer
use Rattle.nm_types.specs.declared.messages.TagPick.{TagPick}
use Rattle.nm_types.specs.declared.messages.TagPick.TheVariants as pick
use Rattle.nm_types.specs.declared.scripts.Body.{Body}
use Rattle.nm_types.specs.declared.scripts.Command.{Command}
use Rattle.nm_types.specs.declared.scripts.Command.TheVariants.{Send, Recv, Wait, Test, Probe}
use Rattle.nm_types.specs.declared.scripts.Command.TheVariants.{Await, Cancel, Mprobe, Mrecv}
use Rattle.nm_types.specs.declared.scripts.Line.{Line}
use Rattle.nm_types.specs.Bodies.{body_len}
use Rattle.nm_types.specs.Limits.{is_peer, is_pick, is_in_range, sent_len}
use Rattle.nm_types.specs.Text.{peer_word, tag_word, words}
use Rattle.nm_script.specs.declared.commands.Selection.{Selection}
use Rattle.nm_script.specs.declared.faults.Kind.TheVariants as kind
use Rattle.nm_script.specs.declared.keywords.Keyword.{Keyword}
use Rattle.nm_script.specs.declared.keywords.Keyword.TheVariants as key
use Rattle.nm_script.specs.Bodies.{body_of}
use Rattle.nm_script.specs.Commands.{rank_of, argument_of, name_of, peer_of, pick_of, selection_of}
use Rattle.nm_script.specs.Commands.{send_with, send_of, recv_with, recv_of, lone_of, probe_of}
use Rattle.nm_script.specs.Commands.{mprobe_with, mprobe_of, mrecv_with, mrecv_of, arguments_of}
use Rattle.nm_script.specs.Commands.{command_of, line_of}
use Rattle.nm_script.specs.Decimal.{number_of}
use Rattle.nm_script.specs.Faults.{◌>>=◌}
use Rattle.nm_script.specs.Keywords.{keyword_of, keyword_text}
use Rattle.nm_script.specs.Spelled.{has_bytes}
use Rattle.nm_script.proofs.BodyLemmas.{body_taken}
use Rattle.nm_script.proofs.KeywordLemmas.{keyword_taken}
use Rattle.nm_script.proofs.NumberLemmas.{number_taken}
use Rattle.nm_script.proofs.StepLemmas.{guard_ok, found, found_in}
use Rattle.nm_script.proofs.WordsStepLemmas.{bind_ok, chosen}
use Rattle.nm_script.proofs.StepLemmas.{three_from, four_from, five_from}
use Rattle.nm_script.proofs.CommandLemmas.{line_words, Fits, keyword_in, arguments_in, words_are}

-- the front, and the last
front_and_last : (xs : List ℕ) → 0 < length xs
    → xs ≡ take (length xs - 1) xs ++ get_or xs (length xs - 1) 0 ∷ []
front_and_last [] h = absurd (omega arith)
front_and_last (x ∷ []) h = refl
front_and_last (x ∷ y ∷ xs) h =
    let n : length (x ∷ y ∷ xs) - 1 ≡ suc (length (y ∷ xs) - 1) = omega arith in
    rw n (ap (λ t. x ∷ t) (front_and_last (y ∷ xs) (omega arith)))

pub rank_taken : (ranks r : ℕ) (word : List ℕ) → ranks ≤ 2 ^ 64 → rank_of ranks word ≡ Ok r
    → (word ≡ decimal r ++ codes ":") × (r < ranks)
unfolding rank_of
rank_taken ranks r word small h =
    let last = get_or word (length word - 1) 0 in
    let front = take (length word - 1) word in
    let p = guard_ok (nat_lt 0 (length word) && eqb last 58)
    (ok_or (number_of ranks front) kind.Rank) kind.Rank r h in
    let q = and_parts (nat_lt 0 (length word)) (eqb last 58) p.0 in
    let number = number_taken ranks r front small (found (number_of ranks front) kind.Rank r p.1) in
    let parts = front_and_last word (ltb-true 0 (length word) q.0) in
    (cc (parts, number.1, eqb-true last 58 q.1), number.0)

pub argument_taken : (limit n : ℕ) (word : List ℕ) → limit ≤ 2 ^ 64 → argument_of limit word ≡ Ok n
    → (n < limit) × (word ≡ decimal n)
unfolding argument_of
argument_taken limit n word small h = number_taken limit n word small
    (found (number_of limit word) kind.Number n h)

pub word_taken : (most n : ℕ) (word : List ℕ) → most < 2 ^ 63 → argument_of (most + 1) word ≡ Ok n
    → (nat_le n most ≡ true) × (word ≡ decimal n)
word_taken most n word small h =
    let a = argument_taken (most + 1) n word (omega arith) h in
    (le-leb n most (omega (arith, a.0)), a.1)

pub peer_taken : (ranks : ℕ) (p : Peer) (word : List ℕ) → ranks ≤ 2 ^ 64 → peer_of ranks word ≡ Ok p
    → (word ≡ peer_word p) × (is_peer ranks p ≡ true)
unfolding peer_of
peer_taken ranks p word small h =
    elim (chosen (bytes_eq word (codes "any")) (Ok peer.Any) _ (Ok p) h) [
      | inl e ↦
          let is : peer.Any ≡ p = cc (e.1) in
          rw (← is) ((bytes_eq-Decides word (codes "any")).0 e.0, refl)
      | inr e ↦
          let r = bind_ok (argument_of ranks word) _ p e.1 in
          let is : peer.One r.0 ≡ p = cc (r.2) in
          let w = argument_taken ranks r.0 word small r.1 in
          rw (← is) (w.1, lt-ltb r.0 ranks w.0)
    ]

pub pick_taken : (p : TagPick) (word : List ℕ) → pick_of word ≡ Ok p
    → (word ≡ tag_word p) × (is_pick p ≡ true)
unfolding pick_of
pick_taken p word h =
    elim (chosen (bytes_eq word (codes "any")) (Ok pick.Any) _ (Ok p) h) [
      | inl e ↦
          let is : pick.Any ≡ p = cc (e.1) in
          rw (← is) ((bytes_eq-Decides word (codes "any")).0 e.0, refl)
      | inr e ↦
          let r = bind_ok (argument_of (MAX_TAG + 1) word) _ p e.1 in
          let is : pick.One r.0 ≡ p = cc (r.2) in
          let w = word_taken MAX_TAG r.0 word (omega arith) r.1 in
          rw (← is) (w.1, w.0)
    ]

-- these words are the selection's, which is in range
record IsSelected (ranks : ℕ) (from tag ctx : List ℕ) (s : Selection) : Type 0 where
  from_is : from ≡ peer_word s.from
  tag_is : tag ≡ tag_word s.tag
  ctx_is : ctx ≡ decimal s.ctx
  source : is_peer ranks s.from ≡ true
  pick : is_pick s.tag ≡ true
  context : nat_le s.ctx MAX_CONTEXT ≡ true

selection_taken : (ranks : ℕ) (s : Selection) (from tag ctx : List ℕ) → ranks ≤ 2 ^ 64
    → selection_of ranks from tag ctx ≡ Ok s → IsSelected ranks from tag ctx s
unfolding selection_of
selection_taken ranks s from tag ctx small h =
    let f = bind_ok (peer_of ranks from) _ s h in
    let t = bind_ok (pick_of tag) _ s f.2 in
    let x = bind_ok (argument_of (MAX_CONTEXT + 1) ctx) _ s t.2 in
    let is : record { from = f.0; tag = t.0; ctx = x.0 } ≡ s = cc (x.2) in
    let fw = peer_taken ranks f.0 from small f.1 in
    let tw = pick_taken t.0 tag t.1 in
    let xw = word_taken MAX_CONTEXT x.0 ctx (omega arith) x.1 in
    let made : IsSelected ranks from tag ctx (record { from = f.0; tag = t.0; ctx = x.0 }) = record {
      from_is = fw.0;
      tag_is = tw.0;
      ctx_is = xw.1;
      source = fw.1;
      pick = tw.1;
      context = xw.0;
    } in
    rw is at made

-- these words are the command's arguments, and it is in range
pub record AreArguments (ranks : ℕ) (k : Keyword) (ws : List (List ℕ)) (c : Command) : Type 0 where
  pub keyword_is : k ≡ keyword_in c
  pub arguments_are : ws ≡ arguments_in c
  pub range : is_in_range ranks c ≡ true
  pub bytes : has_bytes c ≡ true

-- the name of a send
abbrev send_key : Bool → Keyword
send_key true = key.Issend
send_key false = key.Isend

send_named : (sync : Bool) (q to tag ctx : ℕ) (body : Body)
    → send_key sync ≡ keyword_in (Send to q tag ctx sync body)
send_named true q to tag ctx body = refl
send_named false q to tag ctx body = refl

send_with_taken : (ranks : ℕ) (sync : Bool) (c : Command) (name to tag ctx body : List ℕ) → ranks ≤ 2 ^ 64
    → send_with ranks sync name to tag ctx body ≡ Ok c
    → AreArguments ranks (send_key sync) (name ∷ to ∷ tag ∷ ctx ∷ body ∷ []) c
unfolding send_with name_of
send_with_taken ranks sync c name to tag ctx body small h =
    let q = bind_ok (argument_of (MAX_NAME + 1) name) _ c h in
    let r = bind_ok (argument_of ranks to) _ c q.2 in
    let t = bind_ok (argument_of (MAX_TAG + 1) tag) _ c r.2 in
    let x = bind_ok (argument_of (MAX_CONTEXT + 1) ctx) _ c t.2 in
    let b = bind_ok (body_of body) _ c x.2 in
    let is : Send r.0 q.0 t.0 x.0 sync b.0 ≡ c = cc (b.2) in
    let qw = word_taken MAX_NAME q.0 name (omega arith) q.1 in
    let rw' = argument_taken ranks r.0 to small r.1 in
    let tw = word_taken MAX_TAG t.0 tag (omega arith) t.1 in
    let xw = word_taken MAX_CONTEXT x.0 ctx (omega arith) x.1 in
    let bw = body_taken body b.0 b.1 in
    let made : AreArguments ranks (send_key sync) (name ∷ to ∷ tag ∷ ctx ∷ body ∷ [])
    (Send r.0 q.0 t.0 x.0 sync b.0) = record {
      keyword_is = send_named sync q.0 r.0 t.0 x.0 b.0;
      arguments_are = cc (qw.1, rw'.1, tw.1, xw.1, bw.word_is);
      range = five_from (nat_le q.0 MAX_NAME) (nat_lt r.0 ranks) (nat_le t.0 MAX_TAG)
          (nat_le x.0 MAX_CONTEXT) (nat_le (body_len b.0) MAX_BODY) (record {
            one = qw.0;
            two = lt-ltb r.0 ranks rw'.0;
            three = tw.0;
            four = xw.0;
            five = le-leb (body_len b.0) MAX_BODY bw.fits;
          });
      bytes = bw.bytes;
    } in
    rw is at made

send_taken : (ranks : ℕ) (sync : Bool) (c : Command) (ws : List (List ℕ)) → ranks ≤ 2 ^ 64
    → send_of ranks sync ws ≡ Ok c → AreArguments ranks (send_key sync) ws c
unfolding send_of
send_taken ranks sync c [] small h = cc
send_taken ranks sync c (name ∷ []) small h = cc
send_taken ranks sync c (name ∷ to ∷ []) small h = cc
send_taken ranks sync c (name ∷ to ∷ tag ∷ []) small h = cc
send_taken ranks sync c (name ∷ to ∷ tag ∷ ctx ∷ []) small h = cc
send_taken ranks sync c (name ∷ to ∷ tag ∷ ctx ∷ body ∷ []) small h = send_with_taken ranks sync c
    name to tag ctx body small h
send_taken ranks sync c (name ∷ to ∷ tag ∷ ctx ∷ body ∷ x ∷ more) small h = cc

recv_with_taken : (ranks : ℕ) (c : Command) (name from tag ctx cap : List ℕ) → ranks ≤ 2 ^ 64
    → recv_with ranks name from tag ctx cap ≡ Ok c
    → AreArguments ranks key.Irecv (name ∷ from ∷ tag ∷ ctx ∷ cap ∷ []) c
unfolding recv_with name_of
recv_with_taken ranks c name from tag ctx cap small h =
    let q = bind_ok (argument_of (MAX_NAME + 1) name) _ c h in
    let s = bind_ok (selection_of ranks from tag ctx) _ c q.2 in
    let n = bind_ok (argument_of (MAX_CAPACITY + 1) cap) _ c s.2 in
    let is : Recv q.0 s.0.from s.0.tag s.0.ctx n.0 ≡ c = cc (n.2) in
    let qw = word_taken MAX_NAME q.0 name (omega arith) q.1 in
    let sw = selection_taken ranks s.0 from tag ctx small s.1 in
    let nw = word_taken MAX_CAPACITY n.0 cap (omega arith) n.1 in
    let made : AreArguments ranks key.Irecv (name ∷ from ∷ tag ∷ ctx ∷ cap ∷ [])
    (Recv q.0 s.0.from s.0.tag s.0.ctx n.0) = record {
      keyword_is = refl;
      arguments_are = cc (qw.1, sw.from_is, sw.tag_is, sw.ctx_is, nw.1);
      range = five_from (nat_le q.0 MAX_NAME) (is_peer ranks s.0.from) (is_pick s.0.tag)
          (nat_le s.0.ctx MAX_CONTEXT) (nat_le n.0 MAX_CAPACITY) (record {
            one = qw.0;
            two = sw.source;
            three = sw.pick;
            four = sw.context;
            five = nw.0;
          });
      bytes = refl;
    } in
    rw is at made

recv_taken : (ranks : ℕ) (c : Command) (ws : List (List ℕ)) → ranks ≤ 2 ^ 64
    → recv_of ranks ws ≡ Ok c → AreArguments ranks key.Irecv ws c
unfolding recv_of
recv_taken ranks c [] small h = cc
recv_taken ranks c (name ∷ []) small h = cc
recv_taken ranks c (name ∷ from ∷ []) small h = cc
recv_taken ranks c (name ∷ from ∷ tag ∷ []) small h = cc
recv_taken ranks c (name ∷ from ∷ tag ∷ ctx ∷ []) small h = cc
recv_taken ranks c (name ∷ from ∷ tag ∷ ctx ∷ cap ∷ []) small h = recv_with_taken ranks c name from
    tag ctx cap small h
recv_taken ranks c (name ∷ from ∷ tag ∷ ctx ∷ cap ∷ x ∷ more) small h = cc

lone_taken : (q : ℕ) (ws : List (List ℕ)) → lone_of ws ≡ Ok q
    → (nat_le q MAX_NAME ≡ true) × (ws ≡ decimal q ∷ [])
unfolding lone_of name_of
lone_taken q [] h = cc
lone_taken q (name ∷ []) h =
    let w = word_taken MAX_NAME q name (omega arith) h in (w.0, ap (λ x. x ∷ []) w.1)
lone_taken q (name ∷ x ∷ more) h = cc

-- these words are the arguments of a probe with this selection
record IsProbe (ranks : ℕ) (ws : List (List ℕ)) (s : Selection) : Type 0 where
  words_are : ws ≡ peer_word s.from ∷ tag_word s.tag ∷ decimal s.ctx ∷ []
  range : (is_peer ranks s.from && is_pick s.tag && nat_le s.ctx MAX_CONTEXT) ≡ true

probe_taken : (ranks : ℕ) (s : Selection) (ws : List (List ℕ)) → ranks ≤ 2 ^ 64
    → probe_of ranks ws ≡ Ok s → IsProbe ranks ws s
unfolding probe_of
probe_taken ranks s [] small h = cc
probe_taken ranks s (from ∷ []) small h = cc
probe_taken ranks s (from ∷ tag ∷ []) small h = cc
probe_taken ranks s (from ∷ tag ∷ ctx ∷ []) small h =
    let w = selection_taken ranks s from tag ctx small h in record {
      words_are = cc (w.from_is, w.tag_is, w.ctx_is);
      range = three_from (is_peer ranks s.from) (is_pick s.tag) (nat_le s.ctx MAX_CONTEXT) w.source
          w.pick w.context;
    }
probe_taken ranks s (from ∷ tag ∷ ctx ∷ x ∷ more) small h = cc

mprobe_taken : (ranks : ℕ) (c : Command) (ws : List (List ℕ)) → ranks ≤ 2 ^ 64
    → mprobe_of ranks ws ≡ Ok c → AreArguments ranks key.Mprobe ws c
unfolding mprobe_of mprobe_with name_of
mprobe_taken ranks c [] small h = cc
mprobe_taken ranks c (name ∷ []) small h = cc
mprobe_taken ranks c (name ∷ from ∷ []) small h = cc
mprobe_taken ranks c (name ∷ from ∷ tag ∷ []) small h = cc
mprobe_taken ranks c (name ∷ from ∷ tag ∷ ctx ∷ []) small h =
    let m = bind_ok (argument_of (MAX_NAME + 1) name) _ c h in
    let s = bind_ok (selection_of ranks from tag ctx) _ c m.2 in
    let is : Mprobe m.0 s.0.from s.0.tag s.0.ctx ≡ c = cc (s.2) in
    let mw = word_taken MAX_NAME m.0 name (omega arith) m.1 in
    let sw = selection_taken ranks s.0 from tag ctx small s.1 in
    let made : AreArguments ranks key.Mprobe (name ∷ from ∷ tag ∷ ctx ∷ [])
    (Mprobe m.0 s.0.from s.0.tag s.0.ctx) = record {
      keyword_is = refl;
      arguments_are = cc (mw.1, sw.from_is, sw.tag_is, sw.ctx_is);
      range = four_from (nat_le m.0 MAX_NAME) (is_peer ranks s.0.from) (is_pick s.0.tag)
          (nat_le s.0.ctx MAX_CONTEXT) mw.0 sw.source sw.pick sw.context;
      bytes = refl;
    } in
    rw is at made
mprobe_taken ranks c (name ∷ from ∷ tag ∷ ctx ∷ x ∷ more) small h = cc

mrecv_taken : (ranks : ℕ) (c : Command) (ws : List (List ℕ)) → mrecv_of ws ≡ Ok c
    → AreArguments ranks key.Mrecv ws c
unfolding mrecv_of mrecv_with name_of
mrecv_taken ranks c [] h = cc
mrecv_taken ranks c (name ∷ []) h = cc
mrecv_taken ranks c (name ∷ handle ∷ []) h = cc
mrecv_taken ranks c (name ∷ handle ∷ cap ∷ []) h =
    let q = bind_ok (argument_of (MAX_NAME + 1) name) _ c h in
    let m = bind_ok (argument_of (MAX_NAME + 1) handle) _ c q.2 in
    let n = bind_ok (argument_of (MAX_CAPACITY + 1) cap) _ c m.2 in
    let is : Mrecv q.0 m.0 n.0 ≡ c = cc (n.2) in
    let qw = word_taken MAX_NAME q.0 name (omega arith) q.1 in
    let mw = word_taken MAX_NAME m.0 handle (omega arith) m.1 in
    let nw = word_taken MAX_CAPACITY n.0 cap (omega arith) n.1 in
    let made : AreArguments ranks key.Mrecv (name ∷ handle ∷ cap ∷ []) (Mrecv q.0 m.0 n.0) = record {
      keyword_is = refl;
      arguments_are = cc (qw.1, mw.1, nw.1);
      range = three_from (nat_le q.0 MAX_NAME) (nat_le m.0 MAX_NAME) (nat_le n.0 MAX_CAPACITY) qw.0 mw.0
          nw.0;
      bytes = refl;
    } in
    rw is at made
mrecv_taken ranks c (name ∷ handle ∷ cap ∷ x ∷ more) h = cc

-- a command about one request
about_one : (ranks : ℕ) (k : Keyword) (make : ℕ → Command) (c : Command) (ws : List (List ℕ))
    → ((q : ℕ) → nat_le q MAX_NAME ≡ true → AreArguments ranks k (decimal q ∷ []) (make q))
    → (lone_of ws >>= λ q. Ok (make q)) ≡ Ok c → AreArguments ranks k ws c
about_one ranks k make c ws made h =
    let q = bind_ok (lone_of ws) _ c h in
    let is : make q.0 ≡ c = cc (q.2) in
    let w = lone_taken q.0 ws q.1 in
    let at_it : AreArguments ranks k (decimal q.0 ∷ []) (make q.0) = made q.0 w.0 in
    rw w.1 (rw is at at_it)

-- a probe
about_some : (ranks : ℕ) (k : Keyword) (make : Selection → Command) (c : Command) (ws : List (List ℕ))
    → ranks ≤ 2 ^ 64
    → ((s : Selection) → (is_peer ranks s.from && is_pick s.tag && nat_le s.ctx MAX_CONTEXT) ≡ true
    → AreArguments ranks k (peer_word s.from ∷ tag_word s.tag ∷ decimal s.ctx ∷ []) (make s))
    → (probe_of ranks ws >>= λ s. Ok (make s)) ≡ Ok c → AreArguments ranks k ws c
about_some ranks k make c ws small made h =
    let s = bind_ok (probe_of ranks ws) _ c h in
    let is : make s.0 ≡ c = cc (s.2) in
    let w = probe_taken ranks s.0 ws small s.1 in
    let at_it : AreArguments ranks k (peer_word s.0.from ∷ tag_word s.0.tag ∷ decimal s.0.ctx ∷ [])
    (make s.0) = made s.0 w.range in
    rw w.words_are (rw is at at_it)

-- arguments that are read are the command's
pub arguments_taken : (ranks : ℕ) (k : Keyword) (c : Command) (ws : List (List ℕ)) → ranks ≤ 2 ^ 64
    → arguments_of ranks k ws ≡ Ok c → AreArguments ranks k ws c
unfolding arguments_of
arguments_taken ranks key.Isend c ws small h = send_taken ranks false c ws small h
arguments_taken ranks key.Issend c ws small h = send_taken ranks true c ws small h
arguments_taken ranks key.Irecv c ws small h = recv_taken ranks c ws small h
arguments_taken ranks key.Wait c ws small h = about_one ranks key.Wait (λ q. Wait q) c ws
    (λ q range. record { keyword_is = refl; arguments_are = refl; range = range; bytes = refl }) h
arguments_taken ranks key.Test c ws small h = about_one ranks key.Test (λ q. Test q) c ws
    (λ q range. record { keyword_is = refl; arguments_are = refl; range = range; bytes = refl }) h
arguments_taken ranks key.Probe c ws small h = about_some ranks key.Probe
    (λ s. Probe s.from s.tag s.ctx) c ws small
    (λ s range. record { keyword_is = refl; arguments_are = refl; range = range; bytes = refl }) h
arguments_taken ranks key.Await c ws small h = about_some ranks key.Await
    (λ s. Await s.from s.tag s.ctx) c ws small
    (λ s range. record { keyword_is = refl; arguments_are = refl; range = range; bytes = refl }) h
arguments_taken ranks key.Cancel c ws small h = about_one ranks key.Cancel (λ q. Cancel q) c ws
    (λ q range. record { keyword_is = refl; arguments_are = refl; range = range; bytes = refl }) h
arguments_taken ranks key.Mprobe c ws small h = mprobe_taken ranks c ws small h
arguments_taken ranks key.Mrecv c ws small h = mrecv_taken ranks c ws h

-- these words are the command's, which is in range
pub record AreWords (ranks : ℕ) (ws : List (List ℕ)) (c : Command) : Type 0 where
  pub words_are : ws ≡ words c
  pub range : is_in_range ranks c ≡ true
  pub bytes : has_bytes c ≡ true

command_taken : (ranks : ℕ) (c : Command) (name : List ℕ) (ws : List (List ℕ)) → ranks ≤ 2 ^ 64
    → command_of ranks name ws ≡ Ok c → AreWords ranks (name ∷ ws) c
unfolding command_of
command_taken ranks c name ws small h =
    let k = bind_ok (ok_or (keyword_of name) kind.Command) _ c h in
    let word : name ≡ keyword_text k.0 = keyword_taken name k.0
    (found_in (keyword_of name) kind.Command k.0 k.1) in
    let a = arguments_taken ranks k.0 c ws small k.2 in
    let same : keyword_text k.0 ≡ keyword_text (keyword_in c) = ap keyword_text a.keyword_is in
    record {
      words_are = cc (word, same, a.arguments_are, words_are c);
      range = a.range;
      bytes = a.bytes;
    }

-- these words are the line's, which fits
pub record AreLineWords (ranks : ℕ) (ws : List (List ℕ)) (line : Line) : Type 0 where
  pub words_are : ws ≡ line_words line.rank line.command
  pub fits : Fits ranks line

-- words that are read are the line's
pub line_taken : (ranks : ℕ) (ws : List (List ℕ)) (line : Line) → ranks ≤ 2 ^ 64
    → line_of ranks ws ≡ Ok line → AreLineWords ranks ws line
unfolding line_of
line_taken ranks [] line small h = cc
line_taken ranks (first ∷ []) line small h = let p = bind_ok (rank_of ranks first) _ line h in cc (p.2)
line_taken ranks (first ∷ name ∷ ws) line small h =
    let p = bind_ok (rank_of ranks first) _ line h in
    let q = bind_ok (command_of ranks name ws) _ line p.2 in
    let r = rank_taken ranks p.0 first small p.1 in
    let c = command_taken ranks q.0 name ws small q.1 in
    let is : record { rank = p.0; command = q.0 } ≡ line = cc (q.2) in
    let made : AreLineWords ranks (first ∷ name ∷ ws) (record { rank = p.0; command = q.0 }) =
    record {
      words_are = cc (r.0, c.words_are);
      fits = record { own = r.1; range = c.range; bytes = c.bytes };
    } in
    rw is at made

-- no command in range has too long a body
pub sent_fits : (ranks : ℕ) (c : Command) → is_in_range ranks c ≡ true → sent_len c ≤ MAX_BODY
sent_fits ranks (Send to q tag ctx sync body) range = leb-true (body_len body) MAX_BODY
    (and_parts (nat_le q MAX_NAME && nat_lt to ranks && nat_le tag MAX_TAG && nat_le ctx MAX_CONTEXT)
    (nat_le (body_len body) MAX_BODY) range).1
sent_fits ranks (Recv q from tag ctx cap) range = omega arith
sent_fits ranks (Wait q) range = omega arith
sent_fits ranks (Test q) range = omega arith
sent_fits ranks (Probe from tag ctx) range = omega arith
sent_fits ranks (Await from tag ctx) range = omega arith
sent_fits ranks (Cancel q) range = omega arith
sent_fits ranks (Mprobe m from tag ctx) range = omega arith
sent_fits ranks (Mrecv q m cap) range = omega arith
