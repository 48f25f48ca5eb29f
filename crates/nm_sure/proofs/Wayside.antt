-- The starts of each channel, one line after another.
use Rattle.std.proofs.Common.{◌≡◌, ℕ, ◌+◌, ◌==◌, Bool, true, false, ◌&&◌, cond, Option, Some, None}
use Rattle.std.proofs.Common.{List, [], ◌∷◌, ◌++◌, map, refl, sym, ◌∙◌, ap, arith, append-nil}
use Rattle.std.specs.Prelude.{is_none, option_and_then, take}
use Rattle.std.specs.List.{filter, slice_get}
use Rattle.std.specs.Option.{option_map_or}
use Rattle.std.specs.HashMap.{HashMap, get}
use Rattle.std.specs.declared.vec.Vec.{Vec}
use Rattle.std.proofs.lemmas.Bool.{false≢true}
use Rattle.std.proofs.lemmas.Bool.Decides.{nat_tests}
use Rattle.std.proofs.lemmas.List.{map-append}
use Rattle.nm_types.specs.declared.messages.Peer.TheVariants as peer
use Rattle.nm_types.specs.declared.messages.TagPick.TheVariants as pick
use Rattle.nm_types.specs.declared.scripts.Command.{Command}
use Rattle.nm_types.specs.declared.scripts.Command.TheVariants as command
use Rattle.nm_types.specs.declared.scripts.Line.{Line}
use Rattle.nm_types.specs.Commands.{Numbered}
use Rattle.nm_history.proofs.OnceLemmas.{eqb_self}
use Rattle.nm_sure.specs.declared.partners.Way.{Way}
use Rattle.nm_sure.specs.Channels.{is_channel, receive_channel, send_channel}
use Rattle.nm_sure.specs.Held.{before, held_at, name_of}
use Rattle.nm_sure.specs.Names.{holder, started, started_after}
use Rattle.nm_sure.specs.Ways.{channel_of, lines_at, number_if, receive_lines, receive_way, same_way, send_lines}
use Rattle.nm_sure.specs.Ways.{send_way}
use Rattle.nm_sure.specs.Ways.{way_of_receive, way_of_send}
use Rattle.nm_sure.proofs.Before.{before_more, held_here, numbered, own_of}
use Rattle.nm_sure.proofs.Rising.{starts_split}
use Rattle.nm_types.proofs.NumberLemmas.{same_number}

-- the lines of one channel's starts
abbrev pub lines_by : (Command → Bool) → List Numbered → List ℕ
lines_by g commands = map (λ (c : Numbered). c.line) (filter (λ c. g c.command) (started commands))

-- those that one command more adds
abbrev pub added : (Command → Bool) → List Numbered → List Numbered → List ℕ
added g before own = map (λ (c : Numbered). c.line) (filter (λ c. g c.command) (started_after before own))

lines_push : (g : Command → Bool) (xs ys : List Numbered) → lines_by g (xs ++ ys) ≡ lines_by g xs ++ added g xs ys
lines_push g xs ys =
    ap (λ (cs : List Numbered). map (λ (c : Numbered). c.line) cs) (starts_split (λ c. g c.command) xs ys)
    ∙ map-append (λ (c : Numbered). c.line) (filter (λ c. g c.command) (started xs))
    (filter (λ c. g c.command) (started_after xs ys))

turned : (a b : ℕ) → (a == b) ≡ (b == a)
turned a b = grind (arith, nat_tests)

abbrev sends_it : Way → Command → Bool
sends_it w c = option_map_or (is_channel (channel_of w)) (send_channel w.from c) false

abbrev takes_it : Way → Command → Bool
takes_it w c = option_map_or (is_channel (channel_of w)) (receive_channel w.to c) false

same_turned : (w v : Way) → is_channel (channel_of w) (channel_of v) ≡ same_way v w
same_turned w v =
    grouped (w.from == v.from) (w.to == v.to) (w.tag == v.tag) (w.ctx == v.ctx)
    ∙ rw (turned w.from v.from, turned w.to v.to, turned w.tag v.tag, turned w.ctx v.ctx) refl
  where
    grouped : (a b c d : Bool) → (a && b && c && d) ≡ (a && (b && (c && d)))
    grouped true true c d = refl
    grouped true false c d = refl
    grouped false b c d = refl

abbrev no_number : List ℕ
no_number = []

no_numbers : (t : Bool) → no_number ≡ cond t no_number no_number
no_numbers true = refl
no_numbers false = refl

-- a start of the channel's rank that passes the test adds its number, if it is taken
one_in : (g : Command → Bool) (b : List Numbered) (n : ℕ) (c : Command) (x : Bool) → g c ≡ x → (t : Bool) →
    map (λ (c : Numbered). c.line) (filter (λ c. g c.command) (cond t (record { line = n; command = c } ∷ []) []))
    ≡ cond t (cond x (n ∷ []) []) []
one_in g b n c x is true = kept x is
  where
    kept : (x : Bool) → g c ≡ x →
        map (λ (c : Numbered). c.line) (filter (λ c. g c.command) (record { line = n; command = c } ∷ [])) ≡ cond x
        (n ∷ []) []
    kept true is = rw is refl
    kept false is = rw is refl
one_in g b n c x is false = refl

-- one of another rank adds none
none_in : (n : ℕ) (t x : Bool) → x ≡ false → no_number ≡ cond t (cond x (n ∷ []) []) []
none_in n true false same = refl
none_in n true true same = absurd (false≢true (sym same))
none_in n false x same = refl

-- nor does a command that is no start of the kind
silent_in : (g : Command → Bool) (n : ℕ) (c : Command) → g c ≡ false → (t : Bool) →
    map (λ (c : Numbered). c.line) (filter (λ c. g c.command) (cond t (record { line = n; command = c } ∷ []) []))
    ≡ cond t no_number no_number
silent_in g n c fails true = rw fails refl
silent_in g n c fails false = refl

wait_in : (g : Command → Bool) (b : List Numbered) (n q : ℕ) (t u : Bool) →
    added g b (cond t (record { line = n; command = command.Wait q } ∷ []) []) ≡ cond u no_number no_number
wait_in g b n q true true = refl
wait_in g b n q true false = refl
wait_in g b n q false true = refl
wait_in g b n q false false = refl

-- what one send more adds, where its rank is the channel's sender or not
one_send : (b : List Numbered) (n : ℕ) (w : Way) (r : ℕ) (c : Command) → (t : Bool) → (r == w.from) ≡ t →
    added (sends_it w) b (cond t (record { line = n; command = c } ∷ []) [])
    ≡ cond (is_none (option_and_then (holder b) (name_of c))) (number_if w (way_of_send r c) n) []
one_send b n w r (command.Send to q tag ctx sync body) true is =
    one_in (sends_it w) b n (command.Send to q tag ctx sync body) (same_way v w) passes (is_none (holder b q))
  where
    v : Way
    v = record { from = r; to = to; tag = tag; ctx = ctx }

    passes : is_channel (channel_of w) (record { from = w.from; to = to; tag = tag; ctx = ctx }) ≡ same_way v w
    passes =
        let same : r ≡ w.from = same_number r w.from is in
        ap (λ (f : ℕ). is_channel (channel_of w) (record { from = f; to = to; tag = tag; ctx = ctx })) (sym same)
        ∙ same_turned w v
one_send b n w r (command.Send to q tag ctx sync body) false is =
    none_in n (is_none (holder b q)) (same_way (record { from = r; to = to; tag = tag; ctx = ctx }) w) (rw is refl)
one_send b n w r (command.Recv q from tag ctx top) true is =
    silent_in (sends_it w) n (command.Recv q from tag ctx top) refl (is_none (holder b q))
one_send b n w r (command.Recv q from tag ctx top) false is = no_numbers (is_none (holder b q))
one_send b n w r (command.Wait q) t is = wait_in (sends_it w) b n q t (is_none (holder b q))
one_send b n w r c true is = refl
one_send b n w r c false is = refl

-- the starts of a rank that pass a test, up to the next line
lines_more : (g : Command → Bool) (one : ℕ → ℕ → Command → List ℕ) (own : ℕ) →
    ((b : List Numbered) (n r : ℕ) (c : Command) (t : Bool) → (r == own) ≡ t →
    added g b (cond t (record { line = n; command = c } ∷ []) [])
    ≡ cond (is_none (option_and_then (holder b) (name_of c))) (one r n c) []) →
    (lines : List Line) (k : ℕ) (line : Line) → slice_get lines k ≡ Some line →
    lines_by g (before lines (k + 1) own)
    ≡ lines_by g (before lines k own) ++ cond (is_none (held_at lines k)) (one line.rank (k + 2) line.command) []
lines_more g one own each lines k line here =
    ap (λ (cs : List Numbered). lines_by g cs) (before_more lines k own line here)
    ∙ lines_push g (before lines k own) (own_of own (k + 2) line)
    ∙ ap (λ (ls : List ℕ). lines_by g (before lines k own) ++ ls) (of_rank (line.rank == own) refl)
  where
    adds : ℕ → List ℕ
    adds r = cond (is_none (option_and_then (holder (before lines k r)) (name_of line.command)))
        (one line.rank (k + 2) line.command) []

    -- the held name is of the rank of the line
    there : (r : ℕ) → line.rank ≡ r → adds r ≡ cond (is_none (held_at lines k)) (one line.rank (k + 2) line.command) []
    there r same =
        ap (λ (i : ℕ). cond (is_none (option_and_then (holder (before lines k i)) (name_of line.command)))
        (one line.rank (k + 2) line.command) []) (sym same)
        ∙ ap (λ (o : Option ℕ). cond (is_none o) (one line.rank (k + 2) line.command) [])
        (sym (held_here lines k line here))

    of_rank : (t : Bool) → (line.rank == own) ≡ t →
        added g (before lines k own) (own_of own (k + 2) line)
        ≡ cond (is_none (held_at lines k)) (one line.rank (k + 2) line.command) []
    of_rank true is =
        ap (λ (t : Bool). added g (before lines k own) (cond t (numbered (k + 2) line ∷ []) [])) is
        ∙ each (before lines k own) (k + 2) line.rank line.command true is
        ∙ there own (same_number line.rank own is)
    of_rank false is =
        ap (λ (t : Bool). added g (before lines k own) (cond t (numbered (k + 2) line ∷ []) [])) is
        ∙ each (before lines k line.rank) (k + 2) line.rank line.command false is
        ∙ there line.rank refl

-- the sends of a channel up to the next line
pub sends_more : (lines : List Line) (k : ℕ) (line : Line) (w : Way) → slice_get lines k ≡ Some line →
    send_lines (take (k + 1) lines) w
    ≡ send_lines (take k lines) w ++ cond (is_none (held_at lines k)) (number_if w (send_way line) (k + 2)) []
sends_more lines k line w here =
    lines_more (sends_it w) (λ r n c. number_if w (way_of_send r c) n) w.from
    (λ b n r c t is. one_send b n w r c t is) lines k line here

-- what one receive more adds, where its rank is the channel's receiver or not
one_receive : (b : List Numbered) (n : ℕ) (w : Way) (r : ℕ) (c : Command) → (t : Bool) → (r == w.to) ≡ t →
    added (takes_it w) b (cond t (record { line = n; command = c } ∷ []) [])
    ≡ cond (is_none (option_and_then (holder b) (name_of c))) (number_if w (way_of_receive r c) n) []
one_receive b n w r (command.Recv q (peer.One from) (pick.One tag) ctx top) true is =
    one_in (takes_it w) b n (command.Recv q (peer.One from) (pick.One tag) ctx top) (same_way v w) passes
    (is_none (holder b q))
  where
    v : Way
    v = record { from = from; to = r; tag = tag; ctx = ctx }

    passes : is_channel (channel_of w) (record { from = from; to = w.to; tag = tag; ctx = ctx }) ≡ same_way v w
    passes =
        let same : r ≡ w.to = same_number r w.to is in
        ap (λ (f : ℕ). is_channel (channel_of w) (record { from = from; to = f; tag = tag; ctx = ctx })) (sym same)
        ∙ same_turned w v
one_receive b n w r (command.Recv q (peer.One from) (pick.One tag) ctx top) false is =
    none_in n (is_none (holder b q)) (same_way (record { from = from; to = r; tag = tag; ctx = ctx }) w)
    (apart (from == w.from) (r == w.to) (tag == w.tag && ctx == w.ctx) is)
  where
    apart : (x y z : Bool) → y ≡ false → (x && (y && z)) ≡ false
    apart true false z never = refl
    apart true true z never = absurd (false≢true (sym never))
    apart false y z never = refl
one_receive b n w r (command.Recv q from tag ctx top) true is =
    silent_in (takes_it w) n (command.Recv q from tag ctx top) refl (is_none (holder b q))
one_receive b n w r (command.Recv q from tag ctx top) false is = no_numbers (is_none (holder b q))
one_receive b n w r (command.Send to q tag ctx sync body) true is =
    silent_in (takes_it w) n (command.Send to q tag ctx sync body) refl (is_none (holder b q))
one_receive b n w r (command.Send to q tag ctx sync body) false is = no_numbers (is_none (holder b q))
one_receive b n w r (command.Wait q) t is = wait_in (takes_it w) b n q t (is_none (holder b q))
one_receive b n w r c true is = refl
one_receive b n w r c false is = refl

-- the receives of a channel up to the next line
pub receives_more : (lines : List Line) (k : ℕ) (line : Line) (w : Way) → slice_get lines k ≡ Some line →
    receive_lines (take (k + 1) lines) w
    ≡ receive_lines (take k lines) w ++ cond (is_none (held_at lines k)) (number_if w (receive_way line) (k + 2)) []
receives_more lines k line w here =
    lines_more (takes_it w) (λ r n c. number_if w (way_of_receive r c) n) w.to
    (λ b n r c t is. one_receive b n w r c t is) lines k line here

four : (a b c d : Bool) → (a && (b && (c && d))) ≡ true → (a ≡ true) × (b ≡ true) × (c ≡ true) × (d ≡ true)
four true true true true is = (refl, refl, refl, refl)
four true true true false is = absurd (false≢true is)
four true true false d is = absurd (false≢true is)
four true false c d is = absurd (false≢true is)
four false b c d is = absurd (false≢true is)

pub same_way_self : (w : Way) → same_way w w ≡ true
same_way_self w = rw (eqb_self w.from, eqb_self w.to, eqb_self w.tag, eqb_self w.ctx) refl

-- two channels that pass the test are the same
same_way_is : (v w : Way) → same_way v w ≡ true → v ≡ w
same_way_is v w is =
    let each = four (v.from == w.from) (v.to == w.to) (v.tag == w.tag) (v.ctx == w.ctx) is in
    build (same_number v.from w.from each.0) (same_number v.to w.to each.1) (same_number v.tag w.tag each.2)
    (same_number v.ctx w.ctx each.3)
  where
    build : v.from ≡ w.from → v.to ≡ w.to → v.tag ≡ w.tag → v.ctx ≡ w.ctx → v ≡ w
    build p q r s =
        ap (λ (f : ℕ). record { from = f; to = v.to; tag = v.tag; ctx = v.ctx }) p
        ∙ ap (λ (f : ℕ). record { from = w.from; to = f; tag = v.tag; ctx = v.ctx }) q
        ∙ ap (λ (f : ℕ). record { from = w.from; to = w.to; tag = f; ctx = v.ctx }) r
        ∙ ap (λ (f : ℕ). record { from = w.from; to = w.to; tag = w.tag; ctx = f }) s

-- a list that is taken out, grows by a number, and is put back
pub put_behind : {A S : Type 0} (way w : Way) (m between n : HashMap Way (Vec ℕ A) S) (v new : Vec ℕ A) (x : ℕ) →
    v.items ≡ lines_at m way → new.items ≡ v.items ++ x ∷ [] →
    get same_way between w ≡ cond (same_way way w) None (get same_way m w) →
    get same_way n w ≡ cond (same_way way w) (Some new) (get same_way between w) →
    lines_at n w ≡ lines_at m w ++ cond (same_way way w) (x ∷ []) []
put_behind {A} {S} way w m between n v new x is grown out back =
    by_test (same_way way w) refl out back
  where
    by_test : (t : Bool) → same_way way w ≡ t → get same_way between w ≡ cond t None (get same_way m w) →
        get same_way n w ≡ cond t (Some new) (get same_way between w) → lines_at n w ≡ lines_at m w ++ cond t
        (x ∷ []) []
    by_test true same out back =
        ap (λ (o : Option (Vec ℕ A)). option_map_or (λ (u : Vec ℕ A). u.items) o []) back ∙ grown
        ∙ ap (λ (ls : List ℕ). ls ++ x ∷ []) is
        ∙ ap (λ (y : Way). lines_at m y ++ x ∷ []) (same_way_is way w same)
    by_test false other out back =
        ap (λ (o : Option (Vec ℕ A)). option_map_or (λ (u : Vec ℕ A). u.items) o []) (back ∙ out)
        ∙ sym (append-nil (lines_at m w))
