-- A flood keeps the limits of a script.
use Rattle.std.proofs.Common.{◌≡◌, ℕ, ◌+◌, ◌-◌, ◌*◌, ◌^◌, ◌<◌, ◌≤◌, Bool, true, ◌&&◌, nat_lt, List, [], ◌∷◌, ◌++◌}
use Rattle.std.proofs.Common.{map, reverse, flat_map, length, codes, decimal, refl, ◌∙◌, ap, arith, lit<}
use Rattle.std.proofs.Common.{length-append, subst}
use Rattle.std.specs.List.{All, list_all, range_with_len, sum_by}
use Rattle.std.proofs.lemmas.Bool.{and_from}
use Rattle.std.proofs.lemmas.Fmt.{length-decimal-le}
use Rattle.std.proofs.lemmas.Grind.{flat_map-append}
use Rattle.std.proofs.lemmas.List.{get_or-reverse, length-map, length-reverse}
use Rattle.std.proofs.lemmas.List.Concat.{length-flat_map}
use Rattle.std.proofs.lemmas.List.Elements.{All-from_get_or, All-map, All-weaker}
use Rattle.std.proofs.lemmas.List.Folds.{list_all-append}
use Rattle.std.proofs.lemmas.List.FromFn.{get_or-range_with_len, length-range_with_len}
use Rattle.std.proofs.lemmas.List.Sums.{list_all-from_AllPass, sum_by-append, sum_by-le}
use Rattle.nm_types.specs.declared.messages.Peer.TheVariants as peer
use Rattle.nm_types.specs.declared.messages.TagPick.TheVariants as pick
use Rattle.nm_types.specs.declared.scripts.Body.{Body}
use Rattle.nm_types.specs.declared.scripts.Command.{Command}
use Rattle.nm_types.specs.declared.scripts.Command.TheVariants.{Send, Recv, Wait}
use Rattle.nm_types.specs.declared.scripts.Line.{Line}
use Rattle.nm_types.specs.Limits.{IsScript, is_in_range, sent_len}
use Rattle.nm_types.specs.Text.{command_line, text_line}
use Rattle.nm_script.proofs.LengthLemmas.{text_line_len}
use Rattle.nm_script.specs.FloodScripts.{flood_lines, receive_line, receiver_waits, send_line, sender_waits}
use Rattle.nm_script.proofs.FloodLineLemmas.{LineFits, receive_fits, receiver_wait_fits, send_fits, sender_wait_fits}

-- so many lines are in range, and send and have at most so many bytes
pub record LinesFit (ranks count bytes text_bytes : ℕ) (lines : List Line) : Type 0 where
  pub in_range : list_all (λ line. nat_lt line.rank ranks && is_in_range ranks line.command) lines ≡ true
  pub count_is : length lines ≡ count
  pub sent : sum_by (λ line. sent_len line.command) lines ≤ bytes
  pub text : length (flat_map command_line lines) ≤ text_bytes

all_fit : (ranks body : ℕ) (lines : List Line) → All (LineFits ranks body) lines
    → LinesFit ranks (length lines) (length lines * body) (length lines * 64) lines
all_fit ranks body lines each = record {
  in_range = list_all-from_AllPass _ lines (All-weaker (LineFits ranks body)
      (λ line. (nat_lt line.rank ranks && is_in_range ranks line.command) ≡ true)
      (λ line fits. fits.in_range) lines each);
  count_is = refl;
  sent = sum_by-le _ body lines (All-weaker (LineFits ranks body) (λ line. sent_len line.command ≤ body)
      (λ line fits. fits.sent) lines each);
  text =
      let texts = length-flat_map command_line lines in
      let short = sum_by-le (λ line. length (command_line line)) 64 lines (All-weaker (LineFits ranks body)
      (λ line. length (command_line line) ≤ 64) (λ line fits. fits.text) lines each) in
      omega (arith, texts, short);
}

-- the numbers of messages, in rising and in falling order
rising : (n : ℕ) → All (λ k. k < n) (range_with_len 0 n)
rising n = All-from_get_or (λ k. k < n) (range_with_len 0 n) 0 (λ i within.
    let count = length-range_with_len 0 n in
    let inside : i < n = omega (arith, count, within) in
    omega (arith, inside, get_or-range_with_len 0 n i 0 inside))

falling : (n : ℕ) → All (λ k. k < n) (reverse (range_with_len 0 n))
falling n = All-from_get_or (λ k. k < n) (reverse (range_with_len 0 n)) 0 (λ i within.
    let count = length-range_with_len 0 n in
    let inside : i < length (range_with_len 0 n) = omega (arith, within, length-reverse (range_with_len 0 n)) in
    let turned = get_or-reverse (range_with_len 0 n) i 0 inside in
    let there : length (range_with_len 0 n) - 1 - i < n = omega (arith, inside, count) in
    omega (arith, turned, there, get_or-range_with_len 0 n (length (range_with_len 0 n) - 1 - i) 0 there))

-- a line for each of so many messages
mapped : (ranks body n : ℕ) (f : ℕ → Line) (ks : List ℕ) → length ks ≡ n → All (λ k. k < n) ks
    → ((k : ℕ) → k < n → LineFits ranks body (f k)) → LinesFit ranks n (n * body) (n * 64) (map f ks)
mapped ranks body n f ks count below each =
    subst (λ (m : ℕ). LinesFit ranks m (m * body) (m * 64) (map f ks)) (length-map ks f ∙ count)
    (all_fit ranks body (map f ks) (All-map (LineFits ranks body) f ks
    (All-weaker (λ k. k < n) (λ k. LineFits ranks body (f k)) each ks below)))

-- lines behind lines
both_fit : (ranks m n b c s t : ℕ) (xs ys : List Line) → LinesFit ranks m b s xs → LinesFit ranks n c t ys
    → LinesFit ranks (m + n) (b + c) (s + t) (xs ++ ys)
both_fit ranks m n b c s t xs ys one two = record {
  in_range = list_all-append _ xs ys ∙ and_from _ _ one.in_range two.in_range;
  count_is = omega (arith, length-append xs ys, one.count_is, two.count_is);
  sent = omega (arith, sum_by-append (λ line. sent_len line.command) xs ys, one.sent, two.sent);
  text =
      let texts = ap length (flat_map-append command_line xs ys) in
      omega (arith, texts, length-append (flat_map command_line xs) (flat_map command_line ys), one.text, two.text);
}

-- the lines of a flood
flood_fits : (key ranks n : ℕ) → 1 ≤ ranks → ranks ≤ 64 → n ≤ 16000
    → LinesFit ranks (n + n + n + n) (n * 2048 + n * 0 + n * 0 + n * 0)
    (n * 64 + n * 64 + n * 64 + n * 64) (flood_lines key ranks n)
unfolding flood_lines
flood_fits key ranks n some few small =
    let up = range_with_len 0 n in
    let count = length-range_with_len 0 n in
    let below : (k : ℕ) → k < n → k < 16000 = λ k h. omega (arith, h, small) in
    let sends = mapped ranks 2048 n (send_line key ranks) up count (rising n)
    (λ k h. send_fits key ranks k some few (below k h)) in
    let receives = mapped ranks 0 n (receive_line key ranks) (reverse up) (length-reverse up ∙ count) (falling n)
    (λ k h. receive_fits key ranks k some few (below k h)) in
    let senders = mapped ranks 0 n (sender_waits ranks) up count (rising n)
    (λ k h. sender_wait_fits ranks k some few (below k h)) in
    let receivers = mapped ranks 0 n (receiver_waits key ranks) up count (rising n)
    (λ k h. receiver_wait_fits key ranks k some few (below k h)) in
    both_fit _ _ _ _ _ _ _ _ _ (both_fit _ _ _ _ _ _ _ _ _ (both_fit _ _ _ _ _ _ _ _ _ sends receives)
    senders) receivers

-- the line of the ranks
ranks_short : (ranks : ℕ) → ranks ≤ 64 → length (text_line (codes "ranks" ∷ decimal ranks ∷ [])) ≤ 9
ranks_short ranks few =
    let fits : 64 < 2 ^ 64 = lit< tt in
    let digits = length-decimal-le 2 ranks (lit< tt) (omega (arith, few)) (omega (arith, few, fits)) in
    omega (arith, text_line_len (codes "ranks") (decimal ranks ∷ []), digits)

pub flood_is_script : (key ranks messages : ℕ) → 1 ≤ ranks → ranks ≤ 64 → messages ≤ 16000
    → IsScript ranks (flood_lines key ranks messages)
flood_is_script key ranks messages some few small =
    let fits = flood_fits key ranks messages some few small in
    let lines = flood_lines key ranks messages in
    record {
      some_rank = some;
      few_ranks = few;
      few_lines = omega (arith, fits.count_is, small);
      lines_in_range = fits.in_range;
      bodies_fit = omega (arith, fits.sent, small);
      text_fits = omega (
        arith,
        fits.text,
        small,
        ranks_short ranks few,
        length-append (text_line (codes "ranks" ∷ decimal ranks ∷ [])) (flat_map command_line lines),
      );
    }

-- a test that each line of a message passes
passes : (test : Command → Bool) (f : ℕ → Line) → ((k : ℕ) → test (f k).command ≡ true) → (ks : List ℕ)
    → list_all (λ line. test line.command) (map f ks) ≡ true
passes test f each [] = refl
passes test f each (k ∷ ks) = and_from _ _ (each k) (passes test f each ks)

all_pass : (test : Command → Bool) (xs ys : List Line) → list_all (λ line. test line.command) xs ≡ true
    → list_all (λ line. test line.command) ys ≡ true → list_all (λ line. test line.command) (xs ++ ys) ≡ true
all_pass test xs ys one two = list_all-append _ xs ys ∙ and_from _ _ one two

pub flood_passes : (key ranks messages : ℕ) (test : Command → Bool)
    → ((q to tag ctx : ℕ) (body : Body) (sync : Bool) → test (Send to q tag ctx sync body) ≡ true)
    → ((q from tag ctx cap : ℕ) → test (Recv q (peer.One from) (pick.One tag) ctx cap) ≡ true)
    → ((q : ℕ) → test (Wait q) ≡ true)
    → list_all (λ line. test line.command) (flood_lines key ranks messages) ≡ true
unfolding flood_lines
flood_passes key ranks messages test sends receives waits =
    let up = range_with_len 0 messages in
    all_pass test _ _ (all_pass test _ _ (all_pass test _ _
    (passes test (send_line key ranks) (λ k. sends _ _ _ _ _ _) up)
    (passes test (receive_line key ranks) (λ k. receives _ _ _ _ _) (reverse up)))
    (passes test (sender_waits ranks) (λ k. waits _) up))
    (passes test (receiver_waits key ranks) (λ k. waits _) up)
