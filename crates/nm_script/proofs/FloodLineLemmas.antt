-- Each line of a flood is in range and short.
use Rattle.std.proofs.Common.{◌≡◌, ℕ, ◌+◌, ◌*◌, ◌/◌, ◌%◌, ◌^◌, ◌<◌, ◌≤◌, ◌==◌, Bool, true, false, ◌&&◌, nat_lt}
use Rattle.std.proofs.Common.{length, decimal, arith, refl, lit<}
use Rattle.std.proofs.Math.Nat.{mod-lt}
use Rattle.std.proofs.lemmas.Bool.{and_from, lt-ltb, le-leb}
use Rattle.std.proofs.lemmas.Fmt.{length-decimal-le}
use Rattle.nm_types.specs.declared.limits.TheConstants.{MAX_BODY, MAX_CONTEXT, MAX_NAME, MAX_TAG}
use Rattle.nm_types.specs.declared.scripts.Body.TheVariants.{Gen}
use Rattle.nm_types.specs.declared.scripts.Command.TheVariants.{Send, Wait}
use Rattle.nm_types.specs.declared.scripts.Line.{Line}
use Rattle.nm_types.specs.Limits.{is_in_range, sent_len}
use Rattle.nm_types.specs.Text.{command_line, words}
use Rattle.nm_script.specs.Lengths.{ended_len}
use Rattle.nm_script.proofs.LengthLemmas.{command_line_len}
use Rattle.nm_script.specs.FloodScripts.{context_of, destination, length_of, receive_line, receiver_waits, send_line, sender}
use Rattle.nm_script.specs.FloodScripts.{sender_waits, tag_of}

-- a line is in range, sends at most so many bytes, and its text is short
pub record LineFits (ranks body : ℕ) (line : Line) : Type 0 where
  pub in_range : (nat_lt line.rank ranks && is_in_range ranks line.command) ≡ true
  pub sent : sent_len line.command ≤ body
  pub text : length (command_line line) ≤ 64

-- numbers below 100,000 have at most 5 digits
few_digits : (n : ℕ) → n < 100000 → length (decimal n) ≤ 5
few_digits n small =
    let fits : 100000 < 2 ^ 64 = lit< tt in
    length-decimal-le 5 n (lit< tt) small (omega (arith, small, fits))

sender_below : (ranks k : ℕ) → 1 ≤ ranks → sender ranks k < ranks
sender_below ranks k some = mod-lt k (omega arith)

destination_below : (key ranks k : ℕ) → 1 ≤ ranks → destination key ranks k < ranks
destination_below key ranks k some = mod-lt (k % ranks + k / ranks + key) (omega arith)

send_words : (q to tag ctx len : ℕ) (sync : Bool)
    → ended_len (words (Send to q tag ctx sync (Gen len)))
    ≤ 13 + length (decimal q) + length (decimal to) + length (decimal tag) + length (decimal ctx)
    + length (decimal len)
send_words q to tag ctx len true = omega arith
send_words q to tag ctx len false = omega arith

pub send_fits : (key ranks k : ℕ) → 1 ≤ ranks → ranks ≤ 64 → k < 16000
    → LineFits ranks 2048 (send_line key ranks k)
send_fits key ranks k some few small =
    let from = sender_below ranks k some in
    let to = destination_below key ranks k some in
    let tag : tag_of k < 1000 = mod-lt k (lit< tt) in
    let ctx : context_of k < 3 = mod-lt k (lit< tt) in
    let len : length_of key k < 2048 = mod-lt (331 * k + 17 * key) (lit< tt) in
    let text = command_line_len (send_line key ranks k) in
    let ws = send_words k (destination key ranks k) (tag_of k) (context_of k) (length_of key k) (k % 8 == 7) in
    record {
      in_range = and_from _ _ (lt-ltb _ _ from) (and_from _ _ (and_from _ _ (and_from _ _ (and_from _ _
          (le-leb k MAX_NAME (omega arith)) (lt-ltb _ _ to)) (le-leb (tag_of k) MAX_TAG (omega arith)))
          (le-leb (context_of k) MAX_CONTEXT (omega arith))) (le-leb (length_of key k) MAX_BODY (omega arith)));
      sent = omega arith;
      text = omega (
        arith,
        text,
        ws,
        few_digits (sender ranks k) (omega arith),
        few_digits k (omega arith),
        few_digits (destination key ranks k) (omega arith),
        few_digits (tag_of k) (omega arith),
        few_digits (context_of k) (omega arith),
        few_digits (length_of key k) (omega arith),
      );
    }

pub receive_fits : (key ranks k : ℕ) → 1 ≤ ranks → ranks ≤ 64 → k < 16000
    → LineFits ranks 0 (receive_line key ranks k)
receive_fits key ranks k some few small =
    let from = sender_below ranks k some in
    let to = destination_below key ranks k some in
    let tag : tag_of k < 1000 = mod-lt k (lit< tt) in
    let ctx : context_of k < 3 = mod-lt k (lit< tt) in
    let text = command_line_len (receive_line key ranks k) in
    record {
      in_range = and_from _ _ (lt-ltb _ _ to) (and_from _ _ (and_from _ _ (and_from _ _ (and_from _ _
          (le-leb (16384 + k) MAX_NAME (omega arith)) (lt-ltb _ _ from))
          (le-leb (tag_of k) MAX_TAG (omega arith))) (le-leb (context_of k) MAX_CONTEXT (omega arith))) refl);
      sent = omega arith;
      text = omega (
        arith,
        text,
        few_digits (destination key ranks k) (omega arith),
        few_digits (16384 + k) (omega arith),
        few_digits (sender ranks k) (omega arith),
        few_digits (tag_of k) (omega arith),
        few_digits (context_of k) (omega arith),
        few_digits 2048 (lit< tt),
      );
    }

-- a wait for a name
wait_fits : (ranks rank q : ℕ) → ranks ≤ 64 → rank < ranks → q < 65536
    → LineFits ranks 0 (record { rank = rank; command = Wait q })
wait_fits ranks rank q few own small =
    let text = command_line_len (record { rank = rank; command = Wait q }) in
    record {
      in_range = and_from _ _ (lt-ltb _ _ own) (le-leb q MAX_NAME (omega arith));
      sent = omega arith;
      text = omega (arith, text, few_digits rank (omega arith), few_digits q (omega arith));
    }

pub sender_wait_fits : (ranks k : ℕ) → 1 ≤ ranks → ranks ≤ 64 → k < 16000
    → LineFits ranks 0 (sender_waits ranks k)
sender_wait_fits ranks k some few small =
    wait_fits ranks (sender ranks k) k few (sender_below ranks k some) (omega arith)

pub receiver_wait_fits : (key ranks k : ℕ) → 1 ≤ ranks → ranks ≤ 64 → k < 16000
    → LineFits ranks 0 (receiver_waits key ranks k)
receiver_wait_fits key ranks k some few small =
    wait_fits ranks (destination key ranks k) (16384 + k) few (destination_below key ranks k some)
    (omega arith)
