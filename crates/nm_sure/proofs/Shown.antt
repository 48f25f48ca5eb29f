-- What a send, a receive and an answer of a lawful run have of the commands that call for them.
use Rattle.std.proofs.Common.{◌≡◌, ℕ, ◌==◌, Bool, true, false, cond, zero, suc, Some}
use Rattle.std.proofs.Common.{List, [], ◌∷◌, length, refl, sym, ◌∙◌, ap, subst, arith}
use Rattle.std.specs.Prelude.{replicate}
use Rattle.std.specs.List.{slice_get}
use Rattle.std.proofs.lemmas.Bool.{false≢true}
use Rattle.nm_types.specs.declared.answers.Answer.{Answer}
use Rattle.nm_types.specs.declared.answers.Answer.TheVariants as answer
use Rattle.nm_types.specs.declared.messages.Peer.TheVariants as peer
use Rattle.nm_types.specs.declared.messages.Post as post
use Rattle.nm_types.specs.declared.messages.TagPick.TheVariants as pick
use Rattle.nm_types.specs.declared.scripts.Command.{Command}
use Rattle.nm_types.specs.declared.scripts.Command.TheVariants as command
use Rattle.nm_types.specs.Bodies.{HaveTheirLength}
use Rattle.nm_types.specs.Commands.{Numbered, command_at}
use Rattle.nm_history.specs.declared.events.Event.{Event}
use Rattle.nm_history.specs.declared.events.Happened.{Happened}
use Rattle.nm_history.specs.declared.events.Happened.TheVariants as event
use Rattle.nm_history.specs.Answers.{without_bytes}
use Rattle.nm_history.specs.RankRun.{start_of}
use Rattle.nm_history.specs.Sends.{Sent, sends, sent_bytes}
use Rattle.nm_report.specs.Summary.{is_got}
use Rattle.nm_sure.proofs.Fitting.{EachFits, Fits}
use Rattle.nm_sure.proofs.Floor.{is_sending}
use Rattle.nm_sure.proofs.Worlds.{fits}
use Rattle.nm_types.proofs.OptionLemmas.{no_some, same_some}

-- a send of a history is one that a command calls for
pub sent_fits : (eager : ℕ) (commands : List Numbered) (h : List Event) (to k : ℕ) (s : Sent) →
    EachFits eager commands h →
    slice_get (sends h to) k ≡ Some s → Fits eager commands (event.Send s.to s.n s.tag s.ctx s.len s.how s.line)
sent_fits eager commands [] to k s fits here = absurd (no_some s here)
sent_fits eager commands (e ∷ h) to k s fits here =
    at_event e.stamp e.what fits.0 here (λ j there. sent_fits eager commands h to j s fits.1 there)
  where
    at_event : (stamp : ℕ) (what : Happened) → Fits eager commands what →
        slice_get (sends (record { stamp = stamp; what = what } ∷ h) to) k ≡ Some s →
        ((j : ℕ) → slice_get (sends h to) j ≡ Some s →
        Fits eager commands (event.Send s.to s.n s.tag s.ctx s.len s.how s.line)) →
        Fits eager commands (event.Send s.to s.n s.tag s.ctx s.len s.how s.line)
    at_event stamp (event.Send to' n tag ctx len how line) fit here later = by_rank (to' == to) k here later
      where
        by_rank : (b : Bool) (k : ℕ) → slice_get (cond b
            (record { stamp = stamp; to = to'; n = n; tag = tag; ctx = ctx; len = len; how = how; line = line } ∷
            sends h to) (sends h to)) k ≡ Some s →
            ((j : ℕ) → slice_get (sends h to) j ≡ Some s →
            Fits eager commands (event.Send s.to s.n s.tag s.ctx s.len s.how s.line)) →
            Fits eager commands (event.Send s.to s.n s.tag s.ctx s.len s.how s.line)
        by_rank true zero here later =
            subst (λ (s : Sent). Fits eager commands (event.Send s.to s.n s.tag s.ctx s.len s.how s.line))
            (same_some (record {
              stamp = stamp;
              to = to';
              n = n;
              tag = tag;
              ctx = ctx;
              len = len;
              how = how;
              line =
                  line;
            }) s here) fit
        by_rank true (suc k) here later = later k here
        by_rank false k here later = later k here
    at_event stamp what fit here later = later k here

-- a send has the length of its command's bytes
abbrev first_len : List Happened → ℕ
first_len (event.Send to n tag ctx len how line ∷ ws) = len
first_len _ = 0

pub length_sent : HaveTheirLength → (eager : ℕ) (commands : List Numbered) (s : Sent)
    (calls : Fits eager commands (event.Send s.to s.n s.tag s.ctx s.len s.how s.line)) →
    length (sent_bytes calls.command) ≡ s.len
length_sent lengths eager commands s calls =
    by_command calls.command (ap (λ (ws : List Happened). first_len ws) calls.start)
    (ap (λ (ws : List Happened). is_sending ws) calls.start)
  where
    by_command : (c : Command) → first_len (start_of eager commands [] s.line c) ≡ s.len →
        is_sending (start_of eager commands [] s.line c) ≡ true → length (sent_bytes c) ≡ s.len
    by_command (command.Send to q tag ctx sync body) len sends = lengths body ∙ len
    by_command (command.Mrecv q m cap) len sends = len
    by_command c len sends = absurd (false≢true sends)

-- a receive has the capacity of its command
abbrev first_cap : List Happened → ℕ
first_cap (event.Post p line ∷ ws) = p.cap
first_cap _ = 0

pub cap_called : (eager : ℕ) (commands : List Numbered) (l q from tag ctx cap : ℕ) (p : post.Post) →
    Fits eager commands (event.Post p l) →
    command_at commands l ≡ Some (command.Recv q (peer.One from) (pick.One tag) ctx cap) → p.cap ≡ cap
cap_called eager commands l q from tag ctx cap p calls here =
    sym (ap (λ (ws : List Happened). first_cap ws) calls.start)
    ∙ ap (λ (c : Command). first_cap (start_of eager commands [] l c))
    (same_some calls.command (command.Recv q (peer.One from) (pick.One tag) ctx cap) (sym calls.at_line ∙ here))

-- an answer whose bytes aside it shows a message of this body, and whose bytes are that body
pub got_case : (from tag : ℕ) (body : List ℕ) (a : Answer) →
    answer.Got from tag (replicate (length body) 0) ≡ without_bytes a →
    ((source t : ℕ) (bytes : List ℕ) → a ≡ answer.Got source t bytes → bytes ≡ body) → a ≡ answer.Got from tag body
got_case from tag body (answer.Got source t bytes) same shows =
    let first : from ≡ source = cc in
    let second : tag ≡ t = cc in
    rw (first, second, shows source t bytes refl) refl
got_case from tag body a same shows = absurd (grind (arith, same))

pub cut_case : (from tag len : ℕ) (a : Answer) → answer.Cut from tag len ≡ without_bytes a → a ≡ answer.Cut from tag len
cut_case from tag len (answer.Got source t bytes) same = absurd (grind (arith, same))
cut_case from tag len a same = sym same

pub answer_shown : (from tag : ℕ) (body : List ℕ) (b : Bool) (a : Answer) →
    cond b (answer.Cut from tag (length body)) (answer.Got from tag (replicate (length body) 0)) ≡ without_bytes a →
    ((source t : ℕ) (bytes : List ℕ) → a ≡ answer.Got source t bytes → bytes ≡ body) →
    a ≡ cond b (answer.Cut from tag (length body)) (answer.Got from tag body)
answer_shown from tag body true a same shows = cut_case from tag (length body) a same
answer_shown from tag body false a same shows = got_case from tag body a same shows

-- an answer that has no bytes is itself
pub plain_as_it_is : (x a : Answer) → is_got x ≡ false → x ≡ without_bytes a → a ≡ x
plain_as_it_is x (answer.Got source t bytes) silent same =
    absurd (false≢true (sym silent ∙ ap (λ (x : Answer). is_got x) same))
plain_as_it_is x a silent same = sym same
