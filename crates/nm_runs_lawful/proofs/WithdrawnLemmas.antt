-- What a withdrawal changes of a place, and where a request has its place. MPI 3.1, 3.7.2, 3.8.4.
use Rattle.std.proofs.Common.{◌≡◌, ℕ, ◌-◌, ◌==◌, ◌&&◌, ◌||◌, Bool, true, false, cond, Option}
use Rattle.std.proofs.Common.{Some, None}
use Rattle.std.proofs.Common.{List, [], ◌++◌, refl, sym, ap, subst, append-nil}
use Rattle.std.specs.Prelude.{option_and_then}
use Rattle.std.specs.List.{list_any}
use Rattle.nm_types.specs.declared.scripts.Line.{Line}
use Rattle.nm_types.specs.Commands.{Numbered, command_at, commands_of}
use Rattle.nm_types.proofs.OptionLemmas.{no_some, same_some}
use Rattle.nm_history.specs.declared.events.Happened.{Happened}
use Rattle.nm_history.specs.declared.events.Happened.TheVariants as event
use Rattle.nm_history.proofs.Basic.{or_false}
use Rattle.nm_outcomes.specs.Logs.{Step}
use Rattle.nm_outcomes.specs.Paths.{moved}
use Rattle.nm_outcomes.specs.Places.{RankPoint, after}
use Rattle.nm_lawful.specs.declared.messages.Request.{Request}
use Rattle.nm_runs_lawful.specs.Stands.{is_live_at}
use Rattle.nm_runs_lawful.specs.Stands.{is_match_of, is_matched_now, line_of, name_of}
use Rattle.nm_runs_lawful.specs.Stands.{request_by, standing_of}
use Rattle.nm_runs_lawful.proofs.AlikeLemmas.{live_request, started_at}
use Rattle.nm_runs_lawful.proofs.QuietLemmas.{first_alone, live_still}

-- what a withdrawal changes of a place
pub record WithdrawnAlike (own : Bool) (from n : ℕ) (p q : RankPoint) : Type 0 where
  pub live : (name line : ℕ) → is_live_at q name line ≡ is_live_at p name line
  pub handled : (m : ℕ) → q.handled m ≡ p.handled m
  pub matched : (f k : ℕ) → is_matched_now q f k ≡ is_matched_now p f k
  pub known : (f k : ℕ) → q.known f k ≡ p.known f k
  pub pairs : (number : ℕ) → q.pairs number ≡ p.pairs number
  pub off : (number : ℕ) → q.off number ≡ p.off number
  pub taken : (f k : ℕ) → q.taken f k ≡ p.taken f k
  pub withdrawn : (f k : ℕ) → q.withdrawn f k ≡ (p.withdrawn f k || (own && (from == f && n == k)))
  pub recalled : (to k : ℕ) → q.recalled to k ≡ p.recalled to k
  pub lines : (to : ℕ) → q.lines to ≡ p.lines to

withdrawn_own : (me : ℕ) (commands : List Numbered) (p : RankPoint) (from n : ℕ) →
    WithdrawnAlike true from n p (after me commands p (event.Withdraw from n true))
withdrawn_own me commands p from n = record {
  live = λ q line. live_still p q line (p.begun ++ []) (append-nil p.begun);
  handled = λ m. refl;
  matched = λ f k. ap (λ (ws : List Happened). list_any (is_match_of f k) ws) (append-nil p.begun);
  known = λ f k. first_alone (p.known f k);
  pairs = λ number. first_alone (p.pairs number);
  off = λ number. or_false (p.off number);
  taken = λ f k. or_false (p.taken f k);
  withdrawn = λ f k. ap (λ (b : Bool). p.withdrawn f k || b) (and_true (from == f && n == k));
  recalled = λ to k. or_false (p.recalled to k);
  lines = λ to. append-nil (p.lines to);
}
  where
    and_true : (b : Bool) → (b && true) ≡ b
    and_true true = refl
    and_true false = refl

pub withdrawn_each : (lines : List Line) (w : ℕ → RankPoint) (s : Step) (from n : ℕ) →
    s.event.what ≡ event.Withdraw from n true → (r : ℕ) →
    WithdrawnAlike (s.rank == r) from n (w r) (moved lines w s r)
withdrawn_each lines w s from n withdraws r = by_rank (s.rank == r) refl
  where
    by_rank : (b : Bool) → (s.rank == r) ≡ b →
        WithdrawnAlike b from n (w r) (cond b (after r (commands_of r lines) (w r) s.event.what) (w r))
    by_rank true same =
        subst (λ (what : Happened). WithdrawnAlike true from n (w r) (after r (commands_of r lines) (w r) what))
        (sym withdraws) (withdrawn_own r (commands_of r lines) (w r) from n)
    by_rank false other = record {
      live = λ q line. refl;
      handled = λ m. refl;
      matched = λ f k. refl;
      known = λ f k. refl;
      pairs = λ number. refl;
      off = λ number. refl;
      taken = λ f k. refl;
      withdrawn = λ f k. sym (or_false ((w r).withdrawn f k));
      recalled = λ to k. refl;
      lines = λ to. refl;
    }

-- the place of a request is that of its start's line
pub request_place : (commands : List Numbered) (w : ℕ → RankPoint) (i : ℕ) (what : Happened) (r : Request) →
    request_by commands w i what ≡ Some r → (l : ℕ) × (line_of what ≡ Some l) × (r.place ≡ l - 2)
request_place commands w i what r is_one = by_line (line_of what) refl is_one
  where
    by_live : (line q : ℕ) (b : Bool) → cond b (started_at (standing_of commands w i what) line q) None ≡ Some r →
        r.place ≡ line - 2
    by_live line q true so =
        ap (λ (x : Request). x.place)
        (sym (same_some (record { q = q; place = line - 2; standing = standing_of commands w i what }) r so))
    by_live line q false so = absurd (no_some r so)

    by_name : (line : ℕ) (o : Option ℕ) →
        option_and_then (λ (q : ℕ). live_request (w i) (standing_of commands w i what) line q) o ≡ Some r →
        r.place ≡ line - 2
    by_name line None so = absurd (no_some r so)
    by_name line (Some q) so = by_live line q (is_live_at (w i) q line) so

    by_line : (o : Option ℕ) → line_of what ≡ o →
        option_and_then (λ (line : ℕ). option_and_then
        (λ (q : ℕ). live_request (w i) (standing_of commands w i what) line q)
        (option_and_then name_of (command_at commands line))) o ≡ Some r →
        (l : ℕ) × (line_of what ≡ Some l) × (r.place ≡ l - 2)
    by_line None at so = absurd (no_some r so)
    by_line (Some line) at so = (line, at, by_name line (option_and_then name_of (command_at commands line)) so)
