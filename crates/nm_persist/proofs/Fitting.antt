-- In a run of sends, named receives, waits and tests each send and each receive is one that a command
-- calls for, and nothing is cancelled, recalled, claimed or received by a handle.
use Rattle.std.proofs.Common.{◌≡◌, ℕ, Bool, true, false, ◌&&◌, cond, Option, Some, None, List, [], ◌∷◌}
use Rattle.std.proofs.Common.{◌++◌, map, refl, sym, subst, arith, append-nil, append_assoc}
use Rattle.std.specs.Prelude.{IsSomeAnd, MatchOption}
use Rattle.std.specs.List.{filter, filter_map}
use Rattle.std.specs.Option.{option_map_or}
use Rattle.std.proofs.lemmas.Bool.{false≢true}
use Rattle.nm_types.specs.declared.answers.Answer.{Answer}
use Rattle.nm_types.specs.declared.scripts.Command.{Command}
use Rattle.nm_types.specs.declared.scripts.Command.TheVariants as command
use Rattle.nm_types.specs.Commands.{Numbered, command_at}
use Rattle.nm_history.specs.declared.events.Event.{Event}
use Rattle.nm_history.specs.declared.events.Happened.{Happened}
use Rattle.nm_history.specs.declared.events.Happened.TheVariants as event
use Rattle.nm_history.specs.AtEach.{AtEach, AtEachAfter}
use Rattle.nm_history.specs.Answers.{answer_of, is_seen, is_started, without_bytes}
use Rattle.nm_history.specs.RankRun.{AnswerAt, CancelAt, CancelsFor, ClaimAt, StartAt, IsRankRun}
use Rattle.nm_history.specs.RankRun.{cancels_since, claims_since, starts_since, since_after, since_command}
use Rattle.nm_history.specs.RankRun.{is_cancelling, is_matched_probe, is_start, line_of_claim, start_of, without_number}
use Rattle.nm_history.proofs.RankRunLemmas.{since-push}
use Rattle.nm_sure.proofs.Fitting.{AllFit, EachFits, Fits}
use Rattle.nm_persist.specs.Names.{is_named}
use Rattle.nm_types.specs.declared.messages.Peer.TheVariants as peer
use Rattle.nm_types.specs.declared.messages.TagPick.TheVariants as pick
use Rattle.nm_types.proofs.ListLemmas.{all_split}

-- each command that stands at a line is one of these
abbrev pub AreNamedLines : List Numbered → Type 0
AreNamedLines commands = (line : ℕ) (c : Command) → command_at commands line ≡ Some c → is_named c ≡ true

module _ (eager : ℕ) (commands : List Numbered) (named : AreNamedLines commands) where
  all_fit : (ws : List Happened) → filter is_cancelling ws ≡ [] → filter_map line_of_claim ws ≡ [] →
      AllFit eager commands (map without_number (filter is_start ws)) → AllFit eager commands ws
  all_fit [] cancels claims fits = tt
  all_fit (event.Send to n tag ctx len how line ∷ ws) cancels claims fits = (fits.0, all_fit ws cancels claims fits.1)
  all_fit (event.Post p line ∷ ws) cancels claims fits = (fits.0, all_fit ws cancels claims fits.1)
  all_fit (event.Match number from n cap line ∷ ws) cancels claims fits = absurd fits.0
  all_fit (event.Cancel number done ∷ ws) cancels claims fits = absurd (grind arith)
  all_fit (event.Recall to n ∷ ws) cancels claims fits = absurd (grind arith)
  all_fit (event.Claim from n line ∷ ws) cancels claims fits = absurd (grind arith)
  all_fit (event.Arrive a ∷ ws) cancels claims fits = (tt, all_fit ws cancels claims fits)
  all_fit (event.Whole from n ∷ ws) cancels claims fits = (tt, all_fit ws cancels claims fits)
  all_fit (event.Out to n ∷ ws) cancels claims fits = (tt, all_fit ws cancels claims fits)
  all_fit (event.Withdraw from n done ∷ ws) cancels claims fits = (tt, all_fit ws cancels claims fits)
  all_fit (event.Undone to n done ∷ ws) cancels claims fits = (tt, all_fit ws cancels claims fits)
  all_fit (event.Ran line a ∷ ws) cancels claims fits = (tt, all_fit ws cancels claims fits)

  starts_fit : (h : List Event) (line : ℕ) (c : Command) → command_at commands line ≡ Some c → is_named c ≡ true →
      (b : Bool) → AllFit eager commands (cond b (start_of eager commands h line c) [])
  starts_fit h line (command.Send to q tag ctx sync body) at' plain true =
      (record { command = command.Send to q tag ctx sync body; at_line = at'; plain = refl; start = refl }, tt)
  starts_fit h line (command.Recv q (peer.One from) (pick.One tag) ctx cap) at' plain true = (
    record {
      command = command.Recv q (peer.One from) (pick.One tag) ctx cap;
      at_line = at';
      plain = refl;
      start =
          refl;
    },
    tt,
  )
  starts_fit h line (command.Recv q (peer.One from) pick.Any ctx cap) at' plain true = absurd (false≢true plain)
  starts_fit h line (command.Recv q peer.Any tag ctx cap) at' plain true = absurd (false≢true plain)
  starts_fit h line (command.Wait q) at' plain true = tt
  starts_fit h line (command.Test q) at' plain true = tt
  starts_fit h line (command.Probe from tag ctx) at' plain true = tt
  starts_fit h line (command.Await from tag ctx) at' plain true = tt
  starts_fit h line (command.Cancel q) at' plain true = tt
  starts_fit h line (command.Mprobe m from tag ctx) at' plain true = tt
  starts_fit h line (command.Mrecv q m cap) at' plain true = absurd (false≢true plain)
  starts_fit h line c at' plain false = tt

  none_cancelled : (h : List Event) (c : Command) → is_named c ≡ true → CancelsFor commands h c → cancels_since h ≡ []
  none_cancelled h (command.Cancel q) plain none = absurd (false≢true plain)
  none_cancelled h c plain none = none

  none_claimed : (line : ℕ) (c : Command) (b : Bool) → is_named c ≡ true → (cs : List ℕ) →
      cs ≡ cond (is_matched_probe c && b) (line ∷ []) [] → cs ≡ []
  none_claimed line (command.Mprobe m from tag ctx) b plain cs none = absurd (false≢true plain)
  none_claimed line c b plain cs none = none

  -- what stands since the last answer fits where the next answer comes
  since_fits : (h : List Event) (line : ℕ) (a : Answer) → AnswerAt commands h (event.Ran line a) →
      StartAt eager commands h (event.Ran line a) → CancelAt commands h (event.Ran line a) →
      ClaimAt commands h (event.Ran line a) → AllFit eager commands (since_command h)
  since_fits h line a answer start cancel claim =
      by_command (command_at commands line) refl answer start.0 cancel claim
    where
      by_command : (o : Option Command) → command_at commands line ≡ o →
          IsSomeAnd o (λ c. answer_of commands h line c ≡ Some (without_bytes a)) →
          map without_number (starts_since h) ≡ cond (is_started a)
          (option_map_or (start_of eager commands h line) o []) [] →
          MatchOption o (cancels_since h ≡ []) (CancelsFor commands h) →
          claims_since h ≡ cond (option_map_or is_matched_probe o false && is_seen a) (line ∷ []) [] →
          AllFit eager commands (since_command h)
      by_command None at' answer start cancel claim = absurd answer
      by_command (Some c) at' answer start cancel claim =
          all_fit (since_command h) (none_cancelled h c (named line c at') cancel)
          (none_claimed line c (is_seen a) (named line c at') (claims_since h) claim)
          (subst (λ (ws : List Happened). AllFit eager commands ws) (sym start)
          (starts_fit h line c at' (named line c at') (is_started a)))

  fits_step : (h : List Event) (stamp : ℕ) (what : Happened) → AnswerAt commands h what →
      StartAt eager commands h what → CancelAt commands h what → ClaimAt commands h what →
      AllFit eager commands (since_after (since_command h) what) →
      AllFit eager commands (since_command h) × Fits eager commands what
  fits_step h stamp (event.Ran line a) answer start cancel claim later =
      (since_fits h line a answer start cancel claim, tt)
  fits_step h stamp what answer start cancel claim later =
      let parts = all_split (λ w. Fits eager commands w) (since_command h) (what ∷ []) later in (parts.0, parts.1.0)

  fits_after : (before events : List Event) → AtEachAfter (λ b e. AnswerAt commands b e.what) before events →
      AtEachAfter (λ b e. StartAt eager commands b e.what) before events →
      AtEachAfter (λ b e. CancelAt commands b e.what) before events →
      AtEachAfter (λ b e. ClaimAt commands b e.what) before events →
      AllFit eager commands (since_command (before ++ events)) →
      AllFit eager commands (since_command before) × EachFits eager commands events
  fits_after before [] answers starts cancels claims last =
      (subst (λ (h : List Event). AllFit eager commands (since_command h)) (append-nil before) last, tt)
  fits_after before (e ∷ events) answers starts cancels claims last =
      let later = fits_after (before ++ e ∷ []) events answers.1 starts.1 cancels.1 claims.1
      (subst (λ (h : List Event). AllFit eager commands (since_command h)) (sym (append_assoc before (e ∷ []) events))
      last) in
      let now = fits_step before e.stamp e.what answers.0 starts.0 cancels.0 claims.0
      (subst (λ (ws : List Happened). AllFit eager commands ws) (since-push before e) later.0) in
      (now.0, (now.1, later.1))

  pub run_fits : (ranks cells at : ℕ) (h : List Event) →
      IsRankRun (record { ranks = ranks; cells = cells; eager = eager }) commands at h → EachFits eager commands h
  unfolding AtEach
  run_fits ranks cells at h run =
      (fits_after [] h run.answers.right run.starts.made run.cancels.made run.claims.made
      (all_fit (since_command h) run.cancels.no_others run.claims.no_others
      (subst (λ (ws : List Happened). AllFit eager commands (map without_number ws)) (sym run.starts.no_others) tt))).1
