-- No receive that is open selects a message that is free, in the machine as in the rank. MPI 3.1, 3.5, 3.8.1.
use Rattle.std.proofs.Common.{◌≡◌, ℕ, ◌-◌, ◌&&◌, Bool, true, false, cond, Option, Some, None, List, [], ◌∷◌}
use Rattle.std.proofs.lemmas.Bool.{false≢true}
use Rattle.std.proofs.Common.{◌++◌, refl, sym, ◌∙◌, ap, subst, append_assoc}
use Rattle.std.specs.Prelude.{Contains, is_some, option_and_then}
use Rattle.std.specs.List.{AllByRecursion, cons_option, filter_map, find}
use Rattle.std.specs.Option.{option_map_or}
use Rattle.std.proofs.lemmas.List.Elements.{Contains-append_left, Contains-push, filter_map-append}
use Rattle.nm_types.specs.declared.messages.Arrival.{Arrival}
use Rattle.nm_types.specs.declared.messages.Post as post
use Rattle.nm_types.specs.declared.scripts.Line.{Line}
use Rattle.nm_types.specs.Commands.{Numbered, command_at, commands_of}
use Rattle.nm_types.specs.Sizes.{Sizes}
use Rattle.nm_types.proofs.OptionLemmas.{no_some, same_some}
use Rattle.nm_history.specs.declared.events.Event.{Event}
use Rattle.nm_history.specs.declared.events.Happened.{Happened}
use Rattle.nm_history.specs.declared.events.Happened.TheVariants as event
use Rattle.nm_history.specs.declared.plain.Pair.{Pair}
use Rattle.nm_history.specs.Matching.{is_of_receive, is_open, matched_pairs}
use Rattle.nm_history.specs.Quiescence.{Ended, Packets}
use Rattle.nm_history.specs.Selection.{matches}
use Rattle.nm_history.specs.Sends.{post_of, posts}
use Rattle.nm_history.proofs.Lasting.{by_splits}
use Rattle.nm_lookups.proofs.ReplayLemmas.{found_any}
use Rattle.nm_outcomes.specs.Logs.{Step, history_in}
use Rattle.nm_outcomes.specs.Places.{RankPoint, or_else}
use Rattle.nm_outcomes.proofs.PlaceLemmas.{find-append}
use Rattle.nm_lawful.specs.declared.messages.Request.{Request}
use Rattle.nm_lawful.specs.declared.messages.Standing.{Standing}
use Rattle.nm_lawful.specs.declared.messages.Standing.TheVariants as standing
use Rattle.nm_lawful.specs.Moves.{Report}
use Rattle.nm_lawful.specs.Ranks.{is_receiver_lem, pattern_of_lem, receiver_of_lem, selects_lem}
use Rattle.nm_lawful.specs.Replies.{pattern_lem}
use Rattle.nm_runs_lawful.specs.Stands.{IsSoFar, IsRunTold, is_live_at, line_of, message_at, name_of, rank_of}
use Rattle.nm_runs_lawful.specs.Stands.{request_by}
use Rattle.nm_runs_lawful.specs.Stands.{is_sync, standing_of, taken_by}
use Rattle.nm_runs_lawful.proofs.AlikeLemmas.{live_request}
use Rattle.nm_runs_lawful.proofs.LiveLemmas.{find_step}
use Rattle.nm_runs_lawful.proofs.OrderLemmas.{passes_found}

-- a receive that was posted is there
pub post_in : (h b : List Event) (e : Event) (t : List Event) → h ≡ b ++ e ∷ t → (p : post.Post) (line : ℕ) →
    e.what ≡ event.Post p line → Contains (posts h) p
post_in h b e t split p line at =
    subst (λ (ps : List post.Post). Contains ps p)
    (sym (ap posts split ∙ filter_map-append (λ (e : Event). post_of e.what) b (e ∷ t)
    ∙ ap (λ (what : Happened). posts b ++ cons_option (post_of what) (posts t)) at
    ∙ sym (append_assoc (posts b) (p ∷ []) (posts t))))
    (Contains-append_left (posts b ++ p ∷ []) (posts t) p (Contains-push (posts b) p))

-- the first receive that passes was posted here
pub record IsPostedFirst (test : post.Post → Bool) (h : List Event) (p : post.Post) : Type 0 where
  pub b : List Event
  pub e : Event
  pub t : List Event
  pub line : ℕ
  pub split : h ≡ b ++ e ∷ t
  pub posted : e.what ≡ event.Post p line
  pub none : find test (posts b) ≡ None

pub first_posted : (test : post.Post → Bool) (h : List Event) (p : post.Post) → find test (posts h) ≡ Some p →
    IsPostedFirst test h p
first_posted test [] p found = absurd (no_some p found)
first_posted test (e ∷ h) p found = by_event e.what refl found (first_posted test h p)
  where
    behind : (what : Happened) → e.what ≡ what →
        ((ps : List post.Post) → find test (cons_option (post_of what) ps) ≡ find test ps) →
        IsPostedFirst test h p → IsPostedFirst test (e ∷ h) p
    behind what at fails later =
        record {
          b = e ∷ later.b;
          e = later.e;
          t = later.t;
          line = later.line;
          split = ap (λ (k : List Event). e ∷ k) later.split;
          posted = later.posted;
          none = ap (λ (x : Happened). find test (cons_option (post_of x) (posts later.b))) at ∙ fails (posts later.b)
              ∙ later.none;
        }

    by_test : (x : post.Post) (line : ℕ) → e.what ≡ event.Post x line → (y : Bool) → test x ≡ y →
        cond y (Some x) (find test (posts h)) ≡ Some p →
        (find test (posts h) ≡ Some p → IsPostedFirst test h p) → IsPostedFirst test (e ∷ h) p
    by_test x line at true passes found later =
        record {
          b = [];
          e = e;
          t = h;
          line = line;
          split = refl;
          posted = at ∙ ap (λ (z : post.Post). event.Post z line) (same_some x p found);
          none = refl;
        }
    by_test x line at false fails found later =
        behind (event.Post x line) at (λ ps. ap (λ (y : Bool). cond y (Some x) (find test ps)) fails) (later found)

    by_event : (what : Happened) → e.what ≡ what → find test (cons_option (post_of what) (posts h)) ≡ Some p →
        (find test (posts h) ≡ Some p → IsPostedFirst test h p) → IsPostedFirst test (e ∷ h) p
    by_event (event.Post x line) at found later = by_test x line at (test x) refl found later
    by_event what at found later = behind what at (λ ps. refl) (later found)

module _ (shape : Sizes) (lines : List Line) (ranks : List Ended) (packets : List Packets) (told : Report)
    (is : IsRunTold shape lines ranks packets told) (before : List Step) (later : List Step)
    (w : ℕ → RankPoint) (next : IsSoFar shape lines ranks before later w) (i : ℕ)
  where
    abbrev commands : List Numbered
    commands = commands_of i lines

    abbrev h : List Event
    h = history_in before i

    -- the standing of a request is that of its start
    pub stands_so : (what : Happened) (r : Request) → request_by commands w i what ≡ Some r →
        r.standing ≡ standing_of commands w i what
    stands_so what r is_one = by_line (line_of what) is_one
      where
        by_live : (line q : ℕ) (b : Bool) →
            cond b (Some (record { q = q; place = line - 2; standing = standing_of commands w i what })) None ≡ Some r →
            r.standing ≡ standing_of commands w i what
        by_live line q true so =
            ap (λ (x : Request). x.standing)
            (sym (same_some (record { q = q; place = line - 2; standing = standing_of commands w i what }) r so))
        by_live line q false so = absurd (no_some r so)

        by_name : (line : ℕ) (o : Option ℕ) →
            option_and_then (λ (q : ℕ). live_request (w i) (standing_of commands w i what) line q) o ≡ Some r →
            r.standing ≡ standing_of commands w i what
        by_name line None so = absurd (no_some r so)
        by_name line (Some q) so = by_live line q (is_live_at (w i) q line) so

        by_line : (o : Option ℕ) →
            option_and_then (λ (line : ℕ). option_and_then
            (λ (q : ℕ). live_request (w i) (standing_of commands w i what) line q)
            (option_and_then name_of (command_at commands line))) o ≡ Some r →
            r.standing ≡ standing_of commands w i what
        by_line None so = absurd (no_some r so)
        by_line (Some line) so = by_name line (option_and_then name_of (command_at commands line)) so

    -- an open receive that does not select the arrival is no receiver of it, and nothing else is
    module _ (a : Arrival) where
      not_selected : (what : Happened) →
          ((p : post.Post) (line : ℕ) → what ≡ event.Post p line → is_open h (matched_pairs h) p ≡ true →
          matches p.from p.tag p.ctx a.env ≡ false) →
          option_map_or (λ p. selects_lem p (message_at w i a)) (pattern_of_lem (standing_of commands w i what)) false
          ≡ false
      not_selected (event.Post p line) missed = by_off ((w i).off p.number) ((w i).pairs p.number) refl refl
        where
          by_off : (x : Bool) (o : Option Pair) → (w i).off p.number ≡ x → (w i).pairs p.number ≡ o →
              option_map_or (λ p. selects_lem p (message_at w i a)) (pattern_of_lem (cond x standing.Off
              (taken_by w i o (standing.Open (pattern_lem p.from p.tag p.ctx) p.cap)))) false ≡ false
          by_off true o off paired = refl
          by_off false (Some pair) off paired = refl
          by_off false None off paired =
              missed p line refl
              (rw (
                sym (found_any (is_of_receive p.number) (matched_pairs h))
                    ∙ ap (λ (o : Option Pair). is_some o) (sym ((next.places i).pairs p.number) ∙ paired),
                sym ((next.places i).off p.number) ∙ off,
              ) refl)
      not_selected (event.Match number from n cap line) missed = by_off ((w i).off number) ((w i).pairs number)
        where
          by_off : (x : Bool) (o : Option Pair) →
              option_map_or (λ p. selects_lem p (message_at w i a)) (pattern_of_lem (cond x standing.Off
              (taken_by w i o standing.Off))) false ≡ false
          by_off true o = refl
          by_off false None = refl
          by_off false (Some pair) = refl
      not_selected (event.Send to n tag ctx len how line) missed = by_gone ((w to).withdrawn i n) ((w i).recalled to n)
        where
          by_gone : (x y : Bool) →
              option_map_or (λ p. selects_lem p (message_at w i a)) (pattern_of_lem (cond x standing.Withdrawn
              (cond y (standing.Recalled (option_map_or is_sync
              (command_at commands line) false))
              (standing.Send (option_map_or is_sync (command_at commands line)
              false))))) false ≡ false
          by_gone true y = refl
          by_gone false true = refl
          by_gone false false = refl
      not_selected what missed = refl

      none_receives : (xs : List Event) →
          AllByRecursion (λ e. option_map_or (λ p. selects_lem p (message_at w i a))
          (pattern_of_lem (standing_of commands w i e.what)) false ≡ false) xs →
          find (λ r. is_receiver_lem (message_at w i a) r)
          (filter_map (λ (e : Event). request_by commands w i e.what) xs) ≡ None
      none_receives [] each = refl
      none_receives (e ∷ xs) each =
          find_step (λ r. is_receiver_lem (message_at w i a) r) (request_by commands w i e.what)
          (filter_map (λ (e : Event). request_by commands w i e.what) xs)
          (λ r is_one. ap (λ (st : Standing). option_map_or (λ p. selects_lem p (message_at w i a))
          (pattern_of_lem st)
          false) (stands_so e.what r is_one) ∙ each.0)
          ∙ none_receives xs each.1

      -- no open receive of the rank selects the arrival
      pub no_receiver : ((p : post.Post) → Contains (posts (history_in before i)) p →
          is_open (history_in before i) (matched_pairs (history_in before i)) p ≡ true →
          matches p.from p.tag p.ctx a.env ≡ false) →
          receiver_of_lem (rank_of lines w (history_in before) i) (message_at w i a) ≡ None
      no_receiver missed =
          none_receives h
          (by_splits (λ e. option_map_or (λ p. selects_lem p (message_at w i a))
          (pattern_of_lem (standing_of commands w i e.what)) false ≡ false) h [] h refl
          (λ b e t split. not_selected e.what (λ p line at. missed p (post_in h b e t split p line at))))

      -- an open receive that selects it
      abbrev pub selecting : post.Post → Bool
      selecting p =
          matches p.from p.tag p.ctx a.env
          && is_open (history_in before i) (matched_pairs (history_in before i)) p

      -- the first one is the oldest receiver
      pub first_receiver : (p : post.Post) (first : IsPostedFirst selecting (history_in before i) p) (r : Request) →
          request_by (commands_of i lines) w i (event.Post p first.line) ≡ Some r →
          is_receiver_lem (message_at w i a) r ≡ true →
          receiver_of_lem (rank_of lines w (history_in before) i) (message_at w i a) ≡ Some r
      first_receiver p first r is_one receives =
          ap (λ (k : List Event). find test (filter_map asks k)) first.split
          ∙ ap (λ (rs : List Request). find test rs)
          (filter_map-append asks first.b (first.e ∷ first.t)
          ∙ ap (λ (what : Happened). filter_map asks first.b
          ++ cons_option (request_by commands w i what) (filter_map asks first.t)) first.posted
          ∙ ap (λ (o : Option Request). filter_map asks first.b ++ cons_option o (filter_map asks first.t)) is_one)
          ∙ find-append test (filter_map asks first.b) (r ∷ filter_map asks first.t)
          ∙ ap (λ (o : Option Request). or_else o (find test (r ∷ filter_map asks first.t))) none_before
          ∙ ap (λ (x : Bool). cond x (Some r) (find test (filter_map asks first.t))) receives
        where
          asks : Event → Option Request
          asks e = request_by commands w i e.what

          test : Request → Bool
          test r = is_receiver_lem (message_at w i a) r

          fails : (x y : Bool) → (x && y) ≡ false → y ≡ true → x ≡ false
          fails true y none so = absurd (false≢true (sym none ∙ so))
          fails false y none so = refl

          none_before : find test (filter_map asks first.b) ≡ None
          none_before =
              none_receives first.b
              (by_splits (λ e. option_map_or (λ p. selects_lem p (message_at w i a))
              (pattern_of_lem (standing_of commands w i e.what)) false ≡ false) first.b [] first.b refl
              (λ b e t split. not_selected e.what (λ x line at opened.
              fails (matches x.from x.tag x.ctx a.env) (is_open h (matched_pairs h) x)
              (passes_found selecting (posts first.b) x first.none
              (post_in first.b b e t split x line at)) opened)))
