-- A run of programs whose calls are noted is a run of the programs.
use Rattle.std.proofs.Common.{◌≡◌, ℕ, suc, Option, Some, None, List, [], ◌∷◌, ◌++◌, length, map, refl, sym, ◌∙◌, ap, subst}
use Rattle.std.specs.List.{AllZip}
use Rattle.nm_types.specs.declared.answers.Account.{Account}
use Rattle.nm_types.specs.declared.answers.Answer.{Answer}
use Rattle.nm_types.specs.declared.packets.Packet.{Packet}
use Rattle.nm_types.specs.declared.scripts.Command.{Command}
use Rattle.nm_types.specs.Sizes.{Sizes}
use Rattle.nm_cells.specs.declared.closed.Closed.{Closed}
use Rattle.nm_copyring.specs.declared.close.RingAccount.{RingAccount}
use Rattle.nm_history.specs.Quiescence.{Ended, Packets}
use Rattle.nm_history.specs.Totals.{answers_given}
use Rattle.nm_history.specs.Run.{IsRunBy}
use Rattle.nm_process.specs.Playing.{HasPlayed}
use Rattle.nm_report.specs.declared.records.RunRecord.{RunRecord}
use Rattle.nm_report.specs.Cells.{AllCellsFree}
use Rattle.nm_report.specs.Ends.{are_done, ends_of, packets_of}
use Rattle.nm_programs.specs.declared.running.Finished.{Finished}
use Rattle.nm_programs.specs.declared.stops.Stop.{Stop}
use Rattle.nm_programs.specs.declared.stops.Stop.TheVariants.{Memory, Range}
use Rattle.nm_programs.specs.HasRun.{AreProgramsOf, HasRunTo, IsProgramOf, IsStopped, commands_in}
use Rattle.nm_programs.proofs.SoFar.{zip_at}
use Rattle.nm_transcript.specs.Transcripts.{IsRecordOf}
use Rattle.nm_noted.specs.declared.noted.Noted.{Noted}
use Rattle.nm_noted.specs.Noted.{HasRunNoted, IsFresh, bare, notes}
use Rattle.nm_noted.proofs.NotedLemmas.{played_on}

-- contracts know all calls, whatever keeps them
abbrev pub all_calls : List Command → List Command
all_calls calls = calls

module _ {P C : Type 0} (says : P → Option Answer → Option Command → P → Type 0) (calls_in : C → List Command) where
  program_of : (p : P) (start : Noted P C) (given : List Command) (rank : Ended) (left : Finished (Noted P C)) →
      IsFresh calls_in p start → IsProgramOf (notes says calls_in) start given rank left →
      IsProgramOf says p given rank (bare left) × (calls_in left.program.calls ≡ given)
  program_of p start given rank left fresh is =
      let on =
      played_on says calls_in start (answers_given rank.events) left.program left.waits given fresh.none is.played in (
        record {
          played = subst (λ (q : P). HasPlayed says q (answers_given rank.events) left.program.program left.waits given)
              fresh.program on.0;
          counted = is.counted;
          waits = is.waits;
        },
        on.1,
      )

  programs_of : (programs : List P) (starts : List (Noted P C)) (given : List (List Command)) (ranks : List Ended)
      (left : List (Finished (Noted P C))) → AllZip (IsFresh calls_in) programs starts →
      AreProgramsOf (notes says calls_in) starts given ranks left →
      AreProgramsOf says programs given ranks (map bare left)
      × (given ≡ map (λ (f : Finished (Noted P C)). calls_in f.program.calls) left)
  programs_of [] (n ∷ starts) given ranks left fresh are = absurd fresh
  programs_of (p ∷ programs) [] given ranks left fresh are = absurd fresh
  programs_of [] [] [] [] [] fresh are = (tt, refl)
  programs_of [] [] [] [] (f ∷ left) fresh are = absurd are
  programs_of [] [] [] (e ∷ ranks) left fresh are = absurd are
  programs_of [] [] (xs ∷ given) ranks left fresh are = absurd are
  programs_of (p ∷ programs) (n ∷ starts) [] ranks left fresh are = absurd are
  programs_of (p ∷ programs) (n ∷ starts) (xs ∷ given) [] left fresh are = absurd are
  programs_of (p ∷ programs) (n ∷ starts) (xs ∷ given) (e ∷ ranks) [] fresh are = absurd are
  programs_of (p ∷ programs) (n ∷ starts) (xs ∷ given) (e ∷ ranks) (f ∷ left) fresh are =
      let here = program_of p n xs e f fresh.0 are.0 in
      let rest = programs_of programs starts given ranks left fresh.1 are.1 in (
        (here.0, rest.0),
        ap (λ (ys : List Command). ys ∷ given) (sym here.1)
            ∙ ap (λ (yss : List (List Command)). calls_in f.program.calls ∷ yss) rest.1,
      )

  -- so they ran, and what they gave is what is noted
  pub ran_of : (shape : Sizes) (programs : List P) (starts : List (Noted P C)) (left : List (Finished (Noted P C)))
      (ranks : List (Finished P)) (ends : List Ended) (packets : List Packets) (account : Account)
      (cells : Closed Packet) (rings : RingAccount) → AllZip (IsFresh calls_in) programs starts →
      ranks ≡ map bare left → HasRunTo (notes says calls_in) shape starts left ends packets account cells rings →
      (ran : HasRunTo says shape programs ranks ends packets account cells rings)
      × (ran.given ≡ map (λ (f : Finished (Noted P C)). calls_in f.program.calls) left)
  ran_of shape programs starts left ranks ends packets account cells rings fresh ranks_are ran =
      let on = programs_of programs starts ran.given ends left fresh ran.each in (
        record {
          given = ran.given;
          each = subst (λ (fs : List (Finished P)). AreProgramsOf says programs ran.given ends fs) (sym ranks_are) on.0;
          in_range = ran.in_range;
          whole = ran.whole;
        },
        on.1,
      )

  -- why a run stopped
  pub stopped_so : (n : ℕ) (programs : List P) (starts : List (Noted P C)) (why : Stop) →
      AllZip (IsFresh calls_in) programs starts → IsStopped (notes says calls_in) n starts why →
      IsStopped says n programs why
  stopped_so n programs starts Memory fresh stopped = tt
  stopped_so n programs starts (Range rank command) fresh stopped =
      let at = zip_at (IsFresh calls_in) programs starts rank stopped.start fresh stopped.is in
      let on =
      played_on says calls_in stopped.start stopped.told stopped.left (Some command) (stopped.given ++ command ∷ [])
      at.2.none stopped.played in
      record {
        start = at.0;
        is = at.1;
        told = stopped.told;
        given = stopped.given;
        left = stopped.left.program;
        played = subst (λ (q : P). HasPlayed says q stopped.told stopped.left.program (Some command)
            (stopped.given ++ command ∷ [])) at.2.program on.0;
        ran = stopped.ran;
        never = stopped.never;
      }

module _ {P : Type 0} (says : P → Option Answer → Option Command → P → Type 0) where
  -- as many lists of calls as ranks
  pub as_many : (programs : List P) (given : List (List Command)) (ranks : List Ended) (left : List (Finished P)) →
      AreProgramsOf says programs given ranks left → length given ≡ length ranks
  as_many [] [] [] [] are = refl
  as_many [] [] [] (f ∷ left) are = absurd are
  as_many [] [] (e ∷ ranks) left are = absurd are
  as_many [] (xs ∷ given) ranks left are = absurd are
  as_many (p ∷ programs) [] ranks left are = absurd are
  as_many (p ∷ programs) (xs ∷ given) [] left are = absurd are
  as_many (p ∷ programs) (xs ∷ given) (e ∷ ranks) [] are = absurd are
  as_many (p ∷ programs) (xs ∷ given) (e ∷ ranks) (f ∷ left) are = ap suc (as_many programs given ranks left are.1)

  pub record_of : (shape : Sizes) (programs : List P) (ranks : List (Finished P)) (calls : List (List Command))
      (run : RunRecord) (cells : Closed Packet) (rings : RingAccount) →
      HasRunNoted says shape programs ranks calls run cells rings → run.shape ≡ shape → AllCellsFree run →
      run.done ≡ are_done (ends_of run.ranks) → IsRecordOf calls run
  record_of shape programs ranks calls run cells rings noted shaped home done =
      let many =
      as_many programs noted.ran.given (ends_of run.ranks) ranks noted.ran.each
      ∙ noted.ran.whole.lawful.one_each ∙ ap (λ (s : Sizes). s.ranks) (sym shaped) in
      subst (λ (xs : List (List Command)). IsRecordOf xs run) noted.are (record {
        many = many;
        ran = subst (λ (s : Sizes). IsRunBy s (commands_in noted.ran.given) (ends_of run.ranks) (packets_of run.pairs))
            (sym shaped) noted.ran.whole.lawful;
        home = home;
        done = done;
      })

-- what holds of each made of a list holds of the list
pub zip_mapped : {A B D : Type 0} (f : A → B) (R : B → D → Type 0) (xs : List A) (ys : List D) →
    AllZip (λ x y. R (f x) y) xs ys → AllZip R (map f xs) ys
zip_mapped f R [] [] all = tt
zip_mapped f R [] (y ∷ ys) all = absurd all
zip_mapped f R (x ∷ xs) [] all = absurd all
zip_mapped f R (x ∷ xs) (y ∷ ys) all = (all.0, zip_mapped f R xs ys all.1)
