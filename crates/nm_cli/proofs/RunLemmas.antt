-- What runs and reads say of an answer.
use Rattle.std.proofs.Common.{◌≡◌, ℕ, Bool, List, Option, Some, None, take, drop, refl, sym, ap, ◌∙◌, subst, arith}
use Rattle.std.specs.Option.{IfSome}
use Rattle.nm_types.specs.declared.scripts.Line.{Line}
use Rattle.nm_types.specs.Limits.{IsScript}
use Rattle.nm_types.specs.Sizes.{Sizes}
use Rattle.nm_script.specs.CommandWords.{IsTaken}
use Rattle.nm_script.specs.declared.command_line.CommandLine.{CommandLine}
use Rattle.nm_script.specs.declared.command_line.Mode.{Mode}
use Rattle.nm_script.specs.declared.command_line.Mode.TheVariants.{Run, Trace, Plain, Parts, Flood, Multi}
use Rattle.nm_script.specs.FloodScripts.{flood_lines}
use Rattle.nm_outside.specs.Told.{LosesAtMost}
use Rattle.nm_script.specs.Spelled.{IsTextOf}
use Rattle.nm_script.specs.declared.faults.Kind.{Kind}
use Rattle.nm_script.specs.declared.faults.TextFault.{TextFault}
use Rattle.nm_plans.specs.declared.faults.PlanKind.{PlanKind}
use Rattle.nm_script.specs.declared.faults.TextFault.TheVariants as fault
use Rattle.nm_report.specs.Cells.{AllCellsFree}
use Rattle.nm_report.specs.Ends.{are_done, ends_of}
use Rattle.nm_report.specs.Lawful.{IsRunIn}
use Rattle.nm_report.specs.Summary.{CountsFit}
use Rattle.nm_report.specs.Told.{told_of}
use Rattle.nm_report.specs.declared.records.RunRecord.{RunRecord}
use Rattle.nm_world.specs.Runs.{IsWhole}
use Rattle.nm_world.specs.declared.whole.Ways.{Ways}
use Rattle.nm_sure.specs.Agree.{ArePlain}
use Rattle.nm_sure.specs.Plain.{first_free}
use Rattle.nm_sure.specs.PlainText.{plain_done, plain_text}
use Rattle.nm_plans.specs.Expansion.{expand}
use Rattle.nm_persist.specs.Rules.{IsTextOf as IsPlanText}
use Rattle.nm_plans.specs.declared.lines.PlanLine.{PlanLine}
use Rattle.nm_cli.specs.Answers.{CanBeTold, IsAnswer, IsAnswerFor, IsAnswerForPlan, IsAnswerTo, Refuses}
use Rattle.nm_cli.specs.Plains.{IsNotPlain, IsPlain}
use Rattle.nm_cli.specs.Answers.{IsAnswerForBytes, IsLogOf, IsRead, IsReadFor}
use Rattle.nm_cli.specs.Plans.{IsRunOfPlan, PlanRefuses}
use Rattle.nm_check.specs.Answers.{IsTrialOf}
use Rattle.nm_check.specs.declared.trials.Trial.{Trial}
use Rattle.nm_cli.specs.Checks.{IsCheckedAs}
use Rattle.nm_cli.specs.Scripts.{IsAsked, IsRunOfScript, IsRunOfWords, Reads, ReadsSource, limit_of, read_of}
use Rattle.nm_cli.specs.Scripts.{sizes_for}
use Rattle.nm_cli.specs.declared.answers.Response.{Response}
use Rattle.nm_cli.specs.declared.answers.Response.TheVariants as answer

-- a run in the sizes that the words say
pub ran : (line : CommandLine) (ranks : ℕ) (lines : List Line) (run : RunRecord) (ways : Ways) (shape : Sizes) →
    shape ≡ sizes_for line ranks → run.shape ≡ shape → IsWhole shape lines run ways.cells ways.rings →
    AllCellsFree run → run.done ≡ are_done (ends_of run.ranks) → IsScript ranks lines →
    ((shape : Sizes) (lines : List Line) (run : RunRecord) → IsScript shape.ranks lines → IsRunIn shape lines run →
    CountsFit (told_of run)) →
    IsRunOfScript line ranks lines run ways × CountsFit (told_of run)
ran line ranks lines run ways shape sized shaped whole home done script law =
    let whole' = subst (λ s. IsWhole s lines run ways.cells ways.rings) sized whole in
    let lawful : IsRunIn (sizes_for line ranks) lines run =
    record { shaped = shaped ∙ sized; lawful = whole'.lawful; home = home; ended = done } in
    (record { lawful = lawful; carried = whole' }, law (sizes_for line ranks) lines run script lawful)

-- the script that was read is the one that is asked for
asked : (mode : Mode) (input : Option (List ℕ)) (ranks : ℕ) (lines : List Line) → Reads mode →
    IfSome input (λ bytes. IsTextOf (read_of bytes) ranks lines) → IsAsked mode input ranks lines
asked Run input ranks lines reads is = is
asked Trace input ranks lines reads is = is
asked Plain input ranks lines reads is = is
asked m input ranks lines reads is = absurd reads

-- what is said of a plain script is said of the bytes read
free : (input : Option (List ℕ)) (ranks number : ℕ) (lines : List Line) →
    IfSome input (λ bytes. IsTextOf (read_of bytes) ranks lines) → first_free lines ≡ Some number →
    IfSome input (IsNotPlain number)
free None ranks number lines is first = tt
free (Some bytes) ranks number lines is first =
    record { ranks = ranks; lines = lines; spelled = is; first = first }

sure : (line : CommandLine) (input : Option (List ℕ)) (ranks : ℕ) (lines : List Line) (text : List ℕ) (done : Bool) →
    IfSome input (λ bytes. IsTextOf (read_of bytes) ranks lines) → ArePlain lines →
    text ≡ plain_text (sizes_for line ranks) lines → done ≡ plain_done (sizes_for line ranks) lines →
    IfSome input (IsPlain line text done)
sure line None ranks lines text done is plain reported ended = tt
sure line (Some bytes) ranks lines text done is plain reported ended =
    record { ranks = ranks; lines = lines; spelled = is; plain = plain; reported = reported; ended = ended }

-- what is said of a script that was read answers the words
answered : (line : CommandLine) (input : Option (List ℕ)) (old new ranks : ℕ) (lines : List Line) →
    Reads line.mode → IfSome input (λ bytes. IsTextOf (read_of bytes) ranks lines) → (a : Response) →
    IsAnswerFor line ranks lines a → IsAnswerTo line input old new a
answered line input old new ranks lines reads is (answer.Ran mode run ways) h =
    let asked_for = asked line.mode input ranks lines reads is in
    (h.0, h.1, record { ranks = ranks; lines = lines; asked = asked_for; of_script = h.2 })
answered line input old new ranks lines reads is (answer.Free number) h =
    (h.0, free input ranks number lines is h.1)
answered line input old new ranks lines reads is (answer.Determinate run) h =
    (h.0, sure line input ranks lines run.text.items run.done is h.1 h.2 h.3)
answered line input old new ranks lines reads is a h = absurd h

-- and can be told
pub told : (line : CommandLine) (ranks : ℕ) (lines : List Line) (a : Response) → IsAnswerFor line ranks lines a →
    CanBeTold a
told line ranks lines (answer.Ran mode run ways) h = h.3
told line ranks lines (answer.Free number) h = tt
told line ranks lines (answer.Determinate run) h = tt
told line ranks lines a h = absurd h

-- a plan that the bytes spell, and its run
pub plan_of_bytes : (line : CommandLine) (bytes : List ℕ) (ranks : ℕ) (lines : List PlanLine) →
    line.mode ≡ Parts → IsPlanText bytes ranks lines → (a : Response) → IsAnswerForPlan line ranks lines a →
    IsAnswerForBytes line bytes a
plan_of_bytes line bytes ranks lines parts text (answer.Planned plan run ways) h =
    let spelled : IsPlanText bytes ranks plan.lines = subst (λ ls. IsPlanText bytes ranks ls) (sym h.0) text in
    let of_script : IsRunOfScript line ranks (expand plan.lines) run ways =
    subst (λ ls. IsRunOfScript line ranks (expand ls) run ways) (sym h.0) h.1 in
    (parts, ranks, spelled, of_script)
plan_of_bytes line bytes ranks lines parts text a h = absurd h

-- what was read spells the plan
plan_spelled : (input : Option (List ℕ)) (read : List ℕ) (ranks : ℕ) (lines : List PlanLine) →
    IfSome input (λ bytes. read ≡ take 8388609 bytes) → IsPlanText read ranks lines →
    IfSome input (λ bytes. IsPlanText (read_of bytes) ranks lines)
plan_spelled None read ranks lines is text = tt
plan_spelled (Some bytes) read ranks lines is text = subst (λ bytes. IsPlanText bytes ranks lines) is text

-- what was read is refused
plan_refused : (input : Option (List ℕ)) (read : List ℕ) (e : TextFault PlanKind) →
    IfSome input (λ bytes. read ≡ take 8388609 bytes) → PlanRefuses read e →
    IfSome input (λ bytes. PlanRefuses (read_of bytes) e)
plan_refused None read e is refuses = tt
plan_refused (Some bytes) read e is refuses = subst (λ bytes. PlanRefuses bytes e) is refuses

-- what was read spells the script
spelled : (input : Option (List ℕ)) (read : List ℕ) (ranks : ℕ) (lines : List Line) →
    IfSome input (λ bytes. read ≡ take 8388609 bytes) → IsTextOf read ranks lines →
    IfSome input (λ bytes. IsTextOf (read_of bytes) ranks lines)
spelled None read ranks lines is text = tt
spelled (Some bytes) read ranks lines is text = subst (λ bytes. IsTextOf bytes ranks lines) is text

-- what was read is no script
refused : (input : Option (List ℕ)) (read : List ℕ) (e : TextFault Kind) →
    IfSome input (λ bytes. read ≡ take 8388609 bytes) → Refuses read e →
    IfSome input (λ bytes. Refuses (read_of bytes) e)
refused None read e is refuses = tt
refused (Some bytes) read e is refuses = subst (λ bytes. Refuses bytes e) is refuses

-- what was said of the bytes read answers the words
checked_as : (line : CommandLine) (input : Option (List ℕ)) (read : List ℕ) (trial : Trial) →
    IfSome input (λ bytes. read ≡ take (limit_of line.mode) bytes) →
    IsTrialOf line trial read → IfSome input (IsCheckedAs line trial)
checked_as line None read trial is h = tt
checked_as line (Some bytes) read trial is h = subst (IsTrialOf line trial) is h

-- as much is read as a script may have
script_limit : (m : Mode) → Reads m → limit_of m ≡ 8388609
script_limit Run reads = refl
script_limit Trace reads = refl
script_limit Plain reads = refl
script_limit m reads = absurd reads

read_as : (limit other : ℕ) (input : Option (List ℕ)) (read : List ℕ) → limit ≡ other →
    IfSome input (λ bytes. read ≡ take limit bytes) → IfSome input (λ bytes. read ≡ take other bytes)
read_as limit other input read same is = subst (λ n. IfSome input (λ bytes. read ≡ take n bytes)) same is

-- what the bytes that were read spell answers the words
module _ (line : CommandLine) (input : Option (List ℕ)) (old new : ℕ) (read : List ℕ)
    (is : IfSome input (λ bytes. read ≡ take (limit_of line.mode) bytes)) where
  script_read : Reads line.mode → IfSome input (λ bytes. read ≡ take 8388609 bytes)
  script_read reads = read_as (limit_of line.mode) 8388609 input read (script_limit line.mode reads) is

  plan_read : line.mode ≡ Parts → IfSome input (λ bytes. read ≡ take 8388609 bytes)
  plan_read parts = read_as (limit_of line.mode) 8388609 input read (ap limit_of parts) is

  text_answered : (a : Response) → (ranks : ℕ) (lines : List Line) → Reads line.mode → IsTextOf read ranks lines →
      IsAnswerFor line ranks lines a → IsAnswerTo line input old new a
  text_answered a ranks lines reads text h =
      answered line input old new ranks lines reads (spelled input read ranks lines (script_read reads) text) a h

  pub bytes_answered : (a : Response) → IsAnswerForBytes line read a → IsAnswerTo line input old new a
  bytes_answered (answer.Refused n k) h =
      (h.0, refused input read (fault.Bad n k) (script_read h.0) h.1)
  bytes_answered (answer.Checked trial) h = (h.0, checked_as line input read trial is h.1)
  bytes_answered (answer.NoPlan n k) h =
      (h.0, plan_refused input read (fault.Bad n k) (plan_read h.0) h.1)
  bytes_answered (answer.Planned plan run ways) h =
      let of_plan : IsRunOfPlan line input plan.lines run ways = record {
        ranks = h.1;
        plan = h.2.limits;
        spelled = plan_spelled input read h.1 plan.lines (plan_read h.0) h.2;
        of_script = h.3;
      } in
      (h.0, of_plan)
  bytes_answered (answer.Ran m r w) (reads, ranks, lines, text, h) =
      text_answered (answer.Ran m r w) ranks lines reads text h
  bytes_answered (answer.Free n) (reads, ranks, lines, text, h) =
      text_answered (answer.Free n) ranks lines reads text h
  bytes_answered (answer.Determinate r) (reads, ranks, lines, text, h) =
      text_answered (answer.Determinate r) ranks lines reads text h
  bytes_answered a (reads, ranks, lines, text, h) = absurd h

-- and can be told
pub bytes_told : (line : CommandLine) (read : List ℕ) (a : Response) → IsAnswerForBytes line read a → CanBeTold a
bytes_told line read (answer.Ran m r w) (reads, ranks, lines, text, h) = told line ranks lines (answer.Ran m r w) h
bytes_told line read (answer.Logged t r log) (reads, ranks, lines, text, h) = absurd h
bytes_told line read a h = tt

-- a script that the bytes spell, and what is said of it
pub script_of_bytes : (line : CommandLine) (bytes : List ℕ) (ranks : ℕ) (lines : List Line) →
    Reads line.mode → IsTextOf bytes ranks lines → (a : Response) → IsAnswerFor line ranks lines a →
    IsAnswerForBytes line bytes a
script_of_bytes line bytes ranks lines reads text (answer.Ran m r w) h = (reads, ranks, lines, text, h)
script_of_bytes line bytes ranks lines reads text (answer.Free n) h = (reads, ranks, lines, text, h)
script_of_bytes line bytes ranks lines reads text (answer.Determinate r) h = (reads, ranks, lines, text, h)
script_of_bytes line bytes ranks lines reads text a h = absurd h

-- these words read the source
pub reads_source : (m : Mode) → Reads m → ReadsSource m
reads_source Run reads = tt
reads_source Trace reads = tt
reads_source Plain reads = tt
reads_source m reads = absurd reads

-- an answer for a command line that was taken answers the words
pub line_answered : (words : List (List ℕ)) (line : CommandLine) → IsTaken words line →
    ((other : CommandLine) → IsTaken words other → other ≡ line) → (input : Option (List ℕ)) (old new : ℕ)
    (a : Response) → IsAnswerTo line input old new a → IsAnswer words input old new a
line_answered words line taken only input old new answer.Usage h = absurd h
line_answered words line taken only input old new a h = record { line = line; taken = taken; only = only; right = h }

-- and what was read for it was read for the words, which ask for one thing
pub read_for : (words : List (List ℕ)) (line : CommandLine) →
    ((other : CommandLine) → IsTaken words other → other ≡ line) → (input left : Option (List ℕ)) (old new : ℕ)
    (a : Response) → IsRead line input left old new a → IsReadFor words input left old new a
read_for words line one input left old new a h = record {
  quiet = h.quiet;
  whole = λ was other taken reads. subst (λ l. IfSome input (λ bytes. left ≡ Some (drop (limit_of l.mode) bytes)))
      (sym (one other taken)) (h.whole was (subst (λ l. ReadsSource l.mode) (one other taken) reads));
}

-- what was made needs no source
pub unread_source : {input : Option (List ℕ)} {count : ℕ} (line : CommandLine) (m : Mode) (a : Response) →
    line.mode ≡ m → (ReadsSource m → ⊥) → IsRead line input input count count a
unread_source line m a is none = record {
  quiet = λ was. refl;
  whole = λ was reads. absurd (none (subst ReadsSource is reads));
}

-- a source that was not read has lost nothing
pub loses_none : (limit : ℕ) (input : Option (List ℕ)) → LosesAtMost limit input input
loses_none limit None = tt
loses_none limit (Some bytes) = (0, omega arith, refl)

-- the run of a flood answers the words that ask for it
pub flood_answered : (line : CommandLine) (input : Option (List ℕ)) (old new key ranks messages : ℕ) →
    line.mode ≡ Flood key ranks messages → (a : Response) →
    IsAnswerFor line ranks (flood_lines key ranks messages) a → IsAnswerTo line input old new a
flood_answered line input old new key ranks messages is (answer.Ran m r w) h =
    let asked_for : IsAsked line.mode input ranks (flood_lines key ranks messages) =
    subst (λ m. IsAsked m input ranks (flood_lines key ranks messages)) (sym is) (refl, refl) in
    let of_words : IsRunOfWords line input r w =
    record { ranks = ranks; lines = flood_lines key ranks messages; asked = asked_for; of_script = h.2 } in
    (h.0, h.1, of_words)
flood_answered line input old new key ranks messages is (answer.Free n) h = absurd (apart (sym is ∙ h.0))
  where
    apart : Flood key ranks messages ≡ Plain → ⊥
    apart same = cc
flood_answered line input old new key ranks messages is (answer.Determinate r) h = absurd (apart (sym is ∙ h.0))
  where
    apart : Flood key ranks messages ≡ Plain → ⊥
    apart same = cc
flood_answered line input old new key ranks messages is a h = absurd h

-- and so does the log of several threads
pub log_answered : (line : CommandLine) (input : Option (List ℕ)) (old new threads rounds : ℕ) →
    line.mode ≡ Multi threads rounds → (a : Response) → IsLogOf threads rounds a → IsAnswerTo line input old new a
log_answered line input old new threads rounds is (answer.Logged t r log) h =
    (is ∙ ap (λ n. Multi n rounds) (sym h.0) ∙ ap (λ n. Multi t n) (sym h.1), h.2)
log_answered line input old new threads rounds is a h = absurd h

pub log_told : (threads rounds : ℕ) (a : Response) → IsLogOf threads rounds a → CanBeTold a
log_told threads rounds (answer.Logged t r log) h = h.3
log_told threads rounds a h = absurd h
