-- What is said of a plain script and of a flood is a function of the script and the sizes.
use Rattle.std.proofs.Common.{◌≡◌, ℕ, ◌≤◌, ◌⊎◌, ◌*◌, Bool, true, false, List, Option, Some, None, IsTrue, refl, sym}
use Rattle.std.proofs.Common.{ap, ◌∙◌}
use Rattle.std.proofs.Common.{subst}
use Rattle.std.specs.List.{list_all}
use Rattle.std.specs.Option.{IfSome, IsSomeAnd}
use Rattle.nm_types.specs.declared.messages.Peer.TheVariants as peer
use Rattle.nm_types.specs.declared.messages.TagPick.TheVariants as pick
use Rattle.nm_types.specs.declared.scripts.Body.{Body}
use Rattle.nm_types.specs.declared.scripts.Command.{Command}
use Rattle.nm_types.specs.declared.scripts.Command.TheVariants.{Send, Recv, Wait}
use Rattle.nm_types.specs.declared.scripts.Line.{Line}
use Rattle.nm_types.specs.Limits.{IsScript}
use Rattle.nm_types.specs.Sizes.{Sizes}
use Rattle.nm_outside.specs.Told.{Appends}
use Rattle.nm_script.specs.CommandWords.{AreNumbers, IsTaken}
use Rattle.nm_script.specs.declared.command_line.CommandLine.{CommandLine}
use Rattle.nm_script.specs.declared.command_line.Mode.{Mode}
use Rattle.nm_script.specs.declared.command_line.Mode.TheVariants as mode
use Rattle.nm_script.specs.FloodScripts.{flood_lines}
use Rattle.nm_script.specs.Spelled.{IsTextOf}
use Rattle.nm_report.specs.Cells.{AllCellsFree, all_home}
use Rattle.nm_report.specs.Lawful.{IsRunIn}
use Rattle.nm_report.specs.Report.{report_text}
use Rattle.nm_report.specs.Summary.{told_summary}
use Rattle.nm_report.specs.Told.{told_of}
use Rattle.nm_report.specs.declared.records.RunRecord.{RunRecord}
use Rattle.nm_sure.specs.Agree.{ArePlain, PlainRunsAgree, PlainRunsTell}
use Rattle.nm_sure.specs.Plain.{is_plain}
use Rattle.nm_sure.specs.PlainText.{plain_done, plain_text, plain_told}
use Rattle.nm_cli.specs.Answers.{end_status, run_text}
use Rattle.nm_cli.specs.Done.{Ending, Ends}
use Rattle.nm_cli.specs.Endings.{IsReported}
use Rattle.nm_cli.specs.Plains.{IsDeterminate, sure_text}
use Rattle.nm_cli.specs.Scripts.{IsAsked, IsKnown, Runs, read_of, sizes_for}
use Rattle.nm_world.specs.declared.whole.Ways.{Ways}
use Rattle.nm_cli.specs.declared.answers.Response.{Response}
use Rattle.nm_cli.proofs.EndLemmas.{one_line}
use Rattle.nm_cli.proofs.RunEnds.{reported_is}

-- what is known of scripts, of plain ones and of floods
pub record Laws : Type 0 where
  pub one_script :
      (bytes : List ℕ) (first second : ℕ) (lines others : List Line) → IsTextOf bytes first lines →
      IsTextOf bytes second others → (first ≡ second) × (lines ≡ others)
  pub text : PlainRunsAgree
  pub told : PlainRunsTell
  pub limits :
      (key ranks messages : ℕ) → 1 ≤ ranks → ranks ≤ 64 → messages ≤ 16000 →
      IsScript ranks (flood_lines key ranks messages)
  pub flood : (key ranks messages : ℕ) → ArePlain (flood_lines key ranks messages)

-- the account of a run whose cells are home
home_is : (run : RunRecord) (shape : Sizes) → run.shape ≡ shape → AllCellsFree run → run.cells ≡ all_home shape
home_is run shape shaped home =
    let total : run.cells.total ≡ shape.ranks * shape.cells =
    home.all ∙ ap (λ (s : Sizes). s.ranks * s.cells) shaped in
    let both : run.cells.home ≡ shape.ranks * shape.cells = home.home ∙ total in
    ap (λ n. record { total = n; home = run.cells.home }) total
    ∙ ap (λ n. record { total = shape.ranks * shape.cells; home = n }) both

-- a flood is plain
pub flood_is_plain : (key ranks messages : ℕ) →
    ((key ranks messages : ℕ) (test : Command → Bool) →
    ((q to tag ctx : ℕ) (body : Body) (sync : Bool) → test (Send to q tag ctx sync body) ≡ true) →
    ((q from tag ctx cap : ℕ) → test (Recv q (peer.One from) (pick.One tag) ctx cap) ≡ true) →
    ((q : ℕ) → test (Wait q) ≡ true) →
    IsTrue (list_all (λ line. test line.command) (flood_lines key ranks messages))) →
    ArePlain (flood_lines key ranks messages)
flood_is_plain key ranks messages law =
    law key ranks messages is_plain (λ q to tag ctx body sync. refl) (λ q from tag ctx cap. refl) (λ q. refl)

-- the script that ran is the one that is known, which keeps its limits and is plain
pub record Chosen (ranks : ℕ) (lines : List Line) (its_ranks : ℕ) (its_lines : List Line) : Type 0 where
  pub same_ranks : its_ranks ≡ ranks
  pub same_lines : its_lines ≡ lines
  pub script : IsScript ranks lines
  pub plain : ArePlain lines

flood_chosen : Laws → (key many messages ranks its_ranks : ℕ) (lines its_lines : List Line) →
    (1 ≤ many) × (many ≤ 64) × (messages ≤ 16000) →
    (ranks ≡ many) × (lines ≡ flood_lines key many messages) →
    (its_ranks ≡ many) × (its_lines ≡ flood_lines key many messages) → Chosen ranks lines its_ranks its_lines
flood_chosen laws key many messages ranks its_ranks lines its_lines range known asked =
    let script = laws.limits key many messages range.0 range.1 range.2 in
    record {
      same_ranks = asked.0 ∙ sym known.0;
      same_lines = asked.1 ∙ sym known.1;
      script = subst (λ n. IsScript n lines) (sym known.0)
          (subst (λ ls. IsScript many ls) (sym known.1) script);
      plain = subst ArePlain (sym known.1) (laws.flood key many messages);
    }

text_chosen : Laws → (input : Option (List ℕ)) (ranks its_ranks : ℕ) (lines its_lines : List Line) → ArePlain lines →
    IsSomeAnd input (λ bytes. IsTextOf (read_of bytes) ranks lines) →
    IfSome input (λ bytes. IsTextOf (read_of bytes) its_ranks its_lines) → Chosen ranks lines its_ranks its_lines
text_chosen laws None ranks its_ranks lines its_lines plain known asked = absurd known
text_chosen laws (Some bytes) ranks its_ranks lines its_lines plain known asked =
    let same = laws.one_script (read_of bytes) its_ranks ranks its_lines lines asked known in
    record { same_ranks = same.0; same_lines = same.1; script = known.limits; plain = plain }

chosen : Laws → (m : Mode) (input : Option (List ℕ)) (ranks its_ranks : ℕ) (lines its_lines : List Line) →
    AreNumbers m → IsDeterminate m lines → IsKnown m input ranks lines → IsAsked m input its_ranks its_lines →
    Chosen ranks lines its_ranks its_lines
chosen laws mode.Run input ranks its_ranks lines its_lines range plain known asked =
    text_chosen laws input ranks its_ranks lines its_lines plain known asked
chosen laws (mode.Flood key many messages) input ranks its_ranks lines its_lines range plain known asked =
    flood_chosen laws key many messages ranks its_ranks lines its_lines range known asked
chosen laws m input ranks its_ranks lines its_lines range plain known asked = absurd plain

runs_of : (m : Mode) (lines : List Line) → IsDeterminate m lines → Runs m
runs_of mode.Run lines plain = tt
runs_of (mode.Flood key ranks messages) lines plain = tt
runs_of m lines plain = absurd plain

-- what a run of a plain script says
text_is : (m : Mode) (shape : Sizes) (lines : List Line) (run : RunRecord) → IsDeterminate m lines →
    run.shape ≡ shape → run.cells ≡ all_home shape → report_text false run ≡ plain_text shape lines →
    told_of run ≡ plain_told shape lines → run.done ≡ plain_done shape lines →
    run_text m run ≡ sure_text m shape lines
text_is mode.Run shape lines run plain shaped home text told ended = text
text_is (mode.Flood key ranks messages) shape lines run plain shaped home text told ended =
    ap (λ (s : Sizes). told_summary key s.ranks messages (told_of run) run.cells run.done) shaped
    ∙ (ap (λ t. told_summary key shape.ranks messages t run.cells run.done) told
    ∙ (ap (λ c. told_summary key shape.ranks messages (plain_told shape lines) c run.done) home
    ∙ ap (λ d. told_summary key shape.ranks messages (plain_told shape lines) (all_home shape) d) ended))
text_is m shape lines run plain shaped home text told ended = absurd plain

-- a run that was reported is one of the script that is known
lawful_of : (line : CommandLine) (ranks its_ranks : ℕ) (lines its_lines : List Line) (run : RunRecord) →
    Chosen ranks lines its_ranks its_lines → IsRunIn (sizes_for line its_ranks) its_lines run →
    IsRunIn (sizes_for line ranks) lines run
lawful_of line ranks its_ranks lines its_lines run is lawful =
    subst (λ n. IsRunIn (sizes_for line n) lines run) is.same_ranks
    (subst (λ ls. IsRunIn (sizes_for line its_ranks) ls run) is.same_lines lawful)

-- a run that was reported says what the plain run does
reported_so : Laws → (line : CommandLine) (input before after : Option (List ℕ)) (status : ℕ) (run : Option RunRecord)
    (closed : Option Ways) (ranks : ℕ) (lines : List Line) → AreNumbers line.mode → IsDeterminate line.mode lines →
    IsKnown line.mode input ranks lines → IsReported line input status run closed before after →
    (status ≡ end_status (plain_done (sizes_for line ranks) lines))
    × Appends before after (sure_text line.mode (sizes_for line ranks) lines)
reported_so laws line input before after status run closed ranks lines range plain known r =
    let shape = sizes_for line ranks in
    let is = chosen laws line.mode input ranks r.of_words.ranks lines r.of_words.lines range plain known
    r.of_words.asked in
    let lawful = lawful_of line ranks r.of_words.ranks lines r.of_words.lines r.record_of is
    r.of_words.of_script.lawful in
    let told = laws.told shape lines r.record_of is.script is.plain lawful in
    let text = laws.text shape lines is.script is.plain r.record_of lawful in
    let home = home_is r.record_of shape lawful.shaped lawful.home in
    let same = text_is line.mode shape lines r.record_of plain lawful.shaped home text told.0 told.1 in
    (r.ended ∙ ap end_status told.1, subst (λ t. Appends before after t) same r.said)

pub determinate_is : Laws → (s : Ending) (a : Response) → Ends s a → (line : CommandLine) → IsTaken s.words line →
    (ranks : ℕ) (lines : List Line) → IsKnown line.mode s.input ranks lines → IsDeterminate line.mode lines →
    (s.status ≡ 0) ⊎ (s.status ≡ 1) → (s.status ≡ end_status (plain_done (sizes_for line ranks) lines))
    × Appends s.before s.after (sure_text line.mode (sizes_for line ranks) lines)
determinate_is laws s a e line taken ranks lines known plain ended =
    let r = reported_is s a e ended in
    let same : r.0 ≡ line = one_line s a e r.0 line r.1 taken in
    let reported = subst (λ l. Runs l.mode → IsReported l s.input s.status s.run s.closed s.before s.after) same r.2 in
    reported_so laws line s.input s.before s.after s.status s.run s.closed ranks lines taken.numbers plain known
    (reported (runs_of line.mode lines plain))
