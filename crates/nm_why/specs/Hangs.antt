-- Whether the runs of a script can hang, and whether they can end.
use Rattle.std.specs.Prelude.{◌≡◌, Bool, true, false, List, is_some}
use Rattle.std.specs.List.{list_any}
use Rattle.nm_types.specs.declared.scripts.Line.{Line}
use Rattle.nm_types.specs.Sizes.{Sizes}
use Rattle.nm_report.specs.declared.records.RunRecord.{RunRecord}
use Rattle.nm_report.specs.Lawful.{IsRunIn}
use Rattle.nm_report.specs.Told.{RankTold, told_of}
use Rattle.nm_why.specs.declared.hangs.Aim.{Aim}
use Rattle.nm_why.specs.declared.hangs.Aim.TheVariants.{Hang, Both}
use Rattle.nm_why.specs.declared.hangs.Fate.{Fate}
use Rattle.nm_why.specs.declared.hangs.Fate.TheVariants.{Ends, Hangs, Either, MayHang, Open}
use Rattle.nm_why.specs.declared.hangs.Meets.{Meets}
use Rattle.nm_why.specs.declared.hangs.Meets.TheVariants as meets

-- Some rank waits at the end, where nothing is left that could complete its command: a blocking call has not returned
-- and never does (MPI 3.1, 3.5 and 3.7.3).
abbrev pub is_hung : List RankTold → Bool
is_hung told = list_any (λ rank. is_some rank.waits) told

-- a lawful run of the script in these sizes hangs
abbrev pub CanHang : Sizes → List Line → Type 0
CanHang shape lines = (run : RunRecord) × IsRunIn shape lines run × (is_hung (told_of run) ≡ true)

-- a lawful run of it ends, with each rank at its end
abbrev pub CanEnd : Sizes → List Line → Type 0
CanEnd shape lines = (run : RunRecord) × IsRunIn shape lines run × (is_hung (told_of run) ≡ false)

-- how the lawful runs of the script end: what a complete search says, or one up to the first hang, or nothing
abbrev pub IsFate : Sizes → List Line → Fate → Type 0
IsFate shape lines Ends = ¬ (CanHang shape lines)
IsFate shape lines Hangs = CanHang shape lines × (¬ (CanEnd shape lines))
IsFate shape lines Either = CanHang shape lines × CanEnd shape lines
IsFate shape lines MayHang = CanHang shape lines
IsFate shape lines Open = Unit {0}

-- what a part of a script is still to do
abbrev pub Does : Aim → Sizes → List Line → Type 0
Does Hang shape lines = CanHang shape lines
Does Both shape lines = CanHang shape lines × CanEnd shape lines

-- whether it does, unless a search gave up
abbrev pub IsMeeting : Aim → Sizes → List Line → Meets → Type 0
IsMeeting aim shape lines meets.Yes = Does aim shape lines
IsMeeting aim shape lines meets.No = ¬ (Does aim shape lines)
IsMeeting aim shape lines meets.Unknown = Unit {0}

-- what it says of a script whose runs end so
abbrev pub meets_of : Aim → Fate → Meets
meets_of aim Ends = meets.No
meets_of Hang Hangs = meets.Yes
meets_of Both Hangs = meets.No
meets_of aim Either = meets.Yes
meets_of Hang MayHang = meets.Yes
meets_of Both MayHang = meets.Unknown
meets_of aim Open = meets.Unknown
