-- A fault of a plan, in place of one of a script.
use Rattle.std.specs.Prelude.{Result, Ok, Err}
use Rattle.nm_plans.specs.declared.faults.PlanKind.{PlanKind}

-- this kind in place of any fault
abbrev pub or_kind : {A E : Type 0} → Result A E → PlanKind → Result A PlanKind
or_kind (Ok x) kind = Ok x
or_kind (Err e) kind = Err kind
