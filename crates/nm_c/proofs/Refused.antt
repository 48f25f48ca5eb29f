-- Each fault is a refusal.
use Rattle.std.proofs.Common.{◌≡◌, true, refl}
use Rattle.nm_calls.specs.declared.faults.Fault.{Fault}
use Rattle.nm_calls.specs.declared.faults.Fault.TheVariants as fault
use Rattle.nm_c.specs.Codes.{code_of_fault, is_refusal}

pub fault_is_refusal : (f : Fault) → is_refusal (code_of_fault f) ≡ true
fault_is_refusal fault.Name = refl
fault_is_refusal fault.Rank = refl
fault_is_refusal fault.Tag = refl
fault_is_refusal fault.Context = refl
fault_is_refusal fault.Length = refl
fault_is_refusal fault.Waits = refl
fault_is_refusal fault.Closed = refl
fault_is_refusal fault.Worn = refl
fault_is_refusal fault.Memory = refl
fault_is_refusal fault.Failed = refl
