-- Why a call was refused.
use Rattle.std.proofs.Common.{◌≡◌, ◌<◌, ◌≢◌, ℕ, Bool, if◌then◌else◌, refl, subst, sym}
use Rattle.nm_types.specs.declared.limits.TheConstants.{MAX_TAG}
use Rattle.nm_types.specs.declared.messages.Peer.TheVariants as peer
use Rattle.nm_types.specs.declared.messages.TagPick.TheVariants as pick
use Rattle.nm_types.specs.declared.scripts.Command.{Command}
use Rattle.nm_types.proofs.NumberLemmas.{unequal}
use Rattle.nm_calls.specs.declared.faults.Fault.{Fault}
use Rattle.nm_handle.specs.declared.handles.Handle.{Handle}
use Rattle.nm_handle.specs.Standing.{IsCause}
use Rattle.nm_c.specs.Causes.{IsNoPeer, IsNoPick, IsReason}
use Rattle.nm_c.specs.Causes.IsReason.{faulted}
use Rattle.nm_c.specs.Codes.{code_of_fault, peer_of, pick_of}
use Rattle.nm_c.specs.declared.codes.Code.{Code}
use Rattle.nm_c.specs.declared.codes.Code.TheVariants as code

-- the core's cause is that of the same command
pub by_fault : (x y : Command) (h : Handle) (f : Fault) → x ≡ y → IsCause h x f → IsReason y h (code_of_fault f)
by_fault x y h f same cause = faulted f refl (subst (λ (z : Command). IsCause h z f) same cause)

pub of_same : (x y : Command) (h : Handle) (e : Code) → x ≡ y → IsReason x h e → IsReason y h e
of_same x y h e same reason = subst (λ (z : Command). IsReason z h e) same reason

-- a source, and a tag, that is a number and not any
pub no_peer : (n : ℕ) (e : Code) → n ≢ 4294967295 → e ≡ code.BadRank → 255 < n → IsNoPeer (peer_of n) e
no_peer n e some is over =
    subst (λ (b : Bool). IsNoPeer (if b then peer.Any else peer.One n) e) (sym (unequal n 4294967295 some)) (is, over)

pub no_pick : (n : ℕ) (e : Code) → n ≢ 4294967295 → e ≡ code.BadTag → MAX_TAG < n → IsNoPick (pick_of n) e
no_pick n e some is over =
    subst (λ (b : Bool). IsNoPick (if b then pick.Any else pick.One n) e) (sym (unequal n 4294967295 some)) (is, over)
