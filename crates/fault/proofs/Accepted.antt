-- A call is accepted where there is no refusal, and only there.
use Rattle.std.proofs.Common.{◌≡◌, false, is_some, Some, None, Ok, Option, refl, arith}
use Rattle.fault.specs.Refusals.{unless}

-- an accepted call has no refusal
pub no_refusal : {X F : Type 0} (x y : X) (o : Option F) → Ok x ≡ unless o y → o ≡ None
no_refusal x y None e = refl
no_refusal x y (Some r) e = absurd (grind arith)

-- a call without a refusal is accepted
pub accepted : {X F : Type 0} (x : X) (o : Option F) → is_some o ≡ false → Ok x ≡ unless o x
accepted x None e = refl
accepted x (Some r) e = absurd (grind arith)
