-- The test of two positions tells whether they are one, and so what one number more makes of a map.
use Rattle.std.proofs.Common.{◌≡◌, ℕ, true, false, eqb, ◌≢◌, Some, refl, arith}
use Rattle.std.proofs.lemmas.Bool.{and_parts, eqb-true, false_from_ne_true, cond-true, cond-false}
use Rattle.std.proofs.lemmas.Bool.Decides.{nat_tests}
use Rattle.keeper.specs.declared.position.Sort.{Sort}
use Rattle.keeper.specs.declared.position.Sort.TheVariants.{List, Nomination}
use Rattle.keeper.specs.declared.position.Position.{Position}
use Rattle.keeper.specs.Keeping.{Map, same_sort, same_position, with_number}

-- sorts that pass for one are one
same_sort_is : (s t : Sort) → same_sort s t ≡ true → s ≡ t
same_sort_is List List e = refl
same_sort_is List Nomination e = cc
same_sort_is Nomination List e = cc
same_sort_is Nomination Nomination e = refl

-- a sort is the same as itself
sort_itself : (s : Sort) → same_sort s s ≡ true
sort_itself List = refl
sort_itself Nomination = refl

-- positions that pass for one are one
pub same_is : (a b : Position) → same_position a b ≡ true → a ≡ b
same_is a b e =
    let h = and_parts (eqb a.host b.host) _ e in
    let r = and_parts (same_sort a.sort b.sort) _ h.1 in
    let host = eqb-true a.host b.host h.0 in
    let sort = same_sort_is a.sort b.sort r.0 in
    let phase = eqb-true a.phase b.phase r.1 in
    λ i. record { host = host i; sort = sort i; phase = phase i }

-- positions that are not one do not pass for one
pub same_not : (a b : Position) → a ≢ b → same_position a b ≡ false
same_not a b apart = false_from_ne_true _ (λ e. apart (same_is a b e))

-- a position is the same as itself
pub same_itself : (a : Position) → same_position a a ≡ true
same_itself a = let sort = sort_itself a.sort in grind (arith, nat_tests)

-- the number stands at its position
pub with_here : (m : Map) (at : Position) (x : ℕ) → with_number m at x at ≡ Some x
with_here m at x = cond-true (same_position at at) (Some x) (m at) (same_itself at)

-- the others stand where they stood
pub with_other : (m : Map) (at : Position) (x : ℕ) (p : Position) → same_position at p ≡ false → with_number m at x p ≡ m p
with_other m at x p e = cond-false (same_position at p) (Some x) (m p) e
