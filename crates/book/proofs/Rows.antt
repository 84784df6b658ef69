-- What one more row does to what rows hold.
use Rattle.std.proofs.Common.{◌≡◌, ℕ, Bool, true, false, cond, option_map, List, [], ◌∷◌, ◌++◌, Some, None, Ok, Option, sym, refl, ap, ◌∙◌}
use mathlib.Core.Path.{fun_ext}
use Rattle.std.specs.List.{find}
use Rattle.std.specs.Option.{option_or}
use Rattle.keeper.specs.declared.bounds.Bounds.{Bounds}
use Rattle.keeper.specs.declared.position.Position.{Position}
use Rattle.keeper.specs.Bounding.{kept}
use Rattle.keeper.specs.Keeping.{same_position, with_number, sealing, sealed}
use Rattle.std.proofs.lemmas.List.Folds.{find-append}
use Rattle.keeper.proofs.Positions.{same_is}
use Rattle.keeper.proofs.Sealings.{free, sealed_held}
use Rattle.book.specs.declared.row.Row.{Row}
use Rattle.book.specs.Rows.{found}

-- a later row counts where no earlier one does
or_later : (rs : List Row) (r : Row) (p : Position) → found (rs ++ r ∷ []) p ≡ option_or (found rs p) (found (r ∷ []) p)
or_later rs r p = ap (option_map number_of) (find-append at_p rs (r ∷ [])) ∙ by (find at_p rs)
  where
    at_p : Row → Bool
    at_p x = same_position x.position p

    number_of : Row → ℕ
    number_of x = x.number

    by : (o : Option Row) → option_map number_of (option_or o (find at_p (r ∷ []))) ≡ option_or (option_map number_of o) (found (r ∷ []) p)
    by None = refl
    by (Some x) = refl

-- a row at a position where there was none gives the position its number
found-push : (rs : List Row) (r : Row) → found rs r.position ≡ None → (p : Position) → found (rs ++ r ∷ []) p ≡ with_number (found rs) r.position r.number p
found-push rs r none p = or_later rs r p ∙ by (found rs p) (same_position r.position p) (λ own. sym (ap (found rs) (same_is r.position p own)) ∙ none)
  where
    by : (o : Option ℕ) (same : Bool) → (same ≡ true → o ≡ None) → option_or o (option_map (λ (x : Row). x.number) (cond same (Some r) None)) ≡ cond same (Some r.number) o
    by None true e = refl
    by (Some x) true e = let none = e refl in cc
    by None false e = refl
    by (Some x) false e = refl

-- the keeper with one more row is the keeper after the sealing
pub sealed_rows : (b : Bounds) (rs : List Row) (r : Row) → Ok tt ≡ sealing (kept b (found rs)) r.position → kept b (found (rs ++ r ∷ [])) ≡ sealed (kept b (found rs)) r.position r.number
sealed_rows b rs r ok =
    let k = kept b (found rs) in
    ap (kept b) (fun_ext (found-push rs r (free k r.position ok).none) ∙ sym (sealed_held k r.position r.number ok))
