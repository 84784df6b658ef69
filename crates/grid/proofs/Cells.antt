-- Each position has a cell of its own, and what filling one does to what the cells hold.
use Rattle.std.proofs.Common.{◌≡◌, ℕ, ◌+◌, ◌*◌, ◌/◌, ◌%◌, ◌<◌, ◌≤◌, Bool, true, false, cond, ltb, get_or, List, length, set, replicate, Some, None, Ok, Option, sym, refl, ap, ◌∙◌, arith, get_or-set_other, get_or-set_same}
use mathlib.Core.Path.{fun_ext}
use lib.Arith.{digits_lt, digits_div, digits_mod}
use Rattle.std.proofs.lemmas.List.{get_or-replicate}
use Rattle.std.proofs.lemmas.Bool.{ltb-true, and_parts, true≢false}
use Rattle.keeper.specs.declared.bounds.Bounds.{Bounds}
use Rattle.keeper.specs.declared.position.Sort.{Sort}
use Rattle.keeper.specs.declared.position.Sort.TheVariants.{List as Listed, Nomination}
use Rattle.keeper.specs.declared.position.Position.{Position}
use Rattle.keeper.specs.Bounding.{kept, positions}
use Rattle.keeper.specs.Keeping.{is_inside, nothing, same_position, with_number, sealing, sealed}
use Rattle.keeper.proofs.Positions.{same_is, same_itself}
use Rattle.keeper.proofs.Sealings.{accepted_inside, sealed_held}
use Rattle.grid.specs.Cells.{sort_index, cell_of, in_cells}

-- the index of a sort is 0 or 1
sort_below : (s : Sort) → sort_index s < 2
sort_below Listed = omega arith
sort_below Nomination = omega arith

-- sorts of one index are one
sort_one : (s t : Sort) → sort_index s ≡ sort_index t → s ≡ t
sort_one Listed Listed e = refl
sort_one Listed Nomination e = absurd (omega arith)
sort_one Nomination Listed e = absurd (omega arith)
sort_one Nomination Nomination e = refl

-- a position inside is that of a host and of a phase
inside_is : (b : Bounds) (at : Position) → is_inside (kept b nothing) at ≡ true → (at.host < b.hosts) × (at.phase < b.horizon)
inside_is b at e =
    let a = and_parts (ltb at.host b.hosts) _ e in
    (ltb-true at.host b.hosts a.0, ltb-true at.phase b.horizon a.1)

-- a position inside has a cell
pub cell_below : (b : Bounds) (at : Position) → is_inside (kept b nothing) at ≡ true → cell_of b.horizon at < positions b
cell_below b at i =
    let a = inside_is b at i in
    let row : at.host * 2 + sort_index at.sort < 2 * b.hosts = omega (arith, a.0, sort_below at.sort) in
    digits_lt row a.1

-- positions with one cell are one
cell_one : (top : ℕ) (at p : Position) → at.phase < top → p.phase < top → cell_of top at ≡ cell_of top p → at ≡ p
cell_one top at p la lp e =
    let row : at.host * 2 + sort_index at.sort ≡ p.host * 2 + sort_index p.sort = sym (digits_div (at.host * 2 + sort_index at.sort) la) ∙ ap (λ (x : ℕ). x / top) e ∙ digits_div (p.host * 2 + sort_index p.sort) lp in
    let phase : at.phase ≡ p.phase = sym (digits_mod (at.host * 2 + sort_index at.sort) la) ∙ ap (λ (x : ℕ). x % top) e ∙ digits_mod (p.host * 2 + sort_index p.sort) lp in
    let sa = sort_below at.sort in
    let sp = sort_below p.sort in
    let host : at.host ≡ p.host = omega arith in
    let sort = sort_one at.sort p.sort (omega arith) in
    λ i. record { host = host i; sort = sort i; phase = phase i }

-- filling the cell of a position gives the position its number
cells_set : (b : Bounds) (cells : List (Option ℕ)) (at : Position) (x : ℕ) → positions b ≤ length cells → is_inside (kept b nothing) at ≡ true → (p : Position) → in_cells b (set cells (cell_of b.horizon at) (Some x)) p ≡ with_number (in_cells b cells) at x p
cells_set b cells at x long i p = by (same_position at p) (is_inside (kept b nothing) p) refl refl
  where
    cell : Position → ℕ
    cell = cell_of b.horizon

    by : (same in_p : Bool) → same_position at p ≡ same → is_inside (kept b nothing) p ≡ in_p → cond in_p (get_or (set cells (cell at) (Some x)) (cell p) None) None ≡ cond same (Some x) (cond in_p (get_or cells (cell p) None) None)
    by true true own here = rw (← same_is at p own) (get_or-set_same cells (cell at) (Some x) None (omega (arith, cell_below b at i)))
    by true false own out = absurd (true≢false (sym i ∙ ap (is_inside (kept b nothing)) (same_is at p own) ∙ out))
    by false true other here = get_or-set_other cells (cell at) (cell p) (Some x) None (λ e. true≢false (sym (same_itself at) ∙ ap (same_position at) (cell_one b.horizon at p (inside_is b at i).1 (inside_is b p here).1 (sym e)) ∙ other))
    by false false other out = refl

-- the keeper with the cell filled is the keeper after the sealing
pub sealed_cells : (b : Bounds) (cells : List (Option ℕ)) (at : Position) (x : ℕ) → positions b ≤ length cells → Ok tt ≡ sealing (kept b (in_cells b cells)) at → kept b (in_cells b (set cells (cell_of b.horizon at) (Some x))) ≡ sealed (kept b (in_cells b cells)) at x
sealed_cells b cells at x long ok =
    let k = kept b (in_cells b cells) in
    ap (kept b) (fun_ext (cells_set b cells at x long (accepted_inside k at ok)) ∙ sym (sealed_held k at x ok))

-- cells that hold nothing
pub cells_none : (b : Bounds) (n : ℕ) → positions b ≤ n → in_cells b (replicate n None) ≡ nothing
cells_none b n long = fun_ext (λ p. by p (is_inside (kept b nothing) p) refl)
  where
    by : (p : Position) (in_p : Bool) → is_inside (kept b nothing) p ≡ in_p → cond in_p (get_or {A = Option ℕ} (replicate n None) (cell_of b.horizon p) None) None ≡ None
    by p true here = get_or-replicate n (cell_of b.horizon p) None None (omega (arith, cell_below b p here))
    by p false out = refl
