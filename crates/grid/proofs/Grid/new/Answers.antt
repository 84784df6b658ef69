use Rattle.std.proofs.Common.{◌≡◌, ℕ, Some, None, vec_items, Option, sym, refl, ap, ◌∙◌, subst, arith}
use Rattle.keeper.specs.Bounding.{kept}
use Rattle.keeper.specs.Keeping.{Map, AllFit, nothing, held_count}
use Rattle.keeper.proofs.Counts.{count_empty}
use Rattle.grid.specs.Cells.{in_cells}
use Rattle.grid.proofs.Cells.{cells_none}
use Rattle.grid.proofs.Grid.new.Goals as goal
use Rattle.grid.proofs.Grid.new.Goals.{In_ok-cells}

-- what passes for a clone of `None` is `None`
only_none : (C : Option ℕ → Type 0) → ((x : ℕ) → C (Some x) → ⊥) → (y : Option ℕ) → C y → y ≡ None
only_none C no_some None e = refl
only_none C no_some (Some x) e = absurd (no_some x e)

-- the new cells hold nothing
holds-nothing : (c : goal.In_ok-cells) → in_cells c.new-bounds.result (vec_items c.in_ok-cells.cells) ≡ nothing
holds-nothing c =
    let b = c.new-bounds.result in
    ap (in_cells b) (c.in_ok-cells.ensures.items_if_clones_equal (only_none _ (λ x e. e))) ∙ cells_none b c.position_count.result (omega (arith, c.position_count.ensures))

pub invariant_of-result : goal.invariant_of-result
invariant_of-result c =
    let b = c.new-bounds.result in
    let none = sym (holds-nothing c) in
    record {
      inside = subst (λ (m : Map). AllFit (kept b m)) none (λ at. refl);
      sized = omega (arith, c.in_ok-cells.ensures.len, c.position_count.ensures);
      counted = sym (count_empty b.hosts b.opened b.horizon) ∙ ap (λ (m : Map). held_count (kept b m)) none;
    }

pub returns : goal.returns
returns c = ap (kept c.new-bounds.result) (holds-nothing (goal.at.returns c).In_ok-cells) ∙ c.new-bounds.ensures
