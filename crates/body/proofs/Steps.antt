-- One host's turn among the lists of a warrant.
use Rattle.std.proofs.Common.{◌≡◌, ℕ, suc, ◌+◌, ◌-◌, ◌<◌, ◌≤◌, true, false, cond, List, length, drop, Ok, Err, sym, ap, ◌∙◌, arith}
use Rattle.std.proofs.lemmas.List.{drop-drop}
use Rattle.fault.specs.declared.Fault.{Fault}
use Rattle.sets.specs.Sets.{has}
use Rattle.parts.specs.declared.span.Part.{Part}
use Rattle.parts.specs.Reading.{sized, grown, and_then}
use Rattle.parts.proofs.Settled.{grown-grown}
use Rattle.body.specs.declared.kinds.Limits.{Limits}
use Rattle.body.specs.declared.kinds.Warrant.{Warrant}
use Rattle.body.specs.Bodies.{list, lists_from, with_list}

-- host j's list is read if it signed
turn : (lim : Limits) (j : ℕ) (w : Warrant) → j < 16
    → lists_from lim (16 - j) j w
    ≡ cond (has w.signers j) (and_then (list lim) (λ l. lists_from lim (16 - (j + 1)) (j + 1) (with_list w j l))) (lists_from lim (16 - (j + 1)) (j + 1) w)
unfolding lists_from
turn lim j w h = let e : 16 - j ≡ suc (16 - (j + 1)) = omega arith in rw e

-- after the last host nothing is read
ended : (lim : Limits) (j : ℕ) (w : Warrant) (bs : List ℕ) (at : ℕ) → j ≡ 16 → lists_from lim (16 - j) j w bs at ≡ Ok (sized w 0)
unfolding lists_from
ended lim j w bs at e = let z : 16 - j ≡ 0 = omega arith in rw z

-- before host j's turn: what is read behind the bytes that were used gives the whole
pub record Left (lim : Limits) (bs : List ℕ) (at : ℕ) (front : Warrant) (j : ℕ) (w : Warrant) (used : ℕ) : Type 0 where
  pub so : grown used (lists_from lim (16 - j) j w (drop used bs) (at + used)) ≡ lists_from lim 16 0 front bs at
  pub to : used ≤ length bs

module _ {lim : Limits} {bs : List ℕ} {at : ℕ} {front : Warrant} {j : ℕ} {w : Warrant} {used : ℕ} (left : Left lim bs at front j w used) where
  pub refused : {e : Fault} → j < 16 → has w.signers j ≡ true → list lim (drop used bs) (at + used) ≡ Err e → Err e ≡ lists_from lim 16 0 front bs at
  refused below h n = let t = turn lim j w below in let s = rw t at left.so in rw (h, n) at s

  pub signed : (l : Part ℕ) → j < 16 → has w.signers j ≡ true → list lim (drop used bs) (at + used) ≡ Ok l → used + l.size ≤ length bs
      → Left lim bs at front (j + 1) (with_list w j l.value) (used + l.size)
  signed l below h y to =
      let t = turn lim j w below in
      let s = rw (h, y) at (rw t at left.so) in
      let d = drop-drop l.size used bs in
      let a : at + (used + l.size) ≡ at + used + l.size = omega arith in
      record { so = rw (← d, a) (sym (grown-grown used l.size _) ∙ s); to = to }

  pub passed : j < 16 → has w.signers j ≡ false → Left lim bs at front (j + 1) w used
  passed below h = let t = turn lim j w below in record { so = rw h at (rw t at left.so); to = left.to }

  pub done : j ≡ 16 → Ok (sized w used) ≡ lists_from lim 16 0 front bs at
  done e = let z : used + 0 ≡ used = omega arith in
      sym (ap (λ (k : ℕ). Ok (sized w k)) z) ∙ rw (ended lim j w (drop used bs) (at + used) e) at left.so
