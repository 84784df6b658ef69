-- One entry's turn among the entries of a bag.
use Rattle.std.proofs.Common.{◌≡◌, ℕ, suc, ◌+◌, ◌-◌, ◌<◌, ◌≤◌, Bool, true, false, cond, List, length, drop, is_some, Some, Ok, Err, Option, sym, refl, ap, ◌∙◌, arith}
use mathlib.Core.Path.{fun_ext}
use Rattle.std.proofs.lemmas.List.{drop-drop, length-drop}
use Rattle.std.proofs.lemmas.Bool.Decides.{nat_tests}
use Rattle.fault.specs.declared.Refusal.TheVariants.{LeftOver}
use Rattle.fault.specs.declared.Layer.TheVariants as layers
use Rattle.fault.specs.declared.Fault.{Fault}
use Rattle.fault.specs.Refusals.{fault_at}
use Rattle.parts.specs.declared.span.Part.{Part}
use Rattle.parts.specs.Reading.{Reading, then}
use Rattle.body.specs.declared.kinds.Limits.{Limits}
use Rattle.body.specs.declared.kinds.Body.{Body}
use Rattle.entry.specs.Entries.{Met, head_tests, entry}
use Rattle.bag.specs.Bags.{Mail, no_mail, same_pair, is_met, with_entry, entries_from}
use Rattle.bag.specs.Checked.{is_filed, mail_at}
use Rattle.bag.specs.Offsets.{Rows, no_offsets, offset_of, filed}
use Rattle.bag.proofs.Filing.{Square, square_first, square_filed, pair_below, offset_filed, mail_filed, none_filed, nothing_filed}

module _ (lim : Limits) (most : ℕ) (body : Reading Body) (count k : ℕ) (mail : Mail) (bs : List ℕ) (at : ℕ) where
  -- the next entry is read, and then the others
  turn : k < count → entries_from lim most body (count - k) mail bs at
      ≡ then (entry lim most body (is_met mail) bs at) (λ m. entries_from lim most body (count - (k + 1)) (with_entry mail m.value) (drop m.size bs) (at + m.size))
  unfolding entries_from
  turn h = let e : count - k ≡ suc (count - (k + 1)) = omega arith in rw e

  -- no byte is left
  ended : k ≡ count → length bs ≡ 0 → entries_from lim most body (count - k) mail bs at ≡ Ok mail
  unfolding entries_from
  ended e n = let z : count - k ≡ 0 = omega arith in rw z (grind (arith, nat_tests))

  -- bytes are left
  left_over_turn : k ≡ count → 0 < length bs → entries_from lim most body (count - k) mail bs at ≡ Err (fault_at layers.Bag at LeftOver)
  unfolding entries_from
  left_over_turn e n = let z : count - k ≡ 0 = omega arith in rw z (grind (arith, nat_tests))

-- before entry k: what was filed is what reaches whom so far, and with what is left it gives the whole
pub record Left (lim : Limits) (most : ℕ) (body : Reading Body) (bs : List ℕ) (at count k : ℕ) (rows : Rows) (used : ℕ) : Type 0 where
  pub so : entries_from lim most body (count - k) (mail_at lim body bs at rows) (drop used bs) (at + used) ≡ entries_from lim most body count no_mail bs at
  pub met : is_met (mail_at lim body bs at rows) ≡ is_filed rows
  pub square : Square rows
  pub to : used ≤ length bs

-- at the beginning nothing is filed
pub begun : (lim : Limits) (most : ℕ) (body : Reading Body) (bs : List ℕ) (at count : ℕ) → Left lim most body bs at count 0 no_offsets 0
begun lim most body bs at count =
    let n = nothing_filed lim body bs at in
    let e : at + 0 ≡ at = omega arith in
    let c : count - 0 ≡ count = omega arith in
    record { so = rw (n, e, c); met = ap is_met n ∙ fun_ext (λ i. fun_ext (λ j. ap is_some (sym (none_filed i j)))); square = square_first; to = omega arith }

-- one more of each
both_met : {X Y : Type 0} (b : Bool) (x : X) (y : Y) (o : Option X) (q : Option Y) → is_some o ≡ is_some q → is_some (cond b (Some x) o) ≡ is_some (cond b (Some y) q)
both_met true x y o q h = refl
both_met false x y o q h = h

module _ {lim : Limits} {most : ℕ} {body : Reading Body} {bs : List ℕ} {at count k : ℕ} {rows : Rows} {used : ℕ} (left : Left lim most body bs at count k rows used) where
  -- the rest of the bag
  abbrev rest : List ℕ
  rest = drop used bs

  -- what reaches whom so far
  abbrev so_far : Mail
  so_far = mail_at lim body bs at rows

  pub refused : {e : Fault} → k < count → entry lim most body (is_filed rows) rest (at + used) ≡ Err e → Err e ≡ entries_from lim most body count no_mail bs at
  refused {e} below h =
      let t = turn lim most body count k so_far rest (at + used) below in
      let r = ap (λ (b : ℕ → ℕ → Bool). entry lim most body b rest (at + used)) left.met ∙ h in
      sym (rw r at t) ∙ left.so

  pub more : (p : Part Met) {i j size : ℕ} {now : Rows} → k < count → entry lim most body (is_filed rows) rest (at + used) ≡ Ok p
      → p.value.recipient ≡ i → p.value.sender ≡ j → p.size ≡ size → now ≡ filed rows i j used → used + size ≤ length bs
      → Left lim most body bs at count (k + 1) now (used + size)
  more p below h to from s f fits = rw (f, ← to, ← from, ← s) (next p below h (omega (arith, s)))
    where
      next : (p : Part Met) → k < count → entry lim most body (is_filed rows) rest (at + used) ≡ Ok p → used + p.size ≤ length bs
          → Left lim most body bs at count (k + 1) (filed rows p.value.recipient p.value.sender used) (used + p.size)
      next p below h to =
          let t = turn lim most body count k so_far rest (at + used) below in
          let r = ap (λ (b : ℕ → ℕ → Bool). entry lim most body b rest (at + used)) left.met ∙ h in
          let m = mail_filed lim body bs at (head_tests lim most (is_filed rows)) rows used p left.square left.to h in
          let d = drop-drop p.size used bs in
          let a : at + (used + p.size) ≡ at + used + p.size = omega arith in
          let b = pair_below (head_tests lim most (is_filed rows)) lim body rest (at + used) p h in
          let o = offset_filed rows p.value.recipient p.value.sender used left.square b.0 b.1 in
          record {
            so = rw (m, ← d, a) (sym (rw r at t) ∙ left.so);
            met = ap is_met m ∙ fun_ext (λ i. fun_ext (λ j. both_met (same_pair p.value.recipient p.value.sender i j) p.value.entry used (so_far i j) (offset_of rows i j) (ap (λ (f : ℕ → ℕ → Bool). f i j) left.met) ∙ ap is_some (sym (o i j))));
            square = square_filed rows p.value.recipient p.value.sender used left.square b.0 b.1;
            to = to;
          }

  pub left_over : k ≡ count → used < length bs → Err (fault_at layers.Bag (at + used) LeftOver) ≡ entries_from lim most body count no_mail bs at
  left_over e l = let d = length-drop used bs in sym (left_over_turn lim most body count k so_far rest (at + used) e (omega arith)) ∙ left.so

  pub done : k ≡ count → length bs ≤ used → Ok so_far ≡ entries_from lim most body count no_mail bs at
  done e l = let d = length-drop used bs in sym (ended lim most body count k so_far rest (at + used) e (omega arith)) ∙ left.so
