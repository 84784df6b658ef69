-- An entry that was read and filed is read again as the same.
use Rattle.std.proofs.Common.{◌≡◌, ℕ, true, false, ◌+◌, ◌<◌, ◌≤◌, min, cond, eqb, slice_set, List, [], length, get_or, drop, replicate, Some, None, Ok, Option, sym, refl, ap, ◌∙◌, ⊎_elim, arith}
use mathlib.Core.Path.{fun_ext}
use Rattle.std.proofs.lemmas.List.{length-set, length-replicate, get_or-set_other, get_or-replicate, get_or_past}
use Rattle.std.proofs.lemmas.Bool.{cases_Bool, cases_eq, cases_lt, eq-eqb, ne_eqb, lt-ltb}
use Rattle.std.proofs.lemmas.Bool.Decides.{nat_tests}
use Rattle.std.proofs.lemmas.Grind.{get_or-set_at}
use Rattle.parts.specs.declared.span.Part.{Part}
use Rattle.parts.specs.Reading.{Reading, Tests}
use Rattle.entry.proofs.Headed.{headed_read, headed_is}
use Rattle.body.specs.declared.kinds.Limits.{Limits}
use Rattle.body.specs.declared.kinds.Body.{Body}
use Rattle.entry.specs.declared.letter.Head.{Head}
use Rattle.entry.specs.Entries.{Met, headed}
use Rattle.bag.specs.Bags.{no_mail, same_pair, with_entry}
use Rattle.bag.specs.Checked.{said, entry_at, mail_at}
use Rattle.bag.specs.Offsets.{Rows, no_offsets, is_pair, row_of, offset_of, filed}

-- an entry whose head passed its tests is read without them too
untested : (tests : Head → Tests) (lim : Limits) (body : Reading Body) (bs : List ℕ) (at : ℕ) (p : Part Met) → headed tests lim body bs at ≡ Ok p → headed (λ h. []) lim body bs at ≡ Ok p
untested tests lim body bs at p k =
    let r = headed_read tests lim body bs at p k in
    headed_is (λ h. []) lim body bs at r.rest r.there refl r.rest_read ∙ ap Ok (sym r.is)

-- the pair of an entry is one that a mask can name
pub pair_below : (tests : Head → Tests) (lim : Limits) (body : Reading Body) (bs : List ℕ) (at : ℕ) (p : Part Met) → headed tests lim body bs at ≡ Ok p → (p.value.recipient < 16) × (p.value.sender < 16)
pair_below tests lim body bs at p k =
    let r = headed_read tests lim body bs at p k in
    (rw r.is (omega arith), rw r.is (omega arith))

-- a table has 16 rows of 16 cells
pub record Square (rows : Rows) : Type 0 where
  pub high : length rows ≡ 16
  pub wide : (i : ℕ) → i < 16 → length (row_of rows i) ≡ 16

-- as the first table has
pub square_first : Square no_offsets
square_first = record { high = length-replicate 16 (replicate {A = Option ℕ} 16 None); wide = λ i l. rw (get_or-replicate 16 i (replicate {A = Option ℕ} 16 None) [] l) (length-replicate {A = Option ℕ} 16 None) }

-- one pair
pub same_pair_lem : (i j x y : ℕ) → i ≡ x → j ≡ y → same_pair i j x y ≡ true
same_pair_lem i j x y e f = let a = eq-eqb i x e in let b = eq-eqb j y f in rw (a, b)

-- whatever the table and the pair, it keeps as many rows
pub length-filed : (rows : Rows) (i j used : ℕ) → length (filed rows i j used) ≡ length rows
length-filed rows i j used = ⊎_elim (λ p. rw p (length-set rows i _)) (λ p. rw p refl) (cases_Bool (is_pair i j))

-- an element that is set
index_set : {A : Type 0} (xs : List A) (i k : ℕ) (x d : A) → i < length xs → get_or (slice_set xs i x) k d ≡ cond (eqb i k) x (get_or xs k d)
index_set xs i k x d l = grind (arith, get_or-set_at, get_or-set_other, nat_tests)

module _ (rows : Rows) (i j used : ℕ) (s : Square rows) (a : i < 16) (b : j < 16) where
  -- the row of a recipient
  row_filed : (x : ℕ) → row_of (filed rows i j used) x ≡ cond (eqb i x) (slice_set (row_of rows i) j (Some used)) (row_of rows x)
  row_filed x =
      let l = lt-ltb i 16 a in
      let m = lt-ltb j 16 b in
      rw (l, m) (index_set rows i x (slice_set (row_of rows i) j (Some used)) [] (omega (arith, s.high)))

  -- a table keeps its form
  pub square_filed : Square (filed rows i j used)
  square_filed = record {
    high = grind (arith, length-set, s.high);
    wide = λ x l. rw (row_filed x) (grind (arith, length-set, s.wide i a, s.wide x l));
  }

  -- a cell more
  cell_filed : (x y : ℕ) → get_or (row_of (filed rows i j used) x) y None ≡ cond (same_pair i j x y) (Some used) (get_or (row_of rows x) y None)
  cell_filed x y =
      let f = index_set (row_of rows i) j y (Some used) None (omega (arith, s.wide i a)) in
      rw (row_filed x) (⊎_elim
      (λ (q : i ≡ x). let h = eq-eqb i x q in rw (h, ← q) f)
      (λ ne. let h = ne_eqb i x ne in rw h)
      (cases_eq i x))

  -- an offset more
  pub offset_filed : (x y : ℕ) → offset_of (filed rows i j used) x y ≡ cond (same_pair i j x y) (Some used) (offset_of rows x y)
  offset_filed x y = ⊎_elim
      (λ (p : is_pair x y ≡ true). rw p (cell_filed x y))
      (λ (p : is_pair x y ≡ false). let h : same_pair i j x y ≡ false = grind (arith, nat_tests) in rw (p, h) refl)
      (cases_Bool (is_pair x y))

-- an entry that was read where it is filed is one entry more
pub mail_filed : (lim : Limits) (body : Reading Body) (bs : List ℕ) (at : ℕ) (tests : Head → Tests) (rows : Rows) (used : ℕ) (p : Part Met)
    → Square rows → used ≤ length bs → headed tests lim body (drop used bs) (at + used) ≡ Ok p
    → mail_at lim body bs at (filed rows p.value.recipient p.value.sender used) ≡ with_entry (mail_at lim body bs at rows) p.value
unfolding said
mail_filed lim body bs at tests rows used p square to read =
    let i = p.value.recipient in
    let j = p.value.sender in
    let b = pair_below tests lim body (drop used bs) (at + used) p read in
    let e : at + min used (length bs) ≡ at + used = omega arith in
    let here : entry_at lim body bs at (Some used) ≡ Some p.value.entry = rw (e, untested tests lim body (drop used bs) (at + used) p read) in
    fun_ext (λ x. fun_ext (λ y. rw (offset_filed rows i j used square b.0 b.1 x y) (⊎_elim (λ s. rw s here) (λ n. rw n) (cases_Bool (same_pair i j x y)))))

-- at first no offset is filed
pub none_filed : (x y : ℕ) → ◌≡◌ {A = Option ℕ} (offset_of no_offsets x y) None
none_filed x y = ⊎_elim (λ p. rw p (no_cell x)) (λ p. rw p refl) (cases_Bool (is_pair x y))
  where
    empty : (k : ℕ) → ◌≡◌ {A = Option ℕ} (get_or (replicate 16 None) k None) None
    empty k = ⊎_elim (λ l. get_or-replicate 16 k None None l) (λ l. get_or_past (replicate 16 None) k None l) (cases_lt k 16)

    no_cell : (x : ℕ) → ◌≡◌ {A = Option ℕ} (get_or (row_of no_offsets x) y None) None
    no_cell x = ⊎_elim (λ l. rw (get_or-replicate 16 x (replicate {A = Option ℕ} 16 None) [] l) (empty y)) (λ l. rw (get_or_past no_offsets x [] l)) (cases_lt x 16)

-- so that nothing reaches anybody
pub nothing_filed : (lim : Limits) (body : Reading Body) (bs : List ℕ) (at : ℕ) → mail_at lim body bs at no_offsets ≡ no_mail
nothing_filed lim body bs at = fun_ext (λ x. fun_ext (λ y. ap (entry_at lim body bs at) (none_filed x y)))
