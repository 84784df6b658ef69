-- A warrant depends on the bytes that it takes, and fits.
use Rattle.std.specs.Prelude.{◌≡◌, ℕ, zero, suc, ◌+◌, true, false, ◌⊎◌, List, length, replicate, Ok, slice_index, slice_set}
use Rattle.std.proofs.Common.{ap, ◌∙◌, inl, inr, ⊎_elim, arith}
use Rattle.std.proofs.lemmas.List.{get_or-set_same, get_or-set_other, set_past, get_or-replicate, get_or_past}
use Rattle.std.proofs.lemmas.Bool.{cases_Bool, cases_eq, cases_lt}
use Rattle.std.proofs.lemmas.Bool.Decides.{nat_tests}
use Rattle.std.proofs.lemmas.Nat.{pow_pos}
use Rattle.std.proofs.lemmas.Grind.{elements, common_steps}
use Rattle.fault.specs.declared.Layer.TheVariants as layers
use Rattle.sets.specs.Sets.{has}
use Rattle.parts.specs.declared.span.Part.{Part}
use Rattle.parts.specs.Numbers.{long_word}
use Rattle.parts.specs.Reading.{and_then, giving}
use Rattle.parts.specs.Settled.{Settled}
use Rattle.parts.proofs.Settled.{long_in_front, both_read, given_read, settled_part, settled_already, settled_then, settled_giving, settled_cond}
use Rattle.body.specs.declared.kinds.Limits.{Limits}
use Rattle.body.specs.declared.kinds.Warrant.{Warrant}
use Rattle.body.specs.declared.kinds.Body.TheVariants as bodies
use Rattle.body.specs.Bodies.{places_tests, list, warrant_tests, unlisted, warrant_front, with_list, lists_from, warrant}
use Rattle.body.specs.Fitting.{PlacesFit, WarrantFits, Sound}

-- what is read for each signer
settled_lists : (lim : Limits) (n j : ℕ) (w : Warrant) → Settled (lists_from lim n j w)
unfolding lists_from
settled_lists lim zero j w = settled_already w
settled_lists lim (suc n) j w =
    settled_cond (has w.signers j) (and_then (list lim) (λ l. lists_from lim n (j + 1) (with_list w j l))) (lists_from lim n (j + 1) w)
    (settled_then (list lim) (λ l. lists_from lim n (j + 1) (with_list w j l)) (settled_part 4 long_word layers.Body (places_tests lim) (λ m. m) long_in_front) (λ l. settled_lists lim n (j + 1) (with_list w j l)))
    (settled_lists lim n (j + 1) w)

-- what is set is there, or all is as it was
set_either : (xs : List ℕ) (k x i : ℕ) → (slice_index (slice_set xs k x) i ≡ x) ⊎ (slice_index (slice_set xs k x) i ≡ slice_index xs i)
set_either xs k x i = ⊎_elim
    (λ e. ⊎_elim
    (λ l. inl (ap (λ (m : ℕ). slice_index (slice_set xs k x) m) e ∙ get_or-set_same xs k x 0 l))
    (λ l. inr (ap (λ (ys : List ℕ). slice_index ys i) (set_past xs k x l)))
    (cases_lt k (length xs)))
    (λ ne. inr (get_or-set_other xs k i x 0 ne))
    (cases_eq i k)

-- a signer's list more
fits_more : (lim : Limits) (w : Warrant) (j l : ℕ) → has w.signers j ≡ true → PlacesFit lim l → WarrantFits lim w → WarrantFits lim (with_list w j l)
fits_more lim w j l s h f = record {
  place = f.place;
  phase = f.phase;
  signers = f.signers;
  lists = λ k. ⊎_elim (λ e. rw e h) (λ e. rw e (f.lists k)) (set_either w.lists j l k);
  others = λ k n. grind (arith, elements, f.others k n, s, n);
}

-- a list that was read
list_fits : (lim : Limits) (bs : List ℕ) (at : ℕ) (p : Part ℕ) → list lim bs at ≡ Ok p → PlacesFit lim p.value
list_fits lim bs at p h = grind (arith, nat_tests)

fits_lists : (lim : Limits) (n j : ℕ) (w : Warrant) (bs : List ℕ) (at : ℕ) (p : Part Warrant) → lists_from lim n j w bs at ≡ Ok p → WarrantFits lim w → WarrantFits lim p.value
unfolding lists_from
fits_lists lim zero j w bs at p h f = let e : p.value ≡ w = cc in rw e f
fits_lists lim (suc n) j w bs at p h f = ⊎_elim
    (λ (s : has w.signers j ≡ true).
    let r = both_read (list lim) (λ l. lists_from lim n (j + 1) (with_list w j l)) bs at p (rw s at h) in
    rw r.is (fits_lists lim n (j + 1) (with_list w j r.fore.value) _ _ r.aft r.aft_read (fits_more lim w j r.fore.value s (list_fits lim bs at r.fore r.fore_read) f)))
    (λ (s : has w.signers j ≡ false). fits_lists lim n (j + 1) w bs at p (rw s at h) f)
    (cases_Bool (has w.signers j))

-- no list yet
no_list : (j : ℕ) → ◌≡◌ {A = ℕ} (slice_index (replicate 16 0) j) 0
no_list j = grind (arith, common_steps, elements, get_or-replicate, get_or_past)

fits_front : (lim : Limits) (bs : List ℕ) (at : ℕ) (p : Part Warrant) → warrant_front lim bs at ≡ Ok p → WarrantFits lim p.value
fits_front lim bs at p h = record {
  place = grind (arith, nat_tests);
  phase = grind (arith, nat_tests);
  signers = grind (arith, nat_tests);
  lists = λ j. grind (arith, no_list, pow_pos);
  others = λ j n. grind (arith, no_list);
}

pub warrant_sound : (lim : Limits) → Sound lim (giving bodies.Warrant (warrant lim))
warrant_sound lim = record {
  settled = settled_giving bodies.Warrant (warrant lim) (settled_then (warrant_front lim) (lists_from lim 16 0) (settled_part 4 long_word layers.Body (warrant_tests lim) unlisted long_in_front) (settled_lists lim 16 0));
  fits = λ bs at p h.
      let g = given_read bodies.Warrant (warrant lim) bs at p h in
      let r = both_read (warrant_front lim) (lists_from lim 16 0) bs at g.0 g.1 in
      let v = fits_lists lim 16 0 r.fore.value _ _ r.aft r.aft_read (fits_front lim bs at r.fore r.fore_read) in
      rw (g.2, r.is) v;
}
