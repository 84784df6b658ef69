-- Candidates at their places.
use Rattle.std.proofs.Common.{◌≡◌, ℕ, ◌<◌, ◌≤◌, Bool, true, false, not, ◌||◌, List, length, get_or, take, is_some, Some, None, Option, sym, refl, ap, ◌∙◌, inl, inr, arith}
use Rattle.std.specs.List.{slice_get, list_all, position}
use Rattle.std.proofs.lemmas.Bool.{cases_order, true≢false, false≢true}
use Rattle.std.proofs.lemmas.List.{length-take-le, get_or-take}
use Rattle.std.proofs.lemmas.Option.{slice_get_cases, slice_get-get_or, slice_get_past}
use Rattle.sets.specs.Sets.{has}
use Rattle.sets.proofs.Lists.{all_list, position-lowest}
use Rattle.sets.proofs.Masks.{get_or-per_host}
use Rattle.sets.proofs.Tests.{all_true, all_each, lowest_is, lowest_none}
use Rattle.setup.specs.Setup.{both_equal, new_at, distinct, place_of, place_at, places_of, all_placed}
use Rattle.setup.specs.Placed.{OnlyPlace, Placed}

module _ {C : Type 0} (equal : C → C → Bool) where
  -- a candidate that is equal to an input is found where it stands
  pub place_of-position : (cs : List C) (x : C) → position (λ k. equal k x) cs ≡ place_of equal cs (Some x)
  place_of-position cs x = position-lowest (λ k. equal k x) (λ k. both_equal equal (slice_get cs k) (Some x)) cs (λ i d l. ap (λ (o : Option C). both_equal equal o (Some x)) (sym (slice_get-get_or cs i d l)))

  -- nothing is equal to what is not there
  none_equal : (o : Option C) → both_equal equal o None ≡ false
  none_equal None = refl
  none_equal (Some x) = refl

  -- an input that is not there has no place
  pub place_of-none : (cs : List C) → place_of equal cs None ≡ None
  place_of-none cs = lowest_none (length cs) (λ k. both_equal equal (slice_get cs k) None) (λ k l. none_equal (slice_get cs k))

  -- no candidate before a place is equal to that at it
  pub new_before : (cs : List C) (j : ℕ) (x : C) → slice_get cs j ≡ Some x → j ≤ length cs → list_all (λ k. not (equal k x)) (take j cs) ≡ new_at equal cs j
  new_before cs j x at l =
      let long : length (take j cs) ≡ j = length-take-le j cs l in
      let each : (i : ℕ) (d : C) → i < length (take j cs) → not (equal (get_or (take j cs) i d) x) ≡ not (both_equal equal (slice_get cs i) (slice_get cs j)) =
      λ i d m. rw (at, slice_get-get_or cs i d (omega arith), get_or-take j cs i d (omega arith)) refl in
      rw long at (all_list (λ k. not (equal k x)) (λ i. not (both_equal equal (slice_get cs i) (slice_get cs j))) (take j cs) each)

  -- nor one before a place at which there is none
  pub new_past : (cs : List C) (j : ℕ) → length cs ≤ j → new_at equal cs j ≡ true
  new_past cs j l = all_true j (λ i. not (both_equal equal (slice_get cs i) (slice_get cs j))) (λ i m. rw (slice_get_past cs j l) (ap not (none_equal (slice_get cs i))))

  -- a candidate that is equal to something stands somewhere
  stands : (cs : List C) (k : ℕ) (o : Option C) → both_equal equal (slice_get cs k) o ≡ true → k < length cs
  stands cs k o e = grind (arith, slice_get_cases)

  module _ (symmetric : (x y : C) → equal x y ≡ true → equal y x ≡ true) (transitive : (x y z : C) → equal x y ≡ true → equal y z ≡ true → equal x z ≡ true) where
    -- two that are equal to a third are equal
    joined : (a b : Option C) (x : C) → both_equal equal a (Some x) ≡ true → both_equal equal b (Some x) ≡ true → both_equal equal a b ≡ true
    joined None b x p q = p
    joined (Some a) None x p q = q
    joined (Some a) (Some b) x p q = transitive a x b p (symmetric b x q)

    -- distinct candidates are not both equal to an input
    clash : (cs : List C) (i j : ℕ) (x : C) → distinct equal cs ≡ true → i < j → both_equal equal (slice_get cs i) (Some x) ≡ true → both_equal equal (slice_get cs j) (Some x) ≡ true → ⊥
    clash cs i j x d l p q =
        let new = all_each (length cs) (new_at equal cs) d j (stands cs j (Some x) q) in
        let apart = all_each j (λ k. not (both_equal equal (slice_get cs k) (slice_get cs j))) new i l in
        true≢false (sym apart ∙ ap not (joined (slice_get cs i) (slice_get cs j) x p q))

    -- so the lowest place is the only one
    only_place : (cs : List C) (x : C) (place : ℕ) → distinct equal cs ≡ true → place_of equal cs (Some x) ≡ Some place → OnlyPlace equal cs x place
    only_place cs x place d e =
        let w = lowest_is (length cs) (λ k. both_equal equal (slice_get cs k) (Some x)) place e in
        record {
          inside = w.0;
          there = w.1;
          only = λ k also.
              elim (cases_order k place) [
                | inl same ↦ same
                | inr (inl before) ↦ absurd (true≢false (sym also ∙ w.2 k before))
                | inr (inr after) ↦ absurd (clash cs place k x d after w.1 also)
              ];
        }

    -- a place that was found
    some_place : (o : Option ℕ) → is_some o ≡ true → (place : ℕ) × (o ≡ Some place)
    some_place None e = absurd (false≢true e)
    some_place (Some p) e = (p, refl)

    -- each honest input has one place, where it has any
    pub placed : (n faulty : ℕ) (cs xs : List C) → n ≤ 16 → distinct equal cs ≡ true → all_placed n faulty (places_of equal faulty cs xs) ≡ true → Placed equal n faulty cs xs (places_of equal faulty cs xs)
    placed n faulty cs xs few d all j x l honest here =
        let ps = places_of equal faulty cs xs in
        let each = all_each n (λ k. has faulty k || is_some (get_or ps k None)) all j l in
        let p = some_place (get_or ps j None) (grind arith) in
        let at = get_or-per_host (place_at equal faulty cs xs) None j (omega arith) in
        (p.0, p.1, only_place cs x p.0 d (grind arith))
