-- What is sealed stands, and nothing else is genuine.
use Rattle.std.proofs.Common.{◌≡◌, ℕ, true, false, ◌⊎◌, [], ◌∷◌, ◌++◌, IfOk, Some, None, Ok, Err, Option, Result, sym, refl, ap, ◌∙◌, subst, inl, inr, ⊎_elim, arith}
use Rattle.std.proofs.lemmas.Bool.{and_parts, and_from, or_cases, or_left, or_right, eqb-true, true≢false}
use Rattle.std.proofs.lemmas.Bool.Decides.{nat_tests}
use Rattle.std.proofs.lemmas.Option.{none-some, same_Some}
use Rattle.fault.specs.declared.Refusal.{Refusal}
use Rattle.sets.specs.Sets.{has}
use Rattle.keeper.specs.declared.position.Position.{Position}
use Rattle.keeper.specs.Keeping.{Keeping, Map, holding, is_inside, holds, is_genuine, sealing, sealed, empty}
use Rattle.keeper.specs.Seals.{Sealings, sealed_all, ForGood, SealedIn, Authentic}
use Rattle.keeper.proofs.Positions.{with_here}
use Rattle.keeper.proofs.Sealings.{sealed_at, accepted_inside, sealed_held}

-- hosts, open hosts and horizon stay
bounds_stay : (k : Keeping) (later : Sealings) → sealed_all k later ≡ holding k (sealed_all k later).held
bounds_stay k [] = refl
bounds_stay k (s ∷ ss) = bounds_stay (sealed k s.0 s.1) ss

-- a number that is held stays
held_stays : (k : Keeping) (later : Sealings) (at : Position) (x : ℕ) → k.held at ≡ Some x → (sealed_all k later).held at ≡ Some x
held_stays k [] at x e = e
held_stays k (s ∷ ss) at x e = held_stays (sealed k s.0 s.1) ss at x (⊎_elim (λ same. same ∙ e) (λ new. absurd cc) (sealed_at k s.0 s.1 at))

-- this number is there
holds_is : (o : Option ℕ) (x : ℕ) → holds o x ≡ true → o ≡ Some x
holds_is None x e = cc
holds_is (Some y) x e = ap Some (eqb-true y x e)

-- a number that is held is the one held
is_held : (o : Option ℕ) (x : ℕ) → o ≡ Some x → holds o x ≡ true
is_held o x e = grind (arith, nat_tests)

-- why a number is genuine: the position is inside, and the host is open or the number is held
genuine_is : (k : Keeping) (at : Position) (x : ℕ) → is_genuine k at x ≡ true → (is_inside k at ≡ true) × ((has k.opened at.host ≡ true) ⊎ (k.held at ≡ Some x))
genuine_is k at x e =
    let a = and_parts (is_inside k at) _ e in
    (a.0, ⊎_elim inl (λ h. inr (holds_is (k.held at) x h)) (or_cases (has k.opened at.host) (holds (k.held at) x) a.1))

-- and it is so for these reasons
genuine_from : (k : Keeping) (at : Position) (x : ℕ) → is_inside k at ≡ true → (has k.opened at.host ≡ true) ⊎ (k.held at ≡ Some x) → is_genuine k at x ≡ true
genuine_from k at x i why = and_from (is_inside k at) _ i (⊎_elim (λ o. or_left (has k.opened at.host) _ o) (λ h. or_right (has k.opened at.host) _ (is_held (k.held at) x h)) why)

-- a genuine number of a host that is not open is held
genuine_held : (k : Keeping) (at : Position) (x : ℕ) → has k.opened at.host ≡ false → is_genuine k at x ≡ true → k.held at ≡ Some x
genuine_held k at x shut e = ⊎_elim (λ o. absurd (true≢false (sym o ∙ shut))) (λ h. h) (genuine_is k at x e).1

-- a number that is genuine stays so, and stays the only one of a host that is not open
pub genuine_for_good : (k : Keeping) (at : Position) (x : ℕ) → is_genuine k at x ≡ true → ForGood k at x
genuine_for_good k at x e =
    let is = genuine_is k at x e in
    let after : Sealings → Keeping = λ later. holding k (sealed_all k later).held in
    let now : (later : Sealings) (y : ℕ) → is_genuine (sealed_all k later) at y ≡ is_genuine (after later) at y = λ later y. ap (λ (l : Keeping). is_genuine l at y) (bounds_stay k later) in
    record {
      genuine = λ later. now later x ∙ genuine_from (after later) at x is.0 (⊎_elim inl (λ h. inr (held_stays k later at x h)) is.1);
      only = λ later y shut f.
          let one = held_stays k later at x (genuine_held k at x shut e) in
          let two = genuine_held (after later) at y shut (sym (now later y) ∙ f) in
          grind arith;
    }

-- a number that is sealed is genuine
sealed_genuine : (k : Keeping) (at : Position) (x : ℕ) → Ok tt ≡ sealing k at → is_genuine (sealed k at x) at x ≡ true
sealed_genuine k at x ok = genuine_from (sealed k at x) at x (accepted_inside k at ok) (inr (ap (λ (m : Map). m at) (sealed_held k at x ok) ∙ with_here k.held at x))

-- so an accepted sealing is for good
pub sealing_for_good : (k l : Keeping) (at : Position) (x : ℕ) (r : Result (Unit {0}) Refusal) → r ≡ sealing k at → l ≡ sealed k at x → IfOk r (λ _. ForGood l at x)
sealing_for_good k l at x (Err f) e is = tt
sealing_for_good k l at x (Ok u) e is = subst (λ (m : Keeping). ForGood m at x) (sym is) (genuine_for_good (sealed k at x) at x (sealed_genuine k at x e))

-- a number that a sealing makes genuine is its own
sealed_own : (k : Keeping) (s : Position × ℕ) (at : Position) (x : ℕ) → has k.opened at.host ≡ false → is_genuine (sealed k s.0 s.1) at x ≡ true → (is_genuine k at x ≡ true) ⊎ ((s ≡ (at, x)) × (sealing k at ≡ Ok tt))
sealed_own k s at x shut e =
    let i = (genuine_is (sealed k s.0 s.1) at x e).0 in
    let is = genuine_held (sealed k s.0 s.1) at x shut e in
    ⊎_elim
    (λ same. inl (genuine_from k at x i (inr (sym same ∙ is))))
    (λ new.
    let same = same_Some s.1 x (sym new.now ∙ is) in
    inr (λ j. (new.here j, same j), sym (ap (sealing k) new.here) ∙ sym new.ok))
    (sealed_at k s.0 s.1 at)

-- a genuine number was so before, or was sealed since
genuine_since : (k : Keeping) (done : Sealings) (at : Position) (x : ℕ) → has k.opened at.host ≡ false → is_genuine (sealed_all k done) at x ≡ true → (is_genuine k at x ≡ true) ⊎ SealedIn k done at x
genuine_since k [] at x shut e = inl e
genuine_since k (s ∷ ss) at x shut e = ⊎_elim
    (λ then. ⊎_elim
    inl
    (λ own. inr (record { before = []; later = ss; split = ap (λ (t : Position × ℕ). t ∷ ss) own.0; ok = own.1 }))
    (sealed_own k s at x shut then))
    (λ in_ss. inr (record { before = s ∷ in_ss.before; later = in_ss.later; split = ap (λ (ts : Sealings). s ∷ ts) in_ss.split; ok = in_ss.ok }))
    (genuine_since (sealed k s.0 s.1) ss at x shut e)

-- sealings in two parts
sealed_parts : (k : Keeping) (before later : Sealings) → sealed_all k (before ++ later) ≡ sealed_all (sealed_all k before) later
sealed_parts k [] later = refl
sealed_parts k (s ∷ ss) later = sealed_parts (sealed k s.0 s.1) ss later

-- a number that was sealed is genuine
sealed_in_genuine : (k : Keeping) (done : Sealings) (at : Position) (x : ℕ) → SealedIn k done at x → is_genuine (sealed_all k done) at x ≡ true
sealed_in_genuine k done at x s =
    let then = sealed_all k s.before in
    ap (λ (l : Keeping). is_genuine l at x) (ap (sealed_all k) s.split ∙ sealed_parts k s.before ((at, x) ∷ s.later))
    ∙ (genuine_for_good (sealed then at x) at x (sealed_genuine then at x (sym s.ok))).genuine s.later

-- exactly the sealed numbers are genuine
pub authentic : Authentic
authentic n opened horizon done at x shut =
    let k = empty n opened horizon in (
      λ e. ⊎_elim (λ then. absurd (none-some x (genuine_held k at x shut then))) (λ s. s) (genuine_since k done at x shut e),
      sealed_in_genuine k done at x,
    )
