-- What an accepted sealing says of its position, and what it and a refused one leave.
use Rattle.std.proofs.Common.{◌≡◌, ℕ, ◌^◌, ◌<◌, true, false, ◌⊎◌, is_some, Some, None, Ok, Err, Option, sym, refl, ap, ◌∙◌, inl, inr, ⊎_elim, arith}
use Rattle.std.proofs.lemmas.Bool.{cases_Bool, cond-true, cond-false, and_from, lt-ltb}
use Rattle.std.proofs.lemmas.Bool.Decides.{nat_tests}
use Rattle.fault.specs.declared.Refusal.{Refusal}
use Rattle.fault.specs.Refusals.{unless}
use Rattle.fault.proofs.Accepted.{no_refusal, accepted}
use Rattle.sets.specs.Sets.{has}
use Rattle.keeper.specs.declared.position.Position.{Position}
use Rattle.keeper.specs.Keeping.{Keeping, Map, holding, is_inside, seal_fault, sealing, sealed, same_position, with_number, fits, AllFit}
use Rattle.keeper.proofs.Positions.{same_is, with_other}

-- a number can be sealed there
pub record Free (k : Keeping) (at : Position) : Type 0 where
  pub host : at.host < k.hosts
  pub phase : at.phase < k.horizon
  pub shut : has k.opened at.host ≡ false
  pub none : k.held at ≡ None

-- nothing is there
nothing_there : (o : Option ℕ) → is_some o ≡ false → o ≡ None
nothing_there None e = refl
nothing_there (Some x) e = cc

-- what an accepted sealing says
pub free : (k : Keeping) (at : Position) → Ok tt ≡ sealing k at → Free k at
free k at e =
    let f : seal_fault k at ≡ None = no_refusal tt tt (seal_fault k at) e in
    record {
      host = grind (arith, nat_tests);
      phase = grind (arith, nat_tests);
      shut = grind (arith, nat_tests);
      none = nothing_there (k.held at) (grind (arith, nat_tests));
    }

-- it holds one number more
pub sealed_held : (k : Keeping) (at : Position) (x : ℕ) → Ok tt ≡ sealing k at → (sealed k at x).held ≡ with_number k.held at x
sealed_held k at x e = cond-false (is_some (seal_fault k at)) k.held _ (ap is_some (no_refusal tt tt (seal_fault k at) e))

-- a refused sealing leaves the keeper as it was
pub sealed_not : (k : Keeping) (at : Position) (x : ℕ) → is_some (seal_fault k at) ≡ true → sealed k at x ≡ k
sealed_not k at x refused = ap (holding k) (cond-true (is_some (seal_fault k at)) k.held _ refused)

-- a refused call has a refusal
has_refusal : {X F : Type 0} (x : X) (o : Option F) (f : F) → Err f ≡ unless o x → is_some o ≡ true
has_refusal x None f e = absurd (grind arith)
has_refusal x (Some r) f e = refl

-- the same, from what the sealing answered
pub sealed_refused : (k : Keeping) (at : Position) (x : ℕ) (f : Refusal) → Err f ≡ sealing k at → k ≡ sealed k at x
sealed_refused k at x f e = sym (sealed_not k at x (has_refusal tt (seal_fault k at) f e))

-- a position where a number can be sealed is inside
pub free_inside : (k : Keeping) (at : Position) → Free k at → is_inside k at ≡ true
free_inside k at f = grind (arith, nat_tests)

-- so one of an accepted sealing is
pub accepted_inside : (k : Keeping) (at : Position) → Ok tt ≡ sealing k at → is_inside k at ≡ true
accepted_inside k at e = free_inside k at (free k at e)

-- a sealing that put its number at a position
pub record New (k : Keeping) (at : Position) (x : ℕ) (p : Position) : Type 0 where
  pub ok : Ok tt ≡ sealing k at
  pub here : at ≡ p
  pub inside : is_inside k p ≡ true
  pub none : k.held p ≡ None
  pub now : (sealed k at x).held p ≡ Some x

-- what a sealing leaves at a position: what was there, or its own number
pub sealed_at : (k : Keeping) (at : Position) (x : ℕ) (p : Position) → ((sealed k at x).held p ≡ k.held p) ⊎ New k at x p
sealed_at k at x p = ⊎_elim
    (λ no. inl (ap (λ (m : Map). m p) (cond-true (is_some (seal_fault k at)) k.held _ no)))
    (λ yes.
    let ok = accepted tt (seal_fault k at) yes in
    let new = ap (λ (m : Map). m p) (sealed_held k at x ok) in
    ⊎_elim
    (λ e.
    let q = same_is at p e in
    inr (record { ok = ok; here = q; inside = sym (ap (is_inside k) q) ∙ accepted_inside k at ok; none = sym (ap k.held q) ∙ (free k at ok).none; now = new ∙ cond-true (same_position at p) (Some x) _ e }))
    (λ e. inl (new ∙ with_other k.held at x p e))
    (cases_Bool (same_position at p)))
    (cases_Bool (is_some (seal_fault k at)))

-- a sealing leaves 32-bit numbers at positions inside
pub sealed_fits : (k : Keeping) (at : Position) (x : ℕ) → x < 2 ^ 32 → AllFit k → AllFit (sealed k at x)
sealed_fits k at x small all p = ⊎_elim
    (λ same. ap (fits k p) same ∙ all p)
    (λ new. ap (fits k p) new.now ∙ and_from (is_inside k p) _ new.inside (lt-ltb x (2 ^ 32) small))
    (sealed_at k at x p)
