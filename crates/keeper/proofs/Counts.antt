-- How many numbers are held: none at first, one more with each sealing, and never more than there are positions.
use Rattle.std.proofs.Common.{◌≡◌, ℕ, ◌+◌, ◌*◌, ◌^◌, ◌<◌, ◌≤◌, cond, ◌≢◌, [], ◌∷◌, is_some, Some, None, Ok, Option, sym, refl, ap, ◌∙◌, subst, ⊎_elim, arith}
use Rattle.std.proofs.lemmas.Bool.{cases_Bool}
use Rattle.std.proofs.lemmas.Bool.Decides.{nat_tests}
use Rattle.fault.proofs.Accepted.{accepted}
use Rattle.sets.specs.Sets.{sum_below}
use Rattle.sets.proofs.Sums.{sum_cong, sum_more, sum_le, sum_none}
use Rattle.keeper.specs.declared.position.Sort.{Sort}
use Rattle.keeper.specs.declared.position.Sort.TheVariants.{List, Nomination}
use Rattle.keeper.specs.declared.position.Position.{Position}
use Rattle.keeper.specs.Keeping.{Keeping, Map, position, seal_fault, sealing, sealed, with_number, held_count, empty, AllFit}
use Rattle.keeper.specs.Seals.{Sealings, sealed_all, accepted_in, Counted}
use Rattle.keeper.proofs.Positions.{same_not, with_here, with_other}
use Rattle.keeper.proofs.Sealings.{free, sealed_held, sealed_not, sealed_fits}

-- 1 for one number
abbrev one : Option ℕ → ℕ
one o = cond (is_some o) 1 0

-- at most 1
one_le : (o : Option ℕ) → one o ≤ 1
one_le None = omega arith
one_le (Some x) = omega arith

-- 1 where a number is held
abbrev bit : Map → ℕ → Sort → ℕ → ℕ
bit m h s p = one (m (position h s p))

-- another position has what it had
bit_other : (m : Map) (at : Position) (x h : ℕ) (s : Sort) (p : ℕ) → at ≢ position h s p → bit (with_number m at x) h s p ≡ bit m h s p
bit_other m at x h s p apart = ap one (with_other m at x _ (same_not at _ apart))

-- the phases of the number's host and sort have one more
phases_more : (m : Map) (at : Position) (x top : ℕ) → m at ≡ None → at.phase < top → sum_below top (bit (with_number m at x) at.host at.sort) ≡ sum_below top (bit m at.host at.sort) + 1
phases_more m at x top none l = sum_more top (bit m at.host at.sort) (bit (with_number m at x) at.host at.sort) at.phase l
    (omega (arith, ap one (with_here m at x), ap one none))
    (λ p other. bit_other m at x at.host at.sort p (λ e. other (sym (ap (λ (q : Position). q.phase) e))))

-- those of another host or sort have as many as before
phases_same : (m : Map) (at : Position) (x top h : ℕ) (s : Sort) → ((p : ℕ) → at ≢ position h s p) → sum_below top (bit (with_number m at x) h s) ≡ sum_below top (bit m h s)
phases_same m at x top h s apart = sum_cong top (bit (with_number m at x) h s) (bit m h s) (λ p _. bit_other m at x h s p (apart p))

-- the numbers of one host
abbrev of_host : Map → ℕ → ℕ → ℕ
of_host m top h = sum_below top (bit m h List) + sum_below top (bit m h Nomination)

-- the number's host has one more
host_more : (m : Map) (at : Position) (x top : ℕ) → m at ≡ None → at.phase < top → of_host (with_number m at x) top at.host ≡ of_host m top at.host + 1
host_more m at x top none l = by at.sort refl
  where
    more : (s : Sort) → at.sort ≡ s → sum_below top (bit (with_number m at x) at.host s) ≡ sum_below top (bit m at.host s) + 1
    more s e = subst (λ (t : Sort). sum_below top (bit (with_number m at x) at.host t) ≡ sum_below top (bit m at.host t) + 1) e (phases_more m at x top none l)

    same : (s t : Sort) → at.sort ≡ s → s ≢ t → sum_below top (bit (with_number m at x) at.host t) ≡ sum_below top (bit m at.host t)
    same s t e apart = phases_same m at x top at.host t (λ p q. apart (sym e ∙ ap (λ (o : Position). o.sort) q))

    by : (s : Sort) → at.sort ≡ s → of_host (with_number m at x) top at.host ≡ of_host m top at.host + 1
    by List e = omega (arith, more List e, same List Nomination e (λ q. cc))
    by Nomination e = omega (arith, more Nomination e, same Nomination List e (λ q. cc))

-- another host has as many as before
host_same : (m : Map) (at : Position) (x top h : ℕ) → h ≢ at.host → of_host (with_number m at x) top h ≡ of_host m top h
host_same m at x top h other =
    let apart : (s : Sort) (p : ℕ) → at ≢ position h s p = λ s p e. other (sym (ap (λ (q : Position). q.host) e)) in
    omega (arith, phases_same m at x top h List (apart List), phases_same m at x top h Nomination (apart Nomination))

-- an accepted sealing adds one
pub count_more : (k : Keeping) (at : Position) (x : ℕ) → Ok tt ≡ sealing k at → held_count (sealed k at x) ≡ held_count k + 1
unfolding held_count
count_more k at x e =
    let f = free k at e in
    ap (λ (m : Map). sum_below k.hosts (of_host m k.horizon)) (sealed_held k at x e)
    ∙ sum_more k.hosts (of_host k.held k.horizon) (of_host (with_number k.held at x) k.horizon) at.host f.host
    (host_more k.held at x k.horizon f.none f.phase)
    (λ h other. host_same k.held at x k.horizon h other)

-- what a keeper that stores its numbers has to show of an accepted sealing: all fits, and one number more is held
pub one_more : (k l : Keeping) (at : Position) (x : ℕ) → Ok tt ≡ sealing k at → l ≡ sealed k at x → x < 2 ^ 32 → AllFit k → AllFit l × (held_count l ≡ held_count k + 1)
one_more k l at x ok is small all = (subst AllFit (sym is) (sealed_fits k at x small all), ap held_count is ∙ count_more k at x ok)

-- there is at most one number at each position
count_le : (k : Keeping) → held_count k ≤ 2 * k.hosts * k.horizon
unfolding held_count
count_le k =
    let top = k.horizon in
    let sort : (h : ℕ) (s : Sort) → sum_below top (bit k.held h s) ≤ top * 1 = λ h s. sum_le top (bit k.held h s) 1 (λ p. one_le _) in
    let all = sum_le k.hosts (of_host k.held top) (2 * top) (λ h. omega (arith, sort h List, sort h Nomination)) in
    let swap : k.hosts * (2 * top) ≡ 2 * k.hosts * top = grind arith in
    omega (arith, all, swap)

-- so there is room for one that can be sealed
pub count_below : (k : Keeping) (at : Position) → Ok tt ≡ sealing k at → held_count k < 2 * k.hosts * k.horizon
count_below k at e = omega (arith, count_more k at 0 e, count_le (sealed k at 0))

-- an empty keeper holds none
pub count_empty : (n opened horizon : ℕ) → held_count (empty n opened horizon) ≡ 0
unfolding held_count
count_empty n opened horizon = sum_none n _ (λ h. omega (arith, sum_none horizon (λ _. 0) (λ _. refl)))

-- a sealing adds one number if it is accepted
count_sealed : (k : Keeping) (at : Position) (x : ℕ) → held_count (sealed k at x) ≡ held_count k + cond (is_some (seal_fault k at)) 0 1
count_sealed k at x = ⊎_elim
    (λ refused. grind (arith, nat_tests, ap held_count (sealed_not k at x refused)))
    (λ yes. grind (arith, nat_tests, count_more k at x (accepted tt (seal_fault k at) yes)))
    (cases_Bool (is_some (seal_fault k at)))

-- and so do sealings one after another
count_all : (k : Keeping) (done : Sealings) → held_count (sealed_all k done) ≡ held_count k + accepted_in k done
count_all k [] = omega arith
count_all k (s ∷ ss) = omega (arith, count_all (sealed k s.0 s.1) ss, count_sealed k s.0 s.1)

-- all is counted
pub counted : Counted
counted n opened horizon done = omega (arith, count_all (empty n opened horizon) done, count_empty n opened horizon)
