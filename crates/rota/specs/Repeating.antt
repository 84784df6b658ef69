-- A cycle keeps the law of rotas.
use Rattle.std.specs.Prelude.{◌≡◌, ℕ, ◌+◌, ◌*◌, ◌/◌, ◌%◌, ◌<◌, ◌≤◌, Bool, true, false, cond, List, ◌==◌, nat_lt, slice_index, refl}
use Rattle.std.proofs.Common.{ap, ◌∙◌, inl, inr, div-add-mod', add-mul, one-mul, mod-lt, arith}
use Rattle.std.proofs.Math.Arith.{digits_mod}
use Rattle.std.proofs.lemmas.Bool.Decides.{nat_tests}
use Rattle.std.proofs.lemmas.Bool.{cases_lt, cond-true, lt-ltb, and_parts, eqb-true, ltb-true}
use Rattle.sets.specs.Sets.{all_below, is_host_count, phases}
use Rattle.sets.proofs.Tests.{all_each, any_some}
use Rattle.rota.specs.Schedule.{Schedule, Sound}
use Rattle.rota.specs.Cycles.{void, cycle, names, names_exactly, turn_by_turn}

-- a number from k on, less than len past it, that leaves i
pub record Turn (len i k : ℕ) : Type 0 where
  pub at : ℕ
  pub from : k ≤ at
  pub before : at < k + len
  pub rest : at % len ≡ i

-- each remainder comes up among any len consecutive numbers
turn : (len i k : ℕ) → i < len → Turn len i k
turn len i k lt =
    let e : k / len * len + k % len ≡ k = div-add-mod' k len in
    let more : (k / len + 1) * len ≡ k / len * len + len = add-mul (k / len) 1 len ∙ (λ j. k / len * len + one-mul len j) in
    let small : k % len < len = mod-lt k (omega arith) in
    elim (cases_lt i (k % len)) [
      | inl low ↦ record { at = (k / len + 1) * len + i; from = omega arith; before = omega arith; rest = digits_mod (k / len + 1) lt }
      | inr high ↦ record { at = k / len * len + i; from = omega arith; before = omega arith; rest = digits_mod (k / len) lt }
    ]

-- a host at an entry
pub record Entry (len : ℕ) (entry : ℕ → ℕ) (h : ℕ) : Type 0 where
  pub at : ℕ
  pub low : at < len
  pub is : entry at ≡ h

-- entries that are hosts, and among which each host stands, make a sound schedule
pub sound_cycle : (n len : ℕ) (entry : ℕ → ℕ) → (0 < n → 0 < len) → ((i : ℕ) → i < len → entry i < n) → ((h : ℕ) → h < n → Entry len entry h) → Sound (cycle n len entry)
sound_cycle n len entry long low all = record {
  served = λ h k host room.
      (let e = all h host in
      let t = turn len e.at k e.low in
      let soon : t.at < phases = omega arith in
      record {
        phase = t.at;
        from = t.from;
        before = t.before;
        owned = cond-true (nat_lt t.at phases) _ 0 (lt-ltb t.at phases soon) ∙ ap entry t.rest ∙ e.is;
      });
  inside = λ k some. (let l = low (k % len) (mod-lt k (long some)) in grind (arith, nat_tests));
  beyond = λ k past. grind (arith, nat_tests);
}

-- no hosts, nothing to serve
pub sound_void : Sound void
sound_void = record {
  served = λ h k host room. absurd (omega arith);
  inside = λ k some. absurd (omega arith);
  beyond = λ k past. refl;
}

-- a schedule by cases
pub sound_if : (b : Bool) (s : Schedule) → (b ≡ true → Sound s) → Sound (cond b s void)
sound_if true s h = h refl
sound_if false s h = sound_void

-- turn by turn keeps the law
pub sound_turns : (n : ℕ) → Sound (turn_by_turn n)
sound_turns n = sound_if (is_host_count n) (cycle n n (λ i. i)) (λ _. sound_cycle n n (λ i. i) (λ some. some) (λ i l. l) (λ h l. record { at = h; low = l; is = refl }))

-- entries that name exactly the hosts make a sound schedule
pub sound_entries : (n len : ℕ) (es : List ℕ) → (0 < n → 0 < len) → names_exactly es len n ≡ true → Sound (cycle n len (λ i. slice_index es i))
sound_entries n len es long exact =
    let both = and_parts (all_below len (λ i. nat_lt (slice_index es i) n)) (all_below n (names es len)) exact in
    sound_cycle n len (λ i. slice_index es i) long
    (λ i l. ltb-true (slice_index es i) n (all_each len (λ j. nat_lt (slice_index es j) n) both.0 i l))
    (λ h l.
    let w = any_some len (λ i. slice_index es i == h) (all_each n (names es len) both.1 h l) in
    record { at = w.0; low = w.1; is = eqb-true (slice_index es w.0) h w.2 })
