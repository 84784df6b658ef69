-- The lines behind a head, from what the code has read.
use Rattle.std.proofs.Common.{◌≡◌, ℕ, ◌+◌, ◌-◌, ◌*◌, ◌/◌, ◌<◌, ◌≤◌, Bool, false, ltb, List, length, take, drop, slice_index, ap, ◌∙◌, arith}
use Rattle.std.proofs.lemmas.List.{take_rest}
use Rattle.std.proofs.lemmas.Bool.{le-ltb}
use Rattle.rehearsal.specs.declared.read.Head.{Head}
use Rattle.rehearsal.specs.Reading.{list_at, setup_size}
use Rattle.rehearsal.specs.Lines.{kind_lines, council_lines}
use Rattle.rehearsal.proofs.Listed.{part_listed}

-- the candidates of a part
abbrev pub listed : {C : Type 0} → ℕ → (List ℕ → ℕ → C) → List ℕ → List C
listed size read part = list_at size read part 0 (length part / size)

-- a and b are how long the candidates and the inputs are
pub behind : {C : Type 0} (equal : C → C → Bool) (size : ℕ) (read : List ℕ → ℕ → C) (some : 0 < size)
    (own : (bs cs : List ℕ) (at place : ℕ) → ((i : ℕ) → i < size → slice_index bs (at + i) ≡ slice_index cs (place + i)) → read bs at ≡ read cs place)
    (h : Head) (bs : List ℕ) (a b : ℕ) (cs xs : List C)
    → a ≡ size * h.m → b ≡ size * h.n → 4 + a + b ≤ length bs → cs ≡ listed size read (take (4 + a - 4) (drop 4 bs)) → xs ≡ listed size read (take (4 + a + b - (4 + a)) (drop (4 + a) bs))
    → council_lines equal h cs xs (take (length bs - (4 + a + b)) (drop (4 + a + b) bs)) ≡ kind_lines equal size read h bs
behind equal size read some own h bs a b cs xs p q long c x =
    let e : ltb (length bs) (setup_size size h) ≡ false = le-ltb (length bs) (setup_size size h) (omega arith) in
    let cs' = c ∙ part_listed size read some own bs (take (4 + a - 4) (drop 4 bs)) 4 h.m (ap (λ (k : ℕ). take k (drop 4 bs)) (omega arith)) (omega arith) in
    let xs' = x ∙ part_listed size read some own bs (take (4 + a + b - (4 + a)) (drop (4 + a) bs)) (4 + a) h.n (ap (λ (k : ℕ). take k (drop (4 + a) bs)) (omega arith)) (omega arith) ∙ ap (λ (s : ℕ). list_at size read bs (4 + s) h.n) p in
    let bags = take_rest bs (4 + a + b) ∙ (λ i. drop (4 + p i + q i) bs) in
    rw e (λ i. council_lines equal h (cs' i) (xs' i) (bags i))
