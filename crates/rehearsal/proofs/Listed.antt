-- Candidates that are read one after another.
use Rattle.std.proofs.Common.{◌≡◌, ℕ, zero, suc, ◌+◌, ◌*◌, ◌/◌, ◌<◌, ◌≤◌, true, List, [], ◌∷◌, map, length, take, drop, slice_index, refl, sym, ap, subst, ◌∙◌, mul_comm, mul-suc, mul-le-mul_left, arith, IfSome, Option, length-take, length-drop}
use Rattle.std.proofs.lemmas.List.{get_or-take, get_or-drop}
use Rattle.std.proofs.lemmas.Option.{IfSome_then}
use Rattle.std.proofs.Math.Nat.{mul-div_cancel_left}
use Rattle.std.proofs.iter.runs.Made.{at-is}
use Rattle.std.specs.Iterator.Runs.{Run, ItemsMapToExactChunks}
use Rattle.std.specs.List.{IsSubsliceAt, range_with_len, slice_get}
use Rattle.rehearsal.specs.Reading.{list_at}

-- v of each item is f of its place
by_places : {A C : Type 0} (v : A → C) (f : ℕ → C) (xs : List A) (a : ℕ) → ((k : ℕ) → IfSome (slice_get xs k) (λ x. v x ≡ f (a + k))) → map v xs ≡ map f (range_with_len a (length xs))
by_places v f [] a h = refl
by_places v f (x ∷ xs) a h =
    let first : v x ≡ f a = h 0 ∙ ap f (omega arith) in
    let rest = by_places v f xs (a + 1) (λ k. IfSome_then (slice_get xs k) (h (suc k)) (λ y e. e ∙ ap f (omega arith))) in
    λ i. first i ∷ rest i

-- two functions that agree at each number
same_listed : {C : Type 0} (f g : ℕ → C) (a n : ℕ) → ((i : ℕ) → i < a + n → f i ≡ g i) → map f (range_with_len a n) ≡ map g (range_with_len a n)
same_listed f g a zero h = refl
same_listed f g a (suc n) h =
    let first = h a (omega arith) in
    let rest = same_listed f g (a + 1) n (λ i l. h i (omega arith)) in
    λ i. first i ∷ rest i

-- one more of a size ends within as many as there are
within : (size i n : ℕ) → i < n → size * i + size ≤ size * n
within size i n l = let h : size * suc i ≤ size * n = mul-le-mul_left size l in omega (arith, mul-suc size i)

-- `own` is the law of a kind of candidate: only its own bytes are read
module _ {C : Type 0} (size : ℕ) (read : List ℕ → ℕ → C) (some : 0 < size)
    (own : (bs cs : List ℕ) (at place : ℕ) → ((i : ℕ) → i < size → slice_index bs (at + i) ≡ slice_index cs (place + i)) → read bs at ≡ read cs place) where
  -- each chunk is a candidate
  pub chunks_listed : {S A : Type 0} {steps : S → Option A → S → Type 0} (q : Run steps) (v : A → List ℕ) (bs : List ℕ) → ItemsMapToExactChunks q v size bs → q.whole ≡ true → map (λ x. read (v x) 0) q.items ≡ list_at size read bs 0 (length bs / size)
  chunks_listed {A = A} q v bs h whole =
      let each : (k : ℕ) → IfSome (slice_get q.items k) (λ x. read (v x) 0 ≡ read bs (0 + size * (0 + k)))
      = λ k. IfSome_then (slice_get q.items k) (subst (λ (o : Option A). IfSome o (λ x. (length (v x) ≡ size) × (k * size + size ≤ length bs) × IsSubsliceAt size bs (k * size) (v x))) (at-is q k) (h.2 k)) (λ x e. own (v x) bs 0 (0 + size * (0 + k)) (λ i l. ap (slice_index (v x)) (omega arith) ∙ e.2.2 i 0 l ∙ ap (slice_index bs) (omega (arith, mul_comm k size)))) in
      by_places (λ x. read (v x) 0) (λ i. read bs (0 + size * i)) q.items 0 each ∙ ap (list_at size read bs 0) (sym q.long ∙ h.1 whole)

  -- m candidates, from a part of the bytes
  pub part_listed : (bs part : List ℕ) (at m : ℕ) → part ≡ take (size * m) (drop at bs) → at + size * m ≤ length bs → list_at size read part 0 (length part / size) ≡ list_at size read bs at m
  part_listed bs part at m e l =
      let long : length part ≡ size * m = omega (arith, ap length e, length-take (size * m) (drop at bs), length-drop at bs) in
      let count : length part / size ≡ m = ap (λ (k : ℕ). k / size) long ∙ mul-div_cancel_left m some in
      let byte : (k : ℕ) → k < size * m → slice_index part k ≡ slice_index bs (at + k) = λ k h. ap (λ (p : List ℕ). slice_index p k) e ∙ get_or-take (size * m) (drop at bs) k 0 h ∙ get_or-drop at bs k 0 in
      let each : (i : ℕ) → i < 0 + m → read part (0 + size * i) ≡ read bs (at + size * i)
      = λ i h. let w = within size i m (omega arith) in own part bs (0 + size * i) (at + size * i) (λ j n. byte (0 + size * i + j) (omega arith) ∙ ap (slice_index bs) (omega arith)) in
      ap (list_at size read part 0) count ∙ same_listed (λ i. read part (0 + size * i)) (λ i. read bs (at + size * i)) 0 m each
