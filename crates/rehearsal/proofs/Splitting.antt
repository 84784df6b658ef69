-- Bags split off one after another, and the loop that counts them.
use Rattle.std.proofs.Common.{◌≡◌, ℕ, zero, suc, ◌+◌, ◌<◌, ◌≤◌, Bool, true, ltb, List, [], ◌∷◌, length, take, drop, sym, refl, ap, ◌∙◌, ⊎_elim, arith, length-drop, lit<, ◌*◌}
use Rattle.std.proofs.lemmas.List.{drop-drop, get_or-take}
use Rattle.std.proofs.lemmas.Bool.{cases_lt, le-ltb, lt-ltb}
use Rattle.std.proofs.lemmas.Bool.Decides.{nat_tests}
use Rattle.rehearsal.specs.declared.bags.BagCount.{BagCount}
use Rattle.parts.specs.Numbers.{word}
use Rattle.rehearsal.specs.Bags.{Bags, with_bag, first_bags, bags_of, counted}

-- any number of bags that suffices will do
enough : (j k : ℕ) (bs : List ℕ) → length bs ≤ j → length bs ≤ k → first_bags j bs ≡ first_bags k bs
unfolding first_bags
enough zero zero bs p q = refl
enough zero (suc k) bs p q = grind (arith, nat_tests)
enough (suc j) zero bs p q = grind (arith, nat_tests)
enough (suc j) (suc k) bs p q = ⊎_elim
    (λ few. let a = lt-ltb (length bs) 2 few in rw a)
    (λ some.
    let e = length-drop (2 + word bs 0) bs in
    let h = enough j k (drop (2 + word bs 0) bs) (omega arith) (omega arith) in
    rw h)
    (cases_lt (length bs) 2)

-- no byte count is left
pub bags_few : (bs : List ℕ) → length bs < 2 → bags_of bs ≡ record { whole = []; torn = ltb 0 (length bs) }
unfolding first_bags
bags_few [] p = refl
bags_few (b ∷ bs) p = let a = lt-ltb (length (b ∷ bs)) 2 p in rw a

-- fewer bytes are left than the count says
pub bags_torn : (bs : List ℕ) → 2 ≤ length bs → length bs < 2 + word bs 0 → bags_of bs ≡ record { whole = []; torn = true }
unfolding first_bags
bags_torn [] p q = absurd (omega arith)
bags_torn (b ∷ bs) p q = let a = le-ltb (length (b ∷ bs)) 2 p in let e = lt-ltb (length (b ∷ bs)) (2 + word (b ∷ bs) 0) q in rw (a, e)

-- a whole bag is left
pub bags_more : (bs : List ℕ) → 2 ≤ length bs → 2 + word bs 0 ≤ length bs → bags_of bs ≡ with_bag (take (word bs 0) (drop 2 bs)) (bags_of (drop (2 + word bs 0) bs))
unfolding first_bags
bags_more [] p q = absurd (omega arith)
bags_more (b ∷ bs) p q =
    let a = le-ltb (length (b ∷ bs)) 2 p in
    let e = le-ltb (length (b ∷ bs)) (2 + word (b ∷ bs) 0) q in
    let d = length-drop (2 + word (b ∷ bs) 0) (b ∷ bs) in
    let rest = drop (2 + word (b ∷ bs) 0) (b ∷ bs) in
    let h = enough (length bs) (length rest) rest (omega arith) (omega arith) in
    rw (a, e) (ap (with_bag (take (word (b ∷ bs) 0) (drop 2 (b ∷ bs)))) h)

-- so many counted ahead of what is left
abbrev pub after : ℕ → BagCount → BagCount
after whole c = record { whole = whole + c.whole; torn = c.torn }

-- what has been counted, and what is left to count
abbrev pub Counting : List ℕ → ℕ → List ℕ → Type 0
Counting bytes whole rest = (whole + length rest ≤ length bytes) × (counted (bags_of bytes) ≡ after whole (counted (bags_of rest)))

-- the loop ends with nothing whole left
last : (bytes rest : List ℕ) (whole : ℕ) (torn : Bool) → bags_of rest ≡ record { whole = []; torn = torn } → Counting bytes whole rest → record { whole = whole; torn = torn } ≡ counted (bags_of bytes)
last bytes rest whole torn f h =
    let k : whole + 0 ≡ whole = omega arith in
    sym (h.1 ∙ ap (λ (b : Bags). after whole (counted b)) f ∙ ap (λ (j : ℕ). record { whole = j; torn = torn }) k)

-- nothing, or half a byte count, is left
pub last_few : (bytes rest : List ℕ) (whole : ℕ) (torn : Bool) → length rest < 2 → torn ≡ ltb 0 (length rest) → Counting bytes whole rest → record { whole = whole; torn = torn } ≡ counted (bags_of bytes)
last_few bytes rest whole torn p e = last bytes rest whole torn (bags_few rest p ∙ ap (λ (t : Bool). record { whole = []; torn = t }) (sym e))

-- a byte count s, as it is split off
abbrev pub SplitOff : List ℕ → List ℕ → List ℕ → ℕ → Type 0
SplitOff rest front behind s = (front ≡ take 2 rest) × (behind ≡ drop 2 rest) × (length behind + 2 ≡ length rest) × (s ≡ word front 0)

-- it is that at the front
same_count : (rest front behind : List ℕ) (s : ℕ) → SplitOff rest front behind s → s ≡ word rest 0
same_count rest front behind s h = h.3 ∙ ap (λ (f : List ℕ). word f 0) h.0 ∙ (λ i. get_or-take 2 rest 0 0 (lit< tt) i * 256 + get_or-take 2 rest 1 0 (lit< tt) i)

-- a bag is left that is cut off
pub last_torn : (bytes rest front behind : List ℕ) (whole s : ℕ) → SplitOff rest front behind s → length behind < s → Counting bytes whole rest → record { whole = whole; torn = true } ≡ counted (bags_of bytes)
last_torn bytes rest front behind whole s h p = let e = same_count rest front behind s h in last bytes rest whole true (bags_torn rest (omega (arith, h.2)) (omega (arith, h.2)))

-- one bag more is counted
pub past_one : (bytes rest front behind next : List ℕ) (whole s : ℕ) → SplitOff rest front behind s → s ≤ length behind → next ≡ drop s behind → Counting bytes whole rest → Counting bytes (whole + 1) next
past_one bytes rest front behind next whole s h p n k =
    let e = same_count rest front behind s h in
    let left = counted (bags_of (drop (2 + s) rest)) in
    let m : counted (bags_of rest) ≡ record { whole = suc left.whole; torn = left.torn } = ap counted (bags_more rest (omega (arith, h.2)) (omega (arith, h.2))) ∙ ap (λ (j : ℕ). counted (with_bag (take (word rest 0) (drop 2 rest)) (bags_of (drop (2 + j) rest)))) (sym e) in
    let j : whole + suc left.whole ≡ whole + 1 + left.whole = omega arith in
    let d : next ≡ drop (2 + s) rest = n ∙ ap (drop s) h.1 ∙ drop-drop s 2 rest in
    let l = length-drop (2 + s) rest in
    rw d (omega (arith, h.2, k.0), k.1 ∙ ap (after whole) m ∙ ap (λ (i : ℕ). record { whole = i; torn = left.torn }) j)
