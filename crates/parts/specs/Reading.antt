-- How the parts of a bag are read: each at the front of the bytes that are left, with the offset of that front in the bag.
use Rattle.std.specs.Prelude.{ℕ, ◌+◌, ◌-◌, ◌^◌, ◌≤◌, min, Bool, cond, List, length, drop, Some, None, Ok, Err, Option, Result, IfOk, nat_lt}
use Rattle.fault.specs.declared.Refusal.{Refusal}
use Rattle.fault.specs.declared.Refusal.TheVariants.{ShortPart}
use Rattle.fault.specs.declared.Layer.{Layer}
use Rattle.fault.specs.declared.Fault.{Fault}
use Rattle.fault.specs.Refusals.{fault_at, first_that_holds}
use Rattle.parts.specs.declared.span.Part.{Part}

-- from the bytes that are left, and the offset of the first of them, to what stands at their front and how many bytes it takes
abbrev pub Reading : Type 0 → Type 0
Reading A = List ℕ → ℕ → Result (Part A) Fault

-- where bytes can begin that are to end at a number of 64 bits
abbrev pub placed_at : List ℕ → ℕ → ℕ
placed_at bs at = min at (2 ^ 64 - 1 - length bs)

-- the tests of a part, each with its refusal, in their order
abbrev pub Tests : Type 0
Tests = List (Bool × Refusal)

-- what follows an answer that is no fault
abbrev pub then : {A B : Type 0} → Result A Fault → (A → Result B Fault) → Result B Fault
then (Ok x) f = f x
then (Err e) f = Err e

-- x, unless there is a refusal
abbrev pub unless_refused : {A : Type 0} → Layer → ℕ → Option Refusal → A → Result A Fault
unless_refused layer at None x = Ok x
unless_refused layer at (Some refusal) x = Err (fault_at layer at refusal)

-- a value that takes n bytes
abbrev pub sized : {A : Type 0} → A → ℕ → Part A
sized x n = record { value = x; size = n }

-- what the first n bytes say, if there are so many
abbrev pub leading : {A : Type 0} → ℕ → (List ℕ → A) → Layer → List ℕ → ℕ → Result A Fault
leading n says layer bs at = cond (nat_lt (length bs) n) (Err (fault_at layer at ShortPart)) (Ok (says bs))

-- a part is the number in n bytes: it is refused where it is longer than what is left, and then by the first of its tests that holds
abbrev pub part : {A : Type 0} → ℕ → (List ℕ → ℕ → ℕ) → Layer → (ℕ → Tests) → (ℕ → A) → Reading A
part n number layer tests value bs at =
    then (leading n (λ ys. number ys 0) layer bs at) (λ w. unless_refused layer at (first_that_holds (tests w)) (sized (value w) n))

-- an answer takes no more bytes than there are
abbrev pub Within : {A : Type 0} → List ℕ → Result (Part A) Fault → Type 0
Within bs result = IfOk result (λ p. p.size ≤ length bs)

-- nothing more is read
abbrev pub already : {A : Type 0} → A → Reading A
already x bs at = Ok (sized x 0)

-- what was read, and n bytes ahead of it
abbrev pub grown : {A : Type 0} → ℕ → Result (Part A) Fault → Result (Part A) Fault
grown n (Ok p) = Ok (sized p.value (n + p.size))
grown n (Err e) = Err e

-- what is read first, and then what stands behind it
abbrev pub and_then : {A B : Type 0} → Reading A → (A → Reading B) → Reading B
and_then first next bs at = then (first bs at) (λ a. grown a.size (next a.value (drop a.size bs) (at + a.size)))

-- the same bytes, taken for something else
abbrev pub giving : {A B : Type 0} → (A → B) → Reading A → Reading B
giving f read bs at = then (read bs at) (λ a. Ok (sized (f a.value) a.size))
