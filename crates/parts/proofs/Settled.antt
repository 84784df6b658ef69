-- Parts are settled, and so is what is read from settled readings one behind the other.
use Rattle.std.proofs.Common.{◌≡◌, ℕ, ◌+◌, ◌<◌, ◌≤◌, min, Bool, true, false, cond, List, [], ◌++◌, length, get_or, take, drop, Some, None, Ok, Err, Option, Result, sym, refl, arith, take-add, append_assoc}
use Rattle.std.proofs.lemmas.List.{length-take-le, length-append, length-drop, get_or_append_left, get_or-take, drop_at}
use Rattle.std.proofs.lemmas.Bool.Decides.{nat_tests}
use Rattle.fault.specs.declared.Refusal.{Refusal}
use Rattle.fault.specs.declared.Layer.{Layer}
use Rattle.fault.specs.declared.Fault.{Fault}
use Rattle.fault.specs.Refusals.{fault_at, first_that_holds, unless}
use Rattle.parts.specs.declared.span.Part.{Part}
use Rattle.parts.specs.Numbers.{byte, word, long_word}
use Rattle.parts.specs.Reading.{Reading, Tests, then, unless_refused, leading, sized, part, already, grown, and_then, giving}
use Rattle.parts.specs.Settled.{Settled}

-- a number that the first n bytes have
abbrev pub InFront : ℕ → (List ℕ → ℕ → ℕ) → Type 0
InFront n number = (bs more : List ℕ) → n ≤ length bs → number (take n bs ++ more) 0 ≡ number bs 0

-- a byte among the first n
front_byte : (n i : ℕ) (bs more : List ℕ) → n ≤ length bs → i < n → get_or (take n bs ++ more) i 0 ≡ get_or bs i 0
front_byte n i bs more l h = grind (arith, get_or_append_left, get_or-take, length-take-le)

pub byte_in_front : InFront 1 byte
byte_in_front bs more l = grind (arith, front_byte)

pub word_in_front : InFront 2 word
word_in_front bs more l = grind (arith, front_byte)

pub long_in_front : InFront 4 long_word
long_in_front bs more l = grind (arith, front_byte)

-- what was accepted before what followed
then_ok : {A B : Type 0} (r : Result A Fault) (f : A → Result B Fault) (y : B) → then r f ≡ Ok y → (x : A) × (r ≡ Ok x) × (f x ≡ Ok y)
then_ok (Ok x) f y h = (x, refl, h)
then_ok (Err e) f y h = cc

-- what was read without the bytes ahead of it
grown_ok : {A : Type 0} (n : ℕ) (r : Result (Part A) Fault) (p : Part A) → grown n r ≡ Ok p → (q : Part A) × (r ≡ Ok q) × (p ≡ sized q.value (n + q.size))
grown_ok n (Ok q) p h = (q, refl, cc)
grown_ok n (Err e) p h = cc

-- an accepted value had no refusal
unless_ok : {A : Type 0} (layer : Layer) (at : ℕ) (o : Option Refusal) (x y : A) → unless_refused layer at o x ≡ Ok y → (o ≡ None) × (y ≡ x)
unless_ok layer at None x y h = (refl, cc)
unless_ok layer at (Some r) x y h = cc

-- of a part: its bytes are there, none of its tests holds, and what is read is its value
pub record Read {A : Type 0} (n : ℕ) (number : List ℕ → ℕ → ℕ) (tests : ℕ → Tests) (value : ℕ → A) (bs : List ℕ) (p : Part A) : Type 0 where
  pub there : n ≤ length bs
  pub passed : first_that_holds (tests (number bs 0)) ≡ None
  pub is : p ≡ sized (value (number bs 0)) n

module _ {A : Type 0} (n : ℕ) (number : List ℕ → ℕ → ℕ) (layer : Layer) (tests : ℕ → Tests) (value : ℕ → A) where
  -- what an accepted part says
  pub part_read : (bs : List ℕ) (at : ℕ) (p : Part A) → part n number layer tests value bs at ≡ Ok p → Read n number tests value bs p
  part_read bs at p h =
      let t = then_ok (leading n (λ ys. number ys 0) layer bs at) (λ w. unless_refused layer at (first_that_holds (tests w)) (sized (value w) n)) p h in
      let u = unless_ok layer at (first_that_holds (tests t.0)) (sized (value t.0) n) p t.2 in
      let l : n ≤ length bs = let k = t.1 in grind (arith, nat_tests) in
      let w : t.0 ≡ number bs 0 = let k = t.1 in grind (arith, nat_tests) in
      record { there = l; passed = rw (← w) u.0; is = rw (← w) u.1 }

  -- and such a part is accepted
  pub part_is : (bs : List ℕ) (at : ℕ) → n ≤ length bs → first_that_holds (tests (number bs 0)) ≡ None → part n number layer tests value bs at ≡ Ok (sized (value (number bs 0)) n)
  part_is bs at l e = grind (arith, nat_tests)

  -- what is read without the tests is refused by the first of them that holds
  pub part_refused : (bs : List ℕ) (at : ℕ) (p : Part A) (r : Refusal) → part n number layer (λ w. []) value bs at ≡ Ok p
      → ◌≡◌ {A = Result (Unit {0}) Refusal} (Err r) (unless (first_that_holds (tests (number bs 0))) tt) → part n number layer tests value bs at ≡ Err (fault_at layer at r)
  part_refused bs at p r h e = grind (arith, nat_tests)

  pub settled_part : InFront n number → Settled (part n number layer tests value)
  settled_part front = record {
    within = λ bs at p h. let r = part_read bs at p h in rw r.is r.there;
    anywhere = λ bs at p h more to.
        let r = part_read bs at p h in
        let f = front bs more r.there in
        let l = length-append (take n bs) more in
        let k = length-take-le n bs r.there in
        let z = part_is (take n bs ++ more) to (omega arith) (rw f r.passed) in
        rw (r.is, ← f) z;
  }

-- nothing more is read
pub settled_already : {A : Type 0} (x : A) → Settled (already x)
settled_already x = record {
  within = λ bs at p h. let e : p.size ≡ 0 = cc in omega arith;
  anywhere = λ bs at p h more to. h;
}

-- bytes ahead of bytes
pub grown-grown : {A : Type 0} (m n : ℕ) (r : Result (Part A) Fault) → grown m (grown n r) ≡ grown (m + n) r
grown-grown m n (Ok p) = grind arith
grown-grown m n (Err x) = refl

-- what was read behind the first n bytes of a span
pub read_behind : {A : Type 0} (read : Reading A) (bs : List ℕ) (at n : ℕ) {ys : List ℕ} {to : ℕ} {r : Result (Part A) Fault}
    → ys ≡ drop n bs → to ≡ at + min n (length bs) → n ≤ length bs → r ≡ read ys to → read (drop n bs) (at + n) ≡ r
read_behind read bs at n {ys} {to} e f l h = let m : to ≡ at + n = omega arith in sym (rw (e, m) at h)

-- what was read first, and what was read behind it
pub record Both {A B : Type 0} (first : Reading A) (next : A → Reading B) (bs : List ℕ) (at : ℕ) (p : Part B) : Type 0 where
  pub fore : Part A
  pub aft : Part B
  pub fore_read : first bs at ≡ Ok fore
  pub aft_read : next fore.value (drop fore.size bs) (at + fore.size) ≡ Ok aft
  pub is : p ≡ sized aft.value (fore.size + aft.size)

module _ {A B : Type 0} (first : Reading A) (next : A → Reading B) where
  -- one behind the other
  pub both_read : (bs : List ℕ) (at : ℕ) (p : Part B) → and_then first next bs at ≡ Ok p → Both first next bs at p
  both_read bs at p h =
      let t = then_ok (first bs at) (λ a. grown a.size (next a.value (drop a.size bs) (at + a.size))) p h in
      let g = grown_ok t.0.size (next t.0.value (drop t.0.size bs) (at + t.0.size)) p t.2 in
      record { fore = t.0; aft = g.0; fore_read = t.1; aft_read = g.1; is = g.2 }

  pub both_is : (bs : List ℕ) (at : ℕ) (a : Part A) (b : Part B) → first bs at ≡ Ok a → next a.value (drop a.size bs) (at + a.size) ≡ Ok b
      → and_then first next bs at ≡ Ok (sized b.value (a.size + b.size))
  both_is bs at a b e f = rw (e, f)

  pub settled_then : Settled first → ((a : A) → Settled (next a)) → Settled (and_then first next)
  settled_then one two = record {
    within = λ bs at p h.
        let r = both_read bs at p h in
        let a = one.within bs at r.fore r.fore_read in
        let b = (two r.fore.value).within (drop r.fore.size bs) (at + r.fore.size) r.aft r.aft_read in
        let d = length-drop r.fore.size bs in
        rw r.is (omega arith);
    anywhere = λ bs at p h more to.
        let r = both_read bs at p h in
        let m = r.fore.size in
        let rest = take r.aft.size (drop m bs) ++ more in
        let l = one.within bs at r.fore r.fore_read in
        let e = one.anywhere bs at r.fore r.fore_read rest to in
        let f = (two r.fore.value).anywhere (drop m bs) (at + m) r.aft r.aft_read more (to + m) in
        let d = drop_at (take m bs) rest m (length-take-le m bs l) in
        let z = both_is (take m bs ++ rest) to r.fore r.aft e (rw d f) in
        rw (r.is, take-add m r.aft.size bs, append_assoc (take m bs) (take r.aft.size (drop m bs)) more) z;
  }

module _ {A B : Type 0} (f : A → B) (read : Reading A) where
  -- what was taken for something else
  pub given_read : (bs : List ℕ) (at : ℕ) (p : Part B) → giving f read bs at ≡ Ok p → (a : Part A) × (read bs at ≡ Ok a) × (p ≡ sized (f a.value) a.size)
  given_read bs at p h = let t = then_ok (read bs at) (λ a. Ok (sized (f a.value) a.size)) p h in (t.0, t.1, cc)

  pub given_is : (bs : List ℕ) (at : ℕ) (a : Part A) → read bs at ≡ Ok a → giving f read bs at ≡ Ok (sized (f a.value) a.size)
  given_is bs at a e = rw e

  pub settled_giving : Settled read → Settled (giving f read)
  settled_giving s = record {
    within = λ bs at p h. let r = given_read bs at p h in rw r.2 (s.within bs at r.0 r.1);
    anywhere = λ bs at p h more to.
        let r = given_read bs at p h in
        rw r.2 (given_is (take r.0.size bs ++ more) to r.0 (s.anywhere bs at r.0 r.1 more to));
  }

-- either of two
pub settled_cond : {A : Type 0} (b : Bool) (x y : Reading A) → Settled x → Settled y → Settled (cond b x y)
settled_cond true x y s t = s
settled_cond false x y s t = t
