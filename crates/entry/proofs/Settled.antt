-- An entry depends on the bytes that it takes, if its bodies do.
use Rattle.std.proofs.Common.{◌≡◌, ℕ, eqb, List, [], take, Ok, sym, append-nil}
use Rattle.fault.specs.declared.Layer.TheVariants as layers
use Rattle.parts.specs.declared.span.Part.{Part}
use Rattle.parts.specs.Numbers.{long_word}
use Rattle.parts.specs.Reading.{Reading, already, giving}
use Rattle.parts.specs.Settled.{Settled}
use Rattle.parts.proofs.Settled.{long_in_front, settled_part, settled_already, settled_then, settled_giving, settled_cond}
use Rattle.body.specs.declared.kinds.Limits.{Limits}
use Rattle.body.specs.declared.kinds.Body.{Body}
use Rattle.body.specs.Bodies.{places_tests, places}
use Rattle.entry.specs.declared.letter.Bodies.TheVariants.{None, One, Two}
use Rattle.entry.specs.declared.letter.Entry.TheVariants.{Carried, Forged}
use Rattle.entry.specs.declared.letter.Head.{Head}
use Rattle.entry.specs.Entries.{bodies_of, letter, content}

-- alone, the bytes that it took are read as the same
pub alone : {A : Type 0} (read : Reading A) → Settled read → (bs : List ℕ) (at to : ℕ) (p : Part A) → Ok p ≡ read bs at → read (take p.size bs) to ≡ Ok p
alone read s bs at to p h = simp append-nil at (s.anywhere bs at p (sym h) [] to)

module _ (body : Reading Body) (s : Settled body) where
  pub settled_bodies : (count : ℕ) → Settled (bodies_of body count)
  unfolding bodies_of
  settled_bodies count =
      settled_cond (eqb count 0) (already None) _ (settled_already None)
      (settled_cond (eqb count 1) (giving One body) _ (settled_giving One body s)
      (settled_then body (λ a. giving (Two a) body) s (λ a. settled_giving (Two a) body s)))

  pub settled_content : (lim : Limits) (h : Head) → Settled (content lim body h)
  settled_content lim h =
      settled_cond h.forged _ (already Carried)
      (settled_then (places lim layers.Entry) (λ p. giving (λ b. Forged (letter h.input p b)) (bodies_of body h.count))
      (settled_part 4 long_word layers.Entry (places_tests lim) (λ m. m) long_in_front)
      (λ p. settled_giving (λ b. Forged (letter h.input p b)) (bodies_of body h.count) (settled_bodies h.count)))
      (settled_already Carried)
