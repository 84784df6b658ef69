-- What an accepted entry says: its head passed its tests, and what stands behind it was read.
use Rattle.std.proofs.Common.{◌≡◌, ℕ, ◌+◌, ◌≤◌, List, length, drop, None, Ok}
use Rattle.fault.specs.declared.Layer.TheVariants as layers
use Rattle.fault.specs.Refusals.{first_that_holds}
use Rattle.parts.specs.declared.span.Part.{Part}
use Rattle.parts.specs.Numbers.{word}
use Rattle.parts.specs.Reading.{Reading, Tests, sized, part, giving}
use Rattle.parts.proofs.Settled.{part_read, part_is, both_read, both_is, given_read, given_is}
use Rattle.body.specs.declared.kinds.Limits.{Limits}
use Rattle.body.specs.declared.kinds.Body.{Body}
use Rattle.entry.specs.declared.letter.Entry.{Entry}
use Rattle.entry.specs.declared.letter.Head.{Head}
use Rattle.entry.specs.Entries.{Met, met, fields, content, headed}

-- the head at the front
abbrev pub head_of : List ℕ → Head
head_of bs = fields (word bs 0)

-- the entry of a head
abbrev pub met_by : Head → Entry → Met
met_by h = met h.recipient h.sender

-- of an entry that was read
pub record Headed (tests : Head → Tests) (lim : Limits) (body : Reading Body) (bs : List ℕ) (at : ℕ) (p : Part Met) : Type 0 where
  pub there : 2 ≤ length bs
  pub passed : first_that_holds (tests (head_of bs)) ≡ None
  pub rest : Part Entry
  pub rest_read : content lim body (head_of bs) (drop 2 bs) (at + 2) ≡ Ok rest
  pub is : p ≡ sized (met_by (head_of bs) rest.value) (2 + rest.size)

module _ (tests : Head → Tests) (lim : Limits) (body : Reading Body) where
  -- what stands behind a head, with its pair
  abbrev behind : Head → Reading Met
  behind h = giving (met_by h) (content lim body h)

  -- the head itself
  abbrev front : Reading Head
  front = part 2 word layers.Entry (λ w. tests (fields w)) fields

  pub headed_read : (bs : List ℕ) (at : ℕ) (p : Part Met) → headed tests lim body bs at ≡ Ok p → Headed tests lim body bs at p
  headed_read bs at p k =
      let b = both_read front behind bs at p k in
      let r = part_read 2 word layers.Entry (λ w. tests (fields w)) fields bs at b.fore b.fore_read in
      let g = given_read (met_by (head_of bs)) (content lim body (head_of bs)) (drop 2 bs) (at + 2) b.aft (rw r.is at b.aft_read) in
      record { there = r.there; passed = r.passed; rest = g.0; rest_read = g.1; is = cc }

  pub headed_is : (bs : List ℕ) (at : ℕ) (e : Part Entry) → 2 ≤ length bs → first_that_holds (tests (head_of bs)) ≡ None → content lim body (head_of bs) (drop 2 bs) (at + 2) ≡ Ok e
      → headed tests lim body bs at ≡ Ok (sized (met_by (head_of bs) e.value) (2 + e.size))
  headed_is bs at e l n c =
      both_is front behind bs at (sized (head_of bs) 2) (sized (met_by (head_of bs) e.value) e.size)
      (part_is 2 word layers.Entry (λ w. tests (fields w)) fields bs at l n)
      (given_is (met_by (head_of bs)) (content lim body (head_of bs)) (drop 2 bs) (at + 2) e c)
