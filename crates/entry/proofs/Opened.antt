-- What an entry that was met in a bag says of what was read there.
use Rattle.std.proofs.Common.{◌≡◌, ℕ, List, Some, Ok, Err, Option, sym, ap, arith}
use Rattle.fault.specs.declared.Fault.{Fault}
use Rattle.parts.specs.declared.span.Part.{Part}
use Rattle.parts.specs.Reading.{Reading, sized, giving}
use Rattle.parts.proofs.Settled.{given_read}
use Rattle.body.specs.declared.kinds.Body.{Body}
use Rattle.entry.specs.declared.letter.MetEntry.{MetEntry}
use Rattle.entry.specs.Entries.{Met}
use Rattle.entry.specs.Raw.{met_of, opened}

-- what was read, and as what it was met
pub record Meant {A B : Type 0} (says : A → Option B) (read : Reading B) (bs : List ℕ) (at : ℕ) (p : Part A) : Type 0 where
  pub whole : Part B
  pub whole_read : Ok whole ≡ read bs at
  pub size : whole.size ≡ p.size
  pub said : says p.value ≡ Some whole.value

module _ {A B : Type 0} (says : A → Option B) (read : Reading B) (bs : List ℕ) (at : ℕ) where
  pub opened_ok : (p : Part A) → opened says (Ok p) ≡ giving Some read bs at → Meant says read bs at p
  opened_ok p h =
      let g = given_read Some read bs at (sized (says p.value) p.size) (sym h) in
      record { whole = g.0; whole_read = sym g.1; size = sym (ap (λ (q : Part (Option B)). q.size) g.2); said = ap (λ (q : Part (Option B)). q.value) g.2 }

  pub opened_err : (e : Fault) → opened says (Err e) ≡ giving Some read bs at → Err e ≡ read bs at
  opened_err e h = grind arith

-- an entry is of its own pair
pub pair_of : (body : Reading Body) (e : MetEntry) (m : Met) → met_of body e ≡ Some m → (e.recipient ≡ m.recipient) × (e.sender ≡ m.sender)
pair_of body e m h = (grind arith, grind arith)
