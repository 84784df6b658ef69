-- What an entry says that was met in a bag, its bodies being still bytes.
use Rattle.std.specs.Prelude.{◌≡◌, ℕ, ◌+◌, ◌-◌, List, take, drop, Ok, Err, Option, Result}
use Rattle.std.specs.Option.{option_map}
use Rattle.std.specs.Result.{result_ok}
use Rattle.fault.specs.declared.Fault.{Fault}
use Rattle.parts.specs.declared.span.Part.{Part}
use Rattle.parts.specs.Reading.{Reading, placed_at, sized, then}
use Rattle.body.specs.declared.kinds.Body.{Body}
use Rattle.entry.specs.declared.letter.Entry.{Entry}
use Rattle.entry.specs.declared.letter.Entry.TheVariants.{Carried, Forged}
use Rattle.entry.specs.declared.letter.RawEntry.{RawEntry}
use Rattle.entry.specs.declared.letter.RawEntry.TheVariants as raw
use Rattle.entry.specs.declared.letter.MetEntry.{MetEntry}
use Rattle.entry.specs.Entries.{Met, bodies_of, letter, met}

-- the entry, its bodies read from the bytes that it borrows
abbrev pub entry_of : Reading Body → RawEntry → Result Entry Fault
entry_of body raw.Carried = Ok Carried
entry_of body (raw.Forged input proper count bodies at) = then (bodies_of body count bodies.now (placed_at bodies.now at)) (λ b. Ok (Forged (letter input proper b.value)))

-- the same, if its bodies are read without a fault
abbrev pub entry_in : Reading Body → RawEntry → Option Entry
entry_in body e = result_ok (entry_of body e)

-- the same with its pair
abbrev pub met_of : Reading Body → MetEntry → Option Met
met_of body m = option_map (met m.recipient m.sender) (entry_in body m.entry)

-- what was read, as what it says
abbrev pub opened : {A B : Type 0} → (A → Option B) → Result (Part A) Fault → Result (Part (Option B)) Fault
opened says (Ok p) = Ok (sized (says p.value) p.size)
opened says (Err e) = Err e

-- the bodies are the bytes of the bag behind PROPER, and the offset is theirs
abbrev pub Borrows : RawEntry → ℕ → List ℕ → ℕ → Type 0
Borrows raw.Carried size bs at = Unit {0}
Borrows (raw.Forged input proper count bodies to) size bs at = (bodies.now ≡ take (size - 4) (drop 4 bs)) × (to ≡ at + 4)
