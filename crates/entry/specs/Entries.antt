-- The layout of an entry. Fields have their most significant bit first.
use Rattle.std.specs.Prelude.{ℕ, ◌/◌, ◌%◌, ◌^◌, Bool, cond, not, ◌&&◌, ◌||◌, [], ◌∷◌, ◌==◌, nat_le, nat_lt}
use Rattle.fault.specs.declared.Refusal.TheVariants.{NotZero, UnknownHost, SameHost, FaultyRecipient, WrongOrigin, PairMet, BodyCount, UnknownPlace}
use Rattle.fault.specs.declared.Layer.TheVariants as layers
use Rattle.sets.specs.Sets.{has}
use Rattle.parts.specs.Numbers.{word}
use Rattle.parts.specs.Reading.{Reading, Tests, part, already, and_then, giving}
use Rattle.body.specs.declared.kinds.Limits.{Limits}
use Rattle.body.specs.declared.kinds.Body.{Body}
use Rattle.body.specs.Bodies.{places}
use Rattle.entry.specs.declared.letter.Bodies.{Bodies}
use Rattle.entry.specs.declared.letter.Bodies.TheVariants.{None, One, Two}
use Rattle.entry.specs.declared.letter.Letter.{Letter}
use Rattle.entry.specs.declared.letter.Entry.{Entry}
use Rattle.entry.specs.declared.letter.Entry.TheVariants.{Carried, Forged}
use Rattle.entry.specs.declared.letter.Head.{Head}

-- forged (1 bit), sender (4), recipient (4), input (5), number of bodies (2)
abbrev pub fields : ℕ → Head
fields w = record {
  forged = w / 2 ^ 15 == 1;
  sender = w / 2 ^ 11 % 16;
  recipient = w / 2 ^ 7 % 16;
  input = w / 2 ^ 2 % 32;
  count = w % 4;
}

-- one holds and the other does not
abbrev pub differ : Bool → Bool → Bool
differ a b = cond a (not b) b

-- the tests of a head, in a round whose letters have at most so many bodies, where some pairs were met before
abbrev pub head_tests : Limits → ℕ → (ℕ → ℕ → Bool) → Head → Tests
head_tests lim most met h =
    (nat_le lim.hosts h.sender || nat_le lim.hosts h.recipient, UnknownHost)
    ∷ (h.sender == h.recipient, SameHost)
    ∷ (has lim.faulty h.recipient, FaultyRecipient)
    ∷ (differ h.forged (has lim.faulty h.sender), WrongOrigin)
    ∷ (met h.recipient h.sender, PairMet)
    ∷ (not h.forged && not (h.input == 0 && h.count == 0), NotZero)
    ∷ (h.forged && nat_lt most h.count, BodyCount)
    ∷ (h.forged && nat_le lim.places h.input, UnknownPlace)
    ∷ []

-- the bodies of a letter, one behind the other
unfoldable pub bodies_of : Reading Body → ℕ → Reading Bodies
bodies_of body count =
    cond (count == 0) (already None)
    (cond (count == 1) (giving One body)
    (and_then body (λ a. giving (Two a) body)))

-- the letter with this input, set of candidates and bodies
abbrev pub letter : ℕ → ℕ → Bodies → Letter
letter input proper bodies = record { input = input; proper = proper; bodies = bodies }

-- what stands behind a head: of a carried letter nothing, of a forged one PROPER (32 bits) and its bodies
abbrev pub content : Limits → Reading Body → Head → Reading Entry
content lim body h =
    cond h.forged
    (and_then (places lim layers.Entry) (λ p. giving (λ b. Forged (letter h.input p b)) (bodies_of body h.count)))
    (already Carried)

-- an entry with its pair
pub record Met : Type 0 where
  pub recipient : ℕ
  pub sender : ℕ
  pub entry : Entry

-- the entry of a recipient and a sender
abbrev pub met : ℕ → ℕ → Entry → Met
met i j e = record { recipient = i; sender = j; entry = e }

-- a head (16 bits) with its tests, and what stands behind it
abbrev pub headed : (Head → Tests) → Limits → Reading Body → Reading Met
headed tests lim body =
    and_then (part 2 word layers.Entry (λ w. tests (fields w)) fields)
    (λ h. giving (met h.recipient h.sender) (content lim body h))

-- an entry of a pair that had none before
abbrev pub entry : Limits → ℕ → Reading Body → (ℕ → ℕ → Bool) → Reading Met
entry lim most body before = headed (head_tests lim most before) lim body
