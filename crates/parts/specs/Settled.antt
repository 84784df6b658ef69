-- What a reading depends on.
use Rattle.std.specs.Prelude.{◌≡◌, ℕ, ◌≤◌, List, ◌++◌, length, take, Ok}
use Rattle.parts.specs.declared.span.Part.{Part}
use Rattle.parts.specs.Reading.{Reading}

-- what is accepted depends on the bytes that it takes, and on nothing else
pub record Settled {A : Type 0} (read : Reading A) : Type 0 where
  -- it takes no more than there is
  pub within : (bs : List ℕ) (at : ℕ) (p : Part A) → read bs at ≡ Ok p → p.size ≤ length bs
  -- elsewhere, and with other bytes behind, the same is read
  pub anywhere : (bs : List ℕ) (at : ℕ) (p : Part A) → read bs at ≡ Ok p → (more : List ℕ) (to : ℕ) → read (take p.size bs ++ more) to ≡ Ok p
