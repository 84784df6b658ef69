-- A setup that was cut off before its end.
use Rattle.std.specs.Prelude.{◌≡◌, ℕ, ◌<◌, List, [], ◌∷◌, ◌++◌, length, Some, codes}
use Rattle.rehearsal.specs.declared.read.Kind.{Kind}
use Rattle.rehearsal.specs.Reading.{head_of, setup_size, size_in}

-- the bytes begin as a rehearsal of some kind of candidate does, and end before its setup does
pub record CutShort (whole bytes : List ℕ) : Type 0 where
  pub kind : Kind
  pub sorted : (head_of whole).kind ≡ Some kind
  pub rest : List ℕ
  pub begins : whole ≡ bytes ++ rest
  pub early : length bytes < setup_size (size_in kind) (head_of whole)

-- the one line that is then printed
abbrev pub short_text : List ℕ
short_text = codes "short" ++ 10 ∷ []
