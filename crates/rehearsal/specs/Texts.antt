-- How lines are printed, as lists of bytes.
use Rattle.std.specs.Prelude.{ℕ, List, [], ◌∷◌, ◌++◌, codes, decimal}
use Rattle.std.specs.List.{flat_map}
use Rattle.fault.specs.Refusals.{number}
use Rattle.rehearsal.specs.declared.line.Line.{Line}
use Rattle.rehearsal.specs.declared.line.Line.TheVariants.{Sort, Short, Setup, Unplayed, HostOpen, HostFaulty}

-- each line, without its end
abbrev pub line_text : Line → List ℕ
line_text Sort = codes "sort"
line_text Short = codes "short"
line_text (Setup f) = codes "setup " ++ decimal (number f)
line_text (Unplayed k) = codes "bags not played: " ++ decimal k
line_text (HostOpen j) = decimal j ++ codes " open"
line_text (HostFaulty j) = decimal j ++ codes " faulty"

-- a line with its end
abbrev pub ended_line : Line → List ℕ
ended_line l = line_text l ++ 10 ∷ []

-- lines one below the other
abbrev pub text_of : List Line → List ℕ
text_of ls = flat_map ended_line ls
