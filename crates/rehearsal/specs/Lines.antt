-- The lines of a rehearsal.
use Rattle.std.specs.Prelude.{ℕ, Bool, cond, List, [], ◌∷◌, ◌++◌, map, length, drop, Some, None, Ok, Err, Option, Result, nat_lt}
use Rattle.std.specs.List.{range_with_len}
use Rattle.candidate.specs.Equality.{equal_snapshots, equal_terms}
use Rattle.sets.specs.Sets.{has}
use Rattle.rota.specs.Cycles.{turn_by_turn}
use Rattle.setup.specs.declared.InputPlaces.{InputPlaces}
use Rattle.fault.specs.declared.Refusal.{Refusal}
use Rattle.setup.specs.Setup.{judged}
use Rattle.rehearsal.specs.declared.bags.BagCount.{BagCount}
use Rattle.rehearsal.specs.declared.line.Line.{Line}
use Rattle.rehearsal.specs.declared.line.Line.TheVariants.{Sort, Short, Setup, Unplayed, HostOpen, HostFaulty}
use Rattle.rehearsal.specs.declared.read.Head.{Head}
use Rattle.rehearsal.specs.declared.read.Kind.{Kind}
use Rattle.rehearsal.specs.declared.read.Kind.TheVariants.{Snapshots, Terms}
use Rattle.rehearsal.specs.Bags.{bags_of, counted}
use Rattle.rehearsal.specs.Reading.{head_in, inputs_at, list_at, setup_size, size_in, snapshot_at, term_at}

-- a line that stands only where b holds
abbrev pub line_if : Bool → Line → List Line
line_if b l = cond b (l ∷ []) []

-- how many bags are not played, if any, and whether one more is cut short
abbrev pub bag_lines : BagCount → List Line
bag_lines bags = line_if (nat_lt 0 bags.whole) (Unplayed bags.whole) ++ line_if bags.torn Short

-- what is printed of host j, while nobody decides
abbrev pub host_line : ℕ → ℕ → Line
host_line faulty j = cond (has faulty j) (HostFaulty j) (HostOpen j)

-- a line for each host
abbrev pub host_lines : ℕ → ℕ → List Line
host_lines n faulty = map (host_line faulty) (range_with_len 0 n)

-- why no council was made, or the lines of the one that was
abbrev pub answer_lines : Result InputPlaces Refusal → Head → List ℕ → List Line
answer_lines (Err f) h bags = Setup f ∷ []
answer_lines (Ok places) h bags = bag_lines (counted (bags_of bags)) ++ host_lines h.n h.faulty

-- the lines of a council of these candidates and inputs; turn by turn is its rota
abbrev pub council_lines : {C : Type 0} → (C → C → Bool) → Head → List C → List C → List ℕ → List Line
council_lines equal h cs xs bags = answer_lines (judged equal h.n h.t h.faulty cs xs (turn_by_turn h.n)) h bags

-- behind the head stand M candidates, N inputs and the bags; a candidate takes `size` bytes, and `read` says which stands at a place
abbrev pub kind_lines : {C : Type 0} → (C → C → Bool) → ℕ → (List ℕ → ℕ → C) → Head → List ℕ → List Line
kind_lines equal size read h bs =
    cond (nat_lt (length bs) (setup_size size h)) (Short ∷ [])
    (council_lines equal h (list_at size read bs 4 h.m) (list_at size read bs (inputs_at size h) h.n) (drop (setup_size size h) bs))

-- by the kind of candidate that the sort says
abbrev pub sort_lines : Option Kind → Head → List ℕ → List Line
sort_lines None h bs = Sort ∷ []
sort_lines (Some Snapshots) h bs = kind_lines equal_snapshots (size_in Snapshots) snapshot_at h bs
sort_lines (Some Terms) h bs = kind_lines equal_terms (size_in Terms) term_at h bs

-- where there is no head, a piece is missing
abbrev pub head_lines : Option Head → List ℕ → List Line
head_lines None bs = Short ∷ []
head_lines (Some h) bs = sort_lines h.kind h bs

-- the lines of a rehearsal, from all its bytes
abbrev pub lines_of : List ℕ → List Line
lines_of bs = head_lines (head_in bs) bs
