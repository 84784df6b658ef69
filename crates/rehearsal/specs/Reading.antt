-- What the bytes of a rehearsal's setup say. Numbers have their most significant bit first.
use Rattle.std.specs.Prelude.{ℕ, ◌+◌, ◌*◌, ◌/◌, ◌%◌, cond, List, map, length, Some, None, Option, ◌==◌, nat_lt}
use Rattle.std.specs.List.{range_with_len}
use Rattle.candidate.specs.declared.snapshot.Snapshot.{Snapshot}
use Rattle.candidate.specs.declared.term.Term.{Term}
use Rattle.candidate.specs.Units.{unit_of}
use Rattle.parts.specs.Numbers.{byte, word, long_word}
use Rattle.rehearsal.specs.declared.read.Head.{Head}
use Rattle.rehearsal.specs.declared.read.Kind.{Kind}
use Rattle.rehearsal.specs.declared.read.Kind.TheVariants.{Snapshots, Terms}

-- the sort, in two bits; 2 and 3 are no kind of candidate
abbrev pub kind_of : ℕ → Option Kind
kind_of k = cond (k == 0) (Some Snapshots) (cond (k == 1) (Some Terms) None)

-- N (5 bits), t (3), M (6), sort (2), fault set (16)
abbrev pub head_of : List ℕ → Head
head_of bs = record {
  n = byte bs 0 / 8;
  t = byte bs 0 % 8;
  m = byte bs 1 / 4;
  kind = kind_of (byte bs 1 % 4);
  faulty = word bs 2;
}

-- the head, if its four bytes are there
abbrev pub head_in : List ℕ → Option Head
head_in bs = cond (nat_lt (length bs) 4) None (Some (head_of bs))

-- how many bytes a candidate takes
abbrev pub size_in : Kind → ℕ
size_in Snapshots = 8
size_in Terms = 2

-- how many bytes the head and M candidates of a size take
abbrev pub inputs_at : ℕ → Head → ℕ
inputs_at size h = 4 + size * h.m

-- how many bytes the whole setup takes, with N inputs
abbrev pub setup_size : ℕ → Head → ℕ
setup_size size h = inputs_at size h + size * h.n

-- manual (32 bits), snapshot (32)
abbrev pub snapshot_at : List ℕ → ℕ → Snapshot
snapshot_at bs at = record { manual = long_word bs at; snapshot = long_word bs (at + 4) }

-- unit (2 bits), count (14)
abbrev pub term_at : List ℕ → ℕ → Term
term_at bs at = record { unit = unit_of (byte bs at / 64); count = byte bs at % 64 * 256 + byte bs (at + 1) }

-- n candidates of one size, one after another
abbrev pub list_at : {C : Type 0} → ℕ → (List ℕ → ℕ → C) → List ℕ → ℕ → ℕ → List C
list_at size read bs at n = map (λ i. read bs (at + size * i)) (range_with_len 0 n)
