-- The layout of a bag, and what it says.
use Rattle.std.specs.Prelude.{ℕ, zero, suc, ◌+◌, ◌/◌, ◌%◌, ◌^◌, Bool, cond, not, ◌&&◌, List, [], ◌∷◌, length, drop, is_some, Some, None, Option, Result, ◌==◌, nat_lt}
use Rattle.fault.specs.declared.Refusal.TheVariants.{OtherRound, NotZero, LeftOver}
use Rattle.fault.specs.declared.Layer.TheVariants as layers
use Rattle.fault.specs.declared.Fault.{Fault}
use Rattle.fault.specs.Refusals.{first_that_holds}
use Rattle.parts.specs.Numbers.{triple}
use Rattle.parts.specs.Reading.{Reading, Tests, then, unless_refused, part}
use Rattle.body.specs.declared.kinds.Limits.{Limits}
use Rattle.body.specs.declared.kinds.Body.{Body}
use Rattle.entry.specs.declared.letter.Entry.{Entry}
use Rattle.entry.specs.declared.round.Awaited.{Awaited}
use Rattle.entry.specs.Rounds.{round_code, most_bodies, body_in}
use Rattle.entry.specs.Entries.{Met, entry}

-- what reaches whom: by recipient and sender, at most one entry
abbrev pub Mail : Type 0
Mail = ℕ → ℕ → Option Entry

-- nothing reaches anybody
abbrev pub no_mail : Mail
no_mail i j = None

-- the two pairs are one
abbrev pub same_pair : ℕ → ℕ → ℕ → ℕ → Bool
same_pair i j x y = i == x && j == y

-- one entry more
abbrev pub with_entry : Mail → Met → Mail
with_entry mail m i j = cond (same_pair m.recipient m.sender i j) (Some m.entry) (mail i j)

-- the pair has an entry
abbrev pub is_met : Mail → ℕ → ℕ → Bool
is_met mail i j = is_some (mail i j)

-- phase (11 bits), round less one (2), zeros (3), number of entries (8)
abbrev pub bag_tests : Awaited → ℕ → Tests
bag_tests awaited w =
    (not (w / 2 ^ 13 == awaited.phase && w / 2 ^ 11 % 4 == round_code awaited.round), OtherRound)
    ∷ (not (w / 2 ^ 8 % 8 == 0), NotZero)
    ∷ []

-- the head of a bag (24 bits) says how many entries there are
abbrev pub bag_head : Awaited → Reading ℕ
bag_head awaited = part 3 triple layers.Bag (bag_tests awaited) (λ w. w % 256)

-- so many entries one behind the other, each of a pair that had none, and no byte behind the last
unfoldable pub entries_from : Limits → ℕ → Reading Body → ℕ → Mail → List ℕ → ℕ → Result Mail Fault
entries_from lim most body zero mail bs at = unless_refused layers.Bag at (first_that_holds ((nat_lt 0 (length bs), LeftOver) ∷ [])) mail
entries_from lim most body (suc n) mail bs at =
    then (entry lim most body (is_met mail) bs at) (λ m.
    entries_from lim most body n (with_entry mail m.value) (drop m.size bs) (at + m.size))

-- a bag: what reaches whom, or the one fault that it has
abbrev pub read_bag : Limits → Awaited → List ℕ → Result Mail Fault
read_bag lim awaited bs =
    then (bag_head awaited bs 0) (λ head.
    entries_from lim (most_bodies awaited.round) (body_in awaited.round lim) head.value no_mail (drop head.size bs) head.size)
