-- The layout of bodies. Fields have their most significant bit first.
use Rattle.std.specs.Prelude.{ℕ, zero, suc, ◌+◌, ◌/◌, ◌%◌, cond, not, [], ◌∷◌, replicate, ◌==◌, nat_le, slice_set}
use Rattle.fault.specs.declared.Refusal.TheVariants.{NotZero, UnknownPlace, UnknownSigner}
use Rattle.fault.specs.declared.Layer.{Layer}
use Rattle.fault.specs.declared.Layer.TheVariants as layers
use Rattle.sets.specs.Sets.{has, is_mask_of}
use Rattle.parts.specs.Numbers.{byte, long_word}
use Rattle.parts.specs.Reading.{Reading, Tests, part, already, and_then}
use Rattle.body.specs.declared.kinds.Limits.{Limits}
use Rattle.body.specs.declared.kinds.Warrant.{Warrant}

-- a set of candidates has only those of the table
abbrev pub places_tests : Limits → ℕ → Tests
places_tests lim m = (not (is_mask_of lim.places m), UnknownPlace) ∷ []

-- a set of candidates (32 bits)
abbrev pub places : Limits → Layer → Reading ℕ
places lim layer = part 4 long_word layer (places_tests lim) (λ m. m)

-- a list is a set of candidates
abbrev pub list : Limits → Reading ℕ
list lim = places lim layers.Body

-- place (5 bits), zeros (3)
abbrev pub acknowledgement_tests : Limits → ℕ → Tests
acknowledgement_tests lim b =
    (nat_le lim.places (b / 8), UnknownPlace)
    ∷ (not (b % 8 == 0), NotZero)
    ∷ []

-- an acknowledgement (8 bits) is a place
abbrev pub acknowledgement : Limits → Reading ℕ
acknowledgement lim = part 1 byte layers.Body (acknowledgement_tests lim) (λ b. b / 8)

-- place (5 bits), phase (11), signers (16): a warrant still without lists
abbrev pub unlisted : ℕ → Warrant
unlisted w = record { place = w / 134217728; phase = w / 65536 % 2048; signers = w % 65536; lists = replicate 16 0 }

-- the place is a candidate's, and the signers are hosts
abbrev pub warrant_tests : Limits → ℕ → Tests
warrant_tests lim w =
    (nat_le lim.places (unlisted w).place, UnknownPlace)
    ∷ (not (is_mask_of lim.hosts (unlisted w).signers), UnknownSigner)
    ∷ []

-- how a warrant begins (32 bits)
abbrev pub warrant_front : Limits → Reading Warrant
warrant_front lim = part 4 long_word layers.Body (warrant_tests lim) unlisted

-- the warrant with a list of host j
abbrev pub with_list : Warrant → ℕ → ℕ → Warrant
with_list w j l = record { place = w.place; phase = w.phase; signers = w.signers; lists = slice_set w.lists j l }

-- the lists of the signers among the n hosts from j on, ascending
unfoldable pub lists_from : Limits → ℕ → ℕ → Warrant → Reading Warrant
lists_from lim zero j w = already w
lists_from lim (suc n) j w = cond (has w.signers j) (and_then (list lim) (λ l. lists_from lim n (j + 1) (with_list w j l))) (lists_from lim n (j + 1) w)

-- how it begins, and then a list for each signer
abbrev pub warrant : Limits → Reading Warrant
warrant lim = and_then (warrant_front lim) (lists_from lim 16 0)
