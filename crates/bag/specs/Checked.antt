-- What a checked bag means: the entry that is read again where the bag says that the pair's entry begins.
use Rattle.std.specs.Prelude.{ℕ, ◌+◌, min, Bool, List, [], length, drop, is_some, Some, None, Ok, Err, Option, Result}
use Rattle.std.specs.Result.{result_ok}
use Rattle.fault.specs.declared.Fault.{Fault}
use Rattle.parts.specs.Reading.{Reading, then}
use Rattle.body.specs.declared.kinds.Limits.{Limits}
use Rattle.body.specs.declared.kinds.Body.{Body}
use Rattle.entry.specs.declared.letter.Entry.{Entry}
use Rattle.entry.specs.Rounds.{body_in}
use Rattle.entry.specs.Entries.{headed}
use Rattle.bag.specs.declared.checked.CheckedBag.{CheckedBag}
use Rattle.bag.specs.declared.offsets.Offsets.{Offsets}
use Rattle.bag.specs.Bags.{Mail}
use Rattle.bag.specs.Offsets.{Rows, offset_of}

-- what an entry says, without the tests of its head
unfoldable pub said : Limits → Reading Body → List ℕ → ℕ → Result Entry Fault
said lim body bs at = then (headed (λ h. []) lim body bs at) (λ p. Ok p.value.entry)

-- the entry that begins at an offset, if one does
abbrev pub entry_at : Limits → Reading Body → List ℕ → ℕ → Option ℕ → Option Entry
entry_at lim body bs at None = None
entry_at lim body bs at (Some off) = result_ok (said lim body (drop off bs) (at + min off (length bs)))

-- what reaches whom, by where the entries begin
abbrev pub mail_at : Limits → Reading Body → List ℕ → ℕ → Rows → Mail
mail_at lim body bs at rows i j = entry_at lim body bs at (offset_of rows i j)

-- the pair's entry was filed
abbrev pub is_filed : Rows → ℕ → ℕ → Bool
is_filed rows i j = is_some (offset_of rows i j)

-- what was filed, as what reaches whom
abbrev pub filed_mail : Limits → Reading Body → List ℕ → ℕ → Result Offsets Fault → Result Mail Fault
filed_mail lim body bs at (Ok o) = Ok (mail_at lim body bs at o.rows)
filed_mail lim body bs at (Err e) = Err e

-- what a checked bag says: its entries begin behind its head of three bytes
abbrev pub mail_in : CheckedBag → Mail
mail_in bag = mail_at bag.limits (body_in bag.round bag.limits) (drop 3 bag.bytes.now) (min 3 (length bag.bytes.now)) bag.offsets.rows

-- the same of an answer
abbrev pub checked : Result CheckedBag Fault → Result Mail Fault
checked (Ok bag) = Ok (mail_in bag)
checked (Err e) = Err e
