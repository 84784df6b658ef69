-- What holds of every body that was read.
use Rattle.std.specs.Prelude.{◌≡◌, ℕ, ◌^◌, ◌<◌, false, List, Ok, slice_index}
use Rattle.sets.specs.Sets.{has, phases}
use Rattle.parts.specs.declared.span.Part.{Part}
use Rattle.parts.specs.Reading.{Reading}
use Rattle.parts.specs.Settled.{Settled}
use Rattle.body.specs.declared.kinds.Limits.{Limits}
use Rattle.body.specs.declared.kinds.Warrant.{Warrant}
use Rattle.body.specs.declared.kinds.Body.{Body}
use Rattle.body.specs.declared.kinds.Body.TheVariants as bodies

-- the set has only candidates of the table
abbrev pub PlacesFit : Limits → ℕ → Type 0
PlacesFit lim m = m < 2 ^ lim.places

-- a candidate of the table, signers that are hosts, and lists with only candidates of the table, of none but signers
pub record WarrantFits (lim : Limits) (w : Warrant) : Type 0 where
  pub place : w.place < lim.places
  pub phase : w.phase < phases
  pub signers : w.signers < 2 ^ lim.hosts
  pub lists : (j : ℕ) → PlacesFit lim (slice_index w.lists j)
  pub others : (j : ℕ) → has w.signers j ≡ false → slice_index w.lists j ≡ 0

-- by the sort of body
abbrev pub BodyFits : Limits → Body → Type 0
BodyFits lim (bodies.List m) = PlacesFit lim m
BodyFits lim (bodies.Warrant w) = WarrantFits lim w
BodyFits lim (bodies.Acknowledgement p) = p < lim.places

-- what every sort of body keeps to: what is read depends on the bytes that it takes, and fits
pub record Sound (lim : Limits) (read : Reading Body) : Type 0 where
  pub settled : Settled read
  pub fits : (bs : List ℕ) (at : ℕ) (p : Part Body) → read bs at ≡ Ok p → BodyFits lim p.value
