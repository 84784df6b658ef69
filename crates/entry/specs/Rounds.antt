-- The rounds of a phase, as a bag's head has them, and the bodies that their letters have.
use Rattle.std.specs.Prelude.{ℕ}
use Rattle.parts.specs.Reading.{Reading, giving}
use Rattle.body.specs.declared.kinds.Limits.{Limits}
use Rattle.body.specs.declared.kinds.Body.{Body}
use Rattle.body.specs.declared.kinds.Body.TheVariants as bodies
use Rattle.body.specs.Bodies.{list, warrant, acknowledgement}
use Rattle.entry.specs.declared.round.Round.{Round}
use Rattle.entry.specs.declared.round.Round.TheVariants.{List, Nomination, Acknowledgement, Release}

-- the number of the round, less one
abbrev pub round_code : Round → ℕ
round_code List = 0
round_code Nomination = 1
round_code Acknowledgement = 2
round_code Release = 3

-- how many bodies a letter can have
abbrev pub most_bodies : Round → ℕ
most_bodies List = 1
most_bodies Nomination = 1
most_bodies Acknowledgement = 1
most_bodies Release = 2

-- how its bodies are read
abbrev pub body_in : Round → Limits → Reading Body
body_in List lim = giving bodies.List (list lim)
body_in Nomination lim = giving bodies.Warrant (warrant lim)
body_in Acknowledgement lim = giving bodies.Acknowledgement (acknowledgement lim)
body_in Release lim = giving bodies.Warrant (warrant lim)
