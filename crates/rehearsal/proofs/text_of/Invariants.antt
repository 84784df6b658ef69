use Rattle.std.proofs.Common.{◌≡◌, take, string_bytes}
use Rattle.rehearsal.specs.Texts.{text_of}
use Rattle.rehearsal.proofs.text_of.Given as goal

abbrev pub invariant-loop-line : goal.invariant-loop-line
invariant-loop-line l = string_bytes l.text ≡ text_of (take l.line-index l.lines)
