-- The number of every refusal, and how a call is refused by the first of several tests that holds.
use Rattle.std.specs.Prelude.{ℕ, Bool, cond, List, [], ◌∷◌, Some, None, Ok, Err, Option, Result}
use Rattle.fault.specs.declared.Layer.{Layer}
use Rattle.fault.specs.declared.Layer.TheVariants.{Call, Bag, Entry, Body}
use Rattle.fault.specs.declared.Fault.{Fault}
use Rattle.fault.specs.declared.Refusal.{Refusal}
use Rattle.fault.specs.declared.Refusal.TheVariants.{HostCount, FaultBound, FaultSet, CandidateCount, EqualCandidates, InputCount, StrayInput, RotaHosts, UnfitKeeper, UnknownSealer, PastHorizon, OpenSealer, SealedBefore, VoidCouncil, ClosedCouncil, OtherCall, AtHorizon, ShortPart, OtherRound, NotZero, LeftOver, UnknownHost, SameHost, FaultyRecipient, WrongOrigin, PairMet, BodyCount, UnknownPlace, UnknownSigner, NoHost, NotHonest, Undecided, BeyondTable}

-- the number of a refusal
abbrev pub number : Refusal → ℕ
number HostCount = 1
number FaultBound = 2
number FaultSet = 3
number CandidateCount = 4
number EqualCandidates = 5
number InputCount = 6
number StrayInput = 7
number RotaHosts = 8
number UnfitKeeper = 9
number UnknownSealer = 11
number PastHorizon = 12
number OpenSealer = 13
number SealedBefore = 14
number VoidCouncil = 20
number ClosedCouncil = 21
number OtherCall = 22
number AtHorizon = 23
number ShortPart = 30
number OtherRound = 31
number NotZero = 32
number LeftOver = 33
number UnknownHost = 34
number SameHost = 35
number FaultyRecipient = 36
number WrongOrigin = 37
number PairMet = 38
number BodyCount = 39
number UnknownPlace = 40
number UnknownSigner = 41
number NoHost = 50
number NotHonest = 51
number Undecided = 52
number BeyondTable = 53

-- the number of a layer
abbrev pub layer_number : Layer → ℕ
layer_number Call = 1
layer_number Bag = 2
layer_number Entry = 3
layer_number Body = 4

-- the number of a refusal, or 0 where there is none
abbrev pub number_of : Option Refusal → ℕ
number_of None = 0
number_of (Some f) = number f

-- the number that an answer stands for
abbrev pub number_in : {X : Type 0} → Result X Refusal → ℕ
number_in (Ok x) = 0
number_in (Err f) = number f

-- what stands behind the first test that holds
abbrev pub first_that_holds : {X : Type 0} → List (Bool × X) → Option X
first_that_holds [] = None
first_that_holds (row ∷ rows) = cond row.0 (Some row.1) (first_that_holds rows)

-- x, unless there is a refusal
abbrev pub unless : {X F : Type 0} → Option F → X → Result X F
unless None x = Ok x
unless (Some f) x = Err f

-- a refusal where it was found
abbrev pub fault_at : Layer → ℕ → Refusal → Fault
fault_at layer at refusal = record { refusal = refusal; layer = layer; offset = at }
