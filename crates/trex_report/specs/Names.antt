-- Names, as they are printed. Own.
use Rattle.std.specs.Prelude.{ℕ, List, codes}
use Rattle.trex_profile.specs.declared.rule.Rule.{Rule}
use Rattle.trex_profile.specs.declared.rule.Rule.TheVariants.{TooLong, NotJson, NotArray, TooManyStreams, BadEntry, BadStreamId, BadStream, BadEnabled, BadSelfStart, BadIsg, BadNext, BadActionCount, BadSeed, BadPacket, BadBinary, BadLayer, LayerOrder, LayersTooLong, BadMode, BadRate, BadCount, BadIbg, BadFlowStats, BadVm, TooManyInstructions, BadInstruction, BadOperand, BadLength, RateZero, RateTooHigh, CountZero, VarName, VarRange, UnknownVariable, TwoTrims, TrimRange, NoRoomForStamp, BadField, WriteRoom, BadFix, WriteOnShape, DuplicateId, NoSuchStream, SharedStream, DuplicateFlow}
use Rattle.trex_pcap.specs.declared.fault.CaptureFault.{CaptureFault}
use Rattle.trex_pcap.specs.declared.fault.CaptureFault.TheVariants.{Torn, BadMagic, BadVersion, BadLink, TooMany, BadFraction, BadLength as TooManyBytes, Fault}
use Rattle.trex_pcap.specs.declared.unfit.Unfit.{Unfit}
use Rattle.trex_pcap.specs.declared.unfit.Unfit.TheVariants.{Count, Length, Cut, Backwards, Late, TooLarge}
use Rattle.trex_words.specs.declared.asked.OptionName.{OptionName}
use Rattle.trex_words.specs.declared.asked.OptionName.TheVariants.{Duration, Limit, Cores, Base, Seed, Streams, Loss, Copy, Delay}

-- a rule
abbrev pub rule_name : Rule → List ℕ
rule_name TooLong = codes "TooLong"
rule_name NotJson = codes "NotJson"
rule_name NotArray = codes "NotArray"
rule_name TooManyStreams = codes "TooManyStreams"
rule_name BadEntry = codes "BadEntry"
rule_name BadStreamId = codes "BadStreamId"
rule_name BadStream = codes "BadStream"
rule_name BadEnabled = codes "BadEnabled"
rule_name BadSelfStart = codes "BadSelfStart"
rule_name BadIsg = codes "BadIsg"
rule_name BadNext = codes "BadNext"
rule_name BadActionCount = codes "BadActionCount"
rule_name BadSeed = codes "BadSeed"
rule_name BadPacket = codes "BadPacket"
rule_name BadBinary = codes "BadBinary"
rule_name BadLayer = codes "BadLayer"
rule_name LayerOrder = codes "LayerOrder"
rule_name LayersTooLong = codes "LayersTooLong"
rule_name BadMode = codes "BadMode"
rule_name BadRate = codes "BadRate"
rule_name BadCount = codes "BadCount"
rule_name BadIbg = codes "BadIbg"
rule_name BadFlowStats = codes "BadFlowStats"
rule_name BadVm = codes "BadVm"
rule_name TooManyInstructions = codes "TooManyInstructions"
rule_name BadInstruction = codes "BadInstruction"
rule_name BadOperand = codes "BadOperand"
rule_name BadLength = codes "BadLength"
rule_name RateZero = codes "RateZero"
rule_name RateTooHigh = codes "RateTooHigh"
rule_name CountZero = codes "CountZero"
rule_name VarName = codes "VarName"
rule_name VarRange = codes "VarRange"
rule_name UnknownVariable = codes "UnknownVariable"
rule_name TwoTrims = codes "TwoTrims"
rule_name TrimRange = codes "TrimRange"
rule_name NoRoomForStamp = codes "NoRoomForStamp"
rule_name BadField = codes "BadField"
rule_name WriteRoom = codes "WriteRoom"
rule_name BadFix = codes "BadFix"
rule_name WriteOnShape = codes "WriteOnShape"
rule_name DuplicateId = codes "DuplicateId"
rule_name NoSuchStream = codes "NoSuchStream"
rule_name SharedStream = codes "SharedStream"
rule_name DuplicateFlow = codes "DuplicateFlow"

-- an option, without its dashes
abbrev pub option_name : OptionName → List ℕ
option_name Duration = codes "duration"
option_name Limit = codes "limit"
option_name Cores = codes "cores"
option_name Base = codes "base"
option_name Seed = codes "seed"
option_name Streams = codes "streams"
option_name Loss = codes "loss"
option_name Copy = codes "copy"
option_name Delay = codes "delay"

-- a fault of a capture
abbrev pub fault_name : CaptureFault → List ℕ
fault_name (Torn number) = codes "Torn"
fault_name BadMagic = codes "BadMagic"
fault_name BadVersion = codes "BadVersion"
fault_name BadLink = codes "BadLink"
fault_name TooMany = codes "TooMany"
fault_name (BadFraction number) = codes "BadFraction"
fault_name (TooManyBytes number) = codes "BadLength"
fault_name Fault = codes "Fault"

-- why a capture makes no profile
abbrev pub unfit_name : Unfit → List ℕ
unfit_name (Count number) = codes "Count"
unfit_name (Length number) = codes "Length"
unfit_name (Cut number) = codes "Cut"
unfit_name (Backwards number) = codes "Backwards"
unfit_name (Late number) = codes "Late"
unfit_name TooLarge = codes "TooLarge"
