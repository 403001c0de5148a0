-- number r       the number by which a refusal is reported
-- layer r        the layer that refused: 1 the book, 2 the intake, 3 the job
-- fault_line f   the line that reports a fault
-- Want of memory has the number 0 and the layer 0.
use Rattle.std.specs.Prelude.{ℕ, List, ◌++◌, codes, decimal}
use Rattle.rules.specs.declared.fault.Fault.{Fault}
use Rattle.rules.specs.declared.fault.Refusal.{Refusal}
use Rattle.rules.specs.declared.fault.Refusal.TheVariants.{EmptyPattern, TooManyPatterns, TooManyBytes, NoPatterns, BadMaskCount, TextTooLong, TooManyTexts, HitsTooShort, UnknownPattern, JobTooLong, Truncated, UnknownMark, KindLength, AfterText, Memory}

abbrev pub number : Refusal → ℕ
number EmptyPattern = 1
number TooManyPatterns = 2
number TooManyBytes = 3
number NoPatterns = 4
number BadMaskCount = 5
number TextTooLong = 6
number TooManyTexts = 7
number HitsTooShort = 8
number UnknownPattern = 9
number JobTooLong = 10
number Truncated = 11
number UnknownMark = 12
number KindLength = 13
number AfterText = 14
number Memory = 0

abbrev pub layer : Refusal → ℕ
layer EmptyPattern = 1
layer TooManyPatterns = 1
layer TooManyBytes = 1
layer NoPatterns = 1
layer BadMaskCount = 1
layer TextTooLong = 2
layer TooManyTexts = 2
layer HitsTooShort = 2
layer UnknownPattern = 2
layer JobTooLong = 3
layer Truncated = 3
layer UnknownMark = 3
layer KindLength = 3
layer AfterText = 3
layer Memory = 0

abbrev pub fault_line : Fault → List ℕ
fault_line f = codes "fault " ++ (decimal (number f.refusal) ++ (codes " " ++ (decimal f.place ++ (codes " " ++ decimal (layer f.refusal)))))
