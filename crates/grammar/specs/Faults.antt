-- The number and the place of each refusal of a rule text.
use Rattle.std.specs.Prelude.{ℕ}
use Rattle.grammar.specs.Limits.{max_text}
use Rattle.grammar.specs.declared.TextFault.{TextFault}
use Rattle.grammar.specs.declared.TextFault.TheVariants.{TooLong, BadByte, UnknownWord, Misplaced, EndsEarly, TooDeep, TooManyWords}

abbrev pub number : TextFault → ℕ
number TooLong = 11
number (BadByte at) = 12
number (UnknownWord at) = 13
number (Misplaced at) = 14
number (EndsEarly at) = 15
number (TooDeep at) = 16
number (TooManyWords at) = 17

abbrev pub place : TextFault → ℕ
place TooLong = max_text
place (BadByte at) = at
place (UnknownWord at) = at
place (Misplaced at) = at
place (EndsEarly at) = at
place (TooDeep at) = at
place (TooManyWords at) = at
