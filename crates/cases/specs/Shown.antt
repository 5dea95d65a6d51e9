-- Bytes as they are shown.
use Rattle.std.specs.Prelude.{ℕ, ◌/◌, ◌%◌, false, List, [], ◌∷◌, flat_map}
use Rattle.std.specs.Fmt.{digit_glyph}

-- a byte as two hexadecimal digits
abbrev pub two_digits : ℕ → List ℕ
two_digits b = digit_glyph false (b / 16) ∷ digit_glyph false (b % 16) ∷ []

-- bytes in hexadecimal, or a dash where there is none
abbrev pub hexadecimal : List ℕ → List ℕ
hexadecimal [] = 45 ∷ []
hexadecimal (b ∷ bytes) = flat_map two_digits (b ∷ bytes)
