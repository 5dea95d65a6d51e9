-- One more byte in hexadecimal.
use Rattle.std.proofs.Common.{◌≡◌, ℕ, ◌+◌, ◌<◌, List, [], ◌++◌, length, take, get_or, flat_map, sym, ap, ◌∙◌}
use Rattle.std.proofs.lemmas.List.{flat_map_more, take_more}
use Rattle.cases.specs.Shown.{two_digits}

-- the bytes before this one, and this one
pub flat_map-take : (bytes : List ℕ) (i : ℕ) → i < length bytes → flat_map two_digits (take i bytes) ++ two_digits (get_or bytes i 0) ≡ flat_map two_digits (take (i + 1) bytes)
flat_map-take bytes i h = flat_map_more two_digits [] (take i bytes) (get_or bytes i 0) ∙ ap (flat_map two_digits) (sym (take_more bytes i 0 h))
