-- Two spaces right before another byte. Assumes nothing.
use Rattle.std.specs.Prelude.{Bool, false, not, ◌&&◌, ◌||◌, [], ◌∷◌}
use Rattle.paper.specs.Bytes.{Bytes, is_space}

-- tied to the paper by `spaced_gap` of field/Spaces
abbrev pub gap : Bytes → Bool
gap [] = false
gap (x ∷ []) = false
gap (x ∷ y ∷ []) = false
gap (x ∷ y ∷ z ∷ s) = is_space x && is_space y && not (is_space z) || gap (y ∷ z ∷ s)
