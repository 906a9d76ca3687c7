-- A path laid in two parts. Assumes nothing.
use Prim.Native.Nat.{ℕ}
use mathlib.Core.List.{◌++◌}
use mathlib.Core.Path.{◌≡◌, ◌∙◌}
use Rattle.paper.specs.Bytes.{Bytes, bytes, written, laid}
use Rattle.text.proofs.Laying.{laid_append}
use Rattle.vectors.specs.Paths.{path_of}

pub path_laid : (i : ℕ) (part folder r o1 o2 : Bytes) → folder ≡ written 3 i ++ bytes "/" → o1 ≡ laid r 0 folder → o2 ≡ laid o1 4 part → o2 ≡ laid r 0 (path_of i part)
path_laid i part folder r o1 o2 e e1 e2 = e2 ∙ (λ j. laid (e1 j) 4 part) ∙ (λ j. laid (laid r 0 (e j)) 4 part) ∙ laid_append (written 3 i ++ bytes "/") part r 0
