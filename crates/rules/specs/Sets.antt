-- What a record of a document after its first breaks, as a set, and the rules of a table that a set has. Assumes nothing.
use Rattle.std.specs.Prelude.{ℕ, ◌/◌, ◌%◌, cond, ◌&&◌, List, [], ◌∷◌, eqb, length}
use Rattle.paper.specs.declared.Kind.{Kind}
use Rattle.paper.specs.declared.Facts.{Facts}
use Rattle.paper.specs.Bytes.{Bytes}
use Rattle.paper.specs.Walk.{fits, goes_on}
use Rattle.paper.specs.Conditions.{sight, view, holds, rules_of}
use Rattle.words.specs.Sets.{bits_by}
use Rattle.rules.specs.declared.Before.{Before}

-- none of a record of another length than its layout's; what only the first record is judged by is left out of the sight
-- tied to the paper by `others_are` of rules/Laws
unfoldable pub others_of : Kind → Bytes → Bytes → Bytes → Bytes → Bytes → Facts → Before → ℕ
others_of k form own payer spouse bank whole b =
    cond (goes_on k && eqb (length form) 384 && fits k (length own))
    (bits_by (holds k (view (sight form payer spouse [] [] [] [] whole) own bank b.pays b.aths)) (rules_of k))
    0

-- the rules of a table that a set has
abbrev pub chosen : ℕ → List ℕ → List ℕ
chosen set [] = []
chosen set (x ∷ s) = cond (eqb (set % 2) 1) (x ∷ chosen (set / 2) s) (chosen (set / 2) s)
