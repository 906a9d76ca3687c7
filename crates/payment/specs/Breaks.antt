-- Whether a payment breaks a rule of its table. The rules on some fields need not be told what they do not look at. Assumes nothing.
use Rattle.std.specs.Prelude.{ℕ, ◌/◌, ◌%◌, Bool}
use Rattle.paper.specs.Bytes.{Bytes}
use Rattle.paper.specs.Conditions.{payment_holds}

-- tied to the paper by `others_are` of rules/Laws
abbrev pub breaks : Bytes → Bytes → Bytes → ℕ → ℕ → Bool
breaks form own bank before = λ (rule : ℕ). payment_holds (rule / 10000) (rule % 10000) form own bank before
