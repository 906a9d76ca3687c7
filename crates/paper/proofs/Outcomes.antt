-- What becomes of a transmission, by cases. Assumes nothing.
use mathlib.Core.Bool.{Bool, true, false, not}
use mathlib.Core.List.{List}
use mathlib.Core.Path.{◌≡◌, refl}
use Rattle.paper.specs.declared.Codes.TheVariants.{C0823}
use Rattle.paper.specs.declared.Order.TheVariants.{First}
use Rattle.paper.specs.Bytes.{Bytes, empty, same, zeros}
use Rattle.paper.specs.Pack.{Lines, sent_before}
use Rattle.paper.specs.Walk.{Parsed, parsed_of, parsed_if, parse, records, sound, ordered, is_ended, twelve, twelve_again}
use Rattle.paper.specs.File.{Outcome, rejected, outcome_by, turns_of, outcome_of, outcome}
use Rattle.paper.proofs.Laws.{both}

pub sound_ended : (rs : List Bytes) → sound rs ≡ true → is_ended (ordered First rs) ≡ true
unfolding sound
sound_ended rs e = (both _ _ (both _ _ (both _ _ e).0).0).0

-- what becomes of a transmission: 0823 holds, or else 0822 and 0840 decide
pub outcome_cases : (P : Outcome → Type 0) (L : Lines) (date t : Bytes) → P (rejected (zeros 16) C0823)
    → (sound (records t) ≡ true → (x y : Bool) → P (outcome_by x y (parsed_of (records t)) (turns_of L date (parsed_of (records t))))) → P (outcome L date t)
unfolding outcome parse
outcome_cases P L date t broken either = by (sound (records t)) refl
  where
    p : Parsed
    p = parsed_of (records t)

    by : (b : Bool) → sound (records t) ≡ b → P (outcome_of L date (parsed_if b (records t)))
    by true h = either h (not (empty (L sent_before (twelve p.trana)))) (not (same (twelve_again p.recap) (twelve p.trana)))
    by false h = broken
