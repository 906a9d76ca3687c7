-- The parts of a valid date. Assumes nothing.
use mathlib.Core.Bool.{Bool, true, false, ◌&&◌}
use mathlib.Core.Path.{◌≡◌, refl}
use lib.Dec.{eqb}
use lib.ListN.{length}
use Rattle.paper.specs.Bytes.{Bytes, part, digits, number}
use Rattle.paper.specs.Fields.{day_of_year, valid_date}
use Rattle.date.specs.Day.{is_day}

-- a valid date is digits and a day
pub date_parts : (s : Bytes) → (digits s && is_day s) ≡ valid_date s
unfolding is_day valid_date
date_parts s = turn (digits s) (eqb (length s) 8) (day_of_year (number (part 0 4 s)) (number (part 4 2 s)) (number (part 6 2 s)))
  where
    turn : (d e y : Bool) → (d && (e && y)) ≡ (e && d && y)
    turn true true y = refl
    turn true false y = refl
    turn false true y = refl
    turn false false y = refl
