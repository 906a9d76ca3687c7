-- What a valid date is beside its digits. Assumes nothing.
use Rattle.std.specs.Prelude.{Bool, ◌&&◌, eqb, length}
use Rattle.paper.specs.Bytes.{Bytes, part, number}
use Rattle.paper.specs.Fields.{day_of_year}

-- eight bytes, and a day of its year if they are digits
-- tied to the paper by `date_parts` of date/Days
unfoldable pub is_day : Bytes → Bool
is_day s = eqb (length s) 8 && day_of_year (number (part 0 4 s)) (number (part 4 2 s)) (number (part 6 2 s))
