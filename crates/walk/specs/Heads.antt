-- A record by what it says of itself. Assumes nothing.
use Rattle.std.specs.Prelude.{Bool, true, false, cond, eqb, length, take, drop}
use Rattle.paper.specs.Bytes.{Bytes}
use Rattle.paper.specs.Walk.{count_of, starts, kind_of}
use Rattle.walk.specs.declared.Head.{Head}
use Rattle.walk.specs.declared.Step.{Step}
use Rattle.walk.specs.declared.Step.TheVariants.{Record, End, Nothing}

-- the first record, cut by the count that it says, and what is left after it; nothing is tested
abbrev pub front : Bytes → Bytes
front s = take (count_of s) s

abbrev pub left : Bytes → Bytes
left s = drop (count_of s) s

-- a record's bytes and its kind
abbrev pub sized : Bytes → Head
sized r = record { size = length r; kind = kind_of r }

-- tied to the paper by `doc_here_lem` of walk/Docs
unfoldable pub head_of : Bytes → Head
head_of s = sized (front s)

abbrev pub step_by : Bool → Head → Step
step_by true h = Record h
step_by false h = Nothing

-- what a step yields where this is left
-- tied to the paper by `stepped` and `not_stepped` of walk/Loops
unfoldable pub step : Bytes → Step
step s = cond (eqb (length s) 0) End (step_by (starts s) (head_of s))
