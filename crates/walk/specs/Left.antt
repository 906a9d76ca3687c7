-- The records that are still to come; `Record` cites this file, so nothing here names it. Assumes nothing.
use Rattle.std.specs.Prelude.{List, map}
use Rattle.paper.specs.declared.Kind.{Kind}
use Rattle.paper.specs.Bytes.{Bytes}
use Rattle.paper.specs.Walk.{kind_of}
use Rattle.walk.specs.declared.Others.{Others}
use Rattle.walk.specs.Parts.{own_in}

-- a record's kind and bytes
-- tied to the paper by `own_records` of walk/Docs
abbrev pub as_record : Bytes → Kind × Bytes
as_record r = (kind_of r, r)

-- the records that are still to come
-- tied to the paper by `own_records` of walk/Docs
abbrev pub others_left : Others → List (Kind × Bytes)
others_left s = map as_record (own_in s.left.now)
