-- How each record of the acknowledgment file begins and ends, an Error record by its model, and where a record goes. Assumes nothing.
use Rattle.std.specs.Prelude.{ℕ, ◌+◌, cond, [], ◌∷◌, leb, length}
use Rattle.paper.specs.declared.Layout.{Layout}
use Rattle.paper.specs.declared.Layout.TheVariants.{LError}
use Rattle.paper.specs.Bytes.{Bytes, bytes, written, blanks, laid}
use Rattle.paper.specs.Layouts.{entry}
use Rattle.paper.specs.File.{record_of}

-- 120 blanks, the byte count, and field 0, the record's id
unfoldable pub started : Layout → Bytes → Bytes
started l id = laid (laid (blanks 120) 0 (bytes "0120****")) (entry l 0).start id

-- the last byte
unfoldable pub ended : Bytes → Bytes
ended r = laid r 119 (bytes "#")

-- an Error record without its running number and its rule: primary number, ID, type, page, occurrence
-- tied to the paper by `error_said` of record/Laws
unfoldable pub error_model : Bytes → Bytes → Bytes → Bytes → Bytes → Bytes
error_model ssn id type page occurrence =
    record_of LError
    ((0, bytes "ACKR  ")
    ∷ (10, ssn)
    ∷ (40, id)
    ∷ (50, type)
    ∷ (60, page)
    ∷ (70, occurrence)
    ∷ [])

-- a model with a running number and eight digits, those of the rule's field and code
-- tied to the paper by `error_said` of record/Laws
unfoldable pub error_by : Bytes → ℕ → Bytes → Bytes
error_by model n text = laid (laid model (entry LError 30).start (written 2 n)) (entry LError 80).start text

-- a record at a place of an output; where its 120 bytes do not fit whole, nothing is changed
-- tied to the paper by `not_placed` and `lent_placed` of record/Laws
unfoldable pub placed : Bytes → ℕ → Bytes → Bytes
placed out at r = cond (leb (at + 120) (length out)) (laid out at r) out
