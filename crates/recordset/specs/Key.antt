-- The ACK Key of a document. Assumes nothing.
use Rattle.std.specs.Prelude.{ℕ, cond, Option}
use Rattle.std.specs.Option.{is_some}
use Rattle.paper.specs.declared.Judgment.{Judgment}
use Rattle.paper.specs.declared.Layout.TheVariants.{L4868}
use Rattle.paper.specs.declared.Verdict.TheVariants.{Judged}
use Rattle.paper.specs.Bytes.{Bytes, zeros}
use Rattle.paper.specs.Layouts.{field}
use Rattle.paper.specs.File.{key_record, pin_byte, date_for, literal_for}

-- a field of so many bytes that holds this number, in zeros where there is none
-- tied to the paper by `shown_said` of recordset/Laws
abbrev pub shown_as : Option ℕ → ℕ → Bytes → Bytes
shown_as number n f = cond (is_some number) f (zeros n)

-- the first record of `set_by`, for so many Error records
-- tied to the paper by `set_parts` of recordset/Laws
unfoldable pub key_of : Bytes → Bytes → Judgment → ℕ → Bytes
key_of main date j errors =
    key_record (shown_as j.identity.ssn 9 (field L4868 90 main)) (shown_as j.identity.dsn 16 (field L4868 7 main)) (Judged j.letter)
    (pin_byte j.known j.found.ath j.facts) (date_for j.letter date) (shown_as j.identity.dcn 14 (field L4868 8 main)) errors (literal_for j.letter j.facts)
    j.births
