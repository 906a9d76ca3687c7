-- What is written of a rule of a table. Assumes nothing.
use Rattle.std.specs.Prelude.{ℕ, ◌/◌, ◌%◌, ◌++◌}
use Rattle.paper.specs.Bytes.{Bytes, written}

-- its field and its code
-- tied to the paper by `error_said` of record/Laws
unfoldable pub rule_text : ℕ → Bytes
rule_text rule = written 4 (rule / 10000) ++ written 4 (rule % 10000)
