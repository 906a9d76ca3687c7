-- The records that go on with a document, as an iterator gives them. Assumes nothing.
pub use Rattle.walk.specs.Left.{as_record, others_left}
use Rattle.paper.specs.declared.Kind.{Kind}
use Rattle.paper.specs.Bytes.{Bytes}
use Rattle.walk.specs.declared.Record.{Record}

-- what an item says of a record's kind and bytes
abbrev pub seen : Record → Kind × Bytes
seen r = (r.kind, r.bytes.now)
