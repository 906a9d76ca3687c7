-- The record set of a document by its judgment and its records with a finding. Assumes nothing.
use Rattle.std.specs.Prelude.{min, List, ◌++◌, map, take, drop}
use Rattle.paper.specs.declared.Broken.{Broken}
use Rattle.paper.specs.declared.Judgment.{Judgment}
use Rattle.paper.specs.declared.Layout.TheVariants.{L4868}
use Rattle.paper.specs.Bytes.{Bytes, joined}
use Rattle.paper.specs.Conditions.{rules_of}
use Rattle.paper.specs.Judge.{Finding, mark}
use Rattle.paper.specs.Layouts.{field}
use Rattle.paper.specs.File.{errors_from}
use Rattle.rules.specs.Sets.{chosen}
use Rattle.recordset.specs.Key.{shown_as, key_of}

-- the findings of a record of the transmission t, in the order of its kind's rules
unfoldable pub found_in : Bytes → Broken → List Finding
found_in t b = map (mark b.kind (drop b.place t)) (chosen b.set (rules_of b.kind))

abbrev pub found_from : Bytes → List Broken → List Finding
found_from t list = joined (map (found_in t) list)

-- the Key, and the Error records of the findings that are kept
-- tied to the paper by `set_said` of sets/Laws
unfoldable pub set_as : Bytes → Bytes → Bytes → Judgment → List Broken → Bytes
set_as main t date j list =
    key_of main date j (min 96 j.found.kept)
    ++ errors_from (shown_as j.identity.ssn 9 (field L4868 90 main)) 1 (take (min 96 j.found.kept) (found_from t list))
