-- What the functions below the entry points rest on, and what they give. Assumes nothing.
use Rattle.std.specs.Prelude.{ℕ, ◌+◌, ◌*◌, ◌≤◌, true, List, map, ◌≡◌, length, drop}
use Rattle.paper.specs.Bytes.{Bytes, joined, laid}
use Rattle.paper.specs.Pack.{Lines}
use Rattle.paper.specs.Walk.{records, sound, parsed_of, docs_of}
use Rattle.paper.specs.Judge.{Turn, turn, turns, asked}
use Rattle.paper.specs.File.{set_of, accepted_in, judged, turns_of, file_from}
use Rattle.walk.specs.Parts.{doc_here, Stands}
use Rattle.judge.specs.declared.Past.{Past}
use Rattle.judge.specs.Seen.{seen_by}
use Rattle.ack.specs.declared.Done.{Done}

-- a sound transmission of n documents
pub record Begins (t : Bytes) (n : ℕ) : Type 0 where
  pub short : length t ≤ 65536
  pub long : 360 ≤ length t
  pub few : n ≤ 65536
  pub good : sound (records t) ≡ true
  pub count : n ≡ length (docs_of (records t))

-- all turns of a transmission, and the record sets of some
abbrev pub turns_in : Lines → Bytes → Bytes → List Turn
turns_in L date t = turns_of L date (parsed_of (records t))

abbrev pub sets_in : List Turn → Bytes
sets_in ts = joined (map set_of ts)

-- the file of a transmission that is not rejected whole
unfoldable pub judged_file : Lines → Bytes → Bytes → Bytes → Bytes
judged_file L date name t = file_from name (judged (parsed_of (records t)) (turns_in L date t))

-- the first document from a place on, in its turn
abbrev pub here : Lines → Bytes → Bytes → ℕ → Past → List ℕ → Turn
here L date t at p row = turn date (seen_by p row) (asked L (doc_here (drop at t)))

-- the turns from a place on
unfoldable pub ahead : Lines → Bytes → Bytes → ℕ → Past → List ℕ → List Turn
ahead L date t at p row = turns date (seen_by p row) (map (asked L) (docs_of (records (drop at t))))

-- at a document's start, or at RECAP, with the numbers of the accepted documents before it; such a document has 86 bytes or more
pub record Going (t : Bytes) (at : ℕ) (p : Past) (row : List ℕ) : Type 0 where
  pub short : length t ≤ 65536
  pub stands : Stands t at
  pub space : p.n * 86 ≤ at
  pub whole : length row ≡ 762

-- the record sets of the turns written into out from a place on, and how many are accepted
pub record Written (ts : List Turn) (from : ℕ) (out out' : Bytes) (d : Done) : Type 0 where
  pub ends : d.to ≡ from + length (sets_in ts)
  pub holds : out' ≡ laid out from (sets_in ts)
  pub counts : d.accepted ≡ accepted_in ts
  pub few : d.accepted ≤ 65536
