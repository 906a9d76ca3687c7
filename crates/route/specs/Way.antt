-- What becomes of a transmission, by the paper's refusals and outcome. Assumes nothing.
use Rattle.std.specs.Prelude.{ℕ, ◌-◌, ◌≤◌, Bool, true, false, not, ◌≡◌, eqb, length, take, drop, Option, None, Some, Result, Ok, Err}
use Rattle.paper.specs.declared.Codes.{Codes}
use Rattle.paper.specs.declared.Codes.TheVariants.{C0823, C0822, C0840, C0822And0840}
use Rattle.paper.specs.declared.Refusal.{Refusal}
use Rattle.paper.specs.Bytes.{Bytes, same, zeros, laid}
use Rattle.paper.specs.Pack.{well_formed, lines_of, Blocks, blocks_of, lent}
use Rattle.paper.specs.Walk.{records, sound, docs_of, twelve, twelve_again, parsed_of}
use Rattle.paper.specs.File.{Outcome, rejected, judged, turns_of}
use Rattle.paper.specs.Answer.{refusal_of}
use Rattle.paper.specs.Hidden.{outcome_with}
use Rattle.lookup.specs.Find.{line_in}
use Rattle.route.specs.declared.Way.{Way}
use Rattle.route.specs.declared.Way.TheVariants.{Reject, Judge}

-- what becomes of a transmission that is not refused: it is rejected whole with these codes, or so many documents are judged by these blocks
pub data Course : Type 0 where
  rejecting : Codes → Course
  judging : ℕ → Blocks → Course

-- what the code says of it, with the contents of what it lends
abbrev pub course : Way → Course
course (Reject codes) = rejecting codes
course (Judge n blocks) = judging n (lent blocks)

-- tied to the paper by `refused`, `whole` and `ready` of route/Laws
abbrev pub told : Result Way Refusal → Result Course Refusal
told (Ok w) = Ok (course w)
told (Err r) = Err r

abbrev pub way_of : Blocks → Outcome → Course
way_of blocks (rejected sequence codes) = rejecting codes
way_of blocks (judged p ts) = judging (length p.docs) blocks

abbrev pub refuse_or : Option Refusal → Course → Result Course Refusal
refuse_or (Some r) w = Err r
refuse_or None w = Ok w

-- tied to the paper by `refused`, `whole` and `ready` of route/Laws
unfoldable pub route_of : Bytes → Bytes → Bytes → Bytes → Result Course Refusal
route_of t pack date name = refuse_or (refusal_of t pack date name) (way_of (blocks_of pack) (outcome_with pack date t))

-- by 0822 and 0840
abbrev pub by_marks : Bool → Bool → ℕ → Blocks → Course
by_marks true true n blocks = rejecting C0822And0840
by_marks true false n blocks = rejecting C0822
by_marks false true n blocks = rejecting C0840
by_marks false false n blocks = judging n blocks

-- of a transmission that starts with TRANA and ends with RECAP, by the lines of block 5
unfoldable pub by_digits : Bytes → ℕ → Blocks → Course
by_digits t n blocks =
    by_marks (not (eqb (length (line_in 12 (twelve (take 120 t)) blocks.five)) 0))
    (not (same (twelve_again (drop (length t - 120) t)) (twelve (take 120 t)))) n blocks

-- 0030 of a whole rejection: zeros, or the 12 digits and 0000 if not 0823; TRANA stands at the front
-- tied to the paper by `whole` of route/Laws
abbrev pub sequence_for : Codes → Bytes → Bytes
sequence_for C0823 t = zeros 16
sequence_for C0822 t = laid (zeros 16) 0 (twelve t)
sequence_for C0840 t = laid (zeros 16) 0 (twelve t)
sequence_for C0822And0840 t = laid (zeros 16) 0 (twelve t)

-- n documents of a transmission are judged, by a well-formed pack whose blocks are these
pub record Ready (t pack date : Bytes) (n : ℕ) (blocks : Blocks) : Type 0 where
  pub short : length t ≤ 65536
  pub well : well_formed pack ≡ true
  pub there : blocks ≡ blocks_of pack
  pub good : sound (records t) ≡ true
  pub count : n ≡ length (docs_of (records t))
  pub outcome : outcome_with pack date t ≡ judged (parsed_of (records t)) (turns_of (lines_of (blocks_of pack)) date (parsed_of (records t)))
