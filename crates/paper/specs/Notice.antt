-- "It is a notice": the birth dates of a pack change field 0117 of the Keys and nothing else. What is promised, and the words that it is
-- said in; the proofs stand in proofs/. Assumes nothing.
use Rattle.std.specs.Prelude.{ℕ, zero, suc, ◌≤◌, true, cond, List, [], ◌++◌, map, ◌≡◌, length, take, drop}
use Rattle.paper.specs.declared.Layout.TheVariants.{LKey}
use Rattle.paper.specs.declared.Letter.{Letter}
use Rattle.paper.specs.Bytes.{Bytes, bytes, same, zeros, laid}
use Rattle.paper.specs.Layouts.{entry, field}
use Rattle.paper.specs.Pack.{well_formed, blocks_of, block, lines_in, width_of, taxpayers}
use Rattle.paper.specs.Judge.{letter_of}
use Rattle.paper.specs.File.{Outcome, rejected, judged}
use Rattle.paper.specs.Answer.{prescribed, answer}
use Rattle.paper.specs.Hidden.{outcome_with}

-- a taxpayer line with zeros for its birth date
abbrev pub without_birth : Bytes → Bytes
without_birth line = laid line 13 (zeros 8)

abbrev pub without_births : Bytes → List Bytes
without_births pack = map without_birth (lines_in (width_of taxpayers) (block (blocks_of pack) taxpayers))

-- two well-formed packs that differ only in birth dates
pub record ButBirths (p q : Bytes) : Type 0 where
  pub first_well : well_formed p ≡ true
  pub second_well : well_formed q ≡ true
  pub lines : without_births p ≡ without_births q
  pub others : (k : ℕ) → 2 ≤ k → k ≤ 5 → block (blocks_of p) k ≡ block (blocks_of q) k

-- the letters of the documents in their order, none of a whole rejection; a transmission that is judged has a document
abbrev pub letters_of : Outcome → List Letter
letters_of (rejected sequence codes) = []
letters_of (judged p ts) = map letter_of ts

-- the same letters
abbrev pub SameLetters : Type 0
SameLetters = (t date p q : Bytes) → ButBirths p q → letters_of (outcome_with p date t) ≡ letters_of (outcome_with q date t)

-- a record of the file with 0 in field 0117, if it is a Key
abbrev pub quiet_key : Bytes → Bytes
quiet_key r = cond (same (field LKey 0 r) (bytes "ACK   ")) (laid r (entry LKey 117).start (bytes "0")) r

-- the first n records so, each of 120 bytes
abbrev pub quiet_first : ℕ → Bytes → Bytes
quiet_first zero s = s
quiet_first (suc n) s = quiet_key (take 120 s) ++ quiet_first n (drop 120 s)

-- all of them so: a file has fewer records than bytes
abbrev pub quiet : Bytes → Bytes
quiet file = quiet_first (length file) file

-- the same file but for field 0117 of the Keys
abbrev pub OnlyNotices : Type 0
OnlyNotices = (t date name p q : Bytes) → ButBirths p q → quiet (prescribed t p date name) ≡ quiet (prescribed t q date name)

-- and the same answer for an output of any length, n
abbrev pub NoticeAnswer : Type 0
NoticeAnswer = (t date name p q : Bytes) (n : ℕ) → ButBirths p q → answer t p date name n ≡ answer t q date name n
