-- How much room a file needs: exactly, and at most. What is promised, and the words that it is said in; the proofs stand in proofs/.
-- Assumes nothing.
use Rattle.std.specs.Prelude.{ℕ, ◌+◌, ◌*◌, ◌/◌, ◌%◌, ◌≤◌, ◌<◌, min, List, [], ◌∷◌, ◌++◌, ◌≢◌, ◌≡◌, length, Ok, Err}
use Rattle.paper.specs.declared.Ask.{Ask}
use Rattle.paper.specs.declared.Refusal.{Refusal}
use Rattle.paper.specs.declared.Refusal.TheVariants.{ShortOutput}
use Rattle.paper.specs.Bytes.{Bytes, number, plain}
use Rattle.paper.specs.Judge.{Turn, findings}
use Rattle.paper.specs.File.{Outcome, rejected, judged, code_list}
use Rattle.paper.specs.Answer.{Answer, prescribed, refusal_of, refused_or, answer, refusal_line, shown, number_of, length_of, coded}
use Rattle.paper.specs.Hidden.{outcome_with}

-- the exact need: refusal 1, 2 or 3, or the length of the file
unfoldable pub need : Bytes → Bytes → Bytes → Bytes → Answer
need t pack date name = refused_or (refusal_of t pack date name) (Ok (length (prescribed t pack date name)))

-- what the program for it writes: the number and a line end, or the refusal's line
abbrev pub need_digits : ℕ → Bytes
need_digits n = plain 7 n

abbrev pub need_shown : Answer → Bytes
need_shown (Ok n) = need_digits n ++ 10 ∷ []
need_shown (Err r) = refusal_line r

-- what a program writes for what it asks, n being the length of the output that it lends
abbrev pub told : Ask → Bytes → Bytes → Bytes → Bytes → ℕ → Bytes
told Ask.File t pack date name n = shown (answer t pack date name n) (prescribed t pack date name)
told Ask.Room t pack date name n = need_shown (need t pack date name)

-- the bound: "a transmission of L bytes never needs more than 360 plus 31 × L bytes"
abbrev pub enough : ℕ → ℕ
enough l = 360 + 31 * l

-- THE FILE'S RECORDS, counted without writing them

-- the records of a document's set: its Key and an Error a finding, 96 at most
abbrev pub set_records : Turn → ℕ
set_records t = 1 + min 96 (length (findings t))

abbrev pub all_records : List Turn → ℕ
all_records [] = 0
all_records (t ∷ ts) = set_records t + all_records ts

-- the records of the file: a Key and an Error a code; or TRANA and TRANB, the record sets, and the Recap
abbrev pub file_records : Outcome → ℕ
file_records (rejected sequence codes) = 1 + length (code_list codes)
file_records (judged p ts) = 2 + all_records ts + 1

-- WHAT IS PROMISED

-- the file is so many records of 120 bytes
abbrev pub InRecords : Type 0
InRecords = (t pack date name : Bytes) → length (prescribed t pack date name) ≡ 120 * file_records (outcome_with pack date t)

-- it is never longer than the bound
abbrev pub AtMost : Type 0
AtMost = (t pack date name : Bytes) → length (prescribed t pack date name) ≤ enough (length t)

-- so, lent the bound, refusal 4 never comes
abbrev pub NeverShort : Type 0
NeverShort = (t pack date name : Bytes) (n : ℕ) → enough (length t) ≤ n → answer t pack date name n ≢ Err ShortOutput

-- an output that has the need, k bytes, or more, takes the file; one that has a byte less, or fewer, is refused with 4
abbrev pub ExactNeed : Type 0
ExactNeed = (t pack date name : Bytes) (k n : ℕ) → need t pack date name ≡ Ok k
    → (k ≤ n → answer t pack date name n ≡ Ok k) × (n < k → answer t pack date name n ≡ Err ShortOutput)

-- what has no need is refused whatever is lent, and 4 is never the cause
abbrev pub NoNeed : Type 0
NoNeed = (t pack date name : Bytes) (r : Refusal) (n : ℕ) → need t pack date name ≡ Err r
    → (answer t pack date name n ≡ Err r) × (r ≢ ShortOutput)

-- the number that is written reads as the need: seven digits are enough
abbrev pub NeedReads : Type 0
NeedReads = (t pack date name : Bytes) (k : ℕ) → need t pack date name ≡ Ok k → number (need_digits k) ≡ k

-- a number for other languages tells the refusal and the length apart
abbrev pub ToldApart : Answer → Type 0
ToldApart a = (coded a / 4294967296 ≡ number_of a) × (coded a % 4294967296 ≡ length_of a)

abbrev pub AnswersApart : Type 0
AnswersApart = (t pack date name : Bytes) (n : ℕ) → ToldApart (answer t pack date name n) × ToldApart (need t pack date name)
