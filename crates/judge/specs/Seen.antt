-- What a document sees of the earlier ones, as numbers, and what it leaves for the later ones. Assumes nothing.
use Rattle.std.specs.Prelude.{ℕ, ◌+◌, ◌%◌, Bool, false, cond, ◌&&◌, List, map, eqb, ltb, length, take, set, Option, None, Some}
use Rattle.paper.specs.declared.Identity.{Identity}
use Rattle.paper.specs.declared.Letter.{Letter}
use Rattle.paper.specs.Bytes.{Bytes, any, those, written}
use Rattle.paper.specs.Judge.{Before, known, is_a, Turn, letter_of}
use Rattle.words.specs.Past.{identity_of, earlier}
use Rattle.judge.specs.declared.Past.{Past}

-- the primary numbers of a row; one that nine digits can't write is none
abbrev pub numbers_in : List ℕ → List Bytes
numbers_in row = map (written 9) (those (λ (x : ℕ). ltb x 1000000000) row)

-- tied to the paper by `leaves` and `starts_empty` of judge/Seen
unfoldable pub seen_by : Past → List ℕ → Before
seen_by p row = record { dsn = earlier 16 p.dsn; dcn = earlier 14 p.dcn; accepted = numbers_in (take p.n row) }

-- tied to the paper by `starts_empty` of judge/Seen
abbrev pub no_past : Past
no_past = record { dsn = None; dcn = None; n = 0 }

-- one of the numbers of a row is this one, where it is one
abbrev pub some_among : Option ℕ → List ℕ → Bool
some_among None row = false
some_among (Some n) row = any (eqb n) row

-- a number, or the nearest one before it where it is none
abbrev pub number_after : Option ℕ → Option ℕ → Option ℕ
number_after None n = n
number_after (Some number) n = Some number

-- what the row keeps of a primary number; 0 where there is none
abbrev pub kept_number : Option ℕ → ℕ
kept_number None = 0
kept_number (Some number) = number % 4294967296

-- what a form of these numbers leaves, with its letter: one number more in the row where it got A and there is room
unfoldable pub next_past : Identity → Letter → Past → List ℕ → Past
next_past i l p row = record {
  dsn = number_after i.dsn p.dsn;
  dcn = number_after i.dcn p.dcn;
  n = cond (is_a l && ltb p.n (length row)) (p.n + 1) p.n;
}

-- and there its primary number
unfoldable pub next_row : Identity → Letter → Past → List ℕ → List ℕ
next_row i l p row = cond (is_a l && ltb p.n (length row)) (set row p.n (kept_number i.ssn)) row

-- after a document's turn; one of an unknown form is passed over
-- tied to the paper by `leaves` of judge/Seen
abbrev pub past_after : Turn → Past → List ℕ → Past
past_after t p row = cond (known t.subject.doc) (next_past (identity_of t.subject.doc.main) (letter_of t) p row) p

-- tied to the paper by `leaves` of judge/Seen
abbrev pub row_after : Turn → Past → List ℕ → List ℕ
row_after t p row = cond (known t.subject.doc) (next_row (identity_of t.subject.doc.main) (letter_of t) p row) row
