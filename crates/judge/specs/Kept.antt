-- The records of a document that break a rule, as the code holds them. Assumes nothing.
use Rattle.std.specs.Prelude.{ℕ, ◌+◌, min, Bool, false, cond, ◌||◌, List, [], ◌∷◌, ◌++◌, eqb, take}
use Rattle.std.specs.Int.Count.{ones}
use Rattle.paper.specs.declared.Broken.{Broken}
use Rattle.paper.specs.declared.Findings.{Findings}
use Rattle.paper.specs.declared.Kind.{Kind}
use Rattle.paper.specs.declared.Kind.TheVariants.{Auth}
use Rattle.paper.specs.Bytes.{any}
use Rattle.paper.specs.Walk.{is}

-- a record, by its place in the transmission, its kind and the set of the rules that it breaks; none where it breaks no rule
abbrev pub broke_if : ℕ → Kind → ℕ → List Broken
broke_if place k set = cond (eqb set 0) [] (record { place = place; kind = k; set = set } ∷ [])

abbrev pub on_auth : Broken → Bool
on_auth b = is Auth b.kind

-- how many rules they break in all
abbrev pub total : List Broken → ℕ
total [] = 0
total (b ∷ bs) = ones b.set + total bs

abbrev pub no_findings : Findings
no_findings = record { kept = 0; ath = false }

-- the list with its numbers
pub record Held : Type 0 where
  pub list : List Broken
  pub kept : ℕ
  pub ath : Bool

abbrev pub held : List Broken → Findings → Held
held l f = record { list = l; kept = f.kept; ath = f.ath }

-- the first 96
-- tied to the paper by `rows_found` of judge/Found
unfoldable pub listed : List Broken → List Broken
listed l = take 96 l

-- the number of the findings to be written, and whether an authentication has one
-- tied to the paper by `total_found`, `auth_found` and `empty_found` of judge/Found
unfoldable pub counted : List Broken → Findings
counted l = record { kept = min 96 (total l); ath = any on_auth l }

abbrev pub kept_of : List Broken → Held
kept_of l = held (listed l) (counted l)

-- these after those that are held
unfoldable pub added : Held → List Broken → Held
added h l = record {
  list = listed (h.list ++ l);
  kept = min 96 (h.kept + total l);
  ath = h.ath || any on_auth l;
}
