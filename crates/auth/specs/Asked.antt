-- What the type of an authentication and its document ask of every field, worked out once. Assumes nothing.
use Rattle.std.specs.Prelude.{ℕ, Bool, false, not, ◌&&◌, ◌||◌, eqb, ltb}
use Rattle.paper.specs.declared.Facts.{Facts}
use Rattle.paper.specs.declared.Layout.TheVariants.{L4868, LAuth}
use Rattle.paper.specs.Bytes.{Bytes, bytes, same, blank, present}
use Rattle.paper.specs.Layouts.{field}
use Rattle.paper.specs.Conditions.{pick, typed, self_select, income_in, spouse_only, self_only, auth0010}
use Rattle.auth.specs.declared.Asked.{Asked}

-- the taxpayer's fields are asked for by a type, and the spouse's
abbrev pub asks_own : Bytes → Bytes → Bytes → Facts → Bool
asks_own type own form whole = typed type own && ltb 0 whole.pays && not (spouse_only form whole)

abbrev pub asks_spouse : Bytes → Bytes → Bytes → Facts → Bool
asks_spouse type own form whole = typed type own && ltb 0 whole.pays && present (field L4868 100 form) && not (self_only form whole)

unfoldable pub asked_of : Bytes → Bytes → Facts → Asked
asked_of form own whole = record {
  s = asks_own (bytes "S") own form whole;
  spouse_s = asks_spouse (bytes "S") own form whole;
  o = asks_own (bytes "O") own form whole;
  spouse_o = asks_spouse (bytes "O") own form whole;
  select = self_select own;
  p = typed (bytes "P") own;
}

-- the rules from 0010 on, by what is asked; the line is the taxpayer's or the spouse's
unfoldable pub field_holds : Asked → Bytes → Bytes → ℕ → ℕ → Bool
field_holds a own line n code =
    pick (eqb code 10) (auth0010 n own)
    (pick (eqb code 326) (a.select && not (same (field LAuth 75 own) (bytes "E")) || a.p && not (same (field LAuth 75 own) (bytes "I")))
    (pick (eqb code 670) (a.s && blank (field LAuth n own))
    (pick (eqb code 671) (a.spouse_s && blank (field LAuth n own))
    (pick (eqb code 679) (a.select && present (field LAuth 20 own) && not (same (income_in line) (field LAuth 20 own)))
    (pick (eqb code 680) (a.select && present (field LAuth 50 own) && not (same (income_in line) (field LAuth 50 own)))
    (pick (eqb code 681) (a.o && blank (field LAuth n own))
    (pick (eqb code 682) (a.spouse_o && blank (field LAuth n own))
    (pick (eqb code 697) (a.p && blank (field LAuth n own))
    false))))))))
