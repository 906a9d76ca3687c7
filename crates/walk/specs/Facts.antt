-- The facts of a document's records, one record after the other. Assumes nothing.
use Rattle.std.specs.Prelude.{ℕ, ◌+◌, true, false, cond, ◌&&◌, ◌||◌, eqb, Option, Some, None}
use Rattle.paper.specs.declared.Facts.{Facts}
use Rattle.paper.specs.declared.Kind.TheVariants.{Payment, Auth, Summary}
use Rattle.paper.specs.Bytes.{Bytes, bytes, bit}
use Rattle.paper.specs.Conditions.{of_kind, for_type, pin_type}

-- the PIN type after one record more: the first one stays
unfoldable pub pin_after : Facts → Bytes → Option ℕ
pin_after f r = cond (eqb f.aths 0 && of_kind Auth r) (Some (pin_type r)) f.pin

-- the facts of one record more
-- tied to the paper by `facts_are` of walk/Facts
unfoldable pub facts_with : Facts → Bytes → Facts
facts_with f r = record {
  pays = f.pays + bit (of_kind Payment r);
  aths = f.aths + bit (of_kind Auth r);
  sum = f.sum || of_kind Summary r;
  spouse = f.spouse && for_type (bytes "0709S") r;
  own = f.own && for_type (bytes "0709P") r;
  pin = pin_after f r;
}

abbrev pub no_facts : Facts
no_facts = record { pays = 0; aths = 0; sum = false; spouse = true; own = true; pin = None }
