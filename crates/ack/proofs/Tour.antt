-- The loops over the documents. Assumes nothing.
use mathlib.Core.Path.{◌≡◌, refl, sym, ap, ◌∙◌, subst}
use mathlib.Core.Bool.{Bool, true, false, cond}
use mathlib.Core.List.{List, [], ◌∷◌, ◌++◌, map}
use Prim.Native.Nat.{ℕ, ◌+◌, ◌-◌, ◌*◌, ◌≤◌, ◌<◌, min}
use native.Mathlib.Omega.{arith}
use borrow.Author.Tests.{le-leb}
use lib.Dec.{leb}
use lib.ListN.{length, take, drop, length-append, length-take, length-drop}
use Rattle.paper.specs.declared.Broken.{Broken}
use Rattle.paper.specs.declared.Judgment.{Judgment}
use Rattle.paper.specs.declared.Letter.{Letter}
use Rattle.paper.specs.Bytes.{Bytes, bit, laid}
use Rattle.paper.specs.Pack.{Lines}
use Rattle.paper.specs.Walk.{records, sound, Doc, docs_of}
use Rattle.paper.specs.Judge.{Turn, turns, asked, is_a}
use Rattle.paper.specs.File.{set_of, accepted_in}
use Rattle.walk.proofs.Sound.{sound_parts}
use Rattle.judge.specs.declared.Past.{Past}
use Rattle.judge.specs.Kept.{listed}
use Rattle.judge.specs.Judged.{broke_in, judgment_of}
use Rattle.judge.specs.Seen.{no_past, seen_by, past_after, row_after}
use Rattle.judge.proofs.Seen.{starts_empty}
use Rattle.sets.specs.Set.{set_as}
use Rattle.paper.proofs.RecordSizes.{length-laid}
use Rattle.paper.proofs.Room.{docs_weigh, sets_few}
use Rattle.text.proofs.Laying.{laid_append, lent_laid}
use Rattle.ack.specs.Ties.{Begins, turns_in, sets_in, here, ahead, Going, Written}
use Rattle.ack.proofs.Onward.{said, kept_few, moved, set_here, set_size, going_on, turn_here}

-- A SOUND TRANSMISSION

pub begins : (t : Bytes) (n : ℕ) → length t ≤ 65536 → sound (records t) ≡ true → n ≡ length (docs_of (records t)) → Begins t n
begins t n h s c = record { short = h; long = (sound_parts t s).long; few = omega (arith, docs_weigh t); good = s; count = c }

-- after i of n documents
pub record Touring (t : Bytes) (n i at : ℕ) (p : Past) (row : List ℕ) : Type 0 where
  pub going : Going t at p row
  pub few : i ≤ n
  pub most : n ≤ 65536
  pub count : n ≡ i + length (docs_of (records (drop at t)))

pub tour_start : (t : Bytes) (n : ℕ) (row : List ℕ) → Begins t n → length row ≡ 762 → Touring t n 0 240 no_past row
tour_start t n row b w = record {
  going = record { short = b.short; stands = (sound_parts t b.good).stands; space = omega arith; whole = w };
  few = omega arith;
  most = b.few;
  count = omega (arith, b.count, ap length (sound_parts t b.good).docs);
}

pub tour_more : (t : Bytes) (n i at : ℕ) (p : Past) (row : List ℕ) → Touring t n i at p row → i < n → 0 < length (docs_of (records (drop at t)))
tour_more t n i at p row o h = omega (arith, o.count)

pub bit_le : (b : Bool) → bit b ≤ 1
bit_le true = omega arith
bit_le false = omega arith

nothing : {A : Type 0} (l : List A) → length l ≡ 0 → l ≡ []
nothing [] h = refl
nothing (x ∷ l) h = absurd (omega arith)

module _ (L : Lines) (date t : Bytes) where
  all_ahead : (n : ℕ) (row : List ℕ) → Begins t n → ahead L date t 240 no_past row ≡ turns_in L date t
  unfolding ahead
  all_ahead n row b = (λ i. turns date (starts_empty row i) (map (asked L) (sym (sound_parts t b.good).docs i)))

  tour_end : (n i at : ℕ) (p : Past) (row : List ℕ) → Touring t n i at p row → n ≤ i → ahead L date t at p row ≡ []
  unfolding ahead
  tour_end n i at p row o h = ap (λ (ds : List Doc). turns date (seen_by p row) (map (asked L) ds)) (nothing (docs_of (records (drop at t))) (omega (arith, o.count)))

  -- the document at a place is passed
  module _ (n i at : ℕ) (p : Past) (row : List ℕ) (o : Touring t n i at p row) (h : i < n) (r : Judgment) (er : r ≡ judgment_of at (here L date t at p row)) where
    abbrev size : ℕ
    size = r.size

    abbrev kept : ℕ
    kept = r.found.kept

    more : 0 < length (docs_of (records (drop at t)))
    more = tour_more t n i at p row o h

    pub tour_fits : (kept ≤ 96) × (at + size ≤ length t) × (length t ≤ 65536)
    tour_fits = (kept_few L date t at p row o.going more r er, (moved L date t at p row o.going more r er).stands.within, o.going.short)

    module _ (next : Past) (row' : List ℕ) (en : next ≡ past_after (here L date t at p row) p row) (er' : row' ≡ row_after (here L date t at p row) p row) where
      tour_on : Touring t n (i + 1) (at + size) next row'
      tour_on = record {
        going = going_on L date t at p row o.going more r er next row' en er';
        few = omega arith;
        most = o.most;
        count = omega (arith, o.count, ap length (moved L date t at p row o.going more r er).docs);
      }

      tour_turn : ahead L date t at p row ≡ here L date t at p row ∷ ahead L date t (at + size) next row'
      tour_turn = turn_here L date t at p row o.going more r er next row' en er'

      sets_size : length (sets_in (ahead L date t at p row)) ≡ 120 + 120 * kept + length (sets_in (ahead L date t (at + size) next row'))
      sets_size =
          ap (λ (ts : List Turn). length (sets_in ts)) tour_turn
          ∙ length-append (set_of (here L date t at p row)) (sets_in (ahead L date t (at + size) next row'))
          ∙ omega (arith, set_size L date t at p row o.going more r er)

  -- THE LOOP THAT MEASURES

  pub record Needing (n : ℕ) (p : Past) (row : List ℕ) (at size i : ℕ) : Type 0 where
    pub tour : Touring t n i at p row
    pub small : size ≤ 2031616
    pub total : size + length (sets_in (ahead L date t at p row)) ≡ length (sets_in (turns_in L date t))

  pub need_start : (n : ℕ) (p : Past) (row : List ℕ) → Begins t n → length row ≡ 762 → p ≡ no_past → Needing n p row 240 0 0
  need_start n p row b w e =
      subst (λ (x : Past). Needing n x row 240 0 0) (sym e)
      (record { tour = tour_start t n row b w; small = omega arith; total = ap (λ (ts : List Turn). 0 + length (sets_in ts)) (all_ahead n row b) ∙ omega arith })

  module _ (n : ℕ) (p : Past) (row : List ℕ) (at size i : ℕ) (o : Needing n p row at size i) where
    pub need_on : i < n → (r : Judgment) → r ≡ judgment_of at (here L date t at p row) → (next : Past) (row' : List ℕ) → next ≡ past_after (here L date t at p row) p row
        → row' ≡ row_after (here L date t at p row) p row → Needing n next row' (at + r.size) (size + (120 + 120 * r.found.kept)) (i + 1)
    need_on h r er next row' en er' =
        let size_on = sets_size n i at p row o.tour h r er next row' en er' in
        record {
          tour = tour_on n i at p row o.tour h r er next row' en er';
          small = omega (arith, o.total, size_on, sets_few L date t, o.tour.going.short);
          total = omega (arith, o.total, size_on);
        }

    pub need_end : n ≤ i → size + 360 ≡ 360 + length (sets_in (turns_in L date t))
    need_end h =
        let z : length (sets_in (ahead L date t at p row)) ≡ 0 = ap (λ (ts : List Turn). length (sets_in ts)) (tour_end n i at p row o.tour h) in
        omega (arith, o.total)

  -- THE LOOP THAT WRITES

  pub record Writing (n : ℕ) (out₀ : Bytes) (p : Past) (row : List ℕ) (at to acc i : ℕ) (out : Bytes) : Type 0 where
    pub tour : Touring t n i at p row
    pub same : length out ≡ length out₀
    pub small : acc ≤ i
    pub place : to + length (sets_in (ahead L date t at p row)) ≡ 240 + length (sets_in (turns_in L date t))
    pub holds : laid out to (sets_in (ahead L date t at p row)) ≡ laid out₀ 240 (sets_in (turns_in L date t))
    pub counts : acc + accepted_in (ahead L date t at p row) ≡ accepted_in (turns_in L date t)

  pub write_start : (n : ℕ) (out : Bytes) (p : Past) (row : List ℕ) → Begins t n → length row ≡ 762 → p ≡ no_past → Writing n out p row 240 240 0 0 out
  write_start n out p row b w e =
      subst (λ (x : Past). Writing n out x row 240 240 0 0 out) (sym e)
      (record {
        tour = tour_start t n row b w;
        same = refl;
        small = omega arith;
        place = ap (λ (ts : List Turn). 240 + length (sets_in ts)) (all_ahead n row b);
        holds = ap (λ (ts : List Turn). laid out 240 (sets_in ts)) (all_ahead n row b);
        counts = ap (λ (ts : List Turn). 0 + accepted_in ts) (all_ahead n row b) ∙ omega arith;
      })

  module _ (n : ℕ) (out₀ : Bytes) (p : Past) (row : List ℕ) (at to acc i : ℕ) (out : Bytes) (o : Writing n out₀ p row at to acc i out) where
    pub write_end : n ≤ i → Written (turns_in L date t) 240 out₀ out (record { to = to; accepted = acc })
    unfolding laid
    write_end h =
        let z : ahead L date t at p row ≡ [] = tour_end n i at p row o.tour h in
        let z1 : length (sets_in (ahead L date t at p row)) ≡ 0 = ap (λ (ts : List Turn). length (sets_in ts)) z in
        let z2 : accepted_in (ahead L date t at p row) ≡ 0 = ap accepted_in z in
        record {
          ends = omega (arith, o.place);
          holds = ap (λ (ts : List Turn). laid out to (sets_in ts)) (sym z) ∙ o.holds;
          counts = omega (arith, o.counts);
          few = omega (arith, o.small, o.tour.few, o.tour.most);
        }

    module _ (h : i < n) (r : Judgment) (er : r ≡ judgment_of at (here L date t at p row)) (f : 240 + length (sets_in (turns_in L date t)) ≤ length out₀) where
      abbrev m : 0 < length (docs_of (records (drop at t)))
      m = tour_more t n i at p row o.tour h

      abbrev k : ℕ
      k = r.found.kept

      abbrev d : ℕ
      d = r.size

      -- the set of this document fits
      pub write_fits : (to + (120 + 120 * k) ≤ length out) × (to ≤ 2031856)
      write_fits = (
        omega (arith, o.place, o.same, sets_size n i at p row o.tour h r er (past_after (here L date t at p row) p row) (row_after (here L date t at p row) p row) refl refl),
        omega (arith, o.place, sets_few L date t, o.tour.going.short),
      )

      -- the output with the set written into what is left of it
      abbrev filled : Bytes → Bytes
      filled new = take to out ++ (new ++ drop (length out - to) (drop to out))

      pub write_on : (next : Past) (row' : List ℕ) (x : List Broken) (one : ℕ) (new : Bytes) → next ≡ past_after (here L date t at p row) p row
          → row' ≡ row_after (here L date t at p row) p row
          → x ≡ listed (broke_in at (here L date t at p row)) → one ≡ bit (is_a r.letter) → one ≤ 1
          → new ≡ cond (leb (120 + 120 * min 96 k) (length (take (length out - to) (drop to out))))
          (laid (take (length out - to) (drop to out)) 0 (set_as (take (at + d - at) (drop at t)) t date r x)) (take (length out - to) (drop to out))
          → Writing n out₀ next row' (at + d) (to + (120 + 120 * k)) (acc + one) (i + 1) (filled new)
      write_on next row' x one new en er' ex eo lo e =
          let T = here L date t at p row in
          let ts = ahead L date t (at + d) next row' in
          let g = o.tour.going in
          let free = take (length out - to) (drop to out) in
          let size : length (set_of T) ≡ 120 + 120 * k = set_size L date t at p row g m r er in
          let low : k ≤ 96 = kept_few L date t at p row g m r er in
          let fits : to + length (set_of T) ≤ length out = omega (arith, write_fits.0) in
          let roomy : 120 + 120 * min 96 k ≤ length free = omega (arith, write_fits.0, length-take (length out - to) (drop to out), length-drop to out) in
          let set : filled new ≡ laid out to (set_of T) =
          lent_laid out (set_of T) new to (length out - to) refl fits
          (e ∙ ap (λ (b : Bool). cond b (laid free 0 (set_as (take (at + d - at) (drop at t)) t date r x)) free) (le-leb (120 + 120 * min 96 k) (length free) roomy)
          ∙ ap (laid free 0) (set_here L date t at p row g m r er x ex)) in
          let on : to + (120 + 120 * k) ≡ to + length (set_of T) = omega arith in
          let turn : ahead L date t at p row ≡ T ∷ ts = tour_turn n i at p row o.tour h r er next row' en er' in
          record {
            tour = tour_on n i at p row o.tour h r er next row' en er';
            same = ap length set ∙ length-laid out to (set_of T) ∙ o.same;
            small = omega (arith, o.small);
            place = omega (arith, o.place, sets_size n i at p row o.tour h r er next row' en er');
            holds =
                (λ a. laid (set a) (on a) (sets_in ts)) ∙ laid_append (set_of T) (sets_in ts) out to
                ∙ ap (λ (l : List Turn). laid out to (sets_in l)) (sym turn) ∙ o.holds;
            counts =
                let a : accepted_in (ahead L date t at p row) ≡ bit (is_a r.letter) + accepted_in ts =
                ap accepted_in turn ∙ ap (λ (l : Letter). bit (is_a l) + accepted_in ts) (sym (said L date t at p row g m r er)) in
                omega (arith, o.counts);
          }
