-- The whole file. Assumes nothing.
use mathlib.Core.Path.{◌≡◌, refl, sym, ap, ◌∙◌}
use mathlib.Core.Bool.{Bool, true, cond}
use mathlib.Core.List.{List, [], ◌∷◌, ◌++◌, map}
use Prim.Native.Nat.{ℕ, ◌+◌, ◌-◌, ◌*◌, ◌/◌, ◌≤◌, min}
use native.Mathlib.Omega.{arith}
use lib.ListN.{length, take, drop, length-append, length-take, length-map}
use lib.Dec.{leb}
use lib.Seq.{take-add}
use borrow.Author.Tests.{le-leb}
use Rattle.paper.specs.declared.Layout.TheVariants.{LTrana}
use Rattle.paper.specs.Bytes.{Bytes, count, laid}
use Rattle.paper.specs.Layouts.{through}
use Rattle.paper.specs.Pack.{Lines}
use Rattle.paper.specs.Walk.{records, twelve, docs_of}
use Rattle.paper.specs.Judge.{Before, Case, Turn, turn, turns, after, asked, start, known}
use Rattle.paper.specs.File.{recap_record, accepted_in}
use Rattle.paper.proofs.RecordSizes.{length-laid}
use Rattle.text.proofs.Laying.{laid_append}
use Rattle.record.specs.Parts.{placed}
use Rattle.walk.proofs.Laws.{tail}
use Rattle.ack.specs.declared.Done.{Done}
use Rattle.ack.specs.Ties.{Begins, turns_in, sets_in, judged_file, Written}
use Rattle.walk.proofs.Sound.{sound_parts}
use Rattle.paper.proofs.Room.{docs_weigh, forms_few, length-sets, sets_most, sets_few, length-judged}

length-turns : (date : Bytes) (b : Before) (cs : List Case) → length (turns date b cs) ≡ length cs
length-turns date b [] = refl
length-turns date b (c ∷ cs) = let ih = length-turns date (after (turn date b c)) cs in omega arith

module _ (L : Lines) (date name t : Bytes) (n : ℕ) (b : Begins t n) where
  abbrev ts : List Turn
  ts = turns_in L date t

  turns_count : length ts ≡ n
  turns_count = length-turns date start (map (asked L) (docs_of (records t))) ∙ length-map (docs_of (records t)) (asked L) ∙ sym b.count

  sets_within : length (sets_in ts) ≤ 240 * n + 11400 * min n ((length t - 43 * n) / 341)
  sets_within =
      let c = b.count in
      let forms = count known (docs_of (records t)) in
      let w : 43 * n + 341 * forms ≤ length t = omega (arith, docs_weigh t) in
      let f : forms ≤ n = omega (arith, forms_few (docs_of (records t))) in
      let m : length (sets_in ts) ≤ 240 * n + 11400 * forms = omega (arith, length-sets ts, sets_most L date start (records t)) in
      omega arith

  pub sets_small : length (sets_in ts) ≤ 2031616
  sets_small = omega (arith, sets_few L date t, b.short)

  pub room_for_lem : (room : ℕ) → 360 + 240 * n + 11400 * min n ((length t - 43 * n) / 341) ≤ room → true ≡ leb (360 + length (sets_in ts)) room
  room_for_lem room h =
      let few : 360 + length (sets_in ts) ≤ room = omega (arith, sets_within) in
      sym (le-leb (360 + length (sets_in ts)) room few)

  pub docs_fit : 43 * n ≤ length t
  docs_fit = omega (arith, b.count, docs_weigh t)

  abbrev recap : Bytes
  recap = recap_record (drop (length t - 120) t) (twelve (take 120 t)) (accepted_in ts) n name

  -- the file, of the parts that the code writes
  as_written : judged_file L date name t ≡ take 240 t ++ sets_in ts ++ recap
  unfolding judged_file
  as_written =
      let p = sound_parts t b.good in
      (λ i. p.trana i ++ p.tranb i ++ sets_in ts ++ recap_record (p.recap i) (twelve (p.trana i)) (accepted_in ts) (turns_count i) name)
      ∙ ap (λ (x : Bytes). x ++ sets_in ts ++ recap) (sym (take-add 120 120 t))

  head_size : length (take 240 t) ≡ 240
  head_size = omega (arith, length-take 240 t, b.long)

  pub file_size : length (judged_file L date name t) ≡ 360 + length (sets_in ts)
  unfolding judged_file
  file_size = length-judged name (records t) ts b.good

  pub file_laid : (out o1 o2 o3 digits : Bytes) (d : Done) → length (judged_file L date name t) ≤ length out → o1 ≡ laid out 0 (take 240 t) → Written ts 240 o1 o2 d
      → digits ≡ through LTrana 60 80 (take 120 t)
      → o3 ≡ placed o2 d.to (recap_record (take (length t - (length t - 120)) (drop (length t - 120) t)) digits d.accepted n name) → o3 ≡ laid out 0 (judged_file L date name t)
  unfolding twelve placed
  file_laid out o1 o2 o3 digits d f e1 w ed e3 =
      let q = recap_record (take (length t - (length t - 120)) (drop (length t - 120) t)) digits d.accepted n name in
      let q' : q ≡ recap = λ i. recap_record (tail t (length t - 120) i) (ed i) (w.counts i) n name in
      let head : 240 ≡ 0 + length (take 240 t) = omega (arith, head_size) in
      let both : o2 ≡ laid out 0 (take 240 t ++ sets_in ts) =
      w.holds ∙ (λ i. laid (e1 i) (head i) (sets_in ts)) ∙ laid_append (take 240 t) (sets_in ts) out 0 in
      let at : d.to ≡ 0 + length (take 240 t ++ sets_in ts) = omega (arith, w.ends, length-append (take 240 t) (sets_in ts), head_size) in
      let fits : d.to + 120 ≤ length o2 = omega (arith, file_size, w.ends, ap length both, length-laid out 0 (take 240 t ++ sets_in ts)) in
      e3 ∙ ap (λ (b : Bool). cond b (laid o2 d.to q) o2) (le-leb (d.to + 120) (length o2) fits)
      ∙ (λ i. laid (both i) (at i) (q' i)) ∙ laid_append (take 240 t ++ sets_in ts) recap out 0 ∙ ap (laid out 0) (sym as_written)
