-- What becomes of a transmission: as the code finds it, and what it says of the paper. Assumes nothing.
use mathlib.Core.Path.{◌≡◌, refl, sym, ap, ◌∙◌}
use mathlib.Core.Bool.{Bool, true, false, not, ◌&&◌}
use mathlib.Core.List.{List, [], ◌++◌}
use Rattle.std.specs.Option.{IsSome, option_map}
use Rattle.std.proofs.Common.{Option, None, Some, Ok, Err}
use Prim.Native.Nat.{ℕ, ◌+◌, ◌≤◌}
use native.Mathlib.Omega.{arith}
use borrow.Author.Tests.{le-ltb}
use lib.Dec.{eqb}
use lib.ListN.{length, take, drop, get_or}
use lib.Seq.{sets-eq}
use Rattle.paper.specs.declared.Codes.{Codes}
use Rattle.paper.specs.declared.Codes.TheVariants.{C0823, C0822, C0840, C0822And0840}
use Rattle.paper.specs.declared.Reference.{Reference}
use Rattle.paper.specs.declared.Refusal.{Refusal}
use Rattle.paper.specs.Bytes.{Bytes, bytes, same, empty, zeros, laid}
use Rattle.paper.specs.Fields.{valid_date}
use Rattle.paper.specs.Layouts.{trana, entry, through}
use Rattle.paper.specs.Pack.{Lines, Blocks, sent_before, lines_of, blocks_of, well_formed, lent}
use Rattle.paper.specs.Walk.{records, sound, twelve, twelve_again, Parsed, parsed_of, parsed_if, parse}
use Rattle.paper.specs.Judge.{Turn}
use Rattle.paper.specs.File.{Outcome, rejected, judged, outcome_by, turns_of, outcome_of, outcome}
use Rattle.paper.specs.Answer.{file_name, refusal_of}
use Rattle.paper.specs.Hidden.{outcome_with}
use Rattle.paper.proofs.Laws.{never, part_take}
use Rattle.paper.proofs.Widths.{twelve_wide}
use Rattle.paper.proofs.Outcomes.{sound_ended, outcome_cases}
use Rattle.paper.proofs.Room.{not_refused}
use Rattle.pack.specs.Shape.{shape_of as pack_shape}
use Rattle.pack.proofs.Laws.{shape_good}
use Rattle.lookup.specs.Find.{line_in}
use Rattle.lookup.proofs.Laws.{sent_sought, sought_lines}
use Rattle.walk.specs.Shape.{shape_of}
use Rattle.walk.proofs.Loops.{shape_sound, shape_rejected}
use Rattle.walk.proofs.Sound.{sound_parts}
use Rattle.route.specs.Way.{Course, rejecting, judging, way_of, refuse_or, route_of, by_marks, by_digits, sequence_for, Ready}

-- the 12 digits and 0000, laid over zeros
padded_twelve : (t : Bytes) → sound (records t) ≡ true → twelve (get_or (records t) 0 []) ++ bytes "0000" ≡ laid (zeros 16) 0 (twelve t)
unfolding laid twelve through entry trana
padded_twelve t h =
    let first : twelve (get_or (records t) 0 []) ≡ twelve t = ap twelve (sound_parts t h).trana ∙ part_take 120 83 12 t (omega arith) in
    let size : length (twelve t) ≡ 12 = ap length (sym first) ∙ twelve_wide (records t) (sound_ended (records t) h) in
    let fits : 0 + length (twelve t) ≤ length (zeros 16) = omega arith in
    ap (λ (d : Bytes). d ++ bytes "0000") first ∙ sym (sets-eq (twelve t) (zeros 16) 0 fits ∙ ap (λ (k : ℕ). twelve t ++ drop (0 + k) (zeros 16)) size)

-- AS THE CODE FINDS IT

marked : (x y : Bool) (b : Blocks) (p : Parsed) (ts : List Turn) → way_of b (outcome_by x y p ts) ≡ by_marks x y (length p.docs) b
marked true true b p ts = refl
marked true false b p ts = refl
marked false true b p ts = refl
marked false false b p ts = refl

pub checked : (pack : Bytes) (r : Option Reference) → option_map lent r ≡ pack_shape pack → IsSome r → well_formed pack ≡ true
checked pack (Some b) e h = (shape_good pack (lent b) (sym e)).0
checked pack None e h = absurd (never h)

module _ (t pack date name : Bytes) where
  abbrev p : Parsed
  p = parsed_of (records t)

  abbrev L : Lines
  L = lines_of (blocks_of pack)

  -- where nothing is refused
  module _ (short : length t ≤ 65536) (well : well_formed pack ≡ true) (fine : (valid_date date && file_name name) ≡ true) (o : Option ℕ) (eo : o ≡ shape_of t) where
    none_refused : refusal_of t pack date name ≡ None
    unfolding refusal_of
    none_refused = rw (le-ltb 65536 (length t) short, well, fine)

    on : (w : Course) → w ≡ way_of (blocks_of pack) (outcome_with pack date t) → Ok w ≡ route_of t pack date name
    unfolding route_of
    on w e = ap Ok e ∙ ap (λ (q : Option Refusal). refuse_or q (way_of (blocks_of pack) (outcome_with pack date t))) (sym none_refused)

    pub broken : o ≡ None → Ok (rejecting C0823) ≡ route_of t pack date name
    unfolding outcome parse
    broken q = on (rejecting C0823) (ap (λ (x : Bool). way_of (blocks_of pack) (outcome_of L date (parsed_if x (records t)))) (sym (shape_rejected t o eo q)))

    pub by_twelve : (n : ℕ) (b : Blocks) (w : Course) → o ≡ Some n → w ≡ by_digits t n b → pack_shape pack ≡ Some b → Ok w ≡ route_of t pack date name
    unfolding outcome parse by_digits
    by_twelve n b w q ew eb =
        let good = shape_sound t o n eo q in
        let P = sound_parts t good.0 in
        let there = (shape_good pack b eb).1 in
        let digits = twelve (take 120 t) in
        let found : eqb (length (line_in 12 digits b.five)) 0 ≡ empty (L sent_before digits) =
        ap (λ (c : Blocks). eqb (length (line_in 12 digits c.five)) 0) there ∙ sent_sought (blocks_of pack) digits
        ∙ (λ i. empty (sought_lines pack well i sent_before digits)) in
        on w
        (ew ∙ (λ i. by_marks (not (found i)) (not (same (twelve_again (sym P.recap i)) digits)) (good.1 i) (there i))
        ∙ (λ i. by_marks (not (empty (L sent_before (twelve (sym P.trana i))))) (not (same (twelve_again p.recap) (twelve (sym P.trana i)))) (length p.docs) (blocks_of pack))
        ∙ sym (marked (not (empty (L sent_before (twelve p.trana)))) (not (same (twelve_again p.recap) (twelve p.trana))) (blocks_of pack) p (turns_of L date p))
        ∙ ap (λ (x : Bool). way_of (blocks_of pack) (outcome_of L date (parsed_if x (records t)))) (sym good.0))

  -- WHAT IT SAYS OF THE PAPER

  pub refused : (r : Refusal) → route_of t pack date name ≡ Err r → refusal_of t pack date name ≡ Some r
  unfolding route_of
  refused r e = by (refusal_of t pack date name) e
    where
      by : (q : Option Refusal) → refuse_or q (way_of (blocks_of pack) (outcome_with pack date t)) ≡ Err r → q ≡ Some r
      by (Some q) e = let z : q ≡ r = cc in ap Some z
      by None e = cc

  -- rejected whole with these codes
  abbrev Rejects : Codes → Outcome → Type 0
  Rejects codes o = (q : Option Refusal) → refuse_or q (way_of (blocks_of pack) o) ≡ Ok (rejecting codes) → (q ≡ None) × (o ≡ rejected (sequence_for codes t) codes)

  pub whole : (codes : Codes) → route_of t pack date name ≡ Ok (rejecting codes) → (refusal_of t pack date name ≡ None) × (outcome_with pack date t ≡ rejected (sequence_for codes t) codes)
  unfolding route_of
  whole codes e = outcome_cases (Rejects codes) L date t (with C0823 (zeros 16) refl) either (refusal_of t pack date name) e
    where
      with : (c : Codes) (sequence : Bytes) → sequence ≡ sequence_for c t → Rejects codes (rejected sequence c)
      with c sequence es (Some q) e = cc
      with c sequence es None e = let z : c ≡ codes = cc in (refl, (λ i. rejected (es i) c) ∙ ap (λ (x : Codes). rejected (sequence_for x t) x) z)

      either : sound (records t) ≡ true → (x y : Bool) → Rejects codes (outcome_by x y p (turns_of L date p))
      either h true true q e = with C0822And0840 _ (padded_twelve t h) q e
      either h true false q e = with C0822 _ (padded_twelve t h) q e
      either h false true q e = with C0840 _ (padded_twelve t h) q e
      either h false false (Some q) e = cc
      either h false false None e = cc

  -- judged
  abbrev Judges : ℕ → Blocks → Outcome → Type 0
  Judges n b o = outcome_with pack date t ≡ o → (q : Option Refusal) → refusal_of t pack date name ≡ q → refuse_or q (way_of (blocks_of pack) o) ≡ Ok (judging n b)
      → (q ≡ None) × Ready t pack date n b

  pub ready : (n : ℕ) (b : Blocks) → route_of t pack date name ≡ Ok (judging n b) → (refusal_of t pack date name ≡ None) × Ready t pack date n b
  unfolding route_of
  ready n b e = outcome_cases (Judges n b) L date t (no (zeros 16) C0823) either refl (refusal_of t pack date name) refl e
    where
      no : (sequence : Bytes) (c : Codes) → Judges n b (rejected sequence c)
      no sequence c o (Some q) l e = cc
      no sequence c o None l e = cc

      yes : sound (records t) ≡ true → Judges n b (judged p (turns_of L date p))
      yes h o (Some q) l e = cc
      yes h o None l e =
          let fine = not_refused t pack date name l in
          (refl, record { short = fine.0; well = fine.1; there = cc; good = h; count = cc; outcome = o })

      either : sound (records t) ≡ true → (x y : Bool) → Judges n b (outcome_by x y p (turns_of L date p))
      either h true true = no _ C0822And0840
      either h true false = no _ C0822
      either h false true = no _ C0840
      either h false false = yes h
