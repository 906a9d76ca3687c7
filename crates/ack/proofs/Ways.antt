-- Which file: by the route that a transmission takes, and by the rows of the pack. Assumes nothing.
use mathlib.Core.Path.{◌≡◌, refl, sym, ap, ◌∙◌, subst}
use mathlib.Core.List.{List, [], ◌∷◌, map}
use Rattle.std.proofs.Common.{Option, None, Some, Result, Ok, Err}
use Prim.Native.Nat.{ℕ, ◌+◌, ◌*◌}
use lib.ListN.{length}
use Rattle.paper.specs.declared.Codes.{Codes}
use Rattle.paper.specs.declared.Codes.TheVariants.{C0823, C0822, C0840, C0822And0840}
use Rattle.paper.specs.declared.Layout.TheVariants.{LTrana}
use Rattle.paper.specs.declared.Refusal.{Refusal}
use Rattle.paper.specs.Bytes.{Bytes, zeros, laid}
use Rattle.paper.specs.Layouts.{through}
use Rattle.paper.specs.Pack.{Blocks, lines_of, blocks_of}
use Rattle.paper.specs.Walk.{records, Doc, Parsed, parsed_of, twelve}
use Rattle.paper.specs.Judge.{Turn, turns, asked, start}
use Rattle.paper.specs.File.{code_list, rejection, judged, turns_of, file_from, file_of}
use Rattle.paper.specs.Answer.{Answer, prescribed, room_for, refusal_of, refused_or, answer, left_by}
use Rattle.paper.specs.Room.{need}
use Rattle.paper.proofs.RecordSizes.{length-rejection}
use Rattle.lookup.specs.Find.{sought}
use Rattle.lookup.proofs.Laws.{sought_lines}
use Rattle.judge.specs.Judged.{searched}
use Rattle.judge.proofs.Ties.{asked_sought}
use Rattle.rejection.specs.Given.{Given}
use Rattle.route.specs.Way.{Course, rejecting, judging, route_of, sequence_for, Ready}
use Rattle.route.proofs.Laws.{refused, whole, ready}
use Rattle.ack.specs.Ties.{Begins, turns_in, sets_in, judged_file}
use Rattle.ack.proofs.Tour.{begins}
use Rattle.ack.proofs.Whole.{file_size}

-- BY THE BLOCKS OF THE PACK

-- the searches in four blocks give every document the same
same_turns : (b : Blocks) (date : Bytes) (p : Parsed) → turns_of (sought b) date p ≡ turns_of (searched b) date p
same_turns b date p = ap (turns date start) (all p.docs)
  where
    all : (ds : List Doc) → map (asked (sought b)) ds ≡ map (asked (searched b)) ds
    all [] = refl
    all (d ∷ ds) = λ i. sym (asked_sought b d) i ∷ all ds i

-- a transmission that is judged, and the blocks of its pack
module _ (t pack date : Bytes) (n : ℕ) (b : Blocks) (r : Ready t pack date n b) where
  pub begun : Begins t n
  begun = begins t n r.short r.good r.count

  block_turns : turns_in (searched b) date t ≡ turns_in (lines_of (blocks_of pack)) date t
  block_turns =
      (λ i. turns_in (searched (r.there i)) date t) ∙ sym (same_turns (blocks_of pack) date (parsed_of (records t)))
      ∙ (λ i. turns_in (sought_lines pack r.well i) date t)

  -- the file is that of its turns
  pub block_file : (name : Bytes) → judged_file (searched b) date name t ≡ prescribed t pack date name
  unfolding prescribed file_of judged_file
  block_file name = ap (λ (ts : List Turn). file_from name (judged (parsed_of (records t)) ts)) block_turns ∙ sym (ap (file_from name) r.outcome)

  pub block_size : (name : Bytes) → length (prescribed t pack date name) ≡ 360 + length (sets_in (turns_in (searched b) date t))
  block_size name = ap length (sym (block_file name)) ∙ file_size (searched b) date name t n begun

-- THE 12 DIGITS OF A WHOLE REJECTION

pub other_codes : (c : Codes) (t digits s : Bytes) → (c ≡ C0823 → ⊥) → digits ≡ through LTrana 60 80 t → s ≡ laid (zeros 16) 0 digits → s ≡ sequence_for c t
unfolding twelve
other_codes C0823 t digits s h e es = absurd (h refl)
other_codes C0822 t digits s h e es = es ∙ ap (laid (zeros 16) 0) e
other_codes C0840 t digits s h e es = es ∙ ap (laid (zeros 16) 0) e
other_codes C0822And0840 t digits s h e es = es ∙ ap (laid (zeros 16) 0) e

-- BY THE ROUTE

module _ (t pack date name : Bytes) (w : Result Course Refusal) (e : w ≡ route_of t pack date name) where
  abbrev file : Bytes
  file = prescribed t pack date name

  module _ (r : Refusal) (q : w ≡ Err r) where
    is_refused : refusal_of t pack date name ≡ Some r
    is_refused = refused t pack date name r (sym e ∙ q)

    pub refuses : (n : ℕ) → Err r ≡ answer t pack date name n
    unfolding answer
    refuses n = ap (λ (x : Option Refusal). refused_or x (room_for n file)) (sym is_refused)

    pub refuses_need : Err r ≡ need t pack date name
    unfolding need
    refuses_need = ap (λ (x : Option Refusal). refused_or x (Ok (length file))) (sym is_refused)

  module _ (free : refusal_of t pack date name ≡ None) where
    answers : (out out' : Bytes) (a : Answer) → Given file out out' a → (a ≡ answer t pack date name (length out)) × (out' ≡ left_by a file out)
    unfolding answer
    answers out out' a g = (g.says ∙ ap (λ (x : Option Refusal). refused_or x (room_for (length out) file)) (sym free), g.leaves)

    needs : (k : ℕ) → k ≡ length file → Ok k ≡ need t pack date name
    unfolding need
    needs k q = ap Ok q ∙ ap (λ (x : Option Refusal). refused_or x (Ok (length file))) (sym free)

  module _ (codes : Codes) (q : w ≡ Ok (rejecting codes)) where
    rejected_file : file ≡ rejection (sequence_for codes t) codes
    unfolding prescribed file_of
    rejected_file = ap (file_from name) (whole t pack date name codes (sym e ∙ q)).1

    pub rejects : (sequence out out' : Bytes) (a : Answer) → sequence ≡ sequence_for codes t → Given (rejection sequence codes) out out' a → (a ≡ answer t pack date name (length out)) × (out' ≡ left_by a file out)
    rejects sequence out out' a es g =
        answers (whole t pack date name codes (sym e ∙ q)).0 out out' a (subst (λ (f : Bytes). Given f out out' a) (ap (λ (s : Bytes). rejection s codes) es ∙ sym rejected_file) g)

    pub rejects_need : (k : ℕ) → k ≡ 120 + 120 * length (code_list codes) → Ok k ≡ need t pack date name
    rejects_need k ek = needs (whole t pack date name codes (sym e ∙ q)).0 k (ek ∙ sym (ap length rejected_file ∙ length-rejection (sequence_for codes t) codes))

  module _ (n : ℕ) (b : Blocks) (q : w ≡ Ok (judging n b)) where
    is_ready : Ready t pack date n b
    is_ready = (ready t pack date name n b (sym e ∙ q)).1

    pub is_begun : Begins t n
    is_begun = begun t pack date n b is_ready

    pub judges : (out out' : Bytes) (a : Answer) → Given (judged_file (searched b) date name t) out out' a → (a ≡ answer t pack date name (length out)) × (out' ≡ left_by a file out)
    judges out out' a g =
        answers (ready t pack date name n b (sym e ∙ q)).0 out out' a (subst (λ (f : Bytes). Given f out out' a) (block_file t pack date n b is_ready name) g)

    pub judges_need : (k : ℕ) → k ≡ 360 + length (sets_in (turns_in (searched b) date t)) → Ok k ≡ need t pack date name
    judges_need k ek = needs (ready t pack date name n b (sym e ∙ q)).0 k (ek ∙ sym (block_size t pack date n b is_ready name))
