use mathlib.Core.Path.{◌≡◌, refl, ◌∙◌, subst⁻¹}
use native.Mathlib.Omega.{arith}
use lib.ListN.{length, set, length-set}
use lib.Seq.{get_or-set_same}
use Rattle.store.specs.declared.Store.{Store}
use Rattle.store.specs.Store.{SameLists}
use Rattle.answering.specs.Marks.{Marked}
use Rattle.answering.proofs.Marking.{shifted-first, shifted-length}
use Rattle.answering.proofs.Keeping.{progress-none, place-low, words-low, progress-taken, progress-left, all-kept}
use Rattle.answering.proofs.keep.Goals as goal
use Rattle.answering.proofs.keep.Goals.{then-numbers-j-ne0, else-numbers-j-ne0}

same-then : {a b d : Store} → SameLists a b → SameLists b d → SameLists a d
same-then s t = record { spans = t.spans ∙ s.spans; slots = t.slots ∙ s.slots; links = t.links ∙ s.links; count = t.count ∙ s.count }

pub loop-j-init : goal.loop-j-init
loop-j-init c =
    let l = c.needed-numbers.result in
    let m = subst⁻¹ (Marked c.args.store.now.notes c.args.x 0) (shifted-first l 0) c.needed-numbers.ensures in
    let r : length l ≡ 1025 = shifted-length l 1023 c.needed-numbers.ensures.room in
    (m, progress-none c.args.store.now.keys c.args.store.now.notes (set l 0 0) (length-set l 0 0 ∙ r) (omega arith) (omega arith) (get_or-set_same l 0 0 0 (omega arith)), record { spans = refl; slots = refl; links = refl; count = refl })

pub keep_at-requires : goal.keep_at-requires
keep_at-requires c =
    let p = c.loop-j.invariant.1 in
    let w = words-low p c.args.x c.requires.1 c.loop-j.invariant.0 c.requires.0 (omega arith) in
    (omega arith, omega (arith, place-low p), w.0, w.1)

pub overflow_cast-numbers : goal.overflow_cast-numbers
overflow_cast-numbers c = omega (arith, place-low c.loop-j.invariant.1)

pub overflow_add-k : goal.overflow_add-k
overflow_add-k c = omega (arith, place-low c.loop-j.invariant.1)

pub loop-j-preserved : goal.loop-j-preserved
loop-j-preserved c =
    let m = c.loop-j.invariant.0 in
    let p = c.loop-j.invariant.1 in
    elim c.if-numbers-j-ne0.branch [
      | then-numbers-j-ne0 w ↦ rw (w.store-is, w.numbers-is, w.k-is) (m, progress-taken p c.args.x c.requires.1 m c.requires.0 (omega arith) w.if-numbers-j-ne0.true w.keep_at.ensures.keys w.keep_at.ensures.notes, same-then c.loop-j.invariant.2 w.keep_at.ensures.others)
      | else-numbers-j-ne0 w ↦ rw (w.store-is, w.numbers-is, w.k-is) (m, progress-left p w.if-numbers-j-ne0.false, c.loop-j.invariant.2)
    ]

pub returns-clause-keeps : goal.returns-clause-keeps
returns-clause-keeps c = all-kept (omega arith) (omega arith) c.requires.1 c.loop-j.invariant.0 c.loop-j.invariant.1
