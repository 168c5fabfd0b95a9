-- Whether the sentence of 5 names an entity or a role name.
use mathlib.Core.Path.{◌≡◌, sym, ap, ap₂, ◌∙◌}
use mathlib.Core.Bool.{Bool, true, false}
use mathlib.Core.List.{List, ◌++◌}
use Prim.Native.Nat.{ℕ}
use borrow.Author.Tests.{eq-eqb, ne_eqb}
use lib.Dec.{eqb, leb}
use Rattle.meaning.specs.Lists.{if}
use Rattle.text.specs.Ascii.{ascii}
use Rattle.file.specs.Format.{E, R, field}
use Rattle.file.specs.Reading.{uses}
use Rattle.sentences.specs.Words.{first_of, outside, no_entity, no_name}
use Rattle.file_sentences.specs.FileSentences.{stray_entity, stray_name, range_text}

module _ (f : List ℕ) (i e j : ℕ) (size : e ≡ E f) (found : j ≡ first_of (λ k. leb e (field f i k)) (uses (field f i 0)).entities) where
  stray : stray_entity f i ≡ j
  stray = ap (λ (n : ℕ). first_of (λ k. leb n (field f i k)) (uses (field f i 0)).entities) (sym size) ∙ sym found

  by : (b : Bool) → eqb j 0 ≡ b
      → range_text f i ≡ if b (ascii "role name " ++ no_name f (field f i (stray_name f i))) (ascii "entity " ++ no_entity f (field f i j))
  by b h =
      ap (λ (k : ℕ). if (eqb k 0) (ascii "role name " ++ no_name f (field f i (stray_name f i))) (ascii "entity " ++ no_entity f (field f i k))) stray
      ∙ ap (λ (t : Bool). if t (ascii "role name " ++ no_name f (field f i (stray_name f i))) (ascii "entity " ++ no_entity f (field f i j))) h

  pub entity-said : (x : ℕ) → (j ≡ 0 → ⊥) → x ≡ field f i j
      → range_text f i ≡ ascii "entity " ++ outside x e (ascii " entity") (ascii " entities")
  entity-said x h q =
      by false (ne_eqb j 0 h)
      ∙ ap₂ (λ (y n : ℕ). ascii "entity " ++ outside y n (ascii " entity") (ascii " entities")) (sym q) (sym size)

  pub name-said : (x r k : ℕ) → j ≡ 0 → r ≡ R f → k ≡ first_of (λ k. leb r (field f i k)) (uses (field f i 0)).names → x ≡ field f i k
      → range_text f i ≡ ascii "role name " ++ outside x r (ascii " role name") (ascii " role names")
  name-said x r k h s g q =
      let n : stray_name f i ≡ k = ap (λ (n : ℕ). first_of (λ k. leb n (field f i k)) (uses (field f i 0)).names) (sym s) ∙ sym g in
      let y : field f i (stray_name f i) ≡ x = ap (field f i) n ∙ sym q in
      by true (eq-eqb j 0 h)
      ∙ ap₂ (λ (y n : ℕ). ascii "role name " ++ outside y n (ascii " role name") (ascii " role names")) y (sym s)
