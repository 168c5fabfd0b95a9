-- What `# {one|many}` puts: a number and its word, which is another for one.
use mathlib.Core.Path.{◌≡◌, refl, sym, ap, ◌∙◌}
use mathlib.Core.Bool.{Bool, true, false}
use mathlib.Core.List.{List, ◌∷◌, ◌++◌, append_assoc}
use Prim.Native.Nat.{ℕ}
use lib.Dec.{eqb}
use Rattle.meaning.specs.Lists.{if}
use Rattle.text.specs.Lines.{decimal}
use Rattle.sentences.specs.declared.Filling.{Filling}
use Rattle.sentences.specs.Words.{counted}
use Rattle.sentences.specs.Filling.{filled}

-- a space after the number goes to the word
spaced : (b : Bool) (x one many t : List ℕ) → x ++ (32 ∷ (if b one many ++ t)) ≡ (x ++ if b (32 ∷ one) (32 ∷ many)) ++ t
spaced true x one many t = sym (append_assoc x (32 ∷ one) t)
spaced false x one many t = sym (append_assoc x (32 ∷ many) t)

module _ (n a b c d : ℕ) where
  -- the number before is n, and words are put or not
  abbrev pub after : Bool → Filling
  after on = record { on = on; before = n; a = a; b = b; c = c; d = d }

  module _ (one many : List ℕ)
      (one_on : (t : List ℕ) → filled (after true) (one ++ t) ≡ one ++ filled (after true) t)
      (one-off : (t : List ℕ) → filled (after false) (one ++ t) ≡ filled (after false) t)
      (many-on : (t : List ℕ) → filled (after true) (many ++ t) ≡ many ++ filled (after true) t)
      (many-off : (t : List ℕ) → filled (after false) (many ++ t) ≡ filled (after false) t) (t : List ℕ) where
    by : (e : Bool) → eqb n 1 ≡ e → filled (after true) (123 ∷ (one ++ (124 ∷ (many ++ (125 ∷ t))))) ≡ if e one many ++ filled (after true) t
    by true h =
        ap (λ (e : Bool). filled (after e) (one ++ (124 ∷ (many ++ (125 ∷ t))))) h ∙ one_on (124 ∷ (many ++ (125 ∷ t)))
        ∙ ap (λ (l : List ℕ). one ++ l) (many-off (125 ∷ t))
    by false h =
        ap (λ (e : Bool). filled (after e) (one ++ (124 ∷ (many ++ (125 ∷ t))))) h ∙ one-off (124 ∷ (many ++ (125 ∷ t)))
        ∙ many-on (125 ∷ t)

    -- the words of {one|many} stand for themselves
    pub count : decimal n ++ (32 ∷ filled (after true) (123 ∷ (one ++ (124 ∷ (many ++ (125 ∷ t))))))
        ≡ counted n (32 ∷ one) (32 ∷ many) ++ filled (after true) t
    count = ap (λ (l : List ℕ). decimal n ++ (32 ∷ l)) (by (eqb n 1) refl) ∙ spaced (eqb n 1) (decimal n) one many (filled (after true) t)
