-- What the head's refusal and the credentials' decide of a file.
use mathlib.Core.Path.{◌≡◌, sym, ap, ◌∙◌}
use mathlib.Core.List.{List, ◌++◌}
use Prim.Native.Nat.{ℕ}
use Rattle.meaning.specs.Lists.{below}
use Rattle.file.specs.declared.Head.{Head}
use Rattle.file.specs.declared.Refusal.{Refusal}
use Rattle.file.specs.Format.{N}
use Rattle.file.specs.Reading.{head_rows, check_rows, credentials_rows}
use Rattle.file.specs.Values.{refusal_of, first_number, first_refusal, head_in}
use Rattle.file.proofs.First.{first-clear, refusal-stopped, refusal-passed, refusal-number-at, numbered-each}
use Rattle.file.proofs.Sizes.{number_read, headed-read}
use Rattle.policy.specs.Policy.{Decodes}
use Rattle.policy.specs.Steps.{AllDecoded}
use Rattle.policy.proofs.Words.{policy-of}

module _ (f p : List ℕ) where
  refused-so : (r : Refusal) → (r.number ≡ 0 → ⊥) → r ≡ first_refusal (head_rows f ++ credentials_rows f)
      → Decodes f p (record { number = r.number; place = r.place; entities = 0; names = 0; credentials = 0 })
  refused-so r n e = record { refusal = e; entities = λ z. absurd (n z); names = λ z. absurd (n z); policy = λ z. absurd (n z) }

  module _ (h : Head) (e : h ≡ head_in f) where
    pub head-refused : (h.number ≡ 0 → ⊥) → Decodes f p (record { number = h.number; place = 0; entities = 0; names = 0; credentials = 0 })
    head-refused s =
        let n = number_read f h e in
        let t : (first_number (head_rows f) ≡ 0 → ⊥) = λ z. s (n ∙ z) in
        refused-so (record { number = h.number; place = 0 }) s
        (sym
        (refusal-stopped (head_rows f) (credentials_rows f) t
        ∙ refusal-number-at 0 (head_rows f) tt t
        ∙ ap (λ (k : ℕ). record { number = k; place = 0 }) (sym n)))

    module _ (z : h.number ≡ 0) (r : Refusal) (d : AllDecoded f p r) where
      passes : first_refusal (head_rows f ++ credentials_rows f) ≡ r
      passes = refusal-passed (head_rows f) (credentials_rows f) tt (sym (number_read f h e) ∙ z) ∙ sym d.refusal

      pub one-refused : (r.number ≡ 0 → ⊥) → Decodes f p (record { number = r.number; place = r.place; entities = 0; names = 0; credentials = 0 })
      one-refused s = refused-so r s (sym passes)

      pub all-decoded : r.number ≡ 0 → Decodes f p (record { number = 0; place = 0; entities = h.entities; names = h.names; credentials = h.credentials })
      all-decoded s =
          let g = headed-read f h e z in
          let c = ap (λ (x : Refusal). x.number) d.refusal in
          record {
            refusal = sym
                (passes ∙ d.refusal
                ∙ ap refusal_of (first-clear {A = ℕ} (credentials_rows f) 0 (numbered-each (check_rows f) (below (N f)) (λ x. tt)) (sym c ∙ s)));
            entities = λ _. g.entities;
            names = λ _. g.names;
            policy = λ _. policy-of f p h g (d.each s);
          }
