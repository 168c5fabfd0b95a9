-- The reply and the lists of each way in which querying ends.
use mathlib.Core.Path.{◌≡◌, refl, sym, ap, ◌∙◌, subst, subst⁻¹}
use mathlib.Core.Bool.{Bool, true, false}
use mathlib.Core.List.{List, [], ◌∷◌, ◌++◌}
use Prim.Native.Nat.{ℕ, zero, suc, ◌-◌, ◌^◌, ◌≤◌, ◌<◌}
use native.Mathlib.Omega.{arith}
use borrow.Author.Tests.{eq-eqb, ne_eqb}
use lib.Dec.{T, ltb, lt→ltb}
use lib.ListN.{length, get_or, replicate}
use Rattle.meaning.specs.Lists.{if}
use Rattle.meaning.specs.Credentials.{Credential, credential_at}
use Rattle.meaning.specs.Proofs.{Step, cites_first, cites_second}
use Rattle.file.specs.Refusals.{RefusalRow, Outcome, done, refused, first, left, writes}
use Rattle.withdrawals.specs.Source.{Source, credentials}
use Rattle.store.specs.Entries.{role_in, set_in}
use Rattle.store.specs.Notes.{word, level_of}
use Rattle.store.proofs.Keys.{role-of-key, set-of-key}
use Rattle.asking.specs.Asking.{Request, StepLists, step_lists, size, asking}
use Rattle.asking.proofs.Asked.{same-lengths}
use Rattle.derivation.specs.HandedOut.{HandedOut, words}
use Rattle.derivation.specs.Derivation.{Citable, Derivation}
use Rattle.answering.specs.Answering.{Citing, Keeps}
use Rattle.answering.specs.Steps.{steps_in}
use Rattle.answering.proofs.Writing.{steps-count}
use Rattle.finding.specs.declared.Found.{Found}
use Rattle.finding.specs.Finding.{says_found, Shows, Finds}
use Rattle.querying.specs.Querying.{Counts, counts, minute_full_row, none_row, level_for, reply_with, query_ending, querying, Queried}
use Rattle.querying.specs.Working.{step_count, Proves}
use Rattle.querying.proofs.Refusals.{reply-bound}

no-refusal : {A : Type 0} {n p : ℕ} {c : A} → refused n p ≡ done c → ⊥
no-refusal e = let z : ◌≡◌ {A = ℕ} 0 1 = cc in absurd (omega arith)

-- ---- what keeping the entry found takes

-- derived entries cite entries before them
pub citing : {cs : List Credential} {m : ℕ} {keys notes : List ℕ} {n : ℕ} → Derivation cs m keys notes n → Citing notes n
citing {cs} {m} {keys} {notes} {n} d i h =
    let e = d.derived i h in
    let b = (credential_at cs (word notes i 0)).statement.body in
    (low (cites_first b) (word notes i 1) e.firsts e.holds.first, low (cites_second b) (word notes i 2) e.seconds e.holds.second)
  where
    low : (c : Bool) (w : ℕ) → c ≡ ltb 0 w → Citable c i (w - 1) → w ≤ i
    low c zero e k = omega arith
    low true (suc w) e k = let l : suc w - 1 < i = k in omega arith
    low false (suc w) e k = absurd (subst⁻¹ T e (lt→ltb 0 (suc w) (omega arith)))

-- ---- the reply is a level with a step count, or the same refusal

abbrev with_steps : Outcome ℕ → ℕ → Outcome Counts
with_steps (done level) n = done (counts n level)
with_steps (refused number place) n = refused number place

first-with : (rows : List RefusalRow) (level n : ℕ) → first rows (counts n level) ≡ with_steps (first rows level) n
first-with [] level n = refl
first-with (r ∷ rows) level n = go r.holds (first-with rows level n)
  where
    go : (b : Bool) → first rows (counts n level) ≡ with_steps (first rows level) n
        → ◌≡◌ {A = Outcome Counts} (elim b [ true ↦ refused r.number r.place | false ↦ first rows (counts n level) ]) (with_steps (elim b [ true ↦ refused r.number r.place | false ↦ first rows level ]) n)
    go true e = refl
    go false e = e

says-found : (g : Found) → g.number ≡ 0 → says_found g ≡ done g.level
says-found g z = ap (λ (b : Bool). if b (done g.level) (refused g.number g.place)) (eq-eqb g.number 0 z)

says-refused : (g : Found) → (g.number ≡ 0 → ⊥) → says_found g ≡ refused g.number g.place
says-refused g h = ap (λ (b : Bool). if b (done g.level) (refused g.number g.place)) (ne_eqb g.number 0 h)

abbrev level_in : Outcome Counts → ℕ
level_in (done c) = c.level
level_in (refused n p) = 0

module _ (f : Source) (q : Request) (t : StepLists) {keys notes : List ℕ} {g : Found} (w : Finds f q t keys notes g) where
  reply-with : (ss : List Step) → reply_with f q t ss ≡ with_steps (says_found g) (length ss)
  unfolding reply_with
  reply-with ss =
      first-with (asking f q t ++ (minute_full_row f q (size t) ∷ none_row f q ∷ [])) (level_for f q) (length ss) ∙ ap (λ (o : Outcome ℕ). with_steps o (length ss)) (sym w.reply)

  pub proves-refused : (g.number ≡ 0 → ⊥) → {o : Outcome Counts} → o ≡ refused g.number g.place → {keys' notes' : List ℕ} → Proves f q t keys' notes' o
  proves-refused h e =
      record {
        steps = [];
        says = e ∙ sym (reply-with [] ∙ ap (λ (o : Outcome ℕ). with_steps o 0) (says-refused g h));
        handed = λ c d. absurd (no-refusal (sym e ∙ d));
        places = λ c d. absurd (no-refusal (sym e ∙ d));
        asks = λ c d. absurd (no-refusal (sym e ∙ d));
      }

  module _ (z : g.number ≡ 0) (small : q.set < 2 ^ 32) {keys' notes' : List ℕ} {k : ℕ} (a : Keeps keys notes g.entry keys' notes' k) {o : Outcome Counts} (e : o ≡ done (counts k g.level)) where
    s : Shows (credentials f) q.minute q.role q.set (size t) keys notes g.entry g.level
    s = w.shows z

    abbrev ss : List Step
    ss = steps_in keys' notes' k

    handed : HandedOut (credentials f) q.minute q.role q.set g.level ss
    handed =
        subst (λ (j : ℕ). HandedOut (credentials f) q.minute q.role q.set j ss) (sym s.level)
        (subst (λ (X : ℕ). HandedOut (credentials f) q.minute q.role X (level_of notes g.entry) ss) (ap set_in s.key ∙ set-of-key q.role q.set small)
        (subst (λ (R : ℕ). HandedOut (credentials f) q.minute R (set_in (get_or keys g.entry 0)) (level_of notes g.entry) ss) (ap role_in s.key ∙ role-of-key q.role q.set small)
        (a.handed (credentials f) q.minute s.derivation)))

    pub proves-proof : Proves f q t keys' notes' o
    proves-proof =
        record {
          steps = ss;
          says = e ∙ sym (reply-with ss ∙ ap (λ (o : Outcome ℕ). with_steps o (length ss)) (says-found g z) ∙ ap (λ (n : ℕ). done (counts n g.level)) (steps-count keys' notes' k));
          handed = λ c d. (subst (λ (j : ℕ). HandedOut (credentials f) q.minute q.role q.set j ss) (ap level_in (sym e ∙ d)) handed, omega (arith, steps-count keys' notes' k, a.few, s.low.0));
          places = λ c d. let n : k ≡ c.steps = ap step_count (sym e ∙ d) in (ap (steps_in keys' notes') n, omega (arith, a.few, s.low.1));
          asks = λ c d. w.asks z;
        }

-- ---- the lists

left-kept : (o : Outcome Counts) (before written : List ℕ) → writes o ≡ false → left o before written ≡ before
left-kept (done c) before written w = absurd (subst T w tt)
left-kept (refused n p) before written w = ap (λ (b : Bool). if b (replicate (length before) 0) before) w

no_steps : (keys notes : List ℕ) → steps_in keys notes 0 ≡ []
unfolding steps_in
no_steps keys notes = refl

-- a list with the words of the steps, or with zeros
column : (keys notes : List ℕ) (size : ℕ) (o : Outcome Counts) → writes o ≡ true → (field : Step → ℕ) (l l' : List ℕ) (ss : List Step)
    → ((c : Counts) → o ≡ done c → (ss ≡ steps_in keys notes c.steps) × (length l ≡ size)) → l' ≡ words field (length l) (steps_in keys notes (step_count o)) → l' ≡ left o l (words field size ss)
column keys notes size (done c) w field l l' ss h e = e ∙ (λ u. words field ((h c refl).1 u) (sym (h c refl).0 u))
column keys notes size (refused n p) w field l l' ss h e =
    let z : length l - 0 ≡ length l = omega arith in
    e ∙ ap (words field (length l)) (no_steps keys notes) ∙ ap (λ (k : ℕ). replicate k 0) z ∙ sym (ap (λ (b : Bool). if b (replicate (length l) 0) l) w)

module _ (f : Source) (q : Request) (t : StepLists) {keys notes : List ℕ} {o : Outcome Counts} (p : Proves f q t keys notes o) where
  abbrev left_by : Outcome Counts → StepLists
  left_by o =
      step_lists (left o t.credential (words (λ s. s.credential) (size t) p.steps)) (left o t.first (words (λ s. s.first) (size t) p.steps))
      (left o t.second (words (λ s. s.second) (size t) p.steps)) (left o t.sets (words (λ s. s.set) (size t) p.steps))

  by-reply : query_ending o (left_by o) ≡ querying f q t p.steps
  unfolding querying
  by-reply = ap (λ (x : Outcome Counts). query_ending x (left_by x)) p.says

  pub queried-kept : writes o ≡ false → Queried f q t o t
  queried-kept w =
      record {
        steps = p.steps;
        ends =
            (λ u. query_ending o (step_lists (sym (left-kept o t.credential (words (λ s. s.credential) (size t) p.steps) w) u) (sym (left-kept o t.first (words (λ s. s.first) (size t) p.steps) w) u)
            (sym (left-kept o t.second (words (λ s. s.second) (size t) p.steps) w) u) (sym (left-kept o t.sets (words (λ s. s.set) (size t) p.steps) w) u)))
            ∙ by-reply;
        handed = p.handed;
        bounded = λ c d. reply-bound f q t p.steps c (sym p.says ∙ d);
      }

  -- what writing takes: places in every list for the steps
  pub steps-fit : {n : ℕ} → n ≡ step_count o → (n ≤ length t.credential) × (n ≤ length t.first) × (n ≤ length t.second) × (n ≤ length t.sets) × (n ≤ 1024)
  steps-fit {n} e = go o refl e
    where
      go : (x : Outcome Counts) → o ≡ x → n ≡ step_count x → (n ≤ length t.credential) × (n ≤ length t.first) × (n ≤ length t.second) × (n ≤ length t.sets) × (n ≤ 1024)
      go (done c) d z =
          let a = same-lengths t (p.asks c d).lists in
          let b = p.places c d in
          let l = (p.handed c d).1 in
          let k : length p.steps ≡ c.steps = ap length b.0 ∙ steps-count keys notes c.steps in
          omega (arith, a.0, a.1, a.2, b.1)
      go (refused m r) d z = omega arith

  pub queried-written : writes o ≡ true → {n : ℕ} → n ≡ step_count o → {t' : StepLists}
      → t'.credential ≡ words (λ s. s.credential) (length t.credential) (steps_in keys notes n) → t'.first ≡ words (λ s. s.first) (length t.first) (steps_in keys notes n)
      → t'.second ≡ words (λ s. s.second) (length t.second) (steps_in keys notes n) → t'.sets ≡ words (λ s. s.set) (length t.sets) (steps_in keys notes n)
      → Queried f q t o t'
  queried-written w {n} e {t'} a b c d =
      record {
        steps = p.steps;
        ends = (λ u. query_ending o (step_lists (credential u) (first' u) (second u) (sets u))) ∙ by-reply;
        handed = p.handed;
        bounded = λ c d. reply-bound f q t p.steps c (sym p.says ∙ d);
      }
    where
      by : (field : Step → ℕ) (l l' : List ℕ) → l' ≡ words field (length l) (steps_in keys notes n) → l' ≡ words field (length l) (steps_in keys notes (step_count o))
      by field l l' h = h ∙ ap (λ (x : ℕ). words field (length l) (steps_in keys notes x)) e

      credential : t'.credential ≡ left o t.credential (words (λ s. s.credential) (size t) p.steps)
      credential = column keys notes (size t) o w (λ s. s.credential) t.credential t'.credential p.steps (λ c d. ((p.places c d).0, refl)) (by (λ s. s.credential) t.credential t'.credential a)

      first' : t'.first ≡ left o t.first (words (λ s. s.first) (size t) p.steps)
      first' = column keys notes (size t) o w (λ s. s.first) t.first t'.first p.steps (λ c d. ((p.places c d).0, (same-lengths t (p.asks c d).lists).0)) (by (λ s. s.first) t.first t'.first b)

      second : t'.second ≡ left o t.second (words (λ s. s.second) (size t) p.steps)
      second = column keys notes (size t) o w (λ s. s.second) t.second t'.second p.steps (λ c d. ((p.places c d).0, (same-lengths t (p.asks c d).lists).1)) (by (λ s. s.second) t.second t'.second c)

      sets : t'.sets ≡ left o t.sets (words (λ s. s.set) (size t) p.steps)
      sets = column keys notes (size t) o w (λ s. s.set) t.sets t'.sets p.steps (λ c d. ((p.places c d).0, (same-lengths t (p.asks c d).lists).2)) (by (λ s. s.set) t.sets t'.sets d)
