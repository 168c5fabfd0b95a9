-- What the sentences are shown to say.
use mathlib.Core.Path.{◌≡◌, refl}
use Prim.Native.Nat.{ℕ}
use native.Mathlib.Omega.{arith}
use Rattle.text.specs.Ascii.{ascii}
use Rattle.text.specs.Lines.{decimal}
use Rattle.file.proofs.Refusals.{not-of-file}
use Rattle.withdrawals.specs.Source.{Source}
use Rattle.withdrawals.specs.Conditions.{Refused, file, list, serials, too_many_ends}
use Rattle.sentences.specs.Words.{◌then◌}
use Rattle.list_sentences.specs.ListSentences.{longest_list}
use Rattle.list_sentences.specs.Named.{ShapeNamed, SerialNamed}
use Rattle.list_sentences.proofs.Naming as Naming

by-20 : {s : Source} {n p : ℕ} → Refused s n p → n ≡ 20 → ShapeNamed s.file s.withdrawals
by-20 {s} (file r h) e = absurd (not-of-file s.file r 20 tt e)
by-20 {s} (list r m) e = Naming.shape-named s.file s.withdrawals m
by-20 (serials r h u) e = absurd (omega arith)
by-20 (too_many_ends r h d l) e = absurd (omega arith)

by-21 : {s : Source} {n p : ℕ} → Refused s n p → n ≡ 21 → SerialNamed s.file s.withdrawals
by-21 {s} (file r h) e = absurd (not-of-file s.file r 21 tt e)
by-21 (list r m) e = absurd (omega arith)
by-21 {s} (serials r h u) e = Naming.serial-named s.file s.withdrawals r.head.limits.credentials h.few u
by-21 (too_many_ends r h d l) e = absurd (omega arith)

-- A list that is refused by 20 has what the sentence says: fewer than 2 bytes, more than 256 withdrawals, or another length than they take.
pub shape-named : (s : Source) (p : ℕ) → Refused s 20 p → ShapeNamed s.file s.withdrawals
shape-named s p r = by-20 r refl

-- A list that is refused by 21 has the withdrawal that the sentence names at fault, by a serial that an earlier one has or that no credential has, and none before it.
pub serial-named : (s : Source) (p : ℕ) → Refused s 21 p → SerialNamed s.file s.withdrawals
serial-named s p r = by-21 r refl

-- The length that the sentence of 20 names is that of the longest accepted list.
pub longest-text : ascii "more than 2050 bytes" ≡ (ascii "more than " then decimal longest_list then ascii " bytes")
unfolding decimal
longest-text = refl
