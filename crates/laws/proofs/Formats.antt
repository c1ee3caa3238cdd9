-- Formats put together: what is written and read part by part is written and read inversely if each part is.
-- Assumes nothing.
use mathlib.Core.Path.{◌≡◌, refl, sym, ap, ◌∙◌, subst, fun_ext}
use mathlib.Core.Bool.{Bool, true}
use mathlib.Core.List.{List, [], ◌∷◌, ◌++◌, append_assoc}
use Prim.Native.Nat.{ℕ, zero, suc, ◌+◌, ◌≤◌}
use native.Mathlib.Omega.{arith}
use native.Mathlib.Nat.{add-zero}
use lib.Dec.{leb}
use lib.ListN.{length, take, drop, length-append, length-drop, take-append-drop}
use lib.Seq.{drop-append_seam, drop-drop, length-take-le, take_at}
use borrow.Author.Tests.{le-leb, leb-true}
use Rattle.laws.specs.Told.{Told, gives, Found, found, then, unless}
use Rattle.laws.specs.Format.{Bytes, Each, Inverse}
use Rattle.laws.specs.Bytes.{part, bytes_at, joined}
use Rattle.laws.specs.Repeated.{repeated}
use Rattle.laws.proofs.Told.{gives_same, then_gives, unless_gives}
use Rattle.laws.proofs.Bytes.{bytes_nil, bytes_append, bytes_take, bytes_drop}

-- what only_written says of one reading
abbrev Shape : {A : Type 0} → (A → Type 0) → (A → List ℕ) → List ℕ → ℕ → Found A → Type 0
Shape valid written s at r =
    valid r.value × (r.next ≡ at + length (written r.value)) × (drop at s ≡ written r.value ++ drop r.next s)

-- ---- a number of bytes
module _ (size : ℕ) where
  part_back : (before after b : List ℕ) → length b ≡ size
      → bytes_at size (before ++ (b ++ after)) (length before) ≡ found b (length before + length b)
  part_back before after b long =
      let s = before ++ (b ++ after) in
      let room : length before + size ≤ length s = simp length-append (omega arith) in
      let here : take size (drop (length before) s) ≡ b = rw (drop-append_seam before (b ++ after)) (take_at b after size long) in
      simp (le-leb _ _ room, here, long)

  part_only : (s : List ℕ) (at : ℕ) (r : Found (List ℕ)) → Bytes s → bytes_at size s at ≡ gives r
      → Shape (λ b. (length b ≡ size) × Bytes b) (λ b. b) s at r
  part_only s at r bytes e =
      let (room, is) = unless_gives (leb (at + size) (length s)) 3 0 (found (part s at size) (at + size)) r e in
      let long : length (part s at size) ≡ size =
      length-take-le size (drop at s) (rw length-drop (omega (arith, leb-true (at + size) (length s) room))) in
      subst (Shape (λ b. (length b ≡ size) × Bytes b) (λ b. b) s at) (gives_same is) (
        (long, bytes_take size (drop at s) (bytes_drop at s bytes)),
        ap (λ (n : ℕ). at + n) (sym long),
        sym (take-append-drop size (drop at s)) ∙ ap (λ (rest : List ℕ). part s at size ++ rest) (drop-drop size at s),
      )

  pub fixed_bytes : Inverse (λ b. (length b ≡ size) × Bytes b) (λ b. b) (bytes_at size)
  fixed_bytes = record {
    bytes = λ b valid. valid.1;
    reads_back = λ before after b valid. part_back before after b valid.0;
    only_written = part_only;
  }

-- ---- a format whose values pass a test
module _ {A : Type 0} {valid : A → Type 0} {written : A → List ℕ} {readAt : List ℕ → ℕ → Told (Found A)}
    (inner : Inverse valid written readAt) where
  pub tested : (test : A → Bool) (number : ℕ)
      → Inverse (λ a. valid a × (test a ≡ true)) written (λ s at. then (readAt s at) λ r. unless (test r.value) number 0 (gives r))
  tested test number = record {
    bytes = λ a fine. inner.bytes a fine.0;
    reads_back = λ before after a fine. rw (inner.reads_back before after a fine.0, fine.1);
    only_written = λ s at r bytes e.
        let (q, reads, passed) = then_gives (readAt s at) _ r e in
        let (fine, is) = unless_gives (test q.value) number 0 (gives q) r passed in
        let (ok, next, shape) = inner.only_written s at q bytes reads in
        subst (Shape (λ a. valid a × (test a ≡ true)) written s at) (gives_same is) ((ok, fine), next, shape);
  }

  -- the same format, told otherwise
  pub revalid : (valid' : A → Type 0) → ((a : A) → valid a → valid' a) → ((a : A) → valid' a → valid a) → Inverse valid' written readAt
  revalid valid' to from = record {
    bytes = λ a fine. inner.bytes a (from a fine);
    reads_back = λ before after a fine. inner.reads_back before after a (from a fine);
    only_written = λ s at r bytes e. let (ok, next, shape) = inner.only_written s at r bytes e in (to r.value ok, next, shape);
  }

  pub rewritten : (written' : A → List ℕ) → ((a : A) → written a ≡ written' a) → Inverse valid written' readAt
  rewritten written' same = subst (λ (w : A → List ℕ). Inverse valid w readAt) (fun_ext same) inner

  pub reread : (readAt' : List ℕ → ℕ → Told (Found A)) → ((s : List ℕ) (at : ℕ) → readAt s at ≡ readAt' s at) → Inverse valid written readAt'
  reread readAt' same = subst (λ (r : List ℕ → ℕ → Told (Found A)). Inverse valid written r) (fun_ext λ s. fun_ext λ at. same s at) inner

-- ---- one format behind another, which may hang on the first one's value
module _ {A B C : Type 0} {validA : A → Type 0} {writtenA : A → List ℕ} {read_a : List ℕ → ℕ → Told (Found A)}
    {validB : A → B → Type 0} {writtenB : A → B → List ℕ} {readB : A → List ℕ → ℕ → Told (Found B)}
    (first : Inverse validA writtenA read_a) (second : (a : A) → Inverse (validB a) (writtenB a) (readB a))
    (pair : A → B → C) (left : C → A) (right : C → B)
    (whole : (c : C) → pair (left c) (right c) ≡ c)
    (parts : (a : A) (b : B) → validB a b → (left (pair a b) ≡ a) × (right (pair a b) ≡ b)) where
  abbrev valid_c : C → Type 0
  valid_c c = validA (left c) × validB (left c) (right c)

  abbrev written_c : C → List ℕ
  written_c c = writtenA (left c) ++ writtenB (left c) (right c)

  abbrev read_c : List ℕ → ℕ → Told (Found C)
  read_c s at = then (read_a s at) λ a. then (readB a.value s a.next) λ b. found (pair a.value b.value) b.next

  seq_back : (before after : List ℕ) (c : C) → valid_c c
      → read_c (before ++ (written_c c ++ after)) (length before) ≡ found c (length before + length (written_c c))
  seq_back before after c (fineA, fineB) =
      let wa = writtenA (left c) in
      let wb = writtenB (left c) (right c) in
      let split : before ++ (written_c c ++ after) ≡ before ++ (wa ++ (wb ++ after)) = rw append_assoc in
      let moved : before ++ (wa ++ (wb ++ after)) ≡ (before ++ wa) ++ (wb ++ after) = sym (append_assoc before wa (wb ++ after)) in
      let a-reads = first.reads_back before (wb ++ after) (left c) fineA in
      let b_reads : readB (left c) (before ++ (wa ++ (wb ++ after))) (length before + length wa)
      ≡ found (right c) (length before + length wa + length wb) =
      rw (moved, ← (length-append before wa)) ((second (left c)).reads_back (before ++ wa) after (right c) fineB) in
      rw (split, a-reads, b_reads, whole c)
      (ap (found c) (omega (arith, length-append wa wb)))

  seq_only : (s : List ℕ) (at : ℕ) (r : Found C) → Bytes s → read_c s at ≡ gives r → Shape valid_c written_c s at r
  seq_only s at r bytes e =
      let (a, a-reads, rest) = then_gives (read_a s at) _ r e in
      let (b, b_reads, is) = then_gives (readB a.value s a.next) _ r rest in
      let (fineA, a-next, a-shape) = first.only_written s at a bytes a-reads in
      let (fineB, b-next, b-shape) = (second a.value).only_written s a.next b bytes b_reads in
      let (l, q) = parts a.value b.value fineB in
      subst (Shape valid_c written_c s at) (gives_same is)
      (rw (l, q) (
        (fineA, fineB),
        omega (arith, length-append (writtenA a.value) (writtenB a.value b.value)),
        a-shape ∙ ap (λ (more : List ℕ). writtenA a.value ++ more) b-shape
            ∙ sym (append_assoc (writtenA a.value) (writtenB a.value b.value) (drop b.next s)),
      ))

  pub sequence : Inverse valid_c written_c read_c
  sequence = record {
    bytes = λ c fine. bytes_append (writtenA (left c)) (writtenB (left c) (right c)) (first.bytes (left c) fine.0) ((second (left c)).bytes (right c) fine.1);
    reads_back = seq_back;
    only_written = seq_only;
  }

-- ---- a format several times over
module _ {A : Type 0} {valid : A → Type 0} {written : A → List ℕ} {readAt : List ℕ → ℕ → Told (Found A)}
    (inner : Inverse valid written readAt) where
  abbrev valid_all : ℕ → List A → Type 0
  valid_all times l = (length l ≡ times) × Each valid l

  each_bytes : (l : List A) → Each valid l → Bytes (joined written l)
  each_bytes [] fine = bytes_nil
  each_bytes (a ∷ l) (fine, others) = bytes_append (written a) (joined written l) (inner.bytes a fine) (each_bytes l others)

  each_back : (l : List A) (before after : List ℕ) → Each valid l
      → repeated readAt (length l) (before ++ (joined written l ++ after)) (length before) ≡ found l (length before + length (joined written l))
  each_back [] before after fine = ap (found []) (sym (add-zero (length before)))
  each_back (a ∷ l) before after (fine, others) =
      let w = written a in
      let ws = joined written l in
      let split : before ++ ((w ++ ws) ++ after) ≡ before ++ (w ++ (ws ++ after)) = rw append_assoc in
      let moved : before ++ (w ++ (ws ++ after)) ≡ (before ++ w) ++ (ws ++ after) = sym (append_assoc before w (ws ++ after)) in
      let one = inner.reads_back before (ws ++ after) a fine in
      let rest : repeated readAt (length l) (before ++ (w ++ (ws ++ after))) (length before + length w) ≡ found l (length before + length w + length ws) =
      rw (moved, ← (length-append before w)) (each_back l (before ++ w) after others) in
      rw (split, one, rest) (ap (found (a ∷ l)) (omega (arith, length-append w ws)))

  each_only : (times : ℕ) (s : List ℕ) (at : ℕ) (r : Found (List A)) → Bytes s → repeated readAt times s at ≡ gives r
      → Shape (valid_all times) (joined written) s at r
  each_only zero s at r bytes e =
      subst (Shape (valid_all 0) (joined written) s at) (gives_same e) ((refl, tt), sym (add-zero at), refl)
  each_only (suc times) s at r bytes e =
      let (first, reads, rest) = then_gives (readAt s at) _ r e in
      let (others, more, is) = then_gives (repeated readAt times s first.next) _ r rest in
      let (fine, next, shape) = inner.only_written s at first bytes reads in
      let ((long, all), last, shapes) = each_only times s first.next others bytes more in
      let w = written first.value in
      let ws = joined written others.value in
      subst (Shape (valid_all (suc times)) (joined written) s at) (gives_same is) (
        (ap suc long, (fine, all)),
        omega (arith, length-append w ws),
        shape ∙ ap (λ (rest : List ℕ). w ++ rest) shapes ∙ sym (append_assoc w ws (drop others.next s)),
      )

  pub several : (times : ℕ) → Inverse (valid_all times) (joined written) (repeated readAt times)
  several times = record {
    bytes = λ l fine. each_bytes l fine.1;
    reads_back = λ before after l fine. subst
        (λ (n : ℕ). repeated readAt n (before ++ (joined written l ++ after)) (length before) ≡ found l (length before + length (joined written l)))
        fine.0 (each_back l before after fine.1);
    only_written = each_only times;
  }
