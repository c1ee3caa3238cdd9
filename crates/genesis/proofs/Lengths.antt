-- How many bytes a table takes: three numbers of one byte each, 64 of at most five, and the keys.
-- Assumes nothing.
use mathlib.Core.Path.{◌≡◌, ap, subst}
use mathlib.Core.List.{List}
use Prim.Native.Nat.{ℕ, zero, suc, ◌+◌, ◌*◌, ◌<◌, ◌≤◌}
use native.Mathlib.Omega.{arith}
use lib.ListN.{length}
use lib.Dec.{leb}
use borrow.Author.Tests.{leb-true, eqb-true}
use Rattle.laws.specs.Told.{gives, Found}
use Rattle.laws.specs.Every.{both, within}
use Rattle.laws.specs.Repeated.{repeated}
use Rattle.laws.specs.Format.{Bytes}
use Rattle.laws.proofs.Told.{gives_same, then_gives, unless_gives}
use Rattle.laws.proofs.Every.{both_true, within_true}
use Rattle.number.specs.Number.{number_at}
use Rattle.number.proofs.Groups.{number_ends}
use Rattle.number.proofs.Written.{shortest}
use Rattle.number.proofs.RoundTrip.{number_inverse}
use Rattle.genesis.specs.Genesis.{head_at, enough, rules, ended, genesis_of}
use Rattle.genesis.specs.declared.Genesis.{Genesis}
use Rattle.genesis.proofs.Faults.{no_fault}

module _ (s : List ℕ) (bytes : Bytes s) where
  short_number : (at : ℕ) (r : Found ℕ) → number_at s at ≡ gives r → r.value < 128 → r.next ≡ at + 1
  short_number at r e small = omega (arith, (number_inverse.only_written s at r bytes e).1, shortest r.value small)

  numbers_end : (times at : ℕ) (r : Found (List ℕ)) → repeated number_at times s at ≡ gives r → r.next ≤ at + 5 * times
  numbers_end zero at r e = subst (λ (q : Found (List ℕ)). q.next ≤ at + 0) (gives_same e) (omega arith)
  numbers_end (suc times) at r e =
      let (first, reads, rest) = then_gives (number_at s at) _ r e in
      let (others, more, whole) = then_gives (repeated number_at times s first.next) _ r rest in
      let one = (number_ends s at first reads).soon in
      let ends = numbers_end times first.next others more in
      subst (λ (q : Found (List ℕ)). q.next ≤ at + 5 * suc times) (gives_same whole) (omega arith)

  pub table_length : (g : Genesis) → genesis_of s ≡ gives g → length s ≤ 1315
  unfolding genesis_of
  table_length g e =
      let (head, headed, rest) = then_gives (head_at s) _ g (no_fault _ g e) in
      let (n, n-reads, after-n) = then_gives (number_at s 0) _ head headed in
      let (t, t-reads, after-t) = then_gives (number_at s n.next) _ head after-n in
      let (u, u-reads, same) = then_gives (number_at s t.next) _ head after-t in
      let (releases, read, last) = then_gives (repeated number_at 64 s head.next) _ g rest in
      let (fine, _) = unless_gives (both (rules head.value) (ended s (releases.next + 32 * head.value.n))) 1 0 _ g last in
      let (keeps, ends) = both_true (rules head.value) (ended s (releases.next + 32 * head.value.n)) fine in
      let h = head.value in
      let (many, u-fits) = both_true (enough h.n h.t) (within 1 64 h.u) keeps in
      let (n-fits, t-fits) = both_true (within 1 31 h.n) (leb (3 * h.t + 1) h.n) many in
      let n_is : n.value ≡ h.n = ap (λ q. q.value.n) (gives_same same) in
      let t_is : t.value ≡ h.t = ap (λ q. q.value.t) (gives_same same) in
      let u_is : u.value ≡ h.u = ap (λ q. q.value.u) (gives_same same) in
      let next_is : u.next ≡ head.next = ap (λ q. q.next) (gives_same same) in
      let few = (within_true 1 31 h.n n-fits).1 in
      let third = leb-true (3 * h.t + 1) h.n t-fits in
      let dropped = (within_true 1 64 h.u u-fits).1 in
      let n-next = short_number 0 n n-reads (omega arith) in
      let t-next = short_number n.next t t-reads (omega arith) in
      let u-next = short_number t.next u u-reads (omega arith) in
      omega (arith, numbers_end 64 head.next releases read, eqb-true (releases.next + 32 * h.n) (length s) ends)
