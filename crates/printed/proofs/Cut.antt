-- An input of any length prints what its first 65,582 bytes print: a chain that goes on beyond them is too long already.
-- Assumes nothing.
use Prim.Native.Nat.{ℕ, zero, suc, ◌+◌, ◌<◌, ◌≤◌}
use mathlib.Core.Path.{◌≡◌, refl, sym, ap, ◌∙◌, subst}
use mathlib.Core.List.{List, [], ◌∷◌}
use native.Mathlib.Omega.{arith}
use lib.Dec.{leb}
use lib.ListN.{length, take, drop, length-drop}
use lib.Seq.{take_all, take-take, length-take-le, get_or-take}
use borrow.Author.Tests.{lt-ltb, lt-leb, le-leb, leb-true}
use Rattle.laws.specs.Told.{Told, gives, refuses, Found, found}
use Rattle.laws.proofs.Told.{gives_same, then_gives, unless_gives}
use Rattle.laws.proofs.Cases.{lt_cases}
use Rattle.laws.specs.Bytes.{part, bytes_at}
use Rattle.number.specs.Number.{read_groups, number_at}
use Rattle.number.proofs.Groups.{number_ends}
use Rattle.genesis.specs.Genesis.{genesis_of}
use Rattle.genesis.proofs.Faults.{no_fault}
use Rattle.chain.specs.Chain.{longest, opened}
use Rattle.chain.specs.declared.Opened.{Opened}
use Rattle.chain.proofs.Calls.{held_too_long}
use Rattle.printed.specs.Station.{genesis_at, stated, answered, text_of, station_text}
use Rattle.printed.proofs.Inputs.{no_genesis, no_clock, all_read}

-- a part of the first k bytes is a part of all of them
part_front : (s : List ℕ) (k at size : ℕ) → at + size ≤ k → part (take k s) at size ≡ part s at size
part_front s k zero size h = take-take size k s (omega arith)
part_front [] zero (suc at) size h = refl
part_front [] (suc k) (suc at) size h = refl
part_front (x ∷ s) zero (suc at) size h = absurd (omega arith)
part_front (x ∷ s) (suc k) (suc at) size h = part_front s k at size (omega arith)

-- where now begins
genesis_ends : (s : List ℕ) (g : Found (List ℕ)) → genesis_at s ≡ gives g → g.next ≤ 1320
genesis_ends s g e =
    let (size, reads, rest) = then_gives (number_at s 0) _ g (no_fault _ g e) in
    let (few, rest') = unless_gives (leb size.value 1315) 1 0 _ g rest in
    let (bytes, reads', rest'') = then_gives (bytes_at size.value s size.next) _ g rest' in
    let (table, reads'', is) = then_gives (genesis_of bytes.value) _ g rest'' in
    let (room, is') = unless_gives (leb (size.next + size.value) (length s)) 3 0 (found (part s size.next size.value) (size.next + size.value)) bytes reads' in
    subst (λ (q : Found (List ℕ)). q.next ≤ 1320) (gives_same is' ∙ gives_same is)
    (omega (arith, leb-true size.value 1315 few, (number_ends s 0 size reads).soon))

-- two chains that are too long are refused alike
too_long : (genesis : List ℕ) (clock : ℕ) (held held' : List ℕ) → longest < length held → longest < length held'
    → stated genesis clock held ≡ stated genesis clock held'
too_long genesis clock held held' h h' = by_opening (opened genesis clock) refl
  where
    by_opening : (t : Told Opened) → opened genesis clock ≡ t → stated genesis clock held ≡ stated genesis clock held'
    by_opening (refuses number place) e = rw e
    by_opening (gives o) e = rw (e, held_too_long o held (length held) h, held_too_long o held' (length held') h')

module _ (s : List ℕ) (k : ℕ) (long : k ≤ length s) (room : 65582 ≤ k) where
  groups_front : (j at : ℕ) → at + j ≤ k → read_groups j (take k s) at ≡ read_groups j s at
  unfolding read_groups
  groups_front zero at h = refl
  groups_front (suc j) at h =
      let inside : at < length s = omega arith in
      let cut : at < length (take k s) = omega (arith, length-take-le k s long) in
      rw (lt-ltb at (length s) inside, lt-ltb at (length (take k s)) cut, get_or-take k s at 0 (omega arith), groups_front j (at + 1) (omega arith))

  number_front : (at : ℕ) → at + 5 ≤ k → number_at (take k s) at ≡ number_at s at
  unfolding number_at
  number_front at h = rw (groups_front 5 at h)

  bytes_front : (size at : ℕ) → at + size ≤ k → bytes_at size (take k s) at ≡ bytes_at size s at
  bytes_front size at h =
      let inside : at + size ≤ length s = omega arith in
      let cut : at + size ≤ length (take k s) = omega (arith, length-take-le k s long) in
      rw (le-leb (at + size) (length s) inside, le-leb (at + size) (length (take k s)) cut, part_front s k at size h)

  genesis_front : genesis_at (take k s) ≡ genesis_at s
  genesis_front = by_number (number_at s 0) refl
    where
      by_number : (t : Told (Found ℕ)) → number_at s 0 ≡ t → genesis_at (take k s) ≡ genesis_at s
      by_number (refuses number place) e = rw (number_front 0 (omega arith), e)
      by_number (gives r) e =
          lt_cases 1315 r.value (λ over. rw (number_front 0 (omega arith), e, lt-leb r.value 1315 over))
          (λ few.
          let inside : r.next + r.value ≤ k = omega (arith, (number_ends s 0 r e).soon) in
          rw (number_front 0 (omega arith), e, le-leb r.value 1315 few, bytes_front r.value r.next inside))

  answered_front : answered (take k s) ≡ answered s
  answered_front = by_genesis (genesis_at s) refl
    where
      by_clock : (g : Found (List ℕ)) → genesis_at s ≡ gives g → (t : Told (Found ℕ)) → number_at s g.next ≡ t → answered (take k s) ≡ answered s
      by_clock g begins (refuses number place) e =
          let early = genesis_ends s g begins in
          no_clock (take k s) g.value g.next (genesis_front ∙ begins) number place (number_front g.next (omega arith) ∙ e)
          ∙ sym (no_clock s g.value g.next begins number place e)
      by_clock g begins (gives c) e =
          let early = genesis_ends s g begins in
          let soon = (number_ends s g.next c e).soon in
          let more : longest < length (drop c.next s) = rw length-drop (omega arith) in
          let cut : longest < length (drop c.next (take k s)) = rw (length-drop, length-take-le k s long) (omega arith) in
          all_read (take k s) g.value g.next (genesis_front ∙ begins) c.value c.next (number_front g.next (omega arith) ∙ e)
          ∙ too_long g.value c.value (drop c.next (take k s)) (drop c.next s) cut more
          ∙ sym (all_read s g.value g.next begins c.value c.next e)

      by_genesis : (t : Told (Found (List ℕ))) → genesis_at s ≡ t → answered (take k s) ≡ answered s
      by_genesis (refuses number place) e = no_genesis (take k s) number place (genesis_front ∙ e) ∙ sym (no_genesis s number place e)
      by_genesis (gives g) e = by_clock g e (number_at s g.next) refl

pub cut_input : (input : List ℕ) → station_text (take 65582 input) ≡ station_text input
cut_input input =
    lt_cases (length input) 65582 (λ short. ap station_text (take_all 65582 input (omega arith)))
    (λ long. ap text_of (answered_front input 65582 long (omega arith)))
