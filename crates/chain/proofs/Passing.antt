-- A pass over a chain goes block by block: what one step of it does, whatever the chain.
-- Assumes nothing.
use Prim.Native.Nat.{ℕ, ◌+◌, ◌-◌, ◌<◌, ◌≤◌, zero-le}
use mathlib.Core.Path.{◌≡◌, refl, sym, ap, ◌∙◌, subst}
use mathlib.Core.Bool.{true, false}
use mathlib.Core.List.{List}
use native.Mathlib.Omega.{arith}
use lib.Dec.{ltb}
use lib.ListN.{length}
use borrow.Author.Tests.{le-leb, lt-leb, leb-false, ltb-true}
use Rattle.laws.specs.Pick.{pick}
use Rattle.laws.specs.Told.{Told, gives, refuses, then}
use Rattle.laws.specs.Every.{same}
use Rattle.laws.proofs.Told.{gives_same, gives_not_refuses, then_gives, unless_gives}
use Rattle.laws.proofs.Run.{run_over, run_next, run_refused}
use Rattle.block.specs.Block.{block_at}
use Rattle.block.proofs.Bodies.{stands}
use Rattle.order.specs.Order.{obeyed}
use Rattle.chain.specs.Chain.{Way, admitted, judged, at_block, settles, stepped, none, ended, passed, begun}
use Rattle.chain.specs.declared.Opened.{Opened}
use Rattle.chain.specs.declared.Standing.{Standing}
use Rattle.chain.specs.declared.Summary.{Summary}

-- what a good block adds
pub record Further (chain : List ℕ) (before after : Standing) : Type 0 where
  pub longer : before.length + 162 ≤ after.length
  pub inside : after.length ≤ length chain
  pub one_more : after.count.0 ≡ before.count.0 + 1
  pub later : before.stamp.0 < after.stamp.0

pub judged_further : (way : Way) (clock : ℕ) (chain : List ℕ) (before after : Standing) → judged way clock chain before ≡ gives after → Further chain before after
unfolding judged
judged_further way clock chain before after e =
    let (b, reads, rest) = then_gives (block_at chain before.length) _ after e in
    let (above, rest') = unless_gives (ltb before.stamp.0 b.value.slot) 6 0 _ after rest in
    let (_, admits, rest'') = then_gives (admitted way clock before.count.0 b.value.slot) _ after rest' in
    let (linked, rest''') = unless_gives (same b.value.link before.link) 9 0 _ after rest'' in
    let (releases, obeys, is) = then_gives (obeyed before.releases b.value.orders) _ after rest''' in
    let at = stands chain before.length b reads in
    subst (Further chain before) (gives_same is)
    (record { longer = at.long; inside = at.ends; one_more = refl; later = ltb-true _ _ above })

module _ (o : Opened) (way : Way) (chain : List ℕ) where
  abbrev left : Summary → ℕ
  left s = length chain - s.whole.length

  none_left : (s : Summary) → left s ≡ 0 → ended chain s ≡ true
  none_left s e = le-leb (length chain) s.whole.length (omega arith)

  stepped_judged : (s next : Summary) → stepped o way chain s ≡ gives next → judged way o.clock.0 chain s.whole ≡ gives next.whole
  stepped_judged s next e = go (judged way o.clock.0 chain s.whole) refl e
    where
      go : (t : Told Standing) → judged way o.clock.0 chain s.whole ≡ t
          → then (at_block (s.whole.count.0 + 1) t) (λ whole.
          gives (record { whole = whole; settled = pick (settles o whole.stamp.0) whole s.settled })) ≡ gives next
          → judged way o.clock.0 chain s.whole ≡ gives next.whole
      go (gives whole) f g = f ∙ ap (λ (q : Summary). gives q.whole) (gives_same g)
      go (refuses number place) f g = gives_not_refuses g

  falls : (s next : Summary) → ended chain s ≡ false → stepped o way chain s ≡ gives next → left next < left s
  falls s next more e =
      let f = judged_further way o.clock.0 chain s.whole next.whole (stepped_judged s next e) in
      omega (arith, f.longer, f.inside, leb-false (length chain) s.whole.length more)

  module _ (s : Summary) where
    pub pass_over : length chain ≤ s.whole.length → passed o way chain s ≡ gives s
    pass_over over = run_over (ended chain) (stepped o way chain) (length chain) s (le-leb _ _ over)

    module _ (more : s.whole.length < length chain) where
      pub pass_next : (after : Standing) → judged way o.clock.0 chain s.whole ≡ gives after
          → passed o way chain s ≡ passed o way chain (record { whole = after; settled = pick (settles o after.stamp.0) after s.settled })
      pass_next after e =
          run_next (ended chain) (stepped o way chain) left none_left falls (length chain) s (lt-leb _ _ more) (omega arith) _ (rw e)

      pub pass_refused : (number place : ℕ) → judged way o.clock.0 chain s.whole ≡ refuses number place
          → passed o way chain s ≡ refuses number (s.whole.count.0 + 1)
      pass_refused number place e =
          run_refused (ended chain) (stepped o way chain) left none_left falls (length chain) s (lt-leb _ _ more) (omega arith) _ _ (rw e)

-- what the loop keeps
pub record Kept (o : Opened) (way : Way) (chain : List ℕ) (whole settled : Standing) : Type 0 where
  pub counts : whole.count.0 ≤ whole.length
  pub inside : whole.length ≤ length chain
  pub same : passed o way chain (begun o) ≡ passed o way chain (record { whole = whole; settled = settled })

module _ (o : Opened) (way : Way) (chain : List ℕ) where
  pub kept_none : (whole : Standing) → whole ≡ none o → Kept o way chain whole whole
  kept_none whole e =
      subst (λ (w : Standing). Kept o way chain w w) (sym e) (record { counts = omega arith; inside = zero-le; same = refl })

  module _ (whole settled : Standing) (kept : Kept o way chain whole settled) where
    pub kept_over : length chain ≤ whole.length → gives (record { whole = whole; settled = settled }) ≡ passed o way chain (begun o)
    kept_over over = sym (kept.same ∙ pass_over o way chain _ over)

    module _ (more : whole.length < length chain) where
      pub kept_refused : (number place : ℕ) → judged way o.clock.0 chain whole ≡ refuses number place
          → refuses number (whole.count.0 + 1) ≡ passed o way chain (begun o)
      kept_refused number place e = sym (kept.same ∙ pass_refused o way chain _ more number place e)

      module _ (after : Standing) (good : judged way o.clock.0 chain whole ≡ gives after) where
        further : Further chain whole after
        further = judged_further way o.clock.0 chain whole after good

        pub kept_less : length chain - after.length < length chain - whole.length
        kept_less = omega (arith, further.longer, further.inside)

        pub kept_next : (settled' : Standing) → pick (settles o after.stamp.0) after settled ≡ settled' → Kept o way chain after settled'
        kept_next settled' e = record {
          counts = omega (arith, further.longer, further.one_more, kept.counts);
          inside = further.inside;
          same = kept.same ∙ pass_next o way chain _ more after good
              ∙ ap (λ (s : Standing). passed o way chain (record { whole = after; settled = s })) e;
        }
