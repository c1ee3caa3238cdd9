-- What a reader may take from this crate: a report counts the blocks of an accepted chain, and those of them that are settled.
-- Assumes nothing.
use Prim.Native.Nat.{ℕ, ◌≤◌}
use mathlib.Core.Path.{◌≡◌, sym, ap, ◌∙◌}
use mathlib.Core.List.{List}
use native.Mathlib.Omega.{arith}
use Rattle.laws.specs.Told.{gives}
use Rattle.laws.specs.Format.{Bytes}
use Rattle.laws.proofs.Told.{gives_same, then_gives}
use Rattle.chain.specs.Chain.{opened, held, held_chain, holding}
use Rattle.chain.proofs.Theorems.{a_held_chain_is_accepted_blocks, accepted_blocks_may_be_held, the_count_is_the_number_of_blocks, no_more_is_settled_than_there_is}
use Rattle.report.specs.Report.{Report, report_of, reported}
use Rattle.report.specs.Blocks.{Reports}
use Rattle.report.proofs.Counts.{settled_count, settled_length}

module _ (genesis : List ℕ) (clock : ℕ) (buffer : List ℕ) (size : ℕ) (r : Report) where
  pub a_report_is_on_accepted_blocks : Bytes buffer → reported genesis clock buffer size ≡ gives r → Reports genesis clock buffer size r
  a_report_is_on_accepted_blocks bytes e =
      let (h, holds, tells) = then_gives (holding genesis clock buffer size) _ r e in
      let (o, opens, rest) = then_gives (opened genesis clock) _ h holds in
      let (s, good, is) = then_gives (held_chain o buffer size) _ h rest in
      let (inside, (blocks, are, a)) = a_held_chain_is_accepted_blocks o s buffer size bytes good in
      let same : report_of s ≡ r = ap (λ x. report_of x.1) (gives_same is) ∙ gives_same tells in
      record {
        o = o;
        opens = opens;
        inside = inside;
        blocks = blocks;
        are = are;
        s = s;
        accepted = a;
        counts_held = sym (ap (λ x. x.held) same) ∙ the_count_is_the_number_of_blocks o held blocks s a;
        counts_settled = sym (ap (λ x. x.settled) same) ∙ settled_count o blocks s a;
        takes = sym (ap (λ x. x.length) same) ∙ settled_length o blocks s a;
        leaves = sym (ap (λ x. x.releases) same);
      }

  pub accepted_blocks_are_reported : Reports genesis clock buffer size r → reported genesis clock buffer size ≡ gives r
  accepted_blocks_are_reported c =
      let good = accepted_blocks_may_be_held c.o c.s buffer size c.blocks c.inside c.are c.accepted in
      let held_is = the_count_is_the_number_of_blocks c.o held c.blocks c.s c.accepted ∙ sym c.counts_held in
      let settled_is = settled_count c.o c.blocks c.s c.accepted ∙ sym c.counts_settled in
      let length-is = settled_length c.o c.blocks c.s c.accepted ∙ sym c.takes in
      let releases-are = sym c.leaves in
      rw (c.opens, good)
      λ i. gives (record { held = held_is i; settled = settled_is i; length = length-is i; releases = releases-are i })

  pub no_more_is_settled_than_held : Bytes buffer → reported genesis clock buffer size ≡ gives r → r.settled ≤ r.held
  no_more_is_settled_than_held bytes e =
      let c = a_report_is_on_accepted_blocks bytes e in
      let less = (no_more_is_settled_than_there_is c.o held c.blocks c.s c.accepted).0 in
      omega (
        arith,
        c.counts_held,
        c.counts_settled,
        settled_count c.o c.blocks c.s c.accepted,
        the_count_is_the_number_of_blocks c.o held c.blocks c.s c.accepted,
      )
