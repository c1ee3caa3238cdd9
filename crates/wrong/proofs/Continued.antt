-- What the calls on chains go on with once the genesis is open: by these its digest need not be computed again.
-- Assumes nothing.
use Prim.Native.Nat.{ℕ}
use mathlib.Core.List.{List, []}
use Rattle.laws.specs.Told.{Told, gives, then}
use Rattle.block.specs.declared.Front.{Front}
use Rattle.chain.specs.Chain.{delivered_chain, held_chain, with, ending}
use Rattle.chain.specs.declared.Opened.{Opened}
use Rattle.chain.specs.declared.Summary.{Summary}
use Rattle.adopt.specs.Adopt.{longer}
use Rattle.issue.specs.Issue.{fronting}
use Rattle.report.specs.Report.{Report, report_of}
use Rattle.wrong.specs.Named.{signature, no_pool}

abbrev pub check_from : List ℕ → List ℕ → Told Opened → Told (ℕ × List ℕ)
check_from chain verdicts t = then t λ o. ending (delivered_chain o chain verdicts)

abbrev pub holding_from : List ℕ → ℕ → Told Opened → Told (Opened × Summary)
holding_from held size t = then t λ o. with o (held_chain o held size)

abbrev pub accepted_from : List ℕ → ℕ → List ℕ → List ℕ → Told Opened → Told ℕ
accepted_from held size chain verdicts t =
    then (holding_from held size t) λ h. longer h.1.whole.count.0 (delivered_chain h.0 chain verdicts)

-- behind the chain of no blocks
abbrev pub front_from : ℕ → Told Opened → Told Front
front_from controller t = then (holding_from [] 0 t) λ h. fronting h.0 h.1 no_pool controller signature

abbrev pub reported_from : List ℕ → ℕ → Told Opened → Told Report
reported_from held size t = then (holding_from held size t) λ h. gives (report_of h.1)
