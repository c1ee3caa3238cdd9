-- 01, "Report": "The answer is the held and settled block counts, the settled bytes' length, and the releases after the settled blocks."
-- Assumes nothing.
use Rattle.std.specs.Prelude.{ℕ, List}
use Rattle.laws.specs.Told.{Told, gives, then}
use Rattle.chain.specs.Chain.{holding}
use Rattle.chain.specs.declared.Summary.{Summary}

pub record Report : Type 0 where
  pub held : ℕ
  pub settled : ℕ
  pub length : ℕ
  pub releases : List ℕ

-- which blocks are settled is said where the summary is: `settles` of the chain's definitions
abbrev pub report_of : Summary → Report
report_of s = record {
  held = s.whole.count.0;
  settled = s.settled.count.0;
  length = s.settled.length;
  releases = s.settled.releases;
}

-- 1, 2, 17
abbrev pub reported : (genesis : List ℕ) (clock : ℕ) (held : List ℕ) (size : ℕ) → Told Report
reported genesis clock held size = then (holding genesis clock held size) λ h. gives (report_of h.1)
