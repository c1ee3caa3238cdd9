-- A report as the code holds it.
-- Assumes nothing.
use Rattle.std.specs.Prelude.{replicate}
use Rattle.laws.specs.Told.{Told, given_or}
use Rattle.report.specs.Report.{Report}
use Rattle.report.specs.declared.Reported.{Reported}

abbrev pub report_held : Report → Reported
report_held r = record { held = record { 0 = r.held }; settled = record { 0 = r.settled }; length = r.length; releases = r.releases }

-- a host is given zeros beside a refusal
abbrev pub no_values : Report
no_values = record { held = 0; settled = 0; length = 0; releases = replicate 64 0 }

abbrev pub values_or : Told Report → Report
values_or t = given_or no_values t
