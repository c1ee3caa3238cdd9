-- A choice by a test: `pick test then else`.
-- Assumes nothing.
use Rattle.std.specs.Prelude.{Bool, cond}

abbrev pub pick : {A : Type 0} → Bool → A → A → A
pick test a b = cond test a b
