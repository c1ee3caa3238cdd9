-- `sha256::padding::edge_word` meets its contract.
-- Assumes nothing.
use Rattle.std.proofs.Common.{arith}
use Rattle.sha256.proofs.Padded.{edge_bytes}
use Rattle.sha256.proofs.padding.edge_word.Goals as goal

pub returns-in-empty : goal.returns-in-empty
returns-in-empty c = let bytes = edge_bytes c.args.s.now c.requires in omega arith

pub returns-in-len1 : goal.returns-in-len1
returns-in-len1 c = let bytes = edge_bytes c.args.s.now c.requires in omega arith

pub returns-in-len2 : goal.returns-in-len2
returns-in-len2 c = let bytes = edge_bytes c.args.s.now c.requires in omega arith

pub returns-in-len3-up : goal.returns-in-len3-up
returns-in-len3-up c = let bytes = edge_bytes c.args.s.now c.requires in omega arith
