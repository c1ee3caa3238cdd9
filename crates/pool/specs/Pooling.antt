-- 01, "Pool an order", as it was before 02, i split it: one call that drops what no longer counts and adds an order. No code has it any more; it
-- stands here for the theorem that the two calls answer as it did.
-- Assumes nothing.
use Rattle.std.specs.Prelude.{ℕ, List}
use Rattle.laws.specs.Told.{Told, then, unless}
use Rattle.order.specs.declared.Order.{Order}
use Rattle.chain.specs.Chain.{holding}
use Rattle.pool.specs.Pool.{counting, pool_fits, joined}
use Rattle.pool.specs.declared.Pool.{Pool}

-- 1, 2, 17, 18, 5, 14, 20, 13
abbrev pub offered : (genesis : List ℕ) (clock : ℕ) (held : List ℕ) (size : ℕ) → Pool → Order → (depot : ℕ) → Told Pool
offered genesis clock held size pool order depot =
    then (holding genesis clock held size) λ h.
    unless (pool_fits h.0 h.1 pool) 18 0
    (joined h.0 h.1 (counting h.1 pool) (counting h.1 pool) order depot)
