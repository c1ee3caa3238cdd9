-- Orders and a block's body as the code holds them, and orders as they are listed.
-- Assumes nothing.
use Rattle.std.specs.Prelude.{ℕ, List, length, take}
use Rattle.laws.specs.Tabulate.{tailed}
use Rattle.order.specs.declared.Order.{Order}
use Rattle.block.specs.declared.Orders.{Orders}
use Rattle.block.specs.declared.Body.{Body}

abbrev pub no_order : Order
no_order = record { display = 0; expected = 0; new = 0 }

-- orders in a list of eight, with zeros behind them, and back
abbrev pub listed : List Order → Orders
listed l = record { count = length l; list = tailed 8 no_order l }

abbrev pub unlisted : Orders → List Order
unlisted o = take o.count o.list

abbrev pub body_of : List Order × ℕ → Body
body_of b = record { orders = listed b.0; slot = record { 0 = b.1 } }
