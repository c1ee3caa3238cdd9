-- Hexadecimal digits, in lower case.
-- Assumes nothing.
use Rattle.std.specs.Prelude.{ℕ, ◌+◌, ◌-◌, ◌*◌, ◌&&◌, cond, nat_le}

-- what a letter is worth: 0 to 9, a to f, and any other 0
abbrev pub digit_of : ℕ → ℕ
digit_of letter =
    cond (nat_le 48 letter && nat_le letter 57) (letter - 48) (cond (nat_le 97 letter && nat_le letter 102) (letter - 87) 0)

-- the byte that two letters stand for
abbrev pub byte_of : ℕ → ℕ → ℕ
byte_of high low = digit_of high * 16 + digit_of low
