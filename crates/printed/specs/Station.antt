-- 01, "Worked by hand": "The report program reads from standard input the genesis length as a number, the genesis, now as a number, and the held
-- chain to the end."
-- Assumes nothing.
use Rattle.std.specs.Prelude.{ℕ, zero, suc, List, [], ◌∷◌, ◌++◌, leb, eqb, length, drop, get_or}
use Rattle.laws.specs.Pick.{pick}
use Rattle.laws.specs.Told.{Told, gives, refuses, Found, then, unless}
use Rattle.laws.specs.Bytes.{bytes_at}
use Rattle.number.specs.Number.{number_at}
use Rattle.genesis.specs.Genesis.{faulty, genesis_of}
use Rattle.report.specs.Report.{Report, reported}
use Rattle.printed.specs.Decimal.{decimal}

-- a good genesis and the place of now, or the first fault
abbrev pub genesis_read : List ℕ → Told (Found (List ℕ))
genesis_read input =
    then (number_at input 0) λ size. unless (leb size.value 1315) 1 0
    (then (bytes_at size.value input size.next) λ genesis. then (genesis_of genesis.value) λ _. gives genesis)

-- "A genesis length that is cut, badly written or above 1,315, or input too short for its genesis, prints `refused 1 0`"
abbrev pub genesis_at : List ℕ → Told (Found (List ℕ))
genesis_at input = faulty (genesis_read input)

-- "a now that is cut or badly written, `refused 2 0`"
abbrev pub clocked : {A : Type 0} → Told A → Told A
clocked (gives a) = gives a
clocked (refuses number place) = refuses 2 0

-- now, and the report on what is held then
abbrev pub stated : (genesis : List ℕ) (clock : ℕ) (held : List ℕ) → Told (ℕ × Report)
stated genesis clock held = then (reported genesis clock held (length held)) λ r. gives (clock, r)

-- the input, read: 1, 2, 17
unfoldable pub answered : List ℕ → Told (ℕ × Report)
answered input =
    then (genesis_at input) λ genesis. then (clocked (number_at input genesis.next)) λ clock.
    stated genesis.value clock.value (drop clock.next input)

-- a number and what stands behind it: a space (32) or a newline (10)
abbrev pub word : ℕ → ℕ → List ℕ
word value behind = decimal value ++ (behind ∷ [])

abbrev pub two_numbers : ℕ → ℕ → List ℕ
two_numbers first second = word first 32 ++ word second 10

-- "First line: now, held blocks, settled blocks."
abbrev pub first_line : ℕ → ℕ → ℕ → List ℕ
first_line clock held settled = word clock 32 ++ (word held 32 ++ word settled 10)

-- "one line for each display whose settled release is not 0 .. : display, release"
abbrev pub line_of : (display release : ℕ) → List ℕ
line_of display release = pick (eqb release 0) [] (two_numbers display release)

-- those of the first displays, "in rising order"
unfoldable pub display_lines : List ℕ → ℕ → List ℕ
display_lines releases zero = []
display_lines releases (suc display) = display_lines releases display ++ line_of display (get_or releases display 0)

-- "A refusal prints only `refused`, its number and its place."
abbrev pub refused_text : ℕ → ℕ → List ℕ
refused_text number place = (114 ∷ 101 ∷ 102 ∷ 117 ∷ 115 ∷ 101 ∷ 100 ∷ 32 ∷ []) ++ two_numbers number place

abbrev pub report_text : ℕ → Report → List ℕ
report_text clock r = first_line clock r.held r.settled ++ display_lines r.releases 64

abbrev pub text_of : Told (ℕ × Report) → List ℕ
text_of (gives a) = report_text a.0 a.1
text_of (refuses number place) = refused_text number place

-- what the program prints
abbrev pub station_text : List ℕ → List ℕ
station_text input = text_of (answered input)
