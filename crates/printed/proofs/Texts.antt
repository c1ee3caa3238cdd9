-- The lines of the text: how they go on from display to display, and how long they get.
-- Assumes nothing.
use Prim.Native.Nat.{ℕ, zero, suc, ◌+◌, ◌*◌, ◌-◌, ◌<◌, ◌≤◌, zero-le}
use mathlib.Core.Path.{◌≡◌, refl, ap, ◌∙◌}
use mathlib.Core.List.{List, [], ◌∷◌, ◌++◌}
use native.Mathlib.Omega.{arith}
use native.Mathlib.Numerals.{add-one}
use lib.ListN.{length, take, drop, get_or, replicate, length-append, length-replicate}
use lib.Seq.{sets-eq, take_at}
use borrow.Author.Tests.{eq-eqb, ne_eqb}
use Rattle.laws.proofs.Cases.{eq_cases}
use Rattle.laws.specs.Told.{Told, gives, refuses}
use Rattle.laws.specs.Placed.{Room, Wrote}
use Rattle.laws.proofs.Placed.{wrote_length, wrote_then}
use Rattle.report.specs.Report.{Report}
use Rattle.printed.specs.Decimal.{decimal}
use Rattle.printed.specs.Station.{word, two_numbers, first_line, line_of, display_lines, text_of}
use Rattle.printed.proofs.Decimals.{at_most_twenty}

module _ (display release : ℕ) where
  pub no_line : release ≡ 0 → line_of display release ≡ []
  no_line e = simp (eq-eqb _ _ e)

  pub a_line : (release ≡ 0 → ⊥) → line_of display release ≡ two_numbers display release
  a_line e = simp (ne_eqb _ _ e)

module _ (releases : List ℕ) where
  pub lines_none : display_lines releases 0 ≡ []
  unfolding display_lines
  lines_none = refl

  pub lines_more : (display : ℕ) → display_lines releases (display + 1) ≡ display_lines releases display ++ line_of display (get_or releases display 0)
  unfolding display_lines
  lines_more display = rw add-one

  lines_size : (display : ℕ)
      → length (display_lines releases (display + 1)) ≡ length (display_lines releases display) + length (line_of display (get_or releases display 0))
  lines_size display = ap length (lines_more display) ∙ length-append (display_lines releases display) (line_of display (get_or releases display 0))

  -- fewer displays have no more lines
  lines_less : (few more : ℕ) → length (display_lines releases few) ≤ length (display_lines releases (few + more))
  lines_less few zero = let same : few + 0 ≡ few = omega arith in rw same (omega arith)
  lines_less few (suc more) =
      let next : few + suc more ≡ few + more + 1 = omega arith in
      rw next (omega (arith, lines_less few more, lines_size (few + more)))

  -- room for all lines is room for the next one
  pub room_line : {out : List ℕ} {at place : ℕ} {later : List ℕ} (all display : ℕ) → display < all → Room out at (display_lines releases all)
      → Wrote out at (display_lines releases display) place later → Room later place (line_of display (get_or releases display 0))
  room_line all display h room wrote =
      let whole : display + 1 + (all - (display + 1)) ≡ all = omega arith in
      let less = rw whole at (lines_less (display + 1) (all - (display + 1))) in
      record { enough = omega (arith, room.enough, wrote.place, less, lines_size display, wrote_length wrote) }

  pub wrote_line : {out : List ℕ} {at place next : ℕ} {between later : List ℕ} (display : ℕ) → Wrote out at (display_lines releases display) place between
      → Wrote between place (line_of display (get_or releases display 0)) next later → Wrote out at (display_lines releases (display + 1)) next later
  wrote_line display before after =
      rw (lines_more display) (wrote_then (display_lines releases display) (line_of display (get_or releases display 0)) before after)

-- how long a text gets
word_most : (value behind : ℕ) → length (word value behind) ≤ 21
word_most value behind = omega (arith, at_most_twenty value, length-append (decimal value) (behind ∷ []))

two_most : (first second : ℕ) → length (two_numbers first second) ≤ 42
two_most first second = omega (arith, word_most first 32, word_most second 10, length-append (word first 32) (word second 10))

line_most : (display release : ℕ) → length (line_of display release) ≤ 42
line_most display release =
    eq_cases release 0 (λ none. rw (no_line display release none) zero-le)
    (λ some. rw (a_line display release some) (two_most display release))

lines_most : (releases : List ℕ) (display : ℕ) → length (display_lines releases display) ≤ 42 * display
lines_most releases zero = rw (lines_none releases) zero-le
lines_most releases (suc display) =
    let next : suc display ≡ display + 1 = omega arith in
    rw next (omega (arith, lines_most releases display, lines_size releases display, line_most display (get_or releases display 0)))

pub text_most : (t : Told (ℕ × Report)) → length (text_of t) ≤ 2751
text_most (gives (clock, r)) =
    omega (
      arith,
      word_most clock 32,
      word_most r.held 32,
      word_most r.settled 10,
      length-append (word clock 32) (word r.held 32 ++ word r.settled 10),
      length-append (word r.held 32) (word r.settled 10),
      lines_most r.releases 64,
      length-append (first_line clock r.held r.settled) (display_lines r.releases 64),
    )
text_most (refuses number place) = omega (arith, two_most number place)

pub text_room : (t : Told (ℕ × Report)) → Room (replicate 2751 0) 0 (text_of t)
text_room t = record { enough = omega (arith, text_most t, length-replicate {A = ℕ} 2751 0) }

-- what was written at the front of a buffer is its first bytes
pub front_written : {out : List ℕ} {bytes : List ℕ} {next : ℕ} {later : List ℕ} → Room out 0 bytes → Wrote out 0 bytes next later
    → take next later ≡ bytes
front_written {out} {bytes} room wrote =
    rw (wrote.place, wrote.buffer, sets-eq bytes out 0 room.enough) (take_at bytes (drop (0 + length bytes) out) (0 + length bytes) (omega arith))
