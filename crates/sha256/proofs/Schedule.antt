-- The message schedule word by word, and its window of sixteen words.
-- Assumes nothing.
use Rattle.std.proofs.Common.{◌≡◌, ℕ, zero, suc, ◌+◌, ◌-◌, ◌<◌, ◌≤◌, ltb, List, [], ◌∷◌, ◌++◌, length, get_or, sym, refl, ap, ◌∙◌, arith, length-append, ext_get_or, le-ltb, lt-ltb}
use lib.ListN.{get_or-append}
use lib.Seq.{get_or-append_seam}
use Rattle.laws.specs.Pick.{pick}
use Rattle.laws.proofs.Cases.{lt_cases}
use Rattle.sha256.specs.Sha256.{mixed, schedule}
use Rattle.sha256.specs.Steps.{scheduled, words_from, mixed_of, moved_on}

-- the place n after t
abbrev later : ℕ → ℕ → ℕ
later zero t = t
later (suc n) t = suc (later n t)

module _ (block : List ℕ) where
  long : (n : ℕ) → length (schedule block n) ≡ n
  unfolding schedule
  long zero = refl
  long (suc n) = simp length-append (omega (arith, long n))

  newest : (t : ℕ) → scheduled block t ≡ pick (ltb t 16) (get_or block t 0) (mixed (schedule block t) t)
  unfolding schedule scheduled
  newest t =
      let word = pick (ltb t 16) (get_or block t 0) (mixed (schedule block t) t) in
      ap (λ i. get_or (schedule block t ++ (word ∷ [])) i 0) (sym (long t)) ∙ get_or-append_seam (schedule block t) word [] 0

  -- a word stays where it is
  pub kept : (t n : ℕ) → t < n → get_or (schedule block n) t 0 ≡ scheduled block t
  unfolding schedule scheduled
  kept t zero h = absurd (omega arith)
  kept t (suc n) h =
      let word = pick (ltb n 16) (get_or block n 0) (mixed (schedule block n) n) in
      lt_cases t n
      (λ below. get_or-append (schedule block n) (word ∷ []) 0 t (omega (arith, long n)) ∙ kept t n below)
      (λ above.
      let same : n ≡ t = omega arith in
      rw same)

  as_given : (t : ℕ) → t < 16 → scheduled block t ≡ get_or block t 0
  as_given t early = newest t ∙ simp (lt-ltb _ _ early)

  -- a word behind the block's own, from those 16, 15, 7 and 2 places before it
  made : (t b16 b15 b7 b2 : ℕ) → b16 + 16 ≡ t → b15 + 15 ≡ t → b7 + 7 ≡ t → b2 + 2 ≡ t
      → scheduled block t ≡ mixed_of (scheduled block b16) (scheduled block b15) (scheduled block b7) (scheduled block b2)
  made t b16 b15 b7 b2 is-16 is-15 is-7 is-2 =
      let late : 16 ≤ t = omega arith in
      let at_16 : t - 16 ≡ b16 = omega arith in
      let at_15 : t - 15 ≡ b15 = omega arith in
      let at_7 : t - 7 ≡ b7 = omega arith in
      let at_2 : t - 2 ≡ b2 = omega arith in
      newest t ∙ simp (le-ltb _ _ late)
      (rw (
        at_16,
        at_15,
        at_7,
        at_2,
        kept b16 t (omega arith),
        kept b15 t (omega arith),
        kept b7 t (omega arith),
        kept b2 t (omega arith),
      ))

  pub moves : (t : ℕ) → moved_on (words_from block t 16) ≡ words_from block (suc (suc t)) 16
  unfolding words_from
  moves t =
      rw (
        made (later 16 t) t (later 1 t) (later 9 t) (later 14 t) (omega arith) (omega arith) (omega arith) (omega arith),
        made (later 17 t) (later 1 t) (later 2 t) (later 10 t) (later 15 t) (omega arith) (omega arith) (omega arith) (omega arith),
      )

  length_words : (t n : ℕ) → length (words_from block t n) ≡ n
  unfolding words_from
  length_words t zero = refl
  length_words t (suc n) = ap suc (length_words (suc t) n)

  word_at : (t n i : ℕ) → i < n → get_or (words_from block t n) i 0 ≡ scheduled block (t + i)
  unfolding words_from
  word_at t zero i h = absurd (omega arith)
  word_at t (suc n) zero h = ap (scheduled block) (omega arith)
  word_at t (suc n) (suc i) h = word_at (suc t) n i (omega arith) ∙ ap (scheduled block) (omega arith)

  -- the first window is the block
  pub starts : length block ≡ 16 → block ≡ words_from block 0 16
  starts whole =
      ext_get_or 0 block (words_from block 0 16) (whole ∙ sym (length_words 0 16))
      (λ i inside.
      let early : i < 16 = omega arith in
      let place : 0 + i ≡ i = omega arith in
      sym (word_at 0 16 i early ∙ ap (scheduled block) place ∙ as_given i early))
