-- When what is told of an answer loses nothing.
-- Assumes nothing.
use mathlib.Core.Path.{◌≡◌, sym, ap, ◌∙◌}
use Rattle.laws.specs.Answers.{Faithful}

-- a definition that can be undone loses nothing
pub undone : {A B : Type 0} (told : A → B) (back : B → A) → ((a : A) → back (told a) ≡ a) → Faithful told
undone told back is a b e = sym (is a) ∙ ap back e ∙ is b
