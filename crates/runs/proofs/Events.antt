-- A correct controller in one slot: what it meets leaves it with a valid chain of the run, and no shorter one.
-- Assumes nothing.
use Prim.Native.Nat.{ℕ, ◌+◌, ◌≤◌}
use mathlib.Core.Path.{◌≡◌, refl, sym, ap, ◌∙◌, subst}
use mathlib.Core.Bool.{true}
use mathlib.Core.List.{List, [], ◌∷◌, ◌++◌, append_assoc, append-nil}
use native.Mathlib.Omega.{arith}
use native.Mathlib.Nat.{zero-add}
use lib.Dec.{ltb, eqb}
use lib.ListN.{length, get_or, length-append}
use borrow.Author.Tests.{lt-ltb, eq-eqb, eqb-true}
use Rattle.std.specs.List.{fold}
use Rattle.laws.specs.Told.{gives, unless}
use Rattle.laws.specs.Format.{Each}
use Rattle.laws.proofs.Told.{unless_gives}
use Rattle.laws.proofs.Each.{each_parts}
use Rattle.laws.proofs.Fold.{folded_append}
use Rattle.laws.proofs.Taken.{joined_append}
use Rattle.block.specs.Block.{Parts, block_bytes, Fits}
use Rattle.chain.specs.Chain.{delivered}
use Rattle.chain.specs.Blocks.{chain_bytes, Admits, Accepted, Below}
use Rattle.chain.specs.declared.Summary.{Summary}
use Rattle.chain.proofs.Accepted.{admits_front}
use Rattle.chain.proofs.Theorems.{blocks_that_follow_and_are_admitted_are_accepted, the_bytes_tell_the_blocks}
use Rattle.runs.specs.Runs.{adopts, AdoptedOrEqualled, Node, Event, delivery, pooling, after_event, Run, correct, Among, in_delivery, InRun, OfRun, Premises}
use Rattle.runs.proofs.Among.{each_among}
use Rattle.runs.proofs.Nodes.{opening, Keeps, From, stayed, replaced, Met, met_delivery, good_answer}
use Rattle.runs.proofs.Pools.{Pooled, pooled_then}
use Rattle.runs.proofs.Valid.{Valid}

-- a chain up to one of its blocks
module _ (blocks before after : List Parts) (p : Parts) (e : blocks ≡ before ++ p ∷ after) where
  grouped : blocks ≡ (before ++ (p ∷ [])) ++ after
  grouped = e ∙ sym (append_assoc before (p ∷ []) after)

  bytes_up_to : chain_bytes blocks ≡ chain_bytes (before ++ (p ∷ [])) ++ chain_bytes after
  bytes_up_to = ap chain_bytes grouped ∙ joined_append block_bytes (before ++ (p ∷ [])) after

  fits_up_to : Each Fits blocks → Each Fits (before ++ (p ∷ []))
  fits_up_to fit = (each_parts Fits (before ++ (p ∷ [])) after (subst (Each Fits) grouped fit)).0

  -- an admitted block has verdict 3
  verdict_3 : (verdicts : List ℕ) (clock : ℕ) → Admits (delivered verdicts) clock 0 blocks → get_or verdicts (length before) 0 ≡ 3
  verdict_3 verdicts clock admits =
      let (_, (here, _)) = admits_front (delivered verdicts) clock 0 before (p ∷ after) (subst (Admits (delivered verdicts) clock 0) e admits) in
      let (_, rest) = unless_gives (ltb p.slot clock) 7 0 (unless (eqb (get_or verdicts (0 + length before) 0) 3) 8 0 (gives tt)) tt here in
      let (three, _) = unless_gives (eqb (get_or verdicts (0 + length before) 0) 3) 8 0 (gives tt) tt rest in
      ap (λ (n : ℕ). get_or verdicts n 0) (sym (zero-add (length before))) ∙ eqb-true (get_or verdicts (0 + length before) 0) 3 three

module _ (r : Run) where
  -- what a correct controller keeps: a valid chain, stamped below `end`, and a pool that is good in the slot
  pub record Fine (end slot : ℕ) (s : Node) (blocks : List Parts) : Type 0 where
    pub keeps : Keeps r.genesis r.table end s.buffer s.size blocks
    pub pooled : Pooled slot s.pool
    pub of_run : Each (OfRun r) blocks
    pub verify : Each (λ p. r.verifies p ≡ true) blocks

  pub fine_valid : (end slot : ℕ) (s : Node) (blocks : List Parts) → Fine end slot s blocks → Valid r blocks
  fine_valid end slot s blocks f = record {
    fits = f.keeps.fits;
    whole = f.keeps.whole;
    follows = f.keeps.follows;
    of_run = f.of_run;
    verify = f.verify;
  }

  -- a node keeps one list of blocks
  pub fine_one : (end slot end' slot' : ℕ) (s : Node) (xs ys : List Parts) → Fine end slot s xs → Fine end' slot' s ys → xs ≡ ys
  fine_one end slot end' slot' s xs ys f g =
      the_bytes_tell_the_blocks xs ys f.keeps.fits g.keeps.fits (sym f.keeps.are ∙ g.keeps.are)

  module _ (premises : Premises r) (i : ℕ) (is_correct : correct r i) (slot : ℕ) (in_run : InRun r slot) where
    high : slot ≤ 256
    high = omega (arith, premises.ends, in_run.1)

    -- ---- a delivered chain
    module _ (bytes verdicts : List ℕ) (among : Among (delivery bytes verdicts) (r.events i slot)) (blocks : List Parts) (is : bytes ≡ chain_bytes blocks)
        (fit : Each Fits blocks) where
      -- a verdict is 3 exactly if the block verifies
      told : (before after : List Parts) (p : Parts) → blocks ≡ before ++ p ∷ after
          → (get_or verdicts (length before) 0 ≡ 3 → r.verifies p ≡ true) × (r.verifies p ≡ true → get_or verdicts (length before) 0 ≡ 3)
      told before after p e =
          premises.verdicts i slot is_correct in_run bytes verdicts among before p (chain_bytes after) (is ∙ bytes_up_to blocks before after p e)
          (fits_up_to blocks before after p e fit)

      delivered_of_run : Each (OfRun r) blocks
      delivered_of_run = each_among (OfRun r) blocks λ p at. record {
        controller = i;
        is_correct = is_correct;
        slot = slot;
        in_run = in_run;
        chain = bytes;
        encounter = in_delivery verdicts among;
        blocks = blocks;
        rest = [];
        are = is ∙ sym (append-nil (chain_bytes blocks));
        fit = fit;
        among = at;
      }

      delivered_verify : Admits (delivered verdicts) slot 0 blocks → Each (λ p. r.verifies p ≡ true) blocks
      delivered_verify admits = each_among (λ p. r.verifies p ≡ true) blocks λ p at.
          (told at.0 at.1 p at.2).0 (verdict_3 blocks at.0 at.1 p at.2 verdicts slot admits)

      -- and a chain whose blocks verify is admitted
      pub admits_verified : (before rest : List Parts) → blocks ≡ before ++ rest → Below slot rest → Each (λ p. r.verifies p ≡ true) rest
          → Admits (delivered verdicts) slot (length before) rest
      admits_verified before [] e below verify = tt
      admits_verified before (p ∷ rest) e (low, below) (good, verify) = (
        rw (lt-ltb p.slot slot low, eq-eqb (get_or verdicts (length before) 0) 3 ((told before rest p e).1 good)),
        subst (λ (n : ℕ). Admits (delivered verdicts) slot n rest) (length-append before (p ∷ []))
            (admits_verified (before ++ (p ∷ [])) rest (e ∙ sym (append_assoc before (p ∷ []) rest)) below verify),
      )

    -- ---- one event after the other
    pub record Grown (s : Node) (blocks : List Parts) : Type 0 where
      pub more : List Parts
      pub fine : Fine slot slot s more
      pub grown : length blocks ≤ length more

    module _ (s : Node) (blocks : List Parts) (f : Fine slot slot s blocks) where
      module _ (bytes verdicts : List ℕ) (among : Among (delivery bytes verdicts) (r.events i slot)) where
        met : Met r.genesis r.table slot (after_event r.genesis slot s (delivery bytes verdicts)) blocks bytes verdicts
        met =
            met_delivery r.genesis r.table premises.reads slot in_run.0 high s blocks bytes verdicts
            ((premises.typed i is_correct).deliveries slot in_run bytes verdicts among) f.keeps

        from_fine : (now_held : List Parts) → From (opening r.genesis r.table slot) blocks bytes verdicts now_held
            → Each (OfRun r) now_held × Each (λ p. r.verifies p ≡ true) now_held
        from_fine now_held stayed = (f.of_run, f.verify)
        from_fine now_held (replaced d others is a) =
            (delivered_of_run bytes verdicts among others is a.fits, delivered_verify bytes verdicts among others is a.fits a.admits)

        delivery_fine : Grown (after_event r.genesis slot s (delivery bytes verdicts)) blocks
        delivery_fine =
            let (of_run, verify) = from_fine met.now_held met.from in
            record { more = met.now_held; fine = record { keeps = met.keeps; pooled = f.pooled; of_run = of_run; verify = verify }; grown = met.grown }

        module _ (others : List Parts) (is : bytes ≡ chain_bytes others) (c : Valid r others) (below : Below slot others) where
          -- a delivered chain that verifies is accepted
          good : (d : Summary) × Accepted (opening r.genesis r.table slot) (delivered verdicts) others d
          good =
              let admits = admits_verified bytes verdicts among others is c.fits [] others refl below c.verify in
              let (d, _, a) = blocks_that_follow_and_are_admitted_are_accepted (opening r.genesis r.table slot) (delivered verdicts) others c.whole
              c.fits c.follows admits in
              (d, a)

          -- so it is then no longer than what is held
          delivery_long : length others ≤ length delivery_fine.more
          unfolding delivery_fine
          delivery_long = met.long others good.0 is good.1

          pub delivery_answer : AdoptedOrEqualled bytes (length others) (adopts r.genesis slot s bytes verdicts)
          delivery_answer =
              good_answer r.genesis r.table premises.reads slot in_run.0 high s blocks bytes verdicts
              ((premises.typed i is_correct).deliveries slot in_run bytes verdicts among) f.keeps others good.0 is good.1

      meets_fine : (e : Event) → Among e (r.events i slot) → Grown (after_event r.genesis slot s e) blocks
      meets_fine (delivery bytes verdicts) among = delivery_fine bytes verdicts among
      meets_fine (pooling p) among = record {
        more = blocks;
        fine = record {
          keeps = f.keeps;
          pooled = pooled_then r.genesis slot s f.pooled p;
          of_run = f.of_run;
          verify = f.verify;
        };
        grown = omega arith;
      }

    pub events_fine : (before middle after : List Event) → r.events i slot ≡ before ++ (middle ++ after) → (s : Node) (blocks : List Parts)
        → Fine slot slot s blocks → Grown (fold (after_event r.genesis slot) s middle) blocks
    events_fine before [] after e s blocks f = record { more = blocks; fine = f; grown = omega arith }
    events_fine before (x ∷ middle) after e s blocks f =
        let g = meets_fine s blocks f x (before, middle ++ after, e) in
        let g' = events_fine (before ++ (x ∷ [])) middle after (e ∙ sym (append_assoc before (x ∷ []) (middle ++ after))) (after_event r.genesis slot s x)
        g.more g.fine in
        record { more = g'.more; fine = g'.fine; grown = omega (arith, g.grown, g'.grown) }

    -- a delivered chain of the run that verifies is no longer than what is held after all events
    pub delivered_is_held : (b a : List Event) (bytes verdicts : List ℕ) → r.events i slot ≡ b ++ delivery bytes verdicts ∷ a
        → (s : Node) (blocks : List Parts) → Fine slot slot s blocks
        → (others : List Parts) → bytes ≡ chain_bytes others → Valid r others → Below slot others
        → (last : List Parts) → Fine slot slot (fold (after_event r.genesis slot) s (r.events i slot)) last → length others ≤ length last
    delivered_is_held b a bytes verdicts e s blocks f others is c below last at-end =
        let x = delivery bytes verdicts in
        let step = after_event r.genesis slot in
        let g = events_fine [] b (x ∷ a) e s blocks f in
        let m = delivery_fine (fold step s b) g.more g.fine bytes verdicts (b, a, e) in
        let few = delivery_long (fold step s b) g.more g.fine bytes verdicts (b, a, e) others is c below in
        let split = e ∙ sym (append_assoc b (x ∷ []) a) ∙ ap (λ (l : List Event). (b ++ (x ∷ [])) ++ l) (sym (append-nil a)) in
        let g' = events_fine (b ++ (x ∷ [])) a [] split (step (fold step s b) x) m.more m.fine in
        let node : fold step (step (fold step s b) x) a ≡ fold step s (r.events i slot) = sym (ap (fold step s) e ∙ folded_append step s b (x ∷ a)) in
        let one = fine_one slot slot slot slot (fold step s (r.events i slot)) g'.more last
        (subst (λ (q : Node). Fine slot slot q g'.more) node g'.fine) at-end in
        omega (arith, few, g'.grown, ap length one)
