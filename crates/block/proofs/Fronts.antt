-- A front, written piece by piece: its room is room for each piece behind those that were written.
-- Assumes nothing.
use mathlib.Core.Path.{◌≡◌, refl, sym}
use mathlib.Core.List.{List, ◌++◌}
use Prim.Native.Nat.{ℕ}
use Rattle.laws.specs.Placed.{Room, Wrote}
use Rattle.laws.proofs.Placed.{room_same, room_first, room_then, wrote_same, wrote_then}
use Rattle.number.specs.Number.{written}
use Rattle.block.specs.Block.{orders_bytes, front_bytes}
use Rattle.block.specs.Answers.{unlisted}
use Rattle.block.specs.Blocks.{front_of}
use Rattle.block.specs.declared.Front.{Front}

module _ (f : Front) where
  abbrev orders : List ℕ
  orders = orders_bytes (unlisted f.orders)

  abbrev stamp : List ℕ
  stamp = written f.slot.0

  pieces : front_of f ≡ f.link ++ (orders ++ (stamp ++ f.slot_signature))
  unfolding front_bytes
  pieces = refl

  module _ {out : List ℕ} {at : ℕ} (room : Room out at (front_of f)) where
    whole : Room out at (f.link ++ (orders ++ (stamp ++ f.slot_signature)))
    whole = room_same pieces room

    pub room_for_link : Room out at f.link
    room_for_link = room_first f.link (orders ++ (stamp ++ f.slot_signature)) whole

    module _ {at₁ : ℕ} {out₁ : List ℕ} (link : Wrote out at f.link at₁ out₁) where
      behind_link : Room out₁ at₁ (orders ++ (stamp ++ f.slot_signature))
      behind_link = room_then f.link (orders ++ (stamp ++ f.slot_signature)) link whole

      pub room_for_orders : Room out₁ at₁ orders
      room_for_orders = room_first orders (stamp ++ f.slot_signature) behind_link

      module _ {at₂ : ℕ} {out₂ : List ℕ} (listed : Wrote out₁ at₁ orders at₂ out₂) where
        behind_orders : Room out₂ at₂ (stamp ++ f.slot_signature)
        behind_orders = room_then orders (stamp ++ f.slot_signature) listed behind_link

        pub room_for_stamp : Room out₂ at₂ stamp
        room_for_stamp = room_first stamp f.slot_signature behind_orders

        module _ {at₃ : ℕ} {out₃ : List ℕ} (stamped : Wrote out₂ at₂ stamp at₃ out₃) where
          pub room_for_signature : Room out₃ at₃ f.slot_signature
          room_for_signature = room_then stamp f.slot_signature stamped behind_orders

          pub front_wrote : {next : ℕ} {later : List ℕ} → Wrote out₃ at₃ f.slot_signature next later → Wrote out at (front_of f) next later
          front_wrote signed =
              wrote_same (sym pieces)
              (wrote_then f.link (orders ++ (stamp ++ f.slot_signature)) link
              (wrote_then orders (stamp ++ f.slot_signature) listed (wrote_then stamp f.slot_signature stamped signed)))
