-- What a list answers and leaves, case by case, and how long it can be.
use Prim.Native.Nat.{ℕ, ◌+◌, ◌*◌, ◌/◌, ◌≤◌}
use mathlib.Core.Bool.{Bool, true, false, ◌&&◌}
use mathlib.Core.Path.{◌≡◌, ap, ◌∙◌}
use mathlib.Core.List.{List, [], ◌∷◌}
use native.Mathlib.Omega.{arith}
use lib.ListN.{length}
use lib.Dec.{ltb}
use Rattle.paper.specs.Table.{table_of}
use Rattle.paper.specs.Image.{state_of, fits, sound}
use Rattle.paper.specs.Refusals.{Refusal, accepted, given, first, table_refusal, image_refusal, room_refusal}
use Rattle.paper.specs.Calls.{refused_with, reported, answered, left, over, list_of_image, list_refusal, list_answer, list_buffer}
use Rattle.cabling.specs.Accepted.{Accepted}
use Rattle.listing.proofs.ListLength.{listed_most}
use Rattle.replay.proofs.Order.{answered_table, left_table, answered_image, left_image, refusal_behind, twelve}

abbrev pub thirteen : Refusal
thirteen = record { number = 13; place = 0 }

module _ (upload image buffer : List ℕ) where
  pub list_table : ((table_refusal upload).number ≡ 0 → ⊥) → list_answer upload image buffer ≡ refused_with (table_refusal upload)
  unfolding list_answer
  list_table h =
      answered_table upload (image_refusal (table_of upload) image) accepted (room_refusal (length (list_of_image upload image)) buffer) (length (list_of_image upload image) / 3) (table_of upload) (state_of (table_of upload) image) h

  pub list_table_left : ((table_refusal upload).number ≡ 0 → ⊥) → list_buffer upload image buffer ≡ buffer
  unfolding list_buffer
  list_table_left h =
      left_table upload (image_refusal (table_of upload) image) accepted (room_refusal (length (list_of_image upload image)) buffer) _ buffer h

  pub list_image : (table_refusal upload).number ≡ 0 → (fits (table_of upload) image && sound (table_of upload) image) ≡ false → list_answer upload image buffer ≡ refused_with twelve
  unfolding list_answer
  list_image h g =
      answered_image upload (fits (table_of upload) image && sound (table_of upload) image) accepted (room_refusal (length (list_of_image upload image)) buffer) (length (list_of_image upload image) / 3) (table_of upload) (state_of (table_of upload) image) h g

  pub list_image_left : (table_refusal upload).number ≡ 0 → (fits (table_of upload) image && sound (table_of upload) image) ≡ false → list_buffer upload image buffer ≡ buffer
  unfolding list_buffer
  list_image_left h g =
      left_image upload (fits (table_of upload) image && sound (table_of upload) image) accepted (room_refusal (length (list_of_image upload image)) buffer) _ buffer h g

  -- on an accepted table and a sound image: 13, or none
  module _ (h : (table_refusal upload).number ≡ 0) (g : (fits (table_of upload) image && sound (table_of upload) image) ≡ true) where
    tried : (b : Bool) → ltb (length buffer) (length (list_of_image upload image)) ≡ b → list_refusal upload image buffer ≡ given b 13 0
    tried b q =
        refusal_behind upload (fits (table_of upload) image && sound (table_of upload) image) accepted (room_refusal (length (list_of_image upload image)) buffer) h g
        ∙ go b q
      where
        go : (b : Bool) → ltb (length buffer) (length (list_of_image upload image)) ≡ b → first (room_refusal (length (list_of_image upload image)) buffer ∷ []) ≡ given b 13 0
        go true q = rw q
        go false q = rw q

    module _ (lacks : ltb (length buffer) (length (list_of_image upload image)) ≡ true) where
      pub list_room : list_answer upload image buffer ≡ refused_with thirteen
      unfolding list_answer
      list_room =
          ap (λ (r : Refusal). answered r (length (list_of_image upload image) / 3) (table_of upload) (state_of (table_of upload) image)) (tried true lacks)

      pub list_room_left : list_buffer upload image buffer ≡ buffer
      unfolding list_buffer
      list_room_left = ap (λ (r : Refusal). left r (over (list_of_image upload image) buffer) buffer) (tried true lacks)

    module _ (room : ltb (length buffer) (length (list_of_image upload image)) ≡ false) where
      pub list_done : (count : ℕ) → length (list_of_image upload image) ≡ 3 * count → list_answer upload image buffer ≡ reported accepted count (table_of upload) (state_of (table_of upload) image)
      unfolding list_answer
      list_done count e =
          let third : length (list_of_image upload image) / 3 ≡ count = omega arith in
          ap (λ (r : Refusal). answered r (length (list_of_image upload image) / 3) (table_of upload) (state_of (table_of upload) image)) (tried false room)
          ∙ ap (λ (k : ℕ). reported accepted k (table_of upload) (state_of (table_of upload) image)) third

      pub list_done_left : list_buffer upload image buffer ≡ over (list_of_image upload image) buffer
      unfolding list_buffer
      list_done_left = ap (λ (r : Refusal). left r (over (list_of_image upload image) buffer) buffer) (tried false room)

-- a list of an accepted table has at most 6 bytes for a node and 12 for a link
pub list_most : (upload image : List ℕ) → Accepted upload → length (list_of_image upload image) ≤ 6 * (table_of upload).nodes + 12 * (table_of upload).links
list_most upload image known = listed_most (table_of upload) (state_of (table_of upload) image) known.nodes_fit
