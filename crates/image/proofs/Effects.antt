-- The bytes that each step stores in a sound image make the image of the step's effect.
use Prim.Native.Nat.{ℕ, ◌<◌, ◌+◌, ◌*◌}
use mathlib.Core.Bool.{Bool, true, false, not, cond, ◌&&◌, beq}
use mathlib.Core.Path.{◌≡◌, refl, sym, ap, ◌∙◌}
use mathlib.Core.List.{List}
use lib.Dec.{eqb}
use lib.ListN.{length, set}
use borrow.Author.Tests.{eq-eqb}
use Rattle.counting.specs.Count.{bit}
use Rattle.paper.specs.Upload.{byte_at}
use Rattle.paper.specs.Table.{Table, EndsBelow, source, target}
use Rattle.paper.specs.State.{Message, none, State}
use Rattle.paper.specs.Steps.{effect, add_child, acknowledge, resolve, become_root, is_request}
use Rattle.paper.specs.Image.{image_of, image_length, direction_at, message_number, state_of}
use Rattle.paper.proofs.Images.{image_of_state}
use Rattle.image.specs.Parts.{contending_at, message_at, stopped_byte, contending_byte, root_byte, child_byte, message_byte, changed, sent_below}
use Rattle.image.specs.Taken.{SoundImage}
use Rattle.image.proofs.Stored.{direction_changed, root_stored, contending_stored, child_stored, message_stored}
use Rattle.image.proofs.Sent.{sent_none}

-- a direction byte with child and without message, or left as it is
child_alone : (here d : Bool) (m : Message) → let byte = bit d + 2 * message_number m in cond here 1 byte ≡ bit (cond here true d) + 2 * message_number (cond here none m)
child_alone true d m = refl
child_alone false d m = refl

module _ (t : Table) (ends : EndsBelow t) (image : List ℕ) (good : SoundImage t image) where
  -- the image is the image of the state that it shows
  pub image_shown : image_of t (state_of t image) ≡ image
  image_shown = image_of_state t image (eq-eqb (length image) (image_length t) good.fits) good.is_sound

  -- what is made of the image of that state is made of the image
  shown_made : (f : List ℕ → List ℕ) {l : List ℕ} → f (image_of t (state_of t image)) ≡ l → f image ≡ l
  shown_made f e = ap f (sym image_shown) ∙ e

  pub root_made : (x v : ℕ) → x < t.nodes → v ≡ root_byte (byte_at image x) → set image x v ≡ image_of t (effect t (state_of t image) (become_root x))
  unfolding effect
  root_made x v h e =
      ap (λ k. set image x k) e ∙ shown_made (changed root_byte x) (root_stored t (state_of t image) x h)

  pub child_made : (i : ℕ) (b : Bool) (d : ℕ) → i < t.links → d ≡ direction_at t i b → set image d 1 ≡ image_of t (effect t (state_of t image) (add_child i b))
  unfolding effect
  child_made i b d h e =
      ap (λ d. set image d 1) e
      ∙ shown_made (changed (λ k. 1) (direction_at t i b))
      (direction_changed (λ k. 1) t s (effect t s (add_child i b)) i b h (λ x. refl) (λ j c. child_alone (eqb j i && beq c b) (s.child j c) (s.message j c)))
    where
      s : State
      s = state_of t image

  pub acknowledged_made : (i : ℕ) (b : Bool) (d y v w : ℕ) (request : Bool) → i < t.links → d ≡ direction_at t i b → y ≡ target t i b → request ≡ is_request ((state_of t image).message i b) → v ≡ message_byte 0 (byte_at image d) → w ≡ contending_byte request (byte_at (set image d v) y) → set (set image d v) y w ≡ image_of t (effect t (state_of t image) (acknowledge i b))
  unfolding effect
  acknowledged_made i b d y v w request h at-d at_y was stores-v stores-w =
      same
      ∙ shown_made (λ l. changed (contending_byte (is_request (s.message i b))) (target t i b) (changed (message_byte 0) (direction_at t i b) l))
      (ap (changed (contending_byte (is_request (s.message i b))) (target t i b)) (message_stored t s i b none h)
      ∙ contending_stored t (message_at s i b none) (target t i b) (is_request (s.message i b)) (ends i (not b) h))
    where
      s : State
      s = state_of t image

      same : set (set image d v) y w ≡ changed (contending_byte (is_request (s.message i b))) (target t i b) (changed (message_byte 0) (direction_at t i b) image)
      same = cc

  pub resolved_made : (i : ℕ) (b : Bool) (d x y u v w : ℕ) → i < t.links → d ≡ direction_at t i b → x ≡ source t i b → y ≡ target t i b → u ≡ contending_byte false (byte_at image x) → v ≡ contending_byte false (byte_at (set image x u) y) → w ≡ child_byte (byte_at (set (set image x u) y v) d) → set (set (set image x u) y v) d w ≡ image_of t (effect t (state_of t image) (resolve i b))
  unfolding effect
  resolved_made i b d x y u v w h at-d at_x at_y stores-u stores-v stores-w =
      same
      ∙ shown_made (λ l. changed child_byte (direction_at t i b) (changed (contending_byte false) (target t i b) (changed (contending_byte false) (source t i b) l)))
      (ap (λ l. changed child_byte (direction_at t i b) (changed (contending_byte false) (target t i b) l)) (contending_stored t s (source t i b) false (ends i b h))
      ∙ ap (changed child_byte (direction_at t i b)) (contending_stored t (contending_at s (source t i b) false) (target t i b) false (ends i (not b) h))
      ∙ child_stored t (contending_at (contending_at s (source t i b) false) (target t i b) false) i b h)
    where
      s : State
      s = state_of t image

      same : set (set (set image x u) y v) d w ≡ changed child_byte (direction_at t i b) (changed (contending_byte false) (target t i b) (changed (contending_byte false) (source t i b) image))
      same = cc

  pub stopped_made : (x v : ℕ) → x < t.nodes → v ≡ stopped_byte (byte_at image x) → set image x v ≡ image_of t (sent_below t (state_of t image) x 0)
  stopped_made x v h e =
      ap (λ k. set image x k) e ∙ shown_made (changed stopped_byte x) (sent_none t (state_of t image) x h)
